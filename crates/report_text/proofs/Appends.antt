-- Texts that are put behind each other.
use Rattle.std.proofs.Common.{◌≡◌, ◌∙◌, ◌++◌, ap, append_assoc}
use Rattle.fb_bytes.specs.Bytes.{Bytes}

pub two : (o a b o1 o2 : Bytes) → o1 ≡ o ++ a → o2 ≡ o1 ++ b → o2 ≡ o ++ (a ++ b)
two o a b o1 o2 p q = q ∙ ap (λ (x : Bytes). x ++ b) p ∙ append_assoc o a b

pub three : (o a b c o1 o2 o3 : Bytes) → o1 ≡ o ++ a → o2 ≡ o1 ++ b → o3 ≡ o2 ++ c → o3 ≡ o ++ (a ++ (b ++ c))
three o a b c o1 o2 o3 p q r = two o a (b ++ c) o1 o3 p (two o1 b c o2 o3 q r)

pub five : (o a b c d e o1 o2 o3 o4 o5 : Bytes) → o1 ≡ o ++ a → o2 ≡ o1 ++ b → o3 ≡ o2 ++ c → o4 ≡ o3 ++ d → o5 ≡ o4 ++ e → o5 ≡ o ++ (a ++ (b ++ (c ++ (d ++ e))))
five o a b c d e o1 o2 o3 o4 o5 p q r s t = three o a b (c ++ (d ++ e)) o1 o2 o5 p q (three o2 c d e o3 o4 o5 r s t)
