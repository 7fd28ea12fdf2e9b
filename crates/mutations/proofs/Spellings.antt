-- The two laws of reading: what is read is spelled so, and what is spelled so is read.
use Rattle.std.proofs.Common.{◌≡◌, ℕ, zero, suc, ◌+◌, ◌-◌, ◌^◌, ◌<◌, ◌≤◌, Bool, true, false, cond, eqb, ltb, List, [], ◌∷◌, ◌++◌, length, take, drop, Option, Some, None, Result, Ok, Err, inr, refl, sym, ap, subst, ◌∙◌, append_assoc, arith, length-append}
use Rattle.std.specs.Prelude.{IfOk}
use Rattle.std.specs.List.{AllByRecursion}
use Rattle.std.proofs.lemmas.Bool.{eqb-true, eq-eqb, ltb-false, le-ltb}
use Rattle.std.proofs.lemmas.List.{take_at, drop_at, take-append-drop, length-take, length-drop, drop-drop}
use Rattle.fb_bytes.specs.Bytes.{Bytes, IsBytes, is_below}
use Rattle.atomic_ops.specs.declared.Op.{Op}
use Rattle.atomic_ops.specs.Codes.{code_of, op_of_code}
use Rattle.atomic_ops.proofs.CodeLemmas.{code_is_in_table, code_gives_op, op_has_code}
use Rattle.mutations.specs.declared.mutation.Mutation.{Mutation}
use Rattle.mutations.specs.declared.mutation.Mutation.TheVariants.{Set, ClearRange, Atomic}
use Rattle.mutations.specs.declared.wire_fault.WireFault.{WireFault}
use Rattle.mutations.specs.declared.wire_fault.WireFault.TheVariants.{Short, Protocol, Length, Code, Backwards}
use Rattle.mutations.specs.Spelling.{u32_bytes, u64_bytes, mutation_code, first_string, second_string, parts_spelling, mutation_spelling, mutations_spelling, protocol, framed, batch_spelling, IsForward, HasSpelling}
use Rattle.mutations.specs.Parts.{u32_of, u64_of, parts_of}
use Rattle.mutations.specs.Reading.{◌>>=◌, found_or, atomic_at, mutation_of, mutation_at, mutations_at, header_fault, unless_fault, decoded, Gives}
use Rattle.mutations.specs.Laws.{OneSpellingLaw, FirstFaultLaw}
use Rattle.fb_bytes.proofs.Results.{bind_ok}
use Rattle.mutations.proofs.Lengths.{length-u32_bytes, length-u64_bytes, length-mutation}
use Rattle.mutations.proofs.Loop.{first_of_rest}
use Rattle.mutations.proofs.Fields.{Takes, parts_take, parts_again, u32_back, u64_back, u32_again, u64_again, u32_below, IsBytes-take, IsBytes-drop}

abbrev done : {A : Type 0} → A → Result A WireFault
done x = Ok x

ok_is : {A : Type 0} (x y : A) → done x ≡ done y → x ≡ y
ok_is x y e = cc

there : {A : Type 0} (fault : WireFault) (o : Option A) (x : A) → found_or fault o ≡ Ok x → o ≡ Some x
there fault None x e = absurd cc
there fault (Some y) x e = ap (λ z. Some z) (ok_is y x e)

-- ---- operations and their codes

code_range : (op : Op) → (1 < code_of op) × (code_of op < 2 ^ 32)
code_range op = let t = code_is_in_table op in (omega (arith, t.0), omega (arith, t.1))

-- ---- one mutation

-- what a code and two strings are read as
record IsRead (code : ℕ) (first second : Bytes) (m : Mutation) : Type 0 where
  code_is : mutation_code m ≡ code
  first_is : first_string m ≡ first
  second_is : second_string m ≡ second
  forward : IsForward m

guard_ok : (b : Bool) (fault : WireFault) (x y : Mutation) → cond b (Ok x) (Err fault) ≡ Ok y → (b ≡ true) × (x ≡ y)
guard_ok true fault x y e = (refl, cc)
guard_ok false fault x y e = absurd cc

mutation_of_takes : (at code : ℕ) (first second : Bytes) (m : Mutation) → mutation_of at code first second ≡ Ok m → IsRead code first second m
unfolding mutation_of
mutation_of_takes at zero first second m e = subst (IsRead 0 first second) (ok_is (Set first second) m e) (record { code_is = refl; first_is = refl; second_is = refl; forward = tt })
mutation_of_takes at (suc zero) first second m e =
    let g = guard_ok (is_below first second) (Backwards at) (ClearRange first second) m e in
    subst (IsRead 1 first second) g.1 (record { code_is = refl; first_is = refl; second_is = refl; forward = g.0 })
mutation_of_takes at (suc (suc n)) first second m e =
    let a = bind_ok (found_or (Code at (suc (suc n))) (op_of_code (suc (suc n)))) (λ op. Ok (Atomic op first second)) m e in
    let known = there (Code at (suc (suc n))) (op_of_code (suc (suc n))) a.0 a.1 in
    subst (IsRead (suc (suc n)) first second) (ok_is (Atomic a.0 first second) m a.2) (record { code_is = op_has_code (suc (suc n)) a.0 known; first_is = refl; second_is = refl; forward = tt })

mutation_of_atomic : (at code : ℕ) (first second : Bytes) → 1 < code → mutation_of at code first second ≡ atomic_at at code first second
unfolding mutation_of
mutation_of_atomic at zero first second h = absurd (omega arith)
mutation_of_atomic at (suc zero) first second h = absurd (omega arith)
mutation_of_atomic at (suc (suc n)) first second h = refl

mutation_of_again : (at : ℕ) (m : Mutation) → IsForward m → mutation_of at (mutation_code m) (first_string m) (second_string m) ≡ Ok m
unfolding mutation_of
mutation_of_again at (Set key value) h = refl
mutation_of_again at (ClearRange begin end) h = rw h refl
mutation_of_again at (Atomic op key param) h = mutation_of_atomic at (code_of op) key param (code_range op).0 ∙ rw (code_gives_op op) refl

spelled_as : (m : Mutation) (code : ℕ) (first second : Bytes) → IsRead code first second m → parts_spelling code first second ≡ mutation_spelling m
spelled_as m code first second r = λ i. parts_spelling (sym r.code_is i) (sym r.first_is i) (sym r.second_is i)

mutation_takes : (at : ℕ) (bytes : Bytes) (x : Mutation × Bytes) → IsBytes bytes → mutation_at at bytes ≡ Ok x → Takes bytes (mutation_spelling x.0) x.1 × IsForward x.0
unfolding mutation_at
mutation_takes at bytes x fits e =
    let a = bind_ok (found_or (Short at) (parts_of bytes)) (λ parts. mutation_of at parts.code parts.first parts.second >>= λ mutation. Ok (mutation, parts.rest)) x e in
    let b = bind_ok (mutation_of at a.0.code a.0.first a.0.second) (λ mutation. Ok (mutation, a.0.rest)) x a.2 in
    let t = parts_take bytes a.0 fits (there (Short at) (parts_of bytes) a.0 a.1) in
    let r = mutation_of_takes at a.0.code a.0.first a.0.second b.0 b.1 in
    let spelled : Takes bytes (mutation_spelling b.0) a.0.rest = subst (λ (text : Bytes). Takes bytes text a.0.rest) (spelled_as b.0 a.0.code a.0.first a.0.second r) t in
    subst (λ (y : Mutation × Bytes). Takes bytes (mutation_spelling y.0) y.1 × IsForward y.0) (ok_is (b.0, a.0.rest) x b.2) (spelled, r.forward)

code_fits : (m : Mutation) → mutation_code m < 2 ^ 32
code_fits (Set key value) = omega arith
code_fits (ClearRange begin end) = omega arith
code_fits (Atomic op key param) = (code_range op).1

mutation_again : (at : ℕ) (m : Mutation) (rest : Bytes) → IsForward m → length (mutation_spelling m) < 2 ^ 32 → mutation_at at (mutation_spelling m ++ rest) ≡ Ok (m, rest)
unfolding mutation_at
mutation_again at m rest forward few =
    let len = length-mutation m in
    rw (parts_again (mutation_code m) (first_string m) (second_string m) rest (code_fits m) (omega arith) (omega arith), mutation_of_again at m forward) refl

-- ---- the mutations of a batch

mutations_take : (most total : ℕ) (bytes : Bytes) (ms : List Mutation) → IsBytes bytes → length bytes ≤ most → mutations_at most total bytes ≡ Ok ms → (bytes ≡ mutations_spelling ms) × AllByRecursion IsForward ms
unfolding mutations_at
mutations_take zero total [] ms fits le e = subst (λ (xs : List Mutation). ([] ≡ mutations_spelling xs) × AllByRecursion IsForward xs) (ok_is [] ms e) (refl, tt)
mutations_take zero total (b ∷ bs) ms fits le e = absurd (omega arith)
mutations_take (suc most) total [] ms fits le e = subst (λ (xs : List Mutation). ([] ≡ mutations_spelling xs) × AllByRecursion IsForward xs) (ok_is [] ms e) (refl, tt)
mutations_take (suc most) total (b ∷ bs) ms fits le e =
    let bytes = b ∷ bs in
    let f = bind_ok (mutation_at (total - length bytes) bytes) (λ first. mutations_at most total first.1 >>= λ others. Ok (first.0 ∷ others)) ms e in
    let o = bind_ok (mutations_at most total f.0.1) (λ others. Ok (f.0.0 ∷ others)) ms f.2 in
    let t = mutation_takes (total - length bytes) bytes f.0 fits f.1 in
    let shorter : length f.0.1 ≤ most = omega (arith, ap length t.0.parts, length-append (mutation_spelling f.0.0) f.0.1, length-mutation f.0.0) in
    let rest = mutations_take most total f.0.1 o.0 t.0.rest_fits shorter o.1 in
    let whole : bytes ≡ mutations_spelling (f.0.0 ∷ o.0) = t.0.parts ∙ ap (λ (text : Bytes). mutation_spelling f.0.0 ++ text) rest.0 in
    subst (λ (xs : List Mutation). (bytes ≡ mutations_spelling xs) × AllByRecursion IsForward xs) (ok_is (f.0.0 ∷ o.0) ms o.2) (whole, (t.1, rest.1))

mutations_again : (most total : ℕ) (ms : List Mutation) → length (mutations_spelling ms) ≤ most → length (mutations_spelling ms) < 2 ^ 32 → AllByRecursion IsForward ms → mutations_at most total (mutations_spelling ms) ≡ Ok ms
unfolding mutations_at
mutations_again zero total [] le few forward = refl
mutations_again (suc most) total [] le few forward = refl
mutations_again zero total (m ∷ ms) le few forward = absurd (omega (arith, length-append (mutation_spelling m) (mutations_spelling ms), length-mutation m))
mutations_again (suc most) total (m ∷ ms) le few forward =
    let len = length-append (mutation_spelling m) (mutations_spelling ms) in
    let one = length-mutation m in
    let some : 0 < length (mutation_spelling m ++ mutations_spelling ms) = omega arith in
    first_of_rest most total (mutation_spelling m ++ mutations_spelling ms) some le
    ∙ rw (mutation_again (total - length (mutation_spelling m ++ mutations_spelling ms)) m (mutations_spelling ms) forward.0 (omega arith), mutations_again most total ms (omega arith) (omega arith) forward.1) refl

-- ---- a batch

-- what a header without a fault is
record IsHeader (bytes : Bytes) : Type 0 where
  long : 12 ≤ length bytes
  begins : u64_of (take 8 bytes) ≡ protocol
  said : u32_of (take 4 (drop 8 bytes)) ≡ length bytes - 12

header_is : (bytes : Bytes) → header_fault bytes ≡ None → IsHeader bytes
header_is bytes e = go (ltb (length bytes) 12) (eqb (u64_of (take 8 bytes)) protocol) (eqb (u32_of (take 4 (drop 8 bytes))) (length bytes - 12)) refl refl refl e
  where
    go : (short begins said : Bool) → ltb (length bytes) 12 ≡ short → eqb (u64_of (take 8 bytes)) protocol ≡ begins → eqb (u32_of (take 4 (drop 8 bytes))) (length bytes - 12) ≡ said → cond short (Some (Short 0)) (cond begins (cond said None (Some (Length (u32_of (take 4 (drop 8 bytes))) (length bytes - 12)))) (Some (Protocol (u64_of (take 8 bytes))))) ≡ None → IsHeader bytes
    go true begins said p q r f = absurd cc
    go false false said p q r f = absurd cc
    go false true false p q r f = absurd cc
    go false true true p q r f = record { long = ltb-false _ _ p; begins = eqb-true _ _ q; said = eqb-true _ _ r }

header_ok : (bytes : Bytes) → IsHeader bytes → header_fault bytes ≡ None
header_ok bytes h = rw (le-ltb (length bytes) 12 h.long, eq-eqb _ _ h.begins, eq-eqb _ _ h.said) refl

unless_ok : {A : Type 0} (o : Option WireFault) (r : Result A WireFault) (x : A) → unless_fault o r ≡ Ok x → (o ≡ None) × (r ≡ Ok x)
unless_ok None r x e = (refl, e)
unless_ok (Some fault) r x e = absurd cc

-- the header of a batch, and the mutations
in_two : (bytes : Bytes) → IsBytes bytes → IsHeader bytes → bytes ≡ u64_bytes protocol ++ u32_bytes (length bytes - 12) ++ drop 12 bytes
in_two bytes fits h =
    let first : u64_bytes protocol ≡ take 8 bytes = ap u64_bytes (sym h.begins) ∙ u64_back (take 8 bytes) (omega (arith, h.long, length-take 8 bytes)) (IsBytes-take 8 bytes fits) in
    let second : u32_bytes (length bytes - 12) ≡ take 4 (drop 8 bytes) = ap u32_bytes (sym h.said) ∙ u32_back (take 4 (drop 8 bytes)) (omega (arith, h.long, length-take 4 (drop 8 bytes), length-drop 8 bytes)) (IsBytes-take 4 (drop 8 bytes) (IsBytes-drop 8 bytes fits)) in
    let third : drop 4 (drop 8 bytes) ≡ drop 12 bytes = drop-drop 4 8 bytes in
    sym (take-append-drop 8 bytes)
    ∙ ap (λ (rest : Bytes). take 8 bytes ++ rest) (sym (take-append-drop 4 (drop 8 bytes)))
    ∙ sym (append_assoc (take 8 bytes) (take 4 (drop 8 bytes)) (drop 4 (drop 8 bytes)))
    ∙ (λ i. (sym first i ++ sym second i) ++ third i)

pub decoded_takes : (bytes : Bytes) (ms : List Mutation) → IsBytes bytes → decoded bytes ≡ Ok ms → HasSpelling ms × (bytes ≡ batch_spelling ms)
decoded_takes bytes ms fits e =
    let u = unless_ok (header_fault bytes) (mutations_at (length bytes) (length bytes) (drop 12 bytes)) ms e in
    let h = header_is bytes u.0 in
    let t = mutations_take (length bytes) (length bytes) (drop 12 bytes) ms (IsBytes-drop 12 bytes fits) (omega (arith, length-drop 12 bytes)) u.1 in
    let len : length (mutations_spelling ms) ≡ length bytes - 12 = ap length (sym t.0) ∙ length-drop 12 bytes in
    let below = u32_below (take 4 (drop 8 bytes)) (IsBytes-take 4 (drop 8 bytes) (IsBytes-drop 8 bytes fits)) in
    let few : length (mutations_spelling ms) < 2 ^ 32 = omega (arith, h.said) in
    let whole : bytes ≡ batch_spelling ms = in_two bytes fits h ∙ (λ i. u64_bytes protocol ++ u32_bytes (sym len i) ++ t.0 i) in
    (record { few = few; forward = t.1 }, whole)

-- what stands before mutation bytes has no fault
framed_header : (body : Bytes) → length body < 2 ^ 32 → IsHeader (framed body) × (drop 12 (framed body) ≡ body) × (length (framed body) ≡ 12 + length body)
framed_header body few =
    let first = u64_bytes protocol in
    let second = u32_bytes (length body) in
    let a : length first ≡ 8 = length-u64_bytes protocol in
    let b : length second ≡ 4 = length-u32_bytes (length body) in
    let both : length (first ++ second) ≡ 12 = omega (arith, length-append first second) in
    let len : length (framed body) ≡ 12 + length body = length-append (first ++ second) body ∙ ap (λ n. n + length body) both in
    let grouped : framed body ≡ first ++ (second ++ body) = append_assoc first second body in
    let front : take 8 (framed body) ≡ first = ap (take 8) grouped ∙ take_at first (second ++ body) 8 a in
    let back : drop 8 (framed body) ≡ second ++ body = ap (drop 8) grouped ∙ drop_at first (second ++ body) 8 a in
    let middle : take 4 (drop 8 (framed body)) ≡ second = ap (take 4) back ∙ take_at second body 4 b in
    let rest : drop 12 (framed body) ≡ body = drop_at (first ++ second) body 12 both in
    let minus : length body ≡ length (framed body) - 12 = omega (arith, len) in
    let header : IsHeader (framed body) = record {
      long = omega (arith, len);
      begins = ap u64_of front ∙ u64_again protocol (omega arith);
      said = ap u32_of middle ∙ u32_again (length body) few ∙ minus;
    } in
    (header, rest, len)

framed_is : (body : Bytes) → length body < 2 ^ 32 → decoded (framed body) ≡ mutations_at (12 + length body) (12 + length body) body
framed_is body few =
    let f = framed_header body few in
    ap (λ fault. unless_fault fault (mutations_at (length (framed body)) (length (framed body)) (drop 12 (framed body)))) (header_ok (framed body) f.0)
    ∙ (λ i. mutations_at (f.2 i) (f.2 i) (f.1 i))

pub decoded_again : (ms : List Mutation) → HasSpelling ms → decoded (batch_spelling ms) ≡ Ok ms
decoded_again ms h = framed_is (mutations_spelling ms) h.few ∙ mutations_again (12 + length (mutations_spelling ms)) (12 + length (mutations_spelling ms)) ms (omega arith) h.few h.forward

-- the first fault, after mutations that are spelled well
faulty : (most total : ℕ) (ms : List Mutation) (rest : Bytes) (fault : WireFault) → AllByRecursion IsForward ms → 0 < length rest → length (mutations_spelling ms ++ rest) ≤ most → length (mutations_spelling ms ++ rest) < 2 ^ 32 → mutation_at (total - length rest) rest ≡ Err fault → mutations_at most total (mutations_spelling ms ++ rest) ≡ Err fault
faulty zero total [] rest fault forward some le few e = absurd (omega arith)
faulty (suc most) total [] rest fault forward some le few e = first_of_rest most total rest some le ∙ rw e refl
faulty zero total (m ∷ ms) rest fault forward some le few e = absurd (omega (arith, length-append (mutations_spelling (m ∷ ms)) rest))
faulty (suc most) total (m ∷ ms) rest fault forward some le few e =
    let grouped : mutations_spelling (m ∷ ms) ++ rest ≡ mutation_spelling m ++ (mutations_spelling ms ++ rest) = append_assoc (mutation_spelling m) (mutations_spelling ms) rest in
    let len = ap length grouped ∙ length-append (mutation_spelling m) (mutations_spelling ms ++ rest) in
    let one = length-mutation m in
    let there_is : 0 < length (mutation_spelling m ++ (mutations_spelling ms ++ rest)) = omega (arith, length-append (mutation_spelling m) (mutations_spelling ms ++ rest)) in
    let fits : length (mutation_spelling m ++ (mutations_spelling ms ++ rest)) ≤ suc most = omega (arith, length-append (mutation_spelling m) (mutations_spelling ms ++ rest)) in
    ap (mutations_at (suc most) total) grouped
    ∙ first_of_rest most total (mutation_spelling m ++ (mutations_spelling ms ++ rest)) there_is fits
    ∙ rw (mutation_again (total - length (mutation_spelling m ++ (mutations_spelling ms ++ rest))) m (mutations_spelling ms ++ rest) forward.0 (omega arith), faulty most total ms rest fault forward.1 some (omega arith) (omega arith) e) refl

pub first_fault : FirstFaultLaw
first_fault muts rest fault forward some few e =
    let body = mutations_spelling muts ++ rest in
    let before : 12 + length body - length rest ≡ 12 + length (mutations_spelling muts) = omega (arith, length-append (mutations_spelling muts) rest) in
    framed_is body few
    ∙ faulty (12 + length body) (12 + length body) muts rest fault forward some (omega arith) few (ap (λ at. mutation_at at rest) before ∙ e)

pub one_spelling : OneSpellingLaw
one_spelling first second h g e = ok_is first second (sym (decoded_again first h) ∙ ap decoded e ∙ decoded_again second g)

-- ---- what a call answers

pub is_found : (bytes : Bytes) (answer : Result (List Mutation) WireFault) → IsBytes bytes → Gives (λ x. x) answer (decoded bytes) → IfOk answer (λ muts. HasSpelling muts × (bytes ≡ batch_spelling muts))
is_found bytes (Ok muts) fits given = decoded_takes bytes muts fits given
is_found bytes (Err e) fits given = tt

pub spelled_is_read : (bytes : Bytes) (answer : Result (List Mutation) WireFault) → Gives (λ x. x) answer (decoded bytes) → (muts : List Mutation) → HasSpelling muts → bytes ≡ batch_spelling muts → Gives (λ x. x) answer (Ok muts)
spelled_is_read bytes answer given muts h e = subst (Gives (λ x. x) answer) (ap decoded e ∙ decoded_again muts h) given

pub header_decides : (bytes : Bytes) (fault : WireFault) → header_fault bytes ≡ Some fault → decoded bytes ≡ Err fault
header_decides bytes fault h = rw h refl

-- where the header has a fault nothing is spelled
pub none_spelled : (bytes : Bytes) (fault : WireFault) → header_fault bytes ≡ Some fault → (muts : List Mutation) → HasSpelling muts → bytes ≡ batch_spelling muts → Gives (λ (x : List Mutation). x) (Err fault) (Ok muts)
none_spelled bytes fault h muts g e = spelled_is_read bytes (Err fault) (inr (header_decides bytes fault h)) muts g e

-- where the header has none, what the mutations are read as is what the bytes are read as
pub body_decides : (bytes body : Bytes) (answer : Result (List Mutation) WireFault) → header_fault bytes ≡ None → body ≡ drop 12 bytes → Gives (λ x. x) answer (mutations_at (length bytes) (length bytes) body) → Gives (λ x. x) answer (decoded bytes)
body_decides bytes body answer h e given =
    let same : mutations_at (length bytes) (length bytes) body ≡ decoded bytes = ap (mutations_at (length bytes) (length bytes)) e ∙ ap (λ fault. unless_fault fault (mutations_at (length bytes) (length bytes) (drop 12 bytes))) (sym h) in
    subst (Gives (λ x. x) answer) same given
