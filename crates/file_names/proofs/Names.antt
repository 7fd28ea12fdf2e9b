-- Each name that is read is spelled so, and each spelling is read again.
use Rattle.std.proofs.Common.{◌≡◌, ℕ, ◌/◌, ◌<◌, Bool, true, false, cond, ◌&&◌, eqb, ltb, leb, List, [], ◌∷◌, ◌++◌, length, Option, Some, None, refl, sym, ap, subst, ◌∙◌, arith}
use Rattle.std.specs.Prelude.{decimal}
use Rattle.std.specs.Char.{is_ascii_digit}
use Rattle.std.proofs.lemmas.Bool.{and_parts, and_from, eqb-true, eq-eqb, cond-true}
use Rattle.std.proofs.lemmas.List.{nil_from_length}
use Rattle.fb_bytes.specs.Bytes.{Bytes, is_same}
use Rattle.fb_bytes.specs.Blocks.{is_block}
use Rattle.fb_bytes.specs.Options.{◌>>=◌}
use Rattle.fb_bytes.proofs.Options.{bind_some}
use Rattle.fb_bytes.proofs.Order.{same_eq}
use Rattle.file_names.specs.declared.name.Name.{Name}
use Rattle.file_names.specs.declared.name.Name.TheVariants.{Range, Log, Manifest, Unreliable, Expired, Other}
use Rattle.file_names.specs.Spelling.{is_number, are_numbers, spelled, range_texts, log_texts, manifest_texts, unreliable_text, expired_text, range_numbers, log_numbers, manifest_numbers, spelling, is_other, OneName}
use Rattle.file_names.specs.Reading.{after, number_after, numbers_in, range_from, log_from, manifest_from, range_of, log_of, manifest_of, property_of, first_of, or_other, name_of}
use Rattle.file_names.specs.Laws.{SpelledName}
use Rattle.file_names.proofs.Numbers.{cond_some, StartsOther, number_after_found, number_after_again}

-- ---- numbers behind texts

pub numbers_found : (texts : List Bytes) (bytes : Bytes) (ns : List ℕ) → numbers_in texts bytes ≡ Some ns → (bytes ≡ spelled texts ns) × (are_numbers ns ≡ true)
numbers_found [] bytes ns e =
    let g = cond_some (eqb (length bytes) 0) [] ns e in
    let none : bytes ≡ [] = nil_from_length bytes (eqb-true _ _ g.0) in
    subst (λ (ms : List ℕ). (bytes ≡ spelled [] ms) × (are_numbers ms ≡ true)) g.1 (none, refl)
numbers_found (text ∷ texts) bytes ns e =
    let a = bind_some (number_after text bytes) (λ n. numbers_in texts n.1 >>= λ ms. Some (n.0 ∷ ms)) ns e in
    let b = bind_some (numbers_in texts a.0.1) (λ ms. Some (a.0.0 ∷ ms)) ns a.2 in
    let first = number_after_found text bytes a.0 a.1 in
    let others = numbers_found texts a.0.1 b.0 b.1 in
    let is : a.0.0 ∷ b.0 ≡ ns = cc in
    subst (λ (ms : List ℕ). (bytes ≡ spelled (text ∷ texts) ms) × (are_numbers ms ≡ true)) is (first.0 ∙ ap (λ (r : Bytes). text ++ (decimal a.0.0 ++ r)) others.0, and_from (is_number a.0.0) (are_numbers b.0) first.1 others.1)

-- each text begins with something else than a digit
abbrev BeginsOther : Bytes → Type 0
BeginsOther [] = ⊥
BeginsOther (c ∷ cs) = is_ascii_digit c ≡ false

abbrev BeginOther : List Bytes → Type 0
BeginOther [] = Unit {0}
BeginOther (text ∷ texts) = BeginsOther text × BeginOther texts

starts_other : (text rest : Bytes) → BeginsOther text → StartsOther (text ++ rest)
starts_other [] rest h = absurd h
starts_other (c ∷ cs) rest h = h

spelled_other : (texts : List Bytes) (ns : List ℕ) → BeginOther texts → StartsOther (spelled texts ns)
spelled_other [] ns h = tt
spelled_other (text ∷ texts) [] h = tt
spelled_other (text ∷ texts) (n ∷ ns) h = starts_other text (decimal n ++ spelled texts ns) h.0

pub numbers_again : (texts : List Bytes) (ns : List ℕ) → length texts ≡ length ns → are_numbers ns ≡ true → BeginOther texts → numbers_in texts (spelled texts ns) ≡ Some ns
numbers_again [] [] len small other = refl
numbers_again [] (n ∷ ns) len small other = absurd cc
numbers_again (text ∷ texts) [] len small other = absurd cc
numbers_again (text ∷ texts) (n ∷ ns) len small other =
    let p = and_parts (is_number n) (are_numbers ns) small in
    let rest = spelled texts ns in
    ap (λ (o : Option (ℕ × Bytes)). o >>= λ m. numbers_in texts m.1 >>= λ ms. Some (m.0 ∷ ms)) (number_after_again text n rest p.0 (spelled_other texts ns other.1))
    ∙ ap (λ (o : Option (List ℕ)). o >>= λ ms. Some (n ∷ ms)) (numbers_again texts ns (omega arith) p.1 other.1)

-- ---- range names

range_from_found : (ns : List ℕ) (name : Name) (text : Bytes) → text ≡ spelled range_texts ns → are_numbers ns ≡ true → range_from ns ≡ Some name → spelling name ≡ Some text
range_from_found [] name text t small e = absurd cc
range_from_found (a ∷ []) name text t small e = absurd cc
range_from_found (a ∷ b ∷ []) name text t small e = absurd cc
range_from_found (a ∷ b ∷ c ∷ []) name text t small e = absurd cc
range_from_found (a ∷ b ∷ c ∷ d ∷ []) name text t small e = absurd cc
range_from_found (snapshot ∷ group ∷ version ∷ ticket ∷ block ∷ []) name text t small e =
    let g = cond_some (eqb group (ticket / 1000) && is_block block) (Range snapshot version ticket block) name e in
    let p = and_parts (eqb group (ticket / 1000)) (is_block block) g.0 in
    let same : group ≡ ticket / 1000 = eqb-true _ _ p.0 in
    let small' : are_numbers (range_numbers snapshot version ticket block) ≡ true = subst (λ (k : ℕ). are_numbers (snapshot ∷ k ∷ version ∷ ticket ∷ block ∷ []) ≡ true) same small in
    let text' : text ≡ spelled range_texts (range_numbers snapshot version ticket block) = subst (λ (k : ℕ). text ≡ spelled range_texts (snapshot ∷ k ∷ version ∷ ticket ∷ block ∷ [])) same t in
    ap spelling (sym g.1) ∙ cond-true _ (Some (spelled range_texts (range_numbers snapshot version ticket block))) None (and_from (are_numbers (range_numbers snapshot version ticket block)) (is_block block) small' p.1) ∙ ap (λ (x : Bytes). Some x) (sym text')
range_from_found (a ∷ b ∷ c ∷ d ∷ f ∷ g ∷ ns) name text t small e = absurd cc

pub range_found : (text : Bytes) (name : Name) → range_of text ≡ Some name → spelling name ≡ Some text
unfolding range_of
range_found text name e =
    let a = bind_some (numbers_in range_texts text) range_from name e in
    let f = numbers_found range_texts text a.0 a.1 in
    range_from_found a.0 name text f.0 f.1 a.2

pub range_again : (snapshot version ticket block : ℕ) → are_numbers (range_numbers snapshot version ticket block) ≡ true → is_block block ≡ true → range_of (spelled range_texts (range_numbers snapshot version ticket block)) ≡ Some (Range snapshot version ticket block)
unfolding range_of
range_again snapshot version ticket block small listed =
    ap (λ (o : Option (List ℕ)). o >>= range_from) (numbers_again range_texts (range_numbers snapshot version ticket block) refl small (refl, (refl, (refl, (refl, (refl, tt))))))
    ∙ cond-true (eqb (ticket / 1000) (ticket / 1000) && is_block block) (Some (Range snapshot version ticket block)) None (and_from (eqb (ticket / 1000) (ticket / 1000)) (is_block block) (eq-eqb (ticket / 1000) (ticket / 1000) refl) listed)

-- ---- log names

log_from_found : (ns : List ℕ) (name : Name) (text : Bytes) → text ≡ spelled log_texts ns → are_numbers ns ≡ true → log_from ns ≡ Some name → spelling name ≡ Some text
log_from_found [] name text t small e = absurd cc
log_from_found (a ∷ []) name text t small e = absurd cc
log_from_found (a ∷ b ∷ []) name text t small e = absurd cc
log_from_found (a ∷ b ∷ c ∷ []) name text t small e = absurd cc
log_from_found (a ∷ b ∷ c ∷ d ∷ []) name text t small e = absurd cc
log_from_found (group ∷ begin ∷ end ∷ ticket ∷ block ∷ []) name text t small e =
    let g = cond_some (eqb group (begin / 1000000000) && is_block block && ltb begin end) (Log begin end ticket block) name e in
    let p = and_parts (eqb group (begin / 1000000000) && is_block block) (ltb begin end) g.0 in
    let q = and_parts (eqb group (begin / 1000000000)) (is_block block) p.0 in
    let same : group ≡ begin / 1000000000 = eqb-true _ _ q.0 in
    let small' : are_numbers (log_numbers begin end ticket block) ≡ true = subst (λ (k : ℕ). are_numbers (k ∷ begin ∷ end ∷ ticket ∷ block ∷ []) ≡ true) same small in
    let text' : text ≡ spelled log_texts (log_numbers begin end ticket block) = subst (λ (k : ℕ). text ≡ spelled log_texts (k ∷ begin ∷ end ∷ ticket ∷ block ∷ [])) same t in
    ap spelling (sym g.1) ∙ cond-true _ (Some (spelled log_texts (log_numbers begin end ticket block))) None (and_from (are_numbers (log_numbers begin end ticket block) && is_block block) (ltb begin end) (and_from (are_numbers (log_numbers begin end ticket block)) (is_block block) small' q.1) p.1) ∙ ap (λ (x : Bytes). Some x) (sym text')
log_from_found (a ∷ b ∷ c ∷ d ∷ f ∷ g ∷ ns) name text t small e = absurd cc

pub log_found : (text : Bytes) (name : Name) → log_of text ≡ Some name → spelling name ≡ Some text
unfolding log_of
log_found text name e =
    let a = bind_some (numbers_in log_texts text) log_from name e in
    let f = numbers_found log_texts text a.0 a.1 in
    log_from_found a.0 name text f.0 f.1 a.2

pub log_again : (begin end ticket block : ℕ) → are_numbers (log_numbers begin end ticket block) ≡ true → is_block block ≡ true → ltb begin end ≡ true → log_of (spelled log_texts (log_numbers begin end ticket block)) ≡ Some (Log begin end ticket block)
unfolding log_of
log_again begin end ticket block small listed lt =
    let k = begin / 1000000000 in
    ap (λ (o : Option (List ℕ)). o >>= log_from) (numbers_again log_texts (log_numbers begin end ticket block) refl small (refl, (refl, (refl, (refl, (refl, tt))))))
    ∙ cond-true (eqb k k && is_block block && ltb begin end) (Some (Log begin end ticket block)) None (and_from (eqb k k && is_block block) (ltb begin end) (and_from (eqb k k) (is_block block) (eq-eqb k k refl) listed) lt)

-- ---- manifest names

manifest_from_found : (ns : List ℕ) (name : Name) (text : Bytes) → text ≡ spelled manifest_texts ns → are_numbers ns ≡ true → manifest_from ns ≡ Some name → spelling name ≡ Some text
manifest_from_found [] name text t small e = absurd cc
manifest_from_found (a ∷ []) name text t small e = absurd cc
manifest_from_found (a ∷ b ∷ []) name text t small e = absurd cc
manifest_from_found (a ∷ b ∷ c ∷ []) name text t small e = absurd cc
manifest_from_found (begin ∷ end ∷ bytes ∷ ticket ∷ []) name text t small e =
    let g = cond_some (leb begin end) (Manifest begin end bytes ticket) name e in
    ap spelling (sym g.1) ∙ cond-true _ (Some (spelled manifest_texts (manifest_numbers begin end bytes ticket))) None (and_from (are_numbers (manifest_numbers begin end bytes ticket)) (leb begin end) small g.0) ∙ ap (λ (x : Bytes). Some x) (sym t)
manifest_from_found (a ∷ b ∷ c ∷ d ∷ f ∷ ns) name text t small e = absurd cc

pub manifest_found : (text : Bytes) (name : Name) → manifest_of text ≡ Some name → spelling name ≡ Some text
unfolding manifest_of
manifest_found text name e =
    let a = bind_some (numbers_in manifest_texts text) manifest_from name e in
    let f = numbers_found manifest_texts text a.0 a.1 in
    manifest_from_found a.0 name text f.0 f.1 a.2

pub manifest_again : (begin end bytes ticket : ℕ) → are_numbers (manifest_numbers begin end bytes ticket) ≡ true → leb begin end ≡ true → manifest_of (spelled manifest_texts (manifest_numbers begin end bytes ticket)) ≡ Some (Manifest begin end bytes ticket)
unfolding manifest_of
manifest_again begin end bytes ticket small le =
    ap (λ (o : Option (List ℕ)). o >>= manifest_from) (numbers_again manifest_texts (manifest_numbers begin end bytes ticket) refl small (refl, (refl, (refl, (refl, tt)))))
    ∙ cond-true (leb begin end) (Some (Manifest begin end bytes ticket)) None le

-- ---- properties

property_go : (text : Bytes) (name : Name) (a b : Bool) → is_same text unreliable_text ≡ a → is_same text expired_text ≡ b → cond a (Some Unreliable) (cond b (Some Expired) None) ≡ Some name → spelling name ≡ Some text
property_go text name true b p q e = let is : Unreliable ≡ name = cc in ap spelling (sym is) ∙ ap (λ (x : Bytes). Some x) (sym (same_eq text unreliable_text p))
property_go text name false true p q e = let is : Expired ≡ name = cc in ap spelling (sym is) ∙ ap (λ (x : Bytes). Some x) (sym (same_eq text expired_text q))
property_go text name false false p q e = absurd cc

pub property_found : (text : Bytes) (name : Name) → property_of text ≡ Some name → spelling name ≡ Some text
unfolding property_of
property_found text name e = property_go text name (is_same text unreliable_text) (is_same text expired_text) refl refl e

-- ---- all names

choose : (a b c d : Option Name) (text : Bytes) → ((n : Name) → a ≡ Some n → spelling n ≡ Some text) → ((n : Name) → b ≡ Some n → spelling n ≡ Some text) → ((n : Name) → c ≡ Some n → spelling n ≡ Some text) → ((n : Name) → d ≡ Some n → spelling n ≡ Some text)
    → is_other (or_other (first_of a (first_of b (first_of c d)))) ≡ false → spelling (or_other (first_of a (first_of b (first_of c d)))) ≡ Some text
choose (Some n) b c d text f g h k e = f n refl
choose None (Some n) c d text f g h k e = g n refl
choose None None (Some n) d text f g h k e = h n refl
choose None None None (Some n) text f g h k e = k n refl
choose None None None None text f g h k e = absurd cc

pub name_found : (text : Bytes) → is_other (name_of text) ≡ false → spelling (name_of text) ≡ Some text
unfolding name_of
name_found text e = choose (property_of text) (range_of text) (log_of text) (manifest_of text) text (property_found text) (range_found text) (log_found text) (manifest_found text) e

property_not_range : (ns : List ℕ) → property_of (spelled range_texts ns) ≡ None
unfolding property_of is_same
property_not_range [] = refl
property_not_range (n ∷ ns) = refl

property_not_log : (ns : List ℕ) → property_of (spelled log_texts ns) ≡ None
unfolding property_of is_same
property_not_log [] = refl
property_not_log (n ∷ ns) = refl

property_not_manifest : (ns : List ℕ) → property_of (spelled manifest_texts ns) ≡ None
unfolding property_of is_same
property_not_manifest [] = refl
property_not_manifest (n ∷ ns) = refl

range_not_log : (ns : List ℕ) → range_of (spelled log_texts ns) ≡ None
unfolding range_of number_after after is_same
range_not_log [] = refl
range_not_log (n ∷ ns) = refl

range_not_manifest : (ns : List ℕ) → range_of (spelled manifest_texts ns) ≡ None
unfolding range_of number_after after is_same
range_not_manifest [] = refl
range_not_manifest (n ∷ ns) = refl

log_not_manifest : (ns : List ℕ) → log_of (spelled manifest_texts ns) ≡ None
unfolding log_of number_after after is_same
log_not_manifest [] = refl
log_not_manifest (n ∷ ns) = refl

abbrev firsts : Option Name → Option Name → Option Name → Option Name → Name
firsts a b c d = or_other (first_of a (first_of b (first_of c d)))

firsts-range : (a b c d : Option Name) (n : Name) → a ≡ None → b ≡ Some n → firsts a b c d ≡ n
firsts-range a b c d n p q = rw (p, q) refl

firsts-log : (a b c d : Option Name) (n : Name) → a ≡ None → b ≡ None → c ≡ Some n → firsts a b c d ≡ n
firsts-log a b c d n p q r = rw (p, q, r) refl

firsts-manifest : (a b c d : Option Name) (n : Name) → a ≡ None → b ≡ None → c ≡ None → d ≡ Some n → firsts a b c d ≡ n
firsts-manifest a b c d n p q r s = rw (p, q, r, s) refl

unreliable_is : name_of unreliable_text ≡ Unreliable
unfolding name_of property_of is_same
unreliable_is = refl

expired_is : name_of expired_text ≡ Expired
unfolding name_of property_of is_same
expired_is = refl

property_name : (name : Name) (own text : Bytes) → name_of own ≡ name → Some own ≡ Some text → name_of text ≡ name
property_name name own text h e = let is : own ≡ text = cc in ap name_of (sym is) ∙ h

name_at : (name : Name) (text : Bytes) → spelling name ≡ Some text → name_of text ≡ name
unfolding name_of
name_at (Range snapshot version ticket block) text e =
    let ns = range_numbers snapshot version ticket block in
    let g = cond_some (are_numbers ns && is_block block) (spelled range_texts ns) text e in
    let p = and_parts (are_numbers ns) (is_block block) g.0 in
    subst (λ (t : Bytes). firsts (property_of t) (range_of t) (log_of t) (manifest_of t) ≡ Range snapshot version ticket block) g.1
    (firsts-range (property_of (spelled range_texts ns)) (range_of (spelled range_texts ns)) (log_of (spelled range_texts ns)) (manifest_of (spelled range_texts ns)) _ (property_not_range ns) (range_again snapshot version ticket block p.0 p.1))
name_at (Log begin end ticket block) text e =
    let ns = log_numbers begin end ticket block in
    let g = cond_some (are_numbers ns && is_block block && ltb begin end) (spelled log_texts ns) text e in
    let p = and_parts (are_numbers ns && is_block block) (ltb begin end) g.0 in
    let q = and_parts (are_numbers ns) (is_block block) p.0 in
    subst (λ (t : Bytes). firsts (property_of t) (range_of t) (log_of t) (manifest_of t) ≡ Log begin end ticket block) g.1
    (firsts-log (property_of (spelled log_texts ns)) (range_of (spelled log_texts ns)) (log_of (spelled log_texts ns)) (manifest_of (spelled log_texts ns)) _ (property_not_log ns) (range_not_log ns) (log_again begin end ticket block q.0 q.1 p.1))
name_at (Manifest begin end bytes ticket) text e =
    let ns = manifest_numbers begin end bytes ticket in
    let g = cond_some (are_numbers ns && leb begin end) (spelled manifest_texts ns) text e in
    let p = and_parts (are_numbers ns) (leb begin end) g.0 in
    subst (λ (t : Bytes). firsts (property_of t) (range_of t) (log_of t) (manifest_of t) ≡ Manifest begin end bytes ticket) g.1
    (firsts-manifest (property_of (spelled manifest_texts ns)) (range_of (spelled manifest_texts ns)) (log_of (spelled manifest_texts ns)) (manifest_of (spelled manifest_texts ns)) _ (property_not_manifest ns) (range_not_manifest ns) (log_not_manifest ns) (manifest_again begin end bytes ticket p.0 p.1))
name_at Unreliable text e = property_name Unreliable unreliable_text text unreliable_is e
name_at Expired text e = property_name Expired expired_text text expired_is e
name_at Other text e = absurd cc

pub name_again : (text : Bytes) (name : Name) → spelling name ≡ Some text → name_of text ≡ name
name_again text name e = name_at name text e

pub name_once : OneName
name_once text a b e f = sym (name_again text a e) ∙ name_again text b f

-- no spelling is empty

some_text : (test : Bool) (c : ℕ) (cs text : Bytes) → cond test (Some (c ∷ cs)) None ≡ Some text → 0 < length text
some_text test c cs text e = let g = cond_some test (c ∷ cs) text e in subst (λ (t : Bytes). 0 < length t) g.1 (omega arith)

some_spelling : (text : Bytes) (name : Name) → spelling name ≡ Some text → 0 < length text
some_spelling text (Range snapshot version ticket block) e = some_text _ _ _ text e
some_spelling text (Log begin end ticket block) e = some_text _ _ _ text e
some_spelling text (Manifest begin end bytes ticket) e = some_text _ _ _ text e
some_spelling text Unreliable e = some_text true _ _ text e
some_spelling text Expired e = some_text true _ _ text e
some_spelling text Other e = absurd cc

pub spelled_name : SpelledName
spelled_name = record {
  read = name_again;
  spelled = λ text name e named. ap spelling (sym e) ∙ name_found text (ap is_other e ∙ named);
  some = some_spelling;
}
