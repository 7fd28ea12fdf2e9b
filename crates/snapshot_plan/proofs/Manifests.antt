-- What the manifest of noted files says of them.
use Rattle.std.proofs.Common.{◌≡◌, ◌≢◌, ℕ, suc, ◌+◌, ◌≤◌, min, max, Bool, true, false, List, [], ◌∷◌, length, drop, get_or, ◌<◌, sum_by, Option, Some, None, is_some, inl, inr, refl, sym, ap, ◌∙◌, subst, arith, ◌⊎◌, ◌↔◌}
use Rattle.std.specs.List.{AllByRecursion}
use Rattle.std.proofs.lemmas.List.Sums.{sum_by-cons}
use Rattle.std.proofs.lemmas.Bool.{cond_both, and_from}
use Rattle.fb_bytes.specs.Bytes.{Bytes, is_below, is_same}
use Rattle.fb_bytes.specs.Options.{IsIn}
use Rattle.fb_bytes.proofs.Order.{below_not_back, neither_below, same_both, same_eq, not_both}
use Rattle.manifests.specs.Files.{version_of, AreRangeNames, widest, alone, span_of}
use Rattle.snapshot_plan.specs.Noted.{Noted, placed, with_name, names_of, least_of, greatest_of, bytes_of, manifest_of}
use Rattle.snapshot_plan.specs.Listing.{noted_names, IsLeastVersion, IsGreatestVersion, NameFrom, AreOrdered, NamePast, AreRising, IsNew, AreDistinct, HaveRangeNames}
use Rattle.snapshot_plan.proofs.Placing.{at_place}
use Rattle.snapshot_plan.specs.Laws.{ManifestLaw, WholeLaw}

-- ---- one more in a list

-- both ways in which one more is placed
pub placed_cases : {X : Type 0} (before : X → Bool) (x y : X) (ys : List X) (P : List X → Type 0)
    → (before y ≡ true → P (y ∷ placed before x ys)) → (before y ≡ false → P (x ∷ y ∷ ys)) → P (placed before x (y ∷ ys))
placed_cases before x y ys P f g = cond_both (before y) (y ∷ placed before x ys) (x ∷ y ∷ ys) P f g

pub placed_in : {X : Type 0} (before : X → Bool) (x z : X) (xs : List X) → IsIn z (placed before x xs) → (z ≡ x) ⊎ IsIn z xs
placed_in before x z [] = λ i. i
placed_in before x z (y ∷ ys) = placed_cases before x y ys (λ zs. IsIn z zs → (z ≡ x) ⊎ IsIn z (y ∷ ys)) (λ t i. behind i (placed_in before x z ys)) (λ f i. i)
  where
    turn : (z ≡ x) ⊎ IsIn z ys → (z ≡ x) ⊎ IsIn z (y ∷ ys)
    turn (inl e) = inl e
    turn (inr i) = inr (inr i)

    behind : IsIn z (y ∷ placed before x ys) → (IsIn z (placed before x ys) → (z ≡ x) ⊎ IsIn z ys) → (z ≡ x) ⊎ IsIn z (y ∷ ys)
    behind (inl e) ih = inr (inl e)
    behind (inr i) ih = turn (ih i)

pub in_placed : {X : Type 0} (before : X → Bool) (x z : X) (xs : List X) → (z ≡ x) ⊎ IsIn z xs → IsIn z (placed before x xs)
in_placed before x z [] i = i
in_placed before x z (y ∷ ys) i = placed_cases before x y ys (λ zs. IsIn z zs) (λ t. behind i (in_placed before x z ys)) (λ f. i)
  where
    behind : (z ≡ x) ⊎ IsIn z (y ∷ ys) → ((z ≡ x) ⊎ IsIn z ys → IsIn z (placed before x ys)) → IsIn z (y ∷ placed before x ys)
    behind (inl e) ih = inr (ih (inl e))
    behind (inr (inl e)) ih = inl e
    behind (inr (inr i)) ih = inr (ih (inr i))

pub placed_length : {X : Type 0} (before : X → Bool) (x : X) (xs : List X) → length (placed before x xs) ≡ suc (length xs)
placed_length before x [] = refl
placed_length before x (y ∷ ys) = placed_cases before x y ys (λ zs. length zs ≡ suc (suc (length ys))) (λ t. ap suc (placed_length before x ys)) (λ f. refl)

pub placed_all : {X : Type 0} (P : X → Type 0) (before : X → Bool) (x : X) (xs : List X) → P x → AllByRecursion P xs → AllByRecursion P (placed before x xs)
placed_all P before x [] h a = (h, tt)
placed_all P before x (y ∷ ys) h a = placed_cases before x y ys (λ zs. AllByRecursion P zs) (λ t. (a.0, placed_all P before x ys h a.1)) (λ f. (h, a))

-- ---- names in byte order

ordered_head : (name n : Bytes) (names : List Bytes) → is_below n name ≡ true → NameFrom n names → NameFrom n (with_name name names)
ordered_head name n [] b f = below_not_back n name b
ordered_head name n (m ∷ ms) b f = placed_cases (λ x. is_below x name) name m ms (λ zs. NameFrom n zs) (λ t. f) (λ t. below_not_back n name b)

with_name_ordered : (name : Bytes) (names : List Bytes) → AreOrdered names → AreOrdered (with_name name names)
with_name_ordered name [] a = (tt, tt)
with_name_ordered name (n ∷ ns) a =
    placed_cases (λ x. is_below x name) name n ns AreOrdered
    (λ t. (ordered_head name n ns t a.0, with_name_ordered name ns a.1))
    (λ f. (f, a))

pub names_ordered : (names : List Bytes) (ns : List Noted) → AreOrdered names → AreOrdered (names_of names ns)
names_ordered names [] a = a
names_ordered names (n ∷ ns) a = names_ordered (with_name n.file.name names) ns (with_name_ordered n.file.name names a)

rising_head : (name n : Bytes) (names : List Bytes) → is_below n name ≡ true → NamePast n names → NamePast n (with_name name names)
rising_head name n [] b f = b
rising_head name n (m ∷ ms) b f = placed_cases (λ x. is_below x name) name m ms (λ zs. NamePast n zs) (λ t. f) (λ t. b)

-- of two names that aren't the same, one is below the other
pub one_below : (x y : Bytes) → is_same x y ≡ false → is_below y x ≡ false → is_below x y ≡ true
one_below x y s h = go (is_below x y) refl
  where
    go : (b : Bool) → is_below x y ≡ b → is_below x y ≡ true
    go true e = e
    go false e = not_both (same_both x y (neither_below x y e h)) s

with_name_rising : (name : Bytes) (names : List Bytes) → IsNew name names → AreRising names → AreRising (with_name name names)
with_name_rising name [] d a = (tt, tt)
with_name_rising name (n ∷ ns) d a =
    placed_cases (λ x. is_below x name) name n ns AreRising
    (λ t. (rising_head name n ns t a.0, with_name_rising name ns d.1 a.1))
    (λ f. (one_below name n d.0 f, a))

pub same_turn : (x y : Bytes) → is_same x y ≡ false → is_same y x ≡ false
same_turn x y h = go (is_same y x) refl
  where
    go : (b : Bool) → is_same y x ≡ b → is_same y x ≡ false
    go true e = not_both (same_both x y (sym (same_eq y x e))) h
    go false e = e

-- each noted name is new to these
abbrev AllNew : List Bytes → List Noted → Type 0
AllNew names ns = AllByRecursion (λ n. IsNew n.file.name names) ns

stay_new : (name : Bytes) (names : List Bytes) (ns : List Noted) → IsNew name (noted_names ns) → AllNew names ns → AllNew (with_name name names) ns
stay_new name names [] d a = tt
stay_new name names (m ∷ ms) d a =
    (placed_all (λ other. is_same m.file.name other ≡ false) (λ x. is_below x name) name names (same_turn name m.file.name d.0) a.0, stay_new name names ms d.1 a.1)

all_new : (ns : List Noted) → AllNew [] ns
all_new [] = tt
all_new (n ∷ ns) = (tt, all_new ns)

names_rising : (names : List Bytes) (ns : List Noted) → AreRising names → AllNew names ns → AreDistinct (noted_names ns) → AreRising (names_of names ns)
names_rising names [] a new d = a
names_rising names (n ∷ ns) a new d = names_rising (with_name n.file.name names) ns (with_name_rising n.file.name names new.0 a) (stay_new n.file.name names ns d.0 new.1) d.1

-- ---- which names

names_in : (name : Bytes) (names : List Bytes) (ns : List Noted) → IsIn name (names_of names ns) → IsIn name names ⊎ IsIn name (noted_names ns)
names_in name names [] i = inl i
names_in name names (n ∷ ns) i = go (names_in name (with_name n.file.name names) ns i)
  where
    first : (name ≡ n.file.name) ⊎ IsIn name names → IsIn name names ⊎ IsIn name (noted_names (n ∷ ns))
    first (inl e) = inr (inl e)
    first (inr j) = inl j

    go : IsIn name (with_name n.file.name names) ⊎ IsIn name (noted_names ns) → IsIn name names ⊎ IsIn name (noted_names (n ∷ ns))
    go (inl j) = first (placed_in (λ x. is_below x n.file.name) n.file.name name names j)
    go (inr j) = inr (inr j)

in_names : (name : Bytes) (names : List Bytes) (ns : List Noted) → IsIn name names ⊎ IsIn name (noted_names ns) → IsIn name (names_of names ns)
in_names name names [] (inl i) = i
in_names name names [] (inr i) = absurd i
in_names name names (n ∷ ns) i = in_names name (with_name n.file.name names) ns (go i)
  where
    go : IsIn name names ⊎ IsIn name (noted_names (n ∷ ns)) → IsIn name (with_name n.file.name names) ⊎ IsIn name (noted_names ns)
    go (inl j) = inl (in_placed (λ x. is_below x n.file.name) n.file.name name names (inr j))
    go (inr (inl e)) = inl (in_placed (λ x. is_below x n.file.name) n.file.name name names (inl e))
    go (inr (inr j)) = inr j

names_length : (names : List Bytes) (ns : List Noted) → length (names_of names ns) ≡ length names + length ns
names_length names [] = omega arith
names_length names (n ∷ ns) =
    let ih = names_length (with_name n.file.name names) ns in
    let p = placed_length (λ x. is_below x n.file.name) n.file.name names in
    omega (arith, ih, p)

-- ---- versions

least_below : (least : ℕ) (ns : List Noted) → least_of least ns ≤ least
least_below least [] = omega arith
least_below least (n ∷ ns) = let ih = least_below (min least n.file.version) ns in omega (arith, ih)

least_within : (least : ℕ) (ns : List Noted) (n : Noted) → IsIn n ns → least_of least ns ≤ n.file.version
least_within least [] n i = absurd i
least_within least (m ∷ ms) n (inl e) =
    let b = least_below (min least m.file.version) ms in
    let v : n.file.version ≡ m.file.version = ap (λ (x : Noted). x.file.version) e in
    omega (arith, b, v)
least_within least (m ∷ ms) n (inr i) = least_within (min least m.file.version) ms n i

abbrev OneOf : ℕ → List Noted → ℕ → Type 0
OneOf first ns version = (version ≡ first) ⊎ ((n : Noted) × IsIn n ns × (n.file.version ≡ version))

one_later : (first version : ℕ) (m : Noted) (ms : List Noted) → (x : ℕ) → (x ≡ first) ⊎ (x ≡ m.file.version) → OneOf x ms version → OneOf first (m ∷ ms) version
one_later first version m ms x (inl e) (inl f) = inl (f ∙ e)
one_later first version m ms x (inr e) (inl f) = inr (m, inl refl, sym (f ∙ e))
one_later first version m ms x c (inr p) = inr (p.0, inr p.1, p.2)

min_one : (a b : ℕ) → (min a b ≡ a) ⊎ (min a b ≡ b)
min_one a b = grind arith

max_one : (a b : ℕ) → (max a b ≡ a) ⊎ (max a b ≡ b)
max_one a b = grind arith

least_one : (least : ℕ) (ns : List Noted) → OneOf least ns (least_of least ns)
least_one least [] = inl refl
least_one least (n ∷ ns) = one_later least (least_of (min least n.file.version) ns) n ns (min least n.file.version) (min_one least n.file.version) (least_one (min least n.file.version) ns)

greatest_above : (greatest : ℕ) (ns : List Noted) → greatest ≤ greatest_of greatest ns
greatest_above greatest [] = omega arith
greatest_above greatest (n ∷ ns) = let ih = greatest_above (max greatest n.file.version) ns in omega (arith, ih)

greatest_within : (greatest : ℕ) (ns : List Noted) (n : Noted) → IsIn n ns → n.file.version ≤ greatest_of greatest ns
greatest_within greatest [] n i = absurd i
greatest_within greatest (m ∷ ms) n (inl e) =
    let b = greatest_above (max greatest m.file.version) ms in
    let v : n.file.version ≡ m.file.version = ap (λ (x : Noted). x.file.version) e in
    omega (arith, b, v)
greatest_within greatest (m ∷ ms) n (inr i) = greatest_within (max greatest m.file.version) ms n i

greatest_one : (greatest : ℕ) (ns : List Noted) → OneOf greatest ns (greatest_of greatest ns)
greatest_one greatest [] = inl refl
greatest_one greatest (n ∷ ns) = one_later greatest (greatest_of (max greatest n.file.version) ns) n ns (max greatest n.file.version) (max_one greatest n.file.version) (greatest_one (max greatest n.file.version) ns)

-- the first is one of all
abbrev AmongAll : List Noted → ℕ → Type 0
AmongAll ns version = (n : Noted) × IsIn n ns × (n.file.version ≡ version)

among : (n : Noted) (ns : List Noted) (version : ℕ) → OneOf n.file.version ns version → AmongAll (n ∷ ns) version
among n ns version (inl e) = (n, inl refl, sym e)
among n ns version (inr p) = (p.0, inr p.1, p.2)

begin_is : (noted : List Noted) → noted ≢ [] → IsLeastVersion noted (manifest_of noted).begin
begin_is [] h = absurd (h refl)
begin_is (n ∷ ns) h = record {
  one = among n ns (least_of n.file.version ns) (least_one n.file.version ns);
  least = λ m i. go m i;
}
  where
    go : (m : Noted) → IsIn m (n ∷ ns) → least_of n.file.version ns ≤ m.file.version
    go m (inl e) = let b = least_below n.file.version ns in let v : m.file.version ≡ n.file.version = ap (λ (x : Noted). x.file.version) e in omega (arith, b, v)
    go m (inr i) = least_within n.file.version ns m i

end_is : (noted : List Noted) → noted ≢ [] → IsGreatestVersion noted (manifest_of noted).end
end_is [] h = absurd (h refl)
end_is (n ∷ ns) h = record {
  one = among n ns (greatest_of n.file.version ns) (greatest_one n.file.version ns);
  greatest = λ m i. go m i;
}
  where
    go : (m : Noted) → IsIn m (n ∷ ns) → m.file.version ≤ greatest_of n.file.version ns
    go m (inl e) = let b = greatest_above n.file.version ns in let v : m.file.version ≡ n.file.version = ap (λ (x : Noted). x.file.version) e in omega (arith, b, v)
    go m (inr i) = greatest_within n.file.version ns m i

-- ---- bytes

abbrev bytes_in : List Noted → ℕ
bytes_in ns = sum_by (λ n. n.file.bytes) ns

bytes_up : (bytes : ℕ) (ns : List Noted) → bytes_of bytes ns ≡ bytes + bytes_in ns
bytes_up bytes [] = omega arith
bytes_up bytes (n ∷ ns) =
    let ih = bytes_up (bytes + n.file.bytes) ns in
    let more = sum_by-cons (λ (x : Noted). x.file.bytes) n ns in
    omega (arith, ih, more)

-- more files don't take bytes away
pub bytes_grow : (bytes : ℕ) (ns : List Noted) → bytes ≤ bytes_of bytes ns
bytes_grow bytes ns = let e = bytes_up bytes ns in omega (arith, e)

-- so a file that takes them past a number takes all of them past it
pub bytes_past : (noted : List Noted) (place bytes most : ℕ) (one : Noted) → place < length noted → one ≡ get_or noted place one → bytes_of bytes (drop place noted) ≡ bytes_of 0 noted → most < bytes + one.file.bytes → most < bytes_of 0 noted
bytes_past noted place bytes most one lt e same past =
    let total = sym same ∙ ap (bytes_of bytes) (at_place noted place one lt e) in
    let grow = bytes_grow (bytes + one.file.bytes) (drop (place + 1) noted) in
    omega (arith, total, grow)

pub files_are : (noted : List Noted) → (manifest_of noted).files ≡ names_of [] noted
files_are [] = refl
files_are (n ∷ ns) = refl

bytes_are : (noted : List Noted) → (manifest_of noted).bytes ≡ bytes_of 0 noted
bytes_are [] = refl
bytes_are (n ∷ ns) = refl

files_is : (noted : List Noted) (name : Bytes) → IsIn name (manifest_of noted).files ↔ IsIn name (noted_names noted)
files_is noted name = (λ i. there (names_in name [] noted (subst (IsIn name) (files_are noted) i)), λ i. subst (IsIn name) (sym (files_are noted)) (in_names name [] noted (inr i)))
  where
    there : IsIn name [] ⊎ IsIn name (noted_names noted) → IsIn name (noted_names noted)
    there (inl i) = absurd i
    there (inr i) = i

count_is : (noted : List Noted) → length (names_of [] noted) ≡ length noted
count_is noted = let h = names_length [] noted in omega (arith, h)

sum_is : (noted : List Noted) → bytes_of 0 noted ≡ bytes_in noted
sum_is noted = let h = bytes_up 0 noted in omega (arith, h)

pub manifest_law : ManifestLaw
manifest_law = record {
  begin = begin_is;
  end = end_is;
  files = files_is;
  count = λ noted. ap length (files_are noted) ∙ count_is noted;
  ordered = λ noted. subst AreOrdered (sym (files_are noted)) (names_ordered [] noted tt);
  rising = λ noted d. subst AreRising (sym (files_are noted)) (names_rising [] noted tt (all_new noted) d);
  bytes = λ noted. bytes_are noted ∙ sum_is noted;
}

-- ---- a manifest that can be written

abbrev HasVersion : Bytes → Type 0
HasVersion name = is_some (version_of name) ≡ true

names_all : (P : Bytes → Type 0) (names : List Bytes) (ns : List Noted) → AllByRecursion P names → AllByRecursion (λ n. P n.file.name) ns → AllByRecursion P (names_of names ns)
names_all P names [] a h = a
names_all P names (n ∷ ns) a h = names_all P (with_name n.file.name names) ns (placed_all P (λ x. is_below x n.file.name) n.file.name names h.0 a) h.1

have_versions : (ns : List Noted) → HaveRangeNames ns → AllByRecursion (λ n. HasVersion n.file.name) ns
have_versions [] h = tt
have_versions (n ∷ ns) h = (ap is_some h.0, have_versions ns h.1)

range_names_past : (last : Bytes) (names : List Bytes) → NamePast last names → AreRising names → AllByRecursion HasVersion names → AreRangeNames (Some last) names
range_names_past last [] p a h = tt
range_names_past last (name ∷ names) p a h = (and_from (is_some (version_of name)) (is_below last name) h.0 p, range_names_past name names a.0 a.1 h.1)

range_names : (names : List Bytes) → AreRising names → AllByRecursion HasVersion names → AreRangeNames None names
range_names [] a h = tt
range_names (name ∷ names) a h = (and_from (is_some (version_of name)) true h.0 refl, range_names_past name names a.0 a.1 h.1)

abbrev span : ℕ → ℕ → Option (ℕ × ℕ)
span low high = Some (low, high)

pair_is : (a b c d : ℕ) → a ≡ b → c ≡ d → span a c ≡ span b d
pair_is a b c d e f = ap (λ n. span n c) e ∙ ap (span b) f

widest_turn : (a b c : Option (ℕ × ℕ)) → widest a (widest b c) ≡ widest b (widest a c)
widest_turn None b c = refl
widest_turn (Some a) None c = refl
widest_turn (Some a) (Some b) None = pair_is (min a.0 b.0) (min b.0 a.0) (max a.1 b.1) (max b.1 a.1) (omega arith) (omega arith)
widest_turn (Some a) (Some b) (Some c) = pair_is (min a.0 (min b.0 c.0)) (min b.0 (min a.0 c.0)) (max a.1 (max b.1 c.1)) (max b.1 (max a.1 c.1)) (omega arith) (omega arith)

span_placed : (name : Bytes) (names : List Bytes) → span_of (with_name name names) ≡ widest (alone (version_of name)) (span_of names)
span_placed name [] = refl
span_placed name (n ∷ ns) =
    placed_cases (λ x. is_below x name) name n ns (λ zs. span_of zs ≡ widest (alone (version_of name)) (span_of (n ∷ ns)))
    (λ t. ap (widest (alone (version_of n))) (span_placed name ns) ∙ widest_turn (alone (version_of n)) (alone (version_of name)) (span_of ns))
    (λ f. refl)

span_more : (name : Bytes) (names : List Bytes) (version low high : ℕ) → version_of name ≡ Some version → span_of names ≡ Some (low, high) → span_of (with_name name names) ≡ Some (min low version, max high version)
span_more name names version low high v s =
    span_placed name names ∙ ap (λ o. widest (alone o) (span_of names)) v ∙ ap (widest (Some (version, version))) s
    ∙ pair_is (min version low) (min low version) (max version high) (max high version) (omega arith) (omega arith)

span_is : (names : List Bytes) (ns : List Noted) (low high : ℕ) → span_of names ≡ Some (low, high) → HaveRangeNames ns → span_of (names_of names ns) ≡ Some (least_of low ns, greatest_of high ns)
span_is names [] low high s h = s
span_is names (n ∷ ns) low high s h =
    span_is (with_name n.file.name names) ns (min low n.file.version) (max high n.file.version) (span_more n.file.name names n.file.version low high h.0 s) h.1

pub whole_law : WholeLaw
whole_law [] empty h d = absurd (empty refl)
whole_law (n ∷ ns) empty h d = record {
  whole = record {
    files = range_names (names_of [] (n ∷ ns)) (names_rising [] (n ∷ ns) tt (all_new (n ∷ ns)) d) (names_all HasVersion [] (n ∷ ns) tt (have_versions (n ∷ ns) h));
    versions = span_is (n.file.name ∷ []) ns n.file.version n.file.version (ap (λ o. widest (alone o) None) h.0) h.1;
  };
  ordered = let l = least_below n.file.version ns in let g = greatest_above n.file.version ns in omega (arith, l, g);
}
