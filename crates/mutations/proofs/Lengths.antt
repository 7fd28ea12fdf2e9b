-- How long spellings are, and how they grow as a loop goes on.
use Rattle.std.proofs.Common.{◌≡◌, ℕ, ◌+◌, ◌<◌, ◌≤◌, min, Bool, true, false, if◌then◌else◌, List, [], ◌∷◌, ◌++◌, length, get_or, take, flat_map, refl, sym, ap, ◌∙◌, arith, length-append}
use Rattle.std.proofs.lemmas.Grind.{flat_map-append}
use Rattle.std.proofs.lemmas.List.{append-nil, take_more}
use Rattle.std.proofs.lemmas.List.Folds.{length-flat_map-take}
use Rattle.fb_bytes.specs.Bytes.{Bytes, is_below}
use Rattle.mutations.specs.declared.mutation.Mutation.{Mutation}
use Rattle.mutations.specs.declared.mutation.Mutation.TheVariants.{ClearRange}
use Rattle.mutations.specs.Effects.{range_of}
use Rattle.mutations.specs.Clipping.{cleared}
use Rattle.mutations.specs.Spelling.{u32_bytes, u64_bytes, mutation_code, first_string, second_string, parts_spelling, mutation_spelling, mutations_spelling}
use Rattle.mutations.proofs.Basics.{not_both}

pub length-u32_bytes : (n : ℕ) → length (u32_bytes n) ≡ 4
unfolding u32_bytes
length-u32_bytes n = refl

pub length-u64_bytes : (n : ℕ) → length (u64_bytes n) ≡ 8
unfolding u64_bytes
length-u64_bytes n = refl

pub length-parts : (code : ℕ) (first second : Bytes) → length (parts_spelling code first second) ≡ 12 + length first + length second
length-parts code first second =
    omega (arith, length-append (u32_bytes code ++ u32_bytes (length first) ++ u32_bytes (length second) ++ first) second, length-append (u32_bytes code ++ u32_bytes (length first) ++ u32_bytes (length second)) first, length-append (u32_bytes code ++ u32_bytes (length first)) (u32_bytes (length second)), length-append (u32_bytes code) (u32_bytes (length first)), length-u32_bytes code, length-u32_bytes (length first), length-u32_bytes (length second))

pub length-mutation : (m : Mutation) → length (mutation_spelling m) ≡ 12 + length (first_string m) + length (second_string m)
length-mutation m = length-parts (mutation_code m) (first_string m) (second_string m)

-- ---- a list, as far as a loop has come

pub take_item : {X : Type 0} (xs : List X) (i : ℕ) (x : X) → i < length xs → x ≡ get_or xs i x → take (i + 1) xs ≡ take i xs ++ x ∷ []
take_item {X} xs i x h e = take_more xs i x h ∙ ap (λ (y : X). take i xs ++ y ∷ []) (sym e)

pub mutations_more : (muts : List Mutation) (i : ℕ) (m : Mutation) → i < length muts → m ≡ get_or muts i m → mutations_spelling (take (i + 1) muts) ≡ mutations_spelling (take i muts) ++ mutation_spelling m
mutations_more muts i m h e =
    ap mutations_spelling (take_item muts i m h e)
    ∙ flat_map-append mutation_spelling (take i muts) (m ∷ [])
    ∙ ap (λ (bytes : Bytes). mutations_spelling (take i muts) ++ bytes) (append-nil (mutation_spelling m))

-- what each item gives, as far as a loop has come
pub given_more : {X : Type 0} (f : X → List Mutation) (xs : List X) (i : ℕ) (x : X) → i < length xs → x ≡ get_or xs i x → length (mutations_spelling (flat_map f (take (i + 1) xs))) ≡ length (mutations_spelling (flat_map f (take i xs))) + length (mutations_spelling (f x))
given_more {X} f xs i x h e =
    let all : flat_map f (take (i + 1) xs) ≡ flat_map f (take i xs) ++ f x = ap (flat_map f) (take_item xs i x h e) ∙ flat_map-append f (take i xs) (x ∷ []) ∙ ap (λ (ms : List Mutation). flat_map f (take i xs) ++ ms) (append-nil (f x)) in
    ap (λ (ms : List Mutation). length (mutations_spelling ms)) all
    ∙ ap length (flat_map-append mutation_spelling (flat_map f (take i xs)) (f x))
    ∙ length-append (mutations_spelling (flat_map f (take i xs))) (mutations_spelling (f x))

pub length_one : (m : Mutation) → length (mutations_spelling (m ∷ [])) ≡ length (mutation_spelling m)
length_one m = ap length (append-nil (mutation_spelling m))

pub length_kept : (b : Bool) (m : Mutation) → b ≡ true → length (mutations_spelling (if b then m ∷ [] else [])) ≡ length (mutation_spelling m)
length_kept true m h = length_one m
length_kept false m h = not_both h refl

pub length_dropped : (b : Bool) (m : Mutation) → b ≡ false → length (mutations_spelling (if b then m ∷ [] else [])) ≡ 0
length_dropped true m h = not_both refl h
length_dropped false m h = refl

pub length_cleared : (begin end : Bytes) → is_below begin end ≡ true → length (mutations_spelling (cleared (range_of begin end))) ≡ 12 + length begin + length end
length_cleared begin end h = rw h (length_one (ClearRange begin end) ∙ length-mutation (ClearRange begin end))

pub length_uncleared : (begin end : Bytes) → is_below begin end ≡ false → length (mutations_spelling (cleared (range_of begin end))) ≡ 0
length_uncleared begin end h = rw h refl

pub length_more : (muts : List Mutation) (i : ℕ) (m : Mutation) → i < length muts → m ≡ get_or muts i m → length (mutations_spelling (take (i + 1) muts)) ≡ length (mutations_spelling (take i muts)) + length (mutation_spelling m)
length_more muts i m h e = ap length (mutations_more muts i m h e) ∙ length-append (mutations_spelling (take i muts)) (mutation_spelling m)

pub item_fits : (muts : List Mutation) (i : ℕ) (m : Mutation) (limit : ℕ) → i < length muts → m ≡ get_or muts i m → length (mutations_spelling muts) < limit → length (mutation_spelling m) < limit
item_fits muts i m limit h e few =
    let part : length (mutation_spelling (get_or muts i m)) ≤ length (mutations_spelling muts) = omega (arith, length-flat_map-take mutation_spelling muts i m h) in
    let same : length (mutation_spelling m) ≡ length (mutation_spelling (get_or muts i m)) = ap (λ (x : Mutation). length (mutation_spelling x)) e in
    omega arith

-- a sum of which each part stops at a limit stops there
pub saturated : (limit sum size old part new : ℕ) → old ≡ min sum limit → part ≡ min size limit → new ≡ min (old + part) limit → new ≡ min (sum + size) limit
saturated limit sum size old part new h g k = omega arith

pub saturated_at_end : (limit sum size old new : ℕ) → old ≡ min sum limit → new ≡ min (old + size) limit → new ≡ min (sum + size) limit
saturated_at_end limit sum size old new h k = omega arith
