-- The names of a container, from the whole names of a store.
use Rattle.std.proofs.Common.{◌≡◌, ℕ, ◌+◌, Bool, true, false, cond, ◌||◌, List, [], ◌∷◌, ◌++◌, map, length, take, drop, Option, Some, None, option_map, refl, sym, ap, ◌∙◌, MatchOption, append_assoc, get_or, ◌<◌}
use Rattle.std.specs.Prelude.{nat_eq}
use Rattle.std.specs.Borrow.{Bor}
use Rattle.std.specs.List.{starts_with, filter}
use Rattle.std.specs.Str.Pattern.{FindsTextPrefix, StripsPrefix}
use Rattle.std.proofs.lemmas.Grind.{flat_map-append}
use Rattle.std.proofs.lemmas.List.{append-nil, take_at, take-append-drop}
use Rattle.std.specs.Cmp.Lexicographic.{pointwise}
use Rattle.mutations.proofs.Basics.{not_both}
use Rattle.fb_bytes.proofs.Order.{same_itself}
use Rattle.std.proofs.lemmas.Bool.{or_parts, or_left, or_right}
use Rattle.mutations.proofs.Lengths.{take_item}
use Rattle.container_view.specs.Property.{property_of, property_in}
use Rattle.container_view.proofs.Stores.{file_inside}
use Rattle.fb_bytes.proofs.Options.{bind_some}
use Rattle.fb_bytes.specs.Bytes.{Bytes, is_same}
use Rattle.fb_bytes.specs.Options.{◌>>=◌}
use Rattle.fb_outside.specs.declared.File.{File}
use Rattle.fb_outside.specs.Files.{is_under, names_in, file_of}
use Rattle.file_names.specs.Reading.{after}
use Rattle.file_names.proofs.Numbers.{after_found, after_again}
use Rattle.container_view.specs.Files.{name_in, whole_name, renamed, inside}
use Rattle.container_view.specs.Names.{names_inside, is_named}
use Rattle.container_view.specs.View.{as_list, stripped}

or_false : (b : Bool) → (b || false) ≡ b
or_false true = refl
or_false false = refl

or_assoc : (a b c : Bool) → (a || (b || c)) ≡ ((a || b) || c)
or_assoc true b c = refl
or_assoc false b c = refl

-- ---- one name

-- a text behind another
pub after_is : (text bytes : Bytes) (r : Option (Bor (List ℕ))) → MatchOption r (FindsTextPrefix text bytes None) (λ x. StripsPrefix (FindsTextPrefix text) bytes x.now) → option_map (λ x. x.now) r ≡ after text bytes
after_is text bytes None h = go (after text bytes) refl
  where
    go : (o : Option Bytes) → after text bytes ≡ o → None ≡ o
    go None e = refl
    go (Some rest) e = absurd (h rest (after_found text bytes rest e))
after_is text bytes (Some x) h =
    let found = h.1 in
    sym (ap (after text) (found.1 ∙ ap (λ (r : Bytes). text ++ r) (sym h.2)) ∙ after_again text x.now)

-- one text and then another are both
pub after_both : (a b bytes : Bytes) → (after a bytes >>= after b) ≡ after (a ++ b) bytes
after_both a b bytes = go (after (a ++ b) bytes) refl
  where
    none : (o : Option Bytes) → (after a bytes >>= after b) ≡ o → after (a ++ b) bytes ≡ None → o ≡ None
    none None e g = refl
    none (Some last) e g =
        let rest = bind_some (after a bytes) (after b) last e in
        let whole : bytes ≡ (a ++ b) ++ last = after_found a bytes rest.0 rest.1 ∙ ap (λ (r : Bytes). a ++ r) (after_found b rest.0 last rest.2) ∙ sym (append_assoc a b last) in
        let found : after (a ++ b) bytes ≡ Some last = ap (after (a ++ b)) whole ∙ after_again (a ++ b) last in
        absurd cc

    go : (o : Option Bytes) → after (a ++ b) bytes ≡ o → (after a bytes >>= after b) ≡ o
    go None g = none (after a bytes >>= after b) refl g
    go (Some last) g = ap (λ o. o >>= after b) (ap (after a) (after_found (a ++ b) bytes last g ∙ append_assoc a b last) ∙ after_again a (b ++ last)) ∙ after_again b last

-- ---- all names

-- a file of the container is under its folder
under : (container name inner : Bytes) → name_in container name ≡ Some inner → is_under container name ≡ true
unfolding is_same
under [] name inner e = refl
under (byte ∷ folder) name inner e =
    ap (λ n. starts_with nat_eq n ((byte ∷ folder) ++ 47 ∷ [])) (after_found ((byte ∷ folder) ++ 47 ∷ []) name inner e)
    ∙ ap (pointwise nat_eq ((byte ∷ folder) ++ 47 ∷ [])) (take_at ((byte ∷ folder) ++ 47 ∷ []) inner (length ((byte ∷ folder) ++ 47 ∷ [])) refl)
    ∙ same_itself ((byte ∷ folder) ++ 47 ∷ [])

pub stripped_inside : (container : Bytes) (files : List File) → stripped container (names_in container files) ≡ names_inside container files
stripped_inside container [] = refl
stripped_inside container (f ∷ fs) = go (is_under container f.name) refl (name_in container f.name) refl (stripped_inside container fs)
  where
    listed : (o : Option Bytes) → stripped container (names_in container fs) ≡ names_inside container fs → as_list o ++ stripped container (names_in container fs) ≡ map (λ (x : File). x.name) (renamed o f.bytes ++ inside container fs)
    listed None ih = ih
    listed (Some n) ih = ap (λ (xs : List Bytes). n ∷ xs) ih

    go : (b : Bool) → is_under container f.name ≡ b → (o : Option Bytes) → name_in container f.name ≡ o → stripped container (names_in container fs) ≡ names_inside container fs → stripped container (map (λ (x : File). x.name) (cond b (f ∷ filter (λ x. is_under container x.name) fs) (filter (λ x. is_under container x.name) fs))) ≡ map (λ (x : File). x.name) (renamed o f.bytes ++ inside container fs)
    go true u o e ih = ap (λ x. as_list x ++ stripped container (names_in container fs)) e ∙ listed o ih
    go false u None e ih = ih
    go false u (Some n) e ih = not_both (under container f.name n e) u

pub stripped_last : (container : Bytes) (names : List Bytes) (name : Bytes) → stripped container (names ++ name ∷ []) ≡ stripped container names ++ as_list (name_in container name)
stripped_last container names name = flat_map-append (λ n. as_list (name_in container n)) names (name ∷ []) ∙ ap (λ (xs : List Bytes). stripped container names ++ xs) (append-nil (as_list (name_in container name)))

-- ---- one file by its name

not_named : (files : List File) (name : Bytes) → is_named (map (λ file. file.name) files) name ≡ false → file_of files name ≡ None
not_named [] name h = refl
not_named (f ∷ fs) name h =
    let p = or_parts _ _ h in
    ap (λ b. cond b (Some f.bytes) (file_of fs name)) p.0 ∙ not_named fs name p.1

-- a file that the names don't list isn't there
pub unlisted : (container name : Bytes) (names : List Bytes) (files : List File) → names ≡ names_inside container files → is_named names name ≡ false → file_of (inside container files) name ≡ None
unlisted container name names files e h = not_named (inside container files) name (ap (λ xs. is_named xs name) (sym e) ∙ h)

-- a file's bytes by its whole name
pub by_whole : (container name whole : Bytes) (files : List File) → whole ≡ whole_name container name → file_of (inside container files) name ≡ file_of files whole
by_whole container name whole files e = file_inside container (whole_name container name) name files (after_again (container ++ 47 ∷ []) name) ∙ ap (file_of files) (sym e)

named_append : (xs ys : List Bytes) (name : Bytes) → is_named (xs ++ ys) name ≡ (is_named xs name || is_named ys name)
named_append [] ys name = refl
named_append (x ∷ xs) ys name = ap (λ b. is_same x name || b) (named_append xs ys name) ∙ or_assoc (is_same x name) (is_named xs name) (is_named ys name)

pub named_more : (names : List Bytes) (i : ℕ) (listed name : Bytes) → i < length names → listed ≡ get_or names i listed → is_named (take (i + 1) names) name ≡ (is_named (take i names) name || is_same listed name)
named_more names i listed name h e = ap (λ xs. is_named xs name) (take_item names i listed h e) ∙ named_append (take i names) (listed ∷ []) name ∙ ap (λ b. is_named (take i names) name || b) (or_false (is_same listed name))

pub named_here : (names : List Bytes) (i : ℕ) (listed name : Bytes) → i < length names → listed ≡ get_or names i listed → is_same listed name ≡ true → is_named names name ≡ true
named_here names i listed name h e s =
    ap (λ xs. is_named xs name) (sym (take-append-drop (i + 1) names))
    ∙ named_append (take (i + 1) names) (drop (i + 1) names) name
    ∙ or_left _ _ (named_more names i listed name h e ∙ or_right _ _ s)

-- ---- a property

-- what a get of a property says
pub property_got : (container name whole : Bytes) (files : List File) (got : Option Bytes) → whole ≡ whole_name container name → got ≡ file_of files whole → property_in (file_of (inside container files) name) ≡ property_in got
property_got container name whole files got e g = ap property_in (by_whole container name whole files e ∙ sym g)

-- what the bytes of a property say
pub property_read : (got : Option Bytes) (bytes slice : Bytes) (r o : Option ℕ) → got ≡ Some bytes → slice ≡ bytes → r ≡ property_of slice → r ≡ o → property_in got ≡ (o >>= λ n. Some (Some n))
property_read got bytes slice r o a b d e = ap property_in (a ∙ ap Some (sym b)) ∙ ap (λ x. x >>= λ n. Some (Some n)) (sym d ∙ e)
