-- What a store's files are after changes that were made one after the other.
use Rattle.std.proofs.Common.{◌≡◌, ℕ, ◌+◌, ◌<◌, List, [], ◌∷◌, ◌++◌, map, length, take, drop, get_or, Option, Some, None, option_map, Result, Ok, Err, OnOk, OnErr, ◌⊎◌, inl, inr, refl, sym, ap, ◌∙◌, subst, append_assoc, append-nil}
use Rattle.std.proofs.lemmas.List.{map-append, take-append-drop}
use Rattle.fb_bytes.specs.Bytes.{Bytes}
use Rattle.fb_outside.specs.declared.File.{File}
use Rattle.fb_outside.specs.declared.VaultFail.{VaultFail}
use Rattle.fb_outside.specs.declared.VaultFail.TheVariants as fails
use Rattle.mutations.proofs.Lengths.{take_item}
use Rattle.expire_core.specs.Changes.{Change, changed, all_changed, deletion, StopsIn}

-- what a store tells, or doesn't tell
abbrev Told : Type 0
Told = Option (List File)

pub changed_by_both : (xs ys : List Change) (files : List File) → all_changed (xs ++ ys) files ≡ all_changed ys (all_changed xs files)
changed_by_both [] ys files = refl
changed_by_both (x ∷ xs) ys files = changed_by_both xs ys (changed x files)

over : (xs ys : List Change) (before : Told) → option_map (all_changed (xs ++ ys)) before ≡ option_map (all_changed ys) (option_map (all_changed xs) before)
over xs ys None = refl
over xs ys (Some files) = ap Some (changed_by_both xs ys files)

-- some changes, and then others
pub then_all : (xs ys : List Change) (before middle after : Told) → middle ≡ option_map (all_changed xs) before → after ≡ option_map (all_changed ys) middle → after ≡ option_map (all_changed (xs ++ ys)) before
then_all xs ys before middle after m a = a ∙ ap (option_map (all_changed ys)) m ∙ sym (over xs ys before)

pub none_made : (changes : List Change) (before after : Told) → after ≡ before → StopsIn changes before after
none_made changes before after e = record { made = []; left = changes; is = refl; files = e ∙ same before }
  where
    same : (o : Told) → o ≡ option_map (all_changed []) o
    same None = refl
    same (Some files) = refl

pub all_made : (changes : List Change) (before after : Told) → after ≡ option_map (all_changed changes) before → StopsIn changes before after
all_made changes before after e = record { made = changes; left = []; is = sym (append-nil changes); files = e }

-- it stops among the later ones
pub stops_behind : (xs ys : List Change) (before middle after : Told) → middle ≡ option_map (all_changed xs) before → StopsIn ys middle after → StopsIn (xs ++ ys) before after
stops_behind xs ys before middle after m s = record {
  made = xs ++ s.made;
  left = s.left;
  is = ap (λ (zs : List Change). xs ++ zs) s.is ∙ sym (append_assoc xs s.made s.left);
  files = then_all xs s.made before middle after m s.files;
}

-- it stops among the first ones
pub stops_before : (xs ys : List Change) (before after : Told) → StopsIn xs before after → StopsIn (xs ++ ys) before after
stops_before xs ys before after s = record {
  made = s.made;
  left = s.left ++ ys;
  is = ap (λ (zs : List Change). zs ++ ys) s.is ∙ append_assoc s.made s.left ys;
  files = s.files;
}

-- ---- one call of a store

failed : (change : Change) (before after : Told) → ((files : List File) → before ≡ Some files → (after ≡ Some files) ⊎ (after ≡ Some (changed change files))) → (before ≡ None → after ≡ None) → StopsIn (change ∷ []) before after
failed change None after told silent = none_made (change ∷ []) None after (silent refl)
failed change (Some files) after told silent = go (told files refl)
  where
    go : (after ≡ Some files) ⊎ (after ≡ Some (changed change files)) → StopsIn (change ∷ []) (Some files) after
    go (inl e) = none_made (change ∷ []) (Some files) after e
    go (inr e) = all_made (change ∷ []) (Some files) after e

pub call_stopped : {T : Type 0} (r : Result T VaultFail) (call change : Change) (before after : Told) → call ≡ change → (r ≡ Err fails.Failed → (files : List File) → before ≡ Some files → (after ≡ Some files) ⊎ (after ≡ Some (changed call files))) → (r ≡ Err fails.NoMemory → after ≡ before) → (before ≡ None → after ≡ None) → OnErr r (StopsIn (change ∷ []) before after)
call_stopped (Ok x) call change before after e told starved silent = tt
call_stopped (Err fails.Failed) call change before after e told starved silent = subst (λ (y : Change). StopsIn (y ∷ []) before after) e (failed call before after (told refl) silent)
call_stopped (Err fails.NoMemory) call change before after e told starved silent = none_made (change ∷ []) before after (starved refl)

pub on_ok : {T P Q : Type 0} (r : Result T VaultFail) → (P → Q) → OnOk r P → OnOk r Q
on_ok (Ok x) f p = f p
on_ok (Err fail) f p = tt

pub on_err : {T P Q : Type 0} (r : Result T VaultFail) → (P → Q) → OnErr r P → OnErr r Q
on_err (Ok x) f p = tt
on_err (Err fail) f p = f p

-- ---- deletions in the order of the names

front_and_one : (container : Bytes) (names : List Bytes) (i : ℕ) (name : Bytes) → i < length names → name ≡ get_or names i name → map (deletion container) (take i names) ++ deletion container name ∷ [] ≡ map (deletion container) (take (i + 1) names)
front_and_one container names i name h e = sym (map-append (deletion container) (take i names) (name ∷ [])) ∙ ap (map (deletion container)) (sym (take_item names i name h e))

pub one_more : (container : Bytes) (names : List Bytes) (i : ℕ) (name : Bytes) (before middle after : Told) → i < length names → name ≡ get_or names i name → middle ≡ option_map (all_changed (map (deletion container) (take i names))) before → after ≡ option_map (changed (deletion container name)) middle → after ≡ option_map (all_changed (map (deletion container) (take (i + 1) names))) before
one_more container names i name before middle after h e m a =
    then_all (map (deletion container) (take i names)) (deletion container name ∷ []) before middle after m a
    ∙ ap (λ (xs : List Change). option_map (all_changed xs) before) (front_and_one container names i name h e)

pub stops_at : (container : Bytes) (names : List Bytes) (i : ℕ) (name : Bytes) (before middle after : Told) → i < length names → name ≡ get_or names i name → middle ≡ option_map (all_changed (map (deletion container) (take i names))) before → StopsIn (deletion container name ∷ []) middle after → StopsIn (map (deletion container) names) before after
stops_at container names i name before middle after h e m s =
    subst (λ (xs : List Change). StopsIn xs before after) whole
    (stops_before (map (deletion container) (take i names) ++ deletion container name ∷ []) (map (deletion container) (drop (i + 1) names)) before after
    (stops_behind (map (deletion container) (take i names)) (deletion container name ∷ []) before middle after m s))
  where
    whole : (map (deletion container) (take i names) ++ deletion container name ∷ []) ++ map (deletion container) (drop (i + 1) names) ≡ map (deletion container) names
    whole =
        ap (λ (xs : List Change). xs ++ map (deletion container) (drop (i + 1) names)) (front_and_one container names i name h e)
        ∙ sym (map-append (deletion container) (take (i + 1) names) (drop (i + 1) names))
        ∙ ap (map (deletion container)) (take-append-drop (i + 1) names)
