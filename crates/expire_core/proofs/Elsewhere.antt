-- An expire touches no file outside its container.
use Rattle.std.proofs.Common.{◌≡◌, Bool, true, false, List, [], ◌∷◌, ◌++◌, map, Some, None, refl, sym, ap, ◌∙◌, subst}
use Rattle.std.specs.List.{AllByRecursion}
use Rattle.fb_bytes.specs.Bytes.{Bytes, is_same}
use Rattle.fb_bytes.proofs.Order.{same_eq}
use Rattle.fb_outside.specs.declared.File.{File}
use Rattle.fb_outside.specs.Files.{file_of}
use Rattle.file_names.specs.Spelling.{unreliable_text, expired_text}
use Rattle.container_view.specs.Files.{whole_name, name_in}
use Rattle.container_view.proofs.Lookups.{file_law}
use Rattle.container_view.proofs.Stores.{store_law}
use Rattle.expire_core.specs.Changes.{Change, Put, Delete, changed, all_changed, setting, deletion}
use Rattle.expire_core.specs.Expiry.{Expiry}
use Rattle.expire_core.specs.Laws.{changes_in, ElsewhereLaw}

abbrev whole_of : Change → Bytes
whole_of (Put whole bytes) = whole
whole_of (Delete whole) = whole

-- the change is of a file in the container
abbrev IsInside : Bytes → Change → Type 0
IsInside container change = (name : Bytes) × (whole_of change ≡ whole_name container name)

abbrev AreInside : Bytes → List Change → Type 0
AreInside container changes = AllByRecursion (IsInside container) changes

at_front : (container : Bytes) (made left : List Change) → AreInside container (made ++ left) → AreInside container made
at_front container [] left h = tt
at_front container (x ∷ xs) left h = (h.0, at_front container xs left h.1)

behind : (container : Bytes) (names : List Bytes) (last : Change) → IsInside container last → AreInside container (map (deletion container) names ++ last ∷ [])
behind container [] last h = (h, tt)
behind container (n ∷ ns) last h = ((n, refl), behind container ns last h)

all_inside : (container : Bytes) (expiry : Expiry) → AreInside container (changes_in container expiry)
all_inside container expiry = ((unreliable_text, refl), behind container expiry.plan.names (setting container expired_text expiry.expired) (expired_text, refl))

module _ (container whole : Bytes) (out : name_in container whole ≡ None) where
  other : (name touched : Bytes) → touched ≡ whole_name container name → is_same touched whole ≡ false
  other name touched e = go (is_same touched whole) refl
    where
      go : (b : Bool) → is_same touched whole ≡ b → b ≡ false
      go true s =
          let both : None ≡ Some name = sym out ∙ ap (name_in container) (sym (same_eq touched whole s) ∙ e) ∙ store_law.whole_in container name in
          absurd cc
      go false s = refl

  one : (change : Change) (files : List File) → IsInside container change → file_of (changed change files) whole ≡ file_of files whole
  one (Put touched bytes) files h = file_law.put_other files touched bytes whole (other h.0 touched h.1)
  one (Delete touched) files h = file_law.deleted_other files touched whole (other h.0 touched h.1)

  all : (changes : List Change) (files : List File) → AreInside container changes → file_of (all_changed changes files) whole ≡ file_of files whole
  all [] files h = refl
  all (x ∷ xs) files h = all xs (changed x files) h.1 ∙ one x files h.0

pub elsewhere_law : ElsewhereLaw
elsewhere_law container expiry made left is files whole out =
    all container whole out made files (at_front container made left (subst (AreInside container) is (all_inside container expiry)))
