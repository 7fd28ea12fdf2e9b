-- Readings that go on step by step, over plain variables.
use Rattle.std.proofs.Common.{◌≡◌, ◌∙◌, ℕ, List, [], ◌∷◌, map, Option, Some, None, Result, Ok, Err, inl, inr, ◌⊎◌, refl, sym, ap, subst, IfOk, IfErr}
use Rattle.fb_bytes.specs.Bytes.{Bytes}
use Rattle.fb_outside.specs.declared.File.{File}
use Rattle.fb_outside.specs.Files.{file_of}
use Rattle.file_names.specs.Spelling.{unreliable_text, expired_text}
use Rattle.container_view.specs.declared.view.ViewFault.{ViewFault}
use Rattle.container_view.specs.declared.view.ViewFault.TheVariants as faults
use Rattle.container_view.specs.declared.view.FileFault.TheVariants as file_faults
use Rattle.container_view.specs.Property.{property_in}
use Rattle.container_view.specs.Sets.{Fails, with_properties}

pub filed : (files : List File) (names : List Bytes) → (names ≡ [] → ⊥) → names ≡ map (λ (f : File). f.name) files → files ≡ [] → ⊥
filed files names some is e = some (is ∙ ap (map (λ (f : File). f.name)) e)

module _ {A : Type 0} (next : List Bytes → Option ℕ → Option ℕ → Result A ViewFault) where
  -- once both properties are read, the rest is by the names
  pub goes : (files : List File) (names : List Bytes) (unreliable expired : Option ℕ) → (files ≡ [] → ⊥) → names ≡ map (λ (f : File). f.name) files → property_in (file_of files unreliable_text) ≡ Some unreliable → property_in (file_of files expired_text) ≡ Some expired → with_properties files next ≡ next names unreliable expired
  goes [] names unreliable expired some is u e = absurd (some refl)
  goes (f ∷ fs) names unreliable expired some is u e = rw (u, e, is) refl

  -- a damaged property is the first fault
  pub stops_at_once : (files : List File) → (files ≡ [] → ⊥) → property_in (file_of files unreliable_text) ≡ None → with_properties files next ≡ Err (faults.Damaged unreliable_text file_faults.Property)
  stops_at_once [] some u = absurd (some refl)
  stops_at_once (f ∷ fs) some u = rw u refl

  pub stops_late : (files : List File) (unreliable : Option ℕ) → (files ≡ [] → ⊥) → property_in (file_of files unreliable_text) ≡ Some unreliable → property_in (file_of files expired_text) ≡ None → with_properties files next ≡ Err (faults.Damaged expired_text file_faults.Property)
  stops_late [] unreliable some u e = absurd (some refl)
  stops_late (f ∷ fs) unreliable some u e = rw (u, e) refl

-- a call that answers a fault of the store, want of memory, or what the files give
pub stops : (fault damage : ViewFault) {A P : Type 0} (reading : Result A ViewFault) → (fault ≡ faults.VaultFault) ⊎ ((fault ≡ faults.NoMemory) ⊎ ((fault ≡ damage) × P)) → (P → reading ≡ Err damage) → Fails fault reading
stops fault damage reading (inl a) k = inl a
stops fault damage reading (inr (inl a)) k = inr (inl a)
stops fault damage reading (inr (inr d)) k = inr (inr (k d.1 ∙ ap Err (sym d.0)))

-- the same from a fact on the two readings
pub fails_on : {A : Type 0} (fault : ViewFault) (x : Result A ViewFault) → Fails fault x → (y : Result A ViewFault) → y ≡ x → Fails fault y
fails_on fault x f y e = subst (λ z. Fails fault z) (sym e) f

pub on_ok : {A : Type 0} {P Q : A → Type 0} (r : Result A ViewFault) → ((x : A) → P x → Q x) → IfOk r P → IfOk r Q
on_ok (Ok x) f p = f x p
on_ok (Err e) f p = p

pub on_err : {A : Type 0} {P Q : ViewFault → Type 0} (r : Result A ViewFault) → ((e : ViewFault) → P e → Q e) → IfErr r P → IfErr r Q
on_err (Ok x) f p = p
on_err (Err e) f p = f e p
