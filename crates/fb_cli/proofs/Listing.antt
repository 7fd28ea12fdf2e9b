-- Which names a list of containers has.
use Rattle.std.specs.Prelude.{◌≡◌, Bool, true, false, not, ◌&&◌, ◌||◌, ◌==◌, ℕ, List, [], ◌∷◌, nat_le, length, refl}
use Rattle.std.specs.List.{filter, list_all}
use Rattle.std.proofs.Common.{ap, sym, ◌∙◌, cond, subst}
use Rattle.std.proofs.lemmas.Bool.{eqb-true, and_parts, and_from}
use Rattle.std.proofs.lemmas.List.Kept.{IsStrictlySortedBy-filter}
use Rattle.fb_bytes.specs.Bytes.{Bytes, is_same}
use Rattle.fb_bytes.proofs.Order.{same_eq}
use Rattle.fb_outside.specs.declared.File.{File}
use Rattle.container_view.specs.Containers.{has_file, AreRising}
use Rattle.container_view.specs.Files.{has_no_slash}
use Rattle.container_view.specs.Names.{is_named}
use Rattle.workload_text.specs.Commands.{is_name_byte, begins_well, is_container_name}
use Rattle.cluster_core.proofs.Slashes.{no_slash}
use Rattle.fb_cli.specs.Lists.{AreContainers}

-- ---- a filtered list

kept_step : (p : Bytes → Bool) (x name : Bytes) (kept : List Bytes) (b px s : Bool) → p x ≡ px → is_same x name ≡ s → is_named kept name ≡ (p name && b) → is_named (cond px (x ∷ kept) kept) name ≡ (p name && (s || b))
kept_step p x name kept b true true h e i =
    ap (λ (q : Bool). q || is_named kept name) e
    ∙ sym (ap (λ (q : Bool). q && true) (ap p (sym (same_eq x name e)) ∙ h))
kept_step p x name kept b true false h e i = ap (λ (q : Bool). q || is_named kept name) e ∙ i
kept_step p x name kept b false true h e i =
    let n : p name ≡ false = ap p (sym (same_eq x name e)) ∙ h in
    i ∙ ap (λ (q : Bool). q && b) n ∙ sym (ap (λ (q : Bool). q && true) n)
kept_step p x name kept b false false h e i = i

nothing : (b : Bool) → false ≡ (b && false)
nothing true = refl
nothing false = refl

-- a filter keeps a name where it passes
named_filter : (p : Bytes → Bool) (names : List Bytes) (name : Bytes) → is_named (filter p names) name ≡ (p name && is_named names name)
named_filter p [] name = nothing (p name)
named_filter p (x ∷ names) name =
    kept_step p x name (filter p names) (is_named names name) (p x) (is_same x name) refl refl (named_filter p names name)

-- they stay in byte order
pub rising_filter : (names listed : List Bytes) → listed ≡ filter is_container_name names → AreRising names → AreRising listed
rising_filter names listed l rising = subst AreRising (sym l) (IsStrictlySortedBy-filter _ is_container_name names rising)

absorbed : (p q r : Bool) → (p ≡ true → q ≡ true) → (p && (q && r)) ≡ (p && r)
absorbed true q r h = ap (λ (x : Bool). x && r) (h refl)
absorbed false q r h = refl

-- those of a store's names with one part that a container may have are the containers
pub are_containers : (names listed : List Bytes) (files : List File) → listed ≡ filter is_container_name names → ((name : Bytes) → is_named names name ≡ (has_no_slash name && has_file name files)) → AreContainers files listed
are_containers names listed files l n name =
    ap (λ (xs : List Bytes). is_named xs name) l ∙ named_filter is_container_name names name
    ∙ ap (λ (q : Bool). is_container_name name && q) (n name)
    ∙ absorbed (is_container_name name) (has_no_slash name) (has_file name files) (no_slash name)
