-- What stays as one more piece is noted.
use Rattle.std.proofs.Common.{◌≡◌, Bool, true, false, not, ◌||◌, List, [], ◌∷◌, map, Some, None, refl, sym, ap, ◌∙◌, subst}
use Rattle.std.specs.List.{AllByRecursion}
use Rattle.fb_bytes.specs.Bytes.{Bytes, is_below, is_same}
use Rattle.fb_bytes.specs.Keys.{holds, in_ranges, is_backwards, AreSeparate}
use Rattle.fb_bytes.proofs.Order.{not_both}
use Rattle.snapshot_plan.specs.declared.Noted.{Noted}
use Rattle.snapshot_plan.specs.Listing.{noted_names, IsNew, AreDistinct}
use Rattle.snapshot_plan.specs.Noted.{Map, pieces_of, with_noted, fault_of}
use Rattle.manifests.specs.Files.{version_of}
use Rattle.snapshot_plan.specs.Pieces.{ArePieces, outside, overlap, IsFirstOrNone}
use Rattle.snapshot_plan.proofs.Manifests.{placed_all, placed_cases, same_turn}
use Rattle.snapshot_plan.proofs.Taking.{take_back_law}
use Rattle.snapshot_plan.proofs.Walking.{piece_law, may_stay, no_overlap, no_outside}
use Rattle.backup_core.specs.Manifests.{NotedThere, AreInside, NotingLaw, UndoLaw}
use Rattle.backup_core.proofs.Manifests.{from_not}

either_held : (a b : Bool) → (a || b) ≡ true → (a ≡ false) → b ≡ true
either_held true b h f = not_both refl f
either_held false b h f = h

inside_is : (map : Map) (one : Noted) → AreSeparate map.ranges → is_backwards one.piece ≡ false → fault_of map one.piece ≡ None → AreInside map.ranges map.noted → AreInside map.ranges (with_noted one map.noted)
inside_is map one separate proper none inside key h = go (holds one.piece key) refl
  where
    pieces : IsFirstOrNone (holds one.piece) (λ k. not (in_ranges map.ranges k)) None
    pieces = subst (IsFirstOrNone (holds one.piece) (λ k. not (in_ranges map.ranges k))) (no_outside (outside map.ranges one.piece) (overlap (pieces_of map.noted) one.piece) none) (piece_law.outside map.ranges one.piece (piece_law.ranges map.ranges separate))

    go : (b : Bool) → holds one.piece key ≡ b → in_ranges map.ranges key ≡ true
    go true e = from_not (in_ranges map.ranges key) (pieces key e)
    go false e = inside key (either_held (holds one.piece key) (in_ranges (pieces_of map.noted) key) (sym (piece_law.more one map.noted key) ∙ h) e)

pieces_are : (map : Map) (one : Noted) → is_backwards one.piece ≡ false → fault_of map one.piece ≡ None → ArePieces (pieces_of map.noted) → ArePieces (pieces_of (with_noted one map.noted))
pieces_are map one proper none pieces = may_stay one map.noted pieces proper (no_overlap (outside map.ranges one.piece) (overlap (pieces_of map.noted) one.piece) none)

-- no noted file has this name
abbrev pub NewTo : Bytes → List Noted → Type 0
NewTo name noted = AllByRecursion (λ n. is_same name n.file.name ≡ false) noted

pub new_to : (name : Bytes) (noted : List Noted) → IsNew name (noted_names noted) → NewTo name noted
new_to name [] h = tt
new_to name (n ∷ ns) h = (h.0, new_to name ns h.1)

pub is_new : (name : Bytes) (noted : List Noted) → NewTo name noted → IsNew name (noted_names noted)
is_new name [] h = tt
is_new name (n ∷ ns) h = (h.0, is_new name ns h.1)

distinct_is : (one : Noted) (noted : List Noted) → IsNew one.file.name (noted_names noted) → AreDistinct (noted_names noted) → AreDistinct (noted_names (with_noted one noted))
distinct_is one [] new d = (tt, tt)
distinct_is one (n ∷ ns) new d =
    placed_cases (λ m. is_below m.piece.begin one.piece.begin) one n ns (λ zs. AreDistinct (noted_names zs))
    (λ t. (is_new n.file.name (with_noted one ns) (placed_all (λ m. is_same n.file.name m.file.name ≡ false) (λ m. is_below m.piece.begin one.piece.begin) one ns (same_turn one.file.name n.file.name new.0) (new_to n.file.name ns d.0)), distinct_is one ns new.1 d.1))
    (λ f. (new, d))

pub noting_law : NotingLaw
noting_law = record {
  inside = inside_is;
  pieces = pieces_are;
  there = λ ranges one noted h a. placed_all (NotedThere ranges) (λ m. is_below m.piece.begin one.piece.begin) one noted h a;
  names = λ one noted h a. placed_all (λ n. version_of n.file.name ≡ Some n.file.version) (λ m. is_below m.piece.begin one.piece.begin) one noted h.0 a;
  distinct = distinct_is;
}

pub undo_law : UndoLaw
undo_law job piece now file = ap (λ (ns : List Noted). record job { noted = ns }) (take_back_law (record { piece = piece; file = file }) job.noted)
