-- The ranges that a list is joined to.
use Rattle.std.proofs.Common.{◌≡◌, ℕ, ◌<◌, suc, false, ◌||◌, List, [], ◌∷◌, length, get_or, None, refl, sym, ap, ◌∙◌, arith}
use Rattle.std.specs.List.{AllByRecursion}
use Rattle.fb_bytes.specs.Bytes.{Bytes}
use Rattle.fb_bytes.specs.Keys.{KeyRange, holds, in_ranges, is_backwards, AreSeparate, AreRanges}
use Rattle.fb_bytes.specs.RangeFaults.{range_fault}
use Rattle.fb_bytes.specs.Joining.{joined}
use Rattle.fb_bytes.proofs.Places.{sound_list}
use Rattle.fb_bytes.proofs.Unions.{in_ranges-with_range, separate-with_range}
use Rattle.fb_bytes.proofs.Separate.{same_list}

abbrev AreForward : List KeyRange → Type 0
AreForward = AllByRecursion (λ range. is_backwards range ≡ false)

in_ranges-joined : (list : List KeyRange) (key : Bytes) → in_ranges (joined list) key ≡ in_ranges list key
in_ranges-joined [] key = refl
in_ranges-joined (range ∷ list) key = in_ranges-with_range range (joined list) key ∙ ap (λ b. holds range key || b) (in_ranges-joined list key)

separate-joined : (list : List KeyRange) → AreForward list → AreSeparate (joined list)
separate-joined [] h = tt
separate-joined (range ∷ list) h = separate-with_range range (joined list) h.0 (separate-joined list h.1)

-- a test that fails at each place
all_at : (list : List KeyRange) → ((i : ℕ) (d : KeyRange) → i < length list → is_backwards (get_or list i d) ≡ false) → AreForward list
all_at [] h = tt
all_at (range ∷ list) h = (h 0 range (omega arith), all_at list (λ i d e. h (suc i) d (omega arith)))

-- ranges in order with the keys of a list that isn't refused are the list's ranges, joined
pub is_joined : (list ranges : List KeyRange) → range_fault list ≡ None → AreRanges ranges → ((key : Bytes) → in_ranges ranges key ≡ in_ranges list key) → ranges ≡ joined list
is_joined list ranges n r u =
    let sound = sound_list list n in
    same_list ranges (joined list) r.separate (separate-joined list (all_at list sound.forward)) (λ key. u key ∙ sym (in_ranges-joined list key))
