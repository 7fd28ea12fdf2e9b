-- What mutations leave where they touch nothing, and where they are clipped.
use Rattle.std.proofs.Common.{◌≡◌, ℕ, Bool, true, false, not, ◌&&◌, ◌||◌, cond, List, [], ◌∷◌, ◌++◌, flat_map, Option, Some, None, refl, sym, ap, ◌∙◌, if◌then◌else◌, true≢false}
use Rattle.std.specs.Prelude.{◌↔◌}
use Rattle.std.proofs.lemmas.Bool.{false_from_ne_true, and_parts, and_from}
use Rattle.fb_bytes.specs.declared.KeyRange.{KeyRange}
use Rattle.fb_bytes.specs.Bytes.{Bytes, is_same}
use Rattle.fb_bytes.specs.Keys.{holds, in_ranges, is_backwards}
use Rattle.atomic_ops.specs.Operation.{operation}
use Rattle.mutations.specs.declared.mutation.Mutation.{Mutation}
use Rattle.mutations.specs.declared.mutation.Mutation.TheVariants.{Set, ClearRange, Atomic}
use Rattle.mutations.specs.Effects.{range_of, effect, effects, common}
use Rattle.mutations.specs.Clipping.{cleared, clipped, all_clipped}
use Rattle.mutations.specs.Laws.{UntouchedLaw, TouchLaw, ClipLaw}
use Rattle.mutations.proofs.Basics.{not_both, and_true}
use Rattle.fb_bytes.proofs.Order.{same_eq, same_itself}
use Rattle.mutations.proofs.Intersections.{holds_common, holds_backwards, holds_begin}

pub untouched : UntouchedLaw
untouched limit (Set k value) key old h = ap (λ t. cond t (Some value) old) h
untouched limit (ClearRange begin end) key old h = ap (λ t. cond t None old) h
untouched limit (Atomic op k param) key old h = ap (λ t. cond t (operation op old param limit) old) h

-- ---- touching a range is touching a key of it

named : (k : Bytes) (range : KeyRange) → (holds range k ≡ true) ↔ ((key : Bytes) × (holds range key ≡ true) × (is_same k key ≡ true))
named k range = (λ h. (k, h, same_itself k), λ h. ap (holds range) (same_eq k h.0 h.2) ∙ h.1)

spanned : (span range : KeyRange) → (not (is_backwards (common span range)) ≡ true) ↔ ((key : Bytes) × (holds range key ≡ true) × (holds span key ≡ true))
spanned span range = (there, back)
  where
    there : not (is_backwards (common span range)) ≡ true → (key : Bytes) × (holds range key ≡ true) × (holds span key ≡ true)
    there h =
        let both = and_parts _ _ (sym (holds_common span range (common span range).begin) ∙ holds_begin (common span range) (false_from_ne_true _ (λ e. not_both h (ap not e)))) in
        ((common span range).begin, both.1, both.0)

    back : ((key : Bytes) × (holds range key ≡ true) × (holds span key ≡ true)) → not (is_backwards (common span range)) ≡ true
    back h = ap not (false_from_ne_true (is_backwards (common span range)) (λ e. true≢false (sym (holds_common span range h.0 ∙ and_from _ _ h.2 h.1) ∙ holds_backwards (common span range) h.0 e)))

pub touch_law : TouchLaw
touch_law (Set k value) range = named k range
touch_law (ClearRange begin end) range = spanned (range_of begin end) range
touch_law (Atomic op k param) range = named k range

-- ---- clipped mutations

module _ (limit : ℕ) (key : Bytes) where
  pub effects_append : (xs ys : List Mutation) (old : Option Bytes) → effects limit (xs ++ ys) key old ≡ effects limit ys key (effects limit xs key old)
  effects_append [] ys old = refl
  effects_append (x ∷ xs) ys old = effects_append xs ys (effect limit x key old)

  -- a mutation that is left out only where it does nothing
  kept_at : (b : Bool) (m : Mutation) (old : Option Bytes) → (b ≡ false → effect limit m key old ≡ old) → effects limit (if b then m ∷ [] else []) key old ≡ effect limit m key old
  kept_at true m old h = refl
  kept_at false m old h = sym (h refl)

  cleared_at : (range : KeyRange) (old : Option Bytes) → effects limit (cleared range) key old ≡ (if holds range key then None else old)
  cleared_at range old = go (is_backwards range) refl
    where
      go : (b : Bool) → is_backwards range ≡ b → effects limit (if b then [] else ClearRange range.begin range.end ∷ []) key old ≡ cond (holds range key) None old
      go true e = sym (ap (λ t. cond t None old) (holds_backwards range key e))
      go false e = refl

  two_clears : (h r rest : Bool) (old : Option Bytes) → cond (h && rest) None (cond (h && r) None old) ≡ cond (h && (r || rest)) None old
  two_clears false r rest old = refl
  two_clears true false rest old = refl
  two_clears true true false old = refl
  two_clears true true true old = refl

  no_clear : (h : Bool) (old : Option Bytes) → old ≡ cond (h && false) None old
  no_clear true old = refl
  no_clear false old = refl

  clears_at : (range : KeyRange) (ranges : List KeyRange) (old : Option Bytes) → effects limit (flat_map (λ r. cleared (common range r)) ranges) key old ≡ cond (holds range key && in_ranges ranges key) None old
  clears_at range [] old = no_clear (holds range key) old
  clears_at range (r ∷ rs) old =
      effects_append (cleared (common range r)) _ old
      ∙ clears_at range rs _
      ∙ ap (cond (holds range key && in_ranges rs key) None) (cleared_at (common range r) old ∙ ap (λ t. cond t None old) (holds_common range r key))
      ∙ two_clears (holds range key) (holds r key) (in_ranges rs key) old

  -- two keys of which one lies in the ranges and the other doesn't aren't the same
  other_key : (ranges : List KeyRange) (k : Bytes) (b : Bool) (x : Option Bytes) (old : Option Bytes) → in_ranges ranges key ≡ b → in_ranges ranges k ≡ not b → cond (is_same k key) x old ≡ old
  other_key ranges k true x old h g = ap (λ t. cond t x old) (false_from_ne_true (is_same k key) (λ e. true≢false (sym h ∙ sym (ap (in_ranges ranges) (same_eq k key e)) ∙ g)))
  other_key ranges k false x old h g = ap (λ t. cond t x old) (false_from_ne_true (is_same k key) (λ e. true≢false (sym g ∙ ap (in_ranges ranges) (same_eq k key e) ∙ h)))

  pub clip_same : (ranges : List KeyRange) → in_ranges ranges key ≡ true → (m : Mutation) (old : Option Bytes) → effects limit (clipped ranges m) key old ≡ effect limit m key old
  clip_same ranges h (Set k value) old = kept_at (in_ranges ranges k) (Set k value) old (other_key ranges k true (Some value) old h)
  clip_same ranges h (Atomic op k param) old = kept_at (in_ranges ranges k) (Atomic op k param) old (other_key ranges k true (operation op old param limit) old h)
  clip_same ranges h (ClearRange begin end) old = clears_at (range_of begin end) ranges old ∙ ap (λ t. cond (holds (range_of begin end) key && t) None old) h ∙ ap (λ t. cond t None old) (and_true (holds (range_of begin end) key))

  pub clips_same : (ranges : List KeyRange) → in_ranges ranges key ≡ true → (ms : List Mutation) (old : Option Bytes) → effects limit (all_clipped ranges ms) key old ≡ effects limit ms key old
  clips_same ranges h [] old = refl
  clips_same ranges h (m ∷ ms) old = effects_append (clipped ranges m) _ old ∙ clips_same ranges h ms _ ∙ ap (effects limit ms key) (clip_same ranges h m old)

  -- a mutation that stays only where it does nothing
  dropped_at : (b : Bool) (m : Mutation) (old : Option Bytes) → (b ≡ true → effect limit m key old ≡ old) → effects limit (if b then m ∷ [] else []) key old ≡ old
  dropped_at true m old h = h refl
  dropped_at false m old h = refl

  clip_none : (ranges : List KeyRange) → in_ranges ranges key ≡ false → (m : Mutation) (old : Option Bytes) → effects limit (clipped ranges m) key old ≡ old
  clip_none ranges h (Set k value) old = dropped_at (in_ranges ranges k) (Set k value) old (other_key ranges k false (Some value) old h)
  clip_none ranges h (Atomic op k param) old = dropped_at (in_ranges ranges k) (Atomic op k param) old (other_key ranges k false (operation op old param limit) old h)
  clip_none ranges h (ClearRange begin end) old = clears_at (range_of begin end) ranges old ∙ ap (λ t. cond (holds (range_of begin end) key && t) None old) h ∙ sym (no_clear (holds (range_of begin end) key) old)

  pub clips_none : (ranges : List KeyRange) → in_ranges ranges key ≡ false → (ms : List Mutation) (old : Option Bytes) → effects limit (all_clipped ranges ms) key old ≡ old
  clips_none ranges h [] old = refl
  clips_none ranges h (m ∷ ms) old = effects_append (clipped ranges m) _ old ∙ clips_none ranges h ms _ ∙ clip_none ranges h m old

pub clip_law : ClipLaw
clip_law limit ranges muts = record {
  inside = λ key old h. clips_same limit key ranges h muts old;
  outside = λ key old h. clips_none limit key ranges h muts old;
}
