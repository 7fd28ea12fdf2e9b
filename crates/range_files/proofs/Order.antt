-- The order of the keys of a block.
use Rattle.std.proofs.Common.{◌≡◌, ℕ, ◌+◌, Bool, true, false, cond, ◌&&◌, List, [], ◌∷◌, ◌++◌, length, Option, Some, None, refl, ap, ◌∙◌}
use Rattle.std.proofs.lemmas.Bool.{and_parts, and_from, not-true, not_from_false, cond-true}
use Rattle.fb_bytes.specs.Bytes.{Bytes, is_below, is_same}
use Rattle.fb_bytes.specs.Pairs.{AreRising}
use Rattle.fb_bytes.specs.declared.Pair.{Pair}
use Rattle.fb_bytes.proofs.Order.{below_trans, below_itself, below_down, same_eq, same_itself}
use Rattle.range_files.specs.Grammar.{RiseFrom, end_key, IsOrdered, StartsAt}
use Rattle.range_files.proofs.Items.{HasKey}
use Rattle.range_files.specs.Reading.{unrisen, starts_well, ends_well, disorder}

-- ---- the keys of a block

risen_go : {A : Type 0} (b : Bool) (o : Option A) (at : A) → cond b o (Some at) ≡ None → (b ≡ true) × (o ≡ None)
risen_go true o at e = (refl, e)
risen_go false o at e = absurd cc

lone_go : {A : Type 0} (b : Bool) (at : A) → cond b None (Some at) ≡ None → b ≡ true
lone_go true at e = refl
lone_go false at e = absurd cc

pub unrisen_none : (last : Bytes) (at : ℕ) (pairs : List Pair) (end : Option Bytes) → unrisen last at pairs end ≡ None → RiseFrom last pairs end
unrisen_none last at [] None e = tt
unrisen_none last at [] (Some end) e = lone_go (is_below last end) at e
unrisen_none last at (pair ∷ pairs) end e =
    let next = at + (8 + length pair.key + length pair.value) in
    let g = risen_go (is_below last pair.key) (unrisen pair.key next pairs end) at e in
    (g.0, unrisen_none pair.key next pairs end g.1)

pub unrisen_again : (last : Bytes) (at : ℕ) (pairs : List Pair) (end : Option Bytes) → RiseFrom last pairs end → unrisen last at pairs end ≡ None
unrisen_again last at [] None h = refl
unrisen_again last at [] (Some end) h = cond-true (is_below last end) None (Some at) h
unrisen_again last at (pair ∷ pairs) end h =
    let next = at + (8 + length pair.key + length pair.value) in
    cond-true (is_below last pair.key) (unrisen pair.key next pairs end) (Some at) h.0 ∙ unrisen_again pair.key next pairs end h.1

-- the end key is past what the first key is past
past_end : (begin : Bytes) (pair : Pair) (pairs : List Pair) (end : Option Bytes) → is_below begin pair.key ≡ true → RiseFrom pair.key pairs end → is_below begin (end_key pair pairs end) ≡ true
past_end begin pair [] None below rise = below
past_end begin pair [] (Some end) below rise = below_trans begin pair.key end below rise
past_end begin pair (next ∷ pairs) end below rise = past_end begin next pairs end (below_trans begin pair.key next.key below rise.0) rise.1

pub from_end : (begin : Bytes) (pair : Pair) (pairs : List Pair) (end : Option Bytes) → is_below pair.key begin ≡ false → ends_well begin pair.key pairs end ≡ true → RiseFrom pair.key pairs end → is_below begin (end_key pair pairs end) ≡ true
from_end begin pair [] None from well rise = well
from_end begin pair [] (Some end) from well rise = below_down begin pair.key end from rise
from_end begin pair (next ∷ pairs) end from well rise = past_end begin next pairs end (below_down begin pair.key next.key from rise.0) rise.1

ends_from : (begin : Bytes) (pair : Pair) (pairs : List Pair) (end : Option Bytes) → is_below begin (end_key pair pairs end) ≡ true → ends_well begin pair.key pairs end ≡ true
ends_from begin pair [] None past = past
ends_from begin pair [] (Some end) past = refl
ends_from begin pair (next ∷ pairs) end past = refl

starts_at : (first : Bool) (begin key : Bytes) → starts_well first begin key ≡ true → is_below key begin ≡ false
starts_at true begin key e = not-true (is_below key begin) e
starts_at false begin key e = ap (λ (k : Bytes). is_below k begin) (same_eq key begin e) ∙ below_itself begin

starts_from : (first : Bool) (begin key : Bytes) → is_below key begin ≡ false → (first ≡ false → key ≡ begin) → starts_well first begin key ≡ true
starts_from true begin key from same = not_from_false (is_below key begin) from
starts_from false begin key from same = ap (λ (k : Bytes). is_same k begin) (same refl) ∙ same_itself begin

pub disorder_none : (first : Bool) (begin : Bytes) (at : ℕ) (pairs : List Pair) (end : Option Bytes) → HasKey pairs end → disorder first begin at pairs end ≡ None → IsOrdered begin pairs end
disorder_none first begin at [] None has e = absurd has
disorder_none first begin at [] (Some end) has e = lone_go (is_below begin end) at e
disorder_none first begin at (pair ∷ pairs) end has e =
    let next = at + (8 + length pair.key + length pair.value) in
    let g = risen_go (starts_well first begin pair.key && ends_well begin pair.key pairs end) (unrisen pair.key next pairs end) at e in
    let p = and_parts (starts_well first begin pair.key) (ends_well begin pair.key pairs end) g.0 in
    let rise = unrisen_none pair.key next pairs end g.1 in
    let from = starts_at first begin pair.key p.0 in
    (from, rise, from_end begin pair pairs end from p.1 rise)

pub disorder_starts : (begin : Bytes) (at : ℕ) (pairs : List Pair) (end : Option Bytes) → disorder false begin at pairs end ≡ None → StartsAt begin pairs
disorder_starts begin at [] end e = tt
disorder_starts begin at (pair ∷ pairs) end e =
    let next = at + (8 + length pair.key + length pair.value) in
    let g = risen_go (starts_well false begin pair.key && ends_well begin pair.key pairs end) (unrisen pair.key next pairs end) at e in
    let p = and_parts (starts_well false begin pair.key) (ends_well begin pair.key pairs end) g.0 in
    same_eq pair.key begin p.0

pub disorder_again : (first : Bool) (begin : Bytes) (at : ℕ) (pairs : List Pair) (end : Option Bytes) → IsOrdered begin pairs end → (first ≡ false → StartsAt begin pairs) → disorder first begin at pairs end ≡ None
disorder_again first begin at [] None h starts = absurd h
disorder_again first begin at [] (Some end) h starts = cond-true (is_below begin end) None (Some at) h
disorder_again first begin at (pair ∷ pairs) end h starts =
    let next = at + (8 + length pair.key + length pair.value) in
    let test = and_from (starts_well first begin pair.key) (ends_well begin pair.key pairs end) (starts_from first begin pair.key h.0 starts) (ends_from begin pair pairs end h.2) in
    cond-true (starts_well first begin pair.key && ends_well begin pair.key pairs end) (unrisen pair.key next pairs end) (Some at) test ∙ unrisen_again pair.key next pairs end h.1

-- ---- pairs in rising order

pub rising_from : (pair : Pair) (pairs : List Pair) (end : Option Bytes) → RiseFrom pair.key pairs end → AreRising (pair ∷ pairs)
rising_from pair [] end h = (tt, tt)
rising_from pair (next ∷ pairs) end h = (h.0, rising_from next pairs end h.1)

pub ordered_rising : (begin : Bytes) (pairs : List Pair) (end : Option Bytes) → IsOrdered begin pairs end → AreRising pairs
ordered_rising begin [] end h = tt
ordered_rising begin (pair ∷ pairs) end h = rising_from pair pairs end h.1

-- two runs of pairs that meet in one pair
pub rising_joined : (before : List Pair) (pair : Pair) (others : List Pair) → AreRising (before ++ pair ∷ []) → AreRising (pair ∷ others) → AreRising (before ++ pair ∷ others)
rising_joined [] pair others h g = g
rising_joined (a ∷ []) pair others h g = (h.0, g)
rising_joined (a ∷ b ∷ before) pair others h g = (h.0, rising_joined (b ∷ before) pair others h.1 g)
