-- A writer's loop over the pairs.
use Rattle.std.proofs.Common.{◌≡◌, ℕ, ◌+◌, ◌*◌, ◌<◌, ◌≤◌, List, [], length, get_or, drop, Option, Some, None, refl, sym, ap, ◌∙◌, arith}
use Rattle.std.specs.List.{AllByRecursion}
use Rattle.std.proofs.lemmas.List.{drop_more, drop_all, length-append}
use Rattle.std.proofs.lemmas.List.Elements.{All-from_recursion}
use Rattle.fb_bytes.specs.Bytes.{Bytes}
use Rattle.fb_bytes.specs.declared.Pair.{Pair}
use Rattle.block_frame.specs.Text.{string}
use Rattle.block_frame.specs.Profiles.{key_limit_of, limit_of}
use Rattle.block_frame.specs.Frames.{Frames, no_frames, framed, text}
use Rattle.range_files.specs.Grammar.{format, pair_text}
use Rattle.range_files.specs.Writing.{repeat_of, with_pairs, range_text, PairFits}
use Rattle.block_frame.proofs.Strings.{string-length}
use Rattle.range_files.proofs.Written.{pair-length}

-- the pairs before were written, and these are left
pub record WrittenSoFar (size : ℕ) (frames : Frames) (repeat : Bytes) (left : List Pair) (end : Bytes) (total : Frames) : Type 0 where
  pub last : Option Pair
  pub repeat_is : repeat ≡ repeat_of last
  pub short : length repeat ≤ 12 + 2 * key_limit_of size + limit_of size
  pub same : with_pairs size frames last left end ≡ total

pub written_begin : (size : ℕ) (frames : Frames) (pairs : List Pair) (end : Bytes) → WrittenSoFar size frames [] pairs end (with_pairs size frames None pairs end)
written_begin size frames pairs end = record { last = None; repeat_is = refl; short = omega arith; same = refl }

pub repeat-length : (pair : Pair) → length (repeat_of (Some pair)) ≡ 12 + 2 * length pair.key + length pair.value
repeat-length pair = omega (arith, length-append (string pair.key) (pair_text pair), string-length pair.key, pair-length pair)

pub written_more : (size : ℕ) (frames : Frames) (repeat : Bytes) (i : ℕ) (pairs : List Pair) (end : Bytes) (total : Frames) (pair : Pair) → i < length pairs → pair ≡ get_or pairs i pair → length pair.key ≤ key_limit_of size → length pair.value ≤ limit_of size
    → WrittenSoFar size frames repeat (drop i pairs) end total → WrittenSoFar size (framed size format frames (pair_text pair) repeat) (repeat_of (Some pair)) (drop (i + 1) pairs) end total
written_more size frames repeat i pairs end total pair lt is key value s = record {
  last = Some pair;
  repeat_is = refl;
  short = omega (arith, repeat-length pair);
  same = ap (λ (r : Bytes). with_pairs size (framed size format frames (pair_text pair) r) (Some pair) (drop (i + 1) pairs) end) s.repeat_is
      ∙ ap (λ (p : Pair). with_pairs size (framed size format frames (pair_text p) (repeat_of s.last)) (Some p) (drop (i + 1) pairs) end) is
      ∙ sym (ap (λ (ps : List Pair). with_pairs size frames s.last ps end) (drop_more pairs i pair lt)) ∙ s.same;
}

pub written_end : (size : ℕ) (frames : Frames) (repeat : Bytes) (i : ℕ) (pairs : List Pair) (end : Bytes) (total : Frames) → length pairs ≤ i → WrittenSoFar size frames repeat (drop i pairs) end total → framed size format frames (string end) repeat ≡ total
written_end size frames repeat i pairs end total le s =
    ap (framed size format frames (string end)) s.repeat_is ∙ sym (ap (λ (ps : List Pair). with_pairs size frames s.last ps end) (drop_all i pairs le)) ∙ s.same

pub pair_fits : (size : ℕ) (begin end : Bytes) (pairs : List Pair) (i : ℕ) (pair : Pair) → AllByRecursion (PairFits size begin end) pairs → i < length pairs → pair ≡ get_or pairs i pair → PairFits size begin end pair
pair_fits size begin end pairs i pair each lt is = rw is (All-from_recursion (PairFits size begin end) pairs each i pair lt)

pub written_text : (size : ℕ) (frames new : Frames) (begin end : Bytes) (all pairs : List Pair) (repeat last again result : Bytes) (i : ℕ) → result ≡ text new → new ≡ framed size format frames last again → last ≡ string end → again ≡ repeat → length pairs ≤ i
    → WrittenSoFar size frames repeat (drop i pairs) end (with_pairs size (framed size format no_frames (string begin) []) None all end) → result ≡ range_text size begin end all
unfolding range_text
written_text size frames new begin end all pairs repeat last again result i r n l a le s =
    r ∙ ap text (n ∙ ap (λ (x : Bytes × Bytes). framed size format frames x.0 x.1) (ap (λ (x : Bytes). (x, again)) l ∙ ap (λ (x : Bytes). (string end, x)) a) ∙ written_end size frames repeat i pairs end (with_pairs size (framed size format no_frames (string begin) []) None all end) le s)
