-- What is written is in the grammar.
use Rattle.std.proofs.Common.{◌≡◌, ℕ, ◌+◌, ◌-◌, ◌^◌, ◌<◌, ◌≤◌, Bool, true, false, leb, List, [], ◌∷◌, ◌++◌, length, replicate, Option, Some, None, refl, sym, ap, subst, ◌∙◌, append_assoc, arith}
use Rattle.std.specs.List.{AllByRecursion}
use Rattle.std.proofs.lemmas.Bool.{leb-true, leb-false}
use Rattle.std.proofs.lemmas.List.{append-nil, length-append, length-replicate}
use Rattle.fb_bytes.specs.Bytes.{Bytes, is_below}
use Rattle.fb_bytes.specs.Pairs.{AreRising}
use Rattle.fb_bytes.specs.declared.Pair.{Pair}
use Rattle.block_frame.specs.Text.{header, string}
use Rattle.block_frame.specs.Profiles.{key_limit_of, limit_of, IsRoomy}
use Rattle.block_frame.specs.Frames.{Frames, no_frames, framed, begun, padded, text}
use Rattle.block_frame.proofs.Padding.{padding_is}
use Rattle.block_frame.proofs.Frames.{framed_first, framed_fits, framed_begins, roomy}
use Rattle.block_frame.proofs.Strings.{string-length}
use Rattle.range_files.specs.Grammar.{format, pair_text, pairs_text, block_text, padding_like, LengthsFit, RiseFrom, end_key, IsOrdered, IsBlock, RangeFile, LastBlock, EarlierBlock}
use Rattle.range_files.specs.Writing.{repeat_of, with_pairs, range_text, PairFits, IsWritable}
use Rattle.range_files.specs.Laws.{WrittenIsFile, WrittenIsRead}
use Rattle.fb_bytes.proofs.Order.{below_itself}
use Rattle.range_files.proofs.Order.{from_end}
use Rattle.range_files.proofs.Files.{file_is_read}

-- ---- lists of pairs

all_front : (P : Pair → Type 0) (xs ys : List Pair) → AllByRecursion P (xs ++ ys) → AllByRecursion P xs
all_front P [] ys h = tt
all_front P (x ∷ xs) ys h = (h.0, all_front P xs ys h.1)

all_back : (P : Pair → Type 0) (xs ys : List Pair) → AllByRecursion P (xs ++ ys) → AllByRecursion P ys
all_back P [] ys h = h
all_back P (x ∷ xs) ys h = all_back P xs ys h.1

rising_front : (xs ys : List Pair) → AreRising (xs ++ ys) → AreRising xs
rising_front [] ys h = tt
rising_front (x ∷ []) ys h = (tt, tt)
rising_front (x ∷ y ∷ xs) ys h = (h.0, rising_front (y ∷ xs) ys h.1)

rising_back : (xs ys : List Pair) → AreRising (xs ++ ys) → AreRising ys
rising_back [] ys h = h
rising_back (x ∷ xs) ys h = rising_back xs ys h.1

-- ---- the order of a block

pub record Fits (size : ℕ) (end : Bytes) (pair : Pair) : Type 0 where
  pub key : length pair.key ≤ key_limit_of size
  pub value : length pair.value ≤ limit_of size
  pub below : is_below pair.key end ≡ true

rise_none : (pair : Pair) (pairs : List Pair) → AreRising (pair ∷ pairs) → RiseFrom pair.key pairs None
rise_none pair [] h = tt
rise_none pair (next ∷ pairs) h = (h.0, rise_none next pairs h.1)

rise_end : (size : ℕ) (end : Bytes) (pair : Pair) (pairs : List Pair) → AreRising (pair ∷ pairs) → AllByRecursion (Fits size end) (pair ∷ pairs) → RiseFrom pair.key pairs (Some end)
rise_end size end pair [] h fits = fits.0.below
rise_end size end pair (next ∷ pairs) h fits = (h.0, rise_end size end next pairs h.1 fits.1)

end_is : (pair : Pair) (pairs : List Pair) (end : Bytes) → end_key pair pairs (Some end) ≡ end
end_is pair [] end = refl
end_is pair (next ∷ pairs) end = end_is next pairs end

-- the first key isn't below the begin key
abbrev pub FirstFrom : Bytes → List Pair → Type 0
FirstFrom begin [] = Unit {0}
FirstFrom begin (pair ∷ pairs) = is_below pair.key begin ≡ false

ordered_last : (size : ℕ) (begin end : Bytes) (pairs : List Pair) → AreRising pairs → AllByRecursion (Fits size end) pairs → FirstFrom begin pairs → is_below begin end ≡ true → IsOrdered begin pairs (Some end)
ordered_last size begin end [] rising fits from forward = forward
ordered_last size begin end (pair ∷ pairs) rising fits from forward = (from, rise_end size end pair pairs rising fits, ap (is_below begin) (end_is pair pairs end) ∙ forward)

ordered_earlier : (begin : Bytes) (a b : Pair) (pairs : List Pair) → AreRising (a ∷ b ∷ pairs) → is_below a.key begin ≡ false → IsOrdered begin (a ∷ b ∷ pairs) None
ordered_earlier begin a b pairs rising from =
    let rise = rise_none a (b ∷ pairs) rising in
    (from, rise, from_end begin a (b ∷ pairs) None from refl rise)

lengths_fit : (size limit : ℕ) (end : Bytes) (pairs : List Pair) (last : Option Bytes) → key_limit_of size < limit → key_limit_of size < padding_like → limit_of size < padding_like → AllByRecursion (Fits size end) pairs → LengthsFit limit [] last → LengthsFit padding_like [] last → LengthsFit limit pairs last
lengths_fit size limit end [] None k k' v fits l l' = tt
lengths_fit size limit end [] (Some e) k k' v fits l l' = l
lengths_fit size limit end (pair ∷ pairs) last k k' v fits l l' = (omega (arith, fits.0.key), omega (arith, fits.0.value), lengths_fit size padding_like end pairs last k' k' v fits.1 l' l')

-- ---- blocks

-- the present block, up to its pairs
abbrev pub present_text : Bytes → List Pair → Bytes
present_text begin pairs = header format ++ (string begin ++ pairs_text pairs)

text_none : (begin : Bytes) (pairs : List Pair) → present_text begin pairs ≡ block_text format begin pairs None
text_none begin pairs = ap (λ (x : Bytes). header format ++ (string begin ++ x)) (sym (append-nil (pairs_text pairs)))

text_end : (begin : Bytes) (pairs : List Pair) (end : Bytes) → present_text begin pairs ++ string end ≡ block_text format begin pairs (Some end)
text_end begin pairs end = append_assoc (header format) (string begin ++ pairs_text pairs) (string end) ∙ ap (λ (x : Bytes). header format ++ x) (append_assoc (string begin) (pairs_text pairs) (string end))

pairs_push : (pairs : List Pair) (pair : Pair) → pairs_text (pairs ++ (pair ∷ [])) ≡ pairs_text pairs ++ pair_text pair
pairs_push [] pair = append-nil (pair_text pair)
pairs_push (first ∷ pairs) pair = ap (λ (x : Bytes). pair_text first ++ x) (pairs_push pairs pair) ∙ sym (append_assoc (pair_text first) (pairs_text pairs) (pair_text pair))

text_push : (begin : Bytes) (pairs : List Pair) (pair : Pair) → present_text begin pairs ++ pair_text pair ≡ present_text begin (pairs ++ (pair ∷ []))
text_push begin pairs pair =
    append_assoc (header format) (string begin ++ pairs_text pairs) (pair_text pair)
    ∙ ap (λ (x : Bytes). header format ++ x) (append_assoc (string begin) (pairs_text pairs) (pair_text pair) ∙ ap (λ (x : Bytes). string begin ++ x) (sym (pairs_push pairs pair)))

-- a new block that goes on from a pair
text_begun_pair : (pair next : Pair) → begun format (repeat_of (Some pair)) (pair_text next) ≡ present_text pair.key (pair ∷ next ∷ [])
text_begun_pair pair next =
    append_assoc (header format) (string pair.key ++ pair_text pair) (pair_text next)
    ∙ ap (λ (x : Bytes). header format ++ x) (append_assoc (string pair.key) (pair_text pair) (pair_text next) ∙ ap (λ (x : Bytes). string pair.key ++ (pair_text pair ++ x)) (sym (append-nil (pair_text next))))

text_begun_end : (pair : Pair) (end : Bytes) → begun format (repeat_of (Some pair)) (string end) ≡ block_text format pair.key (pair ∷ []) (Some end)
text_begun_end pair end =
    append_assoc (header format) (string pair.key ++ pair_text pair) (string end)
    ∙ ap (λ (x : Bytes). header format ++ x) (append_assoc (string pair.key) (pair_text pair) (string end) ∙ ap (λ (x : Bytes). string pair.key ++ (x ++ string end)) (sym (append-nil (pair_text pair))))

pub pair-length : (pair : Pair) → length (pair_text pair) ≡ 8 + length pair.key + length pair.value
pair-length pair = omega (arith, length-append (string pair.key) (string pair.value), string-length pair.key, string-length pair.value)

present-length : (begin : Bytes) (pairs : List Pair) → length (present_text begin pairs) ≡ 8 + length begin + length (pairs_text pairs)
present-length begin pairs = omega (arith, length-append (string begin) (pairs_text pairs), string-length begin)

-- ---- what a writer writes from a block on

pub record Goes (size : ℕ) (begin end : Bytes) (pairs : List Pair) : Type 0 where
  pub roomy : IsRoomy size
  pub begin_limit : length begin ≤ key_limit_of size
  pub end_limit : length end ≤ key_limit_of size
  pub forward : is_below begin end ≡ true
  pub rising : AreRising pairs
  pub each : AllByRecursion (Fits size end) pairs
  pub from : FirstFrom begin pairs

-- the pair written last in the present block
abbrev pub LastIs : List Pair → Option Pair → Type 0
LastIs [] None = Unit {0}
LastIs [] (Some pair) = ⊥
LastIs (first ∷ pairs) None = ⊥
LastIs (first ∷ pairs) (Some pair) = (before : List Pair) × (first ∷ pairs ≡ before ++ (pair ∷ []))

last_push : (pairs : List Pair) (pair : Pair) → LastIs (pairs ++ (pair ∷ [])) (Some pair)
last_push [] pair = ([], refl)
last_push (first ∷ pairs) pair = (first ∷ pairs, refl)

from_front : (begin : Bytes) (xs ys : List Pair) → FirstFrom begin (xs ++ ys) → FirstFrom begin xs
from_front begin [] ys h = tt
from_front begin (x ∷ xs) ys h = h

-- what is written behind the full blocks is a file of the present block's pairs and those that follow
pub record Writes (size : ℕ) (full begin end : Bytes) (pairs : List Pair) (whole : Bytes) : Type 0 where
  pub rest : Bytes
  pub parts : whole ≡ full ++ rest
  pub file : RangeFile size rest begin end pairs

last_block : (size : ℕ) (begin end : Bytes) (pairs : List Pair) → Goes size begin end pairs → length (present_text begin pairs) + length (string end) ≤ size → RangeFile size (present_text begin pairs ++ string end) begin end pairs
last_block size begin end pairs g room =
    let r = g.roomy in
    let is : IsBlock format (present_text begin pairs ++ string end) begin pairs (Some end) = record {
      padding = [];
      parts = text_end begin pairs end ∙ sym (append-nil (block_text format begin pairs (Some end)));
      padded = tt;
      begin_fits = omega (arith, g.begin_limit, r.pairs, r.small);
      lengths = lengths_fit size (2 ^ 32) end pairs (Some end) (omega (arith, r.pairs, r.small)) (omega (arith, r.pairs, r.small)) (omega (arith, r.pairs, r.small)) g.each (omega (arith, g.end_limit, r.pairs, r.small)) (omega (arith, g.end_limit, r.pairs, r.small));
      ordered = ordered_last size begin end pairs g.rising g.each g.from g.forward;
    } in
    LastBlock is (omega (arith, length-append (present_text begin pairs) (string end)))

-- a block without two pairs has room for one more item
two_pairs : (size : ℕ) (begin end : Bytes) (pairs : List Pair) (n : ℕ) → IsRoomy size → length begin ≤ key_limit_of size → AllByRecursion (Fits size end) pairs → n ≤ 8 + key_limit_of size + limit_of size → size < length (present_text begin pairs) + n → (a : Pair) × (b : Pair) × (others : List Pair) × (pairs ≡ a ∷ b ∷ others)
two_pairs size begin end [] n r b fits small full = absurd (omega (arith, present-length begin [], r.pairs))
two_pairs size begin end (a ∷ []) n r b fits small full = absurd (omega (arith, present-length begin (a ∷ []), length-append (pair_text a) [], pair-length a, fits.0.key, fits.0.value, r.pairs))
two_pairs size begin end (a ∷ c ∷ others) n r b fits small full = (a, c, others, refl)

earlier_block : (size : ℕ) (begin end : Bytes) (pairs : List Pair) → Goes size begin end pairs → length (present_text begin pairs) ≤ size → (a : Pair) × (b : Pair) × (others : List Pair) × (pairs ≡ a ∷ b ∷ others) → IsBlock format (padded size (present_text begin pairs)) begin pairs None × (length (padded size (present_text begin pairs)) ≡ size)
earlier_block size begin end pairs g room two =
    let r = g.roomy in
    let n = size - length (present_text begin pairs) in
    let ordered : IsOrdered begin pairs None = subst (λ (ps : List Pair). IsOrdered begin ps None) (sym two.3) (ordered_earlier begin two.0 two.1 two.2 (subst AreRising two.3 g.rising) (subst (λ (ps : List Pair). FirstFrom begin ps) two.3 g.from)) in (
      record {
        padding = replicate n 255;
        parts = ap (λ (x : Bytes). x ++ replicate n 255) (text_none begin pairs);
        padded = padding_is n;
        begin_fits = omega (arith, g.begin_limit, r.pairs, r.small);
        lengths = lengths_fit size (2 ^ 32) end pairs None (omega (arith, r.pairs, r.small)) (omega (arith, r.pairs, r.small)) (omega (arith, r.pairs, r.small)) g.each tt tt;
        ordered = ordered;
      },
      omega (arith, length-append (present_text begin pairs) (replicate n 255), length-replicate {A = ℕ} n 255),
    )

-- a file whose first block is this one
joined : (size : ℕ) (begin end rest : Bytes) (pairs : List Pair) (last : Pair) (others : List Pair) (before : List Pair) → pairs ≡ before ++ (last ∷ []) → IsBlock format (padded size (present_text begin pairs)) begin pairs None × (length (padded size (present_text begin pairs)) ≡ size) → RangeFile size rest last.key end (last ∷ others) → RangeFile size (padded size (present_text begin pairs) ++ rest) begin end (pairs ++ others)
joined size begin end rest pairs last others before is block more =
    EarlierBlock (padded size (present_text begin pairs)) rest before others last refl (ap (λ (ps : List Pair). ps ++ others) is ∙ append_assoc before (last ∷ []) others) (subst (λ (ps : List Pair). IsBlock format (padded size (present_text begin pairs)) begin ps None) is block.0) block.1 more

later_goes : (size : ℕ) (begin end : Bytes) (before : List Pair) (last : Pair) (others : List Pair) → Goes size begin end ((before ++ (last ∷ [])) ++ others) → Goes size last.key end (last ∷ others)
later_goes size begin end before last others g =
    let split = append_assoc before (last ∷ []) others in
    let rising = rising_back before (last ∷ others) (subst AreRising split g.rising) in
    let each = all_back (Fits size end) before (last ∷ others) (subst (AllByRecursion (Fits size end)) split g.each) in
    record { roomy = g.roomy; begin_limit = each.0.key; end_limit = g.end_limit; forward = each.0.below; rising = rising; each = each; from = below_itself last.key }

front_goes : (size : ℕ) (begin end : Bytes) (pairs others : List Pair) → Goes size begin end (pairs ++ others) → Goes size begin end pairs
front_goes size begin end pairs others g = record { roomy = g.roomy; begin_limit = g.begin_limit; end_limit = g.end_limit; forward = g.forward; rising = rising_front pairs others g.rising; each = all_front (Fits size end) pairs others g.each; from = from_front begin pairs others g.from }

last_of_two : (pairs : List Pair) (last : Option Pair) → LastIs pairs last → (a : Pair) × (b : Pair) × (others : List Pair) × (pairs ≡ a ∷ b ∷ others) → (pair : Pair) × (before : List Pair) × (last ≡ Some pair) × (pairs ≡ before ++ (pair ∷ []))
last_of_two [] last l two = absurd (let bad = two.3 in cc)
last_of_two (first ∷ pairs) None l two = absurd l
last_of_two (first ∷ pairs) (Some pair) l two = (pair, l.0, refl, l.1)

end_step : (size : ℕ) (full begin end : Bytes) (pairs : List Pair) (last : Option Pair) → Goes size begin end pairs → LastIs pairs last → length (present_text begin pairs) ≤ size → (b : Bool) → leb (length (present_text begin pairs) + length (string end)) size ≡ b
    → Writes size full begin end pairs (text (framed size format (record { full = full; present = present_text begin pairs }) (string end) (repeat_of last)))
end_step size full begin end pairs last g l room true h =
    let small = leb-true _ _ h in
    record { rest = present_text begin pairs ++ string end; parts = ap text (framed_fits size format (record { full = full; present = present_text begin pairs }) (string end) (repeat_of last) (omega arith) small); file = last_block size begin end pairs g small }
end_step size full begin end pairs last g l room false h =
    let big = leb-false _ _ h in
    let r = g.roomy in
    let two = two_pairs size begin end pairs (length (string end)) r g.begin_limit g.each (omega (arith, string-length end, g.end_limit)) big in
    let p = last_of_two pairs last l two in
    let block = earlier_block size begin end pairs g room two in
    let one = later_goes size begin end p.1 p.0 [] (subst (Goes size begin end) (p.3 ∙ sym (append-nil (p.1 ++ (p.0 ∷ [])))) g) in
    let small : length (present_text p.0.key (p.0 ∷ [])) + length (string end) ≤ size = omega (arith, present-length p.0.key (p.0 ∷ []), length-append (pair_text p.0) [], pair-length p.0, one.begin_limit, one.each.0.value, g.end_limit, string-length end, r.pairs) in
    let more : RangeFile size (begun format (repeat_of (Some p.0)) (string end)) p.0.key end (p.0 ∷ []) = subst (λ (x : Bytes). RangeFile size x p.0.key end (p.0 ∷ [])) (text_end p.0.key (p.0 ∷ []) end ∙ sym (text_begun_end p.0 end)) (last_block size p.0.key end (p.0 ∷ []) one small) in
    let whole = joined size begin end (begun format (repeat_of (Some p.0)) (string end)) pairs p.0 [] p.1 p.3 block more in
    record {
      rest = padded size (present_text begin pairs) ++ begun format (repeat_of last) (string end);
      parts = ap text (framed_begins size format (record { full = full; present = present_text begin pairs }) (string end) (repeat_of last) (omega arith) big) ∙ append_assoc full (padded size (present_text begin pairs)) (begun format (repeat_of last) (string end));
      file = subst (λ (x : Option Pair). RangeFile size (padded size (present_text begin pairs) ++ begun format (repeat_of x) (string end)) begin end pairs) (sym p.2) (subst (RangeFile size (padded size (present_text begin pairs) ++ begun format (repeat_of (Some p.0)) (string end)) begin end) (append-nil pairs) whole);
    }

pair_step : (size : ℕ) (full begin end : Bytes) (pairs : List Pair) (last : Option Pair) (next : Pair) (left : List Pair) → Goes size begin end (pairs ++ (next ∷ left)) → LastIs pairs last → length (present_text begin pairs) ≤ size
    → ((full' begin' : Bytes) (pairs' : List Pair) → Goes size begin' end (pairs' ++ left) → LastIs pairs' (Some next) → length (present_text begin' pairs') ≤ size → Writes size full' begin' end (pairs' ++ left) (text (with_pairs size (record { full = full'; present = present_text begin' pairs' }) (Some next) left end)))
    → (b : Bool) → leb (length (present_text begin pairs) + length (pair_text next)) size ≡ b
    → Writes size full begin end (pairs ++ (next ∷ left)) (text (with_pairs size (framed size format (record { full = full; present = present_text begin pairs }) (pair_text next) (repeat_of last)) (Some next) left end))
pair_step size full begin end pairs last next left g l room ih true h =
    let small = leb-true _ _ h in
    let split = append_assoc pairs (next ∷ []) left in
    let pushed : framed size format (record { full = full; present = present_text begin pairs }) (pair_text next) (repeat_of last) ≡ record { full = full; present = present_text begin (pairs ++ (next ∷ [])) } =
    framed_fits size format (record { full = full; present = present_text begin pairs }) (pair_text next) (repeat_of last) (omega arith) small ∙ ap (λ (x : Bytes). record { full = full; present = x }) (text_push begin pairs next) in
    let fits : length (present_text begin (pairs ++ (next ∷ []))) ≤ size = omega (arith, ap length (text_push begin pairs next), length-append (present_text begin pairs) (pair_text next)) in
    let w = ih full begin (pairs ++ (next ∷ [])) (subst (Goes size begin end) (sym split) g) (last_push pairs next) fits in
    record { rest = w.rest; parts = ap (λ (f : Frames). text (with_pairs size f (Some next) left end)) pushed ∙ w.parts; file = subst (RangeFile size w.rest begin end) split w.file }
pair_step size full begin end pairs last next left g l room ih false h =
    let big = leb-false _ _ h in
    let r = g.roomy in
    let front = front_goes size begin end pairs (next ∷ left) g in
    let fit = (all_back (Fits size end) pairs (next ∷ left) g.each).0 in
    let two = two_pairs size begin end pairs (length (pair_text next)) r g.begin_limit front.each (omega (arith, pair-length next, fit.key, fit.value)) big in
    let p = last_of_two pairs last l two in
    let block = earlier_block size begin end pairs front room two in
    let later = later_goes size begin end p.1 p.0 (next ∷ left) (subst (λ (ps : List Pair). Goes size begin end (ps ++ (next ∷ left))) p.3 g) in
    let full' = full ++ padded size (present_text begin pairs) in
    let first = later.each.0 in
    let fits : length (present_text p.0.key (p.0 ∷ next ∷ [])) ≤ size = omega (arith, present-length p.0.key (p.0 ∷ next ∷ []), length-append (pair_text p.0) (pairs_text (next ∷ [])), length-append (pair_text next) [], pair-length p.0, pair-length next, first.key, first.value, fit.key, fit.value, r.pairs) in
    let w = ih full' p.0.key (p.0 ∷ next ∷ []) later (p.0 ∷ [], refl) fits in
    let begun' : framed size format (record { full = full; present = present_text begin pairs }) (pair_text next) (repeat_of last) ≡ record { full = full'; present = present_text p.0.key (p.0 ∷ next ∷ []) } =
    framed_begins size format (record { full = full; present = present_text begin pairs }) (pair_text next) (repeat_of last) (omega arith) big ∙ ap (λ (x : Bytes). record { full = full'; present = x }) (ap (λ (o : Option Pair). begun format (repeat_of o) (pair_text next)) p.2 ∙ text_begun_pair p.0 next) in
    record {
      rest = padded size (present_text begin pairs) ++ w.rest;
      parts = ap (λ (f : Frames). text (with_pairs size f (Some next) left end)) begun' ∙ w.parts ∙ append_assoc full (padded size (present_text begin pairs)) w.rest;
      file = joined size begin end w.rest pairs p.0 (next ∷ left) p.1 p.3 block w.file;
    }

pub writes : (size : ℕ) (left : List Pair) (full begin end : Bytes) (pairs : List Pair) (last : Option Pair) → Goes size begin end (pairs ++ left) → LastIs pairs last → length (present_text begin pairs) ≤ size → Writes size full begin end (pairs ++ left) (text (with_pairs size (record { full = full; present = present_text begin pairs }) last left end))
writes size [] full begin end pairs last g l room =
    let all = append-nil pairs in
    let w = end_step size full begin end pairs last (subst (Goes size begin end) all g) l room (leb (length (present_text begin pairs) + length (string end)) size) refl in
    record { rest = w.rest; parts = w.parts; file = subst (RangeFile size w.rest begin end) (sym all) w.file }
writes size (next ∷ left) full begin end pairs last g l room =
    pair_step size full begin end pairs last next left g l room (λ full' begin' pairs' g' l' room'. writes size left full' begin' end pairs' (Some next) g' l' room') (leb (length (present_text begin pairs) + length (pair_text next)) size) refl

each_fits : (size : ℕ) (begin end : Bytes) (pairs : List Pair) → AllByRecursion (PairFits size begin end) pairs → AllByRecursion (Fits size end) pairs
each_fits size begin end [] h = tt
each_fits size begin end (pair ∷ pairs) h = (record { key = h.0.key; value = h.0.value; below = h.0.below_end }, each_fits size begin end pairs h.1)

first_from : (size : ℕ) (begin end : Bytes) (pairs : List Pair) → AllByRecursion (PairFits size begin end) pairs → FirstFrom begin pairs
first_from size begin end [] h = tt
first_from size begin end (pair ∷ pairs) h = h.0.from_begin

pub written_file : (size : ℕ) (begin end : Bytes) (pairs : List Pair) → IsWritable size begin end pairs → AreRising pairs → RangeFile size (range_text size begin end pairs) begin end pairs
unfolding range_text
written_file size begin end pairs w rising =
    let r = roomy size w.size_listed in
    let g : Goes size begin end pairs = record { roomy = r; begin_limit = w.begin_limit; end_limit = w.end_limit; forward = w.forward; rising = rising; each = each_fits size begin end pairs w.each; from = first_from size begin end pairs w.each } in
    let start : begun format [] (string begin) ≡ present_text begin [] = ap (λ (x : Bytes). header format ++ x) (sym (append-nil (string begin))) in
    let fits : length (present_text begin []) ≤ size = omega (arith, present-length begin [], w.begin_limit, r.pairs) in
    let one = writes size pairs [] begin end [] None g tt fits in
    let first : framed size format no_frames (string begin) [] ≡ record { full = []; present = present_text begin [] } = framed_first size format (string begin) [] ∙ ap (λ (x : Bytes). record { full = []; present = x }) start in
    let whole : text (with_pairs size (framed size format no_frames (string begin) []) None pairs end) ≡ one.rest = ap (λ (f : Frames). text (with_pairs size f None pairs end)) first ∙ one.parts in
    subst (λ (x : Bytes). RangeFile size x begin end pairs) (sym whole) one.file

pub written_is_file : WrittenIsFile
written_is_file size begin end pairs w rising = written_file size begin end pairs w rising

pub written_is_read : WrittenIsRead
written_is_read size begin end pairs w rising = file_is_read size (range_text size begin end pairs) begin end pairs (written_file size begin end pairs w rising)
