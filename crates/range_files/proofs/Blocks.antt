-- A block that is read is in the grammar, and one that is in the grammar is read.
use Rattle.std.proofs.Common.{◌≡◌, ℕ, zero, suc, ◌+◌, ◌-◌, ◌^◌, ◌<◌, Bool, true, false, cond, eqb, List, [], ◌∷◌, ◌++◌, length, Option, Some, None, Ok, Err, refl, sym, ap, subst, ◌∙◌, append_assoc, arith, lit≤}
use Rattle.std.proofs.lemmas.Bool.{eqb-true, eq-eqb, ne_eqb}
use Rattle.std.proofs.lemmas.List.{length-append}
use Rattle.fb_bytes.specs.Bytes.{Bytes, IsBytes}
use Rattle.fb_bytes.specs.declared.Pair.{Pair}
use Rattle.block_frame.specs.Text.{header, string, header_at, IsPadding, unpadded_at}
use Rattle.block_frame.proofs.Strings.{string-length, header_found, header_again}
use Rattle.range_files.specs.declared.block.Block.{Block}
use Rattle.range_files.specs.declared.fault.BlockFault.{BlockFault}
use Rattle.range_files.specs.declared.fault.BlockFault.TheVariants.{Short, Format, Padding, Order}
use Rattle.range_files.specs.Grammar.{pairs_text, end_text, block_text, LengthsFit, IsOrdered, StartsAt, IsBlockAt}
use Rattle.range_files.specs.Reading.{◌>>=◌, found_or, unless, string_or, Items, items_at, place_after, padding_fault, fault_at, disorder, structure_of, block_from, block_of}
use Rattle.fb_bytes.proofs.Results.{bind_ok, found_or_ok, test_ok, ok_is}
use Rattle.block_frame.proofs.Padding as padding
use Rattle.block_frame.proofs.Padding.{padding_over}
use Rattle.range_files.proofs.Steps.{unless_ok, string_or_found, string_or_again}
use Rattle.range_files.proofs.Items.{HasKey, items_found, items_again}
use Rattle.range_files.proofs.Order.{disorder_none, disorder_starts, disorder_again}

-- ---- padding

no_place : (at : ℕ) (o : Option ℕ) → place_after at o ≡ None → o ≡ None
no_place at None e = refl
no_place at (Some n) e = absurd cc

pub padding_found : (t : ℕ) (rest : Bytes) → padding_fault t rest ≡ None → IsPadding rest
unfolding padding_fault
padding_found t rest e = padding.padding_found rest (no_place (t - length rest) (unpadded_at rest) e)

pub padding_again : (t : ℕ) (rest : Bytes) → IsPadding rest → padding_fault t rest ≡ None
unfolding padding_fault
padding_again t rest h = ap (place_after (t - length rest)) (padding.padding_again rest h)

-- ---- what stands in a block

pub record IsStructure (number : ℕ) (bytes begin : Bytes) (items : Items) : Type 0 where
  pub parts : bytes ≡ header number ++ (string begin ++ (pairs_text items.pairs ++ (end_text items.end ++ items.rest)))
  pub begin_fits : length begin < 2 ^ 32
  pub lengths : LengthsFit (2 ^ 32) items.pairs items.end
  pub has : HasKey items.pairs items.end

pub structure_found : (number base : ℕ) (bytes : Bytes) (x : Bytes × Items) → IsBytes bytes → structure_of number base bytes ≡ Ok x → IsStructure number bytes x.0 x.1
unfolding structure_of
structure_found number base bytes x fits e =
    let t = base + length bytes in
    let a = bind_ok (found_or (Short base) (header_at bytes)) (λ head. (cond (eqb head.0 number) (string_or t head.1) (Err (Format head.0))) >>= λ begin. items_at (length begin.1 + 1) t begin.1 >>= λ items. Ok (begin.0, items)) x e in
    let b = bind_ok (cond (eqb a.0.0 number) (string_or t a.0.1) (Err (Format a.0.0))) (λ begin. items_at (length begin.1 + 1) t begin.1 >>= λ items. Ok (begin.0, items)) x a.2 in
    let g = test_ok (eqb a.0.0 number) (string_or t a.0.1) (Format a.0.0) b.0 b.1 in
    let c = bind_ok (items_at (length b.0.1 + 1) t b.0.1) (λ items. Ok (b.0.0, items)) x b.2 in
    let h = header_found bytes a.0 fits (found_or_ok (Short base) (header_at bytes) a.0 a.1) in
    let s = string_or_found t a.0.1 b.0 h.1 g.1 in
    let i = items_found (length b.0.1 + 1) t (2 ^ 32) b.0.1 c.0 s.others (λ k r lt q. lt) c.1 in
    let is : (b.0.0, c.0) ≡ x = ok_is (b.0.0, c.0) x (Ok (b.0.0, c.0)) refl c.2 in
    let numbered : header a.0.0 ≡ header number = ap header (eqb-true _ _ g.0) in
    subst (λ (y : Bytes × Items). IsStructure number bytes y.0 y.1) is (record {
      parts = h.0 ∙ ap (λ (z : Bytes). z ++ a.0.1) numbered ∙ ap (λ (z : Bytes). header number ++ z) (s.parts ∙ ap (λ (z : Bytes). string b.0.0 ++ z) i.parts);
      begin_fits = s.len;
      lengths = i.lengths;
      has = i.has;
    })

structure_steps : (number base : ℕ) (bytes head begin after : Bytes) (items : Items) → header_at bytes ≡ Some (number, head) → string_or (base + length bytes) head ≡ Ok (begin, after) → items_at (length after + 1) (base + length bytes) after ≡ Ok items → structure_of number base bytes ≡ Ok (begin, items)
unfolding structure_of
structure_steps number base bytes head begin after items h s i = rw (h, eq-eqb number number refl, s, i) refl

-- the places that a block's bytes take
pub structure_sizes : (number base : ℕ) (bytes begin : Bytes) (items : Items) → IsStructure number bytes begin items → (8 + length begin + length (pairs_text items.pairs ++ end_text items.end)) + length items.rest ≡ length bytes
structure_sizes number base bytes begin items s =
    omega (
      arith,
      ap length s.parts,
      length-append (header number) (string begin ++ (pairs_text items.pairs ++ (end_text items.end ++ items.rest))),
      header-length number,
      string-length begin,
      length-append (string begin) (pairs_text items.pairs ++ (end_text items.end ++ items.rest)),
      length-append (pairs_text items.pairs) (end_text items.end ++ items.rest),
      length-append (end_text items.end) items.rest,
      length-append (pairs_text items.pairs) (end_text items.end),
    )
  where
    header-length : (n : ℕ) → length (header n) ≡ 4
    header-length n = refl

-- ---- blocks

pub block_text-append : (number : ℕ) (begin : Bytes) (pairs : List Pair) (end : Option Bytes) (padding : Bytes) → block_text number begin pairs end ++ padding ≡ header number ++ (string begin ++ (pairs_text pairs ++ (end_text end ++ padding)))
block_text-append number begin pairs end padding =
    append_assoc (header number) (string begin ++ (pairs_text pairs ++ end_text end)) padding
    ∙ ap (λ (z : Bytes). header number ++ z) (append_assoc (string begin) (pairs_text pairs ++ end_text end) padding ∙ ap (λ (z : Bytes). string begin ++ z) (append_assoc (pairs_text pairs) (end_text end) padding))

no_fault : (f : ℕ → BlockFault) (o : Option ℕ) → fault_at f o ≡ None → o ≡ None
no_fault f None e = refl
no_fault f (Some n) e = absurd cc

starts_go : (first : Bool) (begin : Bytes) (at : ℕ) (pairs : List Pair) (end : Option Bytes) → disorder first begin at pairs end ≡ None → first ≡ false → StartsAt begin pairs
starts_go true begin at pairs end e f = absurd cc
starts_go false begin at pairs end e f = disorder_starts begin at pairs end e

not_zero : (n : ℕ) → 0 < n → eqb n 0 ≡ false
not_zero n some = ne_eqb n 0 (λ e. omega arith)

over_zero : (n : ℕ) → eqb n 0 ≡ false → 0 < n
over_zero zero e = absurd cc
over_zero (suc n) e = omega arith

pub block_found : (number base : ℕ) (bytes : Bytes) (block : Block) → IsBytes bytes → block_of number base bytes ≡ Ok block → IsBlockAt number base bytes block.begin block.pairs block.end
unfolding block_of
block_found number base bytes block fits e =
    let t = base + length bytes in
    let a = bind_ok (structure_of number base bytes) (λ x. block_from base t x.0 x.1) block e in
    let begin = a.0.0 in
    let items = a.0.1 in
    let made : Block = record { begin = begin; pairs = items.pairs; end = items.end } in
    let order = disorder (eqb base 0) begin (base + (8 + length begin)) items.pairs items.end in
    let u = unless_ok (fault_at (λ at. Padding at) (padding_fault t items.rest)) (unless (fault_at (λ at. Order at) order) (Ok made)) block a.2 in
    let v = unless_ok (fault_at (λ at. Order at) order) (Ok made) block u.1 in
    let s = structure_found number base bytes a.0 fits a.1 in
    let ordered = no_fault (λ at. Order at) order v.0 in
    let is : made ≡ block = ok_is made block (Ok made) refl v.1 in
    subst (λ (b : Block). IsBlockAt number base bytes b.begin b.pairs b.end) is (record {
      is = record {
        padding = items.rest;
        parts = s.parts ∙ sym (block_text-append number begin items.pairs items.end items.rest);
        padded = padding_found t items.rest (no_fault (λ at. Padding at) (padding_fault t items.rest) u.0);
        begin_fits = s.begin_fits;
        lengths = s.lengths;
        ordered = disorder_none (eqb base 0) begin (base + (8 + length begin)) items.pairs items.end s.has ordered;
      };
      starts = λ some. starts_go (eqb base 0) begin (base + (8 + length begin)) items.pairs items.end ordered (not_zero base some);
    })

has_key : (begin : Bytes) (pairs : List Pair) (end : Option Bytes) → IsOrdered begin pairs end → HasKey pairs end
has_key begin [] None h = h
has_key begin [] (Some end) h = tt
has_key begin (pair ∷ pairs) end h = tt

pub block_again : (number base : ℕ) (bytes begin : Bytes) (pairs : List Pair) (end : Option Bytes) → number < 2 ^ 32 → IsBlockAt number base bytes begin pairs end → block_of number base bytes ≡ Ok (record { begin = begin; pairs = pairs; end = end })
unfolding block_of
block_again number base bytes begin pairs end small at =
    let b = at.is in
    let t = base + length bytes in
    let after = pairs_text pairs ++ (end_text end ++ b.padding) in
    let head = string begin ++ after in
    let items : Items = record { pairs = pairs; end = end; rest = b.padding } in
    let whole : bytes ≡ header number ++ head = b.parts ∙ block_text-append number begin pairs end b.padding in
    let h : header_at bytes ≡ Some (number, head) = ap header_at whole ∙ header_again number head small in
    let i : items_at (length after + 1) t after ≡ Ok items = items_again (length after + 1) t (2 ^ 32) pairs end b.padding (has_key begin pairs end b.ordered) b.lengths (lit≤ tt) (padding_over b.padding b.padded) (omega arith) in
    let s : structure_of number base bytes ≡ Ok (begin, items) = structure_steps number base bytes head begin after items h (string_or_again t begin after b.begin_fits) i in
    rw (s, padding_again t b.padding b.padded, disorder_again (eqb base 0) begin (base + (8 + length begin)) pairs end b.ordered (λ e. at.starts (over_zero base e))) refl
