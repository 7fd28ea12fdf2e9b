-- What is written is in the grammar.
use Rattle.std.proofs.Common.{◌≡◌, ℕ, ◌+◌, ◌-◌, ◌^◌, ◌<◌, ◌≤◌, Bool, true, false, leb, List, [], ◌∷◌, ◌++◌, length, replicate, refl, sym, ap, subst, ◌∙◌, append_assoc, arith, rules, inl, inr}
use Rattle.std.specs.List.{AllByRecursion}
use Rattle.std.proofs.lemmas.Bool.{leb-true, leb-false}
use Rattle.std.proofs.lemmas.List.{append-nil, length-append, length-replicate}
use Rattle.fb_bytes.specs.Bytes.{Bytes}
use Rattle.fb_bytes.specs.Blocks.{is_block}
use Rattle.block_frame.specs.Text.{header, string}
use Rattle.block_frame.specs.Profiles.{part_of, IsRoomy}
use Rattle.block_frame.specs.Frames.{Frames, no_frames, framed, begun, padded, text}
use Rattle.mutations.specs.declared.Batch.{Batch}
use Rattle.mutations.specs.Spelling.{u32_bytes, u64_bytes, protocol, mutations_spelling, batch_spelling}
use Rattle.mutations.proofs.Lengths.{length-u32_bytes, length-u64_bytes}
use Rattle.log_files.specs.Reading.{format}
use Rattle.block_frame.proofs.Padding.{padding_is}
use Rattle.block_frame.proofs.Frames.{framed_first, framed_fits, framed_begins, roomy}
use Rattle.log_files.specs.Grammar.{Row, row_key, row_text, rows_text, RowFits, IsLogBlock, LogBlocks, NoBlock, NextBlock, rows_of, Spell, LogFile}
use Rattle.mutations.specs.Cutting.{pieces_of}
use Rattle.mutations.proofs.Cutting.{are_cut}
use Rattle.log_files.specs.Writing.{with_rows, with_batches, log_text, AreLogged, IsWritable}
use Rattle.log_files.specs.Laws.{WrittenIsLog, WrittenIsRead}
use Rattle.log_files.proofs.Files.{log_is_read}

-- ---- blocks

pub record Fits (size : ℕ) (row : Row) : Type 0 where
  pub fits : RowFits row
  pub room : 4 + length (row_text row) ≤ size

row_fits : (size : ℕ) (rows : List Row) → AllByRecursion (Fits size) rows → AllByRecursion RowFits rows
row_fits size [] h = tt
row_fits size (row ∷ rows) h = (h.0.fits, row_fits size rows h.1)

all_front : (size : ℕ) (xs ys : List Row) → AllByRecursion (Fits size) (xs ++ ys) → AllByRecursion (Fits size) xs
all_front size [] ys h = tt
all_front size (x ∷ xs) ys h = (h.0, all_front size xs ys h.1)

all_back : (size : ℕ) (xs ys : List Row) → AllByRecursion (Fits size) (xs ++ ys) → AllByRecursion (Fits size) ys
all_back size [] ys h = h
all_back size (x ∷ xs) ys h = all_back size xs ys h.1

all_both : (size : ℕ) (xs ys : List Row) → AllByRecursion (Fits size) xs → AllByRecursion (Fits size) ys → AllByRecursion (Fits size) (xs ++ ys)
all_both size [] ys p q = q
all_both size (x ∷ xs) ys p q = (p.0, all_both size xs ys p.1 q)

abbrev present_text : List Row → Bytes
present_text rows = header format ++ rows_text rows

rows_push : (rows : List Row) (row : Row) → rows_text (rows ++ (row ∷ [])) ≡ rows_text rows ++ row_text row
rows_push [] row = append-nil (row_text row)
rows_push (first ∷ rows) row = ap (λ (x : Bytes). row_text first ++ x) (rows_push rows row) ∙ sym (append_assoc (row_text first) (rows_text rows) (row_text row))

text_push : (rows : List Row) (row : Row) → present_text rows ++ row_text row ≡ present_text (rows ++ (row ∷ []))
text_push rows row = append_assoc (header format) (rows_text rows) (row_text row) ∙ ap (λ (x : Bytes). header format ++ x) (sym (rows_push rows row))

text_begun : (row : Row) → begun format [] (row_text row) ≡ present_text (row ∷ [])
text_begun row = ap (λ (x : Bytes). header format ++ x) (sym (append-nil (row_text row)))

block_with : (size n : ℕ) (rows : List Row) → AllByRecursion (Fits size) rows → IsLogBlock (present_text rows ++ replicate n 255) rows
block_with size n rows h = record { padding = replicate n 255; parts = append_assoc (header format) (rows_text rows) (replicate n 255); padded = padding_is n; fit = row_fits size rows h }

-- what is written behind the full blocks has the present block's rows and those that follow
pub record Writes (size : ℕ) (full : Bytes) (rows : List Row) (whole : Bytes) : Type 0 where
  pub rest : Bytes
  pub parts : whole ≡ full ++ rest
  pub blocks : LogBlocks size rest rows

last_block : (size : ℕ) (rows : List Row) → AllByRecursion (Fits size) rows → length (present_text rows) ≤ size → LogBlocks size (present_text rows) (rows ++ [])
last_block size rows h room =
    NextBlock (present_text rows) [] rows [] (sym (append-nil (present_text rows))) refl
    (subst (λ (x : Bytes). IsLogBlock x rows) (append-nil (present_text rows)) (block_with size 0 rows h)) (inr (room, refl)) (NoBlock refl refl)

row_step : (size : ℕ) (full : Bytes) (rows : List Row) (row : Row) (left : List Row) → AllByRecursion (Fits size) (rows ++ (row ∷ left)) → length (present_text rows) ≤ size
    → ((full' : Bytes) (rows' : List Row) → AllByRecursion (Fits size) (rows' ++ left) → length (present_text rows') ≤ size → Writes size full' (rows' ++ left) (text (with_rows size (record { full = full'; present = present_text rows' }) left)))
    → (b : Bool) → leb (length (present_text rows) + length (row_text row)) size ≡ b
    → Writes size full (rows ++ (row ∷ left)) (text (with_rows size (framed size format (record { full = full; present = present_text rows }) (row_text row) []) left))
row_step size full rows row left h room ih true b =
    let small = leb-true _ _ b in
    let split = append_assoc rows (row ∷ []) left in
    let pushed : framed size format (record { full = full; present = present_text rows }) (row_text row) [] ≡ record { full = full; present = present_text (rows ++ (row ∷ [])) } = framed_fits size format (record { full = full; present = present_text rows }) (row_text row) [] (omega arith) small ∙ ap (λ (x : Bytes). record { full = full; present = x }) (text_push rows row) in
    let fits : length (present_text (rows ++ (row ∷ []))) ≤ size = omega (arith, ap length (text_push rows row), length-append (present_text rows) (row_text row)) in
    let w = ih full (rows ++ (row ∷ [])) (subst (AllByRecursion (Fits size)) (sym split) h) fits in
    record { rest = w.rest; parts = ap (λ (f : Frames). text (with_rows size f left)) pushed ∙ w.parts; blocks = subst (LogBlocks size w.rest) split w.blocks }
row_step size full rows row left h room ih false b =
    let big = leb-false _ _ b in
    let front = padded size (present_text rows) in
    let own = all_back size rows (row ∷ left) h in
    let full' = full ++ front in
    let fits : length (present_text (row ∷ [])) ≤ size = omega (arith, own.0.room, length-append (row_text row) []) in
    let w = ih full' (row ∷ []) own fits in
    let begins : framed size format (record { full = full; present = present_text rows }) (row_text row) [] ≡ record { full = full'; present = present_text (row ∷ []) } = framed_begins size format (record { full = full; present = present_text rows }) (row_text row) [] (omega arith) big ∙ ap (λ (x : Bytes). record { full = full'; present = x }) (text_begun row) in
    let n = size - length (present_text rows) in
    let whole : length front ≡ size = omega (arith, length-append (present_text rows) (replicate n 255), length-replicate {A = ℕ} n 255) in
    record {
      rest = front ++ w.rest;
      parts = ap (λ (f : Frames). text (with_rows size f left)) begins ∙ w.parts ∙ append_assoc full front w.rest;
      blocks = NextBlock front w.rest rows (row ∷ left) refl refl (block_with size n rows (all_front size rows (row ∷ left) h)) (inl whole) w.blocks;
    }

rows_written : (size : ℕ) (left : List Row) (full : Bytes) (rows : List Row) → AllByRecursion (Fits size) (rows ++ left) → length (present_text rows) ≤ size → Writes size full (rows ++ left) (text (with_rows size (record { full = full; present = present_text rows }) left))
rows_written size [] full rows h room = record { rest = present_text rows; parts = refl; blocks = last_block size rows (all_front size rows [] h) room }
rows_written size (row ∷ left) full rows h room = row_step size full rows row left h room (λ full' rows' h' room'. rows_written size left full' rows' h' room') (leb (length (present_text rows) + length (row_text row)) size) refl

all_written : (size : ℕ) (rows : List Row) → AllByRecursion (Fits size) rows → Writes size [] rows (text (with_rows size no_frames rows))
all_written size [] h = record { rest = []; parts = refl; blocks = NoBlock refl refl }
all_written size (row ∷ rows) h =
    let fits : length (present_text (row ∷ [])) ≤ size = omega (arith, h.0.room, length-append (row_text row) []) in
    let w = rows_written size rows [] (row ∷ []) h fits in
    let first : framed size format no_frames (row_text row) [] ≡ record { full = []; present = present_text (row ∷ []) } = framed_first size format (row_text row) [] ∙ ap (λ (x : Bytes). record { full = []; present = x }) (text_begun row) in
    record { rest = w.rest; parts = ap (λ (f : Frames). text (with_rows size f rows)) first ∙ w.parts; blocks = w.blocks }

-- ---- batches

abbrev rows_in : ℕ → List Batch → List Row
rows_in size [] = []
rows_in size (batch ∷ batches) = rows_of batch.version 0 (pieces_of (part_of size) (batch_spelling batch.muts)) ++ rows_in size batches

with_rows-append : (size : ℕ) (frames : Frames) (xs ys : List Row) → with_rows size frames (xs ++ ys) ≡ with_rows size (with_rows size frames xs) ys
with_rows-append size frames [] ys = refl
with_rows-append size frames (x ∷ xs) ys = with_rows-append size (framed size format frames (row_text x) []) xs ys

batches_rows : (size : ℕ) (frames : Frames) (batches : List Batch) → with_batches size frames batches ≡ with_rows size frames (rows_in size batches)
batches_rows size frames [] = refl
batches_rows size frames (batch ∷ batches) =
    let rows = rows_of batch.version 0 (pieces_of (part_of size) (batch_spelling batch.muts)) in
    batches_rows size (with_rows size frames rows) batches ∙ sym (with_rows-append size frames rows (rows_in size batches))

wide_part : (size : ℕ) → is_block size ≡ true → 64 ≤ part_of size
wide_part size listed = search rules

pub spelling_length : (batch : Batch) → length (batch_spelling batch.muts) ≡ 12 + length (mutations_spelling batch.muts)
spelling_length batch =
    let body = mutations_spelling batch.muts in
    omega (arith, length-append (u64_bytes protocol ++ u32_bytes (length body)) body, length-append (u64_bytes protocol) (u32_bytes (length body)), length-u64_bytes protocol, length-u32_bytes (length body))

spelling_some : (batch : Batch) → 0 < length (batch_spelling batch.muts)
spelling_some batch = omega (arith, spelling_length batch)

rows_fit : (size version number : ℕ) (pieces : List Bytes) → IsRoomy size → AllByRecursion (λ piece. length piece ≤ part_of size) pieces → AllByRecursion (Fits size) (rows_of version number pieces)
rows_fit size version number [] r h = tt
rows_fit size version number (piece ∷ pieces) r h =
    (record { fits = record { key = omega arith; value = omega (arith, h.0, r.record', r.small) }; room = omega (arith, length-append (string (row_key version number)) (string piece), h.0, r.record') }, rows_fit size version (number + 1) pieces r h.1)

all_fit : (size : ℕ) (batches : List Batch) → is_block size ≡ true → AllByRecursion (Fits size) (rows_in size batches)
all_fit size [] listed = tt
all_fit size (batch ∷ batches) listed =
    let pieces = pieces_of (part_of size) (batch_spelling batch.muts) in
    let c = are_cut (part_of size) (batch_spelling batch.muts) (omega (arith, wide_part size listed)) in
    all_both size (rows_of batch.version 0 pieces) (rows_in size batches) (rows_fit size batch.version 0 pieces (roomy size listed) c.short) (all_fit size batches listed)

all_spelled : (size low end : ℕ) (batches : List Batch) → is_block size ≡ true → AreLogged low end batches → Spell low end batches (rows_in size batches)
all_spelled size low end [] listed h = refl
all_spelled size low end (batch ∷ batches) listed h =
    let pieces = pieces_of (part_of size) (batch_spelling batch.muts) in
    let c = are_cut (part_of size) (batch_spelling batch.muts) (omega (arith, wide_part size listed)) in
    let few : length pieces ≤ 2 ^ 32 = omega (arith, c.few 64 (wide_part size listed), spelling_length batch, h.2.few) in
    (pieces, rows_in size batches, refl, record { some = c.some; none_empty = c.none_empty (spelling_some batch); few = few; spelled = c.whole; has = h.2 }, h.0, h.1, all_spelled size (batch.version + 1) end batches listed h.3)

pub written_file : (size begin end : ℕ) (batches : List Batch) → IsWritable size begin end batches → LogFile size begin end (log_text size batches) batches
unfolding log_text
written_file size begin end batches w =
    let a = all_written size (rows_in size batches) (all_fit size batches w.size_listed) in
    let whole : text (with_batches size no_frames batches) ≡ a.rest = ap text (batches_rows size no_frames batches) ∙ a.parts in
    subst (λ (x : Bytes). LogFile size begin end x batches) (sym whole) (record { rows = rows_in size batches; blocks = a.blocks; spelled = all_spelled size begin end batches w.size_listed w.logged })

pub written_is_log : WrittenIsLog
written_is_log size begin end batches w = written_file size begin end batches w

pub written_is_read : WrittenIsRead
written_is_read size begin end batches lt w = log_is_read size begin end (log_text size batches) batches (omega (arith, (roomy size w.size_listed).record')) lt (written_is_log size begin end batches w)
