-- A writer's loops over the parts of a batch and over the batches.
use Rattle.std.proofs.Common.{◌≡◌, ℕ, zero, suc, ◌+◌, ◌<◌, ◌≤◌, List, [], ◌∷◌, length, get_or, take, drop, sym, ap, subst, ◌∙◌, arith}
use Rattle.std.proofs.lemmas.List.{drop_all}
use Rattle.fb_bytes.specs.Bytes.{Bytes}
use Rattle.block_frame.specs.Frames.{Frames, no_frames, framed, text}
use Rattle.mutations.specs.declared.Batch.{Batch}
use Rattle.mutations.specs.Spelling.{HasSpelling}
use Rattle.log_files.specs.Reading.{format}
use Rattle.log_files.specs.Grammar.{Row, row_key, row_text, rows_of}
use Rattle.mutations.specs.Cutting.{pieces_of}
use Rattle.mutations.proofs.Cutting.{pieces_short, pieces_long}
use Rattle.log_files.specs.Writing.{with_rows, with_batches, log_text, AreLogged}

abbrev pub row_at : ℕ → ℕ → Bytes → Row
row_at version part piece = record { key = row_key version part; value = piece }

-- the parts before were written, and the rest is still cut
abbrev pub PartsSoFar : ℕ → ℕ → Frames → ℕ → ℕ → Bytes → Frames → Type 0
PartsSoFar size part frames version number rest total = with_rows size frames (rows_of version number (pieces_of part rest)) ≡ total

pub parts_more : (size part : ℕ) (frames new : Frames) (version number : ℕ) (rest after row again : Bytes) (total : Frames) → 0 < part → part < length rest → row ≡ row_text (row_at version number (take part rest)) → again ≡ [] → new ≡ framed size format frames row again → after ≡ drop part rest
    → PartsSoFar size part frames version number rest total → PartsSoFar size part new version (number + 1) after total
parts_more size part frames new version number rest after row again total some long r a n d so =
    let piece = take part rest in
    let new-is : new ≡ framed size format frames (row_text (row_at version number piece)) [] = n ∙ ap (λ (x : Bytes × Bytes). framed size format frames x.0 x.1) (ap (λ (x : Bytes). (x, again)) r ∙ ap (λ (x : Bytes). (row_text (row_at version number piece), x)) a) in
    ap (λ (x : Bytes). with_rows size new (rows_of version (number + 1) (pieces_of part x))) d
    ∙ ap (λ (x : Frames). with_rows size x (rows_of version (number + 1) (pieces_of part (drop part rest)))) new-is
    ∙ sym (ap (λ (ps : List Bytes). with_rows size frames (rows_of version number ps)) (pieces_long part rest some long)) ∙ so

pub parts_end : (size part : ℕ) (frames new : Frames) (version number : ℕ) (rest row again : Bytes) (total : Frames) → length rest ≤ part → row ≡ row_text (row_at version number rest) → again ≡ [] → new ≡ framed size format frames row again → PartsSoFar size part frames version number rest total → new ≡ total
parts_end size part frames new version number rest row again total short r a n so =
    n ∙ ap (λ (x : Bytes × Bytes). framed size format frames x.0 x.1) (ap (λ (x : Bytes). (x, again)) r ∙ ap (λ (x : Bytes). (row_text (row_at version number rest), x)) a)
    ∙ sym (ap (λ (ps : List Bytes). with_rows size frames (rows_of version number ps)) (pieces_short part rest short)) ∙ so

-- ---- the batches

pub batches_end : (size i : ℕ) (frames : Frames) (batches all : List Batch) (result : Bytes) → result ≡ text frames → length batches ≤ i → with_batches size frames (drop i batches) ≡ with_batches size no_frames all → result ≡ log_text size all
unfolding log_text
batches_end size i frames batches all result r le s = r ∙ ap text (sym (ap (with_batches size frames) (drop_all i batches le)) ∙ s)

spelled_at : (low end : ℕ) (batches : List Batch) (i : ℕ) (default : Batch) → AreLogged low end batches → i < length batches → HasSpelling (get_or batches i default).muts
spelled_at low end [] i default h lt = absurd (omega arith)
spelled_at low end (batch ∷ batches) zero default h lt = h.2
spelled_at low end (batch ∷ batches) (suc i) default h lt = spelled_at (batch.version + 1) end batches i default h.3 (omega arith)

-- a batch of what is logged has a spelling
pub batch_spelled : (low end : ℕ) (all batches : List Batch) (i : ℕ) (batch : Batch) → AreLogged low end all → batches ≡ all → i < length batches → batch ≡ get_or batches i batch → HasSpelling batch.muts
batch_spelled low end all batches i batch h same lt is = subst (λ (b : Batch). HasSpelling b.muts) (sym is) (spelled_at low end batches i batch (subst (AreLogged low end) (sym same) h) lt)
