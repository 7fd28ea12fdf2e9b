-- Whole log files.
use Rattle.std.proofs.Common.{◌≡◌, ℕ, ◌^◌, ◌<◌, List, length, Result, Ok, Err, refl, sym, ap, subst, ◌∙◌, arith, inl, inr}
use Rattle.std.specs.Prelude.{IfOk, IfErr, MatchResult}
use Rattle.std.proofs.lemmas.Result.{IfOk-at_ok, IfErr-at_err}
use Rattle.mutations.specs.declared.LogChunk.{LogChunk}
use Rattle.fb_bytes.specs.Bytes.{Bytes, IsBytes}
use Rattle.mutations.specs.declared.Batch.{Batch}
use Rattle.log_files.specs.declared.fault.LogFault.{LogFault}
use Rattle.log_files.specs.declared.fault.LogFault.TheVariants as faults
use Rattle.log_files.specs.Reading.{Fails, ◌>>=◌, SoFar, nothing_yet, finished, blocks_from, read, ok_side}
use Rattle.log_files.specs.Grammar.{LogFile}
use Rattle.log_files.specs.Laws.{ReadIsLog, LogIsRead, OneLog}
use Rattle.fb_bytes.proofs.Results.{bind_ok, ok_is, ok_from_side}
use Rattle.log_files.proofs.Blocks.{bares, blocks_found, blocks_again}
use Rattle.log_files.proofs.Batches.{joins_found, spelled_again}

nothing_finished : (begin : ℕ) → finished (nothing_yet begin) ≡ Ok (nothing_yet begin)
unfolding finished
nothing_finished begin = refl

pub read_found : (size begin end : ℕ) (bytes : Bytes) (batches : List Batch) → 0 < size → IsBytes bytes → read size begin end bytes ≡ Ok batches → LogFile size begin end bytes batches
unfolding read
read_found size begin end bytes batches wide fits e =
    let start = nothing_yet begin in
    let whole = blocks_from (length bytes) size end 0 start bytes in
    let a = bind_ok (whole >>= finished) (λ done. Ok done.batches) batches e in
    let b = bind_ok whole finished a.0 a.1 in
    let f = blocks_found (length bytes) size end 0 start bytes b.0 wide fits (omega arith) b.1 in
    let j = joins_found end f.rows start b.0 a.0 tt f.own f.took b.2 in
    let is : a.0.batches ≡ batches = ok_is a.0.batches batches (Ok a.0.batches) refl a.2 in
    subst (LogFile size begin end bytes) (sym j.batches-are ∙ is) (record { rows = bares f.rows; blocks = f.blocks; spelled = j.rest })

pub read_again : (size begin end : ℕ) (bytes : Bytes) (batches : List Batch) → 0 < size → end < 2 ^ 64 → LogFile size begin end bytes batches → read size begin end bytes ≡ Ok batches
unfolding read
read_again size begin end bytes batches wide high file =
    let start = nothing_yet begin in
    let r = blocks_again file.blocks wide (length bytes) 0 (omega arith) in
    let g = spelled_again end batches file.rows r.found start start high (nothing_finished begin) (λ version le. refl) file.spelled r.bare-is in
    ap (λ (q : Result SoFar LogFault). (q >>= finished) >>= λ done. Ok done.batches) (r.reads end start)
    ∙ ap (λ (q : Result SoFar LogFault). q >>= λ done. Ok done.batches) g.took ∙ ap (λ (x : List Batch). Ok x) g.batches-are

pub read_is_log : ReadIsLog
read_is_log size begin end bytes batches wide fits e = read_found size begin end bytes batches wide fits (ok_from_side (read size begin end bytes) batches e)

pub log_is_read : LogIsRead
log_is_read size begin end bytes batches wide high file = ap ok_side (read_again size begin end bytes batches wide high file)

pub one_log : OneLog
one_log size begin end bytes a b wide high f g = ok_is a b (read size begin end bytes) (read_again size begin end bytes a wide high f) (read_again size begin end bytes b wide high g)

-- ---- what a reader answers

pub chunk_found : (size begin end b e : ℕ) (bytes : Bytes) (answer : Result (List Batch) LogFault) (r : Result LogChunk LogFault) → 0 < size → IsBytes bytes → IfOk answer (λ x. read size begin end bytes ≡ Ok x) → IfOk r (λ chunk. (answer ≡ Ok chunk.batches) × (chunk.begin ≡ b) × (chunk.end ≡ e)) → IfOk r (λ chunk. LogFile size begin end bytes chunk.batches)
chunk_found size begin end b e bytes answer (Err fault) wide fits ok is = tt
chunk_found size begin end b e bytes answer (Ok chunk) wide fits ok is = read_found size begin end bytes chunk.batches wide fits (IfOk-at_ok (λ x. read size begin end bytes ≡ Ok x) is.0 ok)

pub chunk_only : (size begin end b e : ℕ) (bytes : Bytes) (batches : List Batch) (answer : Result (List Batch) LogFault) (r : Result LogChunk LogFault) → 0 < size → end < 2 ^ 64 → LogFile size begin end bytes batches → IfOk answer (λ x. read size begin end bytes ≡ Ok x) → IfErr answer (λ fault. Fails fault (read size begin end bytes))
    → IfOk r (λ chunk. (answer ≡ Ok chunk.batches) × (chunk.begin ≡ b) × (chunk.end ≡ e)) → IfErr r (λ fault. answer ≡ Err fault) → MatchResult r (λ chunk. chunk.batches ≡ batches) (λ fault. fault ≡ faults.NoMemory)
chunk_only size begin end b e bytes batches answer (Ok chunk) wide high file ok err is bad = ok_is chunk.batches batches (read size begin end bytes) (IfOk-at_ok (λ x. read size begin end bytes ≡ Ok x) is.0 ok) (read_again size begin end bytes batches wide high file)
chunk_only size begin end b e bytes batches answer (Err fault) wide high file ok err is bad = elim (IfErr-at_err (λ f. Fails f (read size begin end bytes)) bad err) [ inl memory ↦ memory | inr met ↦ absurd (let both = sym met ∙ read_again size begin end bytes batches wide high file in cc) ]

pub chunk_ok : (size begin end b e : ℕ) (bytes : Bytes) (answer : Result (List Batch) LogFault) (r : Result LogChunk LogFault) → IfOk answer (λ x. read size begin end bytes ≡ Ok x) → IfOk r (λ chunk. (answer ≡ Ok chunk.batches) × (chunk.begin ≡ b) × (chunk.end ≡ e)) → IfOk r (λ chunk. read size begin end bytes ≡ Ok chunk.batches)
chunk_ok size begin end b e bytes answer (Err fault) ok is = tt
chunk_ok size begin end b e bytes answer (Ok chunk) ok is = IfOk-at_ok (λ x. read size begin end bytes ≡ Ok x) is.0 ok

pub chunk_span : (b e : ℕ) (answer : Result (List Batch) LogFault) (r : Result LogChunk LogFault) → IfOk r (λ chunk. (answer ≡ Ok chunk.batches) × (chunk.begin ≡ b) × (chunk.end ≡ e)) → IfOk r (λ chunk. (chunk.begin ≡ b) × (chunk.end ≡ e))
chunk_span b e answer (Err fault) is = tt
chunk_span b e answer (Ok chunk) is = (is.1, is.2)

pub chunk_err : (size begin end : ℕ) (bytes : Bytes) (answer : Result (List Batch) LogFault) (r : Result LogChunk LogFault) → IfErr answer (λ fault. Fails fault (read size begin end bytes)) → IfErr r (λ fault. answer ≡ Err fault) → IfErr r (λ fault. Fails fault (read size begin end bytes))
chunk_err size begin end bytes answer (Ok chunk) err bad = tt
chunk_err size begin end bytes answer (Err fault) err bad = IfErr-at_err (λ f. Fails f (read size begin end bytes)) bad err
