-- The names of a job's files are read as what they were spelled from.
use Rattle.std.specs.Prelude.{◌≡◌, ℕ, ◌+◌, ◌/◌, ◌<◌, ◌≤◌, Bool, true, false, ◌||◌, [], Option, Some, unwrap_or, ◌==◌, refl}
use Rattle.std.proofs.Common.{ap, sym, ◌∙◌, arith}
use Rattle.std.proofs.lemmas.Bool.{lt-ltb, le-leb, eqb-true}
use Rattle.fb_bytes.specs.Bytes.{Bytes}
use Rattle.fb_bytes.specs.Blocks.{is_block}
use Rattle.file_names.specs.declared.Name.{Name}
use Rattle.file_names.specs.declared.Name.TheVariants.{Range, Log, Manifest}
use Rattle.file_names.specs.Spelling.{spelling, spelled, is_number, range_texts, log_texts, manifest_texts, range_numbers, log_numbers, manifest_numbers}
use Rattle.file_names.specs.Reading.{name_of}
use Rattle.database.specs.Commits.{most_version}
use Rattle.backup_core.specs.Backups.{text_of}
use Rattle.cluster_core.proofs.Known.{Known}

-- the name has a spelling
pub record IsSpelled (name : Name) : Type 0 where
  pub text : Bytes
  pub is_text : spelling name ≡ Some text

-- the text of a name that has a spelling says the name
pub named : (k : Known) (name : Name) → IsSpelled name → name_of (text_of name) ≡ name
named k name s = k.names (text_of name) name (s.is_text ∙ ap (λ (t : Bytes). Some t) (sym (ap (λ (o : Option Bytes). unwrap_or o []) s.is_text)))

number_below : (n : ℕ) → n < 9223372036854775808 → is_number n ≡ true
number_below n h = lt-ltb n 9223372036854775808 h

pub number : (n : ℕ) → n ≤ most_version + 1 → is_number n ≡ true
number n h = number_below n (omega arith)

block_number : (block : ℕ) → is_block block ≡ true → is_number block ≡ true
block_number block h = go (block == 256) (block == 4096) (block == 262144) (block == 1048576) refl refl refl refl h
  where
    go : (a b c d : Bool) → (block == 256) ≡ a → (block == 4096) ≡ b → (block == 262144) ≡ c → (block == 1048576) ≡ d → (a || b || c || d) ≡ true → is_number block ≡ true
    go true b c d p q r s e = let f = eqb-true block 256 p in number_below block (omega arith)
    go false true c d p q r s e = let f = eqb-true block 4096 q in number_below block (omega arith)
    go false false true d p q r s e = let f = eqb-true block 262144 r in number_below block (omega arith)
    go false false false true p q r s e = let f = eqb-true block 1048576 s in number_below block (omega arith)
    go false false false false p q r s e = cc

pub range_spelled : (snapshot version ticket block : ℕ) → snapshot ≤ most_version → version ≤ most_version → ticket ≤ most_version → is_block block ≡ true → IsSpelled (Range snapshot version ticket block)
range_spelled snapshot version ticket block s v t b =
    let group : ticket / 1000 ≤ most_version + 1 = omega arith in
    record { text = spelled range_texts (range_numbers snapshot version ticket block); is_text = rw (number snapshot (omega arith), number (ticket / 1000) group, number version (omega arith), number ticket (omega arith), block_number block b, b) refl }

pub log_spelled : (begin end ticket block : ℕ) → begin < end → end ≤ most_version + 1 → ticket ≤ most_version → is_block block ≡ true → IsSpelled (Log begin end ticket block)
log_spelled begin end ticket block l e t b =
    let group : begin / 1000000000 ≤ most_version + 1 = omega arith in
    record { text = spelled log_texts (log_numbers begin end ticket block); is_text = rw (number (begin / 1000000000) group, number begin (omega arith), number end e, number ticket (omega arith), block_number block b, b, lt-ltb begin end l) refl }

pub manifest_spelled : (begin end bytes ticket : ℕ) → begin ≤ end → end ≤ most_version → bytes ≤ 9223372036854775807 → ticket ≤ most_version → IsSpelled (Manifest begin end bytes ticket)
manifest_spelled begin end bytes ticket l e s t =
    record { text = spelled manifest_texts (manifest_numbers begin end bytes ticket); is_text = rw (number begin (omega arith), number end (omega arith), number_below bytes (omega arith), number ticket (omega arith), le-leb begin end l) refl }
