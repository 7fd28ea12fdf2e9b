-- The text of a manifest is UTF-8, and it is read back.
use Rattle.std.proofs.Common.{◌≡◌, ℕ, ◌/◌, ◌^◌, ◌<◌, ◌≤◌, Bool, true, false, ◌&&◌, leb, List, [], ◌∷◌, Option, Some, None, max, refl, sym, ap, subst, ◌∙◌, arith, append-nil}
use Rattle.std.specs.Prelude.{codes, decimal, is_some, option_map, option_and_then}
use Rattle.std.specs.Char.{is_ascii_digit}
use Rattle.std.specs.Str.{IsUtf8, all_ascii_digits}
use Rattle.std.specs.List.{AllByRecursion}
use Rattle.std.proofs.lemmas.Bool.{and_parts, and_from, leb-true, lt-ltb, ltb-true}
use Rattle.std.proofs.lemmas.Fmt.{digits_decimal}
use Rattle.std.proofs.lemmas.Str.{IsUtf8-append, IsUtf8-nil}
use Rattle.json.specs.Lex.{tokens}
use Rattle.json.specs.Print.{quoted}
use Rattle.json.specs.Json as grammar
use Rattle.json.specs.Token.{Token}
use Rattle.json.specs.Tree as tree
use Rattle.json.specs.Tree.{json_tokens, HasNumbers, ItemsHaveNumbers}
use Rattle.json.proofs.Printed.Utf8.{are_ascii, IsUtf8-are_ascii, IsUtf8-quoted}
use Rattle.json.proofs.Printed.Decimals.{IsNumber-decimal}
use Rattle.json.proofs.Printed.Tokens.{tokens-print}
use Rattle.json.proofs.Printed.Trees.{ArePrintable-json_tokens, value-json_tokens}
use Rattle.serde_json.specs.Data.{Data, string, array, object, item, Members, member, no_members, put}
use Rattle.serde_json.specs.Read as json
use Rattle.serde_json.specs.Read.{number_of, of_json, of_items}
use Rattle.serde_json.specs.Written.{outline, items_outline, comma_if, compact_text, items_text, members_text}
use Rattle.serde_json.proofs.Numbers.{number_of-decimal}
use Rattle.serde_json.proofs.OnLiterals.{serde_json_on_literals}
use Rattle.serde_json.proofs.Texts.{print-outline}
use Rattle.fb_bytes.specs.Bytes.{Bytes}
use Rattle.fb_bytes.specs.Blocks.{is_block}
use Rattle.file_names.specs.declared.Name.{Name}
use Rattle.file_names.specs.declared.Name.TheVariants.{Range, Log, Manifest, Unreliable, Expired, Other}
use Rattle.file_names.specs.Spelling.{is_number, are_numbers, spelled, spelling, range_texts, range_numbers, is_other}
use Rattle.file_names.specs.Reading.{name_of}
use Rattle.file_names.proofs.Numbers.{own, cond_some}
use Rattle.file_names.proofs.Names.{name_found}
use Rattle.manifests.specs.declared.manifest.Manifest as declared
use Rattle.manifests.specs.Files.{version_in, version_of, is_past, fits, AreRangeNames, widest, alone, span_of}
use Rattle.manifests.specs.Grammar.{natural, texts, written, manifest_text}
use Rattle.manifests.specs.Laws.{WrittenIsManifest}
use Rattle.manifests.proofs.Manifests.{written_read}

-- ---- names and numbers are ASCII

digit_ascii : (d : ℕ) → is_ascii_digit d ≡ true → d < 128
digit_ascii d e = let p = and_parts (leb 48 d) (leb d 57) e in let k : d ≤ 57 = leb-true d 57 p.1 in omega arith

digits_ascii : (ds : Bytes) → all_ascii_digits ds ≡ true → are_ascii ds ≡ true
digits_ascii [] e = refl
digits_ascii (d ∷ ds) e =
    let p = and_parts (is_ascii_digit d) (all_ascii_digits ds) e in
    and_from _ (are_ascii ds) (lt-ltb d 128 (digit_ascii d p.0)) (digits_ascii ds p.1)

utf8_decimal : (n : ℕ) → n < 2 ^ 64 → IsUtf8 (decimal n)
utf8_decimal n h = IsUtf8-are_ascii (decimal n) (digits_ascii (decimal n) (digits_decimal own n h))

utf8_spelled : (front : List Bytes) (ns : List ℕ) → AllByRecursion (λ text. are_ascii text ≡ true) front → are_numbers ns ≡ true → IsUtf8 (spelled front ns)
utf8_spelled [] ns h e = IsUtf8-nil
utf8_spelled (text ∷ front) [] h e = IsUtf8-nil
utf8_spelled (text ∷ front) (n ∷ ns) h e =
    let p = and_parts (is_number n) (are_numbers ns) e in
    let small : n < 2 ^ 63 = ltb-true _ _ p.0 in
    IsUtf8-append text _ (IsUtf8-are_ascii text h.0) (IsUtf8-append (decimal n) _ (utf8_decimal n (omega arith)) (utf8_spelled front ns h.1 p.1))

abbrev IsRangeText : Bytes → ℕ → Type 0
IsRangeText file version = IsUtf8 file × (version < 2 ^ 63)

range_text : (file : Bytes) (said : Name) (version : ℕ) → spelling said ≡ Some file → version_in said ≡ Some version → IsRangeText file version
range_text file (Range snapshot v ticket block) version e w =
    let ns = range_numbers snapshot v ticket block in
    let g = cond_some (are_numbers ns && is_block block) (spelled range_texts ns) file e in
    let p = and_parts (are_numbers ns) (is_block block) g.0 in
    let q = and_parts (is_number snapshot) (are_numbers (ticket / 1000 ∷ v ∷ ticket ∷ block ∷ [])) p.0 in
    let r = and_parts (is_number (ticket / 1000)) (are_numbers (v ∷ ticket ∷ block ∷ [])) q.1 in
    let s = and_parts (is_number v) (are_numbers (ticket ∷ block ∷ [])) r.1 in
    let same : v ≡ version = cc in
    let small : v < 2 ^ 63 = ltb-true _ _ s.0 in
    (subst IsUtf8 g.1 (utf8_spelled range_texts ns (refl, (refl, (refl, (refl, (refl, tt))))) p.0), subst (λ n. n < 2 ^ 63) same small)
range_text file (Log begin end ticket block) version e w = absurd cc
range_text file (Manifest begin end bytes ticket) version e w = absurd cc
range_text file Unreliable version e w = absurd cc
range_text file Expired version e w = absurd cc
range_text file Other version e w = absurd cc

not_other : (said : Name) (version : ℕ) → version_in said ≡ Some version → is_other said ≡ false
not_other (Range snapshot v ticket block) version w = refl
not_other (Log begin end ticket block) version w = refl
not_other (Manifest begin end bytes ticket) version w = refl
not_other Unreliable version w = refl
not_other Expired version w = refl
not_other Other version w = absurd cc

range_name : (file : Bytes) (version : ℕ) → version_of file ≡ Some version → IsRangeText file version
range_name file version e = range_text file (name_of file) version (name_found file (not_other (name_of file) version e)) e

some_of : (o : Option ℕ) → is_some o ≡ true → (n : ℕ) × (o ≡ Some n)
some_of None e = absurd cc
some_of (Some n) e = (n, refl)

-- ---- the files of a manifest

range_file : (last : Option Bytes) (file : Bytes) → fits last file ≡ true → (version : ℕ) × (version_of file ≡ Some version) × IsRangeText file version
range_file last file e =
    let p = and_parts (is_some (version_of file)) (is_past last file) e in
    let v = some_of (version_of file) p.0 in
    (v.0, v.1, range_name file v.0 v.1)

abbrev IsSmall : Option (ℕ × ℕ) → Type 0
IsSmall None = Unit {0}
IsSmall (Some span) = (span.0 < 2 ^ 63) × (span.1 < 2 ^ 63)

small_widest : (version : ℕ) (other : Option (ℕ × ℕ)) → version < 2 ^ 63 → IsSmall other → IsSmall (widest (Some (version, version)) other)
small_widest version None h g = (h, h)
small_widest version (Some span) h g = let a = g.0 in let b = g.1 in (omega arith, omega arith)

small_span : (last : Option Bytes) (files : List Bytes) → AreRangeNames last files → IsSmall (span_of files)
small_span last [] h = tt
small_span last (file ∷ files) h =
    let r = range_file last file h.0 in
    subst (λ o. IsSmall (widest (alone o) (span_of files))) (sym r.1) (small_widest r.0 (span_of files) r.2.1 (small_span (Some file) files h.1))

utf8_comma : (later : Bool) → IsUtf8 (comma_if later)
utf8_comma true = IsUtf8-are_ascii (44 ∷ []) refl
utf8_comma false = IsUtf8-nil

utf8_files : (later : Bool) (last : Option Bytes) (files : List Bytes) → AreRangeNames last files → IsUtf8 (items_text later (texts files))
utf8_files later last [] h = IsUtf8-are_ascii (93 ∷ []) refl
utf8_files later last (file ∷ files) h =
    let r = range_file last file h.0 in
    IsUtf8-append (comma_if later) _ (utf8_comma later) (IsUtf8-append (quoted file) _ (IsUtf8-quoted file r.2.0) (utf8_files true (Some file) files h.1))

-- ---- the text

utf8_member : (later : Bool) (key : Bytes) (d : Data) (ms : Members) → are_ascii key ≡ true → IsUtf8 (compact_text d) → IsUtf8 (members_text true ms) → IsUtf8 (members_text later (member key d ms))
utf8_member later key d ms ascii value rest =
    IsUtf8-append (comma_if later) _ (utf8_comma later) (IsUtf8-append (quoted key) _ (IsUtf8-quoted key (IsUtf8-are_ascii key ascii))
    (IsUtf8-append (58 ∷ []) _ (IsUtf8-are_ascii (58 ∷ []) refl) (IsUtf8-append (compact_text d) _ value rest)))

abbrev last : Option (grammar.Json × List Token) → Option Data
last o = option_and_then of_json (option_and_then (λ p. grammar.if_last p.0 p.1) o)

module _ (m : declared.Manifest) (begin : m.begin < 2 ^ 64) (end : m.end < 2 ^ 64) (bytes : m.bytes < 2 ^ 64) where
  utf8_text : AreRangeNames None m.files → IsUtf8 (manifest_text m)
  utf8_text files =
      let total : Members = member (codes "totalBytes") (natural m.bytes) no_members in
      let format : Members = member (codes "format") (natural 1) total in
      let listed : Members = member (codes "files") (array (texts m.files)) format in
      let to : Members = member (codes "endVersion") (natural m.end) listed in
      let array_text = IsUtf8-append (91 ∷ []) (items_text false (texts m.files)) (IsUtf8-are_ascii (91 ∷ []) refl) (utf8_files false None m.files files) in
      let last_text = utf8_member true (codes "totalBytes") (natural m.bytes) no_members refl (utf8_decimal m.bytes bytes) (IsUtf8-are_ascii (125 ∷ []) refl) in
      let format_text = utf8_member true (codes "format") (natural 1) total refl (utf8_decimal 1 (omega arith)) last_text in
      let listed_text = utf8_member true (codes "files") (array (texts m.files)) format refl array_text format_text in
      let end_text = utf8_member true (codes "endVersion") (natural m.end) listed refl (utf8_decimal m.end end) listed_text in
      let begin_text = utf8_member false (codes "beginVersion") (natural m.begin) to refl (utf8_decimal m.begin begin) end_text in
      IsUtf8-append (123 ∷ []) (members_text false (member (codes "beginVersion") (natural m.begin) to)) (IsUtf8-are_ascii (123 ∷ []) refl) begin_text

  -- each number's text is a number
  numbers_of_files : (files : List Bytes) → ItemsHaveNumbers (items_outline (texts files))
  numbers_of_files [] = tt
  numbers_of_files (file ∷ files) = (tt, numbers_of_files files)

  has_numbers : HasNumbers (outline (written m))
  has_numbers = (IsNumber-decimal m.begin begin, (IsNumber-decimal m.end end, (numbers_of_files m.files, (IsNumber-decimal 1 (omega arith), (IsNumber-decimal m.bytes bytes, tt)))))

  tokens_back : tokens (manifest_text m) ≡ json_tokens (outline (written m))
  tokens_back = ap tokens (sym (print-outline (written m))) ∙ tokens-print _ (ArePrintable-json_tokens (outline (written m)) has_numbers)

  -- the value of what was written
  files_back : (files : List Bytes) → of_items (items_outline (texts files)) ≡ Some (texts files)
  files_back [] = refl
  files_back (file ∷ files) = ap (λ o. option_map (item (string file)) o) (files_back files)

  abbrev in_order : Data
  in_order =
      object (put (codes "totalBytes") (natural m.bytes) (put (codes "format") (natural 1) (put (codes "files") (array (texts m.files))
      (put (codes "endVersion") (natural m.end) (put (codes "beginVersion") (natural m.begin) no_members)))))

  order_is : in_order ≡ written m
  unfolding serde_json_on_literals
  order_is = refl

  members_back : of_json (outline (written m)) ≡ Some in_order
  members_back = rw (number_of-decimal m.begin begin, number_of-decimal m.end end, files_back m.files, number_of-decimal 1 (omega arith), number_of-decimal m.bytes bytes) refl

  files_depth : (files : List Bytes) → tree.items_depth (items_outline (texts files)) ≡ 0
  files_depth [] = refl
  files_depth (file ∷ files) = ap (max 0) (files_depth files)

  depth_is : tree.depth (outline (written m)) ≤ json.max_depth
  depth_is = omega (arith, files_depth m.files)

  read_back : json.read (manifest_text m) ≡ Some (written m)
  read_back =
      ap last (ap (grammar.value json.max_depth) (tokens_back ∙ sym (append-nil _)) ∙ value-json_tokens (outline (written m)) json.max_depth [] depth_is)
      ∙ members_back ∙ ap Some order_is

pub written_is_manifest : WrittenIsManifest
written_is_manifest m ticket whole small =
    let span : (m.begin < 2 ^ 63) × (m.end < 2 ^ 63) = subst IsSmall whole.versions (small_span None m.files whole.files) in
    let begin : m.begin < 2 ^ 64 = let h = span.0 in omega arith in
    let end : m.end < 2 ^ 64 = let h = span.1 in omega arith in
    written_read m ticket (manifest_text m) whole (utf8_text m begin end small whole.files) (read_back m begin end small)
