-- What is read is in the grammar, and what is in the grammar is read.
use Rattle.std.proofs.Common.{◌≡◌, ℕ, Bool, true, false, cond, eqb, ◌&&◌, ◌||◌, ◌≤◌, List, Option, Some, None, Result, Ok, Err, option_and_then, refl, sym, ap, subst, ◌∙◌, arith, inl, inr, codes}
use Rattle.std.specs.Prelude.{IfOk, IfErr, MatchResult}
use Rattle.std.specs.Str.{IsUtf8, is_utf8}
use Rattle.std.proofs.lemmas.Str.{IsUtf8-from_is_utf8, is_utf8-from_IsUtf8}
use Rattle.std.proofs.lemmas.Bool.{and_parts, and_from, eqb-true, eq-eqb, cond-true, cond-false, false_from_ne_true}
use Rattle.serde_json.specs.Data.{Data, null, boolean, number, string, array, object, Num, unsigned, negative, float, Items, depth}
use Rattle.serde_json.specs.Read as json
use Rattle.serde_json.specs.Written.{has_float}
use Rattle.serde_json.proofs.OnLiterals.{serde_json_on_literals}
use Rattle.serde_json.specs.Find.{get, as_number, as_u64, as_array}
use Rattle.fb_bytes.specs.Bytes.{Bytes}
use Rattle.fb_bytes.proofs.Results.{bind_ok}
use Rattle.file_names.specs.declared.Name.{Name}
use Rattle.file_names.specs.declared.Name.TheVariants as names
use Rattle.manifests.specs.declared.manifest.Manifest.{Manifest}
use Rattle.manifests.specs.declared.fault.Field.TheVariants.{BeginVersion, EndVersion, Files, Format, TotalBytes}
use Rattle.manifests.specs.declared.fault.ManifestFault.{ManifestFault}
use Rattle.manifests.specs.declared.fault.ManifestFault.TheVariants.{Json, Field, Order, Versions, NoMemory}
use Rattle.manifests.specs.Files.{span_of, AreRangeNames}
use Rattle.manifests.specs.Grammar.{natural, texts, IsWhole, ManifestText, name_for, written}
use Rattle.manifests.specs.Reading.{Fails, ◌>>=◌, found_or, number_in, texts_of, texts_in, format_or, fields_of, misplaced, spans, agrees, checked_at, checked, value_of, manifest_read, ok_side}
use Rattle.manifests.specs.Laws.{ReadIsManifest, ManifestIsRead}
use Rattle.manifests.proofs.Lists.{misplaced_none, misplaced_again, texts_found, texts_again, texts_float, texts_depth}

pub found_or_ok : {A : Type 0} (fault : ManifestFault) (o : Option A) (x : A) → found_or fault o ≡ Ok x → o ≡ Some x
found_or_ok fault (Some y) x e = cc
found_or_ok fault None x e = absurd cc

ok_is : {A : Type 0} (x y : A) (r : Result A ManifestFault) → r ≡ Ok x → r ≡ Ok y → x ≡ y
ok_is x y (Ok z) p q = let left : z ≡ x = cc in let right : z ≡ y = cc in sym left ∙ right
ok_is x y (Err d) p q = absurd cc

-- ---- the text

cond_some : {A : Type 0} (b : Bool) (o : Option A) (x : A) → cond b o None ≡ Some x → (b ≡ true) × (o ≡ Some x)
cond_some true o x e = (refl, e)
cond_some false o x e = absurd cc

pub value_found : (bytes : Bytes) (value : Data) → value_of bytes ≡ Some value → IsUtf8 bytes × (json.read bytes ≡ Some value)
unfolding value_of
value_found bytes value e = let g = cond_some (is_utf8 bytes) (json.read bytes) value e in (IsUtf8-from_is_utf8 bytes g.0, g.1)

pub value_again : (bytes text : Bytes) (o : Option Data) → IsUtf8 bytes → text ≡ bytes → json.read text ≡ o → value_of bytes ≡ o
unfolding value_of
value_again bytes text o utf8 is e = cond-true (is_utf8 bytes) (json.read bytes) None (is_utf8-from_IsUtf8 bytes utf8) ∙ ap json.read (sym is) ∙ e

pub no_text : (bytes : Bytes) → ¬ (IsUtf8 bytes) → value_of bytes ≡ None
unfolding value_of
no_text bytes none = cond-false (is_utf8 bytes) (json.read bytes) None (false_from_ne_true (is_utf8 bytes) (λ yes. none (IsUtf8-from_is_utf8 bytes yes)))

-- ---- the fields

u64_is : (n : Num) (k : ℕ) → as_u64 n ≡ Some k → n ≡ unsigned k
u64_is (unsigned n) k e = let is : n ≡ k = cc in ap unsigned is
u64_is (negative z) k e = absurd cc
u64_is (float x) k e = absurd cc

number_is : (o : Option Data) (n : ℕ) → option_and_then as_u64 (option_and_then as_number o) ≡ Some n → o ≡ Some (natural n)
number_is None n e = absurd cc
number_is (Some null) n e = absurd cc
number_is (Some (boolean b)) n e = absurd cc
number_is (Some (number m)) n e = ap (λ (x : Num). Some (number x)) (u64_is m n e)
number_is (Some (string s)) n e = absurd cc
number_is (Some (array items)) n e = absurd cc
number_is (Some (object ms)) n e = absurd cc

pub number_found : (key : Bytes) (value : Data) (n : ℕ) → number_in key value ≡ Some n → get key value ≡ Some (natural n)
unfolding number_in
number_found key value n e = number_is (get key value) n e

pub number_again : (key : Bytes) (value : Data) (n : ℕ) → get key value ≡ Some (natural n) → number_in key value ≡ Some n
unfolding number_in
number_again key value n e = ap (λ (o : Option Data). option_and_then as_u64 (option_and_then as_number o)) e

array_is : (o : Option Data) (ts : List Bytes) → option_and_then texts_of (option_and_then as_array o) ≡ Some ts → o ≡ Some (array (texts ts))
array_is None ts e = absurd cc
array_is (Some null) ts e = absurd cc
array_is (Some (boolean b)) ts e = absurd cc
array_is (Some (number m)) ts e = absurd cc
array_is (Some (string s)) ts e = absurd cc
array_is (Some (array items)) ts e = ap (λ (x : Items). Some (array x)) (texts_found items ts e)
array_is (Some (object ms)) ts e = absurd cc

pub files_found : (key : Bytes) (value : Data) (ts : List Bytes) → texts_in key value ≡ Some ts → get key value ≡ Some (array (texts ts))
unfolding texts_in
files_found key value ts e = array_is (get key value) ts e

pub files_again : (key : Bytes) (value : Data) (ts : List Bytes) → get key value ≡ Some (array (texts ts)) → texts_in key value ≡ Some ts
unfolding texts_in
files_again key value ts e = ap (λ (o : Option Data). option_and_then texts_of (option_and_then as_array o)) e ∙ texts_again ts

format_found : (o : Option ℕ) (n : ℕ) → format_or o ≡ Ok n → o ≡ Some 1
format_found None n e = absurd cc
format_found (Some m) n e = go (eqb m 1) refl e
  where
    go : (b : Bool) → eqb m 1 ≡ b → cond b (Ok m) (Err (Field Format)) ≡ Ok n → Some m ≡ Some 1
    go true h g = ap (λ (x : ℕ). Some x) (eqb-true m 1 h)
    go false h g = absurd cc

pub record HasFields (value : Data) (manifest : Manifest) : Type 0 where
  pub begin_version : get (codes "beginVersion") value ≡ Some (natural manifest.begin)
  pub end_version : get (codes "endVersion") value ≡ Some (natural manifest.end)
  pub file_texts : get (codes "files") value ≡ Some (array (texts manifest.files))
  pub format : get (codes "format") value ≡ Some (natural 1)
  pub total_bytes : get (codes "totalBytes") value ≡ Some (natural manifest.bytes)

pub fields_found : (value : Data) (manifest : Manifest) → fields_of value ≡ Ok manifest → HasFields value manifest
unfolding fields_of
fields_found value manifest e =
    let rest5 : ℕ → ℕ → List Bytes → ℕ → ℕ → Result Manifest ManifestFault = λ begin end files format bytes. Ok (record { begin = begin; end = end; files = files; bytes = bytes }) in
    let rest4 : ℕ → ℕ → List Bytes → ℕ → Result Manifest ManifestFault = λ begin end files format. found_or (Field TotalBytes) (number_in (codes "totalBytes") value) >>= λ bytes. rest5 begin end files format bytes in
    let rest3 : ℕ → ℕ → List Bytes → Result Manifest ManifestFault = λ begin end files. format_or (number_in (codes "format") value) >>= λ format. rest4 begin end files format in
    let rest2 : ℕ → ℕ → Result Manifest ManifestFault = λ begin end. found_or (Field Files) (texts_in (codes "files") value) >>= λ files. rest3 begin end files in
    let rest1 : ℕ → Result Manifest ManifestFault = λ begin. found_or (Field EndVersion) (number_in (codes "endVersion") value) >>= λ end. rest2 begin end in
    let a = bind_ok (found_or (Field BeginVersion) (number_in (codes "beginVersion") value)) rest1 manifest e in
    let b = bind_ok (found_or (Field EndVersion) (number_in (codes "endVersion") value)) (rest2 a.0) manifest a.2 in
    let c = bind_ok (found_or (Field Files) (texts_in (codes "files") value)) (rest3 a.0 b.0) manifest b.2 in
    let d = bind_ok (format_or (number_in (codes "format") value)) (rest4 a.0 b.0 c.0) manifest c.2 in
    let f = bind_ok (found_or (Field TotalBytes) (number_in (codes "totalBytes") value)) (rest5 a.0 b.0 c.0 d.0) manifest d.2 in
    let whole : Manifest = record { begin = a.0; end = b.0; files = c.0; bytes = f.0 } in
    let is : whole ≡ manifest = ok_is whole manifest (Ok whole) refl f.2 in
    subst (λ (m : Manifest). HasFields value m) is (record {
      begin_version = number_found (codes "beginVersion") value a.0 (found_or_ok (Field BeginVersion) (number_in (codes "beginVersion") value) a.0 a.1);
      end_version = number_found (codes "endVersion") value b.0 (found_or_ok (Field EndVersion) (number_in (codes "endVersion") value) b.0 b.1);
      file_texts = files_found (codes "files") value c.0 (found_or_ok (Field Files) (texts_in (codes "files") value) c.0 c.1);
      format = number_found (codes "format") value 1 (format_found (number_in (codes "format") value) d.0 d.1);
      total_bytes = number_found (codes "totalBytes") value f.0 (found_or_ok (Field TotalBytes) (number_in (codes "totalBytes") value) f.0 f.1);
    })

fields_again : (value : Data) (manifest : Manifest) → HasFields value manifest → fields_of value ≡ Ok manifest
unfolding fields_of
fields_again value manifest h =
    rw (
      number_again (codes "beginVersion") value manifest.begin h.begin_version,
      number_again (codes "endVersion") value manifest.end h.end_version,
      files_again (codes "files") value manifest.files h.file_texts,
      number_again (codes "format") value 1 h.format,
      number_again (codes "totalBytes") value manifest.bytes h.total_bytes,
    ) refl

-- ---- files, numbers and the name

spans_found : (span : Option (ℕ × ℕ)) (manifest : Manifest) → spans span manifest ≡ true → span ≡ Some (manifest.begin, manifest.end)
spans_found None manifest e = absurd cc
spans_found (Some span) manifest e =
    let p = and_parts (eqb span.0 manifest.begin) (eqb span.1 manifest.end) e in
    ap (λ (n : ℕ). Some (n, span.1)) (eqb-true span.0 manifest.begin p.0) ∙ ap (λ (n : ℕ). Some (manifest.begin, n)) (eqb-true span.1 manifest.end p.1)

spans_again : (span : Option (ℕ × ℕ)) (manifest : Manifest) → span ≡ Some (manifest.begin, manifest.end) → spans span manifest ≡ true
spans_again span manifest e = ap (λ (s : Option (ℕ × ℕ)). spans s manifest) e ∙ and_from (eqb manifest.begin manifest.begin) (eqb manifest.end manifest.end) (eq-eqb manifest.begin manifest.begin refl) (eq-eqb manifest.end manifest.end refl)

abbrev Agrees : Name → Manifest → Type 0
Agrees name manifest = (ticket : ℕ) × (name ≡ names.Manifest manifest.begin manifest.end manifest.bytes ticket) × (span_of manifest.files ≡ Some (manifest.begin, manifest.end))

agrees_found : (name : Name) (manifest : Manifest) → agrees name manifest ≡ true → Agrees name manifest
agrees_found (names.Range snapshot version ticket block) manifest e = absurd cc
agrees_found (names.Log begin end ticket block) manifest e = absurd cc
agrees_found names.Unreliable manifest e = absurd cc
agrees_found names.Expired manifest e = absurd cc
agrees_found names.Other manifest e = absurd cc
agrees_found (names.Manifest begin end bytes ticket) manifest e =
    let p = and_parts (eqb begin manifest.begin && eqb end manifest.end && eqb bytes manifest.bytes) (spans (span_of manifest.files) manifest) e in
    let q = and_parts (eqb begin manifest.begin && eqb end manifest.end) (eqb bytes manifest.bytes) p.0 in
    let r = and_parts (eqb begin manifest.begin) (eqb end manifest.end) q.0 in
    let b = eqb-true begin manifest.begin r.0 in
    let d = eqb-true end manifest.end r.1 in
    let n = eqb-true bytes manifest.bytes q.1 in
    (ticket, ap (λ (x : ℕ). names.Manifest x end bytes ticket) b ∙ ap (λ (x : ℕ). names.Manifest manifest.begin x bytes ticket) d ∙ ap (λ (x : ℕ). names.Manifest manifest.begin manifest.end x ticket) n, spans_found (span_of manifest.files) manifest p.1)

agrees_again : (manifest : Manifest) (ticket : ℕ) → span_of manifest.files ≡ Some (manifest.begin, manifest.end) → agrees (names.Manifest manifest.begin manifest.end manifest.bytes ticket) manifest ≡ true
agrees_again manifest ticket span =
    let b = eq-eqb manifest.begin manifest.begin refl in
    let d = eq-eqb manifest.end manifest.end refl in
    let n = eq-eqb manifest.bytes manifest.bytes refl in
    and_from (eqb manifest.begin manifest.begin && eqb manifest.end manifest.end && eqb manifest.bytes manifest.bytes) (spans (span_of manifest.files) manifest)
    (and_from (eqb manifest.begin manifest.begin && eqb manifest.end manifest.end) (eqb manifest.bytes manifest.bytes) (and_from (eqb manifest.begin manifest.begin) (eqb manifest.end manifest.end) b d) n)
    (spans_again (span_of manifest.files) manifest span)

pub record IsChecked (name : Name) (manifest : Manifest) : Type 0 where
  pub files : AreRangeNames None manifest.files
  pub agrees : Agrees name manifest

abbrev checked_at' : Option ℕ → Bool → Manifest → Result Manifest ManifestFault
checked_at' (Some at) b manifest = Err (Order at)
checked_at' None b manifest = cond b (Ok manifest) (Err Versions)

checked_go : (o : Option ℕ) (b : Bool) (m manifest : Manifest) → checked_at' o b m ≡ Ok manifest → (o ≡ None) × (b ≡ true) × (m ≡ manifest)
checked_go None true m manifest e = (refl, refl, ok_is m manifest (Ok m) refl e)
checked_go None false m manifest e = absurd cc
checked_go (Some at) b m manifest e = absurd cc

checked_found : (name : Name) (m manifest : Manifest) → checked name m ≡ Ok manifest → (m ≡ manifest) × IsChecked name manifest
unfolding checked
checked_found name m manifest e = go (misplaced None 0 m.files) refl (agrees name m) refl (as_tests (misplaced None 0 m.files) name m e)
  where
    as_tests : (o : Option ℕ) (n : Name) (x : Manifest) → checked_at o n x ≡ Ok manifest → checked_at' o (agrees n x) x ≡ Ok manifest
    as_tests None n x h = h
    as_tests (Some at) n x h = h

    go : (o : Option ℕ) → misplaced None 0 m.files ≡ o → (b : Bool) → agrees name m ≡ b → checked_at' o b m ≡ Ok manifest → (m ≡ manifest) × IsChecked name manifest
    go o p b q h =
        let g = checked_go o b m manifest h in
        (g.2, subst (λ (x : Manifest). IsChecked name x) g.2 (record { files = misplaced_none None 0 m.files (p ∙ g.0); agrees = agrees_found name m (q ∙ g.1) }))

checked_again : (manifest : Manifest) (ticket : ℕ) → IsWhole manifest → checked (names.Manifest manifest.begin manifest.end manifest.bytes ticket) manifest ≡ Ok manifest
unfolding checked
checked_again manifest ticket w =
    let name = names.Manifest manifest.begin manifest.end manifest.bytes ticket in
    ap (λ (o : Option ℕ). checked_at o name manifest) (misplaced_again None 0 manifest.files w.files) ∙ cond-true (agrees name manifest) (Ok manifest) (Err Versions) (agrees_again manifest ticket w.versions)

-- ---- the whole

pub read_found : (name : Name) (bytes : Bytes) (manifest : Manifest) → manifest_read name bytes ≡ Ok manifest → ManifestText name bytes manifest
unfolding manifest_read
read_found name bytes manifest e =
    let a = bind_ok (found_or Json (value_of bytes)) (λ value. fields_of value >>= λ m. checked name m) manifest e in
    let b = bind_ok (fields_of a.0) (λ m. checked name m) manifest a.2 in
    let c = checked_found name b.0 manifest b.2 in
    let v = value_found bytes a.0 (found_or_ok Json (value_of bytes) a.0 a.1) in
    let f = fields_found a.0 manifest (b.1 ∙ ap (λ (m : Manifest). Ok m) c.0) in
    record {
      utf8 = v.0;
      value = a.0;
      json = v.1;
      begin_version = f.begin_version;
      end_version = f.end_version;
      file_texts = f.file_texts;
      format = f.format;
      total_bytes = f.total_bytes;
      whole = record { files = c.1.files; versions = c.1.agrees.2 };
      ticket = c.1.agrees.0;
      named = c.1.agrees.1;
    }

pub read_again : (name : Name) (bytes : Bytes) (manifest : Manifest) → ManifestText name bytes manifest → manifest_read name bytes ≡ Ok manifest
unfolding manifest_read
read_again name bytes manifest t =
    let v : value_of bytes ≡ Some t.value = value_again bytes bytes (Some t.value) t.utf8 refl t.json in
    let f : fields_of t.value ≡ Ok manifest = fields_again t.value manifest (record { begin_version = t.begin_version; end_version = t.end_version; file_texts = t.file_texts; format = t.format; total_bytes = t.total_bytes }) in
    ap (λ (o : Option Data). found_or Json o >>= λ value. fields_of value >>= λ m. checked name m) v
    ∙ ap (λ (r : Result Manifest ManifestFault). r >>= λ m. checked name m) f
    ∙ ap (λ (n : Name). checked n manifest) t.named ∙ checked_again manifest t.ticket t.whole

ok_from_side : {A : Type 0} (r : Result A ManifestFault) (x : A) → ok_side r ≡ Some x → r ≡ Ok x
ok_from_side (Ok y) x e = cc
ok_from_side (Err f) x e = absurd cc

pub read_is_manifest : ReadIsManifest
read_is_manifest name bytes manifest e = read_found name bytes manifest (ok_from_side (manifest_read name bytes) manifest e)

pub manifest_is_read : ManifestIsRead
manifest_is_read name bytes manifest t = ap ok_side (read_again name bytes manifest t)

pub only_this : (name : Name) (bytes : Bytes) (m : Manifest) (r : Result Manifest ManifestFault) → ManifestText name bytes m → IfOk r (λ manifest. manifest_read name bytes ≡ Ok manifest) → IfErr r (λ fault. Fails fault (manifest_read name bytes)) → MatchResult r (λ manifest. manifest ≡ m) (λ fault. fault ≡ NoMemory)
only_this name bytes m (Ok manifest) t ok err = ok_is manifest m (manifest_read name bytes) ok (read_again name bytes m t)
only_this name bytes m (Err fault) t ok err = elim err [ inl memory ↦ memory | inr met ↦ absurd (let both = sym met ∙ read_again name bytes m t in cc) ]

-- ---- what is written

written_fields : (manifest : Manifest) → HasFields (written manifest) manifest
unfolding serde_json_on_literals
written_fields manifest = record { begin_version = refl; end_version = refl; file_texts = refl; format = refl; total_bytes = refl }

pub written_float : (manifest : Manifest) → has_float (written manifest) ≡ false
written_float manifest = ap (λ (b : Bool). b || false) (texts_float manifest.files)

pub written_depth : (manifest : Manifest) → depth (written manifest) ≤ json.max_depth
written_depth manifest = omega (arith, texts_depth manifest.files)

pub written_read : (manifest : Manifest) (ticket : ℕ) (text : Bytes) → IsWhole manifest → IsUtf8 text → json.read text ≡ Some (written manifest) → ManifestText (name_for manifest ticket) text manifest
written_read manifest ticket text whole utf8 e =
    let f = written_fields manifest in
    record { utf8 = utf8; value = written manifest; json = e; begin_version = f.begin_version; end_version = f.end_version; file_texts = f.file_texts; format = f.format; total_bytes = f.total_bytes; whole = whole; ticket = ticket; named = refl }

pub fields_made : (value : Data) (begin end : ℕ) (files : List Bytes) (format bytes : ℕ) → Ok begin ≡ found_or (Field BeginVersion) (number_in (codes "beginVersion") value) → Ok end ≡ found_or (Field EndVersion) (number_in (codes "endVersion") value) → texts_in (codes "files") value ≡ Some files
    → Ok format ≡ format_or (number_in (codes "format") value) → Ok bytes ≡ found_or (Field TotalBytes) (number_in (codes "totalBytes") value) → fields_of value ≡ Ok (record { begin = begin; end = end; files = files; bytes = bytes })
unfolding fields_of
fields_made value begin end files format bytes b e f m t =
    rw (
      found_or_ok (Field BeginVersion) (number_in (codes "beginVersion") value) begin (sym b),
      found_or_ok (Field EndVersion) (number_in (codes "endVersion") value) end (sym e),
      f,
      format_found (number_in (codes "format") value) format (sym m),
      found_or_ok (Field TotalBytes) (number_in (codes "totalBytes") value) bytes (sym t),
    ) refl
