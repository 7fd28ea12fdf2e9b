use Rattle.std.proofs.Common.{◌≡◌, ◌≤◌, Some, string_bytes, ap, sym, subst, ◌∙◌}
use Rattle.std.specs.Str.{IsUtf8}
use Rattle.serde_json.specs.Read as json
use Rattle.serde_json.specs.Data.{Data, depth}
use Rattle.serde_json.specs.Written.{has_float, compact_text}
use Rattle.manifests.specs.Grammar.{written}
use Rattle.manifests.proofs.Manifests.{written_float, written_depth, written_read}
use Rattle.manifests.proofs.writing.write.Goals as goal

pub returns-clause-text : goal.returns-clause-text
returns-clause-text c =
    c.in_ok-bytes.ensures ∙ c.as_bytes.ensures.value ∙ c.as_str-written.ensures.value
    ∙ c.in_ok-text.ensures.text (ap has_float c.in_ok-value.ensures ∙ written_float c.args.manifest.now) ∙ ap compact_text c.in_ok-value.ensures

pub returns-clause-grammar : goal.returns-clause-grammar
returns-clause-grammar c = λ ticket.
    let same : c.in_ok-bytes.bytes ≡ string_bytes c.in_ok-text.text = c.in_ok-bytes.ensures ∙ c.as_bytes.ensures.value ∙ c.as_str-written.ensures.value in
    let shallow = subst (λ (d : Data). depth d ≤ json.max_depth) (sym c.in_ok-value.ensures) (written_depth c.args.manifest.now) in
    let back : json.read c.in_ok-bytes.bytes ≡ Some (written c.args.manifest.now) = ap json.read same ∙ c.in_ok-text.ensures.reads_back shallow ∙ ap (λ (d : Data). Some d) c.in_ok-value.ensures in
    written_read c.args.manifest.now ticket c.in_ok-bytes.bytes (record { files = c.requires.files; versions = c.requires.versions }) (subst IsUtf8 (sym c.in_ok-bytes.ensures) c.as_bytes.ensures.utf8) back
