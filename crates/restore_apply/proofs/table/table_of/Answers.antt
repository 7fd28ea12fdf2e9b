use Rattle.std.proofs.Common.{◌∙◌, List, subst, sym, ap, nat_cmp}
use Rattle.std.proofs.IntoIterSteps.{All-taken}
use Rattle.std.proofs.lemmas.Result.{IfOk-weaker}
use Rattle.std.specs.Cmp.Lexicographic.{slice_cmp}
use Rattle.std.specs.BTreeMap.{IsFromIterResult}
use Rattle.fb_bytes.specs.Bytes.{Bytes}
use Rattle.fb_bytes.specs.Pairs.{value_of, AreRising}
use Rattle.restore_apply.specs.inner.Tables.{Table}
use Rattle.restore_apply.proofs.Loading.{loaded_value}
use Rattle.restore_apply.proofs.table.table_of.Goals as goal

pub returns : goal.returns
returns c =
    let entries = c.in_ok-entries.entries.items in
    let same = c.in_ok-entries.ensures ∙ c.into_vec.ensures.same in
    IfOk-weaker c.from_iter.result _ _ (λ (table : Table) h. λ key.
    (subst (λ (es : List (Bytes × Bytes)). IsFromIterResult (slice_cmp nat_cmp) es table) (All-taken h.0 h.1 ((h.3.2 tt).0, (h.3.0, h.3.1, (h.3.2 tt).1)) ∙ h.2.0) h.4).0 key
    ∙ loaded_value entries key (subst AreRising (sym same) c.into_vec.ensures.rising)
    ∙ ap (λ pairs. value_of pairs key) same) c.from_iter.ensures.ran
