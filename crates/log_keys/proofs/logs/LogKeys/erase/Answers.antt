use Rattle.std.proofs.Common.{ℕ, Bool, not, sym, ap, ◌∙◌, subst}
use Rattle.log_keys.specs.Logs.{is_older, erased}
use Rattle.log_keys.specs.inner.Table.{IsTable, log_in}
use Rattle.log_keys.proofs.Groups.{table_filter, log_filter}
use Rattle.log_keys.proofs.logs.LogKeys.erase.Goals as goal

pub invariant_of-self : goal.invariant_of-self
invariant_of-self c =
    let test : ℕ → ℕ → Bool = λ of version. not (is_older c.args.job c.args.below of version) in
    subst IsTable (sym c.erase.ensures) (table_filter test c.self.inside.rows.items c.self.invariant)

pub returns : goal.returns
returns c =
    let test : ℕ → ℕ → Bool = λ of version. not (is_older c.args.job c.args.below of version) in
    ap log_in c.erase.ensures ∙ log_filter test c.self.inside.rows.items c.self.invariant ∙ ap (erased c.args.job c.args.below) c.self.view_is
