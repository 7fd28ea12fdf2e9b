use Rattle.std.proofs.Common.{ℕ, Bool, not, nat_eq, sym, ap, ◌∙◌, subst}
use Rattle.log_keys.specs.Logs.{without}
use Rattle.log_keys.specs.inner.Table.{IsTable, log_in}
use Rattle.log_keys.proofs.Groups.{table_filter, log_filter}
use Rattle.log_keys.proofs.logs.LogKeys.retract.Goals as goal

pub invariant_of-self : goal.invariant_of-self
invariant_of-self c =
    let test : ℕ → ℕ → Bool = λ of version. not (nat_eq version c.args.version) in
    subst IsTable (sym c.retract.ensures) (table_filter test c.self.inside.rows.items c.self.invariant)

pub returns : goal.returns
returns c =
    let test : ℕ → ℕ → Bool = λ of version. not (nat_eq version c.args.version) in
    ap log_in c.retract.ensures ∙ log_filter test c.self.inside.rows.items c.self.invariant ∙ ap (without c.args.version) c.self.view_is
