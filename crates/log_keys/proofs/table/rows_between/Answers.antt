use Rattle.std.proofs.Common.{ℕ, ◌-◌, take, drop, sym, ap, ◌∙◌}
use Rattle.log_keys.specs.inner.Keys.{first_at}
use Rattle.log_keys.specs.inner.Table.{keys_below}
use Rattle.log_keys.proofs.Places.{cut, between_cut}
use Rattle.log_keys.proofs.table.rows_between.Goals as goal

pub returns : goal.returns
returns c =
    let rows = c.args.rows.now in
    ap (λ (n : ℕ). take (n - c.place_of-first.result) (drop c.place_of-first.result rows)) c.max.ensures
    ∙ ap (λ (n : ℕ). cut n c.place_of-last.result rows) c.place_of-first.ensures.place
    ∙ ap (λ (n : ℕ). cut (keys_below (first_at c.args.job c.args.begin) rows) n rows) c.place_of-last.ensures.place
    ∙ sym (between_cut c.args.job c.args.begin c.args.end rows c.requires)
