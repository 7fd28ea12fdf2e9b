use Rattle.std.proofs.Common.{List, map, arith, subst}
use Rattle.fb_bytes.specs.Bytes.{Bytes}
use Rattle.fb_outside.proofs.Counts.{later}
use Rattle.expire_core.specs.Changes.{deletion, StopsIn}
use Rattle.expire_core.proofs.Making.{one_more, stops_at}
use Rattle.expire_core.proofs.changing.delete_names.Goals as goal

pub names-preserved : goal.names-preserved
names-preserved g c = record {
  made = one_more c.args.container.now c.as_slice-name-items.result.now c.names.name-index c.name-item.result _ _ _ c.names-test.true c.name-item.is c.names.invariant.made c.in-Ok.ensures.done;
  called = omega (arith, c.in-Ok.ensures.called);
  later = later _ _ _ _ c.names.invariant.later c.in-Ok.ensures.count;
}

pub returns-in-Err-clause-stopped : goal.returns-in-Err-clause-stopped
returns-in-Err-clause-stopped g c =
    subst (λ (xs : List Bytes). StopsIn (map (deletion c.args.container.now) xs) (g.V.Vault.files c.args.vault.now) (g.V.Vault.files c.delete_file.new.vault)) c.as_slice-name-items.ensures
    (stops_at c.args.container.now c.as_slice-name-items.result.now c.names.name-index c.name-item.result (g.V.Vault.files c.args.vault.now) (g.V.Vault.files c.names.vault) (g.V.Vault.files c.delete_file.new.vault) c.names-test.true c.name-item.is c.names.invariant.made c.in-Err.ensures.stopped)
