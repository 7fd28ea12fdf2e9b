use Rattle.std.proofs.Common.{inl, refl, ap, ◌∙◌}
use Rattle.fb_cli.proofs.Turns.{played_fault, same_last}
use Rattle.fb_cli.proofs.Fronts.{nothing_front, leaves_front, starved_owes}
use Rattle.fb_cli.proofs.Histories.{tells}
use Rattle.fb_cli.proofs.Replaying.{ran}
use Rattle.fb_cli.proofs.replay.play.Goals as goal

pub returns-in-Ok-lines-clause-fault : goal.returns-in-Ok-lines-clause-fault
returns-in-Ok-lines-clause-fault g c = inl (played_fault _ _ _ c.in-Ok-lines.lines c.as_slice-in-Ok-lines.result.now c.last_fault-fault.result c.in-Ok-lines.ensures.run c.as_slice-in-Ok-lines.ensures c.last_fault-fault.ensures)

pub returns-in-Ok-lines-clause-reported : goal.returns-in-Ok-lines-clause-reported
returns-in-Ok-lines-clause-reported g c = (λ _. played_fault _ _ _ c.in-Ok-lines.lines c.as_slice-in-Ok-lines.result.now c.last_fault-fault.result c.in-Ok-lines.ensures.run c.as_slice-in-Ok-lines.ensures c.last_fault-fault.ensures, λ _. refl)

pub returns-in-Ok-lines-clause-run : goal.returns-in-Ok-lines-clause-run
returns-in-Ok-lines-clause-run g c = tells c.args.workload.now c.in-Ok.world.workload c.make_steps-lines.new.world.workload (g.V.Vault.files c.args.vault) (g.V.Vault.files c.into_parts-parts.result.vault) (g.V.Vault.faults c.args.vault) (g.V.Vault.faults c.into_parts-parts.result.vault) c.in-Ok.world.faults c.make_steps-lines.new.world.faults c.in-Ok.world.state c.make_steps-lines.new.world.state _ c.as_slice.result.now c.faithful_law.ensures c.in-Ok.ensures.workload c.in-Ok.ensures.opening c.in-Ok.ensures.faults c.into_parts-parts.ensures.faults c.in-Ok-lines.ensures.run c.in-Ok-lines.ensures.lines c.in-Ok-lines.ensures.causes c.as_slice.ensures (search) c.in-Ok-lines.ensures.workload c.into_parts-parts.ensures.src c.into_parts-parts.ensures.dst c.into_parts-parts.ensures.outcomes c.into_parts-parts.ensures.jobs c.into_parts-parts.ensures.end c.into_parts-parts.ensures.files c.into_parts-parts.ensures.sound

pub returns-in-Ok-lines-clause-front : goal.returns-in-Ok-lines-clause-front
returns-in-Ok-lines-clause-front g c = leaves_front c.args.workload.now c.in-Ok.world.workload c.make_steps-lines.new.world.workload (g.V.Vault.files c.args.vault) (g.V.Vault.files c.into_parts-parts.result.vault) (g.V.Vault.faults c.args.vault) (g.V.Vault.faults c.into_parts-parts.result.vault) c.in-Ok.world.faults c.make_steps-lines.new.world.faults c.in-Ok.world.state c.make_steps-lines.new.world.state c.as_slice.result.now c.faithful_law.ensures c.in-Ok.ensures.workload c.in-Ok.ensures.opening c.in-Ok.ensures.faults c.into_parts-parts.ensures.faults c.in-Ok-lines.ensures.front c.as_slice.ensures c.in-Ok-lines.ensures.workload c.into_parts-parts.ensures.files c.into_parts-parts.ensures.sound

pub returns-in-Ok-lines-clause-store : goal.returns-in-Ok-lines-clause-store
returns-in-Ok-lines-clause-store g c = ran c.args.workload.now (g.V.Vault.files c.args.vault) (g.V.Vault.files c.into_parts-parts.result.vault) (g.V.Vault.faults c.args.vault) (g.V.Vault.faults c.into_parts-parts.result.vault) c.in-Ok.world.faults c.make_steps-lines.new.world.faults c.in-Ok-lines.lines c.last_fault-fault.result
    (returns-in-Ok-lines-clause-front g c)
    c.in-Ok.ensures.faults c.into_parts-parts.ensures.faults c.in-Ok-lines.ensures.causes
    (λ q. same_last c.in-Ok-lines.lines c.as_slice-in-Ok-lines.result.now c.last_fault-fault.result _ c.as_slice-in-Ok-lines.ensures c.last_fault-fault.ensures q)
    (returns-in-Ok-lines-clause-fault g c)

pub returns-in-Err-clause-front : goal.returns-in-Err-clause-front
returns-in-Err-clause-front g c = nothing_front c.args.workload.now (g.V.Vault.files c.args.vault) (g.V.Vault.files c.refused.result.vault) (g.V.Vault.faults c.args.vault) (g.V.Vault.faults c.refused.result.vault) (ap g.V.Vault.files (c.refused.ensures.vault ∙ c.in-Err.ensures.vault_back)) (ap g.V.Vault.faults (c.refused.ensures.vault ∙ c.in-Err.ensures.vault_back))

pub returns-in-Err-lines-clause-front : goal.returns-in-Err-lines-clause-front
returns-in-Err-lines-clause-front g c = leaves_front c.args.workload.now c.in-Ok.world.workload c.make_steps-lines.new.world.workload (g.V.Vault.files c.args.vault) (g.V.Vault.files c.refused-in-Err-lines.result.vault) (g.V.Vault.faults c.args.vault) (g.V.Vault.faults c.refused-in-Err-lines.result.vault) c.in-Ok.world.faults c.make_steps-lines.new.world.faults c.in-Ok.world.state c.make_steps-lines.new.world.state c.as_slice.result.now c.faithful_law.ensures c.in-Ok.ensures.workload c.in-Ok.ensures.opening c.in-Ok.ensures.faults (ap g.V.Vault.faults c.refused-in-Err-lines.ensures.vault ∙ c.into_parts-parts.ensures.faults) c.in-Err-lines.ensures.front c.as_slice.ensures c.in-Err-lines.ensures.workload (ap g.V.Vault.files c.refused-in-Err-lines.ensures.vault ∙ c.into_parts-parts.ensures.files) c.into_parts-parts.ensures.sound

pub returns-in-Err-lines-clause-store : goal.returns-in-Err-lines-clause-store
returns-in-Err-lines-clause-store g c = starved_owes c.args.workload.now _ c.refused-in-Err-lines.result.fault (returns-in-Err-lines-clause-front g c) c.refused-in-Err-lines.ensures.fault
