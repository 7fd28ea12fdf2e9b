use Rattle.std.proofs.Common.{◌∙◌, [], arith, refl, subst, sym}
use Rattle.report_text.specs.declared.EventLine.{EventLine}
use Rattle.std.specs.Prelude.{List}
use Rattle.fb_cli.specs.Causes.{RoseInEach}
use Rattle.fb_cli.proofs.Counting.{each_more}
use Rattle.fb_cli.proofs.Fronts.{front_at, starved_front, step_front}
use Rattle.fb_cli.proofs.Turns.{run_more, lines_more, pushed}
use Rattle.fb_cli.proofs.replay.make_steps.Goals as goal

pub loop-line-preserved : goal.loop-line-preserved
loop-line-preserved g c = record {
  run = run_more c.args.world.now.workload c.loop-line.world.workload c.args.world.now.state c.loop-line.world.state c.make_step.new.world.state c.loop-line.lines c.push.new.self _ (pushed c.loop-line.lines c.push.new.self c.in_ok-event_line.event_line _ c.in_ok-push.ensures.ok c.in_ok-event_line.ensures) c.loop-line.invariant.workload c.loop-line.invariant.run c.in_ok-told.ensures.step;
  lines = lines_more c.loop-line.lines c.push.new.self _ c.args.schedule.now c.loop-line.line-index _ (pushed c.loop-line.lines c.push.new.self c.in_ok-event_line.event_line _ c.in_ok-push.ensures.ok c.in_ok-event_line.ensures) c.loop-line.invariant.lines (omega arith) refl;
  causes = subst (λ (xs : List EventLine). RoseInEach xs c.args.world.now.faults c.make_step.new.world.faults) (sym (pushed c.loop-line.lines c.push.new.self c.in_ok-event_line.event_line _ c.in_ok-push.ensures.ok c.in_ok-event_line.ensures)) (each_more c.loop-line.lines _ c.args.world.now.faults c.loop-line.world.faults c.make_step.new.world.faults c.loop-line.invariant.causes c.in_ok-told.ensures.faults);
  workload = c.in_ok-told.ensures.workload ∙ c.loop-line.invariant.workload;
}

pub returns-in_err-told-clause-front : goal.returns-in_err-told-clause-front
returns-in_err-told-clause-front g c = starved_front c.args.world.now.workload c.loop-line.world.workload c.args.world.now.state c.loop-line.world.state c.make_step.new.world.state c.args.schedule.now c.loop-line.line-index _ c.loop-line.lines c.args.world.now.faults c.loop-line.world.faults c.make_step.new.world.faults c.loop-line.invariant.workload c.loop-line.invariant.run c.loop-line.invariant.lines c.loop-line.invariant.causes c.in_err-told.ensures.starved (omega arith) c.in_err-told.ensures.later

pub returns-in_err-event_line-clause-front : goal.returns-in_err-event_line-clause-front
returns-in_err-event_line-clause-front g c = step_front c.args.world.now.workload c.loop-line.world.workload c.args.world.now.state c.loop-line.world.state c.make_step.new.world.state c.args.schedule.now c.loop-line.line-index _ c.loop-line.lines _ c.args.world.now.faults c.loop-line.world.faults c.make_step.new.world.faults c.loop-line.invariant.workload c.loop-line.invariant.run c.loop-line.invariant.lines c.loop-line.invariant.causes c.in_ok-told.ensures.step (omega arith) refl c.in_ok-told.ensures.faults

pub returns-in_err-push-clause-front : goal.returns-in_err-push-clause-front
returns-in_err-push-clause-front g c = step_front c.args.world.now.workload c.loop-line.world.workload c.args.world.now.state c.loop-line.world.state c.make_step.new.world.state c.args.schedule.now c.loop-line.line-index _ c.loop-line.lines _ c.args.world.now.faults c.loop-line.world.faults c.make_step.new.world.faults c.loop-line.invariant.workload c.loop-line.invariant.run c.loop-line.invariant.lines c.loop-line.invariant.causes c.in_ok-told.ensures.step (omega arith) refl c.in_ok-told.ensures.faults

pub returns-clause-front : goal.returns-clause-front
returns-clause-front g c = front_at c.args.world.now.workload c.args.world.now.state c.loop-line.world.state c.args.schedule.now c.loop-line.line-index c.loop-line.lines c.args.world.now.faults c.loop-line.world.faults c.loop-line.invariant.run c.loop-line.invariant.lines c.loop-line.invariant.causes

pub returns-in_err-with_capacity-clause-front : goal.returns-in_err-with_capacity-clause-front
returns-in_err-with_capacity-clause-front g c = front_at c.args.world.now.workload c.args.world.now.state c.args.world.now.state c.args.schedule.now 0 [] c.args.world.now.faults c.args.world.now.faults refl refl (omega arith)
