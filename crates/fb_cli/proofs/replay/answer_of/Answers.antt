use Rattle.std.proofs.Common.{◌∙◌, sym}
use Rattle.fb_cli.proofs.Answering.{step_answers, step_starves, step_counts, drain_answers, drain_starves, drain_counts}
use Rattle.fb_cli.proofs.replay.answer_of.Goals as goal

pub returns-in-Some-clause-answers : goal.returns-in-Some-clause-answers
returns-in-Some-clause-answers g c = step_answers c.args.world.now.workload c.args.world.now.state c.step.new.self.state c.args.line c.in-Some.event c.step.result (sym c.event_of.ensures ∙ c.in-Some.is) c.step.ensures.step

pub returns-in-Some-clause-faults : goal.returns-in-Some-clause-faults
returns-in-Some-clause-faults g c = step_counts _ _ c.step.result c.step.ensures.faults

pub returns-in-Some-clause-starved : goal.returns-in-Some-clause-starved
returns-in-Some-clause-starved g c = step_starves c.args.world.now.workload _ c.args.world.now.state c.step.new.self.state c.args.line c.step.result c.step.ensures.footprint

pub returns-in-None-clause-answers : goal.returns-in-None-clause-answers
returns-in-None-clause-answers g c = drain_answers c.args.world.now.workload c.args.world.now.state c.drain.new.self.state c.args.line c.drain.result (sym c.event_of.ensures ∙ c.in-None.is) c.drain.ensures.drain

pub returns-in-None-clause-faults : goal.returns-in-None-clause-faults
returns-in-None-clause-faults g c = drain_counts _ _ c.drain.result c.drain.ensures.faults

pub returns-in-None-clause-starved : goal.returns-in-None-clause-starved
returns-in-None-clause-starved g c = λ h. drain_starves c.args.world.now.workload _ c.args.world.now.state c.drain.new.self.state c.args.line c.drain.result (sym c.event_of.ensures ∙ c.in-None.is) c.drain.ensures.drain
