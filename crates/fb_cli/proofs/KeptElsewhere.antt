-- A run keeps the files outside the containers of the jobs.
use Rattle.std.specs.Prelude.{◌≡◌, List, [], ◌∷◌, map, Option}
use Rattle.std.specs.List.{AllByRecursion}
use Rattle.std.proofs.Common.{ap, ◌∙◌, subst}
use Rattle.fb_bytes.specs.Bytes.{Bytes}
use Rattle.fb_outside.specs.declared.File.{File}
use Rattle.workload_text.specs.declared.Workload.{Workload}
use Rattle.cluster_core.specs.Elsewhere.{told_of, IsApart, IsOutside, KeepsElsewhere}
use Rattle.cluster_core.specs.declared.Job.{Job}
use Rattle.cluster_core.specs.Jobs.{JobTold, job_told, started}
use Rattle.cluster_core.specs.State.{State, opening}
use Rattle.cluster_core.proofs.Elsewhere.{kept_same, kept_trans, elsewhere_law}
use Rattle.report_text.specs.declared.EventLine.{EventLine}
use Rattle.report_text.specs.declared.RunReport.{RunReport}
use Rattle.fb_cli.specs.Runs.{Tells, AreKeptElsewhere}

pub run_kept : (p : Workload) (old new : State) (lines : List EventLine) → Tells p old lines new → KeepsElsewhere old new
run_kept p old new [] r = subst (KeepsElsewhere old) r (kept_same old)
run_kept p old new (line ∷ lines) r =
    let k = r.1 in
    kept_trans old r.0 new (elsewhere_law.run p old r.0 k.made.turns k.made.run) (run_kept p r.0 new lines r.2)

told_outside : (jobs : List Job) (name : Bytes) → AllByRecursion (λ (job : JobTold). IsApart name (started job.terms)) (map job_told jobs) → IsOutside jobs name
told_outside [] name o = tt
told_outside (job ∷ jobs) name o = (o.0, told_outside jobs name o.1)

-- a run keeps the files outside the containers of the jobs that are told at its end
pub kept_elsewhere : (p : Workload) (final : State) (files files' : Option (List File)) (report : RunReport) → Tells p (opening p files) report.lines final → report.jobs ≡ map job_told final.jobs → files' ≡ final.files → AreKeptElsewhere files files' report
kept_elsewhere p final files files' report r j f name o =
    let k : KeepsElsewhere (opening p files) final = run_kept p (opening p files) final report.lines r in
    ap (λ (fs : Option (List File)). told_of fs name) f ∙ k.same name (told_outside final.jobs name (subst (λ (js : List JobTold). AllByRecursion (λ (job : JobTold). IsApart name (started job.terms)) js) j o))
