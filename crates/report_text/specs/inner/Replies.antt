-- Answers of events as they are kept.
use Rattle.std.specs.Prelude.{[], Ok}
use Rattle.client_core.specs.declared.End.TheVariants as ends
use Rattle.cluster_core.specs.declared.Answer.TheVariants as answers
use Rattle.report_text.specs.declared.event_answer.EventAnswer.{EventAnswer}
use Rattle.report_text.specs.declared.event_answer.EventAnswer.TheVariants.{Step}
use Rattle.report_text.specs.declared.kept.Kept.{Kept}
use Rattle.report_text.specs.declared.kept.Kept.TheVariants.{Read, Version, Commit, Other}

-- the answer that is kept so
abbrev pub kept_answer : Kept → EventAnswer
kept_answer (Read version) = Step (Ok (answers.Read version))
kept_answer (Version version) = Step (Ok (answers.Version version))
kept_answer (Commit place attempt read version) =
    Step
    (Ok (answers.Outcome
    (record {
      place = place;
      attempt = attempt;
      read = read;
      end = ends.Commit version [];
    })))
kept_answer (Other answer) = answer.value
