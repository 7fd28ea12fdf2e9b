use Rattle.std.proofs.Common.{◌≡◌, ◌≤◌, None, sym, subst}
use Rattle.std.specs.List.{AllByRecursion}
use Rattle.mutations.specs.declared.Entry.{Entry}
use Rattle.database.specs.Logs.{log_of}
use Rattle.database.specs.Commits.{Database}
use Rattle.database.proofs.InStep.{kept_added}
use Rattle.database.proofs.Committing.{entries_before}
use Rattle.database.proofs.Answers.{some_next}
use Rattle.database.proofs.db.Db.add_log.Goals as goal

pub invariant_of-self-2 : goal.invariant_of-self-2
invariant_of-self-2 c =
    let old = c.self.inside in
    let none : log_of old.logs.items c.args.job ≡ None = subst (λ (d : Database). log_of d.logs c.args.job ≡ None) (sym c.self.view_is) c.requires.free in
    let past : AllByRecursion (λ (entry : Entry). entry.version ≤ c.args.versions.now.now) old.history = subst (λ (d : Database). AllByRecursion (λ (entry : Entry). entry.version ≤ c.args.versions.now.now) d.history) (sym c.self.view_is) c.requires.past in
    kept_added old.profile.block old.history old.lock old.logs.items c.insert_log.new.logs.items old.keys old.store _
    c.in_ok-insert_log.ensures.ok none
    (entries_before c.args.versions.now.now c.args.versions.now.pace c.in-Some.version old.history c.requires.pace (some_next c.args.versions.now.now c.args.versions.now.pace c.in-Some.version c.in-Some.ensures) past)
    c.self.invariant
