use Rattle.std.proofs.Common.{◌∷◌, [], ◌++◌, map}
use Rattle.file_names.specs.Spelling.{unreliable_text, expired_text}
use Rattle.expire_core.specs.Changes.{setting, deletion}
use Rattle.expire_core.proofs.Making.{then_all, stops_behind, stops_before, on_ok, on_err}
use Rattle.expire_core.proofs.changing.carry_out.Goals as goal

pub returns-in-Err-clause-stopped : goal.returns-in-Err-clause-stopped
returns-in-Err-clause-stopped g c =
    stops_before (setting c.args.container.now unreliable_text c.args.plan.now.unreliable ∷ []) (map (deletion c.args.container.now) c.args.plan.now.names ++ setting c.args.container.now expired_text c.args.expired ∷ []) _ _ c.in-Err.ensures.stopped

pub returns-in-Err-delete_names-clause-stopped : goal.returns-in-Err-delete_names-clause-stopped
returns-in-Err-delete_names-clause-stopped g c =
    stops_behind (setting c.args.container.now unreliable_text c.args.plan.now.unreliable ∷ []) (map (deletion c.args.container.now) c.args.plan.now.names ++ setting c.args.container.now expired_text c.args.expired ∷ []) _ _ _ c.in_default.ensures.done
    (stops_before (map (deletion c.args.container.now) c.args.plan.now.names) (setting c.args.container.now expired_text c.args.expired ∷ []) _ _ c.in-Err-delete_names.ensures.stopped)

pub returns-clause-done : goal.returns-clause-done
returns-clause-done g c =
    on_ok c.set_property-2.result
    (λ last. then_all (setting c.args.container.now unreliable_text c.args.plan.now.unreliable ∷ []) (map (deletion c.args.container.now) c.args.plan.now.names ++ setting c.args.container.now expired_text c.args.expired ∷ []) _ _ _ c.in_default.ensures.done
    (then_all (map (deletion c.args.container.now) c.args.plan.now.names) (setting c.args.container.now expired_text c.args.expired ∷ []) _ _ _ c.in_default-delete_names.ensures.done last))
    c.set_property-2.ensures.done

pub returns-clause-stopped : goal.returns-clause-stopped
returns-clause-stopped g c =
    on_err c.set_property-2.result
    (λ last. stops_behind (setting c.args.container.now unreliable_text c.args.plan.now.unreliable ∷ []) (map (deletion c.args.container.now) c.args.plan.now.names ++ setting c.args.container.now expired_text c.args.expired ∷ []) _ _ _ c.in_default.ensures.done
    (stops_behind (map (deletion c.args.container.now) c.args.plan.now.names) (setting c.args.container.now expired_text c.args.expired ∷ []) _ _ _ c.in_default-delete_names.ensures.done last))
    c.set_property-2.ensures.stopped
