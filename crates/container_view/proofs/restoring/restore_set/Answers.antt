use Rattle.std.proofs.Common.{◌∙◌, ap, sym}
use Rattle.container_view.specs.Files.{inside}
use Rattle.container_view.specs.Sets as spec
use Rattle.container_view.proofs.Reading.{filed, goes, stops_at_once, stops_late, stops, fails_on, on_ok, on_err}
use Rattle.container_view.proofs.restoring.restore_set.Goals as goal

pub returns-in-Err-clause-err : goal.returns-in-Err-clause-err
returns-in-Err-clause-err g c files told =
    let told1 = c.in_ok-names.ensures.same ∙ told in
    let named = c.in_ok-names.ensures.names files told in
    let some = filed (inside c.args.container.now files) c.in_ok-names.names c.in_ok-names.ensures.some named in
    stops c.in-Err.fault _ (spec.set_of (inside c.args.container.now files) c.args.version) c.in-Err.ensures.damaged
    (λ p. stops_at_once (spec.set_then (inside c.args.container.now files) c.args.version) (inside c.args.container.now files) some (p files told1 named))

pub returns-in-Err-get_property-clause-err : goal.returns-in-Err-get_property-clause-err
returns-in-Err-get_property-clause-err g c files told =
    let told1 = c.in_ok-names.ensures.same ∙ told in
    let named = c.in_ok-names.ensures.names files told in
    let some = filed (inside c.args.container.now files) c.in_ok-names.names c.in_ok-names.ensures.some named in
    stops c.in-Err-get_property.fault _ (spec.set_of (inside c.args.container.now files) c.args.version) c.in-Err-get_property.ensures.damaged
    (λ p. stops_late (spec.set_then (inside c.args.container.now files) c.args.version) (inside c.args.container.now files) c.in-Ok.number some (c.in-Ok.ensures.found files told1 named) (p files (c.in-Ok.ensures.same ∙ told1) named))

pub returns-clause-ok : goal.returns-clause-ok
returns-clause-ok g c =
    on_ok c.set_by.result
    (λ set p files told.
    let told1 = c.in_ok-names.ensures.same ∙ told in
    let named = c.in_ok-names.ensures.names files told in
    let some = filed (inside c.args.container.now files) c.in_ok-names.names c.in_ok-names.ensures.some named in
    goes (spec.set_then (inside c.args.container.now files) c.args.version) (inside c.args.container.now files) c.in_ok-names.names c.in-Ok.number c.in_default.field-0 some named (c.in-Ok.ensures.found files told1 named) (c.in_default.ensures.found files (c.in-Ok.ensures.same ∙ told1) named)
    ∙ ap (λ n. spec.set_by (inside c.args.container.now files) c.in_ok-names.names n c.args.version) (sym c.unwrap_or-unreliable.ensures)
    ∙ p files (c.in_default.ensures.same ∙ c.in-Ok.ensures.same ∙ told1))
    c.set_by.ensures.ok

pub returns-clause-err : goal.returns-clause-err
returns-clause-err g c =
    on_err c.set_by.result
    (λ fault p files told.
    let told1 = c.in_ok-names.ensures.same ∙ told in
    let named = c.in_ok-names.ensures.names files told in
    let some = filed (inside c.args.container.now files) c.in_ok-names.names c.in_ok-names.ensures.some named in
    fails_on fault _ (p files (c.in_default.ensures.same ∙ c.in-Ok.ensures.same ∙ told1)) _
    (goes (spec.set_then (inside c.args.container.now files) c.args.version) (inside c.args.container.now files) c.in_ok-names.names c.in-Ok.number c.in_default.field-0 some named (c.in-Ok.ensures.found files told1 named) (c.in_default.ensures.found files (c.in-Ok.ensures.same ∙ told1) named)
    ∙ ap (λ n. spec.set_by (inside c.args.container.now files) c.in_ok-names.names n c.args.version) (sym c.unwrap_or-unreliable.ensures)))
    c.set_by.ensures.err
