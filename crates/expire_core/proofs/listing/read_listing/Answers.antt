use Rattle.std.proofs.Common.{◌∙◌}
use Rattle.container_view.specs.Files.{inside}
use Rattle.container_view.proofs.Reading.{filed, goes, stops_at_once, stops_late, stops}
use Rattle.expire_core.specs.Expiry as spec
use Rattle.expire_core.proofs.listing.read_listing.Goals as goal

pub returns-in-Err-clause-err : goal.returns-in-Err-clause-err
returns-in-Err-clause-err g c files told =
    let told1 = c.in_ok-names.ensures.same ∙ told in
    let named = c.in_ok-names.ensures.names files told in
    let some = filed (inside c.args.container.now files) c.in_ok-names.names c.in_ok-names.ensures.some named in
    stops c.in-Err.fault _ (spec.listing_of (inside c.args.container.now files)) c.in-Err.ensures.damaged
    (λ p. stops_at_once spec.listed (inside c.args.container.now files) some (p files told1 named))

pub returns-in-Err-get_property-clause-err : goal.returns-in-Err-get_property-clause-err
returns-in-Err-get_property-clause-err g c files told =
    let told1 = c.in_ok-names.ensures.same ∙ told in
    let named = c.in_ok-names.ensures.names files told in
    let some = filed (inside c.args.container.now files) c.in_ok-names.names c.in_ok-names.ensures.some named in
    stops c.in-Err-get_property.fault _ (spec.listing_of (inside c.args.container.now files)) c.in-Err-get_property.ensures.damaged
    (λ p. stops_late spec.listed (inside c.args.container.now files) c.in-Ok.number some (c.in-Ok.ensures.found files told1 named) (p files (c.in-Ok.ensures.same ∙ told1) named))

pub returns-clause-ok : goal.returns-clause-ok
returns-clause-ok g c files told =
    let told1 = c.in_ok-names.ensures.same ∙ told in
    let named = c.in_ok-names.ensures.names files told in
    let some = filed (inside c.args.container.now files) c.in_ok-names.names c.in_ok-names.ensures.some named in
    goes spec.listed (inside c.args.container.now files) c.in_ok-names.names c.in-Ok.number c.in-Ok-get_property.number some named (c.in-Ok.ensures.found files told1 named) (c.in-Ok-get_property.ensures.found files (c.in-Ok.ensures.same ∙ told1) named)
