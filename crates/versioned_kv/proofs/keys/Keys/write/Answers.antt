use Rattle.std.proofs.Common.{List, refl, sym, ap, ◌∙◌, subst}
use Rattle.versioned_kv.specs.Chains.{Chain, value_at}
use Rattle.versioned_kv.specs.inner.Chains.{AreChains}
use Rattle.versioned_kv.specs.inner.Chunks.{joined}
use Rattle.versioned_kv.specs.inner.Edits.{AreUpto, put_at, Extends}
use Rattle.versioned_kv.proofs.Places.{on_ok}
use Rattle.fb_bytes.specs.Bytes.{is_same}
use Rattle.versioned_kv.specs.Touched.{RowsStay}
use Rattle.versioned_kv.proofs.Touches.{put_stays}
use Rattle.versioned_kv.proofs.Puts.{put_extends, value_put, same_extends, either}
use Rattle.versioned_kv.proofs.keys.Keys.write.Goals as goal

pub returns-clause-extends : goal.returns-clause-extends
returns-clause-extends g c =
    let old = joined c.self.inside.chunks.items in
    let chains : AreChains old = subst AreChains (sym c.self.view_is) c.requires.chains in
    let upto : AreUpto c.args.row.version old = subst (AreUpto c.args.row.version) (sym c.self.view_is) c.requires.upto in
    subst (λ (x : List Chain). Extends c.args.row.version x (joined c.put.new.chunks.items)) c.self.view_is
    (either c.put.result (Extends c.args.row.version old (joined c.put.new.chunks.items))
    (λ e. subst (Extends c.args.row.version old) (sym e) (put_extends c.args.key.now c.args.row old chains upto))
    (λ e. subst (Extends c.args.row.version old) (sym e) (same_extends c.args.row.version old chains upto))
    c.put.ensures.ok c.put.ensures.err)

pub returns-clause-ok : goal.returns-clause-ok
returns-clause-ok g c =
    let old = joined c.self.inside.chunks.items in
    let chains : AreChains old = subst AreChains (sym c.self.view_is) c.requires.chains in
    on_ok c.put.result
    (λ e at. ap (λ (x : List Chain). value_at x at c.args.row.version) (e ∙ ap (put_at c.args.key.now c.args.row) c.self.view_is) ∙ value_put c.args.key.now c.args.row c.args.self.now at c.requires.chains)
    c.put.ensures.ok

pub returns-clause-others : goal.returns-clause-others
returns-clause-others g c =
    let old = joined c.self.inside.chunks.items in
    let chains : AreChains old = subst AreChains (sym c.self.view_is) c.requires.chains in
    subst (λ (x : List Chain). RowsStay (is_same c.args.key.now) x (joined c.put.new.chunks.items)) c.self.view_is
    (either c.put.result (RowsStay (is_same c.args.key.now) old (joined c.put.new.chunks.items))
    (λ e. subst (RowsStay (is_same c.args.key.now) old) (sym e) (put_stays c.args.key.now c.args.row old chains))
    (λ e. subst (RowsStay (is_same c.args.key.now) old) (sym e) (λ key h. refl))
    c.put.ensures.ok c.put.ensures.err)
