use Rattle.std.proofs.Common.{◌≡◌, ℕ, List, ◌++◌, take, drop, sym, ap, ◌∙◌, subst}
use Rattle.log_keys.specs.inner.Keys.{first_at}
use Rattle.log_keys.specs.Logs.{stands, with_one}
use Rattle.log_keys.specs.inner.Parts.{Row}
use Rattle.log_keys.specs.inner.Table.{AreRising, IsTable, log_in, keys_below}
use Rattle.log_keys.proofs.Puts.{put_rows, table_with, log_put}
use Rattle.log_keys.proofs.logs.LogKeys.put_batch.Goals as goal

pub place_of-place-requires : goal.place_of-place-requires
place_of-place-requires c = subst AreRising (sym c.deref.ensures.value) c.self.invariant.rise

pub invariant_of-self-2 : goal.invariant_of-self-2
invariant_of-self-2 c =
    let old = c.self.inside.rows.items in
    let place : c.place_of-place.result ≡ keys_below (first_at c.args.job c.args.version) old =
    c.place_of-place.ensures.place ∙ ap (keys_below (first_at c.args.job c.args.version)) c.deref.ensures.value in
    let rows : c.insert_all.new.rows.items ≡ put_rows c.args.job c.args.version c.args.part c.args.batch.now old =
    c.in_ok-insert_all.ensures.ok ∙ ap (λ (k : ℕ). take k old ++ c.in_ok-more.more.items ++ drop k old) place
    ∙ ap (λ (more : List Row). take (keys_below (first_at c.args.job c.args.version) old) old ++ more ++ drop (keys_below (first_at c.args.job c.args.version) old) old) c.in_ok-more.ensures in
    subst IsTable (sym rows) (table_with c.args.job c.args.version c.args.part c.args.batch.now old c.requires.some c.requires.read c.self.invariant (ap (stands c.args.job c.args.version) c.self.view_is ∙ c.requires.free))

pub returns-clause-ok : goal.returns-clause-ok
returns-clause-ok c = λ muts e.
    let old = c.self.inside.rows.items in
    let place : c.place_of-place.result ≡ keys_below (first_at c.args.job c.args.version) old =
    c.place_of-place.ensures.place ∙ ap (keys_below (first_at c.args.job c.args.version)) c.deref.ensures.value in
    let rows : c.insert_all.new.rows.items ≡ put_rows c.args.job c.args.version c.args.part c.args.batch.now old =
    c.in_ok-insert_all.ensures.ok ∙ ap (λ (k : ℕ). take k old ++ c.in_ok-more.more.items ++ drop k old) place
    ∙ ap (λ (more : List Row). take (keys_below (first_at c.args.job c.args.version) old) old ++ more ++ drop (keys_below (first_at c.args.job c.args.version) old) old) c.in_ok-more.ensures in
    ap log_in rows
    ∙ log_put c.args.job c.args.version c.args.part c.args.batch.now old c.requires.some c.self.invariant (ap (stands c.args.job c.args.version) c.self.view_is ∙ c.requires.free) muts e
    ∙ ap (with_one (record { job = c.args.job; version = c.args.version; muts = muts })) c.self.view_is
