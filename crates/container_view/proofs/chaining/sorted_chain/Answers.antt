use Rattle.std.proofs.Common.{◌∙◌, ◌∷◌, [], ◌++◌, ap, sym, option_map, ℕ, ◌+◌, ◌<◌, ◌≤◌, None, arith}
use Rattle.container_view.specs.Names.{chain_named}
use Rattle.container_view.specs.inner.Listed.{held, last_begun, logs_of}
use Rattle.container_view.specs.Folder.{LogFile}
use Rattle.container_view.proofs.Names.{onward, onward_step}
use Rattle.container_view.proofs.chaining.sorted_chain.Goals as goal

le_succ : (a b : ℕ) → a ≤ b → a < b + 1
le_succ a b h = omega arith

pub links-preserved : goal.links-preserved
links-preserved c =
    ap (λ xs. onward xs (chain_named c.args.sorted.now.names.now c.in-Some.end (c.args.last + 1))) c.in_ok-push.ensures.items
    ∙ ap (λ name. onward (c.links.links.items ++ record { name = name; from = c.links.version; to = c.in-Some.end } ∷ []) (chain_named c.args.sorted.now.names.now c.in-Some.end (c.args.last + 1))) c.in_ok-name.ensures
    ∙ onward_step c.args.sorted.now.names.now c.links.links.items c.links.version (c.args.last + 1) c.in-Some.end c.in-Some.name.now (le_succ c.links.version c.args.last c.links-test.true)
    (sym (c.in_ok-bests.ensures.same c.links.version)
    ∙ ap (λ logs. held c.links.version (last_begun (λ (log : LogFile). log.begin) c.links.version None (logs_of logs))) (sym c.deref.ensures.value)
    ∙ sym c.best_at.ensures.same ∙ ap (option_map (λ x. (x.0.now, x.1))) c.in-Some.is)
    ∙ c.links.invariant
