-- The newest future is taken out again without a trace.
use Rattle.std.proofs.Common.{◌≡◌, ℕ, ◌+◌, ◌≤◌, not, cond, List, [], ◌∷◌, ◌++◌, map, max, refl, ap, ◌∙◌, arith, ◌==◌}
use Rattle.std.specs.List.{filter, AllByRecursion}
use Rattle.std.proofs.lemmas.Bool.{eq-eqb, ne_eqb}
use Rattle.task_futures.specs.declared.Part.{Part}
use Rattle.task_futures.specs.Futures.{SeenFuture, greatest_number, unjoined, without_number}
use Rattle.backup_core.specs.Futures.{HaveMadeJoins, NewestLaw}

greatest_push : (fs : List SeenFuture) (f : SeenFuture) → greatest_number (fs ++ f ∷ []) ≡ max (greatest_number fs) f.number
greatest_push [] f = omega arith
greatest_push (g ∷ gs) f = let ih = greatest_push gs f in omega arith

joins_stay : (n greatest : ℕ) (joins : List Part) → greatest + 1 ≤ n → AllByRecursion (λ (p : Part). p.join ≤ greatest) joins → filter (λ (p : Part). not (p.join == n)) joins ≡ joins
joins_stay n greatest [] l h = refl
joins_stay n greatest (p ∷ ps) l h =
    ap (λ t. cond (not t) (p ∷ filter (λ (q : Part). not (q.join == n)) ps) (filter (λ (q : Part). not (q.join == n)) ps)) (ne_eqb p.join n (λ e. let x = h.0 in omega arith))
    ∙ ap (λ (qs : List Part). p ∷ qs) (joins_stay n greatest ps l h.1)

unjoined_stay : (n greatest : ℕ) (fs : List SeenFuture) → greatest + 1 ≤ n → HaveMadeJoins greatest fs → map (unjoined n) fs ≡ fs
unjoined_stay n greatest [] l h = refl
unjoined_stay n greatest (f ∷ fs) l h =
    ap (λ (joins : List Part). record { number = f.number; blocks = f.blocks; callbacks = f.callbacks; joins = joins } ∷ map (unjoined n) fs) (joins_stay n greatest f.joins l h.0)
    ∙ ap (λ (gs : List SeenFuture). f ∷ gs) (unjoined_stay n greatest fs l h.1)

others_stay : (n : ℕ) (fs : List SeenFuture) (f : SeenFuture) → greatest_number fs + 1 ≤ n → f.number ≡ n → filter (λ (g : SeenFuture). not (g.number == n)) (fs ++ f ∷ []) ≡ fs
others_stay n [] f l e = ap (λ t. cond (not t) (f ∷ []) []) (eq-eqb f.number n e)
others_stay n (g ∷ gs) f l e =
    ap (λ t. cond (not t) (g ∷ filter (λ (x : SeenFuture). not (x.number == n)) (gs ++ f ∷ [])) (filter (λ (x : SeenFuture). not (x.number == n)) (gs ++ f ∷ []))) (ne_eqb g.number n (λ s. omega arith))
    ∙ ap (λ (xs : List SeenFuture). g ∷ xs) (others_stay n gs f (omega arith) e)

out : (n : ℕ) (fs : List SeenFuture) (f : SeenFuture) → HaveMadeJoins (greatest_number fs) fs → greatest_number fs + 1 ≤ n → f.number ≡ n → without_number n (fs ++ f ∷ []) ≡ fs
out n fs f made l e = ap (map (unjoined n)) (others_stay n fs f l e) ∙ unjoined_stay n (greatest_number fs) fs l made

pub newest_law : NewestLaw
newest_law fs f made e =
    ap (λ (n : ℕ). without_number n (fs ++ f ∷ [])) (greatest_push fs f)
    ∙ out (max (greatest_number fs) f.number) fs f made (omega arith) (omega arith)
