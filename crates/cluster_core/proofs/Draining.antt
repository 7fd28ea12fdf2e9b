-- Drains, a turn at a time.
use Rattle.std.proofs.Common.{◌≡◌, ℕ, zero, suc, ◌+◌, ◌<◌, ◌≤◌, List, [], ◌∷◌, ◌++◌, true, false, Option, Some, None, Result, Ok, Err, ◌⊎◌, inl, inr, refl, sym, ap, ◌∙◌, subst, arith}
use Rattle.std.proofs.lemmas.List.{length-append}
use Rattle.std.specs.List.{AllByRecursion}
use Rattle.std.specs.Result.{result_err}
use Rattle.fb_outside.specs.Faults.{Rose, Counts}
use Rattle.workload_text.specs.declared.Workload.{Workload}
use Rattle.cluster_core.specs.declared.drain.DrainFault.TheVariants as drains
use Rattle.cluster_core.specs.declared.event.Answer.{Answer}
use Rattle.cluster_core.specs.declared.event.Event.TheVariants as events
use Rattle.cluster_core.specs.declared.event.StepFault.{StepFault}
use Rattle.cluster_core.specs.Drain.{is_over, IsNext, DrainRun, IsAnswered, AreAnswered, DrainGives}
use Rattle.cluster_core.specs.State.{State}
use Rattle.cluster_core.specs.Step.{Step, Turn, Run}

-- ---- turns

-- a drain's turns are a run
pub drain_run : (p : Workload) (old new : State) (turns : List Turn) → DrainRun p old turns new → Run p old turns new
drain_run p old new [] r = r
drain_run p old new (turn ∷ turns) r = (r.1, r.2, drain_run p r.1 new turns r.3)

run_snoc : (p : Workload) (old middle new : State) (turns : List Turn) (turn : Turn) → DrainRun p old turns middle → IsNext p middle turn → Step p middle turn.event turn.answer new → DrainRun p old (turns ++ turn ∷ []) new
run_snoc p old middle new [] turn r next step = subst (λ (w : State). DrainRun p w (turn ∷ []) new) (sym r) (next, new, step, refl)
run_snoc p old middle new (t ∷ ts) turn r next step = (r.0, r.1, r.2, run_snoc p r.1 middle new ts turn r.3 next step)

each_snoc : (turns : List Turn) (turn : Turn) → AllByRecursion (λ (t : Turn). IsAnswered t.answer) turns → IsAnswered turn.answer → AllByRecursion (λ (t : Turn). IsAnswered t.answer) (turns ++ turn ∷ [])
each_snoc [] turn h k = (k, tt)
each_snoc (t ∷ ts) turn h k = (h.0, each_snoc ts turn h.1 k)

-- ---- the loop

-- so many turns were made, and none was refused
pub record Made (p : Workload) (old new : State) (count : ℕ) : Type 0 where
  pub turns : List Turn
  pub run : DrainRun p old turns new
  pub answered : AreAnswered count turns

pub none_made : (p : Workload) (old : State) → Made p old old 0
none_made p old = record { turns = []; run = refl; answered = record { count_is = refl; each = tt } }

abbrev the_turn : Result Answer StepFault → Turn
the_turn answer = record { event = events.Command; answer = answer }

goes_on : (p q : Workload) (old middle new : State) (count : ℕ) (result : Result Answer StepFault) → q ≡ p → Made p old middle count → is_over q middle ≡ false → Step q middle events.Command result new → IsAnswered result → Made p old new (count + 1)
goes_on p q old middle new count result e m left step k =
    let left' : is_over p middle ≡ false = ap (λ (x : Workload). is_over x middle) (sym e) ∙ left in
    let step' : Step p middle events.Command result new = subst (λ (x : Workload). Step x middle events.Command result new) e step in
    record {
      turns = m.turns ++ the_turn result ∷ [];
      run = run_snoc p old middle new m.turns (the_turn result) m.run (record { left = left'; event = refl }) step';
      answered = record {
        count_is = length-append m.turns (the_turn result ∷ []) ∙ ap (λ (n : ℕ). n + 1) m.answered.count_is;
        each = each_snoc m.turns (the_turn result) m.answered.each k;
      };
    }

answered_is : (result : Result Answer StepFault) → result_err result ≡ None → IsAnswered result
answered_is (Ok answer) e = tt
answered_is (Err fault) e = cc

pub one_made : (p q : Workload) (old middle new : State) (count : ℕ) (result : Result Answer StepFault) (err : Option StepFault) → q ≡ p → Made p old middle count → is_over q middle ≡ false → Step q middle events.Command result new → err ≡ result_err result → err ≡ None → Made p old new (count + 1)
one_made p q old middle new count result err e m left step is none = goes_on p q old middle new count result e m left step (answered_is result (sym is ∙ none))

-- ---- the ends

pub made_all : (p q : Workload) (most count : ℕ) (old new : State) → q ≡ p → Made p old new count → count ≤ most → is_over q new ≡ true → DrainGives p most old (Ok count) new
made_all p q most count old new e m few over = record {
  turns = m.turns;
  drains = record {
    run = m.run;
    few = let n = m.answered.count_is in omega arith;
    ends = (m.answered, ap (λ (x : Workload). is_over x new) (sym e) ∙ over);
  };
}

pub made_most : (p q : Workload) (most count : ℕ) (old new : State) → q ≡ p → Made p old new count → count ≡ most → is_over q new ≡ false → DrainGives p most old (Err (drains.TurnsSpent most)) new
made_most p q most count old new e m same left = record {
  turns = m.turns;
  drains = record {
    run = m.run;
    few = let n = m.answered.count_is in omega arith;
    ends = (record { count_is = m.answered.count_is ∙ same; each = m.answered.each }, refl, ap (λ (x : Workload). is_over x new) (sym e) ∙ left);
  };
}

refused_is : (result : Result Answer StepFault) (fault : StepFault) → result_err result ≡ Some fault → result ≡ Err fault
refused_is (Ok answer) fault e = cc
refused_is (Err other) fault e = let k : other ≡ fault = cc in ap Err k

pub made_refused : (p q : Workload) (most count : ℕ) (old middle new : State) (result : Result Answer StepFault) (err : Option StepFault) (fault : StepFault) → q ≡ p → Made p old middle count → count < most → is_over q middle ≡ false → Step q middle events.Command result new → err ≡ result_err result → err ≡ Some fault → DrainGives p most old (Err (drains.Step fault)) new
made_refused p q most count old middle new result err fault e m lt left step is some =
    let left' : is_over p middle ≡ false = ap (λ (x : Workload). is_over x middle) (sym e) ∙ left in
    let step' : Step p middle events.Command (Err fault) new = subst (λ (x : Workload). Step x middle events.Command (Err fault) new) e (subst (λ (r : Result Answer StepFault). Step q middle events.Command r new) (refused_is result fault (sym is ∙ some)) step) in
    record {
      turns = m.turns ++ the_turn (Err fault) ∷ [];
      drains = record {
        run = run_snoc p old middle new m.turns (the_turn (Err fault)) m.run (record { left = left'; event = refl }) step';
        few = let n = m.answered.count_is in let l = length-append m.turns (the_turn (Err fault) ∷ []) in omega arith;
        ends = record { count = count; front = m.turns; answered = m.answered; last = refl };
      };
    }

-- ---- counts of faults

less_or_same : (a b : ℕ) → a ≤ b → (a < b) ⊎ (a ≡ b)
less_or_same zero zero h = inr refl
less_or_same zero (suc b) h = inl (omega arith)
less_or_same (suc a) zero h = absurd (omega arith)
less_or_same (suc a) (suc b) h = elim (less_or_same a b (omega arith)) [ inl l ↦ inl (omega arith) | inr e ↦ inr (ap suc e) ]

pub rose_before : (a b c : ℕ) → a ≤ b → b ≤ c → Rose b c → Rose a c
rose_before a b c h k r =
    elim r [
      | inl l ↦ inl (omega arith)
      | inr e ↦ elim (less_or_same a b h) [ inl l ↦ inl (omega arith) | inr s ↦ inr (s ∙ e) ]
    ]

pub counts_before : (a b c : ℕ) (Q : Type 0) → a ≤ b → Counts b c Q → Counts a c Q
counts_before a b c Q h k = record { later = let l : b ≤ c = k.later in omega arith; rose = λ q. rose_before a b c h k.later (k.rose q) }
