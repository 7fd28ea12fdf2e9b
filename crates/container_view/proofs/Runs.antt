-- The runs of versions without a gap tell what is reached.
use Rattle.std.proofs.Common.{◌≡◌, ℕ, ◌<◌, ◌≤◌, max, Bool, true, false, cond, List, [], ◌∷◌, ◌⊎◌, inl, inr, ⊎_elim, Option, Some, None, is_some, refl, sym, ap, ◌∙◌, arith, nat_le}
use Rattle.std.proofs.lemmas.Bool.{cases_lt, cond-true, cond-false, le-leb, lt-leb, leb-true, leb-false, and_from, lt-ltb}
use Rattle.fb_bytes.specs.Options.{IsIn}
use Rattle.mutations.proofs.Basics.{by_test, not_both}
use Rattle.container_view.specs.declared.logs.Run.{Run}
use Rattle.container_view.specs.Folder.{LogFile}
use Rattle.container_view.specs.Chain.{has_version, log_beats, best_log}
use Rattle.container_view.specs.Choices.{HasVersion}
use Rattle.container_view.specs.Bounds.{reached}
use Rattle.container_view.specs.Names.{seen}
use Rattle.container_view.specs.inner.Listed.{IsRisingBy, last_begun, runs_from, runs_of, on_to, reach_in}
use Rattle.container_view.proofs.Best.{best_of_some}
use Rattle.container_view.proofs.Chains.{best_log_is}
use Rattle.container_view.proofs.Reached.{is_reached, reached_there, reached_from, reached_ends}

abbrev begin_of : LogFile → ℕ
begin_of log = log.begin

abbrev run_begin : Run → ℕ
run_begin run = run.begin

-- what is reached by one pass over logs in the order of their begins
abbrev swept : ℕ → List LogFile → ℕ
swept from [] = from
swept from (log ∷ logs) = cond (nat_le log.begin from) (swept (max from log.end) logs) from

swept_from : (from : ℕ) (logs : List LogFile) → from ≤ swept from logs
swept_from from [] = omega arith
swept_from from (log ∷ logs) = by_test (nat_le log.begin from) (λ r. from ≤ r) _ _ (λ p. let h = swept_from (max from log.end) logs in omega arith) (λ p. omega arith)

swept_there : (from : ℕ) (logs : List LogFile) (x : ℕ) → from ≤ x → x < swept from logs → HasVersion logs x
swept_there from [] x l = λ h. absurd (omega arith)
swept_there from (log ∷ logs) x l = by_test (nat_le log.begin from) (λ r. x < r → HasVersion (log ∷ logs) x) _ _
    (λ p h. let b = leb-true log.begin from p in ⊎_elim
    (λ k. (log, inl refl, omega arith, k))
    (λ k. let f = swept_there (max from log.end) logs x (omega arith) h in (f.0, inr f.1, f.2, f.3))
    (cases_lt x log.end))
    (λ p h. absurd (omega arith))

pub rising_in : (low : ℕ) (logs : List LogFile) → IsRisingBy begin_of low logs → (f : LogFile) → IsIn f logs → low ≤ f.begin
rising_in low [] r f i = absurd i
rising_in low (log ∷ logs) r f (inl e) = let b = ap begin_of e in let h = r.0 in omega arith
rising_in low (log ∷ logs) r f (inr i) = let b = rising_in log.begin logs r.1 f i in let h = r.0 in omega arith

swept_past : (from low : ℕ) (logs : List LogFile) → IsRisingBy begin_of low logs → (f : LogFile) → IsIn f logs → (f.end ≤ swept from logs) ⊎ (swept from logs < f.begin)
swept_past from low [] r f i = absurd i
swept_past from low (log ∷ logs) r f i = by_test (nat_le log.begin from) (λ r. (f.end ≤ r) ⊎ (r < f.begin)) _ _ (begun (swept_past (max from log.end) log.begin logs r.1 f) i) (stopped i)
  where
    begun : (IsIn f logs → (f.end ≤ swept (max from log.end) logs) ⊎ (swept (max from log.end) logs < f.begin)) → IsIn f (log ∷ logs) → nat_le log.begin from ≡ true → (f.end ≤ swept (max from log.end) logs) ⊎ (swept (max from log.end) logs < f.begin)
    begun ih (inl e) p = let s = ap (λ (x : LogFile). x.end) e in let h = swept_from (max from log.end) logs in inl (omega arith)
    begun ih (inr j) p = ih j

    stopped : IsIn f (log ∷ logs) → nat_le log.begin from ≡ false → (f.end ≤ from) ⊎ (from < f.begin)
    stopped (inl e) p = let s = ap begin_of e in let h = leb-false log.begin from p in inr (omega arith)
    stopped (inr j) p = let s = rising_in log.begin logs r.1 f j in let h = leb-false log.begin from p in inr (omega arith)

swept_reached : (logs : List LogFile) → IsRisingBy begin_of 0 logs → (from : ℕ) → swept from logs ≡ reached logs from
swept_reached logs r from = is_reached logs from (swept from logs) (swept_from from logs) (swept_there from logs)
    (λ f. let b = f.2 in let e = f.3 in ⊎_elim (λ h. omega arith) (λ h. omega arith) (swept_past from 0 logs r f.0 f.1))

-- ---- the runs

module _ (from : ℕ) where
  runs_swept : (begin end : ℕ) (found : Option Run) (logs : List LogFile) → on_to from (last_begun run_begin from found (runs_from begin end logs)) ≡ cond (nat_le begin from) (swept (max from end) logs) (on_to from found)
  runs_swept begin end found [] = go (nat_le begin from)
    where
      go : (b : Bool) → on_to from (cond b (Some (record { begin = begin; end = end })) found) ≡ cond b (max from end) (on_to from found)
      go true = refl
      go false = refl
  runs_swept begin end found (log ∷ logs) = go (runs_swept begin (max end log.end) found logs) (runs_swept log.begin log.end (Some (record { begin = begin; end = end })) logs) (nat_le log.begin end) refl
    where
      same : (t : Bool) → nat_le log.begin end ≡ true → cond t (swept (max from (max end log.end)) logs) (on_to from found) ≡ cond t (swept (max from end) (log ∷ logs)) (on_to from found)
      same t p =
          let b = leb-true log.begin end p in
          let e : max from (max end log.end) ≡ max (max from end) log.end = omega arith in
          ap (λ n. cond t (swept n logs) (on_to from found)) e
          ∙ ap (λ n. cond t n (on_to from found)) (sym (cond-true (nat_le log.begin (max from end)) (swept (max (max from end) log.end) logs) (max from end) (le-leb _ _ (omega arith))))

      next : nat_le log.begin end ≡ false → (b : Bool) → nat_le log.begin from ≡ b → cond b (swept (max from log.end) logs) (max from end) ≡ swept (max from end) (log ∷ logs)
      next p true q =
          let h = leb-false log.begin end p in
          let g = leb-true log.begin from q in
          let e : max from end ≡ from = omega arith in
          sym (cond-true (nat_le log.begin (max from end)) (swept (max (max from end) log.end) logs) (max from end) (le-leb _ _ (omega arith)) ∙ ap (λ n. swept (max n log.end) logs) e)
      next p false q =
          let h = leb-false log.begin end p in
          let g = leb-false log.begin from q in
          sym (cond-false (nat_le log.begin (max from end)) (swept (max (max from end) log.end) logs) (max from end) (lt-leb _ _ (omega arith)))

      ends : on_to from (last_begun run_begin from (Some (record { begin = begin; end = end })) (runs_from log.begin log.end logs)) ≡ cond (nat_le log.begin from) (swept (max from log.end) logs) (max from end) → nat_le log.begin end ≡ false → (b : Bool) → on_to from (cond b (last_begun run_begin from (Some (record { begin = begin; end = end })) (runs_from log.begin log.end logs)) found) ≡ cond b (swept (max from end) (log ∷ logs)) (on_to from found)
      ends apart p true = apart ∙ next p (nat_le log.begin from) refl
      ends apart p false = refl

      go : on_to from (last_begun run_begin from found (runs_from begin (max end log.end) logs)) ≡ cond (nat_le begin from) (swept (max from (max end log.end)) logs) (on_to from found)
          → on_to from (last_begun run_begin from (Some (record { begin = begin; end = end })) (runs_from log.begin log.end logs)) ≡ cond (nat_le log.begin from) (swept (max from log.end) logs) (max from end)
          → (b : Bool) → nat_le log.begin end ≡ b → on_to from (last_begun run_begin from found (cond b (runs_from begin (max end log.end) logs) (record { begin = begin; end = end } ∷ runs_from log.begin log.end logs))) ≡ cond (nat_le begin from) (swept (max from end) (log ∷ logs)) (on_to from found)
      go one apart true p = one ∙ same (nat_le begin from) p
      go one apart false p = ends apart p (nat_le begin from)

  runs_reach : (logs : List LogFile) → reach_in (runs_of logs) from ≡ swept from logs
  runs_reach [] = refl
  runs_reach (log ∷ logs) = runs_swept log.begin log.end None logs

less_low : (low high : ℕ) (logs : List LogFile) → low ≤ high → IsRisingBy begin_of high logs → IsRisingBy begin_of low logs
less_low low high [] l r = tt
less_low low high (log ∷ logs) l r = let h = r.0 in (omega arith, r.1)

runs_rise : (low begin end : ℕ) (logs : List LogFile) → low ≤ begin → IsRisingBy begin_of begin logs → IsRisingBy run_begin low (runs_from begin end logs)
runs_rise low begin end [] l r = (l, tt)
runs_rise low begin end (log ∷ logs) l r = by_test (nat_le log.begin end) (IsRisingBy run_begin low) _ _
    (λ p. runs_rise low begin (max end log.end) logs l (less_low begin log.begin logs r.0 r.1))
    (λ p. (l, runs_rise begin log.begin log.end logs r.0 r.1))

pub runs_of_rise : (logs : List LogFile) → IsRisingBy begin_of 0 logs → IsRisingBy run_begin 0 (runs_of logs)
runs_of_rise [] r = tt
runs_of_rise (log ∷ logs) r = runs_rise 0 log.begin log.end logs r.0 r.1

pub runs_tell : (logs : List LogFile) → IsRisingBy begin_of 0 logs → (from : ℕ) → reach_in (runs_of logs) from ≡ reached logs from
runs_tell logs r from = runs_reach from logs ∙ swept_reached logs r from

-- ---- lists with the same best logs reach the same

module _ (a b : List LogFile) (alike : (version : ℕ) → seen (best_log a version) ≡ seen (best_log b version)) where
  is_some_seen : (o : Option LogFile) → is_some (seen o) ≡ is_some o
  is_some_seen None = refl
  is_some_seen (Some f) = refl

  there_too : (version : ℕ) → HasVersion a version → HasVersion b version
  there_too version f = go (best_log b version) refl
    where
      some : is_some (best_log a version) ≡ true
      some = best_of_some (has_version version) log_beats a f.0 f.1 (and_from _ _ (le-leb _ _ f.2) (lt-ltb _ _ f.3))

      go : (o : Option LogFile) → best_log b version ≡ o → HasVersion b version
      go None e = not_both some (sym (is_some_seen (best_log a version)) ∙ ap is_some (alike version) ∙ ap (λ o. is_some (seen o)) e)
      go (Some g) e = let n = best_log_is b version g e in (g, n.is_in, n.begins, n.ends)

pub reached_alike : (a b : List LogFile) → ((version : ℕ) → seen (best_log a version) ≡ seen (best_log b version)) → (from : ℕ) → reached a from ≡ reached b from
reached_alike a b alike from = is_reached b from (reached a from) (reached_from a from)
    (λ x h g. there_too a b alike x (reached_there a from x h g))
    (λ f. reached_ends a from (there_too b a (λ version. sym (alike version)) (reached a from) f))
