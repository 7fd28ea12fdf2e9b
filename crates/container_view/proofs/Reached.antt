-- How far logs go, and the bounds of what is advertised.
use Rattle.std.proofs.Common.{◌≡◌, ℕ, zero, suc, ◌+◌, ◌-◌, ◌<◌, ◌≤◌, min, max, Bool, true, false, cond, ◌&&◌, ◌||◌, List, [], ◌∷◌, Option, Some, None, is_some, ◌⊎◌, inl, inr, ⊎_elim, refl, sym, ap, ◌∙◌, subst, arith, nat_lt, nat_le, ◌==◌, if◌then◌else◌}
use Rattle.std.specs.Prelude.{◌↔◌}
use Rattle.std.proofs.lemmas.Bool.{cases_lt, cases_order, false_from_ne_true, and_from, and_parts, or_cases, or_left, or_right, le-leb, lt-ltb, leb-true, ltb-true, eq-eqb, eqb-true}
use Rattle.fb_bytes.specs.Options.{IsIn}
use Rattle.mutations.proofs.Basics.{by_test, not_both}
use Rattle.container_view.specs.Folder.{LogFile, ManifestFile, Folder}
use Rattle.container_view.specs.Chain.{has_version, log_beats, best_log, chain}
use Rattle.container_view.specs.Advertised.{gives, is_advertised, chosen}
use Rattle.container_view.specs.Choices.{HasVersion}
use Rattle.container_view.specs.Bounds.{Bounds, last_end, on_from, reached_in, reached, ReachLaw, given, IsBetween, GivenLaw, wider, given_by, advertised_bounds, AreBounds, BoundsLaw}
use Rattle.container_view.proofs.Chains.{best_log_is}
use Rattle.container_view.proofs.Best.{best_of_some}
use Rattle.container_view.proofs.Faithful.{some_of}
use Rattle.container_view.proofs.Whole.{chain_law, chosen_law}

-- ---- the end that is reached

module _ (logs : List LogFile) where
  on_is : (most version : ℕ) (P : ℕ → Type 0) → ((f : LogFile) → best_log logs version ≡ Some f → P (reached_in most logs f.end)) → (best_log logs version ≡ None → P version) → P (reached_in (suc most) logs version)
  on_is most version P some none = go (best_log logs version) refl
    where
      go : (o : Option LogFile) → best_log logs version ≡ o → P (on_from (λ file. reached_in most logs file.end) version o)
      go None e = none e
      go (Some f) e = some f e

  pub from_version : (most version : ℕ) → version ≤ reached_in most logs version
  from_version zero version = omega arith
  from_version (suc most) version = on_is most version (λ r. version ≤ r) (λ f e. let n = best_log_is logs version f e in let l = n.ends in let h = from_version most f.end in omega arith) (λ e. omega arith)

  all_there : (most version x : ℕ) → version ≤ x → x < reached_in most logs version → HasVersion logs x
  all_there zero version x l = λ h. absurd (omega arith)
  all_there (suc most) version x l = on_is most version (λ r. x < r → HasVersion logs x)
      (λ f e h. let n = best_log_is logs version f e in let b = n.begins in ⊎_elim (λ k. (f, n.is_in, omega arith, k)) (λ k. all_there most f.end x k h) (cases_lt x f.end))
      (λ e h. absurd (omega arith))

  not_past_last : (files : List LogFile) (f : LogFile) → IsIn f files → f.end ≤ last_end files
  not_past_last [] f i = absurd i
  not_past_last (x ∷ xs) f (inl e) = let h : f.end ≡ x.end = ap (λ y. y.end) e in omega arith
  not_past_last (x ∷ xs) f (inr i) = let h = not_past_last xs f i in omega arith

  no_best : (version : ℕ) → best_log logs version ≡ None → HasVersion logs version → ⊥
  no_best version e f = not_both (best_of_some (has_version version) log_beats logs f.0 f.1 (and_from _ _ (le-leb _ _ f.2) (lt-ltb _ _ f.3))) (ap is_some e)

  missing : (most version : ℕ) → last_end logs - version ≤ most → HasVersion logs (reached_in most logs version) → ⊥
  missing zero version h = λ f. let l = not_past_last logs f.0 f.1 in let g = f.3 in omega arith
  missing (suc most) version h = on_is most version (λ r. HasVersion logs r → ⊥)
      (λ f e. let n = best_log_is logs version f e in let l = n.ends in missing most f.end (omega arith))
      (λ e. no_best version e)

  -- it is the one version from which on all are there up to it, and which isn't there
  one_end : (version a b : ℕ) → version ≤ a → version ≤ b → ((x : ℕ) → version ≤ x → x < a → HasVersion logs x) → ((x : ℕ) → version ≤ x → x < b → HasVersion logs x) → (HasVersion logs a → ⊥) → (HasVersion logs b → ⊥) → a ≡ b
  one_end version a b l k all_a all_b no_a no_b = ⊎_elim (λ e. e) (λ o. ⊎_elim (λ h. absurd (no_a (all_b a l h))) (λ h. absurd (no_b (all_a b k h))) o) (cases_order a b)

  pub reached_next : (version : ℕ) (f : LogFile) → best_log logs version ≡ Some f → reached logs f.end ≡ reached logs version
  reached_next version f e =
      let n = best_log_is logs version f e in
      let b = n.begins in
      let l = n.ends in
      let far = from_version (last_end logs - f.end) f.end in
      one_end version (reached logs f.end) (reached logs version) (omega arith) (from_version (last_end logs - version) version)
      (λ x h g. ⊎_elim (λ k. (f, n.is_in, omega arith, k)) (λ k. all_there (last_end logs - f.end) f.end x k g) (cases_lt x f.end))
      (λ x h g. all_there (last_end logs - version) version x h g)
      (missing (last_end logs - f.end) f.end (omega arith))
      (missing (last_end logs - version) version (omega arith))

  -- what is reached is told by the versions that are there
  pub is_reached : (version r : ℕ) → version ≤ r → ((x : ℕ) → version ≤ x → x < r → HasVersion logs x) → (HasVersion logs r → ⊥) → r ≡ reached logs version
  is_reached version r l all gone =
      one_end version r (reached logs version) l (from_version (last_end logs - version) version) all
      (λ x h g. all_there (last_end logs - version) version x h g) gone (missing (last_end logs - version) version (omega arith))

  pub reached_there : (version x : ℕ) → version ≤ x → x < reached logs version → HasVersion logs x
  reached_there version x h g = all_there (last_end logs - version) version x h g

  pub reached_from : (version : ℕ) → version ≤ reached logs version
  reached_from version = from_version (last_end logs - version) version

  pub reached_ends : (version : ℕ) → HasVersion logs (reached logs version) → ⊥
  reached_ends version = missing (last_end logs - version) version (omega arith)

  pub best_within : (version : ℕ) (f : LogFile) → best_log logs version ≡ Some f → (version < f.end) × (f.end ≤ last_end logs)
  best_within version f e = let n = best_log_is logs version f e in (n.ends, not_past_last logs f n.is_in)

pub reach_law : ReachLaw
reach_law folder begin end = (there, back)
  where
    there : is_some (chain folder begin end) ≡ true → end ≤ reached folder.logs begin
    there s = ⊎_elim
        (λ l. absurd (missing folder.logs (last_end folder.logs - begin) begin (omega arith) (chain_law.no_gap folder begin end s (reached folder.logs begin) (from_version folder.logs (last_end folder.logs - begin) begin) l)))
        (λ g. g)
        (cases_lt (reached folder.logs begin) end)

    back : end ≤ reached folder.logs begin → is_some (chain folder begin end) ≡ true
    back h = chain_law.whole folder begin end (λ x l g. all_there folder.logs (last_end folder.logs - begin) begin x l (omega arith))

-- ---- the versions that one manifest gives

module _ (folder : Folder) (m : ManifestFile) where
  -- what the test of a manifest says, with the end that logs from its begin reach
  record Gives (end : ℕ) (version : ℕ) : Type 0 where
    after : m.end ≤ version
    reliable : folder.unreliable ≤ m.begin
    logs : (version + 1 ≤ end) ⊎ ((m.begin ≡ version) × (m.end ≡ version))

  gives_is : (version : ℕ) → gives folder version m ≡ true → Gives (reached folder.logs m.begin) version
  gives_is version h =
      let p = and_parts _ _ h in
      let q = and_parts _ _ p.0 in
      record {
        after = leb-true _ _ q.0;
        reliable = leb-true _ _ q.1;
        logs = ⊎_elim (λ s. inl ((reach_law folder m.begin (version + 1)).0 s)) (λ e. let r = and_parts (m.begin == version) (m.end == version) e in inr (eqb-true _ _ r.0, eqb-true _ _ r.1)) (or_cases (is_some (chain folder m.begin (version + 1))) (m.begin == version && m.end == version) p.1);
      }

  is_given : (version : ℕ) → Gives (reached folder.logs m.begin) version → gives folder version m ≡ true
  is_given version g =
      and_from _ _ (and_from _ _ (le-leb _ _ g.after) (le-leb _ _ g.reliable))
      (⊎_elim (λ s. or_left _ _ ((reach_law folder m.begin (version + 1)).1 s)) (λ e. or_right _ _ (and_from _ _ (eq-eqb _ _ e.0) (eq-eqb _ _ e.1))) g.logs)

  abbrev given_to : ℕ → Option Bounds
  given_to end = if nat_le folder.unreliable m.begin && (nat_lt m.end end || m.begin == m.end) then Some (record { least = m.end; greatest = max m.end (end - 1) }) else None

  between : (end version : ℕ) → Gives end version → IsBetween (given_to end) version
  between end version g = go (nat_le folder.unreliable m.begin && (nat_lt m.end end || m.begin == m.end)) (and_from _ _ (le-leb _ _ g.reliable) some)
    where
      some : (nat_lt m.end end || m.begin == m.end) ≡ true
      some = let a = g.after in ⊎_elim (λ l. or_left _ _ (lt-ltb m.end end (omega arith))) (λ e. or_right _ _ (eq-eqb m.begin m.end (e.0 ∙ sym e.1))) g.logs

      go : (b : Bool) → b ≡ true → IsBetween (cond b (Some (record { least = m.end; greatest = max m.end (end - 1) })) None) version
      go true h = let a = g.after in (a, ⊎_elim (λ l. omega arith) (λ e. let q = e.1 in omega arith) g.logs)
      go false h = not_both refl (sym h)

  within : (end version : ℕ) → IsBetween (given_to end) version → Gives end version
  within end version = go (nat_le folder.unreliable m.begin && (nat_lt m.end end || m.begin == m.end)) refl
    where
      last : (nat_lt m.end end || m.begin == m.end) ≡ true → m.end ≤ version → version ≤ max m.end (end - 1) → (version + 1 ≤ end) ⊎ ((m.begin ≡ version) × (m.end ≡ version))
      last h l g = ⊎_elim
          (λ k. inl (let x = ltb-true m.end end k in omega arith))
          (λ k. let e = eqb-true m.begin m.end k in ⊎_elim (λ x. inl (omega arith)) (λ x. let same : m.end ≡ version = omega arith in inr (e ∙ same, same)) (cases_lt version end))
          (or_cases (nat_lt m.end end) (m.begin == m.end) h)

      go : (b : Bool) → (nat_le folder.unreliable m.begin && (nat_lt m.end end || m.begin == m.end)) ≡ b → IsBetween (cond b (Some (record { least = m.end; greatest = max m.end (end - 1) })) None) version → Gives end version
      go true h i = let p = and_parts _ _ h in record { after = i.0; reliable = leb-true _ _ p.0; logs = last p.1 i.0 i.1 }
      go false h i = absurd i

pub given_law : GivenLaw
given_law folder m version = (λ h. between folder m (reached folder.logs m.begin) version (gives_is folder m version h), λ i. is_given folder m version (within folder m (reached folder.logs m.begin) version i))

-- ---- the versions that some manifest gives

module _ (folder : Folder) where
  abbrev SomeGives : List ManifestFile → ℕ → Type 0
  SomeGives ms version = (m : ManifestFile) × IsIn m ms × (gives folder version m ≡ true)

  -- the bounds are given themselves, and what is given lies between them
  record Bound (ms : List ManifestFile) (b : Bounds) : Type 0 where
    least : SomeGives ms b.least
    greatest : SomeGives ms b.greatest
    all : (version : ℕ) → SomeGives ms version → (b.least ≤ version) × (version ≤ b.greatest)

  abbrev Bind : List ManifestFile → Option Bounds → Type 0
  Bind ms None = (version : ℕ) → SomeGives ms version → ⊥
  Bind ms (Some b) = Bound ms b

  -- one manifest's bounds
  abbrev One : ManifestFile → Option Bounds → Type 0
  One m o = (version : ℕ) → (gives folder version m ≡ true) ↔ IsBetween o version

  abbrev Ordered : Option Bounds → Type 0
  Ordered None = Unit {0}
  Ordered (Some b) = b.least ≤ b.greatest

  given_ordered : (m : ManifestFile) → Ordered (given folder m)
  given_ordered m = by_test (nat_le folder.unreliable m.begin && (nat_lt m.end (reached folder.logs m.begin) || m.begin == m.end)) Ordered _ None (λ h. omega arith) (λ h. tt)

  bind_more : (m : ManifestFile) (ms : List ManifestFile) (a b : Option Bounds) → One m a → Ordered a → Bind ms b → Bind (m ∷ ms) (wider a b)
  bind_more m ms None None one o h = λ version g. more version g.0 g.1 g.2
    where
      more : (version : ℕ) (x : ManifestFile) → IsIn x (m ∷ ms) → gives folder version x ≡ true → ⊥
      more version x (inl e) g = (one version).0 (ap (gives folder version) (sym e) ∙ g)
      more version x (inr i) g = h version (x, i, g)
  bind_more m ms None (Some b) one o h = record {
    least = let x = h.least in (x.0, inr x.1, x.2);
    greatest = let x = h.greatest in (x.0, inr x.1, x.2);
    all = λ version g. more version g.0 g.1 g.2;
  }
    where
      more : (version : ℕ) (x : ManifestFile) → IsIn x (m ∷ ms) → gives folder version x ≡ true → (b.least ≤ version) × (version ≤ b.greatest)
      more version x (inl e) g = absurd ((one version).0 (ap (gives folder version) (sym e) ∙ g))
      more version x (inr i) g = h.all version (x, i, g)
  bind_more m ms (Some a) None one o h = record {
    least = (m, inl refl, (one a.least).1 (omega arith, o));
    greatest = (m, inl refl, (one a.greatest).1 (o, omega arith));
    all = λ version g. more version g.0 g.1 g.2;
  }
    where
      more : (version : ℕ) (x : ManifestFile) → IsIn x (m ∷ ms) → gives folder version x ≡ true → (a.least ≤ version) × (version ≤ a.greatest)
      more version x (inl e) g = (one version).0 (ap (gives folder version) (sym e) ∙ g)
      more version x (inr i) g = absurd (h version (x, i, g))
  bind_more m ms (Some a) (Some b) one o h = record {
    least = ⊎_elim (λ l. at (min a.least b.least) b.least (omega arith) (let x = h.least in (x.0, inr x.1, x.2))) (λ l. at (min a.least b.least) a.least (omega arith) (m, inl refl, (one a.least).1 (omega arith, o))) (cases_lt b.least a.least);
    greatest = ⊎_elim (λ l. at (max a.greatest b.greatest) b.greatest (omega arith) (let x = h.greatest in (x.0, inr x.1, x.2))) (λ l. at (max a.greatest b.greatest) a.greatest (omega arith) (m, inl refl, (one a.greatest).1 (o, omega arith))) (cases_lt a.greatest b.greatest);
    all = λ version g. more version g.0 g.1 g.2;
  }
    where
      at : (x y : ℕ) → x ≡ y → SomeGives (m ∷ ms) y → SomeGives (m ∷ ms) x
      at x y e g = subst (SomeGives (m ∷ ms)) (sym e) g

      more : (version : ℕ) (x : ManifestFile) → IsIn x (m ∷ ms) → gives folder version x ≡ true → (min a.least b.least ≤ version) × (version ≤ max a.greatest b.greatest)
      more version x (inl e) g = let i = (one version).0 (ap (gives folder version) (sym e) ∙ g) in let l = i.0 in let k = i.1 in (omega arith, omega arith)
      more version x (inr j) g = let i = h.all version (x, j, g) in let l = i.0 in let k = i.1 in (omega arith, omega arith)

  bind : (ms : List ManifestFile) → Bind ms (given_by folder ms)
  bind [] = λ version g. absurd g.1
  bind (m ∷ ms) = bind_more m ms (given folder m) (given_by folder ms) (given_law folder m) (given_ordered m) (bind ms)

  -- to be advertised is to be given by some manifest
  there : (version : ℕ) → is_advertised folder version ≡ true → SomeGives folder.manifests version
  there version h = let m = some_of (chosen folder version) h in let g = chosen_law.gives_it folder version m.0 m.1 in (m.0, g.1, g.0)

  back : (version : ℕ) → SomeGives folder.manifests version → is_advertised folder version ≡ true
  back version g = chosen_law.exists folder version g.0 g.1 g.2

  are_bounds : (o : Option Bounds) → Bind folder.manifests o → AreBounds folder o
  are_bounds None h = λ version. false_from_ne_true (is_advertised folder version) (λ a. h version (there version a))
  are_bounds (Some b) h = record {
    least = back b.least h.least;
    greatest = back b.greatest h.greatest;
    between = λ version a. h.all version (there version a);
  }

pub bounds_law : BoundsLaw
bounds_law folder = are_bounds folder (advertised_bounds folder) (bind folder folder.manifests)
