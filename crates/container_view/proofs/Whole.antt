-- What chains and the choice of a manifest are.
use Rattle.std.proofs.Common.{◌≡◌, ℕ, zero, suc, ◌-◌, ◌<◌, ◌≤◌, true, false, cond, List, [], ◌∷◌, Option, Some, None, is_some, inl, inr, ⊎_elim, refl, sym, ap, ◌∙◌, subst, arith, nat_le}
use Rattle.std.proofs.lemmas.Bool.{cases_Bool, cases_lt, false_from_ne_true, and_from, le-leb, lt-ltb, leb-true, leb-false}
use Rattle.fb_bytes.specs.Options.{◌>>=◌}
use Rattle.mutations.proofs.Basics.{by_test, not_both}
use Rattle.container_view.specs.Folder.{LogFile}
use Rattle.container_view.specs.Chain.{LogLink, has_version, log_beats, best_log, links}
use Rattle.container_view.specs.Advertised.{gives, manifest_beats}
use Rattle.container_view.specs.Choices.{HasVersion, IsNoBetter, ChainLaw, ChosenLaw}
use Rattle.container_view.proofs.Basics.{best_of_in}
use Rattle.container_view.proofs.Chains.{Next, best_log_is}
use Rattle.container_view.proofs.Faithful.{some_of}
use Rattle.container_view.proofs.Best.{best_of_some, best_of_tops, not_first, by_end_and_name}

-- a file, and then the links that `next` gives
abbrev pub follows : ℕ → (LogFile → Option (List LogLink)) → Option LogFile → Option (List LogLink)
follows c next o = o >>= λ f. next f >>= λ rest. Some (record { file = f; from = c; to = f.end } ∷ rest)

module _ (logs : List LogFile) where
  -- two ways to go on that agree at the best file
  pub follows_agree : (c : ℕ) (f g : LogFile → Option (List LogLink)) → ((x : LogFile) → Next logs c x → f x ≡ g x) → (o : Option LogFile) → best_log logs c ≡ o → follows c f o ≡ follows c g o
  follows_agree c f g h None e = refl
  follows_agree c f g h (Some x) e = ap (λ r. r >>= λ rest. Some (record { file = x; from = c; to = x.end } ∷ rest)) (h x (best_log_is logs c x e))

  links_reached : (most c end : ℕ) → end ≤ c → links most logs c end ≡ Some []
  links_reached zero c end h = rw (le-leb end c h) refl
  links_reached (suc most) c end h = rw (le-leb end c h) refl

  -- more than enough is enough
  links_enough : (n m c end : ℕ) → end - c ≤ n → end - c ≤ m → links n logs c end ≡ links m logs c end
  links_enough zero m c end h g = links_reached zero c end (omega arith) ∙ sym (links_reached m c end (omega arith))
  links_enough (suc n) zero c end h g = links_reached (suc n) c end (omega arith) ∙ sym (links_reached zero c end (omega arith))
  links_enough (suc n) (suc m) c end h g =
      ap (cond (nat_le end c) (Some [])) (follows_agree c (λ f. links n logs f.end end) (λ f. links m logs f.end end) (λ f k. let l = k.ends in links_enough n m f.end end (omega arith) (omega arith)) (best_log logs c) refl)

  links_step : (c end n : ℕ) → end - c ≡ n → links n logs c end ≡ cond (nat_le end c) (Some []) (follows c (λ f. links (end - f.end) logs f.end end) (best_log logs c))
  links_step c end zero e = let h : end ≤ c = omega arith in links_reached zero c end h ∙ (rw (le-leb end c h) refl)
  links_step c end (suc n) e =
      ap (cond (nat_le end c) (Some [])) (follows_agree c (λ f. links n logs f.end end) (λ f. links (end - f.end) logs f.end end) (λ f k. let l = k.ends in links_enough n (end - f.end) f.end end (omega arith) (omega arith)) (best_log logs c) refl)

  -- ---- gaps

  gap_step : (c end x : ℕ) (next : LogFile → Option (List LogLink)) → ((f : LogFile) → is_some (next f) ≡ true → f.end ≤ x → HasVersion logs x) → c ≤ x → (o : Option LogFile) → best_log logs c ≡ o → is_some (follows c next o) ≡ true → HasVersion logs x
  gap_step c end x next ih l None e s = not_both s refl
  gap_step c end x next ih l (Some f) e s =
      let n = best_log_is logs c f e in
      let b = n.begins in
      ⊎_elim (λ k. (f, n.is_in, omega arith, k)) (ih f (inner (next f) s)) (cases_lt x f.end)
    where
      inner : (o : Option (List LogLink)) → is_some (o >>= λ rest. Some (record { file = f; from = c; to = f.end } ∷ rest)) ≡ true → is_some o ≡ true
      inner None h = h
      inner (Some rest) h = refl

  no_gap : (most c end : ℕ) → is_some (links most logs c end) ≡ true → (x : ℕ) → c ≤ x → x < end → HasVersion logs x
  no_gap zero c end s x l g = ⊎_elim (λ h. not_both s (ap (λ b. is_some {T = List LogLink} (cond b (Some []) None)) h)) (λ h. absurd (let k = leb-true end c h in omega arith)) (⊎_elim (λ t. inr t) (λ t. inl t) (cases_Bool (nat_le end c)))
  no_gap (suc most) c end s x l g =
      let far : nat_le end c ≡ false = false_from_ne_true (nat_le end c) (λ h. let k = leb-true end c h in omega arith) in
      gap_step c end x (λ f. links most logs f.end end) (λ f s k. no_gap most f.end end s x k g) l (best_log logs c) refl (rw far at s)

  whole_step : (c : ℕ) (next : LogFile → Option (List LogLink)) → ((f : LogFile) → Next logs c f → is_some (next f) ≡ true) → (o : Option LogFile) → best_log logs c ≡ o → is_some o ≡ true → is_some (follows c next o) ≡ true
  whole_step c next ih None e s = s
  whole_step c next ih (Some f) e s = let r = some_of (next f) (ih f (best_log_is logs c f e)) in rw r.1 refl

  whole : (most c end : ℕ) → end - c ≤ most → ((x : ℕ) → c ≤ x → x < end → HasVersion logs x) → is_some (links most logs c end) ≡ true
  whole zero c end h cover = rw (links_reached zero c end (omega arith)) refl
  whole (suc most) c end h cover =
      by_test (nat_le end c) (λ o. is_some o ≡ true) (Some []) _ (λ k. refl) (λ k.
      let l = leb-false end c k in
      let f = cover c (omega arith) l in
      let s = best_of_some (has_version c) log_beats logs f.0 f.1 (and_from _ _ (le-leb _ _ f.2) (lt-ltb _ _ f.3)) in
      whole_step c (λ f. links most logs f.end end) (λ f n. let e = n.ends in whole most f.end end (omega arith) (λ x a b. cover x (omega arith) b)) (best_log logs c) refl s)

pub chain_law : ChainLaw
chain_law = record {
  step = λ folder c end. links_step folder.logs c end (end - c) refl;
  best = λ logs c f g e i a b. let r = best_of_tops (has_version c) log_beats (by_end_and_name (λ f. f.end) (λ f. f.name)) logs g i (and_from _ _ (le-leb _ _ a) (lt-ltb _ _ b)) in let q : f ≡ r.0 = cc (r.1) in subst (λ x. IsNoBetter g.end g.name x.end x.name) (sym q) (not_first _ _ _ _ r.2);
  no_gap = λ folder begin end. no_gap folder.logs (end - begin) begin end;
  whole = λ folder begin end. whole folder.logs (end - begin) begin end (omega arith);
}

pub chosen_law : ChosenLaw
chosen_law = record {
  gives_it = λ folder v m. best_of_in (gives folder v) manifest_beats folder.manifests m;
  best = λ folder v m other e i g. let r = best_of_tops (gives folder v) manifest_beats (by_end_and_name (λ m. m.end) (λ m. m.name)) folder.manifests other i g in let q : m ≡ r.0 = cc (r.1) in subst (λ x. IsNoBetter other.end other.name x.end x.name) (sym q) (not_first _ _ _ _ r.2);
  exists = λ folder v m. best_of_some (gives folder v) manifest_beats folder.manifests m;
}
