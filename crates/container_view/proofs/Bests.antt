-- Of logs in the order of their begins the best up to each place are those that have the versions.
use Rattle.std.proofs.Common.{◌≡◌, ℕ, Bool, true, false, cond, ◌&&◌, List, [], ◌∷◌, ◌++◌, map, Option, Some, None, is_some, option_map, inl, inr, ⊎_elim, refl, sym, ap, ◌∙◌, subst, arith, nat_le, nat_lt, append_assoc, Ordering, Less, Equal, Greater, is_lt, nat_cmp, Result, Ok, Err, IfOk}
use Rattle.std.specs.List.{All, AllByRecursion}
use Rattle.std.specs.List.Sorted.{IsPermutation, IsNonDecreasingBy}
use Rattle.std.proofs.lemmas.Bool.{cond-true, cond-false, lt-leb, leb-false, ltb-true, ltb-false}
use Rattle.std.proofs.lemmas.List.{append-nil, map-append}
use Rattle.std.proofs.lemmas.List.Elements.{All-from_recursion, All-head, All-tail}
use Rattle.std.proofs.lemmas.List.Sorted.{All-permutation, IsPermutation-sym, IsPermutation-map}
use Rattle.std.specs.Ordering.{ordering_reverse}
use Rattle.std.specs.Cmp.Lexicographic.{slice_cmp}
use Rattle.std.proofs.lemmas.Cmp.{nat_list_cmp_total}
use Rattle.std.proofs.lemmas.Map.Lookups.{exact_bytes}
use Rattle.fb_bytes.specs.Bytes.{Bytes, is_below}
use Rattle.fb_bytes.specs.Options.{IsIn, better_of, best_of}
use Rattle.file_names.specs.declared.Name.{Name}
use Rattle.file_names.specs.declared.Name.TheVariants.{Range, Log, Manifest, Unreliable, Expired, Other}
use Rattle.file_names.specs.Reading.{name_of}
use Rattle.mutations.proofs.Basics.{by_test, not_both}
use Rattle.container_view.specs.declared.logs.NamedLog.{NamedLog}
use Rattle.container_view.specs.Folder.{LogFile}
use Rattle.container_view.specs.Chain.{comes_first, log_beats, has_version, best_log}
use Rattle.container_view.specs.Choices.{IsNoBetter}
use Rattle.container_view.specs.Names.{as_named_log, logs_named, seen}
use Rattle.container_view.specs.inner.Listed.{plain_log, log_of, logs_of, log_named, listed, plain_logs, IsRisingBy, last_begun, held, better, bests}
use Rattle.container_view.proofs.Basics.{best_of_in}
use Rattle.container_view.proofs.Best.{first_is, is_first, best_of_some, best_of_skip, best_of_tops, by_end_and_name, not_first}
use Rattle.container_view.proofs.Names.{joined, best_last, best_map}
use Rattle.container_view.proofs.Begun.{rising_from}
use Rattle.container_view.proofs.Runs.{rising_in}

abbrev begin_of : LogFile → ℕ
begin_of log = log.begin

-- ---- the same logs in another order

all_in : {A : Type 0} (P : A → Type 0) (xs : List A) → All P xs → (x : A) → IsIn x xs → P x
all_in P [] h x i = absurd i
all_in P (y ∷ ys) h x (inl e) = subst P (sym e) (All-head P y ys h)
all_in P (y ∷ ys) h x (inr i) = all_in P ys (All-tail P y ys h) x i

all_within : {A : Type 0} (xs ys : List A) → ((x : A) → IsIn x xs → IsIn x ys) → AllByRecursion (λ x. IsIn x ys) xs
all_within [] ys h = tt
all_within (x ∷ xs) ys h = (h x (inl refl), all_within xs ys (λ y i. h y (inr i)))

moved_in : {A : Type 0} (xs ys : List A) → IsPermutation xs ys → (x : A) → IsIn x ys → IsIn x xs
moved_in xs ys p = all_in (λ x. IsIn x xs) ys (All-permutation (λ x. IsIn x xs) xs ys p (All-from_recursion (λ x. IsIn x xs) xs (all_within xs xs (λ x i. i))))

one_name : (x y : Bytes) → is_below x y ≡ false → is_below y x ≡ false → x ≡ y
unfolding is_below
one_name x y h g = go (slice_cmp nat_cmp x y) refl
  where
    go : (o : Ordering) → slice_cmp nat_cmp x y ≡ o → x ≡ y
    go Less e = not_both (ap is_lt e) h
    go Equal e = exact_bytes x y e
    go Greater e = not_both (ap is_lt (nat_list_cmp_total.antisymm y x ∙ ap ordering_reverse e)) g

no_better : (f g : LogFile) → log_beats f g ≡ false → log_beats g f ≡ false → seen (Some f) ≡ seen (Some g)
no_better f g h k = go (not_first f.end g.end f.name g.name h) (not_first g.end f.end g.name f.name k)
  where
    go : IsNoBetter f.end f.name g.end g.name → IsNoBetter g.end g.name f.end f.name → seen (Some f) ≡ seen (Some g)
    go (inl a) (inl b) = absurd (omega arith)
    go (inl a) (inr b) = let e = b.0 in absurd (omega arith)
    go (inr a) (inl b) = let e = a.0 in absurd (omega arith)
    go (inr a) (inr b) = λ i. Some (one_name f.name g.name a.1 b.1 i, a.0 i)

module _ (xs ys : List LogFile) (there : (f : LogFile) → IsIn f xs → IsIn f ys) (back : (f : LogFile) → IsIn f ys → IsIn f xs) where
  pub same_best : (version : ℕ) → seen (best_log xs version) ≡ seen (best_log ys version)
  same_best version = go (best_log xs version) (best_log ys version) refl refl
    where
      top : (zs : List LogFile) (f g : LogFile) → best_log zs version ≡ Some g → IsIn f zs → has_version version f ≡ true → log_beats f g ≡ false
      top zs f g e i p =
          let t = best_of_tops (has_version version) log_beats (by_end_and_name (λ f. f.end) (λ f. f.name)) zs f i p in
          let same : Some t.0 ≡ Some g = sym t.1 ∙ e in
          let s : t.0 ≡ g = cc (same) in
          subst (λ r. log_beats f r ≡ false) s t.2

      go : (o p : Option LogFile) → best_log xs version ≡ o → best_log ys version ≡ p → seen o ≡ seen p
      go None None e h = refl
      go (Some f) None e h = let n = best_of_in (has_version version) log_beats xs f e in not_both (best_of_some (has_version version) log_beats ys f (there f n.1) n.0) (ap is_some h)
      go None (Some g) e h = let n = best_of_in (has_version version) log_beats ys g h in not_both (best_of_some (has_version version) log_beats xs g (back g n.1) n.0) (ap is_some e)
      go (Some f) (Some g) e h =
          let n = best_of_in (has_version version) log_beats xs f e in
          let m = best_of_in (has_version version) log_beats ys g h in
          no_better f g (top ys f g h (there f n.1) n.0) (top xs g f e (back g m.1) m.0)

-- ---- logs by their names

abbrev plain : LogFile → LogFile
plain f = plain_log f.name f.begin f.end

plain_is : (names : List Bytes) → plain_logs names ≡ map plain (logs_named names)
plain_is [] = refl
plain_is (name ∷ names) = (λ i. listed (log_named name (name_of name)) ++ plain_is names i) ∙ ap (λ (xs : List LogFile). xs ++ map plain (logs_named names)) (go (name_of name)) ∙ sym (map-append plain (as_named_log name (name_of name)) (logs_named names))
  where
    go : (said : Name) → listed (log_named name said) ≡ map plain (as_named_log name said)
    go (Log begin end ticket block) = refl
    go (Range snapshot version ticket block) = refl
    go (Manifest begin end size ticket) = refl
    go Unreliable = refl
    go Expired = refl
    go Other = refl

plain_best : (names : List Bytes) (version : ℕ) → seen (best_log (plain_logs names) version) ≡ seen (best_log (logs_named names) version)
plain_best names version =
    ap (λ xs. seen (best_log xs version)) (plain_is names)
    ∙ ap seen (best_map plain (has_version version) (has_version version) log_beats (λ f. refl) (λ f g. refl) (logs_named names))
    ∙ go (best_log (logs_named names) version)
  where
    go : (o : Option LogFile) → seen (option_map plain o) ≡ seen o
    go None = refl
    go (Some f) = refl

pub sorted_best : (names : List Bytes) (parsed sorted : List NamedLog) → logs_of parsed ≡ plain_logs names → IsPermutation parsed sorted → (version : ℕ) → seen (best_log (logs_of sorted) version) ≡ seen (best_log (logs_named names) version)
sorted_best names parsed sorted e p version =
    let q = IsPermutation-map log_of parsed sorted p in
    same_best (logs_of sorted) (logs_of parsed) (moved_in (logs_of parsed) (logs_of sorted) q) (moved_in (logs_of sorted) (logs_of parsed) (IsPermutation-sym (logs_of parsed) (logs_of sorted) q)) version
    ∙ ap (λ xs. seen (best_log xs version)) e
    ∙ plain_best names version

pub sorted_rise : (sorted : List NamedLog) → IsNonDecreasingBy (λ log. log.begin) sorted → IsRisingBy (λ log. log.begin) 0 sorted
sorted_rise sorted up = rising_from (λ log. log.begin) 0 sorted (λ i d l. omega arith) up

-- ---- the best of those that begin at or before a version

module _ (version : ℕ) where
  abbrev is_begun : LogFile → Bool
  is_begun f = nat_le f.begin version

  abbrev best_begun : List LogFile → Option LogFile
  best_begun logs = best_of is_begun log_beats logs

  -- where it ends past the version
  abbrev kept : Option LogFile → Option LogFile
  kept None = None
  kept (Some f) = cond (nat_lt version f.end) (Some f) None

  abbrev keep : Option (Bytes × ℕ) → Option (Bytes × ℕ)
  keep None = None
  keep (Some best) = cond (nat_lt version best.1) (Some best) None

  keep_seen : (o : Option LogFile) → keep (seen o) ≡ seen (kept o)
  keep_seen None = refl
  keep_seen (Some f) = go (nat_lt version f.end)
    where
      go : (b : Bool) → cond {A = Option (Bytes × ℕ)} b (Some (f.name, f.end)) None ≡ seen (cond b (Some f) None)
      go true = refl
      go false = refl

  -- of two the better is kept, if one is
  two : (f g : LogFile) (b c : Bool) → nat_lt version f.end ≡ b → nat_lt version g.end ≡ c → cond b (Some (better_of log_beats f (cond c (Some g) None))) (cond c (Some g) None) ≡ kept (Some (better_of log_beats f (Some g)))
  two f g true true p q = sym (by_test (log_beats g f) (λ z. kept (Some z) ≡ Some z) g f (λ h. cond-true (nat_lt version g.end) (Some g) None q) (λ h. cond-true (nat_lt version f.end) (Some f) None p))
  two f g true false p q = sym (by_test (log_beats g f) (λ z. kept (Some z) ≡ Some f) g f
      (λ h. let l = ltb-true version f.end p in let k = ltb-false version g.end q in ⊎_elim (λ m. absurd (omega arith)) (λ e. let s = e.0 in absurd (omega arith)) (first_is g.end f.end g.name f.name h))
      (λ h. cond-true (nat_lt version f.end) (Some f) None p))
  two f g false true p q = sym (by_test (log_beats g f) (λ z. kept (Some z) ≡ Some g) g f
      (λ h. cond-true (nat_lt version g.end) (Some g) None q)
      (λ h. let l = ltb-false version f.end p in let k = ltb-true version g.end q in not_both (is_first g.end f.end g.name f.name (inl (omega arith))) h))
  two f g false false p q = sym (by_test (log_beats g f) (λ z. kept (Some z) ≡ None) g f (λ h. cond-false (nat_lt version g.end) (Some g) None q) (λ h. cond-false (nat_lt version f.end) (Some f) None p))

  best_kept : (logs : List LogFile) → best_log logs version ≡ kept (best_begun logs)
  best_kept [] = refl
  best_kept (f ∷ logs) = ap (λ o. cond (has_version version f) (Some (better_of log_beats f o)) o) (best_kept logs) ∙ go (nat_le f.begin version) (best_begun logs)
    where
      go : (b : Bool) (o : Option LogFile) → cond (b && nat_lt version f.end) (Some (better_of log_beats f (kept o))) (kept o) ≡ kept (cond b (Some (better_of log_beats f o)) o)
      go false o = refl
      go true None = refl
      go true (Some g) = two f g (nat_lt version f.end) (nat_lt version g.end) refl refl

  -- ---- by one pass

  abbrev top : Option (Bytes × ℕ) → List LogFile → Option (Bytes × ℕ)
  top best [] = best
  top best (f ∷ logs) = cond (nat_le f.begin version) (top (Some (better best f)) logs) best

  last_bests : (found : Option LogFile) (best : Option (Bytes × ℕ)) (logs : List LogFile) → held version found ≡ keep best → held version (last_begun begin_of version found (bests best logs)) ≡ keep (top best logs)
  last_bests found best [] h = h
  last_bests found best (f ∷ logs) h = go (last_bests (Some (plain_log (better best f).0 f.begin (better best f).1)) (Some (better best f)) logs refl) (nat_le f.begin version)
    where
      go : held version (last_begun begin_of version (Some (plain_log (better best f).0 f.begin (better best f).1)) (bests (Some (better best f)) logs)) ≡ keep (top (Some (better best f)) logs) → (b : Bool)
          → held version (cond b (last_begun begin_of version (Some (plain_log (better best f).0 f.begin (better best f).1)) (bests (Some (better best f)) logs)) found) ≡ keep (cond b (top (Some (better best f)) logs) best)
      go ih true = ih
      go ih false = h

  joined_seen : (o : Option LogFile) (f : LogFile) → Some (better (seen o) f) ≡ seen (Some (joined log_beats o f))
  joined_seen None f = refl
  joined_seen (Some g) f = go (comes_first f.end f.name g.end g.name)
    where
      go : (b : Bool) → Some (cond {A = Bytes × ℕ} b (f.name, f.end) (g.name, g.end)) ≡ seen (Some (cond b f g))
      go true = refl
      go false = refl

  skip_all : (front logs : List LogFile) → ((f : LogFile) → IsIn f logs → is_begun f ≡ false) → best_begun (front ++ logs) ≡ best_begun front
  skip_all front [] h = ap best_begun (append-nil front)
  skip_all front (f ∷ logs) h = best_of_skip is_begun log_beats f front logs (h f (inl refl)) ∙ skip_all front logs (λ g i. h g (inr i))

  top_best : (low : ℕ) (front logs : List LogFile) → IsRisingBy begin_of low logs → top (seen (best_begun front)) logs ≡ seen (best_begun (front ++ logs))
  top_best low front [] r = ap (λ xs. seen (best_begun xs)) (sym (append-nil front))
  top_best low front (f ∷ logs) r = go (top_best f.begin (front ++ f ∷ []) logs r.1) (nat_le f.begin version) refl
    where
      step : nat_le f.begin version ≡ true → Some (better (seen (best_begun front)) f) ≡ seen (best_begun (front ++ f ∷ []))
      step p = joined_seen (best_begun front) f ∙ ap seen (sym (best_last is_begun log_beats (by_end_and_name (λ f. f.end) (λ f. f.name)) front f ∙ cond-true (is_begun f) (Some (joined log_beats (best_begun front) f)) (best_begun front) p))

      go : top (seen (best_begun (front ++ f ∷ []))) logs ≡ seen (best_begun ((front ++ f ∷ []) ++ logs)) → (b : Bool) → nat_le f.begin version ≡ b
          → cond b (top (Some (better (seen (best_begun front)) f)) logs) (seen (best_begun front)) ≡ seen (best_begun (front ++ f ∷ logs))
      go ih true p = ap (λ o. top o logs) (step p) ∙ ih ∙ ap (λ xs. seen (best_begun xs)) (append_assoc front (f ∷ []) logs)
      go ih false p = ap seen (sym (skip_all front (f ∷ logs) (λ g i. let l = rising_in f.begin (f ∷ logs) (omega arith, r.1) g i in let k = leb-false f.begin version p in lt-leb _ _ (omega arith))))

  pub best_held : (logs : List LogFile) → IsRisingBy begin_of 0 logs → held version (last_begun begin_of version None (bests None logs)) ≡ seen (best_log logs version)
  best_held logs r = last_bests None None logs refl ∙ ap keep (top_best 0 [] logs r) ∙ keep_seen (best_begun logs) ∙ ap seen (sym (best_kept logs))

-- ---- the begins

pub if_ok : {A E : Type 0} {P Q : A → Type 0} (r : Result A E) → ((x : A) → P x → Q x) → IfOk r P → IfOk r Q
if_ok (Ok x) f p = f x p
if_ok (Err e) f p = p

bests_rise : (best : Option (Bytes × ℕ)) (low : ℕ) (logs : List LogFile) → IsRisingBy begin_of low logs → IsRisingBy begin_of low (bests best logs)
bests_rise best low [] r = tt
bests_rise best low (f ∷ logs) r = (r.0, bests_rise (Some (better best f)) f.begin logs r.1)

pub rise_up : (low : ℕ) (logs : List NamedLog) → IsRisingBy (λ log. log.begin) low logs → IsRisingBy begin_of low (logs_of logs)
rise_up low [] r = tt
rise_up low (f ∷ logs) r = (r.0, rise_up f.begin logs r.1)

rise_down : (low : ℕ) (logs : List NamedLog) → IsRisingBy begin_of low (logs_of logs) → IsRisingBy (λ log. log.begin) low logs
rise_down low [] r = tt
rise_down low (f ∷ logs) r = (r.0, rise_down f.begin logs r.1)

module _ (sorted list : List NamedLog) (rise : IsRisingBy (λ log. log.begin) 0 sorted) (e : logs_of list ≡ bests None (logs_of sorted)) where
  pub list_rises : IsRisingBy (λ log. log.begin) 0 list
  list_rises = rise_down 0 list (subst (IsRisingBy begin_of 0) (sym e) (bests_rise None 0 (logs_of sorted) (rise_up 0 sorted rise)))

  pub list_held : (version : ℕ) → held version (last_begun begin_of version None (logs_of list)) ≡ seen (best_log (logs_of sorted) version)
  list_held version = ap (λ xs. held version (last_begun begin_of version None xs)) e ∙ best_held version (logs_of sorted) (rise_up 0 sorted rise)
