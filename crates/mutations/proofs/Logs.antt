-- What a log keeps of a history.
use Rattle.std.proofs.Common.{◌≡◌, ℕ, ◌≤◌, ◌<◌, min, max, Bool, true, false, ◌&&◌, cond, List, [], ◌∷◌, ◌++◌, Option, ⊎_elim, refl, sym, ap, ◌∙◌, arith, nat_lt, nat_le, if◌then◌else◌}
use Rattle.std.specs.List.{AllByRecursion}
use Rattle.std.proofs.lemmas.Bool.{cases_lt}
use Rattle.std.proofs.lemmas.Bool.Decides.{nat_tests}
use Rattle.fb_bytes.specs.declared.KeyRange.{KeyRange}
use Rattle.fb_bytes.specs.Bytes.{Bytes}
use Rattle.fb_bytes.specs.Keys.{in_ranges}
use Rattle.mutations.specs.declared.mutation.Mutation.{Mutation}
use Rattle.mutations.specs.declared.batch.Batch.{Batch}
use Rattle.mutations.specs.declared.history.Entry.{Entry}
use Rattle.mutations.specs.Effects.{effects}
use Rattle.mutations.specs.Clipping.{all_clipped}
use Rattle.mutations.specs.Replay.{is_within, replayed, AreRising}
use Rattle.mutations.specs.Histories.{batches_of, IsRising, with_batch, logged}
use Rattle.mutations.specs.Laws.{LoggedJoinLaw, LoggedAppendLaw, LoggedLaw, LoggedReplayLaw}
use Rattle.mutations.proofs.Basics.{by_test, all_weaker, and_swap}
use Rattle.mutations.proofs.Replays.{below_within, above_within, upper_out, lower_out}
use Rattle.mutations.proofs.Clips.{clips_same}

-- ---- two spans of versions

max_le : (a b n : ℕ) → nat_le (max a b) n ≡ (nat_le a n && nat_le b n)
max_le a b n = grind (arith, nat_tests)

lt_min : (a b n : ℕ) → nat_lt n (min a b) ≡ (nat_lt n a && nat_lt n b)
lt_min a b n = grind (arith, nat_tests)

within_both : (begin end a b n : ℕ) → is_within (max begin a) (min end b) n ≡ (is_within begin end n && is_within a b n)
within_both begin end a b n = (λ i. max_le begin a n i && lt_min end b n i) ∙ and_swap (nat_le begin n) (nat_le a n) (nat_lt n end) (nat_lt n b)

-- ---- what is logged, replayed

module _ (limit : ℕ) (key : Bytes) where
  with_batch_at : (version : ℕ) (ms : List Mutation) (rest : List Batch) (a b : ℕ) (old : Option Bytes) → replayed limit (with_batch version ms rest) a b key old ≡ replayed limit rest a b key (if is_within a b version then effects limit ms key old else old)
  with_batch_at version [] rest a b old = ap (replayed limit rest a b key) (by_test (is_within a b version) (λ z. old ≡ z) old old (λ h. refl) (λ h. refl))
  with_batch_at version (m ∷ ms) rest a b old = refl

  -- one entry, by whether it is in the span of the log and in the span of the replay
  logged_step : (version : ℕ) (ms clipped : List Mutation) (rest : List Batch) (a b : ℕ) (f : Option Bytes → Option Bytes) (in_log in_both : Bool) (old : Option Bytes) → in_both ≡ (in_log && is_within a b version) → ((o : Option Bytes) → effects limit clipped key o ≡ effects limit ms key o) → ((o : Option Bytes) → replayed limit rest a b key o ≡ f o) → replayed limit (if in_log then with_batch version clipped rest else rest) a b key old ≡ f (if in_both then effects limit ms key old else old)
  logged_step version ms clipped rest a b f true in_both old both same ih =
      with_batch_at version clipped rest a b old
      ∙ ih _
      ∙ ap f (ap (λ z. cond (is_within a b version) z old) (same old) ∙ ap (λ t. cond t (effects limit ms key old) old) (sym both))
  logged_step version ms clipped rest a b f false in_both old both same ih = ih old ∙ ap (λ t. f (cond t (effects limit ms key old) old)) (sym both)

  pub logged_same : (ranges : List KeyRange) → in_ranges ranges key ≡ true → (xs : List Entry) (begin end a b : ℕ) (old : Option Bytes) → replayed limit (logged xs ranges begin end) a b key old ≡ replayed limit (batches_of xs) (max begin a) (min end b) key old
  logged_same ranges h [] begin end a b old = refl
  logged_same ranges h (x ∷ xs) begin end a b old =
      logged_step x.version x.muts (all_clipped ranges x.muts) (logged xs ranges begin end) a b (replayed limit (batches_of xs) (max begin a) (min end b) key) (is_within begin end x.version) _ old
      (within_both begin end a b x.version)
      (clips_same limit key ranges h x.muts)
      (logged_same ranges h xs begin end a b)

pub logged_replay : LoggedReplayLaw
logged_replay limit history ranges begin end low high key old h = logged_same limit key ranges h history begin end low high old

-- ---- logs in two parts

with_batch_append : (version : ℕ) (ms : List Mutation) (first second : List Batch) → with_batch version ms first ++ second ≡ with_batch version ms (first ++ second)
with_batch_append version [] first second = refl
with_batch_append version (m ∷ ms) first second = refl

append_step : (b : Bool) (version : ℕ) (ms : List Mutation) (both first second : List Batch) → both ≡ first ++ second → (if b then with_batch version ms both else both) ≡ (if b then with_batch version ms first else first) ++ second
append_step true version ms both first second h = ap (with_batch version ms) h ∙ sym (with_batch_append version ms first second)
append_step false version ms both first second h = h

pub logged_append : LoggedAppendLaw
logged_append [] second ranges begin end = refl
logged_append (x ∷ xs) second ranges begin end = append_step (is_within begin end x.version) x.version (all_clipped ranges x.muts) _ (logged xs ranges begin end) (logged second ranges begin end) (logged_append xs second ranges begin end)

-- two stretches that have the same entries
logged_agree : (xs : List Entry) (ranges : List KeyRange) (a b c d : ℕ) → AllByRecursion (λ x. is_within a b x.version ≡ is_within c d x.version) (batches_of xs) → logged xs ranges a b ≡ logged xs ranges c d
logged_agree [] ranges a b c d h = refl
logged_agree (x ∷ xs) ranges a b c d h = rw (h.0, logged_agree xs ranges a b c d h.1) refl

-- a stretch that has no entry
logged_none : (xs : List Entry) (ranges : List KeyRange) (a b : ℕ) → AllByRecursion (λ x. is_within a b x.version ≡ false) (batches_of xs) → logged xs ranges a b ≡ []
logged_none [] ranges a b h = refl
logged_none (x ∷ xs) ranges a b h = rw h.0 (logged_none xs ranges a b h.1)

join_first : (x : Entry) (xs : List Entry) (ranges : List KeyRange) (a m b : ℕ) → logged xs ranges a m ++ logged xs ranges m b ≡ logged xs ranges a b → m ≤ b → x.version < m → logged (x ∷ xs) ranges a m ++ logged (x ∷ xs) ranges m b ≡ logged (x ∷ xs) ranges a b
join_first x xs ranges a m b ih g h =
    let out = below_within m b x.version h in
    let same : is_within a m x.version ≡ is_within a b x.version = upper_out a m b x.version g h in
    rw (out, same) (sym (append_step (is_within a b x.version) x.version (all_clipped ranges x.muts) _ (logged xs ranges a m) (logged xs ranges m b) (sym ih)))

join_rest : (xs : List Entry) (ranges : List KeyRange) (a m b : ℕ) → AllByRecursion (λ y. m ≤ y.version) (batches_of xs) → a ≤ m → logged xs ranges a m ++ logged xs ranges m b ≡ logged xs ranges a b
join_rest xs ranges a m b h l =
    ap (λ (front : List Batch). front ++ logged xs ranges m b) (logged_none xs ranges a m (all_weaker _ _ (λ y k. above_within a m y.version k) (batches_of xs) h))
    ∙ logged_agree xs ranges m b a b (all_weaker _ _ (λ y k. lower_out m a b y.version k l) (batches_of xs) h)

pub logged_join : LoggedJoinLaw
logged_join [] ranges begin middle end r l g = refl
logged_join (x ∷ xs) ranges begin middle end r l g =
    ⊎_elim (join_first x xs ranges begin middle end (logged_join xs ranges begin middle end r.1 l g) g)
    (λ h. join_rest (x ∷ xs) ranges begin middle end (h, all_weaker _ _ (λ y k. omega arith) (batches_of xs) r.0) l)
    (cases_lt x.version middle)

-- ---- the versions of a log

with_batch_all : (P : Batch → Type 0) (version : ℕ) (ms : List Mutation) (rest : List Batch) → P (record { version = version; muts = ms }) → AllByRecursion P rest → AllByRecursion P (with_batch version ms rest)
with_batch_all P version [] rest p h = h
with_batch_all P version (m ∷ ms) rest p h = (p, h)

within_step : (b : Bool) (begin end version : ℕ) (ms : List Mutation) (rest : List Batch) → is_within begin end version ≡ b → AllByRecursion (λ x. is_within begin end x.version ≡ true) rest → AllByRecursion (λ x. is_within begin end x.version ≡ true) (if b then with_batch version ms rest else rest)
within_step true begin end version ms rest e h = with_batch_all (λ x. is_within begin end x.version ≡ true) version ms rest e h
within_step false begin end version ms rest e h = h

logged_within : (xs : List Entry) (ranges : List KeyRange) (begin end : ℕ) → AllByRecursion (λ x. is_within begin end x.version ≡ true) (logged xs ranges begin end)
logged_within [] ranges begin end = tt
logged_within (x ∷ xs) ranges begin end = within_step (is_within begin end x.version) begin end x.version (all_clipped ranges x.muts) (logged xs ranges begin end) refl (logged_within xs ranges begin end)

past_step : (b : Bool) (n version : ℕ) (ms : List Mutation) (rest : List Batch) → n < version → AllByRecursion (λ x. n < x.version) rest → AllByRecursion (λ x. n < x.version) (if b then with_batch version ms rest else rest)
past_step true n version ms rest e h = with_batch_all (λ x. n < x.version) version ms rest e h
past_step false n version ms rest e h = h

logged_past : (n : ℕ) (xs : List Entry) (ranges : List KeyRange) (begin end : ℕ) → AllByRecursion (λ x. n < x.version) (batches_of xs) → AllByRecursion (λ x. n < x.version) (logged xs ranges begin end)
logged_past n [] ranges begin end h = tt
logged_past n (x ∷ xs) ranges begin end h = past_step (is_within begin end x.version) n x.version (all_clipped ranges x.muts) (logged xs ranges begin end) h.0 (logged_past n xs ranges begin end h.1)

rising_with : (version : ℕ) (ms : List Mutation) (rest : List Batch) → AllByRecursion (λ x. version < x.version) rest → AreRising rest → AreRising (with_batch version ms rest)
rising_with version [] rest h r = r
rising_with version (m ∷ ms) rest h r = (h, r)

rising_step : (b : Bool) (version : ℕ) (ms : List Mutation) (rest : List Batch) → AllByRecursion (λ x. version < x.version) rest → AreRising rest → AreRising (if b then with_batch version ms rest else rest)
rising_step true version ms rest h r = rising_with version ms rest h r
rising_step false version ms rest h r = r

logged_rising : (xs : List Entry) (ranges : List KeyRange) (begin end : ℕ) → IsRising xs → AreRising (logged xs ranges begin end)
logged_rising [] ranges begin end r = tt
logged_rising (x ∷ xs) ranges begin end r = rising_step (is_within begin end x.version) x.version (all_clipped ranges x.muts) (logged xs ranges begin end) (logged_past x.version xs ranges begin end r.0) (logged_rising xs ranges begin end r.1)

pub logged_law : LoggedLaw
logged_law history ranges begin end r = record { within = logged_within history ranges begin end; rising = logged_rising history ranges begin end r }
