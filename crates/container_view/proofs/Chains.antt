-- The files of a chain, replayed in turn, are the history.
use Rattle.std.proofs.Common.{◌≡◌, ℕ, zero, suc, ◌+◌, ◌<◌, ◌≤◌, min, max, Bool, true, false, cond, List, [], ◌∷◌, Option, Some, None, ⊎_elim, refl, sym, ap, ◌∙◌, subst, arith, nat_le}
use Rattle.std.proofs.lemmas.Bool.{cases_lt, and_parts, leb-true, leb-false, ltb-true}
use Rattle.fb_bytes.specs.Bytes.{Bytes}
use Rattle.fb_bytes.specs.Keys.{in_ranges}
use Rattle.fb_bytes.specs.Options.{IsIn, ◌>>=◌, each_of}
use Rattle.block_frame.specs.Profiles.{limit_of}
use Rattle.mutations.specs.Replay.{replayed}
use Rattle.mutations.specs.Histories.{batches_of, IsRising, logged}
use Rattle.mutations.proofs.Replays.{replayed_empty}
use Rattle.mutations.proofs.Logs.{logged_same}
use Rattle.container_view.specs.Folder.{LogFile}
use Rattle.container_view.specs.Chain.{LogLink, has_version, log_beats, best_log, links}
use Rattle.container_view.specs.Meaning.{Part, read_link, replayed_parts}
use Rattle.container_view.specs.Law.{Source, IsHonestLog}
use Rattle.fb_bytes.proofs.Options.{bind_some}
use Rattle.container_view.proofs.Basics.{best_of_in}
use Rattle.container_view.proofs.Replays.{replayed_cut}

-- what a chain's next file is
pub record Next (logs : List LogFile) (c : ℕ) (f : LogFile) : Type 0 where
  pub is_in : IsIn f logs
  pub begins : f.begin ≤ c
  pub ends : c < f.end

pub best_log_is : (logs : List LogFile) (c : ℕ) (f : LogFile) → best_log logs c ≡ Some f → Next logs c f
best_log_is logs c f e =
    let h = best_of_in (has_version c) log_beats logs f e in
    let p = and_parts _ _ h.0 in
    record { is_in = h.1; begins = leb-true _ _ p.0; ends = ltb-true _ _ p.1 }

module _ (s : Source) (logs : List LogFile) (rising : IsRising s.history) (honest : (f : LogFile) → IsIn f logs → IsHonestLog s f) where
  -- the chain's files can be read, replayed they are the history, and they end no later than now
  pub record Reads (c end : ℕ) (ls : List LogLink) : Type 0 where
    pub parts : List Part
    pub read : each_of read_link ls ≡ Some parts
    pub ends : c < end → end ≤ s.now + 1
    pub same : (key : Bytes) → in_ranges s.ranges key ≡ true → (low : ℕ) (old : Option Bytes) → replayed_parts parts low end key old ≡ replayed (limit_of s.block) (batches_of s.history) (max c low) end key old

  no_links : (c end : ℕ) → end ≤ c → Reads c end []
  no_links c end h = record {
    parts = [];
    read = refl;
    ends = λ g. absurd (omega arith);
    same = λ key i low old. sym (replayed_empty (limit_of s.block) key (batches_of s.history) (max c low) end old (omega arith));
  }

  abbrev part : ℕ → LogFile → Part
  part c f = record { from = c; to = f.end; block = f.block; batches = logged s.history s.ranges f.begin f.end }

  -- one file's batches, replayed, are the history
  part_same : (c end : ℕ) (f : LogFile) → Next logs c f → (key : Bytes) → in_ranges s.ranges key ≡ true → (low : ℕ) (old : Option Bytes) → replayed (limit_of f.block) (logged s.history s.ranges f.begin f.end) (max c low) (min f.end end) key old ≡ replayed (limit_of s.block) (batches_of s.history) (max c low) (min f.end end) key old
  part_same c end f n key i low old =
      let b = n.begins in
      let e : max f.begin (max c low) ≡ max c low = omega arith in
      let g : min f.end (min f.end end) ≡ min f.end end = omega arith in
      ap (λ b. replayed (limit_of b) (logged s.history s.ranges f.begin f.end) (max c low) (min f.end end) key old) (honest f n.is_in).block
      ∙ logged_same (limit_of s.block) key s.ranges i s.history f.begin f.end (max c low) (min f.end end) old
      ∙ (λ j. replayed (limit_of s.block) (batches_of s.history) (e j) (g j) key old)

  one_link : (c end : ℕ) (f : LogFile) (ls : List LogLink) → Next logs c f → Reads f.end end ls → c < end → Reads c end (record { file = f; from = c; to = f.end } ∷ ls)
  one_link c end f ls n r h =
      let log = honest f n.is_in in
      record {
        parts = part c f ∷ r.parts;
        read = rw (log.content, r.read) refl;
        ends = λ g. let past = log.past in ⊎_elim r.ends (λ k. omega arith) (cases_lt f.end end);
        same = λ key i low old. r.same key i low _ ∙ ap (replayed (limit_of s.block) (batches_of s.history) (max f.end low) end key) (part_same c end f n key i low old) ∙ replayed_cut (limit_of s.block) key (batches_of s.history) c f.end low end old rising (let e = n.ends in omega arith);
      }

  last : (c end : ℕ) (ls : List LogLink) (b : Bool) → nat_le end c ≡ b → cond b (Some []) None ≡ Some ls → Reads c end ls
  last c end ls true h e = let n : [] ≡ ls = cc in subst (Reads c end) n (no_links c end (leb-true end c h))
  last c end ls false h e = cc

  goes_on : (c end : ℕ) (ls : List LogLink) (next : LogFile → Option (List LogLink)) → ((f : LogFile) (rest : List LogLink) → next f ≡ Some rest → Reads f.end end rest) → (b : Bool) → nat_le end c ≡ b → cond b (Some []) (best_log logs c >>= λ f. next f >>= λ rest. Some (record { file = f; from = c; to = f.end } ∷ rest)) ≡ Some ls → Reads c end ls
  goes_on c end ls next ih true h e = last c end ls true h e
  goes_on c end ls next ih false h e =
      let f = bind_some (best_log logs c) _ ls e in
      let rest = bind_some (next f.0) _ ls f.2 in
      let n : record { file = f.0; from = c; to = f.0.end } ∷ rest.0 ≡ ls = cc (rest.2) in
      subst (Reads c end) n (one_link c end f.0 rest.0 (best_log_is logs c f.0 f.1) (ih f.0 rest.0 rest.1) (leb-false end c h))

  pub links_read : (most c end : ℕ) (ls : List LogLink) → links most logs c end ≡ Some ls → Reads c end ls
  links_read zero c end ls e = last c end ls (nat_le end c) refl e
  links_read (suc most) c end ls e = goes_on c end ls (λ f. links most logs f.end end) (λ f rest. links_read most f.end end rest) (nat_le end c) refl e
