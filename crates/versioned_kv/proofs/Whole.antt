-- What always holds of a store: one entry more, one entry back, and older versions forgotten.
use Rattle.std.proofs.Common.{◌≡◌, ℕ, ◌<◌, ◌≤◌, List, [], ◌∷◌, ◌++◌, ⊎_elim, sym, ap, ◌∙◌, subst, arith}
use Rattle.std.specs.List.{AllByRecursion}
use Rattle.fb_bytes.specs.Options.{IsIn}
use Rattle.mutations.proofs.Basics.{all_weaker}
use Rattle.versioned_kv.specs.Chains.{Row, Chain, rows_of}
use Rattle.versioned_kv.specs.Edits.{without_rows, without}
use Rattle.versioned_kv.specs.inner.Edits.{Extends}
use Rattle.versioned_kv.specs.Forgotten.{all_forgotten}
use Rattle.versioned_kv.specs.inner.Sound.{AreVersions}
use Rattle.versioned_kv.specs.Applied.{IsPast}
use Rattle.versioned_kv.specs.inner.Queued.{Touch, AreNoted, AreTouchesUpto, AreTouchesBelow, AreInOrder, Notes, Falls, AreRowsKept, IsWhole}
use Rattle.versioned_kv.proofs.Values.{rows_rise}
use Rattle.versioned_kv.proofs.Joined.{all_parts, all_both}
use Rattle.versioned_kv.proofs.Cuts.{rows_left, upto_of, in_last, in_front, in_end, all_in, below_all, front_versions}
use Rattle.versioned_kv.proofs.Holding.{cut_back, sound_more, sound_back}
use Rattle.versioned_kv.proofs.Forgets.{chains_kept, of_kept, rows_kept}
use Rattle.versioned_kv.proofs.Touches.{all_two, each_chain}
use Rattle.versioned_kv.proofs.Queues.{in_either, each_in, notes_in, none_noted, noted_rows, order_front, order_behind, order_more, kept_in, kept_more, kept_cut, kept_noted, kept_fallen, falls_in}

-- ---- versions of the queue

pub past_queue : (version : ℕ) (versions : List ℕ) (queue : List Touch) → IsPast version versions → AllByRecursion (λ (t : Touch). IsIn t.version versions) queue → AreTouchesBelow version queue
past_queue version versions queue past h = all_weaker (λ (t : Touch). IsIn t.version versions) (λ (t : Touch). t.version < version) (λ t i. all_in (λ n. n < version) t.version versions past i) queue h

pub upto_queue : (version : ℕ) (queue : List Touch) → AreTouchesBelow version queue → AreTouchesUpto version queue
upto_queue version queue h = all_weaker (λ (t : Touch). t.version < version) (λ (t : Touch). t.version ≤ version) (λ t l. omega arith) queue h

pub newest_queue : (version : ℕ) (versions : List ℕ) (queue : List Touch) → AreVersions (versions ++ version ∷ []) → AllByRecursion (λ (t : Touch). IsIn t.version (versions ++ version ∷ [])) queue → AreTouchesUpto version queue
newest_queue version versions queue v h = all_weaker (λ (t : Touch). IsIn t.version (versions ++ version ∷ [])) (λ (t : Touch). t.version ≤ version) (λ t i. all_in (λ n. n ≤ version) t.version (versions ++ version ∷ []) (all_snoc versions (front_versions version versions v).1) i) queue h
  where
    all_snoc : (ys : List ℕ) → AllByRecursion (λ (n : ℕ). n < version) ys → AllByRecursion (λ (n : ℕ). n ≤ version) (ys ++ version ∷ [])
    all_snoc [] k = (omega arith, tt)
    all_snoc (y ∷ ys) k = (let l = k.0 in omega arith, all_snoc ys k.1)

-- the queue once touches of the newest version are gone
older_of : (version : ℕ) (versions : List ℕ) (queue : List Touch) → AreTouchesBelow version queue → AllByRecursion (λ (t : Touch). IsIn t.version (versions ++ version ∷ [])) queue → AllByRecursion (λ (t : Touch). IsIn t.version versions) queue
older_of version versions queue below h = all_two (λ (t : Touch). t.version < version) (λ (t : Touch). IsIn t.version (versions ++ version ∷ [])) (λ (t : Touch). IsIn t.version versions) (λ t l i. in_end t.version version versions i (λ e. omega arith)) queue below h

front_of : (version : ℕ) (P : Touch → Type 0) (rest queue : List Touch) → Notes version rest queue → AllByRecursion P queue → AllByRecursion P rest
front_of version P rest queue f h = (all_parts P rest f.more (subst (AllByRecursion P) f.added h)).0

-- what isn't of the version is left
older_in : (version : ℕ) (rest queue : List Touch) (t : Touch) → Notes version rest queue → IsIn t queue → (t.version ≡ version → ⊥) → IsIn t rest
older_in version rest queue t f h n = ⊎_elim (λ i. i) (λ i. absurd (n (each_in (λ (s : Touch). s.version ≡ version) t f.more f.each i))) (in_either t rest f.more (subst (IsIn t) f.added h))

-- ---- one entry more

pub whole_more : (version oldest : ℕ) (versions : List ℕ) (old new : List Chain) (a b : List Touch) → IsWhole versions oldest old a → IsPast version versions → Extends version old new → Notes version a b → AreNoted version new b → IsWhole (versions ++ version ∷ []) oldest new b
whole_more version oldest versions old new a b h past extends notes noted = record {
  sound = sound_more version versions old new h.sound past extends;
  queued = record {
    in_order = order_more version a b h.queued.in_order (upto_queue version a (past_queue version versions a past h.queued.of)) notes;
    of = subst (AllByRecursion (λ (t : Touch). IsIn t.version (versions ++ version ∷ []))) (sym notes.added)
        (all_both (λ (t : Touch). IsIn t.version (versions ++ version ∷ [])) a notes.more
        (all_weaker (λ (t : Touch). IsIn t.version versions) (λ (t : Touch). IsIn t.version (versions ++ version ∷ [])) (λ t i. in_front t.version version versions i) a h.queued.of)
        (all_weaker (λ (t : Touch). t.version ≡ version) (λ (t : Touch). IsIn t.version (versions ++ version ∷ [])) (λ t e. subst (λ n. IsIn n (versions ++ version ∷ [])) (sym e) (in_last version versions)) notes.more notes.each));
    kept = λ key.
        let same : rows_of old key ≡ without_rows version (rows_of new key) = ap (λ (cs : List Chain). rows_of cs key) (sym (cut_back version versions old new h.sound.in_order past h.sound.known extends)) ∙ rows_left version new key extends.chains in
        kept_more version oldest a b key (rows_of new key) (rows_rise key new extends.chains) (upto_of version new key extends.upto) (λ t i. notes_in version a b t notes i) (subst (AreRowsKept a oldest key) same (h.queued.kept key)) (noted_rows version new b key noted);
  };
}

pub none_yet : (version oldest : ℕ) (versions : List ℕ) (chains : List Chain) (queue : List Touch) → IsWhole versions oldest chains queue → IsPast version versions → AreNoted version chains queue
none_yet version oldest versions chains queue h past = none_noted version chains queue (below_all version versions chains past h.sound.known)

-- ---- an entry that was refused

pub whole_undone : (version oldest : ℕ) (versions : List ℕ) (chains : List Chain) (a b rest : List Touch) → IsWhole versions oldest chains a → IsPast version versions → Notes version a b → Notes version rest b → AreTouchesBelow version rest → IsWhole versions oldest chains rest
whole_undone version oldest versions chains a b rest h past notes back below =
    let before = past_queue version versions a past h.queued.of in
    record {
      sound = h.sound;
      queued = record {
        in_order = order_front rest back.more (subst AreInOrder back.added (order_more version a b h.queued.in_order (upto_queue version a before) notes));
        of = older_of version versions rest below (front_of version (λ (t : Touch). IsIn t.version (versions ++ version ∷ [])) rest b back
            (subst (AllByRecursion (λ (t : Touch). IsIn t.version (versions ++ version ∷ []))) (sym notes.added)
            (all_both (λ (t : Touch). IsIn t.version (versions ++ version ∷ [])) a notes.more
            (all_weaker (λ (t : Touch). IsIn t.version versions) (λ (t : Touch). IsIn t.version (versions ++ version ∷ [])) (λ t i. in_front t.version version versions i) a h.queued.of)
            (all_weaker (λ (t : Touch). t.version ≡ version) (λ (t : Touch). IsIn t.version (versions ++ version ∷ [])) (λ t e. subst (λ n. IsIn n (versions ++ version ∷ [])) (sym e) (in_last version versions)) notes.more notes.each))));
        kept = λ key. kept_in a rest oldest key (rows_of chains key) (λ t i. older_in version rest b t back (notes_in version a b t notes i) (λ e. let l : t.version < version = each_in (λ (s : Touch). s.version < version) t a before i in omega arith)) (h.queued.kept key);
      };
    }

-- ---- one entry back

pub newest_noted : (version oldest : ℕ) (versions : List ℕ) (chains : List Chain) (queue : List Touch) → IsWhole versions oldest chains queue → oldest < version → AreNoted version chains queue
newest_noted version oldest versions chains queue h l = each_chain (λ key rows. AllByRecursion (λ (r : Row). r.version ≡ version → IsIn (record { version = version; key = key }) queue) rows) chains h.sound.in_order (λ key. kept_noted version oldest queue key (rows_of chains key) l (h.queued.kept key))

pub whole_back : (version oldest : ℕ) (versions : List ℕ) (chains : List Chain) (queue rest : List Touch) → IsWhole (versions ++ version ∷ []) oldest chains queue → Notes version rest queue → AreTouchesBelow version rest → IsWhole versions oldest (without version chains) rest
whole_back version oldest versions chains queue rest h back below = record {
  sound = sound_back version versions chains h.sound;
  queued = record {
    in_order = order_front rest back.more (subst AreInOrder back.added h.queued.in_order);
    of = older_of version versions rest below (front_of version (λ (t : Touch). IsIn t.version (versions ++ version ∷ [])) rest queue back h.queued.of);
    kept = λ key. subst (AreRowsKept rest oldest key) (sym (rows_left version chains key h.sound.in_order)) (kept_cut version oldest queue rest key (rows_of chains key) (λ t i n. older_in version rest queue t back i n) (h.queued.kept key));
  };
}

-- ---- older versions are forgotten

pub whole_fallen : (old oldest : ℕ) (versions : List ℕ) (chains : List Chain) (a b : List Touch) → IsWhole versions old chains a → old ≤ oldest → Falls oldest a b → IsWhole versions oldest (all_forgotten oldest chains) b
whole_fallen old oldest versions chains a b h l falls = record {
  sound = record {
    versions_rise = h.sound.versions_rise;
    in_order = chains_kept oldest chains h.sound.in_order;
    known = of_kept oldest versions chains h.sound.known;
  };
  queued = record {
    in_order = order_behind falls.gone b (subst AreInOrder falls.split h.queued.in_order);
    of = (all_parts (λ (t : Touch). IsIn t.version versions) falls.gone b (subst (AllByRecursion (λ (t : Touch). IsIn t.version versions)) falls.split h.queued.of)).1;
    kept = λ key. subst (AreRowsKept b oldest key) (sym (rows_kept oldest chains key h.sound.in_order)) (kept_fallen old oldest a b key (rows_of chains key) (rows_rise key chains h.sound.in_order) l (λ t i m. falls_in oldest a b t falls i m) (h.queued.kept key));
  };
}
