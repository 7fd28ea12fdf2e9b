-- The container law.
use Rattle.std.proofs.Common.{◌≡◌, ℕ, ◌+◌, ◌-◌, ◌≤◌, max, Bool, true, false, ◌&&◌, ◌||◌, cond, List, [], ◌∷◌, Option, Some, None, is_some, inl, inr, refl, sym, ap, ◌∙◌, subst, arith, ◌==◌}
use Rattle.std.proofs.lemmas.Bool.{and_parts, leb-true, eqb-true}
use Rattle.fb_bytes.specs.Bytes.{Bytes, is_same}
use Rattle.fb_bytes.specs.Keys.{holds, in_ranges}
use Rattle.fb_bytes.specs.Options.{IsIn, ◌>>=◌, each_of}
use Rattle.fb_bytes.specs.Pairs.{value_of}
use Rattle.block_frame.specs.Profiles.{limit_of}
use Rattle.mutations.specs.Replay.{replayed}
use Rattle.mutations.specs.Histories.{batches_of, state_at}
use Rattle.mutations.proofs.Basics.{not_both}
use Rattle.mutations.proofs.Replays.{replayed_empty, replayed_join}
use Rattle.container_view.specs.Folder.{RangeFile, ManifestFile, Folder}
use Rattle.container_view.specs.Chain.{LogLink, chain}
use Rattle.container_view.specs.Advertised.{gives, manifest_beats, chosen, is_advertised}
use Rattle.container_view.specs.Meaning.{Piece, read_range, piece_named, Part, read_chain, replayed_parts, piece_of, value_at, are_disjoint, needed}
use Rattle.container_view.specs.Law.{Source, IsHonestRange, IsHonestManifest, IsHonest, true_value, IsFaithfulAt, ContainerLaw}
use Rattle.container_view.proofs.Basics.{each_of_in, best_of_in}
use Rattle.container_view.proofs.Chains.{links_read}

pub some_of : {A : Type 0} (o : Option A) → is_some o ≡ true → (x : A) × (o ≡ Some x)
some_of None e = not_both e refl
some_of (Some x) e = (x, refl)

-- ---- pieces

pub named_in : (files : List RangeFile) (name : Bytes) (p : Piece) → piece_named files name ≡ Some p → (f : RangeFile) × IsIn f files × (read_range f ≡ Some p)
named_in [] name p e = cc
named_in (f ∷ fs) name p e = go (is_same f.name name) (named_in fs name p) e
  where
    go : (b : Bool) → (piece_named fs name ≡ Some p → (g : RangeFile) × IsIn g fs × (read_range g ≡ Some p)) → cond b (read_range f) (piece_named fs name) ≡ Some p → (g : RangeFile) × IsIn g (f ∷ fs) × (read_range g ≡ Some p)
    go true ih e = (f, inl refl, e)
    go false ih e = let r = ih e in (r.0, inr r.1, r.2)

pub piece_of_in : (pieces : List Piece) (key : Bytes) (p : Piece) → piece_of pieces key ≡ Some p → IsIn p pieces × (holds p.range key ≡ true)
piece_of_in [] key p e = cc
piece_of_in (q ∷ qs) key p e = go (holds q.range key) refl (piece_of_in qs key p) e
  where
    go : (b : Bool) → holds q.range key ≡ b → (piece_of qs key ≡ Some p → IsIn p qs × (holds p.range key ≡ true)) → cond b (Some q) (piece_of qs key) ≡ Some p → IsIn p (q ∷ qs) × (holds p.range key ≡ true)
    go true h ih e = let s : p ≡ q = cc in (inl s, ap (λ x. holds x.range key) s ∙ h)
    go false h ih e = let r = ih e in (inr r.0, r.1)

pub needed_is : (folder : Folder) (v : ℕ) (m : ManifestFile) (names : List Bytes) (pieces : List Piece) (parts : List Part) → chosen folder v ≡ Some m → m.content ≡ Some names → each_of (piece_named folder.ranges) names ≡ Some pieces → read_chain (chain folder m.begin (v + 1)) ≡ Some parts → are_disjoint pieces ≡ true → needed folder v ≡ Some (record { pieces = pieces; parts = parts })
needed_is folder v m names pieces parts a b c d e = rw (a, b, c, d, e) refl

module _ (s : Source) (folder : Folder) (honest : IsHonest s folder) where
  -- what a piece of an honest range file has
  record Dumped (p : Piece) : Type 0 where
    past : p.version ≤ s.now
    state : (key : Bytes) → holds p.range key ≡ true → value_of p.pairs key ≡ state_at (limit_of s.block) s.history p.version key

  file_dumped : (f : RangeFile) → IsHonestRange s f → (p : Piece) → read_range f ≡ Some p → Dumped p
  file_dumped f h p e =
      let d : Some (record { version = f.version; range = h.body.range; pairs = h.body.pairs }) ≡ Some p = sym (ap (λ c. c >>= λ body. Some (record { version = f.version; range = body.range; pairs = body.pairs })) h.content) ∙ e in
      let q : record { version = f.version; range = h.body.range; pairs = h.body.pairs } ≡ p = cc in
      subst Dumped q (record { past = h.past; state = h.state })

  pieces_dumped : (names : List Bytes) (pieces : List Piece) → each_of (piece_named folder.ranges) names ≡ Some pieces → (p : Piece) → IsIn p pieces → Dumped p
  pieces_dumped names pieces e p i =
      let n = each_of_in (piece_named folder.ranges) names pieces e p i in
      let f = named_in folder.ranges n.0 p n.2 in
      file_dumped f.0 (honest.ranges f.0 f.1) p f.2

  -- what the chain's parts do
  record Replays (m : ManifestFile) (v : ℕ) (o : Option (List LogLink)) : Type 0 where
    parts : List Part
    read : read_chain o ≡ Some parts
    past : v ≤ s.now
    same : (key : Bytes) → in_ranges s.ranges key ≡ true → (version : ℕ) (old : Option Bytes) → m.begin ≤ version → version ≤ v → replayed_parts parts (version + 1) (v + 1) key old ≡ replayed (limit_of s.block) (batches_of s.history) (version + 1) (v + 1) key old

  replays : (m : ManifestFile) (v : ℕ) → m.end ≤ v → m.begin ≤ m.end → m.end ≤ s.now → (o : Option (List LogLink)) → chain folder m.begin (v + 1) ≡ o → (is_some o || (m.begin == v && m.end == v)) ≡ true → Replays m v o
  replays m v le be now None e t =
      let q = and_parts (m.begin == v) (m.end == v) t in
      let b : m.begin ≡ v = eqb-true _ _ q.0 in
      let n : m.end ≡ v = eqb-true _ _ q.1 in
      record {
        parts = [];
        read = refl;
        past = omega arith;
        same = λ key i version old l g. sym (replayed_empty (limit_of s.block) key (batches_of s.history) (version + 1) (v + 1) old (omega arith));
      }
  replays m v le be now (Some ls) e t =
      let r = links_read s folder.logs honest.rising honest.logs (v + 1 - m.begin) m.begin (v + 1) ls e in
      record {
        parts = r.parts;
        read = r.read;
        past = let h = r.ends (omega arith) in omega arith;
        same = λ key i version old l g. r.same key i (version + 1) old ∙ (let x : max m.begin (version + 1) ≡ version + 1 = omega arith in ap (λ a. replayed (limit_of s.block) (batches_of s.history) a (v + 1) key old) x);
      }

  value_same : (m : ManifestFile) (v : ℕ) (h : IsHonestManifest s folder.ranges m) → m.end ≤ v → (r : Replays m v (chain folder m.begin (v + 1))) → (key : Bytes) → value_at h.pieces r.parts v key ≡ true_value s v key
  value_same m v h le r key = go (piece_of h.pieces key) refl
    where
      go : (o : Option Piece) → piece_of h.pieces key ≡ o → (o >>= λ p. replayed_parts r.parts (p.version + 1) (v + 1) key (value_of p.pairs key)) ≡ true_value s v key
      go None e = ap (λ b. cond b (state_at (limit_of s.block) s.history v key) None) (ap is_some (sym e) ∙ h.cover key)
      go (Some p) e =
          let i : in_ranges s.ranges key ≡ true = sym (h.cover key) ∙ ap is_some e in
          let q = piece_of_in h.pieces key p e in
          let d = pieces_dumped h.names h.pieces h.named p q.0 in
          let w = h.spans.within p q.0 in
          r.same key i p.version _ w.0 (omega arith)
          ∙ ap (replayed (limit_of s.block) (batches_of s.history) (p.version + 1) (v + 1) key) (d.state key q.1)
          ∙ replayed_join (limit_of s.block) key (batches_of s.history) 0 (p.version + 1) (v + 1) None honest.rising (omega arith) (omega arith)
          ∙ ap (λ b. cond b (state_at (limit_of s.block) s.history v key) None) (sym i)

  faithful_by : (v : ℕ) (m : ManifestFile) → chosen folder v ≡ Some m → IsIn m folder.manifests → m.end ≤ v → folder.unreliable ≤ m.begin → (is_some (chain folder m.begin (v + 1)) || (m.begin == v && m.end == v)) ≡ true → IsFaithfulAt s folder v
  faithful_by v m e i le reliable t =
      let h = honest.manifests m i reliable in
      let p = h.spans.greatest in
      let w = h.spans.within p.0 p.1 in
      let d = pieces_dumped h.names h.pieces h.named p.0 p.1 in
      let past = d.past in
      let r = replays m v le (omega arith) (omega arith) (chain folder m.begin (v + 1)) refl t in
      record {
        past = r.past;
        meaning = value_at h.pieces r.parts v;
        defined = ap (λ o. o >>= λ n. Some (value_at n.pieces n.parts v)) (needed_is folder v m h.names h.pieces r.parts e h.content h.named r.read h.disjoint);
        same = value_same m v h le r;
      }

  faithful : (v : ℕ) → is_advertised folder v ≡ true → IsFaithfulAt s folder v
  faithful v a =
      let c = some_of (chosen folder v) a in
      let b = best_of_in (gives folder v) manifest_beats folder.manifests c.0 c.1 in
      let g = and_parts _ _ b.0 in
      let l = and_parts _ _ g.0 in
      faithful_by v c.0 c.1 b.1 (leb-true _ _ l.0) (leb-true _ _ l.1) g.1

pub container_law : ContainerLaw
container_law s folder h = record { each = faithful s folder h }
