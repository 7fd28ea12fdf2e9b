-- Honest files stay honest.
use Rattle.std.proofs.Common.{◌≡◌, ℕ, ◌+◌, ◌<◌, ◌≤◌, Bool, true, false, cond, List, [], ◌∷◌, ◌++◌, Option, Some, None, ◌⊎◌, inl, inr, ⊎_elim, refl, sym, ap, ◌∙◌, subst, arith}
use Rattle.std.specs.List.{AllByRecursion}
use Rattle.fb_bytes.specs.Bytes.{Bytes, is_same}
use Rattle.fb_bytes.specs.declared.KeyRange.{KeyRange}
use Rattle.fb_bytes.specs.Keys.{in_ranges}
use Rattle.fb_bytes.specs.Options.{IsIn, each_of}
use Rattle.block_frame.specs.Profiles.{limit_of}
use Rattle.mutations.specs.declared.Batch.{Batch}
use Rattle.mutations.specs.declared.Entry.{Entry}
use Rattle.mutations.specs.Replay.{replayed}
use Rattle.mutations.specs.Histories.{batch_of, batches_of, IsRising, state_at, logged}
use Rattle.mutations.proofs.Basics.{all_weaker}
use Rattle.std.proofs.lemmas.Bool.{false_from_ne_true}
use Rattle.fb_bytes.proofs.Order.{same_eq}
use Rattle.mutations.proofs.Replays.{replayed_none, above_within, replayed_append}
use Rattle.container_view.specs.Folder.{RangeFile, LogFile, ManifestFile, Folder}
use Rattle.container_view.specs.Meaning.{Piece, read_range, piece_named}
use Rattle.container_view.specs.Law.{Source, IsHonestRange, IsHonestLog, IsHonestManifest, IsHonest}
use Rattle.container_view.specs.Changes.{Inserts, Grows, PutRange, PutLog, PutManifest, Raise, DropRange, DropUnlisted, DropLog, DropManifest, GrowthLaw, ChangeLaw, Reaches, Opens, Waits, Works, LifeLaw}
use Rattle.fb_bytes.proofs.Options.{bind_some}
use Rattle.container_view.proofs.Faithful.{container_law}

-- ---- lists

pub all_append : {X : Type 0} (P : X → Type 0) (xs ys : List X) → AllByRecursion P xs → AllByRecursion P ys → AllByRecursion P (xs ++ ys)
all_append P [] ys h g = g
all_append P (x ∷ xs) ys h g = (h.0, all_append P xs ys h.1 g)

pub in_inserted : {X : Type 0} (x y : X) (xs ys : List X) → IsIn y (xs ++ x ∷ ys) → (y ≡ x) ⊎ IsIn y (xs ++ ys)
in_inserted x y [] ys (inl e) = inl e
in_inserted x y [] ys (inr i) = inr i
in_inserted x y (z ∷ xs) ys (inl e) = inr (inl e)
in_inserted x y (z ∷ xs) ys (inr i) = ⊎_elim (λ e. inl e) (λ j. inr (inr j)) (in_inserted x y xs ys i)

pub in_fewer : {X : Type 0} (x y : X) (xs ys : List X) → IsIn y (xs ++ ys) → IsIn y (xs ++ x ∷ ys)
in_fewer x y [] ys i = inr i
in_fewer x y (z ∷ xs) ys (inl e) = inl e
in_fewer x y (z ∷ xs) ys (inr i) = inr (in_fewer x y xs ys i)

-- what holds of each element, after one more and after one less
pub each_more : {X : Type 0} (P : X → Type 0) (x : X) (few many : List X) → Inserts x few many → P x → ((y : X) → IsIn y few → P y) → (y : X) → IsIn y many → P y
each_more P x few many n p h y i =
    ⊎_elim (λ e. subst P (sym e) p) (λ j. h y (subst (IsIn y) (sym n.few_is) j)) (in_inserted x y n.before n.after (subst (IsIn y) n.many_is i))

pub each_less : {X : Type 0} (P : X → Type 0) (x : X) (few many : List X) → Inserts x few many → ((y : X) → IsIn y many → P y) → (y : X) → IsIn y few → P y
each_less P x few many n h y i = h y (subst (IsIn y) (sym n.many_is) (in_fewer x y n.before n.after (subst (IsIn y) n.few_is i)))

-- ---- a longer history

batches_append : (xs ys : List Entry) → batches_of (xs ++ ys) ≡ batches_of xs ++ batches_of ys
batches_append [] ys = refl
batches_append (x ∷ xs) ys = ap (λ (bs : List Batch). batch_of x ∷ bs) (batches_append xs ys)

all_batches : (P : ℕ → Type 0) (xs : List Entry) → AllByRecursion (λ x. P x.version) xs → AllByRecursion (λ x. P x.version) (batches_of xs)
all_batches P [] h = tt
all_batches P (x ∷ xs) h = (h.0, all_batches P xs h.1)

pub rising_append : (xs ys : List Entry) (now : ℕ) → IsRising xs → AllByRecursion (λ x. x.version ≤ now) xs → IsRising ys → AllByRecursion (λ y. now < y.version) ys → IsRising (xs ++ ys)
rising_append [] ys now a b c d = c
rising_append (x ∷ xs) ys now a b c d =
    let h = b.0 in
    let later = all_batches (λ v. x.version < v) ys (all_weaker (λ y. now < y.version) (λ y. x.version < y.version) (λ y k. omega arith) ys d) in
    (subst (AllByRecursion (λ y. x.version < y.version)) (sym (batches_append xs ys)) (all_append (λ y. x.version < y.version) (batches_of xs) (batches_of ys) a.0 later), rising_append xs ys now a.1 b.1 c d)

-- later entries are past the span
replayed_later : (limit : ℕ) (key : Bytes) (xs ys : List Entry) (now a b : ℕ) (old : Option Bytes) → AllByRecursion (λ y. now < y.version) ys → b ≤ now + 1 → replayed limit (batches_of (xs ++ ys)) a b key old ≡ replayed limit (batches_of xs) a b key old
replayed_later limit key xs ys now a b old h l =
    ap (λ bs. replayed limit bs a b key old) (batches_append xs ys)
    ∙ replayed_append limit key (batches_of xs) (batches_of ys) a b old
    ∙ replayed_none limit key (batches_of ys) a b _ (all_weaker (λ (y : Batch). now < y.version) _ (λ y k. above_within a b y.version (omega arith)) (batches_of ys) (all_batches (λ v. now < v) ys h))

pub logged_none : (ranges : List KeyRange) (ys : List Entry) (now a b : ℕ) → AllByRecursion (λ y. now < y.version) ys → b ≤ now + 1 → logged ys ranges a b ≡ []
logged_none ranges [] now a b h l = refl
logged_none ranges (y ∷ ys) now a b h l = let k = h.0 in let e = above_within a b y.version (omega arith) in rw e (logged_none ranges ys now a b h.1 l)

pub logged_later : (ranges : List KeyRange) (xs ys : List Entry) (now a b : ℕ) → AllByRecursion (λ y. now < y.version) ys → b ≤ now + 1 → logged (xs ++ ys) ranges a b ≡ logged xs ranges a b
logged_later ranges [] ys now a b h l = logged_none ranges ys now a b h l
logged_later ranges (x ∷ xs) ys now a b h l = rw (logged_later ranges xs ys now a b h l) refl

module _ where

pub grown_range : (old new : Source) → Grows old new → (file : RangeFile) → IsHonestRange old file → IsHonestRange new file
grown_range old new g file h =
    let a = h.past in
    let b = g.now in
    record {
      past = omega arith;
      block = h.block ∙ sym g.block;
      body = h.body;
      content = h.content;
      state = λ key i. h.state key i ∙ sym (
          ap (λ b. state_at (limit_of b) new.history file.version key) g.block
          ∙ ap (λ x. state_at (limit_of old.block) x file.version key) g.history
          ∙ replayed_later (limit_of old.block) key old.history g.later old.now 0 (file.version + 1) None (all_weaker _ (λ y. old.now < y.version) (λ y k. k.0) g.later g.between) (omega arith));
    }

pub grown_log : (old new : Source) → Grows old new → (file : LogFile) → IsHonestLog old file → IsHonestLog new file
grown_log old new g file h =
    let a = h.past in
    let b = g.now in
    record {
      past = omega arith;
      block = h.block ∙ sym g.block;
      content = h.content ∙ ap Some (sym (
          ap (λ r. logged new.history r file.begin file.end) g.ranges
          ∙ ap (λ x. logged x old.ranges file.begin file.end) g.history
          ∙ logged_later old.ranges old.history g.later old.now file.begin file.end (all_weaker _ (λ y. old.now < y.version) (λ y k. k.0) g.later g.between) a));
    }

pub grown_manifest : (old new : Source) → Grows old new → (ranges : List RangeFile) (file : ManifestFile) → IsHonestManifest old ranges file → IsHonestManifest new ranges file
grown_manifest old new g ranges file h = record {
  names = h.names;
  content = h.content;
  pieces = h.pieces;
  named = h.named;
  spans = h.spans;
  disjoint = h.disjoint;
  cover = λ key. h.cover key ∙ ap (λ r. in_ranges r key) (sym g.ranges);
}

pub grown : (old new : Source) (folder : Folder) → Grows old new → IsHonest old folder → IsHonest new folder
grown old new folder g h =
    let later = all_weaker _ (λ y. old.now < y.version) (λ y k. k.0) g.later g.between in
    let n = g.now in
    record {
      rising = subst IsRising (sym g.history) (rising_append old.history g.later old.now h.rising h.past g.rising later);
      past = subst (AllByRecursion (λ x. x.version ≤ new.now)) (sym g.history) (all_append _ old.history g.later (all_weaker _ (λ x. x.version ≤ new.now) (λ x k. omega arith) old.history h.past) (all_weaker _ (λ x. x.version ≤ new.now) (λ y k. k.1) g.later g.between));
      ranges = λ file i. grown_range old new g file (h.ranges file i);
      logs = λ file i. grown_log old new g file (h.logs file i);
      manifests = λ file i u. grown_manifest old new g folder.ranges file (h.manifests file i u);
    }

pub growth_law : GrowthLaw
growth_law = grown

-- ---- one file more or less

pub named_fresh : (files : List RangeFile) (name : Bytes) (p : Piece) → AllByRecursion (λ f. is_same f.name name ≡ false) files → piece_named files name ≡ Some p → ⊥
named_fresh [] name p h e = cc
named_fresh (f ∷ fs) name p h e = named_fresh fs name p h.1 (rw h.0 at e)

pub named_more : (file : RangeFile) (before after : List RangeFile) (name : Bytes) (p : Piece) → AllByRecursion (λ f. is_same f.name file.name ≡ false) (before ++ after) → piece_named (before ++ after) name ≡ Some p → piece_named (before ++ file ∷ after) name ≡ Some p
named_more file [] after name p h e = go (is_same file.name name) refl
  where
    go : (b : Bool) → is_same file.name name ≡ b → cond b (read_range file) (piece_named after name) ≡ Some p
    go true s = absurd (named_fresh after name p (subst (λ n. AllByRecursion (λ f. is_same f.name n ≡ false) after) (same_eq file.name name s) h) e)
    go false s = e
named_more file (f ∷ fs) after name p h e = go (is_same f.name name) (named_more file fs after name p h.1) e
  where
    go : (b : Bool) → (piece_named (fs ++ after) name ≡ Some p → piece_named (fs ++ file ∷ after) name ≡ Some p) → cond b (read_range f) (piece_named (fs ++ after) name) ≡ Some p → cond b (read_range f) (piece_named (fs ++ file ∷ after) name) ≡ Some p
    go true ih e = e
    go false ih e = ih e

pub read_version : (f : RangeFile) (p : Piece) → read_range f ≡ Some p → p.version ≡ f.version
read_version f p e =
    let d = bind_some f.content _ p e in
    let q : record { version = f.version; range = d.0.range; pairs = d.0.pairs } ≡ p = cc (d.2) in
    ap (λ x. x.version) (sym q)

pub named_less : (file : RangeFile) (before after : List RangeFile) (name : Bytes) (p : Piece) → file.version < p.version → piece_named (before ++ file ∷ after) name ≡ Some p → piece_named (before ++ after) name ≡ Some p
named_less file [] after name p l e = go (is_same file.name name) e
  where
    go : (b : Bool) → cond b (read_range file) (piece_named after name) ≡ Some p → piece_named after name ≡ Some p
    go true s = let v = read_version file p s in absurd (omega arith)
    go false s = s
named_less file (f ∷ fs) after name p l e = go (is_same f.name name) (named_less file fs after name p l) e
  where
    go : (b : Bool) → (piece_named (fs ++ file ∷ after) name ≡ Some p → piece_named (fs ++ after) name ≡ Some p) → cond b (read_range f) (piece_named (fs ++ file ∷ after) name) ≡ Some p → cond b (read_range f) (piece_named (fs ++ after) name) ≡ Some p
    go true ih e = e
    go false ih e = ih e

pub each_of_cons : {A B : Type 0} (g : A → Option B) (x : A) (xs : List A) (y : B) (ys : List B) → g x ≡ Some y → each_of g xs ≡ Some ys → each_of g (x ∷ xs) ≡ Some (y ∷ ys)
each_of_cons g x xs y ys h k = rw (h, k) refl

-- where each result stays, all of them stay
each_of_kept : {A B : Type 0} (f g : A → Option B) (xs : List A) (ys : List B) → ((x : A) (y : B) → IsIn x xs → IsIn y ys → f x ≡ Some y → g x ≡ Some y) → each_of f xs ≡ Some ys → each_of g xs ≡ Some ys
each_of_kept f g [] ys h e = e
each_of_kept f g (x ∷ xs) ys h e =
    let y = bind_some (f x) _ ys e in
    let zs = bind_some (each_of f xs) _ ys y.2 in
    let n : ys ≡ y.0 ∷ zs.0 = cc (zs.2) in
    let first = h x y.0 (inl refl) (subst (IsIn y.0) (sym n) (inl refl)) y.1 in
    let rest = each_of_kept f g xs zs.0 (λ w z j i. h w z (inr j) (subst (IsIn z) (sym n) (inr i))) zs.1 in
    each_of_cons g x xs y.0 zs.0 first rest ∙ ap Some (sym n)

pub manifest_kept : (s : Source) (old new : List RangeFile) (file : ManifestFile) (h : IsHonestManifest s old file) → ((name : Bytes) (p : Piece) → IsIn name h.names → IsIn p h.pieces → piece_named old name ≡ Some p → piece_named new name ≡ Some p) → IsHonestManifest s new file
manifest_kept s old new file h k = record {
  names = h.names;
  content = h.content;
  pieces = h.pieces;
  named = each_of_kept (piece_named old) (piece_named new) h.names h.pieces k h.named;
  spans = h.spans;
  disjoint = h.disjoint;
  cover = h.cover;
}

pub manifest_more : (s : Source) (range : RangeFile) (old new : List RangeFile) → Inserts range old new → AllByRecursion (λ f. is_same f.name range.name ≡ false) old → (file : ManifestFile) → IsHonestManifest s old file → IsHonestManifest s new file
manifest_more s range old new n fresh file h =
    manifest_kept s old new file h (λ name p j i e. subst (λ l. piece_named l name ≡ Some p) (sym n.many_is)
    (named_more range n.before n.after name p (subst (AllByRecursion (λ f. is_same f.name range.name ≡ false)) n.few_is fresh) (subst (λ l. piece_named l name ≡ Some p) n.few_is e)))

pub manifest_less : (s : Source) (range : RangeFile) (old new : List RangeFile) → Inserts range new old → (file : ManifestFile) → range.version < file.begin → IsHonestManifest s old file → IsHonestManifest s new file
manifest_less s range old new n file l h =
    manifest_kept s old new file h (λ name p j i e. subst (λ l. piece_named l name ≡ Some p) (sym n.few_is)
    (let w = (h.spans.within p i).0 in named_less range n.before n.after name p (omega arith) (subst (λ l. piece_named l name ≡ Some p) n.many_is e)))

-- a file under another name doesn't matter
named_beside : (file : RangeFile) (before after : List RangeFile) (name : Bytes) → is_same file.name name ≡ false → piece_named (before ++ file ∷ after) name ≡ piece_named (before ++ after) name
named_beside file [] after name e = ap (λ b. cond b (read_range file) (piece_named after name)) e
named_beside file (f ∷ fs) after name e = ap (cond (is_same f.name name) (read_range f)) (named_beside file fs after name e)

pub manifest_beside : (s : Source) (range : RangeFile) (old new : List RangeFile) → Inserts range new old → (file : ManifestFile) → ((names : List Bytes) → file.content ≡ Some names → IsIn range.name names → ⊥) → IsHonestManifest s old file → IsHonestManifest s new file
manifest_beside s range old new n file unlisted h =
    manifest_kept s old new file h (λ name p j i e.
    let other : is_same range.name name ≡ false = false_from_ne_true (is_same range.name name) (λ s. unlisted h.names h.content (subst (λ x. IsIn x h.names) (sym (same_eq range.name name s)) j)) in
    ap (λ l. piece_named l name) n.few_is ∙ sym (ap (λ l. piece_named l name) n.many_is ∙ named_beside range n.before n.after name other) ∙ e)

-- what the fields of an honest container's folder owe, one by one
pub change_law : ChangeLaw
change_law s old new (PutRange file ranges good fresh n e) h = subst (IsHonest s) (sym e) (record {
  rising = h.rising;
  past = h.past;
  logs = h.logs;
  ranges = each_more (IsHonestRange s) file old.ranges ranges n good h.ranges;
  manifests = λ m i u. manifest_more s file old.ranges ranges n fresh m (h.manifests m i u);
})
change_law s old new (PutLog file logs good n e) h = subst (IsHonest s) (sym e) (record {
  rising = h.rising;
  past = h.past;
  ranges = h.ranges;
  manifests = h.manifests;
  logs = each_more (IsHonestLog s) file old.logs logs n good h.logs;
})
change_law s old new (PutManifest file manifests good n e) h = subst (IsHonest s) (sym e) (record {
  rising = h.rising;
  past = h.past;
  ranges = h.ranges;
  logs = h.logs;
  manifests = each_more (λ m. old.unreliable ≤ m.begin → IsHonestManifest s old.ranges m) file old.manifests manifests n good h.manifests;
})
change_law s old new (Raise end l e) h = subst (IsHonest s) (sym e) (record {
  rising = h.rising;
  past = h.past;
  ranges = h.ranges;
  logs = h.logs;
  manifests = λ m i u. h.manifests m i (omega arith);
})
change_law s old new (DropRange file ranges l n e) h = subst (IsHonest s) (sym e) (record {
  rising = h.rising;
  past = h.past;
  logs = h.logs;
  ranges = each_less (IsHonestRange s) file ranges old.ranges n h.ranges;
  manifests = λ m i u. manifest_less s file old.ranges ranges n m (omega arith) (h.manifests m i u);
})
change_law s old new (DropUnlisted file ranges unlisted n e) h = subst (IsHonest s) (sym e) (record {
  rising = h.rising;
  past = h.past;
  logs = h.logs;
  ranges = each_less (IsHonestRange s) file ranges old.ranges n h.ranges;
  manifests = λ m i u. manifest_beside s file old.ranges ranges n m (λ names c j. unlisted m names i c j) (h.manifests m i u);
})
change_law s old new (DropLog file logs n e) h = subst (IsHonest s) (sym e) (record {
  rising = h.rising;
  past = h.past;
  ranges = h.ranges;
  manifests = h.manifests;
  logs = each_less (IsHonestLog s) file logs old.logs n h.logs;
})
change_law s old new (DropManifest file manifests n e) h = subst (IsHonest s) (sym e) (record {
  rising = h.rising;
  past = h.past;
  ranges = h.ranges;
  logs = h.logs;
  manifests = each_less (λ m. old.unreliable ≤ m.begin → IsHonestManifest s old.ranges m) file manifests old.manifests n h.manifests;
})

-- ---- the life of a container

pub always_honest : {s : Source} {folder : Folder} → Reaches s folder → IsHonest s folder
always_honest (Opens s rising past) = record {
  rising = rising;
  past = past;
  ranges = λ f i. absurd i;
  logs = λ f i. absurd i;
  manifests = λ f i. absurd i;
}
always_honest (Waits {old = old} {folder = folder} new r g) = growth_law old new folder g (always_honest r)
always_honest (Works {s = s} {old = old} new r c) = change_law s old new c (always_honest r)

pub life_law : LifeLaw
life_law s folder r = container_law s folder (always_honest r)
