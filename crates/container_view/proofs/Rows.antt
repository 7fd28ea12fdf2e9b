-- Worked examples: the definitions compute what they should.
use Rattle.std.proofs.Common.{◌≡◌, ℕ, ◌≤◌, Bool, true, false, ◌||◌, cond, inl, inr, subst, sym, is_some, List, [], ◌∷◌, Option, Some, None, refl, arith}
use Rattle.fb_bytes.specs.Bytes.{Bytes, is_below, is_same}
use Rattle.fb_bytes.specs.declared.KeyRange.{KeyRange}
use Rattle.fb_bytes.specs.declared.Pair.{Pair}
use Rattle.fb_bytes.specs.Keys.{holds}
use Rattle.fb_bytes.specs.Options.{IsIn, ◌>>=◌}
use Rattle.atomic_ops.specs.declared.Op.TheVariants.{Add}
use Rattle.atomic_ops.specs.Operation.{operation}
use Rattle.mutations.specs.declared.Mutation.{Mutation}
use Rattle.mutations.specs.declared.Mutation.TheVariants.{Set, ClearRange, Atomic}
use Rattle.mutations.specs.declared.Batch.{Batch}
use Rattle.mutations.specs.declared.Entry.{Entry}
use Rattle.mutations.specs.declared.Who.TheVariants.{Client}
use Rattle.mutations.specs.Histories.{logged}
use Rattle.container_view.specs.Folder.{RangeFile, LogFile, ManifestFile, Folder}
use Rattle.container_view.specs.Chain.{chain}
use Rattle.container_view.specs.Advertised.{is_advertised}
use Rattle.container_view.specs.Meaning.{Piece, means}
use Rattle.container_view.specs.Law.{Source, IsHonestRange, IsHonestLog, IsHonestManifest, IsHonest}
use Rattle.container_view.specs.Bounds.{reached, advertised_bounds}

abbrev n : Bytes
n = 110 ∷ []

abbrev a : Bytes
a = 97 ∷ []

abbrev z : Bytes
z = 122 ∷ []

abbrev p : Bytes
p = 112 ∷ []

range : Bytes → Bytes → KeyRange
range begin end = record { begin = begin; end = end }

whole : KeyRange
whole = range [] (255 ∷ [])

pair : Bytes → Bytes → Pair
pair key value = record { key = key; value = value }

entry : ℕ → ℕ → Mutation → Entry
entry version place m = record { version = version; who = Client 1 place; muts = m ∷ [] }

dumped : ℕ → Bytes → KeyRange → List Pair → RangeFile
dumped version name keys pairs = record { name = name; version = version; block = 256; content = Some (record { range = keys; pairs = pairs }) }

log : ℕ → ℕ → List Batch → LogFile
log begin end batches = record { name = begin ∷ end ∷ []; begin = begin; end = end; block = 256; content = Some batches }

sealed : ℕ → ℕ → List Bytes → ManifestFile
sealed begin end names = record { name = begin ∷ end ∷ []; begin = begin; end = end; content = Some names }

value : Folder → ℕ → Bytes → Option Bytes
value folder version key = means folder version >>= λ f. f key

-- ---- the smallest whole path: a set at 20, a dump at 20, a log from 10 to 21

smallest_history : List Entry
smallest_history = entry 20 1 (Set a (49 ∷ [])) ∷ []

smallest : Folder
smallest = record {
  ranges = dumped 20 (1 ∷ []) whole (pair a (49 ∷ []) ∷ []) ∷ [];
  logs = log 10 21 (logged smallest_history (whole ∷ []) 10 21) ∷ [];
  manifests = sealed 20 20 ((1 ∷ []) ∷ []) ∷ [];
  unreliable = 0;
}

smallest_means : value smallest 20 a ≡ Some (49 ∷ [])
unfolding is_below is_same value smallest smallest_history sealed log dumped entry pair whole range
smallest_means = refl

-- it has one restorable version
smallest_bounds : advertised_bounds smallest ≡ Some (record { least = 20; greatest = 20 })
unfolding is_below is_same smallest smallest_history sealed log dumped entry pair whole range
smallest_bounds = refl

smallest_reached : reached smallest.logs 10 ≡ 21
unfolding is_below is_same smallest smallest_history sealed log dumped entry pair whole range
smallest_reached = refl

-- none where the unreliable end is past it
smallest_expired : advertised_bounds (record smallest { unreliable = 21 }) ≡ None
unfolding is_below is_same smallest smallest_history sealed log dumped entry pair whole range
smallest_expired = refl

-- without its log the manifest's own version stays
smallest_alone : advertised_bounds (record smallest { logs = [] }) ≡ Some (record { least = 20; greatest = 20 })
unfolding is_below is_same smallest smallest_history sealed log dumped entry pair whole range
smallest_alone = refl

-- ---- a mutation at the range's version: two sums at 20 and 30, a dump at 20

sums_history : List Entry
sums_history = entry 20 1 (Atomic Add n (1 ∷ [])) ∷ entry 30 2 (Atomic Add n (1 ∷ [])) ∷ []

sums : Folder
sums = record {
  ranges = dumped 20 (1 ∷ []) whole (pair n (1 ∷ []) ∷ []) ∷ [];
  logs = log 10 31 (logged sums_history (whole ∷ []) 10 31) ∷ [];
  manifests = sealed 20 20 ((1 ∷ []) ∷ []) ∷ [];
  unreliable = 0;
}

sums_at_20 : value sums 20 n ≡ Some (1 ∷ [])
unfolding is_below is_same operation value sums sums_history sealed log dumped entry pair whole range
sums_at_20 = refl

sums_at_30 : value sums 30 n ≡ Some (2 ∷ [])
unfolding is_below is_same operation value sums sums_history sealed log dumped entry pair whole range
sums_at_30 = refl

sums_not_at_31 : is_advertised sums 31 ≡ false
unfolding is_below is_same sums sums_history sealed log dumped entry pair whole range
sums_not_at_31 = refl

sums_not_at_19 : is_advertised sums 19 ≡ false
unfolding is_below is_same sums sums_history sealed log dumped entry pair whole range
sums_not_at_19 = refl

sums_bounds : advertised_bounds sums ≡ Some (record { least = 20; greatest = 30 })
unfolding is_below is_same sums sums_history sealed log dumped entry pair whole range
sums_bounds = refl

-- ---- a gap of one version breaks a chain, and the bound on links costs nothing

gap : Folder
gap = record { ranges = []; logs = log 10 20 [] ∷ log 21 31 [] ∷ []; manifests = []; unreliable = 0 }

no_chain : chain gap 10 31 ≡ None
unfolding gap log
no_chain = refl

no_chain_far : chain gap 10 4611686018427387904 ≡ None
unfolding gap log
no_chain_far = refl

gap_reached : reached gap.logs 10 ≡ 20
unfolding gap log
gap_reached = refl

-- ---- a clear across two ranges, dumped at 20 and 40

clear_history : List Entry
clear_history = entry 20 1 (Set (99 ∷ []) (49 ∷ [])) ∷ entry 30 2 (ClearRange (98 ∷ []) (120 ∷ [])) ∷ entry 40 3 (Set p (50 ∷ [])) ∷ []

clear : Folder
clear = record {
  ranges = dumped 20 (1 ∷ []) (range a (109 ∷ [])) (pair (99 ∷ []) (49 ∷ []) ∷ []) ∷ dumped 40 (2 ∷ []) (range (109 ∷ []) z) (pair p (50 ∷ []) ∷ []) ∷ [];
  logs = log 10 41 (logged clear_history (range a z ∷ []) 10 41) ∷ [];
  manifests = sealed 20 40 ((1 ∷ []) ∷ (2 ∷ []) ∷ []) ∷ [];
  unreliable = 0;
}

c_is_gone : value clear 40 (99 ∷ []) ≡ None
unfolding is_below is_same operation value clear clear_history sealed log dumped entry pair range
c_is_gone = refl

p_is_there : value clear 40 p ≡ Some (50 ∷ [])
unfolding is_below is_same operation value clear clear_history sealed log dumped entry pair range
p_is_there = refl

-- no other version is advertised
clear_bounds : advertised_bounds clear ≡ Some (record { least = 40; greatest = 40 })
unfolding is_below is_same clear clear_history sealed log dumped entry pair range
clear_bounds = refl

-- ---- the folder of the two sums is honest, so the premise of the law can be met

sums_source : Source
sums_source = record { history = sums_history; now = 30; ranges = whole ∷ []; block = 256 }

some_or : (b : Bool) (x : Piece) → is_some (cond b (Some x) None) ≡ (b || false)
some_or true x = refl
some_or false x = refl

one_in : {X : Type 0} (P : X → Type 0) (x y : X) → P x → IsIn y (x ∷ []) → P y
one_in P x y h (inl e) = subst P (sym e) h
one_in P x y h (inr i) = absurd i

sums_range : (f : RangeFile) → IsIn f sums.ranges → IsHonestRange sums_source f
unfolding sums_source sums sums_history dumped entry pair whole range operation
sums_range f = one_in (IsHonestRange sums_source) _ f (record { past = omega arith; block = refl; body = _; content = refl; state = λ key h. refl })

sums_log : (f : LogFile) → IsIn f sums.logs → IsHonestLog sums_source f
unfolding sums_source sums sums_history log entry whole range
sums_log f = one_in (IsHonestLog sums_source) _ f (record { past = omega arith; block = refl; content = refl })

sums_manifest : (f : ManifestFile) → IsIn f sums.manifests → sums.unreliable ≤ f.begin → IsHonestManifest sums_source sums.ranges f
unfolding is_below is_same sums_source sums sums_history dumped sealed entry pair whole range
sums_manifest f i u = one_in (IsHonestManifest sums_source sums.ranges) _ f (record {
  names = (1 ∷ []) ∷ [];
  content = refl;
  pieces = record { version = 20; range = whole; pairs = record { key = n; value = 1 ∷ [] } ∷ [] } ∷ [];
  named = refl;
  spans = record { within = λ p j. one_in (λ p. (20 ≤ p.version) × (p.version ≤ 20)) _ p (omega arith, omega arith) j; least = (_, inl refl, refl); greatest = (_, inl refl, refl) };
  disjoint = refl;
  cover = λ key. some_or (holds whole key) _;
}) i

sums_honest : IsHonest sums_source sums
unfolding sums_source sums_history entry sums
sums_honest = record {
  rising = ((omega arith, tt), (tt, tt));
  past = (omega arith, (omega arith, tt));
  ranges = sums_range;
  logs = sums_log;
  manifests = sums_manifest;
}
