-- The manifest of noted files that are there is honest.
use Rattle.std.proofs.Common.{◌≡◌, ◌≢◌, ◌≤◌, Bool, true, false, not, ◌&&◌, ◌||◌, cond, List, [], ◌∷◌, Option, Some, None, is_some, inl, inr, refl, sym, ap, ◌∙◌, subst, arith, ◌⊎◌}
use Rattle.std.specs.List.{AllByRecursion}
use Rattle.fb_bytes.specs.Bytes.{Bytes, is_below}
use Rattle.fb_bytes.specs.declared.KeyRange.{KeyRange}
use Rattle.fb_bytes.specs.Keys.{holds, in_ranges}
use Rattle.fb_bytes.specs.Options.{IsIn, ◌>>=◌, each_of}
use Rattle.fb_bytes.proofs.Order.{below_not_back, not_both}
use Rattle.snapshot_plan.specs.declared.Noted.{Noted}
use Rattle.snapshot_plan.specs.Noted.{pieces_of, placed, with_name, names_of, manifest_of}
use Rattle.snapshot_plan.specs.Pieces.{BeginFrom, ArePieces, IsFirstOrNone}
use Rattle.snapshot_plan.proofs.Walking.{piece_law, proper, at_most_trans}
use Rattle.snapshot_plan.proofs.Manifests.{placed_cases, manifest_law, files_are}
use Rattle.container_view.specs.Folder.{RangeFile, ManifestFile}
use Rattle.container_view.specs.Meaning.{Piece, piece_named, overlaps, overlaps_any, are_disjoint, piece_of}
use Rattle.container_view.specs.Law.{Spans}
use Rattle.backup_core.specs.Manifests.{NotedThere, TilingLaw, SaysNoted, HonestManifestLaw}

-- ---- no gap

pub from_not : (b : Bool) → not b ≡ false → b ≡ true
from_not true h = refl
from_not false h = not_both refl h

alike : (a b : Bool) → (a ≡ true → b ≡ true) → (b ≡ true → a ≡ true) → a ≡ b
alike true b f g = sym (f refl)
alike false true f g = g refl
alike false false f g = refl

pub tiling_law : TilingLaw
tiling_law ranges noted separate pieces inside none key =
    let first = subst (IsFirstOrNone (in_ranges ranges) (λ k. not (in_ranges (pieces_of noted) k))) none (piece_law.gap ranges (pieces_of noted) separate pieces) in
    alike (in_ranges (pieces_of noted) key) (in_ranges ranges key) (inside key) (λ h. from_not (in_ranges (pieces_of noted) key) (first key h))

-- ---- one piece more, somewhere among the others

abbrev Mixed : Piece → List Piece → List Piece → Type 0
Mixed p [] qs = qs ≡ p ∷ []
Mixed p (r ∷ rs) qs = (qs ≡ p ∷ r ∷ rs) ⊎ ((rest : List Piece) × (qs ≡ r ∷ rest) × Mixed p rs rest)

or_turn : (a b c : Bool) → (a || (b || c)) ≡ (b || (a || c))
or_turn true true c = refl
or_turn true false c = refl
or_turn false b c = refl

found_or : (b : Bool) (p : Piece) (o : Option Piece) → is_some (cond b (Some p) o) ≡ (b || is_some o)
found_or true p o = refl
found_or false p o = refl

covers_more : (p : Piece) (ps : List Piece) (key : Bytes) → is_some (piece_of (p ∷ ps) key) ≡ (holds p.range key || is_some (piece_of ps key))
covers_more p ps key = found_or (holds p.range key) p (piece_of ps key)

mixed_cover : (p : Piece) (ps qs : List Piece) (key : Bytes) → Mixed p ps qs → is_some (piece_of qs key) ≡ (holds p.range key || is_some (piece_of ps key))
mixed_cover p [] qs key m = ap (λ xs. is_some (piece_of xs key)) m ∙ covers_more p [] key
mixed_cover p (r ∷ rs) qs key (inl e) = ap (λ xs. is_some (piece_of xs key)) e ∙ covers_more p (r ∷ rs) key
mixed_cover p (r ∷ rs) qs key (inr m) =
    ap (λ xs. is_some (piece_of xs key)) m.1 ∙ covers_more r m.0 key ∙ ap (λ b. holds r.range key || b) (mixed_cover p rs m.0 key m.2)
    ∙ or_turn (holds r.range key) (holds p.range key) (is_some (piece_of rs key)) ∙ ap (λ b. holds p.range key || b) (sym (covers_more r rs key))

mixed_overlaps : (range : KeyRange) (p : Piece) (ps qs : List Piece) → Mixed p ps qs → overlaps_any range qs ≡ (overlaps range p.range || overlaps_any range ps)
mixed_overlaps range p [] qs m = ap (overlaps_any range) m
mixed_overlaps range p (r ∷ rs) qs (inl e) = ap (overlaps_any range) e
mixed_overlaps range p (r ∷ rs) qs (inr m) =
    ap (overlaps_any range) m.1 ∙ ap (λ b. overlaps range r.range || b) (mixed_overlaps range p rs m.0 m.2)
    ∙ or_turn (overlaps range r.range) (overlaps range p.range) (overlaps_any range rs)

or_none : (a b : Bool) → a ≡ false → b ≡ false → (a || b) ≡ false
or_none true b h g = not_both refl h
or_none false b h g = g

none_of : (a b : Bool) → (a || b) ≡ false → (a ≡ false) × (b ≡ false)
none_of true b h = not_both refl h
none_of false b h = (refl, h)

and_turn : (a b : Bool) → (a && b) ≡ (b && a)
and_turn true true = refl
and_turn true false = refl
and_turn false true = refl
and_turn false false = refl

overlaps_turn : (a b : KeyRange) → overlaps a b ≡ overlaps b a
overlaps_turn a b = and_turn (is_below a.begin b.end) (is_below b.begin a.end)

disjoint_parts : (a b : Bool) → (not a && b) ≡ true → (a ≡ false) × (b ≡ true)
disjoint_parts true b h = not_both h refl
disjoint_parts false b h = (refl, h)

disjoint_from : (p : Piece) (ps : List Piece) → overlaps_any p.range ps ≡ false → are_disjoint ps ≡ true → are_disjoint (p ∷ ps) ≡ true
disjoint_from p ps o d = ap (λ b. not b && are_disjoint ps) o ∙ d

mixed_disjoint : (p : Piece) (ps qs : List Piece) → Mixed p ps qs → overlaps_any p.range ps ≡ false → are_disjoint ps ≡ true → are_disjoint qs ≡ true
mixed_disjoint p [] qs m o d = ap are_disjoint m
mixed_disjoint p (r ∷ rs) qs (inl e) o d = ap are_disjoint e ∙ disjoint_from p (r ∷ rs) o d
mixed_disjoint p (r ∷ rs) qs (inr m) o d =
    let apart = none_of (overlaps p.range r.range) (overlaps_any p.range rs) o in
    let parts = disjoint_parts (overlaps_any r.range rs) (are_disjoint rs) d in
    let still = mixed_overlaps r.range p rs m.0 m.2 ∙ or_none (overlaps r.range p.range) (overlaps_any r.range rs) (overlaps_turn r.range p.range ∙ apart.0) parts.0 in
    ap are_disjoint m.1 ∙ disjoint_from r m.0 still (mixed_disjoint p rs m.0 m.2 apart.1 parts.1)

mixed_in : (p y : Piece) (ps qs : List Piece) → Mixed p ps qs → IsIn y qs → (y ≡ p) ⊎ IsIn y ps
mixed_in p y [] qs m i = subst (λ xs. IsIn y xs) m i
mixed_in p y (r ∷ rs) qs (inl e) i = subst (λ xs. IsIn y xs) e i
mixed_in p y (r ∷ rs) qs (inr m) i = go (subst (λ xs. IsIn y xs) m.1 i) (mixed_in p y rs m.0 m.2)
  where
    turn : (y ≡ p) ⊎ IsIn y rs → (y ≡ p) ⊎ IsIn y (r ∷ rs)
    turn (inl e) = inl e
    turn (inr j) = inr (inr j)

    go : IsIn y (r ∷ m.0) → (IsIn y m.0 → (y ≡ p) ⊎ IsIn y rs) → (y ≡ p) ⊎ IsIn y (r ∷ rs)
    go (inl e) ih = inr (inl e)
    go (inr j) ih = turn (ih j)

in_mixed : (p y : Piece) (ps qs : List Piece) → Mixed p ps qs → (y ≡ p) ⊎ IsIn y ps → IsIn y qs
in_mixed p y [] qs m i = subst (λ xs. IsIn y xs) (sym m) i
in_mixed p y (r ∷ rs) qs (inl e) i = subst (λ xs. IsIn y xs) (sym e) i
in_mixed p y (r ∷ rs) qs (inr m) i = subst (λ xs. IsIn y xs) (sym m.1) (go i (in_mixed p y rs m.0 m.2))
  where
    go : (y ≡ p) ⊎ IsIn y (r ∷ rs) → ((y ≡ p) ⊎ IsIn y rs → IsIn y m.0) → IsIn y (r ∷ m.0)
    go (inl e) ih = inr (ih (inl e))
    go (inr (inl e)) ih = inl e
    go (inr (inr j)) ih = inr (ih (inr j))

-- ---- reading one name more

abbrev ReadMixed : (Bytes → Option Piece) → List Bytes → Piece → List Piece → Type 0
ReadMixed read names p ps = (qs : List Piece) × (each_of read names ≡ Some qs) × Mixed p ps qs

each_parts : (read : Bytes → Option Piece) (name : Bytes) (names : List Bytes) (ps : List Piece) → each_of read (name ∷ names) ≡ Some ps
    → (r : Piece) × (rs : List Piece) × (read name ≡ Some r) × (each_of read names ≡ Some rs) × (ps ≡ r ∷ rs)
each_parts read name names ps e = go (read name) refl (each_of read names) refl e
  where
    go : (o : Option Piece) → read name ≡ o → (os : Option (List Piece)) → each_of read names ≡ os → (o >>= λ y. os >>= λ ys. Some (y ∷ ys)) ≡ Some ps
        → (r : Piece) × (rs : List Piece) × (read name ≡ Some r) × (each_of read names ≡ Some rs) × (ps ≡ r ∷ rs)
    go None h os g e = absurd cc
    go (Some r) h None g e = absurd cc
    go (Some r) h (Some rs) g e = (r, rs, h, g, sym cc)

each_more : (read : Bytes → Option Piece) (name : Bytes) (names : List Bytes) (p : Piece) (ps : List Piece) → read name ≡ Some p → each_of read names ≡ Some ps → each_of read (name ∷ names) ≡ Some (p ∷ ps)
each_more read name names p ps h g = ap (λ o. o >>= λ y. each_of read names >>= λ ys. Some (y ∷ ys)) h ∙ ap (λ os. os >>= λ ys. Some (p ∷ ys)) g

mixed_front : (p : Piece) (ps : List Piece) → Mixed p ps (p ∷ ps)
mixed_front p [] = refl
mixed_front p (r ∷ rs) = inl refl

placed_read : (read : Bytes → Option Piece) (before : Bytes → Bool) (name : Bytes) (names : List Bytes) (p : Piece) (ps : List Piece) → read name ≡ Some p → each_of read names ≡ Some ps → ReadMixed read (placed before name names) p ps
placed_read read before name [] p ps h e = (p ∷ ps, each_more read name [] p ps h e, mixed_front p ps)
placed_read read before name (n ∷ ns) p ps h e =
    let parts = each_parts read n ns ps e in
    placed_cases before name n ns (λ xs. ReadMixed read xs p ps)
    (λ t. behind parts.0 parts.1 parts.2 parts.4 (placed_read read before name ns p parts.1 h parts.3))
    (λ f. (p ∷ ps, each_more read name (n ∷ ns) p ps h e, mixed_front p ps))
  where
    behind : (r : Piece) (rs : List Piece) → read n ≡ Some r → ps ≡ r ∷ rs → ReadMixed read (placed before name ns) p rs → ReadMixed read (n ∷ placed before name ns) p ps
    behind r rs g is ih = (r ∷ ih.0, each_more read n (placed before name ns) r ih.0 g ih.1, subst (λ xs. Mixed p xs (r ∷ ih.0)) (sym is) (inr (ih.0, refl, ih.2)))

-- ---- pieces in order don't overlap

begins_later : (end : Bytes) (m : Noted) (ms : List Noted) → is_below m.piece.begin end ≡ false → ArePieces (pieces_of (m ∷ ms)) → BeginFrom end (pieces_of ms)
begins_later end m [] b a = tt
begins_later end m (q ∷ qs) b a =
    let past = at_most_trans end m.piece.begin m.piece.end b (below_not_back m.piece.begin m.piece.end (proper m.piece a.0)) in
    at_most_trans end m.piece.end q.piece.begin past a.1

all_from : (end : Bytes) (ns : List Noted) → BeginFrom end (pieces_of ns) → ArePieces (pieces_of ns) → AllByRecursion (λ m. is_below m.piece.begin end ≡ false) ns
all_from end [] b a = tt
all_from end (m ∷ ms) b a = (b, all_from end ms (begins_later end m ms b a) a.2)

-- each noted piece is apart from these
abbrev AllApart : List Piece → List Noted → Type 0
AllApart ps ns = AllByRecursion (λ n. overlaps_any n.piece ps ≡ false) ns

all_apart : (ns : List Noted) → AllApart [] ns
all_apart [] = tt
all_apart (n ∷ ns) = (refl, all_apart ns)

still_apart : (n : Noted) (p : Piece) (ps qs : List Piece) (ns : List Noted) → p.range ≡ n.piece → Mixed p ps qs → AllByRecursion (λ m. is_below m.piece.begin n.piece.end ≡ false) ns → AllApart ps ns → AllApart qs ns
still_apart n p ps qs [] r m b a = tt
still_apart n p ps qs (k ∷ ks) r m b a =
    let free : overlaps k.piece p.range ≡ false = ap (overlaps k.piece) r ∙ ap (λ t. t && is_below n.piece.begin k.piece.end) b.0 in
    (mixed_overlaps k.piece p ps qs m ∙ or_none (overlaps k.piece p.range) (overlaps_any k.piece ps) free a.0, still_apart n p ps qs ks r m b.1 a.1)

-- ---- reading all names

abbrev OfNoted : List Noted → Piece → Type 0
OfNoted ns y = (n : Noted) × IsIn n ns × (y.version ≡ n.file.version)

-- the pieces that are read by the names, these and those of the noted files
record Gathered (read : Bytes → Option Piece) (names : List Bytes) (ps : List Piece) (ns : List Noted) : Type 0 where
  pieces : List Piece
  named : each_of read (names_of names ns) ≡ Some pieces
  cover : (key : Bytes) → is_some (piece_of pieces key) ≡ (is_some (piece_of ps key) || in_ranges (pieces_of ns) key)
  disjoint : are_disjoint pieces ≡ true
  origin : (y : Piece) → IsIn y pieces → IsIn y ps ⊎ OfNoted ns y
  kept : (y : Piece) → IsIn y ps → IsIn y pieces
  all : (n : Noted) → IsIn n ns → (y : Piece) × IsIn y pieces × (y.version ≡ n.file.version)

or_false : (a : Bool) → a ≡ (a || false)
or_false true = refl
or_false false = refl

or_parts : (h a b : Bool) → ((h || a) || b) ≡ (a || (h || b))
or_parts true true b = refl
or_parts true false b = refl
or_parts false a b = refl

nothing_more : (read : Bytes → Option Piece) (names : List Bytes) (ps : List Piece) → each_of read names ≡ Some ps → are_disjoint ps ≡ true → Gathered read names ps []
nothing_more read names ps e d = record {
  pieces = ps;
  named = e;
  cover = λ key. or_false (is_some (piece_of ps key));
  disjoint = d;
  origin = λ y i. inl i;
  kept = λ y i. i;
  all = λ n i. absurd i;
}

one_more : (read : Bytes → Option Piece) (names : List Bytes) (p : Piece) (ps qs : List Piece) (n : Noted) (ns : List Noted) → p.range ≡ n.piece → p.version ≡ n.file.version → Mixed p ps qs → Gathered read (with_name n.file.name names) qs ns → Gathered read names ps (n ∷ ns)
one_more read names p ps qs n ns r v m g = record {
  pieces = g.pieces;
  named = g.named;
  cover = λ key. g.cover key ∙ ap (λ b. b || in_ranges (pieces_of ns) key) (mixed_cover p ps qs key m ∙ ap (λ x. holds x key || is_some (piece_of ps key)) r) ∙ or_parts (holds n.piece key) (is_some (piece_of ps key)) (in_ranges (pieces_of ns) key);
  disjoint = g.disjoint;
  origin = λ y i. from y (g.origin y i);
  kept = λ y i. g.kept y (in_mixed p y ps qs m (inr i));
  all = λ k i. each k i;
}
  where
    first : (y : Piece) → (y ≡ p) ⊎ IsIn y ps → IsIn y ps ⊎ OfNoted (n ∷ ns) y
    first y (inl e) = inr (n, inl refl, ap (λ (x : Piece). x.version) e ∙ v)
    first y (inr i) = inl i

    from : (y : Piece) → IsIn y qs ⊎ OfNoted ns y → IsIn y ps ⊎ OfNoted (n ∷ ns) y
    from y (inl i) = first y (mixed_in p y ps qs m i)
    from y (inr o) = inr (o.0, inr o.1, o.2)

    each : (k : Noted) → IsIn k (n ∷ ns) → (y : Piece) × IsIn y g.pieces × (y.version ≡ k.file.version)
    each k (inl e) = (p, g.kept p (in_mixed p p ps qs m (inl refl)), v ∙ ap (λ (x : Noted). x.file.version) (sym e))
    each k (inr i) = g.all k i

gather : (ranges : List RangeFile) (names : List Bytes) (ps : List Piece) (ns : List Noted) → each_of (piece_named ranges) names ≡ Some ps → are_disjoint ps ≡ true → AllByRecursion (NotedThere ranges) ns → ArePieces (pieces_of ns) → AllApart ps ns → Gathered (piece_named ranges) names ps ns
gather ranges names ps [] e d there a apart = nothing_more (piece_named ranges) names ps e d
gather ranges names ps (n ∷ ns) e d there a apart =
    let p : Piece = record { version = n.file.version; range = n.piece; pairs = there.0.0 } in
    let r = placed_read (piece_named ranges) (λ x. is_below x n.file.name) n.file.name names p ps there.0.1 e in
    let free = still_apart n p ps r.0 ns refl r.2 (all_from n.piece.end ns a.1 a.2) apart.1 in
    one_more (piece_named ranges) names p ps r.0 n ns refl refl r.2
    (gather ranges (with_name n.file.name names) r.0 ns r.1 (mixed_disjoint p ps r.0 r.2 apart.0 d) there.1 a.2 free)

-- ---- the manifest

spans_are : (ranges : List RangeFile) (noted : List Noted) (file : ManifestFile) → noted ≢ [] → SaysNoted noted file → (g : Gathered (piece_named ranges) [] [] noted) → Spans file.begin file.end g.pieces
spans_are ranges noted file some says g = record { within = λ p i. inside p (g.origin p i); least = least; greatest = greatest }
  where
    inside : (p : Piece) → IsIn p [] ⊎ OfNoted noted p → (file.begin ≤ p.version) × (p.version ≤ file.end)
    inside p (inl i) = absurd i
    inside p (inr o) =
        let b = (manifest_law.begin noted some).least o.0 o.1 in
        let e = (manifest_law.end noted some).greatest o.0 o.1 in
        let v = o.2 in
        let begin = says.begin in
        let end = says.end in
        (omega (arith, b, v, begin), omega (arith, e, v, end))

    least : (p : Piece) × IsIn p g.pieces × (p.version ≡ file.begin)
    least =
        let one = (manifest_law.begin noted some).one in
        let y = g.all one.0 one.1 in
        (y.0, y.1, y.2 ∙ one.2 ∙ sym says.begin)

    greatest : (p : Piece) × IsIn p g.pieces × (p.version ≡ file.end)
    greatest =
        let one = (manifest_law.end noted some).one in
        let y = g.all one.0 one.1 in
        (y.0, y.1, y.2 ∙ one.2 ∙ sym says.end)

pub honest_manifest_law : HonestManifestLaw
honest_manifest_law s ranges noted some there pieces tiling file says =
    let g = gather ranges [] [] noted refl refl there pieces (all_apart noted) in
    record {
      names = (manifest_of noted).files;
      content = says.content;
      pieces = g.pieces;
      named = ap (each_of (piece_named ranges)) (files_are noted) ∙ g.named;
      spans = spans_are ranges noted file some says g;
      disjoint = g.disjoint;
      cover = λ key. g.cover key ∙ tiling key;
    }
