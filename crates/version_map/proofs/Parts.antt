-- The parts of a range tile it, and each tells the version of its keys.
use Rattle.std.proofs.Common.{◌≡◌, ℕ, Bool, true, false, not, ◌&&◌, cond, refl, sym, ap, ◌∙◌, List, [], ◌∷◌, ◌++◌, Option, Some, None, subst}
use Rattle.fb_bytes.specs.Bytes.{Bytes, is_below}
use Rattle.fb_bytes.specs.declared.KeyRange.{KeyRange}
use Rattle.fb_bytes.specs.Keys.{holds, is_backwards}
use Rattle.fb_bytes.proofs.Order.{not_both, below_trans, below_itself, below_up, neither_below}
use Rattle.version_map.specs.Pieces.{Piece, version_at, keys_before, ArePieces}
use Rattle.version_map.specs.Parts.{Part, part_of, within, parts_between, told_at, Tile}
use Rattle.version_map.specs.Laws.{PartsLaw}
use Rattle.version_map.proofs.Held.{by_test, not_false, holds_before, holds_from, holds_backwards}
use Rattle.version_map.proofs.Cuts.{all_from, none_before}

-- ---- the keys of a piece that are from a key on and before another

pub begins_from : (begin end : Bytes) (r : KeyRange) → is_below (within begin end r).begin begin ≡ false
begins_from begin end r = by_test (is_below r.begin begin) (λ z. is_below z begin ≡ false) begin r.begin (λ h. below_itself begin) (λ h. h)

pub ends_upto : (begin end : Bytes) (r : KeyRange) → is_below end (within begin end r).end ≡ false
ends_upto begin end r = by_test (is_below end r.end) (λ z. is_below end z ≡ false) end r.end (λ h. below_itself end) (λ h. h)

holds_within : (begin end : Bytes) (r : KeyRange) (key : Bytes) → holds (within begin end r) key ≡ ((holds r key && is_below key end) && not (is_below key begin))
holds_within begin end r key = holds_from begin (keys_before end r) key ∙ ap (λ b. b && not (is_below key begin)) (holds_before end r key)

-- ---- they tile

tile_front : (begin middle end : Bytes) (rest : List Part) → is_below middle begin ≡ false → is_below end middle ≡ false → Tile middle end rest → Tile begin end (part_of begin middle None ++ rest)
tile_front begin middle end rest h g t = by_test (is_below begin middle) (λ z. Tile begin end (z ++ rest)) (record { range = record { begin = begin; end = middle }; version = None } ∷ []) []
    (λ e. (refl, e, g, t))
    (λ e. let P : Bytes → Type 0 = λ k. Tile k end rest in subst P (neither_below middle begin h e) t)

tiles : (begin end : Bytes) (pieces : List Piece) → Tile begin end (parts_between begin end pieces)
tiles begin end [] = by_test (is_below begin end) (Tile begin end) (record { range = record { begin = begin; end = end }; version = None } ∷ []) [] (λ h. (refl, h, below_itself end, below_itself end)) (λ h. h)
tiles begin end (p ∷ ps) =
    let own = within begin end p.range in
    by_test (is_backwards own) (Tile begin end) (parts_between begin end ps) (part_of begin own.begin None ++ (record { range = own; version = Some p.version } ∷ parts_between own.end end ps))
    (λ h. tiles begin end ps)
    (λ h. tile_front begin own.begin end (record { range = own; version = Some p.version } ∷ parts_between own.end end ps) (begins_from begin end p.range) (past own.begin own.end (not_false _ h) (ends_upto begin end p.range))
    (refl, not_false _ h, ends_upto begin end p.range, tiles own.end end ps))
  where
    past : (a b : Bytes) → is_below a b ≡ true → is_below end b ≡ false → is_below end a ≡ false
    past a b h g = go (is_below end a) refl
      where
        go : (t : Bool) → is_below end a ≡ t → is_below end a ≡ false
        go false e = e
        go true e = not_both (below_trans end a b e h) g

-- ---- they tell

one_part : (begin end : Bytes) (version : Option ℕ) (rest : List Part) (key : Bytes) → told_at (part_of begin end version ++ rest) key ≡ cond (holds (record { begin = begin; end = end }) key) (Some version) (told_at rest key)
one_part begin end version rest key =
    let range : KeyRange = record { begin = begin; end = end } in
    by_test (is_below begin end) (λ z. told_at (z ++ rest) key ≡ cond (holds range key) (Some version) (told_at rest key)) (record { range = range; version = version } ∷ []) []
    (λ h. refl)
    (λ h. sym (ap (λ b. cond b (Some version) (told_at rest key)) (holds_backwards range key (ap not h))))

-- A key is before the range, before the own keys of a piece, before their end, or before the range's end, each of which gives the next. At the own keys the piece holds it.
piece_tells : (b o e f held : Bool) (v : ℕ) (others : Option ℕ) → (not o && e) ≡ ((held && f) && not b) → (b ≡ true → o ≡ true) → (o ≡ true → e ≡ true) → (e ≡ true → f ≡ true) → (o ≡ true → b ≡ false → others ≡ None)
    → cond (not b && o) (Some None) (cond (not o && e) (Some (Some v)) (cond (not e && f) (Some others) None)) ≡ cond (not b && f) (Some (cond held (Some v) others)) None
piece_tells true false e f held v w h bo oe ef n = not_both (bo refl) refl
piece_tells true true false f held v w h bo oe ef n = not_both (oe refl) refl
piece_tells true true true f held v w h bo oe ef n = refl
piece_tells false true false f held v w h bo oe ef n = not_both (oe refl) refl
piece_tells false true true false held v w h bo oe ef n = not_both (ef refl) refl
piece_tells false true true true true v w h bo oe ef n = not_both refl (sym h)
piece_tells false true true true false v w h bo oe ef n = ap Some (sym (n refl refl))
piece_tells false false true false held v w h bo oe ef n = not_both (ef refl) refl
piece_tells false false true true true v w h bo oe ef n = refl
piece_tells false false true true false v w h bo oe ef n = not_both refl h
piece_tells false false false false held v w h bo oe ef n = refl
piece_tells false false false true true v w h bo oe ef n = not_both refl (sym h)
piece_tells false false false true false v w h bo oe ef n = refl

-- a piece without a key there tells nothing of them
piece_silent : (b f held : Bool) (v : ℕ) (others : Option ℕ) → ((held && f) && not b) ≡ false → cond (not b && f) (Some others) None ≡ cond (not b && f) (Some (cond held (Some v) others)) None
piece_silent true f held v w h = refl
piece_silent false false held v w h = refl
piece_silent false true true v w h = not_both refl h
piece_silent false true false v w h = refl

-- where the own keys begin past the begin, the piece begins there
own_begin : (begin end : Bytes) (r : KeyRange) (key : Bytes) → is_below key (within begin end r).begin ≡ true → is_below key begin ≡ false → is_below key r.begin ≡ true
own_begin begin end r key = by_test (is_below r.begin begin) (λ z. is_below key z ≡ true → is_below key begin ≡ false → is_below key r.begin ≡ true) begin r.begin (λ e h g. not_both h g) (λ e h g. h)

empty_tells : (begin end key : Bytes) → told_at (part_of begin end None) key ≡ cond (holds (record { begin = begin; end = end }) key) (Some None) None
empty_tells begin end key =
    let range : KeyRange = record { begin = begin; end = end } in
    by_test (is_below begin end) (λ z. told_at z key ≡ cond (holds range key) (Some None) None) (record { range = range; version = None } ∷ []) []
    (λ h. refl)
    (λ h. sym (ap (λ b. cond b (Some None) None) (holds_backwards range key (ap not h))))

first_tells : (begin end : Bytes) (p : Piece) (ps : List Piece) (key : Bytes) → ArePieces (p ∷ ps)
    → ((from : Bytes) → told_at (parts_between from end ps) key ≡ cond (holds (record { begin = from; end = end }) key) (Some (version_at ps key)) None)
    → told_at (parts_between begin end (p ∷ ps)) key ≡ cond (holds (record { begin = begin; end = end }) key) (Some (version_at (p ∷ ps) key)) None
first_tells begin end p ps key ordered ih =
    let own = within begin end p.range in
    let r : KeyRange = p.range in
    by_test (is_backwards own) (λ z. told_at z key ≡ cond (holds (record { begin = begin; end = end }) key) (Some (version_at (p ∷ ps) key)) None) (parts_between begin end ps) (part_of begin own.begin None ++ (record { range = own; version = Some p.version } ∷ parts_between own.end end ps))
    (λ h. ih begin ∙ piece_silent (is_below key begin) (is_below key end) (holds r key) p.version (version_at ps key) (sym (holds_within begin end r key) ∙ holds_backwards own key h))
    (λ h. one_part begin own.begin None (record { range = own; version = Some p.version } ∷ parts_between own.end end ps) key
    ∙ ap (λ o. cond (not (is_below key begin) && is_below key own.begin) (Some None) (cond (holds own key) (Some (Some p.version)) o)) (ih own.end)
    ∙ piece_tells (is_below key begin) (is_below key own.begin) (is_below key own.end) (is_below key end) (holds r key) p.version (version_at ps key)
    (holds_within begin end r key)
    (λ e. below_up key own.begin begin e (begins_from begin end r))
    (λ e. below_trans key own.begin own.end e (not_false _ h))
    (λ e. below_up key end own.end e (ends_upto begin end r))
    (λ e g. none_before p.range.end ps key (all_from p.range.end ps ordered.2 ordered.1) (below_trans key r.begin r.end (own_begin begin end r key e g) ordered.0)))

tells : (begin end : Bytes) (pieces : List Piece) (key : Bytes) → ArePieces pieces → told_at (parts_between begin end pieces) key ≡ cond (holds (record { begin = begin; end = end }) key) (Some (version_at pieces key)) None
tells begin end [] key h = empty_tells begin end key
tells begin end (p ∷ ps) key h = first_tells begin end p ps key h (λ from. tells from end ps key h.2)

pub parts_law : PartsLaw
parts_law range pieces h = record {
  tile = tiles range.begin range.end pieces;
  told = λ key. tells range.begin range.end pieces key h;
}
