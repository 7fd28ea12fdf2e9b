-- Pieces of ranges, counted at each key.
use Rattle.std.proofs.Common.{◌≡◌, ◌≢◌, ◌+◌, Bool, true, false, not, ◌&&◌, ◌||◌, List, [], ◌∷◌, refl, sym, ap, ◌∙◌, arith, nat_le}
use Rattle.std.proofs.lemmas.Bool.{le-leb}
use Rattle.fb_bytes.specs.Bytes.{Bytes, is_below}
use Rattle.fb_bytes.specs.declared.KeyRange.{KeyRange}
use Rattle.fb_bytes.specs.Keys.{holds, in_ranges, AreSeparate}
use Rattle.fb_bytes.proofs.Order.{not_both, below_itself, below_up}
use Rattle.snapshot_plan.specs.declared.Noted.{Noted}
use Rattle.snapshot_plan.specs.Noted.{pieces_of, with_noted}
use Rattle.snapshot_plan.specs.Pieces.{ArePieces, BeginFrom}
use Rattle.snapshot_plan.proofs.Manifests.{placed_cases}
use Rattle.snapshot_plan.proofs.Walking.{proper, before_all, not_past, by}
use Rattle.backup_core.specs.Counts.{one_if, count_holding}
use Rattle.backup_core.proofs.Sums.{one_true, one_false}

-- the key is in one of the pieces exactly where one at least holds it
pub held_counted : (pieces : List KeyRange) (key : Bytes) → in_ranges pieces key ≡ nat_le 1 (count_holding pieces key)
held_counted [] key = refl
held_counted (p ∷ ps) key = go (holds p key) (held_counted ps key)
  where
    go : (b : Bool) → in_ranges ps key ≡ nat_le 1 (count_holding ps key) → (b || in_ranges ps key) ≡ nat_le 1 (one_if b + count_holding ps key)
    go true ih = sym (le-leb 1 (1 + count_holding ps key) (omega arith))
    go false ih = ih ∙ ap (nat_le 1) (let e : count_holding ps key ≡ 0 + count_holding ps key = omega arith in e)

one_or_none : (b : Bool) → nat_le 1 (one_if b) ≡ b
one_or_none true = refl
one_or_none false = refl

-- so the pieces hold a key where a number for a test counts them
pub held_is : (pieces : List KeyRange) (key : Bytes) (b : Bool) → count_holding pieces key ≡ one_if b → in_ranges pieces key ≡ b
held_is pieces key b e = held_counted pieces key ∙ ap (nat_le 1) e ∙ one_or_none b

pub held_none : (pieces : List KeyRange) (key : Bytes) → count_holding pieces key ≡ 0 → in_ranges pieces key ≡ false
held_none pieces key e = held_counted pieces key ∙ ap (nat_le 1) e

pub none_held : (pieces : List KeyRange) (key : Bytes) → in_ranges pieces key ≡ false → count_holding pieces key ≡ 0
none_held [] key h = refl
none_held (p ∷ ps) key h = go (holds p key) refl (none_held ps key)
  where
    go : (b : Bool) → holds p key ≡ b → (in_ranges ps key ≡ false → count_holding ps key ≡ 0) → one_if (holds p key) + count_holding ps key ≡ 0
    go true e ih = not_both (ap (λ b. b || in_ranges ps key) e) h
    go false e ih =
        let x = one_false (holds p key) e in
        let y = ih (sym (ap (λ b. b || in_ranges ps key) e) ∙ h) in
        omega arith

-- pieces in order hold no key twice
pub counted_once : (pieces : List KeyRange) (key : Bytes) → ArePieces pieces → count_holding pieces key ≡ one_if (in_ranges pieces key)
counted_once [] key h = refl
counted_once (p ∷ ps) key h = go (holds p key) refl (counted_once ps key h.2)
  where
    begins : (qs : List KeyRange) → BeginFrom p.end qs → ArePieces qs → is_below key p.end ≡ true → in_ranges qs key ≡ false
    begins [] b a l = refl
    begins (q ∷ qs) b a l = before_all key q qs a (below_up key q.begin p.end l b)

    inside : holds p key ≡ true → is_below key p.end ≡ true
    inside e = by (is_below key p.end) (λ x. x) (λ x. not_both e (not_past p key x))

    go : (b : Bool) → holds p key ≡ b → count_holding ps key ≡ one_if (in_ranges ps key) → one_if (holds p key) + count_holding ps key ≡ one_if (holds p key || in_ranges ps key)
    go true e ih =
        let x = one_true (holds p key) e in
        let y = none_held ps key (begins ps h.1 h.2 (inside e)) in
        let z : one_if (holds p key || in_ranges ps key) ≡ 1 = ap (λ b. one_if (b || in_ranges ps key)) e in
        omega arith
    go false e ih =
        let x = one_false (holds p key) e in
        let z : one_if (holds p key || in_ranges ps key) ≡ one_if (in_ranges ps key) = ap (λ b. one_if (b || in_ranges ps key)) e in
        omega arith

-- one piece more counts once more where it holds the key
pub noted_more : (one : Noted) (ns : List Noted) (key : Bytes) → count_holding (pieces_of (with_noted one ns)) key ≡ one_if (holds one.piece key) + count_holding (pieces_of ns) key
noted_more one [] key = refl
noted_more one (n ∷ ns) key =
    placed_cases (λ m. is_below m.piece.begin one.piece.begin) one n ns (λ zs. count_holding (pieces_of zs) key ≡ one_if (holds one.piece key) + (one_if (holds n.piece key) + count_holding (pieces_of ns) key))
    (λ t. let x = noted_more one ns key in omega arith)
    (λ f. refl)

-- ranges have a key
pub some_key : (ranges : List KeyRange) → ranges ≢ [] → AreSeparate ranges → (key : Bytes) × (in_ranges ranges key ≡ true)
some_key [] some separate = absurd (some refl)
some_key (r ∷ rs) some separate = (r.begin, ap (λ b. b || in_ranges rs r.begin) begins)
  where
    begins : holds r r.begin ≡ true
    begins = ap (λ b. not b && is_below r.begin r.end) (below_itself r.begin) ∙ proper r separate.0
