-- What a writer holds after an item, in each of the three cases.
use Rattle.std.proofs.Common.{◌≡◌, ℕ, ◌+◌, ◌-◌, ◌<◌, ◌≤◌, true, false, eqb, leb, [], ◌++◌, length, take, drop, replicate, refl, sym, ap, ◌∙◌, append_assoc, arith, rules}
use Rattle.std.proofs.lemmas.Bool.{eq-eqb, ne_eqb, le-leb, lt-leb}
use Rattle.std.proofs.lemmas.List.{append-nil, length-append, length-drop, length-replicate, take-append-le, drop-append-le, take_all, take_at, drop_at, take-append-drop}
use Rattle.fb_bytes.specs.Bytes.{Bytes}
use Rattle.block_frame.specs.Frames.{Frames, no_frames, framed, begun, padded}
use Rattle.block_frame.specs.Profiles.{is_block, IsRoomy}

-- the bytes cut where the present block begins
abbrev pub cut : ℕ → Bytes → Frames
cut start bytes = record { full = take start bytes; present = drop start bytes }

cut_at : (front back : Bytes) (start : ℕ) → length front ≡ start → cut start (front ++ back) ≡ record { full = front; present = back }
cut_at front back start e = rw (take_at front back start e, drop_at front back start e) refl

pub first_item : (block format start : ℕ) (bytes new item repeat : Bytes) → start ≤ length bytes → length bytes - start ≡ 0 → new ≡ (bytes ++ replicate 0 255) ++ begun format repeat item → cut start new ≡ framed block format (cut start bytes) item repeat
unfolding framed
first_item block format start bytes new item repeat within none e =
    let all : start ≡ length bytes = omega arith in
    let test : eqb (length (drop start bytes)) 0 ≡ true = eq-eqb _ _ (length-drop start bytes ∙ none) in
    let left : cut start new ≡ record { full = bytes; present = begun format repeat item } = ap (cut start) (e ∙ ap (λ (x : Bytes). x ++ begun format repeat item) (append-nil bytes)) ∙ cut_at bytes (begun format repeat item) start (sym all) in
    let front : take start bytes ≡ bytes = take_all start bytes (omega arith) in
    left ∙ rw (test, front) refl

pub item_fits : (block format start : ℕ) (bytes new item repeat : Bytes) → start ≤ length bytes → length bytes ≤ start + block → (length bytes - start ≡ 0 → ⊥) → length item ≤ block - (length bytes - start) → new ≡ bytes ++ item → cut start new ≡ framed block format (cut start bytes) item repeat
unfolding framed
item_fits block format start bytes new item repeat within short some fits e =
    let len : length (drop start bytes) ≡ length bytes - start = length-drop start bytes in
    let test : eqb (length (drop start bytes)) 0 ≡ false = ne_eqb _ _ (λ z. some (sym len ∙ z)) in
    let room : leb (length (drop start bytes) + length item) block ≡ true = le-leb _ _ (omega arith) in
    rw (e, take-append-le start bytes item within, drop-append-le start bytes item within, test, room) refl

pub item_goes_on : (block format start room at : ℕ) (bytes new item repeat : Bytes) → start ≤ length bytes → length bytes ≤ start + block → (length bytes - start ≡ 0 → ⊥) → room ≡ block - (length bytes - start) → at ≡ length bytes + room → room < length item → new ≡ (bytes ++ replicate room 255) ++ begun format repeat item → cut at new ≡ framed block format (cut start bytes) item repeat
unfolding framed
item_goes_on block format start room at bytes new item repeat within short some room-is at-is full e =
    let len : length (drop start bytes) ≡ length bytes - start = length-drop start bytes in
    let test : eqb (length (drop start bytes)) 0 ≡ false = ne_eqb _ _ (λ z. some (sym len ∙ z)) in
    let no_room : leb (length (drop start bytes) + length item) block ≡ false = lt-leb _ _ (omega arith) in
    let size : length (bytes ++ replicate room 255) ≡ at = omega (arith, length-append bytes (replicate room 255), length-replicate {A = ℕ} room 255) in
    let left : cut at new ≡ record { full = bytes ++ replicate room 255; present = begun format repeat item } = ap (cut at) e ∙ cut_at (bytes ++ replicate room 255) (begun format repeat item) at size in
    let left_over : block - length (drop start bytes) ≡ room = omega arith in
    let whole : take start bytes ++ padded block (drop start bytes) ≡ bytes ++ replicate room 255 = sym (append_assoc (take start bytes) (drop start bytes) (replicate (block - length (drop start bytes)) 255)) ∙ rw (take-append-drop start bytes, left_over) refl in
    left ∙ rw (test, no_room, whole) refl

-- ---- the three cases of a writer's step

pub framed_first : (size format : ℕ) (item repeat : Bytes) → framed size format no_frames item repeat ≡ record { full = []; present = begun format repeat item }
unfolding framed
framed_first size format item repeat = refl

pub framed_fits : (size format : ℕ) (frames : Frames) (item repeat : Bytes) → 0 < length frames.present → length frames.present + length item ≤ size → framed size format frames item repeat ≡ record { full = frames.full; present = frames.present ++ item }
unfolding framed
framed_fits size format frames item repeat some room = rw (ne_eqb (length frames.present) 0 (λ e. omega arith), le-leb (length frames.present + length item) size room) refl

pub framed_begins : (size format : ℕ) (frames : Frames) (item repeat : Bytes) → 0 < length frames.present → size < length frames.present + length item → framed size format frames item repeat ≡ record { full = frames.full ++ padded size frames.present; present = begun format repeat item }
unfolding framed
framed_begins size format frames item repeat some full = rw (ne_eqb (length frames.present) 0 (λ e. omega arith), lt-leb (length frames.present + length item) size full) refl

-- ---- room

pub roomy : (size : ℕ) → is_block size ≡ true → IsRoomy size
roomy size listed = search rules
