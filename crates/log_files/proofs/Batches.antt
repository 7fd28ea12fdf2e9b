-- Records joined to batches: what is joined is spelled so, and what is spelled so is joined.
use Rattle.std.proofs.Common.{◌≡◌, ℕ, zero, suc, ◌+◌, ◌^◌, ◌<◌, ◌≤◌, Bool, true, false, cond, ◌&&◌, eqb, ltb, leb, List, [], ◌∷◌, ◌++◌, length, take, drop, Option, Some, None, Result, Ok, Err, refl, sym, ap, subst, ◌∙◌, append_assoc, add-zero, get_or, lit≤, arith}
use Rattle.std.specs.List.{AllByRecursion}
use Rattle.std.specs.Int.{w32, w64, to_be_bytes, from_be_bytes}
use Rattle.std.proofs.lemmas.Bool.{and_parts, eqb-true, eq-eqb, ne_eqb, ltb-true, lt-ltb, leb-true, le-leb, cond-true, cond-false}
use Rattle.std.proofs.lemmas.List.{append-nil, length-take, length-drop, take-append-drop, take_at, drop_at}
use Rattle.std.proofs.lemmas.Nat.{be_bytes_4, be_bytes_8, from_be_bytes-to_be_bytes_4, from_be_bytes-to_be_bytes_8}
use Rattle.fb_bytes.specs.Bytes.{Bytes, IsBytes}
use Rattle.block_frame.proofs.Strings.{IsBytes-take, IsBytes-drop}
use Rattle.mutations.specs.declared.Mutation.{Mutation}
use Rattle.mutations.specs.declared.Batch.{Batch}
use Rattle.mutations.specs.declared.WireFault.{WireFault}
use Rattle.mutations.specs.Reading.{decoded}
use Rattle.mutations.specs.Spelling.{batch_spelling, HasSpelling}
use Rattle.mutations.proofs.Spellings.{decoded_takes, decoded_again}
use Rattle.log_files.specs.declared.fault.LogFault.{LogFault}
use Rattle.log_files.specs.declared.fault.LogFault.TheVariants as faults
use Rattle.log_files.specs.Reading.{Record, ◌>>=◌, OpenBatch, SoFar, with_batch, finished, some, continued, begun, continues, placed, version_in, part_in, taken, all_taken}
use Rattle.log_files.specs.Grammar.{Row, row_key, rows_of, joined, AreOf, Spell}
use Rattle.fb_bytes.proofs.Results.{bind_ok, ok_is, test_ok}
use Rattle.log_files.proofs.Blocks.{bare, bares, AreBytes}

abbrev state : List Batch → ℕ → Option OpenBatch → SoFar
state batches low joining = record { batches = batches; low = low; joining = joining }

abbrev batch_of : ℕ → List Mutation → Batch
batch_of version muts = record { version = version; muts = muts }

-- ---- keys

key_is : (key : Bytes) → IsBytes key → length key ≡ 12 → key ≡ row_key (version_in key) (part_in key)
key_is key fits len =
    let v = be_bytes_8 (take 8 key) (version_in key) (omega (arith, length-take 8 key)) (IsBytes-take 8 key fits) refl in
    let p = be_bytes_4 (drop 8 key) (part_in key) (omega (arith, length-drop 8 key)) (IsBytes-drop 8 key fits) refl in
    sym (take-append-drop 8 key) ∙ ap (λ (x : Bytes). x ++ drop 8 key) (sym v) ∙ ap (λ (x : Bytes). to_be_bytes w64 (version_in key) ++ x) (sym p)

part_small : (key : Bytes) → IsBytes key → part_in key < 2 ^ 32
part_small key fits = let f = IsBytes-drop 8 key fits in omega (arith, f 0, f 1, f 2, f 3)

key_version : (version part : ℕ) → version < 2 ^ 64 → version_in (row_key version part) ≡ version
key_version version part lt = ap (from_be_bytes w64) (take_at (to_be_bytes w64 version) (to_be_bytes w32 part) 8 refl) ∙ from_be_bytes-to_be_bytes_8 version lt

key_part : (version part : ℕ) → part < 2 ^ 32 → part_in (row_key version part) ≡ part
key_part version part lt = ap (from_be_bytes w32) (drop_at (to_be_bytes w64 version) (to_be_bytes w32 part) 8 refl) ∙ from_be_bytes-to_be_bytes_4 part lt

-- ---- what a step took

with_go : (batches : List Batch) (low : ℕ) (o : OpenBatch) (r : Result (List Mutation) WireFault) (d : SoFar) → with_batch (state batches low (Some o)) o r ≡ Ok d → (muts : List Mutation) × (r ≡ Ok muts) × (d ≡ state (batches ++ batch_of o.version muts ∷ []) (o.version + 1) None)
with_go batches low o (Ok muts) d e = (muts, refl, ok_is d (state (batches ++ batch_of o.version muts ∷ []) (o.version + 1) None) (Ok d) refl (sym e))
with_go batches low o (Err wire) d e = absurd cc

finish_some : (batches : List Batch) (low : ℕ) (o : OpenBatch) (d : SoFar) → finished (state batches low (Some o)) ≡ Ok d → (muts : List Mutation) × (decoded o.joined ≡ Ok muts) × (d ≡ state (batches ++ batch_of o.version muts ∷ []) (o.version + 1) None)
unfolding finished
finish_some batches low o d e = with_go batches low o (decoded o.joined) d e

finish_none : (batches : List Batch) (low : ℕ) (d : SoFar) → finished (state batches low None) ≡ Ok d → d ≡ state batches low None
unfolding finished
finish_none batches low d e = ok_is d (state batches low None) (Ok d) refl (sym e)

abbrev next_open : OpenBatch → Bytes → OpenBatch
next_open o value = record { at = o.at; version = o.version; next = o.next + 1; joined = o.joined ++ value }

continued_found : (batches : List Batch) (low : ℕ) (o : OpenBatch) (r : Record) (part : ℕ) (s : SoFar) → continued (state batches low (Some o)) r part ≡ Ok s → (part ≡ o.next) × (0 < length r.value) × (state batches low (Some (next_open o r.value)) ≡ s)
unfolding continued
continued_found batches low o r part s e =
    let made = state batches low (Some (next_open o r.value)) in
    let g = test_ok (eqb part o.next && some r.value) (Ok made) (faults.Part r.at part) s e in
    let p = and_parts (eqb part o.next) (some r.value) g.0 in
    (eqb-true part o.next p.0, ltb-true 0 (length r.value) p.1, ok_is made s (Ok made) refl g.1)

abbrev first_open : ℕ → ℕ → Bytes → OpenBatch
first_open at version value = record { at = at; version = version; next = 1; joined = value }

begun_found : (end : ℕ) (batches : List Batch) (low : ℕ) (joining : Option OpenBatch) (r : Record) (version part : ℕ) (s : SoFar) → begun end (state batches low joining) r version part ≡ Ok s
    → (low ≤ version) × (version < end) × (part ≡ 0) × (0 < length r.value) × (state batches low (Some (first_open r.at version r.value)) ≡ s)
unfolding begun
begun_found end batches low joining r version part s e =
    let made = state batches low (Some (first_open r.at version r.value)) in
    let g = test_ok (leb low version && ltb version end) (cond (eqb part 0 && some r.value) (Ok made) (Err (faults.Part r.at part))) (faults.Version r.at version) s e in
    let h = test_ok (eqb part 0 && some r.value) (Ok made) (faults.Part r.at part) s g.1 in
    let p = and_parts (leb low version) (ltb version end) g.0 in
    let q = and_parts (eqb part 0) (some r.value) h.0 in
    (leb-true low version p.0, ltb-true version end p.1, eqb-true part 0 q.0, ltb-true 0 (length r.value) q.1, ok_is made s (Ok made) refl h.1)

taken_found : (end : ℕ) (s : SoFar) (r : Record) (t : SoFar) → taken end s r ≡ Ok t → (length r.key ≡ 12) × (placed end s r (version_in r.key) (part_in r.key) ≡ Ok t)
unfolding taken
taken_found end s r t e = let g = test_ok (eqb (length r.key) 12) (placed end s r (version_in r.key) (part_in r.key)) (faults.KeyLength r.at) t e in (eqb-true (length r.key) 12 g.0, g.1)

-- ---- what was joined is spelled so

-- the rows go on with the rest of the batch that is being joined
pub record Going (end : ℕ) (o : OpenBatch) (more : List Batch) (rows : List Row) : Type 0 where
  pub muts : List Mutation
  pub batches : List Batch
  pub pieces : List Bytes
  pub others : List Row
  pub more-is : more ≡ batch_of o.version muts ∷ batches
  pub rows-are : rows ≡ rows_of o.version o.next pieces ++ others
  pub none_empty : AllByRecursion (λ piece. 0 < length piece) pieces
  pub few : o.next + length pieces ≤ 2 ^ 32
  pub spelled : o.joined ++ joined pieces ≡ batch_spelling muts
  pub has : HasSpelling muts
  pub next : Spell (o.version + 1) end batches others

abbrev pub RestAt : ℕ → ℕ → Option OpenBatch → List Batch → List Row → Type 0
RestAt end low None more rows = Spell low end more rows
RestAt end low (Some o) more rows = Going end o more rows

-- what is joined so far is bytes, in no more parts than have numbers
abbrev pub IsOpen : Option OpenBatch → Type 0
IsOpen None = Unit {0}
IsOpen (Some o) = IsBytes o.joined × (o.next ≤ 2 ^ 32)

pub record Joins (end : ℕ) (batches : List Batch) (low : ℕ) (joining : Option OpenBatch) (rows : List Row) (done : SoFar) : Type 0 where
  pub more : List Batch
  pub batches-are : done.batches ≡ batches ++ more
  pub rest : RestAt end low joining more rows

-- a finished batch, and what follows it
finish_joins : (end : ℕ) (batches : List Batch) (low : ℕ) (joining : Option OpenBatch) (d : SoFar) (rows : List Row) (more : List Batch) (done : SoFar) → IsOpen joining → finished (state batches low joining) ≡ Ok d → done.batches ≡ d.batches ++ more → Spell d.low end more rows → Joins end batches low joining rows done
finish_joins end batches low None d rows more done opened e is spell =
    let f = finish_none batches low d e in
    record { more = more; batches-are = is ∙ ap (λ (x : SoFar). x.batches ++ more) f; rest = subst (λ (x : SoFar). Spell x.low end more rows) f spell }
finish_joins end batches low (Some o) d rows more done opened e is spell =
    let f = finish_some batches low o d e in
    let t = decoded_takes o.joined f.0 opened.0 f.1 in
    record {
      more = batch_of o.version f.0 ∷ more;
      batches-are = is ∙ ap (λ (x : SoFar). x.batches ++ more) f.2 ∙ append_assoc batches (batch_of o.version f.0 ∷ []) more;
      rest = record {
        muts = f.0;
        batches = more;
        pieces = [];
        others = rows;
        more-is = refl;
        rows-are = refl;
        none_empty = tt;
        few = omega (arith, opened.1);
        spelled = append-nil o.joined ∙ t.1;
        has = t.0;
        next = subst (λ (x : SoFar). Spell x.low end more rows) f.2 spell;
      };
    }

own_append : (x y : Bytes) → IsBytes x → IsBytes y → IsBytes (x ++ y)
own_append [] y p q = q
own_append (b ∷ x) y p q = λ i. go i (own_append x y (λ j. p (suc j)) q)
  where
    go : (i : ℕ) → IsBytes (x ++ y) → get_or (b ∷ (x ++ y)) i 0 < 256
    go zero h = p 0
    go (suc i) h = h i

row_is : (r : Record) (version part : ℕ) → r.key ≡ row_key version part → bare r ≡ record { key = row_key version part; value = r.value }
row_is r version part e = ap (λ (k : Bytes). record { key = k; value = r.value }) e

module _ (end : ℕ) (batches : List Batch) (low : ℕ) (r : Record) (rows : List Row) (done : SoFar) (key : length r.key ≡ 12) (own : IsBytes r.key × IsBytes r.value) (ih : (b : List Batch) (l : ℕ) (j : Option OpenBatch) → IsOpen j → (s : SoFar) → state b l j ≡ s → Joins end s.batches s.low s.joining rows done → Joins end b l j rows done) where
  same_batch : (o : OpenBatch) (s : SoFar) → IsBytes o.joined × (o.next ≤ 2 ^ 32) → version_in r.key ≡ o.version → continued (state batches low (Some o)) r (part_in r.key) ≡ Ok s → Joins end s.batches s.low s.joining rows done → Joins end batches low (Some o) (bare r ∷ rows) done
  same_batch o s opened v e j =
      let c = continued_found batches low o r (part_in r.key) s e in
      let small = part_small r.key own.0 in
      let k = ih batches low (Some (next_open o r.value)) (own_append o.joined r.value opened.0 own.1, omega (arith, c.0)) s c.2 j in
      let g = k.rest in
      let key-is : r.key ≡ row_key o.version o.next = key_is r.key own.0 key ∙ ap (λ (x : ℕ × ℕ). row_key x.0 x.1) (ap (λ (x : ℕ). (x, part_in r.key)) v ∙ ap (λ (x : ℕ). (o.version, x)) c.0) in
      record {
        more = k.more;
        batches-are = k.batches-are;
        rest = record {
          muts = g.muts;
          batches = g.batches;
          pieces = r.value ∷ g.pieces;
          others = g.others;
          more-is = g.more-is;
          rows-are = ap (λ (x : List Row). bare r ∷ x) g.rows-are ∙ ap (λ (x : Row). x ∷ (rows_of o.version (o.next + 1) g.pieces ++ g.others)) (row_is r o.version o.next key-is);
          none_empty = (c.1, g.none_empty);
          few = omega (arith, g.few);
          spelled = sym (append_assoc o.joined r.value (joined g.pieces)) ∙ g.spelled;
          has = g.has;
          next = g.next;
        };
      }

  other_batch : (joining : Option OpenBatch) (d s : SoFar) → IsOpen joining → finished (state batches low joining) ≡ Ok d → begun end d r (version_in r.key) (part_in r.key) ≡ Ok s → Joins end s.batches s.low s.joining rows done → Joins end batches low joining (bare r ∷ rows) done
  other_batch joining d s opened f e j =
      let v = version_in r.key in
      let c = begun_found end d.batches d.low d.joining r v (part_in r.key) s e in
      let k = ih d.batches d.low (Some (first_open r.at v r.value)) (own.1, lit≤ tt) s c.4 j in
      let g = k.rest in
      let key-is : r.key ≡ row_key v 0 = key_is r.key own.0 key ∙ ap (row_key v) c.2 in
      let rows-are : bare r ∷ rows ≡ rows_of v 0 (r.value ∷ g.pieces) ++ g.others = ap (λ (x : List Row). bare r ∷ x) g.rows-are ∙ ap (λ (x : Row). x ∷ (rows_of v 1 g.pieces ++ g.others)) (row_is r v 0 key-is) in
      let pieces : AreOf (r.value ∷ g.pieces) (batch_of v g.muts) = record { some = omega arith; none_empty = (c.3, g.none_empty); few = omega (arith, g.few); spelled = g.spelled; has = g.has } in
      let spell : Spell d.low end (batch_of v g.muts ∷ g.batches) (bare r ∷ rows) = (r.value ∷ g.pieces, g.others, rows-are, pieces, c.0, c.1, g.next) in
      finish_joins end batches low joining d (bare r ∷ rows) (batch_of v g.muts ∷ g.batches) done opened f (k.batches-are ∙ ap (λ (x : List Batch). d.batches ++ x) g.more-is) spell

  place : (joining : Option OpenBatch) (s : SoFar) → IsOpen joining → (b : Bool) → continues joining (version_in r.key) ≡ b → placed end (state batches low joining) r (version_in r.key) (part_in r.key) ≡ Ok s → Joins end s.batches s.low s.joining rows done → Joins end batches low joining (bare r ∷ rows) done
  place None s opened true b e j = absurd cc
  place (Some o) s opened true b e j = same_batch o s opened (eqb-true (version_in r.key) o.version b) (sym (cond-true (eqb (version_in r.key) o.version) (continued (state batches low (Some o)) r (part_in r.key)) (finished (state batches low (Some o)) >>= λ d. begun end d r (version_in r.key) (part_in r.key)) b) ∙ e) j
  place joining s opened false b e j =
      let g = sym (cond-false (continues joining (version_in r.key)) (continued (state batches low joining) r (part_in r.key)) (finished (state batches low joining) >>= λ d. begun end d r (version_in r.key) (part_in r.key)) b) ∙ e in
      let f = bind_ok (finished (state batches low joining)) (λ d. begun end d r (version_in r.key) (part_in r.key)) s g in
      other_batch joining f.0 s opened f.1 f.2 j

joins_at : (end : ℕ) (rows : List Row) (done : SoFar) (b : List Batch) (l : ℕ) (j : Option OpenBatch) (s : SoFar) → state b l j ≡ s → Joins end s.batches s.low s.joining rows done → Joins end b l j rows done
joins_at end rows done b l j s e h = subst (λ (x : SoFar). Joins end x.batches x.low x.joining rows done) (sym e) h

open_at : (end : ℕ) (s : SoFar) (r : Record) (t : SoFar) → IsOpen s.joining → IsBytes r.key × IsBytes r.value → taken end s r ≡ Ok t → IsOpen t.joining
open_at end s r t opened own e = go s.batches s.low s.joining opened (continues s.joining (version_in r.key)) refl (taken_found end s r t e).1
  where
    go : (b : List Batch) (l : ℕ) (j : Option OpenBatch) → IsOpen j → (c : Bool) → continues j (version_in r.key) ≡ c → placed end (state b l j) r (version_in r.key) (part_in r.key) ≡ Ok t → IsOpen t.joining
    go b l None o true q p = absurd cc
    go b l (Some x) o true q p =
        let c = continued_found b l x r (part_in r.key) t (sym (cond-true (eqb (version_in r.key) x.version) (continued (state b l (Some x)) r (part_in r.key)) (finished (state b l (Some x)) >>= λ d. begun end d r (version_in r.key) (part_in r.key)) q) ∙ p) in
        let small = part_small r.key own.0 in
        subst (λ (y : SoFar). IsOpen y.joining) c.2 (own_append x.joined r.value o.0 own.1, omega (arith, c.0))
    go b l j o false q p =
        let g = sym (cond-false (continues j (version_in r.key)) (continued (state b l j) r (part_in r.key)) (finished (state b l j) >>= λ d. begun end d r (version_in r.key) (part_in r.key)) q) ∙ p in
        let f = bind_ok (finished (state b l j)) (λ d. begun end d r (version_in r.key) (part_in r.key)) t g in
        let c = begun_found end f.0.batches f.0.low f.0.joining r (version_in r.key) (part_in r.key) t f.2 in
        subst (λ (y : SoFar). IsOpen y.joining) c.4 (own.1, lit≤ tt)

pub joins_found : (end : ℕ) (rs : List Record) (s last done : SoFar) → IsOpen s.joining → AreBytes (bares rs) → all_taken end s rs ≡ Ok last → finished last ≡ Ok done → Joins end s.batches s.low s.joining (bares rs) done
joins_found end [] s last done opened own e f =
    let is : s ≡ last = ok_is s last (Ok s) refl e in
    finish_joins end s.batches s.low s.joining done [] [] done opened (ap finished is ∙ f) (sym (append-nil done.batches)) refl
joins_found end (r ∷ rs) s last done opened own e f =
    let a = bind_ok (taken end s r) (λ m. all_taken end m rs) last e in
    let t = taken_found end s r a.0 a.1 in
    let j = joins_found end rs a.0 last done (open_at end s r a.0 opened own.0 a.1) own.1 a.2 f in
    place end s.batches s.low r (bares rs) done t.0 own.0 (λ b l k o x q h. joins_at end (bares rs) done b l k x q h) s.joining a.0 opened (continues s.joining (version_in r.key)) refl t.1 j

-- ---- what is spelled so is joined

abbrev open_batch : ℕ → ℕ → ℕ → Bytes → OpenBatch
open_batch at version next bytes = record { at = at; version = version; next = next; joined = bytes }

begun_again : (end : ℕ) (d : SoFar) (r : Record) (version : ℕ) → d.low ≤ version → version < end → 0 < length r.value → begun end d r version 0 ≡ Ok (state d.batches d.low (Some (first_open r.at version r.value)))
unfolding begun
begun_again end d r version low high full = rw (le-leb d.low version low, lt-ltb version end high, lt-ltb 0 (length r.value) full) refl

continued_again : (batches : List Batch) (low : ℕ) (o : OpenBatch) (r : Record) → 0 < length r.value → continued (state batches low (Some o)) r o.next ≡ Ok (state batches low (Some (next_open o r.value)))
unfolding continued
continued_again batches low o r full = rw (eq-eqb o.next o.next refl, lt-ltb 0 (length r.value) full) refl

taken_again : (end : ℕ) (s : SoFar) (r : Record) (version part : ℕ) → r.key ≡ row_key version part → version < 2 ^ 64 → part < 2 ^ 32 → taken end s r ≡ placed end s r version part
unfolding taken
taken_again end s r version part e v p =
    let len : length r.key ≡ 12 = ap length e in
    cond-true (eqb (length r.key) 12) (placed end s r (version_in r.key) (part_in r.key)) (Err (faults.KeyLength r.at)) (eq-eqb (length r.key) 12 len)
    ∙ ap (λ (x : ℕ × ℕ). placed end s r x.0 x.1) (ap (λ (x : ℕ). (x, part_in r.key)) (ap version_in e ∙ key_version version part v) ∙ ap (λ (x : ℕ). (version, x)) (ap part_in e ∙ key_part version part p))

split_bares : (xs : List Record) (row : Row) (rows : List Row) → bares xs ≡ row ∷ rows → (r : Record) × (rs : List Record) × (xs ≡ r ∷ rs) × (bare r ≡ row) × (bares rs ≡ rows)
split_bares [] row rows e = absurd cc
split_bares (r ∷ rs) row rows e = (r, rs, refl, cc, cc)

-- further parts of the batch that is being joined
parts_again : (end : ℕ) (pieces : List Bytes) (batches : List Batch) (low : ℕ) (o : OpenBatch) (found : List Record) (others : List Row) → o.version < 2 ^ 64 → o.next + length pieces ≤ 2 ^ 32 → AllByRecursion (λ piece. 0 < length piece) pieces → bares found ≡ rows_of o.version o.next pieces ++ others
    → (rest : List Record) × (bares rest ≡ others) × (all_taken end (state batches low (Some o)) found ≡ all_taken end (state batches low (Some (open_batch o.at o.version (o.next + length pieces) (o.joined ++ joined pieces)))) rest)
parts_again end [] batches low o found others v few full e = (found, e, ap (λ (x : ℕ × Bytes). all_taken end (state batches low (Some (open_batch o.at o.version x.0 x.1))) found) (ap (λ (x : ℕ). (x, o.joined)) (sym (add-zero o.next)) ∙ ap (λ (x : Bytes). (o.next + 0, x)) (sym (append-nil o.joined))))
parts_again end (piece ∷ pieces) batches low o found others v few full e =
    let g = split_bares found (record { key = row_key o.version o.next; value = piece }) (rows_of o.version (o.next + 1) pieces ++ others) e in
    let r = g.0 in
    let key : r.key ≡ row_key o.version o.next = ap (λ (x : Row). x.key) g.3 in
    let value : r.value ≡ piece = ap (λ (x : Row). x.value) g.3 in
    let some' : 0 < length r.value = subst (λ (x : Bytes). 0 < length x) (sym value) full.0 in
    let s = state batches low (Some o) in
    let step : taken end s r ≡ Ok (state batches low (Some (next_open o r.value))) = taken_again end s r o.version o.next key v (omega arith) ∙ cond-true (eqb o.version o.version) (continued s r o.next) (finished s >>= λ d. begun end d r o.version o.next) (eq-eqb o.version o.version refl) ∙ continued_again batches low o r some' in
    let i = parts_again end pieces batches low (next_open o r.value) g.1 others v (omega arith) full.1 g.4 in
    let len : o.next + 1 + length pieces ≡ o.next + suc (length pieces) = omega arith in
    let all : (o.joined ++ r.value) ++ joined pieces ≡ o.joined ++ (piece ++ joined pieces) = append_assoc o.joined r.value (joined pieces) ∙ ap (λ (x : Bytes). o.joined ++ (x ++ joined pieces)) value in (
      i.0,
      i.1,
      ap (all_taken end s) g.2 ∙ ap (λ (q : Result SoFar LogFault). q >>= λ m. all_taken end m g.1) step ∙ i.2
          ∙ ap (λ (x : ℕ × Bytes). all_taken end (state batches low (Some (open_batch o.at o.version x.0 x.1))) i.0) (ap (λ (x : ℕ). (x, (o.joined ++ r.value) ++ joined pieces)) len ∙ ap (λ (x : Bytes). (o.next + suc (length pieces), x)) all),
    )

finish_again : (batches : List Batch) (low : ℕ) (o : OpenBatch) (muts : List Mutation) → decoded o.joined ≡ Ok muts → finished (state batches low (Some o)) ≡ Ok (state (batches ++ batch_of o.version muts ∷ []) (o.version + 1) None)
unfolding finished
finish_again batches low o muts e = ap (with_batch (state batches low (Some o)) o) e

pub record Gives (end : ℕ) (s : SoFar) (found : List Record) (batches : List Batch) : Type 0 where
  pub done : SoFar
  pub took : (all_taken end s found >>= finished) ≡ Ok done
  pub batches-are : done.batches ≡ batches

-- one batch, and then the others
one_batch : (end : ℕ) (batch : Batch) (batches : List Batch) (pieces : List Bytes) (others : List Row) (found : List Record) (s d : SoFar) → end < 2 ^ 64 → finished s ≡ Ok d → ((version : ℕ) → d.low ≤ version → continues s.joining version ≡ false)
    → AreOf pieces batch → d.low ≤ batch.version → batch.version < end → bares found ≡ rows_of batch.version 0 pieces ++ others
    → ((rest : List Record) (t : SoFar) → finished t ≡ Ok (state (d.batches ++ batch ∷ []) (batch.version + 1) None) → ((version : ℕ) → batch.version + 1 ≤ version → continues t.joining version ≡ false) → bares rest ≡ others → Gives end t rest ((d.batches ++ batch ∷ []) ++ batches))
    → Gives end s found (d.batches ++ (batch ∷ batches))
one_batch end batch batches [] others found s d high f other are low lt e ih = absurd (omega (arith, are.some))
one_batch end batch batches (piece ∷ pieces) others found s d high f other are low lt e ih =
    let g = split_bares found (record { key = row_key batch.version 0; value = piece }) (rows_of batch.version 1 pieces ++ others) e in
    let r = g.0 in
    let v : batch.version < 2 ^ 64 = omega arith in
    let key : r.key ≡ row_key batch.version 0 = ap (λ (x : Row). x.key) g.3 in
    let value : r.value ≡ piece = ap (λ (x : Row). x.value) g.3 in
    let some' : 0 < length r.value = subst (λ (x : Bytes). 0 < length x) (sym value) are.none_empty.0 in
    let o = first_open r.at batch.version r.value in
    let begins : begun end d r batch.version 0 ≡ Ok (state d.batches d.low (Some o)) = begun_again end d r batch.version low lt some' in
    let step : taken end s r ≡ Ok (state d.batches d.low (Some o)) =
    taken_again end s r batch.version 0 key v (omega arith) ∙ cond-false (continues s.joining batch.version) (continued s r 0) (finished s >>= λ x. begun end x r batch.version 0) (other batch.version low)
    ∙ ap (λ (q : Result SoFar LogFault). q >>= λ x. begun end x r batch.version 0) f ∙ begins in
    let i = parts_again end pieces d.batches d.low o g.1 others v (omega (arith, are.few)) are.none_empty.1 g.4 in
    let full = open_batch r.at batch.version (1 + length pieces) (r.value ++ joined pieces) in
    let spelled : r.value ++ joined pieces ≡ batch_spelling batch.muts = ap (λ (x : Bytes). x ++ joined pieces) value ∙ are.spelled in
    let t = state d.batches d.low (Some full) in
    let ends : finished t ≡ Ok (state (d.batches ++ batch ∷ []) (batch.version + 1) None) = finish_again d.batches d.low full batch.muts (ap decoded spelled ∙ decoded_again batch.muts are.has) in
    let k = ih i.0 t ends (λ version le. ne_eqb version batch.version (λ q. absurd (omega arith))) i.1 in
    record {
      done = k.done;
      took = ap (λ (x : List Record). all_taken end s x >>= finished) g.2 ∙ ap (λ (q : Result SoFar LogFault). (q >>= λ m. all_taken end m g.1) >>= finished) step ∙ ap (λ (q : Result SoFar LogFault). q >>= finished) i.2 ∙ k.took;
      batches-are = k.batches-are ∙ append_assoc d.batches (batch ∷ []) batches;
    }

pub spelled_again : (end : ℕ) (batches : List Batch) (rows : List Row) (found : List Record) (s d : SoFar) → end < 2 ^ 64 → finished s ≡ Ok d → ((version : ℕ) → d.low ≤ version → continues s.joining version ≡ false) → Spell d.low end batches rows → bares found ≡ rows → Gives end s found (d.batches ++ batches)
spelled_again end [] rows [] s d high f other spell e = record { done = d; took = f; batches-are = sym (append-nil d.batches) }
spelled_again end [] rows (r ∷ found) s d high f other spell e = absurd (let bad = e ∙ spell in cc)
spelled_again end (batch ∷ batches) rows found s d high f other spell e =
    one_batch end batch batches spell.0 spell.1 found s d high f other spell.3 spell.4 spell.5 (e ∙ spell.2)
    (λ rest t g h q. spelled_again end batches spell.1 rest t (state (d.batches ++ batch ∷ []) (batch.version + 1) None) high g h spell.6 q)
