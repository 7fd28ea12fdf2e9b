-- A file that is read is in the grammar, and one that is in the grammar is read.
use Rattle.std.proofs.Common.{◌≡◌, ℕ, zero, suc, ◌+◌, ◌^◌, ◌<◌, ◌≤◌, Bool, true, false, cond, ◌&&◌, leb, List, [], ◌∷◌, ◌++◌, length, take, drop, Option, Some, None, Result, Ok, Err, inl, inr, refl, sym, ap, subst, ◌∙◌, append_assoc, arith, lit<}
use Rattle.std.specs.Prelude.{IsSome, IfOk, IfErr, MatchResult, MatchOption}
use Rattle.std.specs.Option.{option_to_list}
use Rattle.std.proofs.lemmas.Bool.{and_parts, and_from, leb-true, leb-false, le-leb, lt-leb}
use Rattle.std.proofs.lemmas.List.{nil_from_length, take_all, take_at, drop_at, take-append-drop, length-append, length-take, length-drop}
use Rattle.fb_bytes.specs.Bytes.{Bytes, IsBytes, is_same}
use Rattle.fb_bytes.specs.Pairs.{AreRising}
use Rattle.fb_bytes.specs.declared.Pair.{Pair}
use Rattle.block_frame.proofs.Strings.{IsBytes-take, IsBytes-drop}
use Rattle.range_files.specs.declared.block.Block.{Block}
use Rattle.range_files.specs.declared.file.RangeBody.{RangeBody}
use Rattle.range_files.specs.declared.fault.BlockFault.{BlockFault}
use Rattle.range_files.specs.declared.fault.BlockFault.TheVariants.{Join, NoMemory}
use Rattle.range_files.specs.Grammar.{format, IsBlock, StartsAt, IsBlockAt, RangeFile, LastBlock, EarlierBlock}
use Rattle.range_files.specs.Reading.{Fails, ◌>>=◌, block_of, last_of, all_but_last, link_of, begins_with, joins, last_body, after_block, blocks_from, read, ok_side}
use Rattle.range_files.specs.inner.Front.{before_of, all_pairs, first_begin, Grows}
use Rattle.range_files.specs.declared.file.Front.{Front}
use Rattle.range_files.specs.Laws.{ReadIsFile, FileIsRead, OneBody}
use Rattle.fb_bytes.proofs.Results.{bind_ok, test_ok, ok_is, ok_from_side, fuel_is}
use Rattle.fb_bytes.proofs.Order.{same_eq, same_itself}
use Rattle.range_files.proofs.Order.{ordered_rising, rising_joined}
use Rattle.range_files.proofs.Blocks.{block_found, block_again, block_text-append}

-- ---- the last pair of a block

pub last_split : (pairs : List Pair) (pair : Pair) → last_of pairs ≡ Some pair → pairs ≡ all_but_last pairs ++ (pair ∷ [])
last_split [] pair e = absurd cc
last_split (first ∷ []) pair e = let is : first ≡ pair = cc in ap (λ (p : Pair). p ∷ []) is
last_split (first ∷ next ∷ pairs) pair e = ap (λ (ps : List Pair). first ∷ ps) (last_split (next ∷ pairs) pair e)

pub last_of-push : (pairs : List Pair) (pair : Pair) → last_of (pairs ++ (pair ∷ [])) ≡ Some pair
last_of-push [] pair = refl
last_of-push (first ∷ []) pair = refl
last_of-push (first ∷ next ∷ pairs) pair = last_of-push (next ∷ pairs) pair

pub all_but_last-push : (pairs : List Pair) (pair : Pair) → all_but_last (pairs ++ (pair ∷ [])) ≡ pairs
all_but_last-push [] pair = refl
all_but_last-push (first ∷ []) pair = refl
all_but_last-push (first ∷ next ∷ pairs) pair = ap (λ (ps : List Pair). first ∷ ps) (all_but_last-push (next ∷ pairs) pair)

-- ---- blocks that go on from one another

abbrev pub BeginsWith : Pair → List Pair → Type 0
BeginsWith pair pairs = (others : List Pair) × (pairs ≡ pair ∷ others)

same_pair : (a b : Pair) → (is_same a.key b.key && is_same a.value b.value) ≡ true → a ≡ b
same_pair a b e =
    let p = and_parts (is_same a.key b.key) (is_same a.value b.value) e in
    ap (λ (k : Bytes). record { key = k; value = a.value }) (same_eq a.key b.key p.0) ∙ ap (λ (v : Bytes). record { key = b.key; value = v }) (same_eq a.value b.value p.1)

begins_found : (pair : Pair) (pairs : List Pair) → begins_with pair pairs ≡ true → BeginsWith pair pairs
begins_found pair [] e = absurd cc
begins_found pair (first ∷ pairs) e = (pairs, ap (λ (p : Pair). p ∷ pairs) (same_pair first pair e))

begins_again : (pair : Pair) (pairs : List Pair) → BeginsWith pair pairs → begins_with pair pairs ≡ true
begins_again pair pairs b = ap (begins_with pair) b.1 ∙ and_from (is_same pair.key pair.key) (is_same pair.value pair.value) (same_itself pair.key) (same_itself pair.value)

-- the file's text goes on from what came before
abbrev pub Joined : Option (Option Pair) → Bytes → List Pair → Type 0
Joined None begin pairs = Unit {0}
Joined (Some None) begin pairs = ⊥
Joined (Some (Some pair)) begin pairs = (begin ≡ pair.key) × BeginsWith pair pairs

joined_found : (before : Option (Option Pair)) (block : Block) → joins before block ≡ true → Joined before block.begin block.pairs
joined_found None block e = tt
joined_found (Some None) block e = absurd cc
joined_found (Some (Some pair)) block e =
    let p = and_parts (is_same block.begin pair.key) (begins_with pair block.pairs) e in
    (same_eq block.begin pair.key p.0, begins_found pair block.pairs p.1)

joined_again : (before : Option (Option Pair)) (begin : Bytes) (pairs : List Pair) (end : Option Bytes) → Joined before begin pairs → joins before (record { begin = begin; pairs = pairs; end = end }) ≡ true
joined_again None begin pairs end j = refl
joined_again (Some None) begin pairs end j = absurd j
joined_again (Some (Some pair)) begin pairs end j = and_from (is_same begin pair.key) (begins_with pair pairs) (ap (λ (b : Bytes). is_same b pair.key) j.0 ∙ same_itself pair.key) (begins_again pair pairs j.1)

begins_kept : (first : Pair) (before : List Pair) (pair : Pair) (others : List Pair) → BeginsWith first (before ++ (pair ∷ [])) → BeginsWith first (before ++ (pair ∷ others))
begins_kept first [] pair others b = let is : pair ≡ first = cc (b.1) in (others, ap (λ (p : Pair). p ∷ others) is)
begins_kept first (a ∷ before) pair others b = let is : a ≡ first = cc (b.1) in (before ++ (pair ∷ others), ap (λ (p : Pair). p ∷ (before ++ (pair ∷ others))) is)

begins_back : (first : Pair) (before : List Pair) (pair : Pair) (others : List Pair) → BeginsWith first (before ++ (pair ∷ others)) → BeginsWith first (before ++ (pair ∷ []))
begins_back first [] pair others b = let is : pair ≡ first = cc (b.1) in ([], ap (λ (p : Pair). p ∷ []) is)
begins_back first (a ∷ before) pair others b = let is : a ≡ first = cc (b.1) in (before ++ (pair ∷ []), ap (λ (p : Pair). p ∷ (before ++ (pair ∷ []))) is)

joined_kept : (link : Option (Option Pair)) (begin : Bytes) (before : List Pair) (pair : Pair) (others : List Pair) → Joined link begin (before ++ (pair ∷ [])) → Joined link begin (before ++ (pair ∷ others))
joined_kept None begin before pair others j = tt
joined_kept (Some None) begin before pair others j = j
joined_kept (Some (Some first)) begin before pair others j = (j.0, begins_kept first before pair others j.1)

joined_back : (link : Option (Option Pair)) (begin : Bytes) (before : List Pair) (pair : Pair) (others : List Pair) → Joined link begin (before ++ (pair ∷ others)) → Joined link begin (before ++ (pair ∷ []))
joined_back None begin before pair others j = tt
joined_back (Some None) begin before pair others j = j
joined_back (Some (Some first)) begin before pair others j = (j.0, begins_back first before pair others j.1)

-- ---- what is read is in the grammar

pub record IsReadFile (size : ℕ) (before : Option (Option Pair)) (bytes : Bytes) (body : RangeBody) : Type 0 where
  pub file : RangeFile size bytes body.begin body.end body.pairs
  pub joined : Joined before body.begin body.pairs

last_found : (size at : ℕ) (before : Option (Option Pair)) (bytes begin : Bytes) (pairs : List Pair) (end : Option Bytes) (body : RangeBody) → IsBlock format bytes begin pairs end → length bytes ≤ size → Joined before begin pairs → last_body at begin pairs end ≡ Ok body → IsReadFile size before bytes body
last_found size at before bytes begin pairs None body b small j e = absurd cc
last_found size at before bytes begin pairs (Some end) body b small j e =
    let made : RangeBody = record { begin = begin; end = end; pairs = pairs } in
    let is : made ≡ body = ok_is made body (Ok made) refl e in
    subst (λ (x : RangeBody). IsReadFile size before bytes x) is (record { file = LastBlock b small; joined = j })

earlier_found : (size : ℕ) (before : Option (Option Pair)) (bytes begin : Bytes) (pairs : List Pair) (end : Option Bytes) (more : RangeBody) → size < length bytes → IsBlock format (take size bytes) begin pairs end → Joined before begin pairs
    → IsReadFile size (Some (link_of (record { begin = begin; pairs = pairs; end = end }))) (drop size bytes) more
    → IsReadFile size before bytes (record { begin = begin; end = more.end; pairs = all_but_last pairs ++ more.pairs })
earlier_found size before bytes begin pairs (Some end) more long b j r = absurd r.joined
earlier_found size before bytes begin pairs None more long b j r = go (last_of pairs) refl r.joined
  where
    go : (link : Option Pair) → last_of pairs ≡ link → Joined (Some link) more.begin more.pairs → IsReadFile size before bytes (record { begin = begin; end = more.end; pairs = all_but_last pairs ++ more.pairs })
    go None e g = absurd g
    go (Some pair) e g =
        let others = g.1.0 in
        let split = last_split pairs pair e in
        let rest : RangeFile size (drop size bytes) pair.key more.end (pair ∷ others) = subst (λ (x : Bytes × List Pair). RangeFile size (drop size bytes) x.0 more.end x.1) (ap (λ (k : Bytes). (k, more.pairs)) g.0 ∙ ap (λ (ps : List Pair). (pair.key, ps)) g.1.1) r.file in
        let all : all_but_last pairs ++ more.pairs ≡ all_but_last pairs ++ (pair ∷ others) = ap (λ (ps : List Pair). all_but_last pairs ++ ps) g.1.1 in
        let block : IsBlock format (take size bytes) begin (all_but_last pairs ++ (pair ∷ [])) None = subst (λ (ps : List Pair). IsBlock format (take size bytes) begin ps None) split b in
        let joined : Joined before begin (all_but_last pairs ++ (pair ∷ others)) = joined_kept before begin (all_but_last pairs) pair others (subst (λ (ps : List Pair). Joined before begin ps) split j) in
        record {
          file = EarlierBlock (take size bytes) (drop size bytes) (all_but_last pairs) others pair (sym (take-append-drop size bytes)) all block (omega (arith, length-take size bytes)) rest;
          joined = subst (λ (ps : List Pair). Joined before begin ps) (sym all) joined;
        }

found_rest : (fuel size index base : ℕ) (before : Option (Option Pair)) (bytes : Bytes) (body : RangeBody) → IsBytes bytes → (block : Block) → IsBlock format (take size bytes) block.begin block.pairs block.end → Joined before block.begin block.pairs
    → ((more : RangeBody) → IsBytes (drop size bytes) → blocks_from fuel size (index + 1) (base + size) (Some (link_of block)) (drop size bytes) ≡ Ok more → IsReadFile size (Some (link_of block)) (drop size bytes) more)
    → (c : Bool) → leb (length bytes) size ≡ c
    → cond c (last_body (base + length bytes) block.begin block.pairs block.end) (blocks_from fuel size (index + 1) (base + size) (Some (link_of block)) (drop size bytes) >>= λ more. Ok (after_block block more)) ≡ Ok body → IsReadFile size before bytes body
found_rest fuel size index base before bytes body fits block b j ih true c g =
    last_found size (base + length bytes) before bytes block.begin block.pairs block.end body (subst (λ (x : Bytes). IsBlock format x block.begin block.pairs block.end) (take_all size bytes (leb-true _ _ c)) b) (leb-true _ _ c) j g
found_rest fuel size index base before bytes body fits block b j ih false c g =
    let m = bind_ok (blocks_from fuel size (index + 1) (base + size) (Some (link_of block)) (drop size bytes)) (λ more. Ok (after_block block more)) body g in
    let r = ih m.0 (IsBytes-drop size bytes fits) m.1 in
    let is : after_block block m.0 ≡ body = ok_is (after_block block m.0) body (Ok (after_block block m.0)) refl m.2 in
    subst (λ (x : RangeBody). IsReadFile size before bytes x) is (earlier_found size before bytes block.begin block.pairs block.end m.0 (leb-false _ _ c) b j r)

pub blocks_found : (fuel size index base : ℕ) (before : Option (Option Pair)) (bytes : Bytes) (body : RangeBody) → IsBytes bytes → blocks_from fuel size index base before bytes ≡ Ok body → IsReadFile size before bytes body
unfolding blocks_from
blocks_found zero size index base before bytes body fits e = absurd cc
blocks_found (suc fuel) size index base before bytes body fits e =
    let go_on : Block → Result RangeBody BlockFault = λ block. blocks_from fuel size (index + 1) (base + size) (Some (link_of block)) (drop size bytes) >>= λ more. Ok (after_block block more) in
    let a = bind_ok (block_of format base (take size bytes)) (λ block. cond (joins before block) (cond (leb (length bytes) size) (last_body (base + length bytes) block.begin block.pairs block.end) (go_on block)) (Err (Join index))) body e in
    let block = a.0 in
    let t = test_ok (joins before block) (cond (leb (length bytes) size) (last_body (base + length bytes) block.begin block.pairs block.end) (go_on block)) (Join index) body a.2 in
    let b = block_found format base (take size bytes) block (IsBytes-take size bytes fits) a.1 in
    let j = joined_found before block t.0 in
    found_rest fuel size index base before bytes body fits block b.is j (λ more f g. blocks_found fuel size (index + 1) (base + size) (Some (link_of block)) (drop size bytes) more f g) (leb (length bytes) size) refl t.1

-- ---- what is in the grammar is read

block_size : (text begin : Bytes) (pairs : List Pair) (end : Option Bytes) → IsBlock format text begin pairs end → 0 < length text
block_size text begin pairs end b = rw (b.parts ∙ block_text-append format begin pairs end b.padding) (omega arith)

file_size : {size : ℕ} {text begin end : Bytes} {pairs : List Pair} → RangeFile size text begin end pairs → 0 < length text
file_size (LastBlock {text = text} {begin = begin} {end = end} {pairs = pairs} b small) = block_size text begin pairs (Some end) b
file_size (EarlierBlock {text = text} {begin = begin} front rest before others pair parts all b full more) = omega (arith, ap length parts, length-append front rest, block_size front begin (before ++ (pair ∷ [])) None b)

-- without a block before it stands at the file's begin
abbrev pub Stands : Option (Option Pair) → ℕ → Bytes → List Pair → Type 0
Stands None base begin pairs = base ≡ 0
Stands (Some link) base begin pairs = Joined (Some link) begin pairs

stands_joined : (before : Option (Option Pair)) (base : ℕ) (begin : Bytes) (pairs : List Pair) → Stands before base begin pairs → Joined before begin pairs
stands_joined None base begin pairs s = tt
stands_joined (Some link) base begin pairs s = s

stands_start : (before : Option (Option Pair)) (base : ℕ) (begin : Bytes) (pairs : List Pair) → Stands before base begin pairs → 0 < base → StartsAt begin pairs
stands_start None base begin pairs s e = absurd (omega arith)
stands_start (Some None) base begin pairs s e = absurd s
stands_start (Some (Some pair)) base begin pairs s e = subst (λ (ps : List Pair). StartsAt begin ps) (sym s.1.1) (sym s.0)

stands_back : (link : Option (Option Pair)) (base : ℕ) (begin : Bytes) (before : List Pair) (pair : Pair) (others : List Pair) → Stands link base begin (before ++ (pair ∷ others)) → Stands link base begin (before ++ (pair ∷ []))
stands_back None base begin before pair others s = s
stands_back (Some link) base begin before pair others s = joined_back (Some link) begin before pair others s

last_step : (fuel size index base : ℕ) (before : Option (Option Pair)) (bytes begin end : Bytes) (pairs : List Pair) → block_of format base (take size bytes) ≡ Ok (record { begin = begin; pairs = pairs; end = Some end }) → joins before (record { begin = begin; pairs = pairs; end = Some end }) ≡ true → leb (length bytes) size ≡ true
    → blocks_from (suc fuel) size index base before bytes ≡ Ok (record { begin = begin; end = end; pairs = pairs })
unfolding blocks_from
last_step fuel size index base before bytes begin end pairs b j l = rw (b, j, l) refl

pub earlier_step : (fuel size index base : ℕ) (before : Option (Option Pair)) (bytes : Bytes) (block : Block) → block_of format base (take size bytes) ≡ Ok block → joins before block ≡ true → leb (length bytes) size ≡ false
    → blocks_from (suc fuel) size index base before bytes ≡ (blocks_from fuel size (index + 1) (base + size) (Some (link_of block)) (drop size bytes) >>= λ more. Ok (after_block block more))
unfolding blocks_from
earlier_step fuel size index base before bytes block b j l = rw (b, j, l) refl

pub blocks_again : {size : ℕ} {text begin end : Bytes} {pairs : List Pair} → RangeFile size text begin end pairs → (fuel index base : ℕ) (before : Option (Option Pair)) → length text < fuel → Stands before base begin pairs
    → blocks_from fuel size index base before text ≡ Ok (record { begin = begin; end = end; pairs = pairs })
blocks_again f zero index base before lt s = absurd (omega arith)
blocks_again (LastBlock {size = size} {text = text} {begin = begin} {end = end} {pairs = pairs} b small) (suc fuel) index base before lt s =
    let whole : take size text ≡ text = take_all size text small in
    let one : block_of format base (take size text) ≡ Ok (record { begin = begin; pairs = pairs; end = Some end }) = ap (block_of format base) whole ∙ block_again format base text begin pairs (Some end) (lit< tt) (record { is = b; starts = stands_start before base begin pairs s }) in
    last_step fuel size index base before text begin end pairs one (joined_again before begin pairs (Some end) (stands_joined before base begin pairs s)) (le-leb (length text) size small)
blocks_again (EarlierBlock {size = size} {text = text} {begin = begin} {end = end} {pairs = pairs} front rest before' others pair parts all b full more) (suc fuel) index base before lt s =
    let some = file_size more in
    let full' = block_size front begin (before' ++ (pair ∷ [])) None b in
    let front-is : take size text ≡ front = ap (take size) parts ∙ take_at front rest size full in
    let rest-is : drop size text ≡ rest = ap (drop size) parts ∙ drop_at front rest size full in
    let len = length-append front rest in
    let sizes = ap length parts in
    let stands : Stands before base begin (before' ++ (pair ∷ others)) = subst (λ (ps : List Pair). Stands before base begin ps) all s in
    let back = stands_back before base begin before' pair others stands in
    let block : Block = record { begin = begin; pairs = before' ++ (pair ∷ []); end = None } in
    let one : block_of format base (take size text) ≡ Ok block = ap (block_of format base) front-is ∙ block_again format base front begin (before' ++ (pair ∷ [])) None (lit< tt) (record { is = b; starts = stands_start before base begin (before' ++ (pair ∷ [])) back }) in
    let joined = joined_again before begin (before' ++ (pair ∷ [])) None (stands_joined before base begin (before' ++ (pair ∷ [])) back) in
    let long : leb (length text) size ≡ false = lt-leb (length text) size (omega arith) in
    let next = blocks_again more fuel (index + 1) (base + size) (Some (Some pair)) (omega arith) (refl, (others, refl)) in
    let body : RangeBody = record { begin = pair.key; end = end; pairs = pair ∷ others } in
    earlier_step fuel size index base before text block one joined long
    ∙ ap (λ (x : Option Pair × Bytes). blocks_from fuel size (index + 1) (base + size) (Some x.0) x.1 >>= λ m. Ok (after_block block m)) (ap (λ (l : Option Pair). (l, drop size text)) (last_of-push before' pair) ∙ ap (λ (r : Bytes). (Some pair, r)) rest-is)
    ∙ ap (λ (r : Result RangeBody BlockFault). r >>= λ m. Ok (after_block block m)) next
    ∙ ap (λ (ps : List Pair). Ok (record { begin = begin; end = end; pairs = ps })) (ap (λ (ps : List Pair). ps ++ (pair ∷ others)) (all_but_last-push before' pair) ∙ sym all)

pub file_rising : {size : ℕ} {text begin end : Bytes} {pairs : List Pair} → RangeFile size text begin end pairs → AreRising pairs
file_rising (LastBlock {begin = begin} {end = end} {pairs = pairs} b small) = ordered_rising begin pairs (Some end) b.ordered
file_rising (EarlierBlock {begin = begin} front rest before others pair parts all b full more) =
    subst AreRising (sym all) (rising_joined before pair others (ordered_rising begin (before ++ (pair ∷ [])) None b.ordered) (file_rising more))

-- ---- the laws

pub read_again : (size : ℕ) (bytes begin end : Bytes) (pairs : List Pair) → RangeFile size bytes begin end pairs → read size bytes ≡ Ok (record { begin = begin; end = end; pairs = pairs })
unfolding read
read_again size bytes begin end pairs f = blocks_again f (length bytes + 1) 0 0 None (omega arith) refl

pub read_found : (size : ℕ) (bytes : Bytes) (body : RangeBody) → IsBytes bytes → read size bytes ≡ Ok body → RangeFile size bytes body.begin body.end body.pairs
unfolding read
read_found size bytes body fits e = (blocks_found (length bytes + 1) size 0 0 None bytes body fits e).file

pub read_is_file : ReadIsFile
read_is_file size bytes body fits e = read_found size bytes body fits (ok_from_side (read size bytes) body e)

pub file_is_read : FileIsRead
file_is_read size bytes begin end pairs f = ap ok_side (read_again size bytes begin end pairs f)

pub one_body : OneBody
one_body size bytes begin end begin' end' pairs pairs' f g =
    let made : RangeBody = record { begin = begin; end = end; pairs = pairs } in
    let made' : RangeBody = record { begin = begin'; end = end'; pairs = pairs' } in
    let is : made ≡ made' = ok_is made made' (read size bytes) (read_again size bytes begin end pairs f) (read_again size bytes begin' end' pairs' g) in
    (ap (λ (b : RangeBody). b.begin) is, ap (λ (b : RangeBody). b.end) is, ap (λ (b : RangeBody). b.pairs) is)

-- ---- as a loop goes on

abbrev pub behind_front : Option Front → Result RangeBody BlockFault → Result RangeBody BlockFault
behind_front None reading = reading
behind_front (Some front) reading = reading >>= λ body. Ok (record { begin = front.begin; end = body.end; pairs = front.pairs.items ++ body.pairs })

-- the blocks so far were read, and reading goes on with the rest
pub record FileSoFar (front : Option Front) (size index base : ℕ) (rest : Bytes) (total : Result RangeBody BlockFault) : Type 0 where
  pub fuel : ℕ
  pub enough : length rest < fuel
  pub same : behind_front front (blocks_from fuel size index base (before_of front) rest) ≡ total

pub file_begins : (size : ℕ) (bytes : Bytes) → FileSoFar None size 0 0 bytes (read size bytes)
unfolding read
file_begins size bytes = record { fuel = length bytes + 1; enough = omega arith; same = refl }

bad_block : (fuel size index base : ℕ) (before : Option (Option Pair)) (bytes : Bytes) (fault : BlockFault) → block_of format base (take size bytes) ≡ Err fault → blocks_from (suc fuel) size index base before bytes ≡ Err fault
unfolding blocks_from
bad_block fuel size index base before bytes fault e = rw e refl

bad_join : (fuel size index base : ℕ) (before : Option (Option Pair)) (bytes : Bytes) (block : Block) → block_of format base (take size bytes) ≡ Ok block → joins before block ≡ false → blocks_from (suc fuel) size index base before bytes ≡ Err (Join index)
unfolding blocks_from
bad_join fuel size index base before bytes block e j = rw (e, j) refl

last_read : (fuel size index base : ℕ) (before : Option (Option Pair)) (bytes : Bytes) (block : Block) → block_of format base (take size bytes) ≡ Ok block → joins before block ≡ true → leb (length bytes) size ≡ true → blocks_from (suc fuel) size index base before bytes ≡ last_body (base + length bytes) block.begin block.pairs block.end
unfolding blocks_from
last_read fuel size index base before bytes block e j l = rw (e, j, l) refl

fault_behind : (front : Option Front) (fault : BlockFault) → behind_front front (Err fault) ≡ Err fault
fault_behind None fault = refl
fault_behind (Some front) fault = refl

pub file_bad_block : (front : Option Front) (size index base : ℕ) (rest : Bytes) (total : Result RangeBody BlockFault) (fault : BlockFault) → FileSoFar front size index base rest total → block_of format base (take size rest) ≡ Err fault → total ≡ Err fault
file_bad_block front size index base rest total fault s e =
    let f = fuel_is (length rest) s.fuel s.enough in
    sym s.same ∙ ap (λ (n : ℕ). behind_front front (blocks_from n size index base (before_of front) rest)) f.1 ∙ ap (behind_front front) (bad_block f.0 size index base (before_of front) rest fault e) ∙ fault_behind front fault

pub file_bad_join : (front : Option Front) (size index base : ℕ) (rest : Bytes) (total : Result RangeBody BlockFault) (block : Block) → FileSoFar front size index base rest total → block_of format base (take size rest) ≡ Ok block → joins (before_of front) block ≡ false → total ≡ Err (Join index)
file_bad_join front size index base rest total block s e j =
    let f = fuel_is (length rest) s.fuel s.enough in
    sym s.same ∙ ap (λ (n : ℕ). behind_front front (blocks_from n size index base (before_of front) rest)) f.1 ∙ ap (behind_front front) (bad_join f.0 size index base (before_of front) rest block e j) ∙ fault_behind front (Join index)

last_behind : (front : Option Front) (at : ℕ) (begin : Bytes) (pairs : List Pair) (end : Option Bytes) → behind_front front (last_body at begin pairs end) ≡ last_body at (first_begin front begin) (all_pairs front pairs) end
last_behind None at begin pairs end = refl
last_behind (Some front) at begin pairs None = refl
last_behind (Some front) at begin pairs (Some end) = refl

pub file_last : (front : Option Front) (size index base : ℕ) (rest : Bytes) (total : Result RangeBody BlockFault) (block : Block) → FileSoFar front size index base rest total → block_of format base (take size rest) ≡ Ok block → joins (before_of front) block ≡ true → length rest ≤ size
    → total ≡ last_body (base + length rest) (first_begin front block.begin) (all_pairs front block.pairs) block.end
file_last front size index base rest total block s e j small =
    let f = fuel_is (length rest) s.fuel s.enough in
    sym s.same ∙ ap (λ (n : ℕ). behind_front front (blocks_from n size index base (before_of front) rest)) f.1 ∙ ap (behind_front front) (last_read f.0 size index base (before_of front) rest block e j (le-leb (length rest) size small)) ∙ last_behind front (base + length rest) block.begin block.pairs block.end

behind_both : (front : Option Front) (block : Block) (grown : Front) (reading : Result RangeBody BlockFault) → Grows front block grown → behind_front front (reading >>= λ more. Ok (after_block block more)) ≡ behind_front (Some grown) reading
behind_both None block grown (Err fault) g = refl
behind_both (Some front) block grown (Err fault) g = refl
behind_both None block grown (Ok body) g = ap (λ (x : Bytes × List Pair). Ok (record { begin = x.0; end = body.end; pairs = x.1 ++ body.pairs })) (ap (λ (b : Bytes). (b, all_but_last block.pairs)) (sym g.begin_is) ∙ ap (λ (ps : List Pair). (grown.begin, ps)) (sym g.pairs_are))
behind_both (Some front) block grown (Ok body) g =
    ap (λ (ps : List Pair). Ok (record { begin = front.begin; end = body.end; pairs = ps })) (sym (append_assoc front.pairs.items (all_but_last block.pairs) body.pairs))
    ∙ ap (λ (x : Bytes × List Pair). Ok (record { begin = x.0; end = body.end; pairs = x.1 ++ body.pairs })) (ap (λ (b : Bytes). (b, front.pairs.items ++ all_but_last block.pairs)) (sym g.begin_is) ∙ ap (λ (ps : List Pair). (grown.begin, ps)) (sym g.pairs_are))

pub file_goes_on : (front : Option Front) (size index base : ℕ) (rest : Bytes) (total : Result RangeBody BlockFault) (block : Block) (grown : Front) → FileSoFar front size index base rest total → block_of format base (take size rest) ≡ Ok block → joins (before_of front) block ≡ true → 0 < size → size < length rest → Grows front block grown
    → FileSoFar (Some grown) size (index + 1) (base + size) (drop size rest) total
file_goes_on front size index base rest total block grown s e j some long g =
    let f = fuel_is (length rest) s.fuel s.enough in
    let more = blocks_from f.0 size (index + 1) (base + size) (Some (link_of block)) (drop size rest) in
    record {
      fuel = f.0;
      enough = omega (arith, length-drop size rest, f.1, s.enough);
      same = ap (λ (l : Option Pair). behind_front (Some grown) (blocks_from f.0 size (index + 1) (base + size) (Some l) (drop size rest))) g.link_is
          ∙ sym (behind_both front block grown more g)
          ∙ ap (behind_front front) (sym (earlier_step f.0 size index base (before_of front) rest block e j (lt-leb (length rest) size long)))
          ∙ ap (λ (n : ℕ). behind_front front (blocks_from n size index base (before_of front) rest)) (sym f.1) ∙ s.same;
    }

-- ---- what `pop` leaves

pub popped : (pairs left : List Pair) (last : Option Pair) (n : ℕ) (B : Type 0) (Q : Pair → Type 0) → pairs ≡ left ++ option_to_list last → n ≡ length pairs → MatchOption last ((n ≡ 0) × B) Q → (left ≡ all_but_last pairs) × (last ≡ last_of pairs)
popped pairs left (Some pair) n B Q e len cases = (sym (ap all_but_last e ∙ all_but_last-push left pair), sym (ap last_of e ∙ last_of-push left pair))
popped [] left None n B Q e len cases = (nil_from_length left (omega (arith, ap length e, length-append {A = Pair} left [])), refl)
popped (pair ∷ pairs) left None n B Q e len cases = absurd (omega (arith, cases.0))

-- ---- for the loop's goals

pub finish_rising : (size at : ℕ) (bytes begin : Bytes) (pairs : List Pair) (end : Option Bytes) → IsBytes bytes → read size bytes ≡ last_body at begin pairs end → IsSome end → AreRising pairs
finish_rising size at bytes begin pairs None fits e some = absurd cc
finish_rising size at bytes begin pairs (Some end) fits e some = file_rising (read_found size bytes (record { begin = begin; end = end; pairs = pairs }) fits e)

pub only_block : (number base : ℕ) (bytes begin : Bytes) (pairs : List Pair) (end : Option Bytes) (r : Result Block BlockFault) → number < 2 ^ 32 → IsBlockAt number base bytes begin pairs end → IfOk r (λ block. block_of number base bytes ≡ Ok block) → IfErr r (λ fault. Fails fault (block_of number base bytes))
    → MatchResult r (λ block. block ≡ record { begin = begin; pairs = pairs; end = end }) (λ fault. fault ≡ NoMemory)
only_block number base bytes begin pairs end (Ok block) small at ok err = ok_is block (record { begin = begin; pairs = pairs; end = end }) (block_of number base bytes) ok (block_again number base bytes begin pairs end small at)
only_block number base bytes begin pairs end (Err fault) small at ok err = elim err [ inl memory ↦ memory | inr met ↦ absurd (let both = sym met ∙ block_again number base bytes begin pairs end small at in cc) ]

pub only_this : (size : ℕ) (bytes begin end : Bytes) (pairs : List Pair) (r : Result RangeBody BlockFault) → RangeFile size bytes begin end pairs → IfOk r (λ body. read size bytes ≡ Ok body) → IfErr r (λ fault. Fails fault (read size bytes)) → MatchResult r (λ body. body ≡ record { begin = begin; end = end; pairs = pairs }) (λ fault. fault ≡ NoMemory)
only_this size bytes begin end pairs (Ok body) f ok err = ok_is body (record { begin = begin; end = end; pairs = pairs }) (read size bytes) ok (read_again size bytes begin end pairs f)
only_this size bytes begin end pairs (Err fault) f ok err = elim err [ inl memory ↦ memory | inr met ↦ absurd (let both = sym met ∙ read_again size bytes begin end pairs f in cc) ]
