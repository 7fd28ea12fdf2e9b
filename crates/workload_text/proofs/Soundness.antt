-- What a line says is within its limits, and stands where it may.
use Rattle.std.proofs.Common.{◌≡◌, ℕ, ◌<◌, Bool, true, false, not, ◌&&◌, ◌||◌, List, [], ◌∷◌, ◌++◌, length, Option, Some, None, Ok, Err, refl, sym, ap, subst, arith, nat_le, codes, if◌then◌else◌, IfOk, nat_cmp, Equal}
use Rattle.std.specs.List.{list_all}
use Rattle.std.proofs.lemmas.Cmp.{nat_cmp_total, tied_itself}
use Rattle.std.proofs.lemmas.Bool.{and_parts, and_from, leb-true}
use Rattle.fb_bytes.specs.declared.KeyRange.{KeyRange}
use Rattle.fb_bytes.specs.Bytes.{Bytes, is_same, is_below}
use Rattle.fb_bytes.specs.Keys.{is_backwards, is_past_user}
use Rattle.fb_bytes.specs.Limits.{most_number}
use Rattle.mutations.specs.declared.TxOp.{TxOp}
use Rattle.workload_text.specs.declared.client_script.Side.{Side}
use Rattle.workload_text.specs.declared.command.Command.{Command}
use Rattle.workload_text.specs.declared.command.Command.TheVariants as commands
use Rattle.workload_text.specs.declared.command_kind.CommandKind.{CommandKind}
use Rattle.workload_text.specs.declared.command_kind.CommandKind.TheVariants as kinds
use Rattle.workload_text.specs.declared.keyword.Keyword.{Keyword}
use Rattle.workload_text.specs.declared.keyword.Keyword.TheVariants as words
use Rattle.workload_text.specs.declared.keyword.ReadKind.{ReadKind}
use Rattle.workload_text.specs.declared.keyword.ReadKind.TheVariants as reads
use Rattle.workload_text.specs.declared.keyword.WriteKind.{WriteKind}
use Rattle.workload_text.specs.declared.keyword.WriteKind.TheVariants as writing
use Rattle.workload_text.specs.declared.line.Line.{Line}
use Rattle.workload_text.specs.declared.line.Line.TheVariants as lines
use Rattle.workload_text.specs.declared.part.Part.{Part}
use Rattle.workload_text.specs.declared.schedule.EventKind.{EventKind}
use Rattle.workload_text.specs.declared.schedule.EventKind.TheVariants as events
use Rattle.workload_text.specs.declared.setting.Setting.{Setting}
use Rattle.workload_text.specs.declared.setting.Setting.TheVariants.{Number}
use Rattle.workload_text.specs.declared.setting.SettingKind.{SettingKind}
use Rattle.workload_text.specs.declared.text_fault.TextKind.{TextKind}
use Rattle.workload_text.specs.declared.text_fault.TextKind.TheVariants as why
use Rattle.workload_text.specs.Allowed.{is_op, writes}
use Rattle.workload_text.specs.Commands.{is_container_name, is_short, is_version, AreJobRanges, IsWithin, IsPiece}
use Rattle.workload_text.specs.Faults.{Read, where_so}
use Rattle.workload_text.specs.Kinds.{event_kind_of, event_with, numbers_of}
use Rattle.workload_text.specs.Lines as spec
use Rattle.workload_text.specs.Lines.{said}
use Rattle.workload_text.specs.Numbers.{number_of, within}
use Rattle.workload_text.specs.Settings.{is_allowed, is_up_to}
use Rattle.workload_text.specs.Sofar.{in_settings, in_client, in_txn, in_reads, in_operator, in_schedule, stands}
use Rattle.workload_text.specs.Words as word
use Rattle.workload_text.specs.Words.{◌>>=◌}
use Rattle.workload_text.proofs.Allowing.{sound_setting}
use Rattle.workload_text.proofs.Jobs.{is_forward, is_user, job_of}

-- ---- steps

pub each_then : {A B : Type 0} (P : A → Type 0) (Q : B → Type 0) (r : Read A) (f : A → Read B) → IfOk r P → ((x : A) → P x → IfOk (f x) Q) → IfOk (r >>= f) Q
each_then P Q (Ok x) f h k = k x h
each_then P Q (Err e) f h k = tt

pub any_then : {A B : Type 0} (Q : B → Type 0) (r : Read A) (f : A → Read B) → ((x : A) → IfOk (f x) Q) → IfOk (r >>= f) Q
any_then Q (Ok x) f k = k x
any_then Q (Err e) f k = tt

pub so_then : {A : Type 0} (Q : A → Type 0) (kind : TextKind) (test : Bool) (r : Read A) → (test ≡ true → IfOk r Q) → IfOk (where_so kind test r) Q
so_then Q kind true r h = h refl
so_then Q kind false r h = tt

-- ---- words

abbrev pub IsNumber : ℕ → Type 0
IsNumber n = nat_le n most_number ≡ true

abbrev pub Named : Bytes → Type 0
Named name = is_container_name name ≡ true

within_ok : (least most : ℕ) (o : Option ℕ) → IfOk (within least most o) (λ n. (nat_le least n && nat_le n most) ≡ true)
within_ok least most None = tt
within_ok least most (Some n) = so_then (λ n. (nat_le least n && nat_le n most) ≡ true) why.Range (nat_le least n && nat_le n most) (Ok n) (λ h. h)

at_most : (least most n : ℕ) → (nat_le least n && nat_le n most) ≡ true → nat_le n most ≡ true
at_most least most n h = let p = and_parts (nat_le least n) (nat_le n most) h in p.1

small_number : (o : Option ℕ) → IfOk (within 0 most_number o) IsNumber
small_number None = tt
small_number (Some n) = so_then IsNumber why.Range (nat_le 0 n && nat_le n most_number) (Ok n) (λ h. at_most 0 most_number n h)

number_ok : (w : Bytes) → IfOk (word.any_number w) IsNumber
number_ok w = any_then IsNumber (number_of w) (within 0 most_number) small_number

-- ---- lines

-- a line stands where it may
abbrev pub placed : Part → Line → Bool
placed part (lines.Setting setting) = in_settings part
placed part (lines.Client side) = in_settings part || in_client part
placed part lines.Txn = in_client part
placed part (lines.Op op) = if writes op then in_txn part else in_reads part
placed part lines.Operator = in_settings part || in_client part
placed part (lines.Order command) = in_operator part
placed part lines.Schedule = not (in_schedule part)
placed part (lines.Event kind n m) = in_schedule part

-- the event says its line again
abbrev pub IsPlain : EventKind → ℕ → ℕ → Type 0
IsPlain kind n m =
    lines.Event (event_kind_of (event_with kind n m)) (numbers_of (event_with kind n m)).0 (numbers_of (event_with kind n m)).1 ≡ lines.Event kind n m

abbrev pub IsSound : ℕ → Line → Type 0
IsSound limit (lines.Setting setting) = sound_setting setting ≡ true
IsSound limit (lines.Client side) = Unit {0}
IsSound limit lines.Txn = Unit {0}
IsSound limit (lines.Op op) = is_op op ≡ true
IsSound limit lines.Operator = Unit {0}
IsSound limit (lines.Order command) = IsWithin limit command
IsSound limit lines.Schedule = Unit {0}
IsSound limit (lines.Event kind n m) = IsNumber n × IsNumber m × IsPlain kind n m

-- a keyword's lines pass a test
abbrev pub Pass : (Line → Bool) → Keyword → Type 0
Pass test (words.Setting kind) = (x : Setting) → test (lines.Setting x) ≡ true
Pass test words.Death = (x : Setting) → test (lines.Setting x) ≡ true
Pass test words.Stall = (x : Setting) → test (lines.Setting x) ≡ true
Pass test words.Client = (x : Side) → test (lines.Client x) ≡ true
Pass test words.Txn = test lines.Txn ≡ true
Pass test (words.Read kind) = (x : TxOp) → writes x ≡ false → test (lines.Op x) ≡ true
Pass test (words.Write kind) = (x : TxOp) → writes x ≡ true → test (lines.Op x) ≡ true
Pass test words.Operator = test lines.Operator ≡ true
Pass test (words.Command kind) = (x : Command) → test (lines.Order x) ≡ true
Pass test words.Schedule = test lines.Schedule ≡ true
Pass test (words.Event kind) = (x : EventKind) (n m : ℕ) → test (lines.Event x n m) ≡ true

-- a line passes the test and is within its limits
abbrev pub Passes : (Line → Bool) → ℕ → Line → Type 0
Passes test limit line = (test line ≡ true) × IsSound limit line

abbrev pub IsLine : Part → ℕ → Line → Type 0
IsLine part = Passes (placed part)

setting_ok : (test : Line → Bool) (limit : ℕ) (kind : SettingKind) (list : List Bytes) → ((x : Setting) → test (lines.Setting x) ≡ true) → IfOk (spec.setting_said kind list) (Passes test limit)
setting_ok test limit kind list st =
    any_then (Passes test limit) (word.one_word list) (λ w. word.any_number w >>= spec.if_allowed kind)
    (λ w. any_then (Passes test limit) (word.any_number w) (spec.if_allowed kind)
    (λ n. so_then (Passes test limit) why.Range (is_allowed kind n) (Ok (lines.Setting (Number kind n))) (λ h. (st _, h))))

death_ok : (test : Line → Bool) (limit : ℕ) (list : List Bytes) → ((x : Setting) → test (lines.Setting x) ≡ true) → IfOk (spec.death_said list) (Passes test limit)
death_ok test limit list st =
    any_then (Passes test limit) (word.two_words list) _
    (λ two. any_then (Passes test limit) (number_of two.0) _
    (λ a. any_then (Passes test limit) (number_of two.1) _
    (λ t. any_then (Passes test limit) (within 0 most_number a) _
    (λ agent. each_then (λ n. (nat_le 1 n && nat_le n most_number) ≡ true) (Passes test limit) (within 1 most_number t) _ (within_ok 1 most_number t)
    (λ turn h. (st _, h))))))

stall_ok : (test : Line → Bool) (limit : ℕ) (list : List Bytes) → ((x : Setting) → test (lines.Setting x) ≡ true) → IfOk (spec.stall_said list) (Passes test limit)
stall_ok test limit list st =
    any_then (Passes test limit) (word.three_words list) _
    (λ three. any_then (Passes test limit) (number_of three.0) _
    (λ a. any_then (Passes test limit) (number_of three.1) _
    (λ t. any_then (Passes test limit) (number_of three.2) _
    (λ m. any_then (Passes test limit) (within 0 most_number a) _
    (λ agent. each_then (λ n. (nat_le 1 n && nat_le n most_number) ≡ true) (Passes test limit) (within 1 most_number t) _ (within_ok 1 most_number t)
    (λ turn h. each_then (λ n. (nat_le 0 n && nat_le n 1000000) ≡ true) (Passes test limit) (within 0 1000000 m) _ (within_ok 0 1000000 m)
    (λ turns k. (st _, and_from (is_up_to most_number turn) (nat_le turns 1000000) h (at_most 0 1000000 turns k)))))))))

client_ok : (test : Line → Bool) (limit : ℕ) (list : List Bytes) → ((x : Side) → test (lines.Client x) ≡ true) → IfOk (spec.client_said list) (Passes test limit)
client_ok test limit list st =
    any_then (Passes test limit) (word.two_words list) _
    (λ two. any_then (Passes test limit) (word.any_number two.0) _
    (λ n. any_then (Passes test limit) (word.side_of two.1) _
    (λ side. (st _, tt))))

alone_ok : (test : Line → Bool) (limit : ℕ) (line : Line) (list : List Bytes) → Passes test limit line → IfOk (word.no_words list line) (Passes test limit)
alone_ok test limit line [] h = h
alone_ok test limit line (w ∷ list) h = tt

-- ---- operations

forward_ok : (b e : Bytes) → IfOk (spec.forward_range b e) (λ r. not (is_backwards r) ≡ true)
forward_ok b e =
    any_then (λ r. not (is_backwards r) ≡ true) (word.range_of b e) _
    (λ r. so_then (λ r. not (is_backwards r) ≡ true) why.Backwards (not (is_backwards r)) (Ok r) (λ h. h))

read_ok : (test : Line → Bool) (limit : ℕ) (kind : ReadKind) (list : List Bytes) → ((x : TxOp) → writes x ≡ false → test (lines.Op x) ≡ true) → IfOk (spec.read_said kind list) (Passes test limit)
read_ok test limit reads.Get list st = any_then (Passes test limit) (word.one_word list) _ (λ w. any_then (Passes test limit) (word.bytes_of w) _ (λ k. (st _ refl, refl)))
read_ok test limit reads.SnapshotGet list st = any_then (Passes test limit) (word.one_word list) _ (λ w. any_then (Passes test limit) (word.bytes_of w) _ (λ k. (st _ refl, refl)))
read_ok test limit reads.Scan list st =
    any_then (Passes test limit) (word.three_words list) _
    (λ three. any_then (Passes test limit) (number_of three.2) _
    (λ n. each_then (λ m. (nat_le 1 m && nat_le m 1000) ≡ true) (Passes test limit) (within 1 1000 n) _ (within_ok 1 1000 n)
    (λ m h. each_then (λ r. not (is_backwards r) ≡ true) (Passes test limit) (spec.forward_range three.0 three.1) _ (forward_ok three.0 three.1)
    (λ r k. (st _ refl, and_from (not (is_backwards r)) (is_up_to 1000 m) k h)))))

below_more : (key : Bytes) → is_below key (key ++ 0 ∷ []) ≡ true
unfolding is_below
below_more [] = refl
below_more (byte ∷ key) =
    let same : nat_cmp byte byte ≡ Equal = tied_itself nat_cmp_total byte in
    rw same (below_more key)

-- a key is below itself with a byte more
key_forward : (key : Bytes) → not (is_backwards (record { begin = key; end = key ++ 0 ∷ [] })) ≡ true
key_forward key = ap (λ (b : Bool). not (not b)) (below_more key)

write_ok : (test : Line → Bool) (limit : ℕ) (kind : WriteKind) (list : List Bytes) → ((x : TxOp) → writes x ≡ true → test (lines.Op x) ≡ true) → IfOk (spec.write_said kind list) (Passes test limit)
write_ok test limit writing.Set list st = any_then (Passes test limit) (word.two_words list) _ (λ two. any_then (Passes test limit) (word.bytes_of two.0) _ (λ k. any_then (Passes test limit) (word.bytes_of two.1) _ (λ v. (st _ refl, refl))))
write_ok test limit writing.Clear list st = any_then (Passes test limit) (word.one_word list) _ (λ w. any_then (Passes test limit) (word.bytes_of w) _ (λ k. (st _ refl, key_forward k)))
write_ok test limit writing.ClearRange list st =
    any_then (Passes test limit) (word.two_words list) _
    (λ two. each_then (λ r. not (is_backwards r) ≡ true) (Passes test limit) (spec.forward_range two.0 two.1) _ (forward_ok two.0 two.1)
    (λ r h. (st _ refl, h)))
write_ok test limit (writing.Atomic op) list st = any_then (Passes test limit) (word.two_words list) _ (λ two. any_then (Passes test limit) (word.bytes_of two.0) _ (λ k. any_then (Passes test limit) (word.bytes_of two.1) _ (λ v. (st _ refl, refl))))

-- ---- commands

name_ok : (w : Bytes) → IfOk (word.name_of w) Named
name_ok w = so_then Named why.Name (is_container_name w) (Ok w) (λ h. h)

tag_ok : (list : List Bytes) → IfOk (spec.tag_said list) Named
tag_ok list = any_then Named (word.one_word list) word.name_of (λ w. name_ok w)

tagged_ok : (test : Line → Bool) (limit : ℕ) (command : Bytes → Command) (list : List Bytes) → ((x : Command) → test (lines.Order x) ≡ true) → ((tag : Bytes) → Named tag → IsWithin limit (command tag)) → IfOk (spec.tagged command list) (Passes test limit)
tagged_ok test limit command list st h = each_then Named (Passes test limit) (spec.tag_said list) _ (tag_ok list) (λ tag n. (st _, h tag n))

-- ranges of the operator's that may be named
record Ranged (limit most : ℕ) (ranges : List KeyRange) : Type 0 where
  short : list_all (is_short limit) ranges ≡ true
  forward : list_all is_forward ranges ≡ true
  user : list_all is_user ranges ≡ true
  few : nat_le (length ranges) most ≡ true

ranged_ok : (limit most : ℕ) (ranges : List KeyRange) → IfOk (spec.allowed_ranges limit most ranges) (λ rs. Ranged limit most rs × (rs ≡ ranges))
ranged_ok limit most ranges =
    so_then Q why.Long (list_all (is_short limit) ranges) _
    (λ short. so_then Q why.Backwards (list_all is_forward ranges) _
    (λ forward. so_then Q why.Past (list_all is_user ranges) _
    (λ user. so_then Q why.Many (nat_le (length ranges) most) (Ok ranges)
    (λ few. (record { short = short; forward = forward; user = user; few = few }, refl)))))
  where
    Q : List KeyRange → Type 0
    Q rs = Ranged limit most rs × (rs ≡ ranges)

some_ranges : (ranges : List KeyRange) → 0 < length (spec.or_whole_space ranges)
some_ranges [] = omega arith
some_ranges (range ∷ ranges) = omega arith

job_ok : (limit : ℕ) (list : List Bytes) → IfOk (spec.job_ranges limit list) (AreJobRanges limit)
job_ok limit list =
    any_then (AreJobRanges limit) (spec.list_of list) _
    (λ ranges. each_then (λ rs. Ranged limit 1000 rs × (rs ≡ spec.or_whole_space ranges)) (AreJobRanges limit) (spec.allowed_ranges limit 1000 (spec.or_whole_space ranges)) _ (ranged_ok limit 1000 (spec.or_whole_space ranges))
    (λ rs h. job_of limit rs (subst (λ (l : List KeyRange). 0 < length l) (sym h.1) (some_ranges ranges)) (leb-true (length rs) 1000 h.0.few) h.0.short h.0.forward h.0.user))

open_ok : (test : Line → Bool) (limit : ℕ) (list : List Bytes) → ((x : Command) → test (lines.Order x) ≡ true) → IfOk (spec.open_said limit list) (Passes test limit)
open_ok test limit list st =
    any_then (Passes test limit) (word.next_word list) _
    (λ t. any_then (Passes test limit) (word.next_word t.1) _
    (λ d. any_then (Passes test limit) (word.next_word d.1) _
    (λ c. so_then (Passes test limit) why.Count (word.are_paired c.1) _
    (λ p. any_then (Passes test limit) (word.side_of d.0) _
    (λ side. each_then Named (Passes test limit) (word.name_of t.0) _ (name_ok t.0)
    (λ tag n. each_then Named (Passes test limit) (word.name_of c.0) _ (name_ok c.0)
    (λ container m. each_then (AreJobRanges limit) (Passes test limit) (spec.job_ranges limit c.1) _ (job_ok limit c.1)
    (λ ranges r. (st _, record { tag_named = n; container_named = m; ranges_allowed = r })))))))))

backup_ok : (test : Line → Bool) (limit : ℕ) (list : List Bytes) → ((x : Command) → test (lines.Order x) ≡ true) → IfOk (spec.backup_said limit list) (Passes test limit)
backup_ok test limit list st =
    any_then (Passes test limit) (word.next_word list) _
    (λ t. any_then (Passes test limit) (word.next_word t.1) _
    (λ d. any_then (Passes test limit) (word.next_word d.1) _
    (λ c. any_then (Passes test limit) (word.next_word c.1) _
    (λ m. so_then (Passes test limit) why.Count (word.are_paired m.1) _
    (λ p. any_then (Passes test limit) (word.side_of d.0) _
    (λ side. any_then (Passes test limit) (word.mode_of (codes "continuous") (codes "once") m.0) _
    (λ mode. each_then Named (Passes test limit) (word.name_of t.0) _ (name_ok t.0)
    (λ tag n. each_then Named (Passes test limit) (word.name_of c.0) _ (name_ok c.0)
    (λ container o. each_then (AreJobRanges limit) (Passes test limit) (spec.job_ranges limit m.1) _ (job_ok limit m.1)
    (λ ranges r. (st _, record { tag_named = n; container_named = o; ranges_allowed = r })))))))))))

dr_ok : (test : Line → Bool) (limit : ℕ) (list : List Bytes) → ((x : Command) → test (lines.Order x) ≡ true) → IfOk (spec.dr_said limit list) (Passes test limit)
dr_ok test limit list st =
    any_then (Passes test limit) (word.next_word list) _
    (λ t. any_then (Passes test limit) (word.next_word t.1) _
    (λ d. so_then (Passes test limit) why.Count (word.are_paired d.1) _
    (λ p. any_then (Passes test limit) (word.side_of d.0) _
    (λ side. each_then Named (Passes test limit) (word.name_of t.0) _ (name_ok t.0)
    (λ tag n. each_then (AreJobRanges limit) (Passes test limit) (spec.job_ranges limit d.1) _ (job_ok limit d.1)
    (λ ranges r. (st _, (n, r))))))))

to_false : (b : Bool) → not b ≡ true → b ≡ false
to_false true h = sym h
to_false false h = refl

piece_of : (limit : ℕ) (piece : KeyRange) → Ranged limit 1 (piece ∷ []) → IsPiece limit piece
piece_of limit piece r =
    let short = and_parts (is_short limit piece) true r.short in
    let ends = and_parts (nat_le (length piece.begin) limit) (nat_le (length piece.end) limit) short.0 in
    let forward = and_parts (is_forward piece) true r.forward in
    let user = and_parts (is_user piece) true r.user in
    record {
      forward = to_false (is_backwards piece) forward.0;
      user = to_false (is_past_user piece) user.0;
      begin = leb-true (length piece.begin) limit ends.0;
      end = leb-true (length piece.end) limit ends.1;
    }

dump_ok : (test : Line → Bool) (limit : ℕ) (list : List Bytes) → ((x : Command) → test (lines.Order x) ≡ true) → IfOk (spec.dump_said limit list) (Passes test limit)
dump_ok test limit list st =
    any_then (Passes test limit) (word.three_words list) _
    (λ three. each_then Named (Passes test limit) (word.name_of three.0) _ (name_ok three.0)
    (λ tag n. any_then (Passes test limit) (word.range_of three.1 three.2) _
    (λ piece. each_then (λ rs. Ranged limit 1 rs × (rs ≡ piece ∷ [])) (Passes test limit) (spec.allowed_ranges limit 1 (piece ∷ [])) _ (ranged_ok limit 1 (piece ∷ []))
    (λ rs h. (st _, (n, piece_of limit piece (subst (λ (l : List KeyRange). Ranged limit 1 l) h.1 h.0)))))))

two_ok : (a b : Bytes) → IfOk (word.two_numbers a b) (λ p. IsNumber p.0 × IsNumber p.1)
two_ok a b =
    any_then Q (number_of a) _
    (λ n. any_then Q (number_of b) _
    (λ m. each_then IsNumber Q (within 0 most_number n) _ (small_number n)
    (λ first h. each_then IsNumber Q (within 0 most_number m) _ (small_number m)
    (λ second k. (h, k)))))
  where
    Q : ℕ × ℕ → Type 0
    Q p = IsNumber p.0 × IsNumber p.1

expire_ok : (test : Line → Bool) (limit : ℕ) (list : List Bytes) → ((x : Command) → test (lines.Order x) ≡ true) → IfOk (spec.expire_said list) (Passes test limit)
expire_ok test limit list st =
    any_then (Passes test limit) (word.four_words list) _
    (λ four. each_then (λ p. IsNumber p.0 × IsNumber p.1) (Passes test limit) (word.two_numbers four.1 four.2) _ (two_ok four.1 four.2)
    (λ numbers h. any_then (Passes test limit) (word.mode_of (codes "force") (codes "safe") four.3) _
    (λ force. each_then Named (Passes test limit) (word.name_of four.0) _ (name_ok four.0)
    (λ container n. (st _, (n, h.0, h.1))))))

version_ok : (w : Bytes) → IfOk (spec.version_of w) (λ v. is_version v ≡ true)
version_ok w =
    elim (is_same w (codes "latest")) as (λ b. IfOk (if b then Ok None else (word.any_number w >>= λ n. Ok (Some n))) (λ v. is_version v ≡ true)) [
      | true ↦ refl
      | false ↦ each_then IsNumber (λ v. is_version v ≡ true) (word.any_number w) (λ n. Ok (Some n)) (number_ok w) (λ n h. h)
    ]

restore_ok : (test : Line → Bool) (limit : ℕ) (list : List Bytes) → ((x : Command) → test (lines.Order x) ≡ true) → IfOk (spec.restore_said list) (Passes test limit)
restore_ok test limit list st =
    any_then (Passes test limit) (word.four_words list) _
    (λ four. each_then (λ v. is_version v ≡ true) (Passes test limit) (spec.version_of four.3) _ (version_ok four.3)
    (λ version h. any_then (Passes test limit) (word.side_of four.1) _
    (λ side. each_then Named (Passes test limit) (word.name_of four.0) _ (name_ok four.0)
    (λ tag n. each_then Named (Passes test limit) (word.name_of four.2) _ (name_ok four.2)
    (λ container o. (st _, (n, o, h)))))))

command_ok : (test : Line → Bool) (limit : ℕ) (kind : CommandKind) (list : List Bytes) → ((x : Command) → test (lines.Order x) ≡ true) → IfOk (spec.command_said limit kind list) (Passes test limit)
command_ok test limit kinds.Open list st = open_ok test limit list st
command_ok test limit kinds.Dump list st = dump_ok test limit list st
command_ok test limit kinds.Cut list st = tagged_ok test limit commands.Cut list st (λ tag n. n)
command_ok test limit kinds.Seal list st = tagged_ok test limit commands.Seal list st (λ tag n. n)
command_ok test limit kinds.Backup list st = backup_ok test limit list st
command_ok test limit kinds.Snapshot list st = tagged_ok test limit commands.Snapshot list st (λ tag n. n)
command_ok test limit kinds.Discontinue list st = tagged_ok test limit commands.Discontinue list st (λ tag n. n)
command_ok test limit kinds.Abort list st = tagged_ok test limit commands.Abort list st (λ tag n. n)
command_ok test limit kinds.Pause list st = alone_ok test limit (lines.Order commands.Pause) list (st _, tt)
command_ok test limit kinds.Resume list st = alone_ok test limit (lines.Order commands.Resume) list (st _, tt)
command_ok test limit kinds.Wait list st = tagged_ok test limit commands.Wait list st (λ tag n. n)
command_ok test limit kinds.Status list st = tagged_ok test limit commands.Status list st (λ tag n. n)
command_ok test limit kinds.Expire list st = expire_ok test limit list st
command_ok test limit kinds.Restore list st = restore_ok test limit list st
command_ok test limit kinds.Dr list st = dr_ok test limit list st
command_ok test limit kinds.Switch list st = tagged_ok test limit commands.Switch list st (λ tag n. n)
command_ok test limit kinds.Lag list st = tagged_ok test limit commands.Lag list st (λ tag n. n)

-- ---- events

event_one : (test : Line → Bool) (limit : ℕ) (kind : EventKind) (list : List Bytes) → ((x : EventKind) (n m : ℕ) → test (lines.Event x n m) ≡ true) → ((n : ℕ) → IsPlain kind n 0) → IfOk (spec.event_numbered kind list) (Passes test limit)
event_one test limit kind list st plain =
    any_then (Passes test limit) (word.one_word list) _
    (λ w. each_then IsNumber (Passes test limit) (word.any_number w) (λ n. Ok (lines.Event kind n 0)) (number_ok w)
    (λ n h. (st _ _ _, (h, refl, plain n))))

claim_ok : (test : Line → Bool) (limit : ℕ) (list : List Bytes) → ((x : EventKind) (n m : ℕ) → test (lines.Event x n m) ≡ true) → IfOk (spec.claim_said list) (Passes test limit)
claim_ok test limit list st =
    any_then (Passes test limit) (word.two_words list) _
    (λ two. each_then (λ p. IsNumber p.0 × IsNumber p.1) (Passes test limit) (word.two_numbers two.0 two.1) _ (two_ok two.0 two.1)
    (λ numbers h. (st _ _ _, (h.0, h.1, refl))))

event_ok : (test : Line → Bool) (limit : ℕ) (kind : EventKind) (list : List Bytes) → ((x : EventKind) (n m : ℕ) → test (lines.Event x n m) ≡ true) → IfOk (spec.event_said kind list) (Passes test limit)
event_ok test limit events.Op list st = alone_ok test limit (lines.Event events.Op 0 0) list (st _ _ _, (refl, refl, refl))
event_ok test limit events.Drain list st = alone_ok test limit (lines.Event events.Drain 0 0) list (st _ _ _, (refl, refl, refl))
event_ok test limit events.Claim list st = claim_ok test limit list st
event_ok test limit events.Begin list st = event_one test limit events.Begin list st (λ n. refl)
event_ok test limit events.Commit list st = event_one test limit events.Commit list st (λ n. refl)
event_ok test limit events.Tick list st = event_one test limit events.Tick list st (λ n. refl)
event_ok test limit events.Extend list st = event_one test limit events.Extend list st (λ n. refl)
event_ok test limit events.Take list st = event_one test limit events.Take list st (λ n. refl)
event_ok test limit events.Place list st = event_one test limit events.Place list st (λ n. refl)
event_ok test limit events.Close list st = event_one test limit events.Close list st (λ n. refl)
event_ok test limit events.Die list st = event_one test limit events.Die list st (λ n. refl)

-- what a keyword says with the words behind it
pub said_passes : (test : Line → Bool) (limit : ℕ) (k : Keyword) (list : List Bytes) → Pass test k → IfOk (said limit k list) (Passes test limit)
said_passes test limit (words.Setting kind) list st = setting_ok test limit kind list st
said_passes test limit words.Death list st = death_ok test limit list st
said_passes test limit words.Stall list st = stall_ok test limit list st
said_passes test limit words.Client list st = client_ok test limit list st
said_passes test limit words.Txn list st = alone_ok test limit lines.Txn list (st, tt)
said_passes test limit (words.Read kind) list st = read_ok test limit kind list st
said_passes test limit (words.Write kind) list st = write_ok test limit kind list st
said_passes test limit words.Operator list st = alone_ok test limit lines.Operator list (st, tt)
said_passes test limit (words.Command kind) list st = command_ok test limit kind list st
said_passes test limit words.Schedule list st = alone_ok test limit lines.Schedule list (st, tt)
said_passes test limit (words.Event kind) list st = event_ok test limit kind list st

-- lines of a keyword that stands are placed
stands_pass : (part : Part) (k : Keyword) → stands part k ≡ true → Pass (placed part) k
stands_pass part (words.Setting kind) st = λ x. st
stands_pass part words.Death st = λ x. st
stands_pass part words.Stall st = λ x. st
stands_pass part words.Client st = λ x. st
stands_pass part words.Txn st = st
stands_pass part (words.Read kind) st = λ x e. rw e st
stands_pass part (words.Write kind) st = λ x e. rw e st
stands_pass part words.Operator st = st
stands_pass part (words.Command kind) st = λ x. st
stands_pass part words.Schedule st = st
stands_pass part (words.Event kind) st = λ x n m. st

pub said_ok : (part : Part) (limit : ℕ) (k : Keyword) (list : List Bytes) → stands part k ≡ true → IfOk (said limit k list) (IsLine part limit)
said_ok part limit k list st = said_passes (placed part) limit k list (stands_pass part k st)
