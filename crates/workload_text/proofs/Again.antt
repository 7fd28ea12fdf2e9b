-- What is read is the text of what it says, by the second reading.
use Rattle.std.proofs.Common.{◌≡◌, ◌∙◌, ℕ, ◌+◌, ◌≤◌, Bool, true, false, not, ◌&&◌, List, [], ◌∷◌, ◌++◌, length, refl, sym, ap, subst, arith, nat_lt, if◌then◌else◌, Ok, Err, length-append, append_assoc, append-nil, true≢false, Option, Some, None, IfOk, Result}
use Rattle.workload_text.specs.declared.text_fault.TextFault.{TextFault}
use Rattle.std.specs.List.{list_all, flat_map}
use Rattle.std.proofs.lemmas.Bool.{and_parts, and_from}
use Rattle.std.proofs.lemmas.Grind.{flat_map-append}
use Rattle.std.proofs.lemmas.List.{map-append}
use Rattle.fb_bytes.specs.Bytes.{Bytes}
use Rattle.fb_bytes.specs.Results.{found_or}
use Rattle.mutations.specs.declared.TxOp.{TxOp}
use Rattle.workload_text.specs.declared.client_script.ClientScript.{ClientScript}
use Rattle.workload_text.specs.declared.client_script.Side.{Side}
use Rattle.workload_text.specs.declared.command.Command.{Command}
use Rattle.workload_text.specs.declared.keyword.Keyword.{Keyword}
use Rattle.workload_text.specs.declared.keyword.Keyword.TheVariants as words
use Rattle.workload_text.specs.declared.line.Line.{Line}
use Rattle.workload_text.specs.declared.line.Line.TheVariants as lines
use Rattle.workload_text.specs.declared.part.Part.{Part}
use Rattle.workload_text.specs.declared.part.Part.TheVariants as parts
use Rattle.workload_text.specs.declared.schedule.EventKind.{EventKind}
use Rattle.workload_text.specs.declared.schedule.ScheduleLine.{ScheduleLine}
use Rattle.workload_text.specs.declared.setting.Setting.{Setting}
use Rattle.workload_text.specs.Faults.{Read}
use Rattle.workload_text.specs.Keywords.{keyword_of}
use Rattle.workload_text.specs.Lines.{said}
use Rattle.workload_text.specs.Settings.{comes_in, has_agent, limit_for}
use Rattle.workload_text.specs.Kinds.{event_with}
use Rattle.workload_text.specs.Sofar.{Sofar, limit_in, clients_in, closed, with_txn, with_line, part_behind, is_there, in_schedule, is_scheduled, is_next, is_first_no_other, stands, with_keyword, with_words, with_bytes, with_lines, numbered, at_start, is_comment}
use Rattle.workload_text.specs.Grammar.{built_of, most_bytes}
use Rattle.workload_text.specs.Texts.{lines_of, words_of, is_text_byte}
use Rattle.workload_text.specs.declared.line_fault.LineFault.TheVariants.{Refused}
use Rattle.workload_text.specs.inner.Ready.{IsReady, IsWhole}
use Rattle.workload_text.proofs.Ready.{bytes_ready, start_ready}
use Rattle.workload_text.specs.declared.text_fault.TextKind.TheVariants as why
use Rattle.mutations.specs.declared.TxOp.TheVariants.{Get, SnapshotGet, Scan, Write}
use Rattle.workload_text.specs.Words.{◌>>=◌}
use Rattle.workload_text.specs.Spelled.{Item, IsSaid, AreSaid, spells, are_set, setting_items, txn_items, client_items, operator_items, schedule_items, event_item, BegunFor, says_something, speaking, IsTextOf}
use Rattle.workload_text.proofs.Allowing.{not_back}
use Rattle.workload_text.proofs.Keeping.{of_parts, closed_whole}
use Rattle.workload_text.proofs.Soundness.{IsLine, IsSound, IsPlain, Pass, placed, so_then, each_then, said_passes, said_ok}

-- ---- lines and what they say

said_more : (limit : ℕ) (ws : List (List Bytes)) (is : List Item) (w : List Bytes) (i : Item) → AreSaid limit ws is → IsSaid limit w i → AreSaid limit (ws ++ w ∷ []) (is ++ i ∷ [])
said_more limit [] [] w i h k = (k, tt)
said_more limit [] (x ∷ is) w i h k = absurd h
said_more limit (v ∷ ws) [] w i h k = absurd h
said_more limit (v ∷ ws) (x ∷ is) w i h k = (h.0, said_more limit ws is w i h.1 k)

not_placed : (limit : ℕ) (r : Read Line) (setting : Setting) → IfOk r (IsLine parts.Operator limit) → r ≡ Ok (lines.Setting setting) → false ≡ true
not_placed limit r setting h e = let l : IsLine parts.Operator limit (lines.Setting setting) = subst (λ (o : Read Line). IfOk o (IsLine parts.Operator limit)) e h in l.0

-- the limit on keys of the operator's says nothing of a setting
pub limit_free : (a b : ℕ) (k : Keyword) (list : List Bytes) (setting : Setting) → said a k list ≡ Ok (lines.Setting setting) → said b k list ≡ Ok (lines.Setting setting)
limit_free a b (words.Setting kind) list setting h = h
limit_free a b words.Death list setting h = h
limit_free a b words.Stall list setting h = h
limit_free a b words.Client list setting h = h
limit_free a b words.Txn list setting h = h
limit_free a b (words.Read kind) list setting h = h
limit_free a b (words.Write kind) list setting h = h
limit_free a b words.Operator list setting h = h
limit_free a b (words.Command kind) list setting h = absurd (true≢false (sym (not_placed a (said a (words.Command kind) list) setting (said_ok parts.Operator a (words.Command kind) list refl) h)))
limit_free a b words.Schedule list setting h = h
limit_free a b (words.Event kind) list setting h = h

settings_free : (a b : ℕ) (ws : List (List Bytes)) (settings : List Setting) → AreSaid a ws (setting_items settings) → AreSaid b ws (setting_items settings)
settings_free a b [] [] h = tt
settings_free a b [] (setting ∷ settings) h = absurd h
settings_free a b (w ∷ ws) [] h = absurd h
settings_free a b ([] ∷ ws) (setting ∷ settings) h = absurd h.0
settings_free a b ((word ∷ list) ∷ ws) (setting ∷ settings) h =
    let one = h.0 in
    ((one.0, one.1, limit_free a b one.0 list setting one.2, one.3), settings_free a b ws settings h.1)

-- ---- settings

set_more : (before settings : List Setting) (setting : Setting) → are_set before settings ≡ true → comes_in setting (before ++ settings) ≡ false → has_agent (before ++ settings) setting ≡ true → are_set before (settings ++ setting ∷ []) ≡ true
set_more before [] setting h fresh there =
    let f : not (comes_in setting before) ≡ true = ap not (subst (λ (l : List Setting). comes_in setting l ≡ false) (append-nil before) fresh) in
    let t : has_agent before setting ≡ true = subst (λ (l : List Setting). has_agent l setting ≡ true) (append-nil before) there in
    and_from (not (comes_in setting before) && has_agent before setting) true (and_from (not (comes_in setting before)) (has_agent before setting) f t) refl
set_more before (first ∷ settings) setting h fresh there =
    let p = and_parts (not (comes_in first before) && has_agent before first) (are_set (before ++ first ∷ []) settings) h in
    let all : before ++ (first ∷ settings) ≡ (before ++ first ∷ []) ++ settings = sym (append_assoc before (first ∷ []) settings) in
    and_from (not (comes_in first before) && has_agent before first) (are_set (before ++ first ∷ []) (settings ++ setting ∷ [])) p.0
    (set_more (before ++ first ∷ []) settings setting p.1 (subst (λ (l : List Setting). comes_in setting l ≡ false) all fresh) (subst (λ (l : List Setting). has_agent l setting ≡ true) all there))

-- ---- items

-- the items of clients
abbrev of_clients : List ClientScript → List Item
of_clients clients = flat_map client_items clients

-- the items of the client that may go on, without its open transaction
abbrev of_open : ℕ → Side → List (List TxOp) → List Item
of_open number side txns = (lines.Client side, number) ∷ flat_map txn_items txns

clients_more : (clients : List ClientScript) (script : ClientScript) → of_clients (clients ++ script ∷ []) ≡ of_clients clients ++ client_items script
clients_more clients script = flat_map-append client_items clients (script ∷ []) ∙ ap (λ (xs : List Item). of_clients clients ++ xs) (append-nil (client_items script))

txns_more : (number : ℕ) (side : Side) (txns : List (List TxOp)) (ops : List TxOp) → of_open number side (txns ++ ops ∷ []) ≡ of_open number side txns ++ txn_items ops
txns_more number side txns ops = ap (λ (xs : List Item). (lines.Client side, number) ∷ xs) (flat_map-append txn_items txns (ops ∷ []) ∙ ap (λ (xs : List Item). flat_map txn_items txns ++ xs) (append-nil (txn_items ops)))

-- what the lines behind the settings say, by the part that they end in
abbrev body : Part → Bool → List ClientScript → Side → List (List TxOp) → List TxOp → List Command → List ScheduleLine → List Item
body parts.Settings commanded clients side txns ops operator schedule = []
body parts.Client commanded clients side txns ops operator schedule = of_clients clients ++ of_open (length clients + 1) side txns
body parts.Reads commanded clients side txns ops operator schedule = (of_clients clients ++ of_open (length clients + 1) side txns) ++ txn_items ops
body parts.Writes commanded clients side txns ops operator schedule = (of_clients clients ++ of_open (length clients + 1) side txns) ++ txn_items ops
body parts.Operator commanded clients side txns ops operator schedule = of_clients clients ++ operator_items commanded operator
body parts.Schedule commanded clients side txns ops operator schedule = (of_clients clients ++ operator_items commanded operator) ++ schedule_items true schedule

-- what is empty in a part, and whether the operator's line came
abbrev Fresh : Part → Bool → List ClientScript → List (List TxOp) → List TxOp → List Command → List ScheduleLine → Type 0
Fresh parts.Settings commanded clients txns ops operator schedule = (clients ≡ []) × (txns ≡ []) × (operator ≡ []) × (schedule ≡ []) × (ops ≡ [])
Fresh parts.Client commanded clients txns ops operator schedule = (ops ≡ []) × (operator ≡ []) × (schedule ≡ [])
Fresh parts.Reads commanded clients txns ops operator schedule = (operator ≡ []) × (schedule ≡ [])
Fresh parts.Writes commanded clients txns ops operator schedule = (operator ≡ []) × (schedule ≡ [])
Fresh parts.Operator commanded clients txns ops operator schedule = (commanded ≡ true) × (schedule ≡ [])
Fresh parts.Schedule commanded clients txns ops operator schedule = BegunFor commanded operator

-- the lines so far say this
pub record Told (run : Bool) (s : Sofar) (ws : List (List Bytes)) : Type 0 where
  pub played : (run && in_schedule s.part) ≡ false
  pub set : are_set [] s.settings ≡ true
  pub commanded : Bool
  pub fresh : Fresh s.part commanded s.clients s.txns s.ops s.operator s.schedule
  pub said : AreSaid (limit_in s) ws (setting_items s.settings ++ body s.part commanded s.clients s.side s.txns s.ops s.operator s.schedule)

-- one line more behind the settings
said_on : (limit : ℕ) (ws : List (List Bytes)) (front old new : List Item) (w : List Bytes) (i : Item) → AreSaid limit ws (front ++ old) → IsSaid limit w i → new ≡ old ++ i ∷ [] → AreSaid limit (ws ++ w ∷ []) (front ++ new)
said_on limit ws front old new w i h k e =
    subst (λ (is : List Item). AreSaid limit (ws ++ w ∷ []) is) (append_assoc front old (i ∷ []) ∙ ap (λ (is : List Item). front ++ is) (sym e)) (said_more limit ws (front ++ old) w i h k)

-- the client that goes on, complete
closed_client : (clients : List ClientScript) (side : Side) (txns : List (List TxOp)) → of_clients (clients ++ record { number = length clients + 1; side = side; txns = txns } ∷ []) ≡ of_clients clients ++ of_open (length clients + 1) side txns
closed_client clients side txns = clients_more clients (record { number = length clients + 1; side = side; txns = txns })

closed_txn : (clients : List ClientScript) (side : Side) (txns : List (List TxOp)) (ops : List TxOp) → of_clients (clients ++ record { number = length clients + 1; side = side; txns = txns ++ ops ∷ [] } ∷ []) ≡ (of_clients clients ++ of_open (length clients + 1) side txns) ++ txn_items ops
closed_txn clients side txns ops =
    closed_client clients side (txns ++ ops ∷ [])
    ∙ ap (λ (is : List Item). of_clients clients ++ is) (txns_more (length clients + 1) side txns ops)
    ∙ sym (append_assoc (of_clients clients) (of_open (length clients + 1) side txns) (txn_items ops))

-- ---- line by line

false_true : {P : Type 0} → false ≡ true → P
false_true h = absurd (true≢false (sym h))

end_long : {A : Type 0} (xs : List A) (x : A) → length (xs ++ x ∷ []) ≡ length xs + 1
end_long xs x = omega (arith, length-append xs (x ∷ []))

first_client : (clients : List ClientScript) (txns : List (List TxOp)) (n : ℕ) (other : Side) → clients ≡ [] → txns ≡ [] → of_clients clients ++ of_open n other txns ≡ (lines.Client other, n) ∷ []
first_client clients txns n other p q = ap (λ (cs : List ClientScript). of_clients cs ++ of_open n other txns) p ∙ ap (λ (ts : List (List TxOp)). of_open n other ts) q

told_setting : (run : Bool) (ws : List (List Bytes)) (w : List Bytes) (part : Part) (settings : List Setting) (clients : List ClientScript) (side : Side) (txns : List (List TxOp)) (ops : List TxOp) (operator : List Command) (schedule : List ScheduleLine) (setting : Setting) → Told run (of_parts part settings clients side txns ops operator schedule) ws → placed part (lines.Setting setting) ≡ true → IsSaid (limit_for settings) w (lines.Setting setting, 0) → IfOk (with_line (of_parts part settings clients side txns ops operator schedule) (lines.Setting setting)) (λ next. Told run next (ws ++ w ∷ []))
told_setting run ws w parts.Settings settings clients side txns ops operator schedule setting t st h =
    so_then (λ next. Told run next (ws ++ w ∷ [])) why.Repeat (not (comes_in setting settings)) _
    (λ fresh. so_then (λ next. Told run next (ws ++ w ∷ [])) why.Nobody (has_agent settings setting) _
    (λ there. record {
      played = t.played;
      set = set_more [] settings setting t.set (not_back (comes_in setting settings) fresh) there;
      commanded = t.commanded;
      fresh = t.fresh;
      said =
          subst (λ (is : List Item). AreSaid (limit_for (settings ++ setting ∷ [])) (ws ++ w ∷ []) is) (sym (append-nil (setting_items (settings ++ setting ∷ []))))
          (settings_free (limit_for settings) (limit_for (settings ++ setting ∷ [])) (ws ++ w ∷ []) (settings ++ setting ∷ [])
          (subst (λ (is : List Item). AreSaid (limit_for settings) (ws ++ w ∷ []) is) (sym (map-append (λ (x : Setting). (lines.Setting x, 0)) settings (setting ∷ [])))
          (said_more (limit_for settings) ws (setting_items settings) w (lines.Setting setting, 0)
          (subst (λ (is : List Item). AreSaid (limit_for settings) ws is) (append-nil (setting_items settings)) t.said) h)));
    }))
told_setting run ws w parts.Client settings clients side txns ops operator schedule setting t st h = false_true st
told_setting run ws w parts.Reads settings clients side txns ops operator schedule setting t st h = false_true st
told_setting run ws w parts.Writes settings clients side txns ops operator schedule setting t st h = false_true st
told_setting run ws w parts.Operator settings clients side txns ops operator schedule setting t st h = false_true st
told_setting run ws w parts.Schedule settings clients side txns ops operator schedule setting t st h = false_true st

closed_next : (clients : List ClientScript) (script : ClientScript) (old : List Item) (other : Side) → of_clients (clients ++ script ∷ []) ≡ old → of_clients (clients ++ script ∷ []) ++ of_open (length (clients ++ script ∷ []) + 1) other [] ≡ old ++ (lines.Client other, length clients + 1 + 1) ∷ []
closed_next clients script old other e =
    ap (λ (is : List Item). is ++ (lines.Client other, length (clients ++ script ∷ []) + 1) ∷ []) e
    ∙ ap (λ (n : ℕ). old ++ (lines.Client other, n + 1) ∷ []) (end_long clients script)

told_client : (run : Bool) (ws : List (List Bytes)) (w : List Bytes) (part : Part) (settings : List Setting) (clients : List ClientScript) (side : Side) (txns : List (List TxOp)) (ops : List TxOp) (operator : List Command) (schedule : List ScheduleLine) (other : Side) → Told run (of_parts part settings clients side txns ops operator schedule) ws → placed part (lines.Client other) ≡ true → IsSaid (limit_for settings) w (lines.Client other, clients_in (of_parts part settings clients side txns ops operator schedule) + 1) → Told run (record (closed (of_parts part settings clients side txns ops operator schedule)) { part = parts.Client; side = other }) (ws ++ w ∷ [])
told_client run ws w parts.Settings settings clients side txns ops operator schedule other t st h = record {
  played = t.played;
  set = t.set;
  commanded = t.commanded;
  fresh = (t.fresh.4, t.fresh.2, t.fresh.3);
  said = said_on (limit_for settings) ws (setting_items settings) [] _ w (lines.Client other, length clients + 1) t.said h (first_client clients txns (length clients + 1) other t.fresh.0 t.fresh.1);
}
told_client run ws w parts.Client settings clients side txns ops operator schedule other t st h = record {
  played = t.played;
  set = t.set;
  commanded = t.commanded;
  fresh = t.fresh;
  said = said_on (limit_for settings) ws (setting_items settings) (of_clients clients ++ of_open (length clients + 1) side txns) _ w (lines.Client other, length clients + 1 + 1) t.said h (closed_next clients (record { number = length clients + 1; side = side; txns = txns }) (of_clients clients ++ of_open (length clients + 1) side txns) other (closed_client clients side txns));
}
told_client run ws w parts.Reads settings clients side txns ops operator schedule other t st h = record {
  played = t.played;
  set = t.set;
  commanded = t.commanded;
  fresh = (refl, t.fresh.0, t.fresh.1);
  said = said_on (limit_for settings) ws (setting_items settings) ((of_clients clients ++ of_open (length clients + 1) side txns) ++ txn_items ops) _ w (lines.Client other, length clients + 1 + 1) t.said h (closed_next clients (record { number = length clients + 1; side = side; txns = txns ++ ops ∷ [] }) ((of_clients clients ++ of_open (length clients + 1) side txns) ++ txn_items ops) other (closed_txn clients side txns ops));
}
told_client run ws w parts.Writes settings clients side txns ops operator schedule other t st h = record {
  played = t.played;
  set = t.set;
  commanded = t.commanded;
  fresh = (refl, t.fresh.0, t.fresh.1);
  said = said_on (limit_for settings) ws (setting_items settings) ((of_clients clients ++ of_open (length clients + 1) side txns) ++ txn_items ops) _ w (lines.Client other, length clients + 1 + 1) t.said h (closed_next clients (record { number = length clients + 1; side = side; txns = txns ++ ops ∷ [] }) ((of_clients clients ++ of_open (length clients + 1) side txns) ++ txn_items ops) other (closed_txn clients side txns ops));
}
told_client run ws w parts.Operator settings clients side txns ops operator schedule other t st h = false_true st
told_client run ws w parts.Schedule settings clients side txns ops operator schedule other t st h = false_true st

open_txn : (clients : List ClientScript) (n : ℕ) (side : Side) (txns : List (List TxOp)) (ops : List TxOp) → of_clients clients ++ of_open n side (txns ++ ops ∷ []) ≡ (of_clients clients ++ of_open n side txns) ++ txn_items ops
open_txn clients n side txns ops = ap (λ (is : List Item). of_clients clients ++ is) (txns_more n side txns ops) ∙ sym (append_assoc (of_clients clients) (of_open n side txns) (txn_items ops))

told_txn : (run : Bool) (ws : List (List Bytes)) (w : List Bytes) (part : Part) (settings : List Setting) (clients : List ClientScript) (side : Side) (txns : List (List TxOp)) (ops : List TxOp) (operator : List Command) (schedule : List ScheduleLine) → Told run (of_parts part settings clients side txns ops operator schedule) ws → placed part lines.Txn ≡ true → IsSaid (limit_for settings) w (lines.Txn, 0) → Told run (record (with_txn (of_parts part settings clients side txns ops operator schedule)) { part = parts.Reads }) (ws ++ w ∷ [])
told_txn run ws w parts.Client settings clients side txns ops operator schedule t st h = record {
  played = t.played;
  set = t.set;
  commanded = t.commanded;
  fresh = (t.fresh.1, t.fresh.2);
  said = said_on (limit_for settings) ws (setting_items settings) (of_clients clients ++ of_open (length clients + 1) side txns) _ w (lines.Txn, 0) t.said h (ap (λ (o : List TxOp). (of_clients clients ++ of_open (length clients + 1) side txns) ++ txn_items o) t.fresh.0);
}
told_txn run ws w parts.Reads settings clients side txns ops operator schedule t st h = record {
  played = t.played;
  set = t.set;
  commanded = t.commanded;
  fresh = t.fresh;
  said = said_on (limit_for settings) ws (setting_items settings) ((of_clients clients ++ of_open (length clients + 1) side txns) ++ txn_items ops) _ w (lines.Txn, 0) t.said h (ap (λ (is : List Item). is ++ (lines.Txn, 0) ∷ []) (open_txn clients (length clients + 1) side txns ops));
}
told_txn run ws w parts.Writes settings clients side txns ops operator schedule t st h = record {
  played = t.played;
  set = t.set;
  commanded = t.commanded;
  fresh = t.fresh;
  said = said_on (limit_for settings) ws (setting_items settings) ((of_clients clients ++ of_open (length clients + 1) side txns) ++ txn_items ops) _ w (lines.Txn, 0) t.said h (ap (λ (is : List Item). is ++ (lines.Txn, 0) ∷ []) (open_txn clients (length clients + 1) side txns ops));
}
told_txn run ws w parts.Settings settings clients side txns ops operator schedule t st h = false_true st
told_txn run ws w parts.Operator settings clients side txns ops operator schedule t st h = false_true st
told_txn run ws w parts.Schedule settings clients side txns ops operator schedule t st h = false_true st

ops_on : (is : List Item) (ops : List TxOp) (op : TxOp) → is ++ txn_items (ops ++ op ∷ []) ≡ (is ++ txn_items ops) ++ (lines.Op op, 0) ∷ []
ops_on is ops op =
    ap (λ (more : List Item). is ++ ((lines.Txn, 0) ∷ more)) (map-append (λ (o : TxOp). (lines.Op o, 0)) ops (op ∷ []))
    ∙ sym (append_assoc is (txn_items ops) ((lines.Op op, 0) ∷ []))

told_op : (run : Bool) (ws : List (List Bytes)) (w : List Bytes) (part : Part) (settings : List Setting) (clients : List ClientScript) (side : Side) (txns : List (List TxOp)) (ops : List TxOp) (operator : List Command) (schedule : List ScheduleLine) (op : TxOp) → Told run (of_parts part settings clients side txns ops operator schedule) ws → placed part (lines.Op op) ≡ true → IsSaid (limit_for settings) w (lines.Op op, 0) → Told run (record (of_parts part settings clients side txns ops operator schedule) { part = part_behind op; ops = ops ++ op ∷ [] }) (ws ++ w ∷ [])
told_op run ws w parts.Reads settings clients side txns ops operator schedule (Get key) t st h = record {
  played = t.played;
  set = t.set;
  commanded = t.commanded;
  fresh = t.fresh;
  said = said_on (limit_for settings) ws (setting_items settings) ((of_clients clients ++ of_open (length clients + 1) side txns) ++ txn_items ops) _ w (lines.Op (Get key), 0) t.said h (ops_on (of_clients clients ++ of_open (length clients + 1) side txns) ops (Get key));
}
told_op run ws w parts.Settings settings clients side txns ops operator schedule (Get key) t st h = false_true st
told_op run ws w parts.Client settings clients side txns ops operator schedule (Get key) t st h = false_true st
told_op run ws w parts.Writes settings clients side txns ops operator schedule (Get key) t st h = false_true st
told_op run ws w parts.Operator settings clients side txns ops operator schedule (Get key) t st h = false_true st
told_op run ws w parts.Schedule settings clients side txns ops operator schedule (Get key) t st h = false_true st
told_op run ws w parts.Reads settings clients side txns ops operator schedule (SnapshotGet key) t st h = record {
  played = t.played;
  set = t.set;
  commanded = t.commanded;
  fresh = t.fresh;
  said = said_on (limit_for settings) ws (setting_items settings) ((of_clients clients ++ of_open (length clients + 1) side txns) ++ txn_items ops) _ w (lines.Op (SnapshotGet key), 0) t.said h (ops_on (of_clients clients ++ of_open (length clients + 1) side txns) ops (SnapshotGet key));
}
told_op run ws w parts.Settings settings clients side txns ops operator schedule (SnapshotGet key) t st h = false_true st
told_op run ws w parts.Client settings clients side txns ops operator schedule (SnapshotGet key) t st h = false_true st
told_op run ws w parts.Writes settings clients side txns ops operator schedule (SnapshotGet key) t st h = false_true st
told_op run ws w parts.Operator settings clients side txns ops operator schedule (SnapshotGet key) t st h = false_true st
told_op run ws w parts.Schedule settings clients side txns ops operator schedule (SnapshotGet key) t st h = false_true st
told_op run ws w parts.Reads settings clients side txns ops operator schedule (Scan range limit) t st h = record {
  played = t.played;
  set = t.set;
  commanded = t.commanded;
  fresh = t.fresh;
  said = said_on (limit_for settings) ws (setting_items settings) ((of_clients clients ++ of_open (length clients + 1) side txns) ++ txn_items ops) _ w (lines.Op (Scan range limit), 0) t.said h (ops_on (of_clients clients ++ of_open (length clients + 1) side txns) ops (Scan range limit));
}
told_op run ws w parts.Settings settings clients side txns ops operator schedule (Scan range limit) t st h = false_true st
told_op run ws w parts.Client settings clients side txns ops operator schedule (Scan range limit) t st h = false_true st
told_op run ws w parts.Writes settings clients side txns ops operator schedule (Scan range limit) t st h = false_true st
told_op run ws w parts.Operator settings clients side txns ops operator schedule (Scan range limit) t st h = false_true st
told_op run ws w parts.Schedule settings clients side txns ops operator schedule (Scan range limit) t st h = false_true st
told_op run ws w parts.Reads settings clients side txns ops operator schedule (Write mutation) t st h = record {
  played = t.played;
  set = t.set;
  commanded = t.commanded;
  fresh = t.fresh;
  said = said_on (limit_for settings) ws (setting_items settings) ((of_clients clients ++ of_open (length clients + 1) side txns) ++ txn_items ops) _ w (lines.Op (Write mutation), 0) t.said h (ops_on (of_clients clients ++ of_open (length clients + 1) side txns) ops (Write mutation));
}
told_op run ws w parts.Writes settings clients side txns ops operator schedule (Write mutation) t st h = record {
  played = t.played;
  set = t.set;
  commanded = t.commanded;
  fresh = t.fresh;
  said = said_on (limit_for settings) ws (setting_items settings) ((of_clients clients ++ of_open (length clients + 1) side txns) ++ txn_items ops) _ w (lines.Op (Write mutation), 0) t.said h (ops_on (of_clients clients ++ of_open (length clients + 1) side txns) ops (Write mutation));
}
told_op run ws w parts.Settings settings clients side txns ops operator schedule (Write mutation) t st h = false_true st
told_op run ws w parts.Client settings clients side txns ops operator schedule (Write mutation) t st h = false_true st
told_op run ws w parts.Operator settings clients side txns ops operator schedule (Write mutation) t st h = false_true st
told_op run ws w parts.Schedule settings clients side txns ops operator schedule (Write mutation) t st h = false_true st

told_operator : (run : Bool) (ws : List (List Bytes)) (w : List Bytes) (part : Part) (settings : List Setting) (clients : List ClientScript) (side : Side) (txns : List (List TxOp)) (ops : List TxOp) (operator : List Command) (schedule : List ScheduleLine) → Told run (of_parts part settings clients side txns ops operator schedule) ws → placed part lines.Operator ≡ true → IsSaid (limit_for settings) w (lines.Operator, 0) → Told run (record (closed (of_parts part settings clients side txns ops operator schedule)) { part = parts.Operator }) (ws ++ w ∷ [])
told_operator run ws w parts.Settings settings clients side txns ops operator schedule t st h = record {
  played = t.played;
  set = t.set;
  commanded = true;
  fresh = (refl, t.fresh.3);
  said = said_on (limit_for settings) ws (setting_items settings) [] _ w (lines.Operator, 0) t.said h (ap (λ (cs : List ClientScript). of_clients cs ++ operator_items true operator) t.fresh.0 ∙ ap (λ (os : List Command). operator_items true os) t.fresh.2);
}
told_operator run ws w parts.Client settings clients side txns ops operator schedule t st h = record {
  played = t.played;
  set = t.set;
  commanded = true;
  fresh = (refl, t.fresh.2);
  said = said_on (limit_for settings) ws (setting_items settings) (of_clients clients ++ of_open (length clients + 1) side txns) _ w (lines.Operator, 0) t.said h (ap (λ (is : List Item). is ++ operator_items true operator) (closed_client clients side txns) ∙ ap (λ (os : List Command). (of_clients clients ++ of_open (length clients + 1) side txns) ++ operator_items true os) t.fresh.1);
}
told_operator run ws w parts.Reads settings clients side txns ops operator schedule t st h = record {
  played = t.played;
  set = t.set;
  commanded = true;
  fresh = (refl, t.fresh.1);
  said = said_on (limit_for settings) ws (setting_items settings) ((of_clients clients ++ of_open (length clients + 1) side txns) ++ txn_items ops) _ w (lines.Operator, 0) t.said h (ap (λ (is : List Item). is ++ operator_items true operator) (closed_txn clients side txns ops) ∙ ap (λ (os : List Command). ((of_clients clients ++ of_open (length clients + 1) side txns) ++ txn_items ops) ++ operator_items true os) t.fresh.0);
}
told_operator run ws w parts.Writes settings clients side txns ops operator schedule t st h = record {
  played = t.played;
  set = t.set;
  commanded = true;
  fresh = (refl, t.fresh.1);
  said = said_on (limit_for settings) ws (setting_items settings) ((of_clients clients ++ of_open (length clients + 1) side txns) ++ txn_items ops) _ w (lines.Operator, 0) t.said h (ap (λ (is : List Item). is ++ operator_items true operator) (closed_txn clients side txns ops) ∙ ap (λ (os : List Command). ((of_clients clients ++ of_open (length clients + 1) side txns) ++ txn_items ops) ++ operator_items true os) t.fresh.0);
}
told_operator run ws w parts.Operator settings clients side txns ops operator schedule t st h = false_true st
told_operator run ws w parts.Schedule settings clients side txns ops operator schedule t st h = false_true st

orders_on : (is : List Item) (b : Bool) (operator : List Command) (command : Command) → is ++ operator_items b (operator ++ command ∷ []) ≡ (is ++ operator_items b operator) ++ (lines.Order command, 0) ∷ []
orders_on is true operator command =
    ap (λ (more : List Item). is ++ ((lines.Operator, 0) ∷ more)) (map-append (λ (c : Command). (lines.Order c, 0)) operator (command ∷ []))
    ∙ sym (append_assoc is (operator_items true operator) ((lines.Order command, 0) ∷ []))
orders_on is false operator command =
    ap (λ (more : List Item). is ++ more) (map-append (λ (c : Command). (lines.Order c, 0)) operator (command ∷ []))
    ∙ sym (append_assoc is (operator_items false operator) ((lines.Order command, 0) ∷ []))

told_order : (run : Bool) (ws : List (List Bytes)) (w : List Bytes) (part : Part) (settings : List Setting) (clients : List ClientScript) (side : Side) (txns : List (List TxOp)) (ops : List TxOp) (operator : List Command) (schedule : List ScheduleLine) (command : Command) → Told run (of_parts part settings clients side txns ops operator schedule) ws → placed part (lines.Order command) ≡ true → IsSaid (limit_for settings) w (lines.Order command, 0) → Told run (record (of_parts part settings clients side txns ops operator schedule) { operator = operator ++ command ∷ [] }) (ws ++ w ∷ [])
told_order run ws w parts.Operator settings clients side txns ops operator schedule command t st h = record {
  played = t.played;
  set = t.set;
  commanded = t.commanded;
  fresh = t.fresh;
  said = said_on (limit_for settings) ws (setting_items settings) (of_clients clients ++ operator_items t.commanded operator) _ w (lines.Order command, 0) t.said h (orders_on (of_clients clients) t.commanded operator command);
}
told_order run ws w parts.Settings settings clients side txns ops operator schedule command t st h = false_true st
told_order run ws w parts.Client settings clients side txns ops operator schedule command t st h = false_true st
told_order run ws w parts.Reads settings clients side txns ops operator schedule command t st h = false_true st
told_order run ws w parts.Writes settings clients side txns ops operator schedule command t st h = false_true st
told_order run ws w parts.Schedule settings clients side txns ops operator schedule command t st h = false_true st

told_schedule : (run : Bool) (ws : List (List Bytes)) (w : List Bytes) (part : Part) (settings : List Setting) (clients : List ClientScript) (side : Side) (txns : List (List TxOp)) (ops : List TxOp) (operator : List Command) (schedule : List ScheduleLine) → run ≡ false → Told run (of_parts part settings clients side txns ops operator schedule) ws → placed part lines.Schedule ≡ true → IsSaid (limit_for settings) w (lines.Schedule, 0) → Told run (record (closed (of_parts part settings clients side txns ops operator schedule)) { part = parts.Schedule }) (ws ++ w ∷ [])
told_schedule run ws w parts.Settings settings clients side txns ops operator schedule no_run t st h = record {
  played = ap (λ (b : Bool). b && true) no_run;
  set = t.set;
  commanded = false;
  fresh = t.fresh.2;
  said = said_on (limit_for settings) ws (setting_items settings) [] _ w (lines.Schedule, 0) t.said h (ap (λ (cs : List ClientScript). (of_clients cs ++ operator_items false operator) ++ schedule_items true schedule) t.fresh.0 ∙ ap (λ (os : List Command). operator_items false os ++ schedule_items true schedule) t.fresh.2 ∙ ap (λ (es : List ScheduleLine). schedule_items true es) t.fresh.3);
}
told_schedule run ws w parts.Client settings clients side txns ops operator schedule no_run t st h = record {
  played = ap (λ (b : Bool). b && true) no_run;
  set = t.set;
  commanded = false;
  fresh = t.fresh.1;
  said = said_on (limit_for settings) ws (setting_items settings) (of_clients clients ++ of_open (length clients + 1) side txns) _ w (lines.Schedule, 0) t.said h (ap (λ (is : List Item). (is ++ operator_items false operator) ++ schedule_items true schedule) (closed_client clients side txns) ∙ ap (λ (os : List Command). ((of_clients clients ++ of_open (length clients + 1) side txns) ++ operator_items false os) ++ schedule_items true schedule) t.fresh.1 ∙ ap (λ (es : List ScheduleLine). ((of_clients clients ++ of_open (length clients + 1) side txns) ++ []) ++ schedule_items true es) t.fresh.2 ∙ ap (λ (is : List Item). is ++ (lines.Schedule, 0) ∷ []) (append-nil (of_clients clients ++ of_open (length clients + 1) side txns)));
}
told_schedule run ws w parts.Reads settings clients side txns ops operator schedule no_run t st h = record {
  played = ap (λ (b : Bool). b && true) no_run;
  set = t.set;
  commanded = false;
  fresh = t.fresh.0;
  said = said_on (limit_for settings) ws (setting_items settings) ((of_clients clients ++ of_open (length clients + 1) side txns) ++ txn_items ops) _ w (lines.Schedule, 0) t.said h (ap (λ (is : List Item). (is ++ operator_items false operator) ++ schedule_items true schedule) (closed_txn clients side txns ops) ∙ ap (λ (os : List Command). (((of_clients clients ++ of_open (length clients + 1) side txns) ++ txn_items ops) ++ operator_items false os) ++ schedule_items true schedule) t.fresh.0 ∙ ap (λ (es : List ScheduleLine). (((of_clients clients ++ of_open (length clients + 1) side txns) ++ txn_items ops) ++ []) ++ schedule_items true es) t.fresh.1 ∙ ap (λ (is : List Item). is ++ (lines.Schedule, 0) ∷ []) (append-nil ((of_clients clients ++ of_open (length clients + 1) side txns) ++ txn_items ops)));
}
told_schedule run ws w parts.Writes settings clients side txns ops operator schedule no_run t st h = record {
  played = ap (λ (b : Bool). b && true) no_run;
  set = t.set;
  commanded = false;
  fresh = t.fresh.0;
  said = said_on (limit_for settings) ws (setting_items settings) ((of_clients clients ++ of_open (length clients + 1) side txns) ++ txn_items ops) _ w (lines.Schedule, 0) t.said h (ap (λ (is : List Item). (is ++ operator_items false operator) ++ schedule_items true schedule) (closed_txn clients side txns ops) ∙ ap (λ (os : List Command). (((of_clients clients ++ of_open (length clients + 1) side txns) ++ txn_items ops) ++ operator_items false os) ++ schedule_items true schedule) t.fresh.0 ∙ ap (λ (es : List ScheduleLine). (((of_clients clients ++ of_open (length clients + 1) side txns) ++ txn_items ops) ++ []) ++ schedule_items true es) t.fresh.1 ∙ ap (λ (is : List Item). is ++ (lines.Schedule, 0) ∷ []) (append-nil ((of_clients clients ++ of_open (length clients + 1) side txns) ++ txn_items ops)));
}
told_schedule run ws w parts.Operator settings clients side txns ops operator schedule no_run t st h = record {
  played = ap (λ (b : Bool). b && true) no_run;
  set = t.set;
  commanded = t.commanded;
  fresh = subst (λ (b : Bool). BegunFor b operator) (sym t.fresh.0) tt;
  said = said_on (limit_for settings) ws (setting_items settings) (of_clients clients ++ operator_items t.commanded operator) _ w (lines.Schedule, 0) t.said h (ap (λ (es : List ScheduleLine). (of_clients clients ++ operator_items t.commanded operator) ++ schedule_items true es) t.fresh.1);
}
told_schedule run ws w parts.Schedule settings clients side txns ops operator schedule no_run t st h = false_true st

events_on : (is : List Item) (schedule : List ScheduleLine) (event : ScheduleLine) → is ++ schedule_items true (schedule ++ event ∷ []) ≡ (is ++ schedule_items true schedule) ++ event_item event ∷ []
events_on is schedule event =
    ap (λ (more : List Item). is ++ ((lines.Schedule, 0) ∷ more)) (map-append event_item schedule (event ∷ []))
    ∙ sym (append_assoc is (schedule_items true schedule) (event_item event ∷ []))

told_event : (run : Bool) (ws : List (List Bytes)) (w : List Bytes) (part : Part) (settings : List Setting) (clients : List ClientScript) (side : Side) (txns : List (List TxOp)) (ops : List TxOp) (operator : List Command) (schedule : List ScheduleLine) (kind : EventKind) (n m : ℕ) → IsPlain kind n m → Told run (of_parts part settings clients side txns ops operator schedule) ws → in_schedule part ≡ true → IsSaid (limit_for settings) w (lines.Event kind n m, 0) → Told run (record (of_parts part settings clients side txns ops operator schedule) { schedule = schedule ++ event_with kind n m ∷ [] }) (ws ++ w ∷ [])
told_event run ws w parts.Schedule settings clients side txns ops operator schedule kind n m plain t st h = record {
  played = t.played;
  set = t.set;
  commanded = t.commanded;
  fresh = t.fresh;
  said = said_on (limit_for settings) ws (setting_items settings) ((of_clients clients ++ operator_items t.commanded operator) ++ schedule_items true schedule) _ w (lines.Event kind n m, 0) t.said h
      (events_on (of_clients clients ++ operator_items t.commanded operator) schedule (event_with kind n m)
      ∙ ap (λ (line : Line). ((of_clients clients ++ operator_items t.commanded operator) ++ schedule_items true schedule) ++ (line, 0) ∷ []) plain);
}
told_event run ws w parts.Settings settings clients side txns ops operator schedule kind n m plain t st h = false_true st
told_event run ws w parts.Client settings clients side txns ops operator schedule kind n m plain t st h = false_true st
told_event run ws w parts.Reads settings clients side txns ops operator schedule kind n m plain t st h = false_true st
told_event run ws w parts.Writes settings clients side txns ops operator schedule kind n m plain t st h = false_true st
told_event run ws w parts.Operator settings clients side txns ops operator schedule kind n m plain t st h = false_true st

-- ---- one line

abbrev item_of : Sofar → Line → Item
item_of s (lines.Client side) = (lines.Client side, clients_in s + 1)
item_of s line = (line, 0)

-- no schedule begins in a run
abbrev no_schedule : Bool → Line → Bool
no_schedule run lines.Schedule = not run
no_schedule run line = true

told_line : (run : Bool) (ws : List (List Bytes)) (w : List Bytes) (s : Sofar) (line : Line) → Told run s ws → IsLine s.part (limit_in s) line → no_schedule run line ≡ true → IsSaid (limit_in s) w (item_of s line) → IfOk (with_line s line) (λ next. Told run next (ws ++ w ∷ []))
told_line run ws w s (lines.Setting setting) t l p h = told_setting run ws w s.part s.settings s.clients s.side s.txns s.ops s.operator s.schedule setting t l.0 h
told_line run ws w s (lines.Client side) t l p h = so_then (λ next. Told run next (ws ++ w ∷ [])) why.Many (nat_lt (clients_in s) 64) _ (λ few. told_client run ws w s.part s.settings s.clients s.side s.txns s.ops s.operator s.schedule side t l.0 h)
told_line run ws w s lines.Txn t l p h = so_then (λ next. Told run next (ws ++ w ∷ [])) why.Many (nat_lt (length (with_txn s).txns) 100000) _ (λ few. told_txn run ws w s.part s.settings s.clients s.side s.txns s.ops s.operator s.schedule t l.0 h)
told_line run ws w s (lines.Op op) t l p h = so_then (λ next. Told run next (ws ++ w ∷ [])) why.Many (nat_lt (length s.ops) 10000) _ (λ few. told_op run ws w s.part s.settings s.clients s.side s.txns s.ops s.operator s.schedule op t l.0 h)
told_line run ws w s lines.Operator t l p h = told_operator run ws w s.part s.settings s.clients s.side s.txns s.ops s.operator s.schedule t l.0 h
told_line run ws w s (lines.Order command) t l p h = so_then (λ next. Told run next (ws ++ w ∷ [])) why.Many (nat_lt (length s.operator) 1000) _ (λ few. told_order run ws w s.part s.settings s.clients s.side s.txns s.ops s.operator s.schedule command t l.0 h)
told_line run ws w s lines.Schedule t l p h = told_schedule run ws w s.part s.settings s.clients s.side s.txns s.ops s.operator s.schedule (not_back run p) t l.0 h
told_line run ws w s (lines.Event kind n m) t l p h =
    so_then (λ next. Told run next (ws ++ w ∷ [])) why.Many (nat_lt (length s.schedule) 1000000) _
    (λ few. so_then (λ next. Told run next (ws ++ w ∷ [])) why.Nobody (is_there s kind n) _
    (λ there. told_event run ws w s.part s.settings s.clients s.side s.txns s.ops s.operator s.schedule kind n m l.1.2 t l.0 h))

no_schedule_passes : (run : Bool) (k : Keyword) → not (is_scheduled run k) ≡ true → Pass (no_schedule run) k
no_schedule_passes run (words.Setting kind) h = λ x. refl
no_schedule_passes run words.Death h = λ x. refl
no_schedule_passes run words.Stall h = λ x. refl
no_schedule_passes run words.Client h = λ x. refl
no_schedule_passes run words.Txn h = refl
no_schedule_passes run (words.Read kind) h = λ x e. refl
no_schedule_passes run (words.Write kind) h = λ x e. refl
no_schedule_passes run words.Operator h = refl
no_schedule_passes run (words.Command kind) h = λ x. refl
no_schedule_passes run words.Schedule h = h
no_schedule_passes run (words.Event kind) h = λ x n m. refl

any_ok : {A : Type 0} (Q : A → Type 0) (r : Read A) → ((x : A) → Q x) → IfOk r Q
any_ok Q (Ok x) h = h x
any_ok Q (Err e) h = tt

first_of_two : {A : Type 0} (P Q : A → Type 0) (r : Read A) → IfOk r (λ x. P x × Q x) → IfOk r P
first_of_two P Q (Ok x) h = h.0
first_of_two P Q (Err e) h = tt

all_of : {A : Type 0} (P Q R : A → Type 0) (r : Read A) → IfOk r P → IfOk r Q → IfOk r R → IfOk r (λ x. P x × Q x × R x × (r ≡ Ok x))
all_of P Q R (Ok x) p q r = (p, q, r, refl)
all_of P Q R (Err e) p q r = tt

spelled_ok : (s : Sofar) (limit : ℕ) (k : Keyword) (list : List Bytes) → is_next s k list ≡ true → IfOk (said limit k list) (λ line. spells k list (item_of s line).1 ≡ true)
spelled_ok s limit words.Client list h = first_of_two (λ line. is_first_no_other (item_of s line).1 list ≡ true) (IsSound limit) (said limit words.Client list) (said_passes (λ line. is_first_no_other (item_of s line).1 list) limit words.Client list (λ x. h))
spelled_ok s limit (words.Setting kind) list h = any_ok _ _ (λ x. refl)
spelled_ok s limit words.Death list h = any_ok _ _ (λ x. refl)
spelled_ok s limit words.Stall list h = any_ok _ _ (λ x. refl)
spelled_ok s limit words.Txn list h = any_ok _ _ (λ x. refl)
spelled_ok s limit (words.Read kind) list h = any_ok _ _ (λ x. refl)
spelled_ok s limit (words.Write kind) list h = any_ok _ _ (λ x. refl)
spelled_ok s limit words.Operator list h = any_ok _ _ (λ x. refl)
spelled_ok s limit (words.Command kind) list h = any_ok _ _ (λ x. refl)
spelled_ok s limit words.Schedule list h = any_ok _ _ (λ x. refl)
spelled_ok s limit (words.Event kind) list h = any_ok _ _ (λ x. refl)

-- an item's line
item_line : (s : Sofar) (line : Line) → (item_of s line).0 ≡ line
item_line s (lines.Setting setting) = refl
item_line s (lines.Client side) = refl
item_line s lines.Txn = refl
item_line s (lines.Op op) = refl
item_line s lines.Operator = refl
item_line s (lines.Order command) = refl
item_line s lines.Schedule = refl
item_line s (lines.Event kind n m) = refl

told_keyword : (run : Bool) (ws : List (List Bytes)) (s : Sofar) (k : Keyword) (word : Bytes) (list : List Bytes) → Told run s ws → keyword_of word ≡ Some k → IfOk (with_keyword run s k list) (λ next. Told run next (ws ++ (word ∷ list) ∷ []))
told_keyword run ws s k word list t known =
    so_then (λ next. Told run next (ws ++ (word ∷ list) ∷ [])) why.Place (stands s.part k && is_next s k list) _
    (λ pl. so_then (λ next. Told run next (ws ++ (word ∷ list) ∷ [])) why.Schedule (not (is_scheduled run k)) _
    (λ sc. let p = and_parts (stands s.part k) (is_next s k list) pl in
    each_then (λ line. IsLine s.part (limit_in s) line × (no_schedule run line ≡ true) × (spells k list (item_of s line).1 ≡ true) × (said (limit_in s) k list ≡ Ok line)) (λ next. Told run next (ws ++ (word ∷ list) ∷ [])) (said (limit_in s) k list) (with_line s)
    (all_of (IsLine s.part (limit_in s)) (λ line. no_schedule run line ≡ true) (λ line. spells k list (item_of s line).1 ≡ true) (said (limit_in s) k list)
    (said_ok s.part (limit_in s) k list p.0)
    (first_of_two (λ line. no_schedule run line ≡ true) (IsSound (limit_in s)) (said (limit_in s) k list) (said_passes (no_schedule run) (limit_in s) k list (no_schedule_passes run k sc)))
    (spelled_ok s (limit_in s) k list p.1))
    (λ line f. told_line run ws (word ∷ list) s line t f.0 f.1 (k, known, f.3 ∙ ap (λ (l : Line). Ok l) (sym (item_line s line)), f.2))))

-- the words of a line, where it says something
abbrev behind : List (List Bytes) → List Bytes → List (List Bytes)
behind ws list = if says_something list then ws ++ list ∷ [] else ws

told_words : (run : Bool) (ws : List (List Bytes)) (s : Sofar) (list : List Bytes) → Told run s ws → IfOk (with_words run s list) (λ next. Told run next (behind ws list))
told_words run ws s [] t = t
told_words run ws s (word ∷ list) t =
    elim (is_comment word) as (λ b. IfOk (if b then Ok s else (found_or (Refused why.Word) (keyword_of word) >>= λ k. with_keyword run s k list)) (λ next. Told run next (if not b then ws ++ (word ∷ list) ∷ [] else ws))) [
      | true ↦ t
      | false ↦ known (keyword_of word) refl
    ]
  where
    known : (o : Option Keyword) → keyword_of word ≡ o → IfOk (found_or (Refused why.Word) o >>= λ k. with_keyword run s k list) (λ next. Told run next (ws ++ (word ∷ list) ∷ []))
    known None e = tt
    known (Some k) e = told_keyword run ws s k word list t e

told_bytes : (run : Bool) (ws : List (List Bytes)) (s : Sofar) (line : Bytes) → Told run s ws → IfOk (with_bytes run s line) (λ next. Told run next (behind ws (words_of line)) × (list_all is_text_byte line ≡ true))
told_bytes run ws s line t =
    so_then (λ next. Told run next (behind ws (words_of line)) × (list_all is_text_byte line ≡ true)) why.Byte (list_all is_text_byte line) (with_words run s (words_of line))
    (λ text. both (with_words run s (words_of line)) text (told_words run ws s (words_of line) t))
  where
    both : (r : Read Sofar) → list_all is_text_byte line ≡ true → IfOk r (λ next. Told run next (behind ws (words_of line))) → IfOk r (λ next. Told run next (behind ws (words_of line)) × (list_all is_text_byte line ≡ true))
    both (Ok next) text h = (h, text)
    both (Err e) text h = tt

-- ---- all lines

abbrev Ends : Bool → Sofar → List (List Bytes) → List Bytes → Type 0
Ends run s ws list = Told run s (ws ++ speaking list) × (list_all (λ line. list_all is_text_byte line) list ≡ true) × IsReady s

ok_same : (x y : Sofar) → ◌≡◌ {A = Result Sofar TextFault} (Ok x) (Ok y) → x ≡ y
ok_same x y e = cc

speaking_on : (ws : List (List Bytes)) (line : Bytes) (rest : List Bytes) → behind ws (words_of line) ++ speaking rest ≡ ws ++ speaking (line ∷ rest)
speaking_on ws line rest = elim (says_something (words_of line)) as (λ b. (if b then ws ++ words_of line ∷ [] else ws) ++ speaking rest ≡ ws ++ (if b then words_of line ∷ speaking rest else speaking rest)) [ true ↦ append_assoc ws (words_of line ∷ []) (speaking rest) | false ↦ refl ]

told_lines : (run : Bool) (number : ℕ) (s end : Sofar) (ws : List (List Bytes)) (list : List Bytes) → Told run s ws → IsReady s → with_lines run number s list ≡ Ok end → Ends run end ws list
told_lines run number s end ws [] t r e =
    let same : s ≡ end = ok_same s end e in
    (subst (λ (x : Sofar). Told run x (ws ++ [])) same (subst (λ (v : List (List Bytes)). Told run s v) (sym (append-nil ws)) t), refl, subst (λ (x : Sofar). IsReady x) same r)
told_lines run number s end ws (line ∷ rest) t r e =
    go (with_bytes run s line) refl (told_bytes run ws s line t) e (λ next h i f. told_lines run (number + 1) next end (behind ws (words_of line)) rest h i f)
  where
    go : (o : Read Sofar) → with_bytes run s line ≡ o → IfOk o (λ next. Told run next (behind ws (words_of line)) × (list_all is_text_byte line ≡ true)) → (numbered number o >>= λ next. with_lines run (number + 1) next rest) ≡ Ok end
        → ((next : Sofar) → Told run next (behind ws (words_of line)) → IsReady next → with_lines run (number + 1) next rest ≡ Ok end → Ends run end (behind ws (words_of line)) rest) → Ends run end ws (line ∷ rest)
    go (Err fault) was h f on = cc
    go (Ok next) was h f on =
        let ends = on next h.0 (bytes_ready run s next line r was) f in
        (subst (λ (v : List (List Bytes)). Told run end v) (speaking_on ws line rest) ends.0, and_from (list_all is_text_byte line) (list_all (λ l. list_all is_text_byte l) rest) h.1 ends.1, ends.2)

start_told : (run : Bool) → Told run at_start []
start_told run = record { played = none run; set = refl; commanded = false; fresh = (refl, refl, refl, refl, refl); said = tt }
  where
    none : (b : Bool) → (b && false) ≡ false
    none true = refl
    none false = refl

-- ---- the end

end_items : (front clients orders events body : List Item) → body ≡ (clients ++ orders) ++ events → front ++ body ≡ ((front ++ clients) ++ orders) ++ events
end_items front clients orders events body e =
    ap (λ (is : List Item). front ++ is) e ∙ sym (append_assoc front (clients ++ orders) events) ∙ ap (λ (is : List Item). is ++ events) (sym (append_assoc front clients orders))

nothing_more : (is : List Item) (operator : List Command) (schedule : List ScheduleLine) → operator ≡ [] → schedule ≡ [] → is ≡ (is ++ operator_items false operator) ++ schedule_items false schedule
nothing_more is operator schedule p q =
    sym (ap (λ (os : List Command). (is ++ operator_items false os) ++ schedule_items false schedule) p ∙ ap (λ (es : List ScheduleLine). (is ++ []) ++ schedule_items false es) q ∙ append-nil (is ++ []) ∙ append-nil is)

at_end : (run : Bool) (text : Bytes) (part : Part) (settings : List Setting) (clients : List ClientScript) (side : Side) (txns : List (List TxOp)) (ops : List TxOp) (operator : List Command) (schedule : List ScheduleLine) → length text ≤ most_bytes → list_all (λ line. list_all is_text_byte line) (lines_of text) ≡ true → Told run (of_parts part settings clients side txns ops operator schedule) (speaking (lines_of text)) → IsWhole (closed (of_parts part settings clients side txns ops operator schedule)) → IsTextOf run text (built_of (of_parts part settings clients side txns ops operator schedule))
at_end run text parts.Settings settings clients side txns ops operator schedule short bytes t whole = record {
  short = short;
  bytes = bytes;
  settings = settings;
  settings_allowed = t.set;
  set = refl;
  commanded = false;
  commands_begun = t.fresh.2;
  scheduled = false;
  events_begun = t.fresh.3;
  played = t.played;
  said = subst (λ (is : List Item). AreSaid (limit_for settings) (speaking (lines_of text)) is) (end_items (setting_items settings) _ _ _ [] (sym (ap (λ (cs : List ClientScript). (of_clients cs ++ operator_items false operator) ++ schedule_items false schedule) t.fresh.0 ∙ ap (λ (os : List Command). operator_items false os ++ schedule_items false schedule) t.fresh.2 ∙ ap (λ (es : List ScheduleLine). schedule_items false es) t.fresh.3))) t.said;
  clients_allowed = whole.clients;
  few_commands = whole.few_commands;
  events_allowed = whole.schedule;
}
at_end run text parts.Client settings clients side txns ops operator schedule short bytes t whole = record {
  short = short;
  bytes = bytes;
  settings = settings;
  settings_allowed = t.set;
  set = refl;
  commanded = false;
  commands_begun = t.fresh.1;
  scheduled = false;
  events_begun = t.fresh.2;
  played = t.played;
  said = subst (λ (is : List Item). AreSaid (limit_for settings) (speaking (lines_of text)) is) (end_items (setting_items settings) _ _ _ (of_clients clients ++ of_open (length clients + 1) side txns) (sym (closed_client clients side txns) ∙ nothing_more _ operator schedule t.fresh.1 t.fresh.2)) t.said;
  clients_allowed = whole.clients;
  few_commands = whole.few_commands;
  events_allowed = whole.schedule;
}
at_end run text parts.Reads settings clients side txns ops operator schedule short bytes t whole = record {
  short = short;
  bytes = bytes;
  settings = settings;
  settings_allowed = t.set;
  set = refl;
  commanded = false;
  commands_begun = t.fresh.0;
  scheduled = false;
  events_begun = t.fresh.1;
  played = t.played;
  said = subst (λ (is : List Item). AreSaid (limit_for settings) (speaking (lines_of text)) is) (end_items (setting_items settings) _ _ _ ((of_clients clients ++ of_open (length clients + 1) side txns) ++ txn_items ops) (sym (closed_txn clients side txns ops) ∙ nothing_more _ operator schedule t.fresh.0 t.fresh.1)) t.said;
  clients_allowed = whole.clients;
  few_commands = whole.few_commands;
  events_allowed = whole.schedule;
}
at_end run text parts.Writes settings clients side txns ops operator schedule short bytes t whole = record {
  short = short;
  bytes = bytes;
  settings = settings;
  settings_allowed = t.set;
  set = refl;
  commanded = false;
  commands_begun = t.fresh.0;
  scheduled = false;
  events_begun = t.fresh.1;
  played = t.played;
  said = subst (λ (is : List Item). AreSaid (limit_for settings) (speaking (lines_of text)) is) (end_items (setting_items settings) _ _ _ ((of_clients clients ++ of_open (length clients + 1) side txns) ++ txn_items ops) (sym (closed_txn clients side txns ops) ∙ nothing_more _ operator schedule t.fresh.0 t.fresh.1)) t.said;
  clients_allowed = whole.clients;
  few_commands = whole.few_commands;
  events_allowed = whole.schedule;
}
at_end run text parts.Operator settings clients side txns ops operator schedule short bytes t whole = record {
  short = short;
  bytes = bytes;
  settings = settings;
  settings_allowed = t.set;
  set = refl;
  commanded = t.commanded;
  commands_begun = subst (λ (b : Bool). BegunFor b operator) (sym t.fresh.0) tt;
  scheduled = false;
  events_begun = t.fresh.1;
  played = t.played;
  said = subst (λ (is : List Item). AreSaid (limit_for settings) (speaking (lines_of text)) is) (end_items (setting_items settings) _ _ _ (of_clients clients ++ operator_items t.commanded operator) (sym (ap (λ (es : List ScheduleLine). (of_clients clients ++ operator_items t.commanded operator) ++ schedule_items false es) t.fresh.1 ∙ append-nil (of_clients clients ++ operator_items t.commanded operator)))) t.said;
  clients_allowed = whole.clients;
  few_commands = whole.few_commands;
  events_allowed = whole.schedule;
}
at_end run text parts.Schedule settings clients side txns ops operator schedule short bytes t whole = record {
  short = short;
  bytes = bytes;
  settings = settings;
  settings_allowed = t.set;
  set = refl;
  commanded = t.commanded;
  commands_begun = t.fresh;
  scheduled = true;
  events_begun = tt;
  played = t.played;
  said = subst (λ (is : List Item). AreSaid (limit_for settings) (speaking (lines_of text)) is) (end_items (setting_items settings) _ _ _ _ (refl)) t.said;
  clients_allowed = whole.clients;
  few_commands = whole.few_commands;
  events_allowed = whole.schedule;
}

-- what is read is the text of what it says
pub found_text : (run : Bool) (text : Bytes) (s : Sofar) → length text ≤ most_bytes → with_lines run 1 at_start (lines_of text) ≡ Ok s → IsTextOf run text (built_of s)
found_text run text s short e =
    let ends = told_lines run 1 at_start s [] (lines_of text) (start_told run) start_ready e in
    at_end run text s.part s.settings s.clients s.side s.txns s.ops s.operator s.schedule short ends.1 ends.0 (closed_whole s ends.2)
