-- Both readings agree: what is read is the text of what it says, and each such text is read.
use Rattle.std.proofs.Common.{◌≡◌, ◌∙◌, ℕ, ◌+◌, ◌<◌, ◌≤◌, Bool, true, false, not, ◌&&◌, ◌||◌, List, [], ◌∷◌, ◌++◌, length, map, refl, sym, ap, subst, arith, nat_le, nat_lt, nat_eq, if◌then◌else◌, Ok, Err, length-append, append_assoc, append-nil, Result, IfOk}
use Rattle.workload_text.specs.declared.text_fault.TextFault.{TextFault}
use Rattle.workload_text.specs.declared.text_fault.TextFault.TheVariants as faults
use Rattle.workload_text.specs.declared.text_fault.TextKind.TheVariants as why
use Rattle.std.specs.List.{list_all, flat_map}
use Rattle.std.proofs.lemmas.Bool.{and_parts, leb-true, lt-ltb, le-ltb, ltb-false, eqb-true, or_right}
use Rattle.fb_bytes.specs.Bytes.{Bytes}
use Rattle.fb_bytes.specs.Results.{GivesBut}
use Rattle.mutations.specs.declared.TxOp.{TxOp}
use Rattle.mutations.specs.declared.TxOp.TheVariants.{Get, SnapshotGet, Scan, Write}
use Rattle.block_frame.specs.Profiles.{key_limit_of}
use Rattle.workload_text.specs.declared.client_script.ClientScript.{ClientScript}
use Rattle.workload_text.specs.declared.client_script.Side.{Side}
use Rattle.workload_text.specs.declared.client_script.Side.TheVariants.{Src}
use Rattle.workload_text.specs.declared.command.Command.{Command}
use Rattle.workload_text.specs.declared.line.Line.TheVariants as lines
use Rattle.workload_text.specs.declared.part.Part.{Part}
use Rattle.workload_text.specs.declared.part.Part.TheVariants as parts
use Rattle.workload_text.specs.declared.schedule.ScheduleLine.{ScheduleLine}
use Rattle.workload_text.specs.declared.schedule.ScheduleLine.TheVariants as events
use Rattle.workload_text.specs.declared.setting.Setting.{Setting}
use Rattle.workload_text.specs.declared.setting.SettingKind.TheVariants as kinds
use Rattle.workload_text.specs.Allowed.{are_numbered, is_client, is_txn, is_op, writes, are_reads_first, are_events, is_event}
use Rattle.workload_text.specs.declared.workload.Workload.{Workload}
use Rattle.workload_text.specs.Grammar.{Built, built, built_of, what, whole_of, most_bytes}
use Rattle.workload_text.specs.Kinds.{event_kind_of, event_with, numbers_of}
use Rattle.workload_text.specs.Settings.{Numbers, comes_in, has_agent, limit_for, number_for}
use Rattle.workload_text.specs.Sofar.{Sofar, at_start, clients_in, closed, with_client, with_txn, with_lines, part_behind, is_there, in_settings, in_client, in_schedule}
use Rattle.workload_text.specs.Spelled.{Item, AreSaid, are_set, setting_items, txn_items, client_items, operator_items, schedule_items, event_item, BegunFor, speaking, IsTextOf}
use Rattle.workload_text.specs.Texts.{lines_of}
use Rattle.workload_text.specs.Words.{◌>>=◌}
use Rattle.workload_text.proofs.Again.{found_text}
use Rattle.workload_text.proofs.Keeping.{of_parts}
use Rattle.workload_text.proofs.Soundness.{placed}
use Rattle.workload_text.proofs.Taking.{Takes, Plays, where_true, none_true, takes, takes_setting, plays_then, plays_as, plays_all, lines_so}

-- ---- where the lines of a part lead to

-- these settings and clients, complete
record Closes (settings : List Setting) (clients : List ClientScript) (s : Sofar) : Type 0 where
  pub placed : (in_settings s.part || in_client s.part) ≡ true
  pub set : s.settings ≡ settings
  pub side : Side
  pub closed : closed s ≡ of_parts parts.Settings settings clients side [] [] [] []
  pub count : clients_in s ≡ length clients

-- a client that may go on, behind complete transactions
record Opens (settings : List Setting) (clients : List ClientScript) (side : Side) (txns : List (List TxOp)) (s : Sofar) : Type 0 where
  pub placed : in_client s.part ≡ true
  pub set : s.settings ≡ settings
  pub closed : with_txn s ≡ of_parts parts.Client settings clients side txns [] [] []
  pub count : clients_in s ≡ length clients + 1

-- these commands, where no schedule began
record Orders (settings : List Setting) (clients : List ClientScript) (operator : List Command) (s : Sofar) : Type 0 where
  pub placed : not (in_schedule s.part) ≡ true
  pub set : s.settings ≡ settings
  pub side : Side
  pub part : Part
  pub closed : closed s ≡ of_parts part settings clients side [] [] operator []

-- all of it
record Ends (settings : List Setting) (clients : List ClientScript) (operator : List Command) (schedule : List ScheduleLine) (s : Sofar) : Type 0 where
  pub side : Side
  pub part : Part
  pub closed : closed s ≡ of_parts part settings clients side [] [] operator schedule

one_longer : {A : Type 0} (xs : List A) (x : A) → length (xs ++ x ∷ []) ≡ length xs + 1
one_longer xs x = omega (arith, length-append xs (x ∷ []))

-- ---- settings

abbrev of_settings : List Setting → Sofar
of_settings settings = of_parts parts.Settings settings [] Src [] [] [] []

play_settings : (run : Bool) (limit : ℕ) (before settings : List Setting) → are_set before settings ≡ true → Plays run limit (Closes (before ++ settings) []) (of_settings before) (setting_items settings)
play_settings run limit before [] h = record {
  placed = refl;
  set = sym (append-nil before);
  side = Src;
  closed = ap of_settings (sym (append-nil before));
  count = refl;
}
play_settings run limit before (setting ∷ settings) h =
    let p = and_parts (not (comes_in setting before) && has_agent before setting) (are_set (before ++ setting ∷ []) settings) h in
    let q = and_parts (not (comes_in setting before)) (has_agent before setting) p.0 in (
      of_settings (before ++ setting ∷ []),
      takes_setting run limit (of_settings before) (of_settings (before ++ setting ∷ [])) setting refl
          (where_true why.Repeat (not (comes_in setting before)) _ (of_settings (before ++ setting ∷ [])) q.0
          (where_true why.Nobody (has_agent before setting) _ (of_settings (before ++ setting ∷ [])) q.1 refl)),
      subst (λ (l : List Setting). Plays run limit (Closes l []) (of_settings (before ++ setting ∷ [])) (setting_items settings)) (append_assoc before (setting ∷ []) settings)
          (play_settings run limit (before ++ setting ∷ []) settings p.1),
    )

-- ---- transactions

behind_write : (op : TxOp) → writes op ≡ true → part_behind op ≡ parts.Writes
behind_write (Get key) h = none_true h
behind_write (SnapshotGet key) h = none_true h
behind_write (Scan range limit) h = none_true h
behind_write (Write mutation) h = refl

write_placed : (op : TxOp) → writes op ≡ true → placed parts.Writes (lines.Op op) ≡ true
write_placed op h = rw h refl

take_op : (run : Bool) (settings : List Setting) (clients : List ClientScript) (side : Side) (txns : List (List TxOp)) (before : List TxOp) (part next : Part) (op : TxOp) → placed part (lines.Op op) ≡ true → part_behind op ≡ next → length before < 10000 → Takes run (limit_for settings) (of_parts part settings clients side txns before [] []) (lines.Op op, 0) (of_parts next settings clients side txns (before ++ op ∷ []) [] [])
take_op run settings clients side txns before part next op p e few =
    takes run (limit_for settings) (of_parts part settings clients side txns before [] []) (of_parts next settings clients side txns (before ++ op ∷ []) [] []) (lines.Op op) 0 refl p tt refl
    (where_true why.Many (nat_lt (length before) 10000) _ (of_parts next settings clients side txns (before ++ op ∷ []) [] []) (lt-ltb _ _ few)
    (ap (λ (q : Part). Ok (of_parts q settings clients side txns (before ++ op ∷ []) [] [])) e))

abbrev op_items : List TxOp → List Item
op_items ops = map (λ op. (lines.Op op, 0)) ops

-- behind the last operation
opens_writes : (settings : List Setting) (clients : List ClientScript) (side : Side) (txns : List (List TxOp)) (ops all : List TxOp) → ops ≡ all → Opens settings clients side (txns ++ all ∷ []) (of_parts parts.Writes settings clients side txns ops [] [])
opens_writes settings clients side txns ops all e = record {
  placed = refl;
  set = refl;
  closed = ap (λ (o : List TxOp). of_parts parts.Client settings clients side (txns ++ o ∷ []) [] [] []) e;
  count = refl;
}

opens_reads : (settings : List Setting) (clients : List ClientScript) (side : Side) (txns : List (List TxOp)) (ops all : List TxOp) → ops ≡ all → Opens settings clients side (txns ++ all ∷ []) (of_parts parts.Reads settings clients side txns ops [] [])
opens_reads settings clients side txns ops all e = record {
  placed = refl;
  set = refl;
  closed = ap (λ (o : List TxOp). of_parts parts.Client settings clients side (txns ++ o ∷ []) [] [] []) e;
  count = refl;
}

-- the operations of a transaction, from such a part on
abbrev PlaysOps : Bool → List Setting → List ClientScript → Side → List (List TxOp) → Part → List TxOp → List TxOp → List TxOp → Type 0
PlaysOps run settings clients side txns part before ops all =
    Plays run (limit_for settings) (Opens settings clients side (txns ++ all ∷ [])) (of_parts part settings clients side txns before [] []) (op_items ops)

-- an operation, and then the others
op_first : (run : Bool) (settings : List Setting) (clients : List ClientScript) (side : Side) (txns : List (List TxOp)) (before : List TxOp) (part next : Part) (op : TxOp) (ops : List TxOp) → placed part (lines.Op op) ≡ true → part_behind op ≡ next → length before < 10000 → PlaysOps run settings clients side txns next (before ++ op ∷ []) ops ((before ++ op ∷ []) ++ ops) → PlaysOps run settings clients side txns part before (op ∷ ops) (before ++ (op ∷ ops))
op_first run settings clients side txns before part next op ops p e few rest = (
  of_parts next settings clients side txns (before ++ op ∷ []) [] [],
  take_op run settings clients side txns before part next op p e few,
  subst (λ (all : List TxOp). PlaysOps run settings clients side txns next (before ++ op ∷ []) ops all) (append_assoc before (op ∷ []) ops) rest,
)

play_writes : (run : Bool) (settings : List Setting) (clients : List ClientScript) (side : Side) (txns : List (List TxOp)) (before ops : List TxOp) → list_all writes ops ≡ true → length before + length ops ≤ 10000 → PlaysOps run settings clients side txns parts.Writes before ops (before ++ ops)
play_writes run settings clients side txns before [] h few = opens_writes settings clients side txns before (before ++ []) (sym (append-nil before))
play_writes run settings clients side txns before (op ∷ ops) h few =
    let p = and_parts (writes op) (list_all writes ops) h in
    op_first run settings clients side txns before parts.Writes parts.Writes op ops (write_placed op p.0) (behind_write op p.0) (omega (arith, few))
    (play_writes run settings clients side txns (before ++ op ∷ []) ops p.1 (omega (arith, few, one_longer before op)))

play_reads : (run : Bool) (settings : List Setting) (clients : List ClientScript) (side : Side) (txns : List (List TxOp)) (before ops : List TxOp) → are_reads_first ops ≡ true → length before + length ops ≤ 10000 → PlaysOps run settings clients side txns parts.Reads before ops (before ++ ops)
play_reads run settings clients side txns before [] h few = opens_reads settings clients side txns before (before ++ []) (sym (append-nil before))
play_reads run settings clients side txns before (Get key ∷ ops) h few =
    op_first run settings clients side txns before parts.Reads parts.Reads (Get key) ops refl refl (omega (arith, few))
    (play_reads run settings clients side txns (before ++ Get key ∷ []) ops h (omega (arith, few, one_longer before (Get key))))
play_reads run settings clients side txns before (SnapshotGet key ∷ ops) h few =
    op_first run settings clients side txns before parts.Reads parts.Reads (SnapshotGet key) ops refl refl (omega (arith, few))
    (play_reads run settings clients side txns (before ++ SnapshotGet key ∷ []) ops h (omega (arith, few, one_longer before (SnapshotGet key))))
play_reads run settings clients side txns before (Scan range limit ∷ ops) h few =
    op_first run settings clients side txns before parts.Reads parts.Reads (Scan range limit) ops refl refl (omega (arith, few))
    (play_reads run settings clients side txns (before ++ Scan range limit ∷ []) ops h (omega (arith, few, one_longer before (Scan range limit))))
play_reads run settings clients side txns before (Write mutation ∷ ops) h few =
    op_first run settings clients side txns before parts.Reads parts.Writes (Write mutation) ops refl refl (omega (arith, few))
    (play_writes run settings clients side txns (before ++ Write mutation ∷ []) ops h (omega (arith, few, one_longer before (Write mutation))))

play_txn : (run : Bool) (settings : List Setting) (clients : List ClientScript) (side : Side) (txns : List (List TxOp)) (ops : List TxOp) (s : Sofar) → Opens settings clients side txns s → is_txn ops ≡ true → length txns < 100000 → Plays run (limit_for settings) (Opens settings clients side (txns ++ ops ∷ [])) s (txn_items ops)
play_txn run settings clients side txns ops s o h few =
    let begun : Sofar = of_parts parts.Reads settings clients side txns [] [] [] in
    let p = and_parts (nat_le (length ops) 10000 && are_reads_first ops) (list_all is_op ops) h in
    let q = and_parts (nat_le (length ops) 10000) (are_reads_first ops) p.0 in
    let same : length (with_txn s).txns ≡ length txns = ap (λ (t : Sofar). length t.txns) o.closed in (
      begun,
      takes run (limit_for settings) s begun lines.Txn 0 (ap limit_for o.set) o.placed tt refl
          (where_true why.Many (nat_lt (length (with_txn s).txns) 100000) _ begun (lt-ltb _ _ (omega (arith, same, few)))
          (ap (λ (t : Sofar). Ok (record t { part = parts.Reads })) o.closed)),
      play_reads run settings clients side txns [] ops q.1 (omega (arith, leb-true (length ops) 10000 q.0)),
    )

play_txns : (run : Bool) (settings : List Setting) (clients : List ClientScript) (side : Side) (before txns : List (List TxOp)) (s : Sofar) → Opens settings clients side before s → list_all is_txn txns ≡ true → length before + length txns ≤ 100000 → Plays run (limit_for settings) (Opens settings clients side (before ++ txns)) s (flat_map txn_items txns)
play_txns run settings clients side before [] s o h few = subst (λ (all : List (List TxOp)). Opens settings clients side all s) (sym (append-nil before)) o
play_txns run settings clients side before (ops ∷ txns) s o h few =
    let p = and_parts (is_txn ops) (list_all is_txn txns) h in
    subst (λ (all : List (List TxOp)). Plays run (limit_for settings) (Opens settings clients side all) s (flat_map txn_items (ops ∷ txns))) (append_assoc before (ops ∷ []) txns)
    (plays_then run (limit_for settings) (Opens settings clients side (before ++ ops ∷ [])) (Opens settings clients side ((before ++ ops ∷ []) ++ txns)) s (txn_items ops) (flat_map txn_items txns)
    (play_txn run settings clients side before ops s o p.0 (omega (arith, few)))
    (λ t more. play_txns run settings clients side (before ++ ops ∷ []) txns t more p.1 (omega (arith, few, one_longer before ops))))

-- ---- clients

closes_client : (settings : List Setting) (clients : List ClientScript) (script : ClientScript) (s : Sofar) → script.number ≡ length clients + 1 → Opens settings clients script.side script.txns s → Closes settings (clients ++ script ∷ []) s
closes_client settings clients script s e o = record {
  placed = or_right (in_settings s.part) (in_client s.part) o.placed;
  set = o.set;
  side = script.side;
  closed = ap with_client o.closed ∙ ap (λ (n : ℕ). of_parts parts.Settings settings (clients ++ record { number = n; side = script.side; txns = script.txns } ∷ []) script.side [] [] [] []) (sym e);
  count = o.count ∙ sym (one_longer clients script);
}

play_client : (run : Bool) (settings : List Setting) (before : List ClientScript) (script : ClientScript) (s : Sofar) → Closes settings before s → script.number ≡ length before + 1 → length before < 64 → is_client script ≡ true → Plays run (limit_for settings) (Closes settings (before ++ script ∷ [])) s (client_items script)
play_client run settings before script s c number few h =
    let begun : Sofar = of_parts parts.Client settings before script.side [] [] [] [] in
    let p = and_parts (nat_le (length script.txns) 100000) (list_all is_txn script.txns) h in (
      begun,
      takes run (limit_for settings) s begun (lines.Client script.side) script.number (ap limit_for c.set) c.placed (number ∙ ap (λ (n : ℕ). n + 1) (sym c.count)) refl
          (where_true why.Many (nat_lt (clients_in s) 64) _ begun (lt-ltb _ _ (omega (arith, c.count, few)))
          (ap (λ (t : Sofar). Ok (record t { part = parts.Client; side = script.side })) c.closed)),
      plays_as run (limit_for settings) (Opens settings before script.side script.txns) (Closes settings (before ++ script ∷ [])) begun (flat_map txn_items script.txns)
          (play_txns run settings before script.side [] script.txns begun (record { placed = refl; set = refl; closed = refl; count = refl }) p.1 (omega (arith, leb-true (length script.txns) 100000 p.0)))
          (λ t o. closes_client settings before script t number o),
    )

play_clients : (run : Bool) (settings : List Setting) (before clients : List ClientScript) (s : Sofar) → Closes settings before s → are_numbered (length before + 1) clients ≡ true → list_all is_client clients ≡ true → length before + length clients ≤ 64 → Plays run (limit_for settings) (Closes settings (before ++ clients)) s (flat_map client_items clients)
play_clients run settings before [] s c number h few = subst (λ (all : List ClientScript). Closes settings all s) (sym (append-nil before)) c
play_clients run settings before (script ∷ clients) s c number h few =
    let p = and_parts (is_client script) (list_all is_client clients) h in
    let q = and_parts (nat_eq script.number (length before + 1)) (are_numbered (length before + 1 + 1) clients) number in
    subst (λ (all : List ClientScript). Plays run (limit_for settings) (Closes settings all) s (flat_map client_items (script ∷ clients))) (append_assoc before (script ∷ []) clients)
    (plays_then run (limit_for settings) (Closes settings (before ++ script ∷ [])) (Closes settings ((before ++ script ∷ []) ++ clients)) s (client_items script) (flat_map client_items clients)
    (play_client run settings before script s c (eqb-true script.number (length before + 1) q.0) (omega (arith, few)) p.0)
    (λ t more. play_clients run settings (before ++ script ∷ []) clients t more (subst (λ (n : ℕ). are_numbered (n + 1) clients ≡ true) (sym (one_longer before script)) q.1) p.1 (omega (arith, few, one_longer before script))))

-- ---- the operator

play_commands : (run : Bool) (settings : List Setting) (clients : List ClientScript) (side : Side) (before commands : List Command) → length before + length commands ≤ 1000 → Plays run (limit_for settings) (Orders settings clients (before ++ commands)) (of_parts parts.Operator settings clients side [] [] before []) (map (λ command. (lines.Order command, 0)) commands)
play_commands run settings clients side before [] few = record {
  placed = refl;
  set = refl;
  side = side;
  part = parts.Operator;
  closed = ap (λ (all : List Command). of_parts parts.Operator settings clients side [] [] all []) (sym (append-nil before));
}
play_commands run settings clients side before (command ∷ commands) few =
    let next : Sofar = of_parts parts.Operator settings clients side [] [] (before ++ command ∷ []) [] in (
      next,
      takes run (limit_for settings) (of_parts parts.Operator settings clients side [] [] before []) next (lines.Order command) 0 refl refl tt refl
          (where_true why.Many (nat_lt (length before) 1000) _ next (lt-ltb _ _ (omega (arith, few))) refl),
      subst (λ (all : List Command). Plays run (limit_for settings) (Orders settings clients all) next (map (λ c. (lines.Order c, 0)) commands)) (append_assoc before (command ∷ []) commands)
          (play_commands run settings clients side (before ++ command ∷ []) commands (omega (arith, few, one_longer before command))),
    )

no_schedule : (part : Part) → (in_settings part || in_client part) ≡ true → not (in_schedule part) ≡ true
no_schedule parts.Settings h = refl
no_schedule parts.Client h = refl
no_schedule parts.Reads h = refl
no_schedule parts.Writes h = refl
no_schedule parts.Operator h = refl
no_schedule parts.Schedule h = h

play_operator : (run : Bool) (settings : List Setting) (clients : List ClientScript) (commanded : Bool) (operator : List Command) (s : Sofar) → Closes settings clients s → BegunFor commanded operator → length operator ≤ 1000 → Plays run (limit_for settings) (Orders settings clients operator) s (operator_items commanded operator)
play_operator run settings clients true operator s c b few =
    let begun : Sofar = of_parts parts.Operator settings clients c.side [] [] [] [] in (
      begun,
      takes run (limit_for settings) s begun lines.Operator 0 (ap limit_for c.set) c.placed tt refl
          (ap (λ (t : Sofar). Ok (record t { part = parts.Operator })) c.closed),
      play_commands run settings clients c.side [] operator (omega (arith, few)),
    )
play_operator run settings clients false operator s c b few =
    subst (λ (all : List Command). Plays run (limit_for settings) (Orders settings clients all) s (operator_items false all)) (sym b)
    (record { placed = no_schedule s.part c.placed; set = c.set; side = c.side; part = parts.Settings; closed = c.closed })

-- ---- the schedule

event_back : (event : ScheduleLine) → event_with (event_kind_of event) (numbers_of event).0 (numbers_of event).1 ≡ event
event_back (events.Begin client) = refl
event_back (events.Commit client) = refl
event_back (events.Tick n) = refl
event_back (events.Claim agent pick) = refl
event_back (events.Extend agent) = refl
event_back (events.Take agent) = refl
event_back (events.Place agent) = refl
event_back (events.Close agent) = refl
event_back (events.Die agent) = refl
event_back events.Op = refl
event_back events.Drain = refl

event_there : (s : Sofar) (event : ScheduleLine) → is_event (length s.clients) (number_for kinds.Agents s.settings) event ≡ true → is_there s (event_kind_of event) (numbers_of event).0 ≡ true
event_there s (events.Begin client) h = h
event_there s (events.Commit client) h = h
event_there s (events.Tick n) h = refl
event_there s (events.Claim agent pick) h = let p = and_parts (nat_le agent (number_for kinds.Agents s.settings)) _ h in p.0
event_there s (events.Extend agent) h = h
event_there s (events.Take agent) h = h
event_there s (events.Place agent) h = h
event_there s (events.Close agent) h = h
event_there s (events.Die agent) h = h
event_there s events.Op h = refl
event_there s events.Drain h = refl

play_events : (run : Bool) (settings : List Setting) (clients : List ClientScript) (side : Side) (operator : List Command) (before events : List ScheduleLine) → list_all (is_event (length clients) (number_for kinds.Agents settings)) events ≡ true → length before + length events ≤ 1000000 → Plays run (limit_for settings) (Ends settings clients operator (before ++ events)) (of_parts parts.Schedule settings clients side [] [] operator before) (map event_item events)
play_events run settings clients side operator before [] h few = record {
  side = side;
  part = parts.Schedule;
  closed = ap (λ (all : List ScheduleLine). of_parts parts.Schedule settings clients side [] [] operator all) (sym (append-nil before));
}
play_events run settings clients side operator before (event ∷ events) h few =
    let now : Sofar = of_parts parts.Schedule settings clients side [] [] operator before in
    let next : Sofar = of_parts parts.Schedule settings clients side [] [] operator (before ++ event ∷ []) in
    let p = and_parts (is_event (length clients) (number_for kinds.Agents settings) event) (list_all (is_event (length clients) (number_for kinds.Agents settings)) events) h in (
      next,
      takes run (limit_for settings) now next (lines.Event (event_kind_of event) (numbers_of event).0 (numbers_of event).1) 0 refl refl tt refl
          (where_true why.Many (nat_lt (length before) 1000000) _ next (lt-ltb _ _ (omega (arith, few)))
          (where_true why.Nobody (is_there now (event_kind_of event) (numbers_of event).0) _ next (event_there now event p.0)
          (ap (λ (e : ScheduleLine). Ok (of_parts parts.Schedule settings clients side [] [] operator (before ++ e ∷ []))) (event_back event)))),
      subst (λ (all : List ScheduleLine). Plays run (limit_for settings) (Ends settings clients operator all) next (map event_item events)) (append_assoc before (event ∷ []) events)
          (play_events run settings clients side operator (before ++ event ∷ []) events p.1 (omega (arith, few, one_longer before event))),
    )

other_way : (run b : Bool) → (run && b) ≡ false → (b && run) ≡ false
other_way true true h = h
other_way true false h = refl
other_way false true h = refl
other_way false false h = refl

play_schedule : (run : Bool) (settings : List Setting) (clients : List ClientScript) (operator : List Command) (scheduled : Bool) (schedule : List ScheduleLine) (s : Sofar) → Orders settings clients operator s → (run && scheduled) ≡ false → BegunFor scheduled schedule → list_all (is_event (length clients) (number_for kinds.Agents settings)) schedule ≡ true → length schedule ≤ 1000000 → Plays run (limit_for settings) (Ends settings clients operator schedule) s (schedule_items scheduled schedule)
play_schedule run settings clients operator true schedule s o played b h few =
    let begun : Sofar = of_parts parts.Schedule settings clients o.side [] [] operator [] in (
      begun,
      takes run (limit_for settings) s begun lines.Schedule 0 (ap limit_for o.set) o.placed tt (other_way run true played)
          (ap (λ (t : Sofar). Ok (record t { part = parts.Schedule })) o.closed),
      play_events run settings clients o.side operator [] schedule h (omega (arith, few)),
    )
play_schedule run settings clients operator false schedule s o played b h few =
    subst (λ (all : List ScheduleLine). Plays run (limit_for settings) (Ends settings clients operator all) s (schedule_items false all)) (sym b)
    (record { side = o.side; part = o.part; closed = o.closed })

-- ---- the whole text

play_text : (run : Bool) (text : Bytes) (w : Built) (t : IsTextOf run text w) → Plays run (limit_for t.settings) (Ends t.settings w.clients w.operator w.schedule) at_start (setting_items t.settings ++ flat_map client_items w.clients ++ operator_items t.commanded w.operator ++ schedule_items t.scheduled w.schedule)
play_text run text w t =
    let settings : List Setting = t.settings in
    let limit : ℕ = limit_for t.settings in
    let p = and_parts (nat_le (length w.clients) 64 && are_numbered 1 w.clients) (list_all is_client w.clients) t.clients_allowed in
    let q = and_parts (nat_le (length w.clients) 64) (are_numbered 1 w.clients) p.0 in
    let e : are_events (length w.clients) (number_for kinds.Agents t.settings) w.schedule ≡ true = subst (λ (n : Numbers). are_events (length w.clients) n.agents w.schedule ≡ true) t.set t.events_allowed in
    let r = and_parts (nat_le (length w.schedule) 1000000) (list_all (is_event (length w.clients) (number_for kinds.Agents t.settings)) w.schedule) e in
    plays_then run limit (Orders settings w.clients w.operator) (Ends settings w.clients w.operator w.schedule) at_start (setting_items t.settings ++ flat_map client_items w.clients ++ operator_items t.commanded w.operator) (schedule_items t.scheduled w.schedule)
    (plays_then run limit (Closes settings w.clients) (Orders settings w.clients w.operator) at_start (setting_items t.settings ++ flat_map client_items w.clients) (operator_items t.commanded w.operator)
    (plays_then run limit (Closes settings []) (Closes settings w.clients) at_start (setting_items t.settings) (flat_map client_items w.clients)
    (play_settings run limit [] t.settings t.settings_allowed)
    (λ s c. play_clients run settings [] w.clients s c q.1 p.1 (omega (arith, leb-true (length w.clients) 64 q.0))))
    (λ s c. play_operator run settings w.clients t.commanded w.operator s c t.commands_begun (leb-true (length w.operator) 1000 t.few_commands)))
    (λ s o. play_schedule run settings w.clients w.operator t.scheduled w.schedule s o t.played t.events_begun r.1 (leb-true (length w.schedule) 1000000 r.0))

read_so : (run : Bool) (text : Bytes) (w : Built) (end : Sofar) → length text ≤ most_bytes → with_lines run 1 at_start (lines_of text) ≡ Ok end → built_of end ≡ w → built run text ≡ Ok w
read_so run text w end short e same =
    ap (λ (b : Bool). if b then Err (faults.Refused 0 why.Long) else (with_lines run 1 at_start (lines_of text) >>= λ s. Ok (built_of s))) (le-ltb most_bytes (length text) short)
    ∙ ap (λ (r : Result Sofar TextFault). r >>= λ s. Ok (built_of s)) e
    ∙ ap (λ (b : Built). Ok b) same

only_text : (run : Bool) (text : Bytes) (w : Built) → IsTextOf run text w → built run text ≡ Ok w
only_text run text w t =
    let said : AreSaid (limit_for t.settings) (speaking (lines_of text)) (setting_items t.settings ++ flat_map client_items w.clients ++ operator_items t.commanded w.operator ++ schedule_items t.scheduled w.schedule) =
    subst (λ (n : Numbers). AreSaid (key_limit_of n.block) (speaking (lines_of text)) (setting_items t.settings ++ flat_map client_items w.clients ++ operator_items t.commanded w.operator ++ schedule_items t.scheduled w.schedule)) t.set t.said in
    let all = plays_all run (limit_for t.settings) (Ends t.settings w.clients w.operator w.schedule) at_start (speaking (lines_of text)) _ (play_text run text w t) said in
    read_so run text w all.0 t.short (lines_so run 1 at_start all.0 (lines_of text) t.bytes all.1)
    (ap whole_of all.2.closed ∙ ap (λ (n : Numbers). record { settings = n; clients = w.clients; operator = w.operator; schedule = w.schedule }) (sym t.set))

-- ---- both readings of what a call gives

built_same : (x y : Built) → ◌≡◌ {A = Result Built TextFault} (Ok x) (Ok y) → x ≡ y
built_same x y e = cc

found_built : (run : Bool) (text : Bytes) (w : Built) → built run text ≡ Ok w → IsTextOf run text w
found_built run text w e = go (nat_lt most_bytes (length text)) refl (with_lines run 1 at_start (lines_of text)) refl e
  where
    go : (b : Bool) → nat_lt most_bytes (length text) ≡ b → (o : Result Sofar TextFault) → with_lines run 1 at_start (lines_of text) ≡ o → (if b then Err (faults.Refused 0 why.Long) else (o >>= λ s. Ok (built_of s))) ≡ Ok w → IsTextOf run text w
    go true long o was e = cc
    go false short (Ok s) was e = subst (λ (x : Built). IsTextOf run text x) (built_same (built_of s) w e) (found_text run text s (ltb-false most_bytes (length text) short) was)
    go false short (Err fault) was e = cc

pub found_so : (run : Bool) (text : Bytes) (result : Result Workload TextFault) → GivesBut faults.NoMemory what result (built run text) → IfOk result (λ w. IsTextOf run text (what w))
found_so run text (Ok w) h = found_built run text (what w) h
found_so run text (Err fault) h = tt

pub only_so : (run : Bool) (text : Bytes) (result : Result Workload TextFault) → GivesBut faults.NoMemory what result (built run text) → (w : Built) → IsTextOf run text w → GivesBut faults.NoMemory what result (Ok w)
only_so run text result h w t = subst (λ (r : Result Built TextFault). GivesBut faults.NoMemory what result r) (only_text run text w t) h
