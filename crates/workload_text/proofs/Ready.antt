-- What the reader keeps holds behind each line.
use Rattle.std.proofs.Common.{◌≡◌, ℕ, ◌+◌, Bool, true, false, not, ◌&&◌, ◌||◌, List, [], ◌∷◌, ◌++◌, length, refl, sym, ap, subst, arith, nat_le, nat_lt, if◌then◌else◌, IfOk, Ok, length-append, true≢false}
use Rattle.std.specs.List.{AllByRecursion, list_all, list_any}
use Rattle.std.proofs.lemmas.Bool.{and_parts, and_from, le-leb, ltb-true}
use Rattle.fb_bytes.specs.Bytes.{Bytes}
use Rattle.fb_bytes.specs.Results.{found_or}
use Rattle.mutations.specs.declared.TxOp.{TxOp}
use Rattle.mutations.specs.declared.TxOp.TheVariants.{Get, SnapshotGet, Scan, Write}
use Rattle.workload_text.specs.declared.client_script.ClientScript.{ClientScript}
use Rattle.workload_text.specs.declared.client_script.Side.{Side}
use Rattle.workload_text.specs.declared.command.Command.{Command}
use Rattle.workload_text.specs.declared.keyword.Keyword.{Keyword}
use Rattle.workload_text.specs.declared.line.Line.{Line}
use Rattle.workload_text.specs.declared.line.Line.TheVariants as lines
use Rattle.workload_text.specs.declared.line_fault.LineFault.TheVariants.{Refused}
use Rattle.workload_text.specs.declared.part.Part.{Part}
use Rattle.workload_text.specs.declared.part.Part.TheVariants as parts
use Rattle.workload_text.specs.declared.schedule.EventKind.{EventKind}
use Rattle.workload_text.specs.declared.schedule.EventKind.TheVariants as events
use Rattle.workload_text.specs.declared.schedule.ScheduleLine.{ScheduleLine}
use Rattle.workload_text.specs.declared.setting.Setting.{Setting}
use Rattle.workload_text.specs.declared.setting.SettingKind.TheVariants as kinds
use Rattle.workload_text.specs.declared.text_fault.TextKind.TheVariants as why
use Rattle.workload_text.specs.Allowed.{are_numbered, is_client, is_txn, is_event, is_op, writes, are_reads_first}
use Rattle.workload_text.specs.Commands.{IsCommand}
use Rattle.workload_text.specs.Faults.{Read}
use Rattle.workload_text.specs.Keywords.{keyword_of}
use Rattle.workload_text.specs.Kinds.{event_with}
use Rattle.workload_text.specs.Lines.{said}
use Rattle.workload_text.specs.Settings.{number_for, comes_in, has_agent}
use Rattle.workload_text.specs.Sofar.{Sofar, at_start, limit_in, clients_in, is_there, is_next, is_scheduled, in_schedule, stands, with_txn, closed, part_behind, with_line, with_keyword, with_words, with_bytes, is_comment}
use Rattle.workload_text.specs.Texts.{words_of, is_text_byte}
use Rattle.workload_text.specs.Words.{◌>>=◌}
use Rattle.workload_text.specs.inner.Ready.{IsReady, IsWhole}
use Rattle.workload_text.proofs.Allowing.{all_more, not_back, sound_setting, settings_more}
use Rattle.workload_text.proofs.Keeping.{of_parts, closed_whole}
use Rattle.workload_text.proofs.Soundness.{each_then, any_then, so_then, IsNumber, placed, IsLine, said_ok}

false_true : {P : Type 0} → false ≡ true → P
false_true h = absurd (true≢false (sym h))

-- where fewer than the most came, one more may
one_more : (n most m : ℕ) → nat_lt n most ≡ true → m ≡ n + 1 → nat_le m most ≡ true
one_more n most m h e = le-leb m most (omega (arith, ltb-true n most h, e))

end_long : {A : Type 0} (xs : List A) (x : A) → length (xs ++ x ∷ []) ≡ length xs + 1
end_long xs x = omega (arith, length-append xs (x ∷ []))

no_command : (P : Command → Type 0) (operator : List Command) → operator ≡ [] → AllByRecursion P operator
no_command P operator e = subst (λ (os : List Command). AllByRecursion P os) (sym e) tt

no_event : (p : ScheduleLine → Bool) (schedule : List ScheduleLine) → schedule ≡ [] → list_all p schedule ≡ true
no_event p schedule e = subst (λ (es : List ScheduleLine). list_all p es ≡ true) (sym e) refl

-- ---- settings

setting_ready : (part : Part) (settings : List Setting) (clients : List ClientScript) (side : Side) (txns : List (List TxOp)) (ops : List TxOp) (operator : List Command) (schedule : List ScheduleLine) (setting : Setting) → IsReady (of_parts part settings clients side txns ops operator schedule) → placed part (lines.Setting setting) ≡ true → sound_setting setting ≡ true → IfOk (with_line (of_parts part settings clients side txns ops operator schedule) (lines.Setting setting)) IsReady
setting_ready parts.Settings settings clients side txns ops operator schedule setting r st sound =
    so_then IsReady why.Repeat (not (comes_in setting settings)) _
    (λ fresh. so_then IsReady why.Nobody (has_agent settings setting) _
    (λ there. record {
      settings = settings_more settings setting r.settings sound there (not_back (comes_in setting settings) fresh);
      few_clients = r.few_clients;
      numbered = r.numbered;
      clients = r.clients;
      few_txns = r.few_txns;
      txns = r.txns;
      ops = r.ops;
      open' = r.open';
      few_commands = r.few_commands;
      operator = no_command (IsCommand (number_for kinds.Block (settings ++ setting ∷ []))) operator r.no_commands;
      few_events = r.few_events;
      schedule = no_event (is_event (length clients) (number_for kinds.Agents (settings ++ setting ∷ []))) schedule r.no_events;
      no_commands = r.no_commands;
      no_events = r.no_events;
    }))
setting_ready parts.Client settings clients side txns ops operator schedule setting r st sound = false_true st
setting_ready parts.Reads settings clients side txns ops operator schedule setting r st sound = false_true st
setting_ready parts.Writes settings clients side txns ops operator schedule setting r st sound = false_true st
setting_ready parts.Operator settings clients side txns ops operator schedule setting r st sound = false_true st
setting_ready parts.Schedule settings clients side txns ops operator schedule setting r st sound = false_true st

-- ---- parts

closed_ready : (part : Part) (settings : List Setting) (clients : List ClientScript) (side : Side) (txns : List (List TxOp)) (ops : List TxOp) (operator : List Command) (schedule : List ScheduleLine) → IsReady (of_parts part settings clients side txns ops operator schedule) → IsReady (closed (of_parts part settings clients side txns ops operator schedule))
closed_ready parts.Settings settings clients side txns ops operator schedule r = r
closed_ready parts.Operator settings clients side txns ops operator schedule r = r
closed_ready parts.Schedule settings clients side txns ops operator schedule r = r
closed_ready parts.Client settings clients side txns ops operator schedule r =
    let w : IsWhole (closed (of_parts parts.Client settings clients side txns ops operator schedule)) = closed_whole (of_parts parts.Client settings clients side txns ops operator schedule) r in
    let clients' : List ClientScript = (closed (of_parts parts.Client settings clients side txns ops operator schedule)).clients in
    let p = and_parts (nat_le (length clients') 64 && are_numbered 1 clients') (list_all is_client clients') w.clients in
    let q = and_parts (nat_le (length clients') 64) (are_numbered 1 clients') p.0 in
    record {
      settings = r.settings;
      few_clients = q.0;
      numbered = q.1;
      clients = p.1;
      few_txns = refl;
      txns = refl;
      ops = r.ops;
      open' = r.open';
      few_commands = r.few_commands;
      operator = r.operator;
      few_events = r.few_events;
      schedule = no_event (is_event (length clients') (number_for kinds.Agents settings)) schedule r.no_events;
      no_commands = r.no_commands;
      no_events = r.no_events;
    }
closed_ready parts.Reads settings clients side txns ops operator schedule r =
    let w : IsWhole (closed (of_parts parts.Reads settings clients side txns ops operator schedule)) = closed_whole (of_parts parts.Reads settings clients side txns ops operator schedule) r in
    let clients' : List ClientScript = (closed (of_parts parts.Reads settings clients side txns ops operator schedule)).clients in
    let p = and_parts (nat_le (length clients') 64 && are_numbered 1 clients') (list_all is_client clients') w.clients in
    let q = and_parts (nat_le (length clients') 64) (are_numbered 1 clients') p.0 in
    record {
      settings = r.settings;
      few_clients = q.0;
      numbered = q.1;
      clients = p.1;
      few_txns = refl;
      txns = refl;
      ops = refl;
      open' = refl;
      few_commands = r.few_commands;
      operator = r.operator;
      few_events = r.few_events;
      schedule = no_event (is_event (length clients') (number_for kinds.Agents settings)) schedule r.no_events;
      no_commands = r.no_commands;
      no_events = r.no_events;
    }
closed_ready parts.Writes settings clients side txns ops operator schedule r =
    let w : IsWhole (closed (of_parts parts.Writes settings clients side txns ops operator schedule)) = closed_whole (of_parts parts.Writes settings clients side txns ops operator schedule) r in
    let clients' : List ClientScript = (closed (of_parts parts.Writes settings clients side txns ops operator schedule)).clients in
    let p = and_parts (nat_le (length clients') 64 && are_numbered 1 clients') (list_all is_client clients') w.clients in
    let q = and_parts (nat_le (length clients') 64) (are_numbered 1 clients') p.0 in
    record {
      settings = r.settings;
      few_clients = q.0;
      numbered = q.1;
      clients = p.1;
      few_txns = refl;
      txns = refl;
      ops = refl;
      open' = refl;
      few_commands = r.few_commands;
      operator = r.operator;
      few_events = r.few_events;
      schedule = no_event (is_event (length clients') (number_for kinds.Agents settings)) schedule r.no_events;
      no_commands = r.no_commands;
      no_events = r.no_events;
    }

operator_ready : (part : Part) (settings : List Setting) (clients : List ClientScript) (side : Side) (txns : List (List TxOp)) (ops : List TxOp) (operator : List Command) (schedule : List ScheduleLine) → placed part lines.Operator ≡ true → IsReady (of_parts part settings clients side txns ops operator schedule) → IsReady (record (closed (of_parts part settings clients side txns ops operator schedule)) { part = parts.Operator })
operator_ready parts.Settings settings clients side txns ops operator schedule st ready =
    let r : IsReady (closed (of_parts parts.Settings settings clients side txns ops operator schedule)) = closed_ready parts.Settings settings clients side txns ops operator schedule ready in
    record {
      settings = r.settings;
      few_clients = r.few_clients;
      numbered = r.numbered;
      clients = r.clients;
      few_txns = r.few_txns;
      txns = r.txns;
      ops = r.ops;
      open' = r.open';
      few_commands = r.few_commands;
      operator = r.operator;
      few_events = r.few_events;
      schedule = r.schedule;
      no_commands = tt;
      no_events = r.no_events;
    }
operator_ready parts.Client settings clients side txns ops operator schedule st ready =
    let r : IsReady (closed (of_parts parts.Client settings clients side txns ops operator schedule)) = closed_ready parts.Client settings clients side txns ops operator schedule ready in
    record {
      settings = r.settings;
      few_clients = r.few_clients;
      numbered = r.numbered;
      clients = r.clients;
      few_txns = r.few_txns;
      txns = r.txns;
      ops = r.ops;
      open' = r.open';
      few_commands = r.few_commands;
      operator = r.operator;
      few_events = r.few_events;
      schedule = r.schedule;
      no_commands = tt;
      no_events = r.no_events;
    }
operator_ready parts.Reads settings clients side txns ops operator schedule st ready =
    let r : IsReady (closed (of_parts parts.Reads settings clients side txns ops operator schedule)) = closed_ready parts.Reads settings clients side txns ops operator schedule ready in
    record {
      settings = r.settings;
      few_clients = r.few_clients;
      numbered = r.numbered;
      clients = r.clients;
      few_txns = r.few_txns;
      txns = r.txns;
      ops = r.ops;
      open' = r.open';
      few_commands = r.few_commands;
      operator = r.operator;
      few_events = r.few_events;
      schedule = r.schedule;
      no_commands = tt;
      no_events = r.no_events;
    }
operator_ready parts.Writes settings clients side txns ops operator schedule st ready =
    let r : IsReady (closed (of_parts parts.Writes settings clients side txns ops operator schedule)) = closed_ready parts.Writes settings clients side txns ops operator schedule ready in
    record {
      settings = r.settings;
      few_clients = r.few_clients;
      numbered = r.numbered;
      clients = r.clients;
      few_txns = r.few_txns;
      txns = r.txns;
      ops = r.ops;
      open' = r.open';
      few_commands = r.few_commands;
      operator = r.operator;
      few_events = r.few_events;
      schedule = r.schedule;
      no_commands = tt;
      no_events = r.no_events;
    }
operator_ready parts.Operator settings clients side txns ops operator schedule st ready = false_true st
operator_ready parts.Schedule settings clients side txns ops operator schedule st ready = false_true st

schedule_ready : (part : Part) (settings : List Setting) (clients : List ClientScript) (side : Side) (txns : List (List TxOp)) (ops : List TxOp) (operator : List Command) (schedule : List ScheduleLine) → placed part lines.Schedule ≡ true → IsReady (of_parts part settings clients side txns ops operator schedule) → IsReady (record (closed (of_parts part settings clients side txns ops operator schedule)) { part = parts.Schedule })
schedule_ready parts.Settings settings clients side txns ops operator schedule st ready =
    let r : IsReady (closed (of_parts parts.Settings settings clients side txns ops operator schedule)) = closed_ready parts.Settings settings clients side txns ops operator schedule ready in
    record {
      settings = r.settings;
      few_clients = r.few_clients;
      numbered = r.numbered;
      clients = r.clients;
      few_txns = r.few_txns;
      txns = r.txns;
      ops = r.ops;
      open' = r.open';
      few_commands = r.few_commands;
      operator = r.operator;
      few_events = r.few_events;
      schedule = r.schedule;
      no_commands = tt;
      no_events = tt;
    }
schedule_ready parts.Client settings clients side txns ops operator schedule st ready =
    let r : IsReady (closed (of_parts parts.Client settings clients side txns ops operator schedule)) = closed_ready parts.Client settings clients side txns ops operator schedule ready in
    record {
      settings = r.settings;
      few_clients = r.few_clients;
      numbered = r.numbered;
      clients = r.clients;
      few_txns = r.few_txns;
      txns = r.txns;
      ops = r.ops;
      open' = r.open';
      few_commands = r.few_commands;
      operator = r.operator;
      few_events = r.few_events;
      schedule = r.schedule;
      no_commands = tt;
      no_events = tt;
    }
schedule_ready parts.Reads settings clients side txns ops operator schedule st ready =
    let r : IsReady (closed (of_parts parts.Reads settings clients side txns ops operator schedule)) = closed_ready parts.Reads settings clients side txns ops operator schedule ready in
    record {
      settings = r.settings;
      few_clients = r.few_clients;
      numbered = r.numbered;
      clients = r.clients;
      few_txns = r.few_txns;
      txns = r.txns;
      ops = r.ops;
      open' = r.open';
      few_commands = r.few_commands;
      operator = r.operator;
      few_events = r.few_events;
      schedule = r.schedule;
      no_commands = tt;
      no_events = tt;
    }
schedule_ready parts.Writes settings clients side txns ops operator schedule st ready =
    let r : IsReady (closed (of_parts parts.Writes settings clients side txns ops operator schedule)) = closed_ready parts.Writes settings clients side txns ops operator schedule ready in
    record {
      settings = r.settings;
      few_clients = r.few_clients;
      numbered = r.numbered;
      clients = r.clients;
      few_txns = r.few_txns;
      txns = r.txns;
      ops = r.ops;
      open' = r.open';
      few_commands = r.few_commands;
      operator = r.operator;
      few_events = r.few_events;
      schedule = r.schedule;
      no_commands = tt;
      no_events = tt;
    }
schedule_ready parts.Operator settings clients side txns ops operator schedule st ready =
    let r : IsReady (closed (of_parts parts.Operator settings clients side txns ops operator schedule)) = closed_ready parts.Operator settings clients side txns ops operator schedule ready in
    record {
      settings = r.settings;
      few_clients = r.few_clients;
      numbered = r.numbered;
      clients = r.clients;
      few_txns = r.few_txns;
      txns = r.txns;
      ops = r.ops;
      open' = r.open';
      few_commands = r.few_commands;
      operator = r.operator;
      few_events = r.few_events;
      schedule = r.schedule;
      no_commands = tt;
      no_events = tt;
    }
schedule_ready parts.Schedule settings clients side txns ops operator schedule st ready = false_true st

client_ready : (part : Part) (settings : List Setting) (clients : List ClientScript) (side : Side) (txns : List (List TxOp)) (ops : List TxOp) (operator : List Command) (schedule : List ScheduleLine) (other : Side) → placed part (lines.Client other) ≡ true → IsReady (of_parts part settings clients side txns ops operator schedule) → nat_lt (clients_in (of_parts part settings clients side txns ops operator schedule)) 64 ≡ true → IsReady (record (closed (of_parts part settings clients side txns ops operator schedule)) { part = parts.Client; side = other })
client_ready parts.Settings settings clients side txns ops operator schedule other st ready few =
    let r : IsReady (closed (of_parts parts.Settings settings clients side txns ops operator schedule)) = closed_ready parts.Settings settings clients side txns ops operator schedule ready in
    record {
      settings = r.settings;
      few_clients = one_more (length clients) 64 _ few refl;
      numbered = r.numbered;
      clients = r.clients;
      few_txns = r.few_txns;
      txns = r.txns;
      ops = r.ops;
      open' = r.open';
      few_commands = r.few_commands;
      operator = r.operator;
      few_events = r.few_events;
      schedule = r.schedule;
      no_commands = r.no_commands;
      no_events = r.no_events;
    }
client_ready parts.Client settings clients side txns ops operator schedule other st ready few =
    let r : IsReady (closed (of_parts parts.Client settings clients side txns ops operator schedule)) = closed_ready parts.Client settings clients side txns ops operator schedule ready in
    record {
      settings = r.settings;
      few_clients = one_more (length clients + 1) 64 _ few (ap (λ (n : ℕ). n + 1) (end_long clients _));
      numbered = r.numbered;
      clients = r.clients;
      few_txns = r.few_txns;
      txns = r.txns;
      ops = r.ops;
      open' = r.open';
      few_commands = r.few_commands;
      operator = r.operator;
      few_events = r.few_events;
      schedule = r.schedule;
      no_commands = r.no_commands;
      no_events = r.no_events;
    }
client_ready parts.Reads settings clients side txns ops operator schedule other st ready few =
    let r : IsReady (closed (of_parts parts.Reads settings clients side txns ops operator schedule)) = closed_ready parts.Reads settings clients side txns ops operator schedule ready in
    record {
      settings = r.settings;
      few_clients = one_more (length clients + 1) 64 _ few (ap (λ (n : ℕ). n + 1) (end_long clients _));
      numbered = r.numbered;
      clients = r.clients;
      few_txns = r.few_txns;
      txns = r.txns;
      ops = r.ops;
      open' = r.open';
      few_commands = r.few_commands;
      operator = r.operator;
      few_events = r.few_events;
      schedule = r.schedule;
      no_commands = r.no_commands;
      no_events = r.no_events;
    }
client_ready parts.Writes settings clients side txns ops operator schedule other st ready few =
    let r : IsReady (closed (of_parts parts.Writes settings clients side txns ops operator schedule)) = closed_ready parts.Writes settings clients side txns ops operator schedule ready in
    record {
      settings = r.settings;
      few_clients = one_more (length clients + 1) 64 _ few (ap (λ (n : ℕ). n + 1) (end_long clients _));
      numbered = r.numbered;
      clients = r.clients;
      few_txns = r.few_txns;
      txns = r.txns;
      ops = r.ops;
      open' = r.open';
      few_commands = r.few_commands;
      operator = r.operator;
      few_events = r.few_events;
      schedule = r.schedule;
      no_commands = r.no_commands;
      no_events = r.no_events;
    }
client_ready parts.Operator settings clients side txns ops operator schedule other st ready few = false_true st
client_ready parts.Schedule settings clients side txns ops operator schedule other st ready few = false_true st

txn_ready : (part : Part) (settings : List Setting) (clients : List ClientScript) (side : Side) (txns : List (List TxOp)) (ops : List TxOp) (operator : List Command) (schedule : List ScheduleLine) → placed part lines.Txn ≡ true → IsReady (of_parts part settings clients side txns ops operator schedule) → nat_lt (length (with_txn (of_parts part settings clients side txns ops operator schedule)).txns) 100000 ≡ true → IsReady (record (with_txn (of_parts part settings clients side txns ops operator schedule)) { part = parts.Reads })
txn_ready parts.Client settings clients side txns ops operator schedule st r few = record {
  settings = r.settings;
  few_clients = r.few_clients;
  numbered = r.numbered;
  clients = r.clients;
  few_txns = one_more (length txns) 100000 _ few refl;
  txns = r.txns;
  ops = r.ops;
  open' = r.open';
  few_commands = r.few_commands;
  operator = r.operator;
  few_events = r.few_events;
  schedule = r.schedule;
  no_commands = r.no_commands;
  no_events = r.no_events;
}
txn_ready parts.Reads settings clients side txns ops operator schedule st r few = record {
  settings = r.settings;
  few_clients = r.few_clients;
  numbered = r.numbered;
  clients = r.clients;
  few_txns = one_more (length (txns ++ ops ∷ [])) 100000 _ few refl;
  txns = all_more is_txn txns ops r.txns r.ops;
  ops = refl;
  open' = refl;
  few_commands = r.few_commands;
  operator = r.operator;
  few_events = r.few_events;
  schedule = r.schedule;
  no_commands = r.no_commands;
  no_events = r.no_events;
}
txn_ready parts.Writes settings clients side txns ops operator schedule st r few = record {
  settings = r.settings;
  few_clients = r.few_clients;
  numbered = r.numbered;
  clients = r.clients;
  few_txns = one_more (length (txns ++ ops ∷ [])) 100000 _ few refl;
  txns = all_more is_txn txns ops r.txns r.ops;
  ops = refl;
  open' = refl;
  few_commands = r.few_commands;
  operator = r.operator;
  few_events = r.few_events;
  schedule = r.schedule;
  no_commands = r.no_commands;
  no_events = r.no_events;
}
txn_ready parts.Settings settings clients side txns ops operator schedule st r few = false_true st
txn_ready parts.Operator settings clients side txns ops operator schedule st r few = false_true st
txn_ready parts.Schedule settings clients side txns ops operator schedule st r few = false_true st

-- ---- operations

none_more : (op : TxOp) (ops : List TxOp) → not (list_any writes ops) ≡ true → writes op ≡ false → not (list_any writes (ops ++ op ∷ [])) ≡ true
none_more op [] h e = ap (λ (b : Bool). not (b || false)) e
none_more op (first ∷ ops) h e = at (writes first) (λ k. none_more op ops k e) h
  where
    at : (b : Bool) → (not (list_any writes ops) ≡ true → not (list_any writes (ops ++ op ∷ [])) ≡ true) → not (b || list_any writes ops) ≡ true → not (b || list_any writes (ops ++ op ∷ [])) ≡ true
    at true f h = h
    at false f h = f h

reads_more : (op : TxOp) (ops : List TxOp) → not (list_any writes ops) ≡ true → writes op ≡ false → are_reads_first (ops ++ op ∷ []) ≡ true
reads_more op [] h e = ap (λ (b : Bool). if b then true else true) e
reads_more op (first ∷ ops) h e = at (writes first) (λ k. reads_more op ops k e) h
  where
    at : (b : Bool) → (not (list_any writes ops) ≡ true → are_reads_first (ops ++ op ∷ []) ≡ true) → not (b || list_any writes ops) ≡ true → (if b then list_all writes (ops ++ op ∷ []) else are_reads_first (ops ++ op ∷ [])) ≡ true
    at true f h = false_true h
    at false f h = f h

writes_more : (op : TxOp) (ops : List TxOp) → are_reads_first ops ≡ true → writes op ≡ true → are_reads_first (ops ++ op ∷ []) ≡ true
writes_more op [] h e = ap (λ (b : Bool). if b then true else true) e
writes_more op (first ∷ ops) h e = at (writes first) (λ k. writes_more op ops k e) h
  where
    at : (b : Bool) → (are_reads_first ops ≡ true → are_reads_first (ops ++ op ∷ []) ≡ true) → (if b then list_all writes ops else are_reads_first ops) ≡ true → (if b then list_all writes (ops ++ op ∷ []) else are_reads_first (ops ++ op ∷ [])) ≡ true
    at true f h = all_more writes ops op h e
    at false f h = f h

txn_more : (ops : List TxOp) (op : TxOp) → is_txn ops ≡ true → nat_lt (length ops) 10000 ≡ true → are_reads_first (ops ++ op ∷ []) ≡ true → is_op op ≡ true → is_txn (ops ++ op ∷ []) ≡ true
txn_more ops op h few first sound =
    let p = and_parts (nat_le (length ops) 10000 && are_reads_first ops) (list_all is_op ops) h in
    and_from (nat_le (length (ops ++ op ∷ [])) 10000 && are_reads_first (ops ++ op ∷ [])) (list_all is_op (ops ++ op ∷ []))
    (and_from (nat_le (length (ops ++ op ∷ [])) 10000) (are_reads_first (ops ++ op ∷ [])) (one_more (length ops) 10000 _ few (end_long ops op)) first)
    (all_more is_op ops op p.1 sound)

first_reads : (ops : List TxOp) → is_txn ops ≡ true → are_reads_first ops ≡ true
first_reads ops h =
    let p = and_parts (nat_le (length ops) 10000 && are_reads_first ops) (list_all is_op ops) h in
    let q = and_parts (nat_le (length ops) 10000) (are_reads_first ops) p.0 in
    q.1

op_ready : (part : Part) (settings : List Setting) (clients : List ClientScript) (side : Side) (txns : List (List TxOp)) (ops : List TxOp) (operator : List Command) (schedule : List ScheduleLine) (op : TxOp) → placed part (lines.Op op) ≡ true → is_op op ≡ true → IsReady (of_parts part settings clients side txns ops operator schedule) → nat_lt (length ops) 10000 ≡ true → IsReady (record (of_parts part settings clients side txns ops operator schedule) { part = part_behind op; ops = ops ++ op ∷ [] })
op_ready parts.Reads settings clients side txns ops operator schedule (Get key) st sound r few = record {
  settings = r.settings;
  few_clients = r.few_clients;
  numbered = r.numbered;
  clients = r.clients;
  few_txns = r.few_txns;
  txns = r.txns;
  ops = txn_more ops (Get key) r.ops few (reads_more (Get key) ops r.open' refl) sound;
  open' = none_more (Get key) ops r.open' refl;
  few_commands = r.few_commands;
  operator = r.operator;
  few_events = r.few_events;
  schedule = r.schedule;
  no_commands = r.no_commands;
  no_events = r.no_events;
}
op_ready parts.Settings settings clients side txns ops operator schedule (Get key) st sound r few = false_true st
op_ready parts.Client settings clients side txns ops operator schedule (Get key) st sound r few = false_true st
op_ready parts.Writes settings clients side txns ops operator schedule (Get key) st sound r few = false_true st
op_ready parts.Operator settings clients side txns ops operator schedule (Get key) st sound r few = false_true st
op_ready parts.Schedule settings clients side txns ops operator schedule (Get key) st sound r few = false_true st
op_ready parts.Reads settings clients side txns ops operator schedule (SnapshotGet key) st sound r few = record {
  settings = r.settings;
  few_clients = r.few_clients;
  numbered = r.numbered;
  clients = r.clients;
  few_txns = r.few_txns;
  txns = r.txns;
  ops = txn_more ops (SnapshotGet key) r.ops few (reads_more (SnapshotGet key) ops r.open' refl) sound;
  open' = none_more (SnapshotGet key) ops r.open' refl;
  few_commands = r.few_commands;
  operator = r.operator;
  few_events = r.few_events;
  schedule = r.schedule;
  no_commands = r.no_commands;
  no_events = r.no_events;
}
op_ready parts.Settings settings clients side txns ops operator schedule (SnapshotGet key) st sound r few = false_true st
op_ready parts.Client settings clients side txns ops operator schedule (SnapshotGet key) st sound r few = false_true st
op_ready parts.Writes settings clients side txns ops operator schedule (SnapshotGet key) st sound r few = false_true st
op_ready parts.Operator settings clients side txns ops operator schedule (SnapshotGet key) st sound r few = false_true st
op_ready parts.Schedule settings clients side txns ops operator schedule (SnapshotGet key) st sound r few = false_true st
op_ready parts.Reads settings clients side txns ops operator schedule (Scan range limit) st sound r few = record {
  settings = r.settings;
  few_clients = r.few_clients;
  numbered = r.numbered;
  clients = r.clients;
  few_txns = r.few_txns;
  txns = r.txns;
  ops = txn_more ops (Scan range limit) r.ops few (reads_more (Scan range limit) ops r.open' refl) sound;
  open' = none_more (Scan range limit) ops r.open' refl;
  few_commands = r.few_commands;
  operator = r.operator;
  few_events = r.few_events;
  schedule = r.schedule;
  no_commands = r.no_commands;
  no_events = r.no_events;
}
op_ready parts.Settings settings clients side txns ops operator schedule (Scan range limit) st sound r few = false_true st
op_ready parts.Client settings clients side txns ops operator schedule (Scan range limit) st sound r few = false_true st
op_ready parts.Writes settings clients side txns ops operator schedule (Scan range limit) st sound r few = false_true st
op_ready parts.Operator settings clients side txns ops operator schedule (Scan range limit) st sound r few = false_true st
op_ready parts.Schedule settings clients side txns ops operator schedule (Scan range limit) st sound r few = false_true st
op_ready parts.Reads settings clients side txns ops operator schedule (Write mutation) st sound r few = record {
  settings = r.settings;
  few_clients = r.few_clients;
  numbered = r.numbered;
  clients = r.clients;
  few_txns = r.few_txns;
  txns = r.txns;
  ops = txn_more ops (Write mutation) r.ops few (writes_more (Write mutation) ops (first_reads ops r.ops) refl) sound;
  open' = refl;
  few_commands = r.few_commands;
  operator = r.operator;
  few_events = r.few_events;
  schedule = r.schedule;
  no_commands = r.no_commands;
  no_events = r.no_events;
}
op_ready parts.Writes settings clients side txns ops operator schedule (Write mutation) st sound r few = record {
  settings = r.settings;
  few_clients = r.few_clients;
  numbered = r.numbered;
  clients = r.clients;
  few_txns = r.few_txns;
  txns = r.txns;
  ops = txn_more ops (Write mutation) r.ops few (writes_more (Write mutation) ops (first_reads ops r.ops) refl) sound;
  open' = refl;
  few_commands = r.few_commands;
  operator = r.operator;
  few_events = r.few_events;
  schedule = r.schedule;
  no_commands = r.no_commands;
  no_events = r.no_events;
}
op_ready parts.Settings settings clients side txns ops operator schedule (Write mutation) st sound r few = false_true st
op_ready parts.Client settings clients side txns ops operator schedule (Write mutation) st sound r few = false_true st
op_ready parts.Operator settings clients side txns ops operator schedule (Write mutation) st sound r few = false_true st
op_ready parts.Schedule settings clients side txns ops operator schedule (Write mutation) st sound r few = false_true st

-- ---- commands and events

each_more : {A : Type 0} (P : A → Type 0) (xs : List A) (x : A) → AllByRecursion P xs → P x → AllByRecursion P (xs ++ x ∷ [])
each_more P [] x h k = (k, tt)
each_more P (first ∷ xs) x h k = (h.0, each_more P xs x h.1 k)

command_ready : (part : Part) (settings : List Setting) (clients : List ClientScript) (side : Side) (txns : List (List TxOp)) (ops : List TxOp) (operator : List Command) (schedule : List ScheduleLine) (command : Command) → placed part (lines.Order command) ≡ true → IsCommand (number_for kinds.Block settings) command → IsReady (of_parts part settings clients side txns ops operator schedule) → nat_lt (length operator) 1000 ≡ true → IsReady (record (of_parts part settings clients side txns ops operator schedule) { operator = operator ++ command ∷ [] })
command_ready parts.Operator settings clients side txns ops operator schedule command st sound r few = record {
  settings = r.settings;
  few_clients = r.few_clients;
  numbered = r.numbered;
  clients = r.clients;
  few_txns = r.few_txns;
  txns = r.txns;
  ops = r.ops;
  open' = r.open';
  few_commands = one_more (length operator) 1000 _ few (end_long operator command);
  operator = each_more (IsCommand (number_for kinds.Block settings)) operator command r.operator sound;
  few_events = r.few_events;
  schedule = r.schedule;
  no_commands = r.no_commands;
  no_events = r.no_events;
}
command_ready parts.Settings settings clients side txns ops operator schedule command st sound r few = false_true st
command_ready parts.Client settings clients side txns ops operator schedule command st sound r few = false_true st
command_ready parts.Reads settings clients side txns ops operator schedule command st sound r few = false_true st
command_ready parts.Writes settings clients side txns ops operator schedule command st sound r few = false_true st
command_ready parts.Schedule settings clients side txns ops operator schedule command st sound r few = false_true st

event_allowed : (s : Sofar) (kind : EventKind) (n m : ℕ) → is_there s kind n ≡ true → IsNumber n → IsNumber m → is_event (length s.clients) (number_for kinds.Agents s.settings) (event_with kind n m) ≡ true
event_allowed s events.Begin n m there a b = there
event_allowed s events.Commit n m there a b = there
event_allowed s events.Tick n m there a b = a
event_allowed s events.Claim n m there a b = and_from _ _ there b
event_allowed s events.Extend n m there a b = there
event_allowed s events.Take n m there a b = there
event_allowed s events.Place n m there a b = there
event_allowed s events.Close n m there a b = there
event_allowed s events.Die n m there a b = there
event_allowed s events.Op n m there a b = refl
event_allowed s events.Drain n m there a b = refl

event_ready : (part : Part) (settings : List Setting) (clients : List ClientScript) (side : Side) (txns : List (List TxOp)) (ops : List TxOp) (operator : List Command) (schedule : List ScheduleLine) (event : ScheduleLine) → in_schedule part ≡ true → is_event (length clients) (number_for kinds.Agents settings) event ≡ true → IsReady (of_parts part settings clients side txns ops operator schedule) → nat_lt (length schedule) 1000000 ≡ true → IsReady (record (of_parts part settings clients side txns ops operator schedule) { schedule = schedule ++ event ∷ [] })
event_ready parts.Schedule settings clients side txns ops operator schedule event st sound r few = record {
  settings = r.settings;
  few_clients = r.few_clients;
  numbered = r.numbered;
  clients = r.clients;
  few_txns = r.few_txns;
  txns = r.txns;
  ops = r.ops;
  open' = r.open';
  few_commands = r.few_commands;
  operator = r.operator;
  few_events = one_more (length schedule) 1000000 _ few (end_long schedule event);
  schedule = all_more (is_event (length clients) (number_for kinds.Agents settings)) schedule event r.schedule sound;
  no_commands = r.no_commands;
  no_events = r.no_events;
}
event_ready parts.Settings settings clients side txns ops operator schedule event st sound r few = false_true st
event_ready parts.Client settings clients side txns ops operator schedule event st sound r few = false_true st
event_ready parts.Reads settings clients side txns ops operator schedule event st sound r few = false_true st
event_ready parts.Writes settings clients side txns ops operator schedule event st sound r few = false_true st
event_ready parts.Operator settings clients side txns ops operator schedule event st sound r few = false_true st

-- ---- lines

line_ready : (s : Sofar) (line : Line) → IsReady s → IsLine s.part (limit_in s) line → IfOk (with_line s line) IsReady
line_ready s (lines.Setting setting) r l = setting_ready s.part s.settings s.clients s.side s.txns s.ops s.operator s.schedule setting r l.0 l.1
line_ready s (lines.Client side) r l = so_then IsReady why.Many (nat_lt (clients_in s) 64) _ (λ few. client_ready s.part s.settings s.clients s.side s.txns s.ops s.operator s.schedule side l.0 r few)
line_ready s lines.Txn r l = so_then IsReady why.Many (nat_lt (length (with_txn s).txns) 100000) _ (λ few. txn_ready s.part s.settings s.clients s.side s.txns s.ops s.operator s.schedule l.0 r few)
line_ready s (lines.Op op) r l = so_then IsReady why.Many (nat_lt (length s.ops) 10000) _ (λ few. op_ready s.part s.settings s.clients s.side s.txns s.ops s.operator s.schedule op l.0 l.1 r few)
line_ready s lines.Operator r l = operator_ready s.part s.settings s.clients s.side s.txns s.ops s.operator s.schedule l.0 r
line_ready s (lines.Order command) r l = so_then IsReady why.Many (nat_lt (length s.operator) 1000) _ (λ few. command_ready s.part s.settings s.clients s.side s.txns s.ops s.operator s.schedule command l.0 l.1 r few)
line_ready s lines.Schedule r l = schedule_ready s.part s.settings s.clients s.side s.txns s.ops s.operator s.schedule l.0 r
line_ready s (lines.Event kind n m) r l =
    so_then IsReady why.Many (nat_lt (length s.schedule) 1000000) _
    (λ few. so_then IsReady why.Nobody (is_there s kind n) _
    (λ there. event_ready s.part s.settings s.clients s.side s.txns s.ops s.operator s.schedule (event_with kind n m) l.0 (event_allowed s kind n m there l.1.0 l.1.1) r few))

keyword_ready : (run : Bool) (s : Sofar) (k : Keyword) (list : List Bytes) → IsReady s → IfOk (with_keyword run s k list) IsReady
keyword_ready run s k list r =
    so_then IsReady why.Place (stands s.part k && is_next s k list) _
    (λ placed. so_then IsReady why.Schedule (not (is_scheduled run k)) _
    (λ h. each_then (IsLine s.part (limit_in s)) IsReady (said (limit_in s) k list) (with_line s)
    (said_ok s.part (limit_in s) k list (let p = and_parts (stands s.part k) (is_next s k list) placed in p.0))
    (λ line l. line_ready s line r l)))

words_ready : (run : Bool) (s : Sofar) (list : List Bytes) → IsReady s → IfOk (with_words run s list) IsReady
words_ready run s [] r = r
words_ready run s (word ∷ list) r =
    let known : IfOk (found_or (Refused why.Word) (keyword_of word) >>= λ k. with_keyword run s k list) IsReady =
    any_then IsReady (found_or (Refused why.Word) (keyword_of word)) (λ k. with_keyword run s k list) (λ k. keyword_ready run s k list r) in
    elim (is_comment word) as (λ b. IfOk (if b then Ok s else (found_or (Refused why.Word) (keyword_of word) >>= λ k. with_keyword run s k list)) IsReady) [ true ↦ r | false ↦ known ]

-- a line that is read leaves a reader that is ready
pub bytes_ready : (run : Bool) (s next : Sofar) (line : Bytes) → IsReady s → with_bytes run s line ≡ Ok next → IsReady next
bytes_ready run s next line r e =
    subst (λ (o : Read Sofar). IfOk o IsReady) e
    (so_then IsReady why.Byte (list_all is_text_byte line) (with_words run s (words_of line)) (λ h. words_ready run s (words_of line) r))

-- a reader is ready before the first line
pub start_ready : IsReady at_start
start_ready = record {
  settings = record { small = refl; deaths_once = refl; stalls_once = refl };
  few_clients = refl;
  numbered = refl;
  clients = refl;
  few_txns = refl;
  txns = refl;
  ops = refl;
  open' = refl;
  few_commands = refl;
  operator = tt;
  few_events = refl;
  schedule = refl;
  no_commands = refl;
  no_events = refl;
}
