-- The rules and limits of a text are kept from line to line.
use Rattle.std.proofs.Common.{◌≡◌, ℕ, ◌+◌, true, ◌&&◌, List, [], ◌∷◌, ◌++◌, length, refl, sym, subst, arith, nat_le, nat_eq, length-append}
use Rattle.std.specs.List.{list_all}
use Rattle.std.proofs.lemmas.Bool.{and_parts, and_from, leb-true, le-leb}
use Rattle.std.proofs.lemmas.Grind.{common_steps}
use Rattle.mutations.specs.declared.TxOp.{TxOp}
use Rattle.workload_text.specs.declared.client_script.ClientScript.{ClientScript}
use Rattle.workload_text.specs.declared.client_script.Side.{Side}
use Rattle.workload_text.specs.declared.part.Part.{Part}
use Rattle.workload_text.specs.declared.part.Part.TheVariants as parts
use Rattle.workload_text.specs.declared.command.Command.{Command}
use Rattle.workload_text.specs.declared.schedule.ScheduleLine.{ScheduleLine}
use Rattle.workload_text.specs.declared.setting.Setting.{Setting}
use Rattle.workload_text.specs.declared.setting.SettingKind.TheVariants as kinds
use Rattle.workload_text.specs.Allowed.{are_numbered, is_client, is_txn, are_clients, are_events, is_event}
use Rattle.workload_text.specs.Settings.{number_for}
use Rattle.workload_text.specs.Sofar.{Sofar, closed}
use Rattle.workload_text.proofs.Allowing.{all_more}
use Rattle.workload_text.specs.inner.Ready.{IsReady, IsWhole}

pub numbered_more : (n : ℕ) (scripts : List ClientScript) (script : ClientScript) → are_numbered n scripts ≡ true → script.number ≡ length scripts + n → are_numbered n (scripts ++ script ∷ []) ≡ true
numbered_more n [] script h e = and_from (nat_eq script.number n) true (eqb_same script.number n (omega (arith, e))) refl
  where
    eqb_same : (a b : ℕ) → a ≡ b → nat_eq a b ≡ true
    eqb_same a b e = grind (arith, common_steps)
numbered_more n (first ∷ scripts) script h e =
    let p = and_parts (nat_eq first.number n) (are_numbered (n + 1) scripts) h in
    and_from (nat_eq first.number n) (are_numbered (n + 1) (scripts ++ script ∷ [])) p.0
    (numbered_more (n + 1) scripts script p.1 (omega (arith, e)))

-- ---- the last client, complete

few_more : (n most : ℕ) → nat_le (n + 1) most ≡ true → nat_le n most ≡ true
few_more n most h = let le = leb-true (n + 1) most h in le-leb n most (omega (arith, le))

-- a client of complete transactions behind the clients before it
one_client : (clients : List ClientScript) (side : Side) (txns : List (List TxOp)) → nat_le (length clients + 1) 64 ≡ true → are_numbered 1 clients ≡ true → list_all is_client clients ≡ true → nat_le (length txns) 100000 ≡ true → list_all is_txn txns ≡ true → are_clients (clients ++ record { number = length clients + 1; side = side; txns = txns } ∷ []) ≡ true
one_client clients side txns few numbered each few_txns each_txn =
    let script : ClientScript = record { number = length clients + 1; side = side; txns = txns } in
    let more : nat_le (length (clients ++ script ∷ [])) 64 ≡ true = le-leb _ 64 (omega (arith, leb-true (length clients + 1) 64 few, length-append clients (script ∷ []))) in
    let one : is_client script ≡ true = and_from (nat_le (length txns) 100000) (list_all is_txn txns) few_txns each_txn in
    and_from (nat_le (length (clients ++ script ∷ [])) 64 && are_numbered 1 (clients ++ script ∷ [])) (list_all is_client (clients ++ script ∷ []))
    (and_from (nat_le (length (clients ++ script ∷ [])) 64) (are_numbered 1 (clients ++ script ∷ [])) more (numbered_more 1 clients script numbered refl))
    (all_more is_client clients script each one)

no_client : (clients : List ClientScript) → nat_le (length clients) 64 ≡ true → are_numbered 1 clients ≡ true → list_all is_client clients ≡ true → are_clients clients ≡ true
no_client clients few numbered each =
    and_from (nat_le (length clients) 64 && are_numbered 1 clients) (list_all is_client clients)
    (and_from (nat_le (length clients) 64) (are_numbered 1 clients) few numbered) each

-- what lines say, from its parts
abbrev pub of_parts : Part → List Setting → List ClientScript → Side → List (List TxOp) → List TxOp → List Command → List ScheduleLine → Sofar
of_parts part settings clients side txns ops operator schedule = record { part = part; settings = settings; clients = clients; side = side; txns = txns; ops = ops; operator = operator; schedule = schedule }

-- no events are allowed
no_events : (clients agents : ℕ) (schedule : List ScheduleLine) → schedule ≡ [] → are_events clients agents schedule ≡ true
no_events clients agents schedule e = subst (λ (es : List ScheduleLine). are_events clients agents es ≡ true) (sym e) refl

-- the last transaction and its client are complete
pub closed_whole : (s : Sofar) → IsReady s → IsWhole (closed s)
closed_whole s r = at s.part s.settings s.clients s.side s.txns s.ops s.operator s.schedule r
  where
    at : (part : Part) (settings : List Setting) (clients : List ClientScript) (side : Side) (txns : List (List TxOp)) (ops : List TxOp) (operator : List Command) (schedule : List ScheduleLine) → IsReady (of_parts part settings clients side txns ops operator schedule) → IsWhole (closed (of_parts part settings clients side txns ops operator schedule))
    at parts.Settings settings clients side txns ops operator schedule r = record {
      settings = r.settings;
      clients = no_client clients r.few_clients r.numbered r.clients;
      few_commands = r.few_commands;
      operator = r.operator;
      schedule = and_from (nat_le (length schedule) 1000000) (list_all (is_event (length clients) (number_for kinds.Agents settings)) schedule) r.few_events r.schedule;
    }
    at parts.Operator settings clients side txns ops operator schedule r = record {
      settings = r.settings;
      clients = no_client clients r.few_clients r.numbered r.clients;
      few_commands = r.few_commands;
      operator = r.operator;
      schedule = and_from (nat_le (length schedule) 1000000) (list_all (is_event (length clients) (number_for kinds.Agents settings)) schedule) r.few_events r.schedule;
    }
    at parts.Schedule settings clients side txns ops operator schedule r = record {
      settings = r.settings;
      clients = no_client clients r.few_clients r.numbered r.clients;
      few_commands = r.few_commands;
      operator = r.operator;
      schedule = and_from (nat_le (length schedule) 1000000) (list_all (is_event (length clients) (number_for kinds.Agents settings)) schedule) r.few_events r.schedule;
    }
    at parts.Client settings clients side txns ops operator schedule r = record {
      settings = r.settings;
      clients = one_client clients side txns r.few_clients r.numbered r.clients r.few_txns r.txns;
      few_commands = r.few_commands;
      operator = r.operator;
      schedule = no_events _ _ schedule r.no_events;
    }
    at parts.Reads settings clients side txns ops operator schedule r = record {
      settings = r.settings;
      clients = one_client clients side (txns ++ ops ∷ []) r.few_clients r.numbered r.clients (le-leb _ 100000 (omega (arith, leb-true (length txns + 1) 100000 r.few_txns, length-append txns (ops ∷ [])))) (all_more is_txn txns ops r.txns r.ops);
      few_commands = r.few_commands;
      operator = r.operator;
      schedule = no_events _ _ schedule r.no_events;
    }
    at parts.Writes settings clients side txns ops operator schedule r = record {
      settings = r.settings;
      clients = one_client clients side (txns ++ ops ∷ []) r.few_clients r.numbered r.clients (le-leb _ 100000 (omega (arith, leb-true (length txns + 1) 100000 r.few_txns, length-append txns (ops ∷ [])))) (all_more is_txn txns ops r.txns r.ops);
      few_commands = r.few_commands;
      operator = r.operator;
      schedule = no_events _ _ schedule r.no_events;
    }
