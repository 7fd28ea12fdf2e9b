-- An event whose client or agent is there has a small number.
use Rattle.std.proofs.Common.{◌≡◌, ℕ, ◌≤◌, ◌+◌, Bool, true, false, ◌&&◌, length, arith, nat_le, if◌then◌else◌}
use Rattle.std.proofs.lemmas.Bool.{and_parts, leb-true, le-leb}
use Rattle.workload_text.specs.declared.schedule.EventKind.{EventKind}
use Rattle.workload_text.specs.declared.schedule.EventKind.TheVariants as events
use Rattle.workload_text.specs.declared.setting.SettingKind.TheVariants as kinds
use Rattle.workload_text.specs.Settings.{number_for}
use Rattle.workload_text.specs.Sofar.{Sofar, is_there, in_client}
use Rattle.workload_text.specs.inner.Ready.{IsReady, fits}
use Rattle.workload_text.proofs.Allowing.{few_agents}

few_clients : (b : Bool) (n : ℕ) → (if b then n + 1 else n) ≤ 64 → n ≤ 64
few_clients true n h = omega arith
few_clients false n h = h

client_small : (s : Sofar) (n : ℕ) → IsReady s → (nat_le 1 n && nat_le n (length s.clients)) ≡ true → nat_le n 64 ≡ true
client_small s n r h =
    let p = and_parts (nat_le 1 n) (nat_le n (length s.clients)) h in
    let at = leb-true n (length s.clients) p.1 in
    let few : length s.clients ≤ 64 = few_clients (in_client s.part) (length s.clients) (leb-true _ 64 r.few_clients) in
    le-leb n 64 (omega (arith, at, few))

agent_small : (s : Sofar) (n : ℕ) → IsReady s → nat_le n (number_for kinds.Agents s.settings) ≡ true → nat_le n 64 ≡ true
agent_small s n r h =
    let at = leb-true n (number_for kinds.Agents s.settings) h in
    let few = few_agents s.settings r.settings.small in
    le-leb n 64 (omega (arith, at, few))

pub there_fits : (s : Sofar) (kind : EventKind) (n : ℕ) → IsReady s → is_there s kind n ≡ true → fits kind n ≡ true
there_fits s events.Begin n r h = client_small s n r h
there_fits s events.Commit n r h = client_small s n r h
there_fits s events.Tick n r h = h
there_fits s events.Op n r h = h
there_fits s events.Drain n r h = h
there_fits s events.Claim n r h = agent_small s n r h
there_fits s events.Extend n r h = agent_small s n r h
there_fits s events.Take n r h = agent_small s n r h
there_fits s events.Place n r h = agent_small s n r h
there_fits s events.Close n r h = agent_small s n r h
there_fits s events.Die n r h = agent_small s n r h
