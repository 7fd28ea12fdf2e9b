-- The opening state is sound.
use Rattle.std.specs.Prelude.{◌≡◌, ℕ, zero, suc, ◌+◌, ◌&&◌, true, List, [], ◌∷◌, length, map, Some, slice_get, nat_eq, nat_le, refl}
use Rattle.std.specs.List.{list_all}
use Rattle.std.proofs.Common.{ap, sym, ◌∙◌, arith, subst}
use Rattle.std.proofs.lemmas.Bool.{eqb-true, and_parts}
use Rattle.workload_text.specs.declared.ClientScript.{ClientScript}
use Rattle.workload_text.specs.declared.Workload.{Workload}
use Rattle.workload_text.specs.declared.Side.{Side}
use Rattle.workload_text.specs.declared.Side.TheVariants.{Src, Dst}
use Rattle.workload_text.specs.Allowed.{are_numbered, is_client}
use Rattle.client_core.specs.Clients.{ClientState, new_client}
use Rattle.client_core.specs.Legal.{entries_by}
use Rattle.database.specs.Dumps.{AreWithin}
use Rattle.cluster_core.specs.Jobs.{Job}
use Rattle.cluster_core.specs.declared.job.Job.TheVariants as types
use Rattle.cluster_core.specs.State.{on_side, client_at}
use Rattle.client_core.specs.Sound.{IsSoundClient}
use Rattle.client_core.proofs.Relied.{new_client_law}
use Rattle.mutations.specs.declared.Entry.{Entry}
use Rattle.workload_text.specs.declared.Settings.{Settings}
use Rattle.cluster_core.specs.Sound.{IsOrdered, other_side, IsClientSound, ground_of}
use Rattle.cluster_core.specs.Laws.{OpeningLaw}
use Rattle.cluster_core.proofs.Holding.{agents_opening}
use Rattle.cluster_core.proofs.Relied.{known}

-- the client at a place is new, and numbered by its place
record IsNew (tries number : ℕ) (client : ClientState) : Type 0 where
  numbered : client.script.number ≡ number
  fresh : client ≡ new_client tries client.script

new_at : (tries from : ℕ) (scripts : List ClientScript) (k : ℕ) (client : ClientState) → are_numbered from scripts ≡ true → slice_get (map (new_client tries) scripts) k ≡ Some client → IsNew tries (from + k) client
new_at tries from [] zero client h e = cc
new_at tries from [] (suc k) client h e = cc
new_at tries from (x ∷ xs) zero client h e =
    let same : new_client tries x ≡ client = cc in
    let number : x.number ≡ from = eqb-true _ _ (and_parts (nat_eq x.number from) (are_numbered (from + 1) xs) h).0 in
    subst (IsNew tries (from + 0)) same (record { numbered = omega arith; fresh = refl })
new_at tries from (x ∷ xs) (suc k) client h e =
    let rest : IsNew tries (from + 1 + k) client = new_at tries (from + 1) xs k client (and_parts (nat_eq x.number from) (are_numbered (from + 1) xs) h).1 e in
    record { numbered = rest.numbered ∙ omega arith; fresh = rest.fresh }

none_on : (n : ℕ) (side : Side) → entries_by n (on_side side [] []) ≡ []
none_on n Src = refl
none_on n Dst = refl

ordered_none : (side : Side) → IsOrdered 0 (on_side side [] [])
ordered_none Src = record { rising = tt; past = tt }
ordered_none Dst = record { rising = tt; past = tt }

nothing_on : (side : Side) → on_side {X = List Entry} side [] [] ≡ []
nothing_on Src = refl
nothing_on Dst = refl

new_sound : (s : Settings) (number : ℕ) (script : ClientScript) → script.number ≡ number → IsClientSound s 0 [] [] [] number (new_client s.tries script)
new_sound s number script h = record {
  sound = subst (λ (n : ℕ). IsSoundClient (ground_of s script.side [] [] []) 0 n (new_client s.tries script)) h (new_client_law (ground_of s script.side [] [] []) 0 script (nothing_on script.side));
  apart = none_on number (other_side script.side);
}

scripts_new : (tries : ℕ) (scripts : List ClientScript) → map (λ (client : ClientState). client.script) (map (new_client tries) scripts) ≡ scripts
scripts_new tries [] = refl
scripts_new tries (x ∷ xs) = ap (λ ys. x ∷ ys) (scripts_new tries xs)

numbered_in : (workload : Workload) → are_numbered 1 workload.clients ≡ true
numbered_in workload =
    let xs = workload.clients in
    (and_parts (nat_le (length xs) 64) (are_numbered 1 xs) (and_parts (nat_le (length xs) 64 && are_numbered 1 xs) (list_all is_client xs) workload.clients_allowed).0).1

each_new : (workload : Workload) (number : ℕ) (client : ClientState) → client_at (map (new_client workload.settings.tries) workload.clients) number ≡ Some client → IsClientSound workload.settings 0 [] [] [] number client
each_new workload zero client e = cc
each_new workload (suc k) client e =
    let new : IsNew workload.settings.tries (1 + k) client = new_at workload.settings.tries 1 workload.clients k client (numbered_in workload) e in
    subst (IsClientSound workload.settings 0 [] [] [] (suc k)) (sym new.fresh) (new_sound workload.settings (suc k) client.script (new.numbered ∙ omega arith))

within_none : (block : ℕ) (side : Side) → AreWithin block (on_side side [] [])
within_none block Src = tt
within_none block Dst = tt

no_job : {P : Type 0} (place : ℕ) (job : Job) → slice_get [] place ≡ Some job → P
no_job zero job e = cc
no_job (suc n) job e = cc

pub opening_is_sound : OpeningLaw
opening_is_sound workload files ordered = record {
  clock = record { bound = omega arith; tickets = omega arith };
  databases = record { histories = ordered_none; within = within_none workload.settings.block };
  clients = record { scripts_are = scripts_new workload.settings.tries workload.clients; each = each_new workload };
  jobs = record { each = λ place job e. no_job place job e; apart = λ a b first second e f s. no_job a (types.Backup first) e; numbered = λ place job e. no_job place job e };
  agents = agents_opening known workload.settings.agents;
  containers = λ told e. record { ordered = ordered told e; each = λ place job f. no_job place job f };
}
