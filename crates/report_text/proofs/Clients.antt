-- The lines of one client more.
use Rattle.std.proofs.Common.{◌≡◌, ℕ, zero, suc, ◌+◌, List, [], ◌∷◌, ◌++◌, take, Some, slice_get, sym, ap, ◌∙◌, arith, add-one, add-zero, append_assoc, append-nil}
use Rattle.std.specs.List.{flat_map}
use Rattle.fb_bytes.specs.Bytes.{Bytes}
use Rattle.client_core.specs.Clients.{Told}
use Rattle.report_text.specs.Outcomes.{try_lines, client_lines}

-- the lines of a client of this number
abbrev pub of_client : ℕ → Told → Bytes
of_client n told = flat_map (try_lines n told.script.txns) told.outcomes

one_more : (n i : ℕ) (all : List Told) (told : Told) → slice_get all i ≡ Some told → client_lines n (take (suc i) all) ≡ client_lines n (take i all) ++ of_client (n + i) told
one_more n i [] told h = cc
one_more n zero (first ∷ all) told h =
    let e : first ≡ told = cc in
    append-nil (of_client n first) ∙ ap (of_client n) e ∙ ap (λ k. of_client k told) (sym (add-zero n))
one_more n (suc i) (first ∷ all) told h =
    let k : n + 1 + i ≡ n + suc i = omega arith in
    ap (λ rest. of_client n first ++ rest) (one_more (n + 1) i all told h)
    ∙ sym (append_assoc (of_client n first) (client_lines (n + 1) (take i all)) (of_client (n + 1 + i) told))
    ∙ ap (λ c. of_client n first ++ client_lines (n + 1) (take i all) ++ of_client c told) k

pub one_more_client : (before after from : Bytes) (i : ℕ) (all : List Told) (told : Told) → slice_get all i ≡ Some told
    → before ≡ from ++ client_lines 1 (take i all) → after ≡ before ++ of_client (i + 1) told → after ≡ from ++ client_lines 1 (take (i + 1) all)
one_more_client before after from i all told h b a =
    let k : i + 1 ≡ 1 + i = omega arith in
    a
    ∙ ap (λ t. t ++ of_client (i + 1) told) b
    ∙ append_assoc from (client_lines 1 (take i all)) (of_client (i + 1) told)
    ∙ ap (λ c. from ++ (client_lines 1 (take i all) ++ of_client c told)) k
    ∙ ap (λ t. from ++ t) (sym (one_more 1 i all told h))
    ∙ ap (λ c. from ++ client_lines 1 (take c all)) (sym (add-one i))
