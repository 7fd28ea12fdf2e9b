-- What is told of a container, by what is found among its names.
use Rattle.std.proofs.Common.{◌≡◌, ◌∙◌, ap, ℕ, List, map, Option, option_map, unwrap_or}
use Rattle.fb_bytes.specs.Bytes.{Bytes}
use Rattle.container_view.specs.declared.logs.Run.{Run}
use Rattle.container_view.specs.declared.sorting.SortedNames.{SortedNames}
use Rattle.container_view.specs.Bounds.{Bounds, reached, advertised_bounds}
use Rattle.container_view.specs.Names.{logs_named, sealed_named, folder_named}
use Rattle.container_view.specs.Description.{Snapshot, least_of, greatest_of, log_span, described}
use Rattle.container_view.specs.inner.Listed.{AreSorted, TellsReach, reach_in, sizes_of}
use Rattle.container_view.specs.inner.Names.{snapshot_with}

pub told : (names : List Bytes) (sorted : SortedNames) (runs : List Run) (unreliable expired : Option ℕ) (end : ℕ) → sorted.names.now ≡ names → AreSorted sorted → TellsReach runs (logs_named sorted.names.now) → end ≡ unwrap_or unreliable 0
    → (snapshots : List Snapshot) (begin contiguous log_end : Option ℕ) (bounds : Option Bounds) (least greatest : Option ℕ) (first second : List Run)
    → snapshots ≡ map (snapshot_with (reach_in first) end) (sizes_of sorted.manifests.items) → begin ≡ least_of sorted.span → contiguous ≡ option_map (reach_in second) begin → log_end ≡ greatest_of sorted.span
    → bounds ≡ advertised_bounds (folder_named sorted.names.now end) → least ≡ least_of bounds → greatest ≡ greatest_of bounds → first ≡ runs → second ≡ runs
    → record { snapshots = snapshots; log_begin = begin; log_contiguous = contiguous; log_end = log_end; min = least; max = greatest; unreliable = unreliable; expired = expired } ≡ described names unreliable expired
told names sorted runs unreliable expired end n a same e snapshots begin contiguous log_end bounds least greatest first second is_snapshots is_begin is_contiguous is_end is_bounds is_least is_greatest p q =
    let seals = is_snapshots
    ∙ ap (λ (r : List Run). map (snapshot_with (reach_in r) end) (sizes_of sorted.manifests.items)) p
    ∙ (λ i. map (snapshot_with (λ from. same from i) end) (sizes_of sorted.manifests.items))
    ∙ ap (map (snapshot_with (reached (logs_named sorted.names.now)) end)) a.manifests
    ∙ ap (λ (ns : List Bytes). map (snapshot_with (reached (logs_named ns)) end) (sealed_named ns)) n
    ∙ ap (λ (u : ℕ). map (snapshot_with (reached (logs_named names)) u) (sealed_named names)) e in
    let span = a.span ∙ ap (λ (ns : List Bytes). log_span (logs_named ns)) n in
    let from = is_begin ∙ ap least_of span in
    let to = is_contiguous
    ∙ ap (λ (r : List Run). option_map (reach_in r) begin) q
    ∙ (λ i. option_map (λ x. same x i) begin)
    ∙ ap (λ (ns : List Bytes). option_map (reached (logs_named ns)) begin) n
    ∙ ap (option_map (reached (logs_named names))) from in
    let last = is_end ∙ ap greatest_of span in
    let given = is_bounds ∙ ap (λ (ns : List Bytes). advertised_bounds (folder_named ns end)) n ∙ ap (λ (u : ℕ). advertised_bounds (folder_named names u)) e in
    let low = is_least ∙ ap least_of given in
    let high = is_greatest ∙ ap greatest_of given in
    λ i. record { snapshots = seals i; log_begin = from i; log_contiguous = to i; log_end = last i; min = low i; max = high i; unreliable = unreliable; expired = expired }
