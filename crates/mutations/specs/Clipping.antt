-- Mutations cut to the ranges of a job.
use Rattle.std.specs.Prelude.{List, [], ◌∷◌, if◌then◌else◌}
use Rattle.std.specs.List.{flat_map}
use Rattle.fb_bytes.specs.Bytes.{Bytes}
use Rattle.fb_bytes.specs.declared.KeyRange.{KeyRange}
use Rattle.fb_bytes.specs.Keys.{in_ranges, is_backwards}
use Rattle.mutations.specs.declared.mutation.Mutation.{Mutation}
use Rattle.mutations.specs.Effects.{range_of, common}
use Rattle.mutations.specs.declared.mutation.Mutation.TheVariants.{Set, ClearRange, Atomic}

-- the clear of a range, unless the range is empty
abbrev pub cleared : KeyRange → List Mutation
cleared range = if is_backwards range then [] else ClearRange range.begin range.end ∷ []

-- what a range leaves of a clear
abbrev pub cut_to : Bytes → Bytes → KeyRange → List Mutation
cut_to begin end range = cleared (common (range_of begin end) range)

-- what ranges leave of a clear, in their order
abbrev pub clear_cut : Bytes → Bytes → List KeyRange → List Mutation
clear_cut begin end ranges = flat_map (cut_to begin end) ranges

-- what ranges leave of a mutation of one key
abbrev pub kept_in : List KeyRange → Bytes → Mutation → List Mutation
kept_in ranges key mutation = if in_ranges ranges key then mutation ∷ [] else []

-- what is left of a mutation in the ranges
abbrev pub clipped : List KeyRange → Mutation → List Mutation
clipped ranges (Set key value) = kept_in ranges key (Set key value)
clipped ranges (ClearRange begin end) = clear_cut begin end ranges
clipped ranges (Atomic op key param) = kept_in ranges key (Atomic op key param)

-- what is left of mutations, in their order
abbrev pub all_clipped : List KeyRange → List Mutation → List Mutation
all_clipped ranges muts = flat_map (clipped ranges) muts
