-- What a log holds: a batch for each job and version, and what each call leaves of them.
use Rattle.std.specs.Prelude.{◌≡◌, ℕ, ◌<◌, Bool, true, false, not, nat_lt, ◌==◌, ◌&&◌, ◌||◌, List}
use Rattle.std.specs.Prelude.{[], ◌∷◌, map, Option, Some, None, if◌then◌else◌}
use Rattle.std.specs.List.{AllByRecursion, filter}
use Rattle.fb_bytes.specs.Bytes.{Bytes}
use Rattle.mutations.specs.declared.mutation.Mutation.{Mutation}
use Rattle.mutations.specs.declared.batch.Batch.{Batch}
use Rattle.mutations.specs.Replay.{is_within}
use Rattle.mutations.specs.Spelling.{batch_spelling, HasSpelling}

-- what stands under a job and a version: the mutations of a batch
pub record Standing : Type 0 where
  pub job : ℕ
  pub version : ℕ
  pub muts : List Mutation

-- by job, then by version
abbrev pub is_before : ℕ → ℕ → Standing → Bool
is_before job version one = nat_lt one.job job || ((one.job == job) && nat_lt one.version version)

-- the list with one more, in the order of jobs and versions
abbrev pub with_one : Standing → List Standing → List Standing
with_one one [] = one ∷ []
with_one one (other ∷ others) =
    if is_before one.job one.version other then other ∷ with_one one others
    else one ∷ other ∷ others

-- something stands under the job and the version
abbrev pub stands : ℕ → ℕ → List Standing → Bool
stands job version [] = false
stands job version (one ∷ others) =
    ((one.job == job) && (one.version == version)) || stands job version others

-- of the job and of the versions from begin on and before end
abbrev pub is_between : ℕ → ℕ → ℕ → ℕ → ℕ → Bool
is_between job begin end of version = (of == job) && is_within begin end version

abbrev pub batch_of : Standing → Batch
batch_of one = record { version = one.version; muts = one.muts }

-- the batches of a job from begin on and before end
abbrev pub batches_between : ℕ → ℕ → ℕ → List Standing → List Batch
batches_between job begin end log =
    map batch_of (filter (λ one. is_between job begin end one.job one.version) log)

-- of the job and of a version before below
abbrev pub is_older : ℕ → ℕ → ℕ → ℕ → Bool
is_older job below of version = (of == job) && nat_lt version below

-- what is left once a job's versions before below are erased
abbrev pub erased : ℕ → ℕ → List Standing → List Standing
erased job below log = filter (λ one. not (is_older job below one.job one.version)) log

-- what other versions have
abbrev pub without : ℕ → List Standing → List Standing
without version log = filter (λ one. not (one.version == version)) log

-- the bytes are those of a batch of these mutations
pub record Spells (bytes : Bytes) (muts : List Mutation) : Type 0 where
  pub has : HasSpelling muts
  pub are : bytes ≡ batch_spelling muts

-- the bytes are those of some batch
abbrev pub IsBatch : Bytes → Type 0
IsBatch bytes = (muts : List Mutation) × Spells bytes muts

-- each is before the later ones
abbrev pub AreOrdered : List Standing → Type 0
AreOrdered [] = Unit {0}
AreOrdered (one ∷ others) =
    AllByRecursion (λ later. is_before later.job later.version one ≡ true) others
    × AreOrdered others

-- the mutations that stand under a job and a version
abbrev pub logged_at : ℕ → ℕ → List Standing → Option (List Mutation)
logged_at job version [] = None
logged_at job version (one ∷ others) =
    if (one.job == job) && (one.version == version) then Some one.muts
    else logged_at job version others

-- the mutations of the batch of a version
abbrev pub batch_at : ℕ → List Batch → Option (List Mutation)
batch_at version [] = None
batch_at version (batch ∷ batches) =
    if batch.version == version then Some batch.muts else batch_at version batches

-- its version is past all others of its job
abbrev pub IsNewest : Standing → List Standing → Type 0
IsNewest one log = AllByRecursion (λ other. other.job ≡ one.job → other.version < one.version) log

-- no version is this one
abbrev pub AreOfOthers : ℕ → List Standing → Type 0
AreOfOthers version log = AllByRecursion (λ one. (one.version == version) ≡ false) log
