-- One list of tasks, and the two lists that it stands for.
use Rattle.std.specs.Prelude.{◌≡◌, ℕ, ◌-◌, ◌<◌, Bool, false, ◌&&◌, not, List, [], ◌∷◌}
use Rattle.std.specs.Prelude.{Option, Some, None, option_map, zero, suc, nat_lt, nat_le, ◌==◌}
use Rattle.std.specs.Prelude.{if◌then◌else◌}
use Rattle.std.specs.List.{prefix_len, count_by}
use Rattle.task_bucket.specs.declared.held.Held.{Held}
use Rattle.task_bucket.specs.Lists.{Lease, Slot, Lists, added, added_asleep, lesser_of}
use Rattle.task_bucket.specs.Claims.{picked}

abbrev pub slot_in : Held → Slot
slot_in held = record { uid = held.uid; task = held.task }

abbrev pub lease_in : ℕ → Held → Lease
lease_in until held = record { until = until; uid = held.uid; task = held.task }

abbrev pub slots_in : List Held → List Slot
slots_in [] = []
slots_in (h ∷ hs) = if h.free then slot_in h ∷ slots_in hs else slots_in hs

abbrev pub leases_in : List Held → List Lease
leases_in [] = []
leases_in (h ∷ hs) = if h.free then leases_in hs else lease_in h.until h ∷ leases_in hs

abbrev pub lists_in : List Held → Lists
lists_in hs = record { available = slots_in hs; leased = leases_in hs }

-- the version until which it is leased; none where it is available
abbrev pub until_of : Held → Option ℕ
until_of held = if held.free then None else Some held.until

-- all of these have greater uids
abbrev pub ArePast : ℕ → List Held → Type 0
ArePast uid [] = Unit {0}
ArePast uid (h ∷ hs) = (uid < h.uid) × ArePast uid hs

abbrev pub AreRising : List Held → Type 0
AreRising [] = Unit {0}
AreRising (h ∷ hs) = ArePast h.uid hs × AreRising hs

-- how many are available
abbrev pub free_count : List Held → ℕ
free_count hs = count_by (λ h. h.free) hs

-- the uids rise, and so many are available
pub record AreCounted (count : ℕ) (hs : List Held) : Type 0 where
  pub rising : AreRising hs
  pub counted : count ≡ free_count hs

-- ---- tests

abbrev pub held_is : ℕ → ℕ → Held → Bool
held_is until uid held = not held.free && held.until == until && held.uid == uid

-- ---- places

-- how many at the front have uids up to this one
abbrev pub is_upto : ℕ → Held → Bool
is_upto uid held = nat_le held.uid uid

abbrev pub place_for : ℕ → List Held → ℕ
place_for uid hs = prefix_len (is_upto uid) hs

-- how many at the front have lesser uids
abbrev pub is_lesser : ℕ → Held → Bool
is_lesser uid held = nat_lt held.uid uid

abbrev pub lesser_count : ℕ → List Held → ℕ
lesser_count uid hs = prefix_len (is_lesser uid) hs

-- the place of a step down from a place, and then up from it
abbrev pub place_at : ℕ → ℕ → ℕ
place_at place step = if nat_lt step place then place - 1 - step else step

-- the available task at a place
abbrev pub slot_at : List Held → ℕ → Option Slot
slot_at [] place = None
slot_at (h ∷ hs) zero = if h.free then Some (slot_in h) else None
slot_at (h ∷ hs) (suc place) = slot_at hs place

-- the place of the available task that a claim picks
abbrev pub picked_place : ℕ → List Held → Option ℕ
picked_place pick hs = option_map (λ s. lesser_count s.uid hs) (picked pick (slots_in hs))

-- of the place so far and a later one, the later where its uid is at or below the pick
abbrev pub later_place : Bool → ℕ → Option ℕ → ℕ
later_place low later None = later
later_place low later (Some place) = if low then later else place

-- ---- changes

abbrev pub put_held : Held → List Held → List Held
put_held held [] = held ∷ []
put_held held (h ∷ hs) = if nat_lt held.uid h.uid then held ∷ h ∷ hs else h ∷ put_held held hs

-- available exactly where it is due, with the until that it had
abbrev pub woken : ℕ → Held → Held
woken now held =
    record { uid = held.uid; until = held.until; free = nat_le held.until now; task = held.task }

-- leased again until the version that it had
abbrev pub asleep : Held → Held
asleep held = record { uid = held.uid; until = held.until; free = false; task = held.task }

abbrev pub leased : ℕ → Held → Held
leased until held = record { uid = held.uid; until = until; free = false; task = held.task }

-- with another until, where it is that lease
abbrev pub retimed_held : ℕ → ℕ → ℕ → Held → Held
retimed_held until uid new held =
    record {
      uid = held.uid;
      until = if held_is until uid held then new else held.until;
      free = held.free;
      task = held.task;
    }

abbrev pub first_held : ℕ → ℕ → List Held → Option Held
first_held until uid [] = None
first_held until uid (h ∷ hs) = if held_is until uid h then Some h else first_held until uid hs

-- the two lists with one more task
abbrev pub put_into : Held → Lists → Lists
put_into held lists =
    if held.free then added held.uid held.task lists
    else added_asleep held.until held.uid held.task lists

-- the lesser of two versions, where there are two
abbrev pub least_of : Option ℕ → Option ℕ → Option ℕ
least_of None o = o
least_of (Some n) o = lesser_of n o
