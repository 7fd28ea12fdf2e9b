-- The names that a folder on disk takes: parts with slashes between, none of which leads out of the
-- folder.
use Rattle.std.specs.Prelude.{ℕ, nat_le, nat_eq, Bool, not, ◌&&◌, ◌||◌, length, slice_index}
use Rattle.std.specs.List.{list_all, slice_split}
use Rattle.fb_bytes.specs.Bytes.{Bytes}

-- a letter, a digit, or one of `_`, `-`, `.` and `,`
abbrev pub is_part_byte : ℕ → Bool
is_part_byte byte =
    (nat_le 97 byte && nat_le byte 122)
    || (nat_le 65 byte && nat_le byte 90)
    || (nat_le 48 byte && nat_le byte 57)
    || nat_eq byte 95 || nat_eq byte 45 || nat_eq byte 46 || nat_eq byte 44

-- such bytes, one at least, and the first isn't `.`
abbrev pub is_part : Bytes → Bool
is_part part =
    not (nat_eq (length part) 0) && not (nat_eq (slice_index part 0) 46)
    && list_all is_part_byte part

-- parts with slashes between
abbrev pub is_store_name : Bytes → Bool
is_store_name name = list_all is_part (slice_split (λ byte. nat_eq byte 47) name)
