-- A profile as a row of the table.
use Rattle.block_frame.specs.declared.profile.Profile.{Profile}
use Rattle.block_frame.specs.Profiles.{Row}

abbrev pub row_in : Profile → Row
row_in profile =
    record { block = profile.block; key = profile.key; value = profile.value; part = profile.part }
