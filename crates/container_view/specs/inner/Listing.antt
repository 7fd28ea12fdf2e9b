-- Names, as a list of references has them.
use Rattle.std.specs.Prelude.{List, map}
use Rattle.std.specs.Borrow.{Bor}
use Rattle.fb_bytes.specs.Bytes.{Bytes}

-- the texts that the references show
abbrev pub texts : List (Bor Bytes) → List Bytes
texts names = map (λ name. name.now) names
