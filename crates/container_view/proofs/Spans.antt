-- The versions that log files have, together.
use Rattle.std.proofs.Common.{◌≡◌, ◌∙◌, ap, refl, arith, min, max, List, [], ◌∷◌, ◌++◌, Option, Some, None}
use Rattle.fb_bytes.specs.Bytes.{Bytes}
use Rattle.file_names.specs.declared.Name.{Name}
use Rattle.file_names.specs.declared.Name.TheVariants.{Range, Log, Manifest, Unreliable, Expired, Other}
use Rattle.file_names.specs.Reading.{name_of}
use Rattle.container_view.specs.declared.logs.NamedLog.{NamedLog}
use Rattle.container_view.specs.Bounds.{Bounds, wider}
use Rattle.container_view.specs.Description.{span_of, log_span}
use Rattle.container_view.specs.Names.{logs_named, as_named_log}
use Rattle.container_view.specs.inner.Listed.{log_of, logs_of, listed, log_named, plain_logs}

pub wider_none : (a : Option Bounds) → wider a None ≡ a
wider_none None = refl
wider_none (Some a) = refl

pub wider_assoc : (a b c : Option Bounds) → wider a (wider b c) ≡ wider (wider a b) c
wider_assoc None b c = refl
wider_assoc (Some a) None c = refl
wider_assoc (Some a) (Some b) None = refl
wider_assoc (Some a) (Some b) (Some c) =
    let least : min a.least (min b.least c.least) ≡ min (min a.least b.least) c.least = omega arith in
    let greatest : max a.greatest (max b.greatest c.greatest) ≡ max (max a.greatest b.greatest) c.greatest = omega arith in
    λ i. Some (record { least = least i; greatest = greatest i })

-- a log file more
pub span_more : (logs : List NamedLog) (log : NamedLog) → log_span (logs_of (logs ++ log ∷ [])) ≡ wider (log_span (logs_of logs)) (span_of (log_of log))
span_more [] log = wider_none (span_of (log_of log))
span_more (x ∷ xs) log = ap (wider (span_of (log_of x))) (span_more xs log) ∙ wider_assoc (span_of (log_of x)) (log_span (logs_of xs)) (span_of (log_of log))

-- of a log file nothing but its begin and its end counts
pub span_plain : (names : List Bytes) → log_span (plain_logs names) ≡ log_span (logs_named names)
span_plain [] = refl
span_plain (name ∷ names) = go (name_of name) (span_plain names)
  where
    go : (said : Name) → log_span (plain_logs names) ≡ log_span (logs_named names) → log_span (listed (log_named name said) ++ plain_logs names) ≡ log_span (as_named_log name said ++ logs_named names)
    go (Log begin end ticket block) e = ap (wider (Some (record { least = begin; greatest = end }))) e
    go (Range snapshot version ticket block) e = e
    go (Manifest begin end size ticket) e = e
    go Unreliable e = e
    go Expired e = e
    go Other e = e
