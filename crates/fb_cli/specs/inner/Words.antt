-- What words ask for, as the code has it.
use Rattle.fb_cli.specs.declared.words.Asked.{Asked}
use Rattle.fb_cli.specs.declared.words.Asked.TheVariants as asked
use Rattle.fb_cli.specs.Requests.{Request, Replay, Restore, Describe, Expire}
use Rattle.fb_cli.specs.Requests.{Listing, Later, Misused}

abbrev pub request_in : Asked → Request
request_in (asked.Replay brief) = Replay brief
request_in (asked.Restore container version) = Restore container.now version
request_in (asked.Describe container) = Describe container.now
request_in (asked.Expire container cutoff wanted force) =
    Expire container.now cutoff wanted force
request_in asked.List = Listing
request_in asked.Later = Later
request_in asked.Misused = Misused
