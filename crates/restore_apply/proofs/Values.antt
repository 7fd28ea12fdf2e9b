-- What the links leave of the values in the files.
use Rattle.std.proofs.Common.{◌≡◌, ℕ, ◌+◌, Result, Ok, Err, IfOk, Option, Some, None, option_map, ap, ◌∙◌}
use Rattle.fb_bytes.specs.Bytes.{Bytes}
use Rattle.fb_bytes.specs.Options.{◌>>=◌}
use Rattle.fb_bytes.specs.Pairs.{value_of}
use Rattle.restore_apply.specs.Loaded.{Loaded, LoadedFile, file_with, replayed_links, loaded_at}
use Rattle.restore_apply.specs.inner.Loaded.{stored_at}
use Rattle.restore_apply.specs.inner.Pieces.{links_since}
use Rattle.restore_apply.proofs.Batches.{links_none, links_some}

pub if_ok : {A E : Type 0} {P Q : A → Type 0} (r : Result A E) → ((x : A) → P x → Q x) → IfOk r P → IfOk r Q
if_ok (Ok x) f h = f x h
if_ok (Err e) f h = tt

links_are : (set : Loaded) (version : ℕ) (key : Bytes) (o : Option LoadedFile)
    → links_since (option_map (λ file. file.version) o) set.links version key (o >>= (λ file. value_of file.body.pairs key))
    ≡ (o >>= (λ file. replayed_links set.links (file.version + 1) (version + 1) key (value_of file.body.pairs key)))
links_are set version key None = links_none set.links version key None
links_are set version key (Some file) = links_some file.version set.links version key (value_of file.body.pairs key)

pub loaded_is : (set : Loaded) (version : ℕ) (key : Bytes) (waits : Option ℕ) (start end : Option Bytes)
    → waits ≡ option_map (λ file. file.version) (file_with set.files key) → start ≡ stored_at set.files key → end ≡ links_since waits set.links version key start → end ≡ loaded_at set version key
loaded_is set version key waits start end w s e =
    e ∙ ap (λ v. links_since waits set.links version key v) s
    ∙ ap (λ o. links_since o set.links version key (stored_at set.files key)) w
    ∙ links_are set version key (file_with set.files key)
