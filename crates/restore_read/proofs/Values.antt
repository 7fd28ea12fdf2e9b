-- Loaded files and links say what a container's pieces and parts say.
use Rattle.std.proofs.Common.{◌≡◌, ℕ, zero, suc, ◌+◌, max, min, Bool, true, false, not, ◌&&◌, ◌||◌, cond, List, [], ◌∷◌, map, Option, Some, None, option_map, refl, sym, ap, ◌∙◌, subst, nat_le}
use Rattle.fb_bytes.specs.Bytes.{Bytes}
use Rattle.fb_bytes.specs.declared.KeyRange.{KeyRange}
use Rattle.fb_bytes.specs.Keys.{holds}
use Rattle.fb_bytes.specs.Options.{IsIn, ◌>>=◌}
use Rattle.fb_bytes.specs.Pairs.{value_of}
use Rattle.block_frame.specs.Profiles.{limit_of}
use Rattle.mutations.specs.Replay.{replayed}
use Rattle.container_view.specs.Chain.{LogLink, best_log, links}
use Rattle.container_view.specs.Folder.{LogFile, Folder}
use Rattle.container_view.specs.Meaning.{Piece, Part, Needed, needed, means, overlaps, overlaps_any, are_disjoint, piece_of, replayed_parts, value_at}
use Rattle.container_view.proofs.Basics.{bind_some}
use Rattle.container_view.proofs.Chains.{best_log_is}
use Rattle.restore_apply.specs.declared.Loaded.{Loaded}
use Rattle.restore_apply.specs.declared.LoadedFile.{LoadedFile}
use Rattle.restore_apply.specs.declared.LoadedLink.{LoadedLink}
use Rattle.restore_apply.specs.Loaded.{range_of, file_with, replayed_links, loaded_at}
use Rattle.restore_apply.specs.Overlaps.{overlaps_file, are_apart}

-- ---- files

-- a loaded file, as a piece
abbrev pub seen : LoadedFile → Piece
seen file = record { version = file.version; range = range_of file; pairs = file.body.pairs }

piece_seen : (files : List LoadedFile) (key : Bytes) → piece_of (map seen files) key ≡ option_map seen (file_with files key)
piece_seen [] key = refl
piece_seen (file ∷ files) key = go (holds (range_of file) key) (piece_seen files key)
  where
    go : (b : Bool) → piece_of (map seen files) key ≡ option_map seen (file_with files key) → cond b (Some (seen file)) (piece_of (map seen files) key) ≡ option_map seen (cond b (Some file) (file_with files key))
    go true ih = refl
    go false ih = ih

overlaps_seen : (range : KeyRange) (files : List LoadedFile) → overlaps_any range (map seen files) ≡ overlaps_file range files
overlaps_seen range [] = refl
overlaps_seen range (file ∷ files) = ap (λ t. overlaps range (range_of file) || t) (overlaps_seen range files)

pub apart_seen : (files : List LoadedFile) → are_disjoint (map seen files) ≡ are_apart files
apart_seen [] = refl
apart_seen (file ∷ files) =
    ap (λ t. not t && are_disjoint (map seen files)) (overlaps_seen (range_of file) files)
    ∙ ap (λ t. not (overlaps_file (range_of file) files) && t) (apart_seen files)

-- ---- links

-- a loaded link gives what the part gives
pub record IsLike (link : LoadedLink) (part : Part) : Type 0 where
  pub from_is : link.from ≡ part.from
  pub to_is : link.to ≡ part.to
  pub limit_is : link.limit ≡ limit_of part.block
  pub batches_is : link.chunk.batches ≡ part.batches

abbrev pub AreLike : List LoadedLink → List Part → Type 0
AreLike [] [] = Unit {0}
AreLike [] (part ∷ parts) = ⊥
AreLike (link ∷ links) [] = ⊥
AreLike (link ∷ links) (part ∷ parts) = IsLike link part × AreLike links parts

replayed_like : (links : List LoadedLink) (parts : List Part) → AreLike links parts → (low high : ℕ) (key : Bytes) (old : Option Bytes) → replayed_links links low high key old ≡ replayed_parts parts low high key old
replayed_like [] [] h low high key old = refl
replayed_like [] (part ∷ parts) h low high key old = absurd h
replayed_like (link ∷ links) [] h low high key old = absurd h
replayed_like (link ∷ links) (part ∷ parts) h low high key old =
    ap (replayed_links links low high key) (λ i. replayed (h.0.limit_is i) (h.0.batches_is i) (max (h.0.from_is i) low) (min (h.0.to_is i) high) key old)
    ∙ replayed_like links parts h.1 low high key _

-- ---- values

found_like : (links : List LoadedLink) (parts : List Part) → AreLike links parts → (version : ℕ) (key : Bytes) (o : Option LoadedFile) → (o >>= λ file. replayed_links links (file.version + 1) (version + 1) key (value_of file.body.pairs key)) ≡ (option_map seen o >>= λ piece. replayed_parts parts (piece.version + 1) (version + 1) key (value_of piece.pairs key))
found_like links parts h version key None = refl
found_like links parts h version key (Some file) = replayed_like links parts h (file.version + 1) (version + 1) key (value_of file.body.pairs key)

-- what is loaded says at each key what the pieces and the parts say
pub value_like : (set : Loaded) (parts : List Part) → AreLike set.links parts → (version : ℕ) (key : Bytes) → loaded_at set version key ≡ value_at (map seen set.files) parts version key
value_like set parts h version key =
    found_like set.links parts h version key (file_with set.files key)
    ∙ ap (λ o. o >>= λ piece. replayed_parts parts (piece.version + 1) (version + 1) key (value_of piece.pairs key)) (sym (piece_seen set.files key))

-- what is needed is what is meant
pub means_again : (folder : Folder) (version : ℕ) (n : Needed) → needed folder version ≡ Some n → means folder version ≡ Some (value_at n.pieces n.parts version)
means_again folder version n e = ap (λ o. o >>= λ n. Some (value_at n.pieces n.parts version)) e

-- ---- the links of a chain

-- each link's file is one of the logs
abbrev pub AreOf : List LogFile → List LogLink → Type 0
AreOf all [] = Unit {0}
AreOf all (l ∷ ls) = IsIn l.file all × AreOf all ls

no_links : (all : List LogFile) (b : Bool) (ls : List LogLink) → cond b (Some []) None ≡ Some ls → AreOf all ls
no_links all true ls e = let n : [] ≡ ls = cc in subst (AreOf all) n tt
no_links all false ls e = absurd cc

one_link : (all : List LogFile) (end version : ℕ) (next : LogFile → Option (List LogLink)) → ((f : LogFile) (rest : List LogLink) → next f ≡ Some rest → AreOf all rest) → (b : Bool) (ls : List LogLink) → cond b (Some []) (best_log all version >>= λ f. next f >>= λ rest. Some (record { file = f; from = version; to = f.end } ∷ rest)) ≡ Some ls → AreOf all ls
one_link all end version next ih true ls e = no_links all true ls e
one_link all end version next ih false ls e =
    let f = bind_some (best_log all version) _ ls e in
    let rest = bind_some (next f.0) _ ls f.2 in
    let n : record { file = f.0; from = version; to = f.0.end } ∷ rest.0 ≡ ls = cc (rest.2) in
    subst (AreOf all) n ((best_log_is all version f.0 f.1).is_in, ih f.0 rest.0 rest.1)

pub links_of_logs : (all : List LogFile) (end most version : ℕ) (ls : List LogLink) → links most all version end ≡ Some ls → AreOf all ls
links_of_logs all end zero version ls e = no_links all (nat_le end version) ls e
links_of_logs all end (suc most) version ls e = one_link all end version (λ f. links most all f.end end) (λ f rest. links_of_logs all end most f.end rest) (nat_le end version) ls e
