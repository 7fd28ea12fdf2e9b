-- The versions that a container advertises, and the manifest for each.
use Rattle.std.specs.Prelude.{ℕ, ◌+◌, Bool, ◌&&◌, ◌||◌, Option, is_some, nat_le, ◌==◌}
use Rattle.fb_bytes.specs.Options.{best_of}
use Rattle.container_view.specs.Folder.{ManifestFile, Folder}
use Rattle.container_view.specs.Chain.{comes_first, chain}

-- The version is advertised by the manifest: it isn't before the manifest's end, the manifest
-- doesn't begin below the unreliable end, and logs go from the manifest's begin past the version,
-- or the manifest is of that version alone.
abbrev pub gives : Folder → ℕ → ManifestFile → Bool
gives folder version m =
    nat_le m.end version && nat_le folder.unreliable m.begin
    && (is_some (chain folder m.begin (version + 1)) || (m.begin == version && m.end == version))

abbrev pub manifest_beats : ManifestFile → ManifestFile → Bool
manifest_beats a b = comes_first a.end a.name b.end b.name

-- of the manifests by which the version is advertised, the one with the greatest end, then the
-- least name
abbrev pub chosen : Folder → ℕ → Option ManifestFile
chosen folder version = best_of (gives folder version) manifest_beats folder.manifests

abbrev pub is_advertised : Folder → ℕ → Bool
is_advertised folder version = is_some (chosen folder version)
