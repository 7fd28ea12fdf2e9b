-- Two folders advertise the same where they differ in files alone that the unreliable end makes useless.
use Rattle.std.proofs.Common.{◌≡◌, ℕ, ◌+◌, ◌<◌, ◌≤◌, Bool, true, false, ◌&&◌, ◌||◌, ◌==◌, nat_le, Some, None, Option, is_some, refl, sym, ap, ◌∙◌, subst, arith}
use Rattle.std.proofs.lemmas.Bool.{and_parts, leb-true}
use Rattle.fb_bytes.specs.Options.{IsIn}
use Rattle.container_view.specs.Folder.{LogFile, ManifestFile, Folder}
use Rattle.container_view.specs.Chain.{chain}
use Rattle.container_view.specs.Advertised.{gives, chosen, is_advertised}
use Rattle.container_view.proofs.Whole.{chain_law, chosen_law}

-- What is in the new folder is in the old one. Of the old one's log files those that end past the unreliable end
-- are there, and of its manifests those that don't begin below it.
pub record KeepsFrom (old new : Folder) : Type 0 where
  pub unreliable : new.unreliable ≡ old.unreliable
  pub logs : (f : LogFile) → IsIn f new.logs → IsIn f old.logs
  pub long_logs : (f : LogFile) → IsIn f old.logs → old.unreliable < f.end → IsIn f new.logs
  pub manifests : (m : ManifestFile) → IsIn m new.manifests → IsIn m old.manifests
  pub late_manifests : (m : ManifestFile) → IsIn m old.manifests → old.unreliable ≤ m.begin → IsIn m new.manifests

pub keeps_itself : (folder : Folder) → KeepsFrom folder folder
keeps_itself folder = record { unreliable = refl; logs = λ f i. i; long_logs = λ f i h. i; manifests = λ m i. i; late_manifests = λ m i h. i }

pub keeps_on : (a b c : Folder) → KeepsFrom a b → KeepsFrom b c → KeepsFrom a c
keeps_on a b c p q = record {
  unreliable = q.unreliable ∙ p.unreliable;
  logs = λ f i. p.logs f (q.logs f i);
  long_logs = λ f i h. q.long_logs f (p.long_logs f i h) (subst (λ n. n < f.end) (sym p.unreliable) h);
  manifests = λ m i. p.manifests m (q.manifests m i);
  late_manifests = λ m i h. q.late_manifests m (p.late_manifests m i h) (subst (λ n. n ≤ m.begin) (sym p.unreliable) h);
}

pub both_ways : (b c : Bool) → (b ≡ true → c ≡ true) → (c ≡ true → b ≡ true) → b ≡ c
both_ways true c f g = sym (f refl)
both_ways false true f g = g refl
both_ways false false f g = refl

-- the manifest by which a version is advertised
pub found : (folder : Folder) (version : ℕ) → is_advertised folder version ≡ true → (m : ManifestFile) × IsIn m folder.manifests × (gives folder version m ≡ true)
found folder version e = go (chosen folder version) refl e
  where
    go : (o : Option ManifestFile) → chosen folder version ≡ o → is_some o ≡ true → (m : ManifestFile) × IsIn m folder.manifests × (gives folder version m ≡ true)
    go (Some m) c s = let g = chosen_law.gives_it folder version m c in (m, g.1, g.0)
    go None c s = absurd cc

never : (a c d : Bool) → (a && false && c) ≡ (a && false && d)
never true c d = refl
never false c d = refl

module _ (old new : Folder) (keeps : KeepsFrom old new) where
  -- no version from the unreliable end on is lost, and none is won
  chain_same : (begin end : ℕ) → old.unreliable ≤ begin → is_some (chain new begin end) ≡ is_some (chain old begin end)
  chain_same begin end h = both_ways _ _
      (λ e. chain_law.whole old begin end (λ version a b. let w = chain_law.no_gap new begin end e version a b in (w.0, keeps.logs w.0 w.1, w.2, w.3)))
      (λ e. chain_law.whole new begin end (λ version a b. let w = chain_law.no_gap old begin end e version a b in let past : version < w.0.end = w.3 in (w.0, keeps.long_logs w.0 w.1 (omega arith), w.2, w.3)))

  gives_same : (version : ℕ) (m : ManifestFile) → gives new version m ≡ gives old version m
  gives_same version m = go (nat_le old.unreliable m.begin) refl
    where
      go : (b : Bool) → nat_le old.unreliable m.begin ≡ b → gives new version m ≡ gives old version m
      go true e = let h = leb-true old.unreliable m.begin e in
          (λ i. nat_le m.end version && nat_le (keeps.unreliable i) m.begin && (chain_same m.begin (version + 1) h i || (m.begin == version && m.end == version)))
      go false e =
          ap (λ n. nat_le m.end version && nat_le n m.begin && (is_some (chain new m.begin (version + 1)) || (m.begin == version && m.end == version))) keeps.unreliable
          ∙ ap (λ b. nat_le m.end version && b && (is_some (chain new m.begin (version + 1)) || (m.begin == version && m.end == version))) e
          ∙ never (nat_le m.end version) _ _
          ∙ sym (ap (λ b. nat_le m.end version && b && (is_some (chain old m.begin (version + 1)) || (m.begin == version && m.end == version))) e)

  late : (version : ℕ) (m : ManifestFile) → gives old version m ≡ true → old.unreliable ≤ m.begin
  late version m g = leb-true old.unreliable m.begin (and_parts _ _ (and_parts _ _ g).0).1

  pub same_advertised : (version : ℕ) → is_advertised new version ≡ is_advertised old version
  same_advertised version = both_ways _ _
      (λ e. let w = found new version e in chosen_law.exists old version w.0 (keeps.manifests w.0 w.1) (sym (gives_same version w.0) ∙ w.2))
      (λ e. let w = found old version e in chosen_law.exists new version w.0 (keeps.late_manifests w.0 w.1 (late version w.0 w.2)) (gives_same version w.0 ∙ w.2))
