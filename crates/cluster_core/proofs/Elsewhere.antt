-- A step keeps the files outside the containers of the jobs, by what it may touch.
use Rattle.std.specs.Prelude.{◌≡◌, ℕ, zero, suc, Bool, true, false, List, [], ◌∷◌, ◌++◌, Option, Some, None, Result, ◌⊎◌, is_some, slice_get, slice_set, refl}
use Rattle.std.proofs.Common.{ap, sym, ◌∙◌, subst, inl, inr}
use Rattle.fb_bytes.specs.Bytes.{Bytes, is_same}
use Rattle.fb_bytes.proofs.Order.{same_eq}
use Rattle.fb_outside.specs.declared.File.{File}
use Rattle.fb_outside.proofs.Filing.{file_of_put_other}
use Rattle.container_view.specs.Files.{whole_name, name_in}
use Rattle.container_view.proofs.Stores.{store_law}
use Rattle.workload_text.specs.declared.Workload.{Workload}
use Rattle.cluster_core.specs.declared.event.Answer.{Answer}
use Rattle.cluster_core.specs.declared.event.Event.{Event}
use Rattle.cluster_core.specs.declared.event.StepFault.{StepFault}
use Rattle.cluster_core.specs.declared.job.Job.TheVariants as types
use Rattle.cluster_core.specs.Backups.{Backup}
use Rattle.cluster_core.specs.Jobs.{Job, Terms, terms_of, started}
use Rattle.cluster_core.proofs.Started.{started_backup}
use Rattle.cluster_core.specs.State.{State, with_put}
use Rattle.cluster_core.specs.Step.{Step, Turn, Run}
use Rattle.cluster_core.specs.Footprints.{IsJobChanged, IsJobStarted, IsFilePut, reach, Footprint}
use Rattle.cluster_core.specs.Elsewhere.{told_of, IsApart, IsOutside, KeepsElsewhere, ElsewhereLaw}
use Rattle.cluster_core.proofs.Footprints.{step_touches}

-- ---- lists of jobs

-- a name outside every started container is outside a backup's
apart_from : (backup : Backup) (name : Bytes) → IsApart name (started (terms_of (types.Backup backup))) → name_in backup.container name ≡ None
apart_from backup name o = subst (IsApart name) (started_backup backup) o

at_place : (jobs : List Job) (place : ℕ) (backup : Backup) (name : Bytes) → slice_get jobs place ≡ Some (types.Backup backup) → IsOutside jobs name → name_in backup.container name ≡ None
at_place [] zero backup name e o = cc
at_place [] (suc n) backup name e o = cc
at_place (x ∷ xs) zero backup name e o = let same : x ≡ types.Backup backup = cc in apart_from backup name (subst (λ (y : Job). IsApart name (started (terms_of y))) same o.0)
at_place (x ∷ xs) (suc n) backup name e o = at_place xs n backup name e o.1

before_set : (jobs : List Job) (place : ℕ) (old new : Job) (name : Bytes) → slice_get jobs place ≡ Some old → terms_of new ≡ terms_of old → IsOutside (slice_set jobs place new) name → IsOutside jobs name
before_set [] zero old new name e c o = cc
before_set [] (suc n) old new name e c o = cc
before_set (x ∷ xs) zero old new name e c o =
    let same : x ≡ old = cc in
    (subst (λ (t : Terms). IsApart name (started t)) (c ∙ ap terms_of (sym same)) o.0, o.1)
before_set (x ∷ xs) (suc n) old new name e c o = (o.0, before_set xs n old new name e c o.1)

before_more : (jobs : List Job) (new : Job) (name : Bytes) → IsOutside (jobs ++ new ∷ []) name → IsOutside jobs name
before_more [] new name o = tt
before_more (x ∷ xs) new name o = (o.0, before_more xs new name o.1)

-- ---- a put

-- a name outside a container isn't one of its whole names
not_whole : (container name other : Bytes) → name_in container other ≡ None → is_same (whole_name container name) other ≡ false
not_whole container name other n = go (is_same (whole_name container name) other) refl
  where
    go : (b : Bool) → is_same (whole_name container name) other ≡ b → b ≡ false
    go true s =
        let e = same_eq (whole_name container name) other s in
        let i = sym (store_law.whole_in container name) ∙ ap (name_in container) e ∙ n in
        cc
    go false s = refl

put_told : (container name bytes other : Bytes) (files : Option (List File)) → name_in container other ≡ None → told_of (with_put (whole_name container name) bytes files) other ≡ told_of files other
put_told container name bytes other None n = refl
put_told container name bytes other (Some files) n = ap Some (file_of_put_other files (whole_name container name) bytes other (not_whole container name other n))

put_telling : (whole bytes : Bytes) (files : Option (List File)) → is_some (with_put whole bytes files) ≡ is_some files
put_telling whole bytes None = refl
put_telling whole bytes (Some files) = refl

-- ---- a step

outside_before : (name : Bytes) (old new : List Job) → (new ≡ old) ⊎ (IsJobChanged old new ⊎ IsJobStarted old new) → IsOutside new name → IsOutside old name
outside_before name old new (inl same) o = subst (λ (js : List Job). IsOutside js name) same o
outside_before name old new (inr (inl c)) o = before_set old c.place c.before c.after name c.found c.terms (subst (λ (js : List Job). IsOutside js name) c.is o)
outside_before name old new (inr (inr c)) o = before_more old c.job name (subst (λ (js : List Job). IsOutside js name) c.is o)

same_told : (name : Bytes) (jobs : List Job) (old new : Option (List File)) → (new ≡ old) ⊎ IsFilePut jobs old new → IsOutside jobs name → told_of new name ≡ told_of old name
same_told name jobs old new (inl same) o = ap (λ (fs : Option (List File)). told_of fs name) same
same_told name jobs old new (inr p) o = ap (λ (fs : Option (List File)). told_of fs name) p.is ∙ put_told p.backup.container p.name p.bytes name old (at_place jobs p.place p.backup name p.found o)

telling_still : (jobs : List Job) (old new : Option (List File)) → (new ≡ old) ⊎ IsFilePut jobs old new → is_some new ≡ is_some old
telling_still jobs old new (inl same) = ap is_some same
telling_still jobs old new (inr p) = ap is_some p.is ∙ put_telling (whole_name p.backup.container p.name) p.bytes old

step_kept : (p : Workload) (old new : State) (event : Event) (answer : Result Answer StepFault) → Step p old event answer new → KeepsElsewhere old new
step_kept p old new event answer s =
    let touched : Footprint (reach p.settings.pace event) old answer new = step_touches p old new event answer s in
    record {
      outside = λ name o. outside_before name old.jobs new.jobs touched.jobs o;
      same = λ name o. same_told name old.jobs old.files new.files touched.files (outside_before name old.jobs new.jobs touched.jobs o);
      telling = telling_still old.jobs old.files new.files touched.files;
    }

-- ---- runs

pub kept_same : (w : State) → KeepsElsewhere w w
kept_same w = record { outside = λ name o. o; same = λ name o. refl; telling = refl }

pub kept_trans : (a b c : State) → KeepsElsewhere a b → KeepsElsewhere b c → KeepsElsewhere a c
kept_trans a b c first rest = record {
  outside = λ name o. first.outside name (rest.outside name o);
  same = λ name o. rest.same name o ∙ first.same name (rest.outside name o);
  telling = rest.telling ∙ first.telling;
}

run_kept : (p : Workload) (old new : State) (turns : List Turn) → Run p old turns new → KeepsElsewhere old new
run_kept p old new [] r = subst (KeepsElsewhere old) r (kept_same old)
run_kept p old new (turn ∷ turns) r = kept_trans old r.0 new (step_kept p old r.0 turn.event turn.answer r.1) (run_kept p r.0 new turns r.2)

pub elsewhere_law : ElsewhereLaw
elsewhere_law = record { step = step_kept; run = run_kept }
