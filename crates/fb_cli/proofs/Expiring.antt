-- What an expire comes to, by what was read and changed.
use Rattle.std.proofs.Common.{◌≡◌, ℕ, ◌≤◌, Bool, List, [], ◌∷◌, ◌++◌, Option, Some, None, option_map, Result, Ok, Err, inl, inr, refl, sym, ap, ◌∙◌, subst}
use Rattle.fb_bytes.specs.Bytes.{Bytes}
use Rattle.fb_bytes.specs.Limits.{most_number}
use Rattle.fb_outside.specs.declared.File.{File}
use Rattle.fb_outside.specs.Files.{AreFiles}
use Rattle.container_view.specs.Contents.{file_grammars}
use Rattle.container_view.specs.Files.{inside}
use Rattle.container_view.specs.Honest.{IsHonestStore}
use Rattle.container_view.specs.Law.{Source}
use Rattle.container_view.specs.declared.ViewFault.TheVariants as views
use Rattle.expire_core.specs.Changes.{Change, all_changed, StopsIn}
use Rattle.expire_core.specs.Expiry.{expiry_of, changes_of, IsExpired, FailsIn, IsOfExpiring, IsRefusal}
use Rattle.expire_core.specs.declared.Expiry.{Expiry}
use Rattle.expire_core.specs.declared.ExpireFault.{ExpireFault}
use Rattle.expire_core.specs.Laws.{HonestLaw}
use Rattle.expire_core.specs.declared.ExpireFault.TheVariants as expires
use Rattle.report_text.specs.declared.Report.{Report}
use Rattle.report_text.specs.declared.Report.TheVariants as reports
use Rattle.fb_cli.specs.declared.fault.Fault.{Fault}
use Rattle.fb_cli.specs.Outside.{store_change}
use Rattle.fb_cli.specs.Expires.{refusal_of_expire, HasExpireCause, IsOfExpire, IsExpireRefusal, LeavesHonest, Expires}

-- what the expire stopped at is the cause of the refusal
its_cause : (fault : ExpireFault) (expiry : Result Expiry ExpireFault) → FailsIn fault expiry → HasExpireCause expiry (Some (refusal_of_expire fault))
its_cause fault (Ok expiry) (inl e) = inr (inl (ap (λ (f : ExpireFault). Some (refusal_of_expire f)) e))
its_cause fault (Ok expiry) (inr (inl e)) = inr (inr (ap (λ (f : ExpireFault). Some (refusal_of_expire f)) e))
its_cause fault (Ok expiry) (inr (inr e)) = absurd cc
its_cause fault (Err found) (inl e) = inr (inl (ap (λ (f : ExpireFault). Some (refusal_of_expire f)) e))
its_cause fault (Err found) (inr (inl e)) = inr (inr (ap (λ (f : ExpireFault). Some (refusal_of_expire f)) e))
its_cause fault (Err found) (inr (inr e)) = let s : found ≡ fault = cc in inl (ap (λ (f : ExpireFault). Some (refusal_of_expire f)) (sym s))

no_cause : (done : Expiry) (expiry : Result Expiry ExpireFault) → expiry ≡ Ok done → HasExpireCause expiry None
no_cause done expiry e = subst (λ (r : Result Expiry ExpireFault). HasExpireCause r None) (sym e) (inl refl)

its_kind : (fault : ExpireFault) → IsOfExpiring fault → IsOfExpire (Some (refusal_of_expire fault))
its_kind (expires.View views.NoContainer) k = tt
its_kind (expires.View (views.NotRestorable low high)) k = absurd k
its_kind (expires.View (views.Damaged name fault)) k = tt
its_kind (expires.View (views.Missing name)) k = absurd k
its_kind (expires.View views.VaultFault) k = tt
its_kind (expires.View views.NoMemory) k = tt
its_kind (expires.CannotExpire wanted left) k = tt

-- a refusal of the command is one of the expire
is_refusal : (fault : ExpireFault) → IsExpireRefusal (Some (refusal_of_expire fault)) → IsRefusal fault
is_refusal (expires.View views.NoContainer) r = tt
is_refusal (expires.View (views.NotRestorable low high)) r = tt
is_refusal (expires.View (views.Damaged name fault)) r = tt
is_refusal (expires.View (views.Missing name)) r = tt
is_refusal (expires.View views.VaultFault) r = r
is_refusal (expires.View views.NoMemory) r = r
is_refusal (expires.CannotExpire wanted left) r = tt

none_made : (made left : List Change) → [] ≡ made ++ left → made ≡ []
none_made [] left e = refl
none_made (x ∷ xs) left e = absurd cc

module _ (container : Bytes) (cutoff wanted : ℕ) (force : Bool) (before after : Option (List File)) (f f' : ℕ) (law : HonestLaw) (ordered : (files : List File) → before ≡ Some files → AreFiles files) (made : (files : List File) → before ≡ Some files → StopsIn (changes_of container (expiry_of (inside container files) cutoff wanted force)) before after) where
  still_honest : (files : List File) → before ≡ Some files → cutoff ≤ most_number → (source : Source) → IsHonestStore file_grammars source container files → LeavesHonest source container after
  still_honest files e within source h = go (expiry_of (inside container files) cutoff wanted force) refl (made files e)
    where
      go : (x : Result Expiry ExpireFault) → expiry_of (inside container files) cutoff wanted force ≡ x → StopsIn (changes_of container x) before after → LeavesHonest source container after
      go (Ok expiry) is s = record {
        files = all_changed s.made files;
        told = s.files ∙ ap (option_map (all_changed s.made)) e;
        honest = law file_grammars source container files h.folder expiry (record { ordered = ordered files e; decoded = h.decoded; cutoff = cutoff; within = within; wanted = wanted; force = force; is = is }) h s.made s.left s.is;
      }
      go (Err fault) is s = record {
        files = files;
        told = s.files ∙ ap (option_map (all_changed s.made)) e ∙ ap (λ (xs : List Change). Some (all_changed xs files)) (none_made s.made s.left s.is);
        honest = h;
      }

  pub expired : (deleted : ℕ) → ((files : List File) → before ≡ Some files → IsExpired container (expiry_of (inside container files) cutoff wanted force) files after deleted) → Expires container cutoff wanted force (store_change before after f f') (Some (reports.Expired deleted)) None
  expired deleted done = record {
    reported = (λ _. refl, λ _. refl);
    done = λ files e. record { deleted = deleted; told = refl; done = done files e };
    cause = λ files e. let d = done files e in no_cause d.done (expiry_of (inside container files) cutoff wanted force) d.is;
    kind = tt;
    made = made;
    refused = λ r. absurd r;
    honest = still_honest;
  }

  refused_so : (fault : ExpireFault) → IsOfExpiring fault → (IsRefusal fault → after ≡ before) → ((files : List File) → before ≡ Some files → FailsIn fault (expiry_of (inside container files) cutoff wanted force)) → Expires container cutoff wanted force (store_change before after f f') None (Some (refusal_of_expire fault))
  refused_so fault kind same fails = record {
    reported = (λ s. cc, λ e. cc);
    done = λ files e. tt;
    cause = λ files e. its_cause fault (expiry_of (inside container files) cutoff wanted force) (fails files e);
    kind = its_kind fault kind;
    made = made;
    refused = λ r. same (is_refusal fault r);
    honest = still_honest;
  }

  -- the same where report, refusal and store have names
  pub refused_as : (last : Option (List File)) (report : Option Report) (told : Option Fault) (refusal : Fault) (fault : ExpireFault) → last ≡ after → report ≡ None → told ≡ Some refusal → refusal ≡ refusal_of_expire fault → IsOfExpiring fault → (IsRefusal fault → after ≡ before) → ((files : List File) → before ≡ Some files → FailsIn fault (expiry_of (inside container files) cutoff wanted force)) → Expires container cutoff wanted force (store_change before last f f') report told
  refused_as last report told refusal fault l r t e kind same fails =
      subst (λ (x : Option (List File)). Expires container cutoff wanted force (store_change before x f f') report told) (sym l)
      (subst (λ (x : Option Report). Expires container cutoff wanted force (store_change before after f f') x told) (sym r)
      (subst (λ (x : Option Fault). Expires container cutoff wanted force (store_change before after f f') None x) (sym (t ∙ ap Some e)) (refused_so fault kind same fails)))
