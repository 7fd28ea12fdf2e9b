-- What a restore comes to, by what was read.
use Rattle.std.specs.Prelude.{◌≡◌, ℕ, List, Option, Some, None, Result, Ok, Err, ◌⊎◌, refl}
use Rattle.std.proofs.Common.{ap, sym, ◌∙◌, subst, inl, inr}
use Rattle.fb_bytes.specs.Bytes.{Bytes}
use Rattle.fb_bytes.specs.declared.Pair.{Pair}
use Rattle.fb_bytes.specs.Pairs.{AreRising, value_of}
use Rattle.fb_outside.specs.declared.File.{File}
use Rattle.fb_outside.specs.Files.{AreFiles}
use Rattle.container_view.specs.Files.{inside}
use Rattle.container_view.specs.Sets.{Fails}
use Rattle.container_view.specs.declared.ViewFault.{ViewFault}
use Rattle.container_view.specs.declared.ViewFault.TheVariants as views
use Rattle.restore_apply.specs.declared.Loaded.{Loaded}
use Rattle.restore_apply.specs.Loaded.{loaded_at}
use Rattle.restore_read.specs.Meanings.{Loads, RestoreLaw}
use Rattle.restore_read.specs.Reading.{loaded_of}
use Rattle.report_text.specs.declared.Report.{Report}
use Rattle.report_text.specs.declared.Report.TheVariants as reports
use Rattle.fb_cli.specs.declared.fault.Fault.{Fault}
use Rattle.fb_cli.specs.declared.fault.Fault.TheVariants.{VaultFault, NoMemory}
use Rattle.fb_cli.specs.Outside.{store_change}
use Rattle.fb_cli.specs.Restores.{refusal_of, HasCause, IsOfRestore, Restores}

-- what reading stopped at is the cause of the refusal
pub its_cause : {A : Type 0} (fault : ViewFault) (reading : Result A ViewFault) → Fails fault reading → HasCause reading (Some (refusal_of fault))
its_cause fault (Ok set) (inl e) = inr (inl (ap (λ (f : ViewFault). Some (refusal_of f)) e))
its_cause fault (Ok set) (inr (inl e)) = inr (inr (ap (λ (f : ViewFault). Some (refusal_of f)) e))
its_cause fault (Ok set) (inr (inr e)) = cc
its_cause fault (Err found) (inl e) = inr (inl (ap (λ (f : ViewFault). Some (refusal_of f)) e))
its_cause fault (Err found) (inr (inl e)) = inr (inr (ap (λ (f : ViewFault). Some (refusal_of f)) e))
its_cause fault (Err found) (inr (inr e)) = let s : found ≡ fault = cc in inl (ap (λ (f : ViewFault). Some (refusal_of f)) (sym s))

module _ (container : Bytes) (version : ℕ) (files files' : Option (List File)) (f f' : ℕ) (law : RestoreLaw) (ordered : (told : List File) → files ≡ Some told → AreFiles told) (same : files' ≡ files) where
  one_set : (a b : Loaded) (reading : Result Loaded ViewFault) → reading ≡ Ok a → reading ≡ Ok b → a ≡ b
  one_set a b (Ok set) p q = let l : set ≡ a = cc in let r : set ≡ b = cc in sym l ∙ r
  one_set a b (Err fault) p q = cc

  no_cause : (set : Loaded) (reading : Result Loaded ViewFault) → reading ≡ Ok set → HasCause reading None
  no_cause set reading e = subst (λ (r : Result Loaded ViewFault). HasCause r None) (sym e) (inl refl)

  pub restored : (pairs : List Pair) → AreRising pairs → ((told : List File) → files ≡ Some told → Loads container told version (value_of pairs)) → Restores container version (store_change files files' f f') (Some (reports.Restored (record { version = version; pairs = pairs }))) None
  restored pairs rising read = record {
    reported = (λ _. refl, λ _. refl);
    meaning = λ told e.
        let l = read told e in
        let m = law.meant container told version l.set (ordered told e) l.is in
        record { folder = m.folder; decoded = m.decoded; meaning = m.meaning; defined = m.defined; pairs = (refl, rising, λ key. sym (l.same key) ∙ m.same key) };
    cause = λ told e. let l = read told e in no_cause l.set (loaded_of (inside container told) version) l.is;
    kind = tt;
    faithful = λ told e s h advertised.
        let l = read told e in
        let f = law.faithful s container told version (ordered told e) h advertised in
        inl (refl, rising, λ key. sym (l.same key) ∙ ap (λ (x : Loaded). loaded_at x version key) (one_set l.set f.set _ l.is f.is) ∙ f.same key);
    same = same;
  }

  its_kind : (fault : ViewFault) → IsOfRestore (Some (refusal_of fault))
  its_kind views.NoContainer = tt
  its_kind (views.NotRestorable low high) = tt
  its_kind (views.Damaged name fault) = tt
  its_kind (views.Missing name) = tt
  its_kind views.VaultFault = tt
  its_kind views.NoMemory = tt

  not_refused : (fault : ViewFault) (set : Loaded) (reading : Result Loaded ViewFault) → Fails fault reading → reading ≡ Ok set → (Some (refusal_of fault) ≡ Some VaultFault) ⊎ (Some (refusal_of fault) ≡ Some NoMemory)
  not_refused fault set reading (inl e) is = inl (ap (λ (f : ViewFault). Some (refusal_of f)) e)
  not_refused fault set reading (inr (inl e)) is = inr (ap (λ (f : ViewFault). Some (refusal_of f)) e)
  not_refused fault set (Ok loaded) (inr (inr e)) is = cc
  not_refused fault set (Err found) (inr (inr e)) is = cc

  pub refused_so : (fault : ViewFault) → ((told : List File) → files ≡ Some told → Fails fault (loaded_of (inside container told) version)) → Restores container version (store_change files files' f f') None (Some (refusal_of fault))
  refused_so fault fails = record {
    reported = (λ s. cc, λ e. cc);
    meaning = λ told e. tt;
    cause = λ told e. its_cause fault (loaded_of (inside container told) version) (fails told e);
    kind = its_kind fault;
    faithful = λ told e s h advertised.
        let f = law.faithful s container told version (ordered told e) h advertised in
        inr (not_refused fault f.set (loaded_of (inside container told) version) (fails told e) f.is);
    same = same;
  }

  -- the same where report and refusal have names
  pub refused_as : (report : Option Report) (told : Option Fault) (refusal : Fault) (fault : ViewFault) → report ≡ None → told ≡ Some refusal → refusal ≡ refusal_of fault → ((told : List File) → files ≡ Some told → Fails fault (loaded_of (inside container told) version)) → Restores container version (store_change files files' f f') report told
  refused_as report told refusal fault r t e fails =
      subst (λ (x : Option Report). Restores container version (store_change files files' f f') x told) (sym r)
      (subst (λ (x : Option Fault). Restores container version (store_change files files' f f') None x) (sym (t ∙ ap Some e)) (refused_so fault fails))
