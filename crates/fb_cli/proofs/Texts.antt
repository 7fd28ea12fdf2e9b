-- What reading a workload's text comes to, by what was read.
use Rattle.std.specs.Prelude.{◌≡◌, ℕ, ◌+◌, ◌<◌, [], Bool, true, false, length, Option, Some, Result, Ok, Err, refl}
use Rattle.std.proofs.Common.{ap, sym, ◌∙◌, arith, subst, inl, inr, cond}
use Rattle.std.proofs.lemmas.Bool.{lt-ltb}
use Rattle.fb_bytes.specs.Bytes.{Bytes}
use Rattle.fb_outside.specs.Faults.{Counts}
use Rattle.workload_text.specs.declared.Workload.{Workload}
use Rattle.workload_text.specs.declared.TextFault.TheVariants.{Refused}
use Rattle.workload_text.specs.declared.TextKind.{TextKind}
use Rattle.workload_text.specs.declared.TextKind.TheVariants.{Long}
use Rattle.workload_text.specs.Grammar.{Built, what, built, built_of, most_bytes}
use Rattle.workload_text.specs.Sofar.{Sofar, at_start, with_lines}
use Rattle.workload_text.specs.Texts.{lines_of}
use Rattle.fb_bytes.specs.Results.{◌>>=◌}
use Rattle.fb_cli.specs.declared.fault.Fault.{Fault}
use Rattle.fb_cli.specs.declared.fault.Fault.TheVariants.{TextRefused, SourceFault, NoMemory, NotBuilt}
use Rattle.fb_cli.specs.Later.{first_later, or_zero, is_played, playable_of, playable}
use Rattle.fb_cli.specs.Outside.{stream_change}
use Rattle.fb_cli.specs.Replays.{IsOfReading, SaysText, ReadsText}

-- a count that isn't to have risen
pub no_fault : (P Q : Type 0) (f f' : ℕ) → Counts f f' Q → (P → ⊥) → Counts f f' P
no_fault P Q f f' c n = record { later = c.later; rose = λ p. absurd (n p) }

pub failed_text : (left left' : Option Bytes) (f f' : ℕ) (Q : Type 0) → Counts f f' Q → Q → ReadsText (stream_change left left' f f') (Err SourceFault)
failed_text left left' f f' Q c q = record {
  answer = λ bytes e. inl refl;
  all = tt;
  kind = tt;
  count = record { later = c.later; rose = λ _. c.rose q };
  read = λ bytes e le r. absurd r;
}

says_refused : (read : Result Built Fault) (refusal : Fault) → read ≡ Err refusal → SaysText read (Err refusal)
says_refused read refusal e = subst (λ (r : Result Built Fault). SaysText r (Err refusal)) (sym e) refl

-- ---- a text, by what it says and by its first line that isn't played yet

bad_playable : (text : Bytes) (line : ℕ) (kind : TextKind) → built false text ≡ Err (Refused line kind) → playable text ≡ Err (TextRefused line kind)
bad_playable text line kind e = ap (playable_of (lines_of text)) e

good_playable : (text : Bytes) (w : Built) (played : Bool) → built false text ≡ Ok w → is_played w ≡ played → playable text ≡ cond played (Ok w) (Err (NotBuilt (or_zero (first_later 1 (lines_of text)))))
good_playable text w played e p = ap (playable_of (lines_of text)) e ∙ ap (λ (b : Bool). cond b (Ok w) (Err (NotBuilt (or_zero (first_later 1 (lines_of text)))))) p

too_long : (text : Bytes) → most_bytes < length text → built false text ≡ Err (Refused 0 Long)
too_long text h = ap (λ b. cond b (Err (Refused 0 Long)) (with_lines false 1 at_start (lines_of text) >>= λ (s : Sofar). Ok (built_of s))) (lt-ltb _ _ h)

-- ---- what reading it comes to

abbrev unread_built : Fault → Result Built Fault
unread_built fault = Err fault

abbrev unread : Fault → Result Workload Fault
unread fault = Err fault

refused_text : (left left' : Option Bytes) (f f' : ℕ) (Q : Type 0) (text : Bytes) (refusal : Fault) → Counts f f' Q → ((bytes : Bytes) → left ≡ Some bytes → (text ≡ bytes) × (left' ≡ Some [])) → playable text ≡ Err refusal → IsOfReading (Some refusal) → (unread refusal ≡ unread SourceFault → ⊥) → ReadsText (stream_change left left' f f') (Err refusal)
refused_text left left' f f' Q text refusal c h b r n = record {
  answer = λ bytes e. let k = h bytes e in inr (inr (subst (λ (t : Bytes). SaysText (playable t) (Err refusal)) k.0 (says_refused (playable text) refusal b)));
  all = tt;
  kind = r;
  count = no_fault (unread refusal ≡ unread SourceFault) Q f f' c n;
  read = λ bytes e le q. let k = h bytes e in k.1;
}

pub long_text : (left left' : Option Bytes) (f f' : ℕ) (Q : Type 0) → Counts f f' Q → ((bytes : Bytes) → left ≡ Some bytes → most_bytes < length bytes) → ReadsText (stream_change left left' f f') (Err (TextRefused 0 Long))
long_text left left' f f' Q c h = record {
  answer = λ bytes e. inr (inr (says_refused (playable bytes) (TextRefused 0 Long) (bad_playable bytes 0 Long (too_long bytes (h bytes e)))));
  all = tt;
  kind = tt;
  count = no_fault (Err (TextRefused 0 Long) ≡ Err SourceFault) Q f f' c (λ p. cc);
  read = λ bytes e le r. let l : most_bytes < length bytes = h bytes e in absurd (omega arith);
}

pub starved_text : (left left' : Option Bytes) (f f' : ℕ) (Q : Type 0) → Counts f f' Q → ReadsText (stream_change left left' f f') (Err NoMemory)
starved_text left left' f f' Q c = record {
  answer = λ bytes e. inr (inl refl);
  all = tt;
  kind = tt;
  count = no_fault (Err NoMemory ≡ Err SourceFault) Q f f' c (λ p. cc);
  read = λ bytes e le r. absurd r;
}

pub built_text : (left left' : Option Bytes) (f f' : ℕ) (Q : Type 0) (text : Bytes) (workload : Workload) → Counts f f' Q → ((bytes : Bytes) → left ≡ Some bytes → (text ≡ bytes) × (left' ≡ Some [])) → built false text ≡ Ok (what workload) → is_played (what workload) ≡ true → ReadsText (stream_change left left' f f') (Ok workload)
built_text left left' f f' Q text workload c h b l = record {
  answer = λ bytes e. let k = h bytes e in inr (inr (subst (λ (t : Bytes). SaysText (playable t) (Ok workload)) k.0 (subst (λ (r : Result Built Fault). SaysText r (Ok workload)) (sym (good_playable text (what workload) true b l)) refl)));
  all = l;
  kind = tt;
  count = no_fault (Ok workload ≡ Err SourceFault) Q f f' c (λ p. cc);
  read = λ bytes e le r. let k = h bytes e in k.1;
}

pub later_text : (left left' : Option Bytes) (f f' : ℕ) (Q : Type 0) (text : Bytes) (w : Built) (line : ℕ) → Counts f f' Q → ((bytes : Bytes) → left ≡ Some bytes → (text ≡ bytes) × (left' ≡ Some [])) → built false text ≡ Ok w → is_played w ≡ false → line ≡ or_zero (first_later 1 (lines_of text)) → ReadsText (stream_change left left' f f') (Err (NotBuilt line))
later_text left left' f f' Q text w line c h b l n = refused_text left left' f f' Q text (NotBuilt line) c h (good_playable text w false b l ∙ ap (λ (k : ℕ). unread_built (NotBuilt k)) (sym n)) tt (λ p. cc)

pub bad_text : (left left' : Option Bytes) (f f' : ℕ) (Q : Type 0) (text : Bytes) (line : ℕ) (kind : TextKind) → Counts f f' Q → ((bytes : Bytes) → left ≡ Some bytes → (text ≡ bytes) × (left' ≡ Some [])) → built false text ≡ Err (Refused line kind) → ReadsText (stream_change left left' f f') (Err (TextRefused line kind))
bad_text left left' f f' Q text line kind c h b = refused_text left left' f f' Q text (TextRefused line kind) c h (bad_playable text line kind b) tt (λ p. cc)
