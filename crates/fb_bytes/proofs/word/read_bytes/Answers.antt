use Rattle.std.proofs.Common.{◌≡◌, [], ◌⊎◌, inl, inr, Ok, Err}
use Rattle.std.proofs.lemmas.Result.{IfOk-weaker, IfErr-weaker, MatchResult-from_both, IfErr-at_err}
use Rattle.fb_bytes.specs.Bytes.{Bytes}
use Rattle.fb_bytes.specs.Words.{word_reading}
use Rattle.fb_bytes.specs.declared.word_fault.WordFault.{WordFault}
use Rattle.fb_bytes.specs.declared.word_fault.WordFault.TheVariants.{NoMemory, Open}
use Rattle.fb_bytes.proofs.Letters.{read_is_word, word_is_read, open_is_empty}
use Rattle.fb_bytes.proofs.word.read_bytes.Goals as goal

pub returns-clause-found : goal.returns-clause-found
returns-clause-found c =
    IfOk-weaker c.read_letters.result _ _ (λ bytes e. read_is_word c.args.word.now bytes e) c.read_letters.ensures.ok

only_memory : (word bytes : Bytes) (e : WordFault) → word_reading word ≡ Ok bytes → (e ≡ NoMemory) ⊎ (word_reading word ≡ Err e) → e ≡ NoMemory
only_memory word bytes e h (inl m) = m
only_memory word bytes e h (inr f) = cc

pub returns-clause-only : goal.returns-clause-only
returns-clause-only c bytes h =
    let read = word_is_read c.args.word.now bytes h in
    MatchResult-from_both c.read_letters.result _ _
    (IfOk-weaker c.read_letters.result _ _ (λ blob e. cc (e, read)) c.read_letters.ensures.ok)
    (IfErr-weaker c.read_letters.result _ _ (λ e f. only_memory c.args.word.now bytes e read f) c.read_letters.ensures.err)

was_open : (word : Bytes) → (Open ≡ NoMemory) ⊎ (word_reading word ≡ Err Open) → word ≡ []
was_open word (inl m) = cc
was_open word (inr f) = open_is_empty word f

pub returns-clause-open : goal.returns-clause-open
returns-clause-open c = (
  λ e. was_open c.args.word.now (IfErr-at_err _ e c.read_letters.ensures.err),
  c.read_letters.ensures.open,
)
