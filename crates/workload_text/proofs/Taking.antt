-- A line that says something is taken: what it says decides whether it may stand and what it makes.
use Rattle.std.proofs.Common.{◌≡◌, ◌∙◌, ℕ, ◌+◌, Bool, true, false, not, ◌&&◌, ◌||◌, List, [], ◌∷◌, ◌++◌, refl, sym, ap, subst, if◌then◌else◌, Ok, Err, true≢false, Option, IfOk}
use Rattle.workload_text.specs.declared.text_fault.TextKind.{TextKind}
use Rattle.workload_text.specs.declared.text_fault.TextKind.TheVariants as why
use Rattle.workload_text.specs.declared.line_fault.LineFault.TheVariants.{Refused}
use Rattle.std.specs.List.{list_all}
use Rattle.std.proofs.lemmas.Bool.{and_parts, and_from}
use Rattle.fb_bytes.specs.Bytes.{Bytes}
use Rattle.fb_bytes.specs.Results.{found_or}
use Rattle.workload_text.specs.declared.keyword.Keyword.{Keyword}
use Rattle.workload_text.specs.declared.keyword.Keyword.TheVariants as words
use Rattle.workload_text.specs.declared.line.Line.{Line}
use Rattle.workload_text.specs.declared.line.Line.TheVariants as lines
use Rattle.workload_text.specs.declared.part.Part.{Part}
use Rattle.workload_text.specs.declared.setting.Setting.{Setting}
use Rattle.workload_text.specs.Faults.{Read, where_so}
use Rattle.workload_text.specs.Keywords.{keyword_of}
use Rattle.workload_text.specs.Lines.{said}
use Rattle.workload_text.specs.Sofar.{Sofar, limit_in, clients_in, with_line, in_settings, in_client, in_txn, in_reads, in_operator, in_schedule, is_scheduled, is_next, is_first_no_other, stands, with_keyword, with_words, with_lines, numbered, is_comment}
use Rattle.workload_text.specs.Texts.{words_of, is_text_byte}
use Rattle.workload_text.specs.Words.{◌>>=◌}
use Rattle.workload_text.specs.Spelled.{Item, AreSaid, spells, says_something, speaking}
use Rattle.workload_text.proofs.Again.{limit_free}
use Rattle.workload_text.proofs.Soundness.{Pass, Passes, placed, said_passes}

-- ---- tests

pub none_true : {P : Type 0} → false ≡ true → P
none_true h = absurd (true≢false (sym h))

-- a test that holds is passed
pub where_true : {A : Type 0} (kind : TextKind) (test : Bool) (r : Read A) (x : A) → test ≡ true → r ≡ Ok x → where_so kind test r ≡ Ok x
where_true kind true r x e h = h
where_true kind false r x e h = none_true e

ok_part : {A : Type 0} (P : A → Type 0) (r : Read A) (x : A) → r ≡ Ok x → IfOk r P → P x
ok_part {A = A} P r x e h = subst (λ (o : Read A). IfOk o P) e h

-- ---- a line that is placed has a keyword that stands

abbrev stood : Part → Keyword → Line → Bool
stood part k line = not (placed part line) || stands part k

same_test : (b : Bool) → (not b || b) ≡ true
same_test true = refl
same_test false = refl

stood_pass : (part : Part) (k : Keyword) → Pass (stood part k) k
stood_pass part (words.Setting kind) = λ x. same_test (in_settings part)
stood_pass part words.Death = λ x. same_test (in_settings part)
stood_pass part words.Stall = λ x. same_test (in_settings part)
stood_pass part words.Client = λ x. same_test (in_settings part || in_client part)
stood_pass part words.Txn = same_test (in_client part)
stood_pass part (words.Read kind) = λ x e. rw e (same_test (in_reads part))
stood_pass part (words.Write kind) = λ x e. rw e (same_test (in_txn part))
stood_pass part words.Operator = same_test (in_settings part || in_client part)
stood_pass part (words.Command kind) = λ x. same_test (in_operator part)
stood_pass part words.Schedule = same_test (not (in_schedule part))
stood_pass part (words.Event kind) = λ x n m. same_test (in_schedule part)

then_so : (b c : Bool) → (not b || c) ≡ true → b ≡ true → c ≡ true
then_so true c h e = h
then_so false c h e = none_true e

stands_by : (part : Part) (limit : ℕ) (k : Keyword) (list : List Bytes) (line : Line) → said limit k list ≡ Ok line → placed part line ≡ true → stands part k ≡ true
stands_by part limit k list line e p =
    let l : Passes (stood part k) limit line = ok_part (Passes (stood part k) limit) (said limit k list) line e (said_passes (stood part k) limit k list (stood_pass part k)) in
    then_so (placed part line) (stands part k) l.0 p

-- ---- a client's line has the next number

-- the number of a client's line is behind so many
abbrev pub IsNumbered : ℕ → Line → ℕ → Type 0
IsNumbered count (lines.Client side) n = n ≡ count + 1
IsNumbered count line n = Unit {0}

abbrev is_client_line : Line → Bool
is_client_line (lines.Client side) = true
is_client_line line = false

number_of_line : (count : ℕ) (line : Line) (n : ℕ) → is_client_line line ≡ true → IsNumbered count line n → n ≡ count + 1
number_of_line count (lines.Client side) n h e = e
number_of_line count (lines.Setting setting) n h e = none_true h
number_of_line count lines.Txn n h e = none_true h
number_of_line count (lines.Op op) n h e = none_true h
number_of_line count lines.Operator n h e = none_true h
number_of_line count (lines.Order command) n h e = none_true h
number_of_line count lines.Schedule n h e = none_true h
number_of_line count (lines.Event kind a b) n h e = none_true h

next_by : (s : Sofar) (limit : ℕ) (k : Keyword) (list : List Bytes) (line : Line) (n : ℕ) → said limit k list ≡ Ok line → spells k list n ≡ true → IsNumbered (clients_in s) line n → is_next s k list ≡ true
next_by s limit words.Client list line n e sp i =
    let l : Passes is_client_line limit line = ok_part (Passes is_client_line limit) (said limit words.Client list) line e (said_passes is_client_line limit words.Client list (λ x. refl)) in
    subst (λ (m : ℕ). is_first_no_other m list ≡ true) (number_of_line (clients_in s) line n l.0 i) sp
next_by s limit (words.Setting kind) list line n e sp i = refl
next_by s limit words.Death list line n e sp i = refl
next_by s limit words.Stall list line n e sp i = refl
next_by s limit words.Txn list line n e sp i = refl
next_by s limit (words.Read kind) list line n e sp i = refl
next_by s limit (words.Write kind) list line n e sp i = refl
next_by s limit words.Operator list line n e sp i = refl
next_by s limit (words.Command kind) list line n e sp i = refl
next_by s limit words.Schedule list line n e sp i = refl
next_by s limit (words.Event kind) list line n e sp i = refl

-- ---- no schedule begins in a run

abbrev pub is_schedule_line : Line → Bool
is_schedule_line lines.Schedule = true
is_schedule_line line = false

not_run : (b run : Bool) → b ≡ true → (b && run) ≡ false → not run ≡ true
not_run true run h e = ap not e
not_run false run h e = none_true h

schedule_by : (run : Bool) (limit : ℕ) (k : Keyword) (list : List Bytes) (line : Line) → said limit k list ≡ Ok line → (is_schedule_line line && run) ≡ false → not (is_scheduled run k) ≡ true
schedule_by run limit words.Schedule list line e h =
    let l : Passes is_schedule_line limit line = ok_part (Passes is_schedule_line limit) (said limit words.Schedule list) line e (said_passes is_schedule_line limit words.Schedule list refl) in
    not_run (is_schedule_line line) run l.0 h
schedule_by run limit (words.Setting kind) list line e h = refl
schedule_by run limit words.Death list line e h = refl
schedule_by run limit words.Stall list line e h = refl
schedule_by run limit words.Client list line e h = refl
schedule_by run limit words.Txn list line e h = refl
schedule_by run limit (words.Read kind) list line e h = refl
schedule_by run limit (words.Write kind) list line e h = refl
schedule_by run limit words.Operator list line e h = refl
schedule_by run limit (words.Command kind) list line e h = refl
schedule_by run limit (words.Event kind) list line e h = refl

-- ---- one line

-- a line that says the item makes this of what the lines before it say
abbrev pub Takes : Bool → ℕ → Sofar → Item → Sofar → Type 0
Takes run limit s item next =
    (k : Keyword) (list : List Bytes) → said limit k list ≡ Ok item.0 → spells k list item.1 ≡ true → with_keyword run s k list ≡ Ok next

taken : (run : Bool) (s next : Sofar) (k : Keyword) (list : List Bytes) (line : Line) → stands s.part k ≡ true → is_next s k list ≡ true → not (is_scheduled run k) ≡ true → said (limit_in s) k list ≡ Ok line → with_line s line ≡ Ok next → with_keyword run s k list ≡ Ok next
taken run s next k list line st nx sc e h =
    where_true why.Place (stands s.part k && is_next s k list) _ next (and_from (stands s.part k) (is_next s k list) st nx)
    (where_true why.Schedule (not (is_scheduled run k)) _ next sc
    (ap (λ (r : Read Line). r >>= with_line s) e ∙ h))

pub takes : (run : Bool) (limit : ℕ) (s next : Sofar) (line : Line) (n : ℕ) → limit_in s ≡ limit → placed s.part line ≡ true → IsNumbered (clients_in s) line n → (is_schedule_line line && run) ≡ false → with_line s line ≡ Ok next → Takes run limit s (line, n) next
takes run limit s next line n at p i sch h = λ k list e sp.
    taken run s next k list line (stands_by s.part limit k list line e p) (next_by s limit k list line n e sp i) (schedule_by run limit k list line e sch)
    (subst (λ (l : ℕ). said l k list ≡ Ok line) (sym at) e) h

-- a setting's line, whatever the limit on keys is
pub takes_setting : (run : Bool) (limit : ℕ) (s next : Sofar) (setting : Setting) → in_settings s.part ≡ true → with_line s (lines.Setting setting) ≡ Ok next → Takes run limit s (lines.Setting setting, 0) next
takes_setting run limit s next setting p h = λ k list e sp.
    taken run s next k list (lines.Setting setting) (stands_by s.part limit k list (lines.Setting setting) e p) (next_by s limit k list (lines.Setting setting) 0 e sp tt) (schedule_by run limit k list (lines.Setting setting) e refl)
    (limit_free limit (limit_in s) k list setting e) h

-- ---- lines one after the other

-- lines that say the items are taken, and what they make is so
abbrev pub Plays : Bool → ℕ → (Sofar → Type 0) → Sofar → List Item → Type 0
Plays run limit P s [] = P s
Plays run limit P s (item ∷ items) = (next : Sofar) × Takes run limit s item next × Plays run limit P next items

pub plays_then : (run : Bool) (limit : ℕ) (P Q : Sofar → Type 0) (s : Sofar) (front back : List Item) → Plays run limit P s front → ((t : Sofar) → P t → Plays run limit Q t back) → Plays run limit Q s (front ++ back)
plays_then run limit P Q s [] back h k = k s h
plays_then run limit P Q s (item ∷ front) back h k = (h.0, h.1, plays_then run limit P Q h.0 front back h.2 k)

pub plays_as : (run : Bool) (limit : ℕ) (P Q : Sofar → Type 0) (s : Sofar) (items : List Item) → Plays run limit P s items → ((t : Sofar) → P t → Q t) → Plays run limit Q s items
plays_as run limit P Q s [] h k = k s h
plays_as run limit P Q s (item ∷ items) h k = (h.0, h.1, plays_as run limit P Q h.0 items h.2 k)

-- what the words of a line that says something make of it
abbrev with_said : Bool → Sofar → List Bytes → Read Sofar
with_said run s [] = Ok s
with_said run s (word ∷ list) = found_or (Refused why.Word) (keyword_of word) >>= λ k. with_keyword run s k list

-- and those of lines, one after the other
abbrev pub with_all : Bool → Sofar → List (List Bytes) → Read Sofar
with_all run s [] = Ok s
with_all run s (list ∷ rest) = with_said run s list >>= λ next. with_all run next rest

pub plays_all : (run : Bool) (limit : ℕ) (P : Sofar → Type 0) (s : Sofar) (ws : List (List Bytes)) (items : List Item) → Plays run limit P s items → AreSaid limit ws items → (end : Sofar) × (with_all run s ws ≡ Ok end) × P end
plays_all run limit P s [] [] h k = (s, refl, h)
plays_all run limit P s [] (item ∷ items) h k = absurd k
plays_all run limit P s (w ∷ ws) [] h k = absurd k
plays_all run limit P s ([] ∷ ws) (item ∷ items) h k = absurd k.0
plays_all run limit P s ((word ∷ list) ∷ ws) (item ∷ items) h k =
    let one = k.0 in
    let more = plays_all run limit P h.0 ws items h.2 k.1 in (
      more.0,
      ap (λ (o : Option Keyword). (found_or (Refused why.Word) o >>= λ key. with_keyword run s key list) >>= λ next. with_all run next ws) one.1
          ∙ ap (λ (r : Read Sofar). r >>= λ next. with_all run next ws) (h.1 one.0 list one.2 one.3) ∙ more.1,
      more.2,
    )

-- ---- all lines

ok_same : (x y : Sofar) → ◌≡◌ {A = Read Sofar} (Ok x) (Ok y) → x ≡ y
ok_same x y e = cc

-- the lines that say nothing may stand between those that say something
pub lines_so : (run : Bool) (number : ℕ) (s end : Sofar) (list : List Bytes) → list_all (λ line. list_all is_text_byte line) list ≡ true → with_all run s (speaking list) ≡ Ok end → with_lines run number s list ≡ Ok end
lines_so run number s end [] b h = ap (λ (x : Sofar). Ok x) (ok_same s end h)
lines_so run number s end (line ∷ rest) b h =
    let p = and_parts (list_all is_text_byte line) (list_all (λ l. list_all is_text_byte l) rest) b in
    ap (λ (t : Bool). numbered number (where_so why.Byte t (with_words run s (words_of line))) >>= λ next. with_lines run (number + 1) next rest) p.0
    ∙ go (words_of line) h (λ next e. lines_so run (number + 1) next end rest p.1 e)
  where
    on_said : (r : Read Sofar) → (r >>= λ next. with_all run next (speaking rest)) ≡ Ok end → ((next : Sofar) → with_all run next (speaking rest) ≡ Ok end → with_lines run (number + 1) next rest ≡ Ok end) → (numbered number r >>= λ next. with_lines run (number + 1) next rest) ≡ Ok end
    on_said (Ok next) e k = k next e
    on_said (Err fault) e k = cc

    go : (ws : List Bytes) → with_all run s (if says_something ws then ws ∷ speaking rest else speaking rest) ≡ Ok end → ((next : Sofar) → with_all run next (speaking rest) ≡ Ok end → with_lines run (number + 1) next rest ≡ Ok end) → (numbered number (with_words run s ws) >>= λ next. with_lines run (number + 1) next rest) ≡ Ok end
    go [] e k = k s e
    go (word ∷ list) e k = by (is_comment word) e
      where
        by : (c : Bool) → with_all run s (if not c then (word ∷ list) ∷ speaking rest else speaking rest) ≡ Ok end → (numbered number (if c then Ok s else with_said run s (word ∷ list)) >>= λ next. with_lines run (number + 1) next rest) ≡ Ok end
        by true f = k s f
        by false f = on_said (with_said run s (word ∷ list)) f k
