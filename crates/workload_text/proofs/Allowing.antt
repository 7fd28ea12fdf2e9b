-- Settings within their limits, and what they set.
use Rattle.std.proofs.Common.{◌≡◌, ◌∙◌, ℕ, ◌<◌, ◌≤◌, Bool, true, false, not, ◌&&◌, ◌||◌, List, [], ◌∷◌, ◌++◌, map, Some, refl, sym, ap, subst, arith, nat_le, nat_eq, append-nil, true≢false}
use Rattle.std.specs.List.{list_all, list_any}
use Rattle.std.proofs.lemmas.Bool.{and_parts, and_from, leb-true, le-leb}
use Rattle.std.proofs.lemmas.Grind.{common_steps}
use Rattle.std.proofs.lemmas.List.Folds.{list_all-append}
use Rattle.fb_bytes.specs.Bytes.{is_same}
use Rattle.fb_bytes.specs.Limits.{most_number}
use Rattle.fb_bytes.proofs.Order.{same_eq}
use Rattle.workload_text.specs.declared.agent_death.AgentDeath.{AgentDeath}
use Rattle.workload_text.specs.declared.agent_stall.AgentStall.{AgentStall}
use Rattle.workload_text.specs.declared.setting.Setting.{Setting}
use Rattle.workload_text.specs.declared.setting.Setting.TheVariants.{Number, Death, Stall}
use Rattle.workload_text.specs.declared.setting.SettingKind.{SettingKind}
use Rattle.workload_text.specs.declared.setting.SettingKind.TheVariants as kinds
use Rattle.workload_text.specs.Allowed.{is_death, is_stall, each_once, are_deaths, are_stalls}
use Rattle.workload_text.specs.Settings.{setting_word, setting_of_word, is_same_kind, is_allowed, is_up_to, default_of, number_for, deaths_in, stalls_in, comes_in, has_agent}
use Rattle.workload_text.specs.inner.Ready.{is_small, AreReady}
use Rattle.workload_text.proofs.Jobs.{by_cases}

or_parts : (a b : Bool) → (a || b) ≡ false → (a ≡ false) × (b ≡ false)
or_parts true b h = absurd (true≢false h)
or_parts false b h = (refl, h)

or_none : (a b : Bool) → a ≡ false → b ≡ false → (a || b) ≡ false
or_none true b h k = h
or_none false b h k = k

pub not_back : (b : Bool) → not b ≡ true → b ≡ false
not_back true h = sym h
not_back false h = refl

-- an item more at the end of a list of which each passes
pub all_more : {A : Type 0} (p : A → Bool) (xs : List A) (x : A) → list_all p xs ≡ true → p x ≡ true → list_all p (xs ++ x ∷ []) ≡ true
all_more p xs x h k =
    rw (list_all-append p xs (x ∷ [])) (and_from (list_all p xs) (p x && true) h (and_from (p x) true k refl))

-- ---- numbers

word_back : (kind : SettingKind) → setting_of_word (setting_word kind) ≡ Some kind
unfolding is_same
word_back kinds.Block = refl
word_back kinds.Pace = refl
word_back kinds.Lease = refl
word_back kinds.Rest = refl
word_back kinds.Shard = refl
word_back kinds.Span = refl
word_back kinds.Tries = refl
word_back kinds.Agents = refl
word_back kinds.Steps = refl

some_same : {A : Type 0} (a b : A) → Some a ≡ Some b → a ≡ b
some_same a b e = cc

same_kind : (a b : SettingKind) → is_same_kind a b ≡ true → a ≡ b
same_kind a b h = some_same a b (sym (word_back a) ∙ ap setting_of_word (same_eq (setting_word a) (setting_word b) h) ∙ word_back b)

default_allowed : (kind : SettingKind) → is_allowed kind (default_of kind) ≡ true
default_allowed kinds.Block = refl
default_allowed kinds.Pace = refl
default_allowed kinds.Lease = refl
default_allowed kinds.Rest = refl
default_allowed kinds.Shard = refl
default_allowed kinds.Span = refl
default_allowed kinds.Tries = refl
default_allowed kinds.Agents = refl
default_allowed kinds.Steps = refl

-- a number that is set may be set, and so may the default
pub number_allowed : (kind : SettingKind) (settings : List Setting) → list_all is_small settings ≡ true → is_allowed kind (number_for kind settings) ≡ true
number_allowed kind [] h = default_allowed kind
number_allowed kind (Number other n ∷ settings) h =
    let parts = and_parts (is_allowed other n) (list_all is_small settings) h in
    let rest : is_allowed kind (number_for kind settings) ≡ true = number_allowed kind settings parts.1 in
    by_cases {P = is_allowed kind (number_for kind (Number other n ∷ settings)) ≡ true} (is_same_kind kind other)
    (λ same. rw same (subst (λ (k : SettingKind). is_allowed k n ≡ true) (sym (same_kind kind other same)) parts.0))
    (λ not_same. rw not_same rest)
number_allowed kind (Death agent turn ∷ settings) h =
    let parts = and_parts (is_small (Death agent turn)) (list_all is_small settings) h in number_allowed kind settings parts.1
number_allowed kind (Stall agent turn turns ∷ settings) h =
    let parts = and_parts (is_small (Stall agent turn turns)) (list_all is_small settings) h in number_allowed kind settings parts.1

up_to : (most n : ℕ) → is_up_to most n ≡ true → n ≤ most
up_to most n h = let p = and_parts (nat_le 1 n) (nat_le n most) h in leb-true n most p.1

pub few_agents : (settings : List Setting) → list_all is_small settings ≡ true → number_for kinds.Agents settings ≤ 64
few_agents settings h = up_to 64 (number_for kinds.Agents settings) (number_allowed kinds.Agents settings h)

pub few_tries : (settings : List Setting) → list_all is_small settings ≡ true → number_for kinds.Tries settings ≤ 1000
few_tries settings h = up_to 1000 (number_for kinds.Tries settings) (number_allowed kinds.Tries settings h)

-- ---- deaths and stalls

all_deaths : (settings : List Setting) → list_all is_small settings ≡ true → list_all is_death (deaths_in settings) ≡ true
all_deaths [] h = refl
all_deaths (Number kind n ∷ settings) h = let p = and_parts (is_small (Number kind n)) (list_all is_small settings) h in all_deaths settings p.1
all_deaths (Stall agent turn turns ∷ settings) h = let p = and_parts (is_small (Stall agent turn turns)) (list_all is_small settings) h in all_deaths settings p.1
all_deaths (Death agent turn ∷ settings) h =
    let p = and_parts (is_small (Death agent turn)) (list_all is_small settings) h in
    and_from (is_death (record { agent = agent; turn = turn })) (list_all is_death (deaths_in settings)) p.0 (all_deaths settings p.1)

all_stalls : (settings : List Setting) → list_all is_small settings ≡ true → list_all is_stall (stalls_in settings) ≡ true
all_stalls [] h = refl
all_stalls (Number kind n ∷ settings) h = let p = and_parts (is_small (Number kind n)) (list_all is_small settings) h in all_stalls settings p.1
all_stalls (Death agent turn ∷ settings) h = let p = and_parts (is_small (Death agent turn)) (list_all is_small settings) h in all_stalls settings p.1
all_stalls (Stall agent turn turns ∷ settings) h =
    let p = and_parts (is_small (Stall agent turn turns)) (list_all is_small settings) h in
    and_from (is_stall (record { agent = agent; turn = turn; turns = turns })) (list_all is_stall (stalls_in settings)) p.0 (all_stalls settings p.1)

pub deaths_allowed : (settings : List Setting) → AreReady settings → are_deaths (deaths_in settings) ≡ true
deaths_allowed settings r = and_from (list_all is_death (deaths_in settings)) (each_once (map (λ (d : AgentDeath). d.agent) (deaths_in settings))) (all_deaths settings r.small) r.deaths_once

pub stalls_allowed : (settings : List Setting) → AreReady settings → are_stalls (stalls_in settings) ≡ true
stalls_allowed settings r = and_from (list_all is_stall (stalls_in settings)) (each_once (map (λ (s : AgentStall). s.agent) (stalls_in settings))) (all_stalls settings r.small) r.stalls_once

-- a block that may be set is small
pub small_block : (settings : List Setting) → list_all is_small settings ≡ true → number_for kinds.Block settings < 2097152
small_block settings h = block_small (number_for kinds.Block settings) (number_allowed kinds.Block settings h)
  where
    block_small : (n : ℕ) → is_allowed kinds.Block n ≡ true → n < 2097152
    block_small n h = grind (arith, common_steps)

-- ---- one setting more

-- a setting is within its limits, but for its agent
abbrev pub sound_setting : Setting → Bool
sound_setting (Number kind n) = is_allowed kind n
sound_setting (Death agent turn) = is_up_to most_number turn
sound_setting (Stall agent turn turns) = is_up_to most_number turn && nat_le turns 1000000

agent_fits : (settings : List Setting) (agent : ℕ) → list_all is_small settings ≡ true → nat_le agent (number_for kinds.Agents settings) ≡ true → nat_le agent 64 ≡ true
agent_fits settings agent h there =
    let few = few_agents settings h in
    let at = leb-true agent (number_for kinds.Agents settings) there in
    le-leb agent 64 (omega (arith, few, at))

small_one : (settings : List Setting) (setting : Setting) → list_all is_small settings ≡ true → sound_setting setting ≡ true → has_agent settings setting ≡ true → is_small setting ≡ true
small_one settings (Number kind n) h sound there = sound
small_one settings (Death agent turn) h sound there = and_from (nat_le agent 64) (is_up_to most_number turn) (agent_fits settings agent h there) sound
small_one settings (Stall agent turn turns) h sound there =
    let p = and_parts (is_up_to most_number turn) (nat_le turns 1000000) sound in
    and_from (nat_le agent 64 && is_up_to most_number turn) (nat_le turns 1000000) (and_from (nat_le agent 64) (is_up_to most_number turn) (agent_fits settings agent h there) p.0) p.1

none_more : (m n : ℕ) (ns : List ℕ) → list_any (nat_eq m) ns ≡ false → nat_eq m n ≡ false → list_any (nat_eq m) (ns ++ n ∷ []) ≡ false
none_more m n [] h e = rw e refl
none_more m n (k ∷ ns) h e =
    let p = or_parts (nat_eq m k) (list_any (nat_eq m) ns) h in
    or_none (nat_eq m k) (list_any (nat_eq m) (ns ++ n ∷ [])) p.0 (none_more m n ns p.1 e)

other_way : (m n : ℕ) → nat_eq m n ≡ false → nat_eq n m ≡ false
other_way m n h = grind (arith, common_steps)

once_more : (ns : List ℕ) (n : ℕ) → each_once ns ≡ true → list_any (nat_eq n) ns ≡ false → each_once (ns ++ n ∷ []) ≡ true
once_more [] n h e = refl
once_more (m ∷ ns) n h e =
    let p = and_parts (not (list_any (nat_eq m) ns)) (each_once ns) h in
    let q = or_parts (nat_eq n m) (list_any (nat_eq n) ns) e in
    let none : list_any (nat_eq m) (ns ++ n ∷ []) ≡ false = none_more m n ns (not_back (list_any (nat_eq m) ns) p.0) (other_way n m q.0) in
    and_from (not (list_any (nat_eq m) (ns ++ n ∷ []))) (each_once (ns ++ n ∷ [])) (ap not none) (once_more ns n p.1 q.1)

death_again : (agent turn : ℕ) (settings : List Setting) → comes_in (Death agent turn) settings ≡ list_any (nat_eq agent) (map (λ (d : AgentDeath). d.agent) (deaths_in settings))
death_again agent turn [] = refl
death_again agent turn (Number kind n ∷ settings) = death_again agent turn settings
death_again agent turn (Stall other t k ∷ settings) = death_again agent turn settings
death_again agent turn (Death other t ∷ settings) = ap (λ (b : Bool). nat_eq agent other || b) (death_again agent turn settings)

stall_again : (agent turn turns : ℕ) (settings : List Setting) → comes_in (Stall agent turn turns) settings ≡ list_any (nat_eq agent) (map (λ (s : AgentStall). s.agent) (stalls_in settings))
stall_again agent turn turns [] = refl
stall_again agent turn turns (Number kind n ∷ settings) = stall_again agent turn turns settings
stall_again agent turn turns (Death other t ∷ settings) = stall_again agent turn turns settings
stall_again agent turn turns (Stall other t k ∷ settings) = ap (λ (b : Bool). nat_eq agent other || b) (stall_again agent turn turns settings)

-- the agents of deaths, and of stalls
abbrev dying : List Setting → List ℕ
dying settings = map (λ (d : AgentDeath). d.agent) (deaths_in settings)

abbrev stalling : List Setting → List ℕ
stalling settings = map (λ (s : AgentStall). s.agent) (stalls_in settings)

dying_more : (settings : List Setting) (setting : Setting) → dying (settings ++ setting ∷ []) ≡ dying settings ++ dying (setting ∷ [])
dying_more [] setting = refl
dying_more (Number kind n ∷ settings) setting = dying_more settings setting
dying_more (Stall other t k ∷ settings) setting = dying_more settings setting
dying_more (Death other t ∷ settings) setting = ap (λ (ns : List ℕ). other ∷ ns) (dying_more settings setting)

stalling_more : (settings : List Setting) (setting : Setting) → stalling (settings ++ setting ∷ []) ≡ stalling settings ++ stalling (setting ∷ [])
stalling_more [] setting = refl
stalling_more (Number kind n ∷ settings) setting = stalling_more settings setting
stalling_more (Death other t ∷ settings) setting = stalling_more settings setting
stalling_more (Stall other t k ∷ settings) setting = ap (λ (ns : List ℕ). other ∷ ns) (stalling_more settings setting)

once_still : (ns : List ℕ) → each_once ns ≡ true → each_once (ns ++ []) ≡ true
once_still ns h = rw append-nil h

deaths_more : (settings : List Setting) (setting : Setting) → each_once (dying settings) ≡ true → comes_in setting settings ≡ false → each_once (dying settings ++ dying (setting ∷ [])) ≡ true
deaths_more settings (Number kind n) h e = once_still (dying settings) h
deaths_more settings (Stall agent turn turns) h e = once_still (dying settings) h
deaths_more settings (Death agent turn) h e = once_more (dying settings) agent h (sym (death_again agent turn settings) ∙ e)

stalls_more : (settings : List Setting) (setting : Setting) → each_once (stalling settings) ≡ true → comes_in setting settings ≡ false → each_once (stalling settings ++ stalling (setting ∷ [])) ≡ true
stalls_more settings (Number kind n) h e = once_still (stalling settings) h
stalls_more settings (Death agent turn) h e = once_still (stalling settings) h
stalls_more settings (Stall agent turn turns) h e = once_more (stalling settings) agent h (sym (stall_again agent turn turns settings) ∙ e)

pub settings_more : (settings : List Setting) (setting : Setting) → AreReady settings → sound_setting setting ≡ true → has_agent settings setting ≡ true → comes_in setting settings ≡ false → AreReady (settings ++ setting ∷ [])
settings_more settings setting r sound there fresh = record {
  small = all_more is_small settings setting r.small (small_one settings setting r.small sound there);
  deaths_once = subst (λ (ns : List ℕ). each_once ns ≡ true) (sym (dying_more settings setting)) (deaths_more settings setting r.deaths_once fresh);
  stalls_once = subst (λ (ns : List ℕ). each_once ns ≡ true) (sym (stalling_more settings setting)) (stalls_more settings setting r.stalls_once fresh);
}
