-- Files and texts, one after the other.
use Rattle.std.proofs.Common.{◌≡◌, ℕ, ◌+◌, ◌<◌, ◌≤◌, Bool, true, false, cond, List, [], ◌∷◌, ◌++◌, length, get_or, drop, take, map, rules, Vec, Global, Option, Some, None, min, max, refl, sym, ap, ◌∙◌, append_assoc, arith}
use Rattle.std.proofs.lemmas.Bool.{cond-true, cond-false}
use Rattle.std.proofs.lemmas.List.{append-nil, drop_more, drop_all, take_all}
use Rattle.serde_json.specs.Data.{Data, null, boolean, number, string, array, object, Items, item, no_items, items_depth}
use Rattle.serde_json.specs.Find.{as_str}
use Rattle.serde_json.specs.View.{view, items_of, items_view}
use Rattle.serde_json.specs.declared.value.Value.{Value, the_lemmas}
use Rattle.serde_json.specs.declared.value.Value.TheVariants as values
use Rattle.serde_json.specs.Written.{items_have_float}
use Rattle.fb_bytes.specs.Bytes.{Bytes}
use Rattle.manifests.specs.Files.{version_of, fits, AreRangeNames, widest, alone, span_of}
use Rattle.manifests.specs.Grammar.{texts}
use Rattle.manifests.specs.Reading.{with_text, texts_of, misplaced}

-- ---- order

misplaced_go : (b : Bool) (o : Option ℕ) (at : ℕ) → cond b o (Some at) ≡ None → (b ≡ true) × (o ≡ None)
misplaced_go true o at e = (refl, e)
misplaced_go false o at e = absurd cc

pub misplaced_none : (last : Option Bytes) (at : ℕ) (files : List Bytes) → misplaced last at files ≡ None → AreRangeNames last files
misplaced_none last at [] e = tt
misplaced_none last at (file ∷ files) e =
    let g = misplaced_go (fits last file) (misplaced (Some file) (at + 1) files) at e in
    (g.0, misplaced_none (Some file) (at + 1) files g.1)

pub misplaced_again : (last : Option Bytes) (at : ℕ) (files : List Bytes) → AreRangeNames last files → misplaced last at files ≡ None
misplaced_again last at [] h = refl
misplaced_again last at (file ∷ files) h = cond-true (fits last file) (misplaced (Some file) (at + 1) files) (Some at) h.0 ∙ misplaced_again (Some file) (at + 1) files h.1

pub misplaced_goes_on : (last : Option Bytes) (at i : ℕ) (files : List Bytes) (file : Bytes) (total : Option ℕ) → i < length files → file ≡ get_or files i file → misplaced last at (drop i files) ≡ total → fits last file ≡ true → misplaced (Some file) (at + 1) (drop (i + 1) files) ≡ total
misplaced_goes_on last at i files file total lt is e fit =
    sym (cond-true (fits last file) (misplaced (Some file) (at + 1) (drop (i + 1) files)) (Some at) fit)
    ∙ ap (λ (f : Bytes). cond (fits last f) (misplaced (Some f) (at + 1) (drop (i + 1) files)) (Some at)) is
    ∙ sym (ap (misplaced last at) (drop_more files i file lt)) ∙ e

pub misplaced_here : (last : Option Bytes) (at i : ℕ) (files : List Bytes) (file : Bytes) (total : Option ℕ) → i < length files → file ≡ get_or files i file → misplaced last at (drop i files) ≡ total → fits last file ≡ false → total ≡ Some at
misplaced_here last at i files file total lt is e misfit =
    sym e ∙ ap (misplaced last at) (drop_more files i file lt)
    ∙ sym (ap (λ (f : Bytes). cond (fits last f) (misplaced (Some f) (at + 1) (drop (i + 1) files)) (Some at)) is)
    ∙ cond-false (fits last file) (misplaced (Some file) (at + 1) (drop (i + 1) files)) (Some at) misfit

-- ---- spans

widest_nested : (a b c : Option (ℕ × ℕ)) → widest (widest a b) c ≡ widest a (widest b c)
widest_nested None b c = refl
widest_nested (Some a) None c = refl
widest_nested (Some a) (Some b) None = refl
widest_nested (Some a) (Some b) (Some c) =
    let low : min (min a.0 b.0) c.0 ≡ min a.0 (min b.0 c.0) = omega arith in
    let high : max (max a.1 b.1) c.1 ≡ max a.1 (max b.1 c.1) = omega arith in
    ap (λ (n : ℕ). Some (n, max (max a.1 b.1) c.1)) low ∙ ap (λ (n : ℕ). Some (min a.0 (min b.0 c.0), n)) high

widest_none : (a : Option (ℕ × ℕ)) → widest a None ≡ a
widest_none None = refl
widest_none (Some a) = refl

pub span_goes_on : (span : Option (ℕ × ℕ)) (i : ℕ) (files : List Bytes) (file : Bytes) (total : Option (ℕ × ℕ)) → i < length files → file ≡ get_or files i file → widest span (span_of (drop i files)) ≡ total → widest (widest span (alone (version_of file))) (span_of (drop (i + 1) files)) ≡ total
span_goes_on span i files file total lt is e =
    widest_nested span (alone (version_of file)) (span_of (drop (i + 1) files))
    ∙ ap (λ (f : Bytes). widest span (widest (alone (version_of f)) (span_of (drop (i + 1) files)))) is
    ∙ sym (ap (λ (fs : List Bytes). widest span (span_of fs)) (drop_more files i file lt)) ∙ e

pub span_ends : (span : Option (ℕ × ℕ)) (i : ℕ) (files : List Bytes) (total : Option (ℕ × ℕ)) → length files ≤ i → widest span (span_of (drop i files)) ≡ total → span ≡ total
span_ends span i files total le e = sym (widest_none span) ∙ sym (ap (λ (fs : List Bytes). widest span (span_of fs)) (drop_all i files le)) ∙ e

-- ---- texts

abbrev pub behind : List Bytes → Option (List Bytes) → Option (List Bytes)
behind front None = None
behind front (Some more) = Some (front ++ more)

pub texts_begin : (more : Option (List Bytes)) → behind [] more ≡ more
texts_begin None = refl
texts_begin (Some more) = refl

behind_text : (front : List Bytes) (text : Bytes) (more : Option (List Bytes)) → behind front (with_text (Some text) more) ≡ behind (front ++ text ∷ []) more
behind_text front text None = refl
behind_text front text (Some more) = ap (λ (ts : List Bytes). Some ts) (sym (append_assoc front (text ∷ []) more))

step_is : (items : List Value) (i : ℕ) (value : Value) → i < length items → value ≡ get_or items i value → texts_of (items_view (drop i items)) ≡ with_text (as_str (view value)) (texts_of (items_view (drop (i + 1) items)))
step_is items i value lt is = ap (λ (vs : List Value). texts_of (items_view vs)) (drop_more items i value lt) ∙ sym (ap (λ (v : Value). with_text (as_str (view v)) (texts_of (items_view (drop (i + 1) items)))) is)

pub texts_go_on : (front : List Bytes) (items : List Value) (i : ℕ) (value : Value) (text : Bytes) (total : Option (List Bytes)) → i < length items → value ≡ get_or items i value → as_str (view value) ≡ Some text → behind front (texts_of (items_view (drop i items))) ≡ total → behind (front ++ text ∷ []) (texts_of (items_view (drop (i + 1) items))) ≡ total
texts_go_on front items i value text total lt is str e =
    let more = texts_of (items_view (drop (i + 1) items)) in
    sym (behind_text front text more) ∙ sym (ap (λ (o : Option Bytes). behind front (with_text o more)) str) ∙ sym (ap (behind front) (step_is items i value lt is)) ∙ e

pub texts_fail : (front : List Bytes) (items : List Value) (i : ℕ) (value : Value) (total : Option (List Bytes)) → i < length items → value ≡ get_or items i value → as_str (view value) ≡ None → behind front (texts_of (items_view (drop i items))) ≡ total → total ≡ None
texts_fail front items i value total lt is str e =
    let more = texts_of (items_view (drop (i + 1) items)) in
    sym e ∙ ap (behind front) (step_is items i value lt is) ∙ ap (λ (o : Option Bytes). behind front (with_text o more)) str

pub texts_end : (front : List Bytes) (items : List Value) (i : ℕ) (total : Option (List Bytes)) → length items ≤ i → behind front (texts_of (items_view (drop i items))) ≡ total → total ≡ Some front
texts_end front items i total le e = sym e ∙ ap (λ (vs : List Value). behind front (texts_of (items_view vs))) (drop_all i items le) ∙ ap (λ (ts : List Bytes). Some ts) (append-nil front)

with_text_go : (o : Option Bytes) (more : Option (List Bytes)) (ts : List Bytes) → with_text o more ≡ Some ts → (text : Bytes) × (rest : List Bytes) × (o ≡ Some text) × (more ≡ Some rest) × (text ∷ rest ≡ ts)
with_text_go None more ts e = absurd cc
with_text_go (Some text) None ts e = absurd cc
with_text_go (Some text) (Some rest) ts e = (text, rest, refl, refl, cc)

str_is : (value : Data) (text : Bytes) → as_str value ≡ Some text → value ≡ string text
str_is null text e = absurd cc
str_is (boolean b) text e = absurd cc
str_is (number n) text e = absurd cc
str_is (string s) text e = let is : s ≡ text = cc in ap string is
str_is (array items) text e = absurd cc
str_is (object ms) text e = absurd cc

pub texts_found : (items : Items) (ts : List Bytes) → texts_of items ≡ Some ts → items ≡ texts ts
texts_found no_items ts e = let is : [] ≡ ts = cc in ap texts is
texts_found (item value items) ts e =
    let g = with_text_go (as_str value) (texts_of items) ts e in
    ap (λ (v : Data). item v items) (str_is value g.0 g.2) ∙ ap (item (string g.0)) (texts_found items g.1 g.3) ∙ ap texts g.4

pub texts_again : (ts : List Bytes) → texts_of (texts ts) ≡ Some ts
texts_again [] = refl
texts_again (text ∷ ts) = ap (with_text (Some text)) (texts_again ts)

pub items_are : (names : List Bytes) → items_of (map string names) ≡ texts names
items_are [] = refl
items_are (name ∷ names) = ap (item (string name)) (items_are names)

-- ---- what is written

pub array_view : (v : Vec Value Global) → view (values.Array v) ≡ array (items_of (map view v.items))
array_view v = search (rules, the_lemmas)

pub array_is : (v : Vec Value Global) (names : List Bytes) (i : ℕ) → map view v.items ≡ map string (take i names) → length names ≤ i → view (values.Array v) ≡ array (texts names)
array_is v names i e le = array_view v ∙ ap (λ (ds : List Data). array (items_of ds)) (e ∙ ap (map string) (take_all i names le)) ∙ ap array (items_are names)

pub texts_float : (ts : List Bytes) → items_have_float (texts ts) ≡ false
texts_float [] = refl
texts_float (t ∷ ts) = texts_float ts

pub texts_depth : (ts : List Bytes) → items_depth (texts ts) ≡ 0
texts_depth [] = refl
texts_depth (t ∷ ts) = ap (max 0) (texts_depth ts)
