-- What is read is a task's tuple, and a task's tuple is read again.
use Rattle.std.proofs.Common.{◌≡◌, ℕ, ◌^◌, ◌<◌, ◌≤◌, Bool, true, false, cond, ltb, leb, eqb, List, [], ◌∷◌, Option, Some, None, Result, Ok, Err, refl, sym, ap, subst, ◌∙◌, inl, inr, ◌⊎◌, ℤ, pos, negsuc}
use Rattle.std.specs.Prelude.{IfOk, IfErr}
use Rattle.std.proofs.lemmas.Bool.{ltb-true, lt-ltb, leb-true, le-leb, eqb-true}
use Rattle.fb_bytes.specs.Options.{◌>>=◌}
use Rattle.fb_bytes.specs.Results.{found_or}
use Rattle.fb_bytes.proofs.Options.{bind_some}
use Rattle.fb_bytes.specs.declared.key_range.KeyRange.{KeyRange}
use Rattle.tuple_keys.specs.declared.element.Element.{Element}
use Rattle.tuple_keys.specs.declared.element.Element.TheVariants.{Null, Bytes, Text, Int}
use Rattle.task_kinds.specs.declared.kind.Kind.{Kind}
use Rattle.task_kinds.specs.declared.kind.Kind.TheVariants.{BackupStart, BackupDispatch, BackupRange, BackupManifest, BackupLogs, BackupLog, BackupErase, BackupFinish, RestoreStart, RestoreDispatch, RestoreRange, RestoreLog, RestoreApply, RestoreComplete, DrStart, DrCopy, DrLogs, DrLog, DrApply, DrErase, DrFinish}
use Rattle.task_kinds.specs.declared.kind.Shape.{Shape}
use Rattle.task_kinds.specs.declared.kind.Shape.TheVariants as shapes
use Rattle.task_kinds.specs.declared.params.Params.{Params}
use Rattle.task_kinds.specs.declared.params.Params.TheVariants.{Nothing, Piece, Snapshot, Span, File, Range}
use Rattle.task_kinds.specs.declared.fault.KindFault.{KindFault}
use Rattle.task_kinds.specs.declared.fault.KindFault.TheVariants as faults
use Rattle.task_kinds.specs.Kinds.{code_of, shape_of, kinds, first_with, kind_with}
use Rattle.task_kinds.specs.Params.{shape_in, AreSmall}
use Rattle.task_kinds.specs.Tasks.{SeenTask, IsTask}
use Rattle.task_kinds.specs.Tuples.{number, elements_of, tuple_of, number_at, bytes_at, ended, range_in, waiter_at, piece_at, snapshot_at, span_at, file_at, range_at, params_at, job_at, rest_of, task_with, kind_of, task_of}

-- ---- options

some_is : {A : Type 0} (x y : A) → Some x ≡ Some y → x ≡ y
some_is x y e = cc

when_some : {A : Type 0} (b : Bool) (x y : A) → cond {A = Option A} b (Some x) None ≡ Some y → (b ≡ true) × (x ≡ y)
when_some true x y e = (refl, some_is x y e)
when_some false x y e = absurd cc

ended_some : {A : Type 0} (es : List Element) (x y : A) → ended es x ≡ Some y → (es ≡ []) × (x ≡ y)
ended_some [] x y e = (refl, some_is x y e)
ended_some (d ∷ es) x y e = absurd cc

-- ---- fields

abbrev TakesNumber : List Element → ℕ × List Element → Type 0
TakesNumber es x = (es ≡ number x.0 ∷ x.1) × (x.0 < 2 ^ 63)

number_takes : (es : List Element) (x : ℕ × List Element) → number_at es ≡ Some x → TakesNumber es x
number_takes [] x e = absurd cc
number_takes (Null ∷ es) x e = absurd cc
number_takes (Bytes b ∷ es) x e = absurd cc
number_takes (Text t ∷ es) x e = absurd cc
number_takes (Int (negsuc n) ∷ es) x e = absurd cc
number_takes (Int (pos n) ∷ es) x e =
    let w = when_some (ltb n (2 ^ 63)) (n, es) x e in
    subst (TakesNumber (Int (pos n) ∷ es)) w.1 (refl, ltb-true _ _ w.0)

number_again : (n : ℕ) (es : List Element) → n < 2 ^ 63 → number_at (number n ∷ es) ≡ Some (n, es)
number_again n es lt = rw (lt-ltb n (2 ^ 63) lt) refl

abbrev TakesBytes : List Element → List ℕ × List Element → Type 0
TakesBytes es x = es ≡ Bytes x.0 ∷ x.1

bytes_takes : (es : List Element) (x : List ℕ × List Element) → bytes_at es ≡ Some x → TakesBytes es x
bytes_takes [] x e = absurd cc
bytes_takes (Null ∷ es) x e = absurd cc
bytes_takes (Bytes b ∷ es) x e = subst (TakesBytes (Bytes b ∷ es)) (some_is (b, es) x e) refl
bytes_takes (Text t ∷ es) x e = absurd cc
bytes_takes (Int n ∷ es) x e = absurd cc

abbrev TakesRange : List Element → KeyRange × List Element → Type 0
TakesRange es x = es ≡ Bytes x.0.begin ∷ Bytes x.0.end ∷ x.1

range_takes : (es : List Element) (x : KeyRange × List Element) → range_in es ≡ Some x → TakesRange es x
range_takes es x e =
    let b = bind_some (bytes_at es) (λ begin. bytes_at begin.1 >>= λ end. Some (record { begin = begin.0; end = end.0 }, end.1)) x e in
    let d = bind_some (bytes_at b.0.1) (λ end. Some (record { begin = b.0.0; end = end.0 }, end.1)) x b.2 in
    let made : KeyRange × List Element = (record { begin = b.0.0; end = d.0.0 }, d.0.1) in
    subst (TakesRange es) (some_is made x d.2) (bytes_takes es b.0 b.1 ∙ ap (λ (r : List Element). Bytes b.0.0 ∷ r) (bytes_takes b.0.1 d.0 d.1))

abbrev TakesWaiter : List Element → ℕ × ℕ → Type 0
TakesWaiter es w = (es ≡ number w.0 ∷ number w.1 ∷ []) × (w.0 < 2 ^ 63) × (w.1 < 2 ^ 63)

waiter_takes : (es : List Element) (w : ℕ × ℕ) → waiter_at es ≡ Some w → TakesWaiter es w
waiter_takes es w e =
    let f = bind_some (number_at es) (λ future. number_at future.1 >>= λ block. ended block.1 (future.0, block.0)) w e in
    let b = bind_some (number_at f.0.1) (λ block. ended block.1 (f.0.0, block.0)) w f.2 in
    let n = ended_some b.0.1 (f.0.0, b.0.0) w b.2 in
    let tf = number_takes es f.0 f.1 in
    let tb = number_takes f.0.1 b.0 b.1 in
    subst (TakesWaiter es) n.1 (tf.0 ∙ ap (λ (r : List Element). number f.0.0 ∷ r) (tb.0 ∙ ap (λ (r : List Element). number b.0.0 ∷ r) n.0), tf.1, tb.1)

waiter_again : (f b : ℕ) → f < 2 ^ 63 → b < 2 ^ 63 → waiter_at (number f ∷ number b ∷ []) ≡ Some (f, b)
waiter_again f b lf lb = rw (number_again f (number b ∷ []) lf, number_again b [] lb) refl

-- ---- parameters

-- what a shape of parameters is read from
abbrev TakesParams : Shape → List Element → Params → Type 0
TakesParams shape es p = (es ≡ elements_of p) × (shape_in p ≡ shape) × AreSmall p

piece_takes : (es : List Element) (p : Params) → piece_at es ≡ Some p → TakesParams shapes.Piece es p
piece_takes es p e =
    let s = bind_some (number_at es) (λ snapshot. range_in snapshot.1 >>= λ range. waiter_at range.1 >>= λ w. Some (Piece snapshot.0 range.0 w.0 w.1)) p e in
    let r = bind_some (range_in s.0.1) (λ range. waiter_at range.1 >>= λ w. Some (Piece s.0.0 range.0 w.0 w.1)) p s.2 in
    let w = bind_some (waiter_at r.0.1) (λ w. Some (Piece s.0.0 r.0.0 w.0 w.1)) p r.2 in
    let ts = number_takes es s.0 s.1 in
    let tr = range_takes s.0.1 r.0 r.1 in
    let tw = waiter_takes r.0.1 w.0 w.1 in
    subst (TakesParams shapes.Piece es) (some_is (Piece s.0.0 r.0.0 w.0.0 w.0.1) p w.2)
    (ts.0 ∙ ap (λ (l : List Element). number s.0.0 ∷ l) (tr ∙ ap (λ (l : List Element). Bytes r.0.0.begin ∷ Bytes r.0.0.end ∷ l) tw.0), refl, (ts.1, tw.1, tw.2))

snapshot_takes : (es : List Element) (p : Params) → snapshot_at es ≡ Some p → TakesParams shapes.Snapshot es p
snapshot_takes es p e =
    let s = bind_some (number_at es) (λ snapshot. ended snapshot.1 (Snapshot snapshot.0)) p e in
    let n = ended_some s.0.1 (Snapshot s.0.0) p s.2 in
    let ts = number_takes es s.0 s.1 in
    subst (TakesParams shapes.Snapshot es) n.1 (ts.0 ∙ ap (λ (l : List Element). number s.0.0 ∷ l) n.0, refl, ts.1)

span_takes : (es : List Element) (p : Params) → span_at es ≡ Some p → TakesParams shapes.Span es p
span_takes es p e =
    let b = bind_some (number_at es) (λ begin. number_at begin.1 >>= λ end. waiter_at end.1 >>= λ w. Some (Span begin.0 end.0 w.0 w.1)) p e in
    let d = bind_some (number_at b.0.1) (λ end. waiter_at end.1 >>= λ w. Some (Span b.0.0 end.0 w.0 w.1)) p b.2 in
    let w = bind_some (waiter_at d.0.1) (λ w. Some (Span b.0.0 d.0.0 w.0 w.1)) p d.2 in
    let tb = number_takes es b.0 b.1 in
    let td = number_takes b.0.1 d.0 d.1 in
    let tw = waiter_takes d.0.1 w.0 w.1 in
    subst (TakesParams shapes.Span es) (some_is (Span b.0.0 d.0.0 w.0.0 w.0.1) p w.2)
    (tb.0 ∙ ap (λ (l : List Element). number b.0.0 ∷ l) (td.0 ∙ ap (λ (l : List Element). number d.0.0 ∷ l) tw.0), refl, (tb.1, td.1, tw.1, tw.2))

file_takes : (es : List Element) (p : Params) → file_at es ≡ Some p → TakesParams shapes.File es p
file_takes es p e =
    let b = bind_some (number_at es) (λ place. waiter_at place.1 >>= λ w. Some (File place.0 w.0 w.1)) p e in
    let w = bind_some (waiter_at b.0.1) (λ w. Some (File b.0.0 w.0 w.1)) p b.2 in
    let tb = number_takes es b.0 b.1 in
    let tw = waiter_takes b.0.1 w.0 w.1 in
    subst (TakesParams shapes.File es) (some_is (File b.0.0 w.0.0 w.0.1) p w.2)
    (tb.0 ∙ ap (λ (l : List Element). number b.0.0 ∷ l) tw.0, refl, (tb.1, tw.1, tw.2))

range_params_take : (es : List Element) (p : Params) → range_at es ≡ Some p → TakesParams shapes.Range es p
range_params_take es p e =
    let r = bind_some (range_in es) (λ range. waiter_at range.1 >>= λ w. Some (Range range.0 w.0 w.1)) p e in
    let w = bind_some (waiter_at r.0.1) (λ w. Some (Range r.0.0 w.0 w.1)) p r.2 in
    let tr = range_takes es r.0 r.1 in
    let tw = waiter_takes r.0.1 w.0 w.1 in
    subst (TakesParams shapes.Range es) (some_is (Range r.0.0 w.0.0 w.0.1) p w.2)
    (tr ∙ ap (λ (l : List Element). Bytes r.0.0.begin ∷ Bytes r.0.0.end ∷ l) tw.0, refl, (tw.1, tw.2))

params_take : (shape : Shape) (es : List Element) (p : Params) → params_at shape es ≡ Some p → TakesParams shape es p
params_take shapes.Nothing es p e = let n = ended_some es Nothing p e in subst (TakesParams shapes.Nothing es) n.1 (n.0, refl, tt)
params_take shapes.Piece es p e = piece_takes es p e
params_take shapes.Snapshot es p e = snapshot_takes es p e
params_take shapes.Span es p e = span_takes es p e
params_take shapes.File es p e = file_takes es p e
params_take shapes.Range es p e = range_params_take es p e

params_again : (p : Params) → AreSmall p → params_at (shape_in p) (elements_of p) ≡ Some p
params_again Nothing h = refl
params_again (Piece s r f b) h = rw (number_again s (Bytes r.begin ∷ Bytes r.end ∷ number f ∷ number b ∷ []) h.0, waiter_again f b h.1 h.2) refl
params_again (Snapshot s) h = rw (number_again s [] h) refl
params_again (Span b e f k) h = rw (number_again b (number e ∷ number f ∷ number k ∷ []) h.0, number_again e (number f ∷ number k ∷ []) h.1, waiter_again f k h.2 h.3) refl
params_again (File p f b) h = rw (number_again p (number f ∷ number b ∷ []) h.0, waiter_again f b h.1 h.2) refl
params_again (Range r f b) h = rw (waiter_again f b h.0 h.1) refl

-- ---- kinds

first_with_is : (code : ℕ) (ks : List Kind) (k : Kind) → first_with code ks ≡ Some k → code_of k ≡ code
first_with_is code [] k e = absurd cc
first_with_is code (j ∷ ks) k e = go (eqb (code_of j) code) refl (first_with_is code ks k) e
  where
    go : (b : Bool) → eqb (code_of j) code ≡ b → (first_with code ks ≡ Some k → code_of k ≡ code) → cond b (Some j) (first_with code ks) ≡ Some k → code_of k ≡ code
    go true is ih e = sym (ap code_of (some_is j k e)) ∙ eqb-true _ _ is
    go false is ih e = ih e

kind_with_code : (k : Kind) → kind_with (code_of k) ≡ Some k
kind_with_code BackupStart = refl
kind_with_code BackupDispatch = refl
kind_with_code BackupRange = refl
kind_with_code BackupManifest = refl
kind_with_code BackupLogs = refl
kind_with_code BackupLog = refl
kind_with_code BackupErase = refl
kind_with_code BackupFinish = refl
kind_with_code RestoreStart = refl
kind_with_code RestoreDispatch = refl
kind_with_code RestoreRange = refl
kind_with_code RestoreLog = refl
kind_with_code RestoreApply = refl
kind_with_code RestoreComplete = refl
kind_with_code DrStart = refl
kind_with_code DrCopy = refl
kind_with_code DrLogs = refl
kind_with_code DrLog = refl
kind_with_code DrApply = refl
kind_with_code DrErase = refl
kind_with_code DrFinish = refl

kind_of_is : (n : ℤ) (k : Kind) → kind_of n ≡ Some k → n ≡ pos (code_of k)
kind_of_is (pos n) k e = ap pos (sym (first_with_is n kinds k e))
kind_of_is (negsuc n) k e = absurd cc

-- ---- tasks

-- what the elements behind the kind are
pub record TakesRest (kind : Kind) (es : List Element) (t : SeenTask) : Type 0 where
  pub task : IsTask t
  pub parts : es ≡ number t.job ∷ elements_of t.params
  pub same : t.kind ≡ kind

rest_takes : (kind : Kind) (es : List Element) (t : SeenTask) → rest_of kind es ≡ Some t → TakesRest kind es t
rest_takes kind es t e =
    let j = bind_some (job_at es) (λ job. params_at (shape_of kind) job.1 >>= λ params. Some (record { job = job.0; kind = kind; params = params })) t e in
    let p = bind_some (params_at (shape_of kind) j.0.1) (λ params. Some (record { job = j.0.0; kind = kind; params = params })) t j.2 in
    let n = bind_some (number_at es) (λ job. cond (leb 1 job.0) (Some job) None) j.0 j.1 in
    let w = when_some (leb 1 n.0.0) n.0 j.0 n.2 in
    let tn = subst (TakesNumber es) w.1 (number_takes es n.0 n.1) in
    let from : 1 ≤ j.0.0 = subst (λ (x : ℕ × List Element). 1 ≤ x.0) w.1 (leb-true _ _ w.0) in
    let tp = params_take (shape_of kind) j.0.1 p.0 p.1 in
    let made : SeenTask = record { job = j.0.0; kind = kind; params = p.0 } in
    subst (TakesRest kind es) (some_is made t p.2) (record {
      task = record { numbered = from; bounded = tn.1; shape = tp.1; small = tp.2 };
      parts = tn.0 ∙ ap (λ (l : List Element). number j.0.0 ∷ l) tp.0;
      same = refl;
    })

abbrev IsTupleOf : List Element → SeenTask → Type 0
IsTupleOf es t = IsTask t × (es ≡ tuple_of t)

found_takes : (fault : KindFault) (o : Option SeenTask) (t : SeenTask) → found_or fault o ≡ Ok t → o ≡ Some t
found_takes fault None t e = absurd cc
found_takes fault (Some x) t e = cc

with_takes : (n : ℤ) (o : Option Kind) (es : List Element) (t : SeenTask) → kind_of n ≡ o → task_with n o es ≡ Ok t → IsTupleOf (Int n ∷ es) t
with_takes n None es t is e = absurd cc
with_takes n (Some kind) es t is e =
    let r = rest_takes kind es t (found_takes (faults.Params kind) (rest_of kind es) t e) in
    (r.task, ap (λ (k : ℤ). Int k ∷ es) (kind_of_is n kind is ∙ ap (λ (k : Kind). pos (code_of k)) (sym r.same)) ∙ ap (λ (l : List Element). number (code_of t.kind) ∷ l) r.parts)

pub task_takes : (es : List Element) (t : SeenTask) → task_of es ≡ Ok t → IsTupleOf es t
task_takes [] t e = absurd cc
task_takes (Null ∷ es) t e = absurd cc
task_takes (Bytes b ∷ es) t e = absurd cc
task_takes (Text b ∷ es) t e = absurd cc
task_takes (Int n ∷ es) t e = with_takes n (kind_of n) es t refl e

job_takes : (es : List Element) (x : ℕ × List Element) → job_at es ≡ Some x → (1 ≤ x.0) × (x.0 < 2 ^ 63)
job_takes es x e =
    let n = bind_some (number_at es) (λ job. cond (leb 1 job.0) (Some job) None) x e in
    let w = when_some (leb 1 n.0.0) n.0 x n.2 in
    let tn = number_takes es n.0 n.1 in
    subst (λ (y : ℕ × List Element). (1 ≤ y.0) × (y.0 < 2 ^ 63)) w.1 (leb-true _ _ w.0, tn.1)

pub is_task : (kind : Kind) (es : List Element) (job : ℕ) (rest : List Element) (p : Params) → job_at es ≡ Some (job, rest) → params_at (shape_of kind) rest ≡ Some p → IsTask (record { job = job; kind = kind; params = p })
is_task kind es job rest p e f =
    let j = job_takes es (job, rest) e in
    let t = params_take (shape_of kind) rest p f in
    record { numbered = j.0; bounded = j.1; shape = t.1; small = t.2 }

rest_again : (t : SeenTask) → IsTask t → rest_of t.kind (number t.job ∷ elements_of t.params) ≡ Some t
rest_again t h =
    rw (number_again t.job (elements_of t.params) h.bounded, le-leb 1 t.job h.numbered, ← h.shape, params_again t.params h.small) refl

pub task_again : (t : SeenTask) → IsTask t → task_of (tuple_of t) ≡ Ok t
task_again t h = rw (kind_with_code t.kind, rest_again t h) refl

pub is_found : (es : List Element) (r : Result SeenTask KindFault) → IfOk r (λ t. task_of es ≡ Ok t) → IfOk r (IsTupleOf es)
is_found es (Ok t) h = task_takes es t h
is_found es (Err f) h = tt

abbrev done : SeenTask → Result SeenTask KindFault
done t = Ok t

ok_is : (x y : SeenTask) → done x ≡ done y → x ≡ y
ok_is x y e = cc

pub is_only : (es : List Element) (r : Result SeenTask KindFault) (t : SeenTask) → IfOk r (λ t. task_of es ≡ Ok t) → IfErr r (λ f. (f ≡ faults.NoMemory) ⊎ (task_of es ≡ Err f)) → IsTask t → es ≡ tuple_of t → (r ≡ Ok t) ⊎ (r ≡ Err faults.NoMemory)
is_only es (Ok found) t h g task is = inl (ap Ok (ok_is found t (sym h ∙ ap task_of is ∙ task_again t task)))
is_only es (Err f) t h g task is = elim g [
  | inl e ↦ inr (ap Err e)
  | inr e ↦ absurd (let wrong = sym e ∙ ap task_of is ∙ task_again t task in cc)
]
