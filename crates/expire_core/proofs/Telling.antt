-- What is known of an expire once its reading went well, or was refused.
use Rattle.std.proofs.Common.{◌≡◌, ℕ, Bool, true, false, not, ◌&&◌, cond, List, [], ◌∷◌, map, Option, Some, None, Result, Ok, Err, ok_or, ◌⊎◌, inl, inr, refl, sym, ap, ◌∙◌, subst}
use Rattle.fb_bytes.specs.Bytes.{Bytes}
use Rattle.fb_bytes.specs.Results.{◌>>=◌}
use Rattle.fb_bytes.proofs.Results.{bind_ok}
use Rattle.fb_outside.specs.declared.File.{File}
use Rattle.fb_outside.specs.Files.{file_of}
use Rattle.file_names.specs.Spelling.{unreliable_text, expired_text}
use Rattle.container_view.specs.Property.{property_in}
use Rattle.container_view.specs.Sets.{property_read}
use Rattle.container_view.specs.declared.ViewFault.{ViewFault}
use Rattle.container_view.specs.declared.ViewFault.TheVariants as views
use Rattle.expire_core.specs.declared.expiring.ExpireFault.TheVariants.{View, CannotExpire}
use Rattle.expire_core.specs.declared.planning.PlanFault.TheVariants as plans
use Rattle.expire_core.specs.Doomed.{doomed}
use Rattle.expire_core.specs.Plan.{ExpirePlan, PlanFault, raised, left_of, is_short, plan_with, planned}
use Rattle.expire_core.specs.Expiry.{Listing, Expiry, ExpireFault, listing_of, viewed, as_planned, expiry_by, expiry_of}

abbrev pub names_of : List File → List Bytes
names_of files = map (λ (f : File). f.name) files

viewed_ok : {A : Type 0} (r : Result A ViewFault) (x : A) → viewed r ≡ Ok x → r ≡ Ok x
viewed_ok (Ok y) x e = cc
viewed_ok (Err fault) x e = absurd cc

as_planned_ok : {A : Type 0} (r : Result A PlanFault) (x : A) → as_planned r ≡ Ok x → r ≡ Ok x
as_planned_ok (Ok y) x e = cc
as_planned_ok (Err fault) x e = absurd cc

ok_some : {A : Type 0} (o : Option A) (fault : ViewFault) (x : A) → ok_or o fault ≡ Ok x → o ≡ Some x
ok_some None fault x e = absurd cc
ok_some (Some y) fault x e = cc

-- ---- the listing

-- both properties were read
pub record IsListing (files : List File) (listing : Listing) : Type 0 where
  pub names : listing.names ≡ names_of files
  pub unreliable : property_in (file_of files unreliable_text) ≡ Some listing.unreliable
  pub expired : property_in (file_of files expired_text) ≡ Some listing.expired

listing_is : (files : List File) (listing : Listing) → listing_of files ≡ Ok listing → IsListing files listing
listing_is [] listing e = absurd cc
listing_is (f ∷ fs) listing e =
    let a = bind_ok (property_read (f ∷ fs) unreliable_text) _ listing e in
    let b = bind_ok (property_read (f ∷ fs) expired_text) _ listing a.2 in
    let is : record { names = names_of (f ∷ fs); unreliable = a.0; expired = b.0 } ≡ listing = cc (b.2) in
    subst (λ (l : Listing). IsListing (f ∷ fs) l) is (record { names = refl; unreliable = ok_some _ _ a.0 a.1; expired = ok_some _ _ b.0 b.1 })

-- ---- the plan

-- what would be left is too little
abbrev pub falls_short : List Bytes → Option ℕ → ℕ → ℕ → Bool
falls_short names unreliable cutoff wanted = is_short wanted (left_of names (raised cutoff unreliable))

pub record ByListing (listing : Listing) (cutoff wanted : ℕ) (force : Bool) (expiry : Expiry) : Type 0 where
  pub names : expiry.plan.names ≡ doomed cutoff listing.names
  pub end : expiry.plan.unreliable ≡ raised cutoff listing.unreliable
  pub last : expiry.expired ≡ raised cutoff listing.expired
  pub enough : (not force && falls_short listing.names listing.unreliable cutoff wanted) ≡ false

plan_ok : (names : List Bytes) (end cutoff wanted : ℕ) (force : Bool) (left : Option ℕ) (plan : ExpirePlan) → plan_with names end cutoff wanted force left ≡ Ok plan → ((not force && is_short wanted left) ≡ false) × (record { names = doomed cutoff names; unreliable = end } ≡ plan)
plan_ok names end cutoff wanted force left plan e = go (not force && is_short wanted left) refl e
  where
    go : (b : Bool) → (not force && is_short wanted left) ≡ b → cond b (Err (plans.CannotExpire wanted left)) (Ok (record { names = doomed cutoff names; unreliable = end })) ≡ Ok plan → ((not force && is_short wanted left) ≡ false) × (record { names = doomed cutoff names; unreliable = end } ≡ plan)
    go true t e = absurd cc
    go false t e = (t, cc)

by_listing : (listing : Listing) (cutoff wanted : ℕ) (force : Bool) (expiry : Expiry) → expiry_by listing cutoff wanted force ≡ Ok expiry → ByListing listing cutoff wanted force expiry
by_listing listing cutoff wanted force expiry e =
    let p = bind_ok (as_planned (planned listing.names listing.unreliable cutoff wanted force)) _ expiry e in
    let q = plan_ok listing.names (raised cutoff listing.unreliable) cutoff wanted force (left_of listing.names (raised cutoff listing.unreliable)) p.0 (as_planned_ok _ p.0 p.1) in
    let is : record { plan = p.0; expired = raised cutoff listing.expired } ≡ expiry = cc (p.2) in
    record {
      names = sym (ap (λ (x : ExpirePlan). x.names) q.1 ∙ ap (λ (x : Expiry). x.plan.names) is);
      end = sym (ap (λ (x : ExpirePlan). x.unreliable) q.1 ∙ ap (λ (x : Expiry). x.plan.unreliable) is);
      last = sym (ap (λ (x : Expiry). x.expired) is);
      enough = q.0;
    }

-- ---- both

pub record Tells (files : List File) (cutoff wanted : ℕ) (force : Bool) (expiry : Expiry) : Type 0 where
  pub listing : Listing
  pub is : IsListing files listing
  pub by : ByListing listing cutoff wanted force expiry

pub tells : (files : List File) (cutoff wanted : ℕ) (force : Bool) (expiry : Expiry) → expiry_of files cutoff wanted force ≡ Ok expiry → Tells files cutoff wanted force expiry
tells files cutoff wanted force expiry e =
    let a = bind_ok (viewed (listing_of files)) _ expiry e in
    record { listing = a.0; is = listing_is files a.0 (viewed_ok (listing_of files) a.0 a.1); by = by_listing a.0 cutoff wanted force expiry a.2 }

-- ---- a refusal

pub record Short (files : List File) (cutoff wanted : ℕ) (force : Bool) (told : ℕ) (left : Option ℕ) : Type 0 where
  pub listing : Listing
  pub is : IsListing files listing
  pub unforced : force ≡ false
  pub short : falls_short listing.names listing.unreliable cutoff wanted ≡ true
  pub told_is : told ≡ wanted
  pub left_is : left ≡ left_of listing.names (raised cutoff listing.unreliable)

tested : (force short : Bool) → (not force && short) ≡ true → (force ≡ false) × (short ≡ true)
tested false true e = (refl, refl)
tested true true e = absurd cc
tested true false e = absurd cc
tested false false e = absurd cc

bind_stop : {A B E : Type 0} (r : Result A E) (f : A → Result B E) (fault : E) → (r >>= f) ≡ Err fault → (r ≡ Err fault) ⊎ ((x : A) × (r ≡ Ok x) × (f x ≡ Err fault))
bind_stop (Ok x) f fault e = inr (x, refl, e)
bind_stop (Err other) f fault e = inl (let same : other ≡ fault = cc in ap Err same)

viewed_other : {A : Type 0} (r : Result A ViewFault) (told : ℕ) (left : Option ℕ) → viewed r ≡ Err (CannotExpire told left) → ⊥
viewed_other (Ok x) told left e = cc
viewed_other (Err fault) told left e = let same : View fault ≡ CannotExpire told left = cc in cc

planned_err : (r : Result ExpirePlan PlanFault) (told : ℕ) (left : Option ℕ) → as_planned r ≡ Err (CannotExpire told left) → r ≡ Err (plans.CannotExpire told left)
planned_err (Ok plan) told left e = absurd cc
planned_err (Err (plans.CannotExpire wanted rest)) told left e = let same : CannotExpire wanted rest ≡ CannotExpire told left = cc in cc
planned_err (Err plans.NoMemory) told left e = let same : View views.NoMemory ≡ CannotExpire told left = cc in absurd cc

plan_err : (names : List Bytes) (end cutoff wanted : ℕ) (force : Bool) (left : Option ℕ) (told : ℕ) (rest : Option ℕ) → plan_with names end cutoff wanted force left ≡ Err (plans.CannotExpire told rest) → ((not force && is_short wanted left) ≡ true) × (told ≡ wanted) × (rest ≡ left)
plan_err names end cutoff wanted force left told rest e = go (not force && is_short wanted left) refl e
  where
    go : (b : Bool) → (not force && is_short wanted left) ≡ b → cond {A = Result ExpirePlan PlanFault} b (Err (plans.CannotExpire wanted left)) (Ok (record { names = doomed cutoff names; unreliable = end })) ≡ Err (plans.CannotExpire told rest) → ((not force && is_short wanted left) ≡ true) × (told ≡ wanted) × (rest ≡ left)
    go true t e = let same : plans.CannotExpire wanted left ≡ plans.CannotExpire told rest = cc in (t, cc, cc)
    go false t e = absurd cc

abbrev expiry_with : Listing → ℕ → ExpirePlan → Result Expiry ExpireFault
expiry_with listing cutoff plan = Ok (record { plan = plan; expired = raised cutoff listing.expired })

short_by : (files : List File) (listing : Listing) (cutoff wanted : ℕ) (force : Bool) (told : ℕ) (left : Option ℕ) → IsListing files listing → expiry_by listing cutoff wanted force ≡ Err (CannotExpire told left) → Short files cutoff wanted force told left
short_by files listing cutoff wanted force told left is e = go (bind_stop (as_planned (planned listing.names listing.unreliable cutoff wanted force)) _ (CannotExpire told left) e)
  where
    from : planned listing.names listing.unreliable cutoff wanted force ≡ Err (plans.CannotExpire told left) → Short files cutoff wanted force told left
    from p =
        let q = plan_err listing.names (raised cutoff listing.unreliable) cutoff wanted force (left_of listing.names (raised cutoff listing.unreliable)) told left p in
        let t = tested force (falls_short listing.names listing.unreliable cutoff wanted) q.0 in
        record { listing = listing; is = is; unforced = t.0; short = t.1; told_is = q.1; left_is = q.2 }

    go : (as_planned (planned listing.names listing.unreliable cutoff wanted force) ≡ Err (CannotExpire told left)) ⊎ ((plan : ExpirePlan) × (as_planned (planned listing.names listing.unreliable cutoff wanted force) ≡ Ok plan) × (expiry_with listing cutoff plan ≡ Err (CannotExpire told left))) → Short files cutoff wanted force told left
    go (inl p) = from (planned_err _ told left p)
    go (inr x) = absurd (not_err x.0 x.2)
      where
        not_err : (plan : ExpirePlan) → expiry_with listing cutoff plan ≡ Err (CannotExpire told left) → ⊥
        not_err plan e = cc

pub told_short : (files : List File) (cutoff wanted : ℕ) (force : Bool) (told : ℕ) (left : Option ℕ) → expiry_of files cutoff wanted force ≡ Err (CannotExpire told left) → Short files cutoff wanted force told left
told_short files cutoff wanted force told left e = go (bind_stop (viewed (listing_of files)) _ (CannotExpire told left) e)
  where
    go : (viewed (listing_of files) ≡ Err (CannotExpire told left)) ⊎ ((listing : Listing) × (viewed (listing_of files) ≡ Ok listing) × (expiry_by listing cutoff wanted force ≡ Err (CannotExpire told left))) → Short files cutoff wanted force told left
    go (inl p) = absurd (viewed_other (listing_of files) told left p)
    go (inr x) = short_by files x.0 cutoff wanted force told left (listing_is files x.0 (viewed_ok (listing_of files) x.0 x.1)) x.2
