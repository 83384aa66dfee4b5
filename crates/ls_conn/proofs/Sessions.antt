-- What was seen of sessions, after one of them was found and more was seen of it.
use Rattle.std.proofs.Common.{◌≡◌, ◌==◌, ◌<◌, Bool, true, false, ℕ, List, [], ◌∷◌, ◌++◌, inl, inr, length, Some, None, Result, Ok, Err, OnOk, refl, sym, ap, subst, ◌∙◌, arith, slice_get, slice_set, slice_index_or}
use mathlib.Core.List.{IsPrefix}
use Rattle.ls_chron.proofs.Beginnings.{prefix_get}
use Rattle.std.proofs.lemmas.Grind.{elements}
use Rattle.std.proofs.lemmas.Bool.Decides.{nat_tests}
use Rattle.ls_told.specs.Seen.{Testified, Grows}
use Rattle.ls_shared.specs.Answers.{SeesOn}
use Rattle.ls_conn.specs.Acting.{Known, Finds, Replaces, OnSession, SeenGrow}
use Rattle.ls_conn.proofs.Given.{sees_on}

pub grow_begins : (ts us : List Testified) → IsPrefix ts us → SeenGrow ts us
grow_begins ts us begins = λ k t is. (t, prefix_get ts us k t begins is, inl refl)

set_there : (ts : List Testified) (k : ℕ) (t u : Testified) → slice_get ts k ≡ Some t → slice_get (slice_set ts k u) k ≡ Some u
set_there ts k t u is = grind (arith, elements)

set_elsewhere : (ts : List Testified) (j k : ℕ) (u : Testified) → (j ≡ k → ⊥) → slice_get (slice_set ts k u) j ≡ slice_get ts j
set_elsewhere ts j k u other = grind (arith, elements)

same_there : (t u : Testified) → Some t ≡ Some u → t ≡ u
same_there t u is = cc

pub grow_twice : (ts us vs : List Testified) → SeenGrow ts us → SeenGrow us vs → SeenGrow ts vs
grow_twice ts us vs early late = λ k t is.
    let u = early k t is in
    let v = late k u.0 u.1 in
    (v.0, v.1, sees_on t u.0 v.0 u.2 v.2)

-- of the session at a place no less was seen
pub grow_set : (ts us : List Testified) (place : ℕ) (t u : Testified) → slice_get ts place ≡ Some t → us ≡ slice_set ts place u → SeesOn t u → SeenGrow ts us
grow_set ts us place t u at new_is sees = λ k w is. by_place k w is (k == place) refl
  where
    by_place : (k : ℕ) (w : Testified) → slice_get ts k ≡ Some w → (here : Bool) → (k == place) ≡ here
        → (v : Testified) × (slice_get us k ≡ Some v) × SeesOn w v
    by_place k w is true here =
        let there : k ≡ place = grind (arith, nat_tests) in
        let same : w ≡ t = same_there w t (sym is ∙ ap (slice_get ts) there ∙ at) in (
          u,
          ap (λ (xs : List Testified). slice_get xs k) new_is ∙ ap (λ (j : ℕ). slice_get (slice_set ts place u) j) there ∙ set_there ts place t u at,
          subst (λ (x : Testified). SeesOn x u) (sym same) sees,
        )
    by_place k w is false here =
        let other : k ≡ place → ⊥ = λ e. absurd (let f : (k == place) ≡ true = grind (arith, nat_tests) in let h : true ≡ false = sym f ∙ here in cc) in (
          w,
          ap (λ (xs : List Testified). slice_get xs k) new_is ∙ set_elsewhere ts k place u other ∙ is,
          inl refl,
        )

pub grow_replaced : (ts us vs : List Testified) (place : ℕ) (P : Testified → Testified → Type 0) → SeenGrow ts us → Replaces us vs place P → SeenGrow ts vs
grow_replaced ts us vs place P early r = grow_twice ts us vs early (grow_set us vs place r.before r.after r.at r.new_is (inr r.grows))

-- what stands at a place
pub there : (ts : List Testified) (place : ℕ) (t : Testified) → place < length ts → t ≡ slice_index_or ts place t → slice_get ts place ≡ Some t
there ts place t within is = grind (arith, elements)

-- it was replaced, and more was seen
pub replaced : (ts : List Testified) (place : ℕ) (t u : Testified) (P : Testified → Testified → Type 0) → place < length ts → t ≡ slice_index_or ts place t → u.mine ≡ t.mine
    → Grows t u × P t u → Replaces ts (slice_set ts place u) place P
replaced ts place t u P within is mine both =
    record { before = t; after = u; at = there ts place t within is; new_is = refl; grows = both.0; mine = mine; says = both.1 }

pub replaced_ok : {T E : Type 0} (r : Result T E) (ts : List Testified) (place : ℕ) (t u : Testified) (P : Testified → Testified → Type 0) → place < length ts
    → t ≡ slice_index_or ts place t → u.mine ≡ t.mine → OnOk r (Grows t u) → OnOk r (P t u) → OnOk r (Replaces ts (slice_set ts place u) place P)
replaced_ok (Ok x) ts place t u P within is mine grows says = replaced ts place t u P within is mine (grows, says)
replaced_ok (Err e) ts place t u P within is mine grows says = tt

pub on_session : (session : ℕ) (old found new : Known) (place : ℕ) (t : Testified) (P : Testified → Testified → Type 0) → Finds session old found place t
    → Replaces found.seen new.seen place P → new.register ≡ found.register → OnSession session old new P
on_session session old found new place t P finds replaces register =
    record { found = found; place = place; was = t; finds = finds; replaces = replaces; register = register }
