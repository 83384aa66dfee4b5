-- A Bound that was seen stays.
use Rattle.std.proofs.Common.{inl, inr, ℕ, List, refl, sym, subst, Result, Ok, Err, false}
use Rattle.std.specs.Prelude.{OnOk, OnErr, IsErrOf}
use mathlib.Core.List.{IsPrefix}
use Rattle.ls_chron.proofs.Beginnings.{prefix_get}
use Rattle.ls_request.specs.declared.request.Create.{Create}
use Rattle.ls_register.specs.declared.made.Made.{Made}
use Rattle.ls_register.specs.declared.told.Told.{Told}
use Rattle.ls_subs.specs.declared.plan.Refusal.{Refusal}
use Rattle.ls_subs.specs.declared.plan.Refusal.TheVariants.{Code, NoMemory}
use Rattle.ls_told.specs.Seen.{Testified, Grows}
use Rattle.ls_told.specs.Requests.{HasBound, OnlyLater}
use Rattle.ls_shared.specs.Answers.{Begins, Opens, SeesOn}

-- the first stream of a new session is seen
pub bound_first : (c : Create) (now session epoch : ℕ) (seen : Testified) → Begins c now session epoch seen → HasBound epoch seen.lines
bound_first c now session epoch seen begins =
    rw (begins.lines, begins.epoch_is) (1, 0, false, c.keepalive, c.length, refl)

pub bound_opened : (set : List ℕ) (c : Create) (now : ℕ) (old new : List Made) (session epoch : ℕ) (seen : Testified)
    → Opens set c now old new session epoch seen → HasBound epoch seen.lines
bound_opened set c now old new session epoch seen opens = bound_first c now session epoch seen opens.is

pub bound_later : (es fs : List Told) (epoch : ℕ) → IsPrefix es fs → HasBound epoch es → HasBound epoch fs
bound_later es fs epoch longer has =
    (has.0, has.1, has.2, has.3, has.4, prefix_get es fs has.0 _ longer has.5)

pub bound_sees : (a b : Testified) (epoch : ℕ) → SeesOn a b → HasBound epoch a.lines → HasBound epoch b.lines
bound_sees a b epoch (inl same) has = subst (λ (t : Testified). HasBound epoch t.lines) (sym same) has
bound_sees a b epoch (inr grows) has = bound_later a.lines b.lines epoch grows.lines has

-- a loss leaves what was seen of the lines
pub bound_lost : (a b : Testified) (epoch : ℕ) → OnlyLater a b → HasBound epoch a.lines → HasBound epoch b.lines
bound_lost a b epoch only has = subst (λ (t : Testified). HasBound epoch t.lines) (sym only.rest) has

-- what a turn says of what was seen
pub sees_turn : {T E : Type 0} (X : Type 0) (r : Result T E) (a b : Testified) → OnOk r (Grows a b) → OnErr r (SeesOn a b × X) → SeesOn a b
sees_turn X (Ok x) a b grows memory = inr grows
sees_turn X (Err e) a b grows memory = memory.0

-- what a request says of it
pub sees_request : {T : Type 0} (r : Result T Refusal) (a b : Testified) → OnOk r (Grows a b)
    → ((code : ℕ) → IsErrOf r (Code code) → Grows a b) → (IsErrOf r NoMemory → SeesOn a b) → SeesOn a b
sees_request (Ok x) a b grows refused memory = inr grows
sees_request (Err (Code code)) a b grows refused memory = inr (refused code refl)
sees_request (Err NoMemory) a b grows refused memory = memory refl
