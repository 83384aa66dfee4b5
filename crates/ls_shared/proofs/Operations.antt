-- What an operation says of a session and of the register, beyond what it appends and why it is refused.
use Rattle.std.proofs.Common.{◌≡◌, ◌≤◌, ◌+◌, ℕ, List, [], ◌∷◌, ◌++◌, length, Bool, true, false, not, nat_lt, Option, Some, None}
use Rattle.std.proofs.Common.{refl, sym, ap, subst, arith, is_some, unwrap_or, Result, Ok, Err, IfOk}
use Rattle.std.proofs.lemmas.Bool.{ltb-true}
use mathlib.Core.List.{IsPrefix}
use Rattle.ls_chron.proofs.Beginnings.{prefix_trans}
use Rattle.ls_event.specs.declared.item.ItemDef.{ItemDef}
use Rattle.ls_request.specs.declared.request.Add.{Add}
use Rattle.ls_request.specs.declared.request.Bind.{Bind}
use Rattle.ls_request.specs.declared.request.Op.{Op}
use Rattle.ls_request.specs.declared.request.Op.TheVariants as op
use Rattle.ls_record.specs.Cases.{first_code}
use Rattle.ls_record.specs.Records.{Session, is_alive}
use Rattle.ls_record.specs.declared.TheConstants.{MOST_UNSENT}
use Rattle.ls_register.specs.declared.made.Made.{Made}
use Rattle.ls_register.specs.declared.told.Told.{Told}
use Rattle.ls_register.specs.declared.told.Told.TheVariants.{Bound}
use Rattle.ls_told.specs.Spoken.{Spoken, spoken_of}
use Rattle.ls_told.specs.Heard.{heard, counts_as, rates_of}
use Rattle.ls_told.specs.Seen.{Watched, Testified, Grows, IsTold}
use Rattle.ls_told.specs.Requests.{Does, InTime, RefusesOp, bind_code_of}
use Rattle.ls_told.proofs.Facts.{rebind_there, owed_few}
use Rattle.ls_live_session.specs.Speaking.{Speaking}
use Rattle.ls_shared.specs.Answers.{AddsOn, BindsOn}
use Rattle.ls_shared.specs.Operations.{ClaimsRoom, HadRates, HasWish}
use Rattle.ls_shared.proofs.Grown.{binds_on}

pub wished : (config : List ItemDef) (o : Op) (now : ℕ) (old new : Testified) → Does config o now old new → HasWish o new.lines
wished config (op.Add a) now old new d = tt
wished config (op.Delete sub) now old new d = tt
wished config (op.Reconf sub frequency) now old new d = tt
wished config (op.Constrain bandwidth) now old new d = tt
wished config op.ForceRebind now old new d = rebind_there old.number new.lines d.done.forced
wished config op.Destroy now old new d = tt

-- of two codes the second is answered only where its condition holds
second_holds : (m n : ℕ) → (m ≡ n → ⊥) → (a b : Bool) → first_code ((m, a) ∷ (n, b) ∷ []) ≡ Some n → b ≡ true
second_holds m n apart true b is = absurd (apart (ap (λ (o : Option ℕ). unwrap_or o n) is))
second_holds m n apart false true is = refl
second_holds m n apart false false is = absurd (let x : ◌≡◌ {A = Option ℕ} None (Some n) = is in cc)

unlike_codes : ◌≡◌ {A = ℕ} 20 70 → ⊥
unlike_codes same = omega (arith, same)

enough_rates : (most owed told rates : ℕ) → nat_lt most (owed + 1) ≡ true → owed ≡ told → told ≤ 4 + rates → most ≤ rates + 4
enough_rates most owed told rates many is few = omega (arith, ltb-true most (owed + 1) many, is, few)

rates_there : (number : ℕ) (es : List Told) (s : Session) → spoken_of s ≡ heard number es
    → first_code ((20, not (is_alive s.life)) ∷ (70, nat_lt MOST_UNSENT (length s.owed + 1)) ∷ []) ≡ Some 70 → MOST_UNSENT ≤ rates_of es + 4
rates_there number es s told is =
    enough_rates MOST_UNSENT (length s.owed) (length (heard number es).owed) (rates_of es)
    (second_holds 20 70 unlike_codes (not (is_alive s.life)) (nat_lt MOST_UNSENT (length s.owed + 1)) is)
    (ap (λ (p : Spoken). length p.owed) told) (owed_few number es)

pub had_rates : (config : List ItemDef) (number : ℕ) (o : Op) (es : List Told) (ws : List Watched) (ms : List Made)
    → RefusesOp config number o 70 es ws ms → HadRates o es
had_rates config number (op.Add a) es ws ms r = tt
had_rates config number (op.Delete sub) es ws ms r = tt
had_rates config number (op.Reconf sub frequency) es ws ms r = tt
had_rates config number (op.Constrain bandwidth) es ws ms r = rates_there number es r.0 r.1.told r.2
had_rates config number op.ForceRebind es ws ms r = tt
had_rates config number op.Destroy es ws ms r = tt

-- the claim of an add, in the words of who asked for it
pub claims_room : (config : List ItemDef) (a : Add) (now : ℕ) (old shown new : Testified) (live : Speaking) → old.number ≡ live.number
    → IsPrefix old.later live.lines → IsPrefix old.register shown.register → AddsOn config a now live shown new → ClaimsRoom config a old new
claims_room config a now old shown new live named later register c =
    record {
      before = live.lines;
      begins = later;
      room = c.room;
      room_then = prefix_trans old.register shown.register c.room register c.room_then.0;
      claimed = c.claims;
      earlier = c.earlier;
      was = subst (λ (n : ℕ). IsTold config n live.lines new.watches c.earlier) (sym named) c.was;
      none = c.none;
    }

-- a bind that was done, as it is answered
pub binds_ok : {E : Type 0} (r : Result ℕ E) (b : Bind) (now : ℕ) (old mid new : Testified) (was over after : List Told) (number : ℕ)
    → old.number ≡ number → Grows old mid → mid.lines ≡ was → IsPrefix was over
    → (is_alive (heard number over).life ≡ true → InTime (counts_as now over) (heard number over))
    → IfOk r (λ epoch. (bind_code_of number over b.recover ≡ None) × (epoch ≡ length (heard number over).streams + 1)
    × (after ≡ over ++ Bound epoch (unwrap_or b.recover (heard number over).sent) (is_some b.recover) b.keepalive b.length ∷ []))
    → new.lines ≡ after → IfOk r (λ epoch. BindsOn b now epoch old new)
binds_ok (Ok epoch) b now old mid new was over after number named grows is longer in_time did all =
    binds_on b now epoch old mid new was over after number named grows is longer in_time did all
binds_ok (Err e) b now old mid new was over after number named grows is longer in_time did all = tt
