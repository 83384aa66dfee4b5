-- What a caller sees of a round that was asked whole, and of which no slot told anything.
use Rattle.std.proofs.Common.{◌≡◌, ◌≤◌, ℕ, List, [], ◌∷◌, length, Bool, true, false, not, ◌&&◌, Option, None, Some, sym, arith, cond, min, ◌∙◌, refl}
use Rattle.std.specs.Option.{option_map_or}
use Rattle.ls_value.specs.Each.{Each}
use Rattle.ls_chron.proofs.Beginnings.{prefix_length}
use Rattle.ls_event.specs.declared.item.ItemDef.{ItemDef}
use Rattle.ls_event.specs.Cuts.{is_pending}
use Rattle.ls_record.specs.Records.{LiveSlot, Session, due_at, is_due, is_waiting, least_of, waits_of}
use Rattle.ls_record.proofs.Each.{each_map}
use Rattle.ls_register.specs.declared.told.Told.{Told}
use Rattle.ls_told.specs.Seen.{Watched, FitsWatch, SeesMore, items_seen, seen_of}
use Rattle.ls_told.specs.Turns.{HasNothing, IsIdle, IsNotDue, IsStill}
use Rattle.ls_told.proofs.Watching.{keeps_seen, seen_more}
use Rattle.ls_live_session.proofs.Shown.{lawful_of}
use Rattle.ls_shared.specs.Asking.{HadNothing, QuietRound}
use Rattle.ls_shared.proofs.Rounds.{none_sees, waiting_seen}

-- a session that gave nothing gave nothing where more is seen of its items
pub quiet_sees : (config : List ItemDef) (number : ℕ) (es : List Told) (held old new : List Watched) (tick : ℕ) (wait : Option ℕ) → SeesMore old new
    → Each (FitsWatch config) new → QuietRound config number es held old tick wait → QuietRound config number es held new tick wait
quiet_sees config number es held old new tick wait more fits q =
    record {
      session = q.session;
      told = keeps_seen config number es old new q.session more fits q.told;
      none = none_sees config held old new more tick q.session q.session.board.round wait q.none;
    }

-- one of some ticks is the least
least_some : (n : ℕ) (ns : List ℕ) → least_of (n ∷ ns) ≡ None → ⊥
least_some n ns is = absurd (let e : Some (option_map_or (min n) (least_of ns) n) ≡ None = is in cc)

-- what a caller sees of it then, who had seen no more of the items before the turn
module _ (config : List ItemDef) (number epoch : ℕ) (es : List Told) (first held ws : List Watched) (early : SeesMore first held) (tick : ℕ)
    (still : IsStill number epoch es) where
  fresh_of : (s : Session) (vs : List LiveSlot) → Each (HadNothing config held ws tick s) vs
      → Each (λ (v : LiveSlot). length (seen_of first v.item) ≤ v.slot.last) vs
  fresh_of s vs each =
      each_map (HadNothing config held ws tick s) (λ (v : LiveSlot). length (seen_of first v.item) ≤ v.slot.last) vs
      (λ v h. omega (arith, h.fresh, prefix_length (seen_of first v.item) (seen_of held v.item) (seen_more first held early v.item))) each

  -- where none waits, what isn't due isn't pending
  nothing_of : (s : Session) (vs : List LiveSlot) → Each (HadNothing config held ws tick s) vs
      → least_of (waits_of tick (items_seen config ws) s vs) ≡ None → Each (λ (v : LiveSlot). HasNothing (seen_of ws v.item) v.slot) vs
  nothing_of s [] each none = tt
  nothing_of s (v ∷ vs) each none = by_wait (is_waiting tick (items_seen config ws) s v) refl none (nothing_of s vs each.1)
    where
      unless : (b : Bool) → is_due tick s v ≡ b → is_pending (seen_of ws v.item) v.slot ≡ true
          → (not b && is_pending (seen_of ws v.item) v.slot) ≡ false → HasNothing (seen_of ws v.item) v.slot
      unless true due pends quiet = each.0.nothing due
      unless false due pends quiet = absurd (let e : true ≡ false = sym pends ∙ quiet in cc)

      by_wait : (b : Bool) → is_waiting tick (items_seen config ws) s v ≡ b
          → least_of (cond b (due_at tick s v ∷ waits_of tick (items_seen config ws) s vs) (waits_of tick (items_seen config ws) s vs)) ≡ None
          → (least_of (waits_of tick (items_seen config ws) s vs) ≡ None → Each (λ (u : LiveSlot). HasNothing (seen_of ws u.item) u.slot) vs)
          → Each (λ (u : LiveSlot). HasNothing (seen_of ws u.item) u.slot) (v ∷ vs)
      by_wait true is least rest =
          absurd (least_some (due_at tick s v) (waits_of tick (items_seen config ws) s vs) least)
      by_wait false is least rest = (
        λ pends. unless (is_due tick s v) refl pends (sym (waiting_seen config held ws tick s v each.0.declared) ∙ is) pends,
        rest least,
      )

  pub seen_idle : QuietRound config number es held ws tick None → IsIdle config number epoch es ws first
  seen_idle q =
      record {
        still = still;
        session = q.session;
        told = lawful_of config number es ws q.session q.told;
        nothing = nothing_of q.session q.session.board.round q.none.each (sym q.none.first);
        fresh = fresh_of q.session q.session.board.round q.none.each;
      }

  pub seen_not_due : (at : ℕ) → QuietRound config number es held ws tick (Some at) → IsNotDue config number epoch tick at es ws first
  seen_not_due at q =
      record {
        still = still;
        session = q.session;
        told = lawful_of config number es ws q.session q.told;
        least = sym q.none.first;
        nothing = each_map (HadNothing config held ws tick q.session)
            (λ (v : LiveSlot). is_due tick q.session v ≡ true → HasNothing (seen_of ws v.item) v.slot) q.session.board.round (λ v h. h.nothing)
            q.none.each;
        fresh = fresh_of q.session q.session.board.round q.none.each;
      }
