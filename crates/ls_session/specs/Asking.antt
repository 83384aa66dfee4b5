-- The round of a session's slots at a tick, and how far it was asked.
use Rattle.std.specs.Prelude.{◌≡◌, ◌≤◌, ◌⊎◌, ℕ, ◌+◌, length, Bool, true, false, Option, None, Some, is_some, nat_eq}
use Rattle.std.specs.Prelude.{if◌then◌else◌, min}
use Rattle.std.specs.Option.{ForSome, option_map_or}
use Rattle.ls_budget.specs.declared.due.Due.{Due}
use Rattle.ls_budget.specs.declared.due.Due.TheVariants as due
use Rattle.ls_turns.specs.Round.{Round, AreApart, IsSeated, node_of_place, has_slot}
use Rattle.ls_session.specs.declared.session.Ask.{Ask}
use Rattle.ls_session.specs.declared.asking.Asked.{Asked}
use Rattle.ls_session.specs.declared.asking.Front.{Front}

-- the slots in the order in which they are asked; the tick at which they are; the node of the slot that is asked, or
-- that is asked next; the question that stands; the least tick at which one of those that wait is due; the first slots
-- that are known to wait; and for how many slots there is room when they leave
pub record Asking : Type 0 where
  pub turns : Round
  pub tick : ℕ
  pub next : Option ℕ
  pub question : Option Asked
  pub wait : Option ℕ
  pub front : Option Front
  pub room : ℕ

-- whether a question was of a slot that is due, and the question as it was asked
abbrev pub is_now : Due → Bool
is_now due.Now = true
is_now (due.At tick) = false

abbrev pub ask_of : Asked → Ask
ask_of a = record { slot = a.slot; due = is_now a.due }

-- no question stands, and the round begins anew at a tick
abbrev pub asked_anew : ℕ → Asking → Asking
asked_anew tick a = record a { tick = tick; next = node_of_place a.turns 0; question = None; wait = None }

-- it goes on at the same tick, where no question stands, and else begins anew
abbrev pub resumed : ℕ → Asking → Asking
resumed now a = if is_some a.question then asked_anew now a else if nat_eq a.tick now then a else asked_anew now a

-- a question stands
abbrev pub questioned : Asked → Asking → Asking
questioned q a = record a { question = Some q }

-- it was answered that the slot waits until a tick
abbrev pub waiting : ℕ → Asking → Asking
waiting tick a = record a { wait = Some (option_map_or (min tick) a.wait tick) }

-- the question was answered, and the slot is asked again
abbrev pub unasked : Asking → Asking
unasked a = record a { question = None }

-- the question was answered in vain, and the next slot is asked next
pub record Passes (old new : Asking) : Type 0 where
  pub next : (i : ℕ) → old.next ≡ node_of_place old.turns i → new.next ≡ node_of_place old.turns (i + 1)
  pub rest : new ≡ record old { next = new.next; question = None }

-- the slots are others, none is known to wait, and the round begins anew
abbrev pub with_turns : Round → Asking → Asking
with_turns turns a = asked_anew a.tick (record a { turns = turns; front = None })

-- a slot went to the back, and the round begins anew
abbrev pub with_gave : Round → Asking → Asking
with_gave turns a = asked_anew a.tick (record a { turns = turns })

-- the slot that is asked next is the last of the first ones that are known to wait, and this is the least tick then
pub record GoesFurther (tick : ℕ) (old new : Asking) : Type 0 where
  pub node : ℕ
  pub next : old.next ≡ Some node
  pub front : new.front ≡ Some (record { node = node; tick = option_map_or (λ (f : Front). min tick f.tick) old.front tick })
  pub first : old.front ≡ None → old.next ≡ node_of_place old.turns 0
  pub behind : (f : Front) (i : ℕ) → old.front ≡ Some f → node_of_place old.turns i ≡ Some f.node
      → old.next ≡ node_of_place old.turns (i + 1)

-- it is, or all is as before
pub record Extends (tick : ℕ) (old new : Asking) : Type 0 where
  pub front : (new.front ≡ old.front) ⊎ GoesFurther tick old new
  pub rest : new ≡ record old { front = new.front }

-- a round at its first slot, of whose first slots are known to wait, which is so until a tick
pub record BeginsAtFront (tick : ℕ) (a : Asking) : Type 0 where
  pub first : a.next ≡ node_of_place a.turns 0
  pub wait : a.wait ≡ None
  pub front : Front
  pub front_is : a.front ≡ Some front
  pub tick_is : front.tick ≡ tick
  pub apart : AreApart a.turns

-- the first slots, up to one of a node, are passed over, the least due of which is at a tick
pub record PassesTo (node tick : ℕ) (old new : Asking) : Type 0 where
  pub next : (i : ℕ) → node_of_place old.turns i ≡ Some node → new.next ≡ node_of_place old.turns (i + 1)
  pub rest : new ≡ record old { next = new.next; question = None; wait = Some tick }

-- the next slot is in the round, and so is the slot of a question; and there is room for all slots when they leave
pub record Holds (turns : Round) (node : Option ℕ) (asked : Option Asked) (most : ℕ) : Type 0 where
  pub next : ForSome node (IsSeated turns)
  pub question : ForSome asked (λ q. has_slot q.slot.sub q.slot.place turns ≡ true)
  pub room : length turns.seats ≤ most
