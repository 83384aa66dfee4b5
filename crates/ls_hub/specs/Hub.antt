-- What a hub keeps stands for a world, and what its steps do.
use Rattle.std.specs.Prelude.{◌≡◌, ◌≤◌, ℕ, ◌+◌, List, [], ◌∷◌, ◌++◌, map, Bool, true, false, Option, None, Some}
use Rattle.std.specs.Prelude.{Result, Ok, Err, slice_get, option_and_then, if◌then◌else◌}
use Rattle.std.specs.Option.{option_map_or}
use Rattle.ls_value.specs.declared.limits.TheConstants.{GREATEST_TICK}
use Rattle.ls_cell.specs.declared.cell.Enqueued.{Enqueued}
use Rattle.ls_cell.specs.declared.cell.Enqueued.TheVariants as enqueued
use Rattle.ls_event.specs.declared.event.PublishRefused.{PublishRefused}
use Rattle.ls_event.specs.declared.limits.TheConstants.{MOST_ADAPTERS}
use Rattle.ls_request.specs.declared.request.LinkKind.{LinkKind}
use Rattle.ls_request.specs.declared.request.LinkKind.TheVariants as link
use Rattle.ls_step.specs.declared.out.Out.{Out}
use Rattle.ls_step.specs.declared.out.Out.TheVariants as out
use Rattle.ls_step.specs.Notes.{text_of_out}
use Rattle.ls_step.specs.declared.step.Step.{Step}
use Rattle.ls_step.specs.declared.step.Step.TheVariants as step
use Rattle.ls_world.specs.World.{World, Connection}
use Rattle.ls_record.specs.Records.{LiveSlot, Session, definitions, all_live, is_alive, live_at}
use Rattle.ls_world.specs.Steps.{Once, Stepped, refused_out, with_session, session_of}
use Rattle.ls_world.specs.Script.{text_of_outs}
use Rattle.ls_session.specs.declared.session.Session.{Session as Kept}
use Rattle.ls_hub.specs.declared.hub.Connection.{Connection as Linked}
use Rattle.ls_hub.specs.declared.hub.Hub.{Hub}
use Rattle.ls_cells.specs.Cells.{StandsCells}
use Rattle.ls_session.specs.Session.{StandsSession}
use Rattle.ls_session.specs.Record.{Record, from_place, wait_from}

-- a connection as it is kept
abbrev pub seen : Linked → Connection
seen c = record { name = c.name; link = c.link; session = c.session; epoch = c.epoch }

-- the next turn begins at the round's first slot, at whatever tick
abbrev pub BeginsAnew : Record → Type 0
BeginsAnew r = (later : ℕ) → (from_place later r ≡ 0) × (wait_from later r ≡ None)

-- a kept session stands for one of the world, may be told each tick that is to come, and begins anew
pub record IsSession (now : ℕ) (k : Kept) (s : Session) : Type 0 where
  pub asking : Record
  pub session : asking.session ≡ s
  pub early : asking.floor ≤ now
  pub first : BeginsAnew asking
  pub stands : StandsSession k asking

-- each does
abbrev pub AreSessions : ℕ → List Kept → List Session → Type 0
AreSessions now [] [] = Unit {0}
AreSessions now [] (s ∷ sessions) = ⊥
AreSessions now (k ∷ kept) [] = ⊥
AreSessions now (k ∷ kept) (s ∷ sessions) = IsSession now k s × AreSessions now kept sessions

-- kept sessions have the numbers after this one, in their order
abbrev pub AreNumbered : ℕ → List Kept → Type 0
AreNumbered n [] = Unit {0}
AreNumbered n (k ∷ kept) = (k.number ≡ n + 1) × AreNumbered (n + 1) kept

-- the places of the sessions that haven't ended, where the first session is of this place
abbrev pub living_from : ℕ → List Session → List ℕ
living_from n [] = []
living_from n (s ∷ sessions) =
    if is_alive s.life then n ∷ living_from (n + 1) sessions else living_from (n + 1) sessions

-- a hub stands for a world
pub record StandsHub (h : Hub) (w : World) : Type 0 where
  pub set : h.config.set ≡ w.set
  pub tick : h.tick ≡ w.tick
  pub in_range : w.tick ≤ GREATEST_TICK
  pub definitions : h.config.items ≡ definitions w.items
  pub cells : StandsCells h.cells w.items (all_live w.sessions)
  pub sessions : AreSessions w.tick h.sessions.items w.sessions
  pub numbers : AreNumbered 0 h.sessions.items
  pub living : h.living.items ≡ living_from 0 w.sessions
  pub connections : map seen h.connections.items ≡ w.connections

-- a hub stands for each world that it stood for
abbrev pub StandsAsBefore : Hub → Hub → Type 0
StandsAsBefore before after = (w : World) → StandsHub before w → StandsHub after w

-- a hub did a step, whose text was appended, and stands for the world after it
pub record Prints (s : Stepped) (before after : List ℕ) (h : Hub) : Type 0 where
  pub text : after ≡ before ++ text_of_outs s.outs
  pub stands : StandsHub h s.after

-- one of several like steps was done, and its text appended
pub record DidOnce (o : Once) (again : Bool) (before after : List ℕ) (h : Hub) : Type 0 where
  pub more : o.more ≡ again
  pub text : after ≡ before ++ text_of_out o.out
  pub stands : StandsHub h o.after

-- what is known of the connection of a place; where there is none it has no session, the epoch 0 and no name
abbrev pub session_at : List Linked → ℕ → Option ℕ
session_at connections n = option_and_then (λ c. c.session) (slice_get connections n)

abbrev pub epoch_at : List Linked → ℕ → ℕ
epoch_at connections n = option_map_or (λ c. c.epoch) (slice_get connections n) 0

abbrev pub name_at : List Linked → ℕ → List ℕ
name_at connections n = option_map_or (λ c. c.name) (slice_get connections n) []

abbrev pub link_at : List Linked → ℕ → LinkKind
link_at connections n = option_map_or (λ c. c.link) (slice_get connections n) link.Ws

-- the place of a session, if it is there
abbrev pub place_in : List Session → Option ℕ → Option ℕ
place_in sessions place = with_session sessions place None (λ n s. Some n)

-- what a publish prints
abbrev pub outs_published : Result ℕ PublishRefused → List Out
outs_published (Ok n) = out.Published n ∷ []
outs_published (Err cause) = refused_out cause

-- the slot of a rank in a subscription of a connection's session
abbrev pub slot_in : World → ℕ → ℕ → ℕ → Option LiveSlot
slot_in w connection sub rank =
    with_session w.sessions (session_of w connection) None (λ n s. live_at sub rank s.board.round)

-- what an enqueue prints, and whether another one follows; there may be no slot
abbrev pub out_enqueued : Option Enqueued → Out
out_enqueued None = out.NoSlot
out_enqueued (Some (enqueued.Moved n)) = out.Moved n
out_enqueued (Some enqueued.UpToDate) = out.UpToDate

abbrev pub has_moved : Option Enqueued → Bool
has_moved None = false
has_moved (Some (enqueued.Moved n)) = true
has_moved (Some enqueued.UpToDate) = false

-- a published event has one of the adapters
abbrev pub HasAdapter : Step → Type 0
HasAdapter (step.Publish adapter seq item cells) = adapter ≤ MOST_ADAPTERS
HasAdapter (step.Clear adapter seq item) = adapter ≤ MOST_ADAPTERS
HasAdapter s = Unit {0}
