-- The first slots of a round, which are known to wait for their frequency (this project's profile).
use Rattle.std.specs.Prelude.{◌≡◌, ℕ, ◌+◌, List, [], ◌∷◌, take, true, false, min, Option, None, Some}
use Rattle.std.specs.Option.{option_map_or}
use Rattle.ls_budget.specs.Budget.{frequency_tick}
use Rattle.ls_event.specs.declared.event.Mode.TheVariants as mode
use Rattle.ls_event.specs.Cuts.{is_behind}
use Rattle.ls_value.specs.Each.{Each}
use Rattle.ls_record.specs.Lines.{Line, updated}
use Rattle.ls_record.specs.Records.{LiveSlot, Session, is_due, due_at}
use Rattle.ls_turns.specs.Round.{Round, node_of_place}
use Rattle.ls_session.specs.declared.asking.Front.{Front}

-- something of a slot is pending, whatever its item's history is: it is behind what was enqueued, and not of mode
-- COMMAND, where what was enqueued may be told already
pub record IsHeld (v : LiveSlot) : Type 0 where
  pub mode : v.slot.plan.mode ≡ mode.Command → ⊥
  pub behind : is_behind v.slot ≡ true

-- the first tick at which its frequency allows an update of a slot
abbrev pub tick_of : List Line → LiveSlot → ℕ
tick_of lines v = frequency_tick v.frequency (updated v.sub v.rank lines)

-- the least of ticks of slots and of one, if there is one
abbrev pub least_by : (LiveSlot → ℕ) → Option ℕ → List LiveSlot → Option ℕ
least_by tick least [] = least
least_by tick least (v ∷ vs) = least_by tick (Some (option_map_or (min (tick v)) least (tick v))) vs

-- the first slots, up to one of a node, wait, and this is the least tick at which their frequency allows an update
pub record IsFront (turns : Round) (f : Front) (lines : List Line) (round : List LiveSlot) : Type 0 where
  pub last : ℕ
  pub node : node_of_place turns last ≡ Some f.node
  pub held : Each IsHeld (take (last + 1) round)
  pub least : least_by (tick_of lines) None (take (last + 1) round) ≡ Some f.tick

-- so many of the first slots wait at a tick, and none of them is due; this is the least tick at which one of them is
pub record HoldsFirst (now : ℕ) (s : Session) (asked : ℕ) (wait : Option ℕ) : Type 0 where
  pub held : Each IsHeld (take asked s.board.round)
  pub early : Each (λ v. is_due now s v ≡ false) (take asked s.board.round)
  pub least : wait ≡ least_by (due_at now s) None (take asked s.board.round)
