-- Parts of the definitions, by which proofs go case by case.
use Rattle.std.specs.Prelude.{ℕ, List, [], ◌∷◌, ◌++◌, Bool, Option, None, Some, if◌then◌else◌}
use Rattle.ls_event.specs.declared.event.Taken.{Taken}
use Rattle.ls_event.specs.Slots.{Slot, passed}
use Rattle.ls_mirror.specs.Client.{What}
use Rattle.ls_record.specs.Cases.{with_found}
use Rattle.ls_record.specs.Came.{Came, came_by}
use Rattle.ls_record.specs.Cutting.{Wanted, Turn, what_of_cut}
use Rattle.ls_record.specs.Lines.{Tells}
use Rattle.ls_record.specs.Records.{Item, LiveSlot, Board, Session, RoundLine, Round, round_of, taken_in, on_board}
use Rattle.ls_record.specs.Records.{is_due, least_wait}
use Rattle.ls_record.specs.Turning.{SessionTurn, waits_until, next_given}

-- a slot's turn, by the line of its cut, and by its cut
abbrev pub turn_or : Slot → Taken → Option What → Turn → Turn
turn_or s t o rest = with_found o rest (λ what. record { slot = passed s t; came = Some (came_by s t what) })

abbrev pub turn_by : Wanted → Slot → List Came → Option Taken → (Slot → Turn) → Turn
turn_by w s cs o rest = with_found o (record { slot = s; came = None }) (λ t. turn_or s t (what_of_cut w s cs t) (rest (passed s t)))

-- a turn of a slot in a round, by whether it is due
abbrev pub turn_if : Bool → Slot → Turn → Turn
turn_if due s t = if due then t else record { slot = s; came = None }

-- a round, by what came by the turn of its first slot
abbrev pub met_by : LiveSlot → Option Came → List LiveSlot → Round → Round
met_by v o vs rest = with_found o (record rest { kept = v ∷ rest.kept }) (λ c. record { kept = vs; came = Some (record { live = v; came = c }) })

-- a board, by the line of its round
abbrev pub given_by : ℕ → Board → List LiveSlot → Option RoundLine → Board
given_by now b kept o =
    with_found o (record b { round = kept }) (λ t. record b { lines = Tells t.live.sub t.live.rank now t.came ∷ b.lines; round = kept ++ t.live ∷ [] })

-- a session's turn, by the least tick at which a slot that waits is due, and by the line of its round
abbrev pub round_given : Option ℕ → Session → Option RoundLine → SessionTurn
round_given wait s o = with_found o (record { session = s; gives = waits_until wait }) (λ t. next_given s)

abbrev pub round_taken : ℕ → List Item → Session → SessionTurn
round_taken now items s =
    round_given (least_wait now items s) (on_board (taken_in (is_due now s) now items) s)
    (round_of (is_due now s) items s.board.lines s.board.round).came
