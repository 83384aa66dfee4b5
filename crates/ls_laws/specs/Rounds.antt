-- A session's round as ls_turns has it, and the moves that are made of it.
use Rattle.std.specs.Prelude.{◌≡◌, ℕ, List, [], ◌∷◌, map, Bool, None}
use Rattle.ls_turns.specs.declared.slot_ref.SlotRef.{SlotRef}
use Rattle.ls_turns.specs.Moves.{Move, Gave, Joined, MayMoveAll, after_move}
use Rattle.ls_value.specs.Each.{Each}
use Rattle.ls_record.specs.Records.{Item, LiveSlot, Board, RoundLine, live_turn, taken_in}

-- a slot of a session, and the slots of a round
abbrev pub slot_of : LiveSlot → SlotRef
slot_of v = record { sub = v.sub; place = v.rank; item = v.item; slot = v.number }

abbrev pub slots_of : List LiveSlot → List SlotRef
slots_of round = map slot_of round

-- a round's slots after moves, one after another
abbrev pub after_moves : List SlotRef → List Move → List SlotRef
after_moves round [] = round
after_moves round (m ∷ ms) = after_moves (after_move round m) ms

-- moves may be made of a round, and make another one of it
abbrev pub MoveTo : List LiveSlot → List Move → List LiveSlot → Type 0
MoveTo round ms after = MayMoveAll (slots_of round) ms × (slots_of after ≡ after_moves (slots_of round) ms)

-- a turn of a board: the slot of its line gives, and those before it in the round, which were asked, gave nothing
pub record GivesBehind (due : LiveSlot → Bool) (now : ℕ) (items : List Item) (b : Board) (t : RoundLine) : Type 0 where
  pub asked : List LiveSlot
  pub vain : Each (λ v. (live_turn due items b.lines v).came ≡ None) asked
  pub moved : MoveTo b.round (Gave (slot_of t.live) (slots_of asked) ∷ []) (taken_in due now items b).round

-- the moves by which slots join in their order
abbrev pub joins_of : List LiveSlot → List Move
joins_of vs = map (λ v. Joined (slot_of v)) vs
