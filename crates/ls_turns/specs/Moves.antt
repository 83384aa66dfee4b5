-- What happens to a round of slots (this project's profile).
use Rattle.std.specs.Prelude.{◌≡◌, ℕ, List, [], ◌∷◌, ◌++◌, Bool, not, ◌==◌, ◌&&◌, true, false}
use Rattle.std.specs.List.{filter, list_any, Contains}
use Rattle.ls_turns.specs.declared.slot_ref.SlotRef.{SlotRef}
use Rattle.ls_turns.specs.Round.{Round, slots_of}

-- a slot gave a line, in a turn that asked these before it in vain; a slot joined; a subscription's slots left
pub data Move : Type 0 where
  Gave : SlotRef → List SlotRef → Move
  Joined : SlotRef → Move
  Left : ℕ → Move

-- whether two slots are of one place of one subscription
abbrev pub is_same : SlotRef → SlotRef → Bool
is_same a b = a.sub == b.sub && a.place == b.place

-- a turn asks the slots in order up to the one that gives; a slot that joins isn't in the round
abbrev pub MayMove : List SlotRef → Move → Type 0
MayMove round (Gave a asked) = (behind : List SlotRef) × (round ≡ asked ++ a ∷ behind)
MayMove round (Joined a) = list_any (is_same a) round ≡ false
MayMove round (Left sub) = Unit {0}

-- the round after a move: a slot that gave is the last, and so is one that joined
abbrev pub after_move : List SlotRef → Move → List SlotRef
after_move round (Gave a asked) = filter (λ b. not (is_same a b)) round ++ a ∷ []
after_move round (Joined a) = round ++ a ∷ []
after_move round (Left sub) = filter (λ b. not (b.sub == sub)) round

-- a move may be made of a round's slots, and makes those of another of them
abbrev pub IsMoved : Move → Round → Round → Type 0
IsMoved m r q = MayMove (slots_of r) m × (slots_of q ≡ after_move (slots_of r) m)

-- the slot of a place in a subscription gave, behind those that stood before it
pub record GivesAt (sub place : ℕ) (r q : Round) : Type 0 where
  pub slot : SlotRef
  pub asked : List SlotRef
  pub sub_is : slot.sub ≡ sub
  pub place_is : slot.place ≡ place
  pub moved : IsMoved (Gave slot asked) r q

-- these moves may be made one after another
abbrev pub MayMoveAll : List SlotRef → List Move → Type 0
MayMoveAll round [] = Unit {0}
MayMoveAll round (m ∷ ms) = MayMove round m × MayMoveAll (after_move round m) ms

-- a slot stays in the round: its subscription's slots don't leave
abbrev pub Stays : SlotRef → List Move → Type 0
Stays b ms = Contains ms (Left b.sub) → ⊥

-- a slot gave a line
abbrev pub HasGiven : SlotRef → List Move → Type 0
HasGiven b ms = (c : SlotRef) × (asked : List SlotRef) × Contains ms (Gave c asked) × (is_same c b ≡ true)
