-- How the slots of a new subscription joined their items (General Concepts, modes, buffers and snapshots).
use Rattle.std.specs.Prelude.{◌≡◌, ℕ, ◌+◌, List, [], ◌∷◌}
use Rattle.ls_record.specs.Cutting.{Ask}
use Rattle.ls_record.specs.Records.{Item, LiveSlot, joined_slot}

-- a slot of a rank in a subscription, which joined as is asked and has this number on its item
abbrev pub joins_as : List Item → ℕ → ℕ → Ask → ℕ → LiveSlot
joins_as items sub rank a number =
    record {
      sub = sub;
      rank = rank;
      item = a.item;
      number = number;
      frequency = a.frequency;
      wanted = a.wanted;
      slot = joined_slot items a;
    }

-- one for each that is asked for, in order
abbrev pub AreJoined : List Item → ℕ → ℕ → List Ask → List LiveSlot → Type 0
AreJoined items sub rank [] [] = Unit {0}
AreJoined items sub rank [] (v ∷ vs) = ⊥
AreJoined items sub rank (a ∷ asks) [] = ⊥
AreJoined items sub rank (a ∷ asks) (v ∷ vs) =
    (v ≡ joins_as items sub rank a v.number) × AreJoined items sub (rank + 1) asks vs
