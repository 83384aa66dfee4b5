-- The slots of a session are told apart by their subscription and rank.
use Rattle.std.specs.Prelude.{◌≡◌, List, [], ◌∷◌, false}
use Rattle.ls_record.specs.Records.{LiveSlot, is_at}
use Rattle.ls_value.specs.Each.{Each}

-- no two slots of a session are of one rank in one subscription
abbrev pub Apart : List LiveSlot → Type 0
Apart [] = Unit {0}
Apart (v ∷ vs) = Each (λ u. is_at v.sub v.rank u ≡ false) vs × Apart vs
