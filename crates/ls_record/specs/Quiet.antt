-- What a session's turn leaves that gave no line: slots may have passed silent cuts, which are those that make none.
use Rattle.std.specs.Prelude.{◌≡◌, ℕ, zero, suc, List, [], ◌∷◌, None, Some}
use Rattle.ls_event.specs.declared.event.Taken.{Taken}
use Rattle.ls_event.specs.Cuts.{cut}
use Rattle.ls_event.specs.Slots.{passed}
use Rattle.ls_record.specs.Cutting.{what_of_cut}
use Rattle.ls_record.specs.Lines.{Line, came}
use Rattle.ls_record.specs.Records.{Item, LiveSlot, Session, history_of, on_board}

-- a slot passed so many silent cuts
abbrev pub IsPast : ℕ → List Item → List Line → LiveSlot → LiveSlot → Type 0
IsPast zero items lines v w = w ≡ v
IsPast (suc n) items lines v w =
    (u : LiveSlot) × (t : Taken) × IsPast n items lines v u × (cut (history_of items u.item) u.slot ≡ Some t)
    × (what_of_cut u.wanted u.slot (came u.sub u.rank lines) t ≡ None) × (w ≡ record u { slot = passed u.slot t })

-- each slot of a round did, and they stand in their order
abbrev pub ArePast : List Item → List Line → List LiveSlot → List LiveSlot → Type 0
ArePast items lines [] [] = Unit {0}
ArePast items lines [] (w ∷ ws) = ⊥
ArePast items lines (v ∷ vs) [] = ⊥
ArePast items lines (v ∷ vs) (w ∷ ws) = ((n : ℕ) × IsPast n items lines v w) × ArePast items lines vs ws

-- no line of a session was numbered or given, and all of it is as before, except that slots passed silent cuts
pub record IsQuiet (items : List Item) (s s' : Session) : Type 0 where
  pub rest : s' ≡ on_board (λ b. record b { round = s'.board.round }) s
  pub round : ArePast items s.board.lines s.board.round s'.board.round

-- nor of any session
abbrev pub AreQuiet : List Item → List Session → List Session → Type 0
AreQuiet items [] [] = Unit {0}
AreQuiet items [] (t ∷ ts) = ⊥
AreQuiet items (s ∷ ss) [] = ⊥
AreQuiet items (s ∷ ss) (t ∷ ts) = IsQuiet items s t × AreQuiet items ss ts
