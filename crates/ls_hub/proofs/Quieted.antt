-- Slots that moved past cuts that make no line, one after another.
use Rattle.std.proofs.Common.{◌≡◌, ℕ, zero, suc, List, [], ◌∷◌, refl, sym, ◌∙◌, ap, subst, Some, None, slice_get}
use Rattle.ls_event.specs.declared.event.Taken.{Taken}
use Rattle.ls_event.specs.Cuts.{cut}
use Rattle.ls_record.specs.Lines.{Line}
use Rattle.ls_record.specs.Records.{Item, LiveSlot, Session, history_of, change, on_board}
use Rattle.ls_subs.specs.Standing.{what_of, passed_live, passed_at}
use Rattle.ls_record.specs.Quiet.{IsPast, ArePast, IsQuiet, AreQuiet}

past_then : (n : ℕ) (items : List Item) (lines : List Line) (v u w : LiveSlot) → (k : ℕ) × IsPast k items lines v u → IsPast n items lines u w
    → (k : ℕ) × IsPast k items lines v w
past_then zero items lines v u w a is = subst (λ (x : LiveSlot). (k : ℕ) × IsPast k items lines v x) (sym is) a
past_then (suc n) items lines v u w a (x, t, p, cuts, none, is) =
    let r = past_then n items lines v u x a p in (suc r.0, (x, t, r.1, cuts, none, is))

all_self : (items : List Item) (lines : List Line) (vs : List LiveSlot) → ArePast items lines vs vs
all_self items lines [] = tt
all_self items lines (v ∷ vs) = ((zero, refl), all_self items lines vs)

all_then : (items : List Item) (lines : List Line) (vs us ws : List LiveSlot) → ArePast items lines vs us → ArePast items lines us ws
    → ArePast items lines vs ws
all_then items lines [] [] ws a b = b
all_then items lines [] (u ∷ us) ws a b = absurd a
all_then items lines (v ∷ vs) [] ws a b = absurd a
all_then items lines (v ∷ vs) (u ∷ us) [] a b = absurd b
all_then items lines (v ∷ vs) (u ∷ us) (w ∷ ws) a b = (past_then b.0.0 items lines v u w a.0 b.0.1, all_then items lines vs us ws a.1 b.1)

one_past : (items : List Item) (lines : List Line) (vs : List LiveSlot) (n : ℕ) (v : LiveSlot) (t : Taken) → slice_get vs n ≡ Some v
    → cut (history_of items v.item) v.slot ≡ Some t → what_of lines v t ≡ None → ArePast items lines vs (change n (passed_live t) vs)
one_past items lines [] n v t at is none = tt
one_past items lines (u ∷ vs) zero v t at is none =
    let same : u ≡ v = cc in
    let past : IsPast 1 items lines v (passed_live t v) = (v, t, refl, is, none, refl) in
    (subst (λ (x : LiveSlot). (k : ℕ) × IsPast k items lines x (passed_live t x)) (sym same) (1, past), all_self items lines vs)
one_past items lines (u ∷ vs) (suc n) v t at is none = ((zero, refl), one_past items lines vs n v t at is none)

pub quiet_self : (items : List Item) (s : Session) → IsQuiet items s s
quiet_self items s = record { rest = refl; round = all_self items s.board.lines s.board.round }

pub quiet_then : (items : List Item) (r s t : Session) → IsQuiet items r s → IsQuiet items s t → IsQuiet items r t
quiet_then items r s t a b =
    record {
      rest = b.rest ∙ ap (on_board (λ x. record x { round = t.board.round })) a.rest;
      round = all_then items r.board.lines r.board.round s.board.round t.board.round a.round
          (subst (λ (lines : List Line). ArePast items lines s.board.round t.board.round) (ap (λ (x : Session). x.board.lines) a.rest) b.round);
    }

pub quiet_past : (items : List Item) (s : Session) (n : ℕ) (v : LiveSlot) (t : Taken) → slice_get s.board.round n ≡ Some v
    → cut (history_of items v.item) v.slot ≡ Some t → what_of s.board.lines v t ≡ None
    → IsQuiet items s (on_board (λ b. record b { round = passed_at n t b.round }) s)
quiet_past items s n v t at is none = record { rest = refl; round = one_past items s.board.lines s.board.round n v t at is none }

-- no session moved, or one
pub quiet_all : (items : List Item) (ss : List Session) → AreQuiet items ss ss
quiet_all items [] = tt
quiet_all items (s ∷ ss) = (quiet_self items s, quiet_all items ss)

pub quiet_at : (items : List Item) (ss : List Session) (n : ℕ) (s t : Session) → slice_get ss n ≡ Some s → IsQuiet items s t
    → AreQuiet items ss (change n (λ x. t) ss)
quiet_at items [] n s t at q = tt
quiet_at items (x ∷ ss) zero s t at q =
    let same : x ≡ s = cc in
    (subst (λ (y : Session). IsQuiet items y t) (sym same) q, quiet_all items ss)
quiet_at items (x ∷ ss) (suc n) s t at q = (quiet_self items x, quiet_at items ss n s t at q)
