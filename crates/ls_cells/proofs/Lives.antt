-- The slots of all sessions, by the session and by the place in its round.
use Rattle.std.proofs.Common.{◌≡◌, ℕ, zero, suc, ◌+◌, List, [], ◌∷◌, ◌++◌, take, drop, refl, sym, ◌∙◌, ap, arith, subst}
use Rattle.std.proofs.Common.{Some, None, slice_get, append-nil}
use Rattle.std.proofs.lemmas.Bool.{ne_eqb}
use Rattle.std.proofs.lemmas.Grind.{flat_map-append}
use Rattle.std.proofs.lemmas.List.{append_assoc}
use Rattle.std.proofs.lemmas.List.Concat.{flat_map-cons}
use Rattle.ls_value.specs.Each.{Each}
use Rattle.ls_record.specs.Records.{Item, Session, LiveSlot, all_live, change, greatest_of, least_free_from}
use Rattle.ls_cells.specs.Cells.{AllCells, StandsCells, free_in}
use Rattle.ls_cells.proofs.Numbers.{numbers_other}
use Rattle.ls_cells.proofs.Items.{change_self, cells_moved}

abbrev round_of_session : Session → List LiveSlot
round_of_session s = s.board.round

pub all_live_cons : (s : Session) (sessions : List Session) → all_live (s ∷ sessions) ≡ s.board.round ++ all_live sessions
all_live_cons s sessions = flat_map-cons round_of_session s sessions

-- the slots of the sessions before one, and of those behind it
pub record SessionAt (sessions : List Session) (n : ℕ) (s : Session) : Type 0 where
  pub before : List LiveSlot
  pub after : List LiveSlot
  pub all : all_live sessions ≡ before ++ (s.board.round ++ after)
  pub changed : (f : Session → Session) → all_live (change n f sessions) ≡ before ++ ((f s).board.round ++ after)

pub session_at : (sessions : List Session) (n : ℕ) (s : Session) → slice_get sessions n ≡ Some s → SessionAt sessions n s
session_at [] n s is = absurd (let x : None ≡ Some s = is in cc)
session_at (x ∷ sessions) zero s is =
    let same : x ≡ s = cc in
    record {
      before = [];
      after = all_live sessions;
      all = all_live_cons x sessions ∙ ap (λ (y : Session). y.board.round ++ all_live sessions) same;
      changed = λ f. all_live_cons (f x) sessions ∙ ap (λ (y : Session). (f y).board.round ++ all_live sessions) same;
    }
session_at (x ∷ sessions) (suc n) s is =
    let rest : SessionAt sessions n s = session_at sessions n s is in
    record {
      before = x.board.round ++ rest.before;
      after = rest.after;
      all = all_live_cons x sessions ∙ ap (λ vs. x.board.round ++ vs) rest.all ∙ sym (append_assoc x.board.round rest.before (s.board.round ++ rest.after));
      changed = λ f. all_live_cons x (change n f sessions) ∙ ap (λ vs. x.board.round ++ vs) (rest.changed f)
          ∙ sym (append_assoc x.board.round rest.before ((f s).board.round ++ rest.after));
    }

-- one more session, without a slot
pub all_live_more : (sessions : List Session) (s : Session) → s.board.round ≡ [] → all_live (sessions ++ s ∷ []) ≡ all_live sessions
all_live_more sessions s none =
    flat_map-append round_of_session sessions (s ∷ []) ∙ ap (λ vs. all_live sessions ++ vs) (all_live_cons s [] ∙ ap (λ vs. vs ++ all_live []) none)
    ∙ append-nil (all_live sessions)

-- a list by the place of one of its elements
changed_at : {A : Type 0} (xs : List A) (k : ℕ) (x : A) (g : A → A) → slice_get xs k ≡ Some x → change k g xs ≡ take k xs ++ g x ∷ drop (suc k) xs
changed_at [] k x g is = absurd (let y : None ≡ Some x = is in cc)
changed_at (y ∷ xs) zero x g is = let same : y ≡ x = cc in ap (λ z. g z ∷ xs) same
changed_at (y ∷ xs) (suc k) x g is = ap (λ zs. y ∷ zs) (changed_at xs k x g is)

pub split_change : {A : Type 0} (xs : List A) (k : ℕ) (x : A) (g : A → A) → slice_get xs k ≡ Some x
    → change k g xs ≡ take k xs ++ g x ∷ drop (k + 1) xs
split_change xs k x g is = changed_at xs k x g is ∙ ap (λ n. take k xs ++ g x ∷ drop n xs) {x = suc k} {y = k + 1} (omega arith)

pub split_at : {A : Type 0} (xs : List A) (k : ℕ) (x : A) → slice_get xs k ≡ Some x → xs ≡ take k xs ++ x ∷ drop (k + 1) xs
split_at xs k x is = sym (change_self k xs) ∙ split_change xs k x (λ y. y) is

-- one element between others, in the middle of a list
pub middle : {A : Type 0} (before a b after : List A) (x : A) → before ++ ((a ++ x ∷ b) ++ after) ≡ (before ++ a) ++ x ∷ (b ++ after)
middle before a b after x = ap (λ zs. before ++ zs) (append_assoc a (x ∷ b) after) ∙ sym (append_assoc before a (x ∷ (b ++ after)))

pub middle_out : {A : Type 0} (before a b after : List A) → before ++ ((a ++ b) ++ after) ≡ (before ++ a) ++ (b ++ after)
middle_out before a b after = ap (λ zs. before ++ zs) (append_assoc a b after) ∙ sym (append_assoc before a (b ++ after))

-- a slot of a session's round is one of all, and the others are before it and behind it
pub record LiveAt (sessions : List Session) (n : ℕ) (s : Session) (k : ℕ) (v : LiveSlot) : Type 0 where
  pub before : List LiveSlot
  pub after : List LiveSlot
  pub all : all_live sessions ≡ before ++ v ∷ after
  pub changed : (f : Session → Session) (g : LiveSlot → LiveSlot) → (f s).board.round ≡ change k g s.board.round
      → all_live (change n f sessions) ≡ before ++ g v ∷ after

pub live_in : (sessions : List Session) (n : ℕ) (s : Session) (k : ℕ) (v : LiveSlot) → slice_get sessions n ≡ Some s → slice_get s.board.round k ≡ Some v
    → LiveAt sessions n s k v
live_in sessions n s k v at here =
    let x : SessionAt sessions n s = session_at sessions n s at in
    record {
      before = x.before ++ take k s.board.round;
      after = drop (k + 1) s.board.round ++ x.after;
      all = x.all ∙ ap (λ vs. x.before ++ (vs ++ x.after)) (split_at s.board.round k v here)
          ∙ middle x.before (take k s.board.round) (drop (k + 1) s.board.round) x.after v;
      changed = λ f g is. x.changed f ∙ ap (λ vs. x.before ++ (vs ++ x.after)) (is ∙ split_change s.board.round k v g here)
          ∙ middle x.before (take k s.board.round) (drop (k + 1) s.board.round) x.after (g v);
    }

-- a slot on another item leaves the least free number
pub free_other : (item : ℕ) (a b : List LiveSlot) (v : LiveSlot) → (item ≡ v.item → ⊥) → free_in (a ++ v ∷ b) item ≡ free_in (a ++ b) item
free_other item a b v other = ap (λ ns. least_free_from (greatest_of ns) 1 ns) (numbers_other item a b v (ne_eqb item v.item other))

-- and so do several
pub free_others : (item : ℕ) (vs rest : List LiveSlot) → Each (λ v. item ≡ v.item → ⊥) vs → free_in (vs ++ rest) item ≡ free_in rest item
free_others item [] rest others = refl
free_others item (v ∷ vs) rest others = free_other item [] (vs ++ rest) v others.0 ∙ free_others item vs rest others.1

-- a slot comes later, or earlier, among the slots of all sessions
pub cells_later : (k : AllCells) (items : List Item) (a b c : List LiveSlot) (v : LiveSlot) → StandsCells k items (a ++ v ∷ b ++ c)
    → StandsCells k items (a ++ b ++ v ∷ c)
cells_later k items a b c v st =
    cells_moved k items a (b ++ c) (a ++ b) c v (sym (append_assoc a b c)) (subst (StandsCells k items) (append_assoc a (v ∷ b) c) st)

pub cells_earlier : (k : AllCells) (items : List Item) (a b c : List LiveSlot) (v : LiveSlot) → StandsCells k items (a ++ b ++ v ∷ c)
    → StandsCells k items (a ++ v ∷ b ++ c)
cells_earlier k items a b c v st =
    subst (StandsCells k items) (sym (append_assoc a (v ∷ b) c)) (cells_moved k items (a ++ b) c a (b ++ c) v (append_assoc a b c) st)

-- a slot has another place in its session's round
pub cells_turned : (k : AllCells) (items : List Item) (before after a b c d : List LiveSlot) (v : LiveSlot) → a ++ b ≡ c ++ d
    → StandsCells k items (before ++ ((a ++ v ∷ b) ++ after)) → StandsCells k items (before ++ ((c ++ v ∷ d) ++ after))
cells_turned k items before after a b c d v same st =
    subst (StandsCells k items) (sym (middle before c d after v))
    (cells_moved k items (before ++ a) (b ++ after) (before ++ c) (d ++ after) v
    (sym (middle_out before a b after) ∙ ap (λ vs. before ++ (vs ++ after)) same ∙ middle_out before c d after)
    (subst (StandsCells k items) (middle before a b after v) st))
