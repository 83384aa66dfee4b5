-- The lines of a session as its history tells them, and the subscriptions that they begin and end (TLCP 2.1,
-- subscriptions and notifications).
use Rattle.std.specs.Prelude.{◌≡◌, ◌==◌, ℕ, List, [], ◌∷◌, Bool, true, false, None, Some, IsSome, if◌then◌else◌}
use Rattle.ls_turns.specs.declared.slot_ref.SlotRef.{SlotRef}
use Rattle.ls_record.specs.Came.{Came}
use Rattle.ls_record.specs.Lines.{Line, Begins, Ends, Configures, Answers, Tells}
use Rattle.ls_record.specs.Records.{Session, is_alive, is_used}
use Rattle.ls_register.specs.declared.told.Told.{Told}
use Rattle.ls_register.specs.declared.told.Told.TheVariants.{Numbered}
use Rattle.ls_register.specs.declared.told.Numbered.{Numbered as NumberedLine}
use Rattle.ls_told.specs.Heard.{told_from}

-- the lines that entries say were numbered, the newest first
abbrev pub numbered_or : List NumberedLine → Told → List NumberedLine
numbered_or ns (Numbered n) = n ∷ ns
numbered_or ns e = ns

abbrev pub numbered_of : List Told → List NumberedLine
numbered_of es = told_from numbered_or [] es

-- an entry is of a line that tells of a slot at a tick, and of what came by it
pub record TellsOf (n : NumberedLine) (sub rank tick : ℕ) (c : Came) : Type 0 where
  pub slot : SlotRef
  pub is : n.slot ≡ Some slot
  pub sub_is : slot.sub ≡ sub
  pub rank_is : slot.place ≡ rank
  pub tick_is : n.tick ≡ tick
  pub before : n.before ≡ c.before
  pub upto : n.upto ≡ c.upto
  pub at : n.at ≡ c.at
  pub begun : n.begun ≡ None

-- an entry is of a line without a slot
pub record HasNoSlot (n : NumberedLine) : Type 0 where
  pub slot : n.slot ≡ None
  pub before : n.before ≡ 0
  pub upto : n.upto ≡ 0
  pub at : n.at ≡ 0

-- of one with which a subscription begins, and of another one
pub record BeginsOf (n : NumberedLine) : Type 0 where
  pub plain : HasNoSlot n
  pub begun : IsSome n.begun

pub record IsPlain (n : NumberedLine) : Type 0 where
  pub plain : HasNoSlot n
  pub begun : n.begun ≡ None

-- an entry is of a line: it names the slot of one that tells, its cut and its tick; other lines have none, and the one
-- with which a subscription begins says with what
abbrev pub IsOf : NumberedLine → Line → Type 0
IsOf n (Begins sub items fields keys) = BeginsOf n
IsOf n (Ends sub) = IsPlain n
IsOf n (Configures sub frequency filtered) = IsPlain n
IsOf n (Answers outcome) = IsPlain n
IsOf n (Tells sub rank tick c) = TellsOf n sub rank tick c

-- so is each of the entries, one for each line
abbrev pub AreOf : List NumberedLine → List Line → Type 0
AreOf [] [] = Unit {0}
AreOf [] (l ∷ ls) = ⊥
AreOf (n ∷ ns) [] = ⊥
AreOf (n ∷ ns) (l ∷ ls) = IsOf n l × AreOf ns ls

-- whether lines began a subscription and didn't end it since; the newest line stands first
abbrev pub is_open : ℕ → List Line → Bool
is_open sub [] = false
is_open sub (Begins s items fields keys ∷ lines) = if s == sub then true else is_open sub lines
is_open sub (Ends s ∷ lines) = if s == sub then false else is_open sub lines
is_open sub (Configures s frequency filtered ∷ lines) = is_open sub lines
is_open sub (Answers outcome ∷ lines) = is_open sub lines
is_open sub (Tells s rank tick c ∷ lines) = is_open sub lines

-- the subscriptions of a session that hasn't ended are those that its lines began and didn't end
abbrev pub AreOpen : Session → Type 0
AreOpen s = is_alive s.life ≡ true → (sub : ℕ) → is_used sub s.board.round ≡ is_open sub s.board.lines
