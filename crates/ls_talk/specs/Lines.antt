-- What a put does to what went out and to the counts (this project's profile: one line, and its CR LF).
use Rattle.std.specs.Prelude.{◌≡◌, ℕ, ◌<◌, ◌≤◌, List, [], ◌∷◌, ◌++◌, length, take, Result, Ok, Err, ⊤, None, Some}
use Rattle.std.specs.declared.option.Option.{Option}
use Rattle.std.specs.Borrow.{GName}
use Rattle.std.specs.Io.KnownBytes.{Appends, Keeps}
use Rattle.ls_outside.specs.Causes.{one_more}
use Rattle.ls_talk.specs.declared.line_out.PutRefused.{PutRefused}
use Rattle.ls_talk.specs.declared.line_out.PutRefused.TheVariants as refused
use Rattle.ls_talk.specs.declared.talk.Happening.{Happening}
use Rattle.ls_talk.specs.declared.talk.Happening.TheVariants as happening

-- the counts that no put changes: faults of reading, idle calls, closes, and leaves
pub record Counts : Type 0 where
  pub faults : ℕ
  pub idles : ℕ
  pub closes : ℕ
  pub leaves : ℕ

-- of what only lines are put to
abbrev pub no_counts : Counts
no_counts = record { faults = 0; idles = 0; closes = 0; leaves = 0 }

-- what was lent: the reference, and what was behind it then
pub record Lender : Type 0 where
  pub name : GName
  pub held : Option (List ℕ)

-- of what holds no reference
abbrev pub no_lender : Option Lender
no_lender = None

-- a line as it goes out: its text and CR LF
abbrev pub line_bytes : List ℕ → List ℕ
line_bytes text = text ++ 13 ∷ 10 ∷ []

-- a log that is told grows by these happenings
abbrev pub Logs : Option (List Happening) → Option (List Happening) → List Happening → Type 0
Logs None new more = ⊤
Logs (Some xs) None more = ⊥
Logs (Some xs) (Some ys) more = ys ≡ xs ++ more

-- what a put makes of the bytes that went out: the whole line is added, or a part of it that is less than all, or
-- nothing
abbrev pub PutsOf : {A : Type 0} → Option (List ℕ) → Option (List ℕ) → Result A PutRefused → List ℕ → Type 0
PutsOf old new (Ok x) text = Appends old new (line_bytes text)
PutsOf old new (Err refused.Failed) text =
    (k : ℕ) × (k < length (line_bytes text)) × Appends old new (take k (line_bytes text))
PutsOf old new (Err refused.NoMemory) text = Keeps old new

-- what a put makes of the log: the line, or the part of it that went out, or nothing
abbrev pub LogsPut : {A : Type 0} → Option (List Happening) → Option (List Happening) → Result A PutRefused → List ℕ → Type 0
LogsPut old new (Ok x) text = Logs old new (happening.Line text ∷ [])
LogsPut old new (Err refused.Failed) text =
    (k : ℕ) × (k < length (line_bytes text)) × Logs old new (happening.Part (take k (line_bytes text)) ∷ [])
LogsPut old new (Err refused.NoMemory) text = Logs old new []

-- what an answer of a put makes of the count of faults: it rises by one with a failure alone
abbrev pub CountsPut : {A : Type 0} → Result A PutRefused → ℕ → ℕ → Type 0
CountsPut (Ok x) f g = g ≡ f
CountsPut (Err refused.Failed) f g = g ≡ one_more f
CountsPut (Err refused.NoMemory) f g = g ≡ f

-- the count of faults never falls, and rises with a failure alone
pub record HasPutCause {A : Type 0} (answer : Result A PutRefused) (f g : ℕ) : Type 0 where
  pub later : f ≤ g
  pub counts : CountsPut answer f g
