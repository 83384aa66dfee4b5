-- The numbered lines that a session's history says were given (TLCP 2.1, session life and recovery).
use Rattle.std.specs.Prelude.{◌≡◌, ◌≤◌, length, ℕ, zero, suc, ◌+◌, List, [], ◌∷◌, ◌++◌}
use Rattle.ls_register.specs.declared.told.Told.{Told}
use Rattle.ls_register.specs.declared.told.Told.TheVariants.{Gave, Bound}
use Rattle.ls_told.specs.Spoken.{Spoken, text_in, Next, GivesEnd, GivesOwed, GivesLoop, GivesLine, GivesNothing, next_of}
use Rattle.ls_told.specs.Heard.{hears, heard_after}

-- the text of a numbered line that is to be given next
abbrev pub line_of_next : Next → List (List ℕ)
line_of_next (GivesEnd code) = []
line_of_next (GivesOwed text) = []
line_of_next GivesLoop = []
line_of_next (GivesLine text) = text ∷ []
line_of_next GivesNothing = []

-- the text of the numbered line that an entry gives, after what was told before
abbrev pub line_given : Spoken → Told → List (List ℕ)
line_given s (Gave epoch text tick) = line_of_next (next_of s)
line_given s e = []

-- those that entries give, in order
abbrev pub lines_given : ℕ → Spoken → List Told → List (List ℕ)
lines_given number s [] = []
lines_given number s (e ∷ es) = line_given s e ++ lines_given number (hears number s e) es

-- the texts of so many numbered lines after a number, where the newest of all stands first
abbrev pub lines_after : List (List ℕ) → ℕ → ℕ → List (List ℕ)
lines_after texts n zero = []
lines_after texts n (suc k) = text_in texts (n + 1) ∷ lines_after texts (n + 1) k

-- no stream is bound by these entries
abbrev pub BindsNone : Told → Type 0
BindsNone (Bound epoch from counted keepalive content) = ⊥
BindsNone e = Unit {0}

abbrev pub BindNone : List Told → Type 0
BindNone [] = Unit {0}
BindNone (e ∷ es) = BindsNone e × BindNone es

-- lines were given in order: so many, after the number of the one that was given before
pub record InOrder (number : ℕ) (s : Spoken) (es : List Told) : Type 0 where
  pub count : ℕ
  pub sent : (heard_after number s es).sent ≡ s.sent + count
  pub lines : lines_given number s es ≡ lines_after (heard_after number s es).texts s.sent count
  pub within : (heard_after number s es).sent ≤ length (heard_after number s es).texts
