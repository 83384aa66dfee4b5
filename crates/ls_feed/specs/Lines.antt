-- The bytes of a feed as lines, and its first line (this project's profile).
use Rattle.std.specs.Prelude.{◌≡◌, ◌==◌, ◌<◌, ◌≤◌, ℕ, List, [], ◌∷◌, ◌++◌, length, false, Option, None}
use Rattle.std.specs.Prelude.{codes, if◌then◌else◌, option_and_then, flat_map}
use Rattle.ls_value.specs.Values.{text_eq}
use Rattle.ls_words.specs.Words.{Halves, split_once}
use Rattle.ls_words.specs.Numbers.{number_in}
use Rattle.ls_event.specs.declared.limits.TheConstants.{MOST_ADAPTERS}
use Rattle.ls_lines.specs.Lines.{IsPlain, ended, AreLines as AreLinesWithin, AreTooLong as AreTooLongFor}
use Rattle.ls_feed.specs.declared.limits.TheConstants.{LONGEST_LINE}

-- bytes are these lines, none longer than a line of a feed may be, each with its LF, and a rest behind them
abbrev pub AreLines : List ℕ → List (List ℕ) → List ℕ → Type 0
AreLines bytes lines rest = AreLinesWithin LONGEST_LINE bytes lines rest

-- bytes begin with a line that is too long
abbrev pub AreTooLong : List ℕ → Type 0
AreTooLong bytes = AreTooLongFor LONGEST_LINE bytes

-- the adapter that a hello names, by what stands before and behind its first space: `feed` and a number
abbrev pub hello_said : Halves → Option ℕ
hello_said h = if text_eq h.front (codes "feed") then number_in h.back 1 MOST_ADAPTERS else None

-- the adapter that a first line names, if it is a hello
abbrev pub hello_of : List ℕ → Option ℕ
hello_of line = option_and_then hello_said (split_once 32 line)

-- bytes begin with a line that is no hello
pub record BeginOtherwise (bytes : List ℕ) : Type 0 where
  pub line : List ℕ
  pub behind : List ℕ
  pub text : bytes ≡ ended line ++ behind
  pub plain : IsPlain line
  pub none : hello_of line ≡ None
