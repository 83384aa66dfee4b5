-- What an answer of `message` and of `between` says of the counts, the log and the bytes.
use Rattle.std.specs.Prelude.{◌≡◌, ℕ, ◌≤◌, List, [], ◌∷◌, length, Bool, true, false, ⊤, ◌⊎◌}
use Rattle.std.specs.declared.option.Option.{Option}
use Rattle.std.specs.Str.{IsUtf8}
use Rattle.ls_outside.specs.Causes.{one_more}
use Rattle.ls_talk.specs.Lines.{Counts, Logs}
use Rattle.ls_talk.specs.declared.talk.TheConstants.{LONGEST_MESSAGE}
use Rattle.ls_talk.specs.declared.talk.Happening.{Happening}
use Rattle.ls_talk.specs.declared.talk.Happening.TheVariants as happening
use Rattle.ls_talk.specs.declared.talk.Incoming.{Incoming}
use Rattle.ls_talk.specs.declared.talk.Incoming.TheVariants as incoming
use Rattle.ls_talk.specs.declared.wire.Between.{Between}
use Rattle.ls_talk.specs.declared.wire.Between.TheVariants as between

-- a text that came is UTF-8 and not too long
abbrev pub IsMessage : Incoming → Type 0
IsMessage (incoming.Text text) = (length text ≤ LONGEST_MESSAGE) × IsUtf8 text
IsMessage answer = ⊤

-- what an answer makes of the counts before it (c, and f of puts) and after it (d, g): each rises by one with its own
-- answer alone. A failure is one of reading or, since pings and closes are answered, one of writing.
abbrev pub CountsMessage : Incoming → Counts → Counts → ℕ → ℕ → Type 0
CountsMessage incoming.NotYet c d f g = (d ≡ record c { idles = one_more c.idles }) × (g ≡ f)
CountsMessage incoming.Closed c d f g = (d ≡ record c { closes = one_more c.closes }) × (g ≡ f)
CountsMessage incoming.Failed c d f g =
    ((d ≡ record c { faults = one_more c.faults }) × (g ≡ f)) ⊎ ((d ≡ c) × (g ≡ one_more f))
CountsMessage answer c d f g = (d ≡ c) × (g ≡ f)

-- no count falls, and each rises with its own answer alone
pub record HasMessageCause (answer : Incoming) (c d : Counts) (f g : ℕ) : Type 0 where
  pub faults : c.faults ≤ d.faults
  pub idles : c.idles ≤ d.idles
  pub closes : c.closes ≤ d.closes
  pub puts : f ≤ g
  pub counts : CountsMessage answer c d f g

-- what an answer makes of the log: it is added, unless it says that there is no memory
abbrev pub LogsAnswer : Option (List Happening) → Option (List Happening) → Incoming → Type 0
LogsAnswer old new incoming.NoMemory = Logs old new []
LogsAnswer old new answer = Logs old new (happening.Answer answer ∷ [])

-- all that was held back is written and no write failed, or one failed
pub record LetsGo (whole : Bool) (f g : ℕ) : Type 0 where
  pub later : f ≤ g
  pub all : whole ≡ true → g ≡ f
  pub part : whole ≡ false → g ≡ one_more f

-- what an answer of `between` makes of the count of leaves: it rises by one with `Left` alone
abbrev pub CountsBetween : Between → ℕ → ℕ → Type 0
CountsBetween between.Go l m = m ≡ l
CountsBetween between.Left l m = m ≡ one_more l

-- no count falls, and that of leaves rises with `Left` alone
pub record HasBetweenCause (answer : Between) (c d : Counts) (f g : ℕ) : Type 0 where
  pub faults : c.faults ≤ d.faults
  pub idles : c.idles ≤ d.idles
  pub closes : c.closes ≤ d.closes
  pub puts : f ≤ g
  pub later : c.leaves ≤ d.leaves
  pub counts : CountsBetween answer c.leaves d.leaves

-- a told log stays, and some may be added
abbrev pub LogsMore : Option (List Happening) → Option (List Happening) → Type 0
LogsMore log log2 = (more : List Happening) × Logs log log2 more
