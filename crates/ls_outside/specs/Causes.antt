-- What a read and a write do to the bytes and to the counts of an object of the outside.
use Rattle.std.specs.Prelude.{◌≡◌, ℕ, ◌+◌, ◌-◌, ◌^◌, ◌<◌, ◌≤◌, min, List, length, take}
use Rattle.std.specs.declared.option.Option.{Option}
use Rattle.std.specs.Io.KnownBytes.{Consumes, Appends, Keeps, IsAtEnd}
use Rattle.ls_outside.specs.declared.source.Got.{Got}
use Rattle.ls_outside.specs.declared.source.Got.TheVariants as got
use Rattle.ls_outside.specs.declared.sink.Put.{Put}
use Rattle.ls_outside.specs.declared.sink.Put.TheVariants as put

-- a count after one more, which stands still at its type's end
abbrev pub one_more : ℕ → ℕ
one_more count = min (count + 1) (2 ^ 64 - 1)

-- a count rose by at least n, or stands at its type's end
abbrev pub RoseBy : ℕ → ℕ → ℕ → Type 0
RoseBy n before now = min (before + n) (2 ^ 64 - 1) ≤ now

-- a count rose, or stands at its type's end
abbrev pub Rose : ℕ → ℕ → Type 0
Rose before now = min (before + 1) (2 ^ 64 - 1) ≤ now

-- what an answer of a read says of the bytes that weren't read before it and after it, and of the piece
abbrev pub Gives : Option (List ℕ) → Option (List ℕ) → Got → List ℕ → Type 0
Gives old new (got.Bytes k) piece = (0 < k) × (k ≤ length piece) × Consumes old new (take k piece)
Gives old new got.End piece = Keeps old new × IsAtEnd new
Gives old new got.NotYet piece = Keeps old new
Gives old new got.Failed piece = Keeps old new

-- what an answer of a read makes of the counts of faults and of idle calls: each rises by one with its own answer alone
abbrev pub CountsRead : Got → ℕ → ℕ → ℕ → ℕ → Type 0
CountsRead (got.Bytes k) f g i j = (g ≡ f) × (j ≡ i)
CountsRead got.End f g i j = (g ≡ f) × (j ≡ i)
CountsRead got.NotYet f g i j = (g ≡ f) × (j ≡ one_more i)
CountsRead got.Failed f g i j = (g ≡ one_more f) × (j ≡ i)

-- the counts of a source never fall, and each rises with its own answer alone
pub record HasReadCause (answer : Got) (f g i j : ℕ) : Type 0 where
  pub later : f ≤ g
  pub idles : i ≤ j
  pub counts : CountsRead answer f g i j

-- what an answer of a write says of the bytes held before and after, and of the piece
abbrev pub TakesOf : Option (List ℕ) → Option (List ℕ) → Put → List ℕ → Type 0
TakesOf old new (put.Taken k) piece = (k ≤ length piece) × (0 < length piece → 0 < k) × Appends old new (take k piece)
TakesOf old new put.Failed piece = Keeps old new

-- what an answer of a write makes of the count of faults: it rises by one with a failure alone
abbrev pub CountsWrite : Put → ℕ → ℕ → Type 0
CountsWrite (put.Taken k) f g = g ≡ f
CountsWrite put.Failed f g = g ≡ one_more f

-- the count of a sink never falls, and rises with a failure alone
pub record HasWriteCause (answer : Put) (f g : ℕ) : Type 0 where
  pub later : f ≤ g
  pub counts : CountsWrite answer f g

-- all of the piece is written, or a part of it that is less than all
abbrev pub WritesAll : Option (List ℕ) → Option (List ℕ) → Put → List ℕ → Type 0
WritesAll old new (put.Taken k) piece = (k ≡ length piece) × Appends old new piece
WritesAll old new put.Failed piece = (k : ℕ) × (k < length piece) × Appends old new (take k piece)
