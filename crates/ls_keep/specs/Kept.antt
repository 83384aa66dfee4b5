-- What is kept of numbered lines, and what it stands for.
use Rattle.std.specs.Prelude.{◌≡◌, ◌≤◌, ◌<◌, ◌-◌, ℕ, ◌+◌, ◌^◌, List, [], length, drop, All, Bool, true, false, ◌&&◌}
use Rattle.std.specs.Prelude.{nat_lt, nat_le, slice_get, Option, None, Some, unwrap_or, if◌then◌else◌}
use Rattle.ls_value.specs.declared.limits.TheConstants.{GREATEST_NUMBER}
use Rattle.ls_keep.specs.Keeping.{Numbered, bytes_of, may_keep}

-- the texts of the lines that are kept, in order; how many lines were given; the given-up number, behind which the
-- first one that is kept stands; the text of the line that was given up last; and for how many lines more there is room
pub record KeptLines : Type 0 where
  pub texts : List (List ℕ)
  pub sent : ℕ
  pub given_up : ℕ
  pub freed : List ℕ
  pub spare : ℕ

-- the bytes of the lines that are kept are counted, each line is short enough to be in memory, no line is given up that
-- wasn't given, and all numbers are in their order and range
pub record IsSound (bytes : ℕ) (texts : List (List ℕ)) (sent given_up : ℕ) : Type 0 where
  pub bytes_are : bytes ≡ bytes_of texts
  pub short : All (λ t. length t < 2 ^ 64) texts
  pub given : given_up ≤ sent
  pub numbered : sent ≤ given_up + length texts
  pub most : given_up + length texts ≤ GREATEST_NUMBER

-- it stands for numbered lines: those behind the given-up number are kept, and all numbers are in their order and range
pub record StandsKeep (k : KeptLines) (n : Numbered) : Type 0 where
  pub texts : k.texts ≡ drop n.given_up n.texts
  pub sent : k.sent ≡ n.sent
  pub given_up : k.given_up ≡ n.given_up
  pub given : n.given_up ≤ n.sent
  pub numbered : n.sent ≤ length n.texts
  pub most : length n.texts ≤ GREATEST_NUMBER

-- the number of the last line
abbrev pub last_of : KeptLines → ℕ
last_of k = k.given_up + length k.texts

-- whether the line of a number is kept, and its text
abbrev pub has_kept : KeptLines → ℕ → Bool
has_kept k n = nat_lt k.given_up n && nat_le n (last_of k)

abbrev pub kept_text : KeptLines → ℕ → Option (List ℕ)
kept_text k n = if has_kept k n then slice_get k.texts (n - (k.given_up + 1)) else None

-- the text of a line, by its number from 1; past the last line it is empty
abbrev pub text_of : List (List ℕ) → ℕ → List ℕ
text_of texts n = unwrap_or (slice_get texts (n - 1)) []

-- the text of the line that was given last: it is kept, or it was given up as it was given
abbrev pub given_of : KeptLines → List ℕ
given_of k = unwrap_or (kept_text k k.sent) k.freed

-- the first line that is kept is given up, and then there is so much room
abbrev pub first_given_up : ℕ → KeptLines → KeptLines
first_given_up spare k =
    record k { texts = drop 1 k.texts; given_up = k.given_up + 1; freed = text_of k.texts 1; spare = spare }

-- lines were given up in their order, each one as it was given and as the lines from it on were too many to keep or too
-- long; and the text of the last of them is still there, or the one before where none was
pub record GaveUp (old new : KeptLines) : Type 0 where
  pub texts : new.texts ≡ drop (new.given_up - old.given_up) old.texts
  pub sent : new.sent ≡ old.sent
  pub rose : old.given_up ≤ new.given_up
  pub given : new.given_up ≤ old.sent
  pub over : (n : ℕ) → old.given_up + n < new.given_up → may_keep old.texts n ≡ false
  pub freed : old.given_up < new.given_up → kept_text old new.given_up ≡ Some new.freed
  pub same : new.given_up ≡ old.given_up → new.freed ≡ old.freed
  pub room : old.spare ≤ new.spare

-- no more lines are to be given up: all that were given are, or those that are kept may be
abbrev pub IsTrim : KeptLines → Type 0
IsTrim k = k.given_up < k.sent → may_keep k.texts 0 ≡ true
