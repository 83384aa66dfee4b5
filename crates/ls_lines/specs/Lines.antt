-- Bytes as lines, each with the LF that ends it.
use Rattle.std.specs.Prelude.{◌≡◌, ◌==◌, ◌<◌, ◌≤◌, ◌-◌, ℕ, List, [], ◌∷◌, ◌++◌, length, take, false, flat_map}

-- no byte of these is LF
abbrev pub IsPlain : List ℕ → Type 0
IsPlain [] = Unit {0}
IsPlain (b ∷ bs) = ((b == 10) ≡ false) × IsPlain bs

-- a line, or a part of one, that is no longer than the limit: it holds no LF
pub record IsLine (limit : ℕ) (line : List ℕ) : Type 0 where
  pub plain : IsPlain line
  pub short : length line ≤ limit

-- each of these is a line
abbrev pub EachLine : ℕ → List (List ℕ) → Type 0
EachLine limit [] = Unit {0}
EachLine limit (line ∷ lines) = IsLine limit line × EachLine limit lines

-- a line with the LF that ends it
abbrev pub ended : List ℕ → List ℕ
ended line = line ++ 10 ∷ []

-- bytes are these lines, each with its LF, and a rest behind them
pub record AreLines (limit : ℕ) (bytes : List ℕ) (lines : List (List ℕ)) (rest : List ℕ) : Type 0 where
  pub text : bytes ≡ flat_map ended lines ++ rest
  pub each : EachLine limit lines

-- bytes begin with a line that is longer than the limit
pub record AreTooLong (limit : ℕ) (bytes : List ℕ) : Type 0 where
  pub line : List ℕ
  pub behind : List ℕ
  pub text : bytes ≡ line ++ behind
  pub plain : IsPlain line
  pub long : limit < length line

-- a cutter: the most bytes of a line, the line that ended last where it began in an earlier piece, and the bytes of a
-- line that hasn't ended
pub record Cutting : Type 0 where
  pub limit : ℕ
  pub joined : List ℕ
  pub carry : List ℕ

-- a line that was joined of several pieces, or else the bytes of a piece
abbrev pub line_in : List ℕ → List ℕ → List ℕ
line_in [] part = part
line_in (b ∷ bs) part = b ∷ bs

-- the line that ended with so many bytes of a piece, the last of which is its LF
abbrev pub line_at : Cutting → List ℕ → ℕ → List ℕ
line_at c piece used = line_in c.joined (take (used - 1) piece)

-- what was kept and so many bytes of a piece are one line
pub record EndsLine (old new : Cutting) (piece : List ℕ) (used : ℕ) : Type 0 where
  pub kept : IsLine old.limit old.carry
  pub some : 0 < used
  pub within : used ≤ length piece
  pub are : AreLines old.limit (old.carry ++ take used piece) (line_at new piece used ∷ []) []
  pub none : new.carry ≡ []
  pub limit : new.limit ≡ old.limit

-- what was kept and a piece are no line yet, and are kept
pub record EndsNone (old new : Cutting) (piece : List ℕ) : Type 0 where
  pub kept : IsLine old.limit old.carry
  pub are : AreLines old.limit (old.carry ++ piece) [] new.carry
  pub rest : IsLine old.limit new.carry
  pub joined : new.joined ≡ old.joined
  pub limit : new.limit ≡ old.limit
