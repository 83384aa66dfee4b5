-- Which of the numbered lines of a session are kept, so that a client may go on behind those that it has (TLCP 2.1,
-- recovery; the limits are this project's profile).
use Rattle.std.specs.Prelude.{ℕ, zero, suc, ◌+◌, List, ◌∷◌, [], ◌++◌, length, drop, sum_by, max, min, Bool, ◌&&◌}
use Rattle.std.specs.Prelude.{nat_le, if◌then◌else◌}
use Rattle.ls_keep.specs.declared.limits.TheConstants.{MOST_KEPT_LINES, MOST_KEPT_BYTES}

-- the texts of all lines that were numbered, the first one first; how many were given; and the given-up number, up to
-- which no line is kept
pub record Numbered : Type 0 where
  pub texts : List (List ℕ)
  pub sent : ℕ
  pub given_up : ℕ

-- how many bytes texts have
abbrev pub bytes_of : List (List ℕ) → ℕ
bytes_of texts = sum_by length texts

-- whether the lines behind a number are so few and so short that they may all be kept
abbrev pub may_keep : List (List ℕ) → ℕ → Bool
may_keep texts n = nat_le (length (drop n texts)) MOST_KEPT_LINES && nat_le (bytes_of (drop n texts)) MOST_KEPT_BYTES

-- the least number from n on, at most k more, behind which they may
abbrev pub least_from : ℕ → ℕ → List (List ℕ) → ℕ
least_from zero n texts = n
least_from (suc k) n texts = if may_keep texts n then n else least_from k (n + 1) texts

-- the least number behind which all lines may be kept
abbrev pub least_keeping : List (List ℕ) → ℕ
least_keeping texts = least_from (length texts) 0 texts

-- what the given-up number becomes when a line was numbered or given: it never falls, and no line is given up before it
-- was given
abbrev pub given_up_after : ℕ → ℕ → List (List ℕ) → ℕ
given_up_after given_up sent texts = max given_up (min sent (least_keeping texts))

-- lines are given up, as many as they are
abbrev pub trimmed : Numbered → Numbered
trimmed n = record n { given_up = given_up_after n.given_up n.sent n.texts }

-- a line is numbered
abbrev pub pushed : List ℕ → Numbered → Numbered
pushed text n = trimmed (record n { texts = n.texts ++ text ∷ [] })

-- the next line is given
abbrev pub marked : Numbered → Numbered
marked n = trimmed (record n { sent = n.sent + 1 })

-- a client has the lines up to a count, so that the next one behind it is to be given; this gives up none
abbrev pub resumed : ℕ → Numbered → Numbered
resumed count n = record n { sent = count }
