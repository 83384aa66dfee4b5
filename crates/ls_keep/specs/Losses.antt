-- Which lines a client may lose.
use Rattle.std.specs.Prelude.{◌≡◌, ◌≤◌, ◌<◌, ℕ, ◌-◌, List, length, drop, ◌⊎◌}
use Rattle.ls_keep.specs.Keeping.{Numbered, bytes_of}
use Rattle.ls_keep.specs.declared.limits.TheConstants.{MOST_KEPT_LINES, MOST_KEPT_BYTES}

-- lines are too many to keep, or too long; or neither
abbrev pub AreTooMany : List (List ℕ) → Type 0
AreTooMany texts = (MOST_KEPT_LINES < length texts) ⊎ (MOST_KEPT_BYTES < bytes_of texts)

abbrev pub AreFew : List (List ℕ) → Type 0
AreFew texts = (length texts ≤ MOST_KEPT_LINES) × (bytes_of texts ≤ MOST_KEPT_BYTES)

-- each line that was given up since was given, and from it on the lines are too many or too long
abbrev pub LosesOldest : Numbered → Numbered → Type 0
LosesOldest before n =
    (line : ℕ) → before.given_up < line → line ≤ n.given_up → (line ≤ n.sent) × AreTooMany (drop (line - 1) n.texts)

-- the lines that are kept are few, or none of them was given
abbrev pub KeepsFew : Numbered → Type 0
KeepsFew n = (n.given_up ≡ n.sent) ⊎ AreFew (drop n.given_up n.texts)

-- a client that can't go on lacks too many lines, or too long ones
abbrev pub KeepsLatest : Numbered → Type 0
KeepsLatest n = (count : ℕ) → count < n.given_up → AreTooMany (drop count n.texts)
