-- What keeps a line of the protocol short: a schema shows a field once, and what comes by a cut weighs no more than an
-- event may (this project's profile).
use Rattle.std.specs.Prelude.{◌==◌, ◌≤◌, ◌≡◌, ℕ, List, [], ◌∷◌, length, sum_by, false, Option, None, Some}
use Rattle.std.specs.List.{list_any}
use Rattle.ls_value.specs.declared.limits.TheConstants.{GREATEST_NUMBER}
use Rattle.ls_value.specs.declared.row.Value.{Value}
use Rattle.ls_value.specs.Values.{weight_of, weight_of_cell, projected, projected_cells}
use Rattle.ls_event.specs.declared.event.Taken.{Taken}
use Rattle.ls_event.specs.declared.limits.TheConstants.{MOST_FIELDS, MOST_WEIGHT}
use Rattle.ls_event.specs.declared.event.Taken.TheVariants as taken

-- each place once
abbrev pub AreOnce : List ℕ → Type 0
AreOnce [] = Unit {0}
AreOnce (p ∷ places) = (list_any (λ q. p == q) places ≡ false) × AreOnce places

-- the places of a schema: no more than an item has fields, and each once
pub record IsNarrow (places : List ℕ) : Type 0 where
  pub few : length places ≤ MOST_FIELDS
  pub once : AreOnce places

-- a row at the places of a schema, if there is one
abbrev pub IsLightRow : List ℕ → Option (List Value) → Type 0
IsLightRow places None = Unit {0}
IsLightRow places (Some row) = weight_of (projected row places) ≤ MOST_WEIGHT

-- what a cut tells at the places of a schema weighs no more than an event may
abbrev pub IsLight : List ℕ → Taken → Type 0
IsLight places (taken.Row row upto) = IsLightRow places (Some row)
IsLight places (taken.Lost count upto) = count ≤ GREATEST_NUMBER
IsLight places (taken.Change cells upto) = sum_by weight_of_cell (projected_cells cells places) ≤ MOST_WEIGHT
IsLight places (taken.Key key row upto) = (length key ≤ MOST_WEIGHT) × IsLightRow places row
IsLight places (taken.Cleared upto) = Unit {0}
IsLight places taken.EndOfSnapshot = Unit {0}
