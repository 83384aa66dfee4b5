-- The keys of a COMMAND item in the order of their bytes, and where each stands in it.
use Rattle.std.specs.Prelude.{◌≡◌, ℕ, suc, ◌<◌, ◌≤◌, List, [], ◌∷◌, length, Bool, true, false, Option, None, Some}
use Rattle.std.specs.Prelude.{slice_get, if◌then◌else◌}
use Rattle.ls_value.specs.Values.{text_eq}
use Rattle.ls_event.specs.declared.snapshot.KeyedRow.{KeyedRow}
use Rattle.ls_event.specs.Keyed.{is_before}

-- each of these keys is behind this one
abbrev pub AllBehind : List ℕ → List KeyedRow → Type 0
AllBehind key [] = Unit {0}
AllBehind key (k ∷ ks) = (is_before key k.key ≡ true) × AllBehind key ks

-- the keys are in the order of their bytes, each once
abbrev pub IsOrdered : List KeyedRow → Type 0
IsOrdered [] = Unit {0}
IsOrdered (k ∷ ks) = AllBehind k.key ks × IsOrdered ks

-- the number of keys, in their order, before this one
abbrev pub index_in : List ℕ → List KeyedRow → ℕ
index_in key [] = 0
index_in key (k ∷ ks) = if is_before k.key key then suc (index_in key ks) else 0

-- whether a row has a key
abbrev pub has_key : List ℕ → Option KeyedRow → Bool
has_key key None = false
has_key key (Some k) = text_eq k.key key

-- a key stands at an index
pub record IsAt (key : List ℕ) (ks : List KeyedRow) (i : ℕ) : Type 0 where
  pub within : i < length ks
  pub index : i ≡ index_in key ks
  pub found : has_key key (slice_get ks (index_in key ks)) ≡ true

-- a key that isn't among them would stand at an index
pub record IsGap (key : List ℕ) (ks : List KeyedRow) (i : ℕ) : Type 0 where
  pub within : i ≤ length ks
  pub index : i ≡ index_in key ks
  pub absent : has_key key (slice_get ks (index_in key ks)) ≡ false
