-- The rows by key that a client makes by what SUBCMD told are those by which the words of a slot's lines are chosen.
use Rattle.std.proofs.Common.{◌≡◌, ℕ, ◌+◌, ◌-◌, List, [], ◌∷◌, set, refl, sym, ◌∙◌, ap, arith, cond, Bool, true}
use Rattle.std.proofs.Common.{false, ◌&&◌, Some, None, is_some, codes}
use Rattle.std.specs.Prelude.{option_and_then}
use Rattle.std.specs.FinMap.{get-empty}
use Rattle.std.specs.Ordering.{nat_cmp}
use Rattle.std.specs.Cmp.Lexicographic.{slice_cmp}
use Rattle.std.specs.FinMap as finite
use Rattle.ls_value.specs.declared.row.Value.{Value}
use Rattle.ls_value.specs.Values.{text_eq, value_at}
use Rattle.ls_value.proofs.Rows.{text_eq_true}
use Rattle.ls_mirror.specs.declared.command.KeyPlaces.{KeyPlaces}
use Rattle.ls_mirror.specs.Client.{What, Row, Lost, Cleared, End}
use Rattle.ls_mirror.specs.Keys.{KeyTable}
use Rattle.ls_mirror.specs.Commands.{text_of_value, text_at, change_of, change_at, has_command, keys_changed}
use Rattle.ls_mirror.specs.Commands.{keys_after, key_table}
use Rattle.ls_mirror.proofs.KeyRows.{get_inserted, get_removed}
use Rattle.ls_record.specs.Tables.{text_or_empty, table_or, table_at}
use Rattle.ls_value.specs.Each.{Each}
use Rattle.ls_value.specs.declared.row.Value.TheVariants as value
use Rattle.ls_mirror.specs.declared.command.Change.TheVariants as change

-- the places that a client takes of SUBCMD, in which they count from 1
abbrev pub places_from_one : KeyPlaces → KeyPlaces
places_from_one at = record { key = at.key + 1 - 1; command = at.command + 1 - 1 }

from_one : (n : ℕ) → n + 1 - 1 ≡ n
from_one n = omega arith

same_places : (at : KeyPlaces) (k c : ℕ) → k ≡ at.key → c ≡ at.command → ◌≡◌ {A = KeyPlaces} (record { key = k; command = c }) at
same_places at k c e f i = record { key = e i; command = f i }

-- they are those that were told
pub places_are : (at : KeyPlaces) → places_from_one at ≡ at
places_are at = same_places at (at.key + 1 - 1) (at.command + 1 - 1) (from_one at.key) (from_one at.command)

-- a row that came has a key and a command word
abbrev pub HasOrder : KeyPlaces → What → Type 0
HasOrder at (Row r) = has_command (Some at) r ≡ true
HasOrder at (Lost n) = Unit {0}
HasOrder at Cleared = Unit {0}
HasOrder at End = Unit {0}

-- the row of a key after one row more
word_changes : (key word k : List ℕ) (kept : List Value) (keys : KeyTable) → is_some (change_of word) ≡ true
    → finite.get (keys_changed (Some key) (change_of word) kept keys) k ≡ cond (text_eq key k) (cond (text_eq word (codes "DELETE")) None (Some kept))
    (finite.get keys k)
word_changes key word k kept keys some =
    by_tests (text_eq word (codes "ADD")) refl (text_eq word (codes "UPDATE")) refl (text_eq word (codes "DELETE")) refl some
  where
    other : (x : List ℕ) → text_eq x (codes "DELETE") ≡ false → text_eq word x ≡ true → text_eq word (codes "DELETE") ≡ true → ⊥
    other x differs is deletes =
        let e : word ≡ x = text_eq_true word x is in
        let t : false ≡ true = sym differs ∙ ap (λ y. text_eq y (codes "DELETE")) (sym e) ∙ deletes in
        cc

    by_tests : (a : Bool) → text_eq word (codes "ADD") ≡ a → (b : Bool) → text_eq word (codes "UPDATE") ≡ b → (d : Bool) → text_eq word (codes "DELETE") ≡ d
        → is_some (cond a (Some change.Set) (cond b (Some change.Set) (cond d (Some change.Remove) None))) ≡ true
        → finite.get (keys_changed (Some key) (cond a (Some change.Set) (cond b (Some change.Set) (cond d (Some change.Remove) None))) kept keys) k
        ≡ cond (text_eq key k) (cond d None (Some kept)) (finite.get keys k)
    by_tests true add b update true delete h = absurd (other (codes "ADD") refl add delete)
    by_tests true add b update false delete h = get_inserted keys key kept k
    by_tests false add true update true delete h = absurd (other (codes "UPDATE") refl update delete)
    by_tests false add true update false delete h = get_inserted keys key kept k
    by_tests false add false update true delete h = get_removed keys key k
    by_tests false add false update false delete h = cc

values_change : (key word : Value) (k : List ℕ) (kept : List Value) (keys : KeyTable)
    → (is_some (text_of_value key) && is_some (option_and_then change_of (text_of_value word))) ≡ true
    → finite.get (keys_changed (text_of_value key) (option_and_then change_of (text_of_value word)) kept keys) k
    ≡ cond (text_eq (text_or_empty key) k) (cond (text_eq (text_or_empty word) (codes "DELETE")) None (Some kept)) (finite.get keys k)
values_change value.Null word k kept keys h = cc
values_change (value.Text t) value.Null k kept keys h = cc
values_change (value.Text t) (value.Text word) k kept keys h = word_changes t word k kept keys h

row_changes : (at : KeyPlaces) (k : List ℕ) (r : List Value) (keys : KeyTable) → has_command (Some at) r ≡ true
    → finite.get (keys_after (Row r) (Some at) keys) k ≡ table_or at k (Row r) (finite.get keys k)
row_changes at k r keys has =
    values_change (value_at r at.key) (value_at r at.command) k (set r at.command value.Null) keys has

-- the row of each key, after all that came
pub table_is : (at : KeyPlaces) (k : List ℕ) (ws : List What) → Each (HasOrder at) ws → finite.get (key_table (Some at) ws) k ≡ table_at at k ws
table_is at k [] e = get-empty (slice_cmp nat_cmp) k
table_is at k (Row r ∷ ws) e = row_changes at k r (key_table (Some at) ws) e.0 ∙ ap (table_or at k (Row r)) (table_is at k ws e.1)
table_is at k (Lost n ∷ ws) e = table_is at k ws e.1
table_is at k (Cleared ∷ ws) e = get-empty (slice_cmp nat_cmp) k
table_is at k (End ∷ ws) e = table_is at k ws e.1

-- a row with a key and a command word
pub has_order : (at : KeyPlaces) (r : List Value) (key word : List ℕ) → value_at r at.key ≡ value.Text key → value_at r at.command ≡ value.Text word
    → is_some (change_of word) ≡ true → HasOrder at (Row r)
has_order at r key word named said some =
    let a : text_at r at.key ≡ Some key = ap text_of_value named in
    let b : change_at r at.command ≡ change_of word = ap (λ v. option_and_then change_of (text_of_value v)) said in
    ap (λ o. is_some o && is_some (change_at r at.command)) a ∙ ap is_some b ∙ some
