-- Rows that come have a value for each place of the schema.
use Rattle.std.specs.FinMap as finite
use Rattle.std.proofs.Common.{◌≡◌, ℕ, List, length, refl, ◌∙◌, ap, subst, cond, ◌&&◌, Bool, true, false, Option, Some, None, is_some, option_map}
use Rattle.std.specs.Option.{ForSome}
use Rattle.std.proofs.lemmas.List.{length-set, length-replicate}
use Rattle.ls_value.specs.Values.{applied, projected, projected_cells, nulls, row_eq}
use Rattle.ls_mirror.specs.declared.command.KeyPlaces.{KeyPlaces}
use Rattle.ls_value.specs.declared.row.Value.{Value}
use Rattle.ls_value.proofs.Rows.{applied_length, projected_length}
use Rattle.ls_event.specs.declared.event.Taken.{Taken}
use Rattle.ls_event.specs.declared.event.Taken.TheVariants as taken
use Rattle.ls_mirror.specs.Client.{What, Row, Lost, Cleared, End, row_or}
use Rattle.ls_record.specs.Tables.{what_of_key, projected_row}
use Rattle.ls_subs.specs.Subscribed.{Subscribed}
use Rattle.ls_subs.specs.Subscription.{row_or_nulls, what_by_key, what_comes}

-- a row that comes has n values
abbrev HasValues : ℕ → Option What → Type 0
HasValues n o = (r : List Value) → o ≡ Some (Row r) → length r ≡ n

has_values : (n : ℕ) (x : List Value) → length x ≡ n → HasValues n (Some (Row x))
has_values n x is r e =
    let same : x ≡ r = cc in
    subst (λ (y : List Value). length y ≡ n) same is

none_has : (n : ℕ) → HasValues n None
none_has n r e = absurd (let x : None ≡ Some (Row r) = e in cc)

else_has : (n : ℕ) (v : Bool) (o : Option What) → HasValues n o → HasValues n (cond v None o)
else_has n true o t = none_has n
else_has n false o t = t

row_length : (n : ℕ) (row : Option (List Value)) → ForSome row (λ r. length r ≡ n) → length (row_or_nulls n row) ≡ n
row_length n None some = length-replicate n _
row_length n (Some r) some = some r refl

key_has : (at : KeyPlaces) (k : List ℕ) (places : List ℕ) (old row : Option (List Value))
    → HasValues (length places) (what_of_key at (length places) k old (projected_row places row))
key_has at k places None None = none_has (length places)
key_has at k places None (Some r) = has_values (length places) _ (length-set (projected r places) _ _ ∙ projected_length r places)
key_has at k places (Some old) None = has_values (length places) _ (length-set _ _ _ ∙ length-set (nulls (length places)) _ _
    ∙ length-replicate (length places) _)
key_has at k places (Some old) (Some r) = else_has (length places) (row_eq old (projected r places)) _
    (has_values (length places) _ (length-set (projected r places) _ _ ∙ projected_length r places))

comes_length : (u : Subscribed) (t : Taken) → ForSome u.row (λ r. length r ≡ length u.places) → HasValues (length u.places) (what_comes u t)
comes_length u (taken.Row row upto) some = has_values (length u.places) _ (projected_length row u.places)
comes_length u (taken.Lost count upto) some = λ r e. absurd cc
comes_length u (taken.Change cells upto) some =
    let old : List Value = row_or_nulls (length u.places) u.row in
    else_has (length u.places) (is_some u.row && row_eq old (applied old (projected_cells cells u.places))) _
    (has_values (length u.places) _ (applied_length old (projected_cells cells u.places) ∙ row_length (length u.places) u.row some))
comes_length u (taken.Key key row upto) some = by_keys u.keys
  where
    by_keys : (o : Option KeyPlaces) → HasValues (length u.places) (what_by_key u.places o u.table key row)
    by_keys None = none_has (length u.places)
    by_keys (Some at) = key_has at key u.places (finite.get u.table key) row
comes_length u (taken.Cleared upto) some = λ r e. absurd cc
comes_length u taken.EndOfSnapshot some = λ r e. absurd cc

-- so has the client's row after it
pub heard_length : (u : Subscribed) (t : Taken) (what : What) → ForSome u.row (λ r. length r ≡ length u.places) → what_comes u t ≡ Some what
    → ForSome (row_or what u.row) (λ r. length r ≡ length u.places)
heard_length u t (Row row) some is = λ r e. comes_length u t some r (is ∙ ap (option_map Row) e)
heard_length u t (Lost count) some is = some
heard_length u t Cleared some is = some
heard_length u t End some is = some
