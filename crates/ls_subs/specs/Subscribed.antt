-- What is kept of an item of a subscription.
use Rattle.std.specs.Prelude.{ℕ, List, Option, refl}
use Rattle.std.specs.FinMap as finite
use Rattle.std.specs.Coded.{Coded, code_by, coded×, coded_ℕ, coded_list, coded_option}
use Rattle.ls_value.specs.declared.row.Value.{Value}
use Rattle.ls_value.specs.contracts.row.Value as field_value
use Rattle.ls_mirror.specs.Keys.{KeyTable}
use Rattle.ls_mirror.specs.declared.command.KeyPlaces.{KeyPlaces}

-- the subscription's number, the item's place in it, from 1, the places of the schema's fields in the item, in mode
-- COMMAND those of the key and the command in the schema, the client's last row, where it has one, and in mode COMMAND
-- its rows by key
pub record Subscribed : Type 0 where
  pub sub : ℕ
  pub rank : ℕ
  pub places : List ℕ
  pub keys : Option KeyPlaces
  pub row : Option (List Value)
  pub table : KeyTable

abbrev row_code : Coded (List Value)
row_code = coded_list field_value.the_row.coded

abbrev keys_code : Coded KeyPlaces
keys_code = code_by (ℕ × ℕ) (coded× coded_ℕ coded_ℕ) (λ k. (k.key, k.command))
    (λ p. record { key = p.0; command = p.1 }) (λ _. refl)

-- it is stored as its parts
abbrev pub subscribed_code : Coded Subscribed
subscribed_code =
    code_by (ℕ × (ℕ × (List ℕ × (Option KeyPlaces × (Option (List Value) × KeyTable)))))
    (coded× coded_ℕ (coded× coded_ℕ
    (coded× (coded_list coded_ℕ) (coded× (coded_option keys_code)
    (coded× (coded_option row_code) (finite.code (coded_list coded_ℕ) row_code))))))
    (λ u. (u.sub, (u.rank, (u.places, (u.keys, (u.row, u.table))))))
    (λ p. record {
      sub = p.0;
      rank = p.1.0;
      places = p.1.1.0;
      keys = p.1.1.1.0;
      row = p.1.1.1.1.0;
      table = p.1.1.1.1.1;
    })
    (λ _. refl)
