-- The rows by key of a client of mode COMMAND are the item's.
use Rattle.std.proofs.Common.{◌≡◌, ◌==◌, ℕ, suc, ◌+◌, ◌<◌, List, [], ◌∷◌, length, set, refl, sym, ◌∙◌, ap, arith}
use Rattle.std.proofs.Common.{Bool, true, false, cond, subst, Option, Some, None, IfSome, is_some, slice_get, codes}
use Rattle.std.proofs.lemmas.Bool.{eqb-true}
use Rattle.std.proofs.lemmas.List.{length-replicate, length-set, length-map, get_or-set_same, get_or-set_other}
use Rattle.std.specs.FinMap as finite
use Rattle.ls_value.specs.declared.row.Value.{Value}
use Rattle.ls_value.specs.Values.{nulls, value_at}
use Rattle.ls_event.specs.declared.event.Entry.{Entry}
use Rattle.ls_event.specs.Slots.{Plan, Slot}
use Rattle.ls_event.specs.Keyed.{row_at, keyed}
use Rattle.ls_event.specs.Publishes.{IsHistory}
use Rattle.ls_mirror.specs.declared.command.KeyPlaces.{KeyPlaces}
use Rattle.ls_mirror.specs.Client.{What, Row, Lost, Cleared, End}
use Rattle.ls_mirror.specs.Commands.{change_of, key_table}
use Rattle.ls_record.specs.Came.{Came, whats}
use Rattle.ls_record.specs.Tables.{place_of_field, keys_shown_at, projected_row, with_word}
use Rattle.ls_record.specs.Cutting.{Wanted, schema_of}
use Rattle.ls_lawful.specs.CommandMode.{IsKeyed, cursor_of_key, RowAgrees, KeyTurn, IsRowOf, key_turn_at, HadKey}
use Rattle.ls_lawful.specs.CommandMode.{KeyLines, LawfulCommand}
use Rattle.ls_lawful.specs.ClientKeys.{SubcmdKeys}
use Rattle.ls_value.specs.Each.{Each}
use Rattle.ls_lawful.proofs.Keys.{place_is, apart_in, value_projected}
use Rattle.ls_lawful.proofs.KeyedNames.{IsNamed, key_named}
use Rattle.ls_lawful.proofs.KeyTables.{places_from_one, places_are, HasOrder, table_is, has_order}
use Rattle.ls_value.specs.declared.row.Value.TheVariants as value
use Rattle.ls_event.specs.declared.item.Kind.TheVariants as kind

-- a row of so many fields tells a key
record TellsKey (at : KeyPlaces) (n : ℕ) (k : List ℕ) (r : List Value) : Type 0 where
  long : length r ≡ n
  key : value_at r at.key ≡ value.Text k

record IsSchema (at : KeyPlaces) (n : ℕ) : Type 0 where
  key : at.key < n
  command : at.command < n
  apart : at.key ≡ at.command → ⊥

word_has : (at : KeyPlaces) (n : ℕ) (k word : List ℕ) (r : List Value) → IsSchema at n → TellsKey at n k r → is_some (change_of word) ≡ true
    → HasOrder at (Row (with_word at word r))
word_has at n k word r s t some =
    has_order at (with_word at word r) k word
    (get_or-set_other r at.command at.key (value.Text word) value.Null s.apart ∙ t.key)
    (get_or-set_same r at.command (value.Text word) value.Null (omega (arith, s.command, t.long)))
    some

key_alone : (at : KeyPlaces) (n : ℕ) (k : List ℕ) → IsSchema at n → TellsKey at n k (set (nulls n) at.key (value.Text k))
key_alone at n k s =
    record {
      long = length-set (nulls n) at.key (value.Text k) ∙ length-replicate n value.Null;
      key = get_or-set_same (nulls n) at.key (value.Text k) value.Null (omega (arith, s.key, length-replicate n value.Null));
    }

row_has : (u : KeyTurn) (client item : Option (List Value)) (r : List Value) → IsSchema u.at u.fields → IfSome item (TellsKey u.at u.fields u.key)
    → IsRowOf u client item r → HasOrder u.at (Row r)
row_has u None None r s t is = absurd is
row_has u None (Some new) r s t is =
    subst (λ (x : List Value). HasOrder u.at (Row x)) (sym is) (word_has u.at u.fields u.key (codes "ADD") new s t refl)
row_has u (Some old) None r s t is =
    subst (λ (x : List Value). HasOrder u.at (Row x)) (sym is)
    (word_has u.at u.fields u.key (codes "DELETE") (set (nulls u.fields) u.at.key (value.Text u.key)) s (key_alone u.at u.fields u.key s) refl)
row_has u (Some old) (Some new) r s t is =
    subst (λ (x : List Value). HasOrder u.at (Row x)) (sym is.1) (word_has u.at u.fields u.key (codes "UPDATE") new s t refl)

-- the item's row at the places of a schema
tells_projected : (p : Plan) (places k : List ℕ) (o : Option (List Value)) → IsKeyed p places → IfSome o (IsNamed p.shape k)
    → IfSome (projected_row places o) (TellsKey (keys_shown_at p.shape places) (length places) k)
tells_projected p places k None i g = tt
tells_projected p places k (Some r) i g =
    record {
      long = length-map places (value_at r);
      key = value_projected r places (place_of_field p.shape.key places) i.key_shown ∙ ap (value_at r) (place_is p.shape.key places i.key_shown) ∙ g.key;
    }

had_has : (p : Plan) (h : List Entry) (places : List ℕ) (before : List What) (n : ℕ) (r : List Value) → IsKeyed p places → p.shape.kind ≡ kind.Command
    → IsHistory p.shape h → HadKey (record { shape = p.shape; history = h; places = places }) before n r
    → HasOrder (keys_shown_at p.shape places) (Row r)
had_has p h places before n r i command is had =
    let u : KeyTurn = key_turn_at (record { shape = p.shape; history = h; places = places }) before n had.key in
    row_has u u.client u.item r
    (record { key = i.key_shown; command = i.command_shown; apart = apart_in p places i })
    (tells_projected p places had.key (row_at had.key (keyed p.shape h n)) i (key_named p.shape h n had.key command i.key i.apart is)) had.row

-- each row of a slot's lines has a key and a command word
line_has : (p : Plan) (h : List Entry) (places : List ℕ) (before : List What) (n : ℕ) (what : What) → IsKeyed p places → p.shape.kind ≡ kind.Command
    → IsHistory p.shape h
    → ((r : List Value) → what ≡ Row r → HadKey (record { shape = p.shape; history = h; places = places }) before n r)
    → HasOrder (keys_shown_at p.shape places) what
line_has p h places before n (Row r) i command is had = had_has p h places before n r i command is (had r refl)
line_has p h places before n (Lost k) i command is had = tt
line_has p h places before n Cleared i command is had = tt
line_has p h places before n End i command is had = tt

lines_have : (p : Plan) (h : List Entry) (places : List ℕ) (top : ℕ) (cs : List Came) → IsKeyed p places → p.shape.kind ≡ kind.Command → IsHistory p.shape h
    → KeyLines p.shape h places top cs
    → Each (HasOrder (keys_shown_at p.shape places)) (whats cs)
lines_have p h places top [] i command is l = tt
lines_have p h places top (c ∷ cs) i command is l =
    (line_has p h places (whats cs) c.upto c.what i command is (λ r e. (l.1.rows r e).1), lines_have p h places c.at cs i command is l.2)

-- the places that SUBCMD tells are those of the key and the command in the schema
place_shown : (field : ℕ) (places : List ℕ) → place_of_field field places < length places → slice_get places (place_of_field field places) ≡ Some field
place_shown field [] within = absurd (omega (arith, within))
place_shown field (p ∷ places) within = by_test (p == field) refl within (λ l. place_shown field places l)
  where
    by_test : (b : Bool) → (p == field) ≡ b → cond b 0 (place_of_field field places + 1) < length (p ∷ places)
        → (place_of_field field places < length places → slice_get places (place_of_field field places) ≡ Some field)
        → slice_get (p ∷ places) (cond b 0 (place_of_field field places + 1)) ≡ Some field
    by_test true e l more = ap Some (eqb-true p field e)
    by_test false e l more = ap (slice_get (p ∷ places)) {x = place_of_field field places + 1} {y = suc (place_of_field field places)} (omega arith)
        ∙ more (omega (arith, l))

-- what a client decodes of a lawful slot of an item with a history
pub decoded_keys : (h : List Entry) (w : Wanted) (s : Slot) (cs : List Came) (shown : Option KeyPlaces) → s.plan.shape.kind ≡ kind.Command
    → IsHistory s.plan.shape h → shown ≡ Some (places_from_one (schema_of w s.plan)) → LawfulCommand h w s cs
    → SubcmdKeys h w s shown (whats cs)
decoded_keys h w s cs shown command is are l =
    record {
      places = schema_of w s.plan;
      are = are ∙ ap Some (places_are (schema_of w s.plan));
      key = place_shown s.plan.shape.key w.places l.sound.key_shown;
      command = place_shown s.plan.shape.command w.places l.sound.command_shown;
      rows = λ k.
          subst (λ (o : Option KeyPlaces). RowAgrees h w s k (finite.get (key_table o (whats cs)) k) (cursor_of_key k s.key_cursors))
          (sym (are ∙ ap Some (places_are (schema_of w s.plan))))
          (subst (λ (row : Option (List Value)). RowAgrees h w s k row (cursor_of_key k s.key_cursors))
          (sym (table_is (schema_of w s.plan) k (whats cs) (lines_have s.plan h w.places s.last cs l.sound command is l.lines))) (l.agrees k));
    }
