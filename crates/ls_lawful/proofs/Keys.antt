-- Rows of keys, at the item and at the client.
use Rattle.std.proofs.Common.{◌≡◌, ◌==◌, ℕ, zero, suc, ◌+◌, ◌<◌, ◌≤◌, List, [], ◌∷◌, ◌++◌, length, take, set, get_or}
use Rattle.std.proofs.Common.{refl, sym, ◌∙◌, ap, arith, Bool, true, false, cond, Option, Some, None, IfSome}
use Rattle.std.proofs.Common.{unwrap_or, codes}
use Rattle.std.proofs.lemmas.List.{length-replicate, length-set, length-map, get_or-set_same, get_or-set_other}
use Rattle.std.proofs.lemmas.List.{set-set, set-get_or, take-append-le}
use Rattle.std.proofs.lemmas.Bool.{eqb-true}
use Rattle.ls_value.specs.declared.row.Value.{Value}
use Rattle.ls_value.specs.declared.row.Cell.{Cell}
use Rattle.ls_value.specs.Values.{applied, kept_or_taken, nulls, projected, value_at, cell_at, text_eq}
use Rattle.ls_value.proofs.Rows.{applied_length, text_eq_same}
use Rattle.ls_event.specs.declared.event.Event.{Event}
use Rattle.ls_event.specs.declared.event.Event.TheVariants.{Update, Clear}
use Rattle.ls_event.specs.declared.event.Entry.{Entry}
use Rattle.ls_event.specs.declared.snapshot.KeyedRow.{KeyedRow}
use Rattle.ls_event.specs.Shapes.{Shape}
use Rattle.ls_event.specs.Slots.{Plan}
use Rattle.ls_event.specs.Keyed.{text_of_cell, key_of, deletes, row_at, with_row, without, row_with, keyed_after}
use Rattle.ls_event.specs.Keyed.{keyed_after_all, keyed}
use Rattle.ls_mirror.specs.declared.command.KeyPlaces.{KeyPlaces}
use Rattle.ls_mirror.specs.Client.{Row}
use Rattle.ls_record.specs.Tables.{place_of_field, text_or_empty, kept_of, table_or, with_word, delete_row}
use Rattle.ls_record.specs.Cutting.{Wanted, schema_of}
use Rattle.ls_lawful.specs.CommandMode.{IsKeyed}
use Rattle.ls_record.proofs.EachKey.{EachKey, key_has, each_with, each_without}
use Rattle.ls_value.specs.declared.row.Value.TheVariants as value
use Rattle.ls_value.specs.declared.row.Cell.TheVariants as cell

-- the key and the command in a schema
pub place_is : (field : ℕ) (places : List ℕ) → place_of_field field places < length places → get_or places (place_of_field field places) 0 ≡ field
place_is field [] within = absurd (omega (arith, within))
place_is field (p ∷ places) within = by_test (p == field) refl within (λ l. place_is field places l)
  where
    by_test : (b : Bool) → (p == field) ≡ b → cond b 0 (place_of_field field places + 1) < length (p ∷ places)
        → (place_of_field field places < length places → get_or places (place_of_field field places) 0 ≡ field)
        → get_or (p ∷ places) (cond b 0 (place_of_field field places + 1)) 0 ≡ field
    by_test true e l more = eqb-true p field e
    by_test false e l more =
        ap (λ n. get_or (p ∷ places) n 0) {x = place_of_field field places + 1} {y = suc (place_of_field field places)} (omega arith) ∙ more (omega (arith, l))

pub apart_in : (p : Plan) (places : List ℕ) → IsKeyed p places → place_of_field p.shape.key places ≡ place_of_field p.shape.command places → ⊥
apart_in p places i e = i.apart (sym (place_is p.shape.key places i.key_shown) ∙ ap (λ n. get_or places n 0) e
    ∙ place_is p.shape.command places i.command_shown)

-- the row of a key names the key and no command
pub record IsRowOf (p : Plan) (k : List ℕ) (r : List Value) : Type 0 where
  pub long : length r ≡ p.shape.fields
  pub key : text_or_empty (value_at r p.shape.key) ≡ k
  pub command : value_at r p.shape.command ≡ value.Null

abbrev pub IfRow : Plan → List ℕ → Option (List Value) → Type 0
IfRow p k o = IfSome o (IsRowOf p k)

abbrev Rows : Plan → List KeyedRow → Type 0
Rows p ks = EachKey (IsRowOf p) ks

pub applied_at : (row : List Value) (cells : List Cell) (i : ℕ) → i < length row → value_at (applied row cells) i
    ≡ kept_or_taken (value_at row i) (cell_at cells i)
applied_at [] cells i within = absurd (omega (arith, within))
applied_at (v ∷ row) [] i within = refl
applied_at (v ∷ row) (c ∷ cells) zero within = refl
applied_at (v ∷ row) (c ∷ cells) (suc i) within = applied_at row cells i (omega (arith, within))

text_taken : (v : Value) (c : Cell) → text_or_empty v ≡ text_of_cell c → text_or_empty (kept_or_taken v c) ≡ text_of_cell c
text_taken v cell.Same e = e
text_taken v cell.Null e = refl
text_taken v (cell.Text t) e = refl

-- an update makes a row of its key
null_key : (v : Value) (c : Cell) → v ≡ value.Null → text_or_empty (kept_or_taken v c) ≡ text_of_cell c
null_key v cell.Same e = ap text_or_empty e
null_key v cell.Null e = refl
null_key v (cell.Text t) e = refl

nulls_at : (n i : ℕ) → value_at (nulls n) i ≡ value.Null
nulls_at zero i = refl
nulls_at (suc n) zero = refl
nulls_at (suc n) (suc i) = nulls_at n i

base_long : (p : Plan) (k : List ℕ) (o : Option (List Value)) → IfRow p k o → length (unwrap_or o (nulls p.shape.fields)) ≡ p.shape.fields
base_long p k None i = length-replicate p.shape.fields value.Null
base_long p k (Some r) i = i.long

base_key : (p : Plan) (cells : List Cell) (o : Option (List Value)) → IfRow p (key_of p.shape cells) o
    → text_or_empty (kept_or_taken (value_at (unwrap_or o (nulls p.shape.fields)) p.shape.key) (cell_at cells p.shape.key)) ≡ key_of p.shape cells
base_key p cells None i = null_key (value_at (nulls p.shape.fields) p.shape.key) (cell_at cells p.shape.key) (nulls_at p.shape.fields p.shape.key)
base_key p cells (Some r) i = text_taken (value_at r p.shape.key) (cell_at cells p.shape.key) i.key

row_made : (p : Plan) (places : List ℕ) (cells : List Cell) (o : Option (List Value)) → IsKeyed p places → IfRow p (key_of p.shape cells) o
    → IsRowOf p (key_of p.shape cells) (row_with p.shape o cells)
row_made p places cells o i g =
    let long : length (unwrap_or o (nulls p.shape.fields)) ≡ p.shape.fields = base_long p (key_of p.shape cells) o g in
    let n : length (applied (unwrap_or o (nulls p.shape.fields)) cells) ≡ p.shape.fields = applied_length (unwrap_or o (nulls p.shape.fields)) cells ∙ long in
    record {
      long = length-set (applied (unwrap_or o (nulls p.shape.fields)) cells) p.shape.command value.Null ∙ n;
      key = ap text_or_empty (get_or-set_other (applied (unwrap_or o (nulls p.shape.fields)) cells) p.shape.command p.shape.key value.Null value.Null i.apart
          ∙ applied_at (unwrap_or o (nulls p.shape.fields)) cells p.shape.key (omega (arith, i.key, long)))
          ∙ base_key p cells o g;
      command = get_or-set_same (applied (unwrap_or o (nulls p.shape.fields)) cells) p.shape.command value.Null value.Null (omega (arith, i.command, n));
    }

rows_after : (p : Plan) (places : List ℕ) (ks : List KeyedRow) (event : Event) → IsKeyed p places → Rows p ks → Rows p (keyed_after p.shape ks event)
rows_after p places ks (Update cells) i e = by_test (deletes p.shape cells)
  where
    by_test : (b : Bool)
        → Rows p (cond b (without (key_of p.shape cells) ks) (with_row (key_of p.shape cells) (row_with p.shape (row_at (key_of p.shape cells) ks) cells) ks))
    by_test true = each_without (IsRowOf p) (key_of p.shape cells) ks e
    by_test false = each_with (IsRowOf p) (key_of p.shape cells) (row_with p.shape (row_at (key_of p.shape cells) ks) cells) ks
        (row_made p places cells (row_at (key_of p.shape cells) ks) i (key_has (IsRowOf p) (key_of p.shape cells) ks e)) e
rows_after p places ks Clear i e = tt

rows_after_all : (p : Plan) (places : List ℕ) (ks : List KeyedRow) (es : List Entry) → IsKeyed p places → Rows p ks → Rows p (keyed_after_all p.shape ks es)
rows_after_all p places ks [] i e = e
rows_after_all p places ks (x ∷ es) i e = rows_after_all p places (keyed_after p.shape ks x.event) es i (rows_after p places ks x.event i e)

pub keyed_row : (p : Plan) (places : List ℕ) (h : List Entry) (n : ℕ) (k : List ℕ) → IsKeyed p places → IfRow p k (row_at k (keyed p.shape h n))
keyed_row p places h n k i = key_has (IsRowOf p) k (keyed p.shape h n) (rows_after_all p places [] (take n h) i tt)

pub keyed-longer : (p : Shape) (h more : List Entry) (n : ℕ) → n ≤ length h → keyed p (h ++ more) n ≡ keyed p h n
keyed-longer p h more n within = ap (keyed_after_all p []) (take-append-le n h more within)

-- the client's table after a row
pub table_self : (at : KeyPlaces) (k : List ℕ) (r : List Value) (before : Option (List Value)) → text_or_empty (value_at r at.key) ≡ k
    → table_or at k (Row r) before ≡ kept_of at r
table_self at k r before e = ap (λ (b : Bool). cond b (kept_of at r) before) (ap (λ t. text_eq t k) e ∙ text_eq_same k)

pub table_other : (at : KeyPlaces) (k j : List ℕ) (r : List Value) (before : Option (List Value)) → text_or_empty (value_at r at.key) ≡ k → text_eq k j ≡ false
    → table_or at j (Row r) before ≡ before
table_other at k j r before e other = ap (λ (b : Bool). cond b (kept_of at r) before) (ap (λ t. text_eq t j) e ∙ other)

pub value_projected : (r : List Value) (places : List ℕ) (i : ℕ) → i < length places → value_at (projected r places) i ≡ value_at r (get_or places i 0)
value_projected r [] i within = absurd (omega (arith, within))
value_projected r (p ∷ places) zero within = refl
value_projected r (p ∷ places) (suc i) within = value_projected r places i (omega (arith, within))

-- a line that tells a command
pub word_key : (p : Plan) (w : Wanted) (k word : List ℕ) (r : List Value) → IsKeyed p w.places → IsRowOf p k r
    → text_or_empty (value_at (with_word (schema_of w p) word (projected r w.places)) (schema_of w p).key) ≡ k
word_key p w k word r i g =
    ap text_or_empty (get_or-set_other (projected r w.places) (schema_of w p).command (schema_of w p).key (value.Text word) value.Null (apart_in p w.places i)
    ∙ value_projected r w.places (schema_of w p).key i.key_shown ∙ ap (value_at r) (place_is p.shape.key w.places i.key_shown))
    ∙ g.key

pub word_kept : (p : Plan) (w : Wanted) (k word : List ℕ) (r : List Value) → IsKeyed p w.places → IsRowOf p k r → text_eq word (codes "DELETE") ≡ false
    → kept_of (schema_of w p) (with_word (schema_of w p) word (projected r w.places)) ≡ Some (projected r w.places)
word_kept p w k word r i g other =
    let long : length (projected r w.places) ≡ length w.places = length-map w.places (value_at r) in
    let at : value_at (with_word (schema_of w p) word (projected r w.places)) (schema_of w p).command ≡ value.Text word
    = get_or-set_same (projected r w.places) (schema_of w p).command (value.Text word) value.Null (omega (arith, i.command_shown, long)) in
    let none : value_at (projected r w.places) (schema_of w p).command ≡ value.Null
    = value_projected r w.places (schema_of w p).command i.command_shown ∙ ap (value_at r) (place_is p.shape.command w.places i.command_shown) ∙ g.command in
    let back : set (with_word (schema_of w p) word (projected r w.places)) (schema_of w p).command value.Null ≡ projected r w.places
    = set-set (projected r w.places) (schema_of w p).command (value.Text word) value.Null
    ∙ ap (λ v. set (projected r w.places) (schema_of w p).command v) (sym none)
    ∙ set-get_or (projected r w.places) (schema_of w p).command value.Null in
    ap (λ v. cond (text_eq (text_or_empty v) (codes "DELETE")) None
    (Some (set (with_word (schema_of w p) word (projected r w.places)) (schema_of w p).command value.Null))) at
    ∙ ap (λ (b : Bool). cond b None (Some (set (with_word (schema_of w p) word (projected r w.places)) (schema_of w p).command value.Null))) other
    ∙ ap Some back

pub delete_key : (p : Plan) (w : Wanted) (k : List ℕ) → IsKeyed p w.places → text_or_empty
    (value_at (delete_row (schema_of w p) (length w.places) k) (schema_of w p).key) ≡ k
delete_key p w k i =
    ap text_or_empty
    (get_or-set_other (set (nulls (length w.places)) (schema_of w p).key (value.Text k)) (schema_of w p).command (schema_of w p).key
    (value.Text (codes "DELETE")) value.Null (apart_in p w.places i)
    ∙ get_or-set_same (nulls (length w.places)) (schema_of w p).key (value.Text k) value.Null
    (omega (arith, i.key_shown, length-replicate (length w.places) value.Null)))

pub delete_kept : (p : Plan) (w : Wanted) (k : List ℕ) → IsKeyed p w.places → kept_of (schema_of w p) (delete_row (schema_of w p) (length w.places) k) ≡ None
delete_kept p w k i =
    let n : length (set (nulls (length w.places)) (schema_of w p).key (value.Text k)) ≡ length w.places
    = length-set (nulls (length w.places)) (schema_of w p).key (value.Text k) ∙ length-replicate (length w.places) value.Null in
    let at : value_at (delete_row (schema_of w p) (length w.places) k) (schema_of w p).command ≡ value.Text (codes "DELETE")
    = get_or-set_same (set (nulls (length w.places)) (schema_of w p).key (value.Text k)) (schema_of w p).command (value.Text (codes "DELETE")) value.Null
    (omega (arith, i.command_shown, n)) in
    ap (λ v. cond (text_eq (text_or_empty v) (codes "DELETE")) None
    (Some (set (delete_row (schema_of w p) (length w.places) k) (schema_of w p).command value.Null))) at
