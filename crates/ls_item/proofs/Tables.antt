-- The keys of a COMMAND item after an update, by the place of its key.
use Rattle.std.proofs.Common.{◌≡◌, ◌-◌, ◌^◌, ℕ, ◌<◌, ◌≤◌, List, [], ◌∷◌, length, get_or, set, slice_get, refl, sym, ◌∙◌}
use Rattle.std.proofs.Common.{ap, subst, arith, zero, suc, Bool, true, false, ◌&&◌, cond, nat_le, max, min, sum_by}
use Rattle.std.proofs.Common.{Option, None, Some, option_map, unwrap_or, is_none}
use Rattle.std.specs.List.{insert, remove}
use Rattle.std.proofs.lemmas.Bool.{leb-false}
use Rattle.std.proofs.lemmas.List.{length-set, length-replicate}
use Rattle.std.proofs.lemmas.List.Edits.{length-insert}
use Rattle.std.proofs.lemmas.List.Elements.{All-cons, All-head, All-tail, All-nil}
use Rattle.std.proofs.lemmas.Option.{slice_get-get_or}
use Rattle.ls_value.specs.declared.row.Value.{Value}
use Rattle.ls_value.specs.declared.row.Value.TheVariants as value
use Rattle.ls_value.specs.declared.row.Cell.{Cell}
use Rattle.ls_value.specs.declared.row.Cell.TheVariants as cell
use Rattle.ls_value.specs.Values.{applied, nulls, kept_or_taken, text_eq, cell_at, weight_of, weight_of_cell}
use Rattle.ls_value.proofs.Rows.{text_eq_true, applied_length}
use Rattle.ls_event.specs.declared.event.Event.TheVariants.{Update}
use Rattle.ls_event.specs.declared.event.PushRefused.TheVariants as push
use Rattle.ls_event.specs.declared.snapshot.KeyedRow.{KeyedRow}
use Rattle.ls_event.specs.declared.snapshot.Snapshot.TheVariants as state
use Rattle.ls_event.specs.declared.limits.TheConstants.{MOST_KEYS}
use Rattle.ls_event.specs.Shapes.{Shape}
use Rattle.ls_event.specs.History.{RowFits}
use Rattle.ls_event.specs.Keyed.{is_before, text_of_cell, key_of, deletes, row_at, with_row, without, row_with}
use Rattle.ls_event.specs.Keyed.{keyed_after}
use Rattle.ls_event.specs.States.{key_row, weight_made, key_row_made, adds_key, keys_refusal}
use Rattle.ls_item.specs.Keys.{IsOrdered, has_key, IsAt, IsGap}
use Rattle.ls_item.specs.declared.command.Change.{Change}
use Rattle.ls_item.specs.declared.command.Change.TheVariants as change
use Rattle.ls_item.specs.Changes.{IsChange}
use Rattle.ls_item.specs.States.{KeyTable, shape_in, AllKeyedWide, IsKeyTable}
use Rattle.ls_item.proofs.RowWeights.{new_row_weight}
use Rattle.ls_item.proofs.Places.{row_found, row_absent, with_found, with_absent, without_found, row_at-with}
use Rattle.ls_item.proofs.Places.{row_at-without, ordered_with, ordered_without}

-- what stands at a key's place

pub key_at : (key : List ℕ) (ks : List KeyedRow) (i : ℕ) (d : KeyedRow) → IsAt key ks i → (get_or ks i d).key ≡ key
key_at key ks i d at =
    let here : has_key key (Some (get_or ks i d)) ≡ true = subst (λ (o : Option KeyedRow). has_key key o ≡ true)
    (ap (slice_get ks) (sym at.index) ∙ slice_get-get_or ks i d at.within) at.found in
    text_eq_true (get_or ks i d).key key here

pub row_here : (key : List ℕ) (ks : List KeyedRow) (i : ℕ) (d : KeyedRow) → IsOrdered ks → IsAt key ks i
    → row_at key ks ≡ Some (get_or ks i d).row
row_here key ks i d o at =
    row_found key ks o at.found ∙ ap (λ n. option_map (λ (k : KeyedRow). k.row) (slice_get ks n)) (sym at.index)
    ∙ ap (option_map (λ (k : KeyedRow). k.row)) (slice_get-get_or ks i d at.within)

-- the row that an update makes

-- a field is made null before or after
pub null_before : (row : List Value) (cells : List Cell) (place : ℕ) → length cells ≡ length row
    → applied row (set cells place cell.Null) ≡ set (applied row cells) place value.Null
null_before [] cells place same = refl
null_before (v ∷ row) [] place same = absurd (omega (arith, same))
null_before (v ∷ row) (c ∷ cells) zero same = refl
null_before (v ∷ row) (c ∷ cells) (suc place) same = ap (λ xs. kept_or_taken v c ∷ xs)
    (null_before row cells place (omega (arith, same)))

pub made_deleted : (p : Shape) (ks : List KeyedRow) (cells : List Cell) → deletes p cells ≡ true
    → key_row_made p ks cells ≡ None
made_deleted p ks cells t = rw t refl

made_kept : (p : Shape) (ks : List KeyedRow) (cells : List Cell) (o : Option (List Value)) → deletes p cells ≡ false
    → row_at (key_of p cells) ks ≡ o → key_row_made p ks cells ≡ Some (row_with p o cells)
made_kept p ks cells o f is = rw (f, is) refl

-- what an update and its row weigh
pub weight_deleted : (p : Shape) (ks : List KeyedRow) (cells : List Cell) → deletes p cells ≡ true
    → weight_made (Update cells) (key_row_made p ks cells) ≡ min (sum_by weight_of_cell cells) (2 ^ 64 - 1)
weight_deleted p ks cells t = rw (made_deleted p ks cells t) (omega arith)

pub weight_new : (p : Shape) (ks : List KeyedRow) (cells : List Cell) → deletes p cells ≡ false
    → row_at (key_of p cells) ks ≡ None → weight_made (Update cells) (key_row_made p ks cells)
    ≡ min (sum_by weight_of_cell cells) (2 ^ 64 - 1)
weight_new p ks cells f is = rw (made_kept p ks cells None f is)
    (omega (arith, new_row_weight p.fields cells p.command))

pub weight_updated : (p : Shape) (ks : List KeyedRow) (cells : List Cell) (row : List Value) → deletes p cells ≡ false
    → row_at (key_of p cells) ks ≡ Some row
    → weight_made (Update cells) (key_row_made p ks cells) ≡ min
    (max (sum_by weight_of_cell cells) (weight_of (set (applied row cells) p.command value.Null))) (2 ^ 64 - 1)
weight_updated p ks cells row f is = ap (weight_made (Update cells)) (made_kept p ks cells (Some row) f is)

-- the keys after an update

abbrev keyed : List ℕ → List Value → KeyedRow
keyed key row = record { key = key; row = row }

keyed_same : (k k' : List ℕ) (r r' : List Value) → k ≡ k' → r ≡ r' → keyed k r ≡ keyed k' r'
keyed_same k k' r r' e f = ap (λ x. keyed x r) e ∙ ap (λ x. keyed k' x) f

wide_with : (n : ℕ) (key : List ℕ) (row : List Value) (ks : List KeyedRow) → length row ≡ n → AllKeyedWide n ks
    → AllKeyedWide n (with_row key row ks)
wide_with n key row [] fits wide = All-cons (λ k. length k.row ≡ n) (keyed key row) [] fits
    (All-nil (λ (k : KeyedRow). length k.row ≡ n))
wide_with n key row (k ∷ ks) fits wide = by_test (text_eq k.key key) (is_before key k.key)
    (wide_with n key row ks fits (All-tail Wide k ks wide))
  where
    Wide : KeyedRow → Type 0
    Wide x = length x.row ≡ n

    by_test : (v w : Bool) → AllKeyedWide n (with_row key row ks)
        → AllKeyedWide n (cond v (keyed key row ∷ ks) (cond w (keyed key row ∷ k ∷ ks) (k ∷ with_row key row ks)))
    by_test true w rest = All-cons Wide (keyed key row) ks fits (All-tail Wide k ks wide)
    by_test false true rest = All-cons Wide (keyed key row) (k ∷ ks) fits wide
    by_test false false rest = All-cons Wide k (with_row key row ks) (All-head Wide k ks wide) rest

wide_without : (n : ℕ) (key : List ℕ) (ks : List KeyedRow) → AllKeyedWide n ks → AllKeyedWide n (without key ks)
wide_without n key [] wide = wide
wide_without n key (k ∷ ks) wide = by_test (text_eq k.key key) (wide_without n key ks (All-tail Wide k ks wide))
  where
    Wide : KeyedRow → Type 0
    Wide x = length x.row ≡ n

    by_test : (v : Bool) → AllKeyedWide n (without key ks) → AllKeyedWide n (cond v ks (k ∷ without key ks))
    by_test true rest = All-tail Wide k ks wide
    by_test false rest = All-cons Wide k (without key ks) (All-head Wide k ks wide) rest

fewer_without : (key : List ℕ) (ks : List KeyedRow) → length (without key ks) ≤ length ks
fewer_without key [] = omega arith
fewer_without key (k ∷ ks) = by_test (text_eq k.key key) (fewer_without key ks)
  where
    by_test : (v : Bool) → length (without key ks) ≤ length ks
        → length (cond v ks (k ∷ without key ks)) ≤ suc (length ks)
    by_test true rest = omega arith
    by_test false rest = omega (arith, rest)

table_with : (p : Shape) (key : List ℕ) (row : List Value) (ks : List KeyedRow) → IsKeyTable p ks
    → length row ≡ p.fields → length (with_row key row ks) ≤ MOST_KEYS → IsKeyTable p (with_row key row ks)
table_with p key row ks t fits few = record {
  key = t.key;
  command = t.command;
  wide =
      wide_with p.fields key row ks fits t.wide;
  few = few;
  ordered = ordered_with key row ks t.ordered;
}

table_without : (p : Shape) (key : List ℕ) (ks : List KeyedRow) → IsKeyTable p ks → IsKeyTable p (without key ks)
table_without p key ks t = record {
  key = t.key;
  command = t.command;
  wide = wide_without p.fields key ks t.wide;
  few =
      omega (arith, t.few, fewer_without key ks);
  ordered = ordered_without key ks t.ordered;
}

-- what a change makes: the keys after an update, and the row that it leaves its key
pub record Changed (p : Shape) (ks : List KeyedRow) (cells : List Cell) (after : List KeyedRow)
    (answer : Option (List Value)) : Type 0 where
  pub table : IsKeyTable p after
  pub keys : after ≡ keyed_after p ks (Update cells)
  pub row : answer ≡ key_row p (state.Command (keyed_after p ks (Update cells))) (Update cells)
  pub fits : RowFits p.fields answer

-- where the update deletes its key
deleted : (p : Shape) (ks : List KeyedRow) (cells : List Cell) (after : List KeyedRow) → IsKeyTable p ks
    → deletes p cells ≡ true → without (key_of p cells) ks ≡ after → Changed p ks cells after None
deleted p ks cells after t is e =
    let whole : keyed_after p ks (Update cells) ≡ without (key_of p cells) ks = rw is refl in
    record {
      table = subst (IsKeyTable p) e (table_without p (key_of p cells) ks t);
      keys = sym (whole ∙ e);
      row = sym (ap (row_at (key_of p cells)) whole ∙ row_at-without (key_of p cells) ks t.ordered);
      fits = tt;
    }

-- where there is no such key
without_none : (key : List ℕ) (ks : List KeyedRow) → row_at key ks ≡ None → without key ks ≡ ks
without_none key [] none = refl
without_none key (k ∷ ks) none = by_test (text_eq k.key key) none (without_none key ks)
  where
    by_test : (v : Bool) → cond v (Some k.row) (row_at key ks) ≡ None → (row_at key ks ≡ None → without key ks ≡ ks)
        → cond v ks (k ∷ without key ks) ≡ k ∷ ks
    by_test true h rest = cc
    by_test false h rest = ap (λ xs. k ∷ xs) (rest h)

pub nothing_done : (t : KeyTable) (cells : List Cell) → IsChange (shape_in t) t.keys cells change.Nothing
    → t ≡ record t { keys = keyed_after (shape_in t) t.keys (Update cells) }
nothing_done t cells is =
    rw is.0 (ap (λ ks. record t { keys = ks }) (sym (without_none (key_of (shape_in t) cells) t.keys is.1)))

pub nothing_row : (t : KeyTable) (cells : List Cell) → IsChange (shape_in t) t.keys cells change.Nothing
    → None ≡ key_row (shape_in t) (state.Command (keyed_after (shape_in t) t.keys (Update cells))) (Update cells)
nothing_row t cells is =
    rw is.0 (sym (ap (row_at (key_of (shape_in t) cells)) (without_none (key_of (shape_in t) cells) t.keys is.1)
    ∙ is.1))

pub remove_changed : (p : Shape) (ks : List KeyedRow) (cells : List Cell) (i : ℕ) → IsKeyTable p ks
    → IsChange p ks cells (change.Remove i) → Changed p ks cells (remove ks i) None
remove_changed p ks cells i t is = deleted p ks cells (remove ks i) t is.0
    (without_found (key_of p cells) ks is.1.found ∙ ap (remove ks) (sym is.1.index))

-- where the update writes its key's row
written : (p : Shape) (ks : List KeyedRow) (cells : List Cell) (row : List Value) (after : List KeyedRow)
    → IsKeyTable p ks → deletes p cells ≡ false → row_with p (row_at (key_of p cells) ks) cells ≡ row
    → length row ≡ p.fields
    → with_row (key_of p cells) row ks ≡ after → length after ≤ MOST_KEYS → Changed p ks cells after (Some row)
written p ks cells row after t is made fits e few =
    let whole : keyed_after p ks (Update cells) ≡ with_row (key_of p cells) row ks =
    rw is (ap (λ r. with_row (key_of p cells) r ks) made) in
    record {
      table = subst (IsKeyTable p) e (table_with p (key_of p cells) row ks t fits
          (subst (λ (xs : List KeyedRow). length xs ≤ MOST_KEYS) (sym e) few));
      keys = sym (whole ∙ e);
      row = sym (ap (row_at (key_of p cells)) whole ∙ row_at-with (key_of p cells) row ks);
      fits = fits;
    }

pub update_changed : (p : Shape) (ks : List KeyedRow) (cells : List Cell) (i : ℕ) (x : KeyedRow) (row : List Value)
    → IsKeyTable p ks → length cells ≡ p.fields → IsChange p ks cells (change.Update i) → x ≡ get_or ks i x
    → row ≡ applied x.row (set cells p.command cell.Null) → Changed p ks cells (set ks i (keyed x.key row)) (Some row)
update_changed p ks cells i x row t same is at made =
    let key : List ℕ = key_of p cells in
    let wide : length x.row ≡ p.fields = subst (λ (k : KeyedRow). length k.row ≡ p.fields) (sym at)
    (t.wide i x is.1.within) in
    let here : row_at key ks ≡ Some x.row = row_here key ks i x t.ordered is.1
    ∙ ap (λ (k : KeyedRow). Some k.row) (sym at) in
    let named : key ≡ x.key = sym (key_at key ks i x is.1) ∙ ap (λ (k : KeyedRow). k.key) (sym at) in
    written p ks cells row (set ks i (keyed x.key row)) t is.0
    (ap (λ r. row_with p r cells) here ∙ sym (made ∙ null_before x.row cells p.command (same ∙ sym wide)))
    (ap (λ (r : List Value). length r) made ∙ applied_length x.row (set cells p.command cell.Null) ∙ wide)
    (with_found key row ks is.1.found ∙ ap (λ n. set ks n (keyed key row)) (sym is.1.index)
    ∙ ap (set ks i) (keyed_same key x.key row row named refl))
    (omega (arith, t.few, length-set ks i (keyed x.key row)))

-- a key that is added isn't the 1,025th
room : (p : Shape) (ks : List KeyedRow) (cells : List Cell) → deletes p cells ≡ false
    → row_at (key_of p cells) ks ≡ None → keys_refusal p (state.Command ks) (Update cells) ≡ None
    → length ks < MOST_KEYS
room p ks cells is none few = by_test (nat_le MOST_KEYS (length ks)) refl (rw (is, none) at few)
  where
    by_test : (v : Bool) → nat_le MOST_KEYS (length ks) ≡ v → cond (v && true) (Some push.TooManyKeys) None ≡ None
        → length ks < MOST_KEYS
    by_test true t h = cc
    by_test false t h = leb-false MOST_KEYS (length ks) t

pub insert_changed : (p : Shape) (ks : List KeyedRow) (cells : List Cell) (i : ℕ) (key : List ℕ) (row : List Value)
    → IsKeyTable p ks → length cells ≡ p.fields → IsChange p ks cells (change.Insert i)
    → keys_refusal p (state.Command ks) (Update cells) ≡ None
    → key ≡ key_of p cells → row ≡ applied (nulls p.fields) (set cells p.command cell.Null)
    → Changed p ks cells (insert ks i (keyed key row)) (Some row)
insert_changed p ks cells i key row t same is few named made =
    let none : row_at (key_of p cells) ks ≡ None = row_absent (key_of p cells) ks t.ordered is.1.absent in
    let wide : length (nulls p.fields) ≡ p.fields = length-replicate p.fields value.Null in
    let below : length ks < MOST_KEYS = room p ks cells is.0 none few in
    written p ks cells row (insert ks i (keyed key row)) t is.0
    (ap (λ r. row_with p r cells) none ∙ sym (made ∙ null_before (nulls p.fields) cells p.command (same ∙ sym wide)))
    (ap (λ (r : List Value). length r) made ∙ applied_length (nulls p.fields) (set cells p.command cell.Null) ∙ wide)
    (with_absent (key_of p cells) row ks is.1.absent ∙ ap (λ n. insert ks n (keyed (key_of p cells) row))
    (sym is.1.index) ∙ ap (λ k. insert ks i (keyed k row)) (sym named))
    (omega (arith, below, length-insert ks i (keyed key row) is.1.within))

-- what a call has done that makes a change: the keys are those after the update, and the answer is the row that it
-- leaves its key
pub record Done (s t : KeyTable) (cells : List Cell) (after : List KeyedRow) (answer : Option (List Value)) : Type 0
  where
    pub table : IsKeyTable (shape_in s) after
    pub view : record s { keys = after } ≡ record t { keys = keyed_after (shape_in t) t.keys (Update cells) }
    pub row : answer ≡ key_row (shape_in t) (state.Command (keyed_after (shape_in t) t.keys (Update cells))) (Update cells)
    pub fits : RowFits t.fields answer

done : (s t : KeyTable) (cells : List Cell) (after : List KeyedRow) (answer : Option (List Value)) → s ≡ t
    → Changed (shape_in s) s.keys cells after answer → Done s t cells after answer
done s t cells after answer e c =
    subst (λ (u : KeyTable). Done s u cells after answer) e (record
    { table = c.table; view = ap (λ ks. record s { keys = ks }) c.keys; row = c.row; fits = c.fits })

pub remove_done : (s t : KeyTable) (cells : List Cell) (i : ℕ) → s ≡ t → IsKeyTable (shape_in s) s.keys
    → IsChange (shape_in t) t.keys cells (change.Remove i) → Done s t cells (remove s.keys i) None
remove_done s t cells i e table is = done s t cells (remove s.keys i) None e
    (remove_changed (shape_in s) s.keys cells i table
    (subst (λ (u : KeyTable). IsChange (shape_in u) u.keys cells (change.Remove i)) (sym e) is))

-- an element is the same whatever stands for one that isn't there
same_at : (ks : List KeyedRow) (i : ℕ) (x y : KeyedRow) → i < length ks → x ≡ get_or ks i x → y ≡ get_or ks i y → y ≡ x
same_at ks i x y within e f =
    let here : Some (get_or ks i y) ≡ Some (get_or ks i x) = sym (slice_get-get_or ks i y within)
    ∙ slice_get-get_or ks i x within in
    f ∙ ap (λ o. unwrap_or o x) here ∙ sym e

pub update_done : (s t : KeyTable) (cells kept : List Cell) (i : ℕ) (x y : KeyedRow) (row answer : List Value) → s ≡ t
    → IsKeyTable (shape_in s) s.keys → length cells ≡ t.fields → IsChange (shape_in t) t.keys cells (change.Update i)
    → kept ≡ set cells s.command cell.Null → x ≡ get_or s.keys i x → row ≡ applied x.row kept → y ≡ get_or s.keys i y
    → answer ≡ applied y.row kept → Done s t cells (set s.keys i (keyed x.key row)) (Some answer)
update_done s t cells kept i x y row answer e table same is but at made at' given =
    let is' = subst (λ (u : KeyTable). IsChange (shape_in u) u.keys cells (change.Update i)) (sym e) is in
    let given' : answer ≡ row = given ∙ ap (λ (k : KeyedRow). applied k.row kept)
    (same_at s.keys i x y is'.1.within at at') ∙ sym made in
    subst (λ (l : List Value). Done s t cells (set s.keys i (keyed x.key row)) (Some l)) (sym given')
    (done s t cells (set s.keys i (keyed x.key row)) (Some row) e
    (update_changed (shape_in s) s.keys cells i x row table (same ∙ ap (λ (u : KeyTable). u.fields) (sym e)) is' at
    (made ∙ ap (applied x.row) but)))

-- the cell at a place
pub cell_here : (cells : List Cell) (place : ℕ) (c : Cell) → place < length cells → c ≡ get_or cells place c
    → c ≡ cell_at cells place
cell_here cells place c within at =
    let here : Some (get_or cells place c) ≡ Some (cell_at cells place) =
    sym (slice_get-get_or cells place c within) ∙ slice_get-get_or cells place cell.Same within in
    at ∙ ap (λ o. unwrap_or o c) here

pub insert_done : (s t : KeyTable) (cells : List Cell) (i : ℕ) (row : List Value) → s ≡ t
    → IsKeyTable (shape_in s) s.keys → length cells ≡ t.fields → IsChange (shape_in t) t.keys cells (change.Insert i)
    → keys_refusal (shape_in t) (state.Command t.keys) (Update cells) ≡ None
    → row ≡ applied (nulls s.fields) (set cells s.command cell.Null)
    → Done s t cells (insert s.keys i (keyed (text_of_cell (cell_at cells s.key)) row)) (Some row)
insert_done s t cells i row e table same is few made =
    done s t cells (insert s.keys i (keyed (text_of_cell (cell_at cells s.key)) row)) (Some row) e
    (insert_changed (shape_in s) s.keys cells i (text_of_cell (cell_at cells s.key)) row table
    (same ∙ ap (λ (u : KeyTable). u.fields) (sym e))
    (subst (λ (u : KeyTable). IsChange (shape_in u) u.keys cells (change.Insert i)) (sym e) is)
    (subst (λ (u : KeyTable). keys_refusal (shape_in u) (state.Command u.keys) (Update cells) ≡ None) (sym e) few) refl made)

-- only a new key is added

pub no_key : (key : List ℕ) (ks : List KeyedRow) (i : ℕ) → IsOrdered ks → IsGap key ks i → row_at key ks ≡ None
no_key key ks i o gap = row_absent key ks o gap.absent

some_key : (key : List ℕ) (ks : List KeyedRow) (i : ℕ) → IsOrdered ks → IsAt key ks i → (o : Option (List Value))
    → row_at key ks ≡ o → is_none o ≡ false
some_key key ks i o at None is = absurd (let h : Some (get_or ks i (keyed [] [])).row ≡ None =
    sym (row_here key ks i (keyed [] []) o at) ∙ is in cc)
some_key key ks i o at (Some row) is = refl

and_false : (v : Bool) → (v && false) ≡ false
and_false true = refl
and_false false = refl

and_true : (v : Bool) → (v && true) ≡ v
and_true true = refl
and_true false = refl

-- whether a change adds a key
abbrev pub is_insert : Change → Bool
is_insert change.Nothing = false
is_insert (change.Remove i) = false
is_insert (change.Update i) = false
is_insert (change.Insert i) = true

adds_exactly : (p : Shape) (ks : List KeyedRow) (cells : List Cell) (c : Change) → IsOrdered ks → IsChange p ks cells c
    → adds_key p ks cells ≡ is_insert c
adds_exactly p ks cells change.Nothing o is = rw is.0 refl
adds_exactly p ks cells (change.Remove i) o is = rw is.0 refl
adds_exactly p ks cells (change.Update i) o is =
    rw is.0 (some_key (key_of p cells) ks i o is.1 (row_at (key_of p cells) ks) refl)
adds_exactly p ks cells (change.Insert i) o is = rw (is.0, no_key (key_of p cells) ks i o is.1) refl

-- whether a change adds a key to 1,024
pub exceeds : (s t : KeyTable) (cells : List Cell) (c : Change) (full : Bool) → s ≡ t → IsKeyTable (shape_in s) s.keys
    → IsChange (shape_in t) t.keys cells c → full ≡ nat_le MOST_KEYS (length s.keys)
    → (full && is_insert c) ≡ (nat_le MOST_KEYS (length t.keys) && adds_key (shape_in t) t.keys cells)
exceeds s t cells c full e table is fills =
    let adds : adds_key (shape_in t) t.keys cells ≡ is_insert c =
    adds_exactly (shape_in t) t.keys cells c (subst (λ (u : KeyTable). IsOrdered u.keys) e table.ordered) is in
    let same : full ≡ nat_le MOST_KEYS (length t.keys) = fills
    ∙ ap (λ (u : KeyTable). nat_le MOST_KEYS (length u.keys)) e in
    rw (adds, same) refl

not_insert : (c : Change) → ((i : ℕ) → c ≡ change.Insert i → ⊥) → is_insert c ≡ false
not_insert change.Nothing other = refl
not_insert (change.Remove i) other = refl
not_insert (change.Update i) other = refl
not_insert (change.Insert i) other = absurd (other i refl)

pub exceeds_insert : (s t : KeyTable) (cells : List Cell) (i : ℕ) (full : Bool) → s ≡ t → IsKeyTable (shape_in s) s.keys
    → IsChange (shape_in t) t.keys cells (change.Insert i) → full ≡ nat_le MOST_KEYS (length s.keys)
    → full ≡ (nat_le MOST_KEYS (length t.keys) && adds_key (shape_in t) t.keys cells)
exceeds_insert s t cells i full e table is fills = sym (and_true full)
    ∙ exceeds s t cells (change.Insert i) full e table is fills

pub exceeds_else : (s t : KeyTable) (cells : List Cell) (c : Change) → s ≡ t → IsKeyTable (shape_in s) s.keys
    → IsChange (shape_in t) t.keys cells c → ((i : ℕ) → c ≡ change.Insert i → ⊥)
    → false ≡ (nat_le MOST_KEYS (length t.keys) && adds_key (shape_in t) t.keys cells)
exceeds_else s t cells c e table is other = sym (and_false (nat_le MOST_KEYS (length s.keys)))
    ∙ ap (λ v. nat_le MOST_KEYS (length s.keys) && v) (sym (not_insert c other))
    ∙ exceeds s t cells c (nat_le MOST_KEYS (length s.keys)) e table is refl

-- what a change weighs where it updates no row
pub weight_else : (s t : KeyTable) (cells : List Cell) (c : Change) → s ≡ t → IsKeyTable (shape_in s) s.keys
    → IsChange (shape_in t) t.keys cells c → ((i : ℕ) → c ≡ change.Update i → ⊥)
    → min (sum_by weight_of_cell cells) (2 ^ 64 - 1) ≡ weight_made (Update cells)
    (key_row_made (shape_in t) t.keys cells)
weight_else s t cells change.Nothing e table is other = sym (weight_deleted (shape_in t) t.keys cells is.0)
weight_else s t cells (change.Remove i) e table is other = sym (weight_deleted (shape_in t) t.keys cells is.0)
weight_else s t cells (change.Update i) e table is other = absurd (other i refl)
weight_else s t cells (change.Insert i) e table is other = sym
    (weight_new (shape_in t) t.keys cells is.0 (no_key (key_of (shape_in t) cells) t.keys i
    (subst (λ (u : KeyTable). IsOrdered u.keys) e table.ordered) is.1))

-- and where it updates one
pub weight_changed : (s t : KeyTable) (cells : List Cell) (i : ℕ) (x : KeyedRow) (event row both : ℕ) → s ≡ t
    → IsKeyTable (shape_in s) s.keys → IsChange (shape_in t) t.keys cells (change.Update i) → x ≡ get_or s.keys i x
    → event ≡ min (sum_by weight_of_cell cells) (2 ^ 64 - 1) → row
    ≡ min (weight_of (set (applied x.row cells) s.command value.Null)) (2 ^ 64 - 1) → both ≡ max event row
    → both ≡ weight_made (Update cells) (key_row_made (shape_in t) t.keys cells)
weight_changed s t cells i x event row both e table is at of_event of_row of_both =
    let is' = subst (λ (u : KeyTable). IsChange (shape_in u) u.keys cells (change.Update i)) (sym e) is in
    let here : row_at (key_of (shape_in s) cells) s.keys ≡ Some x.row =
    row_here (key_of (shape_in s) cells) s.keys i x table.ordered is'.1
    ∙ ap (λ (k : KeyedRow). Some k.row) (sym at) in
    let made = weight_updated (shape_in s) s.keys cells x.row is'.0 here in
    let w : both ≡ weight_made (Update cells) (key_row_made (shape_in s) s.keys cells) =
    omega (arith, of_event, of_row, of_both, made) in
    w ∙ ap (λ (u : KeyTable). weight_made (Update cells) (key_row_made (shape_in u) u.keys cells)) e
