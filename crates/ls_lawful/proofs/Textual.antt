-- The rows that come to a client have its schema's fields, and their texts are UTF-8 where those of the history are.
use Rattle.std.proofs.Common.{◌==◌, ℕ, zero, suc, ◌+◌, List, [], ◌∷◌, length, map, take, drop, set, refl, sym, ◌∙◌}
use Rattle.std.proofs.Common.{ap, subst, cond, Bool, true, false, ◌&&◌, ◌≡◌, ◌-◌, Option, None, Some, IfSome}
use Rattle.std.proofs.Common.{option_map, nat_lt, slice_get, codes, inl, inr}
use Rattle.std.specs.List.{list_all}
use Rattle.std.specs.Str.{IsAscii, IsUtf8}
use Rattle.std.proofs.lemmas.Bool.{ltb-true}
use Rattle.std.proofs.lemmas.List.{length-map, length-set, length-replicate}
use Rattle.std.proofs.lemmas.Str.{IsUtf8-from_ascii}
use Rattle.std.proofs.lemmas.Str.Ascii.{IsAscii-nil, IsAscii-cons}
use Rattle.ls_value.specs.declared.row.Value.{Value}
use Rattle.ls_value.specs.declared.row.Cell.{Cell}
use Rattle.ls_value.specs.Values.{applied, kept_or_taken, nulls, value_at, projected, text_eq, row_eq}
use Rattle.ls_value.proofs.Rows.{and_left, and_right, text_eq_true}
use Rattle.ls_update.specs.Reading.{IsTextual as IsTextualValue}
use Rattle.ls_event.specs.declared.event.Event.{Event}
use Rattle.ls_event.specs.declared.event.Event.TheVariants.{Update, Clear}
use Rattle.ls_event.specs.declared.event.Entry.{Entry}
use Rattle.ls_event.specs.declared.event.Mode.{Mode}
use Rattle.ls_event.specs.declared.event.Taken.{Taken}
use Rattle.ls_event.specs.declared.snapshot.KeyedRow.{KeyedRow}
use Rattle.ls_event.specs.declared.updates.OwnRow.{OwnRow}
use Rattle.ls_event.specs.History.{row_after, row_after_all, merged, between}
use Rattle.ls_event.specs.Updates.{own_value, own_row, own_of, own_from, updates_between, clear_or, last_clear}
use Rattle.ls_event.specs.Updates.{recent_rows}
use Rattle.ls_event.specs.Shapes.{Shape}
use Rattle.ls_event.specs.Keyed.{key_of, deletes, row_at, with_row, without, row_with, keyed_after, keyed_after_all}
use Rattle.ls_event.specs.Keyed.{keyed}
use Rattle.ls_event.specs.CommandCuts.{command_queue, key_taken, command_cut_by, command_cut}
use Rattle.ls_event.specs.Cuts.{cut, cut_of}
use Rattle.ls_event.specs.Slots.{Plan, Slot, passed}
use Rattle.ls_mirror.specs.declared.command.KeyPlaces.{KeyPlaces}
use Rattle.ls_mirror.specs.Client.{What, Row, Lost, Cleared, End}
use Rattle.ls_record.specs.Came.{Came, whats}
use Rattle.ls_record.specs.Tables.{text_or_empty, kept_of, table_at, with_word, delete_row, what_of_key}
use Rattle.ls_record.specs.Tables.{projected_row}
use Rattle.ls_record.specs.Cutting.{Wanted, schema_of, what_of_cut, turn_within, turn}
use Rattle.ls_record.proofs.Parts.{turn_or, turn_by}
use Rattle.ls_lawful.specs.RawMode.{RawSays}
use Rattle.ls_lawful.specs.DistinctMode.{DistinctSays}
use Rattle.ls_value.specs.Each.{Each}
use Rattle.ls_lawful.specs.Lawful.{IsMergeLine, LawfulOf, LawfulSlot}
use Rattle.ls_value.specs.Textual.{IsTextual}
use Rattle.ls_lawful.proofs.DistinctTruths.{IsLine, distinct_each}
use Rattle.ls_value.proofs.Each.{each_append}
use Rattle.ls_record.proofs.Each.{each_at}
use Rattle.ls_record.proofs.EachKey.{EachKey, key_has, each_with, each_without}
use Rattle.ls_lawful.proofs.Heard.{RowFits}
use Rattle.ls_lawful.proofs.Modes.{passed_plan}
use Rattle.ls_value.specs.declared.row.Value.TheVariants as value
use Rattle.ls_value.specs.declared.row.Cell.TheVariants as cell
use Rattle.ls_event.specs.declared.event.Mode.TheVariants as mode
use Rattle.ls_event.specs.declared.event.Taken.TheVariants as taken
use Rattle.ls_event.specs.Textual.{Textual, TextualEvent}

kept_textual : (v : Value) (c : Cell) → IsTextualValue v → IsTextual c → IsTextualValue (kept_or_taken v c)
kept_textual v cell.Same h k = h
kept_textual v cell.Null h k = tt
kept_textual v (cell.Text t) h k = k

applied_textual : (row : List Value) (cells : List Cell) → Each IsTextualValue row → Each IsTextual cells → Each IsTextualValue (applied row cells)
applied_textual [] cells h k = tt
applied_textual (v ∷ row) [] h k = h
applied_textual (v ∷ row) (c ∷ cells) h k = (kept_textual v c h.0 k.0, applied_textual row cells h.1 k.1)

nulls_textual : (n : ℕ) → Each IsTextualValue (nulls n)
nulls_textual zero = tt
nulls_textual (suc n) = (tt, nulls_textual n)

after_textual : (row : List Value) (e : Event) → Each IsTextualValue row → TextualEvent e → Each IsTextualValue (row_after row e)
after_textual row (Update cells) h k = applied_textual row cells h k
after_textual row Clear h k = nulls_textual (length row)

after_all_textual : (row : List Value) (es : List Entry) → Each IsTextualValue row → Textual es → Each IsTextualValue (row_after_all row es)
after_all_textual row [] h k = h
after_all_textual row (e ∷ es) h k = after_all_textual (row_after row e.event) es (after_textual row e.event h k.0) k.1

take_textual : (n : ℕ) (h : List Entry) → Textual h → Textual (take n h)
take_textual zero [] k = tt
take_textual zero (e ∷ es) k = tt
take_textual (suc n) [] k = tt
take_textual (suc n) (e ∷ es) k = (k.0, take_textual n es k.1)

at_textual : (row : List Value) (place : ℕ) → Each IsTextualValue row → IsTextualValue (value_at row place)
at_textual [] place h = tt
at_textual (v ∷ row) zero h = h.0
at_textual (v ∷ row) (suc place) h = at_textual row place h.1

projected_textual : (row : List Value) (places : List ℕ) → Each IsTextualValue row → Each IsTextualValue (projected row places)
projected_textual row [] h = tt
projected_textual row (p ∷ places) h = (at_textual row p h, projected_textual row places h)

merge_fits : (p : Plan) (w : Wanted) (h : List Entry) (c : Came) → Textual h → IsMergeLine p w h c → RowFits (length w.places) c.what
merge_fits p w h c t l =
    subst (λ (what : What). RowFits (length w.places) what) (sym l.row) (
      length-map w.places (value_at (merged p.shape.fields h c.upto)),
      projected_textual (merged p.shape.fields h c.upto) w.places
          (after_all_textual (nulls p.shape.fields) (take c.upto h) (nulls_textual p.shape.fields) (take_textual c.upto h t)),
    )

-- own rows

own_value_textual : (c : Cell) → IsTextual c → IsTextualValue (own_value c)
own_value_textual cell.Same k = tt
own_value_textual cell.Null k = tt
own_value_textual (cell.Text t) k = k

own_row_textual : (cells : List Cell) → Each IsTextual cells → Each IsTextualValue (own_row cells)
own_row_textual [] k = tt
own_row_textual (c ∷ cells) k = (own_value_textual c k.0, own_row_textual cells k.1)

abbrev TextualRow : OwnRow → Type 0
TextualRow u = Each IsTextualValue u.row

own_textual : (n : ℕ) (e : Event) → TextualEvent e → Each TextualRow (own_of n e)
own_textual n (Update cells) k = (own_row_textual cells k, tt)
own_textual n Clear k = tt

from_textual : (n : ℕ) (es : List Entry) → Textual es → Each TextualRow (own_from n es)
from_textual n [] k = tt
from_textual n (e ∷ es) k = each_append TextualRow (own_of (n + 1) e.event) (own_from (n + 1) es) (own_textual (n + 1) e.event k.0)
    (from_textual (n + 1) es k.1)

drop_textual : (n : ℕ) (h : List Entry) → Textual h → Textual (drop n h)
drop_textual zero h k = k
drop_textual (suc n) [] k = tt
drop_textual (suc n) (e ∷ es) k = drop_textual n es k.1

updates_textual : (h : List Entry) (p l : ℕ) → Textual h → Each TextualRow (updates_between h p l)
updates_textual h p l k = from_textual p (between h p l) (drop_textual p (take l h) (take_textual l h k))

row_fits : (places : List ℕ) (row : List Value) → Each IsTextualValue row → RowFits (length places) (Row (projected row places))
row_fits places row k = (length-map places (value_at row), projected_textual row places k)

raw_fits : (places : List ℕ) (us : List OwnRow) (what : What) → Each TextualRow us → RawSays places what us → RowFits (length places) what
raw_fits places us (Row r) t (u, is, row) = subst (λ (x : List Value). RowFits (length places) (Row x)) (sym row)
    (row_fits places u.row (subst (Each TextualRow) is t).0)
raw_fits places us (Lost k) t says = tt
raw_fits places us Cleared t says = absurd says
raw_fits places us End t says = absurd says

-- the rows of a snapshot
abbrev RowTextual : List Value → Type 0
RowTextual row = Each IsTextualValue row

rows_textual : (us : List OwnRow) → Each TextualRow us → Each RowTextual (map (λ (u : OwnRow). u.row) us)
rows_textual [] k = tt
rows_textual (u ∷ us) k = (k.0, rows_textual us k.1)

each_dropped : (n : ℕ) (rows : List (List Value)) → Each RowTextual rows → Each RowTextual (drop n rows)
each_dropped zero rows k = k
each_dropped (suc n) [] k = tt
each_dropped (suc n) (r ∷ rows) k = each_dropped n rows k.1

recent_textual : (h : List Entry) (i : ℕ) → Textual h → Each RowTextual (recent_rows h i)
recent_textual h i t =
    each_dropped (length (map (λ (u : OwnRow). u.row) (updates_between h (clear_or h 0 i) i)) - 32)
    (map (λ (u : OwnRow). u.row) (updates_between h (clear_or h 0 i) i))
    (rows_textual (updates_between h (clear_or h 0 i) i) (updates_textual h (clear_or h 0 i) i t))

-- an update of those between two numbers
at_textual_update : (us : List OwnRow) (k : ℕ) (u : OwnRow) → Each TextualRow us → slice_get us k ≡ Some u → Each IsTextualValue u.row
at_textual_update us k u t at = each_at TextualRow k u us at t

distinct_fits : (places : List ℕ) (size : ℕ) (h : List Entry) (c : Came) (what : What) → Textual h → DistinctSays places size h c what
    → RowFits (length places) what
distinct_fits places size h c (Row r) t (u, first, number, row, none) =
    subst (λ (x : List Value). RowFits (length places) (Row x)) (sym row)
    (row_fits places u.row (at_textual_update (updates_between h c.before c.at) (length (updates_between h c.before c.at) - size) u
    (updates_textual h c.before c.at t) first))
distinct_fits places size h c (Lost k) t says = tt
distinct_fits places size h c Cleared t says = tt
distinct_fits places size h c End t says = tt

line_fits : (places : List ℕ) (p : Plan) (h : List Entry) (c : Came) → Textual h → IsLine places p h c → RowFits (length places) c.what
line_fits places p h c t (inl l) =
    subst (RowFits (length places)) (sym l.says)
    (row_fits places l.own (each_at RowTextual l.behind l.own (recent_rows h p.base) l.is (recent_textual h p.base t)))
line_fits places p h c t (inr (inl l)) = subst (RowFits (length places)) (sym l.says) tt
line_fits places p h c t (inr (inr l)) = distinct_fits places p.size h c c.what t l.says

-- a text of ASCII is UTF-8
plain_ascii : (t : List ℕ) → list_all (λ b. nat_lt b 128) t ≡ true → IsAscii t
plain_ascii [] h = IsAscii-nil
plain_ascii (b ∷ bs) h = IsAscii-cons b bs (ltb-true b 128 (and_left (nat_lt b 128) (list_all (λ b. nat_lt b 128) bs) h))
    (plain_ascii bs (and_right (nat_lt b 128) (list_all (λ b. nat_lt b 128) bs) h))

pub plain_utf8 : (t : List ℕ) → list_all (λ b. nat_lt b 128) t ≡ true → IsUtf8 t
plain_utf8 t h = IsUtf8-from_ascii t (plain_ascii t h)

-- keyed rows
set_textual : (row : List Value) (i : ℕ) (v : Value) → IsTextualValue v → Each IsTextualValue row → Each IsTextualValue (set row i v)
set_textual [] i v t k = tt
set_textual (x ∷ row) zero v t k = (t, k.1)
set_textual (x ∷ row) (suc i) v t k = (k.0, set_textual row i v t k.1)

abbrev TextualOf : List ℕ → List Value → Type 0
TextualOf key row = Each IsTextualValue row

row_with_textual : (p : Shape) (row : Option (List Value)) (cells : List Cell) → IfSome row (Each IsTextualValue) → Each IsTextual cells
    → Each IsTextualValue (row_with p row cells)
row_with_textual p None cells r t = set_textual (applied (nulls p.fields) cells) p.command value.Null tt
    (applied_textual (nulls p.fields) cells (nulls_textual p.fields) t)
row_with_textual p (Some row) cells r t = set_textual (applied row cells) p.command value.Null tt (applied_textual row cells r t)

keyed_after_textual : (p : Shape) (ks : List KeyedRow) (e : Event) → TextualEvent e → EachKey TextualOf ks → EachKey TextualOf (keyed_after p ks e)
keyed_after_textual p ks (Update cells) t k = by_test (deletes p cells)
  where
    by_test : (v : Bool)
        → EachKey TextualOf (cond v (without (key_of p cells) ks) (with_row (key_of p cells) (row_with p (row_at (key_of p cells) ks) cells) ks))
    by_test true = each_without TextualOf (key_of p cells) ks k
    by_test false = each_with TextualOf (key_of p cells) (row_with p (row_at (key_of p cells) ks) cells) ks
        (row_with_textual p (row_at (key_of p cells) ks) cells (key_has TextualOf (key_of p cells) ks k) t) k
keyed_after_textual p ks Clear t k = tt

keyed_all_textual : (p : Shape) (ks : List KeyedRow) (es : List Entry) → Textual es → EachKey TextualOf ks → EachKey TextualOf (keyed_after_all p ks es)
keyed_all_textual p ks [] t k = k
keyed_all_textual p ks (e ∷ es) t k = keyed_all_textual p (keyed_after p ks e.event) es t.1 (keyed_after_textual p ks e.event t.0 k)

-- a key that the client has is the text of a row that came
in_textual : (v : Value) → IsTextualValue v → IsUtf8 (text_or_empty v)
in_textual value.Null t = plain_utf8 [] refl
in_textual (value.Text x) t = t

table_key : (at : KeyPlaces) (n : ℕ) (k : List ℕ) (ws : List What) → Each (RowFits n) ws → IfSome (table_at at k ws) (λ row. IsUtf8 k)
table_key at n k [] t = tt
table_key at n k (Row r ∷ ws) t = by_test (text_eq (text_or_empty (value_at r at.key)) k) refl (table_at at k ws) (table_key at n k ws t.1)
  where
    named : (o : Option (List Value)) → text_eq (text_or_empty (value_at r at.key)) k ≡ true → IfSome o (λ row. IsUtf8 k)
    named None e = tt
    named (Some row) e = subst IsUtf8 (text_eq_true (text_or_empty (value_at r at.key)) k e) (in_textual (value_at r at.key) (at_textual r at.key t.0.1))

    by_test : (v : Bool) → text_eq (text_or_empty (value_at r at.key)) k ≡ v → (o : Option (List Value)) → IfSome o (λ row. IsUtf8 k)
        → IfSome (cond v (kept_of at r) o) (λ row. IsUtf8 k)
    by_test true e o h = named (kept_of at r) e
    by_test false e o h = h
table_key at n k (Lost m ∷ ws) t = table_key at n k ws t.1
table_key at n k (Cleared ∷ ws) t = tt
table_key at n k (End ∷ ws) t = table_key at n k ws t.1

-- a line of mode COMMAND counts no losses, and its row fits
abbrev pub KeyLineFits : ℕ → What → Type 0
KeyLineFits n (Row r) = RowFits n (Row r)
KeyLineFits n (Lost k) = ⊥
KeyLineFits n Cleared = Unit {0}
KeyLineFits n End = Unit {0}

pub key_line : (n : ℕ) (what : What) → KeyLineFits n what → RowFits n what
key_line n (Row r) h = h
key_line n (Lost k) h = tt
key_line n Cleared h = tt
key_line n End h = tt

-- the row of a key's turn
word_fits : (at : KeyPlaces) (n : ℕ) (word : List ℕ) (row : List Value) → IsUtf8 word → RowFits n (Row row) → RowFits n (Row (with_word at word row))
word_fits at n word row t h = (length-set row at.command (value.Text word) ∙ h.0, set_textual row at.command (value.Text word) t h.1)

delete_fits : (at : KeyPlaces) (n : ℕ) (k : List ℕ) → IsUtf8 k → RowFits n (Row (delete_row at n k))
delete_fits at n k t =
    word_fits at n (codes "DELETE") (set (nulls n) at.key (value.Text k)) (plain_utf8 (codes "DELETE") refl)
    (length-set (nulls n) at.key (value.Text k) ∙ length-replicate n value.Null, set_textual (nulls n) at.key (value.Text k) t (nulls_textual n))

key_line_fits : (at : KeyPlaces) (n : ℕ) (k : List ℕ) (old new : Option (List Value)) → IfSome old (λ row. IsUtf8 k) → IfSome new (λ row. RowFits n (Row row))
    → IfSome (what_of_key at n k old new) (KeyLineFits n)
key_line_fits at n k None None h t = tt
key_line_fits at n k None (Some row) h t = word_fits at n (codes "ADD") row (plain_utf8 (codes "ADD") refl) t
key_line_fits at n k (Some old) None h t = delete_fits at n k h
key_line_fits at n k (Some old) (Some row) h t = by_test (row_eq old row)
  where
    by_test : (v : Bool) → IfSome (cond v None (Some (Row (with_word at (codes "UPDATE") row)))) (KeyLineFits n)
    by_test true = tt
    by_test false = word_fits at n (codes "UPDATE") row (plain_utf8 (codes "UPDATE") refl) t

-- what a cut of mode COMMAND tells
abbrev KeyFits : Taken → Type 0
KeyFits (taken.Row row upto) = ⊥
KeyFits (taken.Lost count upto) = ⊥
KeyFits (taken.Change cells upto) = ⊥
KeyFits (taken.Key key row upto) = IfSome row (Each IsTextualValue)
KeyFits (taken.Cleared upto) = Unit {0}
KeyFits taken.EndOfSnapshot = Unit {0}

command_fits : (h : List Entry) (s : Slot) → Textual h → IfSome (command_cut h s) KeyFits
command_fits h s t = by_clear (last_clear h s.cursor s.last)
  where
    clear : (c : ℕ) (v : Bool) → IfSome (cond v (Some taken.EndOfSnapshot) (Some (taken.Cleared c))) KeyFits
    clear c true = tt
    clear c false = tt

    by_key : (o : Option (List ℕ)) → IfSome (option_map (key_taken h s) o) KeyFits
    by_key None = tt
    by_key (Some key) = key_has TextualOf key (keyed s.plan.shape h s.last) (keyed_all_textual s.plan.shape [] (take s.last h) (take_textual s.last h t) tt)

    by_end : (v : Bool) → IfSome (cond v (Some taken.EndOfSnapshot) (option_map (key_taken h s) (slice_get (command_queue h s) 0))) KeyFits
    by_end true = tt
    by_end false = by_key (slice_get (command_queue h s) 0)

    by_clear : (o : Option ℕ) → IfSome (command_cut_by h s o) KeyFits
    by_clear (Some c) = clear c s.ends
    by_clear None = by_end (s.ends && (s.owed == 0))

accepted_fits : (w : Wanted) (s : Slot) (cs : List Came) (t : Taken) → Each (RowFits (length w.places)) (whats cs) → KeyFits t
    → IfSome (what_of_cut w s cs t) (KeyLineFits (length w.places))
accepted_fits w s cs (taken.Row row upto) h t = absurd t
accepted_fits w s cs (taken.Lost count upto) h t = absurd t
accepted_fits w s cs (taken.Change cells upto) h t = absurd t
accepted_fits w s cs (taken.Key key row upto) h t =
    key_line_fits (schema_of w s.plan) (length w.places) key (table_at (schema_of w s.plan) key (whats cs)) (projected_row w.places row)
    (table_key (schema_of w s.plan) (length w.places) key (whats cs) h) (by_row row t)
  where
    by_row : (o : Option (List Value)) → IfSome o (Each IsTextualValue) → IfSome (projected_row w.places o) (λ r. RowFits (length w.places) (Row r))
    by_row None t = tt
    by_row (Some r) t = row_fits w.places r t
accepted_fits w s cs (taken.Cleared upto) h t = tt
accepted_fits w s cs taken.EndOfSnapshot h t = tt

-- a cut of mode COMMAND
pub cut_fits : (h : List Entry) (w : Wanted) (s : Slot) (cs : List Came) (x : Taken) (what : What) → Textual h → s.plan.mode ≡ mode.Command
    → Each (RowFits (length w.places)) (whats cs) → cut h s ≡ Some x → what_of_cut w s cs x ≡ Some what → KeyLineFits (length w.places) what
cut_fits h w s cs x what t is came cuts tells =
    let all : IfSome (cut h s) KeyFits = subst (λ (m : Mode). IfSome (cut_of m h s) KeyFits) (sym is) (command_fits h s t) in
    let fits : KeyFits x = subst (λ (o : Option Taken). IfSome o KeyFits) cuts all in
    subst (λ (o : Option What). IfSome o (KeyLineFits (length w.places))) tells (accepted_fits w s cs x came fits)

-- a turn of mode COMMAND
within_fits : (n : ℕ) (h : List Entry) (w : Wanted) (s : Slot) (cs : List Came) → Textual h → s.plan.mode ≡ mode.Command
    → Each (RowFits (length w.places)) (whats cs)
    → IfSome (turn_within n h w s cs).came (λ c. KeyLineFits (length w.places) c.what)
within_fits zero h w s cs t is came = tt
within_fits (suc n) h w s cs t is came =
    by_cut (cut h s) (subst (λ (m : Mode). IfSome (cut_of m h s) KeyFits) (sym is) (command_fits h s t))
    (λ x. within_fits n h w (passed s x) cs t (ap (λ (p : Plan). p.mode) (passed_plan s x) ∙ is) came)
  where
    by_what : (x : Taken) (o : Option What) → IfSome o (KeyLineFits (length w.places))
        → IfSome (turn_within n h w (passed s x) cs).came (λ c. KeyLineFits (length w.places) c.what)
        → IfSome (turn_or s x o (turn_within n h w (passed s x) cs)).came (λ c. KeyLineFits (length w.places) c.what)
    by_what x None f more = more
    by_what x (Some what) f more = f

    by_cut : (o : Option Taken) → IfSome o KeyFits → ((x : Taken) → IfSome (turn_within n h w (passed s x) cs).came (λ c. KeyLineFits (length w.places) c.what))
        → IfSome (turn_by w s cs o (λ r. turn_within n h w r cs)).came (λ c. KeyLineFits (length w.places) c.what)
    by_cut None k more = tt
    by_cut (Some x) k more = by_what x (what_of_cut w s cs x) (accepted_fits w s cs x came k) (more x)

pub turn_fits : (h : List Entry) (w : Wanted) (s : Slot) (cs : List Came) → Textual h → s.plan.mode ≡ mode.Command → Each (RowFits (length w.places)) (whats cs)
    → IfSome (turn h w s cs).came (λ c. KeyLineFits (length w.places) c.what)
turn_fits h w s cs t is came = within_fits (s.last + s.owed + 2) h w s cs t is came

-- the row of a line of a lawful slot fits; in mode COMMAND its turn says so
pub slot_fits : (h : List Entry) (w : Wanted) (s : Slot) (c : Came) (cs : List Came) → Textual h → LawfulSlot h w s (c ∷ cs)
    → (s.plan.mode ≡ mode.Command → RowFits (length w.places) c.what) → RowFits (length w.places) c.what
slot_fits h w s c cs t l command = by_mode s.plan.mode refl l
  where
    by_mode : (m : Mode) → s.plan.mode ≡ m → LawfulOf m h w s (c ∷ cs) → RowFits (length w.places) c.what
    by_mode mode.Merge is l = merge_fits s.plan w h c t l.lines.1
    by_mode mode.Raw is l = raw_fits w.places (updates_between h c.before c.upto) c.what (updates_textual h c.before c.upto t) l.lines.1.says
    by_mode mode.Distinct is l = line_fits w.places s.plan h c t (distinct_each h w s (c ∷ cs) l).0
    by_mode mode.Command is l = command is
