-- The rows of an item's keys name their keys: no update without a key is admitted.
use Rattle.std.proofs.Common.{◌≡◌, ℕ, zero, suc, ◌<◌, List, [], ◌∷◌, ◌++◌, length, take, refl, ◌∙◌, ap, arith, Bool}
use Rattle.std.proofs.Common.{true, false, cond, subst, Option, Some, None, IfSome, unwrap_or}
use Rattle.std.specs.Option.{option_or}
use Rattle.std.proofs.lemmas.List.{length-replicate, length-set, get_or-set_other}
use Rattle.ls_value.specs.declared.row.Value.{Value}
use Rattle.ls_value.specs.declared.row.Cell.{Cell}
use Rattle.ls_value.specs.Values.{applied, kept_or_taken, nulls, value_at, cell_at}
use Rattle.ls_value.proofs.Rows.{applied_length}
use Rattle.ls_event.specs.declared.event.Event.{Event}
use Rattle.ls_event.specs.declared.event.Event.TheVariants.{Update, Clear}
use Rattle.ls_event.specs.declared.event.Entry.{Entry}
use Rattle.ls_event.specs.declared.event.PushRefused.{PushRefused}
use Rattle.ls_event.specs.declared.item.Kind.{Kind}
use Rattle.ls_event.specs.declared.snapshot.KeyedRow.{KeyedRow}
use Rattle.ls_event.specs.Shapes.{Shape}
use Rattle.ls_event.specs.Orders.{order_with}
use Rattle.ls_event.specs.States.{state_in, order_cause, push_refusal}
use Rattle.ls_event.specs.Publishes.{EachFollows, IsHistory}
use Rattle.ls_event.specs.Keyed.{text_of_cell, key_of, deletes, row_at, with_row, without, row_with, keyed_after}
use Rattle.ls_event.specs.Keyed.{keyed_after_all, keyed}
use Rattle.ls_value.specs.Each.{Each}
use Rattle.ls_record.proofs.EachKey.{EachKey, key_has, each_with, each_without}
use Rattle.ls_lawful.proofs.Keys.{applied_at}
use Rattle.ls_value.specs.declared.row.Value.TheVariants as value
use Rattle.ls_value.specs.declared.row.Cell.TheVariants as cell
use Rattle.ls_event.specs.declared.item.Kind.TheVariants as kind
use Rattle.ls_event.specs.declared.snapshot.Snapshot.TheVariants as state

-- an event that is an update names a key
abbrev NamesKey : Shape → Event → Type 0
NamesKey p (Update cells) = cell_at cells p.key ≡ cell.Text (key_of p cells)
NamesKey p Clear = Unit {0}

order_names : (key command : Cell) → order_cause (order_with key command) ≡ None → key ≡ cell.Text (text_of_cell key)
order_names cell.Same command h = cc
order_names cell.Null command h = cc
order_names (cell.Text t) command h = refl

first_none : (o rest : Option PushRefused) → option_or o rest ≡ None → o ≡ None
first_none None rest h = refl
first_none (Some cause) rest h = cc

admitted_names : (p : Shape) (ks : List KeyedRow) (event : Event) → push_refusal p (state.Command ks) event ≡ None → NamesKey p event
admitted_names p ks (Update cells) h = order_names (cell_at cells p.key) (cell_at cells p.command) (first_none _ _ h)
admitted_names p ks Clear h = tt

follows_names : (p : Shape) (before es : List Entry) → p.kind ≡ kind.Command → EachFollows p before es → Each (λ (e : Entry). NamesKey p e.event) es
follows_names p before [] command f = tt
follows_names p before (e ∷ es) command f = (
  admitted_names p (keyed p before (length before)) e.event (subst (λ (k : Kind). push_refusal p (state_in k p before (length before)) e.event ≡ None) command
      f.0.admitted),
  follows_names p (before ++ e ∷ []) es command f.1,
)

names_taken : (p : Shape) (n : ℕ) (h : List Entry) → Each (λ (e : Entry). NamesKey p e.event) h → Each (λ (e : Entry). NamesKey p e.event) (take n h)
names_taken p zero h n = tt
names_taken p (suc k) [] n = tt
names_taken p (suc k) (e ∷ h) n = (n.0, names_taken p k h n.1)

-- a row of all fields that names a key
pub record IsNamed (p : Shape) (k : List ℕ) (r : List Value) : Type 0 where
  pub long : length r ≡ p.fields
  pub key : value_at r p.key ≡ value.Text k

abbrev Named : Shape → List KeyedRow → Type 0
Named p ks = EachKey (IsNamed p) ks

-- an update makes such a row
base_long : (p : Shape) (k : List ℕ) (o : Option (List Value)) → IfSome o (IsNamed p k) → length (unwrap_or o (nulls p.fields)) ≡ p.fields
base_long p k None i = length-replicate p.fields value.Null
base_long p k (Some r) i = i.long

named_made : (p : Shape) (cells : List Cell) (o : Option (List Value)) → p.key < p.fields → (p.key ≡ p.command → ⊥)
    → cell_at cells p.key ≡ cell.Text (key_of p cells) → IfSome o (IsNamed p (key_of p cells))
    → IsNamed p (key_of p cells) (row_with p o cells)
named_made p cells o within apart names i =
    let long : length (unwrap_or o (nulls p.fields)) ≡ p.fields = base_long p (key_of p cells) o i in
    record {
      long = length-set (applied (unwrap_or o (nulls p.fields)) cells) p.command value.Null ∙ applied_length (unwrap_or o (nulls p.fields)) cells ∙ long;
      key = get_or-set_other (applied (unwrap_or o (nulls p.fields)) cells) p.command p.key value.Null value.Null apart
          ∙ applied_at (unwrap_or o (nulls p.fields)) cells p.key (omega (arith, within, long))
          ∙ ap (kept_or_taken (value_at (unwrap_or o (nulls p.fields)) p.key)) names;
    }

named_after : (p : Shape) (ks : List KeyedRow) (event : Event) → p.key < p.fields → (p.key ≡ p.command → ⊥) → NamesKey p event → Named p ks
    → Named p (keyed_after p ks event)
named_after p ks (Update cells) within apart names e = by_test (deletes p cells)
  where
    by_test : (b : Bool) → Named p (cond b (without (key_of p cells) ks) (with_row (key_of p cells) (row_with p (row_at (key_of p cells) ks) cells) ks))
    by_test true = each_without (IsNamed p) (key_of p cells) ks e
    by_test false =
        each_with (IsNamed p) (key_of p cells) (row_with p (row_at (key_of p cells) ks) cells) ks
        (named_made p cells (row_at (key_of p cells) ks) within apart names (key_has (IsNamed p) (key_of p cells) ks e)) e
named_after p ks Clear within apart names e = tt

named_after_all : (p : Shape) (ks : List KeyedRow) (es : List Entry) → p.key < p.fields → (p.key ≡ p.command → ⊥) → Each (λ (e : Entry). NamesKey p e.event) es
    → Named p ks → Named p (keyed_after_all p ks es)
named_after_all p ks [] within apart names e = e
named_after_all p ks (x ∷ es) within apart names e = named_after_all p (keyed_after p ks x.event) es within apart names.1
    (named_after p ks x.event within apart names.0 e)

-- the row of a key in the item's state
pub key_named : (p : Shape) (h : List Entry) (n : ℕ) (k : List ℕ) → p.kind ≡ kind.Command → p.key < p.fields → (p.key ≡ p.command → ⊥) → IsHistory p h
    → IfSome (row_at k (keyed p h n)) (IsNamed p k)
key_named p h n k command within apart is =
    key_has (IsNamed p) k (keyed p h n) (named_after_all p [] (take n h) within apart (names_taken p n h (follows_names p [] h command is.each)) tt)
