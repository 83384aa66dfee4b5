-- The rows of a buffer have so many values.
use Rattle.std.proofs.Common.{◌≡◌, ℕ, List, [], ◌∷◌, length, arith, suc, zero, Bool, true, false, cond, Option, All}
use Rattle.std.proofs.lemmas.List.Elements.{All-nil, All-drop}
use Rattle.ls_value.specs.declared.row.Value.{Value}
use Rattle.ls_value.specs.Values.{text_eq}
use Rattle.ls_event.specs.declared.event.Event.{Event}
use Rattle.ls_event.specs.declared.event.Event.TheVariants.{Update, Clear}
use Rattle.ls_event.specs.declared.snapshot.KeyedRow.{KeyedRow}
use Rattle.ls_event.specs.History.{RowFits}
use Rattle.ls_command.specs.declared.kept.Queued.{Queued}
use Rattle.ls_command.specs.Command.{Command, AreKeysWide, with_queued, command_after, key_in, owed_key, with_owed}

abbrev Wide : ℕ → Queued → Type 0
Wide n q = RowFits n q.row

abbrev pub RowsWide : ℕ → List Queued → Type 0
RowsWide n qs = All (λ q. RowFits n q.row) qs

wide_cons : (n : ℕ) (q : Queued) (qs : List Queued) → RowFits n q.row → RowsWide n qs → RowsWide n (q ∷ qs)
wide_cons n q qs w all zero d within = w
wide_cons n q qs w all (suc k) d within = all k d (omega (arith, within))

wide_head : (n : ℕ) (q : Queued) (qs : List Queued) → RowsWide n (q ∷ qs) → RowFits n q.row
wide_head n q qs all = all 0 q (omega arith)

wide_queued : (n : ℕ) (new : Queued) (qs : List Queued) → RowFits n new.row → RowsWide n qs → RowsWide n (with_queued qs new)
wide_queued n new [] w all = wide_cons n new [] w all
wide_queued n new (q ∷ qs) w all = by_same (text_eq q.key new.key) (wide_queued n new qs w (All-drop (Wide n) 1 (q ∷ qs) all))
  where
    by_same : (v : Bool) → RowsWide n (with_queued qs new) → RowsWide n (cond v (new ∷ qs) (q ∷ with_queued qs new))
    by_same true rest = wide_cons n new qs w (All-drop (Wide n) 1 (q ∷ qs) all)
    by_same false rest = wide_cons n q (with_queued qs new) (wide_head n q qs all) rest

pub after_wide : (n : ℕ) (b : Command) (event : Event) (row : Option (List Value)) → AreKeysWide n b → RowFits n row → AreKeysWide n (command_after b event row)
after_wide n b (Update cells) row all w = wide_queued n (record { key = key_in b.key cells; row = row; touched = true }) b.queue w all
after_wide n b Clear row all w = All-nil (Wide n)

-- the keys of a snapshot that are owed
pub with_owed_wide : (n : ℕ) (qs : List Queued) (ks : List KeyedRow) → RowsWide n qs → All (λ k. length k.row ≡ n) ks → RowsWide n (with_owed qs ks)
with_owed_wide n qs [] all rows = all
with_owed_wide n qs (k ∷ ks) all rows =
    with_owed_wide n (with_queued qs (owed_key k)) ks (wide_queued n (owed_key k) qs (rows 0 k (omega arith)) all)
    (All-drop (λ (x : KeyedRow). length x.row ≡ n) 1 (k ∷ ks) rows)
