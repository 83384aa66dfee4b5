-- States as the history grows.
use Rattle.std.proofs.Common.{◌≡◌, ℕ, ◌+◌, ◌≤◌, List, [], ◌∷◌, ◌++◌, length, take, drop, map, refl, sym, ◌∙◌, ap, arith}
use Rattle.std.proofs.Common.{Option, None, Some, unwrap_or}
use Rattle.std.proofs.lemmas.List.{take-append-le, map-append, drop_all, length-append, length-take-le}
use Rattle.ls_value.specs.declared.row.Value.{Value}
use Rattle.ls_event.specs.declared.event.Event.{Event}
use Rattle.ls_event.specs.declared.event.Event.TheVariants.{Update, Clear}
use Rattle.ls_event.specs.declared.event.Entry.{Entry}
use Rattle.ls_event.specs.declared.item.Kind.{Kind}
use Rattle.ls_event.specs.declared.item.Kind.TheVariants as kind
use Rattle.ls_event.specs.declared.snapshot.KeyedRow.{KeyedRow}
use Rattle.ls_event.specs.declared.snapshot.Snapshot.TheVariants as state
use Rattle.ls_event.specs.declared.updates.OwnRow.{OwnRow}
use Rattle.ls_event.specs.declared.limits.TheConstants.{MOST_SNAPSHOT_ROWS}
use Rattle.ls_event.specs.Shapes.{Shape}
use Rattle.ls_event.specs.History.{row_after}
use Rattle.ls_event.specs.Keyed.{keyed_after, keyed_after_all, keyed}
use Rattle.ls_event.specs.Updates.{last_of, last_clear, clear_of, clear_from, clear_or, own_of, own_row, own_from}
use Rattle.ls_event.specs.Updates.{updates_between, recent_rows}
use Rattle.ls_event.specs.States.{state_in, state_at, state_after, rows_after}
use Rattle.ls_event.proofs.Histories.{next_at_end}
use Rattle.ls_event.proofs.Merged.{merged-next, merged-append}
use Rattle.ls_event.proofs.UpdatesBetween.{updates_between-next, last_clear-next, last_clear_is, last_of-next}

keyed_after_all-append : (p : Shape) (ks : List KeyedRow) (xs ys : List Entry)
    → keyed_after_all p ks (xs ++ ys) ≡ keyed_after_all p (keyed_after_all p ks xs) ys
keyed_after_all-append p ks [] ys = refl
keyed_after_all-append p ks (x ∷ xs) ys = keyed_after_all-append p (keyed_after p ks x.event) xs ys

-- one entry more

pub keyed-next : (p : Shape) (h : List Entry) (i : ℕ) (e : Entry) → take (i + 1) h ≡ take i h ++ e ∷ []
    → keyed p h (i + 1) ≡ keyed_after p (keyed p h i) e.event
keyed-next p h i e next = rw next (keyed_after_all-append p [] (take i h) (e ∷ []))

clear_within : (h : List Entry) (i : ℕ) → i ≤ length h → clear_or h 0 i ≤ i
clear_within h i within = by_clear (last_clear h 0 i) refl
  where
    by_clear : (o : Option ℕ) → last_clear h 0 i ≡ o → unwrap_or o 0 ≤ i
    by_clear None is = omega arith
    by_clear (Some c) is = (last_clear_is h 0 i c (omega arith) within is).reached

pub recent_rows-next : (h : List Entry) (i : ℕ) (e : Entry) → i ≤ length h → take (i + 1) h ≡ take i h ++ e ∷ []
    → recent_rows h (i + 1) ≡ rows_after (recent_rows h i) e.event
recent_rows-next h i e within next = by_event e.event refl
  where
    row_of : OwnRow → List Value
    row_of u = u.row

    updates : ℕ → ℕ → List (List Value)
    updates p l = map row_of (updates_between h p l)

    clear : last_clear h 0 (i + 1) ≡ clear_of (last_clear h 0 i) (i + 1) e.event
    clear = last_clear-next h 0 i e (omega arith) within next

    by_event : (event : Event) → e.event ≡ event → recent_rows h (i + 1) ≡ rows_after (recent_rows h i) event
    by_event Clear is =
        let from : clear_or h 0 (i + 1) ≡ i + 1 = ap (λ o. unwrap_or o 0)
        (clear ∙ ap (clear_of (last_clear h 0 i) (i + 1)) is) in
        let long : length (take (i + 1) h) ≡ i + 1 = ap (λ (xs : List Entry). length xs) next
        ∙ length-append (take i h) (e ∷ []) ∙ ap (λ n. n + 1) (length-take-le i h within) in
        let none : updates_between h (i + 1) (i + 1) ≡ [] = ap (own_from (i + 1))
        (drop_all (i + 1) (take (i + 1) h) (omega (arith, long))) in
        ap (λ p. last_of MOST_SNAPSHOT_ROWS (updates p (i + 1))) from
        ∙ ap (λ us. last_of MOST_SNAPSHOT_ROWS (map row_of us)) none
    by_event (Update cells) is =
        let since : ℕ = clear_or h 0 i in
        let from : clear_or h 0 (i + 1) ≡ since = ap (λ o. unwrap_or o 0)
        (clear ∙ ap (clear_of (last_clear h 0 i) (i + 1)) is) in
        let more : updates_between h since (i + 1) ≡ updates_between h since i ++ own_of (i + 1) e.event =
        updates_between-next h since i e (clear_within h i within) within next in
        ap (λ p. last_of MOST_SNAPSHOT_ROWS (updates p (i + 1))) from
        ∙ ap (λ us. last_of MOST_SNAPSHOT_ROWS (map row_of us))
        (more ∙ ap (λ v. updates_between h since i ++ own_of (i + 1) v) is)
        ∙ ap (last_of MOST_SNAPSHOT_ROWS) (map-append row_of (updates_between h since i)
        (own_of (i + 1) (Update cells)))
        ∙ sym (last_of-next MOST_SNAPSHOT_ROWS (updates since i) (own_row cells))

-- later entries leave the state

pub recent_rows-append : (h more : List Entry) (i : ℕ) → i ≤ length h → recent_rows (h ++ more) i ≡ recent_rows h i
recent_rows-append h more i within =
    ap (λ (xs : List Entry). last_of MOST_SNAPSHOT_ROWS (map (λ (u : OwnRow). u.row)
    (own_from (unwrap_or (clear_from None 0 (drop 0 xs)) 0)
    (drop (unwrap_or (clear_from None 0 (drop 0 xs)) 0) xs)))) (take-append-le i h more within)

pub keyed-append : (p : Shape) (h more : List Entry) (i : ℕ) → i ≤ length h → keyed p (h ++ more) i ≡ keyed p h i
keyed-append p h more i within = ap (keyed_after_all p []) (take-append-le i h more within)

-- a state with one more event is that of the history with the event at its end
pub state_grown : (p : Shape) (h : List Entry) (e : Entry) → state_after p (state_at p h (length h)) e.event
    ≡ state_at p (h ++ e ∷ []) (length h + 1)
state_grown p h e = by_kind p.kind
  where
    n : ℕ
    n = length h

    longer : List Entry
    longer = h ++ e ∷ []

    next : take (n + 1) longer ≡ take n longer ++ e ∷ []
    next = next_at_end h e

    by_kind : (k : Kind) → state_after p (state_in k p h n) e.event ≡ state_in k p longer (n + 1)
    by_kind kind.Merge =
        ap state.Merge (sym (merged-next p.fields longer n e next
        ∙ ap (λ row. row_after row e.event) (merged-append p.fields h (e ∷ []) n (omega arith))))
    by_kind kind.Distinct =
        ap state.Distinct (sym (recent_rows-next longer n e (omega (arith, length-append h (e ∷ []))) next
        ∙ ap (λ rows. rows_after rows e.event) (recent_rows-append h (e ∷ []) n (omega arith))))
    by_kind kind.Command =
        ap state.Command
        (sym (keyed-next p longer n e next ∙ ap (λ ks. keyed_after p ks e.event)
        (keyed-append p h (e ∷ []) n (omega arith))))
