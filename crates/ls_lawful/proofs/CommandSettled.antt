-- Once a slot of mode COMMAND has no cut, the client's table is the item's.
use Rattle.std.proofs.Common.{◌≡◌, ◌==◌, ℕ, suc, zero, ◌+◌, ◌-◌, ◌≤◌, List, [], ◌∷◌, ◌++◌, map, drop, refl, sym, ◌∙◌}
use Rattle.std.proofs.Common.{ap, arith, Bool, true, false, ◌&&◌, ◌||◌, cond, subst, Option, Some, None, nat_lt}
use Rattle.std.proofs.Common.{option_map, slice_get, inl, inr}
use Rattle.std.proofs.lemmas.Bool.{lt-ltb}
use Rattle.ls_value.specs.declared.row.Value.{Value}
use Rattle.ls_value.specs.declared.row.Cell.{Cell}
use Rattle.ls_value.specs.Values.{text_eq}
use Rattle.ls_value.proofs.Rows.{text_eq_true}
use Rattle.ls_event.specs.declared.event.Event.{Event}
use Rattle.ls_event.specs.declared.event.Event.TheVariants.{Update, Clear}
use Rattle.ls_event.specs.declared.event.Entry.{Entry}
use Rattle.ls_event.specs.declared.event.Mode.{Mode}
use Rattle.ls_event.specs.Cuts.{cut_of, cut}
use Rattle.ls_event.specs.History.{between}
use Rattle.ls_event.specs.declared.snapshot.KeyedRow.{KeyedRow}
use Rattle.ls_event.specs.Shapes.{Shape}
use Rattle.ls_event.specs.Slots.{Slot, KeyCursor}
use Rattle.ls_event.specs.Updates.{last_of, clear_of, clear_from, last_clear}
use Rattle.ls_event.specs.Keyed.{is_before, key_of, deletes, row_at, with_row, without, row_with, keyed_after}
use Rattle.ls_event.specs.Keyed.{keyed_after_all, keyed}
use Rattle.ls_event.specs.CommandCuts.{has_key, key_cursor, queue_after, queue_from, command_queue, key_taken}
use Rattle.ls_event.specs.CommandCuts.{command_cut_by, command_cut}
use Rattle.ls_event.proofs.UpdatesBetween.{no_clear, no_clear_behind}
use Rattle.ls_record.specs.Came.{Came, whats}
use Rattle.ls_record.specs.Tables.{table_at, projected_row}
use Rattle.ls_record.specs.Cutting.{Wanted, schema_of}
use Rattle.ls_lawful.specs.CommandMode.{cursor_of_key, AgreesAt, NoTurn, LawfulCommand, keys_named, touched_in}
use Rattle.ls_lawful.specs.CommandMode.{IsToKnow}
use Rattle.ls_lawful.specs.Lawful.{LawfulOf, LawfulSlot}
use Rattle.ls_lawful.proofs.Updates.{between-back}
use Rattle.ls_record.proofs.Queues.{quiet_queue, queue_is}
use Rattle.ls_lawful.proofs.CommandLaws.{keyed-between, queue_begins}
use Rattle.ls_event.specs.declared.event.Mode.TheVariants as mode
use Rattle.ls_event.specs.declared.event.Taken.TheVariants as taken

-- another key's row stays
with_other : (k j : List ℕ) (r : List Value) (ks : List KeyedRow) → text_eq k j ≡ false → row_at j (with_row k r ks) ≡ row_at j ks
with_other k j r [] other = ap (λ (b : Bool). cond b (Some r) None) other
with_other k j r (x ∷ ks) other = by_test (text_eq x.key k) refl (is_before k x.key) (with_other k j r ks other)
  where
    by_test : (a : Bool) → text_eq x.key k ≡ a → (b : Bool) → row_at j (with_row k r ks) ≡ row_at j ks
        → row_at j (cond a (record { key = k; row = r } ∷ ks) (cond b (record { key = k; row = r } ∷ x ∷ ks) (x ∷ with_row k r ks))) ≡ row_at j (x ∷ ks)
    by_test true same b more =
        ap (λ (b : Bool). cond b (Some r) (row_at j ks)) other
        ∙ sym (ap (λ (b : Bool). cond b (Some x.row) (row_at j ks)) (ap (λ y. text_eq y j) (text_eq_true x.key k same) ∙ other))
    by_test false same true more = ap (λ (b : Bool). cond b (Some r) (row_at j (x ∷ ks))) other
    by_test false same false more = ap (λ o. cond (text_eq x.key j) (Some x.row) o) more

without_other : (k j : List ℕ) (ks : List KeyedRow) → text_eq k j ≡ false → row_at j (without k ks) ≡ row_at j ks
without_other k j [] other = refl
without_other k j (x ∷ ks) other = by_test (text_eq x.key k) refl (without_other k j ks other)
  where
    by_test : (a : Bool) → text_eq x.key k ≡ a → row_at j (without k ks) ≡ row_at j ks → row_at j (cond a ks (x ∷ without k ks)) ≡ row_at j (x ∷ ks)
    by_test true same more = sym (ap (λ (b : Bool). cond b (Some x.row) (row_at j ks)) (ap (λ y. text_eq y j) (text_eq_true x.key k same) ∙ other))
    by_test false same more = ap (λ o. cond (text_eq x.key j) (Some x.row) o) more

update_other : (p : Shape) (j : List ℕ) (ks : List KeyedRow) (cells : List Cell) → text_eq (key_of p cells) j ≡ false
    → row_at j (keyed_after p ks (Update cells)) ≡ row_at j ks
update_other p j ks cells other = by_test (deletes p cells)
  where
    by_test : (b : Bool) → row_at j (cond b (without (key_of p cells) ks) (with_row (key_of p cells) (row_with p (row_at (key_of p cells) ks) cells) ks))
        ≡ row_at j ks
    by_test true = without_other (key_of p cells) j ks other
    by_test false = with_other (key_of p cells) j (row_with p (row_at (key_of p cells) ks) cells) ks other

-- entries that leave an empty queue and have no Clear: each names a key whose cursor is behind it
record Quiet (s : Slot) (n : ℕ) (e : Entry) (es : List Entry) : Type 0 where
  queue : queue_from s [] (n + 1) es ≡ []
  clear : clear_from None (n + 1) es ≡ None
  others : (j : List ℕ) → key_cursor s.key_cursors s.cursor j ≤ n → has_key (keys_named s.plan e.event) j ≡ false
  same : (j : List ℕ) → key_cursor s.key_cursors s.cursor j ≤ n → (ks : List KeyedRow) → row_at j (keyed_after s.plan.shape ks e.event) ≡ row_at j ks

quiet : (s : Slot) (n : ℕ) (e : Entry) (es : List Entry) → queue_from s [] n (e ∷ es) ≡ [] → clear_from None n (e ∷ es) ≡ None → Quiet s n e es
quiet s n e es none clear = by_event e.event refl none clear
  where
    by_event : (event : Event) → e.event ≡ event → queue_from s (queue_after s [] (n + 1) event) (n + 1) es ≡ []
        → clear_from (clear_of None (n + 1) event) (n + 1) es ≡ None → Quiet s n e es
    by_event Clear is q c = absurd (let x : Some (n + 1) ≡ None = (no_clear (Some (n + 1)) (n + 1) (n + 1) es c).0 in cc)
    by_event (Update cells) is q c = by_test (nat_lt (key_cursor s.key_cursors s.cursor (key_of s.plan.shape cells)) (n + 1)) refl q
      where
        other_key : nat_lt (key_cursor s.key_cursors s.cursor (key_of s.plan.shape cells)) (n + 1) ≡ false → (j : List ℕ)
            → key_cursor s.key_cursors s.cursor j ≤ n → text_eq (key_of s.plan.shape cells) j ≡ false
        other_key t j low = by_key (text_eq (key_of s.plan.shape cells) j) refl
          where
            by_key : (v : Bool) → text_eq (key_of s.plan.shape cells) j ≡ v → v ≡ false
            by_key false e = refl
            by_key true e =
                let f : key_of s.plan.shape cells ≡ j = text_eq_true (key_of s.plan.shape cells) j e in
                let g : nat_lt (key_cursor s.key_cursors s.cursor (key_of s.plan.shape cells)) (n + 1) ≡ true =
                ap (λ x. nat_lt (key_cursor s.key_cursors s.cursor x) (n + 1)) f
                ∙ lt-ltb (key_cursor s.key_cursors s.cursor j) (n + 1) (omega (arith, low)) in
                sym g ∙ t

        by_test : (v : Bool) → nat_lt (key_cursor s.key_cursors s.cursor (key_of s.plan.shape cells)) (n + 1) ≡ v
            → queue_from s (cond (v && true) (key_of s.plan.shape cells ∷ []) []) (n + 1) es ≡ [] → Quiet s n e es
        by_test true t q =
            absurd (let b = queue_begins s (key_of s.plan.shape cells) [] (n + 1) es in let x : key_of s.plan.shape cells ∷ b.0 ≡ [] = sym b.1 ∙ q in cc)
        by_test false t q =
            record {
              queue = q;
              clear = c;
              others = λ j low. ap (λ v. has_key (keys_named s.plan v) j) is ∙ ap (λ (b : Bool). b || false) (other_key t j low);
              same = λ j low ks. ap (λ v. row_at j (keyed_after s.plan.shape ks v)) is ∙ update_other s.plan.shape j ks cells (other_key t j low);
            }

-- so the rows of such keys stay
rows_stay : (s : Slot) (j : List ℕ) (n : ℕ) (es : List Entry) (ks : List KeyedRow) → key_cursor s.key_cursors s.cursor j ≤ n → queue_from s [] n es ≡ []
    → clear_from None n es ≡ None → row_at j (keyed_after_all s.plan.shape ks es) ≡ row_at j ks
rows_stay s j n [] ks low none clear = refl
rows_stay s j n (e ∷ es) ks low none clear =
    let q : Quiet s n e es = quiet s n e es none clear in
    rows_stay s j (n + 1) es (keyed_after s.plan.shape ks e.event) (omega (arith, low)) q.queue q.clear ∙ q.same j low ks

-- and they are not named
named_other : (xs ys : List (List ℕ)) (j : List ℕ) → has_key xs j ≡ false → has_key ys j ≡ false → has_key (xs ++ ys) j ≡ false
named_other [] ys j e f = f
named_other (x ∷ xs) ys j e f = by_test (text_eq x j) e (λ r. named_other xs ys j r f)
  where
    by_test : (v : Bool) → (v || has_key xs j) ≡ false → (has_key xs j ≡ false → has_key (xs ++ ys) j ≡ false) → (v || has_key (xs ++ ys) j) ≡ false
    by_test true e more = e
    by_test false e more = more e

not_named : (s : Slot) (j : List ℕ) (n : ℕ) (es : List Entry) → key_cursor s.key_cursors s.cursor j ≤ n → queue_from s [] n es ≡ []
    → clear_from None n es ≡ None → has_key (touched_in s.plan es) j ≡ false
not_named s j n [] low none clear = refl
not_named s j n (e ∷ es) low none clear =
    let q : Quiet s n e es = quiet s n e es none clear in
    named_other (keys_named s.plan e.event) (touched_in s.plan es) j (q.others j low) (not_named s j (n + 1) es (omega (arith, low)) q.queue q.clear)

-- the entries behind a later number are such, too
rest_quiet : (s : Slot) (n i : ℕ) (es : List Entry) → queue_from s [] n es ≡ [] → clear_from None n es ≡ None → queue_from s [] (n + i) (drop i es) ≡ []
rest_quiet s n zero es none clear = ap (λ m. queue_from s [] m es) {x = n + zero} {y = n} (omega arith) ∙ none
rest_quiet s n (suc i) [] none clear = refl
rest_quiet s n (suc i) (e ∷ es) none clear =
    let q : Quiet s n e es = quiet s n e es none clear in
    ap (λ m. queue_from s [] m (drop i es)) {x = n + suc i} {y = n + 1 + i} (omega arith) ∙ rest_quiet s (n + 1) i es q.queue q.clear

-- a key's cursor
place_noted : (ns : List KeyCursor) (cursor q : ℕ) (k : List ℕ) → cursor_of_key k ns ≡ Some q → key_cursor ns cursor k ≡ q
place_noted [] cursor q k is = absurd (let x : None ≡ Some q = is in cc)
place_noted (n ∷ ns) cursor q k is = by_test (text_eq n.key k) is (λ e. place_noted ns cursor q k e)
  where
    by_test : (b : Bool) → cond b (Some n.cursor) (cursor_of_key k ns) ≡ Some q → (cursor_of_key k ns ≡ Some q → key_cursor ns cursor k ≡ q)
        → cond b n.cursor (key_cursor ns cursor k) ≡ q
    by_test true e more = cc
    by_test false e more = more e

place_unnoted : (ns : List KeyCursor) (cursor : ℕ) (k : List ℕ) → cursor_of_key k ns ≡ None → key_cursor ns cursor k ≡ cursor
place_unnoted [] cursor k is = refl
place_unnoted (n ∷ ns) cursor k is = by_test (text_eq n.key k) is (λ e. place_unnoted ns cursor k e)
  where
    by_test : (b : Bool) → cond b (Some n.cursor) (cursor_of_key k ns) ≡ None → (cursor_of_key k ns ≡ None → key_cursor ns cursor k ≡ cursor)
        → cond b n.cursor (key_cursor ns cursor k) ≡ cursor
    by_test true e more = absurd (let x : Some n.cursor ≡ None = e in cc)
    by_test false e more = more e

-- a slot without a cut
record IsSettled (h : List Entry) (s : Slot) : Type 0 where
  clear : last_clear h s.cursor s.last ≡ None
  owed : last_of s.owed (map (λ (x : KeyedRow). x.key) (keyed s.plan.shape h s.plan.base)) ≡ []
  queue : queue_from s [] s.cursor (between h s.cursor s.last) ≡ []

no_head : (queue : List (List ℕ)) (h : List Entry) (s : Slot) → option_map (key_taken h s) (slice_get queue 0) ≡ None → queue ≡ []
no_head [] h s none = refl
no_head (k ∷ queue) h s none = absurd (let x : Some (key_taken h s k) ≡ None = none in cc)

from_empty : (s : Slot) (queue : List (List ℕ)) (n : ℕ) (es : List Entry) → queue_from s queue n es ≡ [] → queue ≡ []
from_empty s [] n es none = refl
from_empty s (x ∷ queue) n es none = absurd (let b = queue_begins s x queue n es in let y : x ∷ b.0 ≡ [] = sym b.1 ∙ none in cc)

is_settled : (h : List Entry) (s : Slot) → command_cut h s ≡ None → IsSettled h s
is_settled h s none = by_clear (last_clear h s.cursor s.last) refl none
  where
    by_queue : last_clear h s.cursor s.last ≡ None → command_queue h s ≡ [] → IsSettled h s
    by_queue clear empty =
        let e : command_queue h s ≡ quiet_queue h s = queue_is h s clear in
        let f : last_of s.owed (map (λ (x : KeyedRow). x.key) (keyed s.plan.shape h s.plan.base)) ≡ []
        = from_empty s (last_of s.owed (map (λ (x : KeyedRow). x.key) (keyed s.plan.shape h s.plan.base))) s.cursor (between h s.cursor s.last)
        (sym e ∙ empty) in
        record { clear = clear; owed = f; queue = ap (λ q. queue_from s q s.cursor (between h s.cursor s.last)) (sym f) ∙ sym e ∙ empty }

    by_end : (b : Bool) → last_clear h s.cursor s.last ≡ None → cond b (Some taken.EndOfSnapshot) (option_map (key_taken h s) (slice_get (command_queue h s) 0))
        ≡ None → IsSettled h s
    by_end true clear e = absurd (let x : Some taken.EndOfSnapshot ≡ None = e in cc)
    by_end false clear e = by_queue clear (no_head (command_queue h s) h s e)

    by_clear_cut : (c : ℕ) (b : Bool) → cond b (Some taken.EndOfSnapshot) (Some (taken.Cleared c)) ≡ None → IsSettled h s
    by_clear_cut c true e = absurd (let x : Some taken.EndOfSnapshot ≡ None = e in cc)
    by_clear_cut c false e = absurd (let x : Some (taken.Cleared c) ≡ None = e in cc)

    by_clear : (o : Option ℕ) → last_clear h s.cursor s.last ≡ o → command_cut_by h s o ≡ None → IsSettled h s
    by_clear (Some c) clear e = by_clear_cut c s.ends e
    by_clear None clear e = by_end (s.ends && (s.owed == 0)) clear e

-- the client's row of a key is the item's
settled_at : (h : List Entry) (w : Wanted) (s : Slot) (cs : List Came) (k : List ℕ) (o : Option ℕ) → cursor_of_key k s.key_cursors ≡ o → LawfulCommand h w s cs
    → AgreesAt h w s cs k o → IsSettled h s → IsToKnow h w s k
    → table_at (schema_of w s.plan) k (whats cs) ≡ projected_row w.places (row_at k (keyed s.plan.shape h s.last))
settled_at h w s cs k (Some q) at l a t know =
    let e : q ≡ s.cursor + (q - s.cursor) = omega (arith, a.0) in
    let b : between h q s.last ≡ drop (q - s.cursor) (between h s.cursor s.last) =
    ap (λ x. between h x s.last) e ∙ between-back h s.cursor (q - s.cursor) s.last in
    let f : queue_from s [] q (between h q s.last) ≡ []
    = ap (queue_from s [] q) b ∙ ap (λ x. queue_from s [] x (drop (q - s.cursor) (between h s.cursor s.last))) e
    ∙ rest_quiet s s.cursor (q - s.cursor) (between h s.cursor s.last) t.queue t.clear in
    let g : clear_from None q (between h q s.last) ≡ None = ap (clear_from None q) b
    ∙ no_clear_behind None s.cursor q (q - s.cursor) (between h s.cursor s.last) t.clear in
    a.2 ∙ ap (projected_row w.places)
    (sym (ap (row_at k) (keyed-between s.plan.shape h q s.last a.1) ∙ rows_stay s k q (between h q s.last) (keyed s.plan.shape h q)
    (omega (arith, place_noted s.key_cursors s.cursor q k at)) f g))
settled_at h w s cs k None at l a t know =
    let low : key_cursor s.key_cursors s.cursor k ≤ s.cursor = omega (arith, place_unnoted s.key_cursors s.cursor k at) in
    let j : row_at k (keyed s.plan.shape h s.last) ≡ row_at k (keyed s.plan.shape h s.cursor)
    = ap (row_at k) (keyed-between s.plan.shape h s.cursor s.last l.behind) ∙ rows_stay s k s.cursor (between h s.cursor s.last) (keyed s.plan.shape h s.cursor)
    low t.queue t.clear in
    a ∙ ap (projected_row w.places) (sym (j ∙ by_turn (l.first k at)))
  where
    by_known : (s.cursor ≡ s.plan.base) → (w.snapshot ≡ None) → IsToKnow h w s k → ⊥
    by_known base none (inl some) = some none
    by_known base none (inr named) =
        let low : key_cursor s.key_cursors s.cursor k ≤ s.cursor = omega (arith, place_unnoted s.key_cursors s.cursor k at) in
        let x : false ≡ true = sym (not_named s k s.cursor (between h s.cursor s.last) low t.queue t.clear)
        ∙ ap (λ n. has_key (touched_in s.plan (between h n s.last)) k) base ∙ named in
        cc

    by_turn : NoTurn h w s k → row_at k (keyed s.plan.shape h s.cursor) ≡ None
    by_turn (inl x) = absurd (by_known x.0 x.1 know)
    by_turn (inr (inl x)) = absurd (let y : false ≡ true = sym (ap (λ ks. has_key ks k) t.owed) ∙ x in cc)
    by_turn (inr (inr (inl x))) = x
    by_turn (inr (inr (inr x))) = absurd (let y : None ≡ Some x.0 = sym t.clear ∙ x.1 in cc)

command_settled : (h : List Entry) (w : Wanted) (s : Slot) (cs : List Came) → LawfulCommand h w s cs → command_cut h s ≡ None → (k : List ℕ) → IsToKnow h w s k
    → table_at (schema_of w s.plan) k (whats cs) ≡ projected_row w.places (row_at k (keyed s.plan.shape h s.last))
command_settled h w s cs l none k know = settled_at h w s cs k (cursor_of_key k s.key_cursors) refl l (l.agrees k) (is_settled h s none) know

pub slot_settled : (h : List Entry) (w : Wanted) (s : Slot) (cs : List Came) → LawfulSlot h w s cs → s.plan.mode ≡ mode.Command → cut h s ≡ None → (k : List ℕ)
    → IsToKnow h w s k
    → table_at (schema_of w s.plan) k (whats cs) ≡ projected_row w.places (row_at k (keyed s.plan.shape h s.last))
slot_settled h w s cs l is none k know = command_settled h w s cs (subst (λ (m : Mode). LawfulOf m h w s cs) is l)
    (sym (ap (λ (m : Mode). cut_of m h s) is) ∙ none) k know
