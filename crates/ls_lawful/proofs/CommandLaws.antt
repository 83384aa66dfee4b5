-- What is true of a slot of mode COMMAND stays true.
use Rattle.std.proofs.Common.{◌≡◌, ◌==◌, ◌⊎◌, ℕ, suc, ◌+◌, ◌-◌, ◌<◌, ◌≤◌, List, [], ◌∷◌, ◌++◌, length, map, take}
use Rattle.std.proofs.Common.{drop, get_or, refl, sym, ◌∙◌, ap, arith, Bool, true, false, not, ◌&&◌, ◌||◌, cond}
use Rattle.std.proofs.Common.{subst, Option, Some, None, is_some, nat_lt, nat_le, option_map, slice_get, unwrap_or}
use Rattle.std.proofs.Common.{codes, inl, inr}
use Rattle.std.proofs.lemmas.List.{length-append, length-map, length-take, length-take-le, take_more, take-take}
use Rattle.std.proofs.lemmas.List.{take-append-drop, drop_all}
use Rattle.std.proofs.lemmas.Bool.{eqb-true, leb-true, leb-false}
use Rattle.ls_value.specs.declared.row.Value.{Value}
use Rattle.ls_value.specs.Values.{projected, text_eq, row_eq}
use Rattle.ls_value.proofs.Rows.{and_right, text_eq_true, row_eq_true, row_eq_same}
use Rattle.ls_event.specs.declared.event.Event.{Event}
use Rattle.ls_event.specs.declared.event.Event.TheVariants.{Update, Clear}
use Rattle.ls_event.specs.declared.event.Entry.{Entry}
use Rattle.ls_event.specs.declared.event.Taken.{Taken}
use Rattle.ls_event.specs.History.{between}
use Rattle.ls_event.specs.declared.snapshot.KeyedRow.{KeyedRow}
use Rattle.ls_event.specs.Shapes.{Shape}
use Rattle.ls_event.specs.Slots.{Plan, Slot, enqueued}
use Rattle.ls_event.specs.Updates.{last_of, clear_of, clear_from, last_clear, clear_or}
use Rattle.ls_event.specs.Keyed.{key_of, row_at, keyed_after, keyed_after_all, keyed}
use Rattle.ls_event.specs.CommandCuts.{has_key, key_cursor, queue_after, queue_from, queue_since, owed_keys}
use Rattle.ls_event.specs.CommandCuts.{command_queue, key_taken, command_cut_by, command_cut}
use Rattle.ls_event.proofs.UpdatesBetween.{ClearIn, last_clear_is, last_clear-next, last_of_short, between_length}
use Rattle.ls_event.proofs.UpdatesBetween.{clear_from-append}
use Rattle.ls_mirror.specs.Client.{What, Row, Cleared, End}
use Rattle.ls_record.specs.Came.{Came, whats}
use Rattle.ls_record.specs.Tables.{table_at, what_of_key, projected_row, with_word, delete_row}
use Rattle.ls_event.specs.Joining.{command_joined}
use Rattle.ls_record.specs.Cutting.{Wanted, schema_of, what_of_cut}
use Rattle.ls_lawful.specs.CommandMode.{IsKeyed, cursor_of_key, AgreesAt, NoTurn, KeyTurn, IsKeyRow, ShownItem}
use Rattle.ls_lawful.specs.CommandMode.{key_turn_at, HadKey, AreUpTo, KeyLines, NoneCleared, LawfulCommand}
use Rattle.ls_lawful.proofs.Keeps.{Keeps, AfterCut, by_cut}
use Rattle.ls_record.proofs.Cuts.{no_cut}
use Rattle.ls_lawful.proofs.DistinctLaws.{last_clear-append}
use Rattle.ls_record.proofs.Queues.{keys_next}
use Rattle.ls_lawful.proofs.Updates.{between-front, between-back}
use Rattle.ls_lawful.proofs.Keys.{IfRow, keyed_row, keyed-longer, table_self, table_other, word_key, word_kept}
use Rattle.ls_lawful.proofs.Keys.{delete_key, delete_kept}
use Rattle.ls_event.specs.declared.event.Taken.TheVariants as taken

-- a slot, by the numbers that its keys are told by
abbrev slot_at : Plan → ℕ → ℕ → ℕ → Slot
slot_at p cursor last owed = record { plan = p; last = last; cursor = cursor; owed = owed; ends = false; has_started = false; key_cursors = [] }

-- changes that leave the client's table
agrees_longer : (h more : List Entry) (w : Wanted) (p : Plan) (cursor last : ℕ) (cs : List Came) (k : List ℕ) (o : Option ℕ) → last ≤ length h
    → AgreesAt h w (slot_at p cursor last 0) cs k o → AgreesAt (h ++ more) w (slot_at p cursor last 0) cs k o
agrees_longer h more w p cursor last cs k None within a = a
agrees_longer h more w p cursor last cs k (Some q) within a =
    (a.0, a.1, a.2 ∙ ap (λ ks. projected_row w.places (row_at k ks)) (sym (keyed-longer p.shape h more q (omega (arith, a.1, within)))))

agrees_later : (h : List Entry) (w : Wanted) (p : Plan) (cursor last : ℕ) (cs : List Came) (k : List ℕ) (o : Option ℕ)
    → AgreesAt h w (slot_at p cursor last 0) cs k o → AgreesAt h w (slot_at p cursor (last + 1) 0) cs k o
agrees_later h w p cursor last cs k None a = a
agrees_later h w p cursor last cs k (Some q) a = (a.0, omega (arith, a.1), a.2)

agrees_same : (h : List Entry) (w : Wanted) (p : Plan) (cursor last : ℕ) (cs ds : List Came) (k : List ℕ) (o : Option ℕ)
    → table_at (schema_of w p) k (whats ds) ≡ table_at (schema_of w p) k (whats cs) → AgreesAt h w (slot_at p cursor last 0) cs k o
    → AgreesAt h w (slot_at p cursor last 0) ds k o
agrees_same h w p cursor last cs ds k None e a = e ∙ a
agrees_same h w p cursor last cs ds k (Some q) e a = (a.0, a.1, e ∙ a.2)

-- and changes that leave the lines
had_longer : (v : ShownItem) (more : List Entry) (before : List What) (i : ℕ) (r : List Value) → HadKey v before i r
    → HadKey (record v { history = v.history ++ more }) before i r
had_longer v more before i r l =
    record {
      within = omega (arith, l.within, length-append v.history more);
      key = l.key;
      row = subst (λ ks. IsKeyRow (record (key_turn_at v before i l.key) { item = projected_row v.places (row_at l.key ks) }) r)
          (sym (keyed-longer v.shape v.history more i l.within)) l.row;
    }

lines_longer : (p : Shape) (h more : List Entry) (places : List ℕ) (top : ℕ) (cs : List Came) → KeyLines p h places top cs
    → KeyLines p (h ++ more) places top cs
lines_longer p h more places top [] l = tt
lines_longer p h more places top (c ∷ cs) l = (
  l.0,
  record {
    reached = l.1.reached;
    within = omega (arith, l.1.within, length-append h more);
    rows = λ r is. ((l.1.rows r is).0, had_longer (record { shape = p; history = h; places = places }) more (whats cs) c.upto r (l.1.rows r is).1);
  },
  lines_longer p h more places c.at cs l.2,
  l.3,
)

cleared_longer : (p : Shape) (h more : List Entry) (places : List ℕ) (cursor top : ℕ) (cs : List Came) → KeyLines p h places top cs → NoneCleared h cursor cs
    → NoneCleared (h ++ more) cursor cs
cleared_longer p h more places cursor top [] l n = tt
cleared_longer p h more places cursor top (c ∷ cs) l n =
    (last_clear-append h more cursor c.upto (omega (arith, l.1.reached, l.1.within)) ∙ n.0, cleared_longer p h more places cursor c.at cs l.2 n.1)

lines_later : (p : Shape) (h : List Entry) (places : List ℕ) (low high : ℕ) (cs : List Came) → low ≤ high → KeyLines p h places low cs
    → KeyLines p h places high cs
lines_later p h places low high [] le l = tt
lines_later p h places low high (c ∷ cs) le l = (omega (arith, le, l.0), l.1, l.2, l.3)

no_turn_longer : (h more : List Entry) (w : Wanted) (p : Plan) (cursor last owed : ℕ) (k : List ℕ) → p.base ≤ cursor → cursor ≤ last → last ≤ length h
    → NoTurn h w (slot_at p cursor last owed) k → NoTurn (h ++ more) w (slot_at p cursor last owed) k
no_turn_longer h more w p cursor last owed k low le within (inl a) = inl a
no_turn_longer h more w p cursor last owed k low le within (inr (inl a)) =
    inr (inl (ap (λ ks. has_key (last_of owed (map (λ (x : KeyedRow). x.key) ks)) k) (keyed-longer p.shape h more p.base (omega (arith, low, le, within))) ∙ a))
no_turn_longer h more w p cursor last owed k low le within (inr (inr (inl a))) = inr
    (inr (inl (ap (row_at k) (keyed-longer p.shape h more cursor (omega (arith, le, within))) ∙ a)))
no_turn_longer h more w p cursor last owed k low le within (inr (inr (inr a))) = inr (inr (inr (a.0, last_clear-append h more cursor last within ∙ a.1)))

-- a Clear that waits goes on waiting
clear_later : (o : Option ℕ) (n : ℕ) (event : Event) (c : ℕ) → o ≡ Some c → (d : ℕ) × (clear_of o n event ≡ Some d)
clear_later o n (Update cells) c is = (c, is)
clear_later o n Clear c is = (n, refl)

no_turn_later : (h : List Entry) (w : Wanted) (p : Plan) (cursor last owed : ℕ) (k : List ℕ) → cursor ≤ last → last < length h
    → NoTurn h w (slot_at p cursor last owed) k → NoTurn h w (slot_at p cursor (last + 1) owed) k
no_turn_later h w p cursor last owed k le more (inl a) = inl a
no_turn_later h w p cursor last owed k le more (inr (inl a)) = inr (inl a)
no_turn_later h w p cursor last owed k le more (inr (inr (inl a))) = inr (inr (inl a))
no_turn_later h w p cursor last owed k le more (inr (inr (inr a))) =
    let next : last_clear h cursor (last + 1) ≡ clear_of (last_clear h cursor last) (last + 1)
    (get_or h last (record { adapter = 0; seq = 0; event = Clear })).event
    = last_clear-next h cursor last (get_or h last (record { adapter = 0; seq = 0; event = Clear })) le (omega (arith, more))
    (take_more h last (record { adapter = 0; seq = 0; event = Clear }) more) in
    let r = clear_later (last_clear h cursor last) (last + 1) (get_or h last (record { adapter = 0; seq = 0; event = Clear })).event a.0 a.1 in
    inr (inr (inr (r.0, next ∙ r.1)))

no_turn_owed : (h : List Entry) (w : Wanted) (p : Plan) (cursor last owed owed' : ℕ) (k : List ℕ)
    → (has_key (last_of owed (map (λ (x : KeyedRow). x.key) (keyed p.shape h p.base))) k ≡ true → NoTurn h w (slot_at p cursor last owed') k)
    → NoTurn h w (slot_at p cursor last owed) k → NoTurn h w (slot_at p cursor last owed') k
no_turn_owed h w p cursor last owed owed' k f (inl a) = inl a
no_turn_owed h w p cursor last owed owed' k f (inr (inl a)) = f a
no_turn_owed h w p cursor last owed owed' k f (inr (inr a)) = inr (inr a)

longer : (h more : List Entry) (w : Wanted) (s : Slot) (cs : List Came) → LawfulCommand h w s cs → LawfulCommand (h ++ more) w s cs
longer h more w s cs l =
    record {
      sound = l.sound;
      begun = l.begun;
      behind = l.behind;
      within = omega (arith, l.within, length-append h more);
      agrees = λ k. agrees_longer h more w s.plan s.cursor s.last cs k (cursor_of_key k s.key_cursors) l.within (l.agrees k);
      first = λ k n. no_turn_longer h more w s.plan s.cursor s.last s.owed k l.begun l.behind l.within (l.first k n);
      lines = lines_longer s.plan.shape h more w.places s.last cs l.lines;
      clears = cleared_longer s.plan.shape h more w.places s.cursor s.last cs l.lines l.clears;
    }

enqueue : (h : List Entry) (w : Wanted) (s : Slot) (cs : List Came) → s.last < length h → LawfulCommand h w s cs → LawfulCommand h w (enqueued s) cs
enqueue h w s cs more l =
    record {
      sound = l.sound;
      begun = l.begun;
      behind = omega (arith, l.behind);
      within = omega (arith, more);
      agrees = λ k. agrees_later h w s.plan s.cursor s.last cs k (cursor_of_key k s.key_cursors) (l.agrees k);
      first = λ k n. no_turn_later h w s.plan s.cursor s.last s.owed k l.behind more (l.first k n);
      lines = lines_later s.plan.shape h w.places s.last (s.last + 1) cs (omega arith) l.lines;
      clears = l.clears;
    }

-- what is owed besides this key stays owed
abbrev Leaves : List Entry → Plan → List ℕ → ℕ → Type 0
Leaves h p k owed =
    (j : List ℕ) → text_eq k j ≡ false → has_key (last_of owed (map (λ (x : KeyedRow). x.key) (keyed p.shape h p.base))) j ≡ true
    → has_key (last_of (owed - 1) (map (λ (x : KeyedRow). x.key) (keyed p.shape h p.base))) j ≡ true

-- a key had its turn, where the client then has the item's row and no other key is touched
turn_of : (h : List Entry) (w : Wanted) (s : Slot) (cs ds : List Came) (k : List ℕ) → LawfulCommand h w s cs → Leaves h s.plan k s.owed
    → KeyLines s.plan.shape h w.places s.last ds → NoneCleared h s.cursor ds
    → table_at (schema_of w s.plan) k (whats ds) ≡ projected_row w.places (row_at k (keyed s.plan.shape h s.last))
    → ((j : List ℕ) → text_eq k j ≡ false → table_at (schema_of w s.plan) j (whats ds) ≡ table_at (schema_of w s.plan) j (whats cs))
    → LawfulCommand h w (record s { owed = s.owed - 1; key_cursors = record { key = k; cursor = s.last } ∷ s.key_cursors }) ds
turn_of h w s cs ds k l leaves lines clears here other =
    record {
      sound = l.sound;
      begun = l.begun;
      behind = l.behind;
      within = l.within;
      agrees = λ j. by_test j (text_eq k j) refl;
      first =
          λ j n. first_by j (text_eq k j) refl n;
      lines = lines;
      clears = clears;
    }
  where
    first_by : (j : List ℕ) (b : Bool) → text_eq k j ≡ b → cond b (Some s.last) (cursor_of_key j s.key_cursors) ≡ None
        → NoTurn h w (record s { owed = s.owed - 1 }) j
    first_by j true t n = absurd (let x : Some s.last ≡ None = n in cc)
    first_by j false t n = no_turn_owed h w s.plan s.cursor s.last s.owed (s.owed - 1) j (λ a. inr (inl (leaves j t a))) (l.first j n)

    by_test : (j : List ℕ) (b : Bool) → text_eq k j ≡ b → AgreesAt h w s ds j (cond b (Some s.last) (cursor_of_key j s.key_cursors))
    by_test j true t = subst (λ (x : List ℕ). AgreesAt h w s ds x (Some s.last)) (text_eq_true k j t) (l.behind, omega arith, here)
    by_test j false t = agrees_same h w s.plan s.cursor s.last cs ds j (cursor_of_key j s.key_cursors) (other j t) (l.agrees j)

-- a key's turn in a slot, by the rows that the client and the item have
abbrev turn_in : Slot → Wanted → List ℕ → Option (List Value) → Option (List Value) → KeyTurn
turn_in s w k client item =
    record { at = schema_of w s.plan; fields = length w.places; key = k; client = client; item = projected_row w.places item }

-- a line that tells a key adds to the lines
row_line : (h : List Entry) (w : Wanted) (s : Slot) (cs : List Came) (k : List ℕ) (r : List Value) (a b : Option (List Value)) → LawfulCommand h w s cs
    → table_at (schema_of w s.plan) k (whats cs) ≡ a → row_at k (keyed s.plan.shape h s.last) ≡ b
    → IsKeyRow (turn_in s w k a b) r
    → KeyLines s.plan.shape h w.places s.last (record { what = Row r; before = s.cursor; upto = s.last; at = s.last } ∷ cs)
row_line h w s cs k r a b l has row says = (
  omega arith,
  record {
    reached = omega arith;
    within = l.within;
    rows = λ x is. (refl, record { within = l.within; key = k; row = row_as x is });
  },
  l.lines,
  λ e. absurd (let x : Row r ≡ Cleared = e in cc),
)
  where
    same : (x : List Value) → Row r ≡ Row x → r ≡ x
    same x is = cc

    row_as : (x : List Value) → Row r ≡ Row x
        → IsKeyRow (turn_in s w k (table_at (schema_of w s.plan) k (whats cs)) (row_at k (keyed s.plan.shape h s.last))) x
    row_as x is =
        subst (λ y. IsKeyRow (turn_in s w k y (row_at k (keyed s.plan.shape h s.last))) x) (sym has)
        (subst (λ y. IsKeyRow (turn_in s w k a y) x) (sym row) (subst (IsKeyRow (turn_in s w k a b)) (same x is) says))

-- a line that tells the key's row
turn_row : (h : List Entry) (w : Wanted) (s : Slot) (cs : List Came) (k word : List ℕ) (r : List Value) (a : Option (List Value)) → LawfulCommand h w s cs
    → last_clear h s.cursor s.last ≡ None → Leaves h s.plan k s.owed → table_at (schema_of w s.plan) k (whats cs) ≡ a
    → row_at k (keyed s.plan.shape h s.last) ≡ Some r → IfRow s.plan k (Some r) → text_eq word (codes "DELETE") ≡ false
    → IsKeyRow (turn_in s w k a (Some r)) (with_word (schema_of w s.plan) word (projected r w.places))
    → LawfulCommand h w (record s { owed = s.owed - 1; key_cursors = record { key = k; cursor = s.last } ∷ s.key_cursors })
    (record { what = Row (with_word (schema_of w s.plan) word (projected r w.places)); before = s.cursor; upto = s.last; at = s.last } ∷ cs)
turn_row h w s cs k word r a l none leaves has row good other says =
    let at = word_key s.plan w k word r l.sound good in
    turn_of h w s cs (record { what = Row (with_word (schema_of w s.plan) word (projected r w.places)); before = s.cursor; upto = s.last; at = s.last } ∷ cs) k
    l leaves (row_line h w s cs k (with_word (schema_of w s.plan) word (projected r w.places)) a (Some r) l has row says) (none, l.clears)
    (table_self (schema_of w s.plan) k (with_word (schema_of w s.plan) word (projected r w.places)) (table_at (schema_of w s.plan) k (whats cs)) at
    ∙ word_kept s.plan w k word r l.sound good other ∙ sym (ap (projected_row w.places) row))
    (λ j t. table_other (schema_of w s.plan) k j (with_word (schema_of w s.plan) word (projected r w.places)) (table_at (schema_of w s.plan) j (whats cs)) at t)

-- the client's row and the item's at the key, by cases
key_turn : (h : List Entry) (w : Wanted) (s : Slot) (cs : List Came) (k : List ℕ) (a b : Option (List Value)) → LawfulCommand h w s cs
    → last_clear h s.cursor s.last ≡ None → Leaves h s.plan k s.owed → table_at (schema_of w s.plan) k (whats cs) ≡ a
    → row_at k (keyed s.plan.shape h s.last) ≡ b → IfRow s.plan k b
    → AfterCut LawfulCommand h w s cs (taken.Key k (row_at k (keyed s.plan.shape h s.last)) s.last)
    (what_of_key (schema_of w s.plan) (length w.places) k a (projected_row w.places b))
key_turn h w s cs k None None l none leaves has row good = turn_of h w s cs cs k l leaves l.lines l.clears (has ∙ sym (ap (projected_row w.places) row))
    (λ j t. refl)
key_turn h w s cs k None (Some r) l none leaves has row good = turn_row h w s cs k (codes "ADD") r None l none leaves has row good refl refl
key_turn h w s cs k (Some old) None l none leaves has row good =
    let at = delete_key s.plan w k l.sound in
    turn_of h w s cs (record { what = Row (delete_row (schema_of w s.plan) (length w.places) k); before = s.cursor; upto = s.last; at = s.last } ∷ cs) k l
    leaves (row_line h w s cs k (delete_row (schema_of w s.plan) (length w.places) k) (Some old) None l has row refl) (none, l.clears)
    (table_self (schema_of w s.plan) k (delete_row (schema_of w s.plan) (length w.places) k) (table_at (schema_of w s.plan) k (whats cs)) at
    ∙ delete_kept s.plan w k l.sound ∙ sym (ap (projected_row w.places) row))
    (λ j t. table_other (schema_of w s.plan) k j (delete_row (schema_of w s.plan) (length w.places) k) (table_at (schema_of w s.plan) j (whats cs)) at t)
key_turn h w s cs k (Some old) (Some r) l none leaves has row good = by_test (row_eq old (projected r w.places)) refl
  where
    differ : row_eq old (projected r w.places) ≡ false → old ≡ projected r w.places → ⊥
    differ t e = let same : row_eq old (projected r w.places) ≡ true = subst (λ (x : List Value). row_eq old x ≡ true) e (row_eq_same old) in cc

    by_test : (b : Bool) → row_eq old (projected r w.places) ≡ b
        → AfterCut LawfulCommand h w s cs (taken.Key k (row_at k (keyed s.plan.shape h s.last)) s.last)
        (cond b None (Some (Row (with_word (schema_of w s.plan) (codes "UPDATE") (projected r w.places)))))
    by_test true t = turn_of h w s cs cs k l leaves l.lines l.clears (has ∙ ap Some (row_eq_true old (projected r w.places) t)
        ∙ sym (ap (projected_row w.places) row)) (λ j u. refl)
    by_test false t = turn_row h w s cs k (codes "UPDATE") r (Some old) l none leaves has row good refl (differ t, refl)

pass_key : (h : List Entry) (w : Wanted) (s : Slot) (cs : List Came) (t : Taken) (k : List ℕ) → Some (key_taken h s k) ≡ Some t
    → last_clear h s.cursor s.last ≡ None → Leaves h s.plan k s.owed → LawfulCommand h w s cs → AfterCut LawfulCommand h w s cs t (what_of_cut w s cs t)
pass_key h w s cs t k is none leaves l =
    by_cut LawfulCommand h w s cs (taken.Key k (row_at k (keyed s.plan.shape h s.last)) s.last) t is
    (key_turn h w s cs k (table_at (schema_of w s.plan) k (whats cs)) (row_at k (keyed s.plan.shape h s.last)) l none leaves refl refl
    (keyed_row s.plan w.places h s.last k l.sound))

-- there is no Clear in nothing
none_here : (h : List Entry) (p : ℕ) → last_clear h p p ≡ None
none_here h p = ap (clear_from None p) (drop_all p (take p h) (omega (arith, length-take p h)))

-- the end of the snapshot
ended : (h : List Entry) (w : Wanted) (s : Slot) (cs : List Came) (t : Taken) → ((k : List ℕ)
    → has_key (last_of s.owed (map (λ (x : KeyedRow). x.key) (keyed s.plan.shape h s.plan.base))) k ≡ true → NoTurn h w (record s { owed = 0 }) k)
    → Some taken.EndOfSnapshot ≡ Some t → LawfulCommand h w s cs → AfterCut LawfulCommand h w s cs t (what_of_cut w s cs t)
ended h w s cs t drops is l =
    by_cut LawfulCommand h w s cs taken.EndOfSnapshot t is
    (record {
      sound = l.sound;
      begun = l.begun;
      behind = l.behind;
      within = l.within;
      agrees = λ k. agrees_same h w s.plan s.cursor s.last cs (record { what = End; before = s.cursor; upto = s.cursor; at = s.last } ∷ cs) k
          (cursor_of_key k s.key_cursors) refl (l.agrees k);
      first = λ k n. no_turn_owed h w s.plan s.cursor s.last s.owed 0 k (drops k) (l.first k n);
      lines = (
        omega arith,
        record { reached = l.behind; within = l.within; rows = λ r e. absurd (let x : End ≡ Row r = e in cc) },
        l.lines,
        λ e. absurd
            (let x : End ≡ Cleared = e in cc),
      );
      clears = (none_here h s.cursor, l.clears);
    })

-- at a Clear no key is there
take_none : (es : List Entry) → take 0 es ≡ []
take_none [] = refl
take_none (e ∷ es) = refl

abbrev Emptied : Shape → List KeyedRow → List Entry → ℕ → ℕ → Type 0
Emptied p ks es n c = (m : ℕ) × (c ≡ n + m) × (keyed_after_all p ks (take m es) ≡ [])

emptied_step : (p : Shape) (e : Entry) (es : List Entry) (ks : List KeyedRow) (o : Option ℕ) (n c : ℕ) (event : Event) → e.event ≡ event
    → (clear_of o (n + 1) event ≡ Some c) ⊎ Emptied p (keyed_after p ks e.event) es (n + 1) c → (o ≡ Some c) ⊎ Emptied p ks (e ∷ es) n c
emptied_step p e es ks o n c event is (inr (m, at, empty)) = inr (suc m, omega (arith, at), empty)
emptied_step p e es ks o n c (Update cells) is (inl same) = inl same
emptied_step p e es ks o n c Clear is (inl same) =
    let at : n + 1 ≡ c = ap (λ x. unwrap_or x c) same in
    inr (suc 0, omega (arith, at), ap (keyed_after_all p (keyed_after p ks e.event)) (take_none es) ∙ ap (keyed_after p ks) is)

emptied : (p : Shape) (es : List Entry) (ks : List KeyedRow) (o : Option ℕ) (n c : ℕ) → clear_from o n es ≡ Some c → (o ≡ Some c) ⊎ Emptied p ks es n c
emptied p [] ks o n c is = inl is
emptied p (e ∷ es) ks o n c is = emptied_step p e es ks o n c e.event refl (emptied p es (keyed_after p ks e.event) (clear_of o (n + 1) e.event) (n + 1) c is)

after_all_append : (p : Shape) (ks : List KeyedRow) (xs ys : List Entry) → keyed_after_all p ks (xs ++ ys) ≡ keyed_after_all p (keyed_after_all p ks xs) ys
after_all_append p ks [] ys = refl
after_all_append p ks (x ∷ xs) ys = after_all_append p (keyed_after p ks x.event) xs ys

pub keyed-between : (p : Shape) (h : List Entry) (q l : ℕ) → q ≤ l → keyed p h l ≡ keyed_after_all p (keyed p h q) (between h q l)
keyed-between p h q l le =
    ap (keyed_after_all p []) (sym (take-append-drop q (take l h)) ∙ ap (λ r. r ++ drop q (take l h)) (take-take q l h le))
    ∙ after_all_append p [] (take q h) (between h q l)

keyed_cleared : (p : Shape) (h : List Entry) (q l c : ℕ) → q ≤ l → l ≤ length h → last_clear h q l ≡ Some c → keyed p h c ≡ []
keyed_cleared p h q l c le within is = by_case (emptied p (between h q l) (keyed p h q) None q c is)
  where
    by_case : (None ≡ Some c) ⊎ Emptied p (keyed p h q) (between h q l) q c → keyed p h c ≡ []
    by_case (inl x) = absurd (let y : None ≡ Some c = x in cc)
    by_case (inr (m, at, empty)) =
        let r : ClearIn h q l c = last_clear_is h q l c le within is in
        let low : q < c = r.above in
        keyed-between p h q c (omega (arith, low))
        ∙ ap (λ i. keyed_after_all p (keyed p h q) (between h q i)) at
        ∙ ap (keyed_after_all p (keyed p h q)) (between-front h q m l (omega (arith, at, r.reached)))
        ∙ empty

-- the first of a queue stays first
abbrev pub Begins : List ℕ → List (List ℕ) → Type 0
Begins x queue = (rest : List (List ℕ)) × (queue ≡ x ∷ rest)

after_begins : (s : Slot) (x : List ℕ) (queue : List (List ℕ)) (n : ℕ) (event : Event) → Begins x (queue_after s (x ∷ queue) n event)
after_begins s x queue n Clear = (queue, refl)
after_begins s x queue n (Update cells) = by_test (nat_lt (key_cursor s.key_cursors s.cursor (key_of s.plan.shape cells)) n
    && not (has_key (x ∷ queue) (key_of s.plan.shape cells)))
  where
    by_test : (b : Bool) → Begins x (cond b ((x ∷ queue) ++ key_of s.plan.shape cells ∷ []) (x ∷ queue))
    by_test true = (queue ++ key_of s.plan.shape cells ∷ [], refl)
    by_test false = (queue, refl)

pub queue_begins : (s : Slot) (x : List ℕ) (queue : List (List ℕ)) (n : ℕ) (es : List Entry) → Begins x (queue_from s (x ∷ queue) n es)
queue_begins s x queue n [] = (queue, refl)
queue_begins s x queue n (e ∷ es) =
    let a = after_begins s x queue (n + 1) e.event in
    let b = queue_begins s x a.0 (n + 1) es in
    (b.0, ap (λ q. queue_from s q (n + 1) es) a.1 ∙ b.1)

-- the turn of the first leaves the others that are owed
rest_owed : (keys rest : List (List ℕ)) (x j : List ℕ) (owed : ℕ) → last_of owed keys ≡ x ∷ rest → has_key (x ∷ rest) j ≡ true → has_key rest j ≡ true
    → has_key (last_of (owed - 1) keys) j ≡ true
rest_owed keys rest x j owed is all more = by_next (keys_next keys owed x rest is)
  where
    by_next : (last_of (owed - 1) keys ≡ rest) ⊎ (last_of (owed - 1) keys ≡ x ∷ rest) → has_key (last_of (owed - 1) keys) j ≡ true
    by_next (inl e) = ap (λ ks. has_key ks j) e ∙ more
    by_next (inr e) = ap (λ ks. has_key ks j) e ∙ all

leaves : (s : Slot) (keys queue : List (List ℕ)) (n : ℕ) (es : List Entry) (k j : List ℕ) (owed : ℕ) → last_of owed keys ≡ queue
    → slice_get (queue_from s queue n es) 0 ≡ Some k → text_eq k j ≡ false → has_key queue j ≡ true → has_key (last_of (owed - 1) keys) j ≡ true
leaves s keys [] n es k j owed is head other has = absurd (let x : false ≡ true = has in cc)
leaves s keys (x ∷ rest) n es k j owed is head other has =
    let b = queue_begins s x rest n es in
    let same : Some x ≡ Some k = sym (ap (λ q. slice_get q 0) b.1) ∙ head in
    let e : x ≡ k = cc in
    rest_owed keys rest x j owed is has (sym (ap (λ (v : Bool). v || has_key rest j) (ap (λ y. text_eq y j) e ∙ other)) ∙ has)

-- no Clear comes behind a line of a later event: it stands behind each number up to which a line tells
later_clear : (h : List Entry) (p k l : ℕ) → p + k ≤ l → l ≤ length h → last_clear h p (p + k) ≡ None → last_clear h (p + k) l ≡ last_clear h p l
later_clear h p k l le within none =
    let b = between h p l in
    let n : length (take k b) ≡ k = length-take-le k b (omega (arith, between_length h p l within, le)) in
    ap (clear_from None (p + k)) (between-back h p k l)
    ∙ sym (ap (λ o. clear_from o (p + k) (drop k b)) (ap (clear_from None p) (sym (between-front h p k l le)) ∙ none))
    ∙ sym (ap (λ m. clear_from (clear_from None p (take k b)) (p + m) (drop k b)) n)
    ∙ sym (clear_from-append None p (take k b) (drop k b))
    ∙ ap (clear_from None p) (take-append-drop k b)

clear_above : (h : List Entry) (p q l c : ℕ) → p ≤ l → q ≤ l → l ≤ length h → last_clear h p q ≡ None → last_clear h p l ≡ Some c → q < c
clear_above h p q l c low high within none found = by_test (nat_le p q) refl
  where
    by_test : (b : Bool) → nat_le p q ≡ b → q < c
    by_test false t = let r : ClearIn h p l c = last_clear_is h p l c low within found in omega (arith, r.above, leb-false p q t)
    by_test true t =
        let k : p + (q - p) ≡ q = omega (arith, leb-true p q t) in
        let later : last_clear h q l ≡ last_clear h p l
        = subst (λ m. last_clear h m l ≡ last_clear h p l) k (later_clear h p (q - p) l (omega (arith, k, high)) within (ap (last_clear h p) k ∙ none)) in
        let r : ClearIn h q l c = last_clear_is h q l c high within (later ∙ found) in r.above

none_below : (h : List Entry) (p q : ℕ) → q ≤ p → last_clear h p q ≡ None
none_below h p q le = ap (clear_from None p) (drop_all p (take q h) (omega (arith, length-take q h, le)))

each_before : (h : List Entry) (p : Shape) (places : List ℕ) (cursor top l n : ℕ) (cs : List Came) → KeyLines p h places top cs → top ≤ l → cursor ≤ l
    → l ≤ length h → NoneCleared h cursor cs → last_clear h cursor l ≡ Some n → AreUpTo n cs
each_before h p places cursor top l n [] lines le low within clears found = tt
each_before h p places cursor top l n (c ∷ cs) lines le low within clears found =
    let above : c.upto < n = clear_above h cursor c.upto l n low (omega (arith, lines.0, lines.1.reached, le)) within clears.0 found in
    (omega (arith, above), each_before h p places cursor c.at l n cs lines.2 (omega (arith, lines.0, le)) low within clears.1 found)

lines_before : (h : List Entry) (w : Wanted) (s : Slot) (cs : List Came) (n : ℕ) → LawfulCommand h w s cs → last_clear h s.cursor s.last ≡ Some n → AreUpTo n cs
lines_before h w s cs n l found = each_before h s.plan.shape w.places s.cursor s.last s.last n cs l.lines (omega arith) l.behind l.within l.clears found

none_cleared : (h : List Entry) (n : ℕ) (cs : List Came) → AreUpTo n cs → NoneCleared h n cs
none_cleared h n [] t = tt
none_cleared h n (c ∷ cs) t = (none_below h n c.upto t.0, none_cleared h n cs t.1)

-- the cuts
pass_clear : (h : List Entry) (w : Wanted) (s : Slot) (cs : List Came) (t : Taken) (n : ℕ) (b : Bool) → last_clear h s.cursor s.last ≡ Some n
    → cond b (Some taken.EndOfSnapshot) (Some (taken.Cleared n)) ≡ Some t → LawfulCommand h w s cs
    → AfterCut LawfulCommand h w s cs t (what_of_cut w s cs t)
pass_clear h w s cs t n true found is l = ended h w s cs t (λ k a. inr (inr (inr (n, found)))) is l
pass_clear h w s cs t n false found is l =
    let c : ClearIn h s.cursor s.last n = last_clear_is h s.cursor s.last n l.behind l.within found in
    let low : s.cursor < n = c.above in
    by_cut LawfulCommand h w s cs (taken.Cleared n) t is
    (record {
      sound = l.sound;
      begun = omega (arith, l.begun, low);
      behind = c.reached;
      within = l.within;
      agrees = λ k. refl;
      first = λ k a. inr (inr (inl (ap (row_at k) (keyed_cleared s.plan.shape h s.cursor s.last n l.behind l.within found))));
      lines = (
        omega arith,
        record { reached = c.reached; within = l.within; rows = λ r e. absurd (let x : Cleared ≡ Row r = e in cc) },
        l.lines,
        λ e.
            lines_before h w s cs n l found,
      );
      clears = (none_here h n, none_cleared h n cs (lines_before h w s cs n l found));
    })

pass_head : (h : List Entry) (w : Wanted) (s : Slot) (cs : List Came) (t : Taken) (o : Option (List ℕ)) → last_clear h s.cursor s.last ≡ None
    → slice_get (command_queue h s) 0 ≡ o → option_map (key_taken h s) o ≡ Some t → LawfulCommand h w s cs
    → AfterCut LawfulCommand h w s cs t (what_of_cut w s cs t)
pass_head h w s cs t None none head is l = no_cut t is
pass_head h w s cs t (Some k) none head is l =
    let e : owed_keys h s ≡ last_of s.owed (map (λ (x : KeyedRow). x.key) (keyed s.plan.shape h s.plan.base))
    = ap (λ (c : Option ℕ). cond (is_some c) [] (last_of s.owed (map (λ (x : KeyedRow). x.key) (keyed s.plan.shape h s.plan.base)))) none in
    pass_key h w s cs t k is none
    (λ j other has. leaves s (map (λ (x : KeyedRow). x.key) (keyed s.plan.shape h s.plan.base))
    (last_of s.owed (map (λ (x : KeyedRow). x.key) (keyed s.plan.shape h s.plan.base)))
    (clear_or h s.cursor s.last) (between h (clear_or h s.cursor s.last) s.last) k j s.owed refl (ap (λ q. slice_get (queue_since h s q) 0) (sym e) ∙ head)
    other has) l

pass_quiet : (h : List Entry) (w : Wanted) (s : Slot) (cs : List Came) (t : Taken) (b : Bool) → (s.ends && (s.owed == 0)) ≡ b
    → last_clear h s.cursor s.last ≡ None
    → cond b (Some taken.EndOfSnapshot) (option_map (key_taken h s) (slice_get (command_queue h s) 0)) ≡ Some t → LawfulCommand h w s cs
    → AfterCut LawfulCommand h w s cs t (what_of_cut w s cs t)
pass_quiet h w s cs t true over none is l =
    let zero_owed : s.owed ≡ 0 = eqb-true s.owed 0 (and_right s.ends (s.owed == 0) over) in
    ended h w s cs t (λ k a. inr (inl (ap (λ n. has_key (last_of n (map (λ (x : KeyedRow). x.key) (keyed s.plan.shape h s.plan.base))) k) (sym zero_owed) ∙ a)))
    is l
pass_quiet h w s cs t false over none is l = pass_head h w s cs t (slice_get (command_queue h s) 0) none refl is l

pass : (h : List Entry) (w : Wanted) (s : Slot) (cs : List Came) (t : Taken) → command_cut h s ≡ Some t → LawfulCommand h w s cs
    → AfterCut LawfulCommand h w s cs t (what_of_cut w s cs t)
pass h w s cs t is l = by_clear (last_clear h s.cursor s.last) refl is
  where
    by_clear : (o : Option ℕ) → last_clear h s.cursor s.last ≡ o → command_cut_by h s o ≡ Some t → AfterCut LawfulCommand h w s cs t (what_of_cut w s cs t)
    by_clear (Some n) found e = pass_clear h w s cs t n s.ends found e l
    by_clear None none e = pass_quiet h w s cs t (s.ends && (s.owed == 0)) refl none e l

pub command_keeps : Keeps command_cut LawfulCommand
command_keeps = record { longer = longer; enqueue = enqueue; pass = pass }

-- a slot that joins
row_has : (ks : List KeyedRow) (k : List ℕ) (r : List Value) → row_at k ks ≡ Some r → has_key (map (λ (x : KeyedRow). x.key) ks) k ≡ true
row_has [] k r is = absurd (let x : None ≡ Some r = is in cc)
row_has (x ∷ ks) k r is = by_test (text_eq x.key k) is (λ e. row_has ks k r e)
  where
    by_test : (b : Bool) → cond b (Some x.row) (row_at k ks) ≡ Some r → (row_at k ks ≡ Some r → has_key (map (λ (x : KeyedRow). x.key) ks) k ≡ true)
        → (b || has_key (map (λ (x : KeyedRow). x.key) ks) k) ≡ true
    by_test true e more = refl
    by_test false e more = more e

joins_first : (w : Wanted) (p : Plan) (h : List Entry) (owed : ℕ) (k : List ℕ) (o : Option (List Value)) → row_at k (keyed p.shape h p.base) ≡ o
    → owed ≡ length (keyed p.shape h p.base) → NoTurn h w (slot_at p p.base p.base owed) k
joins_first w p h owed k None is all = inr (inr (inl is))
joins_first w p h owed k (Some r) is all =
    let e : last_of owed (map (λ (x : KeyedRow). x.key) (keyed p.shape h p.base)) ≡ map (λ (x : KeyedRow). x.key) (keyed p.shape h p.base)
    = last_of_short owed (map (λ (x : KeyedRow). x.key) (keyed p.shape h p.base))
    (omega (arith, all, length-map (keyed p.shape h p.base) (λ (x : KeyedRow). x.key))) in
    inr (inl (ap (λ ks. has_key ks k) e ∙ row_has (keyed p.shape h p.base) k r is))

joins_with : (places : List ℕ) (p : Plan) (h : List Entry) (o : Option ℕ) → IsKeyed p places → p.base ≡ length h
    → LawfulCommand h (record { places = places; snapshot = o }) (command_joined p h o) []
joins_with places p h None sound base =
    record {
      sound = sound;
      begun = omega (arith, base);
      behind = omega (arith, base);
      within = omega (arith, base);
      agrees = λ k. refl;
      first =
          λ k n. inl (refl, refl);
      lines = tt;
      clears = tt;
    }
joins_with places p h (Some asked) sound base =
    record {
      sound = sound;
      begun = omega arith;
      behind = omega arith;
      within = omega (arith, base);
      agrees = λ k. refl;
      first = λ k n. joins_first (record { places = places; snapshot = Some asked }) p h (length (keyed p.shape h p.base)) k (row_at k (keyed p.shape h p.base))
          refl refl;
      lines = tt;
      clears = tt;
    }

pub command_joins : (w : Wanted) (p : Plan) (h : List Entry) → IsKeyed p w.places → p.base ≡ length h → LawfulCommand h w (command_joined p h w.snapshot) []
command_joins w p h sound base = joins_with w.places p h w.snapshot sound base
