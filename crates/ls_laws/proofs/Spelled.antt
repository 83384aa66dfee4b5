-- The conclusions of laws, in full: what each definition that they name says of numbers, rows and lines.
use Rattle.std.proofs.Common.{◌≡◌, ℕ, zero, suc, ◌+◌, ◌-◌, ◌*◌, ◌/◌, ◌<◌, ◌≤◌, ◌⊎◌, inl, inr, List, [], ◌∷◌, ◌++◌, length, refl, sym, ◌∙◌, ap}
use Rattle.std.proofs.Common.{arith, subst, Bool, true, false, ◌||◌, Option, Some, None, codes, slice_get}
use Rattle.std.specs.List.{Contains}
use Rattle.std.proofs.lemmas.Bool.{ltb-true}
use Rattle.std.proofs.Math.Nat.{lt-div-mul-add, mul-le-mul_left}
use Rattle.std.specs.FinMap as finite
use Rattle.ls_value.specs.Values.{projected, value_at, text_eq}
use Rattle.ls_value.proofs.Rows.{text_eq_same}
use Rattle.ls_value.specs.declared.row.Value.{Value}
use Rattle.ls_value.specs.declared.row.Cell.{Cell}
use Rattle.ls_budget.specs.Budget.{Spend, credit}
use Rattle.ls_budget.specs.Window.{latest_tick, MadeWithCredit}
use Rattle.ls_event.specs.declared.event.Entry.{Entry}
use Rattle.ls_event.specs.declared.event.Event.TheVariants.{Update}
use Rattle.ls_event.specs.declared.event.Mode.{Mode}
use Rattle.ls_event.specs.declared.event.Mode.TheVariants as mode
use Rattle.ls_event.specs.declared.updates.OwnRow.{OwnRow}
use Rattle.ls_event.specs.CommandCuts.{has_key}
use Rattle.ls_event.specs.Cuts.{cut}
use Rattle.ls_event.specs.History.{merged, between}
use Rattle.ls_event.specs.Keyed.{keyed, row_at, key_of}
use Rattle.ls_event.specs.Shapes.{Shape}
use Rattle.ls_event.specs.Slots.{Plan, Slot}
use Rattle.ls_event.specs.Updates.{updates_between, recent_rows}
use Rattle.ls_mirror.specs.declared.command.KeyPlaces.{KeyPlaces}
use Rattle.ls_mirror.specs.declared.table.Table.{Table}
use Rattle.ls_mirror.specs.Client.{What, Row, Lost, Cleared}
use Rattle.ls_record.specs.Came.{Came, whats}
use Rattle.ls_record.specs.Cutting.{Wanted, schema_of}
use Rattle.ls_record.specs.Lines.{Line, Tells, came, texts, is_update}
use Rattle.ls_record.specs.Records.{Item, LiveSlot, Session, RoundLine, history_of, change, round_of, is_due, is_waiting, due_at}
use Rattle.ls_record.specs.Tables.{text_or_empty, keys_shown_at, projected_row, table_at, with_word, delete_row}
use Rattle.ls_record.specs.Turning.{Send, NotDue, session_turn}
use Rattle.ls_record.specs.Lines.{text_at}
use Rattle.ls_record.proofs.Each.{each_contains}
use Rattle.ls_lawful.specs.ClientKeys.{KeysAgree}
use Rattle.ls_lawful.specs.ClientTables.{HasTable}
use Rattle.ls_lawful.specs.CommandMode.{cursor_of_key, RowAgrees, NoTurn, IsRowOf, KeyTurn, HadKey, LawfulCommand, touched_in, keys_named}
use Rattle.ls_lawful.specs.Lawful.{MayTell, IsMergeLine, LawfulOf, LawfulSlot}
use Rattle.ls_lawful.specs.RawMode.{RawSays, RowsAt, IsRawLine, RawLines, LawfulRaw}
use Rattle.ls_lawful.specs.Truths.{HadState, HadUpdate, HadRecent, Rises, TellsOf, IsTrueOf}
use Rattle.ls_lawful.proofs.CommandSettled.{slot_settled}
use Rattle.ls_lawful.proofs.RawTruths.{raw_lines_each}
use Rattle.ls_lawful.proofs.Settled.{merge_row}
use Rattle.ls_world.specs.World.{World}
use Rattle.ls_world.specs.Lawful.{Lawful}
use Rattle.ls_laws.specs.Budgets.{spends_of, KeepsBandwidth, IsOfDue, NumbersDue, IsLeastWait, AreApart, is_left_by, configured}
use Rattle.ls_laws.specs.Streams.{given_on, GivesLine}
use Rattle.ls_laws.proofs.ClientTables.{client_has_rows}
use Rattle.ls_laws.proofs.DueSlots.{line_of_due, turn_numbers, wait_is_least}
use Rattle.ls_laws.proofs.Recovery.{turn_gives}
use Rattle.ls_laws.proofs.Settled.{later_stays}

-- an element stands between others
split : {A : Type 0} (x : A) (xs : List A) → Contains xs x → (newer : List A) × (older : List A) × (xs ≡ newer ++ x ∷ older)
split x [] c = absurd (omega (arith, c.1))
split x (y ∷ ys) (zero, within, is) = ([], ys, ap (λ z. z ∷ ys) is)
split x (y ∷ ys) (suc k, within, is) = let r = split x ys (k, omega (arith, within), is) in (y ∷ r.0, r.1, ap (λ zs. y ∷ zs) r.2)

-- rows that an item had
pub merge_had : (p : Shape) (h : List Entry) (places : List ℕ) (cs : List Came) → IsTrueOf mode.Merge p h places cs → (c : Came) (r : List Value)
    → Contains cs c → c.what ≡ Row r → (c.upto ≤ length h) × (r ≡ projected (merged p.fields h c.upto) places)
merge_had p h places cs t c r in_cs is =
    let x = split c cs in_cs in
    let k : HadState p h places c.upto r = t.had x.0 x.1 c r x.2 is in (k.within, k.row)

pub raw_had : (p : Shape) (h : List Entry) (places : List ℕ) (cs : List Came) → IsTrueOf mode.Raw p h places cs → (c : Came) (r : List Value)
    → Contains cs c → c.what ≡ Row r
    → (c.upto ≤ length h) × ((u : OwnRow) × (updates_between h (c.upto - 1) c.upto ≡ u ∷ []) × (r ≡ projected u.row places))
raw_had p h places cs t c r in_cs is =
    let x = split c cs in_cs in
    let k : HadUpdate h places c.upto r = t.had x.0 x.1 c r x.2 is in (k.within, (k.update, k.is, k.row))

pub distinct_had : (p : Shape) (h : List Entry) (places : List ℕ) (cs : List Came) → IsTrueOf mode.Distinct p h places cs → (c : Came) (r : List Value)
    → Contains cs c → c.what ≡ Row r
    → (c.upto ≤ length h) × (((u : OwnRow) × (updates_between h (c.upto - 1) c.upto ≡ u ∷ []) × (r ≡ projected u.row places))
    ⊎ ((own : List Value) × (k : ℕ) × (slice_get (recent_rows h c.upto) k ≡ Some own) × (r ≡ projected own places)))
distinct_had p h places cs t c r in_cs is = let x = split c cs in_cs in by_row (t.had x.0 x.1 c r x.2 is)
  where
    by_row : HadUpdate h places c.upto r ⊎ HadRecent h places c.upto r
        → (c.upto ≤ length h) × (((u : OwnRow) × (updates_between h (c.upto - 1) c.upto ≡ u ∷ []) × (r ≡ projected u.row places))
        ⊎ ((own : List Value) × (k : ℕ) × (slice_get (recent_rows h c.upto) k ≡ Some own) × (r ≡ projected own places)))
    by_row (inl k) = (k.within, inl (k.update, k.is, k.row))
    by_row (inr k) = (k.within, inr (k.own, k.behind, k.is, k.row))

abbrev IsChange : KeyPlaces → ℕ → List ℕ → Option (List Value) → Option (List Value) → List Value → Type 0
IsChange at n k old new r =
    ((row : List Value) × (old ≡ None) × (new ≡ Some row) × (r ≡ with_word at (codes "ADD") row))
    ⊎ (((row : List Value) × (old ≡ Some row) × (new ≡ None) × (r ≡ delete_row at n k))
    ⊎ ((was : List Value) × (row : List Value) × (old ≡ Some was) × (new ≡ Some row) × (was ≡ row → ⊥) × (r ≡ with_word at (codes "UPDATE") row)))

change_is : (t : KeyTurn) (old new : Option (List Value)) (r : List Value) → IsRowOf t old new r → IsChange t.at t.fields t.key old new r
change_is t None None r x = absurd x
change_is t None (Some new) r x = inl (new, refl, refl, x)
change_is t (Some old) None r x = inr (inl (old, refl, refl, x))
change_is t (Some old) (Some new) r x = inr (inr (old, new, refl, refl, x.0, x.1))

pub command_had : (p : Shape) (h : List Entry) (places : List ℕ) (cs : List Came) → IsTrueOf mode.Command p h places cs
    → (newer older : List Came) (c : Came) (r : List Value) → cs ≡ newer ++ c ∷ older → c.what ≡ Row r
    → (c.upto ≤ length h) × ((k : List ℕ) × IsChange (keys_shown_at p places) (length places) k (table_at (keys_shown_at p places) k (whats older))
    (projected_row places (row_at k (keyed p h c.upto))) r)
command_had p h places cs t newer older c r is what =
    let k : HadKey (record { shape = p; history = h; places = places }) (whats older) c.upto r = t.had newer older c r is what in (
      k.within,
      (
        k.key,
        change_is (record {
          at = keys_shown_at p places;
          fields = length places;
          key = k.key;
          client = table_at (keys_shown_at p places) k.key (whats older);
          item = projected_row places (row_at k.key (keyed p h c.upto));
        }) (table_at (keys_shown_at p places) k.key (whats older)) (projected_row places (row_at k.key (keyed p h c.upto))) r k.row,
      ),
    )

pub lines_rise : (p : Shape) (h : List Entry) (places : List ℕ) (m : Mode) (cs : List Came) → IsTrueOf m p h places cs
    → (newer between older : List Came) (late early : Came) → cs ≡ newer ++ late ∷ between ++ early ∷ older
    → (m ≡ mode.Merge → early.upto < late.upto) × (m ≡ mode.Raw → early.upto < late.upto)
    × (m ≡ mode.Distinct → (early.upto ≤ late.before) × (late.before ≤ late.upto)) × (m ≡ mode.Command → early.at ≤ late.at)
lines_rise p h places m cs t newer between older late early is =
    let r : Rises m early late = t.rise newer between older late early is in (
      λ e. subst (λ (x : Mode). Rises x early late) e r,
      λ e. subst (λ (x : Mode). Rises x early late) e r,
      λ e. subst (λ (x : Mode). Rises x early late) e r,
      λ e. subst (λ (x : Mode). Rises x early late) e r,
    )

-- mode RAW
lawful_raw : (h : List Entry) (w : Wanted) (s : Slot) (cs : List Came) → LawfulSlot h w s cs → s.plan.mode ≡ mode.Raw → LawfulRaw h w s cs
lawful_raw h w s cs l raw = subst (λ (m : Mode). LawfulOf m h w s cs) raw l

raw_line : (h : List Entry) (w : Wanted) (s : Slot) (cs : List Came) → LawfulSlot h w s cs → s.plan.mode ≡ mode.Raw → (c : Came) → Contains cs c
    → IsRawLine w.places h c
raw_line h w s cs l raw c in_cs =
    each_contains (IsRawLine w.places h) c cs (raw_lines_each w.places h s.plan.base s.cursor cs (lawful_raw h w s cs l raw).lines) in_cs

pub raw_rows : (h : List Entry) (w : Wanted) (s : Slot) (cs : List Came) → LawfulSlot h w s cs → s.plan.mode ≡ mode.Raw → (c : Came) (r : List Value)
    → Contains cs c → c.what ≡ Row r
    → (u : OwnRow) × (updates_between h c.before c.upto ≡ u ∷ []) × (u.no ≡ c.upto) × (r ≡ projected u.row w.places)
raw_rows h w s cs l raw c r in_cs is =
    let k : IsRawLine w.places h c = raw_line h w s cs l raw c in_cs in
    by_says (subst (λ (what : What). RawSays w.places what (updates_between h c.before c.upto)) is k.says)
    (subst (λ (what : What). RowsAt what c.upto (updates_between h c.before c.upto)) is k.rows)
  where
    by_says : RawSays w.places (Row r) (updates_between h c.before c.upto) → RowsAt (Row r) c.upto (updates_between h c.before c.upto)
        → (u : OwnRow) × (updates_between h c.before c.upto ≡ u ∷ []) × (u.no ≡ c.upto) × (r ≡ projected u.row w.places)
    by_says (u, one, row) at = (u, one, at u one, row)

pub raw_lost : (h : List Entry) (w : Wanted) (s : Slot) (cs : List Came) → LawfulSlot h w s cs → s.plan.mode ≡ mode.Raw → (c : Came) (n : ℕ)
    → Contains cs c → c.what ≡ Lost n → length (updates_between h c.before c.upto) ≡ n
raw_lost h w s cs l raw c n in_cs is =
    subst (λ (what : What). RawSays w.places what (updates_between h c.before c.upto)) is (raw_line h w s cs l raw c in_cs).says

raw_next : (places : List ℕ) (h : List Entry) (base cursor : ℕ) (newer older : List Came) (late early : Came)
    → RawLines places h base cursor (newer ++ late ∷ early ∷ older) → (late.before ≡ early.upto) × (late.before < late.upto) × (late.upto ≤ late.at)
raw_next places h base cursor [] older late early l = (sym l.2.0, l.1.rises, l.1.reached)
raw_next places h base cursor (c ∷ newer) older late early l = raw_next places h base c.before newer older late early l.2

pub raw_leads : (h : List Entry) (w : Wanted) (s : Slot) (cs : List Came) → LawfulSlot h w s cs → s.plan.mode ≡ mode.Raw
    → (newer older : List Came) (late early : Came) → cs ≡ newer ++ late ∷ early ∷ older
    → (late.before ≡ early.upto) × (late.before < late.upto) × (late.upto ≤ late.at)
raw_leads h w s cs l raw newer older late early is =
    raw_next w.places h s.plan.base s.cursor newer older late early
    (subst (λ (xs : List Came). RawLines w.places h s.plan.base s.cursor xs) is (lawful_raw h w s cs l raw).lines)

pub raw_ends : (h : List Entry) (w : Wanted) (s : Slot) (c : Came) (cs : List Came) → LawfulSlot h w s (c ∷ cs) → s.plan.mode ≡ mode.Raw
    → (c.upto ≡ s.cursor) × (s.cursor ≤ s.last) × (s.last ≤ length h)
raw_ends h w s c cs l raw = let k : LawfulRaw h w s (c ∷ cs) = lawful_raw h w s (c ∷ cs) l raw in (k.lines.0, k.behind, k.within)

raw_first : (places : List ℕ) (h : List Entry) (base cursor : ℕ) (cs : List Came) (c : Came) → RawLines places h base cursor (cs ++ c ∷ [])
    → c.before ≡ base
raw_first places h base cursor [] c l = l.2
raw_first places h base cursor (x ∷ cs) c l = raw_first places h base x.before cs c l.2

pub raw_begins : (h : List Entry) (w : Wanted) (s : Slot) (c : Came) (cs : List Came) → LawfulSlot h w s (cs ++ c ∷ []) → s.plan.mode ≡ mode.Raw
    → c.before ≡ s.plan.base
raw_begins h w s c cs l raw = raw_first w.places h s.plan.base s.cursor cs c (lawful_raw h w s (cs ++ c ∷ []) l raw).lines

-- mode MERGE
may_tell_some : (o : Option ℕ) (base n : ℕ) → MayTell o base n → 0 < n
may_tell_some None base n m = omega (arith, m)
may_tell_some (Some rows) base n m = m.0

pub merge_state : (h : List Entry) (w : Wanted) (s : Slot) (cs : List Came) → LawfulSlot h w s cs → s.plan.mode ≡ mode.Merge → (c : Came) → Contains cs c
    → (c.what ≡ Row (projected (merged s.plan.shape.fields h c.upto) w.places)) × (c.upto ≤ c.at) × (c.at ≤ length h)
merge_state h w s cs l merge c in_cs = let k : IsMergeLine s.plan w h c = merge_row h w s cs l merge c in_cs in (k.row, k.reached, k.within)

pub merge_recent : (h : List Entry) (w : Wanted) (s : Slot) (cs : List Came) → LawfulSlot h w s cs → s.plan.mode ≡ mode.Merge → (c : Came) → Contains cs c
    → (0 < c.upto) × (c.at < c.upto + s.plan.size)
merge_recent h w s cs l merge c in_cs =
    let k : IsMergeLine s.plan w h c = merge_row h w s cs l merge c in_cs in
    let some : 0 < c.upto = may_tell_some w.snapshot s.plan.base c.upto k.since in (some, omega (arith, some, k.recent))

pub merge_later : (h : List Entry) (w : Wanted) (s : Slot) (cs : List Came) → LawfulSlot h w s cs → s.plan.mode ≡ mode.Merge → (c : Came) → Contains cs c
    → w.snapshot ≡ None → s.plan.base < c.upto
merge_later h w s cs l merge c in_cs none =
    subst (λ (o : Option ℕ). MayTell o s.plan.base c.upto) none (merge_row h w s cs l merge c in_cs).since

pub merge_snapshot : (h : List Entry) (w : Wanted) (s : Slot) (cs : List Came) → LawfulSlot h w s cs → s.plan.mode ≡ mode.Merge → (c : Came) (rows : ℕ)
    → Contains cs c → w.snapshot ≡ Some rows → s.plan.base ≤ c.upto
merge_snapshot h w s cs l merge c rows in_cs asked =
    (subst (λ (o : Option ℕ). MayTell o s.plan.base c.upto) asked (merge_row h w s cs l merge c in_cs).since).1

-- mode COMMAND
lawful_command : (h : List Entry) (w : Wanted) (s : Slot) (cs : List Came) → LawfulSlot h w s cs → s.plan.mode ≡ mode.Command → LawfulCommand h w s cs
lawful_command h w s cs l command = subst (λ (m : Mode). LawfulOf m h w s cs) command l

pub key_told : (h : List Entry) (w : Wanted) (s : Slot) (cs : List Came) → LawfulSlot h w s cs → s.plan.mode ≡ mode.Command → (k : List ℕ) (q : ℕ)
    → cursor_of_key k s.key_cursors ≡ Some q
    → (s.cursor ≤ q) × (q ≤ s.last) × (s.last ≤ length h)
    × (table_at (schema_of w s.plan) k (whats cs) ≡ projected_row w.places (row_at k (keyed s.plan.shape h q)))
key_told h w s cs l command k q is =
    let c : LawfulCommand h w s cs = lawful_command h w s cs l command in
    let a : RowAgrees h w s k (table_at (schema_of w s.plan) k (whats cs)) (Some q) =
    subst (λ (o : Option ℕ). RowAgrees h w s k (table_at (schema_of w s.plan) k (whats cs)) o) is (c.agrees k) in (a.0, a.1, c.within, a.2)

pub key_absent : (h : List Entry) (w : Wanted) (s : Slot) (cs : List Came) → LawfulSlot h w s cs → s.plan.mode ≡ mode.Command → (k : List ℕ)
    → cursor_of_key k s.key_cursors ≡ None → (table_at (schema_of w s.plan) k (whats cs) ≡ None) × NoTurn h w s k
key_absent h w s cs l command k none =
    let c : LawfulCommand h w s cs = lawful_command h w s cs l command in
    let a : RowAgrees h w s k (table_at (schema_of w s.plan) k (whats cs)) None =
    subst (λ (o : Option ℕ). RowAgrees h w s k (table_at (schema_of w s.plan) k (whats cs)) o) none (c.agrees k) in (a, c.first k none)

pub rows_stay : (w : World) (s : Session) (v : LiveSlot) → Lawful w → Contains w.sessions s → Contains s.board.round v → v.slot.plan.mode ≡ mode.Command
    → (newer between older : List Came) (late early : Came) (r : List Value) → came v.sub v.rank s.board.lines ≡ newer ++ late ∷ between ++ early ∷ older
    → late.what ≡ Row r → early.upto ≤ late.upto
rows_stay w s v l in_world in_round command newer between older late early r is what =
    later_stays w s v l in_world in_round command (text_or_empty (value_at r (schema_of v.wanted v.slot.plan).key)) newer between older late early is
    (subst (λ (x : What). TellsOf (schema_of v.wanted v.slot.plan) (text_or_empty (value_at r (schema_of v.wanted v.slot.plan).key)) x) (sym what) refl)

pub clears_stay : (w : World) (s : Session) (v : LiveSlot) → Lawful w → Contains w.sessions s → Contains s.board.round v → v.slot.plan.mode ≡ mode.Command
    → (newer between older : List Came) (late early : Came) → came v.sub v.rank s.board.lines ≡ newer ++ late ∷ between ++ early ∷ older
    → late.what ≡ Cleared → early.upto ≤ late.upto
clears_stay w s v l in_world in_round command newer between older late early is what =
    later_stays w s v l in_world in_round command [] newer between older late early is
    (subst (λ (x : What). TellsOf (schema_of v.wanted v.slot.plan) [] x) (sym what) tt)

-- a key that an update named is among those that were touched
has_left : (xs ys : List (List ℕ)) (k : List ℕ) → has_key xs k ≡ true → has_key (xs ++ ys) k ≡ true
has_left [] ys k h = absurd (let x : false ≡ true = h in cc)
has_left (x ∷ xs) ys k h = by_test (text_eq x k) h (has_left xs ys k)
  where
    by_test : (v : Bool) → (v || has_key xs k) ≡ true → (has_key xs k ≡ true → has_key (xs ++ ys) k ≡ true) → (v || has_key (xs ++ ys) k) ≡ true
    by_test true e more = refl
    by_test false e more = more e

has_right : (xs ys : List (List ℕ)) (k : List ℕ) → has_key ys k ≡ true → has_key (xs ++ ys) k ≡ true
has_right [] ys k h = h
has_right (x ∷ xs) ys k h = by_test (text_eq x k) (has_right xs ys k h)
  where
    by_test : (v : Bool) → has_key (xs ++ ys) k ≡ true → (v || has_key (xs ++ ys) k) ≡ true
    by_test true e = refl
    by_test false e = e

named_touched : (p : Plan) (es : List Entry) (e : Entry) (cells : List Cell) → Contains es e → e.event ≡ Update cells
    → has_key (touched_in p es) (key_of p.shape cells) ≡ true
named_touched p [] e cells c is = absurd (omega (arith, c.1))
named_touched p (x ∷ es) e cells (zero, within, same) is =
    has_left (keys_named p x.event) (touched_in p es) (key_of p.shape cells)
    (ap (λ v. has_key (keys_named p v) (key_of p.shape cells)) (ap (λ (y : Entry). y.event) same ∙ is)
    ∙ ap (λ b. b || false) (text_eq_same (key_of p.shape cells)))
named_touched p (x ∷ es) e cells (suc k, within, same) is =
    has_right (keys_named p x.event) (touched_in p es) (key_of p.shape cells) (named_touched p es e cells (k, omega (arith, within), same) is)

pub named_settled : (h : List Entry) (w : Wanted) (s : Slot) (cs : List Came) → LawfulSlot h w s cs → s.plan.mode ≡ mode.Command → cut h s ≡ None
    → (e : Entry) (cells : List Cell) → Contains (between h s.plan.base s.last) e → e.event ≡ Update cells
    → table_at (schema_of w s.plan) (key_of s.plan.shape cells) (whats cs)
    ≡ projected_row w.places (row_at (key_of s.plan.shape cells) (keyed s.plan.shape h s.last))
named_settled h w s cs l command none e cells in_es is =
    slot_settled h w s cs l command none (key_of s.plan.shape cells) (inr (named_touched s.plan (between h s.plan.base s.last) e cells in_es is))

pub client_told : (w : World) (s : Session) (v : LiveSlot) (t : Table) → Lawful w → Contains w.sessions s → Contains s.board.round v
    → v.slot.plan.mode ≡ mode.Command → HasTable (texts s.board.lines) v.sub v.rank t → (k : List ℕ) (q : ℕ) → cursor_of_key k v.slot.key_cursors ≡ Some q
    → (v.slot.cursor ≤ q) × (q ≤ v.slot.last)
    × (finite.get t.keys k ≡ projected_row v.wanted.places (row_at k (keyed v.slot.plan.shape (history_of w.items v.item) q)))
client_told w s v t l in_world in_round command has k q is =
    let agree : KeysAgree (history_of w.items v.item) v.wanted v.slot t.keys = client_has_rows w s v t l in_world in_round command has in
    subst (λ (o : Option ℕ). RowAgrees (history_of w.items v.item) v.wanted v.slot k (finite.get t.keys k) o) is (agree k)

pub client_absent : (w : World) (s : Session) (v : LiveSlot) (t : Table) → Lawful w → Contains w.sessions s → Contains s.board.round v
    → v.slot.plan.mode ≡ mode.Command → HasTable (texts s.board.lines) v.sub v.rank t → (k : List ℕ) → cursor_of_key k v.slot.key_cursors ≡ None
    → finite.get t.keys k ≡ None
client_absent w s v t l in_world in_round command has k is =
    let agree : KeysAgree (history_of w.items v.item) v.wanted v.slot t.keys = client_has_rows w s v t l in_world in_round command has in
    subst (λ (o : Option ℕ). RowAgrees (history_of w.items v.item) v.wanted v.slot k (finite.get t.keys k) o) is (agree k)

-- slots that are due
pub due_line : (now : ℕ) (items : List Item) (s : Session) (t : RoundLine) → (round_of (is_due now s) items s.board.lines s.board.round).came ≡ Some t
    → (v : LiveSlot) × Contains s.board.round v × (is_due now s v ≡ true) × (t.live ≡ record v { slot = t.live.slot })
due_line now items s t is = let x : IsOfDue now s t = line_of_due now items s t is in (x.slot, x.is_in, x.due, x.same)

pub due_numbers : (now : ℕ) (items : List Item) (epoch : ℕ) (s : Session)
    → ((session_turn now items epoch s).session.board.lines ≡ s.board.lines)
    ⊎ ((v : LiveSlot) × (c : Came) × Contains s.board.round v × (is_due now s v ≡ true)
    × ((session_turn now items epoch s).session.board.lines ≡ Tells v.sub v.rank now c ∷ s.board.lines))
due_numbers now items epoch s = by_line (turn_numbers now items epoch s)
  where
    by_line : ((session_turn now items epoch s).session.board.lines ≡ s.board.lines) ⊎ NumbersDue now s (session_turn now items epoch s).session.board.lines
        → ((session_turn now items epoch s).session.board.lines ≡ s.board.lines)
        ⊎ ((v : LiveSlot) × (c : Came) × Contains s.board.round v × (is_due now s v ≡ true)
        × ((session_turn now items epoch s).session.board.lines ≡ Tells v.sub v.rank now c ∷ s.board.lines))
    by_line (inl same) = inl same
    by_line (inr x) = inr (x.slot, x.came, x.is_in, x.due, x.is)

pub gives_line : (now : ℕ) (items : List Item) (epoch : ℕ) (s : Session)
    → (given_on (session_turn now items epoch s).session ≡ given_on s)
    ⊎ ((n : ℕ) × ((session_turn now items epoch s).gives ≡ Send (text_at (session_turn now items epoch s).session.board.lines n))
    × (given_on (session_turn now items epoch s).session ≡ change 0 (λ ns. n ∷ ns) (given_on s)))
gives_line now items epoch s = by_line (turn_gives now items epoch s)
  where
    by_line : (given_on (session_turn now items epoch s).session ≡ given_on s) ⊎ GivesLine s (session_turn now items epoch s)
        → (given_on (session_turn now items epoch s).session ≡ given_on s)
        ⊎ ((n : ℕ) × ((session_turn now items epoch s).gives ≡ Send (text_at (session_turn now items epoch s).session.board.lines n))
        × (given_on (session_turn now items epoch s).session ≡ change 0 (λ ns. n ∷ ns) (given_on s)))
    by_line (inl same) = inl same
    by_line (inr x) = inr (x.number, x.text, x.streams)

pub least_wait_is : (now : ℕ) (items : List Item) (epoch : ℕ) (s : Session) (tick : ℕ) → (session_turn now items epoch s).gives ≡ NotDue tick
    → ((v : LiveSlot) × Contains s.board.round v × (is_waiting now items s v ≡ true) × (due_at now s v ≡ tick))
    × ((v : LiveSlot) → Contains s.board.round v → is_waiting now items s v ≡ true → tick ≤ due_at now s v)
least_wait_is now items epoch s tick is =
    let x : IsLeastWait now items s tick = wait_is_least now items epoch s tick is in ((x.slot, x.is_in, x.waits, x.at), x.least)

-- a spend among others was made with credit
made_at : (r : ℕ) (newer older : List Spend) (x : Spend) → MadeWithCredit r (newer ++ x ∷ older)
    → (0 < credit r older x.tick) × (latest_tick older ≤ x.tick) × (x.tick ≤ latest_tick (newer ++ x ∷ older))
made_at r [] older x m = (ltb-true 0 (credit r older x.tick) m.0, m.1, omega arith)
made_at r (y ∷ newer) older x m =
    let k = made_at r newer older x m.2 in (k.0, k.1, omega (arith, k.2, m.1))

pub spend_made : (now r : ℕ) (s : Session) (newer older : List Spend) (x : Spend) → KeepsBandwidth now s → s.rate.limit ≡ Some r
    → spends_of s ≡ newer ++ x ∷ older → (0 < r) × (0 < credit r older x.tick) × (latest_tick older ≤ x.tick) × (x.tick ≤ now)
spend_made now r s newer older x k is spends =
    let m = made_at r newer older x (subst (MadeWithCredit r) spends (k.made r is)) in
    let last : latest_tick (newer ++ x ∷ older) ≤ now = subst (λ (xs : List Spend). latest_tick xs ≤ now) spends k.latest in
    (k.some r is, m.0, m.1, omega (arith, m.2, last))

-- an interval in ms, times the frequency in thousandths
interval_bound : (f : ℕ) → 0 < f → 1000000 ≤ f * ((1000000 + (f - 1)) / f)
interval_bound f some =
    let q : ℕ = (1000000 + (f - 1)) / f in
    let above : 1000000 + (f - 1) < q * f + f = lt-div-mul-add {a = 1000000 + (f - 1)} {b = f} some in
    let same : q * f ≡ f * q = grind arith in
    omega (arith, above, same, some)

pub apart_by_interval : (lines : List Line) → AreApart lines → (sub rank f early late : ℕ) (c d : Came) (q r : List Value) (newer between older : List Line)
    → lines ≡ newer ++ (Tells sub rank late c ∷ (between ++ (Tells sub rank early d ∷ older))) → c.what ≡ Row q → d.what ≡ Row r
    → is_left_by sub between ≡ true → configured sub older ≡ Some f → 0 < f → (early ≤ late) × (1000000 ≤ f * (late - early))
apart_by_interval lines apart sub rank f early late c d q r newer between older is first second left told some =
    let far : early + (1000000 + (f - 1)) / f ≤ late =
    apart sub rank f early late c d newer between older is (ap is_update first) (ap is_update second) left told in
    let gap : (1000000 + (f - 1)) / f ≤ late - early = omega (arith, far) in
    let bound : 1000000 ≤ f * ((1000000 + (f - 1)) / f) = interval_bound f some in
    let more : f * ((1000000 + (f - 1)) / f) ≤ f * (late - early) = mul-le-mul_left f gap in
    (omega (arith, far), omega (arith, bound, more))
