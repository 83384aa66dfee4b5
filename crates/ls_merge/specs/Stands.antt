-- A buffer of mode MERGE goes on standing for its slot.
use Rattle.std.proofs.Common.{◌≡◌, ℕ, ◌+◌, ◌-◌, ◌<◌, ◌≤◌, ◌||◌, List, [], ◌∷◌, ◌++◌, length, take, drop, map, min, max}
use Rattle.std.proofs.Common.{replicate, refl, sym, ◌∙◌, ap, arith, Bool, true, false, not, cond, Option, Some, None}
use Rattle.std.proofs.Common.{nat_lt, subst, slice_get, unwrap_or, suc, take-add, if◌then◌else◌, ◌&&◌}
use Rattle.std.proofs.lemmas.List.{length-append, length-map, map-append, take-take, drop-drop, length-replicate}
use Rattle.std.proofs.lemmas.Bool.{ltb-true, ltb-false}
use Rattle.ls_value.specs.Values.{applied, nulls}
use Rattle.ls_value.specs.declared.row.Value.{Value}
use Rattle.ls_value.specs.declared.row.Value.TheVariants as value
use Rattle.ls_value.specs.declared.row.Cell.{Cell}
use Rattle.ls_value.specs.declared.row.Cell.TheVariants as cell
use Rattle.ls_event.specs.declared.event.Event.{Event}
use Rattle.ls_event.specs.declared.event.Event.TheVariants.{Update, Clear}
use Rattle.ls_event.specs.declared.event.Entry.{Entry}
use Rattle.ls_event.specs.declared.event.Stored.{Stored}
use Rattle.ls_event.specs.declared.event.Taken.{Taken}
use Rattle.ls_event.specs.declared.event.Taken.TheVariants as taken
use Rattle.ls_event.specs.History.{between, merged, row_after}
use Rattle.ls_event.specs.Slots.{Plan, Slot, IsNext, enqueued, passed, fresh}
use Rattle.ls_event.specs.Cuts.{cut, cut_of, is_pending, pending_of, is_behind, waiting_count, waiting_of, next_cursor}
use Rattle.ls_event.specs.Cuts.{flags_to, touched_after, touched_after_all, touched_cells, flagged_cells, change_to}
use Rattle.ls_event.proofs.Merged.{merged-next, merged-append, merged_length}
use Rattle.ls_event.proofs.Cuts.{touched-next, between-next, between-append, between_none, touched_after_all_length}
use Rattle.ls_event.proofs.Cuts.{all_touched}
use Rattle.ls_event.proofs.UpdatesBetween.{between_length}
use Rattle.ls_event.proofs.Conditions.{below, not_below, some_cond, cond_same}
use Rattle.ls_merge.specs.Merge.{Merge, StandsMerge, RowAt, IsJoining, event_cells, row_number, row_owed, stepped, due}
use Rattle.ls_merge.specs.Merge.{is_over, merge_is_pending, merge_change, merge_head, merge_passed, within_size}
use Rattle.ls_merge.specs.Merge.{with_event, merge_after}

-- what an event says makes the row and the flags that the event makes

applied_nulls : (row : List Value) → applied row (replicate (length row) cell.Null) ≡ nulls (length row)
applied_nulls [] = refl
applied_nulls (v ∷ row) = ap (λ r. value.Null ∷ r) (applied_nulls row)

or_true : (t : Bool) → t || true ≡ true
or_true true = refl
or_true false = refl

touched_nulls : (ts : List Bool) → touched_cells ts (replicate (length ts) cell.Null) ≡ replicate (length ts) true
touched_nulls [] = refl
touched_nulls (t ∷ ts) = ap (λ v. v ∷ touched_cells ts (replicate (length ts) cell.Null)) (or_true t)
    ∙ ap (λ z. true ∷ z) (touched_nulls ts)

said_row : (row : List Value) (event : Event) (fields : ℕ) → length row ≡ fields
    → applied row (event_cells fields event) ≡ row_after row event
said_row row (Update cells) fields is = refl
said_row row Clear fields is = ap (λ n. applied row (replicate n cell.Null)) (sym is) ∙ applied_nulls row

said_flags : (ts : List Bool) (event : Event) (fields : ℕ) → length ts ≡ fields
    → touched_cells ts (event_cells fields event) ≡ touched_after ts event
said_flags ts (Update cells) fields is = refl
said_flags ts Clear fields is = ap (λ n. touched_cells ts (replicate n cell.Null)) (sym is) ∙ touched_nulls ts

-- what entries say
abbrev said : Slot → List Entry → List (List Cell)
said s es = map (λ e. event_cells s.plan.shape.fields e.event) es

row_length : (b : Merge) (s : Slot) (h : List Entry) (q : ℕ) → RowAt b s h q → length b.row ≡ s.plan.shape.fields
row_length b s h q r = ap length r.row ∙ merged_length s.plan.shape.fields h q

-- the buffer's row has the item's number of fields
pub merge_fields : (b : Merge) (s : Slot) (h : List Entry) → StandsMerge b s h → length b.row ≡ s.plan.shape.fields
merge_fields b s h st = row_length b s h (row_number s) st.row_at

flags_length : (b : Merge) (s : Slot) (h : List Entry) (q : ℕ) → RowAt b s h q → length b.touched ≡ s.plan.shape.fields
flags_length b s h q r =
    ap length r.touched ∙ touched_after_all_length (replicate s.plan.shape.fields (not s.has_started))
    (between h s.cursor q) ∙ length-replicate s.plan.shape.fields (not s.has_started)

later_length : (b : Merge) (s : Slot) (h : List Entry) (q : ℕ) → RowAt b s h q → s.last ≤ length h
    → length b.later ≡ s.last - q
later_length b s h q r within = ap length r.later ∙ length-map (between h q s.last)
    (λ e. event_cells s.plan.shape.fields e.event) ∙ between_length h q s.last within

-- the state behind the first of the entries to come
record NextAt (h : List Entry) (s : Slot) (q : ℕ) (e : Entry) (es : List Entry) : Type 0 where
  pub rest : es ≡ between h (q + 1) s.last
  pub row : row_after (merged s.plan.shape.fields h q) e.event ≡ merged s.plan.shape.fields h (q + 1)
  pub flags : s.cursor ≤ q → touched_after (flags_to h s q) e.event ≡ flags_to h s (q + 1)

next_at : (h : List Entry) (s : Slot) (q : ℕ) (e : Entry) (es : List Entry) → s.last ≤ length h
    → between h q s.last ≡ e ∷ es → NextAt h s q e es
next_at h s q e es within is =
    let long : suc (length es) ≡ s.last - q = sym (ap length is) ∙ between_length h q s.last within in
    let more : q < s.last = omega (arith, long) in
    let next : take (q + 1) h ≡ take q h ++ e ∷ [] =
    sym (take-take (q + 1) s.last h (omega (arith, more)))
    ∙ take-add q 1 (take s.last h)
    ∙ ap (λ z. take q (take s.last h) ++ take 1 z) is
    ∙ ap (λ z. z ++ e ∷ []) (take-take q s.last h (omega (arith, more))) in
    record {
      rest = ap (drop 1) (sym is) ∙ drop-drop 1 q (take s.last h);
      row = sym (merged-next s.plan.shape.fields h q e next);
      flags = λ low. sym (touched-next (replicate s.plan.shape.fields (not s.has_started)) h s.cursor q e low
          (omega (arith, more, within)) next);
    }

stepped_at : (b : Merge) (s : Slot) (h : List Entry) (q : ℕ) (es : List Entry) → RowAt b s h q → s.cursor ≤ q
    → s.last ≤ length h → q < s.last → between h q s.last ≡ es → RowAt (stepped b (slice_get b.later 0)) s h (q + 1)
stepped_at b s h q [] r low within more is =
    absurd (omega (arith, more, ap length is, between_length h q s.last within))
stepped_at b s h q (e ∷ es) r low within more is =
    let n : NextAt h s q e es = next_at h s q e es within is in
    let held : b.later ≡ event_cells s.plan.shape.fields e.event ∷ said s es = r.later ∙ ap (said s) is in
    let row : applied b.row (event_cells s.plan.shape.fields e.event) ≡ merged s.plan.shape.fields h (q + 1) =
    said_row b.row e.event s.plan.shape.fields (row_length b s h q r) ∙ ap (λ z. row_after z e.event) r.row ∙ n.row in
    let flags : touched_cells b.touched (event_cells s.plan.shape.fields e.event) ≡ flags_to h s (q + 1) =
    said_flags b.touched e.event s.plan.shape.fields (flags_length b s h q r)
    ∙ ap (λ z. touched_after z e.event) r.touched ∙ n.flags low in
    subst (λ (o : Option (List Cell)). RowAt (stepped b o) s h (q + 1)) (sym (ap (λ z. slice_get z 0) held))
    (record { row = row; touched = flags; later = ap (drop 1) held ∙ ap (said s) n.rest })

due_at : (b : Merge) (s : Slot) (h : List Entry) (v : Bool) → StandsMerge b s h → s.cursor < s.last → row_owed s ≡ v
    → RowAt (cond v (record b { owed = false }) (stepped b (slice_get b.later 0))) s h (next_cursor s)
due_at b s h true st more v =
    let under = ltb-true (max s.cursor (s.last - s.plan.size)) s.plan.base v in
    let at : row_number s ≡ next_cursor s = omega (arith, under, st.near) in
    let r : RowAt b s h (next_cursor s) = subst (RowAt b s h) at st.row_at in
    record { row = r.row; touched = r.touched; later = r.later }
due_at b s h false st more v =
    let above = ltb-false (max s.cursor (s.last - s.plan.size)) s.plan.base v in
    let at : row_number s + 1 ≡ next_cursor s = omega (arith, above) in
    subst (RowAt (stepped b (slice_get b.later 0)) s h) at
    (stepped_at b s h (row_number s) (between h (row_number s) s.last) st.row_at (omega arith) st.within
    (omega (arith, above, more, st.some)) refl)

-- the state that is due is that of the next cursor
due_is : (b : Merge) (s : Slot) (h : List Entry) → StandsMerge b s h → s.cursor < s.last
    → RowAt (due b) s h (next_cursor s)
due_is b s h st more =
    subst (λ (v : Bool). RowAt (cond v (record b { owed = false }) (stepped b (slice_get b.later 0))) s h
    (next_cursor s)) (sym st.owed)
    (due_at b s h (row_owed s) st more refl)

-- what the due record keeps
record Keeps (b c : Merge) : Type 0 where
  pub last : c.last ≡ b.last
  pub size : c.size ≡ b.size
  pub owed : c.owed ≡ false

due_keeps : (b : Merge) → Keeps b (due b)
due_keeps b = by_owed b.owed refl (slice_get b.later 0)
  where
    by_owed : (v : Bool) → b.owed ≡ v → (o : Option (List Cell))
        → Keeps b (cond v (record b { owed = false }) (stepped b o))
    by_owed true is o = record { last = refl; size = refl; owed = refl }
    by_owed false is None = record { last = refl; size = refl; owed = is }
    by_owed false is (Some x) = record { last = refl; size = refl; owed = is }

-- it is pending where the cursor is behind the last number
pending_as : (owed : Bool) (n p l b k : ℕ) → owed ≡ nat_lt (max p (l - k)) b → n ≡ l - max (max p b) (l - k) → 0 < k
    → p ≤ l → b ≤ l → owed || nat_lt 0 n ≡ nat_lt p l
pending_as owed n p l b k is long some behind based = by_owed owed (nat_lt 0 n) (nat_lt p l) is refl refl
  where
    by_owed : (o x y : Bool) → o ≡ nat_lt (max p (l - k)) b → nat_lt 0 n ≡ x → nat_lt p l ≡ y → o || x ≡ y
    by_owed true x true i j m = refl
    by_owed true x false i j m = absurd (omega (arith, ltb-true (max p (l - k)) b (sym i), ltb-false p l m, based))
    by_owed false true true i j m = refl
    by_owed false false false i j m = refl
    by_owed false true false i j m = absurd (omega (arith, ltb-true 0 n j, ltb-false p l m, long, behind))
    by_owed false false true i j m =
        absurd (omega (arith, ltb-false (max p (l - k)) b (sym i), ltb-false 0 n j, ltb-true p l m, long, some))

merge_pending_as : (b : Merge) (s : Slot) (h : List Entry) → StandsMerge b s h
    → merge_is_pending b ≡ nat_lt s.cursor s.last
merge_pending_as b s h st = pending_as b.owed (length b.later) s.cursor s.last s.plan.base s.plan.size st.owed
    (later_length b s h (row_number s) st.row_at st.within) st.some st.behind st.based

-- it is pending where the slot is
pub merge_pending_is : (b : Merge) (s : Slot) (h : List Entry) → StandsMerge b s h → merge_is_pending b ≡ is_pending h s
merge_pending_is b s h st =
    let behind : nat_lt s.cursor s.last ≡ is_behind s = rw (st.owes, st.ends) refl in
    merge_pending_as b s h st ∙ behind ∙ ap (λ m. pending_of m h s) (sym st.mode)

change_is : (b : Merge) (s : Slot) (h : List Entry) → StandsMerge b s h → s.cursor < s.last
    → merge_change (due b) ≡ change_to h s (next_cursor s)
change_is b s h st more =
    let r : RowAt (due b) s h (next_cursor s) = due_is b s h st more in
    let low : next_cursor s ≤ s.last = omega (arith, more, st.some) in
    let at : (due b).last - length (due b).later ≡ next_cursor s =
    omega (arith, (due_keeps b).last, st.last, later_length (due b) s h (next_cursor s) r st.within, low) in
    ap (λ t. taken.Change (flagged_cells t (due b).row) ((due b).last - length (due b).later)) r.touched
    ∙ ap (λ z. taken.Change (flagged_cells (flags_to h s (next_cursor s)) z) ((due b).last - length (due b).later))
    r.row
    ∙ ap (λ n. taken.Change (flagged_cells (flags_to h s (next_cursor s))
    (merged s.plan.shape.fields h (next_cursor s))) n) at

-- what it tells next is the next cut
pub merge_head_is_cut : (b : Merge) (s : Slot) (h : List Entry) → StandsMerge b s h → merge_head b ≡ cut h s
merge_head_is_cut b s h st =
    ap (λ v. cond v (Some (merge_change (due b))) None) (merge_pending_as b s h st)
    ∙ cond_same (nat_lt s.cursor s.last) (Some (merge_change (due b))) (Some (change_to h s (next_cursor s))) None
    (λ t. ap (λ x. Some x) (change_is b s h st (ltb-true s.cursor s.last t)))
    ∙ ap (λ m. cut_of m h s) (sym st.mode)

-- it waits for as many updates as the slot
pub merge_waiting_is : (b : Merge) (s : Slot) (h : List Entry) → StandsMerge b s h → length b.later ≡ waiting_count h s
merge_waiting_is b s h st =
    let long : length b.later ≡ min s.plan.size (s.last - max s.cursor s.plan.base) =
    omega (arith, later_length b s h (row_number s) st.row_at st.within, st.behind, st.based) in
    long ∙ ap (λ m. waiting_of m h s) (sym st.mode)

-- as the history grows
pub merge_longer : (b : Merge) (s : Slot) (h more : List Entry) → StandsMerge b s h → StandsMerge b s (h ++ more)
merge_longer b s h more st =
    let high : row_number s ≤ length h = omega (arith, st.within, st.behind, st.based) in
    record {
      mode = st.mode;
      owes = st.owes;
      ends = st.ends;
      some = st.some;
      size = st.size;
      last = st.last;
      behind = st.behind;
      based = st.based;
      near = st.near;
      within = omega (arith, st.within, length-append h more);
      owed = st.owed;
      row_at = record {
        row = st.row_at.row ∙ sym (merged-append s.plan.shape.fields h more (row_number s) high);
        touched = st.row_at.touched ∙ ap (touched_after_all (replicate s.plan.shape.fields (not s.has_started)))
            (sym (between-append h more s.cursor (row_number s) high));
        later = st.row_at.later ∙ ap (said s) (sym (between-append h more (row_number s) s.last st.within));
      };
    }

passed_more : (b : Merge) (s : Slot) (h : List Entry) → StandsMerge b s h → s.cursor < s.last
    → StandsMerge (merge_passed b) (passed s (change_to h s (next_cursor s))) h
passed_more b s h st more =
    let to : ℕ = next_cursor s in
    let r : RowAt (due b) s h to = due_is b s h st more in
    let high : to ≤ s.last = omega (arith, more, st.some) in
    let at : max (max to s.plan.base) (s.last - s.plan.size) ≡ to = omega (arith, st.near, st.behind) in
    let flags : replicate (length (due b).touched) false ≡ replicate s.plan.shape.fields false =
    ap (λ n. replicate n false) (flags_length (due b) s h to r) in
    record {
      mode = st.mode;
      owes = st.owes;
      ends = st.ends;
      some = st.some;
      size = (due_keeps b).size ∙ st.size;
      last = (due_keeps b).last ∙ st.last;
      behind = high;
      based = st.based;
      near = omega (arith, st.near);
      within = st.within;
      owed = (due_keeps b).owed ∙ sym (not_below (max to (s.last - s.plan.size)) s.plan.base (omega (arith, st.near)));
      row_at = record {
        row = r.row ∙ ap (merged s.plan.shape.fields h) (sym at);
        touched = flags ∙ ap (touched_after_all (replicate s.plan.shape.fields false))
            (sym (ap (between h to) at ∙ between_none h to to (omega arith) (omega (arith, high, st.within))));
        later = r.later ∙ ap (λ n. said s (between h n s.last)) (sym at);
      };
    }

-- after what it tells next
pub merge_stands_passed : (b : Merge) (s : Slot) (h : List Entry) (t : Taken) → StandsMerge b s h
    → merge_head b ≡ Some t → StandsMerge (merge_passed b) (passed s t) h
merge_stands_passed b s h t st tells =
    let pending : merge_is_pending b ≡ true = some_cond (merge_is_pending b) (merge_change (due b)) t tells in
    let more : s.cursor < s.last = ltb-true s.cursor s.last (sym (merge_pending_as b s h st) ∙ pending) in
    let cut_is : Some (merge_change (due b)) ≡ Some t = ap (λ v. cond v (Some (merge_change (due b))) None)
    (sym pending) ∙ tells in
    let same : change_to h s (next_cursor s) ≡ t = sym (change_is b s h st more) ∙ ap (λ o. unwrap_or o t) cut_is in
    subst (λ x. StandsMerge (merge_passed b) (passed s x) h) same (passed_more b s h st more)

-- with one event more the state is still that of its number
with_event_at : (b : Merge) (s : Slot) (h : List Entry) (q : ℕ) (x : Stored) → RowAt b s h q → q ≤ s.last → IsNext s h x
    → RowAt (with_event b x.event) (enqueued s) h q
with_event_at b s h q x r low next =
    let within : s.last ≤ length h = omega (arith, next.more) in
    let grown : said s (between h q (s.last + 1)) ≡ said s (between h q s.last)
    ++ event_cells s.plan.shape.fields next.entry.event ∷ [] =
    ap (said s) (between-next h q s.last next.entry low within next.next)
    ∙ map-append (λ e. event_cells s.plan.shape.fields e.event) (between h q s.last) (next.entry ∷ []) in
    let one : event_cells (length b.row) x.event ≡ event_cells s.plan.shape.fields next.entry.event =
    ap (λ n. event_cells n x.event) (row_length b s h q r) ∙ ap (event_cells s.plan.shape.fields) next.event in
    record {
      row = r.row;
      touched = r.touched;
      later = ap (λ z. z ++ event_cells (length b.row) x.event ∷ []) r.later
          ∙ ap (λ c. said s (between h q s.last) ++ c ∷ []) one ∙ sym grown;
    }

-- what stands after an enqueue
abbrev Room : Merge → Slot → List Entry → Type 0
Room b s h = RowAt b s h (row_number s) × (b.owed ≡ row_owed s)

-- a buffer that holds one event more, and stands but for the size
record Grown (b : Merge) (s : Slot) (h : List Entry) : Type 0 where
  pub some : 0 < s.plan.size
  pub size : b.size ≡ s.plan.size
  pub behind : s.cursor < s.last
  pub based : s.plan.base < s.last
  pub near : s.plan.base ≤ s.cursor + 1
  pub within : s.last ≤ length h
  pub row_at : RowAt b s h (max (max s.cursor s.plan.base) (s.last - 1 - s.plan.size))

room_by : (b : Merge) (s : Slot) (h : List Entry) (o v : Bool) → Grown b s h → b.owed ≡ o
    → nat_lt (max s.cursor (s.last - 1 - s.plan.size)) s.plan.base ≡ o
    → nat_lt b.size (length b.later + (if o then 1 else 0)) ≡ v
    → Room (cond v (cond o (record b { owed = false }) (stepped b (slice_get b.later 0))) b) s h
room_by b s h true true g is i t =
    let under = ltb-true (max s.cursor (s.last - 1 - s.plan.size)) s.plan.base i in
    let over = ltb-true b.size (length b.later + 1) t in
    let long = later_length b s h (max (max s.cursor s.plan.base) (s.last - 1 - s.plan.size)) g.row_at g.within in
    let at : max (max s.cursor s.plan.base) (s.last - 1 - s.plan.size) ≡ row_number s =
    omega (arith, under, over, long, g.size, g.near, g.based) in
    let r : RowAt b s h (row_number s) = subst (RowAt b s h) at g.row_at in (
      record { row = r.row; touched = r.touched; later = r.later },
      sym (not_below (max s.cursor (s.last - s.plan.size)) s.plan.base
          (omega (arith, under, over, long, g.size, g.near, g.based))),
    )
room_by b s h true false g is i t =
    let under = ltb-true (max s.cursor (s.last - 1 - s.plan.size)) s.plan.base i in
    let few = ltb-false b.size (length b.later + 1) t in
    let long = later_length b s h (max (max s.cursor s.plan.base) (s.last - 1 - s.plan.size)) g.row_at g.within in
    let at : max (max s.cursor s.plan.base) (s.last - 1 - s.plan.size) ≡ row_number s =
    omega (arith, under, few, long, g.size, g.near, g.based) in (
      subst (RowAt b s h) at g.row_at,
      is ∙ sym (below (max s.cursor (s.last - s.plan.size)) s.plan.base
          (omega (arith, under, few, long, g.size, g.near, g.based))),
    )
room_by b s h false true g is i t =
    let above = ltb-false (max s.cursor (s.last - 1 - s.plan.size)) s.plan.base i in
    let over = ltb-true b.size (length b.later + 0) t in
    let q : ℕ = max (max s.cursor s.plan.base) (s.last - 1 - s.plan.size) in
    let long = later_length b s h q g.row_at g.within in
    let at : q + 1 ≡ row_number s = omega (arith, above, over, long, g.size, g.based) in
    let row_at : RowAt (stepped b (slice_get b.later 0)) s h (q + 1) =
    stepped_at b s h q (between h q s.last) g.row_at (omega arith) g.within (omega (arith, over, long)) refl in
    let owed : (stepped b (slice_get b.later 0)).owed ≡ false = stepped_owed b (slice_get b.later 0) is in (
      subst (RowAt (stepped b (slice_get b.later 0)) s h) at row_at,
      owed
          ∙ sym (not_below (max s.cursor (s.last - s.plan.size)) s.plan.base
          (omega (arith, above, over, long, g.size, g.based))),
    )
  where
    stepped_owed : (b : Merge) (o : Option (List Cell)) → b.owed ≡ false → (stepped b o).owed ≡ false
    stepped_owed b None is = is
    stepped_owed b (Some x) is = is
room_by b s h false false g is i t =
    let above = ltb-false (max s.cursor (s.last - 1 - s.plan.size)) s.plan.base i in
    let few = ltb-false b.size (length b.later + 0) t in
    let long = later_length b s h (max (max s.cursor s.plan.base) (s.last - 1 - s.plan.size)) g.row_at g.within in
    let at : max (max s.cursor s.plan.base) (s.last - 1 - s.plan.size) ≡ row_number s =
    omega (arith, above, few, long, g.size, g.based) in (
      subst (RowAt b s h) at g.row_at,
      is ∙ sym (not_below (max s.cursor (s.last - s.plan.size)) s.plan.base
          (omega (arith, above))),
    )

room : (b : Merge) (s : Slot) (h : List Entry) → Grown b s h → b.owed
    ≡ nat_lt (max s.cursor (s.last - 1 - s.plan.size)) s.plan.base → Room (within_size b) s h
room b s h g is = by_owed b.owed refl
  where
    by_owed : (o : Bool) → b.owed ≡ o
        → Room (cond (nat_lt b.size (length b.later + (if o then 1 else 0)))
        (cond o (record b { owed = false }) (stepped b (slice_get b.later 0))) b) s h
    by_owed o e = room_by b s h o (nat_lt b.size (length b.later + (if o then 1 else 0))) g e (sym is ∙ e) refl

within_keeps : (b : Merge) (v : Bool) → ((cond v (due b) b).last ≡ b.last) × ((cond v (due b) b).size ≡ b.size)
within_keeps b true = ((due_keeps b).last, (due_keeps b).size)
within_keeps b false = (refl, refl)

-- after an enqueue
pub merge_stands_next : (b : Merge) (s : Slot) (h : List Entry) (x : Stored) → StandsMerge b s h → IsNext s h x
    → StandsMerge (merge_after b x.event) (enqueued s) h
merge_stands_next b s h x st next =
    let more : s.last < length h = next.more in
    let c : Merge = with_event b x.event in
    let t : Slot = enqueued s in
    let low : row_number s ≤ s.last = omega (arith, st.behind, st.based, st.some) in
    let back : row_number s ≡ max (max s.cursor s.plan.base) (s.last + 1 - 1 - s.plan.size) = omega arith in
    let g : Grown c t h =
    record {
      some = st.some;
      size = st.size;
      behind = omega (arith, st.behind);
      based = omega (arith, st.based);
      near = st.near;
      within = omega (arith, more);
      row_at = subst (RowAt c t h) back (with_event_at b s h (row_number s) x st.row_at low next);
    } in
    let owed : b.owed ≡ nat_lt (max s.cursor (s.last + 1 - 1 - s.plan.size)) s.plan.base =
    st.owed ∙ ap (λ n. nat_lt (max s.cursor (n - s.plan.size)) s.plan.base) {x = s.last} {y = s.last + 1 - 1}
    (omega arith) in
    let r : Room (within_size c) t h = room c t h g owed in
    let kept = within_keeps c (is_over c) in
    record {
      mode = st.mode;
      owes = st.owes;
      ends = st.ends;
      some = st.some;
      size = kept.1 ∙ st.size;
      last = kept.0 ∙ ap (λ n. n + 1) st.last;
      behind = omega (arith, st.behind);
      based = omega (arith, st.based);
      near = st.near;
      within = omega (arith, more);
      owed = r.1;
      row_at = r.0;
    }

-- at joining, where the first cut is of the state if it is owed
pub merge_fresh : (size base : ℕ) (state : List Value) (owed : Bool) (p : Plan) (h : List Entry) → 0 < size
    → IsJoining size base state p h
    → StandsMerge (record {
      size = size;
      last = base;
      owed = owed && nat_lt 0 base;
      row = state;
      touched = replicate (length state) true;
      later = [];
    }) (fresh p (if owed then base - 1 else base)) h
merge_fresh size base state owed p h some j =
    let cursor : ℕ = cond owed (base - 1) base in
    let low : (cursor ≤ base) × (base ≤ cursor + 1) = by_owed owed in
    let at : max (max cursor p.base) (p.base - p.size) ≡ base = omega (arith, low.0, j.base) in
    let last : base ≡ p.base = sym j.base in
    record {
      mode = j.mode;
      owes = refl;
      ends = refl;
      some = omega (arith, some, j.size);
      size = sym j.size;
      last = last;
      behind = omega (arith, low.0, last);
      based = omega arith;
      near = omega (arith, low.1, last);
      within = omega (arith, j.within, last);
      owed = is_owed owed ∙ ap (λ n. nat_lt (max cursor (n - p.size)) n) last;
      row_at = record {
        row = j.state ∙ ap (merged p.shape.fields h) (sym at);
        touched = ap (λ n. replicate n true) (sym j.fields) ∙ sym
            (all_touched p.shape.fields (between h cursor (max (max cursor p.base) (p.base - p.size))));
        later = ap (map (λ e. event_cells p.shape.fields e.event))
            (sym (between_none h p.base (max (max cursor p.base) (p.base - p.size)) (omega (arith, at, last))
            (omega (arith, j.within, last))));
      };
    }
  where
    by_owed : (v : Bool) → (cond v (base - 1) base ≤ base) × (base ≤ cond v (base - 1) base + 1)
    by_owed true = (omega arith, omega arith)
    by_owed false = (omega arith, omega arith)

    by_some : (v : Bool) → nat_lt 0 base ≡ v → v ≡ nat_lt (max (base - 1) (base - p.size)) base
    by_some true t = sym (below (max (base - 1) (base - p.size)) base (omega (arith, ltb-true 0 base t, some, j.size)))
    by_some false t = sym (not_below (max (base - 1) (base - p.size)) base (omega (arith, ltb-false 0 base t)))

    is_owed : (v : Bool) → v && nat_lt 0 base ≡ nat_lt (max (cond v (base - 1) base) (base - p.size)) base
    is_owed true = by_some (nat_lt 0 base) refl
    is_owed false = sym (not_below (max base (base - p.size)) base (omega arith))
