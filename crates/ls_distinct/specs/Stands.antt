-- A buffer of mode DISTINCT goes on standing for its slot.
use Rattle.std.proofs.Common.{◌≡◌, ℕ, ◌+◌, ◌-◌, ◌<◌, ◌≤◌, List, [], ◌∷◌, ◌++◌, length, take, drop, map, refl, sym, ◌∙◌}
use Rattle.std.proofs.Common.{ap, arith, Bool, true, false, cond, Option, Some, None, nat_lt, subst, slice_get}
use Rattle.std.proofs.Common.{unwrap_or, option_map, All}
use Rattle.std.specs.Option.{option_map_or}
use Rattle.std.proofs.lemmas.List.{length-append, length-drop, length-map, drop-drop, drop_all, length-take-le}
use Rattle.std.proofs.lemmas.List.Elements.{All-nil, All-append, All-drop}
use Rattle.std.proofs.lemmas.Bool.{ltb-true, ltb-false}
use Rattle.ls_value.specs.declared.row.Value.{Value}
use Rattle.ls_event.specs.declared.event.Event.{Event}
use Rattle.ls_event.specs.declared.event.Event.TheVariants.{Update, Clear}
use Rattle.ls_event.specs.declared.event.Entry.{Entry}
use Rattle.ls_event.specs.declared.event.Stored.{Stored}
use Rattle.ls_event.specs.declared.event.Taken.{Taken}
use Rattle.ls_event.specs.declared.event.Taken.TheVariants as taken
use Rattle.ls_event.specs.declared.event.Mode.TheVariants as mode
use Rattle.ls_event.specs.declared.snapshot.Snapshot.{Snapshot}
use Rattle.ls_event.specs.declared.updates.OwnRow.{OwnRow}
use Rattle.ls_event.specs.History.{between, HasFields}
use Rattle.ls_event.specs.Slots.{Plan, Slot, IsNext, enqueued, passed, fresh, fresh_with}
use Rattle.ls_event.specs.Updates.{last_of, updates_between, own_value, own_row, own_of, own_from, recent_rows}
use Rattle.ls_event.specs.Updates.{last_clear, clear_of, clear_from, clear_or}
use Rattle.ls_event.specs.OwnCuts.{distinct_cut_by, row_taken, first_of_last}
use Rattle.ls_event.specs.Cuts.{cut, cut_of, is_pending, waiting_count, waiting_of, Fits}
use Rattle.ls_event.specs.declared.limits.TheConstants.{MOST_SNAPSHOT_ROWS}
use Rattle.ls_event.proofs.Cuts.{between-append}
use Rattle.ls_event.proofs.UpdatesBetween.{updates_between-next, updates_between-append, last_of-next, last_of_length}
use Rattle.ls_event.proofs.UpdatesBetween.{slice_get_drop, left_behind, Left, last_clear-next, last_clear_is, ClearIn}
use Rattle.ls_event.proofs.UpdatesBetween.{last_clear_none}
use Rattle.ls_event.proofs.Conditions.{all_one, all_at}
use Rattle.ls_distinct.specs.Distinct.{Distinct, StandsDistinct, IsJoining, IsSnapshotOf, distinct_head}
use Rattle.ls_distinct.specs.Distinct.{distinct_head_of, distinct_after, distinct_passed, distinct_passed_of}
use Rattle.ls_distinct.specs.Distinct.{distinct_is_pending, distinct_ended, distinct_first_no, distinct_joining}
use Rattle.ls_distinct.specs.Distinct.{distinct_joined_slot, distinct_rows}

-- the numbers from which updates_between count lie between the cursor and the last number
since_within : (h : List Entry) (p l : ℕ) → p ≤ l → l ≤ length h → (p ≤ clear_or h p l) × (clear_or h p l ≤ l)
since_within h p l low high = by_clear (last_clear h p l) refl
  where
    by_clear : (o : Option ℕ) → last_clear h p l ≡ o → (p ≤ unwrap_or o p) × (unwrap_or o p ≤ l)
    by_clear None is = (omega arith, low)
    by_clear (Some c) is = let x : ClearIn h p l c = last_clear_is h p l c low high is in
        (omega (arith, x.above), x.reached)

rows_length : (b : Distinct) (s : Slot) (h : List Entry) → StandsDistinct b s h → length b.rows ≡ s.owed
rows_length b s h st = ap length st.rows ∙ last_of_length s.owed (recent_rows h s.plan.base) ∙ omega (arith, st.enough)

head_from : (b : Distinct) (s : Slot) (h : List Entry) (o : Option ℕ) → StandsDistinct b s h
    → last_clear h s.cursor s.last ≡ o → distinct_head_of b o ≡ distinct_cut_by h s o
head_from b s h (Some c) st is = ap (λ v. cond v (Some taken.EndOfSnapshot) (Some (taken.Cleared c))) st.ends
head_from b s h None st is =
    let kept : slice_get b.kept 0 ≡ first_of_last s.plan.size (updates_between h s.cursor s.last) =
    ap (λ z. slice_get z 0) (st.kept ∙ ap (λ o. last_of s.plan.size (updates_between h (unwrap_or o s.cursor) s.last))
    is) ∙ slice_get_drop (length (updates_between h s.cursor s.last) - s.plan.size)
    (updates_between h s.cursor s.last) in
    let rows : slice_get b.rows 0 ≡ first_of_last s.owed (recent_rows h s.plan.base) =
    ap (λ z. slice_get z 0) st.rows ∙ slice_get_drop (length (recent_rows h s.plan.base) - s.owed)
    (recent_rows h s.plan.base) in
    rw (rows_length b s h st, rows, kept, st.base, st.ends) refl

-- what it tells is the cut
pub distinct_head_is_cut : (b : Distinct) (s : Slot) (h : List Entry) → StandsDistinct b s h → distinct_head b ≡ cut h s
distinct_head_is_cut b s h st =
    ap (distinct_head_of b) st.cleared ∙ head_from b s h (last_clear h s.cursor s.last) st refl
    ∙ ap (λ m. cut_of m h s) (sym st.mode)

pub distinct_pending_is : (b : Distinct) (s : Slot) (h : List Entry) → StandsDistinct b s h
    → distinct_is_pending b ≡ is_pending h s
distinct_pending_is b s h st = rw (st.mode, rows_length b s h st, st.ends, st.cursor, st.last) refl

pub distinct_waiting_is : (b : Distinct) (s : Slot) (h : List Entry) → StandsDistinct b s h
    → length b.kept ≡ waiting_count h s
distinct_waiting_is b s h st = ap length st.kept ∙ last_of_length s.plan.size
    (updates_between h (clear_or h s.cursor s.last) s.last) ∙ ap (λ m. waiting_of m h s) (sym st.mode)

last_clear-append : (h more : List Entry) (p l : ℕ) → l ≤ length h → last_clear (h ++ more) p l ≡ last_clear h p l
last_clear-append h more p l within = ap (clear_from None p) (between-append h more p l within)

clear_or-append : (h more : List Entry) (p l : ℕ) → l ≤ length h → clear_or (h ++ more) p l ≡ clear_or h p l
clear_or-append h more p l within = ap (λ o. unwrap_or o p) (last_clear-append h more p l within)

recent-append : (h more : List Entry) (i : ℕ) → i ≤ length h → recent_rows (h ++ more) i ≡ recent_rows h i
recent-append h more i within =
    ap (λ k. last_of MOST_SNAPSHOT_ROWS (map (λ u. u.row) (updates_between (h ++ more) k i)))
    (clear_or-append h more 0 i within)
    ∙ ap (λ z. last_of MOST_SNAPSHOT_ROWS (map (λ u. u.row) z))
    (updates_between-append h more (clear_or h 0 i) i within)

-- as the history grows
pub distinct_longer : (b : Distinct) (s : Slot) (h more : List Entry) → StandsDistinct b s h
    → StandsDistinct b s (h ++ more)
distinct_longer b s h more st =
    let kept_rows : recent_rows (h ++ more) s.plan.base ≡ recent_rows h s.plan.base =
    recent-append h more s.plan.base (omega (arith, st.based, st.behind, st.within)) in
    record {
      mode = st.mode;
      some = st.some;
      size = st.size;
      base = st.base;
      last = st.last;
      cursor = st.cursor;
      ends = st.ends;
      based = st.based;
      behind = st.behind;
      within = omega (arith, st.within, length-append h more);
      enough = omega (arith, st.enough, ap length kept_rows);
      first = st.first;
      rows = st.rows ∙ ap (last_of s.owed) (sym kept_rows);
      cleared = st.cleared ∙ sym (last_clear-append h more s.cursor s.last st.within);
      kept = st.kept
          ∙ ap (last_of s.plan.size) (sym (updates_between-append h more (clear_or h s.cursor s.last) s.last st.within)
          ∙ ap (λ k. updates_between (h ++ more) k s.last)
          (sym (clear_or-append h more s.cursor s.last st.within)));
    }

distinct_next : (b : Distinct) (s : Slot) (h : List Entry) (event : Event) (e : Entry) → StandsDistinct b s h
    → s.last < length h → take (s.last + 1) h ≡ take s.last h ++ e ∷ [] → event ≡ e.event
    → StandsDistinct (distinct_after b event) (enqueued s) h
distinct_next b s h (Update cells) e st more next is =
    let u : OwnRow = record { row = own_row cells; no = s.last + 1 } in
    let clear : last_clear h s.cursor (s.last + 1) ≡ last_clear h s.cursor s.last =
    last_clear-next h s.cursor s.last e st.behind st.within next
    ∙ ap (clear_of (last_clear h s.cursor s.last) (s.last + 1)) (sym is) in
    let from : ℕ = clear_or h s.cursor s.last in
    let us : List OwnRow = updates_between h from s.last in
    let grown : updates_between h from (s.last + 1) ≡ us ++ u ∷ [] =
    updates_between-next h from s.last e (since_within h s.cursor s.last st.behind st.within).1 st.within next
    ∙ ap (λ x. us ++ own_of (s.last + 1) x) (sym is) in
    record {
      mode = st.mode;
      some = st.some;
      size = st.size;
      base = st.base;
      last = ap (λ n. n + 1) st.last;
      cursor = st.cursor;
      ends = st.ends;
      based = st.based;
      behind = omega (arith, st.behind);
      within = omega (arith, more);
      enough = st.enough;
      first = st.first;
      rows = st.rows;
      cleared = st.cleared ∙ sym clear;
      kept = ap (λ n. last_of n (b.kept ++ record { row = own_row cells; no = b.last + 1 } ∷ [])) st.size
          ∙ ap (λ n. last_of s.plan.size (b.kept ++ record { row = own_row cells; no = n + 1 } ∷ [])) st.last
          ∙ ap (λ k. last_of s.plan.size (k ++ u ∷ [])) st.kept ∙ last_of-next s.plan.size us u
          ∙ ap (last_of s.plan.size) (sym grown ∙ ap (λ o. updates_between h (unwrap_or o s.cursor) (s.last + 1))
          (sym clear));
    }
distinct_next b s h Clear e st more next is =
    let clear : last_clear h s.cursor (s.last + 1) ≡ Some (s.last + 1) =
    last_clear-next h s.cursor s.last e st.behind st.within next
    ∙ ap (clear_of (last_clear h s.cursor s.last) (s.last + 1)) (sym is) in
    let none : updates_between h (s.last + 1) (s.last + 1) ≡ [] =
    ap (own_from (s.last + 1)) (drop_all (s.last + 1) (take (s.last + 1) h)
    (omega (arith, length-take-le (s.last + 1) h (omega (arith, more))))) in
    record {
      mode = st.mode;
      some = st.some;
      size = st.size;
      base = st.base;
      last = ap (λ n. n + 1) st.last;
      cursor = st.cursor;
      ends = st.ends;
      based = st.based;
      behind = omega (arith, st.behind);
      within = omega (arith, more);
      enough = st.enough;
      first = st.first;
      rows = st.rows;
      cleared = ap (λ n. Some (n + 1)) st.last ∙ sym clear;
      kept = sym (drop_all (0 - s.plan.size) [] (omega arith))
          ∙ ap (last_of s.plan.size) (sym none ∙ ap (λ o. updates_between h (unwrap_or o s.cursor) (s.last + 1))
          (sym clear));
    }

-- after an enqueue
pub distinct_stands_next : (b : Distinct) (s : Slot) (h : List Entry) (x : Stored) → StandsDistinct b s h → IsNext s h x
    → StandsDistinct (distinct_after b x.event) (enqueued s) h
distinct_stands_next b s h x st next = distinct_next b s h x.event next.entry st next.more next.next next.event

-- the end of a snapshot
distinct_ended_stands : (b : Distinct) (s : Slot) (h : List Entry) → StandsDistinct b s h
    → StandsDistinct (distinct_ended b) (passed s taken.EndOfSnapshot) h
distinct_ended_stands b s h st =
    record {
      mode = st.mode;
      some = st.some;
      size = st.size;
      base = st.base;
      last = st.last;
      cursor = st.cursor;
      ends = refl;
      based = st.based;
      behind = st.behind;
      within = st.within;
      enough = omega arith;
      first = λ some. absurd (omega (arith, some));
      rows = sym (drop_all (length (recent_rows h s.plan.base) - 0) (recent_rows h s.plan.base) (omega arith));
      cleared = st.cleared;
      kept = st.kept;
    }

distinct_cleared : (b : Distinct) (s : Slot) (h : List Entry) (c : ℕ) (v : Bool) → StandsDistinct b s h
    → last_clear h s.cursor s.last ≡ Some c → b.ends ≡ v
    → StandsDistinct (cond v (distinct_ended b) (record b { cursor = c; cleared = None }))
    (passed s (cond v taken.EndOfSnapshot (taken.Cleared c))) h
distinct_cleared b s h c true st is t = distinct_ended_stands b s h st
distinct_cleared b s h c false st is t =
    let x : ClearIn h s.cursor s.last c = last_clear_is h s.cursor s.last c st.behind st.within is in
    record {
      mode = st.mode;
      some = st.some;
      size = st.size;
      base = st.base;
      last = st.last;
      cursor = refl;
      ends = st.ends;
      based = omega (arith, st.based, x.above);
      behind = x.reached;
      within = st.within;
      enough = st.enough;
      first = λ some. no_eos (sym t ∙ st.ends ∙ (st.first some).1);
      rows = st.rows;
      cleared = sym x.none;
      kept = st.kept ∙ ap (λ o. last_of s.plan.size (updates_between h (unwrap_or o s.cursor) s.last)) is
          ∙ ap (λ o. last_of s.plan.size (updates_between h (unwrap_or o c) s.last)) (sym x.none);
    }
  where
    no_eos : false ≡ true → (c ≡ s.plan.base) × (s.ends ≡ true)
    no_eos t = cc

distinct_row : (b : Distinct) (s : Slot) (h : List Entry) (row : List Value) → StandsDistinct b s h
    → last_clear h s.cursor s.last ≡ None → 0 < length b.rows
    → StandsDistinct (record b { rows = drop 1 b.rows; cursor = b.base }) (passed s (taken.Row row b.base)) h
distinct_row b s h row st is some =
    let owed : 0 < s.owed = omega (arith, some, rows_length b s h st) in
    let at : b.base ≡ s.cursor = st.base ∙ sym (st.first owed).0 in
    let xs : List (List Value) = recent_rows h s.plan.base in
    record {
      mode = st.mode;
      some = st.some;
      size = st.size;
      base = st.base;
      last = st.last;
      cursor = refl;
      ends = st.ends;
      based = omega (arith, st.base);
      behind = omega (arith, at, st.behind);
      within = st.within;
      enough = omega (arith, st.enough);
      first = λ more. (st.base, (st.first owed).1);
      rows = ap (drop 1) st.rows ∙ drop-drop 1 (length xs - s.owed) xs
          ∙ ap (λ k. drop k xs) {x = length xs - s.owed + 1} {y = length xs - (s.owed - 1)}
          (omega (arith, owed, st.enough));
      cleared = st.cleared ∙ ap (λ k. last_clear h k s.last) (sym at);
      kept = st.kept ∙ ap (λ k. last_of s.plan.size (updates_between h (clear_or h k s.last) s.last)) (sym at);
    }

distinct_update : (b : Distinct) (s : Slot) (h : List Entry) (u : OwnRow) → StandsDistinct b s h
    → last_clear h s.cursor s.last ≡ None → length b.rows ≡ 0 → slice_get b.kept 0 ≡ Some u
    → StandsDistinct (record b { kept = drop 1 b.kept; cursor = distinct_first_no b }) (passed s (taken.Row u.row u.no))
    h
distinct_update b s h u st is none at =
    let us : List OwnRow = updates_between h s.cursor s.last in
    let k : ℕ = length us - s.plan.size in
    let kept : b.kept ≡ drop k us =
    st.kept ∙ ap (λ o. last_of s.plan.size (updates_between h (unwrap_or o s.cursor) s.last)) is in
    let at_u : Left h s.cursor s.last k u = left_behind h s.cursor s.last k u st.behind st.within
    (sym (slice_get_drop k us) ∙ ap (λ z. slice_get z 0) (sym kept) ∙ at) in
    let above : s.cursor < u.no = at_u.above in
    let clear : last_clear h u.no s.last ≡ None = last_clear_none h s.cursor u.no s.last (omega (arith, above)) is in
    let short : length (drop (k + 1) us) ≤ s.plan.size = omega (arith, length-drop (k + 1) us) in
    let no_owed : s.owed ≡ 0 = omega (arith, none, rows_length b s h st) in
    record {
      mode = st.mode;
      some = st.some;
      size = st.size;
      base = st.base;
      last = st.last;
      cursor = ap (λ o. option_map_or (λ x. x.no) o 0) at;
      ends = st.ends;
      based = omega (arith, st.based, above);
      behind = at_u.reached;
      within = st.within;
      enough = omega (arith, st.enough);
      first = λ more. absurd (omega (arith, more, no_owed));
      rows = st.rows ∙ ap (λ n. last_of n (recent_rows h s.plan.base)) {x = s.owed} {y = s.owed - 1}
          (omega (arith, no_owed));
      cleared = st.cleared ∙ is ∙ sym clear;
      kept = ap (drop 1) kept ∙ drop-drop 1 k us ∙ sym (ap (λ n. drop n (drop (k + 1) us))
          {x = length (drop (k + 1) us) - s.plan.size} {y = 0} (omega (arith, short)))
          ∙ ap (last_of s.plan.size) (sym at_u.after ∙ ap (λ o. updates_between h (unwrap_or o u.no) s.last)
          (sym clear));
    }

passed_rest : (b : Distinct) (s : Slot) (h : List Entry) (t : Taken) (o : Option OwnRow) → StandsDistinct b s h
    → last_clear h s.cursor s.last ≡ None → length b.rows ≡ 0 → slice_get b.kept 0 ≡ o → option_map row_taken o ≡ Some t
    → StandsDistinct (record b { kept = drop 1 b.kept; cursor = distinct_first_no b }) (passed s t) h
passed_rest b s h t None st is none at tells = cc
passed_rest b s h t (Some u) st is none at tells =
    subst (λ x. StandsDistinct (record b { kept = drop 1 b.kept; cursor = distinct_first_no b }) (passed s x) h)
    (ap (λ o. unwrap_or o t) tells) (distinct_update b s h u st is none at)

passed_unclear : (b : Distinct) (s : Slot) (h : List Entry) (t : Taken) (v w : Bool) → StandsDistinct b s h
    → last_clear h s.cursor s.last ≡ None → nat_lt 0 (length b.rows) ≡ v → b.ends ≡ w
    → cond v (option_map (λ row. taken.Row row b.base) (slice_get b.rows 0))
    (cond w (Some taken.EndOfSnapshot) (option_map row_taken (slice_get b.kept 0))) ≡ Some t
    → StandsDistinct (cond v (record b { rows = drop 1 b.rows; cursor = b.base })
    (cond w (distinct_ended b) (record b { kept = drop 1 b.kept; cursor = distinct_first_no b }))) (passed s t) h
passed_unclear b s h t true w st is i j tells = by_row (slice_get b.rows 0) tells
  where
    by_row : (o : Option (List Value)) → option_map (λ row. taken.Row row b.base) o ≡ Some t
        → StandsDistinct (record b { rows = drop 1 b.rows; cursor = b.base }) (passed s t) h
    by_row None tells = cc
    by_row (Some row) tells =
        subst (λ x. StandsDistinct (record b { rows = drop 1 b.rows; cursor = b.base }) (passed s x) h)
        (ap (λ o. unwrap_or o t) tells) (distinct_row b s h row st is (ltb-true 0 (length b.rows) i))
passed_unclear b s h t false true st is i j tells = subst (λ x. StandsDistinct (distinct_ended b) (passed s x) h)
    (ap (λ o. unwrap_or o t) tells) (distinct_ended_stands b s h st)
passed_unclear b s h t false false st is i j tells = passed_rest b s h t (slice_get b.kept 0) st is
    (omega (arith, ltb-false 0 (length b.rows) i)) refl tells

some_cond : {A : Type 0} (v : Bool) (x y t : A) → cond v (Some x) (Some y) ≡ Some t → cond v x y ≡ t
some_cond true x y t h = ap (λ o. unwrap_or o t) h
some_cond false x y t h = ap (λ o. unwrap_or o t) h

passed_from : (b : Distinct) (s : Slot) (h : List Entry) (t : Taken) (o : Option ℕ) → StandsDistinct b s h
    → last_clear h s.cursor s.last ≡ o → distinct_head_of b o ≡ Some t
    → StandsDistinct (distinct_passed_of b o) (passed s t) h
passed_from b s h t (Some c) st is tells =
    subst (λ x. StandsDistinct (cond b.ends (distinct_ended b) (record b { cursor = c; cleared = None }))
    (passed s x) h) (some_cond b.ends taken.EndOfSnapshot (taken.Cleared c) t tells)
    (distinct_cleared b s h c b.ends st is refl)
passed_from b s h t None st is tells = passed_unclear b s h t (nat_lt 0 (length b.rows)) b.ends st is refl refl tells

-- after a cut
pub distinct_stands_passed : (b : Distinct) (s : Slot) (h : List Entry) (t : Taken) → StandsDistinct b s h
    → distinct_head b ≡ Some t → StandsDistinct (distinct_passed b) (passed s t) h
distinct_stands_passed b s h t st tells = passed_from b s h t b.cleared st (sym st.cleared) tells

-- at joining
distinct_fresh : (p : Plan) (h : List Entry) (rows : List (List Value)) (owed : ℕ) (ends : Bool)
    → p.mode ≡ mode.Distinct → 0 < p.size → p.base ≡ length h → owed ≤ length (recent_rows h (length h))
    → (0 < owed → ends ≡ true)
    → rows ≡ last_of owed (recent_rows h (length h))
    → StandsDistinct (record {
      size = p.size;
      base = p.base;
      last = p.base;
      cursor = p.base;
      ends = ends;
      cleared = None;
      rows = rows;
      kept = [];
    }) (record (fresh p p.base) { owed = owed; ends = ends }) h
distinct_fresh p h rows owed ends is some at enough first same =
    let none : between h p.base p.base ≡ [] = drop_all p.base (take p.base h)
    (omega (arith, at, length-take-le p.base h (omega (arith, at)))) in
    let clear : last_clear h p.base p.base ≡ None = ap (clear_from None p.base) none in
    record {
      mode = is;
      some = some;
      size = refl;
      base = refl;
      last = refl;
      cursor = refl;
      ends = refl;
      based = omega arith;
      behind = omega arith;
      within = omega (arith, at);
      enough = subst (λ (n : ℕ). owed ≤ length (recent_rows h n)) (sym at) enough;
      first = λ more. (refl, first more);
      rows = same ∙ ap (λ n. last_of owed (recent_rows h n)) (sym at);
      cleared = sym clear;
      kept = sym (drop_all (0 - p.size) [] (omega arith)) ∙ ap (last_of p.size)
          (sym (ap (own_from p.base) none) ∙ ap (λ o. updates_between h (unwrap_or o p.base) p.base) (sym clear));
    }

pub distinct_joins : (base n : ℕ) (first : Option Snapshot) (many : ℕ) (p : Plan) (h : List Entry) → 0 < n
    → IsJoining base n p h → IsSnapshotOf h first many → StandsDistinct (distinct_joining base n first many)
    (distinct_joined_slot p first many) h
distinct_joins base n None many p h some j none =
    subst (λ (k : ℕ). StandsDistinct (distinct_joining k n None many) (fresh p p.base) h) j.base
    (subst (λ (k : ℕ). StandsDistinct (distinct_joining p.base k None many) (fresh p p.base) h) j.size
    (distinct_fresh p h (last_of many []) 0 false j.mode (omega (arith, some, j.size)) (j.base ∙ j.whole) (omega arith)
    (λ more. absurd (omega (arith, more)))
    (drop_all (0 - many) [] (omega arith) ∙ sym (drop_all (length (recent_rows h (length h)) - 0)
    (recent_rows h (length h)) (omega arith)))))
distinct_joins base n (Some first) many p h some j state =
    subst (λ (k : ℕ). StandsDistinct (distinct_joining k n (Some first) many) (fresh_with p many) h) j.base
    (subst (λ (k : ℕ). StandsDistinct (distinct_joining p.base k (Some first) many) (fresh_with p many) h) j.size
    (distinct_fresh p h (last_of many (distinct_rows (Some first))) many true j.mode (omega (arith, some, j.size))
    (j.base ∙ j.whole) state.1 (λ more. refl) (ap (last_of many) state.0)))

-- each row has so many fields

-- an update's row has so many values
abbrev HasWidth : ℕ → OwnRow → Type 0
HasWidth n u = length u.row ≡ n

-- a row has so many values
abbrev Wide : ℕ → List Value → Type 0
Wide n row = length row ≡ n

-- the rows of the snapshot and those of the updates
pub record AreRowsWide (n : ℕ) (b : Distinct) : Type 0 where
  pub rows : All (λ row. length row ≡ n) b.rows
  pub kept : All (λ u. length u.row ≡ n) b.kept

pub after_wide : (n : ℕ) (b : Distinct) (event : Event) → AreRowsWide n b → HasFields n event
    → AreRowsWide n (distinct_after b event)
after_wide n b (Update cells) all fits =
    let u : OwnRow = record { row = own_row cells; no = b.last + 1 } in
    record {
      rows = all.rows;
      kept = All-drop (HasWidth n) (length (b.kept ++ u ∷ []) - b.size) (b.kept ++ u ∷ [])
          (All-append (HasWidth n) b.kept (u ∷ []) all.kept (all_one (HasWidth n) u
          (length-map cells own_value ∙ fits)));
    }
after_wide n b Clear all fits = record { rows = all.rows; kept = All-nil (HasWidth n) }

ended_wide : (n : ℕ) (b : Distinct) → AreRowsWide n b → AreRowsWide n (distinct_ended b)
ended_wide n b all = record { rows = All-nil (Wide n); kept = all.kept }

pub passed_wide : (n : ℕ) (b : Distinct) → AreRowsWide n b → AreRowsWide n (distinct_passed b)
passed_wide n b all = by_clear b.cleared
  where
    by_ends : (c : ℕ) (v : Bool) → AreRowsWide n (cond v (distinct_ended b) (record b { cursor = c; cleared = None }))
    by_ends c true = ended_wide n b all
    by_ends c false = record { rows = all.rows; kept = all.kept }

    by_rest : (v : Bool)
        → AreRowsWide n (cond v (distinct_ended b) (record b { kept = drop 1 b.kept; cursor = distinct_first_no b }))
    by_rest true = ended_wide n b all
    by_rest false = record { rows = all.rows; kept = All-drop (HasWidth n) 1 b.kept all.kept }

    by_rows : (v : Bool)
        → AreRowsWide n (cond v (record b { rows = drop 1 b.rows; cursor = b.base })
        (cond b.ends (distinct_ended b) (record b { kept = drop 1 b.kept; cursor = distinct_first_no b })))
    by_rows true = record { rows = All-drop (Wide n) 1 b.rows all.rows; kept = all.kept }
    by_rows false = by_rest b.ends

    by_clear : (o : Option ℕ) → AreRowsWide n (distinct_passed_of b o)
    by_clear (Some c) = by_ends c b.ends
    by_clear None = by_rows (nat_lt 0 (length b.rows))

pub head_fits : (n : ℕ) (b : Distinct) → AreRowsWide n b → Fits n (distinct_head b)
head_fits n b all = by_clear b.cleared
  where
    by_ends : (c : ℕ) (v : Bool) → Fits n (cond v (Some taken.EndOfSnapshot) (Some (taken.Cleared c)))
    by_ends c true = tt
    by_ends c false = tt

    by_kept : (o : Option OwnRow) → slice_get b.kept 0 ≡ o → Fits n (option_map row_taken o)
    by_kept None is = tt
    by_kept (Some u) is = all_at (HasWidth n) b.kept 0 u all.kept is

    by_row : (o : Option (List Value)) → slice_get b.rows 0 ≡ o → Fits n (option_map (λ row. taken.Row row b.base) o)
    by_row None is = tt
    by_row (Some row) is = all_at (Wide n) b.rows 0 row all.rows is

    by_rest : (v : Bool) → Fits n (cond v (Some taken.EndOfSnapshot) (option_map row_taken (slice_get b.kept 0)))
    by_rest true = tt
    by_rest false = by_kept (slice_get b.kept 0) refl

    by_rows : (v : Bool)
        → Fits n (cond v (option_map (λ row. taken.Row row b.base) (slice_get b.rows 0))
        (cond b.ends (Some taken.EndOfSnapshot) (option_map row_taken (slice_get b.kept 0))))
    by_rows true = by_row (slice_get b.rows 0) refl
    by_rows false = by_rest b.ends

    by_clear : (o : Option ℕ) → Fits n (distinct_head_of b o)
    by_clear (Some c) = by_ends c b.ends
    by_clear None = by_rows (nat_lt 0 (length b.rows))
