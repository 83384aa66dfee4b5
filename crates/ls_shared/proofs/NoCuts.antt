-- Of a slot that has no cut nothing is pending, a rest of Clears in mode RAW aside.
use Rattle.std.proofs.Common.{◌≡◌, ◌≤◌, ◌<◌, ◌⊎◌, ℕ, zero, suc, ◌+◌, ◌-◌, List, [], ◌∷◌, ◌++◌, length, take, map, Bool, true, false, ◌||◌, inl, inr}
use Rattle.std.proofs.Common.{Option, None, Some, is_some, refl, sym, ap, subst, arith, cond, ◌∙◌, slice_get, option_map, nat_lt, min}
use Rattle.std.proofs.lemmas.Bool.{ltb-true, ltb-false}
use Rattle.ls_event.specs.declared.event.Entry.{Entry}
use Rattle.ls_event.specs.declared.event.Event.{Event}
use Rattle.ls_event.specs.declared.event.Event.TheVariants.{Update, Clear}
use Rattle.ls_event.specs.declared.event.Mode.{Mode}
use Rattle.ls_event.specs.declared.event.Mode.TheVariants as mode
use Rattle.ls_event.specs.declared.event.Taken.{Taken}
use Rattle.ls_event.specs.declared.event.Taken.TheVariants as taken
use Rattle.ls_event.specs.declared.updates.OwnRow.{OwnRow}
use Rattle.ls_event.specs.Cuts.{cut, cut_of, change_to, next_cursor, is_behind, is_pending, pending_of, merge_cut}
use Rattle.ls_event.specs.CommandCuts.{command_cut}
use Rattle.ls_event.specs.History.{between}
use Rattle.ls_event.specs.Joining.{plan_of, joined, joined_in, rows_asked}
use Rattle.ls_event.specs.OwnCuts.{distinct_cut, distinct_cut_by, first_of_last, row_taken}
use Rattle.ls_event.specs.Shapes.{Shape}
use Rattle.ls_event.specs.Slots.{Plan, Slot}
use Rattle.ls_event.specs.Updates.{last_clear, last_of, clear_of, clear_from, own_of, own_from, recent_rows, updates_between}
use Rattle.ls_event.proofs.LongerCuts.{by_cut, passed_at, slot_after}
use Rattle.ls_event.proofs.UpdatesBetween.{between_length, last_of_length, no_clear}
use Rattle.ls_cell.proofs.Passing.{passed_plan}
use Rattle.ls_lawful.specs.DistinctMode.{DistinctLines, LawfulDistinct}
use Rattle.ls_lawful.specs.Lawful.{LawfulOf, LawfulSlot}
use Rattle.ls_record.specs.Came.{Came}
use Rattle.ls_record.specs.Cutting.{Wanted}
use Rattle.ls_seated.specs.declared.planned.Planned.{Planned}
use Rattle.ls_seated.specs.Seats.{IsAt, begun}
use Rattle.ls_cell.proofs.Arrivals.{joined_plan}
use Rattle.ls_told.specs.Turns.{HasNothing}

-- what one of three tests says
behind_by : (a b c : Bool) → (a || b || c) ≡ true → (a ≡ true) ⊎ ((b ≡ true) ⊎ (c ≡ true))
behind_by true b c is = inl refl
behind_by false true c is = inr (inl refl)
behind_by false false c is = inr (inr is)

got_none : {A B : Type 0} (f : A → B) (xs : List A) (k : ℕ) → option_map f (slice_get xs k) ≡ None → length xs ≤ k
got_none f [] k is = omega arith
got_none f (x ∷ xs) zero is = absurd (let e : Some (f x) ≡ None = is in cc)
got_none f (x ∷ xs) (suc k) is = omega (arith, got_none f xs k is)

-- entries without a Clear are updates
all_updates : (n : ℕ) (es : List Entry) → clear_from None n es ≡ None → length (own_from n es) ≡ length es
all_updates n [] none = refl
all_updates n (e ∷ es) none = by_event e.event refl (all_updates (n + 1) es)
  where
    by_event : (event : Event) → e.event ≡ event → (clear_from None (n + 1) es ≡ None → length (own_from (n + 1) es) ≡ length es)
        → length (own_from n (e ∷ es)) ≡ suc (length es)
    by_event (Update cells) is rest =
        ap (λ (v : Event). length (own_of (n + 1) v ++ own_from (n + 1) es)) is
        ∙ ap suc (rest (sym (ap (λ (v : Event). clear_from (clear_of None (n + 1) v) (n + 1) es) is) ∙ none))
    by_event Clear is rest =
        let cleared = no_clear (Some (n + 1)) (n + 1) (n + 1) es
        (sym (ap (λ (v : Event). clear_from (clear_of None (n + 1) v) (n + 1) es) is) ∙ none) in
        absurd (let e : Some (n + 1) ≡ None = cleared.0 in cc)

-- mode DISTINCT: no more rows are owed than there are
owed_few : (h : List Entry) (w : Wanted) (s : Slot) (cs : List Came) (o : Option ℕ) (ends : Bool) → DistinctLines h w s cs o ends
    → s.owed ≤ length (recent_rows h s.plan.base)
owed_few h w s cs None true l = absurd l
owed_few h w s cs None false l = omega (arith, l.0)
owed_few h w s cs (Some asked) true l = omega (arith, l.rest, last_of_length asked (recent_rows h s.plan.base))
owed_few h w s cs (Some asked) false l = omega (arith, l.0)

module _ (h : List Entry) (w : Wanted) (s : Slot) (cs : List Came) (l : LawfulDistinct h w s cs) where
  last_behind : last_clear h s.cursor s.last ≡ None
      → option_map row_taken (first_of_last s.plan.size (updates_between h s.cursor s.last)) ≡ None → s.last ≤ s.cursor
  last_behind clear none =
      let few = got_none row_taken (updates_between h s.cursor s.last) (length (updates_between h s.cursor s.last) - s.plan.size) none in
      omega (arith, few, l.some, all_updates s.cursor (between h s.cursor s.last) clear, between_length h s.cursor s.last l.within)

  by_ends : (a b : Bool) → s.ends ≡ a → nat_lt 0 s.owed ≡ b → last_clear h s.cursor s.last ≡ None
      → cond b (option_map (λ row. taken.Row row s.plan.base) (first_of_last s.owed (recent_rows h s.plan.base)))
      (cond a (Some taken.EndOfSnapshot) (option_map row_taken (first_of_last s.plan.size (updates_between h s.cursor s.last)))) ≡ None
      → is_behind s ≡ true → ⊥
  by_ends a true ends owed clear none behind =
      omega (
        arith,
        got_none (λ row. taken.Row row s.plan.base) (recent_rows h s.plan.base) (length (recent_rows h s.plan.base) - s.owed) none,
        owed_few h w s cs w.snapshot s.ends l.lines,
        ltb-true 0 s.owed owed,
      )
  by_ends true false ends owed clear none behind = absurd (let e : Some taken.EndOfSnapshot ≡ None = none in cc)
  by_ends false false ends owed clear none behind = by_cause (behind_by (nat_lt 0 s.owed) s.ends (nat_lt s.cursor s.last) behind)
    where
      by_cause : (nat_lt 0 s.owed ≡ true) ⊎ ((s.ends ≡ true) ⊎ (nat_lt s.cursor s.last ≡ true)) → ⊥
      by_cause (inl owes) = absurd (let e : true ≡ false = sym owes ∙ owed in cc)
      by_cause (inr (inl is)) = absurd (let e : true ≡ false = sym is ∙ ends in cc)
      by_cause (inr (inr less)) = omega (arith, ltb-true s.cursor s.last less, last_behind clear none)

  distinct_none : distinct_cut h s ≡ None → is_behind s ≡ true → ⊥
  distinct_none none behind = by_clear (last_clear h s.cursor s.last) refl none
    where
      cleared : (c : ℕ) (ends : Bool) → cond ends (Some taken.EndOfSnapshot) (Some (taken.Cleared c)) ≡ None → ⊥
      cleared c true is = absurd (let e : Some taken.EndOfSnapshot ≡ None = is in cc)
      cleared c false is = absurd (let e : Some (taken.Cleared c) ≡ None = is in cc)

      by_clear : (o : Option ℕ) → last_clear h s.cursor s.last ≡ o → distinct_cut_by h s o ≡ None → ⊥
      by_clear (Some c) is cuts = cleared c s.ends cuts
      by_clear None is cuts = by_ends s.ends (nat_lt 0 s.owed) refl refl is cuts behind

-- mode MERGE
merge_none : (h : List Entry) (s : Slot) → (s.owed ≡ 0) × (s.ends ≡ false) → merge_cut h s ≡ None → is_behind s ≡ true → ⊥
merge_none h s kept none behind = by_cause (behind_by (nat_lt 0 s.owed) s.ends (nat_lt s.cursor s.last) behind)
  where
    by_cut : (b : Bool) → nat_lt s.cursor s.last ≡ b → cond b (Some (change_to h s (next_cursor s))) None ≡ None → b ≡ true → ⊥
    by_cut true is cuts less = absurd (let e : Some (change_to h s (next_cursor s)) ≡ None = cuts in cc)
    by_cut false is cuts less = absurd (let e : false ≡ true = less in cc)

    by_cause : (nat_lt 0 s.owed ≡ true) ⊎ ((s.ends ≡ true) ⊎ (nat_lt s.cursor s.last ≡ true)) → ⊥
    by_cause (inl owes) = omega (arith, ltb-true 0 s.owed owes, kept.0)
    by_cause (inr (inl is)) = absurd (let e : true ≡ false = sym is ∙ kept.1 in cc)
    by_cause (inr (inr less)) = by_cut (nat_lt s.cursor s.last) refl none less

pub nothing_left : (h : List Entry) (w : Wanted) (s : Slot) (cs : List Came) → LawfulSlot h w s cs
    → (s.plan.mode ≡ mode.Merge → (s.owed ≡ 0) × (s.ends ≡ false)) → cut h s ≡ None → HasNothing h s
nothing_left h w s cs l merge none = λ pends. (by_mode s.plan.mode refl l none pends, none)
  where
    by_mode : (m : Mode) → s.plan.mode ≡ m → LawfulOf m h w s cs → cut_of m h s ≡ None → pending_of m h s ≡ true → s.plan.mode ≡ mode.Raw
    by_mode mode.Raw is l none pends = is
    by_mode mode.Merge is l none pends = absurd (merge_none h s (merge is) none pends)
    by_mode mode.Distinct is l none pends = absurd (distinct_none h w s cs l none pends)
    by_mode mode.Command is l none pends = absurd (let e : false ≡ true = sym (ap is_some none) ∙ pends in cc)

-- a slot of mode MERGE that joined an item owes no row and no end
joined_merge : (m : Mode) (p : Plan) (h : List Entry) (asked : Option ℕ) → m ≡ mode.Merge
    → ((joined_in m p h asked).owed ≡ 0) × ((joined_in m p h asked).ends ≡ false)
joined_merge mode.Merge p h asked is = (refl, refl)
joined_merge mode.Raw p h asked is = absurd (let e : mode.Raw ≡ mode.Merge = is in cc)
joined_merge mode.Distinct p h asked is = absurd (let e : mode.Distinct ≡ mode.Merge = is in cc)
joined_merge mode.Command p h asked is = absurd (let e : mode.Command ≡ mode.Merge = is in cc)

-- nor does it after cuts
cut_plan : (s : Slot) (o : Option Taken) → (by_cut s o).plan ≡ s.plan
cut_plan s None = refl
cut_plan s (Some t) = passed_plan s t

cut_merge : (h : List Entry) (s : Slot) (m : Mode) → m ≡ mode.Merge → (s.owed ≡ 0) × (s.ends ≡ false)
    → ((by_cut s (cut_of m h s)).owed ≡ 0) × ((by_cut s (cut_of m h s)).ends ≡ false)
cut_merge h s mode.Merge is kept = by_test (nat_lt s.cursor s.last)
  where
    by_test : (b : Bool) → ((by_cut s (cond b (Some (change_to h s (next_cursor s))) None)).owed ≡ 0)
        × ((by_cut s (cond b (Some (change_to h s (next_cursor s))) None)).ends ≡ false)
    by_test true = kept
    by_test false = kept
cut_merge h s mode.Raw is kept = absurd (let e : mode.Raw ≡ mode.Merge = is in cc)
cut_merge h s mode.Distinct is kept = absurd (let e : mode.Distinct ≡ mode.Merge = is in cc)
cut_merge h s mode.Command is kept = absurd (let e : mode.Command ≡ mode.Merge = is in cc)

after_merge : (h : List Entry) (s : Slot) (ls : List ℕ) → s.plan.mode ≡ mode.Merge → (s.owed ≡ 0) × (s.ends ≡ false)
    → ((slot_after h s ls).owed ≡ 0) × ((slot_after h s ls).ends ≡ false)
after_merge h s [] is kept = kept
after_merge h s (l ∷ ls) is kept =
    after_merge h (passed_at h l s) ls (ap (λ (p : Plan). p.mode) (cut_plan (record s { last = l }) (cut h (record s { last = l }))) ∙ is)
    (cut_merge h (record s { last = l }) s.plan.mode is kept)

after_plan : (h : List Entry) (s : Slot) (ls : List ℕ) → (slot_after h s ls).plan ≡ s.plan
after_plan h s [] = refl
after_plan h s (l ∷ ls) = after_plan h (passed_at h l s) ls ∙ cut_plan (record s { last = l }) (cut h (record s { last = l }))

begun_plan : (p : Shape) (h : List Entry) (q : Planned) → (begun p h q).plan ≡ plan_of p (take q.base h) q.mode q.size
begun_plan p h q = joined_plan q.mode (plan_of p (take q.base h) q.mode q.size) (take q.base h) (rows_asked q.snapshot)

pub merge_owes : (p : Shape) (h : List Entry) (q : Planned) (list : List ℕ) (s : Slot) → IsAt p h q list s → s.plan.mode ≡ mode.Merge
    → (s.owed ≡ 0) × (s.ends ≡ false)
merge_owes p h q list s a is =
    let plan = after_plan h (begun p h q) list ∙ begun_plan p h q in
    let mode_is : q.mode ≡ mode.Merge = sym (ap (λ (x : Plan). x.mode) (ap (λ (x : Slot). x.plan) a.slot ∙ plan)) ∙ is in
    let kept = after_merge h (begun p h q) list (ap (λ (x : Plan). x.mode) (begun_plan p h q) ∙ mode_is)
    (joined_merge q.mode (plan_of p (take q.base h) q.mode q.size) (take q.base h) (rows_asked q.snapshot) mode_is) in (
      ap (λ (x : Slot). x.owed) a.slot ∙ kept.0,
      ap (λ (x : Slot). x.ends) a.slot ∙ kept.1,
    )
