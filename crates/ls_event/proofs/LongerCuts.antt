-- What a slot tells doesn't rest on what was published after its last enqueued event.
use Rattle.std.proofs.Common.{◌≡◌, ℕ, ◌<◌, ◌≤◌, List, [], ◌∷◌, ◌++◌, length, map, refl, ◌∙◌, ap, arith, Bool, true, false, not, cond, Option, Some, None}
use Rattle.std.proofs.Common.{nat_lt, is_some, unwrap_or, option_map, slice_get, replicate, ◌&&◌, ◌==◌}
use Rattle.std.proofs.lemmas.List.{take-append-le}
use Rattle.std.proofs.lemmas.Bool.{ltb-true}
use Rattle.ls_event.specs.declared.event.Entry.{Entry}
use Rattle.ls_event.specs.declared.event.Mode.{Mode}
use Rattle.ls_event.specs.declared.event.Mode.TheVariants as mode
use Rattle.ls_event.specs.declared.event.Taken.{Taken}
use Rattle.ls_event.specs.declared.event.Taken.TheVariants as taken
use Rattle.ls_event.specs.declared.limits.TheConstants.{MOST_SNAPSHOT_ROWS}
use Rattle.ls_event.specs.History.{between, merged}
use Rattle.ls_event.specs.Slots.{Slot, passed}
use Rattle.ls_event.specs.Updates.{last_of, updates_between, recent_rows, last_clear, clear_from, clear_or}
use Rattle.ls_event.specs.Keyed.{keyed, keyed_after_all, row_at}
use Rattle.ls_event.specs.OwnCuts.{raw_cut_of, distinct_cut_by, first_of_last, row_taken}
use Rattle.ls_event.specs.CommandCuts.{queue_from, queue_since, owed_keys, command_queue, key_taken, command_cut_by}
use Rattle.ls_event.specs.Cuts.{cut, cut_of, change_to, next_cursor, flagged_cells, touched_after_all, is_pending, pending_of}
use Rattle.ls_event.proofs.Cuts.{between-append}
use Rattle.ls_event.proofs.Merged.{merged-append}
use Rattle.ls_event.proofs.UpdatesBetween.{updates_between-append}

last_clear-append : (h more : List Entry) (p l : ℕ) → l ≤ length h → last_clear (h ++ more) p l ≡ last_clear h p l
last_clear-append h more p l within = ap (clear_from None p) (between-append h more p l within)

recent-append : (h more : List Entry) (i : ℕ) → i ≤ length h → recent_rows (h ++ more) i ≡ recent_rows h i
recent-append h more i within =
    ap (λ k. last_of MOST_SNAPSHOT_ROWS (map (λ u. u.row) (updates_between (h ++ more) k i)))
    (ap (λ o. unwrap_or o 0) (last_clear-append h more 0 i within))
    ∙ ap (λ z. last_of MOST_SNAPSHOT_ROWS (map (λ u. u.row) z))
    (updates_between-append h more (clear_or h 0 i) i within)

-- the history has all events that were enqueued, and a size counts at least one
pub record Reaches (h : List Entry) (s : Slot) : Type 0 where
  pub some : 0 < s.plan.size
  pub based : s.plan.base ≤ length h
  pub within : s.last ≤ length h

merge_longer : (h more : List Entry) (s : Slot) → Reaches h s → cut_of mode.Merge (h ++ more) s ≡ cut_of mode.Merge h s
merge_longer h more s r = by_test (nat_lt s.cursor s.last) refl
  where
    by_test : (b : Bool) → nat_lt s.cursor s.last ≡ b
        → cond b (Some (change_to (h ++ more) s (next_cursor s))) None ≡ cond b (Some (change_to h s (next_cursor s))) None
    by_test false t = refl
    by_test true t =
        let low : s.cursor < s.last = ltb-true s.cursor s.last t in
        let high : next_cursor s ≤ length h = omega (arith, low, r.some, r.within) in
        ap (λ es. Some (taken.Change (flagged_cells (touched_after_all (replicate s.plan.shape.fields (not s.has_started)) es)
        (merged s.plan.shape.fields (h ++ more) (next_cursor s))) (next_cursor s)))
        (between-append h more s.cursor (next_cursor s) high)
        ∙ ap (λ row. Some (taken.Change (flagged_cells (touched_after_all (replicate s.plan.shape.fields (not s.has_started))
        (between h s.cursor (next_cursor s))) row) (next_cursor s)))
        (merged-append s.plan.shape.fields h more (next_cursor s) high)

distinct_longer : (h more : List Entry) (s : Slot) → Reaches h s → cut_of mode.Distinct (h ++ more) s ≡ cut_of mode.Distinct h s
distinct_longer h more s r =
    ap (distinct_cut_by (h ++ more) s) (last_clear-append h more s.cursor s.last r.within) ∙ by_clear (last_clear h s.cursor s.last)
  where
    by_clear : (o : Option ℕ) → distinct_cut_by (h ++ more) s o ≡ distinct_cut_by h s o
    by_clear (Some c) = refl
    by_clear None =
        ap (λ rows. cond (nat_lt 0 s.owed) (option_map (λ row. taken.Row row s.plan.base) (first_of_last s.owed rows))
        (cond s.ends (Some taken.EndOfSnapshot)
        (option_map row_taken (first_of_last s.plan.size (updates_between (h ++ more) s.cursor s.last)))))
        (recent-append h more s.plan.base r.based)
        ∙ ap (λ us. cond (nat_lt 0 s.owed) (option_map (λ row. taken.Row row s.plan.base) (first_of_last s.owed (recent_rows h s.plan.base)))
        (cond s.ends (Some taken.EndOfSnapshot) (option_map row_taken (first_of_last s.plan.size us))))
        (updates_between-append h more s.cursor s.last r.within)

queue_longer : (h more : List Entry) (s : Slot) → Reaches h s → command_queue (h ++ more) s ≡ command_queue h s
queue_longer h more s r =
    let clear = last_clear-append h more s.cursor s.last r.within in
    let from : ℕ = clear_or h s.cursor s.last in
    let base : keyed s.plan.shape (h ++ more) s.plan.base ≡ keyed s.plan.shape h s.plan.base =
    ap (keyed_after_all s.plan.shape []) (take-append-le s.plan.base h more r.based) in
    let since : (q : List (List ℕ)) → queue_since (h ++ more) s q ≡ queue_since h s q =
    λ q. ap (λ o. queue_from s q (unwrap_or o s.cursor) (between (h ++ more) (unwrap_or o s.cursor) s.last)) clear
    ∙ ap (queue_from s q from) (between-append h more from s.last r.within) in
    let owed : owed_keys (h ++ more) s ≡ owed_keys h s =
    ap (λ o. cond (is_some o) [] (last_of s.owed (map (λ k. k.key) (keyed s.plan.shape (h ++ more) s.plan.base)))) clear
    ∙ ap (λ ks. cond (is_some (last_clear h s.cursor s.last)) [] (last_of s.owed (map (λ k. k.key) ks))) base in
    since (owed_keys (h ++ more) s) ∙ ap (queue_since h s) owed

command_longer : (h more : List Entry) (s : Slot) → Reaches h s → cut_of mode.Command (h ++ more) s ≡ cut_of mode.Command h s
command_longer h more s r =
    ap (command_cut_by (h ++ more) s) (last_clear-append h more s.cursor s.last r.within) ∙ by_clear (last_clear h s.cursor s.last)
  where
    now : keyed s.plan.shape (h ++ more) s.last ≡ keyed s.plan.shape h s.last
    now = ap (keyed_after_all s.plan.shape []) (take-append-le s.last h more r.within)

    by_clear : (o : Option ℕ) → command_cut_by (h ++ more) s o ≡ command_cut_by h s o
    by_clear (Some c) = refl
    by_clear None =
        ap (λ q. cond (s.ends && (s.owed == 0)) (Some taken.EndOfSnapshot) (option_map (key_taken (h ++ more) s) (slice_get q 0))) (queue_longer h more s r)
        ∙ ap (λ ks. cond (s.ends && (s.owed == 0)) (Some taken.EndOfSnapshot)
        (option_map (λ key. taken.Key key (row_at key ks) s.last) (slice_get (command_queue h s) 0))) now

-- each mode's
pub cut_longer : (h more : List Entry) (s : Slot) → Reaches h s → cut (h ++ more) s ≡ cut h s
cut_longer h more s r = by_mode s.plan.mode
  where
    by_mode : (m : Mode) → cut_of m (h ++ more) s ≡ cut_of m h s
    by_mode mode.Raw = ap raw_cut_of (updates_between-append h more s.cursor s.last r.within)
    by_mode mode.Merge = merge_longer h more s r
    by_mode mode.Distinct = distinct_longer h more s r
    by_mode mode.Command = command_longer h more s r

pub pending_longer : (h more : List Entry) (s : Slot) → Reaches h s → is_pending (h ++ more) s ≡ is_pending h s
pending_longer h more s r = by_mode s.plan.mode
  where
    by_mode : (m : Mode) → pending_of m (h ++ more) s ≡ pending_of m h s
    by_mode mode.Raw = refl
    by_mode mode.Merge = refl
    by_mode mode.Distinct = refl
    by_mode mode.Command = ap is_some (command_longer h more s r)

-- the cut at a number is passed
abbrev pub by_cut : Slot → Option Taken → Slot
by_cut s None = s
by_cut s (Some t) = passed s t

abbrev pub passed_at : List Entry → ℕ → Slot → Slot
passed_at h l s = by_cut (record s { last = l }) (cut h (record s { last = l }))

-- a slot after its cuts, each at the number that was enqueued last then
abbrev pub slot_after : List Entry → Slot → List ℕ → Slot
slot_after h s [] = s
slot_after h s (l ∷ ls) = slot_after h (passed_at h l s) ls

-- each number is within the list
abbrev pub EachWithin : ℕ → List ℕ → Type 0
EachWithin n [] = Unit {0}
EachWithin n (l ∷ ls) = (l ≤ n) × EachWithin n ls

passed_at_plan : (h : List Entry) (l : ℕ) (s : Slot) → (passed_at h l s).plan ≡ s.plan
passed_at_plan h l s = by_taken (cut h (record s { last = l }))
  where
    by_taken : (o : Option Taken) → (by_cut (record s { last = l }) o).plan ≡ s.plan
    by_taken None = refl
    by_taken (Some (taken.Row row upto)) = refl
    by_taken (Some (taken.Lost count upto)) = refl
    by_taken (Some (taken.Change cells upto)) = refl
    by_taken (Some (taken.Key key row upto)) = refl
    by_taken (Some (taken.Cleared upto)) = refl
    by_taken (Some taken.EndOfSnapshot) = refl

pub slot_after_longer : (h more : List Entry) (s : Slot) (ls : List ℕ) → 0 < s.plan.size → s.plan.base ≤ length h → EachWithin (length h) ls
    → slot_after (h ++ more) s ls ≡ slot_after h s ls
slot_after_longer h more s [] some based within = refl
slot_after_longer h more s (l ∷ ls) some based within =
    let same : passed_at (h ++ more) l s ≡ passed_at h l s =
    ap (by_cut (record s { last = l })) (cut_longer h more (record s { last = l }) (record { some = some; based = based; within = within.0 })) in
    let plan = passed_at_plan h l s in
    ap (λ (x : Slot). slot_after (h ++ more) x ls) same
    ∙ slot_after_longer h more (passed_at h l s) ls (omega (arith, some, ap (λ p. p.size) plan)) (omega (arith, based, ap (λ p. p.base) plan)) within.1
