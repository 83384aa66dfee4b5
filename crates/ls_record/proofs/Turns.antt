-- A turn that tells nothing leaves no cut.
use Rattle.std.proofs.Common.{◌≡◌, ◌==◌, ◌⊎◌, inl, inr, ℕ, zero, suc, ◌+◌, ◌-◌, ◌<◌, List, length, refl, sym, ◌∙◌, ap}
use Rattle.std.proofs.Common.{arith, subst, cond, Bool, true, false, ◌&&◌, nat_lt, option_map, slice_get, Option}
use Rattle.std.proofs.Common.{Some, None}
use Rattle.ls_value.specs.declared.row.Value.{Value}
use Rattle.ls_event.specs.declared.event.Entry.{Entry}
use Rattle.ls_event.specs.declared.event.Mode.{Mode}
use Rattle.ls_event.specs.declared.event.Taken.{Taken}
use Rattle.ls_event.specs.declared.updates.OwnRow.{OwnRow}
use Rattle.ls_event.specs.Updates.{updates_between, last_clear, recent_rows}
use Rattle.ls_event.specs.OwnCuts.{first_of_last, raw_taken, raw_cut, row_taken, clear_cut, snapshot_cut}
use Rattle.ls_event.specs.OwnCuts.{distinct_cut_by, distinct_cut}
use Rattle.ls_event.specs.CommandCuts.{command_queue, key_taken, command_cut_by}
use Rattle.ls_event.specs.Slots.{Slot, passed}
use Rattle.ls_mirror.specs.Client.{What}
use Rattle.ls_record.specs.Came.{Came, came_by}
use Rattle.ls_event.specs.Cuts.{cut_of, cut}
use Rattle.ls_record.specs.Cutting.{Wanted, Turn, what_of_cut, turn_within, turn}
use Rattle.ls_record.proofs.Parts.{turn_or, turn_by}
use Rattle.ls_record.proofs.Queues.{quiet_queue, queue_is, after_turn, Waits, waits, waits_more, Less, turn_less}
use Rattle.ls_record.proofs.Cuts.{IsMergeCut, merge_cut_is, no_cut}
use Rattle.ls_event.specs.declared.event.Mode.TheVariants as mode
use Rattle.ls_event.specs.declared.event.Taken.TheVariants as taken

-- a cut of mode MERGE moves the cursor up, and no other number
record Moves (s r : Slot) : Type 0 where
  mode : r.plan.mode ≡ mode.Merge
  last : r.last ≡ s.last
  cursor : s.cursor < r.cursor

moves : (h : List Entry) (s : Slot) (t : Taken) → s.plan.mode ≡ mode.Merge → cut h s ≡ Some t → Moves s (passed s t)
moves h s t merge is =
    let c : IsMergeCut h s t = merge_cut_is h s t (sym (ap (λ m. cut_of m h s) merge) ∙ is) in
    subst (λ (u : Taken). Moves s (passed s u)) (sym c.taken) (record { mode = merge; last = refl; cursor = omega arith })

-- after a turn that tells nothing there is no cut
abbrev Ends : List Entry → Turn → Type 0
Ends h r = r.came ≡ None → cut h r.slot ≡ None

line_ends : (h : List Entry) (s : Slot) (t : Taken) (o : Option What) (rest : Turn) → Ends h rest → Ends h (turn_or s t o rest)
line_ends h s t (Some what) rest e none = absurd (let x : Some (came_by s t what) ≡ None = none in cc)
line_ends h s t None rest e none = e none

cut_ends : (h : List Entry) (w : Wanted) (s : Slot) (cs : List Came) (o : Option Taken) (rest : Slot → Turn) → cut h s ≡ o
    → ((t : Taken) → cut h s ≡ Some t → Ends h (rest (passed s t))) → Ends h (turn_by w s cs o rest)
cut_ends h w s cs None rest is e none = is
cut_ends h w s cs (Some t) rest is e none = line_ends h s t (what_of_cut w s cs t) (rest (passed s t)) (e t is) none

within_ends : (n : ℕ) (h : List Entry) (w : Wanted) (s : Slot) (cs : List Came) → s.plan.mode ≡ mode.Merge → s.last < n + s.cursor
    → Ends h (turn_within n h w s cs)
within_ends zero h w s cs merge enough none = by_cut (cut h s) refl
  where
    by_cut : (o : Option Taken) → cut h s ≡ o → cut h s ≡ None
    by_cut None is = is
    by_cut (Some t) is =
        let c : IsMergeCut h s t = merge_cut_is h s t (sym (ap (λ m. cut_of m h s) merge) ∙ is) in
        absurd (omega (arith, enough, c.behind))
within_ends (suc n) h w s cs merge enough none =
    cut_ends h w s cs (cut h s) (λ r. turn_within n h w r cs) refl
    (λ t is. let m = moves h s t merge is in within_ends n h w (passed s t) cs m.mode (omega (arith, enough, m.last, m.cursor))) none

-- a cut that always makes a line
abbrev Tells : Taken → Type 0
Tells (taken.Row row upto) = Unit {0}
Tells (taken.Lost count upto) = Unit {0}
Tells (taken.Change cells upto) = ⊥
Tells (taken.Key key row upto) = ⊥
Tells (taken.Cleared upto) = Unit {0}
Tells taken.EndOfSnapshot = Unit {0}

line_came : (w : Wanted) (s : Slot) (cs : List Came) (t : Taken) (rest : Turn) → Tells t → (turn_or s t (what_of_cut w s cs t) rest).came ≡ None → ⊥
line_came w s cs (taken.Row row upto) rest tells none = cc
line_came w s cs (taken.Lost count upto) rest tells none = cc
line_came w s cs (taken.Change cells upto) rest tells none = tells
line_came w s cs (taken.Key key row upto) rest tells none = tells
line_came w s cs (taken.Cleared upto) rest tells none = cc
line_came w s cs taken.EndOfSnapshot rest tells none = cc

-- where each cut makes a line, a turn without one had no cut
tells_first : (h : List Entry) (w : Wanted) (s : Slot) (cs : List Came) (n : ℕ) → ((t : Taken) → cut h s ≡ Some t → Tells t)
    → Ends h (turn_within (suc n) h w s cs)
tells_first h w s cs n tells none = by_cut (cut h s) refl none
  where
    by_cut : (o : Option Taken) → cut h s ≡ o → (turn_by w s cs o (λ r. turn_within n h w r cs)).came ≡ None
        → cut h (turn_by w s cs o (λ r. turn_within n h w r cs)).slot ≡ None
    by_cut None is none = is
    by_cut (Some t) is none = absurd (line_came w s cs t (turn_within n h w (passed s t) cs) (tells t is) none)

tells_turn : (h : List Entry) (w : Wanted) (s : Slot) (cs : List Came) → ((t : Taken) → cut h s ≡ Some t → Tells t) → Ends h (turn h w s cs)
tells_turn h w s cs tells =
    let e : suc (s.last + s.owed + 1) ≡ s.last + s.owed + 2 = omega arith in
    subst (λ (n : ℕ). Ends h (turn_within n h w s cs)) e (tells_first h w s cs (s.last + s.owed + 1) tells)

raw_tells : (h : List Entry) (s : Slot) (t : Taken) → raw_cut h s ≡ Some t → Tells t
raw_tells h s t is = by_first (first_of_last 256 (updates_between h s.cursor s.last)) is
  where
    by_test : (lost : ℕ) (u : OwnRow) (v : Bool) → Some (cond v (taken.Lost lost (u.no - 1)) (taken.Row u.row u.no)) ≡ Some t → Tells t
    by_test lost u true e = let x : taken.Lost lost (u.no - 1) ≡ t = cc in subst Tells x tt
    by_test lost u false e = let x : taken.Row u.row u.no ≡ t = cc in subst Tells x tt

    by_first : (o : Option OwnRow) → option_map (raw_taken (length (updates_between h s.cursor s.last) - 256)) o ≡ Some t → Tells t
    by_first None e = no_cut t e
    by_first (Some u) e = by_test (length (updates_between h s.cursor s.last) - 256) u (nat_lt 0 (length (updates_between h s.cursor s.last) - 256)) e

tells_known : (x t : Taken) → Some x ≡ Some t → Tells x → Tells t
tells_known x t e tells =
    let same : x ≡ t = cc in
    subst Tells same tells

-- where a Clear waits, the next cut makes a line
clear_tells : (s : Slot) (n : ℕ) (t : Taken) → clear_cut s n ≡ Some t → Tells t
clear_tells s n t is = by_ends s.ends is
  where
    by_ends : (b : Bool) → cond b (Some taken.EndOfSnapshot) (Some (taken.Cleared n)) ≡ Some t → Tells t
    by_ends true e = tells_known taken.EndOfSnapshot t e tt
    by_ends false e = tells_known (taken.Cleared n) t e tt

distinct_tells : (h : List Entry) (s : Slot) (t : Taken) → distinct_cut h s ≡ Some t → Tells t
distinct_tells h s t is = by_clear (last_clear h s.cursor s.last) is
  where
    by_row : (o : Option (List Value)) → option_map (λ row. taken.Row row s.plan.base) o ≡ Some t → Tells t
    by_row None e = no_cut t e
    by_row (Some r) e = tells_known (taken.Row r s.plan.base) t e tt

    by_update : (o : Option OwnRow) → option_map row_taken o ≡ Some t → Tells t
    by_update None e = no_cut t e
    by_update (Some u) e = tells_known (taken.Row u.row u.no) t e tt

    by_end : (b : Bool) → cond b (Some taken.EndOfSnapshot) (option_map row_taken (first_of_last s.plan.size (updates_between h s.cursor s.last))) ≡ Some t
        → Tells t
    by_end true e = tells_known taken.EndOfSnapshot t e tt
    by_end false e = by_update (first_of_last s.plan.size (updates_between h s.cursor s.last)) e

    by_owed : (b : Bool)
        → cond b (snapshot_cut h s)
        (cond s.ends (Some taken.EndOfSnapshot) (option_map row_taken (first_of_last s.plan.size (updates_between h s.cursor s.last)))) ≡ Some t → Tells t
    by_owed true e = by_row (first_of_last s.owed (recent_rows h s.plan.base)) e
    by_owed false e = by_end s.ends e

    by_clear : (o : Option ℕ) → distinct_cut_by h s o ≡ Some t → Tells t
    by_clear (Some n) e = clear_tells s n t e
    by_clear None e = by_owed (nat_lt 0 s.owed) e

-- in mode COMMAND, where no Clear waits, the next cut makes a line or is the turn of the queue's first key
record IsKeyTurn (h : List Entry) (s : Slot) (t : Taken) : Type 0 where
  key : List ℕ
  taken : t ≡ key_taken h s key
  head : slice_get (quiet_queue h s) 0 ≡ Some key

command_turns : (h : List Entry) (s : Slot) (t : Taken) → last_clear h s.cursor s.last ≡ None → command_cut_by h s None ≡ Some t → Tells t ⊎ IsKeyTurn h s t
command_turns h s t none is = by_end (s.ends && (s.owed == 0)) is
  where
    by_key : (o : Option (List ℕ)) → slice_get (command_queue h s) 0 ≡ o → option_map (key_taken h s) o ≡ Some t → Tells t ⊎ IsKeyTurn h s t
    by_key None at e = no_cut t e
    by_key (Some k) at e =
        let same : key_taken h s k ≡ t = cc in
        inr (record { key = k; taken = sym same; head = ap (λ q. slice_get q 0) (sym (queue_is h s none)) ∙ at })

    by_end : (b : Bool) → cond b (Some taken.EndOfSnapshot) (option_map (key_taken h s) (slice_get (command_queue h s) 0)) ≡ Some t → Tells t ⊎ IsKeyTurn h s t
    by_end true e = inl (tells_known taken.EndOfSnapshot t e tt)
    by_end false e = by_key (slice_get (command_queue h s) 0) refl e

-- a slot of mode COMMAND behind which no Clear waits
record IsQuiet (h : List Entry) (s : Slot) : Type 0 where
  mode : s.plan.mode ≡ mode.Command
  none : last_clear h s.cursor s.last ≡ None

key_ends : (h : List Entry) (w : Wanted) (s : Slot) (cs : List Came) (n : ℕ) → IsQuiet h s
    → ((k : List ℕ) → slice_get (quiet_queue h s) 0 ≡ Some k → Ends h (turn_within n h w (after_turn s k) cs)) → Ends h (turn_within (suc n) h w s cs)
key_ends h w s cs n q more = by_cut (cut h s) refl
  where
    by_turn : (t : Taken) → Tells t ⊎ IsKeyTurn h s t → Ends h (turn_by w s cs (Some t) (λ r. turn_within n h w r cs))
    by_turn t (inl tells) none = absurd (line_came w s cs t (turn_within n h w (passed s t) cs) tells none)
    by_turn t (inr k) none =
        line_ends h s t (what_of_cut w s cs t) (turn_within n h w (passed s t) cs)
        (subst (λ (u : Taken). Ends h (turn_within n h w (passed s u) cs)) (sym k.taken) (more k.key k.head)) none

    by_cut : (o : Option Taken) → cut h s ≡ o → Ends h (turn_by w s cs o (λ r. turn_within n h w r cs))
    by_cut None is none = is
    by_cut (Some t) is none = by_turn t (command_turns h s t q.none (ap (command_cut_by h s) (sym q.none) ∙ sym (ap (λ (m : Mode). cut_of m h s) q.mode) ∙ is))
        none

keys_end : (n : ℕ) (h : List Entry) (w : Wanted) (s : Slot) (cs : List Came) → IsQuiet h s → Waits h s n → Ends h (turn_within (suc n) h w s cs)
keys_end zero h w s cs q some = key_ends h w s cs zero q (λ k head. none k (turn_less h s k zero head some))
  where
    none : (k : List ℕ) → Less h s k zero → Ends h (turn_within zero h w (after_turn s k) cs)
    none k l = absurd (omega (arith, l.is))
keys_end (suc n) h w s cs q some =
    key_ends h w s cs (suc n) q
    (λ k head. let l = turn_less h s k (suc n) head some in
    keys_end n h w (after_turn s k) cs (record { mode = q.mode; none = q.none }) (waits_more h (after_turn s k) l.rest n (omega (arith, l.is)) l.waits))

command_ends : (h : List Entry) (w : Wanted) (s : Slot) (cs : List Came) → s.plan.mode ≡ mode.Command → Ends h (turn h w s cs)
command_ends h w s cs is = by_clear (last_clear h s.cursor s.last) refl
  where
    by_clear : (o : Option ℕ) → last_clear h s.cursor s.last ≡ o → Ends h (turn h w s cs)
    by_clear (Some n) found =
        tells_turn h w s cs (λ t c. clear_tells s n t (ap (command_cut_by h s) (sym found) ∙ sym (ap (λ (m : Mode). cut_of m h s) is) ∙ c))
    by_clear None none =
        let e : suc (s.last + s.owed + 1) ≡ s.last + s.owed + 2 = omega arith in
        subst (λ (n : ℕ). Ends h (turn_within n h w s cs)) e
        (keys_end (s.last + s.owed + 1) h w s cs (record { mode = is; none = none })
        (waits_more h s (s.owed + s.last) (s.last + s.owed + 1) (omega arith) (waits h s)))

pub turn_ends : (h : List Entry) (w : Wanted) (s : Slot) (cs : List Came) → (turn h w s cs).came ≡ None → cut h (turn h w s cs).slot ≡ None
turn_ends h w s cs = by_mode s.plan.mode refl
  where
    by_mode : (m : Mode) → s.plan.mode ≡ m → Ends h (turn h w s cs)
    by_mode mode.Merge is = within_ends (s.last + s.owed + 2) h w s cs is (omega arith)
    by_mode mode.Raw is = tells_turn h w s cs (λ t c. raw_tells h s t (sym (ap (λ (m : Mode). cut_of m h s) is) ∙ c))
    by_mode mode.Distinct is = tells_turn h w s cs (λ t c. distinct_tells h s t (sym (ap (λ (m : Mode). cut_of m h s) is) ∙ c))
    by_mode mode.Command is = command_ends h w s cs is
