-- A slot of which nothing is pending is passed over, and the turn is as it was to be.
use Rattle.std.proofs.Common.{◌≡◌, ◌⊎◌, inl, inr, ◌++◌, take, min, subst, ℕ, zero, suc, ◌+◌, ◌≤◌, ◌<◌, List, [], ◌∷◌, length, refl, sym, ◌∙◌, ap, arith, cond, Bool, true, false}
use Rattle.std.proofs.Common.{◌||◌, nat_lt, nat_le, nat_eq, slice_get, option_map, is_some, Option, Some, None}
use Rattle.std.specs.Option.{option_map_or}
use Rattle.std.proofs.lemmas.Bool.{eqb-true}
use Rattle.std.proofs.lemmas.Bool.Decides.{nat_tests}
use Rattle.ls_value.specs.declared.limits.TheConstants.{GREATEST_NUMBER}
use Rattle.ls_event.specs.declared.event.Entry.{Entry}
use Rattle.ls_event.specs.declared.event.Mode.{Mode}
use Rattle.ls_event.specs.declared.event.Mode.TheVariants as mode
use Rattle.ls_event.specs.declared.event.Taken.TheVariants as taken
use Rattle.ls_event.specs.declared.updates.OwnRow.{OwnRow}
use Rattle.ls_event.specs.History.{between}
use Rattle.ls_event.specs.Updates.{own_from, clear_from, updates_between}
use Rattle.ls_event.specs.OwnCuts.{raw_cut_of, row_taken, first_of_last, snapshot_cut, distinct_cut_by}
use Rattle.ls_event.specs.Slots.{Slot}
use Rattle.ls_event.specs.Cuts.{cut, cut_of, is_behind, is_pending, pending_of, change_to, next_cursor}
use Rattle.ls_record.specs.Records.{Item, LiveSlot, Session, Life, Alive, Ending, Closed, history_of, is_due, due_at, is_unsent}
use Rattle.ls_record.specs.Records.{is_to_loop, is_bound, unbound_at}
use Rattle.ls_record.specs.Turning.{SessionTurn, Send, Superseded, next_given, loop_text, gives_unbound, waits_until}
use Rattle.ls_session.specs.Record.{Record, passed_over, waited, from_place, wait_from}
use Rattle.ls_session.specs.declared.session.Session.{Session as Kept}
use Rattle.ls_session.specs.Session.{StandsSession, PassesFront}
use Rattle.ls_cells.specs.Cells.{AllCells}
use Rattle.ls_hub.specs.Turning.{rest_of_round, owing_from, bound_from, epoch_from, turn_from, GoesOn, MaySkip, IsNextSettled, HoldsNext}
use Rattle.ls_value.specs.Each.{Each}
use Rattle.ls_session.specs.Front.{IsHeld, HoldsFirst, least_by}
use Rattle.ls_session.proofs.Fronts.{take_suc, least_snoc, held_pending}
use Rattle.ls_hub.proofs.RoundTurns.{nothing_told, quiet_told, waiting_told, at_end}
use Rattle.ls_hub.proofs.Telling.{here_from}

-- without something pending there is no cut
or_left : (a b : Bool) → (a || b) ≡ false → a ≡ false
or_left false b is = refl
or_left true b is = absurd (let x : true ≡ false = is in cc)

or_right : (a b : Bool) → (a || b) ≡ false → b ≡ false
or_right false b is = is
or_right true b is = absurd (let x : true ≡ false = is in cc)

none_between : (h : List Entry) (p l : ℕ) → l ≤ p → between h p l ≡ []
none_between h zero zero low = refl
none_between h zero (suc l) low = absurd (omega (arith, low))
none_between h (suc p) zero low = refl
none_between [] (suc p) (suc l) low = refl
none_between (e ∷ h) (suc p) (suc l) low = none_between h p l (omega (arith, low))

nothing_between : (h : List Entry) (s : Slot) → is_behind s ≡ false → between h s.cursor s.last ≡ []
nothing_between h s is = none_between h s.cursor s.last (at_most s.cursor s.last (or_right (nat_lt 0 s.owed || s.ends) (nat_lt s.cursor s.last) is))
  where
    at_most : (n m : ℕ) → nat_lt n m ≡ false → m ≤ n
    at_most n m h = grind (arith, nat_tests)

none_is : {A : Type 0} (o : Option A) → is_some o ≡ false → o ≡ None
none_is None is = refl
none_is (Some x) is = absurd (let y : true ≡ false = is in cc)

first_none : (n : ℕ) → first_of_last n (let none : List OwnRow = [] in none) ≡ None
first_none n = refl

pub settled_cut : (h : List Entry) (s : Slot) → is_pending h s ≡ false → cut h s ≡ None
settled_cut h s = by_mode s.plan.mode
  where
    by_mode : (m : Mode) → pending_of m h s ≡ false → cut_of m h s ≡ None
    by_mode mode.Merge is =
        ap (λ b. cond b (Some (change_to h s (next_cursor s))) None) (or_right (nat_lt 0 s.owed || s.ends) (nat_lt s.cursor s.last) is)
    by_mode mode.Raw is = ap (λ es. raw_cut_of (own_from s.cursor es)) (nothing_between h s is)
    by_mode mode.Distinct is =
        ap (λ es. distinct_cut_by h s (clear_from None s.cursor es)) (nothing_between h s is)
        ∙ ap (λ b. cond b (snapshot_cut h s) (cond s.ends (Some taken.EndOfSnapshot)
        (option_map row_taken (first_of_last s.plan.size (updates_between h s.cursor s.last)))))
        (or_left (nat_lt 0 s.owed) s.ends (or_left (nat_lt 0 s.owed || s.ends) (nat_lt s.cursor s.last) is))
        ∙ ap (λ b. cond b (Some taken.EndOfSnapshot) (option_map row_taken (first_of_last s.plan.size (updates_between h s.cursor s.last))))
        (or_right (nat_lt 0 s.owed) s.ends (or_left (nat_lt 0 s.owed || s.ends) (nat_lt s.cursor s.last) is))
        ∙ ap (λ es. option_map row_taken (first_of_last s.plan.size (own_from s.cursor es))) (nothing_between h s is)
    by_mode mode.Command is = none_is (cut_of mode.Command h s) is

-- a turn from another place is the same where the rest of the round is
from_place_on : (now : ℕ) (items : List Item) (epoch : ℕ) (s : Session) (n m : ℕ) (wait next : Option ℕ)
    → rest_of_round now items s n wait ≡ rest_of_round now items s m next
    → epoch_from now items epoch s n wait ≡ epoch_from now items epoch s m next
from_place_on now items epoch s n m wait next same =
    ap (λ (t : SessionTurn). cond (nat_lt epoch (length s.streams)) (record { session = s; gives = Superseded (length s.streams) })
    (cond (is_bound s) t (record { session = s; gives = gives_unbound s.life }))) (by_life s.life)
  where
    by_owed : (owed : List (List ℕ)) → owing_from now items s n wait owed ≡ owing_from now items s m next owed
    by_owed (text ∷ owed) = refl
    by_owed [] =
        ap (λ (t : SessionTurn). cond (is_to_loop s.streams) (record { session = unbound_at now s; gives = Send loop_text })
        (cond (is_unsent s) (next_given s) t)) same

    by_life : (l : Life) → bound_from now items s n wait l ≡ bound_from now items s m next l
    by_life Alive = by_owed s.owed
    by_life (Ending code) = refl
    by_life (Closed code) = refl

-- the turn behind a slot that is passed over, where no question stands
passed_turn : (now : ℕ) (items : List Item) (epoch : ℕ) (r : Record) (next : Option ℕ) → r.asks ≡ false
    → (r.tick ≡ now → rest_of_round now items r.session r.asked r.wait ≡ rest_of_round now items r.session (r.asked + 1) next)
    → turn_from now items epoch (record (passed_over r) { wait = next }) ≡ turn_from now items epoch r
passed_turn now items epoch r next unasked same =
    by_tick (nat_eq r.tick now) refl
    ∙ sym (ap (λ b. epoch_from now items epoch r.session (cond (cond b false (nat_eq r.tick now)) r.asked 0)
    (cond (cond b false (nat_eq r.tick now)) r.wait None)) unasked)
  where
    by_tick : (b : Bool) → nat_eq r.tick now ≡ b → epoch_from now items epoch r.session (cond b (r.asked + 1) 0) (cond b next None)
        ≡ epoch_from now items epoch r.session (cond b r.asked 0) (cond b r.wait None)
    by_tick true e = sym (from_place_on now items epoch r.session r.asked (r.asked + 1) r.wait next (same (eqb-true r.tick now e)))
    by_tick false e = refl

-- whether it is due or not
settled_rest : (now : ℕ) (items : List Item) (s : Session) (n : ℕ) (wait : Option ℕ) (v : LiveSlot) → length s.board.lines < GREATEST_NUMBER
    → slice_get s.board.round n ≡ Some v → is_pending (history_of items v.item) v.slot ≡ false
    → rest_of_round now items s n wait ≡ rest_of_round now items s (n + 1) wait
settled_rest now items s n wait v left found settled = by_due (is_due now s v) refl
  where
    not_full : (m g : ℕ) → m < g → nat_le g m ≡ false
    not_full m g low = grind (arith, nat_tests)

    by_due : (b : Bool) → is_due now s v ≡ b → rest_of_round now items s n wait ≡ rest_of_round now items s (n + 1) wait
    by_due true due = nothing_told now items s n wait v due (not_full (length s.board.lines) GREATEST_NUMBER left) found
        (settled_cut (history_of items v.item) v.slot settled)
    by_due false undue = quiet_told now items s n wait v undue found settled

pub skipped : (now : ℕ) (items : List Item) (epoch : ℕ) (first others : List LiveSlot) (r : Record) (k k' : Kept) (c : AllCells)
    → (m : MaySkip now items epoch first others r k c) → IsNextSettled items m.rests.on.asking → StandsSession k' (passed_over m.rests.on.asking)
    → MaySkip now items epoch first others r k' c
skipped now items epoch first others r k k' c m next st =
    let g : GoesOn now items epoch first others r k c = m.rests.on in
    record {
      rests = record {
        on = record {
          asking = passed_over g.asking;
          number = g.number;
          early = g.early;
          session = st;
          cells = g.cells;
          turn = passed_turn now items epoch g.asking g.asking.wait m.rests.unasked
              (λ tick. settled_rest now items g.asking.session g.asking.asked g.asking.wait next.live m.left next.found next.settled) ∙ g.turn;
          quiet = g.quiet;
        };
        unasked = refl;
      };
      left = m.left;
    }

-- a slot that waits is passed over
pub held_on : (now : ℕ) (items : List Item) (epoch : ℕ) (first others : List LiveSlot) (r : Record) (k k' : Kept) (c : AllCells)
    → (m : MaySkip now items epoch first others r k c) → HoldsNext items m.rests.on.asking k' → MaySkip now items epoch first others r k' c
held_on now items epoch first others r k k' c m held =
    let g : GoesOn now items epoch first others r k c = m.rests.on in
    let v : LiveSlot = held.next.live in
    let s : Session = g.asking.session in
    record {
      rests = record {
        on = record {
          asking = waited g.asking v;
          number = g.number;
          early = g.early;
          session = held.session;
          cells = g.cells;
          turn = passed_turn now items epoch g.asking (waited g.asking v).wait m.rests.unasked
              (λ tick. waiting_told now items s g.asking.asked g.asking.wait v (subst (λ n. is_due n s v ≡ false) tick held.early) held.next.found
              held.next.pending
              ∙ ap (λ n. rest_of_round now items s (g.asking.asked + 1) (Some (option_map_or (min (due_at n s v)) g.asking.wait (due_at n s v))))
              (sym tick)) ∙ g.turn;
          quiet = g.quiet;
        };
        unasked = refl;
      };
      left = m.left;
    }

-- so are the first slots of a round, which wait
none_more : {A : Type 0} (xs : List A) (n : ℕ) → slice_get xs n ≡ None → take (suc n) xs ≡ take n xs
none_more [] zero none = refl
none_more [] (suc n) none = refl
none_more (x ∷ xs) zero none = absurd (let y : Some x ≡ None = none in cc)
none_more (x ∷ xs) (suc n) none = ap (λ ys. x ∷ ys) (none_more xs n none)

none_behind : {A : Type 0} (xs : List A) (n : ℕ) → slice_get xs n ≡ None → slice_get xs (suc n) ≡ None
none_behind [] zero none = refl
none_behind [] (suc n) none = refl
none_behind (x ∷ xs) zero none = absurd (let y : Some x ≡ None = none in cc)
none_behind (x ∷ xs) (suc n) none = none_behind xs n none

each_snoc : {A : Type 0} (P : A → Type 0) (xs : List A) (x : A) → Each P (xs ++ x ∷ []) → Each P xs × P x
each_snoc P [] x e = (tt, e.0)
each_snoc P (y ∷ xs) x e = let more = each_snoc P xs x e.1 in ((e.0, more.0), more.1)

module _ (now : ℕ) (items : List Item) (s : Session) where
  abbrev least_of_first : ℕ → Option ℕ
  least_of_first n = least_by (due_at now s) None (take n s.board.round)

  held_more : (n : ℕ) → ((Each IsHeld (take n s.board.round)) → Each (λ v. is_due now s v ≡ false) (take n s.board.round)
      → rest_of_round now items s 0 None ≡ rest_of_round now items s n (least_of_first n))
      → Each IsHeld (take (suc n) s.board.round) → Each (λ v. is_due now s v ≡ false) (take (suc n) s.board.round)
      → rest_of_round now items s 0 None ≡ rest_of_round now items s (suc n) (least_of_first (suc n))
  held_more n more held early = by_slot (slice_get s.board.round n) refl
    where
      by_slot : (o : Option LiveSlot) → slice_get s.board.round n ≡ o
          → rest_of_round now items s 0 None ≡ rest_of_round now items s (suc n) (least_of_first (suc n))
      by_slot None none =
          let same : take (suc n) s.board.round ≡ take n s.board.round = none_more s.board.round n none in
          more (subst (λ (vs : List LiveSlot). Each IsHeld vs) same held) (subst (λ (vs : List LiveSlot). Each (λ v. is_due now s v ≡ false) vs) same early)
          ∙ at_end now items s n (least_of_first n) none
          ∙ ap (λ (vs : List LiveSlot). record { session = s; gives = waits_until (least_by (due_at now s) None vs) }) (sym same)
          ∙ sym (at_end now items s (suc n) (least_of_first (suc n)) (none_behind s.board.round n none))
      by_slot (Some v) found =
          let same : take (suc n) s.board.round ≡ take n s.board.round ++ v ∷ [] = take_suc s.board.round n v found in
          let holds = each_snoc IsHeld (take n s.board.round) v (subst (λ (vs : List LiveSlot). Each IsHeld vs) same held) in
          let earlier = each_snoc (λ u. is_due now s u ≡ false) (take n s.board.round) v
          (subst (λ (vs : List LiveSlot). Each (λ u. is_due now s u ≡ false) vs) same early) in
          more holds.0 earlier.0
          ∙ waiting_told now items s n (least_of_first n) v earlier.1 found (held_pending (history_of items v.item) v holds.1)
          ∙ ap (λ m. rest_of_round now items s m (Some (option_map_or (min (due_at now s v)) (least_of_first n) (due_at now s v))))
          {x = n + 1} {y = suc n} (omega arith)
          ∙ ap (λ w. rest_of_round now items s (suc n) w)
          (sym (ap (least_by (due_at now s) None) same ∙ least_snoc (due_at now s) None (take n s.board.round) v))

  rest_held : (n : ℕ) → Each IsHeld (take n s.board.round) → Each (λ v. is_due now s v ≡ false) (take n s.board.round)
      → rest_of_round now items s 0 None ≡ rest_of_round now items s n (least_of_first n)
  rest_held zero held early = refl
  rest_held (suc n) held early = held_more n (rest_held n) held early

-- the turn behind them is as it was to be
pub front_turn : (now : ℕ) (items : List Item) (epoch : ℕ) (r : Record) (k : Kept) → (p : PassesFront now r k)
    → turn_from now items epoch (record r { tick = now; asked = p.asked; asks = false; wait = p.wait }) ≡ turn_from now items epoch r
front_turn now items epoch r k p = here_from now items epoch r r.session p.asked p.wait ∙ by_passed p.passed
  where
    by_passed : ((p.asked ≡ from_place now r) × (p.wait ≡ wait_from now r))
        ⊎ ((from_place now r ≡ 0) × (wait_from now r ≡ None) × HoldsFirst now r.session p.asked p.wait)
        → epoch_from now items epoch r.session p.asked p.wait ≡ epoch_from now items epoch r.session (from_place now r) (wait_from now r)
    by_passed (inl same) =
        ap (λ n. epoch_from now items epoch r.session n p.wait) same.0 ∙ ap (λ w. epoch_from now items epoch r.session (from_place now r) w) same.1
    by_passed (inr first) =
        sym (ap (λ n. epoch_from now items epoch r.session n (wait_from now r)) first.0 ∙ ap (λ w. epoch_from now items epoch r.session 0 w) first.1
        ∙ from_place_on now items epoch r.session 0 p.asked None p.wait
        (rest_held now items r.session p.asked first.2.held first.2.early
        ∙ ap (λ w. rest_of_round now items r.session p.asked w) (sym first.2.least)))
