-- A session's turn in steps: a slot has nothing or waits, its cut makes no line, or its cut makes one.
use Rattle.std.proofs.Common.{◌≡◌, ℕ, zero, suc, ◌+◌, ◌≤◌, List, [], ◌∷◌, ◌++◌, length, take, drop, refl, sym, ◌∙◌, ap, arith, subst, cond, Bool, true, false}
use Rattle.std.proofs.Common.{append_assoc, append-nil, nat_lt, nat_le, slice_get, Option, Some, None, not, ◌&&◌, ◌||◌, min}
use Rattle.std.specs.List.{list_any}
use Rattle.std.specs.Option.{option_map_or}
use Rattle.ls_event.specs.declared.event.Entry.{Entry}
use Rattle.ls_event.specs.declared.event.Taken.{Taken}
use Rattle.ls_event.specs.Slots.{Slot, passed}
use Rattle.ls_event.specs.Cuts.{cut, is_pending}
use Rattle.ls_mirror.specs.Client.{What}
use Rattle.ls_value.specs.declared.limits.TheConstants.{GREATEST_NUMBER}
use Rattle.ls_record.specs.Came.{Came, came_by}
use Rattle.ls_record.specs.Cases.{with_found}
use Rattle.ls_record.specs.Cutting.{Wanted, Turn, what_of_cut, turn_within, turn}
use Rattle.ls_record.specs.Lines.{Tells, came}
use Rattle.ls_record.specs.Records.{Item, LiveSlot, Session, Life, Alive, Ending, Closed, RoundLine, Round, history_of}
use Rattle.ls_record.specs.Records.{change, live_turn, round_of}
use Rattle.ls_record.specs.Records.{on_board, numbered, trimmed, is_unsent, is_to_loop, is_bound, unbound_at}
use Rattle.ls_record.specs.Records.{is_due, due_at, is_waiting, waits_of, least_of, least_wait}
use Rattle.ls_record.specs.Turning.{SessionTurn, Send, Spent, Superseded, waits_until, next_given, round_turn}
use Rattle.ls_record.specs.Turning.{turn_owing, turn_bound, session_turn}
use Rattle.ls_record.specs.Turning.{loop_text, gives_unbound}
use Rattle.ls_record.proofs.Parts.{turn_or, turn_by, given_by}
use Rattle.ls_record.proofs.Turns.{turn_ends}
use Rattle.ls_hub.specs.Turning.{before_ticks, given_behind, round_behind, rest_of_round, owing_from, bound_from, epoch_from}

-- the place of an element in a list
pub drop_at : {A : Type 0} (xs : List A) (n : ℕ) (x : A) → slice_get xs n ≡ Some x → drop n xs ≡ x ∷ drop (suc n) xs
drop_at [] n x is = absurd (let y : None ≡ Some x = is in cc)
drop_at (y ∷ xs) zero x is = let same : y ≡ x = cc in ap (λ z. z ∷ xs) same
drop_at (y ∷ xs) (suc n) x is = drop_at xs n x is

pub take_at : {A : Type 0} (xs : List A) (n : ℕ) (x : A) → slice_get xs n ≡ Some x → take (suc n) xs ≡ take n xs ++ x ∷ []
take_at [] n x is = absurd (let y : None ≡ Some x = is in cc)
take_at (y ∷ xs) zero x is = let same : y ≡ x = cc in ap (λ z. z ∷ []) same
take_at (y ∷ xs) (suc n) x is = ap (λ zs. y ∷ zs) (take_at xs n x is)

pub drop_changed : {A : Type 0} (f : A → A) (xs : List A) (n : ℕ) (x : A) → slice_get xs n ≡ Some x → drop n (change n f xs) ≡ f x ∷ drop (suc n) xs
drop_changed f [] n x is = absurd (let y : None ≡ Some x = is in cc)
drop_changed f (y ∷ xs) zero x is = let same : y ≡ x = cc in ap (λ z. f z ∷ xs) same
drop_changed f (y ∷ xs) (suc n) x is = drop_changed f xs n x is

pub take_changed : {A : Type 0} (f : A → A) (xs : List A) (n : ℕ) → take n (change n f xs) ≡ take n xs
take_changed f [] n = refl
take_changed f (y ∷ xs) zero = refl
take_changed f (y ∷ xs) (suc n) = ap (λ zs. y ∷ zs) (take_changed f xs n)

pub drop_behind : {A : Type 0} (f : A → A) (xs : List A) (n : ℕ) → drop (suc n) (change n f xs) ≡ drop (suc n) xs
drop_behind f [] n = refl
drop_behind f (y ∷ xs) zero = refl
drop_behind f (y ∷ xs) (suc n) = drop_behind f xs n

past_end : {A : Type 0} (xs : List A) (n : ℕ) → slice_get xs n ≡ None → take n xs ≡ xs
past_end [] zero is = refl
past_end [] (suc n) is = refl
past_end (y ∷ xs) zero is = absurd (let z : Some y ≡ None = is in cc)
past_end (y ∷ xs) (suc n) is = ap (λ zs. y ∷ zs) (past_end xs n is)

none_behind : {A : Type 0} (xs : List A) (n : ℕ) → slice_get xs n ≡ None → drop n xs ≡ []
none_behind [] zero is = refl
none_behind [] (suc n) is = refl
none_behind (y ∷ xs) zero is = absurd (let z : Some y ≡ None = is in cc)
none_behind (y ∷ xs) (suc n) is = none_behind xs n is

-- a turn is over: it told something, or no cut is left
abbrev Over : List Entry → Turn → Type 0
Over h r = r.came ≡ None → cut h r.slot ≡ None

-- more cuts change nothing of one that is over
line_more : (n m : ℕ) (h : List Entry) (w : Wanted) (s : Slot) (cs : List Came) (t : Taken) (o : Option What)
    → (Over h (turn_within n h w (passed s t) cs) → turn_within m h w (passed s t) cs ≡ turn_within n h w (passed s t) cs)
    → Over h (turn_or s t o (turn_within n h w (passed s t) cs))
    → turn_or s t o (turn_within m h w (passed s t) cs) ≡ turn_or s t o (turn_within n h w (passed s t) cs)
line_more n m h w s cs t None more over = more over
line_more n m h w s cs t (Some what) more over = refl

cut_more : (n m : ℕ) (h : List Entry) (w : Wanted) (s : Slot) (cs : List Came)
    → ((t : Taken) → Over h (turn_within n h w (passed s t) cs) → turn_within m h w (passed s t) cs ≡ turn_within n h w (passed s t) cs)
    → Over h (turn_within (suc n) h w s cs) → turn_within (suc m) h w s cs ≡ turn_within (suc n) h w s cs
cut_more n m h w s cs more = by_cut (cut h s)
  where
    by_cut : (o : Option Taken) → Over h (turn_by w s cs o (λ r. turn_within n h w r cs))
        → turn_by w s cs o (λ r. turn_within m h w r cs) ≡ turn_by w s cs o (λ r. turn_within n h w r cs)
    by_cut None over = refl
    by_cut (Some t) over = line_more n m h w s cs t (what_of_cut w s cs t) (more t) over

more_cuts : (n m : ℕ) (h : List Entry) (w : Wanted) (s : Slot) (cs : List Came) → n ≤ m → Over h (turn_within n h w s cs)
    → turn_within m h w s cs ≡ turn_within n h w s cs
more_cuts zero zero h w s cs fewer over = refl
more_cuts zero (suc m) h w s cs fewer over = ap (λ o. turn_by w s cs o (λ r. turn_within m h w r cs)) (over refl)
more_cuts (suc n) zero h w s cs fewer over = absurd (omega (arith, fewer))
more_cuts (suc n) (suc m) h w s cs fewer over = cut_more n m h w s cs (λ t. more_cuts n m h w (passed s t) cs (omega (arith, fewer))) over

same_turn : (n m : ℕ) (h : List Entry) (w : Wanted) (s : Slot) (cs : List Came) → Over h (turn_within n h w s cs) → Over h (turn_within m h w s cs)
    → turn_within n h w s cs ≡ turn_within m h w s cs
same_turn n m h w s cs a b = sym (more_cuts n (n + m) h w s cs (omega arith) a) ∙ more_cuts m (n + m) h w s cs (omega arith) b

-- a slot's turn by its next cut
turn_first : (h : List Entry) (w : Wanted) (s : Slot) (cs : List Came) → turn h w s cs ≡ turn_within (suc (s.last + s.owed + 1)) h w s cs
turn_first h w s cs = ap (λ n. turn_within n h w s cs) {x = s.last + s.owed + 2} {y = suc (s.last + s.owed + 1)} (omega arith)

-- without one there is nothing
turn_none : (h : List Entry) (w : Wanted) (s : Slot) (cs : List Came) → cut h s ≡ None → turn h w s cs ≡ record { slot = s; came = None }
turn_none h w s cs none = turn_first h w s cs ∙ ap (λ o. turn_by w s cs o (λ r. turn_within (s.last + s.owed + 1) h w r cs)) none

-- one that makes no line is passed
turn_silent : (h : List Entry) (w : Wanted) (s : Slot) (cs : List Came) (t : Taken) → cut h s ≡ Some t → what_of_cut w s cs t ≡ None
    → turn h w s cs ≡ turn h w (passed s t) cs
turn_silent h w s cs t is none =
    let next : turn h w s cs ≡ turn_within (s.last + s.owed + 1) h w (passed s t) cs =
    turn_first h w s cs ∙ ap (λ o. turn_by w s cs o (λ r. turn_within (s.last + s.owed + 1) h w r cs)) is
    ∙ ap (λ o. turn_or s t o (turn_within (s.last + s.owed + 1) h w (passed s t) cs)) none in
    next ∙ same_turn (s.last + s.owed + 1) ((passed s t).last + (passed s t).owed + 2) h w (passed s t) cs
    (subst (λ (r : Turn). Over h r) next (turn_ends h w s cs)) (turn_ends h w (passed s t) cs)

-- one that makes a line ends it
turn_told : (h : List Entry) (w : Wanted) (s : Slot) (cs : List Came) (t : Taken) (what : What) → cut h s ≡ Some t → what_of_cut w s cs t ≡ Some what
    → turn h w s cs ≡ record { slot = passed s t; came = Some (came_by s t what) }
turn_told h w s cs t what is some =
    turn_first h w s cs ∙ ap (λ o. turn_by w s cs o (λ r. turn_within (s.last + s.owed + 1) h w r cs)) is
    ∙ ap (λ o. turn_or s t o (turn_within (s.last + s.owed + 1) h w (passed s t) cs)) some

-- a round by the turn of its first slot
abbrev met : LiveSlot → List LiveSlot → Round → Turn → Round
met v vs rest t =
    with_found t.came (record rest { kept = record v { slot = t.slot } ∷ rest.kept })
    (λ c. record { kept = vs; came = Some (record { live = record v { slot = t.slot }; came = c }) })

abbrev nothing : LiveSlot → Turn
nothing v = record { slot = v.slot; came = None }

-- whether no number is left
abbrev pub is_full : Session → Bool
is_full s = nat_le GREATEST_NUMBER (length s.board.lines)

none_left : (a b full : Bool) → full ≡ false → (a && full) ≡ (b && full)
none_left true true full is = refl
none_left true false full is = is
none_left false true full is = sym is
none_left false false full is = refl

-- a slot that has nothing stands before the others
nothing_kept : (now : ℕ) (s : Session) (first : List LiveSlot) (wait : Option ℕ) (v : LiveSlot) (kept : List LiveSlot) (o : Option RoundLine)
    → given_behind now s first wait (record { kept = v ∷ kept; came = o }) ≡ given_behind now s (first ++ v ∷ []) wait (record { kept = kept; came = o })
nothing_kept now s first wait v kept None =
    ap (λ (vs : List LiveSlot). given_behind now s [] wait (record { kept = vs; came = None })) (sym (append_assoc first (v ∷ []) kept))
nothing_kept now s first wait v kept (Some t) =
    ap (λ (vs : List LiveSlot). given_behind now s [] wait (record { kept = vs; came = Some t })) (sym (append_assoc first (v ∷ []) kept))

-- the least of ticks, one of which was met
least_met : (wait : Option ℕ) (tick : ℕ) (ticks : List ℕ)
    → least_of (before_ticks wait (tick ∷ ticks)) ≡ least_of (before_ticks (Some (option_map_or (min tick) wait tick)) ticks)
least_met None tick ticks = refl
least_met (Some a) tick ticks = by_rest (least_of ticks)
  where
    by_rest : (o : Option ℕ) → Some (min a (option_map_or (min tick) o tick)) ≡ Some (option_map_or (min (min tick a)) o (min tick a))
    by_rest None = ap (λ n. Some n) (let e : min a tick ≡ min tick a = omega arith in e)
    by_rest (Some b) = ap (λ n. Some n) (let e : min a (min tick b) ≡ min (min tick a) b = omega arith in e)

least_one : (wait : Option ℕ) → least_of (before_ticks wait []) ≡ wait
least_one None = refl
least_one (Some tick) = refl

module _ (now : ℕ) (items : List Item) (s : Session) where
  -- the first slot behind has nothing to give: it is before the next one
  slot_passed : (first : List LiveSlot) (wait next : Option ℕ) (v : LiveSlot) (rest : List LiveSlot)
      → (list_any (is_due now s) (v ∷ rest) && is_full s) ≡ (list_any (is_due now s) rest && is_full s)
      → live_turn (is_due now s) items s.board.lines v ≡ nothing v
      → least_of (before_ticks wait (waits_of now items s (v ∷ rest))) ≡ least_of (before_ticks next (waits_of now items s rest))
      → round_behind now items s first wait (v ∷ rest) ≡ round_behind now items s (first ++ v ∷ []) next rest
  slot_passed first wait next v rest left none least =
      ap (λ b. cond b (record { session = s; gives = Spent })
      (given_behind now s first (least_of (before_ticks wait (waits_of now items s (v ∷ rest)))) (round_of (is_due now s) items s.board.lines (v ∷ rest)))) left
      ∙ ap (cond (list_any (is_due now s) rest && is_full s) (record { session = s; gives = Spent }))
      (ap (λ w. given_behind now s first w (round_of (is_due now s) items s.board.lines (v ∷ rest))) least
      ∙ ap (λ (t : Turn). given_behind now s first (least_of (before_ticks next (waits_of now items s rest)))
      (met v rest (round_of (is_due now s) items s.board.lines rest) t)) none
      ∙ nothing_kept now s first (least_of (before_ticks next (waits_of now items s rest))) v (round_of (is_due now s) items s.board.lines rest).kept
      (round_of (is_due now s) items s.board.lines rest).came)

  -- a number is left for what the slots behind give
  left_for : (first : List LiveSlot) (wait : Option ℕ) (vs : List LiveSlot) → is_full s ≡ false
      → round_behind now items s first wait vs
      ≡ given_behind now s first (least_of (before_ticks wait (waits_of now items s vs))) (round_of (is_due now s) items s.board.lines vs)
  left_for first wait vs left =
      ap (λ b. cond b (record { session = s; gives = Spent })
      (given_behind now s first (least_of (before_ticks wait (waits_of now items s vs))) (round_of (is_due now s) items s.board.lines vs)))
      (none_left (list_any (is_due now s) vs) false (is_full s) left)

  -- a slot that doesn't wait
  unwaited : (v : LiveSlot) (rest : List LiveSlot) → is_waiting now items s v ≡ false → waits_of now items s (v ∷ rest) ≡ waits_of now items s rest
  unwaited v rest is = ap (λ b. cond b (due_at now s v ∷ waits_of now items s rest) (waits_of now items s rest)) is

  due_unwaited : (v : LiveSlot) → is_due now s v ≡ true → is_waiting now items s v ≡ false
  due_unwaited v due = ap (λ b. not b && is_pending (history_of items v.item) v.slot) due

  -- a due slot has nothing
  due_passed : (first : List LiveSlot) (wait : Option ℕ) (v : LiveSlot) (rest : List LiveSlot) → is_due now s v ≡ true → is_full s ≡ false
      → cut (history_of items v.item) v.slot ≡ None
      → round_behind now items s first wait (v ∷ rest) ≡ round_behind now items s (first ++ v ∷ []) wait rest
  due_passed first wait v rest due left none =
      slot_passed first wait wait v rest (none_left (list_any (is_due now s) (v ∷ rest)) (list_any (is_due now s) rest) (is_full s) left)
      (ap (λ b. cond b (turn (history_of items v.item) v.wanted v.slot (came v.sub v.rank s.board.lines)) (nothing v)) due
      ∙ turn_none (history_of items v.item) v.wanted v.slot (came v.sub v.rank s.board.lines) none)
      (ap (λ ticks. least_of (before_ticks wait ticks)) (unwaited v rest (due_unwaited v due)))

  -- a slot that isn't due has nothing, or waits
  undue_passed : (first : List LiveSlot) (wait next : Option ℕ) (v : LiveSlot) (rest : List LiveSlot) → is_due now s v ≡ false
      → least_of (before_ticks wait (waits_of now items s (v ∷ rest))) ≡ least_of (before_ticks next (waits_of now items s rest))
      → round_behind now items s first wait (v ∷ rest) ≡ round_behind now items s (first ++ v ∷ []) next rest
  undue_passed first wait next v rest undue least =
      slot_passed first wait next v rest (ap (λ b. (b || list_any (is_due now s) rest) && is_full s) undue)
      (ap (λ b. cond b (turn (history_of items v.item) v.wanted v.slot (came v.sub v.rank s.board.lines)) (nothing v)) undue) least

  quiet_passed : (first : List LiveSlot) (wait : Option ℕ) (v : LiveSlot) (rest : List LiveSlot) → is_due now s v ≡ false
      → is_pending (history_of items v.item) v.slot ≡ false
      → round_behind now items s first wait (v ∷ rest) ≡ round_behind now items s (first ++ v ∷ []) wait rest
  quiet_passed first wait v rest undue quiet =
      undue_passed first wait wait v rest undue
      (ap (λ ticks. least_of (before_ticks wait ticks))
      (unwaited v rest (ap (λ b. not b && is_pending (history_of items v.item) v.slot) undue ∙ quiet)))

  waiting_passed : (first : List LiveSlot) (wait : Option ℕ) (v : LiveSlot) (rest : List LiveSlot) → is_due now s v ≡ false
      → is_pending (history_of items v.item) v.slot ≡ true
      → round_behind now items s first wait (v ∷ rest)
      ≡ round_behind now items s (first ++ v ∷ []) (Some (option_map_or (min (due_at now s v)) wait (due_at now s v))) rest
  waiting_passed first wait v rest undue pends =
      undue_passed first wait (Some (option_map_or (min (due_at now s v)) wait (due_at now s v))) v rest undue
      (ap (λ b. least_of (before_ticks wait (cond b (due_at now s v ∷ waits_of now items s rest) (waits_of now items s rest))))
      (ap (λ b. not b && is_pending (history_of items v.item) v.slot) undue ∙ pends)
      ∙ least_met wait (due_at now s v) (waits_of now items s rest))

  -- behind the last slot there is nothing, before the least tick at which one that waits is due
  pub at_end : (n : ℕ) (wait : Option ℕ) → slice_get s.board.round n ≡ None
      → rest_of_round now items s n wait ≡ record { session = s; gives = waits_until wait }
  at_end n wait none =
      ap (λ (vs : List LiveSlot). round_behind now items s (take n s.board.round) wait vs) (none_behind s.board.round n none)
      ∙ ap (λ (vs : List LiveSlot). round_behind now items s vs wait []) (past_end s.board.round n none)
      ∙ ap (λ w. given_behind now s s.board.round w (record { kept = []; came = None })) (least_one wait)
      ∙ ap (λ (vs : List LiveSlot). given_behind now s [] wait (record { kept = vs; came = None })) (append-nil s.board.round)

  -- the slot of a place
  slot_at : (n : ℕ) (wait : Option ℕ) (v : LiveSlot) → slice_get s.board.round n ≡ Some v
      → rest_of_round now items s n wait ≡ round_behind now items s (take n s.board.round) wait (v ∷ drop (suc n) s.board.round)
  slot_at n wait v at = ap (λ (vs : List LiveSlot). round_behind now items s (take n s.board.round) wait vs) (drop_at s.board.round n v at)

  next_at : (n : ℕ) (wait : Option ℕ) (v : LiveSlot) → slice_get s.board.round n ≡ Some v
      → round_behind now items s (take n s.board.round ++ v ∷ []) wait (drop (suc n) s.board.round) ≡ rest_of_round now items s (n + 1) wait
  next_at n wait v at =
      ap (λ (vs : List LiveSlot). round_behind now items s vs wait (drop (suc n) s.board.round)) (sym (take_at s.board.round n v at))
      ∙ ap (λ m. rest_of_round now items s m wait) {x = suc n} {y = n + 1} (omega arith)

  pub nothing_told : (n : ℕ) (wait : Option ℕ) (v : LiveSlot) → is_due now s v ≡ true → is_full s ≡ false → slice_get s.board.round n ≡ Some v
      → cut (history_of items v.item) v.slot ≡ None → rest_of_round now items s n wait ≡ rest_of_round now items s (n + 1) wait
  nothing_told n wait v due left at none =
      slot_at n wait v at ∙ due_passed (take n s.board.round) wait v (drop (suc n) s.board.round) due left none ∙ next_at n wait v at

  pub quiet_told : (n : ℕ) (wait : Option ℕ) (v : LiveSlot) → is_due now s v ≡ false → slice_get s.board.round n ≡ Some v
      → is_pending (history_of items v.item) v.slot ≡ false → rest_of_round now items s n wait ≡ rest_of_round now items s (n + 1) wait
  quiet_told n wait v undue at quiet =
      slot_at n wait v at ∙ quiet_passed (take n s.board.round) wait v (drop (suc n) s.board.round) undue quiet ∙ next_at n wait v at

  pub waiting_told : (n : ℕ) (wait : Option ℕ) (v : LiveSlot) → is_due now s v ≡ false → slice_get s.board.round n ≡ Some v
      → is_pending (history_of items v.item) v.slot ≡ true
      → rest_of_round now items s n wait ≡ rest_of_round now items s (n + 1) (Some (option_map_or (min (due_at now s v)) wait (due_at now s v)))
  waiting_told n wait v undue at pends =
      slot_at n wait v at ∙ waiting_passed (take n s.board.round) wait v (drop (suc n) s.board.round) undue pends
      ∙ next_at n (Some (option_map_or (min (due_at now s v)) wait (due_at now s v))) v at

  -- a due slot, where no number is left
  pub spent_told : (n : ℕ) (wait : Option ℕ) (v : LiveSlot) → is_due now s v ≡ true → is_full s ≡ true → slice_get s.board.round n ≡ Some v
      → rest_of_round now items s n wait ≡ record { session = s; gives = Spent }
  spent_told n wait v due full at =
      slot_at n wait v at
      ∙ ap (λ b. cond ((b || list_any (is_due now s) (drop (suc n) s.board.round)) && is_full s) (record { session = s; gives = Spent })
      (given_behind now s (take n s.board.round) (least_of (before_ticks wait (waits_of now items s (v ∷ drop (suc n) s.board.round))))
      (round_of (is_due now s) items s.board.lines (v ∷ drop (suc n) s.board.round)))) due
      ∙ ap (λ b. cond b (record { session = s; gives = Spent })
      (given_behind now s (take n s.board.round) (least_of (before_ticks wait (waits_of now items s (v ∷ drop (suc n) s.board.round))))
      (round_of (is_due now s) items s.board.lines (v ∷ drop (suc n) s.board.round)))) full

-- a due slot's cut makes no line: the slot is past it, and is asked again
abbrev moved : Taken → LiveSlot → LiveSlot
moved t v = record v { slot = passed v.slot t }

module _ (now : ℕ) (items : List Item) (s : Session) (n : ℕ) (wait : Option ℕ) (v : LiveSlot) (t : Taken) (due : is_due now s v ≡ true)
    (left : is_full s ≡ false) (at : slice_get s.board.round n ≡ Some v) (is : cut (history_of items v.item) v.slot ≡ Some t) where
  abbrev first : List LiveSlot
  first = take n s.board.round

  abbrev rest : List LiveSlot
  rest = drop (suc n) s.board.round

  pub silent_told : what_of_cut v.wanted v.slot (came v.sub v.rank s.board.lines) t ≡ None
      → rest_of_round now items s n wait ≡ rest_of_round now items (on_board (λ b. record b { round = change n (moved t) b.round }) s) n wait
  silent_told none =
      slot_at now items s n wait v at ∙ left_for now items s first wait (v ∷ rest) left
      ∙ ap (λ ticks. given_behind now s first (least_of (before_ticks wait ticks)) (round_of (is_due now s) items s.board.lines (v ∷ rest)))
      (unwaited now items s v rest (due_unwaited now items s v due) ∙ sym (unwaited now items s (moved t v) rest (due_unwaited now items s (moved t v) due)))
      ∙ ap (λ (u : Turn). given_behind now s first (least_of (before_ticks wait (waits_of now items s (moved t v ∷ rest))))
      (met v rest (round_of (is_due now s) items s.board.lines rest) u))
      (ap (λ b. cond b (turn (history_of items v.item) v.wanted v.slot (came v.sub v.rank s.board.lines)) (nothing v)) due
      ∙ turn_silent (history_of items v.item) v.wanted v.slot (came v.sub v.rank s.board.lines) t is none
      ∙ sym (ap (λ b. cond b (turn (history_of items v.item) v.wanted (passed v.slot t) (came v.sub v.rank s.board.lines)) (nothing (moved t v))) due))
      ∙ ap (λ (vs : List LiveSlot). given_behind now s first (least_of (before_ticks wait (waits_of now items s vs)))
      (round_of (is_due now s) items s.board.lines vs)) (sym (drop_changed (moved t) s.board.round n v at))
      ∙ ap (λ (vs : List LiveSlot). given_behind now s vs (least_of (before_ticks wait (waits_of now items s (drop n (change n (moved t) s.board.round)))))
      (round_of (is_due now s) items s.board.lines (drop n (change n (moved t) s.board.round)))) (sym (take_changed (moved t) s.board.round n))
      ∙ sym (left_for now items (on_board (λ b. record b { round = change n (moved t) b.round }) s) (take n (change n (moved t) s.board.round)) wait
      (drop n (change n (moved t) s.board.round)) left)

  -- a due slot's cut makes a line: it is given, and the slot goes to the back
  pub line_told : (what : What) → what_of_cut v.wanted v.slot (came v.sub v.rank s.board.lines) t ≡ Some what
      → rest_of_round now items s n wait ≡ next_given (numbered (λ b. record {
        lines = Tells v.sub v.rank now (came_by v.slot t what) ∷ b.lines;
        round = (take n b.round ++ drop (n + 1) b.round) ++ moved t v ∷ [];
      }) s)
  line_told what some =
      slot_at now items s n wait v at ∙ left_for now items s first wait (v ∷ rest) left
      ∙ ap (λ (u : Turn). given_behind now s first (least_of (before_ticks wait (waits_of now items s (v ∷ rest))))
      (met v rest (round_of (is_due now s) items s.board.lines rest) u))
      (ap (λ b. cond b (turn (history_of items v.item) v.wanted v.slot (came v.sub v.rank s.board.lines)) (nothing v)) due
      ∙ turn_told (history_of items v.item) v.wanted v.slot (came v.sub v.rank s.board.lines) t what is some)
      ∙ ap (λ (m : ℕ). next_given (numbered (λ b. record {
        lines = Tells v.sub v.rank now (came_by v.slot t what) ∷ b.lines;
        round = (take n b.round ++ drop m b.round) ++ moved t v ∷ [];
      }) s)) {x = suc n} {y = n + 1} (omega arith)

-- a turn from the first slot is the session's turn
whole_round : (now : ℕ) (s : Session) (wait : Option ℕ) (kept : List LiveSlot) (o : Option RoundLine)
    → given_behind now s [] wait (record { kept = kept; came = o })
    ≡ with_found o (record { session = record s { board = given_by now s.board kept o }; gives = waits_until wait })
    (λ t. next_given (trimmed (record s { board = given_by now s.board kept o })))
whole_round now s wait kept None = refl
whole_round now s wait kept (Some t) = refl

pub from_first : (now : ℕ) (items : List Item) (epoch : ℕ) (s : Session) → epoch_from now items epoch s 0 None ≡ session_turn now items epoch s
from_first now items epoch s =
    ap (λ (t : SessionTurn). cond (nat_lt epoch (length s.streams)) (record { session = s; gives = Superseded (length s.streams) })
    (cond (is_bound s) t (record { session = s; gives = gives_unbound s.life }))) (by_life s.life)
  where
    met_all : Round
    met_all = round_of (is_due now s) items s.board.lines s.board.round

    by_round : rest_of_round now items s 0 None ≡ round_turn now items s
    by_round =
        ap (λ (t : SessionTurn). cond (list_any (is_due now s) s.board.round && is_full s) (record { session = s; gives = Spent }) t)
        (whole_round now s (least_wait now items s) met_all.kept met_all.came)

    by_owed : (owed : List (List ℕ)) → owing_from now items s 0 None owed ≡ turn_owing now items s owed
    by_owed (text ∷ owed) = refl
    by_owed [] =
        ap (λ (t : SessionTurn). cond (is_to_loop s.streams) (record { session = unbound_at now s; gives = Send loop_text })
        (cond (is_unsent s) (next_given s) t)) by_round

    by_life : (l : Life) → bound_from now items s 0 None l ≡ turn_bound now items s l
    by_life Alive = by_owed s.owed
    by_life (Ending code) = refl
    by_life (Closed code) = refl
