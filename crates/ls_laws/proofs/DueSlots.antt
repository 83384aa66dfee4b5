-- Which slots give lines, and when the first one that waits may.
use Rattle.std.proofs.Common.{◌≡◌, ◌⊎◌, inl, inr, ℕ, zero, suc, ◌+◌, ◌/◌, ◌<◌, ◌≤◌, List, [], ◌∷◌, min, max, refl, sym, ◌∙◌, ap, arith, subst, cond}
use Rattle.std.proofs.Common.{IfSome, Bool, true, false, not, ◌&&◌, ◌||◌, Option, Some, None, nat_le}
use Rattle.std.specs.List.{Contains, list_any}
use Rattle.std.specs.Option.{ForSome, option_map_or}
use Rattle.std.proofs.lemmas.Bool.{leb-true}
use Rattle.std.proofs.lemmas.Bool.Decides.{nat_tests}
use Rattle.ls_value.proofs.Rows.{and_left}
use Rattle.ls_budget.specs.Budget.{Spend, has_credit, debt, frequency_tick, credit_tick}
use Rattle.ls_budget.specs.Due.{allows, IsFirst}
use Rattle.ls_budget.specs.Window.{latest_tick}
use Rattle.ls_budget.proofs.Credits.{credit_stays, credit_tick_first}
use Rattle.ls_event.specs.Cuts.{is_pending}
use Rattle.ls_event.specs.Slots.{Slot}
use Rattle.ls_record.specs.Came.{Came}
use Rattle.ls_record.specs.Cutting.{turn}
use Rattle.ls_record.specs.Lines.{Line, Tells, came, updated}
use Rattle.ls_record.specs.Records.{Item, LiveSlot, Session, RoundLine, Round, history_of, live_turn, round_of, taken_in}
use Rattle.ls_record.specs.Records.{numbered, due_at, is_due, is_waiting}
use Rattle.ls_record.specs.Records.{least_of, waits_of, least_wait}
use Rattle.ls_record.specs.Turning.{Send, Idle, NotDue, SessionTurn, waits_until, session_turn}
use Rattle.ls_value.specs.Each.{Each}
use Rattle.ls_record.proofs.Each.{each_map, each_contains}
use Rattle.ls_record.proofs.Parts.{turn_if, met_by, given_by}
use Rattle.ls_laws.specs.Budgets.{spends_of, IsOfDue, NumbersDue, IsLeastWait, is_any_due}
use Rattle.ls_lawful.proofs.Sessions.{turn_rule, next_rule}

-- a slot is due where its frequency's tick is reached and there is credit
max_test : (a b now : ℕ) → nat_le (max a b) now ≡ (nat_le a now && nat_le b now)
max_test a b now = grind (arith, nat_tests)

credit_test : (rate : Option ℕ) (spends : List Spend) (now : ℕ) → nat_le (credit_tick rate spends now) now ≡ allows rate spends now
credit_test None spends now = grind (arith, nat_tests)
credit_test (Some r) spends now = by_test (has_credit r spends now)
  where
    by_test : (b : Bool) → nat_le (cond b now (now + debt r spends now / r + 1)) now ≡ b
    by_test true = grind (arith, nat_tests)
    by_test false = grind (arith, nat_tests)

pub due_is : (now : ℕ) (s : Session) (v : LiveSlot) → is_due now s v
    ≡ (nat_le (frequency_tick v.frequency (updated v.sub v.rank s.board.lines)) now && allows s.rate.limit (spends_of s) now)
due_is now s v =
    max_test (frequency_tick v.frequency (updated v.sub v.rank s.board.lines)) (credit_tick s.rate.limit (spends_of s) now) now
    ∙ ap (λ b. nat_le (frequency_tick v.frequency (updated v.sub v.rank s.board.lines)) now && b) (credit_test s.rate.limit (spends_of s) now)

-- elements of a list
pub contains_first : {A : Type 0} (x : A) (xs : List A) → Contains (x ∷ xs) x
contains_first x xs = (zero, omega arith, refl)

pub contains_behind : {A : Type 0} (y x : A) (xs : List A) → Contains xs x → Contains (y ∷ xs) x
contains_behind y x xs c = (suc c.0, omega (arith, c.1), c.2)

-- a round's line is that of a slot that is due
record Gives (is_due : LiveSlot → Bool) (vs : List LiveSlot) (t : RoundLine) : Type 0 where
  slot : LiveSlot
  is_in : Contains vs slot
  due : is_due slot ≡ true
  same : t.live ≡ record slot { slot = t.live.slot }

gives_behind : (is_due : LiveSlot → Bool) (v : LiveSlot) (vs : List LiveSlot) (t : RoundLine) → Gives is_due vs t → Gives is_due (v ∷ vs) t
gives_behind is_due v vs t g = record { slot = g.slot; is_in = contains_behind v g.slot vs g.is_in; due = g.due; same = g.same }

the_line : (a b : RoundLine) → Some a ≡ Some b → a ≡ b
the_line a b is = cc

met_gives : (is_due : LiveSlot → Bool) (v : LiveSlot) (s : Slot) (o : Option Came) (vs : List LiveSlot) (rest : Round) (t : RoundLine)
    → IfSome o (λ c. is_due v ≡ true) → (rest.came ≡ Some t → Gives is_due vs t) → (met_by (record v { slot = s }) o vs rest).came ≡ Some t
    → Gives is_due (v ∷ vs) t
met_gives is_due v s None vs rest t due more is = gives_behind is_due v vs t (more is)
met_gives is_due v s (Some c) vs rest t due more is =
    let same : record { live = record v { slot = s }; came = c } ≡ t = the_line (record { live = record v { slot = s }; came = c }) t is in
    record {
      slot = v;
      is_in = contains_first v vs;
      due = due;
      same = ap (λ (x : RoundLine). x.live) (sym same) ∙ ap (λ (x : RoundLine). record v { slot = x.live.slot }) same;
    }

-- a slot that isn't due gives none
came_of_due : (is_due : LiveSlot → Bool) (items : List Item) (lines : List Line) (v : LiveSlot) → IfSome (live_turn is_due items lines v).came (λ c. is_due v ≡ true)
came_of_due is_due items lines v = by_due (is_due v) refl
  where
    always : (o : Option Came) → is_due v ≡ true → IfSome o (λ c. is_due v ≡ true)
    always None e = tt
    always (Some c) e = e

    by_due : (b : Bool) → is_due v ≡ b
        → IfSome (turn_if b v.slot (turn (history_of items v.item) v.wanted v.slot (came v.sub v.rank lines))).came (λ c. is_due v ≡ true)
    by_due true e = always (turn (history_of items v.item) v.wanted v.slot (came v.sub v.rank lines)).came e
    by_due false e = tt

round_gives : (is_due : LiveSlot → Bool) (items : List Item) (lines : List Line) (vs : List LiveSlot) (t : RoundLine)
    → (round_of is_due items lines vs).came ≡ Some t → Gives is_due vs t
round_gives is_due items lines [] t is = absurd (let x : None ≡ Some t = is in cc)
round_gives is_due items lines (v ∷ vs) t is =
    met_gives is_due v (live_turn is_due items lines v).slot (live_turn is_due items lines v).came vs (round_of is_due items lines vs) t
    (came_of_due is_due items lines v) (round_gives is_due items lines vs t) is

pub line_of_due : (now : ℕ) (items : List Item) (s : Session) (t : RoundLine) → (round_of (is_due now s) items s.board.lines s.board.round).came ≡ Some t
    → IsOfDue now s t
line_of_due now items s t is =
    let g : Gives (is_due now s) s.board.round t = round_gives (is_due now s) items s.board.lines s.board.round t is in
    record { slot = g.slot; is_in = g.is_in; due = g.due; same = g.same }

-- what a turn numbers
abbrev Numbers : ℕ → Session → Session → Type 0
Numbers now s after = (after.board.lines ≡ s.board.lines) ⊎ NumbersDue now s after.board.lines

pub turn_numbers : (now : ℕ) (items : List Item) (epoch : ℕ) (s : Session) → Numbers now s (session_turn now items epoch s).session
turn_numbers now items epoch s =
    turn_rule (λ (t : SessionTurn). Numbers now s t.session) now items epoch s (record {
      superseded = inl refl;
      unbound = inl refl;
      owes = λ text owed. inl refl;
      loops = inl refl;
      next = next_rule (Numbers now s) s (inl refl) (inl refl);
      spent = inl refl;
      waits = λ none. inl (ap (λ o. (given_by now s.board r.kept o).lines) none);
      tells = λ t some. next_rule (Numbers now s) (numbered (taken_in (is_due now s) now items) s) (inr (one_more t some)) (inr (one_more t some));
      ending = λ code. inl refl;
      over = λ code. inl refl;
    })
  where
    r : Round
    r = round_of (is_due now s) items s.board.lines s.board.round

    one_more : (t : RoundLine) → r.came ≡ Some t → NumbersDue now s (taken_in (is_due now s) now items s.board).lines
    one_more t some =
        let d : IsOfDue now s t = line_of_due now items s t some in
        record {
          slot = d.slot;
          is_in = d.is_in;
          due = d.due;
          came = t.came;
          is = ap (λ o. (given_by now s.board r.kept o).lines) some
              ∙ ap (λ (v : LiveSlot). Tells v.sub v.rank now t.came ∷ s.board.lines) d.same;
        }

-- what a turn gives where it gives no line
turn_waits : (now : ℕ) (items : List Item) (epoch : ℕ) (s : Session) (tick : ℕ) → (session_turn now items epoch s).gives ≡ NotDue tick
    → least_wait now items s ≡ Some tick
turn_waits now items epoch s tick =
    turn_rule (λ (t : SessionTurn). t.gives ≡ NotDue tick → least_wait now items s ≡ Some tick) now items epoch s (record {
      superseded = λ is. cc;
      unbound = λ is. cc;
      owes = λ text owed is. no_line text is;
      loops = λ is. no_line _ is;
      next = λ is. no_line _ is;
      spent = λ is. cc;
      waits = λ none is. by_wait (least_wait now items s) is;
      tells = λ t some is. no_line _ is;
      ending = λ code is. no_line _ is;
      over = λ code is. cc;
    })
  where
    no_line : (text : List ℕ) → Send text ≡ NotDue tick → least_wait now items s ≡ Some tick
    no_line text is = cc

    by_wait : (o : Option ℕ) → waits_until o ≡ NotDue tick → o ≡ Some tick
    by_wait None is = cc
    by_wait (Some n) is = cc

turn_idle : (now : ℕ) (items : List Item) (epoch : ℕ) (s : Session) → (session_turn now items epoch s).gives ≡ Idle → least_wait now items s ≡ None
turn_idle now items epoch s =
    turn_rule (λ (t : SessionTurn). t.gives ≡ Idle → least_wait now items s ≡ None) now items epoch s (record {
      superseded = λ is. cc;
      unbound = λ is. cc;
      owes = λ text owed is. no_line text is;
      loops = λ is. no_line _ is;
      next = λ is. no_line _ is;
      spent = λ is. cc;
      waits = λ none is. by_wait (least_wait now items s) is;
      tells = λ t some is. no_line _ is;
      ending = λ code is. no_line _ is;
      over = λ code is. cc;
    })
  where
    no_line : (text : List ℕ) → Send text ≡ Idle → least_wait now items s ≡ None
    no_line text is = cc

    by_wait : (o : Option ℕ) → waits_until o ≡ Idle → o ≡ None
    by_wait None is = refl
    by_wait (Some n) is = cc

-- the least wait of slots
record Least (now : ℕ) (items : List Item) (s : Session) (vs : List LiveSlot) (tick : ℕ) : Type 0 where
  slot : LiveSlot
  is_in : Contains vs slot
  waits : is_waiting now items s slot ≡ true
  at : due_at now s slot ≡ tick
  least : Each (λ v. is_waiting now items s v ≡ true → tick ≤ due_at now s v) vs

abbrev NoneWaits : ℕ → List Item → Session → List LiveSlot → Type 0
NoneWaits now items s vs = Each (λ v. is_waiting now items s v ≡ false) vs

none_waits : (now : ℕ) (items : List Item) (s : Session) (vs : List LiveSlot) → least_of (waits_of now items s vs) ≡ None → NoneWaits now items s vs
none_waits now items s [] is = tt
none_waits now items s (v ∷ vs) is = by_test (is_waiting now items s v) refl (none_waits now items s vs) is
  where
    by_test : (b : Bool) → is_waiting now items s v ≡ b → (least_of (waits_of now items s vs) ≡ None → NoneWaits now items s vs)
        → least_of (cond b (due_at now s v ∷ waits_of now items s vs) (waits_of now items s vs)) ≡ None → NoneWaits now items s (v ∷ vs)
    by_test true e more is =
        absurd (let x : Some (option_map_or (min (due_at now s v)) (least_of (waits_of now items s vs)) (due_at now s v)) ≡ None = is in cc)
    by_test false e more is = (e, more is)

-- a slot in front that waits longer or not at all
least_behind : (now : ℕ) (items : List Item) (s : Session) (v : LiveSlot) (vs : List LiveSlot) (tick : ℕ)
    → (is_waiting now items s v ≡ true → tick ≤ due_at now s v) → Least now items s vs tick → Least now items s (v ∷ vs) tick
least_behind now items s v vs tick more k =
    record { slot = k.slot; is_in = contains_behind v k.slot vs k.is_in; waits = k.waits; at = k.at; least = (more, k.least) }

-- and one that waits no longer
least_first : (now : ℕ) (items : List Item) (s : Session) (v : LiveSlot) (vs : List LiveSlot) (tick : ℕ) → is_waiting now items s v ≡ true
    → due_at now s v ≡ tick → Each (λ u. is_waiting now items s u ≡ true → tick ≤ due_at now s u) vs → Least now items s (v ∷ vs) tick
least_first now items s v vs tick waits at least =
    record { slot = v; is_in = contains_first v vs; waits = waits; at = at; least = ((λ w. omega (arith, at)), least) }

least_met : (now : ℕ) (items : List Item) (s : Session) (v : LiveSlot) (vs : List LiveSlot) (tick : ℕ) (o : Option ℕ) → is_waiting now items s v ≡ true
    → (o ≡ None → NoneWaits now items s vs) → ((n : ℕ) → o ≡ Some n → Least now items s vs n)
    → Some (option_map_or (min (due_at now s v)) o (due_at now s v)) ≡ Some tick → Least now items s (v ∷ vs) tick
least_met now items s v vs tick None waits none some is =
    let at : due_at now s v ≡ tick = cc in
    least_first now items s v vs tick waits at
    (each_map (λ u. is_waiting now items s u ≡ false) (λ u. is_waiting now items s u ≡ true → tick ≤ due_at now s u) vs
    (λ u no yes. absurd (let x : true ≡ false = sym yes ∙ no in cc)) (none refl))
least_met now items s v vs tick (Some n) waits none some is = by_order (nat_le (due_at now s v) n) refl
  where
    k : Least now items s vs n
    k = some n refl

    least : min (due_at now s v) n ≡ tick
    least = let x : Some (min (due_at now s v) n) ≡ Some tick = is in cc

    by_order : (b : Bool) → nat_le (due_at now s v) n ≡ b → Least now items s (v ∷ vs) tick
    by_order true t =
        let low : due_at now s v ≤ n = leb-true (due_at now s v) n t in
        let at : due_at now s v ≡ tick = grind (arith, nat_tests, least, low) in
        least_first now items s v vs tick waits at
        (each_map (λ u. is_waiting now items s u ≡ true → n ≤ due_at now s u) (λ u. is_waiting now items s u ≡ true → tick ≤ due_at now s u) vs
        (λ u f yes. omega (arith, f yes, low, at)) k.least)
    by_order false t =
        let high : n < due_at now s v = grind (arith, nat_tests, t) in
        let at : n ≡ tick = grind (arith, nat_tests, least, high) in
        least_behind now items s v vs tick (λ yes. omega (arith, high, at)) (subst (Least now items s vs) at k)

least_is : (now : ℕ) (items : List Item) (s : Session) (vs : List LiveSlot) (tick : ℕ) → least_of (waits_of now items s vs) ≡ Some tick
    → Least now items s vs tick
least_is now items s [] tick is = absurd (let x : None ≡ Some tick = is in cc)
least_is now items s (v ∷ vs) tick is = by_test (is_waiting now items s v) refl (least_is now items s vs) is
  where
    by_test : (b : Bool) → is_waiting now items s v ≡ b → ((n : ℕ) → least_of (waits_of now items s vs) ≡ Some n → Least now items s vs n)
        → least_of (cond b (due_at now s v ∷ waits_of now items s vs) (waits_of now items s vs)) ≡ Some tick → Least now items s (v ∷ vs) tick
    by_test true e more is =
        least_met now items s v vs tick (least_of (waits_of now items s vs)) e (none_waits now items s vs) more is
    by_test false e more is =
        least_behind now items s v vs tick (λ yes. absurd (let x : true ≡ false = sym yes ∙ e in cc)) (more tick is)

pub wait_is_least : (now : ℕ) (items : List Item) (epoch : ℕ) (s : Session) (tick : ℕ) → (session_turn now items epoch s).gives ≡ NotDue tick
    → IsLeastWait now items s tick
wait_is_least now items epoch s tick is =
    let k : Least now items s s.board.round tick = least_is now items s s.board.round tick (turn_waits now items epoch s tick is) in
    record {
      slot = k.slot;
      is_in = k.is_in;
      waits = k.waits;
      at = k.at;
      least = λ v is_in. each_contains (λ u. is_waiting now items s u ≡ true → tick ≤ due_at now s u) v s.board.round k.least is_in;
    }

pub idle_waits : (now : ℕ) (items : List Item) (epoch : ℕ) (s : Session) → (session_turn now items epoch s).gives ≡ Idle → (v : LiveSlot)
    → Contains s.board.round v → is_waiting now items s v ≡ false
idle_waits now items epoch s is v is_in =
    each_contains (λ u. is_waiting now items s u ≡ false) v s.board.round (none_waits now items s s.board.round (turn_idle now items epoch s is)) is_in

not_true : (b : Bool) → not b ≡ true → b ≡ false
not_true true e = cc
not_true false e = refl

waits_later : (now : ℕ) (items : List Item) (s : Session) (v : LiveSlot) → is_waiting now items s v ≡ true → now < due_at now s v
waits_later now items s v w =
    let e : nat_le (due_at now s v) now ≡ false = not_true (is_due now s v) (and_left (not (is_due now s v)) (is_pending (history_of items v.item) v.slot) w) in
    grind (arith, nat_tests, e)

pub wait_is_later : (now : ℕ) (items : List Item) (epoch : ℕ) (s : Session) (tick : ℕ) → (session_turn now items epoch s).gives ≡ NotDue tick → now < tick
wait_is_later now items epoch s tick is =
    let k : IsLeastWait now items s tick = wait_is_least now items epoch s tick is in omega (arith, waits_later now items s k.slot k.waits, k.at)

-- the first tick at which a slot is due
allows_stays : (rate : Option ℕ) (spends : List Spend) (now later : ℕ) → now ≤ later → allows rate spends now ≡ true → allows rate spends later ≡ true
allows_stays None spends now later more is = refl
allows_stays (Some r) spends now later more is = credit_stays r spends now later more is

slot_first : (now : ℕ) (s : Session) (v : LiveSlot) → ForSome s.rate.limit (λ r. 0 < r) → latest_tick (spends_of s) ≤ now
    → IsFirst (λ m. is_due m s v) now (due_at now s v)
slot_first now s v some behind =
    record {
      from_now = grind (arith, nat_tests, c.from_now);
      so = due_is (max f t) s v
          ∙ and_both (nat_le f (max f t)) (allows s.rate.limit (spends_of s) (max f t)) (grind (arith, nat_tests))
          (allows_stays s.rate.limit (spends_of s) t (max f t) (grind (arith, nat_tests)) c.so);
      not_before = λ m from before. due_is m s v ∙ by_order m from before (nat_le t m) refl;
    }
  where
    f : ℕ
    f = frequency_tick v.frequency (updated v.sub v.rank s.board.lines)

    t : ℕ
    t = credit_tick s.rate.limit (spends_of s) now

    c : IsFirst (allows s.rate.limit (spends_of s)) now t
    c = credit_tick_first s.rate.limit (spends_of s) now some behind

    and_both : (a b : Bool) → a ≡ true → b ≡ true → (a && b) ≡ true
    and_both true b e g = g
    and_both false b e g = cc

    none_left : (a b : Bool) → a ≡ false → (a && b) ≡ false
    none_left true b e = cc
    none_left false b e = refl

    none_right : (a b : Bool) → b ≡ false → (a && b) ≡ false
    none_right true b e = e
    none_right false b e = refl

    by_order : (m : ℕ) → now ≤ m → m < max f t → (b : Bool) → nat_le t m ≡ b → (nat_le f m && allows s.rate.limit (spends_of s) m) ≡ false
    by_order m from before true e =
        none_left (nat_le f m) (allows s.rate.limit (spends_of s) m) (grind (arith, nat_tests, leb-true t m e, before))
    by_order m from before false e =
        none_right (nat_le f m) (allows s.rate.limit (spends_of s) m) (c.not_before m from (grind (arith, nat_tests, e)))

-- tests of a list
any_true : {A : Type 0} (p : A → Bool) (x : A) (xs : List A) → Contains xs x → p x ≡ true → list_any p xs ≡ true
any_true p x [] c e = absurd (omega (arith, c.1))
any_true p x (y ∷ ys) (zero, within, is) e = let t : p y ≡ true = ap p is ∙ e in rw t refl
any_true p x (y ∷ ys) (suc k, within, is) e =
    let t : list_any p ys ≡ true = any_true p x ys (k, omega (arith, within), is) e in by_test (p y) t
  where
    by_test : (b : Bool) → list_any p ys ≡ true → (b || list_any p ys) ≡ true
    by_test true t = refl
    by_test false t = t

any_false : {A : Type 0} (p : A → Bool) (xs : List A) → Each (λ x. p x ≡ false) xs → list_any p xs ≡ false
any_false p [] e = refl
any_false p (x ∷ xs) e = rw e.0 (any_false p xs e.1)

pub wait_is_first : (now : ℕ) (items : List Item) (epoch : ℕ) (s : Session) (tick : ℕ) → ForSome s.rate.limit (λ r. 0 < r)
    → latest_tick (spends_of s) ≤ now → (session_turn now items epoch s).gives ≡ NotDue tick → IsFirst (is_any_due now items s) now tick
wait_is_first now items epoch s tick some behind is =
    let k : Least now items s s.board.round tick = least_is now items s s.board.round tick (turn_waits now items epoch s tick is) in
    let due : is_due tick s k.slot ≡ true = ap (λ m. is_due m s k.slot) (sym k.at) ∙ (slot_first now s k.slot some behind).so in
    let both : (is_waiting now items s k.slot && is_due tick s k.slot) ≡ true = rw (k.waits, due) refl in
    record {
      from_now = omega (arith, wait_is_later now items epoch s tick is);
      so = any_true (λ v. is_waiting now items s v && is_due tick s v) k.slot s.board.round k.is_in both;
      not_before = λ m from before. any_false (λ v. is_waiting now items s v && is_due m s v) s.board.round
          (each_map (λ v. is_waiting now items s v ≡ true → tick ≤ due_at now s v) (λ v. (is_waiting now items s v && is_due m s v) ≡ false) s.board.round
          (λ v f. by_waiting v m from before f (is_waiting now items s v) refl) k.least);
    }
  where
    by_waiting : (v : LiveSlot) (m : ℕ) → now ≤ m → m < tick → (is_waiting now items s v ≡ true → tick ≤ due_at now s v) → (b : Bool)
        → is_waiting now items s v ≡ b → (b && is_due m s v) ≡ false
    by_waiting v m from before f true e = (slot_first now s v some behind).not_before m from (omega (arith, f e, before))
    by_waiting v m from before f false e = refl
