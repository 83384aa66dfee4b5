-- The round of a turn is that of its record.
use Rattle.std.proofs.Common.{◌≡◌, ◌<◌, ◌≤◌, ◌&&◌, ℕ, Bool, length, true, false, refl, sym, ◌∙◌, ap, subst, cond, arith}
use Rattle.std.proofs.Common.{Option, None, Some, is_some, nat_le, nat_lt, nat_eq, slice_get, option_map}
use Rattle.std.proofs.lemmas.Bool.{leb-true, leb-false, ltb-true, ltb-false, eqb-true}
use Rattle.ls_value.specs.declared.limits.TheConstants.{GREATEST_NUMBER, GREATEST_TICK}
use Rattle.ls_budget.specs.declared.due.Due.TheVariants as due
use Rattle.ls_budget.specs.Due.{due_at as due_answer}
use Rattle.ls_stream.proofs.Reading.{lines_last}
use Rattle.ls_stream.specs.Standing.{last_line}
use Rattle.ls_record.specs.Records.{LiveSlot, is_due, due_at}
use Rattle.ls_turns.specs.declared.slot_ref.SlotRef.{SlotRef}
use Rattle.ls_subs.specs.Standing.{ref_of}
use Rattle.std.specs.Option.{ForSome}
use Rattle.ls_session.specs.Asking.{Asking, is_now, asked_anew, resumed, questioned}
use Rattle.ls_session.specs.Front.{IsFront}
use Rattle.ls_session.specs.Record.{Record, Question, Turned, Asks, Spent, begun_at, round_asked}
use Rattle.ls_session.specs.Record.{from_place, wait_from, waits_until, question_of}
use Rattle.ls_session.specs.Session.{StandsSession, StandsRound, AnswersTurn, turn_of_wait}
use Rattle.ls_session.specs.declared.asking.Asked.{Asked}
use Rattle.ls_session.specs.declared.session.Turn.{Turn}
use Rattle.ls_session.specs.declared.session.Turn.TheVariants as turn
use Rattle.ls_session.specs.declared.session.Session.{Session as Kept}
use Rattle.ls_session.proofs.Moves.{round_anew, stands_anew}

-- a turn has this answer, and the session stands for the record after it
abbrev pub Does : Turned → Turn → Kept → Type 0
Does d t k = AnswersTurn d.gives t k × StandsSession k d.after

-- the record of a round that goes on, or began anew
abbrev pub resumed_record : ℕ → Record → Record
resumed_record now r = record r { tick = now; asked = from_place now r; asks = false; wait = wait_from now r }

none_is : {A : Type 0} (o : Option A) → is_some o ≡ false → o ≡ None
none_is None e = refl
none_is (Some a) e = absurd (let x : true ≡ false = e in cc)

resumed_by : (k : Asking) (r : Record) (now : ℕ) → StandsRound k r → r.floor ≤ now → now ≤ GREATEST_TICK → (asks same : Bool) → is_some k.question ≡ asks
    → nat_eq k.tick now ≡ same
    → StandsRound (cond asks (asked_anew now k) (cond same k (asked_anew now k)))
    (record r {
      tick = now;
      asked = cond (cond asks false same) r.asked 0;
      asks = false;
      wait = cond (cond asks false same) r.wait None;
    })
resumed_by k r now st above most true same e f = round_anew k r.number r.floor now r.session above most st.slots
resumed_by k r now st above most false false e f = round_anew k r.number r.floor now r.session above most st.slots
resumed_by k r now st above most false true e f =
    record {
      slots = st.slots;
      tick = eqb-true k.tick now f;
      above = above;
      most = most;
      next = st.next;
      asks = e;
      question = none_is k.question e;
      wait = st.wait;
      left = λ q x. absurd (let y : None ≡ Some q = x in cc);
    }

resumed_round : (k : Asking) (r : Record) (now : ℕ) → StandsRound k r → r.floor ≤ now → now ≤ GREATEST_TICK
    → StandsRound (resumed now k) (resumed_record now r)
resumed_round k r now st above most =
    subst (λ (b : Bool). StandsRound (resumed now k)
    (record r {
      tick = now;
      asked = cond (cond b false (nat_eq r.tick now)) r.asked 0;
      asks = false;
      wait = cond (cond b false (nat_eq r.tick now)) r.wait None;
    })) st.asks
    (subst (λ (n : ℕ). StandsRound (resumed now k)
    (record r {
      tick = now;
      asked = cond (cond (is_some k.question) false (nat_eq n now)) r.asked 0;
      asks = false;
      wait = cond (cond (is_some k.question) false (nat_eq n now)) r.wait None;
    })) st.tick (resumed_by k r now st above most (is_some k.question) (nat_eq k.tick now) refl refl))

-- what is true of it is true then, where it is when the round begins anew
resumed_keeps : (P : Asking → Type 0) (now : ℕ) (a : Asking) → P a → P (asked_anew now a) → P (resumed now a)
resumed_keeps P now a same anew = by_tests (is_some a.question) (nat_eq a.tick now)
  where
    by_tests : (asks here : Bool) → P (cond asks (asked_anew now a) (cond here a (asked_anew now a)))
    by_tests true here = anew
    by_tests false true = same
    by_tests false false = anew

pub stands_resumed : (k : Kept) (a : Asking) (r : Record) (now : ℕ) → StandsSession k r → r.floor ≤ now → now ≤ GREATEST_TICK → a ≡ resumed now k.asking
    → StandsSession (record k { asking = a }) (resumed_record now r)
stands_resumed k a r now st later most is =
    subst (λ (x : Asking). StandsSession (record k { asking = x }) (resumed_record now r)) (sym is)
    (record {
      number = st.number;
      lines = st.lines;
      round = resumed_round k.asking r now st.round later most;
      subs = st.subs;
      rate = st.rate;
      front = resumed_keeps (λ (x : Asking). ForSome x.front (λ f. IsFront x.turns f r.session.board.lines r.session.board.round)) now k.asking st.front
          st.front;
    })

-- the slot of a name
pub next_found : (slot : SlotRef) (o : Option LiveSlot) → Some slot ≡ option_map ref_of o → (v : LiveSlot) × ((o ≡ Some v) × (slot ≡ ref_of v))
next_found slot None e = absurd (let x : Some slot ≡ None = e in cc)
next_found slot (Some v) e = (v, (refl, let x : Some slot ≡ Some (ref_of v) = e in cc))

-- behind the last slot
waits_are : (k : Kept) (wait : Option ℕ) → AnswersTurn (waits_until wait) (turn_of_wait wait) k
waits_are k None = refl
waits_are k (Some tick) = refl

pub round_idle : (k k' : Kept) (r : Record) (now : ℕ) (t : Turn) → StandsSession k r → r.tick ≡ now
    → option_map ref_of (slice_get r.session.board.round r.asked) ≡ None → t ≡ turn_of_wait k.asking.wait
    → k' ≡ record k { asking = asked_anew now k.asking }
    → Does (round_asked now r.wait r r.asked (slice_get r.session.board.round r.asked)) t k'
round_idle k k' r now t st tick none idle after =
    by_slot (slice_get r.session.board.round r.asked) none
  where
    by_slot : (o : Option LiveSlot) → option_map ref_of o ≡ None → Does (round_asked now r.wait r r.asked o) t k'
    by_slot (Some v) e = absurd (let x : Some (ref_of v) ≡ None = e in cc)
    by_slot None e =
        subst (λ (x : Turn). AnswersTurn (waits_until r.wait) x k' × StandsSession k' (begun_at now r.session r))
        (sym (idle ∙ ap turn_of_wait st.round.wait))
        (subst (λ (x : Kept). AnswersTurn (waits_until r.wait) (turn_of_wait r.wait) x × StandsSession x (begun_at now r.session r)) (sym after) (
          waits_are (record k { asking = asked_anew now k.asking }) r.wait,
          stands_anew k k.lines r r.session r.floor now st (omega arith) (subst (λ (n : ℕ). r.floor ≤ n) tick st.round.above)
              (subst (λ (n : ℕ). n ≤ GREATEST_TICK) tick st.round.most) st.lines refl refl,
        ))

-- whether an answered tick is now
pub is_now_due : (tick now : ℕ) → is_now (due_answer tick now) ≡ nat_le tick now
is_now_due tick now = by_tests (nat_lt now tick) (nat_le tick now) refl refl
  where
    by_tests : (a b : Bool) → nat_lt now tick ≡ a → nat_le tick now ≡ b → is_now (cond a (due.At tick) due.Now) ≡ b
    by_tests true false e f = refl
    by_tests false true e f = refl
    by_tests true true e f = absurd (omega (arith, ltb-true now tick e, leb-true tick now f))
    by_tests false false e f = absurd (omega (arith, ltb-false now tick e, leb-false tick now f))

few_is : (n : ℕ) → n < GREATEST_NUMBER → nat_le GREATEST_NUMBER n ≡ false
few_is n low = by_test (nat_le GREATEST_NUMBER n) refl
  where
    by_test : (v : Bool) → nat_le GREATEST_NUMBER n ≡ v → v ≡ false
    by_test false t = refl
    by_test true t = absurd (omega (arith, low, leb-true GREATEST_NUMBER n t))

spent_is : (n : ℕ) → GREATEST_NUMBER ≤ n → nat_le GREATEST_NUMBER n ≡ true
spent_is n high = by_test (nat_le GREATEST_NUMBER n) refl
  where
    by_test : (v : Bool) → nat_le GREATEST_NUMBER n ≡ v → v ≡ true
    by_test true t = refl
    by_test false t = absurd (omega (arith, high, leb-false GREATEST_NUMBER n t))

-- a slot that is due, where no number is left
pub round_spent : (k k' : Kept) (r : Record) (now : ℕ) (v : LiveSlot) (t : Turn) → StandsSession k r → r.tick ≡ now
    → slice_get r.session.board.round r.asked ≡ Some v → is_due now r.session v ≡ true → GREATEST_NUMBER ≤ last_line k.lines → t ≡ turn.Spent
    → k' ≡ record k { asking = asked_anew now k.asking }
    → Does (round_asked now r.wait r r.asked (slice_get r.session.board.round r.asked)) t k'
round_spent k k' r now v t st tick some is high spent after =
    subst (λ (o : Option LiveSlot). Does (round_asked now r.wait r r.asked o) t k') (sym some)
    (subst (λ (b : Bool). Does (cond b (record { after = begun_at now r.session r; gives = Spent })
    (record {
      after = record r { tick = now; asked = r.asked; asks = true; wait = r.wait };
      gives = Asks (record { live = v; due = is_due now r.session v });
    })) t k')
    (sym (ap (λ b. b && nat_le GREATEST_NUMBER (length r.session.board.lines)) is
    ∙ spent_is (length r.session.board.lines) (omega (arith, high, lines_last k.lines r.session st.lines))))
    (subst (λ (x : Kept). (t ≡ turn.Spent) × StandsSession x (begun_at now r.session r)) (sym after) (
      spent,
      stands_anew k k.lines r r.session r.floor now st (omega arith) (subst (λ (n : ℕ). r.floor ≤ n) tick st.round.above)
          (subst (λ (n : ℕ). n ≤ GREATEST_TICK) tick st.round.most) st.lines refl refl,
    )))

-- what is asked of the next slot
asked_question : (r : Record) (now : ℕ) (v : LiveSlot) → slice_get r.session.board.round r.asked ≡ Some v
    → question_of (record r { tick = now; asked = r.asked; asks = true; wait = r.wait })
    ≡ Some (record { live = v; due = is_due now r.session v })
asked_question r now v some = ap (option_map (λ (u : LiveSlot). record { live = u; due = is_due now r.session u })) some

-- the next slot is asked
pub round_asks : (k k' : Kept) (r : Record) (now : ℕ) (v : LiveSlot) (a : Asked) (t : Turn) → StandsSession k r → r.tick ≡ now
    → slice_get r.session.board.round r.asked ≡ Some v → a ≡ record { slot = ref_of v; due = due_answer (due_at now r.session v) now }
    → (is_due now r.session v ≡ true → last_line k.lines < GREATEST_NUMBER)
    → t ≡ turn.Ask (record { slot = ref_of v; due = is_due now r.session v })
    → k' ≡ record k { asking = questioned a k.asking }
    → Does (round_asked now r.wait r r.asked (slice_get r.session.board.round r.asked)) t k'
round_asks k k' r now v a t st tick some is low asks after =
    let r' : Record = record r { tick = now; asked = r.asked; asks = true; wait = r.wait } in
    let q : question_of r' ≡ Some (record { live = v; due = is_due now r.session v }) = asked_question r now v some in
    subst (λ (o : Option LiveSlot). Does (round_asked now r.wait r r.asked o) t k') (sym some)
    (subst (λ (b : Bool). Does (cond b (record { after = begun_at now r.session r; gives = Spent })
    (record { after = r'; gives = Asks (record { live = v; due = is_due now r.session v }) })) t k')
    (sym (few (is_due now r.session v) low))
    (subst (λ (x : Kept). (t ≡ turn.Ask (record { slot = ref_of v; due = is_due now r.session v })) × StandsSession x r') (sym after) (
      asks,
      record {
        number = st.number;
        lines = st.lines;
        round = record {
          slots = st.round.slots;
          tick = st.round.tick ∙ tick;
          above = subst (λ (n : ℕ). r.floor ≤ n) tick st.round.above;
          most = subst (λ (n : ℕ). n ≤ GREATEST_TICK) tick st.round.most;
          next = st.round.next;
          asks = refl;
          question = ap Some is
              ∙ ap (option_map (λ (x : Question). record { slot = ref_of x.live; due = due_answer (due_at now r.session x.live) now })) (sym q);
          wait = st.round.wait;
          left = λ x e f. omega (arith, low (due_in x e f), lines_last k.lines r.session st.lines);
        };
        subs = st.subs;
        rate = st.rate;
        front = st.front;
      },
    )))
  where
    few : (b : Bool) → (b ≡ true → last_line k.lines < GREATEST_NUMBER) → (b && nat_le GREATEST_NUMBER (length r.session.board.lines)) ≡ false
    few false e = refl
    few true e = few_is (length r.session.board.lines) (omega (arith, e refl, lines_last k.lines r.session st.lines))

    due_in : (x : Question) → question_of (record r { tick = now; asked = r.asked; asks = true; wait = r.wait }) ≡ Some x
        → x.due ≡ true → is_due now r.session v ≡ true
    due_in x e f =
        let y : Some x ≡ Some (record { live = v; due = is_due now r.session v }) = sym e ∙ asked_question r now v some in
        let same : x ≡ record { live = v; due = is_due now r.session v } = cc in
        sym (ap (λ (z : Question). z.due) same) ∙ f
