-- The first slots of a round, which wait, are passed over.
use Rattle.std.proofs.Common.{◌≡◌, ◌<◌, ◌+◌, ◌∙◌, ℕ, Bool, None, Some, true, false, inr, refl, sym, ap, subst, cond, arith, max, nat_lt, nat_le}
use Rattle.std.specs.Option.{ForSome}
use Rattle.std.proofs.lemmas.Bool.{leb-true, ltb-true, lt-ltb}
use Rattle.ls_budget.specs.Budget.{credit_tick}
use Rattle.ls_budget.specs.Due.{due_at as due_answer}
use Rattle.ls_budget.specs.declared.due.Due.TheVariants as due
use Rattle.ls_record.specs.Lines.{spends_behind}
use Rattle.ls_session.specs.Asking.{Asking, BeginsAtFront, PassesTo}
use Rattle.ls_session.specs.Front.{IsFront, HoldsFirst}
use Rattle.ls_session.specs.Record.{Record}
use Rattle.ls_session.specs.Session.{StandsSession, StandsRound, PassesFront}
use Rattle.ls_session.specs.declared.session.Session.{Session as Kept}
use Rattle.ls_session.proofs.Fronts.{first_held, at_first}
use Rattle.ls_session.proofs.Turns.{resumed_record}

-- other first slots are known to wait
pub learned : (k : Kept) (a : Asking) (r : Record) → StandsSession k r → a ≡ record k.asking { front = a.front }
    → ForSome a.front (λ f. IsFront a.turns f r.session.board.lines r.session.board.round) → StandsSession (record k { asking = a }) r
learned k a r st rest known =
    record {
      number = st.number;
      lines = st.lines;
      round = subst (λ (x : Asking). StandsRound x r) (sym rest)
          (record {
            slots = st.round.slots;
            tick = st.round.tick;
            above = st.round.above;
            most = st.round.most;
            next = st.round.next;
            asks = st.round.asks;
            question = st.round.question;
            wait = st.round.wait;
            left = st.round.left;
          });
      subs = st.subs;
      rate = st.rate;
      front = known;
    }

-- a tick that is answered is that at which something is due, and it is to come
pub at_is : (tick now t : ℕ) → due_answer tick now ≡ due.At t → (t ≡ tick) × (now < tick)
at_is tick now t is = by_test (nat_lt now tick) refl is
  where
    by_test : (b : Bool) → nat_lt now tick ≡ b → cond b (due.At tick) due.Now ≡ due.At t → (t ≡ tick) × (now < tick)
    by_test true e f = ((let x : due.At tick ≡ due.At t = f in let same : tick ≡ t = cc in sym same), ltb-true now tick e)
    by_test false e f = absurd (let x : due.Now ≡ due.At t = f in cc)

pub at_later : (tick now : ℕ) → now < tick → due.At tick ≡ due_answer tick now
at_later tick now late = sym (ap (λ b. cond b (due.At tick) due.Now) (lt-ltb now tick late))

pub not_yet : (tick now : ℕ) → now < tick → nat_le tick now ≡ false
not_yet tick now late = by_test (nat_le tick now) refl
  where
    by_test : (b : Bool) → nat_le tick now ≡ b → b ≡ false
    by_test false e = refl
    by_test true e = absurd (omega (arith, late, leb-true tick now e))

-- they are passed over
pub front_passed : (k : Kept) (a : Asking) (r : Record) (now tick at : ℕ) → StandsSession k (resumed_record now r) → (b : BeginsAtFront tick k.asking)
    → now < tick
    → at ≡ max tick (credit_tick r.session.rate.limit (spends_behind r.session.rate.behind r.session.board.lines) now)
    → PassesTo b.front.node at k.asking a → PassesFront now r (record k { asking = a })
front_passed k a r now tick at st b early is passes =
    let known : IsFront k.asking.turns b.front r.session.board.lines r.session.board.round = st.front b.front b.front_is in
    record {
      asked = known.last + 1;
      wait = Some at;
      session = subst (λ (x : Asking). StandsSession (record k { asking = x })
          (record r { tick = now; asked = known.last + 1; asks = false; wait = Some at })) (sym passes.rest)
          (record {
            number = st.number;
            lines = st.lines;
            round = record {
              slots = st.round.slots;
              tick = st.round.tick;
              above = st.round.above;
              most = st.round.most;
              next = passes.next known.last known.node;
              asks = refl;
              question = refl;
              wait = refl;
              left = λ q e. absurd (let x : None ≡ Some q = e in cc);
            };
            subs = st.subs;
            rate = st.rate;
            front = st.front;
          });
      passed = inr (
        at_first k.asking.turns b.front r.session.board.lines r.session.board.round (resumed_record now r).asked known b.apart
            (sym st.round.next ∙ b.first),
        sym st.round.wait ∙ b.wait,
        subst (λ n. HoldsFirst now r.session (known.last + 1) (Some n))
            (ap (λ n. max n (credit_tick r.session.rate.limit (spends_behind r.session.rate.behind r.session.board.lines) now)) b.tick_is ∙ sym is)
            (first_held now r.session k.asking.turns b.front known (omega (arith, early, b.tick_is))),
      );
    }
