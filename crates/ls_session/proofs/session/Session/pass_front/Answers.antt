use Rattle.std.proofs.Common.{sym, ◌∙◌, arith, refl, inl, max}
use Rattle.ls_budget.specs.Budget.{credit_tick}
use Rattle.ls_record.specs.Lines.{spends_behind}
use Rattle.ls_session.specs.Record.{from_place, wait_from}
use Rattle.ls_session.specs.declared.session.Session.{Session as Kept}
use Rattle.ls_session.specs.Session.{StandsSession}
use Rattle.ls_session.proofs.Passing.{front_passed, at_is, at_later}
use Rattle.ls_session.proofs.Turns.{resumed_record, stands_resumed}
use Rattle.ls_session.proofs.session.Session.pass_front.Goals as goal

pub returns-in-At : goal.returns-in-At
returns-in-At c = λ r st early most.
    let k : Kept = record c.args.self.now { asking = c.resume.new.self } in
    let again : StandsSession k (resumed_record c.args.now r) =
    stands_resumed c.args.self.now c.resume.new.self r c.args.now st early most c.resume.ensures in
    let credit = c.due.ensures.stands r.session.rate.limit (spends_behind r.session.rate.behind r.session.board.lines) st.rate.spends
    (omega (arith, st.rate.latest, early)) most in
    let at = at_is (max c.in-Some.tick (credit_tick r.session.rate.limit (spends_behind r.session.rate.behind r.session.board.lines) c.args.now))
    c.args.now c.in-At.at
    (sym (c.later.ensures c.in-Some.tick (credit_tick r.session.rate.limit (spends_behind r.session.rate.behind r.session.board.lines) c.args.now)
    c.args.now (at_later c.in-Some.tick c.args.now c.if-now-tick.true) credit) ∙ c.in-At.is) in
    front_passed k c.pass_front.new.self r c.args.now c.in-Some.tick c.in-At.at again c.in-Some.ensures c.if-now-tick.true at.0
    (c.pass_front.ensures c.in-Some.ensures.front c.in-Some.ensures.front_is)

pub returns-in_default : goal.returns-in_default
returns-in_default c = λ r st early most.
    record {
      asked = from_place c.args.now r;
      wait = wait_from c.args.now r;
      session = stands_resumed c.args.self.now c.resume.new.self r c.args.now st early most c.resume.ensures;
      passed = inl (refl, refl);
    }
