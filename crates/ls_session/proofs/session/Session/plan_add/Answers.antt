use Rattle.std.proofs.Common.{◌≡◌, ◌≤◌, ◌||◌, ◌∷◌, [], Err, ◌∙◌, ap, sym, subst, false, nat_le, nat_lt, arith}
use Rattle.ls_record.specs.Cases.{first_code}
use Rattle.ls_record.specs.Acting.{subscriptions, are_spent}
use Rattle.ls_subs.specs.declared.subs.Subs.{Subs}
use Rattle.ls_subs.specs.Kept.{has_sub, room_of}
use Rattle.ls_subs.specs.declared.plan.Refusal.TheVariants as Refusal
use Rattle.ls_session.proofs.Moves.{stands_subs}
use Rattle.ls_session.proofs.Tables.{room_tells, few_items}
use Rattle.ls_session.proofs.Limits.{plan_begins_short, plan_configures_short}
use Rattle.ls_session.proofs.session.Session.plan_add.Goals as goal

pub returns-in_err-plan-clause-same : goal.returns-in_err-plan-clause-same
returns-in_err-plan-clause-same c = λ r st.
    stands_subs c.args.self.now c.prepare.new.self r st (c.in_err-plan.ensures.same r.session.board.lines r.session.board.round st.subs)

pub returns-in-Ok-clause-same : goal.returns-in-Ok-clause-same
returns-in-Ok-clause-same c = λ r st.
    c.make_room.ensures.same r (stands_subs c.args.self.now c.prepare.new.self r st
    (c.in_ok-plan.ensures.same r.session.board.lines r.session.board.round st.subs))

pub returns-in-Err-clause-same : goal.returns-in-Err-clause-same
returns-in-Err-clause-same c = λ r st.
    c.make_room.ensures.same r (stands_subs c.args.self.now c.prepare.new.self r st
    (c.in_ok-plan.ensures.same r.session.board.lines r.session.board.round st.subs))

pub returns-in-Err-clause-refused : goal.returns-in-Err-clause-refused
returns-in-Err-clause-refused c = λ code is r st.
    let same : c.in-Err.refusal ≡ Refusal.Code code = cc in
    let refused : c.make_room.result ≡ Err (Refusal.Code code) = c.in-Err.is ∙ ap Err same in
    let st₁ = stands_subs c.args.self.now c.prepare.new.self r st (c.in_ok-plan.ensures.same r.session.board.lines r.session.board.round st.subs) in
    room_tells c.args.self.now.subs c.args.config.now.items c.args.free r.session c.args.add.now (sym (c.code_of_number.ensures.code r st) ∙ c.in_default.is)
    (c.code_of_number.ensures.new c.in_default.is) c.in_ok-plan.ensures.free
    ∙ ap (λ n. first_code ((71, nat_le 256 (subscriptions r.session.board.round) || nat_lt c.args.free n) ∷ (74, are_spent r.session 2) ∷ []))
    (sym c.len.ensures)
    ∙ c.make_room.ensures.refused code refused r st₁

pub returns-in-Ok-clause-accepted : goal.returns-in-Ok-clause-accepted
returns-in-Ok-clause-accepted c = λ r st.
    let st₁ = stands_subs c.args.self.now c.prepare.new.self r st (c.in_ok-plan.ensures.same r.session.board.lines r.session.board.round st.subs) in
    room_tells c.args.self.now.subs c.args.config.now.items c.args.free r.session c.args.add.now (sym (c.code_of_number.ensures.code r st) ∙ c.in_default.is)
    (c.code_of_number.ensures.new c.in_default.is) c.in_ok-plan.ensures.free
    ∙ ap (λ n. first_code ((71, nat_le 256 (subscriptions r.session.board.round) || nat_lt c.args.free n) ∷ (74, are_spent r.session 2) ∷ []))
    (sym c.len.ensures)
    ∙ c.in-Ok.ensures.accepted r st₁

pub returns-in-Ok-clause-ready : goal.returns-in-Ok-clause-ready
returns-in-Ok-clause-ready c =
    record {
      new = subst (λ (s : Subs). has_sub s c.in_ok-plan.plan.sub ≡ false) (sym c.make_room.ensures.subs) c.in_ok-plan.ensures.new;
      items = c.in_ok-plan.ensures.ready;
      few = few_items c.args.self.now.subs c.args.config.now.items c.args.add.now c.in_ok-plan.plan c.in_ok-plan.ensures.free c.in_ok-plan.ensures.plan;
      subs = subst (λ (s : Subs). 1 ≤ room_of s) (sym c.make_room.ensures.subs) c.in_ok-plan.ensures.room;
      spare = omega (arith, c.in-Ok.ensures.spare, c.len-2.ensures, c.in_ok-plan.plan.items.ok.0);
      room = omega (arith, c.in-Ok.ensures.room, c.len-2.ensures, c.in_ok-plan.plan.items.ok.0);
      lines = c.in-Ok.ensures.ready;
      begins = plan_begins_short c.args.self.now.subs c.args.config.now.items c.args.add.now c.in_ok-plan.plan c.in_ok-plan.ensures.free
          c.in_ok-plan.ensures.plan c.requires;
      configures = plan_configures_short c.args.config.now.items c.args.add.now c.in_ok-plan.plan c.in_ok-plan.ensures.plan c.requires;
    }
