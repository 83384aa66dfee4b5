use Rattle.std.proofs.Common.{◌≡◌, ◌≤◌, ◌+◌, ◌∙◌, ap, refl, sym, Some, arith}
use Rattle.ls_value.specs.declared.limits.TheConstants.{GREATEST_NUMBER}
use Rattle.ls_stream.specs.Standing.{last_line}
use Rattle.ls_session.proofs.Moves.{stands_reserved}
use Rattle.ls_session.proofs.session.Session.make_room.Goals as goal

pub returns-in_err-reserve-clause-same : goal.returns-in_err-reserve-clause-same
returns-in_err-reserve-clause-same c = λ r st.
    stands_reserved c.args.self.now c.reserve.new.self c.args.self.now.lines r st c.in_err-reserve.ensures.seats c.in_err-reserve.ensures.rest refl

pub returns-in_err-reserve-2-clause-same : goal.returns-in_err-reserve-2-clause-same
returns-in_err-reserve-2-clause-same c = λ r st.
    stands_reserved c.args.self.now c.reserve.new.self c.reserve-2.new.self r st c.in_ok-reserve.ensures.seats c.in_ok-reserve.ensures.rest
    c.in_err-reserve-2.ensures.rest

pub returns-clause-same : goal.returns-clause-same
returns-clause-same c = λ r st.
    stands_reserved c.args.self.now c.reserve.new.self c.reserve-2.new.self r st c.in_ok-reserve.ensures.seats c.in_ok-reserve.ensures.rest
    c.in_ok-reserve-2.ensures.rest

pub returns-clause-ready : goal.returns-clause-ready
returns-clause-ready c =
    let last : last_line c.reserve-2.new.self ≡ last_line c.args.self.now.lines = ap last_line c.in_ok-reserve-2.ensures.rest in
    let numbers : last_line c.args.self.now.lines + 2 ≤ GREATEST_NUMBER = c.code_of_room.ensures.left c.in_default.is in
    record { room = c.in_ok-reserve-2.ensures.room; numbers = omega (arith, last, numbers) }

pub returns-clause-accepted : goal.returns-clause-accepted
returns-clause-accepted c = λ r st. sym (c.code_of_room.ensures.code r st) ∙ c.in_default.is

pub returns-in-Some-clause-refused : goal.returns-in-Some-clause-refused
returns-in-Some-clause-refused c = λ code is r st.
    let same : c.in-Some.code ≡ code = cc in
    sym (c.code_of_room.ensures.code r st) ∙ c.in-Some.is ∙ ap Some same
