use Rattle.std.proofs.Common.{◌++◌, ◌∙◌, ap}
use Rattle.ls_turns.specs.Round.{slots_of, left}
use Rattle.ls_session.specs.Session.{refs_from}
use Rattle.ls_session.proofs.Adding.{added}
use Rattle.ls_session.proofs.session.Session.finish_add.Goals as goal

pub returns : goal.returns
returns c = λ r defs a vs st is joins.
    added c.args.self.now c.number.new.self c.number-2.new.self c.finish.new.self c.join.new.self r defs a c.args.plan c.args.slots.now vs st c.requires.ready
    c.number.ensures c.number-2.ensures
    (λ filtered most fields keys frequency.
    c.finish.ensures r.session.board.lines r.session.board.round vs filtered most fields keys frequency st.subs joins)
    (c.join.ensures.joined
    ∙ ap (λ xs. slots_of (left c.args.plan.sub c.args.self.now.asking.turns) ++ refs_from c.args.plan.sub 1 xs c.args.slots.now) c.deref.ensures.value)
    c.join.ensures.rest is joins
