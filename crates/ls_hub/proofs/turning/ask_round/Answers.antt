use Rattle.ls_hub.proofs.Hubs.{on_failed}
use Rattle.ls_hub.proofs.Telling.{goes_from, turns_on, no_question, asks_this, ask_failed, goes_then}
use Rattle.ls_hub.proofs.turning.ask_round.Goals as goal

pub loop-init : goal.loop-init
loop-init c = λ items before behind r st early range cells. goes_from c.args.now items c.args.epoch before behind r _ _ early st cells

pub returns-in_default : goal.returns-in_default
returns-in_default c = record {
  ok = λ items before behind r st early range cells.
      let g = c.loop.invariant items before behind r st early range cells in
      no_question c.args.now items c.args.epoch before behind r c.turn.result c.turn.new.self c.loop.cells
      (turns_on c.args.now items c.args.epoch before behind r c.turn.result c.loop.session c.turn.new.self c.loop.cells g
      (c.turn.ensures g.asking g.session g.early range))
      c.in_default.not-Ask;
  err = tt;
}

pub returns-in_err-reply-in-Ask-clause-err : goal.returns-in_err-reply-in-Ask-clause-err
returns-in_err-reply-in-Ask-clause-err c = on_failed c.from_residual.result (λ items before behind r st early range cells.
    let g = c.loop.invariant items before behind r st early range cells in
    let h = turns_on c.args.now items c.args.epoch before behind r c.turn.result c.loop.session c.turn.new.self c.loop.cells g
    (c.turn.ensures g.asking g.session g.early range) in
    let a = asks_this c.args.now items c.args.epoch before behind r c.turn.result c.turn.new.self c.loop.cells h c.in-Ask.ask c.in-Ask.is in
    ask_failed c.args.now items c.args.epoch before behind r c.turn.result c.turn.new.self c.loop.cells h c.in-Ask.ask a c.reply.new.session c.reply.new.cells
    (c.in_err-reply-in-Ask.ensures.err c.args.now items c.args.epoch before behind h.asking a.question a.asked))

pub loop-preserved : goal.loop-preserved
loop-preserved c = λ items before behind r st early range cells.
    let g = c.loop.invariant items before behind r st early range cells in
    let h = turns_on c.args.now items c.args.epoch before behind r c.turn.result c.loop.session c.turn.new.self c.loop.cells g
    (c.turn.ensures g.asking g.session g.early range) in
    let a = asks_this c.args.now items c.args.epoch before behind r c.turn.result c.turn.new.self c.loop.cells h c.in-Ask.ask c.in-Ask.is in
    goes_then c.args.now items c.args.epoch before behind r c.turn.result c.turn.new.self c.loop.cells h c.in-Ask.ask a c.reply.new.session c.reply.new.cells
    (c.in_ok-reply-in-Ask.ensures.ok c.args.now items c.args.epoch before behind h.asking a.question a.asked a.is)

pub returns-in-Ask-turn-clause-err : goal.returns-in-Ask-turn-clause-err
returns-in-Ask-turn-clause-err c = λ items before behind r st early range cells.
    let g = c.loop.invariant items before behind r st early range cells in
    let h = turns_on c.args.now items c.args.epoch before behind r c.turn-2.result c.loop.session c.turn-2.new.self c.loop.cells g
    (c.turn-2.ensures g.asking g.session g.early range) in
    let a = asks_this c.args.now items c.args.epoch before behind r c.turn-2.result c.turn-2.new.self c.loop.cells h c.in-Ask-turn.field-0 c.in-Ask-turn.is in
    ask_failed c.args.now items c.args.epoch before behind r c.turn-2.result c.turn-2.new.self c.loop.cells h c.in-Ask-turn.field-0 a c.turn-2.new.self
    c.loop.cells a.asked

pub returns-in_default-turn : goal.returns-in_default-turn
returns-in_default-turn c = record {
  ok = λ items before behind r st early range cells.
      let g = c.loop.invariant items before behind r st early range cells in
      no_question c.args.now items c.args.epoch before behind r c.turn-2.result c.turn-2.new.self c.loop.cells
      (turns_on c.args.now items c.args.epoch before behind r c.turn-2.result c.loop.session c.turn-2.new.self c.loop.cells g
      (c.turn-2.ensures g.asking g.session g.early range)) c.in_default-turn.not-Ask;
  err = tt;
}
