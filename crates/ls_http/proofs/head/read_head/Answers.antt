use Rattle.std.proofs.Common.{arith}
use Rattle.ls_http.proofs.Answered.{found_is, front_within, refusal_is}
use Rattle.ls_http.proofs.head.read_head.Goals as goal

pub returns-in-Ok-clause-found : goal.returns-in-Ok-clause-found
returns-in-Ok-clause-found c =
    found_is c.args.bytes.now c.front.result.now c.look.new.headers c.in-Whole.spans c.in-Ok.found c.front.ensures c.in-Whole.ensures.says.0
    c.look.ensures.kept c.in-Ok.ensures.reply

pub returns-in-Err-clause-refused : goal.returns-in-Err-clause-refused
returns-in-Err-clause-refused c =
    refusal_is c.args.bytes.now c.front.result.now c.look.new.headers c.in-Whole.spans c.in-Err.refused c.front.ensures c.in-Whole.ensures.says.0
    c.look.ensures.kept c.in-Err.ensures.reply

pub returns-in-Ok-clause-within : goal.returns-in-Ok-clause-within
returns-in-Ok-clause-within c =
    let short = front_within c.args.bytes.now c.front.result.now c.front.ensures in
    omega (arith, short, c.in-Ok.ensures.within)
