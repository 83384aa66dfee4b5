use Rattle.ls_stream.proofs.GivingBack.{numbers}
use Rattle.ls_stream.proofs.lines.Lines.number.Goals as goal

pub returns : goal.returns
returns c = numbers c.args.self.now c.push.new.self c.clear_ended.new.self c.args.text c.push.ensures c.clear_ended.ensures
