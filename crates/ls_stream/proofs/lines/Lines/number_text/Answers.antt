use Rattle.ls_stream.proofs.GivingBack.{numbers}
use Rattle.ls_stream.proofs.lines.Lines.number_text.Goals as goal

pub returns : goal.returns
returns c =
    numbers c.args.self.now c.push_text.new.self c.clear_ended.new.self c.args.text.items c.push_text.ensures c.clear_ended.ensures
