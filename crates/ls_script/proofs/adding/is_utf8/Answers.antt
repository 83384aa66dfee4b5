use Rattle.std.proofs.Common.{rules}
use Rattle.ls_script.proofs.Utf8.{utf8_true, utf8_false}
use Rattle.ls_script.proofs.adding.is_utf8.Goals as goal

pub returns-in-Ok : goal.returns-in-Ok
returns-in-Ok c = utf8_true c.args.word.now (search rules)

pub returns-in-Err : goal.returns-in-Err
returns-in-Err c = utf8_false c.args.word.now (search rules)
