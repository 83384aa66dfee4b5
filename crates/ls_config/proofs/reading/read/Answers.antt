use Rattle.std.proofs.Common.{Some, refl}
use Rattle.ls_words.specs.Words.{divided}
use Rattle.ls_config.specs.Configs.{nothing}
use Rattle.ls_config.proofs.Sound.{lines_fit}
use Rattle.ls_config.proofs.reading.read.Goals as goal

pub returns-clause-items : goal.returns-clause-items
returns-clause-items c = lines_fit 0 (Some nothing) (divided 10 c.args.bytes.now) c.in_ok-set.field-0 refl c.in_ok-set.ensures
