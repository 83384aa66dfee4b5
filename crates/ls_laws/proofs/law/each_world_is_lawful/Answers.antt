use Rattle.ls_laws.proofs.Legible.{lawful_steps}
use Rattle.ls_laws.proofs.law.each_world_is_lawful.Goals as goal

pub returns : goal.returns
returns c = lawful_steps
