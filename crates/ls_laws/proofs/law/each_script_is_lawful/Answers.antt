use Rattle.ls_laws.proofs.Scripts.{lawful_script}
use Rattle.ls_laws.proofs.law.each_script_is_lawful.Goals as goal

pub returns : goal.returns
returns c = lawful_script
