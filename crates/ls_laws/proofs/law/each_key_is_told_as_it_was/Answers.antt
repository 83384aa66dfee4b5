use Rattle.ls_lawful.proofs.Settled.{key_agrees}
use Rattle.ls_laws.proofs.Spelled.{key_told, key_absent}
use Rattle.ls_laws.proofs.law.each_key_is_told_as_it_was.Goals as goal

pub returns-clause-agrees : goal.returns-clause-agrees
returns-clause-agrees c = λ h w s cs l command k. key_agrees h w s cs l command k

pub returns-clause-told : goal.returns-clause-told
returns-clause-told c = key_told

pub returns-clause-absent : goal.returns-clause-absent
returns-clause-absent c = key_absent
