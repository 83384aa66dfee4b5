use Rattle.std.proofs.Common.{inl}
use Rattle.ls_lawful.proofs.CommandSettled.{slot_settled}
use Rattle.ls_laws.proofs.Spelled.{named_settled}
use Rattle.ls_laws.proofs.law.settled_tables_are_the_items.Goals as goal

pub returns-clause-keys : goal.returns-clause-keys
returns-clause-keys c = λ h w s cs l is none k know. slot_settled h w s cs l is none k know

pub returns-clause-snapshot : goal.returns-clause-snapshot
returns-clause-snapshot c = λ h w s cs l is none k asked. slot_settled h w s cs l is none k (inl asked)

pub returns-clause-named : goal.returns-clause-named
returns-clause-named c = named_settled
