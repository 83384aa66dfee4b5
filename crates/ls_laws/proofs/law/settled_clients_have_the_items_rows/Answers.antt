use Rattle.std.proofs.Common.{inl}
use Rattle.ls_laws.proofs.ClientTables.{keys_settled}
use Rattle.ls_laws.proofs.law.settled_clients_have_the_items_rows.Goals as goal

pub returns-clause-keys : goal.returns-clause-keys
returns-clause-keys c = keys_settled

pub returns-clause-snapshot : goal.returns-clause-snapshot
returns-clause-snapshot c = λ w s v t l in_world in_round command has none k asked. keys_settled w s v t l in_world in_round command has none k (inl asked)
