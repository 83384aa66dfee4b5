use Rattle.ls_lawful.proofs.RawTruths.{settled_accounts, settled_rest}
use Rattle.ls_laws.proofs.law.settled_clients_know_of_each_update.Goals as goal

pub returns-clause-accounts : goal.returns-clause-accounts
returns-clause-accounts c = λ h w s cs l raw none. settled_accounts h w s cs l raw none

pub returns-clause-rest : goal.returns-clause-rest
returns-clause-rest c = settled_rest
