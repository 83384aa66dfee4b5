use Rattle.ls_laws.proofs.Settled.{keys_stay}
use Rattle.ls_laws.proofs.Spelled.{rows_stay, clears_stay}
use Rattle.ls_laws.proofs.law.no_key_goes_back.Goals as goal

pub returns-clause-keys : goal.returns-clause-keys
returns-clause-keys c = keys_stay

pub returns-clause-rows : goal.returns-clause-rows
returns-clause-rows c = rows_stay

pub returns-clause-clears : goal.returns-clause-clears
returns-clause-clears c = clears_stay
