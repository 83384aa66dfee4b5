use Rattle.ls_laws.proofs.ClientTables.{client_has_rows}
use Rattle.ls_laws.proofs.Spelled.{client_told, client_absent}
use Rattle.ls_laws.proofs.law.each_client_has_the_rows_of_its_keys.Goals as goal

pub returns-clause-agrees : goal.returns-clause-agrees
returns-clause-agrees c = client_has_rows

pub returns-clause-told : goal.returns-clause-told
returns-clause-told c = client_told

pub returns-clause-absent : goal.returns-clause-absent
returns-clause-absent c = client_absent
