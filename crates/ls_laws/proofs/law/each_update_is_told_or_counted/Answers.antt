use Rattle.ls_lawful.proofs.RawTruths.{slot_accounts}
use Rattle.ls_laws.proofs.Spelled.{raw_rows, raw_lost, raw_leads, raw_ends, raw_begins}
use Rattle.ls_laws.proofs.law.each_update_is_told_or_counted.Goals as goal

pub returns-clause-accounts : goal.returns-clause-accounts
returns-clause-accounts c = λ h w s cs l raw. slot_accounts h w s cs l raw

pub returns-clause-rows : goal.returns-clause-rows
returns-clause-rows c = raw_rows

pub returns-clause-lost : goal.returns-clause-lost
returns-clause-lost c = raw_lost

pub returns-clause-leads : goal.returns-clause-leads
returns-clause-leads c = raw_leads

pub returns-clause-ends : goal.returns-clause-ends
returns-clause-ends c = raw_ends

pub returns-clause-begins : goal.returns-clause-begins
returns-clause-begins c = raw_begins
