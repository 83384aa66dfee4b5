use Rattle.ls_budget.proofs.Credits.{credit_grows, credit_stays}
use Rattle.ls_budget.proofs.law.credit_never_falls_with_time.Goals as goal

pub returns-clause-credit : goal.returns-clause-credit
returns-clause-credit c = credit_grows

pub returns-clause-stays : goal.returns-clause-stays
returns-clause-stays c = credit_stays
