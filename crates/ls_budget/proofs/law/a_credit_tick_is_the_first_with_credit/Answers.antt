use Rattle.ls_budget.proofs.Credits.{credit_tick_first}
use Rattle.ls_budget.proofs.law.a_credit_tick_is_the_first_with_credit.Goals as goal

pub returns : goal.returns
returns c = credit_tick_first
