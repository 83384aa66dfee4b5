use Rattle.ls_budget.proofs.Windows.{window_bound}
use Rattle.ls_budget.proofs.law.spends_of_a_window_are_bounded.Goals as goal

pub returns : goal.returns
returns c = window_bound
