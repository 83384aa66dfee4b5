use Rattle.ls_item.proofs.Grown.{state_grown}
use Rattle.ls_item.proofs.item.a_state_grows_with_its_history.Goals as goal

pub returns : goal.returns
returns c = state_grown
