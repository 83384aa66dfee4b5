use Rattle.ls_update.proofs.Exact.{one_row}
use Rattle.ls_update.proofs.First.{one_fault, no_first_fault}
use Rattle.ls_update.proofs.law.tokens_have_one_answer.Goals as goal

pub returns : goal.returns
returns c = record {
  row = λ prev row other tokens small x y. one_row prev other row tokens small y x;
  either = λ prev row tokens fault small x y. no_first_fault prev row tokens fault small x y;
  fault = λ prev tokens fault other small x y. one_fault prev tokens other fault small y x;
}
