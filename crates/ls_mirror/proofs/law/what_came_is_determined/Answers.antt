use Rattle.ls_mirror.proofs.Determined.{one_decoded, one_come}
use Rattle.ls_mirror.proofs.law.what_came_is_determined.Goals as goal

pub returns : goal.returns
returns c = record {
  decoded = λ fields hs ws vs small x y. one_decoded fields hs vs ws small y x;
  come = one_come;
}
