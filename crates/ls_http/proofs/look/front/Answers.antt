use Rattle.ls_http.specs.declared.head.TheConstants.{LONGEST_HEAD}
use Rattle.ls_http.proofs.Fronts.{take_most}
use Rattle.ls_http.proofs.look.front.Goals as goal

pub returns : goal.returns
returns c = rw c.min.ensures (take_most c.args.bytes.now LONGEST_HEAD)
