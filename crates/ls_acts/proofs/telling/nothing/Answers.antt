use Rattle.std.proofs.Common.{refl}
use Rattle.ls_acts.proofs.telling.nothing.Goals as goal

pub returns-clause-told : goal.returns-clause-told
returns-clause-told c = λ r q st asked ask. let d = c.in_ok-answer.ensures.nothing r q.live q.due st asked ask refl in (refl, d.1)
