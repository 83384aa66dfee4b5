use Rattle.std.proofs.Common.{◌∙◌, ap}
use Rattle.ls_record.specs.Records.{is_alive}
use Rattle.ls_told.specs.Spoken.{Spoken}
use Rattle.ls_told.proofs.law.none_is_left_after_the_end.Goals as goal

pub returns : goal.returns
returns c = λ config number lines ws s is over. is.slots.left (ap (λ (p : Spoken). is_alive p.life) is.told ∙ over)
