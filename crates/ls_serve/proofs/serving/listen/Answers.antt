use Rattle.std.proofs.Common.{◌∙◌}
use Rattle.ls_serve.proofs.Ends.{told_first_at, told_second_at}
use Rattle.ls_serve.proofs.serving.listen.Goals as goal

pub returns-in-Err-clause-told : goal.returns-in-Err-clause-told
returns-in-Err-clause-told g c = told_first_at _ _ _ _ _ c.in-Ready.ensures.ports c.in-Err.ensures.puts

pub returns-in-Err-put-clause-told : goal.returns-in-Err-put-clause-told
returns-in-Err-put-clause-told g c =
    told_second_at _ _ _ _ _ _ (c.attend.ensures.ports ∙ c.in-Ready.ensures.ports) c.in_default.ensures.puts
    c.in-Err-put.ensures.puts
