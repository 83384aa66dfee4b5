use Rattle.std.proofs.Common.{◌∙◌}
use Rattle.ls_soak.proofs.Playing.{report_cut}
use Rattle.ls_soak.proofs.soaking.report.Goals as goal

pub returns-in-Ok-clause-reported : goal.returns-in-Ok-clause-reported
returns-in-Ok-clause-reported g c =
    let failed = c.in-Failed.ensures.bytes in
    report_cut c.as_bytes.result.now _ failed.0 _ _ (c.as_bytes.ensures.value ∙ c.in-Ok.ensures) failed.2
