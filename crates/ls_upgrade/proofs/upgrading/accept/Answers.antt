use Rattle.std.proofs.Common.{◌∙◌, take, drop, take-append-drop}
use Rattle.ls_upgrade.proofs.upgrading.accept.Goals as goal

pub returns-clause-part : goal.returns-clause-part
returns-clause-part g c =
    let b = c.in-Failed.ensures.bytes in
    (take b.0 c.deref.result.now, (drop b.0 c.deref.result.now, take-append-drop b.0 c.deref.result.now ∙ c.deref.ensures.value ∙ c.in-Ok.ensures), b.2)
