use Rattle.std.proofs.Common.{ap, ◌∙◌}
use Rattle.std.specs.FinMap as finite
use Rattle.ls_mirror.proofs.ByBytes.{after_remove}
use Rattle.ls_mirror.proofs.keyed.Keyed.remove.Goals as goal

pub returns : goal.returns
returns c = after_remove c.self.inside.rows c.remove.new.self c.args.key.now c.remove.ensures.updates ∙ ap (λ m. finite.remove m c.args.key.now) c.self.view_is
