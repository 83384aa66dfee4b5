use Rattle.std.proofs.Common.{sym, ap, ◌∙◌}
use Rattle.std.specs.FinMap as finite
use Rattle.ls_mirror.proofs.ByBytes.{get_rows}
use Rattle.ls_mirror.proofs.keyed.Keyed.get.Goals as goal

pub returns : goal.returns
returns c = c.get.ensures.value ∙ sym (get_rows c.self.inside.rows c.args.key.now) ∙ ap (λ m. finite.get m c.args.key.now) c.self.view_is
