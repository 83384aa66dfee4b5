use Rattle.std.proofs.Common.{sym, ap, ◌∙◌}
use Rattle.std.specs.FinMap as finite
use Rattle.ls_mirror.proofs.ByBytes.{len_rows}
use Rattle.ls_mirror.proofs.keyed.Keyed.len.Goals as goal

pub returns : goal.returns
returns c = c.len.ensures.len ∙ sym (len_rows c.self.inside.rows c.len.ensures.ordered) ∙ ap finite.len c.self.view_is
