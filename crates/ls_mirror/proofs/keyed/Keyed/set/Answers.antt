use Rattle.std.proofs.Common.{ap, ◌∙◌, string_bytes}
use Rattle.std.specs.FinMap as finite
use Rattle.ls_mirror.proofs.ByBytes.{after_set}
use Rattle.ls_mirror.proofs.keyed.Keyed.set.Goals as goal

pub returns-clause-ok : goal.returns-clause-ok
returns-clause-ok c = after_set c.self.inside.rows c.insert.new.self (string_bytes c.args.key) c.args.row c.in_ok-insert.ensures.updates
    ∙ ap (λ m. finite.insert m (string_bytes c.args.key) c.args.row) c.self.view_is
