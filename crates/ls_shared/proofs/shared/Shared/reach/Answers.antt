use Rattle.std.proofs.Common.{sym, ap, ◌∙◌, subst, List}
use Rattle.ls_told.specs.Seen.{Watched, SeesMore}
use Rattle.ls_told.proofs.Watching.{sees_same}
use Rattle.ls_shared.proofs.shared.Shared.reach.Goals as goal

pub returns-in_err-show_items-clause-more : goal.returns-in_err-show_items-clause-more
returns-in_err-show_items-clause-more g c =
    subst (λ (ws : List Watched). SeesMore c.args.live.now.watches ws)
    (sym (ap (λ s. s.watches) (c.show_items.ensures.same ∙ c.expect.ensures.same.0))) (sees_same c.args.live.now.watches)
