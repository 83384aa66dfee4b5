use Rattle.std.proofs.Common.{subst, sym, ap, ◌∙◌, ◌≡◌, ◌+◌, Some}
use Rattle.ls_turns.specs.Round.{Round, IsSeated, seat_at, node_of_place}
use Rattle.ls_turns.proofs.Reading.{linked, next_is}
use Rattle.ls_turns.proofs.turns.Turns.next.Goals as goal

pub next-requires : goal.next-requires
next-requires c =
    linked _ _ c.self.invariant.kept c.args.node (subst (λ (x : Round). IsSeated x c.args.node) (sym c.self.view_is) c.requires)

pub returns : goal.returns
returns c = λ i s h e.
    next_is _ _ c.self.invariant.kept i c.args.node s c.next.result c.next.ensures
    (subst (λ (x : Round). seat_at x i ≡ Some s) (sym c.self.view_is) h) e
    ∙ ap (λ (x : Round). node_of_place x (i + 1)) c.self.view_is
