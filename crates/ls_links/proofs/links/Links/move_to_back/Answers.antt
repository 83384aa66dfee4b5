use Rattle.std.proofs.Common.{arith, sym, subst, ap, ◌∙◌}
use Rattle.ls_links.specs.declared.node.Node.{Node}
use Rattle.ls_links.specs.Chains.{Chains, IsLinked, moved_back}
use Rattle.ls_links.proofs.Linked.{in_ring, node_is, moves, may_move}
use Rattle.ls_links.proofs.links.Links.move_to_back.Goals as goal

pub index-requires : goal.index-requires
index-requires c =
    let r = in_ring _ _ c.self.invariant (subst (λ (x : Chains). IsLinked x c.args.node) (sym c.self.view_is) c.requires) in
    omega (arith, r.within, c.self.inside.nodes.ok.0)

pub shift-requires : goal.shift-requires
shift-requires c =
    let r = in_ring _ _ c.self.invariant (subst (λ (x : Chains). IsLinked x c.args.node) (sym c.self.view_is) c.requires) in
    may_move _ _ _ c.self.invariant r (ap (λ (m : Node). m.list) (node_is _ _ _ r.within c.index.ensures))

pub invariant_of-self : goal.invariant_of-self
invariant_of-self c =
    let r = in_ring _ _ c.self.invariant (subst (λ (x : Chains). IsLinked x c.args.node) (sym c.self.view_is) c.requires) in
    rw (c.shift.ensures.nodes, c.shift.ensures.lengths)
    (moves _ _ _ c.self.invariant r (ap (λ (m : Node). m.list) (node_is _ _ _ r.within c.index.ensures))).sound

pub returns : goal.returns
returns c =
    let r = in_ring _ _ c.self.invariant (subst (λ (x : Chains). IsLinked x c.args.node) (sym c.self.view_is) c.requires) in
    rw (c.shift.ensures.nodes, c.shift.ensures.lengths)
    ((moves _ _ _ c.self.invariant r (ap (λ (m : Node). m.list) (node_is _ _ _ r.within c.index.ensures))).view ∙ ap (moved_back c.args.node) c.self.view_is)
