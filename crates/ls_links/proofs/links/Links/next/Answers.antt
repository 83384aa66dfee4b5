use Rattle.std.proofs.Common.{arith, sym, subst, ap, ◌∙◌, ◌+◌}
use Rattle.ls_links.specs.declared.node.Node.{Node}
use Rattle.ls_links.specs.Chains.{Chains, IsAt, IsLinked, node_at}
use Rattle.ls_links.specs.Nodes.{proper}
use Rattle.ls_links.proofs.Linked.{in_ring, node_is}
use Rattle.ls_links.proofs.Places.{next_is}
use Rattle.ls_links.proofs.links.Links.next.Goals as goal

pub index-requires : goal.index-requires
index-requires c =
    let r = in_ring _ _ c.self.invariant (subst (λ (x : Chains). IsLinked x c.args.node) (sym c.self.view_is) c.requires) in
    omega (arith, r.within, c.self.inside.nodes.ok.0)

pub returns : goal.returns
returns c = λ l place v h.
    let r = in_ring _ _ c.self.invariant (subst (λ (x : Chains). IsLinked x c.args.node) (sym c.self.view_is) c.requires) in
    c.proper_node.ensures ∙ ap (λ (m : Node). proper c.self.inside.free m.after) (node_is _ _ _ r.within c.index.ensures)
    ∙ next_is _ l place c.args.node v c.self.invariant (subst (λ (x : Chains). IsAt x l place c.args.node v) (sym c.self.view_is) h)
    ∙ ap (λ (x : Chains). node_at x l (place + 1)) c.self.view_is
