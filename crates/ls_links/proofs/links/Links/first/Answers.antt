use Rattle.std.proofs.Common.{arith, sym, subst, ap, ◌∙◌, ◌<◌, length}
use Rattle.ls_links.specs.declared.node.Node.{Node}
use Rattle.ls_links.specs.Chains.{Chains, node_at}
use Rattle.ls_links.specs.Nodes.{proper}
use Rattle.ls_links.proofs.Linked.{lists_number, own_within, node_is}
use Rattle.ls_links.proofs.Places.{first_is}
use Rattle.ls_links.proofs.links.Links.first.Goals as goal

pub index-requires : goal.index-requires
index-requires c =
    let l = lists_number _ _ (subst (λ (x : Chains). c.args.list < length x.lists) (sym c.self.view_is) c.requires) in
    omega (arith, own_within _ _ c.self.invariant l, c.self.inside.nodes.ok.0)

pub returns : goal.returns
returns c =
    let l = lists_number _ _ (subst (λ (x : Chains). c.args.list < length x.lists) (sym c.self.view_is) c.requires) in
    c.proper_node.ensures
    ∙ ap (λ (m : Node). proper c.self.inside.free m.after) (node_is _ _ _ (own_within _ _ c.self.invariant l) c.index.ensures)
    ∙ first_is _ c.args.list c.self.invariant l ∙ ap (λ (x : Chains). node_at x c.args.list 0) c.self.view_is
