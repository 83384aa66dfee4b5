use Rattle.std.proofs.Common.{arith, sym, subst}
use Rattle.ls_links.specs.Chains.{Chains, IsAt, IsLinked}
use Rattle.ls_links.proofs.Linked.{in_ring, node_is, value_is}
use Rattle.ls_links.proofs.links.Links.value.Goals as goal

pub index-requires : goal.index-requires
index-requires c =
    let r = in_ring _ _ c.self.invariant (subst (λ (x : Chains). IsLinked x c.args.node) (sym c.self.view_is) c.requires) in
    omega (arith, r.within, c.self.inside.nodes.ok.0)

pub returns : goal.returns
returns c = λ l place v h.
    let r = in_ring _ _ c.self.invariant (subst (λ (x : Chains). IsLinked x c.args.node) (sym c.self.view_is) c.requires) in
    value_is _ l place c.args.node v _ (node_is _ _ _ r.within c.index.ensures)
    (subst (λ (x : Chains). IsAt x l place c.args.node v) (sym c.self.view_is) h)
