use Rattle.std.proofs.Common.{arith, sym, subst, ap, ◌∙◌}
use Rattle.ls_links.specs.Chains.{Chains, IsAt, IsLinked, unlinked}
use Rattle.ls_links.proofs.Linked.{in_ring, node_is, value_is, unlinks, may_unlink}
use Rattle.ls_links.proofs.links.Links.unlink.Goals as goal

pub index-requires : goal.index-requires
index-requires c =
    let r = in_ring _ _ c.self.invariant (subst (λ (x : Chains). IsLinked x c.args.node) (sym c.self.view_is) c.requires) in
    omega (arith, r.within, c.self.inside.nodes.ok.0)

pub shift-requires : goal.shift-requires
shift-requires c =
    may_unlink _ _ c.self.invariant (in_ring _ _ c.self.invariant (subst (λ (x : Chains). IsLinked x c.args.node) (sym c.self.view_is) c.requires))

pub invariant_of-self : goal.invariant_of-self
invariant_of-self c =
    let r = in_ring _ _ c.self.invariant (subst (λ (x : Chains). IsLinked x c.args.node) (sym c.self.view_is) c.requires) in
    rw (c.shift.ensures.nodes, c.shift.ensures.lengths) (unlinks _ _ c.self.invariant r).sound

pub returns-clause-unlinked : goal.returns-clause-unlinked
returns-clause-unlinked c =
    let r = in_ring _ _ c.self.invariant (subst (λ (x : Chains). IsLinked x c.args.node) (sym c.self.view_is) c.requires) in
    rw (c.shift.ensures.nodes, c.shift.ensures.lengths) ((unlinks _ _ c.self.invariant r).view ∙ ap (unlinked c.args.node) c.self.view_is)

pub returns-clause-value : goal.returns-clause-value
returns-clause-value c = λ l place v h.
    let r = in_ring _ _ c.self.invariant (subst (λ (x : Chains). IsLinked x c.args.node) (sym c.self.view_is) c.requires) in
    value_is _ l place c.args.node v _ (node_is _ _ _ r.within c.index.ensures)
    (subst (λ (x : Chains). IsAt x l place c.args.node v) (sym c.self.view_is) h)
