use Rattle.std.proofs.Common.{sym, subst, ap, ◌∙◌}
use Rattle.ls_links.specs.Chains.{Chains, IsLinked, value_given}
use Rattle.ls_links.proofs.Linked.{in_ring, gives}
use Rattle.ls_links.proofs.links.Links.set_value.Goals as goal

pub set_value-requires : goal.set_value-requires
set_value-requires c = (in_ring _ _ c.self.invariant (subst (λ (x : Chains). IsLinked x c.args.node) (sym c.self.view_is) c.requires)).within

pub invariant_of-self : goal.invariant_of-self
invariant_of-self c =
    let r = in_ring _ _ c.self.invariant (subst (λ (x : Chains). IsLinked x c.args.node) (sym c.self.view_is) c.requires) in
    rw c.set_value.ensures (gives _ _ c.args.value c.self.invariant r).sound

pub returns : goal.returns
returns c =
    let r = in_ring _ _ c.self.invariant (subst (λ (x : Chains). IsLinked x c.args.node) (sym c.self.view_is) c.requires) in
    rw c.set_value.ensures ((gives _ _ c.args.value c.self.invariant r).view ∙ ap (value_given c.args.node c.args.value) c.self.view_is)
