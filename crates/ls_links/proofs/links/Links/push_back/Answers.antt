use Rattle.std.proofs.Common.{arith, sym, subst, ap, ◌∙◌, ◌<◌, length}
use Rattle.ls_links.specs.Chains.{Chains, IsAt, pushed}
use Rattle.ls_links.proofs.Linked.{lists_number, free_within, node_is, a_free_one, links, may_link, was_free}
use Rattle.ls_links.proofs.links.Links.push_back.Goals as goal

pub index-requires : goal.index-requires
index-requires c = omega (arith, free_within _ c.self.invariant, c.self.inside.nodes.ok.0)

pub set_value-requires : goal.set_value-requires
set_value-requires c =
    let f = a_free_one _ _ c.self.invariant (node_is _ _ _ (free_within _ c.self.invariant) c.index.ensures)
    (subst (λ (x : Chains). 0 < x.spare) (sym c.self.view_is) c.requires.room) in
    f.within

pub shift-requires : goal.shift-requires
shift-requires c =
    let l = lists_number _ _ (subst (λ (x : Chains). c.args.list < length x.lists) (sym c.self.view_is) c.requires.list) in
    let f = a_free_one _ _ c.self.invariant (node_is _ _ _ (free_within _ c.self.invariant) c.index.ensures)
    (subst (λ (x : Chains). 0 < x.spare) (sym c.self.view_is) c.requires.room) in
    rw c.set_value.ensures (may_link _ _ _ c.args.value c.self.invariant l f)

pub invariant_of-self : goal.invariant_of-self
invariant_of-self c =
    let l = lists_number _ _ (subst (λ (x : Chains). c.args.list < length x.lists) (sym c.self.view_is) c.requires.list) in
    let f = a_free_one _ _ c.self.invariant (node_is _ _ _ (free_within _ c.self.invariant) c.index.ensures)
    (subst (λ (x : Chains). 0 < x.spare) (sym c.self.view_is) c.requires.room) in
    rw (c.shift.ensures.nodes, c.shift.ensures.lengths, c.set_value.ensures) (links _ _ _ c.args.value c.self.invariant l f).sound

pub returns-clause-linked : goal.returns-clause-linked
returns-clause-linked c =
    let l = lists_number _ _ (subst (λ (x : Chains). c.args.list < length x.lists) (sym c.self.view_is) c.requires.list) in
    let f = a_free_one _ _ c.self.invariant (node_is _ _ _ (free_within _ c.self.invariant) c.index.ensures)
    (subst (λ (x : Chains). 0 < x.spare) (sym c.self.view_is) c.requires.room) in
    rw (c.shift.ensures.nodes, c.shift.ensures.lengths, c.set_value.ensures)
    ((links _ _ _ c.args.value c.self.invariant l f).view
    ∙ ap (λ (x : Chains). pushed c.args.list (record { node = c.index.result.now.after; value = c.args.value }) x) c.self.view_is)

pub returns-clause-fresh : goal.returns-clause-fresh
returns-clause-fresh c = λ l place v h.
    let f = a_free_one _ _ c.self.invariant (node_is _ _ _ (free_within _ c.self.invariant) c.index.ensures)
    (subst (λ (x : Chains). 0 < x.spare) (sym c.self.view_is) c.requires.room) in
    was_free _ _ l place v c.self.invariant f (subst (λ (x : Chains). IsAt x l place c.index.result.now.after v) (sym c.self.view_is) h)
