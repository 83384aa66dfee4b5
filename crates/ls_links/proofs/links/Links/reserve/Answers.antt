use Rattle.std.proofs.Common.{arith, ap, ◌∙◌, max}
use Rattle.std.proofs.lemmas.List.{get_or_read}
use Rattle.ls_links.specs.Chains.{Chains}
use Rattle.ls_links.proofs.Linked.{last_within, counted_within, reserves}
use Rattle.ls_links.proofs.links.Links.reserve.Goals as goal

pub add-requires-clause-last : goal.add-requires-clause-last
add-requires-clause-last c = rw c.in_ok-reserve.ensures.items (last_within _ c.self.invariant)

pub invariant_of-self-2 : goal.invariant_of-self-2
invariant_of-self-2 c =
    let is = get_or_read _ _ _ (counted_within _ c.self.invariant) c.index-spare.ensures 0 in
    rw (c.add.ensures, c.in_ok-reserve.ensures.items) (reserves _ _ c.args.n c.self.invariant is (omega arith)).sound

pub returns-clause-ok : goal.returns-clause-ok
returns-clause-ok c =
    let is = get_or_read _ _ _ (counted_within _ c.self.invariant) c.index-spare.ensures 0 in
    rw (c.add.ensures, c.in_ok-reserve.ensures.items)
    ((reserves _ _ c.args.n c.self.invariant is (omega arith)).view ∙ ap (λ (x : Chains). record x { spare = max x.spare c.args.n }) c.self.view_is)
