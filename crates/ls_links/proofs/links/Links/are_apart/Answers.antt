use Rattle.std.proofs.Common.{subst}
use Rattle.ls_links.specs.Chains.{Chains, Apart}
use Rattle.ls_links.proofs.Places.{apart}
use Rattle.ls_links.proofs.links.Links.are_apart.Goals as goal

pub returns : goal.returns
returns c = subst (λ (x : Chains). Apart x) c.self.view_is (apart _ c.self.invariant)
