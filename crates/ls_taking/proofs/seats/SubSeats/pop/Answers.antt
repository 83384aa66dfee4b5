use Rattle.std.proofs.Common.{◌≡◌, ◌++◌, ◌∷◌, [], IfSome, IfNone, vec_len, arith, subst}
use Rattle.ls_taking.specs.Groups.{SubSeen}
use Rattle.ls_taking.proofs.Popped.{popped_last, popped_none}
use Rattle.ls_taking.proofs.seats.SubSeats.pop.Goals as goal

pub returns-clause-last : goal.returns-clause-last
returns-clause-last g c =
    let s = c.self.inside in
    let left = c.pop.new.self.items in
    subst (λ (v : SubSeen). IfSome c.pop.result (λ t. v ≡ record { sub = s.sub; seats = left ++ t ∷ [] })) c.self.view_is
    (popped_last s.sub s.seats.items left c.pop.result c.pop.ensures.items)

pub returns-clause-none : goal.returns-clause-none
returns-clause-none g c =
    let s = c.self.inside in
    let left = c.pop.new.self.items in
    subst (λ (v : SubSeen). IfNone c.pop.result ((v.seats ≡ []) × (record { sub = s.sub; seats = left } ≡ v))) c.self.view_is
    (popped_none s.sub s.seats.items left (vec_len s.seats) c.pop.result c.pop.ensures.items c.pop.ensures.variant (omega (arith, s.seats.ok.0)))
