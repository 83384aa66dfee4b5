use Rattle.ls_sight.proofs.Agreeing.{sight_sees}
use Rattle.ls_sight.proofs.sight.Sight.meet.Goals as goal

pub invariant_of-self : goal.invariant_of-self
invariant_of-self g c = (
  c.self.invariant.0,
  c.self.invariant.1,
  sight_sees g.N.House.deed.config c.self.inside.place _ c.meet_all.new.watches.items c.self.invariant.2 c.meet_all.ensures.more c.all_fit.ensures,
  c.self.invariant.3,
)
