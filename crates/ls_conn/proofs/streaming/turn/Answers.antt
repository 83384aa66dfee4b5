use Rattle.std.proofs.Common.{◌≡◌, ℕ, List, inl, refl, sym, subst, ◌∙◌}
use Rattle.ls_conn.specs.Streaming.{PutsText}
use Rattle.std.proofs.KnownBytes.{Keeps-refl}
use Rattle.ls_conn.specs.declared.report.StreamEnd.TheVariants as end
use Rattle.ls_conn.proofs.GoingOn.{over, rested, none_put, text_put, turned_over, quiet_turn, not_stopped}
use Rattle.ls_conn.proofs.streaming.turn.Goals as goal

pub returns-in_default-clause-goes : goal.returns-in_default-clause-goes
returns-in_default-clause-goes g c = λ old held s.
    over end.NoMemory _ old _ held _ (rested _ old _ _ held _ _ s c.in_default.ensures.memory.0 c.in_default.ensures.memory.1 (Keeps-refl _)) (inl s.none)

pub returns-in-Some-clause-goes : goal.returns-in-Some-clause-goes
returns-in-Some-clause-goes g c = λ old held s.
    turned_over _ _ _ old _ _ held _ _ c.in-Ok.turn c.in-Some.end (sym c.end_of.ensures ∙ c.in-Some.is) s c.in-Ok.ensures.grows c.in-Ok.ensures.turn

pub returns-in-Send-clause-goes : goal.returns-in-Send-clause-goes
returns-in-Send-clause-goes g c = λ old held s.
    text_put _ _ _ old _ _ held _ _ _ s c.in-Ok.ensures.grows (rw c.in-Send.is at c.in-Ok.ensures.turn) c.give.result (subst (λ (t : List ℕ). PutsText c.give.result (g.W.LineOut.held c.args.wire.now) (g.W.LineOut.held c.give.new.wire) t) c.text.ensures c.give.ensures.puts)

pub returns-in_default-turn : goal.returns-in_default-turn
returns-in_default-turn g c =
    let e = c.rest.ensures in
    record {
      goes = λ old held s.
          none_put c.rest.result _ old _ _ held _ _ s c.in-Ok.ensures.grows (quiet_turn _ _ _ _ _ _ c.in-Ok.turn c.in_default-turn.not-Send c.in-Ok.ensures.turn) e.puts;
      stopped = λ is. absurd (not_stopped c.rest.result _ _ e.puts is);
      left = e.left;
      fault = e.fault;
      faults = e.faults;
      leaves = e.leaves;
      lender = e.lender;
    }
