use Rattle.std.proofs.Common.{◌≡◌, arith, refl, sym, ◌∙◌}
use Rattle.ls_outside.proofs.Bytes.{rose_since}
use Rattle.ls_feed.proofs.Reading.{same_sink, same_source, between_first, between_kept, between_on, served_as, served_stop, served_stopped, served_closed, served_faulted}
use Rattle.ls_feed.proofs.Reading.{not_closed, not_read_fault, not_stopped, write_fault}
use Rattle.ls_feed.specs.declared.report.FeedEnd.{FeedEnd}
use Rattle.ls_feed.specs.declared.report.FeedEnd.TheVariants as end
use Rattle.ls_feed.proofs.serving.serve_feed.Goals as goal

-- an end is no other one
not_other : (e a b : FeedEnd) → e ≡ a → e ≡ b → (a ≡ b → ⊥) → ⊥
not_other e a b is other n = n (sym is ∙ other)

pub loop-init : goal.loop-init
loop-init g c = (between_first _ c.new-feed.result _ _ c.new-feed.ensures, omega arith, omega arith)

pub loop-preserved-in-All : goal.loop-preserved-in-All
loop-preserved-in-All g c =
    let i = c.loop.invariant in
    let r = c.in-Bytes.ensures in
    let e = c.in-All.ensures in
    let s = same_sink _ _ _ _ _ _ (g.met.C.Pipe.sink_is_left c.loop.conn) (g.met.C.Pipe.sink_is_left c.read.new.self) r.sink in
    let t = same_source _ _ _ _ _ _ _ _ (g.met.C.Pipe.source_is_left c.read.new.self) (g.met.C.Pipe.source_is_left c.take.new.conn) e.source in (
      between_on _ _ _ _ _ _ _ _ _ _ _ _ i.0 r.bytes.2 s.0 t.0 e.goes (e.ready refl),
      omega (arith, i.1, r.cause.later, t.1),
      omega (arith, i.2, s.1, e.later),
    )

pub returns-in_default : goal.returns-in_default
returns-in_default g c =
    let i = c.loop.invariant in
    let r = c.in-Bytes.ensures in
    let e = c.take.ensures in
    let s = same_sink _ _ _ _ _ _ (g.met.C.Pipe.sink_is_left c.loop.conn) (g.met.C.Pipe.sink_is_left c.read.new.self) r.sink in
    let t = same_source _ _ _ _ _ _ _ _ (g.met.C.Pipe.source_is_left c.read.new.self) (g.met.C.Pipe.source_is_left c.take.new.conn) e.source in
    let is = c.report-in_default.ensures.0 ∙ c.end_of.ensures in
    record {
      served = served_as _ _ _ _ _ _ _ _ _ is c.report-in_default.ensures.1
          (served_stopped _ c.take.result _ c.take.new.self _ _ _ _ _ _ _ _ _ c.in_default.not-All i.0 r.bytes.2 s.0 t.0 e.goes);
      closed = λ u. absurd (not_closed c.take.result c.in_default.not-All (sym is ∙ u));
      read_fault = λ u. absurd (not_read_fault c.take.result (sym is ∙ u));
      write_fault = λ u. rose_since _ _ _ (omega (arith, i.2, s.1)) (e.cause (write_fault c.take.result (sym is ∙ u)));
      stopped = λ u. absurd (not_stopped c.take.result (sym is ∙ u));
    }

pub returns-in-End-clause-served : goal.returns-in-End-clause-served
returns-in-End-clause-served g c =
    let r = c.in-End.ensures in
    let s = same_sink _ _ _ _ _ _ (g.met.C.Pipe.sink_is_left c.loop.conn) (g.met.C.Pipe.sink_is_left c.read.new.self) r.sink in
    served_as _ _ _ _ _ _ _ _ _ c.report-in-End.ensures.0 c.report-in-End.ensures.1
    (served_closed _ c.loop.feed _ _ _ _ (between_kept _ _ _ _ _ _ _ _ c.loop.invariant.0 r.bytes.0 s.0))

pub returns-in-Failed-clause-served : goal.returns-in-Failed-clause-served
returns-in-Failed-clause-served g c =
    let r = c.in-Failed.ensures in
    let s = same_sink _ _ _ _ _ _ (g.met.C.Pipe.sink_is_left c.loop.conn) (g.met.C.Pipe.sink_is_left c.read.new.self) r.sink in
    served_as _ _ _ _ _ _ _ _ _ c.report-in-Failed.ensures.0 c.report-in-Failed.ensures.1
    (served_faulted _ c.loop.feed _ _ _ _ (between_kept _ _ _ _ _ _ _ _ c.loop.invariant.0 r.bytes s.0))

pub loop-preserved : goal.loop-preserved
loop-preserved g c =
    let i = c.loop.invariant in
    let r = c.in-NotYet.ensures in
    let s = same_sink _ _ _ _ _ _ (g.met.C.Pipe.sink_is_left c.loop.conn) (g.met.C.Pipe.sink_is_left c.read.new.self) r.sink in (
      between_kept _ _ _ _ _ _ _ _ i.0 r.bytes s.0,
      omega (arith, i.1, r.cause.later),
      omega (arith, i.2, s.1),
    )

pub returns-then-now-until-clause-served : goal.returns-then-now-until-clause-served
returns-then-now-until-clause-served g c =
    served_as _ _ _ _ _ _ _ _ _ c.report.ensures.0 c.report.ensures.1 (served_stop _ c.loop.feed _ _ _ _ c.loop.invariant.0)

pub returns-then-now-until-clause-closed : goal.returns-then-now-until-clause-closed
returns-then-now-until-clause-closed g c = λ u. absurd (not_other _ end.Stopped end.Closed c.report.ensures.0 u (λ e. cc e))

pub returns-then-now-until-clause-read_fault : goal.returns-then-now-until-clause-read_fault
returns-then-now-until-clause-read_fault g c = λ u. absurd (not_other _ end.Stopped end.ReadFault c.report.ensures.0 u (λ e. cc e))

pub returns-then-now-until-clause-write_fault : goal.returns-then-now-until-clause-write_fault
returns-then-now-until-clause-write_fault g c = λ u. absurd (not_other _ end.Stopped end.WriteFault c.report.ensures.0 u (λ e. cc e))

pub returns-in-End-clause-closed : goal.returns-in-End-clause-closed
returns-in-End-clause-closed g c = λ u. c.in-End.ensures.bytes.1

pub returns-in-End-clause-read_fault : goal.returns-in-End-clause-read_fault
returns-in-End-clause-read_fault g c = λ u. absurd (not_other _ end.Closed end.ReadFault c.report-in-End.ensures.0 u (λ e. cc e))

pub returns-in-End-clause-write_fault : goal.returns-in-End-clause-write_fault
returns-in-End-clause-write_fault g c = λ u. absurd (not_other _ end.Closed end.WriteFault c.report-in-End.ensures.0 u (λ e. cc e))

pub returns-in-End-clause-stopped : goal.returns-in-End-clause-stopped
returns-in-End-clause-stopped g c = λ u. absurd (not_other _ end.Closed end.Stopped c.report-in-End.ensures.0 u (λ e. cc e))

pub returns-in-Failed-clause-closed : goal.returns-in-Failed-clause-closed
returns-in-Failed-clause-closed g c = λ u. absurd (not_other _ end.ReadFault end.Closed c.report-in-Failed.ensures.0 u (λ e. cc e))

pub returns-in-Failed-clause-write_fault : goal.returns-in-Failed-clause-write_fault
returns-in-Failed-clause-write_fault g c = λ u. absurd (not_other _ end.ReadFault end.WriteFault c.report-in-Failed.ensures.0 u (λ e. cc e))

pub returns-in-Failed-clause-stopped : goal.returns-in-Failed-clause-stopped
returns-in-Failed-clause-stopped g c = λ u. absurd (not_other _ end.ReadFault end.Stopped c.report-in-Failed.ensures.0 u (λ e. cc e))
