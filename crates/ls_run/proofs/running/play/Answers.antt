use Rattle.std.proofs.Common.{arith, refl, sym, ◌∙◌}
use Rattle.ls_outside.proofs.Bytes.{rose_since, rose_by_none}
use Rattle.ls_run.proofs.Runs.{going_start, going_on, ran_stopped, ran_ended, ran_faulted, not_usage, read_cause, write_fault, status_ok}
use Rattle.ls_run.proofs.running.play.Goals as goal

pub loop-init : goal.loop-init
loop-init g c = (
  going_start c.args.replay.now _ _ c.requires,
  refl,
  omega arith,
  rose_by_none _ _ (omega arith),
  refl,
  omega arith,
)

pub loop-preserved-in-All : goal.loop-preserved-in-All
loop-preserved-in-All g c =
    let i = c.loop.invariant in
    let r = c.in-Bytes.ensures in
    let e = c.in-All.ensures in (
      going_on _ _ _ _ _ _ _ _ _ i.0 r.bytes.2 e.feeds (e.all refl),
      r.cause.counts.0 ∙ i.1,
      omega (arith, i.2, r.cause.idles),
      rose_by_none _ _ (omega (arith, i.2, r.cause.idles)),
      e.well refl ∙ i.4,
      omega arith,
    )

pub returns-in_default : goal.returns-in_default
returns-in_default g c =
    let i = c.loop.invariant in
    let r = c.in-Bytes.ensures in
    let e = c.feed.ensures in
    let is = c.status_of.ensures in
    record {
      not_usage = λ u. not_usage c.feed.result (sym is ∙ u);
      ran = rw is (ran_stopped c.feed.result _ _ _ _ _ _ _ _ c.in_default.not-All i.0 r.bytes.2 e.feeds);
      read_fault = λ u. read_cause c.feed.result _ _ _ _ (sym is ∙ u);
      write_fault = λ u. rose_since _ _ _ (omega (arith, i.4)) (e.cause (write_fault c.feed.result (sym is ∙ u)));
      no_fault = λ u. absurd (c.in_default.not-All (status_ok c.feed.result (sym is ∙ u)));
    }

pub returns-in-End-clause-ran : goal.returns-in-End-clause-ran
returns-in-End-clause-ran g c =
    rw c.status_of-in-End.ensures (ran_ended c.finish.result _ _ _ _ _ _ _ c.loop.invariant.0 c.in-End.ensures.bytes.0 c.in-End.ensures.bytes.1
    c.finish.ensures.feeds)

pub returns-in-End-clause-no_fault : goal.returns-in-End-clause-no_fault
returns-in-End-clause-no_fault g c = λ u. (
  c.in-End.ensures.cause.counts.0 ∙ c.loop.invariant.1,
  c.finish.ensures.well (status_ok c.finish.result (sym c.status_of-in-End.ensures ∙ u)) ∙ c.loop.invariant.4,
)

pub returns-then-idles-ge-MAX_IDLES-clause-ran : goal.returns-then-idles-ge-MAX_IDLES-clause-ran
returns-then-idles-ge-MAX_IDLES-clause-ran g c = ran_faulted _ _ _ _ _ _ c.loop.invariant.0 c.in-NotYet.ensures.bytes

pub returns-in-Failed-clause-ran : goal.returns-in-Failed-clause-ran
returns-in-Failed-clause-ran g c = ran_faulted _ _ _ _ _ _ c.loop.invariant.0 c.in-Failed.ensures.bytes
