use Rattle.std.proofs.Common.{arith, refl, sym, ap, take, drop, length, ◌-◌, [], ◌++◌, ◌∙◌, Err}
use Rattle.ls_outside.proofs.Bytes.{rose_since}
use Rattle.ls_lines.proofs.Joining.{piece_on}
use Rattle.ls_run.specs.declared.replay.Fed.TheVariants as fed
use Rattle.ls_run.proofs.PieceLines.{empty_of}
use Rattle.ls_run.proofs.Feeding.{next_fed, next_stands, fed_more, stopped_fed, read_fed, read_stands, none_stands, none_fed, written_on, stands_with}
use Rattle.ls_run.proofs.Feeding.{stands_clear, was_well, none_held}
use Rattle.ls_run.proofs.replay.Replay.feed.Goals as goal

pub loop-rest-init : goal.loop-rest-init
loop-rest-init g c = ([], refl, λ p st. (none_stands _ p st.within, none_fed p _ _ st.unwritten), refl)

pub loop-rest-preserved : goal.loop-rest-preserved
loop-rest-preserved g c =
    let i = c.loop-rest.invariant in
    let rest = c.loop-rest.rest.now in
    let used = c.in-Ok.used in
    let n = c.in-Ok.ensures in
    let e = c.in-All.ensures in (
      i.0 ++ take used rest,
      piece_on c.args.piece.now i.0 rest used i.1,
      λ p st. let s = i.2 p st in (
        stands_with _ _ _ e.rest (next_stands _ p i.0 (take used rest) s.1.met.0 (n.ok _ s.0)),
        written_on fed.All fed.All p.world _ _ _ _ _ _ (next_fed fed.All p i.0 (take used rest) _ _ _ _ s.1 (n.holds _ s.0)) e.writes,
      ),
      e.well refl ∙ i.3,
    )

pub returns-in-Err : goal.returns-in-Err
returns-in-Err g c =
    let i = c.loop-rest.invariant in
    let n = c.in-Err.ensures in
    let e = c.write.ensures in
    record {
      feeds = λ p st. let s = i.2 p st in
          written_on c.write.result c.in-Err.stopped p.world _ _ _ _ _ _
          (stopped_fed c.in-Err.stopped p i.0 c.loop-rest.rest.now c.args.piece.now _ _ _ _ i.1 s.1 (n.holds _ s.0)) e.writes;
      all = λ is. absurd (n.stops.0 (ap (λ a. Err a) (was_well c.write.result c.in-Err.stopped _ _ _ _ e.writes is)));
      well = λ is. e.well is ∙ i.3;
      cause = λ is. rose_since _ _ _ (omega (arith, i.3)) (e.cause is);
      later = omega (arith, i.3, e.later);
    }

pub returns-in_default : goal.returns-in_default
returns-in_default g c =
    let i = c.loop-rest.invariant in
    let rest = c.loop-rest.rest.now in
    let used = c.in-Ok.used in
    let n = c.in-Ok.ensures in
    let e = c.write_much.ensures in
    let failed = c.in_default.not-All in
    let none = none_held c.write_much.result _ _ _ _ e.writes failed in
    record {
      feeds = λ p st. let s = i.2 p st in
          fed_more c.write_much.result p (i.0 ++ take used rest) (take (length rest - used) (drop used rest)) c.args.piece.now _ _ [] failed
          (piece_on c.args.piece.now i.0 rest used i.1)
          (written_on c.write_much.result fed.All p.world _ _ _ _ _ []
          (next_fed fed.All p i.0 (take used rest) _ _ _ _ s.1 (n.holds _ s.0)) (rw none at e.writes));
      all = λ is. absurd (failed is);
      well = λ is. e.well is ∙ i.3;
      cause = λ is. rose_since _ _ _ (omega (arith, i.3)) (e.cause is);
      later = omega (arith, i.3, e.later);
    }

pub returns-clause-feeds : goal.returns-clause-feeds
returns-clause-feeds g c = λ p st.
    let i = c.loop-rest.invariant in
    let none = empty_of c.loop-rest.rest.now _ refl (sym c.is_empty.ensures ∙ c.loop-rest-test.false) in
    written_on c.write-2.result fed.All p.world _ _ _ _ _ []
    (read_fed p i.0 c.loop-rest.rest.now c.args.piece.now _ _ _ i.1 none (i.2 p st).1) c.write-2.ensures.writes

pub returns-clause-all : goal.returns-clause-all
returns-clause-all g c = λ is p st.
    let i = c.loop-rest.invariant in
    let none = empty_of c.loop-rest.rest.now _ refl (sym c.is_empty.ensures ∙ c.loop-rest-test.false) in
    stands_clear _ _ _ c.write-2.ensures.rest (read_stands _ p i.0 c.loop-rest.rest.now c.args.piece.now i.1 none (i.2 p st).0)
