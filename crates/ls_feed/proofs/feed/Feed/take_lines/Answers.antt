use Rattle.std.proofs.Common.{arith, refl, sym, take, [], ◌++◌, ◌∙◌}
use Rattle.ls_lines.proofs.Joining.{piece_on}
use Rattle.ls_feed.proofs.Going.{goes_whole, stands_on, stands_before, whole_read, empty_of}
use Rattle.ls_feed.proofs.feed.Feed.take_lines.Goals as goal

pub loop-rest-init : goal.loop-rest-init
loop-rest-init g c = ([], refl, λ read held st. stands_before _ _ read held _ st, c.requires.ready, omega arith, refl)

pub loop-rest-preserved : goal.loop-rest-preserved
loop-rest-preserved g c =
    let i = c.loop-rest.invariant in
    let rest = c.loop-rest.rest.now in
    let used = c.in-Ok.used in
    let e = c.in-Ok.ensures in (
      i.0 ++ take used rest,
      piece_on c.args.piece.now i.0 rest used i.1,
      λ read held st. stands_on _ _ read i.0 (take used rest) held _ (e.goes (read ++ i.0) held (i.2 read held st)),
      e.ready,
      omega (arith, i.4, e.later),
      e.source ∙ i.5,
    )

pub returns-in-Err-clause-goes : goal.returns-in-Err-clause-goes
returns-in-Err-clause-goes g c = λ read held st.
    let i = c.loop-rest.invariant in
    goes_whole _ c.in-Err.stopped _ read i.0 c.loop-rest.rest.now c.args.piece.now held _ i.1 (c.in-Err.ensures.goes (read ++ i.0) held (i.2 read held st))

pub returns-clause-goes : goal.returns-clause-goes
returns-clause-goes g c = λ read held st.
    let i = c.loop-rest.invariant in
    whole_read _ _ read i.0 c.loop-rest.rest.now c.args.piece.now held _ i.1
    (empty_of c.loop-rest.rest.now _ refl (sym c.is_empty.ensures ∙ c.loop-rest-test.false)) (i.2 read held st)
