use Rattle.std.proofs.Common.{arith, ap, Err}
use Rattle.ls_soak.specs.Drawing.{drawn}
use Rattle.ls_soak.specs.Tallies.{tally_of, lines_in}
use Rattle.ls_soak.specs.Soaking.{printed}
use Rattle.ls_soak.proofs.Playing.{script_left, same_cause, none_left}
use Rattle.ls_soak.proofs.soaking.Soaking.run.Goals as goal

pub returns-in-Err-clause-good : goal.returns-in-Err-clause-good
returns-in-Err-clause-good c = λ is.
    let steps = c.args.steps in
    let start = c.args.start in
    c.in-Err.ensures.bad (ap (λ e. Err e) (same_cause _ _ is)) (drawn start 0 steps) (tally_of (lines_in (printed start steps)))
    (script_left _ _ c.opening_lines.result.now start steps c.requires.stands c.requires.none c.opening_lines.ensures
    (omega (arith, c.ranges.steps.fits)))

pub returns-in-Err-draw-clause-good : goal.returns-in-Err-draw-clause-good
returns-in-Err-draw-clause-good c = λ is.
    let steps = c.args.steps in
    let start = c.args.start in
    let all = tally_of (lines_in (printed start steps)) in
    c.in-Err-draw.ensures.bad (ap (λ e. Err e) (same_cause _ _ is)) all
    (c.in-Ok.ensures.ok (drawn start 0 steps) all
    (script_left _ _ c.opening_lines.result.now start steps c.requires.stands c.requires.none c.opening_lines.ensures
    (omega (arith, c.ranges.steps.fits))))

pub returns-in-Ok-draw-clause-ok : goal.returns-in-Ok-draw-clause-ok
returns-in-Ok-draw-clause-ok c =
    let steps = c.args.steps in
    let start = c.args.start in
    let all = tally_of (lines_in (printed start steps)) in
    none_left _ _ all
    (c.in-Ok-draw.ensures.ok all
    (c.in-Ok.ensures.ok (drawn start 0 steps) all
    (script_left _ _ c.opening_lines.result.now start steps c.requires.stands c.requires.none c.opening_lines.ensures
    (omega (arith, c.ranges.steps.fits)))))
