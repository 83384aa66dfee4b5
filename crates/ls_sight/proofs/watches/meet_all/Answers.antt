use Rattle.std.proofs.Common.{◌<◌, ◌≤◌, ◌+◌, List, length, length-set, sym, ap, ◌∙◌, subst, arith, IfSome}
use Rattle.std.proofs.lemmas.Grind.{common_steps}
use Rattle.ls_register.specs.Watches.{Watched}
use Rattle.ls_live.specs.Live.{Pass}
use Rattle.ls_told.specs.Seen.{SeesMore}
use Rattle.ls_sight.specs.Sights.{MeetsAt}
use Rattle.ls_sight.proofs.Agreeing.{FirstSee, FirstMeet, OthersStay, see_next, see_all, sees_set, meet_next, stay_next, all_meet}
use Rattle.ls_sight.proofs.watches.meet_all.Goals as goal

pub loop-i-preserved : goal.loop-i-preserved
loop-i-preserved g c =
    let i = c.loop-i.invariant in
    let m = subst (λ (p : Pass). MeetsAt c.loop-i.i c.loop-i.watches.items c.meet_at.new.watches.items p) i.2 c.meet_at.ensures.meets in
    let ws = c.loop-i.watches.items in
    let test = c.loop-i-test.true in
    let len = c.len-i-end.ensures in
    let ok = c.args.watches.now.ok in
    let count = i.0 in
    let low : c.loop-i.i < length ws = grind (arith, common_steps) in (
      ap length m.is ∙ (length-set ws c.loop-i.i m.met ∙ i.0),
      subst (SeesMore c.args.watches.now.items) (sym m.is) (sees_set c.args.watches.now.items ws c.loop-i.i m.met low m.more i.1),
      c.meet_at.ensures.same ∙ i.2,
      subst (λ (xs : List Watched). IfSome c.args.pass.now.place (λ p. FirstSee (c.loop-i.i + 1) p.at c.args.pass.now.list xs)) (sym m.is)
          (see_next ws c.loop-i.i m.met low c.args.pass.now.place c.args.pass.now.list m.has i.3),
      subst (λ (xs : List Watched). FirstMeet (c.loop-i.i + 1) c.args.pass.now c.args.watches.now.items xs) (sym m.is)
          (meet_next c.args.pass.now c.args.watches.now.items ws c.loop-i.i m.met low m.meets i.4 i.5),
      subst (λ (xs : List Watched). OthersStay (c.loop-i.i + 1) c.args.watches.now.items xs) (sym m.is)
          (stay_next c.args.watches.now.items ws c.loop-i.i m.met i.5),
    )

pub returns-clause-has : goal.returns-clause-has
returns-clause-has g c =
    let i = c.loop-i.invariant in
    let test = c.loop-i-test.false in
    let len = c.len-i-end.ensures in
    let ok = c.args.watches.now.ok in
    let count = i.0 in
    let low : length c.loop-i.watches.items ≤ c.loop-i.i = grind (arith, common_steps) in
    see_all c.loop-i.watches.items c.loop-i.i low c.args.pass.now.place c.args.pass.now.list i.3

pub returns-clause-each : goal.returns-clause-each
returns-clause-each g c =
    let i = c.loop-i.invariant in
    let test = c.loop-i-test.false in
    let len = c.len-i-end.ensures in
    let ok = c.args.watches.now.ok in
    let count = i.0 in
    let low : length c.loop-i.watches.items ≤ c.loop-i.i = grind (arith, common_steps) in
    all_meet c.args.pass.now c.args.watches.now.items c.loop-i.watches.items c.loop-i.i low i.0 i.4
