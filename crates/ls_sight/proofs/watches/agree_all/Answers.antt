use Rattle.std.proofs.Common.{◌<◌, ◌≤◌, ◌+◌, List, length, length-set, sym, ap, ◌∙◌, subst, arith}
use Rattle.std.proofs.lemmas.Grind.{common_steps}
use Rattle.ls_register.specs.Watches.{Watched}
use Rattle.ls_told.specs.Seen.{SeesMore}
use Rattle.ls_sight.specs.Sights.{AreOneItems}
use Rattle.ls_sight.proofs.Agreeing.{FirstSame, one_set, first_same, sees_set, all_same}
use Rattle.ls_sight.proofs.watches.agree_all.Goals as goal

pub loop-i-preserved : goal.loop-i-preserved
loop-i-preserved g c =
    let i = c.loop-i.invariant in
    let a = c.agree_at.ensures in
    let ws = c.loop-i.watches.items in
    let vs = c.loop-i.others.items in
    let test = c.loop-i-test.true in
    let len = c.len-i-end.ensures in
    let ok = c.args.watches.now.ok in
    let count = i.0 in
    let same = i.1.count in
    let low : c.loop-i.i < length ws = grind (arith, common_steps) in
    let high : c.loop-i.i < length vs = omega (arith, low, same) in (
      ap length a.mine ∙ (length-set ws c.loop-i.i a.both ∙ i.0),
      subst (λ (xs : List Watched). AreOneItems xs c.agree_at.new.others.items) (sym a.mine)
          (subst (AreOneItems _) (sym a.theirs) (one_set ws vs c.loop-i.i a.both low a.more a.other i.1)),
      subst (λ (xs : List Watched). FirstSame (c.loop-i.i + 1) xs c.agree_at.new.others.items) (sym a.mine)
          (subst (FirstSame (c.loop-i.i + 1) _) (sym a.theirs) (first_same ws vs c.loop-i.i a.both low high i.2)),
      subst (SeesMore c.args.watches.now.items) (sym a.mine) (sees_set c.args.watches.now.items ws c.loop-i.i a.both low a.more i.3),
      subst (SeesMore c.args.others.now.items) (sym a.theirs) (sees_set c.args.others.now.items vs c.loop-i.i a.both high a.other i.4),
    )

pub returns-clause-agree : goal.returns-clause-agree
returns-clause-agree g c =
    let i = c.loop-i.invariant in
    let test = c.loop-i-test.false in
    let len = c.len-i-end.ensures in
    let ok = c.args.watches.now.ok in
    let count = i.0 in
    let low : length c.loop-i.watches.items ≤ c.loop-i.i = grind (arith, common_steps) in
    all_same c.loop-i.watches.items c.loop-i.others.items c.loop-i.i i.1.count low i.2
