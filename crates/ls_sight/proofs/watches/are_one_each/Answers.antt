use Rattle.std.proofs.Common.{◌≤◌, length, List, ◌∙◌, sym, subst, arith}
use Rattle.std.proofs.lemmas.Grind.{common_steps}
use Rattle.ls_register.specs.Watches.{Watched}
use Rattle.ls_sight.specs.Sights.{IsOneAt}
use Rattle.ls_sight.proofs.Agreeing.{first_one, all_one}
use Rattle.ls_sight.proofs.watches.are_one_each.Goals as goal

pub loop-i-preserved : goal.loop-i-preserved
loop-i-preserved g c =
    let i = c.loop-i.invariant in
    let ws = c.args.watches.now.items in
    let vs = c.args.others.now.items in
    let one : IsOneAt c.loop-i.i ws vs =
    subst (λ (l : List Watched). IsOneAt c.loop-i.i l vs) i.0
    (subst (λ (l : List Watched). IsOneAt c.loop-i.i c.loop-i.watches.items l) i.1 (c.is_one_at.ensures.one c.if-is_one_at.true)) in (
      c.is_one_at.ensures.same.0 ∙ i.0,
      c.is_one_at.ensures.same.1 ∙ i.1,
      first_one ws vs c.loop-i.i one i.2,
    )

pub returns-clause-one : goal.returns-clause-one
returns-clause-one g c is =
    let i = c.loop-i.invariant in
    let test = c.loop-i-test.false in
    let len = c.len-i-end.ensures in
    let ok = c.args.watches.now.ok in
    let low : length c.args.watches.now.items ≤ c.loop-i.i = grind (arith, common_steps) in
    all_one c.args.watches.now.items c.args.others.now.items c.loop-i.i c.requires.count low i.2

pub returns-else-is_one_at-clause-not_one : goal.returns-else-is_one_at-clause-not_one
returns-else-is_one_at-clause-not_one g c is one =
    let i = c.loop-i.invariant in
    c.is_one_at.ensures.not_one c.if-is_one_at.false
    (subst (λ (l : List Watched). IsOneAt c.loop-i.i l c.loop-i.others.items) (sym i.0)
    (subst (λ (l : List Watched). IsOneAt c.loop-i.i c.args.watches.now.items l) (sym i.1) (one.each c.loop-i.i)))
