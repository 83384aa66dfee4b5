use Rattle.std.proofs.Common.{◌<◌, ap, arith, subst, sym}
use Rattle.ls_keep.specs.Kept.{KeptLines, GaveUp}
use Rattle.ls_keep.proofs.Trimming.{gave_up_more, says_no}
use Rattle.ls_keep.proofs.keep.Keep.trim.Goals as goal

pub loop-self-preserved : goal.loop-self-preserved
loop-self-preserved c =
    let k = c.loop-self.self in
    let less : k.given_up < k.sent =
    omega (arith, ap (λ (v : KeptLines). v.given_up) c.self.view_is, ap (λ (v : KeptLines). v.sent) c.self.view_is, c.loop-self-test.true) in
    subst (GaveUp c.args.self.now) (sym c.give_up.ensures.lines)
    (gave_up_more c.args.self.now k c.give_up.new.self.spare c.loop-self.invariant less c.requires.numbered
    (says_no _ c.if-is_over.ensures) c.give_up.ensures.room)
