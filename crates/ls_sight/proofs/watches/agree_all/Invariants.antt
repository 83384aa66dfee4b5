use Rattle.std.proofs.Common.{◌≡◌, length}
use Rattle.ls_told.specs.Seen.{SeesMore}
use Rattle.ls_sight.specs.Sights.{AreOneItems}
use Rattle.ls_sight.proofs.Agreeing.{FirstSame}
use Rattle.ls_sight.proofs.watches.agree_all.Given as goal

abbrev pub invariant-loop-i : goal.invariant-loop-i
invariant-loop-i g l =
    (length l.watches.items ≡ length l.fn.watches.items) × AreOneItems l.watches.items l.others.items
    × FirstSame l.i l.watches.items l.others.items
    × SeesMore l.fn.watches.items l.watches.items × SeesMore l.fn.others.items l.others.items
