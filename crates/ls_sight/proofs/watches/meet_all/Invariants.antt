use Rattle.std.proofs.Common.{◌≡◌, length, IfSome}
use Rattle.ls_told.specs.Seen.{SeesMore}
use Rattle.ls_sight.proofs.Agreeing.{FirstSee, FirstMeet, OthersStay}
use Rattle.ls_sight.proofs.watches.meet_all.Given as goal

abbrev pub invariant-loop-i : goal.invariant-loop-i
invariant-loop-i g l =
    (length l.watches.items ≡ length l.fn.watches.items) × SeesMore l.fn.watches.items l.watches.items
    × (l.pass ≡ l.fn.pass) × IfSome l.fn.pass.place (λ p. FirstSee l.i p.at l.fn.pass.list l.watches.items)
    × FirstMeet l.i l.fn.pass l.fn.watches.items l.watches.items × OthersStay l.i l.fn.watches.items l.watches.items
