use Rattle.std.proofs.Common.{◌≡◌, length, replicate}
use Rattle.ls_event.specs.Cuts.{touched_after_all}
use Rattle.ls_event.specs.History.{between}
use Rattle.ls_plain.proofs.merge.touched_between.Given as goal

-- the flags behind the rest of the entries are those behind all
abbrev pub invariant-loop-i : goal.invariant-loop-i
invariant-loop-i l =
    (length l.touched.items ≡ l.fields)
    × (touched_after_all l.touched.items (between l.history l.i l.upto) ≡ touched_after_all (replicate l.fields l.flag) (between l.history l.cursor l.upto))
