use Rattle.std.proofs.Common.{arith}
use Rattle.ls_cell.proofs.Sound.{sound_new}
use Rattle.ls_cell.proofs.cell.ItemCell.new.Goals as goal

pub invariant_of-result : goal.invariant_of-result
invariant_of-result c =
    rw (c.new-2.ensures.items, c.new-3.ensures)
    (sound_new _ _ _ c.requires c.in_ok-state.ensures (omega (arith, c.in_ok-seqs.ensures.len, c.in_ok-seqs.seqs.ok.0)))
