use Rattle.std.proofs.Common.{◌≡◌, ◌≤◌, length, take, vec_len}
use Rattle.std.specs.Vec.{vec_capacity}
use Rattle.ls_register.specs.Items.{items_of, facts_of}
use Rattle.ls_shared.proofs.shared.push_items.Given as goal

abbrev pub invariant-loop-item : goal.invariant-loop-item
invariant-loop-item g l =
    (l.writer.table ≡ g.N.House.deed.register)
    × (items_of l.writer.list ≡ facts_of (take l.item g.N.House.deed.config))
    × (length l.writer.list ≡ l.item)
    × (vec_len l.items ≡ l.item)
    × (length l.defs ≤ vec_capacity l.items)
