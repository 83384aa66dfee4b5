use Rattle.ls_shared.proofs.Grown.{only_items}
use Rattle.ls_shared.proofs.shared.Shared.new.Goals as goal

pub new-requires-clause-nothing : goal.new-requires-clause-nothing
new-requires-clause-nothing g c =
    only_items c.live_items.new.writer.list g.N.House.deed.config c.in_ok-items.ensures.items c.in_ok-items.ensures.entries
