use Rattle.std.proofs.Common.{}
use Rattle.ls_links.proofs.Calls.{empty_sound, empty_view}
use Rattle.ls_links.proofs.links.Links.new.Goals as goal

pub invariant_of-result : goal.invariant_of-result
invariant_of-result c = rw (c.in_ok-nodes.ensures, c.in_ok-lengths.ensures) (empty_sound c.args.lists)

pub returns : goal.returns
returns c = rw (c.in_ok-nodes.ensures, c.in_ok-lengths.ensures) (empty_view c.args.lists)
