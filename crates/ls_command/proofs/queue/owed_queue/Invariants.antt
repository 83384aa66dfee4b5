use Rattle.std.proofs.Common.{◌≡◌, []}
use Rattle.ls_command.specs.Command.{with_owed}
use Rattle.ls_command.proofs.Owing.{IsOwing}
use Rattle.ls_command.proofs.queue.owed_queue.Given as goal

-- the keys with those that the rest gives are all keys
abbrev pub invariant-loop-row : goal.invariant-loop-row
invariant-loop-row l = (with_owed l.queue.keys l.row-iterator.rest.items ≡ with_owed [] l.fn.rows.items) × IsOwing l.queue
