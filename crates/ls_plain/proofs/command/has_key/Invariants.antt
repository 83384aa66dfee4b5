use Rattle.std.proofs.Common.{◌≡◌, drop}
use Rattle.ls_event.specs.CommandCuts.{has_key}
use Rattle.ls_plain.proofs.command.has_key.Given as goal

-- the key isn't among the first
abbrev pub invariant-loop-waiting : goal.invariant-loop-waiting
invariant-loop-waiting l = has_key (drop l.waiting-index l.queue) l.key ≡ has_key l.queue l.key
