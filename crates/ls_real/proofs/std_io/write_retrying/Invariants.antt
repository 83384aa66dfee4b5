use Rattle.std.specs.Io.KnownBytes.{Keeps}
use Rattle.ls_real.specs.Adapters.{Interrupts}
use Rattle.ls_real.proofs.std_io.write_retrying.Given as goal

-- the writer holds what it held, and each try so far was interrupted
abbrev pub invariant-loop : goal.invariant-loop
invariant-loop g l =
    Keeps (g.W.Writer.held l.initial.writer) (g.W.Writer.held l.writer)
    × Interrupts g.W.Writer.answers l.piece l.counter l.initial.writer l.writer
