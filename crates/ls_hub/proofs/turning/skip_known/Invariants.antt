use Rattle.std.proofs.Common.{ℕ, List}
use Rattle.ls_record.specs.Records.{Item, LiveSlot}
use Rattle.ls_session.specs.Record.{Record}
use Rattle.ls_hub.specs.Turning.{MaySkip}
use Rattle.ls_hub.proofs.turning.skip_known.Given as goal

abbrev pub invariant-loop : goal.invariant-loop
invariant-loop l = (now : ℕ) (items : List Item) (epoch : ℕ) (before behind : List LiveSlot) (r : Record)
    → MaySkip now items epoch before behind r l.initial.session l.cells → MaySkip now items epoch before behind r l.session l.cells
