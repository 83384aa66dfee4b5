-- No step makes a line that tells of a client's message.
use Rattle.std.proofs.Common.{ℕ, List, [], ◌∷◌, Option, Some, None}
use Rattle.ls_step.specs.declared.step.Step.{Step}
use Rattle.ls_step.specs.declared.step.Step.TheVariants as step
use Rattle.ls_step.specs.declared.step.Repeat.{Repeat}
use Rattle.ls_record.specs.Records.{LiveSlot, Board, Rate, RoundLine, Round, round_of, is_due}
use Rattle.ls_record.proofs.Parts.{given_by}
use Rattle.ls_world.specs.World.{World}
use Rattle.ls_world.specs.Steps.{does, does_all}
use Rattle.ls_world.proofs.Unmoved.{declared_by}
use Rattle.ls_lawful.proofs.Heard.{HasNoOutcome}
use Rattle.ls_laws.proofs.BoardRule.{Kept, OfEach, of_does}

-- whatever the clock and the rate are
abbrev pub NoOutcome : ℕ → Board → Rate → Type 0
NoOutcome now b r = HasNoOutcome b.lines

given_none : (now : ℕ) (b : Board) (kept : List LiveSlot) (o : Option RoundLine) → HasNoOutcome b.lines → HasNoOutcome (given_by now b kept o).lines
given_none now b kept None e = e
given_none now b kept (Some t) e = e

none_kept : Kept NoOutcome
none_kept =
    record {
      opens = λ now limit rate. tt;
      adds = λ now w s a none k. k;
      removes = λ now sub b r k. k;
      reconfigures = λ now sub frequency b r k. k;
      constrains = λ now limit b r rate k. k;
      ends = λ now b r k. k;
      enqueues = λ now items sub rank b r k. k;
      takes = λ now items s k. let x : Round = round_of (is_due now s) items s.board.lines s.board.round in given_none now s.board x.kept x.came k;
    }

declared_none : (w : World) (s : Step) → OfEach NoOutcome w → OfEach NoOutcome (declared_by w s)
declared_none w (step.Set name) e = e
declared_none w (step.Item name k fields) e = e
declared_none w (step.Tick ms) e = e
declared_none w (step.Conn name l) e = e
declared_none w (step.Open name) e = e
declared_none w (step.Add connection words) e = e
declared_none w (step.Request connection name parameters) e = e
declared_none w (step.Publish adapter seq item cells) e = e
declared_none w (step.Clear adapter seq item) e = e
declared_none w (step.Enqueue connection sub rank) e = e
declared_none w (step.Take connection) e = e
declared_none w (step.Lose connection) e = e

pub none_does : (w : World) (s : Step) (times : ℕ) → OfEach NoOutcome w → OfEach NoOutcome (does w s times).after
none_does w s times e = of_does NoOutcome none_kept w s times (declared_none w s e)

pub none_does_all : (w : World) (steps : List Repeat) → OfEach NoOutcome w → OfEach NoOutcome (does_all w steps)
none_does_all w [] e = e
none_does_all w (r ∷ steps) e = none_does_all (does w r.step r.times).after steps (none_does w r.step r.times e)
