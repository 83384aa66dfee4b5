-- What a step keeps to, so that its lines can be written and read again (TLCP 2.1: the ranges of a line's parts; texts
-- are UTF-8).
use Rattle.std.specs.Prelude.{◌≡◌, true}
use Rattle.ls_event.specs.Shapes.{shape_of, IsShape}
use Rattle.ls_value.specs.Values.{are_distinct}
use Rattle.ls_step.specs.declared.step.Step.{Step}
use Rattle.ls_step.specs.declared.step.Repeat.{Repeat}
use Rattle.ls_value.specs.Each.{Each}
use Rattle.ls_value.specs.Textual.{IsTextual}
use Rattle.ls_step.specs.declared.step.Step.TheVariants as step

-- a new item has as many fields as it may have, among them in kind COMMAND a key and a command apart; an update's texts
-- are UTF-8
abbrev pub StepInRange : Step → Type 0
StepInRange (step.Set name) = Unit {0}
StepInRange (step.Item name k fields) = IsShape (shape_of (record { name = name; kind = k; fields = fields }))
StepInRange (step.Tick ms) = Unit {0}
StepInRange (step.Conn name l) = Unit {0}
StepInRange (step.Open name) = Unit {0}
StepInRange (step.Add connection words) = Unit {0}
StepInRange (step.Request connection name parameters) = Unit {0}
StepInRange (step.Publish adapter seq item cells) = Each IsTextual cells
StepInRange (step.Clear adapter seq item) = Unit {0}
StepInRange (step.Enqueue connection sub rank) = Unit {0}
StepInRange (step.Take connection) = Unit {0}
StepInRange (step.Lose connection) = Unit {0}

-- the names of a new item's fields are distinct
abbrev pub HasDistinctFields : Step → Type 0
HasDistinctFields (step.Set name) = Unit {0}
HasDistinctFields (step.Item name k fields) = are_distinct fields ≡ true
HasDistinctFields (step.Tick ms) = Unit {0}
HasDistinctFields (step.Conn name l) = Unit {0}
HasDistinctFields (step.Open name) = Unit {0}
HasDistinctFields (step.Add connection words) = Unit {0}
HasDistinctFields (step.Request connection name parameters) = Unit {0}
HasDistinctFields (step.Publish adapter seq item cells) = Unit {0}
HasDistinctFields (step.Clear adapter seq item) = Unit {0}
HasDistinctFields (step.Enqueue connection sub rank) = Unit {0}
HasDistinctFields (step.Take connection) = Unit {0}
HasDistinctFields (step.Lose connection) = Unit {0}

-- a repeated step keeps to both
abbrev pub InRange : Repeat → Type 0
InRange r = StepInRange r.step × HasDistinctFields r.step
