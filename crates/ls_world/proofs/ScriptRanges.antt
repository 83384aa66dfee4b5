-- What the lines of a script ask for is in its ranges.
use Rattle.std.proofs.Common.{◌≡◌, List, [], ◌∷◌, true}
use Rattle.std.specs.List.{list_all}
use Rattle.std.proofs.lemmas.Str.{IsUtf8-from_is_utf8}
use Rattle.ls_value.specs.declared.row.Cell.{Cell}
use Rattle.ls_value.specs.declared.row.Cell.TheVariants as cell
use Rattle.ls_value.proofs.Rows.{and_left, and_right}
use Rattle.ls_event.specs.EventText.{is_textual}
use Rattle.ls_step.specs.declared.step.Step.{Step}
use Rattle.ls_step.specs.declared.step.Step.TheVariants as step
use Rattle.ls_step.specs.Grammar.{Known}
use Rattle.ls_step.specs.Ranges.{Fits}
use Rattle.ls_config.proofs.Shapes.{shape_of_fields}
use Rattle.ls_value.specs.Each.{Each}
use Rattle.ls_value.specs.Textual.{IsTextual}
use Rattle.ls_world.specs.Ranges.{StepInRange, HasDistinctFields}

-- the cells of an update
textual_cells : (cells : List Cell) → list_all is_textual cells ≡ true → Each IsTextual cells
textual_cells [] h = tt
textual_cells (cell.Same ∷ cells) h = (tt, textual_cells cells h)
textual_cells (cell.Null ∷ cells) h = (tt, textual_cells cells h)
textual_cells (cell.Text t ∷ cells) h = (
  IsUtf8-from_is_utf8 t (and_left (is_textual (cell.Text t)) (list_all is_textual cells) h),
  textual_cells cells
      (and_right (is_textual (cell.Text t)) (list_all is_textual cells) h),
)

-- what fits a script is in its ranges
pub in_range : (k : Known) (s : Step) → Fits k s → StepInRange s
in_range k (step.Set name) f = tt
in_range k (step.Item name kd fields) f = shape_of_fields name kd fields f.some f.most f.keys
in_range k (step.Tick ms) f = tt
in_range k (step.Conn name l) f = tt
in_range k (step.Open name) f = tt
in_range k (step.Add connection words) f = tt
in_range k (step.Request connection name parameters) f = tt
in_range k (step.Publish adapter seq item cells) f = textual_cells cells f.textual
in_range k (step.Clear adapter seq item) f = tt
in_range k (step.Enqueue connection sub rank) f = tt
in_range k (step.Take connection) f = tt
in_range k (step.Lose connection) f = tt

-- and a new item's fields are distinct
pub distinct_fields : (k : Known) (s : Step) → Fits k s → HasDistinctFields s
distinct_fields k (step.Set name) f = tt
distinct_fields k (step.Item name kd fields) f = f.distinct
distinct_fields k (step.Tick ms) f = tt
distinct_fields k (step.Conn name l) f = tt
distinct_fields k (step.Open name) f = tt
distinct_fields k (step.Add connection words) f = tt
distinct_fields k (step.Request connection name parameters) f = tt
distinct_fields k (step.Publish adapter seq item cells) f = tt
distinct_fields k (step.Clear adapter seq item) f = tt
distinct_fields k (step.Enqueue connection sub rank) f = tt
distinct_fields k (step.Take connection) f = tt
distinct_fields k (step.Lose connection) f = tt
