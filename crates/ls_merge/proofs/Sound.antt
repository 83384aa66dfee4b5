-- How long the rows of a buffer are.
use Rattle.std.proofs.Common.{◌≡◌, List, length, Option, Some, None, Bool, true, false, slice_get, All, refl, sym, cond, subst, drop}
use Rattle.std.proofs.lemmas.List.Elements.{All-drop}
use Rattle.ls_value.specs.declared.row.Cell.{Cell}
use Rattle.ls_value.specs.declared.row.Value.{Value}
use Rattle.ls_value.proofs.Rows.{applied_length}
use Rattle.ls_event.specs.declared.event.Event.{Event}
use Rattle.ls_merge.specs.Merge.{Merge, stepped, due, merge_passed, is_over, within_size, with_event, merge_after}

due_row_length : (b : Merge) → length (due b).row ≡ length b.row
due_row_length b = by_owed b.owed (slice_get b.later 0)
  where
    by_owed : (v : Bool) (o : Option (List Cell)) → length (cond v (record b { owed = false }) (stepped b o)).row ≡ length b.row
    by_owed true o = refl
    by_owed false None = refl
    by_owed false (Some cells) = applied_length b.row cells

pub passed_row_length : (b : Merge) → length (merge_passed b).row ≡ length b.row
passed_row_length b = due_row_length b

pub within_row_length : (b : Merge) → length (within_size b).row ≡ length b.row
within_row_length b = by_size (is_over b)
  where
    by_size : (v : Bool) → length (cond v (due b) b).row ≡ length b.row
    by_size true = due_row_length b
    by_size false = refl

pub after_row_length : (b : Merge) (event : Event) → length (merge_after b event).row ≡ length b.row
after_row_length b event = within_row_length (with_event b event)

-- what is said later has as many cells as a row of the same length
pub rest_fits : (row made : List Value) (later : List (List Cell)) → All (λ cells. length cells ≡ length row) later → length made ≡ length row
    → All (λ cells. length cells ≡ length made) (drop 1 later)
rest_fits row made later all same = subst (λ n. All (λ cells. length cells ≡ n) (drop 1 later)) (sym same)
    (All-drop (λ cells. length cells ≡ length row) 1 later all)
