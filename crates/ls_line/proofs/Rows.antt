-- The rows of the table of lines: each is read again, and what is read is a row.
use Rattle.std.proofs.Common.{◌≡◌, ℕ, List, false, refl}
use Rattle.ls_line.specs.declared.line.Line.{Line}
use Rattle.ls_line.specs.declared.line.Line.TheVariants as line
use Rattle.ls_line.specs.declared.table.Tag.{Tag}
use Rattle.ls_line.specs.declared.table.Tag.TheVariants as tag
use Rattle.ls_line.specs.Lines.{text_of_line, is_of_message, IsWritable}
use Rattle.ls_line.specs.Reading.{Says}
use Rattle.ls_line.proofs.Commas.{row_again}
use Rattle.ls_line.proofs.Backward.{IsRow}

-- the last clause stands for each other line, and is checked for each
pub read_again : (l : Line) → IsWritable l → is_of_message l ≡ false → Says (text_of_line l) l
read_again (line.MsgDone sequence number) w m = cc
read_again (line.MsgFail sequence number code message) w m = cc
read_again l w m = row_again l _ (record { named = refl; free = refl; kinds = refl; last = refl; is = refl }) w

-- and here for each other tag
pub row : (t : Tag) (rest : List ℕ) → IsRow t rest
row tag.Probe rest = record { last = refl; some = refl; line = record { tag = refl; parts = refl } }
row t rest = record { last = refl; some = refl; line = record { tag = refl; parts = refl } }
