-- What is read has the text that it was read from.
use Rattle.std.proofs.Common.{◌≡◌, ℕ, List, true, false, Option, None, Some, Result, Ok, Err, IfOk, refl, sym, subst}
use Rattle.std.proofs.Common.{is_some, option_and_then}
use Rattle.std.specs.List.{list_all}
use Rattle.ls_line.specs.declared.line.Line.{Line}
use Rattle.ls_line.specs.declared.line.LineRefused.{LineRefused}
use Rattle.ls_value.specs.declared.text.NoMemory.{NoMemory}
use Rattle.ls_line.specs.Lines.{text_of_line, is_of_message, is_message_byte, IsWritable}
use Rattle.ls_line.specs.declared.table.Tag.{Tag}
use Rattle.ls_line.specs.Forms.{tag_of}
use Rattle.ls_line.specs.Pieces.{first_piece, behind}
use Rattle.ls_line.specs.Reading.{Says, AnswersFirst, refusal, line_of, cause_of, line_behind}
use Rattle.ls_line.proofs.Backward.{text-read, writable-read}
use Rattle.ls_line.proofs.Rows.{row, read_again}

pub exact : (bytes : List ℕ) (l : Line) → Says bytes l → text_of_line l ≡ bytes
exact bytes l s = text-read row bytes l s

pub writable : (bytes : List ℕ) (l : Line) → Says bytes l → list_all is_message_byte bytes ≡ true → IsWritable l
writable bytes l s m = writable-read row bytes l s m

-- an answer with a line says it
answered : (cause : Option LineRefused) (o : Option Line) (l : Line) → AnswersFirst cause o (Ok l)
    → (cause ≡ None) × (o ≡ Some l)
answered None o l h = (refl, h)
answered (Some cause) o l h = cc

pub answer_exact : (bytes : List ℕ) (answer : Result Line LineRefused)
    → AnswersFirst (refusal bytes) (line_of bytes) answer → IfOk answer (λ l. text_of_line l ≡ bytes)
answer_exact bytes (Ok l) h = exact bytes l (answered (refusal bytes) (line_of bytes) l h)
answer_exact bytes (Err cause) h = tt

pub answer_writable : (bytes : List ℕ) (answer : Result Line LineRefused)
    → AnswersFirst (refusal bytes) (line_of bytes) answer
    → IfOk answer (λ l. list_all is_message_byte bytes ≡ true → IsWritable l)
answer_writable bytes (Ok l) h = λ m. writable bytes l (answered (refusal bytes) (line_of bytes) l h) m
answer_writable bytes (Err cause) h = tt

pub text_said : (l : Line) (answer : Result (List ℕ) NoMemory) → IfOk answer (λ t. t ≡ text_of_line l)
    → IfOk answer (λ t. IsWritable l → is_of_message l ≡ false → Says t l)
text_said l (Ok t) h = λ w m. subst (λ (x : List ℕ). Says x l) (sym h) (read_again l w m)
text_said l (Err cause) h = tt

-- bytes without a cause against them are a line
pub whole : (bytes : List ℕ) → refusal bytes ≡ None → is_some (line_of bytes) ≡ true
whole bytes h = by_tag (tag_of (first_piece bytes)) h
  where
    by_tag : (o : Option Tag) → cause_of o bytes ≡ None → is_some
        (option_and_then (λ t. line_behind t (behind bytes)) o) ≡ true
    by_tag None h = cc
    by_tag (Some t) h = let r = row t (behind bytes) in r.some
