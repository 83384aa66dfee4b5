-- What bytes say, read as a line: the line, or the first cause of their refusal (TLCP 2.1, notifications and answers).
use Rattle.std.specs.Prelude.{◌≡◌, ℕ, ◌+◌, List, [], ◌∷◌, length, Bool, false, ◌||◌, not, Option, None, Some}
use Rattle.std.specs.Prelude.{option_and_then, is_none, Result, Ok, Err, nat_eq, nat_le, if◌then◌else◌}
use Rattle.std.specs.Str.{is_utf8}
use Rattle.ls_value.specs.Values.{text_eq}
use Rattle.ls_line.specs.declared.line.Line.{Line}
use Rattle.ls_line.specs.declared.line.LineRefused.{LineRefused}
use Rattle.ls_line.specs.declared.line.LineRefused.TheVariants as refused
use Rattle.ls_line.specs.declared.table.Tag.{Tag}
use Rattle.ls_line.specs.declared.table.Kind.{Kind}
use Rattle.ls_line.specs.declared.table.Kind.TheVariants as kind
use Rattle.ls_value.specs.declared.limits.TheConstants.{GREATEST_ORDINAL, GREATEST_NUMBER}
use Rattle.ls_words.specs.Numbers.{number_in}
use Rattle.ls_line.specs.Forms.{tag_of, kinds_of, line_with, is_rest}
use Rattle.ls_line.specs.Lines.{Part, Fixed, Ordinal, Count, Text, Message, Coded, word_text}
use Rattle.ls_line.specs.Pieces.{first_piece, behind, commas}

-- the piece that says a part of a kind, where this is left of the line
abbrev pub piece : Kind → List ℕ → List ℕ
piece k rest = if is_rest k then rest else first_piece rest

-- whether some part is the rest of the line
abbrev pub has_rest : List Kind → Bool
has_rest [] = false
has_rest (k ∷ kinds) = is_rest k || has_rest kinds

-- whether so many commas divide a line into the pieces of its parts; a rest may hold more of them
abbrev pub has_parts : List Kind → ℕ → Bool
has_parts kinds n = if has_rest kinds then nat_le (length kinds) n else nat_eq n (length kinds)

-- the ordinal that a text says
abbrev pub ordinal_in : List ℕ → Option ℕ
ordinal_in text = number_in text 1 GREATEST_ORDINAL

-- another number that a text says
abbrev pub count_in : List ℕ → Option ℕ
count_in text = number_in text 0 GREATEST_NUMBER

-- a number that is none of its range
abbrev pub is_bad_number : Kind → List ℕ → Bool
is_bad_number (kind.Fixed w) text = false
is_bad_number kind.Ordinal text = is_none (ordinal_in text)
is_bad_number kind.Count text = is_none (count_in text)
is_bad_number kind.Text text = false
is_bad_number kind.Message text = false
is_bad_number kind.Coded text = false

-- another word than the fixed one, or a text that is not UTF-8
abbrev pub is_bad_text : Kind → List ℕ → Bool
is_bad_text (kind.Fixed w) text = not (text_eq text (word_text w))
is_bad_text kind.Ordinal text = false
is_bad_text kind.Count text = false
is_bad_text kind.Text text = not (is_utf8 text)
is_bad_text kind.Message text = not (is_utf8 text)
is_bad_text kind.Coded text = false

-- the first bad piece, counted from a number
abbrev pub first_bad : (Kind → List ℕ → Bool) → List Kind → List ℕ → ℕ → Option ℕ
first_bad bad [] rest at = None
first_bad bad (k ∷ kinds) rest at = if bad k (piece k rest) then Some at else first_bad bad kinds (behind rest) (at + 1)

-- a bad number comes before a bad text
abbrev pub bad_piece : Option ℕ → Option ℕ → Option LineRefused
bad_piece (Some at) text = Some (refused.BadNumber at)
bad_piece None (Some at) = Some (refused.BadText at)
bad_piece None None = None

-- why bytes are no line of a tag
abbrev pub cause_behind : Tag → List ℕ → Option LineRefused
cause_behind t bytes =
    if has_parts (kinds_of t) (commas bytes)
    then bad_piece (first_bad is_bad_number (kinds_of t) (behind bytes) 2)
    (first_bad is_bad_text (kinds_of t) (behind bytes) 2)
    else Some refused.BadCount

-- and of a tag, or of none
abbrev pub cause_of : Option Tag → List ℕ → Option LineRefused
cause_of None bytes = Some refused.BadTag
cause_of (Some t) bytes = cause_behind t bytes

-- why bytes are no line: the first cause of the order
abbrev pub refusal : List ℕ → Option LineRefused
refusal bytes = cause_of (tag_of (first_piece bytes)) bytes

-- a number, 0 where there is none
abbrev pub or_zero : Option ℕ → ℕ
or_zero None = 0
or_zero (Some n) = n

-- the part of a kind that a piece says
abbrev pub part_of : Kind → List ℕ → Part
part_of (kind.Fixed w) text = Fixed w
part_of kind.Ordinal text = Ordinal (or_zero (ordinal_in text))
part_of kind.Count text = Count (or_zero (count_in text))
part_of kind.Text text = Text text
part_of kind.Message text = Message text
part_of kind.Coded text = Coded text

-- the parts of these kinds that bytes say
abbrev pub parts_of : List Kind → List ℕ → List Part
parts_of [] rest = []
parts_of (k ∷ kinds) rest = part_of k (piece k rest) ∷ parts_of kinds (behind rest)

-- the line of a tag behind which this stands
abbrev pub line_behind : Tag → List ℕ → Option Line
line_behind t rest = line_with t (parts_of (kinds_of t) rest)

-- the line that bytes say
abbrev pub line_of : List ℕ → Option Line
line_of bytes = option_and_then (λ t. line_behind t (behind bytes)) (tag_of (first_piece bytes))

-- bytes are read as a line
abbrev pub Says : List ℕ → Line → Type 0
Says bytes l = (refusal bytes ≡ None) × (line_of bytes ≡ Some l)

-- the answer is the line, or that memory was refused
abbrev pub AnswersLine : Option Line → Result Line LineRefused → Type 0
AnswersLine l (Ok read) = l ≡ Some read
AnswersLine l (Err cause) = cause ≡ refused.NoMemory

-- the answer is the first cause; without a cause it is the line, or that memory was refused
abbrev pub AnswersFirst : Option LineRefused → Option Line → Result Line LineRefused → Type 0
AnswersFirst (Some cause) l answer = answer ≡ Err cause
AnswersFirst None l answer = AnswersLine l answer
