-- The texts of printed lines (this project's profile).
use Rattle.std.specs.Prelude.{ℕ, ◌+◌, ◌≤◌, List, [], ◌∷◌, ◌++◌, length, codes}
use Rattle.std.specs.Fmt.{decimal}
use Rattle.ls_step.specs.declared.limits.TheConstants.{LONGEST_NOTE}
use Rattle.ls_step.specs.declared.out.Out.{Out}
use Rattle.ls_step.specs.declared.out.Out.TheVariants as out
use Rattle.ls_step.specs.declared.out.Printed.{Printed}
use Rattle.ls_step.specs.declared.out.Printed.TheVariants as printed

-- a note of a word alone, ended by LF as each printed line
abbrev pub note : List ℕ → List ℕ
note word = word ++ 10 ∷ []

-- a note of a word and a number
abbrev pub number_note : List ℕ → ℕ → List ℕ
number_note word n = word ++ 32 ∷ decimal n ++ 10 ∷ []

-- a line on a connection
abbrev pub line_on : List ℕ → List ℕ → List ℕ
line_on connection text = connection ++ 58 ∷ text ++ 10 ∷ []

-- the text of a printed line
abbrev pub text_of_out : Out → List ℕ
text_of_out (out.Published number) = number_note (codes "-no") number
text_of_out (out.Repeated last) = number_note (codes "-repeated") last
text_of_out out.NoKey = note (codes "-nokey")
text_of_out out.BadCommand = note (codes "-badcommand")
text_of_out (out.TooLong bytes) = number_note (codes "-toolong") bytes
text_of_out out.TooManyKeys = note (codes "-toomanykeys")
text_of_out (out.Backlog slot) = number_note (codes "-backlog") slot
text_of_out out.Spent = note (codes "-spent")
text_of_out (out.Moved number) = number_note (codes "-moved") number
text_of_out out.UpToDate = note (codes "-uptodate")
text_of_out out.NoSlot = note (codes "-noslot")
text_of_out out.Idle = note (codes "-idle")
text_of_out (out.NotDue at) = number_note (codes "-notdue") at
text_of_out (out.Superseded epoch) = number_note (codes "-superseded") epoch
text_of_out (out.Ended code) = number_note (codes "-ended") code
text_of_out out.Unbound = note (codes "-unbound")
text_of_out out.NoSession = note (codes "-none")
text_of_out out.Lost = note (codes "-lost")
text_of_out (out.Line connection text) = line_on connection text

-- room that is enough for it
abbrev pub room_for : Out → ℕ
room_for (out.Line connection text) = length connection + (length text + 2)
room_for o = LONGEST_NOTE

-- the same of what is printed of it, and that its word is short
abbrev pub printed_text : Printed → List ℕ
printed_text (printed.Word word) = note word.now
printed_text (printed.Number word n) = number_note word.now n
printed_text (printed.Line connection text) = line_on connection.now text.now

abbrev pub printed_room : Printed → ℕ
printed_room (printed.Word word) = LONGEST_NOTE
printed_room (printed.Number word n) = LONGEST_NOTE
printed_room (printed.Line connection text) = length connection.now + (length text.now + 2)

abbrev pub IsShort : Printed → Type 0
IsShort (printed.Word word) = length word.now ≤ 32
IsShort (printed.Number word n) = length word.now ≤ 11
IsShort (printed.Line connection text) = Unit {0}
