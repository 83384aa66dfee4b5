-- The numbered lines of a session, the lines of the protocol that they are, and what came to a client by them (TLCP
-- 2.1, notifications).
use Rattle.std.specs.Prelude.{◌==◌, ℕ, ◌+◌, List, [], ◌∷◌, ◌++◌, length, Bool, true, false, ◌&&◌, Option, None, Some}
use Rattle.std.specs.Prelude.{nat_lt, codes, if◌then◌else◌}
use Rattle.ls_value.specs.declared.row.Value.{Value}
use Rattle.ls_budget.specs.Budget.{Spend}
use Rattle.ls_form.specs.Decimals.{milli_text}
use Rattle.ls_update.specs.Fields.{spelled}
use Rattle.ls_line.specs.declared.line.Line.{Line as WireLine}
use Rattle.ls_line.specs.Lines.{text_of_line}
use Rattle.ls_mirror.specs.declared.command.KeyPlaces.{KeyPlaces}
use Rattle.ls_mirror.specs.Client.{What, Row, Lost, Cleared, End, last_row as last_row_of}
use Rattle.ls_record.specs.Came.{Came, whats}
use Rattle.ls_line.specs.declared.line.Line.TheVariants as line

-- what became of a client's message: it was handed on, or it wasn't, for the cause of a code, in words. The message is
-- named by its sequence, or `*` where it has none, and by its number (this project's profile, MSGDONE and MSGFAIL)
pub data MessageOutcome : Type 0 where
  Done : List ℕ → ℕ → MessageOutcome
  Failed : List ℕ → ℕ → ℕ → List ℕ → MessageOutcome

-- SUBOK with its numbers of items and fields, or SUBCMD where the places of a key and a command stand behind them;
-- UNSUB; CONF with the greatest frequency, where there is one, filtered or not; MSGDONE or MSGFAIL, which is of no
-- subscription; and a line that tells at a tick of an item of a subscription: U, OV, CS or EOS
pub data Line : Type 0 where
  Begins : ℕ → ℕ → ℕ → Option KeyPlaces → Line
  Ends : ℕ → Line
  Configures : ℕ → Option ℕ → Bool → Line
  Answers : MessageOutcome → Line
  Tells : ℕ → ℕ → ℕ → Came → Line

-- what came of an item of a subscription since it began, the newest first, as the lines
abbrev pub came : ℕ → ℕ → List Line → List Came
came sub rank [] = []
came sub rank (Begins s items fields keys ∷ lines) = if s == sub then [] else came sub rank lines
came sub rank (Ends s ∷ lines) = if s == sub then [] else came sub rank lines
came sub rank (Configures s frequency filtered ∷ lines) = came sub rank lines
came sub rank (Answers outcome ∷ lines) = came sub rank lines
came sub rank (Tells s p tick c ∷ lines) =
    if (s == sub) && (p == rank) then c ∷ came sub rank lines else came sub rank lines

-- the last row that came
abbrev pub last_row : List Came → Option (List Value)
last_row cs = last_row_of (whats cs)

-- the line of the protocol that tells, where the last row was this one: a row is coded against it
abbrev pub tells_line : Option (List Value) → ℕ → ℕ → What → WireLine
tells_line prev sub rank (Row r) = line.U sub rank (spelled prev r)
tells_line prev sub rank (Lost k) = line.Ov sub rank k
tells_line prev sub rank Cleared = line.Cs sub rank
tells_line prev sub rank End = line.Eos sub rank

-- its text
abbrev pub tells_text : Option (List Value) → ℕ → ℕ → What → List ℕ
tells_text prev sub rank what = text_of_line (tells_line prev sub rank what)

-- the line with which a subscription begins; places in it count from 1
abbrev pub begins_line : ℕ → ℕ → ℕ → Option KeyPlaces → WireLine
begins_line sub items fields None = line.SubOk sub items fields
begins_line sub items fields (Some at) = line.SubCmd sub items fields (at.key + 1) (at.command + 1)

-- a frequency or a bandwidth in thousandths, as a line tells it
abbrev pub limit_text : Option ℕ → List ℕ
limit_text None = codes "unlimited"
limit_text (Some n) = milli_text n

-- the line that tells a client what became of its message
abbrev pub outcome_line : MessageOutcome → WireLine
outcome_line (Done sequence number) = line.MsgDone sequence number
outcome_line (Failed sequence number code message) = line.MsgFail sequence number code message

-- a numbered line as a line of the protocol, behind the lines before it
abbrev pub wire : List Line → Line → WireLine
wire lines (Begins sub items fields keys) = begins_line sub items fields keys
wire lines (Ends sub) = line.Unsub sub
wire lines (Configures sub frequency filtered) =
    line.Conf sub (limit_text frequency) (if filtered then codes "filtered" else codes "unfiltered")
wire lines (Answers outcome) = outcome_line outcome
wire lines (Tells sub rank tick c) = tells_line (last_row (came sub rank lines)) sub rank c.what

-- the text of a line behind the lines before it
abbrev pub line_text : List Line → Line → List ℕ
line_text lines l = text_of_line (wire lines l)

-- the texts of all lines
abbrev pub texts : List Line → List (List ℕ)
texts [] = []
texts (l ∷ lines) = line_text lines l ∷ texts lines

-- the text of the line of a number, where the newest of the lines stands first
abbrev pub text_at : List Line → ℕ → List ℕ
text_at [] n = []
text_at (l ∷ lines) n = if n == length lines + 1 then line_text lines l else text_at lines n

-- the texts of the lines numbered from n + 1 on, in their order, where the newest of all lines stands first
abbrev pub texts_behind : ℕ → List Line → List (List ℕ)
texts_behind n [] = []
texts_behind n (l ∷ lines) = if nat_lt n (length lines + 1) then texts_behind n lines ++ line_text lines l ∷ [] else []

-- whether a line that tells is an update, U
abbrev pub is_update : What → Bool
is_update (Row r) = true
is_update (Lost k) = false
is_update Cleared = false
is_update End = false

-- the tick of the last update of an item of a subscription since it began, if there was one
abbrev pub updated : ℕ → ℕ → List Line → Option ℕ
updated sub rank [] = None
updated sub rank (Begins s items fields keys ∷ lines) = if s == sub then None else updated sub rank lines
updated sub rank (Ends s ∷ lines) = if s == sub then None else updated sub rank lines
updated sub rank (Configures s frequency filtered ∷ lines) = updated sub rank lines
updated sub rank (Answers outcome ∷ lines) = updated sub rank lines
updated sub rank (Tells s p tick c ∷ lines) =
    if ((s == sub) && (p == rank)) && is_update c.what then Some tick else updated sub rank lines

-- what an update takes of the bandwidth: its bytes with CR LF, at its tick; no other line takes anything
abbrev pub spent_by : List Line → Line → List Spend
spent_by lines (Begins sub items fields keys) = []
spent_by lines (Ends sub) = []
spent_by lines (Configures sub frequency filtered) = []
spent_by lines (Answers outcome) = []
spent_by lines (Tells sub rank tick c) =
    if is_update c.what then record { tick = tick; bytes = length (line_text lines (Tells sub rank tick c)) + 2 } ∷ []
    else []

-- what the lines numbered from n + 1 on took, the newest first
abbrev pub spends_behind : ℕ → List Line → List Spend
spends_behind n [] = []
spends_behind n (l ∷ lines) =
    if nat_lt n (length lines + 1) then spent_by lines l ++ spends_behind n lines else []
