-- Lines: their parts and their texts (TLCP 2.1, notifications and answers; MSGDONE and MSGFAIL of this project's
-- profile).
use Rattle.std.specs.Prelude.{◌==◌, ◌≡◌, ◌≤◌, ℕ, List, [], ◌∷◌, ◌++◌, map, Bool, true, false, ◌||◌, not, codes}
use Rattle.std.specs.List.{list_all}
use Rattle.std.specs.Fmt.{decimal}
use Rattle.std.specs.Str.{IsUtf8}
use Rattle.ls_value.specs.declared.limits.TheConstants.{GREATEST_ORDINAL, GREATEST_NUMBER}
use Rattle.ls_line.specs.declared.line.Line.{Line}
use Rattle.ls_line.specs.declared.line.Line.TheVariants as line
use Rattle.ls_line.specs.declared.table.Word.{Word}
use Rattle.ls_line.specs.declared.table.Word.TheVariants as word
use Rattle.ls_line.specs.declared.table.Lent.{Lent}
use Rattle.ls_line.specs.declared.table.Lent.TheVariants as lent
use Rattle.ls_line.specs.declared.writing.Shape.{Shape as Lending}
use Rattle.ls_line.specs.declared.writing.Shape.TheVariants as lending

-- the parts that are the same in each line of their tag
abbrev pub word_text : Word → List ℕ
word_text word.RequestLimit = codes "50000"
word_text word.NoControlLink = codes "*"
word_text word.ServerName = codes "tlcpd"
word_text word.NoDelay = codes "0"

-- a part of a line behind its tag: a word, a number, a text, or what is the rest of the line
pub data Part : Type 0 where
  Fixed : Word → Part
  Ordinal : ℕ → Part
  Count : ℕ → Part
  Text : List ℕ → Part
  Message : List ℕ → Part
  Coded : List ℕ → Part

-- a line's tag, whether PROG counts it, and the parts behind its tag
pub record Shape : Type 0 where
  pub tag : List ℕ
  pub counts : Bool
  pub parts : List Part

-- a line that PROG doesn't count, and a numbered line, which it counts
abbrev pub unnumbered : List ℕ → List Part → Shape
unnumbered tag parts = record { tag = tag; counts = false; parts = parts }

abbrev pub numbered : List ℕ → List Part → Shape
numbered tag parts = record { tag = tag; counts = true; parts = parts }

-- the table of lines
abbrev pub shape_of : Line → Shape
shape_of (line.ConOk session keep_alive) =
    unnumbered (codes "CONOK") (Text session ∷ Fixed word.RequestLimit ∷ Count keep_alive ∷ Fixed word.NoControlLink ∷ [])
shape_of (line.ConErr code message) = unnumbered (codes "CONERR") (Count code ∷ Message message ∷ [])
shape_of line.ServName = unnumbered (codes "SERVNAME") (Fixed word.ServerName ∷ [])
shape_of (line.Cons bandwidth) = unnumbered (codes "CONS") (Text bandwidth ∷ [])
shape_of (line.Prog count) = unnumbered (codes "PROG") (Count count ∷ [])
shape_of line.Probe = unnumbered (codes "PROBE") []
shape_of line.Loop = unnumbered (codes "LOOP") (Fixed word.NoDelay ∷ [])
shape_of (line.End code message) = unnumbered (codes "END") (Count code ∷ Message message ∷ [])
shape_of (line.SubOk sub items fields) = numbered (codes "SUBOK") (Ordinal sub ∷ Ordinal items ∷ Ordinal fields ∷ [])
shape_of (line.SubCmd sub items fields key command) =
    numbered (codes "SUBCMD") (Ordinal sub ∷ Ordinal items ∷ Ordinal fields ∷ Ordinal key ∷ Ordinal command ∷ [])
shape_of (line.Conf sub frequency filter) = numbered (codes "CONF") (Ordinal sub ∷ Text frequency ∷ Text filter ∷ [])
shape_of (line.Unsub sub) = numbered (codes "UNSUB") (Ordinal sub ∷ [])
shape_of (line.Eos sub item) = numbered (codes "EOS") (Ordinal sub ∷ Ordinal item ∷ [])
shape_of (line.Cs sub item) = numbered (codes "CS") (Ordinal sub ∷ Ordinal item ∷ [])
shape_of (line.Ov sub item lost) = numbered (codes "OV") (Ordinal sub ∷ Ordinal item ∷ Count lost ∷ [])
shape_of (line.U sub item fields) = numbered (codes "U") (Ordinal sub ∷ Ordinal item ∷ Coded fields ∷ [])
shape_of (line.ReqOk request) = unnumbered (codes "REQOK") (Text request ∷ [])
shape_of (line.ReqErr request code message) = unnumbered (codes "REQERR") (Text request ∷ Count code ∷ Message message ∷ [])
shape_of (line.Error code message) = unnumbered (codes "ERROR") (Count code ∷ Message message ∷ [])
shape_of line.WsOk = unnumbered (codes "WSOK") []
shape_of (line.MsgDone sequence number) = numbered (codes "MSGDONE") (Text sequence ∷ Count number ∷ [])
shape_of (line.MsgFail sequence number code message) =
    numbered (codes "MSGFAIL") (Text sequence ∷ Count number ∷ Count code ∷ Message message ∷ [])

-- the lines of messages, which are not read
abbrev pub is_of_message : Line → Bool
is_of_message (line.MsgDone sequence number) = true
is_of_message (line.MsgFail sequence number code message) = true
is_of_message l = false

-- whether a line is a numbered line, which PROG counts
abbrev pub is_counted : Line → Bool
is_counted l = (shape_of l).counts

-- the text of a part
abbrev pub part_text : Part → List ℕ
part_text (Fixed w) = word_text w
part_text (Ordinal n) = decimal n
part_text (Count n) = decimal n
part_text (Text t) = t
part_text (Message t) = t
part_text (Coded bytes) = bytes

-- and of one that a line lends
abbrev pub lent_text : Lent → List ℕ
lent_text (lent.Fixed w) = word_text w
lent_text (lent.Ordinal n) = decimal n
lent_text (lent.Count n) = decimal n
lent_text (lent.Text t) = t.now
lent_text (lent.Coded bytes) = bytes.now

-- a text with others behind it, each after a comma
abbrev pub then_texts : List ℕ → List (List ℕ) → List ℕ
then_texts text [] = text
then_texts text (t ∷ texts) = then_texts (text ++ 44 ∷ t) texts

-- a tag with the parts that a line lends
abbrev pub shape_text : Lending → List ℕ
shape_text (lending.Alone tag) = tag.now
shape_text (lending.One tag a) = then_texts tag.now (map lent_text (a ∷ []))
shape_text (lending.Two tag a b) = then_texts tag.now (map lent_text (a ∷ b ∷ []))
shape_text (lending.Three tag a b c) = then_texts tag.now (map lent_text (a ∷ b ∷ c ∷ []))
shape_text (lending.Four tag a b c d) = then_texts tag.now (map lent_text (a ∷ b ∷ c ∷ d ∷ []))
shape_text (lending.Five tag a b c d e) = then_texts tag.now (map lent_text (a ∷ b ∷ c ∷ d ∷ e ∷ []))

-- the text of a line, without CR LF
abbrev pub text_of_line : Line → List ℕ
text_of_line l = then_texts (shape_of l).tag (map part_text (shape_of l).parts)

-- bytes of a message: no CR and no LF
abbrev pub is_message_byte : ℕ → Bool
is_message_byte b = not (b == 13 || b == 10)

-- and of another text: no comma either
abbrev pub is_text_byte : ℕ → Bool
is_text_byte b = not (b == 44 || b == 13 || b == 10)

-- a number is in its range, and a text is UTF-8 on one line; only a message may hold commas
abbrev pub IsInRange : Part → Type 0
IsInRange (Fixed w) = Unit {0}
IsInRange (Ordinal n) = (1 ≤ n) × (n ≤ GREATEST_ORDINAL)
IsInRange (Count n) = n ≤ GREATEST_NUMBER
IsInRange (Text t) = IsUtf8 t × (list_all is_text_byte t ≡ true)
IsInRange (Message t) = IsUtf8 t × (list_all is_message_byte t ≡ true)
IsInRange (Coded bytes) = Unit {0}

-- each part is in its range
abbrev pub AreInRange : List Part → Type 0
AreInRange [] = Unit {0}
AreInRange (p ∷ parts) = IsInRange p × AreInRange parts

-- a line that can be written
abbrev pub IsWritable : Line → Type 0
IsWritable l = AreInRange (shape_of l).parts
