-- How the lines of each tag are read (TLCP 2.1, notifications and answers).
use Rattle.std.specs.Prelude.{ℕ, List, [], ◌∷◌, Bool, true, false, Option, None, Some, if◌then◌else◌}
use Rattle.ls_value.specs.Values.{text_eq}
use Rattle.ls_line.specs.declared.line.Line.{Line}
use Rattle.ls_line.specs.declared.line.Line.TheVariants as line
use Rattle.ls_line.specs.declared.table.Tag.{Tag}
use Rattle.ls_line.specs.declared.table.Tag.TheVariants as tag
use Rattle.ls_line.specs.declared.table.Word.{Word}
use Rattle.ls_line.specs.declared.table.Word.TheVariants as word
use Rattle.ls_line.specs.declared.table.Kind.{Kind}
use Rattle.ls_line.specs.declared.table.Kind.TheVariants as kind
use Rattle.ls_line.specs.declared.table.TheConstants.{TAGS}
use Rattle.ls_line.specs.Lines.{Part, Fixed, Ordinal, Count, Text, Message, Coded, shape_of}

-- how the parts behind a tag are read one after another, and the line that they make
pub data Form : Type 0 where
  makes : Line → Form
  then_word : Word → Form → Form
  then_ordinal : (ℕ → Form) → Form
  then_count : (ℕ → Form) → Form
  then_text : (List ℕ → Form) → Form
  then_message : (List ℕ → Form) → Form
  then_coded : (List ℕ → Form) → Form

-- the table of tags
abbrev pub form_of : Tag → Form
form_of tag.ConOk =
    then_text
    (λ session. then_word word.RequestLimit
    (then_count (λ keep. then_word word.NoControlLink (makes (line.ConOk session keep)))))
form_of tag.ConErr = then_count (λ code. then_message (λ words. makes (line.ConErr code words)))
form_of tag.ServName = then_word word.ServerName (makes line.ServName)
form_of tag.Cons = then_text (λ bandwidth. makes (line.Cons bandwidth))
form_of tag.Prog = then_count (λ n. makes (line.Prog n))
form_of tag.Probe = makes line.Probe
form_of tag.Loop = then_word word.NoDelay (makes line.Loop)
form_of tag.End = then_count (λ code. then_message (λ words. makes (line.End code words)))
form_of tag.SubOk =
    then_ordinal (λ sub. then_ordinal (λ items. then_ordinal (λ fields. makes (line.SubOk sub items fields))))
form_of tag.SubCmd =
    then_ordinal
    (λ sub. then_ordinal
    (λ items. then_ordinal
    (λ fields. then_ordinal
    (λ key. then_ordinal (λ command. makes (line.SubCmd sub items fields key command))))))
form_of tag.Conf =
    then_ordinal (λ sub. then_text (λ frequency. then_text (λ filter. makes (line.Conf sub frequency filter))))
form_of tag.Unsub = then_ordinal (λ sub. makes (line.Unsub sub))
form_of tag.Eos = then_ordinal (λ sub. then_ordinal (λ item. makes (line.Eos sub item)))
form_of tag.Cs = then_ordinal (λ sub. then_ordinal (λ item. makes (line.Cs sub item)))
form_of tag.Ov = then_ordinal (λ sub. then_ordinal (λ item. then_count (λ lost. makes (line.Ov sub item lost))))
form_of tag.U = then_ordinal (λ sub. then_ordinal (λ item. then_coded (λ fields. makes (line.U sub item fields))))
form_of tag.ReqOk = then_text (λ request. makes (line.ReqOk request))
form_of tag.ReqErr =
    then_text (λ request. then_count (λ code. then_message (λ words. makes (line.ReqErr request code words))))
form_of tag.Error = then_count (λ code. then_message (λ words. makes (line.Error code words)))
form_of tag.WsOk = makes line.WsOk

-- the line of a form with these parts
abbrev pub made : Form → List Part → Option Line
made (makes l) [] = Some l
made (then_word w form) (Fixed v ∷ parts) = made form parts
made (then_ordinal form) (Ordinal n ∷ parts) = made (form n) parts
made (then_count form) (Count n ∷ parts) = made (form n) parts
made (then_text form) (Text t ∷ parts) = made (form t) parts
made (then_message form) (Message t ∷ parts) = made (form t) parts
made (then_coded form) (Coded bytes ∷ parts) = made (form bytes) parts
made form parts = None

-- what the parts of a form are
abbrev pub kinds : Form → List Kind
kinds (makes l) = []
kinds (then_word w form) = kind.Fixed w ∷ kinds form
kinds (then_ordinal form) = kind.Ordinal ∷ kinds (form 1)
kinds (then_count form) = kind.Count ∷ kinds (form 0)
kinds (then_text form) = kind.Text ∷ kinds (form [])
kinds (then_message form) = kind.Message ∷ kinds (form [])
kinds (then_coded form) = kind.Coded ∷ kinds (form [])

-- some line of a form
abbrev pub example : Form → Line
example (makes l) = l
example (then_word w form) = example form
example (then_ordinal form) = example (form 1)
example (then_count form) = example (form 0)
example (then_text form) = example (form [])
example (then_message form) = example (form [])
example (then_coded form) = example (form [])

-- the line of a tag with these parts
abbrev pub line_with : Tag → List Part → Option Line
line_with t parts = made (form_of t) parts

-- what the parts behind a tag are
abbrev pub kinds_of : Tag → List Kind
kinds_of t = kinds (form_of t)

-- the text of a tag
abbrev pub tag_text : Tag → List ℕ
tag_text t = (shape_of (example (form_of t))).tag

-- a message and coded fields are the rest of their line, commas included
abbrev pub is_rest : Kind → Bool
is_rest (kind.Fixed w) = false
is_rest kind.Ordinal = false
is_rest kind.Count = false
is_rest kind.Text = false
is_rest kind.Message = true
is_rest kind.Coded = true

-- the tags that are read
abbrev pub tags_read : List Tag
tags_read = TAGS.now

-- the tag of a text, among these
abbrev pub tag_among : List Tag → List ℕ → Option Tag
tag_among [] text = None
tag_among (t ∷ tags) text = if text_eq (tag_text t) text then Some t else tag_among tags text

-- the tag of a text, where it is one that is read
abbrev pub tag_of : List ℕ → Option Tag
tag_of text = tag_among tags_read text
