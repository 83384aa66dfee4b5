-- Which events and histories have texts in UTF-8 (TLCP 2.1: the texts of fields are UTF-8).
use Rattle.std.specs.Prelude.{List}
use Rattle.ls_value.specs.Each.{Each}
use Rattle.ls_value.specs.Textual.{IsTextual}
use Rattle.ls_event.specs.declared.event.Event.{Event}
use Rattle.ls_event.specs.declared.event.Event.TheVariants.{Update, Clear}
use Rattle.ls_event.specs.declared.event.Entry.{Entry}

-- an event whose texts are UTF-8
abbrev pub TextualEvent : Event → Type 0
TextualEvent (Update cells) = Each IsTextual cells
TextualEvent Clear = Unit {0}

-- a history whose events are so
abbrev pub Textual : List Entry → Type 0
Textual h = Each (λ (e : Entry). TextualEvent e.event) h
