-- COMMAND items of which the plain programs speak.
use Rattle.ls_event.specs.declared.item.Kind.TheVariants as kind
use Rattle.ls_event.specs.Shapes.{Shape}
use Rattle.ls_plain.specs.declared.keyed.CommandShape.{CommandShape}

-- the shape of a COMMAND item
abbrev pub command_shape : CommandShape → Shape
command_shape p = record { kind = kind.Command; fields = p.fields; key = p.key; command = p.command }
