-- Which cells have texts in UTF-8 (TLCP 2.1: the texts of fields are UTF-8).
use Rattle.std.specs.Str.{IsUtf8}
use Rattle.ls_value.specs.declared.row.Cell.{Cell}
use Rattle.ls_value.specs.declared.row.Cell.TheVariants as cell

-- a cell whose text, if it has one, is UTF-8
abbrev pub IsTextual : Cell → Type 0
IsTextual cell.Same = Unit {0}
IsTextual cell.Null = Unit {0}
IsTextual (cell.Text t) = IsUtf8 t
