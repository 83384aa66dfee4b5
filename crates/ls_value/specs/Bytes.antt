-- The bytes of a text, wherever they are kept.
use Rattle.std.specs.Prelude.{ℕ, List, string_bytes}
use Rattle.ls_value.specs.declared.repr.Repr.{Repr}
use Rattle.ls_value.specs.declared.repr.Repr.TheVariants as repr

-- the bytes that a representation stands for
abbrev pub repr_bytes : Repr → List ℕ
repr_bytes (repr.Short s alloc) = s.bytes
repr_bytes (repr.Long s) = string_bytes s
