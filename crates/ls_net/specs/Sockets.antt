-- What errors of sockets say.
use Rattle.std.specs.Prelude.{◌≡◌, ◌⊎◌}
use Rattle.std.specs.declared.io.ErrorKind.{ErrorKind}
use Rattle.std.specs.declared.io.ErrorKind.TheVariants.{Interrupted, WouldBlock}

-- kinds of errors after which a call may be made again
abbrev pub IsLater : ErrorKind → Type 0
IsLater kind = (kind ≡ WouldBlock) ⊎ (kind ≡ Interrupted)
