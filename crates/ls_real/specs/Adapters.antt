-- What an adapter answers, by what its reader or writer answered.
use Rattle.std.specs.Prelude.{◌≡◌, ◌≢◌, ◌⊎◌, ℕ, zero, suc, ◌<◌, List, Result, Ok, Err, Some, None}
use Rattle.std.specs.declared.option.Option.{Option}
use Rattle.std.specs.IoError.{error_kind}
use Rattle.std.specs.declared.io.Error.{Error}
use Rattle.std.specs.declared.io.ErrorKind.{ErrorKind}
use Rattle.std.specs.declared.io.ErrorKind.TheVariants.{Interrupted, WouldBlock}
use Rattle.ls_outside.specs.declared.source.Got.{Got}
use Rattle.ls_outside.specs.declared.source.Got.TheVariants as got
use Rattle.ls_outside.specs.declared.sink.Put.{Put}
use Rattle.ls_outside.specs.declared.sink.Put.TheVariants as put

-- kinds of errors after which a read may be made again
abbrev pub MayWait : ErrorKind → Type 0
MayWait kind = (kind ≡ Interrupted) ⊎ (kind ≡ WouldBlock)

-- a source's answer is that of its reader: no byte is the end, and an error is a wait or a fault by its kind
abbrev pub GotBy : Got → Result ℕ Error → Type 0
GotBy (got.Bytes count) answer = answer ≡ Ok count
GotBy got.End answer = answer ≡ Ok 0
GotBy got.NotYet answer = (e : Error) × (answer ≡ Err e) × MayWait (error_kind e)
GotBy got.Failed answer = (e : Error) × (answer ≡ Err e) × (MayWait (error_kind e) → ⊥)

-- so many tries of a piece in a row were interrupted
abbrev pub Interrupts : {W : Type 0} → (W → List ℕ → Result ℕ Error → W → Type 0) → List ℕ → ℕ → W → W → Type 0
Interrupts answers piece zero old new = new ≡ old
Interrupts answers piece (suc n) old new =
    (mid : _) × Interrupts answers piece n old mid
    × (e : Error) × answers mid piece (Err e) new × (error_kind e ≡ Interrupted)

-- what came of the last try: how many bytes it took, its error, or that so many were interrupted
abbrev pub LastTry : {W : Type 0} → (W → List ℕ → Result ℕ Error → W → Type 0) → List ℕ → ℕ → ℕ → W → W → Option ℕ
    → Type 0
LastTry answers piece most n mid new (Some count) = (n < most) × answers mid piece (Ok count) new
LastTry answers piece most n mid new None =
    ((n ≡ most) × (new ≡ mid))
    ⊎ ((n < most) × (e : Error) × answers mid piece (Err e) new × (error_kind e ≢ Interrupted))

-- at most so many tries of a piece: each before the last one was interrupted
abbrev pub TriedBy : {W : Type 0} → (W → List ℕ → Result ℕ Error → W → Type 0) → List ℕ → ℕ → W → W → Option ℕ → Type 0
TriedBy answers piece most old new taken =
    (n : ℕ) × (mid : _) × Interrupts answers piece n old mid × LastTry answers piece most n mid new taken

-- a sink's answer to a piece of this length is that of the tries; none taken, where there is one to take, is a fault
abbrev pub PutBy : Put → Option ℕ → ℕ → Type 0
PutBy (put.Taken count) taken len = taken ≡ Some count
PutBy put.Failed taken len = (taken ≡ None) ⊎ ((taken ≡ Some 0) × (0 < len))
