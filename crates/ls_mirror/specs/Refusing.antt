-- Why a line isn't taken (TLCP 2.1, notification U; General Concepts, COMMAND).
use Rattle.std.specs.Prelude.{◌≡◌, ◌⊎◌, ℕ, List, false, Option, Result, MatchResult}
use Rattle.ls_value.specs.declared.row.Value.{Value}
use Rattle.ls_update.specs.declared.reading.ReadRefused.{ReadRefused}
use Rattle.ls_update.specs.declared.reading.ReadRefused.TheVariants as read
use Rattle.ls_update.specs.Reading.{Reads, FirstFault, row_before, tokens_of}
use Rattle.ls_mirror.specs.declared.refused.MirrorRefused.{MirrorRefused}
use Rattle.ls_mirror.specs.declared.refused.MirrorRefused.TheVariants as refused
use Rattle.ls_mirror.specs.declared.command.KeyPlaces.{KeyPlaces}
use Rattle.ls_mirror.specs.Client.{Heard, Coded, Missed, Emptied, Ended}
use Rattle.ls_mirror.specs.Commands.{has_command}

-- the refusal where coded fields were refused
abbrev pub cause_of : ReadRefused → MirrorRefused
cause_of (read.TooFew got) = refused.BadFields
cause_of (read.TooMany at) = refused.BadFields
cause_of (read.BadRun at) = refused.BadFields
cause_of (read.BadText at) = refused.BadFields
cause_of read.NoMemory = refused.NoMemory

-- tokens say no row after a row
abbrev pub IsFaulty : List Value → List (List ℕ) → Type 0
IsFaulty prev tokens = (fault : ReadRefused) × FirstFault prev tokens fault

-- tokens say a row that has no key or no command word
abbrev pub LacksCommand : Option KeyPlaces → List Value → List (List ℕ) → Type 0
LacksCommand places prev tokens = (row : List Value) × Reads prev tokens row × (has_command places row ≡ false)

-- what is heard can't be taken after the last row
abbrev pub IsBad : ℕ → Option KeyPlaces → Option (List Value) → Heard → Type 0
IsBad fields places last (Coded coded) = IsFaulty (row_before fields last) (tokens_of coded)
    ⊎ LacksCommand places (row_before fields last) (tokens_of coded)
IsBad fields places last (Missed lost) = ⊥
IsBad fields places last Emptied = ⊥
IsBad fields places last Ended = ⊥

-- a refusal is BadFields where this is the case, or want of memory
abbrev pub RefusedBy : MirrorRefused → Type 0 → Type 0
RefusedBy e Bad = (e ≡ refused.NoMemory) ⊎ ((e ≡ refused.BadFields) × Bad)

-- the answer is BadFields, or want of memory
abbrev pub AnswersBad : {X : Type 0} → Result X MirrorRefused → Type 0
AnswersBad answer = MatchResult answer (λ _. ⊥) (λ e. (e ≡ refused.NoMemory) ⊎ (e ≡ refused.BadFields))
