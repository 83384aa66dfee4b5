-- How a turn of a session ends, by its history (TLCP 2.1, session life; this project's profile).
use Rattle.std.specs.Prelude.{◌≡◌, ◌<◌, ◌⊎◌, ℕ, List, [], ◌∷◌, ◌++◌, Option, None, Some}
use mathlib.Core.List.{IsPrefix}
use Rattle.ls_event.specs.declared.item.ItemDef.{ItemDef}
use Rattle.ls_register.specs.declared.told.Told.{Told}
use Rattle.ls_session.specs.declared.session.Turn.{Turn}
use Rattle.ls_session.specs.declared.session.Turn.TheVariants as turn
use Rattle.ls_told.specs.Requests.{HasBound}
use Rattle.ls_register.specs.declared.told.Told.TheVariants.{Gave}
use Rattle.ls_told.specs.Heard.{counts_as}
use Rattle.ls_told.specs.Seen.{Watched}
use Rattle.ls_told.specs.Turns.{IsSilent, SpokeInTime, probe_text, HasEnded, IsSpent, IsUnbound}
use Rattle.ls_live_session.specs.Giving.{GivesNext, StaysStill}
use Rattle.ls_shared.specs.Asking.{QuietRound}

-- nothing was to be given, nor had any slot a line
pub record GivesNone (config : List ItemDef) (number epoch now : ℕ) (held : List Watched) (es : List Told) (ws : List Watched)
    (wait : Option ℕ) : Type 0 where
  pub still : StaysStill number epoch es
  pub quiet : QuietRound config number es held ws (counts_as now es) wait

-- PROBE was given, where it was so and the stream gave nothing for its keep-alive
pub record GaveProbe (config : List ItemDef) (number epoch now : ℕ) (held : List Watched) (before es : List Told) (ws : List Watched)
    (text : List ℕ) : Type 0 where
  pub wait : Option ℕ
  pub none : GivesNone config number epoch now held before ws wait
  pub silent : IsSilent epoch (counts_as now before) before
  pub text_is : text ≡ probe_text
  pub lines : es ≡ before ++ Gave epoch text (counts_as now before) ∷ []

-- the last line was given, behind a longer history than before the turn
pub record GaveLast (config : List ItemDef) (number epoch now : ℕ) (held : List Watched) (old new : List Told) (ws : List Watched)
    (text : List ℕ) : Type 0 where
  pub before : List Told
  pub begins : IsPrefix old before
  pub gave : GivesNext number epoch now before new text ⊎ GaveProbe config number epoch now held before new ws text

-- how the history stands at the end of a turn that began when this was seen of the items
abbrev pub EndsTurn : List ItemDef → ℕ → ℕ → ℕ → List Watched → List Told → List Told → List Watched → List ℕ → Turn → Type 0
EndsTurn config number epoch now held old new ws text turn.Send = GaveLast config number epoch now held old new ws text
EndsTurn config number epoch now held old new ws text (turn.Ask ask) = ⊥
EndsTurn config number epoch now held old new ws text turn.Idle =
    GivesNone config number epoch now held new ws None × SpokeInTime epoch (counts_as now new) new
EndsTurn config number epoch now held old new ws text (turn.NotDue at) =
    GivesNone config number epoch now held new ws (Some at) × SpokeInTime epoch (counts_as now new) new
EndsTurn config number epoch now held old new ws text (turn.Ended code) = HasEnded number code new
EndsTurn config number epoch now held old new ws text (turn.Superseded e) = (epoch < e) × HasBound e new
EndsTurn config number epoch now held old new ws text turn.Unbound = IsUnbound number new
EndsTurn config number epoch now held old new ws text turn.Spent = IsSpent number new

-- a turn that gives nothing, as there is nothing to give; whether PROBE is due is asked then
abbrev pub EndsQuiet : List ItemDef → ℕ → ℕ → ℕ → List Watched → List Told → List Watched → Turn → Type 0
EndsQuiet config number epoch now held es ws turn.Send = ⊥
EndsQuiet config number epoch now held es ws (turn.Ask ask) = ⊥
EndsQuiet config number epoch now held es ws turn.Idle = GivesNone config number epoch now held es ws None
EndsQuiet config number epoch now held es ws (turn.NotDue at) = GivesNone config number epoch now held es ws (Some at)
EndsQuiet config number epoch now held es ws (turn.Ended code) = ⊥
EndsQuiet config number epoch now held es ws (turn.Superseded e) = ⊥
EndsQuiet config number epoch now held es ws turn.Unbound = ⊥
EndsQuiet config number epoch now held es ws turn.Spent = ⊥
