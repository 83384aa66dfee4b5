-- What a turn of a stream does, and what the put of its line does to the log.
use Rattle.std.specs.Prelude.{◌≡◌, ◌≤◌, ◌⊎◌, ℕ, List, [], ◌∷◌, ◌++◌, Option, None, Some}
use Rattle.ls_outside.specs.Causes.{Rose}
use Rattle.ls_talk.specs.Lines.{Logs}
use Rattle.ls_talk.specs.declared.talk.Happening.{Happening}
use Rattle.ls_talk.specs.declared.talk.Happening.TheVariants as happening
use Rattle.ls_told.specs.Seen.{Testified}
use Rattle.ls_conn.specs.Streaming.{IsGiven}
use Rattle.ls_conn_ws.specs.Streams.{StreamState, GrewFrom}
use Rattle.ls_conn_ws.specs.Serving.{IsPart}
use Rattle.ls_conn_ws.specs.declared.running.Given.{Given}
use Rattle.ls_conn_ws.specs.declared.running.Given.TheVariants as given

-- a line of this text was given on the stream of an epoch
abbrev pub GaveLine : ℕ → Testified → Testified → List ℕ → Type 0
GaveLine epoch old new text = (place : ℕ) × (new.mine ≡ old.mine ++ place ∷ []) × IsGiven new.lines epoch place text

-- what the put of a line does to the log
abbrev pub PutsSo : Given → Option (List Happening) → Option (List Happening) → List ℕ → Type 0
PutsSo given.Line log log2 text = Logs log log2 (happening.Line text ∷ [])
PutsSo (given.Rest due) log log2 text = ⊥
PutsSo given.WriteFault log log2 text = (part : List Happening) × IsPart part × Logs log log2 part
PutsSo given.NoMemory log log2 text = Logs log log2 []

-- what a turn does to what was seen of the session, and to the log
abbrev pub GivesOn : Given → ℕ → Testified → Testified → Option (List Happening) → Option (List Happening) → Type 0
GivesOn given.Line epoch t u log log2 = (text : List ℕ) × GaveLine epoch t u text × Logs log log2 (happening.Line text ∷ [])
GivesOn (given.Rest due) epoch t u log log2 = (u.mine ≡ t.mine) × Logs log log2 []
GivesOn given.WriteFault epoch t u log log2 =
    (text : List ℕ) × GaveLine epoch t u text × ((part : List Happening) × IsPart part × Logs log log2 part)
GivesOn given.NoMemory epoch t u log log2 =
    ((u.mine ≡ t.mine) × Logs log log2 []) ⊎ ((text : List ℕ) × GaveLine epoch t u text × Logs log log2 [])

abbrev pub GivesSo : Given → StreamState → StreamState → Option (List Happening) → Option (List Happening) → Type 0
GivesSo g s u log log2 = GivesOn g s.epoch s.told u.told log log2

-- the same of a connection that may have no stream
abbrev pub MayGive : Given → Option StreamState → Option StreamState → Option (List Happening) → Option (List Happening) → Type 0
MayGive g None None log log2 = (due : ℕ) × (g ≡ given.Rest due) × Logs log log2 []
MayGive g None (Some u) log log2 = ⊥
MayGive g (Some s) None log log2 = ⊥
MayGive g (Some s) (Some u) log log2 = GivesSo g s u log log2 × GrewFrom s u

-- a fault of writing comes with its count
abbrev pub CausesGiven : Given → ℕ → ℕ → Type 0
CausesGiven given.Line f g = g ≡ f
CausesGiven (given.Rest due) f g = g ≡ f
CausesGiven given.WriteFault f g = (f ≤ g) × Rose f g
CausesGiven given.NoMemory f g = g ≡ f

-- a stream was left: of its session no less was seen, and no line was given
abbrev pub LeftSo : Option StreamState → Option StreamState → Type 0
LeftSo None None = Unit {0}
LeftSo None (Some u) = ⊥
LeftSo (Some s) None = ⊥
LeftSo (Some s) (Some u) =
    (u.told.number ≡ s.told.number) × (u.epoch ≡ s.epoch) × (u.told.lines ≡ s.told.lines) × (u.told.mine ≡ s.told.mine)
