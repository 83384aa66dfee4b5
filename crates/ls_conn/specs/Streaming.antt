-- What a stream puts on its wire: the texts that were given to its caller, each as a line (TLCP 2.1, stream connection;
-- this project's profile).
use Rattle.std.specs.Prelude.{◌≡◌, ◌<◌, ◌⊎◌, ℕ, List, [], ◌∷◌, ◌++◌, length, take, false, Option, Some, None, slice_get, flat_map}
use Rattle.std.specs.Io.KnownBytes.{Appends, Keeps}
use Rattle.ls_value.specs.Each.{Each}
use Rattle.ls_value.specs.Values.{text_eq}
use Rattle.ls_talk.specs.Lines.{line_bytes}
use Rattle.ls_record.specs.Turning.{loop_text}
use Rattle.ls_register.specs.declared.told.Told.{Told}
use Rattle.ls_session.specs.declared.session.Turn.{Turn}
use Rattle.ls_session.specs.declared.session.Turn.TheVariants as turn
use Rattle.ls_register.specs.declared.told.Told.TheVariants.{Gave}
use Rattle.ls_told.specs.Seen.{Testified}
use Rattle.ls_told.specs.Requests.{HasBound}
use Rattle.ls_told.specs.Turns.{HasEnded, IsSpent, IsUnbound}
use Rattle.ls_shared.specs.Answers.{SeesOn}
use Rattle.ls_conn.specs.declared.report.StreamEnd.{StreamEnd}
use Rattle.ls_conn.specs.declared.report.StreamEnd.TheVariants as end

-- a text was given on the stream of an epoch, at this place of a session's history
abbrev pub IsGiven : List Told → ℕ → ℕ → List ℕ → Type 0
IsGiven es epoch place text = (tick : ℕ) × (slice_get es place ≡ Some (Gave epoch text tick))

-- and so for each of these places, in order
abbrev pub AreGiven : List Told → ℕ → List ℕ → List (List ℕ) → Type 0
AreGiven es epoch [] [] = Unit {0}
AreGiven es epoch [] (text ∷ texts) = ⊥
AreGiven es epoch (place ∷ places) [] = ⊥
AreGiven es epoch (place ∷ places) (text ∷ texts) = IsGiven es epoch place text × AreGiven es epoch places texts

-- these texts, each as a line
abbrev pub lines_of : List (List ℕ) → List ℕ
lines_of texts = flat_map line_bytes texts

-- all of them were put but the last, of which less than all was
pub record PutsPart (old new : Option (List ℕ)) (texts : List (List ℕ)) : Type 0 where
  pub front : List (List ℕ)
  pub last : List ℕ
  pub are : texts ≡ front ++ last ∷ []
  pub cut : ℕ
  pub less : cut < length (line_bytes last)
  pub appends : Appends old new (lines_of front ++ take cut (line_bytes last))

-- all of them were put but the last
pub record PutsFront (old new : Option (List ℕ)) (texts : List (List ℕ)) : Type 0 where
  pub front : List (List ℕ)
  pub last : List ℕ
  pub are : texts ≡ front ++ last ∷ []
  pub appends : Appends old new (lines_of front)

-- what was put of these texts, where a stream ended so: all of them; a part of the last one where the wire failed; and
-- all but the last one for want of memory
abbrev pub Puts : StreamEnd → Option (List ℕ) → Option (List ℕ) → List (List ℕ) → Type 0
Puts end.Looped old new texts = Appends old new (lines_of texts)
Puts (end.Ended code) old new texts = Appends old new (lines_of texts)
Puts (end.Superseded e) old new texts = Appends old new (lines_of texts)
Puts end.Unbound old new texts = Appends old new (lines_of texts)
Puts end.PeerLeft old new texts = Appends old new (lines_of texts)
Puts end.WriteFault old new texts = Appends old new (lines_of texts) ⊎ PutsPart old new texts
Puts end.Stopped old new texts = Appends old new (lines_of texts)
Puts end.Spent old new texts = Appends old new (lines_of texts)
Puts end.NoMemory old new texts = Appends old new (lines_of texts) ⊎ PutsFront old new texts

-- none of these texts is LOOP, after which a stream doesn't go on
abbrev pub NoneLoops : List (List ℕ) → Type 0
NoneLoops texts = Each (λ (t : List ℕ). text_eq t loop_text ≡ false) texts

-- none of them is, or the last one alone
abbrev pub NoneLoopsBefore : List (List ℕ) → Type 0
NoneLoopsBefore texts =
    NoneLoops texts
    ⊎ ((front : List (List ℕ)) × (last : List ℕ) × (texts ≡ front ++ last ∷ []) × NoneLoops front)

-- why a stream ended by itself, by its texts and by what was seen of its session then: LOOP was given, and last; END was
-- given or the session has ended; there is a newer stream; none is bound; or the session is spent
abbrev pub EndsBy : StreamEnd → ℕ → Testified → List (List ℕ) → Type 0
EndsBy end.Looped epoch t texts = (front : List (List ℕ)) × (texts ≡ front ++ loop_text ∷ []) × NoneLoops front
EndsBy (end.Ended code) epoch t texts = HasEnded t.number code t.lines × NoneLoops texts
EndsBy (end.Superseded e) epoch t texts = (epoch < e) × HasBound e t.lines × NoneLoops texts
EndsBy end.Unbound epoch t texts = IsUnbound t.number t.lines × NoneLoops texts
EndsBy end.PeerLeft epoch t texts = NoneLoops texts
EndsBy end.WriteFault epoch t texts = NoneLoopsBefore texts
EndsBy end.Stopped epoch t texts = NoneLoops texts
EndsBy end.Spent epoch t texts = IsSpent t.number t.lines × NoneLoops texts
EndsBy end.NoMemory epoch t texts = NoneLoopsBefore texts

-- a stream of an epoch goes on: its caller was given these texts, and they were put, all of them and in order
pub record Streams (epoch : ℕ) (old new : Testified) (held held2 : Option (List ℕ)) : Type 0 where
  pub places : List ℕ
  pub texts : List (List ℕ)
  pub mine : new.mine ≡ old.mine ++ places
  pub given : AreGiven new.lines epoch places texts
  pub puts : Appends held held2 (lines_of texts)
  pub none : NoneLoops texts
  pub sees : SeesOn old new

-- a stream of an epoch has ended so: its caller was given these texts, and they were put
pub record Streamed (ending : StreamEnd) (epoch : ℕ) (old new : Testified) (held held2 : Option (List ℕ)) : Type 0 where
  pub places : List ℕ
  pub texts : List (List ℕ)
  pub mine : new.mine ≡ old.mine ++ places
  pub given : AreGiven new.lines epoch places texts
  pub puts : Puts ending held held2 texts
  pub ends : EndsBy ending epoch new texts
  pub sees : SeesOn old new

-- how a stream ends by itself, where a turn says that it does
abbrev pub end_of : Turn → Option StreamEnd
end_of turn.Send = None
end_of (turn.Ask ask) = None
end_of turn.Idle = None
end_of (turn.NotDue at) = None
end_of (turn.Superseded e) = Some (end.Superseded e)
end_of (turn.Ended code) = Some (end.Ended code)
end_of turn.Unbound = Some end.Unbound
end_of turn.Spent = Some end.Spent

-- a stream goes on, or has ended
abbrev pub GoesOn : Option StreamEnd → ℕ → Testified → Testified → Option (List ℕ) → Option (List ℕ) → Type 0
GoesOn None epoch old new held held2 = Streams epoch old new held held2
GoesOn (Some ending) epoch old new held held2 = Streamed ending epoch old new held held2

-- what an answer says of a text that was to be put: it was, and the stream goes on; it was LOOP; or it was put in part
-- or not at all; or the peer or the wire failed between lines
abbrev pub PutsText : Option StreamEnd → Option (List ℕ) → Option (List ℕ) → List ℕ → Type 0
PutsText None old new text = (text_eq text loop_text ≡ false) × Appends old new (line_bytes text)
PutsText (Some end.Looped) old new text = (text ≡ loop_text) × Appends old new (line_bytes text)
PutsText (Some (end.Ended code)) old new text = ⊥
PutsText (Some (end.Superseded e)) old new text = ⊥
PutsText (Some end.Unbound) old new text = ⊥
PutsText (Some end.PeerLeft) old new text = (text_eq text loop_text ≡ false) × Appends old new (line_bytes text)
PutsText (Some end.WriteFault) old new text =
    ((text_eq text loop_text ≡ false) × Appends old new (line_bytes text))
    ⊎ ((cut : ℕ) × (cut < length (line_bytes text)) × Appends old new (take cut (line_bytes text)))
PutsText (Some end.Stopped) old new text = ⊥
PutsText (Some end.Spent) old new text = ⊥
PutsText (Some end.NoMemory) old new text = Keeps old new

-- what an answer says where nothing was to be put
abbrev pub PutsNone : Option StreamEnd → Option (List ℕ) → Option (List ℕ) → Type 0
PutsNone None old new = Keeps old new
PutsNone (Some end.Looped) old new = ⊥
PutsNone (Some (end.Ended code)) old new = ⊥
PutsNone (Some (end.Superseded e)) old new = ⊥
PutsNone (Some end.Unbound) old new = ⊥
PutsNone (Some end.PeerLeft) old new = Keeps old new
PutsNone (Some end.WriteFault) old new = Keeps old new
PutsNone (Some end.Stopped) old new = ⊥
PutsNone (Some end.Spent) old new = ⊥
PutsNone (Some end.NoMemory) old new = ⊥
