-- What a look for a message does, and a round of a connection.
use Rattle.std.specs.Prelude.{◌≡◌, ◌<◌, ◌≤◌, ◌⊎◌, ℕ, ◌+◌, List, [], ◌∷◌, Option, None, Some}
use Rattle.ls_outside.specs.Causes.{Rose, RoseBy, one_more}
use Rattle.ls_talk.specs.Lines.{Counts, Logs}
use Rattle.ls_talk.specs.declared.talk.Happening.{Happening}
use Rattle.ls_talk.specs.declared.talk.Happening.TheVariants as happening
use Rattle.ls_talk.specs.declared.talk.Incoming.{Incoming}
use Rattle.ls_talk.specs.declared.talk.Incoming.TheVariants as incoming
use Rattle.ls_register.specs.Deeds.{Deed}
use Rattle.ls_conn.specs.Acting.{Known}
use Rattle.ls_conn.specs.declared.ended.ConnEnd.{ConnEnd}
use Rattle.ls_conn.specs.declared.ended.ConnEnd.TheVariants as end
use Rattle.ls_conn.specs.declared.ended.TheConstants.{MOST_IDLES}
use Rattle.ls_conn_ws.specs.Streams.{StreamState}
use Rattle.ls_conn_ws.specs.Serving.{HasOutcomes, IsTrue, IsUnanswered, Served, Spoke, lines_in}
use Rattle.ls_conn_ws.specs.Causes.{HasCause, MayHaveCause, Rises}
use Rattle.ls_conn_ws.specs.Answering.{StreamAfter}
use Rattle.ls_conn_ws.specs.declared.serving.Heard.{Heard}
use Rattle.ls_conn_ws.specs.declared.serving.Heard.TheVariants as heard

-- what a message with these outcomes does to what is known and to the stream
abbrev pub Learns : Deed → Incoming → List (Option (List ℕ)) → Known → Known → Option StreamState → Option StreamState → Type 0
Learns deed (incoming.Text text) outs k k2 stream stream2 =
    IsTrue deed text outs k2 stream2 × StreamAfter outs stream stream2
Learns deed incoming.Binary outs k k2 stream stream2 = (k2 ≡ k) × (stream2 ≡ stream)
Learns deed incoming.Long outs k k2 stream stream2 = (k2 ≡ k) × (stream2 ≡ stream)
Learns deed incoming.Control outs k k2 stream stream2 = (k2 ≡ k) × (stream2 ≡ stream)
Learns deed incoming.NotYet outs k k2 stream stream2 = ⊥
Learns deed incoming.Closed outs k k2 stream stream2 = ⊥
Learns deed incoming.Failed outs k k2 stream stream2 = ⊥
Learns deed incoming.NoMemory outs k k2 stream stream2 = ⊥

-- the answer of the talk, and nothing more
abbrev pub LogsBare : Incoming → Option (List Happening) → Option (List Happening) → Type 0
LogsBare answer log log2 = Logs log log2 (happening.Answer answer ∷ [])

-- a message that is no text, or too long
abbrev pub IsNoText : Incoming → Type 0
IsNoText m = (m ≡ incoming.Binary) ⊎ (m ≡ incoming.Long)

-- a message wasn't answered whole
abbrev pub LogsWithin : Option (List Happening) → Option (List Happening) → Type 0
LogsWithin log log2 = (tail : List Happening) × IsUnanswered tail × Logs log log2 tail

-- how a look for a message ended a connection
abbrev pub HearsEnd : ConnEnd → Known → Known → Option StreamState → Option StreamState → Option (List Happening) → Option (List Happening) → Type 0
HearsEnd end.Served k k2 stream stream2 log log2 = ⊥
HearsEnd (end.Refused status) k k2 stream stream2 log log2 = ⊥
HearsEnd end.PeerLeft k k2 stream stream2 log log2 =
    (k2 ≡ k) × (stream2 ≡ stream) × LogsBare incoming.Closed log log2
HearsEnd end.TooSlow k k2 stream stream2 log log2 = ⊥
HearsEnd end.ReadFault k k2 stream stream2 log log2 =
    (k2 ≡ k) × (stream2 ≡ stream) × LogsBare incoming.Failed log log2
HearsEnd end.WriteFault k k2 stream stream2 log log2 =
    (stream2 ≡ stream) × (LogsBare incoming.Failed log log2 ⊎ LogsWithin log log2)
HearsEnd end.Stopped k k2 stream stream2 log log2 = ⊥
HearsEnd end.NoMemory k k2 stream stream2 log log2 = (stream2 ≡ stream) × (Logs log log2 [] ⊎ LogsWithin log log2)

-- what a look for a message does
abbrev pub HearsSo : Deed → Heard → Known → Known → Option StreamState → Option StreamState → Option (List Happening) → Option (List Happening) → Type 0
HearsSo deed heard.Message k k2 stream stream2 log log2 =
    (message : Incoming) × (outs : List (Option (List ℕ))) × HasOutcomes message outs
    × Learns deed message outs k k2 stream stream2 × Logs log log2 (happening.Answer message ∷ lines_in outs)
HearsSo deed heard.Nothing k k2 stream stream2 log log2 =
    (k2 ≡ k) × (stream2 ≡ stream) × LogsBare incoming.NotYet log log2
HearsSo deed (heard.End ending) k k2 stream stream2 log log2 = HearsEnd ending k k2 stream stream2 log log2

-- its cause
abbrev pub CausesHeard : Heard → Counts → Counts → ℕ → ℕ → Type 0
CausesHeard heard.Message c d f g = Unit {0}
CausesHeard heard.Nothing c d f g = d.idles ≡ one_more c.idles
CausesHeard (heard.End ending) c d f g = HasCause ending c d f g

-- what the answers to a message make of the count of faults of puts
abbrev pub PutsHeard : Heard → ℕ → ℕ → Type 0
PutsHeard heard.Message f g = g ≡ f
PutsHeard heard.Nothing f g = ⊥
PutsHeard (heard.End end.Served) f g = ⊥
PutsHeard (heard.End (end.Refused status)) f g = ⊥
PutsHeard (heard.End end.PeerLeft) f g = ⊥
PutsHeard (heard.End end.TooSlow) f g = ⊥
PutsHeard (heard.End end.ReadFault) f g = ⊥
PutsHeard (heard.End end.WriteFault) f g = (f ≤ g) × Rose f g
PutsHeard (heard.End end.Stopped) f g = ⊥
PutsHeard (heard.End end.NoMemory) f g = g ≡ f

-- no count fell, and the answer has its cause
pub record Heeds (h : Heard) (c d : Counts) (f g : ℕ) : Type 0 where
  pub rises : Rises c d f g
  pub cause : CausesHeard h c d f g

-- what a rest does, after so many looks in a row that found no message while no stream went on
abbrev pub RestsSo : Option ConnEnd → ℕ → ℕ → Option (List Happening) → Option (List Happening) → ℕ → ℕ → Type 0
RestsSo None idles idles2 log log2 f g =
    Logs log log2 [] × (f ≤ g) × (idles2 < MOST_IDLES) × ((idles2 ≡ 0) ⊎ (idles2 ≡ idles + 1))
RestsSo (Some end.Served) idles idles2 log log2 f g = ⊥
RestsSo (Some (end.Refused status)) idles idles2 log log2 f g = ⊥
RestsSo (Some end.PeerLeft) idles idles2 log log2 f g = ⊥
RestsSo (Some end.TooSlow) idles idles2 log log2 f g =
    Logs log log2 [] × (f ≤ g) × (idles2 ≡ idles + 1) × (idles2 ≡ MOST_IDLES)
RestsSo (Some end.ReadFault) idles idles2 log log2 f g = ⊥
RestsSo (Some end.WriteFault) idles idles2 log log2 f g = Logs log log2 [] × (f ≤ g) × Rose f g
RestsSo (Some end.Stopped) idles idles2 log log2 f g = ⊥
RestsSo (Some end.NoMemory) idles idles2 log log2 f g = ⊥

-- how a connection goes on, or has ended
abbrev pub GoesOn : Deed → Option ConnEnd → Option (List Happening) → Option (List Happening) → Known → Option StreamState → ℕ → Type 0
GoesOn deed None log0 log k stream idles = Served deed log0 log k stream idles
GoesOn deed (Some ending) log0 log k stream idles = Spoke deed ending log0 log k stream

-- since a connection began no count fell, and that of idle calls rose by the looks in a row that found no message
pub record Runs (idles : ℕ) (c d : Counts) (f g : ℕ) : Type 0 where
  pub rises : Rises c d f g
  pub idle : RoseBy idles c.idles d.idles

-- and where it ended, the end has its cause
pub record RunsOn (ended : Option ConnEnd) (idles : ℕ) (c d : Counts) (f g : ℕ) : Type 0 where
  pub rises : Rises c d f g
  pub idle : ended ≡ None → RoseBy idles c.idles d.idles
  pub cause : MayHaveCause ended c d f g
