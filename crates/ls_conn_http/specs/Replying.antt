-- Replies that are made piece by piece, and written.
use Rattle.std.specs.Prelude.{◌≡◌, ◌⊎◌, ℕ, List, [], ◌++◌, Bool, true, false, Option}
use Rattle.std.specs.Io.KnownBytes.{Appends}
use mathlib.Core.List.{IsPrefix}
use Rattle.ls_http.specs.Replies.{refusal_text}
use Rattle.ls_register.specs.Deeds.{Deed}
use Rattle.ls_conn.specs.Acting.{Known}
use Rattle.ls_conn.specs.Streaming.{lines_of}
use Rattle.ls_conn.specs.declared.ended.ConnEnd.{ConnEnd}
use Rattle.ls_conn.specs.declared.ended.ConnEnd.TheVariants as end
use Rattle.ls_conn_http.specs.Bodies.{Answers}

-- requests of a name were answered, and the lines of their answers appended
pub record Answered (deed : Deed) (name : List ℕ) (params : List (List ℕ)) (old new : Known) (lines lines2 : List ℕ)
    : Type 0 where
  pub texts : List (List ℕ)
  pub answers : Answers deed name params texts old new
  pub are : lines2 ≡ lines ++ lines_of texts

-- a text was written whole, or a part of it, from the front; or there was no memory for it
abbrev pub WritesReply : ConnEnd → Option (List ℕ) → Option (List ℕ) → List ℕ → Type 0
WritesReply end.Served old new text = Appends old new text
WritesReply (end.Refused status) old new text = ⊥
WritesReply end.PeerLeft old new text = ⊥
WritesReply end.TooSlow old new text = ⊥
WritesReply end.ReadFault old new text = ⊥
WritesReply end.WriteFault old new text = (part : List ℕ) × IsPrefix part text × Appends old new part
WritesReply end.Stopped old new text = ⊥
WritesReply end.NoMemory old new text = Appends old new []

-- a refusal was written whole, or a part of it, from the front; or there was no memory for it
abbrev pub WritesRefusal : ConnEnd → ℕ → Option (List ℕ) → Option (List ℕ) → Type 0
WritesRefusal end.Served status old new = ⊥
WritesRefusal (end.Refused s) status old new = (s ≡ status) × Appends old new (refusal_text status)
WritesRefusal end.PeerLeft status old new = ⊥
WritesRefusal end.TooSlow status old new = ⊥
WritesRefusal end.ReadFault status old new = ⊥
WritesRefusal end.WriteFault status old new =
    (part : List ℕ) × IsPrefix part (refusal_text status) × Appends old new part
WritesRefusal end.Stopped status old new = ⊥
WritesRefusal end.NoMemory status old new = Appends old new []

-- a reply of which this holds was written whole, or a part of it, from the front; or nothing was, for want of memory
abbrev pub RepliesBy : ConnEnd → Option (List ℕ) → Option (List ℕ) → (Bool → List ℕ → Type 0) → Type 0
RepliesBy end.Served old new IsText = (text : List ℕ) × IsText true text × Appends old new text
RepliesBy (end.Refused status) old new IsText = ⊥
RepliesBy end.PeerLeft old new IsText = ⊥
RepliesBy end.TooSlow old new IsText = ⊥
RepliesBy end.ReadFault old new IsText = ⊥
RepliesBy end.WriteFault old new IsText =
    (text part : List ℕ) × IsText false text × IsPrefix part text × Appends old new part
RepliesBy end.Stopped old new IsText =
    (text part : List ℕ) × IsText false text × IsPrefix part text × Appends old new part
RepliesBy end.NoMemory old new IsText =
    Appends old new [] ⊎ ((text part : List ℕ) × IsText false text × IsPrefix part text × Appends old new part)

-- what is written where no request was read whole: a refusal, or nothing
abbrev pub EndsUnserved : ConnEnd → ConnEnd → Option (List ℕ) → Option (List ℕ) → Type 0
EndsUnserved (end.Refused status) ending old new = WritesRefusal ending status old new
EndsUnserved end.Served ending old new = (ending ≡ end.Served) × Appends old new []
EndsUnserved end.PeerLeft ending old new = (ending ≡ end.PeerLeft) × Appends old new []
EndsUnserved end.TooSlow ending old new = (ending ≡ end.TooSlow) × Appends old new []
EndsUnserved end.ReadFault ending old new = (ending ≡ end.ReadFault) × Appends old new []
EndsUnserved end.WriteFault ending old new = (ending ≡ end.WriteFault) × Appends old new []
EndsUnserved end.Stopped ending old new = (ending ≡ end.Stopped) × Appends old new []
EndsUnserved end.NoMemory ending old new = (ending ≡ end.NoMemory) × Appends old new []
