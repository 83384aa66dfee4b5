-- What came of a connection over HTTP, by its bytes and by what was seen (TLCP 2.1, HTTP transport; this project's
-- profile).
use Rattle.std.specs.Prelude.{◌≡◌, ◌⊎◌, ℕ, List, [], Bool, true, false, Option}
use Rattle.std.specs.Io.KnownBytes.{Consumes, Appends}
use mathlib.Core.List.{IsPrefix}
use Rattle.ls_register.specs.Deeds.{Deed}
use Rattle.ls_register.specs.declared.made.Made.{Made}
use Rattle.ls_http.specs.Replies.{refusal_text, upgrade_text}
use Rattle.ls_ws.specs.Accept.{accept_of}
use Rattle.ls_conn.specs.Acting.{Known, known}
use Rattle.ls_conn.specs.declared.ended.ConnEnd.{ConnEnd}
use Rattle.ls_conn.specs.declared.ended.ConnEnd.TheVariants as end
use Rattle.ls_conn_http.specs.Bodies.{IsReply}
use Rattle.ls_conn_http.specs.Reading.{HasStatus, IsShort, IsWhole, ReadsHandshake}

-- a whole request was read, and this is its reply, that was written whole or not: no session was seen before, and what
-- was seen is known then
pub record Replied (deed : Deed) (whole : Bool) (read text : List ℕ) (then_known : Known) : Type 0 where
  pub name : List ℕ
  pub version : Bool
  pub body : List ℕ
  pub request : IsWhole read name version body
  pub register : List Made
  pub reply : IsReply deed whole name version body text (known register []) then_known

-- a part of a reply was written, from the front
pub record PartReplied (deed : Deed) (read written : List ℕ) (then_known : Known) : Type 0 where
  pub text : List ℕ
  pub replied : Replied deed false read text then_known
  pub part : IsPrefix written text

-- a part of a refusal was written, from the front
pub record PartRefused (read written : List ℕ) : Type 0 where
  pub status : ℕ
  pub has : HasStatus read status
  pub part : IsPrefix written (refusal_text status)

-- nothing was written, and no whole request was read
pub record Silent (read written : List ℕ) : Type 0 where
  pub short : IsShort read
  pub none : written ≡ []

-- what an end says of what was read and written, and of what is known then
abbrev pub Outcome : Deed → ConnEnd → List ℕ → List ℕ → Known → Type 0
Outcome deed end.Served read written then_known = Replied deed true read written then_known
Outcome deed (end.Refused status) read written then_known = HasStatus read status × (written ≡ refusal_text status)
Outcome deed end.PeerLeft read written then_known = Silent read written
Outcome deed end.TooSlow read written then_known = Silent read written
Outcome deed end.ReadFault read written then_known = Silent read written
Outcome deed end.WriteFault read written then_known =
    PartRefused read written ⊎ PartReplied deed read written then_known
Outcome deed end.Stopped read written then_known = Silent read written ⊎ PartReplied deed read written then_known
Outcome deed end.NoMemory read written then_known = (written ≡ []) ⊎ PartReplied deed read written then_known

-- some bytes were read from the front of those that a pipe had to give, and some were written, as the end says
pub record Served (deed : Deed) (ending : ConnEnd) (unread held held2 : Option (List ℕ)) (then_known : Known)
    : Type 0 where
  pub read : List ℕ
  pub left : Option (List ℕ)
  pub consumes : Consumes unread left read
  pub written : List ℕ
  pub appends : Appends held held2 written
  pub outcome : Outcome deed ending read written then_known

-- a handshake was read, with these bytes past it, and its reply was written (RFC 6455, section 4.2.2)
pub record Switched (unread left held held2 : Option (List ℕ)) (rest : List ℕ) : Type 0 where
  pub key : List ℕ
  pub came : ReadsHandshake unread left key rest
  pub appends : Appends held held2 (upgrade_text (accept_of key))

-- a handshake was read, and a write of its reply failed or memory was refused: a part of the reply was written, from the
-- front
pub record Unanswered (ending : ConnEnd) (unread left held held2 : Option (List ℕ)) : Type 0 where
  pub key : List ℕ
  pub rest : List ℕ
  pub came : ReadsHandshake unread left key rest
  pub written : List ℕ
  pub appends : Appends held held2 written
  pub part : IsPrefix written (upgrade_text (accept_of key))
  pub why : (ending ≡ end.WriteFault) ⊎ (ending ≡ end.NoMemory)
