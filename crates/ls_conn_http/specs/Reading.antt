-- How much of a request came (RFC 9112, sections 2 to 6; this project's profile).
use Rattle.std.specs.Prelude.{◌≡◌, ◌⊎◌, ◌<◌, ◌≤◌, ◌+◌, ℕ, List, ◌++◌, length, take, drop, Bool, Option, Some}
use Rattle.std.specs.Io.KnownBytes.{Consumes}
use mathlib.Core.List.{IsPrefix}
use Rattle.ls_http.specs.declared.head.Head.{Head}
use Rattle.ls_http.specs.declared.head.Head.TheVariants as head
use Rattle.ls_http.specs.declared.head.HeadRefused.TheVariants as refused
use Rattle.ls_http.specs.Reading.{IsFound, IsRefused, IsWaiting}
use Rattle.ls_conn.specs.declared.ended.ConnEnd.{ConnEnd}
use Rattle.ls_conn.specs.declared.ended.ConnEnd.TheVariants as end

-- this head stands in the first of these bytes, so long
pub record BeginsWith (read : List ℕ) (h : Head) (len : ℕ) : Type 0 where
  pub first : List ℕ
  pub begins : IsPrefix first read
  pub found : IsFound first (Some (h, len))

-- so does the head of a request, which names a body of so many bytes
abbrev pub HasHead : List ℕ → List ℕ → Bool → ℕ → ℕ → Type 0
HasHead read name version len size = BeginsWith read (head.Post name version size) len

-- a whole request was read: its head, its body, and maybe more, which isn't looked at
pub record IsWhole (read name : List ℕ) (version : Bool) (body : List ℕ) : Type 0 where
  pub len : ℕ
  pub head_is : HasHead read name version len (length body)
  pub fits : len + length body ≤ length read
  pub body_is : body ≡ take (length body) (drop len read)

-- no whole request was read, and what was read may still become one
abbrev pub IsShort : List ℕ → Type 0
IsShort read =
    IsWaiting read
    ⊎ ((name : List ℕ) × (version : Bool) × (len size : ℕ) × HasHead read name version len size
    × (length read < len + size))

-- a head is refused with the status of the table
abbrev pub HasStatus : List ℕ → ℕ → Type 0
HasStatus read status = IsRefused read (refused.Status status)

-- a handshake was read: the bytes that were taken from those that a pipe had to give begin with its head (RFC 6455,
-- section 4.2.1)
abbrev pub WasUpgraded : Option (List ℕ) → Type 0
WasUpgraded unread =
    (left : Option (List ℕ)) × (read key : List ℕ) × (len : ℕ) × Consumes unread left read
    × BeginsWith read (head.Upgrade key) len

-- a handshake with this key was read, and these bytes past it: together they are what was taken from those that a pipe
-- had to give
pub record ReadsHandshake (unread left : Option (List ℕ)) (key rest : List ℕ) : Type 0 where
  pub first : List ℕ
  pub consumes : Consumes unread left (first ++ rest)
  pub begins : BeginsWith (first ++ rest) (head.Upgrade key) (length first)

-- a handshake was read, and the connection ended as a WebSocket does: not with a request that was served, nor with a
-- head that was refused
pub record Upgraded (ending : ConnEnd) (unread : Option (List ℕ)) : Type 0 where
  pub was : WasUpgraded unread
  pub not_served : ending ≡ end.Served → ⊥
  pub not_refused : (status : ℕ) → ending ≡ end.Refused status → ⊥

-- why no whole request was read, and no reply but a refusal is due
abbrev pub Unserved : ConnEnd → List ℕ → Type 0
Unserved end.Served read = ⊥
Unserved (end.Refused status) read = HasStatus read status
Unserved end.PeerLeft read = IsShort read
Unserved end.TooSlow read = IsShort read
Unserved end.ReadFault read = IsShort read
Unserved end.WriteFault read = ⊥
Unserved end.Stopped read = IsShort read
Unserved end.NoMemory read = Unit {0}
