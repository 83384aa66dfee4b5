-- What a WebSocket over a pipe holds, and what its calls do to it (RFC 6455, sections 5 and 6).
use Rattle.std.specs.Prelude.{◌≡◌, ◌<◌, ◌⊎◌, ℕ, List, [], refl, Bool, Ok, Err, ⊤}
use Rattle.std.specs.declared.option.Option.{Option}
use Rattle.std.specs.Coded.{Coded, code_by, coded×, coded_list, coded_ℕ, coded_bool}
use Rattle.tungstenite.specs.Connection.{write_step}
use Rattle.tungstenite.specs.Content.{text}
use Rattle.tungstenite.specs.Socket.{Socket, socket_code, Reads, Writes, content_of, kind_of, byte_count}
use Rattle.tungstenite.specs.declared.message.Message.{Message}
use Rattle.tungstenite.specs.Failure.{IsIo, IsOutside}
use Rattle.tungstenite.specs.declared.error.Error.{Error}
use Rattle.ls_talk.specs.Lines.{Counts, line_bytes}
use Rattle.ls_talk.specs.declared.talk.TheConstants.{LONGEST_MESSAGE}
use Rattle.ls_talk.specs.declared.talk.Incoming.{Incoming}
use Rattle.ls_talk.specs.declared.talk.Incoming.TheVariants as incoming

-- a pipe, and what is held back of the bytes that go to it
pub record Held (C : Type 0) : Type 0 where
  pub pipe : C
  pub unsent : List ℕ

-- a wire: its socket over the pipe, its counts, and whether memory was refused to a message
pub record WireState (C : Type 0) : Type 0 where
  pub socket : Socket (Held C)
  pub put_faults : ℕ
  pub counts : Counts
  pub is_starved : Bool

module _ {C : Type 0} where
  abbrev pub nothing_held : C → Held C
  nothing_held c = record { pipe = c; unsent = [] }

  abbrev pub held_code : Coded C → Coded (Held C)
  held_code pipe =
      code_by (C × List ℕ) (coded× pipe (coded_list coded_ℕ)) (λ h. (h.pipe, h.unsent))
      (λ p. record { pipe = p.0; unsent = p.1 }) (λ _. refl)

  abbrev pub wire_code : Coded C → Coded (WireState C)
  wire_code pipe =
      code_by (Socket (Held C) × (ℕ × (ℕ × (ℕ × (ℕ × (ℕ × Bool))))))
      (coded× (socket_code (held_code pipe)) (coded× coded_ℕ (coded× coded_ℕ (coded× coded_ℕ (coded× coded_ℕ (coded× coded_ℕ coded_bool))))))
      (λ w. (w.socket, (w.put_faults, (w.counts.faults, (w.counts.idles, (w.counts.closes, (w.counts.leaves, w.is_starved)))))))
      (λ p. record { socket = p.0; put_faults = p.1.0; counts = record { faults = p.1.1.0; idles = p.1.1.1.0; closes = p.1.1.1.1.0; leaves = p.1.1.1.1.1.0 }; is_starved = p.1.1.1.1.1.1 })
      (λ _. refl)

  -- one text message of this line, whole, went out or waits, after what waited
  abbrev pub SendsLine : (Held C → Option (List ℕ)) → Socket (Held C) → Socket (Held C) → List ℕ → Type 0
  SendsLine held old new line = Writes held old new (write_step old.conn (text (line_bytes line)))

  -- no message is there yet: the frames that were read gave none, and the socket goes on from there
  abbrev pub WaitsOf : (C → Option (List ℕ)) → Socket C → Socket C → Type 0
  WaitsOf unread old new = (e : Error) × IsIo e × Reads unread old new (Err e)

  -- a read failed: the frames that were read gave no message, and this is why, neither the stream nor want of memory. So
  -- what was read is no frame or no message, or the stream is at its end.
  abbrev pub FailsOf : (C → Option (List ℕ)) → Socket C → Socket C → Type 0
  FailsOf unread old new = (e : Error) × (IsOutside e → ⊥) × Reads unread old new (Err e)

  -- the peer's close was read
  abbrev pub ReadsClose : (C → Option (List ℕ)) → Socket C → Type 0
  ReadsClose unread old = (m : Message) × (mid : Socket C) × (kind_of m ≡ 4) × Reads unread old mid (Ok m)

  -- no message comes any more: a read failed, or the peer closed
  abbrev pub ClosesOf : (C → Option (List ℕ)) → Socket C → Socket C → Type 0
  ClosesOf unread old new = FailsOf unread old new ⊎ ReadsClose unread old

-- the answer that a message has
abbrev pub Answers : Message → Incoming → Type 0
Answers m (incoming.Text bytes) = content_of m ≡ text bytes
Answers m incoming.Long = (kind_of m ≡ 0) × (LONGEST_MESSAGE < byte_count m)
Answers m incoming.Binary = kind_of m ≡ 1
Answers m incoming.Control = (kind_of m ≡ 2) ⊎ (kind_of m ≡ 3)
Answers m answer = ⊤

-- an answer that gives a message, which the socket read
abbrev pub IsGiven : Incoming → Type 0
IsGiven (incoming.Text bytes) = ⊤
IsGiven incoming.Long = ⊤
IsGiven incoming.Binary = ⊤
IsGiven incoming.Control = ⊤
IsGiven answer = ⊥

module _ {C : Type 0} where
  -- a socket read this message of the bytes that its pipe gave
  abbrev pub ReadsOf : (C → Option (List ℕ)) → Socket C → Socket C → Incoming → Type 0
  ReadsOf unread old new answer =
      IsGiven answer → (m : Message) × Reads unread old new (Ok m) × Answers m answer
