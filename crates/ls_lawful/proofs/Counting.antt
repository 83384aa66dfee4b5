-- What is counted of a session's lines: how many were given and given up, and which of them on which stream.
use Rattle.std.proofs.Common.{◌≡◌, ℕ, ◌+◌, ◌≤◌, List, [], ◌∷◌, length, ap, arith, Bool, true, not, Option, Some, None}
use Rattle.std.proofs.Common.{max, min, nat_le}
use Rattle.std.specs.Prelude.{unwrap_or}
use Rattle.std.proofs.lemmas.Bool.{and_parts, leb-true, ltb-true}
use Rattle.ls_value.specs.declared.limits.TheConstants.{GREATEST_NUMBER}
use Rattle.ls_keep.specs.Keeping.{least_keeping}
use Rattle.ls_request.specs.declared.request.Bind.{Bind}
use Rattle.ls_record.specs.Lines.{text_at, texts_behind}
use Rattle.ls_record.specs.Records.{Board, Stream, Session, change, is_unsent, trimmed, on_stream, with_line, begun_stream}
use Rattle.ls_record.specs.Records.{opened, rebound}
use Rattle.ls_record.specs.Acting.{may_resume, bind_code}
use Rattle.ls_value.specs.Each.{Each}
use Rattle.ls_lawful.specs.Lawful.{LawfulStream, LawfulStreams}
use Rattle.ls_record.proofs.Each.{each_map}
use Rattle.ls_record.proofs.Naming.{Passes, passes, not_false}

-- no more lines were given than numbered, none is given up that wasn't given, and each stream has its own without a gap
pub record Counted (s : Session) : Type 0 where
  pub sent : s.sent ≤ length s.board.lines
  pub given_up : s.given_up ≤ s.sent
  pub streams : LawfulStreams (length s.board.lines) s.sent s.streams

-- a stream that begins
stream_begins : (lines from : ℕ) (content : Option ℕ) → from ≤ lines → LawfulStream lines (begun_stream from content)
stream_begins lines from content within = record { follows = tt; numbered = omega (arith, within) }

pub opened_counted : (number keepalive : ℕ) (limit content : Option ℕ) → Counted (opened number keepalive limit content)
opened_counted number keepalive limit content =
    record { sent = omega arith; given_up = omega arith; streams = (omega arith, (stream_begins 0 0 content (omega arith), tt)) }

-- lines are numbered
streams_more : (lines more sent : ℕ) (ts : List Stream) → lines ≤ more → LawfulStreams lines sent ts → LawfulStreams more sent ts
streams_more lines more sent [] grow l = l
streams_more lines more sent (t ∷ ts) grow l = (
  l.0,
  each_map (LawfulStream lines) (LawfulStream more) (t ∷ ts) (λ u k. record { follows = k.follows; numbered = omega (arith, k.numbered, grow) }) l.1,
)

pub board_counted : (s : Session) (b : Board) → length s.board.lines ≤ length b.lines → Counted s → Counted (record s { board = b })
board_counted s b grow c =
    record {
      sent = omega (arith, c.sent, grow);
      given_up = c.given_up;
      streams = streams_more (length s.board.lines) (length b.lines) s.sent s.streams grow c.streams;
    }

-- and given up
given_up_within : (given_up sent least : ℕ) → given_up ≤ sent → max given_up (min sent least) ≤ sent
given_up_within given_up sent least within = omega (arith, within)

pub trimmed_counted : (s : Session) → Counted s → Counted (trimmed s)
trimmed_counted s c =
    record {
      sent = c.sent;
      given_up = given_up_within s.given_up s.sent (least_keeping (texts_behind 0 s.board.lines)) c.given_up;
      streams = c.streams;
    }

-- a change of the newest stream that gives no numbered line
stream_keeps : (f : Stream → Stream) → ((t : Stream) → (f t).from ≡ t.from) → ((t : Stream) → (f t).given ≡ t.given) → (lines sent : ℕ) (ts : List Stream)
    → LawfulStreams lines sent ts → LawfulStreams lines sent (change 0 f ts)
stream_keeps f from given lines sent [] l = l
stream_keeps f from given lines sent (t ∷ ts) l = (
  omega (arith, l.0, from t, ap length (given t)),
  (
    record {
      follows = rw (from t, given t) l.1.0.follows;
      numbered = omega (arith, l.1.0.numbered, from t, ap length (given t));
    },
    l.1.1,
  ),
)

pub stream_counted : (f : Stream → Stream) (s : Session) → ((t : Stream) → (f t).from ≡ t.from) → ((t : Stream) → (f t).given ≡ t.given)
    → Counted s → Counted (on_stream f s)
stream_counted f s from given c =
    record {
      sent = c.sent;
      given_up = c.given_up;
      streams = stream_keeps f from given (length s.board.lines) s.sent s.streams c.streams;
    }

-- the next numbered line is given
streams_given : (lines n : ℕ) (text : List ℕ) (ts : List Stream) → n + 1 ≤ lines → LawfulStreams lines n ts
    → LawfulStreams lines (n + 1) (change 0 (with_line (n + 1) text) ts)
streams_given lines n text [] within l = l
streams_given lines n text (t ∷ ts) within l = (
  omega (arith, l.0),
  (record { follows = (omega (arith, l.0), l.1.0.follows); numbered = omega (arith, l.0, within) }, l.1.1),
)

abbrev pub with_next : Session → Session
with_next s = on_stream (with_line (s.sent + 1) (text_at s.board.lines (s.sent + 1))) (record s { sent = s.sent + 1 })

pub next_counted : (s : Session) → is_unsent s ≡ true → Counted s → Counted (with_next s)
next_counted s unsent c =
    let within : s.sent + 1 ≤ length s.board.lines = omega (arith, ltb-true s.sent (length s.board.lines) unsent) in
    record {
      sent = within;
      given_up = omega (arith, c.given_up);
      streams = streams_given (length s.board.lines) s.sent (text_at s.board.lines (s.sent + 1)) s.streams within c.streams;
    }

-- another stream, where the client may go on
record MayGoOn (s : Session) (from : ℕ) : Type 0 where
  kept : s.given_up ≤ from
  numbered : from ≤ length s.board.lines

may_go_on : (s : Session) (recover : Option ℕ) → may_resume s recover ≡ true → Counted s → MayGoOn s (unwrap_or recover s.sent)
may_go_on s None may c = record { kept = c.given_up; numbered = c.sent }
may_go_on s (Some count) may c =
    let parts = and_parts (nat_le s.given_up count) (nat_le count (length s.board.lines)) may in
    record { kept = leb-true s.given_up count parts.0; numbered = leb-true count (length s.board.lines) parts.1 }

pub rebound_counted : (number : ℕ) (s : Session) (b : Bind) → bind_code s b ≡ None → Counted s → Counted (rebound number b s)
rebound_counted number s b none c =
    let rows : List (ℕ × Bool) = (4, not (may_resume s b.recover)) ∷ (74, nat_le GREATEST_NUMBER (length s.streams)) ∷ [] in
    let p : Passes rows = passes rows none in
    let from : ℕ = unwrap_or b.recover s.sent in
    let k : MayGoOn s from = may_go_on s b.recover (not_false (may_resume s b.recover) p.0) c in
    record {
      sent = k.numbered;
      given_up = k.kept;
      streams = (omega arith, (stream_begins (length s.board.lines) from b.length k.numbered, all s.streams c.streams));
    }
  where
    all : (ts : List Stream) → LawfulStreams (length s.board.lines) s.sent ts → Each (LawfulStream (length s.board.lines)) ts
    all [] k = tt
    all (t ∷ ts) k = k.1
