-- What a session's history tells of the session: all of its record but its slots, and what is to be given next on its
-- stream (TLCP 2.1, session life and recovery; this project's profile).
use Rattle.std.specs.Prelude.{◌==◌, ℕ, ◌+◌, List, [], ◌∷◌, ◌++◌, length, Bool, false, Option, None, Some, nat_lt}
use Rattle.std.specs.Prelude.{if◌then◌else◌}
use Rattle.ls_keep.specs.Keeping.{given_up_after}
use Rattle.ls_record.specs.Lines.{texts}
use Rattle.ls_record.specs.Records.{Session, Stream, Rate, Life, Alive, Ending, Closed, change, with_text, with_line, is_to_loop}
use Rattle.ls_record.specs.Turning.{loop_text, end_text}

-- a session without its slots: the texts of its numbered lines, the newest first, its bandwidth, the number given last,
-- the given-up number, what is owed to its stream, its streams, the newest first, the tick since which none is bound,
-- if none is, and whether it has ended
pub record Spoken : Type 0 where
  pub texts : List (List ℕ)
  pub rate : Rate
  pub sent : ℕ
  pub given_up : ℕ
  pub owed : List (List ℕ)
  pub streams : List Stream
  pub unbound : Option ℕ
  pub life : Life

abbrev pub spoken_of : Session → Spoken
spoken_of s =
    record {
      texts = texts s.board.lines;
      rate = s.rate;
      sent = s.sent;
      given_up = s.given_up;
      owed = s.owed;
      streams = s.streams;
      unbound = s.unbound;
      life = s.life;
    }

-- the text of the line of a number, where the newest stands first
abbrev pub text_in : List (List ℕ) → ℕ → List ℕ
text_in [] n = []
text_in (t ∷ ts) n = if n == length ts + 1 then t else text_in ts n

-- the first one first
abbrev pub in_order : List (List ℕ) → List (List ℕ)
in_order [] = []
in_order (t ∷ ts) = in_order ts ++ t ∷ []

-- as a line was numbered or given, lines that aren't to be kept are given up
abbrev pub given_up_in : Spoken → Spoken
given_up_in s = record s { given_up = given_up_after s.given_up s.sent (in_order s.texts) }

-- a line of this text is numbered
abbrev pub numbering : List ℕ → Spoken → Spoken
numbering text s = given_up_in (record s { texts = text ∷ s.texts })

-- a change of the newest stream
abbrev pub on_newest : (Stream → Stream) → Spoken → Spoken
on_newest f s = record s { streams = change 0 f s.streams }

-- whether the newest stream is forced to be over
abbrev pub is_forced : List Stream → Bool
is_forced [] = false
is_forced (t ∷ ts) = t.forced

-- the next numbered line is given
abbrev pub giving_line : Spoken → Spoken
giving_line s =
    given_up_in (on_newest (with_line (s.sent + 1) (text_in s.texts (s.sent + 1))) (record s { sent = s.sent + 1 }))

-- what is to be given next on the stream that is bound: END, for the cause of a code; a line that is owed; LOOP; the
-- numbered line of a text; or nothing
pub data Next : Type 0 where
  GivesEnd : ℕ → Next
  GivesOwed : List ℕ → Next
  GivesLoop : Next
  GivesLine : List ℕ → Next
  GivesNothing : Next

abbrev pub next_owing : Spoken → List (List ℕ) → Next
next_owing s (text ∷ owed) = GivesOwed text
next_owing s [] =
    if is_to_loop s.streams then GivesLoop
    else if nat_lt s.sent (length s.texts) then GivesLine (text_in s.texts (s.sent + 1))
    else GivesNothing

abbrev pub next_living : Spoken → Life → Next
next_living s Alive = next_owing s s.owed
next_living s (Ending code) = GivesEnd code
next_living s (Closed code) = GivesNothing

abbrev pub next_of : Spoken → Next
next_of s = next_living s s.life

-- its text
abbrev pub text_of_next : Next → Option (List ℕ)
text_of_next (GivesEnd code) = Some (end_text code)
text_of_next (GivesOwed text) = Some text
text_of_next GivesLoop = Some loop_text
text_of_next (GivesLine text) = Some text
text_of_next GivesNothing = None

-- without the first of the lines that are owed
abbrev pub without_first : List (List ℕ) → List (List ℕ)
without_first [] = []
without_first (text ∷ owed) = owed

-- the session after it was given at a tick; where nothing was to be given, as by a PROBE, it is as before
abbrev pub giving : ℕ → Next → Spoken → Spoken
giving tick (GivesEnd code) s = record (on_newest (with_text (end_text code)) s) { life = Closed code }
giving tick (GivesOwed text) s = record (on_newest (with_text text) s) { owed = without_first s.owed }
giving tick GivesLoop s = record s { unbound = Some tick }
giving tick (GivesLine text) s = giving_line s
giving tick GivesNothing s = s
