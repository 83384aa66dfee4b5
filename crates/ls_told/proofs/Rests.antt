-- Why a turn of a session gives no line, by what its history tells.
use Rattle.std.proofs.Common.{◌≡◌, ◌<◌, ◌≤◌, ◌⊎◌, ℕ, length, refl, true, false, Option, Some, None}
use Rattle.std.proofs.Common.{inl, inr, nat_lt, is_some, not}
use Rattle.std.proofs.lemmas.Bool.{ltb-true, ltb-false}
use Rattle.ls_record.specs.Records.{Life, Alive, Ending, Closed, Session, is_bound}
use Rattle.ls_session.specs.Record.{Record, Turned, Gives, Send, Asks, Idle, NotDue, Spent, Superseded, Unbound, Ended, turned}
use Rattle.ls_session.specs.Record.{gives_unbound, round_turned}
use Rattle.ls_told.specs.Spoken.{spoken_of, GivesNothing, next_of}
use Rattle.ls_told.proofs.Turns.{turned_rule, IsWaiting, round_waits, next_nothing}

-- the stream is that of an epoch, or of an earlier one, and it is bound
pub record IsOwn (epoch : ℕ) (s : Session) : Type 0 where
  pub newest : length s.streams ≤ epoch
  pub bound : s.unbound ≡ None

-- and nothing is to be given on it but what slots have to tell
pub record IsStill (epoch : ℕ) (s : Session) : Type 0 where
  pub own : IsOwn epoch s
  pub alive : s.life ≡ Alive
  pub none : next_of (spoken_of s) ≡ GivesNothing

-- the session has ended for the cause of a code, and END was given, or no stream is bound
abbrev pub IsOver : ℕ → Session → Type 0
IsOver code s = (s.life ≡ Closed code) ⊎ ((s.life ≡ Ending code) × ((since : ℕ) × (s.unbound ≡ Some since)))

-- what a turn that gives this says of the session
abbrev pub SaysOf : ℕ → Session → Gives → Type 0
SaysOf epoch s (Send text) = IsOwn epoch s
SaysOf epoch s (Asks q) = IsStill epoch s
SaysOf epoch s Idle = IsStill epoch s
SaysOf epoch s (NotDue at) = IsStill epoch s
SaysOf epoch s Spent = IsStill epoch s
SaysOf epoch s (Superseded e) = (e ≡ length s.streams) × (epoch < e)
SaysOf epoch s Unbound = (s.life ≡ Alive) × ((since : ℕ) × (s.unbound ≡ Some since))
SaysOf epoch s (Ended code) = IsOver code s

pub turn_says : (now epoch : ℕ) (r : Record) → SaysOf epoch r.session (turned now epoch r).gives
turn_says now epoch r = turned_rule (λ (t : Turned). SaysOf epoch r.session t.gives) now epoch r (record {
  superseded = λ newer. (refl, ltb-true epoch (length r.session.streams) newer);
  unbound = λ own none. by_life r.session.life refl (lost r.session.unbound none);
  owes = λ text owed own bound alive is. owned own bound;
  loops = λ own bound alive none over. owned own bound;
  next = λ own bound alive none stays unsent. owned own bound;
  round = λ own bound alive none stays sent. still (round_turned now r).gives
      (record { own = owned own bound; alive = alive; none = next_nothing r.session alive none stays sent }) (round_waits now r);
  ending = λ code own bound ends. owned own bound;
  over = λ code own bound closed. inl closed;
})
  where
    held : (o : Option ℕ) → not (is_some o) ≡ true → o ≡ None
    held None is = refl
    held (Some n) is = absurd (let x : false ≡ true = is in cc)

    lost : (o : Option ℕ) → not (is_some o) ≡ false → (since : ℕ) × (o ≡ Some since)
    lost None is = absurd (let x : true ≡ false = is in cc)
    lost (Some n) is = (n, refl)

    owned : nat_lt epoch (length r.session.streams) ≡ false → is_bound r.session ≡ true → IsOwn epoch r.session
    owned own bound = record { newest = ltb-false epoch (length r.session.streams) own; bound = held r.session.unbound bound }

    by_life : (life : Life) → r.session.life ≡ life → (since : ℕ) × (r.session.unbound ≡ Some since) → SaysOf epoch r.session (gives_unbound life)
    by_life Alive is since = (is, since)
    by_life (Ending code) is since = inr (is, since)
    by_life (Closed code) is since = inl is

    still : (g : Gives) → IsStill epoch r.session → IsWaiting g → SaysOf epoch r.session g
    still (Send text) s w = absurd w
    still (Asks q) s w = s
    still Idle s w = s
    still (NotDue at) s w = s
    still Spent s w = s
    still (Superseded e) s w = absurd w
    still Unbound s w = absurd w
    still (Ended code) s w = absurd w
