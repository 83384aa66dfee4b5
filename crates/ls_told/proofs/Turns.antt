-- What a turn of a session gives, by what its history tells.
use Rattle.std.proofs.Common.{◌≡◌, ℕ, ◌+◌, List, [], ◌∷◌, length, refl, sym, ◌∙◌, ap, cond, Bool, true, false}
use Rattle.std.proofs.Common.{Option, Some, None, nat_lt, nat_le, ◌&&◌, slice_get}
use Rattle.ls_value.specs.declared.limits.TheConstants.{GREATEST_NUMBER}
use Rattle.ls_record.specs.Lines.{text_at}
use Rattle.ls_record.specs.Records.{LiveSlot, Life, Alive, Ending, Closed, Session, on_stream, with_text, is_to_loop, is_unsent}
use Rattle.ls_record.specs.Records.{given_next, is_bound, is_due, unbound_at}
use Rattle.ls_record.specs.Turning.{loop_text, end_text}
use Rattle.ls_record.proofs.Rules.{cond_rule}
use Rattle.ls_session.specs.Record.{Record, Turned, Gives, Send, Asks, Idle, NotDue, Spent, Superseded, Unbound, Ended}
use Rattle.ls_session.specs.Record.{begun_at, begun_anew, turned, bound_turned, owed_turned, next_turned, round_turned, round_asked}
use Rattle.ls_session.specs.Record.{wait_from, from_place, waits_until, gives_unbound}
use Rattle.ls_told.specs.Spoken.{spoken_of, Next, GivesEnd, GivesOwed, GivesLoop, GivesLine, GivesNothing, next_of}
use Rattle.ls_told.specs.Spoken.{next_living, next_owing, text_in, text_of_next, giving, without_first}
use Rattle.ls_told.proofs.Texts.{length_texts, text_is}
use Rattle.ls_told.proofs.Moves.{spoken_next}

-- what is true of each end of a turn
pub record TurnEnds (P : Turned → Type 0) (now epoch : ℕ) (r : Record) : Type 0 where
  pub superseded :
      nat_lt epoch (length r.session.streams) ≡ true
      → P (record { after = begun_at now r.session r; gives = Superseded (length r.session.streams) })
  pub unbound :
      nat_lt epoch (length r.session.streams) ≡ false → is_bound r.session ≡ false
      → P (record { after = begun_at now r.session r; gives = gives_unbound r.session.life })
  pub owes :
      (text : List ℕ) (owed : List (List ℕ)) → nat_lt epoch (length r.session.streams) ≡ false → is_bound r.session ≡ true
      → r.session.life ≡ Alive → r.session.owed ≡ text ∷ owed
      → P (record { after = begun_anew now (on_stream (with_text text) (record r.session { owed = owed })) r; gives = Send text })
  pub loops :
      nat_lt epoch (length r.session.streams) ≡ false → is_bound r.session ≡ true → r.session.life ≡ Alive → r.session.owed ≡ []
      → is_to_loop r.session.streams ≡ true
      → P (record { after = begun_anew now (unbound_at now r.session) r; gives = Send loop_text })
  pub next :
      nat_lt epoch (length r.session.streams) ≡ false → is_bound r.session ≡ true → r.session.life ≡ Alive → r.session.owed ≡ []
      → is_to_loop r.session.streams ≡ false → is_unsent r.session ≡ true → P (next_turned now r)
  pub round :
      nat_lt epoch (length r.session.streams) ≡ false → is_bound r.session ≡ true → r.session.life ≡ Alive → r.session.owed ≡ []
      → is_to_loop r.session.streams ≡ false → is_unsent r.session ≡ false → P (round_turned now r)
  pub ending :
      (code : ℕ) → nat_lt epoch (length r.session.streams) ≡ false → is_bound r.session ≡ true → r.session.life ≡ Ending code
      → P (record {
        after = begun_anew now (on_stream (with_text (end_text code)) (record r.session { life = Closed code })) r;
        gives = Send (end_text code);
      })
  pub over :
      (code : ℕ) → nat_lt epoch (length r.session.streams) ≡ false → is_bound r.session ≡ true → r.session.life ≡ Closed code
      → P (record { after = begun_at now r.session r; gives = Ended code })

pub turned_rule : (P : Turned → Type 0) (now epoch : ℕ) (r : Record) → TurnEnds P now epoch r → P (turned now epoch r)
turned_rule P now epoch r e =
    cond_rule P (nat_lt epoch (length r.session.streams)) _ _ e.superseded
    (λ own. cond_rule P (is_bound r.session) _ _ (λ bound. by_life own bound r.session.life refl) (λ none. e.unbound own none))
  where
    by_owed : nat_lt epoch (length r.session.streams) ≡ false → is_bound r.session ≡ true → r.session.life ≡ Alive → (owed : List (List ℕ))
        → r.session.owed ≡ owed → P (owed_turned now r owed)
    by_owed own bound alive (text ∷ owed) is = e.owes text owed own bound alive is
    by_owed own bound alive [] is =
        cond_rule P (is_to_loop r.session.streams) _ _ (e.loops own bound alive is)
        (λ stays. cond_rule P (is_unsent r.session) _ _ (e.next own bound alive is stays) (e.round own bound alive is stays))

    by_life : nat_lt epoch (length r.session.streams) ≡ false → is_bound r.session ≡ true → (life : Life) → r.session.life ≡ life
        → P (bound_turned now r life)
    by_life own bound Alive is = by_owed own bound is r.session.owed refl
    by_life own bound (Ending code) is = e.ending code own bound is
    by_life own bound (Closed code) is = e.over code own bound is

-- no line comes of it, and the session stays
pub record IsQuiet (s : Session) (t : Turned) : Type 0 where
  pub same : t.after.session ≡ s
  pub silent : (text : List ℕ) → t.gives ≡ Send text → ⊥

-- as where a slot of the round is asked, or none is
pub round_quiet : (now : ℕ) (r : Record) → IsQuiet r.session (round_turned now r)
round_quiet now r = by_slot (slice_get r.session.board.round (from_place now r))
  where
    by_wait : (wait : Option ℕ) → IsQuiet r.session (record { after = begun_at now r.session r; gives = waits_until wait })
    by_wait None = record { same = refl; silent = λ text is. cc }
    by_wait (Some tick) = record { same = refl; silent = λ text is. cc }

    by_slot : (o : Option LiveSlot) → IsQuiet r.session (round_asked now (wait_from now r) r (from_place now r) o)
    by_slot None = by_wait (wait_from now r)
    by_slot (Some v) =
        cond_rule (IsQuiet r.session) (is_due now r.session v && nat_le GREATEST_NUMBER (length r.session.board.lines)) _ _
        (λ t. record { same = refl; silent = λ text is. cc }) (λ t. record { same = refl; silent = λ text is. cc })

-- a question, or that nothing comes of the round
abbrev pub IsWaiting : Gives → Type 0
IsWaiting (Send text) = ⊥
IsWaiting (Asks q) = Unit {0}
IsWaiting Idle = Unit {0}
IsWaiting (NotDue at) = Unit {0}
IsWaiting Spent = Unit {0}
IsWaiting (Superseded e) = ⊥
IsWaiting Unbound = ⊥
IsWaiting (Ended code) = ⊥

pub round_waits : (now : ℕ) (r : Record) → IsWaiting (round_turned now r).gives
round_waits now r = by_slot (slice_get r.session.board.round (from_place now r))
  where
    by_wait : (wait : Option ℕ) → IsWaiting (waits_until wait)
    by_wait None = tt
    by_wait (Some tick) = tt

    by_slot : (o : Option LiveSlot) → IsWaiting (round_asked now (wait_from now r) r (from_place now r) o).gives
    by_slot None = by_wait (wait_from now r)
    by_slot (Some v) =
        cond_rule (λ (t : Turned). IsWaiting t.gives) (is_due now r.session v && nat_le GREATEST_NUMBER (length r.session.board.lines)) _ _
        (λ t. tt) (λ t. tt)

-- what is to be given next, by what the session is
pub next_ending : (s : Session) (code : ℕ) → s.life ≡ Ending code → next_of (spoken_of s) ≡ GivesEnd code
next_ending s code is = ap (next_living (spoken_of s)) is

pub next_closed : (s : Session) (code : ℕ) → s.life ≡ Closed code → next_of (spoken_of s) ≡ GivesNothing
next_closed s code is = ap (next_living (spoken_of s)) is

pub next_owed : (s : Session) (text : List ℕ) (owed : List (List ℕ)) → s.life ≡ Alive → s.owed ≡ text ∷ owed
    → next_of (spoken_of s) ≡ GivesOwed text
next_owed s text owed alive is = ap (next_living (spoken_of s)) alive ∙ ap (next_owing (spoken_of s)) is

pub next_loop : (s : Session) → s.life ≡ Alive → s.owed ≡ [] → is_to_loop s.streams ≡ true → next_of (spoken_of s) ≡ GivesLoop
next_loop s alive none over =
    ap (next_living (spoken_of s)) alive ∙ ap (next_owing (spoken_of s)) none
    ∙ ap (λ (b : Bool). cond b GivesLoop (cond (nat_lt s.sent (length (spoken_of s).texts)) (GivesLine (text_in (spoken_of s).texts (s.sent + 1)))
    GivesNothing)) over

unsent_by : (s : Session) → nat_lt s.sent (length (spoken_of s).texts) ≡ is_unsent s
unsent_by s = ap (nat_lt s.sent) (length_texts s.board.lines)

unowed : (s : Session) (b : Bool) → s.life ≡ Alive → s.owed ≡ [] → is_to_loop s.streams ≡ false → is_unsent s ≡ b
    → next_of (spoken_of s) ≡ cond b (GivesLine (text_in (spoken_of s).texts (s.sent + 1))) GivesNothing
unowed s b alive none stays is =
    ap (next_living (spoken_of s)) alive ∙ ap (next_owing (spoken_of s)) none
    ∙ ap (λ (b : Bool). cond b GivesLoop (cond (nat_lt s.sent (length (spoken_of s).texts)) (GivesLine (text_in (spoken_of s).texts (s.sent + 1)))
    GivesNothing)) stays
    ∙ ap (λ (b : Bool). cond b (GivesLine (text_in (spoken_of s).texts (s.sent + 1))) GivesNothing) (unsent_by s ∙ is)

pub next_line : (s : Session) → s.life ≡ Alive → s.owed ≡ [] → is_to_loop s.streams ≡ false → is_unsent s ≡ true
    → next_of (spoken_of s) ≡ GivesLine (text_in (spoken_of s).texts (s.sent + 1))
next_line s alive none stays unsent = unowed s true alive none stays unsent

pub next_nothing : (s : Session) → s.life ≡ Alive → s.owed ≡ [] → is_to_loop s.streams ≡ false → is_unsent s ≡ false
    → next_of (spoken_of s) ≡ GivesNothing
next_nothing s alive none stays sent = unowed s false alive none stays sent

-- where a turn gives a line, it is the one that is to be given next, and the session is as after it
pub record GivesNext (now : ℕ) (s : Session) (sent : List ℕ) (t : Session) : Type 0 where
  pub text : text_of_next (next_of (spoken_of s)) ≡ Some sent
  pub spoken : spoken_of t ≡ giving now (next_of (spoken_of s)) (spoken_of s)

gives_next : (now : ℕ) (s t : Session) (n : Next) (text : List ℕ) → next_of (spoken_of s) ≡ n → text_of_next n ≡ Some text
    → spoken_of t ≡ giving now n (spoken_of s) → GivesNext now s text t
gives_next now s t n text is said after =
    record { text = ap text_of_next is ∙ said; spoken = after ∙ ap (λ (m : Next). giving now m (spoken_of s)) (sym is) }

-- as is said of a turn that gives this one
sent_next : (now : ℕ) (s t : Session) (n : Next) (given text : List ℕ) → Send given ≡ Send text → next_of (spoken_of s) ≡ n → text_of_next n ≡ Some given
    → spoken_of t ≡ giving now n (spoken_of s) → GivesNext now s text t
sent_next now s t n given text is next said after =
    let same : given ≡ text = cc in gives_next now s t n text next (said ∙ ap (λ (x : List ℕ). Some x) same) after

pub turn_sends : (now epoch : ℕ) (r : Record) (text : List ℕ) → (turned now epoch r).gives ≡ Send text
    → GivesNext now r.session text (turned now epoch r).after.session
turn_sends now epoch r = turned_rule (λ (t : Turned). (text : List ℕ) → t.gives ≡ Send text → GivesNext now r.session text t.after.session) now epoch r (record {
  superseded = λ newer text is. absurd (let k : Superseded (length r.session.streams) ≡ Send text = is in cc);
  unbound = λ own none text is. absurd (unbound_silent r.session.life text is);
  owes = λ given owed own bound alive owes text is.
      sent_next now r.session (on_stream (with_text given) (record r.session { owed = owed })) (GivesOwed given) given text is
      (next_owed r.session given owed alive owes) refl (owed_after given owed owes);
  loops = λ own bound alive none over text is.
      sent_next now r.session (unbound_at now r.session) GivesLoop loop_text text is (next_loop r.session alive none over) refl refl;
  next = λ own bound alive none stays unsent text is.
      sent_next now r.session (given_next r.session) (GivesLine (text_in (spoken_of r.session).texts (r.session.sent + 1)))
      (text_at r.session.board.lines (r.session.sent + 1)) text is (next_line r.session alive none stays unsent)
      (ap (λ (t : List ℕ). Some t) (sym (text_is r.session.board.lines (r.session.sent + 1)))) (spoken_next r.session unsent);
  round = λ own bound alive none stays sent text is. absurd ((round_quiet now r).silent text is);
  ending = λ code own bound ends text is.
      sent_next now r.session (on_stream (with_text (end_text code)) (record r.session { life = Closed code })) (GivesEnd code) (end_text code) text is
      (next_ending r.session code ends) refl refl;
  over = λ code own bound closed text is. absurd (let k : Ended code ≡ Send text = is in cc);
})
  where
    unbound_silent : (life : Life) (text : List ℕ) → gives_unbound life ≡ Send text → ⊥
    unbound_silent Alive text is = cc
    unbound_silent (Ending code) text is = cc
    unbound_silent (Closed code) text is = cc

    owed_after : (given : List ℕ) (owed : List (List ℕ)) → r.session.owed ≡ given ∷ owed
        → spoken_of (on_stream (with_text given) (record r.session { owed = owed })) ≡ giving now (GivesOwed given) (spoken_of r.session)
    owed_after given owed is =
        ap (λ (os : List (List ℕ)). spoken_of (on_stream (with_text given) (record r.session { owed = os })))
        (sym (ap without_first is))
