-- The round is asked on, whatever lines wait to be given.
use Rattle.std.proofs.Common.{◌≡◌, ℕ, List, length, refl, sym, ◌∙◌, ap, arith, subst, true, false, ◌&&◌}
use Rattle.std.proofs.Common.{Option, Some, None, slice_get, nat_le}
use Rattle.std.proofs.lemmas.Bool.{leb-false}
use Rattle.ls_value.specs.Each.{Each}
use Rattle.ls_value.specs.declared.limits.TheConstants.{GREATEST_NUMBER}
use Rattle.ls_event.specs.declared.item.ItemDef.{ItemDef}
use Rattle.ls_record.proofs.Rules.{cond_rule}
use Rattle.ls_record.specs.Records.{LiveSlot, Session, Life, Alive, Ending, Closed, is_alive, is_due}
use Rattle.ls_register.specs.declared.told.Told.{Told}
use Rattle.ls_session.specs.declared.session.Session.{Session as Kept}
use Rattle.ls_session.specs.declared.session.Ask.{Ask}
use Rattle.ls_session.specs.declared.session.Turn.{Turn}
use Rattle.ls_session.specs.declared.session.Turn.TheVariants as turn
use Rattle.ls_session.specs.Record.{Record, Turned, Question, Gives, Send, Asks, Idle, NotDue, Spent, Superseded, Unbound, Ended}
use Rattle.ls_session.specs.Record.{round_turned, round_asked, wait_from, from_place}
use Rattle.ls_session.specs.Session.{StandsSession, AnswersTurn, ask_in}
use Rattle.ls_told.specs.Spoken.{Spoken}
use Rattle.ls_told.specs.Heard.{counts_as}
use Rattle.ls_told.specs.Keeping.{KeepsTold}
use Rattle.ls_told.specs.Requests.{is_spent}
use Rattle.ls_told.specs.Seen.{Watched}
use Rattle.ls_taking.specs.Groups.{SubSeen}
use Rattle.ls_taking.specs.Lives.{LivesAs, HasSeat}
use Rattle.ls_parts.specs.Giving.{AsksSlot, AsksNone}

-- the session stays, with its number and its floor
record Unmoved (r : Record) (t : Turned) : Type 0 where
  number : t.after.number ≡ r.number
  session : t.after.session ≡ r.session
  floor : t.after.floor ≡ r.floor

round_unmoved : (now : ℕ) (r : Record) → Unmoved r (round_turned now r)
round_unmoved now r = by_slot (slice_get r.session.board.round (from_place now r))
  where
    by_slot : (o : Option LiveSlot) → Unmoved r (round_asked now (wait_from now r) r (from_place now r) o)
    by_slot None = record { number = refl; session = refl; floor = refl }
    by_slot (Some v) =
        cond_rule (Unmoved r) (is_due now r.session v && nat_le GREATEST_NUMBER (length r.session.board.lines)) _ _
        (λ t. record { number = refl; session = refl; floor = refl }) (λ t. record { number = refl; session = refl; floor = refl })

-- which question was asked
pub asks_that : (g : Gives) (t : Turn) (k : Kept) (ask : Ask) → AnswersTurn g t k → t ≡ turn.Ask ask
    → (q : Question) × (g ≡ Asks q) × (ask ≡ ask_in q)
asks_that (Send text) t k ask a is = absurd (let x : turn.Send ≡ turn.Ask ask = sym a.0 ∙ is in cc)
asks_that (Asks q) t k ask a is = (q, refl, (let x : turn.Ask ask ≡ turn.Ask (ask_in q) = sym is ∙ a in cc))
asks_that Idle t k ask a is = absurd (let x : turn.Idle ≡ turn.Ask ask = sym a ∙ is in cc)
asks_that (NotDue at) t k ask a is = absurd (let x : turn.NotDue at ≡ turn.Ask ask = sym a ∙ is in cc)
asks_that Spent t k ask a is = absurd (let x : turn.Spent ≡ turn.Ask ask = sym a ∙ is in cc)
asks_that (Superseded e) t k ask a is = absurd (let x : turn.Superseded e ≡ turn.Ask ask = sym a ∙ is in cc)
asks_that Unbound t k ask a is = absurd (let x : turn.Unbound ≡ turn.Ask ask = sym a ∙ is in cc)
asks_that (Ended code) t k ask a is = absurd (let x : turn.Ended code ≡ turn.Ask ask = sym a ∙ is in cc)

lives_yet : (life : Life) → is_alive life ≡ true → life ≡ Alive
lives_yet Alive is = refl
lives_yet (Ending code) is = absurd (let x : false ≡ true = is in cc)
lives_yet (Closed code) is = absurd (let x : false ≡ true = is in cc)

module _ (config : List ItemDef) (number now tick : ℕ) (es : List Told) (ws : List Watched) (subs : List SubSeen) (k k2 : Kept) (r : Record)
    (t : Turn) (l : LivesAs config number es ws subs k r) (at : tick ≡ counts_as now es) (answers : AnswersTurn (round_turned tick r).gives t k2)
    (stands : StandsSession k2 (round_turned tick r).after) where
  lives_asked : LivesAs config number es ws subs k2 (round_turned tick r).after
  lives_asked =
      let u = round_unmoved tick r in
      record {
        stands = stands;
        number_is = u.number ∙ l.number_is;
        floor = omega (arith, u.floor, l.floor);
        latest = l.latest;
        told = subst (KeepsTold config number es ws) (sym u.session) l.told;
        seated = subst (λ (s : Session). Each (HasSeat config ws subs) s.board.round) (sym u.session) l.seated;
        fits = l.fits;
      }

  -- a slot is asked
  pub asks_slot : (ask : Ask) → t ≡ turn.Ask ask → is_spent es ≡ false → is_alive r.session.life ≡ true
      → AsksSlot config number now es ws subs k2 r ask
  asks_slot ask is left alive =
      let that = asks_that (round_turned tick r).gives t k2 ask answers is in
      record {
        q = that.0;
        gives = subst (λ (n : ℕ). (round_turned n r).gives ≡ Asks that.0) at that.1;
        ask_is = that.2;
        lives = subst (λ (n : ℕ). LivesAs config number es ws subs k2 (round_turned n r).after) at lives_asked;
        alive = ap (λ (p : Spoken). p.life) (sym l.told.told) ∙ lives_yet r.session.life alive;
        room = leb-false GREATEST_NUMBER (length es) left;
      }

  -- none is
  pub asks_none : ((ask : Ask) → t ≡ turn.Ask ask → ⊥) → AsksNone config number now es ws subs k2 r
  asks_none other =
      record {
        lives = subst (λ (n : ℕ). LivesAs config number es ws subs k2 (round_turned n r).after) at lives_asked;
        none = λ q is.
            let here : (round_turned tick r).gives ≡ Asks q = subst (λ (n : ℕ). (round_turned n r).gives ≡ Asks q) (sym at) is in
            other (ask_in q) (subst (λ (g : Gives). AnswersTurn g t k2) here answers);
      }
