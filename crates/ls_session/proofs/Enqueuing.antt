-- A slot that takes an event keeps its name, and when it is due.
use Rattle.std.proofs.Common.{◌≡◌, ℕ, Bool, Option, None, Some, List, [], ◌∷◌, length, map, true, false, refl, sym, ◌∙◌, ap, cond, nat_lt}
use Rattle.std.proofs.Common.{slice_get, option_map}
use Rattle.std.proofs.lemmas.Option.{slice_get-map}
use Rattle.ls_event.specs.Slots.{enqueued}
use Rattle.ls_turns.specs.declared.slot_ref.SlotRef.{SlotRef}
use Rattle.ls_record.specs.Records.{Item, LiveSlot, history_of, is_at, is_due, enqueue_at, enqueued_in, on_board}
use Rattle.ls_subs.specs.Standing.{ref_of}
use Rattle.ls_subs.proofs.Enqueues.{enqueue_stands}
use Rattle.ls_session.specs.Record.{Record, Question, question_of}
use Rattle.ls_session.proofs.Fronts.{front_enqueued}
use Rattle.ls_session.specs.Session.{StandsSession, asked_of}
use Rattle.ls_session.specs.declared.session.Session.{Session as Kept}
use Rattle.ls_stream.proofs.Moving.{lines_round}

named_alike : (items : List Item) (sub rank : ℕ) (v : LiveSlot) → ref_of (enqueue_at items sub rank v) ≡ ref_of v
named_alike items sub rank v = by_test (is_at sub rank v) (nat_lt v.slot.last (length (history_of items v.item)))
  where
    by_test : (t u : Bool) → ref_of (cond t (cond u (record v { slot = enqueued v.slot }) v) v) ≡ ref_of v
    by_test true true = refl
    by_test true false = refl
    by_test false u = refl

pub named_enqueued : (items : List Item) (sub rank : ℕ) (vs : List LiveSlot) → map ref_of (map (enqueue_at items sub rank) vs) ≡ map ref_of vs
named_enqueued items sub rank [] = refl
named_enqueued items sub rank (v ∷ vs) =
    ap (λ (s : SlotRef). s ∷ map ref_of (map (enqueue_at items sub rank) vs)) (named_alike items sub rank v)
    ∙ ap (λ xs. ref_of v ∷ xs) (named_enqueued items sub rank vs)

-- the question of a slot is the same
abbrev question_at : Record → LiveSlot → Question
question_at r v = record { live = v; due = is_due r.tick r.session v }

asked_alike : (r : Record) (items : List Item) (sub rank : ℕ) (v : LiveSlot)
    → (asked_of r.tick r.session (question_at r (enqueue_at items sub rank v)) ≡ asked_of r.tick r.session (question_at r v))
    × ((question_at r (enqueue_at items sub rank v)).due ≡ (question_at r v).due)
asked_alike r items sub rank v = by_test (is_at sub rank v) (nat_lt v.slot.last (length (history_of items v.item)))
  where
    by_test : (t u : Bool)
        → (asked_of r.tick r.session (question_at r (cond t (cond u (record v { slot = enqueued v.slot }) v) v)) ≡ asked_of r.tick r.session (question_at r v))
        × ((question_at r (cond t (cond u (record v { slot = enqueued v.slot }) v) v)).due ≡ (question_at r v).due)
    by_test true true = (refl, refl)
    by_test true false = (refl, refl)
    by_test false u = (refl, refl)

abbrev moved : Record → List Item → ℕ → ℕ → Record
moved r items sub rank = record r { session = on_board (enqueued_in items sub rank) r.session }

moved_at : (r : Record) (items : List Item) (sub rank : ℕ) (asks : Bool) (o : Option LiveSlot)
    → (option_map (asked_of r.tick r.session) (cond asks (option_map (question_at r) o) None)
    ≡ option_map (asked_of r.tick r.session) (cond asks (option_map (question_at r) (option_map (enqueue_at items sub rank) o)) None))
    × ((q : Question) → cond asks (option_map (question_at r) (option_map (enqueue_at items sub rank) o)) None ≡ Some q → q.due ≡ true
    → (p : Question) × ((cond asks (option_map (question_at r) o) None ≡ Some p) × (p.due ≡ true)))
moved_at r items sub rank false o = (refl, λ q e f. absurd (let x : None ≡ Some q = e in cc))
moved_at r items sub rank true None = (refl, λ q e f. absurd (let x : None ≡ Some q = e in cc))
moved_at r items sub rank true (Some v) = (
  ap Some (sym (asked_alike r items sub rank v).0),
  λ q e f.
      let x : Some (question_at r (enqueue_at items sub rank v)) ≡ Some q = e in
      let same : question_at r (enqueue_at items sub rank v) ≡ q = cc in
      (question_at r v, (refl, sym (asked_alike r items sub rank v).1 ∙ ap (λ (y : Question). y.due) same ∙ f)),
)

-- a session stands for the record in which a slot took an event
pub session_enqueued : (k : Kept) (r : Record) (items : List Item) (sub rank : ℕ) → StandsSession k r
    → StandsSession k (record r { session = on_board (enqueued_in items sub rank) r.session })
session_enqueued k r items sub rank st =
    let at : slice_get (map (enqueue_at items sub rank) r.session.board.round) r.asked
    ≡ option_map (enqueue_at items sub rank) (slice_get r.session.board.round r.asked) =
    slice_get-map (enqueue_at items sub rank) r.session.board.round r.asked in
    let same = moved_at r items sub rank r.asks (slice_get r.session.board.round r.asked) in
    let after : question_of (moved r items sub rank)
    ≡ cond r.asks (option_map (question_at r) (option_map (enqueue_at items sub rank) (slice_get r.session.board.round r.asked))) None =
    ap (λ o. cond r.asks (option_map (question_at r) o) None) at in
    record {
      number = st.number;
      lines = lines_round k.lines r.session (map (enqueue_at items sub rank) r.session.board.round) st.lines;
      round = record {
        slots = st.round.slots ∙ sym (named_enqueued items sub rank r.session.board.round);
        tick = st.round.tick;
        above = st.round.above;
        most = st.round.most;
        next = st.round.next;
        asks = st.round.asks;
        question = st.round.question ∙ same.0 ∙ ap (option_map (asked_of r.tick r.session)) (sym after);
        wait = st.round.wait;
        left = λ q e f. let p = same.1 q (sym after ∙ e) f in st.round.left p.0 p.1.0 p.1.1;
      };
      subs = enqueue_stands items sub rank k.subs r.session.board.lines r.session.board.round st.subs;
      rate = st.rate;
      front = λ f e. front_enqueued k.asking.turns f r.session.board.lines items sub rank r.session.board.round (st.front f e);
    }
