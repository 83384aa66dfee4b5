-- A session whose asked slot has more events enqueued: what is kept of it stands for that record too.
use Rattle.std.proofs.Common.{◌≡◌, ◌≤◌, ℕ, zero, suc, ◌+◌, Bool, Option, None, Some, List, [], ◌∷◌, map, take, true, false, refl, sym, ◌∙◌, ap, arith, cond, ◌||◌}
use Rattle.std.proofs.Common.{slice_get, option_map, min, nat_lt}
use Rattle.std.specs.Option.{option_map_or}
use Rattle.std.proofs.lemmas.Bool.{lt-ltb, ltb-true}
use Rattle.ls_value.specs.Each.{Each}
use Rattle.ls_event.specs.Cuts.{is_behind}
use Rattle.ls_event.specs.Slots.{Slot}
use Rattle.ls_turns.specs.Round.{Round}
use Rattle.ls_record.specs.Apart.{Apart}
use Rattle.ls_record.specs.Acting.{subscriptions}
use Rattle.ls_record.specs.Lines.{Line}
use Rattle.ls_record.specs.Records.{LiveSlot, change, is_at, is_of, is_used, live_at, is_due}
use Rattle.ls_stream.proofs.Moving.{lines_round}
use Rattle.ls_turns.specs.declared.slot_ref.SlotRef.{SlotRef}
use Rattle.ls_subs.specs.declared.plan.PlanItem.{PlanItem}
use Rattle.ls_subs.specs.declared.subs.Subs.{Subs}
use Rattle.ls_subs.specs.Kept.{kept_at}
use Rattle.ls_subs.specs.Standing.{ref_of, StandsKeptAt, StandsSubs}
use Rattle.ls_subs.proofs.Rounds.{first, subscriptions_cons}
use Rattle.ls_session.specs.Front.{IsFront, IsHeld, least_by, tick_of}
use Rattle.ls_session.specs.Record.{Record, Question, question_of}
use Rattle.ls_session.specs.Session.{StandsSession, asked_of}
use Rattle.ls_session.specs.declared.asking.Front.{Front}
use Rattle.ls_session.specs.declared.session.Session.{Session as Kept}
use Rattle.ls_taking.specs.Taking.{reached, caught_up}

-- the element of a place after a change there
pub get_changed : {A : Type 0} (f : A → A) (n : ℕ) (xs : List A) → slice_get (change n f xs) n ≡ option_map f (slice_get xs n)
get_changed f n [] = refl
get_changed f zero (x ∷ xs) = refl
get_changed f (suc n) (x ∷ xs) = get_changed f n xs

-- slots keep their names
pub named_reached : (n m : ℕ) (vs : List LiveSlot) → map ref_of (change m (reached n) vs) ≡ map ref_of vs
named_reached n m [] = refl
named_reached n zero (v ∷ vs) = refl
named_reached n (suc m) (v ∷ vs) = ap (λ (xs : List SlotRef). ref_of v ∷ xs) (named_reached n m vs)

each_reached : (P : LiveSlot → Type 0) (n m : ℕ) (vs : List LiveSlot) → ((x : LiveSlot) → P x → P (reached n x)) → Each P vs
    → Each P (change m (reached n) vs)
each_reached P n m [] f e = tt
each_reached P n zero (u ∷ vs) f e = (f u e.0, e.1)
each_reached P n (suc m) (u ∷ vs) f e = (e.0, each_reached P n m vs f e.1)

apart_reached : (n m : ℕ) (vs : List LiveSlot) → Apart vs → Apart (change m (reached n) vs)
apart_reached n m [] a = tt
apart_reached n zero (u ∷ vs) a = a
apart_reached n (suc m) (u ∷ vs) a = (each_reached (λ x. is_at u.sub u.rank x ≡ false) n m vs (λ x h. h) a.0, apart_reached n m vs a.1)

kept_reached : (n : ℕ) (o : Option PlanItem) (lines : List Line) (v : LiveSlot) → StandsKeptAt o lines (Some v)
    → StandsKeptAt o lines (Some (reached n v))
kept_reached n None lines v s = absurd s
kept_reached n (Some p) lines v s =
    record {
      sub = s.sub;
      rank = s.rank;
      item = s.item;
      number = s.number;
      mode = s.mode;
      allowed = s.allowed;
      frequency = s.frequency;
      narrow = s.narrow;
      client = record {
        places = s.client.places;
        keys = s.client.keys;
        row = s.client.row;
        wide = s.client.wide;
        has_started = s.client.has_started;
        table = s.client.table;
      };
    }

at_reached : (n m : ℕ) (vs : List LiveSlot) (sub rank : ℕ) (o : Option PlanItem) (lines : List Line)
    → StandsKeptAt o lines (live_at sub rank vs) → StandsKeptAt o lines (live_at sub rank (change m (reached n) vs))
at_reached n m [] sub rank o lines s = s
at_reached n zero (u ∷ vs) sub rank o lines s = by_test (is_at sub rank u) s
  where
    by_test : (b : Bool) → StandsKeptAt o lines (cond b (Some u) (live_at sub rank vs))
        → StandsKeptAt o lines (cond b (Some (reached n u)) (live_at sub rank vs))
    by_test true s = kept_reached n o lines u s
    by_test false s = s
at_reached n (suc m) (u ∷ vs) sub rank o lines s = by_test (is_at sub rank u) s (at_reached n m vs sub rank o lines)
  where
    by_test : (b : Bool) → StandsKeptAt o lines (cond b (Some u) (live_at sub rank vs))
        → (StandsKeptAt o lines (live_at sub rank vs) → StandsKeptAt o lines (live_at sub rank (change m (reached n) vs)))
        → StandsKeptAt o lines (cond b (Some u) (live_at sub rank (change m (reached n) vs)))
    by_test true s rest = s
    by_test false s rest = rest s

used_reached : (n m : ℕ) (vs : List LiveSlot) (sub : ℕ) → is_used sub (change m (reached n) vs) ≡ is_used sub vs
used_reached n m [] sub = refl
used_reached n zero (u ∷ vs) sub = refl
used_reached n (suc m) (u ∷ vs) sub = ap (λ b. is_of sub u || b) (used_reached n m vs sub)

count_reached : (n m : ℕ) (vs : List LiveSlot) → subscriptions (change m (reached n) vs) ≡ subscriptions vs
count_reached n m [] = refl
count_reached n zero (u ∷ vs) = subscriptions_cons (reached n u) vs ∙ sym (subscriptions_cons u vs)
count_reached n (suc m) (u ∷ vs) =
    subscriptions_cons u (change m (reached n) vs) ∙ ap (λ x. first u + x) (count_reached n m vs) ∙ sym (subscriptions_cons u vs)

subs_reached : (k : Subs) (lines : List Line) (n m : ℕ) (vs : List LiveSlot) → StandsSubs k lines vs
    → StandsSubs k lines (change m (reached n) vs)
subs_reached k lines n m vs s =
    record {
      apart = apart_reached n m vs s.apart;
      at = λ sub rank. at_reached n m vs sub rank (kept_at k sub rank) lines (s.at sub rank);
      used = λ sub. s.used sub ∙ sym (used_reached n m vs sub);
      count = s.count ∙ sym (count_reached n m vs);
    }

-- the question is the same
abbrev question_at : Record → LiveSlot → Question
question_at r v = record { live = v; due = is_due r.tick r.session v }

same_question : (r : Record) (n : ℕ) (asks : Bool) (o : Option LiveSlot)
    → (option_map (asked_of r.tick r.session) (cond asks (option_map (question_at r) o) None)
    ≡ option_map (asked_of r.tick r.session) (cond asks (option_map (question_at r) (option_map (reached n) o)) None))
    × ((q : Question) → cond asks (option_map (question_at r) (option_map (reached n) o)) None ≡ Some q → q.due ≡ true
    → (p : Question) × ((cond asks (option_map (question_at r) o) None ≡ Some p) × (p.due ≡ true)))
same_question r n false o = (refl, λ q e f. absurd (let x : None ≡ Some q = e in cc))
same_question r n true None = (refl, λ q e f. absurd (let x : None ≡ Some q = e in cc))
same_question r n true (Some v) = (
  refl,
  λ q e f.
      let x : Some (question_at r (reached n v)) ≡ Some q = e in
      let same : question_at r (reached n v) ≡ q = cc in
      (question_at r v, (refl, ap (λ (y : Question). y.due) same ∙ f)),
)

-- of the first elements one may change
each_changed : {A : Type 0} (P : A → Type 0) (g : A → A) (xs : List A) (k m : ℕ) → ((x : A) → slice_get xs k ≡ Some x → P x → P (g x))
    → Each P (take m xs) → Each P (take m (change k g xs))
each_changed P g [] k m step e = e
each_changed P g (x ∷ xs) k zero step e = tt
each_changed P g (x ∷ xs) zero (suc m) step e = (step x refl e.0, e.1)
each_changed P g (x ∷ xs) (suc k) (suc m) step e = (e.0, each_changed P g xs k m step e.1)

-- a slot that is behind what was enqueued is so with more events
behind_longer : (s : Slot) (n : ℕ) → s.last ≤ n → is_behind s ≡ true → is_behind (record s { last = n }) ≡ true
behind_longer s n low is = by_owed (nat_lt 0 s.owed) is
  where
    by_ends : (b : Bool) → (b || nat_lt s.cursor s.last) ≡ true → (b || nat_lt s.cursor n) ≡ true
    by_ends true e = refl
    by_ends false e = lt-ltb s.cursor n (omega (arith, ltb-true s.cursor s.last e, low))

    by_owed : (b : Bool) → ((b || s.ends) || nat_lt s.cursor s.last) ≡ true → ((b || s.ends) || nat_lt s.cursor n) ≡ true
    by_owed true e = refl
    by_owed false e = by_ends s.ends e

least_reached : (lines : List Line) (n : ℕ) (w : Option ℕ) (vs : List LiveSlot) (k m : ℕ)
    → least_by (tick_of lines) w (take m (change k (reached n) vs)) ≡ least_by (tick_of lines) w (take m vs)
least_reached lines n w [] k m = refl
least_reached lines n w (v ∷ vs) k zero = refl
least_reached lines n w (v ∷ vs) zero (suc m) = refl
least_reached lines n w (v ∷ vs) (suc k) (suc m) =
    least_reached lines n (Some (option_map_or (min (tick_of lines v)) w (tick_of lines v))) vs k m

-- so the first slots that are known to wait stay known
front_reached : (turns : Round) (f : Front) (lines : List Line) (vs : List LiveSlot) (k n : ℕ)
    → ((v : LiveSlot) → slice_get vs k ≡ Some v → v.slot.last ≤ n) → IsFront turns f lines vs → IsFront turns f lines (change k (reached n) vs)
front_reached turns f lines vs k n low st =
    record {
      last = st.last;
      node = st.node;
      held = each_changed IsHeld (reached n) vs k (st.last + 1)
          (λ v e h. record { mode = h.mode; behind = behind_longer v.slot n (low v e) h.behind }) st.held;
      least = least_reached lines n None vs k (st.last + 1) ∙ st.least;
    }

-- a session stands for the record whose asked slot has every event
pub session_caught : (k : Kept) (r : Record) (n : ℕ) → ((v : LiveSlot) → slice_get r.session.board.round r.asked ≡ Some v → v.slot.last ≤ n)
    → StandsSession k r → StandsSession k (caught_up n r)
session_caught k r n low st =
    let vs : List LiveSlot = r.session.board.round in
    let same = same_question r n r.asks (slice_get vs r.asked) in
    let after : question_of (caught_up n r)
    ≡ cond r.asks (option_map (question_at r) (option_map (reached n) (slice_get vs r.asked))) None =
    ap (λ o. cond r.asks (option_map (question_at r) o) None) (get_changed (reached n) r.asked vs) in
    record {
      number = st.number;
      lines = lines_round k.lines r.session (change r.asked (reached n) vs) st.lines;
      round = record {
        slots = st.round.slots ∙ sym (named_reached n r.asked vs);
        tick = st.round.tick;
        above = st.round.above;
        most = st.round.most;
        next = st.round.next;
        asks = st.round.asks;
        question = st.round.question ∙ same.0 ∙ ap (option_map (asked_of r.tick r.session)) (sym after);
        wait = st.round.wait;
        left = λ q e f. let p = same.1 q (sym after ∙ e) f in st.round.left p.0 p.1.0 p.1.1;
      };
      subs = subs_reached k.subs r.session.board.lines n r.asked vs st.subs;
      rate = st.rate;
      front = λ f e. front_reached k.asking.turns f r.session.board.lines vs r.asked n low (st.front f e);
    }
