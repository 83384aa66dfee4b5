-- What is kept stands for the round and the lines after a cut was accepted.
use Rattle.std.proofs.Common.{◌≡◌, ◌==◌, ◌≤◌, ℕ, zero, suc, List, [], ◌∷◌, refl, sym, ◌∙◌, ap, arith, subst, cond, Bool, true, false, ◌&&◌, Option, Some, None}
use Rattle.std.proofs.Common.{is_some, option_map, slice_get}
use Rattle.std.specs.Prelude.{option_and_then}
use Rattle.std.proofs.lemmas.Bool.{eqb-true}
use Rattle.std.proofs.lemmas.Bool.Decides.{nat_tests}
use Rattle.std.proofs.Math.Dec.{eqb-zero-suc, eqb-suc-zero}
use Rattle.ls_budget.specs.Kept.{StandsFrequency}
use Rattle.ls_value.specs.declared.limits.TheConstants.{GREATEST_TICK}
use Rattle.ls_event.specs.declared.event.Taken.{Taken}
use Rattle.ls_mirror.specs.Client.{What}
use Rattle.ls_record.specs.Came.{Came, came_by}
use Rattle.ls_record.specs.Lines.{Line, came, last_row, is_update, updated}
use Rattle.ls_record.specs.Records.{LiveSlot, change, is_at, live_at}
use Rattle.ls_subs.specs.declared.plan.PlanItem.{PlanItem}
use Rattle.ls_subs.specs.declared.subs.Subs.{Subs}
use Rattle.ls_turns.specs.declared.slot_ref.SlotRef.{SlotRef}
use Rattle.ls_subs.specs.Kept.{items_of, item_at, kept_at, has_sub, count_of, heard, heard_at, spent_by, line_of, AreAlike}
use Rattle.ls_subs.specs.Subscription.{StandsSubscribed, what_comes, after_what, after_line, line_if, item_line, Appended, Appends}
use Rattle.ls_subs.specs.declared.cut_line.CutLine.TheVariants as tells
use Rattle.ls_subs.specs.Standing.{ref_of, StandsKept, StandsKeptAt, StandsSubs, Suits, AskedSlot, IsAsked, what_of, passed_live, passed_at, passed_back}
use Rattle.ls_subs.specs.Standing.{told_of, AcceptedAs}
use Rattle.ls_subs.proofs.Subscriptions.{comes_is, plan_stays, allowed_stays, stands_silent, stands_line}
use Rattle.ls_subs.proofs.Rounds.{eqb_self, eqb_swap, and_true, found_is}
use Rattle.ls_subs.proofs.Moves.{Moved, found_live, moved_at, moved_back}
use Rattle.ls_subs.proofs.Keeping.{is_some_map, BringAlike, stands_lines}
use Rattle.ls_subs.proofs.Frequencies.{spent_stands}

-- an item of a subscription took a cut
pub record Heard (k k' : Subs) (sub place now : ℕ) (t : Taken) : Type 0 where
  pub items : (q : ℕ) → items_of k' q ≡ cond (sub == q) (option_map (heard_at place now t) (items_of k q)) (items_of k q)
  pub count : count_of k' ≡ count_of k

eqb_suc : (n m : ℕ) → (suc n == suc m) ≡ (n == m)
eqb_suc n m = grind (arith, nat_tests)

change_here : {A : Type 0} (n : ℕ) (f : A → A) (xs : List A) → slice_get (change n f xs) n ≡ option_map f (slice_get xs n)
change_here n f [] = refl
change_here zero f (x ∷ xs) = refl
change_here (suc n) f (x ∷ xs) = change_here n f xs

change_there : {A : Type 0} (n m : ℕ) (f : A → A) (xs : List A) → (n == m) ≡ false → slice_get (change n f xs) m ≡ slice_get xs m
change_there n m f [] other = refl
change_there zero zero f (x ∷ xs) other = absurd (let y : true ≡ false = other in cc)
change_there zero (suc m) f (x ∷ xs) other = refl
change_there (suc n) zero f (x ∷ xs) other = refl
change_there (suc n) (suc m) f (x ∷ xs) other = change_there n m f xs (sym (eqb_suc n m) ∙ other)

item_heard : (place rank now : ℕ) (t : Taken) (items : List PlanItem) → item_at (heard_at place now t items) rank
    ≡ cond (place == rank) (option_map (heard now t) (item_at items rank)) (item_at items rank)
item_heard zero zero now t items = refl
item_heard zero (suc m) now t items = sym (ap (λ b. cond b (option_map (heard now t) (slice_get items m)) (slice_get items m)) (eqb-zero-suc m))
item_heard (suc n) zero now t items = sym (ap (λ b. cond b None None) (eqb-suc-zero n))
item_heard (suc n) (suc m) now t items = by_test (n == m) refl
    ∙ sym (ap (λ b. cond b (option_map (heard now t) (slice_get items m)) (slice_get items m)) (eqb_suc n m))
  where
    by_test : (b : Bool) → (n == m) ≡ b → slice_get (change n (heard now t) items) m ≡ cond b (option_map (heard now t) (slice_get items m)) (slice_get items m)
    by_test true same = subst (λ j. slice_get (change n (heard now t) items) j ≡ option_map (heard now t) (slice_get items j)) (eqb-true n m same)
        (change_here n (heard now t) items)
    by_test false other = change_there n m (heard now t) items other

by_none : (c : Bool) → let none : Option PlanItem = None in none ≡ cond c none none
by_none true = refl
by_none false = refl

-- what is kept at each place
kept_heard : (k k' : Subs) (sub place now : ℕ) (t : Taken) → Heard k k' sub place now t → (q rank : ℕ) → kept_at k' q rank
    ≡ cond ((sub == q) && (place == rank)) (option_map (heard now t) (kept_at k q rank)) (kept_at k q rank)
kept_heard k k' sub place now t h q rank = ap (option_and_then (λ items. item_at items rank)) (h.items q) ∙ by_test (sub == q) (items_of k q)
  where
    by_test : (b : Bool) (o : Option (List PlanItem)) → option_and_then (λ items. item_at items rank) (cond b (option_map (heard_at place now t) o) o)
        ≡ cond (b && (place == rank)) (option_map (heard now t) (option_and_then (λ items. item_at items rank) o))
        (option_and_then (λ items. item_at items rank) o)
    by_test true None = by_none (place == rank)
    by_test true (Some items) = item_heard place rank now t items
    by_test false o = refl

pub heard_some : (k k' : Subs) (sub place now : ℕ) (t : Taken) → Heard k k' sub place now t → (q rank : ℕ)
    → is_some (kept_at k' q rank) ≡ is_some (kept_at k q rank)
heard_some k k' sub place now t h q rank = ap is_some (kept_heard k k' sub place now t h q rank) ∙ by_test ((sub == q) && (place == rank)) (kept_at k q rank)
  where
    by_test : (b : Bool) (o : Option PlanItem) → is_some (cond b (option_map (heard now t) o) o) ≡ is_some o
    by_test true o = is_some_map (heard now t) o
    by_test false o = refl

heard_has : (k k' : Subs) (sub place now : ℕ) (t : Taken) → Heard k k' sub place now t → (q : ℕ) → has_sub k' q ≡ has_sub k q
heard_has k k' sub place now t h q = ap is_some (h.items q) ∙ by_test (sub == q) (items_of k q)
  where
    by_test : (b : Bool) (o : Option (List PlanItem)) → is_some (cond b (option_map (heard_at place now t) o) o) ≡ is_some o
    by_test true o = is_some_map (heard_at place now t) o
    by_test false o = refl

is_at_same : (q rank : ℕ) (v : LiveSlot) → ((v.sub == q) && (v.rank == rank)) ≡ is_at q rank v
is_at_same q rank v = ap (λ b. b && (v.rank == rank)) (eqb_swap v.sub q) ∙ ap (λ b. (q == v.sub) && b) (eqb_swap v.rank rank)

-- it stands for the round in which its slot was moved, by lines that bring others what they had
moved_stands : (k k' : Subs) (lines lines' : List Line) (round round' : List LiveSlot) (v w : LiveSlot) (now : ℕ) (t : Taken) (p : PlanItem)
    → Heard k k' v.sub v.rank now t → Moved round round' v w → StandsSubs k lines round → kept_at k v.sub v.rank ≡ Some p → StandsKept (heard now t p) lines' w
    → ((u : LiveSlot) → is_at u.sub u.rank v ≡ false → BringAlike lines lines' u) → StandsSubs k' lines' round'
moved_stands k k' lines lines' round round' v w now t p h moved s is stands others =
    record {
      apart = moved.apart;
      at = λ q rank.
          subst (λ (o : Option PlanItem). StandsKeptAt o lines' (live_at q rank round')) (sym (kept_heard k k' v.sub v.rank now t h q rank))
          (subst (λ (x : Option LiveSlot). StandsKeptAt
          (cond ((v.sub == q) && (v.rank == rank)) (option_map (heard now t) (kept_at k q rank)) (kept_at k q rank)) lines' x)
          (sym (moved.at q rank))
          (subst (λ b. StandsKeptAt (cond b (option_map (heard now t) (kept_at k q rank)) (kept_at k q rank)) lines'
          (cond (is_at q rank v) (Some w) (live_at q rank round))) (sym (is_at_same q rank v))
          (by_test q rank (is_at q rank v) refl)));
      used = λ q. heard_has k k' v.sub v.rank now t h q ∙ s.used q ∙ sym (moved.used q);
      count = h.count ∙ s.count ∙ sym moved.count;
    }
  where
    by_test : (q rank : ℕ) (b : Bool) → is_at q rank v ≡ b
        → StandsKeptAt (cond b (option_map (heard now t) (kept_at k q rank)) (kept_at k q rank)) lines' (cond b (Some w) (live_at q rank round))
    by_test q rank true here =
        let both = and_true (q == v.sub) (rank == v.rank) here in
        let kept : kept_at k q rank ≡ Some p = ap (λ n. kept_at k n rank) (eqb-true q v.sub both.0) ∙ ap (kept_at k v.sub) (eqb-true rank v.rank both.1) ∙ is in
        subst (λ (o : Option PlanItem). StandsKeptAt (option_map (heard now t) o) lines' (Some w)) (sym kept) stands
    by_test q rank false other =
        stands_lines (kept_at k q rank) lines lines' (live_at q rank round)
        (λ u e. let is_u = found_is q rank round u e in
        others u (subst (λ n. is_at n u.rank v ≡ false) is_u.0 (subst (λ n. is_at q n v ≡ false) is_u.1 other))) (s.at q rank)

-- what is kept of the slot of a place of the round
kept_of : (k : Subs) (lines : List Line) (round : List LiveSlot) (place : ℕ) (v : LiveSlot) → StandsSubs k lines round → slice_get round place ≡ Some v
    → (p : PlanItem) × ((kept_at k v.sub v.rank ≡ Some p) × StandsKept p lines v)
kept_of k lines round place v s found = by_kept (kept_at k v.sub v.rank) refl
    (subst (λ (x : Option LiveSlot). StandsKeptAt (kept_at k v.sub v.rank) lines x) (found_live place round v s.apart found) (s.at v.sub v.rank))
  where
    by_kept : (o : Option PlanItem) → kept_at k v.sub v.rank ≡ o → StandsKeptAt o lines (Some v)
        → (p : PlanItem) × ((kept_at k v.sub v.rank ≡ Some p) × StandsKept p lines v)
    by_kept None is st = absurd st
    by_kept (Some p) is st = (p, (is, st))

-- and of the one of a name
pub kept_of_ref : (k : Subs) (lines : List Line) (round : List LiveSlot) (place : ℕ) (v : LiveSlot) (slot : SlotRef) → StandsSubs k lines round
    → slice_get round place ≡ Some v → ref_of v ≡ slot → (p : PlanItem) × ((kept_at k slot.sub slot.place ≡ Some p) × StandsKept p lines v)
kept_of_ref k lines round place v slot s found named =
    subst (λ (r : SlotRef). (p : PlanItem) × ((kept_at k r.sub r.place ≡ Some p) × StandsKept p lines v)) named (kept_of k lines round place v s found)

silent_accepted : (k k' : Subs) (q : AskedSlot) (t : Taken) (a : Appended) (p : PlanItem) → Heard k k' q.live.sub q.live.rank q.now t → IsAsked q
    → Suits q.live.slot.plan.mode t → StandsSubs k q.lines q.round → kept_at k q.live.sub q.live.rank ≡ Some p → StandsKept p q.lines q.live
    → Appends a (line_if p.followed (what_comes p.followed t)) → what_of q.lines q.live t ≡ None → AcceptedAs None k' q t a
silent_accepted k k' q t a p h found suits s is st line none =
    let comes : what_comes p.followed t ≡ None =
    comes_is p.followed q.live.wanted q.live.slot (came q.live.sub q.live.rank q.lines) t suits st.client ∙ none in (
      subst (λ o. Appends a (line_if p.followed o)) comes line,
      moved_stands k k' q.lines q.lines q.round (passed_at q.place t q.round) q.live (passed_live t q.live) q.now t p h
          (moved_at t q.place q.round q.live s.apart found) s is
          (subst (λ (o : Option What). StandsKept (record p {
            frequency = spent_by q.now o p.frequency;
            followed = after_line p.followed o;
          }) q.lines (passed_live t q.live)) (sym comes)
          (record {
            sub = st.sub;
            rank = st.rank;
            item = st.item;
            number = st.number;
            mode = st.mode ∙ ap (λ p. p.mode) (sym (plan_stays q.live.slot t));
            allowed = allowed_stays q.live.slot t st.allowed;
            frequency = st.frequency;
            narrow = st.narrow;
            client = stands_silent p.followed q.live.wanted q.live.slot (came q.live.sub q.live.rank q.lines) t suits st.client none;
          })) (λ u other. (refl, refl)),
    )

told_accepted : (k k' : Subs) (q : AskedSlot) (t : Taken) (a : Appended) (p : PlanItem) (what : What) → q.now ≤ GREATEST_TICK
    → Heard k k' q.live.sub q.live.rank q.now t → IsAsked q → Suits q.live.slot.plan.mode t → StandsSubs k q.lines q.round
    → kept_at k q.live.sub q.live.rank ≡ Some p → StandsKept p q.lines q.live
    → Appends a (line_if p.followed (what_comes p.followed t)) → what_of q.lines q.live t ≡ Some what → AcceptedAs (Some what) k' q t a
told_accepted k k' q t a p what low h found suits s is st line some =
    let v = q.live in
    let cs = came v.sub v.rank q.lines in
    let comes : what_comes p.followed t ≡ Some what = comes_is p.followed v.wanted v.slot cs t suits st.client ∙ some in
    let text : item_line p.followed.row p.followed.sub p.followed.rank what ≡ item_line (last_row cs) v.sub v.rank what =
    ap (λ r. item_line r p.followed.sub p.followed.rank what) st.client.row
    ∙ ap (λ n. item_line (last_row cs) n p.followed.rank what) st.sub ∙ ap (λ n. item_line (last_row cs) v.sub n what) st.rank in
    let here : came v.sub v.rank (told_of v q.now t what q.lines) ≡ came_by v.slot t what ∷ cs =
    ap (λ b. cond (b && (v.rank == v.rank)) (came_by v.slot t what ∷ cs) cs) (eqb_self v.sub)
    ∙ ap (λ b. cond b (came_by v.slot t what ∷ cs) cs) (eqb_self v.rank) in
    let last : Option ℕ = updated v.sub v.rank q.lines in
    let tick : updated v.sub v.rank (told_of v q.now t what q.lines) ≡ cond (is_update what) (Some q.now) last =
    ap (λ b. cond ((b && (v.rank == v.rank)) && is_update what) (Some q.now) last) (eqb_self v.sub)
    ∙ ap (λ b. cond (b && is_update what) (Some q.now) last) (eqb_self v.rank) in (
      subst (λ x. Appends a (Some x)) text (subst (λ o. Appends a (line_if p.followed o)) comes line),
      moved_stands k k' q.lines (told_of v q.now t what q.lines) q.round (passed_back q.place v t q.round) v (passed_live t v) q.now t p h
          (moved_back t q.place q.round v s.apart found) s is
          (subst (λ (o : Option What). StandsKept (record p {
            frequency = spent_by q.now o p.frequency;
            followed = after_line p.followed o;
          }) (told_of v q.now t what q.lines) (passed_live t v)) (sym comes)
          (record {
            sub = st.sub;
            rank = st.rank;
            item = st.item;
            number = st.number;
            mode = st.mode ∙ ap (λ p. p.mode) (sym (plan_stays v.slot t));
            allowed = allowed_stays v.slot t st.allowed;
            frequency = subst (λ (o : Option ℕ). StandsFrequency (spent_by q.now (Some what) p.frequency) v.frequency o) (sym tick)
                (spent_stands p.frequency q.now what v.frequency last low st.frequency);
            narrow = st.narrow;
            client = subst (λ (xs : List Came). StandsSubscribed (after_what p.followed what) v.wanted (passed_live t v).slot xs) (sym here)
                (stands_line p.followed v.wanted v.slot cs t what suits st.client some);
          }))
          (λ u other. (
            ap (λ b. cond b (came_by v.slot t what ∷ came u.sub u.rank q.lines) (came u.sub u.rank q.lines)) (is_at_same u.sub u.rank v ∙ other),
            ap (λ b. cond (b && is_update what) (Some q.now) (updated u.sub u.rank q.lines)) (is_at_same u.sub u.rank v ∙ other),
          )),
    )

-- a cut of an asked slot was accepted
pub accepted : (k k' : Subs) (slot : SlotRef) (now : ℕ) (t : Taken) (a : Appended) → Heard k k' slot.sub slot.place now t
    → Appends a (line_of (kept_at k slot.sub slot.place) t)
    → (q : AskedSlot) → IsAsked q → ref_of q.live ≡ slot → q.now ≡ now → now ≤ GREATEST_TICK → Suits q.live.slot.plan.mode t → StandsSubs k q.lines q.round
    → AcceptedAs (what_of q.lines q.live t) k' q t a
accepted k k' slot now t a h line q found named is_now low suits s =
    let kept = kept_of k q.lines q.round q.place q.live s found in
    let sub : slot.sub ≡ q.live.sub = sym (ap (λ r. r.sub) named) in
    let rank : slot.place ≡ q.live.rank = sym (ap (λ r. r.place) named) in
    let took : Heard k k' q.live.sub q.live.rank q.now t = subst (λ n. Heard k k' n q.live.rank q.now t) sub
    (subst (λ n. Heard k k' slot.sub n q.now t) rank (subst (λ n. Heard k k' slot.sub slot.place n t) (sym is_now) h)) in
    let most : q.now ≤ GREATEST_TICK = subst (λ n. n ≤ GREATEST_TICK) (sym is_now) low in
    let text : Appends a (line_if kept.0.followed (what_comes kept.0.followed t)) = subst (λ (o : Option PlanItem). Appends a (line_of o t)) kept.1.0
    (subst (λ n. Appends a (line_of (kept_at k n q.live.rank) t)) sub (subst (λ n. Appends a (line_of (kept_at k slot.sub n) t)) rank line)) in
    by_what (what_of q.lines q.live t) refl kept most took text
  where
    by_what : (o : Option What) → what_of q.lines q.live t ≡ o
        → (kept : (p : PlanItem) × ((kept_at k q.live.sub q.live.rank ≡ Some p) × StandsKept p q.lines q.live)) → q.now ≤ GREATEST_TICK
        → Heard k k' q.live.sub q.live.rank q.now t → Appends a (line_if kept.0.followed (what_comes kept.0.followed t)) → AcceptedAs o k' q t a
    by_what None is kept low took text = silent_accepted k k' q t a kept.0 took found suits s kept.1.0 kept.1.1 text is
    by_what (Some what) is kept low took text = told_accepted k k' q t a kept.0 what low took found suits s kept.1.0 kept.1.1 text is

-- it takes a cut, by the entries of the map
pub heard_of : (k k' : Subs) (sub place now : ℕ) (t : Taken) (items items' : List PlanItem) → items_of k sub ≡ Some items → items' ≡ heard_at place now t items
    → ((q : ℕ) → items_of k' q ≡ cond (sub == q) (Some items') (items_of k q)) → count_of k' ≡ count_of k → Heard k k' sub place now t
heard_of k k' sub place now t items items' is took changed count = record { items = λ q. changed q ∙ by_test q (sub == q) refl; count = count }
  where
    by_test : (q : ℕ) (b : Bool) → (sub == q) ≡ b
        → cond b (Some items') (items_of k q) ≡ cond b (option_map (heard_at place now t) (items_of k q)) (items_of k q)
    by_test q true same = ap Some took ∙ ap (option_map (heard_at place now t)) (sym is ∙ ap (items_of k) (eqb-true sub q same))
    by_test q false other = refl

-- it has what it had
pub alike_of : (k k' : Subs) (sub : ℕ) (items items' : List PlanItem) → items_of k sub ≡ Some items → items' ≡ items
    → ((q : ℕ) → items_of k' q ≡ cond (sub == q) (Some items') (items_of k q)) → count_of k' ≡ count_of k → AreAlike k k'
alike_of k k' sub items items' is same changed count = (λ q. changed q ∙ by_test q (sub == q) refl, count)
  where
    by_test : (q : ℕ) (b : Bool) → (sub == q) ≡ b → cond b (Some items') (items_of k q) ≡ items_of k q
    by_test q true here = ap Some same ∙ sym is ∙ ap (items_of k) (eqb-true sub q here)
    by_test q false other = refl

-- where no such subscription is live
pub none_heard : (k k' : Subs) (sub place now : ℕ) (t : Taken) → items_of k sub ≡ None → AreAlike k k' → Heard k k' sub place now t
none_heard k k' sub place now t none alike = record { items = λ q. alike.0 q ∙ by_test q (sub == q) refl; count = alike.1 }
  where
    by_test : (q : ℕ) (b : Bool) → (sub == q) ≡ b → items_of k q ≡ cond b (option_map (heard_at place now t) (items_of k q)) (items_of k q)
    by_test q true same =
        let here : items_of k q ≡ None = sym (ap (items_of k) (eqb-true sub q same)) ∙ none in
        here ∙ sym (ap (option_map (heard_at place now t)) here)
    by_test q false other = refl

-- or it has no such place
change_none : {A : Type 0} (n : ℕ) (f : A → A) (xs : List A) → slice_get xs n ≡ None → change n f xs ≡ xs
change_none n f [] e = refl
change_none zero f (x ∷ xs) e = absurd (let y : Some x ≡ None = e in cc)
change_none (suc n) f (x ∷ xs) e = ap (λ ys. x ∷ ys) (change_none n f xs e)

heard_none : (place now : ℕ) (t : Taken) (items : List PlanItem) → item_at items place ≡ None → heard_at place now t items ≡ items
heard_none zero now t items e = refl
heard_none (suc n) now t items e = change_none n (heard now t) items e

pub absent_alike : (k k' : Subs) (sub place now : ℕ) (t : Taken) → Heard k k' sub place now t → kept_at k sub place ≡ None → AreAlike k k'
absent_alike k k' sub place now t h none = (λ q. h.items q ∙ by_test q (sub == q) refl, h.count)
  where
    by_items : (o : Option (List PlanItem)) → option_and_then (λ items. item_at items place) o ≡ None → option_map (heard_at place now t) o ≡ o
    by_items None e = refl
    by_items (Some items) e = ap Some (heard_none place now t items e)

    by_test : (q : ℕ) (b : Bool) → (sub == q) ≡ b → cond b (option_map (heard_at place now t) (items_of k q)) (items_of k q) ≡ items_of k q
    by_test q true same = by_items (items_of k q) (subst (λ n. kept_at k n place ≡ None) (eqb-true sub q same) none)
    by_test q false other = refl

pub alike_some : (k k' : Subs) → AreAlike k k' → (q rank : ℕ) → is_some (kept_at k' q rank) ≡ is_some (kept_at k q rank)
alike_some k k' alike q rank = ap (λ o. is_some (option_and_then (λ items. item_at items rank) o)) (alike.0 q)

-- it makes no line then
pub no_line : (k : Subs) (sub place : ℕ) (t : Taken) (text : List ℕ) → items_of k sub ≡ None
    → Appends (record { told = tells.Nothing; before = text; after = text }) (line_of (kept_at k sub place) t)
no_line k sub place t text none = subst (λ (o : Option (List PlanItem)). Appends (record { told = tells.Nothing; before = text; after = text })
    (line_of (option_and_then (λ items. item_at items place) o) t)) (sym none) (refl, refl)
