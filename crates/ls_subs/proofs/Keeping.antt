-- What is kept stands for the round as subscriptions come and go.
use Rattle.std.proofs.Common.{◌≡◌, ◌==◌, ℕ, zero, suc, ◌+◌, ◌≤◌, List, [], ◌∷◌, ◌++◌, length, refl, sym, ◌∙◌, ap, arith, subst, cond, Bool, true, false}
use Rattle.std.proofs.Common.{◌||◌, Option, Some, None, is_some, if◌then◌else◌, option_map, slice_get, Result, Ok, Err, IsOk, IfOk, OnOk, OnErr, IsSome}
use Rattle.std.specs.Prelude.{option_and_then}
use Rattle.std.proofs.lemmas.Bool.{eqb-true, eq-eqb, ne_eqb}
use Rattle.ls_mirror.specs.declared.command.KeyPlaces.{KeyPlaces}
use Rattle.ls_record.specs.Came.{Came}
use Rattle.ls_budget.specs.Kept.{StandsFrequency}
use Rattle.ls_record.specs.Lines.{Line, Begins, Ends, Configures, Answers, MessageOutcome, came, updated}
use Rattle.ls_record.specs.Records.{LiveSlot, is_at, is_used, live_at, without}
use Rattle.ls_record.specs.Acting.{subscriptions}
use Rattle.ls_subs.specs.declared.plan.PlanItem.{PlanItem}
use Rattle.ls_subs.specs.declared.subs.Subs.{Subs}
use Rattle.ls_subs.specs.Kept.{items_of, item_at, kept_at, has_sub, count_of, with_slots, AreAlike}
use Rattle.ls_subs.specs.Plans.{AreRanked, IsReady, JoinAll}
use Rattle.ls_subs.specs.Subscription.{StandsSubscribed}
use Rattle.ls_subs.specs.Standing.{StandsKeptAt, StandsSubs}
use Rattle.ls_subs.proofs.Rounds.{eqb_self, and_false_right, found_is, none_at, unused_none, used_rank, without_gone, without_other, without_used}
use Rattle.ls_subs.proofs.Rounds.{apart_without, without_none, without_one, behind_none, before_none, used_append, apart_append, subscriptions_append}
use Rattle.ls_subs.proofs.Rounds.{AreSlots, slots_below, slots_unused, slots_apart, slots_one, unused_apart, both_true}

-- what is kept of each subscription, where one was changed
abbrev pub Changed : Subs → Subs → ℕ → Option (List PlanItem) → Type 0
Changed k k' sub o = (q : ℕ) → items_of k' q ≡ cond (sub == q) o (items_of k q)

pub map_cond : {A B : Type 0} (f : A → B) (b : Bool) (o p : Option A) → option_map f (cond b o p) ≡ cond b (option_map f o) (option_map f p)
map_cond f true o p = refl
map_cond f false o p = refl

pub is_some_map : {A B : Type 0} (f : A → B) (o : Option A) → is_some (option_map f o) ≡ is_some o
is_some_map f None = refl
is_some_map f (Some x) = refl

pub is_some_of : {A : Type 0} (o : Option A) (x : A) → Some x ≡ o → IsSome o
is_some_of None x e = absurd (let y : Some x ≡ None = e in cc)
is_some_of (Some y) x e = refl

-- what an insert that succeeds does
pub on_ok : {A E : Type 0} (r : Result A E) (P : Type 0) → IsOk r → OnOk r P → P
on_ok (Ok x) P ok p = p
on_ok (Err e) P ok p = absurd (let x : false ≡ true = ok in cc)

pub ok_then : {A E : Type 0} (r : Result A E) (P Q : Type 0) → (P → Q) → OnOk r P → OnOk r Q
ok_then (Ok x) P Q f p = f p
ok_then (Err e) P Q f p = p

pub ok_both : {A E : Type 0} (r : Result A E) (P : A → Type 0) (Q : Type 0) (R : A → Type 0) → ((x : A) → P x → Q → R x) → IfOk r P → OnOk r Q → IfOk r R
ok_both (Ok x) P Q R f p q = f x p q
ok_both (Err e) P Q R f p q = p

pub either : {A E : Type 0} (r : Result A E) (P Q R : Type 0) → (P → R) → (Q → R) → OnOk r P → OnErr r Q → R
either (Ok x) P Q R f g p q = f p
either (Err e) P Q R f g p q = g q

pub err_then : {A E : Type 0} (r : Result A E) (P Q : Type 0) → (P → Q) → OnErr r P → OnErr r Q
err_then (Ok x) P Q f p = p
err_then (Err e) P Q f p = f p

pub inserted_count : {A E : Type 0} (r : Result (Option A) E) (o : Option A) (m n : ℕ) → IsOk r → IfOk r (λ old. old ≡ o)
    → IfOk r (λ old. n ≡ m + (if is_some old then 0 else 1)) → is_some o ≡ false → n ≡ m + 1
inserted_count (Ok x) o m n ok was more none = more ∙ ap (λ b. m + cond b 0 1) (ap is_some was ∙ none)
inserted_count (Err e) o m n ok was more none = absurd (let x : false ≡ true = ok in cc)

-- of others nothing is
pub changed_other : (k k' : Subs) (sub q : ℕ) (o : Option (List PlanItem)) → Changed k k' sub o → (sub == q) ≡ false → items_of k' q ≡ items_of k q
changed_other k k' sub q o changed other = changed q ∙ ap (λ b. cond b o (items_of k q)) other

pub changed_here : (k k' : Subs) (sub q : ℕ) (o : Option (List PlanItem)) → Changed k k' sub o → (sub == q) ≡ true → items_of k' q ≡ o
changed_here k k' sub q o changed same = changed q ∙ ap (λ b. cond b o (items_of k q)) same

-- other lines bring a slot as much, and its last update is at the same tick
abbrev pub BringAlike : List Line → List Line → LiveSlot → Type 0
BringAlike lines lines' v = (came v.sub v.rank lines' ≡ came v.sub v.rank lines) × (updated v.sub v.rank lines' ≡ updated v.sub v.rank lines)

-- an item stands for its slot by them
pub stands_lines : (o : Option PlanItem) (lines lines' : List Line) (w : Option LiveSlot)
    → ((v : LiveSlot) → w ≡ Some v → BringAlike lines lines' v) → StandsKeptAt o lines w → StandsKeptAt o lines' w
stands_lines None lines lines' None same s = tt
stands_lines None lines lines' (Some v) same s = s
stands_lines (Some p) lines lines' None same s = s
stands_lines (Some p) lines lines' (Some v) same s =
    record {
      sub = s.sub;
      rank = s.rank;
      item = s.item;
      number = s.number;
      mode = s.mode;
      allowed = s.allowed;
      frequency = subst (λ (o : Option ℕ). StandsFrequency p.frequency v.frequency o) (sym (same v refl).1) s.frequency;
      narrow = s.narrow;
      client = subst (λ (cs : List Came). StandsSubscribed p.followed v.wanted v.slot cs) (sym (same v refl).0) s.client;
    }

-- whether there is a slot
pub stands_some : (o : Option PlanItem) (lines : List Line) (w : Option LiveSlot) → StandsKeptAt o lines w → is_some o ≡ is_some w
stands_some None lines None s = refl
stands_some None lines (Some v) s = absurd s
stands_some (Some p) lines None s = absurd s
stands_some (Some p) lines (Some v) s = refl

-- what is kept of others that are alike
pub alike_stands : (k k' : Subs) → AreAlike k k' → (lines : List Line) (round : List LiveSlot) → StandsSubs k lines round → StandsSubs k' lines round
alike_stands k k' alike lines round s =
    record {
      apart = s.apart;
      at = λ q rank. subst (λ (o : Option (List PlanItem)). StandsKeptAt (option_and_then (λ items. item_at items rank) o) lines (live_at q rank round))
          (sym (alike.0 q)) (s.at q rank);
      used = λ q. ap is_some (alike.0 q) ∙ s.used q;
      count = alike.1 ∙ s.count;
    }

-- what became of a client's message is of no subscription
pub answered_stands : (k : Subs) (outcome : MessageOutcome) (lines : List Line) (round : List LiveSlot) → StandsSubs k lines round
    → StandsSubs k (Answers outcome ∷ lines) round
answered_stands k outcome lines round s =
    record {
      apart = s.apart;
      at = λ q rank. stands_lines (kept_at k q rank) lines (Answers outcome ∷ lines) (live_at q rank round) (λ v is. (refl, refl)) (s.at q rank);
      used = s.used;
      count = s.count;
    }

-- a live subscription has a first item
first_item : (k : Subs) (sub rank : ℕ) (o : Option (List PlanItem)) → is_some (option_and_then (λ items. item_at items rank) o) ≡ true
    → is_some (option_and_then (λ items. item_at items 1) o) ≡ true
first_item k sub rank None h = h
first_item k sub zero (Some items) h = absurd (let x : false ≡ true = h in cc)
first_item k sub (suc n) (Some []) h = absurd (let x : false ≡ true = h in cc)
first_item k sub (suc n) (Some (p ∷ items)) h = refl

some_value : {A : Type 0} (o : Option A) → is_some o ≡ true → (x : A) × (o ≡ Some x)
some_value None h = absurd (let x : false ≡ true = h in cc)
some_value (Some x) h = (x, refl)

pub first_slot : (k : Subs) (lines : List Line) (round : List LiveSlot) (sub : ℕ) → StandsSubs k lines round → is_used sub round ≡ true
    → (v : LiveSlot) × (live_at sub 1 round ≡ Some v)
first_slot k lines round sub s used =
    let some = used_rank sub round used in
    let kept : is_some (kept_at k sub some.0) ≡ true = stands_some (kept_at k sub some.0) lines (live_at sub some.0 round) (s.at sub some.0)
    ∙ ap is_some some.1.1 in
    let first : is_some (kept_at k sub 1) ≡ true = first_item k sub some.0 (items_of k sub) kept in
    some_value (live_at sub 1 round) (sym (stands_some (kept_at k sub 1) lines (live_at sub 1 round) (s.at sub 1)) ∙ first)

-- lines with which another subscription begins or ends
others_alike : (sub : ℕ) (lines : List Line) (v : LiveSlot) → (sub == v.sub) ≡ false
    → (cond (sub == v.sub) [] (came v.sub v.rank lines) ≡ came v.sub v.rank lines)
    × (cond (sub == v.sub) None (updated v.sub v.rank lines) ≡ updated v.sub v.rank lines)
others_alike sub lines v other =
    (ap (λ b. cond b [] (came v.sub v.rank lines)) other, ap (λ b. cond b None (updated v.sub v.rank lines)) other)

-- a subscription is removed
removed_at : (k k' : Subs) (sub : ℕ) (lines : List Line) (round : List LiveSlot) → Changed k k' sub None → StandsSubs k lines round → (q rank : ℕ)
    → StandsKeptAt (kept_at k' q rank) (Ends sub ∷ lines) (live_at q rank (without sub round))
removed_at k k' sub lines round changed s q rank = by_test (sub == q) refl
  where
    by_test : (b : Bool) → (sub == q) ≡ b → StandsKeptAt (kept_at k' q rank) (Ends sub ∷ lines) (live_at q rank (without sub round))
    by_test true same =
        subst (λ (o : Option PlanItem). StandsKeptAt o (Ends sub ∷ lines) (live_at q rank (without sub round)))
        (sym (ap (option_and_then (λ items. item_at items rank)) (changed_here k k' sub q None changed same)))
        (subst (λ (w : Option LiveSlot). StandsKeptAt None (Ends sub ∷ lines) w) (sym (without_gone sub q rank round same)) tt)
    by_test false other =
        subst (λ (o : Option PlanItem). StandsKeptAt o (Ends sub ∷ lines) (live_at q rank (without sub round)))
        (sym (ap (option_and_then (λ items. item_at items rank)) (changed_other k k' sub q None changed other)))
        (subst (λ (w : Option LiveSlot). StandsKeptAt (kept_at k q rank) (Ends sub ∷ lines) w) (sym (without_other sub q rank round other))
        (stands_lines (kept_at k q rank) lines (Ends sub ∷ lines) (live_at q rank round)
        (λ v e. others_alike sub lines v (subst (λ n. (sub == n) ≡ false) (found_is q rank round v e).0 other)) (s.at q rank)))

removed_count : (k k' : Subs) (sub : ℕ) (lines : List Line) (round : List LiveSlot) → count_of k' + (if has_sub k sub then 1 else 0) ≡ count_of k
    → StandsSubs k lines round → (b : Bool) → is_used sub round ≡ b → count_of k' ≡ subscriptions (without sub round)
removed_count k k' sub lines round count s true used =
    let first = first_slot k lines round sub s used in
    let one = without_one sub round first.0 s.apart first.1 in
    let less : count_of k' + 1 ≡ count_of k = subst (λ b. count_of k' + cond b 1 0 ≡ count_of k) (s.used sub ∙ used) count in
    omega (arith, one, less, s.count)
removed_count k k' sub lines round count s false used =
    let none = without_none sub round (none_at sub 1 round (unused_none sub 1 round used)) in
    let less : count_of k' + 0 ≡ count_of k = subst (λ b. count_of k' + cond b 1 0 ≡ count_of k) (s.used sub ∙ used) count in
    omega (arith, none, less, s.count)

pub removed_stands : (k k' : Subs) (sub : ℕ) → Changed k k' sub None → count_of k' + (if has_sub k sub then 1 else 0) ≡ count_of k
    → (lines : List Line) (round : List LiveSlot) → StandsSubs k lines round → StandsSubs k' (Ends sub ∷ lines) (without sub round)
removed_stands k k' sub changed count lines round s =
    record {
      apart = apart_without sub round s.apart;
      at = removed_at k k' sub lines round changed s;
      used = λ q. ap is_some (changed q) ∙ is_some_cond (sub == q) (items_of k q) ∙ ap (cond (sub == q) false) (s.used q) ∙ sym (without_used sub q round);
      count = removed_count k k' sub lines round count s (is_used sub round) refl;
    }
  where
    is_some_cond : (b : Bool) (o : Option (List PlanItem)) → is_some (cond b None o) ≡ cond b false (is_some o)
    is_some_cond true o = refl
    is_some_cond false o = refl

-- a subscription begins: its slots are those of its items
joined_slots : (sub rank : ℕ) (items : List PlanItem) (slots : List ℕ) (vs : List LiveSlot) → AreRanked sub rank items → JoinAll items slots vs
    → AreSlots sub rank vs
joined_slots sub rank [] [] [] ranked join = tt
joined_slots sub rank [] [] (v ∷ vs) ranked join = absurd join
joined_slots sub rank [] (n ∷ slots) vs ranked join = absurd join
joined_slots sub rank (p ∷ items) [] vs ranked join = absurd join
joined_slots sub rank (p ∷ items) (n ∷ slots) [] ranked join = absurd join
joined_slots sub rank (p ∷ items) (n ∷ slots) (v ∷ vs) ranked join =
    (join.0.sub ∙ ranked.0, join.0.rank ∙ ranked.1, joined_slots sub (rank + 1) items slots vs ranked.2 join.1)

-- lines bring the slots of a subscription nothing yet
abbrev pub BringNothing : ℕ → List Line → Type 0
BringNothing sub lines = (r : ℕ) → (came sub r lines ≡ []) × (updated sub r lines ≡ None)

-- each item stands for its slot by them
joined_at : (sub rank : ℕ) (items : List PlanItem) (slots : List ℕ) (vs : List LiveSlot) (lines : List Line) → AreRanked sub rank items → JoinAll items slots vs
    → BringNothing sub lines → (i : ℕ) → StandsKeptAt (slice_get (with_slots items slots) i) lines (live_at sub (rank + i) vs)
joined_at sub rank [] [] [] lines ranked join nothing i = tt
joined_at sub rank [] [] (v ∷ vs) lines ranked join nothing i = absurd join
joined_at sub rank [] (n ∷ slots) vs lines ranked join nothing i = absurd join
joined_at sub rank (p ∷ items) [] vs lines ranked join nothing i = absurd join
joined_at sub rank (p ∷ items) (n ∷ slots) [] lines ranked join nothing i = absurd join
joined_at sub rank (p ∷ items) (n ∷ slots) (v ∷ vs) lines ranked join nothing zero =
    let same : is_at sub (rank + 0) v ≡ true = both_true (sub == v.sub) (rank + 0 == v.rank) (eq-eqb sub v.sub (sym (join.0.sub ∙ ranked.0)))
    (eq-eqb (rank + 0) v.rank (let is : v.rank ≡ rank = join.0.rank ∙ ranked.1 in omega (arith, is))) in
    subst (λ b. StandsKeptAt (Some (record p { slot = n })) lines (cond b (Some v) (live_at sub (rank + 0) vs))) (sym same)
    (record {
      sub = sym join.0.sub;
      rank = sym join.0.rank;
      item = sym join.0.item;
      number = sym join.0.number;
      mode = join.0.mode;
      allowed = join.0.allowed;
      frequency = subst (λ (o : Option ℕ). StandsFrequency p.frequency v.frequency o)
          (sym (subst (λ m. updated m v.rank lines ≡ None) (sym (join.0.sub ∙ ranked.0)) (nothing v.rank).1)) join.0.frequency;
      narrow = join.0.narrow;
      client = subst (λ (cs : List Came). StandsSubscribed p.followed v.wanted v.slot cs)
          (sym (subst (λ m. came m v.rank lines ≡ []) (sym (join.0.sub ∙ ranked.0)) (nothing v.rank).0)) join.0.client;
    })
joined_at sub rank (p ∷ items) (n ∷ slots) (v ∷ vs) lines ranked join nothing (suc i) =
    let is : v.rank ≡ rank = join.0.rank ∙ ranked.1 in
    let other : is_at sub (rank + suc i) v ≡ false = and_false_right (sub == v.sub) (rank + suc i == v.rank)
    (ne_eqb (rank + suc i) v.rank (λ e. absurd (omega (arith, e, is)))) in
    let next : rank + 1 + i ≡ rank + suc i = omega arith in
    subst (λ b. StandsKeptAt (slice_get (with_slots items slots) i) lines (cond b (Some v) (live_at sub (rank + suc i) vs))) (sym other)
    (subst (λ r. StandsKeptAt (slice_get (with_slots items slots) i) lines (live_at sub r vs)) next
    (joined_at sub (rank + 1) items slots vs lines ranked.2 join.1 nothing i))

-- the first is of rank 1
joined_place : (sub : ℕ) (items : List PlanItem) (slots : List ℕ) (vs : List LiveSlot) (lines : List Line) → AreRanked sub 1 items → JoinAll items slots vs
    → BringNothing sub lines → (rank : ℕ) → StandsKeptAt (item_at (with_slots items slots) rank) lines (live_at sub rank vs)
joined_place sub items slots vs lines ranked join nothing zero =
    subst (λ (w : Option LiveSlot). StandsKeptAt None lines w)
    (sym (slots_below sub sub 0 1 vs (joined_slots sub 1 items slots vs ranked join) (omega arith))) tt
joined_place sub items slots vs lines ranked join nothing (suc i) =
    let next : 1 + i ≡ suc i = omega arith in
    subst (λ r. StandsKeptAt (slice_get (with_slots items slots) i) lines (live_at sub r vs)) next
    (joined_at sub 1 items slots vs lines ranked join nothing i)

-- a subscription that isn't live has no slot
unused_here : (k : Subs) (sub q : ℕ) (lines : List Line) (round : List LiveSlot) → StandsSubs k lines round → has_sub k sub ≡ false → (sub == q) ≡ true
    → is_used q round ≡ false
unused_here k sub q lines round s new same = subst (λ n. is_used n round ≡ false) (eqb-true sub q same) (sym (s.used sub) ∙ new)

finished_at : (k k' : Subs) (sub : ℕ) (items : List PlanItem) (slots : List ℕ) (lines : List Line) (round vs : List LiveSlot) (filtered : Bool)
    (most fields : ℕ) (keys : Option KeyPlaces) (frequency : Option ℕ) → Changed k k' sub (Some (with_slots items slots)) → has_sub k sub ≡ false
    → AreRanked sub 1 items → StandsSubs k lines round → JoinAll items slots vs
    → (q rank : ℕ) → StandsKeptAt (kept_at k' q rank) (Configures sub frequency filtered ∷ Begins sub most fields keys ∷ lines) (live_at q rank (round ++ vs))
finished_at k k' sub items slots lines round vs filtered most fields keys frequency changed new ranked s join q rank = by_test (sub == q) refl
  where
    all : List Line
    all = Configures sub frequency filtered ∷ Begins sub most fields keys ∷ lines

    by_test : (b : Bool) → (sub == q) ≡ b → StandsKeptAt (kept_at k' q rank) all (live_at q rank (round ++ vs))
    by_test true same =
        let here : q ≡ sub = sym (eqb-true sub q same) in
        subst (λ (o : Option PlanItem). StandsKeptAt o all (live_at q rank (round ++ vs)))
        (sym (ap (option_and_then (λ xs. item_at xs rank)) (changed_here k k' sub q (Some (with_slots items slots)) changed same)))
        (subst (λ (w : Option LiveSlot). StandsKeptAt (item_at (with_slots items slots) rank) all w)
        (sym (behind_none q rank round vs (unused_none q rank round (unused_here k sub q lines round s new same))))
        (subst (λ n. StandsKeptAt (item_at (with_slots items slots) rank) all (live_at n rank vs)) (sym here)
        (joined_place sub items slots vs all ranked join
        (λ r. (ap (λ b. cond b [] (came sub r lines)) (eqb_self sub), ap (λ b. cond b None (updated sub r lines)) (eqb_self sub))) rank)))
    by_test false other =
        subst (λ (o : Option PlanItem). StandsKeptAt o all (live_at q rank (round ++ vs)))
        (sym (ap (option_and_then (λ xs. item_at xs rank)) (changed_other k k' sub q (Some (with_slots items slots)) changed other)))
        (subst (λ (w : Option LiveSlot). StandsKeptAt (kept_at k q rank) all w)
        (sym (before_none q rank round vs (unused_none q rank vs (slots_unused sub q 1 vs (joined_slots sub 1 items slots vs ranked join) other))))
        (stands_lines (kept_at k q rank) lines all (live_at q rank round)
        (λ v e. others_alike sub lines v (subst (λ n. (sub == n) ≡ false) (found_is q rank round v e).0 other)) (s.at q rank)))

finished_used : (sub q : ℕ) (items : List PlanItem) (slots : List ℕ) (round vs : List LiveSlot) (o : Option (List PlanItem)) → 1 ≤ length items
    → AreRanked sub 1 items → JoinAll items slots vs → is_some o ≡ is_used q round → (b : Bool) → (sub == q) ≡ b
    → is_some (cond b (Some (with_slots items slots)) o) ≡ is_used q (round ++ vs)
finished_used sub q items slots round vs o some ranked join is true same =
    sym (used_append q round vs ∙ ap (λ b. is_used q round || b) (used_first items slots vs some ranked join) ∙ or_true (is_used q round))
  where
    or_true : (b : Bool) → (b || true) ≡ true
    or_true true = refl
    or_true false = refl

    used_first : (items : List PlanItem) (slots : List ℕ) (vs : List LiveSlot) → 1 ≤ length items → AreRanked sub 1 items → JoinAll items slots vs
        → is_used q vs ≡ true
    used_first [] slots vs l r j = absurd (omega (arith, l))
    used_first (p ∷ items) [] vs l r j = absurd j
    used_first (p ∷ items) (n ∷ slots) [] l r j = absurd j
    used_first (p ∷ items) (n ∷ slots) (v ∷ vs) l r j =
        ap (λ b. b || is_used q vs) (eq-eqb q v.sub (sym (eqb-true sub q same) ∙ sym (j.0.sub ∙ r.0)))
finished_used sub q items slots round vs o some ranked join is false other =
    is ∙ sym (used_append q round vs ∙ ap (λ b. is_used q round || b) (slots_unused sub q 1 vs (joined_slots sub 1 items slots vs ranked join) other)
    ∙ or_none (is_used q round))
  where
    or_none : (b : Bool) → (b || false) ≡ b
    or_none true = refl
    or_none false = refl

joined_one : (sub : ℕ) (items : List PlanItem) (slots : List ℕ) (vs : List LiveSlot) → 1 ≤ length items → AreRanked sub 1 items → JoinAll items slots vs
    → subscriptions vs ≡ 1
joined_one sub [] slots vs some ranked join = absurd (omega (arith, some))
joined_one sub (p ∷ items) [] vs some ranked join = absurd join
joined_one sub (p ∷ items) (n ∷ slots) [] some ranked join = absurd join
joined_one sub (p ∷ items) (n ∷ slots) (v ∷ vs) some ranked join = slots_one sub v vs (joined_slots sub 1 (p ∷ items) (n ∷ slots) (v ∷ vs) ranked join)

pub finished_stands : (k k' : Subs) (sub : ℕ) (items : List PlanItem) (slots : List ℕ) → Changed k k' sub (Some (with_slots items slots))
    → count_of k' ≡ count_of k + 1 → has_sub k sub ≡ false → IsReady sub items
    → (lines : List Line) (round vs : List LiveSlot) (filtered : Bool) (most fields : ℕ) (keys : Option KeyPlaces) (frequency : Option ℕ) → StandsSubs k lines round
    → JoinAll items slots vs → StandsSubs k' (Configures sub frequency filtered ∷ Begins sub most fields keys ∷ lines) (round ++ vs)
finished_stands k k' sub items slots changed count new ready lines round vs filtered most fields keys frequency s join =
    let slots_are : AreSlots sub 1 vs = joined_slots sub 1 items slots vs ready.ranked join in
    record {
      apart = apart_append round vs s.apart (slots_apart sub 1 vs slots_are)
          (unused_apart sub 1 round vs (sym (s.used sub) ∙ new) slots_are);
      at = finished_at k k' sub items slots lines round vs filtered most fields keys frequency changed new ready.ranked s join;
      used = λ q. ap is_some (changed q) ∙ finished_used sub q items slots round vs (items_of k q) ready.some ready.ranked join (s.used q) (sub == q) refl;
      count = (let one = joined_one sub items slots vs ready.some ready.ranked join in
          let all = subscriptions_append round vs in omega (arith, one, all, count, s.count));
    }
