-- The turns of keys as the history grows and as keys have their turns.
use Rattle.std.proofs.Common.{◌≡◌, ◌≤◌, ◌<◌, ℕ, ◌+◌, ◌-◌, List, [], ◌∷◌, ◌++◌, length, refl, sym, ◌∙◌, ap, arith, subst, suc, Bool, true, false, not, ◌&&◌}
use Rattle.std.proofs.Common.{◌||◌, cond, if◌then◌else◌, nat_lt, append-nil}
use Rattle.std.proofs.lemmas.List.{append_assoc, length-append}
use Rattle.ls_value.specs.Values.{text_eq}
use Rattle.ls_value.proofs.Rows.{text_eq_true, text_eq_same}
use Rattle.ls_event.specs.declared.event.Event.{Event}
use Rattle.ls_event.specs.declared.event.Event.TheVariants.{Update, Clear}
use Rattle.ls_event.specs.declared.event.Entry.{Entry}
use Rattle.ls_event.specs.Slots.{Slot}
use Rattle.ls_event.specs.Keyed.{key_of}
use Rattle.ls_event.specs.CommandCuts.{has_key, key_cursor, queue_touched, queue_after, queue_from}
use Rattle.ls_event.proofs.Conditions.{below, not_below}
use Rattle.ls_command.specs.Command.{AreDistinct}
use Rattle.ls_command.proofs.Keys.{text_eq-sym, or_false}

-- keys with one more, which goes last where it isn't among them
abbrev pub with_key : List (List ℕ) → List ℕ → List (List ℕ)
with_key ks k = if has_key ks k then ks else ks ++ k ∷ []

-- keys without one
abbrev pub without_key : List ℕ → List (List ℕ) → List (List ℕ)
without_key k [] = []
without_key k (x ∷ xs) = if text_eq x k then without_key k xs else x ∷ without_key k xs

-- each key of some is among others
abbrev pub Among : List (List ℕ) → List (List ℕ) → Type 0
Among some all = (j : List ℕ) → has_key some j ≡ true → has_key all j ≡ true

has_key-append : (xs ys : List (List ℕ)) (j : List ℕ) → has_key (xs ++ ys) j ≡ (has_key xs j || has_key ys j)
has_key-append [] ys j = refl
has_key-append (x ∷ xs) ys j = ap (λ v. text_eq x j || v) (has_key-append xs ys j) ∙ assoc (text_eq x j) (has_key xs j) (has_key ys j)
  where
    assoc : (a b c : Bool) → (a || (b || c)) ≡ ((a || b) || c)
    assoc true b c = refl
    assoc false b c = refl

-- a key is among those with one more where it is that one or was among them
pub has_with : (xs : List (List ℕ)) (k j : List ℕ) → has_key (with_key xs k) j ≡ (text_eq k j || has_key xs j)
has_with xs k j = by_found (has_key xs k) refl
  where
    by_same : (v : Bool) → text_eq k j ≡ v → has_key xs k ≡ true → has_key xs j ≡ (v || has_key xs j)
    by_same true t there = ap (has_key xs) (sym (text_eq_true k j t)) ∙ there
    by_same false t there = refl

    turned : (a b : Bool) → (a || (b || false)) ≡ (b || a)
    turned true true = refl
    turned true false = refl
    turned false true = refl
    turned false false = refl

    by_found : (w : Bool) → has_key xs k ≡ w → has_key (cond w xs (xs ++ k ∷ [])) j ≡ (text_eq k j || has_key xs j)
    by_found true there = by_same (text_eq k j) refl there
    by_found false none = has_key-append xs (k ∷ []) j ∙ turned (has_key xs j) (text_eq k j)

pub with_length : (xs : List (List ℕ)) (k : List ℕ) → length (with_key xs k) ≡ length xs + (if has_key xs k then 0 else 1)
with_length xs k = by_found (has_key xs k)
  where
    by_found : (w : Bool) → length (cond w xs (xs ++ k ∷ [])) ≡ length xs + cond w 0 1
    by_found true = omega arith
    by_found false = length-append xs (k ∷ [])

pub with_distinct : (xs : List (List ℕ)) (k : List ℕ) → AreDistinct xs → AreDistinct (with_key xs k)
with_distinct xs k d = by_found (has_key xs k) refl
  where
    not_last : (xs : List (List ℕ)) (x : List ℕ) → has_key xs x ≡ false → text_eq k x ≡ false → has_key (xs ++ k ∷ []) x ≡ false
    not_last xs x none other = has_key-append xs (k ∷ []) x ∙ ap (λ v. v || (text_eq k x || false)) none ∙ ap (λ v. v || false) other

    added : (xs : List (List ℕ)) → has_key xs k ≡ false → AreDistinct xs → AreDistinct (xs ++ k ∷ [])
    added [] none d = (refl, tt)
    added (x ∷ xs) none d = let o = or_false (text_eq x k) (has_key xs k) none in (not_last xs x d.0 (text_eq-sym k x ∙ o.0), added xs o.1 d.1)

    by_found : (w : Bool) → has_key xs k ≡ w → AreDistinct (cond w xs (xs ++ k ∷ []))
    by_found true there = d
    by_found false none = added xs none d

-- a key that is touched is one more, where its cursor lies before
touched_is : (s : Slot) (q : List (List ℕ)) (n : ℕ) (k : List ℕ) → queue_touched s q n k
    ≡ cond (nat_lt (key_cursor s.key_cursors s.cursor k) n) (with_key q k) q
touched_is s q n k = by_test (nat_lt (key_cursor s.key_cursors s.cursor k) n) (has_key q k)
  where
    by_test : (v w : Bool) → cond (v && not w) (q ++ k ∷ []) q ≡ cond v (cond w q (q ++ k ∷ [])) q
    by_test true true = refl
    by_test true false = refl
    by_test false w = refl

pub touched_before : (s : Slot) (q : List (List ℕ)) (n : ℕ) (k : List ℕ) → key_cursor s.key_cursors s.cursor k < n → queue_touched s q n k ≡ with_key q k
touched_before s q n k low = touched_is s q n k ∙ ap (λ v. cond v (with_key q k) q) (below (key_cursor s.key_cursors s.cursor k) n low)

-- a queue without a repetition goes on so
pub distinct_from : (s : Slot) (q : List (List ℕ)) (n : ℕ) (es : List Entry) → AreDistinct q → AreDistinct (queue_from s q n es)
distinct_from s q n [] d = d
distinct_from s q n (e ∷ es) d = distinct_from s (queue_after s q (n + 1) e.event) (n + 1) es (by_event e.event)
  where
    by_before : (v : Bool) (k : List ℕ) → AreDistinct (cond v (with_key q k) q)
    by_before true k = with_distinct q k d
    by_before false k = d

    by_event : (event : Event) → AreDistinct (queue_after s q (n + 1) event)
    by_event Clear = d
    by_event (Update cells) =
        let k : List ℕ = key_of s.plan.shape cells in
        subst AreDistinct (sym (touched_is s q (n + 1) k)) (by_before (nat_lt (key_cursor s.key_cursors s.cursor k) (n + 1)) k)

-- keys among those of a queue stay so
pub among_from : (s : Slot) (t q : List (List ℕ)) (n : ℕ) (es : List Entry) → Among t q → Among (queue_from s t n es) (queue_from s q n es)
among_from s t q n [] a = a
among_from s t q n (e ∷ es) a = among_from s (queue_after s t (n + 1) e.event) (queue_after s q (n + 1) e.event) (n + 1) es (by_event e.event)
  where
    either : (v x y : Bool) → (x ≡ true → y ≡ true) → (v || x) ≡ true → (v || y) ≡ true
    either true x y f h = refl
    either false x y f h = f h

    by_before : (v : Bool) (k : List ℕ) → Among (cond v (with_key t k) t) (cond v (with_key q k) q)
    by_before true k = λ j h. has_with q k j ∙ either (text_eq k j) (has_key t j) (has_key q j) (a j) (sym (has_with t k j) ∙ h)
    by_before false k = a

    by_event : (event : Event) → Among (queue_after s t (n + 1) event) (queue_after s q (n + 1) event)
    by_event Clear = a
    by_event (Update cells) =
        let k : List ℕ = key_of s.plan.shape cells in
        subst (Among (queue_touched s t (n + 1) k)) (sym (touched_is s q (n + 1) k))
        (subst (λ z. Among z (cond (nat_lt (key_cursor s.key_cursors s.cursor k) (n + 1)) (with_key q k) q)) (sym (touched_is s t (n + 1) k))
        (by_before (nat_lt (key_cursor s.key_cursors s.cursor k) (n + 1)) k))

pub queue_from-append : (s : Slot) (q : List (List ℕ)) (n : ℕ) (xs ys : List Entry)
    → queue_from s q n (xs ++ ys) ≡ queue_from s (queue_from s q n xs) (n + length xs) ys
queue_from-append s q n [] ys = ap (λ k. queue_from s q k ys) {x = n} {y = n + 0} (omega arith)
queue_from-append s q n (x ∷ xs) ys = queue_from-append s (queue_after s q (n + 1) x.event) (n + 1) xs ys
    ∙ ap (λ k. queue_from s (queue_from s q n (x ∷ xs)) k ys) {x = n + 1 + length xs} {y = n + suc (length xs)} (omega arith)

-- a queue begins with what it began with
pub begins : (s : Slot) (q : List (List ℕ)) (n : ℕ) (es : List Entry) → (added : List (List ℕ)) × (queue_from s q n es ≡ q ++ added)
begins s q n [] = ([], sym (append-nil q))
begins s q n (e ∷ es) = join (by_event e.event) (begins s (queue_after s q (n + 1) e.event) (n + 1) es)
  where
    by_test : (v : Bool) (k : List ℕ) → (more : List (List ℕ)) × (cond v (q ++ k ∷ []) q ≡ q ++ more)
    by_test true k = (k ∷ [], refl)
    by_test false k = ([], sym (append-nil q))

    by_event : (event : Event) → (more : List (List ℕ)) × (queue_after s q (n + 1) event ≡ q ++ more)
    by_event Clear = ([], sym (append-nil q))
    by_event (Update cells) = by_test (nat_lt (key_cursor s.key_cursors s.cursor (key_of s.plan.shape cells)) (n + 1)
        && not (has_key q (key_of s.plan.shape cells))) (key_of s.plan.shape cells)

    join : (more : List (List ℕ)) × (queue_after s q (n + 1) e.event ≡ q ++ more)
        → (added : List (List ℕ)) × (queue_from s (queue_after s q (n + 1) e.event) (n + 1) es ≡ queue_after s q (n + 1) e.event ++ added)
        → (added : List (List ℕ)) × (queue_from s (queue_after s q (n + 1) e.event) (n + 1) es ≡ q ++ added)
    join x y = (x.0 ++ y.0, y.1 ∙ ap (λ z. z ++ y.0) x.1 ∙ append_assoc q x.0 y.0)

-- slots in which each event does the same to a queue
pub queue_as : (s r : Slot) → ((q : List (List ℕ)) (n : ℕ) (event : Event) → queue_after s q n event ≡ queue_after r q n event)
    → (q : List (List ℕ)) (n : ℕ) (es : List Entry) → queue_from s q n es ≡ queue_from r q n es
queue_as s r each q n [] = refl
queue_as s r each q n (e ∷ es) = ap (λ z. queue_from s z (n + 1) es) (each q (n + 1) e.event) ∙ queue_as s r each (queue_after r q (n + 1) e.event) (n + 1) es

-- where every cursor lies before the events, the cursors don't matter
pub same_queue : (s r : Slot) (q : List (List ℕ)) (n : ℕ) (es : List Entry) → s.plan.shape ≡ r.plan.shape
    → ((k : List ℕ) → key_cursor s.key_cursors s.cursor k ≤ n) → ((k : List ℕ) → key_cursor r.key_cursors r.cursor k ≤ n)
    → queue_from s q n es ≡ queue_from r q n es
same_queue s r q n [] shape low low' = refl
same_queue s r q n (e ∷ es) shape low low' =
    ap (λ z. queue_from s z (n + 1) es) (by_event e.event) ∙ same_queue s r (queue_after r q (n + 1) e.event) (n + 1) es shape (λ k. omega (arith, low k))
    (λ k. omega (arith, low' k))
  where
    by_event : (event : Event) → queue_after s q (n + 1) event ≡ queue_after r q (n + 1) event
    by_event Clear = refl
    by_event (Update cells) =
        let k : List ℕ = key_of s.plan.shape cells in
        let j : List ℕ = key_of r.plan.shape cells in
        touched_before s q (n + 1) k (omega (arith, low k)) ∙ ap (λ sh. with_key q (key_of sh cells)) shape
        ∙ sym (touched_before r q (n + 1) j (omega (arith, low' j)))

-- keys without one that isn't among them
pub without_none : (k : List ℕ) (xs : List (List ℕ)) → has_key xs k ≡ false → without_key k xs ≡ xs
without_none k [] none = refl
without_none k (x ∷ xs) none = let o = or_false (text_eq x k) (has_key xs k) none in ap (λ v. cond v (without_key k xs) (x ∷ without_key k xs)) o.0
    ∙ ap (λ z. x ∷ z) (without_none k xs o.1)

pub without_first : (k : List ℕ) (xs : List (List ℕ)) → AreDistinct (k ∷ xs) → without_key k (k ∷ xs) ≡ xs
without_first k xs d = ap (λ v. cond v (without_key k xs) (k ∷ without_key k xs)) (text_eq_same k) ∙ without_none k xs d.0

without_key-append : (k : List ℕ) (xs ys : List (List ℕ)) → without_key k (xs ++ ys) ≡ without_key k xs ++ without_key k ys
without_key-append k [] ys = refl
without_key-append k (x ∷ xs) ys = by_same (text_eq x k) (without_key-append k xs ys)
  where
    by_same : (v : Bool) → without_key k (xs ++ ys) ≡ without_key k xs ++ without_key k ys
        → cond v (without_key k (xs ++ ys)) (x ∷ without_key k (xs ++ ys)) ≡ cond v (without_key k xs) (x ∷ without_key k xs) ++ without_key k ys
    by_same true rest = rest
    by_same false rest = ap (λ z. x ∷ z) rest

-- another key is among the rest where it is among all
pub has_without : (k j : List ℕ) (xs : List (List ℕ)) → text_eq j k ≡ false → has_key (without_key k xs) j ≡ has_key xs j
has_without k j [] other = refl
has_without k j (x ∷ xs) other = by_same (text_eq x k) refl (has_without k j xs other)
  where
    by_same : (v : Bool) → text_eq x k ≡ v → has_key (without_key k xs) j ≡ has_key xs j
        → has_key (cond v (without_key k xs) (x ∷ without_key k xs)) j ≡ (text_eq x j || has_key xs j)
    by_same true same rest = rest ∙ ap (λ v. v || has_key xs j) (sym (ap (λ z. text_eq z j) (text_eq_true x k same) ∙ text_eq-sym k j ∙ other))
    by_same false same rest = ap (λ z. text_eq x j || z) rest

has_some : (k : List ℕ) (xs : List (List ℕ)) → has_key xs k ≡ true → 0 < length xs
has_some k [] h = cc
has_some k (x ∷ xs) h = omega arith

pub without_length : (k : List ℕ) (xs : List (List ℕ)) → AreDistinct xs → length (without_key k xs) ≡ length xs - (if has_key xs k then 1 else 0)
without_length k [] d = refl
without_length k (x ∷ xs) d = by_same (text_eq x k) refl (without_length k xs d.1)
  where
    by_found : (w : Bool) → has_key xs k ≡ w → length (without_key k xs) ≡ length xs - cond w 1 0
        → suc (length (without_key k xs)) ≡ suc (length xs) - cond w 1 0
    by_found true there rest = omega (arith, rest, has_some k xs there)
    by_found false none rest = omega (arith, rest)

    by_same : (v : Bool) → text_eq x k ≡ v → length (without_key k xs) ≡ length xs - cond (has_key xs k) 1 0
        → length (cond v (without_key k xs) (x ∷ without_key k xs)) ≡ suc (length xs) - cond (v || has_key xs k) 1 0
    by_same true same rest = ap length (without_none k xs (ap (has_key xs) (sym (text_eq_true x k same)) ∙ d.0)) ∙ omega arith
    by_same false same rest = by_found (has_key xs k) refl rest

-- the slot after the turn of key k at a number
abbrev pub turned_key : Slot → List ℕ → ℕ → Slot
turned_key s k l = record s { owed = s.owed - 1; key_cursors = record { key = k; cursor = l } ∷ s.key_cursors }

without_one : (v : Bool) (k j : List ℕ) → text_eq j k ≡ v → without_key k (j ∷ []) ≡ cond v [] (j ∷ [])
without_one v k j h = ap (λ t. cond t [] (j ∷ [])) h

after_turned : (s : Slot) (k : List ℕ) (l n : ℕ) (q : List (List ℕ)) (event : Event) → n + 1 ≤ l
    → queue_after (turned_key s k l) (without_key k q) (n + 1) event ≡ without_key k (queue_after s q (n + 1) event)
after_turned s k l n q Clear low = refl
after_turned s k l n q (Update cells) low = by_same (text_eq j k) refl
  where
    j : List ℕ
    j = key_of s.plan.shape cells

    by_append : (v w : Bool) → v ≡ w → cond v (without_key k q ++ without_key k (j ∷ [])) (without_key k q) ≡ without_key k (cond w (q ++ j ∷ []) q)
    by_append true true h = sym (without_key-append k q (j ∷ []))
    by_append false false h = refl
    by_append true false h = cc
    by_append false true h = cc

    by_drop : (w : Bool) → without_key k (j ∷ []) ≡ [] → without_key k q ≡ without_key k (cond w (q ++ j ∷ []) q)
    by_drop true none = sym (append-nil (without_key k q)) ∙ ap (λ z. without_key k q ++ z) (sym none) ∙ sym (without_key-append k q (j ∷ []))
    by_drop false none = refl

    by_same : (v : Bool) → text_eq j k ≡ v → queue_after (turned_key s k l) (without_key k q) (n + 1) (Update cells)
        ≡ without_key k (queue_after s q (n + 1) (Update cells))
    by_same true same =
        let turned : key_cursor (turned_key s k l).key_cursors s.cursor j ≡ l = ap (λ v. cond v l (key_cursor s.key_cursors s.cursor j))
        (text_eq-sym k j ∙ same) in
        ap (λ v. cond (v && not (has_key (without_key k q) j)) (without_key k q ++ j ∷ []) (without_key k q))
        (ap (λ m. nat_lt m (n + 1)) turned ∙ not_below l (n + 1) low)
        ∙ by_drop (nat_lt (key_cursor s.key_cursors s.cursor j) (n + 1) && not (has_key q j)) (without_one true k j same)
    by_same false other =
        let same_place : key_cursor (turned_key s k l).key_cursors s.cursor j ≡ key_cursor s.key_cursors s.cursor j =
        ap (λ v. cond v l (key_cursor s.key_cursors s.cursor j)) (text_eq-sym k j ∙ other) in
        ap (λ z. cond (nat_lt (key_cursor (turned_key s k l).key_cursors s.cursor j) (n + 1) && not (has_key (without_key k q) j)) (without_key k q ++ z)
        (without_key k q)) (sym (without_one false k j other))
        ∙ by_append (nat_lt (key_cursor (turned_key s k l).key_cursors s.cursor j) (n + 1) && not (has_key (without_key k q) j))
        (nat_lt (key_cursor s.key_cursors s.cursor j) (n + 1) && not (has_key q j))
        (ap (λ m. nat_lt m (n + 1) && not (has_key (without_key k q) j)) same_place
        ∙ ap (λ v. nat_lt (key_cursor s.key_cursors s.cursor j) (n + 1) && not v) (has_without k j q other))

-- a key that had its turn leaves the queue, and the others keep their order
pub queue_turned : (s : Slot) (k : List ℕ) (l n : ℕ) (q : List (List ℕ)) (es : List Entry) → n + length es ≤ l
    → queue_from (turned_key s k l) (without_key k q) n es ≡ without_key k (queue_from s q n es)
queue_turned s k l n q [] low = refl
queue_turned s k l n q (e ∷ es) low =
    ap (λ z. queue_from (turned_key s k l) z (n + 1) es) (after_turned s k l n q e.event (omega (arith, low)))
    ∙ queue_turned s k l (n + 1) (queue_after s q (n + 1) e.event) es (omega (arith, low))
