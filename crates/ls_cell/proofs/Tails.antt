-- The last events of a history, with their numbers.
use Rattle.std.proofs.Common.{◌≡◌, ℕ, ◌+◌, ◌-◌, ◌<◌, ◌≤◌, List, [], ◌∷◌, ◌++◌, length, take, drop, refl, sym, ◌∙◌, ap}
use Rattle.std.proofs.Common.{arith, get_or, suc, zero}
use Rattle.std.proofs.lemmas.List.{length-append, length-drop, drop-append-le, drop-drop, take-append-le, take_more}
use Rattle.std.proofs.lemmas.List.{get_or-drop}
use Rattle.ls_event.specs.declared.event.Event.{Event}
use Rattle.ls_event.specs.declared.event.Entry.{Entry}
use Rattle.ls_event.specs.declared.event.Stored.{Stored}
use Rattle.ls_event.specs.declared.item.Kind.{Kind}
use Rattle.ls_event.specs.declared.item.Kind.TheVariants as kind
use Rattle.ls_event.specs.declared.limits.TheConstants.{MOST_LAG}
use Rattle.ls_event.specs.Shapes.{Shape}
use Rattle.ls_event.specs.Keyed.{keyed_after_all}
use Rattle.ls_event.specs.States.{state_in, state_at, key_row}
use Rattle.ls_event.specs.declared.snapshot.Snapshot.TheVariants as state
use Rattle.ls_event.specs.Publishes.{stored_from}
use Rattle.ls_event.specs.Slots.{Slot, IsNext, enqueued}
use Rattle.ls_merge.specs.Runs.{IsRun}
use Rattle.ls_cell.specs.Cell.{tail_after}

-- an event with its number in a history
abbrev pub stored : Shape → List Entry → ℕ → Event → Stored
stored p h n event = record { no = n; event = event; after = key_row p (state_at p h n) event }

-- later entries leave the row of an event's key
key_row-append : (k : Kind) (p : Shape) (h more : List Entry) (n : ℕ) (event : Event) → n ≤ length h
    → key_row p (state_in k p (h ++ more) n) event ≡ key_row p (state_in k p h n) event
key_row-append kind.Merge p h more n event within = refl
key_row-append kind.Distinct p h more n event within = refl
key_row-append kind.Command p h more n event within = ap (λ es. key_row p (state.Command (keyed_after_all p [] es)) event)
    (take-append-le n h more within)

pub stored_from_length : (p : Shape) (h : List Entry) (n : ℕ) (es : List Entry)
    → length (stored_from p h n es) ≡ length es
stored_from_length p h n [] = refl
stored_from_length p h n (e ∷ es) = ap (λ k. suc k) (stored_from_length p h (n + 1) es)

stored_from-longer : (p : Shape) (h more : List Entry) (n : ℕ) (es : List Entry) → n + length es ≤ length h
    → stored_from p (h ++ more) n es ≡ stored_from p h n es
stored_from-longer p h more n [] within = refl
stored_from-longer p h more n (e ∷ es) within =
    ap (λ row. (record { no = n + 1; event = e.event; after = row }) ∷ stored_from p (h ++ more) (n + 1) es)
    (key_row-append p.kind p h more (n + 1) e.event (omega (arith, within)))
    ∙ ap (λ t. stored p h (n + 1) e.event ∷ t) (stored_from-longer p h more (n + 1) es (omega (arith, within)))

stored_from-append : (p : Shape) (h : List Entry) (n m : ℕ) (es : List Entry) (e : Entry) → m ≡ n + length es + 1
    → stored_from p h n (es ++ e ∷ []) ≡ stored_from p h n es ++ stored p h m e.event ∷ []
stored_from-append p h n m [] e is = let same : n + 1 ≡ m = omega (arith, is) in ap (λ k. stored p h k e.event ∷ [])
    same
stored_from-append p h n m (x ∷ es) e is = let same : m ≡ n + 1 + length es + 1 =
    omega (arith, is) in ap (λ t. stored p h (n + 1) x.event ∷ t)
    (stored_from-append p h (n + 1) m es e same)

stored_from-drop : (p : Shape) (h : List Entry) (k n m : ℕ) (es : List Entry) → k ≤ length es → m ≡ n + k
    → drop k (stored_from p h n es) ≡ stored_from p h m (drop k es)
stored_from-drop p h zero n m es within is = let same : n ≡ m = omega (arith, is) in ap (λ j. stored_from p h j es) same
stored_from-drop p h (suc k) n m [] within is = absurd (omega (arith, within))
stored_from-drop p h (suc k) n m (x ∷ es) within is = stored_from-drop p h k (n + 1) m es (omega (arith, within))
    (omega (arith, is))

pub length_tail_after : (t : List Stored) (x : Stored) → length (tail_after t x)
    ≡ length t + 1 - (length t + 1 - MOST_LAG)
length_tail_after t x = omega (arith, length-drop (length t + 1 - MOST_LAG) (t ++ x ∷ []), length-append t (x ∷ []))

-- the events after a number, with one more and without the first k
grown : (p : Shape) (g h : List Entry) (e : Entry) (from k to number : ℕ) → from ≤ length h → number ≡ length h + 1
    → to ≡ from + k → k ≤ length h + 1 - from
    → drop k (stored_from p g from (drop from h) ++ stored p g number e.event ∷ [])
    ≡ stored_from p g to (drop to (h ++ e ∷ []))
grown p g h e from k to number within last is room =
    let index : number ≡ from + length (drop from h) + 1 = omega (arith, last, within, length-drop from h) in
    let long : k ≤ length (drop from (h ++ e ∷ [])) =
    omega (arith, room, length-drop from (h ++ e ∷ []), length-append h (e ∷ [])) in
    ap (drop k) (sym (stored_from-append p g from number (drop from h) e index)
    ∙ ap (stored_from p g from) (sym (drop-append-le from h (e ∷ []) within)))
    ∙ stored_from-drop p g k from to (drop from (h ++ e ∷ [])) long is
    ∙ ap (stored_from p g to) (drop-drop k from (h ++ e ∷ []) ∙ ap (λ j. drop j (h ++ e ∷ [])) (sym is))

-- the last MOST_LAG events after one more
pub tail_published : (p : Shape) (t : List Stored) (h : List Entry) (e : Entry) (x : Stored)
    → t ≡ stored_from p h (length h - MOST_LAG) (drop (length h - MOST_LAG) h)
    → x ≡ stored p (h ++ e ∷ []) (length h + 1) e.event
    → tail_after t x ≡ stored_from p (h ++ e ∷ []) (length (h ++ e ∷ []) - MOST_LAG)
    (drop (length (h ++ e ∷ []) - MOST_LAG) (h ++ e ∷ []))
tail_published p t h e x is last =
    let g : List Entry = h ++ e ∷ [] in
    let kept : length (drop (length h - MOST_LAG) h) ≡ length h - (length h - MOST_LAG) =
    length-drop (length h - MOST_LAG) h in
    let long : length t ≡ length h - (length h - MOST_LAG) = ap length is
    ∙ stored_from_length p h (length h - MOST_LAG) (drop (length h - MOST_LAG) h) ∙ kept in
    let one_more : length g ≡ length h + 1 = length-append h (e ∷ []) in
    let same : t ≡ stored_from p g (length h - MOST_LAG) (drop (length h - MOST_LAG) h) =
    is ∙ sym (stored_from-longer p h (e ∷ []) (length h - MOST_LAG) (drop (length h - MOST_LAG) h)
    (omega (arith, kept))) in
    ap (λ y. drop (length t + 1 - MOST_LAG) (t ++ y ∷ [])) last
    ∙ ap (λ xs. drop (length t + 1 - MOST_LAG) (xs ++ stored p g (length h + 1) e.event ∷ [])) same
    ∙ grown p g h e (length h - MOST_LAG) (length t + 1 - MOST_LAG) (length g - MOST_LAG) (length h + 1) (omega arith)
    refl (omega (arith, long, one_more)) (omega (arith, long))

-- an entry and what is stored of it
pub record IsStored (p : Shape) (h : List Entry) (m : ℕ) (e : Entry) (x : Stored) : Type 0 where
  pub no : x.no ≡ m
  pub event : x.event ≡ e.event
  pub after : x.after ≡ key_row p (state_at p h m) x.event

-- the event at an index
stored_at : (p : Shape) (h : List Entry) (n m : ℕ) (es : List Entry) (i : ℕ) (x : Stored) → i < length es
    → m ≡ n + i + 1 → x ≡ get_or (stored_from p h n es) i x → (e : Entry) × ((get_or es i e ≡ e) × IsStored p h m e x)
stored_at p h n m [] i x within is value = absurd (omega (arith, within))
stored_at p h n m (y ∷ es) zero x within is value =
    let same : n + 1 ≡ m = omega (arith, is) in
    let at : x ≡ stored p h m y.event = value ∙ ap (λ k. stored p h k y.event) same in (
      y,
      (
        refl,
        record {
          no = ap (λ z. z.no) at;
          event = ap (λ z. z.event) at;
          after =
              ap (λ z. z.after) at ∙ ap (key_row p (state_at p h m)) (sym (ap (λ z. z.event) at));
        },
      ),
    )
stored_at p h n m (y ∷ es) (suc i) x within is value = stored_at p h (n + 1) m es i x (omega (arith, within))
    (omega (arith, is)) value

-- the event after the last one that was enqueued, where it stands in the tail
pub next_in_tail : (p : Shape) (t : List Stored) (s : Slot) (h : List Entry) (i : ℕ) (x : Stored)
    → t ≡ stored_from p h (length h - MOST_LAG) (drop (length h - MOST_LAG) h) → s.plan.shape ≡ p → s.last < length h
    → length h ≤ s.last + MOST_LAG
    → i ≡ s.last - (length h - length t) → x ≡ get_or t i x → IsNext s h x
next_in_tail p t s h i x is shape more near index value =
    let kept : length (drop (length h - MOST_LAG) h) ≡ length h - (length h - MOST_LAG) =
    length-drop (length h - MOST_LAG) h in
    let long : length t ≡ length h - (length h - MOST_LAG) = ap length is
    ∙ stored_from_length p h (length h - MOST_LAG) (drop (length h - MOST_LAG) h) ∙ kept in
    let sum : length h - MOST_LAG + i ≡ s.last = omega (arith, index, long, more, near) in
    by_entry sum (stored_at p h (length h - MOST_LAG) (s.last + 1) (drop (length h - MOST_LAG) h) i x
    (omega (arith, sum, kept, more)) (omega (arith, sum)) (value ∙ ap (λ y. get_or y i x) is))
  where
    by_entry : length h - MOST_LAG + i ≡ s.last → (e : Entry)
        × ((get_or (drop (length h - MOST_LAG) h) i e ≡ e) × IsStored p h (s.last + 1) e x) → IsNext s h x
    by_entry sum at =
        let there : get_or h s.last at.0 ≡ at.0 = ap (λ k. get_or h k at.0) (sym sum)
        ∙ sym (get_or-drop (length h - MOST_LAG) h i at.0) ∙ at.1.0 in
        record {
          entry = at.0;
          more = more;
          next = take_more h s.last at.0 more ∙ ap (λ e. take s.last h ++ e ∷ []) there;
          no = at.1.1.no;
          event = at.1.1.event;
          after = at.1.1.after ∙ ap (λ q. key_row q (state_at q h (s.last + 1)) x.event) (sym shape);
        }

tail_long : (p : Shape) (t : List Stored) (h : List Entry)
    → t ≡ stored_from p h (length h - MOST_LAG) (drop (length h - MOST_LAG) h) → length t ≡ length h - (length h - MOST_LAG)
tail_long p t h is = ap length is ∙ stored_from_length p h (length h - MOST_LAG) (drop (length h - MOST_LAG) h)
    ∙ length-drop (length h - MOST_LAG) h

-- and all those after it
pub run_in_tail : (k : ℕ) (p : Shape) (t : List Stored) (s : Slot) (h : List Entry) (i : ℕ) (xs : List Stored)
    → t ≡ stored_from p h (length h - MOST_LAG) (drop (length h - MOST_LAG) h) → s.plan.shape ≡ p → s.last ≤ length h
    → length h ≤ s.last + MOST_LAG → i ≡ s.last - (length h - length t) → k ≡ length h - s.last → drop i t ≡ xs
    → IsRun s h xs
run_in_tail k p t s h i [] is shape within near index left at = tt
run_in_tail zero p t s h i (x ∷ xs) is shape within near index left at =
    absurd (omega (arith, ap length at, length-drop i t, index, tail_long p t h is, within, near, left))
run_in_tail (suc k) p t s h i (x ∷ xs) is shape within near index left at =
    let more : s.last < length h = omega (arith, left) in
    let value : x ≡ get_or t i x = sym (ap (λ ys. get_or ys 0 x) at) ∙ get_or-drop i t 0 x
    ∙ ap (λ j. get_or t j x) {x = i + 0} {y = i} (omega arith) in
    let rest : drop (i + 1) t ≡ xs = sym (drop-drop 1 i t) ∙ ap (drop 1) at in (
      next_in_tail p t s h i x is shape more near index value,
      run_in_tail k p t (enqueued s) h (i + 1) xs is shape (omega (arith, more)) (omega (arith, near))
          (omega (arith, index, tail_long p t h is, near, within)) (omega (arith, left)) rest,
    )

-- and the first of these
pub run_take : (s : Slot) (h : List Entry) (n : ℕ) (xs : List Stored) → IsRun s h xs → IsRun s h (take n xs)
run_take s h zero xs run = tt
run_take s h (suc n) [] run = tt
run_take s h (suc n) (x ∷ xs) run = (run.0, run_take (enqueued s) h n xs run.1)

-- a slot has no event that the history doesn't
pub run_within : (s : Slot) (h : List Entry) (xs : List Stored) → s.last ≤ length h → IsRun s h xs
    → s.last + length xs ≤ length h
run_within s h [] within run = omega (arith, within)
run_within s h (x ∷ xs) within run = omega (arith, run_within (enqueued s) h xs (omega (arith, run.0.more)) run.1)
