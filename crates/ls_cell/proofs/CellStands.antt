-- An item goes on standing for its history and the records of its slots.
use Rattle.std.proofs.Common.{◌≡◌, ◌==◌, ℕ, ◌+◌, ◌-◌, ◌<◌, ◌≤◌, List, [], ◌∷◌, ◌++◌, length, refl, sym, ◌∙◌, ap, arith}
use Rattle.std.proofs.Common.{Bool, true, false, Option, Some, None, IsSome, cond, subst, get_or, set, take, drop}
use Rattle.std.proofs.lemmas.List.{length-append, get_or-set_same, get_or-set_other}
use Rattle.std.proofs.lemmas.Bool.{eqb-true, eqb-false}
use Rattle.ls_event.specs.declared.event.Entry.{Entry}
use Rattle.ls_event.specs.declared.event.Stored.{Stored}
use Rattle.ls_event.specs.declared.limits.TheConstants.{MOST_ADAPTERS}
use Rattle.ls_event.specs.History.{HasFields, last_seq}
use Rattle.ls_event.specs.Shapes.{Shape}
use Rattle.ls_event.specs.States.{state_at, state_after, key_row}
use Rattle.ls_event.specs.Publishes.{IsHistory}
use Rattle.ls_event.specs.Slots.{Slot, IsNext, enqueued}
use Rattle.ls_event.proofs.Histories.{last_seq-append, history_grown}
use Rattle.ls_event.proofs.Conditions.{below, not_below}
use Rattle.ls_item.proofs.Grown.{state_grown}
use Rattle.ls_cell.specs.declared.any.AnyBuffer.{AnyBuffer}
use Rattle.ls_cell.specs.Any.{any_last}
use Rattle.ls_cell.specs.Numbered.{slot_at, set_slot, first_lagging, StandsAll}
use Rattle.ls_merge.specs.Runs.{IsRun}
use Rattle.ls_cell.specs.Standing.{StandsSlot, last_at}
use Rattle.ls_cell.specs.Cell.{Held, IsSound, StandsCell, HasSlot, published, stored_next, refusal_of, least_lagging}
use Rattle.ls_cell.specs.Cell.{last_in, next_last, enqueued_at, Going}
use Rattle.ls_cell.proofs.Changes.{set_same, set_own, set_at, set_twice}
use Rattle.ls_cell.proofs.Tails.{stored, tail_published, next_in_tail, run_in_tail, run_take}
use Rattle.ls_cell.proofs.Grown.{stands_grown}
use Rattle.ls_cell.proofs.Refusals.{IsAdmitted, admitted_of, refusal_is}
use Rattle.ls_cell.proofs.Recorded.{IsRecorded, recorded}

seqs_published : (seqs : List ℕ) (h : List Entry) (e : Entry) (a : ℕ) → length seqs ≡ MOST_ADAPTERS + 1
    → e.adapter ≤ MOST_ADAPTERS → get_or seqs a 0 ≡ last_seq a h
    → get_or (set seqs e.adapter e.seq) a 0 ≡ last_seq a (h ++ e ∷ [])
seqs_published seqs h e a n range is = by_test (e.adapter == a) refl ∙ sym (last_seq-append a h e)
  where
    by_test : (v : Bool) → (e.adapter == a) ≡ v → get_or (set seqs e.adapter e.seq) a 0 ≡ cond v e.seq (last_seq a h)
    by_test true t = let same : e.adapter ≡ a = eqb-true e.adapter a t in subst
        (λ (k : ℕ). get_or (set seqs e.adapter e.seq) k 0 ≡ e.seq) same
        (get_or-set_same seqs e.adapter e.seq 0 (omega (arith, n, range)))
    by_test false t = get_or-set_other seqs e.adapter a e.seq 0 (λ x. eqb-false e.adapter a t (sym x)) ∙ is

pub stands_published : (c : Held) (ss : List (Option Slot)) (h : List Entry) (e : Entry) → StandsCell c ss h → IsSound c
    → e.adapter ≤ MOST_ADAPTERS → HasFields c.item.shape.fields e.event → refusal_of c e ≡ None
    → StandsCell (published c e) ss (h ++ e ∷ [])
stands_published c ss h e st ok range fields none =
    let p : Shape = c.item.shape in
    let g : List Entry = h ++ e ∷ [] in
    let admitted : IsAdmitted c e.event = admitted_of c e none in
    let one_more : length g ≡ length h + 1 = length-append h (e ∷ []) in
    let number : c.number + 1 ≡ length h + 1 = ap (λ m. m + 1) st.number in
    let near : first_lagging any_last (length h) 1 c.slots ≡ None =
    subst (λ (m : ℕ). first_lagging any_last m 1 c.slots ≡ None) st.number admitted.near in
    let state : state_after p c.item.state e.event ≡ state_at p g (length h + 1) =
    ap (λ s. state_after p s e.event) st.state ∙ state_grown p h e in
    let row : (stored_next c e.event).after ≡ key_row p (state_at p g (length h + 1)) e.event = ap (λ s. key_row p s e.event) state in
    let x : stored_next c e.event ≡ stored p g (length h + 1) e.event =
    ap (λ m. record { no = m; event = e.event; after = (stored_next c e.event).after }) number
    ∙ ap (λ r. record { no = length h + 1; event = e.event; after = r }) row in
    let grown : IsHistory p g = history_grown p h (least_lagging (length h) ss) e st.history fields
    (sym (refusal_is c ss h e st range) ∙ none) in
    record {
      number = number ∙ sym one_more;
      shape = st.shape;
      state = state ∙ ap (state_at p g) (sym one_more);
      tail = tail_published p c.tail h e (stored_next c e.event) st.tail x;
      seqs = λ a within. seqs_published c.seqs h e a ok.seqs range (st.seqs a within);
      slots = stands_grown p c.slots ss h e 1 near st.slots;
      history = grown;
    }

-- the slots and their records change
pub stands_slots : (c : Held) (bs : List (Option AnyBuffer)) (ss rs : List (Option Slot)) (h : List Entry)
    → StandsCell c ss h → StandsAll (StandsSlot c.item.shape) bs rs h → StandsCell (record c { slots = bs }) rs h
stands_slots c bs ss rs h st new =
    record {
      number = st.number;
      shape = st.shape;
      state = st.state;
      tail = st.tail;
      seqs = st.seqs;
      slots =
          new;
      history = st.history;
    }

-- a slot took the next event
pub stands_enqueued : (c : Held) (bs : List (Option AnyBuffer)) (ss : List (Option Slot)) (h : List Entry) (s : Slot)
    (n i : ℕ) (x : Stored) → StandsCell c ss h → slot_at ss n ≡ Some s
    → last_in c n < c.number → i ≡ last_in c n - (c.number - length c.tail) → x ≡ get_or c.tail i x
    → ((p : Shape) (ss : List (Option Slot)) (h : List Entry) (s : Slot) → StandsAll (StandsSlot p) c.slots ss h
    → slot_at ss n ≡ Some s → IsNext s h x → StandsAll (StandsSlot p) bs (set_slot ss n (Some (enqueued s))) h)
    → StandsCell (record c { slots = bs }) (set_slot ss n (Some (enqueued_at h s))) h
stands_enqueued c bs ss h s n i x st is more index value step =
    let t : IsRecorded c n s h = recorded c ss h n s st is in
    let behind : s.last < length h = omega (arith, more, t.last, st.number) in
    let at : i ≡ s.last - (length h - length c.tail) = index ∙ ap (λ l. l - (c.number - length c.tail)) t.last
    ∙ ap (λ m. s.last - (m - length c.tail)) st.number in
    let next : IsNext s h x = next_in_tail c.item.shape c.tail s h i x st.tail t.shape behind t.near at value in
    let moved : enqueued_at h s ≡ enqueued s = ap (λ v. cond v (enqueued s) s) (below s.last (length h) behind) in
    stands_slots c bs ss (set_slot ss n (Some (enqueued_at h s))) h st
    (subst (λ r. StandsAll (StandsSlot c.item.shape) bs (set_slot ss n (Some r)) h) (sym moved)
    (step c.item.shape ss h s st.slots is next))

-- a slot that has every event takes none
pub stands_same : (c : Held) (ss : List (Option Slot)) (h : List Entry) (s : Slot) (n : ℕ) → StandsCell c ss h
    → slot_at ss n ≡ Some s → length h ≤ s.last → StandsCell c (set_slot ss n (Some (enqueued_at h s))) h
stands_same c ss h s n st is full =
    let same : enqueued_at h s ≡ s = ap (λ v. cond v (enqueued s) s) (not_below s.last (length h) full) in
    subst (λ rs. StandsCell c rs h) (sym (ap (λ r. set_slot ss n (Some r)) same ∙ set_same ss n s is)) st

pub moved_last : (number last new : ℕ) → last < number → new ≡ last + 1 → new ≡ next_last number last
moved_last number last new more is = is ∙ sym (ap (λ v. cond v (last + 1) last) (below last number more))

pub going_first : (c : Held) (n : ℕ) → HasSlot c n → Going c c n 0
going_first c n live =
    record {
      live = live;
      last = omega arith;
      rest = ap (λ bs. record c { slots = bs }) (sym (set_own c.slots n live));
      stands = λ ss h s st is. subst (λ rs. StandsCell c rs h)
          (sym (ap (λ l. set_slot ss n (Some (record s { last = l }))) (recorded c ss h n s st is).last
          ∙ set_same ss n s is)) st;
    }

pub going_next : (c d e : Held) (n i : ℕ) → Going c d n i → last_in d n < d.number → HasSlot e n
    → e ≡ record d { slots = set_slot d.slots n (slot_at e.slots n) } → last_in e n ≡ next_last d.number (last_in d n)
    → ((ss : List (Option Slot)) (h : List Entry) (s : Slot) → StandsCell d ss h → slot_at ss n ≡ Some s
    → StandsCell e (set_slot ss n (Some (enqueued_at h s))) h) → Going c e n (i + 1)
going_next c d e n i g more live rest last stands =
    let moved : last_in e n ≡ last_in d n + 1 = last ∙ ap (λ v. cond v (last_in d n + 1) (last_in d n))
    (below (last_in d n) d.number more) in
    record {
      live = live;
      last = omega (arith, moved, g.last);
      rest = rest ∙ ap (λ (v : Held). record v { slots = set_slot v.slots n (slot_at e.slots n) }) g.rest
          ∙ ap (λ bs. record c { slots = bs }) (set_twice c.slots n (slot_at d.slots n) (slot_at e.slots n));
      stands = λ ss h s st is.
          let r : Slot = record s { last = last_in d n } in
          let old : StandsCell d (set_slot ss n (Some r)) h = g.stands ss h s st is in
          let new : StandsCell e (set_slot (set_slot ss n (Some r)) n (Some (enqueued_at h r))) h =
          stands (set_slot ss n (Some r)) h r old (set_at ss n (Some r) s is) in
          let one : enqueued_at h r ≡ record s { last = last_in e n } =
          ap (λ v. cond v (enqueued r) r) (below (last_in d n) (length h) (omega (arith, more, old.number)))
          ∙ ap (λ l. record s { last = l }) (sym moved) in
          subst (λ rs. StandsCell e rs h) (set_twice ss n (Some r) (Some (enqueued_at h r))
          ∙ ap (λ x. set_slot ss n (Some x)) one) new;
    }

-- and after more of them
pub going_on : (c d e : Held) (n i j : ℕ) → Going c d n i → Going d e n j → Going c e n (i + j)
going_on c d e n i j g k =
    record {
      live = k.live;
      last = omega (arith, g.last, k.last);
      rest = k.rest ∙ ap (λ (v : Held). record v { slots = set_slot v.slots n (slot_at e.slots n) }) g.rest
          ∙ ap (λ bs. record c { slots = bs }) (set_twice c.slots n (slot_at d.slots n) (slot_at e.slots n));
      stands = λ ss h s st is.
          let r : Slot = record s { last = last_in d n } in
          let new : StandsCell e (set_slot (set_slot ss n (Some r)) n (Some (record r { last = last_in e n }))) h =
          k.stands (set_slot ss n (Some r)) h r (g.stands ss h s st is) (set_at ss n (Some r) s is) in
          subst (λ rs. StandsCell e rs h) (set_twice ss n (Some r) (Some (record s { last = last_in e n }))) new;
    }

-- a slot took the next events
pub going_ran : (c : Held) (bs : List (Option AnyBuffer)) (n i k : ℕ) → HasSlot c n → IsSome (slot_at bs n)
    → bs ≡ set_slot c.slots n (slot_at bs n) → last_at (slot_at bs n) ≡ last_in c n + k
    → i ≡ last_in c n - (c.number - length c.tail)
    → ((p : Shape) (ss : List (Option Slot)) (h : List Entry) (s : Slot) → StandsAll (StandsSlot p) c.slots ss h
    → slot_at ss n ≡ Some s → IsRun s h (take k (drop i c.tail))
    → StandsAll (StandsSlot p) bs (set_slot ss n (Some (record s { last = s.last + k }))) h)
    → Going c (record c { slots = bs }) n k
going_ran c bs n i k live new one last index step =
    record {
      live = new;
      last = last;
      rest = ap (λ xs. record c { slots = xs }) one;
      stands = λ ss h s st is.
          let t : IsRecorded c n s h = recorded c ss h n s st is in
          let at : i ≡ s.last - (length h - length c.tail) = index ∙ ap (λ l. l - (c.number - length c.tail)) t.last
          ∙ ap (λ m. s.last - (m - length c.tail)) st.number in
          let run : IsRun s h (take k (drop i c.tail)) = run_take s h k (drop i c.tail)
          (run_in_tail (length h - s.last) c.item.shape c.tail s h i (drop i c.tail) st.tail t.shape t.within t.near at refl refl) in
          let moved : s.last + k ≡ last_at (slot_at bs n) = omega (arith, last, t.last) in
          stands_slots c bs ss (set_slot ss n (Some (record s { last = last_at (slot_at bs n) }))) h st
          (subst (λ l. StandsAll (StandsSlot c.item.shape) bs (set_slot ss n (Some (record s { last = l }))) h) moved
          (step c.item.shape ss h s st.slots is run));
    }
