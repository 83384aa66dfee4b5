-- Each call keeps an item sound.
use Rattle.std.proofs.Common.{◌≡◌, ℕ, zero, suc, ◌+◌, ◌-◌, ◌<◌, ◌≤◌, List, [], ◌∷◌, ◌++◌, length, drop, get_or, refl}
use Rattle.std.proofs.Common.{sym, ◌∙◌, ap, subst, arith, All, Option, Some, None}
use Rattle.std.specs.Option.{option_or, ForSome}
use Rattle.std.proofs.Math.ListN.{length-set}
use Rattle.std.proofs.lemmas.List.Elements.{All-nil, All-cons, All-drop, All-weaker}
use Rattle.std.proofs.lemmas.List.{length-append}
use Rattle.ls_value.specs.declared.row.Cell.{Cell}
use Rattle.ls_value.specs.declared.row.Cell.TheVariants as cell
use Rattle.ls_value.specs.Values.{cell_at}
use Rattle.ls_event.specs.declared.event.Event.{Event}
use Rattle.ls_event.specs.declared.event.Event.TheVariants.{Update, Clear}
use Rattle.ls_event.specs.declared.event.Entry.{Entry}
use Rattle.ls_event.specs.declared.event.Stored.{Stored}
use Rattle.ls_event.specs.declared.event.PushRefused.{PushRefused}
use Rattle.ls_event.specs.declared.item.Kind.{Kind}
use Rattle.ls_event.specs.declared.item.Kind.TheVariants as kind
use Rattle.ls_event.specs.declared.snapshot.Snapshot.{Snapshot}
use Rattle.ls_event.specs.declared.snapshot.Snapshot.TheVariants as state
use Rattle.ls_event.specs.declared.limits.TheConstants.{MOST_ADAPTERS, MOST_LAG}
use Rattle.ls_event.specs.History.{HasFields, RowFits}
use Rattle.ls_event.specs.Shapes.{Shape, IsShape}
use Rattle.ls_event.specs.Orders.{order_with}
use Rattle.ls_event.specs.States.{state_in, state_at, state_after, push_refusal, order_refusal, order_cause}
use Rattle.ls_event.specs.States.{weight_refusal, weight_made, row_made, keys_refusal}
use Rattle.ls_item.specs.States.{KeptState}
use Rattle.ls_command.specs.Command.{IsText, NamesKey}
use Rattle.ls_cell.specs.declared.any.AnyBuffer.{AnyBuffer}
use Rattle.ls_cell.specs.Any.{any_last, AnyAdmits}
use Rattle.ls_cell.specs.Numbered.{slot_at, IsAt, EachSlot}
use Rattle.ls_cell.specs.Standing.{IsEventOf, IsSlotOf, last_at}
use Rattle.ls_cell.specs.Cell.{Held, IsKept, AreKept, IsSound, IsOfKind, HasSlot, last_in, refusal_of, tail_after}
use Rattle.ls_cell.specs.Cell.{stored_next, published}
use Rattle.ls_cell.proofs.Changes.{each_at}
use Rattle.ls_cell.proofs.Tails.{length_tail_after}
use Rattle.ls_cell.proofs.Refusals.{IsAdmitted, admitted_of}
use Rattle.ls_cell.proofs.Grown.{each_grown}

-- the slots change
pub sound_slots : (c : Held) (bs : List (Option AnyBuffer)) → IsSound c
    → EachSlot (IsSlotOf c.item.shape c.number (length c.tail)) bs → IsSound (record c { slots = bs })
sound_slots c bs ok each =
    record {
      shape = ok.shape;
      state = ok.state;
      seqs = ok.seqs;
      most = ok.most;
      within = ok.within;
      in_range =
          ok.in_range;
      kept = ok.kept;
      slots = each;
    }

-- the event at an index
pub kept_at : (p : Shape) (n : ℕ) (xs : List Stored) (i : ℕ) (x : Stored) → AreKept p n xs → i < length xs
    → x ≡ get_or xs i x → IsKept p (n + i + 1) x
kept_at p n [] i x kept low value = absurd (omega (arith, low))
kept_at p n (y ∷ xs) zero x kept low value = subst (λ m. IsKept p m x) {x = n + 1} {y = n + 0 + 1} (omega arith)
    (subst (IsKept p (n + 1)) (sym value) kept.0)
kept_at p n (y ∷ xs) (suc i) x kept low value = subst (λ m. IsKept p m x) {x = n + 1 + i + 1} {y = n + suc i + 1}
    (omega arith) (kept_at p (n + 1) xs i x kept.1 (omega (arith, low)) value)

kept_more : (p : Shape) (n m : ℕ) (xs : List Stored) (x : Stored) → m ≡ n + length xs + 1 → AreKept p n xs
    → IsKept p m x → AreKept p n (xs ++ x ∷ [])
kept_more p n m [] x is kept new = let same : m ≡ n + 1 = omega (arith, is) in (subst (λ k. IsKept p k x) same new, tt)
kept_more p n m (y ∷ xs) x is kept new = (kept.0, kept_more p (n + 1) m xs x (omega (arith, is)) kept.1 new)

kept_drop : (p : Shape) (k n m : ℕ) (xs : List Stored) → k ≤ length xs → m ≡ n + k → AreKept p n xs
    → AreKept p m (drop k xs)
kept_drop p zero n m xs low is kept = let same : n ≡ m = omega (arith, is) in subst (λ j. AreKept p j xs) same kept
kept_drop p (suc k) n m [] low is kept = absurd (omega (arith, low))
kept_drop p (suc k) n m (x ∷ xs) low is kept = kept_drop p k (n + 1) m xs (omega (arith, low)) (omega (arith, is))
    kept.1

-- an update that isn't refused names its key
names_key : (key command : Cell) → order_cause (order_with key command) ≡ None → IsText key
names_key cell.Same command none = cc
names_key cell.Null command none = cc
names_key (cell.Text t) command none = tt

no_order_cause : (order rest : Option PushRefused) → option_or order rest ≡ None → order ≡ None
no_order_cause None rest none = refl
no_order_cause (Some cause) rest none = cc

names : (p : Shape) (s : Snapshot) (event : Event) → IsOfKind kind.Command s → order_refusal p s event ≡ None
    → NamesKey p.key event
names p (state.Merge row) event of none = absurd of
names p (state.Distinct rows) event of none = absurd of
names p (state.Command ks) (Update cells) of none = names_key (cell_at cells p.key) (cell_at cells p.command) none
names p (state.Command ks) Clear of none = tt

event_of : (p : Shape) (s : Snapshot) (event : Event) → IsOfKind p.kind s → HasFields p.fields event
    → push_refusal p s event ≡ None → IsEventOf p event
event_of p s event of fields none =
    let free : order_refusal p s event ≡ None = no_order_cause (order_refusal p s event)
    (option_or (weight_refusal (weight_made event (row_made p s event))) (keys_refusal p s event)) none in
    record { fields = fields; key = λ is. names p s event (subst (λ k. IsOfKind k s) is of) free }

-- a state stays one of its kind
kind_after : (k : Kind) (p : Shape) (s : Snapshot) (event : Event) → IsOfKind k s → IsOfKind k (state_after p s event)
kind_after k p (state.Merge row) event of = of_merge k of
  where
    of_merge : (k : Kind) → IsOfKind k (state.Merge row) → IsOfKind k (state_after p (state.Merge row) event)
    of_merge kind.Merge x = tt
    of_merge kind.Distinct x = x
    of_merge kind.Command x = x
kind_after k p (state.Distinct rows) event of = of_distinct k of
  where
    of_distinct : (k : Kind) → IsOfKind k (state.Distinct rows) → IsOfKind k (state_after p (state.Distinct rows) event)
    of_distinct kind.Merge x = x
    of_distinct kind.Distinct x = tt
    of_distinct kind.Command x = x
kind_after k p (state.Command ks) event of = of_command k of
  where
    of_command : (k : Kind) → IsOfKind k (state.Command ks) → IsOfKind k (state_after p (state.Command ks) event)
    of_command kind.Merge x = x
    of_command kind.Distinct x = x
    of_command kind.Command x = tt

pub sound_published : (c : Held) (e : Entry) → IsSound c → HasFields c.item.shape.fields e.event
    → RowFits c.item.shape.fields (stored_next c e.event).after → refusal_of c e ≡ None
    → IsSound (published c e)
sound_published c e ok fields row none =
    let admitted : IsAdmitted c e.event = admitted_of c e none in
    let x : Stored = stored_next c e.event in
    let long : length (tail_after c.tail x) ≡ length c.tail + 1 - (length c.tail + 1 - MOST_LAG) =
    length_tail_after c.tail x in
    let new : IsKept c.item.shape (c.number + 1) x = record {
      no = refl;
      event =
          event_of c.item.shape c.item.state e.event ok.state fields admitted.admitted;
      after = row;
    } in
    let more : AreKept c.item.shape (c.number - length c.tail) (c.tail ++ x ∷ []) =
    kept_more c.item.shape (c.number - length c.tail) (c.number + 1) c.tail x (omega (arith, ok.within)) ok.kept
    new in
    record {
      shape = ok.shape;
      state = kind_after c.item.shape.kind c.item.shape c.item.state e.event ok.state;
      seqs = length-set c.seqs e.adapter e.seq ∙ ok.seqs;
      most = omega (arith, long, ok.most);
      within = omega (arith, long, ok.within);
      in_range = omega (arith, admitted.few);
      kept = kept_drop c.item.shape (length c.tail + 1 - MOST_LAG) (c.number - length c.tail)
          (c.number + 1 - length (tail_after c.tail x)) (c.tail ++ x ∷ [])
          (omega (arith, length-append c.tail (x ∷ []))) (omega (arith, long, ok.within, ok.most)) more;
      slots = subst (λ (n : ℕ). EachSlot (IsSlotOf c.item.shape (c.number + 1) n) c.slots) (sym long)
          (each_grown c.item.shape c.number (length c.tail) c.slots 1 admitted.near ok.slots);
    }

one_slot : (b y : AnyBuffer) → Some b ≡ Some y → b ≡ y
one_slot b y is = cc

-- what the slot of a number lacks is kept
pub record IsNear (c : Held) (n : ℕ) : Type 0 where
  pub reached : last_in c n ≤ c.number
  pub near : c.number ≤ last_in c n + length c.tail
  pub admits : (b : AnyBuffer) → slot_at c.slots n ≡ Some b → (e : Event) → IsEventOf c.item.shape e → AnyAdmits b e

pub near_at : (c : Held) (n : ℕ) → IsSound c → HasSlot c n → IsNear c n
near_at c n ok live =
    by_slot (slot_at c.slots n) refl (each_at (IsSlotOf c.item.shape c.number (length c.tail)) (None ∷ c.slots) n
    (tt, ok.slots))
  where
    by_slot : (o : Option AnyBuffer) → slot_at c.slots n ≡ o → IsAt (IsSlotOf c.item.shape c.number (length c.tail)) o
        → IsNear c n
    by_slot None at x = cc
    by_slot (Some b) at x =
        let last : last_in c n ≡ any_last b = ap last_at at in
        record {
          reached = omega (arith, x.reached, last);
          near = omega (arith, x.near, last);
          admits = λ y is. subst (λ z. (e : Event) → IsEventOf c.item.shape e → AnyAdmits z e)
              (one_slot b y (sym at ∙ is)) x.admits;
        }

-- the event that an enqueue takes
pub record IsTaken (c : Held) (n : ℕ) (x : Stored) : Type 0 where
  pub no : x.no ≡ last_in c n + 1
  pub low : x.no ≤ c.number
  pub fields : HasFields c.item.shape.fields x.event
  pub after : RowFits c.item.shape.fields x.after
  pub admits : (b : AnyBuffer) → slot_at c.slots n ≡ Some b → AnyAdmits b x.event

pub taken_next : (c : Held) (n i : ℕ) (x : Stored) → IsSound c → HasSlot c n → last_in c n < c.number
    → i ≡ last_in c n - (c.number - length c.tail) → x ≡ get_or c.tail i x → IsTaken c n x
taken_next c n i x ok live more index value =
    let near : IsNear c n = near_at c n ok live in
    let kept : IsKept c.item.shape (c.number - length c.tail + i + 1) x =
    kept_at c.item.shape (c.number - length c.tail) c.tail i x ok.kept
    (omega (arith, more, index, near.near, ok.within)) value in
    let no : x.no ≡ last_in c n + 1 = omega (arith, kept.no, index, more, near.near, ok.within) in
    record {
      no = no;
      low = omega (arith, no, more);
      fields = kept.event.fields;
      after = kept.after;
      admits = λ b is. near.admits b is x.event kept.event;
    }

-- a slot takes each event that is kept
kept_events : (p : Shape) (n : ℕ) (xs : List Stored) → AreKept p n xs → All (λ x. IsEventOf p x.event) xs
kept_events p n [] kept = All-nil (λ x. IsEventOf p x.event)
kept_events p n (x ∷ xs) kept =
    All-cons (λ x. IsEventOf p x.event) x xs kept.0.event (kept_events p (n + 1) xs kept.1)

pub run_admits : (c : Held) (n from : ℕ) → IsSound c → HasSlot c n
    → ForSome (slot_at c.slots n) (λ b. All (λ x. AnyAdmits b x.event) (drop from c.tail))
run_admits c n from ok live = λ b is.
    All-drop (λ x. AnyAdmits b x.event) from c.tail
    (All-weaker (λ (x : Stored). IsEventOf c.item.shape x.event) (λ x. AnyAdmits b x.event)
    (λ x of. (near_at c n ok live).admits b is x.event of) c.tail
    (kept_events c.item.shape (c.number - length c.tail) c.tail ok.kept))

-- an item without events and without slots
kind_first : (k : Kind) (p : Shape) → IsOfKind k (state_in k p [] 0)
kind_first kind.Merge p = tt
kind_first kind.Distinct p = tt
kind_first kind.Command p = tt

pub sound_new : (p : Shape) (k : KeptState) (seqs : List ℕ) → IsShape p → k ≡ record { shape = p; state = state_at p [] 0 }
    → length seqs ≡ MOST_ADAPTERS + 1 → IsSound (record { item = k; number = 0; tail = []; seqs = seqs; slots = [] })
sound_new p k seqs ok is long =
    subst (λ item. IsSound (record { item = item; number = 0; tail = []; seqs = seqs; slots = [] })) (sym is)
    (record {
      shape = ok;
      state = kind_first p.kind p;
      seqs = long;
      most = omega arith;
      within = omega arith;
      in_range =
          omega arith;
      kept = tt;
      slots = tt;
    })
