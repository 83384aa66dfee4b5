-- The items of a plan join, each behind those before it, and leave again where one can't.
use Rattle.std.proofs.Common.{◌≡◌, ℕ, ◌<◌, ◌≤◌, List, [], ◌∷◌, ◌++◌, length, map, refl, sym, ◌∙◌, ap, arith, subst, true}
use Rattle.std.proofs.Common.{Option, Some, None, append_assoc, append-nil}
use Rattle.std.proofs.lemmas.List.{length-map}
use Rattle.ls_event.specs.declared.limits.TheConstants.{MOST_BUFFER_SIZE, MOST_SLOTS}
use Rattle.ls_event.specs.Joining.{plan_of, joined, rows_asked, is_mode_of}
use Rattle.ls_record.specs.Records.{Item, LiveSlot, shape_at, history_of}
use Rattle.ls_cells.specs.Cells.{MayJoin, free_in}
use Rattle.ls_subs.specs.declared.plan.PlanItem.{PlanItem}
use Rattle.ls_acts.specs.Joining.{Joins, JoinInOrder, JoinedAs}

-- what a call of join says of a slot that joins, by what it answers
abbrev pub JoinDid : (List Item → List LiveSlot → Type 0) → (List Item → List LiveSlot → Type 0) → PlanItem → Option ℕ → Type 0
JoinDid k k' p o =
    (items : List Item) (a b : List LiveSlot) (v : LiveSlot) → k items (a ++ b) → v.item ≡ p.item → p.item < length items
    → is_mode_of p.mode (shape_at items p.item).kind ≡ true → 0 < p.n → p.n ≤ MOST_BUFFER_SIZE → length (a ++ b) < MOST_SLOTS
    → v.number ≡ free_in (a ++ b) p.item
    → v.slot ≡ joined (plan_of (shape_at items p.item) (history_of items p.item) p.mode p.n) (history_of items p.item) (rows_asked p.snapshot)
    → (o ≡ Some v.number) × k' items (a ++ v ∷ b)

-- the slot by which an item is to join
pub joins_is : (k k' : List Item → List LiveSlot → Type 0) (p : PlanItem) (o : Option ℕ) (number : ℕ) → o ≡ Some number → JoinDid k k' p o
    → (items : List Item) (a b : List LiveSlot) (v : LiveSlot) → k items (a ++ b) → Joins items (a ++ b) p v
    → (number ≡ v.number) × k' items (a ++ v ∷ b)
joins_is k k' p o number is did items a b v st j =
    let d = did items a b v st j.item (omega (arith, j.may.declared, length-map items (λ (i : Item). i.definition))) j.may.allowed j.may.some j.may.most j.room
    j.number j.slot in
    (let e : Some number ≡ Some v.number = sym is ∙ d.0 in cc, d.1)

-- whatever slot joined
pub joined_as : (k k' : List Item → List LiveSlot → Type 0) (p : PlanItem) (o : Option ℕ) (number : ℕ) → o ≡ Some number → JoinDid k k' p o
    → ((items : List Item) (lives : List LiveSlot) → k items lives → MayJoin items lives p.item p.mode p.n)
    → (items : List Item) (lives : List LiveSlot) → k items lives → JoinedAs k' items lives p.item number
joined_as k k' p o number is did may items lives st =
    let m : MayJoin items lives p.item p.mode p.n = may items lives st in
    let v : LiveSlot = record {
      sub = 0;
      rank = 0;
      item = p.item;
      number = free_in lives p.item;
      frequency = None;
      wanted = record { places = []; snapshot = None };
      slot = joined (plan_of (shape_at items p.item) (history_of items p.item) p.mode p.n) (history_of items p.item) (rows_asked p.snapshot);
    } in
    let d = did items [] lives v st refl m.item m.mode m.some m.most m.few refl refl in
    record { live = v; item = refl; number = (let e : Some number ≡ Some v.number = sym is ∙ d.0 in cc); slots = d.1 }

-- no item
pub none_join : (k : List Item → List LiveSlot → Type 0) (items : List Item) (a b vs : List LiveSlot) (told : List ℕ) (ps : List PlanItem) → length ps ≡ 0
    → k items (a ++ b) → JoinInOrder items a b ps vs
    → (told ≡ told ++ map (λ v. v.number) vs) × k items ((a ++ vs) ++ b)
none_join k items a b [] told [] none st join =
    (sym (append-nil told), subst (λ (xs : List LiveSlot). k items (xs ++ b)) (sym (append-nil a)) st)
none_join k items a b (v ∷ vs) told [] none st join = absurd join
none_join k items a b vs told (p ∷ ps) none st join = absurd (omega (arith, none))

-- the first one, and then the others
pub first_joins : (k k' k'' : List Item → List LiveSlot → Type 0) (items : List Item) (a b vs : List LiveSlot) (told last : List ℕ) (p : PlanItem) (ps all : List PlanItem) (number : ℕ)
    → all ≡ p ∷ ps
    → ((its : List Item) (c d : List LiveSlot) (v : LiveSlot) → k its (c ++ d) → Joins its (c ++ d) p v
    → (number ≡ v.number) × k' its (c ++ v ∷ d))
    → ((its : List Item) (c d us : List LiveSlot) → k' its (c ++ d) → JoinInOrder its c d ps us
    → (last ≡ (told ++ number ∷ []) ++ map (λ v. v.number) us) × k'' its ((c ++ us) ++ d))
    → k items (a ++ b) → JoinInOrder items a b all vs
    → (last ≡ told ++ map (λ v. v.number) vs) × k'' items ((a ++ vs) ++ b)
first_joins k k' k'' items a b vs told last p ps all number is one rest st join =
    by_slots vs (subst (λ (xs : List PlanItem). JoinInOrder items a b xs vs) is join)
  where
    by_slots : (vs : List LiveSlot) → JoinInOrder items a b (p ∷ ps) vs
        → (last ≡ told ++ map (λ v. v.number) vs) × k'' items ((a ++ vs) ++ b)
    by_slots [] join = absurd join
    by_slots (v ∷ us) join =
        let d = one items a b v st join.0 in
        let r = rest items (a ++ v ∷ []) b us (subst (λ (xs : List LiveSlot). k' items xs) (sym (append_assoc a (v ∷ []) b)) d.1) join.1 in (
          r.0 ∙ append_assoc told (number ∷ []) (map (λ (u : LiveSlot). u.number) us) ∙ ap (λ n. told ++ n ∷ map (λ (u : LiveSlot). u.number) us) d.0,
          subst (λ (xs : List LiveSlot). k'' items (xs ++ b)) (append_assoc a (v ∷ []) us) r.1,
        )

-- one that joined leaves again
pub left_again : (k k' k'' : List Item → List LiveSlot → Type 0) (items : List Item) (lives : List LiveSlot) (at n : ℕ) → JoinedAs k items lives at n
    → ((its : List Item) (vs : List LiveSlot) → k its vs → k' its vs)
    → ((its : List Item) (a b : List LiveSlot) (v : LiveSlot) → k' its (a ++ v ∷ b) → v.item ≡ at → v.number ≡ n → k'' its (a ++ b))
    → k'' items lives
left_again k k' k'' items lives at n j kept leave = leave items [] lives j.live (kept items (j.live ∷ lives) j.slots) j.item j.number
