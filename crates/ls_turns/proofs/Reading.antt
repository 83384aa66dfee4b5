-- What is read of a round, by what is kept.
use Rattle.std.proofs.Common.{◌≡◌, ◌==◌, ◌&&◌, ℕ, suc, zero, ◌+◌, ◌≤◌, ◌<◌, List, [], ◌∷◌, length, map, refl, sym, ◌∙◌, ap, arith, cond, Bool, true, false}
use Rattle.std.proofs.Common.{Some, None, Option, subst}
use Rattle.std.specs.Prelude.{slice_get}
use Rattle.std.specs.Option.{option_map}
use Rattle.std.specs.List.{filter}
use Rattle.std.proofs.lemmas.Bool.{eqb-true, eq-eqb}
use Rattle.ls_links.specs.Chains.{In, Link, IsAt, IsLinked, node_at}
use Rattle.ls_turns.specs.declared.row.Row.{Row}
use Rattle.ls_turns.specs.declared.row.SlotName.{SlotName}
use Rattle.ls_turns.specs.declared.slot_ref.SlotRef.{SlotRef}
use Rattle.ls_turns.specs.Round.{Seat, seat_at, node_of_place, slot_of_value, link_of, IsSeated, AreApart, is_named, HasPlacesTo}
use Rattle.ls_turns.specs.Kept.{Table, IsTold, IsKept, links_of, round_of, seat_of, row_of, name_of}
use Rattle.ls_links.proofs.Members.{nothing_there, differs, bool_same, in_map, filter_none, filter_map}

-- a seat's link
pub seat_in : (t : Table) (i : ℕ) (s : Seat) → seat_at (round_of t) i ≡ Some s → (l : Link) × (slice_get (links_of t) i ≡ Some l) × (seat_of t.rows l ≡ s)
seat_in t i s h = in_map (seat_of t.rows) (links_of t) i s h

pub nodes_are : (rows : List Row) (xs : List Link) (i : ℕ)
    → option_map (λ s. s.node) (slice_get (map (seat_of rows) xs) i) ≡ option_map (λ l. l.node) (slice_get xs i)
nodes_are rows [] i = refl
nodes_are rows (x ∷ xs) zero = refl
nodes_are rows (x ∷ xs) (suc i) = nodes_are rows xs i

pub node_place : (t : Table) (i : ℕ) → node_at t.chains 0 i ≡ node_of_place (round_of t) i
node_place t i = sym (nodes_are t.rows (links_of t) i)

pub links_are : (rows : List Row) (xs : List Link) → xs ≡ map link_of (map (seat_of rows) xs)
links_are rows [] = refl
links_are rows (x ∷ xs) = ap (λ (ls : List Link). x ∷ ls) (links_are rows xs)

-- a seated node is linked
pub linked : (t : Table) (look : SlotName → Option ℕ) → IsKept t look → (node : ℕ) → IsSeated (round_of t) node → IsLinked t.chains node
linked t look kept node s =
    let l = seat_in t s.0 s.1 s.2 in
    let e : l.0.node ≡ node = ap (λ (x : Seat). x.node) l.2 ∙ s.3 in
    subst (λ (n : ℕ). IsLinked t.chains n) e (record { list = 0; place = s.0; value = l.0.value; here = l.1 })

-- and so is a member
pub member_linked : (t : Table) (l : Link) → In (links_of t) l → IsLinked t.chains l.node
member_linked t l m = record { list = 0; place = m.0; value = l.value; here = m.1 }

-- of one node there is one link
pub one_place : (t : Table) (look : SlotName → Option ℕ) → IsKept t look → (i j : ℕ) (l m : Link) → slice_get (links_of t) i ≡ Some l
    → slice_get (links_of t) j ≡ Some m → l.node ≡ m.node → i ≡ j
one_place t look kept i j l m h g e =
    (kept.apart l.node 0 0 i j l.value m.value h (subst (λ (n : ℕ). IsAt t.chains 0 j n m.value) (sym e) g)).1

pub one_link : (t : Table) (look : SlotName → Option ℕ) → IsKept t look → (l m : Link) → In (links_of t) l → In (links_of t) m → l.node ≡ m.node → l ≡ m
one_link t look kept l m a b e =
    let p : a.0 ≡ b.0 = one_place t look kept a.0 b.0 l m a.1 b.1 e in
    let q : slice_get (links_of t) b.0 ≡ Some l = subst (λ (k : ℕ). slice_get (links_of t) k ≡ Some l) p a.1 in
    let r : Some l ≡ Some m = sym q ∙ b.1 in
    cc

-- no two seats are alike
pub seats_apart : (t : Table) (look : SlotName → Option ℕ) → IsKept t look → AreApart (round_of t)
seats_apart t look kept =
    record {
      nodes = λ i j s u a b e. by_nodes i j s u (seat_in t i s a) (seat_in t j u b) e;
      values = λ i j s u a b e. by_values i j s u (seat_in t i s a) (seat_in t j u b) e;
      names = λ i j s u a b e f. by_names i j s u (seat_in t i s a) (seat_in t j u b) e f;
    }
  where
    SeatIn : ℕ → Seat → Type 0
    SeatIn i s = (l : Link) × (slice_get (links_of t) i ≡ Some l) × (seat_of t.rows l ≡ s)

    same_values : (i j : ℕ) (l m : Link) → slice_get (links_of t) i ≡ Some l → slice_get (links_of t) j ≡ Some m → l.value ≡ m.value → i ≡ j
    same_values i j l m a b e =
        one_place t look kept i j l m a b
        (sym (kept.own l (i, a)).node ∙ ap (λ (v : ℕ). (row_of t.rows v).node) e ∙ (kept.own m (j, b)).node)

    by_nodes : (i j : ℕ) (s u : Seat) → SeatIn i s → SeatIn j u → s.node ≡ u.node → i ≡ j
    by_nodes i j s u a b e =
        one_place t look kept i j a.0 b.0 a.1 b.1 (ap (λ (x : Seat). x.node) a.2 ∙ e ∙ sym (ap (λ (x : Seat). x.node) b.2))

    by_values : (i j : ℕ) (s u : Seat) → SeatIn i s → SeatIn j u → s.value ≡ u.value → i ≡ j
    by_values i j s u a b e =
        same_values i j a.0 b.0 a.1 b.1 (ap (λ (x : Seat). x.value) a.2 ∙ e ∙ sym (ap (λ (x : Seat). x.value) b.2))

    by_names : (i j : ℕ) (s u : Seat) → SeatIn i s → SeatIn j u → s.slot.sub ≡ u.slot.sub → s.slot.place ≡ u.slot.place → i ≡ j
    by_names i j s u a b e f =
        let x : s.slot ≡ (row_of t.rows a.0.value).slot = sym (ap (λ (x : Seat). x.slot) a.2) in
        let y : u.slot ≡ (row_of t.rows b.0.value).slot = sym (ap (λ (x : Seat). x.slot) b.2) in
        let n : name_of s.slot ≡ name_of u.slot = rw (e, f) refl in
        let p : look (name_of s.slot) ≡ Some a.0.value = ap (λ (z : SlotRef). look (name_of z)) x ∙ (kept.own a.0 (i, a.1)).named in
        let q : look (name_of u.slot) ≡ Some b.0.value = ap (λ (z : SlotRef). look (name_of z)) y ∙ (kept.own b.0 (j, b.1)).named in
        let r : Some a.0.value ≡ Some b.0.value = sym p ∙ ap look n ∙ q in
        same_values i j a.0 b.0 a.1 b.1 cc

-- the node behind one
pub next_is : (t : Table) (look : SlotName → Option ℕ) → IsKept t look → (i node : ℕ) (s : Seat) (next : Option ℕ)
    → ((l place v : ℕ) → IsAt t.chains l place node v → next ≡ node_at t.chains l (place + 1)) → seat_at (round_of t) i ≡ Some s → s.node ≡ node
    → next ≡ node_of_place (round_of t) (i + 1)
next_is t look kept i node s next is h e =
    let l = seat_in t i s h in
    let n : l.0.node ≡ node = ap (λ (x : Seat). x.node) l.2 ∙ e in
    is 0 i l.0.value (subst (λ (k : ℕ). IsAt t.chains 0 i k l.0.value) n l.1) ∙ node_place t (i + 1)

-- the slot of a node
pub slot_is : (t : Table) (look : SlotName → Option ℕ) → IsKept t look → (i node value : ℕ) (s : Seat)
    → ((l place v : ℕ) → IsAt t.chains l place node v → value ≡ v) → seat_at (round_of t) i ≡ Some s → s.node ≡ node
    → (value < length t.rows) × ((row_of t.rows value).slot ≡ s.slot)
slot_is t look kept i node value s is h e =
    let l = seat_in t i s h in
    let n : l.0.node ≡ node = ap (λ (x : Seat). x.node) l.2 ∙ e in
    let v : value ≡ l.0.value = is 0 i l.0.value (subst (λ (k : ℕ). IsAt t.chains 0 i k l.0.value) n l.1) in
    let w : l.0.value < length t.rows = (kept.own l.0 (i, l.1)).within in
    (omega arith, ap (λ (k : ℕ). (row_of t.rows k).slot) v ∙ ap (λ (x : Seat). x.slot) l.2)

pub places_are : (t : Table) (look : SlotName → Option ℕ) → IsKept t look → HasPlacesTo t.places (round_of t)
places_are t look kept = λ i s h.
    let l = seat_in t i s h in
    subst (λ (x : Seat). x.slot.place ≤ t.places) l.2 (kept.own l.0 (i, l.1)).low

-- the slot of a value
first_valued : (rows : List Row) (v : ℕ) (xs : List Link) (i : ℕ) (l : Link) → slice_get xs i ≡ Some l → l.value ≡ v
    → option_map (λ s. s.slot) (slice_get (filter (λ s. s.value == v) (map (seat_of rows) xs)) 0) ≡ Some (row_of rows v).slot
first_valued rows v [] i l h e = absurd (nothing_there l None refl h)
first_valued rows v (x ∷ xs) zero l h e =
    let s : x ≡ l = cc in
    let n : x.value ≡ v = ap (λ (k : Link). k.value) s ∙ e in
    rw (eq-eqb x.value v n) (ap (λ (k : ℕ). Some (row_of rows k).slot) n)
first_valued rows v (x ∷ xs) (suc i) l h e = by_test (x.value == v) refl (first_valued rows v xs i l h e)
  where
    by_test : (b : Bool) → (x.value == v) ≡ b
        → option_map (λ s. s.slot) (slice_get (filter (λ s. s.value == v) (map (seat_of rows) xs)) 0) ≡ Some (row_of rows v).slot
        → option_map (λ s. s.slot) (slice_get (cond b (seat_of rows x ∷ filter (λ s. s.value == v) (map (seat_of rows) xs)) (filter (λ s. s.value == v) (map
        (seat_of rows) xs))) 0)
        ≡ Some (row_of rows v).slot
    by_test true q r = ap (λ (k : ℕ). Some (row_of rows k).slot) (eqb-true x.value v q)
    by_test false q r = r

pub at_some : (t : Table) (look : SlotName → Option ℕ) → IsKept t look → (v : ℕ) (n : SlotName) → look n ≡ Some v
    → Some (row_of t.rows v).slot ≡ slot_of_value (round_of t) v
at_some t look kept v n h =
    let told : IsTold t n v = kept.told n v h in
    sym (first_valued t.rows v (links_of t) told.linked.0 told.link told.linked.1 told.value)

pub at_none : (t : Table) (look : SlotName → Option ℕ) → IsKept t look → (v : ℕ) → ((l : Link) → In (links_of t) l → l.value ≡ v → ⊥)
    → None ≡ slot_of_value (round_of t) v
at_none t look kept v none =
    sym (ap (λ (ss : List Seat). option_map (λ (s : Seat). s.slot) (slice_get ss 0))
    (filter_map (seat_of t.rows) (λ s. s.value == v) (links_of t)
    ∙ ap (map (seat_of t.rows)) (filter_none (λ l. l.value == v) (links_of t) (λ l m. false_there l m (l.value == v) refl))))
  where
    false_there : (l : Link) → In (links_of t) l → (b : Bool) → (l.value == v) ≡ b → b ≡ false
    false_there l m true e = absurd (none l m (eqb-true l.value v e))
    false_there l m false e = refl

-- a value whose row's name has another seat, or none, is no link's
pub not_valued : (t : Table) (look : SlotName → Option ℕ) → IsKept t look → (v : ℕ) → (look (name_of (row_of t.rows v).slot) ≡ Some v → ⊥)
    → (l : Link) → In (links_of t) l → l.value ≡ v → ⊥
not_valued t look kept v other l m e =
    other (subst (λ (k : ℕ). look (name_of (row_of t.rows k).slot) ≡ Some k) e (kept.own l m).named)

pub at_other : (t : Table) (look : SlotName → Option ℕ) → IsKept t look → (v : ℕ) (x : Row) → x ≡ row_of t.rows v → (look (name_of x.slot) ≡ Some v → ⊥)
    → None ≡ slot_of_value (round_of t) v
at_other t look kept v x is other =
    at_none t look kept v (not_valued t look kept v (subst (λ (r : Row). look (name_of r.slot) ≡ Some v → ⊥) is other))

pub at_past : (t : Table) (look : SlotName → Option ℕ) → IsKept t look → (v : ℕ) → length t.rows ≤ v → None ≡ slot_of_value (round_of t) v
at_past t look kept v past = at_none t look kept v (λ l m e. (let w : l.value < length t.rows = (kept.own l m).within in absurd (omega arith)))

-- a slot is named by its subscription and its place
pub named_name : (s : SlotRef) (sub place : ℕ) → ((s.sub == sub) && (s.place == place)) ≡ true → name_of s ≡ record { sub = sub; place = place }
named_name s sub place e = by_test (s.sub == sub) refl e
  where
    by_test : (b : Bool) → (s.sub == sub) ≡ b → (b && (s.place == place)) ≡ true → name_of s ≡ record { sub = sub; place = place }
    by_test true q r = rw (eqb-true s.sub sub q, eqb-true s.place place r) refl
    by_test false q r = absurd (differs false r refl)

pub name_named : (s : SlotRef) (sub place : ℕ) → name_of s ≡ record { sub = sub; place = place } → ((s.sub == sub) && (s.place == place)) ≡ true
name_named s sub place e =
    rw (eq-eqb s.sub sub (ap (λ (n : SlotName). n.sub) e)) (eq-eqb s.place place (ap (λ (n : SlotName). n.place) e))

-- no seat is of a name that has none
pub none_named : (t : Table) (look : SlotName → Option ℕ) → IsKept t look → (sub place : ℕ) → look (record { sub = sub; place = place }) ≡ None
    → (l : Link) → In (links_of t) l → is_named sub place (seat_of t.rows l) ≡ false
none_named t look kept sub place h l m = by_test (is_named sub place (seat_of t.rows l)) refl
  where
    by_test : (b : Bool) → is_named sub place (seat_of t.rows l) ≡ b → b ≡ false
    by_test true e =
        let n : name_of (row_of t.rows l.value).slot ≡ record { sub = sub; place = place } = named_name (row_of t.rows l.value).slot sub place e in
        absurd (nothing_there l.value (look (record { sub = sub; place = place })) h (ap look (sym n) ∙ (kept.own l m).named))
    by_test false e = refl

-- the seat of a name, by its node
pub named_is : (t : Table) (look : SlotName → Option ℕ) → IsKept t look → (sub place v : ℕ) → look (record { sub = sub; place = place }) ≡ Some v
    → (l : Link) → In (links_of t) l → is_named sub place (seat_of t.rows l) ≡ (l.node == (row_of t.rows v).node)
named_is t look kept sub place v h l m =
    bool_same (is_named sub place (seat_of t.rows l)) (l.node == (row_of t.rows v).node) (λ e. there e) (λ e. back (eqb-true l.node (row_of t.rows v).node e))
  where
    name : SlotName
    name = record { sub = sub; place = place }

    there : is_named sub place (seat_of t.rows l) ≡ true → (l.node == (row_of t.rows v).node) ≡ true
    there e =
        let n : name_of (row_of t.rows l.value).slot ≡ name = named_name (row_of t.rows l.value).slot sub place e in
        let p : look name ≡ Some l.value = ap look (sym n) ∙ (kept.own l m).named in
        let q : Some v ≡ Some l.value = sym h ∙ p in
        let s : v ≡ l.value = cc in
        eq-eqb l.node (row_of t.rows v).node (sym (ap (λ (k : ℕ). (row_of t.rows k).node) s ∙ (kept.own l m).node))

    back : l.node ≡ (row_of t.rows v).node → is_named sub place (seat_of t.rows l) ≡ true
    back e =
        let told : IsTold t name v = kept.told name v h in
        let n : (row_of t.rows v).node ≡ told.link.node = ap (λ (k : ℕ). (row_of t.rows k).node) (sym told.value) ∙ (kept.own told.link told.linked).node in
        let s : l ≡ told.link = one_link t look kept l told.link m told.linked (e ∙ n) in
        let w : l.value ≡ v = ap (λ (k : Link). k.value) s ∙ told.value in
        name_named (row_of t.rows l.value).slot sub place (ap (λ (k : ℕ). name_of (row_of t.rows k).slot) w ∙ told.name)
