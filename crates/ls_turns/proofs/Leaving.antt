-- What is kept of a round, as a slot goes to the back or leaves.
use Rattle.std.proofs.Common.{◌≡◌, ◌==◌, ◌&&◌, ℕ, ◌+◌, ◌≤◌, ◌<◌, List, [], ◌∷◌, ◌++◌, length, map, get_or, refl, sym, ◌∙◌, ap, arith, cond, Bool, true, false}
use Rattle.std.proofs.Common.{not, Some, None, Option, subst, length-append, inl, inr}
use Rattle.std.specs.Prelude.{slice_get, ◌⊎◌}
use Rattle.std.specs.List.{filter}
use Rattle.std.proofs.lemmas.Bool.{eqb-true, eq-eqb}
use Rattle.std.proofs.lemmas.List.{map-append, append-nil, length-map, length_push}
use Rattle.std.proofs.lemmas.List.Filters.{length-filter_both}
use Rattle.std.proofs.lemmas.Option.{slice_get_within}
use Rattle.ls_links.specs.Chains.{In, Link, Apart, IsLinked, is_node, without, with_last, unlinked, moved_back}
use Rattle.ls_turns.specs.declared.row.SlotName.{SlotName}
use Rattle.ls_turns.specs.Round.{Seat, is_named, gave, left_one}
use Rattle.ls_turns.specs.Seats.{is_name}
use Rattle.ls_turns.specs.Kept.{Table, IsOwn, IsTold, IsFree, IsKept, HasRoom, IsSound, links_of, round_of, seat_of, row_of, name_of}
use Rattle.ls_links.proofs.Members.{nothing_there, differs, filter_agree_in, filter_map, filter_none, filter_all, in_filter, filter_in, in_append}
use Rattle.ls_links.proofs.Members.{append_in_left, append_in_right, in_push, one_passes}
use Rattle.ls_turns.proofs.Reading.{one_place, one_link, member_linked, named_is, none_named}

abbrev pub named : ℕ → ℕ → SlotName
named sub place = record { sub = sub; place = place }

rounds_same : (a b : List Seat) (t : Table) → a ≡ b → record (round_of t) { seats = a } ≡ record (round_of t) { seats = b }
rounds_same a b t e = rw e refl

-- of a name that has no seat nothing changes
named_false : (t : Table) (look : SlotName → Option ℕ) → IsKept t look → (sub place : ℕ) → look (named sub place) ≡ None
    → (filter (λ s. not (is_named sub place s)) (round_of t).seats ≡ (round_of t).seats) × (filter (is_named sub place) (round_of t).seats ≡ [])
named_false t look kept sub place h = (
  filter_map (seat_of t.rows) (λ s. not (is_named sub place s)) (links_of t)
      ∙ ap (map (seat_of t.rows)) (filter_all (λ l. not (is_named sub place (seat_of t.rows l))) (links_of t) (λ l m. ap not
      (none_named t look kept sub place h l m))),
  filter_map (seat_of t.rows) (is_named sub place) (links_of t)
      ∙ ap (map (seat_of t.rows)) (filter_none (λ l. is_named sub place (seat_of t.rows l)) (links_of t) (none_named t look kept sub place h)),
)

pub left_none : (t : Table) (look : SlotName → Option ℕ) → IsKept t look → (sub place : ℕ) → look (named sub place) ≡ None
    → round_of t ≡ left_one sub place (round_of t)
left_none t look kept sub place h = rounds_same _ _ t (sym (named_false t look kept sub place h).0)

pub gave_none : (t : Table) (look : SlotName → Option ℕ) → IsKept t look → (sub place : ℕ) → look (named sub place) ≡ None
    → round_of t ≡ gave sub place (round_of t)
gave_none t look kept sub place h =
    let e = named_false t look kept sub place h in
    rounds_same _ _ t (sym (ap (λ (ss : List Seat). filter (λ s. not (is_named sub place s)) (round_of t).seats ++ ss) e.1
    ∙ append-nil (filter (λ s. not (is_named sub place s)) (round_of t).seats) ∙ e.0))

-- the seats of those that were filtered by a node
seats_without : (t : Table) (look : SlotName → Option ℕ) → IsKept t look → (sub place v : ℕ) → look (named sub place) ≡ Some v
    → map (seat_of t.rows) (without (row_of t.rows v).node (links_of t)) ≡ filter (λ s. not (is_named sub place s)) (round_of t).seats
seats_without t look kept sub place v h =
    ap (map (seat_of t.rows)) (filter_agree_in (λ l. not (is_node (row_of t.rows v).node l)) (λ l. not (is_named sub place (seat_of t.rows l))) (links_of t)
    (λ l m. ap not (sym (named_is t look kept sub place v h l m))))
    ∙ sym (filter_map (seat_of t.rows) (λ s. not (is_named sub place s)) (links_of t))

seats_with : (t : Table) (look : SlotName → Option ℕ) → IsKept t look → (sub place v : ℕ) → look (named sub place) ≡ Some v
    → map (seat_of t.rows) (filter (is_node (row_of t.rows v).node) (links_of t)) ≡ filter (is_named sub place) (round_of t).seats
seats_with t look kept sub place v h =
    ap (map (seat_of t.rows)) (filter_agree_in (is_node (row_of t.rows v).node) (λ l. is_named sub place (seat_of t.rows l)) (links_of t)
    (λ l m. sym (named_is t look kept sub place v h l m)))
    ∙ sym (filter_map (seat_of t.rows) (is_named sub place) (links_of t))

-- list 0 after a change of each list
list_mapped : (f : List Link → List Link) → f [] ≡ [] → (ls : List (List Link)) → get_or (map f ls) 0 [] ≡ f (get_or ls 0 [])
list_mapped f e [] = sym e
list_mapped f e (l ∷ ls) = refl

pub one_list_mapped : (f : List Link → List Link) (ls : List (List Link)) → length ls ≡ 1 → length (map f ls) ≡ 1
one_list_mapped f ls e = length-map ls f ∙ e

-- a slot's node goes to the back
abbrev pub at_back : Table → ℕ → Table
at_back t node = record t { chains = moved_back node t.chains }

back_list : (t : Table) (node : ℕ) → links_of (at_back t node) ≡ with_last node (links_of t)
back_list t node = list_mapped (with_last node) refl t.chains.lists

from_back : (node : ℕ) (xs : List Link) (l : Link) → In (with_last node xs) l → In xs l
from_back node xs l m = by_case (in_append (without node xs) (filter (is_node node) xs) l m)
  where
    by_case : In (without node xs) l ⊎ In (filter (is_node node) xs) l → In xs l
    by_case (inl a) = (in_filter (λ x. not (is_node node x)) xs l a).0
    by_case (inr b) = (in_filter (is_node node) xs l b).0

to_back : (node : ℕ) (xs : List Link) (l : Link) → In xs l → In (with_last node xs) l
to_back node xs l m = by_test (is_node node l) refl
  where
    by_test : (v : Bool) → is_node node l ≡ v → In (with_last node xs) l
    by_test true e = append_in_right (without node xs) (filter (is_node node) xs) l (filter_in (is_node node) xs l m e)
    by_test false e =
        let r = filter_in (λ x. not (is_node node x)) xs l m (ap not e) in
        (r.0, append_in_left (without node xs) (filter (is_node node) xs) r.0 l r.1)

pub back_sound : (t : Table) (look : SlotName → Option ℕ) (names most : ℕ) → IsSound t look names most → (node : ℕ) → Apart (moved_back node t.chains)
    → IsSound (at_back t node) look names most
back_sound t look names most sound node apart =
    let kept : IsKept t look = sound.kept in
    let room : HasRoom t names most = sound.room in
    let is = back_list t node in
    record {
      kept = record {
        lists = one_list_mapped (with_last node) t.chains.lists kept.lists;
        apart = apart;
        own = λ l m. own l (from_back node (links_of t) l (subst (λ (xs : List Link). In xs l) is m));
        told = λ n v h. (
            let old : IsTold t n v = kept.told n v h in
            record {
              link = old.link;
              linked = subst (λ (xs : List Link). In xs old.link) (sym is) (to_back node (links_of t)
                  old.link old.linked);
              value = old.value;
              name = old.name;
            }
            );
        free = λ v m. (
            let old : IsFree t v = kept.free v m in
            record { within = old.within; unlinked = λ l a e. old.unlinked l (from_back node (links_of t) l (subst (λ (xs : List Link). In xs l) is a)) e }
            );
        once = kept.once;
      };
      room = record {
        links = room.links;
        names_spare = room.names_spare;
        seats = room.seats;
        all = (
            let a : length (links_of (at_back t node)) ≡ length (without node (links_of t)) + length (filter (is_node node) (links_of t)) =
            ap length is ∙ length-append (without node (links_of t)) (filter (is_node node) (links_of t)) in
            let b : length (filter (is_node node) (links_of t)) + length (without node (links_of t)) ≡ length (links_of t) =
            length-filter_both (is_node node) (λ x. not (is_node node x)) (λ x. refl) (links_of t) in
            let c : length t.free + length (links_of t) ≡ length t.rows = room.all in
            omega arith
            );
        free_room = room.free_room;
      };
    }
  where
    own : (l : Link) → In (links_of t) l → IsOwn (at_back t node) look l
    own l m = let o : IsOwn t look l = sound.kept.own l m in record { within = o.within; node = o.node; named = o.named; low = o.low }

pub back_view : (t : Table) (look : SlotName → Option ℕ) → IsKept t look → (sub place v : ℕ) → look (named sub place) ≡ Some v
    → round_of (at_back t (row_of t.rows v).node) ≡ gave sub place (round_of t)
back_view t look kept sub place v h =
    let node = (row_of t.rows v).node in
    rounds_same _ _ t
    (ap (map (seat_of t.rows)) (back_list t node) ∙ map-append (seat_of t.rows) (without node (links_of t)) (filter (is_node node) (links_of t))
    ∙ ap (λ (ss : List Seat). ss ++ map (seat_of t.rows) (filter (is_node node) (links_of t))) (seats_without t look kept sub place v h)
    ∙ ap (λ (ss : List Seat). filter (λ s. not (is_named sub place s)) (round_of t).seats ++ ss) (seats_with t look kept sub place v h))

-- what a name's seat is
pub record Seated (t : Table) (v : ℕ) : Type 0 where
  pub within : v < length t.rows
  pub linked : IsLinked t.chains (row_of t.rows v).node

pub seated : (t : Table) (look : SlotName → Option ℕ) → IsKept t look → (n : SlotName) (v : ℕ) → look n ≡ Some v → Seated t v
seated t look kept n v h =
    let told : IsTold t n v = kept.told n v h in
    let own : IsOwn t look told.link = kept.own told.link told.linked in
    record {
      within = subst (λ (k : ℕ). k < length t.rows) told.value own.within;
      linked = subst (λ (k : ℕ). IsLinked t.chains k) (sym (ap (λ (k : ℕ). (row_of t.rows k).node) (sym told.value) ∙ own.node))
          (member_linked t told.link told.linked);
    }

-- a slot leaves
abbrev pub gone : Table → ℕ → ℕ → Table
gone t node v = record t { chains = unlinked node t.chains; free = t.free ++ v ∷ [] }

gone_list : (t : Table) (node v : ℕ) → links_of (gone t node v) ≡ without node (links_of t)
gone_list t node v = list_mapped (without node) refl t.chains.lists

pub gone_view : (t : Table) (look : SlotName → Option ℕ) → IsKept t look → (sub place v : ℕ) → look (named sub place) ≡ Some v
    → round_of (gone t (row_of t.rows v).node v) ≡ left_one sub place (round_of t)
gone_view t look kept sub place v h =
    rounds_same _ _ t (ap (map (seat_of t.rows)) (gone_list t (row_of t.rows v).node v) ∙ seats_without t look kept sub place v h)

pub is_name_same : (a b : SlotName) → is_name a b ≡ true → a ≡ b
is_name_same a b e = by_test (a.sub == b.sub) refl e
  where
    by_test : (x : Bool) → (a.sub == b.sub) ≡ x → (x && (a.place == b.place)) ≡ true → a ≡ b
    by_test true p q =
        let s : a.sub ≡ b.sub = eqb-true a.sub b.sub p in
        let r : a.place ≡ b.place = eqb-true a.place b.place q in
        subst (λ (y : ℕ). a ≡ record { sub = b.sub; place = y }) r (subst (λ (y : ℕ). a ≡ record { sub = y; place = a.place }) s refl)
    by_test false p q = absurd (differs false q refl)

pub name_is_itself : (a : SlotName) → is_name a a ≡ true
name_is_itself a = rw (eq-eqb a.sub a.sub refl) (eq-eqb a.place a.place refl)

-- the seats of other names stay
pub other_name : (t : Table) (look : SlotName → Option ℕ) → IsKept t look → (n : SlotName) (v : ℕ) → look n ≡ Some v → (l : Link) → In (links_of t) l
    → (l.node ≡ (row_of t.rows v).node → ⊥) → is_name n (name_of (row_of t.rows l.value).slot) ≡ false
other_name t look kept n v h l m ne = by_test (is_name n (name_of (row_of t.rows l.value).slot)) refl
  where
    by_test : (b : Bool) → is_name n (name_of (row_of t.rows l.value).slot) ≡ b → b ≡ false
    by_test true e =
        let s : n ≡ name_of (row_of t.rows l.value).slot = is_name_same n (name_of (row_of t.rows l.value).slot) e in
        let q : Some v ≡ Some l.value = sym h ∙ ap look s ∙ (kept.own l m).named in
        let w : v ≡ l.value = cc in
        absurd (ne (sym (ap (λ (k : ℕ). (row_of t.rows k).node) w ∙ (kept.own l m).node)))
    by_test false e = refl

in_gone : (t : Table) (node v : ℕ) (l : Link) → In (links_of (gone t node v)) l → In (links_of t) l × (l.node ≡ node → ⊥)
in_gone t node v l m =
    let r = in_filter (λ x. not (is_node node x)) (links_of t) l (subst (λ (xs : List Link). In xs l) (gone_list t node v) m) in
    (r.0, λ e. differs (is_node node l) (eq-eqb l.node node e) (not_false (is_node node l) r.1))
  where
    not_false : (b : Bool) → not b ≡ true → b ≡ false
    not_false true h = sym h
    not_false false h = refl

once_push : (free : List ℕ) (v : ℕ) → ((i j w : ℕ) → slice_get free i ≡ Some w → slice_get free j ≡ Some w → i ≡ j) → (In free v → ⊥)
    → (i j w : ℕ) → slice_get (free ++ v ∷ []) i ≡ Some w → slice_get (free ++ v ∷ []) j ≡ Some w → i ≡ j
once_push free v once new i j w a b = by_cases (in_push free v i w a) (in_push free v j w b)
  where
    by_cases : (slice_get free i ≡ Some w) ⊎ ((i ≡ length free) × (v ≡ w)) → (slice_get free j ≡ Some w) ⊎ ((j ≡ length free) × (v ≡ w)) → i ≡ j
    by_cases (inl p) (inl q) = once i j w p q
    by_cases (inl p) (inr q) = absurd (new (i, p ∙ ap (λ (k : ℕ). Some k) (sym q.1)))
    by_cases (inr p) (inl q) = absurd (new (j, q ∙ ap (λ (k : ℕ). Some k) (sym p.1)))
    by_cases (inr p) (inr q) = p.0 ∙ sym q.0

pub gone_sound : (t : Table) (look : SlotName → Option ℕ) (names most : ℕ) → IsSound t look names most → (n : SlotName) (v : ℕ) → look n ≡ Some v
    → Apart (unlinked (row_of t.rows v).node t.chains) → (look' : SlotName → Option ℕ) → ((m : SlotName) → look' m ≡ cond (is_name n m) None (look m))
    → (names' most' : ℕ) → names ≤ names' → most ≤ most' → IsSound (gone t (row_of t.rows v).node v) look' names' most'
gone_sound t look names most sound n v h apart look' after names' most' more cap =
    let kept : IsKept t look = sound.kept in
    let room : HasRoom t names most = sound.room in
    record {
      kept = record {
        lists = one_list_mapped (without node) t.chains.lists kept.lists;
        apart = apart;
        own = own;
        told = told;
        free = λ w m. free w m.0 (in_push t.free v m.0 w m.1);
        once = once_push t.free v kept.once (λ m. (kept.free v m).unlinked link_v.link link_v.linked link_v.value);
      };
      room = record {
        links = (let a : t.spare ≤ t.chains.spare = room.links in omega arith);
        names_spare = (let a : t.spare ≤ names = room.names_spare in omega arith);
        seats = (let a : t.spare ≤ length t.free = room.seats in let l : length (t.free ++ v ∷ []) ≡ length t.free + 1 = length_push t.free v in omega arith);
        all = (
            let l : length (t.free ++ v ∷ []) ≡ length t.free + 1 = length_push t.free v in
            let a : length t.free + length (links_of t) ≡ length t.rows = room.all in
            let b : length (filter (is_node node) (links_of t)) + length (without node (links_of t)) ≡ length (links_of t) =
            length-filter_both (is_node node) (λ x. not (is_node node x)) (λ x. refl) (links_of t) in
            let c : length (links_of (gone t node v)) ≡ length (without node (links_of t)) = ap length (gone_list t node v) in
            let d : length (filter (is_node node) (links_of t)) ≡ 1 = one in
            omega arith
            );
        free_room = (let a : length t.rows ≤ most = room.free_room in omega arith);
      };
    }
  where
    node : ℕ
    node = (row_of t.rows v).node

    link_v : IsTold t n v
    link_v = sound.kept.told n v h

    node_v : link_v.link.node ≡ node
    node_v = sym (ap (λ (k : ℕ). (row_of t.rows k).node) (sym link_v.value) ∙ (sound.kept.own link_v.link link_v.linked).node)

    one : length (filter (is_node node) (links_of t)) ≡ 1
    one =
        one_passes (is_node node) (links_of t) link_v.linked.0 link_v.link link_v.linked.1 (eq-eqb link_v.link.node node node_v)
        (λ j y a b. one_place t look sound.kept j link_v.linked.0 y link_v.link a link_v.linked.1 (eqb-true y.node node b ∙ sym node_v))

    own : (l : Link) → In (links_of (gone t node v)) l → IsOwn (gone t node v) look' l
    own l m =
        let r = in_gone t node v l m in
        let o : IsOwn t look l = sound.kept.own l r.0 in
        record {
          within = o.within;
          node = o.node;
          named = after (name_of (row_of t.rows l.value).slot)
              ∙ ap (λ (b : Bool). cond b None (look (name_of (row_of t.rows l.value).slot))) (other_name t look sound.kept n v h l r.0 r.1) ∙ o.named;
          low = o.low;
        }

    told : (m : SlotName) (w : ℕ) → look' m ≡ Some w → IsTold (gone t node v) m w
    told m w g = by_test (is_name n m) refl (sym (after m) ∙ g)
      where
        by_test : (b : Bool) → is_name n m ≡ b → cond b None (look m) ≡ Some w → IsTold (gone t node v) m w
        by_test true e p = absurd (nothing_there w None refl p)
        by_test false e p =
            let old : IsTold t m w = sound.kept.told m w p in
            let ne : old.link.node ≡ node → ⊥ = λ q.
            (let s : old.link ≡ link_v.link = one_link t look sound.kept old.link link_v.link old.linked link_v.linked (q ∙ sym node_v) in
            let x : w ≡ v = sym old.value ∙ ap (λ (k : Link). k.value) s ∙ link_v.value in
            let y : m ≡ n = sym old.name ∙ ap (λ (k : ℕ). name_of (row_of t.rows k).slot) x ∙ link_v.name in
            differs (is_name n m) (ap (is_name n) y ∙ name_is_itself n) e) in
            record {
              link = old.link;
              linked = subst (λ (xs : List Link). In xs old.link) (sym (gone_list t node v))
                  (filter_in (λ x. not (is_node node x)) (links_of t) old.link old.linked (ap not (false_of old.link.node ne)));
              value = old.value;
              name = old.name;
            }
          where
            false_of : (k : ℕ) → (k ≡ node → ⊥) → (k == node) ≡ false
            false_of k ne = by_eq (k == node) refl
              where
                by_eq : (b : Bool) → (k == node) ≡ b → b ≡ false
                by_eq true q = absurd (ne (eqb-true k node q))
                by_eq false q = refl

    free : (w i : ℕ) → (slice_get t.free i ≡ Some w) ⊎ ((i ≡ length t.free) × (v ≡ w)) → IsFree (gone t node v) w
    free w i (inl a) =
        let old : IsFree t w = sound.kept.free w (i, a) in
        record { within = old.within; unlinked = λ l m e. old.unlinked l (in_gone t node v l m).0 e }
    free w i (inr a) =
        record {
          within = subst (λ (k : ℕ). k < length t.rows) (link_v.value ∙ a.1) (sound.kept.own link_v.link link_v.linked).within;
          unlinked = λ l m e. (
              let r = in_gone t node v l m in
              r.1 (sym (ap (λ (k : ℕ). (row_of t.rows k).node) (a.1 ∙ sym e) ∙ (sound.kept.own l r.0).node))
              );
        }

-- there is room for it among the free seats
pub room_for_gone : (t : Table) (look : SlotName → Option ℕ) (names most : ℕ) → IsSound t look names most → (n : SlotName) (v : ℕ) → look n ≡ Some v
    → length t.free < most
room_for_gone t look names most sound n v h =
    let told : IsTold t n v = sound.kept.told n v h in
    let some : told.linked.0 < length (links_of t) = slice_get_within (links_of t) told.linked.0 told.link told.linked.1 in
    let a : length t.free + length (links_of t) ≡ length t.rows = sound.room.all in
    let b : length t.rows ≤ most = sound.room.free_room in
    omega arith
