-- A queue without its first key.
use Rattle.std.proofs.Common.{◌≡◌, ◌==◌, ℕ, suc, zero, ◌-◌, ◌<◌, List, [], ◌∷◌, ◌++◌, length, map, set, drop, get_or, refl, sym, ◌∙◌, ap, arith, cond, Bool, true, false, not}
use Rattle.std.proofs.Common.{Option, Some, None, subst, nat_lt, swap_remove}
use Rattle.std.specs.Prelude.{slice_get}
use Rattle.std.specs.Option.{option_map}
use Rattle.std.proofs.lemmas.Bool.{eqb-true, eq-eqb, ltb-true, ltb-false}
use Rattle.std.proofs.lemmas.List.{length-map, length-set, get_or-take, length-take-le, get_or-set_same, get_or-set_other, map-append, get_or_default}
use Rattle.std.proofs.lemmas.List.Elements.{filter-append}
use Rattle.std.proofs.lemmas.Option.{get_or_from_slice_get}
use Rattle.ls_links.specs.Chains.{Link, Chains, Apart, In, IsAt, IsLinked, is_node, without, link_given}
use Rattle.ls_links.proofs.Members.{nothing_there, differs, bool_same, filter_all, map_agree_in, append_in_left, map_in, in_map}
use Rattle.ls_command.specs.declared.kept.Kept.{Kept}
use Rattle.ls_command.specs.Command.{nodes_of, moved_value, values_turned}
use Rattle.ls_command.specs.Entries.{IsKept, IsOwn, linked_keys, entry_at, queued_of, queued_at, settled, keys_turned, no_entry}
use Rattle.ls_command.proofs.Placing.{maps_both, unlike, chained, Stands, stands, one_place, value_place, linked, same_keys}

-- the first node
abbrev pub first_node : List (List Link) → Option ℕ
first_node ls = option_map (λ l. l.node) (slice_get (nodes_of ls) 0)

pub first_of_first : (ls : List (List Link)) (node : ℕ) → option_map (λ l. l.node) (slice_get (get_or ls 0 []) 0) ≡ Some node → Some node ≡ first_node ls
first_of_first ls node h = by_case (get_or ls 0 []) h
  where
    by_case : (a : List Link) → option_map (λ l. l.node) (slice_get a 0) ≡ Some node → Some node ≡ option_map (λ l. l.node) (slice_get (a ++ get_or ls 1 []) 0)
    by_case [] h = absurd (nothing_there node None refl h)
    by_case (l ∷ a) h = sym h

pub first_of_second : (ls : List (List Link)) → option_map (λ l. l.node) (slice_get (get_or ls 0 []) 0) ≡ None
    → option_map (λ l. l.node) (slice_get (get_or ls 1 []) 0) ≡ first_node ls
first_of_second ls h = by_case (get_or ls 0 []) h
  where
    by_case : (a : List Link) → option_map (λ l. l.node) (slice_get a 0) ≡ None
        → option_map (λ l. l.node) (slice_get (get_or ls 1 []) 0) ≡ option_map (λ l. l.node) (slice_get (a ++ get_or ls 1 []) 0)
    by_case [] h = refl
    by_case (l ∷ a) h = absurd (nothing_there l.node (Some l.node) h refl)

-- a queue that has a first node
pub record Begins (ls : List (List Link)) (node : ℕ) : Type 0 where
  pub link : Link
  pub rest : List Link
  pub nodes : nodes_of ls ≡ link ∷ rest
  pub is : link.node ≡ node

pub begins : (ls : List (List Link)) (node : ℕ) → first_node ls ≡ Some node → Begins ls node
begins ls node h = by_case (nodes_of ls) refl h
  where
    by_case : (ns : List Link) → nodes_of ls ≡ ns → option_map (λ l. l.node) (slice_get ns 0) ≡ Some node → Begins ls node
    by_case [] is h = absurd (nothing_there node None refl h)
    by_case (l ∷ ns) is h = record { link = l; rest = ns; nodes = is; is = (let e : l.node ≡ node = cc in e) }

-- the lists after a change of each
pub list_changed : (f : List Link → List Link) → f [] ≡ [] → (ls : List (List Link)) (i : ℕ) → get_or (map f ls) i [] ≡ f (get_or ls i [])
list_changed f e [] i = sym e
list_changed f e (l ∷ ls) zero = refl
list_changed f e (l ∷ ls) (suc i) = list_changed f e ls i

nodes_without : (node : ℕ) (ls : List (List Link)) → nodes_of (map (without node) ls) ≡ without node (nodes_of ls)
nodes_without node ls =
    ap (λ (xs : List Link). xs ++ get_or (map (without node) ls) 1 []) (list_changed (without node) refl ls 0)
    ∙ ap (λ (xs : List Link). without node (get_or ls 0 []) ++ xs) (list_changed (without node) refl ls 1)
    ∙ sym (filter-append (λ l. not (is_node node l)) (get_or ls 0 []) (get_or ls 1 []))

nodes_given : (node value : ℕ) (ls : List (List Link)) → nodes_of (map (map (link_given node value)) ls) ≡ map (link_given node value) (nodes_of ls)
nodes_given node value ls =
    ap (λ (xs : List Link). xs ++ get_or (map (map (link_given node value)) ls) 1 []) (list_changed (map (link_given node value)) refl ls 0)
    ∙ ap (λ (xs : List Link). map (link_given node value) (get_or ls 0 []) ++ xs) (list_changed (map (link_given node value)) refl ls 1)
    ∙ sym (map-append (link_given node value) (get_or ls 0 []) (get_or ls 1 []))

-- a list without its first node, which stands there once
without_first : (node : ℕ) (l : Link) (rest : List Link) → l.node ≡ node → ((m : Link) → In rest m → m.node ≡ node → ⊥) → without node (l ∷ rest) ≡ rest
without_first node l rest is other =
    ap (λ (t : Bool). cond (not t) (l ∷ without node rest) (without node rest)) (eq-eqb l.node node is)
    ∙ filter_all (λ m. not (is_node node m)) rest (λ m i. ap not (unlike m.node node (other m i)))

-- the rest's nodes are others
others : (ls : List (List Link)) (node : ℕ) (b : Begins ls node) → Apart (chained ls) → (m : Link) → In b.rest m → m.node ≡ node → ⊥
others ls node b apart m i e =
    let first : slice_get (nodes_of ls) 0 ≡ Some b.link = ap (λ (ns : List Link). slice_get ns 0) b.nodes in
    let here : slice_get (nodes_of ls) (suc i.0) ≡ Some m = ap (λ (ns : List Link). slice_get ns (suc i.0)) b.nodes ∙ i.1 in
    let q : 0 ≡ suc i.0 = one_place ls apart 0 (suc i.0) b.link m first here (b.is ∙ sym e) in
    absurd (omega arith)

pub nodes_unlinked : (ls : List (List Link)) (node : ℕ) (b : Begins ls node) → Apart (chained ls) → nodes_of (map (without node) ls) ≡ b.rest
nodes_unlinked ls node b apart =
    nodes_without node ls ∙ ap (without node) b.nodes ∙ without_first node b.link b.rest b.is (others ls node b apart)

-- list 0 has one node less, if it has one
pub first_unlinked : (ls : List (List Link)) (node : ℕ) → Begins ls node → Apart (chained ls)
    → length (get_or (map (without node) ls) 0 []) ≡ length (get_or ls 0 []) - 1
first_unlinked ls node b apart =
    ap length (list_changed (without node) refl ls 0) ∙ by_case (get_or ls 0 []) refl
  where
    by_case : (a : List Link) → get_or ls 0 [] ≡ a → length (without node a) ≡ length a - 1
    by_case [] is = refl
    by_case (l ∷ a) is =
        let first : l ≡ b.link =
        (let e : Some l ≡ Some b.link = ap (λ (xs : List Link). slice_get (xs ++ get_or ls 1 []) 0) (sym is) ∙ ap (λ (ns : List Link). slice_get ns 0) b.nodes in cc) in
        ap length (without_first node l a (ap (λ (m : Link). m.node) first ∙ b.is)
        (λ m i e. (
        let here : slice_get (nodes_of ls) 0 ≡ Some l = ap (λ (xs : List Link). slice_get (xs ++ get_or ls 1 []) 0) is in
        let there : slice_get (nodes_of ls) (suc i.0) ≡ Some m =
        ap (λ (xs : List Link). slice_get (xs ++ get_or ls 1 []) (suc i.0)) is ∙ append_in_left a (get_or ls 1 []) i.0 m i.1 in
        let q : 0 ≡ suc i.0 = one_place ls apart 0 (suc i.0) l m here there (ap (λ (x : Link). x.node) first ∙ b.is ∙ sym e) in
        absurd (omega arith)
        )))
        ∙ omega arith

-- a list that is mapped to itself
unchanged : {A : Type 0} (f : A → A) (xs : List A) → ((x : A) → In xs x → f x ≡ x) → map f xs ≡ xs
unchanged f [] h = refl
unchanged f (x ∷ xs) h =
    rw (h x (zero, refl)) (ap (λ (ys : List _). x ∷ ys) (unchanged f xs (λ y m. h y (suc m.0, m.1))))

-- the entries after one was taken, whose place the last one took
pub record Swaps (es : List (List ℕ × Kept)) (p : ℕ) (fs : List (List ℕ × Kept)) : Type 0 where
  pub long : length fs ≡ length es - 1
  pub at : (v : ℕ) → v < length es - 1 → entry_at fs v ≡ cond (v == p) (entry_at es (length es - 1)) (entry_at es v)

pub swaps : (es : List (List ℕ × Kept)) (p : ℕ) (x : List ℕ × Kept) → p < length es → Swaps es p (swap_remove es p x)
swaps es p x w =
    record {
      long = length-take-le (length es - 1) (set es p last) (omega (arith, length-set es p last));
      at = λ v l. get_or-take (length es - 1) (set es p last) v no_entry l ∙ by_test v l (v == p) refl;
    }
  where
    last : List ℕ × Kept
    last = get_or es (length es - 1) x

    by_test : (v : ℕ) → v < length es - 1 → (t : Bool) → (v == p) ≡ t
        → entry_at (set es p last) v ≡ cond t (entry_at es (length es - 1)) (entry_at es v)
    by_test v l true e =
        subst (λ (n : ℕ). entry_at (set es p last) n ≡ entry_at es (length es - 1)) (sym (eqb-true v p e))
        (get_or-set_same es p last no_entry w ∙ get_or_default es (length es - 1) x no_entry (omega (arith, l)))
    by_test v l false e = get_or-set_other es p v last no_entry (λ q. differs (v == p) (eq-eqb v p q) e)

-- the place of the entry of the first key
pub record FirstPlace (es : List (List ℕ × Kept)) (ls : List (List Link)) (node p : ℕ) : Type 0 where
  pub begin : Begins ls node
  pub value : begin.link.value ≡ p
  pub within : p < length es

pub first_linked : (c : Chains) (node : ℕ) → first_node c.lists ≡ Some node → IsLinked c node
first_linked c node h =
    let b : Begins c.lists node = begins c.lists node h in
    subst (IsLinked c) b.is (linked c b.link (0, ap (λ (ns : List Link). slice_get ns 0) b.nodes))

pub first_place : (es : List (List ℕ × Kept)) (c : Chains) (node p : ℕ) → IsKept es c.lists → first_node c.lists ≡ Some node
    → ((list place value : ℕ) → IsAt c list place node value → p ≡ value) → FirstPlace es c.lists node p
first_place es c node p kept h told =
    let b : Begins c.lists node = begins c.lists node h in
    let first : slice_get (nodes_of c.lists) 0 ≡ Some b.link = ap (λ (ns : List Link). slice_get ns 0) b.nodes in
    let s : Stands c.lists 0 b.link = stands c.lists 0 b.link first in
    let e : p ≡ b.link.value =
    told s.list s.place b.link.value (subst (λ (n : ℕ). IsAt c s.list s.place n b.link.value) b.is s.here) in
    record { begin = b; value = sym e; within = omega (arith, e, (kept.own b.link (0, first)).within) }

-- the first key's turn: its node, the place of its entry, and the entries after it
pub record Turning (es : List (List ℕ × Kept)) (ls : List (List Link)) (node p : ℕ) (fs : List (List ℕ × Kept)) : Type 0 where
  pub kept : IsKept es ls
  pub first : FirstPlace es ls node p
  pub swap : Swaps es p fs

module _ (es : List (List ℕ × Kept)) (ls : List (List Link)) (node p : ℕ) (fs : List (List ℕ × Kept)) (t : Turning es ls node p fs) where
  abbrev rest : List Link
  rest = t.first.begin.rest

  abbrev last : ℕ
  last = length es - 1

  first_there : slice_get (nodes_of ls) 0 ≡ Some t.first.begin.link
  first_there = ap (λ (ns : List Link). slice_get ns 0) t.first.begin.nodes

  rest_there : (i : ℕ) (m : Link) → slice_get rest i ≡ Some m → slice_get (nodes_of ls) (suc i) ≡ Some m
  rest_there i m h = ap (λ (ns : List Link). slice_get ns (suc i)) t.first.begin.nodes ∙ h

  rest_long : length rest ≡ last
  rest_long = let n : suc (length rest) ≡ length es = sym (ap length t.first.begin.nodes) ∙ t.kept.count in omega arith

  -- the values of the other nodes are others
  other_value : (m : Link) → In rest m → m.value ≡ p → ⊥
  other_value m i e =
      let q : 0 ≡ suc i.0 = value_place es ls t.kept 0 (suc i.0) t.first.begin.link m first_there (rest_there i.0 m i.1) (t.first.value ∙ sym e) in
      absurd (omega arith)

  own_rest : (m : Link) → In rest m → IsOwn es m
  own_rest m i = t.kept.own m (suc i.0, rest_there i.0 m i.1)

  told_rest : (v : ℕ) → v < length es → (v ≡ p → ⊥) → In rest (record { node = (entry_at es v).1.node; value = v })
  told_rest v w ne = by_place (t.kept.told v w).0 (t.kept.told v w).1
    where
      l : Link
      l = record { node = (entry_at es v).1.node; value = v }

      by_place : (j : ℕ) → slice_get (nodes_of ls) j ≡ Some l → In rest l
      by_place zero h =
          let s : Some t.first.begin.link ≡ Some l = sym first_there ∙ h in
          let e : t.first.begin.link ≡ l = cc in
          absurd (ne (sym (ap (λ (m : Link). m.value) e) ∙ t.first.value))
      by_place (suc j) h = (j, sym (ap (λ (ns : List Link). slice_get ns (suc j)) t.first.begin.nodes) ∙ h)

  -- the node of the entry that takes the place
  moved_node : p < last → (entry_at fs p).1.node ≡ (entry_at es last).1.node
  moved_node l =
      ap (λ (x : List ℕ × Kept). x.1.node)
      (t.swap.at p l ∙ ap (λ (b : Bool). cond b (entry_at es last) (entry_at es p)) (eq-eqb p p refl))

  pub may_settle : (c : Chains) → c.lists ≡ map (without node) ls → p < length fs → IsLinked c (entry_at fs p).1.node
  may_settle c is l =
      let below : p < last = omega (arith, l, t.swap.long) in
      let m = told_rest last (omega (arith, below)) (λ e. omega (arith, e, below)) in
      let ns : nodes_of c.lists ≡ rest = ap nodes_of is ∙ nodes_unlinked ls node t.first.begin t.kept.apart in
      subst (IsLinked c) (sym (moved_node below))
      (linked c (record { node = (entry_at es last).1.node; value = last })
      (m.0, ap (λ (xs : List Link). slice_get xs m.0) ns ∙ m.1))

  -- each of the other links has its value, or that of the place
  abbrev renumbered : Link → Link
  renumbered l = record { node = l.node; value = moved_value last p l.value }

  by_value : p < last → (l : Link) → In rest l → (l.node == (entry_at fs p).1.node) ≡ (l.value == last)
  by_value b l m = bool_same (l.node == (entry_at fs p).1.node) (l.value == last) there back
    where
      there : (l.node == (entry_at fs p).1.node) ≡ true → (l.value == last) ≡ true
      there e =
          let k = told_rest last (omega (arith, b)) (λ q. omega (arith, q, b)) in
          let same : l.node ≡ (entry_at es last).1.node = eqb-true l.node (entry_at fs p).1.node e ∙ moved_node b in
          let q : suc m.0 ≡ suc k.0 =
          one_place ls t.kept.apart (suc m.0) (suc k.0) l _ (rest_there m.0 l m.1) (rest_there k.0 _ k.1) same in
          let s : Some l ≡ Some (record { node = (entry_at es last).1.node; value = last }) =
          sym m.1 ∙ ap (slice_get rest) {x = m.0} {y = k.0} (omega (arith, q)) ∙ k.1 in
          eq-eqb l.value last (ap (λ (x : Link). x.value) (let z : l ≡ record { node = (entry_at es last).1.node; value = last } = cc in z))

      back : (l.value == last) ≡ true → (l.node == (entry_at fs p).1.node) ≡ true
      back e =
          eq-eqb l.node (entry_at fs p).1.node
          (sym (own_rest l m).node ∙ ap (λ (n : ℕ). (entry_at es n).1.node) (eqb-true l.value last e) ∙ sym (moved_node b))

  given_is : (b : Bool) (l : Link) → cond b (record { node = l.node; value = p }) l ≡ record { node = l.node; value = cond b p l.value }
  given_is true l = refl
  given_is false l = refl

  abbrev ls' : List (List Link)
  ls' = settled p fs (map (without node) ls)

  nodes_settled : nodes_of ls' ≡ map renumbered rest
  nodes_settled = by_test (nat_lt p (length fs)) refl
    where
      by_test : (b : Bool) → nat_lt p (length fs) ≡ b
          → nodes_of (cond b (map (map (link_given (entry_at fs p).1.node p)) (map (without node) ls)) (map (without node) ls)) ≡ map renumbered rest
      by_test true e =
          let below : p < last = omega (arith, ltb-true p (length fs) e, t.swap.long) in
          nodes_given (entry_at fs p).1.node p (map (without node) ls)
          ∙ ap (map (link_given (entry_at fs p).1.node p)) (nodes_unlinked ls node t.first.begin t.kept.apart)
          ∙ map_agree_in (link_given (entry_at fs p).1.node p) renumbered rest
          (λ l m. ap (λ (b : Bool). cond b (record { node = l.node; value = p }) l) (by_value below l m) ∙ given_is (l.value == last) l)
      by_test false e =
          let is : p ≡ last = omega (arith, ltb-false p (length fs) e, t.swap.long, t.first.within) in
          nodes_unlinked ls node t.first.begin t.kept.apart
          ∙ sym (unchanged renumbered rest (λ l m. sym (given_is (l.value == last) l)
          ∙ ap (λ (b : Bool). cond b (record { node = l.node; value = p }) l) (unlike l.value last (λ q. other_value l m (q ∙ sym is)))))

  settled_lists : length ls' ≡ 2
  settled_lists = by_test (nat_lt p (length fs))
    where
      by_test : (b : Bool)
          → length (cond b (map (map (link_given (entry_at fs p).1.node p)) (map (without node) ls)) (map (without node) ls)) ≡ 2
      by_test true = length-map (map (without node) ls) _ ∙ length-map ls _ ∙ t.kept.lists
      by_test false = length-map ls _ ∙ t.kept.lists

  settled_first : length (get_or ls' 0 []) ≡ length (get_or ls 0 []) - 1
  settled_first = by_test (nat_lt p (length fs))
    where
      by_test : (b : Bool)
          → length (get_or (cond b (map (map (link_given (entry_at fs p).1.node p)) (map (without node) ls)) (map (without node) ls)) 0 [])
          ≡ length (get_or ls 0 []) - 1
      by_test true =
          ap length (list_changed (map (link_given (entry_at fs p).1.node p)) refl (map (without node) ls) 0)
          ∙ length-map (get_or (map (without node) ls) 0 []) _ ∙ first_unlinked ls node t.first.begin t.kept.apart
      by_test false = first_unlinked ls node t.first.begin t.kept.apart

  -- the entry of each of the other links
  moved_entry : (l : Link) → In rest l → (moved_value last p l.value < length fs) × (entry_at fs (moved_value last p l.value) ≡ entry_at es l.value)
  moved_entry l m = by_test (l.value == last) refl
    where
      w : l.value < length es
      w = (own_rest l m).within

      by_test : (b : Bool) → (l.value == last) ≡ b → (cond b p l.value < length fs) × (entry_at fs (cond b p l.value) ≡ entry_at es l.value)
      by_test true e =
          let is : l.value ≡ last = eqb-true l.value last e in
          let below : p < last = omega (arith, t.first.within, (λ (q : p ≡ last). other_value l m (is ∙ sym q))) in (
            omega (arith, below, t.swap.long),
            t.swap.at p below ∙ ap (λ (b : Bool). cond b (entry_at es last) (entry_at es p)) (eq-eqb p p refl) ∙ ap (entry_at es) (sym is),
          )
      by_test false e =
          let below : l.value < last = omega (arith, w, (λ (q : l.value ≡ last). differs (l.value == last) (eq-eqb l.value last q) e)) in (
            omega (arith, below, t.swap.long),
            t.swap.at l.value below ∙ ap (λ (b : Bool). cond b (entry_at es last) (entry_at es l.value)) (unlike l.value p (other_value l m)),
          )

  turned_own : (l : Link) → In (nodes_of ls') l → IsOwn fs l
  turned_own l m =
      let k = in_map renumbered rest m.0 l (ap (λ (xs : List Link). slice_get xs m.0) (sym nodes_settled) ∙ m.1) in
      let e = moved_entry k.0 (m.0, k.1) in
      subst (IsOwn fs) k.2
      (record { within = e.0; node = ap (λ (x : List ℕ × Kept). x.1.node) e.1 ∙ (own_rest k.0 (m.0, k.1)).node })

  turned_told : (v : ℕ) → v < length fs → In (nodes_of ls') (record { node = (entry_at fs v).1.node; value = v })
  turned_told v w = by_test (v == p) refl
    where
      below : v < last
      below = omega (arith, w, t.swap.long)

      here : (u : ℕ) → u < length es → (u ≡ p → ⊥) → (entry_at es u).1.node ≡ (entry_at fs v).1.node → moved_value last p u ≡ v
          → In (nodes_of ls') (record { node = (entry_at fs v).1.node; value = v })
      here u l ne same to =
          let k = told_rest u l ne in (
            k.0,
            ap (λ (xs : List Link). slice_get xs k.0) nodes_settled ∙ map_in renumbered rest k.0 _ k.1
                ∙ ap (λ (n : ℕ). Some (record { node = n; value = moved_value last p u })) same
                ∙ ap (λ (n : ℕ). Some (record { node = (entry_at fs v).1.node; value = n })) to,
          )

      by_test : (b : Bool) → (v == p) ≡ b → In (nodes_of ls') (record { node = (entry_at fs v).1.node; value = v })
      by_test true e =
          let is : v ≡ p = eqb-true v p e in
          here last (omega (arith, below)) (λ q. omega (arith, q, is, below))
          (ap (λ (x : List ℕ × Kept). x.1.node) (sym (t.swap.at v below ∙ ap (λ (b : Bool). cond b (entry_at es last) (entry_at es v)) e)))
          (ap (λ (b : Bool). cond b p last) (eq-eqb last last refl) ∙ sym is)
      by_test false e =
          here v (omega (arith, below)) (λ q. differs (v == p) (eq-eqb v p q) e)
          (ap (λ (x : List ℕ × Kept). x.1.node) (sym (t.swap.at v below ∙ ap (λ (b : Bool). cond b (entry_at es last) (entry_at es v)) e)))
          (ap (λ (b : Bool). cond b p v) (unlike v last (λ q. omega (arith, q, below))))

  pub turned_kept : Apart (chained ls') → IsKept fs ls'
  turned_kept apart =
      record {
        lists = settled_lists;
        apart = apart;
        own = turned_own;
        told = turned_told;
        count = ap length nodes_settled ∙ length-map rest renumbered ∙ rest_long ∙ sym t.swap.long;
      }

  pub turned_keys : linked_keys fs ls' ≡ keys_turned (linked_keys es ls)
  turned_keys =
      same_keys _ _ _ _ _ _
      (ap (map (queued_at fs)) nodes_settled ∙ maps_both (queued_at fs) renumbered rest
      ∙ map_agree_in (λ l. queued_at fs (renumbered l)) (queued_at es) rest (λ l m. ap queued_of (moved_entry l m).1)
      ∙ sym (ap (λ (ns : List Link). drop 1 (map (queued_at es) ns)) t.first.begin.nodes))
      (ap (map (λ l. l.value)) nodes_settled ∙ maps_both (λ l. l.value) renumbered rest
      ∙ sym (ap (λ (ns : List Link). values_turned (map (λ l. l.value) ns)) t.first.begin.nodes
      ∙ ap (λ (n : ℕ). map (moved_value n t.first.begin.link.value) (map (λ l. l.value) rest)) (length-map rest _ ∙ rest_long)
      ∙ ap (λ (n : ℕ). map (moved_value last n) (map (λ l. l.value) rest)) t.first.value
      ∙ maps_both (moved_value last p) (λ l. l.value) rest))
      settled_first

  pub first_key : (x : List ℕ × Kept) → slice_get es p ≡ Some x → slice_get (linked_keys es ls).keys 0 ≡ Some (queued_of x)
  first_key x h =
      map_in (queued_at es) (nodes_of ls) 0 t.first.begin.link first_there
      ∙ ap (λ (n : ℕ). Some (queued_of (entry_at es n))) t.first.value
      ∙ ap (λ (y : List ℕ × Kept). Some (queued_of y)) (get_or_from_slice_get es p x no_entry h)

-- what a call that takes the first key out leaves
pub record Takes (es : List (List ℕ × Kept)) (ls : List (List Link)) (x : List ℕ × Kept) (fs : List (List ℕ × Kept)) (ls2 : List (List Link)) : Type 0 where
  pub kept : IsKept fs ls2
  pub first : slice_get (linked_keys es ls).keys 0 ≡ Some (queued_of x)
  pub rest : linked_keys fs ls2 ≡ keys_turned (linked_keys es ls)

turning : (es : List (List ℕ × Kept)) (ls : List (List Link)) (node p : ℕ) (x : List ℕ × Kept) (fs : List (List ℕ × Kept)) → IsKept es ls
    → FirstPlace es ls node p → fs ≡ swap_remove es p x → Turning es ls node p fs
turning es ls node p x fs kept first is =
    record { kept = kept; first = first; swap = subst (Swaps es p) (sym is) (swaps es p x first.within) }

pub takes : (es : List (List ℕ × Kept)) (ls : List (List Link)) (node p : ℕ) (x : List ℕ × Kept) (fs : List (List ℕ × Kept)) (ls1 ls2 : List (List Link))
    → IsKept es ls → FirstPlace es ls node p → slice_get es p ≡ Some x → fs ≡ swap_remove es p x → ls1 ≡ map (without node) ls
    → ls2 ≡ settled p fs ls1 → Apart (chained ls2) → Takes es ls x fs ls2
takes es ls node p x fs ls1 ls2 kept first at is one two apart =
    let t : Turning es ls node p fs = turning es ls node p x fs kept first is in
    let e : ls2 ≡ settled p fs (map (without node) ls) = two ∙ ap (settled p fs) one in
    record {
      kept = subst (IsKept fs) (sym e) (turned_kept es ls node p fs t (subst (λ (xs : List (List Link)). Apart (chained xs)) e apart));
      first = first_key es ls node p fs t x at;
      rest = subst (λ (xs : List (List Link)). linked_keys fs xs ≡ keys_turned (linked_keys es ls)) (sym e) (turned_keys es ls node p fs t);
    }

pub settles : (es : List (List ℕ × Kept)) (ls : List (List Link)) (node p : ℕ) (x : List ℕ × Kept) (fs : List (List ℕ × Kept)) (c : Chains)
    → IsKept es ls → FirstPlace es ls node p → fs ≡ swap_remove es p x → c.lists ≡ map (without node) ls → p < length fs
    → IsLinked c (entry_at fs p).1.node
settles es ls node p x fs c kept first is one l = may_settle es ls node p fs (turning es ls node p x fs kept first is) c one l

-- the first key, by the place of its entry
pub first_seen : (es : List (List ℕ × Kept)) (ls : List (List Link)) (node p : ℕ) → FirstPlace es ls node p
    → slice_get (linked_keys es ls).keys 0 ≡ Some (queued_of (entry_at es p))
first_seen es ls node p f =
    map_in (queued_at es) (nodes_of ls) 0 f.begin.link (ap (λ (ns : List Link). slice_get ns 0) f.begin.nodes)
    ∙ ap (λ (n : ℕ). Some (queued_of (entry_at es n))) f.value

-- a queue that has no first node has no key
no_nodes : (ls : List (List Link)) → first_node ls ≡ None → nodes_of ls ≡ []
no_nodes ls h = by_case (nodes_of ls) h
  where
    by_case : (ns : List Link) → option_map (λ l. l.node) (slice_get ns 0) ≡ None → ns ≡ []
    by_case [] e = refl
    by_case (l ∷ ns) e = absurd (nothing_there l.node (Some l.node) e refl)

pub none_seen : (es : List (List ℕ × Kept)) (ls : List (List Link)) → first_node ls ≡ None → slice_get (linked_keys es ls).keys 0 ≡ None
none_seen es ls h = ap (λ (ns : List Link). slice_get (map (queued_at es) ns) 0) (no_nodes ls h)

pub none_turned : (es : List (List ℕ × Kept)) (ls : List (List Link)) → first_node ls ≡ None → linked_keys es ls ≡ keys_turned (linked_keys es ls)
none_turned es ls h =
    same_keys _ _ _ _ _ _
    (ap (map (queued_at es)) none ∙ sym (ap (λ (ns : List Link). drop 1 (map (queued_at es) ns)) none))
    (ap (map (λ (l : Link). l.value)) none ∙ sym (ap (λ (ns : List Link). values_turned (map (λ l. l.value) ns)) none))
    (omega (arith, none_first))
  where
    none : nodes_of ls ≡ []
    none = no_nodes ls h

    none_first : length (get_or ls 0 []) ≡ 0
    none_first = by_case (get_or ls 0 []) none
      where
        by_case : (a : List Link) → a ++ get_or ls 1 [] ≡ [] → length a ≡ 0
        by_case [] e = refl
        by_case (l ∷ a) e = absurd (nothing_there l (Some l) (ap (λ (ns : List Link). slice_get ns 0) e) refl)
