-- Where a node stands, by what is seen of the lists and by what is kept.
use Rattle.std.proofs.Common.{◌≡◌, ℕ, suc, zero, ◌+◌, ◌-◌, ◌<◌, ◌≤◌, List, [], ◌∷◌, ◌++◌, length, get_or, map, refl, sym, ◌∙◌, ap, arith, Bool, true, false}
use Rattle.std.proofs.Common.{subst, length-append, Some, None, Option}
use Rattle.std.specs.Prelude.{slice_get, nat_lt}
use Rattle.std.specs.Option.{option_map, unwrap_or}
use Rattle.std.specs.List.{range_with_len, sum_by}
use Rattle.std.proofs.lemmas.Bool.{ltb-true, ltb-false, lt-ltb, le-ltb}
use Rattle.std.proofs.lemmas.List.{get_or_past, length-set}
use Rattle.std.proofs.lemmas.List.FromFn.{get_or-map-range_with_len, length-map-range_with_len}
use Rattle.std.proofs.lemmas.List.Sums.{get_or-le-sum_by, sum_by-set}
use Rattle.ls_links.specs.declared.node.Node.{Node}
use Rattle.ls_links.specs.Chains.{Link, IsAt, Apart, list_of, link_at, node_at}
use Rattle.ls_links.specs.Nodes.{LinkedNodes, Each, Chain, IsOf, IsRing, IsSound, MayShift, ring, link_of, links_of, chains_of, node_of, after_of, before_of, detached}
use Rattle.ls_links.specs.Nodes.{one_less, proper}
use Rattle.ls_links.proofs.Chaining.{Lacks, chain_right, chains_agree, each_right}
use Rattle.ls_links.proofs.Writes.{IsBetween, IsPutAt, detached_length}
use Rattle.ls_links.proofs.Rings.{Found, found_own, own_lacks, Cut, cut_rings, rings_of, between}
use Rattle.ls_links.proofs.Shifts.{put_at, some_found}

-- a node stands at a place of a ring
pub record Stands (k : LinkedNodes) (list place node value : ℕ) : Type 0 where
  pub within : list < k.free
  pub here : slice_get (ring k list) place ≡ Some node
  pub valued : (node_of k.nodes node).value ≡ value

pub list_is : (k : LinkedNodes) (list : ℕ) → list < k.free → list_of (chains_of k) list ≡ links_of k list
list_is k list l = get_or-map-range_with_len (links_of k) 0 k.free list list [] l (omega arith)

list_past : (k : LinkedNodes) (list : ℕ) → k.free ≤ list → list_of (chains_of k) list ≡ []
list_past k list l =
    let n : length (map (links_of k) (range_with_len 0 k.free)) ≡ k.free = length-map-range_with_len (links_of k) 0 k.free in
    get_or_past (map (links_of k) (range_with_len 0 k.free)) list [] (omega arith)

pub nothing_there : {A : Type 0} (x : A) (o : Option A) → o ≡ None → o ≡ Some x → ⊥
nothing_there x o p q = cc

seen_at : (ns : List Node) (xs : List ℕ) (place node value : ℕ) → slice_get (map (link_of ns) xs) place ≡ Some (record { node = node; value = value })
    → (slice_get xs place ≡ Some node) × ((node_of ns node).value ≡ value)
seen_at ns [] place node value h = absurd (nothing_there (record { node = node; value = value }) None refl h)
seen_at ns (x ∷ xs) zero node value h =
    let same : link_of ns x ≡ record { node = node; value = value } = ap (λ (o : Option Link). unwrap_or o (record { node = node; value = value })) h in
    let e : x ≡ node = ap (λ (l : Link). l.node) same in
    (ap (λ (z : ℕ). Some z) e, subst (λ (z : ℕ). (node_of ns z).value ≡ value) e (ap (λ (l : Link). l.value) same))
seen_at ns (x ∷ xs) (suc place) node value h = seen_at ns xs place node value h

pub stands : (k : LinkedNodes) (list place node value : ℕ) → IsAt (chains_of k) list place node value → Stands k list place node value
stands k list place node value h = by_test (nat_lt list k.free) refl
  where
    by_test : (v : Bool) → nat_lt list k.free ≡ v → Stands k list place node value
    by_test true e =
        let l : list < k.free = ltb-true list k.free e in
        let s = seen_at k.nodes (ring k list) place node value (subst (λ (xs : List Link). slice_get xs place ≡ Some (record { node = node; value = value }))
        (list_is k list l) h) in
        record { within = l; here = s.0; valued = s.1 }
    by_test false e =
        let l : k.free ≤ list = ltb-false list k.free e in
        absurd (nothing_there (record { node = node; value = value }) (link_at (chains_of k) list place)
        (ap (λ (xs : List Link). slice_get xs place) (list_past k list l)) h)

-- a list about a place
pub record Around {A : Type 0} (xs : List A) (place : ℕ) (x : A) : Type 0 where
  pub front : List A
  pub back : List A
  pub is : xs ≡ front ++ x ∷ back
  pub long : length front ≡ place

pub around : {A : Type 0} (xs : List A) (place : ℕ) (x : A) → slice_get xs place ≡ Some x → Around xs place x
around [] place x h = absurd (nothing_there x None refl h)
around (y ∷ xs) zero x h = record { front = []; back = xs; is = (let e : y ≡ x = cc in ap (λ (z : _). z ∷ xs) e); long = refl }
around (y ∷ xs) (suc place) x h =
    let r = around xs place x h in
    record { front = y ∷ r.front; back = r.back; is = ap (λ (zs : List _). y ∷ zs) r.is; long = ap suc r.long }

pub found : (k : LinkedNodes) (list place node value : ℕ) → Stands k list place node value → Found (ring k) list node
found k list place node value s =
    let r = around (ring k list) place node s.here in
    record { front = r.front; back = r.back; is = r.is }

-- a node stands at one place at most
pub apart : (k : LinkedNodes) → IsSound k → Apart (chains_of k)
apart k sound = λ node list list' place place' value value' a b.
    let s : Stands k list place node value = stands k list place node value a in
    let t : Stands k list' place' node value' = stands k list' place' node value' b in
    let sl : list < k.free = s.within in
    let tl : list' < k.free = t.within in
    let so : IsOf k.nodes k.free list node = found_own k.nodes k.free list node (ring k) (sound.rings list (omega arith)) (found k list place node value s) in
    let to : IsOf k.nodes k.free list' node = found_own k.nodes k.free list' node (ring k) (sound.rings list' (omega arith))
    (found k list' place' node value' t) in
    let same : list' ≡ list = sym to.list ∙ so.list in (
      sym same,
      one_place list place place' node (sound.rings list (omega arith)) (omega arith) s.here
          (subst (λ (z : ℕ). slice_get (ring k z) place' ≡ Some node) same t.here),
    )
  where
    one_place : (list place place' node : ℕ) → IsRing k.nodes k.free list (ring k list) → list ≤ k.free → slice_get (ring k list) place ≡ Some node
        → slice_get (ring k list) place' ≡ Some node → place ≡ place'
    one_place list place place' node rg le h i =
        let r : Around (ring k list) place node = around (ring k list) place node h in
        let q : Around (ring k list) place' node = around (ring k list) place' node i in
        let l : Lacks list (ring k list) = own_lacks k.nodes k.free list list (ring k list) le rg.own in
        let lr : Lacks list (r.front ++ node ∷ r.back) = subst (Lacks list) r.is l in
        let lq : Lacks list (q.front ++ node ∷ q.back) = subst (Lacks list) q.is l in
        let cr = subst (λ (xs : List ℕ). Chain (after_of k.nodes) (before_of k.nodes) list xs list) r.is rg.chain in
        let cq = subst (λ (xs : List ℕ). Chain (after_of k.nodes) (before_of k.nodes) list xs list) q.is rg.chain in
        let same : r.back ≡ q.back =
        chains_agree (after_of k.nodes) (before_of k.nodes) node r.back q.back list
        (each_right (λ x. x ≡ list → ⊥) r.front (node ∷ r.back) lr).1 (each_right (λ x. x ≡ list → ⊥) q.front (node ∷ q.back) lq).1
        (chain_right (after_of k.nodes) (before_of k.nodes) list r.front node r.back list cr)
        (chain_right (after_of k.nodes) (before_of k.nodes) list q.front node q.back list cq) in
        let n : length r.back ≡ length q.back = ap length same in
        let whole : length (r.front ++ node ∷ r.back) ≡ length (q.front ++ node ∷ q.back) = ap length (sym r.is ∙ q.is) in
        let x = length-append r.front (node ∷ r.back) in
        let y = length-append q.front (node ∷ q.back) in
        let rl : length r.front ≡ place = r.long in
        let ql : length q.front ≡ place' = q.long in
        omega arith

-- the node behind one, by its link
behind_is : (ns : List Node) (free a : ℕ) (xs : List ℕ) (s b : ℕ) → b ≤ free → Each (IsOf ns free s) xs → Chain (after_of ns) (before_of ns) a xs b
    → proper free (after_of ns a) ≡ option_map (λ l. l.node) (slice_get (map (link_of ns) xs) 0)
behind_is ns free a [] s b le own c =
    rw (c.0, le-ltb free b le) refl
behind_is ns free a (x ∷ xs) s b le own c =
    let l : free < x = own.0.behind in
    rw (c.0.0, lt-ltb free x l) refl

pub first_is : (k : LinkedNodes) (list : ℕ) → IsSound k → list < k.free → proper k.free (after_of k.nodes list) ≡ node_at (chains_of k) list 0
first_is k list sound l =
    let rg : IsRing k.nodes k.free list (ring k list) = sound.rings list (omega arith) in
    rw (list_is k list l) (behind_is k.nodes k.free list (ring k list) list list (omega arith) rg.own rg.chain)

at_next : (ns : List Node) (xs : List ℕ) (n : ℕ) (ys : List ℕ)
    → slice_get (map (link_of ns) (xs ++ n ∷ ys)) (suc (length xs)) ≡ slice_get (map (link_of ns) ys) 0
at_next ns [] n ys = refl
at_next ns (x ∷ xs) n ys = at_next ns xs n ys

pub next_is : (k : LinkedNodes) (list place node value : ℕ) → IsSound k → IsAt (chains_of k) list place node value
    → proper k.free (after_of k.nodes node) ≡ node_at (chains_of k) list (place + 1)
next_is k list place node value sound h =
    let s : Stands k list place node value = stands k list place node value h in
    let l : list < k.free = s.within in
    let r : Around (ring k list) place node = around (ring k list) place node s.here in
    let rg : IsRing k.nodes k.free list (ring k list) = sound.rings list (omega arith) in
    let c = subst (λ (xs : List ℕ). Chain (after_of k.nodes) (before_of k.nodes) list xs list) r.is rg.chain in
    let o = subst (Each (IsOf k.nodes k.free list)) r.is rg.own in
    let b : proper k.free (after_of k.nodes node) ≡ option_map (λ l. l.node) (slice_get (map (link_of k.nodes) r.back) 0) =
    behind_is k.nodes k.free node r.back list list (omega arith) (each_right (IsOf k.nodes k.free list) r.front (node ∷ r.back) o).1
    (chain_right (after_of k.nodes) (before_of k.nodes) list r.front node r.back list c) in
    let n : place + 1 ≡ suc (length r.front) = (let rl : length r.front ≡ place = r.long in omega arith) in
    let e : node_at (chains_of k) list (place + 1) ≡ option_map (λ (l : Link). l.node) (slice_get (map (link_of k.nodes) r.back) 0) =
    ap (λ (xs : List Link). option_map (λ (l : Link). l.node) (slice_get xs (place + 1))) (list_is k list l ∙ ap (map (link_of k.nodes)) r.is)
    ∙ ap (λ (p : ℕ). option_map (λ (l : Link). l.node) (slice_get (map (link_of k.nodes) (r.front ++ node ∷ r.back)) p)) n
    ∙ ap (option_map (λ (l : Link). l.node)) (at_next k.nodes r.front node r.back) in
    b ∙ sym e

-- what a move of a node reads and writes is there
pub may_shift : (k : LinkedNodes) (s t n : ℕ) → IsSound k → s ≤ k.free → t ≤ k.free → Found (ring k) s n → MayShift k.nodes k.lengths t n
may_shift k s t n sound sle tle f =
    let lists : length k.lengths ≡ k.free + 1 = sound.lists in
    let total : sum_by (λ n. n) k.lengths + length k.lengths ≡ length k.nodes = sound.total in
    let in' : k.free < length k.nodes = omega arith in
    let me : IsOf k.nodes k.free s n = found_own k.nodes k.free s n (ring k) (sound.rings s sle) f in
    let own : (node_of k.nodes n).list ≡ s = me.list in
    let some : 0 < get_or k.lengths s 0 = some_found k s n sound sle f in
    let b : IsBetween k.nodes n = between k.nodes k.free s n (ring k) (omega arith) (sound.rings s sle) f in
    let cut : Cut k.nodes k.lengths k.free s n (ring k) = cut_rings k.nodes k.lengths k.free s n (ring k) sle lists in' (rings_of k sound) f in
    let w : n < length k.nodes = me.within in
    let dl : length (detached n k.nodes) ≡ length k.nodes = detached_length n k.nodes in
    let pa : IsPutAt (detached n k.nodes) t n =
    put_at (detached n k.nodes) k.free t n _ tle me.behind (omega arith) (cut.rings.ring t tle) (cut.loose.lacks t tle) in
    let last : before_of (detached n k.nodes) t < length (detached n k.nodes) = pa.left in
    let ds = one_less s k.lengths in
    let sl : length ds ≡ length k.lengths = length-set k.lengths s _ in
    let sum : sum_by (λ n. n) ds + get_or k.lengths s 0 ≡ sum_by (λ n. n) k.lengths + (get_or k.lengths s 0 - 1) =
    sum_by-set (λ (n : ℕ). n) k.lengths s (get_or k.lengths s 0 - 1) 0 (omega arith) in
    let part : get_or ds t 0 ≤ sum_by (λ n. n) ds = get_or-le-sum_by (λ (n : ℕ). n) ds t 0 (omega arith) in
    record {
      node = w;
      list = omega arith;
      before = b.left;
      after = b.right;
      last = omega arith;
      own = rw own (omega arith);
      some = rw own some;
      listed = omega arith;
      few = rw own (omega arith);
    }
