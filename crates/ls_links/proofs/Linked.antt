-- What a call of a linked node may use, and what it leaves.
use Rattle.std.proofs.Common.{◌≡◌, ℕ, ◌+◌, ◌-◌, ◌<◌, ◌≤◌, List, length, get_or, set, max, sym, ◌∙◌, ap, arith, subst}
use Rattle.std.specs.List.{sum_by}
use Rattle.std.proofs.lemmas.List.{get_or_read}
use Rattle.std.proofs.lemmas.List.FromFn.{length-map-range_with_len}
use Rattle.ls_links.specs.declared.node.Node.{Node}
use Rattle.ls_links.specs.Chains.{Chains, IsAt, IsLinked, pushed, unlinked, moved_back, value_given}
use Rattle.ls_links.specs.Nodes.{LinkedNodes, IsOf, IsRing, IsSound, MayShift, ring, links_of, chains_of, node_of, after_of, before_of, with_value, shifted, added}
use Rattle.ls_links.specs.Nodes.{alone}
use Rattle.ls_links.proofs.Chaining.{each_weaker, last_of}
use Rattle.ls_links.proofs.Rings.{Found, found_own}
use Rattle.ls_links.proofs.Shifts.{shift}
use Rattle.ls_links.proofs.Places.{Stands, stands, found, may_shift}
use Rattle.ls_links.proofs.Calls.{valued, Values, value_written, still_free, given_view, first_free, unlinked_view, back_view, pushed_view, Enlarges, enlarges}

pub node_is : (ns : List Node) (n : ℕ) (x : Node) → n < length ns → x ≡ get_or ns n x → x ≡ node_of ns n
node_is ns n x in' h = get_or_read ns n x in' h (alone 0)

-- a linked node is in a list's ring
pub record InRing (k : LinkedNodes) (n : ℕ) : Type 0 where
  pub list : ℕ
  pub below : list < k.free
  pub found : Found (ring k) list n
  pub own : (node_of k.nodes n).list ≡ list
  pub within : n < length k.nodes

pub in_ring : (k : LinkedNodes) (n : ℕ) → IsSound k → IsLinked (chains_of k) n → InRing k n
in_ring k n sound l =
    let s : Stands k l.list l.place n l.value = stands k l.list l.place n l.value l.here in
    let b : l.list < k.free = s.within in
    let f : Found (ring k) l.list n = found k l.list l.place n l.value s in
    let o : IsOf k.nodes k.free l.list n = found_own k.nodes k.free l.list n (ring k) (sound.rings l.list (omega arith)) f in
    record { list = l.list; below = b; found = f; own = o.list; within = o.within }

pub value_is : (k : LinkedNodes) (list place n v : ℕ) (x : Node) → x ≡ node_of k.nodes n → IsAt (chains_of k) list place n v → x.value ≡ v
value_is k list place n v x is h = ap (λ (m : Node). m.value) is ∙ (stands k list place n v h).valued

-- a node is unlinked, or moved to the back
pub record Leaves (k k' : LinkedNodes) (seen : Chains) : Type 0 where
  pub sound : IsSound k'
  pub view : chains_of k' ≡ seen

pub unlinks : (k : LinkedNodes) (n : ℕ) → IsSound k → InRing k n → Leaves k (shifted k.free n k) (unlinked n (chains_of k))
unlinks k n sound r =
    let b : r.list < k.free = r.below in
    record {
      sound = (shift k r.list k.free n sound (omega arith) (omega arith) r.found).sound;
      view = unlinked_view k r.list n sound r.below r.found;
    }

pub may_unlink : (k : LinkedNodes) (n : ℕ) → IsSound k → InRing k n → MayShift k.nodes k.lengths k.free n
may_unlink k n sound r =
    let b : r.list < k.free = r.below in
    may_shift k r.list k.free n sound (omega arith) (omega arith) r.found

pub moves : (k : LinkedNodes) (n list : ℕ) → IsSound k → InRing k n → list ≡ (node_of k.nodes n).list → Leaves k (shifted list n k) (moved_back n (chains_of k))
moves k n list sound r is =
    let b : r.list < k.free = r.below in
    subst (λ (t : ℕ). Leaves k (shifted t n k) (moved_back n (chains_of k))) (sym (is ∙ r.own))
    (record {
      sound = (shift k r.list r.list n sound (omega arith) (omega arith) r.found).sound;
      view = back_view k r.list n sound r.below r.found;
    })

pub may_move : (k : LinkedNodes) (n list : ℕ) → IsSound k → InRing k n → list ≡ (node_of k.nodes n).list → MayShift k.nodes k.lengths list n
may_move k n list sound r is =
    let b : r.list < k.free = r.below in
    subst (λ (t : ℕ). MayShift k.nodes k.lengths t n) (sym (is ∙ r.own)) (may_shift k r.list r.list n sound (omega arith) (omega arith) r.found)

-- a linked node has another value
pub gives : (k : LinkedNodes) (n v : ℕ) → IsSound k → InRing k n → Leaves k (valued n v k) (value_given n v (chains_of k))
gives k n v sound r =
    let w : Values k n v = value_written k n v sound r.within in
    record { sound = w.sound; view = given_view k n v r.within w }

-- a free node is linked
pub record Free (k : LinkedNodes) (n : ℕ) : Type 0 where
  pub found : Found (ring k) k.free n
  pub own : (node_of k.nodes n).list ≡ k.free
  pub within : n < length k.nodes

pub a_free_one : (k : LinkedNodes) (x : Node) → IsSound k → x ≡ node_of k.nodes k.free → 0 < (chains_of k).spare → Free k x.after
a_free_one k x sound is some =
    let f : Found (ring k) k.free (after_of k.nodes k.free) = first_free k some in
    let o : IsOf k.nodes k.free k.free (after_of k.nodes k.free) = found_own k.nodes k.free k.free _ (ring k) (sound.rings k.free (omega arith)) f in
    subst (λ (m : Node). Free k m.after) (sym is) (record { found = f; own = o.list; within = o.within })

pub lists_number : (k : LinkedNodes) (t : ℕ) → t < length (chains_of k).lists → t < k.free
lists_number k t l = let n : length (chains_of k).lists ≡ k.free = length-map-range_with_len (links_of k) 0 k.free in omega arith

pub links : (k : LinkedNodes) (t n v : ℕ) → IsSound k → t < k.free → Free k n
    → Leaves k (shifted t n (valued n v k)) (pushed t (record { node = n; value = v }) (chains_of k))
links k t n v sound l f =
    let w : Values k n v = value_written k n v sound f.within in
    record {
      sound = (shift (valued n v k) k.free t n w.sound (omega arith) (omega arith) (still_free k n v w f.found)).sound;
      view = pushed_view k t n v sound l f.found;
    }

pub may_link : (k : LinkedNodes) (t n v : ℕ) → IsSound k → t < k.free → Free k n → MayShift (with_value n v k.nodes) k.lengths t n
may_link k t n v sound l f =
    let w : Values k n v = value_written k n v sound f.within in
    may_shift (valued n v k) k.free t n w.sound (omega arith) (omega arith) (still_free k n v w f.found)

pub was_free : (k : LinkedNodes) (n list place v : ℕ) → IsSound k → Free k n → IsAt (chains_of k) list place n v → ⊥
was_free k n list place v sound f h =
    let s : Stands k list place n v = stands k list place n v h in
    let b : list < k.free = s.within in
    let o : IsOf k.nodes k.free list n = found_own k.nodes k.free list n (ring k) (sound.rings list (omega arith)) (found k list place n v s) in
    let e : k.free ≡ list = sym f.own ∙ o.list in
    omega arith

pub free_within : (k : LinkedNodes) → IsSound k → k.free < length k.nodes
free_within k sound =
    let lists : length k.lengths ≡ k.free + 1 = sound.lists in
    let total : sum_by (λ n. n) k.lengths + length k.lengths ≡ length k.nodes = sound.total in
    omega arith

pub own_within : (k : LinkedNodes) (t : ℕ) → IsSound k → t < k.free → t < length k.nodes
own_within k t sound l = let w = free_within k sound in omega arith

pub counted_within : (k : LinkedNodes) → IsSound k → k.free < length k.lengths
counted_within k sound = let lists : length k.lengths ≡ k.free + 1 = sound.lists in omega arith

pub last_within : (k : LinkedNodes) → IsSound k → before_of k.nodes k.free < length k.nodes
last_within k sound =
    let rg : IsRing k.nodes k.free k.free (ring k k.free) = sound.rings k.free (omega arith) in
    (last_of (after_of k.nodes) (before_of k.nodes) (λ x. x < length k.nodes) k.free (ring k k.free) k.free (free_within k sound)
    (each_weaker (IsOf k.nodes k.free k.free) (λ x. x < length k.nodes) (ring k k.free) (λ x o. o.within) rg.own) rg.chain).left

-- room is taken
pub reserves : (k : LinkedNodes) (spare n : ℕ) → IsSound k → spare ≡ get_or k.lengths k.free 0 → spare ≤ n
    → Leaves k (record k { nodes = added (n - spare) k.free k.nodes; lengths = set k.lengths k.free n }) (record (chains_of k) {
      spare = max
          (chains_of k).spare n;
    })
reserves k spare n sound is le =
    let e : Enlarges k (n - spare) = enlarges k (n - spare) sound in
    let m : get_or k.lengths k.free 0 + (n - spare) ≡ n = omega arith in
    let s : max (get_or k.lengths k.free 0) n ≡ n = omega arith in
    record {
      sound = subst (λ (x : ℕ). IsSound (record k { nodes = added (n - spare) k.free k.nodes; lengths = set k.lengths k.free x })) m e.sound;
      view =
          subst (λ (x : ℕ). chains_of (record k { nodes = added (n - spare) k.free k.nodes; lengths = set k.lengths k.free x }) ≡ record (chains_of k)
          { spare = x }) m e.seen
          ∙ ap (λ (x : ℕ). record (chains_of k) { spare = x }) (sym s);
    }
