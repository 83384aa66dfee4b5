-- The rings of all lists, as a node is taken out of its list and put at the back of one.
use Rattle.std.proofs.Common.{◌≡◌, ◌==◌, ℕ, suc, zero, ◌+◌, ◌-◌, ◌<◌, ◌≤◌, List, [], ◌∷◌, ◌++◌, length, get_or, refl, sym, ◌∙◌, ap, arith, Bool, true, false}
use Rattle.std.proofs.Common.{subst, length-append}
use Rattle.std.specs.List.{sum_by}
use Rattle.std.proofs.lemmas.Bool.{eqb-true, eq-eqb}
use Rattle.std.proofs.lemmas.List.{get_or-set_same, get_or-set_other}
use Rattle.ls_links.specs.declared.node.Node.{Node}
use Rattle.ls_links.specs.Nodes.{LinkedNodes, Each, Chain, IsOf, IsRing, IsSound, ring, follow, node_of, after_of, before_of, detached, one_less}
use Rattle.ls_links.proofs.Chaining.{differs, Lacks, each_append, each_left, each_right, each_weaker, cut_elsewhere, cut_here}
use Rattle.ls_links.proofs.Chaining.{once_before, once_behind, but, but_lacking, but_here, beside}
use Rattle.ls_links.proofs.Writes.{IsBetween, detached_length, detached_keeps, detached_cuts}

-- the nodes of each list, and how many they are
pub record Rings (ns : List Node) (ls : List ℕ) (free : ℕ) (r : ℕ → List ℕ) : Type 0 where
  pub ring : (s : ℕ) → s ≤ free → IsRing ns free s (r s)
  pub long : (s : ℕ) → s ≤ free → length (r s) ≡ get_or ls s 0

pub follow_length : (ns : List Node) (k n : ℕ) → length (follow ns k n) ≡ k
follow_length ns zero n = refl
follow_length ns (suc k) n = ap suc (follow_length ns k (after_of ns n))

pub follow_chain : (ns : List Node) (a : ℕ) (xs : List ℕ) (b : ℕ) → Chain (after_of ns) (before_of ns) a xs b → follow ns (length xs) (after_of ns a) ≡ xs
follow_chain ns a [] b c = refl
follow_chain ns a (x ∷ xs) b c = rw c.0.0 (ap (λ (zs : List ℕ). x ∷ zs) (follow_chain ns x xs b c.1))

pub rings_of : (k : LinkedNodes) → IsSound k → Rings k.nodes k.lengths k.free (ring k)
rings_of k sound = record { ring = sound.rings; long = λ s le. follow_length k.nodes (get_or k.lengths s 0) (after_of k.nodes s) }

-- what the links say is what the rings are
pub ring_is : (k : LinkedNodes) (r : ℕ → List ℕ) → Rings k.nodes k.lengths k.free r → (s : ℕ) → s ≤ k.free → ring k s ≡ r s
ring_is k r rings s le =
    let long : length (r s) ≡ get_or k.lengths s 0 = rings.long s le in
    ap (λ (n : ℕ). follow k.nodes n (after_of k.nodes s)) (sym long) ∙ follow_chain k.nodes s (r s) s (rings.ring s le).chain

pub sound_of : (k : LinkedNodes) (r : ℕ → List ℕ) → length k.lengths ≡ k.free + 1 → sum_by (λ n. n) k.lengths + length k.lengths ≡ length k.nodes
    → Rings k.nodes k.lengths k.free r → IsSound k
sound_of k r lists total rings =
    record {
      lists = lists;
      total = total;
      rings = λ s le. subst (IsRing k.nodes k.free s) (sym (ring_is k r rings s le)) (rings.ring s le);
    }

-- the node of a list itself is none of a list's nodes
pub own_lacks : (ns : List Node) (free s u : ℕ) (xs : List ℕ) → u ≤ free → Each (IsOf ns free s) xs → Lacks u xs
own_lacks ns free s u xs le own =
    each_weaker (IsOf ns free s) (λ x. x ≡ u → ⊥) xs (λ x o e. (let b : free < x = o.behind in absurd (omega arith))) own

-- nor is a node of another list
pub other_lacks : (ns : List Node) (free s n : ℕ) (xs : List ℕ) → ((node_of ns n).list ≡ s → ⊥) → Each (IsOf ns free s) xs → Lacks n xs
other_lacks ns free s n xs h own =
    each_weaker (IsOf ns free s) (λ x. x ≡ n → ⊥) xs (λ x o e. h (ap (λ (z : ℕ). (node_of ns z).list) (sym e) ∙ o.list)) own

-- a node is at a place of a ring
pub record Found (r : ℕ → List ℕ) (s n : ℕ) : Type 0 where
  pub front : List ℕ
  pub back : List ℕ
  pub is : r s ≡ front ++ n ∷ back

pub found_own : (ns : List Node) (free s n : ℕ) (r : ℕ → List ℕ) → IsRing ns free s (r s) → Found r s n → IsOf ns free s n
found_own ns free s n r rg f = (each_right (IsOf ns free s) f.front (n ∷ f.back) (subst (Each (IsOf ns free s)) f.is rg.own)).0

pub between : (ns : List Node) (free s n : ℕ) (r : ℕ → List ℕ) → s < length ns → IsRing ns free s (r s) → Found r s n → IsBetween ns n
between ns free s n r in' rg f =
    let c : Chain (after_of ns) (before_of ns) s (f.front ++ n ∷ f.back) s = subst (λ (xs : List ℕ). Chain (after_of ns) (before_of ns) s xs s) f.is rg.chain in
    let o : Each (λ x. x < length ns) (f.front ++ n ∷ f.back) =
    each_weaker (IsOf ns free s) (λ x. x < length ns) _ (λ x q. q.within) (subst (Each (IsOf ns free s)) f.is rg.own) in
    let b = beside (after_of ns) (before_of ns) (λ x. x < length ns) s f.front n f.back s in' o in' c in
    record { before = b.before; after = b.after; left = b.left; right = b.right }

-- a node is none of any list
pub record Loose (r : ℕ → List ℕ) (free n : ℕ) : Type 0 where
  pub lacks : (u : ℕ) → u ≤ free → Lacks n (r u)

lacks_join : (n : ℕ) (a b : List ℕ) → Lacks n a → Lacks n b → Lacks n (a ++ b)
lacks_join n a b p q = each_append (λ x. x ≡ n → ⊥) a b p q

-- the ring that a node left
pub cut_ring : (ns : List Node) (free s n : ℕ) (r : ℕ → List ℕ) → s ≤ free → s < length ns → IsRing ns free s (r s) → Found r s n
    → IsRing (detached n ns) free s (but n (r s)) × Lacks n (but n (r s)) × (length (but n (r s)) + 1 ≡ length (r s))
cut_ring ns free s n r le in' rg f =
    let c : Chain (after_of ns) (before_of ns) s (f.front ++ n ∷ f.back) s = subst (λ (xs : List ℕ). Chain (after_of ns) (before_of ns) s xs s) f.is rg.chain in
    let o : Each (IsOf ns free s) (f.front ++ n ∷ f.back) = subst (Each (IsOf ns free s)) f.is rg.own in
    let b : IsBetween ns n = between ns free s n r in' rg f in
    let l = own_lacks ns free s s _ le o in
    let lf : Lacks n f.front = once_before (after_of ns) (before_of ns) s f.front n f.back s l c in
    let lb : Lacks n f.back = once_behind (after_of ns) (before_of ns) s f.front n f.back s l c in
    let me = found_own ns free s n r rg f in
    let ne : s ≡ n → ⊥ = λ e. (let x : free < n = me.behind in absurd (omega arith)) in
    let is : but n (r s) ≡ f.front ++ f.back = ap (but n) f.is ∙ but_here n f.front f.back lf lb in
    let own : Each (IsOf ns free s) (f.front ++ f.back) =
    each_append (IsOf ns free s) f.front f.back (each_left (IsOf ns free s) f.front (n ∷ f.back) o) (each_right (IsOf ns free s) f.front (n ∷ f.back) o).1 in
    let dl : length (detached n ns) ≡ length ns = detached_length n ns in
    let kept : Each (IsOf (detached n ns) free s) (f.front ++ f.back) =
    each_weaker (IsOf ns free s) (IsOf (detached n ns) free s) _
    (λ x q. record {
      behind = q.behind;
      within = (let w : x < length ns = q.within in omega arith);
      list = detached_keeps (λ m. m.list) (λ m a. refl)
          (λ m a. refl) n ns b x ∙ q.list;
    })
    own in
    let lens : length (r s) ≡ length (f.front ++ n ∷ f.back) = ap length f.is in (
      subst (IsRing (detached n ns) free s) (sym is)
          (record { chain = cut_here (after_of ns) (before_of ns) _ _ n (detached_cuts n ns b) s f.front f.back s ne lf lb ne c; own = kept }),
      subst (Lacks n) (sym is) (lacks_join n f.front f.back lf lb),
      rw is (sym (lens ∙ length-append f.front (n ∷ f.back) ∙ (let z = length-append f.front f.back in omega arith))),
    )

-- a ring of another list
pub keep_ring : (ns : List Node) (free s u n : ℕ) (r : ℕ → List ℕ) → u ≤ free → (u ≡ s → ⊥) → (u ≡ n → ⊥) → IsBetween ns n → (node_of ns n).list ≡ s
    → IsRing ns free u (r u) → IsRing (detached n ns) free u (but n (r u)) × Lacks n (but n (r u)) × (but n (r u) ≡ r u)
keep_ring ns free s u n r le us un b list rg =
    let l : Lacks n (r u) = other_lacks ns free u n (r u) (λ e. us (sym e ∙ list)) rg.own in
    let is : but n (r u) ≡ r u = but_lacking n (r u) l in
    let dl : length (detached n ns) ≡ length ns = detached_length n ns in
    let kept : Each (IsOf (detached n ns) free u) (r u) =
    each_weaker (IsOf ns free u) (IsOf (detached n ns) free u) _
    (λ x q. record {
      behind = q.behind;
      within = (let w : x < length ns = q.within in omega arith);
      list = detached_keeps (λ m. m.list) (λ m a. refl)
          (λ m a. refl) n ns b x ∙ q.list;
    })
    rg.own in (
      subst (IsRing (detached n ns) free u) (sym is)
          (record { chain = cut_elsewhere (after_of ns) (before_of ns) _ _ n (detached_cuts n ns b) u (r u) u un l un rg.chain; own = kept }),
      subst (Lacks n) (sym is) l,
      is,
    )

-- all rings after a node left its list
pub record Cut (ns : List Node) (ls : List ℕ) (free s n : ℕ) (r : ℕ → List ℕ) : Type 0 where
  pub rings : Rings (detached n ns) (one_less s ls) free (λ u. but n (r u))
  pub loose : Loose (λ u. but n (r u)) free n

pub cut_rings : (ns : List Node) (ls : List ℕ) (free s n : ℕ) (r : ℕ → List ℕ) → s ≤ free → length ls ≡ free + 1 → free < length ns
    → Rings ns ls free r → Found r s n → Cut ns ls free s n r
cut_rings ns ls free s n r le lists in' rings f =
    let sn : s < length ns = omega arith in
    let rs = rings.ring s le in
    let b : IsBetween ns n = between ns free s n r sn rs f in
    let me = found_own ns free s n r rs f in
    let here = cut_ring ns free s n r le sn rs f in
    let long : length (r s) ≡ get_or ls s 0 = rings.long s le in
    let sl : s < length ls = omega arith in
    record {
      rings = record {
        ring = λ u ule. by_ring u ule b me here.0 (u == s) refl;
        long = λ u ule. by_long u ule b me here.2 long sl (u == s) refl;
      };
      loose = record { lacks = λ u ule. by_lacks u ule b me here.1 (u == s) refl };
    }
  where
    apart : (u : ℕ) → u ≤ free → IsOf ns free s n → u ≡ n → ⊥
    apart u ule me e = let x : free < n = me.behind in absurd (omega arith)

    by_ring : (u : ℕ) → u ≤ free → IsBetween ns n → IsOf ns free s n → IsRing (detached n ns) free s (but n (r s)) → (v : Bool) → (u == s) ≡ v
        → IsRing (detached n ns) free u (but n (r u))
    by_ring u ule b me here true e = subst (λ (z : ℕ). IsRing (detached n ns) free z (but n (r z))) (sym (eqb-true u s e)) here
    by_ring u ule b me here false e =
        (keep_ring ns free s u n r ule (λ q. differs (u == s) (eq-eqb u s q) e) (apart u ule me) b me.list (rings.ring u ule)).0

    by_lacks : (u : ℕ) → u ≤ free → IsBetween ns n → IsOf ns free s n → Lacks n (but n (r s)) → (v : Bool) → (u == s) ≡ v → Lacks n (but n (r u))
    by_lacks u ule b me here true e = subst (λ (z : ℕ). Lacks n (but n (r z))) (sym (eqb-true u s e)) here
    by_lacks u ule b me here false e =
        (keep_ring ns free s u n r ule (λ q. differs (u == s) (eq-eqb u s q) e) (apart u ule me) b me.list (rings.ring u ule)).1

    by_long : (u : ℕ) → u ≤ free → IsBetween ns n → IsOf ns free s n → length (but n (r s)) + 1 ≡ length (r s) → length (r s) ≡ get_or ls s 0 → s < length ls
        → (v : Bool) → (u == s) ≡ v → length (but n (r u)) ≡ get_or (one_less s ls) u 0
    by_long u ule b me here long sl true e =
        subst (λ (z : ℕ). length (but n (r z)) ≡ get_or (one_less s ls) z 0) (sym (eqb-true u s e))
        (rw (get_or-set_same ls s (get_or ls s 0 - 1) 0 sl) (omega arith))
    by_long u ule b me here long sl false e =
        let us : u ≡ s → ⊥ = λ q. differs (u == s) (eq-eqb u s q) e in
        ap length (keep_ring ns free s u n r ule us (apart u ule me) b me.list (rings.ring u ule)).2 ∙ rings.long u ule
        ∙ sym (get_or-set_other ls s u (get_or ls s 0 - 1) 0 us)
