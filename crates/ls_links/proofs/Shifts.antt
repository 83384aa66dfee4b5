-- A node is put at the back of a list, goes from one to another, or is new: what is kept stays sound.
use Rattle.std.proofs.Common.{◌≡◌, ◌==◌, ℕ, ◌+◌, ◌-◌, ◌<◌, ◌≤◌, List, [], ◌∷◌, ◌++◌, length, get_or, refl, sym, ◌∙◌, ap, arith, cond, Bool, true, false, subst}
use Rattle.std.proofs.Common.{length-append}
use Rattle.std.specs.List.{sum_by}
use Rattle.std.proofs.lemmas.Bool.{eqb-true, eq-eqb}
use Rattle.std.proofs.lemmas.List.{get_or-set_same, get_or-set_other, length-set, append-nil, length_push}
use Rattle.std.proofs.lemmas.List.Sums.{sum_by-set}
use Rattle.ls_links.specs.declared.node.Node.{Node}
use Rattle.ls_links.specs.Nodes.{LinkedNodes, Each, IsOf, IsRing, IsSound, ring, node_of, after_of, before_of, detached, attached, one_more, one_less, shifted}
use Rattle.ls_links.proofs.Chaining.{differs, Lacks, each_append, put_elsewhere, put_here, but, last_of, Last}
use Rattle.ls_links.proofs.Writes.{IsBetween, IsPutAt, detached_length, detached_keeps, attached_length, attached_other, attached_list, attached_value}
use Rattle.ls_links.proofs.Writes.{attached_puts}
use Rattle.ls_links.proofs.Rings.{Rings, Found, Loose, Cut, cut_rings, rings_of, ring_is, sound_of, own_lacks, between, found_own}

-- a number in the list of it
abbrev pub last_if : ℕ → ℕ → ℕ → List ℕ
last_if u t n = cond (u == t) (n ∷ []) []

within_and_lacking : (ns : List Node) (free t n : ℕ) (xs : List ℕ) → Each (IsOf ns free t) xs → Lacks n xs → Each (λ x. (x < length ns) × (x ≡ n → ⊥)) xs
within_and_lacking ns free t n [] o q = tt
within_and_lacking ns free t n (x ∷ xs) o q = ((o.0.within, q.0), within_and_lacking ns free t n xs o.1 q.1)

pub put_at : (ns : List Node) (free t n : ℕ) (xs : List ℕ) → t ≤ free → free < n → n < length ns → IsRing ns free t xs → Lacks n xs → IsPutAt ns t n
put_at ns free t n xs le behind in' rg l =
    let apart : n ≡ t → ⊥ = λ e. omega arith in
    let p : Each (λ x. (x < length ns) × (x ≡ n → ⊥)) xs = within_and_lacking ns free t n xs rg.own l in
    let b : Last (after_of ns) (before_of ns) (λ x. (x < length ns) × (x ≡ n → ⊥)) t =
    last_of (after_of ns) (before_of ns) (λ x. (x < length ns) × (x ≡ n → ⊥)) t xs t (omega arith, λ e. apart (sym e)) p rg.chain in
    record { before = b.before; left = b.left.0; list = omega arith; node = in'; apart = apart; other = λ e. b.left.1 (sym e) }

-- the nodes of a ring are its list's after a node was put in elsewhere
own_kept : (ns : List Node) (free t u n : ℕ) (xs : List ℕ) → IsPutAt ns t n → Lacks n xs → Each (IsOf ns free u) xs → Each (IsOf (attached t n ns) free u) xs
own_kept ns free t u n [] b l o = tt
own_kept ns free t u n (x ∷ xs) b l o = (
  record {
    behind = o.0.behind;
    within = (let w : x < length ns = o.0.within in let al : length (attached t n ns) ≡ length ns = attached_length t n ns in omega arith);
    list = attached_other (λ m. m.list) (λ m a. refl) (λ m a. refl) t n ns b x l.0 ∙ o.0.list;
  },
  own_kept ns free t u n xs b l.1 o.1,
)

put_ring_here : (ns : List Node) (free t n : ℕ) (xs : List ℕ) → t ≤ free → free < n → n < length ns → IsPutAt ns t n → IsRing ns free t xs → Lacks n xs
    → IsRing (attached t n ns) free t (xs ++ n ∷ [])
put_ring_here ns free t n xs le behind in' b rg l =
    record {
      chain = put_here (after_of ns) (before_of ns) _ _ n t (attached_puts t n ns b) t xs (λ e. b.apart (sym e)) l (own_lacks ns free t t xs le rg.own)
          rg.chain;
      own =
          each_append (IsOf (attached t n ns) free t) xs (n ∷ []) (own_kept ns free t t n xs b l rg.own) (
            record {
              behind = behind;
              within = (let al : length (attached t n ns)
                  ≡ length ns = attached_length t n ns in omega arith);
              list = attached_list t n ns b;
            },
            tt,
          );
    }

put_ring_elsewhere : (ns : List Node) (free t u n : ℕ) (xs : List ℕ) → t ≤ free → u ≤ free → (u ≡ t → ⊥) → free < n → IsPutAt ns t n → IsRing ns free u xs
    → Lacks n xs → IsRing (attached t n ns) free u xs
put_ring_elsewhere ns free t u n xs le ule ut behind b rg l =
    let un : u ≡ n → ⊥ = λ e. omega arith in
    record {
      chain = put_elsewhere (after_of ns) (before_of ns) _ _ n t (attached_puts t n ns b) u xs u un l un (own_lacks ns free u t xs le rg.own) ut rg.chain;
      own = own_kept ns free t u n xs b l rg.own;
    }

pub put_rings : (ns : List Node) (ls : List ℕ) (free t n : ℕ) (r : ℕ → List ℕ) → t ≤ free → length ls ≡ free + 1 → free < n → n < length ns
    → Rings ns ls free r → Loose r free n → Rings (attached t n ns) (one_more t ls) free (λ u. r u ++ last_if u t n)
put_rings ns ls free t n r le lists behind in' rings loose =
    let b : IsPutAt ns t n = put_at ns free t n (r t) le behind in' (rings.ring t le) (loose.lacks t le) in
    let tl : t < length ls = omega arith in
    record { ring = λ u ule. by_ring u ule b (u == t) refl; long = λ u ule. by_long u ule tl (u == t) refl }
  where
    by_ring : (u : ℕ) → u ≤ free → IsPutAt ns t n → (v : Bool) → (u == t) ≡ v → IsRing (attached t n ns) free u (r u ++ cond (u == t) (n ∷ []) [])
    by_ring u ule b true e =
        rw e (subst (λ (z : ℕ). IsRing (attached t n ns) free z (r z ++ n ∷ [])) (sym (eqb-true u t e))
        (put_ring_here ns free t n (r t) le behind in' b (rings.ring t le) (loose.lacks t le)))
    by_ring u ule b false e =
        rw e (subst (IsRing (attached t n ns) free u) (sym (append-nil (r u)))
        (put_ring_elsewhere ns free t u n (r u) le ule (λ q. differs (u == t) (eq-eqb u t q) e) behind b (rings.ring u ule) (loose.lacks u ule)))

    by_long : (u : ℕ) → u ≤ free → t < length ls → (v : Bool) → (u == t) ≡ v → length (r u ++ cond (u == t) (n ∷ []) []) ≡ get_or (one_more t ls) u 0
    by_long u ule tl true e =
        rw e (subst (λ (z : ℕ). length (r z ++ n ∷ []) ≡ get_or (one_more t ls) z 0) (sym (eqb-true u t e))
        (length_push (r t) n ∙ ap (λ (m : ℕ). m + 1) (rings.long t le) ∙ sym (get_or-set_same ls t (get_or ls t 0 + 1) 0 tl)))
    by_long u ule tl false e =
        rw e (ap length (append-nil (r u)) ∙ rings.long u ule ∙ sym (get_or-set_other ls t u (get_or ls t 0 + 1) 0 (λ q. differs (u == t) (eq-eqb u t q) e)))

-- a node goes from its list to the back of one
pub shift_rings : (k : LinkedNodes) (s t n : ℕ) → IsSound k → s ≤ k.free → t ≤ k.free → Found (ring k) s n
    → Rings (shifted t n k).nodes (shifted t n k).lengths k.free (λ u. but n (ring k u) ++ last_if u t n)
shift_rings k s t n sound sle tle f =
    let rings : Rings k.nodes k.lengths k.free (ring k) = rings_of k sound in
    let lists : length k.lengths ≡ k.free + 1 = sound.lists in
    let total : sum_by (λ n. n) k.lengths + length k.lengths ≡ length k.nodes = sound.total in
    let in' : k.free < length k.nodes = omega arith in
    let me : IsOf k.nodes k.free s n = found_own k.nodes k.free s n (ring k) (rings.ring s sle) f in
    let cut : Cut k.nodes k.lengths k.free s n (ring k) = cut_rings k.nodes k.lengths k.free s n (ring k) sle lists in' rings f in
    let dl : length (detached n k.nodes) ≡ length k.nodes = detached_length n k.nodes in
    let w : n < length k.nodes = me.within in
    let ll : length (one_less s k.lengths) ≡ length k.lengths = length-set k.lengths s _ in
    rw me.list
    (put_rings (detached n k.nodes) (one_less s k.lengths) k.free t n (λ u. but n (ring k u)) tle (ll ∙ lists) me.behind (omega arith) cut.rings cut.loose)

-- what it leaves
pub record Shifts (k : LinkedNodes) (t n : ℕ) : Type 0 where
  pub sound : IsSound (shifted t n k)
  pub ring_is : (u : ℕ) → u ≤ k.free → ring (shifted t n k) u ≡ but n (ring k u) ++ last_if u t n
  pub values : (z : ℕ) → (node_of (shifted t n k).nodes z).value ≡ (node_of k.nodes z).value

pub attached_values : (t n : ℕ) (ns : List Node) → IsPutAt ns t n → (z : ℕ) → (node_of (attached t n ns) z).value ≡ (node_of ns z).value
attached_values t n ns b z = by_test (z == n) refl
  where
    by_test : (v : Bool) → (z == n) ≡ v → (node_of (attached t n ns) z).value ≡ (node_of ns z).value
    by_test true e = subst (λ (y : ℕ). (node_of (attached t n ns) y).value ≡ (node_of ns y).value) (sym (eqb-true z n e)) (attached_value t n ns b)
    by_test false e = attached_other (λ m. m.value) (λ m a. refl) (λ m a. refl) t n ns b z (λ q. differs (z == n) (eq-eqb z n q) e)

sum_moved : (ls : List ℕ) (s t : ℕ) → s < length ls → t < length ls → 0 < get_or ls s 0 → sum_by (λ n. n) (one_more t (one_less s ls)) ≡ sum_by (λ n. n) ls
sum_moved ls s t sl tl some =
    let ds = one_less s ls in
    let dl : length ds ≡ length ls = length-set ls s _ in
    let a : sum_by (λ n. n) ds + get_or ls s 0 ≡ sum_by (λ n. n) ls + (get_or ls s 0 - 1) = sum_by-set (λ (n : ℕ). n) ls s (get_or ls s 0 - 1) 0 sl in
    let b : sum_by (λ n. n) (one_more t ds) + get_or ds t 0 ≡ sum_by (λ n. n) ds + (get_or ds t 0 + 1) =
    sum_by-set (λ (n : ℕ). n) ds t (get_or ds t 0 + 1) 0 (omega arith) in
    omega arith

pub some_found : (k : LinkedNodes) (s n : ℕ) → IsSound k → s ≤ k.free → Found (ring k) s n → 0 < get_or k.lengths s 0
some_found k s n sound sle f =
    let long : length (ring k s) ≡ get_or k.lengths s 0 = (rings_of k sound).long s sle in
    let l : length (ring k s) ≡ length (f.front ++ n ∷ f.back) = ap length f.is in
    let m = length-append f.front (n ∷ f.back) in
    omega arith

pub shift : (k : LinkedNodes) (s t n : ℕ) → IsSound k → s ≤ k.free → t ≤ k.free → Found (ring k) s n → Shifts k t n
shift k s t n sound sle tle f =
    let rings = shift_rings k s t n sound sle tle f in
    let lists : length k.lengths ≡ k.free + 1 = sound.lists in
    let total : sum_by (λ n. n) k.lengths + length k.lengths ≡ length k.nodes = sound.total in
    let me : IsOf k.nodes k.free s n = found_own k.nodes k.free s n (ring k) (sound.rings s sle) f in
    let own : (node_of k.nodes n).list ≡ s = me.list in
    let some : 0 < get_or k.lengths s 0 = some_found k s n sound sle f in
    let al = attached_length t n (detached n k.nodes) ∙ detached_length n k.nodes in
    let ll : length (shifted t n k).lengths ≡ length k.lengths = length-set (one_less (node_of k.nodes n).list k.lengths) t _ ∙ length-set k.lengths _ _ in
    let sums : sum_by (λ n. n) (shifted t n k).lengths ≡ sum_by (λ n. n) k.lengths = rw own (sum_moved k.lengths s t (omega arith) (omega arith) some) in
    let in' : k.free < length k.nodes = omega arith in
    let b : IsBetween k.nodes n = between k.nodes k.free s n (ring k) (omega arith) (sound.rings s sle) f in
    let cut : Cut k.nodes k.lengths k.free s n (ring k) = cut_rings k.nodes k.lengths k.free s n (ring k) sle lists in' (rings_of k sound) f in
    let w : n < length k.nodes = me.within in
    let dl : length (detached n k.nodes) ≡ length k.nodes = detached_length n k.nodes in
    let pa : IsPutAt (detached n k.nodes) t n =
    put_at (detached n k.nodes) k.free t n _ tle me.behind (omega arith) (cut.rings.ring t tle) (cut.loose.lacks t tle) in
    record {
      sound = sound_of (shifted t n k) _ (ll ∙ lists) (omega arith) rings;
      ring_is = ring_is (shifted t n k) _ rings;
      values = λ z.
          attached_values t n (detached n k.nodes) pa z ∙ detached_keeps (λ m. m.value) (λ m a. refl) (λ m a. refl) n k.nodes b z;
    }
