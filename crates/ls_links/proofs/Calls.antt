-- What each call makes of what is kept, and of what is seen.
use Rattle.std.proofs.Common.{◌≡◌, ◌==◌, ℕ, suc, zero, ◌+◌, ◌-◌, ◌*◌, ◌<◌, ◌≤◌, List, [], ◌∷◌, ◌++◌, length, get_or, set, map, replicate, refl, sym, ◌∙◌, ap}
use Rattle.std.proofs.Common.{arith, cond, Bool, true, false, subst}
use Rattle.std.specs.List.{filter, range_with_len, sum_by}
use Rattle.std.proofs.lemmas.Bool.{eqb-true, eq-eqb}
use Rattle.std.proofs.lemmas.List.{map-append, append-nil, get_or-set_same, get_or-set_other, length-set, length-replicate, get_or-replicate}
use Rattle.std.proofs.lemmas.List.Elements.{All-replicate}
use Rattle.std.proofs.lemmas.List.FromFn.{get_or-map-range_with_len, length-map-range_with_len, fill_by_all}
use Rattle.std.proofs.lemmas.List.Sums.{sum_by-le, sum_by-set}
use Rattle.ls_links.specs.declared.node.Node.{Node}
use Rattle.ls_links.specs.Chains.{Link, Chains, without, with_last, is_node, pushed, unlinked, moved_back, link_given, value_given}
use Rattle.ls_links.specs.Nodes.{LinkedNodes, Chain, IsOf, IsRing, IsSound, ring, follow, link_of, links_of, chains_of, node_of, after_of, before_of, with_value}
use Rattle.ls_links.specs.Nodes.{one_less, shifted, added, alone}
use Rattle.ls_links.proofs.Chaining.{differs, Lacks, but, but_lacking, unlike, once_before, once_behind}
use Rattle.ls_links.proofs.Writes.{field_written, field_other}
use Rattle.ls_links.proofs.Rings.{Rings, Found, found_own, own_lacks, other_lacks, rings_of, ring_is, sound_of}
use Rattle.ls_links.proofs.Shifts.{last_if, Shifts, shift}
use Rattle.ls_links.proofs.Growing.{valued_alike, rings_alike, Grows, add}
use Rattle.ls_links.proofs.Views.{map_alike, rows_alike, map_rows, links_but, none_there, one_there}
use Rattle.ls_links.proofs.Places.{list_is}

abbrev made : List (List Link) → ℕ → Chains
made ls m = record { lists = ls; spare = m }

chains_same : (a b : List (List Link)) (m n : ℕ) → a ≡ b → m ≡ n → made a m ≡ made b n
chains_same a b m n p q = rw (p, q) refl

-- the links of a list after a move
shifted_links : (k : LinkedNodes) (t n : ℕ) → Shifts k t n → (u : ℕ) → u ≤ k.free
    → links_of (shifted t n k) u ≡ map (link_of k.nodes) (but n (ring k u) ++ last_if u t n)
shifted_links k t n sh u le =
    map_alike (link_of (shifted t n k).nodes) (link_of k.nodes) (λ z. ap (λ (v : ℕ). record { node = z; value = v }) (sh.values z)) (ring (shifted t n k) u)
    ∙ ap (map (link_of k.nodes)) (sh.ring_is u le)

-- where the list isn't the one it went to
links_left : (k : LinkedNodes) (t n : ℕ) → Shifts k t n → (u : ℕ) → u ≤ k.free → (u ≡ t → ⊥) → links_of (shifted t n k) u ≡ without n (links_of k u)
links_left k t n sh u le ne =
    shifted_links k t n sh u le ∙ ap (λ (b : Bool). map (link_of k.nodes) (but n (ring k u) ++ cond b (n ∷ []) [])) (unlike u t ne)
    ∙ ap (map (link_of k.nodes)) (append-nil (but n (ring k u))) ∙ links_but k.nodes n (ring k u)

-- a node is linked no more
pub unlinked_view : (k : LinkedNodes) (s n : ℕ) → IsSound k → s < k.free → Found (ring k) s n → chains_of (shifted k.free n k) ≡ unlinked n (chains_of k)
unlinked_view k s n sound l f =
    let sh : Shifts k k.free n = shift k s k.free n sound (omega arith) (omega arith) f in
    let me : IsOf k.nodes k.free s n = found_own k.nodes k.free s n (ring k) (sound.rings s (omega arith)) f in
    let own : (node_of k.nodes n).list ≡ s = me.list in
    let lists : length k.lengths ≡ k.free + 1 = sound.lists in
    let ds = one_less s k.lengths in
    let dl : length ds ≡ length k.lengths = length-set k.lengths s _ in
    chains_same _ _ _ _
    (rows_alike (links_of (shifted k.free n k)) (λ u. without n (links_of k u)) 0 k.free (λ u a b. links_left k k.free n sh u (omega arith) (λ e. omega arith))
    ∙ sym (map_rows (without n) (links_of k) 0 k.free))
    (rw own (get_or-set_same ds k.free (get_or ds k.free 0 + 1) 0 (omega arith)
    ∙ ap (λ (m : ℕ). m + 1) (get_or-set_other k.lengths s k.free (get_or k.lengths s 0 - 1) 0 (λ e. omega arith))))

-- a node is the last of its list
back_links : (k : LinkedNodes) (s n : ℕ) → IsSound k → s < k.free → Found (ring k) s n → (u : ℕ) → u < k.free → links_of (shifted s n k) u ≡ with_last n (links_of k u)
back_links k s n sound l f u ul = by_test (u == s) refl
  where
    sh : Shifts k s n
    sh = shift k s s n sound (omega arith) (omega arith) f

    me : IsOf k.nodes k.free s n
    me = found_own k.nodes k.free s n (ring k) (sound.rings s (omega arith)) f

    here : links_of (shifted s n k) s ≡ with_last n (links_of k s)
    here =
        let rg : IsRing k.nodes k.free s (ring k s) = sound.rings s (omega arith) in
        let lacks = subst (Lacks s) f.is (own_lacks k.nodes k.free s s (ring k s) (omega arith) rg.own) in
        let c = subst (λ (xs : List ℕ). Chain (after_of k.nodes) (before_of k.nodes) s xs s) f.is rg.chain in
        let one : filter (is_node n) (links_of k s) ≡ link_of k.nodes n ∷ [] =
        ap (λ (xs : List ℕ). filter (is_node n) (map (link_of k.nodes) xs)) f.is
        ∙ one_there k.nodes n f.front f.back (once_before (after_of k.nodes) (before_of k.nodes) s f.front n f.back s lacks c)
        (once_behind (after_of k.nodes) (before_of k.nodes) s f.front n f.back s lacks c) in
        shifted_links k s n sh s (omega arith) ∙ ap (λ (b : Bool). map (link_of k.nodes) (but n (ring k s) ++ cond b (n ∷ []) [])) (eq-eqb s s refl)
        ∙ map-append (link_of k.nodes) (but n (ring k s)) (n ∷ []) ∙ ap (λ (ls : List Link). ls ++ link_of k.nodes n ∷ []) (links_but k.nodes n (ring k s))
        ∙ ap (λ (ls : List Link). without n (links_of k s) ++ ls) (sym one)

    by_test : (v : Bool) → (u == s) ≡ v → links_of (shifted s n k) u ≡ with_last n (links_of k u)
    by_test true e = subst (λ (z : ℕ). links_of (shifted s n k) z ≡ with_last n (links_of k z)) (sym (eqb-true u s e)) here
    by_test false e =
        let us : u ≡ s → ⊥ = λ q. differs (u == s) (eq-eqb u s q) e in
        let rg : IsRing k.nodes k.free u (ring k u) = sound.rings u (omega arith) in
        let lacks : Lacks n (ring k u) = other_lacks k.nodes k.free u n (ring k u) (λ q. us (sym q ∙ me.list)) rg.own in
        links_left k s n sh u (omega arith) us
        ∙ sym (ap (λ (ls : List Link). without n (links_of k u) ++ ls) (none_there k.nodes n (ring k u) lacks) ∙ append-nil (without n (links_of k u)))

pub back_view : (k : LinkedNodes) (s n : ℕ) → IsSound k → s < k.free → Found (ring k) s n → chains_of (shifted s n k) ≡ moved_back n (chains_of k)
back_view k s n sound l f =
    let me : IsOf k.nodes k.free s n = found_own k.nodes k.free s n (ring k) (sound.rings s (omega arith)) f in
    let own : (node_of k.nodes n).list ≡ s = me.list in
    let ds = one_less s k.lengths in
    chains_same _ _ _ _
    (rows_alike (links_of (shifted s n k)) (λ u. with_last n (links_of k u)) 0 k.free (λ u a b. back_links k s n sound l f u (omega arith))
    ∙ sym (map_rows (with_last n) (links_of k) 0 k.free))
    (rw own (get_or-set_other ds s k.free (get_or ds s 0 + 1) 0 (λ e. omega arith)
    ∙ get_or-set_other k.lengths s k.free (get_or k.lengths s 0 - 1) 0 (λ e. omega arith)))

-- the first free node
follow_some : (ns : List Node) (m n : ℕ) → 0 < m → (back : List ℕ) × (follow ns m n ≡ n ∷ back)
follow_some ns zero n h = absurd (omega arith)
follow_some ns (suc m) n h = (follow ns m (after_of ns n), refl)

pub first_free : (k : LinkedNodes) → 0 < get_or k.lengths k.free 0 → Found (ring k) k.free (after_of k.nodes k.free)
first_free k some =
    let r = follow_some k.nodes (get_or k.lengths k.free 0) (after_of k.nodes k.free) some in
    record { front = []; back = r.0; is = r.1 }

-- a node has a value
abbrev pub valued : ℕ → ℕ → LinkedNodes → LinkedNodes
valued n v k = record k { nodes = with_value n v k.nodes }

pub record Values (k : LinkedNodes) (n v : ℕ) : Type 0 where
  pub sound : IsSound (valued n v k)
  pub rings_same : (u : ℕ) → u ≤ k.free → ring (valued n v k) u ≡ ring k u

pub value_written : (k : LinkedNodes) (n v : ℕ) → IsSound k → n < length k.nodes → Values k n v
value_written k n v sound in' =
    let rings : Rings (with_value n v k.nodes) k.lengths k.free (ring k) =
    rings_alike k.nodes (with_value n v k.nodes) k.lengths k.free (ring k) (valued_alike n v k.nodes in') (rings_of k sound) in
    let total : sum_by (λ n. n) k.lengths + length k.lengths ≡ length k.nodes = sound.total in
    let l : length (with_value n v k.nodes) ≡ length k.nodes = length-set k.nodes n _ in
    record {
      sound = sound_of (valued n v k) (ring k) sound.lists (total ∙ sym l) rings;
      rings_same = ring_is (valued n v k) (ring k) rings;
    }

-- a free node's number is in range
free_in_range : (k : LinkedNodes) (n : ℕ) → IsSound k → Found (ring k) k.free n → n < length k.nodes
free_in_range k n sound f =
    let me : IsOf k.nodes k.free k.free n = found_own k.nodes k.free k.free n (ring k) (sound.rings k.free (omega arith)) f in
    me.within

pub still_free : (k : LinkedNodes) (n v : ℕ) → Values k n v → Found (ring k) k.free n → Found (ring (valued n v k)) k.free n
still_free k n v w f = record { front = f.front; back = f.back; is = w.rings_same k.free (omega arith) ∙ f.is }

-- what is seen of a node that has another value
link_valued : (ns : List Node) (n v z : ℕ) → n < length ns → link_of (with_value n v ns) z ≡ link_given n v (link_of ns z)
link_valued ns n v z in' = by_test (z == n) refl
  where
    by_test : (b : Bool) → (z == n) ≡ b → link_of (with_value n v ns) z ≡ cond b (record (link_of ns z) { value = v }) (link_of ns z)
    by_test true e =
        ap (λ (x : ℕ). record { node = z; value = (node_of (with_value n v ns) x).value }) (eqb-true z n e)
        ∙ ap (λ (x : ℕ). record { node = z; value = x }) (field_written (λ m. m.value) ns n (record (node_of ns n) { value = v }) in')
    by_test false e =
        ap (λ (x : ℕ). record { node = z; value = x })
        (field_other (λ m. m.value) ns n (record (node_of ns n) { value = v }) z (λ q. differs (z == n) (eq-eqb z n q) e))

links_given : (ns : List Node) (n v : ℕ) (xs : List ℕ) → n < length ns
    → map (link_of (with_value n v ns)) xs ≡ map (link_given n v) (map (link_of ns) xs)
links_given ns n v [] in' = refl
links_given ns n v (x ∷ xs) in' =
    rw (link_valued ns n v x in') (ap (λ (ls : List Link). link_given n v (link_of ns x) ∷ ls) (links_given ns n v xs in'))

pub given_view : (k : LinkedNodes) (n v : ℕ) → n < length k.nodes → Values k n v → chains_of (valued n v k) ≡ value_given n v (chains_of k)
given_view k n v in' w =
    chains_same _ _ _ _
    (rows_alike (links_of (valued n v k)) (λ u. map (link_given n v) (links_of k u)) 0 k.free (λ u a b.
    ap (map (link_of (with_value n v k.nodes))) (w.rings_same u (omega arith)) ∙ links_given k.nodes n v (ring k u) in')
    ∙ sym (map_rows (map (link_given n v)) (links_of k) 0 k.free))
    refl

links_valued : (ns : List Node) (n v : ℕ) (xs : List ℕ) → Lacks n xs → map (link_of (with_value n v ns)) xs ≡ map (link_of ns) xs
links_valued ns n v [] l = refl
links_valued ns n v (x ∷ xs) l =
    rw (field_other (λ m. m.value) ns n (record (node_of ns n) { value = v }) x l.0) (ap (λ (ls : List Link). link_of ns x ∷ ls) (links_valued ns n v xs l.1))

pushed_links : (k : LinkedNodes) (t n v : ℕ) → IsSound k → t < k.free → Found (ring k) k.free n → (u : ℕ) → u < k.free
    → links_of (shifted t n (valued n v k)) u ≡ links_of k u ++ map (link_of (with_value n v k.nodes)) (last_if u t n)
pushed_links k t n v sound l f u ul =
    let w : Values k n v = value_written k n v sound (free_in_range k n sound f) in
    let sh : Shifts (valued n v k) t n = shift (valued n v k) k.free t n w.sound (omega arith) (omega arith) (still_free k n v w f) in
    let me : IsOf k.nodes k.free k.free n = found_own k.nodes k.free k.free n (ring k) (sound.rings k.free (omega arith)) f in
    let own : (node_of k.nodes n).list ≡ k.free = me.list in
    let rg : IsRing k.nodes k.free u (ring k u) = sound.rings u (omega arith) in
    let lacks : Lacks n (ring k u) = other_lacks k.nodes k.free u n (ring k u) (λ q. (let z : k.free ≡ u = sym own ∙ q in omega arith)) rg.own in
    let F = link_of (with_value n v k.nodes) in
    shifted_links (valued n v k) t n sh u (omega arith) ∙ map-append F (but n (ring (valued n v k) u)) (last_if u t n)
    ∙ ap (λ (ls : List Link). ls ++ map F (last_if u t n))
    (ap (λ (xs : List ℕ). map F (but n xs)) (w.rings_same u (omega arith)) ∙ ap (map F) (but_lacking n (ring k u) lacks) ∙ links_valued k.nodes n v (ring k u)
    lacks)

-- what is seen of a list after a node was linked behind its others
pushed_at : (k : LinkedNodes) (t n v : ℕ) → IsSound k → t < k.free → Found (ring k) k.free n → (u : ℕ) → u < k.free
    → get_or (pushed t (record { node = n; value = v }) (chains_of k)).lists u [] ≡ links_of (shifted t n (valued n v k)) u
pushed_at k t n v sound l f u ul = by_test (u == t) refl
  where
    rows : List (List Link)
    rows = map (links_of k) (range_with_len 0 k.free)

    long : length rows ≡ k.free
    long = length-map-range_with_len (links_of k) 0 k.free

    written : (node_of (with_value n v k.nodes) n).value ≡ v
    written =
        let me : IsOf k.nodes k.free k.free n = found_own k.nodes k.free k.free n (ring k) (sound.rings k.free (omega arith)) f in
        field_written (λ m. m.value) k.nodes n (record (node_of k.nodes n) { value = v }) me.within

    by_test : (b : Bool) → (u == t) ≡ b
        → get_or (set rows t (get_or rows t [] ++ record { node = n; value = v } ∷ [])) u [] ≡ links_of (shifted t n (valued n v k)) u
    by_test true e =
        let ut : u ≡ t = eqb-true u t e in
        let tl : t < length rows = (let x : length rows ≡ k.free = long in omega arith) in
        ap (λ (z : ℕ). get_or (set rows t (get_or rows t [] ++ record { node = n; value = v } ∷ [])) z []) ut
        ∙ get_or-set_same rows t (get_or rows t [] ++ record { node = n; value = v } ∷ []) [] tl
        ∙ ap (λ (ls : List Link). ls ++ record { node = n; value = v } ∷ []) (list_is k t l ∙ ap (links_of k) (sym ut))
        ∙ ap (λ (z : ℕ). links_of k u ++ record { node = n; value = z } ∷ []) (sym written)
        ∙ sym (pushed_links k t n v sound l f u ul ∙ ap (λ (b : Bool). links_of k u ++ map (link_of (with_value n v k.nodes)) (cond b (n ∷ []) [])) e)
    by_test false e =
        get_or-set_other rows t u (get_or rows t [] ++ record { node = n; value = v } ∷ []) [] (λ q. differs (u == t) (eq-eqb u t q) e)
        ∙ list_is k u ul ∙ sym (append-nil (links_of k u))
        ∙ sym (pushed_links k t n v sound l f u ul ∙ ap (λ (b : Bool). links_of k u ++ map (link_of (with_value n v k.nodes)) (cond b (n ∷ []) [])) e)

pub pushed_view : (k : LinkedNodes) (t n v : ℕ) → IsSound k → t < k.free → Found (ring k) k.free n
    → chains_of (shifted t n (valued n v k)) ≡ pushed t (record { node = n; value = v }) (chains_of k)
pushed_view k t n v sound l f =
    let me : IsOf k.nodes k.free k.free n = found_own k.nodes k.free k.free n (ring k) (sound.rings k.free (omega arith)) f in
    let own : (node_of (with_value n v k.nodes) n).list ≡ k.free =
    field_written (λ m. m.list) k.nodes n (record (node_of k.nodes n) { value = v }) me.within ∙ me.list in
    let lists : length k.lengths ≡ k.free + 1 = sound.lists in
    let ds = one_less k.free k.lengths in
    let rows = (pushed t (record { node = n; value = v }) (chains_of k)).lists in
    let ln : length rows ≡ k.free = length-set (chains_of k).lists t _ ∙ length-map-range_with_len (links_of k) 0 k.free in
    chains_same _ _ _ _ (sym (fill_by_all (links_of (shifted t n (valued n v k))) rows k.free [] ln (λ u ul. pushed_at k t n v sound l f u ul)))
    (rw own (get_or-set_other ds t k.free (get_or ds t 0 + 1) 0 (λ e. omega arith)
    ∙ get_or-set_same k.lengths k.free (get_or k.lengths k.free 0 - 1) 0 (omega arith)))

-- more nodes are free
abbrev pub enlarged : ℕ → LinkedNodes → LinkedNodes
enlarged m k = record k { nodes = added m k.free k.nodes; lengths = set k.lengths k.free (get_or k.lengths k.free 0 + m) }

pub record Enlarges (k : LinkedNodes) (m : ℕ) : Type 0 where
  pub sound : IsSound (enlarged m k)
  pub seen : chains_of (enlarged m k) ≡ record (chains_of k) { spare = get_or k.lengths k.free 0 + m }

pub enlarges : (k : LinkedNodes) (m : ℕ) → IsSound k → Enlarges k m
enlarges k m sound =
    let lists : length k.lengths ≡ k.free + 1 = sound.lists in
    let total : sum_by (λ n. n) k.lengths + length k.lengths ≡ length k.nodes = sound.total in
    let g : Grows k.nodes (added m k.free k.nodes) k.lengths k.free m (ring k) =
    add m k.nodes k.lengths k.free (ring k) lists (omega arith) (rings_of k sound) in
    let ls = set k.lengths k.free (get_or k.lengths k.free 0 + m) in
    let ll : length ls ≡ length k.lengths = length-set k.lengths k.free _ in
    let sum : sum_by (λ n. n) ls + get_or k.lengths k.free 0 ≡ sum_by (λ n. n) k.lengths + (get_or k.lengths k.free 0 + m) =
    sum_by-set (λ (n : ℕ). n) k.lengths k.free (get_or k.lengths k.free 0 + m) 0 (omega arith) in
    let long : length (added m k.free k.nodes) ≡ length k.nodes + m = g.long in
    record {
      sound = sound_of (enlarged m k) g.after (ll ∙ lists) (omega arith) g.rings;
      seen =
          chains_same _ _ _ _
          (rows_alike (links_of (enlarged m k)) (links_of k) 0 k.free
          (λ u a b.
          map_alike (link_of (added m k.free k.nodes)) (link_of k.nodes) (λ z. ap (λ (v : ℕ). record { node = z; value = v }) (g.values z)) (ring
          (enlarged m k) u)
          ∙ ap (map (link_of k.nodes)) (ring_is (enlarged m k) g.after g.rings u (omega arith) ∙ g.same u (omega arith))))
          (get_or-set_same k.lengths k.free (get_or k.lengths k.free 0 + m) 0 (omega arith));
    }

-- no node but those of the lists themselves
abbrev pub empty : ℕ → LinkedNodes
empty free = record { nodes = map alone (range_with_len 0 (free + 1)); lengths = replicate (free + 1) 0; free = free }

empty_node : (free s : ℕ) → s ≤ free → node_of (empty free).nodes s ≡ alone s
empty_node free s le = get_or-map-range_with_len alone 0 (free + 1) s s (alone 0) (omega arith) (omega arith)

empty_length : (free s : ℕ) → s ≤ free → get_or (empty free).lengths s 0 ≡ 0
empty_length free s le = get_or-replicate (free + 1) s 0 0 (omega arith)

empty_ring : (free s : ℕ) → s ≤ free → ring (empty free) s ≡ []
empty_ring free s le = ap (λ (m : ℕ). follow (empty free).nodes m (after_of (empty free).nodes s)) (empty_length free s le)

pub empty_sound : (free : ℕ) → IsSound (empty free)
empty_sound free =
    let ll : length (empty free).lengths ≡ free + 1 = length-replicate (free + 1) 0 in
    let nl : length (empty free).nodes ≡ free + 1 = length-map-range_with_len alone 0 (free + 1) in
    let sum : sum_by (λ n. n) (empty free).lengths ≤ length (empty free).lengths * 0 =
    sum_by-le (λ (n : ℕ). n) 0 (empty free).lengths (All-replicate (λ (n : ℕ). n ≤ 0) (free + 1) 0 (omega arith)) in
    record {
      lists = ll;
      total = omega arith;
      rings = λ s le.
          subst (IsRing (empty free).nodes free s) (sym (empty_ring free s le))
          (record { chain = (ap (λ (m : Node). m.after) (empty_node free s le), ap (λ (m : Node). m.before) (empty_node free s le)); own = tt });
    }

all_empty : (n a : ℕ) (f : ℕ → List Link) → ((s : ℕ) → a ≤ s → s < a + n → f s ≡ []) → map f (range_with_len a n) ≡ replicate n []
all_empty zero a f h = refl
all_empty (suc n) a f h =
    rw (h a (omega arith) (omega arith)) (ap (λ (ls : List (List Link)). [] ∷ ls) (all_empty n (a + 1) f (λ s l m. h s (omega arith) (omega arith))))

pub empty_view : (free : ℕ) → chains_of (empty free) ≡ record { lists = replicate free []; spare = 0 }
empty_view free =
    chains_same _ _ _ _ (all_empty free 0 (links_of (empty free)) (λ s l m. ap (map (link_of (empty free).nodes)) (empty_ring free s (omega arith))))
    (empty_length free free (omega arith))
