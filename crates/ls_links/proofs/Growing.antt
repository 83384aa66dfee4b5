-- Nodes that are added, and a node's value that is written: what is kept stays sound.
use Rattle.std.proofs.Common.{◌≡◌, ℕ, suc, zero, ◌+◌, ◌<◌, ◌≤◌, List, [], ◌∷◌, ◌++◌, length, get_or, set, refl, sym, ◌∙◌, ap, arith, subst, length-append}
use Rattle.std.proofs.lemmas.List.{get_or-set_same, length-set, append-nil, set-set, set-get_or, length_push}
use Rattle.ls_links.specs.declared.node.Node.{Node}
use Rattle.ls_links.specs.Nodes.{Each, Chain, IsOf, IsRing, node_of, after_of, before_of, with_value, grown, added, alone}
use Rattle.ls_links.proofs.Chaining.{Lacks, each_weaker, unlike}
use Rattle.ls_links.proofs.Writes.{field_kept, IsPutAt, attached_length}
use Rattle.ls_links.proofs.Rings.{Rings, Loose}
use Rattle.ls_links.proofs.Shifts.{last_if, put_at, put_rings, attached_values}

-- nodes that are linked alike
pub record Alike (ns ms : List Node) : Type 0 where
  pub after : (z : ℕ) → after_of ms z ≡ after_of ns z
  pub before : (z : ℕ) → before_of ms z ≡ before_of ns z
  pub list : (z : ℕ) → (node_of ms z).list ≡ (node_of ns z).list
  pub longer : length ns ≤ length ms

pub chain_alike : (f g f' g' : ℕ → ℕ) → ((z : ℕ) → f' z ≡ f z) → ((z : ℕ) → g' z ≡ g z) → (a : ℕ) (xs : List ℕ) (b : ℕ) → Chain f g a xs b → Chain f' g' a xs b
chain_alike f g f' g' hf hg a [] b c = (hf a ∙ c.0, hg b ∙ c.1)
chain_alike f g f' g' hf hg a (x ∷ xs) b c = ((hf a ∙ c.0.0, hg x ∙ c.0.1), chain_alike f g f' g' hf hg x xs b c.1)

pub rings_alike : (ns ms : List Node) (ls : List ℕ) (free : ℕ) (r : ℕ → List ℕ) → Alike ns ms → Rings ns ls free r → Rings ms ls free r
rings_alike ns ms ls free r alike rings =
    record {
      ring = λ u le. (
          let rg : IsRing ns free u (r u) = rings.ring u le in
          record {
            chain = chain_alike (after_of ns) (before_of ns) _ _ alike.after alike.before u (r u) u rg.chain;
            own =
                each_weaker (IsOf ns free u) (IsOf ms free u) (r u)
                (λ x o. record {
                  behind = o.behind;
                  within =
                      (let w : x < length ns = o.within in let l : length ns ≤ length ms = alike.longer in omega arith);
                  list = alike.list x ∙ o.list;
                })
                rg.own;
          }
          );
      long = rings.long;
    }

pub node_of_longer : (ns : List Node) (z : ℕ) → node_of (ns ++ alone 0 ∷ []) z ≡ node_of ns z
node_of_longer [] zero = refl
node_of_longer [] (suc z) = refl
node_of_longer (n ∷ ns) zero = refl
node_of_longer (n ∷ ns) (suc z) = node_of_longer ns z

longer_alike : (ns : List Node) → Alike ns (ns ++ alone 0 ∷ [])
longer_alike ns =
    record {
      after = λ z. ap (λ (m : Node). m.after) (node_of_longer ns z);
      before = λ z. ap (λ (m : Node). m.before) (node_of_longer ns z);
      list = λ z. ap (λ (m : Node). m.list) (node_of_longer ns z);
      longer = (let l = length-append ns (alone 0 ∷ []) in omega arith);
    }

lacks_length : (ns : List Node) (free u : ℕ) (xs : List ℕ) → Each (IsOf ns free u) xs → Lacks (length ns) xs
lacks_length ns free u xs own =
    each_weaker (IsOf ns free u) (λ x. x ≡ length ns → ⊥) xs (λ x o e. (let w : x < length ns = o.within in absurd (omega arith))) own

-- what one more node leaves
pub record Grows (ns ms : List Node) (ls : List ℕ) (free k : ℕ) (r : ℕ → List ℕ) : Type 0 where
  pub after : ℕ → List ℕ
  pub rings : Rings ms (set ls free (get_or ls free 0 + k)) free after
  pub same : (u : ℕ) → u < free → after u ≡ r u
  pub values : (z : ℕ) → (node_of ms z).value ≡ (node_of ns z).value
  pub long : length ms ≡ length ns + k

pub grow : (ns : List Node) (ls : List ℕ) (free : ℕ) (r : ℕ → List ℕ) → length ls ≡ free + 1 → free < length ns → Rings ns ls free r
    → Grows ns (grown free ns) ls free 1 r
grow ns ls free r lists in' rings =
    let ms = ns ++ alone 0 ∷ [] in
    let l : length ms ≡ length ns + 1 = length_push ns (alone 0) in
    let rm : Rings ms ls free r = rings_alike ns ms ls free r (longer_alike ns) rings in
    let loose : Loose r free (length ns) = record { lacks = λ u le. lacks_length ns free u (r u) (rings.ring u le).own } in
    let n : length ns < length ms = omega arith in
    let b : IsPutAt ms free (length ns) = put_at ms free free (length ns) (r free) (omega arith) in' n (rm.ring free (omega arith)) (loose.lacks free
    (omega arith)) in
    record {
      after = λ u. r u ++ last_if u free (length ns);
      rings = put_rings ms ls free free (length ns) r (omega arith) lists in' n rm loose;
      same = λ u le. rw (unlike u free (λ e. omega arith)) (append-nil (r u));
      values = λ z. attached_values free (length ns) ms b z ∙ ap (λ (m : Node). m.value) (node_of_longer ns z);
      long = attached_length free (length ns) ms ∙ l;
    }

pub add : (k : ℕ) (ns : List Node) (ls : List ℕ) (free : ℕ) (r : ℕ → List ℕ) → length ls ≡ free + 1 → free < length ns → Rings ns ls free r
    → Grows ns (added k free ns) ls free k r
add zero ns ls free r lists in' rings =
    let same : set ls free (get_or ls free 0 + 0) ≡ ls = ap (set ls free) (omega arith) ∙ set-get_or ls free 0 in
    record {
      after = r;
      rings = subst (λ (l : List ℕ). Rings ns l free r) (sym same) rings;
      same = λ u le. refl;
      values = λ z. refl;
      long = omega arith;
    }
add (suc k) ns ls free r lists in' rings =
    let g : Grows ns (added k free ns) ls free k r = add k ns ls free r lists in' rings in
    let l' = set ls free (get_or ls free 0 + k) in
    let ll : length l' ≡ length ls = length-set ls free _ in
    let long : length (added k free ns) ≡ length ns + k = g.long in
    let h : Grows (added k free ns) (grown free (added k free ns)) l' free 1 g.after =
    grow (added k free ns) l' free g.after (ll ∙ lists) (omega arith) g.rings in
    let at : get_or l' free 0 ≡ get_or ls free 0 + k = get_or-set_same ls free (get_or ls free 0 + k) 0 (omega arith) in
    let same : set l' free (get_or l' free 0 + 1) ≡ set ls free (get_or ls free 0 + suc k) =
    ap (set l' free) (omega arith) ∙ set-set ls free (get_or ls free 0 + k) (get_or ls free 0 + suc k) in
    let more : length (grown free (added k free ns)) ≡ length (added k free ns) + 1 = h.long in
    record {
      after = h.after;
      rings = subst (λ (l : List ℕ). Rings (grown free (added k free ns)) l free h.after) same h.rings;
      same = λ u le. h.same u le ∙ g.same u le;
      values = λ z. h.values z ∙ g.values z;
      long = omega arith;
    }

-- a value is written
pub valued_alike : (n v : ℕ) (ns : List Node) → n < length ns → Alike ns (with_value n v ns)
valued_alike n v ns in' =
    record {
      after = field_kept (λ m. m.after) ns n _ in' refl;
      before = field_kept (λ m. m.before) ns n _ in' refl;
      list = field_kept (λ m. m.list) ns n _ in' refl;
      longer = (let l : length (with_value n v ns) ≡ length ns = length-set ns n _ in omega arith);
    }
