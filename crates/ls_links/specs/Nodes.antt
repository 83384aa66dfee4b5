-- Lists that are linked over one vector of nodes: what the vector is seen as, and what each change of it writes.
use Rattle.std.specs.Prelude.{◌≡◌, ℕ, zero, suc, ◌+◌, ◌-◌, ◌<◌, ◌≤◌, List, [], ◌∷◌, ◌++◌, map, set, get_or, length}
use Rattle.std.specs.Prelude.{Option, Some, None, nat_lt, if◌then◌else◌}
use Rattle.std.specs.List.{sum_by, range_with_len}
use Rattle.ls_links.specs.Chains.{Link, Chains}
use Rattle.ls_links.specs.declared.node.Node.{Node}

-- a node that stands alone
abbrev pub alone : ℕ → Node
alone n = record { after = n; before = n; list = n; value = 0 }

-- what is kept: the nodes, of which the first ones are those of the lists themselves; how many nodes each list has; and
-- the number of the list of nodes that are free, which is the last list
pub record LinkedNodes : Type 0 where
  pub nodes : List Node
  pub lengths : List ℕ
  pub free : ℕ

abbrev pub node_of : List Node → ℕ → Node
node_of ns n = get_or ns n (alone 0)

abbrev pub after_of : List Node → ℕ → ℕ
after_of ns n = (node_of ns n).after

abbrev pub before_of : List Node → ℕ → ℕ
before_of ns n = (node_of ns n).before

-- so many nodes from one on
abbrev pub follow : List Node → ℕ → ℕ → List ℕ
follow ns zero n = []
follow ns (suc k) n = n ∷ follow ns k (after_of ns n)

-- the nodes of a list
abbrev pub ring : LinkedNodes → ℕ → List ℕ
ring k s = follow k.nodes (get_or k.lengths s 0) (after_of k.nodes s)

abbrev pub link_of : List Node → ℕ → Link
link_of ns n = record { node = n; value = (node_of ns n).value }

abbrev pub links_of : LinkedNodes → ℕ → List Link
links_of k s = map (link_of k.nodes) (ring k s)

-- what the nodes are seen as
abbrev pub chains_of : LinkedNodes → Chains
chains_of k =
    record { lists = map (links_of k) (range_with_len 0 k.free); spare = get_or k.lengths k.free 0 }

-- each number is such
abbrev pub Each : (ℕ → Type 0) → List ℕ → Type 0
Each P [] = Unit {0}
Each P (n ∷ ns) = P n × Each P ns

-- from a node through these to another, each is the one behind the one before it
abbrev pub Chain : (ℕ → ℕ) → (ℕ → ℕ) → ℕ → List ℕ → ℕ → Type 0
Chain after before a [] b = (after a ≡ b) × (before b ≡ a)
Chain after before a (n ∷ ns) b = ((after a ≡ n) × (before n ≡ a)) × Chain after before n ns b

-- a node is one of a list
pub record IsOf (ns : List Node) (free s n : ℕ) : Type 0 where
  pub behind : free < n
  pub within : n < length ns
  pub list : (node_of ns n).list ≡ s

-- the nodes of a list are linked in a circle through the list's own node
pub record IsRing (ns : List Node) (free s : ℕ) (xs : List ℕ) : Type 0 where
  pub chain : Chain (after_of ns) (before_of ns) s xs s
  pub own : Each (IsOf ns free s) xs

-- so are those of each list; there is a node for each one that is one_more, and for each list
pub record IsSound (k : LinkedNodes) : Type 0 where
  pub lists : length k.lengths ≡ k.free + 1
  pub total : sum_by (λ n. n) k.lengths + length k.lengths ≡ length k.nodes
  pub rings : (s : ℕ) → s ≤ k.free → IsRing k.nodes k.free s (ring k s)

-- a node's link forward, its link back, its list and its value are changed
abbrev pub with_after : ℕ → ℕ → List Node → List Node
with_after n to ns = set ns n (record (node_of ns n) { after = to })

abbrev pub with_before : ℕ → ℕ → List Node → List Node
with_before n to ns = set ns n (record (node_of ns n) { before = to })

abbrev pub with_value : ℕ → ℕ → List Node → List Node
with_value n value ns = set ns n (record (node_of ns n) { value = value })

-- the nodes on both sides of a node are linked to each other
abbrev pub detached : ℕ → List Node → List Node
detached n ns =
    with_before (after_of ns n) (before_of ns n) (with_after (before_of ns n) (after_of ns n) ns)

-- a node is linked behind the last one of a list
abbrev pub attached : ℕ → ℕ → List Node → List Node
attached s n ns =
    with_before s n
    (set (with_after (before_of ns s) n ns) n
    (record (node_of (with_after (before_of ns s) n ns) n) { after = s; before = before_of ns s; list = s }))

-- a list has one node less, or one more
abbrev pub one_less : ℕ → List ℕ → List ℕ
one_less s ls = set ls s (get_or ls s 0 - 1)

abbrev pub one_more : ℕ → List ℕ → List ℕ
one_more s ls = set ls s (get_or ls s 0 + 1)

-- a node went from its list to the back of one
abbrev pub shifted : ℕ → ℕ → LinkedNodes → LinkedNodes
shifted s n k =
    record k {
      nodes = attached s n (detached n k.nodes);
      lengths = one_more s (one_less (node_of k.nodes n).list k.lengths);
    }

-- a new node is free, and so are so many
abbrev pub grown : ℕ → List Node → List Node
grown free ns = attached free (length ns) (ns ++ alone 0 ∷ [])

abbrev pub added : ℕ → ℕ → List Node → List Node
added zero free ns = ns
added (suc k) free ns = grown free (added k free ns)

-- a node can go to the back of a list: what is read and written is there, and the counts are in range
pub record MayShift (ns : List Node) (ls : List ℕ) (s n : ℕ) : Type 0 where
  pub node : n < length ns
  pub list : s < length ns
  pub before : before_of ns n < length ns
  pub after : after_of ns n < length ns
  pub last : before_of (detached n ns) s < length ns
  pub own : (node_of ns n).list < length ls
  pub some : 0 < get_or ls (node_of ns n).list 0
  pub listed : s < length ls
  pub few : get_or (one_less (node_of ns n).list ls) s 0 < length ns

-- the number of a node, and none where it is that of a list's own node
abbrev pub proper : ℕ → ℕ → Option ℕ
proper free n = if nat_lt free n then Some n else None
