-- Lists of nodes, and what each call makes of them.
use Rattle.std.specs.Prelude.{◌≡◌, ℕ, ◌+◌, ◌-◌, List, [], ◌∷◌, ◌++◌, map, set, get_or, not, ◌==◌, slice_get}
use Rattle.std.specs.Prelude.{Option, Some, Bool, if◌then◌else◌}
use Rattle.std.specs.List.{filter}
use Rattle.std.specs.Option.{option_map}

-- a node of a list, and its value
pub record Link : Type 0 where
  pub node : ℕ
  pub value : ℕ

-- lists of nodes, and how many more nodes may be linked without memory
pub record Chains : Type 0 where
  pub lists : List (List Link)
  pub spare : ℕ

-- the nodes of a list, in order
abbrev pub list_of : Chains → ℕ → List Link
list_of c list = get_or c.lists list []

-- the node at a place of a list, from 0
abbrev pub link_at : Chains → ℕ → ℕ → Option Link
link_at c list place = slice_get (list_of c list) place

abbrev pub node_at : Chains → ℕ → ℕ → Option ℕ
node_at c list place = option_map (λ l. l.node) (link_at c list place)

-- a node of a value stands at a place of a list
abbrev pub IsAt : Chains → ℕ → ℕ → ℕ → ℕ → Type 0
IsAt c list place node value = link_at c list place ≡ Some (record { node = node; value = value })

-- a node is linked: it stands somewhere
pub record IsLinked (c : Chains) (node : ℕ) : Type 0 where
  pub list : ℕ
  pub place : ℕ
  pub value : ℕ
  pub here : IsAt c list place node value

-- an element is in a list
abbrev pub In : {A : Type 0} → List A → A → Type 0
In xs x = (i : ℕ) × (slice_get xs i ≡ Some x)

-- a node stands at one place of one list at most
abbrev pub Apart : Chains → Type 0
Apart c = (node list list' place place' value value' : ℕ) → IsAt c list place node value
    → IsAt c list' place' node value' → (list ≡ list') × (place ≡ place')

-- whether it is this node
abbrev pub is_node : ℕ → Link → Bool
is_node node l = l.node == node

-- the nodes of a list but this one
abbrev pub without : ℕ → List Link → List Link
without node ls = filter (λ l. not (is_node node l)) ls

-- this one last, where it is in the list
abbrev pub with_last : ℕ → List Link → List Link
with_last node ls = without node ls ++ filter (is_node node) ls

-- a node is linked behind the others of a list
abbrev pub pushed : ℕ → Link → Chains → Chains
pushed list l c = record { lists = set c.lists list (list_of c list ++ l ∷ []); spare = c.spare - 1 }

-- a node is linked no more
abbrev pub unlinked : ℕ → Chains → Chains
unlinked node c = record { lists = map (without node) c.lists; spare = c.spare + 1 }

-- a node is the last of its list
abbrev pub moved_back : ℕ → Chains → Chains
moved_back node c = record c { lists = map (with_last node) c.lists }

-- this node has this value
abbrev pub link_given : ℕ → ℕ → Link → Link
link_given node value l = if is_node node l then record l { value = value } else l

-- a linked node has this value
abbrev pub value_given : ℕ → ℕ → Chains → Chains
value_given node value c = record c { lists = map (map (link_given node value)) c.lists }
