-- A digital search tree: a hash is a path through it, bit by bit from the lowest, and entries lie along the paths.
use Rattle.std.specs.Prelude.{◌≡◌, ℕ, ◌<◌, ◌≤◌, ◌/◌, ◌%◌, Bool, cond, nat_eq, List, map, length, slice_get, Some}
use Rattle.insertion_map.specs.declared.tree.Node.{Node}

-- whether a path with these bits left goes on with an odd one
abbrev pub is_odd : ℕ → Bool
is_odd bits = nat_eq (bits % 2) 1

-- the number of the entry below a node, on a path with these bits left; one that is not above the node's own says that
-- there is none
abbrev pub below : Node → ℕ → ℕ
below node bits = cond (is_odd bits) node.odd node.even

-- the node, with a number below it on paths that go on with an odd bit
abbrev pub with_odd : Node → ℕ → Node
with_odd node number = record { hash = node.hash; even = node.even; odd = number }

-- the node, with a number below it on paths that go on with an even bit
abbrev pub with_even : Node → ℕ → Node
with_even node number = record { hash = node.hash; even = number; odd = node.odd }

-- the node, with a number below it on a path with these bits left
abbrev pub hung : Node → ℕ → ℕ → Node
hung node bits number = cond (is_odd bits) (with_odd node number) (with_even node number)

-- from a node with some bits left, a path leads to another one with the rest of them
pub data Leads (nodes : List Node) : ℕ → ℕ → ℕ → ℕ → Type 0 where
  here : {place bits : ℕ} → Leads nodes place bits place bits
  down : {place bits end rest : ℕ} (node : Node) → slice_get nodes place ≡ Some node → place < below node bits →
      Leads nodes (below node bits) (bits / 2) end rest → Leads nodes place bits end rest

-- the path of a hash ends at a node, with these bits left
pub record EndsAt (nodes : List Node) (hash place rest : ℕ) : Type 0 where
  pub path : Leads nodes 0 hash place rest
  pub last : (node : Node) × (slice_get nodes place ≡ Some node) × (below node rest ≤ place)

-- each entry lies on the path of its hash, and what is below an entry is there
pub record IsTree (nodes : List Node) : Type 0 where
  pub reached : (i : ℕ) (node : Node) → slice_get nodes i ≡ Some node → (rest : ℕ) × Leads nodes 0 node.hash i rest
  pub there : (i : ℕ) (node : Node) (bits : ℕ) → slice_get nodes i ≡ Some node → below node bits < length nodes

-- the hashes of the entries, in the order of the entries
abbrev pub hashes_of : List Node → List ℕ
hashes_of nodes = map (λ (node : Node). node.hash) nodes
