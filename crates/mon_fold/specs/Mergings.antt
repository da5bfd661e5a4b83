-- The ways in which parts are made of items and of one another.
use Rattle.std.specs.Prelude.{List, [], ◌∷◌, ◌++◌}

-- nothing, one item, or what two such ways make, merged
pub data Merging (A : Type 0) : Type 0 where
  nothing : Merging A
  one : A → Merging A
  both : Merging A → Merging A → Merging A

-- the items that went in, in the order of their places
abbrev pub items_of : {A : Type 0} → Merging A → List A
items_of nothing = []
items_of (one item) = item ∷ []
items_of (both left right) = items_of left ++ items_of right

-- the part that is made, where `part_of` is what items come to and `merged` what two parts do
abbrev pub part_made : {A P : Type 0} → (List A → P) → (P → P → P) → Merging A → P
part_made part_of merged nothing = part_of []
part_made part_of merged (one item) = part_of (item ∷ [])
part_made part_of merged (both left right) = merged (part_made part_of merged left) (part_made part_of merged right)

-- each merge on the way is allowed
abbrev pub IsAllowed : {A P : Type 0} → (List A → P) → (P → P → P) → (P → P → Type 0) → Merging A → Type 0
IsAllowed part_of merged can_merge nothing = Unit {0}
IsAllowed part_of merged can_merge (one item) = Unit {0}
IsAllowed part_of merged can_merge (both left right) =
    IsAllowed part_of merged can_merge left
    × IsAllowed part_of merged can_merge right
    × can_merge (part_made part_of merged left) (part_made part_of merged right)
