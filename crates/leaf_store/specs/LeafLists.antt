-- Several leaves, of which one changes.
use Rattle.std.specs.Prelude.{◌≡◌, ℕ, nat_eq, List, option_map, slice_get, if◌then◌else◌}
use Rattle.mon_value.specs.declared.positions.Leaf.{Leaf}
use Rattle.leaf_store.specs.LeafStates.{LeafView}

-- one of the leaves was changed
abbrev pub IsChanged : Leaf → (LeafView → LeafView) → List LeafView → List LeafView → Type 0
IsChanged leaf change old new =
    (n : ℕ) → slice_get new n ≡ (if nat_eq leaf.0 n then option_map change (slice_get old n) else slice_get old n)
