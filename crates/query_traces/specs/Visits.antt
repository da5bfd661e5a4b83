-- The visits of a round.
use Rattle.std.specs.Prelude.{ℕ, ◌-◌, nat_le, List, [], ◌∷◌, ◌++◌, map, set, Option, Some, None, if◌then◌else◌}
use Rattle.mon_fold.specs.declared.answers.LeafAnswer.{LeafAnswer}
use Rattle.mon_value.specs.declared.positions.Leaf.{Leaf}
use Rattle.query_traces.specs.declared.looks.Look.{Look}
use Rattle.query_traces.specs.Rounds.{unread_look}

-- the leaves that are still to be visited, what is known of each leaf of the zone from its first one on, and the
-- answers of those that were read
pub record Visits : Type 0 where
  pub left : List Leaf
  pub first : Leaf
  pub looks : List Look
  pub answers : List LeafAnswer

-- none is read yet: each stands as it had been seen
abbrev pub visits_of : List Leaf → Leaf → List ℕ → Visits
visits_of leaves first cuts = record { left = leaves; first = first; looks = map unread_look cuts; answers = [] }

abbrev pub first_left : List Leaf → Option Leaf
first_left [] = None
first_left (leaf ∷ left) = Some leaf

abbrev pub next_leaf : Visits → Option Leaf
next_leaf visits = first_left visits.left

abbrev pub but_first : List Leaf → List Leaf
but_first [] = []
but_first (leaf ∷ left) = left

abbrev pub gone_on : Visits → Visits
gone_on visits = record {
  left = but_first visits.left;
  first = visits.first;
  looks = visits.looks;
  answers = visits.answers;
}

-- what became of a leaf
abbrev pub with_look : Visits → Leaf → Look → Visits
with_look visits leaf look = record {
  left = visits.left;
  first = visits.first;
  looks = if nat_le visits.first.0 leaf.0 then set visits.looks (leaf.0 - visits.first.0) look else visits.looks;
  answers = visits.answers;
}

abbrev pub with_leaf_answer : Visits → LeafAnswer → Visits
with_leaf_answer visits answer = record {
  left = visits.left;
  first = visits.first;
  looks = visits.looks;
  answers = visits.answers ++ answer ∷ [];
}
