-- What a query is told with a word of how far its caller has seen.
use Rattle.std.specs.Prelude.{ℕ, ◌+◌, List, [], ◌∷◌, Option, Some, None}
use Rattle.mon_topo.specs.declared.sights.RangeSight.{RangeSight}
use Rattle.mon_topo.specs.declared.sights.Sight.{Sight}
use Rattle.mon_value.specs.Histories.{range_numbered}
use Rattle.mon_value.specs.declared.positions.SlotLeaf.{SlotLeaf}
use Rattle.query_traces.specs.declared.answers.Resolved.{Resolved}
use Rattle.query_traces.specs.declared.asks.Seen.{Seen}

-- the first replica of a range, where one was seen to serve
abbrev pub with_first_replica : ℕ → Option SlotLeaf → List Resolved → List Resolved
with_first_replica n None rest = rest
with_first_replica n (Some replica)
    rest = record { range = range_numbered n; slot = replica.slot; leaf = replica.leaf } ∷ rest

abbrev pub firsts_from : ℕ → List RangeSight → List Resolved
firsts_from n [] = []
firsts_from n (one ∷ ranges) = with_first_replica n one.first (firsts_from (n + 1) ranges)

-- the length of each leaf's history, and the first replica of each range
abbrev pub seen_of : Sight → Seen
seen_of sight = record { cuts = sight.leaves; firsts = firsts_from 0 sight.ranges }
