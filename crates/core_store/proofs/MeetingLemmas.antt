-- Meetings, by lengths and by what was seen.
use Rattle.std.proofs.Common.{◌≡◌, List, [], length, map, set, sym, ap, ◌∙◌}
use Rattle.std.proofs.Math.ListN.{get_or-map}
use Rattle.std.proofs.lemmas.List.{set-get_or}
use Rattle.mon_topo.proofs.SightLemmas.{joined_seen}
use Rattle.core_store.specs.Meetings.{sight_at_leaf, sight_at_range}
use Rattle.mon_topo.specs.Sights.{range_sight, sight_of, with_leaf_sight, with_range_sight}
use Rattle.mon_value.specs.Histories.{joined_histories, leaf_history, range_history}
use Rattle.mon_value.specs.declared.histories.Histories.{Histories}
use Rattle.mon_topo.specs.Settings.{Setting}
use Rattle.mon_value.specs.declared.histories.Entry.{Entry}
use Rattle.mon_value.specs.declared.histories.RangeEntry.{RangeEntry}
use Rattle.mon_value.specs.declared.positions.Leaf.{Leaf}
use Rattle.mon_value.specs.declared.positions.Range.{Range}
use Rattle.write_core.proofs.ViewLemmas.{joined_whole_leaf, joined_whole_range}
use Rattle.write_core.specs.Invariant.{IsKept}
use Rattle.mon_topo.specs.Views.{View, joined_view, of_leaf, of_range}
use Rattle.write_core.specs.World.{IsPart, World}

-- a history that was seen whole is seen so far
leaf_noted : (seen : Histories) (leaf : Leaf) (history : List Entry) → leaf_history seen leaf ≡ history
    → with_leaf_sight leaf (length history) (sight_of seen) ≡ sight_of seen
leaf_noted seen leaf history is = λ i. record {
  leaves = (ap (λ n. set (map length seen.leaves) leaf.0 n) (ap length (sym is)
      ∙ sym (get_or-map length seen.leaves leaf.0 []))
      ∙ set-get_or (map length seen.leaves) leaf.0 0) i;
  ranges = map range_sight seen.ranges;
}

range_noted : (seen : Histories) (range : Range) (history : List RangeEntry) → range_history seen range ≡ history
    → with_range_sight range (range_sight history) (sight_of seen) ≡ sight_of seen
range_noted seen range history is = λ i. record {
  leaves = map length seen.leaves;
  ranges = (ap (λ one. set (map range_sight seen.ranges) range.0 one)
      (ap range_sight (sym is) ∙ sym (get_or-map range_sight seen.ranges range.0 []))
      ∙ set-get_or (map range_sight seen.ranges) range.0 (range_sight [])) i;
}

module _ (store : Setting) (world : World) (view : View) where
  pub leaf_met : (leaf : Leaf) → IsKept store world → IsPart store world view
      → sight_at_leaf leaf (of_leaf world.truth leaf) (sight_of view.seen) (sight_of (world.leaves leaf.0).seen)
      ≡ sight_of (joined_view view (world.leaves leaf.0)).seen
  leaf_met leaf kept part =
      ap (with_leaf_sight leaf (length (of_leaf world.truth leaf))) (joined_seen view.seen (world.leaves leaf.0).seen)
      ∙ leaf_noted (joined_histories view.seen (world.leaves leaf.0).seen) leaf (of_leaf world.truth leaf)
      (joined_whole_leaf view (world.leaves leaf.0) world.truth part.within (kept.leaves leaf).within leaf
      (kept.whole_leaves leaf))

  pub range_met : (range : Range) → IsKept store world → IsPart store world view
      → sight_at_range range (of_range world.truth range) (sight_of view.seen) (sight_of (world.ranges range.0).seen)
      ≡ sight_of (joined_view view (world.ranges range.0)).seen
  range_met range kept part =
      ap (with_range_sight range (range_sight (of_range world.truth range)))
      (joined_seen view.seen (world.ranges range.0).seen)
      ∙ range_noted (joined_histories view.seen (world.ranges range.0).seen) range (of_range world.truth range)
      (joined_whole_range view (world.ranges range.0) world.truth part.within (kept.ranges range).within range
      (kept.whole_ranges range))
