-- the groups so far take those that are left, whose copies are left too
use Rattle.std.proofs.Common.{◌≡◌, ◌≤◌, drop, length}
use Rattle.std.specs.List.{IsDistinct}
use Rattle.std.specs.Map.{keys_of}
use Rattle.std.specs.Vec.Iter.{into_iter_items, into_iter_len}
use Rattle.indexmap.specs.IndexMap.{spare}
use Rattle.mon_value.specs.Same.{same_row}
use Rattle.mon_fold.specs.PartialGroups.{CanMergeGroups, merged_groups, new_to}
use Rattle.mon_fold.proofs.merging.put_groups.Given as goal

abbrev pub invariant-loop-key : goal.invariant-loop-key
invariant-loop-key l = record {
  made : merged_groups l.groups.entries (drop l.key-index l.key-items) ≡ merged_groups l.fn.groups.entries l.others.entries;
  can : CanMergeGroups l.groups.entries (drop l.key-index l.key-items);
  copied : into_iter_items l.copies ≡ new_to l.groups.entries (drop l.key-index l.key-items);
  room : length (into_iter_items l.copies) ≤ spare l.groups;
  counted : into_iter_len l.copies ≡ length (into_iter_items l.copies);
  distinct : IsDistinct same_row (keys_of (drop l.key-index l.key-items));
}
