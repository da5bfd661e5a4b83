-- Where entries stand that a caller has appended in a call.
use Rattle.std.proofs.Common.{◌≡◌, ◌+◌, ℕ, length, slice_get, Some, drop, refl, arith}
use Rattle.history_book.specs.Histories.{entries, is_under}
use Rattle.history_book.specs.declared.views.BookEntry.{BookEntry}
use Rattle.history_book.specs.declared.views.BookEntry.TheVariants as one
use Rattle.history_book.specs.declared.views.History.{History}
use Rattle.history_book.specs.declared.views.History.TheVariants as of
use Rattle.know.specs.Knowledge.{Knowledge}
use Rattle.mon_store.specs.Writes.{new_entries}
use Rattle.mon_value.specs.Histories.{leaf_history, range_history}
use Rattle.mon_value.specs.declared.histories.Entry.{Entry}
use Rattle.mon_value.specs.declared.histories.RangeEntry.{RangeEntry}
use Rattle.mon_value.specs.declared.positions.Leaf.{Leaf}
use Rattle.mon_value.specs.declared.positions.Range.{Range}
use Rattle.owners.specs.Puts.{pass_of}
use Rattle.line_runs.proofs.Growing.{seen_of}
use Rattle.line_runs.proofs.Placed.{behind, in_list, kept_there}
use Rattle.run_traces.proofs.Switched.{leaf_there, range_there}
use Rattle.run_traces.specs.LineSwitches.{StandsBetween}

module _ (before after : Knowledge) where
  -- what is new in a history stands there, behind all that had been seen
  pub new_stands : (h : History) (e : BookEntry) (i : ℕ) → slice_get (new_entries before after h) i ≡ Some e
      → StandsBetween (seen_of before.seen h) (seen_of after.seen h) (entries after.seen h) e
  new_stands h e i new =
      let at = kept_there (is_under (pass_of before)) e (drop (length (entries before.seen h)) (entries after.seen h)) i
      new in
      let there = behind (length (entries before.seen h)) at.0 (length (entries before.seen h) + at.0)
      (entries after.seen h) e refl at.1 in
      record {
        place = length (entries before.seen h) + at.0;
        since = omega arith;
        until = in_list (entries after.seen h) (length (entries before.seen h) + at.0) e there;
        there = there;
      }

  -- in a leaf's history
  pub new_on_leaf : (leaf : Leaf) (e : Entry) (i : ℕ)
      → slice_get (new_entries before after (of.Leaf leaf)) i ≡ Some (one.Leaf e)
      → StandsBetween (seen_of before.seen (of.Leaf leaf)) (seen_of after.seen (of.Leaf leaf))
      (leaf_history after.seen leaf) e
  new_on_leaf leaf e i new =
      let stands = new_stands (of.Leaf leaf) (one.Leaf e) i new in
      record {
        place = stands.place;
        since = stands.since;
        until = stands.until;
        there = leaf_there e (leaf_history after.seen leaf) stands.place stands.there;
      }

  -- in a range's
  pub new_in_range : (range : Range) (e : RangeEntry) (i : ℕ)
      → slice_get (new_entries before after (of.Range range)) i ≡ Some (one.Range e)
      → StandsBetween (seen_of before.seen (of.Range range)) (seen_of after.seen (of.Range range))
      (range_history after.seen range) e
  new_in_range range e i new =
      let stands = new_stands (of.Range range) (one.Range e) i new in
      record {
        place = stands.place;
        since = stands.since;
        until = stands.until;
        there = range_there e (range_history after.seen range) stands.place stands.there;
      }
