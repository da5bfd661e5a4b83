-- What a caller had seen before a line, beside what it has seen behind it.
use Rattle.std.proofs.Common.{◌≡◌, ◌∙◌, ◌≤◌, ℕ, List, length, sym, arith}
use mathlib.Core.List.{IsPrefix}
use Rattle.history_book.proofs.ListLemmas.{prefix_length}
use Rattle.history_book.specs.Histories.{AreFronts, entries}
use Rattle.history_book.specs.declared.views.History.{History}
use Rattle.history_book.specs.declared.views.History.TheVariants as of
use Rattle.mon_schema.specs.Names.{SchemaLists}
use Rattle.mon_topo.proofs.FrontLemmas.{begins_from}
use Rattle.mon_topo.specs.HeldHistories.{AreHeld, BeginsWith, AreWithin}
use Rattle.mon_topo.specs.declared.zones.ZoneSpec.{ZoneSpec}
use Rattle.mon_value.specs.Histories.{leaf_history, range_history}
use Rattle.mon_value.specs.declared.histories.Histories.{Histories}
use Rattle.query_traces.specs.Traces.{AreWider, IsSoonerThan, lengths_of}
use Rattle.run_traces.proofs.RunFacts.{book_length, range_length}
use Rattle.run_traces.specs.LineClaims.{HaveGrown, marked}

begins : {X : Type 0} (was now : List X) → IsPrefix was now → BeginsWith now was
begins was now front = begins_from now was front.0 (sym front.1)

-- how much was seen of each history
abbrev pub seen_of : Histories → History → ℕ
seen_of seen history = length (entries seen history)

-- the same, of each leaf and each range
pub marks : (seen : Histories) → marked (seen_of seen) ≡ lengths_of seen
marks seen = λ i. record {
  leaves = λ leaf. book_length seen leaf i;
  ranges = λ range. range_length seen range i;
}

pub itself : (seen : Histories) → IsSoonerThan (lengths_of seen) (lengths_of seen)
itself seen = record { leaves = λ leaf. omega arith; ranges = λ range. omega arith }

module _ (before after : Histories) (fronts : AreFronts before after) where
  pub within : AreWithin before after
  within = record {
    leaves = λ leaf. begins (leaf_history before leaf) (leaf_history after leaf) (fronts.0 leaf);
    ranges = λ range. begins (range_history before range) (range_history after range) (fronts.1 range);
  }

  pub sooner : IsSoonerThan (lengths_of before) (lengths_of after)
  sooner = record {
    leaves = λ leaf. prefix_length (leaf_history before leaf) (leaf_history after leaf) (fronts.0 leaf);
    ranges = λ range. prefix_length (range_history before range) (range_history after range) (fronts.1 range);
  }

  pub forth : (history : History) → seen_of before history ≤ seen_of after history
  forth (of.Leaf leaf) =
      let longer = prefix_length (leaf_history before leaf) (leaf_history after leaf) (fronts.0 leaf) in
      let was = book_length before leaf in
      let is = book_length after leaf in
      omega arith
  forth (of.Range range) =
      let longer = prefix_length (range_history before range) (range_history after range) (fronts.1 range) in
      let was = range_length before range in
      let is = range_length after range in
      omega arith

  -- histories that are held have as many leaves and ranges
  pub grown : (held : SchemaLists) (zones : List ZoneSpec) (points : ℕ) → AreHeld held zones points before
      → AreHeld held zones points after → HaveGrown before after
  grown held zones points was is = record {
    within = within;
    leaves = is.all_leaves ∙ sym was.all_leaves;
    ranges = is.all_ranges ∙ sym was.all_ranges;
  }

-- what was looked at until one moment was looked at until a later one
pub wider : (before mid after : Histories) → AreFronts before mid → AreFronts mid after → HaveGrown mid after
    → AreWider (lengths_of before) (lengths_of mid) (lengths_of before) (lengths_of after) mid after
wider before mid after first last more = record {
  sooner = itself before;
  later = sooner mid after last;
  begun = sooner before mid first;
  within = itself mid;
  grown = more.within;
  leaves = more.leaves;
  ranges = more.ranges;
}
