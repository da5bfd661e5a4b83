-- Histories that are seen later.
use Rattle.std.proofs.Common.{◌≡◌, ◌∙◌, length, refl, sym}
use Rattle.history_book.specs.Histories.{AreFronts}
use Rattle.mon_topo.proofs.FrontLemmas.{begins_from, begins_itself, begins_through, begins_to, behind}
use Rattle.mon_value.specs.Histories.{leaf_history, range_history}
use Rattle.mon_value.specs.declared.histories.Histories.{Histories}
use Rattle.run_traces.specs.LineClaims.{HaveGrown}

pub grown_none : (known : Histories) → HaveGrown known known
grown_none known = record {
  within = record {
    leaves = λ leaf. begins_itself (leaf_history known leaf);
    ranges = λ range. begins_itself (range_history known range);
  };
  leaves = refl;
  ranges = refl;
}

pub grown_then : {first mid last : Histories} → HaveGrown first mid → HaveGrown mid last → HaveGrown first last
grown_then {first} {mid} {last} one other = record {
  within = record {
    leaves = λ leaf. begins_through (leaf_history first leaf) (leaf_history mid leaf) (leaf_history last leaf)
        (one.within.leaves leaf) (other.within.leaves leaf);
    ranges = λ range. begins_through (range_history first range) (range_history mid range) (range_history last range)
        (one.within.ranges range) (other.within.ranges range);
  };
  leaves = other.leaves ∙ one.leaves;
  ranges = other.ranges ∙ one.ranges;
}

-- ---- fronts

pub fronts_grown : (seen more : Histories) → HaveGrown seen more → AreFronts seen more
fronts_grown seen more grown = (
  λ leaf. (
    behind (leaf_history more leaf) (leaf_history seen leaf),
    sym (begins_to (leaf_history more leaf) (leaf_history seen leaf) (grown.within.leaves leaf)),
  ),
  λ range. (
    behind (range_history more range) (range_history seen range),
    sym (begins_to (range_history more range) (range_history seen range) (grown.within.ranges range)),
  ),
)

pub grown_fronts : (seen more : Histories) → AreFronts seen more → length more.leaves ≡ length seen.leaves
    → length more.ranges ≡ length seen.ranges → HaveGrown seen more
grown_fronts seen more fronts leaves ranges = record {
  within = record {
    leaves = λ leaf. begins_from (leaf_history more leaf) (leaf_history seen leaf) (fronts.0 leaf).0
        (sym (fronts.0 leaf).1);
    ranges = λ range. begins_from (range_history more range) (range_history seen range) (fronts.1 range).0
        (sym (fronts.1 range).1);
  };
  leaves = leaves;
  ranges = ranges;
}
