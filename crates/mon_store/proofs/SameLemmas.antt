-- Histories that are the same, and stay so with entries more.
use Rattle.std.proofs.Common.{◌≡◌, ◌≢◌, List, [], ◌∷◌, ◌++◌, refl, sym, ap, subst}
use Rattle.std.proofs.Common.{◌∙◌}
use Rattle.std.proofs.Common.{inl, inr}
use Rattle.std.proofs.lemmas.Bool.{cases_eq}
use mathlib.Core.List.{IsPrefix}
use Rattle.history_book.proofs.ListLemmas.{added_else, added_here, longer_cases}
use Rattle.history_book.proofs.ListLemmas.{prefix_whole}
use Rattle.history_book.specs.declared.views.BookEntry.TheVariants as one
use Rattle.history_book.specs.declared.views.History.TheVariants as of
use Rattle.history_book.specs.Histories.{AreFronts, with_book_entry}
use Rattle.mon_topo.proofs.HeldLemmas.{leaf_same, range_same}
use Rattle.mon_value.proofs.FartherLemmas.{longer_each-get}
use Rattle.mon_value.specs.Histories.{longer, joined_histories, leaf_history, range_history}
use Rattle.mon_value.specs.declared.histories.Entry.{Entry}
use Rattle.mon_value.specs.declared.histories.Histories.{Histories}
use Rattle.mon_value.specs.declared.histories.RangeEntry.{RangeEntry}
use Rattle.mon_value.specs.declared.positions.Leaf.{Leaf}
use Rattle.mon_value.specs.declared.positions.Range.{Range}
use Rattle.range_cell.proofs.NewRangeLemmas.{range_with_entries, ranges_beside_entries}
use Rattle.range_cell.specs.NewRanges.{with_entries}
use Rattle.mon_store.specs.Openings.{AreSame}

pub same_itself : (a : Histories) → AreSame a a
same_itself a = record { leaves = λ leaf. refl; ranges = λ range. refl }

pub same_through : (a b c : Histories) → AreSame a b → AreSame b c → AreSame a c
same_through a b c p q = record {
  leaves = λ leaf. p.leaves leaf ∙ q.leaves leaf;
  ranges = λ range. p.ranges range ∙ q.ranges range;
}

pub same_back : (a b : Histories) → AreSame a b → AreSame b a
same_back a b p = record { leaves = λ leaf. sym (p.leaves leaf); ranges = λ range. sym (p.ranges range) }

-- ---- fronts

longer_behind : {X : Type 0} (xs ys : List X) → IsPrefix xs ys → longer xs ys ≡ ys
longer_behind xs ys p = longer_cases xs ys (λ w. w ≡ ys) (λ l. refl) (λ l. prefix_whole xs ys p l)

-- who meets someone that has seen no more has seen what was seen before
pub joined_same : (a b : Histories) → AreFronts a b → AreSame (joined_histories a b) b
joined_same a b p = record {
  leaves = λ leaf. longer_each-get a.leaves b.leaves leaf.0
      ∙ longer_behind (leaf_history a leaf) (leaf_history b leaf) (p.0 leaf);
  ranges = λ range. longer_each-get a.ranges b.ranges range.0
      ∙ longer_behind (range_history a range) (range_history b range) (p.1 range);
}

-- ---- entries more

module _ (leaf : Leaf) (e : Entry) where
  abbrev grown : Histories → Histories
  grown seen = with_book_entry (of.Leaf leaf) (one.Leaf e) seen

  pub leaf_here : (seen : Histories) → leaf_history (grown seen) leaf ≡ leaf_history seen leaf ++ e ∷ []
  leaf_here seen = added_here leaf.0 e seen.leaves

  pub leaf_else : (seen : Histories) (other : Leaf) → other.0 ≢ leaf.0
      → leaf_history (grown seen) other ≡ leaf_history seen other
  leaf_else seen other apart = added_else leaf.0 other.0 e seen.leaves apart

  pub same_entry : (a b : Histories) → AreSame a b → AreSame (grown a) (grown b)
  same_entry a b same = record {
    leaves = λ other. elim (cases_eq other.0 leaf.0) [
      | inl here ↦
          subst (λ (l : Leaf). leaf_history (grown a) l ≡ leaf_history (grown b) l) (sym (leaf_same other leaf here))
          (leaf_here a ∙ ap (λ h. h ++ e ∷ []) (same.leaves leaf) ∙ sym (leaf_here b))
      | inr apart ↦ leaf_else a other apart ∙ same.leaves other ∙ sym (leaf_else b other apart)
    ];
    ranges = same.ranges;
  }

pub same_entries : (range : Range) (es : List RangeEntry) (a b : Histories) → AreSame a b
    → AreSame (with_entries range es a) (with_entries range es b)
same_entries range es a b same = record {
  leaves = same.leaves;
  ranges = λ other. elim (cases_eq other.0 range.0) [
    | inl here ↦
        subst (λ (r : Range). range_history (with_entries range es a) r ≡ range_history (with_entries range es b) r)
        (sym (range_same other range here))
        (range_with_entries range es a ∙ ap (λ h. h ++ es) (same.ranges range) ∙ sym (range_with_entries range es b))
    | inr apart ↦ ranges_beside_entries range es a other apart ∙ same.ranges other
        ∙ sym (ranges_beside_entries range es b other apart)
  ];
}
