-- What there is before the first replica is opened, and which numbers leaves have.
use Rattle.std.proofs.Common.{◌≡◌, ℕ, zero, suc, ◌+◌, ◌<◌, nat_lt, Bool, true, false, not, cond, List, [], ◌∷◌, length}
use Rattle.std.proofs.Common.{map, refl, sym}
use Rattle.std.proofs.Common.{ap, subst, ◌∙◌, arith, slice_get, Some}
use Rattle.std.specs.List.{range_with_len}
use Rattle.std.proofs.lemmas.Bool.{eq-eqb}
use Rattle.std.proofs.lemmas.Bool.Decides.{nat_tests}
use Rattle.std.proofs.lemmas.List.Sums.{sum_by-cons}
use Rattle.std.proofs.lemmas.Option.{slice_get_within}
use mathlib.Core.List.{IsPrefix}
use Rattle.history_book.proofs.HistoryLemmas.{none_at}
use Rattle.history_book.proofs.ListLemmas.{prefix_nil}
use Rattle.history_book.specs.Histories.{AreFronts, empty_histories}
use Rattle.history_book.specs.Seats.{first_seat, new_number, times_range}
use Rattle.know.specs.Knowledge.{Knowledge, from_seats}
use Rattle.leaf_cell.specs.NewLeaves.{NewLeafView}
use Rattle.mon_topo.specs.Sights.{no_sight, range_sight, sight_of}
use Rattle.mon_topo.specs.HeldHistories.{first_range_history}
use Rattle.mon_topo.specs.Zones.{leaves_in}
use Rattle.mon_topo.specs.declared.zones.ZoneSpec.{ZoneSpec}
use Rattle.mon_value.specs.Histories.{leaf_history, range_history, leaf_numbered, same_range}
use Rattle.mon_value.specs.declared.histories.Entry.{Entry}
use Rattle.mon_value.specs.declared.histories.Histories.{Histories}
use Rattle.mon_value.specs.declared.histories.RangeEntry.{RangeEntry}
use Rattle.mon_value.specs.declared.positions.Leaf.{Leaf}
use Rattle.mon_value.specs.declared.positions.Range.{Range}
use Rattle.range_cell.specs.Rest.{others}
use Rattle.raise_table.specs.declared.views.Hints.{Hints}
use Rattle.mon_store.specs.Openings.{IsNewLeafAt, IsOpening, first_leaf}
use Rattle.running_query.proofs.GoingLemmas.{same_fronts}
use Rattle.mon_value.proofs.PlainLemmas.{map-replicate}

-- ---- leaves by number

-- leaves that are numbered on from one have these numbers
pub numbered_from : (k : ℕ) (leaves : List NewLeafView)
    → ((n : ℕ) (leaf : NewLeafView) → slice_get leaves n ≡ Some leaf → leaf.leaf ≡ leaf_numbered (k + n))
    → map (λ (leaf : NewLeafView). leaf.leaf.0) leaves ≡ range_with_len k (length leaves)
numbered_from k [] each = refl
numbered_from k (x ∷ leaves) each =
    let none : k + 0 ≡ k = omega arith in
    let first : x.leaf.0 ≡ k = ap (λ (l : Leaf). l.0) (each 0 x refl) ∙ none in
    let rest = numbered_from (k + 1) leaves (λ n leaf there.
    let on : k + suc n ≡ (k + 1) + n = omega arith in each (suc n) leaf there ∙ ap leaf_numbered on) in
    λ i. first i ∷ rest i

module _ (leaves ranges : ℕ) where
  made_at : (k count n : ℕ) (leaf : NewLeafView)
      → slice_get (map (first_leaf leaves ranges) (range_with_len k count)) n ≡ Some leaf
      → first_leaf leaves ranges (k + n) ≡ leaf
  made_at k zero n leaf there = let l = slice_get_within [] n leaf there in absurd (omega (arith, l))
  made_at k (suc count) zero leaf there =
      let same : first_leaf leaves ranges k ≡ leaf = cc in
      let none : k + 0 ≡ k = omega arith in
      ap (first_leaf leaves ranges) none ∙ same
  made_at k (suc count) (suc n) leaf there =
      let on : k + suc n ≡ (k + 1) + n = omega arith in
      ap (first_leaf leaves ranges) on ∙ made_at (k + 1) count n leaf there

  made_count : (k count : ℕ) → length (map (first_leaf leaves ranges) (range_with_len k count)) ≡ count
  made_count k zero = refl
  made_count k (suc count) = ap suc (made_count (k + 1) count)

  fronts_none : (seen : Histories) → AreFronts (empty_histories leaves ranges) seen
  fronts_none seen = (
    (λ leaf. subst (λ (h : List Entry). IsPrefix h (leaf_history seen leaf)) (sym (none_at leaves leaf.0))
        (prefix_nil (leaf_history seen leaf))),
    (λ range. subst (λ (h : List RangeEntry). IsPrefix h (range_history seen range)) (sym (none_at ranges range.0))
        (prefix_nil (range_history seen range))),
  )

  -- nothing is opened yet
  pub begins : (zones : List ZoneSpec) (hints : Hints) (know : Knowledge) (made : List NewLeafView)
      → know ≡ from_seats hints (first_seat leaves ranges)
      → made ≡ map (first_leaf leaves ranges) (range_with_len 0 (length (leaves_in zones)))
      → IsOpening zones 0 0 made know
  begins zones hints know made knows are =
      subst (IsOpening zones 0 0 made) (sym knows)
      (subst (λ (m : List NewLeafView). IsOpening zones 0 0 m (from_seats hints (first_seat leaves ranges))) (sym are)
      (record {
        seen = record {
          leaves = λ n here. none_at leaves n;
          ranges = λ n.
              let low : nat_lt n 0 ≡ false = grind (arith, nat_tests) in
              none_at ranges n ∙ sym (ap (λ (b : Bool). cond b (first_range_history zones n) []) low);
        };
        new = record {
          count = made_count 0 (length (leaves_in zones));
          each = λ n leaf there.
              let is : first_leaf leaves ranges (0 + n) ≡ leaf = made_at 0 (length (leaves_in zones)) n leaf there in
              let number : 0 + n ≡ n = omega arith in
              subst (IsNewLeafAt (empty_histories leaves ranges) n) is
              (record {
                leaf_is = ap leaf_numbered number;
                fronts = same_fronts (empty_histories leaves ranges);
                whole = refl;
              });
        };
        opener = record {
          kept = new_number 0;
          own = refl;
          number = refl;
          entries = record {
            leaves = λ leaf. sym (none_at leaves leaf.0);
            ranges = λ range. sym (none_at ranges range.0);
          };
          met = refl;
          stock = refl;
          lost = refl;
          rooms = refl;
          handed = refl;
        };
      }))

  -- who has seen nothing has seen no more than anybody
  pub none_fronts : (owned seen : Histories) → owned ≡ empty_histories leaves ranges → AreFronts owned seen
  none_fronts owned seen is = subst (λ (s : Histories). AreFronts s seen) (sym is) (fronts_none seen)

-- ---- who has seen nothing

pub none_sight : (leaves ranges : ℕ) → no_sight leaves ranges ≡ sight_of (empty_histories leaves ranges)
none_sight leaves ranges =
    sym (λ i. record {
      leaves = map-replicate (λ (h : List Entry). length h) leaves [] i;
      ranges = map-replicate range_sight ranges [] i;
    })

-- ---- a new range

pub held_once : (range : Range) → 0 < times_range range (range ∷ [])
held_once range =
    let one : times_range range (range ∷ []) ≡ cond {A = ℕ} true 1 0 + times_range range [] =
    sum_by-cons (λ r. cond {A = ℕ} (same_range range r) 1 0) range []
    ∙ ap (λ b. cond {A = ℕ} b 1 0 + times_range range []) (eq-eqb range.0 range.0 refl) in
    omega arith

pub no_others : (range : Range) → others range (range ∷ []) ≡ []
no_others range = ap (λ b. cond (not b) (range ∷ []) []) (eq-eqb range.0 range.0 refl)
