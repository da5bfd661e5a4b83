-- The first replicas of a store are opened one by one: what each call makes of the leaves and of the first caller.
use Rattle.std.proofs.Common.{◌≡◌, ◌≢◌, ℕ, zero, suc, ◌+◌, ◌<◌, ◌≤◌, Bool, true, false, cond, nat_eq, nat_lt, List, []}
use Rattle.std.proofs.Common.{◌∷◌, ◌++◌, length, set, refl, sym, ap, subst, ◌∙◌, arith, inl, inr, slice_get, Some}
use Rattle.std.proofs.Common.{append-nil}
use Rattle.std.proofs.lemmas.Bool.{cases_eq, eq-eqb, ne_eqb}
use Rattle.std.proofs.lemmas.Bool.Decides.{nat_tests}
use Rattle.std.proofs.lemmas.List.{take_all}
use Rattle.std.proofs.lemmas.Option.{slice_get_within}
use Rattle.std.specs.Prelude.{option_map}
use Rattle.history_book.specs.declared.views.BookEntry.TheVariants as one
use Rattle.history_book.specs.declared.views.History.TheVariants as of
use Rattle.history_book.specs.declared.views.Kept.{Kept}
use Rattle.history_book.specs.Histories.{AreFronts, with_book_entry}
use Rattle.history_book.specs.Seats.{hand_of, kept_with, times_range}
use Rattle.know.specs.Knowledge.{Knowledge}
use Rattle.leaf_cell.specs.NewLeaves.{NewLeafView, own_history}
use Rattle.mon_topo.proofs.FirstLemmas.{IsOpen}
use Rattle.mon_topo.proofs.FirstOpenings.{before_more, open_up_to, up_to_more}
use Rattle.mon_topo.specs.HeldHistories.{first_range_history, opened_before, opened_here, opened_up_to, opening}
use Rattle.mon_topo.specs.Zones.{first_replicas, leaves_in}
use Rattle.mon_topo.specs.declared.zones.ZoneSpec.{ZoneSpec}
use Rattle.mon_value.specs.Histories.{joined_histories, leaf_history, range_history, leaf_numbered, range_numbered}
use Rattle.mon_value.specs.LeafHistories.{is_down, is_opened}
use Rattle.mon_value.specs.declared.histories.Histories.{Histories}
use Rattle.mon_value.specs.declared.positions.Leaf.{Leaf}
use Rattle.mon_value.specs.declared.positions.Range.{Range}
use Rattle.range_cell.proofs.NewRangeLemmas.{range_with_entries, ranges_beside_entries}
use Rattle.range_cell.specs.NewRanges.{HasBeenLent, HasOpenedFirst, NewRangeView, kept_with_entries, with_entries}
use Rattle.range_cell.specs.Rest.{others}
use Rattle.mon_store.proofs.SameLemmas.{joined_same, leaf_else, leaf_here, same_entries}
use Rattle.mon_store.proofs.SameLemmas.{same_entry, same_through, same_back}
use Rattle.mon_store.specs.Openings.{AreSame, HasOpenedAt, HoldsOnly, IsBareAt, IsNewLeafAt, IsOpenedUpTo}
use Rattle.mon_store.specs.Openings.{IsOpening, opened_range}
use Rattle.running_query.proofs.GoingLemmas.{fronts_through, same_fronts}

-- ---- what was seen stays the same

module _ (zones : List ZoneSpec) (range slot : ℕ) where
  pub opened_same : (a b : Histories) → AreSame b a → IsOpenedUpTo zones range slot a → IsOpenedUpTo zones range slot b
  opened_same a b same was = record {
    leaves = λ n here. same.leaves (leaf_numbered n) ∙ was.leaves n here;
    ranges = λ n. same.ranges (range_numbered n) ∙ was.ranges n;
  }

new_leaf_on : (before after : Histories) (n : ℕ) (leaf : NewLeafView) → AreFronts before after
    → leaf_history after (leaf_numbered n) ≡ leaf_history before (leaf_numbered n)
    → IsNewLeafAt before n leaf → IsNewLeafAt after n leaf
new_leaf_on before after n leaf fronts same was = record {
  leaf_is = was.leaf_is;
  fronts = fronts_through leaf.seen before after was.fronts fronts;
  whole = was.whole ∙ sym same;
}

-- ---- the caller goes with a range

module _ (zones : List ZoneSpec) (range slot : ℕ) (leaves : List NewLeafView) (before after : Knowledge)
    (is : IsOpening zones range slot leaves before) (count : ℕ) (owned : Histories) (now : NewRangeView)
    (fronts : AreFronts owned before.seen) (none : before.purse.holds ≡ [])
    (lent : HasBeenLent count (range_numbered range) owned now before after) where
  seen_as : AreSame after.seen before.seen
  seen_as = subst (λ (s : Histories). AreSame s before.seen) (sym lent.seen) (joined_same owned before.seen fronts)

  pub opening_lent : IsOpening zones range slot leaves after
  opening_lent = record {
    seen = opened_same zones range slot before.seen after.seen seen_as is.seen;
    new = record {
      count = is.new.count;
      each = λ n leaf there. new_leaf_on before.seen after.seen n leaf lent.begun.met.fronts
          (seen_as.leaves (leaf_numbered n)) (is.new.each n leaf there);
    };
    opener = record {
      kept = is.opener.kept;
      own = lent.begun.met.own ∙ is.opener.own;
      number = is.opener.number;
      entries = same_through is.opener.kept.own before.seen after.seen is.opener.entries
          (same_back after.seen before.seen seen_as);
      met = lent.begun.met.met ∙ is.opener.met;
      stock = lent.begun.met.stock ∙ is.opener.stock;
      lost = lent.begun.met.lost ∙ is.opener.lost;
      rooms = lent.begun.met.rooms ∙ is.opener.rooms;
      handed = lent.begun.met.handed ∙ is.opener.handed;
    };
  }

  pub holds_lent : HoldsOnly (range_numbered range) after
  holds_lent =
      let holds = lent.begun.met.holding in
      let only : lent.begun.lent ++ before.purse.holds ≡ lent.begun.lent =
      ap (λ xs. lent.begun.lent ++ xs) none ∙ append-nil lent.begun.lent in
      record {
        some = subst (λ xs. 0 < times_range (range_numbered range) xs) (sym holds) lent.begun.some;
        only = ap (others (range_numbered range)) (holds ∙ only) ∙ lent.begun.only;
      }

-- ---- a replica is opened on its leaf

turned : (n m : ℕ) → nat_eq m n ≡ nat_eq n m
turned n m = elim (cases_eq n m) [
  | inl same ↦ eq-eqb m n (sym same) ∙ sym (eq-eqb n m same)
  | inr differ ↦ ne_eqb m n (λ e. differ (sym e)) ∙ sym (ne_eqb n m differ)
]

-- what a list has once one item was changed
set_cases : (xs : List NewLeafView) (k n : ℕ) (x y : NewLeafView) → slice_get (set xs k x) n ≡ Some y
    → (n ≡ k → x ≡ y) × (n ≢ k → slice_get xs n ≡ Some y)
set_cases [] k n x y there = let l = slice_get_within [] n y there in absurd (omega (arith, l))
set_cases (z ∷ xs) zero zero x y there =
    let same : Some x ≡ Some y = there in ((λ e. cc), (λ differ. absurd (differ refl)))
set_cases (z ∷ xs) zero (suc n) x y there = ((λ e. absurd (omega (arith, e))), (λ differ. there))
set_cases (z ∷ xs) (suc k) zero x y there = ((λ e. absurd (omega (arith, e))), (λ differ. there))
set_cases (z ∷ xs) (suc k) (suc n) x y there =
    let rest = set_cases xs k n x y there in
    ((λ e. rest.0 (omega (arith, e))), (λ differ. rest.1 (λ e. differ (ap suc e))))

module _ (zones : List ZoneSpec) (range slot : ℕ) (leaves : List NewLeafView) (before : Knowledge)
    (is : IsOpening zones range slot leaves before) (leaf : Leaf)
    (at : slice_get (first_replicas zones range) slot ≡ Some leaf) (there : leaf.0 < length (leaves_in zones)) where
  within : slot < length (first_replicas zones range)
  within = slice_get_within (first_replicas zones range) slot leaf at

  open_there : IsOpen (opened_up_to zones range slot leaf.0) range slot
  open_there = open_up_to zones leaf.0 range slot (omega (arith, within))

  pub number_is : (hand_of before.purse).own ≡ Some 0
  number_is = ap (λ o. option_map (λ (kept : Kept). kept.number) o) is.opener.own
      ∙ ap (λ n. Some n) is.opener.number

  pub bare_there : (here : NewLeafView) → slice_get leaves leaf.0 ≡ Some here
      → IsBareAt (range_numbered range) (record { 0 = slot }) leaf leaves
  bare_there here stands =
      let new = is.new.each leaf.0 here stands in
      let whole : own_history here ≡ opened_up_to zones range slot leaf.0 =
      ap (leaf_history here.seen) new.leaf_is ∙ new.whole ∙ is.seen.leaves leaf.0 there in
      record {
        here = here;
        there = stands;
        up = ap is_down whole ∙ open_there.up;
        unopened = ap (is_opened (range_numbered range) (record { 0 = slot })) whole
            ∙ open_there.here slot (omega arith);
      }

  module _ (after : Knowledge) (new : List NewLeafView)
      (took : HasOpenedAt leaf (opening (range_numbered range) slot) leaves new before after) where
    was_new : IsNewLeafAt before.seen leaf.0 took.was
    was_new = is.new.each leaf.0 took.was took.there

    abbrev grown : Histories → Histories
    grown seen = with_book_entry (of.Leaf leaf) (one.Leaf (opening (range_numbered range) slot)) seen

    leaf_is : took.was.leaf ≡ leaf
    leaf_is = was_new.leaf_is

    seen_as_grown : AreSame after.seen (grown before.seen)
    seen_as_grown =
        subst (λ (s : Histories). AreSame s (grown before.seen))
        (sym (took.took.seen ∙ ap (λ (l : Leaf). with_book_entry (of.Leaf l)
        (one.Leaf (opening (range_numbered range) slot)) (joined_histories took.was.seen before.seen)) leaf_is))
        (same_entry leaf (opening (range_numbered range) slot) (joined_histories took.was.seen before.seen) before.seen
        (joined_same took.was.seen before.seen was_new.fronts))

    one_leaf : (n : ℕ) → n < length (leaves_in zones)
        → leaf_history after.seen (leaf_numbered n) ≡ opened_up_to zones range (slot + 1) n
    one_leaf n here = elim (cases_eq n leaf.0) [
      | inl same ↦
          subst (λ (k : ℕ). leaf_history after.seen (leaf_numbered k) ≡ opened_up_to zones range (slot + 1) k)
          (sym same)
          (seen_as_grown.leaves leaf ∙ leaf_here leaf (opening (range_numbered range) slot) before.seen
          ∙ ap (λ h. h ++ opening (range_numbered range) slot ∷ []) (is.seen.leaves leaf.0 there)
          ∙ sym (up_to_more zones range slot leaf.0 leaf at
          ∙ ap (λ (b : Bool). opened_up_to zones range slot leaf.0
          ++ cond b (opening (range_numbered range) slot ∷ []) []) (eq-eqb leaf.0 leaf.0 refl)))
      | inr apart ↦
          seen_as_grown.leaves (leaf_numbered n)
          ∙ leaf_else leaf (opening (range_numbered range) slot) before.seen (leaf_numbered n) apart
          ∙ is.seen.leaves n here
          ∙ sym (up_to_more zones range slot n leaf at
          ∙ ap (λ (b : Bool). opened_up_to zones range slot n
          ++ cond b (opening (range_numbered range) slot ∷ []) []) (ne_eqb n leaf.0 apart)
          ∙ append-nil (opened_up_to zones range slot n))
    ]

    leaf_on : (n : ℕ) (x : NewLeafView) → slice_get new n ≡ Some x → IsNewLeafAt after.seen n x
    leaf_on n x stands =
        let cases = set_cases leaves leaf.0 n took.now x (ap (λ xs. slice_get xs n) (sym took.changed) ∙ stands) in
        elim (cases_eq n leaf.0) [
          | inl same ↦
              let view : took.now ≡ x = cases.0 same in
              let number : leaf ≡ leaf_numbered n = ap leaf_numbered (sym same) in
              subst (IsNewLeafAt after.seen n) view
              (record {
                leaf_is = took.took.same_leaf ∙ leaf_is ∙ number;
                fronts = subst (λ (s : Histories). AreFronts s after.seen) (sym took.took.both)
                    (same_fronts after.seen);
                whole = ap (λ (s : Histories). leaf_history s (leaf_numbered n)) took.took.both;
              })
          | inr apart ↦
              new_leaf_on before.seen after.seen n x took.took.called.fronts
              (seen_as_grown.leaves (leaf_numbered n)
              ∙ leaf_else leaf (opening (range_numbered range) slot) before.seen (leaf_numbered n) apart)
              (is.new.each n x (cases.1 apart))
        ]

    pub opening_opened : length new ≡ length leaves → IsOpening zones range (slot + 1) new after
    opening_opened same_count =
        let kept = kept_with (of.Leaf leaf) (one.Leaf (opening (range_numbered range) slot)) is.opener.kept in
        record {
          seen = record {
            leaves = one_leaf;
            ranges = λ n. seen_as_grown.ranges (range_numbered n) ∙ is.seen.ranges n;
          };
          new = record { count = same_count ∙ is.new.count; each = leaf_on };
          opener = record {
            kept = kept;
            own = took.took.called.own
                ∙ ap (option_map (kept_with (of.Leaf took.was.leaf)
                (one.Leaf (opening (range_numbered range) slot)))) is.opener.own
                ∙ ap (λ (l : Leaf). Some (kept_with (of.Leaf l) (one.Leaf (opening (range_numbered range) slot))
                is.opener.kept)) leaf_is;
            number = is.opener.number;
            entries = same_through kept.own (grown before.seen) after.seen
                (same_entry leaf (opening (range_numbered range) slot) is.opener.kept.own before.seen is.opener.entries)
                (same_back after.seen (grown before.seen) seen_as_grown);
            met = took.took.called.met ∙ is.opener.met;
            stock = took.took.called.stock ∙ is.opener.stock;
            lost = took.took.called.lost ∙ is.opener.lost;
            rooms = took.took.rooms_are ∙ is.opener.rooms;
            handed = took.took.handed ∙ is.opener.handed;
          };
        }

-- where no replica is left, all are opened
pub opening_whole : (zones : List ZoneSpec) (range place : ℕ) (leaves : List NewLeafView) (know : Knowledge)
    → length (first_replicas zones range) ≤ place → IsOpening zones range place leaves know
    → IsOpening zones range (length (first_replicas zones range)) leaves know
opening_whole zones range place leaves know past is =
    let firsts = first_replicas zones range in
    record {
      seen = record {
        leaves = λ n here. is.seen.leaves n here
            ∙ ap (λ (l : List Leaf). opened_before zones range n
            ++ opened_here (leaf_numbered n) (range_numbered range) 0 l)
            (take_all place firsts past ∙ sym (take_all (length firsts) firsts (omega arith)));
        ranges = is.seen.ranges;
      };
      new = record { count = is.new.count; each = is.new.each };
      opener = is.opener;
    }

-- ---- the range is told, and comes back

module _ (zones : List ZoneSpec) (range : ℕ) (leaves : List NewLeafView) (before after : Knowledge)
    (is : IsOpening zones range (length (first_replicas zones range)) leaves before) (count : ℕ) (new : NewRangeView)
    (same : new.range ≡ range_numbered range) (fronts : AreFronts new.seen before.seen)
    (opened : HasOpenedFirst count new (first_range_history zones range) before after) where
  abbrev told : Histories → Histories
  told seen = with_entries (range_numbered range) (first_range_history zones range) seen

  seen_as_told : AreSame after.seen (told before.seen)
  seen_as_told =
      subst (λ (s : Histories). AreSame s (told before.seen))
      (sym (opened.seen ∙ ap (λ (r : Range). with_entries r (first_range_history zones range)
      (joined_histories new.seen before.seen)) same))
      (same_entries (range_numbered range) (first_range_history zones range) (joined_histories new.seen before.seen)
      before.seen (joined_same new.seen before.seen fronts))

  below : (b c : Bool) (n : ℕ) → nat_lt n range ≡ b → nat_lt n (range + 1) ≡ c → n ≢ range → b ≡ c
  below true true n p q apart = refl
  below true false n p q apart = absurd (apart (grind (arith, nat_tests)))
  below false true n p q apart = absurd (apart (grind (arith, nat_tests)))
  below false false n p q apart = refl

  one_range : (n : ℕ) → range_history after.seen (range_numbered n) ≡ opened_range zones (range + 1) n
  one_range n = elim (cases_eq n range) [
    | inl here ↦
        let now : nat_lt range (range + 1) ≡ true = grind (arith, nat_tests) in
        let not_yet : nat_lt range range ≡ false = grind (arith, nat_tests) in
        subst (λ (k : ℕ). range_history after.seen (range_numbered k) ≡ opened_range zones (range + 1) k) (sym here)
        (seen_as_told.ranges (range_numbered range)
        ∙ range_with_entries (range_numbered range) (first_range_history zones range) before.seen
        ∙ ap (λ h. h ++ first_range_history zones range) (is.seen.ranges range
        ∙ ap (λ (b : Bool). cond b (first_range_history zones range) []) not_yet)
        ∙ sym (ap (λ (b : Bool). cond b (first_range_history zones range) []) now))
    | inr apart ↦
        seen_as_told.ranges (range_numbered n)
        ∙ ranges_beside_entries (range_numbered range) (first_range_history zones range) before.seen (range_numbered n)
        apart
        ∙ is.seen.ranges n
        ∙ ap (λ (b : Bool). cond b (first_range_history zones n) [])
        (below (nat_lt n range) (nat_lt n (range + 1)) n refl refl apart)
  ]

  one_leaf_then : (n : ℕ) → opened_up_to zones range (length (first_replicas zones range)) n
      ≡ opened_up_to zones (range + 1) 0 n
  one_leaf_then n =
      ap (λ (l : List Leaf). opened_before zones range n
      ++ opened_here (leaf_numbered n) (range_numbered range) 0 l)
      (take_all (length (first_replicas zones range)) (first_replicas zones range) (omega arith))
      ∙ sym (before_more zones range n) ∙ sym (append-nil (opened_before zones (range + 1) n))

  pub opening_told : IsOpening zones (range + 1) 0 leaves after
  opening_told =
      let kept = kept_with_entries (range_numbered range) (first_range_history zones range) is.opener.kept in
      record {
        seen = record {
          leaves = λ n here. seen_as_told.leaves (leaf_numbered n) ∙ is.seen.leaves n here ∙ one_leaf_then n;
          ranges = one_range;
        };
        new = record {
          count = is.new.count;
          each = λ n leaf stands. new_leaf_on before.seen after.seen n leaf opened.fronts
              (seen_as_told.leaves (leaf_numbered n)) (is.new.each n leaf stands);
        };
        opener = record {
          kept = kept;
          own = opened.own
              ∙ ap (option_map (kept_with_entries new.range (first_range_history zones range))) is.opener.own
              ∙ ap (λ (r : Range). Some (kept_with_entries r (first_range_history zones range) is.opener.kept)) same;
          number = is.opener.number;
          entries = same_through kept.own (told before.seen) after.seen
              (same_entries (range_numbered range) (first_range_history zones range) is.opener.kept.own before.seen
              is.opener.entries) (same_back after.seen (told before.seen) seen_as_told);
          met = opened.met ∙ is.opener.met;
          stock = opened.stock ∙ is.opener.stock;
          lost = opened.lost ∙ is.opener.lost;
          rooms = opened.rooms ∙ is.opener.rooms;
          handed = opened.handed ∙ is.opener.handed;
        };
      }

  pub holds_none : HoldsOnly (range_numbered range) before → after.purse.holds ≡ []
  holds_none holds = opened.holding ∙ ap (λ (r : Range). others r before.purse.holds) same ∙ holds.only
