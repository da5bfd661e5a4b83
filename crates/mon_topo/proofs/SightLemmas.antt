-- Sights: how far two have seen together, and one history farther.
use Rattle.std.proofs.Common.{◌≡◌, ℕ, zero, suc, ◌+◌, ◌<◌, List, [], ◌∷◌, ◌++◌}
use Rattle.std.proofs.Common.{length, map, set, refl, sym, ap, ◌∙◌, arith, length-append}
use Rattle.std.proofs.lemmas.List.{length-set, map-set}
use Rattle.mon_value.proofs.FartherLemmas.{farther_each-length, farther_each-map}
use Rattle.mon_value.specs.Histories.{joined_histories, leaf_history, range_history}
use Rattle.mon_value.specs.declared.histories.Histories.{Histories}
use Rattle.mon_topo.specs.HeldHistories.{with_leaf_entry, with_range_entry}
use Rattle.mon_value.specs.declared.histories.Entry.{Entry}
use Rattle.mon_value.specs.declared.histories.RangeEntry.{RangeEntry}
use Rattle.mon_value.specs.declared.positions.Leaf.{Leaf}
use Rattle.mon_value.specs.declared.positions.Range.{Range}
use Rattle.mon_topo.specs.declared.sights.RangeSight.{RangeSight}
use Rattle.mon_topo.specs.declared.sights.Sight.{Sight}
use Rattle.mon_topo.specs.Sights.{AreAlike, joined_sight, range_sight, sight_of, with_leaf_sight, with_range_sight}

-- ---- meetings

pub leaf_there : (now own there : Sight) (leaf : Leaf) → now ≡ joined_sight own there → AreAlike own there
    → leaf.0 < length there.leaves → leaf.0 < length now.leaves
leaf_there now own there leaf is alike h =
    let same : length now.leaves ≡ length there.leaves
    = ap (λ s. length s.leaves) is ∙ farther_each-length (λ n. n) own.leaves there.leaves alike.0 in
    omega (arith, same, h)

pub range_there : (now own there : Sight) (range : Range) → now ≡ joined_sight own there → AreAlike own there
    → range.0 < length there.ranges → range.0 < length now.ranges
range_there now own there range is alike h =
    let same : length now.ranges ≡ length there.ranges
    = ap (λ s. length s.ranges) is ∙ farther_each-length (λ one. one.length) own.ranges there.ranges alike.1 in
    omega (arith, same, h)

joined_alike : (now own there : Sight) → now ≡ joined_sight own there → AreAlike own there → AreAlike there now
joined_alike now own there is alike = (
  sym (ap (λ s. length s.leaves) is ∙ farther_each-length (λ n. n) own.leaves there.leaves alike.0),
  sym (ap (λ s. length s.ranges) is ∙ farther_each-length (λ one. one.length) own.ranges there.ranges alike.1),
)

pub leaf_noted_alike : (now mid own there : Sight) (leaf : Leaf) (cut : ℕ) → mid ≡ joined_sight own there
    → now ≡ with_leaf_sight leaf cut mid → AreAlike own there → AreAlike there now
leaf_noted_alike now mid own there leaf cut is noted alike =
    let before = joined_alike mid own there is alike in (
      before.0 ∙ sym (ap (λ s. length s.leaves) noted ∙ length-set mid.leaves leaf.0 cut),
      before.1 ∙ sym (ap (λ s. length s.ranges) noted),
    )

pub range_noted_alike : (now mid own there : Sight) (range : Range) (one : RangeSight) → mid ≡ joined_sight own there
    → now ≡ with_range_sight range one mid → AreAlike own there → AreAlike there now
range_noted_alike now mid own there range one is noted alike =
    let before = joined_alike mid own there is alike in (
      before.0 ∙ sym (ap (λ s. length s.leaves) noted),
      before.1 ∙ sym (ap (λ s. length s.ranges) noted ∙ length-set mid.ranges range.0 one),
    )

-- ---- histories

pub joined_seen : (a b : Histories) → joined_sight (sight_of a) (sight_of b) ≡ sight_of (joined_histories a b)
joined_seen a b = λ i. record {
  leaves = sym (farther_each-map length length (λ n. n) (λ xs. refl) a.leaves b.leaves) i;
  ranges = sym (farther_each-map range_sight length (λ range. range.length) (λ history. refl) a.ranges b.ranges) i;
}

-- ---- one entry more

one_longer : {X : Type 0} (xs : List X) (x : X) → length (xs ++ x ∷ []) ≡ length xs + 1
one_longer xs x = length-append xs (x ∷ [])

pub leaf_seen : (leaf : Leaf) (entry : Entry) (seen : Histories) → sight_of (with_leaf_entry leaf entry seen)
    ≡ with_leaf_sight leaf (length (leaf_history seen leaf) + 1) (sight_of seen)
leaf_seen leaf entry seen = λ i. record {
  leaves = (map-set length seen.leaves leaf.0 (leaf_history seen leaf ++ entry ∷ [])
      ∙ ap (set (map length seen.leaves) leaf.0) (one_longer (leaf_history seen leaf) entry)) i;
  ranges = map range_sight seen.ranges;
}

pub range_seen : (range : Range) (entry : RangeEntry) (seen : Histories) → sight_of (with_range_entry range entry seen)
    ≡ with_range_sight range (range_sight (range_history seen range ++ entry ∷ [])) (sight_of seen)
range_seen range entry seen = λ i. record {
  leaves = map length seen.leaves;
  ranges = map-set range_sight seen.ranges range.0 (range_history seen range ++ entry ∷ []) i;
}

-- ---- a longer history

set_set : {X : Type 0} (xs : List X) (n : ℕ) (a b : X) → set (set xs n a) n b ≡ set xs n b
set_set [] n a b = refl
set_set (x ∷ xs) zero a b = refl
set_set (x ∷ xs) (suc n) a b = ap (λ rest. x ∷ rest) (set_set xs n a b)

-- who notes a longer history has noted just that, also where a shorter one was noted
pub noted_over : (leaf : Leaf) (shorter longer : List Entry) (own there now : Sight)
    → with_leaf_sight leaf (length shorter) (joined_sight own there) ≡ now
    → with_leaf_sight leaf (length longer) (joined_sight own there) ≡ with_leaf_sight leaf (length longer) now
noted_over leaf shorter longer own there now e =
    (λ i. record {
      leaves = sym (set_set (joined_sight own there).leaves leaf.0 (length shorter) (length longer)) i;
      ranges = (joined_sight own there).ranges;
    })
    ∙ ap (with_leaf_sight leaf (length longer)) e

pub range_noted_over : (range : Range) (shorter longer : RangeSight) (own there now : Sight)
    → with_range_sight range shorter (joined_sight own there) ≡ now
    → with_range_sight range longer (joined_sight own there) ≡ with_range_sight range longer now
range_noted_over range shorter longer own there now e =
    (λ i. record {
      leaves = (joined_sight own there).leaves;
      ranges = sym (set_set (joined_sight own there).ranges range.0 shorter longer) i;
    })
    ∙ ap (with_range_sight range longer) e
