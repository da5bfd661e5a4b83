-- The rows of several ranges are a source where those of each are one and lie in it.
use Rattle.std.proofs.Common.{◌≡◌, ◌∙◌, ◌<◌, ◌+◌, ℕ, zero, suc, Bool, true, false, cond, Some, List, [], ◌∷◌, ◌++◌}
use Rattle.std.proofs.Common.{map, refl, sym, ap, subst, arith}
use Rattle.std.specs.Prelude.{Contains}
use Rattle.std.specs.List.{AllByRecursion, flat_map, range_with_len}
use Rattle.mon_schema.specs.Names.{SchemaLists}
use Rattle.mon_topo.proofs.RangeHistoryLemmas.{all_append, all_from, all_on}
use Rattle.mon_topo.specs.HeldHistories.{AreAtHome, IsAtHome}
use Rattle.mon_topo.specs.Locations.{range_for}
use Rattle.mon_topo.specs.declared.zones.ZoneSpec.{ZoneSpec}
use Rattle.mon_value.proofs.LeafHistoryLemmas.{parts_same}
use Rattle.mon_value.proofs.SameLemmas.{same_series-Decides}
use Rattle.mon_value.proofs.PlainLemmas.{all_flat}
use Rattle.mon_value.specs.LeafHistories.{entry_rows, replica_rows, same_replica, EndsBefore, IsSource}
use Rattle.mon_value.specs.Histories.{range_numbered}
use Rattle.mon_value.specs.declared.histories.Entry.{Entry}
use Rattle.mon_value.specs.declared.histories.Entry.TheVariants as entry
use Rattle.mon_value.specs.declared.positions.Range.{Range}
use Rattle.mon_value.specs.declared.positions.Slot.{Slot}
use Rattle.mon_value.specs.declared.rows.Row.{Row}

-- ---- one source behind another

source_behind : (xs ys : List Row) → IsSource xs → IsSource ys
    → AllByRecursion (λ x. AllByRecursion (EndsBefore x) ys) xs → IsSource (xs ++ ys)
source_behind [] ys first last before = last
source_behind (x ∷ xs) ys first last before =
    (all_append (EndsBefore x) xs ys first.0 before.0, source_behind xs ys first.1 last before.1)

module _ (held : SchemaLists) (zones : List ZoneSpec) where
  -- ---- rows of a replica lie in its range

  if_at_home : (range : Range) (b : Bool) (rows : List Row)
      → (b ≡ true → AllByRecursion (IsAtHome held zones range) rows)
      → AllByRecursion (IsAtHome held zones range) (cond b rows [])
  if_at_home range true rows h = h refl
  if_at_home range false rows h = tt

  entry_at_home : (range : Range) (slot : Slot) (one : Entry) → AreAtHome held zones one
      → AllByRecursion (IsAtHome held zones range) (entry_rows range slot one)
  entry_at_home range slot (entry.Opened pass other place rows) home =
      if_at_home range (same_replica range slot other place) rows
      (λ same. all_from (IsAtHome held zones range) rows
      (subst (λ (r : Range). (row : Row) → Contains rows row → IsAtHome held zones r row)
      (sym (parts_same range other slot place same).0) home))
  entry_at_home range slot (entry.Put pass other place row) home =
      if_at_home range (same_replica range slot other place) (row ∷ [])
      (λ same.
      (subst (λ (r : Range). IsAtHome held zones r row) (sym (parts_same range other slot place same).0) home, tt))
  entry_at_home range slot (entry.Trim pass other place before) home = tt
  entry_at_home range slot (entry.Down pass) home = tt
  entry_at_home range slot (entry.Up pass) home = tt

  pub replica_at_home : (range : Range) (slot : Slot) (history : List Entry)
      → AllByRecursion (AreAtHome held zones) history
      → AllByRecursion (IsAtHome held zones range) (replica_rows range slot history)
  replica_at_home range slot history home =
      all_flat (IsAtHome held zones range) (entry_rows range slot) history
      (all_on (AreAtHome held zones) (λ one. AllByRecursion (IsAtHome held zones range) (entry_rows range slot one))
      (entry_at_home range slot) history home)

  -- ---- rows of several ranges

  -- rows that lie in two ranges are of two series
  other_series : (range other : Range) (row later : Row) → range.0 < other.0 → IsAtHome held zones range row
      → IsAtHome held zones other later → EndsBefore row later
  other_series range other row later below home there same =
      let key = (same_series-Decides row.key later.key).0 same in
      let at : Some range ≡ Some other = sym home.1 ∙ ap (λ k. range_for held zones k.target) key ∙ there.1 in
      let one : range ≡ other = cc in
      let number : range.0 ≡ other.0 = ap (λ r. r.0) one in
      absurd (omega arith)

  module _ {A : Type 0} (range_of : A → Range) (own : A → List Row) where
    -- the rows of each lie in its range
    abbrev pub LieThere : A → Type 0
    LieThere one = AllByRecursion (IsAtHome held zones (range_of one)) (own one)

    ends_before : (range : Range) (row : Row) → IsAtHome held zones range row → (rest : List A)
        → AllByRecursion (λ one. range.0 < (range_of one).0) rest → AllByRecursion LieThere rest
        → AllByRecursion (EndsBefore row) (flat_map own rest)
    ends_before range row home [] below homes = tt
    ends_before range row home (one ∷ rest) below homes =
        all_append (EndsBefore row) (own one) (flat_map own rest)
        (all_on (IsAtHome held zones (range_of one)) (EndsBefore row)
        (λ later there. other_series range (range_of one) row later below.0 home there) (own one) homes.0)
        (ends_before range row home rest below.1 homes.1)

    later_ranges : (m n count : ℕ) (all : List A)
        → map range_of all ≡ map range_numbered (range_with_len n count) → m < n
        → AllByRecursion (λ one. m < (range_of one).0) all
    later_ranges m n zero [] listed below = tt
    later_ranges m n zero (one ∷ all) listed below = absurd cc
    later_ranges m n (suc count) [] listed below = absurd cc
    later_ranges m n (suc count) (one ∷ all) listed below =
        let first : range_of one ≡ range_numbered n = cc in
        let number : (range_of one).0 ≡ n = ap (λ r. r.0) first in
        let here : m < (range_of one).0 = omega arith in
        let rest : map range_of all ≡ map range_numbered (range_with_len (n + 1) count) = cc in
        let less : m < n + 1 = omega arith in
        (here, later_ranges m (n + 1) count all rest less)

    -- ranges that rise have rows that are a source
    pub ranges_source : (n count : ℕ) (all : List A)
        → map range_of all ≡ map range_numbered (range_with_len n count)
        → AllByRecursion (λ one. IsSource (own one)) all → AllByRecursion LieThere all → IsSource (flat_map own all)
    ranges_source n zero [] listed sources homes = tt
    ranges_source n zero (one ∷ all) listed sources homes = absurd cc
    ranges_source n (suc count) [] listed sources homes = absurd cc
    ranges_source n (suc count) (one ∷ all) listed sources homes =
        let first : range_of one ≡ range_numbered n = cc in
        let number : (range_of one).0 ≡ n = ap (λ r. r.0) first in
        let rest : map range_of all ≡ map range_numbered (range_with_len (n + 1) count) = cc in
        let below : (range_of one).0 < n + 1 = omega arith in
        let later = later_ranges (range_of one).0 (n + 1) count all rest below in
        source_behind (own one) (flat_map own all) sources.0
        (ranges_source (n + 1) count all rest sources.1 homes.1)
        (all_on (IsAtHome held zones (range_of one)) (λ row. AllByRecursion (EndsBefore row) (flat_map own all))
        (λ row home. ends_before (range_of one) row home all later homes.1) (own one) homes.0)
