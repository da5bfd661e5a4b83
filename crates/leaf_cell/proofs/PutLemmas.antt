-- What a put asks for: what its row brings is raised before, and its range is held.
use Rattle.std.proofs.Common.{◌≡◌, ℕ, ◌+◌, ◌<◌, true, false, not, List, [], ◌∷◌, ◌++◌, sym, ap, subst, ◌∙◌}
use Rattle.std.proofs.Common.{append-nil, arith}
use Rattle.std.proofs.lemmas.Bool.{and_from, not_from_false}
use Rattle.std.proofs.lemmas.List.Sums.{sum_by-append}
use Rattle.std.specs.Prelude.{IsTrue, if◌then◌else◌}
use Rattle.history_book.specs.Seats.{times_range}
use Rattle.leaf_cell.proofs.RaisedLemmas.{history_alike}
use Rattle.mon_value.proofs.LeafHistoryLemmas.{ranges_same}
use Rattle.leaf_cell.specs.Rest.{GoesBy}
use Rattle.leaf_store.specs.LeafStates.{is_unraised, key_buckets}
use Rattle.leaf_store.specs.LeafStates as store
use Rattle.mon_hints.specs.Hints.{history_buckets}
use Rattle.mon_hints.specs.Formulas.{is_among}
use Rattle.mon_topo.specs.Settings.{Setting}
use Rattle.mon_value.specs.Histories.{same_range}
use Rattle.mon_value.specs.declared.histories.Entry.{Entry}
use Rattle.mon_value.specs.declared.histories.Entry.TheVariants as entry
use Rattle.mon_value.specs.declared.positions.Range.{Range}
use Rattle.mon_value.specs.declared.positions.Slot.{Slot}
use Rattle.mon_value.specs.declared.rows.Row.{Row}
use Rattle.mon_value.specs.declared.rows.SeriesKey.{SeriesKey}
use Rattle.raise_table.specs.Tables.{RaiseIdentity}

module _ (setting : Setting) (raise : RaiseIdentity) (leaf : store.LeafView) (by : GoesBy setting raise leaf) (pass : ℕ)
    (range : Range) (slot : Slot) (row : Row) where
  abbrev own : SeriesKey → List ℕ
  own = key_buckets leaf.buckets leaf.schemas

  abbrev put : Entry
  put = entry.Put pass range slot row

  -- a bucket that the entry brings and the history lacks is one that was raised
  pub brings_unraised : (bucket : ℕ) → is_among bucket (history_buckets setting.buckets_of (put ∷ [])) ≡ true
      → is_among bucket (history_buckets setting.buckets_of leaf.history) ≡ false
      → is_unraised leaf.buckets leaf.schemas leaf.history row.key bucket ≡ true
  brings_unraised bucket there lacks = and_from (is_among bucket (own row.key))
      (not (is_among bucket (history_buckets own leaf.history)))
      (ap (is_among bucket) (sym (append-nil (own row.key)))
      ∙ ap (is_among bucket) (sym (history_alike setting.buckets_of own by.buckets (put ∷ []))) ∙ there)
      (not_from_false (is_among bucket (history_buckets own leaf.history))
      (ap (is_among bucket) (sym (history_alike setting.buckets_of own by.buckets leaf.history)) ∙ lacks))

-- a range that the caller holds is held by the owner with its guest
pub holds_among : (range other : Range) (held holds : List Range) → IsTrue (same_range range other)
    → 0 < times_range other holds → 0 < times_range range (held ++ holds)
holds_among range other held holds same has =
    let here : 0 < times_range range holds =
    subst (λ (r : Range). 0 < times_range r holds) (sym (ranges_same range other same)) has in
    let both : times_range range (held ++ holds) ≡ times_range range held + times_range range holds =
    sum_by-append (λ (r : Range). if same_range range r then 1 else 0) held holds in
    omega (arith, here, both)
