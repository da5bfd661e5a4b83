-- A series that a replica has brings no bucket more.
use Rattle.std.proofs.Common.{◌≡◌, ◌∙◌, ℕ, Bool, true, false, cond, ◌||◌, Some, None, List, [], ◌∷◌, ◌++◌, map}
use Rattle.std.proofs.Common.{Option, IfNone, IfSome, not, ◌&&◌, refl, sym, ap, subst, inl, inr}
use Rattle.std.specs.Prelude.{is_some}
use Rattle.std.proofs.lemmas.Bool.{or_left, or_right, or_cases}
use Rattle.std.proofs.lemmas.List.Concat.{flat_map-append}
use Rattle.mon_value.proofs.PlainLemmas.{or_false}
use Rattle.mon_hints.specs.Hints.{history_buckets, rows_buckets}
use Rattle.mon_hints.specs.Formulas.{is_among}
use Rattle.mon_value.proofs.SameLemmas.{same_series-Decides}
use Rattle.mon_value.specs.LeafHistories.{brought_rows, entry_rows, is_opened, leaf_rows, replica_rows, same_replica}
use Rattle.mon_value.specs.LeafHistories.{last_end, points_of, rows_of}
use Rattle.mon_value.specs.Same.{same_series}
use Rattle.mon_value.specs.declared.histories.Entry.{Entry}
use Rattle.mon_value.specs.declared.histories.Entry.TheVariants as entry
use Rattle.mon_value.specs.declared.positions.Range.{Range}
use Rattle.mon_value.specs.declared.positions.Slot.{Slot}
use Rattle.mon_value.specs.declared.rows.Row.{Row}
use Rattle.mon_value.specs.declared.rows.SeriesKey.{SeriesKey}
use Rattle.mon_series.specs.SlotViews.{SlotView}
use Rattle.leaf_store.specs.LeafStates.{HasNumber, slot_view}
use Rattle.leaf_store.specs.declared.replicas.Replica.{Replica}
use Rattle.leaf_store.specs.within.Raises.{AddsBuckets, HoldsBuckets, IsKnown}
use Rattle.leaf_store.specs.within.Replicas.{CanPut, HasSeries, HoldsHistory, Replicas, has_row_of, rows_held}
use Rattle.leaf_store.specs.within.Replicas.{rows_if_held}
use Rattle.leaf_store.proofs.SeriesNumberLemmas.{numbered_row}
use Rattle.mon_hints.proofs.CoverLemmas.{among-append}

-- a replica that takes a row has its series where it is told as known
pub put_series : (replicas : Replicas) (replica : Replica) (row : Row) (known : Bool) → CanPut replicas replica row
    → known ≡ has_row_of row.key (rows_if_held (rows_held replicas replica.range replica.slot)) → known ≡ true
    → HasSeries replicas replica row.key
put_series replicas replica row known can is told = (
  can.0,
  can.1,
  sym (ap (λ (held : Option SlotView). has_row_of row.key (rows_if_held held)) can.1) ∙ sym is ∙ told,
)

none_left : (own raised : Bool) → (own ≡ true → raised ≡ true) → (own && not raised) ≡ false
none_left true raised all = ap not (all refl)
none_left false raised all = refl

module _ (buckets_of : SeriesKey → List ℕ) where
  rows_both : (xs ys : List Row) → rows_buckets buckets_of (xs ++ ys) ≡ rows_buckets buckets_of xs
      ++ rows_buckets buckets_of ys
  rows_both xs ys = flat_map-append (λ (row : Row). buckets_of row.key) xs ys

  either_among : (bucket : ℕ) (xs ys : List Row) → is_among bucket (rows_buckets buckets_of (xs ++ ys))
      ≡ (is_among bucket (rows_buckets buckets_of xs) || is_among bucket (rows_buckets buckets_of ys))
  either_among bucket xs ys =
      ap (is_among bucket) (rows_both xs ys) ∙ among-append bucket (rows_buckets buckets_of xs)
      (rows_buckets buckets_of ys)

  -- ---- the buckets of a series that has a row are those of its row

  series_at : (key : SeriesKey) (row : Row) (rows : List Row) (bucket : ℕ) (b : Bool) → same_series key row.key ≡ b
      → is_some (last_end (map (λ (r : Row). r.point) (cond b (row ∷ rows_of key rows) (rows_of key rows)))) ≡ true
      → is_among bucket (buckets_of key) ≡ true
      → (is_some (last_end (points_of key rows)) ≡ true → is_among bucket (rows_buckets buckets_of rows) ≡ true)
      → is_among bucket (rows_buckets buckets_of (row ∷ rows)) ≡ true
  series_at key row rows bucket true same some among rest =
      among-append bucket (buckets_of row.key) (rows_buckets buckets_of rows)
      ∙ or_left (is_among bucket (buckets_of row.key)) (is_among bucket (rows_buckets buckets_of rows))
      (subst (λ (k : SeriesKey). is_among bucket (buckets_of k) ≡ true) ((same_series-Decides key row.key).0 same)
      among)
  series_at key row rows bucket false same some among rest =
      among-append bucket (buckets_of row.key) (rows_buckets buckets_of rows)
      ∙ or_right (is_among bucket (buckets_of row.key)) (is_among bucket (rows_buckets buckets_of rows)) (rest some)

  series_among : (key : SeriesKey) (rows : List Row) (bucket : ℕ) → is_some (last_end (points_of key rows)) ≡ true
      → is_among bucket (buckets_of key) ≡ true → is_among bucket (rows_buckets buckets_of rows) ≡ true
  series_among key [] bucket some among = absurd cc
  series_among key (row ∷ rows) bucket some among =
      series_at key row rows bucket (same_series key row.key) refl some among (λ there. series_among key rows bucket
      there among)

  -- ---- the buckets of a replica's rows are those of its history

  some_among : (b : Bool) (rows : List Row) (bucket : ℕ) → is_among bucket (rows_buckets buckets_of (cond b rows []))
      ≡ true
      → is_among bucket (rows_buckets buckets_of rows) ≡ true
  some_among true rows bucket among = among
  some_among false rows bucket among = absurd cc

  entry_among : (range : Range) (slot : Slot) (e : Entry) (bucket : ℕ) → is_among bucket
      (rows_buckets buckets_of (entry_rows range slot e)) ≡ true
      → is_among bucket (rows_buckets buckets_of (brought_rows e)) ≡ true
  entry_among range slot (entry.Opened pass other place rows) bucket among =
      some_among (same_replica range slot other place) rows bucket among
  entry_among range slot (entry.Put pass other place row) bucket among =
      some_among (same_replica range slot other place) (row ∷ []) bucket among
  entry_among range slot (entry.Trim pass other place before) bucket among = absurd cc
  entry_among range slot (entry.Down pass) bucket among = absurd cc
  entry_among range slot (entry.Up pass) bucket among = absurd cc

  replica_among : (range : Range) (slot : Slot) (history : List Entry) (bucket : ℕ)
      → is_among bucket (rows_buckets buckets_of (replica_rows range slot history)) ≡ true → is_among bucket
      (history_buckets buckets_of history) ≡ true
  replica_among range slot [] bucket among = absurd cc
  replica_among range slot (e ∷ history) bucket among =
      either_among bucket (brought_rows e) (leaf_rows history)
      ∙ elim (or_cases (is_among bucket (rows_buckets buckets_of (entry_rows range slot e)))
      (is_among bucket (rows_buckets buckets_of (replica_rows range slot history)))
      (sym (either_among bucket (entry_rows range slot e) (replica_rows range slot history)) ∙ among)) [
        | inl here ↦ or_left (is_among bucket (rows_buckets buckets_of (brought_rows e)))
            (is_among bucket (history_buckets buckets_of history))
            (entry_among range slot e bucket here)
        | inr there ↦ or_right (is_among bucket (rows_buckets buckets_of (brought_rows e)))
            (is_among bucket (history_buckets buckets_of history))
            (replica_among range slot history bucket there)
      ]

  held_is : (b : Bool) (own held : SlotView) → cond b (Some own) None ≡ Some held → own ≡ held
  held_is true own held is = cc
  held_is false own held is = absurd cc

  -- a set that has the buckets of a history has those of the replicas' rows
  pub holds_buckets : (replicas : Replicas) (set : ℕ → Bool) (first left : List Entry) → HoldsHistory replicas first
      → ((bucket : ℕ) → set bucket ≡ is_among bucket (history_buckets buckets_of (first ++ left)))
      → HoldsBuckets replicas buckets_of set
  holds_buckets replicas set first left holds has range slot held there bucket among =
      let own = held_is (is_opened range slot first) (slot_view range slot first) held (sym (holds range slot)
      ∙ there) in
      let here = replica_among range slot first bucket
      (subst (λ (all : SlotView). is_among bucket (rows_buckets buckets_of all.rows) ≡ true) (sym own) among) in
      has bucket
      ∙ ap (λ (all : List Row). is_among bucket (rows_buckets buckets_of all)) (flat_map-append brought_rows first left)
      ∙ either_among bucket (leaf_rows first) (leaf_rows left)
      ∙ or_left (is_among bucket (history_buckets buckets_of first))
      (is_among bucket (history_buckets buckets_of left)) here

  in_set : (old : Bool) (more : Bool) → (more ≡ true → old ≡ true) → old ≡ (old || more)
  in_set true more have = refl
  in_set false true have = have refl
  in_set false false have = refl

  -- an entry of a known series adds none
  pub known_adds : (replicas : Replicas) (set : ℕ → Bool) (e : Entry) → HoldsBuckets replicas buckets_of set
      → IsKnown replicas e
      → AddsBuckets set set (rows_buckets buckets_of (brought_rows e))
  known_adds replicas set (entry.Opened pass range slot rows) holds known bucket = absurd known
  known_adds replicas set (entry.Put pass range slot row) holds known bucket =
      in_set (set bucket) (is_among bucket (rows_buckets buckets_of (row ∷ [])))
      (λ among. holds range slot known.0 known.1 bucket
      (series_among row.key known.0.rows bucket known.2
      (sym (among-append bucket (buckets_of row.key) [] ∙ or_false (is_among bucket (buckets_of row.key))) ∙ among)))
  known_adds replicas set (entry.Trim pass range slot before) holds known bucket = absurd known
  known_adds replicas set (entry.Down pass) holds known bucket = absurd known
  known_adds replicas set (entry.Up pass) holds known bucket = absurd known

  -- nor does one whose series has a number in its replica
  pub numbered_adds : (set : ℕ → Bool) (history : List Entry) (e : Entry) (number : ℕ)
      → ((bucket : ℕ) → set bucket ≡ is_among bucket (history_buckets buckets_of history)) → HasNumber history e number
      → AddsBuckets set set (rows_buckets buckets_of (brought_rows e))
  numbered_adds set history (entry.Opened pass range slot rows) number has known bucket = absurd known
  numbered_adds set history (entry.Put pass range slot row) number has known bucket =
      let rows = replica_rows range slot history in
      in_set (set bucket) (is_among bucket (rows_buckets buckets_of (row ∷ [])))
      (λ among. has bucket ∙ replica_among range slot history bucket
      (series_among row.key rows bucket (numbered_row rows number row.key known)
      (sym (among-append bucket (buckets_of row.key) [] ∙ or_false (is_among bucket (buckets_of row.key))) ∙ among)))
  numbered_adds set history (entry.Trim pass range slot before) number has known bucket = absurd known
  numbered_adds set history (entry.Down pass) number has known bucket = absurd known
  numbered_adds set history (entry.Up pass) number has known bucket = absurd known

  -- whether the number of an entry's series is known or not
  pub adds_unless_known : (old new : ℕ → Bool) (history : List Entry) (e : Entry) (series : Option ℕ)
      → ((bucket : ℕ) → old bucket ≡ is_among bucket (history_buckets buckets_of history))
      → IfSome series (HasNumber history e)
      → IfNone series (AddsBuckets old new (rows_buckets buckets_of (brought_rows e)))
      → IfSome series (λ number. new ≡ old) → AddsBuckets old new (rows_buckets buckets_of (brought_rows e))
  adds_unless_known old new history e None has known adds same = adds
  adds_unless_known old new history e (Some number) has known adds same =
      subst (λ (set : ℕ → Bool). AddsBuckets old set (rows_buckets buckets_of (brought_rows e))) (sym same)
      (numbered_adds old history e number has known)

  -- no bucket of a series that a replica has is left
  pub known_left : (replicas : Replicas) (set : ℕ → Bool) (replica : Replica) (key : SeriesKey)
      → HoldsBuckets replicas buckets_of set → HasSeries replicas replica key → (bucket : ℕ)
      → (is_among bucket (buckets_of key) && not (set bucket)) ≡ false
  known_left replicas set replica key holds known bucket =
      none_left (is_among bucket (buckets_of key)) (set bucket)
      (λ among. holds replica.range replica.slot known.0 known.1 bucket
      (series_among key known.0.rows bucket known.2 among))
