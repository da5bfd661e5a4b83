-- The numbers of a replica's series, as rows come to it.
use Rattle.std.proofs.Common.{◌≡◌, ◌∙◌, ◌<◌, ℕ, Bool, true, false, cond, not, Option, Some, None, IfSome}
use Rattle.std.proofs.Common.{List, [], ◌∷◌, ◌++◌, length, slice_get, refl, sym, ap, subst, append-nil, append_assoc, arith}
use Rattle.std.specs.Prelude.{is_some}
use Rattle.std.specs.List.{filter}
use Rattle.std.proofs.lemmas.List.{length-map, map-append}
use Rattle.std.proofs.lemmas.List.Concat.{flat_map-append}
use Rattle.std.proofs.lemmas.List.Elements.{filter-append}
use Rattle.mon_value.proofs.KeyedLemmas as keyed
use Rattle.mon_value.proofs.SameLemmas.{same_series-Decides}
use Rattle.mon_value.specs.LeafHistories.{MayFollow, entry_rows, is_opened, is_switch, replica_rows, key_of_row}
use Rattle.mon_value.specs.LeafHistories.{last_end, points_of, rows_of, series_of}
use Rattle.mon_value.specs.Same.{same_series}
use Rattle.mon_value.specs.declared.histories.Entry.{Entry}
use Rattle.mon_value.specs.declared.histories.Entry.TheVariants as entry
use Rattle.mon_value.specs.declared.positions.Range.{Range}
use Rattle.mon_value.specs.declared.positions.Slot.{Slot}
use Rattle.mon_value.specs.declared.rows.Point.{Point}
use Rattle.mon_value.specs.declared.rows.Row.{Row}
use Rattle.mon_value.specs.declared.rows.SeriesKey.{SeriesKey}
use Rattle.mon_series.specs.SlotViews.{SlotView}
use Rattle.leaf_store.specs.LeafStates.{HasNumber, slot_view}
use Rattle.leaf_store.specs.declared.fresh.FreshEntry.{FreshEntry}
use Rattle.leaf_store.specs.within.FreshEntries.{AreNumbered, HasKeptNumber, entries_in}
use Rattle.leaf_store.specs.within.Replicas.{HoldsHistory, Replicas, has_row_of, rows_held, rows_if_held}
use Rattle.leaf_store.proofs.StepLemmas.{rows_there}
use Rattle.mon_series.proofs.MetricLemmas.{has_at}
use Rattle.mon_value.proofs.PlainLemmas.{get_front}

-- ---- the series of rows

series_begin : (rows more : List Row) → (later : List SeriesKey) × (series_of (rows ++ more) ≡ series_of rows ++ later)
series_begin [] more = (series_of more, refl)
series_begin (row ∷ rows) more =
    let rest = series_begin rows more in
    let apart : SeriesKey → Bool = λ key. not (same_series row.key key) in (
      filter apart rest.0,
      ap (λ (keys : List SeriesKey). row.key ∷ filter apart keys) rest.1
          ∙ ap (λ (keys : List SeriesKey). row.key ∷ keys) (filter-append apart (series_of rows) rest.0),
    )

-- a series keeps its number
number_stays : (rows more : List Row) (number : ℕ) (key : SeriesKey) → slice_get (series_of rows) number ≡ Some key
    → slice_get (series_of (rows ++ more)) number ≡ Some key
number_stays rows more number key there =
    let all = series_begin rows more in
    ap (λ (keys : List SeriesKey). slice_get keys number) all.1 ∙ get_front (series_of rows) all.0 number key there

ends : (points : List Point) → 0 < length points → is_some (last_end points) ≡ true
ends [] some = absurd (omega (arith, some))
ends (point ∷ []) some = refl
ends (point ∷ next ∷ points) some = ends (next ∷ points) (omega arith)

-- a series that has a number has a row
pub numbered_row : (rows : List Row) (number : ℕ) (key : SeriesKey) → slice_get (series_of rows) number ≡ Some key
    → has_row_of key rows ≡ true
numbered_row rows number key there =
    let some = keyed.items_some same_series same_series-Decides key_of_row key rows
    (has_at key (series_of rows) number there) in
    let count = length-map (rows_of key rows) (λ (row : Row). row.point) in
    ends (points_of key rows) (omega (arith, some, count))

-- ---- the series of a number that was found

found_there : (opened : Bool) (held : SlotView) (more : List Row) (number : ℕ) (key : SeriesKey)
    → slice_get (series_of (rows_if_held (cond opened (Some held) None))) number ≡ Some key
    → slice_get (series_of (held.rows ++ more)) number ≡ Some key
found_there true held more number key there = number_stays held.rows more number key there
found_there false held more number key there = absurd cc

-- it keeps its number behind the entries that are left
pub found_number : (replicas : Replicas) (first left : List Entry) (range : Range) (slot : Slot) (key : SeriesKey)
    (number : ℕ) → HoldsHistory replicas first
    → slice_get (series_of (rows_if_held (rows_held replicas range slot))) number ≡ Some key
    → slice_get (series_of (replica_rows range slot (first ++ left))) number ≡ Some key
found_number replicas first left range slot key number holds there =
    ap (λ (rows : List Row). slice_get (series_of rows) number) (flat_map-append (entry_rows range slot) first left)
    ∙ found_there (is_opened range slot first) (slot_view range slot first) (replica_rows range slot left) number key
    (ap (λ (held : Option SlotView). slice_get (series_of (rows_if_held held)) number) (sym (holds range slot))
    ∙ there)

-- ---- the numbers that stand beside entries

-- an entry of a known series has a row
pub numbered_put : (history : List Entry) (e : Entry) (number : ℕ) → HasNumber history e number → is_switch e ≡ false
numbered_put history (entry.Opened pass range slot rows) number has = refl
numbered_put history (entry.Put pass range slot row) number has = refl
numbered_put history (entry.Trim pass range slot before) number has = refl
numbered_put history (entry.Down pass) number has = absurd has
numbered_put history (entry.Up pass) number has = absurd has

pub kept_number : (replicas : Replicas) (history : List Entry) (e : Entry) (number : ℕ) → HoldsHistory replicas history
    → MayFollow history e → HasNumber history e number → HasKeptNumber replicas e number
kept_number replicas history (entry.Opened pass range slot rows) number holds may has = has
kept_number replicas history (entry.Put pass range slot row) number holds may has =
    ap (λ (rows : List Row). slice_get (series_of rows) number)
    (rows_there range slot replicas history (holds range slot) may.1) ∙ has
kept_number replicas history (entry.Trim pass range slot before) number holds may has = has
kept_number replicas history (entry.Down pass) number holds may has = has
kept_number replicas history (entry.Up pass) number holds may has = has

-- the next entry's number is among those of the rows that are kept
pub next_number : (replicas : Replicas) (history : List Entry) (e : Entry) (series : Option ℕ)
    → HoldsHistory replicas history → MayFollow history e → IfSome series (HasNumber history e)
    → IfSome series (HasKeptNumber replicas e)
next_number replicas history e None holds may has = tt
next_number replicas history e (Some number) holds may has = kept_number replicas history e number holds may has

-- an entry more behind those that wait
pub numbered_push : (history : List Entry) (fresh : List FreshEntry) (last : FreshEntry) → AreNumbered history fresh
    → IfSome last.series (HasNumber (history ++ entries_in fresh) last.entry)
    → AreNumbered history (fresh ++ last ∷ [])
numbered_push history [] last are has =
    (subst (λ (h : List Entry). IfSome last.series (HasNumber h last.entry)) (append-nil history) has, tt)
numbered_push history (one ∷ fresh) last are has = (
  are.0,
  numbered_push (history ++ one.entry ∷ []) fresh last are.1
      (subst (λ (h : List Entry). IfSome last.series (HasNumber h last.entry))
      (sym (append_assoc history (one.entry ∷ []) (entries_in fresh))) has),
)

pub entries_push : (fresh : List FreshEntry) (last : FreshEntry) → entries_in (fresh ++ last ∷ [])
    ≡ entries_in fresh ++ last.entry ∷ []
entries_push fresh last = map-append (λ (one : FreshEntry). one.entry) fresh (last ∷ [])
