-- What one entry more makes of a range's replay.
use Rattle.std.proofs.Common.{◌≡◌, ◌<◌, ◌≤◌, ℕ, zero, suc, nat_eq, not, subst}
use Rattle.std.proofs.Common.{ℤ, Bool, true, false, cond, List, [], ◌∷◌, ◌++◌, length, map, refl, sym}
use Rattle.std.proofs.Common.{ap, ◌∙◌, Some, None, Option, is_some, arith}
use Rattle.std.specs.Map.{lookup}
use Rattle.std.specs.Prelude.{Contains, filter}
use Rattle.std.proofs.lemmas.Bool.Decides.{nat_tests}
use Rattle.std.proofs.lemmas.List.{append-nil, map-append}
use Rattle.std.proofs.lemmas.List.Concat.{flat_map-append}
use Rattle.std.proofs.lemmas.List.Elements.{filter-append}
use Rattle.mon_topo.proofs.RangeHistoryLemmas.{acknowledged_rows-push, not_slot, serving-push}
use Rattle.mon_topo.specs.RangeHistories.{acked_row, acknowledged_rows, opened_slots}
use Rattle.mon_value.proofs.PlainLemmas.{filter-few}
use Rattle.mon_value.proofs.SameLemmas.{eq-same_series, same_series-Decides, same_series-test}
use Rattle.mon_value.specs.Same.{same_series}
use Rattle.mon_value.specs.LeafHistories.{last_end, points_of, rows_of}
use Rattle.mon_value.specs.contracts.rows.SeriesKeyPartialEq.TheImpl as derived
use Rattle.mon_value.specs.declared.histories.RangeEntry.{RangeEntry}
use Rattle.mon_value.specs.declared.histories.RangeEntry.TheVariants as entry
use Rattle.mon_value.specs.declared.positions.Slot.{Slot}
use Rattle.mon_value.specs.declared.positions.SlotLeaf.{SlotLeaf}
use Rattle.mon_value.specs.declared.rows.Point.{Point}
use Rattle.mon_value.specs.declared.rows.Row.{Row}
use Rattle.mon_value.specs.declared.rows.SeriesKey.{SeriesKey}
use Rattle.write_core.specs.Replays.{TellsLasts}
use Rattle.write_core.proofs.OpeningLemmas.{acked-opened, opened-acked, opened-opened, serving-opened}

-- ---- the end of the last row of each series

last_end-push : (points : List Point) (point : Point) → last_end (points ++ point ∷ []) ≡ Some point.end
last_end-push [] point = refl
last_end-push (p ∷ []) point = refl
last_end-push (p ∷ q ∷ points) point = last_end-push (q ∷ points) point

last_by : (key : SeriesKey) (rows : List Row) (row : Row) (b : Bool)
    → last_end (points_of key rows ++ map (λ (r : Row). r.point) (cond b (row ∷ []) []))
    ≡ cond b (Some row.point.end) (last_end (points_of key rows))
last_by key rows row true = last_end-push (points_of key rows) row.point
last_by key rows row false = ap last_end (append-nil (points_of key rows))

last_after : (key : SeriesKey) (rows : List Row) (row : Row)
    → last_end (points_of key (rows ++ row ∷ []))
    ≡ cond (same_series key row.key) (Some row.point.end) (last_end (points_of key rows))
last_after key rows row =
    ap (λ rs. last_end (map (λ (r : Row). r.point) rs))
    (filter-append (λ (r : Row). same_series key r.key) rows (row ∷ []))
    ∙ ap last_end (map-append (λ (r : Row). r.point) (rows_of key rows) (rows_of key (row ∷ [])))
    ∙ last_by key rows row (same_series key row.key)

symmetric : (a b : SeriesKey) → same_series a b ≡ same_series b a
symmetric a b = by (same_series a b) (same_series b a) refl refl
  where
    by : (x y : Bool) → same_series a b ≡ x → same_series b a ≡ y → x ≡ y
    by true true h k = refl
    by false false h k = refl
    by true false h k = sym ((same_series-Decides b a).1 (sym ((same_series-Decides a b).0 h))) ∙ k
    by false true h k = sym h ∙ (same_series-Decides a b).1 (sym ((same_series-Decides b a).0 k))

pub lasts_told : (old new : List (SeriesKey × ℤ)) (row : Row) (rows : List Row)
    → ((key : SeriesKey) → lookup (derived.eq-value.it key) new
    ≡ cond (derived.eq-value.it row.key key) (Some row.point.end) (lookup (derived.eq-value.it key) old))
    → TellsLasts old rows → TellsLasts new (rows ++ row ∷ [])
lasts_told old new row rows updated tells key =
    ap (λ test. lookup test new) (sym (same_series-test key)) ∙ updated key
    ∙ (λ i. cond (eq-same_series row.key key i) (Some row.point.end) (lookup (same_series-test key i) old))
    ∙ (λ i. cond (symmetric row.key key i) (Some row.point.end) (tells key i))
    ∙ sym (last_after key rows row)

-- where no place was found there is no value
pub none_found : {V : Type 0} (found : Option V) → false ≡ is_some found → found ≡ None
none_found None e = refl
none_found (Some v) e = absurd cc

-- ---- entries

-- no more rows are acknowledged than there are entries
pub acked_few : (history : List RangeEntry) → length (acknowledged_rows history) ≤ length history
acked_few [] = omega arith
acked_few (entry.Opened pass slot leaf ∷ history) = let few = acked_few history in omega arith
acked_few (entry.Acked pass row ack ∷ history) = let few = acked_few history in omega arith
acked_few (entry.Trimmed pass before ack ∷ history) = let few = acked_few history in omega arith
acked_few (entry.Retired pass slot ∷ history) = let few = acked_few history in omega arith

-- nor more replicas opened
pub opened_few : (history : List RangeEntry) → length (opened_slots history) ≤ length history
opened_few [] = omega arith
opened_few (entry.Opened pass slot leaf ∷ history) = let few = opened_few history in omega arith
opened_few (entry.Acked pass row ack ∷ history) = let few = opened_few history in omega arith
opened_few (entry.Trimmed pass before ack ∷ history) = let few = opened_few history in omega arith
opened_few (entry.Retired pass slot ∷ history) = let few = opened_few history in omega arith

-- an entry that acknowledges no row leaves the acknowledged rows as they are
pub acked-bare : (history : List RangeEntry) (e : RangeEntry) → acked_row e ≡ []
    → acknowledged_rows (history ++ e ∷ []) ≡ acknowledged_rows history
acked-bare history e bare =
    flat_map-append acked_row history (e ∷ [])
    ∙ ap (λ (rows : List Row). acknowledged_rows history ++ (rows ++ [])) bare
    ∙ append-nil (acknowledged_rows history)

-- ---- one that is retired serves no more

-- so that fewer serve
pub retired_fewer : (slot : Slot) (replicas : List SlotLeaf)
    → Contains (map (λ (replica : SlotLeaf). replica.slot) replicas) slot
    → length (filter (not_slot slot) replicas) < length replicas
retired_fewer slot [] there = absurd (omega (arith, there.1))
retired_fewer slot (replica ∷ replicas) (zero, l, e) =
    let out : nat_eq slot.0 replica.slot.0 ≡ true = grind (arith, nat_tests, ap slot_number e) in
    let few : length (filter (not_slot slot) replicas) ≤ length replicas = filter-few (not_slot slot) replicas in
    subst (λ (b : Bool). length (cond (not b) (replica ∷ filter (not_slot slot) replicas) (filter (not_slot slot) replicas))
    < suc (length replicas)) (sym out) (omega (arith, few))
  where
    slot_number : Slot → ℕ
    slot_number one = one.0
retired_fewer slot (replica ∷ replicas) (suc k, l, e) =
    by (not_slot slot replica) (retired_fewer slot replicas (k, omega (arith, l), e))
  where
    by : (b : Bool) → length (filter (not_slot slot) replicas) < length replicas
        → length (cond b (replica ∷ filter (not_slot slot) replicas) (filter (not_slot slot) replicas))
        < suc (length replicas)
    by true fewer = omega (arith, fewer)
    by false fewer = omega (arith, fewer)

pub ruleset ranges = (serving-opened, serving-push, acked-opened, acknowledged_rows-push, opened-opened, opened-acked)
