-- Why a row was refused, at lengths that histories had as it was.
use Rattle.std.proofs.lemmas.Bool.{or_right}
use Rattle.std.proofs.Common.{◌≡◌, ◌≤◌, ℕ, suc, ◌||◌, true, List, []}
use Rattle.std.proofs.Common.{◌∷◌, length, map, take, Some, refl, sym, ap, ◌∙◌, subst, arith}
use Rattle.std.specs.Prelude.{Contains}
use Rattle.std.specs.List.{AllByRecursion, list_any}
use Rattle.std.proofs.lemmas.List.{length-map}
use Rattle.history_book.specs.Histories.{AreFronts, entries}
use Rattle.history_book.specs.declared.views.History.{History}
use Rattle.history_book.specs.declared.views.BookEntry.TheVariants as one
use Rattle.history_book.specs.declared.views.History.TheVariants as of
use Rattle.know.specs.Knowledge.{Knowledge}
use Rattle.ingest_queue.specs.Offers.{CanBeTold}
use Rattle.mon_config.specs.declared.config.Config.{Config}
use Rattle.know.proofs.SoundLemmas.{within_front}
use Rattle.mon_store.specs.Writes.{AreAllDown, IsRefused, IsRefusedAs, WasFoundSo}
use Rattle.mon_topo.proofs.FrontLemmas.{begins_length, begins_through, take_on}
use Rattle.mon_value.proofs.PlainLemmas.{equal_itself}
use Rattle.mon_topo.specs.RangeHistories.{serving, is_avoided}
use Rattle.mon_value.specs.Histories.{leaf_history, range_history, same_leaf}
use Rattle.mon_value.specs.LeafHistories.{IsDownAt, is_down}
use Rattle.mon_value.specs.declared.histories.RangeEntry.{RangeEntry}
use Rattle.mon_value.specs.declared.positions.FoundDown.{FoundDown}
use Rattle.mon_value.specs.declared.positions.Leaf.{Leaf}
use Rattle.mon_value.specs.declared.positions.Range.{Range}
use Rattle.mon_value.specs.declared.positions.SlotLeaf.{SlotLeaf}
use Rattle.mon_value.specs.declared.rows.Row.{Row}
use Rattle.query_traces.specs.Founds.{IsFoundBetween}
use Rattle.query_traces.specs.Traces.{IsBetween, found_leaves}
use Rattle.range_cell.specs.declared.answers.WriteFault.{WriteFault}
use Rattle.range_cell.specs.declared.answers.WriteFault.TheVariants as unwritten
use Rattle.run_traces.specs.LineCauses.{HasNoneUp, IsRefusedByRange, IsUnwritten}
use Rattle.run_traces.specs.LineClaims.{marked}
use Rattle.write_core.specs.RangeAnswers.{refusal}
use Rattle.write_core.specs.declared.refusals.Refused.{Refused}
use Rattle.write_core.specs.declared.refusals.Refused.TheVariants as ranged

-- how much of each history someone has seen
abbrev pub lengths : Knowledge → History → ℕ
lengths know h = length (entries know.seen h)

pub range_length : (x : Knowledge) (range : Range) → lengths x (of.Range range) ≡ length (range_history x.seen range)
range_length x range = length-map (range_history x.seen range) (λ e. one.Range e)

pub leaf_length : (x : Knowledge) (leaf : Leaf) → lengths x (of.Leaf leaf) ≡ length (leaf_history x.seen leaf)
leaf_length x leaf = length-map (leaf_history x.seen leaf) (λ e. one.Leaf e)

-- what is contained in the list is so where all are
pub contained : {X : Type 0} (P : X → Type 0) (xs : List X) → ((x : X) → Contains xs x → P x) → AllByRecursion P xs
contained P [] f = tt
contained P (x ∷ xs) f = (
  f x (0, omega arith, refl),
  contained P xs
      (λ y there. f y (suc there.0, (let l = there.1 in omega arith), there.2)),
)

-- each replica is on one of their leaves
pub all_avoided : (replicas : List SlotLeaf)
    → AllByRecursion (λ replica. is_avoided (map (λ (r : SlotLeaf). r.leaf) replicas) replica ≡ true) replicas
all_avoided replicas = avoided_by (map (λ (r : SlotLeaf). r.leaf) replicas) replicas (λ leaf is. is)
  where
    avoided_by : (leaves : List Leaf) (some : List SlotLeaf)
        → ((leaf : Leaf) → list_any (same_leaf leaf) (map (λ (r : SlotLeaf). r.leaf) some) ≡ true
        → list_any (same_leaf leaf) leaves ≡ true)
        → AllByRecursion (λ replica. is_avoided leaves replica ≡ true) some
    avoided_by leaves [] f = tt
    avoided_by leaves (r ∷ some) f = (
      f r.leaf (ap (λ b. b || list_any (same_leaf r.leaf) (map (λ (o : SlotLeaf). o.leaf) some))
          (equal_itself r.leaf.0)),
      avoided_by leaves some (λ leaf is. f leaf (or_right (same_leaf leaf r.leaf)
          (list_any (same_leaf leaf) (map (λ (o : SlotLeaf). o.leaf) some)) is)),
    )

module _ (config : Config) (x y z : Knowledge) (fronts : AreFronts y.seen z.seen) where
  -- a history that a range was found with stands there still
  stood : (range : Range) (history : List RangeEntry) → WasFoundSo config range history x y
      → take (length history) (range_history z.seen range) ≡ history
  stood range history found =
      begins_through history (range_history y.seen range) (range_history z.seen range) found.to
      ((within_front y.seen z.seen fronts).ranges range)

  between : (range : Range) (history : List RangeEntry) → WasFoundSo config range history x y
      → IsBetween ((marked (lengths x)).ranges range) ((marked (lengths y)).ranges range) (length history)
  between range history found = record {
    from = let l = begins_length history (range_history x.seen range) found.from in let e = range_length x range in omega
        arith;
    to = let l = begins_length (range_history y.seen range) history found.to in let e = range_length y range in omega
        arith;
  }

  refused_by : (row : Row) (told : Refused)
      → IsRefusedAs config row x y (λ history. refusal config.range_points history row ≡ Some told)
      → IsRefusedByRange config z.seen (marked (lengths x)) (marked (lengths y)) row told
  refused_by row told said = record {
    range = said.range;
    in_range = said.in_range;
    found = length said.history;
    between = between said.range said.history said.found;
    refused = ap (λ w. refusal config.range_points w row) (stood said.range said.history said.found) ∙ said.cause;
  }

  pub found_down : (found : FoundDown) → length (leaf_history x.seen found.leaf) ≤ found.cut
      → IsDownAt (leaf_history y.seen found.leaf) found.cut
      → IsFoundBetween (marked (lengths x)) (marked (lengths y)) z.seen found
  found_down found since was =
      let within = (within_front y.seen z.seen fronts).leaves found.leaf in
      let there = was.seen_by_then in record {
        between = record {
          from = let e = leaf_length x found.leaf in omega arith;
          to = let e = leaf_length y found.leaf in omega arith;
        };
        down = record {
          seen_by_then = let l = begins_length (leaf_history z.seen found.leaf) (leaf_history y.seen found.leaf) within
              in omega arith;
          down = ap is_down
              (take_on (leaf_history z.seen found.leaf) (leaf_history y.seen found.leaf) found.cut within there)
              ∙ was.down;
        };
      }

  some_inside : (a b : Range) → Some a ≡ Some b → a ≡ b
  some_inside a b e = cc

  stood_so : (row : Row) (range : Range) (founds : List FoundDown)
      (said : IsRefusedAs config row x y (AreAllDown config row x y range founds))
      → take (length said.history) (range_history z.seen range) ≡ said.history
  stood_so row range founds said =
      stood range said.history
      (subst (λ (r : Range). WasFoundSo config r said.history x y)
      (some_inside said.range range (sym said.in_range ∙ said.cause.in_range)) said.found)

  none_up : (row : Row) (range : Range) (founds : List FoundDown)
      → IsRefusedAs config row x y (AreAllDown config row x y range founds)
      → HasNoneUp config z.seen (marked (lengths x)) (marked (lengths y)) range founds
  none_up row range founds said =
      let same : said.range ≡ range = some_inside said.range range (sym said.in_range ∙ said.cause.in_range) in
      let found = subst (λ (r : Range). WasFoundSo config r said.history x y) same said.found in
      record {
        were_found = contained (IsFoundBetween (marked (lengths x)) (marked (lengths y)) z.seen) founds
            (λ one there. let was = said.cause.down one there in found_down one was.from was.down);
        found = length said.history;
        between = between range said.history found;
        all_down =
            subst (λ (h : List RangeEntry).
            AllByRecursion (λ replica. is_avoided (found_leaves founds) replica ≡ true) (serving h))
            (sym (stood range said.history found))
            (subst (λ (leaves : List Leaf). AllByRecursion (λ replica. is_avoided leaves replica ≡ true)
            (serving said.history)) (sym said.cause.leaves) (all_avoided (serving said.history)));
      }

  -- the cause of a refusal stands there still
  pub cause_stands : (row : Row) (fault : WriteFault) → CanBeTold fault → IsRefused config row x y fault
      → IsUnwritten config z.seen (marked (lengths x)) (marked (lengths y)) row fault
  unfolding none_up
  cause_stands row unwritten.NoZone told cause = cause
  cause_stands row (unwritten.OldPoint last) told cause = refused_by row (ranged.OldPoint last) cause
  cause_stands row (unwritten.RangeFull limit) told cause = refused_by row (ranged.RangeFull limit) cause
  cause_stands row (unwritten.Unavailable range founds) told cause = record {
    in_range = cause.cause.in_range;
    none_up = none_up row range founds cause;
    those = cause.cause.leaves
        ∙ ap (λ (h : List RangeEntry). map (λ (replica : SlotLeaf). replica.leaf) (serving h))
        (sym (stood_so row range founds cause));
    free = ap (λ w. refusal config.range_points w row) (stood_so row range founds cause) ∙ cause.cause.free;
  }
  cause_stands row unwritten.OutOfMemory told cause = told
