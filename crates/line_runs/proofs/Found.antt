-- What was found in a call, as it stands between what its caller had seen before and has seen behind it.
use Rattle.std.proofs.Common.{◌≡◌, ◌∙◌, ◌++◌, ◌∷◌, ℕ, true, List, [], filter, length, map, not, sym, ap, subst}
use Rattle.std.specs.Prelude.{Contains}
use Rattle.std.specs.List.{AllByRecursion}
use Rattle.know.specs.Knowledge.{Knowledge}
use Rattle.line_runs.proofs.FeedCauses.{all_avoided, contained}
use Rattle.line_runs.proofs.Growing.{marks, seen_of}
use Rattle.mon_config.specs.declared.config.Config.{Config}
use Rattle.mon_store.specs.Writes.{WasFoundSo}
use Rattle.mon_topo.proofs.FrontLemmas.{begins-flat_map, begins_length, contains_on}
use Rattle.mon_topo.proofs.RangeHistoryLemmas.{all_at, all_filter}
use Rattle.mon_topo.specs.HeldHistories.{BeginsWith}
use Rattle.mon_topo.specs.RangeHistories.{is_avoided, is_missed, opened_slot, opened_slots, serving, serving_after}
use Rattle.mon_value.proofs.PlainLemmas.{all_append}
use Rattle.mon_value.specs.Histories.{range_history, same_slot}
use Rattle.mon_value.specs.declared.histories.RangeEntry.{RangeEntry}
use Rattle.mon_value.specs.declared.histories.RangeEntry.TheVariants as range_entry
use Rattle.mon_value.specs.declared.positions.FoundDown.{FoundDown}
use Rattle.mon_value.specs.declared.positions.Leaf.{Leaf}
use Rattle.mon_value.specs.declared.positions.Range.{Range}
use Rattle.mon_value.specs.declared.positions.SlotLeaf.{SlotLeaf}
use Rattle.query_traces.specs.Founds.{IsFoundBetween}
use Rattle.query_traces.specs.Traces.{IsBetween, Lengths, found_leaves, lengths_of}
use Rattle.run_traces.specs.LineCauses.{AreThoseServing, HasNoneUp}
use Rattle.run_traces.specs.LineClaims.{marked}
use Rattle.running_query.specs.Ends.{WasFoundDown}

-- ---- who serves

-- what holds of replicas and of those that are opened holds of those that serve
all_serve : (P : SlotLeaf → Type 0) (replicas : List SlotLeaf) (history : List RangeEntry) → AllByRecursion P replicas
    → AllByRecursion P (opened_slots history) → AllByRecursion P (serving_after replicas history)
all_serve P replicas [] all more = all
all_serve P replicas (range_entry.Opened pass slot leaf ∷ history) all more =
    all_serve P (replicas ++ record { slot = slot; leaf = leaf } ∷ []) history
    (all_append P replicas (record { slot = slot; leaf = leaf } ∷ []) all (more.0, tt)) more.1
all_serve P replicas (range_entry.Acked pass row ack ∷ history) all more =
    all_serve P (filter (λ replica. not (is_missed ack.missed replica)) replicas) history
    (all_filter P (λ replica. not (is_missed ack.missed replica)) replicas all) more
all_serve P replicas (range_entry.Trimmed pass before ack ∷ history) all more =
    all_serve P (filter (λ replica. not (is_missed ack.missed replica)) replicas) history
    (all_filter P (λ replica. not (is_missed ack.missed replica)) replicas all) more
all_serve P replicas (range_entry.Retired pass slot ∷ history) all more =
    all_serve P (filter (λ replica. not (same_slot slot replica.slot)) replicas) history
    (all_filter P (λ replica. not (same_slot slot replica.slot)) replicas all) more

-- a replica that served was opened
pub opened_then : (all history : List RangeEntry) → BeginsWith all history → (replica : SlotLeaf)
    → Contains (serving history) replica → Contains (opened_slots all) replica
opened_then all history begins replica there =
    contains_on (opened_slots all) (opened_slots history) replica (begins-flat_map opened_slot all history begins)
    (all_at (Contains (opened_slots history)) (serving history) replica
    (all_serve (Contains (opened_slots history)) [] history tt
    (contained (Contains (opened_slots history)) (opened_slots history) (λ one is. is))) there)

-- ---- between lengths

module _ (before after : Knowledge) where
  abbrev pub low : Lengths
  low = lengths_of before.seen

  abbrev pub high : Lengths
  high = lengths_of after.seen

  pub found_then : (leaf : Leaf) (cut : ℕ) → WasFoundDown before after leaf cut
      → IsFoundBetween low high after.seen (record { leaf = leaf; cut = cut })
  found_then leaf cut found =
      record { between = record { from = found.from; to = found.down.seen_by_then }; down = found.down }

  pub all_found : (founds : List FoundDown)
      → ((found : FoundDown) → Contains founds found → WasFoundDown before after found.leaf found.cut)
      → AllByRecursion (IsFoundBetween low high after.seen) founds
  all_found founds all = contained (IsFoundBetween low high after.seen) founds
      (λ found there. found_then found.leaf found.cut (all found there))

  -- the same by what was seen of each history
  pub at_marks : (P : Lengths → Lengths → Type 0) → P low high
      → P (marked (seen_of before.seen)) (marked (seen_of after.seen))
  at_marks P is =
      subst (λ (from : Lengths). P from (marked (seen_of after.seen))) (sym (marks before.seen))
      (subst (P low) (sym (marks after.seen)) is)

  module _ (config : Config) (range : Range) (history : List RangeEntry)
      (found : WasFoundSo config range history before after) where
    pub range_lies : IsBetween (low.ranges range) (high.ranges range) (length history)
    range_lies = record {
      from = begins_length history (range_history before.seen range) found.from;
      to = begins_length (range_history after.seen range) history found.to;
    }

    module _ (founds : List FoundDown)
        (leaves : found_leaves founds ≡ map (λ (replica : SlotLeaf). replica.leaf) (serving history))
        (down : (one : FoundDown) → Contains founds one → WasFoundDown before after one.leaf one.cut) where
      -- each replica that served then was found down
      abbrev pub none_up : HasNoneUp config after.seen low high range founds
      none_up = record {
        were_found = all_found founds down;
        found = length history;
        between = range_lies;
        all_down = subst (λ (h : List RangeEntry). AllByRecursion (λ replica.
            is_avoided (found_leaves founds) replica ≡ true) (serving h)) (sym found.to)
            (subst (λ (leaves : List Leaf). AllByRecursion (λ replica. is_avoided leaves replica ≡ true)
            (serving history)) (sym leaves) (all_avoided (serving history)));
      }

      pub those : AreThoseServing config after.seen low high range founds none_up
      those = leaves
          ∙ ap (λ (h : List RangeEntry). map (λ (replica : SlotLeaf). replica.leaf) (serving h)) (sym found.to)
