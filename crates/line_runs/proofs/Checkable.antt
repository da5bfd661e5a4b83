-- What a query stands on can be gathered and evaluated in one place.
use Rattle.std.proofs.Common.{◌≡◌, ◌<◌, ℕ, ℤ, true, List, length, take, drop, sym, subst}
use Rattle.std.specs.List.{AllByRecursion}
use Rattle.std.proofs.lemmas.List.{take-append-drop}
use Rattle.know.specs.Knowledge.{Knowledge}
use Rattle.leaf_store.proofs.FollowLemmas.{rows_source}
use Rattle.line_runs.proofs.Sources.{ranges_source, replica_at_home}
use Rattle.line_runs.specs.Questions.{CanBeChecked, IsAnswerTo}
use Rattle.mon_config.specs.declared.config.Config.{Config}
use Rattle.mon_schema.specs.Fits.{fits}
use Rattle.mon_store.specs.Gathers.{HasSeenTrace}
use Rattle.mon_topo.proofs.RangeHistoryLemmas.{all_from, all_on}
use Rattle.mon_topo.specs.HeldHistories.{AreAtHome, AreHeld, IsAtHome}
use Rattle.mon_topo.specs.Zones.{leaves_in}
use Rattle.mon_value.proofs.KeptRowLemmas.{kept_all, kept_source}
use Rattle.mon_value.proofs.LeafHistoryLemmas.{front}
use Rattle.mon_value.specs.Histories.{leaf_history}
use Rattle.mon_value.specs.LeafHistories.{IsWellFormed, IsSource}
use Rattle.mon_value.specs.declared.histories.Entry.{Entry}
use Rattle.mon_value.specs.declared.histories.Histories.{Histories}
use Rattle.mon_value.specs.declared.rows.Row.{Row}
use Rattle.typed_rows.proofs.KeptRows.{all-take}
use Rattle.mon_value.proofs.PlainLemmas.{all_flat}
use Rattle.query_traces.specs.Traces.{IsOfRanges, cut_of, looked_at, resolved_rows, source_of}
use Rattle.query_traces.specs.declared.answers.Answer.{Answer}
use Rattle.query_traces.specs.declared.answers.Resolved.{Resolved}
use Rattle.query_traces.specs.declared.answers.Trace.{Trace}

module _ (config : Config) (points : ℕ) (seen : Histories)
    (held : AreHeld config.schemas config.topology points seen) (trace : Trace) where
  abbrev Home : Entry → Type 0
  Home = AreAtHome config.schemas config.topology

  abbrev Fits : Row → Type 0
  Fits row = fits config.schemas row ≡ true

  abbrev IsThere : Resolved → Type 0
  IsThere one = one.leaf.0 < length (leaves_in config.topology)

  abbrev OwnHome : Resolved → Type 0
  OwnHome one = AllByRecursion (IsAtHome config.schemas config.topology one.range) (resolved_rows seen trace one)

  -- a leaf's history up to its cut is one that a leaf can have
  cut_formed : (one : Resolved) → IsThere one → IsWellFormed (looked_at seen trace one.leaf)
  cut_formed one there =
      let cut = cut_of trace one.leaf in
      let history = leaf_history seen one.leaf in
      front (take cut history) (drop cut history) (subst IsWellFormed (sym (take-append-drop cut history))
      (held.formed one.leaf (subst (λ count. one.leaf.0 < count) (sym held.all_leaves) there)))

  -- the rows of a range lie in it
  own_home : (one : Resolved) → IsThere one → OwnHome one
  own_home one there =
      kept_all one.range one.slot (IsAtHome config.schemas config.topology one.range) (looked_at seen trace one.leaf)
      (cut_formed one there)
      (replica_at_home config.schemas config.topology one.range one.slot (looked_at seen trace one.leaf)
      (all-take Home (cut_of trace one.leaf) (leaf_history seen one.leaf)
      (all_from Home (leaf_history seen one.leaf) (held.at_home one.leaf))))

  -- and are a source
  own_source : (one : Resolved) → IsThere one → IsSource (resolved_rows seen trace one)
  own_source one there =
      kept_source one.range one.slot (looked_at seen trace one.leaf) (cut_formed one there)
      (rows_source one.range one.slot (looked_at seen trace one.leaf) (cut_formed one there))

  all_home : AllByRecursion IsThere trace.resolved → AllByRecursion OwnHome trace.resolved
  all_home = all_on IsThere OwnHome own_home trace.resolved

  all_fit : AllByRecursion IsThere trace.resolved → AllByRecursion Fits (source_of seen trace)
  all_fit there =
      all_flat Fits (resolved_rows seen trace) trace.resolved
      (all_on OwnHome (λ one. AllByRecursion Fits (resolved_rows seen trace one))
      (λ one. all_on (IsAtHome config.schemas config.topology one.range) Fits (λ row home. home.0)
      (resolved_rows seen trace one)) trace.resolved (all_home there))

  all_source : IsOfRanges trace (length seen.ranges) → AllByRecursion IsThere trace.resolved
      → IsSource (source_of seen trace)
  all_source ranges there =
      ranges_source config.schemas config.topology (λ (one : Resolved). one.range) (resolved_rows seen trace) 0
      (length seen.ranges) trace.resolved ranges
      (all_on IsThere (λ one. IsSource (resolved_rows seen trace one)) own_source trace.resolved there)
      (all_home there)

pub can_be_checked : (config : Config) (points : ℕ) (text : List ℕ) (moment : ℤ) (know : Knowledge) (answer : Answer)
    → AreHeld config.schemas config.topology points know.seen
    → HasSeenTrace config.topology know answer.trace → IsAnswerTo config text moment know answer
    → CanBeChecked config text moment (source_of know.seen answer.trace)
can_be_checked config points text moment know answer held seen is = record {
  typed = is.typed;
  type_is = is.type_is;
  fit = all_fit config points know.seen held answer.trace seen.there;
  source = all_source config points know.seen held answer.trace is.of.ranges seen.there;
  within = is.table.within;
}
