-- From what became of the records of a file to what a feed owes, and what any line does that writes rows.
use Rattle.std.proofs.Common.{◌≡◌, ℕ, zero, suc, ◌<◌, ◌≤◌, true, List, [], ◌∷◌, length, take, refl, sym, ap}
use Rattle.std.proofs.Common.{◌∙◌, subst, arith, inl, inr}
use mathlib.Core.Logic.{◌⊎◌}
use Rattle.std.specs.List.{AllByRecursion, slice_index_or, sum_by}
use Rattle.std.proofs.lemmas.Bool.{cases_lt}
use Rattle.history_book.specs.Numbers.{times_among}
use Rattle.history_book.specs.declared.views.History.TheVariants as of
use Rattle.know.specs.Knowledge.{Knowledge}
use Rattle.line_runs.specs.Feeding.{AreFed}
use Rattle.line_runs.specs.LineWrites.{KeepsItsPlace, LineWrote, ran_line}
use Rattle.mon_config.specs.declared.config.Config.{Config}
use Rattle.mon_points.specs.Records.{reads_of}
use Rattle.know.proofs.SoundLemmas.{within_front}
use Rattle.mon_topo.specs.HeldHistories.{AreHeld}
use Rattle.mon_topo.specs.RangeHistories.{acknowledged_rows}
use Rattle.mon_value.specs.Histories.{range_history}
use Rattle.mon_value.specs.LeafHistories.{IsSource}
use Rattle.mon_value.specs.declared.histories.RangeEntry.{RangeEntry}
use Rattle.mon_value.specs.declared.positions.Leaf.{Leaf}
use Rattle.mon_value.specs.declared.positions.Range.{Range}
use Rattle.mon_value.specs.declared.rows.Row.{Row}
use Rattle.owners.specs.Puts.{pass_of}
use Rattle.query_traces.specs.Traces.{IsBetween}
use Rattle.run_traces.specs.LineClaims.{AreNew, FeedFound, FileFound, Finds, HasRange, IsNewIn}
use Rattle.run_traces.specs.LineFeeds.{lies_in}
use Rattle.run_traces.specs.LineTables.{file_cuts}
use Rattle.run_traces.specs.LineTexts.{feed_text}
use Rattle.run_traces.specs.declared.line_files.LineFiles.{LineFiles}
use Rattle.run_traces.specs.declared.traces.LineTrace.{LineTrace}
use Rattle.run_traces.specs.declared.traces.LineTrace.TheVariants as came
use Rattle.ingest_queue.specs.declared.refusals.RowRefusal.{RowRefusal}
use Rattle.run_traces.proofs.ListFacts.{all_as}
use Rattle.mon_script.specs.declared.forms.LineForm.TheVariants as form
use Rattle.write_core.proofs.OpeningLemmas.{acked_source}
use Rattle.line_runs.proofs.FeedCauses.{lengths, range_length}
use Rattle.line_runs.proofs.FeedFound.{all_taken_found, cuts_between, rows_found, seen_below}
use Rattle.line_runs.proofs.FileRecords.{AreFedAmid, all_told, fed_amid, no_gap, none_among}
use Rattle.line_runs.proofs.FeedParts.{AreSources, IsRanged, Part, part_of, rows_new}
use Rattle.line_runs.proofs.FeedRows.{IsNone}

-- ---- histories that are held

module _ (config : Config) where
  abbrev pub Holds : Knowledge → Type 0
  Holds know = AreHeld config.schemas config.topology config.range_points know.seen

  index_within : (i : ℕ) (xss : List (List RangeEntry)) → 0 < length (slice_index_or xss i []) → i < length xss
  index_within zero [] some = absurd (omega arith)
  index_within (suc i) [] some = absurd (omega arith)
  index_within zero (xs ∷ xss) some = omega arith
  index_within (suc i) (xs ∷ xss) some = let l = index_within i xss some in omega arith

  none_source : (i : ℕ) (xss : List (List RangeEntry)) → length xss ≤ i
      → IsSource (acknowledged_rows (slice_index_or xss i []))
  none_source zero [] long = tt
  none_source (suc i) [] long = tt
  none_source zero (xs ∷ xss) long = absurd (omega arith)
  none_source (suc i) (xs ∷ xss) long = none_source i xss (omega arith)

  source_by : (z : Knowledge) → Holds z → (range : Range)
      → (range.0 < length z.seen.ranges) ⊎ (length z.seen.ranges ≤ range.0)
      → IsSource (acknowledged_rows (range_history z.seen range))
  source_by z held range (inl there) =
      acked_source config.schemas config.topology config.range_points range (range_history z.seen range)
      (held.legal range there)
  source_by z held range (inr long) = none_source range.0 z.seen.ranges long

  sources : (z : Knowledge) → Holds z → AreSources config z
  sources z held range = source_by z held range (cases_lt range.0 (length z.seen.ranges))

  -- ---- lines that wrote rows

  -- what was accepted all together was new, and the caller has its place
  module _ (rows : List Row) (first last : Knowledge) (before : Holds first) (behind : Holds last)
      (done : Part config first last rows) where
    has_range : (row : Row) → IsRanged config last row
        → HasRange config last.seen (lengths first) (lengths last) row
    has_range row ranged = record {
      range = ranged.0;
      there = index_within ranged.0.0 last.seen.ranges ranged.2;
      lies = ranged.1;
    }

    was : (range : Range) → take (lengths first (of.Range range)) (range_history last.seen range)
        ≡ range_history first.seen range
    was range = ap (λ n. take n (range_history last.seen range)) (range_length first range)
        ∙ (within_front first.seen last.seen done.still.fronts).ranges range

    pub new_found : AreNew config last.seen (lengths first) (lengths last) rows
    new_found = record {
      ranged = all_as (IsRanged config last) (HasRange config last.seen (lengths first) (lengths last)) has_range rows
          done.ranged;
      new = λ range.
          all_as (λ row. lies_in config range row ≡ true
          → IsNone row (acknowledged_rows (range_history first.seen range)))
          (IsNewIn config last.seen (lengths first) (lengths last) range)
          (λ row none lies. subst (λ (h : List RangeEntry). IsNone row (acknowledged_rows h)) (sym (was range))
          (none lies)) rows
          (rows_new config first last rows done (sources last behind) range);
    }

    pub place_kept : KeepsItsPlace first last
    place_kept = record {
      grown = record {
        within = within_front first.seen last.seen done.still.fronts;
        leaves = behind.all_leaves ∙ sym before.all_leaves;
        ranges = behind.all_ranges ∙ sym before.all_ranges;
      };
      number = done.still.number;
      met = done.still.met;
      stock = done.still.stock;
      lost = λ n. ap (sum_by (times_among n)) done.still.lost;
    }

  -- what became of the records of a file
  pub file_found : (content : List ℕ) (rows : List Row) (refusals : List RowRefusal) (first last : Knowledge)
      → Holds last → AreFedAmid config 1 (reads_of config.schemas content) rows refusals first last
      → FileFound config last.seen (lengths first) (lengths last) content (pass_of first) rows refusals
  file_found content rows refusals first last behind fed =
      let none = none_among config first first (no_gap config first) in
      record {
        refused = rows_found config first last (sources last behind) (reads_of config.schemas content) []
            (reads_of config.schemas content) 1 0 first [] rows refusals refl refl refl none fed;
        taken = all_taken_found config first last (sources last behind) 1 (reads_of config.schemas content) first []
            rows refusals none fed;
      }

  pub file_cuts_between : (leaf : Leaf) (content : List ℕ) (rows : List Row) (refusals : List RowRefusal)
      (first last : Knowledge)
      → FileFound config last.seen (lengths first) (lengths last) content (pass_of first) rows refusals
      → AllByRecursion (IsBetween (lengths first (of.Leaf leaf)) (lengths last (of.Leaf leaf))) (file_cuts leaf refusals)
  file_cuts_between leaf content rows refusals first last found =
      cuts_between config last.seen (lengths first) (lengths last) leaf (reads_of config.schemas content)
      (pass_of first) rows 0 refusals found.refused

  -- ---- a feed

  module _ (name : List ℕ) (content : LineFiles) (rows : List Row) (refusals : List RowRefusal)
      (first last : Knowledge) (before : Holds first) (behind : Holds last)
      (fed : AreFed config 1 (reads_of config.schemas content.first) rows refusals first last) where
    abbrev done : Part config first last rows
    done = part_of config 1 (reads_of config.schemas content.first) rows refusals first last fed

    abbrev line : ℕ → LineTrace
    line pass = came.Fed pass rows refusals

    amid : AreFedAmid config 1 (reads_of config.schemas content.first) rows refusals first last
    amid = fed_amid config 1 (reads_of config.schemas content.first) rows refusals first last fed

    found : FeedFound config last.seen (lengths first) (lengths last) content.first (pass_of first) rows refusals
    found = record {
      rows = new_found rows first last before behind done;
      file = file_found content.first rows refusals first last behind amid;
    }

    finds : Finds config last.seen (lengths first) (lengths last) (pass_of first)
        (ran_line (form.Feed name) content (line (pass_of first)) [])
    finds = record {
      forth = seen_below first last done.still.fronts;
      suits = tt;
      told = all_told config 1 (reads_of config.schemas content.first) rows refusals first last amid;
      cuts = λ leaf there. file_cuts_between leaf content.first rows refusals first last found.file;
      found = found;
    }

    wrote_as_first : (text : List ℕ) → text ≡ feed_text config.topology name (length rows) refusals
        → LineWrote config (ran_line (form.Feed name) content (line (pass_of first)) []) text first last
    wrote_as_first text printed = record {
      keeps = place_kept rows first last before behind done;
      made = done.made;
      makes = (refl, done.fed);
      own = done.own;
      found = finds;
      prints = printed;
    }

    -- what a feed owes
    pub feed_wrote : (pass : ℕ) (trace : LineTrace) (text : List ℕ) → pass ≡ pass_of first
        → trace ≡ came.Fed pass rows refusals → text ≡ feed_text config.topology name (length rows) refusals
        → LineWrote config (ran_line (form.Feed name) content trace []) text first last
    feed_wrote pass trace text number is printed =
        subst (λ (t : LineTrace). LineWrote config (ran_line (form.Feed name) content t []) text first last)
        (sym (is ∙ ap line number)) (wrote_as_first text printed)
