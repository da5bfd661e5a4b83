-- From what became of the rows that two files offered to what a pour owes.
use Rattle.std.proofs.Common.{◌≡◌, ◌∙◌, ℕ, List, [], refl, sym, ap, subst}
use Rattle.ingest_queue.specs.Ends.{IsEndOf}
use Rattle.ingest_queue.specs.Offers.{rows_written}
use Rattle.ingest_queue.specs.Weaves.{IsWeave}
use Rattle.ingest_queue.specs.declared.ends.FileEnd.{FileEnd}
use Rattle.ingest_queue.specs.declared.ends.Poured.{Poured}
use Rattle.ingest_queue.specs.declared.refusals.RowRefusal.{RowRefusal}
use Rattle.ingest_queue.specs.declared.row_writers.Offer.{Offer}
use Rattle.know.specs.Knowledge.{Knowledge}
use Rattle.line_runs.specs.Feeding.{AreOffered, WerePoured}
use Rattle.line_runs.specs.LineWrites.{LineWrote, ran_line}
use Rattle.mon_config.specs.declared.config.Config.{Config}
use Rattle.mon_points.specs.Records.{reads_of}
use Rattle.mon_script.specs.declared.forms.LineForm.TheVariants as form
use Rattle.mon_value.specs.declared.rows.Row.{Row}
use Rattle.history_book.specs.declared.views.History.TheVariants as of
use Rattle.owners.specs.Puts.{pass_of}
use Rattle.query_traces.specs.Traces.{IsBetween}
use Rattle.run_traces.specs.LineClaims.{Finds, PourFound}
use Rattle.run_traces.specs.LineTables.{file_cuts}
use Rattle.run_traces.specs.LineTexts.{pour_text}
use Rattle.run_traces.specs.declared.line_files.LineFiles.{LineFiles}
use Rattle.run_traces.specs.declared.traces.LineTrace.{LineTrace}
use Rattle.run_traces.specs.declared.traces.LineTrace.TheVariants as came
use Rattle.run_traces.proofs.ListFacts.{both_all}
use Rattle.run_traces.proofs.Woven.{woven_back}
use Rattle.line_runs.proofs.FeedCauses.{lengths}
use Rattle.line_runs.proofs.FeedFound.{seen_below}
use Rattle.line_runs.proofs.FeedParts.{Part}
use Rattle.line_runs.proofs.FeedWrote.{Holds, file_cuts_between, file_found, new_found, place_kept}
use Rattle.line_runs.proofs.FileRecords.{AreFedAmid, all_told}
use Rattle.line_runs.proofs.Offered.{offered_amid, offered_part, written_woven}

module _ (config : Config) where
  -- what a file came to, by its end
  end_amid : (content : List ℕ) (made own others : List Offer) (end : FileEnd) (first last : Knowledge)
      → IsWeave made own others → AreOffered config made first last → IsEndOf (reads_of config.schemas content) own end
      → AreFedAmid config 1 (reads_of config.schemas content) end.accepted end.refused first last
  end_amid content made own others end first last woven offered is =
      subst (λ (rows : List Row). AreFedAmid config 1 (reads_of config.schemas content) rows end.refused first last)
      (sym is.accepted)
      (subst (λ (refusals : List RowRefusal).
      AreFedAmid config 1 (reads_of config.schemas content) (rows_written own) refusals first last) (sym is.refused)
      (offered_amid config 1 (reads_of config.schemas content) made own others first last woven offered is.offered))

  module _ (one other : List ℕ) (content : LineFiles) (ends : Poured) (first last : Knowledge)
      (before : Holds config first) (behind : Holds config last)
      (poured : WerePoured config (reads_of config.schemas content.first) (reads_of config.schemas content.second) first
      last ends) where
    done : Part config first last ends.accepted
    done = subst (λ (rows : List Row). Part config first last rows) (sym poured.accepted)
        (offered_part config poured.made first last poured.offered)

    first_amid : AreFedAmid config 1 (reads_of config.schemas content.first) ends.first.accepted ends.first.refused
        first last
    first_amid = end_amid content.first poured.made poured.one poured.other ends.first first last poured.woven
        poured.offered poured.first

    second_amid : AreFedAmid config 1 (reads_of config.schemas content.second) ends.second.accepted
        ends.second.refused first last
    second_amid = end_amid content.second poured.made poured.other poured.one ends.second first last
        (woven_back poured.woven) poured.offered poured.second

    woven : IsWeave ends.accepted ends.first.accepted ends.second.accepted
    woven =
        subst (λ (all : List Row). IsWeave all ends.first.accepted ends.second.accepted) (sym poured.accepted)
        (subst (λ (rows : List Row). IsWeave (rows_written poured.made) rows ends.second.accepted)
        (sym poured.first.accepted)
        (subst (λ (rows : List Row). IsWeave (rows_written poured.made) (rows_written poured.one) rows)
        (sym poured.second.accepted) (written_woven poured.woven)))

    abbrev line : ℕ → LineTrace
    line pass = came.Poured pass ends

    found : PourFound config last.seen (lengths first) (lengths last) content (pass_of first) ends
    found = record {
      rows = new_found config ends.accepted first last before behind done;
      first = file_found config content.first ends.first.accepted ends.first.refused first last behind first_amid;
      second = file_found config content.second ends.second.accepted ends.second.refused first last behind second_amid;
    }

    finds : Finds config last.seen (lengths first) (lengths last) (pass_of first)
        (ran_line (form.Pour one other) content (line (pass_of first)) [])
    finds = record {
      forth = seen_below first last done.still.fronts;
      suits = tt;
      told = record {
        first = all_told config 1 (reads_of config.schemas content.first) ends.first.accepted ends.first.refused first
            last first_amid;
        second = all_told config 1 (reads_of config.schemas content.second) ends.second.accepted ends.second.refused
            first last second_amid;
        woven = woven;
      };
      cuts = λ leaf there.
          both_all (IsBetween (lengths first (of.Leaf leaf)) (lengths last (of.Leaf leaf)))
          (file_cuts leaf ends.first.refused) (file_cuts leaf ends.second.refused)
          (file_cuts_between config leaf content.first ends.first.accepted ends.first.refused first last found.first)
          (file_cuts_between config leaf content.second ends.second.accepted ends.second.refused first last
          found.second);
      found = found;
    }

    wrote_as_first : (text : List ℕ) → text ≡ pour_text config.topology one other ends
        → LineWrote config (ran_line (form.Pour one other) content (line (pass_of first)) []) text first last
    wrote_as_first text printed = record {
      keeps = place_kept config ends.accepted first last before behind done;
      made = done.made;
      makes = (refl, done.fed);
      own = done.own;
      found = finds;
      prints = printed;
    }

    -- what a pour owes
    pub pour_wrote : (pass : ℕ) (trace : LineTrace) (text : List ℕ) → pass ≡ pass_of first
        → trace ≡ came.Poured pass ends → text ≡ pour_text config.topology one other ends
        → LineWrote config (ran_line (form.Pour one other) content trace []) text first last
    pour_wrote pass trace text number is printed =
        subst (λ (t : LineTrace). LineWrote config (ran_line (form.Pour one other) content t []) text first last)
        (sym (is ∙ ap line number)) (wrote_as_first text printed)
