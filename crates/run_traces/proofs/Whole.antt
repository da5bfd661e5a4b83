-- What holds of a whole run.
use Rattle.std.proofs.Common.{◌≡◌, ℕ, List, [], length, refl}
use Rattle.std.specs.Prelude.{ℤ}
use Rattle.history_book.specs.Histories.{AreFronts, book_entry_pass, entries}
use Rattle.history_book.specs.declared.views.History.{History}
use Rattle.mon_config.specs.declared.config.Config.{Config}
use Rattle.mon_topo.specs.HeldHistories.{first_histories, AreHeld}
use Rattle.mon_value.specs.declared.histories.Histories.{Histories}
use Rattle.mon_value.specs.declared.positions.FoundDown.{FoundDown}
use Rattle.typed_trees.specs.Nodes.{TypedTree}
use Rattle.query_traces.specs.Founds.{IsFoundBetween}
use Rattle.query_traces.specs.Traces.{AreWider, IsFreshBetween, IsTraceBetween, Lengths, source_of}
use Rattle.query_traces.specs.declared.answers.Trace.{Trace}
use Rattle.run_theory.specs.Parts.{RanBehind, Each, Part, all_lines}
use Rattle.run_theory.proofs.Marks.{all_behind}
use Rattle.run_theory.proofs.Owned.{of_some}
use Rattle.run_theory.proofs.Settled.{alone_beside, alone_later, placed_in_run}
use Rattle.run_traces.specs.Headline.{RunHolds}
use Rattle.run_traces.specs.LineCauses.{LineIsCaused}
use Rattle.run_traces.specs.LineClaims.{AllRan, Finds, Makes}
use Rattle.run_traces.specs.LineSwitches.{LineIsControlled, LineStands, first_length, is_entry_of}
use Rattle.run_traces.specs.LineFeeds.{LineIsPaired, LineIsTold}
use Rattle.run_traces.specs.LineForms.{LineSuits}
use Rattle.run_traces.specs.LineTables.{LineIsFresh, LineIsPlaced, LineIsRead, LineIsTabled}
use Rattle.run_traces.specs.RanLines.{RanLine}
use Rattle.run_traces.proofs.Acks.{acknowledged}
use Rattle.run_traces.proofs.Causes.{is_caused}
use Rattle.run_traces.proofs.Controlled.{is_controlled}
use Rattle.run_traces.proofs.ListFacts.{all_as}
use Rattle.run_traces.proofs.Owners.{are_distinct, are_not_first, are_theirs, are_under}
use Rattle.run_traces.proofs.Paired.{is_paired}
use Rattle.run_traces.proofs.RunFacts.{InPlace, each_as, is_fresh, is_placed, is_read, is_tabled, stands}
use Rattle.mon_value.proofs.PlainLemmas.{get_within}

module _ (widen : (typed : TypedTree) (moment : ℤ) (from to earlier later : Lengths) (seen more : Histories)
    (trace : Trace) → AreWider from to earlier later seen more → IsTraceBetween typed moment from to seen trace
    → IsTraceBetween typed moment earlier later more trace)
    (find : (from to earlier later : Lengths) (seen more : Histories) (found : FoundDown)
    → AreWider from to earlier later seen more → IsFoundBetween from to seen found
    → IsFoundBetween earlier later more found)
    (rows : (typed : TypedTree) (moment : ℤ) (from to earlier later : Lengths) (seen more : Histories) (trace : Trace)
    → AreWider from to earlier later seen more → IsTraceBetween typed moment from to seen trace
    → source_of more trace ≡ source_of seen trace)
    (freshen : (typed : TypedTree) (moment : ℤ) (from to earlier later : Lengths) (seen more : Histories)
    (trace : Trace) → AreWider from to earlier later seen more → IsTraceBetween typed moment from to seen trace
    → IsFreshBetween from to seen trace → IsFreshBetween earlier later more trace)
    (config : Config) (ended : Histories) (parts : List (Part RanLine))
    (begun : AreFronts (first_histories config.topology) ended)
    (whole : Histories) (fronts : AreFronts ended whole)
    (held : AreHeld config.schemas config.topology config.range_points whole) (ran : AllRan config ended parts) where
  abbrev end : History → ℕ
  end h = length (entries ended h)

  places : Each (InPlace config ended) [] parts
  places = placed_in_run entries book_entry_pass (Makes config) (Finds config) is_entry_of ended
      (first_length config.topology ended) end (are_under config ended whole fronts held) (are_distinct config ended whole fronts held)
      (are_not_first config ended begun whole fronts held) (λ h. refl) parts ran

  pub run_holds : RunHolds config ended parts
  run_holds = record {
    suits = all_as
        (RanBehind entries book_entry_pass (Makes config) (Finds config) ended (first_length config.topology ended))
        LineSuits (λ line behind. behind.ran.found.suits) (all_lines parts)
        (all_behind entries book_entry_pass (Makes config) (Finds config) ended (first_length config.topology ended) end
        parts ran);
    tables = each_as (InPlace config ended) (LineIsTabled config ended)
        (λ seen later line place. is_tabled config ended seen later line place widen find) [] parts places;
    fresh = each_as (InPlace config ended) (LineIsFresh config ended)
        (λ seen later line place. is_fresh config ended seen later line place freshen) [] parts places;
    placed = each_as (InPlace config ended) (LineIsPlaced config ended)
        (λ seen later line place. is_placed config ended seen later line place) [] parts places;
    read = each_as (InPlace config ended) (LineIsRead config ended)
        (λ seen later line place. is_read config ended seen later line place) [] parts places;
    told = all_as
        (RanBehind entries book_entry_pass (Makes config) (Finds config) ended (first_length config.topology ended))
        (LineIsTold config) (λ line behind. behind.ran.found.told) (all_lines parts)
        (all_behind entries book_entry_pass (Makes config) (Finds config) ended (first_length config.topology ended) end
        parts ran);
    acknowledged = acknowledged config ended parts begun ran;
    made = record {
      begun = begun;
      made = λ history place e there low. of_some entries book_entry_pass (Makes config) (Finds config) is_entry_of
          ended
          (are_theirs config ended whole fronts held) (first_length config.topology ended) end parts history place e ran there low
          (get_within (entries ended history) place e there);
    };
    apart = record {
      later = alone_later entries book_entry_pass (Makes config) (Finds config) is_entry_of ended
          (first_length config.topology ended) end (are_under config ended whole fronts held) (are_distinct config ended whole fronts held)
          (are_not_first config ended begun whole fronts held) (λ h. refl) parts ran;
      beside = alone_beside entries book_entry_pass (Makes config) (Finds config) is_entry_of ended
          (first_length config.topology ended) end (are_under config ended whole fronts held) (are_distinct config ended whole fronts held)
          (are_not_first config ended begun whole fronts held) (λ h. refl) parts ran;
    };
    paired = each_as (InPlace config ended) (LineIsPaired ended)
        (λ seen later line place. is_paired config ended seen later line place) [] parts places;
    causes = each_as (InPlace config ended) (LineIsCaused config ended)
        (λ seen later line place. is_caused widen find rows config ended seen later line place) [] parts places;
    controls = each_as (InPlace config ended) (LineIsControlled config ended)
        (λ seen later line place. is_controlled config ended seen later line place) [] parts places;
    stands = each_as (InPlace config ended) (LineStands config ended)
        (λ seen later line place. stands config ended seen later line place) [] parts places;
  }
