-- Leaves that were switched, replicas that were opened or retired and ranges that were trimmed, in the places of their lines.
use Rattle.std.proofs.Common.{◌≤◌, List, [], append-nil}
use mathlib.Core.List.{IsPrefix}
use Rattle.history_book.specs.declared.views.History.{History}
use Rattle.mon_config.specs.declared.config.Config.{Config}
use Rattle.mon_value.specs.Histories.{leaf_history, range_history}
use Rattle.mon_value.specs.declared.histories.Histories.{Histories}
use Rattle.mon_value.specs.declared.positions.Leaf.{Leaf}
use Rattle.mon_value.specs.declared.positions.Range.{Range}
use Rattle.run_traces.specs.LineClaims.{HasFound, HasMade}
use Rattle.run_traces.specs.LineSwitches.{IsControlled, LineIsControlled, high, low}
use Rattle.run_traces.specs.RanLines.{RanLine}
use Rattle.run_traces.specs.declared.traces.LineTrace.{LineTrace}
use Rattle.run_traces.specs.declared.traces.LineTrace.TheVariants as came
use Rattle.run_traces.proofs.RunFacts.{InPlace, low_below}
use Rattle.run_traces.proofs.Controls.{done_once, done_stands, done_wider}

module _ (config : Config) (ended : Histories) (seen later : List RanLine) (line : RanLine)
    (place : InPlace config ended seen later line) where
  leaf_itself : (leaf : Leaf) → IsPrefix (leaf_history ended leaf) (leaf_history ended leaf)
  leaf_itself leaf = ([], append-nil (leaf_history ended leaf))

  range_itself : (range : Range) → IsPrefix (range_history ended range) (range_history ended range)
  range_itself range = ([], append-nil (range_history ended range))

  sooner : (h : History) → low config.topology ended seen h ≤ place.from h
  sooner h = low_below config ended seen later line place h

  behind : (h : History) → place.to h ≤ high config.topology ended later h
  behind h = place.to_high h

  controlled_by : (trace : LineTrace) → HasMade config place.number line.what trace place.ran.made
      → HasFound config ended place.from place.to place.number line trace
      → IsControlled config ended seen later line.what line.own trace
  controlled_by (came.Fed pass rows refused) makes found = tt
  controlled_by (came.Poured pass ends) makes found = tt
  controlled_by (came.Asked moment trace) makes found = tt
  controlled_by (came.Followed moment trace) makes found = tt
  controlled_by (came.Controlled done) makes found = (
    place.number,
    done_wider ended ended place.from place.to (low config.topology ended seen) (high config.topology ended later)
        sooner behind leaf_itself range_itself place.number line.what line.own done
        (done_stands config ended place.from place.to place.number line.what line.own done found),
    done_once config ended place.from place.to place.number line.what line.own done place.ran.made makes found
        place.ran.exact place.within,
  )
  controlled_by (came.Refused fault) makes found = tt
  controlled_by (came.Ticked dues) makes found = tt
  controlled_by came.Done makes found = tt

  pub is_controlled : LineIsControlled config ended seen later line
  is_controlled = controlled_by line.trace place.ran.makes place.ran.found.0.found
