-- Where lines outside of blocks stand: at one length of each history.
use Rattle.std.specs.Prelude.{◌≡◌, ℕ, false, List, [], ◌∷◌, ◌++◌, slice_get, Some}
use Rattle.std.specs.Bool.{⊤}
use Rattle.history_book.specs.Histories.{entries}
use Rattle.history_book.specs.declared.views.BookEntry.{BookEntry}
use Rattle.history_book.specs.declared.views.History.{History}
use Rattle.mon_config.specs.declared.config.Config.{Config}
use Rattle.mon_value.specs.declared.histories.Histories.{Histories}
use Rattle.run_theory.specs.Parts.{Alone, Beside, Part, all_lines}
use Rattle.run_traces.specs.Headline.{RunHolds}
use Rattle.run_traces.specs.LineSwitches.{high, is_entry_of, low}
use Rattle.run_traces.specs.RanLines.{RanLine}

-- A claim of each line outside of blocks, with those that its caller had seen and those whose callers had seen it
abbrev pub EachAlone : (List RanLine → List RanLine → RanLine → Type 0) → List RanLine → List (Part RanLine) → Type 0
EachAlone claim seen [] = ⊤
EachAlone claim seen (Alone line ∷ parts) =
    claim seen (all_lines parts) line × EachAlone claim (seen ++ line ∷ []) parts
EachAlone claim seen (Beside lines ∷ parts) = EachAlone claim (seen ++ lines) parts

-- no entry is the line's: it asked, or it was refused
abbrev pub MadeNothing : Histories → RanLine → Type 0
MadeNothing ended line = (history : History) (place : ℕ) (e : BookEntry)
    → slice_get (entries ended history) place ≡ Some e → is_entry_of line history place e ≡ false

-- the least and the greatest length of each history in the line's place are one, so what it found or was refused for
-- stands at just that length
abbrev pub LineIsExact : Config → Histories → List RanLine → List RanLine → RanLine → Type 0
LineIsExact config ended seen later line = MadeNothing ended line
    → (history : History) → low config.topology ended seen history ≡ high config.topology ended later history

-- in every run
abbrev pub PlacesAreExact : Type 0
PlacesAreExact = (config : Config) (ended : Histories) (parts : List (Part RanLine)) → RunHolds config ended parts
    → EachAlone (LineIsExact config ended) [] parts
