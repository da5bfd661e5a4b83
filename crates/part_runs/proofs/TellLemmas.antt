-- What a part wrote and found, it tells: it ran behind whatever ran before, and prints the same by whatever is seen later.
use Rattle.std.proofs.Common.{◌≡◌, ◌∙◌, ℕ, false, List, [], ◌∷◌, ◌++◌, length, map, refl, sym, subst, arith}
use Rattle.std.specs.List.{AllByRecursion}
use Rattle.history_book.specs.Histories.{book_entry_pass, entries}
use Rattle.history_book.specs.declared.views.History.{History}
use Rattle.know.specs.Knowledge.{Knowledge}
use Rattle.line_runs.specs.declared.lines.LineRan.{LineRan}
use Rattle.mon_config.specs.declared.config.Config.{Config}
use Rattle.mon_schema.specs.Names.{SchemaLists}
use Rattle.mon_script.specs.Blocks.{mark_of}
use Rattle.mon_script.specs.declared.forms.BlockMark.TheVariants as block
use Rattle.mon_script.specs.declared.forms.LineForm.{LineForm}
use Rattle.mon_script.specs.declared.forms.LineForm.TheVariants as form
use Rattle.mon_script.specs.declared.places.Mark.TheVariants as mark
use Rattle.mon_script.specs.declared.script.ScriptLine.{ScriptLine}
use Rattle.mon_value.specs.declared.histories.Histories.{Histories}
use Rattle.part_runs.specs.PartsDone.{PartDid, PartTells}
use Rattle.run_theory.specs.Parts.{IsWithin, Alone, Part, lines_of}
use Rattle.run_theory.specs.Writings.{EachWrote}
use Rattle.run_traces.specs.LineClaims.{AllRan, Finds, HasFound, HasWritten, HaveGrown, Makes}
use Rattle.run_traces.specs.LineDues.{IsDueBy, asked_by, asked_part, is_ticked, stands_behind}
use Rattle.run_traces.specs.LineTexts.{line_text}
use Rattle.run_traces.specs.RanLines.{OwnPlace, RanLine, ran_lines}
use Rattle.run_traces.specs.declared.traces.LineTrace.{LineTrace}
use Rattle.run_traces.specs.declared.traces.LineTrace.TheVariants as came
use Rattle.run_traces.specs.declared.line_files.LineFiles.{LineFiles}
use Rattle.standing.specs.DueLists.{StandingState}

-- ---- the laws of runs

-- a part more ran behind the others
abbrev pub GoOn : Type 0
GoOn = (config : Config) (before after : Histories) (parts : List (Part RanLine)) (part : Part RanLine)
    → AllRan config before parts → HasWritten config before after part → AllRan config after (parts ++ part ∷ [])

-- a line prints the same over histories that are seen later
abbrev pub Stay : Type 0
Stay = (config : Config) (seen more : Histories) (from to : History → ℕ) (number : ℕ) (line : RanLine)
    → HaveGrown seen more → IsWithin entries to seen → Finds config seen from to number line
    → line_text config more line ≡ line_text config seen line

module _ (config : Config) (before after : Histories) (stay : Stay) (later : Histories) (grown : HaveGrown after later)
  where
    each_later : (numbers : List ℕ) (lines : List RanLine)
        → EachWrote entries book_entry_pass (Makes config) (Finds config) HaveGrown before after numbers lines
        → map (line_text config later) lines ≡ map (line_text config after) lines
    each_later [] [] wrote = refl
    each_later [] (line ∷ lines) wrote = absurd wrote
    each_later (number ∷ numbers) [] wrote = absurd wrote
    each_later (number ∷ numbers) (line ∷ lines) wrote = λ i.
        stay config after later (λ h. length (entries before h)) (λ h. length (entries after h)) number line
        grown
        (λ h. omega arith) wrote.0.found i
        ∷ each_later numbers lines wrote.1 i

-- ---- ticks

module _ (config : Config) (seen : Histories) (from to : History → ℕ) (number : ℕ) (line : RanLine) where
  -- a line that found what it owes is no tick
  plain_by : (trace : LineTrace) → HasFound config seen from to number line trace
      → (is_ticked trace ≡ false)
      × (map (λ (one : RanLine). Alone one) (asked_by line trace) ≡ Alone line ∷ [])
  plain_by (came.Fed pass accepted refused) found = (refl, refl)
  plain_by (came.Poured pass ends) found = (refl, refl)
  plain_by (came.Asked moment trace) found = (refl, refl)
  plain_by (came.Followed moment trace) found = (refl, refl)
  plain_by (came.Ticked dues) found = absurd found
  plain_by (came.Controlled done) found = (refl, refl)
  plain_by (came.Refused fault) found = (refl, refl)
  plain_by came.Done found = (refl, refl)

module _ (config : Config) (before after : Histories) where
  each_plain : (numbers : List ℕ) (lines : List RanLine)
      → EachWrote entries book_entry_pass (Makes config) (Finds config) HaveGrown before after numbers lines
      → AllByRecursion (λ (line : RanLine). is_ticked line.trace ≡ false) lines
  each_plain [] [] wrote = tt
  each_plain [] (line ∷ lines) wrote = absurd wrote
  each_plain (number ∷ numbers) [] wrote = absurd wrote
  each_plain (number ∷ numbers) (line ∷ lines) wrote = (
    (plain_by config after (λ h. length (entries before h)) (λ h. length (entries after h)) number line line.trace
        wrote.0.found.found).0,
    each_plain numbers lines wrote.1,
  )

  -- no line of a part that wrote is a tick
  pub part_plain : (part : Part RanLine) → HasWritten config before after part
      → AllByRecursion (λ (line : RanLine). is_ticked line.trace ≡ false) (lines_of part)
  part_plain part wrote = each_plain wrote.numbers (lines_of part) wrote.each

  one_plain : (line : RanLine) (numbers : List ℕ)
      → EachWrote entries book_entry_pass (Makes config) (Finds config) HaveGrown before after numbers (line ∷ [])
      → asked_part (Alone line) ≡ Alone line ∷ []
  one_plain line [] wrote = absurd wrote
  one_plain line (number ∷ numbers) wrote =
      (plain_by config after (λ h. length (entries before h)) (λ h. length (entries after h)) number line line.trace
      wrote.0.found.found).1

  -- so a line alone counts as itself
  pub alone_plain : (line : RanLine) → HasWritten config before after (Alone line)
      → asked_part (Alone line) ≡ Alone line ∷ []
  alone_plain line wrote = one_plain line wrote.numbers wrote.each

-- nor is any of those that ran beside each other
pub beside_plain : (lines : List ScriptLine) (contents : List LineFiles) (rans : List LineRan)
    (places : List (List OwnPlace)) → length contents ≡ length lines → length rans ≡ length lines
    → AllByRecursion (λ (line : RanLine). is_ticked line.trace ≡ false)
    (ran_lines lines contents (map (λ (ran : LineRan). ran.trace) rans) places)
    → AllByRecursion (λ (ran : LineRan). is_ticked ran.trace ≡ false) rans
beside_plain [] contents [] places few many plain = tt
beside_plain [] contents (ran ∷ rans) places few many plain = absurd cc
beside_plain (line ∷ lines) [] rans places few many plain = absurd cc
beside_plain (line ∷ lines) (content ∷ contents) [] places few many plain = tt
beside_plain (line ∷ lines) (content ∷ contents) (ran ∷ rans) [] few many plain =
    (plain.0, beside_plain lines contents rans [] (omega (arith, few)) (omega (arith, many)) plain.1)
beside_plain (line ∷ lines) (content ∷ contents) (ran ∷ rans) (own ∷ places) few many plain =
    (plain.0, beside_plain lines contents rans places (omega (arith, few)) (omega (arith, many)) plain.1)

-- ---- parts

pub part_tells : {config : Config} {part : Part RanLine} {texts : List (List ℕ)} {know known : Knowledge} → GoOn → Stay
    → asked_part part ≡ part ∷ [] → PartDid config part texts know known → PartTells config part texts know known
part_tells {config} {part} {texts} {know} {known} go_on stay plain did = record {
  grown = did.written.goes;
  ran = λ parts ran.
      subst (λ (more : List (Part RanLine)). AllRan config known.seen (parts ++ more)) (sym plain)
      (go_on config know.seen known.seen parts part ran did.written);
  prints = λ later grown.
      each_later config know.seen known.seen stay later grown did.written.numbers (lines_of part) did.written.each
      ∙ sym did.prints;
  every = did.every;
}

pub alone_tells : {config : Config} {line : RanLine} {texts : List (List ℕ)} {know known : Knowledge} → GoOn → Stay
    → PartDid config (Alone line) texts know known → PartTells config (Alone line) texts know known
alone_tells {config} {line} {texts} {know} {known} go_on stay did =
    part_tells go_on stay (alone_plain config know.seen known.seen line did.written) did

-- ---- lines that know of no queries that stand

-- a line that may stand in a block has to do with none
pub acting_due : (schemas : SchemaLists) (state : StandingState) (what : LineForm) (trace : LineTrace)
    → mark_of what ≡ mark.Acts → is_ticked trace ≡ false
    → IsDueBy schemas state what trace × (state ≡ stands_behind state what trace)
acting_due schemas state (form.Feed name) trace acts plain = (plain, refl)
acting_due schemas state (form.Pour first second) trace acts plain = (plain, refl)
acting_due schemas state (form.Ask asked) trace acts plain = (plain, refl)
acting_due schemas state (form.Follow moments text) trace acts plain = absurd cc
acting_due schemas state (form.Control control) trace acts plain = (plain, refl)
acting_due schemas state (form.Standing line) trace acts plain = absurd cc
acting_due schemas state (form.Block block.Together) trace acts plain = absurd cc
acting_due schemas state (form.Block block.End) trace acts plain = absurd cc
