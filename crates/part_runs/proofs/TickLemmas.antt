-- Queries that were due run one behind the other, and a tick counts as these.
use Rattle.std.proofs.Common.{◌≡◌, ◌∙◌, ℕ, ℤ, List, [], ◌∷◌, ◌++◌, refl, sym, ap, subst, append_assoc, append-nil}
use Rattle.std.specs.List.{flat_map}
use Rattle.std.specs.Prelude.{Err, Ok, OnOk, Result}
use Rattle.std.proofs.lemmas.List.Concat.{flat_map-append}
use Rattle.history_book.specs.Seats.{HasEveryNumber}
use Rattle.know.specs.Knowledge.{Knowledge}
use Rattle.line_runs.specs.LineWrites.{ran_line}
use Rattle.line_runs.specs.declared.lines.LineRan.{LineRan}
use Rattle.mon_config.specs.declared.config.Config.{Config}
use Rattle.mon_script.specs.declared.forms.LineForm.TheVariants as form
use Rattle.mon_script.specs.declared.standing_lines.StandingLine.TheVariants as line
use Rattle.mon_value.specs.declared.histories.Histories.{Histories}
use Rattle.part_runs.proofs.GrownLemmas.{grown_none, grown_then}
use Rattle.part_runs.specs.PartsDone.{ActedAlone, PartTells}
use Rattle.part_runs.specs.Ticks.{DueAsked, DuesAsked, IsKept, TickRan, due_parts}
use Rattle.run_theory.specs.Parts.{Alone, Part}
use Rattle.run_traces.specs.LineAsks.{query_form}
use Rattle.run_traces.specs.LineClaims.{AllRan}
use Rattle.run_traces.specs.LineDues.{asked_part, due_line, end_trace}
use Rattle.run_traces.specs.LineTexts.{due_end_text, due_heading, due_text, line_text}
use Rattle.run_traces.specs.RanLines.{RanLine, no_files}
use Rattle.run_traces.specs.declared.traces.DueEnd.{DueEnd}
use Rattle.run_traces.specs.declared.traces.DueEnd.TheVariants as end
use Rattle.run_traces.specs.declared.traces.DueTrace.{DueTrace}
use Rattle.run_traces.specs.declared.traces.LineTrace.{LineTrace}
use Rattle.run_traces.specs.declared.line_files.LineFiles.{LineFiles}
use Rattle.standing.specs.declared.dues.Due.{Due}

-- ---- a query as a line

abbrev due_with : Due → DueEnd → DueTrace
due_with due came = record { due = due; end = came }

alone_by : (due : Due) (came : DueEnd)
    → asked_part (Alone (due_line (due_with due came))) ≡ Alone (due_line (due_with due came)) ∷ []
alone_by due (end.Answered trace) = refl
alone_by due (end.Refused fault) = refl

text_by_end : (config : Config) (later : Histories) (due : Due) (came : DueEnd)
    → line_text config later (due_line (due_with due came)) ≡ due_end_text config later due came
text_by_end config later due (end.Answered trace) = refl
text_by_end config later due (end.Refused fault) = refl

-- a query's line is that of its time and text, and of what it came to
pub as_due_line : (due : Due) (one : DueTrace) (trace : LineTrace) → one.due ≡ due → end_trace due.at one.end ≡ trace
    → ran_line (query_form due.at due.text) no_files trace [] ≡ due_line one
as_due_line due one trace same end_is =
    ap (λ (came : LineTrace). ran_line (query_form due.at due.text) no_files came []) (sym end_is)
    ∙ ap (λ (d : Due). ran_line (query_form d.at d.text) no_files (end_trace d.at one.end) []) (sym same)

-- ---- queries one behind the other

abbrev only_text : List ℕ → List (List ℕ)
only_text text = text ∷ []

first_text : (x y : List ℕ) → only_text x ≡ only_text y → x ≡ y
first_text x y same = cc

-- none was asked
pub none_asked : (config : Config) (know : Knowledge) → HasEveryNumber know.purse → DuesAsked config [] [] know know
none_asked config know every = record {
  grown = grown_none know.seen;
  ran = λ parts ran. subst (AllRan config know.seen) (sym (append-nil parts)) ran;
  prints = λ later grown. refl;
  every = every;
  stock = refl;
}

parts_more : (dues : List DueTrace) (one : DueTrace) → due_parts (dues ++ one ∷ []) ≡ due_parts dues ++ Alone
    (due_line one) ∷ []
parts_more [] one = refl
parts_more (due ∷ dues) one = ap (λ (parts : List (Part RanLine)). Alone (due_line due) ∷ parts) (parts_more dues one)

module _ {config : Config} {before mid after : Knowledge} (due : Due) (dues more : List DueTrace)
    (text printed : List ℕ) where
  -- one more was
  pub one_asked : DuesAsked config dues text before mid → DueAsked config due dues more text printed mid after
      → DuesAsked config more printed before after
  one_asked first next = record {
    grown = grown_then first.grown next.tells.grown;
    ran = λ parts ran.
        subst (λ (all : List DueTrace). AllRan config after.seen (parts ++ due_parts all)) (sym next.pushed)
        (subst (λ (all : List (Part RanLine)). AllRan config after.seen (parts ++ all))
        (sym (parts_more dues next.one))
        (subst (AllRan config after.seen) (append_assoc parts (due_parts dues) (Alone (due_line next.one) ∷ []))
        (subst (λ (last : List (Part RanLine)). AllRan config after.seen ((parts ++ due_parts dues) ++ last))
        (alone_by next.one.due next.one.end)
        (next.tells.ran (parts ++ due_parts dues) (first.ran parts ran)))));
    prints = λ later grown.
        ap (flat_map (due_text config later)) next.pushed
        ∙ flat_map-append (due_text config later) dues (next.one ∷ [])
        ∙ (λ i. first.prints later (grown_then next.tells.grown grown) i
        ++ append-nil (due_text config later next.one) i)
        ∙ ap (λ (d : Due). text ++ (due_heading d ++ due_end_text config later next.one.due next.one.end)) next.due_is
        ∙ ap (λ (told : List ℕ). text ++ (due_heading due ++ told))
        (sym (text_by_end config later next.one.due next.one.end)
        ∙ first_text _ next.told (next.tells.prints later grown))
        ∙ sym next.printed;
    every = next.tells.every;
    stock = next.stock ∙ first.stock;
  }

-- a query that was asked, and was kept behind others
kept_asked : {config : Config} {before after : Knowledge} (due : Due) (ran : LineRan) (old new : List DueTrace)
    (text more : List ℕ) → IsKept due ran old new → more ≡ text ++ (due_heading due ++ ran.text)
    → PartTells config (Alone (ran_line (query_form due.at due.text) no_files ran.trace [])) (ran.text ∷ []) before after
    → after.purse.stock ≡ before.purse.stock → DueAsked config due old new text more before after
kept_asked {config} {before} {after} due ran old new text more kept printed tells stock = record {
  one = kept.one;
  due_is = kept.due_is;
  pushed = kept.pushed;
  told = ran.text;
  printed = printed;
  tells = subst (λ (line : RanLine). PartTells config (Alone line) (ran.text ∷ []) before after)
      (as_due_line due kept.one ran.trace kept.due_is kept.end_is) tells;
  stock = stock;
}

pub kept_answers : {T E : Type 0} (config : Config) (before after : Knowledge) (due : Due) (ran : LineRan)
    (old new : List DueTrace) (text more : List ℕ) (result : Result T E) → OnOk result (IsKept due ran old new)
    → OnOk result (more ≡ text ++ (due_heading due ++ ran.text))
    → PartTells config (Alone (ran_line (query_form due.at due.text) no_files ran.trace [])) (ran.text ∷ []) before after
    → after.purse.stock ≡ before.purse.stock → OnOk result (DueAsked config due old new text more before after)
kept_answers config before after due ran old new text more (Ok value) kept printed tells stock =
    kept_asked due ran old new text more kept printed tells stock
kept_answers config before after due ran old new text more (Err fault) kept printed tells stock = tt

-- ---- ticks

pub tick_acted : {config : Config} (moment : ℤ) (content : LineFiles) (dues : List Due) (ran : LineRan)
    {before after : Knowledge} → TickRan config dues ran before after
    → ActedAlone config (form.Standing (line.Tick moment)) content ran before after
tick_acted {config} moment content dues ran {before} {after} tick = record {
  own = [];
  tells = subst (λ (trace : LineTrace). PartTells config
      (Alone (ran_line (form.Standing (line.Tick moment)) content trace [])) (ran.text ∷ []) before after)
      (sym tick.trace_is)
      (record {
        grown = tick.asked.grown;
        ran = tick.asked.ran;
        prints = λ later grown. ap (λ (text : List ℕ). text ∷ []) (tick.asked.prints later grown);
        every = tick.asked.every;
      });
}
