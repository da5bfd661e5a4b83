-- What a line that wrote nothing owes: a question, and any line that was refused. It found what it tells between what its
-- caller had seen before it and has seen behind it.
use Rattle.std.proofs.Common.{◌≡◌, ◌∙◌, ◌++◌, ℕ, ℤ, List, [], Ok, Err, refl, sym, ap, subst}
use Rattle.std.proofs.Common.{arith, append-nil}
use Rattle.std.specs.Prelude.{Result, option_map}
use Rattle.std.specs.List.{AllByRecursion}
use Rattle.history_book.specs.Histories.{AreFronts}
use Rattle.history_book.specs.Seats.{times_lost}
use Rattle.history_book.specs.declared.views.History.{History}
use Rattle.history_book.specs.declared.views.History.TheVariants as of
use Rattle.history_book.specs.declared.views.Kept.{Kept}
use Rattle.know.specs.Knowledge.{Knowledge}
use Rattle.line_runs.proofs.Causes.{HasItsCause, LiesBetween, founds_between}
use Rattle.line_runs.proofs.Growing.{forth, marks, seen_of}
use Rattle.line_runs.specs.LineWrites.{KeepsItsPlace, LineWrote, ran_line}
use Rattle.line_runs.specs.Questions.{asked_line, question}
use Rattle.mon_script.specs.declared.questions.How.{How}
use Rattle.mon_script.specs.declared.questions.How.TheVariants as asked
use Rattle.mon_config.specs.declared.config.Config.{Config}
use Rattle.mon_store.specs.Writes.{own_entries}
use Rattle.mon_table.specs.Tables.{table_text}
use Rattle.mon_topo.proofs.RangeHistoryLemmas.{all_on}
use Rattle.mon_value.specs.Tables.{column_names}
use Rattle.mon_value.specs.declared.histories.Histories.{Histories}
use Rattle.mon_value.specs.declared.positions.Leaf.{Leaf}
use Rattle.mon_value.specs.declared.rows.Row.{Row}
use Rattle.typed_trees.specs.Meaning.{meaning}
use Rattle.typed_trees.specs.Nodes.{TypedTree, columns_of}
use Rattle.query_traces.specs.Founds.{IsFoundBetween}
use Rattle.query_traces.specs.Traces.{IsBetween, Lengths, lengths_of, source_of}
use Rattle.query_traces.specs.declared.answers.Trace.{Trace}
use Rattle.query_texts.specs.TextTypes.{text_type}
use Rattle.query_texts.specs.declared.faults.TextFault.{TextFault}
use Rattle.run_traces.proofs.RunFacts.{book_length}
use Rattle.run_traces.specs.LineCauses.{HasCause}
use Rattle.run_traces.specs.LineClaims.{Finds, HaveGrown, LookFound, marked}
use Rattle.run_traces.specs.LineForms.{Suits}
use Rattle.run_traces.specs.LineSwitches.{found_cuts}
use Rattle.run_traces.specs.LineTables.{refusal_cuts}
use Rattle.mon_script.specs.declared.forms.LineForm.{LineForm}
use Rattle.owners.specs.Puts.{pass_of}
use Rattle.run_traces.specs.LineTexts.{asked_text, explanation, line_text}
use Rattle.run_traces.specs.RanLines.{RanLine}
use Rattle.run_traces.specs.declared.traces.LineFault.{LineFault}
use Rattle.run_traces.specs.declared.traces.LineTrace.{LineTrace}
use Rattle.run_traces.specs.declared.traces.LineTrace.TheVariants as came
use Rattle.run_traces.specs.declared.line_files.LineFiles.{LineFiles}

-- ---- a caller that owns what it owned

-- nothing that it owns has changed
pub record OwnsAsMuch (before after : Knowledge) : Type 0 where
  pub grown : HaveGrown before.seen after.seen
  pub fronts : AreFronts before.seen after.seen
  pub own : after.purse.own ≡ before.purse.own
  pub met : after.purse.met ≡ before.purse.met
  pub stock : after.purse.stock ≡ before.purse.stock
  pub lost : (n : ℕ) → times_lost n after.purse ≡ times_lost n before.purse

-- ---- what is printed of a question

-- where two histories have the same rows of a trace, an answer prints the same
module _ (config : Config) (seen more : Histories) (moment : ℤ) (trace : Trace)
    (same : source_of more trace ≡ source_of seen trace) where
  abbrev pub table_over : TypedTree → List Row → List ℕ
  table_over typed rows = table_text (column_names (columns_of typed.tree)) (meaning typed rows moment)

  answer_alike : (answer : Result TypedTree TextFault) (what : How) (text : List ℕ)
      → asked_text config more (question what moment text) moment trace answer
      ≡ asked_text config seen (question what moment text) moment trace answer
  answer_alike (Err fault) what text = refl
  answer_alike (Ok typed) asked.Query text = ap (table_over typed) same
  answer_alike (Ok typed) asked.Check text = ap (table_over typed) same
  answer_alike (Ok typed) asked.Explain text =
      ap (λ rows. table_over typed rows ++ explanation config.topology typed trace) same

  pub prints_alike : (what : How) (text : List ℕ)
      → line_text config more (asked_line what moment text (came.Asked moment trace))
      ≡ line_text config seen (asked_line what moment text (came.Asked moment trace))
  prints_alike what text =
      answer_alike (text_type config.schemas text) what text

-- ---- what a line owes that wrote nothing

module _ (config : Config) (form : LineForm) (content : LineFiles) (before after : Knowledge)
    (owns : OwnsAsMuch before after) where
  abbrev pub from : History → ℕ
  from = seen_of before.seen

  abbrev pub to : History → ℕ
  to = seen_of after.seen

  pub keeps : KeepsItsPlace before after
  keeps = record {
    grown = owns.grown;
    number = ap (option_map (λ (kept : Kept). kept.number)) owns.own;
    met = owns.met;
    stock = owns.stock;
    lost = owns.lost;
  }

  pub nothing_more : (history : History)
      → own_entries after.purse.own history ≡ own_entries before.purse.own history ++ []
  nothing_more history =
      ap (λ own. own_entries own history) owns.own ∙ sym (append-nil (own_entries before.purse.own history))

  pub between : (leaf : Leaf) (cuts : List ℕ) → AllByRecursion (LiesBetween before.seen after.seen leaf) cuts
      → AllByRecursion (IsBetween (from (of.Leaf leaf)) (to (of.Leaf leaf))) cuts
  between leaf =
      all_on (LiesBetween before.seen after.seen leaf) (IsBetween (from (of.Leaf leaf)) (to (of.Leaf leaf)))
      (λ cut lies. record {
        from = let was = book_length before.seen leaf in let low = lies.from in omega arith;
        to = let is = book_length after.seen leaf in let high = lies.to in omega arith;
      })

  at_marks : (P : Lengths → Lengths → Type 0) → P (lengths_of before.seen) (lengths_of after.seen)
      → P (marked from) (marked to)
  at_marks P is =
      subst (λ (low : Lengths). P low (marked to)) (sym (marks before.seen))
      (subst (P (lengths_of before.seen)) (sym (marks after.seen)) is)

  -- it was refused for a fault with its cause
  refused_finds : (told : LineFault) → Suits form (came.Refused told) → HasItsCause config form before after told
      → Finds config after.seen from to (pass_of before) (ran_line form content (came.Refused told) [])
  refused_finds told suits found = record {
    forth = forth before.seen after.seen owns.fronts;
    suits = suits;
    told = tt;
    cuts = λ leaf there. between leaf (refusal_cuts leaf form told) (found.cuts leaf there);
    found = at_marks (λ low high. HasCause config after.seen low high form told) found.cause;
  }

  pub refused_wrote : (told : LineFault) → Suits form (came.Refused told) → HasItsCause config form before after told
      → LineWrote config (ran_line form content (came.Refused told) [])
      (line_text config after.seen (ran_line form content (came.Refused told) [])) before after
  refused_wrote told suits found = record {
    keeps = keeps;
    made = λ history. [];
    makes = λ history. refl;
    own = nothing_more;
    found = refused_finds told suits found;
    prints = refl;
  }

-- ---- what a question owes that was answered

module _ (config : Config) (what : How) (moment : ℤ) (text : List ℕ) (content : LineFiles) (before after : Knowledge)
    (owns : OwnsAsMuch before after) where
  abbrev pub the_line : LineTrace → RanLine
  the_line trace = ran_line (question what moment text) content trace []

  abbrev since : History → ℕ
  since = seen_of before.seen

  abbrev until : History → ℕ
  until = seen_of after.seen

  -- it was answered by what was seen between
  asked_finds : (trace : Trace) → LookFound config after.seen since until text moment trace
      → Finds config after.seen since until (pass_of before) (the_line (came.Asked moment trace))
  asked_finds trace look = record {
    forth = forth before.seen after.seen owns.fronts;
    suits = refl;
    told = tt;
    cuts = λ leaf there. (
      record { from = look.fresh.cuts leaf there; to = look.of.within leaf there },
      between config (question what moment text) content before after owns leaf (found_cuts leaf trace.down)
          (founds_between before.seen after.seen leaf trace.down
          (subst (λ (low : Lengths). AllByRecursion (IsFoundBetween low (lengths_of after.seen) after.seen) trace.down)
          (marks before.seen)
          (subst (λ (high : Lengths). AllByRecursion (IsFoundBetween (marked since) high after.seen) trace.down)
          (marks after.seen) look.down))),
    );
    found = look;
  }

  pub asked_wrote : (trace : Trace) → LookFound config after.seen since until text moment trace
      → LineWrote config (the_line (came.Asked moment trace))
      (line_text config after.seen (the_line (came.Asked moment trace))) before after
  asked_wrote trace look = record {
    keeps = keeps config (question what moment text) content before after owns;
    made = λ history. [];
    makes = λ history. refl;
    own = nothing_more config (question what moment text) content before after owns;
    found = asked_finds trace look;
    prints = refl;
  }
