-- What a line owes that touches nothing, and one that asks.
use Rattle.std.proofs.Common.{◌≡◌, ℕ, [], length, refl, sym, subst, arith, append-nil}
use Rattle.std.specs.List.{AllByRecursion}
use Rattle.know.specs.Knowledge.{Knowledge}
use Rattle.line_runs.specs.LineWrites.{KeepsItsPlace, LineWrote, ran_line}
use Rattle.mon_config.specs.declared.config.Config.{Config}
use Rattle.mon_store.specs.Writes.{own_entries}
use Rattle.mon_topo.proofs.FrontLemmas.{begins_itself}
use Rattle.mon_value.specs.Histories.{leaf_history, range_history}
use Rattle.mon_value.specs.declared.positions.Leaf.{Leaf}
use Rattle.run_traces.specs.LineCauses.{HasCause}
use Rattle.run_traces.specs.LineClaims.{marked}
use Rattle.run_traces.specs.LineForms.{Suits}
use Rattle.run_traces.specs.LineTables.{refusal_cuts}
use Rattle.run_traces.specs.LineTexts.{done_text, refused_line}
use Rattle.run_traces.specs.declared.traces.LineFault.{LineFault}
use Rattle.run_traces.specs.declared.traces.LineTrace.TheVariants as came
use Rattle.run_traces.specs.declared.line_files.LineFiles.{LineFiles}
use Rattle.mon_script.specs.declared.forms.LineForm.{LineForm}
use Rattle.history_book.specs.Histories.{entries}
use Rattle.history_book.specs.declared.views.History.{History}
use Rattle.history_book.specs.declared.views.History.TheVariants as of
use Rattle.query_traces.specs.Traces.{IsBetween}

still_kept : (know : Knowledge) → KeepsItsPlace know know
still_kept know = record {
  grown = record {
    within = record {
      leaves = λ leaf. begins_itself (leaf_history know.seen leaf);
      ranges = λ range. begins_itself (range_history know.seen range);
    };
    leaves = refl;
    ranges = refl;
  };
  number = refl;
  met = refl;
  stock = refl;
  lost = λ n. refl;
}

-- how much of each history a caller has seen
abbrev pub reached : Knowledge → History → ℕ
reached know history = length (entries know.seen history)

-- a line that does nothing
pub done_wrote : (config : Config) (what : LineForm) (content : LineFiles) (know : Knowledge)
    → Suits what came.Done → LineWrote config (ran_line what content came.Done []) (done_text what) know know
done_wrote config what content know suits = record {
  keeps = still_kept know;
  made = λ history. [];
  makes = λ history. refl;
  own = λ history. sym (append-nil (own_entries know.purse.own history));
  found = record {
    forth = λ history. omega arith;
    suits = suits;
    told = tt;
    cuts = λ leaf there. tt;
    found = tt;
  };
  prints = refl;
}

-- a line that is refused for a cause that is no leaf's
pub still_refused : (config : Config) (what : LineForm) (content : LineFiles) (know : Knowledge) (fault : LineFault)
    → Suits what (came.Refused fault) → ((leaf : Leaf) → refusal_cuts leaf what fault ≡ [])
    → HasCause config know.seen (marked (reached know)) (marked (reached know)) what fault
    → LineWrote config (ran_line what content (came.Refused fault) []) (refused_line config.topology fault) know know
still_refused config what content know fault suits none cause = record {
  keeps = still_kept know;
  made = λ history. [];
  makes = λ history. refl;
  own = λ history. sym (append-nil (own_entries know.purse.own history));
  found = record {
    forth = λ history. omega arith;
    suits = suits;
    told = tt;
    cuts = λ leaf there. subst (AllByRecursion (IsBetween (reached know (of.Leaf leaf)) (reached know (of.Leaf leaf))))
        (sym (none leaf)) tt;
    found = cause;
  };
  prints = refl;
}
