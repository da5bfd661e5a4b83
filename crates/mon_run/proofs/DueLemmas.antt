-- What lines do with the queries that stand, part behind part.
use Rattle.std.proofs.Common.{◌≡◌, ◌∙◌, ◌⊎◌, inl, inr, ℕ, suc, false, None, List, [], ◌∷◌, ◌++◌, length, map, Ok, Err, refl, sym, ap, subst}
use Rattle.std.proofs.Common.{append_assoc, append-nil, arith}
use Rattle.std.specs.List.{AllByRecursion}
use Rattle.std.specs.Prelude.{OnErr, OnOk, Result}
use Rattle.std.proofs.lemmas.List.{length-map}
use Rattle.line_runs.specs.declared.lines.LineRan.{LineRan}
use Rattle.mon_schema.specs.Names.{SchemaLists}
use Rattle.mon_script.specs.Blocks.{mark_of}
use Rattle.mon_script.specs.declared.forms.BlockMark.TheVariants as block
use Rattle.mon_script.specs.declared.forms.LineForm.{LineForm}
use Rattle.mon_script.specs.declared.forms.LineForm.TheVariants as form
use Rattle.mon_script.specs.declared.places.Mark.TheVariants as mark
use Rattle.mon_script.specs.declared.script.ScriptLine.{ScriptLine}
use Rattle.mon_run.specs.within.Dues.{AloneDue, BlockDue, DueSoFar, DueTo, stands_after}
use Rattle.mon_run.specs.within.Lines.{block_traces}
use Rattle.mon_run.proofs.BlockLemmas.{Acts, IsBlock}
use Rattle.mon_run.proofs.ScriptLemmas.{block_count, block_lines, block_whole}
use Rattle.part_runs.proofs.TellLemmas.{acting_due}
use Rattle.run_traces.specs.LineDues.{AreDue, IsDueBy, is_ticked, stands_behind}
use Rattle.run_traces.specs.declared.traces.LineTrace.{LineTrace}
use Rattle.run_traces.specs.declared.traces.LineTrace.TheVariants as came
use Rattle.standing.specs.DueLists.{StandingState, standing_state}

abbrev Traces : Type 0
Traces = List LineTrace

abbrev Lines : Type 0
Lines = List ScriptLine

module _ (schemas : SchemaLists) where
  -- ---- lines behind lines

  due_both : (state : StandingState) (lines more : Lines) (traces others : Traces) → length traces ≡ length lines
      → AreDue schemas state lines traces → AreDue schemas (stands_after state lines traces) more others
      → AreDue schemas state (lines ++ more) (traces ++ others)
  due_both state [] more [] others same first second = second
  due_both state [] more (trace ∷ traces) others same first second = absurd cc
  due_both state (line ∷ lines) more [] others same first second = absurd cc
  due_both state (line ∷ lines) more (trace ∷ traces) others same first second = (
    first.0,
    due_both (stands_behind state line.what trace) lines more traces others (omega (arith, same)) first.1 second,
  )

  stands_both : (state : StandingState) (lines more : Lines) (traces others : Traces) → length traces ≡ length lines
      → stands_after state (lines ++ more) (traces ++ others)
      ≡ stands_after (stands_after state lines traces) more others
  stands_both state [] more [] others same = refl
  stands_both state [] more (trace ∷ traces) others same = absurd cc
  stands_both state (line ∷ lines) more [] others same = absurd cc
  stands_both state (line ∷ lines) more (trace ∷ traces) others same =
      stands_both (stands_behind state line.what trace) lines more traces others (omega (arith, same))

  -- lines that are left came to nothing
  none_due : (state : StandingState) (lines : Lines) → AreDue schemas state lines []
  none_due state [] = tt
  none_due state (line ∷ lines) = tt

  some_due : (state : StandingState) (lines more : Lines) (traces : Traces) → length traces ≡ length lines
      → AreDue schemas state lines traces → AreDue schemas state (lines ++ more) traces
  some_due state lines more traces same due =
      subst (AreDue schemas state (lines ++ more)) (append-nil traces)
      (due_both state lines more traces [] same due (none_due (stands_after state lines traces) more))

  pub due_further : {lines left rest : Lines} {state mid stands : StandingState} {before now after : Traces}
      → DueTo schemas lines left state mid before now → DueTo schemas left rest mid stands now after
      → DueTo schemas lines rest state stands before after
  due_further {lines} {left} {rest} {state} {mid} {stands} {before} {now} {after} one other =
      let there : AreDue schemas (stands_after state one.part one.traces) other.part other.traces =
      subst (λ (s : StandingState). AreDue schemas s other.part other.traces) one.stood other.due in
      record {
        part = one.part ++ other.part;
        split = one.split ∙ ap (λ (xs : Lines). one.part ++ xs) other.split
            ∙ sym (append_assoc one.part other.part rest);
        traces = one.traces ++ other.traces;
        ends = other.ends ∙ ap (λ (front : Traces). front ++ other.traces) one.ends
            ∙ append_assoc before one.traces other.traces;
        count = both_count one.part other.part one.traces other.traces one.count other.count;
        due = due_both state one.part other.part one.traces other.traces one.count one.due there;
        stood = other.stood ∙ ap (λ (s : StandingState). stands_after s other.part other.traces) one.stood
            ∙ sym (stands_both state one.part other.part one.traces other.traces one.count);
      }
    where
      both_count : (xs ys : Lines) (ts us : Traces) → length ts ≡ length xs → length us ≡ length ys
          → length (ts ++ us) ≡ length (xs ++ ys)
      both_count [] ys [] us first second = second
      both_count [] ys (t ∷ ts) us first second = absurd cc
      both_count (x ∷ xs) ys [] us first second = absurd cc
      both_count (x ∷ xs) ys (t ∷ ts) us first second =
          ap (λ (n : ℕ). suc n) (both_count xs ys ts us (omega (arith, first)) second)

  pub due_stopped : {lines left : Lines} {state mid : StandingState} {before now after : Traces}
      → DueTo schemas lines left state mid before now → DueSoFar schemas left mid now after
      → DueSoFar schemas lines state before after
  due_stopped {lines} {left} {state} {mid} {before} one other =
      let there : AreDue schemas (stands_after state one.part one.traces) left other.traces =
      subst (λ (s : StandingState). AreDue schemas s left other.traces) one.stood other.due in
      record {
        traces = one.traces ++ other.traces;
        ends = other.ends ∙ ap (λ (front : Traces). front ++ other.traces) one.ends
            ∙ append_assoc before one.traces other.traces;
        due = subst (λ (all : Lines). AreDue schemas state all (one.traces ++ other.traces)) (sym one.split)
            (due_both state one.part left one.traces other.traces one.count one.due there);
      }

  pub due_whole : {lines left : Lines} {state stands : StandingState} {before after : Traces} → left ≡ []
      → DueTo schemas lines left state stands before after → DueSoFar schemas lines state before after
  due_whole {lines} {left} {state} none due = record {
    traces = due.traces;
    ends = due.ends;
    due = subst (λ (all : Lines). AreDue schemas state all due.traces)
        (sym (due.split ∙ ap (λ (xs : Lines). due.part ++ xs) none ∙ append-nil due.part)) due.due;
  }

  -- ---- a line alone

  pub alone_due : {line : ScriptLine} {behind : Lines} {state stands : StandingState} {before after : Traces}
      (left : Lines) → behind ≡ left → AloneDue schemas line.what state stands before after
      → DueTo schemas (line ∷ behind) left state stands before after
  alone_due {line} left rest due = record {
    part = line ∷ [];
    split = ap (λ (more : Lines). line ∷ more) rest;
    traces = due.trace ∷ [];
    ends = due.ends;
    count = refl;
    due = (due.due, tt);
    stood = due.stood;
  }

  pub alone_due_stopped : {line : ScriptLine} {behind : Lines} {state stands : StandingState} {before after : Traces}
      → (after ≡ before) ⊎ AloneDue schemas line.what state stands before after
      → DueSoFar schemas (line ∷ behind) state before after
  alone_due_stopped {line} {behind} {state} {stands} {before} (inl same) = record {
    traces = [];
    ends = same ∙ sym (append-nil before);
    due = tt;
  }
  alone_due_stopped {line} {behind} {state} (inr due) = record {
    traces = due.trace ∷ [];
    ends = due.ends;
    due = (due.due, none_due (stands_behind state line.what due.trace) behind);
  }

  -- ---- blocks

  -- a line that begins a block or ends it has to do with no query that stands
  opens_due : (state : StandingState) (what : LineForm) → mark_of what ≡ mark.Opens
      → IsDueBy schemas state what came.Done × (stands_behind state what came.Done ≡ state)
  opens_due state (form.Feed name) is = absurd cc
  opens_due state (form.Pour first second) is = absurd cc
  opens_due state (form.Ask asked) is = absurd cc
  opens_due state (form.Follow moments text) is = absurd cc
  opens_due state (form.Control control) is = absurd cc
  opens_due state (form.Standing line) is = absurd cc
  opens_due state (form.Block block.Together) is = (refl, refl)
  opens_due state (form.Block block.End) is = absurd cc

  closes_due : (state : StandingState) (what : LineForm) → mark_of what ≡ mark.Closes
      → IsDueBy schemas state what came.Done × (stands_behind state what came.Done ≡ state)
  closes_due state (form.Feed name) is = absurd cc
  closes_due state (form.Pour first second) is = absurd cc
  closes_due state (form.Ask asked) is = absurd cc
  closes_due state (form.Follow moments text) is = absurd cc
  closes_due state (form.Control control) is = absurd cc
  closes_due state (form.Standing line) is = absurd cc
  closes_due state (form.Block block.Together) is = absurd cc
  closes_due state (form.Block block.End) is = (refl, refl)

  -- lines that came to traces as they should, and left all that stands as it was
  abbrev StillDue : StandingState → Lines → Traces → Type 0
  StillDue state lines traces = AreDue schemas state lines traces × (stands_after state lines traces ≡ state)

  ended_due : (state : StandingState) (end : ScriptLine) → mark_of end.what ≡ mark.Closes
      → StillDue state (end ∷ []) (came.Done ∷ [])
  ended_due state end closes = let both = closes_due state end.what closes in ((both.0, tt), both.1)

  within_due : (state : StandingState) (lines : Lines) (end : ScriptLine) (traces : Traces)
      → length traces ≡ length lines → AllByRecursion Acts lines
      → AllByRecursion (λ trace. is_ticked trace ≡ false) traces → mark_of end.what ≡ mark.Closes
      → StillDue state (lines ++ end ∷ []) (traces ++ came.Done ∷ [])
  within_due state [] end [] same acts plain closes = ended_due state end closes
  within_due state [] end (trace ∷ traces) same acts plain closes = absurd cc
  within_due state (line ∷ lines) end [] same acts plain closes = absurd cc
  within_due state (line ∷ lines) end (trace ∷ traces) same acts plain closes =
      let one = acting_due schemas state line.what trace acts.0 plain.0 in
      let rest = within_due state lines end traces (omega (arith, same)) acts.1 plain.1 closes in (
        (
          one.0,
          subst (λ (s : StandingState). AreDue schemas s (lines ++ end ∷ []) (traces ++ came.Done ∷ [])) one.1
              rest.0,
        ),
        ap (λ (s : StandingState). stands_after s (lines ++ end ∷ []) (traces ++ came.Done ∷ [])) (sym one.1)
            ∙ rest.1,
      )

  whole_due : (state : StandingState) (line end : ScriptLine) (lines : Lines) (traces : Traces)
      → length traces ≡ length lines → mark_of line.what ≡ mark.Opens → AllByRecursion Acts lines
      → AllByRecursion (λ trace. is_ticked trace ≡ false) traces → mark_of end.what ≡ mark.Closes
      → StillDue state (block_lines line end lines) (block_traces traces)
  whole_due state line end lines traces same opens acts plain closes =
      let one = opens_due state line.what opens in
      let rest = within_due state lines end traces same acts plain closes in (
        (
          one.0,
          subst (λ (s : StandingState). AreDue schemas s (lines ++ end ∷ []) (traces ++ came.Done ∷ []))
              (sym one.1) rest.0,
        ),
        ap (λ (s : StandingState). stands_after s (lines ++ end ∷ []) (traces ++ came.Done ∷ [])) one.1 ∙ rest.1,
      )

  pub block_due : {line : ScriptLine} {behind : Lines} {before after : Traces} (state : StandingState)
      (lines left : Lines) → IsBlock line behind lines left → BlockDue lines before after
      → DueTo schemas (line ∷ behind) left state state before after
  block_due {line} {behind} state lines left is due =
      let whole = whole_due state line is.ends.end lines due.traces due.count is.opens is.ends.acts due.plain
      is.ends.closes in
      record {
        part = block_lines line is.ends.end lines;
        split = block_whole line behind lines left is;
        traces = block_traces due.traces;
        ends = due.ends;
        count = block_count line is.ends.end due.traces lines due.count;
        due = whole.0;
        stood = sym whole.1;
      }

  pub block_due_stopped : {line : ScriptLine} {behind : Lines} {before after : Traces} (state : StandingState)
      (lines left : Lines) → IsBlock line behind lines left → (after ≡ before) ⊎ BlockDue lines before after
      → DueSoFar schemas (line ∷ behind) state before after
  block_due_stopped {line} {behind} {before} state lines left is (inl same) = record {
    traces = [];
    ends = same ∙ sym (append-nil before);
    due = tt;
  }
  block_due_stopped {line} {behind} state lines left is (inr due) =
      let all = block_due state lines left is due in
      record {
        traces = all.traces;
        ends = all.ends;
        due = subst (λ (xs : Lines). AreDue schemas state xs all.traces) (sym all.split)
            (some_due state all.part left all.traces all.count all.due);
      }

-- ---- what was noted

-- whatever a call answers
pub on_ok_of : {P T E : Type 0} (result : Result T E) → P → OnOk result P
on_ok_of (Ok value) is = is
on_ok_of (Err fault) is = tt

pub on_err_of : {P T E : Type 0} (result : Result T E) → P → OnErr result P
on_err_of (Ok value) is = tt
on_err_of (Err fault) is = is

pub noted_due : {schemas : SchemaLists} {what : LineForm} {state stands : StandingState}
    {before read ended after : Traces} (trace : LineTrace) → ended ≡ read ++ trace ∷ [] → read ≡ before → after ≡ ended
    → IsDueBy schemas state what trace → stands ≡ stands_behind state what trace
    → AloneDue schemas what state stands before after
noted_due trace ends first last due stood = record {
  trace = trace;
  ends = last ∙ ends ∙ ap (λ (front : Traces). front ++ trace ∷ []) first;
  due = due;
  stood = stood;
}

all_plain : (rans : List LineRan) → AllByRecursion (λ (ran : LineRan). is_ticked ran.trace ≡ false) rans
    → AllByRecursion (λ trace. is_ticked trace ≡ false) (map (λ (ran : LineRan). ran.trace) rans)
all_plain [] plain = tt
all_plain (ran ∷ rans) plain = (plain.0, all_plain rans plain.1)

pub block_noted_due : {before read ended after : Traces} (lines : Lines) (rans : List LineRan)
    → ended ≡ read ++ block_traces (map (λ (ran : LineRan). ran.trace) rans) → read ≡ before → after ≡ ended
    → length rans ≡ length lines → AllByRecursion (λ (ran : LineRan). is_ticked ran.trace ≡ false) rans
    → BlockDue lines before after
block_noted_due lines rans ends first last count plain = record {
  traces = map (λ (ran : LineRan). ran.trace) rans;
  ends = last ∙ ends
      ∙ ap (λ (front : Traces). front ++ block_traces (map (λ (ran : LineRan). ran.trace) rans)) first;
  count = length-map rans (λ (ran : LineRan). ran.trace) ∙ count;
  plain = all_plain rans plain;
}

-- ---- scripts

-- no line so far
pub due_none : (schemas : SchemaLists) (lines : Lines) (state : StandingState) (traces : Traces)
    → state ≡ standing_state [] None → DueTo schemas lines lines (standing_state [] None) state traces traces
due_none schemas lines state traces nothing = record {
  part = [];
  split = refl;
  traces = [];
  ends = sym (append-nil traces);
  count = refl;
  due = tt;
  stood = nothing;
}

-- of all that was noted
pub dues_then : (schemas : SchemaLists) (lines : Lines) (before after noted : Traces) → before ≡ [] → noted ≡ after
    → DueSoFar schemas lines (standing_state [] None) before after
    → AreDue schemas (standing_state [] None) lines noted
dues_then schemas lines before after noted fresh same due =
    subst (AreDue schemas (standing_state [] None) lines)
    (sym (same ∙ due.ends ∙ ap (λ (front : Traces). front ++ due.traces) fresh)) due.due
