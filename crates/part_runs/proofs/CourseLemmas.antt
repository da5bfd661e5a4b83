-- Lines of a block, one by one and all together.
use Rattle.std.proofs.Common.{◌≡◌, ℕ, suc, ◌+◌, ◌-◌, ◌<◌, ◌≤◌, List, [], ◌∷◌, ◌++◌, ◌∙◌, length, Some, slice_get, get_or, refl, sym, ap}
use Rattle.std.proofs.Common.{subst, arith}
use Rattle.std.specs.Prelude.{Err, IfOk, IfSome, Ok, Option, Result}
use Rattle.std.specs.Result.{result_ok}
use Rattle.std.proofs.lemmas.List.{append-nil, append_assoc, length-append}
use Rattle.history_book.specs.Histories.{AreFronts}
use Rattle.know.specs.Knowledge.{Knowledge, after_numbering, meeting}
use Rattle.line_runs.specs.LineWrites.{LineRanSo}
use Rattle.line_runs.specs.declared.lines.LineRan.{LineRan}
use Rattle.mon_config.specs.declared.config.Config.{Config}
use Rattle.mon_store.specs.Passes.{IsPass}
use Rattle.mon_topo.specs.HeldHistories.{AreHeld}
use Rattle.mon_topo.specs.Settings.{Setting}
use Rattle.mon_script.specs.declared.forms.LineForm.{LineForm}
use Rattle.mon_script.specs.declared.script.ScriptLine.{ScriptLine}
use Rattle.part_runs.specs.Courses.{EachHasRun, HasRun, HaveMet, Way, after_begun, begun}
use Rattle.part_runs.specs.PartsDone.{CanSplit}
use Rattle.part_runs.proofs.NumberLemmas.{can_split_on, can_split_one}
use Rattle.run_traces.specs.declared.line_files.LineFiles.{LineFiles}

if_kept : {T E : Type 0} (P : T → Type 0) (answer : Result T E) → IfOk answer P → IfSome (result_ok answer) P
if_kept P (Ok x) holds = holds
if_kept P (Err e) holds = tt

module _ (config : Config) (what : LineForm) (content : LineFiles) (before : Knowledge) where
  -- what a line came to is what it wrote
  abbrev HasWrote : Knowledge → LineRan → Type 0
  HasWrote after ran = LineRanSo config what content ran before after

-- a line has run, by what its caller knew, what it knows then and what it answered
pub has_run : {E : Type 0} (setting : Setting) (config : Config) (what : LineForm) (content : LineFiles)
    (before after : Way) (first know : Knowledge) (answer : Result LineRan E) → IsPass setting first
    → IfOk answer (HasWrote config what content first know) → AreFronts first.seen know.seen → IsPass setting know
    → AreHeld setting.held setting.zones setting.points know.seen → before.know ≡ first → after.know ≡ know
    → after.done ≡ result_ok answer → HasRun setting config what content before after
has_run setting config what content before after first know answer began wrote fronts ended held was same done = record {
  began = subst (IsPass setting) (sym was) began;
  wrote = subst (λ (sooner : Knowledge). IfSome after.done (HasWrote config what content sooner after.know)) (sym was)
      (subst (λ (later : Knowledge). IfSome after.done (HasWrote config what content first later)) (sym same)
      (subst (λ (kept : Option LineRan). IfSome kept (HasWrote config what content first know)) (sym done)
      (if_kept (HasWrote config what content first know) answer wrote)));
  fronts = subst (λ (sooner : Knowledge). AreFronts sooner.seen after.know.seen) (sym was)
      (subst (λ (later : Knowledge). AreFronts first.seen later.seen) (sym same) fronts);
  ended = subst (IsPass setting) (sym same) ended;
  held = subst (λ (later : Knowledge). AreHeld setting.held setting.zones setting.points later.seen) (sym same) held;
}

-- ---- as callers are met

pub met_one : (way : Way) (other before after : Knowledge) → after ≡ meeting other before
    → AreFronts before.seen after.seen × AreFronts other.seen after.seen → way.know ≡ other
    → HaveMet (way ∷ []) before after
met_one way other before after met fronts same = subst
    (λ (know : Knowledge). AreFronts before.seen (meeting know before).seen
    × AreFronts know.seen (meeting know before).seen × (after ≡ meeting know before)) (sym same) (
      subst (λ (know : Knowledge). AreFronts before.seen know.seen) met fronts.0,
      subst (λ (know : Knowledge). AreFronts other.seen know.seen) met fronts.1,
      met,
    )

-- there is room for what each line comes to
pub room_for : (rans : List LineRan) (ways : List Way) (count most : ℕ) → rans ≡ [] → length ways ≡ count
    → count ≤ most → length rans + length ways ≤ most
room_for rans ways count most none few room =
    let e : length rans ≡ 0 = ap length none in omega arith

-- ---- as callers are split off

-- so many courses of all are begun, and what is left of the stock is enough for the others
pub record AreBegun (count line : ℕ) (courses : List Way) (first know : Knowledge) : Type 0 where
  pub room : CanSplit (count - line) know
  pub all : courses ++ begun (count - line) know ≡ begun count first
  pub left : after_begun (count - line) know ≡ after_begun count first
  pub seen : know.seen ≡ first.seen
  pub made : length courses ≡ line

one_less : (count line : ℕ) → line < count → count - line ≡ suc (count - (line + 1))
one_less count line less = omega arith

pub one_more_begun : (count line : ℕ) (courses more : List Way) (way : Way) (first know next : Knowledge)
    → line < count → AreBegun count line courses first know → more ≡ courses ++ way ∷ [] → begun 1 know ≡ way ∷ []
    → next ≡ after_numbering know → AreBegun count (line + 1) more first next
one_more_begun count line courses more way first know next less so more_is is next_is =
    let e = one_less count line less in
    subst (λ some. AreBegun count (line + 1) some first next) (sym more_is)
    (subst (AreBegun count (line + 1) (courses ++ way ∷ []) first) (sym next_is)
    (record {
      room = can_split_on (count - (line + 1)) know (subst (λ n. CanSplit n know) e so.room);
      all = append_assoc courses (way ∷ []) (begun (count - (line + 1)) (after_numbering know))
          ∙ ap (λ some. courses ++ (some ++ begun (count - (line + 1)) (after_numbering know))) (sym is)
          ∙ ap (λ n. courses ++ begun n know) (sym e) ∙ so.all;
      left = ap (λ n. after_begun n know) (sym e) ∙ so.left;
      seen = so.seen;
      made = length-append courses (way ∷ []) ∙ ap (λ n. n + 1) so.made;
    }))

-- ---- as lines run

pub each_has_run : (setting : Setting) (config : Config) (lines : List ScriptLine) (contents : List LineFiles)
    (before after : List Way) → length contents ≡ length lines → length before ≡ length lines
    → length after ≡ length before
    → ((k : ℕ) (line : ScriptLine) (content : LineFiles) (d : Way) → slice_get lines k ≡ Some line
    → slice_get contents k ≡ Some content → k < length before
    → HasRun setting config line.what content (get_or before k d) (get_or after k d))
    → EachHasRun setting config lines contents before after
each_has_run setting config [] contents before after few count kept each = tt
each_has_run setting config (line ∷ lines) [] before after few count kept each = absurd (omega arith)
each_has_run setting config (line ∷ lines) (content ∷ contents) [] after few count kept each = absurd (omega arith)
each_has_run setting config (line ∷ lines) (content ∷ contents) (b ∷ before) [] few count kept each =
    absurd (omega arith)
each_has_run setting config (line ∷ lines) (content ∷ contents) (b ∷ before) (a ∷ after) few count kept each = (
  each 0 line content b refl refl (omega arith),
  each_has_run setting config lines contents before after (omega arith) (omega arith) (omega arith)
      (λ k said its d there stands within. each (suc k) said its d there stands (omega arith)),
)
