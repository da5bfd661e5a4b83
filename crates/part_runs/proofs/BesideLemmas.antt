-- The lines of a block: what each wrote and found, by what the script's caller knew before them and knows once it has
-- met all of theirs.
use Rattle.std.proofs.Common.{◌≡◌, ℕ, zero, suc, ◌+◌, ◌<◌, ◌≤◌, nat_eq, true, List, [], ◌∷◌, ◌++◌, length, map, filter, Some, None}
use Rattle.std.proofs.Common.{refl, sym, ap, ◌∙◌, subst, arith}
use Rattle.std.specs.Prelude.{IfSome, Option, option_to_list}
use Rattle.std.specs.List.{AllByRecursion, Contains, list_any}
use Rattle.std.proofs.lemmas.List.{append-nil, append_assoc, length-append, map-append}
use Rattle.std.proofs.lemmas.List.Elements.{Contains-append_left, Contains-append_right}
use Rattle.history_book.specs.Histories.{AreFronts, book_entry_pass, entries, numbers_on}
use Rattle.history_book.specs.Seats.{HasEveryNumber, IsPurseBorneOut, first_handed, kept_in, met_purse, new_number}
use Rattle.history_book.specs.Seats.{no_entries, times_number, with_stock_handed}
use Rattle.history_book.specs.declared.views.BookEntry.{BookEntry}
use Rattle.history_book.specs.declared.views.History.{History}
use Rattle.history_book.specs.declared.views.Kept.{Kept}
use Rattle.history_book.specs.declared.views.Purse.{Purse}
use Rattle.know.specs.Knowledge.{Knowledge, after_numbering, meeting, numbered_knowledge}
use Rattle.line_runs.specs.LineWrites.{LineRanSo, ran_line}
use Rattle.line_runs.specs.declared.lines.LineRan.{LineRan}
use Rattle.mon_config.specs.declared.config.Config.{Config}
use Rattle.mon_store.specs.Passes.{IsPass}
use Rattle.mon_topo.specs.HeldHistories.{AreHeld}
use Rattle.mon_topo.specs.Settings.{Setting}
use Rattle.mon_value.specs.declared.histories.Histories.{Histories}
use Rattle.run_theory.specs.Parts.{IsWithin, Beside}
use Rattle.run_theory.specs.Writings.{EachWrote, Wrote}
use Rattle.run_theory.proofs.Marks.{all_as}
use Rattle.run_traces.specs.LineClaims.{Finds, HaveGrown, Makes}
use Rattle.run_traces.specs.LineTexts.{line_text}
use Rattle.run_traces.specs.RanLines.{OwnPlace, RanLine, ran_lines}
use Rattle.run_traces.specs.declared.traces.LineTrace.{LineTrace}
use Rattle.run_traces.specs.declared.line_files.LineFiles.{LineFiles}
use Rattle.mon_script.specs.declared.forms.LineForm.{LineForm}
use Rattle.mon_script.specs.declared.script.ScriptLine.{ScriptLine}
use Rattle.part_runs.specs.Courses.{BlockRan, EachHasRun, HasRun, HaveMet, Way, after_begun, begun, ended_in}
use Rattle.part_runs.specs.PartsDone.{CanSplit, PartDid}
use Rattle.part_runs.proofs.ListLemmas.{all_mapped, first_of, on_apart}
use Rattle.part_runs.proofs.NumberLemmas.{every_number, kept_times, times_in}
use Rattle.part_runs.proofs.PassLemmas.{OwnKept, have_grown, own_kept, seen_kept, under_kept}
use Rattle.running_query.proofs.GoingLemmas.{fronts_through, same_fronts}
use Rattle.mon_store.proofs.WriteLemmas.{own_is}

-- ---- what lines came to

-- each line had memory enough
abbrev AreDone : List Way → List LineRan → Type 0
AreDone [] [] = Unit {0}
AreDone [] (ran ∷ rans) = ⊥
AreDone (way ∷ ways) [] = ⊥
AreDone (way ∷ ways) (ran ∷ rans) = (way.done ≡ Some ran) × AreDone ways rans

no_more : (ways : List Way) → length (ended_in ways) ≤ length ways
no_more [] = omega arith
no_more (way ∷ ways) =
    let e = length-append (option_to_list way.done) (ended_in ways) in let l = one_at_most way.done in
    let rest = no_more ways in omega arith
  where
    one_at_most : (done : Option LineRan) → length (option_to_list done) ≤ 1
    one_at_most None = omega arith
    one_at_most (Some ran) = omega arith

all_done : (ways : List Way) → length (ended_in ways) ≡ length ways → AreDone ways (ended_in ways)
all_done [] e = tt
all_done (way ∷ ways) e = done_by way.done refl (all_done ways) e
  where
    done_by : (done : Option LineRan) → way.done ≡ done
        → (length (ended_in ways) ≡ length ways → AreDone ways (ended_in ways))
        → length (option_to_list done ++ ended_in ways) ≡ suc (length ways)
        → AreDone (way ∷ ways) (option_to_list done ++ ended_in ways)
    done_by None is rest e = absurd (let l = no_more ways in omega arith)
    done_by (Some ran) is rest e = (is, rest (omega arith))

-- ---- as callers are met

-- what they kept
abbrev kept_of : List Way → List Kept
kept_of [] = []
kept_of (way ∷ ways) = kept_in way.know.purse ++ kept_of ways

met_keeps : (ways : List Way) (before after : Knowledge) → HaveMet ways before after
    → kept_in after.purse ≡ kept_in before.purse ++ kept_of ways
met_keeps [] before after met =
    ap (λ (know : Knowledge). kept_in know.purse) met ∙ sym (append-nil (kept_in before.purse))
met_keeps (way ∷ ways) before after met =
    met_keeps ways (meeting way.know before) after met.2
    ∙ ap (λ kept. kept ++ kept_of ways)
    (sym (append_assoc (option_to_list before.purse.own) before.purse.met (kept_in way.know.purse)))
    ∙ append_assoc (kept_in before.purse) (kept_in way.know.purse) (kept_of ways)

pub met_fronts : (ways : List Way) (before after : Knowledge) → HaveMet ways before after
    → AreFronts before.seen after.seen
met_fronts [] before after met =
    subst (λ (know : Knowledge). AreFronts before.seen know.seen) (sym met) (same_fronts before.seen)
met_fronts (way ∷ ways) before after met =
    fronts_through before.seen (meeting way.know before).seen after.seen met.0
    (met_fronts ways (meeting way.know before) after met.2)

met_each : (ways : List Way) (before after : Knowledge) → HaveMet ways before after
    → AllByRecursion (λ (way : Way). AreFronts way.know.seen after.seen) ways
met_each [] before after met = tt
met_each (way ∷ ways) before after met = (
  fronts_through way.know.seen (meeting way.know before).seen after.seen met.1
      (met_fronts ways (meeting way.know before) after met.2),
  met_each ways (meeting way.know before) after met.2,
)

begun_seen : (count : ℕ) (know : Knowledge) → (after_begun count know).seen ≡ know.seen
begun_seen zero know = refl
begun_seen (suc count) know = begun_seen count (after_numbering know)

begun_kept : (count : ℕ) (know : Knowledge) → kept_in (after_begun count know).purse ≡ kept_in know.purse
begun_kept zero know = refl
begun_kept (suc count) know = begun_kept count (after_numbering know)

pub block_fronts : (count : ℕ) (ways : List Way) (before after : Knowledge)
    → HaveMet ways (after_begun count before) after → AreFronts before.seen after.seen
block_fronts count ways before after met = subst (λ seen. AreFronts seen after.seen) (begun_seen count before)
    (met_fronts ways (after_begun count before) after met)

-- ---- what each line did

abbrev number_of : Kept → ℕ
number_of kept = kept.number

abbrev trace_of : LineRan → LineTrace
trace_of ran = ran.trace

abbrev text_of : LineRan → List ℕ
text_of ran = ran.text

-- the lines of a block, with the places of each, wrote what they made and found what they owe
pub record BesideDid (config : Config) (lines : List ScriptLine) (contents : List LineFiles) (rans : List LineRan)
    (before after : Knowledge) : Type 0 where
  pub places : List (List OwnPlace)
  pub count : length places ≡ length lines
  pub did : PartDid config (Beside (ran_lines lines contents (map trace_of rans) places)) (map text_of rans) before after

module _ (later : (config : Config) (seen more : Histories) (from : History → ℕ) (number : ℕ) (line : RanLine)
    (made : History → List BookEntry) → HaveGrown seen more
    → ((history : History) → filter (λ e. nat_eq (book_entry_pass e) number) (entries more history)
    ≡ filter (λ e. nat_eq (book_entry_pass e) number) (entries seen history))
    → Makes config number line made → Finds config seen from (λ history. length (entries seen history)) number line
    → Finds config more from (λ history. length (entries more history)) number line)
    (texts : (config : Config) (seen more : Histories) (from to : History → ℕ) (number : ℕ) (line : RanLine)
    → HaveGrown seen more → IsWithin entries to seen → Finds config seen from to number line
    → line_text config more line ≡ line_text config seen line)
    (setting : Setting) (config : Config) (last : Knowledge) (ended : IsPass setting last)
    (held : AreHeld setting.held setting.zones setting.points last.seen) where
  module _ (know : Knowledge) (what : LineForm) (content : LineFiles) (way : Way) (ran : LineRan)
      (run : HasRun setting config what content (record { know = numbered_knowledge know; done = None }) way)
      (is : way.done ≡ Some ran) (fronts : AreFronts way.know.seen last.seen)
      (keeps : (kept : Kept) → Contains (kept_in way.know.purse) kept → Contains (kept_in last.purse) kept) where
    abbrev number : ℕ
    number = know.purse.stock.from

    so : LineRanSo config what content ran (numbered_knowledge know) way.know
    so = subst (λ done. IfSome done (λ r. LineRanSo config what content r (numbered_knowledge know) way.know)) is
        run.wrote

    abbrev one : RanLine
    one = ran_line what content ran.trace so.own

    own : OwnKept way.know.purse.own number
    own = own_kept way.know.purse.own number so.wrote.keeps.number

    has : Contains (kept_in way.know.purse) own.kept
    has = subst (λ o. Contains (option_to_list o ++ way.know.purse.met) own.kept) (sym own.is)
        (first_of own.kept way.know.purse.met)

    seen_then : (h : History)
        → filter (λ e. nat_eq (book_entry_pass e) number) (entries way.know.seen h) ≡ entries own.kept.own h
    seen_then h = seen_kept way.know number h own.kept run.ended.exact has own.numbered

    seen_last : (h : History)
        → filter (λ e. nat_eq (book_entry_pass e) number) (entries last.seen h) ≡ entries own.kept.own h
    seen_last h = seen_kept last number h own.kept ended.exact (keeps own.kept has) own.numbered

    grown : HaveGrown way.know.seen last.seen
    grown = have_grown setting way.know.seen last.seen fronts run.held held

    line_wrote : Wrote entries book_entry_pass (Makes config) (Finds config) HaveGrown know.seen last.seen number one
    line_wrote = record {
      own = λ h. entries no_entries h;
      made = so.wrote.made;
      makes = so.wrote.makes;
      first = λ h. run.began.exact (new_number number) h (first_of (new_number number) []);
      then = λ h. seen_last h ∙ sym (own_is way.know.purse.own own.kept h own.is) ∙ so.wrote.own h;
      found = later config way.know.seen last.seen (λ h. length (entries know.seen h)) number one so.wrote.made grown
          (λ h. seen_last h ∙ sym (seen_then h)) so.wrote.makes so.wrote.found;
    }

    line_number : map number_of (kept_in way.know.purse) ≡ number ∷ []
    line_number =
        ap (λ o. map number_of (option_to_list o ++ way.know.purse.met)) own.is
        ∙ ap (λ met. own.kept.number ∷ map number_of met) so.wrote.keeps.met ∙ ap (λ n. n ∷ []) own.numbered

    line_prints : ran.text ≡ line_text config last.seen one
    line_prints = so.wrote.prints ∙ sym (texts config way.know.seen last.seen (λ h. length (entries know.seen h))
        (λ h. length (entries way.know.seen h)) number one grown (λ h. omega arith) so.wrote.found)

    line_times : (n : ℕ) → times_number n way.know.purse ≡ times_number n (first_handed know.purse)
    line_times n = kept_times n (numbered_knowledge know) way.know so.wrote.keeps

  -- ---- what all lines did

  record LinesDid (know : Knowledge) (lines : List ScriptLine) (contents : List LineFiles) (ways : List Way)
      (rans : List LineRan) : Type 0 where
    places : List (List OwnPlace)
    count : length places ≡ length lines
    each : EachWrote entries book_entry_pass (Makes config) (Finds config) HaveGrown know.seen last.seen
        (numbers_on know.purse.stock.from (length lines)) (ran_lines lines contents (map trace_of rans) places)
    numbers : map number_of (kept_of ways) ≡ numbers_on know.purse.stock.from (length lines)
    prints : map text_of rans ≡ map (line_text config last.seen) (ran_lines lines contents (map trace_of rans) places)
    times : (n : ℕ) → times_in n ways ≡ times_in n (begun (length lines) know)

  lines_did : (know : Knowledge) (lines : List ScriptLine) (contents : List LineFiles) (ways : List Way)
      (rans : List LineRan) → length contents ≡ length lines → length ways ≡ length lines
      → EachHasRun setting config lines contents (begun (length lines) know) ways → AreDone ways rans
      → AllByRecursion (λ (way : Way). AreFronts way.know.seen last.seen) ways
      → ((kept : Kept) → Contains (kept_of ways) kept → Contains (kept_in last.purse) kept)
      → LinesDid know lines contents ways rans
  lines_did know [] contents [] [] few many run done fronts keeps = record {
    places = [];
    count = refl;
    each = tt;
    numbers = refl;
    prints = refl;
    times = λ n. refl;
  }
  lines_did know [] contents [] (ran ∷ rans) few many run done fronts keeps = absurd done
  lines_did know [] contents (way ∷ ways) rans few many run done fronts keeps = absurd (omega arith)
  lines_did know (line ∷ lines) [] ways rans few many run done fronts keeps = absurd (omega arith)
  lines_did know (line ∷ lines) (content ∷ contents) [] rans few many run done fronts keeps = absurd (omega arith)
  lines_did know (line ∷ lines) (content ∷ contents) (way ∷ ways) [] few many run done fronts keeps = absurd done
  lines_did know (line ∷ lines) (content ∷ contents) (way ∷ ways) (ran ∷ rans) few many run done fronts keeps =
      let first : (kept : Kept) → Contains (kept_in way.know.purse) kept → Contains (kept_in last.purse) kept
      = λ kept has. keeps kept (Contains-append_left (kept_in way.know.purse) (kept_of ways) kept has) in
      let rest = lines_did (after_numbering know) lines contents ways rans (omega arith) (omega arith) run.1 done.1
      fronts.1 (λ kept has. keeps kept (Contains-append_right (kept_in way.know.purse) (kept_of ways) kept has)) in
      let mine = (so know line.what content way ran run.0 done.0 fronts.0 first).own in
      record {
        places = mine ∷ rest.places;
        count = ap suc rest.count;
        each = (line_wrote know line.what content way ran run.0 done.0 fronts.0 first, rest.each);
        numbers = map-append number_of (kept_in way.know.purse) (kept_of ways)
            ∙ ap (λ ns. ns ++ map number_of (kept_of ways))
            (line_number know line.what content way ran run.0 done.0 fronts.0 first)
            ∙ ap (λ ns. know.purse.stock.from ∷ ns) rest.numbers;
        prints = ap (λ w. w ∷ map text_of rans)
            (line_prints know line.what content way ran run.0 done.0 fronts.0 first)
            ∙ ap (λ ws. line_text config last.seen (ran_line line.what content ran.trace mine) ∷ ws) rest.prints;
        times = λ n. ap (λ m. m + times_in n ways)
            (line_times know line.what content way ran run.0 done.0 fronts.0 first n)
            ∙ ap (λ m. times_number n (first_handed know.purse) + m) (rest.times n);
      }

  -- ---- the block

  module _ (handed : (n : ℕ) (purse : Purse) → purse.stock.from < purse.stock.to
      → times_number n (with_stock_handed purse) + times_number n (first_handed purse) ≡ times_number n purse)
      (both : (n : ℕ) (purse other : Purse)
      → times_number n (met_purse purse other) ≡ times_number n purse + times_number n other)
      (know : Knowledge) (lines : List ScriptLine) (contents : List LineFiles) (ways : List Way)
      (begun_pass : IsPass setting know) (begun_held : AreHeld setting.held setting.zones setting.points know.seen)
      (borne_out : IsPurseBorneOut last.seen last.purse)
      (met : HaveMet ways (after_begun (length lines) know) last) where
    all_kept : kept_in last.purse ≡ kept_in know.purse ++ kept_of ways
    all_kept = met_keeps ways (after_begun (length lines) know) last met
        ∙ ap (λ kept. kept ++ kept_of ways) (begun_kept (length lines) know)

    kept_before : (kept : Kept) → Contains (kept_in know.purse) kept → Contains (kept_in last.purse) kept
    kept_before kept has = subst (λ all. Contains all kept) (sym all_kept)
        (Contains-append_left (kept_in know.purse) (kept_of ways) kept has)

    kept_then : (kept : Kept) → Contains (kept_of ways) kept → Contains (kept_in last.purse) kept
    kept_then kept has = subst (λ all. Contains all kept) (sym all_kept)
        (Contains-append_right (kept_in know.purse) (kept_of ways) kept has)

    same : (h : History)
        → AllByRecursion (λ n. filter (λ e. nat_eq (book_entry_pass e) n) (entries last.seen h)
        ≡ filter (λ e. nat_eq (book_entry_pass e) n) (entries know.seen h)) (map number_of (kept_in know.purse))
    same h = all_mapped
        (λ n. filter (λ e. nat_eq (book_entry_pass e) n) (entries last.seen h)
        ≡ filter (λ e. nat_eq (book_entry_pass e) n) (entries know.seen h))
        number_of (kept_in know.purse)
        (λ kept has. seen_kept last kept.number h kept ended.exact (kept_before kept has) refl
        ∙ sym (seen_kept know kept.number h kept begun_pass.exact has refl))

    pub block_did : (rans : List LineRan) → CanSplit (length lines) know → HasEveryNumber know.purse
        → length contents ≡ length lines → length ways ≡ length lines
        → EachHasRun setting config lines contents (begun (length lines) know) ways → rans ≡ ended_in ways
        → length rans ≡ length lines
        → BesideDid config lines contents rans know last
    block_did rans can every few many run rans_are all =
        let enough : length (ended_in ways) ≡ length ways
        = (let e : length rans ≡ length (ended_in ways) = ap length rans_are in omega arith) in
        let did = lines_did know lines contents ways rans few many run
        (subst (AreDone ways) (sym rans_are) (all_done ways enough))
        (met_each ways (after_begun (length lines) know) last met) kept_then in
        let number_then : map number_of (kept_in last.purse)
        ≡ map number_of (kept_in know.purse) ++ numbers_on know.purse.stock.from (length lines)
        = ap (map number_of) all_kept ∙ map-append number_of (kept_in know.purse) (kept_of ways)
        ∙ ap (λ ns. map number_of (kept_in know.purse) ++ ns) did.numbers in
        let every_then = every_number handed both (length lines) know last ways can did.times met every in
        record {
          places = did.places;
          count = did.count;
          did = record {
            written = record {
              old = map number_of (kept_in know.purse);
              numbers = numbers_on know.purse.stock.from (length lines);
              goes = have_grown setting know.seen last.seen (block_fronts (length lines) ways know last met) begun_held
                  held;
              each = did.each;
              apart = on_apart know.purse.stock.from (length lines);
              same = same;
              covered = λ h. all_as
                  (λ e. list_any (nat_eq (book_entry_pass e)) (map number_of (kept_in last.purse)) ≡ true)
                  (λ e. list_any (nat_eq (book_entry_pass e))
                  (map number_of (kept_in know.purse) ++ numbers_on know.purse.stock.from (length lines)) ≡ true)
                  (λ e is. sym (ap (list_any (nat_eq (book_entry_pass e))) number_then) ∙ is)
                  (entries last.seen h) (under_kept last borne_out every_then h);
            };
            prints = did.prints;
            every = every_then;
          };
        }

-- ---- what calls answer

pub block_ran : (setting : Setting) (config : Config) (lines : List ScriptLine) (contents : List LineFiles)
    (none rans : List LineRan) (before mid after : Knowledge) (first ways : List Way)
    → first ≡ begun (length lines) before → mid ≡ after_begun (length lines) before → length ways ≡ length lines
    → EachHasRun setting config lines contents first ways → HaveMet ways mid after → none ≡ []
    → rans ≡ none ++ ended_in ways → BlockRan setting config lines contents rans before after
block_ran setting config lines contents none rans before mid after first ways begun_is mid_is count each met empty is =
    record {
      ways = ways;
      count = count;
      each = subst (λ some. EachHasRun setting config lines contents some ways) begun_is each;
      met = subst (λ know. HaveMet ways know after) mid_is met;
      rans_are = is ∙ ap (λ some. some ++ ended_in ways) empty;
    }
