-- A line alone: what it wrote and found, by what the script's caller knew before it and knows behind it.
use Rattle.std.proofs.Common.{◌≡◌, ℕ, nat_eq, ◌||◌, true, false, Bool, List, [], ◌∷◌, ◌++◌, map, filter, Some, refl, sym}
use Rattle.std.proofs.Common.{ap, ◌∙◌, subst}
use Rattle.std.specs.Prelude.{Err, IfOk, Ok, OnOk, Result, option_to_list}
use Rattle.std.specs.List.{AllByRecursion, Contains, list_any}
use Rattle.std.proofs.lemmas.List.Elements.{Contains-append_right}
use Rattle.history_book.specs.Histories.{book_entry_pass, entries}
use Rattle.history_book.specs.Seats.{HasEveryNumber, IsPurseBorneOut, kept_in}
use Rattle.history_book.specs.declared.views.BookEntry.{BookEntry}
use Rattle.history_book.specs.declared.views.History.{History}
use Rattle.history_book.specs.declared.views.Kept.{Kept}
use Rattle.know.specs.Knowledge.{Knowledge}
use Rattle.line_runs.specs.LineWrites.{LineRanSo, LineWrote, ran_line}
use Rattle.line_runs.specs.declared.lines.LineRan.{LineRan}
use Rattle.mon_config.specs.declared.config.Config.{Config}
use Rattle.mon_store.specs.Passes.{IsPass}
use Rattle.mon_store.specs.Writes.{own_entries}
use Rattle.mon_topo.specs.Settings.{Setting}
use Rattle.owners.specs.Puts.{pass_of}
use Rattle.run_theory.specs.Parts.{Alone}
use Rattle.run_theory.proofs.Marks.{all_as}
use Rattle.run_traces.specs.LineClaims.{HasWritten}
use Rattle.run_traces.specs.LineDues.{is_ticked}
use Rattle.run_traces.specs.RanLines.{RanLine}
use Rattle.run_traces.specs.declared.line_files.LineFiles.{LineFiles}
use Rattle.mon_script.specs.declared.forms.LineForm.{LineForm}
use Rattle.part_runs.specs.PartsDone.{ActedAlone, PartDid, PartTells}
use Rattle.part_runs.proofs.ListLemmas.{all_mapped, first_of}
use Rattle.part_runs.proofs.NumberLemmas.{kept_every}
use Rattle.part_runs.proofs.PassLemmas.{own_kept, seen_kept, under_kept}
use Rattle.part_runs.proofs.TellLemmas.{GoOn, Stay, alone_tells, part_plain}
use Rattle.mon_store.proofs.WriteLemmas.{own_is}

abbrev own_entries_of : Knowledge → History → List BookEntry
own_entries_of know = own_entries know.purse.own

-- a test of numbers does not mind where one of them stands
or_on : (a b c : Bool) → (a || (b || c)) ≡ (b || (a || c))
or_on true true c = refl
or_on true false c = refl
or_on false b c = refl

to_the_end : (test : ℕ → Bool) (n : ℕ) (ns : List ℕ) → list_any test (ns ++ n ∷ []) ≡ (test n || list_any test ns)
to_the_end test n [] = refl
to_the_end test n (m ∷ ns) =
    ap (λ b. test m || b) (to_the_end test n ns) ∙ or_on (test m) (test n) (list_any test ns)

module _ (setting : Setting) (config : Config) (line : RanLine) (text : List ℕ) (before after : Knowledge)
    (begun : IsPass setting before) (ended : IsPass setting after) (wrote : LineWrote config line text before after) where
  -- the caller keeps its own number, and the entries under it
  contains_own : (know : Knowledge) (kept : Kept) → know.purse.own ≡ Some kept → Contains (kept_in know.purse) kept
  contains_own know kept is =
      subst (λ own. Contains (option_to_list own ++ know.purse.met) kept) (sym is) (first_of kept know.purse.met)

  contains_met : (know : Knowledge) (kept : Kept) → Contains know.purse.met kept → Contains (kept_in know.purse) kept
  contains_met know kept has = Contains-append_right (option_to_list know.purse.own) know.purse.met kept has

  first : (h : History) → filter (λ e. nat_eq (book_entry_pass e) (pass_of before)) (entries before.seen h)
      ≡ own_entries_of before h
  first h =
      let own = own_kept before.purse.own (pass_of before) begun.number in
      seen_kept before (pass_of before) h own.kept begun.exact (contains_own before own.kept own.is) own.numbered
      ∙ sym (own_is before.purse.own own.kept h own.is)

  then : (h : History) → filter (λ e. nat_eq (book_entry_pass e) (pass_of before)) (entries after.seen h)
      ≡ own_entries_of before h ++ wrote.made h
  then h =
      let own = own_kept after.purse.own (pass_of before) (wrote.keeps.number ∙ begun.number) in
      seen_kept after (pass_of before) h own.kept ended.exact (contains_own after own.kept own.is) own.numbered
      ∙ sym (own_is after.purse.own own.kept h own.is) ∙ wrote.own h

  met_same : (h : History)
      → AllByRecursion (λ n. filter (λ e. nat_eq (book_entry_pass e) n) (entries after.seen h)
      ≡ filter (λ e. nat_eq (book_entry_pass e) n) (entries before.seen h))
      (map (λ (kept : Kept). kept.number) before.purse.met)
  met_same h = all_mapped
      (λ n. filter (λ e. nat_eq (book_entry_pass e) n) (entries after.seen h)
      ≡ filter (λ e. nat_eq (book_entry_pass e) n) (entries before.seen h))
      (λ (kept : Kept). kept.number) before.purse.met
      (λ kept has. seen_kept after kept.number h kept ended.exact
      (contains_met after kept (subst (λ met. Contains met kept) (sym wrote.keeps.met) has)) refl
      ∙ sym (seen_kept before kept.number h kept begun.exact (contains_met before kept has) refl))

  -- the numbers that it keeps
  numbers_then : map (λ (kept : Kept). kept.number) (kept_in after.purse)
      ≡ pass_of before ∷ map (λ (kept : Kept). kept.number) before.purse.met
  numbers_then =
      let own = own_kept after.purse.own (pass_of before) (wrote.keeps.number ∙ begun.number) in
      ap (λ o. map (λ (kept : Kept). kept.number) (option_to_list o ++ after.purse.met)) own.is
      ∙ ap (λ met. own.kept.number ∷ map (λ (kept : Kept). kept.number) met) wrote.keeps.met
      ∙ ap (λ n. n ∷ map (λ (kept : Kept). kept.number) before.purse.met) own.numbered

  covered : IsPurseBorneOut after.seen after.purse → HasEveryNumber after.purse → (h : History)
      → AllByRecursion (λ e. list_any (nat_eq (book_entry_pass e))
      (map (λ (kept : Kept). kept.number) before.purse.met ++ pass_of before ∷ []) ≡ true) (entries after.seen h)
  covered borne_out every h = all_as
      (λ e. list_any (nat_eq (book_entry_pass e)) (map (λ (kept : Kept). kept.number) (kept_in after.purse)) ≡ true)
      (λ e. list_any (nat_eq (book_entry_pass e))
      (map (λ (kept : Kept). kept.number) before.purse.met ++ pass_of before ∷ []) ≡ true)
      (λ e is. to_the_end (nat_eq (book_entry_pass e)) (pass_of before)
      (map (λ (kept : Kept). kept.number) before.purse.met)
      ∙ sym (ap (list_any (nat_eq (book_entry_pass e))) numbers_then) ∙ is)
      (entries after.seen h) (under_kept after borne_out every h)

  has_written : IsPurseBorneOut after.seen after.purse → HasEveryNumber after.purse
      → HasWritten config before.seen after.seen (Alone line)
  has_written borne_out every = record {
    old = map (λ (kept : Kept). kept.number) before.purse.met;
    numbers = pass_of before ∷ [];
    goes = wrote.keeps.grown;
    each = (
      record {
        own = own_entries_of before;
        made = wrote.made;
        makes = wrote.makes;
        first = first;
        then = then;
        found = wrote.found;
      },
      tt,
    );
    apart = (refl, tt);
    same = met_same;
    covered = covered borne_out every;
  }

  pub part_did : IsPurseBorneOut after.seen after.purse → HasEveryNumber before.purse
      → PartDid config (Alone line) (text ∷ []) before after
  part_did borne_out every =
      let then = kept_every before after wrote.keeps every in
      record {
        written = has_written borne_out then;
        prints = ap (λ w. w ∷ []) wrote.prints;
        every = then;
      }

-- ---- what a call answers

module _ {E : Type 0} (go_on : GoOn) (stay : Stay) (setting : Setting) (config : Config) (what : LineForm)
    (content : LineFiles) (before after : Knowledge) (begun : IsPass setting before) (ended : IsPass setting after)
    (borne_out : IsPurseBorneOut after.seen after.purse) (every : HasEveryNumber before.purse) where
  -- a line that ran, with the places of its own entries
  pub answer_acted : (answer : Result LineRan E)
      → IfOk answer (λ ran. LineRanSo config what content ran before after)
      → IfOk answer (λ ran. ActedAlone config what content ran before after)
  answer_acted (Ok ran) so = record {
    own = so.own;
    tells = alone_tells go_on stay
        (part_did setting config (ran_line what content ran.trace so.own) ran.text before after begun ended so.wrote
        borne_out every);
  }
  answer_acted (Err e) so = tt

  -- one that has none
  pub answer_tells : (answer : Result LineRan E)
      → IfOk answer (λ ran. LineWrote config (ran_line what content ran.trace []) ran.text before after)
      → IfOk answer (λ ran. PartTells config (Alone (ran_line what content ran.trace [])) (ran.text ∷ []) before after)
  answer_tells (Ok ran) wrote = alone_tells go_on stay
      (part_did setting config (ran_line what content ran.trace []) ran.text before after begun ended wrote borne_out
      every)
  answer_tells (Err e) wrote = tt

  -- no such line is a tick
  pub answer_plain : (answer : Result LineRan E)
      → IfOk answer (λ ran. LineRanSo config what content ran before after)
      → IfOk answer (λ ran. is_ticked ran.trace ≡ false)
  answer_plain (Ok ran) so =
      let did = part_did setting config (ran_line what content ran.trace so.own) ran.text before after begun ended
      so.wrote borne_out every in
      (part_plain config before.seen after.seen (Alone (ran_line what content ran.trace so.own)) did.written).0
  answer_plain (Err e) so = tt

-- whatever the files of a line hold that names none
pub with_content : {E : Type 0} (config : Config) (what : LineForm) (content : LineFiles) (before after : Knowledge)
    (answer : Result LineRan E)
    → IfOk answer (λ ran. (held : LineFiles) → LineWrote config (ran_line what held ran.trace []) ran.text before after)
    → IfOk answer (λ ran. LineRanSo config what content ran before after)
with_content config what content before after (Ok ran) wrote = record { own = []; wrote = wrote content }
with_content config what content before after (Err e) wrote = tt

pub answer_stock : {E : Type 0} (config : Config) (what : LineForm) (content : LineFiles) (before after : Knowledge)
    (answer : Result LineRan E) → IfOk answer (λ ran. LineRanSo config what content ran before after)
    → OnOk answer (after.purse.stock ≡ before.purse.stock)
answer_stock config what content before after (Ok ran) so = so.wrote.keeps.stock
answer_stock config what content before after (Err e) so = tt
