-- Each put and each trim of a line is of a row or a bound that is acknowledged, as one that its slot took.
use Rattle.std.proofs.Common.{◌≡◌, ◌∙◌, ℕ, nat_eq, true, List, take, drop, slice_get, Some, ap, subst, sym}
use Rattle.std.specs.Prelude.{Contains}
use Rattle.std.proofs.lemmas.Bool.{false≢true}
use Rattle.std.proofs.lemmas.List.{take-append-drop}
use Rattle.std.proofs.lemmas.List.Elements.{Contains-append_left, Contains-append_right}
use Rattle.history_book.specs.Histories.{book_entry_pass, entries}
use Rattle.history_book.specs.declared.views.BookEntry.{BookEntry}
use Rattle.history_book.specs.declared.views.BookEntry.TheVariants as one
use Rattle.history_book.specs.declared.views.History.{History}
use Rattle.history_book.specs.declared.views.History.TheVariants as of
use Rattle.mon_config.specs.declared.config.Config.{Config}
use Rattle.mon_topo.specs.RangeHistories.{turn_ack}
use Rattle.mon_value.specs.Turns.{Adds, Hides}
use Rattle.mon_value.specs.declared.histories.Entry.TheVariants as entry
use Rattle.mon_value.specs.declared.histories.Histories.{Histories}
use Rattle.mon_value.specs.declared.rows.Row.{Row}
use Rattle.run_theory.specs.Parts.{between}
use Rattle.run_theory.proofs.Stands.{between_stands, kept_stands, same_to}
use Rattle.run_traces.specs.LineClaims.{FeedMade, HasFound, HasMade}
use Rattle.run_traces.specs.LineFeeds.{HasItsAck, LineIsPaired}
use Rattle.run_traces.specs.LineSwitches.{is_entry_of, is_fed, is_traced}
use Rattle.run_traces.specs.RanLines.{RanLine}
use Rattle.run_traces.specs.declared.traces.LineTrace.{LineTrace}
use Rattle.run_traces.specs.declared.traces.LineTrace.TheVariants as came
use Rattle.run_traces.proofs.Controls.{done_paired}
use Rattle.run_traces.proofs.ListFacts.{all_at}
use Rattle.run_traces.proofs.RowFacts.{fed_pass}
use Rattle.run_traces.proofs.RunFacts.{InPlace}
use Rattle.write_core.proofs.AckLemmas.{contains_filter}

-- ---- entries

-- what holds among some entries holds among all that they are of
pub among_all : (made all : History → List BookEntry)
    → ((h : History) (e : BookEntry) → Contains (made h) e → Contains (all h) e) → (e : BookEntry) → HasItsAck made e
    → HasItsAck all e
among_all made all of_all (one.Leaf (entry.Opened pass range slot rows)) h = h
among_all made all of_all (one.Leaf (entry.Put pass range slot row)) h = record {
  ack = h.ack;
  told = of_all (of.Range range) (one.Range (turn_ack pass (Adds row) h.ack)) h.told;
  took = h.took;
}
among_all made all of_all (one.Leaf (entry.Trim pass range slot before)) h = record {
  ack = h.ack;
  told = of_all (of.Range range) (one.Range (turn_ack pass (Hides before) h.ack)) h.told;
  took = h.took;
}
among_all made all of_all (one.Leaf (entry.Down pass)) h = h
among_all made all of_all (one.Leaf (entry.Up pass)) h = h
among_all made all of_all (one.Range e) h = h

module _ (config : Config) (ended : Histories) (seen later : List RanLine) (line : RanLine)
    (place : InPlace config ended seen later line) where
  abbrev made : History → List BookEntry
  made = place.ran.made

  -- what the line made stands in the histories at the end
  of_all : (h : History) (e : BookEntry) → Contains (made h) e → Contains (entries ended h) e
  of_all h e there =
      let from = place.from h in
      let to = place.to h in
      let all = entries ended h in
      let some = (contains_filter (λ x. nat_eq (book_entry_pass x) place.number) (between from to all) e
      (subst (λ (xs : List BookEntry). Contains xs e) (sym (place.ran.exact h)) there)).0 in
      subst (λ (xs : List BookEntry). Contains xs e) (take-append-drop to all)
      (Contains-append_left (take to all) (drop to all) e
      (subst (λ (xs : List BookEntry). Contains xs e) (take-append-drop from (take to all))
      (Contains-append_right (take from (take to all)) (between from to all) e some)))

  -- an entry of the rows that it accepted
  fed_paired : (h : History) (k : ℕ) (e : BookEntry) → slice_get (entries ended h) k ≡ Some e
      → is_entry_of line h k e ≡ true → (pass : ℕ) (accepted : List Row) → pass ≡ place.number
      → FeedMade config pass accepted made → is_fed pass accepted e ≡ true → HasItsAck (entries ended) e
  fed_paired h k e there own pass accepted number makes mine =
      let within = place.ran.found.1 h k e there own in
      let at = between_stands (place.from h) (place.to h) (entries ended h) k e there within.0 within.1 in
      let kept = kept_stands (λ x. nat_eq (book_entry_pass x) place.number)
      (between (place.from h) (place.to h) (entries ended h)) at.0 e at.1
      (same_to (book_entry_pass e) place.number (fed_pass pass accepted e mine ∙ number)) in
      among_all made (entries ended) of_all e
      (all_at (HasItsAck made) (made h) kept.0 e (makes.paired h)
      (ap (λ (xs : List BookEntry). slice_get xs kept.0) (sym (place.ran.exact h)) ∙ kept.1))

  paired_by : (h : History) (k : ℕ) (e : BookEntry) → slice_get (entries ended h) k ≡ Some e
      → is_entry_of line h k e ≡ true → (trace : LineTrace) → HasMade config place.number line.what trace made
      → HasFound config ended place.from place.to place.number line trace
      → is_traced line.what line.own trace h k e ≡ true → HasItsAck (entries ended) e
  paired_by h k e there own (came.Fed pass accepted refused) makes found mine =
      fed_paired h k e there own pass accepted makes.0 makes.1 mine
  paired_by h k e there own (came.Poured pass ends) makes found mine =
      fed_paired h k e there own pass ends.accepted makes.0 makes.1 mine
  paired_by h k e there own (came.Asked moment trace) makes found mine = absurd (false≢true mine)
  paired_by h k e there own (came.Followed moment trace) makes found mine = absurd (false≢true mine)
  paired_by h k e there own (came.Ticked dues) makes found mine = absurd (false≢true mine)
  paired_by h k e there own (came.Controlled done) makes found mine =
      done_paired config ended place.from place.to place.number line.what line.own done h k e found there mine
  paired_by h k e there own (came.Refused why) makes found mine = absurd (false≢true mine)
  paired_by h k e there own came.Done makes found mine = absurd (false≢true mine)

  pub is_paired : LineIsPaired ended seen later line
  is_paired h k e there mine =
      paired_by h k e there mine line.trace place.ran.makes place.ran.found.0.found mine
