-- What controls made and found: each lemma by what came of one.
use Rattle.std.proofs.Common.{◌≡◌, ℕ, ◌+◌, ◌<◌, ◌≤◌, nat_eq, ◌&&◌, Bool, true, false, List, [], ◌∷◌, ◌++◌, length}
use Rattle.std.proofs.Common.{filter, slice_get, Option, Some, None, refl, sym, ap, ◌∙◌, subst, arith}
use Rattle.std.specs.List.{AllByRecursion, flat_map}
use Rattle.std.proofs.lemmas.Bool.{and_from, and_parts, false≢true}
use mathlib.Core.List.{IsPrefix}
use Rattle.history_book.specs.Histories.{AreFronts, book_entry_pass, entries, same_history}
use Rattle.history_book.specs.declared.views.BookEntry.{BookEntry}
use Rattle.history_book.specs.declared.views.BookEntry.TheVariants as one
use Rattle.history_book.specs.declared.views.History.{History}
use Rattle.history_book.specs.declared.views.History.TheVariants as of
use Rattle.mon_config.specs.declared.config.Config.{Config}
use Rattle.mon_script.specs.declared.forms.LineForm.{LineForm}
use Rattle.mon_topo.specs.HeldHistories.{AreHeld}
use Rattle.mon_value.specs.Histories.{leaf_history, range_history, same_leaf, same_range}
use Rattle.mon_value.specs.declared.histories.Entry.TheVariants as entry
use Rattle.mon_value.specs.declared.histories.Histories.{Histories}
use Rattle.mon_value.specs.declared.histories.RangeEntry.TheVariants as range_entry
use Rattle.mon_value.specs.declared.positions.FoundDown.{FoundDown}
use Rattle.mon_value.specs.declared.positions.Leaf.{Leaf}
use Rattle.mon_value.specs.declared.positions.Range.{Range}
use Rattle.mon_value.specs.declared.positions.Slot.{Slot}
use Rattle.mon_value.specs.declared.rows.Row.{Row}
use Rattle.query_traces.specs.Founds.{IsFoundBetween}
use Rattle.run_theory.specs.Parts.{AreBelow, IsWithin, between}
use Rattle.run_theory.proofs.Stands.{same_to}
use Rattle.run_traces.specs.LineAsks.{bound_of, Recovery, recovery_of, Switch, switch_of, withdrawal_of}
use Rattle.run_traces.specs.LineClaims.{book_row, DoneFound, marked}
use Rattle.run_traces.specs.LineFeeds.{HasItsAck}
use Rattle.run_traces.specs.LineSwitches.{DoneMade, goes, is_done, is_fed, IsDoneBetween, IsDoneOnce, IsSwitchedBetween}
use Rattle.run_traces.specs.LineSwitches.{opens, opens_here, recovers, switch_entry, switches, SwitchMade}
use Rattle.run_traces.specs.LineTrims.{AreOwn, retires, trims}
use Rattle.run_traces.specs.RanLines.{OwnPlace, is_own}
use Rattle.run_traces.specs.declared.traces.ControlDone.{ControlDone}
use Rattle.run_traces.specs.declared.traces.ControlDone.TheVariants as did
use Rattle.run_traces.proofs.ListFacts.{all_as, all_at}
use Rattle.run_traces.proofs.Switched.{IsTheirs, lone_between, not_recovering, not_switching, recovered_there}
use Rattle.run_traces.proofs.Switched.{recovered_wider, switch_pass, switched_entry, switched_leaf, switched_there}
use Rattle.run_traces.proofs.Switched.{switched_wider}
use Rattle.run_traces.proofs.Trimmed.{not_retiring, not_trimming, one_place, own_there, retired_tells, retired_wider}
use Rattle.run_traces.proofs.Trimmed.{retirement_paired, trim_paired, trimmed_tells, trimmed_wider}

-- ---- an entry that is told to be a control's stands where the control ran

module _ (config : Config) (ended : Histories) (whole : Histories) (fronts : AreFronts ended whole)
    (held : AreHeld config.schemas config.topology config.range_points whole)
    (from to : History → ℕ) (number : ℕ) (what : LineForm) (own : List OwnPlace) where
  pub done_place : (done : ControlDone) (h : History) (k : ℕ) (e : BookEntry)
      → DoneFound config ended from to number what own done → slice_get (entries ended h) k ≡ Some e
      → is_done what own done h k e ≡ true → IsTheirs from to number h k e
  done_place (did.Switched cut) h k e found there is =
      switched_there config ended from to number what cut found h k e there is
  done_place (did.Recovered slot) h k e found there is =
      recovered_there config ended from to number what slot found whole fronts held h k e there is
  done_place (did.Trimmed ack) h k e found there is =
      own_there ended from to number own found.owns (trims (bound_of what) ack h e) h k e there is
  done_place (did.Retired slot) h k e found there is =
      own_there ended from to number own found.owns (retires (withdrawal_of what) slot h e) h k e there is

  -- ---- what a control made where it ran is told to be its own

  -- the one entry of a switch is the last of so many
  switch_made : (cut : ℕ) (h : History) (k j : ℕ) (e : BookEntry)
      (made : History → List BookEntry) → SwitchMade config what made
      → IsSwitchedBetween ended from to number what cut
      → filter (λ x. nat_eq (book_entry_pass x) number) (between (from h) (to h) (entries ended h)) ≡ made h
      → slice_get (entries ended h) k ≡ Some e → from h ≤ k → k < to h → book_entry_pass e ≡ number
      → slice_get (made h) j ≡ Some e
      → is_done what own (did.Switched cut) h k e ≡ true
  switch_made cut h k j e made makes found exact there low high mine at =
      let own = all_at (λ x. switches (switch_of what) h x ≡ true) (made h) j e (makes.own h) at in
      let leaf = switched_leaf config ended from to number what cut found h e own in
      let entered = switched_entry config ended from to number what cut found h leaf in
      let few = subst (λ w. length w ≤ 1) (sym exact) (makes.few h) in
      let stands = found.stands in
      let since = subst (λ w. from w ≤ stands.place) leaf stands.since in
      let until = subst (λ w. stands.place < to w) leaf stands.until in
      let place : stands.place ≡ k = lone_between (λ x. nat_eq (book_entry_pass x) number) (from h) (to h)
      (entries ended h) stands.place k (one.Leaf (switch_entry found.switch.down number)) e few entered since until
      (same_to (book_entry_pass (one.Leaf (switch_entry found.switch.down number))) number
      (switch_pass found.switch.down number))
      there low high (same_to (book_entry_pass e) number mine) in
      let counted : stands.place + 1 ≡ cut = found.last in
      and_from (switches (switch_of what) h e) (nat_eq (k + 1) cut) own (same_to (k + 1) cut (omega arith))

  pub done_made : (done : ControlDone) (h : History) (k j : ℕ) (e : BookEntry) (made : History → List BookEntry)
      → DoneMade config what done made → DoneFound config ended from to number what own done
      → filter (λ x. nat_eq (book_entry_pass x) number) (between (from h) (to h) (entries ended h)) ≡ made h
      → slice_get (entries ended h) k ≡ Some e → from h ≤ k → k < to h → book_entry_pass e ≡ number
      → slice_get (made h) j ≡ Some e → is_done what own done h k e ≡ true
  done_made (did.Switched cut) h k j e made makes found exact there low high mine at =
      switch_made cut h k j e made makes found exact there low high mine at
  done_made (did.Recovered slot) h k j e made makes found exact there low high mine at =
      all_at (λ x. recovers (recovery_of what) slot h x ≡ true) (made h) j e (makes h) at
  done_made (did.Trimmed ack) h k j e made makes found exact there low high mine at =
      and_from (is_own own h k) (trims (bound_of what) ack h e) (found.owns.all h k e there low high mine)
      (all_at (λ x. trims (bound_of what) ack h x ≡ true) (made h) j e (makes.own h) at)
  done_made (did.Retired slot) h k j e made makes found exact there low high mine at =
      and_from (is_own own h k) (retires (withdrawal_of what) slot h e) (found.owns.all h k e there low high mine)
      (all_at (λ x. retires (withdrawal_of what) slot h x ≡ true) (made h) j e (makes.own h) at)

-- ---- and is none of a feed

pub done_not_fed : (config : Config) (pass : ℕ) (rows : List Row) (what : LineForm) (done : ControlDone) (h : History)
    (j : ℕ) (e : BookEntry) (made : History → List BookEntry) → DoneMade config what done made
    → slice_get (made h) j ≡ Some e → is_fed pass rows e ≡ true → ⊥
done_not_fed config pass rows what (did.Switched cut) h j e made makes at is =
    not_switching pass rows (switch_of what) h e
    (all_at (λ x. switches (switch_of what) h x ≡ true) (made h) j e (makes.own h) at) is
done_not_fed config pass rows what (did.Recovered slot) h j e made makes at is =
    not_recovering pass rows (recovery_of what) slot h e
    (all_at (λ x. recovers (recovery_of what) slot h x ≡ true) (made h) j e (makes h) at) is
done_not_fed config pass rows what (did.Trimmed ack) h j e made makes at is =
    not_trimming pass rows (bound_of what) ack h e
    (all_at (λ x. trims (bound_of what) ack h x ≡ true) (made h) j e (makes.own h) at) is
done_not_fed config pass rows what (did.Retired slot) h j e made makes at is =
    not_retiring pass rows (withdrawal_of what) slot h e
    (all_at (λ x. retires (withdrawal_of what) slot h x ≡ true) (made h) j e (makes.own h) at) is

-- ---- a control acknowledges nothing

none_told : (es : List BookEntry) → AllByRecursion (λ e. book_row e ≡ []) es → flat_map book_row es ≡ []
none_told [] all = refl
none_told (e ∷ es) all = ap (λ w. w ++ flat_map book_row es) all.0 ∙ none_told es all.1

going_tells : (down b : Bool) (e : BookEntry) → (b && goes down e) ≡ true → book_row e ≡ []
going_tells down b (one.Leaf e) is = refl
going_tells down b (one.Range e) is = absurd (false≢true (and_parts b false is).1)

switched_tells : (switch : Option Switch) (h : History) (e : BookEntry) → switches switch h e ≡ true → book_row e ≡ []
switched_tells None h e is = absurd (false≢true is)
switched_tells (Some switch) h e is = going_tells switch.down (same_history (of.Leaf switch.leaf) h) e is

switch_tells : (what : LineForm) (h : History) (es : List BookEntry)
    → AllByRecursion (λ e. switches (switch_of what) h e ≡ true) es → flat_map book_row es ≡ []
switch_tells what h es all = none_told es (all_as (λ e. switches (switch_of what) h e ≡ true) (λ e. book_row e ≡ [])
    (λ e is. switched_tells (switch_of what) h e is) es all)

opening_tells : (recovery : Recovery) (slot : Slot) (h : History) (e : BookEntry) → opens recovery slot h e ≡ true
    → book_row e ≡ []
opening_tells recovery slot h (one.Leaf e) is = refl
opening_tells recovery slot h (one.Range (range_entry.Opened by place on)) is = refl
opening_tells recovery slot (of.Leaf leaf) (one.Range (range_entry.Acked by row ack)) is = absurd (false≢true is)
opening_tells recovery slot (of.Range range) (one.Range (range_entry.Acked by row ack)) is =
    absurd (false≢true (and_parts (same_range recovery.range range) false is).1)
opening_tells recovery slot h (one.Range (range_entry.Trimmed by before ack)) is = refl
opening_tells recovery slot h (one.Range (range_entry.Retired by place)) is = refl

recovered_tells : (recovery : Option Recovery) (slot : Slot) (h : History) (e : BookEntry)
    → recovers recovery slot h e ≡ true → book_row e ≡ []
recovered_tells None slot h e is = absurd (false≢true is)
recovered_tells (Some recovery) slot h e is = opening_tells recovery slot h e is

recovery_tells : (what : LineForm) (slot : Slot) (h : History) (es : List BookEntry)
    → AllByRecursion (λ e. recovers (recovery_of what) slot h e ≡ true) es → flat_map book_row es ≡ []
recovery_tells what slot h es all = none_told es
    (all_as (λ e. recovers (recovery_of what) slot h e ≡ true) (λ e. book_row e ≡ [])
    (λ e is. recovered_tells (recovery_of what) slot h e is) es all)

pub done_tells : (config : Config) (what : LineForm) (done : ControlDone) (h : History)
    (made : History → List BookEntry) → DoneMade config what done made → flat_map book_row (made h) ≡ []
done_tells config what (did.Switched cut) h made makes = switch_tells what h (made h) (makes.own h)
done_tells config what (did.Recovered slot) h made makes = recovery_tells what slot h (made h) (makes h)
done_tells config what (did.Trimmed ack) h made makes = none_told (made h)
    (all_as (λ e. trims (bound_of what) ack h e ≡ true) (λ e. book_row e ≡ [])
    (λ e is. trimmed_tells (bound_of what) ack h e is) (made h) (makes.own h))
done_tells config what (did.Retired slot) h made makes = none_told (made h)
    (all_as (λ e. retires (withdrawal_of what) slot h e ≡ true) (λ e. book_row e ≡ [])
    (λ e is. retired_tells (withdrawal_of what) slot h e is) (made h) (makes.own h))

-- ---- and puts nothing; what it trims is acknowledged

unpaired_switch : (made : History → List BookEntry) (switch : Option Switch) (h : History) (e : BookEntry)
    → switches switch h e ≡ true → HasItsAck made e
unpaired_switch made None h e is = absurd (false≢true is)
unpaired_switch made (Some switch) h e is =
    by e (and_parts (same_history (of.Leaf switch.leaf) h) (goes switch.down e) is).1
  where
    by : (e : BookEntry) → goes switch.down e ≡ true → HasItsAck made e
    by (one.Leaf (entry.Opened pass range slot rows)) is = tt
    by (one.Leaf (entry.Put pass range slot row)) is = absurd (false≢true is)
    by (one.Leaf (entry.Trim pass range slot before)) is = absurd (false≢true is)
    by (one.Leaf (entry.Down pass)) is = tt
    by (one.Leaf (entry.Up pass)) is = tt
    by (one.Range e) is = tt

unpaired_opening : (made : History → List BookEntry) (recovery : Option Recovery) (slot : Slot) (h : History)
    (e : BookEntry) → recovers recovery slot h e ≡ true → HasItsAck made e
unpaired_opening made None slot h e is = absurd (false≢true is)
unpaired_opening made (Some recovery) slot h (one.Leaf (entry.Opened pass range other rows)) is = tt
unpaired_opening made (Some recovery) slot (of.Leaf leaf) (one.Leaf (entry.Put pass range other row)) is =
    absurd (false≢true (and_parts (same_leaf recovery.leaf leaf)
    (opens_here recovery.range slot (entry.Put pass range other row)) is).1)
unpaired_opening made (Some recovery) slot (of.Range range) (one.Leaf (entry.Put pass on other row)) is =
    absurd (false≢true is)
unpaired_opening made (Some recovery) slot (of.Leaf leaf) (one.Leaf (entry.Trim pass range other before)) is =
    absurd (false≢true (and_parts (same_leaf recovery.leaf leaf)
    (opens_here recovery.range slot (entry.Trim pass range other before)) is).1)
unpaired_opening made (Some recovery) slot (of.Range range) (one.Leaf (entry.Trim pass on other before)) is =
    absurd (false≢true is)
unpaired_opening made (Some recovery) slot h (one.Leaf (entry.Down pass)) is = tt
unpaired_opening made (Some recovery) slot h (one.Leaf (entry.Up pass)) is = tt
unpaired_opening made (Some recovery) slot h (one.Range e) is = tt

module _ (config : Config) (ended : Histories) (from to : History → ℕ) (number : ℕ) (what : LineForm)
    (own : List OwnPlace) where
  pub done_paired : (done : ControlDone) (h : History) (k : ℕ) (e : BookEntry)
      → DoneFound config ended from to number what own done → slice_get (entries ended h) k ≡ Some e
      → is_done what own done h k e ≡ true → HasItsAck (entries ended) e
  done_paired (did.Switched cut) h k e found there is = unpaired_switch (entries ended) (switch_of what) h e
      (and_parts (switches (switch_of what) h e) (nat_eq (k + 1) cut) is).0
  done_paired (did.Recovered slot) h k e found there is =
      unpaired_opening (entries ended) (recovery_of what) slot h e is
  done_paired (did.Trimmed ack) h k e found there is =
      let two = and_parts (is_own own h k) (trims (bound_of what) ack h e) is in
      trim_paired ended from to number what own ack found.trimmed h e two.1 (found.owns.under h k e there two.0)
  done_paired (did.Retired slot) h k e found there is = retirement_paired (entries ended) (withdrawal_of what) slot h e
      (and_parts (is_own own h k) (retires (withdrawal_of what) slot h e) is).1

  -- ---- what it found stands between its marks

  pub done_stands : (done : ControlDone) → DoneFound config ended from to number what own done
      → IsDoneBetween ended from to number what own done
  done_stands (did.Switched cut) found = found
  done_stands (did.Recovered slot) found = found
  done_stands (did.Trimmed ack) found = found.trimmed
  done_stands (did.Retired slot) found = found.retired

  -- once in the history of the range that was trimmed, or of which a replica was retired
  pub done_once : (done : ControlDone) (made : History → List BookEntry) → DoneMade config what done made
      → DoneFound config ended from to number what own done
      → ((h : History) → filter (λ e. nat_eq (book_entry_pass e) number) (between (from h) (to h) (entries ended h))
      ≡ made h)
      → IsWithin entries to ended → IsDoneOnce own done
  done_once (did.Switched cut) made makes found exact within = tt
  done_once (did.Recovered slot) made makes found exact within = tt
  done_once (did.Trimmed ack) made makes found exact within =
      one_place ended from to number own found.owns (trims (bound_of what) ack) made makes exact within
  done_once (did.Retired slot) made makes found exact within =
      one_place ended from to number own found.owns (retires (withdrawal_of what) slot) made makes exact within

-- ---- and between wider marks, and as histories grow

module _ (seen more : Histories) (from to first last : History → ℕ) (low : AreBelow first from) (high : AreBelow to last)
    (leaves : (leaf : Leaf) → IsPrefix (leaf_history seen leaf) (leaf_history more leaf))
    (ranges : (range : Range) → IsPrefix (range_history seen range) (range_history more range))
    (number : ℕ) (what : LineForm) (own : List OwnPlace) where
  pub done_wider : (done : ControlDone) → IsDoneBetween seen from to number what own done
      → IsDoneBetween more first last number what own done
  done_wider (did.Switched cut) found =
      switched_wider seen more from to first last low high leaves ranges number what cut found
  done_wider (did.Recovered slot) found =
      recovered_wider seen more from to first last low high leaves ranges number what slot found
  done_wider (did.Trimmed ack) found =
      trimmed_wider seen more from to first last low high leaves ranges number what own ack found
  done_wider (did.Retired slot) found =
      retired_wider seen more from to first last low high leaves ranges number what own slot found

  -- all that it found, where that goes for the line's own places and for leaves that were found down
  pub done_still : (config : Config) → (AreOwn seen from to number own → AreOwn more first last number own)
      → ((found : FoundDown) → IsFoundBetween (marked from) (marked to) seen found
      → IsFoundBetween (marked first) (marked last) more found)
      → (done : ControlDone) → DoneFound config seen from to number what own done
      → DoneFound config more first last number what own done
  done_still config owns missed (did.Switched cut) found = done_wider (did.Switched cut) found
  done_still config owns missed (did.Recovered slot) found = done_wider (did.Recovered slot) found
  done_still config owns missed (did.Trimmed ack) found = record {
    trimmed = done_wider (did.Trimmed ack) found.trimmed;
    owns = owns found.owns;
    missed = all_as _ _ (λ miss is. missed (record { leaf = miss.leaf; cut = miss.cut }) is) ack.missed found.missed;
  }
  done_still config owns missed (did.Retired slot) found = record {
    retired = done_wider (did.Retired slot) found.retired;
    owns = owns found.owns;
  }
