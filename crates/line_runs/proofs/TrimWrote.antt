-- What a line owes that trimmed a range, and one that did not.
use Rattle.std.proofs.Common.{◌≡◌, ◌∙◌, ◌+◌, ◌≤◌, ◌&&◌, ◌++◌, ◌∷◌, ℕ, zero, suc, true, false, cond}
use Rattle.std.proofs.Common.{List, [], length, map, slice_get, Some, Ok, Err, refl, sym, ap, subst, arith}
use Rattle.std.specs.Prelude.{Contains, IfErr, IfOk, OnErr, Result, sum_by}
use Rattle.std.specs.List.{AllByRecursion, flat_map, list_any}
use Rattle.std.specs.Ordering.{int_eq}
use Rattle.std.proofs.lemmas.Bool.{false≢true, and_from, eq-eqb, or_left, or_right}
use Rattle.std.proofs.lemmas.Bool.Decides.{Decides-int_eq}
use Rattle.std.proofs.lemmas.List.Elements.{Contains-append_left, Contains-append_right}
use Rattle.std.proofs.lemmas.Option.{same_Some}
use Rattle.history_book.specs.Histories.{AreFronts, book_entry_pass, entries, same_history}
use Rattle.history_book.specs.Numbers.{times_among}
use Rattle.history_book.specs.declared.views.BookEntry.{BookEntry}
use Rattle.history_book.specs.declared.views.BookEntry.TheVariants as one
use Rattle.history_book.specs.declared.views.History.{History}
use Rattle.history_book.specs.declared.views.History.TheVariants as of
use Rattle.know.specs.Knowledge.{Knowledge}
use Rattle.line_runs.specs.Controls.{IsTrimRan, trim_told, untrimmed_told}
use Rattle.line_runs.specs.LineWrites.{KeepsItsPlace, LineRanSo, LineWrote, ran_line}
use Rattle.line_runs.specs.declared.lines.LineRan.{LineRan}
use Rattle.mon_config.specs.declared.config.Config.{Config}
use Rattle.mon_script.specs.declared.forms.LineForm.{LineForm}
use Rattle.mon_script.specs.declared.forms.LineForm.TheVariants as form
use Rattle.mon_store.specs.Trims.{IsNotTrimmed, IsTrimmed, trim_in, trimmed}
use Rattle.mon_store.specs.Writes.{IsUnwritten, only_in}
use Rattle.mon_topo.proofs.RangeHistoryLemmas.{get_there}
use Rattle.mon_value.specs.Histories.{range_history, same_range, same_slot}
use Rattle.mon_value.specs.declared.histories.Ack.{Ack}
use Rattle.mon_value.specs.declared.histories.Entry.TheVariants as entry
use Rattle.mon_value.specs.declared.histories.Miss.{Miss}
use Rattle.mon_value.specs.declared.histories.RangeEntry.TheVariants as range_entry
use Rattle.mon_value.specs.declared.positions.Leaf.{Leaf}
use Rattle.mon_value.specs.declared.positions.Range.{Range}
use Rattle.mon_value.specs.declared.positions.Slot.{Slot}
use Rattle.mon_value.specs.declared.positions.SlotLeaf.{SlotLeaf}
use Rattle.owners.specs.Puts.{pass_of}
use Rattle.query_traces.specs.Founds.{IsFoundBetween}
use Rattle.query_traces.specs.Traces.{lengths_of}
use Rattle.range_cell.specs.declared.answers.TrimFault.{TrimFault}
use Rattle.range_cell.specs.declared.answers.TrimFault.TheVariants as untrimmed
use Rattle.run_traces.proofs.ListFacts.{both_all}
use Rattle.run_traces.proofs.OwnPlaces.{are_own_places, own_places}
use Rattle.run_traces.specs.LineAsks.{Bound, bound_of}
use Rattle.run_traces.specs.LineCauses.{WereMissed}
use Rattle.run_traces.specs.LineClaims.{marked}
use Rattle.run_traces.specs.LineForms.{Suits}
use Rattle.run_traces.specs.LineSwitches.{IsAsked, StandsBetween}
use Rattle.run_traces.specs.LineTexts.{line_text}
use Rattle.run_traces.specs.LineTrims.{AreOwn, HasTrim, MadeOnly, StandsOwn, hides, trim_text, trims}
use Rattle.run_traces.specs.RanLines.{OwnPlace}
use Rattle.run_traces.specs.declared.line_files.LineFiles.{LineFiles}
use Rattle.run_traces.specs.declared.traces.ControlDone.TheVariants as did
use Rattle.run_traces.specs.declared.traces.LineTrace.TheVariants as came
use Rattle.run_traces.specs.declared.traces.TrimRefusal.{TrimRefusal}
use Rattle.run_traces.specs.declared.traces.TrimRefusal.TheVariants as unavailable
use Rattle.write_core.proofs.AckLemmas.{contains_map}
use Rattle.line_runs.proofs.Causes.{HasItsCause, founds_between}
use Rattle.line_runs.proofs.FeedCauses.{contained}
use Rattle.line_runs.proofs.FeedWrote.{Holds}
use Rattle.line_runs.proofs.Found.{all_found, at_marks, found_then, none_up, opened_then, those}
use Rattle.line_runs.proofs.Growing.{forth, grown, seen_of}
use Rattle.line_runs.proofs.NewEntries.{new_stands}
use Rattle.line_runs.proofs.SwitchWrote.{only_few, only_passes}
use Rattle.line_runs.proofs.Wrote.{OwnsAsMuch, refused_wrote}

-- ---- forms

-- a line that asks for a trim comes to one, or is refused
trim_suits : (what : LineForm) (bound : Bound) → bound_of what ≡ Some bound → (ack : Ack)
    → Suits what (came.Controlled (did.Trimmed ack))
trim_suits (form.Feed name) bound is ack = absurd cc
trim_suits (form.Pour first second) bound is ack = absurd cc
trim_suits (form.Ask asked) bound is ack = absurd cc
trim_suits (form.Follow moments text) bound is ack = absurd cc
trim_suits (form.Control control) bound is ack = subst IsAsked (sym is) tt
trim_suits (form.Standing line) bound is ack = absurd cc
trim_suits (form.Block mark) bound is ack = absurd cc

untrimmed_suits : (what : LineForm) (bound : Bound) → bound_of what ≡ Some bound → (fault : TrimRefusal)
    → Suits what (came.Refused (untrimmed_told fault))
untrimmed_suits (form.Feed name) bound is fault = absurd cc
untrimmed_suits (form.Pour first second) bound is fault = absurd cc
untrimmed_suits (form.Ask asked) bound is fault = absurd cc
untrimmed_suits (form.Follow moments text) bound is fault = absurd cc
untrimmed_suits (form.Control control) bound is fault = subst IsAsked (sym is) tt
untrimmed_suits (form.Standing line) bound is fault = absurd cc
untrimmed_suits (form.Block mark) bound is fault = absurd cc

-- ---- entries

-- each of some replicas is in one of their slots
all_named : (slots : List Slot) (some : List SlotLeaf)
    → ((slot : Slot) → list_any (same_slot slot) (map (λ (r : SlotLeaf). r.slot) some) ≡ true
    → list_any (same_slot slot) slots ≡ true)
    → AllByRecursion (λ (r : SlotLeaf). list_any (same_slot r.slot) slots ≡ true) some
all_named slots [] f = tt
all_named slots (r ∷ some) f = (
  f r.slot (or_left (same_slot r.slot r.slot)
      (list_any (same_slot r.slot) (map (λ (o : SlotLeaf). o.slot) some)) (eq-eqb r.slot.0 r.slot.0 refl)),
  all_named slots some (λ slot is. f slot (or_right (same_slot slot r.slot)
      (list_any (same_slot slot) (map (λ (o : SlotLeaf). o.slot) some)) is)),
)

-- ---- a range that was trimmed

module _ (config : Config) (what : LineForm) (bound : Bound) (asked : bound_of what ≡ Some bound) (content : LineFiles)
    (before after : Knowledge) (was : Holds config before) (is : Holds config after) where
  abbrev range : Range
  range = bound.range

  abbrev from : History → ℕ
  from = seen_of before.seen

  abbrev to : History → ℕ
  to = seen_of after.seen

  abbrev pass : ℕ
  pass = pass_of before

  abbrev own : List OwnPlace
  own = own_places pass from after.seen

  module _ (ack : Ack) (done : IsTrimmed config range bound.before before after ack) where
    abbrev hidden : SlotLeaf → BookEntry
    hidden replica = one.Leaf (entry.Trim pass range replica.slot bound.before)

    abbrev in_range : BookEntry
    in_range = one.Range (range_entry.Trimmed pass bound.before ack)

    abbrev on_leaves : History → List SlotLeaf → List BookEntry
    on_leaves h replicas = flat_map (trim_in pass range bound.before h) replicas

    abbrev made : History → List BookEntry
    made h = trimmed pass range bound.before ack done.took h

    same_bound : int_eq bound.before bound.before ≡ true
    same_bound = (Decides-int_eq bound.before bound.before).1 refl

    hides_leaf : (h : History) (replica : SlotLeaf) → list_any (same_slot replica.slot) ack.took ≡ true
        → same_history (of.Leaf replica.leaf) h ≡ true → hides bound ack h (hidden replica) ≡ true
    hides_leaf (of.Leaf other) replica named same =
        and_from (same_range range range && int_eq bound.before bound.before) (list_any (same_slot replica.slot) ack.took)
        (and_from (same_range range range) (int_eq bound.before bound.before) (eq-eqb range.0 range.0 refl) same_bound)
        named
    hides_leaf (of.Range other) replica named same = absurd (false≢true same)

    hides_range : (h : History) → same_history (of.Range range) h ≡ true → hides bound ack h in_range ≡ true
    hides_range (of.Leaf other) same = absurd (false≢true same)
    hides_range (of.Range other) same =
        and_from (same_range range other) (int_eq bound.before bound.before) same same_bound

    all_hide : (h : History) (some : List SlotLeaf)
        → AllByRecursion (λ (r : SlotLeaf). list_any (same_slot r.slot) ack.took ≡ true) some
        → AllByRecursion (λ e. hides bound ack h e ≡ true) (on_leaves h some)
    all_hide h [] named = tt
    all_hide h (replica ∷ some) named =
        both_all (λ e. hides bound ack h e ≡ true) (trim_in pass range bound.before h replica) (on_leaves h some)
        (only_passes (hides bound ack h) (hidden replica) (same_history (of.Leaf replica.leaf) h)
        (hides_leaf h replica named.0))
        (all_hide h some named.1)

    took_named : AllByRecursion (λ (r : SlotLeaf). list_any (same_slot r.slot) ack.took ≡ true) done.took
    took_named = all_named ack.took done.took
        (λ slot is. subst (λ (slots : List Slot). list_any (same_slot slot) slots ≡ true) done.took_are is)

    none_on_leaves : (other : Range) (some : List SlotLeaf) → on_leaves (of.Range other) some ≡ []
    none_on_leaves other [] = refl
    none_on_leaves other (replica ∷ some) = none_on_leaves other some

    range_made : (other : Range) → made (of.Range other) ≡ only_in (of.Range range) in_range (of.Range other)
    range_made other =
        ap (λ first. first ++ only_in (of.Range range) in_range (of.Range other)) (none_on_leaves other done.took)

    makes : MadeOnly (trims (bound_of what) ack) made
    makes = record {
      own = λ h. subst (λ o. AllByRecursion (λ e. trims o ack h e ≡ true) (made h)) (sym asked)
          (both_all (λ e. hides bound ack h e ≡ true) (on_leaves h done.took) (only_in (of.Range range) in_range h)
          (all_hide h done.took took_named)
          (only_passes (hides bound ack h) in_range (same_history (of.Range range) h) (hides_range h)));
      few = λ other. subst (λ all. length all ≤ 1) (sym (range_made other))
          (only_few in_range (same_range range other));
    }

    abbrev owns : AreOwn after.seen from to pass own
    owns = are_own_places pass from after.seen

    stands_own : (h : History) (e : BookEntry) → book_entry_pass e ≡ pass
        → StandsBetween (from h) (to h) (entries after.seen h) e → StandsOwn after.seen from to own h e
    stands_own h e under stands = record {
      place = stands.place;
      since = stands.since;
      until = stands.until;
      there = stands.there;
      mine = owns.all h stands.place e stands.there stands.since stands.until under;
    }

    told : StandsOwn after.seen from to own (of.Range range) in_range
    told = stands_own (of.Range range) in_range refl (new_stands before after (of.Range range) in_range 0
        (ap (λ new. slice_get new 0) (done.new (of.Range range) ∙ range_made range)
        ∙ ap (λ b. slice_get (cond b (in_range ∷ []) []) 0) (eq-eqb range.0 range.0 refl)))

    -- each replica that took the bound has its entry among these
    hidden_there : (replica : SlotLeaf) (some : List SlotLeaf) → Contains some replica
        → Contains (on_leaves (of.Leaf replica.leaf) some) (hidden replica)
    hidden_there replica [] there = absurd (omega (arith, there.1))
    hidden_there replica (first ∷ some) (zero, within, same) =
        Contains-append_left (trim_in pass range bound.before (of.Leaf replica.leaf) first)
        (on_leaves (of.Leaf replica.leaf) some) (hidden replica)
        (subst (λ (r : SlotLeaf). Contains (trim_in pass range bound.before (of.Leaf replica.leaf) r) (hidden replica))
        (sym same)
        (subst (λ b. Contains (cond b (hidden replica ∷ []) []) (hidden replica))
        (sym (eq-eqb replica.leaf.0 replica.leaf.0 refl)) (0, omega arith, refl)))
    hidden_there replica (first ∷ some) (suc k, within, same) =
        Contains-append_right (trim_in pass range bound.before (of.Leaf replica.leaf) first)
        (on_leaves (of.Leaf replica.leaf) some) (hidden replica)
        (hidden_there replica some (k, omega arith, same))

    trimmed_on : (replica : SlotLeaf) → Contains done.took replica
        → StandsOwn after.seen from to own (of.Leaf replica.leaf) (hidden replica)
    trimmed_on replica there =
        let among : Contains (made (of.Leaf replica.leaf)) (hidden replica) =
        Contains-append_left (on_leaves (of.Leaf replica.leaf) done.took)
        (only_in (of.Range range) in_range (of.Leaf replica.leaf)) (hidden replica)
        (hidden_there replica done.took there) in
        stands_own (of.Leaf replica.leaf) (hidden replica) refl
        (new_stands before after (of.Leaf replica.leaf) (hidden replica) among.0
        (ap (λ new. slice_get new among.0) (done.new (of.Leaf replica.leaf))
        ∙ get_there (made (of.Leaf replica.leaf)) among.0 (hidden replica) among.1 among.2))

    has_trim : (slot : Slot) → Contains ack.took slot → HasTrim after.seen from to pass what own bound slot
    has_trim slot there =
        let taken = contains_map (λ (r : SlotLeaf). r.slot) done.took slot
        (subst (λ (slots : List Slot). Contains slots slot) (sym done.took_are) there) in
        subst (HasTrim after.seen from to pass what own bound) taken.2 (record {
          leaf = taken.0.leaf;
          on = opened_then (range_history after.seen range) done.history done.found.to taken.0
              (done.served taken.0 taken.1);
          stands = trimmed_on taken.0 taken.1;
        })

    have_missed : WereMissed after.seen (marked from) (marked to) ack
    have_missed = at_marks before after (λ low high. WereMissed after.seen low high ack)
        (contained (λ (miss : Miss). IsFoundBetween (lengths_of before.seen) (lengths_of after.seen) after.seen
        (record { leaf = miss.leaf; cut = miss.cut })) ack.missed
        (λ miss there. found_then before after miss.leaf miss.cut (done.missed miss there)))

    trimmed_keeps : KeepsItsPlace before after
    trimmed_keeps = record {
      grown = grown before.seen after.seen done.still.fronts config.schemas config.topology config.range_points was is;
      number = done.still.number;
      met = done.still.met;
      stock = done.still.stock;
      lost = λ n. ap (sum_by (times_among n)) done.still.lost;
    }

    pub trimmed_wrote : LineWrote config (ran_line what content (came.Controlled (did.Trimmed ack)) own)
        (trim_text config.topology (Some bound) ack) before after
    trimmed_wrote = record {
      keeps = trimmed_keeps;
      made = made;
      makes = makes;
      own = done.own;
      found = record {
        forth = forth before.seen after.seen done.still.fronts;
        suits = trim_suits what bound asked ack;
        told = tt;
        cuts = λ other there. tt;
        found = record {
          trimmed = record {
            bound = bound;
            asked = asked;
            range_is = done.named.ranged;
            told = told;
            each = has_trim;
          };
          owns = owns;
          missed = have_missed;
        };
      };
      prints = ap (λ o. trim_text config.topology o ack) (sym asked);
    }

  -- ---- none was trimmed

  module _ (unwritten : IsUnwritten before after) where
    owns_as_much : OwnsAsMuch before after
    owns_as_much = record {
      grown = grown before.seen after.seen unwritten.still.fronts config.schemas config.topology config.range_points was
          is;
      fronts = unwritten.still.fronts;
      own = unwritten.own;
      met = unwritten.still.met;
      stock = unwritten.still.stock;
      lost = λ n. ap (sum_by (times_among n)) unwritten.still.lost;
    }

    abbrev Caused : TrimRefusal → Type 0
    Caused told = HasItsCause config what before after (untrimmed_told told)

    caused : (fault : TrimFault) → IsNotTrimmed config range before after fault → (told : TrimRefusal)
        → trim_told fault ≡ Some told → Caused told
    caused (untrimmed.Unavailable at founds) so told is =
        subst Caused (same_Some (unavailable.Unavailable at founds) told is)
        (subst (λ (r : Range). Caused (unavailable.Unavailable r founds)) (sym so.at_is) (record {
          cause = record {
            bound = bound;
            asked = asked;
            range_is = refl;
            none_up = none_up before after config range so.history so.found founds so.leaves so.down;
            those = those before after config range so.history so.found founds so.leaves so.down;
          };
          cuts = λ other there.
              founds_between before.seen after.seen other founds (all_found before after founds so.down);
        }))
    caused untrimmed.OutOfMemory so told is = absurd cc

    pub untrimmed_wrote : (fault : TrimFault) → IsNotTrimmed config range before after fault → (told : TrimRefusal)
        → trim_told fault ≡ Some told
        → LineWrote config (ran_line what content (came.Refused (untrimmed_told told)) [])
        (line_text config after.seen (ran_line what content (came.Refused (untrimmed_told told)) [])) before after
    untrimmed_wrote fault so told is =
        refused_wrote config what content before after owns_as_much (untrimmed_told told)
        (untrimmed_suits what bound asked told) (caused fault so told is)

  -- ---- however it ended

  pub trim_by : (result : Result Ack TrimFault) → IfOk result (IsTrimmed config range bound.before before after)
      → IfErr result (IsNotTrimmed config range before after) → OnErr result (IsUnwritten before after)
      → (line : LineRan) → IsTrimRan config.topology bound result line
      → LineRanSo config what content line before after
  trim_by (Ok ack) done refused unwritten line told = record {
    own = own;
    wrote = subst (λ (l : LineRan). LineWrote config (ran_line what content l.trace own) l.text before after) (sym told)
        (trimmed_wrote ack done);
  }
  trim_by (Err fault) done refused unwritten line told = record {
    own = [];
    wrote = subst (λ (l : LineRan). LineWrote config (ran_line what content l.trace []) l.text before after)
        (sym told.ran_is) (untrimmed_wrote unwritten fault refused told.told told.told_is);
  }

-- whatever stands in the line's content
pub trim_wrote : {F : Type 0} (config : Config) (what : LineForm) (bound : Bound) → bound_of what ≡ Some bound
    → (before after : Knowledge) → Holds config before → Holds config after → (result : Result Ack TrimFault)
    → IfOk result (IsTrimmed config bound.range bound.before before after)
    → IfErr result (IsNotTrimmed config bound.range before after) → OnErr result (IsUnwritten before after)
    → (ran : Result LineRan F) → IfOk ran (IsTrimRan config.topology bound result)
    → IfOk ran (λ line. (content : LineFiles) → LineRanSo config what content line before after)
trim_wrote config what bound asked before after was is result done refused unwritten (Ok line) ran_so = λ content.
    trim_by config what bound asked content before after was is result done refused unwritten line ran_so
trim_wrote config what bound asked before after was is result done refused unwritten (Err failed) ran_so = tt

-- what had been seen is seen
pub trim_fronts : (config : Config) (bound : Bound) (before after : Knowledge) (result : Result Ack TrimFault)
    → IfOk result (IsTrimmed config bound.range bound.before before after) → OnErr result (IsUnwritten before after)
    → AreFronts before.seen after.seen
trim_fronts config bound before after (Ok ack) done unwritten = done.still.fronts
trim_fronts config bound before after (Err fault) done unwritten = unwritten.still.fronts
