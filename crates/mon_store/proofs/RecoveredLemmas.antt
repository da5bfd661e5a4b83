-- How a recovery at its range's cell ends is how a recovery of the store ends.
use Rattle.std.proofs.Common.{◌≡◌, ℕ, ◌+◌, ◌<◌, ◌≤◌, true, List, [], ◌∷◌, ◌++◌, length, map, filter, Some, None}
use Rattle.std.proofs.Common.{nat_eq, refl, sym, ap, subst, ◌∙◌, arith, append-nil, append_assoc}
use Rattle.std.specs.Prelude.{Result, Ok, Err, Contains, IfErr, IfOk, OnErr, option_map}
use mathlib.Core.List.{IsPrefix}
use Rattle.std.proofs.lemmas.Bool.Decides.{nat_tests}
use Rattle.std.proofs.lemmas.List.{map-append}
use Rattle.std.proofs.lemmas.List.Elements.{Contains-push}
use Rattle.history_book.proofs.ListLemmas.{prefix_contains, prefix_refl}
use Rattle.history_book.specs.Histories.{entries, is_under}
use Rattle.history_book.specs.Seats.{IsPurseBorneOut, kept_with, length_note, times_range, times_room}
use Rattle.history_book.specs.declared.views.BookEntry.{BookEntry}
use Rattle.history_book.specs.declared.views.BookEntry.TheVariants as one
use Rattle.history_book.specs.declared.views.History.{History}
use Rattle.history_book.specs.declared.views.History.TheVariants as of
use Rattle.history_book.specs.declared.views.Kept.{Kept}
use Rattle.know.specs.Knowledge.{Knowledge, stopped_count}
use Rattle.mon_config.specs.declared.config.Config.{Config}
use Rattle.mon_topo.proofs.FrontLemmas.{begins_push, begins_same, begins_through}
use Rattle.mon_topo.specs.HeldHistories.{BeginsWith}
use Rattle.mon_topo.specs.RangeHistories.{left_rows, serving}
use Rattle.mon_topo.specs.Settings.{Setting}
use Rattle.mon_topo.specs.Zones.{leaves_in}
use Rattle.mon_value.specs.Histories.{leaf_history, range_history}
use Rattle.mon_value.specs.declared.histories.Entry.{Entry}
use Rattle.mon_value.specs.declared.histories.Entry.TheVariants as entry
use Rattle.mon_value.specs.declared.histories.RangeEntry.{RangeEntry}
use Rattle.mon_value.specs.declared.histories.RangeEntry.TheVariants as range_entry
use Rattle.mon_value.specs.declared.positions.FoundDown.{FoundDown}
use Rattle.mon_value.specs.declared.positions.Leaf.{Leaf}
use Rattle.mon_value.specs.declared.positions.Range.{Range}
use Rattle.mon_value.specs.declared.positions.Slot.{Slot}
use Rattle.owners.specs.Calls.{HasCalled, kept_with_all}
use Rattle.owners.specs.Puts.{pass_of}
use Rattle.mon_store.proofs.AddedLemmas.{entries_with}
use Rattle.mon_store.proofs.CarriedLemmas.{HasGoneOver, HasReturned, asked_carried, asked_found, front_begins}
use Rattle.mon_store.proofs.CarriedLemmas.{over_carried, over_down, over_found, over_up}
use Rattle.mon_store.proofs.GrownLemmas.{HasComeBehind, many_seen}
use Rattle.mon_store.proofs.OwnLemmas.{prefix_from}
use Rattle.mon_store.proofs.RefusedLemmas.{given_back}
use Rattle.mon_store.proofs.WriteLemmas.{IsCarried, added_new, added_own, added_still, all_counted, has_own, own_is}
use Rattle.mon_store.proofs.WriteLemmas.{same_pass, unwritten, written_pass}
use Rattle.mon_store.specs.Passes.{IsPass}
use Rattle.mon_store.specs.Recoveries.{IsMoved, IsNotRecovered, IsNotRecoveredAs, IsRecovered, IsUnrecovered}
use Rattle.mon_store.specs.Recoveries.{WasSourceUp, WereFoundDown, opened}
use Rattle.mon_store.specs.Writes.{IsStill, IsUnwritten, WasFoundSo, only_in, own_entries}
use Rattle.running_query.specs.Ends.{WasFoundDown, WasFoundUp}
use Rattle.range_cell.proofs.HoldingLemmas.{looked_so}
use Rattle.range_cell.proofs.LookingLemmas.{down_now, looks_on, up_on}
use Rattle.range_cell.specs.Calls.{HasBegun, HasGivenBack, HasMetRange}
use Rattle.range_cell.specs.Recoveries.{AtItsLeaf, AtLock, Behind, HasCarried, HasFoundNoMemory}
use Rattle.range_cell.specs.Recoveries.{HasFoundTargetDown, HasNotRecovered, HasOpened, HasRecovered, HasReturned as HasComeBack}
use Rattle.range_cell.specs.Recoveries.{IsFoundDown, IsFoundUp, IsLooking, OnTheWay, RanShort, after_copying}
use Rattle.range_cell.specs.declared.answers.RecoverFault.{RecoverFault}
use Rattle.range_cell.specs.declared.answers.RecoverFault.TheVariants as fault
use Rattle.write_core.specs.Recovering.{denial_of}
use Rattle.write_core.specs.declared.copies.Denial.TheVariants.{ServesFully, ServesThere, SlotsSpent}
use Rattle.running_query.proofs.GoingLemmas.{fronts_through}

-- ---- the count of rows alone is another

abbrev counting : ℕ → Knowledge → Knowledge
counting n know = record { hints = know.hints; seen = know.seen; purse = know.purse; handed = n }

pass_counted : (setting : Setting) (n : ℕ) (know : Knowledge) → IsPass setting (counting n know) → IsPass setting know
pass_counted setting n know is = record {
  number = is.number;
  holds = is.holds;
  rooms = is.rooms;
  begun = is.begun;
  exact = is.exact;
  borne_out = is.borne_out;
}

moved_by : (n : ℕ) (before after : Knowledge) → IsStill before (counting n after) → IsMoved before after
moved_by n before after still = record {
  fronts = still.fronts;
  number = still.number;
  met = still.met;
  stock = still.stock;
  lost = still.lost;
}

unrecovered_by : (n : ℕ) (before after : Knowledge) → IsUnwritten before (counting n after)
    → IsUnrecovered before after
unrecovered_by n before after h = record {
  moved = moved_by n before after h.still;
  own = h.own;
  none = h.none;
}

-- ---- what a recovery that only looked leaves

module _ (setting : Setting) (config : Config) (leaves : ℕ) (range : Range) (leaf : Leaf) (before after : Knowledge)
    (is : IsPass setting before) (borne : IsPurseBorneOut after.seen after.purse)
    (counted : leaves ≡ length (leaves_in config.topology)) where
  abbrev then : Knowledge
  then = counting before.handed after

  -- what every refusal leaves
  record IsLeft : Type 0 where
    carried : IsCarried before then
    own : after.purse.own ≡ before.purse.own

  left_pass : IsLeft → IsPass setting after
  left_pass left = pass_counted setting before.handed after (same_pass setting before then is left.carried borne left.own)

  left_unrecovered : IsLeft → IsUnrecovered before after
  left_unrecovered left =
      unrecovered_by before.handed before after (unwritten setting before then is left.carried borne left.own)

  asked_left : HasMetRange leaves range before.purse.holds before after → IsLeft
  asked_left met =
      let carried = asked_carried setting config leaves range before after is counted met in
      record {
        carried = record {
          fronts = carried.fronts;
          met = carried.met;
          stock = carried.stock;
          lost = carried.lost;
          handed = refl;
          holds = carried.holds;
          rooms = carried.rooms;
        };
        own = met.own;
      }

  -- ---- behind the lock

  module _ (history : List RangeEntry) (begun : Knowledge) (begins : HasBegun leaves range history before begun) where
    begun_held : 0 < times_range range begun.purse.holds
    begun_held = subst (λ (xs : List Range). 0 < times_range range xs) (sym begins.met.holding) begins.some

    no_more : (n : ℕ) → n ≡ n + 0
    no_more n = omega arith

    module _ (n : ℕ) (mid : Knowledge) (looking : IsLooking range n begun mid) where
      abbrev there : Knowledge
      there = counting begun.handed mid

      looked_over : HasGoneOver begun there
      looked_over = record {
        fronts = looking.fronts;
        rooms = λ l. ap (times_room l) looking.rooms ∙ no_more (times_room l begun.purse.rooms);
        more = looking.notes.0;
        notes = looking.notes.1;
        holds = looking.holds;
        met = looking.met;
        stock = looking.stock;
        lost = looking.lost;
        handed = refl;
      }

      module _ (back : HasGivenBack leaves range history mid after) where
        came_back : HasReturned leaves range history there then
        came_back =
            let was = given_back leaves range history mid after back in
            record {
              fronts = was.fronts;
              notes = was.notes;
              met = was.met;
              stock = was.stock;
              lost = was.lost;
              rooms = was.rooms;
              holding = was.holding;
              handed = sym begins.met.handed;
            }

        looked_left : IsLeft
        looked_left = record {
          carried = over_carried setting config leaves range before then is counted history begun there begins
              looked_over came_back;
          own = back.met.own ∙ looking.own ∙ begins.met.own;
        }

        looked_found : WasFoundSo config range history before after
        looked_found =
            let was = over_found setting config leaves range before then is counted history begun there begins looked_over
            came_back (begins_same (range_history after.seen range) history back.whole) in
            record { more = was.more; notes = was.notes; from = was.from; to = was.to }

        looked_down : (at : Leaf) (cut : ℕ) → IsFoundDown begun mid at cut → WasFoundDown before after at cut
        looked_down at cut down =
            let noted = down.noted in
            let was = over_down setting config leaves range before then is counted history begun there begins looked_over
            came_back at cut down.down (record {
              more = noted.more;
              notes = noted.notes;
              noted = noted.noted;
              low = noted.low;
            }) in
            record { more = was.more; notes = was.notes; noted = was.noted; from = was.from; down = was.down }

        looked_up : (at : Leaf) (cut : ℕ) → IsFoundUp begun mid at cut → WasFoundUp before after at cut
        looked_up at cut found =
            let noted = found.noted in
            let was = over_up setting config leaves range before then is counted history begun there begins looked_over
            came_back at cut found.seen_by_then found.up (record {
              more = noted.more;
              notes = noted.notes;
              noted = noted.noted;
              low = noted.low;
            }) in
            record {
              more = was.more;
              notes = was.notes;
              noted = was.noted;
              from = was.from;
              seen_by_then = was.seen_by_then;
              up = was.up;
            }

    -- ---- the leaf was down, or had no memory

    target_down : (cut : ℕ) → HasCarried leaves range leaf history (pass_of before) begun after
        (λ mid. HasFoundTargetDown leaves range leaf history (pass_of before) mid after cut)
        → IsLeft × WasFoundSo config range history before after × WasFoundDown before after leaf cut
        × WasSourceUp before after (serving history)
    target_down cut h =
        let met = h.ends in
        let source = h.source in
        let n = after_copying history begun in
        let looking = looks_on range n n begun h.mid met.then h.looking begun_held leaf met.at_leaf.history
        met.at_leaf.called met.at_leaf.rooms_are (met.at_leaf.handed ∙ h.looking.counted) in (
          looked_left n met.then looking met.back,
          looked_found n met.then looking met.back,
          looked_down n met.then looking met.back leaf cut
              (down_now range n n begun h.mid met.then h.looking begun_held leaf met.at_leaf.history met.at_leaf.called
              cut met.at_leaf.down met.at_leaf.counted),
          record {
            source = source.source;
            among = source.among;
            cut = source.cut;
            up = looked_up n met.then looking met.back source.source.leaf source.cut
                (up_on range n n begun h.mid met.then h.looking begun_held leaf met.at_leaf.history met.at_leaf.called
                source.source.leaf source.cut source.found);
          },
        )

    no_memory : HasCarried leaves range leaf history (pass_of before) begun after
        (λ mid. HasFoundNoMemory leaves range leaf history (pass_of before) mid after) → IsLeft
    no_memory h =
        let met = h.ends in
        let n = after_copying history begun in
        looked_left n met.then
        (looks_on range n n begun h.mid met.then h.looking begun_held leaf met.at_leaf.history met.at_leaf.called
        met.at_leaf.rooms_are (met.at_leaf.handed ∙ h.looking.counted)) met.back

    come_back : (why : RecoverFault)
        → HasComeBack leaves range leaf history (pass_of before) begun after why → IsLeft
    come_back why h =
        let looked = looked_so range history begun h.mid why h.copied in
        looked_left looked.0 h.mid looked.1 h.back

    source_down : (founds : List FoundDown)
        → HasComeBack leaves range leaf history (pass_of before) begun after (fault.SourceDown founds)
        → WasFoundSo config range history before after × WereFoundDown before after (serving history) founds
    source_down founds h = (
      looked_found begun.handed h.mid h.copied.0 h.back,
      record {
        leaves = h.copied.1.leaves;
        down = λ found there. looked_down begun.handed h.mid h.copied.0 h.back found.leaf found.cut
            (h.copied.1.down found there);
      },
    )

    short_left : RanShort leaves range leaf history (pass_of before) begun after → IsLeft
    short_left (OnTheWay h) = come_back fault.OutOfMemory h
    short_left (AtItsLeaf h) = no_memory h

    -- ---- the replica was opened

    module _ (slot : Slot) (h : HasCarried leaves range leaf history (pass_of before) begun after
        (λ mid. HasOpened leaves range leaf history (pass_of before) mid after slot)) where
      abbrev pass : ℕ
      pass = pass_of before

      abbrev at_leaf : Entry
      at_leaf = entry.Opened pass range slot (left_rows history)

      abbrev e : RangeEntry
      e = range_entry.Opened pass slot leaf

      abbrev found : List Entry
      found = h.ends.at_leaf.history

      abbrev put : Knowledge
      put = h.ends.opened

      called : HasCalled leaf found (at_leaf ∷ []) h.mid put
      called = h.ends.at_leaf.called

      abbrev there_then : Knowledge
      there_then = counting begun.handed put

      opened_over : HasGoneOver begun there_then
      opened_over = record {
        fronts = fronts_through begun.seen h.mid.seen put.seen h.looking.fronts called.fronts;
        rooms = λ l. ap (times_room l) (h.ends.at_leaf.rooms_are ∙ h.looking.rooms)
            ∙ no_more (times_room l begun.purse.rooms);
        more = h.looking.notes.0 ++ length_note leaf.0 (length found) ∷ [];
        notes = called.notes ∙ ap (λ xs. xs ++ length_note leaf.0 (length found) ∷ []) h.looking.notes.1
            ∙ append_assoc begun.purse.notes h.looking.notes.0 (length_note leaf.0 (length found) ∷ []);
        holds = called.holds ∙ h.looking.holds;
        met = called.met ∙ h.looking.met;
        stock = called.stock ∙ h.looking.stock;
        lost = called.lost ∙ h.looking.lost;
        handed = refl;
      }

      told_back : HasReturned leaves range history there_then then
      told_back = record {
        fronts = h.ends.entered.fronts;
        notes = h.ends.entered.notes;
        met = h.ends.entered.met;
        stock = h.ends.entered.stock;
        lost = h.ends.entered.lost;
        rooms = h.ends.entered.rooms;
        holding = h.ends.entered.holding;
        handed = sym begins.met.handed;
      }

      carried : IsCarried before then
      carried =
          over_carried setting config leaves range before then is counted history begun there_then begins opened_over
          told_back

      abbrev new : History → List BookEntry
      new = opened pass range slot leaf (left_rows history)

      under : (n : ℕ) → nat_eq n n ≡ true
      under n = grind (arith, nat_tests)

      -- it came behind all that had been seen of the leaf
      leaf_came : HasComeBehind before then (of.Leaf leaf) (one.Leaf at_leaf)
      leaf_came = record {
        mid = map (λ x. one.Leaf x) found;
        from = prefix_from (λ x. one.Leaf x) (leaf_history before.seen leaf) found
            (begins_through (leaf_history before.seen leaf) (leaf_history h.mid.seen leaf) found
            (front_begins (leaf_history h.mid.seen leaf) (leaf_history before.seen leaf)
            ((fronts_through before.seen begun.seen h.mid.seen begins.met.fronts h.looking.fronts).0 leaf))
            called.front);
        to = subst (λ (xs : List BookEntry). IsPrefix xs (entries after.seen (of.Leaf leaf)))
            (ap (map (λ x. one.Leaf x)) called.whole ∙ map-append (λ x. one.Leaf x) found (at_leaf ∷ []))
            (prefix_from (λ x. one.Leaf x) (leaf_history put.seen leaf) (leaf_history after.seen leaf)
            (front_begins (leaf_history after.seen leaf) (leaf_history put.seen leaf)
            (h.ends.entered.fronts.0 leaf)));
        under = under pass;
      }

      -- and of the range
      range_came : HasComeBehind before then (of.Range range) (one.Range e)
      range_came = record {
        mid = map (λ x. one.Range x) history;
        from = prefix_from (λ x. one.Range x) (range_history before.seen range) history
            (subst (λ (g : List RangeEntry). BeginsWith g (range_history before.seen range)) begins.whole
            (front_begins (range_history begun.seen range) (range_history before.seen range)
            (begins.met.fronts.1 range)));
        to = subst (λ (xs : List BookEntry). IsPrefix xs (entries after.seen (of.Range range)))
            (ap (map (λ x. one.Range x)) h.ends.entered.whole ∙ map-append (λ x. one.Range x) history (e ∷ []))
            (prefix_refl (entries after.seen (of.Range range)));
        under = under pass;
      }

      many : (whose : History) → length (own_entries before.purse.own whose ++ new whose)
          ≤ length (filter (is_under pass) (entries after.seen whose))
      many (of.Leaf l) =
          subst (λ (xs : List BookEntry). length (own_entries before.purse.own (of.Leaf l) ++ xs)
          ≤ length (filter (is_under pass) (entries after.seen (of.Leaf l))))
          (sym (append-nil (only_in (of.Leaf leaf) (one.Leaf at_leaf) (of.Leaf l))))
          (many_seen setting before then is carried.fronts (of.Leaf leaf) (one.Leaf at_leaf) leaf_came (of.Leaf l))
      many (of.Range r) =
          many_seen setting before then is carried.fronts (of.Range range) (one.Range e) range_came (of.Range r)

      -- ---- what is kept under the number

      abbrev first : Kept
      first = (has_own before is.number).kept

      abbrev second : Kept
      second = kept_with (of.Leaf leaf) (one.Leaf at_leaf) first

      abbrev last : Kept
      last = kept_with (of.Range range) (one.Range e) second

      own : after.purse.own ≡ Some last
      own =
          h.ends.entered.own
          ∙ ap (option_map (kept_with (of.Range range) (one.Range e)))
          (called.own ∙ ap (option_map (kept_with_all leaf (at_leaf ∷ [])))
          (h.looking.own ∙ begins.met.own ∙ (has_own before is.number).is))

      added : (whose : History) → entries last.own whose ≡ own_entries before.purse.own whose ++ new whose
      added whose =
          let leaf_here = only_in (of.Leaf leaf) (one.Leaf at_leaf) whose in
          let range_here = only_in (of.Range range) (one.Range e) whose in
          entries_with (of.Range range) whose (one.Range e) second.own tt
          ∙ ap (λ (xs : List BookEntry). xs ++ range_here)
          (entries_with (of.Leaf leaf) whose (one.Leaf at_leaf) first.own tt
          ∙ ap (λ (xs : List BookEntry). xs ++ leaf_here)
          (sym (own_is before.purse.own first whose (has_own before is.number).is)))
          ∙ append_assoc (own_entries before.purse.own whose) leaf_here range_here

      number : last.number ≡ pass
      number = (has_own before is.number).number

      all_seen : (whose : History) → filter (is_under pass) (entries then.seen whose) ≡ entries last.own whose
      all_seen = all_counted setting before then is carried borne new last own number added many

      recovered_pass : IsPass setting after
      recovered_pass =
          pass_counted setting before.handed after
          (written_pass setting before then is carried borne new last own number added all_seen)

      is_recovered : denial_of history leaf ≡ None → IsRecovered config range leaf before after slot
      is_recovered free = record {
        history = history;
        found =
            let was = over_found setting config leaves range before then is counted history begun there_then begins
            opened_over told_back
            (subst (λ (g : List RangeEntry). BeginsWith g history) (sym h.ends.entered.whole) (begins_push history e)) in
            record { more = was.more; notes = was.notes; from = was.from; to = was.to };
        free = free;
        next = h.ends.slot_is;
        on_leaf = prefix_contains (leaf_history put.seen leaf) (leaf_history after.seen leaf) at_leaf
            (h.ends.entered.fronts.0 leaf)
            (subst (λ (x : List Entry). Contains x at_leaf) (sym called.whole) (Contains-push found at_leaf));
        told = h.ends.entered.whole;
        own = added_own setting before then is carried borne new last own number added all_seen;
        new = added_new setting before then is carried borne new last own number added all_seen;
        moved = moved_by before.handed before after
            (added_still setting before then is carried borne new last own number added all_seen);
        handed = h.ends.entered.handed ∙ h.ends.at_leaf.handed ∙ h.looking.counted
            ∙ ap (λ (n : ℕ). stopped_count (n + length (left_rows history))) begins.met.handed;
      }

  -- ---- by the answer

  left_so : (why : RecoverFault) → HasNotRecovered leaves range leaf (pass_of before) before after why → IsLeft
  left_so (fault.Serving slot) h = asked_left h.met
  left_so fault.ThreeServing h = asked_left h.met
  left_so (fault.SlotsSpent count) h = asked_left h.met
  left_so (fault.SourceDown founds) h = come_back h.history h.begun h.begins (fault.SourceDown founds) h.ends
  left_so (fault.TargetDown cut) h = (target_down h.history h.begun h.begins cut h.ends).0
  left_so fault.OutOfMemory (AtLock met) = asked_left met
  left_so fault.OutOfMemory (Behind h) = short_left h.history h.begun h.begins h.ends

  asked_why : (why : List RangeEntry → Type 0) (met : HasMetRange leaves range before.purse.holds before after)
      → why (range_history after.seen range)
      → IsNotRecoveredAs config range leaf before after why
  asked_why why met is_so = record {
    history = range_history after.seen range;
    found = asked_found setting config leaves range before after is counted met;
    cause = is_so;
  }

  why_so : (why : RecoverFault) → HasNotRecovered leaves range leaf (pass_of before) before after why
      → IsNotRecovered config range leaf before after why
  why_so (fault.Serving slot) h =
      asked_why (λ g. denial_of g leaf ≡ Some (ServesThere slot)) h.met h.why
  why_so fault.ThreeServing h = asked_why (λ g. denial_of g leaf ≡ Some ServesFully) h.met h.why
  why_so (fault.SlotsSpent count) h =
      asked_why (λ g. denial_of g leaf ≡ Some (SlotsSpent count)) h.met h.why
  why_so (fault.SourceDown founds) h =
      let both = source_down h.history h.begun h.begins founds h.ends in
      record { history = h.history; found = both.0; cause = (h.free, both.1) }
  why_so (fault.TargetDown cut) h =
      let all = target_down h.history h.begun h.begins cut h.ends in
      record { history = h.history; found = all.1; cause = (h.free, all.2, all.3) }
  why_so fault.OutOfMemory h = tt

  abbrev Recovered : Result Slot RecoverFault → Type 0
  Recovered result = HasRecovered leaves range leaf (pass_of before) before after result

  pub ended_pass : (result : Result Slot RecoverFault) → Recovered result → IsPass setting after
  ended_pass (Ok slot) h = recovered_pass h.history h.begun h.begins slot h.ends
  ended_pass (Err why) h = left_pass (left_so why h)

  pub ended_recovered : (result : Result Slot RecoverFault) → Recovered result
      → IfOk result (IsRecovered config range leaf before after)
  ended_recovered (Ok slot) h = is_recovered h.history h.begun h.begins slot h.ends h.free
  ended_recovered (Err why) h = tt

  pub ended_refused : (result : Result Slot RecoverFault) → Recovered result
      → IfErr result (IsNotRecovered config range leaf before after)
  ended_refused (Ok slot) h = tt
  ended_refused (Err why) h = why_so why h

  pub ended_nothing : (result : Result Slot RecoverFault) → Recovered result
      → OnErr result (IsUnrecovered before after)
  ended_nothing (Ok slot) h = tt
  ended_nothing (Err why) h = left_unrecovered (left_so why h)
