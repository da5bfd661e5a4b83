-- What a range's owner and its caller have once the caller came and went.
use Rattle.std.proofs.Common.{◌≡◌, ℕ, ◌+◌, ◌<◌, Bool, true, false, List, [], ◌∷◌, ◌++◌, length, filter, refl, sym, ap}
use Rattle.std.proofs.Common.{subst, ◌∙◌, inl, inr}
use Rattle.std.proofs.lemmas.Bool.{cases_eq}
use Rattle.std.proofs.lemmas.List.{append-nil}
use Rattle.std.specs.Prelude.{IfOk, OnErr, Ok, Err, Result, option_map}
use mathlib.Core.List.{IsPrefix}
use Rattle.history_book.proofs.ListLemmas.{added_else, prefix_push}
use Rattle.history_book.specs.declared.rooms.RoomMove.TheVariants as move
use Rattle.history_book.specs.declared.views.BookEntry.TheVariants as one
use Rattle.history_book.specs.declared.views.History.TheVariants as of
use Rattle.history_book.specs.Histories.{AreFronts, leaf_entry_is_about, with_book_entry}
use Rattle.history_book.specs.Seats.{Owner, after_append, after_own_learn, guest_seat, held_after, holds_after}
use Rattle.history_book.specs.Seats.{is_own_range, kept_with, length_note, times_range, with_guest}
use Rattle.know.specs.Knowledge.{Knowledge}
use Rattle.know.specs.Lending.{back_with, lent_seat, without_purse}
use Rattle.know.specs.Sound.{IsSound}
use Rattle.mon_topo.proofs.HeldLemmas.{range_same}
use Rattle.mon_topo.specs.HeldHistories.{AreHeld, with_range_entry}
use Rattle.mon_topo.specs.RangeHistories.{IsLegal, opened_slots, turns_since}
use Rattle.mon_topo.specs.Settings.{Setting}
use Rattle.mon_topo.specs.Zones.{ranges_in}
use Rattle.mon_value.specs.Histories.{joined_histories, leaf_history, range_history, range_numbered}
use Rattle.mon_value.specs.declared.histories.Histories.{Histories}
use Rattle.mon_value.specs.declared.histories.RangeEntry.{RangeEntry}
use Rattle.mon_value.specs.declared.positions.Leaf.{Leaf}
use Rattle.mon_value.specs.declared.positions.Range.{Range}
use Rattle.mon_value.specs.declared.positions.SlotLeaf.{SlotLeaf}
use Rattle.owners.proofs.EntryLemmas.{range_pushed, same_opened, same_range_entry, same_turns}
use Rattle.owners.specs.Owners.{IsOfRange, RangeView}
use Rattle.raise_table.proofs.KnowsLemmas.{meet_knows_both}
use Rattle.raise_table.specs.Seats.{met, without_notes}
use Rattle.raise_table.specs.declared.views.Hints.{Hints}
use Rattle.range_cell.proofs.RestLemmas.{more_held, others_rest, taken_back}
use Rattle.range_cell.specs.Answers.{takes, takes_so}
use Rattle.range_cell.specs.Calls.{HasAnswered, HasBegun, HasCome, HasEntered, HasMetRange, MayEnter}
use Rattle.range_cell.specs.Calls.{parted_owner}
use Rattle.range_cell.specs.Rest.{AreUnopened, HasJust, HaveJust, IsRangeAtRest, IsRangeHeld, others}
use Rattle.write_core.specs.Replays.{Replay}
use Rattle.write_core.specs.declared.asks.WriteTold.{WriteTold}
use Rattle.write_core.specs.declared.asks.WriteTold.TheVariants as told

-- who has seen all entries about a range knows which turns came to its replicas
pub just_same : (range : Range) (mine theirs : Histories) (replica : SlotLeaf) (history : List RangeEntry)
    → filter (leaf_entry_is_about range) (leaf_history mine replica.leaf)
    ≡ filter (leaf_entry_is_about range) (leaf_history theirs replica.leaf)
    → HasJust theirs range (turns_since replica.slot history) replica
    → HasJust mine range (turns_since replica.slot history) replica
just_same range mine theirs replica history about was = record {
  opened = same_opened range replica.slot (leaf_history mine replica.leaf) (leaf_history theirs replica.leaf) about
      ∙ was.opened;
  all = same_turns range replica.slot (leaf_history mine replica.leaf) (leaf_history theirs replica.leaf) about
      ∙ was.all;
}

-- and which leaves have none of its replicas
pub unopened_same : (range : Range) (mine theirs : Histories) (from : ℕ)
    → ((leaf : Leaf) → filter (leaf_entry_is_about range) (leaf_history mine leaf)
    ≡ filter (leaf_entry_is_about range) (leaf_history theirs leaf))
    → AreUnopened theirs range from → AreUnopened mine range from
unopened_same range mine theirs from about was slot leaf past =
    same_opened range slot (leaf_history mine leaf) (leaf_history theirs leaf) (about leaf) ∙ was slot leaf past

-- a replay with other room, of the same history
pub rest_as : (n : ℕ) (owner : RangeView) (replay other : Replay) → other.history ≡ replay.history
    → IsRangeAtRest n replay owner → IsRangeAtRest n other owner
rest_as n owner replay other same rest = record {
  range_is = rest.range_is;
  own = rest.own;
  free = rest.free;
  holds = rest.holds;
  only = rest.only;
  history = rest.history ∙ sym same;
  turns = subst (λ (h : List RangeEntry). HaveJust owner.book.seen owner.range h) (sym same) rest.turns;
}

module _ (leaves : ℕ) (know : Knowledge) (owner now : RangeView) (own : owner.book.history ≡ of.Range owner.range)
    (came : HasCome leaves know owner now) where
  abbrev joined : Histories
  joined = joined_histories owner.book.seen know.seen

  abbrev found : ℕ
  found = length (range_history owner.book.seen owner.range)

  abbrev visited : Owner
  visited = after_own_learn (leaves + owner.range.0) found (with_guest (lent_seat know) owner.book)

  abbrev visited_owner : RangeView
  visited_owner =
      record { range = owner.range; hints = met owner.hints (without_notes know.hints); book = visited }

  pub now_is : now ≡ visited_owner
  now_is = λ i. record { range = came.range i; hints = came.hints i; book = came.book i }

  module _ (hints : Hints) (quiet : hints.notes ≡ []) where
    no_notes : know.hints.notes ++ hints.notes ≡ know.hints.notes
    no_notes = ap (λ xs. know.hints.notes ++ xs) quiet ∙ append-nil know.hints.notes

    left_with : (hold : Bool) → HasMetRange leaves owner.range
        (holds_after hold (of.Range owner.range) owner.book.held know.purse.holds) know
        (back_with hints (guest_seat move.Keep hold visited) (without_purse know))
    left_with hold = record {
      fronts = came.fronts;
      notes = ap (λ k. know.purse.notes ++ length_note (leaves + owner.range.0) k ∷ []) (ap length (sym came.whole));
      own = refl;
      met = refl;
      stock = refl;
      lost = refl;
      rooms = refl;
      holding = ap (λ h. holds_after hold h owner.book.held know.purse.holds) own;
      hint_notes = no_notes;
      knows = (meet_knows_both know.hints hints (met know.hints hints) refl).0;
      handed = refl;
    }

  -- what a caller has that came and went, with the range or without it
  module _ (hold : Bool) (alone gone : Knowledge) (left : alone ≡ without_purse know)
      (back : gone ≡ back_with (without_notes now.hints) (guest_seat move.Keep hold now.book) alone) where
    gone_is : gone ≡ back_with (without_notes now.hints) (guest_seat move.Keep hold visited) (without_purse know)
    gone_is = back ∙ (λ i. back_with (without_notes now.hints) (guest_seat move.Keep hold (came.book i)) (left i))

    pub met_so : HasMetRange leaves owner.range
        (holds_after hold (of.Range owner.range) owner.book.held know.purse.holds) know gone
    met_so = subst (HasMetRange leaves owner.range
        (holds_after hold (of.Range owner.range) owner.book.held know.purse.holds) know) (sym gone_is)
        (left_with (without_notes now.hints) refl hold)

    pub seen_so : gone.seen ≡ joined
    seen_so = ap (λ (k : Knowledge). k.seen) gone_is

    pub whole_so : range_history gone.seen owner.range ≡ range_history owner.book.seen owner.range
    whole_so = ap (λ (s : Histories). range_history s owner.range) seen_so ∙ came.whole

  -- ---- with an entry

  module _ (replay : Replay) (is : range_history owner.book.seen owner.range ≡ replay.history) (e : RangeEntry) where
    abbrev grown : Histories
    grown = with_book_entry (of.Range owner.range) (one.Range e) joined

    abbrev entered_owner : RangeView → RangeView
    entered_owner o =
        record { range = o.range; hints = o.hints; book = after_append (one.Range e) o.book }

    grown_is : with_book_entry owner.book.history (one.Range e) joined ≡ grown
    grown_is = ap (λ h. with_book_entry h (one.Range e) joined) own

    pushed : range_history grown owner.range ≡ replay.history ++ e ∷ []
    pushed = range_pushed owner.range e joined ∙ ap (λ h. h ++ e ∷ []) (came.whole ∙ is)

    front_by : (other : Range) → IsPrefix (range_history know.seen other) (range_history grown other)
    front_by other = elim (cases_eq other.0 owner.range.0) [
      | inl same ↦
          subst (λ (r : Range). IsPrefix (range_history know.seen r) (range_history grown r))
          (sym (range_same other owner.range same))
          (subst (IsPrefix (range_history know.seen owner.range)) (sym (range_pushed owner.range e joined))
          (prefix_push (range_history know.seen owner.range) (range_history joined owner.range) e
          (came.fronts.1 owner.range)))
      | inr apart ↦
          subst (IsPrefix (range_history know.seen other))
          (sym (added_else owner.range.0 other.0 e joined.ranges apart)) (came.fronts.1 other)
    ]

    -- the range is at rest then, where it is held and its replicas have just what is acknowledged with the entry
    pub rests_with : owner.range ≡ range_numbered owner.range.0
        → 0 < times_range owner.range (held_after false owner.book.history owner.book.held know.purse.holds)
        → others owner.range (held_after false owner.book.history owner.book.held know.purse.holds) ≡ []
        → HaveJust joined owner.range (replay.history ++ e ∷ []) → (grows : Replay)
        → grows.history ≡ replay.history ++ e ∷ [] → (back : RangeView)
        → back ≡ parted_owner false (entered_owner now) → IsRangeAtRest owner.range.0 grows back
    rests_with range_is holds only just grows more back gone =
        subst (IsRangeAtRest owner.range.0 grows)
        (sym (gone ∙ ap (λ o. parted_owner false (entered_owner o)) now_is))
        (record {
          range_is = range_is;
          own = own;
          free = refl;
          holds = holds;
          only = only;
          history = ap (λ (s : Histories). range_history s owner.range) grown_is ∙ pushed ∙ sym more;
          turns = subst (λ (h : List RangeEntry).
              HaveJust (with_book_entry owner.book.history (one.Range e) joined) owner.range h) (sym more)
              (subst (λ (s : Histories). HaveJust s owner.range (replay.history ++ e ∷ [])) (sym grown_is) grown_just);
        })
      where
        grown_just : HaveJust grown owner.range (replay.history ++ e ∷ [])
        grown_just = record {
          turns = λ replica there.
              let has = just.turns replica there in
              record { opened = has.opened; all = has.all };
          fresh = just.fresh;
        }

    entered_with : (hints : Hints) → hints.notes ≡ []
        → HasEntered leaves owner.range replay.history e know
        (back_with hints (guest_seat move.Keep false (after_append (one.Range e) visited)) (without_purse know))
    entered_with hints quiet = record {
      fronts = subst (AreFronts know.seen) (sym grown_is) (came.fronts.0, front_by);
      whole = ap (λ (s : Histories). range_history s owner.range) grown_is ∙ pushed;
      notes = ap (λ k. know.purse.notes ++ length_note (leaves + owner.range.0) k ∷ []) (ap length is);
      own = ap (λ h. option_map (kept_with h (one.Range e)) know.purse.own) own;
      met = refl;
      stock = refl;
      lost = refl;
      rooms = refl;
      holding = ap (λ h. holds_after false h owner.book.held know.purse.holds) own;
      hint_notes = ap (λ xs. know.hints.notes ++ xs) quiet ∙ append-nil know.hints.notes;
      knows = (meet_knows_both know.hints hints (met know.hints hints) refl).0;
      handed = refl;
    }

    pub has_entered : (hints : Hints) (book : Owner) (alone gone : Knowledge)
        → book ≡ after_append (one.Range e) now.book → alone ≡ without_purse know
        → gone ≡ back_with (without_notes hints) (guest_seat move.Keep false book) alone
        → HasEntered leaves owner.range replay.history e know gone
    has_entered hints book alone gone book_is left back =
        subst (HasEntered leaves owner.range replay.history e know)
        (sym (back ∙ (λ i. back_with (without_notes hints)
        (guest_seat move.Keep false ((book_is ∙ ap (after_append (one.Range e)) came.book) i)) (left i))))
        (entered_with (without_notes hints) refl)

  -- what the replicas have, as the owner knew it
  module _ (replay : Replay) (rest : IsRangeAtRest owner.range.0 replay owner) where
    pub turns_kept : HaveJust joined owner.range replay.history
    turns_kept = record {
      turns = λ replica there. just_same owner.range joined owner.book.seen replica replay.history
          (came.kept owner.range replica.leaf rest.holds) (rest.turns.turns replica there);
      fresh = unopened_same owner.range joined owner.book.seen (length (opened_slots replay.history))
          (λ leaf. came.kept owner.range leaf rest.holds) rest.turns.fresh;
    }

    -- it went, and the range is at rest again
    pub rests : (back : RangeView) → back ≡ parted_owner false now → IsRangeAtRest owner.range.0 replay back
    rests back is =
        subst (IsRangeAtRest owner.range.0 replay) (sym (is ∙ ap (parted_owner false) now_is))
        (record {
          range_is = rest.range_is;
          own = rest.own;
          free = refl;
          holds = more_held owner.range owner.book.held (filter (is_own_range owner.book.history) know.purse.holds)
              rest.holds;
          only = ap (λ h. others owner.range (owner.book.held ++ filter (is_own_range h) know.purse.holds)) own
              ∙ others_rest owner.range owner.book.held know.purse.holds rest.only;
          history = came.whole ∙ rest.history;
          turns = turns_kept;
        })

    -- it went with the range
    pub rests_held : (back : RangeView) → back ≡ parted_owner true now → IsRangeHeld owner.range.0 replay back
    rests_held back is =
        subst (IsRangeHeld owner.range.0 replay) (sym (is ∙ ap (parted_owner true) now_is))
        (record {
          range_is = rest.range_is;
          own = rest.own;
          free = refl;
          lent = refl;
          history = came.whole ∙ rest.history;
        })

    pub has_begun : (alone gone : Knowledge) → alone ≡ without_purse know
        → gone ≡ back_with (without_notes now.hints) (guest_seat move.Keep true now.book) alone
        → HasBegun leaves owner.range replay.history know gone
    has_begun alone gone left back = record {
      lent = owner.book.held;
      met = met_so true alone gone left back;
      some = more_held owner.range owner.book.held know.purse.holds rest.holds;
      only = rest.only;
      whole = whole_so true alone gone left back ∙ rest.history;
      turns = subst (λ (s : Histories). HaveJust s owner.range replay.history) (sym (seen_so true alone gone left back))
          turns_kept;
    }

    -- by whether it went with the range
    module _ (none : know.purse.holds ≡ []) (hold : Bool) (back : RangeView) (went : back ≡ parted_owner hold now)
        (alone gone : Knowledge) (left : alone ≡ without_purse know)
        (is : gone ≡ back_with (without_notes now.hints) (guest_seat move.Keep hold now.book) alone) where
      went_by : (b : Bool) → hold ≡ b → gone ≡ back_with (without_notes now.hints) (guest_seat move.Keep b now.book) alone
      went_by b same = is ∙ ap (λ x. back_with (without_notes now.hints) (guest_seat move.Keep x now.book) alone) same

      pub if_held : hold ≡ true → HasBegun leaves owner.range replay.history know gone
          × IsRangeHeld owner.range.0 replay back
      if_held went_with = (
        has_begun alone gone left (went_by true went_with),
        rests_held back (went ∙ ap (λ b. parted_owner b now) went_with),
      )

      pub if_rests : hold ≡ false → HasMetRange leaves owner.range know.purse.holds know gone
          × IsRangeAtRest owner.range.0 replay back
      if_rests went_without = (
        subst (λ (holds : List Range). HasMetRange leaves owner.range holds know gone)
            (ap (λ holds. holds_after false (of.Range owner.range) owner.book.held holds) none ∙ sym none)
            (met_so false alone gone left (went_by false went_without)),
        rests back (went ∙ ap (λ b. parted_owner b now) went_without),
      )

    -- it went, and an entry came that asks nothing of leaves
    pub rests_so : (e : RangeEntry) → HaveJust joined owner.range (replay.history ++ e ∷ []) → (grows : Replay)
        → grows.history ≡ replay.history ++ e ∷ [] → (back : RangeView)
        → back ≡ parted_owner false (entered_owner replay rest.history e now) → IsRangeAtRest owner.range.0 grows back
    rests_so e just grows more back is =
        rests_with replay rest.history e rest.range_is
        (more_held owner.range owner.book.held (filter (is_own_range owner.book.history) know.purse.holds) rest.holds)
        (ap (λ h. others owner.range (owner.book.held ++ filter (is_own_range h) know.purse.holds)) own
        ∙ others_rest owner.range owner.book.held know.purse.holds rest.only)
        just grows more back is

  -- ---- the range comes back

  module _ (replay : Replay) (held : IsRangeHeld owner.range.0 replay owner)
      (holds : 0 < times_range owner.range know.purse.holds) where
    -- what the replicas have, as the caller knew it
    pub turns_brought : (history : List RangeEntry) → HaveJust know.seen owner.range history
        → HaveJust joined owner.range history
    turns_brought history just = record {
      turns = λ replica there. just_same owner.range joined know.seen replica history
          (came.held owner.range replica.leaf holds) (just.turns replica there);
      fresh = unopened_same owner.range joined know.seen (length (opened_slots history))
          (λ leaf. came.held owner.range leaf holds) just.fresh;
    }

    abbrev held_then : List Range
    held_then = held_after false owner.book.history owner.book.held know.purse.holds

    then_is : held_then ≡ filter (is_own_range (of.Range owner.range)) know.purse.holds
    then_is = λ i. held_after false (own i) (held.lent i) know.purse.holds

    pub holds_then : 0 < times_range owner.range held_then
    holds_then = subst (λ xs. 0 < times_range owner.range xs) (sym then_is)
        (subst (λ n. 0 < n) (sym (taken_back owner.range know.purse.holds)) holds)

    pub only_then : others owner.range held_then ≡ []
    only_then = ap (others owner.range) then_is ∙ others_rest owner.range [] know.purse.holds refl

    pub rests_back : HaveJust know.seen owner.range replay.history → (back : RangeView)
        → back ≡ parted_owner false now → IsRangeAtRest owner.range.0 replay back
    rests_back just back is =
        subst (IsRangeAtRest owner.range.0 replay) (sym (is ∙ ap (parted_owner false) now_is))
        (record {
          range_is = held.range_is;
          own = held.own;
          free = refl;
          holds = holds_then;
          only = only_then;
          history = came.whole ∙ held.history;
          turns = turns_brought replay.history just;
        })

    -- with an entry
    pub rests_entered : (e : RangeEntry) (grows : Replay) → grows.history ≡ replay.history ++ e ∷ []
        → HaveJust know.seen owner.range (replay.history ++ e ∷ []) → (back : RangeView)
        → back ≡ parted_owner false (entered_owner replay held.history e now) → IsRangeAtRest owner.range.0 grows back
    rests_entered e grows more just back is =
        rests_with replay held.history e held.range_is holds_then only_then
        (turns_brought (replay.history ++ e ∷ []) just) grows more back is

  -- what the owner has seen then stays sound with an entry that may come
  pub sound_with : (setting : Setting) (history : List RangeEntry) (e : RangeEntry)
      → ((seen : Histories) → AreFronts know.seen seen → range_history seen owner.range ≡ history
      → owner.range.0 < length seen.ranges → AreHeld setting.held setting.zones setting.points seen
      → AreHeld setting.held setting.zones setting.points (with_range_entry owner.range e seen))
      → range_history owner.book.seen owner.range ≡ history
      → IsSound setting now.hints now.book.seen → IsOfRange setting now.range now.book
      → IsSound setting now.hints (with_book_entry (of.Range now.range) (one.Range e) now.book.seen)
  sound_with setting history e may is sound of_range =
      let seen = now.book.seen in
      let seen_is : seen ≡ joined = ap (λ (o : Owner). o.seen) came.book in
      let here : owner.range.0 < length seen.ranges =
      subst (λ (n : ℕ). owner.range.0 < n) (sym sound.held.all_ranges)
      (subst (λ (r : Range). r.0 < length (ranges_in setting.zones)) came.range of_range.here) in
      subst (λ (r : Range). IsSound setting now.hints (with_book_entry (of.Range r) (one.Range e) seen)) (sym came.range)
      (record {
        held = subst (AreHeld setting.held setting.zones setting.points)
            (sym (same_range_entry owner.range e seen here))
            (may seen (subst (AreFronts know.seen) (sym seen_is) came.fronts)
            (ap (λ (s : Histories). range_history s owner.range) seen_is ∙ came.whole ∙ is) here sound.held);
        covered = sound.covered;
      })

  -- all of the range's own history is seen, which is legal
  pub legal_then : (setting : Setting) (history : List RangeEntry) → range_history owner.book.seen owner.range ≡ history
      → IsSound setting now.hints now.book.seen → IsOfRange setting now.range now.book
      → IsLegal setting.held setting.zones setting.points owner.range history
  legal_then setting history is sound of_range =
      let seen = now.book.seen in
      let here : now.range.0 < length seen.ranges =
      subst (λ (n : ℕ). now.range.0 < n) (sym sound.held.all_ranges) of_range.here in
      subst (λ (r : Range). IsLegal setting.held setting.zones setting.points r history) came.range
      (subst (IsLegal setting.held setting.zones setting.points now.range)
      ((λ i. range_history (came.book i).seen (came.range i)) ∙ came.whole ∙ is) (sound.held.legal now.range here))

  -- by what its holder knows
  pub sound_entered : (setting : Setting) (history : List RangeEntry) (e : RangeEntry)
      → MayEnter setting owner.range history e know → range_history owner.book.seen owner.range ≡ history
      → IsSound setting now.hints now.book.seen → IsOfRange setting now.range now.book
      → IsSound setting now.hints (with_book_entry (of.Range now.range) (one.Range e) now.book.seen)
  sound_entered setting history e may is sound of_range = sound_with setting history e may.held is sound of_range

-- ---- the answer at the lock

module _ (leaves : ℕ) (range : Range) (replay : Replay) (owner : RangeView) (before after : Knowledge) where
  abbrev pub Held : Type 0
  Held = HasBegun leaves range replay.history before after × IsRangeHeld range.0 replay owner

  abbrev pub Rests : Type 0
  Rests = HasMetRange leaves range before.purse.holds before after × IsRangeAtRest range.0 replay owner

  told_so : (told : WriteTold) (hold : Bool) → hold ≡ takes_so told → (hold ≡ true → Held) → (hold ≡ false → Rests)
      → HasAnswered leaves range replay owner told before after
  told_so (told.Slots replicas) hold is held rests = held is
  told_so (told.OldPoint last) hold is held rests = rests is
  told_so (told.RangeFull count) hold is held rests = rests is
  told_so (told.Up buckets) hold is held rests = tt
  told_so (told.Down cut) hold is held rests = tt
  told_so told.Done hold is held rests = tt

  pub answered_so : {E : Type 0} (r : Result WriteTold E) (hold : Bool) → hold ≡ takes r → (hold ≡ true → Held)
      → (hold ≡ false → Rests) → IfOk r (λ told. HasAnswered leaves range replay owner told before after)
  answered_so (Ok told) hold is held rests = told_so told hold is held rests
  answered_so (Err fault) hold is held rests = tt

  pub refused_so : {E : Type 0} (r : Result WriteTold E) (hold : Bool) → hold ≡ takes r → (hold ≡ false → Rests)
      → OnErr r Rests
  refused_so (Ok told) hold is rests = tt
  refused_so (Err fault) hold is rests = rests is
