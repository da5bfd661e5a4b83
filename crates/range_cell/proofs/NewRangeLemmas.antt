-- What a range's owner and its caller have once the openings of its first replicas were appended together.
use Rattle.std.proofs.Common.{◌≡◌, ◌≢◌, ℕ, ◌+◌, ◌<◌, false, List, [], ◌∷◌, ◌++◌, length, refl, sym, ap, subst, ◌∙◌}
use Rattle.std.proofs.Common.{inl, inr, get_or, Some, None, append-nil, append_assoc, arith}
use Rattle.std.proofs.lemmas.Bool.{cases_eq}
use Rattle.std.specs.Prelude.{Option, option_map}
use mathlib.Core.List.{IsPrefix}
use Rattle.history_book.proofs.ListLemmas.{added_else, added_here, prefix_trans}
use Rattle.history_book.specs.declared.rooms.RoomMove.TheVariants as move
use Rattle.history_book.specs.declared.views.BookEntry.TheVariants as one
use Rattle.history_book.specs.declared.views.History.{History}
use Rattle.history_book.specs.declared.views.History.TheVariants as of
use Rattle.history_book.specs.declared.views.Kept.{Kept}
use Rattle.history_book.specs.declared.views.Purse.{Purse}
use Rattle.history_book.specs.Histories.{added_at, with_book_entry}
use Rattle.history_book.specs.Seats.{Owner, after_append, after_own_learn, guest_purse, guest_seat, hand_of}
use Rattle.history_book.specs.Seats.{holds_after, kept_with, length_note, purse_with, times_range, with_guest}
use Rattle.know.specs.Knowledge.{Knowledge}
use Rattle.know.specs.Lending.{back_with, lent_seat, without_purse}
use Rattle.mon_topo.proofs.FrontLemmas.{begins_from, begins_itself}
use Rattle.mon_topo.proofs.HeldLemmas.{IsHeldBy-grows, range_same}
use Rattle.mon_topo.specs.HeldHistories.{IsHeldBy}
use Rattle.mon_value.specs.Histories.{joined_histories, leaf_history, range_history}
use Rattle.mon_value.specs.declared.histories.Histories.{Histories}
use Rattle.mon_value.specs.declared.histories.RangeEntry.{RangeEntry}
use Rattle.mon_value.specs.declared.positions.Range.{Range}
use Rattle.owners.specs.Owners.{RangeView, range_owner}
use Rattle.raise_table.proofs.KnowsLemmas.{meet_knows_both}
use Rattle.raise_table.specs.Seats.{met, without_notes}
use Rattle.raise_table.specs.declared.views.Hints.{Hints}
use Rattle.range_cell.proofs.MeetingLemmas.{holds_then, now_is, only_then, turns_brought}
use Rattle.range_cell.specs.Calls.{HasCome, parted_owner}
use Rattle.range_cell.specs.NewRanges.{HasOpenedFirst, added_all, after_entries, kept_with_entries, new_range_of}
use Rattle.range_cell.specs.NewRanges.{purse_with_entries, with_entries}
use Rattle.range_cell.specs.Rest.{AreUnopened, HaveJust, IsRangeAtRest, IsRangeHeld, others}
use Rattle.write_core.specs.Replays.{Replay}

-- ---- entries one after another

module _ {X : Type 0} where
  added_all_here : (n : ℕ) (xs : List X) (xss : List (List X))
      → get_or (added_all n xs xss) n [] ≡ get_or xss n [] ++ xs
  added_all_here n [] xss = sym (append-nil (get_or xss n []))
  added_all_here n (x ∷ xs) xss =
      added_all_here n xs (added_at n x xss) ∙ ap (λ h. h ++ xs) (added_here n x xss)
      ∙ append_assoc (get_or xss n []) (x ∷ []) xs

  added_all_else : (n m : ℕ) (xs : List X) (xss : List (List X)) → (m ≡ n → ⊥)
      → get_or (added_all n xs xss) m [] ≡ get_or xss m []
  added_all_else n m [] xss apart = refl
  added_all_else n m (x ∷ xs) xss apart =
      added_all_else n m xs (added_at n x xss) apart ∙ added_else n m x xss apart

  added_all_push : (n : ℕ) (xs : List X) (x : X) (xss : List (List X))
      → added_at n x (added_all n xs xss) ≡ added_all n (xs ++ x ∷ []) xss
  added_all_push n [] x xss = refl
  added_all_push n (y ∷ xs) x xss = added_all_push n xs x (added_at n y xss)

module _ (r : Range) (es : List RangeEntry) where
  pub range_with_entries : (seen : Histories) → range_history (with_entries r es seen) r ≡ range_history seen r ++ es
  range_with_entries seen = added_all_here r.0 es seen.ranges

  pub ranges_beside_entries : (seen : Histories) (other : Range) → other.0 ≢ r.0
      → range_history (with_entries r es seen) other ≡ range_history seen other
  ranges_beside_entries seen other apart = added_all_else r.0 other.0 es seen.ranges apart

  -- the leaves bear out the range as they did
  pub held_with_entries : (seen : Histories) (history : List RangeEntry) → IsHeldBy seen r history
      → IsHeldBy (with_entries r es seen) r history
  held_with_entries seen history =
      IsHeldBy-grows seen (with_entries r es seen) (λ leaf. begins_itself (leaf_history seen leaf)) r history

  number_in : (o : Option Kept) → option_map (λ (kept : Kept). kept.number) (option_map (kept_with_entries r es) o)
      ≡ option_map (λ (kept : Kept). kept.number) o
  number_in None = refl
  number_in (Some kept) = refl

  number_with : (g : Option Purse) → (hand_of (guest_purse (option_map (purse_with_entries r es) g))).own
      ≡ (hand_of (guest_purse g)).own
  number_with None = refl
  number_with (Some purse) = number_in purse.own

  -- the guest has the number that it had
  pub same_number : (o : Owner) → (hand_of (guest_purse (after_entries r es o).guest)).own
      ≡ (hand_of (guest_purse o.guest)).own
  same_number o = number_with o.guest

  module _ (e : RangeEntry) where
    kept_push : (o : Option Kept)
        → option_map (kept_with (of.Range r) (one.Range e)) (option_map (kept_with_entries r es) o)
        ≡ option_map (kept_with_entries r (es ++ e ∷ [])) o
    kept_push None = refl
    kept_push (Some kept) =
        ap (λ (xss : List (List RangeEntry)).
        Some (record { number = kept.number; own = record { leaves = kept.own.leaves; ranges = xss } }))
        (added_all_push r.0 es e kept.own.ranges)

    guest_push : (g : Option Purse)
        → option_map (purse_with (of.Range r) (one.Range e)) (option_map (purse_with_entries r es) g)
        ≡ option_map (purse_with_entries r (es ++ e ∷ [])) g
    guest_push None = refl
    guest_push (Some purse) =
        ap (λ (own : Option Kept). Some (record {
          own = own;
          met = purse.met;
          stock = purse.stock;
          lost = purse.lost;
          notes = purse.notes;
          rooms = purse.rooms;
          holds = purse.holds;
        })) (kept_push purse.own)

    -- one entry more
    pub after_push : (o : Owner) → o.history ≡ of.Range r
        → after_append (one.Range e) (after_entries r es o) ≡ after_entries r (es ++ e ∷ []) o
    after_push o own =
        let seen_push : with_book_entry o.history (one.Range e) (with_entries r es o.seen)
        ≡ with_entries r (es ++ e ∷ []) o.seen =
        ap (λ (h : History). with_book_entry h (one.Range e) (with_entries r es o.seen)) own
        ∙ ap (λ (xss : List (List RangeEntry)). record { leaves = o.seen.leaves; ranges = xss })
        (added_all_push r.0 es e o.seen.ranges) in
        let guests : option_map (purse_with o.history (one.Range e)) (option_map (purse_with_entries r es) o.guest)
        ≡ option_map (purse_with_entries r (es ++ e ∷ [])) o.guest =
        ap (λ (h : History). option_map (purse_with h (one.Range e)) (option_map (purse_with_entries r es) o.guest)) own
        ∙ guest_push o.guest in
        λ i. record {
          history = o.history;
          seen = seen_push i;
          promised = o.promised;
          held = o.held;
          notes = o.notes;
          guest = guests i;
        }

-- before the first
module _ (r : Range) where
  none_kept : (o : Option Kept) → o ≡ option_map (kept_with_entries r []) o
  none_kept None = refl
  none_kept (Some kept) = refl

  none_in : (g : Option Purse) → g ≡ option_map (purse_with_entries r []) g
  none_in None = refl
  none_in (Some purse) =
      ap (λ (own : Option Kept). Some (record {
        own = own;
        met = purse.met;
        stock = purse.stock;
        lost = purse.lost;
        notes = purse.notes;
        rooms = purse.rooms;
        holds = purse.holds;
      })) (none_kept purse.own)

  pub after_none : (o : Owner) → o ≡ after_entries r [] o
  after_none o =
      λ i. record {
        history = o.history;
        seen = o.seen;
        promised = o.promised;
        held = o.held;
        notes = o.notes;
        guest = none_in o.guest i;
      }

-- ---- the caller came, and went

-- a range to which nothing happened is at rest
pub rests_new : (range : Range) (known : Hints) (book : Owner) (replay : Replay) → book.history ≡ of.Range range
    → book.guest ≡ None → 0 < times_range range book.held → others range book.held ≡ []
    → range_history book.seen range ≡ [] → AreUnopened book.seen range 0 → replay.history ≡ []
    → IsRangeAtRest range.0 replay (range_owner range known book)
rests_new range known book replay own free holds only none fresh empty = record {
  range_is = refl;
  own = own;
  free = free;
  holds = holds;
  only = only;
  history = none ∙ sym empty;
  turns = subst (HaveJust book.seen range) (sym empty)
      (record { turns = λ replica there. absurd (omega (arith, there.1)); fresh = fresh });
}

module _ (leaves : ℕ) (know : Knowledge) (owner now : RangeView) (own : owner.book.history ≡ of.Range owner.range)
    (came : HasCome leaves know owner now) where
  -- what the caller has seen bears a range out, and so does what both have seen
  pub borne_then : (history : List RangeEntry) → IsHeldBy know.seen owner.range history
      → IsHeldBy now.book.seen now.range history
  borne_then history borne =
      let seen = joined_histories owner.book.seen know.seen in
      subst (λ (o : RangeView). IsHeldBy o.book.seen o.range history) (sym (now_is leaves know owner now own came))
      (IsHeldBy-grows know.seen seen (λ leaf. begins_from (leaf_history seen leaf) (leaf_history know.seen leaf)
      (came.fronts.0 leaf).0 (sym (came.fronts.0 leaf).1)) owner.range history borne)

module _ (leaves : ℕ) (know : Knowledge) (owner now : RangeView) (own : owner.book.history ≡ of.Range owner.range)
    (came : HasCome leaves know owner now) (es : List RangeEntry) where
  abbrev joined : Histories
  joined = joined_histories owner.book.seen know.seen

  abbrev visited : Owner
  visited = after_own_learn (leaves + owner.range.0) (length (range_history owner.book.seen owner.range))
      (with_guest (lent_seat know) owner.book)

  abbrev pub opened_owner : RangeView → RangeView
  opened_owner o = record { range = o.range; hints = o.hints; book = after_entries owner.range es o.book }

  module _ (replay : Replay) (held : IsRangeHeld owner.range.0 replay owner) (none : replay.history ≡ [])
      (holds : 0 < times_range owner.range know.purse.holds) where
    whole : range_history (with_entries owner.range es joined) owner.range ≡ es
    whole = range_with_entries owner.range es joined ∙ ap (λ h. h ++ es) (came.whole ∙ held.history ∙ none)

    pub rests_opened : (grows : Replay) → grows.history ≡ es → HaveJust know.seen owner.range es → (back : RangeView)
        → back ≡ parted_owner false (opened_owner now) → IsRangeAtRest owner.range.0 grows back
    rests_opened grows grown just back is =
        subst (IsRangeAtRest owner.range.0 grows)
        (sym (is ∙ ap (λ o. parted_owner false (opened_owner o)) (now_is leaves know owner now own came)))
        (record {
          range_is = held.range_is;
          own = held.own;
          free = refl;
          holds = holds_then leaves know owner now own came replay held holds;
          only = only_then leaves know owner now own came replay held holds;
          history = whole ∙ sym grown;
          turns = subst (HaveJust (with_entries owner.range es joined) owner.range) (sym grown)
              (let was = turns_brought leaves know owner now own came replay held holds es just in
              record {
                turns = λ replica there.
                    let one = was.turns replica there in
                    record { opened = one.opened; all = one.all };
                fresh = was.fresh;
              });
        })

    front_by : (other : Range)
        → IsPrefix (range_history know.seen other) (range_history (with_entries owner.range es joined) other)
    front_by other = elim (cases_eq other.0 owner.range.0) [
      | inl same ↦
          subst (λ (r : Range).
          IsPrefix (range_history know.seen r) (range_history (with_entries owner.range es joined) r))
          (sym (range_same other owner.range same))
          (subst (IsPrefix (range_history know.seen owner.range)) (sym (range_with_entries owner.range es joined))
          (prefix_trans (range_history know.seen owner.range) (range_history joined owner.range)
          (range_history joined owner.range ++ es) (came.fronts.1 owner.range) (es, refl)))
      | inr apart ↦
          subst (IsPrefix (range_history know.seen other))
          (sym (ranges_beside_entries owner.range es joined other apart)) (came.fronts.1 other)
    ]

    opened_with : (hints : Hints) → hints.notes ≡ []
        → HasOpenedFirst leaves (new_range_of owner) es know
        (back_with hints (guest_seat move.Keep false (after_entries owner.range es visited)) (without_purse know))
    opened_with hints quiet = record {
      seen = refl;
      fronts = (came.fronts.0, front_by);
      whole = whole;
      notes = ap (λ k. know.purse.notes ++ length_note (leaves + owner.range.0) k ∷ [])
          (ap length (held.history ∙ none));
      own = refl;
      met = refl;
      stock = refl;
      lost = refl;
      rooms = refl;
      holding = ap (λ h. holds_after false h owner.book.held know.purse.holds) own;
      hint_notes = ap (λ xs. know.hints.notes ++ xs) quiet ∙ append-nil know.hints.notes;
      knows = (meet_knows_both know.hints hints (met know.hints hints) refl).0;
      handed = refl;
    }

    pub has_opened_first : (hints : Hints) (book : Owner) (alone gone : Knowledge)
        → book ≡ after_entries owner.range es now.book → alone ≡ without_purse know
        → gone ≡ back_with (without_notes hints) (guest_seat move.Keep false book) alone
        → HasOpenedFirst leaves (new_range_of owner) es know gone
    has_opened_first hints book alone gone book_is left back =
        subst (HasOpenedFirst leaves (new_range_of owner) es know)
        (sym (back ∙ (λ i. back_with (without_notes hints)
        (guest_seat move.Keep false ((book_is ∙ ap (after_entries owner.range es) came.book) i)) (left i))))
        (opened_with (without_notes hints) refl)
