-- A leaf on which a replica was opened: what the rows' series bring is raised before, one row after the other, and the
-- leaf is at rest again.
use Rattle.std.proofs.Common.{◌≡◌, ℕ, ◌+◌, ◌-◌, Bool, true, false, not, ◌&&◌, ◌||◌, List, [], ◌∷◌, ◌++◌}
use Rattle.std.proofs.Common.{append-nil, append_assoc, arith, inl, inr, refl, sym, ap, subst, ◌∙◌}
use Rattle.std.specs.List.{list_any}
use Rattle.std.proofs.lemmas.Bool.{and_from, not_from_false, or_cases, or_left}
use Rattle.std.proofs.lemmas.List.Folds.{list_any-append}
use Rattle.history_book.proofs.ListLemmas.{added_here}
use Rattle.history_book.specs.declared.rooms.RoomMove.TheVariants as move
use Rattle.history_book.specs.declared.views.BookEntry.TheVariants as one
use Rattle.history_book.specs.declared.views.History.TheVariants as of
use Rattle.history_book.specs.Histories.{with_book_entry}
use Rattle.history_book.specs.Seats.{Owner, after_append}
use Rattle.know.specs.Knowledge.{Knowledge}
use Rattle.know.specs.Sound.{bit_of_leaf, is_known, known_bits, note_has_bit}
use Rattle.leaf_cell.proofs.RaisedLemmas.{history_alike, raised_with}
use Rattle.leaf_cell.proofs.RestLemmas.{alike, promised_now, raised_now}
use Rattle.leaf_cell.specs.Raising.{HasRaisedRow, rows_unraised}
use Rattle.leaf_cell.specs.Rest.{GoesBy, IsAtRest, is_raised}
use Rattle.leaf_store.specs.LeafStates.{is_unraised, key_buckets}
use Rattle.leaf_store.specs.LeafStates as store
use Rattle.mon_hints.proofs.CoverLemmas.{among-append}
use Rattle.mon_value.proofs.PlainLemmas.{and_spread, or_assoc, or_false}
use Rattle.mon_hints.specs.Covers.{IsRaised}
use Rattle.mon_hints.specs.Hints.{history_buckets, rows_buckets}
use Rattle.mon_hints.specs.Formulas.{is_among}
use Rattle.mon_hints.specs.declared.places.Place.{Place}
use Rattle.mon_hints.specs.declared.places.Place.TheVariants as at
use Rattle.mon_schema.specs.Names.{SchemaLists}
use Rattle.mon_topo.specs.Settings.{Setting, zone_of_leaf}
use Rattle.mon_value.specs.Histories.{leaf_history}
use Rattle.mon_value.specs.declared.histories.Entry.{Entry}
use Rattle.mon_value.specs.declared.histories.Entry.TheVariants as entry
use Rattle.mon_value.specs.declared.positions.Leaf.{Leaf}
use Rattle.mon_value.specs.declared.positions.Range.{Range}
use Rattle.mon_value.specs.declared.positions.Slot.{Slot}
use Rattle.mon_value.specs.declared.rows.Row.{Row}
use Rattle.mon_value.specs.declared.rows.SeriesKey.{SeriesKey}
use Rattle.owners.specs.Owners as owners
use Rattle.owners.specs.Receiving.{HasReceived, parted}
use Rattle.raise_table.specs.Seats as hints
use Rattle.raise_table.specs.Tables.{RaiseIdentity}
use Rattle.raise_table.specs.declared.places.ZoneLeaf.{ZoneLeaf}
use Rattle.raise_table.specs.declared.views.Hints.{Hints}
use Rattle.raise_table.specs.declared.views.Note.{Note}

-- ---- one row after the other

module _ (setting : Setting) (old new : Hints) (more : List Note) (known : new.known ≡ old.known ++ more) where
  still_known : (place : Place) (bucket bit : ℕ) → is_known old place bucket bit ≡ true
      → is_known new place bucket bit ≡ true
  still_known place bucket bit is =
      ap (list_any (note_has_bit place bucket bit)) known
      ∙ list_any-append (note_has_bit place bucket bit) old.known more
      ∙ or_left (is_known old place bucket bit) (list_any (note_has_bit place bucket bit) more) is

  -- what leads to a leaf goes on to do so
  still_raised : (leaf : Leaf) (bucket : ℕ)
      → IsRaised (known_bits setting old) (zone_of_leaf setting leaf) leaf bucket
      → IsRaised (known_bits setting new) (zone_of_leaf setting leaf) leaf bucket
  still_raised leaf bucket is = record {
    at_root = still_known at.Root bucket (zone_of_leaf setting leaf).0 is.at_root;
    in_zone = still_known (at.Zone (zone_of_leaf setting leaf)) bucket (bit_of_leaf setting leaf) is.in_zone;
  }

-- nothing was raised
pub raises_no_row : (set : ℕ → Bool) (old : hints.Owner) → ((bucket : ℕ) → set bucket ≡ false)
    → HasRaisedRow set old old
raises_no_row set old none = record {
  leaf = refl;
  more = [];
  known = sym (append-nil old.hints.known);
  root = λ bucket. sym (or_false (is_raised at.Root bucket old.raised))
      ∙ ap (λ b. is_raised at.Root bucket old.raised || b) (sym (none bucket));
  zone = λ bucket. sym (or_false (is_raised (at.Zone old.leaf.zone) bucket old.raised))
      ∙ ap (λ b. is_raised (at.Zone old.leaf.zone) bucket old.raised || b) (sym (none bucket));
}

-- one set was raised, and then another
module _ (set then_set both : ℕ → Bool) (both_is : (bucket : ℕ) → both bucket ≡ (set bucket || then_set bucket))
    (old mid new : hints.Owner) (first : HasRaisedRow set old mid) (second : HasRaisedRow then_set mid new) where
  pub raises_both : HasRaisedRow both old new
  raises_both = record {
    leaf = second.leaf ∙ first.leaf;
    more = first.more ++ second.more;
    known = second.known ∙ ap (λ notes. notes ++ second.more) first.known
        ∙ append_assoc old.hints.known first.more second.more;
    root = λ bucket. second.root bucket ∙ ap (λ b. b || then_set bucket) (first.root bucket)
        ∙ or_assoc (is_raised at.Root bucket old.raised) (set bucket) (then_set bucket)
        ∙ ap (λ b. is_raised at.Root bucket old.raised || b) (sym (both_is bucket));
    zone = λ bucket. ap (λ (l : ZoneLeaf). is_raised (at.Zone l.zone) bucket new.raised) (sym first.leaf)
        ∙ second.zone bucket
        ∙ ap (λ (l : ZoneLeaf). is_raised (at.Zone l.zone) bucket mid.raised || then_set bucket) first.leaf
        ∙ ap (λ b. b || then_set bucket) (first.zone bucket)
        ∙ or_assoc (is_raised (at.Zone old.leaf.zone) bucket old.raised) (set bucket) (then_set bucket)
        ∙ ap (λ b. is_raised (at.Zone old.leaf.zone) bucket old.raised || b) (sym (both_is bucket));
  }

  -- and all of it leads to the leaf
  pub lead_both : (setting : Setting) (leaf : Leaf)
      → ((bucket : ℕ) → set bucket ≡ true
      → IsRaised (known_bits setting mid.hints) (zone_of_leaf setting leaf) leaf bucket)
      → ((bucket : ℕ) → then_set bucket ≡ true
      → IsRaised (known_bits setting new.hints) (zone_of_leaf setting leaf) leaf bucket)
      → (bucket : ℕ) → both bucket ≡ true
      → IsRaised (known_bits setting new.hints) (zone_of_leaf setting leaf) leaf bucket
  lead_both setting leaf before later bucket is =
      elim (or_cases (set bucket) (then_set bucket) (sym (both_is bucket) ∙ is)) [
        | inl one ↦ still_raised setting mid.hints new.hints second.more second.known leaf bucket (before bucket one)
        | inr other ↦ later bucket other
      ]

-- one row more
pub row_more : (buckets : ℕ) (schemas : SchemaLists) (history : List Entry) (front rows : List Row) (row : Row)
    → rows ≡ front ++ row ∷ [] → (bucket : ℕ) → rows_unraised buckets schemas history rows bucket
    ≡ (rows_unraised buckets schemas history front bucket || is_unraised buckets schemas history row.key bucket)
row_more buckets schemas history front rows row is bucket =
    ap (λ (some : List Row). rows_unraised buckets schemas history some bucket) is
    ∙ list_any-append (λ (one : Row). is_unraised buckets schemas history one.key bucket) front (row ∷ [])
    ∙ ap (λ b. rows_unraised buckets schemas history front bucket || b)
    (or_false (is_unraised buckets schemas history row.key bucket))

-- ---- what an opened replica brings

module _ (own : SeriesKey → List ℕ) (bucket : ℕ) (old : Bool) where
  among_rows : (rows : List Row) → list_any (λ (row : Row). is_among bucket (own row.key) && not old) rows
      ≡ (is_among bucket (rows_buckets own rows) && not old)
  among_rows [] = refl
  among_rows (row ∷ rows) =
      ap (λ b. (is_among bucket (own row.key) && not old) || b) (among_rows rows)
      ∙ and_spread (is_among bucket (own row.key)) (is_among bucket (rows_buckets own rows)) (not old)
      ∙ ap (λ b. b && not old) (sym (among-append bucket (own row.key) (rows_buckets own rows)))

module _ (setting : Setting) (raise : RaiseIdentity) (leaf : store.LeafView) (by : GoesBy setting raise leaf) (pass : ℕ)
    (range : Range) (slot : Slot) (rows : List Row) where
  abbrev own : SeriesKey → List ℕ
  own = key_buckets leaf.buckets leaf.schemas

  abbrev opened : Entry
  opened = entry.Opened pass range slot rows

  pub opened_buckets : (bucket : ℕ) → rows_unraised leaf.buckets leaf.schemas leaf.history rows bucket
      ≡ (is_among bucket (history_buckets own (opened ∷ [])) && not (is_among bucket (history_buckets own leaf.history)))
  opened_buckets bucket =
      among_rows own bucket (is_among bucket (history_buckets own leaf.history)) rows
      ∙ ap (λ (some : List Row). is_among bucket (rows_buckets own some)
      && not (is_among bucket (history_buckets own leaf.history))) (sym (append-nil rows))

  -- a bucket that the entry brings and the history lacks is one that was raised
  pub opened_unraised : (bucket : ℕ) → is_among bucket (history_buckets setting.buckets_of (opened ∷ [])) ≡ true
      → is_among bucket (history_buckets setting.buckets_of leaf.history) ≡ false
      → rows_unraised leaf.buckets leaf.schemas leaf.history rows bucket ≡ true
  opened_unraised bucket there lacks = opened_buckets bucket
      ∙ and_from (is_among bucket (history_buckets own (opened ∷ [])))
      (not (is_among bucket (history_buckets own leaf.history)))
      (ap (is_among bucket) (sym (history_alike setting.buckets_of own by.buckets (opened ∷ []))) ∙ there)
      (not_from_false (is_among bucket (history_buckets own leaf.history))
      (ap (is_among bucket) (sym (history_alike setting.buckets_of own by.buckets leaf.history)) ∙ lacks))

-- ---- at rest again

kept_promise : (n : ℕ) → (n + 1) - 1 ≡ n
kept_promise n = omega arith

module _ (setting : Setting) (raise : RaiseIdentity) (n : ℕ) (state : store.LeafView) (owner now : owners.LeafView)
    (know : Knowledge) (cut : ℕ) (rest : IsAtRest setting raise n state owner)
    (came : HasReceived know cut owner now) (pass : ℕ) (range : Range) (slot : Slot) (rows : List Row)
    (known : hints.Owner)
    (raised : HasRaisedRow (rows_unraised state.buckets state.schemas state.history rows) now.hints known) where
  abbrev e : Entry
  e = entry.Opened pass range slot rows

  abbrev promised : store.LeafView
  promised = store.with_promised state (state.promised + 1)

  own_is : now.book.history ≡ of.Leaf owner.leaf
  own_is = ap (λ (o : Owner). o.history) came.book ∙ came.own

  exactly : (before after : ℕ → Bool)
      → ((bucket : ℕ) → before bucket ≡ is_among bucket (history_buckets setting.buckets_of state.history))
      → ((bucket : ℕ) → after bucket
      ≡ (before bucket || rows_unraised state.buckets state.schemas state.history rows bucket))
      → (bucket : ℕ) → after bucket ≡ is_among bucket (history_buckets setting.buckets_of (state.history ++ e ∷ []))
  exactly before after was then_is =
      raised_with setting.buckets_of (key_buckets state.buckets state.schemas) rest.goes_by.buckets state.history e
      before after was
      (λ bucket. then_is bucket ∙ ap (λ b. before bucket || b)
      (opened_buckets setting raise state rest.goes_by pass range slot rows bucket))

  pub rests_with_opened : (after : store.LeafView) (gone : owners.LeafView)
      → after ≡ store.leaf_with_entry promised e
      → gone ≡ parted move.Keep (owners.leaf_owner owner.leaf known (after_append (one.Leaf e) now.book))
      → IsAtRest setting raise n after gone
  rests_with_opened after gone after_is gone_is =
      let was = raised_now setting raise n state owner now know cut rest came in
      subst (λ (s : store.LeafView). IsAtRest setting raise n s gone) (sym after_is)
      (subst (IsAtRest setting raise n (store.leaf_with_entry promised e)) (sym gone_is)
      (record {
        leaf_is = rest.leaf_is;
        free = refl;
        history =
            (λ i. leaf_history (with_book_entry (own_is i) (one.Leaf e) now.book.seen) owner.leaf)
            ∙ added_here owner.leaf.0 e now.book.seen.leaves
            ∙ ap (λ h. h ++ e ∷ []) (came.whole ∙ rest.history);
        promised = kept_promise state.promised ∙ promised_now setting raise n state owner now know cut rest came;
        raised = record {
          root = exactly (λ bucket. is_raised at.Root bucket now.hints.raised)
              (λ bucket. is_raised at.Root bucket known.raised) was.root raised.root;
          zone = λ bucket. ap (λ (l : ZoneLeaf). is_raised (at.Zone l.zone) bucket known.raised) raised.leaf
              ∙ exactly (λ bucket. is_raised (at.Zone now.hints.leaf.zone) bucket now.hints.raised)
              (λ bucket. is_raised (at.Zone now.hints.leaf.zone) bucket known.raised) was.zone raised.zone bucket;
        };
        goes_by = alike setting raise n state (store.leaf_with_entry promised e) refl refl rest.goes_by;
      }))
