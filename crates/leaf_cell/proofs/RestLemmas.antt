-- A leaf is at rest again once its caller went, and what was added to its history is raised.
use Rattle.std.proofs.Common.{◌≡◌, ℕ, ℤ, ◌+◌, ◌-◌, Bool, true, ◌||◌, List, [], ◌∷◌, ◌++◌, append-nil, cond}
use Rattle.std.proofs.Common.{refl, sym, ap, subst, ◌∙◌}
use Rattle.history_book.proofs.ListLemmas.{added_here}
use Rattle.history_book.specs.declared.rooms.RoomMove.{RoomMove}
use Rattle.history_book.specs.declared.rooms.RoomMove.TheVariants as move
use Rattle.history_book.specs.declared.views.BookEntry.TheVariants as one
use Rattle.history_book.specs.declared.views.History.TheVariants as of
use Rattle.history_book.specs.Histories.{with_book_entry}
use Rattle.history_book.specs.Seats.{Owner, after_append, promised_after}
use Rattle.know.specs.Knowledge.{Knowledge}
use Rattle.leaf_cell.proofs.RaisedLemmas.{raised_exactly}
use Rattle.leaf_cell.specs.Raising.{HasRaisedRow}
use Rattle.leaf_cell.specs.Rest.{GoesBy, HasRaised, IsAtRest, is_raised}
use Rattle.leaf_cell.specs.Visits.{IsAsBefore}
use Rattle.leaf_store.specs.LeafStates.{is_unraised, key_buckets}
use Rattle.leaf_store.specs.LeafStates as store
use Rattle.mon_hints.proofs.CoverLemmas.{buckets-push}
use Rattle.mon_hints.specs.Hints.{history_buckets, rows_buckets}
use Rattle.mon_hints.specs.Formulas.{is_among}
use Rattle.mon_topo.specs.Settings.{Setting}
use Rattle.mon_value.specs.Histories.{leaf_history}
use Rattle.mon_value.specs.LeafHistories.{brought_rows, is_switch}
use Rattle.mon_value.specs.declared.histories.Entry.{Entry}
use Rattle.mon_value.specs.declared.histories.Entry.TheVariants as entry
use Rattle.mon_value.specs.declared.positions.Range.{Range}
use Rattle.mon_value.specs.declared.positions.Slot.{Slot}
use Rattle.mon_value.specs.declared.rows.Row.{Row}
use Rattle.mon_value.specs.declared.rows.SeriesKey.{SeriesKey}
use Rattle.owners.specs.Owners as owners
use Rattle.owners.specs.Receiving.{HasReceived, parted}
use Rattle.raise_table.specs.Seats as hints
use Rattle.raise_table.specs.Tables.{RaiseIdentity}
use Rattle.mon_hints.specs.declared.places.Place.TheVariants as at
use Rattle.raise_table.specs.declared.places.ZoneLeaf.{ZoneLeaf}

no_more_buckets : (buckets_of : SeriesKey → List ℕ) (history : List Entry) (e : Entry) → brought_rows e ≡ []
    → history_buckets buckets_of history ≡ history_buckets buckets_of (history ++ e ∷ [])
no_more_buckets buckets_of history e brings =
    sym (append-nil (history_buckets buckets_of history))
    ∙ ap (λ (rows : List Row). history_buckets buckets_of history ++ rows_buckets buckets_of rows)
    (sym (ap (λ (rows : List Row). rows ++ []) brings))
    ∙ sym (buckets-push buckets_of history e)

module _ (setting : Setting) (raise : RaiseIdentity) (n : ℕ) where
  -- a state that goes by the same schemas and buckets
  pub alike : (state after : store.LeafView) → after.schemas ≡ state.schemas → after.buckets ≡ state.buckets
      → GoesBy setting raise state → GoesBy setting raise after
  alike state after schemas buckets by = record {
    schemas = schemas ∙ by.schemas;
    number = buckets ∙ by.number;
    buckets = by.buckets ∙ (λ i. key_buckets (sym buckets i) (sym schemas i));
  }

  -- it was read
  pub rests_read : (state after : store.LeafView) (owner : owners.LeafView) → IsAtRest setting raise n state owner
      → IsAsBefore state after → IsAtRest setting raise n after owner
  rests_read state after owner rest same = record {
    leaf_is = rest.leaf_is;
    free = rest.free;
    history = rest.history ∙ sym same.history;
    promised = same.promised ∙ rest.promised;
    raised = subst (λ (h : List Entry). HasRaised owner.hints (history_buckets setting.buckets_of h)) (sym same.history)
        rest.raised;
    goes_by = alike state after same.schemas same.buckets rest.goes_by;
  }

  module _ (state : store.LeafView) (owner now : owners.LeafView) (know : Knowledge) (cut : ℕ)
      (rest : IsAtRest setting raise n state owner) (came : HasReceived know cut owner now) where
    pub raised_now : HasRaised now.hints (history_buckets setting.buckets_of state.history)
    raised_now = subst (λ (h : hints.Owner). HasRaised h (history_buckets setting.buckets_of state.history))
        (sym came.hints) (record { root = rest.raised.root; zone = rest.raised.zone })

    pub promised_now : state.promised ≡ now.book.promised
    promised_now = rest.promised ∙ sym (ap (λ (o : Owner). o.promised) came.book)

    -- the caller went, with a room more or less
    pub rests_gone : (rooms : RoomMove) (after : store.LeafView) (gone : owners.LeafView)
        → after ≡ store.with_promised state (promised_after rooms state.promised) → gone ≡ parted rooms now
        → IsAtRest setting raise n after gone
    rests_gone rooms after gone after_is gone_is =
        subst (λ (s : store.LeafView). IsAtRest setting raise n s gone) (sym after_is)
        (subst (IsAtRest setting raise n (store.with_promised state (promised_after rooms state.promised)))
        (sym gone_is)
        (record {
          leaf_is = came.leaf ∙ rest.leaf_is;
          free = refl;
          history = ap (leaf_history now.book.seen) came.leaf ∙ came.whole ∙ rest.history;
          promised = ap (promised_after rooms) promised_now;
          raised = record { root = raised_now.root; zone = raised_now.zone };
          goes_by = alike state (store.with_promised state (promised_after rooms state.promised)) refl refl
              rest.goes_by;
        }))

    -- the caller went with a room more, and all that was applied is settled
    pub rests_reserved : (after : store.LeafView) (gone : owners.LeafView)
        → after ≡ store.with_settled (store.with_promised state (state.promised + 1)) → gone ≡ parted move.Make now
        → IsAtRest setting raise n after gone
    rests_reserved after gone after_is gone_is =
        let reserved : store.LeafView = store.with_promised state (state.promised + 1) in
        subst (λ (s : store.LeafView). IsAtRest setting raise n s gone) (sym after_is)
        (rests_read reserved (store.with_settled reserved) gone (rests_gone move.Make reserved gone refl gone_is)
        (record { schemas = refl; buckets = refl; history = refl; promised = refl }))

    -- an entry without rows was added, and the caller went with a room more or less
    pub rests_without_rows : (rooms : RoomMove) (e : Entry) → brought_rows e ≡ []
        → (store.leaf_with_entry state e).promised ≡ promised_after rooms state.promised → (after : store.LeafView)
        → (gone : owners.LeafView) → after ≡ store.leaf_with_entry state e
        → gone ≡ parted rooms (owners.leaf_owner owner.leaf now.hints (after_append (one.Leaf e) now.book))
        → IsAtRest setting raise n after gone
    rests_without_rows rooms e brings spends after gone after_is gone_is =
        let own : now.book.history ≡ of.Leaf owner.leaf = ap (λ (o : Owner). o.history) came.book ∙ came.own in
        let buckets : history_buckets setting.buckets_of state.history
        ≡ history_buckets setting.buckets_of (state.history ++ e ∷ []) = no_more_buckets setting.buckets_of state.history e
        brings in
        subst (λ (s : store.LeafView). IsAtRest setting raise n s gone) (sym after_is)
        (subst (IsAtRest setting raise n (store.leaf_with_entry state e)) (sym gone_is)
        (record {
          leaf_is = rest.leaf_is;
          free = refl;
          history =
              (λ i. leaf_history (with_book_entry (own i) (one.Leaf e) now.book.seen) owner.leaf)
              ∙ added_here owner.leaf.0 e now.book.seen.leaves
              ∙ ap (λ h. h ++ e ∷ []) (came.whole ∙ rest.history);
          promised = spends ∙ ap (promised_after rooms) promised_now;
          raised = subst (HasRaised now.hints) buckets (record { root = raised_now.root; zone = raised_now.zone });
          goes_by = alike state (store.leaf_with_entry state e) refl refl rest.goes_by;
        }))

    -- the leaf was switched
    pub rests_switched : (e : Entry) → is_switch e ≡ true → brought_rows e ≡ [] → (after : store.LeafView)
        → (gone : owners.LeafView) → after ≡ store.leaf_with_entry state e
        → gone ≡ parted move.Keep (owners.leaf_owner owner.leaf now.hints (after_append (one.Leaf e) now.book))
        → IsAtRest setting raise n after gone
    rests_switched e switches brings = rests_without_rows move.Keep e brings
        (ap (λ (b : Bool). cond {A = ℕ} b state.promised (state.promised - 1)) switches)

    -- it hid rows, for which nothing is raised
    pub rests_trimmed : (pass : ℕ) (range : Range) (slot : Slot) (before : ℤ) → (after : store.LeafView)
        → (gone : owners.LeafView) → after ≡ store.leaf_with_entry state (entry.Trim pass range slot before)
        → gone ≡ parted move.TakeBack (owners.leaf_owner owner.leaf now.hints
        (after_append (one.Leaf (entry.Trim pass range slot before)) now.book)) → IsAtRest setting raise n after gone
    rests_trimmed pass range slot before =
        rests_without_rows move.TakeBack (entry.Trim pass range slot before) refl refl

    -- it put a row, whose buckets were raised before
    module _ (pass : ℕ) (range : Range) (slot : Slot) (row : Row) (known : hints.Owner)
        (raised : HasRaisedRow (is_unraised state.buckets state.schemas state.history row.key) now.hints known) where
      abbrev e : Entry
      e = entry.Put pass range slot row

      abbrev grown : Owner
      grown = after_append (one.Leaf e) now.book

      own : now.book.history ≡ of.Leaf owner.leaf
      own = ap (λ (o : Owner). o.history) came.book ∙ came.own

      exactly : (old new : ℕ → Bool)
          → ((bucket : ℕ) → old bucket ≡ is_among bucket (history_buckets setting.buckets_of state.history))
          → ((bucket : ℕ) → new bucket
          ≡ (old bucket || is_unraised state.buckets state.schemas state.history row.key bucket))
          → (bucket : ℕ) → new bucket ≡ is_among bucket (history_buckets setting.buckets_of (state.history ++ e ∷ []))
      exactly = raised_exactly setting.buckets_of (key_buckets state.buckets state.schemas) rest.goes_by.buckets
          state.history pass range slot row

      pub rests_with_put : (after : store.LeafView) (gone : owners.LeafView) → after ≡ store.leaf_with_entry state e
          → gone ≡ parted move.TakeBack (owners.leaf_owner owner.leaf known grown) → IsAtRest setting raise n after gone
      rests_with_put after gone after_is gone_is =
          subst (λ (s : store.LeafView). IsAtRest setting raise n s gone) (sym after_is)
          (subst (IsAtRest setting raise n (store.leaf_with_entry state e)) (sym gone_is)
          (record {
            leaf_is = rest.leaf_is;
            free = refl;
            history =
                (λ i. leaf_history (with_book_entry (own i) (one.Leaf e) now.book.seen) owner.leaf)
                ∙ added_here owner.leaf.0 e now.book.seen.leaves
                ∙ ap (λ h. h ++ e ∷ []) (came.whole ∙ rest.history);
            promised = ap (λ k. k - 1) promised_now;
            raised = record {
              root = exactly (λ bucket. is_raised at.Root bucket now.hints.raised)
                  (λ bucket. is_raised at.Root bucket known.raised) raised_now.root raised.root;
              zone = λ bucket. ap (λ (l : ZoneLeaf). is_raised (at.Zone l.zone) bucket known.raised) raised.leaf
                  ∙ exactly (λ bucket. is_raised (at.Zone now.hints.leaf.zone) bucket now.hints.raised)
                  (λ bucket. is_raised (at.Zone now.hints.leaf.zone) bucket known.raised) raised_now.zone raised.zone
                  bucket;
            };
            goes_by = alike state (store.leaf_with_entry state e) refl refl rest.goes_by;
          }))
