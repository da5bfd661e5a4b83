-- A leaf on which a replica without rows was opened is at rest again, and its caller has opened it.
use Rattle.std.proofs.Common.{◌≡◌, ℕ, ◌+◌, ◌-◌, [], ◌∷◌, ◌++◌, refl, sym, ap, subst, ◌∙◌, arith, append-nil, false}
use Rattle.history_book.proofs.ListLemmas.{added_here}
use Rattle.history_book.specs.declared.rooms.RoomMove.TheVariants as move
use Rattle.history_book.specs.declared.views.BookEntry.TheVariants as one
use Rattle.history_book.specs.declared.views.History.TheVariants as of
use Rattle.history_book.specs.Histories.{with_book_entry}
use Rattle.history_book.specs.Seats.{Owner, after_append, guest_seat}
use Rattle.know.specs.Knowledge.{Knowledge}
use Rattle.know.specs.Lending.{back_with, without_purse}
use Rattle.leaf_cell.specs.NewLeaves.{HasOpened, new_leaf_of}
use Rattle.leaf_cell.specs.Rest.{HasRaised, IsAtRest}
use Rattle.leaf_store.specs.LeafStates as store
use Rattle.mon_hints.proofs.CoverLemmas.{buckets-push}
use Rattle.mon_hints.specs.Hints.{history_buckets}
use Rattle.mon_topo.specs.Settings.{Setting}
use Rattle.mon_value.specs.Histories.{joined_histories, leaf_history}
use Rattle.mon_value.specs.declared.histories.Entry.{Entry}
use Rattle.mon_value.specs.declared.histories.Entry.TheVariants as entry
use Rattle.mon_value.specs.declared.positions.Range.{Range}
use Rattle.mon_value.specs.declared.positions.Slot.{Slot}
use Rattle.owners.proofs.CalledLemmas.{goes_with}
use Rattle.owners.specs.Owners as owners
use Rattle.owners.specs.Receiving.{HasReceived, parted}
use Rattle.raise_table.specs.Seats as hints
use Rattle.raise_table.specs.Seats.{without_notes}
use Rattle.raise_table.specs.Tables.{RaiseIdentity}
use Rattle.raise_table.specs.declared.views.Hints.{Hints}

module _ (owner now : owners.LeafView) (know : Knowledge) (cut : ℕ) (came : HasReceived know cut owner now)
    (pass : ℕ) (range : Range) (slot : Slot) where
  abbrev e : Entry
  e = entry.Opened pass range slot []

  own : now.book.history ≡ of.Leaf owner.leaf
  own = ap (λ (o : Owner). o.history) came.book ∙ came.own

  -- ---- at rest again

  module _ (setting : Setting) (raise : RaiseIdentity) (n : ℕ) (state : store.LeafView)
      (rest : IsAtRest setting raise n state owner) where
    -- an entry without rows brings no bucket
    same_buckets : history_buckets setting.buckets_of (state.history ++ e ∷ [])
        ≡ history_buckets setting.buckets_of state.history
    same_buckets = buckets-push setting.buckets_of state.history e
        ∙ append-nil (history_buckets setting.buckets_of state.history)

    raised_now : HasRaised now.hints (history_buckets setting.buckets_of state.history)
    raised_now = subst (λ (h : hints.Owner). HasRaised h (history_buckets setting.buckets_of state.history))
        (sym came.hints) (record { root = rest.raised.root; zone = rest.raised.zone })

    kept_promise : (p : ℕ) → (p + 1) - 1 ≡ p
    kept_promise p = omega arith

    pub rests_with_opened : (after : store.LeafView) (back : owners.LeafView)
        → after ≡ store.leaf_with_entry (store.with_promised state (state.promised + 1)) e
        → back ≡ parted move.Keep (owners.leaf_owner owner.leaf now.hints (after_append (one.Leaf e) now.book))
        → IsAtRest setting raise n after back
    rests_with_opened after back after_is back_is =
        subst (λ (s : store.LeafView). IsAtRest setting raise n s back) (sym after_is)
        (subst (IsAtRest setting raise n (store.leaf_with_entry (store.with_promised state (state.promised + 1)) e))
        (sym back_is)
        (record {
          leaf_is = rest.leaf_is;
          free = refl;
          history =
              (λ i. leaf_history (with_book_entry (own i) (one.Leaf e) now.book.seen) owner.leaf)
              ∙ added_here owner.leaf.0 e now.book.seen.leaves
              ∙ ap (λ h. h ++ e ∷ []) (came.whole ∙ rest.history);
          promised = kept_promise state.promised ∙ rest.promised ∙ sym (ap (λ (o : Owner). o.promised) came.book);
          raised = subst (HasRaised now.hints) (sym same_buckets)
              (record { root = raised_now.root; zone = raised_now.zone });
          goes_by = record {
            schemas = rest.goes_by.schemas;
            number = rest.goes_by.number;
            buckets = rest.goes_by.buckets;
          };
        }))

  -- ---- what its caller has

  module _ (known : Hints) (book : Owner) (alone gone : Knowledge) (back : owners.LeafView)
      (book_is : book ≡ after_append (one.Leaf e) now.book) (left : alone ≡ without_purse know)
      (gone_is : gone ≡ back_with (without_notes known) (guest_seat move.Keep false book) alone)
      (back_is : back ≡ parted move.Keep (owners.leaf_owner owner.leaf now.hints book)) where
    seen_then : book.seen
        ≡ with_book_entry (of.Leaf owner.leaf) (one.Leaf e) (joined_histories owner.book.seen know.seen)
    seen_then = ap (λ (o : Owner). o.seen) book_is
        ∙ (λ i. with_book_entry (own i) (one.Leaf e) (came.book i).seen)

    pub has_opened : HasOpened (new_leaf_of owner) (new_leaf_of back) e know gone
    has_opened =
        let went = goes_with know owner now cut came move.Keep e known book alone gone book_is left gone_is in
        record {
          same_leaf = ap (λ (o : owners.LeafView). o.leaf) back_is;
          seen = ap (λ (k : Knowledge). k.seen) gone_is ∙ seen_then;
          both = ap (λ (o : owners.LeafView). o.book.seen) back_is ∙ sym (ap (λ (k : Knowledge). k.seen) gone_is);
          called = went.called;
          rooms_are = went.rooms_are;
          handed = went.handed;
        }
