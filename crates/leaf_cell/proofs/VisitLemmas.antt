-- What a caller has to whom rows were handed out.
use Rattle.std.proofs.Common.{◌≡◌, ℕ, ◌+◌, ◌≤◌, false, List, [], length, take, sym, ap, subst, ◌∙◌}
use Rattle.std.proofs.Math.Seq.{take-length}
use Rattle.std.proofs.lemmas.List.{take-append-le}
use Rattle.history_book.specs.declared.rooms.RoomMove.TheVariants as move
use Rattle.know.specs.Knowledge.{Knowledge, after_handing, stopped_count}
use Rattle.leaf_cell.specs.Visits.{HasGathered, HasReadUp}
use Rattle.owners.specs.Copies.{HasCopiedUp}
use Rattle.mon_topo.proofs.FrontLemmas.{begins_to}
use Rattle.mon_topo.specs.HeldHistories.{BeginsWith}
use Rattle.mon_value.specs.Histories.{leaf_history}
use Rattle.mon_value.specs.LeafHistories.{is_down, kept_rows}
use Rattle.mon_value.specs.declared.histories.Entry.{Entry}
use Rattle.mon_value.specs.declared.positions.Leaf.{Leaf}
use Rattle.mon_value.specs.declared.positions.Range.{Range}
use Rattle.mon_value.specs.declared.positions.Slot.{Slot}
use Rattle.mon_value.specs.declared.rows.Row.{Row}
use Rattle.owners.specs.Calls.{HasCalled}
use Rattle.owners.specs.Receiving.{HasGone}

module _ (leaf : Leaf) (history : List Entry) (sent : ℕ) (before mid after : Knowledge)
    (gone : HasGone leaf history [] move.Keep before mid) (is : after ≡ after_handing sent mid) where
  called_handed : HasCalled leaf history [] before after
  called_handed = subst (HasCalled leaf history [] before) (sym is) (record {
    fronts = gone.called.fronts;
    front = gone.called.front;
    whole = gone.called.whole;
    here = gone.called.here;
    elsewhere = gone.called.elsewhere;
    notes = gone.called.notes;
    own = gone.called.own;
    met = gone.called.met;
    stock = gone.called.stock;
    lost = gone.called.lost;
    holds = gone.called.holds;
    hint_notes = gone.called.hint_notes;
    knows = gone.called.knows;
  })

  rooms_handed : after.purse.rooms ≡ before.purse.rooms
  rooms_handed = ap (λ (k : Knowledge). k.purse.rooms) is ∙ gone.rooms_are

  count_handed : after.handed ≡ stopped_count (before.handed + sent)
  count_handed = ap (λ (k : Knowledge). k.handed) is ∙ ap (λ n. stopped_count (n + sent)) gone.handed

  pub reads_up : (tells : List Entry → ℕ → Type 0) → is_down history ≡ false → tells history sent
      → HasReadUp leaf tells before after
  reads_up tells up told = record {
    history = history;
    sent = sent;
    up = up;
    told = told;
    called = called_handed;
    rooms_are = rooms_handed;
    handed = count_handed;
  }

-- the beginning of a list that goes on
front_take : {X : Type 0} (cut : ℕ) (whole front : List X) → BeginsWith whole front → cut ≤ length front
    → take cut whole ≡ take cut front
front_take cut whole front begins within =
    ap (take cut) (begins_to whole front begins) ∙ take-append-le cut front _ within

pub gathers : (leaf : Leaf) (history : List Entry) (range : Range) (slot : Slot) (cut : ℕ) (rows : List Row)
    (before mid after : Knowledge) → HasGone leaf history [] move.Keep before mid
    → after ≡ after_handing (length rows) mid → rows ≡ kept_rows range slot (take cut history)
    → cut ≤ length (leaf_history before.seen leaf) → HasGathered leaf range slot cut rows before after
gathers leaf history range slot cut rows before mid after gone is rows_are within = record {
  history = history;
  rows_are = rows_are ∙ ap (kept_rows range slot)
      (front_take cut history (leaf_history before.seen leaf) gone.called.front within);
  called = called_handed leaf history (length rows) before mid after gone is;
  rooms_are = rooms_handed leaf history (length rows) before mid after gone is;
  handed = count_handed leaf history (length rows) before mid after gone is;
}

pub copies : (leaf : Leaf) (history : List Entry) (range : Range) (slot : Slot) (cut : ℕ) (rows : List Row)
    (before mid after : Knowledge) → HasGone leaf history [] move.Keep before mid
    → after ≡ after_handing (length rows) mid → rows ≡ kept_rows range slot (take cut history)
    → length history ≡ cut → is_down history ≡ false → HasCopiedUp leaf range slot rows before after
copies leaf history range slot cut rows before mid after gone is rows_are counted up = record {
  history = history;
  up = up;
  rows_are = rows_are ∙ ap (kept_rows range slot)
      (ap (λ n. take n history) (sym counted) ∙ take-length history);
  called = called_handed leaf history (length rows) before mid after gone is;
  rooms_are = rooms_handed leaf history (length rows) before mid after gone is;
  handed = count_handed leaf history (length rows) before mid after gone is;
}
