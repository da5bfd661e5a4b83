-- What a caller knows, as a query sees it: known bits, and histories that go on.
use Rattle.std.proofs.Common.{◌≡◌, ◌-◌, ◌&&◌, ℕ, true, Some, nat_eq, refl, sym, subst}
use Rattle.std.specs.Prelude.{slice_get}
use Rattle.std.specs.Int.{bit_at}
use Rattle.std.proofs.lemmas.Bool.{and_parts, eq-eqb, and_from, eqb-true}
use Rattle.std.proofs.lemmas.List.Folds.{Any-from_list_any, list_any-from_Any}
use Rattle.std.proofs.lemmas.Option.{get_or_from_slice_get}
use Rattle.history_book.specs.Histories.{AreFronts}
use Rattle.know.specs.Knowledge.{Knowledge}
use Rattle.know.specs.Sound.{bit_of_leaf, is_known, known_bits, note_has_bit}
use Rattle.mon_hints.specs.Covers.{AreBitsWithin}
use Rattle.mon_hints.specs.Places.{place_number, same_place}
use Rattle.mon_hints.specs.Hints.{has_bit}
use Rattle.mon_hints.specs.declared.places.Place.{Place}
use Rattle.mon_hints.specs.declared.places.Place.TheVariants as at
use Rattle.mon_topo.proofs.FrontLemmas.{begins_from}
use Rattle.mon_topo.specs.HeldHistories.{AreWithin}
use Rattle.mon_topo.specs.Settings.{Setting, zone_of_leaf}
use Rattle.mon_topo.specs.Views.{IsViewWithin}
use Rattle.mon_topo.specs.Zones.{first_leaf, leaf_zones}
use Rattle.mon_value.specs.Histories.{leaf_history, range_history, leaf_numbered, zone_numbered}
use Rattle.mon_value.specs.declared.histories.Histories.{Histories}
use Rattle.mon_value.specs.declared.positions.Leaf.{Leaf}
use Rattle.mon_value.specs.declared.positions.Zone.{Zone}
use Rattle.raise_table.specs.Seats.{HasKnown, Knows, KnowsAsMuch}
use Rattle.raise_table.specs.declared.views.Hints.{Hints}
use Rattle.raise_table.specs.declared.views.Note.{Note}
use Rattle.running_query.specs.Looks.{GoesOn, view_of}
use Rattle.leaf_cell.proofs.RaisingLemmas.{one_number}

-- ---- known bits, as tests and as facts

knows_of : (hints : Hints) (place : Place) (bucket bit : ℕ) → is_known hints place bucket bit ≡ true
    → Knows hints place bucket bit
knows_of hints place bucket bit e =
    let one = Any-from_list_any (note_has_bit place bucket bit) hints.known e in
    let note : Note = one.1 in
    let first = and_parts (same_place note.place place) (nat_eq note.bucket bucket && nat_eq (bit_at note.bits bit) 1)
    one.4 in
    let rest = and_parts (nat_eq note.bucket bucket) (nat_eq (bit_at note.bits bit) 1) first.1 in (
      note,
      (one.0, one.2, one.3),
      one_number note.place place (eqb-true (place_number note.place) (place_number place) first.0),
      eqb-true note.bucket bucket rest.0,
      eqb-true (bit_at note.bits bit) 1 rest.1,
    )

known_of : (hints : Hints) (place : Place) (bucket bit : ℕ) → Knows hints place bucket bit
    → is_known hints place bucket bit ≡ true
known_of hints place bucket bit k =
    let note : Note = k.0 in
    list_any-from_Any (note_has_bit place bucket bit) hints.known (
      k.1.0,
      note,
      k.1.1,
      k.1.2,
      and_from (same_place note.place place) (nat_eq note.bucket bucket && nat_eq (bit_at note.bits bit) 1)
          (subst (λ (p : Place). same_place note.place p ≡ true) k.2 (eq-eqb (place_number note.place) (place_number note.place) refl))
          (and_from (nat_eq note.bucket bucket) (nat_eq (bit_at note.bits bit) 1) (eq-eqb note.bucket bucket k.3)
          (eq-eqb (bit_at note.bits bit) 1 k.4)),
    )

-- ---- what goes on

module _ (store : Setting) where
  bits_grown : (old new : Hints) → KnowsAsMuch old new → AreBitsWithin (known_bits store old) (known_bits store new)
  bits_grown old new knows = record {
    root = λ zone bucket there.
        known_of new at.Root bucket zone (knows at.Root bucket zone (knows_of old at.Root bucket zone there));
    zone = λ leaf bucket there.
        let place = at.Zone (zone_of_leaf store (leaf_numbered leaf)) in
        let bit = bit_of_leaf store (leaf_numbered leaf) in
        known_of new place bucket bit (knows place bucket bit (knows_of old place bucket bit there));
  }

  pub seen_grown : (front all : Histories) → AreFronts front all → AreWithin front all
  seen_grown front all fronts = record {
    leaves = λ leaf. begins_from (leaf_history all leaf) (leaf_history front leaf) (fronts.0 leaf).0
        (sym (fronts.0 leaf).1);
    ranges = λ range. begins_from (range_history all range) (range_history front range) (fronts.1 range).0
        (sym (fronts.1 range).1);
  }

  pub grown : (old new : Knowledge) → GoesOn store old new → IsViewWithin (view_of store old) (view_of store new)
  grown old new goes = record {
    seen = seen_grown old.seen new.seen goes.fronts;
    bits = bits_grown old.hints new.hints goes.knows;
  }

  -- ---- words

  pub root_known : (old : Hints) (bucket word : ℕ) → HasKnown old at.Root bucket word
      → (zone : ℕ) → (known_bits store old).root zone bucket ≡ true → has_bit word zone ≡ true
  root_known old bucket word has zone there =
      eq-eqb (bit_at word zone) 1 (has zone (knows_of old at.Root bucket zone there))

  pub zone_known : (old : Hints) (zone : Zone) (bucket word : ℕ) → HasKnown old (at.Zone zone) bucket word
      → (leaf : Leaf) → slice_get (leaf_zones store.zones) leaf.0 ≡ Some zone
      → (known_bits store old).zone leaf.0 bucket ≡ true
      → has_bit word (leaf.0 - first_leaf store.zones zone.0) ≡ true
  zone_known old zone bucket word has leaf at_zone there =
      let same : zone_of_leaf store leaf ≡ zone =
      get_or_from_slice_get (leaf_zones store.zones) leaf.0 zone (zone_numbered 0) at_zone in
      let knows : Knows old (at.Zone zone) bucket (leaf.0 - first_leaf store.zones zone.0) =
      subst (λ (one : Zone). Knows old (at.Zone one) bucket (leaf.0 - first_leaf store.zones one.0)) same
      (knows_of old (at.Zone (zone_of_leaf store leaf)) bucket (bit_of_leaf store leaf) there) in
      eq-eqb (bit_at word (leaf.0 - first_leaf store.zones zone.0)) 1
      (has (leaf.0 - first_leaf store.zones zone.0) knows)
