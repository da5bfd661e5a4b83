-- What someone knows stays sound as bits are learned, and what two know of one truth is sound together.
use Rattle.std.proofs.Common.{◌≡◌, ℕ, true, List, ◌++◌, sym, subst, ◌∙◌}
use Rattle.std.specs.List.{list_any}
use Rattle.std.proofs.lemmas.Bool.{or_left, or_right}
use Rattle.std.proofs.lemmas.List.Folds.{list_any-append}
use Rattle.mon_value.specs.declared.histories.Entry.{Entry}
use Rattle.mon_value.specs.declared.positions.Leaf.{Leaf}
use Rattle.mon_hints.specs.Covers.{AreBitsWithin, Covers}
use Rattle.mon_hints.specs.Hints.{history_buckets}
use Rattle.mon_hints.proofs.CoverLemmas.{covers_more}
use Rattle.mon_topo.specs.HeldHistories.{AreHeld, AreWithin}
use Rattle.mon_topo.specs.Settings.{Setting, zone_of_leaf}
use Rattle.mon_value.specs.Histories.{leaf_numbered, joined_histories, leaf_history, range_history}
use Rattle.mon_topo.proofs.FrontLemmas.{begins_from}
use Rattle.mon_topo.proofs.HeldLemmas.{joined_seen_held, joined_seen_leaf_by}
use Rattle.mon_value.specs.declared.histories.Histories.{Histories}
use Rattle.history_book.specs.Histories.{AreFronts}
use Rattle.mon_hints.specs.declared.places.Place.{Place}
use Rattle.mon_hints.specs.declared.places.Place.TheVariants as at
use Rattle.raise_table.specs.declared.views.Hints.{Hints}
use Rattle.raise_table.specs.declared.views.Note.{Note}
use Rattle.raise_table.specs.Seats.{met}
use Rattle.know.specs.Sound.{IsSound, bit_of_leaf, note_has_bit, known_bits}

-- ---- known bits

module _ (place : Place) (bucket bit : ℕ) (some others : List Note) where
  known_in_first : list_any (note_has_bit place bucket bit) some ≡ true → list_any (note_has_bit place bucket bit)
      (some ++ others) ≡ true
  known_in_first there =
      list_any-append (note_has_bit place bucket bit) some others
      ∙ or_left (list_any (note_has_bit place bucket bit) some) (list_any (note_has_bit place bucket bit) others) there

  known_in_second : list_any (note_has_bit place bucket bit) others ≡ true → list_any (note_has_bit place bucket bit)
      (some ++ others) ≡ true
  known_in_second there =
      list_any-append (note_has_bit place bucket bit) some others
      ∙ or_right (list_any (note_has_bit place bucket bit) some) (list_any (note_has_bit place bucket bit) others) there

-- whatever is known of a word stays known
abbrev KnowsOn : Hints → Hints → Type 0
KnowsOn before after = (place : Place) (bucket bit : ℕ) → list_any (note_has_bit place bucket bit) before.known ≡ true
    → list_any (note_has_bit place bucket bit) after.known ≡ true

module _ (setting : Setting) where
  bits_on : (before after : Hints) → KnowsOn before after → AreBitsWithin (known_bits setting before)
      (known_bits setting after)
  bits_on before after on = record {
    root = λ zone bucket there. on at.Root bucket zone there;
    zone = λ leaf bucket there.
        on (at.Zone (zone_of_leaf setting (leaf_numbered leaf))) bucket (bit_of_leaf setting (leaf_numbered leaf))
        there;
  }

  sound_on : (before after : Hints) (seen : Histories) → KnowsOn before after → IsSound setting before seen
      → IsSound setting after seen
  sound_on before after seen on h = record {
    held = h.held;
    covered = λ leaf.
        covers_more (known_bits setting before) (known_bits setting after) (zone_of_leaf setting leaf) leaf
        (history_buckets setting.buckets_of (leaf_history seen leaf)) (bits_on before after on) (h.covered leaf);
  }

  -- bits were learned
  pub sound_learned : (before after : Hints) (more : List Note) (seen : Histories) → after.known ≡ before.known ++ more
      → IsSound setting before seen → IsSound setting after seen
  sound_learned before after more seen e =
      sound_on before after seen (λ place bucket bit there.
      subst (λ (notes : List Note). list_any (note_has_bit place bucket bit) notes ≡ true) (sym e)
      (known_in_first place bucket bit before.known more there))

  -- somebody else knows and has seen just as much
  pub sound_alike : (before after : Hints) (seen other : Histories) → after.known ≡ before.known → other ≡ seen
      → IsSound setting before seen → IsSound setting after other
  sound_alike before after seen other e same h =
      subst (λ (s : Histories). IsSound setting after s) (sym same)
      (sound_on before after seen (λ place bucket bit there.
      subst (λ (notes : List Note). list_any (note_has_bit place bucket bit) notes ≡ true) (sym e) there) h)

  -- somebody met who knows what leads there
  pub sound_met : (mine theirs both : Hints) (seen : Histories) → both ≡ met mine theirs → IsSound setting theirs seen
      → IsSound setting both seen
  sound_met mine theirs both seen e =
      sound_on theirs both seen (λ place bucket bit there.
      subst (λ (x : Hints). list_any (note_has_bit place bucket bit) x.known ≡ true) (sym e)
      (known_in_second place bucket bit mine.known theirs.known there))

-- ---- two together

pub within_front : (front all : Histories) → AreFronts front all → AreWithin front all
within_front front all fronts = record {
  leaves = λ leaf. begins_from (leaf_history all leaf) (leaf_history front leaf) (fronts.0 leaf).0
      (sym (fronts.0 leaf).1);
  ranges = λ range. begins_from (range_history all range) (range_history front range) (fronts.1 range).0
      (sym (fronts.1 range).1);
}

module _ (setting : Setting) (mine theirs both : Hints) (seen other all : Histories) (knows : both ≡ met mine theirs)
    (saw : all ≡ joined_histories seen other) (first : AreFronts seen all) (second : AreFronts other all)
    (h : IsSound setting mine seen) (k : IsSound setting theirs other) where
  all_is : joined_histories seen other ≡ all
  all_is = sym saw

  known_first : KnowsOn mine both
  known_first place bucket bit there =
      subst (λ (x : Hints). list_any (note_has_bit place bucket bit) x.known ≡ true) (sym knows)
      (known_in_first place bucket bit mine.known theirs.known there)

  known_second : KnowsOn theirs both
  known_second place bucket bit there =
      subst (λ (x : Hints). list_any (note_has_bit place bucket bit) x.known ≡ true) (sym knows)
      (known_in_second place bucket bit mine.known theirs.known there)

  abbrev IsCovered : Leaf → List Entry → Type 0
  IsCovered leaf history = Covers (known_bits setting both) (zone_of_leaf setting leaf) leaf
      (history_buckets setting.buckets_of history)

  pub sound_together : IsSound setting both all
  sound_together = record {
    held = subst (λ (s : Histories). AreHeld setting.held setting.zones setting.points s) all_is
        (joined_seen_held seen other all (within_front seen all first) (within_front other all second)
        setting.held setting.zones setting.points h.held k.held);
    covered = λ leaf. subst (λ (s : Histories). IsCovered leaf (leaf_history s leaf)) all_is
        (joined_seen_leaf_by seen other leaf (IsCovered leaf)
        ((sound_on setting mine both seen known_first h).covered leaf)
        ((sound_on setting theirs both other known_second k).covered leaf));
  }
