-- A write's turn inside a leaf: a bit is set in a word.
use Rattle.std.proofs.Common.{◌≡◌, ℕ, ◌<◌, ◌≤◌, ◌&&◌, ◌||◌, Bool, true, false, nat_eq, Some, List, [], ◌∷◌}
use Rattle.std.proofs.Common.{length, refl, suc, sym, ap, subst, ◌∙◌, inl, inr, arith}
use Rattle.std.proofs.lemmas.List.{length-set}
use Rattle.std.proofs.lemmas.Bool.{cases_eq, eq-eqb, ne_eqb, eqb-true}
use Rattle.mon_config.specs.declared.config.Config.{Config}
use Rattle.mon_hints.specs.Places.{same_place}
use Rattle.mon_hints.specs.Covers.{with_bit}
use Rattle.mon_hints.specs.Hints.{has_bit}
use Rattle.mon_value.specs.Histories.{leaf_history, leaf_numbered}
use Rattle.mon_topo.specs.Settings.{Setting, zone_of_leaf}
use Rattle.mon_topo.specs.Zones.{leaves_in}
use Rattle.mon_value.specs.declared.positions.Leaf.{Leaf}
use Rattle.mon_value.specs.declared.positions.Zone.{Zone}
use Rattle.core_store.proofs.AtWorkLemmas.{IsGoingOn, StandsInside, going_inside, leaf_in_truth, own}
use Rattle.core_store.proofs.MeetingLemmas.{leaf_met}
use Rattle.core_store.proofs.PlaceLemmas.{one_leaf, place_below, root_there, zone_there, zone_word_there}
use Rattle.core_store.proofs.SeatLemmas.{leaf_so_then, leaves_at_leaf, ranges_at_leaf}
use Rattle.core_store.proofs.WriteTurnLemmas.{can_come, step_is, went_so, writer_then}
use Rattle.core_store.proofs.WordLemmas.{one_raised}
use Rattle.core_store.specs.Agreements.{AreWords, IsLeafSo, place_of_leaf}
use Rattle.core_store.specs.HintWords.{HasWord, HintTable, RaisesOne, with_child_bit, hint_word_at}
use Rattle.core_store.specs.Holders.{leaf_inside}
use Rattle.core_store.specs.Meetings.{sight_at_leaf}
use Rattle.mon_topo.specs.Sights.{sight_of}
use Rattle.core_store.specs.Agreements.{store_of}
use Rattle.core_store.specs.WriteEvents.{RaisesBit, RaisesWord}
use Rattle.core_store.specs.WriteTurns.{IsAtWork, WriteWent}
use Rattle.core_store.specs.Writers.{IsWriterSo, RaisesBelow, change_turn, writer_of}
use Rattle.core_store.specs.declared.leaves.LeafSeat.{LeafSeat}
use Rattle.mon_topo.specs.declared.sights.Sight.{Sight}
use Rattle.mon_topo.proofs.LawfulLemmas.{few}
use Rattle.core_store.specs.declared.store.Store.{Store}
use Rattle.mon_hints.specs.declared.places.Place.{Place}
use Rattle.mon_hints.specs.declared.places.Place.TheVariants as word
use Rattle.core_store.specs.declared.writes.Writing.{Writing}
use Rattle.write_core.proofs.KeepsLemmas.{changed_same}
use Rattle.write_core.specs.Invariant.{IsAt, IsInside}
use Rattle.write_core.specs.Program.{Inside, Stage, after}
use Rattle.write_core.specs.Rounds.{Round}
use Rattle.write_core.specs.Steps.{turn_buckets}
use Rattle.mon_topo.specs.Views.{View, joined_view, with_root_bit, with_zone_bit}
use Rattle.write_core.specs.World.{World, Writer, at_leaf, view_of, writes_on}
use Rattle.write_core.specs.declared.asks.WriteTold.TheVariants as told
use Rattle.write_core.specs.declared.marks.Mark.{Mark}

-- ---- tests

turned : (place bucket child : Bool) → place ≡ true → ((place && bucket) && child) ≡ (child && bucket)
turned true true true e = refl
turned true true false e = refl
turned true false true e = refl
turned true false false e = refl
turned false bucket child e = absurd cc

elsewhere : (place bucket child old : Bool) → place ≡ false → (((place && bucket) && child) || old) ≡ old
elsewhere false bucket child old e = refl
elsewhere true bucket child old e = absurd cc

regrouped : (place bucket child leaf : Bool) → (place && child) ≡ leaf → ((place && bucket) && child) ≡ (leaf && bucket)
regrouped true bucket child leaf e = ap (λ (c : Bool). bucket && c) e ∙ swapped bucket leaf
  where
    swapped : (a b : Bool) → (a && b) ≡ (b && a)
    swapped true true = refl
    swapped true false = refl
    swapped false true = refl
    swapped false false = refl
regrouped false bucket child leaf e = ap (λ (l : Bool). l && bucket) e

both_false : (a b : Bool) → ((a ≡ true) → (b ≡ true) → ⊥) → (a && b) ≡ false
both_false true true h = absurd (h refl refl)
both_false true false h = refl
both_false false b h = refl

-- ---- words with a bit more

module _ (config : Config) (world next : World) (words : HintTable) (are : AreWords config world words) (bucket : ℕ)
    (below : bucket < config.buckets) where
  in_words : (b : ℕ) → b < config.buckets → b < words.buckets
  in_words b h = subst (λ (n : ℕ). b < n) (sym are.buckets) h

  module _ (place : Place) (child : ℕ) (small : child < 64) (there : HasWord words place bucket) where
    one : RaisesOne words place child bucket
    one = one_raised words place child bucket small there

    count_raised : length (with_child_bit words place child bucket).words ≡ length words.words
    count_raised = length-set words.words _ _

  -- the zone's bit at the root
  pub root_words : (zone : ℕ) → zone < 64
      → ((z b : ℕ) → next.truth.bits.root z b ≡ with_bit world.truth.bits.root zone bucket z b)
      → ((leaf b : ℕ) → next.truth.bits.zone leaf b ≡ world.truth.bits.zone leaf b)
      → AreWords config next (with_child_bit words word.Root zone bucket)
  root_words zone small roots zones =
      let raises = one word.Root zone small (root_there config world words are bucket below) in
      record {
        buckets = are.buckets;
        count = count_raised word.Root zone small (root_there config world words are bucket below) ∙ are.count;
        root = λ z b h.
            raises word.Root b z (in_words b h)
            ∙ (λ k. turned (same_place word.Root word.Root) (nat_eq b bucket) (nat_eq z zone) (eq-eqb 0 0 refl) k
            || are.root z b h k)
            ∙ sym (roots z b);
        zone = λ leaf b here h.
            raises (word.Zone (zone_of_leaf (store_of config) leaf)) b (place_of_leaf (store_of config) leaf)
            (in_words b h)
            ∙ elsewhere (same_place (word.Zone (zone_of_leaf (store_of config) leaf)) word.Root) (nat_eq b bucket)
            (nat_eq (place_of_leaf (store_of config) leaf) zone)
            (has_bit (hint_word_at words (word.Zone (zone_of_leaf (store_of config) leaf)) b)
            (place_of_leaf (store_of config) leaf))
            (ne_eqb (suc (zone_of_leaf (store_of config) leaf).0) 0 (λ e. omega (arith, e)))
            ∙ are.zone leaf b here h ∙ sym (zones leaf.0 b);
      }

  -- the leaf's bit in its zone
  pub zone_words : (leaf : Leaf) → leaf.0 < length (leaves_in config.topology) → place_of_leaf (store_of config) leaf < 64
      → ((z b : ℕ) → next.truth.bits.root z b ≡ world.truth.bits.root z b)
      → ((n b : ℕ) → next.truth.bits.zone n b ≡ with_bit world.truth.bits.zone leaf.0 bucket n b)
      → AreWords config next
      (with_child_bit words (word.Zone (zone_of_leaf (store_of config) leaf)) (place_of_leaf (store_of config) leaf)
      bucket)
  zone_words leaf there small roots zones =
      let own_zone = zone_of_leaf (store_of config) leaf in
      let own_place = place_of_leaf (store_of config) leaf in
      let has = zone_word_there config world words are bucket below own_zone (zone_there config leaf there) in
      let raises = one (word.Zone own_zone) own_place small has in
      record {
        buckets = are.buckets;
        count = count_raised (word.Zone own_zone) own_place small has ∙ are.count;
        root = λ z b h.
            raises word.Root b z (in_words b h)
            ∙ elsewhere (same_place word.Root (word.Zone own_zone)) (nat_eq b bucket) (nat_eq z own_place)
            (has_bit (hint_word_at words word.Root b) z) (ne_eqb 0 (suc own_zone.0) (λ e. omega (arith, e)))
            ∙ are.root z b h ∙ sym (roots z b);
        zone = λ other b here h.
            let zone' = zone_of_leaf (store_of config) other in
            let place' = place_of_leaf (store_of config) other in
            raises (word.Zone zone') b place' (in_words b h)
            ∙ (λ k. regrouped (nat_eq (suc zone'.0) (suc own_zone.0)) (nat_eq b bucket) (nat_eq place' own_place)
            (nat_eq other.0 leaf.0) (same_leaf leaf there other here) k || are.zone other b here h k)
            ∙ sym (zones other.0 b);
      }
    where
      same_leaf : (leaf : Leaf) → leaf.0 < length (leaves_in config.topology) → (other : Leaf)
          → other.0 < length (leaves_in config.topology)
          → (nat_eq (suc (zone_of_leaf (store_of config) other).0) (suc (zone_of_leaf (store_of config) leaf).0)
          && nat_eq (place_of_leaf (store_of config) other) (place_of_leaf (store_of config) leaf)) ≡ nat_eq other.0
          leaf.0
      same_leaf leaf there other here = elim (cases_eq other.0 leaf.0) [
        | inl same ↦
            let leaves : other ≡ leaf = ap leaf_numbered same in
            (λ k. nat_eq (suc (zone_of_leaf (store_of config) (leaves k)).0)
            (suc (zone_of_leaf (store_of config) leaf).0)
            && nat_eq (place_of_leaf (store_of config) (leaves k)) (place_of_leaf (store_of config) leaf))
            ∙ (λ k. eq-eqb (suc (zone_of_leaf (store_of config) leaf).0) (suc (zone_of_leaf (store_of config) leaf).0)
            refl k
            && eq-eqb (place_of_leaf (store_of config) leaf) (place_of_leaf (store_of config) leaf) refl k)
            ∙ sym (eq-eqb other.0 leaf.0 same)
        | inr apart ↦
            both_false
            (nat_eq (suc (zone_of_leaf (store_of config) other).0) (suc (zone_of_leaf (store_of config) leaf).0))
            (nat_eq (place_of_leaf (store_of config) other) (place_of_leaf (store_of config) leaf))
            (λ zones places. apart (one_leaf config other leaf here there
            (let e = eqb-true (suc (zone_of_leaf (store_of config) other).0) (suc (zone_of_leaf (store_of config) leaf).0)
            zones in
            omega (arith, e))
            (eqb-true (place_of_leaf (store_of config) other) (place_of_leaf (store_of config) leaf) places)))
            ∙ sym (ne_eqb other.0 leaf.0 apart)
      ]

-- ---- inside of a leaf

module _ (config : Config) (world : World) (i : ℕ) (store : Store) (writing : Writing) (sight : Sight)
    (work : IsAtWork config world i store writing sight) (done left : List Mark) (mark : Mark)
    (at_root in_zone : List ℕ)
    (at : writing.machine.stage ≡ Inside (record { done = done; left = mark ∷ left }) at_root in_zone) where
  abbrev setting : Setting
  setting = store_of config

  abbrev view : View
  view = view_of (world.actors i)

  abbrev writer : Writer
  writer = writer_of i writing view

  abbrev round : Round
  round = record { done = done; left = mark ∷ left }

  abbrev met : View
  met = joined_view view (world.leaves mark.leaf.0)

  here : IsAt setting world i writer (Inside round at_root in_zone)
  here =
      let own_at : IsAt setting world i writer writing.machine.stage
      = (own config world i store writing sight work).at in
      subst (λ (s : Stage). IsAt setting world i writer s) at own_at

  pub inside_is : IsInside setting world i view mark.leaf (turn_buckets setting (change_turn writing.change)) at_root in_zone
  inside_is = here.1

  pub inside_there : mark.leaf.0 < length world.truth.seen.leaves
  inside_there = leaf_in_truth config world i store writing sight work done left mark here.0.going

  pub inside_listed : mark.leaf.0 < length (leaves_in config.topology)
  inside_listed = subst (λ (n : ℕ). mark.leaf.0 < n) work.kept.truth.held.all_leaves inside_there

  pub leaf_kept : writing.inside ≡ Some mark.leaf
  leaf_kept = work.writer.inside ∙ ap leaf_inside at

  pub buckets_below : RaisesBelow config.buckets (Inside round at_root in_zone)
  buckets_below = subst (λ (s : Stage). RaisesBelow config.buckets s) at work.writer.below

  pub zone_small : (zone_of_leaf setting mark.leaf).0 < 64
  zone_small =
      let most : length config.topology ≤ 32 = (few config.topology work.shared.served.lawful.few).zones_few in
      let there : (zone_of_leaf setting mark.leaf).0 < length config.topology = zone_there config mark.leaf
      inside_listed in
      omega (arith, most, there)

  pub place_small : place_of_leaf setting mark.leaf < 64
  place_small =
      let most : length (leaves_in config.topology) ≤ 64 =
      (few config.topology work.shared.served.lawful.few).leaves_few in
      let least : place_of_leaf setting mark.leaf ≤ mark.leaf.0 = place_below config mark.leaf inside_listed in
      let there : mark.leaf.0 < length (leaves_in config.topology) = inside_listed in
      omega (arith, most, least, there)

  -- a bit was set, and it goes on
  module _ (seat : LeafSeat) (so : IsLeafSo config world mark.leaf seat) (new : Store) (other : LeafSeat)
      (next : Writing)
      (now : Sight) (raises : RaisesBit mark.leaf seat other writing next sight now) (change : View → View)
      (stage : Stage)
      (after_is : after (Inside round at_root in_zone) told.Done ≡ stage)
      (seen_same : (v : View) → (change v).seen ≡ v.seen) where
    seen_is : now ≡ sight_of (change met).seen
    seen_is =
        raises.seen
        ∙ (λ k. sight_at_leaf mark.leaf (so.history k) (work.writer.seen k) (so.sight k))
        ∙ leaf_met setting world view mark.leaf work.kept (own config world i store writing sight work).part
        ∙ ap sight_of (sym (seen_same met))

    abbrev then' : World
    then' = at_leaf world i view mark.leaf change (Some i) (writes_on writer stage)

    pub leaf_then : IsLeafSo config then' mark.leaf other
    leaf_then =
        leaf_so_then config world i view mark.leaf change (Some i) (writes_on writer stage) seat other now so
        raises.stays
        (raises.history ∙ so.history ∙ ap (λ seen. leaf_history seen mark.leaf) (sym (seen_same world.truth)))
        (raises.holder ∙ so.holder ∙ inside_is.holder) seen_is

    pub writer_next : leaf_inside stage ≡ Some mark.leaf → RaisesBelow config.buckets stage
        → IsWriterSo config.buckets i (then'.actors i) next now
    writer_next inside below =
        writer_then config world i store writing sight work (then'.actors i) stage (change met) told.Done
        writing.inside next now
        (changed_same world.actors i (writes_on writer stage (change met))) (ap (λ (s : Stage). after s told.Done) at
        ∙ after_is)
        raises.told_so (leaf_kept ∙ sym inside) below seen_is

    pub goes_on : IsGoingOn stage → IsGoingOn next.machine.stage
    goes_on going = subst IsGoingOn (sym (raises.told_so.stage ∙ ap (λ (s : Stage). after s told.Done) at ∙ after_is))
        going

-- ---- the turns

module _ (config : Config) (world : World) (i : ℕ) (store : Store) (writing : Writing) (sight : Sight)
    (work : IsAtWork config world i store writing sight) (bucket : ℕ) (at_root in_zone : List ℕ)
    (at : StandsInside writing.machine.stage (bucket ∷ at_root) in_zone) (seat : LeafSeat)
    (so : IsLeafSo config world at.mark.leaf seat) where
  abbrev root_view : View
  root_view = view_of (world.actors i)

  abbrev root_stage : Stage
  root_stage = Inside (record { done = at.done; left = at.mark ∷ at.left }) at_root in_zone

  abbrev root_change : View → View
  root_change = with_root_bit (zone_of_leaf (store_of config) at.mark.leaf) bucket

  abbrev root_world : World
  root_world = at_leaf world i root_view at.mark.leaf root_change (Some i) (writes_on (writer_of i writing root_view)
      root_stage)

  pub root_turn : (new : Store) (other : LeafSeat) (next : Writing) (now : Sight)
      → RaisesWord word.Root seat.zone.0 bucket at.mark.leaf other store new
      → RaisesBit at.mark.leaf seat other writing next sight now → WriteWent config world i new writing next now
  root_turn new other next now changes raises =
      let below : RaisesBelow config.buckets (Inside (record { done = at.done; left = at.mark ∷ at.left })
      (bucket ∷ at_root) in_zone)
      = buckets_below config world i store writing sight work at.done at.left at.mark (bucket ∷ at_root) in_zone
      at.is in
      let small = zone_small config world i store writing sight work at.done at.left at.mark (bucket ∷ at_root) in_zone
      at.is in
      let words : AreWords config root_world new.words
      = subst (λ (w : HintTable). AreWords config root_world w)
      (sym (changes.words ∙ ap (λ (z : Zone). with_child_bit store.words word.Root z.0 bucket) so.zone))
      (root_words config world root_world store.words work.shared.words bucket below.0.0
      (zone_of_leaf (store_of config) at.mark.leaf).0 small (λ z b. refl) (λ n b. refl)) in
      went_so config world i store writing sight work told.Done root_world new next now
      (step_is config world i store writing sight work
      (Inside (record { done = at.done; left = at.mark ∷ at.left }) (bucket ∷ at_root) in_zone) told.Done at.is)
      (can_come config world i store writing sight work
      (Inside (record { done = at.done; left = at.mark ∷ at.left }) (bucket ∷ at_root) in_zone) told.Done at.is refl)
      (record {
        config_is = changes.config ∙ work.shared.config_is;
        served = work.shared.served;
        words = words;
        leaves = leaves_at_leaf config world i root_view at.mark.leaf root_change (λ n apart. refl) (λ range. refl)
            (Some i)
            (writes_on (writer_of i writing root_view) root_stage) store.leaves.items new.leaves.items other
            work.shared.leaves
            changes.leaves
            (leaf_then config world i store writing sight work at.done at.left at.mark (bucket ∷ at_root) in_zone at.is
            seat so
            new other next now raises root_change root_stage refl (λ v. refl));
        ranges = ranges_at_leaf config world i root_view at.mark.leaf root_change (λ n apart. refl) (λ range. refl)
            (Some i)
            (writes_on (writer_of i writing root_view) root_stage) store.ranges.items new.ranges.items
            work.shared.ranges
            changes.ranges;
        first = changes.first ∙ work.shared.first;
      })
      (writer_next config world i store writing sight work at.done at.left at.mark (bucket ∷ at_root) in_zone at.is
      seat so new
      other next now raises root_change root_stage refl (λ v. refl) refl (below.0.1, below.1))
      (goes_on config world i store writing sight work at.done at.left at.mark (bucket ∷ at_root) in_zone at.is seat so
      new other
      next now raises root_change root_stage refl (λ v. refl) (going_inside at.done (at.mark ∷ at.left) at_root
      in_zone))
      raises.told_so.stage

module _ (config : Config) (world : World) (i : ℕ) (store : Store) (writing : Writing) (sight : Sight)
    (work : IsAtWork config world i store writing sight) (bucket : ℕ) (in_zone : List ℕ)
    (at : StandsInside writing.machine.stage [] (bucket ∷ in_zone)) (seat : LeafSeat)
    (so : IsLeafSo config world at.mark.leaf seat) where
  abbrev zone_view : View
  zone_view = view_of (world.actors i)

  abbrev zone_stage : Stage
  zone_stage = Inside (record { done = at.done; left = at.mark ∷ at.left }) [] in_zone

  abbrev zone_change : View → View
  zone_change = with_zone_bit at.mark.leaf bucket

  abbrev zone_world : World
  zone_world = at_leaf world i zone_view at.mark.leaf zone_change (Some i) (writes_on (writer_of i writing zone_view)
      zone_stage)

  pub zone_turn : (new : Store) (other : LeafSeat) (next : Writing) (now : Sight)
      → RaisesWord (word.Zone seat.zone) seat.place bucket at.mark.leaf other store new
      → RaisesBit at.mark.leaf seat other writing next sight now → WriteWent config world i new writing next now
  zone_turn new other next now changes raises =
      let below : RaisesBelow config.buckets (Inside (record { done = at.done; left = at.mark ∷ at.left }) []
      (bucket ∷ in_zone))
      = buckets_below config world i store writing sight work at.done at.left at.mark [] (bucket ∷ in_zone) at.is in
      let small = place_small config world i store writing sight work at.done at.left at.mark [] (bucket ∷ in_zone)
      at.is in
      let listed = inside_listed config world i store writing sight work at.done at.left at.mark [] (bucket ∷ in_zone)
      at.is in
      let words : AreWords config zone_world new.words
      = subst (λ (w : HintTable). AreWords config zone_world w)
      (sym (changes.words ∙ (λ k. with_child_bit store.words (word.Zone (so.zone k)) (so.place k) bucket)))
      (zone_words config world zone_world store.words work.shared.words bucket below.1.0 at.mark.leaf listed small
      (λ z b. refl) (λ n b. refl)) in
      went_so config world i store writing sight work told.Done zone_world new next now
      (step_is config world i store writing sight work
      (Inside (record { done = at.done; left = at.mark ∷ at.left }) [] (bucket ∷ in_zone)) told.Done at.is)
      (can_come config world i store writing sight work
      (Inside (record { done = at.done; left = at.mark ∷ at.left }) [] (bucket ∷ in_zone)) told.Done at.is refl)
      (record {
        config_is = changes.config ∙ work.shared.config_is;
        served = work.shared.served;
        words = words;
        leaves = leaves_at_leaf config world i zone_view at.mark.leaf zone_change (λ n apart. refl) (λ range. refl)
            (Some i)
            (writes_on (writer_of i writing zone_view) zone_stage) store.leaves.items new.leaves.items other
            work.shared.leaves
            changes.leaves
            (leaf_then config world i store writing sight work at.done at.left at.mark [] (bucket ∷ in_zone) at.is seat
            so
            new other next now raises zone_change zone_stage refl (λ v. refl));
        ranges = ranges_at_leaf config world i zone_view at.mark.leaf zone_change (λ n apart. refl) (λ range. refl)
            (Some i)
            (writes_on (writer_of i writing zone_view) zone_stage) store.ranges.items new.ranges.items
            work.shared.ranges
            changes.ranges;
        first = changes.first ∙ work.shared.first;
      })
      (writer_next config world i store writing sight work at.done at.left at.mark [] (bucket ∷ in_zone) at.is seat so
      new
      other next now raises zone_change zone_stage refl (λ v. refl) refl (tt, below.1.1))
      (goes_on config world i store writing sight work at.done at.left at.mark [] (bucket ∷ in_zone) at.is seat so new
      other
      next now raises zone_change zone_stage refl (λ v. refl) (going_inside at.done (at.mark ∷ at.left) [] in_zone))
      raises.told_so.stage
