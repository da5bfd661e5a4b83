-- How a turn that its range's cell refuses is refused by the store.
use Rattle.std.proofs.lemmas.Bool.{or_parts}
use Rattle.std.proofs.Common.{◌≡◌, ℕ, true, false, List, [], ◌∷◌, ◌++◌, length, map, refl, sym, ap, subst}
use Rattle.std.proofs.Common.{◌∙◌, Option, Some, None, ◌+◌}
use Rattle.std.specs.Prelude.{Contains, option_map, ℤ}
use Rattle.std.specs.List.{flat_map}
use Rattle.history_book.specs.Seats.{length_note}
use Rattle.history_book.specs.declared.views.Kept.{Kept}
use Rattle.know.specs.Knowledge.{Knowledge}
use Rattle.mon_config.specs.declared.config.Config.{Config}
use Rattle.mon_topo.proofs.FrontLemmas.{begins_same}
use Rattle.mon_topo.specs.RangeHistories.{serving}
use Rattle.mon_topo.specs.Settings.{Setting}
use Rattle.mon_topo.specs.Zones.{leaves_in}
use Rattle.mon_value.specs.Histories.{range_history}
use Rattle.mon_value.specs.declared.histories.RangeEntry.{RangeEntry}
use Rattle.mon_value.specs.declared.positions.FoundDown.{FoundDown}
use Rattle.mon_value.specs.declared.positions.Range.{Range}
use Rattle.mon_value.specs.declared.positions.SlotLeaf.{SlotLeaf}
use Rattle.mon_value.specs.Turns.{Turn}
use Rattle.mon_value.specs.declared.rows.Row.{Row}
use Rattle.owners.specs.Puts.{pass_of}
use Rattle.mon_store.proofs.CarriedLemmas.{HasGoneOver, HasReturned, over_carried}
use Rattle.mon_store.proofs.CarriedLemmas.{over_down, over_found}
use Rattle.mon_store.proofs.WriteLemmas.{IsCarried}
use Rattle.mon_store.proofs.WrittenLemmas.{went_down, went_over}
use Rattle.mon_store.specs.Passes.{IsPass}
use Rattle.mon_store.specs.Writes.{WasFoundSo}
use Rattle.running_query.specs.Ends.{WasFoundDown}
use Rattle.range_cell.specs.Calls.{HasBegun, HasGivenBack}
use Rattle.range_cell.specs.Writes.{HasFoundNone, HasGivenUp}
use Rattle.range_cell.specs.Writing.{with_put_of, with_puts}
use Rattle.write_core.proofs.AckLemmas.{contains_flat, contains_one}
use Rattle.mon_value.proofs.PlainLemmas.{contains_none}
use Rattle.mon_store.proofs.AddedLemmas.{map_both}
use Rattle.write_core.specs.Invariant.{AreAll, is_decided}
use Rattle.write_core.specs.Marks.{found_in_mark, found_of, has_taken, replica_of, some_took}
use Rattle.write_core.specs.RangeAnswers.{lock_answer, refusal, told_unless}
use Rattle.write_core.specs.declared.asks.WriteTold.{WriteTold}
use Rattle.write_core.specs.declared.asks.WriteTold.TheVariants as told
use Rattle.write_core.specs.declared.marks.Fate.{Fate}
use Rattle.write_core.specs.declared.marks.Fate.TheVariants as fate
use Rattle.write_core.specs.declared.marks.Mark.{Mark}
use Rattle.write_core.specs.declared.refusals.Refused.{Refused}
use Rattle.write_core.specs.declared.refusals.Refused.TheVariants as refused

-- ---- what is told at the lock, by why the row is refused

none_refused : (replicas others : List SlotLeaf) (why : Option Refused) → told_unless replicas why ≡ told.Slots others
    → why ≡ None
none_refused replicas others None e = refl
none_refused replicas others (Some (refused.OldPoint last)) e = absurd cc
none_refused replicas others (Some (refused.RangeFull count)) e = absurd cc

abbrev last_in : WriteTold → ℤ → ℤ
last_in (told.Slots replicas) d = d
last_in (told.OldPoint last) d = last
last_in (told.RangeFull count) d = d
last_in (told.Up buckets) d = d
last_in (told.Down cut) d = d
last_in told.Done d = d

abbrev count_in : WriteTold → ℕ
count_in (told.Slots replicas) = 0
count_in (told.OldPoint last) = 0
count_in (told.RangeFull count) = count
count_in (told.Up buckets) = 0
count_in (told.Down cut) = 0
count_in told.Done = 0

old_refused : (replicas : List SlotLeaf) (why : Option Refused) (last : ℤ)
    → told_unless replicas why ≡ told.OldPoint last → why ≡ Some (refused.OldPoint last)
old_refused replicas None last e = absurd cc
old_refused replicas (Some (refused.OldPoint other)) last e =
    ap (λ z. Some (refused.OldPoint z)) (ap (λ t. last_in t last) e)
old_refused replicas (Some (refused.RangeFull count)) last e = absurd cc

full_refused : (replicas : List SlotLeaf) (why : Option Refused) (count : ℕ)
    → told_unless replicas why ≡ told.RangeFull count → why ≡ Some (refused.RangeFull count)
full_refused replicas None count e = absurd cc
full_refused replicas (Some (refused.OldPoint last)) count e = absurd cc
full_refused replicas (Some (refused.RangeFull other)) count e = ap (λ n. Some (refused.RangeFull n)) (ap count_in e)

module _ (limit points : ℕ) (same : limit ≡ points) (history : List RangeEntry) (row : Row) where
  pub goes_in : (replicas : List SlotLeaf) → lock_answer limit history row ≡ told.Slots replicas
      → refusal points history row ≡ None
  goes_in replicas e = subst (λ n. refusal n history row ≡ None) same
      (none_refused (serving history) replicas (refusal limit history row) e)

  pub is_old : (last : ℤ) → lock_answer limit history row ≡ told.OldPoint last
      → refusal points history row ≡ Some (refused.OldPoint last)
  is_old last e = subst (λ n. refusal n history row ≡ Some (refused.OldPoint last)) same
      (old_refused (serving history) (refusal limit history row) last e)

  pub is_full : (count : ℕ) → lock_answer limit history row ≡ told.RangeFull count
      → refusal points history row ≡ Some (refused.RangeFull count)
  is_full count e = subst (λ n. refusal n history row ≡ Some (refused.RangeFull count)) same
      (full_refused (serving history) (refusal limit history row) count e)

-- ---- the range was given back

pub given_back : (leaves : ℕ) (range : Range) (history : List RangeEntry) (mid after : Knowledge)
    → HasGivenBack leaves range history mid after → HasReturned leaves range history mid after
given_back leaves range history mid after back = record {
  fronts = back.met.fronts;
  notes = back.met.notes
      ∙ ap (λ (h : List RangeEntry). mid.purse.notes ++ length_note (leaves + range.0) (length h) ∷ []) back.whole;
  met = back.met.met;
  stock = back.met.stock;
  lost = back.met.lost;
  rooms = back.met.rooms;
  holding = back.met.holding;
  handed = back.met.handed;
}

put_none : (pass : ℕ) (range : Range) (turn : Turn) (mark : Mark) (f : Fate) (kept : Kept) → has_taken f ≡ false
    → with_put_of pass range turn mark f kept ≡ kept
put_none pass range turn mark fate.Waiting kept n = refl
put_none pass range turn mark fate.Ready kept n = refl
put_none pass range turn mark fate.Took kept n = absurd cc
put_none pass range turn mark (fate.Missed cut) kept n = refl

puts_none : (pass : ℕ) (range : Range) (turn : Turn) (marks : List Mark) (kept : Kept) → some_took marks ≡ false
    → with_puts pass range turn marks kept ≡ kept
puts_none pass range turn [] kept n = refl
puts_none pass range turn (mark ∷ marks) kept n =
    let parts = or_parts (has_taken mark.fate) (some_took marks) n in
    ap (with_puts pass range turn marks) (put_none pass range turn mark mark.fate kept parts.0)
    ∙ puts_none pass range turn marks kept parts.1

map_alike : {X : Type 0} (f : X → X) (o : Option X) → ((x : X) → f x ≡ x) → option_map f o ≡ o
map_alike f None same = refl
map_alike f (Some x) same = ap (λ y. Some y) (same x)

found_leaf_at : (mark : Mark) (f : Fate) → is_decided f ≡ true → has_taken f ≡ false
    → map (λ (found : FoundDown). found.leaf) (found_of mark f) ≡ mark.leaf ∷ []
found_leaf_at mark fate.Waiting d n = absurd cc
found_leaf_at mark fate.Ready d n = absurd cc
found_leaf_at mark fate.Took d n = absurd cc
found_leaf_at mark (fate.Missed cut) d n = refl

found_leaves : (marks : List Mark) → AreAll is_decided marks → some_took marks ≡ false
    → map (λ (found : FoundDown). found.leaf) (flat_map found_in_mark marks)
    ≡ map (λ (replica : SlotLeaf). replica.leaf) (map replica_of marks)
found_leaves [] d n = refl
found_leaves (mark ∷ marks) d n =
    let parts = or_parts (has_taken mark.fate) (some_took marks) n in
    map_both (λ (found : FoundDown). found.leaf) (found_in_mark mark) (flat_map found_in_mark marks)
    ∙ (λ i. found_leaf_at mark mark.fate d.0 parts.0 i ++ found_leaves marks d.1 parts.1 i)

found_at : (mark : Mark) (f : Fate) (found : FoundDown) → Contains (found_of mark f) found
    → (cut : ℕ) × (f ≡ fate.Missed cut) × (record { leaf = mark.leaf; cut = cut } ≡ found)
found_at mark fate.Waiting found there = absurd (contains_none found there)
found_at mark fate.Ready found there = absurd (contains_none found there)
found_at mark fate.Took found there = absurd (contains_none found there)
found_at mark (fate.Missed cut) found there =
    (cut, refl, contains_one (record { leaf = mark.leaf; cut = cut }) found there)

-- ---- a turn that found each replica down, and one that was given up

module _ (setting : Setting) (config : Config) (leaves : ℕ) (range : Range) (turn : Turn) (before after : Knowledge)
    (is : IsPass setting before) (counted : leaves ≡ length (leaves_in config.topology)) (history : List RangeEntry)
    (begun : Knowledge) (begins : HasBegun leaves range history before begun) where
  abbrev pass : ℕ
  pass = pass_of before

  module _ (founds : List FoundDown) (none : HasFoundNone leaves range turn history pass begun after founds) where
    returned : HasReturned leaves range history none.mid after
    returned = given_back leaves range history none.mid after none.back

    over : HasGoneOver begun none.mid
    over = went_over range turn pass (serving history) begun none.mid none.marks none.through

    pub none_carried : IsCarried before after
    none_carried =
        over_carried setting config leaves range before after is counted history begun none.mid begins over returned

    pub none_own : after.purse.own ≡ before.purse.own
    none_own =
        none.back.met.own ∙ none.through.so_far.writing.own
        ∙ map_alike (with_puts pass range turn none.marks) begun.purse.own
        (λ kept. puts_none pass range turn none.marks kept none.none)
        ∙ begins.met.own

    pub none_found : WasFoundSo config range history before after
    none_found =
        over_found setting config leaves range before after is counted history begun none.mid begins over returned
        (begins_same (range_history after.seen range) history none.back.whole)

    pub none_leaves : map (λ (found : FoundDown). found.leaf) founds
        ≡ map (λ (replica : SlotLeaf). replica.leaf) (serving history)
    none_leaves =
        ap (map (λ (found : FoundDown). found.leaf)) (sym none.founds_are)
        ∙ found_leaves none.marks none.through.decided none.none
        ∙ ap (map (λ (replica : SlotLeaf). replica.leaf)) none.through.so_far.serve

    pub none_down : (found : FoundDown) → Contains founds found → WasFoundDown before after found.leaf found.cut
    none_down found there =
        let mark = contains_flat found_in_mark none.marks found
        (subst (λ (xs : List FoundDown). Contains xs found) (sym none.founds_are) there) in
        let at = found_at mark.0 mark.0.fate found mark.2 in
        let down = went_down range turn pass (serving history) begun none.mid none.marks
        none.through mark.0 at.0 mark.1 at.1 in
        subst (λ (f : FoundDown). WasFoundDown before after f.leaf f.cut) at.2
        (over_down setting config leaves range before after is counted history begun none.mid begins over returned
        mark.0.leaf at.0 down.1 down.2)

  module _ (up : HasGivenUp leaves range turn history pass begun after) where
    up_over : HasGoneOver begun up.mid
    up_over = record {
      fronts = up.withdrawn.fronts;
      rooms = up.withdrawn.rooms;
      more = up.withdrawn.notes.0;
      notes = up.withdrawn.notes.1;
      holds = up.withdrawn.holds;
      met = up.withdrawn.met;
      stock = up.withdrawn.stock;
      lost = up.withdrawn.lost;
      handed = up.withdrawn.handed;
    }

    pub up_carried : IsCarried before after
    up_carried =
        over_carried setting config leaves range before after is counted history begun up.mid begins up_over
        (given_back leaves range history up.mid after up.back)

    pub up_own : after.purse.own ≡ before.purse.own
    up_own = up.back.met.own ∙ up.withdrawn.own ∙ begins.met.own
