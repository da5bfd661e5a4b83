-- What the first caller has once all first replicas are opened.
use Rattle.std.proofs.Common.{◌≡◌, ℕ, zero, suc, ◌+◌, ◌<◌, Bool, true, cond, List, [], ◌∷◌, ◌++◌, length, map}
use Rattle.std.proofs.Common.{filter}
use Rattle.std.proofs.Common.{get_or, refl, sym, ap, subst, ◌∙◌, arith, inl, inr, Some, append-nil, nat_lt}
use Rattle.std.specs.Prelude.{Contains, option_map, option_to_list}
use Rattle.std.specs.List.{AllByRecursion as All}
use Rattle.std.proofs.lemmas.Bool.{cases_lt}
use Rattle.std.proofs.lemmas.Bool.Decides.{nat_tests}
use Rattle.std.proofs.lemmas.List.{get_or_past}
use Rattle.history_book.specs.declared.views.BookEntry.{BookEntry}
use Rattle.history_book.specs.declared.views.BookEntry.TheVariants as one
use Rattle.history_book.specs.declared.views.History.{History}
use Rattle.history_book.specs.declared.views.History.TheVariants as of
use Rattle.history_book.specs.declared.views.Kept.{Kept}
use Rattle.history_book.specs.Histories.{entries, is_under}
use Rattle.history_book.specs.Seats.{IsPurseBorneOut, hand_of, kept_in}
use Rattle.know.specs.Knowledge.{Knowledge}
use Rattle.mon_config.specs.declared.config.Config.{Config}
use Rattle.mon_topo.proofs.FirstLemmas.{HasNoRow, leaf_bare, leaf_count, leaf_is, range_count, range_is}
use Rattle.mon_topo.proofs.HeldLemmas.{seen_within_itself}
use Rattle.mon_topo.specs.HeldHistories.{first_histories, first_range_history, opened_before, openings_from}
use Rattle.mon_topo.specs.HeldHistories.{slot_numbered, AreWithin}
use Rattle.mon_topo.specs.Settings.{Setting}
use Rattle.mon_topo.specs.Zones.{first_replicas, leaves_in, ranges_in}
use Rattle.mon_topo.specs.declared.zones.ZoneSpec.{ZoneSpec}
use Rattle.mon_value.specs.Histories.{leaf_history, leaf_numbered, range_numbered}
use Rattle.mon_value.specs.declared.histories.Entry.{Entry}
use Rattle.mon_value.specs.declared.histories.Histories.{Histories}
use Rattle.mon_value.specs.declared.histories.RangeEntry.{RangeEntry}
use Rattle.mon_value.specs.declared.histories.RangeEntry.TheVariants as range_entry
use Rattle.mon_value.specs.declared.positions.Leaf.{Leaf}
use Rattle.owners.specs.Puts.{number_or}
use Rattle.mon_store.specs.Beginnings.{IsFirst}
use Rattle.mon_store.specs.Openings.{AreSame, IsOpenedUpTo, IsOpener, opened_range}
use Rattle.mon_store.specs.Passes.{HasSeenItsOwn, IsPass}
use Rattle.mon_store.specs.Writes.{own_entries}

same_lists : {X : Type 0} (xs ys : List X) (d : X) → length xs ≡ length ys
    → ((n : ℕ) → n < length xs → get_or xs n d ≡ get_or ys n d) → xs ≡ ys
same_lists [] [] d p q = refl
same_lists [] (y ∷ ys) d p q = absurd (omega (arith, p))
same_lists (x ∷ xs) [] d p q = absurd (omega (arith, p))
same_lists (x ∷ xs) (y ∷ ys) d p q =
    let rest = same_lists xs ys d (omega (arith, p)) (λ n h. q (suc n) (omega (arith, h))) in
    let first : x ≡ y = q 0 (omega arith) in
    λ i. first i ∷ rest i

-- ---- all that was seen

module _ (zones : List ZoneSpec) (seen : Histories) (all_leaves : length seen.leaves ≡ length (leaves_in zones))
    (all_ranges : length seen.ranges ≡ length (ranges_in zones))
    (opened : IsOpenedUpTo zones (length (ranges_in zones)) 0 seen) where
  first_leaves : seen.leaves ≡ (first_histories zones).leaves
  first_leaves = same_lists seen.leaves (first_histories zones).leaves [] (all_leaves ∙ sym (leaf_count zones))
      (λ n h.
      let here : n < length (leaves_in zones) = omega (arith, h, all_leaves) in
      opened.leaves n here ∙ append-nil (opened_before zones (length (ranges_in zones)) n)
      ∙ sym (leaf_is zones (leaf_numbered n) here))

  first_ranges : seen.ranges ≡ (first_histories zones).ranges
  first_ranges = same_lists seen.ranges (first_histories zones).ranges [] (all_ranges ∙ sym (range_count zones))
      (λ n h.
      let here : n < length (ranges_in zones) = omega (arith, h, all_ranges) in
      opened.ranges n ∙ whole n here ∙ sym (range_is zones (range_numbered n) here))
    where
      whole : (n : ℕ) → n < length (ranges_in zones)
          → opened_range zones (length (ranges_in zones)) n ≡ first_range_history zones n
      whole n here =
          let test : nat_lt n (length (ranges_in zones)) ≡ true = grind (arith, nat_tests) in
          ap (λ (b : Bool). cond b (first_range_history zones n) []) test

  pub seen_first : seen ≡ first_histories zones
  seen_first = λ i. record { leaves = first_leaves i; ranges = first_ranges i }

-- ---- all of it is under the number 0

leaf_under : (h : List Entry) → All HasNoRow h
    → filter (is_under 0) (map (λ e. one.Leaf e) h) ≡ map (λ e. one.Leaf e) h
leaf_under [] bare = refl
leaf_under (e ∷ h) bare =
    let under : is_under 0 (one.Leaf e) ≡ true = ap (λ (x : Entry). is_under 0 (one.Leaf x)) bare.0.is in
    ap (λ (b : Bool). cond b (one.Leaf e ∷ filter (is_under 0) (map (λ x. one.Leaf x) h))
    (filter (is_under 0) (map (λ x. one.Leaf x) h))) under
    ∙ ap (λ (xs : List BookEntry). one.Leaf e ∷ xs) (leaf_under h bare.1)

range_under : (k : ℕ) (leaves : List Leaf)
    → filter (is_under 0) (map (λ e. one.Range e) (openings_from k leaves))
    ≡ map (λ e. one.Range e) (openings_from k leaves)
range_under k [] = refl
range_under k (leaf ∷ leaves) =
    ap (λ (xs : List BookEntry). one.Range (range_entry.Opened 0 (slot_numbered k) leaf) ∷ xs)
    (range_under (k + 1) leaves)

first_under : (zones : List ZoneSpec) (history : History)
    → filter (is_under 0) (entries (first_histories zones) history) ≡ entries (first_histories zones) history
first_under zones (of.Leaf leaf) = leaf_under (leaf_history (first_histories zones) leaf) (leaf_bare zones leaf)
first_under zones (of.Range range) = elim (cases_lt range.0 (length (ranges_in zones))) [
  | inl h ↦
      subst (λ (x : List RangeEntry). filter (is_under 0) (map (λ e. one.Range e) x) ≡ map (λ e. one.Range e) x)
      (sym (range_is zones range h)) (range_under 0 (first_replicas zones range.0))
  | inr past ↦
      let count = range_count zones in
      subst (λ (x : List RangeEntry). filter (is_under 0) (map (λ e. one.Range e) x) ≡ map (λ e. one.Range e) x)
      (sym (get_or_past (first_histories zones).ranges range.0 [] (omega (arith, past, count)))) refl
]

-- ---- the caller

same_entries_in : (a b : Histories) → AreSame a b → (history : History) → entries a history ≡ entries b history
same_entries_in a b same (of.Leaf leaf) = ap (map (λ e. one.Leaf e)) (same.leaves leaf)
same_entries_in a b same (of.Range range) = ap (map (λ e. one.Range e)) (same.ranges range)

module _ (setting : Setting) (know : Knowledge) (is : IsOpener know) (none : know.purse.holds ≡ [])
    (seen : know.seen ≡ first_histories setting.zones) where
  number : (hand_of know.purse).own ≡ Some 0
  number = ap (λ o. option_map (λ (kept : Kept). kept.number) o) is.own ∙ ap (λ n. Some n) is.number

  own_in : (history : History) → entries is.kept.own history ≡ entries know.seen history
  own_in = same_entries_in is.kept.own know.seen is.entries

  pub is_first : (config : Config) → config.topology ≡ setting.zones → IsFirst config know
  is_first config zones = record {
    seen = seen ∙ ap first_histories (sym zones);
    own = λ history. ap (λ o. own_entries o history) is.own ∙ own_in history;
    number = number;
    stock = is.stock;
    met = is.met;
    lost = is.lost;
    handed = is.handed;
  }

  only_kept : (kept : Kept) → Contains (kept_in know.purse) kept → is.kept ≡ kept
  only_kept kept there =
      by (subst (λ xs. Contains xs kept) (λ i. option_to_list (is.own i) ++ is.met i) there)
    where
      by : Contains (is.kept ∷ []) kept → is.kept ≡ kept
      by (zero, h, same) = same
      by (suc n, h, same) = absurd (omega (arith, h))

  exact : HasSeenItsOwn know
  exact kept history there =
      subst (λ (k : Kept). filter (is_under k.number) (entries know.seen history) ≡ entries k.own history)
      (only_kept kept there)
      (ap (λ n. filter (is_under n) (entries know.seen history)) is.number
      ∙ ap (λ (s : Histories). filter (is_under 0) (entries s history)) seen
      ∙ first_under setting.zones history
      ∙ ap (λ (s : Histories). entries s history) (sym seen) ∙ sym (own_in history))

  pub is_pass : IsPurseBorneOut know.seen know.purse → IsPass setting know
  is_pass borne = record {
    number = number ∙ sym (ap (λ o. Some (number_or 0 o)) number);
    holds = none;
    rooms = is.rooms;
    begun = subst (AreWithin (first_histories setting.zones)) (sym seen)
        (seen_within_itself (first_histories setting.zones));
    exact = exact;
    borne_out = borne;
  }
