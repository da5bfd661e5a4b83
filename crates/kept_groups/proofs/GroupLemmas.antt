-- Groups of rows of which one takes the place of another, or to which one comes.
use Rattle.std.proofs.Common.{◌≡◌, ◌∙◌, ◌≤◌, ◌++◌, ℕ, Bool, true, false, cond, Option, Some, None, List, [], ◌∷◌, map, length}
use Rattle.std.proofs.Common.{IfSome, slice_get, refl, sym, ap, subst, arith}
use Rattle.std.specs.List.{AllByRecursion}
use Rattle.std.specs.List.Sorted.{IsPermutation}
use Rattle.std.specs.Map.{lookup, set_value}
use Rattle.std.proofs.lemmas.List.Sorted.{IsPermutation-append_left, IsPermutation-sym, IsPermutation-to_front}
use Rattle.std.proofs.lemmas.List.Sorted.{IsPermutation-trans, length_permutation}
use Rattle.mon_value.specs.Groups.{TakesColumn, UnlessCount, group_key, group_keys, rows_in}
use Rattle.mon_value.specs.Same.{same_row}
use Rattle.mon_value.specs.Tables.{FitColumns}
use Rattle.mon_value.specs.Values.{greatest_sum}
use Rattle.mon_value.specs.declared.aggregates.Aggregate.{Aggregate}
use Rattle.mon_value.specs.declared.columns.Column.{Column}
use Rattle.mon_value.specs.declared.tables.TimedRow.{TimedRow}
use Rattle.mon_value.proofs.GroupLemmas.{has, look_up, rows_some, same_itself}
use Rattle.mon_value.proofs.KeyedLemmas as keyed
use Rattle.mon_value.proofs.PermutationLemmas.{filter-permutation}
use Rattle.mon_value.proofs.SameLemmas.{same_row-Decides}
use Rattle.mon_fold.proofs.GroupBounds.{Fits, all_in_group, groups_are, if_there, parts_at, parts_can}
use Rattle.mon_fold.proofs.PartialGroupLemmas.{partial_groups-push}
use Rattle.mon_fold.specs.PartialGroups.{CanMergeParts, CanTakeGroup, PartialGroup, partial_groups, parts_over, with_group}
use Rattle.mon_fold.specs.declared.aggregate_parts.AggregatePart.{AggregatePart}
use Rattle.kept_groups.specs.Trades.{AreGroupsOver, CanTrade, CanTradeParts, traded_parts}
use Rattle.kept_groups.proofs.OrderLemmas.{parts_alike}
use Rattle.kept_groups.proofs.PlaceLemmas.{keys_replaced, others_same, placed}
use Rattle.kept_groups.proofs.TradeLemmas.{PartsTrade, parts_trade}

-- ---- one group is written

module _ (by : List ℕ) (key : TimedRow) (old new : TimedRow → List AggregatePart)
    (others : (k : TimedRow) → same_row key k ≡ false → old k ≡ new k) where
  abbrev groups_by : (TimedRow → List AggregatePart) → List TimedRow → List PartialGroup
  groups_by parts keys = map (λ k. (k, parts k)) keys

  apart : (keys : List TimedRow) → has by key keys ≡ false → groups_by old keys ≡ groups_by new keys
  apart [] none = refl
  apart (k ∷ keys) none =
      let parts = keyed.or_false same_row same_row-Decides (group_key by) (same_row key k) (has by key keys) none in
      let first = others k parts.0 in
      let rest = apart keys parts.1 in
      λ i. (k, first i) ∷ rest i

  written_by : (k : TimedRow) (keys : List TimedRow) (w : List AggregatePart) (b : Bool) → same_row key k ≡ b
      → w ≡ new key → has by k keys ≡ false
      → set_value (same_row key) (groups_by old keys) w ≡ groups_by new keys
      → cond b ((k, w) ∷ groups_by old keys) ((k, old k) ∷ set_value (same_row key) (groups_by old keys) w)
      ≡ (k, new k) ∷ groups_by new keys
  written_by k keys w true same is none rest =
      let alike : key ≡ k = (same_row-Decides key k).0 same in
      let first : w ≡ new k = is ∙ ap new alike in
      let behind = apart keys (subst (λ (x : TimedRow). has by x keys ≡ false) (sym alike) none) in
      λ i. (k, first i) ∷ behind i
  written_by k keys w false same is none rest =
      let first = others k same in
      λ i. (k, first i) ∷ rest i

  pub written : (keys : List TimedRow) (w : List AggregatePart)
      → keyed.Distinct same_row same_row-Decides (group_key by) keys → w ≡ new key
      → set_value (same_row key) (groups_by old keys) w ≡ groups_by new keys
  written [] w distinct is = refl
  written (k ∷ keys) w distinct is =
      written_by k keys w (same_row key k) refl is distinct.0 (written keys w distinct.1 is)

-- ---- the rows of a group, whatever their order

pub own_first : (by : List ℕ) (key row : TimedRow) (rest : List TimedRow) → group_key by row ≡ key
    → rows_in by key (row ∷ rest) ≡ row ∷ rows_in by key rest
own_first by key row rest is =
    let same : same_row key (group_key by row) ≡ true =
    subst (λ (k : TimedRow). same_row key k ≡ true) (sym is) (same_itself by key) in
    ap (λ b. cond b (row ∷ rows_in by key rest) (rows_in by key rest)) same

parts_of_group : (by : List ℕ) (with : List Aggregate) (key : TimedRow) (rows taken : List TimedRow)
    → IsPermutation rows taken → parts_over with (rows_in by key rows) ≡ parts_over with (rows_in by key taken)
parts_of_group by with key rows taken same =
    parts_alike with (rows_in by key rows) (rows_in by key taken)
    (filter-permutation (λ (row : TimedRow). same_row key (group_key by row)) rows taken same)

looked_up : (by : List ℕ) (with : List Aggregate) (key : TimedRow) (taken : List TimedRow) (b : Bool)
    → has by key (group_keys by taken) ≡ b
    → lookup (same_row key) (partial_groups by with taken) ≡ cond b (Some (parts_over with (rows_in by key taken))) None
looked_up by with key taken b is =
    ap (lookup (same_row key)) (groups_are by with taken (group_keys by taken))
    ∙ look_up by (λ (k : TimedRow). parts_over with (rows_in by k taken)) key (group_keys by taken) b is

-- where a row is of the group it is there, with the parts of its rows
looked_by : (by : List ℕ) (with : List Aggregate) (key row : TimedRow) (rest taken : List TimedRow) (b : Bool)
    → has by key (group_keys by taken) ≡ b → group_key by row ≡ key → IsPermutation (row ∷ rest) taken
    → lookup (same_row key) (partial_groups by with taken) ≡ Some (parts_over with (row ∷ rows_in by key rest))
looked_by by with key row rest taken true there own same =
    looked_up by with key taken true there
    ∙ ap (λ parts. Some parts) (sym (parts_of_group by with key (row ∷ rest) taken same)
    ∙ ap (parts_over with) (own_first by key row rest own))
looked_by by with key row rest taken false there own same =
    let none = keyed.items_none same_row same_row-Decides (group_key by) key taken there in
    let many = length_permutation _ _ (filter-permutation (λ (r : TimedRow). same_row key (group_key by r)) (row ∷ rest)
    taken same) in
    let some = ap (λ rows. length rows) (own_first by key row rest own) in
    absurd (omega (arith, ap (λ rows. length rows) none, many, some))

pub looked_first : (by : List ℕ) (with : List Aggregate) (key row : TimedRow) (rest : List TimedRow)
    (groups : List PartialGroup) → group_key by row ≡ key → AreGroupsOver by with (row ∷ rest) groups
    → lookup (same_row key) groups ≡ Some (parts_over with (row ∷ rows_in by key rest))
looked_first by with key row rest groups own are =
    ap (lookup (same_row key)) are.groups_are
    ∙ looked_by by with key row rest are.taken (has by key (group_keys by are.taken)) refl own are.rows_are

-- ---- a row in the place of another

module _ (columns : List Column) (by : List ℕ) (with : List Aggregate) (rest : List TimedRow)
    (groups : List PartialGroup) (key gone come : TimedRow)
    (can : CanTrade columns by with rest groups key gone come) where
  abbrev taken : List TimedRow
  taken = can.are.taken

  abbrev left : List TimedRow
  left = rows_in by key rest

  trade : PartsTrade with gone come left
  trade =
      let fit = λ (row : TimedRow). FitColumns columns row.cells in
      let before = all_in_group fit by key rest can.shaped.1.1 in
      parts_trade columns gone come left (can.shaped.0, before) can.shaped.1.0 with can.told can.taken can.sums

  -- what was found for the key stands for the rows of the group
  found : (kept : List AggregatePart) → Some kept ≡ lookup (same_row key) groups → kept ≡ parts_over with (gone ∷ left)
  found kept is =
      let same : Some kept ≡ Some (parts_over with (gone ∷ left)) =
      is ∙ looked_first by with key gone rest groups can.gone_key can.are in cc

  pub found_can : (kept : List AggregatePart) → Some kept ≡ lookup (same_row key) groups
      → CanTradeParts with gone come kept
  found_can kept is = subst (CanTradeParts with gone come) (sym (found kept is)) trade.can

  found_new : (kept w : List AggregatePart) → Some kept ≡ lookup (same_row key) groups
      → w ≡ traded_parts with gone come kept → w ≡ parts_over with (come ∷ left)
  found_new kept w is made = made ∙ ap (traded_parts with gone come) (found kept is) ∙ trade.are

  pub traded : (kept w : List AggregatePart) → Some kept ≡ lookup (same_row key) groups
      → w ≡ traded_parts with gone come kept
      → AreGroupsOver by with (come ∷ rest) (set_value (same_row key) groups w)
  traded kept w is made =
      let at = placed gone come rest taken can.are.rows_are in
      let all = at.front ++ come ∷ at.back in
      let keys : group_keys by taken ≡ group_keys by all =
      ap (group_keys by) at.stands
      ∙ keys_replaced same_row same_row-Decides (group_key by) at.front at.back gone come
      (can.gone_key ∙ sym can.come_key) in
      let others : (k : TimedRow) → same_row key k ≡ false
      → parts_over with (rows_in by k taken) ≡ parts_over with (rows_in by k all) = λ k differ.
      let back = keyed.same_back same_row same_row-Decides (group_key by) key k differ in
      ap (λ rows. parts_over with (rows_in by k rows)) at.stands
      ∙ ap (parts_over with) (others_same same_row same_row-Decides (group_key by) at.front at.back gone come k
      (subst (λ (x : TimedRow). same_row k x ≡ false) (sym can.gone_key) back)
      (subst (λ (x : TimedRow). same_row k x ≡ false) (sym can.come_key) back)) in
      let own : w ≡ parts_over with (rows_in by key all) =
      found_new kept w is made
      ∙ sym (ap (parts_over with) (own_first by key come rest can.come_key))
      ∙ parts_of_group by with key (come ∷ rest) all at.same in
      let distinct = keyed.keys_distinct same_row same_row-Decides (group_key by) taken in record {
        taken = all;
        rows_are = at.same;
        groups_are =
            ap (λ gs. set_value (same_row key) gs w) (can.are.groups_are ∙ groups_are by with taken (group_keys by taken))
            ∙ written by key (λ k. parts_over with (rows_in by k taken)) (λ k. parts_over with (rows_in by k all)) others
            (group_keys by taken) w distinct own
            ∙ ap (map (parts_at by with all)) keys
            ∙ sym (groups_are by with all (group_keys by all));
      }

  -- the group is there
  pub there : lookup (same_row key) groups ≡ None → ⊥
  there absent =
      let both : None ≡ Some (parts_over with (gone ∷ left)) =
      sym absent ∙ looked_first by with key gone rest groups can.gone_key can.are in
      absurd cc

-- ---- a row more

module _ (by : List ℕ) (with : List Aggregate) (rows : List TimedRow) (row : TimedRow) (groups : List PartialGroup)
    (are : AreGroupsOver by with rows groups) where
  pub with_row : AreGroupsOver by with (row ∷ rows) (with_group groups (group_key by row, parts_over with (row ∷ [])))
  with_row = record {
    taken = are.taken ++ row ∷ [];
    rows_are =
        IsPermutation-trans _ _ _ (IsPermutation-sym _ _ (IsPermutation-to_front rows row))
        (IsPermutation-append_left (row ∷ []) rows are.taken are.rows_are);
    groups_are =
        ap (λ gs. with_group gs (group_key by row, parts_over with (row ∷ []))) are.groups_are
        ∙ partial_groups-push with by are.taken row;
  }

  pub can_take : (columns : List Column) → let key = group_key by row in let some = rows_in by key rows in
      AllByRecursion (λ (r : TimedRow). FitColumns columns r.cells) (some ++ row ∷ [])
      → length (some ++ row ∷ []) ≤ greatest_sum
      → AllByRecursion (λ (aggregate : Aggregate). TakesColumn aggregate.what (slice_get columns aggregate.column)) with
      → AllByRecursion (λ (aggregate : Aggregate). UnlessCount aggregate.what (Fits (some ++ row ∷ []) aggregate.column))
      with
      → CanTakeGroup groups (key, parts_over with (row ∷ []))
  can_take columns shaped few taken fits =
      let key = group_key by row in
      let more = parts_over with (row ∷ []) in
      let some = rows_in by key rows in
      let c = has by key (group_keys by are.taken) in
      let parts = parts_over with (rows_in by key are.taken) in
      let found : lookup (same_row key) groups ≡ cond c (Some parts) None =
      ap (lookup (same_row key)) are.groups_are ∙ looked_up by with key are.taken c refl in
      let many = length_permutation _ _ (filter-permutation (λ (r : TimedRow). same_row key (group_key by r)) rows
      are.taken are.rows_are) in
      let can : c ≡ true → CanMergeParts parts more = λ there.
      let some_taken = rows_some by key are.taken there in
      subst (λ kept. CanMergeParts kept more) (parts_of_group by with key rows are.taken are.rows_are)
      (parts_can columns some (row ∷ []) shaped (omega (arith, some_taken, many)) few with taken fits) in
      subst (λ (r : Option (List AggregatePart)). IfSome r (λ kept. CanMergeParts kept more)) (sym found)
      (if_there c parts (λ kept. CanMergeParts kept more) can)
