-- The rows that come first at each time, of those of several sides: the first rows of each side are enough.
use Rattle.std.proofs.Common.{◌≡◌, ◌∙◌, ◌<◌, ℕ, zero, suc, Bool, true, false, cond, List, [], ◌∷◌, ◌++◌, length, take}
use Rattle.std.proofs.Common.{refl, sym, ap, subst, arith}
use Rattle.std.specs.Prelude.{IsPermutation}
use Rattle.std.specs.List.{AllByRecursion, filter, flat_map}
use Rattle.std.proofs.lemmas.List.Elements.{filter-append}
use Rattle.std.proofs.lemmas.List.Folds.{flat_map-map}
use Rattle.std.proofs.lemmas.List.Sorted.{IsPermutation-append_comm, IsPermutation-trans, length_permutation}
use Rattle.mon_value.specs.Groups.{group_key, group_keys, rows_in, rank_cmp, top_rows}
use Rattle.mon_value.specs.Same.{same_row}
use Rattle.mon_value.specs.Order.{sorted_list}
use Rattle.mon_value.specs.declared.tables.TimedRow.{TimedRow}
use Rattle.mon_value.proofs.KeyedLemmas as keyed
use Rattle.mon_value.proofs.SameLemmas.{same_row-Decides}
use Rattle.mon_value.proofs.SortingLemmas.{sorted_list-permutation}
use Rattle.typed_rows.proofs.JoinedRows.{all-map}
use Rattle.typed_rows.proofs.KeptRows.{all-sorted, all-take}
use Rattle.mon_meaning.proofs.FilterLemmas.{flat_map-agree}
use Rattle.mon_meaning.proofs.KeyOrders as orders
use Rattle.mon_meaning.proofs.OperationOrders.{rank_exact, rank_total, top_rows-permutation}
use Rattle.mon_meaning.proofs.ApartKeys.{all_keys}
use Rattle.mixer.proofs.TopParts.{block_keys, firsts_append, no_block, one_block}
use Rattle.typed_rows.proofs.GroupedRows.{each_has_rows}
use Rattle.mon_value.proofs.PlainLemmas.{take_nothing}
use Rattle.mixer.proofs.MixedTrees.{take_none}

passed_by : {A : Type 0} (p : A → Bool) (b : Bool) (x : A) (xs : List A) → p x ≡ b
    → AllByRecursion (λ y. p y ≡ true) xs → AllByRecursion (λ y. p y ≡ true) (cond b (x ∷ xs) xs)
passed_by p true x xs e all = (e, all)
passed_by p false x xs e all = all

-- what is kept passes
all_pass : {A : Type 0} (p : A → Bool) (xs : List A) → AllByRecursion (λ x. p x ≡ true) (filter p xs)
all_pass p [] = tt
all_pass p (x ∷ xs) = passed_by p (p x) x (filter p xs) refl (all_pass p xs)

some_taken : {A : Type 0} (m : ℕ) (xs : List A) → 0 < length xs → take (suc m) xs ≡ [] → ⊥
some_taken m [] some e = absurd (omega (arith, some))
some_taken m (x ∷ xs) some e = cc

module _ (column : ℕ) where
  abbrev first_of : ℕ → List TimedRow → TimedRow → List TimedRow
  first_of n rows key = take n (sorted_list (rank_cmp column) (rows_in [] key rows))

  top_is : (n : ℕ) (rows : List TimedRow) → top_rows n column rows ≡ flat_map (first_of n rows) (group_keys [] rows)
  top_is n rows =
      flat_map-map (λ (group : TimedRow × List TimedRow). take n (sorted_list (rank_cmp column) group.1))
      (λ key. (key, rows_in [] key rows)) (group_keys [] rows)

  -- ---- none at all

  none_taken : (rows : List TimedRow) (keys : List TimedRow) → flat_map (first_of 0 rows) keys ≡ []
  none_taken rows [] = refl
  none_taken rows (key ∷ keys) =
      ap (λ first. first ++ flat_map (first_of 0 rows) keys)
      (take_none (sorted_list (rank_cmp column) (rows_in [] key rows)))
      ∙ none_taken rows keys

  no_top : (rows : List TimedRow) → top_rows 0 column rows ≡ []
  no_top rows = top_is 0 rows ∙ none_taken rows (group_keys [] rows)

  -- ---- the first rows of one side

  own_rows : (n : ℕ) (rows : List TimedRow) (key : TimedRow)
      → AllByRecursion (λ row. same_row key (group_key [] row) ≡ true) (first_of n rows key)
  own_rows n rows key =
      all-take (λ row. same_row key (group_key [] row) ≡ true) n (sorted_list (rank_cmp column) (rows_in [] key rows))
      (all-sorted (λ row. same_row key (group_key [] row) ≡ true) (rank_cmp column) (rows_in [] key rows)
      (all_pass (λ row. same_row key (group_key [] row)) rows))

  in_top_by : (n : ℕ) (rows : List TimedRow) (key : TimedRow) (b : Bool)
      → keyed.has same_row same_row-Decides (group_key []) key (group_keys [] rows) ≡ b
      → rows_in [] key (flat_map (first_of n rows) (group_keys [] rows)) ≡ first_of n rows key
  in_top_by n rows key true there =
      one_block same_row same_row-Decides (group_key []) (first_of n rows) (own_rows n rows) key (group_keys [] rows)
      (keyed.keys_distinct same_row same_row-Decides (group_key []) rows) there
  in_top_by n rows key false lacks =
      no_block same_row same_row-Decides (group_key []) (first_of n rows) (own_rows n rows) key (group_keys [] rows)
      lacks
      ∙ sym (ap (λ some. take n (sorted_list (rank_cmp column) some))
      (keyed.items_none same_row same_row-Decides (group_key []) key rows lacks) ∙ take_nothing n [] refl)

  -- the rows of a time among the first rows
  in_top : (n : ℕ) (rows : List TimedRow) (key : TimedRow)
      → rows_in [] key (top_rows n column rows) ≡ first_of n rows key
  in_top n rows key =
      ap (rows_in [] key) (top_is n rows)
      ∙ in_top_by n rows key (keyed.has same_row same_row-Decides (group_key []) key (group_keys [] rows)) refl

  some_first : (m : ℕ) (rows : List TimedRow) (key : TimedRow) → 0 < length (rows_in [] key rows)
      → first_of (suc m) rows key ≡ [] → ⊥
  some_first m rows key some =
      some_taken m (sorted_list (rank_cmp column) (rows_in [] key rows))
      (omega (
        arith,
        some,
        length_permutation (rows_in [] key rows) (sorted_list (rank_cmp column) (rows_in [] key rows))
            (sorted_list-permutation (rank_cmp column) (rows_in [] key rows)),
      ))

  -- the first rows have the times that there are
  top_times : (m : ℕ) (rows : List TimedRow) → group_keys [] (top_rows (suc m) column rows) ≡ group_keys [] rows
  top_times m rows =
      ap (group_keys []) (top_is (suc m) rows)
      ∙ block_keys same_row same_row-Decides (group_key []) (first_of (suc m) rows) (own_rows (suc m) rows)
      (group_keys [] rows) (keyed.keys_distinct same_row same_row-Decides (group_key []) rows)
      (all-map (λ key. 0 < length (rows_in [] key rows)) (λ key. first_of (suc m) rows key ≡ [] → ⊥)
      (group_keys [] rows)
      (λ key some. some_first m rows key some)
      (all_keys same_row same_row-Decides (group_key []) (λ key. 0 < length (rows_in [] key rows)) rows
      (each_has_rows [] rows)))

  -- ---- and all rows of another

  first_both : (n : ℕ) (rows others : List TimedRow) (key : TimedRow)
      → first_of n (top_rows n column rows ++ others) key ≡ first_of n (rows ++ others) key
  first_both n rows others key =
      let more = rows_in [] key others in
      let test : TimedRow → Bool = λ row. same_row key (group_key [] row) in
      ap (λ some. take n (sorted_list (rank_cmp column) some))
      (filter-append test (top_rows n column rows) others ∙ ap (λ front. front ++ more) (in_top n rows key))
      ∙ firsts_append (rank_cmp column) (rank_total column) (rank_exact column) n (rows_in [] key rows) more
      ∙ ap (λ some. take n (sorted_list (rank_cmp column) some)) (sym (filter-append test rows others))

  times_both : (m : ℕ) (rows others : List TimedRow)
      → group_keys [] (top_rows (suc m) column rows ++ others) ≡ group_keys [] (rows ++ others)
  times_both m rows others =
      let new : List TimedRow → List TimedRow = λ keys.
      keys ++ orders.new_keys same_row same_row-Decides (group_key []) keys (group_keys [] others) in
      orders.keys_of-append same_row same_row-Decides (group_key []) (top_rows (suc m) column rows) others
      ∙ ap new (top_times m rows)
      ∙ sym (orders.keys_of-append same_row same_row-Decides (group_key []) rows others)

  -- the first rows of one side, and all rows of the other, have the first rows of both
  pub top_of_top : (n : ℕ) (rows others : List TimedRow)
      → top_rows n column (top_rows n column rows ++ others) ≡ top_rows n column (rows ++ others)
  top_of_top zero rows others = no_top (top_rows 0 column rows ++ others) ∙ sym (no_top (rows ++ others))
  top_of_top (suc m) rows others =
      let n = suc m in
      let whole = rows ++ others in
      let sent = top_rows n column rows ++ others in
      top_is n sent
      ∙ ap (flat_map (first_of n sent)) (times_both m rows others)
      ∙ flat_map-agree (first_of n sent) (first_of n whole) (λ key. first_both n rows others key) (group_keys [] whole)
      ∙ sym (top_is n whole)

  -- so the first rows of each side are enough
  pub top_of_tops : (n : ℕ) (rows others : List TimedRow)
      → IsPermutation (top_rows n column (top_rows n column rows ++ top_rows n column others))
      (top_rows n column (rows ++ others))
  top_of_tops n rows others =
      let some = top_rows n column others in
      let one : top_rows n column (top_rows n column rows ++ some) ≡ top_rows n column (rows ++ some) =
      top_of_top n rows some in
      let turned : IsPermutation (top_rows n column (rows ++ some)) (top_rows n column (some ++ rows)) =
      top_rows-permutation n column (rows ++ some) (some ++ rows) (IsPermutation-append_comm rows some) in
      let back : IsPermutation (top_rows n column (others ++ rows)) (top_rows n column (rows ++ others)) =
      top_rows-permutation n column (others ++ rows) (rows ++ others) (IsPermutation-append_comm others rows) in
      subst (λ front. IsPermutation front (top_rows n column (rows ++ others))) (sym one)
      (IsPermutation-trans _ (top_rows n column (some ++ rows)) _ turned
      (subst (λ middle. IsPermutation middle (top_rows n column (rows ++ others))) (sym (top_of_top n others rows))
      back))
