-- Changes of groups that are made one after another.
use Rattle.std.proofs.Common.{◌≡◌, ◌∙◌, ◌+◌, ◌≤◌, ◌++◌, ℕ, Bool, true, false, cond, Option, Some, None, List, [], ◌∷◌, length}
use Rattle.std.proofs.Common.{IfSome, IsNone, IsTrue, sum_by, refl, sym, ap, subst, append_assoc, length-append, arith}
use Rattle.std.specs.List.{AllByRecursion, cons_option}
use Rattle.std.specs.List.Sorted.{IsPermutation}
use Rattle.std.proofs.lemmas.List.{map-append}
use Rattle.std.proofs.lemmas.List.Elements.{filter-append, filter_map-append}
use Rattle.std.proofs.lemmas.List.Sorted.{IsPermutation-sym, IsPermutation-trans}
use Rattle.std.proofs.lemmas.List.Sums.{sum_by-append}
use Rattle.std.specs.Map.{lookup}
use Rattle.mon_value.specs.Groups.{UnlessCount, column_of, group_key, rows_at, rows_in}
use Rattle.mon_value.specs.Same.{same_row}
use Rattle.mon_value.specs.Tables.{FitColumns}
use Rattle.mon_value.specs.Values.{greatest_sum, magnitude}
use Rattle.mon_value.specs.declared.aggregates.Aggregate.{Aggregate}
use Rattle.mon_value.specs.declared.columns.Column.{Column}
use Rattle.mon_value.specs.declared.tables.TimedRow.{TimedRow}
use Rattle.mon_value.proofs.KeyedLemmas as keyed
use Rattle.mon_value.proofs.PermutationLemmas.{front_exchanged}
use Rattle.mon_value.proofs.PlainLemmas.{all_append, all_back, all_front}
use Rattle.mon_value.proofs.SameLemmas.{eq-same_row, same_row-Decides}
use Rattle.mon_value.specs.contracts.tables.TimedRowPartialEq.TheImpl as derived
use Rattle.mon_fold.proofs.GroupBounds.{Fits, all_in_group, group_fewer, group_total, sums_at, total_in}
use Rattle.mon_fold.proofs.PartialGroupLemmas.{column_of-append}
use Rattle.mon_fold.specs.PartialGroups.{CanTakeGroup, PartialGroup, parts_over, with_group}
use Rattle.mon_fold.specs.declared.aggregate_parts.AggregatePart.{AggregatePart}
use Rattle.kept_groups.specs.declared.changes.Change.{Change}
use Rattle.kept_groups.specs.Changes.{AreApart, CanChange, IsChange, comes, gones}
use Rattle.kept_groups.specs.Trades.{AreGroupsOver, AreTold, CanTrade}
use Rattle.kept_groups.proofs.GroupLemmas.{can_take, looked_first, own_first, with_row}

is_none : (o : Option TimedRow) → IsNone o → o ≡ None
is_none None none = refl
is_none (Some row) none = absurd cc

pub if_gone : {P : TimedRow → Type 0} (o : Option TimedRow) → ((gone : TimedRow) → o ≡ Some gone → P gone) → IfSome o P
if_gone None each = tt
if_gone (Some gone) each = each gone refl

-- ---- changes of other groups

module _ (change : Change) (left : List Change) where
  apart_before : (done : List Change) → AreApart (done ++ change ∷ left)
      → AllByRecursion (λ (other : Change). same_row other.key change.key ≡ false) done
  apart_before [] apart = tt
  apart_before (first ∷ done) apart = (
    (all_back (λ (other : Change). same_row first.key other.key ≡ false) done (change ∷ left) apart.0).0,
    apart_before done apart.1,
  )

  apart_behind : (done : List Change) → AreApart (done ++ change ∷ left)
      → AllByRecursion (λ (other : Change). same_row change.key other.key ≡ false) left
  apart_behind [] apart = apart.0
  apart_behind (first ∷ done) apart = apart_behind done apart.1

module _ (by : List ℕ) (with : List Aggregate) (begun : List PartialGroup) (key : TimedRow) where
  none_come : (done : List Change) → AllByRecursion (IsChange by with begun) done
      → AllByRecursion (λ (other : Change). same_row other.key key ≡ false) done → rows_in by key (comes done) ≡ []
  none_come [] made apart = refl
  none_come (first ∷ done) made apart =
      let back = keyed.same_back same_row same_row-Decides (group_key by) first.key key apart.0 in
      let other : same_row key (group_key by first.come) ≡ false =
      subst (λ (k : TimedRow). same_row key k ≡ false) (sym made.0.come_key) back in
      ap (λ b. cond b (first.come ∷ rows_in by key (comes done)) (rows_in by key (comes done))) other
      ∙ none_come done made.1 apart.1

  none_goes_by : (change : Change) (o : Option TimedRow) (rows : List TimedRow) → same_row key change.key ≡ false
      → IfSome o (λ (gone : TimedRow). group_key by gone ≡ change.key)
      → rows_in by key (cons_option o rows) ≡ rows_in by key rows
  none_goes_by change None rows apart own = refl
  none_goes_by change (Some gone) rows apart own =
      let other : same_row key (group_key by gone) ≡ false =
      subst (λ (k : TimedRow). same_row key k ≡ false) (sym own) apart in
      ap (λ b. cond b (gone ∷ rows_in by key rows) (rows_in by key rows)) other

  own_by : (change : Change) (o : Option TimedRow) → o ≡ change.gone → IsChange by with begun change
      → IfSome o (λ (gone : TimedRow). group_key by gone ≡ change.key)
  own_by change None is made = tt
  own_by change (Some gone) is made =
      subst (λ (r : Option TimedRow). IfSome r (λ row. group_key by row ≡ change.key)) (sym is) made.gone_key

  none_goes : (left : List Change) → AllByRecursion (IsChange by with begun) left
      → AllByRecursion (λ (other : Change). same_row key other.key ≡ false) left → rows_in by key (gones left) ≡ []
  none_goes [] made apart = refl
  none_goes (first ∷ left) made apart =
      none_goes_by first first.gone (gones left) apart.0 (own_by first first.gone refl made.0)
      ∙ none_goes left made.1 apart.1

-- ---- one change

total-both : (place : ℕ) (xs ys : List TimedRow) → total_in place (xs ++ ys) ≡ total_in place xs + total_in place ys
total-both place xs ys =
    ap (sum_by magnitude) (column_of-append place xs ys) ∙ sum_by-append magnitude (column_of place xs) (column_of place ys)

in_order : {by : List ℕ} {with : List Aggregate} {groups : List PartialGroup} (xs ys : List TimedRow)
    → IsPermutation xs ys → AreGroupsOver by with ys groups → AreGroupsOver by with xs groups
in_order xs ys same are = record {
  taken = are.taken;
  rows_are = IsPermutation-trans _ _ _ same are.rows_are;
  groups_are = are.groups_are;
}

module _ (columns : List Column) (by : List ℕ) (with : List Aggregate) (rest : List TimedRow) (all : List Change)
    (begun : List PartialGroup) (can : CanChange columns by with rest all begun)
    (done : List Change) (change : Change) (left : List Change) (is : all ≡ done ++ change ∷ left) where
  abbrev key : TimedRow
  key = change.key

  abbrev others : List TimedRow
  others = comes done ++ (gones left ++ rest)

  abbrev kept : List TimedRow
  kept = rows_in by key rest

  abbrev fit : TimedRow → Type 0
  fit row = FitColumns columns row.cells

  made : AllByRecursion (IsChange by with begun) (done ++ change ∷ left)
  made = subst (AllByRecursion (IsChange by with begun)) is can.made

  turned : (some : List Change) → AllByRecursion (λ (other : Change). same_row other.key key ≡ false) some
      → AllByRecursion (λ (other : Change). same_row key other.key ≡ false) some
  turned [] apart = tt
  turned (first ∷ some) apart =
      (keyed.same_back same_row same_row-Decides (group_key by) first.key key apart.0, turned some apart.1)

  made_here : IsChange by with begun change
  made_here = (all_back (IsChange by with begun) done (change ∷ left) made).0

  rows_apart : rows_in by key others ≡ kept
  rows_apart =
      let own = λ (row : TimedRow). same_row key (group_key by row) in
      let apart = subst AreApart is can.apart in
      let before = none_come by with begun key done (all_front (IsChange by with begun) done (change ∷ left) made)
      (apart_before change left done apart) in
      let behind = none_goes by with begun key left (all_back (IsChange by with begun) done (change ∷ left) made).1
      (apart_behind change left done apart) in
      filter-append own (comes done) (gones left ++ rest)
      ∙ ap (λ rows. rows_in by key (comes done) ++ rows) (filter-append own (gones left) rest)
      ∙ (λ i. before i ++ (behind i ++ kept))

  -- the rows of the group once all are changed
  changed : comes all ++ rest ≡ comes done ++ (change.come ∷ (comes left ++ rest))
  changed =
      ap (λ changes. comes changes ++ rest) is
      ∙ ap (λ rows. rows ++ rest) (map-append (λ (one : Change). one.come) done (change ∷ left))
      ∙ append_assoc (comes done) (change.come ∷ comes left) rest

  in_group : rows_in by key (comes all ++ rest)
      ≡ rows_in by key (comes done) ++ (change.come ∷ (rows_in by key (comes left) ++ kept))
  in_group =
      let own = λ (row : TimedRow). same_row key (group_key by row) in
      ap (rows_in by key) changed
      ∙ filter-append own (comes done) (change.come ∷ (comes left ++ rest))
      ∙ ap (λ rows. rows_in by key (comes done) ++ rows)
      (own_first by key change.come (comes left ++ rest) made_here.come_key
      ∙ ap (λ rows. change.come ∷ rows) (filter-append own (comes left) rest))

  fewest : (place : ℕ) → total_in place (change.come ∷ kept) ≤ total_in place (rows_at key.time (comes all ++ rest))
  fewest place =
      let one : List TimedRow = change.come ∷ [] in
      let before = rows_in by key (comes done) in
      let behind = rows_in by key (comes left) in
      omega (
        arith,
        group_total by key place (comes all ++ rest),
        ap (total_in place) in_group,
        total-both place before (change.come ∷ (behind ++ kept)),
        total-both place one (behind ++ kept),
        total-both place behind kept,
        total-both place one kept,
      )

  few : length (kept ++ change.come ∷ []) ≤ greatest_sum
  few =
      let before = rows_in by key (comes done) in
      let behind = rows_in by key (comes left) in
      omega (
        arith,
        can.few,
        group_fewer by key (comes all ++ rest),
        ap (λ rows. length rows) in_group,
        length-append before (change.come ∷ (behind ++ kept)),
        length-append behind kept,
        length-append kept (change.come ∷ []),
      )

  after_all : AllByRecursion fit (comes done ++ (change.come ∷ (comes left ++ rest)))
  after_all = subst (AllByRecursion fit) changed can.after.shaped

  come_fits : fit change.come
  come_fits = (all_back fit (comes done) (change.come ∷ (comes left ++ rest)) after_all).0

  rest_fits : AllByRecursion fit rest
  rest_fits = all_back fit (comes left) rest (all_back fit (comes done) (change.come ∷ (comes left ++ rest)) after_all).1

  gone_all : AllByRecursion fit (gones all)
  gone_all = all_front fit (gones all) rest can.before.shaped

  gone_split : AllByRecursion fit (gones done ++ gones (change ∷ left))
  gone_split =
      subst (AllByRecursion fit)
      (ap gones is ∙ filter_map-append (λ (one : Change). one.gone) done (change ∷ left)) gone_all

  gone_here : AllByRecursion fit (cons_option change.gone (gones left))
  gone_here = all_back fit (gones done) (gones (change ∷ left)) gone_split

  others_fit : AllByRecursion fit (gones left) → AllByRecursion fit others
  others_fit gone =
      all_append fit (comes done) (gones left ++ rest) (all_front fit (comes done) _ after_all)
      (all_append fit (gones left) rest gone rest_fits)

  fits : (more : List TimedRow) → ((place : ℕ) → total_in place more ≡ total_in place (change.come ∷ kept))
      → AllByRecursion (λ (aggregate : Aggregate). UnlessCount aggregate.what (Fits more aggregate.column)) with
  fits more same =
      sums_at with (comes all ++ rest) more key.time (λ place. omega (arith, fewest place, same place)) can.after.sums

  -- the parts of the group at the beginning
  begun_at : (gone : TimedRow) → change.gone ≡ Some gone → group_key by gone ≡ key
      → lookup (same_row key) begun ≡ Some (parts_over with (gone ∷ kept))
  begun_at gone goes own =
      let same = λ (row : TimedRow). same_row key (group_key by row) in
      let behind = gones left ++ rest in
      let rows : gones all ++ rest ≡ gones done ++ (gone ∷ behind) =
      ap (λ changes. gones changes ++ rest) is
      ∙ ap (λ rs. rs ++ rest) (filter_map-append (λ (one : Change). one.gone) done (change ∷ left))
      ∙ append_assoc (gones done) (gones (change ∷ left)) rest
      ∙ ap (λ r. gones done ++ (cons_option r (gones left) ++ rest)) goes in
      let moved = front_exchanged (gone ∷ []) (gones done) behind in
      let are = in_order _ _ moved (subst (λ rs. AreGroupsOver by with rs begun) rows can.are) in
      let apart = subst AreApart is can.apart in
      let before = none_goes by with begun key done (all_front (IsChange by with begun) done (change ∷ left) made)
      (turned done (apart_before change left done apart)) in
      let after = none_goes by with begun key left (all_back (IsChange by with begun) done (change ∷ left) made).1
      (apart_behind change left done apart) in
      let none : rows_in by key (gones done ++ behind) ≡ kept =
      filter-append same (gones done) behind
      ∙ ap (λ rs. rows_in by key (gones done) ++ rs) (filter-append same (gones left) rest)
      ∙ (λ i. before i ++ (after i ++ kept)) in
      looked_first by with key gone (gones done ++ behind) begun own are
      ∙ ap (λ rs. Some (parts_over with (gone ∷ rs))) none

  module _ (groups : List PartialGroup) (are : AreGroupsOver by with (comes done ++ (gones (change ∷ left) ++ rest)) groups) where
    pub can_trade : (gone : TimedRow) → change.gone ≡ Some gone
        → CanTrade columns by with others groups key gone change.come
    can_trade gone goes =
        let own = subst (λ (r : Option TimedRow). IfSome r (λ row. group_key by row ≡ key)) goes made_here.gone_key in
        let told = subst (λ (r : Option TimedRow). IfSome r (λ row. IfSome (lookup (same_row key) begun)
        (AreTold with row change.come))) goes made_here.told in
        let here = subst (λ (r : Option TimedRow). AllByRecursion fit (cons_option r (gones left))) goes gone_here in
        let rows = ap (λ r. comes done ++ (cons_option r (gones left) ++ rest)) goes in
        let moved = front_exchanged (gone ∷ []) (comes done) (gones left ++ rest) in record {
          told =
              subst (λ rs. AreTold with gone change.come (parts_over with (gone ∷ rs))) (sym rows_apart)
              (subst (λ (r : Option (List AggregatePart)). IfSome r (AreTold with gone change.come)) (begun_at gone goes own)
              told);
          gone_key = own;
          come_key = made_here.come_key;
          are = in_order _ _ moved (subst (λ rs. AreGroupsOver by with rs groups) rows are);
          shaped = (here.0, (come_fits, others_fit here.1));
          taken = can.after.taken;
          sums = fits (change.come ∷ rows_in by key others)
              (λ place. ap (λ rs. total_in place (change.come ∷ rs)) rows_apart);
        }

    pub can_put : IsNone change.gone → CanTakeGroup groups (key, change.parts)
    can_put none =
        let goes = is_none change.gone none in
        let rows = ap (λ r. comes done ++ (cons_option r (gones left) ++ rest)) goes in
        let over = subst (λ rs. AreGroupsOver by with rs groups) rows are in
        let one : List TimedRow = change.come ∷ [] in
        let own = group_key by change.come in
        let some : rows_in by own others ≡ kept = ap (λ k. rows_in by k others) made_here.come_key ∙ rows_apart in
        let here = subst (λ (r : Option TimedRow). AllByRecursion fit (cons_option r (gones left))) goes gone_here in
        let shaped = all_append fit (rows_in by own others) one (all_in_group fit by own others (others_fit here))
        (come_fits, tt) in
        let fewer = subst (λ (rs : List TimedRow). length (rs ++ one) ≤ greatest_sum) (sym some) few in
        let taken = can_take by with others change.come groups over columns shaped fewer can.after.taken
        (fits (rows_in by own others ++ one) (λ place. omega (
          arith,
          ap (λ rs. total_in place (rs ++ one)) some,
          total-both place kept one,
          total-both place one kept,
        ))) in
        subst (λ (k : TimedRow). CanTakeGroup groups (k, change.parts)) made_here.come_key
        (subst (λ (ps : List AggregatePart). CanTakeGroup groups (own, ps)) (sym (made_here.parts_are none)) taken)

    pub put_is : IsNone change.gone → (new : List PartialGroup) → new ≡ with_group groups (key, change.parts)
        → AreGroupsOver by with (change.come ∷ others) new
    put_is none new put =
        let goes = is_none change.gone none in
        let rows = ap (λ r. comes done ++ (cons_option r (gones left) ++ rest)) goes in
        let over = subst (λ rs. AreGroupsOver by with rs groups) rows are in
        let group : PartialGroup = (group_key by change.come, parts_over with (change.come ∷ [])) in
        let same : (key, change.parts) ≡ group = λ i. (sym made_here.come_key i, made_here.parts_are none i) in
        subst (λ gs. AreGroupsOver by with (change.come ∷ others) gs) (sym (put ∙ ap (with_group groups) same))
        (with_row by with others change.come groups over)

    made_by : (new : List PartialGroup) (o : Option TimedRow) → change.gone ≡ o
        → IfSome o (λ gone. (columns : List Column) (by : List ℕ) (rest : List TimedRow)
        → CanTrade columns by with rest groups key gone change.come → AreGroupsOver by with (change.come ∷ rest) new)
        → (IsNone o → new ≡ with_group groups (key, change.parts)) → AreGroupsOver by with (change.come ∷ others) new
    made_by new None goes trade put = put_is (subst (λ (r : Option TimedRow). IsNone r) (sym goes) refl) new (put refl)
    made_by new (Some gone) goes trade put = trade columns by others (can_trade gone goes)

    -- the row that came is one of those that have come
    pub step : (new : List PartialGroup)
        → IfSome change.gone (λ gone. (columns : List Column) (by : List ℕ) (rest : List TimedRow)
        → CanTrade columns by with rest groups key gone change.come → AreGroupsOver by with (change.come ∷ rest) new)
        → (IsNone change.gone → new ≡ with_group groups (key, change.parts))
        → AreGroupsOver by with (comes (done ++ change ∷ []) ++ (gones left ++ rest)) new
    step new trade put =
        let behind = gones left ++ rest in
        let rows : comes (done ++ change ∷ []) ++ behind ≡ comes done ++ (change.come ∷ behind) =
        ap (λ rs. rs ++ behind) (map-append (λ (one : Change). one.come) done (change ∷ []))
        ∙ append_assoc (comes done) (change.come ∷ []) behind in
        subst (λ rs. AreGroupsOver by with rs new) (sym rows)
        (in_order _ _ (IsPermutation-sym _ _ (front_exchanged (change.come ∷ []) (comes done) behind))
        (made_by new change.gone refl trade put))

-- ---- a change as it is made

pub row_is : (a b : TimedRow) (test : Bool) → test ≡ derived.eq-value.it a b → IsTrue test → a ≡ b
row_is a b true made holds = (same_row-Decides a b).0 (sym (eq-same_row a b) ∙ sym made)
row_is a b false made holds = absurd cc

own_of : (P Q : TimedRow → Type 0) (o : Option TimedRow) → IfSome o (λ row. P row × Q row) → IfSome o P
own_of P Q None both = tt
own_of P Q (Some row) both = both.0

told_of : (P Q : TimedRow → Type 0) (o : Option TimedRow) → IfSome o (λ row. P row × Q row) → IfSome o Q
told_of P Q None both = tt
told_of P Q (Some row) both = both.1

pub change_is : (by : List ℕ) (with : List Aggregate) (groups : List PartialGroup) (key come : TimedRow)
    (parts : List AggregatePart) (gone : Option TimedRow) → key ≡ group_key by come → parts ≡ parts_over with (come ∷ [])
    → IfSome gone (λ row. (group_key by row ≡ key) × IfSome (lookup (same_row key) groups) (AreTold with row come))
    → IsChange by with groups (record { key = key; gone = gone; come = come; parts = parts })
change_is by with groups own come parts old own_is parts_are both = record {
  come_key = sym own_is;
  gone_key = own_of _ _ old both;
  told = told_of _ _ old both;
  parts_are = λ none. parts_are;
}
