-- Groups that are kept by borrowed keys.
use Rattle.std.proofs.Common.{◌≡◌, ◌&&◌, Bool, true, false, cond, Option, Some, None, List, [], ◌∷◌, ◌++◌, IfSome, Bor}
use Rattle.std.proofs.Common.{refl, sym, ap, subst, ◌∙◌}
use Rattle.std.specs.Cmp.Lexicographic.{pointwise}
use Rattle.std.specs.List.{AllByRecursion, IsDistinct}
use Rattle.std.specs.Map.{keys_of, lookup, set_value}
use Rattle.std.specs.Ordering.{int_eq}
use Rattle.std.proofs.lemmas.List.{map-append}
use Rattle.mon_value.proofs.SameLemmas.{eq-same_value}
use Rattle.mon_value.specs.Same.{same_row, same_value}
use Rattle.mon_value.specs.declared.tables.TimedRow.{TimedRow}
use Rattle.mon_value.specs.declared.values.Value.{Value}
use Rattle.mon_fold.proofs.KeptGroups.{new_same, put_same}
use Rattle.mon_fold.specs.GroupKeys.{cells_seen, key_row, owned_groups}
use Rattle.mon_fold.specs.PartialGroups.{CanMergeParts, CanTakeGroup, merged_parts, PartialGroup, with_group}
use Rattle.mon_fold.specs.contracts.grouping.GroupKeyPartialEq.TheImpl as derived
use Rattle.mon_fold.specs.declared.aggregate_parts.AggregatePart.{AggregatePart}
use Rattle.mon_fold.specs.declared.grouping.GroupKey.{GroupKey}

abbrev pub KeyedGroup : Type 0
KeyedGroup = GroupKey × List AggregatePart

-- ---- keys

pointwise-seen : (xs ys : List (Bor Value)) → pointwise (λ (x y : Bor Value). same_value x.now y.now) xs ys
    ≡ pointwise same_value (cells_seen xs) (cells_seen ys)
pointwise-seen [] [] = refl
pointwise-seen [] (y ∷ ys) = refl
pointwise-seen (x ∷ xs) [] = refl
pointwise-seen (x ∷ xs) (y ∷ ys) = ap (λ rest. same_value x.now y.now && rest) (pointwise-seen xs ys)

abbrev pub same_key : GroupKey → GroupKey → Bool
same_key a b = same_row (key_row a) (key_row b)

-- the derived comparison of keys is that of the rows that they stand for
pub derived_eq : derived.eq-value.it ≡ same_key
derived_eq = λ i a b. both a b i
  where
    both : (a b : GroupKey) → derived.eq-value.it a b ≡ same_key a b
    both a b =
        ap (λ (same : Value → Value → Bool). int_eq a.time b.time && pointwise (λ (x y : Bor Value). same x.now y.now)
        a.cells.items b.cells.items) (λ i x y. eq-same_value x y i)
        ∙ ap (λ rest. int_eq a.time b.time && rest) (pointwise-seen a.cells.items b.cells.items)

-- ---- look-ups

module _ (key : GroupKey) where
  lookup-owned : (groups : List KeyedGroup) → lookup (same_key key) groups ≡ lookup (same_row (key_row key))
      (owned_groups groups)
  lookup-owned [] = refl
  lookup-owned (group ∷ groups) = ap (λ rest. cond (same_key key group.0) (Some group.1) rest) (lookup-owned groups)

  set-owned_at : (group : KeyedGroup) (groups : List KeyedGroup) (w : List AggregatePart) (rest : List KeyedGroup)
      (more : List PartialGroup) (b : Bool) → owned_groups rest ≡ more
      → owned_groups (cond b ((group.0, w) ∷ groups) (group ∷ rest)) ≡ cond b ((key_row group.0, w) ∷ owned_groups
      groups) ((key_row group.0, group.1) ∷ more)
  set-owned_at group groups w rest more true e = refl
  set-owned_at group groups w rest more false e = ap (λ others. (key_row group.0, group.1) ∷ others) e

  set-owned : (groups : List KeyedGroup) (w : List AggregatePart) → owned_groups (set_value (same_key key) groups w)
      ≡ set_value (same_row (key_row key)) (owned_groups groups) w
  set-owned [] w = refl
  set-owned (group ∷ groups) w = set-owned_at group groups w (set_value (same_key key) groups w)
      (set_value (same_row (key_row key)) (owned_groups groups) w) (same_key key group.0) (set-owned groups w)

  found : (groups : List KeyedGroup) (r : Option (List AggregatePart)) → r ≡ lookup (derived.eq-value.it key) groups
      → lookup (same_row (key_row key)) (owned_groups groups) ≡ r
  found groups r is = sym (lookup-owned groups) ∙ ap (λ (eq : GroupKey → GroupKey → Bool). lookup (eq key) groups)
      (sym derived_eq) ∙ sym is

  pub can_add_found : (parts kept : List AggregatePart) (groups : List KeyedGroup) → Some kept
      ≡ lookup (derived.eq-value.it key) groups → CanTakeGroup (owned_groups groups) (key_row key, parts)
      → CanMergeParts kept parts
  can_add_found parts kept groups is can =
      subst (λ (r : Option (List AggregatePart)). IfSome r (λ held. CanMergeParts held parts))
      (found groups (Some kept) is) can

  -- a group that is there
  pub added_there : (parts old w : List AggregatePart) (groups new : List KeyedGroup) → Some old
      ≡ lookup (derived.eq-value.it key) groups → w ≡ merged_parts old parts
      → new ≡ set_value (derived.eq-value.it key) groups w → owned_groups new ≡ with_group (owned_groups groups)
      (key_row key, parts)
  added_there parts old w groups new is merged put =
      ap owned_groups (put ∙ ap (λ (eq : GroupKey → GroupKey → Bool). set_value (eq key) groups w) derived_eq)
      ∙ set-owned groups w
      ∙ put_same (key_row key) parts (owned_groups groups) old w (found groups (Some old) is) merged

  -- a group that isn't there, by another key of the same cells
  pub added_new : (other : GroupKey) (parts : List AggregatePart) (groups new : List KeyedGroup) → key_row other
      ≡ key_row key → None ≡ lookup (derived.eq-value.it key) groups
      → new ≡ groups ++ (other, parts) ∷ [] → owned_groups new ≡ with_group (owned_groups groups) (key_row key, parts)
  added_new other parts groups new same absent put =
      ap owned_groups put
      ∙ map-append (λ (group : KeyedGroup). (key_row group.0, group.1)) groups ((other, parts) ∷ [])
      ∙ ap (λ (row : TimedRow). owned_groups groups ++ (row, parts) ∷ []) same
      ∙ new_same (key_row key) parts (owned_groups groups) (found groups None absent)

-- no group by another key of the same cells either
pub absent_by_other : (key other : GroupKey) (groups : List KeyedGroup) → key_row other ≡ key_row key → None
    ≡ lookup (derived.eq-value.it key) groups → lookup (derived.eq-value.it other) groups ≡ None
absent_by_other key other groups same absent =
    ap (λ (eq : GroupKey → GroupKey → Bool). lookup (eq other) groups) derived_eq
    ∙ lookup-owned other groups
    ∙ ap (λ (row : TimedRow). lookup (same_row row) (owned_groups groups)) same
    ∙ found key groups None absent

-- ---- keys that differ

all_owned : (key : GroupKey) (groups : List KeyedGroup) → AllByRecursion (λ other. same_key key other ≡ false)
    (keys_of groups)
    → AllByRecursion (λ other. same_row (key_row key) other ≡ false) (keys_of (owned_groups groups))
all_owned key [] all = tt
all_owned key (group ∷ groups) all = (all.0, all_owned key groups all.1)

distinct-owned : (groups : List KeyedGroup) → IsDistinct same_key (keys_of groups) → IsDistinct same_row
    (keys_of (owned_groups groups))
unfolding IsDistinct
distinct-owned [] distinct = tt
distinct-owned (group ∷ groups) distinct = (all_owned group.0 groups distinct.0, distinct-owned groups distinct.1)

pub distinct_rows : (groups : List KeyedGroup) → IsDistinct derived.eq-value.it (keys_of groups) → IsDistinct same_row
    (keys_of (owned_groups groups))
distinct_rows groups distinct =
    distinct-owned groups (subst (λ (eq : GroupKey → GroupKey → Bool). IsDistinct eq (keys_of groups)) derived_eq
    distinct)
