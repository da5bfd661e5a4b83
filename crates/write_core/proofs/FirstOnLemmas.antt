-- The first replica that serves on a leaf, and what becomes of its retirement.
use Rattle.std.proofs.lemmas.Option.{same_Some}
use Rattle.std.proofs.Common.{◌≡◌, ◌∙◌, ℕ, ◌<◌, ◌≤◌, nat_lt, zero, suc, Bool, true, false, cond, ◌||◌, Option}
use Rattle.std.proofs.Common.{Some, None, List, [], ◌∷◌, length, refl, sym, ap, subst, arith}
use Rattle.std.specs.Prelude.{Contains, filter, slice_get}
use Rattle.std.specs.List.{list_any}
use Rattle.std.proofs.lemmas.Bool.Decides.{nat_tests}
use Rattle.mon_topo.specs.RangeHistories.{is_on, serving}
use Rattle.mon_value.specs.declared.histories.RangeEntry.{RangeEntry}
use Rattle.mon_value.specs.declared.positions.Leaf.{Leaf}
use Rattle.mon_value.specs.declared.positions.SlotLeaf.{SlotLeaf}
use Rattle.write_core.specs.Events.{IsToldOfRetirement}
use Rattle.write_core.specs.Retirements.{retired_by, retirement_of}
use Rattle.write_core.specs.declared.retirements.Retirement.TheVariants as told

-- one that serves, and is on the leaf
pub record IsFirstOn (leaf : Leaf) (replicas : List SlotLeaf) (replica : SlotLeaf) : Type 0 where
  pub there : Contains replicas replica
  pub on : is_on leaf replica ≡ true

pub first_on : (leaf : Leaf) (replicas : List SlotLeaf) (replica : SlotLeaf)
    → slice_get (filter (is_on leaf) replicas) 0 ≡ Some replica → IsFirstOn leaf replicas replica
first_on leaf [] replica e = absurd cc
first_on leaf (one ∷ replicas) replica e = by (λ k. first_on leaf replicas replica k) (is_on leaf one) refl e
  where
    behind : IsFirstOn leaf replicas replica → IsFirstOn leaf (one ∷ replicas) replica
    behind h = record {
      there = (suc h.there.0, (let l : h.there.0 < length replicas = h.there.1 in omega arith), h.there.2);
      on = h.on;
    }

    by : (slice_get (filter (is_on leaf) replicas) 0 ≡ Some replica → IsFirstOn leaf replicas replica) → (b : Bool)
        → is_on leaf one ≡ b
        → slice_get (cond b (one ∷ filter (is_on leaf) replicas) (filter (is_on leaf) replicas)) 0 ≡ Some replica
        → IsFirstOn leaf (one ∷ replicas) replica
    by rest true is e =
        let same : one ≡ replica = same_Some one replica e in
        record {
          there = (zero, omega arith, same);
          on = ap (λ (x : SlotLeaf). is_on leaf x) (sym same) ∙ is;
        }
    by rest false is e = behind (rest e)

pub none_on : (leaf : Leaf) (replicas : List SlotLeaf) → slice_get (filter (is_on leaf) replicas) 0 ≡ None
    → list_any (is_on leaf) replicas ≡ false
none_on leaf [] e = refl
none_on leaf (one ∷ replicas) e = by (λ k. none_on leaf replicas k) (is_on leaf one) refl e
  where
    by : (slice_get (filter (is_on leaf) replicas) 0 ≡ None → list_any (is_on leaf) replicas ≡ false) → (b : Bool)
        → is_on leaf one ≡ b
        → slice_get (cond b (one ∷ filter (is_on leaf) replicas) (filter (is_on leaf) replicas)) 0 ≡ None
        → (is_on leaf one || list_any (is_on leaf) replicas) ≡ false
    by rest true is e = absurd cc
    by rest false is e = ap (λ (b : Bool). b || list_any (is_on leaf) replicas) is ∙ rest e

on_leaf : (leaf : Leaf) (replica : SlotLeaf) → is_on leaf replica ≡ true → replica.leaf.0 ≡ leaf.0
on_leaf leaf replica is = grind (arith, nat_tests)

abbrev leaf_of : ℕ → Leaf
leaf_of n = record { 0 = n }

pub placed_on : (leaf : Leaf) (replicas : List SlotLeaf) (replica : SlotLeaf) → IsFirstOn leaf replicas replica
    → Contains replicas (record { slot = replica.slot; leaf = leaf })
placed_on leaf replicas replica h =
    let same : replica.leaf ≡ leaf = ap leaf_of (on_leaf leaf replica h.on) in
    subst (λ (l : Leaf). Contains replicas (record { slot = replica.slot; leaf = l })) same h.there

-- ---- its retirement

-- where at most one serves, it is the only one
alone : (replicas : List SlotLeaf) (replica : SlotLeaf) → Contains replicas replica → length replicas ≤ 1
    → replicas ≡ replica ∷ []
alone [] replica there few = absurd (omega (arith, there.1))
alone (one ∷ []) replica (zero, l, e) few = ap (λ (x : SlotLeaf). x ∷ []) e
alone (one ∷ []) replica (suc k, l, e) few = absurd (omega (arith, l))
alone (one ∷ other ∷ replicas) replica there few = absurd (omega (arith, few))

-- what becomes of a retirement is what whoever retires may be told
pub told_of_retirement : (history : List RangeEntry) (leaf : Leaf)
    → IsToldOfRetirement history leaf (retirement_of history leaf)
told_of_retirement history leaf = by (slice_get (filter (is_on leaf) (serving history)) 0) refl
  where
    serves : (replica : SlotLeaf) → slice_get (filter (is_on leaf) (serving history)) 0 ≡ Some replica
        → Contains (serving history) (record { slot = replica.slot; leaf = leaf })
    serves replica e = placed_on leaf (serving history) replica (first_on leaf (serving history) replica e)

    counted : (replica : SlotLeaf) → Contains (serving history) (record { slot = replica.slot; leaf = leaf }) → (b : Bool)
        → nat_lt 1 (length (serving history)) ≡ b
        → IsToldOfRetirement history leaf (cond b (told.WasRetired replica.slot) (told.LastServing replica.slot))
    counted replica there true many = (there, grind (arith, nat_tests))
    counted replica there false many =
        alone (serving history) (record { slot = replica.slot; leaf = leaf }) there (grind (arith, nat_tests))

    by : (found : Option SlotLeaf) → slice_get (filter (is_on leaf) (serving history)) 0 ≡ found
        → IsToldOfRetirement history leaf (retired_by found (length (serving history)))
    by None e = none_on leaf (serving history) e
    by (Some replica) e = counted replica (serves replica e) (nat_lt 1 (length (serving history))) refl
