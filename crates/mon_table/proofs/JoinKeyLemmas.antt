-- Rows that are kept under their keys.
use Rattle.std.proofs.lemmas.Bool.{false_from_ne_true}
use Rattle.std.proofs.Common.{◌≡◌, ◌&&◌, Bool, true, false, cond, List, [], ◌∷◌, ◌++◌, map, Some, Vec, Bor, refl, sym}
use Rattle.std.proofs.Common.{ap, ◌∙◌, append-nil}
use Rattle.std.specs.Cmp.Lexicographic.{pointwise}
use Rattle.std.specs.Ordering.{int_eq}
use Rattle.std.specs.declared.alloc.Global.{Global}
use Rattle.indexmap.specs.IndexMap.{IndexMap, get, UpdatesBy}
use Rattle.mon_value.proofs.SameLemmas.{eq-same_value, same_row-Decides}
use Rattle.mon_value.specs.Same.{same_row, same_value}
use Rattle.mon_value.specs.declared.tables.TimedRow.{TimedRow}
use Rattle.mon_value.specs.declared.values.Value.{Value}
use Rattle.mon_table.specs.JoinKeys.{rows_under_key, key_row, same_join_key}
use Rattle.mon_table.specs.References.{rows_behind}
use Rattle.mon_table.specs.declared.keys.JoinKey.{JoinKey}
use Rattle.mon_table.specs.contracts.keys.JoinKeyPartialEq.TheImpl as derived

-- ---- keys

pointwise-now : (xs ys : List (Bor Value))
    → pointwise (λ (x y : Bor Value). same_value x.now y.now) xs ys ≡ pointwise same_value (map (λ x. x.now) xs)
    (map (λ y. y.now) ys)
pointwise-now [] [] = refl
pointwise-now [] (y ∷ ys) = refl
pointwise-now (x ∷ xs) [] = refl
pointwise-now (x ∷ xs) (y ∷ ys) = ap (λ rest. same_value x.now y.now && rest) (pointwise-now xs ys)

-- the derived comparison of keys is that of their rows
pub eq-same_join_key : derived.eq-value.it ≡ same_join_key
eq-same_join_key = λ i a b. both a b i
  where
    both : (a b : JoinKey) → derived.eq-value.it a b ≡ same_join_key a b
    both a b =
        ap (λ (same : Value → Value → Bool). int_eq a.time b.time && pointwise (λ (x y : Bor Value). same x.now y.now)
        a.cells.items b.cells.items) (λ i x y. eq-same_value x y i)
        ∙ ap (λ rest. int_eq a.time b.time && rest) (pointwise-now a.cells.items b.cells.items)

same_row-back : (a b : TimedRow) (c : Bool) → same_row a b ≡ c → same_row b a ≡ c
same_row-back a b true e = (same_row-Decides b a).1 (sym ((same_row-Decides a b).0 e))
same_row-back a b false e = false_from_ne_true (same_row b a) (λ h. let back : same_row a b ≡ true = (same_row-Decides a b).1
    (sym ((same_row-Decides b a).0 h)) in cc)

-- ---- a row more

module _ {S : Type 0} (m n : IndexMap JoinKey (Vec (Bor TimedRow) Global) S) (key : JoinKey) (row : TimedRow)
    (rows : Vec (Bor TimedRow) Global) where
  added_at : (other : JoinKey) (b : Bool) → same_join_key key other ≡ b → get same_join_key n other
      ≡ cond b (Some rows) (get same_join_key m other)
      → rows_behind rows.items ≡ rows_under_key (get same_join_key m key) ++ row ∷ []
      → rows_under_key (get same_join_key n other) ≡ rows_under_key (get same_join_key m other)
      ++ cond (same_join_key other key) (row ∷ []) []
  added_at other true same new grown =
      let one : key_row key ≡ key_row other = (same_row-Decides (key_row key) (key_row other)).0 same in
      ap rows_under_key new
      ∙ grown
      ∙ ap (λ (k : TimedRow). rows_under_key (get (λ (a b : JoinKey). same_row k (key_row b)) m key) ++ row ∷ []) one
      ∙ ap (λ c. rows_under_key (get same_join_key m other) ++ cond c (row ∷ []) [])
      (sym (same_row-back (key_row key) (key_row other) true same))
  added_at other false apart new grown =
      ap rows_under_key new
      ∙ sym (append-nil (rows_under_key (get same_join_key m other)))
      ∙ ap (λ c. rows_under_key (get same_join_key m other) ++ cond c (row ∷ []) [])
      (sym (same_row-back (key_row key) (key_row other) false apart))

  -- a row more under its key
  pub entry_rows-added : UpdatesBy same_join_key (same_join_key key) m n (Some rows) → rows_behind rows.items
      ≡ rows_under_key (get same_join_key m key) ++ row ∷ []
      → (other : JoinKey) → rows_under_key (get same_join_key n other) ≡ rows_under_key (get same_join_key m other)
      ++ cond (same_join_key other key) (row ∷ []) []
  entry_rows-added updates grown other = added_at other (same_join_key key other) refl (updates.0 other) grown
