-- The places of columns, kept under their names.
use Rattle.std.proofs.Common.{◌≡◌, ◌∙◌, ℕ, ◌+◌, Bool, true, false, cond, List, [], ◌∷◌, ◌++◌, length, Some, Vec}
use Rattle.std.proofs.Common.{Bor, refl, ap, sym, arith, append-nil}
use Rattle.std.specs.declared.alloc.Global.{Global}
use Rattle.indexmap.specs.IndexMap.{get, UpdatesBy}
use Rattle.mon_value.proofs.SameLemmas.{same_text-Decides, same_text-back}
use Rattle.mon_value.specs.Same.{same_text}
use Rattle.mon_value.specs.declared.columns.Column.{Column}
use Rattle.mon_table.specs.NamedPlaces.{PlaceMap, places_under, same_name}
use Rattle.mon_table.specs.Places.{right_places_of}

-- ---- the places of a name, by one column more

put_first : (b : Bool) (next : ℕ) (places more : List ℕ) → cond b (next ∷ places ++ more) (places ++ more)
    ≡ cond b (next ∷ places) places ++ more
put_first true next places more = refl
put_first false next places more = refl

-- the places of a name among columns and one more
pub right_places_of-push : (name : List ℕ) (next : ℕ) (columns : List Column) (column : Column)
    → right_places_of name next (columns ++ column ∷ [])
    ≡ right_places_of name next columns ++ cond (same_text name column.name) ((next + length columns) ∷ []) []
right_places_of-push name next [] column =
    ap (λ n. cond (same_text name column.name) (n ∷ []) []) (omega arith)
right_places_of-push name next (x ∷ xs) column =
    let count : next + 1 + length xs ≡ next + length (x ∷ xs) = omega arith in
    let more = cond (same_text name column.name) ((next + length (x ∷ xs)) ∷ []) [] in
    let rest : right_places_of name (next + 1) (xs ++ column ∷ []) ≡ right_places_of name (next + 1) xs ++ more =
    right_places_of-push name (next + 1) xs column
    ∙ ap (λ n. right_places_of name (next + 1) xs ++ cond (same_text name column.name) (n ∷ []) []) count in
    ap (λ places. cond (same_text name x.name) (next ∷ places) places) rest
    ∙ put_first (same_text name x.name) next (right_places_of name (next + 1) xs) more

-- ---- a place more

module _ {S : Type 0} (before after : PlaceMap S) (name : Bor (List ℕ)) (place : ℕ) (places : Vec ℕ Global) where
  added_at : (other : Bor (List ℕ)) (b : Bool) → same_name name other ≡ b → get same_name after other
      ≡ cond b (Some places) (get same_name before other)
      → places.items ≡ places_under (get same_name before name) ++ place ∷ []
      → places_under (get same_name after other) ≡ places_under (get same_name before other)
      ++ cond (same_text other.now name.now) (place ∷ []) []
  added_at other true same new grown =
      let one : name.now ≡ other.now = (same_text-Decides name.now other.now).0 same in
      ap places_under new
      ∙ grown
      ∙ ap (λ (text : List ℕ). places_under (get (λ (a b : Bor (List ℕ)). same_text text b.now) before name) ++ place ∷
      []) one
      ∙ ap (λ c. places_under (get same_name before other) ++ cond c (place ∷ []) [])
      (sym (same_text-back name.now other.now true same))
  added_at other false apart new grown =
      ap places_under new
      ∙ sym (append-nil (places_under (get same_name before other)))
      ∙ ap (λ c. places_under (get same_name before other) ++ cond c (place ∷ []) [])
      (sym (same_text-back name.now other.now false apart))

  -- a place more under its name
  pub adds_place : UpdatesBy same_name (same_name name) before after (Some places) → places.items
      ≡ places_under (get same_name before name) ++ place ∷ []
      → (other : Bor (List ℕ)) → places_under (get same_name after other)
      ≡ places_under (get same_name before other) ++ cond (same_text other.now name.now) (place ∷ []) []
  adds_place updates grown other = added_at other (same_name name other) refl (updates.0 other) grown
