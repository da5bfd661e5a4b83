-- Rows that stem from a home: a target, or the location of targets. Each cell of a column with an anchor holds what the
-- anchor says of the home.
use Rattle.std.proofs.Common.{◌≡◌, ℕ, zero, suc, Bool, true, false, cond, Option, Some, None, List, [], ◌∷◌, ◌++◌}
use Rattle.std.proofs.Common.{map, length, refl, ap, arith}
use Rattle.std.specs.Prelude.{slice_get, option_map}
use Rattle.std.specs.List.{AllByRecursion, cons_option, filter, zip}
use Rattle.mon_value.specs.Groups.{cells_at}
use Rattle.mon_value.specs.Tables.{Named}
use Rattle.mon_value.specs.declared.columns.Anchor.{Anchor}
use Rattle.mon_value.specs.declared.columns.Column.{Column}
use Rattle.mon_value.specs.declared.values.Value.{Value}
use Rattle.typed_trees.specs.Groupings.{as_key, key_at, key_columns_at}

abbrev pub HasNoAnchor : Column → Type 0
HasNoAnchor column = column.anchor ≡ None

module _ {H : Type 0} (Says : H → Anchor → Value → Type 0) where
  abbrev pub SaysIf : H → Option Anchor → Value → Type 0
  SaysIf home None value = Unit {0}
  SaysIf home (Some anchor) value = Says home anchor value

  -- one cell for each column, and what each anchor says of the home
  abbrev pub Holds : H → List Column → List Value → Type 0
  Holds home [] [] = Unit {0}
  Holds home [] (cell ∷ cells) = ⊥
  Holds home (column ∷ columns) [] = ⊥
  Holds home (column ∷ columns) (cell ∷ cells) = SaysIf home column.anchor cell × Holds home columns cells

  -- cells that stem from a home of some kind
  pub record Stems (P : H → Type 0) (columns : List Column) (cells : List Value) : Type 0 where
    pub home : H
    pub from : P home
    pub holds : Holds home columns cells

  -- columns that tell the home: no two have the same cells there
  abbrev pub Tell : List Column → Type 0
  Tell columns = (home other : H) (cells : List Value) → Holds home columns cells → Holds other columns cells
      → home ≡ other

  pub Holds-length : (home : H) (columns : List Column) (cells : List Value) → Holds home columns cells
      → length cells ≡ length columns
  Holds-length home [] [] holds = refl
  Holds-length home [] (x ∷ xs) holds = absurd holds
  Holds-length home (c ∷ cs) [] holds = absurd holds
  Holds-length home (c ∷ cs) (x ∷ xs) holds = ap (λ n. suc n) (Holds-length home cs xs holds.1)

  pub Holds-append : (home : H) (cs ds : List Column) (xs ys : List Value) → Holds home cs xs → Holds home ds ys
      → Holds home (cs ++ ds) (xs ++ ys)
  Holds-append home [] ds [] ys holds more = more
  Holds-append home [] ds (x ∷ xs) ys holds more = absurd holds
  Holds-append home (c ∷ cs) ds [] ys holds more = absurd holds
  Holds-append home (c ∷ cs) ds (x ∷ xs) ys holds more = (holds.0, Holds-append home cs ds xs ys holds.1 more)

  says_nothing : (home : H) (o : Option Anchor) (x : Value) → o ≡ None → SaysIf home o x
  says_nothing home None x e = tt
  says_nothing home (Some a) x e = absurd cc

  -- columns without anchors say nothing
  pub Holds-plain : (home : H) (columns : List Column) (cells : List Value) → AllByRecursion HasNoAnchor columns
      → length cells ≡ length columns → Holds home columns cells
  Holds-plain home [] [] plain long = tt
  Holds-plain home [] (x ∷ xs) plain long = absurd (omega (arith, long))
  Holds-plain home (c ∷ cs) [] plain long = absurd (omega (arith, long))
  Holds-plain home (c ∷ cs) (x ∷ xs) plain long =
      (says_nothing home c.anchor x plain.0, Holds-plain home cs xs plain.1 (omega (arith, long)))

  -- columns whose anchors say no more
  pub Holds-map : (home : H) (f : Column → Column)
      → ((c : Column) (x : Value) → SaysIf home c.anchor x → SaysIf home (f c).anchor x)
      → (columns : List Column) (cells : List Value) → Holds home columns cells → Holds home (map f columns) cells
  Holds-map home f less [] [] holds = tt
  Holds-map home f less [] (x ∷ xs) holds = absurd holds
  Holds-map home f less (c ∷ cs) [] holds = absurd holds
  Holds-map home f less (c ∷ cs) (x ∷ xs) holds = (less c x holds.0, Holds-map home f less cs xs holds.1)

  -- ---- columns that are kept, with their cells

  kept_by : (home : H) (b : Bool) (c : Column) (x : Value) (cs : List Column) (rest : List Named)
      → SaysIf home c.anchor x → Holds home cs (map (λ (cell : Named). cell.1) rest)
      → Holds home (cond b (c ∷ cs) cs) (map (λ (cell : Named). cell.1) (cond b ((c, x) ∷ rest) rest))
  kept_by home true c x cs rest own holds = (own, holds)
  kept_by home false c x cs rest own holds = holds

  pub Holds-kept : (home : H) (p : Column → Bool) (columns : List Column) (cells : List Value)
      → Holds home columns cells
      → Holds home (filter p columns)
      (map (λ (cell : Named). cell.1) (filter (λ (cell : Named). p cell.0) (zip columns cells)))
  Holds-kept home p [] [] holds = tt
  Holds-kept home p [] (x ∷ xs) holds = absurd holds
  Holds-kept home p (c ∷ cs) [] holds = absurd holds
  Holds-kept home p (c ∷ cs) (x ∷ xs) holds =
      kept_by home (p c) c x (filter p cs) (filter (λ (cell : Named). p cell.0) (zip cs xs)) holds.0
      (Holds-kept home p cs xs holds.1)

  -- ---- cells at places

  -- a column and a cell that are both there, or neither
  abbrev HoldsAt : H → Option Column → Option Value → Type 0
  HoldsAt home None None = Unit {0}
  HoldsAt home None (Some x) = ⊥
  HoldsAt home (Some c) None = ⊥
  HoldsAt home (Some c) (Some x) = SaysIf home c.anchor x

  held_at : (home : H) (columns : List Column) (cells : List Value) → Holds home columns cells → (place : ℕ)
      → HoldsAt home (slice_get columns place) (slice_get cells place)
  held_at home [] [] holds place = tt
  held_at home [] (x ∷ xs) holds place = absurd holds
  held_at home (c ∷ cs) [] holds place = absurd holds
  held_at home (c ∷ cs) (x ∷ xs) holds zero = holds.0
  held_at home (c ∷ cs) (x ∷ xs) holds (suc place) = held_at home cs xs holds.1 place

  as_key_held : (home : H) (o : Option Column) (p : Option Value) → HoldsAt home o p
      → HoldsAt home (option_map as_key o) p
  as_key_held home None None held = tt
  as_key_held home None (Some x) held = absurd held
  as_key_held home (Some c) None held = absurd held
  as_key_held home (Some c) (Some x) held = held

  cons_held : (home : H) (o : Option Column) (p : Option Value) (columns : List Column) (cells : List Value)
      → HoldsAt home o p → Holds home columns cells → Holds home (cons_option o columns) (cons_option p cells)
  cons_held home None None columns cells held holds = holds
  cons_held home None (Some x) columns cells held holds = absurd held
  cons_held home (Some c) None columns cells held holds = absurd held
  cons_held home (Some c) (Some x) columns cells held holds = (held, holds)

  pub Holds-places : (home : H) (columns : List Column) (cells : List Value) → Holds home columns cells
      → (places : List ℕ) → Holds home (key_columns_at columns places) (cells_at places cells)
  Holds-places home columns cells holds [] = tt
  Holds-places home columns cells holds (place ∷ places) =
      cons_held home (key_at columns place) (slice_get cells place) (key_columns_at columns places)
      (cells_at places cells)
      (as_key_held home (slice_get columns place) (slice_get cells place) (held_at home columns cells holds place))
      (Holds-places home columns cells holds places)
