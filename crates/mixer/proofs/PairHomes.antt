-- Pairs of a join: rows that agree in columns that tell their home have one home, and so has their pair.
use Rattle.std.proofs.lemmas.Bool.{and_parts}
use Rattle.std.proofs.Common.{◌≡◌, ◌&&◌, ◌||◌, Bool, true, false, not, cond, Option, Some, None, List, [], ◌∷◌, map}
use Rattle.std.proofs.Common.{refl, sym, subst}
use Rattle.std.specs.Prelude.{find, option_map, unwrap_or}
use Rattle.std.specs.List.{cons_option, list_all, zip}
use Rattle.std.proofs.lemmas.List.Folds.{find_at}
use Rattle.mon_value.specs.Tables.{Named, cells_agree, has_name, pair_of, right_cells, right_columns}
use Rattle.mon_value.specs.Same.{same_text, same_value}
use Rattle.mon_value.specs.declared.columns.Anchor.{Anchor}
use Rattle.mon_value.specs.declared.columns.Anchor.TheVariants as anchor
use Rattle.mon_value.specs.declared.columns.Column.{Column}
use Rattle.mon_value.specs.declared.tables.TimedRow.{TimedRow}
use Rattle.mon_value.specs.declared.values.Value.{Value}
use Rattle.mon_value.proofs.SameLemmas.{same_value-Decides}
use Rattle.mon_schema.specs.Names.{SchemaLists}
use Rattle.mql_ast.specs.Rows.{column_named}
use Rattle.typed_trees.specs.Branches.{anchored_with, as_joined, common_columns, join_columns, left_column}
use Rattle.typed_trees.specs.Branches.{same_columns}
use Rattle.typed_trees.specs.Branches.{union_columns}
use Rattle.typed_trees.specs.Levels.{common_anchor, is_location_anchor, same_anchor}
use Rattle.mixer.proofs.HeldCells as held_cells
use Rattle.mixer.proofs.HeldCells.{Holds, SaysIf}

agree_by : (b : Bool) (x y : Value) → b ≡ true → (not b || same_value x y) ≡ true → x ≡ y
agree_by true x y e agree = (same_value-Decides x y).0 agree
agree_by false x y e agree = absurd cc

module _ {H : Type 0} (Says : H → Anchor → Value → Type 0) (held : SchemaLists)
    (at_least : (home : H) (a : Anchor) (x : Value) → is_location_anchor held a ≡ true → Says home a x
    → Says home anchor.Location x)
    (alike : (home : H) (a b : Anchor) (x : Value) → same_anchor a b ≡ true → Says home b x → Says home a x) where
  -- ---- anchors of columns that hold the same

  left_anchor_by : (home : H) (a b : Anchor) (x : Value) (same both_located : Bool)
      → (both_located ≡ true → is_location_anchor held a ≡ true) → Says home a x
      → SaysIf Says home (cond same (Some a) (cond both_located (Some anchor.Location) None)) x
  left_anchor_by home a b x true located is says = says
  left_anchor_by home a b x false true is says = at_least home a x (is refl) says
  left_anchor_by home a b x false false is says = tt

  pub left_anchor : (home : H) (o p : Option Anchor) (x : Value) → SaysIf Says home o x
      → SaysIf Says home (common_anchor held o p) x
  left_anchor home (Some a) (Some b) x says =
      left_anchor_by home a b x (same_anchor a b) (is_location_anchor held a && is_location_anchor held b)
      (λ e. (and_parts (is_location_anchor held a) (is_location_anchor held b) e).0) says
  left_anchor home (Some a) None x says = tt
  left_anchor home None p x says = tt

  right_anchor_by : (home : H) (a b : Anchor) (x : Value) (same both_located : Bool) → (same ≡ true → Says home a x)
      → (both_located ≡ true → is_location_anchor held b ≡ true) → Says home b x
      → SaysIf Says home (cond same (Some a) (cond both_located (Some anchor.Location) None)) x
  right_anchor_by home a b x true located own is says = own refl
  right_anchor_by home a b x false true own is says = at_least home b x (is refl) says
  right_anchor_by home a b x false false own is says = tt

  pub right_anchor : (home : H) (o p : Option Anchor) (x : Value) → SaysIf Says home p x
      → SaysIf Says home (common_anchor held o p) x
  right_anchor home (Some a) (Some b) x says =
      right_anchor_by home a b x (same_anchor a b) (is_location_anchor held a && is_location_anchor held b)
      (λ e. alike home a b x e says)
      (λ e. (and_parts (is_location_anchor held a) (is_location_anchor held b) e).1) says
  right_anchor home (Some a) None x says = tt
  right_anchor home None p x says = tt

  -- ---- what a pair agrees in

  -- what the right column of a name says of the right row's home, of a cell that agrees with it
  abbrev FoundSays : H → Option Column → Value → Type 0
  FoundSays other None x = Unit {0}
  FoundSays other (Some c) x = SaysIf Says other c.anchor x

  found_by : (other : H) (b : Bool) (x y : Value) (c : Column) (rest : Option Column)
      → (b ≡ true → x ≡ y) → SaysIf Says other c.anchor y → FoundSays other rest x
      → FoundSays other (cond b (Some c) rest) x
  found_by other true x y c rest same says more = subst (λ v. SaysIf Says other c.anchor v) (sym (same refl)) says
  found_by other false x y c rest same says more = more

  found_says : (other : H) (left : Named) (columns : List Column) (cells : List Value) → Holds Says other columns cells
      → list_all (λ cell. cells_agree left cell) (zip columns cells) ≡ true
      → FoundSays other (find (λ (c : Column). same_text left.0.name c.name) columns) left.1
  found_says other left [] [] holds agree = tt
  found_says other left [] (x ∷ xs) holds agree = absurd holds
  found_says other left (c ∷ cs) [] holds agree = absurd holds
  found_says other left (c ∷ cs) (x ∷ xs) holds agree =
      let parts = and_parts (cells_agree left (c, x)) (list_all (λ cell. cells_agree left cell) (zip cs xs)) agree in
      found_by other (same_text left.0.name c.name) left.1 x c
      (find (λ (d : Column). same_text left.0.name d.name) cs)
      (λ e. agree_by (same_text left.0.name c.name) left.1 x e parts.0) holds.0
      (found_says other left cs xs holds.1 parts.1)

  -- cells of common columns, of which and_both homes say what they hold
  pub record AgreeIn (home other : H) (columns : List Column) : Type 0 where
    pub cells : List Value
    pub left : Holds Says home columns cells
    pub right : Holds Says other columns cells

  agree_more : (home other : H) (c : Column) (x : Value) (o : Option Column) (columns : List Column)
      → SaysIf Says home c.anchor x → FoundSays other o x → AgreeIn home other columns
      → AgreeIn home other (cons_option (option_map (anchored_with held c) o) columns)
  agree_more home other c x None columns own says rest = rest
  agree_more home other c x (Some d) columns own says rest = record {
    cells = x ∷ rest.cells;
    left = (left_anchor home c.anchor d.anchor x own, rest.left);
    right = (right_anchor other c.anchor d.anchor x says, rest.right);
  }

  pub agree_in : (home other : H) (rights : List Column) (others : List Value) → Holds Says other rights others
      → (lefts : List Column) (cells : List Value) → Holds Says home lefts cells
      → list_all (λ cell. list_all (λ (o : Named). cells_agree cell o) (zip rights others)) (zip lefts cells) ≡ true
      → AgreeIn home other (common_columns held lefts rights)
  agree_in home other rights others right [] [] left agree = record { cells = []; left = tt; right = tt }
  agree_in home other rights others right [] (x ∷ xs) left agree = absurd left
  agree_in home other rights others right (c ∷ cs) [] left agree = absurd left
  agree_in home other rights others right (c ∷ cs) (x ∷ xs) left agree =
      let parts = and_parts (list_all (λ (o : Named). cells_agree (c, x) o) (zip rights others))
      (list_all (λ cell. list_all (λ (o : Named). cells_agree cell o) (zip rights others)) (zip cs xs)) agree in
      let found : FoundSays other (column_named c.name rights) x =
      subst (λ o. FoundSays other o x) (find_at (λ (d : Column). same_text c.name d.name) rights)
      (found_says other (c, x) rights others right parts.0) in
      agree_more home other c x (column_named c.name rights) (common_columns held cs rights) left.0 found
      (agree_in home other rights others right cs xs left.1 parts.1)

  -- ---- what a pair holds

  pub joined_says : (home : H) (c : Column) (o : Option Column) (x : Value) → SaysIf Says home c.anchor x
      → SaysIf Says home (as_joined (unwrap_or (option_map (anchored_with held c) o) c)).anchor x
  joined_says home c None x says = says
  joined_says home c (Some d) x says = left_anchor home c.anchor d.anchor x says

  pub pair_holds : (home : H) (lefts rights : List Column) (left right : TimedRow) → Holds Says home lefts left.cells
      → Holds Says home rights right.cells
      → Holds Says home (join_columns held lefts rights) (pair_of lefts rights left right).cells
  pair_holds home lefts rights left right own other =
      held_cells.Holds-append Says home (map (left_column held rights) lefts)
      (map as_joined (right_columns lefts rights)) left.cells (right_cells lefts rights right)
      (held_cells.Holds-map Says home (left_column held rights)
      (λ c x says. joined_says home c (column_named c.name rights) x says) lefts left.cells own)
      (held_cells.Holds-map Says home as_joined (λ c x says. says) (right_columns lefts rights)
      (right_cells lefts rights right)
      (held_cells.Holds-kept Says home (λ column. not (has_name column.name lefts)) rights right.cells other))

  -- ---- what rows of a union hold

  pub left_holds : (home : H) (lefts rights : List Column) (cells : List Value) → same_columns lefts rights ≡ true
      → Holds Says home lefts cells → Holds Says home (union_columns held lefts rights) cells
  left_holds home [] [] [] same holds = tt
  left_holds home [] [] (x ∷ xs) same holds = absurd holds
  left_holds home [] (r ∷ rs) cells same holds = absurd cc
  left_holds home (l ∷ ls) [] cells same holds = absurd cc
  left_holds home (l ∷ ls) (r ∷ rs) [] same holds = absurd holds
  left_holds home (l ∷ ls) (r ∷ rs) (x ∷ xs) same holds =
      let parts = and_parts _ (same_columns ls rs) same in
      (left_anchor home l.anchor r.anchor x holds.0, left_holds home ls rs xs parts.1 holds.1)

  pub right_holds : (home : H) (lefts rights : List Column) (cells : List Value) → same_columns lefts rights ≡ true
      → Holds Says home rights cells → Holds Says home (union_columns held lefts rights) cells
  right_holds home [] [] [] same holds = tt
  right_holds home [] [] (x ∷ xs) same holds = absurd holds
  right_holds home [] (r ∷ rs) cells same holds = absurd cc
  right_holds home (l ∷ ls) [] cells same holds = absurd cc
  right_holds home (l ∷ ls) (r ∷ rs) [] same holds = absurd holds
  right_holds home (l ∷ ls) (r ∷ rs) (x ∷ xs) same holds =
      let parts = and_parts _ (same_columns ls rs) same in
      (right_anchor home l.anchor r.anchor x holds.0, right_holds home ls rs xs parts.1 holds.1)
