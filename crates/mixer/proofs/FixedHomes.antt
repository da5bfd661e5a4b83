-- Homes that say what is fixed: what a filter fixes, the homes of the rows that pass it say; and two homes that say it
-- agree in the fixed columns.
use Rattle.std.proofs.Common.{◌≡◌, ◌∙◌, ◌||◌, ℕ, suc, Bool, true, false, cond, List, [], ◌∷◌, ◌+◌, refl, sym}
use Rattle.std.proofs.Common.{subst, arith}
use Rattle.std.specs.Prelude.{slice_get, not}
use Rattle.std.specs.List.{AllByRecursion, list_any}
use Rattle.std.specs.Option.{option_map_or}
use Rattle.std.specs.Ordering.{is_eq}
use Rattle.std.specs.declared.cmp.Ordering.{Ordering}
use Rattle.std.specs.declared.cmp.Ordering.TheVariants.{Less, Equal, Greater}
use Rattle.std.proofs.lemmas.Bool.{or_parts}
use Rattle.mon_value.specs.Order.{field_as_value, value_cmp}
use Rattle.mon_value.specs.Same.{same_text}
use Rattle.mon_value.specs.Tables.{has_name}
use Rattle.mon_value.specs.declared.columns.Anchor.{Anchor}
use Rattle.mon_value.specs.declared.columns.Column.{Column}
use Rattle.mon_value.specs.declared.values.FieldValue.{FieldValue}
use Rattle.mon_value.specs.declared.values.Value.{Value}
use Rattle.mon_value.proofs.OrderLemmas.{exact_values}
use Rattle.mon_value.proofs.PlainLemmas.{all_append, and_both}
use Rattle.mon_value.proofs.SameLemmas.{same_text-Decides}
use Rattle.mql_ast.specs.Rows.{cell_named, is_compared, place_of, predicate_truth}
use Rattle.mql_ast.specs.Trees as tree
use Rattle.mql_ast.specs.Trees.{PredicateTree}
use Rattle.mql_ast.specs.declared.predicates.Comparison.{Comparison}
use Rattle.mql_ast.specs.declared.predicates.Comparison.TheVariants as comparison
use Rattle.typed_trees.specs.FixedColumns.{fixed_by, fixed_columns, fixed_if, is_equal}
use Rattle.typed_trees.specs.declared.fixed.Fixed.{Fixed}
use Rattle.mixer.proofs.HeldCells.{Holds, SaysIf}
use Rattle.typed_rows.proofs.NamedTrees.{NamedOnce}

equal_by : (order : Ordering) → is_eq order ≡ true → order ≡ Equal
equal_by Less e = cc
equal_by Equal e = refl
equal_by Greater e = cc

-- what passes an equality is the literal
literal_is : (how : Comparison) (literal : FieldValue) (cell : Value) → is_equal how ≡ true
    → is_compared how literal cell ≡ true → cell ≡ field_as_value literal
literal_is comparison.Equal literal cell e met =
    exact_values cell (field_as_value literal) (equal_by (value_cmp cell (field_as_value literal)) met)
literal_is comparison.NotEqual literal cell e met = absurd cc
literal_is comparison.Less literal cell e met = absurd cc
literal_is comparison.AtMost literal cell e met = absurd cc
literal_is comparison.Greater literal cell e met = absurd cc
literal_is comparison.AtLeast literal cell e met = absurd cc

module _ {H : Type 0} (Says : H → Anchor → Value → Type 0) where
  -- a home says the literal, of each column of the name
  abbrev pub FixSays : H → Fixed → List Column → Type 0
  FixSays home f columns = AllByRecursion
      (λ (c : Column). same_text f.column c.name ≡ true → SaysIf Says home c.anchor (field_as_value f.value)) columns

  abbrev pub AllFixed : H → List Fixed → List Column → Type 0
  AllFixed home fixed columns = AllByRecursion (λ f. FixSays home f columns) fixed

  -- homes of a kind that say what is fixed in some columns
  abbrev pub Fixes : (H → Type 0) → List Fixed → List Column → H → Type 0
  Fixes P fixed columns home = P home × AllFixed home fixed columns

  -- ---- filters

  no_other : (home : H) (f : Fixed) (name : List ℕ) → f.column ≡ name → (columns : List Column)
      → has_name name columns ≡ false → FixSays home f columns
  no_other home f name is [] none = tt
  no_other home f name is (c ∷ cs) none =
      let parts = or_parts (same_text name c.name) (has_name name cs) none in (
        λ e. let same : same_text name c.name ≡ true = subst (λ n. same_text n c.name ≡ true) is e in
            let both : true ≡ false = sym same ∙ parts.0 in
            absurd cc,
        no_other home f name is cs parts.1,
      )

  named_by : (home : H) (how : Comparison) (f : Fixed) → is_equal how ≡ true → (c : Column) (cs : List Column)
      (x : Value) (xs : List Value) → NamedOnce (c ∷ cs) → Holds Says home (c ∷ cs) (x ∷ xs)
      → (option_map_or (is_compared how f.value) (slice_get xs (place_of f.column cs)) false ≡ true
      → FixSays home f cs) → (b : Bool) → same_text f.column c.name ≡ b
      → option_map_or (is_compared how f.value) (slice_get (x ∷ xs) (cond (not b) (1 + place_of f.column cs) 0)) false
      ≡ true
      → FixSays home f (c ∷ cs)
  named_by home how f equal c cs x xs once holds rest true e here =
      let is = literal_is how f.value x equal here in
      let name : f.column ≡ c.name = (same_text-Decides f.column c.name).0 e in
      (λ t. subst (λ v. SaysIf Says home c.anchor v) is holds.0, no_other home f c.name name cs once.0)
  named_by home how f equal c cs x xs once holds rest false e there =
      let one : 1 + place_of f.column cs ≡ suc (place_of f.column cs) = omega arith in
      let behind : option_map_or (is_compared how f.value) (slice_get xs (place_of f.column cs)) false ≡ true =
      subst (λ n. option_map_or (is_compared how f.value) (slice_get (x ∷ xs) n) false ≡ true) one there in
      (λ t. let both : true ≡ false = sym t ∙ e in absurd cc, rest behind)

  named_says : (home : H) (how : Comparison) (f : Fixed) → is_equal how ≡ true → (columns : List Column)
      (cells : List Value) → NamedOnce columns → Holds Says home columns cells
      → option_map_or (is_compared how f.value) (slice_get cells (place_of f.column columns)) false ≡ true
      → FixSays home f columns
  named_says home how f equal [] cells once holds passed = tt
  named_says home how f equal (c ∷ cs) [] once holds passed = absurd holds
  named_says home how f equal (c ∷ cs) (x ∷ xs) once holds passed =
      named_by home how f equal c cs x xs once holds
      (λ there. named_says home how f equal cs xs once.1 holds.1 there) (same_text f.column c.name) refl passed

  fixed_when : (home : H) (how : Comparison) (name : List ℕ) (literal : FieldValue) (columns : List Column)
      (cells : List Value) → NamedOnce columns → Holds Says home columns cells
      → option_map_or (is_compared how literal) (cell_named name columns cells) false ≡ true
      → (b : Bool) → is_equal how ≡ b → AllFixed home (fixed_if b name literal) columns
  fixed_when home how name literal columns cells once holds passed true e =
      (named_says home how (record { column = name; value = literal }) e columns cells once holds passed, tt)
  fixed_when home how name literal columns cells once holds passed false e = tt

  -- where a condition holds of a row, the row's home says what the condition fixes
  pub truth_fixes : (home : H) (by : PredicateTree) (columns : List Column) (cells : List Value) → NamedOnce columns
      → Holds Says home columns cells → predicate_truth by columns cells ≡ true
      → AllFixed home (fixed_by by) columns
  truth_fixes home (tree.Compare name how literal) columns cells once holds passed =
      fixed_when home how name.text literal.value columns cells once holds passed (is_equal how) refl
  truth_fixes home (tree.Like name pattern) columns cells once holds passed = tt
  truth_fixes home (tree.Not p) columns cells once holds passed = tt
  truth_fixes home (tree.And p q) columns cells once holds passed =
      let parts = and_both (predicate_truth p columns cells) (predicate_truth q columns cells) passed in
      all_append (λ f. FixSays home f columns) (fixed_by p) (fixed_by q)
      (truth_fixes home p columns cells once holds parts.0) (truth_fixes home q columns cells once holds parts.1)
  truth_fixes home (tree.Or p q) columns cells once holds passed = tt

  -- ---- the literals of fixed columns

  -- cells of columns, of which two homes say what they hold
  pub record BothSay (home other : H) (columns : List Column) : Type 0 where
    pub cells : List Value
    pub left : Holds Says home columns cells
    pub right : Holds Says other columns cells

  -- the literal of a column that is among the fixed ones
  pub record Literal (home other : H) (c : Column) : Type 0 where
    pub cell : Value
    pub left : SaysIf Says home c.anchor cell
    pub right : SaysIf Says other c.anchor cell

  literal_by : (home other : H) (f : Fixed) (c : Column) (cs : List Column) (b rest : Bool)
      → same_text f.column c.name ≡ b → (b || rest) ≡ true → FixSays home f (c ∷ cs) → FixSays other f (c ∷ cs)
      → (rest ≡ true → Literal home other c) → Literal home other c
  literal_by home other f c cs true rest e any left right more =
      record { cell = field_as_value f.value; left = left.0 e; right = right.0 e }
  literal_by home other f c cs false rest e any left right more = more any

  literal_found : (home other : H) (c : Column) (cs : List Column) (fixed : List Fixed)
      → AllFixed home fixed (c ∷ cs) → AllFixed other fixed (c ∷ cs)
      → list_any (λ (f : Fixed). same_text f.column c.name) fixed ≡ true → Literal home other c
  literal_found home other c cs [] left right any = absurd cc
  literal_found home other c cs (f ∷ fixed) left right any =
      literal_by home other f c cs (same_text f.column c.name)
      (list_any (λ (g : Fixed). same_text g.column c.name) fixed) refl any left.0 right.0
      (λ rest. literal_found home other c cs fixed left.1 right.1 rest)

  fixed_rest : (home : H) (c : Column) (cs : List Column) (fixed : List Fixed) → AllFixed home fixed (c ∷ cs)
      → AllFixed home fixed cs
  fixed_rest home c cs [] all = tt
  fixed_rest home c cs (f ∷ fixed) all = (all.0.1, fixed_rest home c cs fixed all.1)

  add_literal : (home other : H) (b : Bool) (c : Column) (cs : List Column) → (b ≡ true → Literal home other c)
      → BothSay home other cs → BothSay home other (cond b (c ∷ cs) cs)
  add_literal home other true c cs own rest =
      let one = own refl in
      record { cells = one.cell ∷ rest.cells; left = (one.left, rest.left); right = (one.right, rest.right) }
  add_literal home other false c cs own rest = rest

  -- two homes that say what is fixed agree in the fixed columns
  pub literals : (home other : H) (columns : List Column) (fixed : List Fixed) → AllFixed home fixed columns
      → AllFixed other fixed columns → BothSay home other (fixed_columns columns fixed)
  literals home other [] fixed left right = record { cells = []; left = tt; right = tt }
  literals home other (c ∷ cs) fixed left right =
      add_literal home other (list_any (λ (f : Fixed). same_text f.column c.name) fixed) c (fixed_columns cs fixed)
      (λ any. literal_found home other c cs fixed left right any)
      (literals home other cs fixed (fixed_rest home c cs fixed left) (fixed_rest other c cs fixed right))
