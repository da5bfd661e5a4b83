-- A target as the home of rows: columns that are anchored to all fields of its schema tell it.
use Rattle.std.proofs.Common.{◌≡◌, ◌∙◌, ℕ, suc, ◌+◌, true, false, Option, Some, None, List, [], ◌∷◌, refl, sym, ap}
use Rattle.std.proofs.Common.{subst, arith}
use Rattle.std.specs.Prelude.{slice_get}
use Rattle.std.specs.List.{list_any}
use Rattle.std.specs.Option.{option_map_or}
use Rattle.mon_value.specs.Order.{field_as_value}
use Rattle.mon_value.specs.declared.columns.Anchor.{Anchor}
use Rattle.mon_value.specs.declared.columns.Anchor.TheVariants as anchor
use Rattle.mon_value.specs.declared.columns.Column.{Column}
use Rattle.mon_value.specs.declared.rows.Target.{Target}
use Rattle.mon_value.specs.declared.schemas.Field.{Field}
use Rattle.mon_value.specs.declared.schemas.TargetSchema.{TargetSchema}
use Rattle.mon_value.specs.declared.values.FieldValue.{FieldValue}
use Rattle.mon_value.specs.declared.values.Value.{Value}
use Rattle.mon_schema.specs.Fits.{field_fits, fields_fit}
use Rattle.mon_schema.specs.Names.{SchemaLists, target_named}
use Rattle.typed_trees.specs.Levels.{have_fields, is_anchored, is_location_anchor, names_target, same_anchor}
use Rattle.typed_trees.specs.Levels.{tell_target}
use Rattle.mixer.proofs.AnchorLemmas.{found_in, name_is, same_anchor-is}
use Rattle.mixer.proofs.HeldCells.{Holds, SaysIf, Tell}
use Rattle.mon_value.proofs.OrderLemmas.{same_fields}
use Rattle.mon_value.proofs.PlainLemmas.{and_both, same_item}

-- a cell that holds a field of a target, of a schema that the target fits
pub record HoldsField (held : SchemaLists) (target : Target) (name : List ℕ) (place : ℕ) (cell : Value) : Type 0 where
  pub of_schema : target.schema ≡ name
  pub kept : TargetSchema
  pub named : target_named name held.targets ≡ Some kept
  pub fit : fields_fit kept.fields target.fields ≡ true
  pub own : FieldValue
  pub at : slice_get target.fields place ≡ Some own
  pub is : cell ≡ field_as_value own

-- what an anchor says of a target: a field of it; of its location nothing more
abbrev pub TargetSays : SchemaLists → Target → Anchor → Value → Type 0
TargetSays held target (anchor.Field name place) cell = HoldsField held target name place cell
TargetSays held target anchor.Location cell = Unit {0}

-- a target is its own home
abbrev pub IsItself : Target → Target → Type 0
IsItself target home = target ≡ home

pub target_field : (held : SchemaLists) (schema : TargetSchema) (target home : Target)
    → target_named target.schema held.targets ≡ Some schema → fields_fit schema.fields target.fields ≡ true
    → IsItself target home → (k : ℕ) (v : FieldValue) → slice_get target.fields k ≡ Some v
    → TargetSays held home (anchor.Field schema.name k) (field_as_value v)
target_field held schema target home named fit is k v at =
    subst (λ h. TargetSays held h (anchor.Field schema.name k) (field_as_value v)) is (record {
      of_schema = sym (name_is target.schema held.targets schema named);
      kept = schema;
      named = ap (λ name. target_named name held.targets) (name_is target.schema held.targets schema named) ∙ named;
      fit = fit;
      own = v;
      at = at;
      is = refl;
    })

pub target_one : (target home other : Target) → IsItself target home → IsItself target other → home ≡ other
target_one target home other h o = sym h ∙ o

pub target_located : (held : SchemaLists) (home : Target) (a : Anchor) (x : Value) → is_location_anchor held a ≡ true
    → TargetSays held home a x → TargetSays held home anchor.Location x
target_located held home a x located says = tt

pub target_alike : (held : SchemaLists) (home : Target) (a b : Anchor) (x : Value) → same_anchor a b ≡ true
    → TargetSays held home b x → TargetSays held home a x
target_alike held home a b x same says =
    subst (λ c. TargetSays held home c x) (sym (same_anchor-is a b same)) says

-- ---- columns that tell the target

-- an anchor that is the one that is wanted
anchored_says : (held : SchemaLists) (home : Target) (wanted : Anchor) (o : Option Anchor) (x : Value)
    → option_map_or (same_anchor wanted) o false ≡ true → SaysIf (TargetSays held) home o x
    → TargetSays held home wanted x
anchored_says held home wanted None x e says = absurd cc
anchored_says held home wanted (Some a) x e says = target_alike held home wanted a x e says

-- one field that and_both targets have
one_field : (held : SchemaLists) (home other : Target) (name : List ℕ) (place : ℕ) (x : Value) (y z : FieldValue)
    → HoldsField held home name place x → HoldsField held other name place x
    → slice_get home.fields place ≡ Some y → slice_get other.fields place ≡ Some z → y ≡ z
one_field held home other name place x y z left right at also =
    let first : left.own ≡ y = same_item left.own y (sym left.at ∙ at) in
    let second : right.own ≡ z = same_item right.own z (sym right.at ∙ also) in
    sym first ∙ same_fields left.own right.own (sym left.is ∙ right.is) ∙ second

fields_same : (held : SchemaLists) (home other : Target) (name : List ℕ) (columns : List Column) (cells : List Value)
    → Holds (TargetSays held) home columns cells → Holds (TargetSays held) other columns cells
    → (next : ℕ) (fields : List Field) (xs ys : List FieldValue)
    → fields_fit fields xs ≡ true → fields_fit fields ys ≡ true → have_fields name next fields columns ≡ true
    → ((k : ℕ) → slice_get home.fields (next + k) ≡ slice_get xs k)
    → ((k : ℕ) → slice_get other.fields (next + k) ≡ slice_get ys k) → xs ≡ ys
fields_same held home other name columns cells left right next [] [] [] fx fy have hx hy = refl
fields_same held home other name columns cells left right next [] (x ∷ xs) ys fx fy have hx hy = absurd cc
fields_same held home other name columns cells left right next [] [] (y ∷ ys) fx fy have hx hy = absurd cc
fields_same held home other name columns cells left right next (f ∷ fs) [] ys fx fy have hx hy = absurd cc
fields_same held home other name columns cells left right next (f ∷ fs) (x ∷ xs) [] fx fy have hx hy = absurd cc
fields_same held home other name columns cells left right next (f ∷ fs) (x ∷ xs) (y ∷ ys) fx fy have hx hy =
    let wanted = anchor.Field name next in
    let parts = and_both (list_any (is_anchored wanted) columns) (have_fields name (next + 1) fs columns) have in
    let found = found_in (TargetSays held) home other (is_anchored wanted) columns cells left right parts.0 in
    let here : next + 0 ≡ next = omega arith in
    let at : slice_get home.fields next ≡ Some x = ap (λ n. slice_get home.fields n) (sym here) ∙ hx 0 in
    let also : slice_get other.fields next ≡ Some y = ap (λ n. slice_get other.fields n) (sym here) ∙ hy 0 in
    let first : x ≡ y =
    one_field held home other name next found.cell x y
    (anchored_says held home wanted found.column.anchor found.cell found.passes found.left)
    (anchored_says held other wanted found.column.anchor found.cell found.passes found.right) at also in
    let step : (k : ℕ) → next + 1 + k ≡ next + suc k = λ k. omega arith in
    let rest : xs ≡ ys =
    fields_same held home other name columns cells left right (next + 1) fs xs ys
    (and_both (field_fits f.of x) (fields_fit fs xs) fx).1 (and_both (field_fits f.of y) (fields_fit fs ys) fy).1 parts.1
    (λ k. ap (λ n. slice_get home.fields n) (step k) ∙ hx (suc k))
    (λ k. ap (λ n. slice_get other.fields n) (step k) ∙ hy (suc k)) in
    λ i. first i ∷ rest i

targets_same : (held : SchemaLists) (home other : Target) (name : List ℕ) (place : ℕ) (x : Value)
    (columns : List Column) (cells : List Value)
    → Holds (TargetSays held) home columns cells → Holds (TargetSays held) other columns cells
    → HoldsField held home name place x → HoldsField held other name place x
    → names_target held columns (anchor.Field name place) ≡ true → home ≡ other
targets_same held home other name place x columns cells left right own also names =
    let schema : home.schema ≡ other.schema = own.of_schema ∙ sym also.of_schema in
    let kept : also.kept ≡ own.kept = same_item also.kept own.kept (sym also.named ∙ own.named) in
    let all : have_fields name 0 own.kept.fields columns ≡ true =
    sym (ap (λ o. option_map_or (λ (t : TargetSchema). have_fields name 0 t.fields columns) o false) own.named)
    ∙ names in
    let zero_more : (k : ℕ) → 0 + k ≡ k = λ k. omega arith in
    let fields : home.fields ≡ other.fields =
    fields_same held home other name columns cells left right 0 own.kept.fields home.fields other.fields own.fit
    (subst (λ (t : TargetSchema). fields_fit t.fields other.fields ≡ true) kept also.fit) all
    (λ k. ap (λ n. slice_get home.fields n) (zero_more k)) (λ k. ap (λ n. slice_get other.fields n) (zero_more k)) in
    λ i. record { schema = schema i; fields = fields i }

told_by : (held : SchemaLists) (home other : Target) (columns : List Column) (cells : List Value)
    → Holds (TargetSays held) home columns cells → Holds (TargetSays held) other columns cells
    → (o : Option Anchor) (x : Value) → SaysIf (TargetSays held) home o x → SaysIf (TargetSays held) other o x
    → option_map_or (names_target held columns) o false ≡ true → home ≡ other
told_by held home other columns cells left right None x own also names = absurd cc
told_by held home other columns cells left right (Some anchor.Location) x own also names = absurd cc
told_by held home other columns cells left right (Some (anchor.Field name place)) x own also names =
    targets_same held home other name place x columns cells left right own also names

-- columns that name the whole target of a schema tell it
pub target_told : (held : SchemaLists) (columns : List Column) → tell_target held columns ≡ true
    → Tell (TargetSays held) columns
target_told held columns tells home other cells left right =
    let found = found_in (TargetSays held) home other
    (λ column. option_map_or (names_target held columns) column.anchor false) columns cells left right tells in
    told_by held home other columns cells left right found.column.anchor found.cell found.left found.right found.passes
