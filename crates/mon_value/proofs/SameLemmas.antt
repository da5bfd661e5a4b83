-- What is the same is equal, and the derived comparisons tell so.
use Rattle.std.proofs.Common.{◌≡◌, ℕ, ◌&&◌, Bool, true, false, List, Decides, refl, ap, sym}
use Rattle.std.specs.Cmp.Lexicographic.{pointwise}
use Rattle.std.specs.Ordering.{int_eq}
use Rattle.std.specs.Prelude.{nat_eq}
use Rattle.std.proofs.lemmas.Bool.Decides.{Decides-eqb, Decides-int_eq}
use Rattle.std.proofs.lemmas.Slice.Eq.{slice_eq-Decides}
use Rattle.mon_value.specs.Same.{same_field, same_row, same_series, same_target, same_text, same_truth, same_value}
use Rattle.mon_value.specs.declared.rows.SeriesKey.{SeriesKey}
use Rattle.mon_value.specs.declared.rows.Target.{Target}
use Rattle.mon_value.specs.declared.tables.TimedRow.{TimedRow}
use Rattle.mon_value.specs.declared.values.FieldValue.{FieldValue}
use Rattle.mon_value.specs.declared.values.FieldValue.TheVariants as field
use Rattle.mon_value.specs.declared.values.Value.{Value}
use Rattle.mon_value.specs.declared.values.Value.TheVariants as value
use Rattle.mon_value.specs.contracts.rows.SeriesKeyPartialEq.TheImpl as derived
use Rattle.mon_value.specs.contracts.tables.TimedRowPartialEq.TheImpl as derived_row
use Rattle.mon_value.specs.contracts.values.FieldValuePartialEq.TheImpl as derived_field
use Rattle.mon_value.specs.contracts.values.ValuePartialEq.TheImpl as derived_value
use Rattle.std.proofs.lemmas.Bool.{false_from_ne_true}
use Rattle.mon_value.proofs.PlainLemmas.{and_both}

-- ---- the derived comparison is that of the definitions

eq-same_field : (a b : FieldValue) → derived_field.eq-value.it a b ≡ same_field a b
eq-same_field (field.Int x) (field.Int y) = refl
eq-same_field (field.Int x) (field.Bool y) = refl
eq-same_field (field.Int x) (field.Text y) = refl
eq-same_field (field.Bool x) (field.Int y) = refl
eq-same_field (field.Bool true) (field.Bool true) = refl
eq-same_field (field.Bool true) (field.Bool false) = refl
eq-same_field (field.Bool false) (field.Bool true) = refl
eq-same_field (field.Bool false) (field.Bool false) = refl
eq-same_field (field.Bool x) (field.Text y) = refl
eq-same_field (field.Text x) (field.Int y) = refl
eq-same_field (field.Text x) (field.Bool y) = refl
eq-same_field (field.Text x) (field.Text y) = refl

pub eq-same_series : (a b : SeriesKey) → derived.eq-value.it a b ≡ same_series a b
eq-same_series a b =
    ap (λ (same : FieldValue → FieldValue → Bool). (same_text a.target.schema b.target.schema && pointwise same
    a.target.fields b.target.fields) && (same_text a.metric b.metric && pointwise same a.fields b.fields))
    (λ i x y. eq-same_field x y i)

-- ---- what it tells

pub join : (a b : Bool) → a ≡ true → b ≡ true → (a && b) ≡ true
join true true e f = refl
join true false e f = f
join false b e f = e

pub same_text-Decides : (s t : List ℕ) → Decides (same_text s t) (s ≡ t)
same_text-Decides s t = slice_eq-Decides Decides-eqb s t (same_text s t) refl

pub same_truth-Decides : (a b : Bool) → Decides (same_truth a b) (a ≡ b)
same_truth-Decides true true = (λ e. refl, λ e. refl)
same_truth-Decides true false = (λ e. absurd cc, λ e. absurd cc)
same_truth-Decides false true = (λ e. absurd cc, λ e. absurd cc)
same_truth-Decides false false = (λ e. refl, λ e. refl)

pub same_field-Decides : (a b : FieldValue) → Decides (same_field a b) (a ≡ b)
same_field-Decides (field.Int x) (field.Int y) =
    (λ e. ap field.Int ((Decides-int_eq x y).0 e), λ e. (Decides-int_eq x y).1 cc)
same_field-Decides (field.Int x) (field.Bool y) = (λ e. absurd cc, λ e. absurd cc)
same_field-Decides (field.Int x) (field.Text y) = (λ e. absurd cc, λ e. absurd cc)
same_field-Decides (field.Bool x) (field.Int y) = (λ e. absurd cc, λ e. absurd cc)
same_field-Decides (field.Bool x) (field.Bool y) =
    (λ e. ap field.Bool ((same_truth-Decides x y).0 e), λ e. (same_truth-Decides x y).1 cc)
same_field-Decides (field.Bool x) (field.Text y) = (λ e. absurd cc, λ e. absurd cc)
same_field-Decides (field.Text x) (field.Int y) = (λ e. absurd cc, λ e. absurd cc)
same_field-Decides (field.Text x) (field.Bool y) = (λ e. absurd cc, λ e. absurd cc)
same_field-Decides (field.Text x) (field.Text y) =
    (λ e. ap field.Text ((same_text-Decides x y).0 e), λ e. (same_text-Decides x y).1 cc)

same_fields-Decides : (a b : List FieldValue) → Decides (pointwise same_field a b) (a ≡ b)
same_fields-Decides a b = slice_eq-Decides same_field-Decides a b (pointwise same_field a b) refl

same_target-Decides : (a b : Target) → Decides (same_target a b) (a ≡ b)
same_target-Decides a b = (
  λ e.
      let parts = and_both (same_text a.schema b.schema) _ e in
      let schema = (same_text-Decides a.schema b.schema).0 parts.0 in
      let fields = (same_fields-Decides a.fields b.fields).0 parts.1 in
      λ i. record { schema = schema i; fields = fields i },
  λ e. join _ _ ((same_text-Decides a.schema b.schema).1 (ap (λ t. t.schema) e))
      ((same_fields-Decides a.fields b.fields).1 (ap (λ t. t.fields) e)),
)

-- keys name one series exactly where they are equal
pub same_series-Decides : (a b : SeriesKey) → Decides (same_series a b) (a ≡ b)
same_series-Decides a b = (
  λ e.
      let parts = and_both (same_target a.target b.target) _ e in
      let rest = and_both (same_text a.metric b.metric) _ parts.1 in
      let target = (same_target-Decides a.target b.target).0 parts.0 in
      let metric = (same_text-Decides a.metric b.metric).0 rest.0 in
      let fields = (same_fields-Decides a.fields b.fields).0 rest.1 in
      λ i. record { target = target i; metric = metric i; fields = fields i },
  λ e. join _ _ ((same_target-Decides a.target b.target).1 (ap (λ k. k.target) e))
      (join _ _ ((same_text-Decides a.metric b.metric).1 (ap (λ k. k.metric) e))
      ((same_fields-Decides a.fields b.fields).1 (ap (λ k. k.fields) e))),
)

-- ---- cells and rows

pub eq-same_value : (a b : Value) → derived_value.eq-value.it a b ≡ same_value a b
eq-same_value (value.Int x) (value.Int y) = refl
eq-same_value (value.Int x) (value.Bool y) = refl
eq-same_value (value.Int x) (value.Text y) = refl
eq-same_value (value.Int x) (value.Dist y) = refl
eq-same_value (value.Bool x) (value.Int y) = refl
eq-same_value (value.Bool true) (value.Bool true) = refl
eq-same_value (value.Bool true) (value.Bool false) = refl
eq-same_value (value.Bool false) (value.Bool true) = refl
eq-same_value (value.Bool false) (value.Bool false) = refl
eq-same_value (value.Bool x) (value.Text y) = refl
eq-same_value (value.Bool x) (value.Dist y) = refl
eq-same_value (value.Text x) (value.Int y) = refl
eq-same_value (value.Text x) (value.Bool y) = refl
eq-same_value (value.Text x) (value.Text y) = refl
eq-same_value (value.Text x) (value.Dist y) = refl
eq-same_value (value.Dist x) (value.Int y) = refl
eq-same_value (value.Dist x) (value.Bool y) = refl
eq-same_value (value.Dist x) (value.Text y) = refl
eq-same_value (value.Dist x) (value.Dist y) = refl

pub same_value-Decides : (a b : Value) → Decides (same_value a b) (a ≡ b)
same_value-Decides (value.Int x) (value.Int y) =
    (λ e. ap value.Int ((Decides-int_eq x y).0 e), λ e. (Decides-int_eq x y).1 cc)
same_value-Decides (value.Int x) (value.Bool y) = (λ e. absurd cc, λ e. absurd cc)
same_value-Decides (value.Int x) (value.Text y) = (λ e. absurd cc, λ e. absurd cc)
same_value-Decides (value.Int x) (value.Dist y) = (λ e. absurd cc, λ e. absurd cc)
same_value-Decides (value.Bool x) (value.Int y) = (λ e. absurd cc, λ e. absurd cc)
same_value-Decides (value.Bool x) (value.Bool y) =
    (λ e. ap value.Bool ((same_truth-Decides x y).0 e), λ e. (same_truth-Decides x y).1 cc)
same_value-Decides (value.Bool x) (value.Text y) = (λ e. absurd cc, λ e. absurd cc)
same_value-Decides (value.Bool x) (value.Dist y) = (λ e. absurd cc, λ e. absurd cc)
same_value-Decides (value.Text x) (value.Int y) = (λ e. absurd cc, λ e. absurd cc)
same_value-Decides (value.Text x) (value.Bool y) = (λ e. absurd cc, λ e. absurd cc)
same_value-Decides (value.Text x) (value.Text y) =
    (λ e. ap value.Text ((same_text-Decides x y).0 e), λ e. (same_text-Decides x y).1 cc)
same_value-Decides (value.Text x) (value.Dist y) = (λ e. absurd cc, λ e. absurd cc)
same_value-Decides (value.Dist x) (value.Int y) = (λ e. absurd cc, λ e. absurd cc)
same_value-Decides (value.Dist x) (value.Bool y) = (λ e. absurd cc, λ e. absurd cc)
same_value-Decides (value.Dist x) (value.Text y) = (λ e. absurd cc, λ e. absurd cc)
same_value-Decides (value.Dist x) (value.Dist y) = (
  λ e. ap value.Dist ((slice_eq-Decides Decides-eqb x y (pointwise nat_eq x y) refl).0 e),
  λ e. (slice_eq-Decides Decides-eqb x y (pointwise nat_eq x y) refl).1 cc,
)

pub eq-same_row : (a b : TimedRow) → derived_row.eq-value.it a b ≡ same_row a b
eq-same_row a b =
    ap (λ (same : Value → Value → Bool). int_eq a.time b.time && pointwise same a.cells b.cells)
    (λ i x y. eq-same_value x y i)

-- rows are the same exactly where they are equal
pub same_row-Decides : (a b : TimedRow) → Decides (same_row a b) (a ≡ b)
same_row-Decides a b = (
  λ e.
      let parts = and_both (int_eq a.time b.time) _ e in
      let time = (Decides-int_eq a.time b.time).0 parts.0 in
      let cells = (slice_eq-Decides same_value-Decides a.cells b.cells (pointwise same_value a.cells b.cells) refl).0
      parts.1 in
      λ i. record { time = time i; cells = cells i },
  λ e. join _ _ ((Decides-int_eq a.time b.time).1 (ap (λ r. r.time) e))
      ((slice_eq-Decides same_value-Decides a.cells b.cells (pointwise same_value a.cells b.cells) refl).1
      (ap (λ r. r.cells) e)),
)

pub same_text-back : (s t : List ℕ) (b : Bool) → same_text s t ≡ b → same_text t s ≡ b
same_text-back s t true e = (same_text-Decides t s).1 (sym ((same_text-Decides s t).0 e))
same_text-back s t false e =
    false_from_ne_true (same_text t s) (λ h. let back : same_text s t ≡ true = (same_text-Decides s t).1
    (sym ((same_text-Decides t s).0 h)) in cc)

pub same_text-itself : (text : List ℕ) → same_text text text ≡ true
same_text-itself text = (same_text-Decides text text).1 refl

-- the test of a map is that of the definitions
pub same_series-test : (key : SeriesKey) → derived.eq-value.it key ≡ same_series key
same_series-test key = λ i other. eq-same_series key other i
