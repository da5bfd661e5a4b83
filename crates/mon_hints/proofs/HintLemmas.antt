-- Buckets by the fingerprint of what stands in front of an excerpt.
use Rattle.std.proofs.Common.{◌≡◌, ℕ, ◌%◌, Bool, ◌∷◌, [], List, ◌++◌, map, refl, sym, ap, ◌∙◌, ◌⊎◌, inl, inr}
use Rattle.std.specs.List.{flat_map, zip}
use Rattle.std.proofs.lemmas.List.Sums.{fold-append}
use Rattle.mon_value.specs.declared.rows.SeriesKey.{SeriesKey}
use Rattle.mon_value.specs.declared.schemas.Field.{Field}
use Rattle.mon_value.specs.declared.schemas.MetricSchema.{MetricSchema}
use Rattle.mon_value.specs.declared.schemas.TargetSchema.{TargetSchema}
use Rattle.mon_value.specs.declared.values.FieldValue.{FieldValue}
use Rattle.mon_hints.specs.BucketSets.{no_bucket, with_bucket, with_buckets}
use Rattle.mon_hints.specs.Hints.{value_excerpts, bucket_of, fingerprint_of, with_byte, with_bytes, field_buckets}
use Rattle.mon_hints.specs.Hints.{series_buckets, value_buckets}
use Rattle.mon_hints.specs.Labels.{bucket_behind, buckets_behind, buckets_of_pairs, with_label}
use Rattle.mon_hints.specs.declared.fingerprints.TheConstants.{START}

pub fingerprint_behind : (schema field excerpt : List ℕ) →
    fingerprint_of schema field excerpt ≡ with_bytes (with_label (with_label START schema) field) excerpt
fingerprint_behind schema field excerpt =
    fold-append with_byte START (schema ++ 0 ∷ field) (0 ∷ excerpt)
    ∙ ap (λ fingerprint. with_bytes (with_byte fingerprint 0) excerpt) (fold-append with_byte START schema (0 ∷ field))

pub bucket_labelled : (buckets : ℕ) (schema field excerpt : List ℕ) →
    bucket_of buckets schema field excerpt ≡ bucket_behind buckets (with_label (with_label START schema) field) excerpt
bucket_labelled buckets schema field excerpt = ap (λ fingerprint. fingerprint % buckets)
    (fingerprint_behind schema field excerpt)

value_labelled : (buckets : ℕ) (schema field : List ℕ) (value : FieldValue) →
    value_buckets buckets schema field value ≡ buckets_behind buckets (with_label (with_label START schema) field)
    (value_excerpts value)
value_labelled buckets schema field value =
    ap (λ bucket. map bucket (value_excerpts value)) (λ i excerpt. bucket_labelled buckets schema field excerpt i)

fields_labelled : (buckets : ℕ) (schema : List ℕ) (fields : List Field) (values : List FieldValue) →
    field_buckets buckets schema fields values ≡ buckets_of_pairs buckets (with_label START schema) (zip fields values)
fields_labelled buckets schema fields values =
    ap (λ (listed : Field × FieldValue → List ℕ). flat_map listed (zip fields values))
    (λ i pair. value_labelled buckets schema pair.0.name pair.1 i)

-- the buckets of a series, as they are found
abbrev pub found_buckets : ℕ → TargetSchema → MetricSchema → SeriesKey → List ℕ
found_buckets buckets target metric key =
    let schema = with_label START key.target.schema in
    bucket_behind buckets (with_label schema []) key.metric
    ∷ (buckets_of_pairs buckets schema (zip target.fields key.target.fields)
    ++ buckets_of_pairs buckets schema (zip metric.fields key.fields))

pub series_found : (buckets : ℕ) (target : TargetSchema) (metric : MetricSchema) (key : SeriesKey) →
    series_buckets buckets target metric key ≡ found_buckets buckets target metric key
series_found buckets target metric key =
    let schema = key.target.schema in
    ap (λ first. first ∷ (field_buckets buckets schema target.fields key.target.fields ++ field_buckets buckets schema
    metric.fields key.fields))
    (bucket_labelled buckets schema [] key.metric)
    ∙ ap (λ some. bucket_behind buckets (with_label (with_label START schema) []) key.metric
    ∷ (some ++ field_buckets buckets schema metric.fields key.fields))
    (fields_labelled buckets schema target.fields key.target.fields)
    ∙ ap (λ some. bucket_behind buckets (with_label (with_label START schema) []) key.metric
    ∷ (buckets_of_pairs buckets (with_label START schema) (zip target.fields key.target.fields) ++ some))
    (fields_labelled buckets schema metric.fields key.fields)

-- a set to which all of them were added
pub series_filled : (buckets : ℕ) (target : TargetSchema) (metric : MetricSchema) (key : SeriesKey)
    (empty named targets whole : ℕ → Bool) →
    empty ≡ no_bucket → named ≡ with_bucket empty
    (bucket_behind buckets (with_label (with_label START key.target.schema) []) key.metric) →
    targets ≡ with_buckets named (buckets_of_pairs buckets (with_label START key.target.schema)
    (zip target.fields key.target.fields)) →
    whole ≡ with_buckets targets (buckets_of_pairs buckets (with_label START key.target.schema)
    (zip metric.fields key.fields)) →
    whole ≡ with_buckets no_bucket (series_buckets buckets target metric key)
series_filled buckets target metric key empty named targets whole none first second third =
    let schema = with_label START key.target.schema in
    let name = bucket_behind buckets (with_label schema []) key.metric in
    let some = buckets_of_pairs buckets schema (zip target.fields key.target.fields) in
    let more = buckets_of_pairs buckets schema (zip metric.fields key.fields) in
    third ∙ ap (λ set. with_buckets set more) (second ∙ ap (λ set. with_buckets set some)
    (first ∙ ap (λ set. with_bucket set name) none))
    ∙ sym (fold-append with_bucket (with_bucket no_bucket name) some more)
    ∙ sym (ap (with_buckets no_bucket) (series_found buckets target metric key))

-- pairs of which one side has ended
pub zip_ended : {A B : Type 0} (xs : List A) (ys : List B) → (xs ≡ []) ⊎ (ys ≡ []) → zip xs ys ≡ []
zip_ended [] ys e = refl
zip_ended (x ∷ xs) [] e = refl
zip_ended (x ∷ xs) (y ∷ ys) e = elim e [ inl h ↦ absurd cc | inr h ↦ absurd cc ]
