-- Buckets of a series are below their number, and sets of them grow.
use Rattle.std.proofs.Common.{◌≡◌, ◌∙◌, ℕ, ◌+◌, ◌<◌, ◌≤◌, ◌==◌, nat_lt, Bool, true, false, not, ◌&&◌, ◌||◌, Option}
use Rattle.std.proofs.Common.{Some, None, IfSome, List, [], ◌∷◌, ◌++◌, map, refl, sym, ap, append-nil, arith}
use Rattle.std.specs.List.{AllByRecursion, flat_map, zip}
use Rattle.std.proofs.lemmas.Bool.{and_parts}
use Rattle.std.proofs.lemmas.Bool.Decides.{nat_tests}
use Rattle.std.proofs.lemmas.List.Concat.{flat_map-append}
use Rattle.std.proofs.lemmas.Nat.{mod_below}
use Rattle.mon_value.proofs.PlainLemmas.{or_false}
use Rattle.mon_hints.specs.BucketSets.{HasNone, IsNext}
use Rattle.mon_hints.specs.Hints.{value_excerpts, bucket_of, fingerprint_of, field_buckets, series_buckets}
use Rattle.mon_hints.specs.Hints.{value_buckets, history_buckets, rows_buckets}
use Rattle.mon_hints.specs.Formulas.{is_among}
use Rattle.mon_schema.specs.Names.{SchemaLists, metric_named, target_named}
use Rattle.mon_value.specs.declared.histories.Entry.{Entry}
use Rattle.mon_value.specs.declared.rows.Row.{Row}
use Rattle.mon_value.specs.declared.rows.SeriesKey.{SeriesKey}
use Rattle.mon_value.specs.declared.schemas.Field.{Field}
use Rattle.mon_value.specs.declared.schemas.MetricSchema.{MetricSchema}
use Rattle.mon_value.specs.declared.schemas.TargetSchema.{TargetSchema}
use Rattle.mon_value.specs.declared.values.FieldValue.{FieldValue}
use Rattle.mon_value.specs.LeafHistories.{brought_rows, leaf_rows}
use Rattle.leaf_store.specs.LeafStates.{buckets_by, is_unraised, key_buckets}

-- ---- below their number

-- numbers that all are below a bound
abbrev pub AllBelow : ℕ → List ℕ → Type 0
AllBelow bound numbers = AllByRecursion (λ n. n < bound) numbers

both_below : (bound : ℕ) (xs ys : List ℕ) → AllBelow bound xs → AllBelow bound ys → AllBelow bound (xs ++ ys)
both_below bound [] ys first second = second
both_below bound (x ∷ xs) ys first second = (first.0, both_below bound xs ys first.1 second)

excerpts_below : (buckets : ℕ) (schema field : List ℕ) (excerpts : List (List ℕ)) → 0 < buckets → AllBelow buckets
    (map (bucket_of buckets schema field) excerpts)
excerpts_below buckets schema field [] some = tt
excerpts_below buckets schema field (excerpt ∷ excerpts) some =
    (mod_below (fingerprint_of schema field excerpt) buckets some, excerpts_below buckets schema field excerpts some)

pairs_below : (buckets : ℕ) (schema : List ℕ) (pairs : List (Field × FieldValue)) → 0 < buckets →
    AllBelow buckets (flat_map (λ (pair : Field × FieldValue). value_buckets buckets schema pair.0.name pair.1) pairs)
pairs_below buckets schema [] some = tt
pairs_below buckets schema (pair ∷ pairs) some =
    both_below buckets (value_buckets buckets schema pair.0.name pair.1) _ (excerpts_below buckets schema pair.0.name
    (value_excerpts pair.1) some) (pairs_below buckets schema pairs some)

series_below : (buckets : ℕ) (target : TargetSchema) (metric : MetricSchema) (key : SeriesKey) → 0 < buckets
    → AllBelow buckets (series_buckets buckets target metric key)
series_below buckets target metric key some = (
  mod_below (fingerprint_of key.target.schema [] key.metric) buckets some,
  both_below buckets (field_buckets buckets key.target.schema target.fields key.target.fields) _
      (pairs_below buckets key.target.schema (zip target.fields key.target.fields) some)
      (pairs_below buckets key.target.schema (zip metric.fields key.fields) some),
)

below_at : (bound n first : ℕ) (rest : Bool) (b : Bool) → (n == first) ≡ b → first < bound → (rest ≡ true → n < bound)
    → (b || rest) ≡ true → n < bound
below_at bound n first rest true same here more found = let is : n ≡ first = grind (arith, nat_tests) in
    omega (arith, is, here)
below_at bound n first rest false same here more found = more found

among_below : (bound n : ℕ) (numbers : List ℕ) → AllBelow bound numbers → is_among n numbers ≡ true → n < bound
among_below bound n [] all found = absurd cc
among_below bound n (first ∷ numbers) all found = below_at bound n first (is_among n numbers) (n == first) refl all.0
    (among_below bound n numbers all.1) found

pub bucket_below : (buckets bucket : ℕ) (target : TargetSchema) (metric : MetricSchema) (key : SeriesKey) → 0 < buckets
    →
    is_among bucket (series_buckets buckets target metric key) ≡ true → bucket < buckets
bucket_below buckets bucket target metric key some found = among_below buckets bucket
    (series_buckets buckets target metric key) (series_below buckets target metric key some) found

module _ (buckets bucket : ℕ) (held : SchemaLists) (key : SeriesKey) (some : 0 < buckets) where
  by_schemas : (target : Option TargetSchema) (metric : Option MetricSchema)
      → is_among bucket (buckets_by buckets target metric key) ≡ true → bucket < buckets
  by_schemas None metric found = absurd cc
  by_schemas (Some target) None found = absurd cc
  by_schemas (Some target) (Some metric) found = bucket_below buckets bucket target metric key some found

  pub key_below : is_among bucket (key_buckets buckets held key) ≡ true → bucket < buckets
  key_below = by_schemas (target_named key.target.schema held.targets) (metric_named key.metric held.metrics)

  pub unraised_below : (history : List Entry) → is_unraised buckets held history key bucket ≡ true → bucket < buckets
  unraised_below history found =
      key_below (and_parts (is_among bucket (key_buckets buckets held key))
      (not (is_among bucket (history_buckets (key_buckets buckets held) history))) found).0

-- the least of a set that is below a bound
pub next_within : (found : Option ℕ) (set : ℕ → Bool) (from bound : ℕ) → IfSome found (λ next. IsNext set from next)
    → ((bucket : ℕ) → set bucket ≡ true → bucket < bound) → IfSome found (λ next. next < bound)
next_within None set from bound least below = tt
next_within (Some next) set from bound least below = below next least.among

-- ---- the buckets of a series by what is found of its schemas

pub none_without_target : (buckets bucket : ℕ) (held : SchemaLists) (key : SeriesKey)
    → target_named key.target.schema held.targets ≡ None → is_among bucket (key_buckets buckets held key) ≡ false
none_without_target buckets bucket held key none =
    ap (λ (target : Option TargetSchema).
    is_among bucket (buckets_by buckets target (metric_named key.metric held.metrics) key)) none

pub none_without_metric : (buckets bucket : ℕ) (held : SchemaLists) (key : SeriesKey) (target : TargetSchema)
    → target_named key.target.schema held.targets ≡ Some target → metric_named key.metric held.metrics ≡ None
    → is_among bucket (key_buckets buckets held key) ≡ false
none_without_metric buckets bucket held key target found none =
    λ i. is_among bucket (buckets_by buckets (found i) (none i) key)

pub found_buckets : (buckets : ℕ) (held : SchemaLists) (key : SeriesKey) (target : TargetSchema) (metric : MetricSchema)
    → target_named key.target.schema held.targets ≡ Some target
    → metric_named key.metric held.metrics ≡ Some metric
    → key_buckets buckets held key ≡ series_buckets buckets target metric key
found_buckets buckets held key target metric found here = λ i. buckets_by buckets (found i) (here i) key

-- ---- sets that grow

-- the numbers of a set that are below one came to another set
abbrev pub AddsBelow : (ℕ → Bool) → (ℕ → Bool) → (ℕ → Bool) → ℕ → Type 0
AddsBelow old new own from = (bucket : ℕ) → new bucket ≡ (old bucket || (nat_lt bucket from && own bucket))

pub below_none : (bucket : ℕ) → nat_lt bucket 0 ≡ false
below_none bucket = grind (arith, nat_tests)

pub one_more : (bucket next from : ℕ) (old among : Bool) (t1 t2 t3 : Bool) → nat_lt bucket from ≡ t1 → (bucket == next)
    ≡ t2 → nat_lt bucket (next + 1) ≡ t3 →
    from ≤ next → (bucket ≡ next → among ≡ true) → (from ≤ bucket → bucket < next → among ≡ false)
    → (t2 || (old || (t1 && among))) ≡ (old || (t3 && among))
one_more bucket next from old among true true t3 low same high reached here between = absurd (grind (arith, nat_tests))
one_more bucket next from old among true false true low same high reached here between = refl
one_more bucket next from old among true false false low same high reached here between =
    absurd (grind (arith, nat_tests))
one_more bucket next from true among false true true low same high reached here between = refl
one_more bucket next from false among false true true low same high reached here between =
    sym (here (grind (arith, nat_tests)))
one_more bucket next from old among false true false low same high reached here between =
    absurd (grind (arith, nat_tests))
one_more bucket next from old among false false true low same high reached here between =
    let none : among ≡ false = between (grind (arith, nat_tests)) (grind (arith, nat_tests)) in
    ap (λ b. old || b) (sym none)
one_more bucket next from old among false false false low same high reached here between = refl

pub adds_next : (old set new own : ℕ → Bool) (from next : ℕ) → AddsBelow old set own from → IsNext own from next
    → new ≡ (λ bucket. (bucket == next) || set bucket) → AddsBelow old new own (next + 1)
adds_next old set new own from next adds is added bucket =
    ap (λ (f : ℕ → Bool). f bucket) added ∙ ap (λ b. (bucket == next) || b) (adds bucket)
    ∙ one_more bucket next from (old bucket) (own bucket) (nat_lt bucket from) (bucket == next)
    (nat_lt bucket (next + 1)) refl refl refl is.reached
    (λ same. ap own same ∙ is.among) (is.least bucket)

all_below : (bucket from : ℕ) (old among : Bool) (t : Bool) → nat_lt bucket from ≡ t → (from ≤ bucket → among ≡ false)
    → (old || (t && among)) ≡ (old || among)
all_below bucket from old among true below none = refl
all_below bucket from old among false below none = ap (λ b. old || b) (sym (none (grind (arith, nat_tests))))

pub adds_nothing : (old own : ℕ → Bool) → AddsBelow old old own 0
adds_nothing old own bucket = sym (ap (λ low. old bucket || (low && own bucket)) (below_none bucket) ∙ or_false (old bucket))

pub adds_all : (old new own : ℕ → Bool) (from : ℕ) → AddsBelow old new own from → HasNone own from
    → (bucket : ℕ) → new bucket ≡ (old bucket || own bucket)
adds_all old new own from adds none bucket =
    adds bucket ∙ all_below bucket from (old bucket) (own bucket) (nat_lt bucket from) refl (none bucket)

-- ---- buckets of rows

pub rows_more : (buckets : ℕ) (held : SchemaLists) (rows : List Row) (row : Row)
    → rows_buckets (key_buckets buckets held) (rows ++ row ∷ []) ≡ rows_buckets (key_buckets buckets held) rows
    ++ key_buckets buckets held row.key
rows_more buckets held rows row =
    flat_map-append (λ (row : Row). key_buckets buckets held row.key) rows (row ∷ [])
    ∙ ap (λ more. rows_buckets (key_buckets buckets held) rows ++ more)
    (append-nil (key_buckets buckets held row.key))

pub history_more : (buckets : ℕ) (held : SchemaLists) (history : List Entry) (last : Entry) →
    history_buckets (key_buckets buckets held) (history ++ last ∷ []) ≡ history_buckets (key_buckets buckets held)
    history ++ rows_buckets (key_buckets buckets held) (brought_rows last)
history_more buckets held history last =
    ap (rows_buckets (key_buckets buckets held)) (flat_map-append brought_rows history (last ∷ [])
    ∙ ap (λ more. leaf_rows history ++ more) (append-nil (brought_rows last)))
    ∙ flat_map-append (λ (row : Row). key_buckets buckets held row.key) (leaf_rows history) (brought_rows last)

-- a series whose schemas are held has the buckets by them
pub own_buckets : (count : ℕ) (held : SchemaLists) (target : TargetSchema) (metric : MetricSchema) (key : SeriesKey)
    → target_named key.target.schema held.targets ≡ Some target → metric_named key.metric held.metrics ≡ Some metric
    → key_buckets count held key ≡ series_buckets count target metric key
own_buckets count held target metric key target_is metric_is =
    λ i. buckets_by count (target_is i) (metric_is i) key
