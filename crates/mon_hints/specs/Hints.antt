-- The buckets of a series: by them a reader knows which series can't be what it looks for.
use Rattle.std.specs.Prelude.{ℕ, Bool, List, [], ◌∷◌, ◌++◌, ◌*◌, ◌%◌, ◌^◌, fold, bit_xor, map, ◌≡◌, ◌<◌, ◌==◌}
use Rattle.std.specs.Prelude.{if◌then◌else◌}
use Rattle.std.specs.Fmt.{signed_decimal}
use Rattle.std.specs.List.{flat_map, list_all, list_any, zip}
use Rattle.std.specs.Int.{bit_at}
use Rattle.mon_value.specs.Same.{same_text}
use Rattle.mon_value.specs.Values.{truth_text}
use Rattle.mon_value.specs.declared.values.FieldValue.{FieldValue}
use Rattle.mon_value.specs.declared.values.FieldValue.TheVariants as field
use Rattle.mon_value.specs.declared.rows.SeriesKey.{SeriesKey}
use Rattle.mon_value.specs.declared.schemas.Field.{Field}
use Rattle.mon_value.specs.declared.schemas.MetricSchema.{MetricSchema}
use Rattle.mon_value.specs.declared.schemas.TargetSchema.{TargetSchema}
use Rattle.mon_value.specs.LeafHistories.{leaf_rows}
use Rattle.mon_value.specs.declared.histories.Entry.{Entry}
use Rattle.mon_value.specs.declared.rows.Row.{Row}
use Rattle.mon_hints.specs.declared.excerpts.TheConstants.{BACK_MARK, FRONT_MARK}
use Rattle.mon_hints.specs.declared.fingerprints.TheConstants.{FACTOR, START}

-- What is looked for in a value: its excerpts.

-- the windows of three bytes, from the front on
abbrev pub windows : List ℕ → List (List ℕ)
windows [] = []
windows (a ∷ []) = []
windows (a ∷ b ∷ []) = []
windows (a ∷ b ∷ c ∷ bytes) = (a ∷ b ∷ c ∷ []) ∷ windows (b ∷ c ∷ bytes)

-- two marks stand for what is in front of a text, and two for what is behind it
abbrev pub front : List ℕ
front = FRONT_MARK ∷ FRONT_MARK ∷ []

abbrev pub back : List ℕ
back = BACK_MARK ∷ BACK_MARK ∷ []

-- the excerpts of a text: the windows of the text between its marks
abbrev pub text_excerpts : List ℕ → List (List ℕ)
text_excerpts text = windows (front ++ text ++ back)

-- the excerpts of a field's value: a number and a truth value have their whole text
abbrev pub value_excerpts : FieldValue → List (List ℕ)
value_excerpts (field.Int z) = signed_decimal z ∷ []
value_excerpts (field.Bool p) = truth_text p ∷ []
value_excerpts (field.Text text) = text_excerpts text

-- pieces with marks in front of the first
abbrev pub with_front_marks : List ℕ → List (List ℕ) → List (List ℕ)
with_front_marks marks [] = []
with_front_marks marks (piece ∷ pieces) = (marks ++ piece) ∷ pieces

-- pieces with marks behind the last
abbrev pub with_back_marks : List (List ℕ) → List ℕ → List (List ℕ)
with_back_marks [] marks = []
with_back_marks (piece ∷ []) marks = (piece ++ marks) ∷ []
with_back_marks (piece ∷ next ∷ pieces) marks = piece ∷ with_back_marks (next ∷ pieces) marks

-- the excerpts of a pattern: the windows of each of its pieces, of which the first has the marks of the front and the
-- last those of the back
abbrev pub pattern_excerpts : List (List ℕ) → List (List ℕ)
pattern_excerpts pieces = flat_map windows (with_back_marks (with_front_marks front pieces) back)

-- whether all of some excerpts are among others
abbrev pub are_among : List (List ℕ) → List (List ℕ) → Bool
are_among some others = list_all (λ excerpt. list_any (same_text excerpt) others) some

-- The number that stands for an excerpt of a field.

-- a fingerprint with a further byte, in 64 bits
abbrev pub with_byte : ℕ → ℕ → ℕ
with_byte fingerprint byte = (bit_xor fingerprint byte * FACTOR) % 2 ^ 64

abbrev pub with_bytes : ℕ → List ℕ → ℕ
with_bytes = fold with_byte

-- what an excerpt's fingerprint is taken of: its schema's name, its field's name and itself, each two apart by a zero
abbrev pub labelled_excerpt : List ℕ → List ℕ → List ℕ → List ℕ
labelled_excerpt schema field excerpt = schema ++ 0 ∷ field ++ 0 ∷ excerpt

abbrev pub fingerprint_of : List ℕ → List ℕ → List ℕ → ℕ
fingerprint_of schema field excerpt = with_bytes START (labelled_excerpt schema field excerpt)

-- the bucket of an excerpt, among so many
abbrev pub bucket_of : ℕ → List ℕ → List ℕ → List ℕ → ℕ
bucket_of buckets schema field excerpt = fingerprint_of schema field excerpt % buckets

-- The buckets of a series: by them a reader knows which series can't be what it looks for.

-- the bucket of a metric's name: it is the one excerpt of a field without a name
abbrev pub metric_bucket : ℕ → List ℕ → List ℕ → ℕ
metric_bucket buckets schema metric = bucket_of buckets schema [] metric

-- the buckets of a field's value
abbrev pub value_buckets : ℕ → List ℕ → List ℕ → FieldValue → List ℕ
value_buckets buckets schema field value = map (bucket_of buckets schema field) (value_excerpts value)

-- the buckets of the values of fields
abbrev pub field_buckets : ℕ → List ℕ → List Field → List FieldValue → List ℕ
field_buckets buckets schema fields values =
    flat_map (λ pair. value_buckets buckets schema pair.0.name pair.1) (zip fields values)

-- the buckets of a series: those of its metric's name, of its target's fields and of its own
abbrev pub series_buckets : ℕ → TargetSchema → MetricSchema → SeriesKey → List ℕ
series_buckets buckets target metric key =
    metric_bucket buckets key.target.schema key.metric
    ∷ (field_buckets buckets key.target.schema target.fields key.target.fields
    ++ field_buckets buckets key.target.schema metric.fields key.fields)

-- The hint buckets of a leaf's history: those of every series that has a row there.

-- the buckets of some rows' series, where each series has these buckets
abbrev pub rows_buckets : (SeriesKey → List ℕ) → List Row → List ℕ
rows_buckets buckets_of = flat_map (λ row. buckets_of row.key)

-- the buckets of a leaf's history
abbrev pub history_buckets : (SeriesKey → List ℕ) → List Entry → List ℕ
history_buckets buckets_of history = rows_buckets buckets_of (leaf_rows history)

-- Words that say which of 64 children have a bucket.

-- whether a word has a child's bit
abbrev pub has_bit : ℕ → ℕ → Bool
has_bit word child = bit_at word child == 1

-- the buckets that a child has: those whose word has its bit
abbrev pub buckets_of_child : List ℕ → List ℕ → ℕ → List ℕ
buckets_of_child [] words child = []
buckets_of_child (bucket ∷ named) [] child = []
buckets_of_child (bucket ∷ named) (word ∷ words) child =
    if has_bit word child then bucket ∷ buckets_of_child named words child else buckets_of_child named words child

-- a word has the bits of just the children that pass a test
abbrev pub IsMask : ℕ → (ℕ → Bool) → Type 0
IsMask word test = (child : ℕ) → child < 64 → has_bit word child ≡ test child
