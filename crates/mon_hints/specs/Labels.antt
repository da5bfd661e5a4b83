-- Buckets by the fingerprint of what stands in front of an excerpt. Only proofs need these.
use Rattle.std.specs.Prelude.{ℕ, ◌%◌, List, map}
use Rattle.std.specs.List.{flat_map}
use Rattle.mon_value.specs.declared.schemas.Field.{Field}
use Rattle.mon_value.specs.declared.values.FieldValue.{FieldValue}
use Rattle.mon_hints.specs.Hints.{value_excerpts, with_byte, with_bytes}

-- a label: a text, and the zero behind it
abbrev pub with_label : ℕ → List ℕ → ℕ
with_label fingerprint text = with_byte (with_bytes fingerprint text) 0

-- the bucket of an excerpt behind the labels of its field
abbrev pub bucket_behind : ℕ → ℕ → List ℕ → ℕ
bucket_behind buckets field excerpt = with_bytes field excerpt % buckets

-- the buckets of excerpts of one field
abbrev pub buckets_behind : ℕ → ℕ → List (List ℕ) → List ℕ
buckets_behind buckets field excerpts = map (bucket_behind buckets field) excerpts

-- the buckets of fields with their values, behind the label of their schema
abbrev pub buckets_of_pairs : ℕ → ℕ → List (Field × FieldValue) → List ℕ
buckets_of_pairs buckets schema pairs =
    flat_map (λ pair. buckets_behind buckets (with_label schema pair.0.name) (value_excerpts pair.1)) pairs
