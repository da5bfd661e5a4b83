-- Which texts are lawful as names, and the schemas that are held by them.
use Rattle.std.specs.Prelude.{ℕ, ◌+◌, ◌==◌, ◌&&◌, ◌||◌, Bool, true, false, not, nat_le, List, [], ◌∷◌, length, codes}
use Rattle.std.specs.Prelude.{if◌then◌else◌, ◌++◌, Option, Some, None}
use Rattle.std.specs.List.{list_all}
use Rattle.mon_value.specs.Same.{same_text}
use Rattle.mon_value.specs.declared.schemas.TargetSchema.{TargetSchema}
use Rattle.mon_value.specs.declared.schemas.MetricSchema.{MetricSchema}
use Rattle.mon_schema.specs.declared.limits.TheConstants.{LONGEST_METRIC_NAME, LONGEST_NAME}

-- Which texts are lawful as names.

abbrev pub is_byte_within : ℕ → ℕ → ℕ → Bool
is_byte_within low high byte = nat_le low byte && nat_le byte high

abbrev pub is_ascii_letter : ℕ → Bool
is_ascii_letter byte = is_byte_within 65 90 byte || is_byte_within 97 122 byte

abbrev pub is_ascii_digit : ℕ → Bool
is_ascii_digit byte = is_byte_within 48 57 byte

-- a letter or `_`
abbrev pub is_name_start : ℕ → Bool
is_name_start byte = is_ascii_letter byte || (byte == 95)

abbrev pub is_name_byte : ℕ → Bool
is_name_byte byte = is_name_start byte || is_ascii_digit byte

-- a name has 1 to 64 bytes: a letter or `_`, and then these or digits
unfoldable pub is_name : List ℕ → Bool
is_name [] = false
is_name (first ∷ rest) = is_name_start first && (list_all is_name_byte rest && nat_le (length rest + 1) LONGEST_NAME)

-- `time`, `true` and `false` mean something in every query
abbrev pub is_word : List ℕ → Bool
is_word name =
    same_text name (codes "time") || (same_text name (codes "true") || same_text name (codes "false"))

-- a field or a column has a name other than these words
unfoldable pub is_column_name : List ℕ → Bool
is_column_name name = is_name name && not (is_word name)

abbrev pub slash : ℕ
slash = 47

-- a byte of a part of a metric's name: a letter, a digit, `_` or `.`
abbrev pub is_part_byte : ℕ → Bool
is_part_byte byte = is_name_byte byte || (byte == 46)

abbrev mutual
  -- what follows a slash: a part, and what follows that
  pub follows_slash : List ℕ → Bool
  follows_slash [] = false
  follows_slash (byte ∷ rest) = is_part_byte byte && follows_part rest

  -- what follows a byte of a part: its further bytes, or a slash and a further part
  pub follows_part : List ℕ → Bool
  follows_part [] = true
  follows_part (byte ∷ rest) = if byte == slash then follows_slash rest else is_part_byte byte && follows_part rest

-- a metric's name has at most 256 bytes and is one part or more, each behind a slash
unfoldable pub is_metric_name : List ℕ → Bool
is_metric_name [] = false
is_metric_name (first ∷ rest) =
    nat_le (length rest + 1) LONGEST_METRIC_NAME && ((first == slash) && follows_slash rest)

-- The schemas that are held, and how one is found.

-- the target schemas and the metrics, each in the order of adding
pub record SchemaLists : Type 0 where
  pub targets : List TargetSchema
  pub metrics : List MetricSchema

-- the first of a name
abbrev pub first_named : {S : Type 0} → (S → List ℕ) → List ℕ → List S → Option S
first_named name_of name [] = None
first_named name_of name (schema ∷ schemas) =
    if same_text name (name_of schema) then Some schema else first_named name_of name schemas

-- the target schema of a name
abbrev pub target_named : List ℕ → List TargetSchema → Option TargetSchema
target_named name schemas = first_named (λ schema. schema.name) name schemas

-- the metric of a name
abbrev pub metric_named : List ℕ → List MetricSchema → Option MetricSchema
metric_named name metrics = first_named (λ metric. metric.name) name metrics

-- no schema and no metric
abbrev pub no_schemas : SchemaLists
no_schemas = record { targets = []; metrics = [] }

abbrev pub with_target : SchemaLists → TargetSchema → SchemaLists
with_target held schema = record { targets = held.targets ++ schema ∷ []; metrics = held.metrics }

abbrev pub with_metric : SchemaLists → MetricSchema → SchemaLists
with_metric held metric = record { targets = held.targets; metrics = held.metrics ++ metric ∷ [] }
