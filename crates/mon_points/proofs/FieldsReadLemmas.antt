-- Fields that are read one after another.
use Rattle.std.proofs.Common.{◌≡◌, ◌∙◌, ℕ, zero, suc, ◌+◌, ◌<◌, List, [], ◌∷◌, ◌++◌, length, get_or, drop, Option}
use Rattle.std.proofs.Common.{Some, None, Result, Ok, Err, refl, sym, ap, arith, append_assoc, IsSome, option_map}
use Rattle.std.proofs.Common.{drop-cons, Bor, inl, inr, add-one, eq-eqb}
use Rattle.std.proofs.lemmas.Bool.{cases_lt}
use Rattle.csv.specs.Records.{field_at}
use Rattle.mon_value.specs.declared.values.FieldValue.{FieldValue}
use Rattle.mon_value.specs.declared.schemas.Field.{Field}
use Rattle.mon_points.specs.Records.{field_of, fields_read, key_read, point_read, row_read}
use Rattle.mon_value.specs.declared.schemas.TargetSchema.{TargetSchema}
use Rattle.mon_value.specs.declared.schemas.MetricSchema.{MetricSchema}
use Rattle.mon_value.specs.declared.rows.SeriesKey.{SeriesKey}
use Rattle.mon_value.specs.declared.rows.Point.{Point}
use Rattle.mon_schema.specs.Names.{SchemaLists, target_named, metric_named}
use Rattle.mon_value.specs.Answers.{◌>>=◌}
use Rattle.mon_points.specs.declared.faults.RowFault.{RowFault}
use Rattle.mon_points.specs.declared.faults.RowFault.TheVariants as fault

-- what is read behind values that were read before
abbrev pub behind : List FieldValue → Result (List FieldValue) RowFault → Result (List FieldValue) RowFault
behind values read = read >>= λ more. Ok (values ++ more)

behind-behind : (xs ys : List FieldValue) (read : Result (List FieldValue) RowFault)
    → behind xs (behind ys read) ≡ behind (xs ++ ys) read
behind-behind xs ys (Ok zs) = ap (λ zs. Ok zs) (sym (append_assoc xs ys zs))
behind-behind xs ys (Err e) = refl

-- a record has a cell at each place below its length
pub field_at-some : (cells : List (List ℕ)) (k : ℕ) → k < length cells → field_at cells k ≡ Some (get_or cells k [])
unfolding field_at
field_at-some [] k l = absurd (omega arith)
field_at-some (c ∷ cells) zero l = refl
field_at-some (c ∷ cells) (suc k) l = field_at-some cells k (omega arith)

drop_at : (cells : List (List ℕ)) (k : ℕ) (cell : List ℕ) → field_at cells k ≡ Some cell
    → drop k cells ≡ cell ∷ drop (suc k) cells
unfolding field_at
drop_at [] k cell e = cc
drop_at (c ∷ cells) zero cell e = let same : c ≡ cell = cc in ap (λ d. d ∷ cells) same
drop_at (c ∷ cells) (suc k) cell e = drop_at cells k cell e

-- a field whose cell spells a value of its type
fields_next : (n : ℕ) (field : Field) (fields : List Field) (cell : List ℕ) (cells : List (List ℕ)) (value : FieldValue)
    → field_of field.of cell ≡ Some value
    → fields_read n (field ∷ fields) (cell ∷ cells) ≡ behind (value ∷ []) (fields_read (n + 1) fields cells)
fields_next n field fields cell cells value e = rw e refl

-- the fields and the cells from a place on
pub item_here : {A : Type 0} (items : List A) (i : ℕ) (item : A) → i < length items → item ≡ get_or items i item
    → drop i items ≡ item ∷ drop (i + 1) items
item_here items i item l e =
    drop-cons items i item l
    ∙ (ap (λ x. x ∷ drop (suc i) items) (sym e) ∙ ap (λ k. item ∷ drop k items) (sym (add-one i)))

pub cell_here : (cells : List (List ℕ)) (place i : ℕ) (cell : List ℕ)
    → field_at cells (place + i) ≡ Some cell → drop (place + i) cells ≡ cell ∷ drop (place + (i + 1)) cells
cell_here cells place i cell e =
    let k : suc (place + i) ≡ place + (i + 1) = omega arith in
    drop_at cells (place + i) cell e ∙ ap (λ n. cell ∷ drop n cells) k

-- one more field
pub fields_more : (n place i : ℕ) (fields : List Field) (cells : List (List ℕ)) (values : List FieldValue)
    (field : Field) (cell : List ℕ) (value : FieldValue)
    → i < length fields → field ≡ get_or fields i field → field_at cells (place + i) ≡ Some cell
    → field_of field.of cell ≡ Some value
    → behind values (fields_read (n + i) (drop i fields) (drop (place + i) cells)) ≡ behind (values ++ value ∷ [])
    (fields_read (n + (i + 1)) (drop (i + 1) fields) (drop (place + (i + 1)) cells))
fields_more n place i fields cells values field cell value l at_field at_cell is_value =
    let k : n + i + 1 ≡ n + (i + 1) = omega arith in
    rw (
      item_here fields i field l at_field,
      cell_here cells place i cell at_cell,
      fields_next (n + i) field (drop (i + 1) fields) cell (drop (place + (i + 1)) cells) value is_value,
      k,
    )
    (behind-behind values (value ∷ []) _)

-- a field whose cell spells none
pub fields_bad : (n place i : ℕ) (fields : List Field) (cells : List (List ℕ)) (values : List FieldValue)
    (field : Field) (cell : List ℕ)
    → i < length fields → field ≡ get_or fields i field → field_at cells (place + i) ≡ Some cell
    → field_of field.of cell ≡ None
    → behind values (fields_read (n + i) (drop i fields) (drop (place + i) cells)) ≡ Err (fault.BadField (n + i))
fields_bad n place i fields cells values field cell l at_field at_cell is_none =
    rw (item_here fields i field l at_field, cell_here cells place i cell at_cell, is_none) refl

pub some_from_map : {A B : Type 0} (f : A → B) (o : Option A) (y : B) → option_map f o ≡ Some y → IsSome o
some_from_map f None y e = cc
some_from_map f (Some x) y e = refl

-- a record with no cell at a place below the fifth
pub short_at : (cells : List (List ℕ)) (k : ℕ) (cell : Option (Bor (List ℕ))) → k < 5
    → option_map (λ c. c.now) cell ≡ field_at cells k → cell ≡ None → length cells < 5
short_at cells k cell l e none =
    let missing : field_at cells k ≡ None = sym e ∙ ap (λ o. option_map (λ c. c.now) o) none in
    elim (cases_lt k (length cells)) [
      | inl h ↦ let found = field_at-some cells k h in cc
      | inr h ↦ omega arith
    ]

-- a record that has cells at the first five places
pub leading_at : (cells : List (List ℕ)) (a b c d e : List ℕ) → field_at cells 0 ≡ Some a
    → field_at cells 1 ≡ Some b → field_at cells 2 ≡ Some c → field_at cells 3 ≡ Some d
    → field_at cells 4 ≡ Some e → cells ≡ a ∷ b ∷ c ∷ d ∷ e ∷ drop 5 cells
leading_at cells a b c d e at0 at1 at2 at3 at4 =
    drop_at cells 0 a at0 ∙ ap (λ rest. a ∷ rest) (drop_at cells 1 b at1 ∙ ap (λ rest. b ∷ rest) (drop_at cells 2 c at2
    ∙ ap (λ rest. c ∷ rest) (drop_at cells 3 d at3 ∙ ap (λ rest. d ∷ rest) (drop_at cells 4 e at4))))

-- the cell at a place where a look-up found it
pub found_at : (cells : List (List ℕ)) (k : ℕ) (found : Option (Bor (List ℕ))) (cell : Bor (List ℕ))
    → option_map (λ c. c.now) found ≡ field_at cells k → found ≡ Some cell → field_at cells k ≡ Some cell.now
found_at cells k found cell e f = sym e ∙ ap (λ o. option_map (λ c. c.now) o) f

-- a record with fewer cells than stand before the fields
pub row_read-short : (schemas : SchemaLists) (cells : List (List ℕ)) → length cells < 5
    → row_read schemas cells ≡ Err fault.Fields
unfolding row_read
row_read-short schemas [] l = refl
row_read-short schemas (a ∷ []) l = refl
row_read-short schemas (a ∷ b ∷ []) l = refl
row_read-short schemas (a ∷ b ∷ c ∷ []) l = refl
row_read-short schemas (a ∷ b ∷ c ∷ d ∷ []) l = refl
row_read-short schemas (a ∷ b ∷ c ∷ d ∷ e ∷ rest) l = absurd (omega arith)

-- the row of a record without a fault
pub row_read-row : (schemas : SchemaLists) (schema metric start end value : List ℕ) (rest : List (List ℕ))
    (target : TargetSchema) (measured : MetricSchema) (point : Point) (key : SeriesKey)
    → target_named schema schemas.targets ≡ Some target → metric_named metric schemas.metrics ≡ Some measured
    → length rest ≡ length target.fields + length measured.fields
    → point_read measured start end value ≡ Ok point → key_read target measured rest ≡ Ok key
    → row_read schemas (schema ∷ metric ∷ start ∷ end ∷ value ∷ rest) ≡ Ok (record { key = key; point = point })
unfolding row_read
row_read-row schemas schema metric start end value rest target measured point key held known counted timed named =
    let as_many = eq-eqb (length rest) (length target.fields + length measured.fields) counted in
    rw (held, known, as_many, timed, named) refl
