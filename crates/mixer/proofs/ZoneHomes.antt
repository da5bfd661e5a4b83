-- A location as the home of rows: a column that is anchored to a location tells it.
use Rattle.std.proofs.Common.{◌≡◌, ◌∙◌, ◌≤◌, ◌&&◌, ◌||◌, ℕ, zero, suc, ◌+◌, Bool, true, false, cond, Option, Some}
use Rattle.std.proofs.Common.{None, List, [], ◌∷◌, refl, sym, ap, subst, arith}
use Rattle.std.specs.Prelude.{count_by, option_and_then, slice_get}
use Rattle.std.specs.List.{AllByRecursion, list_any}
use Rattle.std.specs.Option.{option_map_or}
use Rattle.std.proofs.lemmas.List.Sums.{sum_by-cons}
use Rattle.mon_value.specs.Order.{field_as_value}
use Rattle.mon_value.specs.Same.{same_text}
use Rattle.mon_value.specs.declared.columns.Anchor.{Anchor}
use Rattle.mon_value.specs.declared.columns.Anchor.TheVariants as anchor
use Rattle.mon_value.specs.declared.columns.Column.{Column}
use Rattle.mon_value.specs.declared.rows.Target.{Target}
use Rattle.mon_value.specs.declared.schemas.Field.{Field}
use Rattle.mon_value.specs.declared.schemas.TargetSchema.{TargetSchema}
use Rattle.mon_value.specs.declared.values.FieldType.{FieldType}
use Rattle.mon_value.specs.declared.values.FieldType.TheVariants as of_type
use Rattle.mon_value.specs.declared.values.FieldValue.{FieldValue}
use Rattle.mon_value.specs.declared.values.FieldValue.TheVariants as field
use Rattle.mon_value.specs.declared.values.Value.{Value}
use Rattle.mon_value.specs.declared.values.Value.TheVariants as value
use Rattle.mon_schema.specs.Faults.{is_location, is_text_field}
use Rattle.mon_schema.specs.Fits.{field_fits, fields_fit, TellsLocation}
use Rattle.mon_schema.specs.Names.{SchemaLists, target_named}
use Rattle.mon_topo.specs.Locations.{location_in, location_of, text_in_field}
use Rattle.typed_trees.specs.Levels.{have_fields, is_anchored, is_located, is_location_anchor, marks_location}
use Rattle.typed_trees.specs.Levels.{names_target, same_anchor, tell_target}
use Rattle.mixer.proofs.AnchorLemmas.{found_in, name_is, same_anchor-is}
use Rattle.mixer.proofs.HeldCells.{SaysIf, Tell}
use Rattle.mon_value.proofs.PlainLemmas.{nothing_is, and_both, same_item}

-- what an anchor says of a location: it is what the cell holds, where the anchor is a location
abbrev pub LocationSays : SchemaLists → List ℕ → Anchor → Value → Type 0
LocationSays held location a cell = is_location_anchor held a ≡ true → cell ≡ value.Text location

-- a target's home is its location
abbrev pub IsLocated : SchemaLists → Target → List ℕ → Type 0
IsLocated held target location = location_of held target ≡ Some location

-- ---- the marked field

abbrev marked_count : List Field → ℕ
marked_count fields = count_by (λ (f : Field). f.location) fields

count_cons : (f : Field) (fs : List Field) → marked_count (f ∷ fs) ≡ cond f.location 1 0 + marked_count fs
count_cons f fs = sum_by-cons (λ (g : Field). cond g.location 1 0) f fs

marked_some_by : (b : Bool) (n : ℕ) → b ≡ true → 1 ≤ cond b 1 0 + n
marked_some_by true n e = omega arith
marked_some_by false n e = absurd cc

-- a field that is marked is counted
marked_some : (fields : List Field) (k : ℕ) → marks_location k fields ≡ true → 1 ≤ marked_count fields
marked_some [] k marks = absurd cc
marked_some (f ∷ fs) zero marks =
    omega (arith, count_cons f fs, marked_some_by f.location (marked_count fs) marks)
marked_some (f ∷ fs) (suc k) marks = omega (arith, count_cons f fs, marked_some fs k marks)

-- without a marked field there is no location
none_marked_by : (b t : Bool) (x : FieldValue) (rest : Option (List ℕ)) → b ≡ false → rest ≡ None
    → cond (b && t) (text_in_field x) rest ≡ None
none_marked_by true t x rest e none = absurd cc
none_marked_by false t x rest e none = none

unmarked_by : (b : Bool) (n : ℕ) → cond b 1 0 + n ≡ 0 → b ≡ false
unmarked_by true n e = absurd (omega (arith, e))
unmarked_by false n e = refl

none_marked : (fields : List Field) (values : List FieldValue) → marked_count fields ≡ 0
    → location_in fields values ≡ None
none_marked [] values none = refl
none_marked (f ∷ fs) [] none = refl
none_marked (f ∷ fs) (x ∷ xs) none =
    let here : cond f.location 1 0 + marked_count fs ≡ 0 = sym (count_cons f fs) ∙ none in
    none_marked_by f.location (is_text_field f.of) x (location_in fs xs) (unmarked_by f.location (marked_count fs) here)
    (none_marked fs xs (omega (arith, here)))

text_is : (x : FieldValue) (location : List ℕ) → text_in_field x ≡ Some location
    → field_as_value x ≡ value.Text location
text_is (field.Text s) location e = ap (λ t. value.Text t) (same_item s location e)
text_is (field.Int z) location e = absurd (nothing_is location e)
text_is (field.Bool b) location e = absurd (nothing_is location e)

first_marked_by : (b t : Bool) (x : FieldValue) (rest : Option (List ℕ)) (location : List ℕ) → b ≡ true
    → rest ≡ None → cond (b && t) (text_in_field x) rest ≡ Some location → field_as_value x ≡ value.Text location
first_marked_by true true x rest location e none is = text_is x location is
first_marked_by true false x rest location e none is = absurd (nothing_is location (sym none ∙ is))
first_marked_by false t x rest location e none is = absurd cc

later_marked_by : (b t : Bool) (x : FieldValue) (rest : Option (List ℕ)) (location : List ℕ) → b ≡ false
    → cond (b && t) (text_in_field x) rest ≡ Some location → rest ≡ Some location
later_marked_by true t x rest location e is = absurd cc
later_marked_by false t x rest location e is = is

none_left : (b : Bool) (n : ℕ) → b ≡ true → cond b 1 0 + n ≤ 1 → n ≡ 0
none_left true n e few = omega (arith, few)
none_left false n e few = absurd cc

not_marked : (b : Bool) (n : ℕ) → 1 ≤ n → cond b 1 0 + n ≤ 1 → b ≡ false
not_marked true n some few = absurd (omega (arith, some, few))
not_marked false n some few = refl

-- the one field that is marked holds the location
marked_holds : (fields : List Field) (values : List FieldValue) (k : ℕ) (v : FieldValue) (location : List ℕ)
    → marked_count fields ≤ 1 → marks_location k fields ≡ true → slice_get values k ≡ Some v
    → location_in fields values ≡ Some location → field_as_value v ≡ value.Text location
marked_holds [] values k v location few marks at is = absurd cc
marked_holds (f ∷ fs) [] k v location few marks at is = absurd (nothing_is v at)
marked_holds (f ∷ fs) (x ∷ xs) zero v location few marks at is =
    let here : cond f.location 1 0 + marked_count fs ≤ 1 = omega (arith, few, count_cons f fs) in
    let none = none_marked fs xs (none_left f.location (marked_count fs) marks here) in
    ap field_as_value (sym (same_item x v at))
    ∙ first_marked_by f.location (is_text_field f.of) x (location_in fs xs) location marks none is
marked_holds (f ∷ fs) (x ∷ xs) (suc k) v location few marks at is =
    let here : cond f.location 1 0 + marked_count fs ≤ 1 = omega (arith, few, count_cons f fs) in
    let other : f.location ≡ false = not_marked f.location (marked_count fs) (marked_some fs k marks) here in
    marked_holds fs xs k v location (omega (arith, here)) marks at
    (later_marked_by f.location (is_text_field f.of) x (location_in fs xs) location other is)

-- ---- targets and their locations

found_tells : (name : List ℕ) (schemas : List TargetSchema) (found : TargetSchema)
    → AllByRecursion TellsLocation schemas → target_named name schemas ≡ Some found → TellsLocation found
found_tells name [] found all e = absurd (nothing_is found e)
found_tells name (first ∷ schemas) found all e =
    tells_by (same_text name first.name) first found (target_named name schemas) all.0
    (λ rest. found_tells name schemas found all.1 rest) e
  where
    tells_by : (b : Bool) (first found : TargetSchema) (rest : Option TargetSchema) → TellsLocation first
        → (rest ≡ Some found → TellsLocation found) → cond b (Some first) rest ≡ Some found → TellsLocation found
    tells_by true first found rest own more e = subst TellsLocation (same_item first found e) own
    tells_by false first found rest own more e = more e

pub location_field : (held : SchemaLists) → AllByRecursion TellsLocation held.targets
    → (schema : TargetSchema) (target : Target) (location : List ℕ)
    → target_named target.schema held.targets ≡ Some schema → fields_fit schema.fields target.fields ≡ true
    → IsLocated held target location → (k : ℕ) (v : FieldValue) → slice_get target.fields k ≡ Some v
    → LocationSays held location (anchor.Field schema.name k) (field_as_value v)
location_field held tell schema target location named fit is k v at located =
    let name = name_is target.schema held.targets schema named in
    let again : target_named schema.name held.targets ≡ Some schema =
    ap (λ n. target_named n held.targets) name ∙ named in
    let marks : marks_location k schema.fields ≡ true =
    sym (ap (λ o. option_map_or (λ (t : TargetSchema). marks_location k t.fields) o false) again) ∙ located in
    let in_fields : location_in schema.fields target.fields ≡ Some location =
    sym (ap (λ o. option_and_then (λ (s : TargetSchema). location_in s.fields target.fields) o) named) ∙ is in
    marked_holds schema.fields target.fields k v location
    (found_tells target.schema held.targets schema tell named).once marks at in_fields

pub location_one : (held : SchemaLists) (target : Target) (location other : List ℕ) → IsLocated held target location
    → IsLocated held target other → location ≡ other
location_one held target location other is also = same_item location other (sym is ∙ also)

pub location_located : (held : SchemaLists) (location : List ℕ) (a : Anchor) (x : Value)
    → is_location_anchor held a ≡ true → LocationSays held location a x
    → LocationSays held location anchor.Location x
location_located held location a x located says = λ e. says located

pub location_alike : (held : SchemaLists) (location : List ℕ) (a b : Anchor) (x : Value) → same_anchor a b ≡ true
    → LocationSays held location b x → LocationSays held location a x
location_alike held location a b x same says =
    subst (λ c. LocationSays held location c x) (sym (same_anchor-is a b same)) says

-- a location that is there
pub record Location (o : Option (List ℕ)) : Type 0 where
  pub text : List ℕ
  pub is : o ≡ Some text

text_there : (of : FieldType) (x : FieldValue) → is_text_field of ≡ true → field_fits of x ≡ true
    → Location (text_in_field x)
text_there of_type.Int x e fit = absurd cc
text_there of_type.Bool x e fit = absurd cc
text_there of_type.Text (field.Int z) e fit = absurd cc
text_there of_type.Text (field.Bool b) e fit = absurd cc
text_there of_type.Text (field.Text s) e fit = record { text = s; is = refl }

located_by : (b t : Bool) (x : FieldValue) (rest : Option (List ℕ)) (any : Bool) → ((b && t) || any) ≡ true
    → (t ≡ true → Location (text_in_field x)) → (any ≡ true → Location rest)
    → Location (cond (b && t) (text_in_field x) rest)
located_by true true x rest any some own more = own refl
located_by true false x rest any some own more = more some
located_by false t x rest any some own more = more some

located_in : (fields : List Field) (values : List FieldValue) → fields_fit fields values ≡ true
    → list_any is_location fields ≡ true → Location (location_in fields values)
located_in [] values fit some = absurd cc
located_in (f ∷ fs) [] fit some = absurd cc
located_in (f ∷ fs) (x ∷ xs) fit some =
    let parts = and_both (field_fits f.of x) (fields_fit fs xs) fit in
    located_by f.location (is_text_field f.of) x (location_in fs xs) (list_any is_location fs) some
    (λ t. text_there f.of x t parts.0) (λ rest. located_in fs xs parts.1 rest)

-- a target that fits its schema has a location
pub has_location : (held : SchemaLists) → AllByRecursion TellsLocation held.targets
    → (schema : TargetSchema) (target : Target) → target_named target.schema held.targets ≡ Some schema
    → fields_fit schema.fields target.fields ≡ true → Location (location_of held target)
has_location held tell schema target named fit =
    let found = located_in schema.fields target.fields fit
    (found_tells target.schema held.targets schema tell named).some in
    record {
      text = found.text;
      is = ap (λ o. option_and_then (λ (s : TargetSchema). location_in s.fields target.fields) o) named ∙ found.is;
    }

-- ---- columns that tell the location

both_say : (held : SchemaLists) (location other : List ℕ) (o : Option Anchor) (x : Value)
    → option_map_or (is_location_anchor held) o false ≡ true → SaysIf (LocationSays held) location o x
    → SaysIf (LocationSays held) other o x → location ≡ other
both_say held location other None x e left right = absurd cc
both_say held location other (Some a) x e left right =
    let same : value.Text location ≡ value.Text other = sym (left e) ∙ right e in
    cc

-- a column that is located tells the location
pub location_told : (held : SchemaLists) (columns : List Column) → list_any (is_located held) columns ≡ true
    → Tell (LocationSays held) columns
location_told held columns any location other cells left right =
    let found = found_in (LocationSays held) location other (is_located held) columns cells left right any in
    both_say held location other found.column.anchor found.cell found.passes found.left found.right

-- ---- columns that tell the target tell its location too

-- the marked field's place
record Marked (fields : List Field) : Type 0 where
  place : ℕ
  marks : marks_location place fields ≡ true

marked_by : (b t any : Bool) (f : Field) (fs : List Field) → f.location ≡ b → ((b && t) || any) ≡ true
    → (any ≡ true → Marked fs) → Marked (f ∷ fs)
marked_by true t any f fs e some more = record { place = 0; marks = e }
marked_by false t any f fs e some more =
    let rest = more some in
    record { place = suc rest.place; marks = rest.marks }

marked_place : (fields : List Field) → list_any is_location fields ≡ true → Marked fields
marked_place [] some = absurd cc
marked_place (f ∷ fs) some =
    marked_by f.location (is_text_field f.of) (list_any is_location fs) f fs refl some (λ rest. marked_place fs rest)

-- a column that is anchored as wanted, among those that have all fields
has_field : (name : List ℕ) (next : ℕ) (fields : List Field) (columns : List Column) (k : ℕ)
    → have_fields name next fields columns ≡ true → marks_location k fields ≡ true
    → list_any (is_anchored (anchor.Field name (next + k))) columns ≡ true
has_field name next [] columns k have marks = absurd cc
has_field name next (f ∷ fs) columns zero have marks =
    let parts = and_both (list_any (is_anchored (anchor.Field name next)) columns) (have_fields name (next + 1) fs columns)
    have in
    subst (λ n. list_any (is_anchored (anchor.Field name n)) columns ≡ true) (omega arith) parts.0
has_field name next (f ∷ fs) columns (suc k) have marks =
    let parts = and_both (list_any (is_anchored (anchor.Field name next)) columns) (have_fields name (next + 1) fs columns)
    have in
    subst (λ n. list_any (is_anchored (anchor.Field name n)) columns ≡ true) (omega arith)
    (has_field name (next + 1) fs columns k parts.1 marks)

located_anchor : (held : SchemaLists) (wanted : Anchor) (o : Option Anchor) → is_location_anchor held wanted ≡ true
    → option_map_or (same_anchor wanted) o false ≡ true → option_map_or (is_location_anchor held) o false ≡ true
located_anchor held wanted None located e = absurd cc
located_anchor held wanted (Some a) located e =
    subst (λ b. is_location_anchor held b ≡ true) (same_anchor-is wanted a e) located

any_more : (b c any other : Bool) → (b || any) ≡ true → (b ≡ true → c ≡ true) → (any ≡ true → other ≡ true)
    → (c || other) ≡ true
any_more true true any other e own more = refl
any_more true false any other e own more = absurd (let f : false ≡ true = own refl in cc)
any_more false true any other e own more = refl
any_more false false any other e own more = more e

any_located : (held : SchemaLists) (wanted : Anchor) (columns : List Column) → is_location_anchor held wanted ≡ true
    → list_any (is_anchored wanted) columns ≡ true → list_any (is_located held) columns ≡ true
any_located held wanted [] located any = absurd cc
any_located held wanted (c ∷ cs) located any =
    any_more (is_anchored wanted c) (is_located held c) (list_any (is_anchored wanted) cs)
    (list_any (is_located held) cs) any (λ e. located_anchor held wanted c.anchor located e)
    (λ rest. any_located held wanted cs located rest)

schema_located : (held : SchemaLists) → AllByRecursion TellsLocation held.targets → (name : List ℕ)
    → (columns : List Column) (o : Option TargetSchema) → target_named name held.targets ≡ o
    → option_map_or (λ (t : TargetSchema). have_fields name 0 t.fields columns) o false ≡ true
    → list_any (is_located held) columns ≡ true
schema_located held tell name columns None named have = absurd cc
schema_located held tell name columns (Some kept) named have =
    let marked = marked_place kept.fields (found_tells name held.targets kept tell named).some in
    let wanted = anchor.Field name (0 + marked.place) in
    let here : 0 + marked.place ≡ marked.place = omega arith in
    let located : is_location_anchor held wanted ≡ true =
    ap (λ o. option_map_or (λ (t : TargetSchema). marks_location (0 + marked.place) t.fields) o false) named
    ∙ ap (λ n. marks_location n kept.fields) here ∙ marked.marks in
    any_located held wanted columns located (has_field name 0 kept.fields columns marked.place have marked.marks)

named_located : (held : SchemaLists) → AllByRecursion TellsLocation held.targets → (columns : List Column)
    → (o : Option Anchor) → option_map_or (names_target held columns) o false ≡ true
    → list_any (is_located held) columns ≡ true
named_located held tell columns None e = absurd cc
named_located held tell columns (Some anchor.Location) e = absurd cc
named_located held tell columns (Some (anchor.Field name place)) e =
    schema_located held tell name columns (target_named name held.targets) refl e

any_given : (p : Column → Bool) (truth : Bool) (columns : List Column) → ((c : Column) → p c ≡ true → truth ≡ true)
    → list_any p columns ≡ true → truth ≡ true
any_given p truth [] step any = absurd cc
any_given p truth (c ∷ cs) step any = given_by (p c) (list_any p cs) truth any (step c) (any_given p truth cs step)
  where
    given_by : (b any truth : Bool) → (b || any) ≡ true → (b ≡ true → truth ≡ true) → (any ≡ true → truth ≡ true)
        → truth ≡ true
    given_by true any truth e own more = own refl
    given_by false any truth e own more = more e

pub target_located : (held : SchemaLists) → AllByRecursion TellsLocation held.targets → (columns : List Column)
    → tell_target held columns ≡ true → list_any (is_located held) columns ≡ true
target_located held tell columns tells =
    any_given (λ column. option_map_or (names_target held columns) column.anchor false)
    (list_any (is_located held) columns) columns (λ c e. named_located held tell columns c.anchor e) tells
