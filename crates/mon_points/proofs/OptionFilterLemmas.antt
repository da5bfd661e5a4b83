-- What passes a test.
use Rattle.std.proofs.Common.{◌≡◌, ◌∙◌, ℕ, ℤ, pos, negsuc, ◌&&◌, ◌^◌, int_le, int_lt, List, Bool, true, false, cond}
use Rattle.std.proofs.Common.{Option, Some, None, option_map, refl, sym, ap, subst}
use Rattle.std.specs.Option.{option_zip}
use Rattle.std.proofs.lemmas.Bool.{and_parts, false_from_ne_true, false≢true}
use Rattle.std.proofs.lemmas.Option.{cond_some}
use Rattle.mon_value.specs.declared.schemas.Kind.{Kind}
use Rattle.mon_value.specs.Values.{number_of}
use Rattle.mon_value.specs.declared.limits.TheConstants.{NUMBER_BITS}
use Rattle.mon_value.specs.declared.values.FieldType.TheVariants as type
use Rattle.mon_value.specs.declared.values.FieldValue.TheVariants as field
use Rattle.mon_value.specs.declared.values.ValueType.TheVariants as of
use Rattle.mon_value.specs.declared.values.Value.TheVariants as value
use Rattle.mon_schema.specs.Fits.{counts_fit, field_fits, is_number, is_start, is_time, times_fit, value_fits}
use Rattle.mon_points.specs.Records.{counts_spelled, field_of, int_of, option_filter, times_of, truth_of, value_of}

-- it is there, and it passes
pub option_filter-some : {A : Type 0} (test : A → Bool) (o : Option A) (x : A) → option_filter test o ≡ Some x
    → (test x ≡ true) × (o ≡ Some x)
option_filter-some test None x e = cc
option_filter-some test (Some y) x e =
    let both = cond_some (test y) y x e in
    (subst (λ z. test z ≡ true) both.1 both.0, subst (λ z. Some y ≡ Some z) both.1 refl)

mapped : {A B : Type 0} (f : A → B) (x : A) (b : Bool) → option_map f (cond b (Some x) None) ≡ cond b (Some (f x)) None
mapped f x true = refl
mapped f x false = refl

-- a test of what is made is a test of what it is made of
pub option_filter-map : {A B : Type 0} (f : A → B) (test : B → Bool) (o : Option A)
    → option_filter test (option_map f o) ≡ option_map f (option_filter (λ x. test (f x)) o)
option_filter-map f test None = refl
option_filter-map f test (Some x) = sym (mapped f x (test (f x)))

-- what is always lawful passes
pub option_filter-all : {A : Type 0} (o : Option A) → option_filter (λ x. true) o ≡ o
option_filter-all None = refl
option_filter-all (Some x) = refl

-- a time is a number of 64 bits
time_number : (z : ℤ) → is_time z ≡ true → is_number z ≡ true
time_number (pos n) h = (and_parts (int_le (pos 0) (pos n)) (int_lt (pos n) (pos (2 ^ NUMBER_BITS))) h).1
time_number (negsuc n) h = absurd (false≢true h)

no_time : (z : ℤ) → is_number z ≡ false → is_time z ≡ false
no_time z h = false_from_ne_true (is_time z) (λ t. false≢true (sym h ∙ time_number z t))

and_false : (a b : Bool) → (a && (false && b)) ≡ false
and_false true b = refl
and_false false b = refl

fit_ints : (kind : Kind) (a b : ℤ) (p q : Bool) → is_number a ≡ p → is_number b ≡ q
    → option_filter (λ times. times_fit kind times.0 times.1) (option_zip (cond p (Some a) None) (cond q (Some b) None))
    ≡ cond (times_fit kind a b) (Some (a, b)) None
fit_ints kind a b true true e f = refl
fit_ints kind a b false q e f = rw (no_time a e) refl
fit_ints kind a b true false e f = rw (no_time b f, and_false (is_time a) (is_start kind a b)) refl

zip_none : {A B : Type 0} (o : Option A) → option_zip {U = B} o None ≡ None
zip_none None = refl
zip_none (Some x) = refl

-- times that fit are numbers of 64 bits
pub fit_numbers : (kind : Kind) (a b : Option ℤ)
    → option_filter (λ times. times_fit kind times.0 times.1) (option_zip (option_filter is_number a)
    (option_filter is_number b))
    ≡ option_filter (λ times. times_fit kind times.0 times.1) (option_zip a b)
fit_numbers kind None b = refl
fit_numbers kind (Some a) None = rw (zip_none (option_filter is_number (Some a))) refl
fit_numbers kind (Some a) (Some b) = fit_ints kind a b (is_number a) (is_number b) refl refl

pub times_of-ints : (kind : Kind) (start end : List ℕ)
    → times_of kind start end ≡ option_filter (λ times. times_fit kind times.0 times.1)
    (option_zip (int_of start) (int_of end))
times_of-ints kind start end = sym (fit_numbers kind (number_of start) (number_of end))

-- a number's cell spells a value exactly where it spells a number of 64 bits
pub value_of-int : (text : List ℕ) → value_of of.Int text ≡ option_map (λ z. value.Int z) (int_of text)
value_of-int text = option_filter-map value.Int (value_fits of.Int) (number_of text)

pub value_of-bool : (text : List ℕ) → value_of of.Bool text ≡ option_map (λ b. value.Bool b) (truth_of text)
value_of-bool text =
    option_filter-map value.Bool (value_fits of.Bool) (truth_of text) ∙ ap (option_map value.Bool)
    (option_filter-all (truth_of text))

pub value_of-dist : (bounds : List ℤ) (text : List ℕ)
    → value_of (of.Dist bounds) text ≡ option_map (λ counts. value.Dist counts) (option_filter (counts_fit bounds)
    (counts_spelled text))
value_of-dist bounds text = option_filter-map value.Dist (value_fits (of.Dist bounds)) (counts_spelled text)

pub field_of-int : (text : List ℕ) → field_of type.Int text ≡ option_map (λ z. field.Int z) (int_of text)
field_of-int text = option_filter-map field.Int (field_fits type.Int) (number_of text)

pub field_of-bool : (text : List ℕ) → field_of type.Bool text ≡ option_map (λ b. field.Bool b) (truth_of text)
field_of-bool text =
    option_filter-map field.Bool (field_fits type.Bool) (truth_of text) ∙ ap (option_map field.Bool)
    (option_filter-all (truth_of text))

pub ruleset times = (times_of-ints)

pub ruleset values = (value_of-int, value_of-bool, value_of-dist)

pub ruleset fields = (field_of-int, field_of-bool)
