-- The orders of values and of targets are total, and tell apart what is not equal.
use Rattle.std.proofs.Common.{◌≡◌, ℕ, ℤ, pos, Bool, true, false, List, [], ◌∷◌, refl, sym, ap, subst}
use Rattle.std.specs.Cmp.{IsTotalOrder, bool_cmp_total}
use Rattle.std.specs.Cmp.Lexicographic.{slice_cmp}
use Rattle.std.specs.declared.cmp.Ordering.{Ordering}
use Rattle.std.specs.declared.cmp.Ordering.TheVariants.{Less, Equal, Greater}
use Rattle.std.specs.Ordering.{nat_cmp, int_cmp, bool_cmp, ordering_then, on, then_cmp}
use Rattle.std.proofs.lemmas.Cmp.{nat_cmp_total, int_cmp_total, nat_list_cmp_total, lists_total, on_total, then_total}
use Rattle.std.proofs.lemmas.Map.Lookups.{exact_signed, exact_bytes}
use Rattle.mon_value.specs.declared.rows.Target.{Target}
use Rattle.mon_value.specs.declared.values.FieldValue.{FieldValue}
use Rattle.mon_value.specs.declared.values.FieldValue.TheVariants as field
use Rattle.mon_value.specs.declared.values.Value.{Value}
use Rattle.mon_value.specs.declared.values.Value.TheVariants as value
use Rattle.mon_value.specs.Order.{text_cmp, value_cmp, field_as_value, field_cmp, target_cmp, TellsApart}

-- ---- an order that is another one everywhere has its laws

same_total : {K : Type 0} (R S : K → K → Ordering) → ((a b : K) → R a b ≡ S a b) → IsTotalOrder S → IsTotalOrder R
same_total {K} R S e o = subst (λ (order : K → K → Ordering). IsTotalOrder order) (λ i a b. sym (e a b) i) o

-- ---- values as the number of their kind and what they hold

abbrev kind_of : Value → ℕ
kind_of (value.Int z) = 0
kind_of (value.Bool p) = 1
kind_of (value.Text s) = 2
kind_of (value.Dist counts) = 3

abbrev number_in : Value → ℤ
number_in (value.Int z) = z
number_in (value.Bool p) = pos 0
number_in (value.Text s) = pos 0
number_in (value.Dist counts) = pos 0

abbrev truth_in : Value → Bool
truth_in (value.Int z) = false
truth_in (value.Bool p) = p
truth_in (value.Text s) = false
truth_in (value.Dist counts) = false

abbrev list_in : Value → List ℕ
list_in (value.Int z) = []
list_in (value.Bool p) = []
list_in (value.Text s) = s
list_in (value.Dist counts) = counts

abbrev by_parts : Value → Value → Ordering
by_parts = then_cmp (on kind_of nat_cmp) (then_cmp (on number_in int_cmp) (then_cmp (on truth_in bool_cmp)
    (on list_in text_cmp)))

by_parts_total : IsTotalOrder by_parts
by_parts_total =
    then_total (on_total kind_of nat_cmp_total) (then_total (on_total number_in int_cmp_total)
    (then_total (on_total truth_in bool_cmp_total) (on_total list_in nat_list_cmp_total)))

then-Equal : (o : Ordering) → o ≡ ordering_then o Equal
then-Equal Less = refl
then-Equal Equal = refl
then-Equal Greater = refl

value_cmp-by_parts : (a b : Value) → value_cmp a b ≡ by_parts a b
value_cmp-by_parts (value.Int y) (value.Int z) = then-Equal (int_cmp y z)
value_cmp-by_parts (value.Int y) (value.Bool q) = refl
value_cmp-by_parts (value.Int y) (value.Text t) = refl
value_cmp-by_parts (value.Int y) (value.Dist others) = refl
value_cmp-by_parts (value.Bool p) (value.Int z) = refl
value_cmp-by_parts (value.Bool p) (value.Bool q) = then-Equal (bool_cmp p q)
value_cmp-by_parts (value.Bool p) (value.Text t) = refl
value_cmp-by_parts (value.Bool p) (value.Dist others) = refl
value_cmp-by_parts (value.Text s) (value.Int z) = refl
value_cmp-by_parts (value.Text s) (value.Bool q) = refl
value_cmp-by_parts (value.Text s) (value.Text t) = refl
value_cmp-by_parts (value.Text s) (value.Dist others) = refl
value_cmp-by_parts (value.Dist counts) (value.Int z) = refl
value_cmp-by_parts (value.Dist counts) (value.Bool q) = refl
value_cmp-by_parts (value.Dist counts) (value.Text t) = refl
value_cmp-by_parts (value.Dist counts) (value.Dist others) = refl

pub value_total : IsTotalOrder value_cmp
value_total = same_total value_cmp by_parts value_cmp-by_parts by_parts_total

exact_truths : TellsApart bool_cmp
exact_truths true true h = refl
exact_truths true false h = cc
exact_truths false true h = cc
exact_truths false false h = refl

pub exact_values : TellsApart value_cmp
exact_values (value.Int y) (value.Int z) h = ap value.Int (exact_signed y z h)
exact_values (value.Int y) (value.Bool q) h = cc
exact_values (value.Int y) (value.Text t) h = cc
exact_values (value.Int y) (value.Dist others) h = cc
exact_values (value.Bool p) (value.Int z) h = cc
exact_values (value.Bool p) (value.Bool q) h = ap value.Bool (exact_truths p q h)
exact_values (value.Bool p) (value.Text t) h = cc
exact_values (value.Bool p) (value.Dist others) h = cc
exact_values (value.Text s) (value.Int z) h = cc
exact_values (value.Text s) (value.Bool q) h = cc
exact_values (value.Text s) (value.Text t) h = ap value.Text (exact_bytes s t h)
exact_values (value.Text s) (value.Dist others) h = cc
exact_values (value.Dist counts) (value.Int z) h = cc
exact_values (value.Dist counts) (value.Bool q) h = cc
exact_values (value.Dist counts) (value.Text t) h = cc
exact_values (value.Dist counts) (value.Dist others) h = ap value.Dist (exact_bytes counts others h)

-- ---- fields and targets

pub field_total : IsTotalOrder field_cmp
field_total = on_total field_as_value value_total

pub target_total : IsTotalOrder target_cmp
target_total = then_total (on_total (λ (a : Target). a.schema) nat_list_cmp_total) (on_total (λ (a : Target). a.fields)
    (lists_total field_total))

pub same_fields : (a b : FieldValue) → field_as_value a ≡ field_as_value b → a ≡ b
same_fields (field.Int y) (field.Int z) h = cc
same_fields (field.Int y) (field.Bool q) h = cc
same_fields (field.Int y) (field.Text t) h = cc
same_fields (field.Bool p) (field.Int z) h = cc
same_fields (field.Bool p) (field.Bool q) h = cc
same_fields (field.Bool p) (field.Text t) h = cc
same_fields (field.Text s) (field.Int z) h = cc
same_fields (field.Text s) (field.Bool q) h = cc
same_fields (field.Text s) (field.Text t) h = cc

exact_fields : TellsApart field_cmp
exact_fields a b h = same_fields a b (exact_values (field_as_value a) (field_as_value b) h)

-- where two answers make `Equal`, both are
pub both_Equal : (o p : Ordering) → ordering_then o p ≡ Equal → (o ≡ Equal) × (p ≡ Equal)
both_Equal Less p h = cc
both_Equal Equal p h = (refl, h)
both_Equal Greater p h = cc

pub exact_lists : {K : Type 0} (order : K → K → Ordering) → TellsApart order → TellsApart (slice_cmp order)
exact_lists order exact [] [] h = refl
exact_lists order exact [] (y ∷ ys) h = cc
exact_lists order exact (x ∷ xs) [] h = cc
exact_lists order exact (x ∷ xs) (y ∷ ys) h =
    let both = both_Equal (order x y) (slice_cmp order xs ys) h in
    let first = exact x y both.0 in
    let rest = exact_lists order exact xs ys both.1 in
    cc

pub exact_targets : TellsApart target_cmp
exact_targets a b h =
    let both = both_Equal (text_cmp a.schema b.schema) (slice_cmp field_cmp a.fields b.fields) h in
    let schema = exact_bytes a.schema b.schema both.0 in
    let fields = exact_lists field_cmp exact_fields a.fields b.fields both.1 in
    λ i. record { schema = schema i; fields = fields i }
