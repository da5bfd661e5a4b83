-- Cells that are made one for each column, and lists that are made of others.
use Rattle.std.proofs.Common.{◌≡◌, ◌∙◌, ◌≤◌, ℕ, zero, suc, ◌+◌, ◌^◌, Bool, true, false, cond, Option, Some, None, List}
use Rattle.std.proofs.Common.{[], ◌∷◌, ◌++◌, map, length, refl, ap, sym, arith}
use Rattle.std.specs.Prelude.{slice_get}
use Rattle.std.specs.List.{AllByRecursion, cons_option, filter, filter_map, sum_by, zip}
use Rattle.std.proofs.lemmas.List.Sums.{sum_by-cons}
use Rattle.mon_value.specs.Tables.{FitColumns, HasType, Named}
use Rattle.mon_value.specs.Values.{magnitude}
use Rattle.mon_value.specs.declared.columns.Column.{Column}
use Rattle.mon_value.specs.declared.values.Value.{Value}
use Rattle.mql_ast.specs.Rows.{FitWidths}
use Rattle.mon_value.proofs.PlainLemmas.{nothing_is, same_item}

-- ---- what there is

abbrev pub IsThere : {A : Type 0} → Option A → Type 0
IsThere None = ⊥
IsThere (Some x) = Unit {0}

pub is_there : {A : Type 0} (o : Option A) (x : A) → o ≡ Some x → IsThere o
is_there None x e = absurd (nothing_is x e)
is_there (Some y) x e = tt

-- ---- a cell for each column

-- a column and a cell that are both there, and fit each other
abbrev pub MadeCell : Option Column → Option Value → Type 0
MadeCell None cell = ⊥
MadeCell (Some column) None = ⊥
MadeCell (Some column) (Some value) = HasType column.of value × (magnitude value ≤ 2 ^ column.cell_bits)

pub cell_there : (o : Option Column) (p : Option Value) → MadeCell o p → IsThere p
cell_there None p made = absurd made
cell_there (Some c) None made = absurd made
cell_there (Some c) (Some x) made = tt

cons_shaped : (o : Option Column) (p : Option Value) (columns : List Column) (cells : List Value) → MadeCell o p
    → FitColumns columns cells → FitColumns (cons_option o columns) (cons_option p cells)
cons_shaped None p columns cells made fit = absurd made
cons_shaped (Some c) None columns cells made fit = absurd made
cons_shaped (Some c) (Some x) columns cells made fit = (made.0, fit)

cons_within : (o : Option Column) (p : Option Value) (columns : List Column) (cells : List Value) → MadeCell o p
    → FitWidths columns cells → FitWidths (cons_option o columns) (cons_option p cells)
cons_within None p columns cells made fit = absurd made
cons_within (Some c) None columns cells made fit = absurd made
cons_within (Some c) (Some x) columns cells made fit = (made.1, fit)

pub made_shaped : {A : Type 0} (f : A → Option Column) (g : A → Option Value) (xs : List A)
    → AllByRecursion (λ x. MadeCell (f x) (g x)) xs → FitColumns (filter_map f xs) (filter_map g xs)
made_shaped f g [] all = tt
made_shaped f g (x ∷ xs) all = cons_shaped (f x) (g x) (filter_map f xs) (filter_map g xs) all.0
    (made_shaped f g xs all.1)

pub made_within : {A : Type 0} (f : A → Option Column) (g : A → Option Value) (xs : List A)
    → AllByRecursion (λ x. MadeCell (f x) (g x)) xs → FitWidths (filter_map f xs) (filter_map g xs)
made_within f g [] all = tt
made_within f g (x ∷ xs) all = cons_within (f x) (g x) (filter_map f xs) (filter_map g xs) all.0
    (made_within f g xs all.1)

-- ---- places

-- what an item at the same place was made into
pub record From {A B : Type 0} (f : A → Option B) (xs : List A) (place : ℕ) (y : B) : Type 0 where
  pub item : A
  pub is : slice_get xs place ≡ Some item
  pub made : f item ≡ Some y

from_cons : {A B : Type 0} (f : A → Option B) (x : A) (xs : List A) (o : Option B) → f x ≡ o → IsThere o
    → ((place : ℕ) (y : B) → slice_get (filter_map f xs) place ≡ Some y → From f xs place y)
    → (place : ℕ) (y : B) → slice_get (cons_option o (filter_map f xs)) place ≡ Some y → From f (x ∷ xs) place y
from_cons f x xs None is there rest place y e = absurd there
from_cons f x xs (Some z) is there rest zero y e = record { item = x; is = refl; made = is ∙ e }
from_cons f x xs (Some z) is there rest (suc place) y e =
    let own = rest place y e in
    record { item = own.item; is = own.is; made = own.made }

pub from_item : {A B : Type 0} (f : A → Option B) (xs : List A) → AllByRecursion (λ x. IsThere (f x)) xs
    → (place : ℕ) (y : B)
    → slice_get (filter_map f xs) place ≡ Some y → From f xs place y
from_item f [] all place y e = absurd (nothing_is y e)
from_item f (x ∷ xs) all place y e = from_cons f x xs (f x) refl all.0 (from_item f xs all.1) place y e

get_cons : {A B : Type 0} (g : A → Option B) (y : A) (ys : List A) (o : Option B) → g y ≡ o → IsThere o
    → ((place : ℕ) (x : A) → slice_get ys place ≡ Some x → slice_get (filter_map g ys) place ≡ g x)
    → (place : ℕ) (x : A) → slice_get (y ∷ ys) place ≡ Some x
    → slice_get (cons_option o (filter_map g ys)) place ≡ g x
get_cons g y ys None is there rest place x e = absurd there
get_cons g y ys (Some z) is there rest zero x e = sym is ∙ ap g (same_item y x e)
get_cons g y ys (Some z) is there rest (suc place) x e = rest place x e

pub get_made : {A B : Type 0} (g : A → Option B) (xs : List A) → AllByRecursion (λ x. IsThere (g x)) xs
    → (place : ℕ) (x : A)
    → slice_get xs place ≡ Some x → slice_get (filter_map g xs) place ≡ g x
get_made g [] all place x e = absurd (nothing_is x e)
get_made g (y ∷ ys) all place x e = get_cons g y ys (g y) refl all.0 (get_made g ys all.1) place x e

-- in which of two lists a place is
pub data Side {A : Type 0} (xs ys : List A) (place : ℕ) (x : A) : Type 0 where
  front : slice_get xs place ≡ Some x → Side xs ys place x
  back : (k : ℕ) → place ≡ length xs + k → slice_get ys k ≡ Some x → Side xs ys place x

side_more : {A : Type 0} (y : A) (xs ys : List A) (place : ℕ) (x : A) → Side xs ys place x
    → Side (y ∷ xs) ys (suc place) x
side_more y xs ys place x (front e) = front e
side_more y xs ys place x (back k is e) = back k (omega (arith, is)) e

pub side_of : {A : Type 0} (xs ys : List A) (place : ℕ) (x : A) → slice_get (xs ++ ys) place ≡ Some x
    → Side xs ys place x
side_of [] ys place x e = back place (omega arith) e
side_of (y ∷ xs) ys zero x e = front e
side_of (y ∷ xs) ys (suc place) x e = side_more y xs ys place x (side_of xs ys place x e)

pub length_fit : (columns : List Column) (cells : List Value) → FitColumns columns cells
    → length cells ≡ length columns
length_fit [] [] fit = refl
length_fit [] (x ∷ xs) fit = absurd fit
length_fit (c ∷ cs) [] fit = absurd fit
length_fit (c ∷ cs) (x ∷ xs) fit = ap (λ n. suc n) (length_fit cs xs fit.1)

-- ---- columns that are kept, with their cells

abbrev pub kept_cells : (Column → Bool) → List Column → List Value → List Value
kept_cells p columns cells = map (λ (cell : Named). cell.1) (filter (λ (cell : Named). p cell.0) (zip columns cells))

kept_shaped_by : (b : Bool) (c : Column) (x : Value) (cs : List Column) (rest : List Named) → HasType c.of x
    → FitColumns cs (map (λ (cell : Named). cell.1) rest)
    → FitColumns (cond b (c ∷ cs) cs) (map (λ (cell : Named). cell.1) (cond b ((c, x) ∷ rest) rest))
kept_shaped_by true c x cs rest h fit = (h, fit)
kept_shaped_by false c x cs rest h fit = fit

kept_within_by : (b : Bool) (c : Column) (x : Value) (cs : List Column) (rest : List Named)
    → magnitude x ≤ 2 ^ c.cell_bits
    → FitWidths cs (map (λ (cell : Named). cell.1) rest)
    → FitWidths (cond b (c ∷ cs) cs) (map (λ (cell : Named). cell.1) (cond b ((c, x) ∷ rest) rest))
kept_within_by true c x cs rest h fit = (h, fit)
kept_within_by false c x cs rest h fit = fit

pub kept_shaped : (p : Column → Bool) (columns : List Column) (cells : List Value) → FitColumns columns cells
    → FitColumns (filter p columns) (kept_cells p columns cells)
kept_shaped p [] [] fit = tt
kept_shaped p [] (x ∷ xs) fit = absurd fit
kept_shaped p (c ∷ cs) [] fit = absurd fit
kept_shaped p (c ∷ cs) (x ∷ xs) fit =
    kept_shaped_by (p c) c x (filter p cs) (filter (λ (cell : Named). p cell.0) (zip cs xs)) fit.0
    (kept_shaped p cs xs fit.1)

pub kept_within : (p : Column → Bool) (columns : List Column) (cells : List Value) → FitColumns columns cells
    → FitWidths columns cells → FitWidths (filter p columns) (kept_cells p columns cells)
kept_within p [] [] shaped fit = tt
kept_within p [] (x ∷ xs) shaped fit = absurd shaped
kept_within p (c ∷ cs) [] shaped fit = absurd shaped
kept_within p (c ∷ cs) (x ∷ xs) shaped fit =
    kept_within_by (p c) c x (filter p cs) (filter (λ (cell : Named). p cell.0) (zip cs xs)) fit.0
    (kept_within p cs xs shaped.1 fit.1)

-- where a column that is kept stands among all
pub record Kept (p : Column → Bool) (columns : List Column) (place : ℕ) (column : Column) : Type 0 where
  pub at : ℕ
  pub is : slice_get columns at ≡ Some column
  pub cell : (cells : List Value) → FitColumns columns cells
      → slice_get (kept_cells p columns cells) place ≡ slice_get cells at

abbrev put_in_front : Column → Value → List Named → Bool → List Value
put_in_front c x rest b = map (λ (cell : Named). cell.1) (cond b ((c, x) ∷ rest) rest)

first_cell : (p : Column → Bool) (c : Column) (cs : List Column) (cells : List Value) → p c ≡ true
    → FitColumns (c ∷ cs) cells
    → slice_get (kept_cells p (c ∷ cs) cells) 0 ≡ slice_get cells 0
first_cell p c cs [] e fit = absurd fit
first_cell p c cs (x ∷ xs) e fit =
    ap (λ b. slice_get (put_in_front c x (filter (λ (cell : Named). p cell.0) (zip cs xs)) b) 0) e

later_cell : (p : Column → Bool) (c : Column) (cs : List Column) (place at : ℕ) (cells : List Value) → p c ≡ true
    → ((xs : List Value) → FitColumns cs xs → slice_get (kept_cells p cs xs) place ≡ slice_get xs at)
    → FitColumns (c ∷ cs) cells
    → slice_get (kept_cells p (c ∷ cs) cells) (suc place) ≡ slice_get cells (suc at)
later_cell p c cs place at [] e rest fit = absurd fit
later_cell p c cs place at (x ∷ xs) e rest fit =
    ap (λ b. slice_get (put_in_front c x (filter (λ (cell : Named). p cell.0) (zip cs xs)) b) (suc place)) e
    ∙ rest xs fit.1

other_cell : (p : Column → Bool) (c : Column) (cs : List Column) (place at : ℕ) (cells : List Value) → p c ≡ false
    → ((xs : List Value) → FitColumns cs xs → slice_get (kept_cells p cs xs) place ≡ slice_get xs at)
    → FitColumns (c ∷ cs) cells
    → slice_get (kept_cells p (c ∷ cs) cells) place ≡ slice_get cells (suc at)
other_cell p c cs place at [] e rest fit = absurd fit
other_cell p c cs place at (x ∷ xs) e rest fit =
    ap (λ b. slice_get (put_in_front c x (filter (λ (cell : Named). p cell.0) (zip cs xs)) b) place) e ∙ rest xs fit.1

kept_by_test : (p : Column → Bool) (c : Column) (cs : List Column) (b : Bool) → p c ≡ b
    → ((place : ℕ) (column : Column) → slice_get (filter p cs) place ≡ Some column → Kept p cs place column)
    → (place : ℕ) (column : Column) → slice_get (cond b (c ∷ filter p cs) (filter p cs)) place ≡ Some column
    → Kept p (c ∷ cs) place column
kept_by_test p c cs true t rest zero column e =
    record { at = 0; is = e; cell = λ cells fit. first_cell p c cs cells t fit }
kept_by_test p c cs true t rest (suc place) column e =
    let own = rest place column e in
    record { at = suc own.at; is = own.is; cell = λ cells fit. later_cell p c cs place own.at cells t own.cell fit }
kept_by_test p c cs false t rest place column e =
    let own = rest place column e in
    record { at = suc own.at; is = own.is; cell = λ cells fit. other_cell p c cs place own.at cells t own.cell fit }

pub kept_at : (p : Column → Bool) (columns : List Column) (place : ℕ) (column : Column)
    → slice_get (filter p columns) place ≡ Some column → Kept p columns place column
kept_at p [] place column e = absurd (nothing_is column e)
kept_at p (c ∷ cs) place column e = kept_by_test p c cs (p c) refl (kept_at p cs) place column e

-- ---- sums

pub sums_less : {A : Type 0} (f g : A → ℕ) (xs : List A) → AllByRecursion (λ x. f x ≤ g x) xs
    → sum_by f xs ≤ sum_by g xs
sums_less f g [] all = omega arith
sums_less f g (x ∷ xs) all = omega (arith, all.0, sums_less f g xs all.1, sum_by-cons f x xs, sum_by-cons g x xs)

made_more : {B : Type 0} (o : Option B) (count : B → ℕ) (own rest : ℕ) (ys : List B)
    → ((made : B) → o ≡ Some made → count made ≤ own)
    → sum_by count ys ≤ rest → sum_by count (cons_option o ys) ≤ own + rest
made_more None count own rest ys less more = omega (arith, more)
made_more (Some made) count own rest ys less more = omega (arith, less made refl, more, sum_by-cons count made ys)

-- what is made of items counts no more than they do
pub made_sums : {A B : Type 0} (make : A → Option B) (count : B → ℕ) (own : A → ℕ) (xs : List A)
    → AllByRecursion (λ x. (made : B) → make x ≡ Some made → count made ≤ own x) xs
    → sum_by count (filter_map make xs) ≤ sum_by own xs
made_sums make count own [] all = omega arith
made_sums make count own (x ∷ xs) all =
    omega (
      arith,
      made_more (make x) count (own x) (sum_by own xs) (filter_map make xs) all.0
          (made_sums make count own xs all.1),
      sum_by-cons own x xs,
    )

all_cons_option : {B : Type 0} (Q : B → Type 0) (o : Option B) (ys : List B) → ((y : B) → o ≡ Some y → Q y)
    → AllByRecursion Q ys
    → AllByRecursion Q (cons_option o ys)
all_cons_option Q None ys own all = all
all_cons_option Q (Some y) ys own all = (own y refl, all)

-- what holds of all that is made
pub all-filter_map : {A B : Type 0} (P : A → Type 0) (Q : B → Type 0) (f : A → Option B) (xs : List A)
    → ((x : A) (y : B) → P x → f x ≡ Some y → Q y) → AllByRecursion P xs → AllByRecursion Q (filter_map f xs)
all-filter_map P Q f [] step all = tt
all-filter_map P Q f (x ∷ xs) step all =
    all_cons_option Q (f x) (filter_map f xs) (λ y e. step x y all.0 e) (all-filter_map P Q f xs step all.1)
