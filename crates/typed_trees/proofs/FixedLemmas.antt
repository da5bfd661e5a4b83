-- Lists of what is fixed.
use Rattle.std.proofs.Common.{ℕ, Bool, true, false, List, [], ◌∷◌, ◌++◌, if◌then◌else◌}
use Rattle.std.specs.List.{AllByRecursion}
use Rattle.mon_value.proofs.PlainLemmas.{all_append}
use Rattle.typed_trees.specs.declared.fixed.Fixed.{Fixed}
use Rattle.typed_trees.specs.FixedColumns.{fixed_names, new_fixed, with_fixed}
use Rattle.typed_trees.specs.Items.{is_taken, with_name, with_names}

all_where : (P : Fixed → Type 0) (b : Bool) (f : Fixed) (rest : List Fixed) → P f → AllByRecursion P rest
    → AllByRecursion P ((if b then [] else f ∷ []) ++ rest)
all_where P true f rest here all = all
all_where P false f rest here all = (here, all)

all_new : (P : Fixed → Type 0) (taken : List (List ℕ)) (fixed : List Fixed) → AllByRecursion P fixed
    → AllByRecursion P (new_fixed taken fixed)
all_new P taken [] all = tt
all_new P taken (f ∷ fixed) all =
    all_where P (is_taken f.column taken) f (new_fixed (with_name taken f.column) fixed) all.0
    (all_new P (with_name taken f.column) fixed all.1)

-- what holds of all that is fixed in either list holds of what is fixed in both together
pub all_with_fixed : (P : Fixed → Type 0) (fixed more : List Fixed) → AllByRecursion P fixed → AllByRecursion P more
    → AllByRecursion P (with_fixed fixed more)
all_with_fixed P fixed more first second =
    all_append P fixed (new_fixed (with_names [] (fixed_names fixed)) more) first
    (all_new P (with_names [] (fixed_names fixed)) more second)
