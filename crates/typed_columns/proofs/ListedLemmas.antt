-- Items that are added where there is one.
use Rattle.std.proofs.Common.{◌≡◌, ◌∙◌, Bool, true, false, not, List, [], ◌∷◌, ◌++◌, map, Option, refl, ap}
use Rattle.std.proofs.Common.{append_assoc, if◌then◌else◌}
use Rattle.std.specs.Prelude.{option_to_list}
use Rattle.std.specs.List.{filter_map}
use Rattle.mon_value.specs.Tables.{has_name, right_columns}
use Rattle.mon_value.specs.declared.columns.Column.{Column}
use Rattle.typed_trees.specs.Branches.{as_joined}
use Rattle.mon_value.proofs.PlainLemmas.{first_given}

-- what was made, with what is made of an item and of those behind it
pub option_to_list-filter_map : {A B : Type 0} (f : A → Option B) (x : A) (xs : List A) (made : List B)
    → (made ++ option_to_list (f x)) ++ filter_map f xs ≡ made ++ filter_map f (x ∷ xs)
option_to_list-filter_map f x xs made =
    append_assoc made (option_to_list (f x)) (filter_map f xs) ∙ ap (λ t. made ++ t) (first_given f x xs (f x) refl)

pub ruleset listed_items = (option_to_list-filter_map)

by_own : (own : Bool) (x : Column) (xs : List Column)
    → map as_joined (if own then x ∷ [] else []) ++ map as_joined xs ≡ map as_joined (if own then x ∷ xs else xs)
by_own true x xs = refl
by_own false x xs = refl

-- a right column, and those behind it
pub right_columns-cons : (lefts : List Column) (x : Column) (xs : List Column) (made : List Column)
    → (made ++ map as_joined (right_columns lefts (x ∷ []))) ++ map as_joined (right_columns lefts xs)
    ≡ made ++ map as_joined (right_columns lefts (x ∷ xs))
right_columns-cons lefts x xs made =
    append_assoc made _ _ ∙ ap (λ t. made ++ t) (by_own (not (has_name x.name lefts)) x (right_columns lefts xs))

pub ruleset right_columns_more = (right_columns-cons)
