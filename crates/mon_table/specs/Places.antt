-- Where the columns of two tables stand that a join compares, and those that it keeps.
use Rattle.std.specs.Prelude.{ℕ, ◌+◌, Bool, true, List, [], ◌∷◌, ◌++◌, set, if◌then◌else◌}
use Rattle.std.specs.List.{flat_map}
use Rattle.mon_value.specs.Tables.{has_name}
use Rattle.mon_value.specs.Same.{same_text}
use Rattle.mon_value.specs.declared.columns.Column.{Column}

-- the place of a left column, once for each right column of its name
abbrev pub left_places_of : List ℕ → ℕ → List Column → List ℕ
left_places_of name place [] = []
left_places_of name place (column ∷ columns) =
    if same_text name column.name then place ∷ left_places_of name place columns
    else left_places_of name place columns

-- the places of the right columns of a name; the columns are those from place `next` on
abbrev pub right_places_of : List ℕ → ℕ → List Column → List ℕ
right_places_of name next [] = []
right_places_of name next (column ∷ columns) =
    if same_text name column.name then next ∷ right_places_of name (next + 1) columns
    else right_places_of name (next + 1) columns

-- of each two columns of one name the place in the left table; the left columns are those from place `next` on
abbrev pub left_places : ℕ → List Column → List Column → List ℕ
left_places next [] rights = []
left_places next (column ∷ columns) rights =
    left_places_of column.name next rights ++ left_places (next + 1) columns rights

-- and the place in the right table
abbrev pub right_places : List Column → List Column → List ℕ
right_places lefts rights = flat_map (λ column. right_places_of column.name 0 rights) lefts

-- the places of the right columns that have a name of their own; the columns are those from place `next` on
abbrev pub own_places : ℕ → List Column → List Column → List ℕ
own_places next lefts [] = []
own_places next lefts (column ∷ columns) =
    if has_name column.name lefts then own_places (next + 1) lefts columns
    else next ∷ own_places (next + 1) lefts columns

-- marks by place, with one at each of these places
abbrev pub marked : List ℕ → List Bool → List Bool
marked [] marks = marks
marked (place ∷ places) marks = marked places (set marks place true)

-- the places without a mark; the marks are those from place `next` on
abbrev pub unmarked : ℕ → List Bool → List ℕ
unmarked next [] = []
unmarked next (mark ∷ marks) = if mark then unmarked (next + 1) marks else next ∷ unmarked (next + 1) marks
