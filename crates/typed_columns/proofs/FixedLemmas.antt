-- Columns by the names of what is fixed.
use Rattle.std.proofs.Common.{◌≡◌, ◌∙◌, ◌||◌, Bool, true, false, cond, ℕ, List, [], ◌∷◌, ◌++◌, filter, refl, sym, ap}
use Rattle.std.proofs.Common.{append_assoc, append-nil}
use Rattle.std.proofs.lemmas.List.Folds.{list_any-append}
use Rattle.std.specs.Cmp.Lexicographic.{nat_list_eq_equiv}
use Rattle.std.specs.List.{list_any}
use Rattle.mon_value.proofs.PlainLemmas.{or_false, or_assoc}
use Rattle.mon_value.proofs.SameLemmas.{same_text-Decides}
use Rattle.mon_value.specs.Same.{same_text}
use Rattle.mon_value.specs.declared.columns.Column.{Column}
use Rattle.typed_trees.specs.declared.fixed.Fixed.{Fixed}
use Rattle.typed_trees.specs.FixedColumns.{fixed_columns, fixed_names, new_fixed, with_fixed}
use Rattle.typed_trees.specs.Items.{is_taken, with_name, with_names}

-- a name that is taken already takes no other
one_name : (b : Bool) (other name : List ℕ) (taken : List (List ℕ)) → same_text other name ≡ b
    → is_taken name taken ≡ true → (is_taken other taken || b) ≡ is_taken other taken
one_name false other name taken same there = or_false (is_taken other taken)
one_name true other name taken same there =
    let is : other ≡ name = (same_text-Decides other name).0 same in
    let here : is_taken other taken ≡ true = ap (λ n. is_taken n taken) is ∙ there in
    ap (λ b. b || true) here ∙ sym here

-- a name more
taken_more : (b : Bool) (other name : List ℕ) (taken : List (List ℕ)) → is_taken name taken ≡ b
    → is_taken other (cond b taken (taken ++ name ∷ [])) ≡ (is_taken other taken || same_text other name)
taken_more true other name taken there = sym (one_name (same_text other name) other name taken refl there)
taken_more false other name taken there =
    list_any-append (same_text other) taken (name ∷ [])
    ∙ ap (λ (b : Bool). is_taken other taken || b) (or_false (same_text other name))

-- what is taken behind what is fixed
taken_by : (name : List ℕ) (taken : List (List ℕ)) (fixed : List Fixed)
    → is_taken name (with_names taken (fixed_names fixed))
    ≡ (is_taken name taken || list_any (λ (f : Fixed). same_text f.column name) fixed)
taken_by name taken [] = sym (or_false (is_taken name taken))
taken_by name taken (f ∷ fixed) =
    let rest = list_any (λ (g : Fixed). same_text g.column name) fixed in
    taken_by name (with_name taken f.column) fixed
    ∙ ap (λ (b : Bool). b || rest) (taken_more (is_taken f.column taken) name f.column taken refl)
    ∙ or_assoc (is_taken name taken) (same_text name f.column) rest
    ∙ ap (λ (b : Bool). is_taken name taken || (b || rest)) (nat_list_eq_equiv.symm name f.column)

-- the columns of the names of what is fixed
pub fixed_columns-named : (columns : List Column) (fixed : List Fixed)
    → filter (λ (column : Column). is_taken column.name (with_names [] (fixed_names fixed))) columns
    ≡ fixed_columns columns fixed
fixed_columns-named [] fixed = refl
fixed_columns-named (c ∷ cs) fixed =
    ap (λ b. cond b (c ∷ filter (λ (column : Column). is_taken column.name (with_names [] (fixed_names fixed))) cs)
    (filter (λ (column : Column). is_taken column.name (with_names [] (fixed_names fixed))) cs)) (taken_by c.name [] fixed)
    ∙ ap (λ rest. cond (list_any (λ (f : Fixed). same_text f.column c.name) fixed) (c ∷ rest) rest)
    (fixed_columns-named cs fixed)

-- nothing new is fixed
pub with_nothing : (fixed more : List Fixed) → new_fixed (with_names [] (fixed_names fixed)) more ≡ []
    → fixed ≡ with_fixed fixed more
with_nothing fixed more none = sym (ap (λ rest. fixed ++ rest) none ∙ append-nil fixed)

pub ruleset found_first = (append_assoc)
