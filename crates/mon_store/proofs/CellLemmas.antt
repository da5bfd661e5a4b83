-- The cell at a place has that place's number, where there is one for each.
use Rattle.std.proofs.Common.{◌≡◌, ℕ, ◌+◌, ◌<◌, List, length, sym, ap, subst, ◌∙◌, arith}
use Rattle.std.specs.List.{range_with_len, slice_index_or}
use Rattle.std.proofs.lemmas.List.FromFn.{get_or-range_with_len, length-range_with_len}

pub cell_there : (cells : List ℕ) (count place : ℕ) → cells ≡ range_with_len 0 count → place < count
    → place < length cells
cell_there cells count place is there =
    subst (λ n. place < n) (sym (ap length is ∙ length-range_with_len 0 count)) there

pub cell_is : (cells : List ℕ) (count place d : ℕ) → cells ≡ range_with_len 0 count → place < count
    → slice_index_or cells place d ≡ place
cell_is cells count place d is there =
    let none : 0 + place ≡ place = omega arith in
    ap (λ (xs : List ℕ). slice_index_or xs place d) is ∙ get_or-range_with_len 0 count place d there ∙ none
