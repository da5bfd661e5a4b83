-- A test of two lists place by place is a test of their pairs.
use Rattle.std.proofs.Common.{◌≡◌, ◌&&◌, Bool, List, [], ◌∷◌, length, refl, ap, arith}
use Rattle.std.specs.Cmp.Lexicographic.{pointwise}
use Rattle.std.specs.List.{list_all, zip}

pub list_all-zip : {A B : Type 0} (test : A → B → Bool) (xs : List A) (ys : List B)
    → length xs ≡ length ys → list_all (λ (p : A × B). test p.0 p.1) (zip xs ys) ≡ pointwise test xs ys
list_all-zip test [] [] long = refl
list_all-zip test [] (y ∷ ys) long = absurd (omega arith)
list_all-zip test (x ∷ xs) [] long = absurd (omega arith)
list_all-zip test (x ∷ xs) (y ∷ ys) long = ap (λ (b : Bool). test x y && b) (list_all-zip test xs ys (omega arith))
