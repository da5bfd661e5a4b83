-- The first of the faults of two lists.
use Rattle.std.proofs.Common.{◌≡◌, ◌∙◌, ap, sym, List, [], ◌∷◌, ◌++◌, Option, Some, refl}
use Rattle.typed_trees.specs.declared.faults.TypeFault.{TypeFault}
use Rattle.typed_trees.specs.Faults.{earlier_fault, first_with}

-- the faults of one list and then those of another are looked through one after another
pub first_with-append : (found : Option TypeFault) (xs ys : List TypeFault)
    → first_with found (xs ++ ys) ≡ first_with (first_with found xs) ys
first_with-append found [] ys = refl
first_with-append found (x ∷ xs) ys = first_with-append (Some (earlier_fault found x)) xs ys

-- three lists of faults are looked through one after another
pub first_with-three : (found next last : Option TypeFault) (xs ys zs : List TypeFault) → next ≡ first_with found xs
    → last ≡ first_with next ys → first_with last zs ≡ first_with found (xs ++ (ys ++ zs))
first_with-three found next last xs ys zs e f =
    ap (λ first. first_with first zs) f ∙ ap (λ first. first_with (first_with first ys) zs) e
    ∙ sym (first_with-append (first_with found xs) ys zs) ∙ sym (first_with-append found xs (ys ++ zs))

pub ruleset faults = (first_with-append)
