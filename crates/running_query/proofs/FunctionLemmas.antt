-- Steps of the functions' proofs.
use Rattle.std.proofs.Common.{◌≡◌, Ok, Err, OnOk, subst}
use Rattle.std.specs.Prelude.{Result}

pub on_ok_two : {X F : Type 0} (r : Result X F) (A B C : Type 0) → OnOk r A → OnOk r B → (A → B → C) → OnOk r C
on_ok_two (Ok x) A B C a b both = both a b
on_ok_two (Err why) A B C a b both = tt

pub on_at : {X F : Type 0} (r : Result X F) (x : X) (P : Type 0) → r ≡ Ok x → OnOk r P → P
on_at r x P e h = subst (λ s. OnOk s P) e h
