-- What holds of a result's value, and so of what follows of it; and what holds of a fault that is handed on.
use Rattle.std.proofs.Common.{◌≡◌, sym, subst}
use Rattle.std.specs.Prelude.{IfOk, Result, Ok, Err}

pub ok_as : {T F : Type 0} (P Q : T → Type 0) (result : Result T F) → ((x : T) → P x → Q x) → IfOk result P
    → IfOk result Q
ok_as P Q (Ok x) follows is = follows x is
ok_as P Q (Err fault) follows is = tt

-- what a call that failed leaves, where its fault is handed on
pub handed_on : {T F : Type 0} (result : Result T F) (P : Result T F → Type 0) (fault : F)
    → (f : F) × (result ≡ Err f) × (f ≡ fault) → P (Err fault) → P result
handed_on {T} {F} result P fault (f, is, same) holds =
    subst P (sym is) (subst (λ (one : F). P (Err one)) (sym same) holds)
