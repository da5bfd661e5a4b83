-- Truths beside a truth that is known.
use Rattle.std.proofs.Common.{◌≡◌, Bool, true, false, ◌&&◌, ◌||◌, refl}

pub or_exchanged : (p q r : Bool) → (p || (q || r)) ≡ ((q || p) || r)
or_exchanged true true r = refl
or_exchanged true false r = refl
or_exchanged false true r = refl
or_exchanged false false r = refl

pub or_once : (p q : Bool) → (p || (p || q)) ≡ (p || q)
or_once true q = refl
or_once false q = refl
