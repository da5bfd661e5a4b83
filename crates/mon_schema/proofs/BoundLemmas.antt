-- Bounds that rise.
use Rattle.std.proofs.Common.{◌≡◌, ◌&&◌, ℤ, true, List, ◌∷◌, int_lt, ap}
use Rattle.mon_value.specs.Groups.{bounds_rise}

-- a bound that is above the one before it
pub rise_more : (last item : ℤ) (more : List ℤ) → int_lt last item ≡ true → bounds_rise (last ∷ item ∷ more)
    ≡ bounds_rise (item ∷ more)
rise_more last item more above = ap (λ b. b && bounds_rise (item ∷ more)) above
