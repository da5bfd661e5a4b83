use Rattle.std.proofs.Common.{rules, ◌≡◌, ◌∙◌, ◌+◌, ◌∷◌, ℤ, pos, List, drop, slice_index_or, int_lt, true, ap, sym}
use Rattle.std.proofs.Common.{subst, to_z, of_z, w64, arith}
use Rattle.std.proofs.lemmas.Int.{ints}
use Rattle.std.proofs.lemmas.List.{drop_more}
use Rattle.mon_value.specs.Groups.{bounds_rise}
use Rattle.mon_schema.specs.Fits.{is_number, AreNumbers}
use Rattle.mon_schema.proofs.BoundLemmas.{rise_more}
use Rattle.mon_schema.proofs.metrics.bounds_rise.Goals as goal

pub loop-bound-preserved : goal.loop-bound-preserved
loop-bound-preserved c =
    let rest = c.in-Some.rest.now in
    let n = c.loop-bound.bound-index in
    let last : ℤ = to_z w64 c.loop-bound.last-bits in
    let item : ℤ = to_z w64 (of_z w64 (slice_index_or rest n (pos 0))) in
    let more : List ℤ = drop (n + 1) rest in
    let plain : item ≡ slice_index_or rest n (pos 0) = search rules in
    let next : drop n rest ≡ item ∷ more = drop_more rest n (pos 0) (omega (arith, c.loop-bound-test.true))
    ∙ ap (λ (z : ℤ). z ∷ more) (sym plain) in
    let above : int_lt last item ≡ true = grind (arith, ints) in
    let number : is_number item ≡ true = search rules in
    record {
      rising = c.loop-bound.invariant.rising ∙ ap (λ (left : List ℤ). bounds_rise (last ∷ left)) next
          ∙ rise_more last item more above;
      numbers = λ later. c.loop-bound.invariant.numbers (subst AreNumbers (sym next) (number, later));
    }
