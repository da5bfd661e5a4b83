use Rattle.std.proofs.Common.{◌≡◌, ◌∙◌, ◌-◌, ◌∷◌, ℕ, drop, suc, sym, ap, arith}
use Rattle.std.specs.List.{list_any}
use Rattle.standing_incr.specs.NeededRows.{is_earlier, needed_rows}
use Rattle.standing_incr.specs.Needs.{is_before_by, is_met_by}
use Rattle.standing_incr.proofs.NeedLemmas.{behind_more, drop_at, found_more}
use Rattle.standing_incr.proofs.needs.needed_backwards.Goals as goal

pub loop-number-preserved : goal.loop-number-preserved
loop-number-preserved c =
    let rows = c.args.rows.now in
    let met = is_met_by c.args.needs.now in
    let before = is_before_by c.args.needs.now in
    let start = c.args.needs.now.start in
    let n = c.loop-number.number in
    let place : ℕ = n - 1 in
    let some = c.loop-number-test.true in
    let next : suc place ≡ n = omega arith in
    let within = c.loop-number.invariant.within in
    let row = c.in_ok-row.row in
    let rest = drop n rows in
    let left : drop place rows ≡ row ∷ rest =
    drop_at rows place row c.in_ok-row.ensures.row ∙ ap (λ (k : ℕ). row ∷ drop k rows) next in
    record {
      within = omega arith;
      found =
          found_more met before start row rest c.loop-number.needed.items c.look_at.new.needed.items _
          (c.loop-number.invariant.behind row.key) c.loop-number.invariant.found c.in_ok-look_at.ensures.needed
          ∙ ap (needed_rows met before start) (sym left);
      behind =
          λ key. behind_more met before start row rest key _ _ (c.in_ok-look_at.ensures.behind key)
          (c.loop-number.invariant.behind key)
          ∙ ap (list_any (is_earlier met before start key)) (sym left);
    }
