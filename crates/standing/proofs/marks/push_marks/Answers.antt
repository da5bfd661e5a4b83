use Rattle.std.proofs.Common.{rules, ◌≡◌, ◌∙◌, ◌-◌, ◌*◌, ◌/◌, ◌+◌, ◌++◌, ℕ, ℤ, List, Option}
use Rattle.std.proofs.Common.{OnOk, map, pos, to_z, of_z, w64}
use Rattle.std.proofs.Common.{subst, ap, sym}
use Rattle.std.specs.List.{range_with_len}
use Rattle.standing.specs.DueLists.{Mark, due_times, marked, seconds}
use Rattle.standing.proofs.marks.push_marks.Goals as goal

pub returns-in-Some : goal.returns-in-Some
returns-in-Some c =
    let n = c.args.number in
    let same_period : to_z w64 (of_z w64 c.args.query.now.period) ≡ c.args.query.now.period = search rules in
    let same_moment : to_z w64 (of_z w64 c.args.moment) ≡ c.args.moment = search rules in
    let same_last : to_z w64 (of_z w64 c.in-Some.last) ≡ c.in-Some.last = search rules in
    let p : c.unsigned_abs-period.result ≡ seconds c.args.query.now.period =
    c.unsigned_abs-period.ensures.value ∙ ap seconds same_period in
    let m : c.unsigned_abs.result ≡ seconds c.args.moment = c.unsigned_abs.ensures.value ∙ ap seconds same_moment in
    let l : c.unsigned_abs-in-Some.result ≡ seconds c.in-Some.last =
    c.unsigned_abs-in-Some.ensures.value ∙ ap seconds same_last in
    let period = c.unsigned_abs-period.result in
    let before = c.unsigned_abs-in-Some.result in
    let total = ap (λ (count : ℕ). marked n (map (λ k. pos (period * k)) (range_with_len (before / period + 1) count)))
    c.saturating_sub-count.ensures
    ∙ (λ i. marked n (map (λ k. pos (p i * k)) (range_with_len (l i / p i + 1) (m i / p i - l i / p i))))
    ∙ ap (λ (last : Option ℤ). marked n (due_times last c.args.moment (seconds c.args.query.now.period)))
    (sym c.in-Some.is) in
    record {
      marks = subst (λ (ms : List Mark). OnOk c.push_multiples.result (c.push_multiples.new.marks.items
          ≡ c.args.marks.now.items ++ ms)) total c.push_multiples.ensures.marks;
    }

pub returns-in-None : goal.returns-in-None
returns-in-None c =
    let n = c.args.number in
    let same_period : to_z w64 (of_z w64 c.args.query.now.period) ≡ c.args.query.now.period = search rules in
    let same_moment : to_z w64 (of_z w64 c.args.moment) ≡ c.args.moment = search rules in
    let p : c.unsigned_abs-period.result ≡ seconds c.args.query.now.period =
    c.unsigned_abs-period.ensures.value ∙ ap seconds same_period in
    let m : c.unsigned_abs.result ≡ seconds c.args.moment = c.unsigned_abs.ensures.value ∙ ap seconds same_moment in
    let total = (λ i. marked n (map (λ k. pos (p i * k)) (range_with_len (m i / p i) 1)))
    ∙ ap (λ (last : Option ℤ). marked n (due_times last c.args.moment (seconds c.args.query.now.period)))
    (sym c.in-None.is) in
    record {
      marks = subst (λ (ms : List Mark). OnOk c.push_multiples-in-None.result (c.push_multiples-in-None.new.marks.items
          ≡ c.args.marks.now.items ++ ms)) total c.push_multiples-in-None.ensures.marks;
    }
