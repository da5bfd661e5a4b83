use Rattle.std.proofs.Common.{rules, ◌≡◌, ◌∙◌, ℤ, to_z, of_z, w64, ap}
use Rattle.mon_value.specs.Order.{sorted_list}
use Rattle.standing.specs.DueLists.{due_marks, mark_cmp}
use Rattle.standing.proofs.MarkLemmas.{marks_sorted}
use Rattle.standing.proofs.marks.due_marks.Goals as goal

pub returns : goal.returns
returns c =
    let sort = c.sort_unstable.ensures in
    let same : to_z w64 (of_z w64 c.args.moment) ≡ c.args.moment = search rules in
    record {
      marks = marks_sorted c.in_ok-marks.marks.items c.sort_unstable.new.self.items sort.permutation sort.sorted
          ∙ ap (sorted_list mark_cmp) c.in_ok-marks.ensures.marks
          ∙ ap (λ (z : ℤ). due_marks c.args.last z c.args.queries.now) same;
    }
