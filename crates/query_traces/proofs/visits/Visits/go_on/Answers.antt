use Rattle.std.proofs.Common.{◌∙◌, List, ap, sym}
use Rattle.mon_value.specs.declared.positions.Leaf.{Leaf}
use Rattle.query_traces.specs.Visits as spec
use Rattle.query_traces.proofs.VisitLemmas.{leaf_next, leaves_left}
use Rattle.query_traces.proofs.visits.Visits.go_on.Goals as goal

pub returns-then-self-len-clause-leaf : goal.returns-then-self-len-clause-leaf
returns-then-self-len-clause-leaf c =
    let inside = c.self.inside in
    sym c.get-leaf.ensures.item ∙ sym (leaf_next inside.leaves inside.begun)
    ∙ ap (λ (visits : spec.Visits). spec.next_leaf visits) c.self.view_is

pub returns-then-self-len-clause-gone : goal.returns-then-self-len-clause-gone
returns-then-self-len-clause-gone c =
    let inside = c.self.inside in
    ap (λ (left : List Leaf). record {
      left = left;
      first = inside.first;
      looks = inside.looks.items;
      answers = inside.answers;
    }) (sym (leaves_left inside.leaves inside.begun))
    ∙ ap (λ (visits : spec.Visits). spec.gone_on visits) c.self.view_is
