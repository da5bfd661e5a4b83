use Rattle.std.proofs.Common.{◌≡◌, ◌∙◌, ◌+◌, ◌++◌, [], List, drop, ap, sym, append-nil, arith}
use Rattle.std.proofs.lemmas.List.{drop_all}
use Rattle.std.specs.List.{filter_map}
use Rattle.standing.specs.DueLists.{Mark, due_of}
use Rattle.standing.specs.declared.dues.Due.{Due}
use Rattle.standing.proofs.DueLemmas.{dues_more}
use Rattle.standing.proofs.dues.dues_of.Goals as goal

pub loop-mark-preserved : goal.loop-mark-preserved
loop-mark-preserved c =
    let queries = c.args.queries.now in
    let marks = c.args.marks.now in
    let i = c.loop-mark.mark-index in
    ap (λ (ds : List Due). ds ++ filter_map (due_of queries) (drop (i + 1) marks)) c.in_ok-push_due.ensures.due
    ∙ dues_more queries marks i _ c.loop-mark.dues c.loop-mark-test.true
    ∙ c.loop-mark.invariant

pub returns : goal.returns
returns c =
    let marks = c.args.marks.now in
    let i = c.loop-mark.mark-index in
    let none : drop i marks ≡ [] = drop_all i marks (omega (arith, c.loop-mark-test.false)) in
    record {
      dues = sym (append-nil c.loop-mark.dues)
          ∙ ap (λ (ms : List Mark). c.loop-mark.dues ++ filter_map (due_of c.args.queries.now) ms) (sym none)
          ∙ c.loop-mark.invariant;
    }
