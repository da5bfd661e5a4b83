use Rattle.std.proofs.Common.{◌≡◌, ◌∷◌, ◌++◌, ◌+◌, List, arith, drop, sym, ap, ◌∙◌}
use Rattle.std.proofs.lemmas.List.{drop_more}
use Rattle.mon_fold.proofs.KeptGroups.{copy_put, distinct_kept}
use Rattle.mon_fold.specs.PartialGroups.{PartialGroup}
use Rattle.mon_fold.proofs.merging.copied_groups.Goals as goal

pub loop-key-preserved : goal.loop-key-preserved
loop-key-preserved c =
    let copied = c.loop-key.copied in
    let all : List PartialGroup = c.args.groups.now.entries in
    let items : List PartialGroup = c.entries-key-items.result.now in
    let g : PartialGroup = c.loop-key-item.result in
    let rest : List PartialGroup = drop (c.loop-key.key-index + 1) items in
    let next : drop c.loop-key.key-index items ≡ g ∷ rest = drop_more items c.loop-key.key-index g
    (omega (arith, c.loop-key-test.true)) ∙ ap (λ (e : PartialGroup). e ∷ rest) (sym c.loop-key-item.is) in
    let whole : copied.entries ++ g ∷ rest ≡ all = ap (λ (left : List PartialGroup). copied.entries ++ left) (sym next)
    ∙ c.loop-key.invariant in
    let distinct = distinct_kept all c.entries-key-items.ensures.unique in
    copy_put copied c.in_ok-copy.field-0 g.0 c.in_ok-copy-2.field-0 g.1 rest all c.insert.new.self.entries
    c.in_ok-copy.ensures.equal c.in_ok-copy-2.ensures.equal c.in_ok-insert.ensures.entries whole distinct
