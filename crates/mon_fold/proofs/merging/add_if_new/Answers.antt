use Rattle.std.proofs.Common.{◌++◌, ◌∷◌, [], List, sym, ◌∙◌}
use Rattle.mon_fold.proofs.KeptGroups.{with_none, with_one}
use Rattle.mon_fold.specs.PartialGroups.{PartialGroup}
use Rattle.mon_fold.proofs.merging.add_if_new.Goals as goal

pub returns-then-contains_key : goal.returns-then-contains_key
returns-then-contains_key c =
    let g : PartialGroup = (c.args.key.now, c.args.parts.now) in
    with_none g c.args.groups.now.entries c.args.copies.now.items (sym c.contains_key.ensures ∙ c.if-contains_key.true)

pub returns : goal.returns
returns c =
    let g : PartialGroup = (c.args.key.now, c.args.parts.now) in
    let old : List PartialGroup = c.args.copies.now.items in
    let key = c.in_ok-copy.ensures.equal in
    let parts = c.in_ok-copy-2.ensures.equal in
    c.in_ok-push.ensures.items
    ∙ (λ i. old ++ (key i, parts i) ∷ [])
    ∙ with_one g c.args.groups.now.entries old (sym c.contains_key.ensures ∙ c.if-contains_key.false)
