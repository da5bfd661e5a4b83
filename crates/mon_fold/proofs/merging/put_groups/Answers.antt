use Rattle.std.proofs.Common.{◌≡◌, ◌∷◌, [], ◌+◌, arith, List, slice_get, drop, length, sym, ap, subst, ◌∙◌, rules}
use Rattle.std.proofs.lemmas.List.{drop_more}
use Rattle.std.specs.List.{IsDistinct}
use Rattle.std.specs.Map.{keys_of}
use Rattle.std.specs.Vec.Iter.{into_iter_items}
use Rattle.mon_value.specs.Same.{same_row}
use Rattle.mon_fold.proofs.KeptGroups.{distinct_behind, distinct_kept, new_after, new_first, new_left}
use Rattle.mon_fold.specs.PartialGroups.{CanMergeGroups, merged_groups, new_to, PartialGroup}
use Rattle.mon_fold.proofs.merging.put_groups.Goals as goal

pub loop-key-init : goal.loop-key-init
loop-key-init c =
    let listed : c.entries-key-items.result.now ≡ c.args.others.now.entries = c.entries-key-items.ensures.entries in
    let copied : into_iter_items c.into_iter-copies.result ≡ c.args.copies.items = search rules in record {
      made = ap (λ (es : List PartialGroup). merged_groups c.args.groups.now.entries es) listed;
      can = subst (λ (es : List PartialGroup). CanMergeGroups c.args.groups.now.entries es) (sym listed) c.requires.can;
      copied = copied ∙ c.requires.copied ∙ ap (λ (es : List PartialGroup). new_to c.args.groups.now.entries es)
          (sym listed);
      room = rw copied c.requires.room;
      counted = search rules;
      distinct = subst (λ (es : List PartialGroup). IsDistinct same_row (keys_of es)) (sym listed)
          (distinct_kept c.args.others.now.entries c.entries-key-items.ensures.unique);
    }

pub put_group-requires : goal.put_group-requires
put_group-requires c =
    let gs = c.loop-key.groups.entries in
    let items : List PartialGroup = c.entries-key-items.result.now in
    let g : PartialGroup = c.loop-key-item.result in
    let rest : List PartialGroup = drop (c.loop-key.key-index + 1) items in
    let next : drop c.loop-key.key-index items ≡ g ∷ rest = drop_more items c.loop-key.key-index g
    (omega (arith, c.loop-key-test.true)) ∙ ap (λ (e : PartialGroup). e ∷ rest) (sym c.loop-key-item.is) in
    let copied = c.loop-key.invariant.copied ∙ ap (λ (es : List PartialGroup). new_to gs es) next in
    let can = subst (λ (es : List PartialGroup). CanMergeGroups gs es) next c.loop-key.invariant.can in record {
      can = can.0;
      room = c.loop-key.invariant.room;
      counted = c.loop-key.invariant.counted;
      next = λ absent. ap (λ (items : List PartialGroup). slice_get items 0) copied ∙ new_first gs g rest absent;
    }

pub loop-key-preserved : goal.loop-key-preserved
loop-key-preserved c =
    let gs = c.loop-key.groups.entries in
    let items : List PartialGroup = c.entries-key-items.result.now in
    let g : PartialGroup = c.loop-key-item.result in
    let rest : List PartialGroup = drop (c.loop-key.key-index + 1) items in
    let next : drop c.loop-key.key-index items ≡ g ∷ rest = drop_more items c.loop-key.key-index g
    (omega (arith, c.loop-key-test.true)) ∙ ap (λ (e : PartialGroup). e ∷ rest) (sym c.loop-key-item.is) in
    let copied = c.loop-key.invariant.copied ∙ ap (λ (es : List PartialGroup). new_to gs es) next in
    let can = subst (λ (es : List PartialGroup). CanMergeGroups gs es) next c.loop-key.invariant.can in
    let distinct = subst (λ (es : List PartialGroup). IsDistinct same_row (keys_of es)) next
    c.loop-key.invariant.distinct in
    let put = c.put_group.ensures.put in record {
      made = ap (λ (es : List PartialGroup). merged_groups es rest) put
          ∙ ap (λ (es : List PartialGroup). merged_groups gs es) (sym next) ∙ c.loop-key.invariant.made;
      can = subst (λ (es : List PartialGroup). CanMergeGroups es rest) (sym put) can.1;
      copied = c.put_group.ensures.left
          ∙ ap (λ (items : List PartialGroup). drop (length (new_to gs (g ∷ []))) items) copied
          ∙ new_left gs g rest
          ∙ sym (new_after g gs rest distinct)
          ∙ ap (λ (es : List PartialGroup). new_to es rest) (sym put);
      room = c.put_group.ensures.room;
      counted = c.put_group.ensures.counted;
      distinct = distinct_behind g rest distinct;
    }
