use Rattle.std.proofs.lemmas.List.{nil_from_length}
use Rattle.std.proofs.Common.{◌≡◌, ◌∙◌, ◌++◌, ◌∷◌, [], List, cond, length, append-nil, append_assoc, sym, ap, arith}
use Rattle.std.specs.Vec.Iter.{into_iter_items}
use Rattle.mon_value.specs.declared.columns.Column.{Column}
use Rattle.mon_value.specs.declared.values.Value.{Value}
use Rattle.typed_trees.specs.Meaning.{key_cells}
use Rattle.mon_meaning.proofs.ItemLemmas.{key_cells-cons, key_cells-none, no_columns}
use Rattle.mon_meaning.proofs.value_rows.key_cells.Goals as goal
use Rattle.mon_meaning.proofs.value_rows.key_cells.Goals.{in-None, in-Some+in-None-split_first}

pub loop-cell-init : goal.loop-cell-init
loop-cell-init c =
    let items : into_iter_items c.into_iter-cell-iterator.result ≡ c.args.cells =
    c.into_iter-cell-iterator.ensures.into_iter_gives.0 in
    record {
      whole = ap (λ (keys : List Value). keys ++ key_cells c.args.columns.now
          (into_iter_items c.into_iter-cell-iterator.result))
          c.new-keys.ensures.items
          ∙ ap (λ (cells : List Value). key_cells c.args.columns.now cells) items;
      left = c.into_iter-cell-iterator.ensures.into_iter_gives.1 ∙ sym (ap length items);
    }

pub loop-cell-preserved : goal.loop-cell-preserved
loop-cell-preserved c =
    let keys = c.loop-cell.keys.items in
    let cell : Value = c.in-Some.cell in
    let left : List Value = into_iter_items c.next.new.self in
    let column : Column = c.in-Some-split_first.column.now in
    let more : List Column = c.in-Some-split_first.more.now in
    let next : into_iter_items c.loop-cell.cell-iterator ≡ cell ∷ left = c.in-Some.ensures.steps.0 in
    let split : c.loop-cell.rest.now ≡ column ∷ more = c.in-Some-split_first.ensures.cases.0 in
    let own = cond column.key (cell ∷ []) [] in
    record {
      whole = ap (λ (all : List Value). all ++ key_cells more left) c.in_ok-push_key-in-Some-split_first.ensures.added
          ∙ ap (λ (x : Column). (keys ++ cond x.key (cell ∷ []) []) ++ key_cells more left) c.deref.ensures
          ∙ append_assoc keys own (key_cells more left)
          ∙ ap (λ (all : List Value). keys ++ all) (sym (key_cells-cons column more cell left))
          ∙ sym (ap (λ (columns : List Column). keys ++ key_cells columns (cell ∷ left)) split)
          ∙ sym (ap (λ (cells : List Value). keys ++ key_cells c.loop-cell.rest.now cells) next)
          ∙ c.loop-cell.invariant.whole;
      left = let l = ap length next in let k = c.in-Some.ensures.steps.1 in
          omega (arith, l, k, c.loop-cell.invariant.left);
    }

pub returns : goal.returns
returns c =
    let keys = c.loop-cell.keys.items in
    let rest = c.loop-cell.rest.now in
    let left : List Value = into_iter_items c.loop-cell.cell-iterator in
    elim c.match-next.branch [
      | in-None w ↦ (
          let empty : left ≡ [] = nil_from_length left (sym c.loop-cell.invariant.left ∙ w.in-None.ensures.steps.0) in
          record {
            keys = sym (append-nil keys)
                ∙ ap (λ (more : List Value). keys ++ more) (sym (key_cells-none rest))
                ∙ ap (λ (cells : List Value). keys ++ key_cells rest cells) (sym empty)
                ∙ c.loop-cell.invariant.whole;
          })
      | in-Some+in-None-split_first w ↦ record {
        keys = sym (append-nil keys)
            ∙ ap (λ (more : List Value). keys ++ more)
            (sym (no_columns rest left (nil_from_length rest w.in-None-split_first.ensures.cases)))
            ∙ c.loop-cell.invariant.whole;
      }
    ]
