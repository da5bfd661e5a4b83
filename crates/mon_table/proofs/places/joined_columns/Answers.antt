use Rattle.std.proofs.Common.{◌∙◌, ◌++◌, List, ap, append-nil, sym, ℕ}
use Rattle.std.proofs.lemmas.List.{at_drop_all}
use Rattle.std.specs.List.{filter_map, slice_get}
use Rattle.mon_value.specs.declared.columns.Column.{Column}
use Rattle.mon_table.proofs.PlaceLemmas.{own_columns}
use Rattle.mon_table.proofs.places.joined_columns.Goals as goal

pub returns : goal.returns
returns c =
    let lefts = c.args.lefts.now in
    let rights = c.args.rights.now in
    let made = c.loop-place.columns in
    record {
      columns = sym (append-nil made)
          ∙ sym (at_drop_all (λ (left : List ℕ). made ++ filter_map (slice_get rights) left) c.args.own.now
          c.loop-place.place-index c.loop-place-test.false)
          ∙ c.loop-place.invariant
          ∙ ap (λ (own : List ℕ). lefts ++ filter_map (slice_get rights) own) c.requires.own
          ∙ ap (λ (columns : List Column). lefts ++ columns) (own_columns lefts rights);
    }
