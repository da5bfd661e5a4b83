use Rattle.std.proofs.Common.{rules, ◌∙◌, filter, not, ap}
use Rattle.std.proofs.lemmas.Fn.{filter_same}
use Rattle.mon_value.specs.Turns.{ends_before}
use Rattle.mon_value.specs.declared.rows.Row.{Row}
use Rattle.leaf_store.proofs.replays.standing_rows.Goals as goal

pub returns : goal.returns
returns c = record {
  standing = c.from_vec.ensures.items
      ∙ filter_same _ (λ (row : Row). not (ends_before c.args.before row)) _ (λ x b f' k. search rules) _ _
      c.retain.ensures.filtered
      ∙ ap (filter (λ (row : Row). not (ends_before c.args.before row))) c.into_vec-standing.ensures.items;
}
