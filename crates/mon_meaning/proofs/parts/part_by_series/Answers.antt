use Rattle.std.proofs.Common.{◌∙◌, ◌+◌, ℕ, IfErr, ap, subst}
use Rattle.std.proofs.lemmas.Result.{on_ok_weaker}
use Rattle.typed_trees.specs.Nodes.{node_tree}
use Rattle.mon_meaning.specs.Central.{all_held}
use Rattle.mon_meaning.specs.Counts.{TellsOver}
use Rattle.mon_meaning.proofs.PartLemmas.{part_load, part_ready, rows_told}
use Rattle.mon_meaning.proofs.parts.part_by_series.Goals as goal

pub rows_of-requires : goal.rows_of-requires
rows_of-requires c = record {
  ready = part_ready c.args.grid (node_tree c.args.part.now) (all_held c.args.series.now) c.requires.asked;
}

pub returns : goal.returns
returns c =
    let part = node_tree c.args.part.now in
    let series = all_held c.args.series.now in
    let load = c.args.meter.now.load in
    record {
      rows = λ source kept. rows_told c.args.grid part series source kept c.rows_of.result c.rows_of.ensures.rows;
      limit = c.rows_of.ensures.limit;
      counted = λ source kept.
          on_ok_weaker c.rows_of.result
          (λ counted. counted ∙ ap (λ n. load + n) (part_load c.args.grid part series source kept))
          c.rows_of.ensures.counted;
      over = λ source kept.
          subst (λ (n : ℕ). IfErr c.rows_of.result (TellsOver c.args.meter.now.limit (load + n)))
          (part_load c.args.grid part series source kept) c.rows_of.ensures.over;
    }
