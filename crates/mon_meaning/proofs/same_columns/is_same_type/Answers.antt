use Rattle.std.proofs.Common.{◌∙◌, ap, sym}
use Rattle.mon_value.specs.declared.values.ValueType.TheVariants as type
use Rattle.mon_meaning.proofs.SameTreeLemmas.{bounds_same}
use Rattle.mon_meaning.proofs.same_columns.is_same_type.Goals as goal

pub returns-in-Dist-other : goal.returns-in-Dist-other
returns-in-Dist-other c = record {
  same = λ e. c.in-Dist.is
      ∙ ap type.Dist (bounds_same c.in-Dist.bounds c.in-Dist-other.others (sym c.eq.ensures ∙ e))
      ∙ sym c.in-Dist-other.is;
}
