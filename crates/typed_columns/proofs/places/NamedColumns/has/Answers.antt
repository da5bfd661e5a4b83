use Rattle.std.proofs.Common.{◌∙◌, ap, is_some, sym}
use Rattle.typed_columns.proofs.NamedPlaceLemmas.{has_name-place}
use Rattle.typed_columns.proofs.places.NamedColumns.has.Goals as goal

pub returns : goal.returns
returns c =
    record {
      had = c.is_some.ensures ∙ ap is_some c.place.ensures.place
          ∙ sym (has_name-place c.args.name.now c.args.self.now);
    }
