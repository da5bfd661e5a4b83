use Rattle.std.proofs.Common.{◌≡◌, ◌∙◌, None, arith, is_none, sym, true}
use Rattle.indexmap.specs.IndexMap.{get}
use Rattle.typed_columns.specs.NamedPlaces.{same_name}
use Rattle.typed_columns.proofs.NamedPlaceLemmas.{adds_place, copied_none}
use Rattle.typed_columns.proofs.places.add_place.Goals as goal

pub returns-in_ok-insert : goal.returns-in_ok-insert
returns-in_ok-insert c =
    let absent : is_none c.get.result ≡ true = grind (arith, c.is_none.ensures, c.if-is_none.true) in
    let none : get same_name c.args.places.now c.args.name ≡ None = sym c.get.ensures.value
    ∙ copied_none c.get.result absent in
    record {
      added = adds_place c.args.places.now c.insert.new.self c.args.name c.args.place none
          c.in_ok-insert.ensures.updates;
    }
