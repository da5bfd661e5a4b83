use Rattle.std.proofs.Common.{◌≡◌, ◌∙◌, None, Some, ap, rules, slice_get}
use Rattle.placed_rows.specs.Placed.{places_seen}
use Rattle.placed_rows.proofs.SeriesLemmas.{row_there}
use Rattle.placed_rows.proofs.rows.PlacedRows.row.Goals as goal

pub returns-in-Some : goal.returns-in-Some
returns-in-Some c =
    let same : c.as_slice.result.now ≡ c.args.self.now.rows.items = search rules in
    c.row_in.ensures
    ∙ ap (λ rows. slice_get rows c.in-Some.place) same
    ∙ row_there c.args.self.now.rows.items (places_seen c.args.self.now.places.items) c.requires.once c.args.series c.args.n
    (Some c.in-Some.place) c.in-Some.ensures

pub returns-in-None : goal.returns-in-None
returns-in-None c =
    row_there c.args.self.now.rows.items (places_seen c.args.self.now.places.items) c.requires.once c.args.series c.args.n
    None c.in-None.ensures
