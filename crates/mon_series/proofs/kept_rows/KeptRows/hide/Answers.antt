use Rattle.std.proofs.Common.{◌≡◌, ◌∙◌, ℤ, ap, filter, map, not, refl, to_z, of_z, w64, rules}
use Rattle.mon_value.specs.Turns.{ends_before}
use Rattle.mon_value.specs.declared.rows.Row.{Row}
use Rattle.mon_series.specs.SeriesMaps.{hidden_held, series_held}
use Rattle.mon_series.specs.SlotViews.{SlotView}
use Rattle.mon_series.specs.within.Hidden.{hiding, stands}
use Rattle.mon_series.specs.within.Places.{rows_at_places}
use Rattle.mon_series.proofs.HiddenRows.{hides_early, hiding_keeps}
use Rattle.mon_series.proofs.IndexedLemmas.{stays_kept}
use Rattle.mon_series.proofs.kept_rows.KeptRows.hide.Goals as goal

pub invariant_of-self : goal.invariant_of-self
invariant_of-self c =
    stays_kept c.self.invariant (λ metric. refl)
    (ap series_held c.hide_in_all.ensures.hidden ∙ hiding_keeps _ c.self.inside.series.entries c.self.invariant.rising) refl

pub returns-clause-rows : goal.returns-clause-rows
returns-clause-rows c =
    ap (λ groups. rows_at_places groups c.self.inside.order.items)
    (ap series_held c.hide_in_all.ensures.hidden ∙ hiding_keeps _ c.self.inside.series.entries c.self.invariant.rising)
    ∙ ap (λ (seen : SlotView). seen.rows) c.self.view_is

pub returns-clause-kept : goal.returns-clause-kept
returns-clause-kept c =
    let entries = c.self.inside.series.entries in
    let places = c.self.inside.order.items in
    let before : to_z w64 (of_z w64 c.args.before) ≡ c.args.before = search rules in
    let hidden = c.hide_in_all.ensures.hidden ∙ ap (λ (b : ℤ). map (hiding b) entries) before in
    let same = ap series_held hidden ∙ hiding_keeps c.args.before entries c.self.invariant.rising in
    (λ i. filter (stands (hidden_held (hidden i))) (rows_at_places (same i) places))
    ∙ hides_early c.args.before entries (rows_at_places (series_held entries) places) c.self.invariant.placed.grouped
    ∙ ap (λ (seen : SlotView). filter (λ (row : Row). not (ends_before c.args.before row)) seen.kept) c.self.view_is
