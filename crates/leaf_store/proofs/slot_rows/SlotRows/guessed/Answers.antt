use Rattle.std.proofs.Common.{rules, ◌≡◌, ◌∙◌, ◌++◌, Some, true, slice_get, sym, ap, subst}
use Rattle.mon_value.proofs.SameLemmas.{eq-same_series, same_series-Decides}
use Rattle.mon_value.specs.Same.{same_series}
use Rattle.mon_value.specs.LeafHistories.{last_end, points_of, series_of}
use Rattle.mon_series.specs.SlotViews.{SlotView}
use Rattle.leaf_store.proofs.GuessLemmas.{guessed_series, if_any, if_some_is}
use Rattle.leaf_store.proofs.slot_rows.SlotRows.guessed.Goals as goal

pub returns-clause-number : goal.returns-clause-number
returns-clause-number c =
    let key = c.args.key.now in
    let own = c.entry.result.0.now in
    let tested : same_series own key ≡ true = sym (eq-same_series own key) ∙ (search rules) in
    let same : own ≡ key = (same_series-Decides own key).0 tested in
    let found = guessed_series c.self.inside.rows.rows c.args.number own key (c.entry.result.1.now.hidden ++ c.entry.result.1.now.points)
    c.entry.ensures.all same in
    if_any c.last.result (subst (λ (held : SlotView). slice_get (series_of held.rows) c.args.number ≡ Some key)
    c.self.view_is found.0)

pub returns-clause-last : goal.returns-clause-last
returns-clause-last c =
    let key = c.args.key.now in
    let own = c.entry.result.0.now in
    let tested : same_series own key ≡ true = sym (eq-same_series own key) ∙ (search rules) in
    let same : own ≡ key = (same_series-Decides own key).0 tested in
    let found = guessed_series c.self.inside.rows.rows c.args.number own key (c.entry.result.1.now.hidden ++ c.entry.result.1.now.points)
    c.entry.ensures.all same in
    if_some_is c.last.result (last_end (points_of key c.args.self.now.rows))
    (c.last.ensures.last ∙ ap last_end found.1
    ∙ ap (λ (held : SlotView). last_end (points_of key held.rows)) c.self.view_is)
