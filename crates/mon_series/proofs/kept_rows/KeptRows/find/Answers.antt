use Rattle.std.proofs.Common.{rules, ◌≡◌, ◌∙◌, None, Some, position, sym, ap, to_z, of_z, w64}
use Rattle.std.specs.Map.{keys_of, lookup}
use Rattle.mon_value.specs.Same.{same_series}
use Rattle.mon_value.specs.LeafHistories.{last_end}
use Rattle.mon_series.specs.SeriesPoints.{all_points}
use Rattle.mon_series.specs.SlotViews.{SlotView}
use Rattle.mon_series.proofs.HeldLemmas.{held_entry, held_first, none_held}
use Rattle.mon_series.proofs.KeptLemmas.{found_none, found_points, last_none}
use Rattle.mon_series.proofs.kept_rows.KeptRows.find.Goals as goal
use Rattle.mon_value.proofs.SameLemmas.{same_series-test}

pub returns-in_default-clause-last : goal.returns-in_default-clause-last
returns-in_default-clause-last c =
    let key = c.args.key.now in
    let entries = c.self.inside.series.entries in
    let none : lookup (same_series key) entries ≡ None = ap (λ test. lookup test entries) (sym (same_series-test key))
    ∙ sym c.in_default.ensures.value in
    sym (ap last_end (found_none c.self.invariant.placed (ap (λ (seen : SlotView). seen.rows) c.self.view_is) key (none_held all_points key entries none)))

pub returns-in_default-clause-none : goal.returns-in_default-clause-none
returns-in_default-clause-none c =
    let key = c.args.key.now in
    let entries = c.self.inside.series.entries in
    let none : lookup (same_series key) entries ≡ None = ap (λ test. lookup test entries) (sym (same_series-test key))
    ∙ sym c.in_default.ensures.value in
    found_none c.self.invariant.placed (ap (λ (seen : SlotView). seen.rows) c.self.view_is) key (none_held all_points key entries none)

pub returns-in_default-last-clause-last : goal.returns-in_default-last-clause-last
returns-in_default-last-clause-last c =
    let key = c.args.key.now in
    let entries = c.self.inside.series.entries in
    let number = c.in-Some.number in
    let series = c.in-Some.series.now in
    let other = c.in-Some.field-0-1.now in
    let at = ap (λ test. position test (keys_of entries)) (sym (same_series-test key)) ∙ sym c.in-Some.ensures.index in
    let found = found_points c.self.invariant.placed (ap (λ (seen : SlotView). seen.rows) c.self.view_is) key number other (all_points series)
    (held_first key entries number at) (held_entry all_points entries number other series c.in-Some.ensures.entry) in
    c.in_default-last.ensures.last ∙ ap last_end (sym found.1)

pub returns-in_default-last-clause-none : goal.returns-in_default-last-clause-none
returns-in_default-last-clause-none c =
    let key = c.args.key.now in
    let entries = c.self.inside.series.entries in
    let number = c.in-Some.number in
    let series = c.in-Some.series.now in
    let other = c.in-Some.field-0-1.now in
    let at = ap (λ test. position test (keys_of entries)) (sym (same_series-test key)) ∙ sym c.in-Some.ensures.index in
    let found = found_points c.self.invariant.placed (ap (λ (seen : SlotView). seen.rows) c.self.view_is) key number other (all_points series)
    (held_first key entries number at) (held_entry all_points entries number other series c.in-Some.ensures.entry) in
    found.1 ∙ last_none (all_points series) c.in_default-last.ensures.last

pub returns-clause-number : goal.returns-clause-number
returns-clause-number c =
    let key = c.args.key.now in
    let entries = c.self.inside.series.entries in
    let number = c.in-Some.number in
    let series = c.in-Some.series.now in
    let other = c.in-Some.field-0-1.now in
    let at = ap (λ test. position test (keys_of entries)) (sym (same_series-test key)) ∙ sym c.in-Some.ensures.index in
    (found_points c.self.invariant.placed (ap (λ (seen : SlotView). seen.rows) c.self.view_is) key number other (all_points series)
    (held_first key entries number at) (held_entry all_points entries number other series c.in-Some.ensures.entry)).0

pub returns-clause-last : goal.returns-clause-last
returns-clause-last c =
    let key = c.args.key.now in
    let entries = c.self.inside.series.entries in
    let number = c.in-Some.number in
    let series = c.in-Some.series.now in
    let other = c.in-Some.field-0-1.now in
    let at = ap (λ test. position test (keys_of entries)) (sym (same_series-test key)) ∙ sym c.in-Some.ensures.index in
    let found = found_points c.self.invariant.placed (ap (λ (seen : SlotView). seen.rows) c.self.view_is) key number other (all_points series)
    (held_first key entries number at) (held_entry all_points entries number other series c.in-Some.ensures.entry) in
    let plain : to_z w64 (of_z w64 c.in-Some-last.last) ≡ c.in-Some-last.last = search rules in
    ap (λ n. Some n) plain ∙ c.in-Some-last.ensures.last ∙ ap last_end (sym found.1)
