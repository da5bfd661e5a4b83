use Rattle.std.proofs.Common.{rules, ◌≡◌, ◌∙◌, ◌-◌, ◌<◌, ℕ, List, [], true, ap, arith, get_or, length}
use Rattle.std.proofs.lemmas.List.{get_or_read}
use Rattle.mon_value.specs.declared.positions.RangeSlot.{RangeSlot}
use Rattle.query_traces.specs.Rounds.{has_leaf, slots_on}
use Rattle.query_traces.specs.Rounds as spec
use Rattle.query_traces.proofs.RoundLemmas.{slots_at, slots_count, within_zone}
use Rattle.query_traces.proofs.rounds.Round.slots.Goals as goal

pub returns-then-has_leaf-clause-slots : goal.returns-then-has_leaf-clause-slots
returns-then-has_leaf-clause-slots c =
    let inside = c.self.inside in
    let leaf = c.args.leaf in
    let place : ℕ = leaf.0 - inside.area.first_leaf.0 in
    let has : has_leaf inside.area leaf ≡ true = search rules in
    let count : length inside.slots.items ≡ inside.area.leaves =
    ap length c.self.invariant.slots ∙ slots_count inside.area inside.resolved in
    let there : place < length inside.slots.items = omega (arith, count, within_zone inside.area leaf has) in
    let read : c.index.result.now ≡ get_or inside.slots.items place [] =
    get_or_read inside.slots.items _ _ there c.index.ensures [] in
    read
    ∙ ap (λ (slots : List (List RangeSlot)). get_or slots place []) c.self.invariant.slots
    ∙ slots_at inside.area inside.resolved leaf has
    ∙ ap (λ (round : spec.Round). slots_on leaf round.resolved) c.self.view_is
