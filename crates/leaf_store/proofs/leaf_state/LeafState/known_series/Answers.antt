use Rattle.std.proofs.Common.{◌≡◌, ◌∙◌, List, Some, true, false, refl, slice_get, ap, subst}
use Rattle.std.specs.Prelude.{is_some}
use Rattle.mon_hints.specs.Hints.{history_buckets}
use Rattle.mon_hints.specs.Formulas.{is_among}
use Rattle.mon_value.specs.LeafHistories.{replica_rows, last_end, points_of, series_of}
use Rattle.mon_value.specs.declared.rows.Row.{Row}
use Rattle.leaf_store.specs.LeafStates.{is_unraised, key_buckets, LeafView}
use Rattle.leaf_store.specs.within.Replicas.{HoldsHistory, shown_entries}
use Rattle.leaf_store.specs.within.States.{history_inside, left_of}
use Rattle.leaf_store.proofs.FollowLemmas.{settled_holds}
use Rattle.leaf_store.proofs.KnownLemmas.{holds_buckets, known_left}
use Rattle.leaf_store.proofs.SeriesNumberLemmas.{found_number}
use Rattle.leaf_store.proofs.StepLemmas.{rows_there}
use Rattle.leaf_store.proofs.leaf_state.LeafState.known_series.Goals as goal

pub returns-in_default-clause-exact : goal.returns-in_default-clause-exact
returns-in_default-clause-exact c = λ told opened.
    let leaf = c.self.inside in
    let history = c.args.self.now.history in
    let settled : leaf.settled ≡ true = ap (λ (v : LeafView). v.settled) c.self.view_is ∙ told in
    let holds : HoldsHistory leaf.replicas.entries history =
    subst (λ (v : LeafView). HoldsHistory leaf.replicas.entries v.history) c.self.view_is
    (settled_holds leaf.replicas.entries (shown_entries leaf.replicas.entries leaf.kept.items) (left_of leaf)
    c.self.invariant.holds.holds (c.self.invariant.waits settled)) in
    ap is_some c.in_default.ensures.last
    ∙ ap (λ (rows : List Row). is_some (last_end (points_of c.args.key.now rows)))
    (rows_there c.args.range c.args.slot leaf.replicas.entries history (holds c.args.range c.args.slot) opened)

pub returns-clause-number : goal.returns-clause-number
returns-clause-number c =
    let leaf = c.self.inside in
    let number = c.in-Some.found.number in
    subst (λ (v : LeafView). slice_get (series_of (replica_rows c.args.range c.args.slot v.history)) number
    ≡ Some c.args.key.now) c.self.view_is
    (found_number leaf.replicas.entries (shown_entries leaf.replicas.entries leaf.kept.items) (left_of leaf)
    c.args.range c.args.slot c.args.key.now number c.self.invariant.holds.holds c.in-Some.ensures.number)

pub returns-clause-raised : goal.returns-clause-raised
returns-clause-raised c =
    let leaf = c.self.inside in
    let key = c.args.key.now in
    let buckets_of = key_buckets leaf.buckets leaf.schemas in
    let holds = holds_buckets buckets_of leaf.replicas.entries
    (λ bucket. is_among bucket (history_buckets buckets_of (history_inside leaf)))
    (shown_entries leaf.replicas.entries leaf.kept.items) (left_of leaf) c.self.invariant.holds.holds (λ bucket. refl)
    in
    λ yes bucket. subst (λ (v : LeafView). is_unraised v.buckets v.schemas v.history key bucket ≡ false)
    c.self.view_is
    (known_left buckets_of leaf.replicas.entries _ (record { range = c.args.range; slot = c.args.slot }) key holds
    c.in-Some.ensures.has bucket)

pub returns-clause-exact : goal.returns-clause-exact
returns-clause-exact c = λ told opened.
    let leaf = c.self.inside in
    let history = c.args.self.now.history in
    let settled : leaf.settled ≡ true = ap (λ (v : LeafView). v.settled) c.self.view_is ∙ told in
    let holds : HoldsHistory leaf.replicas.entries history =
    subst (λ (v : LeafView). HoldsHistory leaf.replicas.entries v.history) c.self.view_is
    (settled_holds leaf.replicas.entries (shown_entries leaf.replicas.entries leaf.kept.items) (left_of leaf)
    c.self.invariant.holds.holds (c.self.invariant.waits settled)) in
    ap is_some c.in-Some.ensures.last
    ∙ ap (λ (rows : List Row). is_some (last_end (points_of c.args.key.now rows)))
    (rows_there c.args.range c.args.slot leaf.replicas.entries history (holds c.args.range c.args.slot) opened)
