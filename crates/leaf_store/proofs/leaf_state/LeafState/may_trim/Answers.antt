use Rattle.std.proofs.Common.{rules, ◌≡◌, ◌∙◌, true, false, ap, subst}
use Rattle.leaf_store.specs.LeafStates.{LeafView}
use Rattle.leaf_store.specs.within.Replicas.{HoldsHistory, shown_entries}
use Rattle.leaf_store.specs.within.States.{left_of}
use Rattle.mon_value.specs.LeafHistories.{is_down}
use Rattle.leaf_store.proofs.FollowLemmas.{opened_there, settled_holds, was_opened}
use Rattle.leaf_store.proofs.leaf_state.LeafState.may_trim.Goals as goal

pub returns-clause-may : goal.returns-clause-may
returns-clause-may c =
    let leaf = c.self.inside in
    let settled : leaf.settled ≡ true = ap (λ (v : LeafView). v.settled) c.self.view_is ∙ c.requires.settled in
    let holds : HoldsHistory leaf.replicas.entries c.args.self.now.history =
    subst (λ (v : LeafView). HoldsHistory leaf.replicas.entries v.history) c.self.view_is
    (settled_holds leaf.replicas.entries (shown_entries leaf.replicas.entries leaf.kept.items) (left_of leaf)
    c.self.invariant.holds.holds (c.self.invariant.waits settled)) in
    let up : is_down c.args.self.now.history ≡ false = search rules in
    λ yes. (
      up,
      was_opened leaf.replicas.entries c.args.self.now.history c.args.replica holds
          (c.is_new.ensures.held (search rules)),
    )

pub returns-clause-refused : goal.returns-clause-refused
returns-clause-refused c =
    let leaf = c.self.inside in
    let settled : leaf.settled ≡ true = ap (λ (v : LeafView). v.settled) c.self.view_is ∙ c.requires.settled in
    let holds : HoldsHistory leaf.replicas.entries c.args.self.now.history =
    subst (λ (v : LeafView). HoldsHistory leaf.replicas.entries v.history) c.self.view_is
    (settled_holds leaf.replicas.entries (shown_entries leaf.replicas.entries leaf.kept.items) (left_of leaf)
    c.self.invariant.holds.holds (c.self.invariant.waits settled)) in
    λ no up opened. opened_there leaf.replicas.entries c.args.self.now.history c.args.replica holds opened
    (c.is_new.ensures.new (search rules))
