use Rattle.std.proofs.Common.{rules, ◌≡◌, ◌∙◌, Option, Some, IfSome, slice_get, sym, ap, subst}
use Rattle.indexmap.specs.Layout.{set_value_at}
use Rattle.mon_series.proofs.FirstLemmas.{on_err, set_same}
use Rattle.mon_value.specs.LeafHistories.{series_of}
use Rattle.mon_series.specs.SlotViews.{SlotView}
use Rattle.leaf_store.specs.within.Replicas.{IsLater, has_row_of, rows_if_held}
use Rattle.leaf_store.proofs.ReplicaLemmas.{is_put, placed_rows}
use Rattle.leaf_store.proofs.replicas.put.Goals as goal

pub put_in-requires : goal.put_in-requires
put_in-requires c =
    let replicas = c.args.replicas.now.entries in
    let replica = c.args.replica in
    let row = c.args.row in
    let slot = c.in-Some-get_index_mut.slot.now in
    let held = placed_rows replicas replica c.in-Some.at slot (sym c.in-Some.ensures.place)
    c.in-Some-get_index_mut.ensures.value in
    let own : Some c.requires.later.0 ≡ Some slot = sym c.requires.later.1 ∙ held in
    let same : c.requires.later.0 ≡ slot = cc in
    record {
      numbered = subst (λ (o : Option SlotView). IfSome c.args.series (λ number.
          slice_get (series_of (rows_if_held o)) number ≡ Some row.key)) held c.requires.numbered;
      later = subst (λ (held : SlotView). IsLater row held.rows) same c.requires.later.2;
    }

pub returns-clause-known : goal.returns-clause-known
returns-clause-known c =
    let replicas = c.args.replicas.now.entries in
    let replica = c.args.replica in
    let slot = c.in-Some-get_index_mut.slot.now in
    let held = placed_rows replicas replica c.in-Some.at slot (sym c.in-Some.ensures.place)
    c.in-Some-get_index_mut.ensures.value in
    c.in_ok-place.ensures.known
    ∙ ap (λ (o : Option SlotView). has_row_of c.args.row.key (rows_if_held o)) (sym held)

pub returns-in_err-place-clause-stayed : goal.returns-in_err-place-clause-stayed
returns-in_err-place-clause-stayed c =
    let entries = c.args.replicas.now.entries in
    let at = c.in-Some.at in
    on_err c.from_residual.result (set_value_at entries at c.put_in.new.slot ≡ entries)
    (ap (set_value_at entries at) c.in_err-place.ensures.kept ∙ set_same entries at c.in-Some-get_index_mut.slot.now
    c.in-Some-get_index_mut.ensures.value)

pub returns-clause-put : goal.returns-clause-put
returns-clause-put c =
    let same : c.in-Ok.number ≡ c.in-Some.at = search rules in
    is_put c.args.replicas.now.entries c.args.replica c.args.row c.in-Some.at c.in_ok-place.place c.in-Ok.number
    c.in-Some-get_index_mut.slot.now c.put_in.new.slot
    (sym c.in-Some.ensures.place) c.in-Some-get_index_mut.ensures.value c.in_ok-place.ensures.place
    c.in_ok-place.ensures.pushed same
