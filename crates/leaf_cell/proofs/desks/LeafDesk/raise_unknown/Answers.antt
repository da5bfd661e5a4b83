use Rattle.std.proofs.Common.{◌≡◌, true, rules, refl, sym, subst}
use Rattle.leaf_cell.proofs.OpenedLemmas.{raises_no_row}
use Rattle.leaf_cell.specs.Raising.{HasRaisedRow}
use Rattle.leaf_cell.specs.Rest.{GoesBy}
use Rattle.leaf_store.specs.LeafStates.{is_unraised}
use Rattle.leaf_store.specs.LeafStates as store
use Rattle.mon_value.specs.declared.rows.SeriesKey.{SeriesKey}
use Rattle.leaf_cell.proofs.desks.LeafDesk.raise_unknown.Goals as goal

pub returns-in-Some-clause-raised : goal.returns-in-Some-clause-raised
returns-in-Some-clause-raised g c =
    raises_no_row _ c.args.self.now.owner.hints (c.in-Some.ensures.raised refl)

pub returns-in-Some-clause-leads : goal.returns-in-Some-clause-leads
returns-in-Some-clause-leads g c = λ bucket there.
    let none = c.in-Some.ensures.raised refl bucket in absurd cc

pub raise_row-requires : goal.raise_row-requires
raise_row-requires g c = record {
  goes_by = subst (GoesBy g.N.Names.setting g.N.RaiseName.raise) (sym c.known_series.ensures.kept) c.requires.goes_by;
}

pub returns-clause-raised : goal.returns-clause-raised
returns-clause-raised g c =
    let key : c.deref.result.now ≡ c.args.key.now = search rules in
    subst (λ (k : SeriesKey). HasRaisedRow (is_unraised c.args.self.now.state.buckets c.args.self.now.state.schemas
    c.args.self.now.state.history k) c.args.self.now.owner.hints c.raise_row.new.self.owner.hints) key
    (subst (λ (s : store.LeafView). HasRaisedRow (is_unraised s.buckets s.schemas s.history c.deref.result.now)
    c.args.self.now.owner.hints c.raise_row.new.self.owner.hints) c.known_series.ensures.kept c.raise_row.ensures.raised)

pub returns-clause-leads : goal.returns-clause-leads
returns-clause-leads g c =
    let key : c.deref.result.now ≡ c.args.key.now = search rules in
    λ bucket there. c.raise_row.ensures.leads bucket
    (subst (λ (s : store.LeafView). is_unraised s.buckets s.schemas s.history c.deref.result.now bucket ≡ true)
    (sym c.known_series.ensures.kept)
    (subst (λ (k : SeriesKey). is_unraised c.args.self.now.state.buckets c.args.self.now.state.schemas
    c.args.self.now.state.history k bucket ≡ true) (sym key) there))
