use Rattle.std.proofs.Common.{◌≡◌, ◌+◌, ℕ, Bool, ◌||◌, true, List, [], ◌∷◌, ◌++◌, refl, sym, ap, subst, ◌∙◌, take}
use Rattle.std.proofs.lemmas.List.{take_all, take_more}
use Rattle.know.specs.Sound.{known_bits}
use Rattle.leaf_cell.proofs.OpenedLemmas.{lead_both, raises_both, raises_no_row, row_more}
use Rattle.leaf_cell.specs.Raising.{HasRaisedRow, rows_unraised}
use Rattle.leaf_cell.specs.Rest.{GoesBy}
use Rattle.leaf_store.specs.LeafStates.{is_unraised}
use Rattle.leaf_store.specs.LeafStates as store
use Rattle.mon_hints.specs.Covers.{IsRaised}
use Rattle.mon_topo.specs.Settings.{zone_of_leaf}
use Rattle.mon_value.specs.declared.positions.Leaf.{Leaf}
use Rattle.mon_value.specs.declared.rows.Row.{Row}
use Rattle.mon_value.specs.declared.rows.SeriesKey.{SeriesKey}
use Rattle.leaf_cell.proofs.desks.LeafDesk.raise_rows.Goals as goal

pub loop-row-init : goal.loop-row-init
loop-row-init g c = record {
  raised = raises_no_row _ c.args.self.now.owner.hints (λ bucket. refl);
  leads = λ bucket is. absurd cc;
  book = refl;
  leaf = refl;
  state = refl;
}

pub raise_row-requires : goal.raise_row-requires
raise_row-requires g c = record {
  goes_by = subst (GoesBy g.N.Names.setting g.N.RaiseName.raise) (sym c.loop-row.invariant.state) c.requires.goes_by;
}

pub loop-row-preserved : goal.loop-row-preserved
loop-row-preserved g c =
    let setting = g.N.Names.setting in
    let state = c.args.self.now.state in
    let owner = c.args.self.now.owner in
    let rows = c.args.rows.now in
    let i = c.loop-row.row-index in
    let row = c.row-item.result in
    let mid = c.loop-row.self.owner.hints in
    let new = c.raise_row.new.self.owner.hints in
    let more : take (i + 1) rows ≡ take i rows ++ row ∷ [] =
    take_more rows i row c.loop-row-test.true ∙ ap (λ (x : Row). take i rows ++ x ∷ []) (sym c.row-item.is) in
    let first : ℕ → Bool = rows_unraised state.buckets state.schemas state.history (take i rows) in
    let second : ℕ → Bool = is_unraised state.buckets state.schemas state.history row.key in
    let both : ℕ → Bool = rows_unraised state.buckets state.schemas state.history (take (i + 1) rows) in
    let both_is : (bucket : ℕ) → both bucket ≡ (first bucket || second bucket) =
    row_more state.buckets state.schemas state.history (take i rows) (take (i + 1) rows) row more in
    let same : c.loop-row.self.state ≡ state = c.loop-row.invariant.state in
    let key : c.deref.result.now ≡ row.key = c.deref.ensures in
    let leaf : c.raise_row.new.self.owner.leaf ≡ owner.leaf = c.raise_row.ensures.leaf ∙ c.loop-row.invariant.leaf in
    let one : HasRaisedRow second mid new =
    subst (λ (k : SeriesKey). HasRaisedRow (is_unraised state.buckets state.schemas state.history k) mid new) key
    (subst (λ (s : store.LeafView). HasRaisedRow (is_unraised s.buckets s.schemas s.history c.deref.result.now) mid new)
    same c.raise_row.ensures.raised) in
    let leads : (bucket : ℕ) → second bucket ≡ true
    → IsRaised (known_bits setting new.hints) (zone_of_leaf setting owner.leaf) owner.leaf bucket =
    λ bucket is. subst (λ (l : Leaf). IsRaised (known_bits setting new.hints) (zone_of_leaf setting l) l bucket) leaf
    (c.raise_row.ensures.leads bucket
    (subst (λ (s : store.LeafView). is_unraised s.buckets s.schemas s.history c.deref.result.now bucket ≡ true)
    (sym same)
    (subst (λ (k : SeriesKey). is_unraised state.buckets state.schemas state.history k bucket ≡ true) (sym key) is))) in
    record {
      raised = raises_both first second both both_is owner.hints mid new c.loop-row.invariant.raised one;
      leads = lead_both first second both both_is owner.hints mid new c.loop-row.invariant.raised one setting owner.leaf
          c.loop-row.invariant.leads leads;
      book = c.raise_row.ensures.book ∙ c.loop-row.invariant.book;
      leaf = leaf;
      state = c.raise_row.ensures.state ∙ same;
    }

pub returns-clause-raised : goal.returns-clause-raised
returns-clause-raised g c =
    let whole : take c.loop-row.row-index c.args.rows.now ≡ c.args.rows.now =
    take_all c.loop-row.row-index c.args.rows.now c.loop-row-test.false in
    subst (λ (some : List Row). HasRaisedRow (rows_unraised c.args.self.now.state.buckets c.args.self.now.state.schemas
    c.args.self.now.state.history some) c.args.self.now.owner.hints c.loop-row.self.owner.hints) whole
    c.loop-row.invariant.raised

pub returns-clause-leads : goal.returns-clause-leads
returns-clause-leads g c =
    let whole : take c.loop-row.row-index c.args.rows.now ≡ c.args.rows.now =
    take_all c.loop-row.row-index c.args.rows.now c.loop-row-test.false in
    λ bucket is. subst (λ (l : Leaf). IsRaised (known_bits g.N.Names.setting c.loop-row.self.owner.hints.hints)
    (zone_of_leaf g.N.Names.setting l) l bucket) (sym c.loop-row.invariant.leaf)
    (c.loop-row.invariant.leads bucket
    (subst (λ (some : List Row). rows_unraised c.args.self.now.state.buckets c.args.self.now.state.schemas
    c.args.self.now.state.history some bucket ≡ true) (sym whole) is))
