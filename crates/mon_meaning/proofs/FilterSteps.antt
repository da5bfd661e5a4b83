-- A fetch and its filters, found from the alignment down.
use Rattle.std.proofs.Common.{◌≡◌, Bool, true, false, ◌&&◌, ◌||◌, not, List, [], ◌∷◌, ◌++◌, refl, sym, ap, subst, ◌∙◌}
use Rattle.std.proofs.lemmas.List.Folds.{list_all-append}
use Rattle.mon_expr.specs.BoundPredicates.{IsBoundPredicate, bound_truth}
use Rattle.mon_expr.specs.declared.condition_lists.BoundPredicate.{BoundPredicate}
use Rattle.mon_value.specs.Order.{cells_of}
use Rattle.mon_value.specs.declared.columns.Column.{Column}
use Rattle.mon_value.specs.declared.rows.SeriesKey.{SeriesKey}
use Rattle.mon_value.specs.declared.values.Value.{Value}
use Rattle.mql_ast.specs.Trees.{PredicateTree}
use Rattle.mql_ast.specs.Rows.{predicate_truth}
use Rattle.typed_trees.specs.Meaning.{meets, names_keys, series_cells}
use Rattle.typed_trees.specs.Nodes as node
use Rattle.typed_trees.specs.Nodes.{NodeTree}
use Rattle.typed_trees.specs.declared.nodes.NodeInfo.{NodeInfo}
use Rattle.mon_meaning.specs.within.FetchViews.{all_filters_hold}
use Rattle.mon_meaning.specs.within.KeyFilters.{KeysDecide}
use Rattle.mon_meaning.specs.within.SeriesMeaning.{flows}

-- the filters so far, with what is left below them, say what the whole part says
pub record Remains (input rest : NodeTree) (of_series of_points : List BoundPredicate) : Type 0 where
  pub met : (key : SeriesKey) → (all_filters_hold of_series (series_cells key) && meets rest key) ≡ meets input key
  pub flowing : (key : SeriesKey) (value : Value)
      → ((all_filters_hold of_series (cells_of key value) && all_filters_hold of_points (cells_of key value))
      && flows rest key value) ≡ flows input key value
  pub decided : (key : SeriesKey) (value : Value) → KeysDecide input key
      → (all_filters_hold of_series (cells_of key value) ≡ all_filters_hold of_series (series_cells key))
      × KeysDecide rest key

pub begins : (input : NodeTree) → Remains input input [] []
begins input = record { met = λ key. refl; flowing = λ key value. refl; decided = λ key value decide. (refl, decide) }

-- ---- a filter more

one_more : (filters : List BoundPredicate) (bound : BoundPredicate) (by : PredicateTree) (columns : List Column)
    (cells : List Value)
    → IsBoundPredicate bound by columns → all_filters_hold (filters ++ bound ∷ []) cells
    ≡ (all_filters_hold filters cells && predicate_truth by columns cells)
one_more filters bound by columns cells is =
    list_all-append (λ (b : BoundPredicate). bound_truth b cells) filters (bound ∷ [])
    ∙ ap (λ b. all_filters_hold filters cells && b) (alone (bound_truth bound cells) ∙ is cells)
  where
    alone : (b : Bool) → (b && true) ≡ b
    alone true = refl
    alone false = refl

met_series : (so_far truth rest : Bool) → ((so_far && truth) && rest) ≡ (so_far && ((not true || truth) && rest))
met_series true truth rest = refl
met_series false truth rest = refl

met_points : (so_far truth rest : Bool) → (so_far && rest) ≡ (so_far && ((not false || truth) && rest))
met_points so_far truth rest = refl

flow_series : (a p t rest : Bool) → (((a && t) && p) && rest) ≡ ((a && p) && (t && rest))
flow_series true true t rest = by t
  where
    by : (b : Bool) → ((b && true) && rest) ≡ (b && rest)
    by true = refl
    by false = refl
flow_series true false true rest = refl
flow_series true false false rest = refl
flow_series false p t rest = refl

flow_points : (a p t rest : Bool) → ((a && (p && t)) && rest) ≡ ((a && p) && (t && rest))
flow_points true true t rest = refl
flow_points true false t rest = refl
flow_points false p t rest = refl

module _ (input rest : NodeTree) (info : NodeInfo) (by : PredicateTree) (of_series of_points : List BoundPredicate)
    (bound : BoundPredicate) (is : IsBoundPredicate bound by info.columns)
    (remains : Remains input (node.Filter info by rest) of_series of_points) where
  -- a filter that names keys alone
  pub with_series : names_keys info.columns by ≡ true → Remains input rest (of_series ++ bound ∷ []) of_points
  with_series keys = record {
    met = λ key.
        ap (λ b. b && meets rest key) (one_more of_series bound by info.columns (series_cells key) is)
        ∙ met_series (all_filters_hold of_series (series_cells key))
        (predicate_truth by info.columns (series_cells key))
        (meets rest key)
        ∙ ap (λ k. all_filters_hold of_series (series_cells key)
        && ((not k || predicate_truth by info.columns (series_cells key)) && meets rest key)) (sym keys)
        ∙ remains.met key;
    flowing = λ key value.
        ap (λ b. (b && all_filters_hold of_points (cells_of key value)) && flows rest key value)
        (one_more of_series bound by info.columns (cells_of key value) is)
        ∙ flow_series (all_filters_hold of_series (cells_of key value))
        (all_filters_hold of_points (cells_of key value))
        (predicate_truth by info.columns (cells_of key value)) (flows rest key value)
        ∙ remains.flowing key value;
    decided = λ key value decide.
        let before = remains.decided key value decide in
        let here = before.1.0 value keys in
        let left = one_more of_series bound by info.columns (cells_of key value) is in
        let right = one_more of_series bound by info.columns (series_cells key) is in
        (left ∙ (λ i. before.0 i && here i) ∙ sym right, before.1.1);
  }

  -- a filter of points
  pub with_points : names_keys info.columns by ≡ false → Remains input rest of_series (of_points ++ bound ∷ [])
  with_points other = record {
    met = λ key.
        met_points (all_filters_hold of_series (series_cells key)) (predicate_truth by info.columns (series_cells key))
        (meets rest key)
        ∙ ap (λ k. all_filters_hold of_series (series_cells key)
        && ((not k || predicate_truth by info.columns (series_cells key)) && meets rest key)) (sym other)
        ∙ remains.met key;
    flowing = λ key value.
        ap (λ b. (all_filters_hold of_series (cells_of key value) && b) && flows rest key value)
        (one_more of_points bound by info.columns (cells_of key value) is)
        ∙ flow_points (all_filters_hold of_series (cells_of key value))
        (all_filters_hold of_points (cells_of key value))
        (predicate_truth by info.columns (cells_of key value)) (flows rest key value)
        ∙ remains.flowing key value;
    decided = λ key value decide.
        let before = remains.decided key value decide in (before.0, before.1.1);
  }

-- ---- the fetch

turned : (a b : Bool) → (a && b) ≡ (b && a)
turned true true = refl
turned true false = refl
turned false true = refl
turned false false = refl

-- the same by equal parts
pub moved : (input rest next : NodeTree) (ss qs ps rs : List BoundPredicate) → next ≡ rest → qs ≡ ss → rs ≡ ps
    → Remains input rest ss ps → Remains input next qs rs
moved input rest next ss qs ps rs e f g remains =
    subst (λ (tree : NodeTree). Remains input tree qs rs) (sym e)
    (subst (λ (filters : List BoundPredicate). Remains input rest filters rs) (sym f)
    (subst (λ (filters : List BoundPredicate). Remains input rest ss filters) (sym g) remains))
