-- Tables that stand for held rows stand for them and one more that ends after the moment.
use Rattle.std.proofs.Common.{◌≡◌, ◌∙◌, ◌≤◌, ◌≤ℤ◌, ℕ, ℤ, Bool, pos, true, false, ◌&&◌, Option, Some, None, List, [], ◌∷◌, ◌++◌}
use Rattle.std.proofs.Common.{map, refl, sym, ap, subst, arith}
use Rattle.std.specs.Prelude.{int_le, int_lt}
use Rattle.std.proofs.lemmas.Bool.{false≢true}
use Rattle.std.proofs.lemmas.Int.{ints}
use Rattle.std.proofs.lemmas.List.Elements.{filter_agree}
use Rattle.std.proofs.lemmas.List.Sorted.{IsPermutation-trans}
use Rattle.mon_value.specs.Grids.{EndsRise, IsLawfulGrid}
use Rattle.mon_value.specs.LeafHistories.{IsSource, points_of}
use Rattle.mon_value.specs.Same.{same_series}
use Rattle.mon_value.specs.declared.grids.Grid.{Grid}
use Rattle.mon_value.specs.declared.rows.Row.{Row}
use Rattle.mon_value.specs.declared.rows.SeriesKey.{SeriesKey}
use Rattle.mon_fold.specs.PartialGroups.{GroupsSoFar}
use Rattle.typed_trees.specs.Meaning.{grid_of, load}
use Rattle.typed_trees.specs.Nodes as node
use Rattle.typed_trees.specs.Nodes.{NodeTree, TypedTree}
use Rattle.typed_trees.specs.Soundness.{IsEvaluable, IsTyped}
use Rattle.typed_rows.proofs.QueryLaws.{typed_evaluable}
use Rattle.typed_rows.proofs.TypedGridLemmas.{typed_grid}
use Rattle.mon_meaning.specs.Incremental.{is_one_path}
use Rattle.kept_laws.proofs.AheadLemmas.{AllRise, load_ahead, rows_ahead}
use Rattle.standing_incr.specs.Comings.{ComesTo}
use Rattle.standing_incr.specs.Keeping.{IsStanding}
use Rattle.standing_incr.specs.KeptTables.{AreGroupsAt, StandsFor, aligned_part, grouped_part}
use Rattle.standing_incr.specs.declared.comings.Coming.TheVariants as coming
use Rattle.standing_incr.specs.declared.tables.Standing.{Standing}
use Rattle.standing_incr.specs.declared.tables.Standing.TheVariants as standing
use Rattle.standing_incr.proofs.ThroughLemmas.{aligned_evaluable}
use Rattle.standing_incr.proofs.WindowLemmas.{points_own, points_rise}

-- ---- the ends of each series of a source rise

always : (b : Bool) → (b && true) ≡ b
always true = refl
always false = refl

own_points : (key : SeriesKey) (rows : List Row) → points_own (λ (row : Row). true) key rows ≡ points_of key rows
own_points key rows =
    ap (map (λ (row : Row). row.point))
    (filter_agree (λ (row : Row). same_series key row.key && true) (λ (row : Row). same_series key row.key)
    (λ (row : Row). always (same_series key row.key)) rows)

pub all_rise : (rows : List Row) → IsSource rows → AllRise rows
all_rise rows source key = subst EndsRise (own_points key rows) (points_rise (λ (row : Row). true) key rows source)

-- ---- a row more

part_path : (tree : NodeTree) → is_one_path tree ≡ true → is_one_path (aligned_part tree) ≡ true
part_path (node.Fetch info schema metric) path = path
part_path (node.Filter info by input) path = part_path input path
part_path (node.Align info by input) path = path
part_path (node.GroupBy info by with input) path = part_path input path
part_path (node.Value info items input) path = part_path input path
part_path (node.Top info most column input) path = part_path input path
part_path (node.Join info left right) path = absurd (false≢true path)
part_path (node.Union info left right) path = absurd (false≢true path)

module _ (grid : Grid) (lawful : IsLawfulGrid grid) (held : List Row) (row : Row)
    (after : int_le row.point.end grid.moment ≡ false) (rise : AllRise held) (behind : AllRise (held ++ row ∷ [])) where
  groups_ahead : (tree : NodeTree) → is_one_path tree ≡ true → IsEvaluable grid tree held
      → (parts : Option GroupsSoFar) → AreGroupsAt grid held (grouped_part tree) parts
      → AreGroupsAt grid (held ++ row ∷ []) (grouped_part tree) parts
  groups_ahead (node.Fetch info schema metric) path can None are = tt
  groups_ahead (node.Fetch info schema metric) path can (Some groups) are = absurd are
  groups_ahead (node.Filter info by input) path can parts are = groups_ahead input path can parts are
  groups_ahead (node.Align info by input) path can None are = tt
  groups_ahead (node.Align info by input) path can (Some groups) are = absurd are
  groups_ahead (node.GroupBy info by with input) path can None are = absurd are
  groups_ahead (node.GroupBy info by with input) path can (Some groups) are = record {
    taken = are.taken;
    rows_are =
        IsPermutation-trans _ _ _ (rows_ahead grid lawful held row after rise behind input path held can.1) are.rows_are;
    groups_are = are.groups_are;
  }
  groups_ahead (node.Value info items input) path can parts are = groups_ahead input path can.1.1 parts are
  groups_ahead (node.Top info most column input) path can parts are = groups_ahead input path can parts are
  groups_ahead (node.Join info left right) path can parts are = absurd (false≢true path)
  groups_ahead (node.Union info left right) path can parts are = absurd (false≢true path)

module _ (typed : TypedTree) (moment : ℤ) (held : List Row) (row : Row) (path : is_one_path typed.tree ≡ true)
    (of : IsTyped typed held) (from : pos 0 ≤ℤ moment) (later : int_lt moment row.point.end ≡ true)
    (source : IsSource held) (more : IsSource (held ++ row ∷ [])) where
  after : int_le row.point.end moment ≡ false
  after = grind (arith, ints)

  lawful : IsLawfulGrid (grid_of typed moment)
  lawful = typed_grid of.held of.query typed moment of.durations of.is from

  same_load : load typed (held ++ row ∷ []) moment ≡ load typed held moment
  same_load =
      load_ahead (grid_of typed moment) lawful held row after (all_rise held source)
      (all_rise (held ++ row ∷ []) more) typed.tree path held (typed_evaluable typed held moment of from)

  pub stands_ahead : (stands : Standing) → StandsFor typed moment held stands
      → StandsFor typed moment (held ++ row ∷ []) stands
  stands_ahead (standing.Whole tables) are = record {
    load = are.load ∙ sym same_load;
    within = are.within;
    table = record {
      columns_are = are.table.columns_are;
      rows_are =
          IsPermutation-trans _ _ _
          (rows_ahead (grid_of typed moment) lawful held row after (all_rise held source)
          (all_rise (held ++ row ∷ []) more) (aligned_part typed.tree) (part_path typed.tree path) held
          (aligned_evaluable (grid_of typed moment) held typed.tree path (typed_evaluable typed held moment of from)))
          are.table.rows_are;
    };
    parts =
        groups_ahead (grid_of typed moment) lawful held row after (all_rise held source)
        (all_rise (held ++ row ∷ []) more) typed.tree path (typed_evaluable typed held moment of from) tables.parts
        are.parts;
  }
  stands_ahead (standing.Above over) are =
      record { above = are.above; most = subst (λ (n : ℕ). over.load ≤ n) (sym same_load) are.most }

-- what stands for held rows stands with one more that is held and ends after the moment
pub stand_ahead : (typed : TypedTree) (moment : ℤ) (held : List Row) (row : Row) (stands : Standing)
    → IsStanding typed moment held stands → IsTyped typed (held ++ row ∷ []) → IsSource (held ++ row ∷ [])
    → ComesTo typed moment row coming.Ahead → IsStanding typed moment (held ++ row ∷ []) stands
stand_ahead typed moment held row stands are fits source comes = record {
  path = are.path;
  from = are.from;
  fits = fits;
  source = source;
  needed =
      ap (λ (rows : List Row). rows ++ row ∷ []) are.needed
      ∙ sym (comes.1 held fits);
  stands =
      stands_ahead typed moment held row are.path are.fits are.from comes.0 are.source source stands are.stands;
}
