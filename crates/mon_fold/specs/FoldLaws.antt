-- What an aggregate over partial results promises.
use Rattle.std.specs.Prelude.{◌≡◌, ◌↔◌, List, [], ◌++◌, Option, IsNone, IsPermutation}

-- `fold_of` is the aggregate of items and `part_of` the part that stands for them; `merge_of` is what two parts are
-- together and `finish_of` what a part finishes to; `can_merge`, `alike` and `fits` say where these hold
pub record FoldLaws
    {Fold In Part Out : Type 0} (fold_of : Fold → List In → Option Out) (part_of : Fold → List In → Part)
    (merge_of : Part → Part → Part) (can_merge : Part → Part → Type 0) (finish_of : Part → Option Out)
    (alike fits : Fold → List In → Type 0) : Type 0 where
  -- the aggregate doesn't depend on the order of the items
  pub any_order : (fold : Fold) (xs ys : List In) → IsPermutation xs ys → fold_of fold xs ≡ fold_of fold ys
  -- there is an aggregate exactly where there is an item
  pub nothing : (fold : Fold) (items : List In) → IsNone (fold_of fold items) ↔ (items ≡ [])
  -- a part that stands for the items finishes to their aggregate
  pub finishes : (fold : Fold) (items : List In) → alike fold items
      → finish_of (part_of fold items) ≡ fold_of fold items
  -- two parts together stand for the items of both
  pub joins : (fold : Fold) (xs ys : List In) → merge_of (part_of fold xs) (part_of fold ys) ≡ part_of fold (xs ++ ys)
  -- it doesn't matter which of two parts is merge_of into which
  pub commutes : (a b : Part) → merge_of a b ≡ merge_of b a
  -- it doesn't matter which of three parts are merge_of first
  pub associates : (a b c : Part) → merge_of (merge_of a b) c ≡ merge_of a (merge_of b c)
  -- items that fit are alike
  pub fitting_alike : (fold : Fold) (items : List In) → fits fold items → alike fold items
  -- where items fit, so does each choice of them
  pub chosen_fit : (fold : Fold) (xs ys zs : List In) → IsPermutation (xs ++ ys) zs → fits fold zs → fits fold xs
  -- where items fit, parts that stand for some of them and for others can be merge_of
  pub merges : (fold : Fold) (xs ys : List In) → fits fold (xs ++ ys)
      → can_merge (part_of fold xs) (part_of fold ys)
