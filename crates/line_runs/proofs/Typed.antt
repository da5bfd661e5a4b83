-- A typed text over rows that fit what it was typed over.
use Rattle.std.proofs.Common.{◌≡◌, ◌<◌, ◌≤◌, ℕ, ℤ, true, List, Result, Ok, Err, sym, ap, subst, arith}
use Rattle.std.specs.List.{AllByRecursion}
use Rattle.line_runs.specs.Questions.{CanBeChecked, meant_text}
use Rattle.mon_config.specs.declared.config.Config.{Config}
use Rattle.mon_meaning.specs.Central.{IsOver}
use Rattle.mon_meaning.specs.declared.meter.OverLimit.{OverLimit}
use Rattle.mon_schema.specs.Fits.{fits}
use Rattle.mon_schema.specs.Names.{SchemaLists}
use Rattle.mon_value.specs.declared.rows.Row.{Row}
use Rattle.typed_trees.specs.Meaning.{load}
use Rattle.typed_trees.specs.Nodes.{TypedTree}
use Rattle.typed_trees.specs.Soundness.{IsQueryType, IsTyped}
use Rattle.query_texts.specs.TextTypes.{text_type}
use Rattle.query_texts.specs.declared.faults.TextFault.{TextFault}

ok_same : {T F : Type 0} (result : Result T F) (x y : T) → result ≡ Ok x → result ≡ Ok y → x ≡ y
ok_same result x y here there = cc

not_both : {T F : Type 0} (result : Result T F) (x : T) (fault : F) → result ≡ Ok x → result ≡ Err fault → ⊥
not_both result x fault here there = absurd cc

pub typed_over : (held : SchemaLists) (typed : TypedTree) (rows : List Row) → IsQueryType held typed
    → AllByRecursion (λ row. fits held row ≡ true) rows → IsTyped typed rows
typed_over held typed rows query fit = record {
  held = held;
  query = query.query;
  metrics = query.metrics;
  spelled = query.spelled;
  durations = query.durations;
  is = query.is;
  fit = fit;
}

-- a load within the limit is not above it
pub not_over : (typed : TypedTree) (rows : List Row) (moment : ℤ) (limit : ℕ) (over : OverLimit)
    → load typed rows moment ≤ limit → IsOver typed rows moment limit over → ⊥
not_over typed rows moment limit over within is =
    let above : limit < over.load = is.above in
    let most : over.load ≤ load typed rows moment = is.most in
    omega arith

module _ (config : Config) (text : List ℕ) (moment : ℤ) (rows : List Row)
    (can : CanBeChecked config text moment rows) where
  one_type : (typed : TypedTree) → text_type config.schemas text ≡ Ok typed → can.typed ≡ typed
  one_type typed is = ok_same (text_type config.schemas text) can.typed typed can.type_is is

  -- whatever type the text has, the load is within the limit
  pub load_within : (typed : TypedTree) → text_type config.schemas text ≡ Ok typed
      → load typed rows moment ≤ config.limit
  load_within typed is = subst (λ (t : TypedTree). load t rows moment ≤ config.limit) (one_type typed is) can.within

  -- and it has one
  pub has_type : (fault : TextFault) → text_type config.schemas text ≡ Err fault → ⊥
  has_type fault is = not_both (text_type config.schemas text) can.typed fault can.type_is is

  pub meant_as : (typed : TypedTree) → text_type config.schemas text ≡ Ok typed
      → meant_text (Ok typed) rows moment ≡ meant_text (text_type config.schemas text) rows moment
  meant_as typed is = ap (λ answer. meant_text answer rows moment) (sym is)
