-- What a query's text comes to over schemas, by the tree that spells it, and what is promised of its plan.
use Rattle.std.specs.Prelude.{ℕ, List, ◌++◌, codes, Result, Ok, Err, ◌≡◌, ◌<◌, ◌≤◌, length, map}
use Rattle.std.specs.List.{AllByRecursion}
use Rattle.mon_schema.specs.Names.{SchemaLists}
use Rattle.mon_value.specs.Answers.{◌>>=◌}
use Rattle.mql_ast.specs.Trees.{PipeTree}
use Rattle.mql_parse.specs.Faults.{parse_fault_text, FaultKind, IsAtLongestFront, too_long}
use Rattle.mql_parse.specs.PipeReading.{text_outcome}
use Rattle.typed_trees.specs.Faults.{type_fault_text}
use Rattle.typed_trees.specs.Nodes.{TypedTree, typed_tree}
use Rattle.typed_trees.specs.Typing.{typing}
use Rattle.mql_ast.specs.Grammar.{Spells, longest_text}
use Rattle.mql_parse.specs.declared.faults.ParseFault.{ParseFault}
use Rattle.mon_hints.specs.Formulas.{all_named, formula_tree, formulas, IsListing}
use Rattle.typed_trees.specs.Plans.{fetches}
use Rattle.typed_trees.specs.Soundness.{IsQueryType}
use Rattle.typed_trees.specs.declared.plans.Plan.{Plan}
use Rattle.plan_split.specs.FetchFormulas.{plan_formulas}
use Rattle.plan_split.specs.Meeting.{AllHoldWhereMet}
use Rattle.query_texts.specs.declared.faults.TextFault.{TextFault}
use Rattle.query_texts.specs.declared.faults.TextFault.TheVariants as fault

-- What a query's text comes to over schemas: the typed tree, or why it has none, and what that prints as.

-- a fault is told as one of a wider kind
abbrev pub refused_as : {T F G : Type 0} → (F → G) → Result T F → Result T G
refused_as kind (Ok x) = Ok x
refused_as kind (Err why) = Err (kind why)

-- a tree has a type, or is refused for the first fault of it
abbrev pub tree_type : SchemaLists → PipeTree → Result TypedTree TextFault
tree_type held tree = refused_as fault.Typing (typing held tree)

-- a text comes to what its tree does, or is refused where it has none
abbrev pub text_type : SchemaLists → List ℕ → Result TypedTree TextFault
text_type held text = refused_as fault.Parse (text_outcome text) >>= tree_type held

-- a fault with its kind in front
abbrev pub text_fault_text : TextFault → List ℕ
text_fault_text (fault.Parse why) = codes "Parse " ++ parse_fault_text why
text_fault_text (fault.Typing why) = codes "Typing " ++ type_fault_text why

-- That a text goes by the tree that spells it, so that how texts are read need not be known.

-- a text that a tree spells comes to what the tree does, over whatever schemas
abbrev pub GoesByTree : List ℕ → Type 0
GoesByTree text =
    (held : SchemaLists) (tree : PipeTree) → Spells tree text → text_type held text ≡ tree_type held tree

-- no tree spells a text
abbrev pub HasNoTree : List ℕ → Type 0
HasNoTree text = (tree : PipeTree) → Spells tree text → ⊥

-- the fault of a text: it stands behind the longest front that begins a query, and its kind fits the byte there; a text
-- that is too long has a fault of its own
pub record IsTextFault (text : List ℕ) (why : ParseFault) : Type 0 where
  pub place : length text ≤ longest_text → IsAtLongestFront text why
  pub kind : length text ≤ longest_text → FaultKind text why
  pub long : longest_text < length text → why ≡ too_long

-- an answer is a refusal for the fault of a text
pub record IsRefusedText (text : List ℕ) (answer : Result TypedTree TextFault) : Type 0 where
  pub why : ParseFault
  pub refused : answer ≡ Err (fault.Parse why)
  pub fault : IsTextFault text why

-- a text that no tree spells is refused, over whatever schemas
abbrev pub IsAlwaysRefused : List ℕ → Type 0
IsAlwaysRefused text = (held : SchemaLists) → IsRefusedText text (text_type held text)

-- What is promised of the plan of a text.

-- the typed tree of a plan
abbrev pub plan_type : Plan → TypedTree
plan_type plan = typed_tree plan.typed

-- A plan over schemas, among so many buckets: its query has a type over them; there is a formula for each fetch, which
-- holds of the buckets of each series that meets the fetch; and its buckets are those that the formulas name.
pub record IsPlanOver (held : SchemaLists) (buckets : ℕ) (plan : Plan) : Type 0 where
  pub query : IsQueryType held (plan_type plan)
  pub hints : map formula_tree plan.formulas ≡ plan_formulas buckets (plan_type plan).tree
  pub promise : AllHoldWhereMet held buckets (fetches (plan_type plan).tree) (map formula_tree plan.formulas)
  pub listed : IsListing (all_named (formulas (map formula_tree plan.formulas))) plan.buckets
  pub below : AllByRecursion (λ (bucket : ℕ). bucket < buckets) plan.buckets
