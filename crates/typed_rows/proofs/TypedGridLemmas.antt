-- The times of a query that has a type are those of a grid.
use Rattle.std.proofs.Common.{◌≡◌, ℕ, suc, ℤ, pos, negsuc, ◌+◌, ◌-◌, ◌*◌, ◌/◌, ◌<◌, ◌≤◌, ◌*ℤ◌, ◌≤ℤ◌, Bool, true, false}
use Rattle.std.proofs.Common.{cond, int_lt, unsigned_abs, List, [], ◌∷◌, ◌++◌, Option, Some, None, Ok, unwrap_or, refl}
use Rattle.std.proofs.Common.{subst, arith}
use Rattle.std.proofs.Math.Nat.{div-lt_iff_lt-mul, mul_comm}
use Rattle.std.proofs.lemmas.Int.{ints}
use Rattle.std.specs.Option.{IfSome, option_or}
use Rattle.mon_schema.specs.Names.{SchemaLists}
use Rattle.mon_value.specs.Grids.{seconds_of, IsDuration, IsLawfulGrid, most_times}
use Rattle.mql_ast.specs.Trees as tree
use Rattle.mql_ast.specs.Trees.{DeedTree, OpTree, PipeTree}
use Rattle.typed_trees.specs.Times.{HasDuration, HasDurations, are_too_many, every_said, longer_duration, nothing_said}
use Rattle.typed_trees.specs.Times.{pipe_ops, pipe_order_faults, query_times, said_by, said_of, times_faults}
use Rattle.typed_trees.specs.Times.{within_said}
use Rattle.typed_trees.specs.Faults.{fault_where}
use Rattle.typed_trees.specs.Meaning.{grid_of}
use Rattle.typed_trees.specs.Nodes.{TypedTree}
use Rattle.typed_trees.specs.Typing.{pipe_faults, query_faults, typing}
use Rattle.typed_trees.specs.declared.faults.TypeKind.{TypeKind}
use Rattle.typed_trees.specs.declared.times.Times.{Times}
use Rattle.typed_rows.proofs.DurationLemmas.{Last}
use Rattle.typed_trees.proofs.FetchColumnLemmas.{typed_without_faults, both_none}

-- ---- what is said of the times

record AreDurations (said : Times) : Type 0 where
  every : IfSome said.every IsDuration
  within : IfSome said.within IsDuration
  longest : IfSome said.longest IsDuration

first_said : (said : Option ℤ) (z : ℤ) → IfSome said IsDuration → IsDuration z
    → IfSome (option_or said (Some z)) IsDuration
first_said None z h d = d
first_said (Some y) z h d = h

by_order : (b : Bool) (x y : ℤ) → IsDuration x → IsDuration y → IsDuration (cond b x y)
by_order true x y f g = f
by_order false x y f g = g

longer_said : (most : Option ℤ) (z : ℤ) → IfSome most IsDuration → IsDuration z
    → IfSome (longer_duration most z) IsDuration
longer_said None z h d = d
longer_said (Some most) z h d = by_order (int_lt z most) most z h d

deed_said : (said : Times) (at : ℕ) (what : DeedTree) → AreDurations said → HasDuration what
    → AreDurations (said_by said at what)
deed_said said at (tree.Every z) h d =
    record { every = first_said said.every z h.every d; within = h.within; longest = h.longest }
deed_said said at (tree.Within z) h d =
    record { every = h.every; within = first_said said.within z h.within d; longest = h.longest }
deed_said said at (tree.Align by) h d =
    record { every = h.every; within = h.within; longest = longer_said said.longest (seconds_of by) h.longest d }
deed_said said at (tree.Filter p) h d = h
deed_said said at (tree.GroupBy names aggregates) h d = h
deed_said said at (tree.Value items) h d = h
deed_said said at (tree.Top most column) h d = h

ops_said : (said : Times) (ops : List OpTree) → AreDurations said → Last ops → AreDurations (said_of said ops)
ops_said said [] h d = h
ops_said said (op ∷ ops) h d = ops_said (said_by said op.at op.what) ops (deed_said said op.at op.what h d.0) d.1

or_else : (o : Option ℤ) (z : ℤ) → IfSome o IsDuration → IsDuration z → IsDuration (unwrap_or o z)
or_else None z h d = d
or_else (Some y) z h d = h

every_duration : (said : Times) → AreDurations said → IsDuration (every_said said)
every_duration said h =
    or_else said.every (unwrap_or said.longest (pos 60)) h.every
    (or_else said.longest (pos 60) h.longest (omega (arith, ints), omega (arith, ints)))

within_duration : (said : Times) → AreDurations said → IsDuration (within_said said)
within_duration said h = or_else said.within (every_said said) h.within (every_duration said h)

times_said : (query : PipeTree) → HasDurations query → AreDurations (query_times query)
times_said query h = ops_said nothing_said (pipe_ops query) (record { every = tt; within = tt; longest = tt }) h

-- ---- how many times there are

count_within : (n e w : ℕ) → 1 ≤ e → w ≤ e * n → (w + (e - 1)) / e ≤ n
count_within n e w some low =
    let more : suc n * e ≡ n * e + e = omega arith in
    let below : (w + (e - 1)) / e < suc n = (div-lt_iff_lt-mul {k = e} {x = w + (e - 1)} {y = suc n} (omega arith)).1
    (omega (arith, mul_comm e n)) in
    omega arith

few_times : (n : ℕ) (every within : ℤ) → IsDuration every → IsDuration within
    → int_lt (every *ℤ pos n) within ≡ false
    → (unsigned_abs within + (unsigned_abs every - 1)) / unsigned_abs every ≤ n
few_times n (pos e) (pos w) f g few = count_within n e w (omega (arith, ints)) (grind (arith, ints))
few_times n (negsuc e) within f g few = absurd (omega (arith, ints))
few_times n (pos e) (negsuc w) f g few = absurd (omega (arith, ints))

-- ---- a query that has a type has no fault

pub no_test : (test : Bool) (at : ℕ) (kind : TypeKind) → fault_where test at kind ≡ [] → test ≡ false
no_test true at kind h = absurd (cc)
no_test false at kind h = refl

few_said : (held : SchemaLists) (query : PipeTree) → query_faults held query ≡ []
    → are_too_many (query_times query) ≡ false
few_said held query h =
    let said = query_times query in
    let rest = both_none (pipe_order_faults false query)
    (times_faults said ++ pipe_faults held (every_said said) query) h in
    let times = both_none (times_faults said) (pipe_faults held (every_said said) query) rest.1 in
    no_test (are_too_many said) _ _ times.0

-- at whatever moment it is asked
pub typed_grid : (held : SchemaLists) (query : PipeTree) (typed : TypedTree) (moment : ℤ) → HasDurations query
    → typing held query ≡ Ok typed → pos 0 ≤ℤ moment → IsLawfulGrid (grid_of typed moment)
typed_grid held query typed moment durations h from =
    let x = typed_without_faults held query typed h in
    let said = query_times query in
    let are = times_said query durations in
    let every = every_duration said are in
    let within = within_duration said are in
    subst (λ t. IsLawfulGrid (grid_of t moment)) x.1 (record {
      moment = from;
      every = every;
      within = within;
      times = few_times most_times (every_said said) (within_said said) every within (few_said held query x.0);
    })
