-- The grid of a query's times, and the durations that it names.
use Rattle.std.specs.Prelude.{ℕ, ℤ, pos, ◌*ℤ◌, ◌||◌, Bool, true, false, int_lt, List, [], ◌∷◌, ◌++◌, Option, Some, None}
use Rattle.std.specs.Prelude.{unwrap_or, ◌+◌, if◌then◌else◌}
use Rattle.std.specs.Int.{int_max}
use Rattle.std.specs.List.{list_any, AllByRecursion}
use Rattle.std.specs.Option.{option_or}
use Rattle.mon_value.specs.Grids.{seconds_of, most_times, IsDuration}
use Rattle.mql_ast.specs.Trees as tree
use Rattle.mql_ast.specs.Trees.{BranchTrees, DeedTree, OpTree, PipeTree, SourceTree}
use Rattle.typed_trees.specs.declared.faults.TypeFault.{TypeFault}
use Rattle.typed_trees.specs.declared.faults.TypeKind.TheVariants.{BadOrder, TooManyTimes}
use Rattle.typed_trees.specs.declared.times.Times.{Times}
use Rattle.typed_trees.specs.Faults.{fault_where}

-- The grid of a query's times, and where `every` and `within` may stand.

-- all operations of a pipe, in the order of the text
abbrev mutual
  pub pipe_ops : PipeTree → List OpTree
  pipe_ops (tree.Flow source ops) = source_ops source ++ ops

  pub source_ops : SourceTree → List OpTree
  source_ops (tree.Fetch at schema metric) = []
  source_ops (tree.Branches at pipes how how_at) = branch_ops pipes

  pub branch_ops : BranchTrees → List OpTree
  branch_ops tree.NoBranch = []
  branch_ops (tree.Branch first rest) = pipe_ops first ++ branch_ops rest

-- nothing is said of the times: no `every`, no `within`, no alignment, and no place of one of the first two
abbrev pub nothing_said : Times
nothing_said = record { every = None; within = None; longest = None; at = None }

abbrev pub longer_duration : Option ℤ → ℤ → Option ℤ
longer_duration None seconds = Some seconds
longer_duration (Some most) seconds = Some (int_max most seconds)

-- what an operation adds to that
abbrev pub said_by : Times → ℕ → DeedTree → Times
said_by said at (tree.Every seconds) =
    record said { every = option_or said.every (Some seconds); at = option_or said.at (Some at) }
said_by said at (tree.Within seconds) =
    record said { within = option_or said.within (Some seconds); at = option_or said.at (Some at) }
said_by said at (tree.Align by) = record said { longest = longer_duration said.longest (seconds_of by) }
said_by said at (tree.Filter predicate) = said
said_by said at (tree.GroupBy names aggregates) = said
said_by said at (tree.Value items) = said
said_by said at (tree.Top most column) = said

-- what some operations say of the times
abbrev pub said_of : Times → List OpTree → Times
said_of said [] = said
said_of said (op ∷ ops) = said_of (said_by said op.at op.what) ops

-- the seconds from one time to the next: those of `every`, or else of the longest alignment, or else a minute
abbrev pub every_said : Times → ℤ
every_said said = unwrap_or said.every (unwrap_or said.longest (pos 60))

-- how many seconds the times reach back: those of `within`, or else as far as one step
abbrev pub within_said : Times → ℤ
within_said said = unwrap_or said.within (every_said said)

-- whether the times reach back further than so many steps as a table may have times
abbrev pub are_too_many : Times → Bool
are_too_many said = int_lt (every_said said *ℤ pos most_times) (within_said said)

-- more times than a table may have are told at the first `every` or `within`
abbrev pub times_faults : Times → List TypeFault
times_faults said = fault_where (are_too_many said) (unwrap_or said.at 0) TooManyTimes

-- what a query says of its times
abbrev pub query_times : PipeTree → Times
query_times query = said_of nothing_said (pipe_ops query)

-- ---- where `every` and `within` may stand

-- whether an operation is neither `every` nor `within`
abbrev pub is_step : DeedTree → Bool
is_step (tree.Every seconds) = false
is_step (tree.Within seconds) = false
is_step (tree.Filter predicate) = true
is_step (tree.Align by) = true
is_step (tree.GroupBy names aggregates) = true
is_step (tree.Value items) = true
is_step (tree.Top most column) = true

abbrev pub have_steps : List OpTree → Bool
have_steps ops = list_any (λ op. is_step op.what) ops

-- how many operations there are up to the last that is neither `every` nor `within`
abbrev pub steps_length : List OpTree → ℕ
steps_length [] = 0
steps_length (op ∷ ops) = if is_step op.what || have_steps ops then steps_length ops + 1 else 0

abbrev pub is_every : DeedTree → Bool
is_every (tree.Every seconds) = true
is_every (tree.Within seconds) = false
is_every (tree.Filter predicate) = false
is_every (tree.Align by) = false
is_every (tree.GroupBy names aggregates) = false
is_every (tree.Value items) = false
is_every (tree.Top most column) = false

abbrev pub is_within_deed : DeedTree → Bool
is_within_deed (tree.Every seconds) = false
is_within_deed (tree.Within seconds) = true
is_within_deed (tree.Filter predicate) = false
is_within_deed (tree.Align by) = false
is_within_deed (tree.GroupBy names aggregates) = false
is_within_deed (tree.Value items) = false
is_within_deed (tree.Top most column) = false

abbrev pub order_fault : DeedTree → Bool → Bool → Bool → ℕ → List TypeFault
order_fault (tree.Every seconds) misplaced every within at = fault_where (misplaced || every) at BadOrder
order_fault (tree.Within seconds) misplaced every within at = fault_where (misplaced || within) at BadOrder
order_fault (tree.Filter predicate) misplaced every within at = []
order_fault (tree.Align by) misplaced every within at = []
order_fault (tree.GroupBy names aggregates) misplaced every within at = []
order_fault (tree.Value items) misplaced every within at = []
order_fault (tree.Top most column) misplaced every within at = []

-- `every` and `within` stand behind all other operations of a pipe that is no branch, each once; the two tests
-- say whether they stood before
abbrev pub order_faults : Bool → Bool → Bool → List OpTree → List TypeFault
order_faults branch every within [] = []
order_faults branch every within (op ∷ ops) =
    order_fault op.what (branch || have_steps ops) every within op.at
    ++ order_faults branch (every || is_every op.what) (within || is_within_deed op.what) ops

-- the same of all pipes of a query
abbrev mutual
  pub pipe_order_faults : Bool → PipeTree → List TypeFault
  pipe_order_faults branch (tree.Flow source ops) = source_order_faults source ++ order_faults branch false false ops

  pub source_order_faults : SourceTree → List TypeFault
  source_order_faults (tree.Fetch at schema metric) = []
  source_order_faults (tree.Branches at pipes how how_at) = branch_order_faults pipes

  pub branch_order_faults : BranchTrees → List TypeFault
  branch_order_faults tree.NoBranch = []
  branch_order_faults (tree.Branch first rest) = pipe_order_faults true first ++ branch_order_faults rest

-- The durations that a query names.

-- whether the duration of an operation, if it has one, is one that a query may name
abbrev pub HasDuration : DeedTree → Type 0
HasDuration (tree.Every seconds) = IsDuration seconds
HasDuration (tree.Within seconds) = IsDuration seconds
HasDuration (tree.Align by) = IsDuration (seconds_of by)
HasDuration (tree.Filter predicate) = Unit {0}
HasDuration (tree.GroupBy names aggregates) = Unit {0}
HasDuration (tree.Value items) = Unit {0}
HasDuration (tree.Top most column) = Unit {0}

-- whether all durations of a query are ones that a query may name, as those of a text are
abbrev pub HasDurations : PipeTree → Type 0
HasDurations query = AllByRecursion (λ (op : OpTree). HasDuration op.what) (pipe_ops query)
