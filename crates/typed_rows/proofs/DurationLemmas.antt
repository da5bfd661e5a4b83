-- The durations of a query that a text spells are ones that a query may name.
use Rattle.std.proofs.Common.{◌≡◌, ℕ, ℤ, pos, negsuc, List, [], ◌∷◌, ◌++◌, Some, arith}
use Rattle.std.proofs.lemmas.Int.{ints}
use Rattle.std.specs.List.{AllByRecursion}
use Rattle.mon_value.specs.Grids.{IsDuration}
use Rattle.mql_ast.specs.Grammar.{Deed, filter, align_delta, align_next_older, group_by, value, top, every, within}
use Rattle.mql_ast.specs.Grammar.{Ops, no_ops, more_ops, Pipe, flow, Source, fetch, join, PipeList, two_pipes}
use Rattle.mql_ast.specs.Grammar.{more_pipes, Spells}
use Rattle.mql_ast.specs.Tokens.{Rest, skip, duration_at}
use Rattle.mql_ast.specs.Trees.{DeedTree, OpTree, PipeTree, SourceTree, branches}
use Rattle.mql_ast.proofs.NumbersPrinted as printed
use Rattle.mon_value.proofs.PlainLemmas.{all_append}
use Rattle.typed_trees.specs.Times.{HasDuration, HasDurations, branch_ops, pipe_ops, source_ops}

from_text : (z : ℤ) → printed.IsDuration z → IsDuration z
from_text (pos n) (printed.seconds one low) = (omega (arith, ints), omega (arith, ints))
from_text (negsuc n) h = elim h [ ]

duration_read : (s r : Rest) (z : ℤ) → duration_at s ≡ Some (z, r) → IsDuration z
duration_read s r z h = from_text z (printed.duration_lawful s r z h)

deed_durations : {d : ℕ} {s r : Rest} {what : DeedTree} → Deed d s r what → HasDuration what
deed_durations (filter a b p) = tt
deed_durations (align_delta {j = j} {i = i} {z = z} a b c e h g) = duration_read j i z h
deed_durations (align_next_older {j = j} {i = i} {z = z} a b c e h g) = duration_read j i z h
deed_durations (group_by a b c e) = tt
deed_durations (value a b c e) = tt
deed_durations (top a b c e f) = tt
deed_durations (every {m = m} {r = r} {z = z} a b h) = duration_read m r z h
deed_durations (within {m = m} {r = r} {z = z} a b h) = duration_read m r z h

-- whether all operations of a list have such durations
abbrev pub Last : List OpTree → Type 0
Last ops = AllByRecursion (λ (op : OpTree). HasDuration op.what) ops

ops_durations : {d : ℕ} {s r : Rest} {ops : List OpTree} → Ops d s r ops → Last ops
ops_durations no_ops = tt
ops_durations (more_ops {k = k} {ops = ops} {what = what} O g D) =
    all_append (λ (op : OpTree). HasDuration op.what) ops (record { at = (skip k).at; what = what } ∷ [])
    (ops_durations O) (deed_durations D, tt)

branch_durations : (ps : List PipeTree) → AllByRecursion HasDurations ps → Last (branch_ops (branches ps))
branch_durations [] h = tt
branch_durations (p ∷ ps) h =
    all_append (λ (op : OpTree). HasDuration op.what) (pipe_ops p) (branch_ops (branches ps)) h.0
    (branch_durations ps h.1)

mutual
  pipe_durations : {d : ℕ} {s r : Rest} {t : PipeTree} → Pipe d s r t → HasDurations t
  pipe_durations (flow {t = t} {ops = ops} S O) =
      all_append (λ (op : OpTree). HasDuration op.what) (source_ops t) ops (source_durations S) (ops_durations O)

  source_durations : {d : ℕ} {s r : Rest} {t : SourceTree} → Source d s r t → Last (source_ops t)
  source_durations (fetch a b c e f) = tt
  source_durations (join {ps = ps} a L b c e) = branch_durations ps (list_durations L)

  list_durations : {d : ℕ} {s r : Rest} {ps : List PipeTree} → PipeList d s r ps → AllByRecursion HasDurations ps
  list_durations (two_pipes P g Q) = (pipe_durations P, (pipe_durations Q, tt))
  list_durations (more_pipes {ps = ps} {p = p} L g P) =
      all_append HasDurations ps (p ∷ []) (list_durations L) (pipe_durations P, tt)

pub durations_spelled : (query : PipeTree) (text : List ℕ) → Spells query text → HasDurations query
durations_spelled query text h = pipe_durations h.spelled.whole
