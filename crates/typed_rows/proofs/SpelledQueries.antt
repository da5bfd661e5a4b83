-- The numbers, percentiles and counts of a query that a text spells are as the grammar has them.
use Rattle.std.proofs.Common.{◌≡◌, ℕ, ℤ, pos, negsuc, ◌^◌, true, neg_ℤ, int_le, int_lt, List, [], ◌∷◌, Option, Some}
use Rattle.std.proofs.Common.{refl, arith}
use Rattle.std.specs.List.{AllByRecursion}
use Rattle.std.proofs.lemmas.Int.{ints}
use Rattle.mon_schema.specs.Fits.{is_number}
use Rattle.mon_value.proofs.SameLemmas.{join}
use Rattle.mql_ast.specs.Grammar as grammar
use Rattle.mql_ast.specs.Grammar.{Deed, Folded, Folding, FoldingList, ItemList, ItemOf, Ops, Pipe, PipeList, Source}
use Rattle.mql_ast.specs.Grammar.{Spells, Sum, Term}
use Rattle.mql_ast.specs.Tokens.{Rest, skip}
use Rattle.mql_ast.specs.Rows.{HasShares}
use Rattle.mql_ast.specs.Trees.{DeedTree, ItemTree, OpTree, PipeTree, SourceTree, SumTree, branches}
use Rattle.mql_ast.specs.declared.names.Name.{Name}
use Rattle.mql_ast.specs.declared.operations.Aggregate.{Aggregate}
use Rattle.mql_ast.specs.declared.operations.FoldWord.{FoldWord}
use Rattle.mql_ast.specs.declared.operations.FoldWord.TheVariants as fold
use Rattle.mql_ast.proofs.NumbersPrinted as printed
use Rattle.mon_value.proofs.PlainLemmas.{all_append}
use Rattle.typed_trees.specs.Soundness.{AreBranchesSpelled, AreOpsSpelled, CountsRows, HasLiterals, IsDeedSpelled}
use Rattle.typed_trees.specs.Soundness.{IsPipeSpelled, IsSourceSpelled}

in_range : (z : ℤ) → printed.InRange z → is_number z ≡ true
in_range (pos n) (printed.above h) =
    join (int_le (neg_ℤ (pos (2 ^ 63))) (pos n)) (int_lt (pos n) (pos (2 ^ 63))) (grind (arith, ints))
    (grind (arith, ints))
in_range (negsuc n) (printed.below h) =
    join (int_le (neg_ℤ (pos (2 ^ 63))) (negsuc n)) (int_lt (negsuc n) (pos (2 ^ 63))) (grind (arith, ints))
    (grind (arith, ints))

abbrev pub IsSumSpelled : SumTree → Type 0
IsSumSpelled e = HasLiterals e × HasShares e

mutual
  sum_spelled : {d : ℕ} {s r : Rest} {e : SumTree} → Sum d s r e → IsSumSpelled e
  sum_spelled (grammar.one_term t) = term_spelled t
  sum_spelled (grammar.plus l a t) =
      let left = sum_spelled l in
      let right = term_spelled t in
      ((left.0, right.0), (left.1, right.1))
  sum_spelled (grammar.minus l a t) =
      let left = sum_spelled l in
      let right = term_spelled t in
      ((left.0, right.0), (left.1, right.1))

  term_spelled : {d : ℕ} {s r : Rest} {e : SumTree} → Term d s r e → IsSumSpelled e
  term_spelled (grammar.column a) = (tt, tt)
  term_spelled (grammar.number {s = s} {r = r} {z = z} a) = (in_range z (printed.signed_lawful s r z a), tt)
  term_spelled (grammar.percentile {e = e} {f = f} {p = p} h1 h2 h3 h4 h5 h6 h7) =
      (tt, printed.positive_lawful 100 (omega arith) e f p h6)
  term_spelled (grammar.sum_in_parentheses a t b) = sum_spelled t

abbrev IsItemSpelled : ItemTree → Type 0
IsItemSpelled item = HasLiterals item.sum × HasShares item.sum

item_spelled : {d : ℕ} {s r : Rest} {i : ItemTree} → ItemOf d s r i → IsItemSpelled i
item_spelled (grammar.single a) = (tt, tt)
item_spelled (grammar.labelled a b e) = sum_spelled e

items_spelled : {d : ℕ} {s r : Rest} {items : List ItemTree} → ItemList d s r items → AllByRecursion IsItemSpelled items
items_spelled (grammar.one_item i) = (item_spelled i, tt)
items_spelled (grammar.more_items {items = items} {i = i} l a e) =
    all_append IsItemSpelled items (i ∷ []) (items_spelled l) (item_spelled e, tt)

other_fold : (w : FoldWord) (n : Name) → (w ≡ fold.Count → ⊥) → CountsRows w (Some n)
other_fold fold.Count n other = other refl
other_fold fold.Sum n other = tt
other_fold fold.Min n other = tt
other_fold fold.Max n other = tt
other_fold fold.Mean n other = tt
other_fold fold.Merge n other = tt
other_fold fold.Aggregate n other = tt

folded_counts : {w : FoldWord} {s r : Rest} {c : Option Name} → Folded w s r c → CountsRows w c
folded_counts (grammar.counted a b) = tt
folded_counts (grammar.folded {w = w} {n = n} other a b c) = other_fold w n other

abbrev Counts : Aggregate → Type 0
Counts a = CountsRows a.fold a.column

folding_counts : {s r : Rest} {a : Aggregate} → Folding s r a → Counts a
folding_counts (grammar.unnamed a b f) = folded_counts f
folding_counts (grammar.named a b c f) = folded_counts f

foldings_count : {s r : Rest} {all : List Aggregate} → FoldingList s r all → AllByRecursion Counts all
foldings_count (grammar.one_folding f) = (folding_counts f, tt)
foldings_count (grammar.more_foldings {as' = all} {a = a} l b f) =
    all_append Counts all (a ∷ []) (foldings_count l) (folding_counts f, tt)

deed_spelled : {d : ℕ} {s r : Rest} {what : DeedTree} → Deed d s r what → IsDeedSpelled what
deed_spelled (grammar.filter a b p) = tt
deed_spelled (grammar.align_delta a b c e f g) = tt
deed_spelled (grammar.align_next_older a b c e f g) = tt
deed_spelled (grammar.group_by a b c l) = foldings_count l
deed_spelled (grammar.value a b l c) = items_spelled l
deed_spelled (grammar.top a b c e f) = tt
deed_spelled (grammar.every a b c) = tt
deed_spelled (grammar.within a b c) = tt

abbrev IsOpSpelled : OpTree → Type 0
IsOpSpelled op = IsDeedSpelled op.what

ops_spelled : {d : ℕ} {s r : Rest} {ops : List OpTree} → Ops d s r ops → AreOpsSpelled ops
ops_spelled grammar.no_ops = tt
ops_spelled (grammar.more_ops {k = k} {ops = ops} {what = what} l a deed) =
    all_append IsOpSpelled ops (record { at = (skip k).at; what = what } ∷ []) (ops_spelled l) (deed_spelled deed, tt)

branches_spelled : (pipes : List PipeTree) → AllByRecursion IsPipeSpelled pipes → AreBranchesSpelled (branches pipes)
branches_spelled [] all = tt
branches_spelled (p ∷ pipes) all = (all.0, branches_spelled pipes all.1)

mutual
  pipe_spelled : {d : ℕ} {s r : Rest} {t : PipeTree} → Pipe d s r t → IsPipeSpelled t
  pipe_spelled (grammar.flow source ops) = (source_spelled source, ops_spelled ops)

  source_spelled : {d : ℕ} {s r : Rest} {t : SourceTree} → Source d s r t → IsSourceSpelled t
  source_spelled (grammar.fetch a b c e f) = tt
  source_spelled (grammar.join {ps = ps} a l b c e) = branches_spelled ps (list_spelled l)

  list_spelled : {d : ℕ} {s r : Rest} {ps : List PipeTree} → PipeList d s r ps → AllByRecursion IsPipeSpelled ps
  list_spelled (grammar.two_pipes p a q) = (pipe_spelled p, (pipe_spelled q, tt))
  list_spelled (grammar.more_pipes {ps = ps} {p = p} l a q) =
      all_append IsPipeSpelled ps (p ∷ []) (list_spelled l) (pipe_spelled q, tt)

-- what a text spells has numbers, percentiles and counts as the grammar has them
pub query_spelled : (query : PipeTree) (text : List ℕ) → Spells query text → IsPipeSpelled query
query_spelled query text h = pipe_spelled h.spelled.whole
