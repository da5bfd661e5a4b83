-- Operations behind a number.
use Rattle.std.proofs.Common.{◌≡◌, ℕ, ℤ, Bool, true, false, ◌==◌, List, [], codes, refl, sym, if◌then◌else◌, Err}
use Rattle.mon_value.specs.Answers.{◌>>=◌}
use Rattle.mon_value.specs.declared.aligners.Aligner.TheVariants as aligner
use Rattle.mql_ast.specs.declared.names.Name.{Name}
use Rattle.mql_ast.specs.Trees.{PredicateTree, DeedTree, Filter, Align, GroupBy, Value, Top, Every, Within, OpTree}
use Rattle.mql_ast.specs.Tokens.{Rest, head, skip}
use Rattle.mql_parse.specs.declared.faults.What.{What}
use Rattle.mql_parse.specs.declared.faults.What.TheVariants as what
use Rattle.mql_parse.specs.Outcomes.{Outcome, unexpected_fault, exact, sign, apart, map_outcome, up_to_sign}
use Rattle.mql_parse.specs.Repeats.{Done, Again, repetition}
use Rattle.mql_parse.specs.TokenReading as reading
use Rattle.mql_parse.specs.SumReading as sums
use Rattle.mql_parse.specs.PredicateReading as predicates
use Rattle.mql_parse.specs.Folds as folds
use Rattle.mql_parse.specs.PipeReading as pipes
use Rattle.mql_parse.specs.Steadiness.{here, next}
use Rattle.mql_parse.proofs.PipeSound.{operation_turn_behind}
use Rattle.mql_parse.proofs.Follows.{Swap, Any, Follows, FollowsPass, follows_unexpected, follows_from, follows_to}
use Rattle.mql_parse.proofs.Follows.{follows_then, follows_map, follows_map_by, follows_behind_pass, follows_passes}
use Rattle.mql_parse.proofs.Follows.{follows_skip, taken, follows_taken, follows_here, sign_follows, up_to_follows}
use Rattle.mql_parse.proofs.FollowTurns.{FollowsTurn, follows_done, follows_again, turn_follows_from, turn_follows_if}
use Rattle.mql_parse.proofs.FollowTurns.{turn_next_taken, follows_on_read, repetition_follows}
use Rattle.mql_parse.proofs.FollowTokens.{no_counts, exact_follows, apart_follows, positive_next_follows}
use Rattle.mql_parse.proofs.FollowTokens.{duration_follows}
use Rattle.mql_parse.proofs.FollowSums.{constant_tests, items_follows}
use Rattle.mql_parse.proofs.FollowPredicates.{SameBar, predicate_follows}
use Rattle.mql_parse.proofs.FollowFolds.{name_any, names_follows, aggregates_follows}

word_apart_follows : (x : Swap) (word : List ℕ) (w : What) → no_counts word ≡ true →
    FollowsPass x here here (pipes.word_apart word w) (pipes.word_apart word w)
word_apart_follows x word w n =
    follows_passes x here here here (exact what.Operation word) (apart w) (exact_follows x what.Operation word n)
    (apart_follows x w)

-- a keyword, and what stands behind it
word_then : {A : Type 0} (x : Swap) (G : A → A → Type 0) (word : List ℕ) (w : What) (one two : Rest → Outcome A) →
    no_counts word ≡ true → Follows x next next G one two →
    Follows x here next G (λ t. pipes.word_apart word w t >>= one) (λ t. pipes.word_apart word w t >>= two)
word_then x G word w one two n k =
    follows_behind_pass x here here next G (pipes.word_apart word w) (pipes.word_apart word w) one two
    (word_apart_follows x word w n) (follows_from x next G one two k)

duration_next : (x : Swap) → Follows x next next Any reading.duration reading.duration
duration_next x = follows_to x next Any reading.duration reading.duration (duration_follows x)

aligned_for_follows : (x : Swap) (word : List ℕ) → no_counts word ≡ true →
    Follows x here next Any (pipes.aligned_for word) (pipes.aligned_for word)
aligned_for_follows x word n =
    let closed = λ (k : Rest). up_to_sign 41 what.CloseParenthesis (reading.duration k) in
    let opened = λ (m : Rest). sign 40 what.OpenParenthesis m >>= closed in
    follows_behind_pass x here here next Any (exact what.Aligner word) (exact what.Aligner word) opened opened
    (exact_follows x what.Aligner word n)
    (follows_from x next Any opened opened (follows_behind_pass x next next next Any (sign 40 what.OpenParenthesis)
    (sign 40 what.OpenParenthesis) closed closed (sign_follows x 40 what.OpenParenthesis what.OpenParenthesis refl)
    (up_to_follows x 41 what.CloseParenthesis reading.duration reading.duration refl (duration_next x))))

aligner_follows : (x : Swap) → Follows x here next Any pipes.aligner_here pipes.aligner_here
aligner_follows x =
    let delta = λ (t : Rest). map_outcome (λ z. Align (aligner.Delta z)) (pipes.aligned_for (codes "delta") t) in
    let older = λ (t : Rest). map_outcome (λ z. Align (aligner.NextOlder z))
    (pipes.aligned_for (codes "next_older") t) in
    follows_taken x 100 next Any delta delta _ _ refl
    (taken x 100 next Any delta delta
    (follows_map x here next (λ z. Align (aligner.Delta z)) (λ z. Align (aligner.Delta z))
    (pipes.aligned_for (codes "delta")) (pipes.aligned_for (codes "delta"))
    (aligned_for_follows x (codes "delta") refl)))
    (follows_taken x 110 next Any older older (λ t. Err (unexpected_fault what.Aligner t))
    (λ t. Err (unexpected_fault what.Aligner t)) refl
    (taken x 110 next Any older older
    (follows_map x here next (λ z. Align (aligner.NextOlder z)) (λ z. Align (aligner.NextOlder z))
    (pipes.aligned_for (codes "next_older")) (pipes.aligned_for (codes "next_older"))
    (aligned_for_follows x (codes "next_older") refl)))
    (follows_unexpected x next Any what.Aligner what.Aligner))

align_follows : (x : Swap) → Follows x here next Any pipes.align pipes.align
unfolding pipes.align
align_follows x =
    let aligned = λ (m : Rest). pipes.aligner_here (skip m) in
    word_then x Any (codes "align") what.Aligner aligned aligned refl
    (follows_skip x next Any pipes.aligner_here pipes.aligner_here (aligner_follows x))

group_by_follows : (x : Swap) → Follows x here next Any pipes.group_by pipes.group_by
unfolding pipes.group_by
group_by_follows x =
    let folded = λ (ns : List Name) (k : Rest). map_outcome (λ all. GroupBy ns all) (folds.aggregates k) in
    let behind_names = λ (ns : List Name) (r : Rest). sign 44 what.Comma r >>= folded ns in
    let named = λ (m : Rest). folds.names m >>= λ columns. behind_names columns.0 columns.1 in
    let opened = λ (m : Rest). sign 91 what.OpenBracket m >>= named in
    follows_behind_pass x here here next Any (exact what.Operation (codes "group_by"))
    (exact what.Operation (codes "group_by")) opened opened (exact_follows x what.Operation (codes "group_by") refl)
    (follows_from x next Any opened opened (follows_behind_pass x next next next Any (sign 91 what.OpenBracket)
    (sign 91 what.OpenBracket) named named (sign_follows x 91 what.OpenBracket what.OpenBracket refl)
    (follows_then x next next next Any folds.names folds.names (λ columns. behind_names columns.0 columns.1)
    (λ columns. behind_names columns.0 columns.1) (names_follows x)
    (λ ns ms. follows_behind_pass x next next next Any (sign 44 what.Comma) (sign 44 what.Comma) (folded ns)
    (folded ms) (sign_follows x 44 what.Comma what.Comma refl)
    (follows_map x next next (λ all. GroupBy ns all) (λ all. GroupBy ms all) folds.aggregates folds.aggregates
    (aggregates_follows x))))))

value_follows : (x : Swap) (d : ℕ) → Follows x here next Any (pipes.value d) (pipes.value d)
unfolding pipes.value
value_follows x d =
    let listed = λ (r : Rest). map_outcome Value (sums.items d r) in
    let opened = λ (m : Rest). sign 91 what.OpenBracket m >>= listed in
    follows_behind_pass x here here next Any (exact what.Operation (codes "value"))
    (exact what.Operation (codes "value")) opened opened (exact_follows x what.Operation (codes "value") refl)
    (follows_from x next Any opened opened (follows_behind_pass x next next next Any (sign 91 what.OpenBracket)
    (sign 91 what.OpenBracket) listed listed (sign_follows x 91 what.OpenBracket what.OpenBracket refl)
    (follows_map x next next Value Value (sums.items d) (sums.items d) (items_follows x d))))

top_follows : (x : Swap) → Follows x here next Any pipes.top pipes.top
unfolding pipes.top
top_follows x =
    let column = λ (n : ℕ) (k : Rest). map_outcome (λ c. Top n c) (reading.name k) in
    let behind_number = λ (n : ℕ) (r : Rest). sign 44 what.Comma r >>= column n in
    let counted = λ (m : Rest). reading.positive 16777216 m >>= λ n. behind_number n.0 n.1 in
    word_then x Any (codes "top") what.Number counted counted refl
    (follows_then x next next next Any (reading.positive 16777216) (reading.positive 16777216)
    (λ n. behind_number n.0 n.1) (λ n. behind_number n.0 n.1) (positive_next_follows x 16777216)
    (λ m n. follows_behind_pass x next next next Any (sign 44 what.Comma) (sign 44 what.Comma) (column m) (column n)
    (sign_follows x 44 what.Comma what.Comma refl)
    (follows_map x next next (λ c. Top m c) (λ c. Top n c) reading.name reading.name (name_any x))))

duration_deed_follows : (x : Swap) (deed : ℤ → DeedTree) (word : List ℕ) → no_counts word ≡ true →
    Follows x here next Any (pipes.duration_deed deed word) (pipes.duration_deed deed word)
unfolding pipes.duration_deed
duration_deed_follows x deed word n =
    let counted = λ (m : Rest). map_outcome deed (reading.duration m) in
    word_then x Any word what.Number counted counted n
    (follows_map x next next deed deed reading.duration reading.duration (duration_next x))

deed_follows : (x : Swap) (d : ℕ) → Follows x here next Any (pipes.deed_here d) (pipes.deed_here d)
unfolding pipes.deed_here
deed_follows x d =
    follows_taken x 97 next Any pipes.align pipes.align _ _ refl (taken x 97 next Any _ _ (align_follows x))
    (follows_taken x 103 next Any pipes.group_by pipes.group_by _ _ refl
    (taken x 103 next Any _ _ (group_by_follows x))
    (follows_taken x 118 next Any (pipes.value d) (pipes.value d) _ _ refl
    (taken x 118 next Any _ _ (value_follows x d))
    (follows_taken x 116 next Any pipes.top pipes.top _ _ refl (taken x 116 next Any _ _ (top_follows x))
    (follows_taken x 101 next Any (pipes.duration_deed Every (codes "every"))
    (pipes.duration_deed Every (codes "every")) _ _ refl
    (taken x 101 next Any _ _ (duration_deed_follows x Every (codes "every") refl))
    (follows_taken x 119 next Any (pipes.duration_deed Within (codes "within"))
    (pipes.duration_deed Within (codes "within")) (λ t. Err (unexpected_fault what.Operation t))
    (λ t. Err (unexpected_fault what.Operation t)) refl
    (taken x 119 next Any _ _ (duration_deed_follows x Within (codes "within") refl))
    (follows_unexpected x next Any what.Operation what.Operation))))))

bar_itself : {A : Type 0} (y : A × Bool) → SameBar y y
bar_itself y = refl

filter_follows : (x : Swap) (d : ℕ) → Follows x here next SameBar (pipes.filter_here d) (pipes.filter_here d)
filter_follows x d =
    let filtered : ℕ → PredicateTree × Bool → OpTree × Bool = λ n y. (pipes.op_at n (Filter y.0), y.1) in
    let read = λ (n : ℕ) (m : Rest). map_outcome (filtered n) (predicates.predicate d m) in
    let from_word = λ (n : ℕ) (t : Rest). pipes.word_apart (codes "filter") what.Name t >>= read n in
    follows_here x next SameBar from_word from_word
    (λ m n. word_then x SameBar (codes "filter") what.Name (read m) (read n) refl
    (follows_map_by x next next SameBar SameBar (filtered m) (filtered n) (predicates.predicate d)
    (predicates.predicate d) bar_itself (λ a b g. g) (predicate_follows x d)))

operation_follows : (x : Swap) (d : ℕ) → Follows x next next SameBar (pipes.operation d) (pipes.operation d)
unfolding pipes.operation
operation_follows x d =
    let unbarred : ℕ → DeedTree → OpTree × Bool = λ n deed. (pipes.op_at n deed, false) in
    let other = λ (n : ℕ) (t : Rest). map_outcome (unbarred n) (pipes.deed_here d t) in
    let read = λ (t : Rest). if head t == 102 then pipes.filter_here d t else other t.at t in
    follows_skip x next SameBar read read
    (follows_taken x 102 next SameBar (pipes.filter_here d) (pipes.filter_here d) (λ t. other t.at t)
    (λ t. other t.at t) refl
    (taken x 102 next SameBar (pipes.filter_here d) (pipes.filter_here d) (filter_follows x d))
    (follows_here x next SameBar other other
    (λ m n. follows_map_by x here next Any SameBar (unbarred m) (unbarred n) (pipes.deed_here d) (pipes.deed_here d)
    (λ a. tt) (λ a b g. refl) (deed_follows x d))))

operation_from_follows : (x : Swap) (d : ℕ) (one two : List OpTree) →
    FollowsTurn x next SameBar (pipes.operation_from d one) (pipes.operation_from d two)
operation_from_follows x d one two =
    follows_on_read x next SameBar SameBar (λ y. Again (pipes.with_op one y.0) y.1)
    (λ y. Again (pipes.with_op two y.0) y.1) (pipes.operation d) (pipes.operation d) bar_itself
    (operation_follows x d)
    (λ a b g. follows_again x SameBar (pipes.with_op one a) (pipes.with_op two b) g)

operation_turn_follows : (x : Swap) (d : ℕ) (one two : List OpTree × Bool) → SameBar one two →
    FollowsTurn x next SameBar (pipes.operation_turn d one) (pipes.operation_turn d two)
unfolding pipes.operation_turn
operation_turn_follows x d one two g =
    turn_follows_if x next SameBar (λ s. one.1) (λ s. two.1) (pipes.operation_from d one.0)
    (pipes.operation_from d two.0) _ _ (constant_tests x next one.1 two.1 (sym g))
    (operation_from_follows x d one.0 two.0)
    (turn_next_taken x 124 SameBar (pipes.operation_from d one.0) (pipes.operation_from d two.0) (λ s. Done one s)
    (λ s. Done two s) refl
    (turn_follows_from x SameBar (pipes.operation_from d one.0) (pipes.operation_from d two.0)
    (operation_from_follows x d one.0 two.0))
    (follows_done x SameBar one two g))

pub operations_follows : (x : Swap) (d : ℕ) → Follows x next next Any (pipes.operations d) (pipes.operations d)
unfolding pipes.operations
operations_follows x d =
    let ops : List OpTree × Bool → List OpTree = λ y. y.0 in
    let all = λ (s : Rest). repetition (pipes.operation_turn d) ([], false) s in
    follows_map_by x next next SameBar Any ops ops all all bar_itself (λ a b g. tt)
    (repetition_follows x SameBar (pipes.operation_turn d) (operation_turn_behind d) bar_itself
    (operation_turn_follows x d) ([], false) ([], false) refl)
