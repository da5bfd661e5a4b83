-- What operations expect comes first.
use Rattle.std.proofs.Common.{◌≡◌, ℕ, ℤ, Bool, true, false, ◌==◌, List, ◌∷◌, codes, refl, if◌then◌else◌, Ok, Err}
use Rattle.mon_value.specs.Answers.{◌>>=◌}
use Rattle.mql_ast.specs.declared.names.Name.{Name}
use Rattle.mql_ast.specs.Trees.{PredicateTree, DeedTree, Filter, GroupBy, Value, Top, Every, Within, OpTree}
use Rattle.mql_ast.specs.Tokens.{Rest, skip}
use Rattle.mql_parse.specs.declared.faults.What.{What}
use Rattle.mql_parse.specs.declared.faults.What.TheVariants as what
use Rattle.mql_parse.specs.Outcomes.{Outcome, unexpected_fault, sign, map_outcome, up_to_sign}
use Rattle.mql_parse.specs.TokenReading as reading
use Rattle.mql_parse.specs.SumReading as sums
use Rattle.mql_parse.specs.PredicateReading as predicates
use Rattle.mql_parse.specs.Folds as folds
use Rattle.mql_parse.specs.PipeReading as pipes
use Rattle.mql_parse.specs.Steadiness.{next}
use Rattle.mql_parse.proofs.Firsts.{Spot, Begun, Meets, Before, First, NoMore, first_to, first_next, first_bind}
use Rattle.mql_parse.proofs.Firsts.{first_unexpected, meets_then, meets_map, meets_of, meets_from, meets_to}
use Rattle.mql_parse.proofs.Firsts.{meets_behind_pass, meets_up_to, before_skip, before_unexpected, before_next}
use Rattle.mql_parse.proofs.Firsts.{before_bind, meets_ok, sign_to}
use Rattle.mql_parse.proofs.FirstBytes.{at_byte, at_bytes, comma_begins, opening_begins, closing_begins}
use Rattle.mql_parse.proofs.FirstBytes.{open_bracket_begins}
use Rattle.mql_parse.proofs.FirstTokens.{all_solid, meets_name}
use Rattle.mql_parse.proofs.FirstNumbers.{first_positive, meets_positive, first_duration, meets_duration}
use Rattle.mql_parse.proofs.FirstSums.{items_meets}
use Rattle.mql_parse.proofs.FirstFilters.{BarGoes, FilterGoes, predicate_meets, predicate_first}
use Rattle.mql_parse.proofs.FirstFolds.{CommaGoes, names_meets, aggregates_meets}
use Rattle.mql_parse.proofs.FirstKeywords.{Keyword, keyword, keyword_map, keyword_here, keyword_apart, first_keyword}
use Rattle.mql_parse.proofs.FirstKeywords.{before_keyword, first_map}

-- what may go on an operation, where its bar was not read too: a comma behind aggregates, or another bar
abbrev pub op_on : Bool → What
op_on groups = if groups then what.Comma else what.Bar

abbrev pub DeedGoes : Spot → DeedTree → Type 0
DeedGoes x deed = Begun x (op_on (pipes.is_group_by deed))

abbrev pub OnBar : Spot → Bool → Bool → Type 0
OnBar x true groups = ⊥
OnBar x false groups = Begun x (op_on groups)

abbrev pub OpGoes : Spot → OpTree × Bool → Type 0
OpGoes x read = OnBar x read.1 (pipes.is_group_by read.0.what)

-- aligners
abbrev closed : Rest → Outcome ℤ
closed k = up_to_sign 41 what.CloseParenthesis (reading.duration k)

abbrev opened : Rest → Outcome ℤ
opened m = sign 40 what.OpenParenthesis m >>= closed

opened_meets : (x : Spot) → Meets x next next NoMore opened
opened_meets x =
    meets_behind_pass x next next next NoMore (sign 40 what.OpenParenthesis) closed
    (sign_to x 40 what.OpenParenthesis refl (opening_begins x what.OpenParenthesis refl))
    (meets_up_to x next NoMore NoMore 41 what.CloseParenthesis reading.duration refl
    (closing_begins x what.CloseParenthesis refl) (λ y h. absurd h)
    (meets_to x next NoMore reading.duration (meets_duration x)))

aligned_keyword : (x : Spot) (c : ℕ) (cs : List ℕ) (deed : ℤ → DeedTree) → (0 == c) ≡ false →
    all_solid (c ∷ cs) ≡ true → Keyword x (DeedGoes x) c cs (λ t. map_outcome deed (pipes.aligned_for (c ∷ cs) t))
aligned_keyword x c cs deed z h =
    keyword_map x NoMore (DeedGoes x) c cs deed (pipes.aligned_for (c ∷ cs)) (λ y n. absurd n)
    (keyword x NoMore what.Aligner c cs opened z h (meets_from x next NoMore opened (opened_meets x)))

aligner_first : (x : Spot) → First x next next what.Aligner (λ m. pipes.aligner_here (skip m))
aligner_first x =
    first_keyword x (DeedGoes x) what.Aligner 100 (codes "elta") _ _ (aligned_keyword x 100 (codes "elta") _ refl refl)
    (λ h k. at_byte x what.Aligner what.Aligner 100 refl refl h)
    (first_keyword x (DeedGoes x) what.Aligner 110 (codes "ext_older") _
    (λ m. Err (unexpected_fault what.Aligner (skip m)))
    (aligned_keyword x 110 (codes "ext_older") _ refl refl)
    (λ h k. at_byte x what.Aligner what.Aligner 110 refl refl h)
    (first_unexpected x next what.Aligner))

aligner_before : (x : Spot) → Before x next next (DeedGoes x) (λ m. pipes.aligner_here (skip m))
aligner_before x =
    before_keyword x (DeedGoes x) 100 (codes "elta") _ _ (aligned_keyword x 100 (codes "elta") _ refl refl)
    (before_keyword x (DeedGoes x) 110 (codes "ext_older") _ (λ m. Err (unexpected_fault what.Aligner (skip m)))
    (aligned_keyword x 110 (codes "ext_older") _ refl refl)
    (before_skip x next (DeedGoes x) (λ t. Err (unexpected_fault what.Aligner t))
    (before_unexpected x next (DeedGoes x) what.Aligner)))

align_keyword : (x : Spot) → Keyword x (DeedGoes x) 97 (codes "lign") pipes.align
unfolding pipes.align
align_keyword x =
    keyword_apart x (DeedGoes x) 97 (codes "lign") what.Aligner (λ m. pipes.aligner_here (skip m)) refl refl
    (aligner_first x)
    (meets_of x next next (DeedGoes x) what.Aligner (λ m. pipes.aligner_here (skip m)) (aligner_first x)
    (aligner_before x))

-- group_by, value, top, every and within
abbrev folded : List Name → Rest → Outcome DeedTree
folded ns k = map_outcome (λ all. GroupBy ns all) (folds.aggregates k)

abbrev behind_names : List Name → Rest → Outcome DeedTree
behind_names ns r = sign 44 what.Comma r >>= folded ns

abbrev grouped : Rest → Outcome DeedTree
grouped m = folds.names m >>= λ columns. behind_names columns.0 columns.1

abbrev group_opened : Rest → Outcome DeedTree
group_opened m = sign 91 what.OpenBracket m >>= grouped

group_opened_meets : (x : Spot) → Meets x next next (DeedGoes x) group_opened
group_opened_meets x =
    let G = DeedGoes x in
    meets_behind_pass x next next next G (sign 91 what.OpenBracket) grouped
    (sign_to x 91 what.OpenBracket refl (open_bracket_begins x what.OpenBracket refl))
    (meets_then x next next next G folds.names (λ columns. behind_names columns.0 columns.1) (names_meets x)
    (λ ns. meets_behind_pass x next next next G (sign 44 what.Comma) (folded ns)
    (sign_to x 44 what.Comma refl (comma_begins x what.Comma refl))
    (meets_map x next next (CommaGoes x) G (λ all. GroupBy ns all) folds.aggregates (λ all g. g) (aggregates_meets x))))

group_by_keyword : (x : Spot) → Keyword x (DeedGoes x) 103 (codes "roup_by") pipes.group_by
unfolding pipes.group_by
group_by_keyword x = keyword x (DeedGoes x) what.Operation 103 (codes "roup_by") group_opened refl refl
    (meets_from x next (DeedGoes x) group_opened (group_opened_meets x))

abbrev items_opened : ℕ → Rest → Outcome DeedTree
items_opened d m = sign 91 what.OpenBracket m >>= λ r. map_outcome Value (sums.items d r)

value_keyword : (x : Spot) (d : ℕ) → Keyword x (DeedGoes x) 118 (codes "alue") (pipes.value d)
unfolding pipes.value
value_keyword x d = keyword x (DeedGoes x) what.Operation 118 (codes "alue") (items_opened d) refl refl
    (meets_from x next (DeedGoes x) (items_opened d)
    (meets_behind_pass x next next next (DeedGoes x) (sign 91 what.OpenBracket)
    (λ r. map_outcome Value (sums.items d r))
    (sign_to x 91 what.OpenBracket refl (open_bracket_begins x what.OpenBracket refl))
    (meets_map x next next NoMore (DeedGoes x) Value (sums.items d) (λ y n. absurd n) (items_meets x d))))

abbrev behind_number : ℕ → Rest → Outcome DeedTree
behind_number n r = sign 44 what.Comma r >>= λ k. map_outcome (λ column. Top n column) (reading.name k)

abbrev counted : Rest → Outcome DeedTree
counted m = reading.positive 16777216 m >>= λ n. behind_number n.0 n.1

behind_number_meets : (x : Spot) (n : ℕ) → Meets x next next (DeedGoes x) (behind_number n)
behind_number_meets x n =
    meets_behind_pass x next next next (DeedGoes x) (sign 44 what.Comma)
    (λ k. map_outcome (λ column. Top n column) (reading.name k))
    (sign_to x 44 what.Comma refl (comma_begins x what.Comma refl))
    (meets_map x next next NoMore (DeedGoes x) (λ column. Top n column) reading.name (λ y h. absurd h)
    (meets_to x next NoMore reading.name (meets_name x)))

top_keyword : (x : Spot) → Keyword x (DeedGoes x) 116 (codes "op") pipes.top
unfolding pipes.top
top_keyword x =
    keyword_apart x (DeedGoes x) 116 (codes "op") what.Number counted refl refl
    (first_bind x next next next what.Number (reading.positive 16777216) (λ n. behind_number n.0 n.1)
    (first_to x next what.Number (reading.positive 16777216) (first_positive x 16777216))
    (λ n. (behind_number_meets x n).steady))
    (meets_then x next next next (DeedGoes x) (reading.positive 16777216) (λ n. behind_number n.0 n.1)
    (meets_to x next NoMore (reading.positive 16777216) (meets_positive x 16777216)) (behind_number_meets x))

duration_keyword : (x : Spot) (deed : ℤ → DeedTree) (c : ℕ) (cs : List ℕ) → (0 == c) ≡ false →
    all_solid (c ∷ cs) ≡ true → Keyword x (DeedGoes x) c cs (pipes.duration_deed deed (c ∷ cs))
unfolding pipes.duration_deed
duration_keyword x deed c cs z h =
    keyword_apart x (DeedGoes x) c cs what.Number (λ m. map_outcome deed (reading.duration m)) z h
    (first_map x what.Number deed reading.duration (first_to x next what.Number reading.duration (first_duration x)))
    (meets_map x next next NoMore (DeedGoes x) deed reading.duration (λ y n. absurd n)
    (meets_to x next NoMore reading.duration (meets_duration x)))

deed_first : (x : Spot) (d : ℕ) → First x next next what.Operation (λ s. pipes.deed_here d (skip s))
unfolding pipes.deed_here
deed_first x d =
    let G = DeedGoes x in
    let w = what.Operation in
    first_keyword x G w 97 (codes "lign") _ _ (align_keyword x)
    (at_bytes x w w 97 108 refl refl)
    (first_keyword x G w 103 (codes "roup_by") _ _ (group_by_keyword x)
    (λ h k. at_byte x w w 103 refl refl h)
    (first_keyword x G w 118 (codes "alue") _ _ (value_keyword x d)
    (λ h k. at_byte x w w 118 refl refl h)
    (first_keyword x G w 116 (codes "op") _ _ (top_keyword x)
    (at_bytes x w w 116 111 refl refl)
    (first_keyword x G w 101 (codes "very") _ _ (duration_keyword x Every 101 (codes "very") refl refl)
    (λ h k. at_byte x w w 101 refl refl h)
    (first_keyword x G w 119 (codes "ithin") _ (λ s. Err (unexpected_fault w (skip s)))
    (duration_keyword x Within 119 (codes "ithin") refl refl)
    (λ h k. at_byte x w w 119 refl refl h)
    (first_unexpected x next w))))))

deed_before : (x : Spot) (d : ℕ) → Before x next next (DeedGoes x) (λ s. pipes.deed_here d (skip s))
unfolding pipes.deed_here
deed_before x d =
    let G = DeedGoes x in
    before_keyword x G 97 (codes "lign") _ _ (align_keyword x)
    (before_keyword x G 103 (codes "roup_by") _ _ (group_by_keyword x)
    (before_keyword x G 118 (codes "alue") _ _ (value_keyword x d)
    (before_keyword x G 116 (codes "op") _ _ (top_keyword x)
    (before_keyword x G 101 (codes "very") _ _ (duration_keyword x Every 101 (codes "very") refl refl)
    (before_keyword x G 119 (codes "ithin") _ (λ s. Err (unexpected_fault what.Operation (skip s)))
    (duration_keyword x Within 119 (codes "ithin") refl refl)
    (before_skip x next G (λ t. Err (unexpected_fault what.Operation t))
    (before_unexpected x next G what.Operation)))))))

-- filters
abbrev filtered : ℕ → PredicateTree × Bool → OpTree × Bool
filtered n read = (pipes.op_at n (Filter read.0), read.1)

filter_goes : (x : Spot) (bar : Bool) → BarGoes x bar → OnBar x bar false
filter_goes x true h = h
filter_goes x false h = h

filter_keyword : (x : Spot) (d : ℕ) → Keyword x (OpGoes x) 102 (codes "ilter") (pipes.filter_here d)
filter_keyword x d =
    keyword_here x (OpGoes x) 102 (codes "ilter")
    (λ n t. pipes.word_apart (codes "filter") what.Name t >>= λ m. map_outcome (filtered n) (predicates.predicate d m))
    (λ n. keyword_apart x (OpGoes x) 102 (codes "ilter") what.Name
    (λ m. map_outcome (filtered n) (predicates.predicate d m)) refl refl
    (first_map x what.Name (filtered n) (predicates.predicate d) (predicate_first x d))
    (meets_map x next next (FilterGoes x) (OpGoes x) (filtered n) (predicates.predicate d)
    (λ y g. filter_goes x y.1 g) (predicate_meets x d)))

abbrev unbarred : ℕ → DeedTree → OpTree × Bool
unbarred n deed = (pipes.op_at n deed, false)

abbrev other : ℕ → ℕ → Rest → Outcome (OpTree × Bool)
other d n s = map_outcome (unbarred n) (pipes.deed_here d (skip s))

pub operation_first : (x : Spot) (d : ℕ) → First x next next what.Operation (pipes.operation d)
unfolding pipes.operation
operation_first x d =
    first_keyword x (OpGoes x) what.Operation 102 (codes "ilter") (pipes.filter_here d) (λ s. other d (skip s).at s)
    (filter_keyword x d) (at_bytes x what.Operation what.Operation 102 105 refl refl)
    (first_next x next what.Operation (other d)
    (λ n. first_map x what.Operation (unbarred n) (λ s. pipes.deed_here d (skip s)) (deed_first x d)))

operation_before : (x : Spot) (d : ℕ) → Before x next next (OpGoes x) (pipes.operation d)
unfolding pipes.operation
operation_before x d =
    before_keyword x (OpGoes x) 102 (codes "ilter") (pipes.filter_here d) (λ s. other d (skip s).at s)
    (filter_keyword x d)
    (before_next x next (OpGoes x) (other d)
    (λ n. before_bind x next next next (DeedGoes x) (OpGoes x) (λ s. pipes.deed_here d (skip s))
    (λ y. Ok (unbarred n y.0, y.1)) (deed_before x d) (λ deed. meets_ok x next (OpGoes x) (unbarred n deed))
    (λ deed r g e l. (e, g))))

pub operation_meets : (x : Spot) (d : ℕ) → Meets x next next (OpGoes x) (pipes.operation d)
operation_meets x d = meets_of x next next (OpGoes x) what.Operation (pipes.operation d) (operation_first x d)
    (operation_before x d)
