-- What the names and aggregates of `group_by` expect comes first.
use Rattle.std.proofs.Common.{◌≡◌, ◌⊎◌, inl, inr, ℕ, Bool, true, false, ◌==◌, List, [], ◌∷◌, ◌++◌, codes, refl, sym}
use Rattle.std.proofs.Common.{ap, subst, if◌then◌else◌, Option, Some, None, Ok, Err}
use Rattle.mon_value.specs.Answers.{◌>>=◌}
use Rattle.mql_ast.specs.declared.names.Name.{Name}
use Rattle.mql_ast.specs.declared.operations.Aggregate.{Aggregate}
use Rattle.mql_ast.specs.declared.operations.FoldWord.{FoldWord}
use Rattle.mql_ast.specs.declared.operations.FoldWord.TheVariants as fold
use Rattle.mql_ast.specs.Tokens.{is_blank, Rest, first_of, head, behind, skip}
use Rattle.mql_parse.specs.declared.faults.What.{What}
use Rattle.mql_parse.specs.declared.faults.What.TheVariants as what
use Rattle.mql_parse.specs.Outcomes.{Outcome, unexpected_fault, exact, sign, up_to_sign}
use Rattle.mql_parse.specs.Repeats.{Done, Again, on_read, repetition, list_turn}
use Rattle.mql_parse.specs.TokenReading as reading
use Rattle.mql_parse.specs.Folds as folds
use Rattle.mql_parse.specs.Steadiness.{here, next}
use Rattle.mql_parse.proofs.RestLemmas.{skip_off}
use Rattle.mql_parse.proofs.Spots.{beyond}
use Rattle.mql_parse.proofs.ListSound.{names_turn_behind, aggregates_turn_behind}
use Rattle.mql_parse.proofs.Steady.{steady_from, steady_ok}
use Rattle.mql_parse.proofs.FoldSteady.{aggregate_turn_steady}
use Rattle.mql_parse.proofs.Firsts.{Spot, Begun, Failed, failed_bind, begun_later, WentOutcome, Meets, Before, First}
use Rattle.mql_parse.proofs.Firsts.{NoMore, passed_far, first_went, first_to, first_next, first_bind, first_if}
use Rattle.mql_parse.proofs.Firsts.{first_if_or, first_unexpected, meets_then, meets_ok, meets_map, meets_of, meets_to}
use Rattle.mql_parse.proofs.Firsts.{meets_by, meets_behind_pass, meets_up_to, before_of, before_if, before_if_here}
use Rattle.mql_parse.proofs.Firsts.{before_skip, before_behind, before_part_behind, before_unexpected, before_next}
use Rattle.mql_parse.proofs.Firsts.{before_to, before_then, sign_to}
use Rattle.mql_parse.proofs.FirstBytes.{at_byte, at_bytes, comma_begins, opening_begins, closing_begins}
use Rattle.mql_parse.proofs.FirstBytes.{close_bracket_begins, colon_begins}
use Rattle.mql_parse.proofs.FirstTokens.{all_solid, second_or, exact_fails, meets_unexpected, meets_if_here}
use Rattle.mql_parse.proofs.FirstTokens.{far_behind, meets_exact, keyword_far, first_name, meets_name}
use Rattle.mql_parse.proofs.FirstTurns.{meets_either, skip_far, turn_read, OfState, Stopped, turn_if_read}
use Rattle.mql_parse.proofs.FirstTurns.{on_read_read, meets_repetition, meets_list, first_list, first_part}
use Rattle.mon_value.proofs.PlainLemmas.{equal_numbers}

-- names between brackets
listed_names : (x : Spot) → Meets x next next NoMore (λ s. repetition (list_turn 93 what.CloseBracket reading.name) []
    s)
listed_names x = meets_list x NoMore 93 what.CloseBracket reading.name refl
    (comma_begins x what.CloseBracket refl) (close_bracket_begins x what.CloseBracket refl)
    (λ n g. absurd g) (meets_to x next NoMore reading.name (meets_name x)) names_turn_behind

names_first : (x : Spot) → First x next next what.Name folds.names
unfolding folds.names
names_first x =
    first_if x next what.Name (λ b. b == 93) (λ s. Ok ([], behind (skip s))) _
    (λ s e h. passed_far {A = List Name} x next what.Name (λ b. b == 93) refl (λ r. Ok ([], r))
    (steady_from next (λ r. Ok ([], r)) (steady_ok next [])) s e h)
    (close_bracket_begins x what.Name refl)
    (first_list x NoMore 93 what.CloseBracket reading.name refl
    (comma_begins x what.CloseBracket refl) (close_bracket_begins x what.CloseBracket refl)
    (λ n g. absurd g) (meets_to x next NoMore reading.name (meets_name x)) names_turn_behind what.Name
    (first_to x next what.Name reading.name (first_name x)))

names_before : (x : Spot) → Before x next next NoMore folds.names
unfolding folds.names
names_before x = before_if x next NoMore (λ b. b == 93) (λ s. Ok ([], behind (skip s))) _
    (before_part_behind x next NoMore (λ s. Ok ([], s)) (meets_ok x next NoMore []))
    (before_of x next next NoMore (λ s. repetition (list_turn 93 what.CloseBracket reading.name) [] s) (listed_names x))

pub names_meets : (x : Spot) → Meets x next next NoMore folds.names
names_meets x = meets_of x next next NoMore what.Name folds.names (names_first x) (names_before x)

-- the words of folds
read_as_meets : (x : Spot) (word : FoldWord) (rest : List ℕ) → all_solid rest ≡ true →
    Meets x here here NoMore (folds.fold_word_from word rest)
read_as_meets x word rest h = meets_behind_pass x here here here NoMore (exact what.Aggregate rest) (λ r. Ok (word, r))
    (meets_exact x what.Aggregate rest h) (meets_ok x here NoMore word)

letter_meets : (x : Spot) (b : ℕ) (read other : Rest → Outcome FoldWord) → (0 == b) ≡ false → (10 == b) ≡ false →
    Meets x here here NoMore read → Meets x here here NoMore other →
    Meets x here here NoMore (λ s. if head s == b then read (behind s) else other s)
letter_meets x b read other z blank f g =
    meets_if_here x here NoMore (λ c. c == b) (λ s. read (behind s)) other blank
    (far_behind x here NoMore (λ c. c == b) z read f.steady) (before_behind x here NoMore read f) g

fold_behind_me_meets : (x : Spot) → Meets x here here NoMore folds.fold_behind_me
fold_behind_me_meets x =
    letter_meets x 97 (folds.fold_word_from fold.Mean (codes "n")) _ refl refl
    (read_as_meets x fold.Mean (codes "n") refl)
    (letter_meets x 114 (folds.fold_word_from fold.Merge (codes "ge")) (λ s. Err (unexpected_fault what.Aggregate s))
    refl refl
    (read_as_meets x fold.Merge (codes "ge") refl) (meets_unexpected x here NoMore what.Aggregate))

fold_behind_m_meets : (x : Spot) → Meets x here here NoMore folds.fold_behind_m
unfolding folds.fold_behind_m
fold_behind_m_meets x =
    letter_meets x 105 (folds.fold_word_from fold.Min (codes "n")) _ refl refl
    (read_as_meets x fold.Min (codes "n") refl)
    (letter_meets x 97 (folds.fold_word_from fold.Max (codes "x")) _ refl refl
    (read_as_meets x fold.Max (codes "x") refl)
    (letter_meets x 101 folds.fold_behind_me (λ s. Err (unexpected_fault what.Aggregate s)) refl refl
    (fold_behind_me_meets x)
    (meets_unexpected x here NoMore what.Aggregate)))

fold_first : (x : Spot) → First x next here what.Aggregate (λ s. folds.fold_here (skip s))
unfolding folds.fold_here
fold_first x =
    first_if x here what.Aggregate (λ b. b == 99) _ _
    (λ s e h. keyword_far x here what.Aggregate what.Aggregate 99 (codes "ount") (λ r. Ok (fold.Count, r)) refl
    (steady_ok here fold.Count) s e h)
    (at_byte x what.Aggregate what.Aggregate 99 refl refl)
    (first_if x here what.Aggregate (λ b. b == 115) _ _
    (λ s e h. keyword_far x here what.Aggregate what.Aggregate 115 (codes "um") (λ r. Ok (fold.Sum, r)) refl
    (steady_ok here fold.Sum) s e h)
    (at_byte x what.Aggregate what.Aggregate 115 refl refl)
    (first_if_or x here what.Aggregate (λ b. b == 97) _ _
    (λ s e h. keyword_far x here what.Aggregate what.Aggregate 97 (codes "ggregate") (λ r. Ok (fold.Aggregate, r)) refl
    (steady_ok here fold.Aggregate) s e h)
    (second_or x what.Aggregate 97 (codes "ggregate") (folds.fold_word_from fold.Aggregate (codes "aggregate"))
    (exact_fails what.Aggregate 97 (codes "ggregate") (λ r. Ok (fold.Aggregate, r)))
    (at_bytes x what.Aggregate what.Aggregate 97 103 refl refl))
    (first_if x here what.Aggregate (λ b. b == 109) (λ s. folds.fold_behind_m (behind (skip s)))
    (λ s. Err (unexpected_fault what.Aggregate (skip s)))
    (λ s e h. passed_far x here what.Aggregate (λ b. b == 109) refl folds.fold_behind_m (fold_behind_m_meets x).steady s
    e h)
    (at_byte x what.Aggregate what.Aggregate 109 refl refl) (first_unexpected x here what.Aggregate))))

fold_before : (x : Spot) → Before x here here NoMore folds.fold_here
unfolding folds.fold_here
fold_before x =
    let word = λ (w : FoldWord) (rest : List ℕ) (h : all_solid rest ≡ true).
    before_of x here here NoMore (folds.fold_word_from w rest) (read_as_meets x w rest h) in
    before_if_here x here NoMore (λ b. b == 99) _ _ (word fold.Count (codes "count") refl)
    (before_if_here x here NoMore (λ b. b == 115) _ _ (word fold.Sum (codes "sum") refl)
    (before_if_here x here NoMore (λ b. b == 97) _ _ (word fold.Aggregate (codes "aggregate") refl)
    (before_if_here x here NoMore (λ b. b == 109) (λ s. folds.fold_behind_m (behind s))
    (λ s. Err (unexpected_fault what.Aggregate s))
    (before_behind x here NoMore folds.fold_behind_m (fold_behind_m_meets x))
    (before_unexpected x here NoMore what.Aggregate))))

-- a fold from behind its word
folded_column_meets : (x : Spot) (word : FoldWord) → Meets x next next NoMore (folds.fold_column word)
folded_column_meets x word = by_word word
  where
    column : Meets x next next NoMore folds.some_column
    column = meets_map x next next NoMore NoMore Some reading.name (λ n h. h)
        (meets_to x next NoMore reading.name (meets_name x))

    by_word : (word : FoldWord) → Meets x next next NoMore (folds.fold_column word)
    by_word fold.Count = meets_ok x next NoMore None
    by_word fold.Sum = column
    by_word fold.Min = column
    by_word fold.Max = column
    by_word fold.Mean = column
    by_word fold.Merge = column
    by_word fold.Aggregate = column

fold_call_meets : (x : Spot) (at : ℕ) (label : Option Name) (word : FoldWord) →
    Meets x next next NoMore (folds.fold_call at label word)
unfolding folds.fold_call
fold_call_meets x at label word =
    let column = λ (s : Rest). up_to_sign 41 what.CloseParenthesis (folds.fold_column word s) in
    meets_map x next next NoMore NoMore (folds.aggregate_from at label word) column (λ y h. h)
    (meets_up_to x next NoMore NoMore 41 what.CloseParenthesis (folds.fold_column word) refl
    (closing_begins x what.CloseParenthesis refl) (λ y h. absurd h) (folded_column_meets x word))

abbrev call_of : Name → ℕ → FoldWord → Rest → Outcome Aggregate
call_of label at word r = sign 40 what.OpenParenthesis r >>= λ k. folds.fold_call at (Some label) word k

call_meets : (x : Spot) (label : Name) (at : ℕ) (word : FoldWord) → Meets x next next NoMore (call_of label at word)
call_meets x label at word =
    meets_behind_pass x next next next NoMore (sign 40 what.OpenParenthesis) (folds.fold_call at (Some label) word)
    (sign_to x 40 what.OpenParenthesis refl (opening_begins x what.OpenParenthesis refl))
    (fold_call_meets x at (Some label) word)

labelled_fold_meets : (x : Spot) (label : Name) → Meets x next next NoMore (folds.labelled_fold label)
labelled_fold_meets x label =
    let read = λ (at : ℕ) (s : Rest). folds.fold_here (skip s) >>= λ word. call_of label at word.0 word.1 in
    let word = λ (s : Rest). folds.fold_here (skip s) in
    meets_of x next next NoMore what.Aggregate (folds.labelled_fold label)
    (first_next x next what.Aggregate read
    (λ at. first_bind x next next next what.Aggregate word (λ w. call_of label at w.0 w.1)
    (first_to x next what.Aggregate word (fold_first x)) (λ w. (call_meets x label at w).steady)))
    (before_next x next NoMore read
    (λ at. before_then x next next next NoMore word (λ w. call_of label at w.0 w.1)
    (before_to x next NoMore word (before_skip x here NoMore folds.fold_here (fold_before x)))
    (λ w. call_meets x label at w)))

-- behind the first name of an aggregate
abbrev behind_name : Option FoldWord → What
behind_name None = what.Colon
behind_name (Some word) = what.OpenParenthesis

bare_fold_first : (x : Spot) (at : ℕ) (o : Option FoldWord) →
    First x next next (behind_name o) (λ r. folds.bare_fold at o (skip r))
bare_fold_first x at None = first_unexpected x next what.Colon
bare_fold_first x at (Some word) =
    first_if x next what.OpenParenthesis (λ b. b == 40) (λ r. folds.fold_call at None word (behind (skip r)))
    (λ r. Err (unexpected_fault what.OpenParenthesis (skip r)))
    (λ s e h. passed_far x next what.OpenParenthesis (λ b. b == 40) refl (folds.fold_call at None word)
    (steady_from next (folds.fold_call at None word) (fold_call_meets x at None word).steady) s e h)
    (opening_begins x what.OpenParenthesis refl) (first_unexpected x next what.OpenParenthesis)

bare_fold_before : (x : Spot) (at : ℕ) (o : Option FoldWord) →
    Before x next next NoMore (λ r. folds.bare_fold at o (skip r))
bare_fold_before x at None = before_skip x next NoMore (λ t. Err (unexpected_fault what.Colon t))
    (before_unexpected x next NoMore what.Colon)
bare_fold_before x at (Some word) =
    before_if x next NoMore (λ b. b == 40) (λ r. folds.fold_call at None word (behind (skip r)))
    (λ r. Err (unexpected_fault what.OpenParenthesis (skip r)))
    (before_part_behind x next NoMore (folds.fold_call at None word) (fold_call_meets x at None word))
    (before_skip x next NoMore (λ t. Err (unexpected_fault what.OpenParenthesis t))
    (before_unexpected x next NoMore what.OpenParenthesis))

abbrev behind_label : Name × Rest → Outcome Aggregate
behind_label first =
    if head (skip first.1) == 58 then folds.labelled_fold first.0 (behind (skip first.1))
    else folds.bare_fold first.0.at (folds.fold_of first.0.text) (skip first.1)

-- no colon begins a fold
fold_fails : (r : Rest) → (head r == 58) ≡ true → Failed (folds.fold_here (skip r))
unfolding folds.fold_here
fold_fails r h =
    let same = equal_numbers (head r) 58 h in
    subst (λ s. Failed (if head s == 99 then folds.fold_word_from fold.Count (codes "count") s else
    (if head s == 115 then folds.fold_word_from fold.Sum (codes "sum") s else
    (if head s == 97 then folds.fold_word_from fold.Aggregate (codes "aggregate") s else
    (if head s == 109 then folds.fold_behind_m (behind s) else Err (unexpected_fault what.Aggregate s))))))
    (sym (skip_off r (ap is_blank same)))
    (subst (λ b. Failed (if b == 99 then folds.fold_word_from fold.Count (codes "count") r else
    (if b == 115 then folds.fold_word_from fold.Sum (codes "sum") r else
    (if b == 97 then folds.fold_word_from fold.Aggregate (codes "aggregate") r else
    (if b == 109 then folds.fold_behind_m (behind r) else Err (unexpected_fault what.Aggregate r))))))
    (sym same) tt)

-- two colons don't stand behind a name
colon_allowed : (x : Spot) (first : Name) (o : Option FoldWord) (t : Rest) → skip t ≡ beyond x →
    (x.byte == 58) ≡ true → Begun x (behind_name o) ⊎ Failed (folds.labelled_fold first (behind (skip t)))
colon_allowed x first (Some word) t e h = inl (colon_begins x what.OpenParenthesis refl refl h)
colon_allowed x first None t e h = either (first_of x.more == 58) refl
  where
    either : (b : Bool) → (first_of x.more == 58) ≡ b →
        Begun x what.Colon ⊎ Failed (folds.labelled_fold first (behind (skip t)))
    either true g =
        inr (subst (λ r. Failed (folds.labelled_fold first (behind r))) (sym e)
        (failed_bind (folds.fold_here (skip (behind (beyond x)))) _ (fold_fails (behind (beyond x)) g)))
    either false g =
        inl (at_byte x what.Colon what.Colon 58 (ap (λ b. if b then what.Colons else what.Colon) g) refl h)

behind_label_meets : (x : Spot) (first : Name) → Meets x next next NoMore (λ r. behind_label (first, r))
behind_label_meets x first =
    let o = folds.fold_of first.text in
    let labelled = folds.labelled_fold first in
    let there = labelled_fold_meets x first in
    meets_of x next next NoMore (behind_name o) (λ r. behind_label (first, r))
    (first_if_or x next (behind_name o) (λ b. b == 58) (λ r. labelled (behind (skip r)))
    (λ r. folds.bare_fold first.at o (skip r))
    (λ s e h. passed_far x next (behind_name o) (λ b. b == 58) refl labelled (steady_from next labelled there.steady) s
    e
    h)
    (colon_allowed x first o) (bare_fold_first x first.at o))
    (before_if x next NoMore (λ b. b == 58) (λ r. labelled (behind (skip r)))
    (λ r. folds.bare_fold first.at o (skip r)) (before_part_behind x next NoMore labelled there)
    (bare_fold_before x first.at o))

aggregate_meets : (x : Spot) → Meets x next next NoMore folds.aggregate
unfolding folds.aggregate
aggregate_meets x = meets_then x next next next NoMore reading.name behind_label
    (meets_to x next NoMore reading.name (meets_name x)) (behind_label_meets x)

aggregate_first : (x : Spot) → First x next next what.Name folds.aggregate
unfolding folds.aggregate
aggregate_first x = first_bind x next next next what.Name reading.name behind_label
    (first_to x next what.Name reading.name (first_name x)) (λ n. (behind_label_meets x n).steady)

-- aggregates with a comma between each two
abbrev pub CommaGoes : Spot → List Aggregate → Type 0
CommaGoes x all = Begun x what.Comma

abbrev aggregates_state : List Aggregate → Rest → Outcome (List Aggregate × Bool)
aggregates_state all r = if head (skip r) == 44 then Ok ((all, true), behind (skip r)) else Ok ((all, false), r)

aggregates_shape : (so_far : List Aggregate) (a : Aggregate) (r : Rest) →
    turn_read (folds.aggregates_on so_far (a, r)) ≡ aggregates_state (so_far ++ a ∷ []) r
aggregates_shape so_far a r =
    let all = so_far ++ a ∷ [] in
    turn_if_read (head (skip r) == 44) (Again all (behind (skip r))) (Done all r)

aggregates_on_meets : (x : Spot) (so_far : List Aggregate) (a : Aggregate) →
    Meets x next next (OfState (CommaGoes x)) (λ r. turn_read (folds.aggregates_on so_far (a, r)))
aggregates_on_meets x so_far a =
    let all = so_far ++ a ∷ [] in
    let G = OfState (CommaGoes x) in
    meets_by x next next G (λ r. turn_read (folds.aggregates_on so_far (a, r))) (aggregates_state all)
    (aggregates_shape so_far a)
    (meets_either x G (λ b. b == 44) (λ r. Ok ((all, true), behind (skip r))) (λ r. Ok ((all, false), r))
    (before_part_behind x next G (λ r. Ok ((all, true), r)) (meets_ok x next G (all, true)))
    (skip_far x next G (λ b. b == 44) refl (λ r. Ok ((all, true), r))
    (steady_from next (λ r. Ok ((all, true), r)) (steady_ok next (all, true))))
    (meets_ok x next G (all, false)) (λ h s e l. (e, comma_begins x what.Comma refl h)))

aggregate_turn_meets : (x : Spot) (so_far : List Aggregate) →
    Meets x next next (OfState (CommaGoes x)) (λ s. turn_read (folds.aggregate_turn so_far s))
unfolding folds.aggregate_turn
aggregate_turn_meets x so_far =
    let G = OfState (CommaGoes x) in
    meets_by x next next G (λ s. turn_read (on_read (folds.aggregates_on so_far) (folds.aggregate s)))
    (λ s. folds.aggregate s >>= λ y. turn_read (folds.aggregates_on so_far y))
    (λ s. on_read_read (folds.aggregates_on so_far) (folds.aggregate s))
    (meets_then x next next next G folds.aggregate (λ y. turn_read (folds.aggregates_on so_far y)) (aggregate_meets x)
    (aggregates_on_meets x so_far))

aggregate_turn_went : (x : Spot) (so_far : List Aggregate) (r : Rest) → CommaGoes x so_far → next r ≡ x.at →
    WentOutcome x next (Stopped (CommaGoes x)) (turn_read (folds.aggregate_turn so_far r))
unfolding folds.aggregate_turn
aggregate_turn_went x so_far r g e =
    first_went x next (Stopped (CommaGoes x)) what.Name
    (turn_read (on_read (folds.aggregates_on so_far) (folds.aggregate r)))
    ((first_part x what.Name folds.aggregate (folds.aggregates_on so_far) (aggregate_first x)
    (λ a. (aggregates_on_meets x so_far a).steady)).names r e)
    (begun_later x what.Comma what.Name refl g)

pub aggregates_meets : (x : Spot) → Meets x next next (CommaGoes x) folds.aggregates
unfolding folds.aggregates
aggregates_meets x = meets_repetition x (CommaGoes x) folds.aggregate_turn aggregates_turn_behind aggregate_turn_steady
    (λ so_far s t c. (aggregate_turn_meets x so_far).agrees s t c) (aggregate_turn_went x) []
