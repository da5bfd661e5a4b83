-- A pipe that is read is one of the grammar.
use Rattle.std.proofs.Common.{◌≡◌, ℕ, ℤ, zero, suc, ◌-◌, Bool, true, false, ◌==◌, ◌⊎◌, inl, inr, List, [], ◌∷◌, ◌++◌}
use Rattle.std.proofs.Common.{codes, refl, sym, ap, subst, Some, Ok, Err, arith}
use Rattle.std.specs.Result.{IfOk}
use Rattle.mon_value.specs.declared.aligners.Aligner.TheVariants as aligner
use Rattle.mql_ast.specs.declared.names.Name.{Name}
use Rattle.mql_ast.specs.declared.operations.Aggregate.{Aggregate}
use Rattle.mql_ast.specs.declared.pipes.How.{How}
use Rattle.mql_ast.specs.declared.pipes.How.TheVariants as how
use Rattle.mql_ast.specs.Trees as tree
use Rattle.mql_ast.specs.Trees.{PredicateTree, ItemTree, DeedTree, OpTree, PipeTree, SourceTree}
use Rattle.mql_ast.specs.Tokens.{is_word_byte, Rest, head, behind, skip, sign_at, keyword_at, past, name_at, metric_at}
use Rattle.mql_ast.specs.Tokens.{positive_at, duration_at}
use Rattle.mql_ast.specs.Grammar as grammar
use Rattle.mql_ast.specs.Grammar.{Apart, NameList, Grouping, no_names, some_names, FoldingList, ItemList, Disjunction}
use Rattle.mql_ast.specs.Grammar.{one_conjunction, or, Deed, align_delta, align_next_older, Ops, no_ops, more_ops}
use Rattle.mql_ast.specs.Grammar.{how_word, Pipe, flow, Source, PipeList, two_pipes, more_pipes}
use Rattle.mql_parse.specs.declared.faults.ParseKind.TheVariants.{TooDeep}
use Rattle.mql_parse.specs.declared.faults.What.{What}
use Rattle.mql_parse.specs.declared.faults.What.TheVariants as what
use Rattle.mql_parse.specs.Outcomes.{Outcome, fault, sign, exact, apart, unexpected_fault}
use Rattle.mql_parse.specs.Repeats.{Done, Again, Stuck, goes_on, repetition, list_turn}
use Rattle.mql_parse.specs.TokenReading as reading
use Rattle.mql_parse.specs.SumReading.{items}
use Rattle.mql_parse.specs.PredicateReading as predicates
use Rattle.mql_parse.specs.Folds as folds
use Rattle.mql_parse.specs.PipeReading as pipes
use Rattle.mql_parse.specs.Behind.{From, Behind}
use Rattle.mql_parse.specs.Soundness.{OfTurn}
use Rattle.mql_parse.proofs.BehindLemmas.{from_itself, from_trans, behind_from, behind_behind, to_from, sign_behind}
use Rattle.mql_parse.proofs.BehindLemmas.{word_behind, name_behind}
use Rattle.mql_parse.proofs.Within.{some_given, metric_within, positive_within, duration_within}
use Rattle.mql_parse.proofs.Sound.{if_sound, bind_sound, sign_sound, exact_sound, name_sound, metric_sound}
use Rattle.mql_parse.proofs.Sound.{positive_sound, duration_sound, sign_here, changed_sound, repeated_sound, if_turn}
use Rattle.mql_parse.proofs.Sound.{if_ok_weaker}
use Rattle.mql_parse.proofs.PredicateSound.{IsConjunction, conjunction_sound, conjunction_behind, disjunction_behind}
use Rattle.mql_parse.proofs.PredicateSound.{doubled_here}
use Rattle.mql_parse.proofs.ListSound.{on_read_of, IsName, some_names_sound, items_sound, aggregates_sound}
use Rattle.mql_parse.proofs.ListSound.{item_behind, folding_behind}

-- a filter's predicate, and the bar behind it where it was read
abbrev pub IsFiltered : ℕ → Rest → (PredicateTree × Bool) × Rest → Type 0
IsFiltered d s ((p, false), r) = Disjunction d s r p
IsFiltered d s ((p, true), r) = (m : Rest) × (Disjunction d s m p × (sign_at 124 m ≡ Some r))

filter_turn_of : (d : ℕ) (ends on : PredicateTree × Bool → Rest → Type 0) (l : PredicateTree × Bool) (m : Rest) →
    ends (l.0, false) m → ((r : Rest) → sign_at 124 m ≡ Some r → ends (l.0, true) r) →
    ((k : Rest) → keyword_at (codes "||") m ≡ Some k → (x : PredicateTree × Rest) → IsConjunction d k x →
    on (tree.Or l.0 x.0, false) x.1) → OfTurn (predicates.filter_turn (predicates.conjunction d) l m) ends on
unfolding predicates.filter_turn
filter_turn_of d ends on l m stops barred goes =
    let t = skip m in
    if_turn (head t == 124) _ (Done (l.0, false) m) ends on
    (λ h. if_turn (head (behind t) == 124) _ (Done (l.0, true) (behind t)) ends on
    (λ g. goes_from (predicates.conjunction d (behind (behind t))) (conjunction_sound d (behind (behind t)))
    (goes (behind (behind t)) (doubled_here 124 m h g)))
    (λ g. barred (behind t) (sign_here 124 m h)))
    (λ h. stops)
  where
    goes_from : (o : Outcome PredicateTree) → IfOk o (IsConjunction d (behind (behind (skip m)))) →
        ((x : PredicateTree × Rest) → IsConjunction d (behind (behind (skip m))) x →
        on (tree.Or l.0 x.0, false) x.1) → OfTurn (goes_on (λ right. (tree.Or l.0 right, false)) o) ends on
    goes_from (Ok x) h g = g x h
    goes_from (Err e) h g = tt

pub filter_turn_behind : (d : ℕ) (l : PredicateTree × Bool) (m : Rest) →
    OfTurn (predicates.filter_turn (predicates.conjunction d) l m) (λ b r. Unit {0}) (λ b r. Behind m r)
filter_turn_behind d l m =
    filter_turn_of d (λ b r. Unit {0}) (λ b r. Behind m r) l m tt (λ r e. tt)
    (λ k e x c. behind_behind m k x.1 (word_behind 124 (codes "|") refl m k e) (conjunction_behind c))

predicate_sound : (d : ℕ) (s : Rest) → IfOk (predicates.predicate d s) (IsFiltered d s)
unfolding predicates.predicate
predicate_sound d s =
    bind_sound (predicates.conjunction d s) _ (IsConjunction d s) (IsFiltered d s) (conjunction_sound d s)
    (λ first c. repeated_sound (predicates.filter_turn (predicates.conjunction d)) (λ a r. Disjunction d s r a.0)
    (λ a r. IsFiltered d s (a, r))
    (λ a m p. filter_turn_of d (λ b r. IsFiltered d s (b, r)) (λ b r. Disjunction d s r b.0 × Behind m r) a m p
    (λ r e. (m, (p, e)))
    (λ k e x c. (or p e c, behind_behind m k x.1 (word_behind 124 (codes "|") refl m k e) (conjunction_behind c))))
    (first.0, false) first.1 (one_conjunction c))

-- a keyword and the blank behind it
abbrev Spaced : List ℕ → Rest → Rest → Type 0
Spaced word t m = (past word t ≡ Some m) × Apart m

apart_sound : (w : What) (m : Rest) → IfOk (apart w m) (λ r. (r ≡ m) × Apart m)
apart_sound w m = if_sound (is_word_byte (head m)) _ (Ok m) (λ r. (r ≡ m) × Apart m) (λ h. tt) (λ h. (refl, h))

spaced_sound : (word : List ℕ) (w : What) (t : Rest) → IfOk (pipes.word_apart word w t) (Spaced word t)
spaced_sound word w t =
    bind_sound (exact what.Operation word t) _ (λ m. past word t ≡ Some m) (Spaced word t)
    (exact_sound what.Operation word t)
    (λ m e. if_ok_weaker (apart w m) (λ r. (r ≡ m) × Apart m) (Spaced word t)
    (λ r p. subst (λ n. Spaced word t n) (sym p.0) (e, p.1)) (apart_sound w m))

abbrev IsDeed : ℕ → Rest → DeedTree × Rest → Type 0
IsDeed d s x = Deed d s x.1 x.0

abbrev Aligned : List ℕ → Rest → ℤ × Rest → Type 0
Aligned word t x =
    (k : Rest) × ((j : Rest) ×
    ((i : Rest) ×
    ((past word t ≡ Some
    k) × ((sign_at 40 k ≡ Some j) × ((duration_at j ≡ Some (x.0, i)) × (sign_at 41 i ≡ Some x.1))))))

aligned_sound : (word : List ℕ) (t : Rest) → IfOk (pipes.aligned_for word t) (Aligned word t)
aligned_sound word t =
    bind_sound (exact what.Aligner word t) _ (λ k. past word t ≡ Some k) (Aligned word t)
    (exact_sound what.Aligner word t) (λ k e.
    bind_sound (sign 40 what.OpenParenthesis k) _ (λ j. sign_at 40 k ≡ Some j) (Aligned word t)
    (sign_sound 40 what.OpenParenthesis k) (λ j f.
    bind_sound (reading.duration j) _ (λ x. duration_at j ≡ Some x) (Aligned word t) (duration_sound j) (λ x g.
    bind_sound (sign 41 what.CloseParenthesis x.1) _ (λ r. sign_at 41 x.1 ≡ Some r) (Aligned word t)
    (sign_sound 41 what.CloseParenthesis x.1) (λ r h. (k, (j, (x.1, (e, (f, (g, h))))))))))

align_sound : (d : ℕ) (s : Rest) → IfOk (pipes.align (skip s)) (IsDeed d s)
unfolding pipes.align
align_sound d s =
    bind_sound (pipes.word_apart (codes "align") what.Aligner (skip s)) _ (Spaced (codes "align") (skip s))
    (IsDeed d s) (spaced_sound (codes "align") what.Aligner (skip s))
    (λ m p. let t = skip m in
    if_sound (head t == 100) _ _ (IsDeed d s)
    (λ _. changed_sound (λ z. tree.Align (aligner.Delta z)) (pipes.aligned_for (codes "delta") t)
    (Aligned (codes "delta") t) (IsDeed d s) (aligned_sound (codes "delta") t)
    (λ x a. align_delta p.0 p.1 a.1.1.1.0 a.1.1.1.1.0 a.1.1.1.1.1.0 a.1.1.1.1.1.1))
    (λ _. if_sound (head t == 110) _ _ (IsDeed d s)
    (λ _. changed_sound (λ z. tree.Align (aligner.NextOlder z)) (pipes.aligned_for (codes "next_older") t)
    (Aligned (codes "next_older") t) (IsDeed d s) (aligned_sound (codes "next_older") t)
    (λ x a. align_next_older p.0 p.1 a.1.1.1.0 a.1.1.1.1.0 a.1.1.1.1.1.0 a.1.1.1.1.1.1))
    (λ _. tt)))

names_sound : (s m : Rest) → sign_at 91 s ≡ Some m → IfOk (folds.names m) (λ x. Grouping s x.1 x.0)
unfolding folds.names
names_sound s m e = if_sound (head (skip m) == 93) _ _ (λ x. Grouping s x.1 x.0) (λ h. no_names e (sign_here 93 m h))
    (λ h. if_ok_weaker (repetition (list_turn 93 what.CloseBracket reading.name) [] m) _ (λ x. Grouping s x.1 x.0)
    (λ x p. some_names e p.1.0 p.1.1) (some_names_sound m))

group_by_sound : (d : ℕ) (s : Rest) → IfOk (pipes.group_by (skip s)) (IsDeed d s)
unfolding pipes.group_by
group_by_sound d s =
    bind_sound (exact what.Operation (codes "group_by") (skip s)) _ (λ m. past (codes "group_by") (skip s) ≡ Some m)
    (IsDeed d s) (exact_sound what.Operation (codes "group_by") (skip s)) (λ m e.
    bind_sound (sign 91 what.OpenBracket m) _ (λ b. sign_at 91 m ≡ Some b) (IsDeed d s)
    (sign_sound 91 what.OpenBracket m) (λ b f.
    bind_sound (folds.names b) _ (λ x. Grouping m x.1 x.0) (IsDeed d s) (names_sound m b f) (λ x g.
    bind_sound (sign 44 what.Comma x.1) _ (λ j. sign_at 44 x.1 ≡ Some j) (IsDeed d s) (sign_sound 44 what.Comma x.1)
    (λ j h.
    changed_sound _ (folds.aggregates j) (λ y. FoldingList j y.1 y.0) (IsDeed d s) (aggregates_sound j)
    (λ y l. grammar.group_by e g h l)))))

value_sound : (d : ℕ) (s : Rest) → IfOk (pipes.value d (skip s)) (IsDeed d s)
unfolding pipes.value
value_sound d s =
    bind_sound (exact what.Operation (codes "value") (skip s)) _ (λ m. past (codes "value") (skip s) ≡ Some m)
    (IsDeed d s) (exact_sound what.Operation (codes "value") (skip s)) (λ m e.
    bind_sound (sign 91 what.OpenBracket m) _ (λ b. sign_at 91 m ≡ Some b) (IsDeed d s)
    (sign_sound 91 what.OpenBracket m) (λ b f.
    changed_sound tree.Value (items d b) (λ x. (k : Rest) × (ItemList d b k x.0 × (sign_at 93 k ≡ Some x.1)))
    (IsDeed d s) (items_sound d b) (λ x p. grammar.value e f p.1.0 p.1.1)))

top_sound : (d : ℕ) (s : Rest) → IfOk (pipes.top (skip s)) (IsDeed d s)
unfolding pipes.top
top_sound d s =
    bind_sound (pipes.word_apart (codes "top") what.Number (skip s)) _ (Spaced (codes "top") (skip s)) (IsDeed d s)
    (spaced_sound (codes "top") what.Number (skip s)) (λ m p.
    bind_sound (reading.positive 16777216 m) _ (λ x. positive_at 16777216 m ≡ Some x) (IsDeed d s)
    (positive_sound 16777216 m) (λ x e.
    bind_sound (sign 44 what.Comma x.1) _ (λ j. sign_at 44 x.1 ≡ Some j) (IsDeed d s) (sign_sound 44 what.Comma x.1)
    (λ j f.
    changed_sound _ (reading.name j) (IsName j) (IsDeed d s) (name_sound j) (λ y g. grammar.top p.0 p.1 e f g))))

lasting_sound : (d : ℕ) (s : Rest) (deed : ℤ → DeedTree) (word : List ℕ) →
    ((m : Rest) (x : ℤ × Rest) → Spaced word (skip s) m → duration_at m ≡ Some x → Deed d s x.1 (deed x.0)) →
    IfOk (pipes.duration_deed deed word (skip s)) (IsDeed d s)
unfolding pipes.duration_deed
lasting_sound d s deed word h =
    bind_sound (pipes.word_apart word what.Number (skip s)) _ (Spaced word (skip s)) (IsDeed d s)
    (spaced_sound word what.Number (skip s))
    (λ m p. changed_sound deed (reading.duration m) (λ x. duration_at m ≡ Some x) (IsDeed d s) (duration_sound m)
    (λ x e. h m x p e))

deed_sound : (d : ℕ) (s : Rest) → IfOk (pipes.deed_here d (skip s)) (IsDeed d s)
unfolding pipes.deed_here
deed_sound d s =
    let b = head (skip s) in
    if_sound (b == 97) _ _ (IsDeed d s) (λ _. align_sound d s)
    (λ _. if_sound (b == 103) _ _ (IsDeed d s) (λ _. group_by_sound d s)
    (λ _. if_sound (b == 118) _ _ (IsDeed d s) (λ _. value_sound d s)
    (λ _. if_sound (b == 116) _ _ (IsDeed d s) (λ _. top_sound d s)
    (λ _. if_sound (b == 101) _ _ (IsDeed d s)
    (λ _. lasting_sound d s tree.Every (codes "every") (λ m x p e. grammar.every p.0 p.1 e))
    (λ _. if_sound (b == 119) _ _ (IsDeed d s)
    (λ _. lasting_sound d s tree.Within (codes "within") (λ m x p e. grammar.within p.0 p.1 e)) (λ _. tt))))))

-- an operation, and the bar behind it where it was read
abbrev pub IsOperation : ℕ → Rest → (OpTree × Bool) × Rest → Type 0
IsOperation d s ((op, false), r) = (what : DeedTree) × ((op ≡ pipes.op_at (skip s).at what) × Deed d s r what)
IsOperation d s ((op, true), r) =
    (what : DeedTree) ×
    ((op ≡ pipes.op_at (skip s).at what) × ((m : Rest) × (Deed d s m what × (sign_at 124 m ≡ Some r))))

filtered : (d : ℕ) (s m : Rest) (x : (PredicateTree × Bool) × Rest) → Spaced (codes "filter") (skip s) m →
    IsFiltered d m x → IsOperation d s ((pipes.op_at (skip s).at (tree.Filter x.0.0), x.0.1), x.1)
filtered d s m ((p, false), r) e f = (tree.Filter p, (refl, grammar.filter e.0 e.1 f))
filtered d s m ((p, true), r) e f = (tree.Filter p, (refl, (f.0, (grammar.filter e.0 e.1 f.1.0, f.1.1))))

operation_sound : (d : ℕ) (s : Rest) → IfOk (pipes.operation d s) (IsOperation d s)
unfolding pipes.operation
operation_sound d s = if_sound (head (skip s) == 102) _ _ (IsOperation d s)
    (λ _. bind_sound (pipes.word_apart (codes "filter") what.Name (skip s)) _ (Spaced (codes "filter") (skip s))
    (IsOperation d s) (spaced_sound (codes "filter") what.Name (skip s))
    (λ m p. changed_sound _ (predicates.predicate d m) (IsFiltered d m) (IsOperation d s) (predicate_sound d m)
    (λ x f. filtered d s m x p f)))
    (λ _. changed_sound _ (pipes.deed_here d (skip s)) (IsDeed d s) (IsOperation d s) (deed_sound d s)
    (λ x e. (x.0, (refl, e))))

-- what is left behind lists and operations
names_behind : {s r : Rest} {ns : List Name} → NameList s r ns → Behind s r
names_behind {s = s} {r = r} (grammar.one_name {n = n} e) = name_behind s r n e
names_behind {s = s} {r = r} (grammar.more_names {m = m} {k = k} {n = n} l e f) =
    behind_behind s m r (names_behind l) (behind_behind m k r (sign_behind 44 refl m k e) (name_behind k r n f))

grouping_behind : {s r : Rest} {ns : List Name} → Grouping s r ns → Behind s r
grouping_behind {s = s} {r = r} (no_names {m = m} e f) =
    behind_behind s m r (sign_behind 91 refl s m e) (sign_behind 93 refl m r f)
grouping_behind {s = s} {r = r} (some_names {m = m} {k = k} e l f) =
    behind_behind s m r (sign_behind 91 refl s m e) (behind_behind m k r (names_behind l) (sign_behind 93 refl k r f))

foldings_behind : {s r : Rest} {all : List Aggregate} → FoldingList s r all → Behind s r
foldings_behind (grammar.one_folding f) = folding_behind f
foldings_behind {s = s} {r = r} (grammar.more_foldings {m = m} {k = k} l e f) =
    behind_behind s m r (foldings_behind l) (behind_behind m k r (sign_behind 44 refl m k e) (folding_behind f))

items_behind : {d : ℕ} {s r : Rest} {all : List ItemTree} → ItemList d s r all → Behind s r
items_behind (grammar.one_item i) = item_behind i
items_behind {s = s} {r = r} (grammar.more_items {m = m} {k = k} l e i) =
    behind_behind s m r (items_behind l) (behind_behind m k r (sign_behind 44 refl m k e) (item_behind i))

durations_behind : (s r : Rest) (z : ℤ) → duration_at s ≡ Some (z, r) → Behind s r
durations_behind s r z e = some_given (duration_at s) (λ x. Behind s x.1) (z, r) (duration_within s) e

pub deed_behind : {d : ℕ} {s r : Rest} {what : DeedTree} → Deed d s r what → Behind s r
deed_behind {s = s} {r = r} (grammar.filter {m = m} e a p) =
    behind_behind s m r (word_behind 102 (codes "ilter") refl s m e) (disjunction_behind p)
deed_behind {s = s} {r = r} (align_delta {m = m} {k = k} {j = j} {i = i} {z = z} e a f g h l) =
    behind_behind s m r (word_behind 97 (codes "lign") refl s m e)
    (behind_behind m k r (word_behind 100 (codes "elta") refl m k f)
    (behind_behind k j r (sign_behind 40 refl k j g)
    (behind_behind j i r (durations_behind j i z h) (sign_behind 41 refl i r l))))
deed_behind {s = s} {r = r} (align_next_older {m = m} {k = k} {j = j} {i = i} {z = z} e a f g h l) =
    behind_behind s m r (word_behind 97 (codes "lign") refl s m e)
    (behind_behind m k r (word_behind 110 (codes "ext_older") refl m k f)
    (behind_behind k j r (sign_behind 40 refl k j g)
    (behind_behind j i r (durations_behind j i z h) (sign_behind 41 refl i r l))))
deed_behind {s = s} {r = r} (grammar.group_by {m = m} {k = k} {j = j} e g f l) =
    behind_behind s m r (word_behind 103 (codes "roup_by") refl s m e)
    (behind_behind m k r (grouping_behind g) (behind_behind k j r (sign_behind 44 refl k j f) (foldings_behind l)))
deed_behind {s = s} {r = r} (grammar.value {m = m} {k = k} {j = j} e f l g) =
    behind_behind s m r (word_behind 118 (codes "alue") refl s m e)
    (behind_behind m k r (sign_behind 91 refl m k f)
    (behind_behind k j r (items_behind l) (sign_behind 93 refl j r g)))
deed_behind {s = s} {r = r} (grammar.top {m = m} {k = k} {j = j} {n = n} {c = c} e a f g h) =
    behind_behind s m r (word_behind 116 (codes "op") refl s m e)
    (behind_behind m k r (some_given (positive_at 16777216 m) (λ x. Behind m x.1) (n, k)
    (positive_within 16777216 m) f) (behind_behind k j r (sign_behind 44 refl k j g) (name_behind j r c h)))
deed_behind {s = s} {r = r} (grammar.every {m = m} {z = z} e a f) =
    behind_behind s m r (word_behind 101 (codes "very") refl s m e) (durations_behind m r z f)
deed_behind {s = s} {r = r} (grammar.within {m = m} {z = z} e a f) =
    behind_behind s m r (word_behind 119 (codes "ithin") refl s m e) (durations_behind m r z f)

operation_behind : (d : ℕ) (s : Rest) (x : (OpTree × Bool) × Rest) → IsOperation d s x → Behind s x.1
operation_behind d s ((op, false), r) p = deed_behind p.1.1
operation_behind d s ((op, true), r) p =
    behind_behind s p.1.1.0 r (deed_behind p.1.1.1.0) (sign_behind 124 refl p.1.1.0 r p.1.1.1.1)

operation_turn_of : (d : ℕ) (ends on : List OpTree × Bool → Rest → Type 0) (read : List OpTree × Bool) (m : Rest) →
    (read.1 ≡ false → ends read m) → (read.1 ≡ true → (x : (OpTree × Bool) × Rest) → IsOperation d m x →
    on (pipes.with_op read.0 x.0) x.1) →
    (read.1 ≡ false → (k : Rest) → sign_at 124 m ≡ Some k → (x : (OpTree × Bool) × Rest) → IsOperation d k x →
    on (pipes.with_op read.0 x.0) x.1) → OfTurn (pipes.operation_turn d read m) ends on
unfolding pipes.operation_turn
operation_turn_of d ends on read m stops barred goes =
    let t = skip m in
    if_turn read.1 _ _ ends on (λ b. on_read_of (λ x. Again (pipes.with_op read.0 x.0) x.1) (pipes.operation d m)
    (IsOperation d m) ends on (operation_sound d m) (barred b))
    (λ b. if_turn (head t == 124) _ (Done read m) ends on
    (λ h. on_read_of (λ x. Again (pipes.with_op read.0 x.0) x.1) (pipes.operation d (behind t))
    (IsOperation d (behind t)) ends on (operation_sound d (behind t)) (goes b (behind t) (sign_here 124 m h)))
    (λ h. stops b))

pub operation_turn_behind : (d : ℕ) (read : List OpTree × Bool) (m : Rest) → OfTurn (pipes.operation_turn d read m)
    (λ b r. Unit {0}) (λ b r. Behind m r)
operation_turn_behind d read m =
    operation_turn_of d (λ b r. Unit {0}) (λ b r. Behind m r) read m (λ b. tt) (λ b x p. operation_behind d m x p)
    (λ b k e x p. behind_behind m k x.1 (sign_behind 124 refl m k e) (operation_behind d k x p))

-- operations, and the bar behind them where it was read
abbrev AreOps : ℕ → Rest → (List OpTree × Bool) × Rest → Type 0
AreOps d s ((ops, false), r) = Ops d s r ops
AreOps d s ((ops, true), r) = (m : Rest) × (Ops d s m ops × (sign_at 124 m ≡ Some r))

ops_grown : (d : ℕ) (s m k : Rest) (ops : List OpTree) (x : (OpTree × Bool) × Rest) → Ops d s m ops →
    sign_at 124 m ≡ Some k → IsOperation d k x → AreOps d s (pipes.with_op ops x.0, x.1)
ops_grown d s m k ops ((op, false), r) l e p = subst (λ o. Ops d s r (ops ++ o ∷ [])) (sym p.1.0) (more_ops l e p.1.1)
ops_grown d s m k ops ((op, true), r) l e p =
    (p.1.1.0, (subst (λ o. Ops d s p.1.1.0 (ops ++ o ∷ [])) (sym p.1.0) (more_ops l e p.1.1.1.0), p.1.1.1.1))

unbarred : (d : ℕ) (s : Rest) (read : List OpTree × Bool) (m : Rest) → read.1 ≡ false → AreOps d s (read, m) →
    Ops d s m read.0
unbarred d s (ops, false) m b l = l
unbarred d s (ops, true) m b l = absurd (cc)

barred_ops : (d : ℕ) (s : Rest) (read : List OpTree × Bool) (m : Rest) → read.1 ≡ true → AreOps d s (read, m) →
    (n : Rest) × (Ops d s n read.0 × (sign_at 124 n ≡ Some m))
barred_ops d s (ops, false) m b l = absurd (cc)
barred_ops d s (ops, true) m b l = l

operations_sound : (d : ℕ) (s : Rest) → IfOk (pipes.operations d s) (λ x. Ops d s x.1 x.0)
unfolding pipes.operations
operations_sound d s =
    changed_sound (λ x. x.0) (repetition (pipes.operation_turn d) ([], false) s) (λ x. Ops d s x.1 x.0.0)
    (λ x. Ops d s x.1 x.0)
    (repeated_sound (pipes.operation_turn d) (λ a r. AreOps d s (a, r)) (λ a r. Ops d s r a.0)
    (λ a m l. operation_turn_of d (λ b r. Ops d s r b.0) (λ b r. AreOps d s (b, r) × Behind m r) a m
    (λ b. unbarred d s a m b l)
    (λ b x p. let n = barred_ops d s a m b l in (ops_grown d s n.0 m a.0 x n.1.0 n.1.1 p, operation_behind d m x p))
    (λ b k e x p. (
      ops_grown d s m k a.0 x (unbarred d s a m b l) e p,
      behind_behind m k x.1
          (sign_behind 124 refl m k e) (operation_behind d k x p),
    )))
    ([], false) s no_ops)
    (λ x p. p)

ops_from : {d : ℕ} {s r : Rest} {ops : List OpTree} → Ops d s r ops → From s r
ops_from {s = s} no_ops = from_itself s
ops_from {s = s} {r = r} (more_ops {m = m} {k = k} l e w) =
    from_trans s m r (ops_from l) (to_from m r (behind_behind m k r (sign_behind 124 refl m k e) (deed_behind w)))

how_behind : (h : How) (i r : Rest) → keyword_at (how_word h) i ≡ Some r → Behind i r
how_behind how.Join i r e = word_behind 106 (codes "oin") refl i r e
how_behind how.Union i r e = word_behind 117 (codes "nion") refl i r e

mutual
  pub pipe_behind : {d : ℕ} {s r : Rest} {t : PipeTree} → Pipe d s r t → Behind s r
  pipe_behind {s = s} {r = r} (flow {m = m} t ops) = behind_from s m r (source_behind t) (ops_from ops)

  source_behind : {d : ℕ} {s r : Rest} {t : SourceTree} → Source d s r t → Behind s r
  source_behind {s = s} {r = r} (grammar.fetch {m = m} {k = k} {j = j} {n = n} {w = w} e a f g h) =
      behind_behind s m r (word_behind 102 (codes "etch") refl s m e)
      (behind_behind m k r (name_behind m k n f) (behind_behind k j r (word_behind 58 (codes ":") refl k j g)
      (some_given (metric_at j) (λ x. Behind j x.1) (w, r) (metric_within j) h)))
  source_behind {s = s} {r = r} (grammar.join {m = m} {k = k} {j = j} {i = i} {h = h} e l f g w) =
      behind_behind s m r (sign_behind 123 refl s m e)
      (behind_behind m k r (pipes_behind l)
      (behind_behind k j r (sign_behind 125 refl k j f)
      (behind_behind j i r (sign_behind 124 refl j i g) (how_behind h i r w))))

  pipes_behind : {d : ℕ} {s r : Rest} {ps : List PipeTree} → PipeList d s r ps → Behind s r
  pipes_behind {s = s} {r = r} (two_pipes {m = m} {k = k} p e q) =
      behind_behind s m r (pipe_behind p) (behind_behind m k r (sign_behind 59 refl m k e) (pipe_behind q))
  pipes_behind {s = s} {r = r} (more_pipes {m = m} {k = k} l e p) =
      behind_behind s m r (pipes_behind l) (behind_behind m k r (sign_behind 59 refl m k e) (pipe_behind p))

abbrev IsSource : ℕ → Rest → SourceTree × Rest → Type 0
IsSource d s x = Source d s x.1 x.0

abbrev pub IsPipe : ℕ → Rest → PipeTree × Rest → Type 0
IsPipe d s x = Pipe d s x.1 x.0

fetch_sound : (d : ℕ) (s : Rest) → IfOk (pipes.fetch (skip s)) (IsSource d s)
unfolding pipes.fetch
fetch_sound d s =
    bind_sound (exact what.Fetch (codes "fetch") (skip s)) _ (λ m. past (codes "fetch") (skip s) ≡ Some m)
    (IsSource d s) (exact_sound what.Fetch (codes "fetch") (skip s)) (λ m e.
    bind_sound (apart what.Name m) _ (λ r. (r ≡ m) × Apart m) (IsSource d s) (apart_sound what.Name m) (λ m' p.
    bind_sound (reading.name m') _ (IsName m') (IsSource d s) (name_sound m') (λ x f.
    bind_sound (exact what.Colons (codes "::") (skip x.1)) _ (λ j. past (codes "::") (skip x.1) ≡ Some j)
    (IsSource d s) (exact_sound what.Colons (codes "::") (skip x.1)) (λ j g.
    changed_sound _ (reading.metric j) (λ y. metric_at j ≡ Some y) (IsSource d s) (metric_sound j)
    (λ y h. grammar.fetch e p.1 (subst (λ n. name_at n ≡ Some x) p.0 f) g h)))))

abbrev IsHow : Rest → How × Rest → Type 0
IsHow i x = keyword_at (how_word x.0) i ≡ Some x.1

how_sound : (i : Rest) → IfOk (pipes.how_here (skip i)) (IsHow i)
how_sound i =
    let t = skip i in
    if_sound (head t == 106) _ _ (IsHow i)
    (λ _. bind_sound (exact what.How (codes "join") t) _ (λ r. past (codes "join") t ≡ Some r) (IsHow i)
    (exact_sound what.How (codes "join") t) (λ r e. e))
    (λ _. if_sound (head t == 117) _ _ (IsHow i)
    (λ _. bind_sound (exact what.How (codes "union") t) _ (λ r. past (codes "union") t ≡ Some r) (IsHow i)
    (exact_sound what.How (codes "union") t) (λ r e. e)) (λ _. tt))

joined_sound : (d : ℕ) (s m k j : Rest) (ps : List PipeTree) → sign_at 123 s ≡ Some m → PipeList d m k ps →
    sign_at 125 k ≡ Some j → IfOk (pipes.branches_how (skip s).at ps j) (IsSource (suc d) s)
unfolding pipes.branches_how
joined_sound d s m k j ps e l f =
    bind_sound (sign 124 what.Bar j) _ (λ i. sign_at 124 j ≡ Some i) (IsSource (suc d) s) (sign_sound 124 what.Bar j)
    (λ i g.
    changed_sound _ (pipes.how_here (skip i)) (IsHow i) (IsSource (suc d) s) (how_sound i)
    (λ x h. grammar.join e l f g h))

module _ (d : ℕ) (pipe : Rest → Outcome PipeTree) (piped : (s : Rest) → IfOk (pipe s) (IsPipe d s)) where
  branch_turn_of : (ends on : List PipeTree → Rest → Type 0) (all : List PipeTree) (m : Rest) →
      ((x : PipeTree × Rest) → IsPipe d m x → (k : Rest) → sign_at 59 x.1 ≡ Some k → on (all ++ x.0 ∷ []) k) →
      ((x : PipeTree × Rest) → IsPipe d m x → (k : Rest) → sign_at 125 x.1 ≡ Some k → ends (all ++ x.0 ∷ []) k) →
      OfTurn (pipes.branch_turn pipe all m) ends (λ b r. on b r × Behind m r)
  unfolding pipes.branch_turn
  branch_turn_of ends on all m goes stops =
      on_read_of (pipes.branch_behind all) (pipe m) (IsPipe d m) ends (λ b r. on b r × Behind m r) (piped m)
      (λ x p. let t = skip x.1 in
      if_turn (head t == 59) _ _ ends _
      (λ h. let e = sign_here 59 x.1 h in (
        goes x p (behind t) e,
        behind_behind m x.1 (behind t) (pipe_behind p)
            (sign_behind 59 refl x.1 (behind t) e),
      ))
      (λ _. if_turn (head t == 125) _ (Stuck (unexpected_fault what.CloseBrace t)) ends _
      (λ h. stops x p (behind t) (sign_here 125 x.1 h)) (λ _. tt)))

  -- branches up to a semicolon
  abbrev Begun : Rest → List PipeTree → Rest → Type 0
  Begun s all m =
      ((p : PipeTree) × ((all ≡ p ∷ []) × ((k : Rest) × (Pipe d s k p × (sign_at 59 k ≡ Some m))))) ⊎
      ((k : Rest) × (PipeList d s k all × (sign_at 59 k ≡ Some m)))

  branches_grown : (s : Rest) (all : List PipeTree) (m : Rest) (x : PipeTree × Rest) → Begun s all m → IsPipe d m x →
      PipeList d s x.1 (all ++ x.0 ∷ [])
  branches_grown s all m x (inl (p, (e, (k, (q, f))))) y =
      subst (λ t. PipeList d s x.1 (t ++ x.0 ∷ [])) (sym e) (two_pipes q f y)
  branches_grown s all m x (inr (k, (l, f))) y = more_pipes l f y

  branches_sound : (s m : Rest) → sign_at 123 s ≡ Some m → IfOk (pipes.branches_with pipe (skip s).at m)
      (IsSource (suc d) s)
  unfolding pipes.branches_with
  branches_sound s m e =
      bind_sound (pipe m) _ (IsPipe d m) (IsSource (suc d) s) (piped m) (λ first p.
      bind_sound (sign 59 (pipes.behind_branch first.0) first.1) _ (λ k. sign_at 59 first.1 ≡ Some k)
      (IsSource (suc d) s) (sign_sound 59 (pipes.behind_branch first.0) first.1) (λ k f.
      bind_sound (repetition (pipes.branch_turn pipe) (first.0 ∷ []) k) _
      (λ x. (n : Rest) × (PipeList d m n x.0 × (sign_at 125 n ≡ Some x.1))) (IsSource (suc d) s)
      (repeated_sound (pipes.branch_turn pipe) (Begun m)
      (λ all r. (n : Rest) × (PipeList d m n all × (sign_at 125 n ≡ Some r)))
      (λ all n begun. branch_turn_of (λ b r. (i : Rest) × (PipeList d m i b × (sign_at 125 i ≡ Some r))) (Begun m) all
      n (λ x q i g. inr (x.1, (branches_grown m all n x begun q, g)))
      (λ x q i g. (x.1, (branches_grown m all n x begun q, g))))
      (first.0 ∷ []) k (inl (first.0, (refl, (first.1, (p, f))))))
      (λ x l. joined_sound d s m l.0 x.1 x.0 e l.1.0 l.1.1)))

module _ (d : ℕ) (group : Rest → Rest → Outcome SourceTree) (grouped : (s m : Rest) → sign_at 123 s ≡ Some m →
    IfOk (group (skip s) m) (IsSource d s)) where
  source_sound_with : (s : Rest) → IfOk (pipes.source_with group s) (IsSource d s)
  unfolding pipes.source_with
  source_sound_with s =
      let t = skip s in
      if_sound (head t == 102) _ _ (IsSource d s) (λ _. fetch_sound d s)
      (λ _. if_sound (head t == 123) _ _ (IsSource d s) (λ h. grouped s (behind t) (sign_here 123 s h)) (λ _. tt))

  pipe_sound_with : (s : Rest) → IfOk (pipes.pipe_with group d s) (IsPipe d s)
  unfolding pipes.pipe_with
  pipe_sound_with s = bind_sound (pipes.source_with group s) _ (IsSource d s) (IsPipe d s) (source_sound_with s)
      (λ x t. changed_sound _ (pipes.operations d x.1) (λ y. Ops d x.1 y.1 y.0) (IsPipe d s) (operations_sound d x.1)
      (λ y ops. flow t ops))

group_sound : (d : ℕ) (s m : Rest) → sign_at 123 s ≡ Some m → IfOk (pipes.pipe_group d (skip s) m) (IsSource d s)
unfolding pipes.pipe_group
group_sound zero s m e = tt
group_sound (suc d) s m e =
    branches_sound d (pipes.pipe_with (pipes.pipe_group d) d) (pipe_sound_with d (pipes.pipe_group d) (group_sound d))
    s m e

pub pipe_sound : (d : ℕ) (s : Rest) → IfOk (pipes.pipe d s) (IsPipe d s)
pipe_sound d = pipe_sound_with d (pipes.pipe_group d) (group_sound d)

pub branch_turn_behind : (d : ℕ) (all : List PipeTree) (m : Rest) → OfTurn (pipes.branch_turn (pipes.pipe d) all m)
    (λ b r. Unit {0}) (λ b r. Behind m r)
unfolding pipes.branch_turn
branch_turn_behind d all m =
    on_read_of (pipes.branch_behind all) (pipes.pipe d m) (IsPipe d m) (λ b r. Unit {0}) (λ b r. Behind m r)
    (pipe_sound d m)
    (λ x p. let t = skip x.1 in
    if_turn (head t == 59) _ _ (λ b r. Unit {0}) _ (λ h. let e = sign_here 59 x.1 h in behind_behind m x.1 (behind t)
    (pipe_behind p) (sign_behind 59 refl x.1 (behind t) e))
    (λ _. if_turn (head t == 125) _ (Stuck (unexpected_fault what.CloseBrace t)) (λ b r. Unit {0}) _ (λ h. tt)
    (λ _. tt)))

-- branches are read a level deeper
pub group_deeper : (d : ℕ) (here s : Rest) → (d ≡ 0 → ⊥) → pipes.pipe_group d here s ≡ pipes.branches_with
    (pipes.pipe (d - 1)) here.at s
unfolding pipes.pipe_group
group_deeper zero here s h = absurd (h refl)
group_deeper (suc d) here s h = ap (λ n. pipes.branches_with (pipes.pipe n) here.at s) (omega arith)

pub group_too_deep : (d : ℕ) (here s : Rest) → d ≡ 0 → pipes.pipe_group d here s ≡ Err (fault TooDeep here)
unfolding pipes.pipe_group
group_too_deep zero here s h = refl
group_too_deep (suc d) here s h = absurd (omega (arith, h))
