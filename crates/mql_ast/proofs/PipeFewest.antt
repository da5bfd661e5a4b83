-- A pipe is printed with no more parentheses than any text of it has.
use Rattle.std.proofs.Common.{◌≡◌, ℕ, ◌+◌, ◌≤◌, Bool, true, false, ◌==◌, ◌||◌, List, [], ◌∷◌, ◌++◌, map, codes, refl}
use Rattle.std.proofs.Common.{sym, ap, ◌∙◌, arith, Option, Some, None}
use Rattle.mql_ast.specs.declared.names.Name.{Name}
use Rattle.mql_ast.specs.declared.operations.Aggregate.{Aggregate}
use Rattle.mql_ast.specs.declared.pipes.How.{How}
use Rattle.mql_ast.specs.declared.pipes.How.TheVariants as how
use Rattle.mql_ast.specs.Tokens.{Rest}
use Rattle.mql_ast.specs.Trees as tree
use Rattle.mql_ast.specs.Trees.{SumTree, PredicateTree, ItemTree, DeedTree, OpTree, PipeTree, SourceTree, BranchTrees}
use Rattle.mql_ast.specs.Trees.{branches}
use Rattle.mql_ast.specs.Places.{name_content, label_content, sum_content, predicate_content, item_content}
use Rattle.mql_ast.specs.Places.{aggregate_content, deed_content, op_content, pipe_content, source_content}
use Rattle.mql_ast.specs.Places.{branches_content}
use Rattle.mql_ast.specs.Printed.{separated_texts, comma, in_parentheses, name_text, label_text, column_text, fold_text}
use Rattle.mql_ast.specs.Printed.{sum_text, predicate_text, item_text, aggregate_text, deed_text, ops_text, how_text}
use Rattle.mql_ast.specs.Printed.{pipe_text, source_text, branches_text, further_text}
use Rattle.mql_ast.specs.Grammar.{how_word, Pipe, flow, Source, fetch, join, PipeList, two_pipes, more_pipes}
use Rattle.mql_ast.specs.Parentheses.{parentheses, HasFewest}
use Rattle.mql_ast.proofs.TokensPrinted.{both}
use Rattle.mql_ast.proofs.PipePrinted.{list_some, branches_push}
use Rattle.mql_ast.proofs.TokensFewest.{left, parentheses_append, no_parentheses, sign_left, word_left, name_left}
use Rattle.mql_ast.proofs.TokensFewest.{metric_left}
use Rattle.mql_ast.proofs.PredicateFewest.{IsBare, between}
use Rattle.mql_ast.proofs.OperationsFewest.{after_bare, ops_left}

fetch_bare : IsBare (codes "fetch ")
unfolding parentheses
fetch_bare = refl

colons_bare : IsBare (codes "::")
unfolding parentheses
colons_bare = refl

open_bare : IsBare (codes "{")
unfolding parentheses
open_bare = refl

close_bare : IsBare (codes "} | ")
unfolding parentheses
close_bare = refl

semicolon_bare : IsBare (codes "; ")
unfolding parentheses
semicolon_bare = refl

how_bare : (h : How) → IsBare (how_text h)
unfolding parentheses
how_bare how.Join = refl
how_bare how.Union = refl

two_texts : (p q : PipeTree) → parentheses (branches_text (branches (p ∷ q ∷ []))) ≡ parentheses (pipe_text p)
    + parentheses (pipe_text q)
two_texts p q = omega (
  arith,
  between (pipe_text p) (codes "; ") (pipe_text q ++ []) semicolon_bare,
  parentheses_append (pipe_text q) [],
  no_parentheses,
)

more_texts : (ps : List PipeTree) (p : PipeTree) → (ps ≡ [] → ⊥)
    → parentheses (branches_text (branches (ps ++ p ∷ []))) ≡ parentheses (branches_text (branches ps))
    + parentheses (pipe_text p)
more_texts ps p some = ap parentheses (branches_push ps p some) ∙ between (branches_text (branches ps)) (codes "; ")
    (pipe_text p) semicolon_bare

fetch_texts : (n w : List ℕ) → parentheses (codes "fetch " ++ (n ++ (codes "::" ++ w))) ≡ parentheses n + parentheses w
fetch_texts n w = after_bare (codes "fetch ") (n ++ (codes "::" ++ w)) fetch_bare ∙ between n (codes "::") w colons_bare

join_texts : (b : List ℕ) (h : How) → parentheses (codes "{" ++ (b ++ (codes "} | " ++ how_text h))) ≡ parentheses b
join_texts b h = omega (
  arith,
  after_bare (codes "{") (b ++ (codes "} | " ++ how_text h)) open_bare,
  between b (codes "} | ") (how_text h) close_bare,
  how_bare h,
)

mutual
  pipe_left : {d : ℕ} {s r : Rest} {t : PipeTree} → Pipe d s r t → parentheses (pipe_text t) + left r ≤ left s
  pipe_left (flow {t = t} {ops = ops} S O) =
      omega (arith, source_left S, ops_left O, parentheses_append (source_text t) (ops_text ops))

  source_left : {d : ℕ} {s r : Rest} {t : SourceTree} → Source d s r t → parentheses (source_text t) + left r ≤ left s
  source_left {s = s} {r = r} (fetch {m = m} {k = k} {j = j} {n = n} {w = w} g a e c f) =
      omega (
        arith,
        fetch_texts n.text w.text,
        word_left (codes "fetch") s m g,
        name_left m k n e,
        word_left (codes "::") k j c,
        metric_left j r w f,
      )
  source_left {s = s} {r = r} (join {m = m} {k = k} {j = j} {i = i} {ps = ps} {h = h} g L c b e) =
      omega (
        arith,
        join_texts (branches_text (branches ps)) h,
        sign_left 123 s m g,
        list_left L,
        sign_left 125 k j c,
        sign_left 124 j i b,
        word_left (how_word h) i r e,
      )

  list_left : {d : ℕ} {s r : Rest} {ps : List PipeTree} → PipeList d s r ps → parentheses (branches_text (branches ps))
      + left r ≤ left s
  list_left (two_pipes {m = m} {k = k} {p = p} {q = q} P g Q) =
      omega (arith, two_texts p q, pipe_left P, sign_left 59 m k g, pipe_left Q)
  list_left (more_pipes {m = m} {k = k} {ps = ps} {p = p} L g P) =
      omega (arith, more_texts ps p (list_some L), list_left L, sign_left 59 m k g, pipe_left P)

-- the text of a tree doesn't depend on its places
sum_kept : (operand : Bool) (e : SumTree) → sum_text operand (sum_content e) ≡ sum_text operand e
sum_kept operand (tree.Column n) = refl
sum_kept operand (tree.Number at z) = refl
sum_kept operand (tree.Plus l e) = both (λ a b. in_parentheses operand (a ++ (codes " + " ++ b))) (sum_kept false l)
    (sum_kept true e)
sum_kept operand (tree.Minus l e) = both (λ a b. in_parentheses operand (a ++ (codes " - " ++ b))) (sum_kept false l)
    (sum_kept true e)
sum_kept operand (tree.Percentile at n p) = refl

predicate_kept : (level : ℕ) (p : PredicateTree) → predicate_text level (predicate_content p) ≡ predicate_text level p
predicate_kept level (tree.Compare n how v) = refl
predicate_kept level (tree.Like n pattern) = refl
predicate_kept level (tree.Not p) = ap (λ t. codes "!" ++ t) (predicate_kept 2 p)
predicate_kept level (tree.And l p) = both (λ a b. in_parentheses (level == 2) (a ++ (codes " && " ++ b)))
    (predicate_kept 1 l) (predicate_kept 2 p)
predicate_kept level (tree.Or l p) = both (λ a b. in_parentheses (level == 1 || level == 2) (a ++ (codes " || " ++ b)))
    (predicate_kept 0 l) (predicate_kept 1 p)

label_kept : (n : Option Name) → label_text (label_content n) ≡ label_text n
label_kept None = refl
label_kept (Some n) = refl

column_kept : (n : Option Name) → column_text (label_content n) ≡ column_text n
column_kept None = refl
column_kept (Some n) = refl

item_kept : (i : ItemTree) → item_text (item_content i) ≡ item_text i
item_kept i = both (λ a b. a ++ b) (label_kept i.name) (sum_kept false i.sum)

aggregate_kept : (a : Aggregate) → aggregate_text (aggregate_content a) ≡ aggregate_text a
aggregate_kept a = both (λ l c. l ++ (fold_text a.fold ++ (codes "(" ++ (c ++ codes ")")))) (label_kept a.name)
    (column_kept a.column)

texts_kept : (A : Type 0) (text : A → List ℕ) (content : A → A) → ((x : A) → text (content x) ≡ text x) → (xs : List A)
    → map text (map content xs) ≡ map text xs
texts_kept A text content kept [] = refl
texts_kept A text content kept (x ∷ xs) = both (λ a b. a ∷ b) (kept x) (texts_kept A text content kept xs)

deed_kept : (what : DeedTree) → deed_text (deed_content what) ≡ deed_text what
deed_kept (tree.Filter p) = ap (λ t. codes "filter " ++ t) (predicate_kept 0 p)
deed_kept (tree.Align by) = refl
deed_kept (tree.GroupBy ns xs) =
    both (λ a b. codes "group_by [" ++ (separated_texts comma a ++ (codes "], " ++ separated_texts comma b)))
    (texts_kept Name name_text name_content (λ n. refl) ns) (texts_kept Aggregate aggregate_text aggregate_content
    aggregate_kept xs)
deed_kept (tree.Value xs) = ap (λ a. codes "value [" ++ (separated_texts comma a ++ codes "]"))
    (texts_kept ItemTree item_text item_content item_kept xs)
deed_kept (tree.Top n c) = refl
deed_kept (tree.Every z) = refl
deed_kept (tree.Within z) = refl

ops_kept : (ops : List OpTree) → ops_text (map op_content ops) ≡ ops_text ops
ops_kept [] = refl
ops_kept (op ∷ ops) = both (λ a b. codes " | " ++ (a ++ b)) (deed_kept op.what) (ops_kept ops)

mutual
  pipe_kept : (t : PipeTree) → pipe_text (pipe_content t) ≡ pipe_text t
  pipe_kept (tree.Flow s ops) = both (λ a b. a ++ b) (source_kept s) (ops_kept ops)

  source_kept : (t : SourceTree) → source_text (source_content t) ≡ source_text t
  source_kept (tree.Fetch at n w) = refl
  source_kept (tree.Branches at all h how_at) = ap (λ b. codes "{" ++ (b ++ (codes "} | " ++ how_text h)))
      (branches_kept all)

  branches_kept : (all : BranchTrees) → branches_text (branches_content all) ≡ branches_text all
  branches_kept tree.NoBranch = refl
  branches_kept (tree.Branch first rest) = both (λ a b. a ++ b) (pipe_kept first) (further_kept rest)

  further_kept : (all : BranchTrees) → further_text (branches_content all) ≡ further_text all
  further_kept tree.NoBranch = refl
  further_kept (tree.Branch first rest) = both (λ a b. codes "; " ++ (a ++ b)) (pipe_kept first) (further_kept rest)

-- no text of a tree has fewer parentheses than what it is printed as
pub printed_has_fewest : (t : PipeTree) (printed : List ℕ) → printed ≡ pipe_text t → HasFewest t printed
printed_has_fewest t printed e other text same h =
    let texts : pipe_text other ≡ printed = sym (pipe_kept other) ∙ ap pipe_text same ∙ pipe_kept t ∙ sym e in
    omega (arith, pipe_left h.whole, ap parentheses texts)
