-- The grammar of query texts, production by production. A relation over what is left before a part, what is left behind
-- it, and the part's tree; the number of levels is what is left for braces, parentheses and `!`.
use Rattle.std.specs.Prelude.{◌≡◌, ℕ, ℤ, suc, ◌≤◌, true, false, ◌==◌, ◌||◌, List, [], ◌∷◌, ◌++◌, length, codes, Option}
use Rattle.std.specs.Prelude.{Some, None, option_and_then, if◌then◌else◌}
use Rattle.mon_value.specs.declared.aligners.Aligner.TheVariants as aligner
use Rattle.mon_value.specs.declared.values.FieldValue.{FieldValue}
use Rattle.mon_value.specs.declared.values.FieldValue.TheVariants as field
use Rattle.mql_ast.specs.declared.names.Name.{Name}
use Rattle.mql_ast.specs.declared.predicates.Comparison.{Comparison}
use Rattle.mql_ast.specs.declared.predicates.Comparison.TheVariants as comparison
use Rattle.mql_ast.specs.declared.predicates.Literal.{Literal}
use Rattle.mql_ast.specs.declared.operations.Aggregate.{Aggregate}
use Rattle.mql_ast.specs.declared.operations.FoldWord.{FoldWord}
use Rattle.mql_ast.specs.declared.operations.FoldWord.TheVariants as fold
use Rattle.mql_ast.specs.declared.pipes.How.{How}
use Rattle.mql_ast.specs.declared.pipes.How.TheVariants as how
use Rattle.mql_ast.specs.Trees as tree
use Rattle.mql_ast.specs.Trees.{SumTree, PredicateTree, ItemTree, DeedTree, OpTree, PipeTree, SourceTree, branches}
use Rattle.mql_ast.specs.Tokens.{is_digit, is_word_byte, Rest, head, behind, skip, sign_at, keyword_at, name_at}
use Rattle.mql_ast.specs.Tokens.{metric_at, positive_at, signed_at, duration_at}
use Rattle.mql_ast.specs.Quotes.{text_at, pattern_at}

-- no letter, digit or `_` stands here, so a word may end before it
abbrev pub Apart : Rest → Type 0
Apart s = is_word_byte (head s) ≡ false

-- comparison = "==" | "!=" | "<" | "<=" | ">" | ">="
abbrev pub or_equal : Comparison → Comparison → Rest → Option (Comparison × Rest)
or_equal without with s = if head s == 61 then Some (with, behind s) else Some (without, s)

abbrev pub and_equal : Comparison → Rest → Option (Comparison × Rest)
and_equal with s = if head s == 61 then Some (with, behind s) else None

abbrev pub comparison_at : Rest → Option (Comparison × Rest)
comparison_at s =
    let t = skip s in
    if head t == 61 then and_equal comparison.Equal (behind t) else
    (if head t == 33 then and_equal comparison.NotEqual (behind t) else
    (if head t == 60 then or_equal comparison.Less comparison.AtMost (behind t) else
    (if head t == 62 then or_equal comparison.Greater comparison.AtLeast (behind t) else None)))

-- literal = [ "-" ] number | text | "true" | "false"
abbrev pub literal_at : Rest → Option (FieldValue × Rest)
literal_at s =
    let b = head (skip s) in
    if b == 34 then option_and_then (λ x. Some (field.Text x.0, x.1)) (text_at s) else
    (if b == 116 then option_and_then (λ r. Some (field.Bool true, r)) (keyword_at (codes "true") s) else
    (if b == 102 then option_and_then (λ r. Some (field.Bool false, r)) (keyword_at (codes "false") s) else
    (if b == 45 || is_digit b then option_and_then (λ x. Some (field.Int x.0, x.1)) (signed_at s) else None)))

abbrev pub literal : Rest → FieldValue → Literal
literal s value = record { at = (skip s).at; value = value }

-- sum = term { ( "+" | "-" ) term }
-- term = name | [ "-" ] number | "percentile" "(" name "," number ")" | "(" sum ")"
mutual
  pub data Sum : ℕ → Rest → Rest → SumTree → Type 0 where
    one_term : {d : ℕ} {s r : Rest} {e : SumTree} → Term d s r e → Sum d s r e
    plus : {d : ℕ} {s m k r : Rest} {l e : SumTree} → Sum d s m l → sign_at 43 m ≡ Some k → Term d k r e →
        Sum d s r (tree.Plus l e)
    minus : {d : ℕ} {s m k r : Rest} {l e : SumTree} → Sum d s m l → sign_at 45 m ≡ Some k → Term d k r e →
        Sum d s r (tree.Minus l e)

  pub data Term : ℕ → Rest → Rest → SumTree → Type 0 where
    column : {d : ℕ} {s r : Rest} {n : Name} → name_at s ≡ Some (n, r) → Term d s r (tree.Column n)
    number : {d : ℕ} {s r : Rest} {z : ℤ} → signed_at s ≡ Some (z, r) → Term d s r (tree.Number (skip s).at z)
    percentile : {d : ℕ} {s a b c e f r : Rest} {w n : Name} {p : ℕ} →
        name_at s ≡ Some (w, a) → w.text ≡ codes "percentile" → sign_at 40 a ≡ Some b → name_at b ≡ Some (n, c) →
        sign_at 44 c ≡ Some e → positive_at 100 e ≡ Some (p, f) → sign_at 41 f ≡ Some r →
        Term d s r (tree.Percentile (skip s).at n p)
    sum_in_parentheses : {d : ℕ} {s m k r : Rest} {e : SumTree} → sign_at 40 s ≡ Some m → Sum d m k e →
        sign_at 41 k ≡ Some r → Term (suc d) s r e

-- or = and { "||" and }
-- and = not { "&&" not }
-- not = "!" not | "(" or ")" | name comparison literal | name "=~" text
mutual
  pub data Disjunction : ℕ → Rest → Rest → PredicateTree → Type 0 where
    one_conjunction : {d : ℕ} {s r : Rest} {p : PredicateTree} → Conjunction d s r p → Disjunction d s r p
    or : {d : ℕ} {s m k r : Rest} {l p : PredicateTree} → Disjunction d s m l → keyword_at (codes "||") m ≡ Some k →
        Conjunction d k r p → Disjunction d s r (tree.Or l p)

  pub data Conjunction : ℕ → Rest → Rest → PredicateTree → Type 0 where
    one_negation : {d : ℕ} {s r : Rest} {p : PredicateTree} → Negation d s r p → Conjunction d s r p
    and : {d : ℕ} {s m k r : Rest} {l p : PredicateTree} → Conjunction d s m l → keyword_at (codes "&&") m ≡ Some k →
        Negation d k r p → Conjunction d s r (tree.And l p)

  pub data Negation : ℕ → Rest → Rest → PredicateTree → Type 0 where
    not : {d : ℕ} {s m r : Rest} {p : PredicateTree} → sign_at 33 s ≡ Some m → Negation d m r p →
        Negation (suc d) s r (tree.Not p)
    in_parentheses : {d : ℕ} {s m k r : Rest} {p : PredicateTree} → sign_at 40 s ≡ Some m → Disjunction d m k p →
        sign_at 41 k ≡ Some r → Negation (suc d) s r p
    compare : {d : ℕ} {s m k r : Rest} {n : Name} {c : Comparison} {v : FieldValue} →
        name_at s ≡ Some (n, m) → comparison_at m ≡ Some (c, k) → literal_at k ≡ Some (v, r) →
        Negation d s r (tree.Compare n c (literal k v))
    like : {d : ℕ} {s m k r : Rest} {n : Name} {ps : List (List ℕ)} →
        name_at s ≡ Some (n, m) → keyword_at (codes "=~") m ≡ Some k → pattern_at k ≡ Some (ps, r) →
        Negation d s r (tree.Like n (record { at = (skip k).at; pieces = ps }))

-- name { "," name }
pub data NameList : Rest → Rest → List Name → Type 0 where
  one_name : {s r : Rest} {n : Name} → name_at s ≡ Some (n, r) → NameList s r (n ∷ [])
  more_names : {s m k r : Rest} {ns : List Name} {n : Name} → NameList s m ns → sign_at 44 m ≡ Some k →
      name_at k ≡ Some (n, r) → NameList s r (ns ++ n ∷ [])

-- "[" [ name { "," name } ] "]"
pub data Grouping : Rest → Rest → List Name → Type 0 where
  no_names : {s m r : Rest} → sign_at 91 s ≡ Some m → sign_at 93 m ≡ Some r → Grouping s r []
  some_names : {s m k r : Rest} {ns : List Name} → sign_at 91 s ≡ Some m → NameList m k ns → sign_at 93 k ≡ Some r →
      Grouping s r ns

-- the words of folds, each with its fold
abbrev pub fold_named : FoldWord → List ℕ
fold_named fold.Count = codes "count"
fold_named fold.Sum = codes "sum"
fold_named fold.Min = codes "min"
fold_named fold.Max = codes "max"
fold_named fold.Mean = codes "mean"
fold_named fold.Merge = codes "merge"
fold_named fold.Aggregate = codes "aggregate"

-- "count" "(" ")" | fold "(" name ")", from behind the word
pub data Folded : FoldWord → Rest → Rest → Option Name → Type 0 where
  counted : {s m r : Rest} → sign_at 40 s ≡ Some m → sign_at 41 m ≡ Some r → Folded fold.Count s r None
  folded : {w : FoldWord} {s m k r : Rest} {n : Name} → (w ≡ fold.Count → ⊥) → sign_at 40 s ≡ Some m →
      name_at m ≡ Some (n, k) → sign_at 41 k ≡ Some r → Folded w s r (Some n)

-- agg = [ name ":" ] ( "count" "(" ")" | fold "(" name ")" )
pub data Folding : Rest → Rest → Aggregate → Type 0 where
  unnamed : {s m r : Rest} {n : Name} {w : FoldWord} {c : Option Name} →
      name_at s ≡ Some (n, m) → n.text ≡ fold_named w → Folded w m r c →
      Folding s r (record { at = (skip s).at; name = None; fold = w; column = c })
  named : {s m k j r : Rest} {n : Name} {w : FoldWord} {c : Option Name} →
      name_at s ≡ Some (n, m) → sign_at 58 m ≡ Some k → keyword_at (fold_named w) k ≡ Some j → Folded w j r c →
      Folding s r (record { at = (skip k).at; name = Some n; fold = w; column = c })

-- agg { "," agg }
pub data FoldingList : Rest → Rest → List Aggregate → Type 0 where
  one_folding : {s r : Rest} {a : Aggregate} → Folding s r a → FoldingList s r (a ∷ [])
  more_foldings : {s m k r : Rest} {as' : List Aggregate} {a : Aggregate} → FoldingList s m as' →
      sign_at 44 m ≡ Some k → Folding k r a → FoldingList s r (as' ++ a ∷ [])

-- item = [ name ":" ] sum, where an item without a name is a single column's name
pub data ItemOf : ℕ → Rest → Rest → ItemTree → Type 0 where
  single : {d : ℕ} {s r : Rest} {n : Name} → name_at s ≡ Some (n, r) →
      ItemOf d s r (record { name = None; sum = tree.Column n })
  labelled : {d : ℕ} {s m k r : Rest} {n : Name} {e : SumTree} → name_at s ≡ Some (n, m) → sign_at 58 m ≡ Some k →
      Sum d k r e → ItemOf d s r (record { name = Some n; sum = e })

-- item { "," item }
pub data ItemList : ℕ → Rest → Rest → List ItemTree → Type 0 where
  one_item : {d : ℕ} {s r : Rest} {i : ItemTree} → ItemOf d s r i → ItemList d s r (i ∷ [])
  more_items : {d : ℕ} {s m k r : Rest} {items : List ItemTree} {i : ItemTree} → ItemList d s m items →
      sign_at 44 m ≡ Some k → ItemOf d k r i → ItemList d s r (items ++ i ∷ [])

-- op = "filter" or | "align" aligner "(" duration ")" | "group_by" "[" [ name { "," name } ] "]" "," agg { "," agg }
--    | "value" "[" item { "," item } "]" | "top" number "," name | "every" duration | "within" duration
pub data Deed : ℕ → Rest → Rest → DeedTree → Type 0 where
  filter : {d : ℕ} {s m r : Rest} {p : PredicateTree} → keyword_at (codes "filter") s ≡ Some m → Apart m →
      Disjunction d m r p → Deed d s r (tree.Filter p)
  align_delta : {d : ℕ} {s m k j i r : Rest} {z : ℤ} →
      keyword_at (codes "align") s ≡ Some m → Apart m → keyword_at (codes "delta") m ≡ Some k → sign_at 40 k ≡ Some j →
      duration_at j ≡ Some (z, i) → sign_at 41 i ≡ Some r → Deed d s r (tree.Align (aligner.Delta z))
  align_next_older : {d : ℕ} {s m k j i r : Rest} {z : ℤ} →
      keyword_at (codes "align") s ≡ Some m → Apart m → keyword_at (codes "next_older") m ≡ Some k → sign_at 40 k
      ≡ Some j →
      duration_at j ≡ Some (z, i) → sign_at 41 i ≡ Some r → Deed d s r (tree.Align (aligner.NextOlder z))
  group_by : {d : ℕ} {s m k j r : Rest} {ns : List Name} {as' : List Aggregate} →
      keyword_at (codes "group_by") s ≡ Some m → Grouping m k ns → sign_at 44 k ≡ Some j → FoldingList j r as' →
      Deed d s r (tree.GroupBy ns as')
  value : {d : ℕ} {s m k j r : Rest} {items : List ItemTree} →
      keyword_at (codes "value") s ≡ Some m → sign_at 91 m ≡ Some k → ItemList d k j items → sign_at 93 j ≡ Some r →
      Deed d s r (tree.Value items)
  top : {d : ℕ} {s m k j r : Rest} {n : ℕ} {c : Name} →
      keyword_at (codes "top") s ≡ Some m → Apart m → positive_at 16777216 m ≡ Some (n, k) → sign_at 44 k ≡ Some j →
      name_at j ≡ Some (c, r) → Deed d s r (tree.Top n c)
  every : {d : ℕ} {s m r : Rest} {z : ℤ} → keyword_at (codes "every") s ≡ Some m → Apart m →
      duration_at m ≡ Some (z, r) → Deed d s r (tree.Every z)
  within : {d : ℕ} {s m r : Rest} {z : ℤ} → keyword_at (codes "within") s ≡ Some m → Apart m →
      duration_at m ≡ Some (z, r) → Deed d s r (tree.Within z)

-- { "|" op }
pub data Ops : ℕ → Rest → Rest → List OpTree → Type 0 where
  no_ops : {d : ℕ} {s : Rest} → Ops d s s []
  more_ops : {d : ℕ} {s m k r : Rest} {ops : List OpTree} {what : DeedTree} → Ops d s m ops → sign_at 124 m ≡ Some k →
      Deed d k r what → Ops d s r (ops ++ record { at = (skip k).at; what = what } ∷ [])

-- how = "join" | "union"
abbrev pub how_word : How → List ℕ
how_word how.Join = codes "join"
how_word how.Union = codes "union"

-- pipe = source { "|" op }
-- source = "fetch" name "::" metric | "{" pipe ";" pipe { ";" pipe } "}" "|" how
mutual
  pub data Pipe : ℕ → Rest → Rest → PipeTree → Type 0 where
    flow : {d : ℕ} {s m r : Rest} {t : SourceTree} {ops : List OpTree} → Source d s m t → Ops d m r ops →
        Pipe d s r (tree.Flow t ops)

  pub data Source : ℕ → Rest → Rest → SourceTree → Type 0 where
    fetch : {d : ℕ} {s m k j r : Rest} {n w : Name} →
        keyword_at (codes "fetch") s ≡ Some m → Apart m → name_at m ≡ Some (n, k) → keyword_at (codes "::") k ≡ Some j →
        metric_at j ≡ Some (w, r) → Source d s r (tree.Fetch (skip s).at n w)
    join : {d : ℕ} {s m k j i r : Rest} {ps : List PipeTree} {h : How} →
        sign_at 123 s ≡ Some m → PipeList d m k ps → sign_at 125 k ≡ Some j → sign_at 124 j ≡ Some i →
        keyword_at (how_word h) i ≡ Some r →
        Source (suc d) s r (tree.Branches (skip s).at (branches ps) h (skip i).at)

  pub data PipeList : ℕ → Rest → Rest → List PipeTree → Type 0 where
    two_pipes : {d : ℕ} {s m k r : Rest} {p q : PipeTree} → Pipe d s m p → sign_at 59 m ≡ Some k → Pipe d k r q →
        PipeList d s r (p ∷ q ∷ [])
    more_pipes : {d : ℕ} {s m k r : Rest} {ps : List PipeTree} {p : PipeTree} → PipeList d s m ps →
        sign_at 59 m ≡ Some k → Pipe d k r p → PipeList d s r (ps ++ p ∷ [])

-- a text, before anything of it was read
abbrev pub start : List ℕ → Rest
start text = record { at = 0; bytes = text }

abbrev pub levels : ℕ
levels = 64

abbrev pub longest_text : ℕ
longest_text = 65536

-- query = pipe: from the first byte, which is no blank, to the last
pub record SpellsAtLength (tree : PipeTree) (text : List ℕ) : Type 0 where
  pub begins : skip (start text) ≡ start text
  pub end : Rest
  pub whole : Pipe levels (start text) end tree
  pub ended : end.bytes ≡ []

-- the tree spells the text, which is not too long
pub record Spells (tree : PipeTree) (text : List ℕ) : Type 0 where
  pub fits : length text ≤ longest_text
  pub spelled : SpellsAtLength tree text

-- the text begins some text that a tree spells, where its length plays no part
pub record Begins (front : List ℕ) : Type 0 where
  pub more : List ℕ
  pub tree : PipeTree
  pub spelled : SpellsAtLength tree (front ++ more)
