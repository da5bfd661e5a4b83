-- Operations are printed with no more parentheses than any text of them has.
use Rattle.std.proofs.Common.{◌≡◌, ℕ, ◌+◌, ◌≤◌, false, ◌==◌, List, [], ◌∷◌, ◌++◌, map, codes, refl, ap, ◌∙◌, arith}
use Rattle.std.proofs.Common.{Option}
use Rattle.std.specs.Fmt.{decimal}
use Rattle.mql_ast.specs.declared.names.Name.{Name}
use Rattle.mql_ast.specs.declared.operations.Aggregate.{Aggregate}
use Rattle.mql_ast.specs.declared.operations.FoldWord.{FoldWord}
use Rattle.mql_ast.specs.declared.operations.FoldWord.TheVariants as fold
use Rattle.mql_ast.specs.Tokens.{Rest, skip}
use Rattle.mql_ast.specs.Trees.{ItemTree, DeedTree, OpTree}
use Rattle.mql_ast.specs.Printed.{separated_texts, comma, name_text, sum_text, predicate_text, item_text, fold_text}
use Rattle.mql_ast.specs.Printed.{aggregate_text, duration_text, deed_text, ops_text}
use Rattle.mql_ast.specs.Grammar.{NameList, one_name, more_names, Grouping, no_names, some_names, fold_named, Folded}
use Rattle.mql_ast.specs.Grammar.{counted, folded, Folding, unnamed, named, FoldingList, one_folding, more_foldings}
use Rattle.mql_ast.specs.Grammar.{ItemOf, single, labelled, ItemList, one_item, more_items, Deed, filter, align_delta}
use Rattle.mql_ast.specs.Grammar.{align_next_older, group_by, value, top, every, within, Ops, no_ops, more_ops}
use Rattle.mql_ast.specs.Parentheses.{parentheses}
use Rattle.mql_ast.proofs.NumbersPrinted.{positive_lawful, duration_lawful}
use Rattle.mql_ast.proofs.ListsPrinted.{separated_push}
use Rattle.mql_ast.proofs.OperationsPrinted.{names_some, foldings_some, items_some, folded_text, ops_push}
use Rattle.mql_ast.proofs.TokensFewest.{left, parentheses_append, no_parentheses, other_byte, sign_left, open_left}
use Rattle.mql_ast.proofs.TokensFewest.{word_left, name_left, positive_left, duration_left, decimal_none}
use Rattle.mql_ast.proofs.TokensFewest.{duration_none}
use Rattle.mql_ast.proofs.PredicateFewest.{IsBare, around, between, sum_left, disjunction_left}

comma_bare : IsBare comma
unfolding parentheses
comma_bare = refl

one_text : (A : Type 0) (text : A → List ℕ) (x : A) → parentheses (separated_texts comma (map text (x ∷ [])))
    ≡ parentheses
    (text x)
one_text A text x = omega (arith, parentheses_append (text x) [], no_parentheses)

more_text : (A : Type 0) (text : A → List ℕ) (xs : List A) (x : A) → (xs ≡ [] → ⊥)
    → parentheses (separated_texts comma (map text (xs ++ x ∷ []))) ≡ parentheses (separated_texts comma (map text xs))
    + parentheses (text x)
more_text A text xs x some = ap parentheses (separated_push A text xs x some)
    ∙ between (separated_texts comma (map text xs))
    comma (text x) comma_bare

-- a bare text before another
pub after_bare : (a b : List ℕ) → parentheses a ≡ 0 → parentheses (a ++ b) ≡ parentheses b
after_bare a b h = omega (arith, parentheses_append a b, h)

names_left : {s r : Rest} {ns : List Name} → NameList s r ns → parentheses (separated_texts comma (map name_text ns))
    + left r ≤ left s
names_left {s = s} {r = r} (one_name {n = n} e) = omega (arith, one_text Name name_text n, name_left s r n e)
names_left {r = r} (more_names {m = m} {k = k} {ns = ns} {n = n} L g e) =
    omega (arith, more_text Name name_text ns n (names_some L), names_left L, sign_left 44 m k g, name_left k r n e)

grouping_left : {s r : Rest} {ns : List Name} → Grouping s r ns → parentheses (separated_texts comma (map name_text ns))
    + left r ≤ left s
grouping_left {s = s} {r = r} (no_names {m = m} g h) =
    omega (arith, no_parentheses, sign_left 91 s m g, sign_left 93 m r h)
grouping_left {s = s} {r = r} (some_names {m = m} {k = k} g L h) =
    omega (arith, sign_left 91 s m g, names_left L, sign_left 93 k r h)

fold_bare : (w : FoldWord) → IsBare (fold_text w)
unfolding parentheses
fold_bare fold.Count = refl
fold_bare fold.Sum = refl
fold_bare fold.Min = refl
fold_bare fold.Max = refl
fold_bare fold.Mean = refl
fold_bare fold.Merge = refl
fold_bare fold.Aggregate = refl

folded_left : {w : FoldWord} {s r : Rest} {c : Option Name} → Folded w s r c → parentheses (folded_text c) + left r
    ≤ left s
folded_left {s = s} {r = r} (counted {m = m} g h) =
    omega (arith, around [], no_parentheses, open_left s m g, sign_left 41 m r h)
folded_left {s = s} {r = r} (folded {m = m} {k = k} {n = n} other g e h) =
    omega (arith, around n.text, open_left s m g, name_left m k n e, sign_left 41 k r h)

colon_bare : IsBare (codes ": ")
unfolding parentheses
colon_bare = refl

labelled_text : (n t : List ℕ) → parentheses ((n ++ codes ": ") ++ t) ≡ parentheses n + parentheses t
labelled_text n t = omega (arith, parentheses_append (n ++ codes ": ") t, parentheses_append n (codes ": "), colon_bare)

folding_left : {s r : Rest} {a : Aggregate} → Folding s r a → parentheses (aggregate_text a) + left r ≤ left s
folding_left {s = s} (unnamed {m = m} {n = n} {w = w} {c = c} e g F) =
    omega (arith, after_bare (fold_text w) (folded_text c) (fold_bare w), name_left s m n e, folded_left F)
folding_left {s = s} (named {m = m} {k = k} {j = j} {n = n} {w = w} {c = c} e g h F) =
    omega (
      arith,
      labelled_text n.text (fold_text w ++ folded_text c),
      after_bare (fold_text w) (folded_text c)
          (fold_bare w),
      name_left s m n e,
      sign_left 58 m k g,
      word_left (fold_named w) k j h,
      folded_left F,
    )

foldings_left : {s r : Rest} {xs : List Aggregate} → FoldingList s r xs
    → parentheses (separated_texts comma (map aggregate_text xs)) + left r ≤ left s
foldings_left (one_folding {a = a} e) = omega (arith, one_text Aggregate aggregate_text a, folding_left e)
foldings_left (more_foldings {m = m} {k = k} {as' = xs} {a = a} L g e) =
    omega (
      arith,
      more_text Aggregate aggregate_text xs a (foldings_some L),
      foldings_left L,
      sign_left 44 m k g,
      folding_left e,
    )

item_left : {d : ℕ} {s r : Rest} {i : ItemTree} → ItemOf d s r i → parentheses (item_text i) + left r ≤ left s
item_left {s = s} {r = r} (single {n = n} e) = name_left s r n e
item_left {s = s} (labelled {m = m} {k = k} {n = n} {e = e} h g S) =
    omega (arith, labelled_text n.text (sum_text false e), name_left s m n h, sign_left 58 m k g, sum_left S)

items_left : {d : ℕ} {s r : Rest} {xs : List ItemTree} → ItemList d s r xs
    → parentheses (separated_texts comma (map item_text xs)) + left r ≤ left s
items_left (one_item {i = i} e) = omega (arith, one_text ItemTree item_text i, item_left e)
items_left (more_items {m = m} {k = k} {items = xs} {i = i} L g e) =
    omega (arith, more_text ItemTree item_text xs i (items_some L), items_left L, sign_left 44 m k g, item_left e)

filter_bare : IsBare (codes "filter ")
unfolding parentheses
filter_bare = refl

delta_one : parentheses (codes "align delta(") ≡ 1
unfolding parentheses
delta_one = refl

next_older_one : parentheses (codes "align next_older(") ≡ 1
unfolding parentheses
next_older_one = refl

group_by_bare : IsBare (codes "group_by [")
unfolding parentheses
group_by_bare = refl

bracket_bare : IsBare (codes "], ")
unfolding parentheses
bracket_bare = refl

value_bare : IsBare (codes "value [")
unfolding parentheses
value_bare = refl

top_bare : IsBare (codes "top ")
unfolding parentheses
top_bare = refl

every_bare : IsBare (codes "every ")
unfolding parentheses
every_bare = refl

within_bare : IsBare (codes "within ")
unfolding parentheses
within_bare = refl

bar_bare : IsBare (codes " | ")
unfolding parentheses
bar_bare = refl

closed_text : (front text : List ℕ) (b : ℕ) → (b == 40) ≡ false → parentheses (front ++ (text ++ b ∷ [])) ≡ parentheses
    front + parentheses text
closed_text front text b h = omega (
  arith,
  parentheses_append front (text ++ b ∷ []),
  parentheses_append text (b ∷ []),
  other_byte b [] h,
  no_parentheses,
)

deed_left : {d : ℕ} {s r : Rest} {what : DeedTree} → Deed d s r what → parentheses (deed_text what) + left r ≤ left s
deed_left {s = s} (filter {m = m} {p = p} w a D) =
    omega (
      arith,
      after_bare (codes "filter ") (predicate_text 0 p) filter_bare,
      word_left (codes "filter") s m w,
      disjunction_left D,
    )
deed_left {s = s} {r = r} (align_delta {m = m} {k = k} {j = j} {i = i} {z = z} w a v g t c) =
    omega (
      arith,
      closed_text (codes "align delta(") (duration_text z) 41 refl,
      delta_one,
      duration_none z (duration_lawful j i z t),
      word_left (codes "align") s m w,
      word_left (codes "delta") m k v,
      open_left k j g,
      duration_left j i z t,
      sign_left 41 i r c,
    )
deed_left {s = s} {r = r} (align_next_older {m = m} {k = k} {j = j} {i = i} {z = z} w a v g t c) =
    omega (
      arith,
      closed_text (codes "align next_older(") (duration_text z) 41 refl,
      next_older_one,
      duration_none z (duration_lawful j i z t),
      word_left (codes "align") s m w,
      word_left (codes "next_older") m k
          v,
      open_left k j g,
      duration_left j i z t,
      sign_left 41 i r c,
    )
deed_left {s = s} (group_by {m = m} {k = k} {j = j} {ns = ns} {as' = xs} w G g L) =
    let names = separated_texts comma (map name_text ns) in
    let folds = separated_texts comma (map aggregate_text xs) in
    omega (
      arith,
      after_bare (codes "group_by [") (names ++ (codes "], " ++ folds)) group_by_bare,
      between names (codes "], ") folds bracket_bare,
      word_left (codes "group_by") s m w,
      grouping_left G,
      sign_left 44 k j g,
      foldings_left L,
    )
deed_left {s = s} {r = r} (value {m = m} {k = k} {j = j} {items = xs} w g L c) =
    omega (
      arith,
      closed_text (codes "value [") (separated_texts comma (map item_text xs)) 93 refl,
      value_bare,
      word_left (codes "value") s m w,
      sign_left 91 m k g,
      items_left L,
      sign_left 93 j r c,
    )
deed_left {s = s} {r = r} (top {m = m} {k = k} {j = j} {n = n} {c = c} w a e g f) =
    let low = (positive_lawful 16777216 (omega arith) m k n e).1 in
    omega (
      arith,
      after_bare (codes "top ") (decimal n ++ (comma ++ c.text)) top_bare,
      between (decimal n) comma c.text
          comma_bare,
      decimal_none n (omega (arith, low)),
      word_left (codes "top") s m w,
      positive_left 16777216 m k n e,
      sign_left 44 k j g,
      name_left j r c f,
    )
deed_left {s = s} {r = r} (every {m = m} {z = z} w a t) =
    omega (
      arith,
      after_bare (codes "every ") (duration_text z) every_bare,
      duration_none z (duration_lawful m r z t),
      word_left (codes "every") s m w,
      duration_left m r z t,
    )
deed_left {s = s} {r = r} (within {m = m} {z = z} w a t) =
    omega (
      arith,
      after_bare (codes "within ") (duration_text z) within_bare,
      duration_none z (duration_lawful m r z t),
      word_left (codes "within") s m w,
      duration_left m r z t,
    )

pub ops_left : {d : ℕ} {s r : Rest} {ops : List OpTree} → Ops d s r ops → parentheses (ops_text ops) + left r ≤ left s
ops_left no_ops = omega (arith, no_parentheses)
ops_left (more_ops {m = m} {k = k} {ops = ops} {what = what} O g D) =
    let op : OpTree = record { at = (skip k).at; what = what } in
    omega (
      arith,
      ap parentheses (ops_push ops op),
      between (ops_text ops) (codes " | ") (deed_text what) bar_bare,
      ops_left O,
      sign_left 124 m k g,
      deed_left D,
    )
