-- Lists of the grammar are read as their parts.
use Rattle.std.proofs.Common.{◌≡◌, ℕ, Bool, true, false, ◌==◌, List, [], ◌∷◌, ◌++◌, codes, refl, ap, ◌∙◌, Option, Some}
use Rattle.std.proofs.Common.{None, Ok}
use Rattle.mql_ast.specs.declared.names.Name.{Name}
use Rattle.mql_ast.specs.declared.operations.Aggregate.{Aggregate}
use Rattle.mql_ast.specs.declared.operations.FoldWord.{FoldWord}
use Rattle.mql_ast.specs.declared.operations.FoldWord.TheVariants as fold
use Rattle.mql_ast.specs.Trees.{SumTree, ItemTree}
use Rattle.mql_ast.specs.Tokens.{is_letter, Rest, head, behind, skip, sign_at, keyword_at, past, name_at}
use Rattle.mql_ast.specs.Grammar as grammar
use Rattle.mql_ast.specs.Grammar.{NameList, one_name, more_names, Grouping, no_names, some_names, fold_named, Folded}
use Rattle.mql_ast.specs.Grammar.{counted, Folding, unnamed, named, FoldingList, one_folding, more_foldings, ItemOf}
use Rattle.mql_ast.specs.Grammar.{single, labelled, ItemList, one_item, more_items}
use Rattle.mql_parse.specs.declared.faults.What.{What}
use Rattle.mql_parse.specs.declared.faults.What.TheVariants as what
use Rattle.mql_parse.specs.Outcomes.{Outcome, sign, exact, up_to_sign}
use Rattle.mql_parse.specs.Repeats.{Turn, Done, Again, on_read, list_or_end, list_turn, repetition}
use Rattle.mql_parse.specs.TokenReading as reading
use Rattle.mql_parse.specs.SumReading as sums
use Rattle.mql_parse.specs.Folds as folds
use Rattle.mql_parse.specs.Behind.{Behind}
use Rattle.mql_parse.proofs.BehindLemmas.{behind_behind, sign_behind, name_behind, sign_taken}
use Rattle.mql_parse.proofs.Sound.{repeated_again}
use Rattle.mql_parse.proofs.ListSound.{item_behind, folding_behind}
use Rattle.mql_parse.proofs.Complete.{bound, mapped, up_to_read, sign_read, exact_read, name_read, ends_here}
use Rattle.mql_parse.proofs.Complete.{other_byte, not_that_byte, other_sign, first_past}
use Rattle.mql_parse.proofs.SumComplete.{name_taken, place_of_name, SumEnds, sum_ends_before, sum_read}
use Rattle.mql_parse.proofs.ByteLemmas.{if_true, if_false}

-- a list whose parts are read
module _ {A : Type 0} (close : ℕ) (comma : (close == 44) ≡ false) (w : What) (part : Rest → Outcome A) where
  next_turn : (so_far : List A) (x : A) (s m k : Rest) → part s ≡ Ok (x, m) → sign_at 44 m ≡ Some k →
      list_turn close w part so_far s ≡ Again (so_far ++ x ∷ []) k
  next_turn so_far x s m k e h =
      let t = sign_taken 44 m k h in
      ap (on_read (list_or_end close w so_far)) e ∙ if_true (head (skip m) == 44) _ _ t.0
      ∙ ap (Again (so_far ++ x ∷ [])) t.1

  last_turn : (so_far : List A) (x : A) (s m k : Rest) → part s ≡ Ok (x, m) → sign_at close m ≡ Some k →
      list_turn close w part so_far s ≡ Done (so_far ++ x ∷ []) k
  last_turn so_far x s m k e h =
      let t = sign_taken close m k h in
      ap (on_read (list_or_end close w so_far)) e ∙ if_false (head (skip m) == 44) _ _ (other_sign 44 close comma m k h)
      ∙ if_true (head (skip m) == close) _ _ t.0 ∙ ap (Done (so_far ++ x ∷ [])) t.1

  pub next_part : (so_far : List A) (x : A) (s m k : Rest) → part s ≡ Ok (x, m) → Behind s m → sign_at 44 m ≡ Some k →
      repetition (list_turn close w part) so_far s ≡ repetition (list_turn close w part) (so_far ++ x ∷ []) k
  next_part so_far x s m k e f h =
      repeated_again (list_turn close w part) so_far (so_far ++ x ∷ []) s k (next_turn so_far x s m k e h)
      (behind_behind s m k f (sign_behind 44 refl m k h))

  pub last_part : (so_far : List A) (x : A) (s m k : Rest) → part s ≡ Ok (x, m) → sign_at close m ≡ Some k →
      repetition (list_turn close w part) so_far s ≡ Ok (so_far ++ x ∷ [], k)
  last_part so_far x s m k e h =
      ends_here (list_turn close w part) so_far (so_far ++ x ∷ []) s k (last_turn so_far x s m k e h)

-- names
abbrev name_turn : List Name → Rest → Turn (List Name)
name_turn = list_turn 93 what.CloseBracket reading.name

names_go_on : {s r : Rest} {ns : List Name} → NameList s r ns → (k : Rest) → sign_at 44 r ≡ Some k →
    repetition name_turn [] s ≡ repetition name_turn ns k
names_go_on {s = s} {r = r} (one_name {n = n} e) k h =
    next_part 93 refl what.CloseBracket reading.name [] n s r k (name_read s r n e) (name_behind s r n e) h
names_go_on {r = r} (more_names {k = j} {ns = ns} {n = n} l e f) k h =
    names_go_on l j e ∙ next_part 93 refl what.CloseBracket reading.name ns n j r k (name_read j r n f)
    (name_behind j r n f) h

names_end : {s r : Rest} {ns : List Name} → NameList s r ns → (k : Rest) → sign_at 93 r ≡ Some k →
    repetition name_turn [] s ≡ Ok (ns, k)
names_end {s = s} {r = r} (one_name {n = n} e) k h =
    last_part 93 refl what.CloseBracket reading.name [] n s r k (name_read s r n e) h
names_end {r = r} (more_names {k = j} {ns = ns} {n = n} l e f) k h =
    names_go_on l j e ∙ last_part 93 refl what.CloseBracket reading.name ns n j r k (name_read j r n f) h

names_begin : {s r : Rest} {ns : List Name} → NameList s r ns → is_letter (head (skip s)) ≡ true
names_begin {s = s} {r = r} (one_name {n = n} e) = (name_taken s r n e).0
names_begin (more_names l e f) = names_begin l

no_names_read : (m r : Rest) → sign_at 93 m ≡ Some r → folds.names m ≡ Ok ([], r)
unfolding folds.names
no_names_read m r h = let t = sign_taken 93 m r h in if_true (head (skip m) == 93) _ _ t.0 ∙ ap (λ k. Ok ([], k)) t.1

some_names_read : (m k r : Rest) (ns : List Name) → NameList m k ns → sign_at 93 k ≡ Some r → folds.names m ≡ Ok (ns, r)
unfolding folds.names
some_names_read m k r ns l h =
    if_false (head (skip m) == 93) _ _ (not_that_byte is_letter 93 refl (head (skip m)) (names_begin l))
    ∙ names_end l r h

pub names_read : {s r : Rest} {ns : List Name} → Grouping s r ns →
    (m : Rest) × ((sign_at 91 s ≡ Some m) × (folds.names m ≡ Ok (ns, r)))
names_read {r = r} (no_names {m = m} e h) = (m, (e, no_names_read m r h))
names_read {r = r} (some_names {m = m} {k = k} {ns = ns} e l h) = (m, (e, some_names_read m k r ns l h))

-- items
abbrev pub ItemEnds : Rest → Type 0
ItemEnds r = ((head (skip r) == 58) ≡ false) × SumEnds r

item_ends_before : (c : ℕ) → (c == 58) ≡ false → (c == 40) ≡ false → (c == 43) ≡ false → (c == 45) ≡ false →
    (s r : Rest) → sign_at c s ≡ Some r → ItemEnds s
item_ends_before c colon a b z s r e = (other_sign 58 c colon s r e, sum_ends_before c a b z s r e)

single_read : (d : ℕ) (s r : Rest) (n : Name) → name_at s ≡ Some (n, r) → (head (skip r) == 58) ≡ false →
    sums.item_with (sums.sum d) s ≡ Ok (sums.single n, r)
unfolding sums.item_with
single_read d s r n e h =
    bound (reading.name s) (sums.item_behind (sums.sum d)) (n, r) _ (name_read s r n e)
    (if_false (head (skip r) == 58) _ _ h)

labelled_read : (d : ℕ) (s m k r : Rest) (n : Name) (e : SumTree) (b : Bool) → name_at s ≡ Some (n, m) →
    sign_at 58 m ≡ Some k → sums.sum d k ≡ Ok (sums.as_sum_seen e b, r) →
    sums.item_with (sums.sum d) s ≡ Ok (sums.labelled_item n e, r)
unfolding sums.item_with
labelled_read d s m k r n e b f h g =
    let t = sign_taken 58 m k h in
    bound (reading.name s) (sums.item_behind (sums.sum d)) (n, m) _ (name_read s m n f)
    (if_true (head (skip m) == 58) _ _ t.0 ∙ mapped (sums.labelled_sum n) (sums.sum d (behind (skip m)))
    (sums.as_sum_seen e b) r (ap (sums.sum d) t.1 ∙ g))

item_read : {d : ℕ} {s r : Rest} {i : ItemTree} → ItemOf d s r i → ItemEnds r → sums.item_with (sums.sum d) s ≡ Ok
    (i, r)
item_read {d = d} {s = s} {r = r} (single {n = n} e) u = single_read d s r n e u.0
item_read {d = d} {s = s} {r = r} (labelled {m = m} {k = k} {n = n} {e = e} f h S) u = let t = sum_read S u.1 in
    labelled_read d s m k r n e t.0 f h t.1

abbrev item_turn : ℕ → List ItemTree → Rest → Turn (List ItemTree)
item_turn d = list_turn 93 what.CloseBracket (sums.item_with (sums.sum d))

items_go_on : {d : ℕ} {s r : Rest} {all : List ItemTree} → ItemList d s r all → (k : Rest) → sign_at 44 r ≡ Some k →
    repetition (item_turn d) [] s ≡ repetition (item_turn d) all k
items_go_on {d = d} {s = s} {r = r} (one_item {i = i} p) k h =
    next_part 93 refl what.CloseBracket (sums.item_with (sums.sum d)) [] i s r k
    (item_read p (item_ends_before 44 refl refl refl refl r k h)) (item_behind p) h
items_go_on {d = d} {r = r} (more_items {k = j} {items = items} {i = i} l e p) k h =
    items_go_on l j e ∙ next_part 93 refl what.CloseBracket (sums.item_with (sums.sum d)) items i j r k
    (item_read p (item_ends_before 44 refl refl refl refl r k h)) (item_behind p) h

items_end : {d : ℕ} {s r : Rest} {all : List ItemTree} → ItemList d s r all → (k : Rest) → sign_at 93 r ≡ Some k →
    repetition (item_turn d) [] s ≡ Ok (all, k)
items_end {d = d} {s = s} {r = r} (one_item {i = i} p) k h =
    last_part 93 refl what.CloseBracket (sums.item_with (sums.sum d)) [] i s r k
    (item_read p (item_ends_before 93 refl refl refl refl r k h)) h
items_end {d = d} {r = r} (more_items {k = j} {items = items} {i = i} l e p) k h =
    items_go_on l j e ∙ last_part 93 refl what.CloseBracket (sums.item_with (sums.sum d)) items i j r k
    (item_read p (item_ends_before 93 refl refl refl refl r k h)) h

pub items_read : (d : ℕ) (s k r : Rest) (all : List ItemTree) → ItemList d s k all → sign_at 93 k ≡ Some r →
    sums.items d s ≡ Ok (all, r)
unfolding sums.items_with_sum
items_read d s k r all l h = items_end l r h

-- the word of a fold
fold_of_named : (w : FoldWord) → folds.fold_of (fold_named w) ≡ Some w
fold_of_named fold.Count = refl
fold_of_named fold.Sum = refl
fold_of_named fold.Min = refl
fold_of_named fold.Max = refl
fold_of_named fold.Mean = refl
fold_of_named fold.Merge = refl
fold_of_named fold.Aggregate = refl

read_as_read : (w : FoldWord) (word : List ℕ) (s r : Rest) → past word s ≡ Some r
    → folds.fold_word_from w word s ≡ Ok (w, r)
read_as_read w word s r e = bound (exact what.Aggregate word s) _ r _ (exact_read what.Aggregate word s r e) refl

-- a byte that stands here, and tests of others before it
fold_by_m : (s : Rest) → (head s == 109) ≡ true → folds.fold_here s ≡ folds.fold_behind_m (behind s)
unfolding folds.fold_here
fold_by_m s h =
    if_false (head s == 99) _ _ (other_byte 99 109 (head s) refl h)
    ∙ if_false (head s == 115) _ _ (other_byte 115 109 (head s) refl h)
    ∙ if_false (head s == 97) _ _ (other_byte 97 109 (head s) refl h) ∙ if_true (head s == 109) _ _ h

fold_by_me : (s : Rest) → (head s == 101) ≡ true → folds.fold_behind_m s ≡ folds.fold_behind_me (behind s)
unfolding folds.fold_behind_m
fold_by_me s h =
    if_false (head s == 105) _ _ (other_byte 105 101 (head s) refl h)
    ∙ if_false (head s == 97) _ _ (other_byte 97 101 (head s) refl h) ∙ if_true (head s == 101) _ _ h

count_read : (s r : Rest) → past (codes "count") s ≡ Some r → folds.fold_here s ≡ Ok (fold.Count, r)
unfolding folds.fold_here
count_read s r e = let c = first_past 99 (codes "ount") s r e in
    if_true (head s == 99) _ _ c.0 ∙ read_as_read fold.Count (codes "count") s r e

summed_read : (s r : Rest) → past (codes "sum") s ≡ Some r → folds.fold_here s ≡ Ok (fold.Sum, r)
unfolding folds.fold_here
summed_read s r e =
    let c = first_past 115 (codes "um") s r e in
    if_false (head s == 99) _ _ (other_byte 99 115 (head s) refl c.0) ∙ if_true (head s == 115) _ _ c.0
    ∙ read_as_read fold.Sum (codes "sum") s r e

aggregate_word_read : (s r : Rest) → past (codes "aggregate") s ≡ Some r → folds.fold_here s ≡ Ok (fold.Aggregate, r)
unfolding folds.fold_here
aggregate_word_read s r e =
    let c = first_past 97 (codes "ggregate") s r e in
    if_false (head s == 99) _ _ (other_byte 99 97 (head s) refl c.0)
    ∙ if_false (head s == 115) _ _ (other_byte 115 97 (head s) refl c.0) ∙ if_true (head s == 97) _ _ c.0
    ∙ read_as_read fold.Aggregate (codes "aggregate") s r e

min_read : (s r : Rest) → past (codes "min") s ≡ Some r → folds.fold_here s ≡ Ok (fold.Min, r)
unfolding folds.fold_behind_m
min_read s r e =
    let c = first_past 109 (codes "in") s r e in
    let i = first_past 105 (codes "n") (behind s) r c.1 in
    fold_by_m s c.0 ∙ if_true (head (behind s) == 105) _ _ i.0 ∙ read_as_read fold.Min (codes "n") (behind (behind s))
    r i.1

max_read : (s r : Rest) → past (codes "max") s ≡ Some r → folds.fold_here s ≡ Ok (fold.Max, r)
unfolding folds.fold_behind_m
max_read s r e =
    let c = first_past 109 (codes "ax") s r e in
    let i = first_past 97 (codes "x") (behind s) r c.1 in
    fold_by_m s c.0 ∙ if_false (head (behind s) == 105) _ _ (other_byte 105 97 (head (behind s)) refl i.0)
    ∙ if_true (head (behind s) == 97) _ _ i.0
    ∙ read_as_read fold.Max (codes "x") (behind (behind s)) r i.1

mean_read : (s r : Rest) → past (codes "mean") s ≡ Some r → folds.fold_here s ≡ Ok (fold.Mean, r)
mean_read s r e =
    let c = first_past 109 (codes "ean") s r e in
    let i = first_past 101 (codes "an") (behind s) r c.1 in
    let j = first_past 97 (codes "n") (behind (behind s)) r i.1 in
    fold_by_m s c.0 ∙ fold_by_me (behind s) i.0 ∙ if_true (head (behind (behind s)) == 97) _ _ j.0
    ∙ read_as_read fold.Mean (codes "n") (behind (behind (behind s))) r j.1

merge_read : (s r : Rest) → past (codes "merge") s ≡ Some r → folds.fold_here s ≡ Ok (fold.Merge, r)
merge_read s r e =
    let c = first_past 109 (codes "erge") s r e in
    let i = first_past 101 (codes "rge") (behind s) r c.1 in
    let j = first_past 114 (codes "ge") (behind (behind s)) r i.1 in
    fold_by_m s c.0 ∙ fold_by_me (behind s) i.0 ∙ if_false (head (behind (behind s)) == 97) _ _
    (other_byte 97 114 (head (behind (behind s))) refl j.0)
    ∙ if_true (head (behind (behind s)) == 114) _ _ j.0
    ∙ read_as_read fold.Merge (codes "ge") (behind (behind (behind s))) r j.1

fold_word_read : (w : FoldWord) (k r : Rest) → keyword_at (fold_named w) k ≡ Some r → folds.fold_here (skip k)
    ≡ Ok (w, r)
fold_word_read fold.Count k r e = count_read (skip k) r e
fold_word_read fold.Sum k r e = summed_read (skip k) r e
fold_word_read fold.Min k r e = min_read (skip k) r e
fold_word_read fold.Max k r e = max_read (skip k) r e
fold_word_read fold.Mean k r e = mean_read (skip k) r e
fold_word_read fold.Merge k r e = merge_read (skip k) r e
fold_word_read fold.Aggregate k r e = aggregate_word_read (skip k) r e

-- a fold with its column
some_column_read : (s r : Rest) (n : Name) → name_at s ≡ Some (n, r) → folds.some_column s ≡ Ok (Some n, r)
some_column_read s r n e = mapped Some (reading.name s) n r (name_read s r n e)

folded_column_read : (w : FoldWord) → (w ≡ fold.Count → ⊥) → (s r : Rest) (n : Name) → name_at s ≡ Some (n, r) →
    folds.fold_column w s ≡ Ok (Some n, r)
folded_column_read fold.Count h s r n e = absurd (h refl)
folded_column_read fold.Sum h s r n e = some_column_read s r n e
folded_column_read fold.Min h s r n e = some_column_read s r n e
folded_column_read fold.Max h s r n e = some_column_read s r n e
folded_column_read fold.Mean h s r n e = some_column_read s r n e
folded_column_read fold.Merge h s r n e = some_column_read s r n e
folded_column_read fold.Aggregate h s r n e = some_column_read s r n e

fold_call_read : (at : ℕ) (label : Option Name) (w : FoldWord) (s k r : Rest) (c : Option Name) →
    folds.fold_column w s ≡ Ok (c, k) → sign_at 41 k ≡ Some r →
    folds.fold_call at label w s ≡ Ok (folds.aggregate_from at label w c, r)
unfolding folds.fold_call
fold_call_read at label w s k r c e h =
    mapped (folds.aggregate_from at label w) (up_to_sign 41 what.CloseParenthesis (folds.fold_column w s)) c r
    (up_to_read 41 what.CloseParenthesis (folds.fold_column w s) c k r e h)

folded_read : {w : FoldWord} {s r : Rest} {c : Option Name} → Folded w s r c →
    (m : Rest) × ((sign_at 40 s ≡ Some m) × ((at : ℕ) (label : Option Name) →
    folds.fold_call at label w m ≡ Ok (folds.aggregate_from at label w c, r)))
folded_read {r = r} (counted {m = m} e h) = (m, (e, λ at label. fold_call_read at label fold.Count m m r None refl h))
folded_read {w = w} {r = r} (grammar.folded {m = m} {k = k} {n = n} x e f h) =
    (m, (e, λ at label. fold_call_read at label w m k r (Some n) (folded_column_read w x m k n f) h))

-- aggregates
unnamed_read : (s m k r : Rest) (n : Name) (w : FoldWord) (c : Option Name) → name_at s ≡ Some (n, m) →
    n.text ≡ fold_named w → sign_at 40 m ≡ Some k →
    folds.fold_call n.at None w k ≡ Ok (folds.aggregate_from n.at None w c, r) →
    folds.aggregate s ≡ Ok (folds.aggregate_from (skip s).at None w c, r)
unfolding folds.aggregate
unnamed_read s m k r n w c e f h g =
    let t = sign_taken 40 m k h in
    bound (reading.name s) _ (n, m) _ (name_read s m n e)
    (if_false (head (skip m) == 58) _ _ (other_sign 58 40 refl m k h)
    ∙ ap (λ o. folds.bare_fold n.at o (skip m)) (ap folds.fold_of f ∙ fold_of_named w)
    ∙ if_true (head (skip m) == 40) _ _ t.0
    ∙ ap (folds.fold_call n.at None w) t.1
    ∙ g
    ∙ ap (λ at. Ok (folds.aggregate_from at None w c, r)) (place_of_name s m n e))

named_read : (s m k j i r : Rest) (n : Name) (w : FoldWord) (c : Option Name) → name_at s ≡ Some (n, m) →
    sign_at 58 m ≡ Some k → keyword_at (fold_named w) k ≡ Some j → sign_at 40 j ≡ Some i →
    folds.fold_call (skip k).at (Some n) w i ≡ Ok (folds.aggregate_from (skip k).at (Some n) w c, r) →
    folds.aggregate s ≡ Ok (folds.aggregate_from (skip k).at (Some n) w c, r)
unfolding folds.aggregate
named_read s m k j i r n w c e f g h call =
    let t = sign_taken 58 m k f in
    bound (reading.name s) _ (n, m) _ (name_read s m n e)
    (if_true (head (skip m) == 58) _ _ t.0
    ∙ ap (folds.labelled_fold n) t.1
    ∙ bound (folds.fold_here (skip k)) _ (w, j) _ (fold_word_read w k j g)
    (bound (sign 40 what.OpenParenthesis j) _ i _ (sign_read 40 what.OpenParenthesis j i h) call))

aggregate_read : {s r : Rest} {a : Aggregate} → Folding s r a → folds.aggregate s ≡ Ok (a, r)
aggregate_read {s = s} {r = r} (unnamed {m = m} {n = n} {w = w} {c = c} e f g) = let t = folded_read g in
    unnamed_read s m t.0 r n w c e f t.1.0 (t.1.1 n.at None)
aggregate_read {s = s} {r = r} (named {m = m} {k = k} {j = j} {n = n} {w = w} {c = c} e f h g) =
    let t = folded_read g in named_read s m k j t.0 r n w c e f h t.1.0 (t.1.1 (skip k).at (Some n))

aggregate_next : (so_far : List Aggregate) (x : Aggregate) (s m k : Rest) → folds.aggregate s ≡ Ok (x, m) →
    sign_at 44 m ≡ Some k → folds.aggregate_turn so_far s ≡ Again (so_far ++ x ∷ []) k
unfolding folds.aggregate_turn
aggregate_next so_far x s m k e h =
    let t = sign_taken 44 m k h in
    ap (on_read (folds.aggregates_on so_far)) e ∙ if_true (head (skip m) == 44) _ _ t.0
    ∙ ap (Again (so_far ++ x ∷ [])) t.1

aggregate_last : (so_far : List Aggregate) (x : Aggregate) (s m : Rest) → folds.aggregate s ≡ Ok (x, m) →
    (head (skip m) == 44) ≡ false → folds.aggregate_turn so_far s ≡ Done (so_far ++ x ∷ []) m
unfolding folds.aggregate_turn
aggregate_last so_far x s m e h = ap (on_read (folds.aggregates_on so_far)) e ∙ if_false (head (skip m) == 44) _ _ h

further_aggregate : (so_far : List Aggregate) (x : Aggregate) (s m k : Rest) → Folding s m x → sign_at 44 m ≡ Some k →
    repetition folds.aggregate_turn so_far s ≡ repetition folds.aggregate_turn (so_far ++ x ∷ []) k
further_aggregate so_far x s m k p h =
    repeated_again folds.aggregate_turn so_far (so_far ++ x ∷ []) s k
    (aggregate_next so_far x s m k (aggregate_read p) h)
    (behind_behind s m k (folding_behind p) (sign_behind 44 refl m k h))

aggregates_go_on : {s r : Rest} {all : List Aggregate} → FoldingList s r all → (k : Rest) → sign_at 44 r ≡ Some k →
    repetition folds.aggregate_turn [] s ≡ repetition folds.aggregate_turn all k
aggregates_go_on {s = s} {r = r} (one_folding {a = a} p) k h = further_aggregate [] a s r k p h
aggregates_go_on {r = r} (more_foldings {k = j} {as' = all} {a = a} l e p) k h =
    aggregates_go_on l j e ∙ further_aggregate all a j r k p h

aggregates_end : {s r : Rest} {all : List Aggregate} → FoldingList s r all → (head (skip r) == 44) ≡ false →
    repetition folds.aggregate_turn [] s ≡ Ok (all, r)
aggregates_end {s = s} {r = r} (one_folding {a = a} p) h =
    ends_here folds.aggregate_turn [] (a ∷ []) s r (aggregate_last [] a s r (aggregate_read p) h)
aggregates_end {r = r} (more_foldings {k = j} {as' = all} {a = a} l e p) h =
    aggregates_go_on l j e ∙ ends_here folds.aggregate_turn all (all ++ a ∷ []) j r
    (aggregate_last all a j r (aggregate_read p) h)

pub aggregates_read : (s r : Rest) (all : List Aggregate) → FoldingList s r all → (head (skip r) == 44) ≡ false →
    folds.aggregates s ≡ Ok (all, r)
unfolding folds.aggregates
aggregates_read s r all l h = aggregates_end l h
