-- Lists that are read are those of the grammar.
use Rattle.std.proofs.Common.{◌≡◌, ℕ, Bool, true, false, ◌==◌, ◌⊎◌, inl, inr, List, [], ◌∷◌, ◌++◌, codes, refl, sym}
use Rattle.std.proofs.Common.{ap, ◌∙◌, subst, if◌then◌else◌, Option, Some, None, Ok, Err, IfSome, nat_eq}
use Rattle.std.specs.Result.{IfOk}
use Rattle.std.specs.Cmp.Lexicographic.{pointwise}
use Rattle.mon_value.specs.Answers.{◌>>=◌}
use Rattle.mql_ast.specs.declared.names.Name.{Name}
use Rattle.mql_ast.specs.declared.operations.Aggregate.{Aggregate}
use Rattle.mql_ast.specs.declared.operations.FoldWord.{FoldWord}
use Rattle.mql_ast.specs.declared.operations.FoldWord.TheVariants as fold
use Rattle.mql_ast.specs.Trees.{ItemTree}
use Rattle.mql_ast.specs.Tokens.{is_letter, Rest, head, behind, skip, sign_at, keyword_at, past, name_at, word_here}
use Rattle.mql_ast.specs.Grammar as grammar
use Rattle.mql_ast.specs.Grammar.{NameList, one_name, more_names, fold_named, Folded, counted, Folding, unnamed, named}
use Rattle.mql_ast.specs.Grammar.{FoldingList, one_folding, more_foldings, ItemOf, single, labelled, ItemList}
use Rattle.mql_ast.specs.Grammar.{one_item, more_items}
use Rattle.mql_parse.specs.declared.faults.What.{What}
use Rattle.mql_parse.specs.declared.faults.What.TheVariants as what
use Rattle.mql_parse.specs.Outcomes.{Outcome, sign, exact, map_outcome, up_to_sign, unexpected_fault}
use Rattle.mql_parse.specs.Repeats.{Turn, Done, Stuck, on_read, list_or_end, list_turn, repetition}
use Rattle.mql_parse.specs.TokenReading as reading
use Rattle.mql_parse.specs.SumReading as sums
use Rattle.mql_parse.specs.Folds as folds
use Rattle.mql_parse.specs.Behind.{Behind}
use Rattle.mql_parse.specs.Soundness.{OfTurn}
use Rattle.mql_parse.proofs.BehindLemmas.{behind_behind, sign_behind, name_behind, word_behind}
use Rattle.mql_parse.proofs.Sound.{if_sound, bind_sound, sign_sound, exact_sound, name_sound, sign_here, changed_sound}
use Rattle.mql_parse.proofs.Sound.{repeated_sound, if_turn, if_ok_weaker}
use Rattle.mql_parse.proofs.SumSound.{IsSum, sum_sound, sum_behind, same_word}
use Rattle.mql_parse.proofs.ByteLemmas.{chosen, if_true}

-- a turn that reads a part, and what stands behind it
pub on_read_of : {A B : Type 0} (f : A × Rest → Turn B) (o : Outcome A) (P : A × Rest → Type 0) (ends on : B → Rest →
    Type 0) → IfOk o P → ((x : A × Rest) → P x → OfTurn (f x) ends on) → OfTurn (on_read f o) ends on
on_read_of f (Ok x) P ends on h g = g x h
on_read_of f (Err e) P ends on h g = tt

module _ {A : Type 0} (part : Rest → Outcome A) (Part : Rest → A × Rest → Type 0) (parted : (s : Rest) →
    IfOk (part s) (Part s)) (left : (s : Rest) (x : A × Rest) → Part s x → Behind s x.1) where
  pub list_turn_of : (close : ℕ) (w : What) (ends on : List A → Rest → Type 0) (so_far : List A) (m : Rest) →
      ((x : A × Rest) → Part m x → (k : Rest) → sign_at 44 x.1 ≡ Some k → on (so_far ++ x.0 ∷ []) k) →
      ((x : A × Rest) → Part m x → (k : Rest) → sign_at close x.1 ≡ Some k → ends (so_far ++ x.0 ∷ []) k) →
      OfTurn (list_turn close w part so_far m) ends (λ b r. on b r × Behind m r)
  list_turn_of close w ends on so_far m goes stops =
      on_read_of (list_or_end close w so_far) (part m) (Part m) ends (λ b r. on b r × Behind m r) (parted m)
      (λ x p. let t = skip x.1 in
      if_turn (head t == 44) _ _ ends _
      (λ h. let e = sign_here 44 x.1 h in (
        goes x p (behind t) e,
        behind_behind m x.1 (behind t) (left m x p)
            (sign_behind 44 refl x.1 (behind t) e),
      ))
      (λ _. if_turn (head t == close) _ (Stuck (unexpected_fault w t)) ends _
      (λ h. stops x p (behind t) (sign_here close x.1 h)) (λ _. tt)))

  -- each turn that goes on leaves less
  pub list_turn_behind : (close : ℕ) (w : What) (so_far : List A) (m : Rest) →
      OfTurn (list_turn close w part so_far m) (λ b r. Unit {0}) (λ b r. Behind m r)
  list_turn_behind close w so_far m =
      on_read_of (list_or_end close w so_far) (part m) (Part m) (λ b r. Unit {0}) (λ b r. Behind m r) (parted m)
      (λ x p. let t = skip x.1 in
      if_turn (head t == 44) _ _ (λ b r. Unit {0}) _ (λ h. let e = sign_here 44 x.1 h in behind_behind m x.1
      (behind t) (left m x p) (sign_behind 44 refl x.1 (behind t) e))
      (λ _. if_turn (head t == close) _ (Stuck (unexpected_fault w t)) (λ b r. Unit {0}) _ (λ h. tt) (λ _. tt)))

  module _ (Parts : Rest → Rest → List A → Type 0) (one : (s : Rest) (x : A × Rest) → Part s x → Parts s x.1 (x.0 ∷ []))
      (more : (s m k : Rest) (all : List A) (x : A × Rest) → Parts s m all → sign_at 44 m ≡ Some k → Part k x →
      Parts s x.1 (all ++ x.0 ∷ [])) where
    -- where a further part comes: at the front, or behind a comma
    abbrev Wanted : Rest → List A → Rest → Type 0
    Wanted s all m = ((all ≡ []) × (m ≡ s)) ⊎ ((k : Rest) × (Parts s k all × (sign_at 44 k ≡ Some m)))

    grown : (s : Rest) (all : List A) (m : Rest) (x : A × Rest) → Wanted s all m → Part m x →
        Parts s x.1 (all ++ x.0 ∷ [])
    grown s all m x (inl (e, f)) p =
        subst (λ t. Parts s x.1 (t ++ x.0 ∷ [])) (sym e) (one s x (subst (λ n. Part n x) f p))
    grown s all m x (inr (k, (ps, e))) p = more s k m all x ps e p

    -- the parts up to the sign that ends them
    abbrev Listed : ℕ → Rest → List A × Rest → Type 0
    Listed close s x = (k : Rest) × (Parts s k x.0 × (sign_at close k ≡ Some x.1))

    pub list_sound : (close : ℕ) (w : What) (s : Rest) → IfOk (repetition (list_turn close w part) [] s)
        (Listed close s)
    list_sound close w s = repeated_sound (list_turn close w part) (Wanted s) (λ all r. Listed close s (all, r))
        (λ all m wanted. list_turn_of close w (λ b r. Listed close s (b, r)) (Wanted s) all m
        (λ x p k e. inr (x.1, (grown s all m x wanted p, e))) (λ x p k e. (x.1, (grown s all m x wanted p, e))))
        [] s (inl (refl, refl))

abbrev pub IsName : Rest → Name × Rest → Type 0
IsName s x = name_at s ≡ Some x

pub names_turn_behind : (so_far : List Name) (m : Rest) →
    OfTurn (list_turn 93 what.CloseBracket reading.name so_far m) (λ b r. Unit {0}) (λ b r. Behind m r)
names_turn_behind =
    list_turn_behind reading.name IsName name_sound (λ s x e. name_behind s x.1 x.0 e) 93 what.CloseBracket

pub some_names_sound : (s : Rest) → IfOk (repetition (list_turn 93 what.CloseBracket reading.name) [] s)
    (λ x. (k : Rest) × (NameList s k x.0 × (sign_at 93 k ≡ Some x.1)))
some_names_sound =
    list_sound reading.name IsName name_sound (λ s x e. name_behind s x.1 x.0 e) NameList (λ s x e. one_name e)
    (λ s m k all x l e f. more_names l e f) 93 what.CloseBracket

-- items
abbrev pub IsItem : ℕ → Rest → ItemTree × Rest → Type 0
IsItem d s x = ItemOf d s x.1 x.0

pub item_sound : (d : ℕ) (s : Rest) → IfOk (sums.item_with (sums.sum d) s) (IsItem d s)
unfolding sums.item_with
item_sound d s = bind_sound (reading.name s) (sums.item_behind (sums.sum d)) (IsName s) (IsItem d s) (name_sound s)
    (λ x e. if_sound (head (skip x.1) == 58) _ _ (IsItem d s)
    (λ h. changed_sound (sums.labelled_sum x.0) (sums.sum d (behind (skip x.1))) (IsSum d (behind (skip x.1)))
    (IsItem d s) (sum_sound d (behind (skip x.1))) (λ y S. labelled e (sign_here 58 x.1 h) S))
    (λ h. single e))

pub item_behind : {d : ℕ} {s r : Rest} {i : ItemTree} → ItemOf d s r i → Behind s r
item_behind {s = s} {r = r} (single {n = n} e) = name_behind s r n e
item_behind {s = s} {r = r} (labelled {m = m} {k = k} {n = n} e f S) =
    behind_behind s m r (name_behind s m n e) (behind_behind m k r (sign_behind 58 refl m k f) (sum_behind S))

pub items_turn_behind : (d : ℕ) (so_far : List ItemTree) (m : Rest) →
    OfTurn (list_turn 93 what.CloseBracket (sums.item_with (sums.sum d)) so_far m) (λ b r. Unit {0}) (λ b r. Behind m r)
items_turn_behind d =
    list_turn_behind (sums.item_with (sums.sum d)) (IsItem d) (item_sound d) (λ s x i. item_behind i) 93
    what.CloseBracket

pub items_sound : (d : ℕ) (s : Rest) →
    IfOk (sums.items d s) (λ x. (k : Rest) × (ItemList d s k x.0 × (sign_at 93 k ≡ Some x.1)))
unfolding sums.items_with_sum
items_sound d s =
    list_sound (sums.item_with (sums.sum d)) (IsItem d) (item_sound d) (λ s x i. item_behind i) (ItemList d)
    (λ s x i. one_item i) (λ s m k all x l e i. more_items l e i) 93 what.CloseBracket s

-- folds
pub fold_of_sound : (word : List ℕ) → IfSome (folds.fold_of word) (λ w. word ≡ fold_named w)
fold_of_sound word =
    some_word word (codes "count") fold.Count _ refl
    (some_word word (codes "sum") fold.Sum _ refl
    (some_word word (codes "min") fold.Min _ refl (some_word word (codes "max") fold.Max _ refl
    (some_word word (codes "mean") fold.Mean _ refl
    (some_word word (codes "merge") fold.Merge _ refl
    (some_word word (codes "aggregate") fold.Aggregate None refl tt))))))
  where
    some_word : (word name : List ℕ) (w : FoldWord) (o : Option FoldWord) → name ≡ fold_named w →
        IfSome o (λ w. word ≡ fold_named w) → IfSome (if pointwise nat_eq word name then Some w else o)
        (λ w. word ≡ fold_named w)
    some_word word name w o e h = either (pointwise nat_eq word name) (λ t. same_word word name t ∙ e)
      where
        either : (t : Bool) → (t ≡ true → word ≡ fold_named w) →
            IfSome (if t then Some w else o) (λ w. word ≡ fold_named w)
        either true f = f refl
        either false f = h

abbrev IsFoldWord : Rest → FoldWord × Rest → Type 0
IsFoldWord k x = keyword_at (fold_named x.0) k ≡ Some x.1

read_as_sound : (k : Rest) (w : FoldWord) (end : List ℕ) (m : Rest) →
    ((r : Rest) → past end m ≡ Some r → keyword_at (fold_named w) k ≡ Some r)
    → IfOk (folds.fold_word_from w end m) (IsFoldWord k)
read_as_sound k w end m h =
    bind_sound (exact what.Aggregate end m) _ (λ r. past end m ≡ Some r) (IsFoldWord k)
    (exact_sound what.Aggregate end m) (λ r e. h r e)

fold_here_sound : (k : Rest) → IfOk (folds.fold_here (skip k)) (IsFoldWord k)
unfolding folds.fold_here folds.fold_behind_m
fold_here_sound k =
    let t = skip k in
    let m = behind t in
    if_sound (head t == 99) _ _ (IsFoldWord k) (λ _. read_as_sound k fold.Count (codes "count") t (λ r e. e))
    (λ _. if_sound (head t == 115) _ _ (IsFoldWord k) (λ _. read_as_sound k fold.Sum (codes "sum") t (λ r e. e))
    (λ _. if_sound (head t == 97) _ _ (IsFoldWord k) (λ _. read_as_sound k fold.Aggregate (codes "aggregate") t
    (λ r e. e))
    (λ _. if_sound (head t == 109) _ _ (IsFoldWord k)
    (λ h. if_sound (head m == 105) _ _ (IsFoldWord k)
    (λ g. read_as_sound k fold.Min (codes "n") (behind m) (λ r e. if_true (head t == 109) _ _ h
    ∙ if_true (head m == 105) _ _ g ∙ e))
    (λ _. if_sound (head m == 97) _ _ (IsFoldWord k)
    (λ g. read_as_sound k fold.Max (codes "x") (behind m) (λ r e. if_true (head t == 109) _ _ h
    ∙ if_true (head m == 97) _ _ g ∙ e))
    (λ _. if_sound (head m == 101) _ _ (IsFoldWord k)
    (λ g. if_sound (head (behind m) == 97) _ _ (IsFoldWord k)
    (λ f. read_as_sound k fold.Mean (codes "n") (behind (behind m)) (λ r e. if_true (head t == 109) _ _ h
    ∙ if_true (head m == 101) _ _ g ∙ if_true (head (behind m) == 97) _ _ f ∙ e))
    (λ _. if_sound (head (behind m) == 114) _ _ (IsFoldWord k)
    (λ f. read_as_sound k fold.Merge (codes "ge") (behind (behind m)) (λ r e. if_true (head t == 109) _ _ h
    ∙ if_true (head m == 101) _ _ g ∙ if_true (head (behind m) == 114) _ _ f ∙ e)) (λ _. tt)))
    (λ _. tt))))
    (λ _. tt))))

-- a fold with its column
abbrev FoldsTo : ℕ → Option Name → FoldWord → Rest → Aggregate × Rest → Type 0
FoldsTo at label w s x = (c : Option Name) × ((x.0 ≡ folds.aggregate_from at label w c) × Folded w s x.1 c)

closed_fold : (at : ℕ) (label : Option Name) (w : FoldWord) (s : Rest) (c : Option Name) (k : Rest) →
    ((r : Rest) → sign_at 41 k ≡ Some r → Folded w s r c) →
    IfOk (map_outcome (folds.aggregate_from at label w) (sign 41 what.CloseParenthesis k >>= λ r. Ok (c, r)))
    (FoldsTo at label w s)
closed_fold at label w s c k h =
    changed_sound (folds.aggregate_from at label w) (sign 41 what.CloseParenthesis k >>= λ r. Ok (c, r))
    (λ x. (x.0 ≡ c) × Folded w s x.1 c) (FoldsTo at label w s)
    (bind_sound (sign 41 what.CloseParenthesis k) (λ r. Ok (c, r)) (λ r. sign_at 41 k ≡ Some r) _
    (sign_sound 41 what.CloseParenthesis k) (λ r e. (refl, h r e)))
    (λ x p. (c, (ap (folds.aggregate_from at label w) p.0, p.1)))

named_fold : (at : ℕ) (label : Option Name) (w : FoldWord) (s m : Rest) → (w ≡ fold.Count → ⊥) →
    sign_at 40 s ≡ Some m →
    IfOk (map_outcome (folds.aggregate_from at label w) (up_to_sign 41 what.CloseParenthesis (folds.some_column m)))
    (FoldsTo at label w s)
named_fold at label w s m n e = either (reading.name m) (name_sound m)
  where
    either : (o : Outcome Name) → IfOk o (IsName m) →
        IfOk (map_outcome (folds.aggregate_from at label w) (up_to_sign 41 what.CloseParenthesis (map_outcome Some o)))
        (FoldsTo at label w s)
    either (Err f) h = tt
    either (Ok x) h = closed_fold at label w s (Some x.0) x.1 (λ r f. grammar.folded n e h f)

pub folded_sound : (at : ℕ) (label : Option Name) (w : FoldWord) (s m : Rest) → sign_at 40 s ≡ Some m →
    IfOk (folds.fold_call at label w m) (FoldsTo at label w s)
unfolding folds.fold_call
folded_sound at label fold.Count s m e = closed_fold at label fold.Count s None m (λ r f. counted e f)
folded_sound at label fold.Sum s m e = named_fold at label fold.Sum s m (λ i. cc) e
folded_sound at label fold.Min s m e = named_fold at label fold.Min s m (λ i. cc) e
folded_sound at label fold.Max s m e = named_fold at label fold.Max s m (λ i. cc) e
folded_sound at label fold.Mean s m e = named_fold at label fold.Mean s m (λ i. cc) e
folded_sound at label fold.Merge s m e = named_fold at label fold.Merge s m (λ i. cc) e
folded_sound at label fold.Aggregate s m e = named_fold at label fold.Aggregate s m (λ i. cc) e

abbrev pub IsFolding : Rest → Aggregate × Rest → Type 0
IsFolding s x = Folding s x.1 x.0

name_place : (s : Rest) (x : Name × Rest) → name_at s ≡ Some x → (skip s).at ≡ x.0.at
name_place s x e = ap (λ y. y.0.at) (chosen (is_letter (head (skip s))) (word_here (skip s)) x e).1

labelled_fold_sound : (s : Rest) (x : Name × Rest) (k : Rest) → name_at s ≡ Some x → sign_at 58 x.1 ≡ Some k →
    IfOk (folds.labelled_fold x.0 k) (IsFolding s)
labelled_fold_sound s x k e f =
    bind_sound (folds.fold_here (skip k)) _ (IsFoldWord k) (IsFolding s) (fold_here_sound k)
    (λ w g. bind_sound (sign 40 what.OpenParenthesis w.1) _ (λ p. sign_at 40 w.1 ≡ Some p) (IsFolding s)
    (sign_sound 40 what.OpenParenthesis w.1)
    (λ p h. if_ok_weaker (folds.fold_call (skip k).at (Some x.0) w.0 p) (FoldsTo (skip k).at (Some x.0) w.0 w.1)
    (IsFolding s) (λ y z. subst (λ a. Folding s y.1 a) (sym z.1.0) (named e f g z.1.1))
    (folded_sound (skip k).at (Some x.0) w.0 w.1 p h)))

bare_fold_sound : (s : Rest) (x : Name × Rest) → name_at s ≡ Some x → (o : Option FoldWord) →
    IfSome o (λ w. x.0.text ≡ fold_named w) → IfOk (folds.bare_fold x.0.at o (skip x.1)) (IsFolding s)
bare_fold_sound s x e None h = tt
bare_fold_sound s x e (Some w) h =
    if_sound (head (skip x.1) == 40) _ _ (IsFolding s)
    (λ g. if_ok_weaker (folds.fold_call x.0.at None w (behind (skip x.1))) (FoldsTo x.0.at None w x.1) (IsFolding s)
    (λ y z. subst (λ a. Folding s y.1 a) (ap (λ n. folds.aggregate_from n None w z.0) (name_place s x e) ∙ sym z.1.0)
    (unnamed e h z.1.1))
    (folded_sound x.0.at None w x.1 (behind (skip x.1)) (sign_here 40 x.1 g)))
    (λ g. tt)

pub aggregate_sound : (s : Rest) → IfOk (folds.aggregate s) (IsFolding s)
unfolding folds.aggregate
aggregate_sound s = bind_sound (reading.name s) _ (IsName s) (IsFolding s) (name_sound s)
    (λ x e. if_sound (head (skip x.1) == 58) _ _ (IsFolding s)
    (λ h. labelled_fold_sound s x (behind (skip x.1)) e (sign_here 58 x.1 h))
    (λ h. bare_fold_sound s x e (folds.fold_of x.0.text) (fold_of_sound x.0.text)))

folded_behind : {w : FoldWord} {s r : Rest} {c : Option Name} → Folded w s r c → Behind s r
folded_behind {s = s} {r = r} (counted {m = m} e f) =
    behind_behind s m r (sign_behind 40 refl s m e) (sign_behind 41 refl m r f)
folded_behind {s = s} {r = r} (grammar.folded {m = m} {k = k} {n = n} h e f g) =
    behind_behind s m r (sign_behind 40 refl s m e)
    (behind_behind m k r (name_behind m k n f) (sign_behind 41 refl k r g))

fold_word_behind : (w : FoldWord) (k j : Rest) → keyword_at (fold_named w) k ≡ Some j → Behind k j
fold_word_behind fold.Count k j e = word_behind 99 (codes "ount") refl k j e
fold_word_behind fold.Sum k j e = word_behind 115 (codes "um") refl k j e
fold_word_behind fold.Min k j e = word_behind 109 (codes "in") refl k j e
fold_word_behind fold.Max k j e = word_behind 109 (codes "ax") refl k j e
fold_word_behind fold.Mean k j e = word_behind 109 (codes "ean") refl k j e
fold_word_behind fold.Merge k j e = word_behind 109 (codes "erge") refl k j e
fold_word_behind fold.Aggregate k j e = word_behind 97 (codes "ggregate") refl k j e

pub folding_behind : {s r : Rest} {a : Aggregate} → Folding s r a → Behind s r
folding_behind {s = s} {r = r} (unnamed {m = m} {n = n} e f g) =
    behind_behind s m r (name_behind s m n e) (folded_behind g)
folding_behind {s = s} {r = r} (named {m = m} {k = k} {j = j} {n = n} {w = w} e f g h) =
    behind_behind s m r (name_behind s m n e)
    (behind_behind m k r (sign_behind 58 refl m k f) (behind_behind k j r (fold_word_behind w k j g) (folded_behind h)))

aggregate_turn_of : (ends on : List Aggregate → Rest → Type 0) (so_far : List Aggregate) (m : Rest) →
    ((x : Aggregate × Rest) → IsFolding m x → (k : Rest) → sign_at 44 x.1 ≡ Some k → on (so_far ++ x.0 ∷ []) k) →
    ((x : Aggregate × Rest) → IsFolding m x → ends (so_far ++ x.0 ∷ []) x.1) →
    OfTurn (folds.aggregate_turn so_far m) ends (λ b r. on b r × Behind m r)
unfolding folds.aggregate_turn
aggregate_turn_of ends on so_far m goes stops =
    on_read_of (folds.aggregates_on so_far) (folds.aggregate m) (IsFolding m) ends (λ b r. on b r × Behind m r)
    (aggregate_sound m)
    (λ x p. let t = skip x.1 in
    if_turn (head t == 44) _ (Done (so_far ++ x.0 ∷ []) x.1) ends _
    (λ h. let e = sign_here 44 x.1 h in (
      goes x p (behind t) e,
      behind_behind m x.1 (behind t) (folding_behind p)
          (sign_behind 44 refl x.1 (behind t) e),
    )) (λ _. stops x p))

pub aggregates_turn_behind : (so_far : List Aggregate) (m : Rest) → OfTurn (folds.aggregate_turn so_far m)
    (λ b r. Unit {0}) (λ b r. Behind m r)
unfolding folds.aggregate_turn
aggregates_turn_behind so_far m =
    on_read_of (folds.aggregates_on so_far) (folds.aggregate m) (IsFolding m) (λ b r. Unit {0}) (λ b r. Behind m r)
    (aggregate_sound m)
    (λ x p. let t = skip x.1 in
    if_turn (head t == 44) _ (Done (so_far ++ x.0 ∷ []) x.1) (λ b r. Unit {0}) _
    (λ h. let e = sign_here 44 x.1 h in behind_behind m x.1 (behind t) (folding_behind p)
    (sign_behind 44 refl x.1 (behind t) e)) (λ _. tt))

abbrev MoreFoldings : Rest → List Aggregate → Rest → Type 0
MoreFoldings s all m = ((all ≡ []) × (m ≡ s)) ⊎ ((k : Rest) × (FoldingList s k all × (sign_at 44 k ≡ Some m)))

folding_grown : (s : Rest) (all : List Aggregate) (m : Rest) (x : Aggregate × Rest) → MoreFoldings s all m →
    IsFolding m x → FoldingList s x.1 (all ++ x.0 ∷ [])
folding_grown s all m x (inl (e, f)) p =
    subst (λ t. FoldingList s x.1 (t ++ x.0 ∷ [])) (sym e) (one_folding (subst (λ n. Folding n x.1 x.0) f p))
folding_grown s all m x (inr (k, (ps, e))) p = more_foldings ps e p

pub aggregates_sound : (s : Rest) → IfOk (folds.aggregates s) (λ x. FoldingList s x.1 x.0)
unfolding folds.aggregates
aggregates_sound s = repeated_sound folds.aggregate_turn (MoreFoldings s) (λ all r. FoldingList s r all)
    (λ all m wanted. aggregate_turn_of (λ b r. FoldingList s r b) (MoreFoldings s) all m
    (λ x p k e. inr (x.1, (folding_grown s all m x wanted p, e))) (λ x p. folding_grown s all m x wanted p))
    [] s (inl (refl, refl))
