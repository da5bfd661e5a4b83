-- What was read of a list before its fault can be completed.
use Rattle.std.proofs.Common.{◌≡◌, ℕ, ◌+◌, true, false, ◌==◌, ◌⊎◌, inl, inr, List, [], ◌∷◌, ◌++◌, length, codes, refl}
use Rattle.std.proofs.Common.{sym, ap, ◌∙◌, subst, arith, append_assoc, length-append, Option, Some, None, IfSome, Ok}
use Rattle.std.proofs.Common.{Err}
use Rattle.std.proofs.lemmas.List.{append-nil}
use Rattle.mon_value.specs.Answers.{◌>>=◌}
use Rattle.mql_ast.specs.declared.names.Name.{Name}
use Rattle.mql_ast.specs.declared.operations.Aggregate.{Aggregate}
use Rattle.mql_ast.specs.declared.operations.FoldWord.{FoldWord}
use Rattle.mql_ast.specs.declared.operations.FoldWord.TheVariants as fold
use Rattle.mql_ast.specs.Trees.{ItemTree}
use Rattle.mql_ast.specs.Tokens.{Rest, head, behind, skip}
use Rattle.mql_ast.specs.Grammar as grammar
use Rattle.mql_ast.specs.Grammar.{NameList, one_name, more_names, fold_named, Folded, counted, Folding, unnamed, named}
use Rattle.mql_ast.specs.Grammar.{FoldingList, one_folding, more_foldings, ItemOf, single, labelled, ItemList}
use Rattle.mql_ast.specs.Grammar.{one_item, more_items}
use Rattle.mql_parse.specs.declared.faults.What.{What}
use Rattle.mql_parse.specs.declared.faults.What.TheVariants as what
use Rattle.mql_parse.specs.Outcomes.{Outcome, unexpected_fault, exact, sign, map_outcome, up_to_sign}
use Rattle.mql_parse.specs.Repeats.{Done, Again, Stuck, list_or_end, list_turn, repetition}
use Rattle.mql_parse.specs.FaultTokens.{IsBare}
use Rattle.mql_parse.specs.TokenReading as reading
use Rattle.mql_parse.specs.SumReading as sums
use Rattle.mql_parse.specs.Folds as folds
use Rattle.mql_parse.proofs.ListSound.{names_turn_behind, items_turn_behind, aggregates_turn_behind, fold_of_sound}
use Rattle.mql_parse.proofs.Endings.{Anyhow, Worded, Parted, Text, Then, join, changed, worded, anyhow, NoQuotes}
use Rattle.mql_parse.proofs.Endings.{no_quotes_on, Default, Cut, Finish, Ends, behind_read, Reads, stay, as_it_is}
use Rattle.mql_parse.proofs.Endings.{cut_as, cut_then, bind_ends, ends_as, done_ends, if_ends, TurnEnds, if_turns}
use Rattle.mql_parse.proofs.Endings.{on_read_ends, loop_ends}
use Rattle.mql_parse.proofs.TokenFronts.{Fronts, WordOf, count_word, sum_word, min_word, max_word, mean_word}
use Rattle.mql_parse.proofs.TokenFronts.{merge_word, aggregate_word}
use Rattle.mql_parse.proofs.TokenEndings.{at_place, AreBlanks, blank_last, skip_cut, exact_ends, word_from, begun_here}
use Rattle.mql_parse.proofs.TokenEndings.{wrong, IsSign, SignSpan, sign_text, sign_cut, sign_ends, sign_default}
use Rattle.mql_parse.proofs.TokenEndings.{WordSpan, word_text, all_nonzero, NamedSpan, NameSpan, some_name, named_ends}
use Rattle.mql_parse.proofs.TokenEndings.{name_ends, name_default, open_parenthesis, close_parenthesis, close_bracket}
use Rattle.mql_parse.proofs.TokenEndings.{comma, colon}
use Rattle.mql_parse.proofs.SumEndings.{SumText, sum_ends}
use Rattle.mql_parse.proofs.ValueEndings.{FirstByte, first_is, byte_is}
use Rattle.mql_parse.proofs.Loops.{GoesBehind}

-- a part, one list of such parts, and the sign that ends it
module _ {A : Type 0} (part : Rest → Outcome A) (close : ℕ) (w : What) (closes : IsSign close)
    (token : IsBare w (close ∷ [])) (plain : NoQuotes (close ∷ []))
    (behind_turn : GoesBehind (list_turn close w part)) (Part Parts : List ℕ → List ℕ → Type 0)
    (parted : (s : Rest) → Reads (Text Anyhow false Part) s (part s)) (one : (x z : List ℕ) → Part x z → Parts x z)
    (more : (x z : List ℕ) → Then (Then Parts (SignSpan 44)) Part x z → Parts x z) where
  -- where a further part comes: at the front, or behind a comma
  abbrev Wanted : List ℕ → Type 0
  Wanted w = (w ≡ []) ⊎ Text Anyhow true (Then Parts (SignSpan 44)) w

  abbrev Listed : List ℕ → Type 0
  Listed = Text Anyhow true (Then Parts (SignSpan close))

  grown : (w v : List ℕ) → Wanted w → Text Anyhow false Part v → Text Anyhow false Parts (w ++ v)
  grown w v (inl e) f = subst (λ t. Text Anyhow false Parts (t ++ v)) (sym e) (changed one v f)
  grown w v (inr f) g = changed more (w ++ v) (join w v refl f g)

  listed : (w v u : List ℕ) → Wanted w → Text Anyhow false Part v → Text Parted true (SignSpan close) u →
      Listed (w ++ (v ++ u))
  listed w v u f g h = subst Listed (append_assoc w v u) (join (w ++ v) u refl (grown w v f g) h)

  further : (w v u : List ℕ) → Wanted w → Text Anyhow false Part v → Text Parted true (SignSpan 44) u →
      Wanted (w ++ (v ++ u))
  further w v u f g h =
      inr (subst (Text Anyhow true (Then Parts (SignSpan 44))) (append_assoc w v u)
      (join (w ++ v) u refl (grown w v f g) h))

  list_turn_ends : (so_far : List A) (s : Rest) (y : List ℕ) → Wanted y →
      TurnEnds (λ a v. Wanted (y ++ v)) (λ a v. Listed (y ++ v)) (λ v. Listed (y ++ v)) s
      (list_turn close w part so_far s)
  list_turn_ends so_far s y f =
      on_read_ends s (list_or_end close w so_far) (part s) (parted s)
      (λ v g. record {
        text = close ∷ [];
        plain = plain;
        is = listed y v (close ∷ []) f g (sign_text close closes [] tt);
      })
      (λ x v g. let t = skip x.1 in let all = so_far ++ x.0 ∷ [] in
      if_turns x.1 (head t == 44) (Again all (behind t)) _
      (λ h. record { way = cut_as x.1 (behind t) (sign_cut 44 comma x.1 h) (λ u k. further y v u f g k) })
      (λ _. if_turns x.1 (head t == close) (Done all (behind t)) (Stuck (unexpected_fault w t))
      (λ h. record { way = cut_as x.1 (behind t) (sign_cut close closes x.1 h) (λ u k. listed y v u f g k) })
      (λ _. record {
        way = wrong w x.1 close [] [] token
            (λ bs e. listed y v (bs ++ close ∷ []) f g (sign_text close closes bs e));
      })))

  pub list_ends : (s : Rest) → Reads (Text Anyhow true (Then Parts (SignSpan close))) s
      (repetition (list_turn close w part) [] s)
  list_ends s =
      loop_ends (list_turn close w part) behind_turn (λ a w. Wanted w) (λ a w. Listed w) Listed list_turn_ends [] s
      [] (inl refl)

-- names between brackets
abbrev NamesSpan : List ℕ → List ℕ → Type 0
NamesSpan x z = (at : ℕ) → (n : ℕ × List Name) × NameList (at_place at x) (at_place n.0 z) n.1

abbrev pub GroupingSpan : List ℕ → List ℕ → Type 0
GroupingSpan x z = (at : ℕ) → (n : ℕ × List Name) × grammar.Grouping (at_place at x) (at_place n.0 z) n.1

-- from behind the bracket
abbrev pub InGrouping : List ℕ → List ℕ → Type 0
InGrouping x z = SignSpan 93 x z ⊎ Then NamesSpan (SignSpan 93) x z

pub grouping_span : (x z : List ℕ) → Then (SignSpan 91) InGrouping x z → GroupingSpan x z
grouping_span x z k = either k.second
  where
    either : InGrouping k.between z → GroupingSpan x z
    either (inl f) = λ at. let a = k.first at in let b = f a.0 in ((b.0, []), grammar.no_names a.1 b.1)
    either (inr f) = λ at. let a = k.first at in let b = f.first a.0 in let c = f.second b.0.0 in
        ((c.0, b.0.1), grammar.some_names a.1 b.1 c.1)

some_names_ends : (s : Rest) → Reads (Text Anyhow true (Then NamesSpan (SignSpan 93))) s
    (repetition (list_turn 93 what.CloseBracket reading.name) [] s)
some_names_ends =
    list_ends reading.name 93 what.CloseBracket close_bracket refl refl names_turn_behind NameSpan NamesSpan
    (λ s. ends_as s (reading.name s) (name_ends s) (λ x w f. anyhow w f) (λ w f. anyhow w f))
    (λ x z f at. let n = f at in ((n.0.0, n.0.1 ∷ []), one_name n.1))
    (λ x z k at. let a = k.first.first at in let b = k.first.second a.0.0 in let c = k.second b.0 in
    ((c.0.0, a.0.1 ++ c.0.1 ∷ []), more_names a.1 b.1 c.1))

pub names_ends : (s : Rest) → Reads (Text Anyhow true InGrouping) s (folds.names s)
unfolding folds.names
names_ends s = if_ends s (head (skip s) == 93) (Ok ([], behind (skip s))) _
    (λ h. record {
      way = cut_as s (behind (skip s)) (sign_cut 93 close_bracket s h)
          (λ w f. changed (λ x z k. inl k) w (anyhow w f));
    })
    (λ _. ends_as s (repetition (list_turn 93 what.CloseBracket reading.name) [] s) (some_names_ends s)
    (λ x w f. changed (λ x z k. inr k) w f) (λ w f. changed (λ x z k. inr k) w f))

-- `]`
pub names_default : Default (Text Anyhow true InGrouping)
names_default =
    record {
      text = 93 ∷ [];
      plain = refl;
      is = changed (λ x z k. inl k) (93 ∷ [])
          (anyhow (93 ∷ []) (sign_text 93 close_bracket [] tt));
    }

-- items
abbrev ItemSpan : ℕ → List ℕ → List ℕ → Type 0
ItemSpan d x z = (at : ℕ) → (n : ℕ × ItemTree) × ItemOf d (at_place at x) (at_place n.0 z) n.1

abbrev pub ItemsSpan : ℕ → List ℕ → List ℕ → Type 0
ItemsSpan d x z = (at : ℕ) → (n : ℕ × List ItemTree) × ItemList d (at_place at x) (at_place n.0 z) n.1

abbrev ItemText : ℕ → List ℕ → Type 0
ItemText d = Text Anyhow false (ItemSpan d)

single_text : (d : ℕ) (w : List ℕ) → Text Worded false NameSpan w → ItemText d w
single_text d w f = anyhow w (changed (λ x z k at. let n = k at in ((n.0.0, sums.single n.0.1), single n.1)) w f)

labelled_text : (d : ℕ) (w v u : List ℕ) → Text Worded false NameSpan w → Text Parted true (SignSpan 58) v →
    SumText d u → ItemText d (w ++ (v ++ u))
labelled_text d w v u f g h =
    anyhow (w ++ (v ++ u))
    (changed (λ x z k at. let a = k.first at in let b = k.second.first a.0.0 in let c = k.second.second b.0 in
    ((c.0.0, sums.labelled_item a.0.1 c.0.1), labelled a.1 b.1 c.1)) (w ++ (v ++ u))
    (join w (v ++ u) refl f (join v u refl g h)))

item_ends : (d : ℕ) (s : Rest) → Reads (ItemText d) s (sums.item_with (sums.sum d) s)
unfolding sums.item_with
item_ends d s =
    bind_ends s (reading.name s) (sums.item_behind (sums.sum d)) (name_ends s)
    (λ w f. as_it_is (ItemText d) w (single_text d w f))
    (λ x w f. let m = behind (skip x.1) in
    if_ends x.1 (head (skip x.1) == 58) (map_outcome (sums.labelled_sum x.0) (sums.sum d m)) (Ok (sums.single x.0, x.1))
    (λ h. cut_then x.1 m (map_outcome (sums.labelled_sum x.0) (sums.sum d m)) (sign_cut 58 colon x.1 h) (λ v g.
    done_ends m (sums.sum d m) (λ y. (sums.labelled_sum x.0 y.0, y.1))
    (ends_as m (sums.sum d m) (sum_ends d m) (λ y u k. labelled_text d w v u f g k)
    (λ u k. labelled_text d w v u f g k)) (λ y. refl) (λ y u k. k)))
    (λ h. record { way = stay (ItemText d) x.1 w (single_text d w f) }))

pub items_ends : (d : ℕ) (s : Rest) → Reads (Text Anyhow true (Then (ItemsSpan d) (SignSpan 93))) s (sums.items d s)
unfolding sums.items_with_sum
items_ends d =
    list_ends (sums.item_with (sums.sum d)) 93 what.CloseBracket close_bracket refl refl (items_turn_behind d)
    (ItemSpan d)
    (ItemsSpan d) (item_ends d)
    (λ x z f at. let n = f at in ((n.0.0, n.0.1 ∷ []), one_item n.1))
    (λ x z k at. let a = k.first.first at in let b = k.first.second a.0.0 in let c = k.second b.0 in
    ((c.0.0, a.0.1 ++ c.0.1 ∷ []), more_items a.1 b.1 c.1))

-- ` _]`
pub items_default : (d : ℕ) → Default (Text Anyhow true (Then (ItemsSpan d) (SignSpan 93)))
items_default d = record {
  text = name_default.text ++ 93 ∷ [];
  plain = refl;
  is = join name_default.text (93 ∷ []) refl
      (changed (λ x z f at. let n = f at in ((n.0.0, n.0.1 ∷ []), one_item n.1)) name_default.text
      (single_text d name_default.text (worded name_default.text name_default.is)))
      (sign_text 93 close_bracket [] tt);
}

-- the words of folds
abbrev FoldWordText : FoldWord → List ℕ → Type 0
FoldWordText f = Text Anyhow true (WordSpan (fold_named f))

abbrev AnyFoldWord : List ℕ → Type 0
AnyFoldWord w = (f : FoldWord) × FoldWordText f w

-- the rest of a fold's word
fold_from : (f : FoldWord) (cs : List ℕ) → all_nonzero cs ≡ true → (s m : Rest) (v before : List ℕ) (b : ℕ)
    (begun : List ℕ) → s.bytes ≡ v ++ m.bytes → m.at ≡ s.at + length v → v ≡ before ++ b ∷ begun →
    Fronts what.Aggregate (b ∷ begun) cs → IsBare what.Aggregate (b ∷ (begun ++ cs)) → FoldWordText f (v ++ cs)
    → Ends behind_read
    (λ x. FoldWordText x.0) AnyFoldWord s (folds.fold_word_from f cs m)
fold_from f cs nonzero s m v before b begun e p q u k h =
    done_ends s (exact what.Aggregate cs m) (λ r. (f, r))
    (ends_as s (exact what.Aggregate cs m) (word_from what.Aggregate cs (λ e. cc) nonzero s m v before b begun e p q u
    k)
    (λ r u g. subst (FoldWordText f) (sym g) h) (λ u g. (f, subst (FoldWordText f) (sym g) h))) (λ r. refl)
    (λ r u g. g)

-- a word that is read from its first byte on
whole_ends : (s : Rest) (f : FoldWord) (c : ℕ) (cs : List ℕ) → all_nonzero (c ∷ cs) ≡ true →
    WordOf what.Aggregate c cs → ((bs : List ℕ) → AreBlanks bs → FoldWordText f (bs ++ c ∷ cs)) →
    Ends behind_read (λ x. FoldWordText x.0) AnyFoldWord s (folds.fold_word_from f (c ∷ cs) (skip s))
whole_ends s f c cs nonzero word h =
    done_ends s (exact what.Aggregate (c ∷ cs) (skip s)) (λ r. (f, r))
    (ends_as s (exact what.Aggregate (c ∷ cs) (skip s))
    (exact_ends {L = FoldWordText f} what.Aggregate c cs nonzero word h s) (λ r u g. g) (λ u g. (f, g))) (λ r. refl)
    (λ r u g. g)

count_text : (bs : List ℕ) → AreBlanks bs → FoldWordText fold.Count (bs ++ codes "count")
count_text bs e = word_text Anyhow 99 (codes "ount") refl tt bs e

sum_word_text : (bs : List ℕ) → AreBlanks bs → FoldWordText fold.Sum (bs ++ codes "sum")
sum_word_text bs e = word_text Anyhow 115 (codes "um") refl tt bs e

aggregate_text : (bs : List ℕ) → AreBlanks bs → FoldWordText fold.Aggregate (bs ++ codes "aggregate")
aggregate_text bs e = word_text Anyhow 97 (codes "ggregate") refl tt bs e

-- a word that begins with `m`, of which this was read
m_word : (f : FoldWord) (bs v x y : List ℕ) → AreBlanks bs → fold_named f ≡ 109 ∷ (x ++ y) → v ≡ bs ++ 109 ∷ [] →
    FoldWordText f ((v ++ x) ++ y)
m_word f bs v x y e spelled q =
    subst (FoldWordText f)
    (sym (append_assoc v x y ∙ ap (λ t. t ++ (x ++ y)) q ∙ append_assoc bs (109 ∷ []) (x ++ y)))
    (subst (λ t. Text Anyhow true (WordSpan t) (bs ++ 109 ∷ (x ++ y))) (sym spelled)
    (word_text Anyhow 109 (x ++ y) refl tt bs e))

-- behind `m`, and more of the word
module _ (s m : Rest) (bs v x : List ℕ) (e : AreBlanks bs) (q : v ≡ bs ++ 109 ∷ []) (bytes : s.bytes ≡
    (v ++ x) ++ m.bytes)
    (place : m.at ≡ s.at + length (v ++ x)) where
  split : v ++ x ≡ bs ++ (109 ∷ x)
  split = ap (λ t. t ++ x) q ∙ append_assoc bs (109 ∷ []) x

  -- the rest of the word, where its next byte stands here
  m_on : (f : FoldWord) (b : ℕ) (cs : List ℕ) → (0 == b) ≡ false → all_nonzero cs ≡ true → (head m == b) ≡ true →
      fold_named f ≡ 109 ∷ ((x ++ b ∷ []) ++ cs) → Fronts what.Aggregate (109 ∷ (x ++ b ∷ [])) cs →
      IsBare what.Aggregate (109 ∷ ((x ++ b ∷ []) ++ cs)) →
      Ends behind_read (λ y. FoldWordText y.0) AnyFoldWord s (folds.fold_word_from f cs (behind m))
  m_on f b cs zero nonzero h spelled u token =
      let c = byte_is b zero m h in
      let longer = (v ++ x) ++ b ∷ [] in
      fold_from f cs nonzero s (behind m) longer bs 109 (x ++ b ∷ [])
      (bytes ∙ ap (λ t. (v ++ x) ++ t) (c.bytes ∙ ap (λ t. t ++ (behind m).bytes) c.is)
      ∙ sym (append_assoc (v ++ x) (b ∷ []) (behind m).bytes))
      (omega (arith, place, c.place, ap length c.is, length-append (v ++ x) (b ∷ [])))
      (ap (λ t. t ++ b ∷ []) split ∙ append_assoc bs (109 ∷ x) (b ∷ [])) u token
      (subst (FoldWordText f) (ap (λ t. t ++ cs) (sym (append_assoc v x (b ∷ []))))
      (m_word f bs v (x ++ b ∷ []) cs e spelled q))

  -- where it can't go on
  m_stuck : (f : FoldWord) (b : ℕ) (cs : List ℕ) → fold_named f ≡ 109 ∷ (x ++ b ∷ cs) →
      (IsBare what.Aggregate (109 ∷ x) → ⊥) → IsBare what.Aggregate (109 ∷ (x ++ b ∷ cs)) → Finish AnyFoldWord s
      (unexpected_fault what.Aggregate m)
  m_stuck f b cs spelled u token =
      begun_here {L = AnyFoldWord} what.Aggregate s m (v ++ x) bs (109 ∷ x) b cs [] bytes place split (u, token)
      (λ e. absurd (cc)) (
        f,
        subst (λ t. FoldWordText f ((v ++ x) ++ b ∷ t)) (sym (append-nil cs))
            (m_word f bs v x (b ∷ cs) e spelled q),
      )

behind_me_ends : (s m : Rest) (bs v : List ℕ) → AreBlanks bs → v ≡ bs ++ 109 ∷ [] →
    s.bytes ≡ (v ++ 101 ∷ []) ++ m.bytes → m.at ≡ s.at + length (v ++ 101 ∷ []) →
    Ends behind_read (λ x. FoldWordText x.0) AnyFoldWord s (folds.fold_behind_me m)
behind_me_ends s m bs v e q bytes place =
    let x = 101 ∷ [] in
    if_ends s (head m == 97) (folds.fold_word_from fold.Mean (codes "n") (behind m)) _
    (λ h. m_on s m bs v x e q bytes place fold.Mean 97
    (codes "n") refl refl h refl mean_word.fronts.1.1 mean_word.bare)
    (λ _. if_ends s (head m == 114) (folds.fold_word_from fold.Merge (codes "ge") (behind m))
    (Err (unexpected_fault what.Aggregate m))
    (λ h. m_on s m bs v x e q bytes place fold.Merge 114 (codes "ge") refl refl h refl merge_word.fronts.1.1
    merge_word.bare)
    (λ _. record {
      way = m_stuck s m bs v x e q bytes place fold.Mean 97
          (codes "n") refl mean_word.fronts.1.0 mean_word.bare;
    }))

behind_m_ends : (s m : Rest) → Cut (FirstByte 109) s m → Ends behind_read (λ x. FoldWordText x.0) AnyFoldWord s
    (folds.fold_behind_m m)
unfolding folds.fold_behind_m
behind_m_ends s m c =
    let v = c.front in
    let bs = c.is.0 in
    let e = c.is.1.0 in
    let q = c.is.1.1 in
    let bytes : s.bytes ≡ (v ++ []) ++ m.bytes = c.bytes ∙ ap (λ t. t ++ m.bytes) (sym (append-nil v)) in
    let place : m.at ≡ s.at + length (v ++ []) = c.place ∙ ap (λ t. s.at + length t) (sym (append-nil v)) in
    if_ends s (head m == 105) (folds.fold_word_from fold.Min (codes "n") (behind m)) _
    (λ h. m_on s m bs v [] e q bytes place fold.Min 105 (codes "n") refl refl h refl min_word.fronts.1 min_word.bare)
    (λ _. if_ends s (head m == 97) (folds.fold_word_from fold.Max (codes "x") (behind m)) _
    (λ h. m_on s m bs v [] e q bytes place fold.Max 97 (codes "x") refl refl h refl max_word.fronts.1 max_word.bare)
    (λ _. if_ends s (head m == 101) (folds.fold_behind_me (behind m)) (Err (unexpected_fault what.Aggregate m))
    (λ h. let k = byte_is 101 refl m h in
    behind_me_ends s (behind m) bs v e q
    (c.bytes ∙ ap (λ t. v ++ t) (k.bytes ∙ ap (λ t. t ++ (behind m).bytes) k.is)
    ∙ sym (append_assoc v (101 ∷ []) (behind m).bytes))
    (omega (arith, c.place, k.place, ap length k.is, length-append v (101 ∷ []))))
    (λ _. record {
      way = m_stuck s m bs v [] e q bytes place fold.Min 105
          (codes "n") refl min_word.fronts.0 min_word.bare;
    })))

fold_here_ends : (s : Rest) → Ends behind_read (λ x. FoldWordText x.0) AnyFoldWord s (folds.fold_here (skip s))
unfolding folds.fold_here
fold_here_ends s =
    let t = skip s in
    if_ends s (head t == 99) (folds.fold_word_from fold.Count (codes "count") t) _
    (λ _. whole_ends s fold.Count 99 (codes "ount") refl count_word count_text)
    (λ _. if_ends s (head t == 115) (folds.fold_word_from fold.Sum (codes "sum") t) _
    (λ _. whole_ends s fold.Sum 115 (codes "um") refl sum_word sum_word_text)
    (λ _. if_ends s (head t == 97) (folds.fold_word_from fold.Aggregate (codes "aggregate") t) _
    (λ _. whole_ends s fold.Aggregate 97 (codes "ggregate") refl aggregate_word aggregate_text)
    (λ _. if_ends s (head t == 109) (folds.fold_behind_m (behind t)) (Err (unexpected_fault what.Aggregate t))
    (λ h. behind_m_ends s (behind t) (first_is 109 refl s h))
    (λ _. record {
      way = wrong what.Aggregate s 115 (codes "um") [] sum_word.bare
          (λ bs e. (fold.Sum, sum_word_text bs e));
    }))))

-- folds
abbrev FoldedSpan : FoldWord → List ℕ → List ℕ → Type 0
FoldedSpan f x z = (at : ℕ) → (n : ℕ × Option Name) × Folded f (at_place at x) (at_place n.0 z) n.1

abbrev FoldedText : FoldWord → List ℕ → Type 0
FoldedText f = Text Parted true (FoldedSpan f)

counted_text : (v u : List ℕ) → Text Parted true (SignSpan 40) v → Text Parted true (SignSpan 41) u →
    FoldedText fold.Count (v ++ u)
counted_text v u f g =
    changed (λ x z k at. let a = k.first at in let b = k.second a.0 in ((b.0, None), counted a.1 b.1)) (v ++ u)
    (join v u refl f g)

folded_text : (w : FoldWord) → (w ≡ fold.Count → ⊥) → (v u y : List ℕ) → Text Parted true (SignSpan 40) v →
    Text Worded false NameSpan u → Text Parted true (SignSpan 41) y → FoldedText w (v ++ (u ++ y))
folded_text w h v u y f g k =
    changed (λ x z t at. let a = t.first at in let b = t.second.first a.0 in let c = t.second.second b.0.0 in
    ((c.0, Some b.0.1), grammar.folded h a.1 b.1 c.1)) (v ++ (u ++ y)) (join v (u ++ y) refl f (join u y refl g k))

abbrev CallEnds : FoldWord → List ℕ → Rest → Outcome Aggregate → Type 0
CallEnds w v s o = Reads (λ u. FoldedText w (v ++ u)) s o

count_ends : (at : ℕ) (label : Option Name) (s : Rest) (v : List ℕ) → Text Parted true (SignSpan 40) v →
    CallEnds fold.Count v s
    (map_outcome (folds.aggregate_from at label fold.Count) (sign 41 what.CloseParenthesis s >>= λ r. Ok (None, r)))
count_ends at label s v f =
    done_ends s (sign 41 what.CloseParenthesis s >>= λ r. Ok (None, r))
    (λ x. (folds.aggregate_from at label fold.Count x.0, x.1))
    (done_ends {left' = behind_read} s (sign 41 what.CloseParenthesis s) (λ r. (None, r))
    (ends_as s (sign 41 what.CloseParenthesis s) (sign_ends 41 what.CloseParenthesis close_parenthesis refl s)
    (λ r u g. counted_text v u f g) (λ u g. counted_text v u f g)) (λ r. refl) (λ r u g. g)) (λ x. refl)
    (λ x u g. g)

named_fold_ends : (at : ℕ) (label : Option Name) (w : FoldWord) → (w ≡ fold.Count → ⊥) → (s : Rest) (v : List ℕ) →
    Text Parted true (SignSpan 40) v →
    CallEnds w v s (map_outcome (folds.aggregate_from at label w)
    (up_to_sign 41 what.CloseParenthesis (folds.some_column s)))
named_fold_ends at label w h s v f =
    done_ends s (up_to_sign 41 what.CloseParenthesis (folds.some_column s))
    (λ x. (folds.aggregate_from at label w x.0, x.1))
    (bind_ends {left' = behind_read} s (folds.some_column s) _
    (done_ends {left' = behind_read} s (reading.name s) (λ x. (Some x.0, x.1)) (name_ends s) (λ x. refl)
    (λ x u g. g)) (λ u g. let e = sign_default 41 close_parenthesis refl in
    record { text = e.text; plain = e.plain; is = folded_text w h v u e.text f g e.is })
    (λ x u g. done_ends x.1 (sign 41 what.CloseParenthesis x.1) (λ r. (x.0, r))
    (ends_as x.1 (sign 41 what.CloseParenthesis x.1) (sign_ends 41 what.CloseParenthesis close_parenthesis refl x.1)
    (λ r y k. folded_text w h v u y f g k) (λ y k. folded_text w h v u y f g k)) (λ r. refl) (λ r y k. k)))
    (λ x. refl) (λ x u g. g)

fold_call_ends : (at : ℕ) (label : Option Name) (w : FoldWord) (s : Rest) (v : List ℕ) →
    Text Parted true (SignSpan 40) v → CallEnds w v s (folds.fold_call at label w s)
unfolding folds.fold_call
fold_call_ends at label fold.Count s v f = count_ends at label s v f
fold_call_ends at label fold.Sum s v f = named_fold_ends at label fold.Sum (λ i. cc) s v f
fold_call_ends at label fold.Min s v f = named_fold_ends at label fold.Min (λ i. cc) s v f
fold_call_ends at label fold.Max s v f = named_fold_ends at label fold.Max (λ i. cc) s v f
fold_call_ends at label fold.Mean s v f = named_fold_ends at label fold.Mean (λ i. cc) s v f
fold_call_ends at label fold.Merge s v f = named_fold_ends at label fold.Merge (λ i. cc) s v f
fold_call_ends at label fold.Aggregate s v f = named_fold_ends at label fold.Aggregate (λ i. cc) s v f

-- `)` or ` _)` behind the parenthesis
in_named_fold : (w : FoldWord) → (w ≡ fold.Count → ⊥) → (v : List ℕ) → Text Parted true (SignSpan 40) v →
    Default (λ u. FoldedText w (v ++ u))
in_named_fold w h v f = let n = name_default in let e = sign_default 41 close_parenthesis refl in
    record {
      text = n.text ++ e.text;
      plain = e.plain;
      is = folded_text w h v n.text e.text f (worded n.text n.is) e.is;
    }

in_fold : (w : FoldWord) (v : List ℕ) → Text Parted true (SignSpan 40) v → Default (λ u. FoldedText w (v ++ u))
in_fold fold.Count v f = let e = sign_default 41 close_parenthesis refl in
    record { text = e.text; plain = e.plain; is = counted_text v e.text f e.is }
in_fold fold.Sum v f = in_named_fold fold.Sum (λ i. cc) v f
in_fold fold.Min v f = in_named_fold fold.Min (λ i. cc) v f
in_fold fold.Max v f = in_named_fold fold.Max (λ i. cc) v f
in_fold fold.Mean v f = in_named_fold fold.Mean (λ i. cc) v f
in_fold fold.Merge v f = in_named_fold fold.Merge (λ i. cc) v f
in_fold fold.Aggregate v f = in_named_fold fold.Aggregate (λ i. cc) v f

folded_default : (w : FoldWord) → Default (FoldedText w)
folded_default w = let o = sign_default 40 open_parenthesis refl in let d = in_fold w o.text o.is in
    record { text = o.text ++ d.text; plain = no_quotes_on o.text d.text o.plain d.plain; is = d.is }

-- aggregates
abbrev pub FoldingSpan : List ℕ → List ℕ → Type 0
FoldingSpan x z = (at : ℕ) → (n : ℕ × Aggregate) × Folding (at_place at x) (at_place n.0 z) n.1

abbrev pub FoldingText : List ℕ → Type 0
FoldingText = Text Anyhow true FoldingSpan

named_text : (f : FoldWord) (w v u y : List ℕ) → Text Worded false NameSpan w → Text Parted true (SignSpan 58) v →
    FoldWordText f u → FoldedText f y → FoldingText (w ++ (v ++ (u ++ y)))
named_text f w v u y g h k l = anyhow (w ++ (v ++ (u ++ y))) (changed (λ x z t at.
    let a = t.first at in
    let b = t.second.first a.0.0 in
    let c = t.second.second.first b.0 in
    let e = t.second.second.second c.0 in (
      (e.0.0, folds.aggregate_from (skip (at_place b.0 t.second.between)).at (Some a.0.1) f e.0.1),
      named a.1 b.1 c.1
          e.1,
    )) (w ++ (v ++ (u ++ y))) (join w (v ++ (u ++ y)) refl g (join v (u ++ y) refl h (join u y refl k l))))

unnamed_text : (text : List ℕ) (f : FoldWord) (w v : List ℕ) → text ≡ fold_named f →
    Text Worded false (NamedSpan text) w → FoldedText f v → FoldingText (w ++ v)
unnamed_text text f w v e g h =
    anyhow (w ++ v)
    (changed (λ x z t at. let a = t.first at in let b = t.second a.0.0 in
    ((b.0.0, folds.aggregate_from (skip (at_place at x)).at None f b.0.1), unnamed a.1 e b.1)) (w ++ v)
    (join w v refl g h))

-- `:count()`
abbrev counting : List ℕ
counting = codes "count" ++ (folded_default fold.Count).text

counting_text : (w v : List ℕ) → Text Worded false NameSpan w → Text Parted true (SignSpan 58) v →
    FoldingText (w ++ (v ++ counting))
counting_text w v f g =
    named_text fold.Count w v (codes "count") (folded_default fold.Count).text f g (count_text [] tt)
    (folded_default fold.Count).is

labelled_fold_ends : (label : Name) (s : Rest) (w v : List ℕ) → Text Worded false NameSpan w →
    Text Parted true (SignSpan 58) v → Reads (λ u. FoldingText (w ++ (v ++ u))) s (folds.labelled_fold label s)
labelled_fold_ends label s w v f g =
    bind_ends s (folds.fold_here (skip s)) _ (fold_here_ends s)
    (λ u h. let d = folded_default h.0 in record
    { text = d.text; plain = d.plain; is = named_text h.0 w v u d.text f g h.1 d.is })
    (λ x u h. bind_ends x.1 (sign 40 what.OpenParenthesis x.1) _
    (sign_ends 40 what.OpenParenthesis open_parenthesis refl x.1)
    (λ y k. let d = in_fold x.0 y k in record
    { text = d.text; plain = d.plain; is = named_text x.0 w v u (y ++ d.text) f g h d.is })
    (λ o y k. ends_as o (folds.fold_call (skip s).at (Some label) x.0 o)
    (fold_call_ends (skip s).at (Some label) x.0 o y k) (λ z q l. named_text x.0 w v u (y ++ q) f g h l)
    (λ q l. named_text x.0 w v u (y ++ q) f g h l)))

bare_fold_ends : (at : ℕ) (text : List ℕ) (m : Rest) (w : List ℕ) → Text Worded false (NamedSpan text) w →
    (o : Option FoldWord) → IfSome o (λ f. text ≡ fold_named f) → Reads (λ u. FoldingText (w ++ u)) m
    (folds.bare_fold at o (skip m))
bare_fold_ends at text m w f None h =
    record {
      way = wrong what.Colon m 58 [] counting refl
          (λ bs e. subst (λ t. FoldingText (w ++ t)) (append_assoc bs (58 ∷ []) counting)
          (counting_text w (bs ++ 58 ∷ []) (changed (some_name text) w f) (sign_text 58 colon bs e)));
    }
bare_fold_ends at text m w f (Some g) h =
    let t = skip m in
    if_ends m (head t == 40) (folds.fold_call at None g (behind t)) (Err (unexpected_fault what.OpenParenthesis t))
    (λ k. cut_then m (behind t) (folds.fold_call at None g (behind t)) (sign_cut 40 open_parenthesis m k)
    (λ v l. ends_as (behind t) (folds.fold_call at None g (behind t)) (fold_call_ends at None g (behind t) v l)
    (λ x u q. unnamed_text text g w (v ++ u) h f q) (λ u q. unnamed_text text g w (v ++ u) h f q)))
    (λ _. record { way = opened })
  where
    opened : Finish (λ u. FoldingText (w ++ u)) m (unexpected_fault what.OpenParenthesis (skip m))
    opened =
        let c = skip_cut m in
        let v = c.front ++ 10 ∷ [] in
        let d = in_fold g (v ++ 40 ∷ []) (sign_text 40 open_parenthesis v (blank_last c.front c.is)) in
        begun_here {L = λ u. FoldingText (w ++ u)} what.OpenParenthesis m (skip m) c.front c.front [] 10 (40 ∷ [])
        d.text
        c.bytes c.place (sym (append-nil c.front)) (refl, refl) tt
        (subst (λ t. FoldingText (w ++ t))
        (ap (λ t. t ++ d.text) (append_assoc c.front (10 ∷ []) (40 ∷ []))
        ∙ append_assoc c.front (10 ∷ 40 ∷ []) d.text)
        (unnamed_text text g w ((v ++ 40 ∷ []) ++ d.text) h f d.is))

pub aggregate_ends : (s : Rest) → Reads FoldingText s (folds.aggregate s)
unfolding folds.aggregate
aggregate_ends s =
    bind_ends s (reading.name s) _ (named_ends s)
    (λ w f. record {
      text = 58 ∷ counting;
      plain = (folded_default fold.Count).plain;
      is = counting_text w (58 ∷ []) f
          (sign_text 58 colon [] tt);
    })
    (λ x w f. let m = behind (skip x.1) in
    if_ends x.1 (head (skip x.1) == 58) (folds.labelled_fold x.0 m) _
    (λ h. cut_then x.1 m (folds.labelled_fold x.0 m) (sign_cut 58 colon x.1 h)
    (λ v g. labelled_fold_ends x.0 m w v (changed (some_name x.0.text) w f) g))
    (λ h. bare_fold_ends x.0.at x.0.text x.1 w f (folds.fold_of x.0.text) (fold_of_sound x.0.text)))

abbrev pub FoldingsSpan : List ℕ → List ℕ → Type 0
FoldingsSpan x z = (at : ℕ) → (n : ℕ × List Aggregate) × FoldingList (at_place at x) (at_place n.0 z) n.1

abbrev pub FoldingsText : List ℕ → Type 0
FoldingsText = Text Anyhow true FoldingsSpan

abbrev MoreFoldings : List ℕ → Type 0
MoreFoldings w = (w ≡ []) ⊎ Text Anyhow true (Then FoldingsSpan (SignSpan 44)) w

foldings_grown : (w v : List ℕ) → MoreFoldings w → FoldingText v → FoldingsText (w ++ v)
foldings_grown w v (inl e) f =
    subst (λ t. FoldingsText (t ++ v)) (sym e)
    (changed (λ x z f at. let n = f at in ((n.0.0, n.0.1 ∷ []), one_folding n.1)) v f)
foldings_grown w v (inr f) g =
    changed (λ x z k at. let a = k.first.first at in let b = k.first.second a.0.0 in let c = k.second b.0 in
    ((c.0.0, a.0.1 ++ c.0.1 ∷ []), more_foldings a.1 b.1 c.1)) (w ++ v) (join w v refl f g)

aggregate_turn_ends : (so_far : List Aggregate) (s : Rest) (w : List ℕ) → MoreFoldings w →
    TurnEnds (λ a v. MoreFoldings (w ++ v)) (λ a v. FoldingsText (w ++ v)) (λ v. FoldingsText (w ++ v)) s
    (folds.aggregate_turn so_far s)
unfolding folds.aggregate_turn
aggregate_turn_ends so_far s w f =
    on_read_ends s (folds.aggregates_on so_far) (folds.aggregate s) (aggregate_ends s)
    (λ v g. as_it_is (λ u. FoldingsText (w ++ u)) v (foldings_grown w v f g))
    (λ x v g. let t = skip x.1 in let all = so_far ++ x.0 ∷ [] in
    if_turns x.1 (head t == 44) (Again all (behind t)) (Done all x.1)
    (λ h. record {
      way = cut_as x.1 (behind t) (sign_cut 44 comma x.1 h)
          (λ u k. inr (subst (Text Anyhow true (Then FoldingsSpan (SignSpan 44))) (append_assoc w v u)
          (join (w ++ v) u refl (foldings_grown w v f g) k)));
    })
    (λ _. record { way = stay (λ u. FoldingsText (w ++ u)) x.1 v (foldings_grown w v f g) }))

pub aggregates_ends : (s : Rest) → Reads FoldingsText s (folds.aggregates s)
unfolding folds.aggregates
aggregates_ends s =
    loop_ends folds.aggregate_turn aggregates_turn_behind (λ a w. MoreFoldings w) (λ a w. FoldingsText w) FoldingsText
    aggregate_turn_ends [] s [] (inl refl)

-- ` _:count()`
pub folding_default : Default FoldingText
folding_default = record {
  text = name_default.text ++ (58 ∷ counting);
  plain = (folded_default fold.Count).plain;
  is = counting_text name_default.text (58 ∷ []) (worded name_default.text name_default.is) (sign_text 58 colon [] tt);
}

pub aggregates_default : Default FoldingsText
aggregates_default =
    record {
      text = folding_default.text;
      plain = folding_default.plain;
      is = foldings_grown [] folding_default.text
          (inl refl) folding_default.is;
    }

-- one more aggregate behind others
pub one_more_folding : (x z : List ℕ) → Then FoldingsSpan (Then (SignSpan 44) FoldingSpan) x z → FoldingsSpan x z
one_more_folding x z k at =
    let a = k.first at in let b = k.second.first a.0.0 in let c = k.second.second b.0 in
    ((c.0.0, a.0.1 ++ c.0.1 ∷ []), more_foldings a.1 b.1 c.1)
