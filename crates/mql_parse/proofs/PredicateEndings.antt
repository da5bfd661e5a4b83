-- What was read of a predicate before its fault can be completed.
use Rattle.std.proofs.Common.{◌≡◌, ℕ, zero, suc, Bool, true, false, ◌==◌, List, [], ◌∷◌, ◌++◌, codes, refl, sym, ap}
use Rattle.std.proofs.Common.{◌∙◌, subst, if◌then◌else◌, append_assoc, Err}
use Rattle.mql_ast.specs.declared.names.Name.{Name}
use Rattle.mql_ast.specs.declared.predicates.Comparison.{Comparison}
use Rattle.mql_ast.specs.declared.predicates.Comparison.TheVariants as comparison
use Rattle.mql_ast.specs.Trees as tree
use Rattle.mql_ast.specs.Trees.{PredicateTree}
use Rattle.mql_ast.specs.Tokens.{is_letter, Rest, head, behind, skip, word_here}
use Rattle.mql_ast.specs.Grammar.{literal, Disjunction, one_conjunction, or, Conjunction, one_negation, and, Negation}
use Rattle.mql_ast.specs.Grammar.{not, in_parentheses, compare, like}
use Rattle.mql_parse.specs.declared.faults.ParseKind.TheVariants.{TooDeep}
use Rattle.mql_parse.specs.declared.faults.What.{What}
use Rattle.mql_parse.specs.declared.faults.What.TheVariants as what
use Rattle.mql_parse.specs.Outcomes.{Outcome, unexpected_fault, sign, map_outcome}
use Rattle.mql_parse.specs.Repeats.{Done, Stuck, goes_on}
use Rattle.mql_parse.specs.TokenReading as reading
use Rattle.mql_parse.specs.PredicateReading as predicates
use Rattle.mql_parse.specs.PredicateReading.{Compared, WithValue, WithPattern, Opposite, Group}
use Rattle.mql_parse.proofs.PredicateSound.{and_turn_behind, or_turn_behind}
use Rattle.mql_parse.proofs.PipeSound.{filter_turn_behind}
use Rattle.mql_parse.proofs.Endings.{Worded, Parted, opens_on, Text, Then, join, changed, worded, unended, NoQuotes}
use Rattle.mql_parse.proofs.Endings.{Default, default_as, Ends, behind_read, Reads, stay, as_it_is, cut_then}
use Rattle.mql_parse.proofs.Endings.{bind_ends, ends_as, done_ends, if_ends, TurnEnds, if_turns, cut_turns}
use Rattle.mql_parse.proofs.Endings.{goes_on_ends, loop_ends}
use Rattle.mql_parse.proofs.TokenFronts.{WordOf, and_word, or_word}
use Rattle.mql_parse.proofs.TextFronts.{open_text}
use Rattle.mql_parse.proofs.TokenEndings.{at_place, AreBlanks, begun_here, refused, wrong, wrong_spaced, IsSign}
use Rattle.mql_parse.proofs.TokenEndings.{SignSpan, sign_text, sign_cut, sign_ends, sign_default, WordSpan, word_text}
use Rattle.mql_parse.proofs.TokenEndings.{NameSpan, some_name, name_cut, name_after, name_default, open_parenthesis}
use Rattle.mql_parse.proofs.TokenEndings.{close_parenthesis, exclamation, quote, bar}
use Rattle.mql_parse.proofs.SpacedEndings.{Opening}
use Rattle.mql_parse.proofs.MetricEndings.{if_bind}
use Rattle.mql_parse.proofs.TokenHalts.{halts_end}
use Rattle.mql_parse.proofs.TextEndings.{pattern_rest_ends, no_pattern}
use Rattle.mql_parse.proofs.ValueEndings.{PatternText, pattern_token, ComparedSpan, ComparedText, compared_text}
use Rattle.mql_parse.proofs.ValueEndings.{equals, two_equals, FirstByte, first_is, byte_is, first_joined, AnyCompared}
use Rattle.mql_parse.proofs.ValueEndings.{compared_ends, ValueText, value_ends, no_equals, value_default, PatternText}
use Rattle.mql_parse.proofs.ValueEndings.{pattern_text}

-- conditions
abbrev pub NegationSpan : ℕ → List ℕ → List ℕ → Type 0
NegationSpan d x z = (at : ℕ) → (n : ℕ × PredicateTree) × Negation d (at_place at x) (at_place n.0 z) n.1

abbrev pub ConjunctionSpan : ℕ → List ℕ → List ℕ → Type 0
ConjunctionSpan d x z = (at : ℕ) → (n : ℕ × PredicateTree) × Conjunction d (at_place at x) (at_place n.0 z) n.1

abbrev pub DisjunctionSpan : ℕ → List ℕ → List ℕ → Type 0
DisjunctionSpan d x z = (at : ℕ) → (n : ℕ × PredicateTree) × Disjunction d (at_place at x) (at_place n.0 z) n.1

abbrev NegationText : ℕ → List ℕ → Type 0
NegationText d = Text Worded false (NegationSpan d)

abbrev ConjunctionText : ℕ → List ℕ → Type 0
ConjunctionText d = Text Worded false (ConjunctionSpan d)

abbrev pub DisjunctionText : ℕ → List ℕ → Type 0
DisjunctionText d = Text Worded false (DisjunctionSpan d)

compare_text : (d : ℕ) (how : Comparison) (w v u : List ℕ) → Text Worded false NameSpan w →
    Text Parted true (ComparedSpan how) v → ValueText u → NegationText d (w ++ (v ++ u))
compare_text d how w v u f g h = changed (λ x z k at.
    let m = k.second.between in
    let a = k.first at in
    let b = k.second.first (no_equals m z k.second.second) a.0.0 in
    let c = k.second.second b.0 in
    ((c.0.0, tree.Compare a.0.1 how (literal (at_place b.0 m) c.0.1)), compare a.1 b.1 c.1)) (w ++ (v ++ u))
    (join w (v ++ u) refl f (join v u refl g h))

like_text : (d : ℕ) (w v u : List ℕ) → Text Worded false NameSpan w → Text Parted true (WordSpan (codes "=~")) v →
    PatternText u → NegationText d (w ++ (v ++ u))
like_text d w v u f g h = changed (λ x z k at.
    let m = k.second.between in
    let a = k.first at in
    let b = k.second.first a.0.0 in
    let c = k.second.second b.0 in
    ((c.0.0, tree.Like a.0.1 (record { at = (skip (at_place b.0 m)).at; pieces = c.0.1 })), like a.1 b.1 c.1))
    (w ++ (v ++ u)) (unended (w ++ (v ++ u)) (join w (v ++ u) refl f (join v u refl g h)))

compared_value : (d : ℕ) (w v : List ℕ) → Text Worded false NameSpan w → AnyCompared v →
    NegationText d (w ++ (v ++ value_default.text))
compared_value d w v f g = compare_text d g.0 w v value_default.text f g.1 value_default.is

how_ends : (d : ℕ) (n : Name) (w : List ℕ) → Text Worded false NameSpan w → (x : Compared × Rest) (v : List ℕ) →
    ComparedText x.0 v → Ends behind_read (λ y u. NegationText d (w ++ (v ++ u)))
    (λ u. NegationText d (w ++ (v ++ u))) x.1 (predicates.compares_how n x)
how_ends d n w f (WithValue how, k) v g =
    done_ends k (predicates.literal_value k) (λ x. (tree.Compare n how (literal k x.0), x.1))
    (ends_as k (predicates.literal_value k) (value_ends k) (λ x u h. compare_text d how w v u f g h)
    (λ u h. compare_text d how w v u f g h)) (λ x. refl) (λ x u h. h)
how_ends d n w f (WithPattern, k) v g =
    let t = skip k in
    let m = behind t in
    let liked : (u : List ℕ) → PatternText u → NegationText d (w ++ (v ++ u)) = λ u p. like_text d w v u f g p in
    if_bind k (head t == 34) m (unexpected_fault what.Text t)
    (λ q. map_outcome (λ ps. tree.Like n (predicates.pattern_of k ps)) (reading.pattern q))
    (λ h. let c = first_is 34 refl k h in
    done_ends k (reading.pattern m) (λ x. (tree.Like n (predicates.pattern_of k x.0), x.1))
    (halts_end {R = λ u. NegationText d (w ++ (v ++ u))} k m c.front c.is.0 34 (reading.pattern m) c.bytes
    c.place c.is.1.1 (pattern_rest_ends m)
    (λ u p. liked (c.front ++ u) (pattern_text c.front u
    (subst (Text Parted true (SignSpan 34)) (sym c.is.1.1) (sign_text 34 quote c.is.0 c.is.1.0)) p))
    open_text pattern_token) (λ x. refl) (λ x u p. p))
    (λ _. wrong what.Text k 34 (34 ∷ []) [] (pattern_token (34 ∷ []) no_pattern)
    (λ bs e. liked (bs ++ 34 ∷ 34 ∷ []) (subst PatternText (append_assoc bs (34 ∷ []) (34 ∷ []))
    (pattern_text (bs ++ 34 ∷ []) (34 ∷ []) (sign_text 34 quote bs e) no_pattern))))

condition_ends : (d : ℕ) (s : Rest) → is_letter (head (skip s)) ≡ true →
    Reads (NegationText d) s (predicates.condition (skip s))
unfolding predicates.condition
condition_ends d s l =
    let word = word_here (skip s) in
    cut_then s word.1 _ (name_cut s l) (λ w f. let g = changed (some_name word.0.text) w f in
    bind_ends word.1 (predicates.comparison_kind word.1) (predicates.compares_how word.0) (compared_ends word.1)
    (λ v h. record { text = value_default.text; plain = value_default.plain; is = compared_value d w v g h })
    (λ x v h. how_ends d word.0 w g x v h))

-- ` _== 0`
pub condition_rest : List ℕ
condition_rest = 61 ∷ 61 ∷ value_default.text

pub condition_plain : NoQuotes (10 ∷ 95 ∷ condition_rest)
unfolding condition_rest
condition_plain = value_default.plain

condition_after : (d : ℕ) (bs : List ℕ) → AreBlanks bs → NegationText d (bs ++ (name_default.text ++ condition_rest))
unfolding condition_rest
condition_after d bs e =
    subst (NegationText d) (append_assoc bs name_default.text (61 ∷ 61 ∷ value_default.text))
    (compare_text d comparison.Equal (bs ++ name_default.text) (61 ∷ 61 ∷ []) value_default.text (name_after bs e)
    (compared_text comparison.Equal 61 (61 ∷ []) equals two_equals [] tt) value_default.is)

negation_default : (d : ℕ) → Default (NegationText d)
negation_default d =
    record { text = name_default.text ++ condition_rest; plain = condition_plain; is = condition_after d [] tt }

not_text : (d : ℕ) (w v : List ℕ) → Text Parted true (SignSpan 33) w → NegationText d v → NegationText (suc d) (w ++ v)
not_text d w v f g =
    worded (w ++ v)
    (changed (λ x z k at. let a = k.first at in let b = k.second a.0 in ((b.0.0, tree.Not b.0.1), not a.1 b.1))
    (w ++ v) (join w v refl f g))

in_parentheses_text : (d : ℕ) (w v u : List ℕ) → Text Parted true (SignSpan 40) w → DisjunctionText d v →
    Text Parted true (SignSpan 41) u → NegationText (suc d) (w ++ (v ++ u))
in_parentheses_text d w v u f g h =
    worded (w ++ (v ++ u))
    (unended (w ++ (v ++ u))
    (changed (λ x z k at. let a = k.first at in let b = k.second.first a.0 in let c = k.second.second b.0.0 in
    ((c.0, b.0.1), in_parentheses a.1 b.1 c.1)) (w ++ (v ++ u)) (join w (v ++ u) refl f (join v u refl g h))))

one_negation_text : (d : ℕ) (w : List ℕ) → NegationText d w → ConjunctionText d w
one_negation_text d w f = changed (λ x z k at. let n = k at in (n.0, one_negation n.1)) w f

one_conjunction_text : (d : ℕ) (w : List ℕ) → ConjunctionText d w → DisjunctionText d w
one_conjunction_text d w f = changed (λ x z k at. let n = k at in (n.0, one_conjunction n.1)) w f

and_text : (d : ℕ) (w v u : List ℕ) → ConjunctionText d w → Text Parted true (WordSpan (38 ∷ 38 ∷ [])) v →
    NegationText d u → ConjunctionText d (w ++ (v ++ u))
and_text d w v u f g h =
    changed (λ x z k at. let a = k.first at in let b = k.second.first a.0.0 in let c = k.second.second b.0 in
    ((c.0.0, tree.And a.0.1 c.0.1), and a.1 b.1 c.1)) (w ++ (v ++ u)) (join w (v ++ u) refl f (join v u refl g h))

or_text : (d : ℕ) (w v u : List ℕ) → DisjunctionText d w → Text Parted true (WordSpan (124 ∷ 124 ∷ [])) v →
    ConjunctionText d u → DisjunctionText d (w ++ (v ++ u))
or_text d w v u f g h =
    changed (λ x z k at. let a = k.first at in let b = k.second.first a.0.0 in let c = k.second.second b.0 in
    ((c.0.0, tree.Or a.0.1 c.0.1), or a.1 b.1 c.1)) (w ++ (v ++ u)) (join w (v ++ u) refl f (join v u refl g h))

module _ (d : ℕ) (opposite group : Rest → Rest → Outcome PredicateTree)
    (opposed : (s : Rest) → (head (skip s) == 33) ≡ true →
    Reads (NegationText d) s (opposite (skip s) (behind (skip s)))) (grouped : (s : Rest) →
    (head (skip s) == 40) ≡ true → Reads (NegationText d) s (group (skip s) (behind (skip s)))) where
  negation_ends_with : (s : Rest) → Reads (NegationText d) s (predicates.negation_with opposite group s)
  unfolding predicates.negation_with
  negation_ends_with s =
      let t = skip s in
      let b = head t in
      if_ends s (b == 33) (opposite t (behind t)) _ (opposed s)
      (λ _. if_ends s (b == 40) (group t (behind t)) _ (grouped s)
      (λ _. if_ends s (is_letter b) (predicates.condition t) (Err (unexpected_fault what.Name t)) (condition_ends d s)
      (λ _. record { way = wrong_spaced what.Name s (95 ∷ []) condition_rest refl (condition_after d) })))

-- a further part behind a sign that is written twice
doubled_text : (b : ℕ) → IsSign b → (v : List ℕ) → FirstByte b v → Text Parted true (WordSpan (b ∷ b ∷ []))
    (v ++ b ∷ [])
doubled_text b h v c =
    first_joined (Text Parted true (WordSpan (b ∷ b ∷ []))) b v (b ∷ []) (b ∷ []) c refl
    (word_text Parted b (b ∷ []) h.1.0 (λ u. h.0) c.0 c.1.0)

module _ (b : ℕ) (h : IsSign b) (Part Whole' : List ℕ → Type 0) (part : Rest → Outcome PredicateTree)
    (parted : (s : Rest) → Reads Part s (part s)) (default : Default Part)
    (joined : (w v u : List ℕ) → Whole' w → Text Parted true (WordSpan (b ∷ b ∷ [])) v → Part u →
    Whole' (w ++ (v ++ u))) where
  doubled : (w v u y : List ℕ) → Whole' w → FirstByte b v → u ≡ b ∷ [] → Part y → Whole' (w ++ (v ++ (u ++ y)))
  doubled w v u y f c e g =
      subst (λ t. Whole' (w ++ t)) (ap (λ t. (v ++ t) ++ y) (sym e) ∙ append_assoc v u y)
      (joined w (v ++ b ∷ []) y f (doubled_text b h v c) g)

  double_turn_ends : (w : What) → WordOf w b (b ∷ []) →
      (join : PredicateTree → PredicateTree → PredicateTree) (l : PredicateTree) (s : Rest) (x : List ℕ) → Whole' x →
      TurnEnds (λ a v. Whole' (x ++ v)) (λ a v. Whole' (x ++ v)) (λ v. Whole' (x ++ v)) s
      (predicates.double_turn b w join part l s)
  double_turn_ends w word join l s x f =
      let t = skip s in
      let m = behind t in
      let k = behind m in
      let on = goes_on (join l) (part k) in
      if_turns s (head t == b) (if head m == b then on else Stuck (unexpected_fault w m)) (Done l s)
      (λ e. let c = first_is b h.1.1.1 s e in
      if_turns s (head m == b) on (Stuck (unexpected_fault w m))
      (λ g. cut_turns s m on c (λ v d. cut_turns m k on (byte_is b h.1.1.1 m g)
      (λ u i. goes_on_ends k (join l) (part k) (parted k) (λ y p. doubled x v u y f d i p)
      (λ z y p. doubled x v u y f d i p))))
      (λ g. record {
        way = begun_here {L = λ v. Whole' (x ++ v)} w s m c.front c.is.0 (b ∷ []) b [] default.text c.bytes c.place
            c.is.1.1 (word.fronts.0, word.bare) (λ e. absurd (word.other e))
            (doubled x c.front (b ∷ []) default.text f c.is refl default.is);
      }))
      (λ e. record { way = stay Whole' s x f })

ampersand : IsSign 38
ampersand = (refl, (refl, (refl, refl)))

-- predicates of such negations
module _ (d : ℕ) (negated : (s : Rest) → Reads (NegationText d) s (predicates.negation d s)) where
  and_turn_ends : (l : PredicateTree) (s : Rest) (w : List ℕ) → ConjunctionText d w →
      TurnEnds (λ a v. ConjunctionText d (w ++ v)) (λ a v. ConjunctionText d (w ++ v))
      (λ v. ConjunctionText d (w ++ v)) s (predicates.and_turn (predicates.negation d) l s)
  unfolding predicates.and_turn
  and_turn_ends =
      double_turn_ends 38 ampersand (NegationText d) (ConjunctionText d) (predicates.negation d) negated
      (negation_default d) (and_text d) what.And and_word tree.And

  conjunction_ends_with : (s : Rest) → Reads (ConjunctionText d) s (predicates.conjunction d s)
  unfolding predicates.conjunction_with
  conjunction_ends_with s =
      bind_ends s (predicates.negation d s) _ (negated s)
      (λ w f. as_it_is (ConjunctionText d) w (one_negation_text d w f))
      (λ first w f. loop_ends (predicates.and_turn (predicates.negation d)) (and_turn_behind d)
      (λ a v. ConjunctionText d v) (λ a v. ConjunctionText d v) (ConjunctionText d) and_turn_ends first.0 first.1
      w (one_negation_text d w f))

  conjunction_default : Default (ConjunctionText d)
  conjunction_default = default_as (one_negation_text d) (negation_default d)

  or_turn_ends : (l : PredicateTree) (s : Rest) (w : List ℕ) → DisjunctionText d w →
      TurnEnds (λ a v. DisjunctionText d (w ++ v)) (λ a v. DisjunctionText d (w ++ v))
      (λ v. DisjunctionText d (w ++ v)) s (predicates.or_turn (predicates.conjunction d) l s)
  unfolding predicates.or_turn
  or_turn_ends =
      double_turn_ends 124 bar (ConjunctionText d) (DisjunctionText d) (predicates.conjunction d)
      conjunction_ends_with conjunction_default (or_text d) what.Or or_word tree.Or

  disjunction_ends_with : (s : Rest) → Reads (DisjunctionText d) s (predicates.disjunction d s)
  unfolding predicates.disjunction_with
  disjunction_ends_with s =
      bind_ends s (predicates.conjunction d s) _ (conjunction_ends_with s)
      (λ w f. as_it_is (DisjunctionText d) w (one_conjunction_text d w f))
      (λ first w f. loop_ends (predicates.or_turn (predicates.conjunction d)) (or_turn_behind d)
      (λ a v. DisjunctionText d v) (λ a v. DisjunctionText d v) (DisjunctionText d) or_turn_ends first.0 first.1 w
      (one_conjunction_text d w f))

-- a level deeper
abbrev sign_of : predicates.Deeper → ℕ
sign_of Opposite = 33
sign_of Group = 40

deeper_ends : (d : ℕ) (way : predicates.Deeper) (s : Rest) → (head (skip s) == sign_of way) ≡ true →
    Reads (NegationText d) s (predicates.deeper d way (skip s) (behind (skip s)))
unfolding predicates.deeper
deeper_ends zero way s h =
    record { way = refused s (name_default.text ++ condition_rest) TooDeep tt (λ front. tt) (condition_after 0) }
deeper_ends (suc d) way s h =
    by_way way h (negation_ends_with d (predicates.deeper d Opposite) (predicates.deeper d Group)
    (deeper_ends d Opposite) (deeper_ends d Group))
  where
    by_way : (way : predicates.Deeper) → (head (skip s) == sign_of way) ≡ true →
        ((r : Rest) → Reads (NegationText d) r (predicates.negation d r)) →
        Reads (NegationText (suc d)) s (predicates.deeper_with (predicates.negation d) way (behind (skip s)))
    by_way Opposite h negated = let m = behind (skip s) in
        cut_then s m _ (sign_cut 33 exclamation s h)
        (λ w f. done_ends m (predicates.negation d m) (λ x. (tree.Not x.0, x.1))
        (ends_as m (predicates.negation d m) (negated m) (λ x v g. not_text d w v f g)
        (λ v g. not_text d w v f g)) (λ x. refl) (λ x v g. g))
    by_way Group h negated = let m = behind (skip s) in
        cut_then s m _ (sign_cut 40 open_parenthesis s h) (λ w f.
        bind_ends m (predicates.disjunction d m) _ (disjunction_ends_with d negated m)
        (λ v g. let e = sign_default 41 close_parenthesis refl in record
        { text = e.text; plain = e.plain; is = in_parentheses_text d w v e.text f g e.is })
        (λ x v g. done_ends x.1 (sign 41 what.CloseParenthesis x.1) (λ r. (x.0, r))
        (ends_as x.1 (sign 41 what.CloseParenthesis x.1)
        (sign_ends 41 what.CloseParenthesis close_parenthesis refl x.1) (λ r u k. in_parentheses_text d w v u f g k)
        (λ u k. in_parentheses_text d w v u f g k)) (λ r. refl) (λ r u k. k)))

negation_ends : (d : ℕ) (s : Rest) → Reads (NegationText d) s (predicates.negation d s)
negation_ends d =
    negation_ends_with d (predicates.deeper d Opposite) (predicates.deeper d Group) (deeper_ends d Opposite)
    (deeper_ends d Group)

conjunction_ends : (d : ℕ) (s : Rest) → Reads (ConjunctionText d) s (predicates.conjunction d s)
conjunction_ends d = conjunction_ends_with d (negation_ends d)

-- a filter's predicate, and the bar behind it where it was read
abbrev pub FilterSpan : ℕ → Bool → List ℕ → List ℕ → Type 0
FilterSpan d false = DisjunctionSpan d
FilterSpan d true = Then (DisjunctionSpan d) (SignSpan 124)

abbrev pub FilterText : ℕ → Bool → List ℕ → Type 0
FilterText d barred = Text Worded barred (FilterSpan d barred)

filter_turn_ends : (d : ℕ) (l : PredicateTree × Bool) (s : Rest) (w : List ℕ) → DisjunctionText d w →
    TurnEnds (λ a v. DisjunctionText d (w ++ v)) (λ a v. FilterText d a.1 (w ++ v)) (λ v. DisjunctionText d (w ++ v))
    s (predicates.filter_turn (predicates.conjunction d) l s)
unfolding predicates.filter_turn
filter_turn_ends d l s w f =
    let t = skip s in
    let m = behind t in
    let k = behind m in
    let on = goes_on (λ right. (tree.Or l.0 right, false)) (predicates.conjunction d k) in
    if_turns s (head t == 124) (if head m == 124 then on else Done (l.0, true) m) (Done (l.0, false) s)
    (λ e. cut_turns s m _ (first_is 124 refl s e) (λ v c.
    if_turns m (head m == 124) on (Done (l.0, true) m)
    (λ g. cut_turns m k on (byte_is 124 refl m g) (λ u i. goes_on_ends k (λ right. (tree.Or l.0 right, false))
    (predicates.conjunction d k) (conjunction_ends d k)
    (λ y p. doubled 124 bar (ConjunctionText d) (DisjunctionText d) (predicates.conjunction d) (conjunction_ends d)
    (conjunction_default d (negation_ends d)) (or_text d) w v u y f c i p)
    (λ x y p. doubled 124 bar (ConjunctionText d) (DisjunctionText d) (predicates.conjunction d) (conjunction_ends d)
    (conjunction_default d (negation_ends d)) (or_text d) w v u y f c i p)))
    (λ g. record {
      way = stay (λ u. FilterText d true (w ++ u)) m v
          (join w v refl f (subst (Text Parted true (SignSpan 124)) (sym c.1.1) (sign_text 124 bar c.0 c.1.0)));
    })))
    (λ e. record { way = stay (DisjunctionText d) s w f })

pub predicate_ends : (d : ℕ) (s : Rest) → Ends behind_read (λ x. FilterText d x.0.1) (DisjunctionText d) s
    (predicates.predicate d s)
unfolding predicates.predicate
predicate_ends d s =
    bind_ends s (predicates.conjunction d s) _ (conjunction_ends d s)
    (λ w f. as_it_is (DisjunctionText d) w (one_conjunction_text d w f))
    (λ first w f. loop_ends (predicates.filter_turn (predicates.conjunction d)) (filter_turn_behind d)
    (λ a v. DisjunctionText d v) (λ a v. FilterText d a.1 v) (DisjunctionText d) (filter_turn_ends d)
    (first.0, false) first.1 w (one_conjunction_text d w f))

pub a_predicate : (d : ℕ) → Text Parted false (DisjunctionSpan d) (name_default.text ++ condition_rest)
unfolding condition_rest
a_predicate d = record {
  opens = opens_on Parted name_default.text (61 ∷ 61 ∷ value_default.text) name_default.is.opens;
  fills = (one_conjunction_text d (name_default.text ++ (61 ∷ 61 ∷ value_default.text))
      (one_negation_text d (name_default.text ++ (61 ∷ 61 ∷ value_default.text)) (condition_after d [] tt))).fills;
}

-- ` _== 0`
abbrev pub predicate_default : (d : ℕ) → Default (Text Parted false (DisjunctionSpan d))
predicate_default d = record { text = name_default.text ++ condition_rest; plain = condition_plain; is = a_predicate d }

pub predicate_opening : (d : ℕ) → Opening what.Name (predicate_default d).text
predicate_opening d = record { token = 95 ∷ []; more = condition_rest; is = refl; bare = refl }
