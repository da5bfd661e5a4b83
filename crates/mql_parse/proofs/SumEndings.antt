-- What was read of a sum before its fault can be completed.
use Rattle.std.proofs.Common.{◌≡◌, ℕ, zero, suc, Bool, true, false, ◌==◌, ◌||◌, List, [], ◌∷◌, ◌++◌, codes, refl, sym}
use Rattle.std.proofs.Common.{ap, ◌∙◌, subst, if◌then◌else◌, append_assoc, Result, Ok, Err}
use Rattle.std.proofs.lemmas.Bool.{false≢true}
use Rattle.std.specs.Result.{IfOk}
use Rattle.mon_value.specs.Answers.{◌>>=◌}
use Rattle.mql_ast.specs.Trees as tree
use Rattle.mql_ast.specs.Trees.{SumTree}
use Rattle.mql_ast.specs.Tokens.{is_letter, is_digit, Rest, head, behind, skip, signed_at, positive_at, word_here}
use Rattle.mql_ast.specs.Grammar.{Sum, one_term, plus, minus, Term, column, number, percentile, sum_in_parentheses}
use Rattle.mql_parse.specs.declared.faults.ParseFault.{ParseFault}
use Rattle.mql_parse.specs.declared.faults.ParseKind.TheVariants.{TooDeep}
use Rattle.mql_parse.specs.declared.faults.What.TheVariants as what
use Rattle.mql_parse.specs.Outcomes.{Outcome, unexpected_fault, sign}
use Rattle.mql_parse.specs.Repeats.{Done, goes_on}
use Rattle.mql_parse.specs.TokenReading as reading
use Rattle.mql_parse.specs.SumReading as sums
use Rattle.mql_parse.specs.SumReading.{SumSeen, as_sum_seen, is_percentile}
use Rattle.mql_parse.proofs.Sound.{bind_sound}
use Rattle.mql_parse.proofs.MetricEndings.{if_bind}
use Rattle.mql_parse.proofs.SumSound.{same_word, term_turn_behind}
use Rattle.mql_parse.proofs.Endings.{Anyhow, Worded, Parted, Text, Then, join, changed, worded, anyhow, unended}
use Rattle.mql_parse.proofs.Endings.{Default, both, default_as, Finish, Ends, behind_read, ends_known, Reads, stay}
use Rattle.mql_parse.proofs.Endings.{as_it_is, cut_as, cut_then, bind_ends, ends_as, done_ends, then_ends, if_ends}
use Rattle.mql_parse.proofs.Endings.{TurnEnds, if_turns, cut_turns, goes_on_ends, loop_ends}
use Rattle.mql_parse.proofs.TokenEndings.{at_place, AreBlanks, refused, wrong, wrong_spaced, SignSpan, sign_text}
use Rattle.mql_parse.proofs.TokenEndings.{sign_cut, sign_ends, sign_default, Token, NamedSpan, NameSpan, some_name}
use Rattle.mql_parse.proofs.TokenEndings.{name_cut, name_ends, name_after, name_default, plus_sign, minus_sign}
use Rattle.mql_parse.proofs.TokenEndings.{open_parenthesis, close_parenthesis, comma}
use Rattle.mql_parse.proofs.NumberEndings.{positive_ends, positive_default, signed_ends}

abbrev pub SumSpan : ℕ → List ℕ → List ℕ → Type 0
SumSpan d x z = (at : ℕ) → (n : ℕ × SumTree) × Sum d (at_place at x) (at_place n.0 z) n.1

abbrev pub TermSpan : ℕ → List ℕ → List ℕ → Type 0
TermSpan d x z = (at : ℕ) → (n : ℕ × SumTree) × Term d (at_place at x) (at_place n.0 z) n.1

abbrev pub SumText : ℕ → List ℕ → Type 0
SumText d = Text Anyhow false (SumSpan d)

abbrev pub TermText : ℕ → List ℕ → Type 0
TermText d = Text Anyhow false (TermSpan d)

-- the grammar, part by part
column_text : (d : ℕ) (w : List ℕ) → Text Worded false NameSpan w → TermText d w
column_text d w f = anyhow w (changed (λ x z k at. let n = k at in ((n.0.0, tree.Column n.0.1), column n.1)) w f)

number_text : (d : ℕ) (w : List ℕ) → Text Worded false (Token signed_at) w → TermText d w
number_text d w f =
    anyhow w (changed (λ x z k at. let n = k at in ((n.0.0, tree.Number (skip (at_place at x)).at n.0.1), number n.1))
    w f)

abbrev InPercentile : List ℕ → List ℕ → Type 0
InPercentile = Then NameSpan (Then (SignSpan 44) (Then (Token (positive_at 100)) (SignSpan 41)))

percentile_span : (d : ℕ) (text : List ℕ) → text ≡ codes "percentile" → (x z : List ℕ) →
    Then (NamedSpan text) (Then (SignSpan 40) InPercentile) x z → TermSpan d x z
percentile_span d text h x z k at =
    let a = k.first at in
    let b = k.second.first a.0.0 in
    let c = k.second.second.first b.0 in
    let e = k.second.second.second.first c.0.0 in
    let f = k.second.second.second.second.first e.0 in
    let g = k.second.second.second.second.second f.0.0 in
    ((g.0, tree.Percentile (skip (at_place at x)).at c.0.1 f.0.1), percentile a.1 h b.1 c.1 e.1 f.1 g.1)

percentile_text : (d : ℕ) (text w v u : List ℕ) → text ≡ codes "percentile" → Text Worded false (NamedSpan text) w →
    Text Parted true (SignSpan 40) v → Text Worded true InPercentile u → TermText d (w ++ (v ++ u))
percentile_text d text w v u h f g k =
    anyhow (w ++ (v ++ u))
    (unended (w ++ (v ++ u))
    (changed (percentile_span d text h) (w ++ (v ++ u)) (join w (v ++ u) refl f (join v u refl g k))))

group_text : (d : ℕ) (w v u : List ℕ) → Text Parted true (SignSpan 40) w → SumText d v →
    Text Parted true (SignSpan 41) u → TermText (suc d) (w ++ (v ++ u))
group_text d w v u f g k =
    anyhow (w ++ (v ++ u))
    (unended (w ++ (v ++ u))
    (changed (λ x z t at. let a = t.first at in let b = t.second.first a.0 in let c = t.second.second b.0.0 in
    ((c.0, b.0.1), sum_in_parentheses a.1 b.1 c.1)) (w ++ (v ++ u)) (join w (v ++ u) refl f (join v u refl g k))))

one_text : (d : ℕ) (w : List ℕ) → TermText d w → SumText d w
one_text d w f = changed (λ x z k at. let n = k at in (n.0, one_term n.1)) w f

plus_text : (d : ℕ) (w v u : List ℕ) → SumText d w → Text Parted true (SignSpan 43) v → TermText d u →
    SumText d (w ++ (v ++ u))
plus_text d w v u f g k =
    changed (λ x z t at. let a = t.first at in let b = t.second.first a.0.0 in let c = t.second.second b.0 in
    ((c.0.0, tree.Plus a.0.1 c.0.1), plus a.1 b.1 c.1)) (w ++ (v ++ u)) (join w (v ++ u) refl f (join v u refl g k))

minus_text : (d : ℕ) (w v u : List ℕ) → SumText d w → Text Parted true (SignSpan 45) v → TermText d u →
    SumText d (w ++ (v ++ u))
minus_text d w v u f g k =
    changed (λ x z t at. let a = t.first at in let b = t.second.first a.0.0 in let c = t.second.second b.0 in
    ((c.0.0, tree.Minus a.0.1 c.0.1), minus a.1 b.1 c.1)) (w ++ (v ++ u)) (join w (v ++ u) refl f (join v u refl g k))

-- terms
rest_of_percentile : Default (Text Worded true (Then (Token (positive_at 100)) (SignSpan 41)))
rest_of_percentile = default_as worded (both refl (positive_default 100 refl) (sign_default 41 close_parenthesis refl))

-- ` _, 1)`
call_default : Default (Text Worded true InPercentile)
call_default = default_as worded (both refl name_default (both refl (sign_default 44 comma refl) rest_of_percentile))

-- where the last word is a bare `percentile`, its parenthesis may come
abbrev Called : (List ℕ → Type 0) → Bool → List ℕ → Type 0
Called T bare w = bare ≡ true → (bs : List ℕ) → AreBlanks bs → T (w ++ (bs ++ 40 ∷ call_default.text))

abbrev SeenText : (List ℕ → Type 0) → SumSeen → List ℕ → Type 0
SeenText T seen w = T w × Called T seen.bare w

not_bare : (T : List ℕ → Type 0) (bare : Bool) (w : List ℕ) → bare ≡ false → Called T bare w
not_bare T bare w h t = absurd (false≢true (sym h ∙ t))

called_text : (d : ℕ) (text w : List ℕ) → text ≡ codes "percentile" → Text Worded false (NamedSpan text) w →
    Called (TermText d) true w
called_text d text w h f = λ _ bs e.
    subst (TermText d) (ap (λ t. w ++ t) (append_assoc bs (40 ∷ []) call_default.text))
    (percentile_text d text w (bs ++ 40 ∷ []) call_default.text h f
    (sign_text 40 open_parenthesis bs e) call_default.is)

percentile_ends : (at : ℕ) (m : Rest) → Reads (Text Worded true InPercentile) m (sums.percentile at m)
unfolding sums.percentile
percentile_ends at m =
    then_ends m (reading.name m) _ refl (name_ends m) (both refl (sign_default 44 comma refl) rest_of_percentile)
    (λ column.
    then_ends column.1 (sign 44 what.Comma column.1) _ refl (sign_ends 44 what.Comma comma refl column.1)
    rest_of_percentile (λ k.
    then_ends k (reading.positive 100 k) _ refl (positive_ends 100 refl k) (sign_default 41 close_parenthesis refl)
    (λ p.
    done_ends p.1 (sign 41 what.CloseParenthesis p.1) (λ r. (as_sum_seen (tree.Percentile at column.0 p.0) false, r))
    (sign_ends 41 what.CloseParenthesis close_parenthesis refl p.1) (λ r. refl) (λ r w f. f))))

pub any_ok : {A : Type 0} (o : Result A ParseFault) → IfOk o (λ x. Unit {0})
any_ok (Ok x) = tt
any_ok (Err f) = tt

abbrev NotBare : SumSeen × Rest → Type 0
NotBare x = x.0.bare ≡ false

percentile_bare : (at : ℕ) (m : Rest) → IfOk (sums.percentile at m) NotBare
unfolding sums.percentile
percentile_bare at m =
    bind_sound (reading.name m) _ (λ x. Unit {0}) NotBare (any_ok (reading.name m)) (λ column _.
    bind_sound (sign 44 what.Comma column.1) _ (λ x. Unit {0}) NotBare (any_ok (sign 44 what.Comma column.1)) (λ k _.
    bind_sound (reading.positive 100 k) _ (λ x. Unit {0}) NotBare (any_ok (reading.positive 100 k)) (λ p _.
    bind_sound (sign 41 what.CloseParenthesis p.1) _ (λ x. Unit {0}) NotBare
    (any_ok (sign 41 what.CloseParenthesis p.1)) (λ r _. refl))))

-- what is read of a term or a sum
abbrev ReadsSeen : (List ℕ → Type 0) → Rest → Outcome SumSeen → Type 0
ReadsSeen T s o = Ends {A = SumSeen × Rest} behind_read (λ x. SeenText T x.0) T s o

word_ends : (d : ℕ) (s : Rest) → is_letter (head (skip s)) ≡ true →
    ReadsSeen (TermText d) s (sums.word_read (word_here (skip s)))
word_ends d s l =
    let word = word_here (skip s) in
    let m = behind (skip word.1) in
    let bare = as_sum_seen (tree.Column word.0) true in
    let plain = as_sum_seen (tree.Column word.0) false in
    let T = TermText d in
    cut_then s word.1 (sums.word_read word) (name_cut s l) (λ w f.
    let whole = column_text d w (changed (some_name word.0.text) w f) in
    if_ends word.1 (is_percentile word.0.text) (if head (skip word.1) == 40 then sums.percentile word.0.at m else Ok
    (bare, word.1)) (Ok (plain, word.1))
    (λ p. if_ends word.1 (head (skip word.1) == 40) (sums.percentile word.0.at m) (Ok (bare, word.1))
    (λ h. cut_then word.1 m (sums.percentile word.0.at m) (sign_cut 40 open_parenthesis word.1 h) (λ v g.
    ends_as m (sums.percentile word.0.at m)
    (ends_known m (sums.percentile word.0.at m) (percentile_ends word.0.at m) (percentile_bare word.0.at m))
    (λ x u k. (percentile_text d word.0.text w v u (same_word _ _ p) f g k.0, not_bare T x.0.bare (w ++ (v ++ u)) k.1))
    (λ u k. percentile_text d word.0.text w v u (same_word _ _ p) f g k)))
    (λ h. record {
      way = stay (SeenText T bare) word.1 w (whole, called_text d word.0.text w (same_word _ _ p) f);
    }))
    (λ p. record { way = stay (SeenText T plain) word.1 w (whole, not_bare T false w refl) }))

column_after : (d : ℕ) (bs : List ℕ) → AreBlanks bs → TermText d (bs ++ name_default.text)
column_after d bs e = column_text d (bs ++ name_default.text) (name_after bs e)

module _ (d : ℕ) (group : Rest → Rest → Outcome SumSeen) (grouped : (s : Rest) → (head (skip s) == 40) ≡ true →
    ReadsSeen (TermText d) s (group (skip s) (behind (skip s)))) where
  term_ends_with : (s : Rest) → ReadsSeen (TermText d) s (sums.term_with group s)
  unfolding sums.term_with
  term_ends_with s =
      let t = skip s in
      let b = head t in
      if_ends s (b == 40) (group t (behind t)) _ (grouped s)
      (λ _. if_ends s (b == 45 || is_digit b) (sums.number_term s) _
      (λ _. done_ends s (reading.signed_reading s) (λ x. (as_sum_seen (tree.Number (skip s).at x.0) false, x.1))
      (ends_as s (reading.signed_reading s) (signed_ends s) (λ x w f. number_text d w f) (λ w f. number_text d w f))
      (λ x. refl) (λ x w f. (f, not_bare (TermText d) false w refl)))
      (λ _. if_ends s (is_letter b) (sums.word_read (word_here t)) (Err (unexpected_fault what.Name t)) (word_ends d s)
      (λ _. record { way = wrong_spaced what.Name s (95 ∷ []) [] refl (column_after d) })))

-- a further term, and what may come behind it
further_seen : (d : ℕ) (w v u : List ℕ) (left right : SumSeen) (join : SumSeen → SumSeen → SumSeen) →
    (join left right).bare ≡ right.bare → ((y : List ℕ) → TermText d y → SumText d (w ++ (v ++ y))) →
    SeenText (TermText d) right u → SeenText (SumText d) (join left right) (w ++ (v ++ u))
further_seen d w v u left right join same f g = (
  f u g.0,
  λ t bs e. subst (SumText d)
      (ap (λ y. w ++ y) (sym (append_assoc v u (bs ++ 40 ∷ call_default.text)))
      ∙ sym (append_assoc w (v ++ u) (bs ++ 40 ∷ call_default.text)))
      (f (u ++ (bs ++ 40 ∷ call_default.text)) (g.1 (sym same ∙ t) bs e)),
)

-- sums of such terms
module _ (d : ℕ) (termed : (s : Rest) → ReadsSeen (TermText d) s (sums.term d s)) where
  term_turn_ends : (a : SumSeen) (s : Rest) (w : List ℕ) → SeenText (SumText d) a w →
      TurnEnds (λ b v. SeenText (SumText d) b (w ++ v)) (λ b v. SeenText (SumText d) b (w ++ v))
      (λ v. SumText d (w ++ v)) s (sums.term_turn (sums.term d) a s)
  unfolding sums.term_turn
  term_turn_ends a s w f =
      let t = skip s in
      if_turns s (head t == 43) (goes_on (sums.sum_plus a) (sums.term d (behind t))) _
      (λ h. cut_turns s (behind t) _ (sign_cut 43 plus_sign s h)
      (λ v g. goes_on_ends (behind t) (sums.sum_plus a) (sums.term d (behind t)) (termed (behind t))
      (λ u k. plus_text d w v u f.0 g k)
      (λ x u k. further_seen d w v u a x.0 sums.sum_plus refl (λ y p. plus_text d w v y f.0 g p) k)))
      (λ _. if_turns s (head t == 45) (goes_on (sums.sum_minus a) (sums.term d (behind t))) (Done a s)
      (λ h. cut_turns s (behind t) _ (sign_cut 45 minus_sign s h)
      (λ v g. goes_on_ends (behind t) (sums.sum_minus a) (sums.term d (behind t)) (termed (behind t))
      (λ u k. minus_text d w v u f.0 g k)
      (λ x u k. further_seen d w v u a x.0 sums.sum_minus refl (λ y p. minus_text d w v y f.0 g p) k)))
      (λ _. record { way = stay (SeenText (SumText d) a) s w f }))

  sum_ends_with : (s : Rest) → ReadsSeen (SumText d) s (sums.sum d s)
  unfolding sums.sum_with
  sum_ends_with s = bind_ends s (sums.term d s) _ (termed s) (λ w f. as_it_is (SumText d) w (one_text d w f))
      (λ first w f. loop_ends (sums.term_turn (sums.term d)) (term_turn_behind d) (λ a v. SeenText (SumText d) a v)
      (λ a v. SeenText (SumText d) a v) (SumText d) term_turn_ends first.0 first.1 w
      (one_text d w f.0, λ t bs e. one_text d (w ++ (bs ++ 40 ∷ call_default.text)) (f.1 t bs e)))

-- the parenthesis behind a sum, or one that goes on with it
sum_end_ends : (d : ℕ) (w v : List ℕ) → Text Parted true (SignSpan 40) w → (x : SumSeen × Rest) →
    SeenText (SumText d) x.0 v → Ends behind_read (λ y u. TermText (suc d) (w ++ (v ++ u)))
    (λ u. TermText (suc d) (w ++ (v ++ u))) x.1 (sums.sum_end x)
sum_end_ends d w v f x g =
    let r = x.1 in
    if_bind r (head (skip r) == 41) (behind (skip r)) (unexpected_fault (sums.behind_sum x.0.bare) (skip r))
    (λ q. Ok (as_sum_seen x.0.sum false, q))
    (λ h. record {
      way = cut_as r (behind (skip r)) (sign_cut 41 close_parenthesis r h) (λ u k. group_text d w v u f g.0 k);
    })
    (λ _. closing x.0.bare refl)
  where
    closing : (bare : Bool) → x.0.bare ≡ bare → Finish (λ u. TermText (suc d) (w ++ (v ++ u))) x.1
        (unexpected_fault (sums.behind_sum bare) (skip x.1))
    closing false h =
        wrong what.CloseParenthesis x.1 41 [] []
        refl
        (λ bs e. group_text d w v (bs ++ 41 ∷ []) f g.0 (sign_text 41 close_parenthesis bs e))
    closing true h =
        wrong what.OpenParenthesis x.1 40 [] (call_default.text ++ 41 ∷ [])
        refl
        (λ bs e. subst (λ t. TermText (suc d) (w ++ t))
        (append_assoc v (bs ++ 40 ∷ call_default.text) (41 ∷ [])
        ∙ ap (λ t. v ++ t) (append_assoc bs (40 ∷ call_default.text) (41 ∷ [])))
        (group_text d w (v ++ (bs ++ 40 ∷ call_default.text)) (41 ∷ []) f (g.1 h bs e)
        (sign_text 41 close_parenthesis [] tt)))

group_bare : (d : ℕ) (t m : Rest) → IfOk (sums.sum_group d t m) NotBare
unfolding sums.sum_group
group_bare zero t m = tt
group_bare (suc d) t m =
    bind_sound (sums.sum d m) sums.sum_end (λ x. Unit {0}) NotBare (any_ok (sums.sum d m)) (λ x _.
    bind_sound (sign 41 (sums.behind_sum x.0.bare) x.1) _ (λ r. Unit {0}) NotBare
    (any_ok (sign 41 (sums.behind_sum x.0.bare) x.1)) (λ r _. refl))

seen_group : (d : ℕ) (s : Rest) (o : Outcome SumSeen) → Reads (TermText d) s o → IfOk o NotBare →
    ReadsSeen (TermText d) s o
seen_group d s o h q =
    ends_as s o (ends_known s o h q) (λ x w f. (f.0, not_bare (TermText d) x.0.bare w f.1)) (λ w f. f)

group_ends : (d : ℕ) (s : Rest) → (head (skip s) == 40) ≡ true →
    ReadsSeen (TermText d) s (sums.sum_group d (skip s) (behind (skip s)))
unfolding sums.sum_group
group_ends zero s h = record { way = refused s name_default.text TooDeep tt (λ front. tt) (column_after 0) }
group_ends (suc d) s h =
    let m = behind (skip s) in
    let all = sums.sum d m >>= sums.sum_end in
    seen_group (suc d) s all
    (cut_then s m all (sign_cut 40 open_parenthesis s h) (λ w f.
    bind_ends m (sums.sum d m) sums.sum_end (sum_ends_with d (term_ends_with d (sums.sum_group d) (group_ends d)) m)
    (λ v g. let e = sign_default 41 close_parenthesis refl in record
    { text = e.text; plain = e.plain; is = group_text d w v e.text f g e.is })
    (λ x v g. sum_end_ends d w v f x g))) (group_bare (suc d) (skip s) m)

pub sum_ends : (d : ℕ) (s : Rest) → Reads (SumText d) s (sums.sum d s)
sum_ends d s =
    ends_as s (sums.sum d s) (sum_ends_with d (term_ends_with d (sums.sum_group d) (group_ends d)) s) (λ x w f. f.0)
    (λ w f. f)
