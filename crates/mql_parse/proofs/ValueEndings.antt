-- What was read of a comparison or a value before its fault can be completed.
use Rattle.std.proofs.Common.{◌≡◌, inl, inr, ℕ, ℤ, ◌+◌, Bool, true, false, ◌==◌, ◌||◌, ◌&&◌, not as not', ◌-◌}
use Rattle.std.proofs.Common.{◌^◌, List, [], ◌∷◌, ◌++◌, length, codes, refl, sym, ap, ◌∙◌, subst, if◌then◌else◌}
use Rattle.std.proofs.Common.{append_assoc, Option, Some, None, option_and_then, Ok, Err, arith}
use Rattle.std.proofs.lemmas.List.{append-nil}
use Rattle.std.proofs.lemmas.Bool.Decides.{nat_tests}
use Rattle.mon_value.specs.Answers.{◌>>=◌}
use Rattle.mon_value.specs.declared.values.FieldValue.{FieldValue}
use Rattle.mon_value.specs.declared.values.FieldValue.TheVariants as field
use Rattle.mql_ast.specs.declared.predicates.Comparison.{Comparison}
use Rattle.mql_ast.specs.declared.predicates.Comparison.TheVariants as comparison
use Rattle.mql_ast.specs.Tokens.{is_blank, is_digit, Rest, first_of, head, behind, skip, keyword_at}
use Rattle.mql_ast.specs.Tokens.{signed_at}
use Rattle.mql_ast.specs.Quotes as quotes
use Rattle.mql_ast.specs.Quotes.{text_at, pattern_at, Whole, Plain}
use Rattle.mql_ast.specs.Grammar.{comparison_at, and_equal, or_equal, literal_at}
use Rattle.mql_parse.specs.declared.faults.What.TheVariants as what
use Rattle.mql_parse.specs.Outcomes.{unexpected_fault, exact, sign, map_outcome}
use Rattle.mql_parse.specs.FaultTokens.{IsReadWhole, IsBare}
use Rattle.mql_parse.specs.TokenReading as reading
use Rattle.mql_parse.specs.PredicateReading as predicates
use Rattle.mql_parse.specs.PredicateReading.{Compared, WithValue, WithPattern}
use Rattle.mql_parse.proofs.RestLemmas.{skip_off}
use Rattle.mql_parse.proofs.Endings.{Anyhow, Worded, Parted, Text, changed, worded, anyhow, Default, Cut, Finish, Ends}
use Rattle.mql_parse.proofs.Endings.{behind_read, Reads, stay, cut_as, cut_then, ends_as, done_ends, if_ends}
use Rattle.mql_parse.proofs.TokenFronts.{one_equals, one_exclamation, true_word, false_word}
use Rattle.mql_parse.proofs.TextFronts.{open_text}
use Rattle.mql_parse.proofs.TokenEndings.{at_place, AreBlanks, skip_over, blanks_open, begun_here, wrong, byte_cut}
use Rattle.mql_parse.proofs.TokenEndings.{first_cut, IsSign, SignSpan, sign_text, WordSpan, word_text, exact_ends}
use Rattle.mql_parse.proofs.TokenEndings.{Token, exclamation, quote}
use Rattle.mql_parse.proofs.NumberEndings.{signed_ends, signed_default}
use Rattle.mql_parse.proofs.MetricEndings.{if_bind}
use Rattle.mql_parse.proofs.TextEndings.{TextRest, PatternRest, text_rest_ends, no_text}
use Rattle.mql_parse.proofs.TokenHalts.{halts_end}
use Rattle.mon_value.proofs.PlainLemmas.{equal_numbers}
use Rattle.mql_parse.proofs.Complete.{signed_begins}

-- comparisons
abbrev comparison_of : Rest → Option (Comparison × Rest)
comparison_of t =
    if head t == 61 then and_equal comparison.Equal (behind t) else
    (if head t == 33 then and_equal comparison.NotEqual (behind t) else
    (if head t == 60 then or_equal comparison.Less comparison.AtMost (behind t) else
    (if head t == 62 then or_equal comparison.Greater comparison.AtLeast (behind t) else None)))

-- a comparison, behind which no `=` stands
abbrev pub ComparedSpan : Comparison → List ℕ → List ℕ → Type 0
ComparedSpan how x z =
    (first_of z == 61) ≡ false → (at : ℕ) → (n : ℕ) × (comparison_at (at_place at x) ≡ Some (how, at_place n z))

abbrev pub ComparedText : Compared → List ℕ → Type 0
ComparedText (WithValue how) = Text Parted true (ComparedSpan how)
ComparedText WithPattern = Text Parted true (WordSpan (codes "=~"))

-- what a comparison is, written at the front of what is left
abbrev Compares : Comparison → List ℕ → Type 0
Compares how cs =
    (z : List ℕ) → (first_of z == 61) ≡ false → (at : ℕ) →
    (n : ℕ) × (comparison_of (at_place at (cs ++ z)) ≡ Some (how, at_place n z))

pub compared_text : (how : Comparison) (c : ℕ) (cs : List ℕ) → IsSign c → Compares how (c ∷ cs) → (bs : List ℕ) →
    AreBlanks bs → Text Parted true (ComparedSpan how) (bs ++ c ∷ cs)
compared_text how c cs h f bs e = record {
  opens = blanks_open Parted bs (c ∷ cs) e (λ u. h.0);
  fills = λ z _ g at. let n = f z g (at + length bs) in (
    n.0,
    ap (λ t. comparison_at (at_place at t)) (append_assoc bs (c ∷ cs) z)
        ∙ ap comparison_of (skip_over bs (c ∷ (cs ++ z)) at e ∙ skip_off (at_place (at + length bs) (c ∷ (cs ++ z)))
        h.1.0) ∙ n.1,
  );
}

pub equals : IsSign 61
equals = (refl, (refl, (refl, refl)))

less : IsSign 60
less = (refl, (refl, (refl, refl)))

greater : IsSign 62
greater = (refl, (refl, (refl, refl)))

pub two_equals : Compares comparison.Equal (61 ∷ 61 ∷ [])
two_equals z h at = (at + 1 + 1, refl)

not_equals : Compares comparison.NotEqual (33 ∷ 61 ∷ [])
not_equals z h at = (at + 1 + 1, refl)

only_less : Compares comparison.Less (60 ∷ [])
only_less z h at = (
  at + 1,
  ap (λ t. if t then Some (comparison.AtMost, behind (at_place (at + 1) z)) else Some
      (comparison.Less, at_place (at + 1) z)) h,
)

at_most : Compares comparison.AtMost (60 ∷ 61 ∷ [])
at_most z h at = (at + 1 + 1, refl)

only_greater : Compares comparison.Greater (62 ∷ [])
only_greater z h at = (
  at + 1,
  ap (λ t. if t then Some (comparison.AtLeast, behind (at_place (at + 1) z)) else Some
      (comparison.Greater, at_place (at + 1) z)) h,
)

at_least : Compares comparison.AtLeast (62 ∷ 61 ∷ [])
at_least z h at = (at + 1 + 1, refl)

-- a first byte behind blanks, and what stands behind it
abbrev pub FirstByte : ℕ → List ℕ → Type 0
FirstByte b v = (bs : List ℕ) × (AreBlanks bs × (v ≡ bs ++ b ∷ []))

pub first_is : (b : ℕ) → (0 == b) ≡ false → (s : Rest) → (head (skip s) == b) ≡ true →
    Cut (FirstByte b) s (behind (skip s))
first_is b z s h =
    cut_as s (behind (skip s)) (first_cut (λ x. x == b) z s h)
    (λ w f. (f.0, (f.1.0, f.1.1 ∙ ap (λ x. f.0 ++ x ∷ []) (equal_numbers (head (skip s)) b h))))

pub byte_is : (b : ℕ) → (0 == b) ≡ false → (s : Rest) → (head s == b) ≡ true → Cut (λ w. w ≡ b ∷ []) s (behind s)
byte_is b z s h =
    cut_as s (behind s) (byte_cut (λ x. x == b) z s h) (λ w f. f ∙ ap (λ x. x ∷ []) (equal_numbers (head s) b h))

-- the same text, the first byte with the others
pub first_joined : (L : List ℕ → Type 0) (b : ℕ) (v u cs : List ℕ) (c : FirstByte b v) → u ≡ cs →
    L (c.0 ++ (b ∷ cs)) → L (v ++ u)
first_joined L b v u cs c e f =
    subst L (sym (ap (λ t. t ++ u) c.1.1 ∙ append_assoc c.0 (b ∷ []) u ∙ ap (λ t. c.0 ++ (b ∷ t)) e)) f

-- a first byte alone
first_alone : (L : List ℕ → Type 0) (b : ℕ) (v : List ℕ) (c : FirstByte b v) → L (c.0 ++ (b ∷ [])) → L v
first_alone L b v c f = subst L (sym c.1.1) f

abbrev pub AnyCompared : List ℕ → Type 0
AnyCompared w = (how : Comparison) × Text Parted true (ComparedSpan how) w

abbrev ComparedIs : Compared × Rest → List ℕ → Type 0
ComparedIs x = ComparedText x.0

maybe_ends : (b : ℕ) (v : List ℕ) (c : FirstByte b v) (without with : Comparison) (m : Rest) → IsSign b →
    Compares without (b ∷ []) → Compares with (b ∷ 61 ∷ []) →
    Ends behind_read (λ x u. ComparedText x.0 (v ++ u)) (λ u. AnyCompared (v ++ u)) m
    (predicates.maybe_equal without with m)
maybe_ends b v c without with m sign f g =
    if_ends m (head m == 61) (Ok (WithValue with, behind m)) (Ok (WithValue without, m))
    (λ h. record {
      way = cut_as m (behind m) (byte_is 61 refl m h)
          (λ u e. first_joined (ComparedText (WithValue with)) b v u (61 ∷ []) c e
          (compared_text with b (61 ∷ []) sign g c.0 c.1.0));
    })
    (λ h. record {
      way = stay (ComparedText (WithValue without)) m v
          (first_alone (ComparedText (WithValue without)) b v c (compared_text without b [] sign f c.0 c.1.0));
    })

token_of : (how : Comparison) (c : ℕ) (cs : List ℕ) → IsSign c → Compares how (c ∷ cs) →
    IsBare what.Comparison (c ∷ cs)
token_of how c cs h f =
    let n = (compared_text how c cs h f [] tt).fills [] tt refl 0 in
    inl (h.1.0, ((n.0, how), ap (λ t. comparison_at (at_place 0 t)) (sym (append-nil (c ∷ cs))) ∙ n.1))

-- a byte that was read, and the second of two that a comparison goes on with
second_missing : (how : Comparison) (b : ℕ) (s m : Rest) → IsSign b → Compares how (b ∷ 61 ∷ []) →
    (IsBare what.Comparison (b ∷ []) → ⊥) → Cut (FirstByte b) s m →
    Finish AnyCompared s (unexpected_fault what.Comparison m)
second_missing how b s m sign f u c =
    begun_here {L = AnyCompared} what.Comparison s m c.front c.is.0 (b ∷ []) 61 [] [] c.bytes c.place c.is.1.1
    (u, token_of how b (61 ∷ []) sign f) (λ e. absurd (cc))
    (first_joined AnyCompared b c.front (61 ∷ []) (61 ∷ []) c.is refl
    (how, compared_text how b (61 ∷ []) sign f c.is.0 c.is.1.0))

pub compared_ends : (s : Rest) → Ends behind_read ComparedIs AnyCompared s (predicates.comparison_kind s)
unfolding predicates.comparison_kind
compared_ends s =
    let t = skip s in
    let b = head t in
    let m = behind t in
    if_ends s (b == 61) (predicates.behind_equals m) _
    (λ h. let c = first_is 61 refl s h in
    if_ends s (head m == 61) (Ok (WithValue comparison.Equal, behind m)) _
    (λ g. cut_then s m (Ok (WithValue comparison.Equal, behind m)) c (λ v k. record {
      way = cut_as m (behind m) (byte_is 61 refl m g)
          (λ u e. first_joined (ComparedText (WithValue comparison.Equal)) 61 v u (61 ∷ []) k e
          (compared_text comparison.Equal 61 (61 ∷ []) equals two_equals k.0 k.1.0));
    }))
    (λ _. if_ends s (head m == 126) (Ok (WithPattern, behind m)) (Err (unexpected_fault what.Comparison m))
    (λ g. cut_then s m (Ok (WithPattern, behind m)) c (λ v k. record {
      way = cut_as m (behind m) (byte_is 126 refl m g)
          (λ u e. first_joined (ComparedText WithPattern) 61 v u (126 ∷ []) k e
          (word_text Parted 61 (126 ∷ []) refl (λ y. refl) k.0 k.1.0));
    }))
    (λ _. record { way = second_missing comparison.Equal 61 s m equals two_equals one_equals c })))
    (λ _. if_ends s (b == 33) (exact what.Comparison (codes "=") m >>= λ r. Ok (WithValue comparison.NotEqual, r)) _
    (λ h. let c = first_is 33 refl s h in
    if_bind s (head m == 61) (behind m) (unexpected_fault what.Comparison m)
    (λ r. Ok (WithValue comparison.NotEqual, r))
    (λ g. cut_then s m (Ok (WithValue comparison.NotEqual, behind m)) c (λ v k. record {
      way = cut_as m (behind m) (byte_is 61 refl m g)
          (λ u e. first_joined (ComparedText (WithValue comparison.NotEqual)) 33 v u (61 ∷ []) k e
          (compared_text comparison.NotEqual 33 (61 ∷ []) exclamation not_equals k.0 k.1.0));
    }))
    (λ _. second_missing comparison.NotEqual 33 s m exclamation not_equals one_exclamation c))
    (λ _. if_ends s (b == 60) (predicates.maybe_equal comparison.Less comparison.AtMost m) _
    (λ h. cut_then s m (predicates.maybe_equal comparison.Less comparison.AtMost m) (first_is 60 refl s h)
    (λ v c. maybe_ends 60 v c comparison.Less comparison.AtMost m less only_less at_most))
    (λ _. if_ends s (b == 62) (predicates.maybe_equal comparison.Greater comparison.AtLeast m)
    (Err (unexpected_fault what.Comparison t))
    (λ h. cut_then s m (predicates.maybe_equal comparison.Greater comparison.AtLeast m) (first_is 62 refl s h)
    (λ v c. maybe_ends 62 v c comparison.Greater comparison.AtLeast m greater only_greater at_least))
    (λ _. record {
      way = wrong what.Comparison s 61 (61 ∷ []) [] (token_of comparison.Equal 61 (61 ∷ []) equals two_equals)
          (λ bs e. (comparison.Equal, compared_text comparison.Equal 61 (61 ∷ []) equals two_equals bs e));
    }))))

-- values
abbrev pub ValueText : List ℕ → Type 0
ValueText = Text Anyhow false (Token literal_at)

-- a value whose first byte is this one
abbrev value_by : Rest → ℕ → Option (FieldValue × Rest)
value_by s b =
    if b == 34 then option_and_then (λ x. Some (field.Text x.0, x.1)) (text_at s) else
    (if b == 116 then option_and_then (λ r. Some (field.Bool true, r)) (keyword_at (codes "true") s) else
    (if b == 102 then option_and_then (λ r. Some (field.Bool false, r)) (keyword_at (codes "false") s) else
    (if b == 45 || is_digit b then option_and_then (λ x. Some (field.Int x.0, x.1)) (signed_at s) else None)))

quoted_text : (v u : List ℕ) → FirstByte 34 v → TextRest u → ValueText (v ++ u)
quoted_text v u c f = record {
  opens = tt;
  fills = λ z _ at. let a =
      (subst (Text Parted true (SignSpan 34)) (sym c.1.1) (sign_text 34 quote c.0 c.1.0)).fills (u ++ z) tt at in
      let n = f z a.0 in (
        (n.0.0, field.Text n.0.1),
        ap (λ t. literal_at (at_place at t)) (append_assoc v u z)
            ∙ ap (λ t. value_by (at_place at (v ++ (u ++ z))) (head t)) (here z at)
            ∙ ap (λ o. option_and_then (λ x. Some (field.Text x.0, x.1))
            (option_and_then (λ q. quotes.text_from Whole [] q.at q.bytes) o)) a.1
            ∙ ap (option_and_then (λ x. Some (field.Text x.0, x.1))) n.1,
      );
}
  where
    here : (z : List ℕ) (at : ℕ) → skip (at_place at (v ++ (u ++ z))) ≡ at_place (at + length c.0) (34 ∷ (u ++ z))
    here z at = ap (λ t. skip (at_place at (t ++ (u ++ z)))) c.1.1
        ∙ ap (λ t. skip (at_place at t)) (append_assoc c.0 (34 ∷ []) (u ++ z))
        ∙ skip_over c.0 (34 ∷ (u ++ z)) at c.1.0 ∙ skip_off (at_place (at + length c.0) (34 ∷ (u ++ z))) refl

-- a keyword whose first byte tells that the value is this one
truth_text : (b : Bool) (c : ℕ) (cs : List ℕ) → is_blank c ≡ false →
    ((s : Rest) → value_by s c ≡ option_and_then (λ r. Some (field.Bool b, r)) (keyword_at (c ∷ cs) s))
    → (bs : List ℕ) →
    AreBlanks bs → Text Anyhow true (WordSpan (c ∷ cs)) (bs ++ c ∷ cs) → ValueText (bs ++ c ∷ cs)
truth_text b c cs blank here bs e f = record {
  opens = tt;
  fills = λ z _ at. let s = at_place at ((bs ++ c ∷ cs) ++ z) in let n = f.fills z tt at in (
    (n.0, field.Bool b),
    ap (λ t. value_by s (head t)) (ap (λ t. skip (at_place at t)) (append_assoc bs (c ∷ cs) z)
        ∙ skip_over bs (c ∷ (cs ++ z)) at e ∙ skip_off (at_place (at + length bs) (c ∷ (cs ++ z))) blank)
        ∙ here s ∙ ap (option_and_then (λ r. Some (field.Bool b, r))) n.1,
  );
}

true_text : (bs : List ℕ) → AreBlanks bs → ValueText (bs ++ codes "true")
true_text bs e =
    truth_text true 116 (codes "rue") refl (λ s. refl) bs e (word_text Anyhow 116 (codes "rue") refl tt bs e)

false_text : (bs : List ℕ) → AreBlanks bs → ValueText (bs ++ codes "false")
false_text bs e =
    truth_text false 102 (codes "alse") refl (λ s. refl) bs e (word_text Anyhow 102 (codes "alse") refl tt bs e)

-- a number's first byte is none of the others
digit_zero : (b : ℕ) → (b == 48) ≡ true → is_digit b ≡ true
digit_zero b h = grind (arith, nat_tests)

number_begins : (b : ℕ) (x y : Option (ℕ × Rest)) (z : ℕ × Rest) →
    (if b == 48 then x else (if is_digit b && not' (b == 48) then y else None)) ≡ Some z → is_digit b ≡ true
number_begins b x y z h = either (b == 48) (is_digit b) (digit_zero b) h
  where
    either : (t d : Bool) → (t ≡ true → d ≡ true) → (if t then x else (if d && not' t then y else None)) ≡ Some z →
        d ≡ true
    either true d f g = f refl
    either false true f g = refl
    either false false f g = absurd (cc)

pub some_before : {A B : Type 0} (o : Option A) (f : A → Option B) (y : B) → option_and_then f o ≡ Some y →
    (x : A) × (o ≡ Some x)
some_before None f y h = absurd (cc)
some_before (Some x) f y h = (x, refl)

fourth : {A : Type 0} (a b c e : Bool) (p q r o n : A) → a ≡ false → b ≡ false → c ≡ false → e ≡ true →
    (if a then p else (if b then q else (if c then r else (if e then o else n)))) ≡ o
fourth a b c e p q r o n ha hb hc he =
    ap (λ t. if t then p else (if b then q else (if c then r else (if e then o else n)))) ha
    ∙ ap (λ t. if t then q else (if c then r else (if e then o else n))) hb
    ∙ ap (λ t. if t then r else (if e then o else n)) hc ∙ ap (λ t. if t then o else n) he

no_quote : (b : ℕ) → (b == 45 || is_digit b) ≡ true → (b == 34) ≡ false
no_quote b h = grind (arith, nat_tests)

no_true : (b : ℕ) → (b == 45 || is_digit b) ≡ true → (b == 116) ≡ false
no_true b h = grind (arith, nat_tests)

no_false : (b : ℕ) → (b == 45 || is_digit b) ≡ true → (b == 102) ≡ false
no_false b h = grind (arith, nat_tests)

value_signed : (s : Rest) (x : ℤ × Rest) → signed_at s ≡ Some x → literal_at s ≡ Some (field.Int x.0, x.1)
value_signed s x f =
    let b = head (skip s) in
    let h = signed_begins s x f in
    fourth (b == 34) (b == 116) (b == 102) (b == 45 || is_digit b) _ _ _
    (option_and_then (λ x. Some (field.Int x.0, x.1)) (signed_at s)) None (no_quote b h) (no_true b h)
    (no_false b h) h ∙ ap (option_and_then (λ x. Some (field.Int x.0, x.1))) f

signed_text : (w : List ℕ) → Text Worded false (Token signed_at) w → ValueText w
signed_text w f =
    anyhow w (changed
    (λ x z k at. let n = k at in (
      (n.0.0, field.Int n.0.1),
      value_signed (at_place at x) (n.0.1, at_place n.0.0 z)
          n.1,
    )) w f)

text_token : (u : List ℕ) → TextRest u → IsBare what.Text (34 ∷ u)
text_token u f =
    let a = (sign_text 34 quote [] tt).fills u tt 0 in
    let n = f [] a.0 in
    let whole : IsReadWhole text_at (34 ∷ u) = (
      refl,
      (
        n.0,
        ap (option_and_then (λ q. quotes.text_from Whole [] q.at q.bytes)) a.1
            ∙ ap (quotes.text_from Whole [] a.0) (sym (append-nil u)) ∙ n.1,
      ),
    ) in inl whole

pub value_ends : (s : Rest) → Reads ValueText s (predicates.literal_value s)
unfolding predicates.literal_value
value_ends s =
    let t = skip s in
    let b = head t in
    let m = behind t in
    let yes = exact what.Truth (codes "true") t in
    let no = exact what.Truth (codes "false") t in
    if_ends s (b == 34) (map_outcome (λ x. field.Text x) (reading.text m)) _
    (λ h. let c = first_is 34 refl s h in
    done_ends s (reading.text m) (λ x. (field.Text x.0, x.1))
    (halts_end {R = ValueText} s m c.front c.is.0 34 (reading.text m) c.bytes c.place c.is.1.1 (text_rest_ends m)
    (λ u f. quoted_text c.front u c.is f) open_text text_token) (λ x. refl) (λ x u f. f))
    (λ _. if_ends s (b == 116) (yes >>= λ r. Ok (field.Bool true, r)) _
    (λ _. done_ends s yes (λ r. (field.Bool true, r))
    (exact_ends {L = ValueText} what.Truth 116 (codes "rue") refl true_word true_text s) (λ r. refl) (λ r u f. f))
    (λ _. if_ends s (b == 102) (no >>= λ r. Ok (field.Bool false, r)) _
    (λ _. done_ends s no (λ r. (field.Bool false, r))
    (exact_ends {L = ValueText} what.Truth 102 (codes "alse") refl false_word false_text s) (λ r. refl) (λ r u f. f))
    (λ _. if_ends s (b == 45 || is_digit b) (map_outcome (λ z. field.Int z) (reading.signed_reading s))
    (Err (unexpected_fault what.Text t))
    (λ _. done_ends s (reading.signed_reading s) (λ x. (field.Int x.0, x.1))
    (ends_as s (reading.signed_reading s) (signed_ends s) (λ x w f. signed_text w f) (λ w f. signed_text w f))
    (λ x. refl)
    (λ x w f. f))
    (λ _. record {
      way = wrong what.Text s 34 (34 ∷ []) [] (text_token (34 ∷ []) no_text)
          (λ bs e. subst ValueText (append_assoc bs (34 ∷ []) (34 ∷ []))
          (quoted_text (bs ++ 34 ∷ []) (34 ∷ []) (bs, (e, refl)) no_text));
    }))))

-- no `=` begins a value
pub no_equals : (x z : List ℕ) → Token literal_at x z → (first_of x == 61) ≡ false
no_equals x z k = either (first_of x == 61) refl
  where
    either : (t : Bool) → (first_of x == 61) ≡ t → t ≡ false
    either false e = refl
    either true e =
        let same : first_of x ≡ 61 = equal_numbers (first_of x) 61 e in
        let here : head (skip (at_place 0 x)) ≡ 61 = ap head (skip_off (at_place 0 x) (ap is_blank same)) ∙ same in
        let none : literal_at (at_place 0 x) ≡ None = ap (value_by (at_place 0 x)) here in
        let some = (k 0).1 in absurd (cc)

-- ` 0`
pub value_default : Default ValueText
value_default =
    record {
      text = signed_default.text;
      plain = signed_default.plain;
      is = signed_text signed_default.text
          (worded signed_default.text signed_default.is);
    }

abbrev pub PatternText : List ℕ → Type 0
PatternText = Text Anyhow true (Token pattern_at)

pub pattern_token : (u : List ℕ) → PatternRest u → IsBare what.Text (34 ∷ u)
pattern_token u f =
    let a = (sign_text 34 quote [] tt).fills u tt 0 in
    let n = f [] a.0 in
    let whole : IsReadWhole pattern_at (34 ∷ u) = (
      refl,
      (
        n.0,
        ap (option_and_then (λ q. quotes.pattern_from Whole Plain [] [] q.at q.bytes)) a.1
            ∙ ap (quotes.pattern_from Whole Plain [] [] a.0) (sym (append-nil u)) ∙ n.1,
      ),
    ) in inr whole

pub pattern_text : (v u : List ℕ) → Text Parted true (SignSpan 34) v → PatternRest u → PatternText (v ++ u)
pattern_text v u f g = record {
  opens = tt;
  fills = λ z _ at. let a = f.fills (u ++ z) tt at in let n = g z a.0 in (
    n.0,
    ap (λ t. pattern_at (at_place at t)) (append_assoc v u z)
        ∙ ap (option_and_then (λ q. quotes.pattern_from Whole Plain [] [] q.at q.bytes)) a.1 ∙ n.1,
  );
}
