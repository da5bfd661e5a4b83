-- Texts in quotes and patterns in front of a number, with it and behind it.
use Rattle.std.proofs.Common.{◌≡◌, inl, inr, ℕ, ◌+◌, ◌-◌, ◌<◌, Bool, true, false, ◌==◌, ◌||◌, ◌&&◌, nat_le, List, []}
use Rattle.std.proofs.Common.{◌∷◌, ◌++◌, length, refl, sym, ap, ◌∙◌, subst, arith, if◌then◌else◌, Option, Some, None}
use Rattle.std.proofs.Common.{IfSome, Ok, Err}
use Rattle.std.specs.Str.{IsUtf8}
use Rattle.std.proofs.lemmas.Bool.Decides.{nat_tests}
use Rattle.std.proofs.lemmas.Str.{IsUtf8-nil}
use Rattle.mon_value.specs.Values.{text_in}
use Rattle.mql_ast.specs.Tokens.{is_digit, Rest}
use Rattle.mql_ast.specs.Quotes.{Open, Whole, Escape, More, begins_character, begins_long_character, further, TextStep}
use Rattle.mql_ast.specs.Quotes.{TextEnd, TextPass, TextKeep, TextBad, kept_open, text_step, Sign, Plain, Dot}
use Rattle.mql_ast.specs.Quotes.{Backslash}
use Rattle.mql_ast.specs.Quotes.{is_mark, PatternStep, PatternEnd, PatternCut, PatternPass, PatternKeep, PatternUnfit}
use Rattle.mql_ast.specs.Quotes.{PatternBad, kept_sign, unfit, pattern_step}
use Rattle.mql_parse.specs.declared.faults.ParseKind.TheVariants.{BadToken}
use Rattle.mql_parse.specs.FaultNumbers.{AreDigits}
use Rattle.mql_parse.specs.Outcomes.{Outcome, fault}
use Rattle.mql_parse.specs.TokenReading as reading
use Rattle.mql_parse.specs.Steadiness.{here}
use Rattle.mql_parse.proofs.TokenSteady.{text_from_steady, text_steady, pattern_from_steady, pattern_steady}
use Rattle.mql_parse.proofs.Utf8Steps.{LeavesOpen, StepOpens, text_step_opens, LeavesSign, PatternOpens}
use Rattle.mql_parse.proofs.Utf8Steps.{pattern_step_opens, kept_ascii}
use Rattle.mon_value.proofs.TextLemmas.{text_in-IsUtf8}
use Rattle.mql_parse.proofs.Firsts.{Failed}
use Rattle.mql_parse.proofs.Swaps.{numbered, with_one, rest_at, ahead, over_pair}
use Rattle.mql_parse.proofs.Follows.{Swap, Any, FollowsIn, Follows, beyond, where_failed}
use Rattle.mql_parse.proofs.FollowTokens.{count_is_digit}

-- no line's end and no digit goes on a character of several bytes
abbrev pub High : Open → Type 0
High Whole = Unit {0}
High Escape = Unit {0}
High (More left low high) = nat_le 58 low ≡ true

some_if : {A : Type 0} (P : A → Type 0) (t : Bool) (o p : Option A) → IfSome o P → IfSome p P →
    IfSome (if t then o else p) P
some_if P true o p f g = f
some_if P false o p f g = g

character_high : (b : ℕ) → IfSome (begins_character b) High
character_high b =
    some_if High (nat_le 32 b && nat_le b 127) (Some Whole) _ tt
    (some_if High (nat_le 194 b && nat_le b 223) (Some (More 1 128 191)) _ refl
    (some_if High (b == 224) (Some (More 2 160 191)) _ refl
    (some_if High (b == 237) (Some (More 2 128 159)) _ refl
    (some_if High (nat_le 225 b && nat_le b 239) (Some (More 2 128 191)) (begins_long_character b) refl
    (some_if High (b == 240) (Some (More 3 144 191)) _ refl
    (some_if High (nat_le 241 b && nat_le b 243) (Some (More 3 128 191)) _ refl
    (some_if High (b == 244) (Some (More 3 128 143)) None refl tt)))))))

further_high : (left : ℕ) → High (further left)
further_high left = either (nat_le left 1)
  where
    either : (t : Bool) → High (if t then Whole else More (left - 1) 128 191)
    either true = tt
    either false = refl

abbrev pub StepHigh : TextStep → Type 0
StepHigh TextEnd = Unit {0}
StepHigh (TextPass u) = High u
StepHigh (TextKeep u) = High u
StepHigh TextBad = Unit {0}

step_if : (t : Bool) (s r : TextStep) → StepHigh s → StepHigh r → StepHigh (if t then s else r)
step_if true s r f g = f
step_if false s r f g = g

kept_high : (o : Option Open) → IfSome o High → StepHigh (kept_open o)
kept_high None h = tt
kept_high (Some u) h = h

pub text_step_high : (u : Open) (b : ℕ) → StepHigh (text_step u b)
text_step_high Whole b =
    step_if (b == 34) TextEnd _ tt
    (step_if (b == 92) (TextPass Escape) (kept_open (begins_character b)) tt
    (kept_high (begins_character b) (character_high b)))
text_step_high Escape b = step_if (b == 34 || b == 92) (TextKeep Whole) TextBad tt tt
text_step_high (More left low high) b =
    step_if (nat_le low b && nat_le b high) (TextKeep (further left)) TextBad (further_high left) tt

-- a digit goes on a text
not_same : (d n : ℕ) → is_digit d ≡ true → is_digit n ≡ false → (d == n) ≡ false
not_same d n h g = grind (arith, nat_tests)

digit_no_mark : (d : ℕ) → is_digit d ≡ true → is_mark d ≡ false
digit_no_mark d h = grind (arith, nat_tests)

digit_is_low : (d : ℕ) → is_digit d ≡ true → (nat_le 32 d && nat_le d 127) ≡ true
digit_is_low d h = grind (arith, nat_tests)

digit_is_ascii : (d : ℕ) → is_digit d ≡ true → d < 128
digit_is_ascii d h = grind (arith, nat_tests)

digit_begins : (d : ℕ) → is_digit d ≡ true → begins_character d ≡ Some Whole
digit_begins d h =
    ap (λ t. if t then Some Whole else
    (if nat_le 194 d && nat_le d 223 then Some (More 1 128 191) else (if d == 224 then Some (More 2 160 191) else
    (if d == 237 then Some (More 2 128 159) else (if nat_le 225 d && nat_le d 239 then Some (More 2 128 191) else
    begins_long_character d))))) (digit_is_low d h)

digit_step : (d : ℕ) → is_digit d ≡ true → text_step Whole d ≡ TextKeep Whole
digit_step d h =
    ap (λ t. if t then TextEnd else (if d == 92 then TextPass Escape else kept_open (begins_character d)))
    (not_same d 34 h refl)
    ∙ ap (λ t. if t then TextPass Escape else kept_open (begins_character d)) (not_same d 92 h refl)
    ∙ ap kept_open (digit_begins d h)

digit_sign : (d : ℕ) → is_digit d ≡ true → pattern_step Whole Plain d ≡ PatternKeep Whole Plain
digit_sign d h =
    ap (λ t. if t then PatternEnd else (if d == 92 then PatternPass Escape Plain else (if d == 46 then PatternPass Whole
    Dot else (if is_mark d then PatternUnfit else kept_sign (begins_character d))))) (not_same d 34 h refl)
    ∙ ap (λ t. if t then PatternPass Escape Plain else (if d == 46 then PatternPass Whole
    Dot else (if is_mark d then PatternUnfit else kept_sign (begins_character d)))) (not_same d 92 h refl)
    ∙ ap (λ t. if t then PatternPass Whole Dot else (if is_mark d then PatternUnfit else kept_sign
    (begins_character d))) (not_same d 46 h refl)
    ∙ ap (λ t. if t then PatternUnfit else kept_sign (begins_character d)) (digit_no_mark d h)
    ∙ ap kept_sign (digit_begins d h)

no_further : (low : ℕ) → nat_le 58 low ≡ true → nat_le low 49 ≡ false
no_further low h = grind (arith, nat_tests)

module _ (x : Swap) where
  -- what is left behind this byte, in a text
  abbrev text_on : ℕ → ℕ → List ℕ → TextStep → List ℕ → Outcome (List ℕ)
  text_on m b bs step content =
      reading.after_text_step step b (rest_at m (b ∷ bs)) (rest_at (m + 1) bs) content
      (λ next more. reading.text_from next more (m + 1) bs)

  text_beyond : (u : Open) (content : List ℕ) (m : ℕ) (bs : List ℕ) (p : Outcome (List ℕ)) → m ≡ x.at →
      FollowsIn x here Any (reading.text_from u content (m + 1) bs) p
  text_beyond u content m bs p h =
      beyond x here Any (m + 1) (reading.text_from u content (m + 1) bs) p
      ((text_from_steady (u, content)).reaches (rest_at (m + 1) bs)) (omega (arith, h))

  text_end_beyond : (m : ℕ) (s : Rest) (bs content : List ℕ) (p : Outcome (List ℕ)) → m ≡ x.at → IsUtf8 content →
      FollowsIn x here Any (reading.text_end (text_in content) s (rest_at (m + 1) bs)) p
  text_end_beyond m s bs content p h u =
      subst (λ o. FollowsIn x here Any (reading.text_end o s (rest_at (m + 1) bs)) p) (sym (text_in-IsUtf8 content u))
      (λ l. absurd (omega (arith, h, l)))

  text_step_at_byte : (step : TextStep) (content other : List ℕ) (m n : ℕ) → m ≡ x.at → StepOpens step x.byte content →
      FollowsIn x here Any (text_on m x.byte x.after step content) (text_on n x.byte x.more step other)
  text_step_at_byte TextEnd content other m n h k =
      text_end_beyond m (rest_at m (x.byte ∷ x.after)) x.after content _ h k
  text_step_at_byte (TextPass next) content other m n h k = text_beyond next content m x.after _ h
  text_step_at_byte (TextKeep next) content other m n h k = text_beyond next (content ++ x.byte ∷ []) m x.after _ h
  text_step_at_byte TextBad content other m n h k = λ e. inr tt

  text_at_byte : (u : Open) (content other : List ℕ) (m n : ℕ) → m ≡ x.at → LeavesOpen u content →
      FollowsIn x here Any (reading.text_from u content m (x.byte ∷ x.after))
      (reading.text_from u other n (x.byte ∷ x.more))
  text_at_byte u content other m n h k =
      text_step_at_byte (text_step u x.byte) content other m n h (text_step_opens u x.byte content k)

  text_run : (ds content other : List ℕ) (m n : ℕ) → AreDigits ds → m + length ds ≡ x.at → IsUtf8 content →
      FollowsIn x here Any (reading.text_from Whole content m (ds ++ x.byte ∷ x.after))
      (reading.text_from Whole other n (x.byte ∷ x.more))
  text_run [] content other m n g h k = text_at_byte Whole content other m n (omega (arith, h)) k
  text_run (d ∷ ds) content other m n g h k =
      let bs = ds ++ x.byte ∷ x.after in
      let p = reading.text_from Whole other n (x.byte ∷ x.more) in
      subst (λ step. FollowsIn x here Any (text_on m d bs step content) p) (sym (digit_step d g.0))
      (text_run ds (content ++ d ∷ []) other (m + 1) n g.1 (omega (arith, h))
      (kept_ascii d content (digit_is_ascii d g.0) k))

  text_number : (u : Open) (content : List ℕ) (m n : ℕ) → m + 1 + length x.digits ≡ x.at → LeavesOpen u content →
      High u →
      FollowsIn x here Any (reading.text_from u content m (numbered x)) (reading.text_from u content n (with_one x))
  text_number Whole content m n h k i =
      let bs = x.digits ++ x.byte ∷ x.after in
      let first = count_is_digit x.digit x.begins in
      subst (λ step. FollowsIn x here Any (text_on m x.digit bs step content)
      (reading.text_from Whole content n (with_one x))) (sym (digit_step x.digit first))
      (text_run x.digits (content ++ x.digit ∷ []) (content ++ 49 ∷ []) (m + 1) (n + 1) x.goes_on (omega (arith, h))
      (kept_ascii x.digit content (digit_is_ascii x.digit first) k))
  text_number Escape content m n h k i =
      where_failed x here Any _ (Err (fault BadToken (rest_at n (with_one x)))) tt
  text_number (More left low high) content m n h k i =
      where_failed x here Any _ (reading.text_from (More left low high) content n (with_one x))
      (subst (λ t. Failed (text_on n 49 (x.byte ∷ x.more) (if t && nat_le 49 high then TextKeep (further left) else
      TextBad) content)) (sym (no_further low i)) tt)

  text_ahead : (common : List ℕ) (u : Open) (content : List ℕ) (m n : ℕ) →
      m + length common + 1 + length x.digits ≡ x.at → LeavesOpen u content → High u →
      FollowsIn x here Any (reading.text_from u content m (common ++ numbered x))
      (reading.text_from u content n (common ++ with_one x))
  text_ahead [] u content m n h k i = text_number u content m n (omega (arith, h)) k i
  text_ahead (c ∷ common) u content m n h k i =
      by_step (text_step u c) (text_step_opens u c content k) (text_step_high u c)
      (λ v more. text_ahead common v more (m + 1) (n + 1) (omega (arith, h)))
    where
      ended : (o : Option (List ℕ)) →
          FollowsIn x here Any (reading.text_end o (rest_at m (c ∷ (common ++ numbered x)))
          (rest_at (m + 1) (common ++ numbered x))) (reading.text_end o (rest_at n (c ∷ (common ++ with_one x)))
          (rest_at (n + 1) (common ++ with_one x)))
      ended None = λ e. inr tt
      ended (Some t) = λ l.
          inr (
            t,
            (
              rest_at (n + 1) (common ++ with_one x),
              (refl, (inl (ahead x common (m + 1) (n + 1) (omega (arith, h))), tt)),
            ),
          )

      by_step : (step : TextStep) → StepOpens step c content → StepHigh step →
          ((v : Open) (more : List ℕ) → LeavesOpen v more → High v →
          FollowsIn x here Any (reading.text_from v more (m + 1) (common ++ numbered x))
          (reading.text_from v more (n + 1) (common ++ with_one x))) →
          FollowsIn x here Any (text_on m c (common ++ numbered x) step content)
          (text_on n c (common ++ with_one x) step content)
      by_step TextEnd o g ih = ended (text_in content)
      by_step (TextPass next) o g ih = ih next content o g
      by_step (TextKeep next) o g ih = ih next (content ++ c ∷ []) o g
      by_step TextBad o g ih = λ e. inr tt

  pub text_follows : Follows x here here Any reading.text reading.text
  unfolding reading.text
  text_follows = record {
    reaches = text_steady.reaches;
    follows = λ s t c l. over_pair x (λ s t. FollowsIn x here Any (reading.text_from Whole [] s.at s.bytes)
        (reading.text_from Whole [] t.at t.bytes)) (λ common m n h. text_ahead common Whole [] m n h IsUtf8-nil tt)
        (λ m n h. text_at_byte Whole [] [] m n h IsUtf8-nil) s t c;
  }

-- patterns
abbrev pub SignHigh : PatternStep → Type 0
SignHigh PatternEnd = Unit {0}
SignHigh PatternCut = Unit {0}
SignHigh (PatternPass u mark) = High u
SignHigh (PatternKeep u mark) = High u
SignHigh PatternUnfit = Unit {0}
SignHigh PatternBad = Unit {0}

sign_if : (t : Bool) (s r : PatternStep) → SignHigh s → SignHigh r → SignHigh (if t then s else r)
sign_if true s r f g = f
sign_if false s r f g = g

kept_sign_high : (o : Option Open) → IfSome o High → SignHigh (kept_sign o)
kept_sign_high None h = tt
kept_sign_high (Some u) h = h

unfit_high : (o : Option Open) → SignHigh (unfit o)
unfit_high None = tt
unfit_high (Some u) = tt

pub pattern_step_high : (u : Open) (mark : Sign) (b : ℕ) → SignHigh (pattern_step u mark b)
pattern_step_high Whole Plain b =
    sign_if (b == 34) PatternEnd _ tt
    (sign_if (b == 92) (PatternPass Escape Plain) _ tt
    (sign_if (b == 46) (PatternPass Whole Dot) _ tt
    (sign_if (is_mark b) PatternUnfit (kept_sign (begins_character b)) tt
    (kept_sign_high (begins_character b) (character_high b)))))
pattern_step_high Whole Dot b =
    sign_if (b == 42) PatternCut (unfit (begins_character b)) tt (unfit_high (begins_character b))
pattern_step_high Whole Backslash b =
    sign_if (b == 92) (PatternPass Escape Backslash) _ tt
    (sign_if (is_mark b) (PatternKeep Whole Plain) (unfit (begins_character b)) tt (unfit_high (begins_character b)))
pattern_step_high Escape Plain b =
    sign_if (b == 34) (PatternKeep Whole Plain) _ tt
    (sign_if (b == 92) (PatternPass Whole Backslash) PatternBad tt tt)
pattern_step_high Escape Dot b = tt
pattern_step_high Escape Backslash b =
    sign_if (b == 92) (PatternKeep Whole Plain) _ tt (sign_if (b == 34) PatternUnfit PatternBad tt tt)
pattern_step_high (More left low high) mark b =
    sign_if (nat_le low b && nat_le b high) (PatternKeep (further left) Plain) PatternBad (further_high left) tt

module _ (x : Swap) where
  abbrev pattern_on : ℕ → ℕ → List ℕ → PatternStep → List (List ℕ) → List ℕ → Outcome (List (List ℕ))
  pattern_on m b bs step pieces content =
      reading.after_pattern_step step b (rest_at m (b ∷ bs)) (rest_at (m + 1) bs) pieces content
      (λ next sign all more. reading.pattern_from next sign all more (m + 1) bs)

  pattern_beyond : (u : Open) (mark : Sign) (pieces : List (List ℕ)) (content : List ℕ) (m : ℕ) (bs : List ℕ)
      (p : Outcome (List (List ℕ))) → m ≡ x.at →
      FollowsIn x here Any (reading.pattern_from u mark pieces content (m + 1) bs) p
  pattern_beyond u mark pieces content m bs p h =
      beyond x here Any (m + 1) (reading.pattern_from u mark pieces content (m + 1) bs) p
      ((pattern_from_steady (u, mark, pieces, content)).reaches (rest_at (m + 1) bs)) (omega (arith, h))

  -- a piece that ends at the byte
  piece_beyond : (s : Rest) (pieces : List (List ℕ)) (content : List ℕ)
      (go : List (List ℕ) → Outcome (List (List ℕ))) (p : Outcome (List (List ℕ))) → IsUtf8 content →
      ((all : List (List ℕ)) → FollowsIn x here Any (go all) p) →
      FollowsIn x here Any (reading.piece_end (text_in content) s pieces go) p
  piece_beyond s pieces content go p u f =
      subst (λ o. FollowsIn x here Any (reading.piece_end o s pieces go) p) (sym (text_in-IsUtf8 content u))
      (f (pieces ++ content ∷ []))

  pattern_step_at_byte : (step : PatternStep) (pieces others : List (List ℕ)) (content other : List ℕ) (m n : ℕ) →
      m ≡ x.at → PatternOpens step x.byte content →
      FollowsIn x here Any (pattern_on m x.byte x.after step pieces content)
      (pattern_on n x.byte x.more step others other)
  pattern_step_at_byte PatternEnd pieces others content other m n h k =
      piece_beyond (rest_at m (x.byte ∷ x.after)) pieces content (λ all. Ok (all, rest_at (m + 1) x.after)) _ k
      (λ all l. absurd (omega (arith, h, l)))
  pattern_step_at_byte PatternCut pieces others content other m n h k =
      piece_beyond (rest_at m (x.byte ∷ x.after)) pieces content
      (λ all. reading.pattern_from Whole Plain all [] (m + 1) x.after) _ k
      (λ all. pattern_beyond Whole Plain all [] m x.after _ h)
  pattern_step_at_byte (PatternPass next mark) pieces others content other m n h k =
      pattern_beyond next mark pieces content m x.after _ h
  pattern_step_at_byte (PatternKeep next mark) pieces others content other m n h k =
      pattern_beyond next mark pieces (content ++ x.byte ∷ []) m x.after _ h
  pattern_step_at_byte PatternUnfit pieces others content other m n h k = λ e. inr tt
  pattern_step_at_byte PatternBad pieces others content other m n h k = λ e. inr tt

  pattern_at_byte : (u : Open) (mark : Sign) (pieces others : List (List ℕ)) (content other : List ℕ) (m n : ℕ) →
      m ≡ x.at → LeavesSign u mark content →
      FollowsIn x here Any (reading.pattern_from u mark pieces content m (x.byte ∷ x.after))
      (reading.pattern_from u mark others other n (x.byte ∷ x.more))
  pattern_at_byte u mark pieces others content other m n h k =
      pattern_step_at_byte (pattern_step u mark x.byte) pieces others content other m n h
      (pattern_step_opens u mark x.byte content k)

  pattern_run : (ds : List ℕ) (pieces others : List (List ℕ)) (content other : List ℕ) (m n : ℕ) → AreDigits ds →
      m + length ds ≡ x.at → IsUtf8 content →
      FollowsIn x here Any (reading.pattern_from Whole Plain pieces content m (ds ++ x.byte ∷ x.after))
      (reading.pattern_from Whole Plain others other n (x.byte ∷ x.more))
  pattern_run [] pieces others content other m n g h k =
      pattern_at_byte Whole Plain pieces others content other m n (omega (arith, h)) k
  pattern_run (d ∷ ds) pieces others content other m n g h k =
      let bs = ds ++ x.byte ∷ x.after in
      let p = reading.pattern_from Whole Plain others other n (x.byte ∷ x.more) in
      subst (λ step. FollowsIn x here Any (pattern_on m d bs step pieces content) p) (sym (digit_sign d g.0))
      (pattern_run ds pieces others (content ++ d ∷ []) other (m + 1) n g.1 (omega (arith, h))
      (kept_ascii d content (digit_is_ascii d g.0) k))

  abbrev refused : ℕ → Outcome (List (List ℕ))
  refused n = Err (fault BadToken (rest_at n (with_one x)))

  pattern_number : (u : Open) (mark : Sign) (pieces : List (List ℕ)) (content : List ℕ) (m n : ℕ) →
      m + 1 + length x.digits ≡ x.at → LeavesSign u mark content → High u →
      FollowsIn x here Any (reading.pattern_from u mark pieces content m (numbered x))
      (reading.pattern_from u mark pieces content n (with_one x))
  pattern_number Whole Plain pieces content m n h k i =
      let bs = x.digits ++ x.byte ∷ x.after in
      let first = count_is_digit x.digit x.begins in
      subst (λ step. FollowsIn x here Any (pattern_on m x.digit bs step pieces content)
      (reading.pattern_from Whole Plain pieces content n (with_one x))) (sym (digit_sign x.digit first))
      (pattern_run x.digits pieces pieces (content ++ x.digit ∷ []) (content ++ 49 ∷ []) (m + 1) (n + 1) x.goes_on
      (omega (arith, h)) (kept_ascii x.digit content (digit_is_ascii x.digit first) k))
  pattern_number Whole Dot pieces content m n h k i =
      where_failed x here Any _ (reading.pattern_from Whole Dot pieces content n (with_one x)) tt
  pattern_number Whole Backslash pieces content m n h k i =
      where_failed x here Any _ (reading.pattern_from Whole Backslash pieces content n (with_one x)) tt
  pattern_number Escape Plain pieces content m n h k i = where_failed x here Any _ (refused n) tt
  pattern_number Escape Dot pieces content m n h k i = absurd k
  pattern_number Escape Backslash pieces content m n h k i = where_failed x here Any _ (refused n) tt
  pattern_number (More left low high) mark pieces content m n h k i =
      where_failed x here Any _ (reading.pattern_from (More left low high) mark pieces content n (with_one x))
      (subst (λ t. Failed (pattern_on n 49 (x.byte ∷ x.more) (if t && nat_le 49 high then PatternKeep (further left)
      Plain else PatternBad) pieces content)) (sym (no_further low i)) tt)

  pattern_ahead : (common : List ℕ) (u : Open) (mark : Sign) (pieces : List (List ℕ)) (content : List ℕ) (m n : ℕ) →
      m + length common + 1 + length x.digits ≡ x.at → LeavesSign u mark content → High u →
      FollowsIn x here Any (reading.pattern_from u mark pieces content m (common ++ numbered x))
      (reading.pattern_from u mark pieces content n (common ++ with_one x))
  pattern_ahead [] u mark pieces content m n h k i = pattern_number u mark pieces content m n (omega (arith, h)) k i
  pattern_ahead (c ∷ common) u mark pieces content m n h k i =
      by_step (pattern_step u mark c) (pattern_step_opens u mark c content k) (pattern_step_high u mark c)
      (λ v sign all more. pattern_ahead common v sign all more (m + 1) (n + 1) (omega (arith, h)))
    where
      ended : (o : Option (List ℕ)) →
          FollowsIn x here Any (reading.piece_end o (rest_at m (c ∷ (common ++ numbered x))) pieces
          (λ all. Ok (all, rest_at (m + 1) (common ++ numbered x))))
          (reading.piece_end o (rest_at n (c ∷ (common ++ with_one x))) pieces
          (λ all. Ok (all, rest_at (n + 1) (common ++ with_one x))))
      ended None = λ e. inr tt
      ended (Some t) = λ l.
          inr (
            pieces ++ t ∷ [],
            (
              rest_at (n + 1) (common ++ with_one x),
              (refl, (inl (ahead x common (m + 1) (n + 1) (omega (arith, h))), tt)),
            ),
          )

      cut : (o : Option (List ℕ)) → ((all : List (List ℕ)) →
          FollowsIn x here Any (reading.pattern_from Whole Plain all [] (m + 1) (common ++ numbered x))
          (reading.pattern_from Whole Plain all [] (n + 1) (common ++ with_one x))) →
          FollowsIn x here Any (reading.piece_end o (rest_at m (c ∷ (common ++ numbered x))) pieces
          (λ all. reading.pattern_from Whole Plain all [] (m + 1) (common ++ numbered x)))
          (reading.piece_end o (rest_at n (c ∷ (common ++ with_one x))) pieces
          (λ all. reading.pattern_from Whole Plain all [] (n + 1) (common ++ with_one x)))
      cut None f = λ e. inr tt
      cut (Some t) f = f (pieces ++ t ∷ [])

      by_step : (step : PatternStep) → PatternOpens step c content → SignHigh step →
          ((v : Open) (sign : Sign) (all : List (List ℕ)) (more : List ℕ) → LeavesSign v sign more → High v →
          FollowsIn x here Any (reading.pattern_from v sign all more (m + 1) (common ++ numbered x))
          (reading.pattern_from v sign all more (n + 1) (common ++ with_one x))) →
          FollowsIn x here Any (pattern_on m c (common ++ numbered x) step pieces content)
          (pattern_on n c (common ++ with_one x) step pieces content)
      by_step PatternEnd o g ih = ended (text_in content)
      by_step PatternCut o g ih = cut (text_in content) (λ all. ih Whole Plain all [] IsUtf8-nil tt)
      by_step (PatternPass next sign) o g ih = ih next sign pieces content o g
      by_step (PatternKeep next sign) o g ih = ih next sign pieces (content ++ c ∷ []) o g
      by_step PatternUnfit o g ih = λ e. inr tt
      by_step PatternBad o g ih = λ e. inr tt

  pub pattern_follows : Follows x here here Any reading.pattern reading.pattern
  unfolding reading.pattern
  pattern_follows = record {
    reaches = pattern_steady.reaches;
    follows = λ s t c l. over_pair x (λ s t. FollowsIn x here Any
        (reading.pattern_from Whole Plain [] [] s.at s.bytes) (reading.pattern_from Whole Plain [] [] t.at t.bytes))
        (λ common m n h. pattern_ahead common Whole Plain [] [] m n h IsUtf8-nil tt)
        (λ m n h. pattern_at_byte Whole Plain [] [] [] [] m n h IsUtf8-nil) s t c;
  }
