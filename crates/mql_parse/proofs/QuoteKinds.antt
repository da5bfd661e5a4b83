-- The kinds of faults in texts in quotes and in patterns.
use Rattle.std.proofs.Common.{◌≡◌, ℕ, ◌+◌, Bool, true, false, ◌==◌, ◌||◌, ◌&&◌, nat_le, List, [], ◌∷◌, ◌++◌, refl, sym}
use Rattle.std.proofs.Common.{ap, ◌∙◌, subst, arith, if◌then◌else◌, Option, Some, None, Ok, Err}
use Rattle.std.proofs.lemmas.Bool.{eqb-true}
use Rattle.std.proofs.lemmas.Bool.Decides.{nat_tests}
use Rattle.std.proofs.lemmas.Str.{IsUtf8-nil}
use Rattle.mon_value.specs.Values.{text_in}
use Rattle.mql_ast.specs.Tokens.{Rest}
use Rattle.mql_ast.specs.Quotes.{Open, Whole, Escape, More, begins_character, begins_long_character, further, TextStep}
use Rattle.mql_ast.specs.Quotes.{TextEnd, TextPass, TextKeep, TextBad, kept_open, text_step, Sign, Plain, Dot}
use Rattle.mql_ast.specs.Quotes.{Backslash}
use Rattle.mql_ast.specs.Quotes.{is_mark, PatternStep, PatternEnd, PatternCut, PatternPass, PatternKeep, PatternUnfit}
use Rattle.mql_ast.specs.Quotes.{PatternBad, kept_sign, unfit, pattern_step}
use Rattle.mql_parse.specs.declared.faults.ParseKind.TheVariants.{BadToken, BadPattern}
use Rattle.mql_parse.specs.Outcomes.{Outcome, fault}
use Rattle.mql_parse.specs.TokenReading as reading
use Rattle.mql_parse.specs.Faults.{open_behind, quotes_after, could_stand, QuotedKind}
use Rattle.mql_parse.proofs.KindFits.{Outside, FaultFits, Fits}
use Rattle.mql_parse.proofs.Utf8Steps.{LeavesOpen, StepOpens, text_step_opens, LeavesSign, PatternOpens}
use Rattle.mql_parse.proofs.Utf8Steps.{pattern_step_opens}
use Rattle.mon_value.proofs.TextLemmas.{text_in-IsUtf8}

-- a byte of a text
byte_fits : {A : Type 0} (o : Option Open) (at b : ℕ) (bs : List ℕ) (x : Outcome A) → Fits (quotes_after o b)
    (record { at = at + 1; bytes = bs }) x → Fits o (record { at = at; bytes = b ∷ bs }) x
byte_fits o at b bs (Ok x) f = record
    { front = b ∷ f.front; bytes = ap (λ t. b ∷ t) f.bytes; place = omega (arith, f.place); closed = f.closed }
byte_fits o at b bs (Err x) f = record {
  front = b ∷ f.front;
  left = f.left;
  bytes = ap (λ t. b ∷ t) f.bytes;
  place = omega (arith, f.place);
  fits = f.fits;
}

opened : {A : Type 0} (u next : Open) (at b : ℕ) (bs : List ℕ) (x : Outcome A) →
    open_behind (text_step u b) ≡ Some next → Fits (Some next) (record { at = at + 1; bytes = bs }) x →
    Fits (Some u) (record { at = at; bytes = b ∷ bs }) x
opened u next at b bs x e f = byte_fits (Some u) at b bs x
    (subst (λ o. Fits o (record { at = at + 1; bytes = bs }) x) (sym e) f)

closed : (u : Open) (at b : ℕ) (bs : List ℕ) → open_behind (text_step u b) ≡ None →
    Outside (Some u) (record { at = at; bytes = b ∷ bs }) (record { at = at + 1; bytes = bs })
closed u at b bs e = record { front = b ∷ []; bytes = refl; place = omega arith; closed = e }

bad_fits : (u : Open) (at b : ℕ) (bs : List ℕ) → could_stand (text_step u b) ≡ false →
    FaultFits (Some u) (record { at = at; bytes = b ∷ bs }) (fault BadToken (record { at = at; bytes = b ∷ bs }))
bad_fits u at b bs e = record {
  front = [];
  left = b ∷ bs;
  bytes = refl;
  place = omega arith;
  fits = subst
      (λ t. QuotedKind t BadToken) (sym e) refl;
}

unfit_fits : (u : Open) (at b : ℕ) (bs : List ℕ) → could_stand (text_step u b) ≡ true →
    FaultFits (Some u) (record { at = at; bytes = b ∷ bs }) (fault BadPattern (record { at = at; bytes = b ∷ bs }))
unfit_fits u at b bs e = record {
  front = [];
  left = b ∷ bs;
  bytes = refl;
  place = omega arith;
  fits = subst (λ t. QuotedKind t BadPattern)
      (sym e) refl;
}

-- texts
text_end_fits : (o : Option Open) (t : List ℕ) (s rest : Rest) (x : Option (List ℕ)) → x ≡ Some t → Outside o s rest →
    Fits o s (reading.text_end x s rest)
text_end_fits o t s rest None e f = absurd (cc)
text_end_fits o t s rest (Some y) e f = f

text_step_fits : (u : Open) (b : ℕ) (t : List ℕ) (at : ℕ) (bs : List ℕ) (step : TextStep) → text_step u b ≡ step →
    StepOpens step b t →
    ((next : Open) (more : List ℕ) → LeavesOpen next more → Fits (Some next) (record { at = at + 1; bytes = bs })
    (reading.text_from next more (at + 1) bs)) →
    Fits (Some u) (record { at = at; bytes = b ∷ bs })
    (reading.after_text_step step b (record { at = at; bytes = b ∷ bs }) (record { at = at + 1; bytes = bs }) t
    (λ next more. reading.text_from next more (at + 1) bs))
text_step_fits u b t at bs TextEnd e k ih = text_end_fits (Some u) t (record { at = at; bytes = b ∷ bs })
    (record { at = at + 1; bytes = bs }) (text_in t) (text_in-IsUtf8 t k) (closed u at b bs (ap open_behind e))
text_step_fits u b t at bs (TextPass next) e k ih = opened u next at b bs (reading.text_from next t (at + 1) bs)
    (ap open_behind e) (ih next t k)
text_step_fits u b t at bs (TextKeep next) e k ih = opened u next at b bs
    (reading.text_from next (t ++ b ∷ []) (at + 1) bs) (ap open_behind e) (ih next (t ++ b ∷ []) k)
text_step_fits u b t at bs TextBad e k ih = bad_fits u at b bs (ap could_stand e)

text_from_fits : (u : Open) (t : List ℕ) (at : ℕ) (bs : List ℕ) → LeavesOpen u t →
    Fits (Some u) (record { at = at; bytes = bs }) (reading.text_from u t at bs)
text_from_fits u t at [] h = record { front = []; left = []; bytes = refl; place = omega arith; fits = refl }
text_from_fits u t at (b ∷ bs) h = text_step_fits u b t at bs (text_step u b) refl (text_step_opens u b t h)
    (λ next more k. text_from_fits next more (at + 1) bs k)

pub text_fits : (s : Rest) → Fits (Some Whole) s (reading.text s)
unfolding reading.text
text_fits s = text_from_fits Whole [] s.at s.bytes IsUtf8-nil

-- a pattern goes on with each byte as a text does
abbrev pub SameStep : PatternStep → TextStep → Type 0
SameStep PatternEnd step = open_behind step ≡ None
SameStep PatternCut step = open_behind step ≡ Some Whole
SameStep (PatternPass u mark) step = open_behind step ≡ Some u
SameStep (PatternKeep u mark) step = open_behind step ≡ Some u
SameStep PatternUnfit step = could_stand step ≡ true
SameStep PatternBad step = could_stand step ≡ false

either_step : (t : Bool) (p q : PatternStep) (step : TextStep) → (t ≡ true → SameStep p step) →
    (t ≡ false → SameStep q step) → SameStep (if t then p else q) step
either_step true p q step f g = f refl
either_step false p q step f g = g refl

-- where the byte is known
at_byte : (n b : ℕ) (p : PatternStep) (u : Open) → SameStep p (text_step u n) → (b == n) ≡ true →
    SameStep p (text_step u b)
at_byte n b p u f h = subst (λ c. SameStep p (text_step u c)) (sym (eqb-true b n h)) f

whole_step : (b : ℕ) (P : TextStep → Type 0) → ((b == 34) ≡ true → P TextEnd) →
    ((b == 92) ≡ true → P (TextPass Escape))
    → ((b == 34) ≡ false → (b == 92) ≡ false → P (kept_open (begins_character b))) →
    P (text_step Whole b)
whole_step b P f g h = either (b == 34) (b == 92) f g h
  where
    either : (t v : Bool) → (t ≡ true → P TextEnd) → (v ≡ true → P (TextPass Escape)) →
        (t ≡ false → v ≡ false → P (kept_open (begins_character b))) →
        P (if t then TextEnd else (if v then TextPass Escape else kept_open (begins_character b)))
    either true v f g h = f refl
    either false true f g h = g refl
    either false false f g h = h refl refl

mark_is_character : (b : ℕ) → is_mark b ≡ true → (nat_le 32 b && nat_le b 127) ≡ true
mark_is_character b h = grind (arith, nat_tests)

ascii_begins : (b : ℕ) → (nat_le 32 b && nat_le b 127) ≡ true → begins_character b ≡ Some Whole
ascii_begins b h =
    ap (λ t. if t then Some Whole else
    (if nat_le 194 b && nat_le b 223 then Some
    (More 1 128 191) else (if b == 224 then Some
    (More 2 160 191) else (if b == 237 then Some
    (More 2 128 159) else (if nat_le 225 b && nat_le b 239 then Some (More 2 128 191) else begins_long_character
    b))))) h

mark_no_quote : (b : ℕ) → is_mark b ≡ true → (b == 34) ≡ false
mark_no_quote b h = grind (arith, nat_tests)

mark_no_backslash : (b : ℕ) → is_mark b ≡ true → (b == 92) ≡ false
mark_no_backslash b h = grind (arith, nat_tests)

mark_step : (b : ℕ) → is_mark b ≡ true → text_step Whole b ≡ TextKeep Whole
mark_step b h =
    ap (λ t. if t then TextEnd else (if b == 92 then TextPass Escape else kept_open (begins_character b)))
    (mark_no_quote b h)
    ∙ ap (λ t. if t then TextPass Escape else kept_open (begins_character b)) (mark_no_backslash b h) ∙
    ap kept_open (ascii_begins b (mark_is_character b h))

kept_same : (o : Option Open) → SameStep (kept_sign o) (kept_open o)
kept_same None = refl
kept_same (Some u) = refl

unfit_same : (o : Option Open) → SameStep (unfit o) (kept_open o)
unfit_same None = refl
unfit_same (Some u) = refl

-- a byte that no sign goes on with
unfit_step : (b : ℕ) → SameStep (unfit (begins_character b)) (text_step Whole b)
unfit_step b = whole_step b (SameStep (unfit (begins_character b)))
    (λ h. subst (λ c. SameStep (unfit (begins_character c)) TextEnd) (sym (eqb-true b 34 h)) refl)
    (λ h. subst (λ c. SameStep (unfit (begins_character c)) (TextPass Escape)) (sym (eqb-true b 92 h)) refl)
    (λ h g. unfit_same (begins_character b))

plain_step : (b : ℕ) → (b == 34) ≡ false → (b == 92) ≡ false → SameStep (kept_sign (begins_character b))
    (text_step Whole b)
plain_step b h g = subst (SameStep (kept_sign (begins_character b)))
    (sym (ap (λ t. if t then TextEnd else (if b == 92 then TextPass Escape else kept_open (begins_character b))) h ∙
    ap (λ t. if t then TextPass Escape else kept_open (begins_character b)) g))
    (kept_same (begins_character b))

no_escape : (b : ℕ) → (b == 34) ≡ false → (b == 92) ≡ false → could_stand (text_step Escape b) ≡ false
no_escape b h g = ap could_stand
    (ap (λ t. if t || b == 92 then TextKeep Whole else TextBad) h ∙ ap (λ t. if t then TextKeep Whole else TextBad) g)

pub same_step : (u : Open) (mark : Sign) (b : ℕ) (t : List ℕ) → LeavesSign u mark t → SameStep (pattern_step u mark b)
    (text_step u b)
same_step Whole Plain b t k =
    either_step (b == 34) _ _ _ (at_byte 34 b PatternEnd Whole refl)
    (λ h. either_step (b == 92) _ _ _ (at_byte 92 b (PatternPass Escape Plain) Whole refl)
    (λ g. either_step (b == 46) _ _ _ (at_byte 46 b (PatternPass Whole Dot) Whole refl)
    (λ _. either_step (is_mark b) _ _ _ (λ m. ap could_stand (mark_step b m)) (λ _. plain_step b h g))))
same_step Whole Dot b t k = either_step (b == 42) _ _ _ (at_byte 42 b PatternCut Whole refl) (λ _. unfit_step b)
same_step Whole Backslash b t k =
    either_step (b == 92) _ _ _ (at_byte 92 b (PatternPass Escape Backslash) Whole refl)
    (λ _. either_step (is_mark b) _ _ _ (λ m. ap open_behind (mark_step b m)) (λ _. unfit_step b))
same_step Escape Plain b t k =
    either_step (b == 34) _ _ _ (at_byte 34 b (PatternKeep Whole Plain) Escape refl)
    (λ h. either_step (b == 92) _ _ _ (at_byte 92 b (PatternPass Whole Backslash) Escape refl)
    (λ g. no_escape b h g))
same_step Escape Dot b t k = absurd k
same_step Escape Backslash b t k =
    either_step (b == 92) _ _ _ (at_byte 92 b (PatternKeep Whole Plain) Escape refl)
    (λ g. either_step (b == 34) _ _ _ (at_byte 34 b PatternUnfit Escape refl) (λ h. no_escape b h g))
same_step (More left low high) mark b t k = either (nat_le low b && nat_le b high)
  where
    either : (v : Bool) → SameStep (if v then PatternKeep (further left) Plain else PatternBad)
        (if v then TextKeep (further left) else TextBad)
    either true = refl
    either false = refl

-- patterns
piece_end_fits : (o : Option Open) (t : List ℕ) (s : Rest) (ps : List (List ℕ))
    (go : List (List ℕ) → Outcome (List (List ℕ))) (x : Option (List ℕ)) → x ≡ Some t →
    ((all : List (List ℕ)) → Fits o s (go all)) → Fits o s (reading.piece_end x s ps go)
piece_end_fits o t s ps go None e f = absurd (cc)
piece_end_fits o t s ps go (Some y) e f = f (ps ++ y ∷ [])

pattern_step_fits : (u : Open) (b : ℕ) (ps : List (List ℕ)) (t : List ℕ) (at : ℕ) (bs : List ℕ) (step : PatternStep) →
    SameStep step (text_step u b) → PatternOpens step b t →
    ((next : Open) (sign : Sign) (all : List (List ℕ)) (more : List ℕ) → LeavesSign next sign more →
    Fits (Some next) (record { at = at + 1; bytes = bs }) (reading.pattern_from next sign all more (at + 1) bs)) →
    Fits (Some u) (record { at = at; bytes = b ∷ bs })
    (reading.after_pattern_step step b (record { at = at; bytes = b ∷ bs }) (record { at = at + 1; bytes = bs }) ps
    t (λ next sign all more. reading.pattern_from next sign all more (at + 1) bs))
pattern_step_fits u b ps t at bs PatternEnd e k ih = piece_end_fits (Some u) t (record { at = at; bytes = b ∷ bs }) ps
    (λ all. Ok (all, record { at = at + 1; bytes = bs })) (text_in t) (text_in-IsUtf8 t k) (λ all. closed u at b bs e)
pattern_step_fits u b ps t at bs PatternCut e k ih =
    piece_end_fits (Some u) t (record { at = at; bytes = b ∷ bs }) ps
    (λ all. reading.pattern_from Whole Plain all [] (at + 1) bs) (text_in t) (text_in-IsUtf8 t k)
    (λ all. opened u Whole at b bs (reading.pattern_from Whole Plain all [] (at + 1) bs) e
    (ih Whole Plain all [] IsUtf8-nil))
pattern_step_fits u b ps t at bs (PatternPass next sign) e k ih = opened u next at b bs
    (reading.pattern_from next sign ps t (at + 1) bs) e (ih next sign ps t k)
pattern_step_fits u b ps t at bs (PatternKeep next sign) e k ih = opened u next at b bs
    (reading.pattern_from next sign ps (t ++ b ∷ []) (at + 1) bs) e (ih next sign ps (t ++ b ∷ []) k)
pattern_step_fits u b ps t at bs PatternUnfit e k ih = unfit_fits u at b bs e
pattern_step_fits u b ps t at bs PatternBad e k ih = bad_fits u at b bs e

pattern_from_fits : (u : Open) (mark : Sign) (ps : List (List ℕ)) (t : List ℕ) (at : ℕ) (bs : List ℕ) →
    LeavesSign u mark t → Fits (Some u) (record { at = at; bytes = bs }) (reading.pattern_from u mark ps t at bs)
pattern_from_fits u mark ps t at [] h = record { front = []; left = []; bytes = refl; place = omega arith; fits = refl }
pattern_from_fits u mark ps t at (b ∷ bs) h = pattern_step_fits u b ps t at bs (pattern_step u mark b)
    (same_step u mark b t h) (pattern_step_opens u mark b t h)
    (λ next sign all more k. pattern_from_fits next sign all more (at + 1) bs k)

pub pattern_fits : (s : Rest) → Fits (Some Whole) s (reading.pattern s)
unfolding reading.pattern
pattern_fits s = pattern_from_fits Whole Plain [] [] s.at s.bytes IsUtf8-nil
