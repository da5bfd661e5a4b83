-- What was read of a text in quotes before its fault can be completed.
use Rattle.std.proofs.Common.{◌≡◌, ℕ, zero, suc, ◌+◌, ◌≤◌, true, false, ◌==◌, ◌&&◌, nat_le, List, [], ◌∷◌, ◌++◌, refl}
use Rattle.std.proofs.Common.{ap, ◌∙◌, subst, arith, if◌then◌else◌, Option, Some, None, option_and_then, Ok, Err}
use Rattle.std.specs.Str.{IsUtf8}
use Rattle.std.proofs.lemmas.Bool.Decides.{nat_tests}
use Rattle.std.proofs.lemmas.Str.{IsUtf8-nil}
use Rattle.mon_value.specs.Values.{text_in}
use Rattle.mql_ast.specs.Tokens.{Rest}
use Rattle.mql_ast.specs.Quotes as quotes
use Rattle.mql_ast.specs.Quotes.{Open, Whole, Escape, More, further, TextStep, TextEnd, TextPass, TextKeep, TextBad}
use Rattle.mql_ast.specs.Quotes.{text_step, Sign, Plain, Dot, Backslash, PatternStep, PatternEnd, PatternCut}
use Rattle.mql_ast.specs.Quotes.{PatternPass, PatternKeep, PatternUnfit, PatternBad, pattern_step}
use Rattle.mql_parse.specs.declared.faults.ParseKind.{ParseKind}
use Rattle.mql_parse.specs.declared.faults.ParseKind.TheVariants.{BadToken, BadPattern, Expected}
use Rattle.mql_parse.specs.declared.faults.What.TheVariants as what
use Rattle.mql_parse.specs.Outcomes.{Outcome, fault}
use Rattle.mql_parse.specs.TokenReading as reading
use Rattle.mql_parse.specs.Faults.{open_behind, open_quotes}
use Rattle.mql_parse.proofs.Endings.{IfTooLarge, IfExpected}
use Rattle.mql_parse.proofs.TokenEndings.{at_place}
use Rattle.mql_parse.proofs.QuoteKinds.{SameStep, same_step}
use Rattle.mql_parse.proofs.TextFronts.{QuotesOpen, quotes_on}
use Rattle.mql_parse.proofs.TokenHalts.{Halts, halted_at, halts_on}
use Rattle.mql_parse.proofs.Utf8Steps.{IsCompleted, LeavesOpen, several_further, StepOpens, text_step_opens}
use Rattle.mql_parse.proofs.Utf8Steps.{LeavesSign, PatternOpens, pattern_step_opens, kept_ascii}
use Rattle.mon_value.proofs.TextLemmas.{text_in-IsUtf8}

-- a text of which this content was read
abbrev TextOf : Open → List ℕ → List ℕ → Type 0
TextOf u t w =
    (z : List ℕ) (at : ℕ) → (n : ℕ × List ℕ) × (quotes.text_from u t at (w ++ z) ≡ Some (n.1, at_place n.0 z))

-- a pattern of which these pieces and this content were read
abbrev PatternOf : Open → Sign → List (List ℕ) → List ℕ → List ℕ → Type 0
PatternOf u mark ps t w =
    (z : List ℕ) (at : ℕ) →
    (n : ℕ × List (List ℕ)) × (quotes.pattern_from u mark ps t at (w ++ z) ≡ Some (n.1, at_place n.0 z))

-- a text and a pattern from behind the first quote
abbrev pub TextRest : List ℕ → Type 0
TextRest u = (z : List ℕ) (at : ℕ) →
    (n : ℕ × List ℕ) × (quotes.text_from Whole [] at (u ++ z) ≡ Some (n.1, at_place n.0 z))

abbrev pub PatternRest : List ℕ → Type 0
PatternRest u =
    (z : List ℕ) (at : ℕ) →
    (n : ℕ × List (List ℕ)) × (quotes.pattern_from Whole Plain [] [] at (u ++ z) ≡ Some (n.1, at_place n.0 z))

low_within : (low high : ℕ) → (nat_le 128 low && nat_le low high) ≡ true →
    (low ≤ low) × ((low ≤ high) × ((nat_le low low && nat_le low high) ≡ true))
low_within low high h = (omega arith, (grind (arith, nat_tests), grind (arith, nat_tests)))

no_quote : (low high : ℕ) → (nat_le 128 low && nat_le low high) ≡ true → (low == 34) ≡ false
no_quote low high h = grind (arith, nat_tests)

-- a byte and what else ends a text of a kind, and would open quotes where none are open
abbrev Closing : (List ℕ → Type 0) → Type 0
Closing L = (b : ℕ) × ((w : List ℕ) × (L (b ∷ w) × (open_quotes None (b ∷ w) ≡ Some Whole)))

opened_behind : (b : ℕ) (w : List ℕ) → (b == 34) ≡ false → open_quotes None w ≡ Some Whole →
    open_quotes None (b ∷ w) ≡ Some Whole
opened_behind b w h e = ap (λ t. open_quotes (if t then Some Whole else None) w) h ∙ e

-- what a fault here is a front of
stopped : {A : Type 0} {L : List ℕ → Type 0} (u : Open) (kind : ParseKind) (s : Rest) → IfTooLarge kind ⊥ →
    IfExpected kind (λ x. x ≡ what.Text) → Closing L →
    Halts {A = A} what.Text (QuotesOpen u) L s (Err (fault kind s))
stopped {L = L} u kind s k e d = halted_at {K = QuotesOpen u} {L = L} what.Text kind s d.0 d.1.0 (u, refl) d.1.1.0
    (λ same. d.1.1.1) k e

-- texts, byte by byte
text_after : ℕ → List ℕ → ℕ → List ℕ → TextStep → Option (List ℕ × Rest)
text_after b t at bs step =
    quotes.after_text_step step b (at_place (at + 1) bs) t (λ next more. quotes.text_from next more (at + 1) bs)

text_ends : (u : Open) (b : ℕ) (t : List ℕ) → text_step u b ≡ TextEnd → IsUtf8 t → TextOf u t (b ∷ [])
unfolding text_after
text_ends u b t e h =
    λ z at. (
      (at + 1, t),
      ap (text_after b t at z) e ∙ ap (option_and_then (λ x. Some (x, at_place (at + 1) z)))
          (text_in-IsUtf8 t h),
    )

text_passes : (u next : Open) (b : ℕ) (t w : List ℕ) → text_step u b ≡ TextPass next → TextOf next t w →
    TextOf u t (b ∷ w)
unfolding text_after
text_passes u next b t w e f = λ z at. let n = f z (at + 1) in (n.0, ap (text_after b t at (w ++ z)) e ∙ n.1)

text_keeps : (u next : Open) (b : ℕ) (t w : List ℕ) → text_step u b ≡ TextKeep next → TextOf next (t ++ b ∷ []) w →
    TextOf u t (b ∷ w)
unfolding text_after
text_keeps u next b t w e f = λ z at. let n = f z (at + 1) in (n.0, ap (text_after b t at (w ++ z)) e ∙ n.1)

-- what ends a text
close_whole : (t : List ℕ) → IsUtf8 t → Closing (TextOf Whole t)
close_whole t h = (34, ([], (text_ends Whole 34 t refl h, refl)))

close_more : (n low high : ℕ) (t : List ℕ) → (nat_le 128 low && nat_le low high) ≡ true → IsCompleted (suc n) low high
    t →
    Closing (TextOf (More (suc n) low high) t)
close_more zero low high t h c =
    let l = low_within low high h in
    let more = close_whole (t ++ low ∷ []) (c low l.0 l.1.0) in (
      low,
      (
        more.0 ∷ more.1.0,
        (
          text_keeps (More 1 low high) Whole low t (more.0 ∷ more.1.0)
              (ap (λ b. if b then TextKeep (further 1) else TextBad) l.1.1) more.1.1.0,
          opened_behind low (more.0 ∷ more.1.0) (no_quote low high h) more.1.1.1,
        ),
      ),
    )
close_more (suc n) low high t h c =
    let l = low_within low high h in
    let more = close_more n 128 191 (t ++ low ∷ []) refl (c low l.0 l.1.0) in (
      low,
      (
        more.0 ∷ more.1.0,
        (
          text_keeps (More (suc (suc n)) low high) (More (suc n) 128 191) low t (more.0 ∷ more.1.0)
              (ap (λ b. if b then TextKeep (further (suc (suc n))) else TextBad) l.1.1
              ∙ ap (λ u. TextKeep u) (several_further n)) more.1.1.0,
          opened_behind low (more.0 ∷ more.1.0) (no_quote low high h) more.1.1.1,
        ),
      ),
    )

close_text : (u : Open) (t : List ℕ) → LeavesOpen u t → Closing (TextOf u t)
close_text Whole t h = close_whole t h
close_text Escape t h = let more = close_whole (t ++ 92 ∷ []) (kept_ascii 92 t (omega arith) h) in
    (92, (more.0 ∷ more.1.0, (text_keeps Escape Whole 92 t (more.0 ∷ more.1.0) refl more.1.1.0, more.1.1.1)))
close_text (More zero low high) t h = absurd h
close_text (More (suc n) low high) t h = close_more n low high t h.0 h.1

text_end_ends : (u : Open) (b : ℕ) (t : List ℕ) (at : ℕ) (bs : List ℕ) (o : Option (List ℕ)) → o ≡ Some t →
    TextOf u t (b ∷ []) → Halts what.Text (QuotesOpen u) (TextOf u t) (at_place at (b ∷ bs))
    (reading.text_end o (at_place at (b ∷ bs)) (at_place (at + 1) bs))
text_end_ends u b t at bs None e f = absurd (cc)
text_end_ends u b t at bs (Some x) e f =
    record { way = record { front = b ∷ []; bytes = refl; place = omega arith; is = f } }

text_step_ends : (u : Open) (b : ℕ) (t : List ℕ) (at : ℕ) (bs : List ℕ) (step : TextStep) → text_step u b ≡ step →
    LeavesOpen u t → StepOpens step b t →
    ((next : Open) (more : List ℕ) → LeavesOpen next more → Halts what.Text (QuotesOpen next) (TextOf next more)
    (at_place (at + 1) bs)
    (reading.text_from next more (at + 1) bs)) →
    Halts what.Text (QuotesOpen u) (TextOf u t) (at_place at (b ∷ bs)) (reading.after_text_step step b (at_place at
    (b ∷ bs))
    (at_place (at + 1) bs) t (λ next more. reading.text_from next more (at + 1) bs))
text_step_ends u b t at bs TextEnd e h k ih =
    text_end_ends u b t at bs (text_in t) (text_in-IsUtf8 t k) (text_ends u b t e k)
text_step_ends u b t at bs (TextPass next) e h k ih =
    let o = reading.text_from next t (at + 1) bs in
    halts_on {N = QuotesOpen u} {M = TextOf u t} (at_place at (b ∷ bs)) (at_place (at + 1) bs) (b ∷ []) o refl
    (omega arith)
    (ih next t k)
    (λ w k. quotes_on u next b w (ap open_behind e) k) (λ w f. text_passes u next b t w e f)
text_step_ends u b t at bs (TextKeep next) e h k ih =
    let o = reading.text_from next (t ++ b ∷ []) (at + 1) bs in
    halts_on {N = QuotesOpen u} {M = TextOf u t} (at_place at (b ∷ bs)) (at_place (at + 1) bs) (b ∷ []) o refl
    (omega arith)
    (ih next (t ++ b ∷ []) k)
    (λ w k. quotes_on u next b w (ap open_behind e) k) (λ w f. text_keeps u next b t w e f)
text_step_ends u b t at bs TextBad e h k ih = stopped u BadToken (at_place at (b ∷ bs)) tt tt (close_text u t h)

text_from_ends : (u : Open) (t : List ℕ) (at : ℕ) (bs : List ℕ) → LeavesOpen u t → Halts what.Text (QuotesOpen u)
    (TextOf u t) (at_place at bs)
    (reading.text_from u t at bs)
text_from_ends u t at [] h = stopped u (Expected what.Text) (at_place at []) tt refl (close_text u t h)
text_from_ends u t at (b ∷ bs) h =
    text_step_ends u b t at bs (text_step u b) refl h (text_step_opens u b t h)
    (λ next more k. text_from_ends next more (at + 1) bs k)

pub text_rest_ends : (q : Rest) → Halts what.Text (QuotesOpen Whole) TextRest q (reading.text q)
unfolding reading.text
text_rest_ends q = text_from_ends Whole [] q.at q.bytes IsUtf8-nil

-- patterns, byte by byte
pattern_after : ℕ → List (List ℕ) → List ℕ → ℕ → List ℕ → PatternStep → Option (List (List ℕ) × Rest)
pattern_after b ps t at bs step =
    quotes.after_pattern_step step b (at_place (at + 1) bs) ps t
    (λ next mark all more. quotes.pattern_from next mark all more (at + 1) bs)

pattern_ends : (u : Open) (mark : Sign) (ps : List (List ℕ)) (b : ℕ) (t : List ℕ) →
    pattern_step u mark b ≡ PatternEnd → IsUtf8 t → PatternOf u mark ps t (b ∷ [])
unfolding pattern_after
pattern_ends u mark ps b t e h =
    λ z at. (
      (at + 1, ps ++ t ∷ []),
      ap (pattern_after b ps t at z) e
          ∙ ap (λ o. quotes.with_piece o ps (λ all. Some (all, at_place (at + 1) z))) (text_in-IsUtf8 t h),
    )

pattern_cuts : (u : Open) (mark : Sign) (ps : List (List ℕ)) (b : ℕ) (t w : List ℕ) →
    pattern_step u mark b ≡ PatternCut → IsUtf8 t → PatternOf Whole Plain (ps ++ t ∷ []) [] w →
    PatternOf u mark ps t (b ∷ w)
unfolding pattern_after
pattern_cuts u mark ps b t w e h f = λ z at. let n = f z (at + 1) in (
  n.0,
  ap (pattern_after b ps t at (w ++ z)) e
      ∙ ap (λ o. quotes.with_piece o ps (λ all. quotes.pattern_from Whole Plain all [] (at + 1) (w ++ z)))
      (text_in-IsUtf8 t h) ∙ n.1,
)

pattern_passes : (u : Open) (mark : Sign) (ps : List (List ℕ)) (next : Open) (sign : Sign) (b : ℕ) (t w : List ℕ) →
    pattern_step u mark b ≡ PatternPass next sign → PatternOf next sign ps t w → PatternOf u mark ps t (b ∷ w)
unfolding pattern_after
pattern_passes u mark ps next sign b t w e f = λ z at. let n = f z (at + 1) in
    (n.0, ap (pattern_after b ps t at (w ++ z)) e ∙ n.1)

pattern_keeps : (u : Open) (mark : Sign) (ps : List (List ℕ)) (next : Open) (sign : Sign) (b : ℕ) (t w : List ℕ) →
    pattern_step u mark b ≡ PatternKeep next sign → PatternOf next sign ps (t ++ b ∷ []) w →
    PatternOf u mark ps t (b ∷ w)
unfolding pattern_after
pattern_keeps u mark ps next sign b t w e f = λ z at. let n = f z (at + 1) in
    (n.0, ap (pattern_after b ps t at (w ++ z)) e ∙ n.1)

-- what ends a pattern
close_plain : (ps : List (List ℕ)) (t : List ℕ) → IsUtf8 t → Closing (PatternOf Whole Plain ps t)
close_plain ps t h = (34, ([], (pattern_ends Whole Plain ps 34 t refl h, refl)))

close_kept : (u : Open) (mark : Sign) (b : ℕ) (ps : List (List ℕ)) (t : List ℕ) → (b == 34) ≡ false →
    pattern_step u mark b ≡ PatternKeep Whole Plain → IsUtf8 (t ++ b ∷ []) → Closing (PatternOf u mark ps t)
close_kept u mark b ps t n e h = let more = close_plain ps (t ++ b ∷ []) h in (
  b,
  (
    more.0 ∷ more.1.0,
    (
      pattern_keeps u mark ps Whole Plain b t (more.0 ∷ more.1.0) e more.1.1.0,
      opened_behind b (more.0 ∷ more.1.0) n more.1.1.1,
    ),
  ),
)

close_more_plain : (n low high : ℕ) (mark : Sign) (ps : List (List ℕ)) (t : List ℕ) →
    (nat_le 128 low && nat_le low high) ≡ true →
    IsCompleted (suc n) low high t → Closing (PatternOf (More (suc n) low high) mark ps t)
close_more_plain zero low high mark ps t h c =
    let l = low_within low high h in
    close_kept (More 1 low high) mark low ps t (no_quote low high h)
    (ap (λ b. if b then PatternKeep (further 1) Plain else PatternBad)
    l.1.1) (c low l.0 l.1.0)
close_more_plain (suc n) low high mark ps t h c =
    let l = low_within low high h in
    let more = close_more_plain n 128 191 Plain ps (t ++ low ∷ []) refl (c low l.0 l.1.0) in (
      low,
      (
        more.0 ∷ more.1.0,
        (
          pattern_keeps (More (suc (suc n)) low high) mark ps (More (suc n) 128 191) Plain low t (more.0 ∷ more.1.0)
              (ap (λ b. if b then PatternKeep (further (suc (suc n))) Plain else PatternBad) l.1.1
              ∙ ap (λ u. PatternKeep u Plain) (several_further n)) more.1.1.0,
          opened_behind low (more.0 ∷ more.1.0) (no_quote low high h) more.1.1.1,
        ),
      ),
    )

close_dot : (ps : List (List ℕ)) (t : List ℕ) → IsUtf8 t → Closing (PatternOf Whole Backslash ps t)
close_dot ps t h = close_kept Whole Backslash 46 ps t refl refl (kept_ascii 46 t (omega arith) h)

close_pattern : (u : Open) (mark : Sign) (ps : List (List ℕ)) (t : List ℕ) → LeavesSign u mark t →
    Closing (PatternOf u mark ps t)
close_pattern Whole Plain ps t h = close_plain ps t h
close_pattern Whole Dot ps t h = let more = close_plain (ps ++ t ∷ []) [] IsUtf8-nil in
    (42, (more.0 ∷ more.1.0, (pattern_cuts Whole Dot ps 42 t (more.0 ∷ more.1.0) refl h more.1.1.0, more.1.1.1)))
close_pattern Whole Backslash ps t h = close_dot ps t h
close_pattern Escape Plain ps t h = let more = close_dot ps t h in (
  92,
  (
    more.0 ∷ more.1.0,
    (
      pattern_passes Escape Plain ps Whole Backslash 92 t (more.0 ∷ more.1.0) refl more.1.1.0,
      more.1.1.1,
    ),
  ),
)
close_pattern Escape Dot ps t h = absurd h
close_pattern Escape Backslash ps t h = close_kept Escape Backslash 92 ps t refl refl (kept_ascii 92 t (omega arith) h)
close_pattern (More zero low high) mark ps t h = absurd h
close_pattern (More (suc n) low high) mark ps t h = close_more_plain n low high mark ps t h.0 h.1

piece_end_ends : (u : Open) (mark : Sign) (ps : List (List ℕ)) (t : List ℕ) (s : Rest) (go : List (List ℕ) →
    Outcome (List (List ℕ))) (o : Option (List ℕ)) → o ≡ Some t →
    Halts what.Text (QuotesOpen u) (PatternOf u mark ps t) s (go (ps ++ t ∷ [])) → Halts what.Text (QuotesOpen u)
    (PatternOf u mark ps t) s (reading.piece_end o s ps go)
piece_end_ends u mark ps t s go None e f = absurd (cc)
piece_end_ends u mark ps t s go (Some x) e f = let same : t ≡ x = cc in
    subst (λ p. Halts what.Text (QuotesOpen u) (PatternOf u mark ps t) s (go (ps ++ p ∷ []))) same f

pattern_step_ends : (u : Open) (mark : Sign) (ps : List (List ℕ)) (b : ℕ) (t : List ℕ) (at : ℕ) (bs : List ℕ)
    (step : PatternStep) → pattern_step u mark b ≡ step → SameStep step (text_step u b) → LeavesSign u mark t →
    PatternOpens step b t →
    ((next : Open) (sign : Sign) (all : List (List ℕ)) (more : List ℕ) → LeavesSign next sign more →
    Halts what.Text (QuotesOpen next) (PatternOf next sign all more) (at_place (at + 1) bs)
    (reading.pattern_from next sign all more (at + 1) bs)) →
    Halts what.Text (QuotesOpen u) (PatternOf u mark ps t) (at_place at (b ∷ bs)) (reading.after_pattern_step step b
    (at_place at (b ∷ bs))
    (at_place (at + 1) bs) ps t (λ next sign all more. reading.pattern_from next sign all more (at + 1) bs))
pattern_step_ends u mark ps b t at bs PatternEnd e q h k ih =
    piece_end_ends u mark ps t (at_place at (b ∷ bs)) (λ all. Ok (all, at_place (at + 1) bs)) (text_in t)
    (text_in-IsUtf8 t k)
    (record { way = record { front = b ∷ []; bytes = refl; place = omega arith; is = pattern_ends u mark ps b t e k } })
pattern_step_ends u mark ps b t at bs PatternCut e q h k ih =
    let o = reading.pattern_from Whole Plain (ps ++ t ∷ []) [] (at + 1) bs in
    piece_end_ends u mark ps t (at_place at (b ∷ bs)) (λ all. reading.pattern_from Whole Plain all [] (at + 1) bs)
    (text_in t) (text_in-IsUtf8 t k)
    (halts_on {N = QuotesOpen u} {M = PatternOf u mark ps t} (at_place at (b ∷ bs)) (at_place (at + 1) bs)
    (b ∷ []) o refl (omega arith)
    (ih Whole Plain (ps ++ t ∷ []) [] IsUtf8-nil) (λ w k. quotes_on u Whole b w q k)
    (λ w f. pattern_cuts u mark ps b t w e k f))
pattern_step_ends u mark ps b t at bs (PatternPass next sign) e q h k ih =
    let o = reading.pattern_from next sign ps t (at + 1) bs in
    halts_on {N = QuotesOpen u} {M = PatternOf u mark ps t} (at_place at (b ∷ bs)) (at_place (at + 1) bs)
    (b ∷ []) o refl (omega arith)
    (ih next sign ps t k)
    (λ w k. quotes_on u next b w q k) (λ w f. pattern_passes u mark ps next sign b t w e f)
pattern_step_ends u mark ps b t at bs (PatternKeep next sign) e q h k ih =
    let o = reading.pattern_from next sign ps (t ++ b ∷ []) (at + 1) bs in
    halts_on {N = QuotesOpen u} {M = PatternOf u mark ps t} (at_place at (b ∷ bs)) (at_place (at + 1) bs)
    (b ∷ []) o refl (omega arith)
    (ih next sign ps (t ++ b ∷ []) k) (λ w k. quotes_on u next b w q k)
    (λ w f. pattern_keeps u mark ps next sign b t w e f)
pattern_step_ends u mark ps b t at bs PatternUnfit e q h k ih =
    stopped u BadPattern (at_place at (b ∷ bs)) tt tt (close_pattern u mark ps t h)
pattern_step_ends u mark ps b t at bs PatternBad e q h k ih =
    stopped u BadToken (at_place at (b ∷ bs)) tt tt (close_pattern u mark ps t h)

pattern_from_ends : (u : Open) (mark : Sign) (ps : List (List ℕ)) (t : List ℕ) (at : ℕ) (bs : List ℕ) →
    LeavesSign u mark t → Halts what.Text (QuotesOpen u) (PatternOf u mark ps t) (at_place at bs)
    (reading.pattern_from u mark ps t at bs)
pattern_from_ends u mark ps t at [] h = stopped u (Expected what.Text) (at_place at []) tt refl
    (close_pattern u mark ps t h)
pattern_from_ends u mark ps t at (b ∷ bs) h =
    pattern_step_ends u mark ps b t at bs (pattern_step u mark b) refl (same_step u mark b t h) h
    (pattern_step_opens u mark b t h)
    (λ next sign all more k. pattern_from_ends next sign all more (at + 1) bs k)

pub pattern_rest_ends : (q : Rest) → Halts what.Text (QuotesOpen Whole) PatternRest q (reading.pattern q)
unfolding reading.pattern
pattern_rest_ends q = pattern_from_ends Whole Plain [] [] q.at q.bytes IsUtf8-nil

-- `"` closes both
pub no_text : TextRest (34 ∷ [])
no_text = text_ends Whole 34 [] refl IsUtf8-nil

pub no_pattern : PatternRest (34 ∷ [])
no_pattern = pattern_ends Whole Plain [] 34 [] refl IsUtf8-nil
