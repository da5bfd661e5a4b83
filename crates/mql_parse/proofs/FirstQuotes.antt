-- Texts in quotes and patterns: one that is open is refused at the end of a line, and behind one all is as before.
use Rattle.std.proofs.Common.{◌≡◌, inl, inr, ℕ, ◌+◌, ◌<◌, true, false, ◌&&◌, nat_le, List, [], ◌∷◌, ◌++◌, refl, sym}
use Rattle.std.proofs.Common.{ap, subst, arith, if◌then◌else◌, Option, Some, None, Ok}
use Rattle.std.proofs.lemmas.Bool.Decides.{nat_tests}
use Rattle.mon_value.specs.Values.{text_in}
use Rattle.mql_ast.specs.Tokens.{Rest}
use Rattle.mql_ast.specs.Quotes.{Open, Whole, Escape, More, further, TextStep, TextEnd, TextPass, TextKeep, TextBad}
use Rattle.mql_ast.specs.Quotes.{text_step, Sign, Plain, Dot, Backslash, PatternStep, PatternEnd, PatternCut}
use Rattle.mql_ast.specs.Quotes.{PatternPass, PatternKeep, PatternUnfit, PatternBad, pattern_step}
use Rattle.mql_parse.specs.Outcomes.{Outcome}
use Rattle.mql_parse.specs.TokenReading as reading
use Rattle.mql_parse.specs.Steadiness.{here, Reaches}
use Rattle.mql_parse.proofs.TokenSteady.{text_from_steady, pattern_from_steady}
use Rattle.mql_parse.proofs.Firsts.{Spot, instead, Splits, Failed, MeetsOutcome, Meets, NoMore, beyond_meets}
use Rattle.mql_parse.proofs.FollowQuotes.{High, StepHigh, text_step_high, SignHigh, pattern_step_high}
use Rattle.mql_parse.proofs.FirstNumbers.{meets_bytes}

-- texts
text_end_spot : (x : Spot) (o : Option (List ℕ)) (s rest : Rest) (p : Outcome (List ℕ)) → x.at < rest.at →
    MeetsOutcome x here NoMore (reading.text_end o s rest) p
text_end_spot x None s rest p h = λ e w k. absurd (cc)
text_end_spot x (Some text) s rest p h = λ l. absurd (omega (arith, h, l))

text_step_spot : (x : Spot) (step : TextStep) (b : ℕ) (s rest : Rest) (content : List ℕ)
    (go : Open → List ℕ → Outcome (List ℕ)) (p : Outcome (List ℕ)) → x.at < rest.at →
    ((next : Open) (more : List ℕ) → Reaches here (x.at + 1) (go next more)) →
    MeetsOutcome x here NoMore (reading.after_text_step step b s rest content go) p
text_step_spot x TextEnd b s rest content go p h g = text_end_spot x (text_in content) s rest p h
text_step_spot x (TextPass next) b s rest content go p h g =
    beyond_meets x here NoMore (x.at + 1) (go next content) p (g next content) (omega arith)
text_step_spot x (TextKeep next) b s rest content go p h g =
    beyond_meets x here NoMore (x.at + 1) (go next (content ++ b ∷ [])) p (g next (content ++ b ∷ [])) (omega arith)
text_step_spot x TextBad b s rest content go p h g = λ e w k. absurd (cc)

-- what is open, and what was read
abbrev TextState : Type 0
TextState = (state : Open × List ℕ) × High state.0

abbrev text_reading : TextState → ℕ → List ℕ → Outcome (List ℕ)
text_reading state at bs = reading.text_from state.0.0 state.0.1 at bs

no_line : (low : ℕ) → nat_le 58 low ≡ true → nat_le low 10 ≡ false
no_line low h = grind (arith, nat_tests)

text_at_line : (u : Open) (content : List ℕ) (at : ℕ) (bs : List ℕ) → High u →
    Failed (reading.text_from u content at (10 ∷ bs))
text_at_line Whole content at bs h = tt
text_at_line Escape content at bs h = tt
text_at_line (More left low high) content at bs h =
    subst (λ t. Failed (reading.after_text_step (if t && nat_le 10 high then TextKeep (further left) else TextBad) 10
    (record { at = at; bytes = 10 ∷ bs }) (record { at = at + 1; bytes = bs }) content
    (λ next more. reading.text_from next more (at + 1) bs))) (sym (no_line low h)) tt

text_spot : (x : Spot) (state : TextState) (at : ℕ) (bs : List ℕ) → at ≡ x.at →
    MeetsOutcome x here NoMore (text_reading state at bs) (text_reading state at (instead x))
text_spot x state at [] e = λ d w k. inr (text_at_line state.0.0 state.0.1 at (x.byte ∷ x.more) state.1)
text_spot x state at (b ∷ bs) e =
    text_step_spot x (text_step state.0.0 b) b (record { at = at; bytes = b ∷ bs }) (record { at = at + 1; bytes = bs })
    state.0.1 (λ next more. reading.text_from next more (at + 1) bs) (text_reading state at (instead x))
    (omega (arith, e))
    (λ next more. subst (λ n. Reaches here n (reading.text_from next more (at + 1) bs)) (ap (λ n. n + 1) e)
    ((text_from_steady (next, more)).reaches (record { at = at + 1; bytes = bs })))

text_end_same : (x : Spot) (o : Option (List ℕ)) (s s' rest rest' : Rest) → Splits x rest rest' →
    MeetsOutcome x here NoMore (reading.text_end o s rest) (reading.text_end o s' rest')
text_end_same x None s s' rest rest' c = λ e w k. absurd (cc)
text_end_same x (Some text) s s' rest rest' c = λ l. inl (rest', (refl, c))

text_step_same : (x : Spot) (step : TextStep) → StepHigh step → (b : ℕ) (s s' rest rest' : Rest) (content : List ℕ)
    (go go' : Open → List ℕ → Outcome (List ℕ)) → Splits x rest rest' →
    ((next : Open) (more : List ℕ) → High next → MeetsOutcome x here NoMore (go next more) (go' next more)) →
    MeetsOutcome x here NoMore (reading.after_text_step step b s rest content go)
    (reading.after_text_step step b s' rest' content go')
text_step_same x TextEnd h b s s' rest rest' content go go' c ih = text_end_same x (text_in content) s s' rest rest' c
text_step_same x (TextPass next) h b s s' rest rest' content go go' c ih = ih next content h
text_step_same x (TextKeep next) h b s s' rest rest' content go go' c ih = ih next (content ++ b ∷ []) h
text_step_same x TextBad h b s s' rest rest' content go go' c ih = λ e w k. absurd (cc)

pub meets_text : (x : Spot) → Meets x here here NoMore reading.text
unfolding reading.text
meets_text x = meets_bytes x text_reading (λ state. text_from_steady state.0) (text_spot x)
    (λ state at b bs cs c d ih. text_step_same x (text_step state.0.0 b) (text_step_high state.0.0 b) b
    _ _ _ _ state.0.1
    _ _ d (λ next more h. ih ((next, more), h))) ((Whole, []), tt)

-- patterns
piece_spot : (x : Spot) (o : Option (List ℕ)) (s : Rest) (pieces : List (List ℕ))
    (go : List (List ℕ) → Outcome (List (List ℕ))) (p : Outcome (List (List ℕ))) →
    ((all : List (List ℕ)) → Reaches here (x.at + 1) (go all)) →
    MeetsOutcome x here NoMore (reading.piece_end o s pieces go) p
piece_spot x None s pieces go p g = λ e w k. absurd (cc)
piece_spot x (Some piece) s pieces go p g =
    beyond_meets x here NoMore (x.at + 1) (go (pieces ++ piece ∷ [])) p (g (pieces ++ piece ∷ [])) (omega arith)

pattern_step_spot : (x : Spot) (step : PatternStep) (b : ℕ) (s rest : Rest) (pieces : List (List ℕ))
    (content : List ℕ) (go : Open → Sign → List (List ℕ) → List ℕ → Outcome (List (List ℕ)))
    (p : Outcome (List (List ℕ))) → x.at < rest.at →
    ((next : Open) (mark : Sign) (all : List (List ℕ)) (more : List ℕ) → Reaches here (x.at + 1)
    (go next mark all more))
    → MeetsOutcome x here NoMore (reading.after_pattern_step step b s rest pieces content go) p
pattern_step_spot x PatternEnd b s rest pieces content go p h g =
    piece_spot x (text_in content) s pieces (λ all. Ok (all, rest)) p (λ all. omega (arith, h))
pattern_step_spot x PatternCut b s rest pieces content go p h g =
    piece_spot x (text_in content) s pieces (λ all. go Whole Plain all []) p (λ all. g Whole Plain all [])
pattern_step_spot x (PatternPass next mark) b s rest pieces content go p h g =
    beyond_meets x here NoMore (x.at + 1) _ p (g next mark pieces content) (omega arith)
pattern_step_spot x (PatternKeep next mark) b s rest pieces content go p h g =
    beyond_meets x here NoMore (x.at + 1) _ p (g next mark pieces (content ++ b ∷ [])) (omega arith)
pattern_step_spot x PatternUnfit b s rest pieces content go p h g = λ e w k. absurd (cc)
pattern_step_spot x PatternBad b s rest pieces content go p h g = λ e w k. absurd (cc)

abbrev PatternState : Type 0
PatternState = (state : Open × Sign × List (List ℕ) × List ℕ) × High state.0

abbrev pattern_reading : PatternState → ℕ → List ℕ → Outcome (List (List ℕ))
pattern_reading state at bs = reading.pattern_from state.0.0 state.0.1 state.0.2 state.0.3 at bs

pattern_at_line : (u : Open) (mark : Sign) (pieces : List (List ℕ)) (content : List ℕ) (at : ℕ) (bs : List ℕ) → High u →
    Failed (reading.pattern_from u mark pieces content at (10 ∷ bs))
pattern_at_line Whole Plain pieces content at bs h = tt
pattern_at_line Whole Dot pieces content at bs h = tt
pattern_at_line Whole Backslash pieces content at bs h = tt
pattern_at_line Escape Plain pieces content at bs h = tt
pattern_at_line Escape Dot pieces content at bs h = tt
pattern_at_line Escape Backslash pieces content at bs h = tt
pattern_at_line (More left low high) mark pieces content at bs h =
    subst (λ t. Failed (reading.after_pattern_step (if t && nat_le 10 high then PatternKeep (further left) Plain
    else PatternBad) 10 (record { at = at; bytes = 10 ∷ bs }) (record { at = at + 1; bytes = bs }) pieces content
    (λ next sign all more. reading.pattern_from next sign all more (at + 1) bs))) (sym (no_line low h)) tt

pattern_spot : (x : Spot) (state : PatternState) (at : ℕ) (bs : List ℕ) → at ≡ x.at →
    MeetsOutcome x here NoMore (pattern_reading state at bs) (pattern_reading state at (instead x))
pattern_spot x state at [] e =
    λ d w k. inr (pattern_at_line state.0.0 state.0.1 state.0.2 state.0.3 at (x.byte ∷ x.more) state.1)
pattern_spot x state at (b ∷ bs) e =
    pattern_step_spot x (pattern_step state.0.0 state.0.1 b) b (record { at = at; bytes = b ∷ bs })
    (record { at = at + 1; bytes = bs }) state.0.2 state.0.3
    (λ next sign all more. reading.pattern_from next sign all more (at + 1) bs)
    (pattern_reading state at (instead x)) (omega (arith, e))
    (λ next mark all more. subst (λ n. Reaches here n (reading.pattern_from next mark all more (at + 1) bs))
    (ap (λ n. n + 1) e)
    ((pattern_from_steady (next, mark, all, more)).reaches (record { at = at + 1; bytes = bs })))

piece_same : (x : Spot) (o : Option (List ℕ)) (s s' : Rest) (pieces : List (List ℕ))
    (go go' : List (List ℕ) → Outcome (List (List ℕ))) →
    ((all : List (List ℕ)) → MeetsOutcome x here NoMore (go all) (go' all)) →
    MeetsOutcome x here NoMore (reading.piece_end o s pieces go) (reading.piece_end o s' pieces go')
piece_same x None s s' pieces go go' ih = λ e w k. absurd (cc)
piece_same x (Some piece) s s' pieces go go' ih = ih (pieces ++ piece ∷ [])

pattern_step_same : (x : Spot) (step : PatternStep) → SignHigh step → (b : ℕ) (s s' rest rest' : Rest)
    (pieces : List (List ℕ))
    (content : List ℕ) (go go' : Open → Sign → List (List ℕ) → List ℕ → Outcome (List (List ℕ))) →
    Splits x rest rest' →
    ((next : Open) (mark : Sign) (all : List (List ℕ)) (more : List ℕ) → High next →
    MeetsOutcome x here NoMore (go next mark all more) (go' next mark all more)) →
    MeetsOutcome x here NoMore (reading.after_pattern_step step b s rest pieces content go)
    (reading.after_pattern_step step b s' rest' pieces content go')
pattern_step_same x PatternEnd h b s s' rest rest' pieces content go go' c ih =
    piece_same x (text_in content) s s' pieces (λ all. Ok (all, rest)) (λ all. Ok (all, rest'))
    (λ all l. inl (rest', (refl, c)))
pattern_step_same x PatternCut h b s s' rest rest' pieces content go go' c ih =
    piece_same x (text_in content) s s' pieces (λ all. go Whole Plain all []) (λ all. go' Whole Plain all [])
    (λ all. ih Whole Plain all [] tt)
pattern_step_same x (PatternPass next mark) h b s s' rest rest' pieces content go go' c ih = ih next mark pieces
    content h
pattern_step_same x (PatternKeep next mark) h b s s' rest rest' pieces content go go' c ih =
    ih next mark pieces (content ++ b ∷ []) h
pattern_step_same x PatternUnfit h b s s' rest rest' pieces content go go' c ih = λ e w k. absurd (cc)
pattern_step_same x PatternBad h b s s' rest rest' pieces content go go' c ih = λ e w k. absurd (cc)

pub meets_pattern : (x : Spot) → Meets x here here NoMore reading.pattern
unfolding reading.pattern
meets_pattern x = meets_bytes x pattern_reading (λ state. pattern_from_steady state.0) (pattern_spot x)
    (λ state at b bs cs c d ih. pattern_step_same x (pattern_step state.0.0 state.0.1 b)
    (pattern_step_high state.0.0 state.0.1 b) b _ _ _ _ state.0.2 state.0.3 _ _ d
    (λ next mark all more h. ih ((next, mark, all, more), h))) ((Whole, Plain, [], []), tt)
