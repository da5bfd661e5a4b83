-- A pattern's excerpts are among those of every text that it matches.
use Rattle.std.proofs.Common.{◌≡◌, ℕ, Bool, true, ◌||◌, List, [], ◌∷◌, ◌++◌, take, drop, length, refl, sym, ap, ◌∙◌}
use Rattle.std.proofs.Common.{subst, inl, inr}
use Rattle.std.specs.Prelude.{nat_eq}
use Rattle.std.specs.List.{flat_map, list_all, list_any, starts_with}
use Rattle.std.proofs.lemmas.Bool.{and_parts, and_from, or_cases, or_left, or_right, false≢true}
use Rattle.std.proofs.lemmas.List.{take-append-drop, append_assoc}
use Rattle.std.proofs.lemmas.List.Folds.{list_all-append}
use Rattle.mon_value.proofs.SameLemmas.{same_text-Decides, same_text-itself}
use Rattle.mon_value.specs.Same.{IsMatch, last_piece, next_piece, holds_behind, is_match, same_text}
use Rattle.mon_hints.specs.Hints.{are_among, back, with_front_marks, with_back_marks, front, pattern_excerpts}
use Rattle.mon_hints.specs.Hints.{text_excerpts, windows}
use Rattle.mon_hints.proofs.WindowLemmas.{Pass, pass_back, pass_front, pass_tail}

-- every excerpt passes, of pieces of which the first has these marks in front of it
abbrev pub PiecesPass : (List ℕ → Bool) → List ℕ → List (List ℕ) → Type 0
PiecesPass test marks pieces = list_all test (flat_map windows (with_back_marks (with_front_marks marks pieces) back))
    ≡ true

-- every excerpt passes, of a text with these marks in front of it
abbrev pub TextPasses : (List ℕ → Bool) → List ℕ → List ℕ → Type 0
TextPasses test marks text = Pass test (marks ++ text ++ back)

joined : (test : List ℕ → Bool) (some others : List (List ℕ)) → list_all test some ≡ true → list_all test others ≡ true
    →
    list_all test (some ++ others) ≡ true
joined test some others e f =
    list_all-append test some others ∙ and_from (list_all test some) (list_all test others) e f

-- the last piece
alone : (test : List ℕ → Bool) (marks piece : List ℕ) → TextPasses test marks piece → PiecesPass test marks (piece ∷ [])
alone test marks piece h = joined test (windows (marks ++ piece ++ back)) [] h refl

-- a piece in front of others, and what stands behind it in the text
regrouped : (marks piece rest : List ℕ) → marks ++ (piece ++ rest) ++ back ≡ (marks ++ piece) ++ (rest ++ back)
regrouped marks piece rest =
    ap (λ t. t ++ back) (sym (append_assoc marks piece rest)) ∙ append_assoc (marks ++ piece) rest back

in_front : (test : List ℕ → Bool) (marks piece next : List ℕ) (pieces : List (List ℕ)) (rest : List ℕ) →
    TextPasses test marks (piece ++ rest) → PiecesPass test [] (next ∷ pieces) → PiecesPass test marks
    (piece ∷ next ∷ pieces)
in_front test marks piece next pieces rest h later =
    joined test (windows (marks ++ piece)) (flat_map windows (with_back_marks (next ∷ pieces) back))
    (pass_front test (marks ++ piece) (rest ++ back) (subst (Pass test) (regrouped marks piece rest) h)) later

behind : (test : List ℕ → Bool) (marks piece rest : List ℕ) → TextPasses test marks (piece ++ rest) → TextPasses test
    [] rest
behind test marks piece rest h =
    pass_back test (marks ++ piece) (rest ++ back) (subst (Pass test) (regrouped marks piece rest) h)

-- ---- from the relation

no_match : (text : List ℕ) → IsMatch [] text → ⊥
no_match text m = elim m [ ]

next_passes : (test : List ℕ → Bool) (marks piece between rest : List ℕ) (pieces : List (List ℕ)) → IsMatch pieces rest
    →
    (TextPasses test [] rest → PiecesPass test [] pieces) → TextPasses test marks (piece ++ between ++ rest) →
    PiecesPass test marks (piece ∷ pieces)
next_passes test marks piece between rest [] m later h = absurd (no_match rest m)
next_passes test marks piece between rest (next ∷ pieces) m later h =
    let whole : TextPasses test marks (piece ++ (between ++ rest)) =
    subst (TextPasses test marks) (append_assoc piece between rest) h in
    in_front test marks piece next pieces (between ++ rest) whole
    (later (behind test [] between rest (behind test marks piece (between ++ rest) whole)))

pub relation_passes : (test : List ℕ → Bool) (marks : List ℕ) (pieces : List (List ℕ)) (text : List ℕ)
    → IsMatch pieces text →
    TextPasses test marks text → PiecesPass test marks pieces
relation_passes test marks _ _ (last_piece {piece}) h = alone test marks piece h
relation_passes test marks _ _ (next_piece {piece} {rest} {pieces} between m) h =
    next_passes test marks piece between rest pieces m (relation_passes test [] pieces rest m) h

-- ---- from the test

-- what follows of a text that passes and is met, follows where one is met behind some front
some_behind : (test met : List ℕ → Bool) (Claim : Type 0) → ((text : List ℕ) → met text ≡ true → TextPasses test []
    text → Claim) →
    (text : List ℕ) → holds_behind met text ≡ true → TextPasses test [] text → Claim
some_behind test met Claim follows [] e h = follows [] e h
some_behind test met Claim follows (byte ∷ bytes) e h =
    elim (or_cases (met (byte ∷ bytes)) (holds_behind met bytes) e) [
      | inl now ↦ follows (byte ∷ bytes) now h
      | inr later ↦ some_behind test met Claim follows bytes later (pass_tail test byte (bytes ++ back) h)
    ]

pub test_passes : (test : List ℕ → Bool) (marks : List ℕ) (pieces : List (List ℕ)) (text : List ℕ) → is_match pieces
    text ≡ true →
    TextPasses test marks text → PiecesPass test marks pieces
test_passes test marks [] text e h = absurd (false≢true e)
test_passes test marks (piece ∷ []) text e h =
    alone test marks piece (subst (TextPasses test marks) (sym ((same_text-Decides piece text).0 e)) h)
test_passes test marks (piece ∷ next ∷ pieces) text e h =
    let rest = drop (length piece) text in
    let parts = and_parts (starts_with nat_eq text piece) (holds_behind (is_match (next ∷ pieces)) rest) e in
    let begins : piece ≡ take (length piece) text = (same_text-Decides piece (take (length piece) text)).0 parts.0 in
    let whole : piece ++ rest ≡ text = ap (λ t. t ++ rest) begins ∙ take-append-drop (length piece) text in
    let passing : TextPasses test marks (piece ++ rest) = subst (TextPasses test marks) (sym whole) h in
    in_front test marks piece next pieces rest passing
    (some_behind test (is_match (next ∷ pieces)) (PiecesPass test [] (next ∷ pieces))
    (test_passes test [] (next ∷ pieces)) rest parts.1 (behind test marks piece rest passing))

-- ---- all are among themselves

-- a list of which every item passes where more are given
among_more : (some more : List (List ℕ)) (first : List ℕ) → are_among some more ≡ true → are_among some (first ∷ more)
    ≡ true
among_more [] more first e = refl
among_more (excerpt ∷ some) more first e =
    let parts = and_parts (list_any (same_text excerpt) more) (are_among some more) e in
    and_from (same_text excerpt first || list_any (same_text excerpt) more) (are_among some (first ∷ more))
    (or_right (same_text excerpt first) (list_any (same_text excerpt) more) parts.0)
    (among_more some more first parts.1)

among_all : (excerpts : List (List ℕ)) → are_among excerpts excerpts ≡ true
among_all [] = refl
among_all (excerpt ∷ excerpts) =
    and_from (same_text excerpt excerpt || list_any (same_text excerpt) excerpts)
    (are_among excerpts (excerpt ∷ excerpts))
    (or_left (same_text excerpt excerpt) (list_any (same_text excerpt) excerpts) (same_text-itself excerpt))
    (among_more excerpts excerpts excerpt (among_all excerpts))

pub are_in_text : (pieces : List (List ℕ)) (text : List ℕ) → IsMatch pieces text →
    are_among (pattern_excerpts pieces) (text_excerpts text) ≡ true
are_in_text pieces text m =
    relation_passes (λ excerpt. list_any (same_text excerpt) (text_excerpts text)) front pieces text m
    (among_all (text_excerpts text))
