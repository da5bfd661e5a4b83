-- Texts in quotes, one byte more.
use Rattle.std.proofs.Common.{◌≡◌, ℕ, ◌<◌, false, List, [], ◌∷◌, length, refl, arith}
use Rattle.std.proofs.lemmas.Bool.{false≢true}
use Rattle.std.proofs.Common.{sym}
use Rattle.mql_ast.specs.Tokens.{Rest, first_of, behind_first, is_none_left, is_end, head, behind}
use Rattle.mql_ast.specs.Quotes.{Open, text_step, Sign, pattern_step}
use Rattle.mql_parse.specs.TokenReading.{text_from, after_text_step, pattern_from, after_pattern_step}

none_shorter : (at : ℕ) (bs : List ℕ) → is_none_left bs ≡ false → length (behind_first at bs).bytes < length bs
none_shorter at [] h = absurd (false≢true (sym h))
none_shorter at (b ∷ bs) h = omega arith

pub end_shorter : (s : Rest) → is_end s ≡ false → length (behind s).bytes < length s.bytes
end_shorter s h = none_shorter s.at s.bytes h

text_goes_on : (unfinished : Open) (content : List ℕ) (at : ℕ) (bs : List ℕ) → is_none_left bs ≡ false →
    text_from unfinished content at bs ≡ after_text_step (text_step unfinished (first_of bs)) (first_of bs)
    (record { at = at; bytes = bs }) (behind_first at bs) content
    (λ next more. text_from next more (behind_first at bs).at (behind_first at bs).bytes)
text_goes_on unfinished content at [] h = absurd (false≢true (sym h))
text_goes_on unfinished content at (b ∷ bs) h = refl

pub text_on : (unfinished : Open) (content : List ℕ) (s : Rest) → is_end s ≡ false →
    text_from unfinished content s.at s.bytes ≡ after_text_step (text_step unfinished (head s)) (head s) s (behind s)
    content (λ next more. text_from next more (behind s).at (behind s).bytes)
text_on unfinished content s h = text_goes_on unfinished content s.at s.bytes h

pattern_goes_on : (unfinished : Open) (mark : Sign) (pieces : List (List ℕ)) (content : List ℕ) (at : ℕ)
    (bs : List ℕ) → is_none_left bs ≡ false →
    pattern_from unfinished mark pieces content at bs ≡ after_pattern_step
    (pattern_step unfinished mark (first_of bs)) (first_of bs) (record { at = at; bytes = bs })
    (behind_first at bs) pieces content (λ next sign all more. pattern_from next sign all more
    (behind_first at bs).at (behind_first at bs).bytes)
pattern_goes_on unfinished mark pieces content at [] h = absurd (false≢true (sym h))
pattern_goes_on unfinished mark pieces content at (b ∷ bs) h = refl

pub pattern_on : (unfinished : Open) (mark : Sign) (pieces : List (List ℕ)) (content : List ℕ) (s : Rest) →
    is_end s ≡ false →
    pattern_from unfinished mark pieces content s.at s.bytes ≡ after_pattern_step
    (pattern_step unfinished mark (head s)) (head s) s (behind s) pieces content
    (λ next sign all more. pattern_from next sign all more (behind s).at (behind s).bytes)
pattern_on unfinished mark pieces content s h = pattern_goes_on unfinished mark pieces content s.at s.bytes h

-- what a byte more of a text and of a pattern is, and that less is left behind it
pub ruleset texts = (text_on, end_shorter)

pub ruleset patterns = (pattern_on, end_shorter)
