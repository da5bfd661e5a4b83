-- What `escaped` does with one character.
use Rattle.std.proofs.Common.{◌≡◌, ℕ, ◌+◌, ◌/◌, ◌%◌, ◌≤◌, Bool, true, false, cond, ltb, List, [], ◌∷◌, ◌++◌, refl, sym}
use Rattle.std.proofs.Common.{ap, ◌∙◌, arith, if◌then◌else◌, append_assoc, ltb-false}
use Rattle.std.proofs.Math.Utf8.{encode}
use Rattle.std.proofs.lemmas.Bool.Decides.{nat_tests}
use Rattle.mql_ast.specs.Printed.{escaped_text, is_text_mark, is_pattern_mark}
use Rattle.mql_ast.specs.Marks.{marks_of}
use Rattle.mql_ast.specs.declared.printing.escapes.Marks.{Marks}
use Rattle.mql_ast.specs.declared.printing.escapes.Marks.TheVariants as marks

-- a backslash for a sign that is a mark
abbrev pub backslash : (ℕ → Bool) → ℕ → List ℕ
backslash marks c = if marks c then 92 ∷ [] else []

text_marks_are_ascii : (b : ℕ) → 128 ≤ b → is_text_mark b ≡ false
text_marks_are_ascii b high = grind (arith, nat_tests)

pattern_marks_are_ascii : (b : ℕ) → 128 ≤ b → is_pattern_mark b ≡ false
pattern_marks_are_ascii b high = grind (arith, nat_tests)

marks_are_ascii : (m : Marks) (b : ℕ) → 128 ≤ b → marks_of m b ≡ false
marks_are_ascii marks.Text = text_marks_are_ascii
marks_are_ascii marks.Pattern = pattern_marks_are_ascii

module _ (marks : ℕ → Bool) (ascii : (b : ℕ) → 128 ≤ b → marks b ≡ false) where
  passes : (b : ℕ) (bs : List ℕ) → 128 ≤ b → escaped_text marks (b ∷ bs) ≡ b ∷ escaped_text marks bs
  passes b bs high = rw (ascii b high) refl

  two : (a b : ℕ) (bs : List ℕ) → 128 ≤ a → 128 ≤ b → escaped_text marks (a ∷ b ∷ bs) ≡ a ∷ b ∷ escaped_text marks bs
  two a b bs high higher = passes a (b ∷ bs) high ∙ ap (λ t. a ∷ t) (passes b bs higher)

  sign_splits : (b : ℕ) (bs : List ℕ) → escaped_text marks (b ∷ bs) ≡ backslash marks b ++ (b ∷ escaped_text marks bs)
  sign_splits b bs = elim (marks b) as (λ m. (if m then 92 ∷ b ∷ [] else b ∷ []) ++ escaped_text marks bs
      ≡ (if m then 92 ∷ [] else []) ++ (b ∷ escaped_text marks bs)) [ true ↦ refl | false ↦ refl ]

  high_passes : (x y : Bool) (c : ℕ) (rest : List ℕ) →
      let bytes = cond x ((192 + c / 64) ∷ (128 + c % 64) ∷ [])
      (cond y ((224 + c / 4096) ∷ (128 + (c / 64) % 64) ∷ (128 + c % 64) ∷ [])
      ((240 + c / 262144) ∷ (128 + (c / 4096) % 64) ∷ (128 + (c / 64) % 64) ∷ (128 + c % 64) ∷ [])) in
      escaped_text marks (bytes ++ rest) ≡ bytes ++ escaped_text marks rest
  high_passes true y c rest = two (192 + c / 64) (128 + c % 64) rest (omega arith) (omega arith)
  high_passes false true c rest = passes (224 + c / 4096) ((128 + (c / 64) % 64) ∷ (128 + c % 64) ∷ rest) (omega arith)
      ∙ ap (λ t. (224 + c / 4096) ∷ t) (two (128 + (c / 64) % 64) (128 + c % 64) rest (omega arith) (omega arith))
  high_passes false false c rest =
      two (240 + c / 262144) (128 + (c / 4096) % 64) ((128 + (c / 64) % 64) ∷ (128 + c % 64) ∷ rest) (omega arith)
      (omega arith)
      ∙ ap (λ t. (240 + c / 262144) ∷ (128 + (c / 4096) % 64) ∷ t) (two (128 + (c / 64) % 64) (128 + c % 64) rest
      (omega arith) (omega arith))

  by_size : (small : Bool) (bytes : List ℕ) (c : ℕ) (rest : List ℕ) → (small ≡ false → 128 ≤ c)
      → escaped_text marks (bytes ++ rest) ≡ bytes ++ escaped_text marks rest →
      escaped_text marks (cond small (c ∷ []) bytes ++ rest) ≡ backslash marks c
      ++ (cond small (c ∷ []) bytes ++ escaped_text marks rest)
  by_size true bytes c rest high passed = sign_splits c rest
  by_size false bytes c rest high passed = passed
      ∙ sym (ap (λ m. (if m then 92 ∷ [] else []) ++ (bytes ++ escaped_text marks rest)) (ascii c (high refl)))

  pub character_splits : (c : ℕ) (rest : List ℕ) → escaped_text marks (encode c ++ rest) ≡ backslash marks c
      ++ (encode c ++ escaped_text marks rest)
  unfolding encode
  character_splits c rest = by_size (ltb c 128) _ c rest (ltb-false c 128) (high_passes (ltb c 2048) (ltb c 65536) c
      rest)

-- what was written goes on with a character that was read
pub escapes_on : (m : Marks) (out out' rest rest' whole : List ℕ) (c : ℕ) →
    rest ≡ encode c ++ rest' → out' ≡ out ++ (backslash (marks_of m) c ++ encode c) → out
    ++ escaped_text (marks_of m) rest
    ≡ whole → out' ++ escaped_text (marks_of m) rest' ≡ whole
escapes_on m out out' rest rest' whole c read written kept =
    ap (λ t. t ++ escaped_text (marks_of m) rest') written ∙ append_assoc out _ _ ∙ ap (λ t. out ++ t)
    (append_assoc (backslash (marks_of m) c) _ _ ∙ sym (character_splits (marks_of m) (marks_are_ascii m) c rest'))
    ∙ ap (λ t. out ++ escaped_text (marks_of m) t) (sym read) ∙ kept
