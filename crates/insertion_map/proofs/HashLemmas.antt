-- The words of a write, one after another.
use Rattle.std.proofs.Common.{◌≡◌, ℕ, zero, suc, ◌≤◌, ◌<◌, cond, List, [], ◌∷◌, drop, length}
use Rattle.std.proofs.Common.{refl, sym, ap, ◌∙◌, arith, lt-ltb, le-ltb}
use Rattle.std.proofs.lemmas.List.{length-drop}
use Rattle.std.specs.List.{fold}
use Rattle.insertion_map.specs.WordHasher.{absorb, first_word, last_word, last_words, words, write}
use Rattle.insertion_map.specs.declared.hash.WordHasher.{WordHasher}

-- what is left of a write comes to the whole
pub record AreLeft (before : WordHasher) (bytes : List ℕ) (now : WordHasher) (rest : List ℕ) : Type 0 where
  pub n : ℕ
  pub enough : length rest ≤ n
  pub whole : fold absorb now (words n rest) ≡ fold absorb before (words (length bytes) bytes)

pub all_left : (before : WordHasher) (bytes : List ℕ) → AreLeft before bytes before bytes
all_left before bytes = record { n = length bytes; enough = omega arith; whole = refl }

words_long : (n : ℕ) (rest : List ℕ) → 8 ≤ length rest → words (suc n) rest ≡ first_word rest ∷ words n (drop 8 rest)
unfolding words
words_long n rest long =
    ap (λ b. cond b (last_words rest) (first_word rest ∷ words n (drop 8 rest))) (le-ltb _ _ long)

words_short : (n : ℕ) (rest : List ℕ) → length rest < 8 → words n rest ≡ last_words rest
unfolding words
words_short zero rest short = refl
words_short (suc n) rest short =
    ap (λ b. cond b (last_words rest) (first_word rest ∷ words n (drop 8 rest))) (lt-ltb _ _ short)

pub less_left : (before : WordHasher) (bytes : List ℕ) (now next : WordHasher) (rest : List ℕ) → 8 ≤ length rest
    → next ≡ absorb now (first_word rest) → AreLeft before bytes now rest → AreLeft before bytes next (drop 8 rest)
less_left before bytes now next rest long same left = by left.n left.enough left.whole
  where
    by : (n : ℕ) → length rest ≤ n → fold absorb now (words n rest) ≡ fold absorb before (words (length bytes) bytes)
        → AreLeft before bytes next (drop 8 rest)
    by zero enough whole = absurd (omega (arith, long, enough))
    by (suc n) enough whole = record {
      n = n;
      enough = omega (arith, enough, length-drop 8 rest);
      whole = ap (λ (s : WordHasher). fold absorb s (words n (drop 8 rest))) same
          ∙ ap (fold absorb now) (sym (words_long n rest long)) ∙ whole;
    }

pub none_left : (before : WordHasher) (bytes : List ℕ) (now : WordHasher) (rest : List ℕ) → length rest < 8
    → AreLeft before bytes now rest → fold absorb now (last_words rest) ≡ write before bytes
unfolding write
none_left before bytes now rest short left = ap (fold absorb now) (sym (words_short left.n rest short)) ∙ left.whole

-- where bytes are left, they are the last word
pub some_last : (now : WordHasher) (rest : List ℕ) → (rest ≡ [] → ⊥)
    → absorb now (last_word rest) ≡ fold absorb now (last_words rest)
some_last now [] some = absurd (some refl)
some_last now (byte ∷ rest) some = refl

-- where none is left, there is no word more
pub none_last : (now : WordHasher) (rest : List ℕ) → rest ≡ [] → now ≡ fold absorb now (last_words rest)
none_last now [] none = refl
none_last now (byte ∷ rest) none = absurd (omega (arith, ap length none))
