-- What tokens expect comes first.
use Rattle.std.proofs.Common.{◌≡◌, ◌⊎◌, inl, inr, ℕ, ◌+◌, ◌<◌, ◌≤◌, Bool, true, false, ◌==◌, ◌||◌, ◌&&◌, not, List, []}
use Rattle.std.proofs.Common.{◌∷◌, ◌++◌, length, refl, sym, ap, ◌∙◌, subst, arith, if◌then◌else◌, Ok, Err}
use Rattle.std.proofs.lemmas.Bool.{false≢true}
use Rattle.std.proofs.lemmas.Bool.Decides.{nat_tests}
use Rattle.mon_value.specs.Answers.{◌>>=◌}
use Rattle.mql_ast.specs.declared.names.Name.{Name}
use Rattle.mql_ast.specs.Tokens.{is_blank, is_letter, is_word_byte, Rest, first_of, behind_first, head}
use Rattle.mql_ast.specs.Tokens.{behind, skip, word_bytes, behind_word, word_here}
use Rattle.mql_parse.specs.declared.faults.What.{What}
use Rattle.mql_parse.specs.declared.faults.What.TheVariants as what
use Rattle.mql_parse.specs.Outcomes.{Outcome, unexpected_fault, exact, apart}
use Rattle.mql_parse.specs.TokenReading as reading
use Rattle.mql_parse.specs.Steadiness.{here, next, Steady, unit_read}
use Rattle.mql_parse.proofs.RestLemmas.{skip_off}
use Rattle.mql_parse.proofs.Steady.{steady_from, steady_unexpected, steady_if, steady_behind_pass, unit_if, head_test}
use Rattle.mql_parse.proofs.TokenSteady.{exact_steady, word_steady, word_on}
use Rattle.mql_parse.proofs.Firsts.{Spot, instead, Splits, splits, over_splits, splits_head, splits_blank, Begun}
use Rattle.mql_parse.proofs.Firsts.{Failed, MeetsOutcome, Meets, Before, FirstOutcome, First, NoMore, beyond_meets}
use Rattle.mql_parse.proofs.Firsts.{beyond_first, first_meets, kind_names, passed_far, meets_by, meets_ok, meets_of}
use Rattle.mql_parse.proofs.Firsts.{by_place, if_same, first_by, first_if, first_unexpected, before_of, before_if_here}
use Rattle.mql_parse.proofs.Firsts.{before_skip, before_behind, before_unexpected}
use Rattle.mql_parse.proofs.Spots.{beyond}
use Rattle.mql_parse.proofs.ByteLemmas.{letter_in_word, not_false}

-- a fault here, and a choice by the byte that stands here
pub meets_unexpected : {A : Type 0} (x : Spot) (to : Rest → ℕ) (G : A → Type 0) (w : What) →
    Meets {A = A} x here to G (λ s. Err (unexpected_fault w s))
meets_unexpected x to G w = record { steady = steady_unexpected to w; agrees = λ s t c e v k. inr tt }

pub meets_if_here : {A : Type 0} (x : Spot) (to : Rest → ℕ) (G : A → Type 0) (test : ℕ → Bool)
    (read other : Rest → Outcome A) → test 10 ≡ false →
    ((s : Rest) → s.at ≡ x.at → test (head s) ≡ true → (p : Outcome A) → MeetsOutcome x to G (read s) p) →
    Before x here to G read → Meets x here to G other →
    Meets x here to G (λ s. if test (head s) then read s else other s)
meets_if_here {A = A} x to G test read other z far f g =
    let whole = λ (s : Rest). if test (head s) then read s else other s in
    let steady = steady_if here to (λ s. test (head s)) read other (head_test test) f.steady g.steady in
    record {
      steady = steady;
      agrees = λ s t c. by_place s.at x.at
          (λ l. if_same x to G (test (head s)) (test (head t)) (read s) (read t) (other s) (other t)
          (ap test (splits_head x s t c l)) (f.agrees s t c l) (g.agrees s t c))
          (λ e. subst (λ b. MeetsOutcome x to G (whole s) (if b then read t else other t))
          (sym (ap test (splits_blank x s t c e) ∙ z))
          (at_spot (test (head s)) s (other t) (far s e) (g.agrees s t c)))
          (λ l. beyond_meets x to G s.at (whole s) (whole t) (steady.reaches s) l);
    }
  where
    at_spot : (b : Bool) (s : Rest) (p : Outcome A) → (b ≡ true → (p : Outcome A) → MeetsOutcome x to G (read s) p) →
        MeetsOutcome x to G (other s) p → MeetsOutcome x to G (if b then read s else other s) p
    at_spot true s p h k = h refl p
    at_spot false s p h k = k

-- behind a byte that is there
pub far_behind : {A : Type 0} (x : Spot) (to : Rest → ℕ) (G : A → Type 0) (test : ℕ → Bool) → test 0 ≡ false →
    (read : Rest → Outcome A) → Steady here to read → (s : Rest) → s.at ≡ x.at → test (head s) ≡ true →
    (p : Outcome A) → MeetsOutcome x to G (read (behind s)) p
far_behind x to G test z read k s h e p =
    beyond_meets x to G (behind s).at (read (behind s)) p (k.reaches (behind s))
    (omega (arith, h, of_bytes s.at s.bytes e))
  where
    of_bytes : (at : ℕ) (bs : List ℕ) → test (first_of bs) ≡ true → at + 1 ≤ (behind_first at bs).at
    of_bytes at [] g = absurd (false≢true (sym z ∙ g))
    of_bytes at (b ∷ bs) g = omega arith

-- words and signs of several bytes, of which none is a blank
abbrev pub all_solid : List ℕ → Bool
all_solid [] = true
all_solid (c ∷ cs) = not (10 == c) && (not (0 == c) && all_solid cs)

pub meets_exact : (x : Spot) (w : What) (cs : List ℕ) → all_solid cs ≡ true →
    Meets x here here NoMore (λ s. unit_read (exact w cs s))
meets_exact x w [] h = meets_ok x here NoMore tt
meets_exact x w (c ∷ cs) h =
    let first = not_false (10 == c) (not (0 == c) && all_solid cs) h in
    let second = not_false (0 == c) (all_solid cs) first.1 in
    meets_by x here here NoMore (λ s. unit_read (exact w (c ∷ cs) s))
    (λ s. if head s == c then unit_read (exact w cs (behind s)) else Err (unexpected_fault w s))
    (λ s. unit_if (head s == c) (exact w cs (behind s)) (Err (unexpected_fault w s)))
    (meets_if_here x here NoMore (λ b. b == c) (λ s. unit_read (exact w cs (behind s)))
    (λ s. Err (unexpected_fault w s))
    first.0
    (far_behind x here NoMore (λ b. b == c) second.0 (λ s. unit_read (exact w cs s)) (exact_steady w cs))
    (before_behind x here NoMore (λ s. unit_read (exact w cs s)) (meets_exact x w cs second.1))
    (meets_unexpected x here NoMore w))

-- the first byte of a word, behind blanks
pub first_exact : (x : Spot) (w : What) (c : ℕ) (cs : List ℕ) → (0 == c) ≡ false →
    ((x.byte == c) ≡ true → Begun x w) → First x next here w (λ s. unit_read (exact w (c ∷ cs) (skip s)))
first_exact x w c cs z h =
    first_by x next here w (λ s. unit_read (exact w (c ∷ cs) (skip s)))
    (λ s. if head (skip s) == c then unit_read (exact w cs (behind (skip s))) else Err (unexpected_fault w (skip s)))
    (λ s. unit_if (head (skip s) == c) (exact w cs (behind (skip s))) (Err (unexpected_fault w (skip s))))
    (first_if x here w (λ b. b == c) (λ s. unit_read (exact w cs (behind (skip s))))
    (λ s. Err (unexpected_fault w (skip s)))
    (λ s e k. passed_far x here w (λ b. b == c) z (λ s. unit_read (exact w cs s)) (exact_steady w cs) s e k)
    h (first_unexpected x here w))

-- whether the byte behind the first may be the second of a word
abbrev pub second : List ℕ → ℕ → Bool
second [] b = true
second (c ∷ cs) b = b == c

pub exact_fails : {B : Type 0} (w : What) (c : ℕ) (cs : List ℕ) (on : Rest → Outcome B) (r : Rest) →
    second cs (head (behind r)) ≡ false → Failed (exact w (c ∷ cs) r >>= on)
exact_fails w c [] on r h = absurd (false≢true (sym h))
exact_fails w c (next ∷ cs) on r h = either (head r == c)
  where
    either : (t : Bool) → Failed ((if t then exact w (next ∷ cs) (behind r) else Err (unexpected_fault w r)) >>= on)
    either true =
        subst (λ b. Failed ((if b then exact w cs (behind (behind r)) else Err (unexpected_fault w (behind r)))
        >>= on))
        (sym h) tt
    either false = tt

-- the word at the spot is allowed, or another than the reader wants
pub second_or : {A : Type 0} (x : Spot) (w : What) (c : ℕ) (cs : List ℕ) (read : Rest → Outcome A) →
    ((r : Rest) → second cs (head (behind r)) ≡ false → Failed (read r)) →
    ((x.byte == c) ≡ true → second cs (first_of x.more) ≡ true → Begun x w) → (t : Rest) → skip t ≡ beyond x →
    (x.byte == c) ≡ true → Begun x w ⊎ Failed (read (skip t))
second_or x w c cs read fails begun t e h = either (second cs (first_of x.more)) refl
  where
    either : (b : Bool) → second cs (first_of x.more) ≡ b → Begun x w ⊎ Failed (read (skip t))
    either true g = inl (begun h g)
    either false g = inr (subst (λ r. Failed (read r)) (sym e) (fails (beyond x) g))

-- a word whose first byte is there, and what stands behind it
pub keyword_far : {B : Type 0} (x : Spot) (to : Rest → ℕ) (v w : What) (c : ℕ) (cs : List ℕ)
    (on : Rest → Outcome B) → (0 == c) ≡ false → Steady here to on → (s : Rest) → next s ≡ x.at →
    (head (skip s) == c) ≡ true → FirstOutcome x to v (exact w (c ∷ cs) (skip s) >>= on)
keyword_far x to v w c cs on z k s e h =
    subst (λ b. FirstOutcome x to v ((if b then exact w cs (behind (skip s)) else Err (unexpected_fault w (skip s)))
    >>= on))
    (sym h)
    (passed_far x to v (λ b. b == c) z (λ r. exact w cs r >>= on)
    (steady_behind_pass here here to (exact w cs) on (exact_steady w cs) k) s e h)

-- no word byte, and a part behind it: a word byte is refused as the part would be
word_not_blank : (b : ℕ) → is_word_byte b ≡ true → is_blank b ≡ false
word_not_blank b h = grind (arith, nat_tests)

apart_on : {B : Type 0} (t : Bool) (w : What) (s : Rest) (on : Rest → Outcome B) →
    ((if t then Err (unexpected_fault w s) else Ok s) >>= on) ≡ (if t then Err (unexpected_fault w s) else on s)
apart_on true w s on = refl
apart_on false w s on = refl

abbrev apart_then : {B : Type 0} → What → (Rest → Outcome B) → Rest → Outcome B
apart_then w on s = if is_word_byte (head s) then Err (unexpected_fault w s) else on s

pub meets_apart : {B : Type 0} (x : Spot) (to : Rest → ℕ) (H : B → Type 0) (w : What) (on : Rest → Outcome B) →
    First x next to w on → Meets x next to H on → Meets x here to H (λ s. apart w s >>= on)
meets_apart {B = B} x to H w on first k =
    meets_by x here to H (λ s. apart w s >>= on)
    (λ s. if is_word_byte (head s) then Err (unexpected_fault w s) else on s)
    (λ s. apart_on (is_word_byte (head s)) w s on)
    (record {
      steady = steady;
      agrees = λ s t c. by_place s.at x.at (before s t c) (at_spot s t c)
          (λ l. beyond_meets x to H s.at (apart_then w on s) (apart_then w on t) (steady.reaches s) l);
    })
  where
    steady : Steady here to (λ s. if is_word_byte (head s) then Err (unexpected_fault w s) else on s)
    steady = steady_if here to (λ s. is_word_byte (head s)) (λ s. Err (unexpected_fault w s)) on
        (head_test is_word_byte)
        (steady_unexpected to w) (steady_from to on k.steady)

    before : (s t : Rest) → Splits x s t → s.at < x.at → MeetsOutcome x to H
        (if is_word_byte (head s) then Err (unexpected_fault w s) else on s)
        (if is_word_byte (head t) then Err (unexpected_fault w t) else on t)
    before s t c l = if_same x to H (is_word_byte (head s)) (is_word_byte (head t)) (Err (unexpected_fault w s))
        (Err (unexpected_fault w t)) (on s) (on t) (ap is_word_byte (splits_head x s t c l))
        (λ e. absurd (omega (arith, l, e))) (k.agrees s t c)

    chosen : (b : Bool) (s t : Rest) → is_word_byte (head s) ≡ b → Splits x s t → s.at ≡ x.at →
        MeetsOutcome x to H (if b then Err (unexpected_fault w s) else on s) (on t)
    chosen true s t h c e =
        let stands = skip_off s (word_not_blank (head s) h) in
        first_meets x to H w (Err (unexpected_fault w s)) (on t) (λ d v g. kind_names w s.bytes v g)
        (first.refuses s t c (ap (λ r. r.at) stands ∙ e))
    chosen false s t h c e = k.agrees s t c

    at_spot : (s t : Rest) → Splits x s t → s.at ≡ x.at → MeetsOutcome x to H
        (if is_word_byte (head s) then Err (unexpected_fault w s) else on s)
        (if is_word_byte (head t) then Err (unexpected_fault w t) else on t)
    at_spot s t c e =
        subst (λ b. MeetsOutcome x to H (if is_word_byte (head s) then Err (unexpected_fault w s) else on s)
        (if is_word_byte b then Err (unexpected_fault w t) else on t)) (sym (splits_blank x s t c e))
        (chosen (is_word_byte (head s)) s t refl c e)

-- words
word_alike : (x : Spot) (common after : List ℕ) (at : ℕ) → at + length common ≡ x.at →
    (behind_word at (common ++ after)).at ≤ x.at →
    (word_bytes (common ++ instead x) ≡ word_bytes (common ++ after)) ×
    Splits x (behind_word at (common ++ after)) (behind_word at (common ++ instead x))
word_alike x [] [] at h l = (refl, splits x [] [] at h)
word_alike x [] (b ∷ bs) at h l = stopped (is_word_byte b) l
  where
    stopped : (t : Bool) → (if t then behind_word (at + 1) bs else record { at = at; bytes = b ∷ bs }).at ≤ x.at →
        ([] ≡ (if t then b ∷ word_bytes bs else [])) × Splits x (if t then behind_word (at + 1) bs else record
        { at = at; bytes = b ∷ bs }) (record { at = at; bytes = instead x })
    stopped true k = absurd (omega (arith, k, h, word_on (at + 1) (at + 1) bs (omega arith)))
    stopped false k = (refl, splits x [] (b ∷ bs) at h)
word_alike x (c ∷ common) after at h l =
    gone (is_word_byte c) l (λ k. word_alike x common after (at + 1) (omega (arith, h)) k)
  where
    gone : (t : Bool) →
        (if t then behind_word (at + 1) (common ++ after) else record { at = at; bytes = c ∷ (common ++ after) }).at
        ≤ x.at → ((behind_word (at + 1) (common ++ after)).at ≤ x.at →
        (word_bytes (common ++ instead x) ≡ word_bytes (common ++ after)) ×
        Splits x (behind_word (at + 1) (common ++ after)) (behind_word (at + 1) (common ++ instead x))) →
        ((if t then c ∷ word_bytes (common ++ instead x) else []) ≡
        (if t then c ∷ word_bytes (common ++ after) else [])) ×
        Splits x (if t then behind_word (at + 1) (common ++ after) else record
        { at = at; bytes = c ∷ (common ++ after) }) (if t then behind_word (at + 1) (common ++ instead x) else record
        { at = at; bytes = c ∷ (common ++ instead x) })
    gone true k ih = let both = ih k in (ap (λ u. c ∷ u) both.0, both.1)
    gone false k ih = (refl, splits x (c ∷ common) after at h)

pub meets_word : (x : Spot) → Meets x here here NoMore (λ s. Ok (word_here s))
meets_word x = record {
  steady = word_steady;
  agrees = over_splits x (λ s t. MeetsOutcome x here NoMore (Ok (word_here s)) (Ok (word_here t)))
      (λ common after at h l. let both = word_alike x common after at h l in
      inl (
        behind_word at (common ++ instead x),
        (ap (λ u. Ok (record { at = at; text = u }, behind_word at (common ++ instead x))) both.0, both.1),
      ));
}

word_far : (x : Spot) (at : ℕ) (bs : List ℕ) → at ≡ x.at → is_letter (first_of bs) ≡ true →
    x.at < (behind_word at bs).at
word_far x at [] e h = absurd (false≢true h)
word_far x at (b ∷ bs) e h =
    subst (λ t. x.at < (if t then behind_word (at + 1) bs else record { at = at; bytes = b ∷ bs }).at)
    (sym (letter_in_word b h)) (omega (arith, e, word_on (at + 1) (at + 1) bs (omega arith)))

-- a word by its first letter, behind blanks
pub first_word : {A : Type 0} (x : Spot) (to : Rest → ℕ) (on : Name × Rest → Outcome A) (w : What) →
    ((a : Name) → Steady here to (λ r. on (a, r))) → (s : Rest) → next s ≡ x.at → is_letter (head (skip s)) ≡ true →
    FirstOutcome x to w (on (word_here (skip s)))
first_word x to on w k s e h =
    let t = skip s in
    let word = word_here t in
    beyond_first x to w word.1.at (on word) ((k word.0).reaches word.1) (word_far x t.at t.bytes e h)

pub first_name : (x : Spot) → First x next here what.Name reading.name
unfolding reading.name
first_name x = first_if x here what.Name is_letter (λ s. Ok (word_here (skip s)))
    (λ s. Err (unexpected_fault what.Name (skip s)))
    (λ s e h. word_far x (skip s).at (skip s).bytes e h) (λ h. refl) (first_unexpected x here what.Name)

before_name : (x : Spot) → Before x next here NoMore reading.name
unfolding reading.name
before_name x = before_skip x here NoMore
    (λ t. if is_letter (head t) then Ok (word_here t) else Err (unexpected_fault what.Name t))
    (before_if_here x here NoMore is_letter (λ t. Ok (word_here t)) (λ t. Err (unexpected_fault what.Name t))
    (before_of x here here NoMore (λ t. Ok (word_here t)) (meets_word x))
    (before_unexpected x here NoMore what.Name))

pub meets_name : (x : Spot) → Meets x next here NoMore reading.name
meets_name x = meets_of x next here NoMore what.Name reading.name (first_name x) (before_name x)
