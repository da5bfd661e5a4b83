-- Two texts that are the same up to a place, where the second goes on with a line's end and a token.
use Rattle.std.proofs.Common.{◌≡◌, ℕ, ◌+◌, ◌<◌, ◌≤◌, Bool, true, false, List, [], ◌∷◌, ◌++◌, length, refl, sym, ap}
use Rattle.std.proofs.Common.{◌∙◌, subst, arith, if◌then◌else◌}
use Rattle.mql_ast.specs.Tokens.{is_blank, Rest, first_of, behind_first, behind_blanks, head, behind, skip}
use Rattle.mql_parse.specs.declared.faults.What.{What}
use Rattle.mql_parse.proofs.FirstWords.{Starts}

-- a place, and what stands there in the second text: a line's end and a token of this word
pub record Spot : Type 0 where
  pub at : ℕ
  pub byte : ℕ
  pub more : List ℕ
  pub solid : is_blank byte ≡ false
  pub word : What
  pub starts : Starts word byte (first_of more)

abbrev pub instead : Spot → List ℕ
instead x = 10 ∷ x.byte ∷ x.more

-- what is left of two texts at one place before the spot
pub record Splits (x : Spot) (s t : Rest) : Type 0 where
  pub common : List ℕ
  pub after : List ℕ
  pub bytes : s.bytes ≡ common ++ after
  pub others : t.bytes ≡ common ++ instead x
  pub place : t.at ≡ s.at
  pub ends : s.at + length common ≡ x.at

pub splits : (x : Spot) (common after : List ℕ) (at : ℕ) → at + length common ≡ x.at →
    Splits x (record { at = at; bytes = common ++ after }) (record { at = at; bytes = common ++ instead x })
splits x common after at h =
    record { common = common; after = after; bytes = refl; others = refl; place = refl; ends = h }

-- what holds of any two rests that split so
pub over_splits : (x : Spot) (P : Rest → Rest → Type 0) →
    ((common after : List ℕ) (at : ℕ) → at + length common ≡ x.at → P (record { at = at; bytes = common ++ after })
    (record { at = at; bytes = common ++ instead x })) → (s t : Rest) → Splits x s t → P s t
over_splits x P h s t c =
    subst (λ bs. P (record { at = s.at; bytes = bs }) t) (sym c.bytes)
    (subst (λ n. P (record { at = s.at; bytes = c.common ++ c.after }) (record { at = n; bytes = t.bytes }))
    (sym c.place)
    (subst (λ bs. P (record { at = s.at; bytes = c.common ++ c.after }) (record { at = s.at; bytes = bs }))
    (sym c.others)
    (h c.common c.after s.at c.ends)))

head_split : (x : Spot) (common after : List ℕ) (at : ℕ) → at + length common ≡ x.at → at < x.at →
    first_of (common ++ instead x) ≡ first_of (common ++ after)
head_split x [] after at h l = absurd (omega (arith, h, l))
head_split x (c ∷ common) after at h l = refl

pub splits_head : (x : Spot) (s t : Rest) → Splits x s t → s.at < x.at → head t ≡ head s
splits_head x = over_splits x (λ s t. s.at < x.at → head t ≡ head s) (head_split x)

behind_split : (x : Spot) (common after : List ℕ) (at : ℕ) → at + length common ≡ x.at → at < x.at →
    Splits x (behind_first at (common ++ after)) (behind_first at (common ++ instead x))
behind_split x [] after at h l = absurd (omega (arith, h, l))
behind_split x (c ∷ common) after at h l = splits x common after (at + 1) (omega (arith, h))

pub splits_behind : (x : Spot) (s t : Rest) → Splits x s t → s.at < x.at → Splits x (behind s) (behind t)
splits_behind x = over_splits x (λ s t. s.at < x.at → Splits x (behind s) (behind t)) (behind_split x)

-- at the spot stands a blank
blank_split : (x : Spot) (common after : List ℕ) (at : ℕ) → at + length common ≡ x.at → at ≡ x.at →
    first_of (common ++ instead x) ≡ 10
blank_split x [] after at h l = refl
blank_split x (c ∷ common) after at h l = absurd (omega (arith, h, l))

pub splits_blank : (x : Spot) (s t : Rest) → Splits x s t → s.at ≡ x.at → head t ≡ 10
splits_blank x = over_splits x (λ s t. s.at ≡ x.at → head t ≡ 10) (blank_split x)

-- what is left of the second behind the blanks
abbrev pub beyond : Spot → Rest
beyond x = record { at = x.at + 1; bytes = x.byte ∷ x.more }

blanks_on : (at n : ℕ) (bs : List ℕ) → n ≤ at → n ≤ (behind_blanks at bs).at
blanks_on at n [] h = h
blanks_on at n (b ∷ bs) h = either (is_blank b) (blanks_on (at + 1) n bs (omega (arith, h)))
  where
    either : (t : Bool) → n ≤ (behind_blanks (at + 1) bs).at →
        n ≤ (if t then behind_blanks (at + 1) bs else record { at = at; bytes = b ∷ bs }).at
    either true k = k
    either false k = h

-- blanks up to the spot, or a byte before it
blanks_split : (x : Spot) (common after : List ℕ) (at : ℕ) → at + length common ≡ x.at →
    (behind_blanks at (common ++ after)).at < x.at →
    Splits x (behind_blanks at (common ++ after)) (behind_blanks at (common ++ instead x))
blanks_split x [] after at h l = absurd (omega (arith, h, l, blanks_on at at after (omega arith)))
blanks_split x (c ∷ common) after at h l =
    either (is_blank c) l (λ k. blanks_split x common after (at + 1) (omega (arith, h)) k)
  where
    either : (t : Bool) →
        (if t then behind_blanks (at + 1) (common ++ after) else record { at = at; bytes = c ∷ (common ++ after) }).at
        < x.at → ((behind_blanks (at + 1) (common ++ after)).at < x.at →
        Splits x (behind_blanks (at + 1) (common ++ after)) (behind_blanks (at + 1) (common ++ instead x))) →
        Splits x (if t then behind_blanks (at + 1) (common ++ after) else record
        { at = at; bytes = c ∷ (common ++ after) }) (if t then behind_blanks (at + 1) (common ++ instead x) else record
        { at = at; bytes = c ∷ (common ++ instead x) })
    either true k ih = ih k
    either false k ih = splits x (c ∷ common) after at h

pub splits_skip : (x : Spot) (s t : Rest) → Splits x s t → (skip s).at < x.at → Splits x (skip s) (skip t)
unfolding skip
splits_skip x = over_splits x (λ s t. (skip s).at < x.at → Splits x (skip s) (skip t)) (blanks_split x)

beyond_blank : (x : Spot) → behind_blanks (x.at + 1) (x.byte ∷ x.more) ≡ beyond x
beyond_blank x = ap (λ t. if t then behind_blanks (x.at + 1 + 1) x.more else beyond x) x.solid

blanks_beyond : (x : Spot) (common after : List ℕ) (at : ℕ) → at + length common ≡ x.at →
    (behind_blanks at (common ++ after)).at ≡ x.at → behind_blanks at (common ++ instead x) ≡ beyond x
blanks_beyond x [] after at h l =
    ap (λ n. behind_blanks (n + 1) (x.byte ∷ x.more)) (omega (arith, h)) ∙ beyond_blank x
blanks_beyond x (c ∷ common) after at h l =
    either (is_blank c) l (λ k. blanks_beyond x common after (at + 1) (omega (arith, h)) k)
  where
    either : (t : Bool) →
        (if t then behind_blanks (at + 1) (common ++ after) else record { at = at; bytes = c ∷ (common ++ after) }).at
        ≡ x.at → ((behind_blanks (at + 1) (common ++ after)).at ≡ x.at →
        behind_blanks (at + 1) (common ++ instead x) ≡ beyond x) →
        (if t then behind_blanks (at + 1) (common ++ instead x) else record
        { at = at; bytes = c ∷ (common ++ instead x) }) ≡ beyond x
    either true k ih = ih k
    either false k ih = absurd (omega (arith, h, k))

pub splits_beyond : (x : Spot) (s t : Rest) → Splits x s t → (skip s).at ≡ x.at → skip t ≡ beyond x
unfolding skip
splits_beyond x = over_splits x (λ s t. (skip s).at ≡ x.at → skip t ≡ beyond x) (blanks_beyond x)
