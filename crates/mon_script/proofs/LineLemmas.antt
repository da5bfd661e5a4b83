-- The lines of a text, one after another.
use Rattle.std.proofs.Common.{◌≡◌, ℕ, Bor, MatchOption, sym, suc, ◌<◌, length, arith, ◌==◌, ◌&&◌, Bool, true, false}
use Rattle.std.proofs.Common.{cond, List, [], ◌∷◌, ◌++◌, Option, Some, None, option_map, refl, ap, ◌∙◌}
use Rattle.mon_script.specs.Lines.{carriage_return, cut_at, ends_line, line_feed, lines_of, onto_first, without_return}

-- ---- a carriage return at the end of a line

pub without_return-return : (front : List ℕ) → without_return (front ++ carriage_return ∷ []) ≡ front
without_return-return [] = refl
without_return-return (x ∷ []) = refl
without_return-return (x ∷ y ∷ front) = ap (λ rest. x ∷ rest) (without_return-return (y ∷ front))

pub without_return-other : (front : List ℕ) (last : ℕ) → (last == carriage_return) ≡ false
    → without_return (front ++ last ∷ []) ≡ front ++ last ∷ []
without_return-other [] last e = ap (λ b. cond b [] (last ∷ [])) e
without_return-other (x ∷ []) last e = ap (λ b. x ∷ cond b [] (last ∷ [])) e
without_return-other (x ∷ y ∷ front) last e = ap (λ rest. x ∷ rest) (without_return-other (y ∷ front) last e)

-- ---- a line and what is left

lines_cons : (byte : ℕ) (rest : List ℕ) (b : Bool) → (byte == line_feed) ≡ b → lines_of (byte ∷ rest)
    ≡ cond b ([] ∷ lines_of rest) (cond ((byte == carriage_return) && ends_line rest) (lines_of rest)
    (onto_first byte (lines_of rest)))
lines_cons byte rest b e = ap (λ c. cond c ([] ∷ lines_of rest) (cond ((byte == carriage_return) && ends_line rest)
    (lines_of rest) (onto_first byte (lines_of rest)))) e

abbrev Cut : Type 0
Cut = List ℕ × List ℕ

abbrev null : List ℕ → Bool
null [] = true
null (x ∷ xs) = false

abbrev line_in : Option Cut → List ℕ
line_in None = []
line_in (Some cut) = cut.0

abbrev left_in : Option Cut → List ℕ
left_in None = []
left_in (Some cut) = cut.1

abbrev longer : ℕ → Option Cut → Option Cut
longer byte r = option_map (λ cut. (byte ∷ cut.0, cut.1)) r

-- a text whose first line is empty begins with a line feed
ends_by : (byte : ℕ) (rest : List ℕ) (b : Bool) (r : Option Cut) (l f : List ℕ) → (byte == line_feed) ≡ b
    → cond b (Some ([], rest)) (longer byte r) ≡ Some (l, f) → (byte == line_feed) ≡ null l
ends_by byte rest true r l f e h = e ∙ ap null (ap line_in h)
ends_by byte rest false None l f e h = absurd cc
ends_by byte rest false (Some cut) l f e h = e ∙ ap null (ap line_in h)

cut_ends : (text l f : List ℕ) → cut_at line_feed text ≡ Some (l, f) → ends_line text ≡ null l
cut_ends [] l f h = absurd cc
cut_ends (byte ∷ rest) l f h = ends_by byte rest (byte == line_feed) (cut_at line_feed rest) l f refl h

none_by : (byte : ℕ) (rest : List ℕ) (b : Bool) (r : Option Cut) → (byte == line_feed) ≡ b → cond b (Some ([], rest))
    (longer byte r) ≡ None → ((byte == line_feed) ≡ false) × (r ≡ None)
none_by byte rest true r e h = absurd cc
none_by byte rest false None e h = (e, refl)
none_by byte rest false (Some cut) e h = absurd cc

none_ends : (text : List ℕ) → cut_at line_feed text ≡ None → ends_line text ≡ false
none_ends [] h = refl
none_ends (byte ∷ rest) h = (none_by byte rest (byte == line_feed) (cut_at line_feed rest) refl h).0

-- the first line gets a byte in front, unless that is a return right before its end
first_line : (byte : ℕ) (ends : Bool) (l : List ℕ) (lines : List (List ℕ)) → ends ≡ null l
    → cond ((byte == carriage_return) && ends) (without_return l ∷ lines) (onto_first byte (without_return l ∷ lines))
    ≡ without_return (byte ∷ l) ∷ lines
first_line byte ends [] lines e = ap (λ b. cond ((byte == carriage_return) && b) ([] ∷ lines) ((byte ∷ []) ∷ lines)) e
    ∙ by (byte == carriage_return)
  where
    by : (b : Bool) → cond (b && true) ([] ∷ lines) ((byte ∷ []) ∷ lines) ≡ cond b [] (byte ∷ []) ∷ lines
    by true = refl
    by false = refl
first_line byte ends (x ∷ xs) lines e = ap (λ b. cond ((byte == carriage_return) && b)
    (without_return (x ∷ xs) ∷ lines) ((byte ∷ without_return (x ∷ xs)) ∷ lines)) e ∙ by (byte == carriage_return)
  where
    by : (b : Bool) → cond (b && false) (without_return (x ∷ xs) ∷ lines) ((byte ∷ without_return (x ∷ xs)) ∷ lines)
        ≡ (byte ∷ without_return (x ∷ xs)) ∷ lines
    by true = refl
    by false = refl

lines_by : (byte : ℕ) (rest : List ℕ) (b : Bool) (r : Option Cut) (l f : List ℕ) → (byte == line_feed) ≡ b
    → cut_at line_feed rest ≡ r → cond b (Some ([], rest)) (longer byte r) ≡ Some (l, f)
    → ((l' f' : List ℕ) → cut_at line_feed rest ≡ Some (l', f') → lines_of rest ≡ without_return l' ∷ lines_of f')
    → lines_of (byte ∷ rest) ≡ without_return l ∷ lines_of f
lines_by byte rest true r l f e c h ih =
    lines_cons byte rest true e ∙ (λ i. without_return (ap line_in h i) ∷ lines_of (ap left_in h i))
lines_by byte rest false None l f e c h ih = absurd cc
lines_by byte rest false (Some cut) l f e c h ih =
    lines_cons byte rest false e
    ∙ ap (λ lines. cond ((byte == carriage_return) && ends_line rest) lines (onto_first byte lines)) (ih cut.0 cut.1 c)
    ∙ first_line byte (ends_line rest) cut.0 (lines_of cut.1) (cut_ends rest cut.0 cut.1 c)
    ∙ (λ i. without_return (ap line_in h i) ∷ lines_of (ap left_in h i))

-- the first line of a text, and then the lines of what is left
pub lines_of-cut : (text l f : List ℕ) → cut_at line_feed text ≡ Some (l, f) → lines_of text ≡ without_return l
    ∷ lines_of f
lines_of-cut [] l f h = absurd cc
lines_of-cut (byte ∷ rest) l f h = lines_by byte rest (byte == line_feed) (cut_at line_feed rest) l f refl refl h
    (lines_of-cut rest)

-- a text without a line feed is a line, unless it is empty
abbrev pub only_line : List ℕ → List (List ℕ)
only_line [] = []
only_line (byte ∷ rest) = (byte ∷ rest) ∷ []

pub only_line-some : (text : List ℕ) → 0 < length text → only_line text ≡ text ∷ []
only_line-some [] h = absurd (omega arith)
only_line-some (byte ∷ rest) h = refl

onto_only : (byte : ℕ) (rest : List ℕ) → onto_first byte (only_line rest) ≡ (byte ∷ rest) ∷ []
onto_only byte [] = refl
onto_only byte (x ∷ xs) = refl

no_end : (a b : Bool) (x y : List (List ℕ)) → b ≡ false → cond (a && b) x y ≡ y
no_end true b x y e = ap (λ c. cond c x y) e
no_end false b x y e = refl

pub lines_of-none : (text : List ℕ) → cut_at line_feed text ≡ None → lines_of text ≡ only_line text
lines_of-none [] h = refl
lines_of-none (byte ∷ rest) h =
    let parts = none_by byte rest (byte == line_feed) (cut_at line_feed rest) refl h in
    lines_cons byte rest false parts.0
    ∙ no_end (byte == carriage_return) (ends_line rest) (lines_of rest) (onto_first byte (lines_of rest))
    (none_ends rest parts.1)
    ∙ ap (onto_first byte) (lines_of-none rest parts.1)
    ∙ onto_only byte rest

-- what is left is shorter
shorter_by : (byte : ℕ) (rest : List ℕ) (b : Bool) (r : Option Cut) (l f : List ℕ) → cond b (Some ([], rest))
    (longer byte r) ≡ Some (l, f) → ((l' f' : List ℕ) → r ≡ Some (l', f') → length f' < length rest) → length f
    < suc (length rest)
shorter_by byte rest true r l f h ih = let e : rest ≡ f = ap left_in h in let n = ap length e in omega arith
shorter_by byte rest false None l f h ih = absurd cc
shorter_by byte rest false (Some cut) l f h ih = let e : cut.1 ≡ f = ap left_in h in let n = ap length e in
    let m = ih cut.0 cut.1 refl in omega arith

pub cut_at-shorter : (text l f : List ℕ) → cut_at line_feed text ≡ Some (l, f) → length f < length text
cut_at-shorter [] l f h = absurd cc
cut_at-shorter (byte ∷ rest) l f h = shorter_by byte rest (byte == line_feed) (cut_at line_feed rest) l f h
    (cut_at-shorter rest)

-- a text that is one line, or none
pub whole_first : (text : List ℕ) (cut : Option (Bor (List ℕ) × Bor (List ℕ))) → cut_at line_feed text ≡ None →
    MatchOption cut (text ≡ []) (λ c. (c.0.now ≡ text) × ((c.1.now ≡ []) × (0 < length text))) →
    MatchOption cut (text ≡ []) (λ c. lines_of text ≡ c.0.now ∷ lines_of c.1.now)
whole_first text None none whole = whole
whole_first text (Some c) none whole =
    lines_of-none text none ∙ only_line-some text whole.1.1 ∙ (λ i. sym whole.0 i ∷ lines_of (sym whole.1.0 i))
