-- Readers within one token: what was read of it before a fault is a part of the token.
use Rattle.std.proofs.Common.{◌≡◌, ℕ, ◌+◌, Bool, true, false, List, [], ◌∷◌, ◌++◌, length, refl, sym, ap, ◌∙◌, subst}
use Rattle.std.proofs.Common.{arith, if◌then◌else◌, append_assoc, length-append, Some, None, Ok, Err}
use Rattle.std.proofs.lemmas.List.{append-nil}
use Rattle.mql_ast.specs.Tokens.{Rest}
use Rattle.mql_ast.specs.Quotes.{Whole}
use Rattle.mql_parse.specs.declared.faults.ParseFault.{ParseFault}
use Rattle.mql_parse.specs.declared.faults.ParseKind.{ParseKind}
use Rattle.mql_parse.specs.declared.faults.What.{What}
use Rattle.mql_parse.specs.Outcomes.{Outcome, kind_of_fault, fault, unexpected_fault, map_outcome}
use Rattle.mql_parse.specs.declared.faults.What.TheVariants as what
use Rattle.mql_parse.specs.Faults.{open_quotes}
use Rattle.mql_parse.specs.FaultTokens.{IsBare}
use Rattle.mql_parse.proofs.Endings.{Cut, Comes, IfTooLarge, if_too_large, IfExpected, if_expected, Ends, behind_read}
use Rattle.mql_parse.proofs.Endings.{cut_before, cut_as}
use Rattle.mql_parse.proofs.TokenEndings.{none_too_large, expected_of}

-- what stands before a fault is the front of a token of this kind, and not the whole of it
pub record HaltFault (w : What) (K L : List ℕ → Type 0) (s : Rest) (f : ParseFault) : Type 0 where
  pub front : List ℕ
  pub left : List ℕ
  pub bytes : s.bytes ≡ front ++ left
  pub place : f.at ≡ s.at + length front
  pub byte : ℕ
  pub rest : List ℕ
  pub is : L (front ++ byte ∷ rest)
  pub closes : w ≡ what.Text → open_quotes None (byte ∷ rest) ≡ Some Whole
  pub unfinished : K front
  pub small : IfTooLarge f.kind ⊥
  pub kind : IfExpected f.kind (λ x. x ≡ w)

abbrev HaltsIn : {A : Type 0} → What → (List ℕ → Type 0) → (List ℕ → Type 0) → Rest → Outcome A → Type 0
HaltsIn w K L s (Ok x) = Cut L s x.1
HaltsIn w K L s (Err f) = HaltFault w K L s f

-- what was read is a text of a kind, or what stands before the fault is a front of one, and holds open what it is a
-- part of
pub record Halts {A : Type 0} (w : What) (K L : List ℕ → Type 0) (s : Rest) (o : Outcome A) : Type 0 where
  pub way : HaltsIn w K L s o

pub halted_at : {A : Type 0} {K L : List ℕ → Type 0} (w : What) (kind : ParseKind) (s : Rest) (byte : ℕ)
    (rest : List ℕ) → K [] → L (byte ∷ rest) → (w ≡ what.Text → open_quotes None (byte ∷ rest) ≡ Some Whole) →
    IfTooLarge kind ⊥ → IfExpected kind (λ x. x ≡ w) →
    Halts {A = A} w K L s (Err (fault kind s))
halted_at w kind s byte rest u h q k e = record {
  way = record {
    front = [];
    left = s.bytes;
    bytes = refl;
    place = omega arith;
    byte = byte;
    rest = rest;
    is = h;
    closes = q;
    unfinished = u;
    small = k;
    kind = e;
  };
}

pub halted_unexpected : {A : Type 0} {K L : List ℕ → Type 0} (w : What) (s : Rest) (byte : ℕ) (rest : List ℕ) →
    K [] → L (byte ∷ rest) → (w ≡ what.Text → ⊥) → Halts {A = A} w K L s (Err (unexpected_fault w s))
halted_unexpected {K = K} {L = L} w s byte rest u h o =
    halted_at {K = K} {L = L} w (kind_of_fault w s.bytes) s byte rest u h (λ e. absurd (o e))
    (none_too_large ⊥ w s.bytes)
    (expected_of (λ x. x ≡ w) w s.bytes refl)

pub if_halts : {A : Type 0} {w : What} {K L : List ℕ → Type 0} {s : Rest} (t : Bool) (o p : Outcome A) →
    (t ≡ true → Halts w K L s o) → (t ≡ false → Halts w K L s p) → Halts w K L s (if t then o else p)
if_halts true o p f g = f refl
if_halts false o p f g = g refl

-- a part of the token, and what is read behind it
pub halts_on : {A : Type 0} {w : What} {K N L M : List ℕ → Type 0} (s m : Rest) (v : List ℕ) (o : Outcome A) →
    s.bytes ≡ v ++ m.bytes → m.at ≡ s.at + length v → Halts w K L m o → ((u : List ℕ) → K u → N (v ++ u)) →
    ((u : List ℕ) → L u → M (v ++ u)) → Halts w N M s o
halts_on {M = M} s m v (Ok x) e p h k f = record { way = cut_before {N = M} s m x.1 v e p (cut_as m x.1 h.way f) }
halts_on {M = M} s m v (Err x) e p h k f = let g = h.way in record {
  way = record {
    front = v ++ g.front;
    left = g.left;
    bytes = e ∙ ap (λ t. v ++ t) g.bytes ∙ sym (append_assoc v g.front g.left);
    place = omega (arith, p, g.place, length-append v g.front);
    byte = g.byte;
    rest = g.rest;
    is = subst M (sym (append_assoc v g.front (g.byte ∷ g.rest))) (f (g.front ++ g.byte ∷ g.rest) g.is);
    closes = g.closes;
    unfinished = k g.front g.unfinished;
    small = g.small;
    kind = g.kind;
  };
}

pub halts_map : {A B : Type 0} {w : What} {K L : List ℕ → Type 0} (s : Rest) (f : A → B) (o : Outcome A) →
    Halts w K L s o → Halts w K L s (map_outcome f o)
halts_map s f (Ok x) h = record { way = h.way }
halts_map s f (Err e) h = record { way = h.way }

-- a reader within a token, from before the token on, of which a part was read
pub halts_end : {A : Type 0} {w : What} {K L R : List ℕ → Type 0} (s m : Rest) (v before : List ℕ) (b : ℕ)
    (o : Outcome A) → s.bytes ≡ v ++ m.bytes → m.at ≡ s.at + length v → v ≡ before ++ b ∷ [] → Halts w K L m o →
    ((u : List ℕ) → L u → R (v ++ u)) → ((u : List ℕ) → K u → IsBare w (b ∷ u) → ⊥) →
    ((u : List ℕ) → L u → IsBare w (b ∷ u)) → Ends behind_read (λ x. R) R s o
halts_end {R = R} s m v before b (Ok x) e p q h f o k =
    record { way = cut_before {N = R} s m x.1 v e p (cut_as m x.1 h.way f) }
halts_end {w = w} {R = R} s m v before b (Err x) e p q h f o k =
    let g = h.way in
    let front = v ++ g.front in
    let whole = subst R (sym (append_assoc v g.front (g.byte ∷ g.rest))) (f (g.front ++ g.byte ∷ g.rest) g.is) in
    let comes : Comes R front w = record {
      before = before;
      begun = b ∷ g.front;
      byte = g.byte;
      rest = g.rest;
      parts = ap (λ t. t ++ g.front) q ∙ append_assoc before (b ∷ []) g.front;
      way = (o g.front g.unfinished, k (g.front ++ g.byte ∷ g.rest) g.is);
      more = [];
      closes = λ e. ap (λ t. open_quotes None (g.byte ∷ t)) (append-nil g.rest) ∙ g.closes e;
      is = subst (λ t. R (front ++ g.byte ∷ t)) (sym (append-nil g.rest)) whole;
    } in record {
      way = record {
        front = front;
        left = g.left;
        bytes = e ∙ ap (λ t. v ++ t) g.bytes ∙ sym (append_assoc v g.front g.left);
        place = omega (arith, p, g.place, length-append v g.front);
        tail = g.byte ∷ g.rest;
        is = whole;
        smaller = if_too_large x.kind (λ none. absurd none) g.small;
        comes = if_expected x.kind (λ y same. subst (Comes R front) (sym same) comes) g.kind;
      };
    }
