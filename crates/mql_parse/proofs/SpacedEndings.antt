-- What was read behind a keyword that no letter, digit or `_` may go on can be completed.
use Rattle.std.proofs.Common.{◌≡◌, ℕ, ◌+◌, Bool, true, false, ◌==◌, not, List, [], ◌∷◌, ◌++◌, length, refl, sym, ap}
use Rattle.std.proofs.Common.{◌∙◌, subst, arith, if◌then◌else◌, Result, Ok, Err}
use Rattle.std.proofs.lemmas.Bool.{false≢true}
use Rattle.mon_value.specs.Answers.{◌>>=◌}
use Rattle.mql_ast.specs.Tokens.{is_blank, is_digit, is_word_byte, Rest, first_of, head, skip}
use Rattle.mql_parse.specs.declared.faults.ParseFault.{ParseFault}
use Rattle.mql_parse.specs.declared.faults.What.{What}
use Rattle.mql_parse.specs.Outcomes.{unexpected_fault, exact, apart}
use Rattle.mql_parse.specs.FaultNumbers.{IsNumber}
use Rattle.mql_parse.specs.FaultTokens.{IsBare}
use Rattle.mql_parse.proofs.TokenFronts.{WordOf}
use Rattle.mql_parse.proofs.Endings.{is_inner, Anyhow, Worded, Parted, Text, Then, join, Default, Smaller, IfTooLarge}
use Rattle.mql_parse.proofs.Endings.{if_too_large, ComesBy, Comes, IfExpected, if_expected, Finish, Ends, bind_ends}
use Rattle.mql_parse.proofs.Endings.{ends_as}
use Rattle.mql_parse.proofs.TokenEndings.{begun_here, all_nonzero, word_ends, SpacedSpan}
use Rattle.mql_parse.proofs.TokenEndings.{spaced}
use Rattle.mql_parse.proofs.ByteLemmas.{and_first, digit_in_word}

no_parts : (a b : List ℕ) → [] ≡ a ++ b → b ≡ []
no_parts [] b h = sym h
no_parts (x ∷ a) b h = absurd (cc)

-- what comes at the front begins with a blank, and stands apart
blank_first : {c : Bool} {S : List ℕ → List ℕ → Type 0} (w : What) → Comes (Text Worded c S) [] w →
    Comes (Text Parted c S) [] w
blank_first {c = c} {S = S} w g = record {
  before = g.before;
  begun = g.begun;
  byte = g.byte;
  rest = g.rest;
  parts = g.parts;
  way = g.way;
  more = g.more;
  closes = g.closes;
  is = record {
    opens = λ u. ap is_inner (by_begun g.begun (no_parts g.before g.begun g.parts) g.way);
    fills = g.is.fills;
  };
}
  where
    by_begun : (begun : List ℕ) → begun ≡ [] → ComesBy w begun g.byte g.rest → g.byte ≡ 10
    by_begun [] e k = k.0
    by_begun (b ∷ begun) e k = absurd (cc)

-- what is read where no word byte stands stands apart
pub parted : {B : Type 0} {left : B → Rest} {k : B → Bool} {R : B → List ℕ → List ℕ → Type 0} {c : Bool} {S : List ℕ →
    List ℕ → Type 0} → (m : Rest) (o : Result B ParseFault) → is_word_byte (head m) ≡ false → Default
    (Text Parted c S) →
    Ends left (λ y. Text Worded (k y) (R y)) (Text Worded c S) m o → Ends left (λ y. Text Parted (k y) (R y))
    (Text Parted c S) m o
parted {left = left} m (Ok y) h d f = let t = f.way in record {
  way = record {
    front = t.front;
    bytes = t.bytes;
    place = t.place;
    is = record {
      opens = t.is.opens (left y).bytes (ap (λ u. is_word_byte (first_of u)) (sym t.bytes) ∙ h);
      fills = t.is.fills;
    };
  };
}
parted {c = c} {S = S} m (Err e) h d f =
    record { way = by_front f.way.front f.way.left f.way.bytes f.way.place f.way.tail f.way.is f.way.comes }
  where
    opened : (x : ℕ) (v u : List ℕ) → m.bytes ≡ x ∷ v → Text Worded c S (x ∷ u) → Text Parted c S (x ∷ u)
    opened x v u b t = record {
      opens = t.opens [] (ap (λ u. is_word_byte (first_of u)) (sym b) ∙ h);
      fills = t.fills;
    }

    no_number_first : (number after : List ℕ) → IsNumber number → m.bytes ≡ number ++ after → ⊥
    no_number_first [] after n b = absurd n
    no_number_first (x ∷ number) after n b =
        false≢true (sym h ∙ ap (λ u. is_word_byte (first_of u)) b
        ∙ digit_in_word x (and_first (is_digit x) (not (x == 48)) n.0))

    smaller_parted : (at : ℕ) → Smaller (Text Worded c S) m at → Smaller (Text Parted c S) m at
    smaller_parted at g = record {
      before = g.before;
      number = g.number;
      byte = g.byte;
      after = g.after;
      is_number = g.is_number;
      bytes = g.bytes;
      place = g.place;
      tail = g.tail;
      is = by_first g.before g.bytes g.is;
    }
      where
        by_first : (before : List ℕ) → m.bytes ≡ before ++ (g.number ++ g.byte ∷ g.after) →
            Text Worded c S (before ++ 49 ∷ g.byte ∷ g.tail) → Text Parted c S (before ++ 49 ∷ g.byte ∷ g.tail)
        by_first [] b t = absurd (no_number_first g.number (g.byte ∷ g.after) g.is_number b)
        by_first (x ∷ before) b t =
            opened x (before ++ (g.number ++ g.byte ∷ g.after)) (before ++ 49 ∷ g.byte ∷ g.tail) b t

    smaller : IfTooLarge e.kind (Smaller (Text Parted c S) m e.at)
    smaller = if_too_large e.kind (smaller_parted e.at) f.way.smaller

    by_front : (front left : List ℕ) → m.bytes ≡ front ++ left → e.at ≡ m.at + length front → (tail : List ℕ) →
        Text Worded c S (front ++ tail) → IfExpected e.kind (Comes (Text Worded c S) front) →
        Finish (Text Parted c S) m e
    by_front [] left b p tail t g = record {
      front = [];
      left = left;
      bytes = b;
      place = p;
      tail = d.text;
      is = d.is;
      smaller = smaller;
      comes = if_expected e.kind blank_first g;
    }
    by_front (x ∷ front) left b p tail t g = record {
      front = x ∷ front;
      left = left;
      bytes = b;
      place = p;
      tail = tail;
      is = opened x (front ++ left) (front ++ tail) b t;
      smaller = smaller;
      comes = if_expected e.kind (λ w k. record {
        before = k.before;
        begun = k.begun;
        byte = k.byte;
        rest = k.rest;
        parts = k.parts;
        way = k.way;
        more = k.more;
        closes = k.closes;
        is = opened x (front ++ left) (front ++ k.byte ∷ (k.rest ++ k.more)) b k.is;
      }) g;
    }

-- a text that begins with a line's end and a token of this kind
pub record Opening (w : What) (t : List ℕ) : Type 0 where
  pub token : List ℕ
  pub more : List ℕ
  pub is : t ≡ 10 ∷ (token ++ more)
  pub bare : IsBare w token

pub apart_ends : {B : Type 0} {left : B → Rest} {k : B → Bool} {R : B → List ℕ → List ℕ → Type 0} {c : Bool}
    {S : List ℕ → List ℕ → Type 0} (w : What) (m : Rest) (f : Rest → Result B ParseFault) →
    (d : Default (Text Parted c S)) → Opening w d.text →
    Ends left (λ y. Text Worded (k y) (R y)) (Text Worded c S) m (f m) → Ends left (λ y. Text Parted (k y) (R y))
    (Text Parted c S) m (apart w m >>= f)
apart_ends {left = left} {k = k} {R = R} {c = c} {S = S} w m f d o g = either (is_word_byte (head m)) refl
  where
    either : (t : Bool) → is_word_byte (head m) ≡ t → Ends left (λ y. Text Parted (k y) (R y)) (Text Parted c S) m
        ((if t then Err (unexpected_fault w m) else Ok m) >>= f)
    either true h = record {
      way = begun_here {L = Text Parted c S} w m m [] [] [] 10 o.token o.more refl (omega arith) refl (refl, o.bare) tt
          (subst (Text Parted c S) o.is d.is);
    }
    either false h = parted m (f m) h d g

in_turn : {A B C : Type 0} (o : Result A ParseFault) (g : A → Result B ParseFault) (f : B → Result C ParseFault) →
    ((o >>= g) >>= f) ≡ (o >>= λ x. g x >>= f)
in_turn (Ok x) g f = refl
in_turn (Err e) g f = refl

-- what is read behind a keyword that no word byte goes on
pub spaced_ends : {B : Type 0} {left : B → Rest} {k : B → Bool} {R : B → List ℕ → List ℕ → Type 0} {c' : Bool}
    {S : List ℕ → List ℕ → Type 0} (v w : What) (c : ℕ) (cs : List ℕ) → is_blank c ≡ false →
    all_nonzero (c ∷ cs) ≡ true → WordOf v c cs → (s : Rest)
    (f : Rest → Result B ParseFault) → (d : Default (Text Parted c' S)) → Opening w d.text →
    ((m : Rest) → Ends left (λ y. Text Worded (k y) (R y)) (Text Worded c' S) m (f m)) →
    Ends left (λ y. Text Anyhow (k y) (Then (SpacedSpan (c ∷ cs)) (R y)))
    (Text Anyhow c' (Then (SpacedSpan (c ∷ cs)) S)) s (exact v (c ∷ cs) (skip s) >>= λ m. apart w m >>= f)
spaced_ends v w c cs blank nonzero k s f d o g =
    bind_ends s (exact v (c ∷ cs) (skip s)) _ (word_ends Anyhow v c cs blank tt nonzero k s)
    (λ x t. record { text = d.text; plain = d.plain; is = join x d.text refl (spaced (c ∷ cs) x t) d.is })
    (λ m x t. ends_as m (apart w m >>= f) (apart_ends w m f d o (g m)) (λ y u h. join x u refl (spaced
    (c ∷ cs) x t) h)
    (λ u h. join x u refl (spaced (c ∷ cs) x t) h))

pub word_spaced_ends : {B : Type 0} {left : B → Rest} {k : B → Bool} {R : B → List ℕ → List ℕ → Type 0} {c' : Bool}
    {S : List ℕ → List ℕ → Type 0} (v w : What) (c : ℕ) (cs : List ℕ) → is_blank c ≡ false →
    all_nonzero (c ∷ cs) ≡ true → WordOf v c cs → (s : Rest)
    (f : Rest → Result B ParseFault) → (d : Default (Text Parted c' S)) → Opening w d.text →
    ((m : Rest) → Ends left (λ y. Text Worded (k y) (R y)) (Text Worded c' S) m (f m)) →
    Ends left (λ y. Text Anyhow (k y) (Then (SpacedSpan (c ∷ cs)) (R y)))
    (Text Anyhow c' (Then (SpacedSpan (c ∷ cs)) S)) s ((exact v (c ∷ cs) (skip s) >>= λ m. apart w m) >>= f)
word_spaced_ends {left = left} {k = k} {R = R} {c' = c'} {S = S} v w c cs blank nonzero token s f d o g =
    subst (λ o. Ends left (λ y. Text Anyhow (k y) (Then (SpacedSpan (c ∷ cs)) (R y)))
    (Text Anyhow c' (Then (SpacedSpan (c ∷ cs)) S)) s o)
    (sym (in_turn (exact v (c ∷ cs) (skip s)) (λ m. apart w m) f))
    (spaced_ends v w c cs blank nonzero token s f d o g)
