-- What was read of a part before its fault can be completed to a whole part.
use Rattle.std.proofs.Common.{◌≡◌, ℕ, zero, suc, ◌+◌, ◌<◌, Bool, true, false, ◌==◌, ◌||◌, List, [], ◌∷◌, ◌++◌, length}
use Rattle.std.proofs.Common.{refl, sym, ap, ◌∙◌, subst, arith, if◌then◌else◌, append_assoc, length-append, Some, None}
use Rattle.std.proofs.Common.{Result, Ok, Err}
use Rattle.std.proofs.lemmas.Bool.{false≢true}
use Rattle.std.proofs.lemmas.List.{append-nil}
use Rattle.std.specs.Result.{IfOk}
use Rattle.mon_value.specs.Answers.{◌>>=◌}
use Rattle.mql_ast.specs.Tokens.{is_word_byte, is_metric_byte, Rest, first_of}
use Rattle.mql_ast.specs.Quotes.{Whole}
use Rattle.mql_parse.specs.declared.faults.ParseFault.{ParseFault}
use Rattle.mql_parse.specs.declared.faults.ParseKind.{ParseKind}
use Rattle.mql_parse.specs.declared.faults.ParseKind.TheVariants.{BadToken, BadPattern, Expected, NumberTooLarge}
use Rattle.mql_parse.specs.declared.faults.ParseKind.TheVariants.{TooDeep, TooLong}
use Rattle.mql_parse.specs.declared.faults.What.{What}
use Rattle.mql_parse.specs.FaultNumbers.{IsNumber}
use Rattle.mql_parse.specs.declared.faults.What.TheVariants as what
use Rattle.mql_parse.specs.Faults.{open_quotes}
use Rattle.mql_parse.specs.FaultTokens.{IsBare}
use Rattle.mql_parse.specs.Outcomes.{Outcome}
use Rattle.mql_parse.specs.Repeats.{Turn, Done, Again, Stuck, turn_outcome, repetition, goes_on, on_read}
use Rattle.mql_parse.specs.Behind.{Behind}
use Rattle.mql_parse.specs.Soundness.{OfTurn}
use Rattle.mql_parse.proofs.BehindLemmas.{behind_is_shorter}
use Rattle.mql_parse.proofs.KindFits.{quotes_append}
use Rattle.mql_parse.proofs.Loops.{GoesBehind}
use Rattle.mql_parse.proofs.Sound.{repeated_turn}

-- what a name, a number or a metric may go on with
abbrev pub is_inner : ℕ → Bool
is_inner b = is_metric_byte b || b == 47

-- these bytes don't go on what stands before them
abbrev pub Stops : List ℕ → Type 0
Stops z = is_inner (first_of z) ≡ false

-- whether a text may stand directly behind a name: not known, where no letter, digit or `_` begins it, or always
pub data Front : Type 0 where
  Anyhow : Front
  Worded : Front
  Parted : Front

abbrev pub OpensAs : Front → List ℕ → Type 0
OpensAs Anyhow w = Unit {0}
OpensAs Worded w = (v : List ℕ) → is_word_byte (first_of (w ++ v)) ≡ false → (u : List ℕ) → Stops (w ++ u)
OpensAs Parted w = (u : List ℕ) → Stops (w ++ u)

-- whether anything may stand behind a text, or only what doesn't go on a name
abbrev pub Ended : Bool → List ℕ → Type 0
Ended true z = Unit {0}
Ended false z = Stops z

-- a text that is a whole part of this kind: the part lies between what is left before and behind it
pub record Text (o : Front) (c : Bool) (R : List ℕ → List ℕ → Type 0) (w : List ℕ) : Type 0 where
  pub opens : OpensAs o w
  pub fills : (z : List ℕ) → Ended c z → R (w ++ z) z

-- two parts, one behind the other
pub record Then (R S : List ℕ → List ℕ → Type 0) (x z : List ℕ) : Type 0 where
  pub between : List ℕ
  pub first : R x between
  pub second : S between z

abbrev pub joins : Bool → Front → Bool
joins true o = true
joins false Parted = true
joins false Worded = false
joins false Anyhow = false

pub opens_on : (o : Front) (a b : List ℕ) → OpensAs o a → OpensAs o (a ++ b)
opens_on Anyhow a b f = tt
opens_on Worded a b f =
    λ v h u. subst Stops (sym (append_assoc a b u))
    (f (b ++ v) (subst (λ t. is_word_byte (first_of t) ≡ false) (append_assoc a b v) h) (b ++ u))
opens_on Parted a b f = λ u. subst Stops (sym (append_assoc a b u)) (f (b ++ u))

ends_before : (c : Bool) (o : Front) (b z : List ℕ) → joins c o ≡ true → OpensAs o b → Ended c (b ++ z)
ends_before true o b z j h = tt
ends_before false Parted b z j h = h z
ends_before false Worded b z j h = absurd (false≢true j)
ends_before false Anyhow b z j h = absurd (false≢true j)

pub join : {o o' : Front} {c c' : Bool} {R S : List ℕ → List ℕ → Type 0} (a b : List ℕ) → joins c o' ≡ true →
    Text o c R a → Text o' c' S b → Text o c' (Then R S) (a ++ b)
join {o = o} {o' = o'} {c = c} {R = R} {S = S} a b j f g = record {
  opens = opens_on o a b f.opens;
  fills = λ z h. subst (λ t. Then R S t z) (sym (append_assoc a b z))
      (record { between = b ++ z; first = f.fills (b ++ z) (ends_before c o' b z j g.opens); second = g.fills z h });
}

pub changed : {o : Front} {c : Bool} {R S : List ℕ → List ℕ → Type 0} → ((x z : List ℕ) → R x z → S x z) →
    (w : List ℕ) → Text o c R w → Text o c S w
changed h w f = record { opens = f.opens; fills = λ z e. h (w ++ z) z (f.fills z e) }

pub worded : {c : Bool} {R : List ℕ → List ℕ → Type 0} (w : List ℕ) → Text Parted c R w → Text Worded c R w
worded w f = record { opens = λ v h u. f.opens u; fills = f.fills }

pub anyhow : {o : Front} {c : Bool} {R : List ℕ → List ℕ → Type 0} (w : List ℕ) → Text o c R w → Text Anyhow c R w
anyhow w f = record { opens = tt; fills = f.fills }

pub unended : {o : Front} {R : List ℕ → List ℕ → Type 0} (w : List ℕ) → Text o true R w → Text o false R w
unended w f = record { opens = f.opens; fills = λ z h. f.fills z tt }

-- bytes that leave quotes open where they are, and so have none
abbrev pub NoQuotes : List ℕ → Type 0
NoQuotes t = open_quotes (Some Whole) t ≡ Some Whole

pub no_quotes_on : (a b : List ℕ) → NoQuotes a → NoQuotes b → NoQuotes (a ++ b)
no_quotes_on a b f g = quotes_append (Some Whole) a b ∙ ap (λ o. open_quotes o b) f ∙ g

-- one text of a kind, without quotes
pub record Default (L : List ℕ → Type 0) : Type 0 where
  pub text : List ℕ
  pub plain : NoQuotes text
  pub is : L text

abbrev pub both : {o o' : Front} {c c' : Bool} {R S : List ℕ → List ℕ → Type 0} → joins c o' ≡ true →
    Default (Text o c R) →
    Default (Text o' c' S) → Default (Text o c' (Then R S))
both j f g = record {
  text = f.text ++ g.text;
  plain = no_quotes_on f.text g.text f.plain g.plain;
  is =
      join f.text g.text j f.is g.is;
}

abbrev pub default_as : {L M : List ℕ → Type 0} → ((w : List ℕ) → L w → M w) → Default L → Default M
default_as h d = record { text = d.text; plain = d.plain; is = h d.text d.is }

-- what was read between the two is a text of a kind
pub record Cut (L : List ℕ → Type 0) (s r : Rest) : Type 0 where
  pub front : List ℕ
  pub bytes : s.bytes ≡ front ++ r.bytes
  pub place : r.at ≡ s.at + length front
  pub is : L front

-- the byte at this place stands behind a number, and with 1 in place of the number begins a text of a kind
pub record Smaller (L : List ℕ → Type 0) (s : Rest) (at : ℕ) : Type 0 where
  pub before : List ℕ
  pub number : List ℕ
  pub byte : ℕ
  pub after : List ℕ
  pub is_number : IsNumber number
  pub bytes : s.bytes ≡ before ++ (number ++ byte ∷ after)
  pub place : at ≡ s.at + (length before + length number)
  pub tail : List ℕ
  pub is : L (before ++ 49 ∷ byte ∷ tail)

-- what is claimed of a number that is too large, and nothing of another kind of fault
abbrev pub IfTooLarge : ParseKind → Type 0 → Type 0
IfTooLarge NumberTooLarge P = P
IfTooLarge (Expected w) P = Unit {0}
IfTooLarge TooDeep P = Unit {0}
IfTooLarge BadToken P = Unit {0}
IfTooLarge BadPattern P = Unit {0}
IfTooLarge TooLong P = Unit {0}

pub if_too_large : {P Q : Type 0} (kind : ParseKind) → (P → Q) → IfTooLarge kind P → IfTooLarge kind Q
if_too_large NumberTooLarge f h = f h
if_too_large (Expected w) f h = tt
if_too_large TooDeep f h = tt
if_too_large BadToken f h = tt
if_too_large BadPattern f h = tt
if_too_large TooLong f h = tt

pub known_smaller : {P : Type 0} (kind : ParseKind) → P → IfTooLarge kind P
known_smaller NumberTooLarge h = h
known_smaller (Expected w) h = tt
known_smaller TooDeep h = tt
known_smaller BadToken h = tt
known_smaller BadPattern h = tt
known_smaller TooLong h = tt

-- what comes is a line's end and a token of this kind, or the rest of one that was begun
abbrev pub ComesBy : What → List ℕ → ℕ → List ℕ → Type 0
ComesBy w [] byte rest = (byte ≡ 10) × IsBare w rest
ComesBy w (b ∷ begun) byte rest = (IsBare w (b ∷ begun) → ⊥) × IsBare w (b ∷ (begun ++ byte ∷ rest))

-- behind a text in quotes that was begun, the rest opens quotes where none are open
abbrev pub Closes : What → List ℕ → List ℕ → Type 0
Closes w [] tail = Unit {0}
Closes w (b ∷ begun) tail = w ≡ what.Text → open_quotes None tail ≡ Some Whole

closes_on : (w : What) (begun tail d : List ℕ) → NoQuotes d → Closes w begun tail → Closes w begun (tail ++ d)
closes_on w [] tail d p h = tt
closes_on w (b ∷ begun) tail d p h = λ e. quotes_append None tail d ∙ ap (λ o. open_quotes o d) (h e) ∙ p

-- the front goes on with what comes to a text of a kind
pub record Comes (L : List ℕ → Type 0) (front : List ℕ) (w : What) : Type 0 where
  pub before : List ℕ
  pub begun : List ℕ
  pub byte : ℕ
  pub rest : List ℕ
  pub parts : front ≡ before ++ begun
  pub way : ComesBy w begun byte rest
  pub more : List ℕ
  pub closes : Closes w begun (byte ∷ (rest ++ more))
  pub is : L (front ++ byte ∷ (rest ++ more))

-- what is claimed of a fault that expects something, and nothing of another kind of fault
abbrev pub IfExpected : ParseKind → (What → Type 0) → Type 0
IfExpected NumberTooLarge P = Unit {0}
IfExpected (Expected w) P = P w
IfExpected TooDeep P = Unit {0}
IfExpected BadToken P = Unit {0}
IfExpected BadPattern P = Unit {0}
IfExpected TooLong P = Unit {0}

pub if_expected : {P Q : What → Type 0} (kind : ParseKind) → ((w : What) → P w → Q w) → IfExpected kind P →
    IfExpected kind Q
if_expected NumberTooLarge f h = tt
if_expected (Expected w) f h = f w h
if_expected TooDeep f h = tt
if_expected BadToken f h = tt
if_expected BadPattern f h = tt
if_expected TooLong f h = tt

pub expected_by : {P Q : What → Type 0} (kind : ParseKind) → ((w : What) → kind ≡ Expected w → P w → Q w) →
    IfExpected kind P → IfExpected kind Q
expected_by NumberTooLarge f h = tt
expected_by (Expected w) f h = f w refl h
expected_by TooDeep f h = tt
expected_by BadToken f h = tt
expected_by BadPattern f h = tt
expected_by TooLong f h = tt

-- what stands before a fault is the front of a text of a kind
pub record Finish (L : List ℕ → Type 0) (s : Rest) (f : ParseFault) : Type 0 where
  pub front : List ℕ
  pub left : List ℕ
  pub bytes : s.bytes ≡ front ++ left
  pub place : f.at ≡ s.at + length front
  pub tail : List ℕ
  pub is : L (front ++ tail)
  pub smaller : IfTooLarge f.kind (Smaller L s f.at)
  pub comes : IfExpected f.kind (Comes L front)

abbrev pub EndsIn : {A : Type 0} → (A → Rest) → (A → List ℕ → Type 0) → (List ℕ → Type 0) → Rest →
    Result A ParseFault → Type 0
EndsIn left P E s (Ok x) = Cut (P x) s (left x)
EndsIn left P E s (Err f) = Finish E s f

-- what was read is of the one kind, or what stands before the fault is a front of the other
pub record Ends {A : Type 0} (left : A → Rest) (P : A → List ℕ → Type 0) (E : List ℕ → Type 0) (s : Rest)
    (o : Result A ParseFault) : Type 0 where
  pub way : EndsIn left P E s o

abbrev pub behind_read : {A : Type 0} → A × Rest → Rest
behind_read x = x.1

abbrev pub itself : Rest → Rest
itself r = r

abbrev pub Reads : {A : Type 0} → (List ℕ → Type 0) → Rest → Outcome A → Type 0
Reads {A = A} L s o = Ends {A = A × Rest} behind_read (λ x. L) L s o

abbrev pub Leaves : (List ℕ → Type 0) → Rest → Result Rest ParseFault → Type 0
Leaves L s o = Ends itself (λ x. L) L s o

-- the same from further in front
pub cut_before : {N : List ℕ → Type 0} (s m r : Rest) (w : List ℕ) → s.bytes ≡ w ++ m.bytes → m.at ≡ s.at + length w →
    Cut (λ v. N (w ++ v)) m r → Cut N s r
cut_before s m r w e p g = record {
  front = w ++ g.front;
  bytes = e ∙ ap (λ t. w ++ t) g.bytes ∙ sym (append_assoc w g.front r.bytes);
  place = omega (arith, p, g.place, length-append w g.front);
  is = g.is;
}

smaller_before : {N : List ℕ → Type 0} (s m : Rest) (at : ℕ) (w : List ℕ) → s.bytes ≡ w ++ m.bytes →
    m.at ≡ s.at + length w → Smaller (λ v. N (w ++ v)) m at → Smaller N s at
smaller_before {N = N} s m at w e p g = record {
  before = w ++ g.before;
  number = g.number;
  byte = g.byte;
  after = g.after;
  is_number = g.is_number;
  bytes = e ∙ ap (λ t. w ++ t) g.bytes ∙ sym (append_assoc w g.before (g.number ++ g.byte ∷ g.after));
  place = omega (arith, p, g.place, length-append w g.before);
  tail = g.tail;
  is = subst N (sym (append_assoc w g.before (49 ∷ g.byte ∷ g.tail))) g.is;
}

comes_before : {N : List ℕ → Type 0} (v front : List ℕ) (w : What) → Comes (λ u. N (v ++ u)) front w →
    Comes N (v ++ front) w
comes_before {N = N} v front w g = record {
  before = v ++ g.before;
  begun = g.begun;
  byte = g.byte;
  rest = g.rest;
  parts = ap (λ t. v ++ t) g.parts ∙ sym (append_assoc v g.before g.begun);
  way = g.way;
  more = g.more;
  closes = g.closes;
  is = subst N (sym (append_assoc v front (g.byte ∷ (g.rest ++ g.more)))) g.is;
}

pub finish_before : {N : List ℕ → Type 0} (s m : Rest) (f : ParseFault) (w : List ℕ) → s.bytes ≡ w ++ m.bytes →
    m.at ≡ s.at + length w → Finish (λ v. N (w ++ v)) m f → Finish N s f
finish_before {N = N} s m f w e p g = record {
  front = w ++ g.front;
  left = g.left;
  bytes = e ∙ ap (λ t. w ++ t) g.bytes ∙ sym (append_assoc w g.front g.left);
  place = omega (arith, p, g.place, length-append w g.front);
  tail = g.tail;
  is = subst N (sym (append_assoc w g.front g.tail)) g.is;
  smaller = if_too_large f.kind (smaller_before {N = N} s m f.at w e p) g.smaller;
  comes = if_expected f.kind (comes_before {N = N} w g.front) g.comes;
}

smaller_as : {L M : List ℕ → Type 0} (s : Rest) (at : ℕ) → ((w : List ℕ) → L w → Default (λ v. M (w ++ v))) →
    Smaller L s at → Smaller M s at
smaller_as {M = M} s at h g = let d = h (g.before ++ 49 ∷ g.byte ∷ g.tail) g.is in record {
  before = g.before;
  number = g.number;
  byte = g.byte;
  after = g.after;
  is_number = g.is_number;
  bytes = g.bytes;
  place = g.place;
  tail = g.tail ++ d.text;
  is = subst M (append_assoc g.before (49 ∷ g.byte ∷ g.tail) d.text) d.is;
}

comes_as : {L M : List ℕ → Type 0} (front : List ℕ) → ((v : List ℕ) → L v → Default (λ u. M (v ++ u))) → (w : What) →
    Comes L front w → Comes M front w
comes_as {M = M} front h w g =
    let t = g.byte ∷ (g.rest ++ g.more) in
    let d = h (front ++ t) g.is in record {
      before = g.before;
      begun = g.begun;
      byte = g.byte;
      rest = g.rest;
      parts = g.parts;
      way = g.way;
      more = g.more ++ d.text;
      closes = subst (λ u. Closes w g.begun (g.byte ∷ u)) (append_assoc g.rest g.more d.text)
          (closes_on w g.begun t d.text d.plain g.closes);
      is = subst M (append_assoc front t d.text
          ∙ ap (λ u. front ++ g.byte ∷ u) (append_assoc g.rest g.more d.text)) d.is;
    }

pub finish_as : {L M : List ℕ → Type 0} (s : Rest) (e : ParseFault) → Finish L s e →
    ((w : List ℕ) → L w → Default (λ v. M (w ++ v))) → Finish M s e
finish_as {M = M} s e f h = let d = h (f.front ++ f.tail) f.is in record {
  front = f.front;
  left = f.left;
  bytes = f.bytes;
  place = f.place;
  tail = f.tail ++ d.text;
  is = subst M (append_assoc f.front f.tail d.text) d.is;
  smaller = if_too_large e.kind (smaller_as {M = M} s e.at h) f.smaller;
  comes = if_expected e.kind (comes_as {M = M} f.front h) f.comes;
}

-- nothing more is needed
pub as_it_is : (M : List ℕ → Type 0) (w : List ℕ) → M w → Default (λ v. M (w ++ v))
as_it_is M w h = record { text = []; plain = refl; is = subst M (sym (append-nil w)) h }

-- nothing more is read
pub stay : (N : List ℕ → Type 0) (s : Rest) (w : List ℕ) → N w → Cut (λ v. N (w ++ v)) s s
stay N s w h = record { front = []; bytes = refl; place = omega arith; is = subst N (sym (append-nil w)) h }

pub cut_as : {L M : List ℕ → Type 0} (s r : Rest) → Cut L s r → ((w : List ℕ) → L w → M w) → Cut M s r
cut_as s r f h = record { front = f.front; bytes = f.bytes; place = f.place; is = h f.front f.is }

-- what is read behind a part
pub ends_before_it : {B : Type 0} {left : B → Rest} {R : B → List ℕ → Type 0} {F : List ℕ → Type 0} (s m : Rest)
    (w : List ℕ) (o : Result B ParseFault) → s.bytes ≡ w ++ m.bytes → m.at ≡ s.at + length w →
    Ends left (λ y v. R y (w ++ v)) (λ v. F (w ++ v)) m o → Ends left R F s o
ends_before_it {left = left} {R = R} {F = F} s m w (Ok y) e p h =
    record { way = cut_before {N = R y} s m (left y) w e p h.way }
ends_before_it {left = left} {R = R} {F = F} s m w (Err f) e p h =
    record { way = finish_before {N = F} s m f w e p h.way }

pub cut_then : {B : Type 0} {left : B → Rest} {L : List ℕ → Type 0} {R : B → List ℕ → Type 0} {F : List ℕ → Type 0}
    (s m : Rest) (o : Result B ParseFault) → Cut L s m →
    ((w : List ℕ) → L w → Ends left (λ y v. R y (w ++ v)) (λ v. F (w ++ v)) m o) → Ends left R F s o
cut_then s m o c h = ends_before_it s m c.front o c.bytes c.place (h c.front c.is)

pub bind_ends : {A B : Type 0} {left : A → Rest} {left' : B → Rest} {P : A → List ℕ → Type 0} {E : List ℕ → Type 0}
    {R : B → List ℕ → Type 0} {F : List ℕ → Type 0} (s : Rest) (o : Result A ParseFault) (f : A → Result B ParseFault) →
    Ends left P E s o → ((w : List ℕ) → E w → Default (λ v. F (w ++ v))) →
    ((x : A) (w : List ℕ) → P x w → Ends left' (λ y v. R y (w ++ v)) (λ v. F (w ++ v)) (left x) (f x)) →
    Ends left' R F s (o >>= f)
bind_ends {left = left} s (Ok x) f h d g = cut_then s (left x) (f x) h.way (g x)
bind_ends {F = F} s (Err e) f h d g = record { way = finish_as {M = F} s e h.way d }

pub ends_as : {A : Type 0} {left : A → Rest} {P Q : A → List ℕ → Type 0} {E F : List ℕ → Type 0} (s : Rest)
    (o : Result A ParseFault) → Ends left P E s o → ((x : A) (w : List ℕ) → P x w → Q x w) →
    ((w : List ℕ) → E w → F w) → Ends left Q F s o
ends_as {left = left} s (Ok x) h f g = record { way = cut_as s (left x) h.way (f x) }
ends_as {F = F} s (Err e) h f g = record { way = finish_as {M = F} s e h.way (λ w t. as_it_is F w (g w t)) }

-- what is known of the value besides
pub ends_known : {A : Type 0} {left : A → Rest} {P : A → List ℕ → Type 0} {E : List ℕ → Type 0} {Q : A → Type 0}
    (s : Rest) (o : Result A ParseFault) → Ends left P E s o → IfOk o Q → Ends left (λ x w. P x w × Q x) E s o
ends_known {left = left} s (Ok x) h q = record { way = cut_as s (left x) h.way (λ w f. (f, q)) }
ends_known s (Err e) h q = record { way = h.way }

-- the value that was read, changed
pub done_ends : {A B : Type 0} {left : A → Rest} {left' : B → Rest} {P : A → List ℕ → Type 0} {Q : B → List ℕ →
    Type 0} {E : List ℕ → Type 0} (s : Rest) (o : Result A ParseFault) (f : A → B) → Ends left P E s o →
    ((x : A) → left x ≡ left' (f x)) → ((x : A) (w : List ℕ) → P x w → Q (f x) w) →
    Ends left' Q E s (o >>= λ x. Ok (f x))
done_ends {left = left} {Q = Q} s (Ok x) f h e g =
    record { way = subst (λ r. Cut (Q (f x)) s r) (e x) (cut_as s (left x) h.way (g x)) }
done_ends s (Err e) f h p g = record { way = h.way }

-- a part and one behind it
pub then_ends : {A B : Type 0} {left : A → Rest} {left' : B → Rest} {o o' : Front} {c c' : Bool} {S T : List ℕ →
    List ℕ → Type 0} (s : Rest) (m : Result A ParseFault) (f : A → Result B ParseFault) → joins c o' ≡ true →
    Ends left (λ x. Text o c S) (Text o c S) s m → Default (Text o' c' T) →
    ((x : A) → Ends left' (λ y. Text o' c' T) (Text o' c' T) (left x) (f x)) →
    Ends left' (λ y. Text o c' (Then S T)) (Text o c' (Then S T)) s (m >>= f)
then_ends s m f j h d g = bind_ends s m f h (λ w t. record {
  text = d.text;
  plain = d.plain;
  is = join w d.text j t
      d.is;
})
    (λ x w t. ends_as _ (f x) (g x) (λ y v u. join w v j t u) (λ v u. join w v j t u))

pub if_ends : {A : Type 0} {left : A → Rest} {P : A → List ℕ → Type 0} {E : List ℕ → Type 0} (s : Rest) (t : Bool)
    (o p : Result A ParseFault) → (t ≡ true → Ends left P E s o) → (t ≡ false → Ends left P E s p) →
    Ends left P E s (if t then o else p)
if_ends s true o p f g = f refl
if_ends s false o p f g = g refl

-- turns
abbrev pub TurnIn : {A : Type 0} → (A → List ℕ → Type 0) → (A → List ℕ → Type 0) → (List ℕ → Type 0) → Rest → Turn A →
    Type 0
TurnIn on ends E s (Done a r) = Cut (ends a) s r
TurnIn on ends E s (Again a r) = Cut (on a) s r
TurnIn on ends E s (Stuck f) = Finish E s f

-- where a turn ends, where it goes on, and where it is at fault
pub record TurnEnds {A : Type 0} (on ends : A → List ℕ → Type 0) (E : List ℕ → Type 0) (s : Rest) (t : Turn A) : Type
    0 where
  pub way : TurnIn on ends E s t

pub if_turns : {A : Type 0} {on ends : A → List ℕ → Type 0} {E : List ℕ → Type 0} (s : Rest) (t : Bool)
    (o p : Turn A) → (t ≡ true → TurnEnds on ends E s o) → (t ≡ false → TurnEnds on ends E s p) →
    TurnEnds on ends E s (if t then o else p)
if_turns s true o p f g = f refl
if_turns s false o p f g = g refl

pub turn_before : {A : Type 0} {on ends : A → List ℕ → Type 0} {E : List ℕ → Type 0} (s m : Rest) (w : List ℕ)
    (t : Turn A) → s.bytes ≡ w ++ m.bytes → m.at ≡ s.at + length w →
    TurnEnds (λ a v. on a (w ++ v)) (λ a v. ends a (w ++ v)) (λ v. E (w ++ v)) m t → TurnEnds on ends E s t
turn_before {on = on} {ends = ends} {E = E} s m w (Done a r) e p h =
    record { way = cut_before {N = ends a} s m r w e p h.way }
turn_before {on = on} {ends = ends} {E = E} s m w (Again a r) e p h =
    record { way = cut_before {N = on a} s m r w e p h.way }
turn_before {on = on} {ends = ends} {E = E} s m w (Stuck f) e p h =
    record { way = finish_before {N = E} s m f w e p h.way }

pub turns_as : {A : Type 0} {on ends on' ends' : A → List ℕ → Type 0} {E E' : List ℕ → Type 0} (s : Rest)
    (t : Turn A) → TurnEnds on ends E s t → ((a : A) (w : List ℕ) → on a w → on' a w) →
    ((a : A) (w : List ℕ) → ends a w → ends' a w) → ((w : List ℕ) → E w → E' w) → TurnEnds on' ends' E' s t
turns_as s (Done a r) h f g k = record { way = cut_as s r h.way (g a) }
turns_as s (Again a r) h f g k = record { way = cut_as s r h.way (f a) }
turns_as {E' = E'} s (Stuck e) h f g k = record { way = finish_as {M = E'} s e h.way (λ w t. as_it_is E' w (k w t)) }

pub cut_turns : {A : Type 0} {L : List ℕ → Type 0} {on ends : A → List ℕ → Type 0} {E : List ℕ → Type 0} (s m : Rest)
    (t : Turn A) → Cut L s m →
    ((w : List ℕ) → L w → TurnEnds (λ a v. on a (w ++ v)) (λ a v. ends a (w ++ v)) (λ v. E (w ++ v)) m t) →
    TurnEnds on ends E s t
cut_turns s m t c h = turn_before s m c.front t c.bytes c.place (h c.front c.is)

pub on_read_ends : {A B : Type 0} {P : A × Rest → List ℕ → Type 0} {F : List ℕ → Type 0} {on ends : B → List ℕ →
    Type 0} {E : List ℕ → Type 0} (s : Rest) (f : A × Rest → Turn B) (o : Outcome A) → Ends behind_read P F s o →
    ((w : List ℕ) → F w → Default (λ v. E (w ++ v))) →
    ((x : A × Rest) (w : List ℕ) → P x w → TurnEnds (λ a v. on a (w ++ v)) (λ a v. ends a (w ++ v))
    (λ v. E (w ++ v)) x.1 (f x)) → TurnEnds on ends E s (on_read f o)
on_read_ends s f (Ok x) h d g = cut_turns s x.1 (f x) h.way (g x)
on_read_ends {E = E} s f (Err e) h d g = record { way = finish_as {M = E} s e h.way d }

pub goes_on_ends : {A B : Type 0} {P : B × Rest → List ℕ → Type 0} {F : List ℕ → Type 0} {on ends : A → List ℕ →
    Type 0} {E : List ℕ → Type 0} (s : Rest) (f : B → A) (o : Outcome B) → Ends behind_read P F s o →
    ((w : List ℕ) → F w → E w) → ((x : B × Rest) (w : List ℕ) → P x w → on (f x.0) w) →
    TurnEnds on ends E s (goes_on f o)
goes_on_ends s f (Ok x) h d g = record { way = cut_as s x.1 h.way (g x) }
goes_on_ends {E = E} s f (Err e) h d g = record { way = finish_as {M = E} s e h.way (λ w t. as_it_is E w (d w t)) }

module _ {A : Type 0} (turn : A → Rest → Turn A) (behind : GoesBehind turn) (on ends : A → List ℕ → Type 0)
    (E : List ℕ → Type 0)
    (step : (a : A) (s : Rest) (w : List ℕ) → on a w → TurnEnds (λ b v. on b (w ++ v)) (λ b v. ends b (w ++ v))
    (λ v. E (w ++ v)) s (turn a s)) where
  turns_end : (n : ℕ) (a : A) (s : Rest) (w : List ℕ) → length s.bytes < n → on a w →
      Ends behind_read (λ x v. ends x.0 (w ++ v)) (λ v. E (w ++ v)) s (repetition turn a s)
  turns_end zero a s w h o = absurd (omega (arith, h))
  turns_end (suc n) a s w h o =
      subst (λ q. Ends behind_read (λ x v. ends x.0 (w ++ v)) (λ v. E (w ++ v)) s q)
      (sym (repeated_turn turn behind a s))
      (by_turn (turn a s) (behind a s) (step a s w o) (turns_end n))
    where
      by_turn : (t : Turn A) → OfTurn t (λ b r. Unit {0}) (λ b r. Behind s r) →
          TurnEnds (λ b v. on b (w ++ v)) (λ b v. ends b (w ++ v)) (λ v. E (w ++ v)) s t →
          ((b : A) (r : Rest) (v : List ℕ) → length r.bytes < n → on b v → Ends behind_read (λ x u. ends x.0 (v ++ u))
          (λ u. E (v ++ u)) r (repetition turn b r)) →
          Ends behind_read (λ x v. ends x.0 (w ++ v)) (λ v. E (w ++ v)) s (turn_outcome t (λ b r. repetition turn b r))
      by_turn (Done b r) g c ih = record { way = c.way }
      by_turn (Again b r) g c ih =
          cut_then s r (repetition turn b r) c.way
          (λ v p. ends_as r (repetition turn b r) (ih b r (w ++ v) (omega (arith, h, behind_is_shorter s r g)) p)
          (λ x u q. subst (ends x.0) (append_assoc w v u) q) (λ u q. subst E (append_assoc w v u) q))
      by_turn (Stuck f) g c ih = record { way = c.way }

  -- turns that begin behind a text of the kind that goes on
  pub loop_ends : (a : A) (s : Rest) (w : List ℕ) → on a w → Ends behind_read (λ x v. ends x.0 (w ++ v))
      (λ v. E (w ++ v)) s (repetition turn a s)
  loop_ends a s w o = turns_end (suc (length s.bytes)) a s w (omega arith) o
