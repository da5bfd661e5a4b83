-- What was read of a number before its fault can be completed.
use Rattle.std.proofs.Common.{◌≡◌, ℕ, pos, ◌+◌, ◌-◌, ◌*◌, ◌^◌, Bool, true, false, ◌==◌, ◌&&◌, not, nat_le, List, []}
use Rattle.std.proofs.Common.{◌∷◌, ◌++◌, length, refl, sym, ap, ◌∙◌, subst, arith, if◌then◌else◌, append_assoc}
use Rattle.std.proofs.Common.{length-append, Option, Some, None, option_and_then, Ok, Err}
use Rattle.std.proofs.lemmas.Bool.{false≢true}
use Rattle.std.proofs.lemmas.List.{append-nil}
use Rattle.std.proofs.lemmas.Bool.Decides.{nat_tests}
use Rattle.mql_ast.specs.Tokens.{is_blank, is_digit, Rest, first_of, head, behind, skip, sign_at, minus, unit_seconds}
use Rattle.mql_ast.specs.Tokens.{longest}
use Rattle.mql_ast.specs.Tokens as grammar
use Rattle.mon_value.specs.Answers.{◌>>=◌}
use Rattle.mql_parse.specs.declared.faults.ParseFault.{ParseFault}
use Rattle.mql_parse.specs.declared.faults.ParseKind.TheVariants.{NumberTooLarge}
use Rattle.mql_parse.specs.declared.faults.What.TheVariants as what
use Rattle.mql_parse.specs.Outcomes.{Outcome, fault, unexpected_fault, map_outcome}
use Rattle.mql_parse.specs.FaultNumbers.{AreDigits, IsNumber}
use Rattle.mql_parse.specs.FaultTokens.{IsReadWhole, IsBare}
use Rattle.mql_parse.specs.TokenReading as reading
use Rattle.mql_parse.proofs.RestLemmas.{skip_off}
use Rattle.mql_parse.proofs.BehindLemmas.{sign_taken}
use Rattle.mql_parse.proofs.Endings.{Worded, Parted, OpensAs, opens_on, Text, join, changed, worded, Default, Cut}
use Rattle.mql_parse.proofs.Endings.{Smaller, known_smaller, Comes, IfExpected, Finish, finish_as, cut_before, cut_as}
use Rattle.mql_parse.proofs.Endings.{Ends, behind_read, Reads, ends_before_it, cut_then, ends_as, done_ends, if_ends}
use Rattle.mql_parse.proofs.TokenEndings.{at_place, AreBlanks, blank_last, blanks_open, skip_over}
use Rattle.mql_parse.proofs.TokenEndings.{outer_no_digit, byte_cut, first_cut}
use Rattle.mql_parse.proofs.TokenEndings.{begun_here, wrong_spaced, SignSpan, minus_sign, sign_cut, Token}
use Rattle.mql_ast.proofs.NumbersPrinted.{digit_is_no_blank}
use Rattle.mql_parse.proofs.ByteLemmas.{and_first, digit_in_word}

-- digits behind others: the number that they make
abbrev IsDigits : ℕ → ℕ → ℕ → List ℕ → Type 0
IsDigits most value v u =
    ((z : List ℕ) → is_digit (first_of z) ≡ false → (at : ℕ) →
    (n : ℕ) × (grammar.digits_from most value at (u ++ z) ≡ Some (v, at_place n z)))
    × ((nat_le v most ≡ true) × AreDigits u)

digits_stop : (most value : ℕ) (z : List ℕ) (at : ℕ) → is_digit (first_of z) ≡ false →
    grammar.digits_from most value at z ≡ Some (value, at_place at z)
digits_stop most value [] at h = refl
digits_stop most value (b ∷ bs) at h =
    ap (λ t. if t then (if nat_le (value * 10 + (b - 48)) most then grammar.digits_from most (value * 10 + (b - 48))
    (at + 1) bs else None) else Some (value, at_place at (b ∷ bs))) h

no_digits : (most value : ℕ) → nat_le value most ≡ true → IsDigits most value value []
no_digits most value h = ((λ z e at. (at, digits_stop most value z at e)), (h, tt))

digits_more : (most value v b : ℕ) (u : List ℕ) → is_digit b ≡ true → nat_le (value * 10 + (b - 48)) most ≡ true →
    IsDigits most (value * 10 + (b - 48)) v u → IsDigits most value v (b ∷ u)
digits_more most value v b u d m f = (
  (λ z h at. let n = f.0 z h (at + 1) in (
    n.0,
    ap (λ t. if t then (if nat_le (value * 10 + (b - 48)) most then grammar.digits_from most (value * 10 + (b - 48))
        (at + 1) (u ++ z) else None) else Some (value, at_place at (b ∷ (u ++ z)))) d
        ∙ ap (λ t. if t then grammar.digits_from most (value * 10 + (b - 48)) (at + 1) (u ++ z) else None) m ∙ n.1,
  )),
  (f.1.0, (d, f.1.1)),
)

-- a digit with which a number is too large
record DigitsFault (most value : ℕ) (s : Rest) (f : ParseFault) : Type 0 where
  front : List ℕ
  byte : ℕ
  after : List ℕ
  bytes : s.bytes ≡ front ++ byte ∷ after
  place : f.at ≡ s.at + length front
  made : ℕ
  is : IsDigits most value made front
  digit : is_digit byte ≡ true
  too_large : f.kind ≡ NumberTooLarge

abbrev DigitsIn : ℕ → ℕ → Rest → Outcome ℕ → Type 0
DigitsIn most value s (Ok x) = Cut (IsDigits most value x.0) s x.1
DigitsIn most value s (Err f) = DigitsFault most value s f

record DigitsEnd (most value : ℕ) (s : Rest) (o : Outcome ℕ) : Type 0 where
  way : DigitsIn most value s o

if_digits : {most value : ℕ} {s : Rest} (t : Bool) (o p : Outcome ℕ) → (t ≡ true → DigitsEnd most value s o) →
    (t ≡ false → DigitsEnd most value s p) → DigitsEnd most value s (if t then o else p)
if_digits true o p f g = f refl
if_digits false o p f g = g refl

digits_before : (most value b at : ℕ) (bs : List ℕ) (o : Outcome ℕ) → is_digit b ≡ true →
    nat_le (value * 10 + (b - 48)) most ≡ true → DigitsEnd most (value * 10 + (b - 48)) (at_place (at + 1) bs) o →
    DigitsEnd most value (at_place at (b ∷ bs)) o
digits_before most value b at bs (Ok x) d m h = record {
  way = cut_before {N = IsDigits most value x.0} (at_place at (b ∷ bs)) (at_place (at + 1) bs) x.1 (b ∷ []) refl
      (omega arith)
      (cut_as (at_place (at + 1) bs) x.1 h.way (λ u f. digits_more most value x.0 b u d m f));
}
digits_before most value b at bs (Err f) d m h = record {
  way = record {
    front = b ∷ h.way.front;
    byte = h.way.byte;
    after = h.way.after;
    bytes = ap (λ t. b ∷ t) h.way.bytes;
    place = omega (arith, h.way.place);
    made = h.way.made;
    is = digits_more most value h.way.made b h.way.front d m h.way.is;
    digit = h.way.digit;
    too_large = h.way.too_large;
  };
}

digits_end : (most value at : ℕ) (bs : List ℕ) → nat_le value most ≡ true →
    DigitsEnd most value (at_place at bs) (reading.digits most value at bs)
digits_end most value at [] h =
    record { way = record { front = []; bytes = refl; place = omega arith; is = no_digits most value h } }
digits_end most value at (b ∷ bs) h =
    let s = at_place at (b ∷ bs) in
    let next = value * 10 + (b - 48) in
    let more = reading.digits most next (at + 1) bs in
    if_digits (is_digit b) (if nat_le next most then more else Err (fault NumberTooLarge s)) (Ok (value, s))
    (λ d. if_digits (nat_le next most) more (Err (fault NumberTooLarge s))
    (λ m. digits_before most value b at bs more d m (digits_end most next (at + 1) bs m))
    (λ m. record {
      way = record {
        front = [];
        byte = b;
        after = bs;
        bytes = refl;
        place = omega arith;
        made = value;
        is = no_digits most value h;
        digit = d;
        too_large = refl;
      };
    }))
    (λ d. record { way = record { front = []; bytes = refl; place = omega arith; is = no_digits most value h } })

-- a number from 1 on, where no digit stands behind it
abbrev pub positive_of : ℕ → Rest → Option (ℕ × Rest)
positive_of most t =
    if is_digit (head t) && not (head t == 48) then grammar.digits_from most (head t - 48) (behind t).at
    (behind t).bytes else None

abbrev PositiveText : ℕ → ℕ → List ℕ → Type 0
PositiveText most v w =
    (z : List ℕ) → is_digit (first_of z) ≡ false → (at : ℕ) →
    (n : ℕ) × (grammar.positive_at most (at_place at (w ++ z)) ≡ Some (v, at_place n z))

-- a number behind blanks
abbrev NumberBehind : ℕ → ℕ → List ℕ → Type 0
NumberBehind most v w =
    (bs : List ℕ) × ((u : List ℕ) × (AreBlanks bs × (IsNumber u × ((w ≡ bs ++ u) × PositiveText most v u))))

abbrev IsPositive : ℕ → ℕ → List ℕ → Type 0
IsPositive most v w = OpensAs Worded w × (PositiveText most v w × ((nat_le v most ≡ true) × NumberBehind most v w))

digit_first : (b : ℕ) (u : List ℕ) → is_digit b ≡ true → OpensAs Worded (b ∷ u)
digit_first b u h = λ v g y. absurd (false≢true (sym g ∙ digit_in_word b h))

first_positive : (most v b : ℕ) (bs u : List ℕ) → AreBlanks bs → (is_digit b && not (b == 48)) ≡ true →
    IsDigits most (b - 48) v u → IsPositive most v (bs ++ (b ∷ u))
first_positive most v b bs u e h f =
    let d = and_first (is_digit b) (not (b == 48)) h in
    let plain : PositiveText most v (b ∷ u) = λ z g at. let n = f.0 z g (at + 1) in (
      n.0,
      ap (positive_of most) (skip_off (at_place at (b ∷ (u ++ z))) (digit_is_no_blank b d))
          ∙ ap (λ t. if t then grammar.digits_from most (b - 48) (at + 1) (u ++ z) else None) h ∙ n.1,
    ) in (
      blanks_open Worded bs (b ∷ u) e (digit_first b u d),
      (
        (λ z g at. let n = plain z g (at + length bs) in (
          n.0,
          ap (λ t. grammar.positive_at most (at_place at t)) (append_assoc bs (b ∷ u) z)
              ∙ ap (positive_of most) (skip_over bs (b ∷ (u ++ z)) at e) ∙ n.1,
        )),
        (f.1.0, (bs, (b ∷ u, (e, ((h, f.1.1), (refl, plain)))))),
      ),
    )

first_small : (most b : ℕ) → nat_le 19 most ≡ true → is_digit b ≡ true → nat_le (b - 48) most ≡ true
first_small most b h d = grind (arith, nat_tests)

-- a first digit behind blanks, and digits
behind_first_digit : (most v b : ℕ) (w u : List ℕ) → (bs : List ℕ) × (AreBlanks bs × (w ≡ bs ++ b ∷ [])) →
    (is_digit b && not (b == 48)) ≡ true → IsDigits most (b - 48) v u → IsPositive most v (w ++ u)
behind_first_digit most v b w u c h f =
    subst (IsPositive most v) (sym (append_assoc c.0 (b ∷ []) u) ∙ ap (λ t. t ++ u) (sym c.1.1))
    (first_positive most v b c.0 u c.1.0 h f)

one_after : (most : ℕ) → nat_le 1 most ≡ true → (bs : List ℕ) → AreBlanks bs → IsPositive most 1 (bs ++ 10 ∷ 49 ∷ [])
one_after most h bs e =
    subst (IsPositive most 1) (append_assoc bs (10 ∷ []) (49 ∷ []))
    (first_positive most 1 49 (bs ++ 10 ∷ []) [] (blank_last bs e) refl (no_digits most 1 h))

at_least_one : (most : ℕ) → nat_le 19 most ≡ true → nat_le 1 most ≡ true
at_least_one most h = grind (arith, nat_tests)

second_small : (most b : ℕ) → nat_le 19 most ≡ true → is_digit b ≡ true → nat_le (1 * 10 + (b - 48)) most ≡ true
second_small most b h d = grind (arith, nat_tests)

-- 1 and a digit
one_and_digit : (most b : ℕ) (bs : List ℕ) → nat_le 19 most ≡ true → AreBlanks bs → is_digit b ≡ true →
    IsPositive most (1 * 10 + (b - 48)) (bs ++ 49 ∷ b ∷ [])
one_and_digit most b bs le e d =
    let fits = second_small most b le d in
    first_positive most (1 * 10 + (b - 48)) 49 bs (b ∷ []) e refl
    (digits_more most 1 (1 * 10 + (b - 48)) b [] d fits (no_digits most (1 * 10 + (b - 48)) fits))

abbrev SomePositive : ℕ → List ℕ → Type 0
SomePositive most w = (v : ℕ) × IsPositive most v w

-- digits behind a first one
module _ (most : ℕ) (le : nat_le 19 most ≡ true) (s m : Rest) (b : ℕ) (h : (is_digit b && not (b == 48)) ≡ true)
    (c : Cut (λ v. (bs : List ℕ) × (AreBlanks bs × (v ≡ bs ++ b ∷ []))) s m) where
  number_bytes : (front rest : List ℕ) → m.bytes ≡ front ++ rest → s.bytes ≡ c.is.0 ++ ((b ∷ front) ++ rest)
  number_bytes front rest e =
      c.bytes ∙ ap (λ t. c.front ++ t) e ∙ ap (λ t. t ++ (front ++ rest)) c.is.1.1
      ∙ append_assoc c.is.0 (b ∷ []) (front ++ rest)

  front_length : length c.front ≡ length c.is.0 + 1
  front_length = ap length c.is.1.1 ∙ length-append c.is.0 (b ∷ [])

  digit_smaller : (f : ParseFault) → DigitsFault most (b - 48) m f → Smaller (SomePositive most) s f.at
  digit_smaller f g = record {
    before = c.is.0;
    number = b ∷ g.front;
    byte = g.byte;
    after = g.after;
    is_number = (h, g.is.1.1);
    bytes = number_bytes g.front (g.byte ∷ g.after) g.bytes;
    place = omega (arith, c.place, g.place, front_length);
    tail = [];
    is = (1 * 10 + (g.byte - 48), one_and_digit most g.byte c.is.0 le c.is.1.0 g.digit);
  }

  behind_first : (o : Outcome ℕ) → DigitsEnd most (b - 48) m o →
      Ends behind_read (λ x. IsPositive most x.0) (SomePositive most) s o
  behind_first (Ok x) k = record {
    way = cut_before {N = IsPositive most x.0} s m x.1 c.front c.bytes c.place
        (cut_as m x.1 k.way (λ u f. behind_first_digit most x.0 b c.front u c.is h f));
  }
  behind_first (Err f) k = let g = k.way in record {
    way = record {
      front = c.front ++ g.front;
      left = g.byte ∷ g.after;
      bytes = c.bytes ∙ ap (λ t. c.front ++ t) g.bytes ∙ sym (append_assoc c.front g.front (g.byte ∷ g.after));
      place = omega (arith, c.place, g.place, length-append c.front g.front);
      tail = [];
      is = subst (SomePositive most) (sym (append-nil (c.front ++ g.front)))
          (g.made, behind_first_digit most g.made b c.front g.front c.is h g.is);
      smaller = known_smaller f.kind (digit_smaller f g);
      comes = subst (λ kind. IfExpected kind (Comes (SomePositive most) (c.front ++ g.front))) (sym g.too_large) tt;
    };
  }

number_either : (x d : Bool) (y z : ℕ × Rest) (q : Option (ℕ × Rest)) → (if d && not x then q else None) ≡ Some y →
    (if x then Some z else (if d && not x then q else None)) ≡ Some y
number_either true true y z q h = absurd (cc)
number_either true false y z q h = absurd (cc)
number_either false d y z q h = h

positive_is_number : (most : ℕ) (s : Rest) (x : ℕ × Rest) → grammar.positive_at most s ≡ Some x →
    grammar.number_at most s ≡ Some x
positive_is_number most s x h = let t = skip s in
    number_either (head t == 48) (is_digit (head t)) x (0, behind t)
    (grammar.digits_from most (head t - 48) (behind t).at (behind t).bytes) h

-- `1`
pub number_token : IsBare what.Number (49 ∷ [])
number_token = (1, (refl, number_one))
  where
    number_one : (n : ℕ × ℕ) × (grammar.number_at 1 (at_place 0 (49 ∷ [])) ≡ Some (n.1, at_place n.0 []))
    number_one = let n = (first_positive 1 1 49 [] [] tt refl (no_digits 1 1 refl)).1.0 [] refl 0 in
        ((n.0, 1), positive_is_number 1 (at_place 0 (49 ∷ [])) (1, at_place n.0 []) n.1)

positive_end : (most : ℕ) → nat_le 19 most ≡ true → (s : Rest) → Ends behind_read (λ x. IsPositive most x.0)
    (SomePositive most) s (reading.positive most s)
unfolding reading.positive
positive_end most le s =
    let t = skip s in
    let more = reading.digits most (head t - 48) (behind t).at (behind t).bytes in
    if_ends s (is_digit (head t) && not (head t == 48)) more (Err (unexpected_fault what.Number t))
    (λ h. behind_first most le s (behind t) (head t) h (first_cut (λ b. is_digit b && not (b == 48)) refl s h) more
    (digits_end most (head t - 48) (behind t).at (behind t).bytes
    (first_small most (head t) le (and_first (is_digit (head t)) (not (head t == 48)) h))))
    (λ h. record {
      way = wrong_spaced what.Number s (49 ∷ []) [] number_token
          (λ bs e. (1, one_after most (at_least_one most le) bs e));
    })

positive_text : (most v : ℕ) (w : List ℕ) → IsPositive most v w → Text Worded false (Token (grammar.positive_at most)) w
positive_text most v w f =
    record { opens = f.0; fills = λ z h at. let n = f.1.0 z (outer_no_digit (first_of z) h) at in ((n.0, v), n.1) }

pub positive_ends : (most : ℕ) → nat_le 19 most ≡ true → (s : Rest) →
    Reads (Text Worded false (Token (grammar.positive_at most))) s (reading.positive most s)
positive_ends most le s =
    ends_as s (reading.positive most s) (positive_end most le s) (λ x w f. positive_text most x.0 w f)
    (λ w f. positive_text most f.0 w f.1)

pub a_positive : (most : ℕ) → nat_le 1 most ≡ true → Text Parted false (Token (grammar.positive_at most)) (10 ∷ 49 ∷ [])
a_positive most h = record {
  opens = λ u. refl;
  fills = (positive_text most 1 (10 ∷ 49 ∷ []) (one_after most h [] tt)).fills;
}

-- ` 1`
abbrev pub positive_default : (most : ℕ) → nat_le 1 most ≡ true →
    Default (Text Parted false (Token (grammar.positive_at most)))
positive_default most h = record { text = 10 ∷ 49 ∷ []; plain = refl; is = a_positive most h }

-- durations
unit_no_digit : (c : ℕ) → (unit_seconds c == 0) ≡ false → is_digit c ≡ false
unit_no_digit c h = grind (arith, nat_tests)

seconds_fit : (v : ℕ) → nat_le v longest ≡ true → nat_le (v * unit_seconds 115) longest ≡ true
seconds_fit v h = grind (arith, nat_tests)

unit_text : (v c : ℕ) (w : List ℕ) → IsPositive longest v w → (unit_seconds c == 0) ≡ false →
    nat_le (v * unit_seconds c) longest ≡ true → Text Worded true (Token grammar.duration_at) (w ++ c ∷ [])
unit_text v c w f u m = record {
  opens = opens_on Worded w (c ∷ []) f.0;
  fills = λ z _ at. let n = f.1.0 (c ∷ z) (unit_no_digit c u) at in (
    (n.0 + 1, pos (v * unit_seconds c)),
    ap (λ t. grammar.duration_at (at_place at t)) (append_assoc w (c ∷ []) z)
        ∙ ap (option_and_then grammar.with_unit) n.1
        ∙ ap (λ t. if t then None else
        (if nat_le (v * unit_seconds c) longest then Some (pos (v * unit_seconds c), at_place (n.0 + 1) z) else
        None)) u
        ∙ ap (λ t. if t then Some (pos (v * unit_seconds c), at_place (n.0 + 1) z) else None) m,
  );
}

no_unit : (c : ℕ) → (unit_seconds c == 0) ≡ false → not (unit_seconds c == 0) ≡ true
no_unit c h = ap not h

in_seconds : (v : ℕ) (w : List ℕ) → IsPositive longest v w →
    Text Worded true (Token grammar.duration_at) (w ++ 115 ∷ [])
in_seconds v w f = unit_text v 115 w f refl (seconds_fit v f.1.1.0)

either_small : (t : Bool) (n m : ℕ) → nat_le (1 * n) longest ≡ true → nat_le (1 * m) longest ≡ true →
    nat_le (1 * (if t then n else m)) longest ≡ true
either_small true n m f g = f
either_small false n m f g = g

one_fits : (c : ℕ) → nat_le (1 * unit_seconds c) longest ≡ true
one_fits c =
    either_small (c == 115) 1 _ refl
    (either_small (c == 109) 60 _ refl
    (either_small (c == 104) 3600 _ refl (either_small (c == 100) 86400 0 refl refl)))

-- a unit behind a number
module _ (s r : Rest) (v : ℕ) (c : Cut (IsPositive longest v) s r) (u : (unit_seconds (head r) == 0) ≡ false) where
  unit_byte : r.bytes ≡ head r ∷ (behind r).bytes
  unit_byte =
      let k = byte_cut (λ b. not (unit_seconds b == 0)) refl r (no_unit (head r) u) in
      k.bytes ∙ ap (λ t. t ++ (behind r).bytes) k.is

  unit_cut : nat_le (v * unit_seconds (head r)) longest ≡ true →
      Cut (λ t. Text Worded true (Token grammar.duration_at) (c.front ++ t)) r (behind r)
  unit_cut m = let k = byte_cut (λ b. not (unit_seconds b == 0)) refl r (no_unit (head r) u) in
      record {
        front = k.front;
        bytes = k.bytes;
        place = k.place;
        is = subst
            (λ t. Text Worded true (Token grammar.duration_at) (c.front ++ t)) (sym k.is)
            (unit_text v (head r) c.front c.is u m);
      }

  unit_smaller : NumberBehind longest v c.front → Smaller (Text Worded true (Token grammar.duration_at)) s r.at
  unit_smaller n = record {
    before = n.0;
    number = n.1.0;
    byte = head r;
    after = (behind r).bytes;
    is_number = n.1.1.1.0;
    bytes = c.bytes ∙ ap (λ t. c.front ++ t) unit_byte
        ∙ ap (λ t. t ++ (head r ∷ (behind r).bytes)) n.1.1.1.1.0
        ∙ append_assoc n.0 n.1.0 (head r ∷ (behind r).bytes);
    place = omega (arith, c.place, ap length n.1.1.1.1.0, length-append n.0 n.1.0);
    tail = [];
    is = subst (Text Worded true (Token grammar.duration_at)) (append_assoc n.0 (49 ∷ []) (head r ∷ []))
        (unit_text 1 (head r) (n.0 ++ 49 ∷ [])
        (first_positive longest 1 49 n.0 [] n.1.1.0 refl (no_digits longest 1 refl)) u (one_fits (head r)));
  }

  unit_too_large : Finish (Text Worded true (Token grammar.duration_at)) s (fault NumberTooLarge r)
  unit_too_large = record {
    front = c.front;
    left = r.bytes;
    bytes = c.bytes;
    place = c.place;
    tail = 115 ∷ [];
    is = in_seconds v c.front c.is;
    smaller = unit_smaller c.is.1.1.1;
    comes = tt;
  }

-- a number and a unit, and a number alone
with_seconds : (v : ℕ) (w : List ℕ) → nat_le v longest ≡ true → PositiveText longest v w →
    is_blank (first_of w) ≡ false → IsReadWhole grammar.duration_at (w ++ 115 ∷ [])
with_seconds v w m f h =
    let n = f (115 ∷ []) refl 0 in (
      first_blank w h,
      (
        (n.0 + 1, pos (v * unit_seconds 115)),
        ap (option_and_then grammar.with_unit) n.1
            ∙ ap (λ t. if t then Some (pos (v * unit_seconds 115), at_place (n.0 + 1) []) else None) (seconds_fit v m),
      ),
    )
  where
    first_blank : (w : List ℕ) → is_blank (first_of w) ≡ false → is_blank (first_of (w ++ 115 ∷ [])) ≡ false
    first_blank [] h = refl
    first_blank (b ∷ w) h = h

without_unit : (v : ℕ) (w : List ℕ) → PositiveText longest v w → IsReadWhole grammar.duration_at w → ⊥
without_unit v w f h =
    let n = f [] refl 0 in
    let none : grammar.duration_at (at_place 0 w) ≡ None =
    ap (λ t. grammar.duration_at (at_place 0 t)) (sym (append-nil w)) ∙ ap (option_and_then grammar.with_unit) n.1 in
    let some = h.1.1 in absurd (cc)

-- the unit of a number
unit_missing : (s r : Rest) (v : ℕ) → Cut (IsPositive longest v) s r →
    Finish (Text Worded true (Token grammar.duration_at)) s (unexpected_fault what.Unit r)
unit_missing s r v c = let n = c.is.1.1.1 in by_number n.1.0 n.1.1.1.0 n.1.1.1.1.0 n.1.1.1.1.1
  where
    by_number : (u : List ℕ) → IsNumber u → c.front ≡ c.is.1.1.1.0 ++ u → PositiveText longest v u →
        Finish (Text Worded true (Token grammar.duration_at)) s (unexpected_fault what.Unit r)
    by_number [] k q f = absurd k
    by_number (b ∷ u) k q f =
        begun_here {L = Text Worded true (Token grammar.duration_at)} what.Unit s r c.front c.is.1.1.1.0 (b ∷ u) 115 []
        [] c.bytes c.place q (
          without_unit v (b ∷ u) f,
          with_seconds v (b ∷ u) c.is.1.1.0 f (digit_is_no_blank b (and_first (is_digit b) (not (b == 48)) k.0)),
        )
        (λ e. absurd (cc)) (in_seconds v c.front c.is)

pub duration_ends : (s : Rest) → Reads (Text Worded true (Token grammar.duration_at)) s (reading.duration s)
unfolding reading.duration
duration_ends s = by_number (reading.positive longest s) (positive_end longest refl s)
  where
    by_number : (o : Outcome ℕ) → Ends behind_read (λ x. IsPositive longest x.0) (SomePositive longest) s o →
        Reads (Text Worded true (Token grammar.duration_at)) s (o >>= reading.units)
    by_number (Err e) h = record {
      way = finish_as {M = Text Worded true (Token grammar.duration_at)} s e h.way
          (λ w f. record { text = 115 ∷ []; plain = refl; is = in_seconds f.0 w f.1 });
    }
    by_number (Ok x) h =
        let c = h.way in
        let r = x.1 in
        let seconds = x.0 * unit_seconds (head r) in
        if_ends s (unit_seconds (head r) == 0) (Err (unexpected_fault what.Unit r)) _
        (λ u. record { way = unit_missing s r x.0 c })
        (λ u. if_ends s (nat_le seconds longest) (Ok (pos seconds, behind r)) (Err (fault NumberTooLarge r))
        (λ m. ends_before_it s r c.front (Ok (pos seconds, behind r)) c.bytes c.place
        (record { way = unit_cut s r x.0 c u m }))
        (λ m. record { way = unit_too_large s r x.0 c u }))

pub a_duration : Text Parted true (Token grammar.duration_at) (10 ∷ 49 ∷ 115 ∷ [])
a_duration = record {
  opens = λ u. refl;
  fills = (unit_text 1 115 (10 ∷ 49 ∷ []) (one_after longest refl [] tt) refl refl).fills;
}

-- ` 1s`
abbrev pub duration_default : Default (Text Parted true (Token grammar.duration_at))
duration_default = record { text = 10 ∷ 49 ∷ 115 ∷ []; plain = refl; is = a_duration }

-- numbers with a sign or without
zero_number : (most : ℕ) (bs : List ℕ) → AreBlanks bs → Text Worded false (Token (grammar.number_at most))
    (bs ++ 48 ∷ [])
zero_number most bs e = record {
  opens = blanks_open Worded bs (48 ∷ []) e (digit_first 48 [] refl);
  fills = λ z h at. (
    (at + length bs + 1, 0),
    ap (λ t. grammar.number_at most (at_place at t)) (append_assoc bs (48 ∷ []) z)
        ∙ ap (λ t. if head t == 48 then Some (0, behind t) else positive_of most t) (skip_over bs (48 ∷ z) at e
        ∙ skip_off (at_place (at + length bs) (48 ∷ z)) refl),
  );
}

digit_byte : (b : ℕ) → (b == 48) ≡ true → b ≡ 48
digit_byte b h = grind (arith, nat_tests)

number_ends : (most : ℕ) → nat_le 19 most ≡ true → (s : Rest) →
    Reads (Text Worded false (Token (grammar.number_at most))) s (reading.number most s)
unfolding reading.number
number_ends most le s =
    let t = skip s in
    if_ends s (head t == 48) (Ok (0, behind t)) (reading.positive most s)
    (λ h. record {
      way = let k = first_cut (λ b. b == 48) refl s h in
          record {
            front = k.front;
            bytes = k.bytes;
            place = k.place;
            is = subst
                (Text Worded false (Token (grammar.number_at most)))
                (ap (λ b. k.is.0 ++ b ∷ []) (sym (digit_byte (head t) h)) ∙ sym k.is.1.1)
                (zero_number most k.is.0 k.is.1.0);
          };
    })
    (λ h. ends_as s (reading.positive most s) (positive_ends most le s) (λ x w f. as_number w f) (λ w f. as_number w f))
  where
    as_number : (w : List ℕ) → Text Worded false (Token (grammar.positive_at most)) w →
        Text Worded false (Token (grammar.number_at most)) w
    as_number w f =
        changed (λ x z g at. let n = g at in (
          n.0,
          positive_is_number most (at_place at x) (n.0.1, at_place n.0.0 z)
              n.1,
        )) w f

signed_minus : (s k : Rest) (x : ℕ × Rest) → sign_at 45 s ≡ Some k → grammar.number_at (2 ^ 63) k ≡ Some x →
    grammar.signed_at s ≡ Some (minus x.0, x.1)
signed_minus s k x e f =
    let t = sign_taken 45 s k e in
    ap (λ b. if b then option_and_then (λ n. Some (minus n.0, n.1))
    (grammar.number_at (2 ^ 63) (behind (skip s))) else option_and_then (λ n. Some (pos n.0, n.1))
    (grammar.number_at (2 ^ 63 - 1) s)) t.0
    ∙ ap (λ r. option_and_then (λ n. Some (minus n.0, n.1)) (grammar.number_at (2 ^ 63) r)) t.1
    ∙ ap (option_and_then (λ n. Some (minus n.0, n.1))) f

-- what begins as a number has no sign
unsigned : (b : ℕ) (x y : Option (ℕ × Rest)) (z : ℕ × Rest) →
    (if b == 48 then x else (if is_digit b && not (b == 48) then y else None)) ≡ Some z → (b == 45) ≡ false
unsigned b x y z h = either (b == 45) refl
  where
    either : (t : Bool) → (b == 45) ≡ t → t ≡ false
    either false e = refl
    either true e = let same : b ≡ 45 = grind (arith, nat_tests) in
        let there : None ≡ Some z =
        subst (λ c. (if c == 48 then x else (if is_digit c && not (c == 48) then y else None)) ≡ Some z) same h in
        absurd (cc)

signed_plain : (s : Rest) (x : ℕ × Rest) → grammar.number_at (2 ^ 63 - 1) s ≡ Some x →
    grammar.signed_at s ≡ Some (pos x.0, x.1)
signed_plain s x f =
    let t = skip s in
    ap (λ b. if b then option_and_then (λ n. Some (minus n.0, n.1))
    (grammar.number_at (2 ^ 63) (behind (skip s))) else option_and_then (λ n. Some (pos n.0, n.1))
    (grammar.number_at (2 ^ 63 - 1) s))
    (unsigned (head t) (Some (0, behind t)) (grammar.digits_from (2 ^ 63 - 1) (head t - 48) (behind t).at
    (behind t).bytes) x f) ∙ ap (option_and_then (λ n. Some (pos n.0, n.1))) f

pub signed_ends : (s : Rest) → Reads (Text Worded false (Token grammar.signed_at)) s (reading.signed_reading s)
unfolding reading.signed_reading
signed_ends s =
    let t = skip s in
    if_ends s (head t == 45) (map_outcome minus (reading.number (2 ^ 63) (behind t)))
    (map_outcome pos (reading.number (2 ^ 63 - 1) s))
    (λ h. cut_then s (behind t) (map_outcome minus (reading.number (2 ^ 63) (behind t))) (sign_cut 45 minus_sign s h)
    (λ w f. done_ends (behind t) (reading.number (2 ^ 63) (behind t)) (λ x. (minus x.0, x.1))
    (ends_as (behind t) (reading.number (2 ^ 63) (behind t)) (number_ends (2 ^ 63) refl (behind t))
    (λ x u g. negative w u f g) (λ u g. negative w u f g)) (λ x. refl) (λ x u g. g)))
    (λ h. done_ends s (reading.number (2 ^ 63 - 1) s) (λ x. (pos x.0, x.1))
    (ends_as s (reading.number (2 ^ 63 - 1) s) (number_ends (2 ^ 63 - 1) refl s) (λ x w f. plain w f)
    (λ w f. plain w f)) (λ x. refl) (λ x u g. g))
  where
    negative : (w u : List ℕ) → Text Parted true (SignSpan 45) w →
        Text Worded false (Token (grammar.number_at (2 ^ 63))) u → Text Worded false (Token grammar.signed_at) (w ++ u)
    negative w u f g =
        changed (λ x z k at. let a = k.first at in let n = k.second a.0 in (
          (n.0.0, minus n.0.1),
          signed_minus (at_place at x) (at_place a.0 k.between) (n.0.1, at_place n.0.0 z) a.1
              n.1,
        )) (w ++ u) (worded (w ++ u) (join w u refl f g))

    plain : (w : List ℕ) → Text Worded false (Token (grammar.number_at (2 ^ 63 - 1))) w →
        Text Worded false (Token grammar.signed_at) w
    plain w f = changed
        (λ x z k at. let n = k at in ((n.0.0, pos n.0.1), signed_plain (at_place at x) (n.0.1, at_place n.0.0 z) n.1))
        w f

-- ` 0`
pub signed_default : Default (Text Parted false (Token grammar.signed_at))
signed_default =
    record {
      text = 10 ∷ 48 ∷ [];
      plain = refl;
      is = record {
        opens = λ u. refl;
        fills = λ z h at. let n =
            (zero_number (2 ^ 63 - 1) (10 ∷ []) (refl, tt)).fills z h at in
            ((n.0.0, pos n.0.1), signed_plain (at_place at (10 ∷ 48 ∷ z)) (n.0.1, at_place n.0.0 z) n.1);
      };
    }
