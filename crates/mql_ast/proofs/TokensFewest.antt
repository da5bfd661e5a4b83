-- How many parentheses the tokens take.
use Rattle.std.proofs.Common.{◌≡◌, ℕ, suc, ℤ, pos, negsuc, ◌+◌, ◌-◌, ◌*◌, ◌%◌, ◌^◌, ◌<◌, ◌≤◌, Bool, true, false, ◌==◌}
use Rattle.std.proofs.Common.{◌&&◌, not, nat_le, List, [], ◌∷◌, ◌++◌, codes, refl, sym, ap, subst, ◌∙◌, arith, cond}
use Rattle.std.proofs.Common.{if◌then◌else◌, Option, Some, None, option_and_then, inl, inr}
use Rattle.std.specs.Fmt.{decimal, signed_decimal}
use Rattle.std.proofs.lemmas.Fmt.{decimal_by_steps}
use Rattle.std.proofs.lemmas.Bool.Decides.{nat_tests}
use Rattle.std.proofs.lemmas.Bool.{eqb-true}
use Rattle.std.proofs.lemmas.List.Sums.{sum_by-append}
use Rattle.mql_ast.specs.declared.names.Name.{Name}
use Rattle.mql_ast.specs.Tokens.{is_blank, is_letter, is_digit, is_word_byte, is_metric_byte, Rest, first_of}
use Rattle.mql_ast.specs.Tokens.{behind_blanks, behind_first, head, behind, skip, sign_at, past, keyword_at}
use Rattle.mql_ast.specs.Tokens.{behind_word, word_here, name_at, with_byte, metric_from, metric_name, metric_behind}
use Rattle.mql_ast.specs.Tokens.{metric_at, digits_from, positive_at, number_at, minus, signed_at, unit_seconds}
use Rattle.mql_ast.specs.Tokens.{longest, with_unit, duration_at}
use Rattle.mql_ast.specs.Printed.{duration_text}
use Rattle.mql_ast.specs.Parentheses.{parentheses}
use Rattle.mql_ast.proofs.TokensPrinted.{chosen, followed, AllPass, IsName, name_lawful, MetricBytes}
use Rattle.mql_ast.proofs.TokensPrinted.{metric_lawful}
use Rattle.mql_ast.proofs.NumbersPrinted.{InRange, above, below, IsDuration, seconds}
use Rattle.mon_value.proofs.PlainLemmas.{same_item}

-- how many parentheses are left
abbrev pub left : Rest → ℕ
left s = parentheses s.bytes

pub parentheses_append : (a b : List ℕ) → parentheses (a ++ b) ≡ parentheses a + parentheses b
unfolding parentheses
parentheses_append a b = sum_by-append (λ x. cond (x == 40) 1 0) a b

pub no_parentheses : parentheses [] ≡ 0
unfolding parentheses
no_parentheses = refl

pub parentheses_on : (b : ℕ) (bs : List ℕ) → parentheses (b ∷ bs) ≡ cond (b == 40) 1 0 + parentheses bs
unfolding parentheses
parentheses_on b bs =
    let one : 0 + cond (b == 40) 1 0 ≡ cond (b == 40) 1 0 = omega arith in
    sum_by-append (λ x. cond (x == 40) 1 0) (b ∷ []) bs ∙ ap (λ n. n + parentheses bs) one

pub other_byte : (b : ℕ) (bs : List ℕ) → (b == 40) ≡ false → parentheses (b ∷ bs) ≡ parentheses bs
other_byte b bs h = parentheses_on b bs ∙ ap (λ t. cond t 1 0 + parentheses bs) h ∙ omega arith

pub open_byte : (bs : List ℕ) → parentheses (40 ∷ bs) ≡ 1 + parentheses bs
open_byte bs = parentheses_on 40 bs

pub byte_less : (b : ℕ) (bs : List ℕ) → parentheses bs ≤ parentheses (b ∷ bs)
byte_less b bs = omega (arith, parentheses_on b bs)

pub last_byte : (b : ℕ) (content bs : List ℕ) → parentheses (content ++ b ∷ []) + parentheses bs ≡ parentheses content
    + parentheses (b ∷ bs)
last_byte b content bs = omega (
  arith,
  parentheses_append content (b ∷ []),
  parentheses_on b [],
  parentheses_on b bs,
  no_parentheses,
)

blank_is_other : (b : ℕ) → is_blank b ≡ true → (b == 40) ≡ false
blank_is_other b h = grind (arith, nat_tests)

word_byte_is_other : (b : ℕ) → is_word_byte b ≡ true → (b == 40) ≡ false
word_byte_is_other b h = grind (arith, nat_tests)

metric_byte_is_other : (b : ℕ) → is_metric_byte b ≡ true → (b == 40) ≡ false
metric_byte_is_other b h = grind (arith, nat_tests)

skip_step : (b at : ℕ) (bs : List ℕ) (t : Bool) → is_blank b ≡ t → parentheses (behind_blanks (at + 1) bs).bytes
    ≡ parentheses bs → parentheses (cond t (behind_blanks (at + 1) bs) (record { at = at; bytes = b ∷ bs })).bytes
    ≡ parentheses (b ∷ bs)
skip_step b at bs true e h = h ∙ sym (other_byte b bs (blank_is_other b e))
skip_step b at bs false e h = refl

blanks_left : (at : ℕ) (bs : List ℕ) → parentheses (behind_blanks at bs).bytes ≡ parentheses bs
blanks_left at [] = refl
blanks_left at (b ∷ bs) = skip_step b at bs (is_blank b) refl (blanks_left (at + 1) bs)

pub skip_left : (s : Rest) → left (skip s) ≡ left s
unfolding skip
skip_left s = blanks_left s.at s.bytes

first_left : (at : ℕ) (bs : List ℕ) → parentheses (behind_first at bs).bytes ≤ parentheses bs
first_left at [] = omega arith
first_left at (b ∷ bs) = byte_less b bs

pub behind_left : (s : Rest) → left (behind s) ≤ left s
behind_left s = first_left s.at s.bytes

pub sign_left : (b : ℕ) (s r : Rest) → sign_at b s ≡ Some r → left r ≤ left s
sign_left b s r h =
    let same = (chosen (head (skip s) == b) (behind (skip s)) r h).1 in
    subst (λ q. left q ≤ left s) same (omega (arith, behind_left (skip s), skip_left s))

first_open : (at : ℕ) (bs : List ℕ) → first_of bs ≡ 40 → parentheses (behind_first at bs).bytes + 1 ≤ parentheses bs
first_open at [] h = absurd (omega arith)
first_open at (b ∷ bs) h = omega (arith, open_byte bs, ap (λ c. parentheses (c ∷ bs)) h)

pub open_left : (s r : Rest) → sign_at 40 s ≡ Some r → left r + 1 ≤ left s
open_left s r h =
    let c = chosen (head (skip s) == 40) (behind (skip s)) r h in
    subst (λ q. left q + 1 ≤ left s) c.1
    (omega (arith, first_open (skip s).at (skip s).bytes (eqb-true (head (skip s)) 40 c.0), skip_left s))

past_step : (t : Bool) (o : Option Rest) (q s r : Rest) → (o ≡ Some r → left r ≤ left q) → left q ≤ left s
    → cond {A = Option Rest} t o None ≡ Some r → left r ≤ left s
past_step true o q s r f low h = let x = f h in omega arith
past_step false o q s r f low h = absurd (cc)

past_left : (word : List ℕ) (s r : Rest) → past word s ≡ Some r → left r ≤ left s
past_left [] s r h = subst (λ q. left q ≤ left s) (same_item s r h) (omega arith)
past_left (c ∷ cs) s r h = past_step (head s == c) (past cs (behind s)) (behind s) s r (λ e. past_left cs (behind s) r
    e) (behind_left s) h

pub word_left : (word : List ℕ) (s r : Rest) → keyword_at word s ≡ Some r → left r ≤ left s
word_left word s r h = omega (arith, past_left word (skip s) r h, skip_left s)

-- bytes that pass a test which a parenthesis fails
passed_none : (test : ℕ → Bool) → ((b : ℕ) → test b ≡ true → (b == 40) ≡ false) → (bs : List ℕ) → AllPass test bs
    → parentheses bs ≡ 0
passed_none test other [] h = no_parentheses
passed_none test other (b ∷ bs) h = other_byte b bs (other b h.0) ∙ passed_none test other bs h.1

letter_is_other : (b : ℕ) → is_letter b ≡ true → (b == 40) ≡ false
letter_is_other b h = grind (arith, nat_tests)

pub name_none : (text : List ℕ) → IsName text → parentheses text ≡ 0
name_none text n = ap parentheses n.is ∙ other_byte n.first n.others (letter_is_other n.first n.letter)
    ∙ passed_none is_word_byte word_byte_is_other n.others n.word

behind_word_step : (b at : ℕ) (bs : List ℕ) (t : Bool) → parentheses (behind_word (at + 1) bs).bytes ≤ parentheses bs
    → parentheses (cond t (behind_word (at + 1) bs) (record { at = at; bytes = b ∷ bs })).bytes ≤ parentheses (b ∷ bs)
behind_word_step b at bs true h = omega (arith, byte_less b bs)
behind_word_step b at bs false h = omega arith

behind_word_left : (at : ℕ) (bs : List ℕ) → parentheses (behind_word at bs).bytes ≤ parentheses bs
behind_word_left at [] = omega arith
behind_word_left at (b ∷ bs) = behind_word_step b at bs (is_word_byte b) (behind_word_left (at + 1) bs)

-- a name is printed without parentheses, and takes none
pub name_left : (s r : Rest) (n : Name) → name_at s ≡ Some (n, r) → parentheses n.text + left r ≤ left s
name_left s r n h =
    let t = skip s in
    let same = (chosen (is_letter (head t)) (word_here t) (n, r) h).1 in
    let rest : (word_here t).1 ≡ r = ap (λ p. p.1) same in
    let less : left r ≤ left t = subst (λ q. left q ≤ left t) rest (behind_word_left t.at t.bytes) in
    omega (arith, name_none n.text (name_lawful s r n h), less, skip_left s)

metric_none_from : (after : Bool) (bs : List ℕ) → MetricBytes after bs → parentheses bs ≡ 0
metric_none_from after [] h = no_parentheses
metric_none_from after (b ∷ bs) (inl h) = other_byte b bs (metric_byte_is_other b h.0) ∙ metric_none_from false bs h.1
metric_none_from after (b ∷ bs) (inr h) = other_byte b bs (slash_is_other b after h.1) ∙ metric_none_from true bs h.2
  where
    slash_is_other : (c : ℕ) (a : Bool) → (c == 47 && not a) ≡ true → (c == 40) ≡ false
    slash_is_other c a e = grind (arith, nat_tests)

with_byte_left : (b : ℕ) (o : Option (List ℕ × Rest)) (w : List ℕ) (q r : Rest) → with_byte b o ≡ Some (w, r)
    → ((v : List ℕ) (p : Rest) → o ≡ Some (v, p) → left p ≤ left q) → left r ≤ left q
with_byte_left b None w q r h f = absurd (cc)
with_byte_left b (Some x) w q r h f = subst (λ p. left p ≤ left q) (ap (λ p. p.1) (same_item (b ∷ x.0, x.1) (w, r) h))
    (f x.0 x.1 refl)

metric_left_step : (t u after : Bool) (b at : ℕ) (bs : List ℕ) (o p : Option (List ℕ × Rest)) (r : Rest) (w : List ℕ) →
    ((v : List ℕ) (q : Rest) → o ≡ Some (v, q) → left q ≤ parentheses bs) → ((v : List ℕ) (q : Rest) → p ≡ Some (v, q)
    → left q ≤ parentheses bs) →
    (if t then with_byte b o
    else (if u then with_byte b p else (if after then None else Some ([], record { at = at; bytes = b ∷ bs }))))
    ≡ Some (w, r) → left r ≤ parentheses (b ∷ bs)
metric_left_step true u after b at bs o p r w f g h = let x = with_byte_left b o w (record { at = at; bytes = bs }) r h
    f in omega (arith, x, byte_less b bs)
metric_left_step false true after b at bs o p r w f g h = let x = with_byte_left b p w (record { at = at; bytes = bs })
    r h g in omega (arith, x, byte_less b bs)
metric_left_step false false true b at bs o p r w f g h = absurd (cc)
metric_left_step false false false b at bs o p r w f g h = subst (λ q. left q ≤ parentheses (b ∷ bs))
    (ap (λ p. p.1) (same_item ([], record { at = at; bytes = b ∷ bs }) (w, r) h)) (omega arith)

metric_left_end : (after : Bool) (end r : Rest) (w : List ℕ) → cond {A = Option (List ℕ × Rest)} after None
    (Some ([], end)) ≡ Some (w, r) → left r ≤ left end
metric_left_end true end r w h = absurd (cc)
metric_left_end false end r w h = subst (λ q. left q ≤ left end) (ap (λ p. p.1) (same_item ([], end) (w, r) h))
    (omega arith)

metric_from_left : (after : Bool) (at : ℕ) (bs w : List ℕ) (r : Rest) → metric_from after at bs ≡ Some (w, r) → left r
    ≤ parentheses bs
metric_from_left after at [] w r h = metric_left_end after (record { at = at; bytes = [] }) r w h
metric_from_left after at (b ∷ bs) w r h =
    metric_left_step (is_metric_byte b) (b == 47 && not after) after b at bs (metric_from false (at + 1) bs)
    (metric_from true (at + 1) bs) r w
    (λ v q e. metric_from_left false (at + 1) bs v q e) (λ v q e. metric_from_left true (at + 1) bs v q e) h

pub metric_left : (s r : Rest) (n : Name) → metric_at s ≡ Some (n, r) → parentheses n.text + left r ≤ left s
metric_left s r n h =
    let m = metric_lawful s r n h in
    let none : parentheses n.text ≡ 0 = ap parentheses m.is ∙ other_byte 47 m.others refl ∙ metric_none_from true
    m.others m.bytes in
    let slash = followed (keyword_at (codes "/") s) (metric_behind (skip s).at) (n, r) h in
    let read = followed (metric_from true slash.0.at slash.0.bytes) (λ x. Some (metric_name (skip s).at x.0, x.1))
    (n, r) slash.2 in
    let x = read.0 in
    let same : x.1 ≡ r = ap (λ p. p.1) (same_item (metric_name (skip s).at x.0, x.1) (n, r) read.2) in
    let less : left r ≤ left slash.0 = subst (λ q. left q ≤ left slash.0) same (metric_from_left true slash.0.at
    slash.0.bytes x.0 x.1 read.1) in
    omega (arith, none, less, word_left (codes "/") s slash.0 slash.1)

digits_left_step : (t u : Bool) (v : ℕ) (o : Option (ℕ × Rest)) (b at : ℕ) (bs : List ℕ) (r : Rest) (n : ℕ)
    → (o ≡ Some (n, r) → left r ≤ parentheses bs) →
    (if t then (if u then o else None) else Some (v, record { at = at; bytes = b ∷ bs })) ≡ Some (n, r) → left r
    ≤ parentheses (b ∷ bs)
digits_left_step true true v o b at bs r n f h = let x = f h in omega (arith, x, byte_less b bs)
digits_left_step true false v o b at bs r n f h = absurd (cc)
digits_left_step false u v o b at bs r n f h = subst (λ q. left q ≤ parentheses (b ∷ bs))
    (ap (λ p. p.1) (same_item (v, record { at = at; bytes = b ∷ bs }) (n, r) h)) (omega arith)

digits_left : (most v at : ℕ) (bs : List ℕ) (r : Rest) (n : ℕ) → digits_from most v at bs ≡ Some (n, r) → left r
    ≤ parentheses bs
digits_left most v at [] r n h = subst (λ q. left q ≤ parentheses [])
    (ap (λ p. p.1) (same_item (v, record { at = at; bytes = [] }) (n, r) h)) (omega arith)
digits_left most v at (b ∷ bs) r n h =
    digits_left_step (is_digit b) (nat_le (v * 10 + (b - 48)) most) v (digits_from most (v * 10 + (b - 48)) (at + 1)
    bs) b at bs r n (λ e. digits_left most (v * 10 + (b - 48)) (at + 1) bs r n e) h

positive_left_step : (t : Bool) (most v : ℕ) (s r : Rest) (n : ℕ) → (if t then digits_from most v s.at s.bytes
    else None) ≡ Some (n, r) → left r ≤ left s
positive_left_step true most v s r n h = digits_left most v s.at s.bytes r n h
positive_left_step false most v s r n h = absurd (cc)

pub positive_left : (most : ℕ) (s r : Rest) (n : ℕ) → positive_at most s ≡ Some (n, r) → left r ≤ left s
positive_left most s r n h =
    let t = skip s in
    omega (
      arith,
      positive_left_step (is_digit (head t) && not (head t == 48)) most (head t - 48) (behind t) r n h,
      behind_left t,
      skip_left s,
    )

number_left_step : (t : Bool) (most : ℕ) (s q r : Rest) (n : ℕ) → left q ≤ left s
    → (if t then Some (0, q) else positive_at most s) ≡ Some (n, r) → left r ≤ left s
number_left_step true most s q r n low h = subst (λ p. left p ≤ left s) (ap (λ p. p.1) (same_item (0, q) (n, r) h)) low
number_left_step false most s q r n low h = positive_left most s r n h

number_left : (most : ℕ) (s r : Rest) (n : ℕ) → number_at most s ≡ Some (n, r) → left r ≤ left s
number_left most s r n h = number_left_step (head (skip s) == 48) most s (behind (skip s)) r n
    (omega (arith, behind_left (skip s), skip_left s)) h

signed_left_step : (t : Bool) (o p : Option (ℕ × Rest)) (z : ℤ) (s r : Rest) → ((n : ℕ) (q : Rest) → o ≡ Some (n, q)
    → left q ≤ left s) → ((n : ℕ) (q : Rest) → p ≡ Some (n, q) → left q ≤ left s) →
    cond {A = Option (ℤ × Rest)} t (option_and_then (λ n. Some (minus n.0, n.1)) o)
    (option_and_then (λ n. Some (pos n.0, n.1)) p) ≡ Some (z, r) → left r ≤ left s
signed_left_step true o p z s r f g h =
    let x = followed o (λ n. Some (minus n.0, n.1)) (z, r) h in
    subst (λ q. left q ≤ left s) (ap (λ p. p.1) (same_item (minus x.0.0, x.0.1) (z, r) x.2)) (f x.0.0 x.0.1 x.1)
signed_left_step false o p z s r f g h =
    let x = followed p (λ n. Some (pos n.0, n.1)) (z, r) h in
    subst (λ q. left q ≤ left s) (ap (λ p. p.1) (same_item (pos x.0.0, x.0.1) (z, r) x.2)) (g x.0.0 x.0.1 x.1)

pub signed_left : (s r : Rest) (z : ℤ) → signed_at s ≡ Some (z, r) → left r ≤ left s
signed_left s r z h =
    signed_left_step (head (skip s) == 45) (number_at (2 ^ 63) (behind (skip s))) (number_at (2 ^ 63 - 1) s) z s r
    (λ n q e. omega (arith, number_left (2 ^ 63) (behind (skip s)) q n e, behind_left (skip s), skip_left s))
    (λ n q e. number_left (2 ^ 63 - 1) s q n e) h

unit_left_step : (t v : Bool) (m : ℕ) (q s r : Rest) (z : ℤ) → left q ≤ left s → cond {A = Option (ℤ × Rest)} t None
    (cond {A = Option (ℤ × Rest)} v (Some (pos m, q)) None) ≡ Some (z, r) → left r ≤ left s
unit_left_step true v m q s r z low h = absurd (cc)
unit_left_step false true m q s r z low h = subst (λ p. left p ≤ left s) (ap (λ p. p.1) (same_item (pos m, q) (z, r) h)) low
unit_left_step false false m q s r z low h = absurd (cc)

pub duration_left : (s r : Rest) (z : ℤ) → duration_at s ≡ Some (z, r) → left r ≤ left s
duration_left s r z h =
    let x = followed (positive_at longest s) with_unit (z, r) h in
    let u = unit_seconds (head x.0.1) in
    unit_left_step (u == 0) (nat_le (x.0.0 * u) longest) (x.0.0 * u) (behind x.0.1) s r z
    (omega (arith, behind_left x.0.1, positive_left longest s x.0.1 x.0.0 x.1)) x.2

digit_is_other : (n : ℕ) → ((48 + n) == 40) ≡ false
digit_is_other n = grind (arith, nat_tests)

pub decimal_none : (n : ℕ) → n < 2 ^ 64 → parentheses (decimal n) ≡ 0
decimal_none = decimal_by_steps (λ n ds. parentheses ds ≡ 0) (λ n small. other_byte (48 + n) [] (digit_is_other n)
    ∙ no_parentheses)
    (λ n ds big e. omega (
      arith,
      e,
      parentheses_append ds ((48 + n % 10) ∷ []),
      other_byte (48 + n % 10) [] (digit_is_other (n % 10)),
      no_parentheses,
    ))

pub signed_none : (z : ℤ) → InRange z → parentheses (signed_decimal z) ≡ 0
signed_none (pos n) (above low) = decimal_none n (omega (arith, low))
signed_none (negsuc n) (below low) = other_byte 45 (decimal (suc n)) refl ∙ decimal_none (suc n) (omega (arith, low))

pub duration_none : (z : ℤ) → IsDuration z → parentheses (duration_text z) ≡ 0
duration_none (pos n) (seconds one low) =
    omega (
      arith,
      parentheses_append (decimal n) (115 ∷ []),
      decimal_none n (omega (arith, low)),
      other_byte 115 [] refl,
      no_parentheses,
    )
duration_none (negsuc n) h = elim h [ ]
