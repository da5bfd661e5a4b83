-- What was read of a token before its fault can be completed to a whole token.
use Rattle.std.proofs.Common.{◌≡◌, ℕ, ◌+◌, Bool, true, false, ◌==◌, ◌||◌, ◌&&◌, not, List, [], ◌∷◌, ◌++◌, length, refl}
use Rattle.std.proofs.Common.{sym, ap, ◌∙◌, subst, arith, if◌then◌else◌, append_assoc, length-append, Option, Some}
use Rattle.std.proofs.Common.{None, Ok, Err}
use Rattle.std.proofs.lemmas.Bool.{false≢true}
use Rattle.std.proofs.lemmas.List.{append-nil}
use Rattle.std.proofs.lemmas.Bool.Decides.{nat_tests}
use Rattle.mql_ast.specs.Tokens.{is_alphabet, is_blank, is_letter, is_digit, is_word_byte, is_metric_byte, Rest}
use Rattle.mql_ast.specs.Tokens.{first_of, behind_first, behind_blanks, head, behind, skip, sign_at, past, keyword_at}
use Rattle.mql_ast.specs.Tokens.{word_bytes, behind_word, word_here, name_at}
use Rattle.mql_parse.specs.declared.faults.ParseKind.{ParseKind}
use Rattle.mql_parse.specs.declared.faults.ParseKind.TheVariants.{BadToken, Expected}
use Rattle.mql_parse.specs.declared.faults.What.{What}
use Rattle.mql_parse.specs.declared.faults.What.TheVariants as what
use Rattle.mql_parse.specs.Outcomes.{kind_of_fault, fault, unexpected_fault, exact, sign}
use Rattle.mql_parse.specs.FaultTokens.{IsBare}
use Rattle.mql_parse.specs.TokenReading as reading
use Rattle.mql_parse.proofs.RestLemmas.{skip_off}
use Rattle.mql_parse.proofs.WordLemmas.{word_bytes_on}
use Rattle.mql_parse.proofs.TokenFronts.{Fronts, WordOf}
use Rattle.mql_parse.proofs.Endings.{is_inner, Front, Anyhow, Worded, Parted, OpensAs, Text, changed, worded, NoQuotes}
use Rattle.mql_parse.proofs.Endings.{Default, Cut, Smaller, IfTooLarge, ComesBy, Closes, Comes, IfExpected, Finish}
use Rattle.mql_parse.proofs.Endings.{Ends, behind_read, Reads, Leaves, cut_before, cut_as, ends_as, if_ends}
use Rattle.mon_value.proofs.PlainLemmas.{equal_numbers}
use Rattle.std.proofs.lemmas.Bool.{or_parts}
use Rattle.mql_parse.proofs.ByteLemmas.{behind_word_off, word_bytes_off, letter_no_blank}
use Rattle.mql_parse.proofs.ByteLemmas.{letter_in_word, not_false}

abbrev pub at_place : ℕ → List ℕ → Rest
at_place at bs = record { at = at; bytes = bs }

-- tests of bytes
pub blank_outer : (b : ℕ) → is_blank b ≡ true → is_inner b ≡ false
blank_outer b h = grind (arith, nat_tests)

pub outer_no_metric : (b : ℕ) → is_inner b ≡ false → (is_metric_byte b ≡ false) × ((b == 47) ≡ false)
outer_no_metric b h = or_parts (is_metric_byte b) (b == 47) h

pub outer_no_word : (b : ℕ) → is_inner b ≡ false → is_word_byte b ≡ false
outer_no_word b h = (or_parts (is_word_byte b) (b == 46) (outer_no_metric b h).0).0

pub outer_no_digit : (b : ℕ) → is_inner b ≡ false → is_digit b ≡ false
outer_no_digit b h = (or_parts (is_letter b) (is_digit b) (outer_no_word b h)).1

-- blanks
abbrev pub AreBlanks : List ℕ → Type 0
AreBlanks [] = Unit {0}
AreBlanks (b ∷ bs) = (is_blank b ≡ true) × AreBlanks bs

pub blank_last : (bs : List ℕ) → AreBlanks bs → AreBlanks (bs ++ 10 ∷ [])
blank_last [] e = (refl, tt)
blank_last (b ∷ bs) e = (e.0, blank_last bs e.1)

blanks_passed : (bs z : List ℕ) (at : ℕ) → AreBlanks bs → behind_blanks at (bs ++ z) ≡ behind_blanks (at + length bs) z
blanks_passed [] z at h = ap (λ n. behind_blanks n z) (omega arith)
blanks_passed (b ∷ bs) z at h =
    ap (λ t. if t then behind_blanks (at + 1) (bs ++ z) else at_place at (b ∷ (bs ++ z))) h.0
    ∙ blanks_passed bs z (at + 1) h.1 ∙ ap (λ n. behind_blanks n z) (omega arith)

pub skip_over : (bs z : List ℕ) (at : ℕ) → AreBlanks bs → skip (at_place at (bs ++ z)) ≡ skip
    (at_place (at + length bs) z)
unfolding skip
skip_over bs z at h = blanks_passed bs z at h

blanks_cut : (at : ℕ) (bs : List ℕ) → Cut AreBlanks (at_place at bs) (behind_blanks at bs)
blanks_cut at [] = record { front = []; bytes = refl; place = omega arith; is = tt }
blanks_cut at (b ∷ bs) = step (is_blank b) refl (blanks_cut (at + 1) bs)
  where
    step : (t : Bool) → is_blank b ≡ t → Cut AreBlanks (at_place (at + 1) bs) (behind_blanks (at + 1) bs) →
        Cut AreBlanks (at_place at (b ∷ bs)) (if t then behind_blanks (at + 1) bs else at_place at (b ∷ bs))
    step true h c =
        record { front = b ∷ c.front; bytes = ap (λ t. b ∷ t) c.bytes; place = omega (arith, c.place); is = (h, c.is) }
    step false h c = record { front = []; bytes = refl; place = omega arith; is = tt }

pub skip_cut : (s : Rest) → Cut AreBlanks s (skip s)
unfolding skip
skip_cut s = blanks_cut s.at s.bytes

pub blanks_open : (o : Front) (bs w : List ℕ) → AreBlanks bs → OpensAs o w → OpensAs o (bs ++ w)
blanks_open Anyhow bs w h f = tt
blanks_open Worded [] w h f = f
blanks_open Worded (b ∷ bs) w h f = λ v g u. blank_outer b h.0
blanks_open Parted [] w h f = f
blanks_open Parted (b ∷ bs) w h f = λ u. blank_outer b h.0

-- blanks before a token are of it
pub blanks_before : {o : Front} {c : Bool} {R : List ℕ → List ℕ → Type 0} (bs w : List ℕ) → AreBlanks bs →
    ((x z : List ℕ) → R x z → R (bs ++ x) z) → Text o c R w → Text o c R (bs ++ w)
blanks_before {o = o} {R = R} bs w h k f = record {
  opens = blanks_open o bs w h f.opens;
  fills = λ z e. subst (λ t. R t z) (sym (append_assoc bs w z)) (k (w ++ z) z (f.fills z e));
}

-- one byte
pub byte_cut : (test : ℕ → Bool) → test 0 ≡ false → (s : Rest) → test (head s) ≡ true →
    Cut (λ w. w ≡ head s ∷ []) s (behind s)
byte_cut test z s h = of_bytes s.at s.bytes h
  where
    of_bytes : (at : ℕ) (bs : List ℕ) → test (first_of bs) ≡ true → Cut (λ w. w ≡ first_of bs ∷ []) (at_place at bs)
        (behind_first at bs)
    of_bytes at [] h = absurd (false≢true (sym z ∙ h))
    of_bytes at (b ∷ bs) h = record { front = b ∷ []; bytes = refl; place = omega arith; is = refl }

pub none_too_large : (P : Type 0) (w : What) (bs : List ℕ) → IfTooLarge (kind_of_fault w bs) P
none_too_large P w [] = tt
none_too_large P w (b ∷ bs) = either (is_alphabet b)
  where
    either : (t : Bool) → IfTooLarge (if t then Expected w else BadToken) P
    either true = tt
    either false = tt

pub expected_of : (P : What → Type 0) (w : What) (bs : List ℕ) → P w → IfExpected (kind_of_fault w bs) P
expected_of P w [] h = h
expected_of P w (b ∷ bs) h = either (is_alphabet b)
  where
    either : (t : Bool) → IfExpected (if t then Expected w else BadToken) P
    either true = h
    either false = tt

-- where what stands here is refused, blanks aside, for another reason than that something was expected
pub refused : {L : List ℕ → Type 0} (s : Rest) (tail : List ℕ) (kind : ParseKind) →
    IfTooLarge kind (Smaller L s (skip s).at) → ((front : List ℕ) → IfExpected kind (Comes L front)) →
    ((bs : List ℕ) → AreBlanks bs → L (bs ++ tail)) → Finish L s (fault kind (skip s))
refused s tail kind k c h = let blanks = skip_cut s in
    record {
      front = blanks.front;
      left = (skip s).bytes;
      bytes = blanks.bytes;
      place = blanks.place;
      tail = tail;
      is = h blanks.front
          blanks.is;
      smaller = k;
      comes = c blanks.front;
    }

-- where this was expected behind what was read, which ends in a part of it or with which it begins behind a blank
pub begun_here : {L : List ℕ → Type 0} (w : What) (s m : Rest) (v before begun : List ℕ) (byte : ℕ)
    (rest more : List ℕ) → s.bytes ≡ v ++ m.bytes → m.at ≡ s.at + length v → v ≡ before ++ begun →
    ComesBy w begun byte rest → Closes w begun (byte ∷ (rest ++ more)) → L (v ++ byte ∷ (rest ++ more)) →
    Finish L s (unexpected_fault w m)
begun_here {L = L} w s m v before begun byte rest more e p q k c h = record {
  front = v;
  left = m.bytes;
  bytes = e;
  place = p;
  tail = byte ∷ (rest ++ more);
  is = h;
  smaller = none_too_large (Smaller L s m.at) w m.bytes;
  comes = expected_of (Comes L v) w m.bytes (record {
    before = before;
    begun = begun;
    byte = byte;
    rest = rest;
    parts = q;
    way = k;
    more = more;
    closes = c;
    is = h;
  });
}

-- where it is expected behind blanks: in a text that has one more blank there, and in any
pub wrong_spaced : {L : List ℕ → Type 0} (w : What) (s : Rest) (token more : List ℕ) → IsBare w token →
    ((bs : List ℕ) → AreBlanks bs → L (bs ++ 10 ∷ (token ++ more))) → Finish L s (unexpected_fault w (skip s))
wrong_spaced {L = L} w s token more k h = let blanks = skip_cut s in
    begun_here {L = L} w s (skip s) blanks.front blanks.front [] 10 token more blanks.bytes blanks.place
    (sym (append-nil blanks.front)) (refl, k) tt (h blanks.front blanks.is)

pub wrong : {L : List ℕ → Type 0} (w : What) (s : Rest) (byte : ℕ) (rest more : List ℕ) → IsBare w (byte ∷ rest) →
    ((bs : List ℕ) → AreBlanks bs → L (bs ++ byte ∷ (rest ++ more))) → Finish L s (unexpected_fault w (skip s))
wrong {L = L} w s byte rest more k h = wrong_spaced {L = L} w s (byte ∷ rest) more k
    (λ bs e. subst L (append_assoc bs (10 ∷ []) (byte ∷ (rest ++ more))) (h (bs ++ 10 ∷ []) (blank_last bs e)))

-- tokens
abbrev pub SignSpan : ℕ → List ℕ → List ℕ → Type 0
SignSpan b x z = (at : ℕ) → (n : ℕ) × (sign_at b (at_place at x) ≡ Some (at_place n z))

abbrev pub WordSpan : List ℕ → List ℕ → List ℕ → Type 0
WordSpan cs x z = (at : ℕ) → (n : ℕ) × (keyword_at cs (at_place at x) ≡ Some (at_place n z))

-- a keyword that no word byte goes on
abbrev pub SpacedSpan : List ℕ → List ℕ → List ℕ → Type 0
SpacedSpan cs x z = WordSpan cs x z × (is_word_byte (first_of z) ≡ false)

abbrev pub Token : {A : Type 0} → (Rest → Option (A × Rest)) → List ℕ → List ℕ → Type 0
Token {A = A} read x z = (at : ℕ) → (n : ℕ × A) × (read (at_place at x) ≡ Some (n.1, at_place n.0 z))

abbrev pub NamedSpan : List ℕ → List ℕ → List ℕ → Type 0
NamedSpan text x z =
    (at : ℕ) → (n : ℕ × ℕ) × (name_at (at_place at x) ≡ Some (record { at = n.1; text = text }, at_place n.0 z))

abbrev pub NameSpan : List ℕ → List ℕ → Type 0
NameSpan x z = Token name_at x z

-- signs: or_parts blanks nor what goes on a name
abbrev pub IsSign : ℕ → Type 0
IsSign b = (is_inner b ≡ false) × ((is_blank b ≡ false) × ((b == b ≡ true) × (0 == b ≡ false)))

sign_over : (b : ℕ) (bs : List ℕ) → AreBlanks bs → (x z : List ℕ) → SignSpan b x z → SignSpan b (bs ++ x) z
sign_over b bs h x z f = λ at. let n = f (at + length bs) in
    (n.0, ap (λ t. if head t == b then Some (behind t) else None) (skip_over bs x at h) ∙ n.1)

one_sign : (b : ℕ) → IsSign b → Text Parted true (SignSpan b) (b ∷ [])
one_sign b h = record {
  opens = λ u. h.0;
  fills = λ z _ at. (
    at + 1,
    ap (λ t. if head t == b then Some (behind t) else None)
        (skip_off (at_place at (b ∷ z)) h.1.0) ∙ ap (λ t. if t then Some (at_place (at + 1) z) else None) h.1.1.0,
  );
}

pub sign_text : (b : ℕ) → IsSign b → (bs : List ℕ) → AreBlanks bs → Text Parted true (SignSpan b) (bs ++ b ∷ [])
sign_text b h bs e = blanks_before bs (b ∷ []) e (sign_over b bs e) (one_sign b h)

pub sign_default : (b : ℕ) → IsSign b → NoQuotes (b ∷ []) → Default (Text Parted true (SignSpan b))
sign_default b h p = record { text = b ∷ []; plain = p; is = one_sign b h }

pub sign_cut : (b : ℕ) → IsSign b → (s : Rest) → (head (skip s) == b) ≡ true → Cut (Text Parted true (SignSpan b)) s
    (behind (skip s))
sign_cut b h s e =
    let c = skip_cut s in
    cut_before {N = Text Parted true (SignSpan b)} s (skip s) (behind (skip s)) c.front c.bytes c.place
    (cut_as (skip s) (behind (skip s)) (byte_cut (λ x. x == b) h.1.1.1 (skip s) e)
    (λ w f. subst (λ v. Text Parted true (SignSpan b) (c.front ++ v))
    (ap (λ x. x ∷ []) (sym (equal_numbers (head (skip s)) b e)) ∙ sym f) (sign_text b h c.front c.is)))

pub sign_ends : (b : ℕ) (w : What) → IsSign b → IsBare w (b ∷ []) → (s : Rest) →
    Leaves (Text Parted true (SignSpan b)) s (sign b w s)
sign_ends b w h k s =
    if_ends s (head (skip s) == b) (Ok (behind (skip s))) (Err (unexpected_fault w (skip s)))
    (λ e. record { way = sign_cut b h s e }) (λ e. record { way = wrong w s b [] [] k (sign_text b h) })

-- the first byte of a token, behind blanks
pub first_cut : (test : ℕ → Bool) → test 0 ≡ false → (s : Rest) → test (head (skip s)) ≡ true →
    Cut (λ v. (bs : List ℕ) × (AreBlanks bs × (v ≡ bs ++ head (skip s) ∷ []))) s (behind (skip s))
first_cut test z s h =
    let c = skip_cut s in
    cut_before {N = λ v. (bs : List ℕ) × (AreBlanks bs × (v ≡ bs ++ head (skip s) ∷ []))} s (skip s) (behind (skip s))
    c.front c.bytes c.place
    (cut_as (skip s) (behind (skip s)) (byte_cut test z (skip s) h)
    (λ w f. (c.front, (c.is, ap (λ t. c.front ++ t) f))))

-- keywords
abbrev pub all_nonzero : List ℕ → Bool
all_nonzero [] = true
all_nonzero (c ∷ cs) = not (0 == c) && all_nonzero cs

-- a word that is read on behind what was read, which ends in a part of it
pub word_from : (w : What) (cs : List ℕ) → (w ≡ what.Text → ⊥) → all_nonzero cs ≡ true
    → (s m : Rest) (v before : List ℕ) (b : ℕ)
    (begun : List ℕ) → s.bytes ≡ v ++ m.bytes → m.at ≡ s.at + length v → v ≡ before ++ b ∷ begun →
    Fronts w (b ∷ begun) cs → IsBare w (b ∷ (begun ++ cs)) → Leaves (λ u. u ≡ v ++ cs) s (exact w cs m)
word_from w [] o h s m v before b begun e p q u k =
    record { way = record { front = v; bytes = e; place = p; is = sym (append-nil v) } }
word_from w (c ∷ cs) o h s m v before b begun e p q u k =
    let nonzero = not_false (0 == c) (all_nonzero cs) h in
    if_ends s (head m == c) (exact w cs (behind m)) (Err (unexpected_fault w m))
    (λ g. let next = byte_cut (λ x. x == c) nonzero.0 m g in
    let first : next.front ≡ c ∷ [] = next.is ∙ ap (λ x. x ∷ []) (equal_numbers (head m) c g) in
    ends_as s (exact w cs (behind m))
    (word_from w cs o nonzero.1 s (behind m) (v ++ c ∷ []) before b (begun ++ c ∷ [])
    (e ∙ ap (λ t. v ++ t) (next.bytes ∙ ap (λ t. t ++ (behind m).bytes) first)
    ∙ sym (append_assoc v (c ∷ []) (behind m).bytes))
    (omega (arith, p, next.place, ap length first, length-append v (c ∷ [])))
    (ap (λ t. t ++ c ∷ []) q ∙ append_assoc before (b ∷ begun) (c ∷ [])) u.1
    (subst (λ t. IsBare w (b ∷ t)) (sym (append_assoc begun (c ∷ []) cs)) k))
    (λ r u f. f ∙ append_assoc v (c ∷ []) cs) (λ u f. f ∙ append_assoc v (c ∷ []) cs))
    (λ g. record {
      way = begun_here {L = λ u. u ≡ v ++ c ∷ cs} w s m v before (b ∷ begun) c cs [] e p q (u.0, k) (λ t. absurd (o t))
          (ap (λ t. v ++ c ∷ t) (append-nil cs));
    })

-- a keyword or a sign of several bytes, behind blanks
pub exact_ends : {L : List ℕ → Type 0} (w : What) (c : ℕ) (cs : List ℕ) → all_nonzero (c ∷ cs) ≡ true →
    WordOf w c cs → ((bs : List ℕ) → AreBlanks bs → L (bs ++ c ∷ cs)) → (s : Rest) →
    Leaves L s (exact w (c ∷ cs) (skip s))
exact_ends {L = L} w c cs h k f s =
    let nonzero = not_false (0 == c) (all_nonzero cs) h in
    if_ends s (head (skip s) == c) (exact w cs (behind (skip s))) (Err (unexpected_fault w (skip s)))
    (λ g. let next = first_cut (λ x. x == c) nonzero.0 s g in
    let front : next.front ≡ next.is.0 ++ c ∷ [] =
    next.is.1.1 ∙ ap (λ x. next.is.0 ++ x ∷ []) (equal_numbers (head (skip s)) c g) in
    let whole : (u : List ℕ) → u ≡ next.front ++ cs → L u = λ u e. subst L
    (sym (e ∙ ap (λ t. t ++ cs) front ∙ append_assoc next.is.0 (c ∷ []) cs)) (f next.is.0 next.is.1.0) in
    ends_as s (exact w cs (behind (skip s)))
    (word_from w cs k.other nonzero.1 s (behind (skip s)) next.front next.is.0 c [] next.bytes next.place front
    k.fronts k.bare)
    (λ r u e. whole u e) (λ u e. whole u e))
    (λ g. record {
      way = wrong w s c cs [] k.bare (λ bs e. subst (λ t. L (bs ++ c ∷ t)) (sym (append-nil cs)) (f bs e));
    })

same_byte : (c : ℕ) → (c == c) ≡ true
same_byte c = grind (arith, nat_tests)

past_over : (cs z : List ℕ) (at : ℕ) → past cs (at_place at (cs ++ z)) ≡ Some (at_place (at + length cs) z)
past_over [] z at = ap (λ n. Some (at_place n z)) (omega arith)
past_over (c ∷ cs) z at = ap (λ t. if t then past cs (at_place (at + 1) (cs ++ z)) else None) (same_byte c)
    ∙ past_over cs z (at + 1) ∙ ap (λ n. Some (at_place n z)) (omega arith)

pub word_over : (cs bs : List ℕ) → AreBlanks bs → (x z : List ℕ) → WordSpan cs x z → WordSpan cs (bs ++ x) z
word_over cs bs h x z f = λ at. let n = f (at + length bs) in (n.0, ap (past cs) (skip_over bs x at h) ∙ n.1)

one_word : (o : Front) (c : ℕ) (cs : List ℕ) → is_blank c ≡ false → OpensAs o (c ∷ cs) →
    Text o true (WordSpan (c ∷ cs)) (c ∷ cs)
one_word o c cs h f =
    record {
      opens = f;
      fills = λ z _ at. (
        at + length (c ∷ cs),
        ap (past (c ∷ cs))
            (skip_off (at_place at (c ∷ (cs ++ z))) h) ∙ past_over (c ∷ cs) z at,
      );
    }

pub word_text : (o : Front) (c : ℕ) (cs : List ℕ) → is_blank c ≡ false → OpensAs o (c ∷ cs) → (bs : List ℕ) →
    AreBlanks bs → Text o true (WordSpan (c ∷ cs)) (bs ++ c ∷ cs)
word_text o c cs h f bs e = blanks_before bs (c ∷ cs) e (word_over (c ∷ cs) bs e) (one_word o c cs h f)

pub word_default : (o : Front) (c : ℕ) (cs : List ℕ) → is_blank c ≡ false → OpensAs o (c ∷ cs) → NoQuotes (c ∷ cs) →
    Default (Text o true (WordSpan (c ∷ cs)))
word_default o c cs h f p = record { text = c ∷ cs; plain = p; is = one_word o c cs h f }

pub word_ends : (o : Front) (w : What) (c : ℕ) (cs : List ℕ) → is_blank c ≡ false → OpensAs o (c ∷ cs) →
    all_nonzero (c ∷ cs) ≡ true → WordOf w c cs → (s : Rest) →
    Leaves (Text o true (WordSpan (c ∷ cs))) s (exact w (c ∷ cs) (skip s))
word_ends o w c cs h f z k s = exact_ends {L = Text o true (WordSpan (c ∷ cs))} w c cs z k (word_text o c cs h f) s

pub spaced : {o : Front} (cs w : List ℕ) → Text o true (WordSpan cs) w → Text o false (SpacedSpan cs) w
spaced cs w f = record { opens = f.opens; fills = λ z h. (f.fills z tt, outer_no_word (first_of z) h) }

-- names
abbrev AreWord : List ℕ → Type 0
AreWord [] = Unit {0}
AreWord (b ∷ bs) = (is_word_byte b ≡ true) × AreWord bs

word_cut : (at : ℕ) (bs : List ℕ) → Cut (λ w. AreWord w × (w ≡ word_bytes bs)) (at_place at bs) (behind_word at bs)
word_cut at [] = record { front = []; bytes = refl; place = omega arith; is = (tt, refl) }
word_cut at (b ∷ bs) = step (is_word_byte b) refl (word_cut (at + 1) bs)
  where
    step : (t : Bool) → is_word_byte b ≡ t → Cut (λ w. AreWord w × (w ≡ word_bytes bs)) (at_place (at + 1) bs)
        (behind_word (at + 1) bs) →
        Cut (λ w. AreWord w × (w ≡ (if t then b ∷ word_bytes bs else []))) (at_place at (b ∷ bs))
        (if t then behind_word (at + 1) bs else at_place at (b ∷ bs))
    step true h c =
        record {
          front = b ∷ c.front;
          bytes = ap (λ t. b ∷ t) c.bytes;
          place = omega (arith, c.place);
          is =
              ((h, c.is.0), ap (λ t. b ∷ t) c.is.1);
        }
    step false h c = record { front = []; bytes = refl; place = omega arith; is = (tt, refl) }

whole_word : (w z : List ℕ) → AreWord w → is_word_byte (first_of z) ≡ false → word_bytes (w ++ z) ≡ w
whole_word [] z h e = word_bytes_off z e
whole_word (b ∷ w) z h e =
    ap (λ t. if t then b ∷ word_bytes (w ++ z) else []) h.0 ∙ ap (λ t. b ∷ t) (whole_word w z h.1 e)

behind_whole : (w z : List ℕ) (at : ℕ) → AreWord w → is_word_byte (first_of z) ≡ false →
    behind_word at (w ++ z) ≡ at_place (at + length w) z
behind_whole [] z at h e = behind_word_off at z e ∙ ap (λ n. at_place n z) (omega arith)
behind_whole (b ∷ w) z at h e = ap (λ t. if t then behind_word (at + 1) (w ++ z) else at_place at (b ∷ (w ++ z))) h.0
    ∙ behind_whole w z (at + 1) h.1 e ∙ ap (λ n. at_place n z) (omega arith)

name_over : (text bs : List ℕ) → AreBlanks bs → (x z : List ℕ) → NamedSpan text x z → NamedSpan text (bs ++ x) z
name_over text bs h x z f = λ at. let n = f (at + length bs) in
    (n.0, ap (λ t. if is_letter (head t) then Some (word_here t) else None) (skip_over bs x at h) ∙ n.1)

one_name : (w : List ℕ) → AreWord w → is_letter (first_of w) ≡ true → Text Worded false (NamedSpan w) w
one_name [] h e = absurd (false≢true e)
one_name (c ∷ w) h e = record {
  opens = λ v g u. absurd (false≢true (sym g ∙ h.0));
  fills = λ z stops at. (
    (at + length (c ∷ w), at),
    ap (λ t. if is_letter (head t) then Some (word_here t) else None)
        (skip_off (at_place at (c ∷ (w ++ z))) (letter_no_blank c e))
        ∙ ap (λ t. if t then Some (word_here (at_place at (c ∷ (w ++ z)))) else None) e
        ∙ ap (λ t. Some (record { at = at; text = t }, behind_word at (c ∷ (w ++ z))))
        (whole_word (c ∷ w) z h (outer_no_word (first_of z) stops))
        ∙ ap (λ r. Some (record { at = at; text = c ∷ w }, r))
        (behind_whole (c ∷ w) z at h (outer_no_word (first_of z) stops)),
  );
}

name_text : (bs w : List ℕ) → AreBlanks bs → AreWord w → is_letter (first_of w) ≡ true →
    Text Worded false (NamedSpan w) (bs ++ w)
name_text bs w e h l = blanks_before bs w e (name_over w bs e) (one_name w h l)

pub some_name : (text x z : List ℕ) → NamedSpan text x z → NameSpan x z
some_name text x z f = λ at. let n = f at in ((n.0.0, record { at = n.0.1; text = text }), n.1)

pub a_name : Text Parted false NameSpan (10 ∷ 95 ∷ [])
a_name =
    let name = name_text (10 ∷ []) (95 ∷ []) (refl, tt) (refl, tt) refl in
    record { opens = λ u. refl; fills = (changed (some_name (95 ∷ [])) (10 ∷ 95 ∷ []) name).fills }

-- ` _`
abbrev pub name_default : Default (Text Parted false NameSpan)
name_default = record { text = 10 ∷ 95 ∷ []; plain = refl; is = a_name }

pub any_name_over : (bs : List ℕ) → AreBlanks bs → (x z : List ℕ) → NameSpan x z → NameSpan (bs ++ x) z
any_name_over bs h x z f = λ at. let n = f (at + length bs) in
    (n.0, ap (λ t. if is_letter (head t) then Some (word_here t) else None) (skip_over bs x at h) ∙ n.1)

pub name_after : (bs : List ℕ) → AreBlanks bs → Text Worded false NameSpan (bs ++ name_default.text)
name_after bs h = blanks_before bs name_default.text h (any_name_over bs h) (worded name_default.text name_default.is)

-- a name that stands here
pub name_cut : (s : Rest) → is_letter (head (skip s)) ≡ true →
    Cut (Text Worded false (NamedSpan (word_bytes (skip s).bytes))) s (word_here (skip s)).1
name_cut s h =
    let c = skip_cut s in
    let t = skip s in
    cut_before {N = Text Worded false (NamedSpan (word_bytes t.bytes))} s t (behind_word t.at t.bytes) c.front c.bytes
    c.place
    (cut_as t (behind_word t.at t.bytes) (word_cut t.at t.bytes)
    (λ w f. subst (λ v. Text Worded false (NamedSpan v) (c.front ++ w)) f.1
    (name_text c.front w c.is f.0
    (ap (λ v. is_letter (first_of v)) (f.1 ∙ word_bytes_on t.at t.bytes (letter_in_word (head t) h)) ∙ h))))

pub named_ends : (s : Rest) → Ends behind_read (λ x. Text Worded false (NamedSpan x.0.text))
    (Text Worded false NameSpan) s (reading.name s)
unfolding reading.name
named_ends s =
    if_ends s (is_letter (head (skip s))) (Ok (word_here (skip s))) (Err (unexpected_fault what.Name (skip s)))
    (λ h. record { way = name_cut s h })
    (λ h. record { way = wrong_spaced what.Name s (95 ∷ []) [] refl name_after })

pub name_ends : (s : Rest) → Reads (Text Worded false NameSpan) s (reading.name s)
name_ends s = ends_as s (reading.name s) (named_ends s) (λ x w f. changed (some_name x.0.text) w f) (λ w f. f)

-- the signs
pub plus_sign : IsSign 43
plus_sign = (refl, (refl, (refl, refl)))

pub minus_sign : IsSign 45
minus_sign = (refl, (refl, (refl, refl)))

pub open_parenthesis : IsSign 40
open_parenthesis = (refl, (refl, (refl, refl)))

pub close_parenthesis : IsSign 41
close_parenthesis = (refl, (refl, (refl, refl)))

pub open_bracket : IsSign 91
open_bracket = (refl, (refl, (refl, refl)))

pub close_bracket : IsSign 93
close_bracket = (refl, (refl, (refl, refl)))

pub open_brace : IsSign 123
open_brace = (refl, (refl, (refl, refl)))

pub close_brace : IsSign 125
close_brace = (refl, (refl, (refl, refl)))

pub comma : IsSign 44
comma = (refl, (refl, (refl, refl)))

pub colon : IsSign 58
colon = (refl, (refl, (refl, refl)))

pub semicolon : IsSign 59
semicolon = (refl, (refl, (refl, refl)))

pub bar : IsSign 124
bar = (refl, (refl, (refl, refl)))

pub exclamation : IsSign 33
exclamation = (refl, (refl, (refl, refl)))

pub quote : IsSign 34
quote = (refl, (refl, (refl, refl)))
