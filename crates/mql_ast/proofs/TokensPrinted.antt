-- Names and metrics that were read are read again where they are printed.
use Rattle.std.proofs.Common.{◌≡◌, ℕ, ◌+◌, Bool, true, false, ◌==◌, ◌||◌, ◌&&◌, not, ◌⊎◌, List, [], ◌∷◌, ◌++◌, codes}
use Rattle.std.proofs.Common.{refl, sym, ap, ◌∙◌, arith, cond, if◌then◌else◌, Option, Some, None, option_and_then, inl}
use Rattle.std.proofs.Common.{inr}
use Rattle.std.proofs.lemmas.Bool.Decides.{nat_tests}
use Rattle.std.proofs.lemmas.Bool.{eq-eqb}
use Rattle.mql_ast.specs.declared.names.Name.{Name}
use Rattle.mql_ast.specs.Tokens.{is_blank, is_letter, is_digit, is_word_byte, is_metric_byte, Rest, first_of, head}
use Rattle.mql_ast.specs.Tokens.{behind, skip, sign_at, past, keyword_at, word_bytes, behind_word, word_here, name_at}
use Rattle.mql_ast.specs.Tokens.{with_byte, metric_from, metric_name, metric_behind, metric_at}
use Rattle.mon_value.proofs.PlainLemmas.{same_item}

pub if_true : {A : Type 0} (t : Bool) (x y : A) → t ≡ true → (if t then x else y) ≡ x
if_true t x y h = ap (λ u. if u then x else y) h

pub if_false : {A : Type 0} (t : Bool) (x y : A) → t ≡ false → (if t then x else y) ≡ y
if_false t x y h = ap (λ u. if u then x else y) h

pub or_false : (a b : Bool) → (a || b) ≡ false → (a ≡ false) × (b ≡ false)
or_false true b h = absurd (cc)
or_false false b h = (refl, h)

pub or_first : (a b : Bool) → a ≡ true → (a || b) ≡ true
or_first a b h = ap (λ t. t || b) h

pub both : {A B C : Type 0} (f : A → B → C) {a b : A} {c d : B} → a ≡ b → c ≡ d → f a c ≡ f b d
both f e g = cc

-- an option that a test gave
pub chosen : {A : Type 0} (t : Bool) (x y : A) → (if t then Some x else None) ≡ Some y → (t ≡ true) × (x ≡ y)
chosen true x y h = (refl, cc)
chosen false x y h = absurd (cc)

-- what follows on what was read
pub followed : {A B : Type 0} (o : Option A) (f : A → Option B) (y : B) → option_and_then f o ≡ Some y → (x : A)
    × (o ≡ Some x) × (f x ≡ Some y)
followed None f y h = absurd (cc)
followed (Some x) f y h = (x, refl, h)

-- what may go on a word, a number or a metric's name
abbrev pub goes_on : ℕ → Bool
goes_on b = is_metric_byte b || b == 47

-- no token goes on here
abbrev pub Ends : List ℕ → Type 0
Ends bytes = goes_on (first_of bytes) ≡ false

-- the bytes stand here, with or without blanks before them
pub record From (s : Rest) (bytes : List ℕ) : Type 0 where
  pub at : ℕ
  pub is : skip s ≡ skip (record { at = at; bytes = bytes })

-- the same bytes, written in another way
abbrev pub regrouped : {s : Rest} {bytes other : List ℕ} → From s bytes → bytes ≡ other → From s other
regrouped f e = record { at = f.at; is = f.is ∙ ap (λ t. skip (record { at = f.at; bytes = t })) e }

abbrev pub here : (at : ℕ) (bytes : List ℕ) → From (record { at = at; bytes = bytes }) bytes
here at bytes = record { at = at; is = refl }

pub blank_skipped : (at : ℕ) (bytes : List ℕ) → skip (record { at = at; bytes = 32 ∷ bytes })
    ≡ skip (record { at = at + 1; bytes = bytes })
unfolding skip
blank_skipped at bytes = refl

abbrev pub behind_blank : (at : ℕ) (bytes : List ℕ) → From (record { at = at; bytes = 32 ∷ bytes }) bytes
behind_blank at bytes = record { at = at + 1; is = blank_skipped at bytes }

pub no_blank : (at b : ℕ) (bs : List ℕ) → is_blank b ≡ false → skip (record { at = at; bytes = b ∷ bs })
    ≡ record { at = at; bytes = b ∷ bs }
unfolding skip
no_blank at b bs h = if_false (is_blank b) _ _ h

-- a sign that is printed here is read
pub sign_printed : (b : ℕ) → is_blank b ≡ false → (b == b) ≡ true → (s : Rest) (bytes : List ℕ)
    → (f : From s (b ∷ bytes)) → sign_at b s ≡ Some (record { at = f.at + 1; bytes = bytes })
sign_printed b sign same s bytes f =
    ap (λ t. if head t == b then Some (behind t) else None) (f.is ∙ no_blank f.at b bytes sign) ∙ if_true (b == b)
    _ _ same

-- the place behind bytes
abbrev pub place_behind : ℕ → List ℕ → ℕ
place_behind at [] = at
place_behind at (b ∷ bs) = place_behind (at + 1) bs

pub place_push : (at b : ℕ) (bs : List ℕ) → place_behind at (bs ++ b ∷ []) ≡ place_behind at bs + 1
place_push at b [] = refl
place_push at b (c ∷ bs) = place_push (at + 1) b bs

pub place_join : (at : ℕ) (a b : List ℕ) → place_behind at (a ++ b) ≡ place_behind (place_behind at a) b
place_join at [] b = refl
place_join at (c ∷ a) b = place_join (at + 1) a b

-- what is left behind bytes
abbrev pub rest_behind : ℕ → List ℕ → List ℕ → Rest
rest_behind at bytes rest = record { at = place_behind at bytes; bytes = rest }

pub letter_no_blank : (b : ℕ) → is_letter b ≡ true → is_blank b ≡ false
letter_no_blank b h = grind (arith, nat_tests)

pub no_word_byte : (rest : List ℕ) → Ends rest → is_word_byte (first_of rest) ≡ false
no_word_byte rest h = (or_false (is_word_byte (first_of rest)) (first_of rest == 46)
    (or_false (is_metric_byte (first_of rest)) (first_of rest == 47) h).0).0

pub no_digit : (rest : List ℕ) → Ends rest → is_digit (first_of rest) ≡ false
no_digit rest h = (or_false (is_letter (first_of rest)) (is_digit (first_of rest)) (no_word_byte rest h)).1

past_printed : (word : List ℕ) (at : ℕ) (bytes : List ℕ) → past word (record { at = at; bytes = word ++ bytes })
    ≡ Some (rest_behind at word bytes)
past_printed [] at bytes = refl
past_printed (b ∷ bs) at bytes = if_true (b == b) _ _ (eq-eqb b b refl) ∙ past_printed bs (at + 1) bytes

-- a word that is printed here is read
pub word_printed : (word : List ℕ) → is_letter (first_of word) ≡ true → (s : Rest) (bytes : List ℕ)
    → (f : From s (word ++ bytes)) → keyword_at word s ≡ Some (rest_behind f.at word bytes)
word_printed [] h s bytes f = absurd (cc)
word_printed (b ∷ bs) h s bytes f = ap (past (b ∷ bs)) (f.is ∙ no_blank f.at b (bs ++ bytes) (letter_no_blank b h))
    ∙ past_printed (b ∷ bs) f.at bytes

-- bytes that all pass a test
abbrev pub AllPass : (ℕ → Bool) → List ℕ → Type 0
AllPass test [] = Unit {0}
AllPass test (b ∷ bs) = (test b ≡ true) × AllPass test bs

word_passes : (b : ℕ) (bs : List ℕ) (t : Bool) → is_word_byte b ≡ t → AllPass is_word_byte bs → AllPass is_word_byte
    (if t then b ∷ bs else [])
word_passes b bs true e h = (e, h)
word_passes b bs false e h = tt

word_bytes_pass : (bs : List ℕ) → AllPass is_word_byte (word_bytes bs)
word_bytes_pass [] = tt
word_bytes_pass (b ∷ bs) = word_passes b (word_bytes bs) (is_word_byte b) refl (word_bytes_pass bs)

pub word_bytes_off : (rest : List ℕ) → is_word_byte (first_of rest) ≡ false → word_bytes rest ≡ []
word_bytes_off [] h = refl
word_bytes_off (b ∷ bs) h = if_false (is_word_byte b) _ _ h

pub behind_word_off : (at : ℕ) (rest : List ℕ) → is_word_byte (first_of rest) ≡ false → behind_word at rest
    ≡ record { at = at; bytes = rest }
behind_word_off at [] h = refl
behind_word_off at (b ∷ bs) h = if_false (is_word_byte b) _ _ h

word_bytes_again : (w rest : List ℕ) → AllPass is_word_byte w → is_word_byte (first_of rest) ≡ false
    → word_bytes (w ++ rest) ≡ w
word_bytes_again [] rest h e = word_bytes_off rest e
word_bytes_again (b ∷ bs) rest h e = if_true (is_word_byte b) _ _ h.0 ∙ ap (λ t. b ∷ t) (word_bytes_again bs rest h.1 e)

behind_word_again : (at : ℕ) (w rest : List ℕ) → AllPass is_word_byte w → is_word_byte (first_of rest) ≡ false
    → behind_word at (w ++ rest) ≡ rest_behind at w rest
behind_word_again at [] rest h e = behind_word_off at rest e
behind_word_again at (b ∷ bs) rest h e = if_true (is_word_byte b) _ _ h.0 ∙ behind_word_again (at + 1) bs rest h.1 e

-- what a name is made of
pub record IsName (text : List ℕ) : Type 0 where
  pub first : ℕ
  pub others : List ℕ
  pub is : text ≡ first ∷ others
  pub letter : is_letter first ≡ true
  pub word : AllPass is_word_byte others

named : (bs : List ℕ) → is_letter (first_of bs) ≡ true → IsName (word_bytes bs)
named [] h = absurd (cc)
named (b ∷ bs) h = record {
  first = b;
  others = word_bytes bs;
  is = if_true (is_word_byte b)
      _ _ (or_first (is_letter b) (is_digit b) h);
  letter = h;
  word = word_bytes_pass bs;
}

pub name_lawful : (s r : Rest) (n : Name) → name_at s ≡ Some (n, r) → IsName n.text
name_lawful s r n h =
    let t = skip s in
    let both = chosen (is_letter (head t)) (word_here t) (n, r) h in
    let same : word_bytes t.bytes ≡ n.text = ap (λ x. x.0.text) both.1 in
    rw same at (named t.bytes both.0)

word_name : (b at : ℕ) (bs rest : List ℕ) → is_letter b ≡ true → AllPass is_word_byte bs → Ends rest →
    name_at (record { at = at; bytes = b ∷ (bs ++ rest) })
    ≡ Some (record { at = at; text = b ∷ bs }, rest_behind at (b ∷ bs) rest)
word_name b at bs rest h w e =
    let f = no_word_byte rest e in
    let all : AllPass is_word_byte (b ∷ bs) = (or_first (is_letter b) (is_digit b) h, w) in
    ap (λ t. if is_letter (head t) then Some (word_here t) else None) (no_blank at b (bs ++ rest) (letter_no_blank b h))
    ∙ if_true (is_letter b) _ _ h
    ∙ ap (λ t. Some (record { at = at; text = t }, behind_word at (b ∷ (bs ++ rest)))) (word_bytes_again (b ∷ bs) rest
    all f)
    ∙ ap (λ r. Some (record { at = at; text = b ∷ bs }, r)) (behind_word_again at (b ∷ bs) rest all f)

-- a name that is printed here is read
pub name_printed : (text : List ℕ) → IsName text → (s : Rest) (rest : List ℕ) → Ends rest → (f : From s (text ++ rest))
    →
    name_at s ≡ Some (record { at = f.at; text = text }, rest_behind f.at text rest)
name_printed text n s rest e f =
    ap (λ t. if is_letter (head t) then Some (word_here t) else None) f.is
    ∙ ap (λ t. name_at (record { at = f.at; bytes = t ++ rest })) n.is
    ∙ word_name n.first f.at n.others rest n.letter n.word e
    ∙ ap (λ t. Some (record { at = f.at; text = t }, rest_behind f.at t rest)) (sym n.is)

-- a metric's bytes from behind a slash, or from behind another of its bytes
abbrev pub MetricBytes : Bool → List ℕ → Type 0
MetricBytes after [] = after ≡ false
MetricBytes after (b ∷ bs) =
    ((is_metric_byte b ≡ true) × MetricBytes false bs) ⊎ ((is_metric_byte b ≡ false) × ((b == 47 && not after) ≡ true)
    × MetricBytes true bs)

-- what a byte was read with
with_byte_read : (after : Bool) (b : ℕ) (o : Option (List ℕ × Rest)) (w : List ℕ) (r : Rest) → with_byte b o
    ≡ Some (w, r) →
    ((v : List ℕ) (q : Rest) → o ≡ Some (v, q) → MetricBytes after v) → (v : List ℕ) × (w ≡ b ∷ v) × MetricBytes after v
with_byte_read after b None w r h f = absurd (cc)
with_byte_read after b (Some x) w r h f = (x.0, sym (ap (λ p. p.0) (same_item (b ∷ x.0, x.1) (w, r) h)), f x.0 x.1 refl)

metric_step : (t u after : Bool) (b : ℕ) (o p : Option (List ℕ × Rest)) (end r : Rest) (w : List ℕ) → is_metric_byte b
    ≡ t → (b == 47 && not after) ≡ u →
    ((v : List ℕ) (q : Rest) → o ≡ Some (v, q) → MetricBytes false v) → ((v : List ℕ) (q : Rest) → p ≡ Some (v, q)
    → MetricBytes true v) →
    (if t then with_byte b o else (if u then with_byte b p else (if after then None else Some ([], end))))
    ≡ Some (w, r) → MetricBytes after w
metric_step true u after b o p end r w e f g h i = let x = with_byte_read false b o w r i g in rw x.1 (inl (e, x.2))
metric_step false true after b o p end r w e f g h i = let x = with_byte_read true b p w r i h in
    rw x.1 (inr (e, f, x.2))
metric_step false false true b o p end r w e f g h i = absurd (cc)
metric_step false false false b o p end r w e f g h i = let none : w ≡ [] =
    sym (ap (λ p. p.0) (same_item ([], end) (w, r) i)) in rw none refl

metric_end : (after : Bool) (end r : Rest) (w : List ℕ) → cond {A = Option (List ℕ × Rest)} after None (Some ([], end))
    ≡ Some (w, r) → MetricBytes after w
metric_end true end r w h = absurd (cc)
metric_end false end r w h = let none : w ≡ [] = sym (ap (λ p. p.0) (same_item ([], end) (w, r) h)) in rw none refl

metric_read : (after : Bool) (at : ℕ) (bs w : List ℕ) (r : Rest) → metric_from after at bs ≡ Some (w, r)
    → MetricBytes after w
metric_read after at [] w r h = metric_end after (record { at = at; bytes = [] }) r w h
metric_read after at (b ∷ bs) w r h =
    metric_step (is_metric_byte b) (b == 47 && not after) after b (metric_from false (at + 1) bs)
    (metric_from true (at + 1) bs) (record { at = at; bytes = b ∷ bs }) r w refl refl
    (λ v q e. metric_read false (at + 1) bs v q e) (λ v q e. metric_read true (at + 1) bs v q e) h

metric_off : (at : ℕ) (rest : List ℕ) → Ends rest → metric_from false at rest
    ≡ Some ([], record { at = at; bytes = rest })
metric_off at [] h = refl
metric_off at (b ∷ bs) h =
    let both = or_false (is_metric_byte b) (b == 47) h in
    if_false (is_metric_byte b) _ _ both.0 ∙ if_false (b == 47 && not false) _ _ (ap (λ t. t && true) both.1)

metric_again : (after : Bool) (at : ℕ) (w rest : List ℕ) → MetricBytes after w → Ends rest → metric_from after at
    (w ++ rest) ≡ Some (w, rest_behind at w rest)
metric_again after at [] rest h e = ap (λ t. metric_from t at rest) h ∙ metric_off at rest e
metric_again after at (b ∷ bs) rest (inl h) e = if_true (is_metric_byte b) _ _ h.0 ∙ ap (with_byte b)
    (metric_again false (at + 1) bs rest h.1 e)
metric_again after at (b ∷ bs) rest (inr h) e =
    if_false (is_metric_byte b) _ _ h.0 ∙ if_true (b == 47 && not after) _ _ h.1 ∙ ap (with_byte b)
    (metric_again true (at + 1) bs rest h.2 e)

-- what a metric's name is made of
pub record IsMetric (text : List ℕ) : Type 0 where
  pub others : List ℕ
  pub is : text ≡ 47 ∷ others
  pub bytes : MetricBytes true others

pub metric_lawful : (s r : Rest) (n : Name) → metric_at s ≡ Some (n, r) → IsMetric n.text
metric_lawful s r n h =
    let slash = followed (keyword_at (codes "/") s) (metric_behind (skip s).at) (n, r) h in
    let read = followed (metric_from true slash.0.at slash.0.bytes) (λ x. Some (metric_name (skip s).at x.0, x.1))
    (n, r) slash.2 in
    let x = read.0 in
    record {
      others = x.0;
      is = sym (ap (λ p. p.0.text) (same_item (metric_name (skip s).at x.0, x.1) (n, r) read.2));
      bytes = metric_read true slash.0.at slash.0.bytes x.0 x.1 read.1;
    }

-- a metric that is printed here is read
pub metric_printed : (text : List ℕ) → IsMetric text → (s : Rest) (rest : List ℕ) → Ends rest
    → (f : From s (text ++ rest)) →
    metric_at s ≡ Some (record { at = f.at; text = text }, rest_behind f.at text rest)
metric_printed text n s rest e f =
    ap (λ t. option_and_then (metric_behind t.at) (past (codes "/") t)) f.is
    ∙ ap (λ t. metric_at (record { at = f.at; bytes = t ++ rest })) n.is
    ∙ ap (λ t. option_and_then (metric_behind t.at) (past (codes "/") t)) (no_blank f.at 47 (n.others ++ rest) refl)
    ∙ ap (λ o. option_and_then (λ x. Some (metric_name f.at x.0, x.1)) o) (metric_again true (f.at + 1) n.others rest
    n.bytes e)
    ∙ ap (λ t. Some (record { at = f.at; text = t }, rest_behind f.at t rest)) (sym n.is)
