-- What is left behind the tokens of several bytes.
use Rattle.std.proofs.Common.{◌≡◌, ℕ, ◌+◌, ◌-◌, ◌*◌, ◌^◌, Bool, true, false, ◌==◌, ◌&&◌, not, nat_le, List, [], ◌∷◌}
use Rattle.std.proofs.Common.{◌++◌, codes, refl, if◌then◌else◌, Option, Some, None, option_and_then, IfSome, subst}
use Rattle.std.proofs.Common.{pos}
use Rattle.mon_value.specs.Values.{text_in}
use Rattle.mql_ast.specs.Tokens.{is_digit, is_metric_byte, Rest, head, behind, skip, sign_at, keyword_at, with_byte}
use Rattle.mql_ast.specs.Tokens.{metric_from, metric_behind, metric_at, digits_from, positive_at, number_at, signed_at}
use Rattle.mql_ast.specs.Tokens.{minus, unit_seconds, longest, with_unit, duration_at}
use Rattle.mql_ast.specs.Quotes.{Open, Whole, TextStep, TextEnd, TextPass, TextKeep, TextBad, text_step}
use Rattle.mql_ast.specs.Quotes.{after_text_step, text_from, text_at, Sign, Plain, PatternStep, PatternEnd, PatternCut}
use Rattle.mql_ast.specs.Quotes.{PatternPass, PatternKeep, PatternUnfit, PatternBad, pattern_step, with_piece}
use Rattle.mql_ast.specs.Quotes.{after_pattern_step, pattern_from, pattern_at}
use Rattle.mql_parse.specs.Behind.{From, Behind}
use Rattle.mql_parse.proofs.BehindLemmas.{from_itself, from_trans, behind_from, from_behind, to_from, tested_behind}
use Rattle.mql_parse.proofs.BehindLemmas.{skip_from, sign_behind, word_behind, one_from}

some_if : {A : Type 0} (t : Bool) (o p : Option A) (P : A → Type 0) → IfSome o P → IfSome p P →
    IfSome (if t then o else p) P
some_if true o p P f g = f
some_if false o p P f g = g

-- the same where the test tells the one side more
pub some_test : {A : Type 0} (t : Bool) (o p : Option A) (P : A → Type 0) → (t ≡ true → IfSome o P) →
    (t ≡ false → IfSome p P) → IfSome (if t then o else p) P
some_test true o p P f g = f refl
some_test false o p P f g = g refl

some_bind : {A B : Type 0} (o : Option A) (f : A → Option B) (P : A → Type 0) (Q : B → Type 0) → IfSome o P →
    ((x : A) → P x → IfSome (f x) Q) → IfSome (option_and_then f o) Q
some_bind None f P Q h g = tt
some_bind (Some x) f P Q h g = g x h

some_any : {A B : Type 0} (o : Option A) (f : A → Option B) (Q : B → Type 0) → ((x : A) → IfSome (f x) Q) →
    IfSome (option_and_then f o) Q
some_any None f Q g = tt
some_any (Some x) f Q g = g x

pub some_given : {A : Type 0} (o : Option A) (P : A → Type 0) (x : A) → IfSome o P → o ≡ Some x → P x
some_given o P x h e = let there : IfSome (Some x) P = subst (λ p. IfSome p P) e h in there

pub some_is : {A : Type 0} (o : Option A) (P : A → Type 0) → ((x : A) → o ≡ Some x → P x) → IfSome o P
some_is None P h = tt
some_is (Some x) P h = h x refl

-- what is left behind the first of some bytes
next : (at b : ℕ) (bs : List ℕ) → From (record { at = at; bytes = b ∷ bs }) (record { at = at + 1; bytes = bs })
next at b bs = one_from (record { at = at; bytes = b ∷ bs })

further : (at b : ℕ) (bs : List ℕ) (r : Rest) → From (record { at = at + 1; bytes = bs }) r →
    From (record { at = at; bytes = b ∷ bs }) r
further at b bs r f = from_trans _ (record { at = at + 1; bytes = bs }) r (next at b bs) f

some_further : {A : Type 0} (o : Option (A × Rest)) (at b : ℕ) (bs : List ℕ) →
    IfSome o (λ x. From (record { at = at + 1; bytes = bs }) x.1) →
    IfSome o (λ x. From (record { at = at; bytes = b ∷ bs }) x.1)
some_further None at b bs h = tt
some_further (Some x) at b bs h = further at b bs x.1 h

byte_within : (o : Option (List ℕ × Rest)) (at b : ℕ) (bs : List ℕ) →
    IfSome o (λ x. From (record { at = at + 1; bytes = bs }) x.1) →
    IfSome (with_byte b o) (λ x. From (record { at = at; bytes = b ∷ bs }) x.1)
byte_within None at b bs h = tt
byte_within (Some x) at b bs h = further at b bs x.1 h

metric_from_within : (after : Bool) (at : ℕ) (bs : List ℕ) →
    IfSome (metric_from after at bs) (λ x. From (record { at = at; bytes = bs }) x.1)
metric_from_within after at [] = some_if after None _ _ tt (from_itself (record { at = at; bytes = [] }))
metric_from_within after at (b ∷ bs) =
    some_if (is_metric_byte b) _ _ _ (byte_within _ at b bs (metric_from_within false (at + 1) bs))
    (some_if (b == 47 && not after) _ _ _ (byte_within _ at b bs (metric_from_within true (at + 1) bs))
    (some_if after None _ _ tt (from_itself (record { at = at; bytes = b ∷ bs }))))

pub metric_within : (s : Rest) → IfSome (metric_at s) (λ x. Behind s x.1)
metric_within s =
    some_bind (keyword_at (codes "/") s) (metric_behind (skip s).at) (λ m. Behind s m) _
    (some_is _ _ (λ m e. word_behind 47 [] refl s m e))
    (λ m f. some_bind (metric_from true m.at m.bytes) _ (λ x. From m x.1) _ (metric_from_within true m.at m.bytes)
    (λ x g. behind_from s m x.1 f g))

digits_within : (most value at : ℕ) (bs : List ℕ) → IfSome (digits_from most value at bs)
    (λ x. From (record { at = at; bytes = bs }) x.1)
digits_within most value at [] = from_itself (record { at = at; bytes = [] })
digits_within most value at (b ∷ bs) =
    some_if (is_digit b) _ _ _
    (some_if (nat_le (value * 10 + (b - 48)) most) _ None _
    (some_further _ at b bs (digits_within most (value * 10 + (b - 48)) (at + 1) bs)) tt)
    (from_itself (record { at = at; bytes = b ∷ bs }))

-- what is left behind what stands behind the first byte of a token
token_within : {A : Type 0} (test : ℕ → Bool) → test 0 ≡ false → (s : Rest) → test (head (skip s)) ≡ true →
    (o : Option (A × Rest)) → IfSome o (λ x. From (behind (skip s)) x.1) → IfSome o (λ x. Behind s x.1)
token_within test fails s h None f = tt
token_within test fails s h (Some x) f =
    behind_from s (behind (skip s)) x.1 (from_behind s (skip s) (behind (skip s)) (skip_from s)
    (tested_behind test fails (skip s) h)) f

pub positive_within : (most : ℕ) (s : Rest) → IfSome (positive_at most s) (λ x. Behind s x.1)
positive_within most s =
    let t = skip s in
    some_test (is_digit (head t) && not (head t == 48)) _ None (λ x. Behind s x.1)
    (λ h. token_within (λ b. is_digit b && not (b == 48)) refl s h
    (digits_from most (head t - 48) (behind t).at (behind t).bytes)
    (digits_within most (head t - 48) (behind t).at (behind t).bytes))
    (λ h. tt)

pub number_within : (most : ℕ) (s : Rest) → IfSome (number_at most s) (λ x. Behind s x.1)
number_within most s =
    some_test (head (skip s) == 48) (Some (0, behind (skip s))) (positive_at most s) (λ x. Behind s x.1)
    (λ h. token_within {A = ℕ} (λ b. b == 48) refl s h (Some (0, behind (skip s))) (from_itself (behind (skip s))))
    (λ h. positive_within most s)

some_changed : {A B : Type 0} (f : A → B) (o : Option (A × Rest)) (P : Rest → Type 0) → IfSome o (λ x. P x.1) →
    IfSome {T = B × Rest} (option_and_then (λ x. Some (f x.0, x.1)) o) (λ x. P x.1)
some_changed f None P h = tt
some_changed f (Some x) P h = h

some_farther : {A : Type 0} (o : Option (A × Rest)) (s m : Rest) → Behind s m → IfSome o (λ x. Behind m x.1) →
    IfSome o (λ x. Behind s x.1)
some_farther None s m f h = tt
some_farther (Some x) s m f h = behind_from s m x.1 f (to_from m x.1 h)

pub signed_within : (s : Rest) → IfSome (signed_at s) (λ x. Behind s x.1)
signed_within s =
    some_test (head (skip s) == 45) _ _ (λ x. Behind s x.1)
    (λ h. some_changed minus (number_at (2 ^ 63) (behind (skip s))) (Behind s)
    (some_farther (number_at (2 ^ 63) (behind (skip s))) s (behind (skip s))
    (from_behind s (skip s) (behind (skip s)) (skip_from s) (tested_behind (λ b. b == 45) refl (skip s) h))
    (number_within (2 ^ 63) (behind (skip s)))))
    (λ h. some_changed pos (number_at (2 ^ 63 - 1) s) (Behind s) (number_within (2 ^ 63 - 1) s))

unit_within : (s : Rest) (n : ℕ × Rest) → Behind s n.1 → IfSome (with_unit n) (λ x. Behind s x.1)
unit_within s n f =
    some_if (unit_seconds (head n.1) == 0) None _ (λ x. Behind s x.1) tt
    (some_if (nat_le (n.0 * unit_seconds (head n.1)) longest) (Some (pos (n.0 * unit_seconds (head n.1)), behind n.1))
    None (λ x. Behind s x.1) (behind_from s n.1 (behind n.1) f (one_from n.1)) tt)

pub duration_within : (s : Rest) → IfSome (duration_at s) (λ x. Behind s x.1)
duration_within s =
    some_bind (positive_at longest s) with_unit (λ x. Behind s x.1) (λ x. Behind s x.1) (positive_within longest s)
    (unit_within s)

text_step_within : (step : TextStep) (at b : ℕ) (bs content : List ℕ) (go : Open → List ℕ → Option (List ℕ × Rest)) →
    ((u : Open) (more : List ℕ) → IfSome (go u more) (λ x. From (record { at = at + 1; bytes = bs }) x.1)) →
    IfSome (after_text_step step b (record { at = at + 1; bytes = bs }) content go)
    (λ x. From (record { at = at; bytes = b ∷ bs }) x.1)
text_step_within TextEnd at b bs content go h = some_any (text_in content) _ _ (λ text. next at b bs)
text_step_within (TextPass u) at b bs content go h = some_further (go u content) at b bs (h u content)
text_step_within (TextKeep u) at b bs content go h =
    some_further (go u (content ++ b ∷ [])) at b bs (h u (content ++ b ∷ []))
text_step_within TextBad at b bs content go h = tt

text_from_within : (u : Open) (content : List ℕ) (at : ℕ) (bs : List ℕ) → IfSome (text_from u content at bs)
    (λ x. From (record { at = at; bytes = bs }) x.1)
text_from_within u content at [] = tt
text_from_within u content at (b ∷ bs) =
    text_step_within (text_step u b) at b bs content _ (λ v more. text_from_within v more (at + 1) bs)

some_from : {A : Type 0} (o : Option (A × Rest)) (s m : Rest) → Behind s m → IfSome o (λ x. From m x.1) →
    IfSome o (λ x. Behind s x.1)
some_from None s m f h = tt
some_from (Some x) s m f h = behind_from s m x.1 f h

pub text_within : (s : Rest) → IfSome (text_at s) (λ x. Behind s x.1)
text_within s =
    some_bind (sign_at 34 s) _ (λ q. Behind s q) (λ x. Behind s x.1) (some_is _ _ (λ q e. sign_behind 34 refl s q e))
    (λ q f. some_from (text_from Whole [] q.at q.bytes) s q f (text_from_within Whole [] q.at q.bytes))

piece_within : (o : Option (List ℕ)) (pieces : List (List ℕ)) (go : List (List ℕ) → Option (List (List ℕ) × Rest))
    (P : Rest → Type 0) →
    ((all : List (List ℕ)) → IfSome (go all) (λ x. P x.1)) → IfSome (with_piece o pieces go) (λ x. P x.1)
piece_within None pieces go P h = tt
piece_within (Some piece) pieces go P h = h (pieces ++ piece ∷ [])

pattern_step_within : (step : PatternStep) (at b : ℕ) (bs : List ℕ) (pieces : List (List ℕ)) (content : List ℕ)
    (go : Open → Sign → List (List ℕ) → List ℕ → Option (List (List ℕ) × Rest)) →
    ((u : Open) (mark : Sign) (all : List (List ℕ)) (more : List ℕ) →
    IfSome (go u mark all more) (λ x. From (record { at = at + 1; bytes = bs }) x.1)) →
    IfSome (after_pattern_step step b (record { at = at + 1; bytes = bs }) pieces content go)
    (λ x. From (record { at = at; bytes = b ∷ bs }) x.1)
pattern_step_within PatternEnd at b bs pieces content go h =
    piece_within (text_in content) pieces (λ all. Some (all, record { at = at + 1; bytes = bs }))
    (From (record { at = at; bytes = b ∷ bs })) (λ all. next at b bs)
pattern_step_within PatternCut at b bs pieces content go h =
    piece_within (text_in content) pieces (λ all. go Whole Plain all []) (From (record { at = at; bytes = b ∷ bs }))
    (λ all. some_further (go Whole Plain all []) at b bs (h Whole Plain all []))
pattern_step_within (PatternPass u mark) at b bs pieces content go h =
    some_further (go u mark pieces content) at b bs (h u mark pieces content)
pattern_step_within (PatternKeep u mark) at b bs pieces content go h =
    some_further (go u mark pieces (content ++ b ∷ [])) at b bs (h u mark pieces (content ++ b ∷ []))
pattern_step_within PatternUnfit at b bs pieces content go h = tt
pattern_step_within PatternBad at b bs pieces content go h = tt

pattern_from_within : (u : Open) (mark : Sign) (pieces : List (List ℕ)) (content : List ℕ) (at : ℕ) (bs : List ℕ) →
    IfSome (pattern_from u mark pieces content at bs) (λ x. From (record { at = at; bytes = bs }) x.1)
pattern_from_within u mark pieces content at [] = tt
pattern_from_within u mark pieces content at (b ∷ bs) =
    pattern_step_within (pattern_step u mark b) at b bs pieces content _
    (λ v m all more. pattern_from_within v m all more (at + 1) bs)

pub pattern_within : (s : Rest) → IfSome (pattern_at s) (λ x. Behind s x.1)
pattern_within s =
    some_bind (sign_at 34 s) _ (λ q. Behind s q) (λ x. Behind s x.1) (some_is _ _ (λ q e. sign_behind 34 refl s q e))
    (λ q f. some_from (pattern_from Whole Plain [] [] q.at q.bytes) s q f
    (pattern_from_within Whole Plain [] [] q.at q.bytes))
