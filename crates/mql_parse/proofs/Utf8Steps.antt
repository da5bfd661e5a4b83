-- What was read of a text in quotes is UTF-8, up to the bytes that its last character still wants.
use Rattle.std.proofs.Common.{◌≡◌, ℕ, zero, suc, ◌+◌, ◌-◌, ◌*◌, ◌/◌, ◌%◌, ◌<◌, ◌≤◌, Bool, true, false, ◌==◌, ◌||◌}
use Rattle.std.proofs.Common.{◌&&◌, nat_le, List, [], ◌∷◌, ◌++◌, refl, sym, ap, ◌∙◌, subst, arith, if◌then◌else◌}
use Rattle.std.proofs.Common.{append_assoc, Option, Some, None, IfSome}
use Rattle.std.specs.Str.{IsUtf8}
use Rattle.std.specs.Char.{IsScalar, encode_utf8}
use Rattle.std.proofs.lemmas.Bool.{le-ltb, lt-ltb}
use Rattle.std.proofs.lemmas.Bool.Decides.{nat_tests}
use Rattle.std.proofs.lemmas.Str.{IsUtf8-append, IsUtf8-encode}
use Rattle.mql_parse.proofs.Within.{some_test}
use Rattle.mql_ast.specs.Quotes.{Open, Whole, Escape, More, begins_long_character, begins_character, further, TextStep}
use Rattle.mql_ast.specs.Quotes.{TextEnd, TextPass, TextKeep, TextBad, kept_open, text_step, Sign, Plain, Dot}
use Rattle.mql_ast.specs.Quotes.{Backslash}
use Rattle.mql_ast.specs.Quotes.{is_mark, PatternStep, PatternEnd, PatternCut, PatternPass, PatternKeep, PatternUnfit}
use Rattle.mql_ast.specs.Quotes.{PatternBad, kept_sign, unfit, pattern_step}

-- the bytes of one character
utf8_of_1 : (b : ℕ) → b < 128 → IsUtf8 (b ∷ [])
unfolding encode_utf8
utf8_of_1 b h =
    let spelled : encode_utf8 b ≡ b ∷ [] = rw (lt-ltb b 128 h) in
    let valid : IsScalar b = grind (arith, nat_tests) in
    subst IsUtf8 spelled (IsUtf8-encode b valid)

utf8_of_2 : (b c : ℕ) → 194 ≤ b → b ≤ 223 → 128 ≤ c → c ≤ 191 → IsUtf8 (b ∷ c ∷ [])
unfolding encode_utf8
utf8_of_2 b c l h m k =
    let x = (b - 192) * 64 + (c - 128) in
    let first : 192 + x / 64 ≡ b = omega arith in
    let last : 128 + x % 64 ≡ c = omega arith in
    let spelled : encode_utf8 x ≡ b ∷ c ∷ [] = rw
    (le-ltb x 128 (omega arith), lt-ltb x 2048 (omega arith), first, last) in
    let valid : IsScalar x = grind (arith, nat_tests) in
    subst IsUtf8 spelled (IsUtf8-encode x valid)

utf8_of_3 : (b c d : ℕ) → 224 ≤ b → b ≤ 239 → 128 ≤ c → c ≤ 191 → (b ≡ 224 → 160 ≤ c) → (b ≡ 237 → c ≤ 159) → 128 ≤ d →
    d ≤ 191 → IsUtf8 (b ∷ c ∷ d ∷ [])
unfolding encode_utf8
utf8_of_3 b c d l h m k low high n j =
    let x = (b - 224) * 4096 + (c - 128) * 64 + (d - 128) in
    let bounds : (2048 ≤ x) × (x < 65536) × (55296 ≤ x → 57344 ≤ x) = (grind arith, omega arith, λ y. grind arith) in
    let first : 224 + x / 4096 ≡ b = omega arith in
    let middle : 128 + (x / 64) % 64 ≡ c = omega arith in
    let last : 128 + x % 64 ≡ d = omega arith in
    let spelled : encode_utf8 x ≡ b ∷ c ∷ d ∷ [] = rw
    (le-ltb x 128 (omega arith), le-ltb x 2048 (omega arith), lt-ltb x 65536 (omega arith), first, middle, last) in
    let valid : IsScalar x = grind (arith, nat_tests) in
    subst IsUtf8 spelled (IsUtf8-encode x valid)

utf8_of_4 : (b c d e : ℕ) → 240 ≤ b → b ≤ 244 → 128 ≤ c → c ≤ 191 → (b ≡ 240 → 144 ≤ c) → (b ≡ 244 → c ≤ 143) →
    128 ≤ d → d ≤ 191 → 128 ≤ e → e ≤ 191 → IsUtf8 (b ∷ c ∷ d ∷ e ∷ [])
unfolding encode_utf8
utf8_of_4 b c d e l h m k low high n j o i =
    let x = (b - 240) * 262144 + (c - 128) * 4096 + (d - 128) * 64 + (e - 128) in
    let bounds : (65536 ≤ x) × (x < 1114112) = (grind arith, grind arith) in
    let first : 240 + x / 262144 ≡ b = omega arith in
    let second : 128 + (x / 4096) % 64 ≡ c = omega arith in
    let third : 128 + (x / 64) % 64 ≡ d = omega arith in
    let last : 128 + x % 64 ≡ e = omega arith in
    let spelled : encode_utf8 x ≡ b ∷ c ∷ d ∷ e ∷ [] = rw (
      le-ltb x 128 (omega arith),
      le-ltb x 2048 (omega arith),
      le-ltb x 65536 (omega arith),
      first,
      second,
      third,
      last,
    ) in
    let valid : IsScalar x = grind (arith, nat_tests) in
    subst IsUtf8 spelled (IsUtf8-encode x valid)

-- behind a text
behind_1 : (t : List ℕ) (b : ℕ) → IsUtf8 t → IsUtf8 (b ∷ []) → IsUtf8 (t ++ b ∷ [])
behind_1 t b u v = IsUtf8-append t (b ∷ []) u v

behind_2 : (t : List ℕ) (b c : ℕ) → IsUtf8 t → IsUtf8 (b ∷ c ∷ []) → IsUtf8 ((t ++ b ∷ []) ++ c ∷ [])
behind_2 t b c u v = subst IsUtf8 (sym (append_assoc t (b ∷ []) (c ∷ []))) (IsUtf8-append t (b ∷ c ∷ []) u v)

behind_3 : (t : List ℕ) (b c d : ℕ) → IsUtf8 t → IsUtf8 (b ∷ c ∷ d ∷ []) → IsUtf8 (((t ++ b ∷ []) ++ c ∷ []) ++ d ∷ [])
behind_3 t b c d u v = subst IsUtf8
    (sym (append_assoc (t ++ b ∷ []) (c ∷ []) (d ∷ []) ∙ append_assoc t (b ∷ []) (c ∷ d ∷ [])))
    (IsUtf8-append t (b ∷ c ∷ d ∷ []) u v)

behind_4 : (t : List ℕ) (b c d e : ℕ) → IsUtf8 t → IsUtf8 (b ∷ c ∷ d ∷ e ∷ []) →
    IsUtf8 ((((t ++ b ∷ []) ++ c ∷ []) ++ d ∷ []) ++ e ∷ [])
behind_4 t b c d e u v =
    subst IsUtf8 (sym (append_assoc ((t ++ b ∷ []) ++ c ∷ []) (d ∷ []) (e ∷ []) ∙ append_assoc (t ++ b ∷ []) (c ∷ [])
    (d ∷ e ∷ []) ∙ append_assoc t (b ∷ []) (c ∷ d ∷ e ∷ [])))
    (IsUtf8-append t (b ∷ c ∷ d ∷ e ∷ []) u v)

pub kept_ascii : (b : ℕ) (t : List ℕ) → b < 128 → IsUtf8 t → IsUtf8 (t ++ b ∷ [])
kept_ascii b t l u = behind_1 t b u (utf8_of_1 b l)

-- so many further bytes, the next of them between these, make the content UTF-8
abbrev pub IsCompleted : ℕ → ℕ → ℕ → List ℕ → Type 0
IsCompleted zero low high t = IsUtf8 t
IsCompleted (suc n) low high t = (b : ℕ) → low ≤ b → b ≤ high → IsCompleted n 128 191 (t ++ b ∷ [])

-- the content that was read leaves this open
abbrev pub LeavesOpen : Open → List ℕ → Type 0
LeavesOpen Whole t = IsUtf8 t
LeavesOpen Escape t = IsUtf8 t
LeavesOpen (More zero low high) t = ⊥
LeavesOpen (More (suc n) low high) t = ((nat_le 128 low && nat_le low high) ≡ true) × IsCompleted (suc n) low high t

pub several_further : (n : ℕ) → further (suc (suc n)) ≡ More (suc n) 128 191
several_further n =
    let many : nat_le (suc (suc n)) 1 ≡ false = grind (arith, nat_tests) in
    let fewer : suc (suc n) - 1 ≡ suc n = omega arith in
    ap (λ t. if t then Whole else More (suc (suc n) - 1) 128 191) many ∙ ap (λ k. More k 128 191) fewer

further_open : (n : ℕ) (t : List ℕ) → IsCompleted n 128 191 t → LeavesOpen (further (suc n)) t
further_open zero t h = h
further_open (suc n) t h = subst (λ u. LeavesOpen u t) (sym (several_further n)) (refl, h)

between : (low b high : ℕ) → (nat_le low b && nat_le b high) ≡ true → (low ≤ b) × (b ≤ high)
between low b high h = (grind (arith, nat_tests), grind (arith, nat_tests))

long_opens : (b : ℕ) (t : List ℕ) → IsUtf8 t → IfSome (begins_long_character b) (λ u. LeavesOpen u (t ++ b ∷ []))
long_opens b t u =
    some_test (b == 240) _ _ (λ o. LeavesOpen o (t ++ b ∷ []))
    (λ h. (
      refl,
      λ c l k d m j e n i. behind_4 t b c d e u
          (utf8_of_4 b c d e (grind (arith, nat_tests)) (grind (arith, nat_tests)) (omega arith) k (λ q. l)
          (λ q. grind (arith, nat_tests)) m j n i),
    ))
    (λ _. some_test (nat_le 241 b && nat_le b 243) _ _ (λ o. LeavesOpen o (t ++ b ∷ []))
    (λ h. let r = between 241 b 243 h in (
      refl,
      λ c l k d m j e n i. behind_4 t b c d e u
          (utf8_of_4 b c d e (omega arith) (omega arith) l k (λ q. absurd (omega arith)) (λ q. absurd (omega arith)) m
          j n
          i),
    ))
    (λ _. some_test (b == 244) _ None (λ o. LeavesOpen o (t ++ b ∷ []))
    (λ h. (
      refl,
      λ c l k d m j e n i. behind_4 t b c d e u
          (utf8_of_4 b c d e (grind (arith, nat_tests)) (grind (arith, nat_tests)) l (omega arith)
          (λ q. grind (arith, nat_tests)) (λ q. k) m j n i),
    ))
    (λ _. tt)))

-- a character's first byte
pub character_opens : (b : ℕ) (t : List ℕ) → IsUtf8 t → IfSome (begins_character b) (λ u. LeavesOpen u (t ++ b ∷ []))
character_opens b t u =
    some_test (nat_le 32 b && nat_le b 127) _ _ (λ o. LeavesOpen o (t ++ b ∷ []))
    (λ h. let r = between 32 b 127 h in behind_1 t b u (utf8_of_1 b (omega arith)))
    (λ _. some_test (nat_le 194 b && nat_le b 223) _ _ (λ o. LeavesOpen o (t ++ b ∷ []))
    (λ h. let r = between 194 b 223 h in (refl, λ c l k. behind_2 t b c u (utf8_of_2 b c r.0 r.1 l k)))
    (λ _. some_test (b == 224) _ _ (λ o. LeavesOpen o (t ++ b ∷ []))
    (λ h. (
      refl,
      λ c l k d m j. behind_3 t b c d u
          (utf8_of_3 b c d (grind (arith, nat_tests)) (grind (arith, nat_tests)) (omega arith) k (λ q. l)
          (λ q. grind (arith, nat_tests)) m j),
    ))
    (λ _. some_test (b == 237) _ _ (λ o. LeavesOpen o (t ++ b ∷ []))
    (λ h. (
      refl,
      λ c l k d m j. behind_3 t b c d u
          (utf8_of_3 b c d (grind (arith, nat_tests)) (grind (arith, nat_tests)) l (omega arith)
          (λ q. grind (arith, nat_tests)) (λ q. k) m j),
    ))
    (λ other. some_test (nat_le 225 b && nat_le b 239) _ _ (λ o. LeavesOpen o (t ++ b ∷ []))
    (λ h. let r = between 225 b 239 h in (
      refl,
      λ c l k d m j. behind_3 t b c d u
          (utf8_of_3 b c d (omega arith) r.1 l k (λ q. absurd (omega arith)) (λ q. absurd (grind (arith, nat_tests))) m
          j),
    ))
    (λ _. long_opens b t u)))))

-- what a byte does to the content of a text
abbrev pub StepOpens : TextStep → ℕ → List ℕ → Type 0
StepOpens TextEnd b t = IsUtf8 t
StepOpens (TextPass u) b t = LeavesOpen u t
StepOpens (TextKeep u) b t = LeavesOpen u (t ++ b ∷ [])
StepOpens TextBad b t = Unit {0}

step_test : (t : Bool) (s r : TextStep) (b : ℕ) (c : List ℕ) → (t ≡ true → StepOpens s b c) →
    (t ≡ false → StepOpens r b c) → StepOpens (if t then s else r) b c
step_test true s r b c f g = f refl
step_test false s r b c f g = g refl

kept_opens : (o : Option Open) (b : ℕ) (t : List ℕ) → IfSome o (λ u. LeavesOpen u (t ++ b ∷ [])) →
    StepOpens (kept_open o) b t
kept_opens None b t h = tt
kept_opens (Some u) b t h = h

pub text_step_opens : (u : Open) (b : ℕ) (t : List ℕ) → LeavesOpen u t → StepOpens (text_step u b) b t
text_step_opens Whole b t h = step_test (b == 34) _ _ b t (λ _. h)
    (λ _. step_test (b == 92) _ _ b t (λ _. h) (λ _. kept_opens (begins_character b) b t (character_opens b t h)))
text_step_opens Escape b t h = step_test (b == 34 || b == 92) _ _ b t
    (λ e. behind_1 t b h (utf8_of_1 b (grind (arith, nat_tests)))) (λ _. tt)
text_step_opens (More zero low high) b t h = absurd h
text_step_opens (More (suc n) low high) b t h = step_test (nat_le low b && nat_le b high) _ _ b t
    (λ e. let r = between low b high e in further_open n (t ++ b ∷ []) (h.1 b r.0 r.1)) (λ _. tt)

-- the same for a pattern, where no dot stands before an escape
abbrev pub LeavesSign : Open → Sign → List ℕ → Type 0
LeavesSign Whole mark t = IsUtf8 t
LeavesSign Escape Plain t = IsUtf8 t
LeavesSign Escape Dot t = ⊥
LeavesSign Escape Backslash t = IsUtf8 t
LeavesSign (More left low high) mark t = LeavesOpen (More left low high) t

pub plain_sign : (u : Open) (t : List ℕ) → LeavesOpen u t → LeavesSign u Plain t
plain_sign Whole t h = h
plain_sign Escape t h = h
plain_sign (More left low high) t h = h

abbrev pub PatternOpens : PatternStep → ℕ → List ℕ → Type 0
PatternOpens PatternEnd b t = IsUtf8 t
PatternOpens PatternCut b t = IsUtf8 t
PatternOpens (PatternPass u mark) b t = LeavesSign u mark t
PatternOpens (PatternKeep u mark) b t = LeavesSign u mark (t ++ b ∷ [])
PatternOpens PatternUnfit b t = Unit {0}
PatternOpens PatternBad b t = Unit {0}

sign_test : (t : Bool) (s r : PatternStep) (b : ℕ) (c : List ℕ) → (t ≡ true → PatternOpens s b c) →
    (t ≡ false → PatternOpens r b c) → PatternOpens (if t then s else r) b c
sign_test true s r b c f g = f refl
sign_test false s r b c f g = g refl

kept_sign_opens : (o : Option Open) (b : ℕ) (t : List ℕ) → IfSome o (λ u. LeavesOpen u (t ++ b ∷ [])) →
    PatternOpens (kept_sign o) b t
kept_sign_opens None b t h = tt
kept_sign_opens (Some u) b t h = plain_sign u (t ++ b ∷ []) h

unfit_opens : (o : Option Open) (b : ℕ) (t : List ℕ) → PatternOpens (unfit o) b t
unfit_opens None b t = tt
unfit_opens (Some u) b t = tt

mark_is_ascii : (b : ℕ) → is_mark b ≡ true → b < 128
mark_is_ascii b h = grind (arith, nat_tests)

kept_byte : (n b : ℕ) (t : List ℕ) → IsUtf8 t → n < 128 → (b == n) ≡ true → IsUtf8 (t ++ b ∷ [])
kept_byte n b t u l h = behind_1 t b u (utf8_of_1 b (grind (arith, nat_tests)))

pub pattern_step_opens : (u : Open) (mark : Sign) (b : ℕ) (t : List ℕ) → LeavesSign u mark t →
    PatternOpens (pattern_step u mark b) b t
pattern_step_opens Whole Plain b t h =
    sign_test (b == 34) _ _ b t (λ _. h)
    (λ _. sign_test (b == 92) _ _ b t (λ _. h) (λ _. sign_test (b == 46) _ _ b t (λ _. h)
    (λ _. sign_test (is_mark b) _ _ b t (λ _. tt)
    (λ _. kept_sign_opens (begins_character b) b t (character_opens b t h)))))
pattern_step_opens Whole Dot b t h = sign_test (b == 42) _ _ b t (λ _. h) (λ _. unfit_opens (begins_character b) b t)
pattern_step_opens Whole Backslash b t h =
    sign_test (b == 92) _ _ b t (λ _. h)
    (λ _. sign_test (is_mark b) _ _ b t (λ e. behind_1 t b h (utf8_of_1 b (mark_is_ascii b e)))
    (λ _. unfit_opens (begins_character b) b t))
pattern_step_opens Escape Plain b t h = sign_test (b == 34) _ _ b t (λ e. kept_byte 34 b t h (omega arith) e)
    (λ _. sign_test (b == 92) _ _ b t (λ _. h) (λ _. tt))
pattern_step_opens Escape Dot b t h = absurd h
pattern_step_opens Escape Backslash b t h = sign_test (b == 92) _ _ b t (λ e. kept_byte 92 b t h (omega arith) e)
    (λ _. sign_test (b == 34) _ _ b t (λ _. tt) (λ _. tt))
pattern_step_opens (More zero low high) mark b t h = absurd h
pattern_step_opens (More (suc n) low high) mark b t h =
    sign_test (nat_le low b && nat_le b high) _ _ b t
    (λ e. let r = between low b high e in plain_sign (further (suc n)) (t ++ b ∷ [])
    (further_open n (t ++ b ∷ []) (h.1 b r.0 r.1))) (λ _. tt)
