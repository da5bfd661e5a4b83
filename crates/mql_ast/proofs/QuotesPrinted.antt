-- Texts in quotes that were read are read again where they are printed.
use Rattle.std.proofs.Common.{◌≡◌, ℕ, ◌+◌, ◌-◌, ◌≤◌, Bool, true, false, ◌==◌, ◌||◌, ◌&&◌, nat_le, List, [], ◌∷◌, ◌++◌}
use Rattle.std.proofs.Common.{refl, sym, ap, subst, ◌∙◌, arith, if◌then◌else◌, Option, Some, None, option_and_then}
use Rattle.std.proofs.Common.{append_assoc, append-nil}
use Rattle.std.specs.Str.{is_utf8}
use Rattle.std.proofs.lemmas.Bool.Decides.{nat_tests}
use Rattle.std.proofs.lemmas.Bool.{leb-true}
use Rattle.mon_value.specs.Values.{text_in}
use Rattle.mql_ast.specs.Tokens.{Rest, sign_at}
use Rattle.mql_ast.specs.Printed.{sign_text, escaped_text, is_text_mark, quotation}
use Rattle.mql_ast.specs.Quotes.{Open, Whole, Escape, More, begins_character, further, TextStep, TextEnd, TextPass}
use Rattle.mql_ast.specs.Quotes.{TextKeep, TextBad, kept_open, text_step, after_text_step, text_from, text_at}
use Rattle.mql_ast.proofs.TokensPrinted.{if_true, if_false, or_false, chosen, followed, From}
use Rattle.mql_ast.proofs.TokensPrinted.{regrouped, place_behind, place_push, place_join, rest_behind, sign_printed}
use Rattle.mon_value.proofs.PlainLemmas.{and_both, same_item}

-- what stands open between the bytes of a content
abbrev pub Good : Open → Type 0
Good Whole = Unit {0}
Good Escape = ⊥
Good (More left low high) = 128 ≤ low

-- a byte of a content, escapes resolved
abbrev pub content_step : Open → ℕ → Option Open
content_step Whole b = begins_character b
content_step Escape b = begins_character b
content_step (More left low high) b = if nat_le low b && nat_le b high then Some (further left) else None

-- a content whose characters are all whole
abbrev pub Runs : Open → List ℕ → Type 0
Runs unfinished [] = unfinished ≡ Whole
Runs unfinished (b ∷ bs) = (next : Open) × (content_step unfinished b ≡ Some next) × Runs next bs

-- what stands open, escapes aside
abbrev pub plain : Open → Open
plain Whole = Whole
plain Escape = Whole
plain (More left low high) = More left low high

pub plain_good : (u : Open) → Good u → plain u ≡ u
plain_good Whole h = refl
plain_good Escape h = absurd h
plain_good (More left low high) h = refl

good_if : (t : Bool) (x next : Open) (o : Option Open) → Good x → (o ≡ Some next → Good next)
    → (if t then Some x else o) ≡ Some next → Good next
good_if true x next o g h e = subst Good (same_item x next e) g
good_if false x next o g h e = h e

pub begins_good : (b : ℕ) (next : Open) → begins_character b ≡ Some next → Good next
begins_good b next =
    good_if (nat_le 32 b && nat_le b 127) Whole next _ tt
    (good_if (nat_le 194 b && nat_le b 223) (More 1 128 191) next _ (omega arith)
    (good_if (b == 224) (More 2 160 191) next _ (omega arith)
    (good_if (b == 237) (More 2 128 159) next _ (omega arith)
    (good_if (nat_le 225 b && nat_le b 239) (More 2 128 191) next _ (omega arith)
    (good_if (b == 240) (More 3 144 191) next _ (omega arith)
    (good_if (nat_le 241 b && nat_le b 243) (More 3 128 191) next _ (omega arith)
    (good_if (b == 244) (More 3 128 143) next None (omega arith) (λ e. absurd (cc)))))))))

pub further_good : (left : ℕ) → Good (further left)
further_good left = elim (nat_le left 1) as (λ t. Good (if t then Whole else More (left - 1) 128 191))
    [ true ↦ tt | false ↦ omega arith ]

pub content_good : (u next : Open) (b : ℕ) → content_step u b ≡ Some next → Good next
content_good Whole next b h = begins_good b next h
content_good Escape next b h = begins_good b next h
content_good (More left low high) next b h = subst Good (chosen (nat_le low b && nat_le b high) (further left) next
    h).1 (further_good left)

pub begins_whole : (b : ℕ) → 32 ≤ b → b ≤ 127 → begins_character b ≡ Some Whole
begins_whole b low high = if_true (nat_le 32 b && nat_le b 127) _ _ (grind (arith, nat_tests))

text_mark_is_ascii : (b : ℕ) → is_text_mark b ≡ true → (32 ≤ b) × (b ≤ 127)
text_mark_is_ascii b h = (grind (arith, nat_tests), grind (arith, nat_tests))

-- what a step of a text does for its content
abbrev TextFits : Open → ℕ → TextStep → Type 0
TextFits u b TextEnd = plain u ≡ Whole
TextFits u b (TextPass next) = plain next ≡ plain u
TextFits u b (TextKeep next) = (content_step (plain u) b ≡ Some next) × (plain next ≡ next)
TextFits u b TextBad = Unit {0}

text_if : (u : Open) (b : ℕ) (t : Bool) (x y : TextStep) → (t ≡ true → TextFits u b x) → (t ≡ false → TextFits u b y)
    → TextFits u b (if t then x else y)
text_if u b true x y f g = f refl
text_if u b false x y f g = g refl

kept_fits : (b : ℕ) (o : Option Open) → begins_character b ≡ o → TextFits Whole b (kept_open o)
kept_fits b None e = tt
kept_fits b (Some next) e = (e, plain_good next (begins_good b next e))

text_fits : (u : Open) (b : ℕ) → TextFits u b (text_step u b)
text_fits Whole b = text_if Whole b (b == 34) _ _ (λ h. refl) (λ h. text_if Whole b (b == 92) _ _ (λ g. refl)
    (λ g. kept_fits b (begins_character b) refl))
text_fits Escape b = text_if Escape b (b == 34 || b == 92) _ _ (λ h. let m = text_mark_is_ascii b h in
    (begins_whole b m.0 m.1, refl)) (λ h. tt)
text_fits (More left low high) b =
    text_if (More left low high) b (nat_le low b && nat_le b high)
    _ _ (λ h. (if_true (nat_le low b && nat_le b high) _ _ h, plain_good (further left) (further_good left)))
    (λ h. tt)

-- what was read of a text, from behind this content on
record TextRead (u : Open) (content text : List ℕ) : Type 0 where
  pub more : List ℕ
  pub is : text ≡ content ++ more
  pub runs : Runs (plain u) more
  pub utf8 : is_utf8 text ≡ true

one_more : (u next : Open) (b : ℕ) (content text : List ℕ) → content_step (plain u) b ≡ Some next → plain next ≡ next
    → TextRead next (content ++ b ∷ []) text → TextRead u content text
one_more u next b content text h p x = record {
  more = b ∷ x.more;
  is = x.is ∙ append_assoc content (b ∷ []) x.more;
  runs = (next, h, subst (λ n. Runs n x.more) p x.runs);
  utf8 = x.utf8;
}

abbrev pub with_rest : Rest → List ℕ → Option (List ℕ × Rest)
with_rest rest text = Some (text, rest)

text_ends : (u : Open) (content text : List ℕ) (rest r : Rest) → plain u ≡ Whole → option_and_then (with_rest rest)
    (text_in content) ≡ Some (text, r) → TextRead u content text
text_ends u content text rest r p h =
    let x = followed (text_in content) (with_rest rest) (text, r) h in
    let c = chosen (is_utf8 content) content x.0 x.1 in
    let same : content ≡ text = c.1 ∙ ap (λ p. p.0) (same_item (x.0, rest) (text, r) x.2) in
    record {
      more = [];
      is = sym same ∙ sym (append-nil content);
      runs = p;
      utf8 = subst (λ t. is_utf8 t ≡ true) same
          c.0;
    }

text_on : (u : Open) (step : TextStep) (b : ℕ) (rest r : Rest) (content text : List ℕ) (go : Open → List ℕ
    → Option (List ℕ × Rest)) → TextFits u b step →
    ((next : Open) (more : List ℕ) → go next more ≡ Some (text, r) → TextRead next more text) → after_text_step step b
    rest content go ≡ Some (text, r) → TextRead u content text
text_on u TextEnd b rest r content text go fits f h = text_ends u content text rest r fits h
text_on u (TextPass next) b rest r content text go fits f h =
    let x = f next content h in
    record { more = x.more; is = x.is; runs = subst (λ n. Runs n x.more) fits x.runs; utf8 = x.utf8 }
text_on u (TextKeep next) b rest r content text go fits f h = one_more u next b content text fits.0 fits.1
    (f next (content ++ b ∷ []) h)
text_on u TextBad b rest r content text go fits f h = absurd (cc)

text_read : (u : Open) (content : List ℕ) (at : ℕ) (bs text : List ℕ) (r : Rest) → text_from u content at bs
    ≡ Some (text, r) → TextRead u content text
text_read u content at [] text r h = absurd (cc)
text_read u content at (b ∷ bs) text r h =
    text_on u (text_step u b) b (record { at = at + 1; bytes = bs }) r content text (λ next more. text_from next more
    (at + 1) bs) (text_fits u b) (λ next more e. text_read next more (at + 1) bs text r e) h

-- a text that may stand in quotes
pub record IsText (text : List ℕ) : Type 0 where
  pub runs : Runs Whole text
  pub utf8 : is_utf8 text ≡ true

pub text_lawful : (s r : Rest) (text : List ℕ) → text_at s ≡ Some (text, r) → IsText text
text_lawful s r text h =
    let x = followed (sign_at 34 s) (λ quote. text_from Whole [] quote.at quote.bytes) (text, r) h in
    let t = text_read Whole [] x.0.at x.0.bytes text r x.2 in
    record { runs = subst (Runs Whole) (sym t.is) t.runs; utf8 = t.utf8 }

-- the end of a text
text_closes : (content : List ℕ) (at : ℕ) (rest : List ℕ) → is_utf8 content ≡ true → text_from Whole content at
    (34 ∷ rest) ≡ Some (content, record { at = at + 1; bytes = rest })
text_closes content at rest h = ap (λ o. option_and_then (with_rest (record { at = at + 1; bytes = rest })) o)
    (if_true (is_utf8 content) (Some content) None h)

-- a byte that needs no escape
text_byte : (u next : Open) (b : ℕ) (content : List ℕ) (at : ℕ) (bs : List ℕ) → Good u → content_step u b ≡ Some next
    → is_text_mark b ≡ false → text_from u content at (b ∷ bs) ≡ text_from next (content ++ b ∷ []) (at + 1) bs
text_byte Whole next b content at bs g h m =
    let both = or_false (b == 34) (b == 92) m in
    ap (λ step. after_text_step step b (record { at = at + 1; bytes = bs }) content
    (λ n more. text_from n more (at + 1) bs))
    (if_false (b == 34) _ _ both.0 ∙ if_false (b == 92) _ _ both.1 ∙ ap kept_open h)
text_byte Escape next b content at bs g h m = absurd g
text_byte (More left low high) next b content at bs g h m =
    let c = chosen (nat_le low b && nat_le b high) (further left) next h in
    ap (λ step. after_text_step step b (record { at = at + 1; bytes = bs }) content
    (λ n more. text_from n more (at + 1) bs))
    (if_true (nat_le low b && nat_le b high) _ _ c.0 ∙ ap TextKeep c.1)

-- a mark goes on nothing that stands open
pub mark_is_whole : (u next : Open) (b : ℕ) → Good u → content_step u b ≡ Some next → b ≤ 127 → (u ≡ Whole)
mark_is_whole Whole next b g h m = refl
mark_is_whole Escape next b g h m = absurd g
mark_is_whole (More left low high) next b g h m =
    let c = chosen (nat_le low b && nat_le b high) (further left) next h in
    let first : low ≤ b = leb-true low b (and_both (nat_le low b) (nat_le b high) c.0).0 in
    absurd (omega arith)

pub mark_goes_on : (u next : Open) (b : ℕ) → Good u → content_step u b ≡ Some next → 32 ≤ b → b ≤ 127 → (u ≡ Whole)
    × (next ≡ Whole)
mark_goes_on u next b g h low high =
    let whole = mark_is_whole u next b g h high in
    let same : content_step Whole b ≡ Some next = subst (λ v. content_step v b ≡ Some next) whole h in
    (whole, same_item next Whole (sym same ∙ begins_whole b low high))

-- a byte behind its backslash
text_mark : (b : ℕ) (content : List ℕ) (at : ℕ) (bs : List ℕ) → is_text_mark b ≡ true → text_from Whole content at
    (92 ∷ b ∷ bs) ≡ text_from Whole (content ++ b ∷ []) (at + 1 + 1) bs
text_mark b content at bs m =
    ap (λ step. after_text_step step b (record { at = at + 1 + 1; bytes = bs }) content
    (λ n more. text_from n more (at + 1 + 1) bs)) (if_true (b == 34 || b == 92) (TextKeep Whole) TextBad m)

text_step_again : (t : Bool) (u next : Open) (b : ℕ) (content : List ℕ) (at : ℕ) (escapes rest : List ℕ)
    (answer : Option (List ℕ × Rest)) → is_text_mark b ≡ t → Good u → content_step u b ≡ Some next →
    text_from next (content ++ b ∷ []) (place_behind at (if t then 92 ∷ b ∷ [] else b ∷ [])) (escapes ++ rest) ≡ answer
    →
    text_from u content at (((if t then 92 ∷ b ∷ [] else b ∷ []) ++ escapes) ++ rest) ≡ answer
text_step_again true u next b content at escapes rest answer m g h e =
    let ascii = text_mark_is_ascii b m in
    let w = mark_goes_on u next b g h ascii.0 ascii.1 in
    ap (λ v. text_from v content at (92 ∷ b ∷ (escapes ++ rest))) w.0
    ∙ text_mark b content at (escapes ++ rest) m
    ∙ ap (λ v. text_from v (content ++ b ∷ []) (at + 1 + 1) (escapes ++ rest)) (sym w.1)
    ∙ e
text_step_again false u next b content at escapes rest answer m g h e = text_byte u next b content at (escapes ++ rest)
    g h m ∙ e

text_again : (u : Open) (more content : List ℕ) (at : ℕ) (rest : List ℕ) → Good u → Runs u more
    → is_utf8 (content ++ more) ≡ true →
    text_from u content at (escaped_text is_text_mark more ++ (34 ∷ rest))
    ≡ Some (content ++ more, record { at = place_behind at (escaped_text is_text_mark more) + 1; bytes = rest })
text_again u [] content at rest g r e =
    ap (λ v. text_from v content at (34 ∷ rest)) r
    ∙ text_closes content at rest (subst (λ t. is_utf8 t ≡ true) (append-nil content) e)
    ∙ ap (λ t. Some (t, record { at = at + 1; bytes = rest })) (sym (append-nil content))
text_again u (b ∷ bs) content at rest g r e =
    let same = append_assoc content (b ∷ []) bs in
    let signs = sign_text is_text_mark b in
    let i = place_behind at signs in
    text_step_again (is_text_mark b) u r.0 b content at (escaped_text is_text_mark bs) (34 ∷ rest) _ refl g r.1
    (text_again r.0 bs (content ++ b ∷ []) i rest (content_good u r.0 b r.1) r.2
    (subst (λ t. is_utf8 t ≡ true) (sym same) e)
    ∙ ap (λ t. Some (t, record { at = place_behind i (escaped_text is_text_mark bs) + 1; bytes = rest })) same
    ∙ ap (λ n. Some (content ++ b ∷ bs, record { at = n + 1; bytes = rest }))
    (sym (place_join at signs (escaped_text is_text_mark bs))))

-- a text that is printed here is read
pub text_printed : (text : List ℕ) → IsText text → (s : Rest) (rest : List ℕ) → (f : From s (quotation text ++ rest))
    → text_at s ≡ Some (text, rest_behind f.at (quotation text) rest)
text_printed text t s rest f =
    let signs = escaped_text is_text_mark text in
    ap (λ o. option_and_then (λ quote. text_from Whole [] quote.at quote.bytes) o)
    (sign_printed 34 refl refl s (signs ++ (34 ∷ rest))
    (regrouped f (ap (λ b. 34 ∷ b) (append_assoc signs (34 ∷ []) rest))))
    ∙ text_again Whole text [] (f.at + 1) rest tt t.runs t.utf8
    ∙ ap (λ n. Some (text, record { at = n; bytes = rest })) (sym (place_push (f.at + 1) 34 signs))
