-- Patterns that were read are read again where they are printed.
use Rattle.std.proofs.Common.{◌≡◌, ℕ, ◌+◌, ◌≤◌, Bool, true, false, ◌==◌, ◌||◌, ◌&&◌, nat_le, List, [], ◌∷◌, ◌++◌, map}
use Rattle.std.proofs.Common.{codes, refl, sym, ap, subst, ◌∙◌, arith, if◌then◌else◌, Option, Some, None}
use Rattle.std.proofs.Common.{option_and_then, append_assoc, append-nil}
use Rattle.std.specs.Str.{is_utf8}
use Rattle.std.proofs.lemmas.Bool.Decides.{nat_tests}
use Rattle.std.proofs.lemmas.Bool.{eqb-true}
use Rattle.mon_value.specs.Values.{text_in}
use Rattle.mql_ast.specs.Tokens.{Rest, sign_at}
use Rattle.mql_ast.specs.Printed as printed
use Rattle.mql_ast.specs.Printed.{sign_text, escaped_text, is_text_mark, is_pattern_mark, quotation}
use Rattle.mql_ast.specs.Printed.{pattern_signs}
use Rattle.mql_ast.specs.Quotes.{Open, Whole, Escape, More, begins_character, further, Sign, Plain, Dot, Backslash}
use Rattle.mql_ast.specs.Quotes.{is_mark, PatternStep, PatternEnd, PatternCut, PatternPass, PatternKeep, PatternUnfit}
use Rattle.mql_ast.specs.Quotes.{PatternBad, kept_sign, unfit, pattern_step, with_piece, after_pattern_step}
use Rattle.mql_ast.specs.Quotes.{pattern_from, pattern_at}
use Rattle.mql_ast.proofs.TokensPrinted.{if_true, if_false, chosen, followed, From, regrouped, place_behind}
use Rattle.mql_ast.proofs.TokensPrinted.{place_push, place_join, rest_behind, sign_printed}
use Rattle.mql_ast.proofs.QuotesPrinted.{Good, content_step, Runs, plain, plain_good, begins_good, further_good}
use Rattle.mql_ast.proofs.QuotesPrinted.{content_good, begins_whole, mark_goes_on}
use Rattle.mon_value.proofs.PlainLemmas.{same_item}

mark_is_ascii : (b : ℕ) → is_mark b ≡ true → (32 ≤ b) × (b ≤ 127)
mark_is_ascii b h = (grind (arith, nat_tests), grind (arith, nat_tests))

-- what a step of a pattern does for the piece at hand
abbrev PatternFits : Open → ℕ → PatternStep → Type 0
PatternFits u b PatternEnd = plain u ≡ Whole
PatternFits u b PatternCut = plain u ≡ Whole
PatternFits u b (PatternPass next mark) = plain next ≡ plain u
PatternFits u b (PatternKeep next mark) = (content_step (plain u) b ≡ Some next) × (plain next ≡ next)
PatternFits u b PatternUnfit = Unit {0}
PatternFits u b PatternBad = Unit {0}

fits_if : (u : Open) (b : ℕ) (t : Bool) (x y : PatternStep) → (t ≡ true → PatternFits u b x)
    → (t ≡ false → PatternFits u b y) → PatternFits u b (if t then x else y)
fits_if u b true x y f g = f refl
fits_if u b false x y f g = g refl

kept_fits : (b : ℕ) (o : Option Open) → begins_character b ≡ o → PatternFits Whole b (kept_sign o)
kept_fits b None e = tt
kept_fits b (Some next) e = (e, plain_good next (begins_good b next e))

unfit_fits : (u : Open) (b : ℕ) (o : Option Open) → PatternFits u b (unfit o)
unfit_fits u b None = tt
unfit_fits u b (Some next) = tt

quote_is : (b : ℕ) → (b == 34) ≡ true → begins_character b ≡ Some Whole
quote_is b h = ap begins_character (eqb-true b 34 h)

backslash_is : (b : ℕ) → (b == 92) ≡ true → begins_character b ≡ Some Whole
backslash_is b h = ap begins_character (eqb-true b 92 h)

pattern_fits : (u : Open) (m : Sign) (b : ℕ) → PatternFits u b (pattern_step u m b)
pattern_fits Whole Plain b =
    fits_if Whole b (b == 34) _ _ (λ h. refl) (λ h. fits_if Whole b (b == 92) _ _ (λ g. refl)
    (λ g. fits_if Whole b (b == 46) _ _ (λ f. refl)
    (λ f. fits_if Whole b (is_mark b) _ _ (λ e. tt) (λ e. kept_fits b (begins_character b) refl))))
pattern_fits Whole Dot b = fits_if Whole b (b == 42) _ _ (λ h. refl) (λ h. unfit_fits Whole b (begins_character b))
pattern_fits Whole Backslash b =
    fits_if Whole b (b == 92) _ _ (λ h. refl) (λ h. fits_if Whole b (is_mark b) _ _ (λ g. let a = mark_is_ascii b g in
    (begins_whole b a.0 a.1, refl)) (λ g. unfit_fits Whole b (begins_character b)))
pattern_fits Escape Plain b = fits_if Escape b (b == 34) _ _ (λ h. (quote_is b h, refl))
    (λ h. fits_if Escape b (b == 92) _ _ (λ g. refl) (λ g. tt))
pattern_fits Escape Dot b = tt
pattern_fits Escape Backslash b = fits_if Escape b (b == 92) _ _ (λ h. (backslash_is b h, refl))
    (λ h. fits_if Escape b (b == 34) _ _ (λ g. tt) (λ g. tt))
pattern_fits (More left low high) m b =
    fits_if (More left low high) b (nat_le low b && nat_le b high)
    _ _ (λ h. (if_true (nat_le low b && nat_le b high) _ _ h, plain_good (further left) (further_good left)))
    (λ h. tt)

-- a piece that a pattern may have
pub record IsPiece (piece : List ℕ) : Type 0 where
  pub runs : Runs Whole piece
  pub utf8 : is_utf8 piece ≡ true

abbrev pub ArePieces : List (List ℕ) → Type 0
ArePieces [] = Unit {0}
ArePieces (p ∷ ps) = IsPiece p × ArePieces ps

-- what was read of a pattern, from behind these pieces and this content on
record PatternRead (u : Open) (pieces : List (List ℕ)) (content : List ℕ) (all : List (List ℕ)) : Type 0 where
  pub more : List ℕ
  pub others : List (List ℕ)
  pub is : all ≡ pieces ++ ((content ++ more) ∷ others)
  pub runs : Runs (plain u) more
  pub utf8 : is_utf8 (content ++ more) ≡ true
  pub lawful : ArePieces others

abbrev Go : Type 0
Go = Open → Sign → List (List ℕ) → List ℕ → Option (List (List ℕ) × Rest)

abbrev pub with_end : Rest → List (List ℕ) → Option (List (List ℕ) × Rest)
with_end rest all = Some (all, rest)

pub piece_read : (content : List ℕ) (pieces : List (List ℕ)) (go : List (List ℕ) → Option (List (List ℕ) × Rest))
    (x : List (List ℕ) × Rest) →
    with_piece (text_in content) pieces go ≡ Some x → (is_utf8 content ≡ true) × (go (pieces ++ content ∷ []) ≡ Some x)
piece_read content pieces go x h =
    let t = followed (text_in content) (λ text. go (pieces ++ text ∷ [])) x h in
    let c = chosen (is_utf8 content) content t.0 t.1 in
    (c.0, ap (λ text. go (pieces ++ text ∷ [])) c.1 ∙ t.2)

pattern_on : (u : Open) (step : PatternStep) (b : ℕ) (rest r : Rest) (pieces : List (List ℕ)) (content : List ℕ)
    (all : List (List ℕ)) (go : Go) → PatternFits u b step →
    ((next : Open) (mark : Sign) (ps : List (List ℕ)) (more : List ℕ) → go next mark ps more ≡ Some (all, r)
    → PatternRead next ps more all) →
    after_pattern_step step b rest pieces content go ≡ Some (all, r) → PatternRead u pieces content all
pattern_on u PatternEnd b rest r pieces content all go fits f h =
    let x = piece_read content pieces (with_end rest) (all, r) h in
    let same : pieces ++ content ∷ [] ≡ all = ap (λ p. p.0) (same_item (pieces ++ content ∷ [], rest) (all, r) x.1) in
    record {
      more = [];
      others = [];
      is = sym same ∙ ap (λ t. pieces ++ t ∷ []) (sym (append-nil content));
      runs = fits;
      utf8 = subst (λ t. is_utf8 t ≡ true) (sym (append-nil content)) x.0;
      lawful = tt;
    }
pattern_on u PatternCut b rest r pieces content all go fits f h =
    let x = piece_read content pieces (λ ps. go Whole Plain ps []) (all, r) h in
    let y = f Whole Plain (pieces ++ content ∷ []) [] x.1 in
    record {
      more = [];
      others = y.more ∷ y.others;
      is = y.is ∙ append_assoc pieces (content ∷ []) (y.more ∷ y.others) ∙ ap (λ t. pieces ++ t ∷ y.more ∷ y.others)
          (sym (append-nil content));
      runs = fits;
      utf8 = subst (λ t. is_utf8 t ≡ true) (sym (append-nil content)) x.0;
      lawful = (record { runs = y.runs; utf8 = y.utf8 }, y.lawful);
    }
pattern_on u (PatternPass next mark) b rest r pieces content all go fits f h =
    let y = f next mark pieces content h in
    record {
      more = y.more;
      others = y.others;
      is = y.is;
      runs = subst (λ n. Runs n y.more) fits y.runs;
      utf8 =
          y.utf8;
      lawful = y.lawful;
    }
pattern_on u (PatternKeep next mark) b rest r pieces content all go fits f h =
    let y = f next mark pieces (content ++ b ∷ []) h in
    let same = append_assoc content (b ∷ []) y.more in
    record {
      more = b ∷ y.more;
      others = y.others;
      is = y.is ∙ ap (λ t. pieces ++ t ∷ y.others) same;
      runs = (next, fits.0, subst (λ n. Runs n y.more) fits.1 y.runs);
      utf8 = subst (λ t. is_utf8 t ≡ true) same y.utf8;
      lawful = y.lawful;
    }
pattern_on u PatternUnfit b rest r pieces content all go fits f h = absurd (cc)
pattern_on u PatternBad b rest r pieces content all go fits f h = absurd (cc)

pattern_read : (u : Open) (m : Sign) (pieces : List (List ℕ)) (content : List ℕ) (at : ℕ) (bs : List ℕ)
    (all : List (List ℕ)) (r : Rest) → pattern_from u m pieces content at bs ≡ Some (all, r) → PatternRead u pieces
    content all
pattern_read u m pieces content at [] all r h = absurd (cc)
pattern_read u m pieces content at (b ∷ bs) all r h =
    pattern_on u (pattern_step u m b) b (record { at = at + 1; bytes = bs }) r pieces content all (λ next sign ps more.
    pattern_from next sign ps more (at + 1) bs) (pattern_fits u m b)
    (λ next sign ps more e. pattern_read next sign ps more (at + 1) bs all r e) h

-- the pieces that a pattern may have: one at least
pub record IsPattern (pieces : List (List ℕ)) : Type 0 where
  pub first : List ℕ
  pub others : List (List ℕ)
  pub is : pieces ≡ first ∷ others
  pub lawful : ArePieces (first ∷ others)

pub pattern_lawful : (s r : Rest) (pieces : List (List ℕ)) → pattern_at s ≡ Some (pieces, r) → IsPattern pieces
pattern_lawful s r pieces h =
    let x = followed (sign_at 34 s) (λ quote. pattern_from Whole Plain [] [] quote.at quote.bytes) (pieces, r) h in
    let y = pattern_read Whole Plain [] [] x.0.at x.0.bytes pieces r x.2 in
    record {
      first = y.more;
      others = y.others;
      is = y.is;
      lawful = (record { runs = y.runs; utf8 = y.utf8 }, y.lawful);
    }

-- a byte of a piece as it stands in the quotes
abbrev sign_bytes : ℕ → List ℕ
sign_bytes b = escaped_text is_text_mark (sign_text is_pattern_mark b)

escaped_join : (marks : ℕ → Bool) (a b : List ℕ) → escaped_text marks (a ++ b) ≡ escaped_text marks a
    ++ escaped_text marks b
escaped_join marks [] b = refl
escaped_join marks (c ∷ a) b = ap (λ t. sign_text marks c ++ t) (escaped_join marks a b)
    ∙ sym (append_assoc (sign_text marks c) (escaped_text marks a) (escaped_text marks b))

-- those bytes, by whether the byte is a mark of patterns and of texts
abbrev by_marks : Bool → Bool → ℕ → List ℕ
by_marks p t b = if p then 92 ∷ 92 ∷ ((if t then 92 ∷ b ∷ [] else b ∷ []) ++ [])
    else (if t then 92 ∷ b ∷ [] else b ∷ []) ++ []

marked : (p : Bool) (b : ℕ) → escaped_text is_text_mark (if p then 92 ∷ b ∷ [] else b ∷ [])
    ≡ by_marks p (is_text_mark b) b
marked true b = refl
marked false b = refl

only_backslash : (b : ℕ) → is_pattern_mark b ≡ true → is_text_mark b ≡ true → (b == 92) ≡ true
only_backslash b p t = grind (arith, nat_tests)

no_backslash : (b : ℕ) → is_pattern_mark b ≡ true → is_text_mark b ≡ false → ((b == 92) ≡ false) × (is_mark b ≡ true)
no_backslash b p t = (grind (arith, nat_tests), grind (arith, nat_tests))

only_quote : (b : ℕ) → is_pattern_mark b ≡ false → is_text_mark b ≡ true → (b == 34) ≡ true
only_quote b p t = grind (arith, nat_tests)

no_mark : (b : ℕ) → is_pattern_mark b ≡ false → is_text_mark b ≡ false → ((b == 34) ≡ false) × ((b == 92) ≡ false)
    × ((b == 46) ≡ false) × (is_mark b ≡ false)
no_mark b p t = (grind (arith, nat_tests), grind (arith, nat_tests), grind (arith, nat_tests), grind (arith, nat_tests))

pattern_mark_is_ascii : (b : ℕ) → is_pattern_mark b ≡ true → (32 ≤ b) × (b ≤ 127)
pattern_mark_is_ascii b h = (grind (arith, nat_tests), grind (arith, nat_tests))

quote_is_ascii : (b : ℕ) → (b == 34) ≡ true → (32 ≤ b) × (b ≤ 127)
quote_is_ascii b h = (grind (arith, nat_tests), grind (arith, nat_tests))

-- what a step makes of a byte
abbrev stepped : PatternStep → ℕ → List (List ℕ) → List ℕ → ℕ → List ℕ → Option (List (List ℕ) × Rest)
stepped step b pieces content at bs = after_pattern_step step b (record { at = at + 1; bytes = bs }) pieces content
    (λ next sign all more. pattern_from next sign all more (at + 1) bs)

whole_byte : (p t : Bool) (b : ℕ) (pieces : List (List ℕ)) (content : List ℕ) (at : ℕ) (rest : List ℕ)
    → is_pattern_mark b ≡ p → is_text_mark b ≡ t → (p || t) ≡ true →
    pattern_from Whole Plain pieces content at (by_marks p t b ++ rest) ≡ pattern_from Whole Plain pieces
    (content ++ b ∷ []) (place_behind at (by_marks p t b)) rest
whole_byte true true b pieces content at rest p t h = ap (λ step. stepped step b pieces content (at + 1 + 1 + 1) rest)
    (if_true (b == 92) _ _ (only_backslash b p t))
whole_byte true false b pieces content at rest p t h =
    let x = no_backslash b p t in
    ap (λ step. stepped step b pieces content (at + 1 + 1) rest) (if_false (b == 92) _ _ x.0 ∙ if_true (is_mark b)
    _ _ x.1)
whole_byte false true b pieces content at rest p t h = ap (λ step. stepped step b pieces content (at + 1) rest)
    (if_true (b == 34) _ _ (only_quote b p t))
whole_byte false false b pieces content at rest p t h = absurd (cc)

-- a byte that is no mark of any kind
plain_byte : (u next : Open) (b : ℕ) (pieces : List (List ℕ)) (content : List ℕ) (at : ℕ) (rest : List ℕ) → Good u
    → content_step u b ≡ Some next → is_pattern_mark b ≡ false → is_text_mark b ≡ false →
    pattern_from u Plain pieces content at (b ∷ rest) ≡ pattern_from next Plain pieces (content ++ b ∷ []) (at + 1) rest
plain_byte Whole next b pieces content at rest g h p t =
    let x = no_mark b p t in
    ap (λ step. stepped step b pieces content at rest) (if_false (b == 34) _ _ x.0 ∙ if_false (b == 92) _ _ x.1
    ∙ if_false (b == 46) _ _ x.2 ∙ if_false (is_mark b) _ _ x.3 ∙ ap kept_sign h)
plain_byte Escape next b pieces content at rest g h p t = absurd g
plain_byte (More left low high) next b pieces content at rest g h p t =
    let c = chosen (nat_le low b && nat_le b high) (further left) next h in
    ap (λ step. stepped step b pieces content at rest) (if_true (nat_le low b && nat_le b high) _ _ c.0
    ∙ ap (λ n. PatternKeep n Plain) c.1)

marked_byte : (p t : Bool) (u next : Open) (b : ℕ) (pieces : List (List ℕ)) (content : List ℕ) (at : ℕ) (rest : List ℕ)
    → is_pattern_mark b ≡ p → is_text_mark b ≡ t → (p || t) ≡ true → (32 ≤ b) × (b ≤ 127) →
    Good u → content_step u b ≡ Some next → pattern_from u Plain pieces content at (by_marks p t b ++ rest)
    ≡ pattern_from next Plain pieces (content ++ b ∷ []) (place_behind at (by_marks p t b)) rest
marked_byte p t u next b pieces content at rest e f h a g c =
    let w = mark_goes_on u next b g c a.0 a.1 in
    ap (λ v. pattern_from v Plain pieces content at (by_marks p t b ++ rest)) w.0
    ∙ whole_byte p t b pieces content at rest e f h
    ∙ ap (λ v. pattern_from v Plain pieces (content ++ b ∷ []) (place_behind at (by_marks p t b)) rest) (sym w.1)

any_byte : (p t : Bool) (u next : Open) (b : ℕ) (pieces : List (List ℕ)) (content : List ℕ) (at : ℕ) (rest : List ℕ)
    → is_pattern_mark b ≡ p → is_text_mark b ≡ t → Good u → content_step u b ≡ Some next →
    pattern_from u Plain pieces content at (by_marks p t b ++ rest) ≡ pattern_from next Plain pieces
    (content ++ b ∷ []) (place_behind at (by_marks p t b)) rest
any_byte true true u next b pieces content at rest p t g c = marked_byte true true u next b pieces content at rest p t
    refl (pattern_mark_is_ascii b p) g c
any_byte true false u next b pieces content at rest p t g c = marked_byte true false u next b pieces content at rest p
    t refl (pattern_mark_is_ascii b p) g c
any_byte false true u next b pieces content at rest p t g c = marked_byte false true u next b pieces content at rest p
    t refl (quote_is_ascii b (only_quote b p t)) g c
any_byte false false u next b pieces content at rest p t g c = plain_byte u next b pieces content at rest g c p t

piece_byte : (u next : Open) (b : ℕ) (pieces : List (List ℕ)) (content : List ℕ) (at : ℕ) (rest : List ℕ) → Good u
    → content_step u b ≡ Some next →
    pattern_from u Plain pieces content at (sign_bytes b ++ rest) ≡ pattern_from next Plain pieces (content ++ b ∷ [])
    (place_behind at (sign_bytes b)) rest
piece_byte u next b pieces content at rest g c =
    let e = marked (is_pattern_mark b) b in
    ap (λ t. pattern_from u Plain pieces content at (t ++ rest)) e
    ∙ any_byte (is_pattern_mark b) (is_text_mark b) u next b pieces content at rest refl refl g c
    ∙ ap (λ t. pattern_from next Plain pieces (content ++ b ∷ []) (place_behind at t) rest) (sym e)

-- a piece as it stands in the quotes
abbrev piece_bytes : List ℕ → List ℕ
piece_bytes piece = escaped_text is_text_mark (escaped_text is_pattern_mark piece)

piece_again : (u : Open) (p : List ℕ) (pieces : List (List ℕ)) (content : List ℕ) (at : ℕ) (rest : List ℕ) → Good u
    → Runs u p →
    pattern_from u Plain pieces content at (piece_bytes p ++ rest) ≡ pattern_from Whole Plain pieces (content ++ p)
    (place_behind at (piece_bytes p)) rest
piece_again u [] pieces content at rest g r =
    ap (λ v. pattern_from v Plain pieces content at rest) r ∙ ap (λ t. pattern_from Whole Plain pieces t at rest)
    (sym (append-nil content))
piece_again u (b ∷ bs) pieces content at rest g r =
    let join = escaped_join is_text_mark (sign_text is_pattern_mark b) (escaped_text is_pattern_mark bs) in
    let i = place_behind at (sign_bytes b) in
    ap (λ t. pattern_from u Plain pieces content at (t ++ rest)) join
    ∙ ap (λ t. pattern_from u Plain pieces content at t) (append_assoc (sign_bytes b) (piece_bytes bs) rest)
    ∙ piece_byte u r.0 b pieces content at (piece_bytes bs ++ rest) g r.1
    ∙ piece_again r.0 bs pieces (content ++ b ∷ []) i rest (content_good u r.0 b r.1) r.2
    ∙ ap (λ t. pattern_from Whole Plain pieces t (place_behind i (piece_bytes bs)) rest)
    (append_assoc content (b ∷ []) bs)
    ∙ ap (λ n. pattern_from Whole Plain pieces (content ++ b ∷ bs) n rest)
    (sym (ap (place_behind at) join ∙ place_join at (sign_bytes b) (piece_bytes bs)))

-- the signs behind a piece
abbrev signs_behind : List (List ℕ) → List ℕ
signs_behind pieces = printed.each_behind (codes ".*") (map (escaped_text is_pattern_mark) pieces)

abbrev ends_at : ℕ → List ℕ → List ℕ → Rest
ends_at at signs rest = record { at = place_behind at (escaped_text is_text_mark signs) + 1; bytes = rest }

piece_closed : (p : List ℕ) (before : List (List ℕ)) (go : List (List ℕ) → Option (List (List ℕ) × Rest)) → is_utf8 p
    ≡ true → with_piece (text_in p) before go ≡ go (before ++ p ∷ [])
piece_closed p before go h = ap (λ o. with_piece o before go) (if_true (is_utf8 p) (Some p) None h)

pieces_again : (others : List (List ℕ)) (p : List ℕ) (before : List (List ℕ)) (at : ℕ) (rest : List ℕ) → IsPiece p
    → ArePieces others →
    pattern_from Whole Plain before [] at
    (escaped_text is_text_mark (escaped_text is_pattern_mark p ++ signs_behind others)
    ++ (34 ∷ rest)) ≡ Some
    (before ++ p ∷ others, ends_at at (escaped_text is_pattern_mark p ++ signs_behind others) rest)
pieces_again [] p before at rest piece all =
    let same = ap (escaped_text is_text_mark) (append-nil (escaped_text is_pattern_mark p)) in
    let i = place_behind at (piece_bytes p) in
    ap (λ t. pattern_from Whole Plain before [] at (t ++ (34 ∷ rest))) same
    ∙ piece_again Whole p before [] at (34 ∷ rest) tt piece.runs
    ∙ piece_closed p before (with_end (record { at = i + 1; bytes = rest })) piece.utf8
    ∙ ap (λ t. Some (before ++ p ∷ [], record { at = place_behind at t + 1; bytes = rest })) (sym same)
pieces_again (q ∷ qs) p before at rest piece all =
    let signs = escaped_text is_pattern_mark q ++ signs_behind qs in
    let join = escaped_join is_text_mark (escaped_text is_pattern_mark p) (46 ∷ 42 ∷ signs) in
    let tail = escaped_text is_text_mark signs ++ (34 ∷ rest) in
    let i = place_behind at (piece_bytes p) in
    ap (λ t. pattern_from Whole Plain before [] at (t ++ (34 ∷ rest))) join
    ∙ ap (λ t. pattern_from Whole Plain before [] at t)
    (append_assoc (piece_bytes p) (46 ∷ 42 ∷ escaped_text is_text_mark signs) (34 ∷ rest))
    ∙ piece_again Whole p before [] at (46 ∷ 42 ∷ tail) tt piece.runs
    ∙ piece_closed p before (λ ps. pattern_from Whole Plain ps [] (i + 1 + 1) tail) piece.utf8
    ∙ pieces_again qs q (before ++ p ∷ []) (i + 1 + 1) rest all.0 all.1
    ∙ ap (λ ps. Some (ps, ends_at (i + 1 + 1) signs rest)) (append_assoc before (p ∷ []) (q ∷ qs))
    ∙ ap (λ n. Some (before ++ p ∷ q ∷ qs, record { at = n + 1; bytes = rest }))
    (sym (ap (place_behind at) join ∙ place_join at (piece_bytes p) (46 ∷ 42 ∷ escaped_text is_text_mark signs)))

-- a pattern that is printed here is read
pub pattern_printed : (pieces : List (List ℕ)) → IsPattern pieces → (s : Rest) (rest : List ℕ)
    → (f : From s (quotation (pattern_signs pieces) ++ rest)) →
    pattern_at s ≡ Some (pieces, rest_behind f.at (quotation (pattern_signs pieces)) rest)
pattern_printed pieces p s rest f =
    let signs = pattern_signs (p.first ∷ p.others) in
    let bytes = escaped_text is_text_mark signs in
    let g = regrouped f (ap (λ ps. quotation (pattern_signs ps) ++ rest) p.is ∙ ap (λ t. 34 ∷ t)
    (append_assoc bytes (34 ∷ []) rest)) in
    ap (λ o. option_and_then (λ quote. pattern_from Whole Plain [] [] quote.at quote.bytes) o)
    (sign_printed 34 refl refl s (bytes ++ (34 ∷ rest)) g)
    ∙ pieces_again p.others p.first [] (f.at + 1) rest p.lawful.0 p.lawful.1
    ∙ ap (λ n. Some (p.first ∷ p.others, record { at = n; bytes = rest })) (sym (place_push (f.at + 1) 34 bytes))
    ∙ ap (λ ps. Some (ps, rest_behind f.at (quotation (pattern_signs ps)) rest)) (sym p.is)
