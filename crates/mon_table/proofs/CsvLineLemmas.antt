-- A line of cells that are texts is a text.
use Rattle.std.proofs.Common.{◌≡◌, ◌==◌, ℕ, suc, ◌<◌, ◌≤◌, Bool, true, false, cond, List, [], ◌∷◌, ◌++◌, length}
use Rattle.std.proofs.Common.{get_or, IsUtf8, inl, inr, refl, sym, ap, ◌∙◌, subst, arith, append-nil}
use Rattle.std.proofs.lemmas.Bool.{and_parts, cases_lt}
use Rattle.std.proofs.lemmas.Bool.Decides.{nat_tests}
use Rattle.std.proofs.lemmas.Str.{IsUtf8-append, IsUtf8-nil, IsUtf8-encode, encode_ascii, inside_one}
use lib.Utf8.{scalar, scalars, encode, encodes, low_scalar}
use Rattle.csv.specs.Records.{AllText}
use Rattle.csv.specs.Writing.{by_style, escaped, field_text, fields_text, is_blank, needs_quotes, quoted, row_body}
use Rattle.mon_table.specs.Tables.{csv_line, line_writer}

-- ---- ASCII

ascii_then : (x : ℕ) (xs : List ℕ) → x < 128 → IsUtf8 xs → IsUtf8 (x ∷ xs)
ascii_then x xs small u = IsUtf8-append (x ∷ []) xs (subst IsUtf8 (encode_ascii x small)
    (IsUtf8-encode x (low_scalar x (omega arith)))) u

-- ---- a cell between its quotes

abbrev inside : List ℕ → List ℕ
inside xs = escaped line_writer xs

inside_cons : (x : ℕ) (xs : List ℕ) → inside (x ∷ xs) ≡ cond (x == 34) (34 ∷ x ∷ inside xs) (x ∷ inside xs)
unfolding escaped
inside_cons x xs = refl

inside_nil : inside [] ≡ []
unfolding escaped
inside_nil = refl

branch-append : (b : Bool) (x : ℕ) (xs ys : List ℕ) → cond b (34 ∷ x ∷ (xs ++ ys)) (x ∷ (xs ++ ys))
    ≡ cond b (34 ∷ x ∷ xs) (x ∷ xs) ++ ys
branch-append true x xs ys = refl
branch-append false x xs ys = refl

inside-append : (xs ys : List ℕ) → inside (xs ++ ys) ≡ inside xs ++ inside ys
inside-append [] ys = ap (λ l. l ++ inside ys) (sym inside_nil)
inside-append (x ∷ xs) ys =
    inside_cons x (xs ++ ys)
    ∙ ap (λ l. cond (x == 34) (34 ∷ x ∷ l) (x ∷ l)) (inside-append xs ys)
    ∙ branch-append (x == 34) x (inside xs) (inside ys)
    ∙ ap (λ l. l ++ inside ys) (sym (inside_cons x xs))

not_quote : (x : ℕ) → 128 ≤ x → (x == 34) ≡ false
not_quote x high = grind (arith, nat_tests)

inside_high : (xs : List ℕ) → ((k : ℕ) → k < length xs → 128 ≤ get_or xs k 0) → inside xs ≡ xs
inside_high [] h = inside_nil
inside_high (x ∷ xs) h =
    inside_cons x xs
    ∙ ap (λ b. cond b (34 ∷ x ∷ inside xs) (x ∷ inside xs)) (not_quote x (h 0 (omega arith)))
    ∙ ap (λ l. x ∷ l) (inside_high xs (λ k below. h (suc k) (omega arith)))

ascii_branch : (b : Bool) (x : ℕ) → x < 128 → IsUtf8 (cond b (34 ∷ x ∷ []) (x ∷ []))
ascii_branch true x small = ascii_then 34 _ (omega arith) (ascii_then x [] small IsUtf8-nil)
ascii_branch false x small = ascii_then x [] small IsUtf8-nil

one_char : (c : ℕ) → scalar c ≡ true → IsUtf8 (inside (encode c))
one_char c ok = elim (cases_lt c 128) [
  | inl small ↦
      let this = ap inside (encode_ascii c small) ∙ inside_cons c [] ∙ ap (λ l. cond (c == 34) (34 ∷ c ∷ l) (c ∷ l))
      inside_nil in
      subst IsUtf8 (sym this) (ascii_branch (c == 34) c small)
  | inr big ↦
      let high : (k : ℕ) → k < length (encode c) → 128 ≤ get_or (encode c) k 0 = λ k below.
      elim (cases_lt (get_or (encode c) k 0) 128) [
        | inl low ↦ absurd (omega (arith, inside_one c [] (encode c) k (sym (append-nil _)) below low))
        | inr h ↦ h
      ] in
      subst IsUtf8 (sym (inside_high (encode c) high)) (IsUtf8-encode c ok)
]

all_chars : (cs : List ℕ) → scalars cs ≡ true → IsUtf8 (inside (encodes cs))
all_chars [] e = subst IsUtf8 (sym inside_nil) IsUtf8-nil
all_chars (c ∷ cs) e =
    let p = and_parts _ _ e in
    subst IsUtf8 (sym (inside-append (encode c) (encodes cs))) (IsUtf8-append _ _ (one_char c p.0) (all_chars cs p.1))

quoted-text : (s : List ℕ) → IsUtf8 s → IsUtf8 (quoted line_writer s)
quoted-text s u =
    ascii_then 34 _ (omega arith) (IsUtf8-append (inside s) (34 ∷ []) (subst (λ l. IsUtf8 (inside l)) u.1.1
    (all_chars u.0 u.1.0)) (ascii_then 34 [] (omega arith) IsUtf8-nil))

-- ---- cells and lines

cell_branch : (b : Bool) (s : List ℕ) → IsUtf8 s → IsUtf8 (cond b (quoted line_writer s) s)
cell_branch true s u = quoted-text s u
cell_branch false s u = u

cell-text : (s : List ℕ) → IsUtf8 s → IsUtf8 (field_text line_writer s)
cell-text s u = cell_branch (by_style line_writer.style (needs_quotes line_writer s)) s u

cells-text : (cells : List (List ℕ)) → AllText cells → IsUtf8 (fields_text line_writer cells)
unfolding AllText fields_text
cells-text [] all = IsUtf8-nil
cells-text (cell ∷ cells) all = ascii_then 44 _ (omega arith) (IsUtf8-append _ _ (cell-text cell all.0)
    (cells-text cells all.1))

body-text : (cells : List (List ℕ)) → AllText cells → IsUtf8 (row_body line_writer cells)
unfolding AllText
body-text [] all = IsUtf8-nil
body-text (cell ∷ cells) all = IsUtf8-append _ _ (cell-text cell all.0) (cells-text cells all.1)

blank-text : (b : Bool) → IsUtf8 (cond b (34 ∷ 34 ∷ []) [])
blank-text true = ascii_then 34 _ (omega arith) (ascii_then 34 [] (omega arith) IsUtf8-nil)
blank-text false = IsUtf8-nil

pub line-text : (cells : List (List ℕ)) → AllText cells → IsUtf8 (csv_line cells)
line-text cells all =
    IsUtf8-append _ _ (body-text cells all) (IsUtf8-append _ _ (blank-text (is_blank line_writer cells))
    (ascii_then 10 [] (omega arith) IsUtf8-nil))
