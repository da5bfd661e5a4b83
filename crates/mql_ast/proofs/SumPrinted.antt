-- Sums that some text spells are spelled by what they are printed as.
use Rattle.std.proofs.Common.{◌≡◌, ℕ, zero, suc, ◌+◌, ◌<◌, ◌≤◌, true, false, List, [], ◌∷◌, ◌++◌, codes, refl, sym, ap}
use Rattle.std.proofs.Common.{◌∙◌, arith, append_assoc}
use Rattle.std.specs.Fmt.{decimal}
use Rattle.mql_ast.specs.declared.names.Name.{Name}
use Rattle.mql_ast.specs.Tokens.{Rest, skip}
use Rattle.mql_ast.specs.Trees as tree
use Rattle.mql_ast.specs.Trees.{SumTree}
use Rattle.mql_ast.specs.Places.{sum_content}
use Rattle.mql_ast.specs.Printed.{sum_text, share_text}
use Rattle.mql_ast.specs.Grammar.{Sum, one_term, plus, minus, Term, column, number, percentile, sum_in_parentheses}
use Rattle.mql_ast.proofs.TokensPrinted.{both, Ends, From, regrouped, here, behind_blank, rest_behind, sign_printed}
use Rattle.mql_ast.proofs.TokensPrinted.{no_digit, IsName, name_lawful, name_printed}
use Rattle.mql_ast.proofs.NumbersPrinted.{positive_lawful, positive_printed, signed_lawful, signed_printed}

-- the sum is spelled here, but for its places, and this is left
pub record SumSpelled (d : ℕ) (s : Rest) (e : SumTree) (rest : List ℕ) : Type 0 where
  pub at : ℕ
  pub placed : SumTree
  pub same : sum_content placed ≡ sum_content e
  pub spelled : Sum d s (record { at = at; bytes = rest }) placed

pub record TermSpelled (d : ℕ) (s : Rest) (e : SumTree) (rest : List ℕ) : Type 0 where
  pub at : ℕ
  pub placed : SumTree
  pub same : sum_content placed ≡ sum_content e
  pub spelled : Term d s (record { at = at; bytes = rest }) placed

-- wherever it is printed
abbrev pub SumPrints : ℕ → SumTree → Type 0
SumPrints d e = (s : Rest) (rest : List ℕ) → Ends rest → From s (sum_text false e ++ rest) → SumSpelled d s e rest

abbrev pub TermPrints : ℕ → SumTree → Type 0
TermPrints d e = (s : Rest) (rest : List ℕ) → Ends rest → From s (sum_text true e ++ rest) → TermSpelled d s e rest

-- from how many levels on a sum prints whole and as an operand
pub record SumLevels (d : ℕ) (e : SumTree) : Type 0 where
  pub whole : (k : ℕ) → d ≤ k → SumPrints k e
  pub operand : (k : ℕ) → d < k → TermPrints k e

pub record TermLevels (d : ℕ) (e : SumTree) : Type 0 where
  pub whole : (k : ℕ) → d ≤ k → SumPrints k e
  pub operand : (k : ℕ) → d ≤ k → TermPrints k e

in_parentheses : (d : ℕ) (e : SumTree) → SumPrints d e → (s : Rest) (rest : List ℕ)
    → From s ((40 ∷ (sum_text false e ++ 41 ∷ [])) ++ rest) → TermSpelled (suc d) s e rest
in_parentheses d e prints s rest f =
    let f' = regrouped f (ap (λ t. 40 ∷ t) (append_assoc (sum_text false e) (41 ∷ []) rest)) in
    let bytes = sum_text false e ++ (41 ∷ rest) in
    let inner = prints (record { at = f.at + 1; bytes = bytes }) (41 ∷ rest) refl (here (f.at + 1) bytes) in
    record {
      at = inner.at + 1;
      placed = inner.placed;
      same = inner.same;
      spelled = sum_in_parentheses (sign_printed 40 refl refl s bytes f') inner.spelled
          (sign_printed 41 refl refl (record { at = inner.at; bytes = 41 ∷ rest }) rest (here inner.at (41 ∷ rest)));
    }

deeper : (d : ℕ) (e : SumTree) → ((k : ℕ) → d ≤ k → SumPrints k e) → sum_text true e
    ≡ 40 ∷ (sum_text false e ++ 41 ∷ []) → (k : ℕ) → d < k → TermPrints k e
deeper d e whole text zero h s rest ends f = absurd (omega arith)
deeper d e whole text (suc k) h s rest ends f = in_parentheses k e (whole k (omega arith)) s rest
    (regrouped f (ap (λ t. t ++ rest) text))

alone : (d : ℕ) (e : SumTree) → sum_text true e ≡ sum_text false e → ((k : ℕ) → d ≤ k → TermPrints k e) → TermLevels d e
alone d e text operand = record {
  whole = λ k h s rest ends f. let t = operand k h s rest ends (regrouped f (ap (λ t. t ++ rest) (sym text))) in
      record { at = t.at; placed = t.placed; same = t.same; spelled = one_term t.spelled };
  operand = operand;
}

module _ (d : ℕ) (l e : SumTree) (left : SumPrints d l) (right : TermPrints d e) where
  plus_prints : SumPrints d (tree.Plus l e)
  plus_prints s rest ends f =
      let behind = sum_text true e ++ rest in
      let a = left s (32 ∷ 43 ∷ 32 ∷ behind) refl
      (regrouped f (append_assoc (sum_text false l) (codes " + " ++ sum_text true e) rest)) in
      let q : Rest = record { at = a.at; bytes = 32 ∷ 43 ∷ 32 ∷ behind } in
      let k : Rest = record { at = a.at + 1 + 1; bytes = 32 ∷ behind } in
      let b = right k rest ends (behind_blank (a.at + 1 + 1) behind) in
      record {
        at = b.at;
        placed = tree.Plus a.placed b.placed;
        same = both tree.Plus a.same b.same;
        spelled =
            plus a.spelled (sign_printed 43 refl refl q (32 ∷ behind) (behind_blank a.at (43 ∷ 32 ∷ behind))) b.spelled;
      }

  minus_prints : SumPrints d (tree.Minus l e)
  minus_prints s rest ends f =
      let behind = sum_text true e ++ rest in
      let a = left s (32 ∷ 45 ∷ 32 ∷ behind) refl
      (regrouped f (append_assoc (sum_text false l) (codes " - " ++ sum_text true e) rest)) in
      let q : Rest = record { at = a.at; bytes = 32 ∷ 45 ∷ 32 ∷ behind } in
      let k : Rest = record { at = a.at + 1 + 1; bytes = 32 ∷ behind } in
      let b = right k rest ends (behind_blank (a.at + 1 + 1) behind) in
      record {
        at = b.at;
        placed = tree.Minus a.placed b.placed;
        same = both tree.Minus a.same b.same;
        spelled =
            minus a.spelled (sign_printed 45 refl refl q (32 ∷ behind) (behind_blank a.at (45 ∷ 32 ∷ behind)))
            b.spelled;
      }

is_percentile : IsName (codes "percentile")
is_percentile = record {
  first = 112;
  others = codes "ercentile";
  is = refl;
  letter = refl;
  word = (refl, (refl, (refl, (refl, (refl, (refl, (refl, (refl, (refl, tt)))))))));
}

-- a percentile from behind its word
percentile_prints : (d at p : ℕ) (n : Name) → IsName n.text → 1 ≤ p → p ≤ 100 → TermPrints d (tree.Percentile at n p)
percentile_prints d at p n name one high s rest ends f =
    let e3 = 41 ∷ rest in
    let e2 = 44 ∷ 32 ∷ (decimal p ++ e3) in
    let e1 = 40 ∷ (n.text ++ e2) in
    let text : (n.text ++ share_text p) ++ rest ≡ n.text ++ e2 =
    append_assoc n.text (share_text p) rest ∙ ap (λ t. n.text ++ (44 ∷ 32 ∷ t)) (append_assoc (decimal p) (41 ∷ [])
    rest) in
    let w = name_printed (codes "percentile") is_percentile s e1 refl
    (regrouped f (ap (λ t. codes "percentile(" ++ t) text)) in
    let a = rest_behind f.at (codes "percentile") e1 in
    let b : Rest = record { at = a.at + 1; bytes = n.text ++ e2 } in
    let c = rest_behind b.at n.text e2 in
    let g : Rest = record { at = c.at + 1; bytes = 32 ∷ (decimal p ++ e3) } in
    let i = rest_behind (g.at + 1) (decimal p) e3 in
    record {
      at = i.at + 1;
      placed = tree.Percentile (skip s).at (record { at = b.at; text = n.text }) p;
      same = refl;
      spelled = percentile w refl (sign_printed 40 refl refl a b.bytes (here a.at a.bytes))
          (name_printed n.text name b e2 refl (here b.at b.bytes)) (sign_printed 44 refl refl c g.bytes
          (here c.at c.bytes))
          (positive_printed 100 p one high (omega arith) g e3 refl (behind_blank g.at (decimal p ++ e3)))
          (sign_printed 41 refl refl i rest (here i.at i.bytes));
    }

mutual
  pub sum_levels : {d : ℕ} {s r : Rest} {e : SumTree} → Sum d s r e → SumLevels d e
  sum_levels (one_term t) = let x = term_levels t in
      record { whole = x.whole; operand = λ k h. x.operand k (omega arith) }
  sum_levels {d = d} (plus {l = l} {e = e} S g T) =
      let a = sum_levels S in
      let b = term_levels T in
      let whole = λ (k : ℕ) (h : d ≤ k). plus_prints k l e (a.whole k h) (b.operand k h) in
      record { whole = whole; operand = deeper d (tree.Plus l e) whole refl }
  sum_levels {d = d} (minus {l = l} {e = e} S g T) =
      let a = sum_levels S in
      let b = term_levels T in
      let whole = λ (k : ℕ) (h : d ≤ k). minus_prints k l e (a.whole k h) (b.operand k h) in
      record { whole = whole; operand = deeper d (tree.Minus l e) whole refl }

  pub term_levels : {d : ℕ} {s r : Rest} {e : SumTree} → Term d s r e → TermLevels d e
  term_levels {d = d} {s = s} {r = r} (column {n = n} e) =
      alone d (tree.Column n) refl (λ k h q rest ends f. record {
        at = (rest_behind f.at n.text rest).at;
        placed =
            tree.Column (record { at = f.at; text = n.text });
        same = refl;
        spelled =
            column (name_printed n.text (name_lawful s r n e) q rest ends f);
      })
  term_levels {d = d} {s = s} {r = r} (number {z = z} e) =
      alone d (tree.Number (skip s).at z) refl (λ k h q rest ends f. record {
        at = _;
        placed = tree.Number (skip q).at
            z;
        same = refl;
        spelled = number (signed_printed z (signed_lawful s r z e) q rest (no_digit rest ends) f);
      })
  term_levels {d = d} {s = s} (percentile {b = b} {c = c} {e = e} {f = f} {n = n} {p = p} h1 h2 h3 h4 h5 h6 h7) =
      let range = positive_lawful 100 (omega arith) e f p h6 in
      alone d (tree.Percentile (skip s).at n p) refl (λ k h. percentile_prints k (skip s).at p n (name_lawful b c n h4)
      range.0 range.1)
  term_levels (sum_in_parentheses h S g) = let x = sum_levels S in
      record { whole = λ k i. x.whole k (omega arith); operand = λ k i. x.operand k (omega arith) }
