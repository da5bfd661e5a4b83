-- Lists with a comma between each two.
use Rattle.std.proofs.Common.{◌≡◌, ℕ, ◌+◌, List, [], ◌∷◌, ◌++◌, map, refl, sym, ap, ◌∙◌, Some, append_assoc, append-nil}
use Rattle.std.proofs.lemmas.List.{map-append}
use Rattle.mql_ast.specs.Tokens.{Rest, sign_at}
use Rattle.mql_ast.specs.Printed.{each_behind, separated_texts, comma}
use Rattle.mql_ast.proofs.TokensPrinted.{both, Ends, From, regrouped, behind_blank, here, sign_printed}

-- the part is spelled here by this production, but for its places, and this is left
pub record Spelled (A : Type 0) (production : Rest → Rest → A → Type 0) (content : A → A) (s : Rest) (a : A)
    (rest : List ℕ) : Type 0 where
  pub at : ℕ
  pub placed : A
  pub same : content placed ≡ content a
  pub spelled : production s (record { at = at; bytes = rest }) placed

-- wherever these bytes stand
abbrev pub Prints : (A : Type 0) → (Rest → Rest → A → Type 0) → (A → A) → A → List ℕ → Type 0
Prints A production content a text = (s : Rest) (rest : List ℕ) → Ends rest → From s (text ++ rest)
    → Spelled A production content s a rest

pub push_is_some : (A : Type 0) (xs : List A) (x : A) → xs ++ x ∷ [] ≡ [] → ⊥
push_is_some A [] x h = cc
push_is_some A (y ∷ ys) x h = cc

behind_push : (A : Type 0) (text : A → List ℕ) (xs : List A) (x : A) → each_behind comma (map text (xs ++ x ∷ []))
    ≡ each_behind comma (map text xs) ++ (comma ++ text x)
behind_push A text [] x = ap (λ t. comma ++ t) (append-nil (text x))
behind_push A text (y ∷ ys) x = ap (λ t. comma ++ (text y ++ t)) (behind_push A text ys x) ∙ ap (λ t. comma ++ t)
    (sym (append_assoc (text y) (each_behind comma (map text ys)) (comma ++ text x)))

pub separated_push : (A : Type 0) (text : A → List ℕ) (xs : List A) (x : A) → (xs ≡ [] → ⊥) → separated_texts comma
    (map text (xs ++ x ∷ [])) ≡ separated_texts comma (map text xs) ++ (comma ++ text x)
separated_push A text [] x h = absurd (h refl)
separated_push A text (y ∷ ys) x h = ap (λ t. text y ++ t) (behind_push A text ys x)
    ∙ sym (append_assoc (text y) (each_behind comma (map text ys)) (comma ++ text x))

module _ (A : Type 0) (item : Rest → Rest → A → Type 0) (list : Rest → Rest → List A → Type 0) (content : A → A)
    (text : A → List ℕ) where
  -- one item is a list
  pub one_printed : ((s r : Rest) (x : A) → item s r x → list s r (x ∷ [])) → (x : A) → Prints A item content x
      (text x) → Prints (List A) list (map content) (x ∷ []) (separated_texts comma (map text (x ∷ [])))
  one_printed one x f s rest ends from =
      let y = f s rest ends (regrouped from (ap (λ t. t ++ rest) (append-nil (text x)))) in
      record {
        at = y.at;
        placed = y.placed ∷ [];
        same = ap (λ c. c ∷ []) y.same;
        spelled =
            one s (record { at = y.at; bytes = rest }) y.placed y.spelled;
      }

  -- a list goes on with one item more
  pub more_printed : ((s m k r : Rest) (xs : List A) (x : A) → list s m xs → sign_at 44 m ≡ Some k → item k r x
      → list s r (xs ++ x ∷ [])) → (xs : List A) (x : A) → (xs ≡ [] → ⊥) →
      Prints (List A) list (map content) xs (separated_texts comma (map text xs)) → Prints A item content x (text x)
      → Prints (List A) list (map content) (xs ++ x ∷ []) (separated_texts comma (map text (xs ++ x ∷ [])))
  more_printed more xs x some f g s rest ends from =
      let front = separated_texts comma (map text xs) in
      let last = text x ++ rest in
      let a = f s (44 ∷ 32 ∷ last) refl (regrouped from (ap (λ t. t ++ rest) (separated_push A text xs x some)
      ∙ append_assoc front (comma ++ text x) rest)) in
      let m : Rest = record { at = a.at; bytes = 44 ∷ 32 ∷ last } in
      let k : Rest = record { at = a.at + 1; bytes = 32 ∷ last } in
      let b = g k rest ends (behind_blank k.at last) in
      record {
        at = b.at;
        placed = a.placed ++ b.placed ∷ [];
        same = map-append content a.placed (b.placed ∷ []) ∙ both (λ c d. c ++ d ∷ []) a.same b.same
            ∙ sym (map-append content xs (x ∷ []));
        spelled = more s m k (record { at = b.at; bytes = rest }) a.placed b.placed a.spelled
            (sign_printed 44 refl refl m (32 ∷ last) (here m.at m.bytes)) b.spelled;
      }
