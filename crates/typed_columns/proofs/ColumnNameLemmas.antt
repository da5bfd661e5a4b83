-- A name that stands twice, found behind those that are taken.
use Rattle.std.proofs.Common.{◌≡◌, ◌∙◌, ℕ, Bool, true, false, cond, ◌||◌, List, [], ◌∷◌, ◌++◌, refl, ap, sym}
use Rattle.std.proofs.lemmas.List.Folds.{list_any-append}
use Rattle.std.specs.Cmp.Lexicographic.{nat_list_eq_equiv}
use Rattle.std.specs.List.{list_any}
use Rattle.mon_schema.specs.Faults.{texts_repeat}
use Rattle.mon_value.specs.Same.{same_text}
use Rattle.typed_trees.specs.Items.{is_taken, with_name}
use Rattle.mon_value.proofs.PlainLemmas.{or_false, or_assoc}

-- whether one of the names is taken, or stands twice
abbrev pub repeats_behind : List (List ℕ) → List (List ℕ) → Bool
repeats_behind taken names = list_any (λ name. is_taken name taken) names || texts_repeat names

-- of four tests, the two in the middle change places
or_swap : (a b c d : Bool) → ((a || b) || (c || d)) ≡ ((a || c) || (b || d))
or_swap true b c d = refl
or_swap false true true d = refl
or_swap false true false d = refl
or_swap false false true d = refl
or_swap false false false d = refl

-- a name more is taken
one_more : (taken : List (List ℕ)) (name other : List ℕ)
    → is_taken other (taken ++ name ∷ []) ≡ (is_taken other taken || same_text name other)
one_more taken name other =
    list_any-append (same_text other) taken (name ∷ [])
    ∙ ap (λ (b : Bool). is_taken other taken || b) (or_false (same_text other name))
    ∙ ap (λ (b : Bool). is_taken other taken || b) (nat_list_eq_equiv.symm other name)

any_more : (taken : List (List ℕ)) (name : List ℕ) (names : List (List ℕ))
    → list_any (λ other. is_taken other (taken ++ name ∷ [])) names
    ≡ (list_any (λ other. is_taken other taken) names || list_any (same_text name) names)
any_more taken name [] = refl
any_more taken name (other ∷ names) =
    ap (λ (b : Bool). b || list_any (λ m. is_taken m (taken ++ name ∷ [])) names) (one_more taken name other)
    ∙ ap (λ (b : Bool). (is_taken other taken || same_text name other) || b) (any_more taken name names)
    ∙ or_swap (is_taken other taken) (same_text name other) (list_any (λ m. is_taken m taken) names)
    (list_any (same_text name) names)

-- nothing is taken yet
pub repeats_behind-none : (names : List (List ℕ)) → repeats_behind [] names ≡ texts_repeat names
repeats_behind-none names = ap (λ (b : Bool). b || texts_repeat names) (none_taken names)
  where
    none_taken : (names : List (List ℕ)) → list_any (λ name. is_taken name []) names ≡ false
    none_taken [] = refl
    none_taken (name ∷ names) = none_taken names

-- a name that wasn't taken is taken
pub repeats_behind-next : (taken : List (List ℕ)) (name : List ℕ) (names : List (List ℕ))
    → is_taken name taken ≡ false → repeats_behind (with_name taken name) names ≡ repeats_behind taken (name ∷ names)
repeats_behind-next taken name names new =
    let seen : List ℕ → Bool = λ other. is_taken other taken in
    ap (λ b. repeats_behind (cond b taken (taken ++ name ∷ [])) names) new
    ∙ ap (λ (b : Bool). b || texts_repeat names) (any_more taken name names)
    ∙ or_assoc (list_any seen names) (list_any (same_text name) names) (texts_repeat names)
    ∙ sym (ap (λ (b : Bool). (b || list_any seen names) || (list_any (same_text name) names || texts_repeat names)) new)

-- a name that was taken is found
pub repeats_behind-found : (taken : List (List ℕ)) (name : List ℕ) (names : List (List ℕ))
    → is_taken name taken ≡ true → repeats_behind taken (name ∷ names) ≡ true
repeats_behind-found taken name names found =
    ap (λ (b : Bool). (b || list_any (λ other. is_taken other taken) names) || texts_repeat (name ∷ names)) found

pub ruleset named_columns = (repeats_behind-none, repeats_behind-next, repeats_behind-found)
