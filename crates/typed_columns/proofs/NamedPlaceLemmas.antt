-- The places of columns, kept under their names.
use Rattle.std.proofs.Common.{◌≡◌, ◌∙◌, ℕ, ◌+◌, ◌≤◌, ◌<◌, Bool, true, false, not, cond, ◌||◌, is_none, is_some, nat_lt}
use Rattle.std.proofs.Common.{nat_eq, List, [], ◌∷◌, ◌++◌, length, Option, Some, None, refl, ap, sym, subst, arith}
use Rattle.std.proofs.Common.{Bor, length-append}
use Rattle.std.proofs.lemmas.Bool.{lt-ltb, le-ltb, eqb-true}
use Rattle.std.proofs.lemmas.Bool.Decides.{nat_tests}
use Rattle.std.proofs.lemmas.List.Folds.{position_or_len_push}
use Rattle.std.proofs.lemmas.List.Sums.{prefix_len-le-length}
use Rattle.std.specs.List.{position_or_len}
use Rattle.std.specs.Option.{option_copied, option_or}
use Rattle.indexmap.specs.IndexMap.{get, get_by, UpdatesBy}
use Rattle.mon_value.proofs.SameLemmas.{same_text-Decides, same_text-back}
use Rattle.mon_value.specs.Tables.{has_name}
use Rattle.mon_value.specs.Same.{same_text}
use Rattle.mon_value.specs.declared.columns.Column.{Column}
use Rattle.typed_trees.specs.Groupings.{place_found}
use Rattle.typed_columns.specs.NamedPlaces.{AddsPlace, PlaceMap, same_name}

-- ---- the first place at which a test passes

pushed : (p n : ℕ) (here t : Bool) → (here ≡ true → p ≡ n) → (here ≡ false → p < n)
    → cond (nat_lt (cond here (n + cond t 0 1) p) (n + 1)) (Some (cond here (n + cond t 0 1) p)) None
    ≡ option_or (cond (nat_lt p n) (Some p) None) (cond t (Some n) None)
pushed p n true true same less =
    rw (same refl) (rw (lt-ltb (n + 0) (n + 1) (omega arith)) (rw (le-ltb n n (omega arith)) (ap Some (omega arith))))
pushed p n true false same less =
    rw (same refl) (rw (le-ltb (n + 1) (n + 1) (omega arith)) (rw (le-ltb n n (omega arith)) refl))
pushed p n false t same less =
    let below = less refl in
    rw (lt-ltb p (n + 1) (omega arith)) (rw (lt-ltb p n below) refl)

less_than : (p n : ℕ) → p ≤ n → nat_eq p n ≡ false → p < n
less_than p n most apart = grind (arith, nat_tests)

-- the first place at which a name stands, among columns and one more
pub place_found-push : (name : List ℕ) (columns : List Column) (column : Column)
    → place_found name (columns ++ column ∷ [])
    ≡ option_or (place_found name columns) (cond (same_text name column.name) (Some (length columns)) None)
place_found-push name columns column =
    let test : Column → Bool = λ c. same_text name c.name in
    let p = position_or_len test columns in
    let n = length columns in
    let more : length (columns ++ column ∷ []) ≡ n + 1 = length-append columns (column ∷ []) in
    ap (λ q. cond (nat_lt q (length (columns ++ column ∷ []))) (Some q) None) (position_or_len_push test columns column)
    ∙ ap
    (λ m. cond (nat_lt (cond (nat_eq p n) (n + cond (test column) 0 1) p) m)
    (Some (cond (nat_eq p n) (n + cond (test column) 0 1) p)) None)
    more
    ∙ pushed p n (nat_eq p n) (test column) (eqb-true p n)
    (less_than p n (prefix_len-le-length (λ c. not (test c)) columns))

is_some-cond : (b : Bool) (n : ℕ) → is_some (cond b (Some n) None) ≡ b
is_some-cond true n = refl
is_some-cond false n = refl

by_first : (t : Bool) (p n : ℕ) (any : Bool) → any ≡ is_some (cond (nat_lt p n) (Some p) None)
    → (t || any) ≡ is_some (cond (nat_lt (cond (not t) (1 + p) 0) (n + 1)) (Some (cond (not t) (1 + p) 0)) None)
by_first true p n any e = sym (is_some-cond (nat_lt 0 (n + 1)) 0 ∙ lt-ltb 0 (n + 1) (omega arith))
by_first false p n any e =
    e ∙ is_some-cond (nat_lt p n) p ∙ grind (arith, nat_tests) ∙ sym (is_some-cond (nat_lt (1 + p) (n + 1)) (1 + p))

-- a name stands somewhere exactly where it has a place
pub has_name-place : (name : List ℕ) (columns : List Column) → has_name name columns
    ≡ is_some (place_found name columns)
has_name-place name [] = refl
has_name-place name (x ∷ xs) =
    let test : Column → Bool = λ c. same_text name c.name in
    let here = by_first (same_text name x.name) (position_or_len test xs) (length xs) (has_name name xs)
    (has_name-place name xs) in
    let more : length xs + 1 ≡ length (x ∷ xs) = omega arith in
    subst
    (λ m. (same_text name x.name || has_name name xs) ≡ is_some
    (cond (nat_lt (cond (not (same_text name x.name)) (1 + position_or_len test xs) 0) m)
    (Some (cond (not (same_text name x.name)) (1 + position_or_len test xs) 0)) None)) more here

-- ---- a place more

pub copied_none : {A : Type 0} (o : Option (Bor A)) → is_none o ≡ true → option_copied o ≡ None
copied_none None h = refl
copied_none (Some x) h = absurd (cc)

one_place : {S : Type 0} (places : PlaceMap S) (a b : Bor (List ℕ)) → same_text a.now b.now ≡ true
    → get same_name places a ≡ get same_name places b
one_place places a b same =
    ap (λ (text : List ℕ). get_by (λ (k : Bor (List ℕ)). same_text text k.now) places)
    ((same_text-Decides a.now b.now).0 same)

put : (b : Bool) (before after : Option ℕ) (place : ℕ) → (b ≡ true → before ≡ None)
    → after ≡ cond b (Some place) before → after ≡ option_or before (cond b (Some place) None)
put true before after place none e = e ∙ sym (ap (λ o. option_or o (Some place)) (none refl))
put false None after place none e = e
put false (Some x) after place none e = e

-- a name that had none has a place
pub adds_place : {S : Type 0} (before after : PlaceMap S) (name : Bor (List ℕ)) (place : ℕ)
    → get same_name before name ≡ None → UpdatesBy same_name (same_name name) before after (Some place)
    → AddsPlace before after name.now place
adds_place before after name place none updates other =
    let b = same_text other.now name.now in
    let back : same_name name other ≡ b = same_text-back other.now name.now b refl in
    put b (get same_name before other) (get same_name after other) place
    (λ same. one_place before other name same ∙ none)
    (updates.0 other ∙ ap (λ c. cond c (Some place) (get same_name before other)) back)

kept : (b : Bool) (o : Option ℕ) (place : ℕ) → (b ≡ true → is_some o ≡ true) → o ≡ option_or o
    (cond b (Some place) None)
kept true None place there = absurd (let e = there refl in cc)
kept false None place there = refl
kept b (Some x) place there = refl
