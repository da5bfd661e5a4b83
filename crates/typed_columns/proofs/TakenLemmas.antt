-- Names that are taken one after another.
use Rattle.std.proofs.Common.{◌≡◌, ◌∙◌, ℕ, Bool, true, false, cond, ◌||◌, nat_eq, List, [], ◌∷◌, ◌++◌, map, refl}
use Rattle.std.proofs.Common.{is_some, Option, Some}
use Rattle.std.proofs.Common.{ap, sym, append_assoc}
use Rattle.mql_ast.specs.declared.names.Name.{Name}
use Rattle.typed_trees.specs.declared.faults.TypeFault.{TypeFault}
use Rattle.typed_trees.specs.declared.faults.TypeKind.TheVariants.{DuplicateColumn}
use Rattle.typed_trees.specs.Faults.{fault_where}
use Rattle.typed_trees.specs.Items.{is_taken, name_texts, taken_faults, with_name, with_names}
use Rattle.std.specs.Cmp.Lexicographic.{pointwise}
use Rattle.std.specs.Map.{lookup}
use Rattle.indexmap.specs.IndexMap.{insert_entry}
use Rattle.mon_value.specs.Same.{same_text}
use denote.Ref.{Bor}
use Rattle.typed_columns.proofs.FaultLemmas.{first_with-append}

-- the faults of two lists of names, the second behind the first
pub taken_faults-append : (taken : List (List ℕ)) (xs ys : List Name)
    → taken_faults taken (xs ++ ys) ≡ taken_faults taken xs ++ taken_faults (with_names taken (name_texts xs)) ys
taken_faults-append taken [] ys = refl
taken_faults-append taken (x ∷ xs) ys =
    let own : List TypeFault = fault_where (is_taken x.text taken) x.at DuplicateColumn in
    ap (λ rest. own ++ rest) (taken_faults-append (with_name taken x.text) xs ys)
    ∙ sym (append_assoc own (taken_faults (with_name taken x.text) xs) _)

-- the names that are lent
abbrev pub lent : List (Bor (List ℕ) × Unit {0}) → List (List ℕ)
lent entries = map (λ entry. entry.0.now) entries

is_some-either : (b : Bool) (rest : Option (Unit {0})) → is_some (cond b (Some tt) rest) ≡ b || is_some rest
is_some-either true rest = refl
is_some-either false rest = refl

pub found_lent : (name : List ℕ) (entries : List (Bor (List ℕ) × Unit {0}))
    → is_some (lookup (λ key. pointwise nat_eq name key.now) entries) ≡ is_taken name (lent entries)
found_lent name [] = refl
found_lent name (entry ∷ entries) =
    is_some-either (same_text name entry.0.now) (lookup (λ key. pointwise nat_eq name key.now) entries)
    ∙ ap (λ (b : Bool). same_text name entry.0.now || b) (found_lent name entries)

behind : (b : Bool) (first name : List ℕ) (names : List (List ℕ))
    → first ∷ cond b names (names ++ name ∷ []) ≡ cond b (first ∷ names) (first ∷ names ++ name ∷ [])
behind true first name names = refl
behind false first name names = refl

-- the names with one more
pub lent-insert : (key : Bor (List ℕ)) (entries : List (Bor (List ℕ) × Unit {0}))
    → lent (insert_entry (λ a b. pointwise nat_eq a.now b.now) entries key tt) ≡ with_name (lent entries) key.now
lent-insert key [] = refl
lent-insert key (entry ∷ entries) = by (same_text key.now entry.0.now) (lent-insert key entries)
  where
    by : (b : Bool)
        → lent (insert_entry (λ a b. pointwise nat_eq a.now b.now) entries key tt) ≡ with_name (lent entries) key.now
        → lent (cond b ((entry.0, tt) ∷ entries) (entry ∷ insert_entry (λ a b. pointwise nat_eq a.now b.now) entries key tt))
        ≡ cond (b || is_taken key.now (lent entries)) (lent (entry ∷ entries)) (lent (entry ∷ entries) ++ key.now ∷ [])
    by true rest = refl
    by false rest =
        ap (λ names. entry.0.now ∷ names) rest
        ∙ behind (is_taken key.now (lent entries)) entry.0.now key.now (lent entries)

pub ruleset taken_names = (taken_faults-append, first_with-append, append_assoc)
