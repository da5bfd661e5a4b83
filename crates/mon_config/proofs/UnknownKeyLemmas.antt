-- The least unknown key, of the keys that a map has in their order.
use Rattle.std.proofs.Common.{◌≡◌, ℕ, Bool, List, [], ◌∷◌, map, Option, Some, None, true, false, cond, refl, ap, ◌∙◌}
use Rattle.std.proofs.Common.{String, string_bytes}
use Rattle.std.specs.declared.alloc.Global.{Global}
use Rattle.std.specs.List.{AllByRecursion, list_any}
use Rattle.std.specs.List.Sorted.{IsStrictlySortedBy}
use Rattle.std.specs.Ordering.{is_gt}
use Rattle.std.specs.String.{string_cmp}
use Rattle.std.specs.declared.cmp.Ordering.{Ordering}
use Rattle.std.specs.declared.cmp.Ordering.TheVariants.{Less}
use Rattle.serde_json.specs.View.{members_of, view}
use Rattle.serde_json.specs.declared.value.Value.{Value}
use Rattle.mon_value.specs.Same.{same_text}
use Rattle.mon_config.specs.Objects.{lesser_key, unknown_in}

-- the first of the keys that isn't known
abbrev pub first_unknown : List (List ℕ) → List (String Global) → Option (List ℕ)
first_unknown known [] = None
first_unknown known (key ∷ keys) = cond (list_any (same_text (string_bytes key)) known) (first_unknown known keys)
    (Some (string_bytes key))

-- a key stands before an unknown one that is found, where it stands before all keys
lesser_key-first : (known : List (List ℕ)) (key : String Global) (keys : List (String Global))
    → AllByRecursion (λ other. string_cmp key other ≡ Less) keys
    → lesser_key (string_bytes key) (first_unknown known keys) ≡ string_bytes key
lesser_key-first known key [] above = refl
lesser_key-first known key (k ∷ keys) above = by (lesser_key-first known key keys above.1)
    (list_any (same_text (string_bytes k)) known)
  where
    by : lesser_key (string_bytes key) (first_unknown known keys) ≡ string_bytes key → (b : Bool)
        → lesser_key (string_bytes key) (cond b (first_unknown known keys) (Some (string_bytes k))) ≡ string_bytes key
    by rest true = rest
    by rest false = ap (λ (o : Ordering). cond (is_gt o) (string_bytes k) (string_bytes key)) above.0

-- keys in their order: the first unknown one is the least
pub unknown_in-keys : (known : List (List ℕ)) (entries : List (String Global × Value))
    → IsStrictlySortedBy string_cmp (map (λ e. e.0) entries)
    → unknown_in known (members_of (map (λ m. (m.0, view m.1)) entries)) ≡ first_unknown known (map (λ e. e.0) entries)
unfolding IsStrictlySortedBy
unknown_in-keys known [] sorted = refl
unknown_in-keys known (e ∷ entries) sorted =
    let key = string_bytes e.0 in
    ap (λ rest. cond (list_any (same_text key) known) rest (Some (lesser_key key rest)))
    (unknown_in-keys known entries sorted.1)
    ∙ ap (λ least. cond (list_any (same_text key) known) (first_unknown known (map (λ e. e.0) entries)) (Some least))
    (lesser_key-first known e.0 (map (λ e. e.0) entries) sorted.0)
