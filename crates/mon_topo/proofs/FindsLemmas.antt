-- What is found of names, locations and leaves.
use Rattle.std.proofs.Common.{◌≡◌, ◌∙◌, ℕ, ◌+◌, Bool, true, false, ◌||◌, List, [], ◌∷◌, ◌++◌, Option, Some, None, cond}
use Rattle.std.proofs.Common.{is_some, length, refl, ap, sym, arith}
use Rattle.std.specs.List.{list_any, position_from}
use Rattle.std.specs.Map.{keys_of, lookup}
use Rattle.std.specs.Option.{option_or}
use Rattle.std.proofs.lemmas.Map.Made.{is_some-lookup}
use Rattle.mon_value.specs.Same.{same_text}
use Rattle.mon_value.proofs.SameLemmas.{same_text-Decides}
use Rattle.mon_topo.specs.Indexed.{all_numbered, numbered_locations, numbered_texts, with_name, FindsPlaces}
use Rattle.mon_topo.specs.declared.zones.ZoneSpec.{ZoneSpec}

option_or-cond : {X : Type 0} (b : Bool) (x : X) (o p : Option X)
    → option_or (cond b (Some x) o) p ≡ cond b (Some x) (option_or o p)
option_or-cond true x o p = refl
option_or-cond false x o p = refl

lookup-append : (test : List ℕ → Bool) (es fs : List (List ℕ × ℕ))
    → lookup test (es ++ fs) ≡ option_or (lookup test es) (lookup test fs)
lookup-append test [] fs = refl
lookup-append test (e ∷ es) fs =
    ap (cond (test e.0) (Some e.1)) (lookup-append test es fs)
    ∙ sym (option_or-cond (test e.0) e.1 (lookup test es) (lookup test fs))

pub position_from-append : {X : Type 0} (test : X → Bool) (n : ℕ) (xs ys : List X)
    → position_from test n (xs ++ ys) ≡ option_or (position_from test n xs) (position_from test (n + length xs) ys)
position_from-append test n [] ys = ap (λ k. position_from test k ys) (omega arith)
position_from-append test n (x ∷ xs) ys =
    ap (cond (test x) (Some n))
    (position_from-append test (n + 1) xs ys
    ∙ ap (λ k. option_or (position_from test (n + 1) xs) (position_from test k ys)) (omega arith))
    ∙ sym (option_or-cond (test x) n (position_from test (n + 1) xs) (position_from test (n + length (x ∷ xs)) ys))

pub lookup-numbered : (text : List ℕ) (n : ℕ) (texts : List (List ℕ))
    → lookup (same_text text) (numbered_texts n texts) ≡ position_from (same_text text) n texts
lookup-numbered text n [] = refl
lookup-numbered text n (t ∷ texts) = ap (cond (same_text text t) (Some n)) (lookup-numbered text (n + 1) texts)

or_one : {X : Type 0} (b : Bool) (x : X) (o : Option X) → option_or (cond b (Some x) None) o ≡ cond b (Some x) o
or_one true x o = refl
or_one false x o = refl

lookup-all_numbered : (text : List ℕ) (i : ℕ) (texts : List (List ℕ))
    → lookup (same_text text) (all_numbered i texts) ≡ cond (list_any (same_text text) texts) (Some i) None
lookup-all_numbered text i [] = refl
lookup-all_numbered text i (t ∷ texts) =
    ap (cond (same_text text t) (Some i)) (lookup-all_numbered text i texts)
    ∙ by (same_text text t) (list_any (same_text text) texts)
  where
    by : (a b : Bool) → cond a (Some i) (cond b (Some i) None) ≡ cond (a || b) (Some i) None
    by true b = refl
    by false b = refl

pub lookup-located : (location : List ℕ) (i : ℕ) (zones : List ZoneSpec)
    → lookup (same_text location) (numbered_locations i zones)
    ≡ position_from (λ zone. list_any (same_text location) zone.locations) i zones
lookup-located location i [] = refl
lookup-located location i (zone ∷ zones) =
    let own : Bool = list_any (same_text location) zone.locations in
    lookup-append (same_text location) (all_numbered i zone.locations) (numbered_locations (i + 1) zones)
    ∙ ap (λ o. option_or o (lookup (same_text location) (numbered_locations (i + 1) zones)))
    (lookup-all_numbered location i
    zone.locations)
    ∙ or_one own i (lookup (same_text location) (numbered_locations (i + 1) zones))
    ∙ ap (cond own (Some i)) (lookup-located location (i + 1) zones)

-- ---- a map to which names are added, of which only the new ones go in

-- a name that is there is found without its new number
kept : (text name : List ℕ) (n : ℕ) (es : List (List ℕ × ℕ)) → list_any (same_text name) (keys_of es) ≡ true
    → lookup (same_text text) es ≡ option_or (lookup (same_text text) es) (cond (same_text text name) (Some n) None)
kept text name n es there = by (lookup (same_text text) es) (same_text text name) refl refl
  where
    found : (o : Option ℕ) → lookup (same_text name) es ≡ o → is_some o ≡ true
    found o is = ap is_some (sym is) ∙ is_some-lookup (same_text name) es ∙ there

    by : (o : Option ℕ) (b : Bool) → lookup (same_text text) es ≡ o → same_text text name ≡ b
        → o ≡ option_or o (cond b (Some n) None)
    by (Some m) b is same = refl
    by None false is same = refl
    by None true is same =
        let equal : text ≡ name = (same_text-Decides text name).0 same in
        let none : lookup (same_text name) es ≡ None = ap (λ t. lookup (same_text t) es) (sym equal) ∙ is in
        let some : false ≡ true = found None none in
        absurd (cc)

added : (text name : List ℕ) (n : ℕ) (es : List (List ℕ × ℕ)) (b : Bool)
    → list_any (same_text name) (keys_of es) ≡ b
    → lookup (same_text text) (cond b es (es ++ (name, n) ∷ []))
    ≡ option_or (lookup (same_text text) es) (cond (same_text text name) (Some n) None)
added text name n es true there = kept text name n es there
added text name n es false there = lookup-append (same_text text) es ((name, n) ∷ [])

-- one name more is found at the end of the names, unless it stands among them
pub FindsPlaces-with_name : (es : List (List ℕ × ℕ)) (names : List (List ℕ)) (name : List ℕ) (n : ℕ)
    → length names ≡ n → FindsPlaces es names → FindsPlaces (with_name es name n) (names ++ name ∷ [])
FindsPlaces-with_name es names name n long finds text =
    added text name n es (list_any (same_text name) (keys_of es)) refl
    ∙ ap (λ o. option_or o (cond (same_text text name) (Some n) None)) (finds text)
    ∙ ap (λ k. option_or (position_from (same_text text) 0 names) (cond (same_text text name) (Some k) None))
    (sym long ∙ omega arith)
    ∙ sym (position_from-append (same_text text) 0 names (name ∷ []))
