-- Texts with their numbers, one part after another.
use Rattle.std.proofs.Common.{◌≡◌, ◌∙◌, ℕ, suc, ◌+◌, List, [], ◌∷◌, ◌++◌, length, refl, ap, sym, arith, append_assoc}
use Rattle.std.specs.Map.{keys_of}
use Rattle.std.proofs.lemmas.List.{map-append}
use Rattle.mon_topo.specs.Indexed.{all_numbered, numbered_locations, numbered_texts}
use Rattle.mon_topo.specs.Zones.{locations_in}
use Rattle.mon_topo.specs.declared.zones.ZoneSpec.{ZoneSpec}

pub numbered_texts-append : (n : ℕ) (xs ys : List (List ℕ))
    → numbered_texts n (xs ++ ys) ≡ numbered_texts n xs ++ numbered_texts (n + length xs) ys
numbered_texts-append n [] ys = ap (λ k. numbered_texts k ys) (omega arith)
numbered_texts-append n (x ∷ xs) ys =
    ap (λ more. (x, n) ∷ more)
    (numbered_texts-append (n + 1) xs ys ∙ ap (λ k. numbered_texts (n + 1) xs ++ numbered_texts k ys) (omega arith))

pub numbered_locations-append : (i : ℕ) (zones more : List ZoneSpec)
    → numbered_locations i (zones ++ more) ≡ numbered_locations i zones ++ numbered_locations (i + length zones) more
numbered_locations-append i [] more = ap (λ k. numbered_locations k more) (omega arith)
numbered_locations-append i (zone ∷ zones) more =
    ap (λ rest. all_numbered i zone.locations ++ rest)
    (numbered_locations-append (i + 1) zones more
    ∙ ap (λ k. numbered_locations (i + 1) zones ++ numbered_locations k more) (omega arith))
    ∙ sym (append_assoc (all_numbered i zone.locations) (numbered_locations (i + 1) zones)
    (numbered_locations (i + length (zone ∷ zones))
    more))

pub keys-numbered : (n : ℕ) (xs : List (List ℕ)) → keys_of (numbered_texts n xs) ≡ xs
keys-numbered n [] = refl
keys-numbered n (x ∷ xs) = ap (λ more. x ∷ more) (keys-numbered (n + 1) xs)

pub keys-all_numbered : (n : ℕ) (xs : List (List ℕ)) → keys_of (all_numbered n xs) ≡ xs
keys-all_numbered n [] = refl
keys-all_numbered n (x ∷ xs) = ap (λ more. x ∷ more) (keys-all_numbered n xs)

pub keys-append : (es fs : List (List ℕ × ℕ)) → keys_of (es ++ fs) ≡ keys_of es ++ keys_of fs
keys-append es fs = map-append _ es fs

pub keys-located : (i : ℕ) (zones : List ZoneSpec) → keys_of (numbered_locations i zones) ≡ locations_in zones
keys-located i [] = refl
keys-located i (zone ∷ zones) =
    keys-append (all_numbered i zone.locations) (numbered_locations (i + 1) zones)
    ∙ ap (λ own. own ++ keys_of (numbered_locations (i + 1) zones)) (keys-all_numbered i zone.locations)
    ∙ ap (λ more. zone.locations ++ more) (keys-located (i + 1) zones)

pub length-numbered : (n : ℕ) (xs : List (List ℕ)) → length (numbered_texts n xs) ≡ length xs
length-numbered n [] = refl
length-numbered n (x ∷ xs) = ap (λ k. suc k) (length-numbered (n + 1) xs)
