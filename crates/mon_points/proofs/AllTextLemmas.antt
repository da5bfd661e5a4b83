-- Records of which each cell is UTF-8.
use Rattle.std.proofs.Common.{◌≡◌, ℕ, true, false, List, [], ◌∷◌, refl}
use Rattle.std.specs.List.{list_all}
use Rattle.std.specs.Str.{is_utf8}
use Rattle.std.proofs.lemmas.Bool.{and_from, and_parts, false_from_ne_true}
use Rattle.std.proofs.lemmas.Str.{IsUtf8-from_is_utf8, is_utf8-from_IsUtf8}
use Rattle.csv.specs.Records.{AllText}

pub are_utf8 : (cells : List (List ℕ)) → AllText cells → list_all is_utf8 cells ≡ true
unfolding AllText
are_utf8 [] h = refl
are_utf8 (cell ∷ cells) h = and_from _ _ (is_utf8-from_IsUtf8 cell h.0) (are_utf8 cells h.1)

all_text : (cells : List (List ℕ)) → list_all is_utf8 cells ≡ true → AllText cells
unfolding AllText
all_text [] h = tt
all_text (cell ∷ cells) h =
    let parts = and_parts (is_utf8 cell) (list_all is_utf8 cells) h in
    (IsUtf8-from_is_utf8 cell parts.0, all_text cells parts.1)

pub not_utf8 : (cells : List (List ℕ)) → ¬ (AllText cells) → list_all is_utf8 cells ≡ false
not_utf8 cells h = false_from_ne_true _ (λ all. h (all_text cells all))
