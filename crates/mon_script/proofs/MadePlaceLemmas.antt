-- A made input, a piece further.
use Rattle.std.proofs.lemmas.Bool.{ltb-true}
use Rattle.std.proofs.Common.{◌≡◌, ◌∙◌, ℕ, suc, ◌+◌, ◌-◌, ◌*◌, ◌<◌, ◌≤◌, nat_lt, Bool, true, false, cond, List, [], ◌∷◌}
use Rattle.std.proofs.Common.{◌++◌, map, codes, refl, ap, arith, append_assoc}
use Rattle.std.specs.List.{flat_map, range_with_len}
use Rattle.mon_script.specs.Made.{made_round, made_script, number_before, number_behind, pieces_behind, points_name}
use Rattle.mon_script.specs.Made.{points_pieces, rounds, section_line, tasks}
use Rattle.mon_script.specs.MadePlaces.{IsPlace, pieces_left, place_behind}
use Rattle.mon_script.specs.declared.made_input.Place.TheVariants as place
use Rattle.mon_script.proofs.MadeLemmas.{round_more, rounds_are}
use Rattle.mon_value.proofs.PlainLemmas.{at_least}

-- ---- files

-- in front of a file stands its name, and then its rounds
pub file_next : (n file : ℕ) → file < 4 → pieces_left n (place.File file) ≡ section_line (points_name file)
    ∷ pieces_left n (place.Round file 0)
file_next n file among =
    let left : 4 - file ≡ suc (4 - (file + 1)) = omega arith in
    let all : rounds ≡ rounds - 0 = omega arith in
    let last : List (List ℕ) = (section_line (codes "script.txt") ++ made_script) ∷ [] in
    let rest : List (List ℕ) = flat_map (points_pieces n) (range_with_len (file + 1) (4 - (file + 1))) in
    ap (λ k. flat_map (points_pieces n) (range_with_len file k) ++ last) left
    ∙ append_assoc (points_pieces n file) rest last
    ∙ ap (λ k. section_line (points_name file) ∷ (map (made_round n file) (range_with_len 0 k) ++ (rest ++ last))) all

-- behind the last file stands the script
pub script_next : (n file : ℕ) → file ≡ 4 → pieces_left n (place.File file)
    ≡ (section_line (codes "script.txt") ++ made_script) ∷ pieces_left n place.End
script_next n file is = ap (λ f. pieces_behind n f) is

-- ---- rounds

round_behind : (n file round : ℕ) → round < 100 → (b : Bool) → nat_lt (round + 1) 100 ≡ b →
    map (made_round n file) (range_with_len (round + 1) (rounds - (round + 1))) ++ pieces_behind n (file + 1)
    ≡ pieces_left n (cond b (place.Round file (round + 1)) (place.File (file + 1)))
round_behind n file round below true test = refl
round_behind n file round below false test =
    let many : rounds ≡ 100 = rounds_are in
    let past : 100 ≤ round + 1 = at_least (round + 1) 100 test in
    let none : rounds - (round + 1) ≡ 0 = omega arith in
    ap (λ k. map (made_round n file) (range_with_len (round + 1) k) ++ pieces_behind n (file + 1)) none

-- in front of a round stand its records
pub round_next : (n file round : ℕ) → round < 100 → pieces_left n (place.Round file round)
    ≡ made_round n file round ∷ pieces_left n (place_behind file round)
round_next n file round below =
    let many : rounds ≡ 100 = rounds_are in
    let left : rounds - round ≡ suc (rounds - (round + 1)) = omega arith in
    ap (λ k. map (made_round n file) (range_with_len round k) ++ pieces_behind n (file + 1)) left
    ∙ ap (λ (pieces : List (List ℕ)). made_round n file round ∷ pieces)
    (round_behind n file round below (nat_lt (round + 1) 100) refl)

behind_is : (n x file round : ℕ) → file < 4 → round < 100 → x ≡ number_before n file (round + 1) → (b : Bool)
    → nat_lt (round + 1) 100 ≡ b → IsPlace n x (cond b (place.Round file (round + 1)) (place.File (file + 1)))
behind_is n x file round among below is true test = (among, ltb-true (round + 1) 100 test, is)
behind_is n x file round among below is false test =
    let past : 100 ≤ round + 1 = at_least (round + 1) 100 test in
    let next : 50000 * file + 500 * (round + 1) ≡ 50000 * (file + 1) + 500 * 0 = omega arith in
    let within : file + 1 ≤ 4 = omega arith in
    (within, is ∙ ap (λ k. number_behind k n) next)

-- the number behind a round is the one before the next
pub place_is : (n before behind file round : ℕ) → file < 4 → round < 100 → before ≡ number_before n file round
    → behind ≡ number_behind tasks before → IsPlace n behind (place_behind file round)
place_is n before behind file round among below is went =
    behind_is n behind file round among below
    (went ∙ ap (number_behind tasks) is ∙ round_more n file round) (nat_lt (round + 1) 100) refl
