-- Lists that are woven together.
use Rattle.std.proofs.Common.{◌≡◌, ◌||◌, Bool, true, false, List, refl}
use Rattle.std.specs.List.{list_any}
use Rattle.std.proofs.lemmas.Bool.{or_right}
use Rattle.ingest_queue.specs.Weaves.{IsWeave, ended, from_one, from_other}

pub either_more : (a b c : Bool) → (a || b) ≡ true → (b ≡ true → c ≡ true) → (a || c) ≡ true
either_more true b c is more = refl
either_more false b c is more = more is

-- what some item of either passes, some item of all does
module _ {X : Type 0} (test : X → Bool) where
  pub any_of_one : {all one other : List X} → IsWeave all one other → list_any test one ≡ true
      → list_any test all ≡ true
  any_of_one ended is = is
  any_of_one (from_one {x = x} {all = all} {one = one} {other = other} rest) is =
      either_more (test x) (list_any test one) (list_any test all) is (any_of_one rest)
  any_of_one (from_other {x = x} {all = all} {one = one} {other = other} rest) is =
      or_right (test x) (list_any test all) (any_of_one rest is)

  pub any_of_other : {all one other : List X} → IsWeave all one other → list_any test other ≡ true
      → list_any test all ≡ true
  any_of_other ended is = is
  any_of_other (from_one {x = x} {all = all} {one = one} {other = other} rest) is =
      or_right (test x) (list_any test all) (any_of_other rest is)
  any_of_other (from_other {x = x} {all = all} {one = one} {other = other} rest) is =
      either_more (test x) (list_any test other) (list_any test all) is (any_of_other rest)

-- the two lists may be exchanged
pub woven_back : {X : Type 0} {all one other : List X} → IsWeave all one other → IsWeave all other one
woven_back ended = ended
woven_back (from_one {x = x} {all = all} {one = one} {other = other} rest) = from_other (woven_back rest)
woven_back (from_other {x = x} {all = all} {one = one} {other = other} rest) = from_one (woven_back rest)
