-- Lists that are woven of two.
use Rattle.std.proofs.Common.{◌≡◌, Bool, true, false, not, List, [], ◌∷◌, Option, Some, None, refl, filter}
use Rattle.std.specs.List.{filter_map}
use Rattle.ingest_queue.specs.Weaves.{IsWeave, ended, from_one, from_other}

-- a list is a weave of the items that fail a test and of those that pass it
pub by_test : {A : Type 0} (fails passes : A → Bool) → ((x : A) → fails x ≡ not (passes x)) → (list : List A) → IsWeave list (filter fails list) (filter passes list)
by_test fails passes apart [] = ended
by_test fails passes apart (x ∷ xs) = step (fails x) (passes x) refl refl (apart x) (by_test fails passes apart xs)
  where
    step : (a b : Bool) → fails x ≡ a → passes x ≡ b → fails x ≡ not (passes x) → IsWeave xs (filter fails xs) (filter passes xs) → IsWeave (x ∷ xs) (filter fails (x ∷ xs)) (filter passes (x ∷ xs))
    step false true e d n rest = rw (e, d) (from_other rest)
    step true false e d n rest = rw (e, d) (from_one rest)
    step false false e d n rest = cc
    step true true e d n rest = cc

first : {A B : Type 0} (f : A → Option B) (x : A) (o : Option B) → f x ≡ o → (all one other : List A) → IsWeave (filter_map f all) (filter_map f one) (filter_map f other) → IsWeave (filter_map f (x ∷ all)) (filter_map f (x ∷ one)) (filter_map f other)
first f x None e all one other w = rw e w
first f x (Some y) e all one other w = rw e (from_one w)

second : {A B : Type 0} (f : A → Option B) (x : A) (o : Option B) → f x ≡ o → (all one other : List A) → IsWeave (filter_map f all) (filter_map f one) (filter_map f other) → IsWeave (filter_map f (x ∷ all)) (filter_map f one) (filter_map f (x ∷ other))
second f x None e all one other w = rw e w
second f x (Some y) e all one other w = rw e (from_other w)

-- what each item of a weave comes to, where it comes to something
pub woven_by : {A B : Type 0} (f : A → Option B) {all one other : List A} → IsWeave all one other → IsWeave (filter_map f all) (filter_map f one) (filter_map f other)
woven_by f ended = ended
woven_by f (from_one {x = x} {all = all} {one = one} {other = other} rest) = first f x (f x) refl all one other (woven_by f rest)
woven_by f (from_other {x = x} {all = all} {one = one} {other = other} rest) = second f x (f x) refl all one other (woven_by f rest)
