-- Lists of which one begins with another, and the longer one of two.
use Rattle.std.proofs.Common.{◌≡◌, ℕ, ◌+◌, ◌<◌, ◌≤◌, List, [], ◌∷◌, ◌++◌, length, take, drop, refl}
use Rattle.std.proofs.Common.{sym, ap, subst, ◌∙◌, append_assoc, length-append, arith}
use Rattle.std.specs.Prelude.{nat_lt, Contains}
use Rattle.std.specs.List.{flat_map}
use Rattle.std.proofs.lemmas.Bool.{cond_both, ltb-true, ltb-false}
use Rattle.std.proofs.lemmas.List.{take_at, take-append-drop, take_all, take-take, take-append-le}
use Rattle.std.proofs.lemmas.List.Concat.{flat_map-append}
use Rattle.std.proofs.lemmas.List.Elements.{Contains-append_left}
use Rattle.mon_topo.specs.HeldHistories.{BeginsWith}
use Rattle.mon_value.specs.Histories.{longer}

module _ {X : Type 0} where
  -- what follows the front
  abbrev pub behind : List X → List X → List X
  behind all front = drop (length front) all

  pub begins_with : (front more : List X) → BeginsWith (front ++ more) front
  begins_with front more = take_at front more (length front) refl

  pub begins_from : (all front more : List X) → all ≡ front ++ more → BeginsWith all front
  begins_from all front more e = subst (λ (xs : List X). BeginsWith xs front) (sym e) (begins_with front more)

  pub begins_to : (all front : List X) → BeginsWith all front → all ≡ front ++ behind all front
  begins_to all front h = sym (take-append-drop (length front) all) ∙ ap (λ xs. xs ++ behind all front) h

  pub begins_itself : (xs : List X) → BeginsWith xs xs
  begins_itself xs = take_all (length xs) xs (omega arith)

  pub begins_same : (xs ys : List X) → xs ≡ ys → BeginsWith xs ys
  begins_same xs ys e = subst (λ (zs : List X). BeginsWith zs ys) (sym e) (begins_itself ys)

  pub begins_through : (a b c : List X) → BeginsWith b a → BeginsWith c b → BeginsWith c a
  begins_through a b c h k =
      begins_from c a (behind b a ++ behind c b)
      (begins_to c b k ∙ ap (λ xs. xs ++ behind c b) (begins_to b a h) ∙ append_assoc a (behind b a) (behind c b))

  pub begins_length : (all front : List X) → BeginsWith all front → length front ≤ length all
  begins_length all front h =
      let e : length all ≡ length front + length (behind all front) = ap length (begins_to all front h)
      ∙ length-append front (behind all front) in
      omega arith

  -- of two fronts of one list the longer one begins with the other
  pub begins_between : (all a b : List X) → BeginsWith all a → BeginsWith all b → length a ≤ length b → BeginsWith b a
  begins_between all a b h k short =
      ap (take (length a)) (sym k) ∙ take-take (length a) (length b) all short ∙ h

  pub begins_whole : (all front : List X) → BeginsWith all front → length all ≤ length front → front ≡ all
  begins_whole all front h long = sym h ∙ take_all (length front) all long

  pub contains_on : (all front : List X) (x : X) → BeginsWith all front → Contains front x → Contains all x
  contains_on all front x h there =
      subst (λ (xs : List X). Contains xs x) (sym (begins_to all front h))
      (Contains-append_left front (behind all front) x there)

  pub take_on : (all front : List X) (n : ℕ) → BeginsWith all front → n ≤ length front → take n all ≡ take n front
  take_on all front n h short = ap (take n) (begins_to all front h) ∙ take-append-le n front (behind all front) short

  pub begins_push : (xs : List X) (x : X) → BeginsWith (xs ++ x ∷ []) xs
  begins_push xs x = begins_with xs (x ∷ [])

  -- ---- the longer one

  pub longer_by : (a b : List X) (P : List X → Type 0) → P a → P b → P (longer a b)
  longer_by a b P p q = cond_both (nat_lt (length a) (length b)) b a P (λ e. q) (λ e. p)

  module _ (all a b : List X) (h : BeginsWith all a) (k : BeginsWith all b) where
    pub longer_first : BeginsWith (longer a b) a
    longer_first =
        cond_both (nat_lt (length a) (length b)) b a (λ xs. BeginsWith xs a)
        (λ e. begins_between all a b h k
        (let less : length a < length b = ltb-true (length a) (length b) e in omega arith))
        (λ e. begins_itself a)

    pub longer_second : BeginsWith (longer a b) b
    longer_second =
        cond_both (nat_lt (length a) (length b)) b a (λ xs. BeginsWith xs b)
        (λ e. begins_itself b)
        (λ e. begins_between all b a k h (ltb-false (length a) (length b) e))

    pub longer_within : BeginsWith all (longer a b)
    longer_within = longer_by a b (BeginsWith all) h k

  -- with the whole list the longer one is the whole
  pub longer_whole : (all a b : List X) → BeginsWith all a → b ≡ all → longer a b ≡ all
  longer_whole all a b h e =
      let k : BeginsWith all b = begins_same all b (sym e) in
      begins_whole all (longer a b) (longer_within all a b h k)
      (let l : length b ≤ length (longer a b) = begins_length (longer a b) b (longer_second all a b h k) in
      let m : length b ≡ length all = ap length e in
      omega arith)

  -- so it is where the first one is the whole
  pub longer_all : (all a b : List X) → a ≡ all → BeginsWith all b → longer a b ≡ all
  longer_all all a b e k =
      let h : BeginsWith all a = begins_same all a (sym e) in
      begins_whole all (longer a b) (longer_within all a b h k)
      (let l : length a ≤ length (longer a b) = begins_length (longer a b) a (longer_first all a b h k) in
      let m : length a ≡ length all = ap length e in
      omega arith)

-- ---- lists of lists

pub begins-flat_map : {X Y : Type 0} (f : X → List Y) (all front : List X) → BeginsWith all front
    → BeginsWith (flat_map f all) (flat_map f front)
begins-flat_map f all front h =
    begins_from (flat_map f all) (flat_map f front) (flat_map f (behind all front))
    (ap (flat_map f) (begins_to all front h) ∙ flat_map-append f front (behind all front))
