-- What numbers and metrics expect comes first.
use Rattle.std.proofs.Common.{◌≡◌, ◌⊎◌, inl, inr, ℕ, ℤ, ◌+◌, ◌-◌, ◌*◌, ◌^◌, ◌<◌, ◌≤◌, pos, Bool, true, false, ◌==◌}
use Rattle.std.proofs.Common.{◌||◌, ◌&&◌, not, nat_le, List, [], ◌∷◌, ◌++◌, length, refl, sym, ap, subst, arith}
use Rattle.std.proofs.Common.{if◌then◌else◌, Ok, Err}
use Rattle.std.proofs.lemmas.Bool.{false≢true}
use Rattle.mql_ast.specs.Tokens.{is_digit, is_metric_byte, Rest, first_of, behind_first, head, behind, skip, minus}
use Rattle.mql_ast.specs.Tokens.{unit_seconds, longest}
use Rattle.mql_parse.specs.declared.faults.ParseKind.TheVariants.{NumberTooLarge}
use Rattle.mql_parse.specs.declared.faults.What.{What}
use Rattle.mql_parse.specs.declared.faults.What.TheVariants as what
use Rattle.mql_parse.specs.Outcomes.{Outcome, fault, unexpected_fault, map_outcome}
use Rattle.mql_parse.specs.TokenReading as reading
use Rattle.mql_parse.specs.Steadiness.{here, next, Reaches, Steady}
use Rattle.mql_parse.proofs.Steady.{steady_from, steady_ok, steady_map}
use Rattle.mql_parse.proofs.TokenSteady.{metric_from_steady, digits_steady, steady_head, number_steady, units_steady}
use Rattle.mql_parse.proofs.Firsts.{Spot, instead, Splits, splits, over_splits, splits_head, splits_behind}
use Rattle.mql_parse.proofs.Firsts.{splits_blank, Begun, Failed, failed_bind, ReadSame, MeetsOutcome, Meets, Before}
use Rattle.mql_parse.proofs.Firsts.{FirstOutcome, First, NoMore, beyond_meets, passed_far, meets_then, meets_ok}
use Rattle.mql_parse.proofs.Firsts.{meets_map, meets_of, by_place, if_same, first_if, first_bind, first_unexpected}
use Rattle.mql_parse.proofs.Firsts.{before_of, before_if, before_if_here, before_skip, before_behind}
use Rattle.mql_parse.proofs.Firsts.{before_behind_skip, before_part_behind, before_unexpected}
use Rattle.mql_parse.proofs.FirstBytes.{digit_begins}
use Rattle.mon_value.proofs.PlainLemmas.{equal_numbers}
use Rattle.mql_parse.proofs.ByteLemmas.{and_first}

-- readers that go byte by byte and keep a state
module _ {K A : Type 0} (x : Spot) (read : K → ℕ → List ℕ → Outcome A)
    (steady : (k : K) → Steady here here (λ s. read k s.at s.bytes))
    (base : (k : K) (at : ℕ) (after : List ℕ) → at ≡ x.at → MeetsOutcome x here NoMore (read k at after)
    (read k at (instead x)))
    (step : (k : K) (at b : ℕ) (bs cs : List ℕ) → Splits x (record { at = at; bytes = b ∷ bs })
    (record { at = at; bytes = b ∷ cs }) → Splits x (record { at = at + 1; bytes = bs })
    (record { at = at + 1; bytes = cs }) →
    ((k : K) → MeetsOutcome x here NoMore (read k (at + 1) bs) (read k (at + 1) cs)) →
    MeetsOutcome x here NoMore (read k at (b ∷ bs)) (read k at (b ∷ cs))) where
  bytes_meet : (k : K) (common after : List ℕ) (at : ℕ) → at + length common ≡ x.at →
      MeetsOutcome x here NoMore (read k at (common ++ after)) (read k at (common ++ instead x))
  bytes_meet k [] after at h = base k at after (omega (arith, h))
  bytes_meet k (c ∷ common) after at h =
      step k at c (common ++ after) (common ++ instead x) (splits x (c ∷ common) after at h)
      (splits x common after (at + 1) (omega (arith, h)))
      (λ l. bytes_meet l common after (at + 1) (omega (arith, h)))

  pub meets_bytes : (k : K) → Meets x here here NoMore (λ s. read k s.at s.bytes)
  meets_bytes k = record {
    steady = steady k;
    agrees = over_splits x (λ s t. MeetsOutcome x here NoMore (read k s.at s.bytes) (read k t.at t.bytes))
        (bytes_meet k);
  }

map_meets : {A B : Type 0} (x : Spot) (f : A → B) (o p : Outcome A) → MeetsOutcome x here NoMore o p →
    MeetsOutcome x here NoMore (map_outcome f o) (map_outcome f p)
map_meets x f (Ok y) p h = λ l. by_part (h l)
  where
    by_part : ReadSame x y.0 y.1 p ⊎ ((y.1.at ≡ x.at) × ⊥) →
        ReadSame x (f y.0) y.1 (map_outcome f p) ⊎ ((y.1.at ≡ x.at) × ⊥)
    by_part (inl c) = inl (c.0, (ap (map_outcome f) c.1.0, c.1.1))
    by_part (inr c) = absurd c.1
map_meets x f (Err g) p h = λ e w k. by_part w (h e w k)
  where
    by_part : (w : What) → Begun x w ⊎ Failed p → Begun x w ⊎ Failed (map_outcome f p)
    by_part w (inl b) = inl b
    by_part w (inr b) = inr (failed_bind p (λ y. Ok (f y.0, y.1)) b)

-- metrics
slash_meets : (x : Spot) (after : Bool) (at : ℕ) (bs cs : List ℕ) →
    Splits x (record { at = at; bytes = bs }) (record { at = at; bytes = cs }) →
    MeetsOutcome {A = List ℕ} x here NoMore (if after then Err (unexpected_fault what.Metric (record
    { at = at; bytes = bs })) else Ok ([], record { at = at; bytes = bs }))
    (if after then Err (unexpected_fault what.Metric (record { at = at; bytes = cs })) else Ok
    ([], record { at = at; bytes = cs }))
slash_meets x true at bs cs c = λ e w k. inr tt
slash_meets x false at bs cs c = λ l. inl (record { at = at; bytes = cs }, (refl, c))

metric_spot : (x : Spot) (after : Bool) (at : ℕ) (bs : List ℕ) → at ≡ x.at →
    MeetsOutcome x here NoMore (reading.metric_from after at bs) (reading.metric_from after at (instead x))
metric_spot x after at [] e = slash_meets x after at [] (instead x) (splits x [] [] at (omega (arith, e)))
metric_spot x after at (b ∷ bs) e =
    by_tests (is_metric_byte b) (b == 47 && not after)
  where
    further : (t : Bool) → Reaches here (at + 1) (reading.with_byte b (reading.metric_from t (at + 1) bs))
    further t = (steady_map here here (λ more. b ∷ more) (λ s. reading.metric_from t s.at s.bytes)
        (metric_from_steady t)).reaches (record { at = at + 1; bytes = bs })

    by_tests : (t u : Bool) → MeetsOutcome x here NoMore
        (if t then reading.with_byte b (reading.metric_from false (at + 1) bs) else
        (if u then reading.with_byte b (reading.metric_from true (at + 1) bs) else
        (if after then Err (unexpected_fault what.Metric (record { at = at; bytes = b ∷ bs }))
        else Ok ([], record { at = at; bytes = b ∷ bs })))) (reading.metric_from after at (instead x))
    by_tests true u = beyond_meets x here NoMore (at + 1) _ _ (further false) (omega (arith, e))
    by_tests false true = beyond_meets x here NoMore (at + 1) _ _ (further true) (omega (arith, e))
    by_tests false false =
        slash_meets x after at (b ∷ bs) (instead x) (splits x [] (b ∷ bs) at (omega (arith, e)))

pub meets_metric_from : (x : Spot) (after : Bool) → Meets x here here NoMore (λ s. reading.metric_from after s.at
    s.bytes)
meets_metric_from x = meets_bytes x reading.metric_from metric_from_steady (metric_spot x)
    (λ after at b bs cs c d ih. if_same x here NoMore (is_metric_byte b) (is_metric_byte b) _ _ _ _ refl
    (map_meets x (λ more. b ∷ more) _ _ (ih false))
    (if_same x here NoMore (b == 47 && not after) (b == 47 && not after) _ _ _ _ refl
    (map_meets x (λ more. b ∷ more) _ _ (ih true)) (slash_meets x after at (b ∷ bs) (b ∷ cs) c)))

-- digits
digits_spot : (x : Spot) (most value at : ℕ) (bs : List ℕ) → at ≡ x.at →
    MeetsOutcome x here NoMore (reading.digits most value at bs) (reading.digits most value at (instead x))
digits_spot x most value at [] e = λ l. inl
    (record { at = at; bytes = instead x }, (refl, splits x [] [] at (omega (arith, e))))
digits_spot x most value at (b ∷ bs) e = by_tests (is_digit b) (nat_le (value * 10 + (b - 48)) most)
  where
    by_tests : (t u : Bool) → MeetsOutcome x here NoMore
        (if t then (if u then reading.digits most (value * 10 + (b - 48)) (at + 1) bs
        else Err (fault NumberTooLarge (record { at = at; bytes = b ∷ bs })))
        else Ok (value, record { at = at; bytes = b ∷ bs })) (reading.digits most value at (instead x))
    by_tests true true = beyond_meets x here NoMore (at + 1) _ _
        ((digits_steady most (value * 10 + (b - 48))).reaches (record { at = at + 1; bytes = bs })) (omega (arith, e))
    by_tests true false = λ d w k. absurd (cc)
    by_tests false u = λ l. inl
        (record { at = at; bytes = instead x }, (refl, splits x [] (b ∷ bs) at (omega (arith, e))))

meets_digits : (x : Spot) (most value : ℕ) → Meets x here here NoMore (λ s. reading.digits most value s.at s.bytes)
meets_digits x most = meets_bytes x (reading.digits most) (digits_steady most)
    (λ value at bs e. digits_spot x most value at bs e)
    (λ value at b bs cs c d ih. if_same x here NoMore (is_digit b) (is_digit b) _ _ _ _ refl
    (if_same x here NoMore (nat_le (value * 10 + (b - 48)) most) (nat_le (value * 10 + (b - 48)) most) _ _
    (Err (fault NumberTooLarge (record { at = at; bytes = b ∷ bs })))
    (Err (fault NumberTooLarge (record { at = at; bytes = b ∷ cs }))) refl (ih (value * 10 + (b - 48)))
    (λ e w k. inr tt))
    (λ l. inl (record { at = at; bytes = b ∷ cs }, (refl, c))))

-- numbers
before_head : {A : Type 0} (x : Spot) (to : Rest → ℕ) (G : A → Type 0) (read : ℕ → Rest → Outcome A) →
    ((b : ℕ) → Before x here to G (read b)) → Before x here to G (λ s. read (head s) s)
before_head x to G read k = record {
  steady = steady_head to read (λ b. (k b).steady);
  agrees = λ s t c l. subst (λ b. MeetsOutcome x to G (read (head s) s) (read b t)) (sym (splits_head x s t c l))
      ((k (head s)).agrees s t c l);
}

abbrev begins_positive : ℕ → Bool
begins_positive b = is_digit b && not (b == 48)

pub first_positive : (x : Spot) (most : ℕ) → First x next here what.Number (reading.positive most)
unfolding reading.positive
first_positive x most =
    first_if x here what.Number begins_positive
    (λ s. reading.digits most (head (skip s) - 48) (behind (skip s)).at (behind (skip s)).bytes)
    (λ s. Err (unexpected_fault what.Number (skip s)))
    (λ s e h. passed_far x here what.Number begins_positive refl
    (λ r. reading.digits most (head (skip s) - 48) r.at r.bytes) (digits_steady most (head (skip s) - 48)) s e h)
    (λ h. digit_begins x what.Number refl (and_first (is_digit x.byte) (not (x.byte == 48)) h))
    (first_unexpected x here what.Number)

before_positive : (x : Spot) (most : ℕ) → Before x next here NoMore (reading.positive most)
unfolding reading.positive
before_positive x most =
    let digits_behind = λ (b : ℕ) (t : Rest). reading.digits most (b - 48) (behind t).at (behind t).bytes in
    before_skip x here NoMore (λ t. if begins_positive (head t) then digits_behind (head t) t else Err
    (unexpected_fault what.Number t))
    (before_if_here x here NoMore begins_positive (λ t. digits_behind (head t) t)
    (λ t. Err (unexpected_fault what.Number t))
    (before_head x here NoMore digits_behind
    (λ b. before_behind x here NoMore (λ t. reading.digits most (b - 48) t.at t.bytes) (meets_digits x most (b - 48))))
    (before_unexpected x here NoMore what.Number))

pub meets_positive : (x : Spot) (most : ℕ) → Meets x next here NoMore (reading.positive most)
meets_positive x most = meets_of x next here NoMore what.Number (reading.positive most) (first_positive x most)
    (before_positive x most)

first_number : (x : Spot) (most : ℕ) → First x next here what.Number (reading.number most)
unfolding reading.number
first_number x most =
    first_if x here what.Number (λ b. b == 48) (λ s. Ok (0, behind (skip s))) (reading.positive most)
    (λ s e h. passed_far {A = ℕ} x here what.Number (λ b. b == 48) refl (λ r. Ok (0, r)) (steady_ok here 0) s e h)
    (λ h. digit_begins x what.Number refl (ap is_digit (equal_numbers x.byte 48 h)))
    (first_positive x most)

before_number : (x : Spot) (most : ℕ) → Before x next here NoMore (reading.number most)
unfolding reading.number
before_number x most = before_if x here NoMore (λ b. b == 48) (λ s. Ok (0, behind (skip s))) (reading.positive most)
    (before_behind_skip x here NoMore (λ r. Ok (0, r)) (meets_ok x here NoMore 0)) (before_positive x most)

meets_number : (x : Spot) (most : ℕ) → Meets x next here NoMore (reading.number most)
meets_number x most = meets_of x next here NoMore what.Number (reading.number most) (first_number x most)
    (before_number x most)

mapped_number : {A : Type 0} (x : Spot) (f : ℕ → A) (most : ℕ) →
    Meets x next here NoMore (λ s. map_outcome f (reading.number most s))
mapped_number x f most = meets_map x next here NoMore NoMore f (reading.number most) (λ n h. h) (meets_number x most)

pub before_signed : (x : Spot) → Before x next here NoMore reading.signed_reading
unfolding reading.signed_reading
before_signed x = before_if x here NoMore (λ b. b == 45)
    (λ s. map_outcome minus (reading.number (2 ^ 63) (behind (skip s))))
    (λ s. map_outcome pos (reading.number (2 ^ 63 - 1) s))
    (before_part_behind x here NoMore (λ s. map_outcome minus (reading.number (2 ^ 63) s))
    (mapped_number x minus (2 ^ 63)))
    (before_of x next here NoMore (λ s. map_outcome pos (reading.number (2 ^ 63 - 1) s))
    (mapped_number x pos (2 ^ 63 - 1)))

-- a number that begins here
number_far : (x : Spot) (most : ℕ) (w : What) (s : Rest) → next s ≡ x.at → is_digit (head (skip s)) ≡ true →
    FirstOutcome x here w (reading.number most s)
unfolding reading.number reading.positive
number_far x most w s e h =
    by_tests (head (skip s) == 48) (is_digit (head (skip s))) h
  where
    far : {A : Type 0} (read : Rest → Outcome A) → Steady here here read → FirstOutcome x here w
        (read (behind (skip s)))
    far read k = passed_far x here w is_digit refl read k s e h

    by_tests : (t u : Bool) → u ≡ true → FirstOutcome x here w (if t then Ok (0, behind (skip s)) else
        (if u && not t then reading.digits most (head (skip s) - 48) (behind (skip s)).at (behind (skip s)).bytes
        else Err (unexpected_fault what.Number (skip s))))
    by_tests true u g = far {A = ℕ} (λ r. Ok (0, r)) (steady_ok here 0)
    by_tests false true g = far (λ r. reading.digits most (head (skip s) - 48) r.at r.bytes)
        (digits_steady most (head (skip s) - 48))
    by_tests false false g = absurd (false≢true g)

pub map_first : {A B : Type 0} (x : Spot) (to : Rest → ℕ) (w : What) (f : A → B) (o : Outcome A) → FirstOutcome x to w
    o →
    FirstOutcome x to w (map_outcome f o)
map_first x to w f (Ok y) h = h
map_first x to w f (Err g) h = h

pub signed_far : (x : Spot) (w : What) (s : Rest) → next s ≡ x.at →
    (head (skip s) == 45 || is_digit (head (skip s))) ≡ true → FirstOutcome x here w (reading.signed_reading s)
unfolding reading.signed_reading
signed_far x w s e h = by_test (head (skip s) == 45) refl h
  where
    by_test : (t : Bool) → (head (skip s) == 45) ≡ t → (t || is_digit (head (skip s))) ≡ true →
        FirstOutcome x here w (if t then map_outcome minus (reading.number (2 ^ 63) (behind (skip s))) else
        map_outcome pos (reading.number (2 ^ 63 - 1) s))
    by_test true g k = passed_far x here w (λ b. b == 45) refl
        (λ r. map_outcome minus (reading.number (2 ^ 63) r))
        (steady_from here (λ r. map_outcome minus (reading.number (2 ^ 63) r))
        (steady_map next here minus (reading.number (2 ^ 63)) (number_steady (2 ^ 63)))) s e g
    by_test false g k = map_first x here w pos (reading.number (2 ^ 63 - 1) s)
        (number_far x (2 ^ 63 - 1) w s e k)

-- units stand directly behind their number
abbrev units_by : ℕ → ℕ → Rest → Outcome ℤ
units_by n b r =
    if unit_seconds b == 0 then Err (unexpected_fault what.Unit r) else
    (if nat_le (n * unit_seconds b) longest then Ok (pos (n * unit_seconds b), behind r)
    else Err (fault NumberTooLarge r))

units_same : (x : Spot) (n b : ℕ) (s t : Rest) → Splits x s t → s.at < x.at →
    MeetsOutcome x here NoMore (units_by n b s) (units_by n b t)
units_same x n b s t c l = by_tests (unit_seconds b == 0) (nat_le (n * unit_seconds b) longest)
  where
    by_tests : (t' u : Bool) → MeetsOutcome x here NoMore
        (if t' then Err (unexpected_fault what.Unit s) else (if u then Ok (pos (n * unit_seconds b), behind s) else
        Err (fault NumberTooLarge s)))
        (if t' then Err (unexpected_fault what.Unit t) else (if u then Ok (pos (n * unit_seconds b), behind t) else
        Err (fault NumberTooLarge t)))
    by_tests true u = λ e w k. inr tt
    by_tests false true = λ e. inl (behind t, (refl, splits_behind x s t c l))
    by_tests false false = λ e w k. inr tt

units_spot : (x : Spot) (n : ℕ) (s t : Rest) → s.at ≡ x.at → MeetsOutcome x here NoMore (units_by n (head s) s)
    (units_by n 10 t)
units_spot x n s t e = by_tests (unit_seconds (head s) == 0) (nat_le (n * unit_seconds (head s)) longest) refl
  where
    of_bytes : (at : ℕ) (bs : List ℕ) → (unit_seconds (first_of bs) == 0) ≡ false → at + 1 ≤ (behind_first at bs).at
    of_bytes at [] g = absurd (false≢true (sym g))
    of_bytes at (b ∷ bs) g = omega arith

    by_tests : (t' u : Bool) → (unit_seconds (head s) == 0) ≡ t' → MeetsOutcome x here NoMore
        (if t' then Err (unexpected_fault what.Unit s)
        else (if u then Ok (pos (n * unit_seconds (head s)), behind s) else
        Err (fault NumberTooLarge s))) (Err (unexpected_fault what.Unit t))
    by_tests true u h = λ d w k. inr tt
    by_tests false true h = λ l. absurd (omega (arith, l, e, of_bytes s.at s.bytes h))
    by_tests false false h = λ d w k. inr tt

meets_units : (x : Spot) (n : ℕ) → Meets x here here NoMore (λ r. reading.units (n, r))
meets_units x n = record {
  steady = units_steady n;
  agrees = λ s t c. by_place s.at x.at
      (λ l. subst (λ b. MeetsOutcome x here NoMore (units_by n (head s) s) (units_by n b t))
      (sym (splits_head x s t c l)) (units_same x n (head s) s t c l))
      (λ e. subst (λ b. MeetsOutcome x here NoMore (units_by n (head s) s) (units_by n b t))
      (sym (splits_blank x s t c e)) (units_spot x n s t e))
      (λ l. beyond_meets x here NoMore s.at (reading.units (n, s)) (reading.units (n, t)) ((units_steady n).reaches s)
      l);
}

pub first_duration : (x : Spot) → First x next here what.Number reading.duration
unfolding reading.duration
first_duration x = first_bind x next here here what.Number (reading.positive longest) reading.units
    (first_positive x longest) units_steady

pub meets_duration : (x : Spot) → Meets x next here NoMore reading.duration
unfolding reading.duration
meets_duration x = meets_then x next here here NoMore (reading.positive longest) reading.units
    (meets_positive x longest) (meets_units x)
