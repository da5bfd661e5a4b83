-- Reading with more levels is the same reading, but where fewer were too few: there it goes on.
use Rattle.std.proofs.Common.{◌≡◌, ℕ, zero, suc, ◌+◌, ◌<◌, ◌≤◌, Bool, true, false, ◌==◌, List, [], ◌∷◌, length, refl}
use Rattle.std.proofs.Common.{sym, ap, ◌∙◌, subst, arith, if◌then◌else◌, Result, Ok, Err}
use Rattle.std.proofs.lemmas.Bool.{false≢true}
use Rattle.mon_value.specs.Answers.{◌>>=◌}
use Rattle.mql_ast.specs.Tokens.{Rest, first_of, behind_first, head, behind}
use Rattle.mql_parse.specs.declared.faults.ParseFault.{ParseFault}
use Rattle.mql_parse.specs.declared.faults.ParseKind.{ParseKind}
use Rattle.mql_parse.specs.declared.faults.ParseKind.TheVariants.{BadToken, BadPattern, Expected, NumberTooLarge}
use Rattle.mql_parse.specs.declared.faults.ParseKind.TheVariants.{TooDeep, TooLong}
use Rattle.mql_parse.specs.declared.faults.What.{What}
use Rattle.mql_parse.specs.Outcomes.{Outcome, fault, sign, map_outcome, up_to_sign}
use Rattle.mql_parse.specs.Repeats.{Turn, Done, Again, Stuck, turn_outcome, repetition, goes_on, on_read}
use Rattle.mql_parse.specs.Behind.{Behind}
use Rattle.mql_parse.specs.Soundness.{OfTurn}
use Rattle.mql_parse.specs.Steadiness.{here, next, Reaches, Steady, TurnReaches, SteadyTurn}
use Rattle.mql_parse.proofs.BehindLemmas.{behind_is_shorter}
use Rattle.mql_parse.proofs.Loops.{GoesBehind}
use Rattle.mql_parse.proofs.Shallow.{Shallow, ok_shallow, bind_shallow, sign_shallow, ShallowTurn}
use Rattle.mql_parse.proofs.Sound.{repeated_turn}
use Rattle.mql_parse.proofs.Steady.{skip_on, reaches_before, steady_ok, steady_behind_pass, sign_next}
use Rattle.mql_parse.proofs.TurnSteady.{steady_repetition, turn_reaches_before}

-- the one claim of a fault of the depth, the other of any other
abbrev pub ByKind : ParseKind → Type 0 → Type 0 → Type 0
ByKind TooDeep deep other = deep
ByKind (Expected w) deep other = other
ByKind NumberTooLarge deep other = other
ByKind BadToken deep other = other
ByKind BadPattern deep other = other
ByKind TooLong deep other = other

pub by_kind : {P Q R S : Type 0} (kind : ParseKind) → (P → R) → (Q → S) → ByKind kind P Q → ByKind kind R S
by_kind TooDeep f g h = f h
by_kind (Expected w) f g h = g h
by_kind NumberTooLarge f g h = g h
by_kind BadToken f g h = g h
by_kind BadPattern f g h = g h
by_kind TooLong f g h = g h

pub by_other : {Q : Type 0} (P : Type 0) (kind : ParseKind) → (kind ≡ TooDeep → ⊥) → Q → ByKind kind P Q
by_other P TooDeep f h = absurd (f refl)
by_other P (Expected w) f h = h
by_other P NumberTooLarge f h = h
by_other P BadToken f h = h
by_other P BadPattern f h = h
by_other P TooLong f h = h

pub other_kind : {Q : Type 0} (P : Type 0) (kind : ParseKind) → (kind ≡ TooDeep → ⊥) → ByKind kind P Q → Q
other_kind P TooDeep f h = absurd (f refl)
other_kind P (Expected w) f h = h
other_kind P NumberTooLarge f h = h
other_kind P BadToken f h = h
other_kind P BadPattern f h = h
other_kind P TooLong f h = h

-- the same was read, or the same fault found, or reading goes on behind the byte of a fault of the depth
abbrev pub DeepensIn : {A : Type 0} → (Rest → ℕ) → Outcome A → Outcome A → Type 0
DeepensIn to (Ok x) p = p ≡ Ok x
DeepensIn to (Err f) p = ByKind f.kind (Reaches to (f.at + 1) p) (p ≡ Err f)

pub record Deepens {A : Type 0} (to : Rest → ℕ) (o p : Outcome A) : Type 0 where
  pub way : DeepensIn to o p

pub deepens_ok : {A : Type 0} (to : Rest → ℕ) (x : A × Rest) → Deepens to (Ok x) (Ok x)
deepens_ok to x = record { way = refl }

-- a reader with no regard to the levels
pub deepens_same : {A : Type 0} (to : Rest → ℕ) (o : Outcome A) → Shallow o → Deepens to o o
deepens_same {A = A} to (Ok x) h = record { way = refl }
deepens_same {A = A} to (Err f) h =
    record { way = by_other (Reaches {A = A} to (f.at + 1) (Err f)) f.kind h.other refl }

pub deepens_if : {A : Type 0} (to : Rest → ℕ) (t : Bool) (o p o' p' : Outcome A) → (t ≡ true → Deepens to o p) →
    (t ≡ false → Deepens to o' p') → Deepens to (if t then o else o') (if t then p else p')
deepens_if to true o p o' p' f g = f refl
deepens_if to false o p o' p' f g = g refl

bind_reaches : {A B : Type 0} (mid to : Rest → ℕ) (n : ℕ) (p : Outcome A) (on : A × Rest → Outcome B) →
    ((a : A) → Steady mid to (λ r. on (a, r))) → Reaches mid n p → Reaches to n (p >>= on)
bind_reaches mid to n (Ok (a, r)) on g h = reaches_before to n (mid r) (on (a, r)) h ((g a).reaches r)
bind_reaches mid to n (Err f) on g h = h

pub deepens_bind : {A B : Type 0} (mid to : Rest → ℕ) (o p : Outcome A) (on on' : A × Rest → Outcome B) →
    Deepens mid o p → ((a : A) → Steady mid to (λ r. on' (a, r))) → ((x : A × Rest) → Deepens to (on x) (on' x)) →
    Deepens to (o >>= on) (p >>= on')
deepens_bind mid to (Ok x) p on on' h k g =
    subst (λ z. Deepens to (on x) (z >>= on')) (sym h.way) (g x)
deepens_bind mid to (Err f) p on on' h k g = record {
  way = by_kind f.kind (bind_reaches mid to (f.at + 1) p on' k) (ap (λ z. z >>= on')) h.way;
}

-- what is read behind a part with no regard to the levels
pub deepens_behind : {X B : Type 0} (to : Rest → ℕ) (o : Result X ParseFault) (on on' : X → Outcome B) → Shallow o →
    ((x : X) → Deepens to (on x) (on' x)) → Deepens to (o >>= on) (o >>= on')
deepens_behind {B = B} to (Ok x) on on' h g = g x
deepens_behind {B = B} to (Err f) on on' h g =
    record { way = by_other (Reaches {A = B} to (f.at + 1) (Err f)) f.kind h.other refl }

map_reaches : {A B : Type 0} (to : Rest → ℕ) (n : ℕ) (f : A → B) (p : Outcome A) → Reaches to n p →
    Reaches to n (map_outcome f p)
map_reaches to n f (Ok x) h = h
map_reaches to n f (Err e) h = h

pub deepens_map : {A B : Type 0} (to : Rest → ℕ) (f : A → B) (o p : Outcome A) → Deepens to o p →
    Deepens to (map_outcome f o) (map_outcome f p)
deepens_map to f (Ok x) p h = record { way = ap (map_outcome f) h.way }
deepens_map to f (Err e) p h =
    record { way = by_kind e.kind (map_reaches to (e.at + 1) f p) (ap (map_outcome f)) h.way }

wider_reaches : {A : Type 0} (n : ℕ) (p : Outcome A) → Reaches here n p → Reaches next n p
wider_reaches n (Ok x) h = omega (arith, h, skip_on x.1)
wider_reaches n (Err e) h = h

pub deepens_to : {A : Type 0} (o p : Outcome A) → Deepens here o p → Deepens next o p
deepens_to (Ok x) p h = record { way = h.way }
deepens_to (Err e) p h = record { way = by_kind e.kind (wider_reaches (e.at + 1) p) (λ k. k) h.way }

pub deepens_up_to : {A : Type 0} (b : ℕ) (w : What) (o p : Outcome A) → Deepens next o p →
    Deepens next (up_to_sign b w o) (up_to_sign b w p)
deepens_up_to {A = A} b w o p h =
    let on : A × Rest → Outcome A = λ x. sign b w x.1 >>= λ r. Ok (x.0, r) in
    deepens_bind next next o p on on h
    (λ a. steady_behind_pass next next next (sign b w) (λ r. Ok (a, r)) (sign_next b w) (steady_ok next a))
    (λ x. deepens_same next (on x) (bind_shallow (sign b w x.1) (λ r. Ok (x.0, r)) (sign_shallow b w x.1)
    (λ r. ok_shallow (x.0, r))))

first_passed : (b at : ℕ) (bs : List ℕ) → (first_of bs == b) ≡ true → (0 == b) ≡ false →
    (behind_first at bs).at ≡ at + 1
first_passed b at [] h k = absurd (false≢true (sym k ∙ h))
first_passed b at (c ∷ bs) h k = refl

-- behind a byte that stands here
byte_passed : (b : ℕ) (s : Rest) → (head s == b) ≡ true → (0 == b) ≡ false → (behind s).at ≡ s.at + 1
byte_passed b s h k = first_passed b s.at s.bytes h k

-- where fewer levels were too few
pub deepens_fault : {A : Type 0} (to : Rest → ℕ) (b : ℕ) (s : Rest) (read : Rest → Outcome A) → Steady here to read →
    (0 == b) ≡ false → (head s == b) ≡ true → Deepens to (Err (fault TooDeep s)) (read (behind s))
deepens_fault to b s read k n h = record {
  way = reaches_before to (s.at + 1) (behind s).at (read (behind s)) (omega (arith, byte_passed b s h n))
      (k.reaches (behind s));
}

-- turns
abbrev pub TurnDeepensIn : {A : Type 0} → (Rest → ℕ) → Turn A → Turn A → Type 0
TurnDeepensIn to (Done a r) v = v ≡ Done a r
TurnDeepensIn to (Again a r) v = v ≡ Again a r
TurnDeepensIn to (Stuck f) v = ByKind f.kind (TurnReaches to (f.at + 1) v) (v ≡ Stuck f)

pub record TurnDeepens {A : Type 0} (to : Rest → ℕ) (u v : Turn A) : Type 0 where
  pub way : TurnDeepensIn to u v

pub turn_deepens_same : {A : Type 0} (to : Rest → ℕ) (u : Turn A) → ShallowTurn u → TurnDeepens to u u
turn_deepens_same {A = A} to (Done a r) h = record { way = refl }
turn_deepens_same {A = A} to (Again a r) h = record { way = refl }
turn_deepens_same {A = A} to (Stuck f) h =
    record { way = by_other (TurnReaches {A = A} to (f.at + 1) (Stuck f)) f.kind h.other refl }

pub turn_deepens_if : {A : Type 0} (to : Rest → ℕ) (t : Bool) (u v u' v' : Turn A) → TurnDeepens to u v →
    TurnDeepens to u' v' → TurnDeepens to (if t then u else u') (if t then v else v')
turn_deepens_if to true u v u' v' f g = f
turn_deepens_if to false u v u' v' f g = g

goes_on_reaches : {A B : Type 0} (to : Rest → ℕ) (n : ℕ) (f : A → B) (p : Outcome A) → Reaches next n p →
    TurnReaches to n (goes_on f p)
goes_on_reaches to n f (Ok x) h = h
goes_on_reaches to n f (Err e) h = h

pub goes_on_deepens : {A B : Type 0} (to : Rest → ℕ) (f : A → B) (o p : Outcome A) → Deepens next o p →
    TurnDeepens to (goes_on f o) (goes_on f p)
goes_on_deepens to f (Ok x) p h = record { way = ap (goes_on f) h.way }
goes_on_deepens to f (Err e) p h =
    record { way = by_kind e.kind (goes_on_reaches to (e.at + 1) f p) (ap (goes_on f)) h.way }

on_read_reaches : {A B : Type 0} (mid to : Rest → ℕ) (n : ℕ) (f : A × Rest → Turn B) (p : Outcome A) →
    ((a : A) → SteadyTurn mid to (λ r. f (a, r))) → Reaches mid n p → TurnReaches to n (on_read f p)
on_read_reaches mid to n f (Ok (a, r)) g h = turn_reaches_before to n (mid r) (f (a, r)) h ((g a).reaches r)
on_read_reaches mid to n f (Err e) g h = h

-- a part, and what becomes of it with no regard to the levels
pub on_read_deepens : {A B : Type 0} (mid to : Rest → ℕ) (f : A × Rest → Turn B) (o p : Outcome A) →
    Deepens mid o p → ((a : A) → SteadyTurn mid to (λ r. f (a, r))) → ((x : A × Rest) → ShallowTurn (f x)) →
    TurnDeepens to (on_read f o) (on_read f p)
on_read_deepens mid to f (Ok x) p h k g =
    subst (λ z. TurnDeepens to (f x) (on_read f z)) (sym h.way) (turn_deepens_same to (f x) (g x))
on_read_deepens mid to f (Err e) p h k g =
    record { way = by_kind e.kind (on_read_reaches mid to (e.at + 1) f p k) (ap (on_read f)) h.way }

-- turns up to one that ends
module _ {A : Type 0} (to : Rest → ℕ) (turn turn' : A → Rest → Turn A) (behind : GoesBehind turn)
    (behind' : GoesBehind turn') (steady : (a : A) → SteadyTurn next to (turn' a))
    (deepens : (a : A) (s : Rest) → TurnDeepens to (turn a s) (turn' a s)) where
  abbrev fewer : A → Rest → Outcome A
  fewer a s = repetition turn a s

  abbrev more : A → Rest → Outcome A
  more a s = repetition turn' a s

  turn_outcome_reaches : (n : ℕ) (v : Turn A) → TurnReaches to n v → Reaches to n (turn_outcome v more)
  turn_outcome_reaches n (Done b r) h = h
  turn_outcome_reaches n (Again b r) h =
      reaches_before to n (next r) (repetition turn' b r) h ((steady_repetition to turn' behind' steady b).reaches r)
  turn_outcome_reaches n (Stuck f) h = h

  turn_outcome_deepens : (s : Rest) (u v : Turn A) → OfTurn u (λ b r. Unit {0}) (λ b r. Behind s r) →
      TurnDeepens to u v →
      ((b : A) (r : Rest) → length r.bytes < length s.bytes → Deepens to (repetition turn b r) (repetition turn' b r)) →
      Deepens to (turn_outcome u fewer) (turn_outcome v more)
  turn_outcome_deepens s (Done b r) v h k ih = record { way = ap (λ z. turn_outcome z more) k.way }
  turn_outcome_deepens s (Again b r) v h k ih =
      subst (λ z. Deepens to (repetition turn b r) (turn_outcome z more)) (sym k.way)
      (ih b r (behind_is_shorter s r h))
  turn_outcome_deepens s (Stuck f) v h k ih = record {
    way = by_kind f.kind (turn_outcome_reaches (f.at + 1) v) (ap (λ z. turn_outcome z more)) k.way;
  }

  repetition_by : (a : A) (s : Rest) → Deepens to (turn_outcome (turn a s) fewer) (turn_outcome (turn' a s) more) →
      Deepens to (repetition turn a s) (repetition turn' a s)
  repetition_by a s h =
      subst (λ o. Deepens to o (repetition turn' a s)) (sym (repeated_turn turn behind a s))
      (subst (λ o. Deepens to (turn_outcome (turn a s) fewer) o) (sym (repeated_turn turn' behind' a s)) h)

  repetition_within : (most : ℕ) (a : A) (s : Rest) → length s.bytes ≤ most →
      Deepens to (repetition turn a s) (repetition turn' a s)
  repetition_within zero a s l =
      repetition_by a s (turn_outcome_deepens s (turn a s) (turn' a s) (behind a s) (deepens a s)
      (λ b r h. absurd (omega (arith, h, l))))
  repetition_within (suc most) a s l =
      repetition_by a s (turn_outcome_deepens s (turn a s) (turn' a s) (behind a s) (deepens a s)
      (λ b r h. repetition_within most b r (omega (arith, h, l))))

  pub deepens_repetition : (a : A) (s : Rest) → Deepens to (repetition turn a s) (repetition turn' a s)
  deepens_repetition a s = repetition_within (length s.bytes) a s (omega arith)
