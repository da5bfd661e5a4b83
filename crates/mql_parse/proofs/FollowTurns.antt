-- Turns behind a number, and readers that take them.
use Rattle.std.proofs.Common.{◌≡◌, ◌⊎◌, inl, inr, ℕ, zero, suc, ◌<◌, ◌≤◌, Bool, true, false, ◌==◌, List, [], ◌∷◌, ◌++◌}
use Rattle.std.proofs.Common.{length, refl, sym, ap, subst, arith, if◌then◌else◌, Ok, Err}
use Rattle.std.proofs.lemmas.Bool.{cases_lt, eqb-true}
use Rattle.mql_ast.specs.Tokens.{Rest, head, behind, skip}
use Rattle.mql_parse.specs.declared.faults.ParseKind.TheVariants.{NumberTooLarge}
use Rattle.mql_parse.specs.declared.faults.What.{What}
use Rattle.mql_parse.specs.Outcomes.{Outcome, unexpected_fault}
use Rattle.mql_parse.specs.Repeats.{Turn, Done, Again, Stuck, turn_outcome, goes_on, repetition, list_or_end, on_read}
use Rattle.mql_parse.specs.Repeats.{list_turn}
use Rattle.mql_parse.specs.Behind.{Behind}
use Rattle.mql_parse.specs.Soundness.{OfTurn}
use Rattle.mql_parse.specs.Steadiness.{here, next, Reaches, TurnReaches}
use Rattle.mql_parse.proofs.BehindLemmas.{behind_is_shorter}
use Rattle.mql_parse.proofs.Loops.{GoesBehind}
use Rattle.mql_parse.proofs.Sound.{repeated_turn}
use Rattle.mql_parse.proofs.Steady.{skip_on, behind_on, reaches_before}
use Rattle.mql_parse.proofs.TurnSteady.{turn_reaches_before}
use Rattle.mql_parse.proofs.Firsts.{Failed}
use Rattle.mql_parse.proofs.Follows.{Swap, counts, Pair, blind_sign, head_alike, skip_pair, behind_pair, Any, ReadToo}
use Rattle.mql_parse.proofs.Follows.{FollowsIn, Follows, beyond, where_failed, AlikeTests, next_tests}

abbrev pub FailedTurn : {A : Type 0} → Turn A → Type 0
FailedTurn (Done a r) = ⊥
FailedTurn (Again a r) = ⊥
FailedTurn (Stuck f) = Unit {0}

abbrev pub TurnFollowsIn : {A : Type 0} → Swap → (A → A → Type 0) → Turn A → Turn A → Type 0
TurnFollowsIn {A} x G (Done a r) v =
    next r ≤ x.at → FailedTurn v ⊎ ((b : A) × ((q : Rest) × ((v ≡ Done b q) × (Pair x r q × G a b))))
TurnFollowsIn {A} x G (Again a r) v =
    next r ≤ x.at → FailedTurn v ⊎ ((b : A) × ((q : Rest) × ((v ≡ Again b q) × (Pair x r q × G a b))))
TurnFollowsIn x G (Stuck f) v = f.at ≡ x.at → (f.kind ≡ NumberTooLarge) ⊎ FailedTurn v

pub record FollowsTurn {A : Type 0} (x : Swap) (from : Rest → ℕ) (G : A → A → Type 0) (turn other : Rest → Turn A) :
    Type 0 where
  pub reaches : (s : Rest) → TurnReaches next (from s) (turn s)
  pub follows : (s t : Rest) → Pair x s t → from s ≤ x.at → TurnFollowsIn x G (turn s) (other t)

pub turn_beyond : {A : Type 0} (x : Swap) (G : A → A → Type 0) (n : ℕ) (u v : Turn A) → TurnReaches next n u →
    x.at < n → TurnFollowsIn x G u v
turn_beyond x G n (Done a r) v h l = λ k. absurd (omega (arith, h, l, k))
turn_beyond x G n (Again a r) v h l = λ k. absurd (omega (arith, h, l, k))
turn_beyond x G n (Stuck f) v h l = λ e. absurd (omega (arith, h, l, e))

pub turn_failed : {A : Type 0} (x : Swap) (G : A → A → Type 0) (u v : Turn A) → FailedTurn v → TurnFollowsIn x G u v
turn_failed x G (Done a r) v h = λ l. inl h
turn_failed x G (Again a r) v h = λ l. inl h
turn_failed x G (Stuck f) v h = λ e. inr h

pub follows_done : {A : Type 0} (x : Swap) (G : A → A → Type 0) (a b : A) → G a b →
    FollowsTurn x next G (λ s. Done a s) (λ s. Done b s)
follows_done x G a b g =
    record { reaches = λ s. omega arith; follows = λ s t c l k. inr (b, (t, (refl, (c, g)))) }

pub follows_again : {A : Type 0} (x : Swap) (G : A → A → Type 0) (a b : A) → G a b →
    FollowsTurn x next G (λ s. Again a s) (λ s. Again b s)
follows_again x G a b g =
    record { reaches = λ s. omega arith; follows = λ s t c l k. inr (b, (t, (refl, (c, g)))) }

pub follows_stuck : {A : Type 0} (x : Swap) (G : A → A → Type 0) (w : What) →
    FollowsTurn x here G (λ s. Stuck (unexpected_fault w s)) (λ s. Stuck (unexpected_fault w s))
follows_stuck x G w = record { reaches = λ s. omega arith; follows = λ s t c l e. inr tt }

-- a turn that looks farther at once
pub turn_follows_from : {A : Type 0} (x : Swap) (G : A → A → Type 0) (turn other : Rest → Turn A) →
    FollowsTurn x next G turn other → FollowsTurn x here G turn other
turn_follows_from x G turn other k = record {
  reaches = λ s. turn_reaches_before next s.at (skip s).at (turn s) (skip_on s) (k.reaches s);
  follows = λ s t c l. either s t c (cases_lt x.at (skip s).at);
}
  where
    either : (s t : Rest) → Pair x s t → (x.at < (skip s).at) ⊎ ((skip s).at ≤ x.at) →
        TurnFollowsIn x G (turn s) (other t)
    either s t c (inl l) = turn_beyond x G (skip s).at (turn s) (other t) (k.reaches s) l
    either s t c (inr l) = k.follows s t c l

pub turn_follows_skip : {A : Type 0} (x : Swap) (G : A → A → Type 0) (turn other : Rest → Turn A) →
    FollowsTurn x here G turn other → FollowsTurn x next G (λ s. turn (skip s)) (λ s. other (skip s))
turn_follows_skip x G turn other k = record {
  reaches = λ s. k.reaches (skip s);
  follows = λ s t c l. k.follows (skip s) (skip t) (skip_pair x s t c l) l;
}

if_reaches : {A : Type 0} (n : ℕ) (t : Bool) (u v : Turn A) → TurnReaches next n u → TurnReaches next n v →
    TurnReaches next n (if t then u else v)
if_reaches n true u v h k = h
if_reaches n false u v h k = k

if_turns : {A : Type 0} (x : Swap) (G : A → A → Type 0) (t u : Bool) (v v' w w' : Turn A) → u ≡ t →
    (t ≡ true → TurnFollowsIn x G v v') → (t ≡ false → TurnFollowsIn x G w w') →
    TurnFollowsIn x G (if t then v else w) (if u then v' else w')
if_turns x G true u v v' w w' h f g = subst (λ b. TurnFollowsIn x G v (if b then v' else w')) (sym h) (f refl)
if_turns x G false u v v' w w' h f g = subst (λ b. TurnFollowsIn x G w (if b then v' else w')) (sym h) (g refl)

pub turn_follows_if : {A : Type 0} (x : Swap) (from : Rest → ℕ) (G : A → A → Type 0) (test test' : Rest → Bool)
    (turn turn' other other' : Rest → Turn A) → AlikeTests x from test test' → FollowsTurn x from G turn turn' →
    FollowsTurn x from G other other' →
    FollowsTurn x from G (λ s. if test s then turn s else other s) (λ s. if test' s then turn' s else other' s)
turn_follows_if x from G test test' turn turn' other other' h f g = record {
  reaches = λ s. if_reaches (from s) (test s) (turn s) (other s) (f.reaches s) (g.reaches s);
  follows = λ s t c l. if_turns x G (test s) (test' t) (turn s) (turn' t) (other s) (other' t) (h s t c l)
      (λ _. f.follows s t c l) (λ _. g.follows s t c l);
}

-- behind this byte, which stands here
byte_follows : {A : Type 0} (x : Swap) (b : ℕ) (G : A → A → Type 0) (turn other : Rest → Turn A) → counts b ≡ false →
    FollowsTurn x here G turn other → (s t : Rest) → Pair x s t → (head s == b) ≡ true →
    TurnFollowsIn x G (turn (behind s)) (other (behind t))
byte_follows x b G turn other n k s t c h = either (cases_lt x.at (behind s).at)
  where
    either : (x.at < (behind s).at) ⊎ ((behind s).at ≤ x.at) → TurnFollowsIn x G (turn (behind s)) (other (behind t))
    either (inl l) = turn_beyond x G (behind s).at (turn (behind s)) (other (behind t)) (k.reaches (behind s)) l
    either (inr l) = k.follows (behind s) (behind t)
        (behind_pair x s t c (subst (λ d. counts d ≡ false) (sym (eqb-true (head s) b h)) n) l) l

pub turn_taken : {A : Type 0} (x : Swap) (b : ℕ) (G : A → A → Type 0) (turn turn' other other' : Rest → Turn A) →
    counts b ≡ false → FollowsTurn x here G turn turn' → FollowsTurn x here G other other' →
    FollowsTurn x here G (λ s. if head s == b then turn (behind s) else other s)
    (λ s. if head s == b then turn' (behind s) else other' s)
turn_taken x b G turn turn' other other' n f g = record {
  reaches = λ s. if_reaches s.at (head s == b) (turn (behind s)) (other s)
      (turn_reaches_before next s.at (behind s).at (turn (behind s)) (behind_on s) (f.reaches (behind s)))
      (g.reaches s);
  follows = λ s t c l. if_turns x G (head s == b) (head t == b) (turn (behind s)) (turn' (behind t)) (other s)
      (other' t) (head_is s t c) (byte_follows x b G turn turn' n f s t c) (λ _. g.follows s t c l);
}
  where
    head_is : (s t : Rest) → Pair x s t → (head t == b) ≡ (head s == b)
    head_is s t c = head_alike x (λ d. d == b) (blind_sign b n) s t c

pub turn_next_taken : {A : Type 0} (x : Swap) (b : ℕ) (G : A → A → Type 0) (turn turn' other other' : Rest → Turn A) →
    counts b ≡ false → FollowsTurn x here G turn turn' → FollowsTurn x next G other other' →
    FollowsTurn x next G (λ s. if head (skip s) == b then turn (behind (skip s)) else other s)
    (λ s. if head (skip s) == b then turn' (behind (skip s)) else other' s)
turn_next_taken x b G turn turn' other other' n f g = record {
  reaches = λ s. if_reaches (skip s).at (head (skip s) == b) (turn (behind (skip s))) (other s)
      (turn_reaches_before next (skip s).at (behind (skip s)).at (turn (behind (skip s))) (behind_on (skip s))
      (f.reaches (behind (skip s)))) (g.reaches s);
  follows = λ s t c l. if_turns x G (head (skip s) == b) (head (skip t) == b) (turn (behind (skip s)))
      (turn' (behind (skip t))) (other s) (other' t) (next_tests x (λ d. d == b) (blind_sign b n) s t c l)
      (byte_follows x b G turn turn' n f (skip s) (skip t) (skip_pair x s t c l)) (λ _. g.follows s t c l);
}

-- a turn that goes on with what was read
goes_on_reaches : {A B : Type 0} (f : A → B) (n : ℕ) (o : Outcome A) → Reaches next n o →
    TurnReaches next n (goes_on f o)
goes_on_reaches f n (Ok y) h = h
goes_on_reaches f n (Err e) h = h

goes_on_failed : {A B : Type 0} (f : A → B) (p : Outcome A) → Failed p → FailedTurn (goes_on f p)
goes_on_failed f (Ok y) h = absurd h
goes_on_failed f (Err e) h = tt

goes_on_in : {A B : Type 0} (x : Swap) (G : B → B → Type 0) (f g : A → B) → ((a b : A) → G (f a) (g b)) →
    (o p : Outcome A) → FollowsIn x next Any o p → TurnFollowsIn x G (goes_on f o) (goes_on g p)
goes_on_in {A = A} {B = B} x G f g k (Ok (a, r)) p h = λ l. by_part (h l)
  where
    by_part : Failed p ⊎ ReadToo x Any a r p →
        FailedTurn (goes_on g p) ⊎ ((b : B) × ((q : Rest) × ((goes_on g p ≡ Again b q) × (Pair x r q × G (f a) b))))
    by_part (inl b) = inl (goes_on_failed g p b)
    by_part (inr z) = inr (g z.0, (z.1.0, (ap (goes_on g) z.1.1.0, (z.1.1.1.0, k a z.0))))
goes_on_in x G f g k (Err e) p h = λ m. by_part (h m)
  where
    by_part : (e.kind ≡ NumberTooLarge) ⊎ Failed p → (e.kind ≡ NumberTooLarge) ⊎ FailedTurn (goes_on g p)
    by_part (inl b) = inl b
    by_part (inr b) = inr (goes_on_failed g p b)

pub follows_goes_on : {A B : Type 0} (x : Swap) (from : Rest → ℕ) (G : B → B → Type 0) (f g : A → B)
    (read other : Rest → Outcome A) → ((a b : A) → G (f a) (g b)) → Follows x from next Any read other →
    FollowsTurn x from G (λ s. goes_on f (read s)) (λ s. goes_on g (other s))
follows_goes_on x from G f g read other h k = record {
  reaches = λ s. goes_on_reaches f (from s) (read s) (k.reaches s);
  follows = λ s t c l. goes_on_in x G f g h (read s) (other t) (k.follows s t c l);
}

-- a turn behind what was read
module _ {A B : Type 0} (x : Swap) (G : A → A → Type 0) (H : B → B → Type 0) (f f' : A × Rest → Turn B)
    (itself : (a : A) → G a a)
    (g : (a b : A) → G a b → FollowsTurn x next H (λ r. f (a, r)) (λ r. f' (b, r))) where
  on_read_reaches : (n : ℕ) (o : Outcome A) → Reaches next n o → TurnReaches next n (on_read f o)
  on_read_reaches n (Ok (a, r)) h = turn_reaches_before next n (next r) (f (a, r)) h ((g a a (itself a)).reaches r)
  on_read_reaches n (Err e) h = h

  on_read_failed : (p : Outcome A) → Failed p → FailedTurn (on_read f' p)
  on_read_failed (Ok y) h = absurd h
  on_read_failed (Err e) h = tt

  on_read_in : (o p : Outcome A) → FollowsIn x next G o p → TurnFollowsIn x H (on_read f o) (on_read f' p)
  on_read_in (Ok (a, r)) p h = either (cases_lt x.at (next r))
    where
      by_part : next r ≤ x.at → Failed p ⊎ ReadToo x G a r p → TurnFollowsIn x H (f (a, r)) (on_read f' p)
      by_part l (inl b) = turn_failed x H (f (a, r)) (on_read f' p) (on_read_failed p b)
      by_part l (inr z) =
          subst (λ q. TurnFollowsIn x H (f (a, r)) (on_read f' q)) (sym z.1.1.0)
          ((g a z.0 z.1.1.1.1).follows r z.1.0 z.1.1.1.0 l)

      either : (x.at < next r) ⊎ (next r ≤ x.at) → TurnFollowsIn x H (f (a, r)) (on_read f' p)
      either (inl l) = turn_beyond x H (next r) (f (a, r)) (on_read f' p) ((g a a (itself a)).reaches r) l
      either (inr l) = by_part l (h l)
  on_read_in (Err e) p h = λ m. by_part (h m)
    where
      by_part : (e.kind ≡ NumberTooLarge) ⊎ Failed p → (e.kind ≡ NumberTooLarge) ⊎ FailedTurn (on_read f' p)
      by_part (inl b) = inl b
      by_part (inr b) = inr (on_read_failed p b)

pub follows_on_read : {A B : Type 0} (x : Swap) (from : Rest → ℕ) (G : A → A → Type 0) (H : B → B → Type 0)
    (f f' : A × Rest → Turn B) (read other : Rest → Outcome A) → ((a : A) → G a a) →
    Follows x from next G read other →
    ((a b : A) → G a b → FollowsTurn x next H (λ r. f (a, r)) (λ r. f' (b, r))) →
    FollowsTurn x from H (λ s. on_read f (read s)) (λ s. on_read f' (other s))
follows_on_read x from G H f f' read other itself k g = record {
  reaches = λ s. on_read_reaches x G H f f' itself g (from s) (read s) (k.reaches s);
  follows = λ s t c l. on_read_in x G H f f' itself g (read s) (other t) (k.follows s t c l);
}

-- a part of a list
pub list_or_end_follows : {A : Type 0} (x : Swap) (close : ℕ) (w : What) → counts close ≡ false → (one two : List A)
    (a b : A) → FollowsTurn x next Any (λ r. list_or_end close w one (a, r)) (λ r. list_or_end close w two (b, r))
list_or_end_follows x close w n one two a b =
    let all = one ++ a ∷ [] in
    let both = two ++ b ∷ [] in
    turn_next_taken x 44 Any (λ r. Again all r) (λ r. Again both r)
    (λ r. if head (skip r) == close then Done all (behind (skip r)) else Stuck (unexpected_fault w (skip r)))
    (λ r. if head (skip r) == close then Done both (behind (skip r)) else Stuck (unexpected_fault w (skip r))) refl
    (turn_follows_from x Any (λ r. Again all r) (λ r. Again both r) (follows_again x Any all both tt))
    (turn_next_taken x close Any (λ r. Done all r) (λ r. Done both r) (λ r. Stuck (unexpected_fault w (skip r)))
    (λ r. Stuck (unexpected_fault w (skip r))) n
    (turn_follows_from x Any (λ r. Done all r) (λ r. Done both r) (follows_done x Any all both tt))
    (turn_follows_skip x Any (λ r. Stuck (unexpected_fault w r)) (λ r. Stuck (unexpected_fault w r))
    (follows_stuck x Any w)))

pub list_turn_follows : {A : Type 0} (x : Swap) (close : ℕ) (w : What) (part : Rest → Outcome A) →
    counts close ≡ false → Follows x next next Any part part → (one two : List A) →
    FollowsTurn x next Any (list_turn close w part one) (list_turn close w part two)
list_turn_follows x close w part n k one two =
    follows_on_read x next Any Any (list_or_end close w one) (list_or_end close w two) part part (λ a. tt) k
    (λ a b g. list_or_end_follows x close w n one two a b)

-- turns up to one that ends
module _ {A : Type 0} (x : Swap) (G : A → A → Type 0) (turn : A → Rest → Turn A) (behind : GoesBehind turn)
    (itself : (a : A) → G a a)
    (k : (a b : A) → G a b → FollowsTurn x next G (turn a) (turn b)) where
  abbrev rest_of_turns : A → Rest → Outcome A
  rest_of_turns a s = repetition turn a s

  turn_outcome_reaches : (s : Rest) (n : ℕ) (u : Turn A) → OfTurn u (λ b r. Unit {0}) (λ b r. Behind s r) →
      TurnReaches next n u → ((b : A) (r : Rest) → length r.bytes < length s.bytes →
      Reaches next (next r) (repetition turn b r)) → Reaches next n (turn_outcome u rest_of_turns)
  turn_outcome_reaches s n (Done b r) h g ih = g
  turn_outcome_reaches s n (Again b r) h g ih =
      reaches_before next n (next r) (repetition turn b r) g (ih b r (behind_is_shorter s r h))
  turn_outcome_reaches s n (Stuck f) h g ih = g

  reaches_within : (most : ℕ) (a : A) (s : Rest) → length s.bytes < most → Reaches next (next s) (repetition turn a s)
  reaches_within zero a s l = absurd (omega (arith, l))
  reaches_within (suc most) a s l = subst (λ o. Reaches next (next s) o) (sym (repeated_turn turn behind a s))
      (turn_outcome_reaches s (next s) (turn a s) (behind a s) ((k a a (itself a)).reaches s)
      (λ b r h. reaches_within most b r (omega (arith, h, l))))

  repetition_reaches : (a : A) (s : Rest) → Reaches next (next s) (repetition turn a s)
  repetition_reaches a s = reaches_within (suc (length s.bytes)) a s (omega arith)

  outcome_failed : (v : Turn A) → FailedTurn v → Failed (turn_outcome v rest_of_turns)
  outcome_failed (Done b r) h = absurd h
  outcome_failed (Again b r) h = absurd h
  outcome_failed (Stuck f) h = tt

  turn_outcome_follows : (s : Rest) (u v : Turn A) → OfTurn u (λ b r. Unit {0}) (λ b r. Behind s r) →
      TurnFollowsIn x G u v →
      ((b c : A) (r q : Rest) → length r.bytes < length s.bytes → G b c → Pair x r q → next r ≤ x.at →
      FollowsIn x next G (repetition turn b r) (repetition turn c q)) →
      FollowsIn x next G (turn_outcome u rest_of_turns) (turn_outcome v rest_of_turns)
  turn_outcome_follows s (Done b r) v h g ih = λ l. by_part (g l)
    where
      by_part : FailedTurn v ⊎ ((c : A) × ((q : Rest) × ((v ≡ Done c q) × (Pair x r q × G b c)))) →
          Failed (turn_outcome v rest_of_turns) ⊎ ReadToo x G b r (turn_outcome v rest_of_turns)
      by_part (inl f) = inl (outcome_failed v f)
      by_part (inr z) = inr (z.0, (z.1.0, (ap (λ w. turn_outcome w rest_of_turns) z.1.1.0, z.1.1.1)))
  turn_outcome_follows s (Again b r) v h g ih = either (cases_lt x.at (next r))
    where
      by_part : next r ≤ x.at → FailedTurn v ⊎ ((c : A) × ((q : Rest) × ((v ≡ Again c q) × (Pair x r q × G b c)))) →
          FollowsIn x next G (repetition turn b r) (turn_outcome v rest_of_turns)
      by_part l (inl f) =
          where_failed x next G (repetition turn b r) (turn_outcome v rest_of_turns) (outcome_failed v f)
      by_part l (inr z) =
          subst (λ w. FollowsIn x next G (repetition turn b r) (turn_outcome w rest_of_turns)) (sym z.1.1.0)
          (ih b z.0 r z.1.0 (behind_is_shorter s r h) z.1.1.1.1 z.1.1.1.0 l)

      either : (x.at < next r) ⊎ (next r ≤ x.at) →
          FollowsIn x next G (repetition turn b r) (turn_outcome v rest_of_turns)
      either (inl l) =
          beyond x next G (next r) (repetition turn b r) (turn_outcome v rest_of_turns) (repetition_reaches b r) l
      either (inr l) = by_part l (g l)
  turn_outcome_follows s (Stuck f) v h g ih = λ e. by_part (g e)
    where
      by_part : (f.kind ≡ NumberTooLarge) ⊎ FailedTurn v →
          (f.kind ≡ NumberTooLarge) ⊎ Failed (turn_outcome v rest_of_turns)
      by_part (inl b) = inl b
      by_part (inr b) = inr (outcome_failed v b)

  turns_follow : (most : ℕ) (a b : A) (s t : Rest) → length s.bytes < most → G a b → Pair x s t → next s ≤ x.at →
      FollowsIn x next G (repetition turn a s) (repetition turn b t)
  turns_follow zero a b s t l g c n = absurd (omega (arith, l))
  turns_follow (suc most) a b s t l g c n =
      subst (λ o. FollowsIn x next G o (repetition turn b t)) (sym (repeated_turn turn behind a s))
      (subst (λ o. FollowsIn x next G (turn_outcome (turn a s) rest_of_turns) o)
      (sym (repeated_turn turn behind b t))
      (turn_outcome_follows s (turn a s) (turn b t) (behind a s) ((k a b g).follows s t c n)
      (λ b' c' r q h g' c'' m. turns_follow most b' c' r q (omega (arith, h, l)) g' c'' m)))

  pub repetition_follows : (a b : A) → G a b →
      Follows x next next G (λ s. repetition turn a s) (λ s. repetition turn b s)
  repetition_follows a b g = record {
    reaches = λ s. repetition_reaches a s;
    follows = λ s t c l. turns_follow (suc (length s.bytes)) a b s t (omega arith) g c l;
  }
