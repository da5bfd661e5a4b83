-- Where reading is at fault behind a number, the text with 1 in its place is refused too, unless the number is too
-- large.
use Rattle.std.proofs.Common.{◌≡◌, ◌⊎◌, inl, inr, ℕ, ◌<◌, ◌≤◌, Bool, true, false, ◌==◌, refl, sym, subst, arith}
use Rattle.std.proofs.Common.{if◌then◌else◌, Result, Ok, Err}
use Rattle.std.proofs.lemmas.Bool.{cases_lt, eqb-true}
use Rattle.mon_value.specs.Answers.{◌>>=◌}
use Rattle.mql_ast.specs.Tokens.{Rest, head, behind, skip}
use Rattle.mql_parse.specs.declared.faults.ParseFault.{ParseFault}
use Rattle.mql_parse.specs.declared.faults.ParseKind.{ParseKind}
use Rattle.mql_parse.specs.declared.faults.ParseKind.TheVariants.{NumberTooLarge}
use Rattle.mql_parse.specs.declared.faults.What.{What}
use Rattle.mql_parse.specs.Outcomes.{Outcome, unexpected_fault, fault, sign, map_outcome, up_to_sign}
use Rattle.mql_parse.specs.Steadiness.{here, next, Reaches, unit_read}
pub use Rattle.mql_parse.proofs.Swaps.{Swap, counts, Pair, Blind, blind_sign, head_alike, skip_pair, behind_pair}
use Rattle.mql_parse.proofs.Steady.{skip_on, behind_on, reaches_before, if_reaches, pass_bind, unit_if, pass_pass}
use Rattle.mql_parse.proofs.Firsts.{Failed, failed_bind}

-- values of which nothing is claimed
abbrev pub Any : {A : Type 0} → A → A → Type 0
Any a b = Unit {0}

-- such a value was read in the second text too, up to what faces this
abbrev pub ReadToo : {A : Type 0} → Swap → (A → A → Type 0) → A → Rest → Outcome A → Type 0
ReadToo {A} x G a r p = (b : A) × ((q : Rest) × ((p ≡ Ok (b, q)) × (Pair x r q × G a b)))

abbrev pub FollowsIn : {A : Type 0} → Swap → (Rest → ℕ) → (A → A → Type 0) → Outcome A → Outcome A → Type 0
FollowsIn x to G (Ok y) p = to y.1 ≤ x.at → Failed p ⊎ ReadToo x G y.0 y.1 p
FollowsIn x to G (Err f) p = f.at ≡ x.at → (f.kind ≡ NumberTooLarge) ⊎ Failed p

-- reading the first text, and the second
pub record Follows {A : Type 0} (x : Swap) (from to : Rest → ℕ) (G : A → A → Type 0) (read other : Rest → Outcome A) :
    Type 0 where
  pub reaches : (s : Rest) → Reaches to (from s) (read s)
  pub follows : (s t : Rest) → Pair x s t → from s ≤ x.at → FollowsIn x to G (read s) (other t)

abbrev pub FollowsPass : Swap → (Rest → ℕ) → (Rest → ℕ) → (Rest → Result Rest ParseFault) →
    (Rest → Result Rest ParseFault) → Type 0
FollowsPass x from to pass other = Follows x from to Any (λ s. unit_read (pass s)) (λ s. unit_read (other s))

-- beyond the byte nothing is claimed
pub beyond : {A : Type 0} (x : Swap) (to : Rest → ℕ) (G : A → A → Type 0) (n : ℕ) (o p : Outcome A) → Reaches to n o →
    x.at < n → FollowsIn x to G o p
beyond x to G n (Ok y) p h l = λ k. absurd (omega (arith, h, l, k))
beyond x to G n (Err f) p h l = λ e. absurd (omega (arith, h, l, e))

pub where_failed : {A : Type 0} (x : Swap) (to : Rest → ℕ) (G : A → A → Type 0) (o p : Outcome A) → Failed p →
    FollowsIn x to G o p
where_failed x to G (Ok y) p h = λ l. inl h
where_failed x to G (Err f) p h = λ e. inr h

pub follows_ok : {A : Type 0} (x : Swap) (place : Rest → ℕ) (G : A → A → Type 0) (a b : A) → G a b →
    Follows x place place G (λ s. Ok (a, s)) (λ s. Ok (b, s))
follows_ok x place G a b g = record {
  reaches = λ s. omega arith;
  follows = λ s t c l k. inr (b, (t, (refl, (c, g))));
}

pub ok_any : {A : Type 0} (x : Swap) (place : Rest → ℕ) (a b : A) →
    Follows x place place Any (λ s. Ok (a, s)) (λ s. Ok (b, s))
ok_any x place a b = follows_ok x place Any a b tt

pub follows_fault : {A : Type 0} (x : Swap) (to : Rest → ℕ) (G : A → A → Type 0) (kind : ParseKind) →
    Follows x here to G (λ s. Err (fault kind s)) (λ s. Err (fault kind s))
follows_fault x to G kind = record { reaches = λ s. omega arith; follows = λ s t c l e. inr tt }

pub follows_unexpected : {A : Type 0} (x : Swap) (to : Rest → ℕ) (G : A → A → Type 0) (w v : What) →
    Follows x here to G (λ s. Err (unexpected_fault w s)) (λ s. Err (unexpected_fault v s))
follows_unexpected x to G w v = record { reaches = λ s. omega arith; follows = λ s t c l e. inr tt }

-- readers that are the same
pub follows_by : {A : Type 0} (x : Swap) (from to : Rest → ℕ) (G : A → A → Type 0)
    (read as_read other as_other : Rest → Outcome A) → ((s : Rest) → read s ≡ as_read s) →
    ((s : Rest) → other s ≡ as_other s) → Follows x from to G as_read as_other → Follows x from to G read other
follows_by x from to G read as_read other as_other h g k = record {
  reaches = λ s. subst (λ o. Reaches to (from s) o) (sym (h s)) (k.reaches s);
  follows = λ s t c l. subst (λ o. FollowsIn x to G o (other t)) (sym (h s))
      (subst (λ o. FollowsIn x to G (as_read s) o) (sym (g t)) (k.follows s t c l));
}

-- a reader that looks farther at once
pub follows_from : {A : Type 0} (x : Swap) (to : Rest → ℕ) (G : A → A → Type 0) (read other : Rest → Outcome A) →
    Follows x next to G read other → Follows x here to G read other
follows_from x to G read other k = record {
  reaches = λ s. reaches_before to s.at (skip s).at (read s) (skip_on s) (k.reaches s);
  follows = λ s t c l. either s t c (cases_lt x.at (skip s).at);
}
  where
    either : (s t : Rest) → Pair x s t → (x.at < (skip s).at) ⊎ ((skip s).at ≤ x.at) →
        FollowsIn x to G (read s) (other t)
    either s t c (inl l) = beyond x to G (skip s).at (read s) (other t) (k.reaches s) l
    either s t c (inr l) = k.follows s t c l

wider_reaches : {A : Type 0} (n : ℕ) (o : Outcome A) → Reaches here n o → Reaches next n o
wider_reaches n (Ok y) h = omega (arith, h, skip_on y.1)
wider_reaches n (Err f) h = h

wider : {A : Type 0} (x : Swap) (G : A → A → Type 0) (o p : Outcome A) → FollowsIn x here G o p →
    FollowsIn x next G o p
wider x G (Ok y) p h = λ l. h (omega (arith, l, skip_on y.1))
wider x G (Err f) p h = h

-- a reader that looks less far than it might
pub follows_to : {A : Type 0} (x : Swap) (from : Rest → ℕ) (G : A → A → Type 0) (read other : Rest → Outcome A) →
    Follows x from here G read other → Follows x from next G read other
follows_to x from G read other k = record {
  reaches = λ s. wider_reaches (from s) (read s) (k.reaches s);
  follows = λ s t c l. wider x G (read s) (other t) (k.follows s t c l);
}

-- one reader behind another
module _ {A B : Type 0} (x : Swap) (mid to : Rest → ℕ) (G : A → A → Type 0) (H : B → B → Type 0)
    (on on' : A × Rest → Outcome B) (itself : (a : A) → G a a)
    (g : (a b : A) → G a b → Follows x mid to H (λ r. on (a, r)) (λ r. on' (b, r))) where
  bind_reaches : (n : ℕ) (o : Outcome A) → Reaches mid n o → Reaches to n (o >>= on)
  bind_reaches n (Ok (a, r)) h = reaches_before to n (mid r) (on (a, r)) h ((g a a (itself a)).reaches r)
  bind_reaches n (Err f) h = h

  bind_follows : (o p : Outcome A) → FollowsIn x mid G o p → FollowsIn x to H (o >>= on) (p >>= on')
  bind_follows (Ok (a, r)) p h = either (cases_lt x.at (mid r))
    where
      by_part : mid r ≤ x.at → Failed p ⊎ ReadToo x G a r p → FollowsIn x to H (on (a, r)) (p >>= on')
      by_part l (inl b) = where_failed x to H (on (a, r)) (p >>= on') (failed_bind p on' b)
      by_part l (inr z) =
          subst (λ q. FollowsIn x to H (on (a, r)) (q >>= on')) (sym z.1.1.0)
          ((g a z.0 z.1.1.1.1).follows r z.1.0 z.1.1.1.0 l)

      either : (x.at < mid r) ⊎ (mid r ≤ x.at) → FollowsIn x to H (on (a, r)) (p >>= on')
      either (inl l) = beyond x to H (mid r) (on (a, r)) (p >>= on') ((g a a (itself a)).reaches r) l
      either (inr l) = by_part l (h l)
  bind_follows (Err f) p h = λ e. by_part (h e)
    where
      by_part : (f.kind ≡ NumberTooLarge) ⊎ Failed p → (f.kind ≡ NumberTooLarge) ⊎ Failed (p >>= on')
      by_part (inl k) = inl k
      by_part (inr b) = inr (failed_bind p on' b)

pub follows_bind : {A B : Type 0} (x : Swap) (from mid to : Rest → ℕ) (G : A → A → Type 0) (H : B → B → Type 0)
    (read other : Rest → Outcome A) (on on' : A × Rest → Outcome B) → ((a : A) → G a a) →
    Follows x from mid G read other →
    ((a b : A) → G a b → Follows x mid to H (λ r. on (a, r)) (λ r. on' (b, r))) →
    Follows x from to H (λ s. read s >>= on) (λ s. other s >>= on')
follows_bind x from mid to G H read other on on' itself f g = record {
  reaches = λ s. bind_reaches x mid to G H on on' itself g (from s) (read s) (f.reaches s);
  follows = λ s t c l. bind_follows x mid to G H on on' itself g (read s) (other t) (f.follows s t c l);
}

pub follows_then : {A B : Type 0} (x : Swap) (from mid to : Rest → ℕ) (H : B → B → Type 0)
    (read other : Rest → Outcome A) (on on' : A × Rest → Outcome B) → Follows x from mid Any read other →
    ((a b : A) → Follows x mid to H (λ r. on (a, r)) (λ r. on' (b, r))) →
    Follows x from to H (λ s. read s >>= on) (λ s. other s >>= on')
follows_then x from mid to H read other on on' f g =
    follows_bind x from mid to Any H read other on on' (λ a. tt) f (λ a b k. g a b)

pub follows_map_by : {A B : Type 0} (x : Swap) (from to : Rest → ℕ) (G : A → A → Type 0) (H : B → B → Type 0)
    (f g : A → B)
    (read other : Rest → Outcome A) → ((a : A) → G a a) → ((a b : A) → G a b → H (f a) (g b)) →
    Follows x from to G read other → Follows x from to H (λ s. map_outcome f (read s)) (λ s. map_outcome g (other s))
follows_map_by x from to G H f g read other itself h k =
    follows_bind x from to to G H read other (λ y. Ok (f y.0, y.1)) (λ y. Ok (g y.0, y.1)) itself k
    (λ a b e. follows_ok x to H (f a) (g b) (h a b e))

pub follows_map : {A B : Type 0} (x : Swap) (from to : Rest → ℕ) (f g : A → B) (read other : Rest → Outcome A) →
    Follows x from to Any read other → Follows x from to Any (λ s. map_outcome f (read s))
    (λ s. map_outcome g (other s))
follows_map x from to f g read other k =
    follows_then x from to to Any read other (λ y. Ok (f y.0, y.1)) (λ y. Ok (g y.0, y.1)) k
    (λ a b. ok_any x to (f a) (g b))

-- a value of which less is claimed
pub follows_any : {A : Type 0} (x : Swap) (from to : Rest → ℕ) (G : A → A → Type 0) (read other : Rest → Outcome A) →
    Follows x from to G read other → Follows x from to Any read other
follows_any {A = A} x from to G read other k =
    record { reaches = k.reaches; follows = λ s t c l. forget (read s) (other t) (k.follows s t c l) }
  where
    by_part : (a : A) (r : Rest) (p : Outcome A) → Failed p ⊎ ReadToo x G a r p → Failed p ⊎ ReadToo x Any a r p
    by_part a r p (inl b) = inl b
    by_part a r p (inr z) = inr (z.0, (z.1.0, (z.1.1.0, (z.1.1.1.0, tt))))

    forget : (o p : Outcome A) → FollowsIn x to G o p → FollowsIn x to Any o p
    forget (Ok y) p h = λ l. by_part y.0 y.1 p (h l)
    forget (Err f) p h = h

pub follows_behind_pass : {B : Type 0} (x : Swap) (from mid to : Rest → ℕ) (H : B → B → Type 0)
    (pass other : Rest → Result Rest ParseFault) (on on' : Rest → Outcome B) → FollowsPass x from mid pass other →
    Follows x mid to H on on' → Follows x from to H (λ s. pass s >>= on) (λ s. other s >>= on')
follows_behind_pass x from mid to H pass other on on' f g =
    follows_by x from to H (λ s. pass s >>= on) (λ s. unit_read (pass s) >>= λ y. on y.1) (λ s. other s >>= on')
    (λ s. unit_read (other s) >>= λ y. on' y.1) (λ s. pass_bind (pass s) on) (λ s. pass_bind (other s) on')
    (follows_then x from mid to H (λ s. unit_read (pass s)) (λ s. unit_read (other s)) (λ y. on y.1) (λ y. on' y.1) f
    (λ a b. g))

pub follows_passes : (x : Swap) (from mid to : Rest → ℕ) (pass on : Rest → Result Rest ParseFault) →
    FollowsPass x from mid pass pass → FollowsPass x mid to on on →
    FollowsPass x from to (λ s. pass s >>= on) (λ s. pass s >>= on)
follows_passes x from mid to pass on f g =
    let both = λ (s : Rest). unit_read (pass s) >>= λ y. unit_read (on y.1) in
    follows_by x from to Any (λ s. unit_read (pass s >>= on)) both (λ s. unit_read (pass s >>= on)) both
    (λ s. pass_pass (pass s) on) (λ s. pass_pass (pass s) on)
    (follows_then x from mid to Any (λ s. unit_read (pass s)) (λ s. unit_read (pass s)) (λ y. unit_read (on y.1))
    (λ y. unit_read (on y.1)) f (λ a b. g))

-- choices
pub if_follows : {A : Type 0} (x : Swap) (to : Rest → ℕ) (G : A → A → Type 0) (t u : Bool) (o o' p p' : Outcome A) →
    u ≡ t → (t ≡ true → FollowsIn x to G o o') → (t ≡ false → FollowsIn x to G p p') →
    FollowsIn x to G (if t then o else p) (if u then o' else p')
if_follows x to G true u o o' p p' h f g = subst (λ b. FollowsIn x to G o (if b then o' else p')) (sym h) (f refl)
if_follows x to G false u o o' p p' h f g = subst (λ b. FollowsIn x to G p (if b then o' else p')) (sym h) (g refl)

abbrev pub AlikeTests : Swap → (Rest → ℕ) → (Rest → Bool) → (Rest → Bool) → Type 0
AlikeTests x from test other = (s t : Rest) → Pair x s t → from s ≤ x.at → other t ≡ test s

pub follows_if : {A : Type 0} (x : Swap) (from to : Rest → ℕ) (G : A → A → Type 0) (test test' : Rest → Bool)
    (read read' other other' : Rest → Outcome A) → AlikeTests x from test test' → Follows x from to G read read' →
    Follows x from to G other other' →
    Follows x from to G (λ s. if test s then read s else other s) (λ s. if test' s then read' s else other' s)
follows_if x from to G test test' read read' other other' h f g = record {
  reaches = λ s. if_reaches to (from s) (test s) (read s) (other s) (f.reaches s) (g.reaches s);
  follows = λ s t c l. if_follows x to G (test s) (test' t) (read s) (read' t) (other s) (other' t) (h s t c l)
      (λ _. f.follows s t c l) (λ _. g.follows s t c l);
}

pub head_tests : (x : Swap) (test : ℕ → Bool) → Blind test → AlikeTests x here (λ s. test (head s)) (λ s. test (head s))
head_tests x test blind s t c l = head_alike x test blind s t c

pub next_tests : (x : Swap) (test : ℕ → Bool) → Blind test →
    AlikeTests x next (λ s. test (head (skip s))) (λ s. test (head (skip s)))
next_tests x test blind s t c l = head_alike x test blind (skip s) (skip t) (skip_pair x s t c l)

-- what is read behind blanks
pub follows_skip : {A : Type 0} (x : Swap) (to : Rest → ℕ) (G : A → A → Type 0) (read other : Rest → Outcome A) →
    Follows x here to G read other → Follows x next to G (λ s. read (skip s)) (λ s. other (skip s))
follows_skip x to G read other k = record {
  reaches = λ s. k.reaches (skip s);
  follows = λ s t c l. k.follows (skip s) (skip t) (skip_pair x s t c l) l;
}

-- what is read where this byte stands
pub record Taken {A : Type 0} (x : Swap) (b : ℕ) (to : Rest → ℕ) (G : A → A → Type 0) (read other : Rest → Outcome A) :
    Type 0 where
  pub reaches : (s : Rest) → Reaches to s.at (read s)
  pub follows : (s t : Rest) → Pair x s t → s.at ≤ x.at → (head s == b) ≡ true → FollowsIn x to G (read s) (other t)

pub taken : {A : Type 0} (x : Swap) (b : ℕ) (to : Rest → ℕ) (G : A → A → Type 0) (read other : Rest → Outcome A) →
    Follows x here to G read other → Taken x b to G read other
taken x b to G read other k = record { reaches = k.reaches; follows = λ s t c l h. k.follows s t c l }

pub behind_follows : {A : Type 0} (x : Swap) (to : Rest → ℕ) (G : A → A → Type 0) (read other : Rest → Outcome A) →
    Follows x here to G read other → (s t : Rest) → Pair x s t → counts (head s) ≡ false →
    FollowsIn x to G (read (behind s)) (other (behind t))
behind_follows x to G read other k s t c n = either (cases_lt x.at (behind s).at)
  where
    either : (x.at < (behind s).at) ⊎ ((behind s).at ≤ x.at) → FollowsIn x to G (read (behind s)) (other (behind t))
    either (inl l) = beyond x to G (behind s).at (read (behind s)) (other (behind t)) (k.reaches (behind s)) l
    either (inr l) = k.follows (behind s) (behind t) (behind_pair x s t c n l) l

pub behind_taken : {A : Type 0} (x : Swap) (b : ℕ) (to : Rest → ℕ) (G : A → A → Type 0) (read other : Rest → Outcome A)
    →
    counts b ≡ false → Follows x here to G read other →
    Taken x b to G (λ s. read (behind s)) (λ s. other (behind s))
behind_taken x b to G read other n k = record {
  reaches = λ s. reaches_before to s.at (behind s).at (read (behind s)) (behind_on s) (k.reaches (behind s));
  follows = λ s t c l h. behind_follows x to G read other k s t c
      (subst (λ d. counts d ≡ false) (sym (eqb-true (head s) b h)) n);
}

pub part_taken : {A : Type 0} (x : Swap) (b : ℕ) (to : Rest → ℕ) (G : A → A → Type 0) (read other : Rest → Outcome A) →
    counts b ≡ false → Follows x next to G read other →
    Taken x b to G (λ s. read (behind s)) (λ s. other (behind s))
part_taken x b to G read other n k = behind_taken x b to G read other n (follows_from x to G read other k)

pub follows_taken : {A : Type 0} (x : Swap) (b : ℕ) (to : Rest → ℕ) (G : A → A → Type 0)
    (read read' other other' : Rest → Outcome A) → counts b ≡ false → Taken x b to G read read' →
    Follows x here to G other other' →
    Follows x here to G (λ s. if head s == b then read s else other s) (λ s. if head s == b then read' s else other' s)
follows_taken x b to G read read' other other' n f g = record {
  reaches = λ s. if_reaches to s.at (head s == b) (read s) (other s) (f.reaches s) (g.reaches s);
  follows = λ s t c l. if_follows x to G (head s == b) (head t == b) (read s) (read' t) (other s) (other' t)
      (head_alike x (λ d. d == b) (blind_sign b n) s t c) (f.follows s t c l) (λ _. g.follows s t c l);
}

pub next_taken : {A : Type 0} (x : Swap) (b : ℕ) (to : Rest → ℕ) (G : A → A → Type 0)
    (read read' other other' : Rest → Outcome A) → counts b ≡ false → Taken x b to G read read' →
    Follows x next to G other other' →
    Follows x next to G (λ s. if head (skip s) == b then read (skip s) else other s)
    (λ s. if head (skip s) == b then read' (skip s) else other' s)
next_taken x b to G read read' other other' n f g = record {
  reaches = λ s. if_reaches to (skip s).at (head (skip s) == b) (read (skip s)) (other s) (f.reaches (skip s))
      (g.reaches s);
  follows = λ s t c l. if_follows x to G (head (skip s) == b) (head (skip t) == b) (read (skip s)) (read' (skip t))
      (other s) (other' t) (next_tests x (λ d. d == b) (blind_sign b n) s t c l)
      (f.follows (skip s) (skip t) (skip_pair x s t c l) l) (λ _. g.follows s t c l);
}

-- what speaks of the place where it stands
pub follows_here : {A : Type 0} (x : Swap) (to : Rest → ℕ) (G : A → A → Type 0) (read other : ℕ → Rest → Outcome A) →
    ((m n : ℕ) → Follows x here to G (read m) (other n)) →
    Follows x here to G (λ s. read s.at s) (λ s. other s.at s)
follows_here x to G read other k =
    record { reaches = λ s. (k s.at s.at).reaches s; follows = λ s t. (k s.at t.at).follows s t }

pub follows_next : {A : Type 0} (x : Swap) (to : Rest → ℕ) (G : A → A → Type 0) (read other : ℕ → Rest → Outcome A) →
    ((m n : ℕ) → Follows x next to G (read m) (other n)) →
    Follows x next to G (λ s. read (skip s).at s) (λ s. other (skip s).at s)
follows_next x to G read other k = record {
  reaches = λ s. (k (skip s).at (skip s).at).reaches s;
  follows = λ s t. (k (skip s).at (skip t).at).follows s t;
}

-- a sign, and a part up to a sign
pub sign_here : (x : Swap) (b : ℕ) (w v : What) → counts b ≡ false → FollowsPass x next here (sign b w) (sign b v)
sign_here x b w v n =
    follows_by x next here Any (λ s. unit_read (sign b w s))
    (λ s. if head (skip s) == b then Ok (tt, behind (skip s)) else Err (unexpected_fault w (skip s)))
    (λ s. unit_read (sign b v s))
    (λ s. if head (skip s) == b then Ok (tt, behind (skip s)) else Err (unexpected_fault v (skip s)))
    (λ s. unit_if (head (skip s) == b) (Ok (behind (skip s))) (Err (unexpected_fault w (skip s))))
    (λ s. unit_if (head (skip s) == b) (Ok (behind (skip s))) (Err (unexpected_fault v (skip s))))
    (next_taken x b here Any (λ s. Ok (tt, behind s)) (λ s. Ok (tt, behind s)) (λ s. Err (unexpected_fault w (skip s)))
    (λ s. Err (unexpected_fault v (skip s))) n
    (behind_taken x b here Any (λ s. Ok (tt, s)) (λ s. Ok (tt, s)) n (ok_any x here tt tt))
    (follows_skip x here Any (λ s. Err (unexpected_fault w s)) (λ s. Err (unexpected_fault v s))
    (follows_unexpected x here Any w v)))

pub sign_follows : (x : Swap) (b : ℕ) (w v : What) → counts b ≡ false → FollowsPass x next next (sign b w) (sign b v)
sign_follows x b w v n =
    follows_to x next Any (λ s. unit_read (sign b w s)) (λ s. unit_read (sign b v s)) (sign_here x b w v n)

pub up_to_follows : {A : Type 0} (x : Swap) (b : ℕ) (w : What) (read other : Rest → Outcome A) → counts b ≡ false →
    Follows x next next Any read other
    → Follows x next next Any (λ s. up_to_sign b w (read s)) (λ s. up_to_sign b w (other s))
up_to_follows x b w read other n k =
    follows_then x next next next Any read other (λ y. sign b w y.1 >>= λ r. Ok (y.0, r))
    (λ y. sign b w y.1 >>= λ r. Ok (y.0, r)) k
    (λ a c. follows_behind_pass x next next next Any (sign b w) (sign b w) (λ r. Ok (a, r)) (λ r. Ok (c, r))
    (sign_follows x b w w n) (ok_any x next a c))
