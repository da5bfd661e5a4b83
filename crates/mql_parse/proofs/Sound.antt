-- What holds of what is read, part by part.
use Rattle.std.proofs.Common.{◌≡◌, ℕ, ◌+◌, ◌-◌, ◌<◌, Bool, true, false, ◌==◌, List, [], ◌∷◌, ◌++◌, length, refl, sym}
use Rattle.std.proofs.Common.{ap, ◌∙◌, subst, arith, if◌then◌else◌, length-append, Option, Some, None, Result, Ok, Err}
use Rattle.std.specs.Result.{IfOk, result_ok}
use Rattle.mon_value.specs.Answers.{◌>>=◌}
use Rattle.mql_ast.specs.Tokens.{Rest, head, behind, skip, sign_at, past, name_at, metric_at, positive_at, signed_at}
use Rattle.mql_ast.specs.Tokens.{duration_at}
use Rattle.mql_parse.specs.declared.faults.What.{What}
use Rattle.mql_parse.specs.Outcomes.{Outcome, exact, sign, map_outcome}
use Rattle.mql_parse.specs.Repeats.{Turn, Done, Again, Stuck, turn_outcome, turns, repetition, goes_on}
use Rattle.mql_parse.specs.TokenReading as reading
use Rattle.mql_parse.specs.Behind.{Behind}
use Rattle.mql_parse.specs.Soundness.{OfTurn}
use Rattle.mql_parse.proofs.BehindLemmas.{behind_behind}
use Rattle.mql_parse.proofs.Links.{sign_links, past_links, name_links, metric_links, positive_links, signed_links}
use Rattle.mql_parse.proofs.Links.{duration_links}

pub if_sound : {A F : Type 0} (t : Bool) (x y : Result A F) (P : A → Type 0) → (t ≡ true → IfOk x P) →
    (t ≡ false → IfOk y P) → IfOk (if t then x else y) P
if_sound true x y P f g = f refl
if_sound false x y P f g = g refl

pub bind_sound : {A B F : Type 0} (o : Result A F) (f : A → Result B F) (P : A → Type 0) (Q : B → Type 0) → IfOk o P →
    ((x : A) → P x → IfOk (f x) Q) → IfOk (o >>= f) Q
bind_sound (Ok x) f P Q h g = g x h
bind_sound (Err e) f P Q h g = tt

pub linked : {A F : Type 0} (o : Option A) (r : Result A F) → o ≡ result_ok r → IfOk r (λ x. o ≡ Some x)
linked o (Ok x) e = e
linked o (Err f) e = tt

pub sign_sound : (b : ℕ) (w : What) (s : Rest) → IfOk (sign b w s) (λ r. sign_at b s ≡ Some r)
sign_sound b w s = linked (sign_at b s) (sign b w s) (sign_links b w s)

pub exact_sound : (w : What) (cs : List ℕ) (s : Rest) → IfOk (exact w cs s) (λ r. past cs s ≡ Some r)
exact_sound w cs s = linked (past cs s) (exact w cs s) (past_links w cs s)

pub name_sound : (s : Rest) → IfOk (reading.name s) (λ x. name_at s ≡ Some x)
name_sound s = linked (name_at s) (reading.name s) (name_links s)

pub metric_sound : (s : Rest) → IfOk (reading.metric s) (λ x. metric_at s ≡ Some x)
metric_sound s = linked (metric_at s) (reading.metric s) (metric_links s)

pub positive_sound : (most : ℕ) (s : Rest) → IfOk (reading.positive most s) (λ x. positive_at most s ≡ Some x)
positive_sound most s = linked (positive_at most s) (reading.positive most s) (positive_links most s)

pub signed_sound : (s : Rest) → IfOk (reading.signed_reading s) (λ x. signed_at s ≡ Some x)
signed_sound s = linked (signed_at s) (reading.signed_reading s) (signed_links s)

pub duration_sound : (s : Rest) → IfOk (reading.duration s) (λ x. duration_at s ≡ Some x)
duration_sound s = linked (duration_at s) (reading.duration s) (duration_links s)

-- a sign whose byte was seen
pub sign_here : (b : ℕ) (s : Rest) → (head (skip s) == b) ≡ true → sign_at b s ≡ Some (behind (skip s))
sign_here b s h = ap (λ t. if t then Some (behind (skip s)) else None) h

pub changed_sound : {A B : Type 0} (f : A → B) (o : Outcome A) (P : A × Rest → Type 0) (Q : B × Rest → Type 0) →
    IfOk o P → ((x : A × Rest) → P x → Q (f x.0, x.1)) → IfOk (map_outcome f o) Q
changed_sound f o P Q h g = bind_sound o (λ x. Ok (f x.0, x.1)) P Q h g

pub if_turn : {A : Type 0} (t : Bool) (x y : Turn A) (ends on : A → Rest → Type 0) → (t ≡ true → OfTurn x ends on) →
    (t ≡ false → OfTurn y ends on) → OfTurn (if t then x else y) ends on
if_turn true x y ends on f g = f refl
if_turn false x y ends on f g = g refl

-- turns pass what was already read
turns_pass : {A : Type 0} (turn : A → Rest → Turn A) (a : A) (front : List ℕ) (at : ℕ) (bs : List ℕ) →
    turns turn (length front) a at (front ++ bs) ≡ turns turn 0 a (at + length front) bs
turns_pass turn a [] at bs = ap (λ n. turns turn 0 a n bs) (omega arith)
turns_pass turn a (b ∷ front) at bs = turns_pass turn a front (at + 1) bs ∙ ap (λ n. turns turn 0 a n bs) (omega arith)

-- what is behind is passed, and the turns go on from there
passed : {A : Type 0} (turn : A → Rest → Turn A) (a : A) (front : List ℕ) (c at : ℕ) (bs : List ℕ) (r : Rest) →
    c ∷ bs ≡ front ++ r.bytes → r.at ≡ at + length front → 0 < length front →
    turns turn (length bs - length r.bytes) a (at + 1) bs ≡ turns turn 0 a r.at r.bytes
passed turn a [] c at bs r e p read = absurd (omega (arith, read))
passed turn a (d ∷ front) c at bs r e p read =
    let tail : bs ≡ front ++ r.bytes = cc in
    let k : length bs - length r.bytes ≡ length front = omega (arith, ap length tail, length-append front r.bytes) in
    ap (λ n. turns turn n a (at + 1) bs) k ∙ ap (λ t. turns turn (length front) a (at + 1) t) tail
    ∙ turns_pass turn a front (at + 1) r.bytes ∙ ap (λ n. turns turn 0 a n r.bytes) (omega (arith, p))

nothing_behind : (at : ℕ) (r : Rest) → Behind (record { at = at; bytes = [] }) r → ⊥
nothing_behind at r f = omega (arith, f.read, ap length f.bytes, length-append f.front r.bytes)

-- a turn that goes on is followed by the turns from there
again_bytes : {A : Type 0} (turn : A → Rest → Turn A) (a b : A) (at : ℕ) (bs : List ℕ) (r : Rest) →
    turn a (record { at = at; bytes = bs }) ≡ Again b r → Behind (record { at = at; bytes = bs }) r →
    turns turn 0 a at bs ≡ turns turn 0 b r.at r.bytes
again_bytes turn a b at [] r e f = absurd (nothing_behind at r f)
again_bytes turn a b at (c ∷ bs) r e f =
    ap (λ t. turn_outcome t (λ next m. turns turn (length bs - length m.bytes) next (at + 1) bs)) e
    ∙ passed turn b f.front c at bs r f.bytes f.place f.read

pub repeated_again : {A : Type 0} (turn : A → Rest → Turn A) (a b : A) (s r : Rest) → turn a s ≡ Again b r →
    Behind s r → repetition turn a s ≡ repetition turn b r
repeated_again turn a b s r e f = again_bytes turn a b s.at s.bytes r e f

pub if_ok_weaker : {A F : Type 0} (o : Result A F) (P Q : A → Type 0) → ((x : A) → P x → Q x) → IfOk o P → IfOk o Q
if_ok_weaker (Ok x) P Q f h = f x h
if_ok_weaker (Err e) P Q f h = tt

pub goes_on_behind : {A B : Type 0} (f : B → A) (o : Outcome B) (s m : Rest) → Behind s m →
    IfOk o (λ x. Behind m x.1) → OfTurn (goes_on f o) (λ b r. Unit {0}) (λ b r. Behind s r)
goes_on_behind f (Ok x) s m b h = behind_behind s m x.1 b h
goes_on_behind f (Err e) s m b h = tt

-- turns go on turn by turn
turned_bytes : {A : Type 0} (turn : A → Rest → Turn A) (a : A) (at : ℕ) (bs : List ℕ) (t : Turn A) →
    turn a (record { at = at; bytes = bs }) ≡ t →
    OfTurn t (λ b r. Unit {0}) (λ b r. Behind (record { at = at; bytes = bs }) r) →
    turns turn 0 a at bs ≡ turn_outcome t (λ b r. repetition turn b r)
turned_bytes turn a at [] (Done b r) e h = ap (λ u. turn_outcome u (λ c m. Ok (c, m))) e
turned_bytes turn a at [] (Again b r) e h = absurd (nothing_behind at r h)
turned_bytes turn a at [] (Stuck f) e h = ap (λ u. turn_outcome u (λ c m. Ok (c, m))) e
turned_bytes turn a at (c ∷ bs) (Done b r) e h =
    ap (λ u. turn_outcome u (λ next m. turns turn (length bs - length m.bytes) next (at + 1) bs)) e
turned_bytes turn a at (c ∷ bs) (Again b r) e h = again_bytes turn a b at (c ∷ bs) r e h
turned_bytes turn a at (c ∷ bs) (Stuck f) e h =
    ap (λ u. turn_outcome u (λ next m. turns turn (length bs - length m.bytes) next (at + 1) bs)) e

pub repeated_turn : {A : Type 0} (turn : A → Rest → Turn A) →
    ((a : A) (s : Rest) → OfTurn (turn a s) (λ b r. Unit {0}) (λ b r. Behind s r)) → (a : A) (s : Rest) →
    repetition turn a s ≡ turn_outcome (turn a s) (λ b r. repetition turn b r)
repeated_turn turn h a s = turned_bytes turn a s.at s.bytes (turn a s) refl (h a s)

module _ {A : Type 0} (turn : A → Rest → Turn A) (on ends : A → Rest → Type 0) where
  -- what a turn leaves, where a part is passed first
  turned_sound : (t : Turn A) (s : Rest) (go : A → Rest → Outcome A) → OfTurn t ends (λ b r. on b r × Behind s r) →
      ((b : A) (r : Rest) → on b r → Behind s r → IfOk (go b r) (λ x. ends x.0 x.1)) →
      IfOk (turn_outcome t go) (λ x. ends x.0 x.1)
  turned_sound (Done b r) s go h g = h
  turned_sound (Again b r) s go h g = g b r h.0 h.1
  turned_sound (Stuck f) s go h g = tt

  module _ (step : (a : A) (s : Rest) → on a s → OfTurn (turn a s) ends (λ b r. on b r × Behind s r)) where
    turns_sound : (bs front rest : List ℕ) (at : ℕ) (a : A) → bs ≡ front ++ rest →
        on a (record { at = at + length front; bytes = rest }) → IfOk (turns turn (length front) a at bs)
        (λ x. ends x.0 x.1)
    turns_sound [] [] rest at a e h =
        turned_sound (turn a (record { at = at; bytes = [] })) (record { at = at; bytes = [] }) (λ b r. Ok (b, r))
        (step a (record { at = at; bytes = [] }) (subst (λ n. on a (record { at = n; bytes = [] })) (omega arith)
        (subst (λ t. on a (record { at = at + 0; bytes = t })) (sym e) h)))
        (λ b r o f. absurd (nothing_behind at r f))
    turns_sound [] (c ∷ front) rest at a e h = absurd (cc)
    turns_sound (b ∷ bs) [] rest at a e h =
        turned_sound (turn a (record { at = at; bytes = b ∷ bs })) (record { at = at; bytes = b ∷ bs })
        (λ next r. turns turn (length bs - length r.bytes) next (at + 1) bs)
        (step a (record { at = at; bytes = b ∷ bs }) (subst (λ n. on a (record { at = n; bytes = b ∷ bs }))
        (omega arith) (subst (λ t. on a (record { at = at + 0; bytes = t })) (sym e) h)))
        (λ next r o f. further next r o f.front f.bytes f.place f.read (turns_sound bs))
      where
        further : (next : A) (r : Rest) → on next r → (front : List ℕ) → b ∷ bs ≡ front ++ r.bytes →
            r.at ≡ at + length front → 0 < length front →
            ((front rest : List ℕ) (at : ℕ) (a : A) → bs ≡ front ++ rest →
            on a (record { at = at + length front; bytes = rest }) → IfOk (turns turn (length front) a at bs)
            (λ x. ends x.0 x.1)) →
            IfOk (turns turn (length bs - length r.bytes) next (at + 1) bs) (λ x. ends x.0 x.1)
        further next r o [] bytes place read ih = absurd (omega (arith, read))
        further next r o (d ∷ front) bytes place read ih =
            let tail : bs ≡ front ++ r.bytes = cc in
            let k : length front ≡ length bs - length r.bytes =
            omega (arith, ap length tail, length-append front r.bytes) in
            let p : r.at ≡ at + 1 + length front = omega (arith, place) in
            subst (λ n. IfOk (turns turn n next (at + 1) bs) (λ x. ends x.0 x.1)) k
            (ih front r.bytes (at + 1) next tail (subst (λ n. on next (record { at = n; bytes = r.bytes })) p o))
    turns_sound (b ∷ bs) (c ∷ front) rest at a e h =
        turns_sound bs front rest (at + 1) a (cc) (subst (λ n. on a (record { at = n; bytes = rest })) (omega arith) h)

    pub repeated_sound : (a : A) (s : Rest) → on a s → IfOk (repetition turn a s) (λ x. ends x.0 x.1)
    repeated_sound a s h =
        turns_sound s.bytes [] s.bytes s.at a refl (subst (λ n. on a (record { at = n; bytes = s.bytes }))
        (omega arith) h)
