-- The kind of a fault fits its byte: what this asks of each part that is read.
use Rattle.std.proofs.Common.{◌≡◌, ℕ, zero, suc, ◌+◌, ◌<◌, ◌≤◌, Bool, true, false, ◌==◌, List, [], ◌∷◌, ◌++◌, length}
use Rattle.std.proofs.Common.{refl, sym, ap, ◌∙◌, subst, arith, if◌then◌else◌, append_assoc, length-append, Option}
use Rattle.std.proofs.Common.{Some, None, Result, Ok, Err}
use Rattle.std.proofs.lemmas.Bool.{false≢true, ne_eqb, eqb-true}
use Rattle.mon_value.specs.Answers.{◌>>=◌}
use Rattle.mql_ast.specs.Tokens.{is_blank, is_alphabet, Rest, first_of, behind_first, behind_blanks, head, behind, skip}
use Rattle.mql_ast.specs.Quotes.{Open, Whole}
use Rattle.mql_parse.specs.declared.faults.ParseFault.{ParseFault}
use Rattle.mql_parse.specs.declared.faults.ParseKind.{ParseKind}
use Rattle.mql_parse.specs.declared.faults.ParseKind.TheVariants.{BadToken, Expected, TooDeep}
use Rattle.mql_parse.specs.declared.faults.What.{What}
use Rattle.mql_parse.specs.Outcomes.{Outcome, kind_of_fault, fault, unexpected_fault, sign, map_outcome, up_to_sign}
use Rattle.mql_parse.specs.Repeats.{Turn, Done, Again, Stuck, turn_outcome, repetition, goes_on, on_read, list_or_end}
use Rattle.mql_parse.specs.Repeats.{list_turn}
use Rattle.mql_parse.specs.Behind.{Behind}
use Rattle.mql_parse.specs.Soundness.{OfTurn}
use Rattle.mql_parse.specs.Faults.{quotes_after, open_quotes, OutsideKind, KindFits}
use Rattle.mql_parse.proofs.BehindLemmas.{behind_is_shorter}
use Rattle.mql_parse.proofs.Loops.{GoesBehind}
use Rattle.mql_parse.proofs.Sound.{repeated_turn}

-- what stands between the two leaves no quotes open
pub record Outside (o : Option Open) (s r : Rest) : Type 0 where
  pub front : List ℕ
  pub bytes : s.bytes ≡ front ++ r.bytes
  pub place : r.at ≡ s.at + length front
  pub closed : open_quotes o front ≡ None

-- a fault behind these bytes is of a kind that its byte may have
pub record FaultFits (o : Option Open) (s : Rest) (f : ParseFault) : Type 0 where
  pub front : List ℕ
  pub left : List ℕ
  pub bytes : s.bytes ≡ front ++ left
  pub place : f.at ≡ s.at + length front
  pub fits : KindFits (open_quotes o front) left f.kind

abbrev pub Fits : {A : Type 0} → Option Open → Rest → Outcome A → Type 0
Fits o s (Ok x) = Outside o s x.1
Fits o s (Err f) = FaultFits o s f

abbrev pub PassFits : Rest → Result Rest ParseFault → Type 0
PassFits s (Ok r) = Outside None s r
PassFits s (Err f) = FaultFits None s f

abbrev pub TurnFits : {A : Type 0} → Rest → Turn A → Type 0
TurnFits s (Done a r) = Outside None s r
TurnFits s (Again a r) = Outside None s r
TurnFits s (Stuck f) = FaultFits None s f

pub quotes_append : (o : Option Open) (v w : List ℕ) → open_quotes o (v ++ w) ≡ open_quotes (open_quotes o v) w
quotes_append o [] w = refl
quotes_append o (b ∷ v) w = quotes_append (quotes_after o b) v w

pub outside_itself : (s : Rest) → Outside None s s
outside_itself s = record { front = []; bytes = refl; place = omega arith; closed = refl }

closed_on : (o : Option Open) (v w : List ℕ) → open_quotes o v ≡ None → open_quotes o (v ++ w) ≡ open_quotes None w
closed_on o v w h = quotes_append o v w ∙ ap (λ p. open_quotes p w) h

pub outside_before : (o : Option Open) (s m r : Rest) → Outside o s m → Outside None m r → Outside o s r
outside_before o s m r f g = record {
  front = f.front ++ g.front;
  bytes = f.bytes ∙ ap (λ t. f.front ++ t) g.bytes ∙ sym (append_assoc f.front g.front r.bytes);
  place = omega (arith, f.place, g.place, length-append f.front g.front);
  closed = closed_on o f.front g.front f.closed ∙ g.closed;
}

pub fault_before : (o : Option Open) (s m : Rest) (x : ParseFault) → Outside o s m → FaultFits None m x →
    FaultFits o s x
fault_before o s m x f g = record {
  front = f.front ++ g.front;
  left = g.left;
  bytes = f.bytes ∙ ap (λ t. f.front ++ t) g.bytes ∙ sym (append_assoc f.front g.front g.left);
  place = omega (arith, f.place, g.place, length-append f.front g.front);
  fits = subst (λ p. KindFits p g.left x.kind) (sym (closed_on o f.front g.front f.closed)) g.fits;
}

pub fits_before : {A : Type 0} (o : Option Open) (s m : Rest) (x : Outcome A) → Outside o s m → Fits None m x →
    Fits o s x
fits_before o s m (Ok x) f g = outside_before o s m x.1 f g
fits_before o s m (Err x) f g = fault_before o s m x f g

pub pass_before : (s m : Rest) (x : Result Rest ParseFault) → Outside None s m → PassFits m x → PassFits s x
pass_before s m (Ok r) f g = outside_before None s m r f g
pass_before s m (Err x) f g = fault_before None s m x f g

pub turn_before : {A : Type 0} (s m : Rest) (x : Turn A) → Outside None s m → TurnFits m x → TurnFits s x
turn_before s m (Done a r) f g = outside_before None s m r f g
turn_before s m (Again a r) f g = outside_before None s m r f g
turn_before s m (Stuck x) f g = fault_before None s m x f g

-- one reader behind another
pub bind_fits : {A B : Type 0} (o : Option Open) (s : Rest) (x : Outcome A) (f : A × Rest → Outcome B) → Fits o s x →
    ((a : A) (r : Rest) → Fits None r (f (a, r))) → Fits o s (x >>= f)
bind_fits o s (Ok (a, r)) f h g = fits_before o s r (f (a, r)) h (g a r)
bind_fits o s (Err e) f h g = h

pub map_fits : {A B : Type 0} (o : Option Open) (s : Rest) (f : A → B) (x : Outcome A) → Fits o s x →
    Fits o s (map_outcome f x)
map_fits o s f (Ok x) h = h
map_fits o s f (Err e) h = h

pub pass_then : {B : Type 0} (s : Rest) (x : Result Rest ParseFault) (f : Rest → Outcome B) → PassFits s x →
    ((r : Rest) → Fits None r (f r)) → Fits None s (x >>= f)
pass_then s (Ok r) f h g = fits_before None s r (f r) h (g r)
pass_then s (Err e) f h g = h

pub pass_pass : (s : Rest) (x : Result Rest ParseFault) (f : Rest → Result Rest ParseFault) → PassFits s x →
    ((r : Rest) → PassFits r (f r)) → PassFits s (x >>= f)
pass_pass s (Ok r) f h g = pass_before s r (f r) h (g r)
pass_pass s (Err e) f h g = h

-- tests
pub if_fits : {A : Type 0} (o : Option Open) (s : Rest) (t : Bool) (x y : Outcome A) → (t ≡ true → Fits o s x) →
    (t ≡ false → Fits o s y) → Fits o s (if t then x else y)
if_fits o s true x y f g = f refl
if_fits o s false x y f g = g refl

pub if_pass : (s : Rest) (t : Bool) (x y : Result Rest ParseFault) → (t ≡ true → PassFits s x) →
    (t ≡ false → PassFits s y) → PassFits s (if t then x else y)
if_pass s true x y f g = f refl
if_pass s false x y f g = g refl

pub if_turn : {A : Type 0} (s : Rest) (t : Bool) (x y : Turn A) → (t ≡ true → TurnFits s x) →
    (t ≡ false → TurnFits s y) → TurnFits s (if t then x else y)
if_turn s true x y f g = f refl
if_turn s false x y f g = g refl

-- a byte that is no quote
no_quote : (test : ℕ → Bool) (b : ℕ) → test 34 ≡ false → test b ≡ true → (b == 34) ≡ false
no_quote test b fails h = ne_eqb b 34 (λ e. false≢true (sym fails ∙ ap test (sym e) ∙ h))

byte_outside_at : (test : ℕ → Bool) → test 0 ≡ false → test 34 ≡ false → (at : ℕ) (bs : List ℕ) →
    test (first_of bs) ≡ true → Outside None (record { at = at; bytes = bs }) (behind_first at bs)
byte_outside_at test none fails at [] h = absurd (false≢true (sym none ∙ h))
byte_outside_at test none fails at
    (b ∷ bs) h = record {
      front = b ∷ [];
      bytes = refl;
      place = omega arith;
      closed = ap
          (λ t. if t then Some Whole else None) (no_quote test b fails h);
    }

pub byte_outside : (test : ℕ → Bool) → test 0 ≡ false → test 34 ≡ false → (s : Rest) → test (head s) ≡ true →
    Outside None s (behind s)
byte_outside test none fails s h = byte_outside_at test none fails s.at s.bytes h

blanks_outside : (at : ℕ) (bs : List ℕ) → Outside None (record { at = at; bytes = bs }) (behind_blanks at bs)
blanks_outside at [] = outside_itself (record { at = at; bytes = [] })
blanks_outside at (b ∷ bs) = either (is_blank b) refl (blanks_outside (at + 1) bs)
  where
    either : (t : Bool) → is_blank b ≡ t → Outside None (record { at = at + 1; bytes = bs })
        (behind_blanks (at + 1) bs) → Outside None (record { at = at; bytes = b ∷ bs })
        (if t then behind_blanks (at + 1) bs else record { at = at; bytes = b ∷ bs })
    either true h f = outside_before None (record { at = at; bytes = b ∷ bs }) (record { at = at + 1; bytes = bs })
        (behind_blanks (at + 1) bs) (byte_outside is_blank refl refl (record { at = at; bytes = b ∷ bs }) h) f
    either false h f = outside_itself (record { at = at; bytes = b ∷ bs })

pub skip_outside : (s : Rest) → Outside None s (skip s)
unfolding skip
skip_outside s = blanks_outside s.at s.bytes

pub part_outside : (test : ℕ → Bool) → test 0 ≡ false → test 34 ≡ false → (s : Rest) → test (head (skip s)) ≡ true →
    Outside None s (behind (skip s))
part_outside test none fails s h = outside_before None s (skip s) (behind (skip s)) (skip_outside s)
    (byte_outside test none fails (skip s) h)

pub behind_fits : {A : Type 0} (test : ℕ → Bool) → test 0 ≡ false → test 34 ≡ false → (s : Rest) →
    test (head s) ≡ true → (x : Outcome A) → Fits None (behind s) x → Fits None s x
behind_fits test none fails s h x f = fits_before None s (behind s) x (byte_outside test none fails s h) f

pub skip_fits : {A : Type 0} (s : Rest) (x : Outcome A) → Fits None (skip s) x → Fits None s x
skip_fits s x f = fits_before None s (skip s) x (skip_outside s) f

pub part_fits : {A : Type 0} (test : ℕ → Bool) → test 0 ≡ false → test 34 ≡ false → (s : Rest) →
    test (head (skip s)) ≡ true → (x : Outcome A) → Fits None (behind (skip s)) x → Fits None s x
part_fits test none fails s h x f = fits_before None s (behind (skip s)) x (part_outside test none fails s h) f

-- a quote opens a text
quote_outside : {A : Type 0} (at : ℕ) (bs : List ℕ) (x : Outcome A) → (first_of bs == 34) ≡ true →
    Fits (Some Whole) (behind_first at bs) x → Fits None (record { at = at; bytes = bs }) x
quote_outside at [] x h f = absurd (false≢true h)
quote_outside at (b ∷ bs) (Ok x) h f = record {
  front = b ∷ f.front;
  bytes = ap (λ t. b ∷ t) f.bytes;
  place = omega (arith, f.place);
  closed = ap (λ t. open_quotes (if t then Some Whole else None) f.front) h ∙ f.closed;
}
quote_outside at (b ∷ bs) (Err x) h f = record {
  front = b ∷ f.front;
  left = f.left;
  bytes = ap (λ t. b ∷ t) f.bytes;
  place = omega (arith, f.place);
  fits = subst (λ p. KindFits (open_quotes p f.front) f.left x.kind) (sym (ap (λ t. if t then Some Whole else None) h))
      f.fits;
}

pub quote_fits : {A : Type 0} (s : Rest) (x : Outcome A) → (head s == 34) ≡ true → Fits (Some Whole) (behind s) x →
    Fits None s x
quote_fits s x h f = quote_outside s.at s.bytes x h f

-- what might have come in place of what stands here
kind_of_fits : (w : What) (bs : List ℕ) → KindFits None bs (kind_of_fault w bs)
kind_of_fits w [] = tt
kind_of_fits w (b ∷ bs) = either (is_alphabet b)
  where
    either : (t : Bool) → OutsideKind t b (if t then Expected w else BadToken)
    either true = tt
    either false = refl

pub unexpected_fits : (w : What) (s : Rest) → FaultFits None s (unexpected_fault w s)
unexpected_fits w s = record {
  front = [];
  left = s.bytes;
  bytes = refl;
  place = omega arith;
  fits = kind_of_fits w
      s.bytes;
}

pub unexpected_next : (w : What) (s : Rest) → FaultFits None s (unexpected_fault w (skip s))
unexpected_next w s =
    fault_before None s (skip s) (unexpected_fault w (skip s)) (skip_outside s) (unexpected_fits w (skip s))

-- a fault of another kind, which the byte here may have
byte_kind : (kind : ParseKind) (test : ℕ → Bool) → test 0 ≡ false →
    ((b : ℕ) → test b ≡ true → OutsideKind (is_alphabet b) b kind) → (bs : List ℕ) → test (first_of bs) ≡ true →
    KindFits None bs kind
byte_kind kind test none f [] h = absurd (false≢true (sym none ∙ h))
byte_kind kind test none f (b ∷ bs) h = f b h

pub fault_fits : (kind : ParseKind) (test : ℕ → Bool) → test 0 ≡ false →
    ((b : ℕ) → test b ≡ true → OutsideKind (is_alphabet b) b kind) → (s : Rest) → test (head s) ≡ true →
    FaultFits None s (fault kind s)
fault_fits kind test none f s h = record
    { front = []; left = s.bytes; bytes = refl; place = omega arith; fits = byte_kind kind test none f s.bytes h }

-- a sign that goes a level too deep
pub deep_fits : (n : ℕ) → (0 == n) ≡ false → OutsideKind (is_alphabet n) n TooDeep → (s : Rest) → (head s == n) ≡ true →
    FaultFits None s (fault TooDeep s)
deep_fits n none f = fault_fits TooDeep (λ b. b == n) none
    (λ b h. subst (λ c. OutsideKind (is_alphabet c) c TooDeep) (sym (eqb-true b n h)) f)

-- signs
pub sign_fits : (b : ℕ) → (0 == b) ≡ false → (34 == b) ≡ false → (w : What) (s : Rest) → PassFits s (sign b w s)
sign_fits b none fails w s = if_pass s (head (skip s) == b) (Ok (behind (skip s))) (Err (unexpected_fault w (skip s)))
    (λ h. part_outside (λ c. c == b) none fails s h) (λ h. unexpected_next w s)

pub up_to_fits : {A : Type 0} (b : ℕ) → (0 == b) ≡ false → (34 == b) ≡ false → (w : What) (s : Rest) (x : Outcome A) →
    Fits None s x → Fits None s (up_to_sign b w x)
up_to_fits b none fails w s x h = bind_fits None s x (λ y. sign b w y.1 >>= λ r. Ok (y.0, r)) h
    (λ a r. pass_then r (sign b w r) (λ k. Ok (a, k)) (sign_fits b none fails w r) outside_itself)

-- turns
pub goes_on_fits : {A B : Type 0} (s : Rest) (f : A → B) (x : Outcome A) → Fits None s x → TurnFits s (goes_on f x)
goes_on_fits s f (Ok x) h = h
goes_on_fits s f (Err e) h = h

-- a turn that goes on with a part behind blanks and a byte
pub turn_part_fits : {A B : Type 0} (test : ℕ → Bool) → test 0 ≡ false → test 34 ≡ false → (s : Rest) →
    test (head (skip s)) ≡ true → (f : A → B) (read : Rest → Outcome A) → ((r : Rest) → Fits None r (read r)) →
    TurnFits s (goes_on f (read (behind (skip s))))
turn_part_fits test none fails s h f read k = turn_before s (behind (skip s)) (goes_on f (read (behind (skip s))))
    (part_outside test none fails s h) (goes_on_fits (behind (skip s)) f (read (behind (skip s))) (k (behind (skip s))))

pub on_read_fits : {A B : Type 0} (s : Rest) (f : A × Rest → Turn B) (x : Outcome A) → Fits None s x →
    ((a : A) (r : Rest) → TurnFits r (f (a, r))) → TurnFits s (on_read f x)
on_read_fits s f (Ok (a, r)) h g = turn_before s r (f (a, r)) h (g a r)
on_read_fits s f (Err e) h g = h

pub list_turn_fits : {A : Type 0} (close : ℕ) → (0 == close) ≡ false → (34 == close) ≡ false →
    (w : What) (part : Rest → Outcome A) → ((s : Rest) → Fits None s (part s)) → (so_far : List A) (s : Rest) →
    TurnFits s (list_turn close w part so_far s)
list_turn_fits close none fails w part parts so_far s = on_read_fits s (list_or_end close w so_far) (part s) (parts s)
    (λ a r. let all = so_far ++ a ∷ [] in
    if_turn r (head (skip r) == 44) (Again all (behind (skip r)))
    (if head (skip r) == close then Done all (behind (skip r)) else Stuck (unexpected_fault w (skip r)))
    (λ h. part_outside (λ b. b == 44) refl refl r h)
    (λ _. if_turn r (head (skip r) == close) (Done all (behind (skip r))) (Stuck (unexpected_fault w (skip r)))
    (λ h. part_outside (λ b. b == close) none fails r h) (λ _. unexpected_next w r)))

module _ {A : Type 0} (turn : A → Rest → Turn A) (behind : GoesBehind turn)
    (step : (a : A) (s : Rest) → TurnFits s (turn a s)) where
  turn_outcome_fits : (s : Rest) (u : Turn A) → OfTurn u (λ b r. Unit {0}) (λ b r. Behind s r) → TurnFits s u →
      ((b : A) (r : Rest) → length r.bytes < length s.bytes → Fits None r (repetition turn b r)) →
      Fits None s (turn_outcome u (λ b r. repetition turn b r))
  turn_outcome_fits s (Done b r) h f ih = f
  turn_outcome_fits s (Again b r) h f ih = fits_before None s r (repetition turn b r) f
      (ih b r (behind_is_shorter s r h))
  turn_outcome_fits s (Stuck x) h f ih = f

  repetition_fits_within : (most : ℕ) (a : A) (s : Rest) → length s.bytes ≤ most → Fits None s (repetition turn a s)
  repetition_fits_within zero a s l = subst (λ o. Fits None s o) (sym (repeated_turn turn behind a s))
      (turn_outcome_fits s (turn a s) (behind a s) (step a s) (λ b r h. absurd (omega (arith, h, l))))
  repetition_fits_within (suc most) a s l = subst (λ o. Fits None s o) (sym (repeated_turn turn behind a s))
      (turn_outcome_fits s (turn a s) (behind a s) (step a s)
      (λ b r h. repetition_fits_within most b r (omega (arith, h, l))))

  pub repetition_fits : (a : A) (s : Rest) → Fits None s (repetition turn a s)
  repetition_fits a s = repetition_fits_within (length s.bytes) a s (omega arith)
