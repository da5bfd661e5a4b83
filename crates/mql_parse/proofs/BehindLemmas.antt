-- What is left behind each token.
use Rattle.std.proofs.Common.{◌≡◌, ℕ, ◌+◌, ◌<◌, Bool, true, false, ◌==◌, ◌||◌, List, [], ◌∷◌, ◌++◌, length, refl, sym}
use Rattle.std.proofs.Common.{ap, ◌∙◌, arith, if◌then◌else◌, length-append, append_assoc, Option, Some, None, subst}
use Rattle.std.proofs.lemmas.Bool.{false≢true}
use Rattle.mql_ast.specs.declared.names.Name.{Name}
use Rattle.mql_ast.specs.Tokens.{is_blank, is_letter, is_word_byte, Rest, first_of, behind_first}
use Rattle.mql_ast.specs.Tokens.{behind_blanks, head, behind, skip, sign_at, past, keyword_at, behind_word, word_here}
use Rattle.mql_ast.specs.Tokens.{name_at}
use Rattle.mql_parse.specs.Behind.{From, Behind}
use Rattle.mql_parse.proofs.ByteLemmas.{chosen}
use Rattle.mql_parse.proofs.ByteLemmas.{letter_in_word}

pub from_itself : (s : Rest) → From s s
from_itself s = record { front = []; bytes = refl; place = omega arith }

pub from_trans : (s m r : Rest) → From s m → From m r → From s r
from_trans s m r f g = record {
  front = f.front ++ g.front;
  bytes = f.bytes ∙ ap (λ t. f.front ++ t) g.bytes ∙ sym (append_assoc f.front g.front r.bytes);
  place = omega (arith, f.place, g.place, length-append f.front g.front);
}

pub to_from : (s r : Rest) → Behind s r → From s r
to_from s r f = record { front = f.front; bytes = f.bytes; place = f.place }

pub behind_from : (s m r : Rest) → Behind s m → From m r → Behind s r
behind_from s m r f g = record {
  front = f.front ++ g.front;
  bytes = f.bytes ∙ ap (λ t. f.front ++ t) g.bytes ∙ sym (append_assoc f.front g.front r.bytes);
  place = omega (arith, f.place, g.place, length-append f.front g.front);
  read = omega (arith, f.read, length-append f.front g.front);
}

pub from_behind : (s m r : Rest) → From s m → Behind m r → Behind s r
from_behind s m r f g = record {
  front = f.front ++ g.front;
  bytes = f.bytes ∙ ap (λ t. f.front ++ t) g.bytes ∙ sym (append_assoc f.front g.front r.bytes);
  place = omega (arith, f.place, g.place, length-append f.front g.front);
  read = omega (arith, g.read, length-append f.front g.front);
}

pub behind_behind : (s m r : Rest) → Behind s m → Behind m r → Behind s r
behind_behind s m r f g = behind_from s m r f (to_from m r g)

pub behind_is_shorter : (s r : Rest) → Behind s r → length r.bytes < length s.bytes
behind_is_shorter s r f = omega (arith, f.read, ap length f.bytes, length-append f.front r.bytes)

-- one byte
first_behind : (at : ℕ) (bs : List ℕ) → (first_of bs ≡ 0 → ⊥) → Behind (record { at = at; bytes = bs })
    (behind_first at bs)
first_behind at [] h = absurd (h refl)
first_behind at (b ∷ bs) h = record { front = b ∷ []; bytes = refl; place = omega arith; read = omega arith }

first_from : (at : ℕ) (bs : List ℕ) → From (record { at = at; bytes = bs }) (behind_first at bs)
first_from at [] = from_itself (record { at = at; bytes = [] })
first_from at (b ∷ bs) = record { front = b ∷ []; bytes = refl; place = omega arith }

pub byte_behind : (s : Rest) → (head s ≡ 0 → ⊥) → Behind s (behind s)
byte_behind s h = first_behind s.at s.bytes h

pub tested_behind : (test : ℕ → Bool) → test 0 ≡ false → (s : Rest) → test (head s) ≡ true → Behind s (behind s)
tested_behind test fails s h = byte_behind s (λ e. absurd (false≢true (sym fails ∙ ap test (sym e) ∙ h)))

-- one byte more in front
longer : (b at : ℕ) (bs : List ℕ) (r : Rest) → From (record { at = at + 1; bytes = bs }) r →
    From (record { at = at; bytes = b ∷ bs }) r
longer b at bs r f = record { front = b ∷ f.front; bytes = ap (λ t. b ∷ t) f.bytes; place = omega (arith, f.place) }

-- what is left behind a byte that passes a test, or here
passing : (test : Bool) (b at : ℕ) (bs : List ℕ) (r : Rest) → From (record { at = at + 1; bytes = bs }) r →
    From (record { at = at; bytes = b ∷ bs }) (if test then r else record { at = at; bytes = b ∷ bs })
passing true b at bs r f = longer b at bs r f
passing false b at bs r f = from_itself (record { at = at; bytes = b ∷ bs })

blanks_from : (at : ℕ) (bs : List ℕ) → From (record { at = at; bytes = bs }) (behind_blanks at bs)
blanks_from at [] = from_itself (record { at = at; bytes = [] })
blanks_from at (b ∷ bs) = passing (is_blank b) b at bs (behind_blanks (at + 1) bs) (blanks_from (at + 1) bs)

pub skip_from : (s : Rest) → From s (skip s)
unfolding skip
skip_from s = blanks_from s.at s.bytes

word_from : (at : ℕ) (bs : List ℕ) → From (record { at = at; bytes = bs }) (behind_word at bs)
word_from at [] = from_itself (record { at = at; bytes = [] })
word_from at (b ∷ bs) = passing (is_word_byte b) b at bs (behind_word (at + 1) bs) (word_from (at + 1) bs)

word_here_behind : (at : ℕ) (bs : List ℕ) → is_word_byte (first_of bs) ≡ true →
    Behind (record { at = at; bytes = bs }) (behind_word at bs)
word_here_behind at [] h = absurd (false≢true h)
word_here_behind at (b ∷ bs) h =
    subst (λ r. Behind (record { at = at; bytes = b ∷ bs }) r)
    (sym (ap (λ t. if t then behind_word (at + 1) bs else record { at = at; bytes = b ∷ bs }) h))
    (behind_from _ (record { at = at + 1; bytes = bs }) _
    (record { front = b ∷ []; bytes = refl; place = omega arith; read = omega arith }) (word_from (at + 1) bs))

pub chosen_any : {A : Type 0} (t : Bool) (o : Option A) (y : A) → (if t then o else None) ≡ Some y →
    (t ≡ true) × (o ≡ Some y)
chosen_any true o y e = (refl, e)
chosen_any false o y e = absurd (cc)

pub sign_taken : (b : ℕ) (s r : Rest) → sign_at b s ≡ Some r → (head (skip s) == b ≡ true) × (behind (skip s) ≡ r)
sign_taken b s r e = chosen (head (skip s) == b) (behind (skip s)) r e

pub sign_behind : (b : ℕ) → 0 == b ≡ false → (s r : Rest) → sign_at b s ≡ Some r → Behind s r
sign_behind b nonzero s r e =
    let t = sign_taken b s r e in
    subst (λ m. Behind s m) t.1 (from_behind s (skip s) (behind (skip s)) (skip_from s)
    (tested_behind (λ x. x == b) nonzero (skip s) t.0))

pub name_behind : (s r : Rest) (n : Name) → name_at s ≡ Some (n, r) → Behind s r
name_behind s r n e =
    let t = chosen (is_letter (head (skip s))) (word_here (skip s)) (n, r) e in
    subst (λ m. Behind s m) (ap (λ x. x.1) t.1)
    (from_behind s (skip s) _ (skip_from s)
    (word_here_behind (skip s).at (skip s).bytes (letter_in_word (head (skip s)) t.0)))

-- what is left of one byte on
pub one_from : (s : Rest) → From s (behind s)
one_from s = first_from s.at s.bytes

past_from : (cs : List ℕ) (s r : Rest) → past cs s ≡ Some r → From s r
past_from [] s r e = subst (λ m. From s m) (cc) (from_itself s)
past_from (c ∷ cs) s r e =
    let t = chosen_any (head s == c) (past cs (behind s)) r e in
    from_trans s (behind s) r (one_from s) (past_from cs (behind s) r t.1)

pub past_behind : (c : ℕ) (cs : List ℕ) → 0 == c ≡ false → (s r : Rest) → past (c ∷ cs) s ≡ Some r → Behind s r
past_behind c cs nonzero s r e =
    let t = chosen_any (head s == c) (past cs (behind s)) r e in
    behind_from s (behind s) r (tested_behind (λ x. x == c) nonzero s t.0) (past_from cs (behind s) r t.1)

pub word_behind : (c : ℕ) (cs : List ℕ) → 0 == c ≡ false → (s r : Rest) → keyword_at (c ∷ cs) s ≡ Some r → Behind s r
word_behind c cs nonzero s r e = from_behind s (skip s) r (skip_from s) (past_behind c cs nonzero (skip s) r e)
