-- A keyword, and what stands behind it: what they expect comes first.
use Rattle.std.proofs.Common.{◌≡◌, ℕ, true, false, ◌==◌, List, ◌∷◌, refl, sym, subst, if◌then◌else◌, Result, Ok, Err}
use Rattle.mon_value.specs.Answers.{◌>>=◌}
use Rattle.mql_ast.specs.Tokens.{Rest, first_of, head, behind, skip}
use Rattle.mql_parse.specs.declared.faults.ParseFault.{ParseFault}
use Rattle.mql_parse.specs.declared.faults.What.{What}
use Rattle.mql_parse.specs.declared.faults.What.TheVariants as what
use Rattle.mql_parse.specs.Outcomes.{Outcome, exact, apart, map_outcome}
use Rattle.mql_parse.specs.PipeReading as pipes
use Rattle.mql_parse.specs.Steadiness.{here, next}
use Rattle.mql_parse.proofs.Steady.{steady_here, steady_ok}
use Rattle.mql_parse.proofs.Firsts.{Spot, Begun, Failed, failed_bind, MeetsOutcome, Meets, Before, FirstOutcome, First}
use Rattle.mql_parse.proofs.Firsts.{first_bind, first_if_or, meets_map, meets_by, meets_behind_pass, before_of}
use Rattle.mql_parse.proofs.Firsts.{before_if, before_skip}
use Rattle.mql_parse.proofs.FirstTokens.{all_solid, meets_exact, second, exact_fails, second_or, keyword_far}
use Rattle.mql_parse.proofs.FirstTokens.{meets_apart}
use Rattle.mql_parse.proofs.FirstNumbers.{map_first}

-- a part that begins with a word of this first byte
pub record Keyword {A : Type 0} (x : Spot) (G : A → Type 0) (c : ℕ) (cs : List ℕ) (read : Rest → Outcome A) : Type 0
  where
    pub meets : Meets x here next G read
    pub far : (v : What) (s : Rest) → next s ≡ x.at → (head (skip s) == c) ≡ true →
        FirstOutcome x next v (read (skip s))
    pub fails : (r : Rest) → second cs (head (behind r)) ≡ false → Failed (read r)

pub keyword : {A : Type 0} (x : Spot) (G : A → Type 0) (w : What) (c : ℕ) (cs : List ℕ) (rest : Rest → Outcome A) →
    (0 == c) ≡ false → all_solid (c ∷ cs) ≡ true → Meets x here next G rest →
    Keyword x G c cs (λ t. exact w (c ∷ cs) t >>= rest)
keyword x G w c cs rest z h k = record {
  meets = meets_behind_pass x here here next G (exact w (c ∷ cs)) rest (meets_exact x w (c ∷ cs) h) k;
  far = λ v s e g. keyword_far x next v w c cs rest z k.steady s e g;
  fails = λ r g. exact_fails w c cs rest r g;
}

pub keyword_by : {A : Type 0} (x : Spot) (G : A → Type 0) (c : ℕ) (cs : List ℕ) (read as_read : Rest → Outcome A) →
    ((t : Rest) → read t ≡ as_read t) → Keyword x G c cs as_read → Keyword x G c cs read
keyword_by x G c cs read as_read h k = record {
  meets = meets_by x here next G read as_read h k.meets;
  far = λ v s e g. subst (FirstOutcome x next v) (sym (h (skip s))) (k.far v s e g);
  fails = λ r g. subst Failed (sym (h r)) (k.fails r g);
}

pub keyword_map : {A B : Type 0} (x : Spot) (G : A → Type 0) (H : B → Type 0) (c : ℕ) (cs : List ℕ)
    (f : A → B) (read : Rest → Outcome A) → ((a : A) → G a → H (f a)) → Keyword x G c cs read →
    Keyword x H c cs (λ t. map_outcome f (read t))
keyword_map x G H c cs f read h k = record {
  meets = meets_map x here next G H f read h k.meets;
  far = λ v s e g. map_first x next v f (read (skip s)) (k.far v s e g);
  fails = λ r g. failed_bind (read r) (λ y. Ok (f y.0, y.1)) (k.fails r g);
}

pub keyword_here : {A : Type 0} (x : Spot) (G : A → Type 0) (c : ℕ) (cs : List ℕ) (read : ℕ → Rest → Outcome A) →
    ((n : ℕ) → Keyword x G c cs (read n)) → Keyword x G c cs (λ t. read t.at t)
keyword_here x G c cs read k = record {
  meets = record {
    steady = steady_here next read (λ n. (k n).meets.steady);
    agrees = λ s t d. subst (λ n. MeetsOutcome x next G (read s.at s) (read n t)) (sym d.place)
        ((k s.at).meets.agrees s t d);
  };
  far = λ v s e g. (k (skip s).at).far v s e g;
  fails = λ r g. (k r.at).fails r g;
}

-- a word that stands apart from what follows
pass_apart : {B : Type 0} (o : Result Rest ParseFault) (f : Rest → Result Rest ParseFault) (on : Rest → Outcome B) →
    ((o >>= f) >>= on) ≡ (o >>= λ m. f m >>= on)
pass_apart (Ok r) f on = refl
pass_apart (Err e) f on = refl

pub keyword_apart : {A : Type 0} (x : Spot) (G : A → Type 0) (c : ℕ) (cs : List ℕ) (w : What)
    (on : Rest → Outcome A) → (0 == c) ≡ false → all_solid (c ∷ cs) ≡ true → First x next next w on →
    Meets x next next G on → Keyword x G c cs (λ t. pipes.word_apart (c ∷ cs) w t >>= on)
keyword_apart x G c cs w on z h first k =
    keyword_by x G c cs (λ t. pipes.word_apart (c ∷ cs) w t >>= on)
    (λ t. exact what.Operation (c ∷ cs) t >>= λ m. apart w m >>= on)
    (λ t. pass_apart (exact what.Operation (c ∷ cs) t) (apart w) on)
    (keyword x G what.Operation c cs (λ m. apart w m >>= on) z h (meets_apart x next G w on first k))

-- a choice by the first byte of a word
pub first_keyword : {A : Type 0} (x : Spot) (G : A → Type 0) (w : What) (c : ℕ) (cs : List ℕ)
    (read other : Rest → Outcome A) → Keyword x G c cs read →
    ((x.byte == c) ≡ true → second cs (first_of x.more) ≡ true → Begun x w) → First x next next w other →
    First x next next w (λ s. if head (skip s) == c then read (skip s) else other s)
first_keyword x G w c cs read other k begun first =
    first_if_or x next w (λ b. b == c) (λ s. read (skip s)) other (λ s e h. k.far w s e h)
    (second_or x w c cs read k.fails begun) first

pub before_keyword : {A : Type 0} (x : Spot) (G : A → Type 0) (c : ℕ) (cs : List ℕ) (read other : Rest → Outcome A) →
    Keyword x G c cs read → Before x next next G other →
    Before x next next G (λ s. if head (skip s) == c then read (skip s) else other s)
before_keyword x G c cs read other k f =
    before_if x next G (λ b. b == c) (λ s. read (skip s)) other
    (before_skip x next G read (before_of x here next G read k.meets)) f

pub first_map : {A B : Type 0} (x : Spot) (w : What) (f : A → B) (read : Rest → Outcome A) → First x next next w read →
    First x next next w (λ s. map_outcome f (read s))
first_map x w f read k = first_bind x next next next w read (λ y. Ok (f y.0, y.1)) k (λ a. steady_ok next (f a))
