-- Where the first token of a pipe is at fault, `fetch` is expected.
use Rattle.std.proofs.Common.{◌≡◌, ℕ, ◌+◌, ◌<◌, ◌≤◌, zero, suc, Bool, true, false, ◌==◌, List, [], ◌∷◌, codes, refl}
use Rattle.std.proofs.Common.{sym, ◌∙◌, subst, arith, if◌then◌else◌, Ok, Err}
use Rattle.std.proofs.lemmas.Bool.{false≢true}
use Rattle.mon_value.specs.Answers.{◌>>=◌}
use Rattle.mql_ast.specs.Trees.{Flow}
use Rattle.mql_ast.specs.Tokens.{is_alphabet, Rest, first_of, behind_first, head, behind, skip}
use Rattle.mql_parse.specs.declared.faults.ParseFault.{ParseFault}
use Rattle.mql_parse.specs.declared.faults.ParseKind.TheVariants.{BadToken, Expected}
use Rattle.mql_parse.specs.declared.faults.What.{What}
use Rattle.mql_parse.specs.declared.faults.What.TheVariants as what
use Rattle.mql_parse.specs.Outcomes.{Outcome, kind_of_fault, unexpected_fault, exact}
use Rattle.mql_parse.specs.PipeReading as pipes
use Rattle.mql_parse.specs.Steadiness.{next, Reaches}
use Rattle.mql_parse.proofs.Steady.{skip_on, reaches_before, steady_to, steady_map}
use Rattle.mql_parse.proofs.PipeSteady.{behind_fetch, fetch_steady_by, operations_steady, branches_steady_by}
use Rattle.mql_parse.proofs.PipeSteady.{pipe_steady}

-- where the fault stands at this place and expects something, this is `fetch`
abbrev pub FetchAt : ℕ → ParseFault → Type 0
FetchAt n f = f.at ≡ n → (w : What) → f.kind ≡ Expected w → w ≡ what.Fetch

-- the same of a reader from this place on, which leaves what stands behind it
abbrev pub FetchFirst : {A : Type 0} → ℕ → Outcome A → Type 0
FetchFirst n (Ok x) = n < next x.1
FetchFirst n (Err f) = FetchAt n f

later : {A : Type 0} (n : ℕ) (o : Outcome A) → Reaches next (n + 1) o → FetchFirst n o
later n (Ok x) h = omega (arith, h)
later n (Err f) h = λ e w k. absurd (omega (arith, h, e))

first_then : {A B : Type 0} (n : ℕ) (o : Outcome A) (on : A × Rest → Outcome B) → FetchFirst n o →
    ((x : A × Rest) → Reaches next (next x.1) (on x)) → FetchFirst n (o >>= on)
first_then n (Ok x) on h g = later n (on x) (reaches_before next (n + 1) (next x.1) (on x) (omega (arith, h)) (g x))
first_then n (Err f) on h g = h

first_if : {A : Type 0} (n : ℕ) (t : Bool) (o p : Outcome A) → (t ≡ true → FetchFirst n o) →
    (t ≡ false → FetchFirst n p) → FetchFirst n (if t then o else p)
first_if n true o p f g = f refl
first_if n false o p f g = g refl

expected_fetch : (bs : List ℕ) (w : What) → kind_of_fault what.Fetch bs ≡ Expected w → w ≡ what.Fetch
expected_fetch [] w h = cc
expected_fetch (b ∷ bs) w h = either (is_alphabet b) h
  where
    either : (t : Bool) → (if t then Expected what.Fetch else BadToken) ≡ Expected w → w ≡ what.Fetch
    either true h = cc
    either false h = absurd (cc)

-- behind a byte that passes a test
passed : (test : ℕ → Bool) → test 0 ≡ false → (s : Rest) → test (head s) ≡ true → s.at + 1 ≤ (behind s).at
passed test z s h = of_bytes s.at s.bytes h
  where
    of_bytes : (at : ℕ) (bs : List ℕ) → test (first_of bs) ≡ true → at + 1 ≤ (behind_first at bs).at
    of_bytes at [] h = absurd (false≢true (sym z ∙ h))
    of_bytes at (b ∷ bs) h = omega arith

fetch_first : (t : Rest) → (head t == 102) ≡ true → FetchFirst t.at (pipes.fetch t)
unfolding pipes.fetch
fetch_first t h =
    let m = behind t in
    let on = exact what.Fetch (codes "etch") m in
    subst (λ b. FetchFirst t.at ((if b then on else Err (unexpected_fault what.Fetch t)) >>= behind_fetch t.at)) (sym h)
    (later t.at (on >>= behind_fetch t.at)
    (reaches_before next (t.at + 1) m.at (on >>= behind_fetch t.at) (passed (λ b. b == 102) refl t h)
    ((steady_to _ _ (fetch_steady_by t.at (codes "etch"))).reaches m)))

group_first : (d : ℕ) (t : Rest) → (head t == 123) ≡ true → FetchFirst t.at (pipes.pipe_group d t (behind t))
unfolding pipes.pipe_group
group_first zero t h = λ e w k. absurd (cc)
group_first (suc d) t h =
    let m = behind t in
    let o = pipes.branches_with (pipes.pipe d) t.at m in
    later t.at o
    (reaches_before next (t.at + 1) (next m) o (omega (arith, passed (λ b. b == 123) refl t h, skip_on m))
    ((branches_steady_by d (pipe_steady d) t.at).reaches m))

source_first : (d : ℕ) (s : Rest) → FetchFirst (skip s).at (pipes.source d s)
unfolding pipes.source_with
source_first d s =
    let t = skip s in
    first_if t.at (head t == 102) (pipes.fetch t) _ (fetch_first t)
    (λ _. first_if t.at (head t == 123) (pipes.pipe_group d t (behind t)) (Err (unexpected_fault what.Fetch t))
    (group_first d t) (λ _ e. expected_fetch t.bytes))

pub pipe_first : (d : ℕ) (s : Rest) → FetchFirst (skip s).at (pipes.pipe d s)
unfolding pipes.pipe_with
pipe_first d s =
    first_then (skip s).at (pipes.source d s) _ (source_first d s)
    (λ source. (steady_map next next (λ ops. Flow source.0 ops) (pipes.operations d) (operations_steady d)).reaches
    source.1)
