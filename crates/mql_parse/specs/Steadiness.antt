-- How far reading looks: what is read before a place is the same in two texts that are the same before that place.
use Rattle.std.specs.Prelude.{◌≡◌, ℕ, ◌+◌, ◌<◌, ◌≤◌, Bool, List, ◌++◌, length, Result, Ok, Err}
use Rattle.mon_value.specs.Answers.{◌>>=◌}
use Rattle.mql_ast.specs.Tokens.{Rest, skip}
use Rattle.mql_parse.specs.declared.faults.ParseFault.{ParseFault}
use Rattle.mql_parse.specs.Outcomes.{Outcome}
use Rattle.mql_parse.specs.Repeats.{Turn, Done, Again, Stuck}

-- what is left of two texts at one place, where both are the same before the place `e`
pub record Shares (e : ℕ) (s t : Rest) : Type 0 where
  pub common : List ℕ
  pub after : List ℕ
  pub other : List ℕ
  pub bytes : s.bytes ≡ common ++ after
  pub others : t.bytes ≡ common ++ other
  pub place : t.at ≡ s.at
  pub ends : s.at + length common ≡ e

-- the place of the first byte that is left, and of the first that is no blank
abbrev pub here : Rest → ℕ
here s = s.at

abbrev pub next : Rest → ℕ
next s = (skip s).at

-- the same was read in the other text, and what is left goes on alike
abbrev pub ReadAlike : {A : Type 0} → ℕ → A → Rest → Outcome A → Type 0
ReadAlike e a r other = (q : Rest) × ((other ≡ Ok (a, q)) × Shares e r q)

-- the other outcome is the same, where this one looks at nothing from the place `e` on
abbrev pub AgreesBefore : {A : Type 0} → (Rest → ℕ) → ℕ → Outcome A → Outcome A → Type 0
AgreesBefore to e (Ok x) other = to x.1 < e → ReadAlike e x.0 x.1 other
AgreesBefore to e (Err f) other = f.at < e → other ≡ Err f

-- an outcome looks at the place `n` or farther
abbrev pub Reaches : {A : Type 0} → (Rest → ℕ) → ℕ → Outcome A → Type 0
Reaches to n (Ok x) = n ≤ to x.1
Reaches to n (Err f) = n ≤ f.at

-- a reader that looks at a first place at least, at no place behind that of its fault, and, where it reads something,
-- at none behind a place in what it leaves
pub record Steady {A : Type 0} (from to : Rest → ℕ) (read : Rest → Outcome A) : Type 0 where
  pub reaches : (s : Rest) → Reaches to (from s) (read s)
  pub agrees : (e : ℕ) (s t : Rest) → Shares e s t → AgreesBefore to e (read s) (read t)

-- the same of a turn, which may go on with what is left behind blanks
abbrev pub TurnAgrees : {A : Type 0} → (Rest → ℕ) → ℕ → Turn A → Turn A → Type 0
TurnAgrees to e (Done a r) other = to r < e → (q : Rest) × ((other ≡ Done a q) × Shares e r q)
TurnAgrees to e (Again a r) other = next r < e → (q : Rest) × ((other ≡ Again a q) × Shares e r q)
TurnAgrees to e (Stuck f) other = f.at < e → other ≡ Stuck f

abbrev pub TurnReaches : {A : Type 0} → (Rest → ℕ) → ℕ → Turn A → Type 0
TurnReaches to n (Done a r) = n ≤ to r
TurnReaches to n (Again a r) = n ≤ next r
TurnReaches to n (Stuck f) = n ≤ f.at

pub record SteadyTurn {A : Type 0} (from to : Rest → ℕ) (turn : Rest → Turn A) : Type 0 where
  pub reaches : (s : Rest) → TurnReaches to (from s) (turn s)
  pub agrees : (e : ℕ) (s t : Rest) → Shares e s t → TurnAgrees to e (turn s) (turn t)

-- a reader of what is left alone
abbrev pub unit_read : Result Rest ParseFault → Outcome (Unit {0})
unit_read passed = passed >>= λ r. Ok (tt, r)

abbrev pub SteadyPass : (Rest → ℕ) → (Rest → ℕ) → (Rest → Result Rest ParseFault) → Type 0
SteadyPass from to pass = Steady from to (λ s. unit_read (pass s))

-- a test that looks at no place behind this one
abbrev pub SteadyTest : (Rest → ℕ) → (Rest → Bool) → Type 0
SteadyTest from test = (e : ℕ) (s t : Rest) → Shares e s t → from s < e → test t ≡ test s
