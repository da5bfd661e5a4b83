-- Until when standing queries are due at no moment.
use Rattle.std.specs.Prelude.{◌≡◌, ◌<◌, ◌≤◌, ◌∷◌, [], ℕ, ℤ, List, Option, Some, None, ⊤, take, drop}
use Rattle.std.specs.List.{AllByRecursion}
use Rattle.standing.specs.DueLists.{seconds, times_due}
use Rattle.standing.specs.declared.blocks.TheConstants.{BLOCK}
use Rattle.standing.specs.declared.queries.StandingQuery.{StandingQuery}

-- behind this last moment, a query is due at no moment below a bound
abbrev pub IsQuietUntil : Option ℤ → ℕ → StandingQuery → Type 0
IsQuietUntil last bound query = (moment : ℤ) → seconds moment < bound → times_due last moment query ≡ 0

-- a moment is none before the last one
abbrev pub IsOnward : Option ℤ → ℤ → Type 0
IsOnward None moment = ⊤
IsOnward (Some last) moment = seconds last ≤ seconds moment

-- queries lie in blocks in the order of adding, and those of each block are quiet until its next moment
abbrev pub AreQuiet : Option ℤ → List ℕ → List StandingQuery → Type 0
AreQuiet last [] queries = queries ≡ []
AreQuiet last (next ∷ nexts) queries =
    AllByRecursion (IsQuietUntil last next) (take BLOCK queries) × AreQuiet last nexts (drop BLOCK queries)
