-- What holds of a turn.
use Rattle.mql_ast.specs.Tokens.{Rest}
use Rattle.mql_parse.specs.Repeats.{Turn, Done, Again, Stuck}

-- where it ends this holds, and where it goes on this
abbrev pub OfTurn : {A : Type 0} → Turn A → (A → Rest → Type 0) → (A → Rest → Type 0) → Type 0
OfTurn (Done a r) ends on = ends a r
OfTurn (Again a r) ends on = on a r
OfTurn (Stuck f) ends on = Unit {0}
