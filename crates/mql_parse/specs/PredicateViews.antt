-- How a condition compares, apart from the code.
use Rattle.mql_parse.specs.declared.conditions.Compared.{Compared}
use Rattle.mql_parse.specs.declared.conditions.Compared.TheVariants as compared
use Rattle.mql_parse.specs.PredicateReading as predicates

abbrev pub compared_seen : Compared → predicates.Compared
compared_seen (compared.Value how) = predicates.WithValue how
compared_seen compared.Pattern = predicates.WithPattern
