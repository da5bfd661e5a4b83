use Rattle.run_theory.proofs.Exact.{first_place_holds, first_place_within, last_end_holds}
use Rattle.run_theory.proofs.Lists.{first_place_behind, last_end_within}
use Rattle.run_theory.proofs.laws.places_are_found.Goals as goal

pub returns : goal.returns
returns g c = record {
  end_holds = last_end_holds;
  end_least = last_end_within;
  place_holds = first_place_holds;
  place_within = first_place_within;
  place_greatest = first_place_behind;
}
