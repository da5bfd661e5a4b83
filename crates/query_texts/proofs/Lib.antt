mod PlanLemmas
mod TextTreeLemmas
