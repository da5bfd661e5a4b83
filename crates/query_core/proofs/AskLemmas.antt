-- What is asked of what a stage is at.
use Rattle.std.proofs.Common.{◌≡◌, ℕ, ◌<◌, get_or, length, ap, subst}
use Rattle.mon_value.specs.declared.positions.Leaf.{Leaf}
use Rattle.mon_value.specs.declared.positions.Zone.{Zone}
use Rattle.query_core.specs.Machine.{slots_of, slots_visited}
use Rattle.query_core.specs.Program.{ask_of}
use Rattle.query_traces.specs.Rounds.{QuerySetting}
use Rattle.query_traces.specs.declared.asks.Ask.TheVariants as ask
use Rattle.query_core.specs.declared.stages.Stage.{Stage}
use Rattle.query_core.specs.declared.stages.Stage.TheVariants as at

-- the slots of a leaf that is asked of are those of the visit
pub slots_same : (asked : QuerySetting) (stage : Stage) (leaf : Leaf) → ask_of asked stage ≡ ask.Visit leaf
    → slots_of stage leaf ≡ slots_visited stage
slots_same asked (at.Rooting loading) leaf e = absurd cc
slots_same asked (at.Entering course round loading) leaf e = absurd cc
slots_same asked (at.Resolving course round range) leaf e = absurd cc
slots_same asked (at.Reloading course round loading) leaf e = absurd cc
slots_same asked (at.Visiting course round visits other) leaf e =
    let same : leaf ≡ other = cc in ap (slots_of (at.Visiting course round visits other)) same
slots_same asked (at.Ended end) leaf e = absurd cc

-- the buckets that are asked of are buckets
module _ (asked : QuerySetting) (count : ℕ) (below : (i : ℕ) → get_or asked.plan.buckets i 0 < count) where
  pub root_below : (stage : Stage) (bucket : ℕ) → ask_of asked stage ≡ ask.LoadRoot bucket → bucket < count
  root_below (at.Rooting loading) bucket e =
      let same : get_or asked.plan.buckets (length loading.words) 0 ≡ bucket = cc in
      subst (λ (n : ℕ). n < count) same (below (length loading.words))
  root_below (at.Entering course round loading) bucket e = absurd cc
  root_below (at.Resolving course round range) bucket e = absurd cc
  root_below (at.Reloading course round loading) bucket e = absurd cc
  root_below (at.Visiting course round visits leaf) bucket e = absurd cc
  root_below (at.Ended end) bucket e = absurd cc

  pub zone_below : (stage : Stage) (zone : Zone) (bucket : ℕ) → ask_of asked stage ≡ ask.LoadZone zone bucket → bucket
      < count
  zone_below (at.Rooting loading) zone bucket e = absurd cc
  zone_below (at.Entering course round loading) zone bucket e =
      let same : get_or asked.plan.buckets (length loading.words) 0 ≡ bucket = cc in
      subst (λ (n : ℕ). n < count) same (below (length loading.words))
  zone_below (at.Resolving course round range) zone bucket e = absurd cc
  zone_below (at.Reloading course round loading) zone bucket e =
      let same : get_or asked.plan.buckets (length loading.words) 0 ≡ bucket = cc in
      subst (λ (n : ℕ). n < count) same (below (length loading.words))
  zone_below (at.Visiting course round visits leaf) zone bucket e = absurd cc
  zone_below (at.Ended end) zone bucket e = absurd cc
