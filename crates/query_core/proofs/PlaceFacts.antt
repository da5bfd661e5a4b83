-- What a query asks of at each of its stages is there in the store.
use Rattle.std.proofs.Common.{◌<◌, ℕ, List, length, sym, ap, subst, arith}
use Rattle.mon_value.specs.declared.histories.Histories.{Histories}
use Rattle.mon_topo.specs.Settings.{Setting}
use Rattle.mon_topo.specs.Zones.{no_zone}
use Rattle.mon_topo.specs.declared.zones.ZoneSpec.{ZoneSpec}
use Rattle.mon_value.specs.declared.positions.Leaf.{Leaf}
use Rattle.mon_value.specs.declared.positions.Range.{Range}
use Rattle.query_traces.specs.AskedPlaces.{IsThere}
use Rattle.query_core.specs.Program.{ask_of}
use Rattle.query_traces.specs.Rounds.{Round, QuerySetting}
use Rattle.mon_topo.specs.Views.{View}
use Rattle.query_traces.specs.declared.areas.Area.{Area}
use Rattle.query_core.specs.declared.courses.Course.{Course}
use Rattle.query_core.specs.declared.stages.Stage.{Stage}
use Rattle.query_core.specs.declared.stages.Stage.TheVariants as at
use Rattle.query_core.proofs.TraceClaims as claim
use Rattle.mon_topo.proofs.SizeLemmas.{parts_so_far}
use Rattle.query_traces.proofs.ZoneFacts.{leaves_next}

module _ (store : Setting) (setting : QuerySetting) (at_entry : Histories) (now : View) (avoided : List Leaf) where
  zone_there : (below k : ℕ) (course : Course) (round : Round)
      → claim.InZone store setting at_entry now avoided below k course round → round.area.zone.0 < length store.zones
  zone_there below k course round is = subst (λ (area : Area). area.zone.0 < length store.zones) (sym is.area) is.there

  pub is_there : (stage : Stage) → claim.StageSo store setting at_entry now avoided stage
      → IsThere store.zones (ask_of setting stage)
  is_there (at.Rooting loading) is = tt
  is_there (at.Entering course round loading) is = zone_there _ is.k course round is.zone
  is_there (at.Resolving course round range) is =
      omega (
        arith,
        is.more,
        ap (λ (r : Range). r.0) is.next,
        parts_so_far (λ (zone : ZoneSpec). zone.ranges) store.zones is.k no_zone is.zone.there,
      )
  is_there (at.Reloading course round loading) is = zone_there _ is.k course round is.zone
  is_there (at.Visiting course round visits leaf) is =
      omega (
        arith,
        is.visits_are.ours.0.1,
        leaves_next store.zones is.k is.zone.there,
        parts_so_far (λ (zone : ZoneSpec). zone.leaves) store.zones is.k no_zone is.zone.there,
      )
  is_there (at.Ended end) is = tt
