-- What a query is told of a word is what the core tells it.
use Rattle.std.proofs.Common.{◌≡◌, ◌∙◌, ◌<◌, ◌-◌, ℕ, get_or, sym, ap, arith}
use Rattle.std.specs.Prelude.{slice_get, Some}
use Rattle.std.proofs.lemmas.Option.{get_or_from_slice_get, slice_get_within}
use Rattle.mon_config.specs.declared.config.Config.{Config}
use Rattle.mon_hints.specs.Hints.{has_bit}
use Rattle.mon_topo.proofs.PartLemmas.{length-zones_of}
use Rattle.mon_topo.specs.Settings.{zone_of_leaf}
use Rattle.mon_value.specs.Histories.{zone_numbered}
use Rattle.mon_topo.specs.Zones.{first_leaf, leaf_zones}
use Rattle.mon_topo.specs.declared.zones.ZoneSpec.{ZoneSpec}
use Rattle.mon_value.specs.declared.positions.Leaf.{Leaf}
use Rattle.mon_value.specs.declared.positions.Zone.{Zone}
use Rattle.query_core.proofs.AskLemmas.{root_below, zone_below}
use Rattle.query_core.specs.Program.{ask_of}
use Rattle.query_traces.specs.Rounds.{QuerySetting}
use Rattle.query_traces.specs.declared.asks.Ask.{Ask}
use Rattle.query_traces.specs.declared.asks.Ask.TheVariants as ask
use Rattle.core_store.proofs.PlaceLemmas.{root_there, zone_word_there}
use Rattle.plan_split.proofs.PlanBuckets.{next_below}
use Rattle.core_theory.specs.Core.{Core}
use Rattle.core_store.specs.HintWords.{HasWord, hint_word_at}
use Rattle.weave_core.specs.QueryLooks.{word_told}
use Rattle.weave_core.specs.QueryTurns.{IsAnswered, IsAsking}
use Rattle.core_store.specs.Agreements.{store_of}
use Rattle.weave_core.specs.declared.queries.Querying.{Querying}
use Rattle.mon_topo.specs.declared.sights.Sight.{Sight}
use Rattle.core_store.specs.declared.store.Store.{Store}
use Rattle.mon_hints.specs.declared.places.Place.TheVariants as word
use Rattle.write_core.specs.World.{World}
use Rattle.weave_core.proofs.AskingLemmas.{answered, seen_here, there_at}

module _ (config : Config) (core : Core (store_of config)) (k : ℕ) (store : Store) (querying : Querying) (sight : Sight)
    (asking : IsAsking config core k store querying sight) where
  abbrev world : World
  world = core.world

  abbrev asked : QuerySetting
  asked = querying.machine.setting

  abbrev asks : Ask
  asks = ask_of querying.machine.setting querying.machine.stage

  next_bucket : (i : ℕ) → get_or asked.plan.buckets i 0 < config.buckets
  next_bucket i =
      next_below config.buckets asking.shared.served.limited.some asked.plan.buckets asking.planned.buckets i

  module _ (bucket : ℕ) (e : asks ≡ ask.LoadRoot bucket) where
    root_bucket : bucket < config.buckets
    root_bucket =
        root_below asked config.buckets next_bucket querying.machine.stage bucket e

    pub root_word_there : HasWord store.words word.Root bucket
    root_word_there = root_there config world store.words asking.shared.words bucket root_bucket

    pub root_answered : IsAnswered config core k store sight
        (word_told (hint_word_at store.words word.Root bucket) sight)
    root_answered = answered config core k store querying sight asking (ask.LoadRoot bucket) e store sight
        (word_told (hint_word_at store.words word.Root bucket) sight) (record {
          told = (
            record { bits = λ zone. asking.shared.words.root zone bucket root_bucket },
            seen_here config core k store querying sight asking,
          );
          shared = asking.shared;
          sight_is = asking.reader.seen;
        })

  module _ (zone : Zone) (bucket : ℕ) (e : asks ≡ ask.LoadZone zone bucket) where
    zone_bucket : bucket < config.buckets
    zone_bucket =
        zone_below asked config.buckets next_bucket querying.machine.stage zone
        bucket e

    pub zone_there : HasWord store.words (word.Zone zone) bucket
    zone_there =
        zone_word_there config world store.words asking.shared.words bucket zone_bucket zone
        (there_at config core k store querying sight asking (ask.LoadZone zone bucket) e)

    zone_bits : (leaf : Leaf) → slice_get (leaf_zones config.topology) leaf.0 ≡ Some zone
        → has_bit (hint_word_at store.words (word.Zone zone) bucket) (leaf.0 - first_leaf config.topology zone.0)
        ≡ world.truth.bits.zone leaf.0 bucket
    zone_bits leaf at_zone =
        let same : zone_of_leaf (store_of config) leaf ≡ zone =
        get_or_from_slice_get (leaf_zones config.topology) leaf.0 zone (zone_numbered 0) at_zone in
        ap (λ (one : Zone). has_bit (hint_word_at store.words (word.Zone one) bucket)
        (leaf.0 - first_leaf config.topology
        one.0))
        (sym same)
        ∙ asking.shared.words.zone leaf bucket
        (omega (
          arith,
          slice_get_within (leaf_zones config.topology) leaf.0 zone at_zone,
          length-zones_of (λ (one : ZoneSpec). one.leaves) 0 config.topology,
        ))
        zone_bucket

    pub zone_answered : IsAnswered config core k store sight
        (word_told (hint_word_at store.words (word.Zone zone) bucket)
        sight)
    zone_answered =
        answered config core k store querying sight asking (ask.LoadZone zone bucket) e store sight
        (word_told (hint_word_at store.words (word.Zone zone) bucket) sight) (record {
          told = (record { bits = zone_bits }, seen_here config core k store querying sight asking);
          shared = asking.shared;
          sight_is = asking.reader.seen;
        })
