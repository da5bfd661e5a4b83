use Rattle.std.proofs.Common.{◌≡◌, ◌<◌, List, Option, Some, length, refl, rules, set, subst, sym}
use Rattle.std.specs.Vec.{with_items}
use Rattle.weave_core.proofs.DeclareLemmas.{actor_there, declared, declared_kept, served}
use Rattle.weave_core.proofs.WeaveStepLemmas.{set_is}
use Rattle.weave_core.specs.declared.actors.Actor.{Actor}
use Rattle.weave_core.proofs.weave.Weave.declare.Goals as goal

pub new-requires : goal.new-requires
new-requires c = record { served = served c.args.self.now c.requires.kept }

pub put_actor-requires : goal.put_actor-requires
put_actor-requires c =
    let same : c.as_mut_slice.result.now ≡ c.args.self.now.actors.items = search rules in
    record {
      there = subst (λ (all : List (Option Actor)). c.args.actor < length all) (sym same)
          (actor_there c.args.self.now c.args.actor c.requires.most c.requires.kept);
    }

pub returns : goal.returns
returns c =
    let put : c.put_actor.new.actors ≡ set c.args.self.now.actors.items c.args.actor (Some c.in_ok-own.own) =
    search rules in
    let items : (with_items c.args.self.now.actors c.put_actor.new.actors).items
    ≡ set c.args.self.now.actors.items c.args.actor (Some c.in_ok-own.own)
    = set_is c.args.self.now.actors c.put_actor.new.actors c.args.actor (Some c.in_ok-own.own) put in
    record {
      kept = declared_kept c.args.self.now c.args.actor c.args.call (record {
        store = c.args.self.now.store;
        actors = with_items c.args.self.now.actors c.put_actor.new.actors;
      }) c.in_ok-own.own c.requires.most refl items c.in_ok-own.ensures.new c.requires.kept c.requires.may;
      declared = λ config state agrees. declared c.args.self.now c.args.actor c.args.call (record {
        store = c.args.self.now.store;
        actors = with_items c.args.self.now.actors c.put_actor.new.actors;
      }) c.in_ok-own.own c.requires.most refl items c.in_ok-own.ensures.new config state agrees
          (c.requires.may config state agrees);
    }
