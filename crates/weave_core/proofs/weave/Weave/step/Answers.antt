use Rattle.std.proofs.Common.{◌≡◌, ◌∙◌, ◌<◌, List, None, Option, Some, ap, length, refl, rules, set, subst, sym}
use Rattle.std.specs.Vec.{with_items}
use Rattle.weave_core.proofs.WeaveStepLemmas.{changed_there, in_place, is_kept, is_somewhere, is_stepped, nobody_kept}
use Rattle.weave_core.proofs.WeaveStepLemmas.{nobody_refused, set_is}
use Rattle.weave_core.specs.ActorAgreements.{actor_numbered}
use Rattle.weave_core.specs.declared.actors.Actor.{Actor}
use Rattle.weave_core.proofs.weave.Weave.step.Goals as goal

pub returns-in_default : goal.returns-in_default
returns-in_default c =
    let taken : None ≡ actor_numbered c.args.self.now.actors.items c.args.actor = search rules in
    let left : c.take_actor.new.actors ≡ set c.args.self.now.actors.items c.args.actor None = search rules in
    let out : (with_items c.args.self.now.actors c.take_actor.new.actors).items ≡ set c.args.self.now.actors.items
    c.args.actor None
    = set_is c.args.self.now.actors c.take_actor.new.actors c.args.actor None left in
    record {
      kept = nobody_kept c.args.self.now c.args.actor taken (record {
        store = c.args.self.now.store;
        actors = with_items c.args.self.now.actors c.take_actor.new.actors;
      }) refl out c.requires.kept;
      stepped = nobody_refused c.args.self.now c.args.actor taken (record {
        store = c.args.self.now.store;
        actors = with_items c.args.self.now.actors c.take_actor.new.actors;
      }) refl out;
    }

pub step_actor-requires : goal.step_actor-requires
step_actor-requires c =
    let taken : Some c.in-Some.own ≡ actor_numbered c.args.self.now.actors.items c.args.actor = search rules in
    record { somewhere = is_somewhere c.args.self.now c.args.actor c.in-Some.own taken c.requires.kept }

pub put_actor-requires : goal.put_actor-requires
put_actor-requires c =
    let taken : Some c.in-Some.own ≡ actor_numbered c.args.self.now.actors.items c.args.actor = search rules in
    let left : c.take_actor.new.actors ≡ set c.args.self.now.actors.items c.args.actor None = search rules in
    let same : c.as_mut_slice-2.result.now ≡ (with_items c.args.self.now.actors c.take_actor.new.actors).items =
    search rules in
    record {
      there = subst (λ (all : List (Option Actor)). c.args.actor < length all) (sym same)
          (changed_there c.args.self.now.actors c.take_actor.new.actors c.args.actor c.args.actor None left
          (in_place c.args.self.now c.args.actor c.in-Some.own taken));
    }

pub returns : goal.returns
returns c =
    let taken : Some c.in-Some.own ≡ actor_numbered c.args.self.now.actors.items c.args.actor = search rules in
    let left : c.take_actor.new.actors ≡ set c.args.self.now.actors.items c.args.actor None = search rules in
    let put : c.put_actor.new.actors
    ≡ set (with_items c.args.self.now.actors c.take_actor.new.actors).items c.args.actor (Some c.in_ok-own.own) =
    search rules in
    let items : (with_items (with_items c.args.self.now.actors c.take_actor.new.actors) c.put_actor.new.actors).items
    ≡ set (set c.args.self.now.actors.items c.args.actor None) c.args.actor (Some c.in_ok-own.own)
    = set_is (with_items c.args.self.now.actors c.take_actor.new.actors) c.put_actor.new.actors c.args.actor
    (Some c.in_ok-own.own) put
    ∙ ap (λ (all : List (Option Actor)). set all c.args.actor (Some c.in_ok-own.own))
    (set_is c.args.self.now.actors c.take_actor.new.actors c.args.actor None left) in
    record {
      kept = is_kept c.args.self.now c.args.actor c.in-Some.own taken (record {
        store = c.step_actor.new.store;
        actors = with_items (with_items c.args.self.now.actors c.take_actor.new.actors) c.put_actor.new.actors;
      }) c.in_ok-own.own items c.in_ok-own.stepped c.in_ok-own.ensures.stepped c.ok_or.result c.ok_or.ensures.value
          c.requires.kept;
      stepped = is_stepped c.args.self.now c.args.actor c.in-Some.own taken (record {
        store = c.step_actor.new.store;
        actors = with_items (with_items c.args.self.now.actors c.take_actor.new.actors) c.put_actor.new.actors;
      }) c.in_ok-own.own items c.in_ok-own.stepped c.in_ok-own.ensures.stepped c.ok_or.result c.ok_or.ensures.value;
    }
