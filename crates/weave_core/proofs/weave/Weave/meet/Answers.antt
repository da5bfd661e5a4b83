use Rattle.std.proofs.Common.{rules, ◌≡◌, ◌∙◌, ◌<◌, List, Option, None, Some, ap, length, refl, set, slice_get, subst}
use Rattle.std.proofs.Common.{sym}
use Rattle.std.specs.Vec.{with_item, with_items}
use Rattle.weave_core.proofs.HearingLemmas.{alike, met, met_kept, nobody_meets, other_there, out_there, place_got}
use Rattle.weave_core.proofs.HearingLemmas.{place_there}
use Rattle.weave_core.proofs.WeaveStepLemmas.{changed_there, nobody_kept, set_is, set_there}
use Rattle.weave_core.specs.ActorAgreements.{actor_numbered}
use Rattle.weave_core.specs.declared.actors.Actor.{Actor}
use Rattle.weave_core.proofs.weave.Weave.meet.Goals as goal

pub returns-in_default : goal.returns-in_default
returns-in_default c =
    let taken : None ≡ actor_numbered c.args.self.now.actors.items c.args.other = search rules in
    let left : c.take_actor.new.actors ≡ set c.args.self.now.actors.items c.args.other None = search rules in
    record {
      kept = nobody_kept c.args.self.now c.args.other taken (record {
        store = c.args.self.now.store;
        actors = with_items c.args.self.now.actors c.take_actor.new.actors;
      }) refl (set_is c.args.self.now.actors c.take_actor.new.actors c.args.other None left) c.requires.kept;
      met = λ config state agrees. absurd (nobody_meets c.args.self.now c.args.actor c.args.other taken config state
          agrees
          (c.requires.may config state agrees));
    }

pub index_mut-place-requires : goal.index_mut-place-requires
index_mut-place-requires c =
    let taken : Some c.in-Some.ended ≡ actor_numbered c.args.self.now.actors.items c.args.other = search rules in
    let left : c.take_actor.new.actors ≡ set c.args.self.now.actors.items c.args.other None = search rules in
    let there : c.args.actor < length c.args.self.now.actors.items = place_there c.args.self.now c.args.actor
    c.args.other
    c.in-Some.ended taken c.requires.kept c.requires.may in
    let here : c.args.actor < length c.take_actor.new.actors = out_there c.args.self.now.actors.items
    c.take_actor.new.actors
    c.args.other c.args.actor left there in
    search rules

pub hear-requires : goal.hear-requires
hear-requires c =
    let taken : Some c.in-Some.ended ≡ actor_numbered c.args.self.now.actors.items c.args.other = search rules in
    let left : c.take_actor.new.actors ≡ set c.args.self.now.actors.items c.args.other None = search rules in
    let got : slice_get (set c.args.self.now.actors.items c.args.other None) c.args.actor
    ≡ Some c.index_mut-place.result.now
    = place_got c.args.self.now c.args.actor c.args.other c.in-Some.ended taken c.requires.kept c.requires.may
    (with_items c.args.self.now.actors c.take_actor.new.actors).items
    (set_is c.args.self.now.actors c.take_actor.new.actors c.args.other None left) c.index_mut-place.result.now
    c.index_mut-place.ensures.value in
    record {
      alike = alike c.args.self.now c.args.actor c.args.other c.in-Some.ended taken c.requires.kept c.requires.may
          c.index_mut-place.result.now got;
    }

pub put_actor-requires : goal.put_actor-requires
put_actor-requires c =
    let taken : Some c.in-Some.ended ≡ actor_numbered c.args.self.now.actors.items c.args.other = search rules in
    let left : c.take_actor.new.actors ≡ set c.args.self.now.actors.items c.args.other None = search rules in
    let same : c.as_mut_slice-2.result.now
    ≡ set (with_items c.args.self.now.actors c.take_actor.new.actors).items c.args.actor c.hear.new.place =
    search rules in
    record {
      there = subst (λ (all : List (Option Actor)). c.args.other < length all) (sym same)
          (set_there (with_items c.args.self.now.actors c.take_actor.new.actors).items c.args.actor c.args.other
          c.hear.new.place
          (changed_there c.args.self.now.actors c.take_actor.new.actors c.args.other c.args.other None left
          (other_there c.args.self.now c.args.actor c.args.other c.in-Some.ended taken)));
    }

pub returns : goal.returns
returns c =
    let taken : Some c.in-Some.ended ≡ actor_numbered c.args.self.now.actors.items c.args.other = search rules in
    let left : c.take_actor.new.actors ≡ set c.args.self.now.actors.items c.args.other None = search rules in
    let out : (with_items c.args.self.now.actors c.take_actor.new.actors).items
    ≡ set c.args.self.now.actors.items c.args.other None
    = set_is c.args.self.now.actors c.take_actor.new.actors c.args.other None left in
    let got : slice_get (set c.args.self.now.actors.items c.args.other None) c.args.actor
    ≡ Some c.index_mut-place.result.now
    = place_got c.args.self.now c.args.actor c.args.other c.in-Some.ended taken c.requires.kept c.requires.may
    (with_items c.args.self.now.actors c.take_actor.new.actors).items out c.index_mut-place.result.now
    c.index_mut-place.ensures.value in
    let put : c.put_actor.new.actors
    ≡ set (set (with_items c.args.self.now.actors c.take_actor.new.actors).items c.args.actor c.hear.new.place)
    c.args.other
    (Some c.in-Some.ended) = search rules in
    let items : (with_items (with_item (with_items c.args.self.now.actors c.take_actor.new.actors) c.args.actor
    c.hear.new.place) c.put_actor.new.actors).items
    ≡ set (set (set c.args.self.now.actors.items c.args.other None) c.args.actor c.hear.new.place) c.args.other
    (Some c.in-Some.ended)
    = set_is (with_item (with_items c.args.self.now.actors c.take_actor.new.actors) c.args.actor c.hear.new.place)
    c.put_actor.new.actors c.args.other (Some c.in-Some.ended) put
    ∙ ap (λ (all : List (Option Actor)).
    set (set all c.args.actor c.hear.new.place) c.args.other (Some c.in-Some.ended)) out in
    record {
      kept = met_kept c.args.self.now c.args.actor c.args.other c.in-Some.ended taken c.requires.kept c.requires.may
          c.index_mut-place.result.now got c.hear.new.place c.hear.ensures.heard (record {
            store = c.args.self.now.store;
            actors = with_items (with_item (with_items c.args.self.now.actors c.take_actor.new.actors) c.args.actor
                c.hear.new.place) c.put_actor.new.actors;
          }) refl items;
      met = met c.args.self.now c.args.actor c.args.other c.in-Some.ended taken c.requires.kept c.requires.may
          c.index_mut-place.result.now got c.hear.new.place c.hear.ensures.heard (record {
            store = c.args.self.now.store;
            actors = with_items (with_item (with_items c.args.self.now.actors c.take_actor.new.actors) c.args.actor
                c.hear.new.place) c.put_actor.new.actors;
          }) refl items;
    }
