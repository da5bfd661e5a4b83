use Rattle.std.proofs.Common.{◌≡◌, IfOk, Option, of_z, refl, rules, subst, to_z, w64}
use Rattle.query_core.specs.Program.{ask_of}
use Rattle.query_traces.specs.declared.asks.Told.{Told}
use Rattle.weave_core.proofs.AskingLemmas.{may_tell}
use Rattle.weave_core.proofs.QuerySideLemmas.{asked_there, told_so}
use Rattle.weave_core.proofs.QueryTurnLemmas.{answered_turns}
use Rattle.weave_core.specs.QuerySides.{TellsThere}
use Rattle.weave_core.specs.QueryTurns.{AnswersSo}
use Rattle.weave_core.proofs.queries.query.Goals as goal
use Rattle.mon_value.proofs.PlainLemmas.{if_ok_on}

pub find_there-requires : goal.find_there-requires
find_there-requires c =
    let w = c.requires.asking in
    record {
      goes_on = w.asking.goes_on;
      asked = asked_there c.args.store.now c.args.querying c.args.sight.now _ (search rules) w;
    }

pub told_on-requires : goal.told_on-requires
told_on-requires c =
    let w = c.requires.asking in
    let passed : to_z w64 (of_z w64 c.args.querying.moment) ≡ c.args.querying.moment = search rules in
    let tells = subst (λ answer. IfOk answer (λ (found : Option Told). TellsThere c.args.store.now c.args.sight.now
    c.args.querying.machine (to_z w64 (of_z w64 c.args.querying.moment))
    (ask_of c.args.querying.machine.setting c.args.querying.machine.stage) found c.find_there.new.store
    c.find_there.new.sight)) c.in-Ok-Some.is c.find_there.ensures.told in
    record {
      may = may_tell w.config w.core w.k c.args.store.now c.args.querying c.args.sight.now w.asking c.in-Ok-Some.told
          (subst (AnswersSo w.config w.core w.k c.find_there.new.store c.args.sight.now c.find_there.new.sight)
          c.in-Ok-Some.field-0-is
          (told_so w.config w.core w.k c.args.store.now c.args.querying c.args.sight.now w.asking
          (to_z w64 (of_z w64 c.args.querying.moment)) passed c.in-Ok-Some.field-0 c.find_there.new.store
          c.find_there.new.sight tells)).told;
    }

pub returns-in-Ok-Some : goal.returns-in-Ok-Some
returns-in-Ok-Some c =
    let passed : to_z w64 (of_z w64 c.args.querying.moment) ≡ c.args.querying.moment = search rules in
    let tells = subst (λ answer. IfOk answer (λ (found : Option Told). TellsThere c.args.store.now c.args.sight.now
    c.args.querying.machine (to_z w64 (of_z w64 c.args.querying.moment))
    (ask_of c.args.querying.machine.setting c.args.querying.machine.stage) found c.find_there.new.store
    c.find_there.new.sight)) c.in-Ok-Some.is c.find_there.ensures.told in
    record {
      turn = λ config core k asking. if_ok_on _ _ (λ turn by.
          answered_turns config core k c.args.store.now c.args.querying c.args.sight.now asking c.find_there.new.store
          c.find_there.new.sight c.in-Ok-Some.field-0 c.in-Ok-Some.told c.in-Ok-Some.field-0-is
          (told_so config core k c.args.store.now c.args.querying c.args.sight.now asking
          (to_z w64 (of_z w64 c.args.querying.moment)) passed c.in-Ok-Some.field-0 c.find_there.new.store
          c.find_there.new.sight tells) turn by) c.told_on.result c.told_on.ensures.turns;
    }

pub returns-in-Ok-None : goal.returns-in-Ok-None
returns-in-Ok-None c =
    let passed : to_z w64 (of_z w64 c.args.querying.moment) ≡ c.args.querying.moment = search rules in
    let tells = subst (λ answer. IfOk answer (λ (found : Option Told). TellsThere c.args.store.now c.args.sight.now
    c.args.querying.machine (to_z w64 (of_z w64 c.args.querying.moment))
    (ask_of c.args.querying.machine.setting c.args.querying.machine.stage) found c.find_there.new.store
    c.find_there.new.sight)) c.in-Ok-None.is c.find_there.ensures.told in
    record {
      turn = λ config core k asking. (
        refl,
        subst (AnswersSo config core k c.find_there.new.store c.args.sight.now c.find_there.new.sight)
            c.in-Ok-None.field-0-is
            (told_so config core k c.args.store.now c.args.querying c.args.sight.now asking
            (to_z w64 (of_z w64 c.args.querying.moment)) passed c.in-Ok-None.field-0 c.find_there.new.store
            c.find_there.new.sight tells),
      );
    }
