use Rattle.std.proofs.Common.{rules, ◌≡◌, ◌≤◌, ◌∙◌, ℤ, ℕ, List, Ok, Err, sym, subst, to_z, of_z, w64}
use Rattle.line_runs.proofs.Results.{ok_as}
use Rattle.line_runs.proofs.Typed.{has_type, load_within, meant_as, typed_over}
use Rattle.line_runs.specs.Questions.{meant_text}
use Rattle.mon_value.specs.Answers.{Withholds}
use Rattle.mon_value.specs.declared.refusals.Refusal.{Refusal}
use Rattle.typed_trees.specs.Meaning.{load}
use Rattle.typed_trees.specs.Nodes.{TypedTree, typed_tree}
use Rattle.query_texts.specs.TextTypes.{text_type}
use Rattle.query_texts.specs.declared.faults.TextFault.{TextFault}
use Rattle.line_runs.proofs.checks.text_over.Goals as goal

pub typed_text-text-requires-clause-typed : goal.typed_text-text-requires-clause-typed
typed_text-text-requires-clause-typed c =
    typed_over c.args.config.now.schemas (typed_tree c.in-Ok.plan.typed) c.args.rows.now c.in-Ok.ensures.plan.query
    c.requires.can.fit

pub typed_text-text-requires-clause-within : goal.typed_text-text-requires-clause-within
typed_text-text-requires-clause-within c =
    let same : to_z w64 (of_z w64 c.args.moment) ≡ c.args.moment = search rules in
    let typed_is = subst (λ (text : List ℕ). text_type c.args.config.now.schemas text
    ≡ Ok (typed_tree c.in-Ok.plan.typed)) c.as_bytes.ensures.bytes c.in-Ok.ensures.typed in
    subst (λ (m : ℤ). load (typed_tree c.in-Ok.plan.typed) c.args.rows.now m ≤ c.args.config.now.limit) (sym same)
    (load_within c.args.config.now c.args.text.now c.args.moment c.args.rows.now c.requires.can
    (typed_tree c.in-Ok.plan.typed) typed_is)

pub returns-in-Ok : goal.returns-in-Ok
returns-in-Ok c =
    let same : to_z w64 (of_z w64 c.args.moment) ≡ c.args.moment = search rules in
    let typed : TypedTree = typed_tree c.in-Ok.plan.typed in
    let typed_is = subst (λ (text : List ℕ). text_type c.args.config.now.schemas text ≡ Ok typed)
    c.as_bytes.ensures.bytes c.in-Ok.ensures.typed in
    record {
      text = ok_as (λ (text : List ℕ). text ≡ meant_text (Ok typed) c.args.rows.now (to_z w64 (of_z w64 c.args.moment)))
          (λ (text : List ℕ). text
          ≡ meant_text (text_type c.args.config.now.schemas c.args.text.now) c.args.rows.now c.args.moment)
          c.typed_text-text.result
          (λ text is. subst (λ (m : ℤ). text ≡ meant_text (Ok typed) c.args.rows.now m) same is
          ∙ meant_as c.args.config.now c.args.text.now c.args.moment c.args.rows.now c.requires.can typed
          typed_is)
          c.typed_text-text.ensures.text;
    }

pub unreachable-requires : goal.unreachable-requires
unreachable-requires c =
    has_type c.args.config.now c.args.text.now c.args.moment c.args.rows.now c.requires.can c.in-Err-Fault._fault
    (subst (λ (text : List ℕ). text_type c.args.config.now.schemas text ≡ Err c.in-Err-Fault._fault)
    c.as_bytes.ensures.bytes
    (subst (λ (refused : Refusal TextFault). Withholds refused (text_type c.args.config.now.schemas
    c.as_bytes.result.now)) c.in-Err-Fault.field-0-is c.in-Err-Fault.ensures.typed))
