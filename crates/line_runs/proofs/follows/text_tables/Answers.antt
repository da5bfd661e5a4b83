use Rattle.std.proofs.Common.{◌≡◌, ℕ, List, Ok, Err, subst}
use Rattle.line_runs.proofs.Typed.{has_type, typed_over}
use Rattle.mon_value.specs.Answers.{Withholds}
use Rattle.mon_value.specs.declared.refusals.Refusal.{Refusal}
use Rattle.typed_trees.specs.Nodes.{typed_tree}
use Rattle.query_texts.specs.TextTypes.{text_type}
use Rattle.query_texts.specs.declared.faults.TextFault.{TextFault}
use Rattle.line_runs.proofs.follows.text_tables.Goals as goal

pub tables_over-requires-clause-typed : goal.tables_over-requires-clause-typed
tables_over-requires-clause-typed c =
    typed_over c.args.config.now.schemas (typed_tree c.in-Ok.plan.typed) c.args.rows.now c.in-Ok.ensures.plan.query
    c.requires.can.fit

pub returns-in-Ok : goal.returns-in-Ok
returns-in-Ok c = record {
  followed = record {
    typed = typed_tree c.in-Ok.plan.typed;
    type_is = subst (λ (text : List ℕ). text_type c.args.config.now.schemas text ≡ Ok (typed_tree c.in-Ok.plan.typed))
        c.as_bytes.ensures.bytes c.in-Ok.ensures.typed;
    followed = c.tables_over.ensures.followed;
  };
}

pub unreachable-requires : goal.unreachable-requires
unreachable-requires c =
    has_type c.args.config.now c.args.text.now c.args.moments.first c.args.rows.now c.requires.can c.in-Err-Fault._fault
    (subst (λ (text : List ℕ). text_type c.args.config.now.schemas text ≡ Err c.in-Err-Fault._fault)
    c.as_bytes.ensures.bytes
    (subst (λ (refused : Refusal TextFault). Withholds refused (text_type c.args.config.now.schemas
    c.as_bytes.result.now)) c.in-Err-Fault.field-0-is c.in-Err-Fault.ensures.typed))
