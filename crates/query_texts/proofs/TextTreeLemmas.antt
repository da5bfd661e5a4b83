-- A text's tree, or its fault.
use Rattle.std.proofs.Common.{◌≡◌, ℕ, List, Result, Ok, Err, refl, sym, ap, subst}
use Rattle.std.specs.Result.{IfOk}
use Rattle.mon_value.specs.Answers.{◌>>=◌}
use Rattle.mon_value.specs.declared.refusals.Refusal.TheVariants as refusal
use Rattle.mql_ast.specs.Grammar.{Spells}
use Rattle.mql_ast.specs.Trees.{PipeTree}
use Rattle.mql_parse.proofs.TextComplete.{text_complete}
use Rattle.mql_parse.proofs.TextKinds.{fault_kind}
use Rattle.mql_parse.proofs.TextSound.{text_sound}
use Rattle.mql_parse.proofs.TextSteady.{fault_place, long_fault}
use Rattle.mql_parse.specs.Faults.{too_long}
use Rattle.mql_parse.specs.PipeReading.{text_outcome}
use Rattle.mql_parse.specs.declared.faults.ParseFault.{ParseFault}
use Rattle.query_texts.specs.TextTypes.{GoesByTree, HasNoTree, IsAlwaysRefused, IsTextFault, refused_as, tree_type}
use Rattle.query_texts.specs.declared.faults.TextFault.TheVariants as fault

pub goes_by_tree : (text : List ℕ) → GoesByTree text
goes_by_tree text held tree spells =
    ap (λ (answer : Result PipeTree ParseFault). refused_as fault.Parse answer >>= tree_type held)
    (text_complete text tree spells)

abbrev refusal_of : ParseFault → Result PipeTree ParseFault
refusal_of why = Err why

same_fault : (one other : ParseFault) → refusal_of one ≡ refusal_of other → one ≡ other
same_fault one other e = cc

-- the fault of a text that is read as one
text_fault : (text : List ℕ) (why : ParseFault) → text_outcome text ≡ Err why → IsTextFault text why
text_fault text why is = record {
  place = fault_place text (Err (refusal.Fault why)) is;
  kind = fault_kind text (Err (refusal.Fault why)) is;
  long = λ more. same_fault why too_long (sym (long_fault text (Err (refusal.Fault why)) is more));
}

refused_by : (text : List ℕ) (answer : Result PipeTree ParseFault) → text_outcome text ≡ answer → HasNoTree text
    → IsAlwaysRefused text
refused_by text (Ok tree) is none held =
    absurd (none tree (subst (λ (a : Result PipeTree ParseFault). IfOk a (λ t. Spells t text)) is (text_sound text)))
refused_by text (Err why) is none held = record {
  why = why;
  refused = ap (λ (answer : Result PipeTree ParseFault). refused_as fault.Parse answer >>= tree_type held) is;
  fault = text_fault text why is;
}

pub refused_text : (text : List ℕ) → HasNoTree text → IsAlwaysRefused text
refused_text text none = refused_by text (text_outcome text) refl none
