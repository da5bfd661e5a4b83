use Rattle.std.proofs.Common.{◌≡◌, IfOk, List, ℕ, refl, subst}
use Rattle.mon_script.specs.Made.{made_script}
use Rattle.mon_script.specs.declared.made_texts.TheConstants.{SCRIPT}
use Rattle.mon_script.proofs.made_texts.made_script.Goals as goal

spelled : SCRIPT.now ≡ made_script
spelled = refl

pub returns : goal.returns
returns c = record {
  script = subst (λ (t : List ℕ). IfOk c.from_str.result (λ text. text ≡ t)) spelled c.from_str.ensures.bytes;
}
