use Rattle.std.proofs.Common.{◌≡◌, IfOk, List, ℕ, refl, subst}
use Rattle.mon_script.specs.Made.{made_config}
use Rattle.mon_script.specs.declared.made_texts.TheConstants.{CONFIG}
use Rattle.mon_script.proofs.made_texts.made_config.Goals as goal

spelled : CONFIG.now ≡ made_config
spelled = refl

pub returns : goal.returns
returns c = record {
  config = subst (λ (t : List ℕ). IfOk c.from_str.result (λ text. text ≡ t)) spelled c.from_str.ensures.bytes;
}
