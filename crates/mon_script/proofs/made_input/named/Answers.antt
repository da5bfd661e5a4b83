use Rattle.std.proofs.Common.{◌∙◌, ◌++◌}
use Rattle.std.proofs.lemmas.Result.{IfOk-weaker}
use Rattle.mon_script.proofs.made_input.named.Goals as goal

pub returns : goal.returns
returns c =
    let same = c.in_ok-push_str.ensures.bytes
    ∙ (λ i. (c.in_ok-made.ensures.line i) ++ (c.as_str.ensures.bytes i)) in
    record { text = IfOk-weaker c.from_string.result _ _ (λ made is. is ∙ same) c.from_string.ensures.bytes }
