use Rattle.weave_core.proofs.weave.Weave.config.Goals as goal

pub returns : goal.returns
returns c = record { config = λ config state agrees. agrees.shared.config_is }
