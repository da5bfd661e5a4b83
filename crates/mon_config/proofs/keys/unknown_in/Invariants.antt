-- no key so far is unknown, so the first unknown key is that of the rest
use Rattle.std.proofs.Common.{◌≡◌, map}
use Rattle.mon_config.specs.Objects.{keys_of_form}
use Rattle.mon_config.proofs.UnknownKeyLemmas.{first_unknown}
use Rattle.mon_config.proofs.keys.unknown_in.Given as goal

abbrev pub invariant-loop-key : goal.invariant-loop-key
invariant-loop-key l = first_unknown (keys_of_form l.form) (map (λ e. e.0) l.members.entries) ≡ first_unknown
    (keys_of_form l.form) l.key-iterator
