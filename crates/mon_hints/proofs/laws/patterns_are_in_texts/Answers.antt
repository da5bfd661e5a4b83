use Rattle.mon_hints.proofs.PatternLemmas.{are_in_text, relation_passes, test_passes}
use Rattle.mon_hints.proofs.laws.patterns_are_in_texts.Goals as goal
use Rattle.mon_hints.specs.Hints.{front}

pub returns-clause-among : goal.returns-clause-among
returns-clause-among c = are_in_text

pub returns-clause-passing : goal.returns-clause-passing
returns-clause-passing c pieces text test = relation_passes test front pieces text

pub returns-clause-computed : goal.returns-clause-computed
returns-clause-computed c pieces text test = test_passes test front pieces text
