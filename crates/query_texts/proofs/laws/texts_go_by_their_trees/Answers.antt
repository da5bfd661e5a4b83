use Rattle.query_texts.proofs.TextTreeLemmas.{goes_by_tree, refused_text}
use Rattle.query_texts.proofs.laws.texts_go_by_their_trees.Goals as goal

pub returns : goal.returns
returns c = record { spelled = goes_by_tree; unspelled = refused_text }
