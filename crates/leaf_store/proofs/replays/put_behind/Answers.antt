use Rattle.std.proofs.Common.{◌≡◌, ◌∙◌, ◌++◌, ◌∷◌, [], List, append-nil, ap, subst, sym}
use Rattle.leaf_store.specs.declared.kept.Kept.{Kept}
use Rattle.leaf_store.specs.within.Replicas.{IsInTwoParts, shown_entries}
use Rattle.leaf_store.proofs.StepLemmas.{can_settle, settled}
use Rattle.leaf_store.proofs.replays.put_behind.Goals as goal

pub put_entry-requires-clause-settles : goal.put_entry-requires-clause-settles
put_entry-requires-clause-settles c =
    can_settle c.args.replicas.now.entries c.args.kept.now.items c.args.entry [] c.requires.holds

pub returns-clause-holds : goal.returns-clause-holds
returns-clause-holds c =
    let old = c.args.replicas.now.entries in
    let new = c.put_entry.new.replicas.entries in
    let ks = c.args.kept.now.items in
    let own = c.in_ok-own.own in
    let step = settled old new ks own c.args.entry [] c.requires.holds c.in_ok-own.ensures.settled in
    let pushed : c.push.new.self.items ≡ ks ++ own ∷ [] = c.push.ensures.added
    ∙ ap (λ (all : List Kept). all ++ own ∷ []) c.reserve_one.ensures.kept in
    subst (λ (all : List Kept). IsInTwoParts new all []) (sym pushed) step.0

pub returns-clause-history : goal.returns-clause-history
returns-clause-history c =
    let old = c.args.replicas.now.entries in
    let new = c.put_entry.new.replicas.entries in
    let ks = c.args.kept.now.items in
    let own = c.in_ok-own.own in
    let step = settled old new ks own c.args.entry [] c.requires.holds c.in_ok-own.ensures.settled in
    let pushed : c.push.new.self.items ≡ ks ++ own ∷ [] = c.push.ensures.added
    ∙ ap (λ (all : List Kept). all ++ own ∷ []) c.reserve_one.ensures.kept in
    ap (shown_entries new) pushed ∙ sym (append-nil (shown_entries new (ks ++ own ∷ []))) ∙ step.1
