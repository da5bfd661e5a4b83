use Rattle.std.proofs.Common.{◌++◌, ◌∷◌, [], sym, subst}
use Rattle.mon_value.proofs.LeafHistoryLemmas.{IsWellFormed-push}
use Rattle.mon_value.specs.LeafHistories.{IsWellFormed, MayFollow, brought_rows, IsSource}
use Rattle.mon_value.specs.declared.histories.Entry.{Entry}
use Rattle.mon_value.specs.declared.histories.Entry.TheVariants as entry
use Rattle.leaf_store.proofs.leaf_state.LeafState.may_follow.Goals as goal

pub returns-in-Opened-clause-may : goal.returns-in-Opened-clause-may
returns-in-Opened-clause-may c =
    let source : IsSource c.in-Opened.rows = subst (λ (e : Entry). IsSource (brought_rows e)) c.in-Opened.is
    c.requires.source in
    λ yes. subst (λ (e : Entry). MayFollow c.args.self.now.history e) (sym c.in-Opened.is)
    (let may = c.may_open.ensures.may yes in (may.0, may.1, source))

pub returns-in-Opened-clause-follows : goal.returns-in-Opened-clause-follows
returns-in-Opened-clause-follows c =
    let source : IsSource c.in-Opened.rows = subst (λ (e : Entry). IsSource (brought_rows e)) c.in-Opened.is
    c.requires.source in
    λ yes. subst (λ (e : Entry). IsWellFormed (c.args.self.now.history ++ e ∷ [])) (sym c.in-Opened.is)
    (let may = c.may_open.ensures.may yes in
    IsWellFormed-push c.args.self.now.history (entry.Opened c.in-Opened.pass c.in-Opened.range c.in-Opened.slot
    c.in-Opened.rows) c.may_open.ensures.formed
    (may.0, may.1, source))

pub returns-in-Put-clause-may : goal.returns-in-Put-clause-may
returns-in-Put-clause-may c = λ yes. subst (λ (e : Entry). MayFollow c.args.self.now.history e) (sym c.in-Put.is)
    (c.may_put.ensures.may yes)

pub returns-in-Put-clause-follows : goal.returns-in-Put-clause-follows
returns-in-Put-clause-follows c =
    λ yes. subst (λ (e : Entry). IsWellFormed (c.args.self.now.history ++ e ∷ [])) (sym c.in-Put.is)
    (IsWellFormed-push c.args.self.now.history (entry.Put c.in-Put.pass c.in-Put.range c.in-Put.slot c.in-Put.row)
    c.may_put.ensures.formed (c.may_put.ensures.may yes))

pub returns-in-Trim-clause-may : goal.returns-in-Trim-clause-may
returns-in-Trim-clause-may c = λ yes. subst (λ (e : Entry). MayFollow c.args.self.now.history e) (sym c.in-Trim.is)
    (c.may_trim.ensures.may yes)

pub returns-in-Trim-clause-follows : goal.returns-in-Trim-clause-follows
returns-in-Trim-clause-follows c =
    λ yes. subst (λ (e : Entry). IsWellFormed (c.args.self.now.history ++ e ∷ [])) (sym c.in-Trim.is)
    (IsWellFormed-push c.args.self.now.history (entry.Trim c.in-Trim.pass c.in-Trim.range c.in-Trim.slot
    c.in-Trim.before) c.may_trim.ensures.formed (c.may_trim.ensures.may yes))

pub returns-in-Down-clause-follows : goal.returns-in-Down-clause-follows
returns-in-Down-clause-follows c =
    λ yes. subst (λ (e : Entry). IsWellFormed (c.args.self.now.history ++ e ∷ [])) (sym c.in-Down.is)
    (IsWellFormed-push c.args.self.now.history (entry.Down c.in-Down.pass) c.may_switch.ensures.formed
    (c.may_switch.ensures.may yes))

pub returns-in-Up-clause-follows : goal.returns-in-Up-clause-follows
returns-in-Up-clause-follows c =
    λ yes. subst (λ (e : Entry). IsWellFormed (c.args.self.now.history ++ e ∷ [])) (sym c.in-Up.is)
    (IsWellFormed-push c.args.self.now.history (entry.Up c.in-Up.pass) c.may_switch-in-Up.ensures.formed
    (c.may_switch-in-Up.ensures.may yes))
