use Rattle.std.proofs.Common.{◌<◌, ◌^◌, length, sym, ap, ◌∙◌, subst}
use Rattle.history_book.specs.Histories.{entries}
use Rattle.thread_cases.proofs.HistoryLemmas.{fits_leaf, grown_by_one}
use Rattle.thread_cases.proofs.histories.append_as_guest.Goals as goal

pub append_down-requires-clause-room : goal.append_down-requires-clause-room
append_down-requires-clause-room g c =
    let same = ap (λ o. o.history) c.meet_owner.ensures.met in
    subst (λ xs. length xs < 2 ^ 62) (sym
    (ap (entries c.meet_owner.new.owner.seen) same ∙ c.meet_owner.ensures.whole)) c.requires.room

pub returns-clause-grown : goal.returns-clause-grown
returns-clause-grown g c =
    let fits = fits_leaf c.args.owner.now.history g.E.NewEntry.entry _ c.requires.leaf c.requires.named in
    grown_by_one c.args.owner.now c.meet_owner.new.owner c.append_down.new.owner c.split_owner.new.owner c.args.seat
    g.E.NewEntry.entry
    c.meet_owner.ensures.met c.meet_owner.ensures.whole c.append_down.ensures.appended c.split_owner.ensures.owner fits
