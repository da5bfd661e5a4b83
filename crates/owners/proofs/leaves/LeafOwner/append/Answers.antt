use Rattle.std.proofs.Common.{◌≡◌, ◌<◌, ℕ, ◌+◌, length, sym, ap, subst, ◌∙◌}
use Rattle.mon_value.specs.declared.histories.Histories.{Histories}
use Rattle.history_book.specs.declared.views.BookEntry.TheVariants as one
use Rattle.history_book.specs.declared.views.History.TheVariants as of
use Rattle.history_book.specs.Histories.{with_book_entry}
use Rattle.know.specs.Sound.{IsSound}
use Rattle.mon_topo.specs.Sights.{sight_of, with_leaf_sight}
use Rattle.mon_value.specs.Histories.{leaf_history}
use Rattle.mon_value.specs.LeafHistories.{MayFollow}
use Rattle.owners.specs.Entries.{LeadsOn}
use Rattle.owners.specs.Owners.{LeafView}
use Rattle.owners.proofs.EntryLemmas.{leaf_entry_sound, sight_with}
use Rattle.owners.proofs.leaves.LeafOwner.append.Goals as goal

pub invariant_of-self : goal.invariant_of-self
invariant_of-self g c =
    let setting = g.N.Names.setting in
    let e = c.args.entry.now in
    let leaf = c.self.inside.leaf in
    let hints = c.self.inside.hints.hints in
    let seen = c.self.inside.book.seen in
    let was = c.self.invariant.2 in
    let here : leaf.0 < length seen.leaves =
    subst (λ (n : ℕ). leaf.0 < n) (sym c.self.invariant.1.held.all_leaves) was.here in
    let grown : c.append.new.owner.seen ≡ with_book_entry (of.Leaf leaf) (one.Leaf e) seen =
    ap (λ owner. owner.seen) c.append.ensures.appended
    ∙ (λ i. with_book_entry (was.history i) (c.requires.named i) seen) in
    let long : c.args.cut ≡ length (leaf_history seen leaf) =
    c.requires.counted ∙ sym (ap (λ view. length (leaf_history view.book.seen view.leaf)) c.self.view_is) in
    let may : MayFollow (leaf_history seen leaf) e =
    subst (λ (view : LeafView). MayFollow (leaf_history view.book.seen view.leaf) e) (sym c.self.view_is)
    c.requires.may in
    let leads : LeadsOn setting hints leaf (leaf_history seen leaf) e =
    subst (λ (view : LeafView). LeadsOn setting view.hints.hints view.leaf (leaf_history view.book.seen view.leaf) e)
    (sym c.self.view_is) c.requires.leads in
    let sound : IsSound setting hints (with_book_entry (of.Leaf leaf) (one.Leaf e) seen) =
    leaf_entry_sound setting hints seen leaf e here c.self.invariant.1 may c.requires.home leads in (
      c.note_leaf.ensures.noted
          ∙ (λ i. with_leaf_sight leaf (long i + 1) (c.self.invariant.0 i))
          ∙ sight_with leaf e seen here
          ∙ ap sight_of (sym grown),
      subst (λ (s : Histories). IsSound setting hints s) (sym grown) sound,
      record {
        here = was.here;
        history = ap (λ owner. owner.history) c.append.ensures.appended ∙ was.history;
        zone = was.zone;
        child = was.child;
      },
    )
