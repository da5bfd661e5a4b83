use Rattle.std.proofs.Common.{◌∙◌, ◌++◌, List, Vec, ap, false, length, replicate, ℕ}
use Rattle.std.specs.declared.alloc.Global.{Global}
use Rattle.mon_table.proofs.PlaceLemmas.{unmarked-found}
use Rattle.mon_table.specs.Places.{marked, right_places, unmarked}
use Rattle.mon_table.proofs.places.Places.new.Goals as goal

pub returns-clause-own : goal.returns-clause-own
returns-clause-own c =
    let lefts = c.args.lefts.now in
    let rights = c.args.rights.now in
    let common = c.add_common.new.self.rights.items in
    let none = replicate (length rights) false in
    let unfound = unmarked 0 (marked common none) in
    c.in_ok-add_own.ensures.own
    ∙ ap (λ (own : Vec ℕ Global). own.items ++ unfound) c.in_ok-add_common.ensures.own
    ∙ ap (λ (places : List ℕ). places ++ unfound) c.new-3.ensures.items
    ∙ ap (λ (places : List ℕ). unmarked 0 (marked places none)) c.in_ok-add_common.ensures.rights
    ∙ ap (λ (places : List ℕ). unmarked 0 (marked (places ++ right_places lefts rights) none)) c.new-2.ensures.items
    ∙ unmarked-found lefts rights
