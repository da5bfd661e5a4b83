use Rattle.std.proofs.Common.{◌≡◌, ◌∙◌, ◌++◌, List, OnOk, ap, append-nil, map, subst, sym, ℕ}
use Rattle.mon_table.proofs.PlaceLemmas.{left_places_of-found}
use Rattle.mon_table.proofs.places.Places.add_name.Goals as goal

pub returns-in-Some-clause-lefts : goal.returns-in-Some-clause-lefts
returns-in-Some-clause-lefts c =
    let place = c.args.place in
    subst
    (λ (places : List ℕ). OnOk c.add_found.result (c.add_found.new.self.lefts.items ≡ c.args.self.now.lefts.items
    ++ places))
    (ap (λ (places : List ℕ). map (λ right. place) places) (c.as_slice.ensures.value ∙ c.in-Some.ensures.found)
    ∙ sym (left_places_of-found c.args.name.now place 0 c.args.rights.now)) c.add_found.ensures.lefts

pub returns-in-None-clause-lefts : goal.returns-in-None-clause-lefts
returns-in-None-clause-lefts c =
    let place = c.args.place in
    let lefts = c.args.self.now.lefts.items in
    sym (append-nil lefts)
    ∙ ap (λ (places : List ℕ). lefts ++ places)
    (ap (λ (places : List ℕ). map (λ right. place) places) c.in-None.ensures.found
    ∙ sym (left_places_of-found c.args.name.now place 0 c.args.rights.now))
