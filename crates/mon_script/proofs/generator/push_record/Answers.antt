use Rattle.std.proofs.Common.{◌≡◌, ◌∙◌, ◌++◌, List, ℕ, ap, append_assoc, string_bytes}
use Rattle.mon_script.specs.Made.{record_fields, record_front}
use Rattle.mon_script.proofs.generator.push_record.Goals as goal

pub returns : goal.returns
returns c =
    let old : List ℕ = string_bytes c.args.text.now in
    let front : List ℕ = record_front c.args.value c.args.round in
    let fields : List ℕ = record_fields c.args.file c.args.task in
    let first : string_bytes c.push_str.new.self ≡ old ++ front =
    c.in_ok-push_str.ensures.bytes
    ∙ ap (λ (t : List ℕ). old ++ t) (c.as_str.ensures.value ∙ c.in_ok-front.ensures.front) in
    let both : string_bytes c.push_str-2.new.self ≡ old ++ (front ++ fields) =
    c.in_ok-push_str-2.ensures.bytes
    ∙ ap (λ (t : List ℕ). string_bytes c.push_str.new.self ++ t)
    (c.as_str-2.ensures.value ∙ c.in_ok-fields.ensures.fields)
    ∙ ap (λ (t : List ℕ). t ++ fields) first
    ∙ append_assoc old front fields in
    record { line = both }
