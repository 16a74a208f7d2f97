use Rattle.std.proofs.Common.{ℕ, List, not, ap, ◌∙◌, length}
use Rattle.std.specs.List.{list_any}
use Rattle.std.specs.Str.{bytes_eq}
use Rattle.store_form_2.specs.Locations.{texts_in}
use Rattle.store_form_2.proofs.SameNodes.{new_is}
use Rattle.store_form_2.proofs.drafts.number_of_source.Goals as goal

pub returns-in-Full-clause-is : goal.returns-in-Full-clause-is
returns-in-Full-clause-is c =
    let texts : List (List ℕ) = texts_in c.args.segments.now.payloads c.args.texts.now in
    rw c.in-Full.is (new_is texts c.bytes_in.result.now c.new_number.result (length c.args.texts.now.locations.items) c.new_number.ensures ∙ ap (λ (t : List ℕ). not (list_any (bytes_eq t) texts)) c.bytes_in.ensures)
