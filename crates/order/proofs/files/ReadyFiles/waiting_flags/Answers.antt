-- What remains to be proved of `waiting`.
use Rattle.std.proofs.Common.{ap, ◌∙◌, Bool, false, List, length, get_or}
use Rattle.order.specs.Waits.{file_count}
use Rattle.order.proofs.files.ReadyFiles.waiting_flags.Goals as goal

pub returns : goal.returns
unfolding file_count
returns c count deps waits done is =
    (ap (λ (xs : List Bool). length xs) c.as_slice.ensures.value ∙ is.as_many, λ file lt. ap (λ (xs : List Bool). get_or xs file false) c.as_slice.ensures.value ∙ is.waiting file lt)
