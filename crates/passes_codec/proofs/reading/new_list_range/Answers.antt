use Rattle.std.proofs.Common.{ℕ, drop, ap, ◌∙◌, arith}
use Rattle.base_bytes.specs.Reading.{counted_at}
use Rattle.passes_codec.specs.Forms.{file_at}
use Rattle.passes_codec.proofs.reading.new_list_range.Goals as goal

pub returns-clause-files : goal.returns-clause-files
returns-clause-files c =
    let found = c.in-Some.ensures in (
      omega (arith, found.start, c.requires),
      ap (λ (s : ℕ). counted_at file_at (drop s c.args.bytes.now)) found.start ∙ found.is.0,
    )
