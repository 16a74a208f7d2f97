-- A text that is UTF-8 has nothing to replace.
use Rattle.std.proofs.Common.{ap}
use Rattle.std.proofs.lemmas.Str.{utf8_lossy-IsUtf8}
use Rattle.serde_json.specs.Data.{string}
use Rattle.report.proofs.export.laws_of_exports.Goals as goal

pub returns : goal.returns
returns c = λ bytes text. ap string (utf8_lossy-IsUtf8 bytes text)
