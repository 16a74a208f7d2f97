use Rattle.std.proofs.Common.{ℕ, List, Option, length, ap, arith}
use Rattle.passes_table.proofs.PassBytes.{file_size, ref_counted}
use Rattle.passes_table.proofs.writing.file_size.Goals as goal

pub returns-in-Some-clause-is : goal.returns-in-Some-clause-is
returns-in-Some-clause-is c =
    let text : List ℕ = c.args.artefact.text.now in
    omega (arith, file_size c.args.name.now text c.args.artefact.known, ap (λ (o : Option ℕ). ref_counted o text) c.in-Some.is, ap length c.bytes.ensures, ap length c.bytes-2.ensures)

pub returns-in-None-clause-is : goal.returns-in-None-clause-is
returns-in-None-clause-is c =
    let text : List ℕ = c.args.artefact.text.now in
    omega (arith, file_size c.args.name.now text c.args.artefact.known, ap (λ (o : Option ℕ). ref_counted o text) c.in-None.is, ap length c.bytes.ensures, ap length c.bytes-2.ensures)
