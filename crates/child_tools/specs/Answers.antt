-- What the compiler that is part of the program answers, for each input.
use Rattle.std.specs.Prelude.{ℕ, nat_le, if◌then◌else◌, List, [], ◌∷◌, ◌++◌, length, codes}
use Rattle.std.specs.Option.{option_map_or}
use Rattle.base.specs.declared.child.Exit.{Exit}
use Rattle.base.specs.declared.design.Scan.{Scan}
use Rattle.base.specs.declared.file.FileName.{FileName}
use Rattle.base.specs.declared.graph.BuiltFile.{BuiltFile}
use Rattle.base.specs.declared.limits.TheConstants.{ARTEFACT_LIMIT}
use Rattle.child_lines.specs.Ends.{bad_request, ends_with}
use Rattle.child_compile_request.specs.Reading.{job_at}
use Rattle.child_compile_request.specs.declared.reading.CompileJob.{CompileJob}
use Rattle.vhdl_spec.specs.Scans.{Finding, Clean, Lexical, Grammatical}
use Rattle.child_tools.specs.Artefacts.{artefact_of}
use Rattle.child_tools.specs.Exports.{first_missing, wanted_units}
use Rattle.child_tools.specs.Scripts.{first_refusal}
use Rattle.vhdl_units.specs.declared.units.UnitKey.{UnitKey}

-- the file is refused with this line
unfoldable pub refused : List ℕ → Exit
refused line = ends_with 1 (line ++ 10 ∷ [])

-- the file is refused since it has a lexical or a grammatical fault
unfoldable pub not_vhdl : FileName → Exit
not_vhdl name = refused (name.path ++ codes ": not VHDL")

-- the file is refused since it names a unit that its library doesn't have
unfoldable pub no_unit : FileName → UnitKey → Exit
no_unit name unit = refused (name.path ++ (codes ": no unit " ++ (unit.library ++ (codes "." ++ unit.name))))

-- the answer with the artefact, or a refusal if the artefact is too long
unfoldable pub made : List ℕ → Exit
made artefact = if nat_le (length artefact) ARTEFACT_LIMIT then ends_with 0 artefact else refused (codes "artefact too long")

-- a file with its own artefact, as one more that was built
abbrev pub with_own : CompileJob → List ℕ → List BuiltFile
with_own job artefact = job.deps ++ record { name = job.name; artefact = artefact } ∷ []

-- the answer to a file that wants these units, and of which this artefact would be made
unfoldable pub linked : CompileJob → List ℕ → List UnitKey → Exit
linked job artefact units = option_map_or (no_unit job.name) (first_missing (with_own job artefact) units) (made artefact)

-- the answer to a file of this scan
unfoldable pub scripted : CompileJob → Scan → Exit
scripted job scan = option_map_or refused (first_refusal job.text scan.tokens.comments) (linked job (artefact_of job.text scan) (wanted_units job.name.library job.text scan))

-- the answer to a file, by what is found in it
unfoldable pub answer_by : CompileJob → Finding → Exit
answer_by job (Clean scan) = scripted job scan
answer_by job (Lexical fault) = not_vhdl job.name
answer_by job (Grammatical fault) = not_vhdl job.name

-- the answer to a job, by what a scanner finds in its text
abbrev pub answer : (List ℕ → Finding) → CompileJob → Exit
answer scan job = answer_by job (scan job.text)

-- the answer to an input, by what a scanner finds in texts
unfoldable pub analysis : (List ℕ → Finding) → List ℕ → Exit
analysis scan input = option_map_or (answer scan) (job_at input) bad_request
