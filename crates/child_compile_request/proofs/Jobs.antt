-- A job that is read is spelled so, and what is spelled so is read.
use Rattle.std.proofs.Common.{◌≡◌, ℕ, ◌^◌, ◌<◌, ◌≤◌, cond, eqb, leb, List, [], ◌++◌, length, Some, None, refl, sym, ap, subst, ◌∙◌, append_assoc, arith}
use Rattle.std.specs.Prelude.{codes}
use Rattle.std.specs.List.{flat_map}
use Rattle.std.specs.Int.{w32}
use Rattle.std.proofs.lemmas.Bool.{leb-true, le-leb}
use Rattle.std.proofs.lemmas.List.{append-nil}
use Rattle.std.proofs.lemmas.Option.{same_Some}
use Rattle.base.specs.declared.file.FileName.{FileName}
use Rattle.base.specs.declared.graph.BuiltFile.{BuiltFile}
use Rattle.base.specs.Bytes.{number_bytes, text_bytes}
use Rattle.base.specs.Jobs.{name_bytes, built_bytes, all_built_bytes, compile_input}
use Rattle.base.specs.Names.{FitsName}
use Rattle.base.specs.Graphs.{IsBuilt, IsBuiltFile}
use Rattle.base_bytes.specs.Reading.{◌>>=◌, AreBytes, Takes, number_at, text_at, many_at}
use Rattle.base_bytes.specs.Names.{name_at, HasNameSpelling}
use Rattle.base_bytes.proofs.Fields.{bind_some, guard_ended, Takes-then, ends_there, u32_takes, u32_again, text_takes, text_again}
use Rattle.base_bytes.proofs.NameFields.{name_takes, name_again}
use Rattle.base_bytes.proofs.Many.{by_recursion, by_index, many_take, many_again}
use Rattle.base_bytes.specs.Sizes.{has_name_sizes}
use Rattle.base_bytes.proofs.Sized.{name_sizes-Decides}
use Rattle.child_compile_request.specs.declared.reading.CompileJob.{CompileJob}
use Rattle.child_compile_request.specs.Jobs.{IsJob, job_bytes}
use Rattle.child_compile_request.specs.Reading.{tested_at, fitting_name_at, short_text_at, built_at, all_built_at, fields_at, job_at}
use Rattle.child_compile_request.proofs.Spelled.{behind_again, behind_takes}
use Rattle.child_compile_request.proofs.Tested.{tested_takes, tested_again}
use Rattle.base.specs.declared.limits.TheConstants.{ARTEFACT_LIMIT, FILE_LIMIT, TEXT_LIMIT}

fitting_takes : (bytes : List ℕ) (name : FileName) (left : List ℕ) → AreBytes bytes → fitting_name_at bytes ≡ Some (name, left) → Takes bytes (name_bytes name) left × FitsName name
fitting_takes bytes name left fits e =
    let t = tested_takes has_name_sizes name_at name_bytes HasNameSpelling name_takes bytes name left fits e in
    (t.0, (name_sizes-Decides name).0 t.1)

fitting_again : (name : FileName) (left : List ℕ) → FitsName name → fitting_name_at (name_bytes name ++ left) ≡ Some (name, left)
fitting_again name left fits =
    tested_again has_name_sizes name_at name_bytes HasNameSpelling name_again name left (record { library = omega (arith, fits.library.at_most); path = omega (arith, fits.path.at_most) }) ((name_sizes-Decides name).1 fits)

abbrev TextFits : List ℕ → Type 0
TextFits text = length text < 2 ^ 32

short_takes : (limit : ℕ) (bytes text left : List ℕ) → AreBytes bytes → short_text_at limit bytes ≡ Some (text, left) → Takes bytes (text_bytes text) left × (length text ≤ limit)
short_takes limit bytes text left fits e =
    let t = tested_takes (λ text. leb (length text) limit) text_at text_bytes TextFits text_takes bytes text left fits e in
    (t.0, leb-true _ _ t.1)

short_again : (limit : ℕ) (text left : List ℕ) → length text < 2 ^ 32 → length text ≤ limit → short_text_at limit (text_bytes text ++ left) ≡ Some (text, left)
short_again limit text left lt short = tested_again (λ text. leb (length text) limit) text_at text_bytes TextFits text_again text left lt (le-leb _ _ short)

built_takes : (bytes : List ℕ) (file : BuiltFile) (left : List ℕ) → AreBytes bytes → built_at bytes ≡ Some (file, left) → Takes bytes (built_bytes file) left × IsBuiltFile file
unfolding built_at built_bytes
built_takes bytes file left fits e =
    let a = bind_some (fitting_name_at bytes) (λ name. short_text_at ARTEFACT_LIMIT name.1 >>= λ artefact. Some (record { name = name.0; artefact = artefact.0 }, artefact.1)) (file, left) e in
    let b = bind_some (short_text_at ARTEFACT_LIMIT a.0.1) (λ artefact. Some (record { name = a.0.0; artefact = artefact.0 }, artefact.1)) (file, left) a.2 in
    let t0 = fitting_takes bytes a.0.0 a.0.1 fits a.1 in
    let t1 = short_takes ARTEFACT_LIMIT a.0.1 b.0.0 b.0.1 t0.0.left_are_bytes b.1 in
    let both = Takes-then bytes (name_bytes a.0.0) a.0.1 (text_bytes b.0.0) b.0.1 t0.0 t1.0 in
    let made : BuiltFile × List ℕ = (record { name = a.0.0; artefact = b.0.0 }, b.0.1) in
    subst (λ (y : BuiltFile × List ℕ). Takes bytes (name_bytes y.0.name ++ text_bytes y.0.artefact) y.1 × IsBuiltFile y.0) (same_Some made (file, left) b.2) (both, record { name = t0.1; artefact = t1.1 })

built_again : (file : BuiltFile) (left : List ℕ) → IsBuiltFile file → built_at (built_bytes file ++ left) ≡ Some (file, left)
unfolding built_at built_bytes
built_again file left is =
    ap built_at (append_assoc (name_bytes file.name) (text_bytes file.artefact) left)
    ∙ rw (fitting_again file.name (text_bytes file.artefact ++ left) is.name, short_again ARTEFACT_LIMIT file.artefact left (omega (arith, is.artefact)) is.artefact) refl

abbrev NumberFits : ℕ → Type 0
NumberFits n = n < 2 ^ 32

pub all_takes : (bytes : List ℕ) (files : List BuiltFile) (left : List ℕ) → AreBytes bytes → all_built_at bytes ≡ Some (files, left) → Takes bytes (all_built_bytes files) left × IsBuilt files
unfolding all_built_at all_built_bytes
all_takes bytes files left fits e =
    let a = bind_some (tested_at (λ n. leb n FILE_LIMIT) (number_at w32) bytes) (λ count. many_at built_at count.0 count.1) (files, left) e in
    let prefix = tested_takes (λ n. leb n FILE_LIMIT) (number_at w32) number_bytes NumberFits u32_takes bytes a.0.0 a.0.1 fits a.1 in
    let back = many_take built_at built_bytes IsBuiltFile built_takes a.0.0 a.0.1 files left prefix.0.left_are_bytes a.2 in (
      subst (λ (n : ℕ). Takes bytes (number_bytes n ++ flat_map built_bytes files) left) (sym back.1) (Takes-then bytes (number_bytes a.0.0) a.0.1 (flat_map built_bytes files) left prefix.0 back.0),
      record { few = omega (arith, leb-true _ _ prefix.1, back.1); each = by_index IsBuiltFile files back.2 },
    )

pub all_again : (files : List BuiltFile) (left : List ℕ) → IsBuilt files → all_built_at (all_built_bytes files ++ left) ≡ Some (files, left)
unfolding all_built_at all_built_bytes
all_again files left is =
    ap all_built_at (append_assoc (number_bytes (length files)) (flat_map built_bytes files) left)
    ∙ rw (
      tested_again (λ n. leb n FILE_LIMIT) (number_at w32) number_bytes NumberFits u32_again (length files) (flat_map built_bytes files ++ left) (omega (arith, is.few)) (le-leb _ _ is.few),
      many_again built_at built_bytes IsBuiltFile built_again files left (by_recursion IsBuiltFile files is.each),
    ) refl

-- the fields after the mark
abbrev fields_bytes : CompileJob → List ℕ
fields_bytes job = name_bytes job.name ++ (text_bytes job.text ++ all_built_bytes job.deps)

fields_takes : (bytes : List ℕ) (job : CompileJob) → AreBytes bytes → fields_at bytes ≡ Some job → IsJob job × (bytes ≡ fields_bytes job)
unfolding fields_at
fields_takes bytes job fits e =
    let a = bind_some (fitting_name_at bytes) (λ name. short_text_at TEXT_LIMIT name.1 >>= λ text. all_built_at text.1 >>= λ deps. cond (eqb (length deps.1) 0) (Some (record { name = name.0; text = text.0; deps = deps.0 })) None) job e in
    let b = bind_some (short_text_at TEXT_LIMIT a.0.1) (λ text. all_built_at text.1 >>= λ deps. cond (eqb (length deps.1) 0) (Some (record { name = a.0.0; text = text.0; deps = deps.0 })) None) job a.2 in
    let d = bind_some (all_built_at b.0.1) (λ deps. cond (eqb (length deps.1) 0) (Some (record { name = a.0.0; text = b.0.0; deps = deps.0 })) None) job b.2 in
    let made : CompileJob = record { name = a.0.0; text = b.0.0; deps = d.0.0 } in
    let g = guard_ended (eqb (length d.0.1) 0) made job d.2 in
    let t0 = fitting_takes bytes a.0.0 a.0.1 fits a.1 in
    let t1 = short_takes TEXT_LIMIT a.0.1 b.0.0 b.0.1 t0.0.left_are_bytes b.1 in
    let t2 = all_takes b.0.1 d.0.0 d.0.1 t1.0.left_are_bytes d.1 in
    let e12 = Takes-then a.0.1 (text_bytes b.0.0) b.0.1 (all_built_bytes d.0.0) d.0.1 t1.0 t2.0 in
    let e02 = Takes-then bytes (name_bytes a.0.0) a.0.1 (text_bytes b.0.0 ++ all_built_bytes d.0.0) d.0.1 t0.0 e12 in
    let whole = ends_there bytes (fields_bytes made) d.0.1 e02 g.0 in
    subst (λ (j : CompileJob). IsJob j × (bytes ≡ fields_bytes j)) {x = made} g.1 (record { name = t0.1; text = t1.1; deps = t2.1 }, whole)

fields_again : (job : CompileJob) → IsJob job → fields_at (fields_bytes job) ≡ Some job
unfolding fields_at
fields_again job is =
    let last : all_built_at (all_built_bytes job.deps) ≡ Some (job.deps, []) = ap all_built_at (sym (append-nil (all_built_bytes job.deps))) ∙ all_again job.deps [] is.deps in
    rw (fitting_again job.name (text_bytes job.text ++ all_built_bytes job.deps) is.name, short_again TEXT_LIMIT job.text (all_built_bytes job.deps) (omega (arith, is.text)) is.text, last) refl

pub job_takes : (bytes : List ℕ) (job : CompileJob) → AreBytes bytes → job_at bytes ≡ Some job → IsJob job × (bytes ≡ job_bytes job)
unfolding job_at compile_input
job_takes = behind_takes fields_at fields_bytes IsJob (codes "VRC1") fields_takes

pub job_again : (job : CompileJob) → IsJob job → job_at (job_bytes job) ≡ Some job
unfolding job_at compile_input
job_again = behind_again fields_at fields_bytes IsJob (codes "VRC1") fields_again
