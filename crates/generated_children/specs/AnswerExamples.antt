-- Answers of the compiler that is part of the program to three files of the generated project, worked out by hand.
use Rattle.std.specs.Prelude.{◌≡◌, ℕ, List, [], ◌∷◌, codes}
use Rattle.base.specs.Jobs.{compile_request}
use Rattle.base.specs.declared.file.FileName.{FileName}
use Rattle.base.specs.declared.graph.BuiltFile.{BuiltFile}
use Rattle.base.specs.declared.graph.Entry.{Entry}
use Rattle.vhdl_spec.specs.Scans.{Finding}
use Rattle.child_lines.specs.Ends.{ends_with}
use Rattle.memory_children.specs.Answers.{loop_answer}

-- a file of the library `lib`
abbrev pub lib_file : List ℕ → FileName
lib_file path = record { library = codes "lib"; path = path }

-- a file of the library `lib` with a path and a text, that the program compiles itself and that depends on no other
abbrev pub loop_entry : (path text : List ℕ) → Entry
loop_entry path text = record { name = lib_file path; command = codes "@self" ∷ (codes "child-analyse" ∷ []); text = text; deps = [] }

-- a built file of the library `lib`, by its path and its artefact
abbrev made_of : (path artefact : List ℕ) → BuiltFile
made_of path artefact = record { name = lib_file path; artefact = artefact }

-- the first package over no files, the twelfth, edited, over the sixth, and the bench over the first package
pub record AnswerExamples (scan : List ℕ → Finding) : Type 0 where
  pub first : loop_answer scan (compile_request (loop_entry (codes "src/f1.vhd") (codes "package p1 is\n  constant c : integer := 0;\nend package p1;\n")) [])
      ≡ ends_with 0 (codes "unit package p1\n")
  pub twelfth :
      loop_answer scan
      (compile_request
      (loop_entry (codes "src/f12.vhd") (codes "library lib;\nuse lib.p6.all;\npackage p12 is\n  constant c : integer := 0;\nend package p12;\n-- child: note 1\n"))
      (made_of (codes "src/f6.vhd") (codes "unit package p6\n") ∷ []))
      ≡ ends_with 0 (codes "unit package p12\nscript note 1\n")
  pub bench :
      loop_answer scan
      (compile_request
      (loop_entry
      (codes "tb.vhd")
      (codes "library lib;\nuse lib.p1.all;\nentity tb is generic (runner_cfg : string); end;\narchitecture a of tb is begin\n  x <= run(\"one\");\n  y <= run(\"two\");\nend;\n"))
      (made_of (codes "src/f1.vhd") (codes "unit package p1\n") ∷ []))
      ≡ ends_with 0 (codes "unit entity tb\nunit architecture a of tb\n")
