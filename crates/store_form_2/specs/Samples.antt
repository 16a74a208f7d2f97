-- Records of the views of two files; the second file depends on the first.
use Rattle.std.specs.Prelude.{ℕ, ◌∷◌, List, [], codes}
use Rattle.base.specs.declared.file.FileName.{FileName}
use Rattle.base.specs.declared.graph.BuiltFile.{BuiltFile}
use Rattle.base.specs.declared.graph.Entry.{Entry}
use Rattle.outside.specs.Records.{Record}
use Rattle.store_form_2.specs.declared.kept_view.Record.{Record as ViewRecord}

-- a file of the library lib, by the code of its letter: 97 is a.vhd
abbrev pub vhd_name : ℕ → FileName
vhd_name letter = record { library = codes "lib"; path = letter ∷ codes ".vhd" }

-- a file of a letter with a text and what it depends on, which is compiled by the word cc
abbrev pub vhd_file : ℕ → List ℕ → List ℕ → Entry
vhd_file letter text deps = record { name = vhd_name letter; command = codes "cc" ∷ []; text = text; deps = deps }

-- a.vhd with a text, and what the compiler gave for it
abbrev pub a_over : List ℕ → List ℕ → ViewRecord
a_over text artefact = record { view = vhd_file 97 text [] ∷ []; artefact = artefact }

-- b.vhd with the text y, over a.vhd with a text, and what the compiler gave for it
abbrev pub b_over : List ℕ → List ℕ → ViewRecord
b_over text artefact = record { view = vhd_file 97 text [] ∷ vhd_file 98 (codes "y") (0 ∷ []) ∷ []; artefact = artefact }

-- the record of the file of a letter, with a text, over what was built below it, and with its artefact
abbrev pub vhd_request : ℕ → List ℕ → List BuiltFile → List ℕ → Record
vhd_request letter text below artefact = record { asked = record { command = codes "cc" ∷ []; name = vhd_name letter; text = text; below = below }; artefact = artefact }

-- the file of a letter with its artefact
abbrev pub vhd_built : ℕ → List ℕ → BuiltFile
vhd_built letter artefact = record { name = vhd_name letter; artefact = artefact }
