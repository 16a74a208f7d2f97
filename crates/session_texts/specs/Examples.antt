-- Small overlays, paths and texts, worked out by hand.
use Rattle.std.specs.Prelude.{◌≡◌, ℕ, true, false, List, [], ◌∷◌, length, map, replicate, codes, Option, Some, None}
use Rattle.base.specs.declared.file.NamedText.{NamedText}
use Rattle.memory_outside.specs.Trees.{file_at, listed_of}
use Rattle.session_texts.specs.Texts.{is_overlay_path, is_within_limits, named_text, with_text, without_text}
use Rattle.session_texts.specs.OverlayTrees.{overlay_names, overlay_file}

-- a project file and a source
abbrev pub saved_files : List NamedText
saved_files = named_text (codes "vunit.csv") (codes "lib,a.vhd\n") ∷ named_text (codes "a.vhd") (codes "package a is\nend package a;\n") ∷ []

-- the file of a path in an overlay over the saved files
abbrev pub file_over : List NamedText → List ℕ → Option (List ℕ)
file_over texts path = overlay_file texts (file_at saved_files) path

-- what an overlay over the saved files lists
abbrev pub names_over : List NamedText → List (List ℕ)
names_over texts = overlay_names texts (listed_of saved_files)

-- the unsaved text of one path
abbrev pub one_text : List ℕ → List ℕ → List NamedText
one_text path text = with_text path text []

-- Examples of overlays over two saved files.
pub record OverlayExamples : Type 0 where
  -- without unsaved texts, the saved files
  pub none : names_over [] ≡ codes "a.vhd" ∷ codes "vunit.csv" ∷ []
  -- a new file is listed and read beside the others
  pub new : names_over (one_text (codes "b.vhd") (codes "package b is\n")) ≡ codes "a.vhd" ∷ codes "b.vhd" ∷ codes "vunit.csv" ∷ []
  pub new_text : file_over (one_text (codes "b.vhd") (codes "package b is\n")) (codes "b.vhd") ≡ Some (codes "package b is\n")
  pub other_text : file_over (one_text (codes "b.vhd") (codes "package b is\n")) (codes "vunit.csv") ≡ Some (codes "lib,a.vhd\n")
  -- a saved file with an unsaved text is listed once, and read unsaved
  pub replaced : names_over (one_text (codes "a.vhd") (codes "foo\n")) ≡ codes "a.vhd" ∷ codes "vunit.csv" ∷ []
  pub replaced_text : file_over (one_text (codes "a.vhd") (codes "foo\n")) (codes "a.vhd") ≡ Some (codes "foo\n")
  -- the last text of a path counts
  pub again : file_over (with_text (codes "a.vhd") (codes "bar\n") (one_text (codes "a.vhd") (codes "foo\n"))) (codes "a.vhd") ≡ Some (codes "bar\n")
  -- after a drop the saved text counts, and a path without a saved file is absent
  pub dropped : file_over (without_text (codes "a.vhd") (one_text (codes "a.vhd") (codes "foo\n"))) (codes "a.vhd") ≡ Some (codes "package a is\nend package a;\n")
  pub dropped_new : file_over (without_text (codes "b.vhd") (one_text (codes "b.vhd") (codes "foo\n"))) (codes "b.vhd") ≡ None
  -- an unsaved project file and an unsaved source, over an empty folder
  pub created : overlay_names (with_text (codes "vunit.csv") (codes "lib,a.vhd\n") (one_text (codes "a.vhd") (codes "foo\n"))) [] ≡ codes "a.vhd" ∷ codes "vunit.csv" ∷ []

-- Examples of paths that may have an unsaved text, and of paths that may not.
pub record PathExamples : Type 0 where
  pub plain : is_overlay_path (codes "a b.vhd") ≡ true
  pub folder : is_overlay_path (codes "src/a.vhd") ≡ true
  -- only what lies below `vunit_out` is refused
  pub out : is_overlay_path (codes "vunit_out") ≡ true
  pub outside : is_overlay_path (codes "vunit_outx") ≡ true
  pub below_out : is_overlay_path (codes "vunit_out/x") ≡ false
  -- empty components, and components that begin with a dot
  pub empty : is_overlay_path [] ≡ false
  pub absolute : is_overlay_path (codes "/a") ≡ false
  pub doubled : is_overlay_path (codes "a//b") ≡ false
  pub here : is_overlay_path (codes "./a") ≡ false
  pub parent : is_overlay_path (codes "../x") ≡ false
  pub hidden : is_overlay_path (codes ".g/x") ≡ false
  pub hidden_file : is_overlay_path (codes "a/.b") ≡ false
  -- control bytes, also a carriage return, and bytes that are not UTF-8
  pub unit_separator : is_overlay_path (97 ∷ 31 ∷ []) ≡ false
  pub carriage_return : is_overlay_path (codes "a.vhd\r") ≡ false
  pub delete : is_overlay_path (97 ∷ 127 ∷ []) ≡ false
  pub broken : is_overlay_path (97 ∷ 255 ∷ []) ≡ false
  -- the longest path, and one byte more
  pub longest : is_overlay_path (replicate 1024 97) ≡ true
  pub longer : is_overlay_path (replicate 1025 97) ≡ false

-- sixteen paths, all with this text
abbrev pub sixteen_texts : List ℕ → List NamedText
sixteen_texts text = map (λ byte. named_text (byte ∷ []) text) (codes "abcdefghijklmnop")

-- Examples of the limits of a text and of all texts.
pub record SizeExamples (most : List ℕ) : Type 0 where
  -- the longest text may be set, and one byte more may not
  pub longest : is_within_limits [] (codes "a") most ≡ true
  pub too_long : is_within_limits [] (codes "a") (10 ∷ most) ≡ false
  -- fifteen of the longest texts leave room for one more
  pub sixteenth : is_within_limits (without_text (codes "p") (sixteen_texts most)) (codes "p") most ≡ true
  -- sixteen leave none
  pub seventeenth : is_within_limits (sixteen_texts most) (codes "q") (10 ∷ []) ≡ false
  -- one of the sixteen may be replaced
  pub replaced : (other : List ℕ) → length other ≡ 4194304 → is_within_limits (sixteen_texts most) (codes "h") other ≡ true
