-- The project that the generated project file says.
use Rattle.std.proofs.Common.{◌≡◌, ℕ, true, false, List, [], ◌∷◌, ◌++◌, map, refl, ap, ◌∙◌}
use Rattle.std.specs.Prelude.{codes, Option, Some, Result, Ok, Err}
use Rattle.std.specs.Char.{encode_utf8}
use Rattle.std.specs.Option.{option_map_or}
use Rattle.std.specs.Str.{chars, is_utf8}
use Rattle.std.proofs.lemmas.Bool.{cond-true}
use Rattle.std.proofs.lemmas.List.{append-nil}
use Rattle.base.specs.declared.project.ProjectFault.TheVariants.{NotToml}
use Rattle.base.specs.declared.project.Project.{Project}
use Rattle.base.specs.declared.project.ProjectFile.{ProjectFile}
use Rattle.base.specs.declared.project.ProjectFault.{ProjectFault}
use Rattle.toml.specs.Data.{string, array, table, no_items, item, Members, no_members, member}
use Rattle.toml.specs.Parse.{after_element, key_equals, items, members, atom, val, header_key, expression, line, lines, skip_bom, parse_document}
use Rattle.toml.specs.Tables.{along_header, along_dots, at_key, define}
use Rattle.toml_parser.specs.Lexical.{skip_ws, skip_from}
use Rattle.toml_parser.specs.Strings.{hex_escape, escape_char, escape, quoted, one_line, body, special, simple_key, key_after}
use Rattle.toml_parser.specs.Numbers.{underscore_fits, prefixed_integer, decimal_number, plain_number, number, word_value, word_len, unquoted}
use Rattle.project_file.specs.Csv.{listed_command, listed_simulator, then_read}
use Rattle.project_file.specs.Toml.{file_in, files_of, files_project, library_after, library_files, linked_project, matching_names, new_library, pairs_of, table_project, toml_project}
use Rattle.generated_project.specs.Files.{toml_text}
use Rattle.generated_sources.specs.PackageLinks.{used_library}
use Rattle.generated_sources.proofs.Matched.{bench_pattern, source_pattern}

-- what the text says
unfoldable said : Members
said =
    member (codes "library") (array (item (table
    (member (codes "files") (array (item (string (codes "src/*.vhd")) (item (string (codes "tb.vhd")) no_items)))
    (member (codes "name") (string (codes "lib")) no_members))) no_items)) no_members

parsed : parse_document toml_text ≡ Some said
unfolding said toml_text after_element key_equals items members atom val header_key expression line lines skip_bom parse_document along_header along_dots at_key define skip_ws skip_from hex_escape escape_char escape quoted one_line body special simple_key key_after underscore_fits prefixed_integer decimal_number plain_number number word_value word_len unquoted
parsed = refl

is_text : is_utf8 toml_text ≡ true
unfolding toml_text encode_utf8 chars is_utf8
is_text = refl

-- the project of the files that its patterns match
abbrev project_of : Result (List (List ℕ)) ProjectFault → Result Project ProjectFault
project_of found =
    then_read (then_read (then_read found (λ paths. Ok (map (file_in used_library (listed_command ++ [])) paths))) (λ files. Ok (files ++ [])))
    (λ files. linked_project files listed_simulator [] false said)

by_table : (names : List (List ℕ)) → table_project names said ≡ project_of (matching_names names [] (source_pattern ∷ bench_pattern ∷ []))
unfolding said table_project files_project files_of library_after new_library library_files used_library source_pattern bench_pattern
by_table names = refl

by_text : (names : List (List ℕ)) → toml_project toml_text names ≡ table_project names said
unfolding toml_project
by_text names =
    cond-true (is_utf8 toml_text) (option_map_or (table_project names) (parse_document toml_text) (Err NotToml)) (Err NotToml) is_text
    ∙ ap (λ (parsed : Option Members). option_map_or (table_project names) parsed (Err NotToml)) parsed

abbrev said_project : List ProjectFile → Project
said_project files = record { files = files; simulator = listed_simulator; external = []; bodies = false; depends = []; listed = false }

linked_is : (files : List ProjectFile) → linked_project files listed_simulator [] false said ≡ Ok (said_project files)
unfolding said linked_project pairs_of
linked_is files = refl

pub said_is : (names paths : List (List ℕ)) → matching_names names [] (source_pattern ∷ bench_pattern ∷ []) ≡ Ok paths → toml_project toml_text names ≡ Ok (said_project (map (file_in used_library listed_command) paths))
said_is names paths matches =
    by_text names
    ∙ by_table names
    ∙ ap project_of matches
    ∙ linked_is (map (file_in used_library (listed_command ++ [])) paths ++ [])
    ∙ ap (λ (files : List ProjectFile). Ok (said_project files)) (append-nil (map (file_in used_library (listed_command ++ [])) paths))
