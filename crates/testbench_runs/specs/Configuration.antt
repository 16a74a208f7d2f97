-- The configuration text that is handed to a bench: pairs of a key and a value.
use Rattle.std.specs.Prelude.{ℕ, Bool, ◌||◌, ◌==◌, if◌then◌else◌, List, [], ◌∷◌, ◌++◌, codes, reverse}
use Rattle.std.specs.List.{flat_map, join_by}
use Rattle.testbench_runs.specs.declared.runs.TestRun.{TestRun}
use Rattle.testbench_runs.specs.Runs.{output_path}

-- `,`, which separates pairs and cases
abbrev pub comma_byte : ℕ
comma_byte = 44

-- `:`, which separates a key and its value
abbrev pub colon_byte : ℕ
colon_byte = 58

-- `/`, which separates the folders of a path
abbrev pub slash_byte : ℕ
slash_byte = 47

-- bytes in which each byte that passes a test is doubled
abbrev pub doubled : (ℕ → Bool) → List ℕ → List ℕ
doubled test bytes = flat_map (λ byte. if test byte then byte ∷ byte ∷ [] else byte ∷ []) bytes

-- the byte is a comma
abbrev pub is_comma : ℕ → Bool
is_comma byte = byte == comma_byte

-- a byte that ends a key or a value
abbrev pub is_delimiter : ℕ → Bool
is_delimiter byte = byte == comma_byte || byte == colon_byte

-- a key, which has no comma and no colon, and a value, in which each of these is doubled
abbrev pub pair : List ℕ → List ℕ → List ℕ
pair key value = key ++ (codes " : " ++ doubled is_delimiter value)

-- the names of cases with a comma between two, and with each comma inside a name doubled
abbrev pub enabled_cases : List (List ℕ) → List ℕ
enabled_cases names = join_by (doubled is_comma) (codes ",") names

-- the bytes from the first slash on
abbrev pub from_slash : List ℕ → List ℕ
from_slash [] = []
from_slash (byte ∷ bytes) = if byte == slash_byte then byte ∷ bytes else from_slash bytes

-- a path up to and including its last slash, or nothing if it has no slash
abbrev pub folder_of : List ℕ → List ℕ
folder_of path = reverse (from_slash (reverse path))

-- the pairs of a run, in order
unfoldable pub pairs_of : TestRun → List (List ℕ)
pairs_of run =
    pair (codes "active python runner") (codes "true")
    ∷ pair (codes "enabled_test_cases") (enabled_cases run.cases)
    ∷ pair (codes "output path") (output_path run)
    ∷ pair (codes "tb path") (folder_of run.path)
    ∷ pair (codes "use_color") (codes "false")
    ∷ []

-- the configuration of a run: its pairs with a comma between two
unfoldable pub configuration : TestRun → List ℕ
configuration run = join_by (λ bytes. bytes) (codes ",") (pairs_of run)
