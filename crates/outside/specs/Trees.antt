-- A tree is a finite map from paths to bytes: which of its paths are listed, what reads give, and which paths they asked for.
use Rattle.std.specs.Prelude.{◌≡◌, ◌↔◌, ◌⊎◌, ℕ, ◌≤◌, Bool, not, ◌&&◌, ◌==◌, nat_le, List, [], ◌∷◌, ◌++◌, length, codes, IsTrue, Option, Some, None, IsSome, Result, Ok, Err, Contains, if◌then◌else◌}
use Rattle.std.specs.List.{AllByRecursion, starts_with, slice_split, list_all}
use Rattle.std.specs.Ordering.{nat_cmp}
use Rattle.std.specs.Cmp.Lexicographic.{slice_cmp}
use Rattle.std.specs.declared.cmp.Ordering.TheVariants.{Less}
use Rattle.std.specs.Str.{IsUtf8}
use Rattle.outside.specs.declared.tree.NamesEnd.{NamesEnd}
use Rattle.outside.specs.declared.tree.NamesEnd.TheVariants as names
use Rattle.outside.specs.declared.tree.ReadEnd.{ReadEnd}
use Rattle.outside.specs.declared.tree.ReadEnd.TheVariants as read
use Rattle.outside.specs.declared.tree.TreeFault.{TreeFault}
use Rattle.base.specs.declared.limits.TheConstants.{PATH_LIMIT}

-- each path is less than the next, by bytes
abbrev pub IsRising : List (List ℕ) → Type 0
IsRising [] = Unit {0}
IsRising (path ∷ []) = Unit {0}
IsRising (path ∷ next ∷ rest) = (slice_cmp nat_cmp path next ≡ Less) × IsRising (next ∷ rest)

-- a component that a listing doesn't pass over
abbrev pub is_shown : List ℕ → Bool
is_shown component = not (starts_with (λ a b. a == b) component (46 ∷ []))

-- a path that is listed: at most 1,024 bytes, not below vunit_out, no component that begins with a dot
abbrev pub is_listed : List ℕ → Bool
is_listed path = nat_le (length path) PATH_LIMIT && not (starts_with (λ a b. a == b) path (codes "vunit_out/")) && list_all is_shown (slice_split (λ b. b == 47) path)

-- what a path of any listing is
pub record IsName (path : List ℕ) : Type 0 where
  pub some : 1 ≤ length path
  pub short : length path ≤ PATH_LIMIT
  pub text : IsUtf8 path

-- the form of a listing, whatever the tree holds: at most `limit` paths, rising, each of which may be listed
abbrev pub IsListing : ℕ → NamesEnd → Type 0
IsListing limit (names.Got paths) = (length paths ≤ limit) × IsRising paths × AllByRecursion IsName paths
IsListing limit names.TooMany = Unit {0}

-- what a tree lists
abbrev pub Lists : (List ℕ → Option (List ℕ)) → List ℕ → Type 0
Lists file path = IsSome (file path) × IsTrue (is_listed path)

-- The list of a tree: it rises, and a path is in it exactly where the tree lists that path.
pub record IsListOf (file : List ℕ → Option (List ℕ)) (paths : List (List ℕ)) : Type 0 where
  pub rising : IsRising paths
  pub each : (path : List ℕ) → Contains paths path ↔ Lists file path

-- two trees hold the same files, and list the same paths
pub record HoldsSame (file other : List ℕ → Option (List ℕ)) (paths others : List (List ℕ)) : Type 0 where
  pub files : file ≡ other
  pub lists : paths ≡ others

-- the answer to a question for names: all paths of the list, or that they are more than the limit
abbrev pub names_end : List (List ℕ) → ℕ → NamesEnd
names_end paths limit = if nat_le (length paths) limit then names.Got paths else names.TooMany

-- what is read of a file: its bytes, that it is absent, or that its bytes are more than the limit
abbrev pub read_end : Option (List ℕ) → ℕ → ReadEnd
read_end None limit = read.Absent
read_end (Some bytes) limit = if nat_le (length bytes) limit then read.Got bytes else read.TooLong

-- After a read this path is the last that was asked for. A read that failed may leave it out, since an object that
-- finds no memory for the path can't hold it.
abbrev pub Asks : {T : Type 0} → Result T TreeFault → List ℕ → List (List ℕ) → List (List ℕ) → Type 0
Asks (Ok end) path old new = new ≡ old ++ path ∷ []
Asks (Err fault) path old new = (new ≡ old) ⊎ (new ≡ old ++ path ∷ [])

-- no more than the limit was read
abbrev pub FitsReadLimit : ℕ → ReadEnd → Type 0
FitsReadLimit limit (read.Got bytes) = length bytes ≤ limit
FitsReadLimit limit read.Absent = Unit {0}
FitsReadLimit limit read.TooLong = Unit {0}
