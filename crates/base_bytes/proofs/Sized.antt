-- The tests of sizes and of names decide what they say.
use Rattle.std.proofs.Common.{◌≡◌, ◌≤◌, ℕ, Bool, ◌∙◌, List, length, refl, ap}
use Rattle.std.specs.Prelude.{All, nat_le}
use Rattle.std.specs.Bool.{Decides}
use Rattle.std.specs.List.{list_all}
use Rattle.std.proofs.lemmas.Bool.{leb-true, le-leb}
use Rattle.std.proofs.lemmas.Bool.Decides.{Decides-like, Decides-and, Decides-by_and}
use Rattle.std.proofs.lemmas.Slice.Eq.{bytes_eq-Decides}
use Rattle.base.specs.declared.file.FileName.{FileName}
use Rattle.base.specs.Names.{is_same_name, IsBetween, FitsName, FitsCommand}
use Rattle.base.specs.declared.limits.TheConstants.{COMMAND_LIMIT, LIBRARY_LIMIT, PATH_LIMIT, WORD_LIMIT}
use Rattle.base_bytes.specs.Sizes.{has_command_sizes, has_name_sizes, is_within}

pub nat_le-Decides : (a b : ℕ) → Decides (nat_le a b) (a ≤ b)
nat_le-Decides a b = (leb-true a b, le-leb a b)

pub all-Decides : {X : Type 0} (test : X → Bool) (P : X → Type 0) → ((x : X) → Decides (test x) (P x)) → (xs : List X) → Decides (list_all test xs) (All P xs)
all-Decides test P each = Decides-by_and test P (list_all test) each refl (λ _ _. refl)

pub same_name-Decides : (a b : FileName) → Decides (is_same_name a b) (a ≡ b)
same_name-Decides a b =
    Decides-like (is_same_name a b)
    (λ h. ap (λ (library : List ℕ). record { library = library; path = a.path }) h.0 ∙ ap (λ (path : List ℕ). record { library = b.library; path = path }) h.1)
    (λ e. (ap (λ (n : FileName). n.library) e, ap (λ (n : FileName). n.path) e))
    (Decides-and _ _ (bytes_eq-Decides a.library b.library) (bytes_eq-Decides a.path b.path))

within-Decides : (low high n : ℕ) → Decides (is_within low high n) (IsBetween low high n)
within-Decides low high n =
    Decides-like (is_within low high n) (λ h. record { at_least = h.0; at_most = h.1 }) (λ b. (b.at_least, b.at_most)) (Decides-and _ _ (nat_le-Decides low n) (nat_le-Decides n high))

pub name_sizes-Decides : (name : FileName) → Decides (has_name_sizes name) (FitsName name)
name_sizes-Decides name =
    Decides-like (has_name_sizes name) (λ h. record { library = h.0; path = h.1 }) (λ fits. (fits.library, fits.path)) (Decides-and _ _ (within-Decides 1 LIBRARY_LIMIT (length name.library)) (within-Decides 1 PATH_LIMIT (length name.path)))

pub command_sizes-Decides : (command : List (List ℕ)) → Decides (has_command_sizes command) (FitsCommand command)
command_sizes-Decides command =
    Decides-like (has_command_sizes command) (λ h. record { count = h.0; words = h.1 }) (λ fits. (fits.count, fits.words))
    (Decides-and _ _ (within-Decides 1 COMMAND_LIMIT (length command)) (all-Decides (λ word. nat_le (length word) WORD_LIMIT) (λ word. length word ≤ WORD_LIMIT) (λ word. nat_le-Decides (length word) WORD_LIMIT) command))
