-- When two commands are the same.
use Rattle.std.specs.Prelude.{◌≡◌, ℕ, Bool, true, List}
use Rattle.std.proofs.Common.{ap}
use Rattle.std.specs.Bool.{Decides}
use Rattle.std.specs.Str.{bytes_eq}
use Rattle.std.specs.Cmp.{IsEquivalence, IsPartialEquivalence, decided, partial_equiv_from_equiv}
use Rattle.std.specs.Cmp.Lexicographic.{pointwise}
use Rattle.std.proofs.lemmas.Slice.Eq.{bytes_eq-Decides, slice_eq-Decides}
use Rattle.store_form_2.specs.declared.commands.Command.{Command}

-- the same words in the same order
abbrev pub is_same_command : Command → Command → Bool
is_same_command a b = pointwise bytes_eq a.words b.words

-- the test of two lists of words is true exactly where they are equal
pub words_decide : (a b : List (List ℕ)) → Decides (pointwise bytes_eq a b) (a ≡ b)
words_decide a b = slice_eq-Decides bytes_eq-Decides a b (pointwise bytes_eq a b) (λ _. pointwise bytes_eq a b)

-- the test of two commands is true exactly where they are equal
pub commands_decide : (a b : Command) → Decides (is_same_command a b) (a ≡ b)
commands_decide a b = (λ e. ap (λ (words : List (List ℕ)). record { words = words }) ((words_decide a.words b.words).0 e), λ e. (words_decide a.words b.words).1 (ap (λ (c : Command). c.words) e))

-- commands that the test finds the same have the same words
pub command_alike : (a b : Command) → is_same_command a b ≡ true → a.words ≡ b.words
command_alike a b e = (words_decide a.words b.words).0 e

-- the test of commands is an equivalence: reflexive, symmetric and transitive
pub commands_equivalent : IsEquivalence is_same_command
commands_equivalent = decided is_same_command commands_decide

-- the test of commands is symmetric and transitive
pub commands_partly : IsPartialEquivalence is_same_command
commands_partly = partial_equiv_from_equiv commands_equivalent
