-- Nodes are the same exactly where the test of nodes says so.
use Rattle.std.proofs.Common.{◌≡◌, ℕ, Bool, true, false, ◌==◌, List, [], ◌∷◌, None, Some, Option, is_some, not, get_or, refl, ap, ◌∙◌}
use Rattle.std.specs.Prelude.{Contains, SomeIff}
use Rattle.std.specs.Bool.{Decides}
use Rattle.std.specs.List.{list_any}
use Rattle.std.specs.Str.{bytes_eq}
use Rattle.std.specs.Cmp.{decided}
use Rattle.std.proofs.lemmas.Bool.Decides.{Decides-and, Decides-eqb}
use Rattle.std.proofs.lemmas.Map.Views.{Contains-from_any, list_any-from_Contains}
use Rattle.std.proofs.lemmas.Slice.Eq.{bytes_eq-Decides}
use Rattle.base.specs.declared.file.FileName.{FileName}
use Rattle.base_collections.specs.NameLaws.{names_decide}
use Rattle.store_form_2.specs.Nodes.{Node}
use Rattle.store_form_2.specs.NodeContents.{are_same_by, is_same_node}

tail_of : {X : Type 0} → List X → List X
tail_of [] = []
tail_of (x ∷ xs) = xs

same_tail : {X : Type 0} (x y : X) (xs ys : List X) → x ∷ xs ≡ y ∷ ys → xs ≡ ys
unfolding tail_of
same_tail x y xs ys e = ap tail_of e

same_by-Decides : {X : Type 0} (test : X → X → Bool) → ((a b : X) → Decides (test a b) (a ≡ b)) → (xs ys : List X) → Decides (are_same_by test xs ys) (xs ≡ ys)
unfolding are_same_by
same_by-Decides test each [] [] = (λ e. refl, λ e. refl)
same_by-Decides test each [] (y ∷ ys) = (λ e. absurd cc, λ e. absurd cc)
same_by-Decides test each (x ∷ xs) [] = (λ e. absurd cc, λ e. absurd cc)
same_by-Decides {X = X} test each (x ∷ xs) (y ∷ ys) =
    let both = Decides-and (test x y) (are_same_by test xs ys) (each x y) (same_by-Decides test each xs ys) in (
      λ e. ap (λ (z : X). z ∷ xs) (both.0 e).0 ∙ ap (λ (zs : List X). y ∷ zs) (both.0 e).1,
      λ e. both.1 (ap (λ (zs : List X). get_or zs 0 x) e, same_tail x y xs ys e),
    )

node_by : FileName → List (List ℕ) → ℕ → List ℕ → Node
node_by name command text deps = record { name = name; command = command; text = text; deps = deps }

pub nodes_decide : (a b : Node) → Decides (is_same_node a b) (a ≡ b)
unfolding is_same_node node_by
nodes_decide a b =
    let deps = same_by-Decides (λ (n m : ℕ). n == m) Decides-eqb a.deps b.deps in
    let text = Decides-and _ _ (Decides-eqb a.text b.text) deps in
    let command = Decides-and _ _ (same_by-Decides bytes_eq bytes_eq-Decides a.command b.command) text in
    let all = Decides-and _ _ (names_decide a.name b.name) command in (
      λ e.
          let same = all.0 e in
          ap (λ (n : FileName). node_by n a.command a.text a.deps) same.0
          ∙ ap (λ (ws : List (List ℕ)). node_by b.name ws a.text a.deps) same.1.0
          ∙ ap (λ (n : ℕ). node_by b.name b.command n a.deps) same.1.1.0
          ∙ ap (λ (ns : List ℕ). node_by b.name b.command b.text ns) same.1.1.1,
      λ e. all.1 (ap (λ (n : Node). n.name) e, (ap (λ (n : Node). n.command) e, (ap (λ (n : Node). n.text) e, ap (λ (n : Node). n.deps) e))),
    )

-- a test that decides equality passes for an item of a list exactly if the list contains the value
pub any_decides : {X : Type 0} {test : X → X → Bool} → ((a b : X) → Decides (test a b) (a ≡ b)) → (xs : List X) (x : X) → Decides (list_any (test x) xs) (Contains xs x)
any_decides {test = test} each xs x = (λ e. Contains-from_any (λ a b. (each a b).0) x xs e, λ has. list_any-from_Contains (decided test each) x xs has)

not_false : (b : Bool) → (b ≡ true → ⊥) → b ≡ false
not_false true never = absurd (never refl)
not_false false never = refl

pub none_any : {X : Type 0} {test : X → X → Bool} → ((a b : X) → Decides (test a b) (a ≡ b)) → (xs : List X) (x : X) → ¬ Contains xs x → list_any (test x) xs ≡ false
none_any {test = test} each xs x none = not_false (list_any (test x) xs) (λ e. none ((any_decides each xs x).0 e))

-- what has no location is new
pub new_is : (texts : List (List ℕ)) (text : List ℕ) (number : Option ℕ) (n : ℕ) → SomeIff number (¬ Contains texts text) n → is_some number ≡ not (list_any (bytes_eq text) texts)
new_is texts text (Some m) n is = rw (none_any bytes_eq-Decides texts text is.0) refl
new_is texts text None n is = by (list_any (bytes_eq text) texts) refl
  where
    by : (b : Bool) → list_any (bytes_eq text) texts ≡ b → false ≡ not b
    by true e = refl
    by false e = absurd (is (λ has. let found : list_any (bytes_eq text) texts ≡ true = (any_decides bytes_eq-Decides texts text).1 has in absurd cc))
