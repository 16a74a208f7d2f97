-- Rows and the nodes that they are.
use Rattle.std.proofs.Common.{◌≡◌, ◌≢◌, ℕ, ◌<◌, List, [], ◌∷◌, ◌++◌, length, map, get_or, None, Some, Option, Ok, Err, Result, sym, ap, ◌∙◌, arith, inl, inr, length-append}
use Rattle.std.specs.Prelude.{All, AllPairs, ◌⊎◌, IfOk, OnErr, option_map}
use Rattle.std.proofs.lemmas.Bool.{cases_lt}
use Rattle.std.proofs.lemmas.List.{get_or-map, get_or_append_left, length-map, map-append}
use Rattle.std.proofs.lemmas.Option.{slice_get-map}
use Rattle.base.specs.declared.file.FileName.{FileName}
use Rattle.base.specs.declared.memory.NoMemory.{NoMemory}
use Rattle.project_views.proofs.Parts.{map_same}
use Rattle.base_collections.specs.Numbers.{IsIndexOf, IsNumbered}
use Rattle.store_form_2.specs.Nodes.{Node}
use Rattle.store_form_2.specs.declared.commands.Command.{Command}
use Rattle.store_form_2.specs.declared.rows.Row.{Row}
use Rattle.store_form_2.specs.Rows.{IsRowIn, no_name, node_of, row_by, words_of}

-- no key occurs twice
pub one_location : {X : Type 0} (xs : List X) (i j : ℕ) (d : X) → AllPairs (λ a b. a ≢ b) xs → i < length xs → j < length xs → get_or xs i d ≡ get_or xs j d → i ≡ j
one_location xs i j d once l m e =
    elim (cases_lt i j) [
      | inl a ↦ absurd (once i j d a m e)
      | inr a ↦ elim (cases_lt j i) [
        | inl b ↦ absurd (once j i d b l (sym e))
        | inr b ↦ omega arith
      ]
    ]

-- names and commands that are added change no node
more_same : {X : Type 0} (old new : List X) (key : X) → (new ≡ old) ⊎ (new ≡ old ++ key ∷ []) → (n : ℕ) (d : X) → n < length old → get_or new n d ≡ get_or old n d
more_same {X = X} old new key (inl same) n d l = ap (λ (xs : List X). get_or xs n d) same
more_same {X = X} old new key (inr more) n d l = ap (λ (xs : List X). get_or xs n d) more ∙ get_or_append_left old (key ∷ []) d n l

-- what an answer says of the keys
pub grown_by : {X : Type 0} (old new : List X) (key : X) (answer : Result ℕ NoMemory) → IfOk answer (λ number. IsNumbered key number old new) → OnErr answer (new ≡ old) → (new ≡ old) ⊎ (new ≡ old ++ key ∷ [])
grown_by old new key (Ok number) ok err = ok.grown
grown_by old new key (Err fault) ok err = inl err

no_row : Row
no_row = record { name = 0; command = 0; text = 0; deps = [] }

node_by : FileName → List (List ℕ) → ℕ → List ℕ → Node
node_by name command text deps = record { name = name; command = command; text = text; deps = deps }

pub more_names : (old new : List FileName) (key : FileName) (commands : List (List (List ℕ))) (rows : List Row) → All (IsRowIn old commands) rows → (new ≡ old) ⊎ (new ≡ old ++ key ∷ []) → map (node_of new commands) rows ≡ map (node_of old commands) rows
unfolding node_by
more_names old new key commands rows are more =
    map_same (node_of new commands) (node_of old commands) rows no_row
    (λ k l. ap (λ (name : FileName). node_by name (get_or commands (get_or rows k no_row).command []) (get_or rows k no_row).text (get_or rows k no_row).deps) (more_same old new key more (get_or rows k no_row).name no_name (are k no_row l).name))

pub more_commands : (names : List FileName) (old new : List (List (List ℕ))) (key : List (List ℕ)) (rows : List Row) → All (IsRowIn names old) rows → (new ≡ old) ⊎ (new ≡ old ++ key ∷ []) → map (node_of names new) rows ≡ map (node_of names old) rows
unfolding node_by
more_commands names old new key rows are more =
    map_same (node_of names new) (node_of names old) rows no_row
    (λ k l. ap (λ (command : List (List ℕ)). node_by (get_or names (get_or rows k no_row).name no_name) command (get_or rows k no_row).text (get_or rows k no_row).deps) (more_same old new key more (get_or rows k no_row).command [] (are k no_row l).command))

pub words_more : (old new : List Command) (words : List (List ℕ)) → (new ≡ old) ⊎ (new ≡ old ++ record { words = words } ∷ []) → (words_of new ≡ words_of old) ⊎ (words_of new ≡ words_of old ++ words ∷ [])
words_more old new words (inl same) = inl (ap words_of same)
words_more old new words (inr more) = inr (ap words_of more ∙ map-append (λ (c : Command). c.words) old (record { words = words } ∷ []))

-- a key of words is the words
pub words_grown : (old new : List Command) (words : List (List ℕ)) (answer : Result ℕ NoMemory) → IfOk answer (λ number. IsNumbered (record { words = words }) number old new) → IfOk answer (λ number. IsNumbered words number (words_of old) (words_of new))
words_grown old new words (Err fault) ok = tt
words_grown old new words (Ok number) ok = record {
  numbered = slice_get-map (λ (c : Command). c.words) new number ∙ ap (option_map (λ (c : Command). c.words)) ok.numbered;
  grown = words_more old new words ok.grown;
}

-- rows of one node are the same
row_of_node : (names : List FileName) (commands : List (List (List ℕ))) (a b : Row) → AllPairs (λ x y. x ≢ y) names → AllPairs (λ x y. x ≢ y) commands → IsRowIn names commands a → IsRowIn names commands b → node_of names commands a ≡ node_of names commands b → a ≡ b
row_of_node names commands a b once once_commands in_a in_b same =
    let name : a.name ≡ b.name = one_location names a.name b.name no_name once in_a.name in_b.name (ap (λ (n : Node). n.name) same) in
    let command : a.command ≡ b.command = one_location commands a.command b.command [] once_commands in_a.command in_b.command (ap (λ (n : Node). n.command) same) in
    ap (λ (n : ℕ). row_by n a.command a.text a.deps) name
    ∙ ap (λ (n : ℕ). row_by b.name n a.text a.deps) command
    ∙ ap (λ (n : ℕ). row_by b.name b.command n a.deps) (ap (λ (n : Node). n.text) same)
    ∙ ap (λ (ns : List ℕ). row_by b.name b.command b.text ns) (ap (λ (n : Node). n.deps) same)

pub node_location : (names : List FileName) (commands : List (List (List ℕ))) (rows : List Row) (row : Row) (location : Option ℕ) → AllPairs (λ x y. x ≢ y) names → AllPairs (λ x y. x ≢ y) commands → All (IsRowIn names commands) rows → IsRowIn names commands row → IsIndexOf rows row location → IsIndexOf (map (node_of names commands) rows) (node_of names commands row) location
node_location names commands rows row None once once_commands are in_row none = λ has.
    let l : has.0 < length rows = omega (arith, has.1, length-map rows (node_of names commands)) in
    let same : node_of names commands (get_or rows has.0 row) ≡ node_of names commands row = sym (get_or-map (node_of names commands) rows has.0 row (node_of names commands row) l) ∙ has.2 in
    none (has.0, l, row_of_node names commands (get_or rows has.0 row) row once once_commands (are has.0 row l) in_row same)
node_location names commands rows row (Some n) once once_commands are in_row at = slice_get-map (node_of names commands) rows n ∙ ap (option_map (node_of names commands)) at

-- rows stay in a table of more commands
pub rows_still : (names : List FileName) (old new : List (List (List ℕ))) (key : List (List ℕ)) (rows : List Row) → All (IsRowIn names old) rows → (new ≡ old) ⊎ (new ≡ old ++ key ∷ []) → All (IsRowIn names new) rows
rows_still names old new key rows are (inl same) k d l = record { name = (are k d l).name; command = rw same (are k d l).command }
rows_still names old new key rows are (inr more) k d l = record { name = (are k d l).name; command = rw more (omega (arith, (are k d l).command, length-append old (key ∷ []))) }

-- words are there once where commands are
pub words_once : (commands : List Command) → AllPairs (λ a b. a ≢ b) commands → AllPairs (λ a b. a ≢ b) (words_of commands)
words_once commands once i j d a b e =
    let size : length (words_of commands) ≡ length commands = length-map commands (λ (c : Command). c.words) in
    let no : Command = record { words = d } in
    let m : j < length commands = omega (arith, size) in
    let left : get_or (words_of commands) i d ≡ (get_or commands i no).words = get_or-map (λ (c : Command). c.words) commands i no d (omega arith) in
    let right : get_or (words_of commands) j d ≡ (get_or commands j no).words = get_or-map (λ (c : Command). c.words) commands j no d m in
    once i j no a m (ap (λ (words : List (List ℕ)). record { words = words }) (sym left ∙ e ∙ right))
