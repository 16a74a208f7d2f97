-- One name more is found.
use Rattle.std.proofs.Common.{◌≡◌, ℕ, List, ◌∷◌, ◌++◌, [], Contains, Vec, Global, Option, Some, cond, length, map, sym, ap, subst, ◌∙◌, arith}
use Rattle.std.proofs.lemmas.List.{length-map, map-append}
use Rattle.std.specs.BTreeMap.{get_by}
use Rattle.std.specs.Cmp.Lexicographic.{slice_cmp}
use Rattle.std.specs.Ordering.{nat_cmp}
use Rattle.std.specs.Str.{bytes_eq}
use Rattle.vhdl_scope.specs.Names.{AreFound, NameSet, keys_of}
use Rattle.vhdl_scope.proofs.NameLemmas.{found_push, put_at}
use Rattle.vhdl_scope.proofs.names.Names.put.Goals as goal

abbrev texts : List (Vec ℕ Global) → List (List ℕ)
texts keys = map (λ key. key.items) keys

pub invariant_of-self-2 : goal.invariant_of-self-2
invariant_of-self-2 c =
    let names : List (List ℕ) = texts c.self.inside.keys.items in
    let last : List ℕ = c.args.name.now in
    let number : c.len-number.result ≡ length names = omega (arith, c.len-number.ensures, length-map c.self.inside.keys.items (λ (key : Vec ℕ Global). key.items)) in
    let new : ¬ Contains names last = subst (λ (set : NameSet). ¬ Contains (keys_of set) last) (sym c.self.view_is) c.requires in
    subst (AreFound (λ (name : List ℕ). get_by (λ (key : Vec ℕ Global). slice_cmp nat_cmp name key.items) c.insert.new.self))
    (sym (ap texts (c.push_reserved.ensures.items ∙ ap (λ (keys : List (Vec ℕ Global)). keys ++ c.in_ok-key.key ∷ []) c.in_ok-reserve.ensures.items)
    ∙ (map-append (λ (key : Vec ℕ Global). key.items) c.self.inside.keys.items (c.in_ok-key.key ∷ []) ∙ ap (λ (text : List ℕ). names ++ text ∷ []) c.in_ok-key.ensures.items)))
    (found_push (λ (name : List ℕ). get_by (λ (key : Vec ℕ Global). slice_cmp nat_cmp name key.items) c.self.inside.numbers)
    (λ (name : List ℕ). get_by (λ (key : Vec ℕ Global). slice_cmp nat_cmp name key.items) c.insert.new.self) names last new c.self.invariant
    (λ name. put_at c.self.inside.numbers c.insert.new.self c.in_ok-copy.copy (Some c.len-number.result) c.in_ok-insert.ensures.updates name
    ∙ (ap (λ (text : List ℕ). cond (bytes_eq text name) (Some c.len-number.result) (get_by (λ (key : Vec ℕ Global). slice_cmp nat_cmp name key.items) c.self.inside.numbers)) c.in_ok-copy.ensures.items
    ∙ ap (λ (n : ℕ). cond (bytes_eq last name) (Some n) (get_by (λ (key : Vec ℕ Global). slice_cmp nat_cmp name key.items) c.self.inside.numbers)) number)))
