-- What remains to be proved of `add_library`.
use Rattle.std.proofs.Common.{◌≡◌, sym, ap, subst, ◌∙◌, List, ℕ, false}
use Rattle.std.specs.Prelude.{codes, Contains}
use Rattle.std.specs.Str.{bytes_eq}
use Rattle.base_collections.specs.Numbers.{IsNumbered}
use Rattle.project_file.proofs.LibrarySteps.{new_is}
use Rattle.project_file.proofs.libraries.add_library.Goals as goal

pub returns-in_ok-add-in-None : goal.returns-in_ok-add-in-None
returns-in_ok-add-in-None c = λ are.
    let other : bytes_eq c.args.library (codes "work") ≡ false = sym (c.is_same.ensures ∙ ap (λ (bytes : List ℕ). bytes_eq bytes (codes "work")) c.bytes.ensures) ∙ c.if-is_same.false in
    new_is c.args.before.now.keys c.add.new.self.keys c.args.library c.in_ok-add-in-None.field-0 other are (subst (λ key. ¬ Contains c.args.before.now.keys key) c.in_ok-key.ensures c.in-None.ensures)
    (subst (λ key. IsNumbered key c.in_ok-add-in-None.field-0 c.args.before.now.keys c.add.new.self.keys) c.in_ok-key.ensures c.in_ok-add-in-None.ensures.ok)
