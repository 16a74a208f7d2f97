-- The artefact that the compiler makes of a file: a line for each of its units, and then one for each of its script lines.
-- Each ends with a line feed.
use Rattle.std.specs.Prelude.{ℕ, List, [], ◌∷◌, ◌++◌, codes}
use Rattle.std.specs.List.{flat_map}
use Rattle.std.specs.Option.{option_map_or}
use Rattle.base.specs.declared.child.MaybeText.{MaybeText}
use Rattle.base.specs.declared.design.Scan.{Scan}
use Rattle.base.specs.declared.design.Unit.{Unit as DesignUnit}
use Rattle.base.specs.declared.design.UnitKind.{UnitKind}
use Rattle.base.specs.declared.design.UnitKind.TheVariants as kinds
use Rattle.base.specs.declared.lexical.Span.{Span}
use Rattle.vhdl_spec.specs.References.{owner_name}
use Rattle.child_tools.specs.Scripts.{script_at}

-- the word for the kind of a unit
unfoldable pub kind_word : UnitKind → List ℕ
kind_word kinds.Entity = codes "entity"
kind_word kinds.Architecture = codes "architecture"
kind_word kinds.Configuration = codes "configuration"
kind_word kinds.Package = codes "package"
kind_word kinds.PackageBody = codes "body"
kind_word kinds.PackageInstance = codes "instance"
kind_word kinds.Context = codes "context"

-- of an architecture its entity is named too
unfoldable pub of_entity : UnitKind → MaybeText → List ℕ
of_entity kinds.Architecture owner = codes " of " ++ owner_name owner
of_entity _ owner = []

-- the line of a unit: its kind and its name, and of an architecture its entity
unfoldable pub unit_line : DesignUnit → List ℕ
unit_line unit = codes "unit " ++ (kind_word unit.kind ++ (codes " " ++ (unit.name ++ (of_entity unit.kind unit.owner ++ 10 ∷ []))))

-- the line that an artefact has for a script line of a comment
unfoldable pub script_line : List ℕ → List ℕ
script_line line = codes "script " ++ (line ++ 10 ∷ [])

-- the line of the comment at some bytes of a text, where it is a script line
abbrev pub comment_line : List ℕ → Span → List ℕ
comment_line text span = option_map_or script_line (script_at text span) []

-- the whole artefact of a text with this scan
unfoldable pub artefact_of : List ℕ → Scan → List ℕ
artefact_of text scan = flat_map unit_line scan.units ++ flat_map (comment_line text) scan.tokens.comments
