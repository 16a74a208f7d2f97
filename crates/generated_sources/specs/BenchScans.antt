-- The scan of the file of the generated bench, and what its two units refer to.
use Rattle.std.specs.Prelude.{ℕ, ◌+◌, List, [], ◌∷◌, codes, true}
use Rattle.base.specs.declared.child.MaybeText.TheVariants.{Given, Nothing}
use Rattle.base.specs.declared.design.Role.{Role}
use Rattle.base.specs.declared.design.Role.TheVariants.{All, Closing, Colon, Dot, End, Generic, Is, Library, Name, Of, Opening, Other, Semicolon, Use}
use Rattle.base.specs.declared.design.Role.TheVariants as roles
use Rattle.base.specs.declared.design.Scan.{Scan}
use Rattle.base.specs.declared.design.Unit.{Unit as DesignUnit}
use Rattle.base.specs.declared.design.UnitKind.TheVariants.{Architecture, Entity}
use Rattle.base.specs.declared.lexical.Token.{Token}
use Rattle.base.specs.declared.lexical.TokenKind.TheVariants.{Str, Symbol, Word}
use Rattle.base.specs.declared.project.ProjectFile.{ProjectFile}
use Rattle.base.specs.declared.refs.Ref.{Ref}
use Rattle.vhdl_spec.specs.Dependencies.{LinkUnit}
use Rattle.vhdl_spec.specs.References.{work}
use Rattle.vhdl_spec.specs.Units.{Element, item, owned, plain}
use Rattle.generated_sources.specs.PackageLinks.{used_library, used_ref}

-- ## Tokens

-- a word token over the bytes from `start` up to before `end`
abbrev word : ℕ → ℕ → Token
word start end = record { kind = Word; start = start; end = end }

-- a token of a string literal with its quotes, over the bytes from `start` up to before `end`
abbrev string : ℕ → ℕ → Token
string start end = record { kind = Str; start = start; end = end }

-- a token of one byte that is a delimiter, at an offset
abbrev symbol : ℕ → Token
symbol start = record { kind = Symbol; start = start; end = start + 1 }

-- those of the lines that make the first package visible, of the entity, and of the architecture
abbrev pub bench_file_tokens : List Token
bench_file_tokens =
    word 0 7 ∷ word 8 11 ∷ symbol 11 ∷ word 13 16 ∷ word 17 20 ∷ symbol 20 ∷ word 21 23 ∷ symbol 23 ∷ word 24 27 ∷
    symbol 27 ∷ word 29 35 ∷ word 36 38 ∷ word 39 41 ∷ word 42 49 ∷ symbol 50 ∷ word 51 61 ∷ symbol 62 ∷ word 64 70 ∷
    symbol 70 ∷ symbol 71 ∷ word 73 76 ∷ symbol 76 ∷ word 78 90 ∷ word 91 92 ∷ word 93 95 ∷ word 96 98 ∷
    word 99 101 ∷ word 102 107 ∷ word 110 111 ∷ symbol 112 ∷ symbol 113 ∷ word 115 118 ∷ symbol 118 ∷
    string 119 124 ∷ symbol 124 ∷ symbol 125 ∷ word 129 130 ∷ symbol 131 ∷ symbol 132 ∷ word 134 137 ∷ symbol 137 ∷
    string 138 143 ∷ symbol 143 ∷ symbol 144 ∷ word 146 149 ∷ symbol 149 ∷ []

-- the role of each token of the bench file, in order
abbrev pub bench_roles : List Role
bench_roles =
    Library ∷ Name ∷ Semicolon ∷ Use ∷ Name ∷ Dot ∷ Name ∷ Dot ∷ All ∷ Semicolon ∷ roles.Entity ∷ Name ∷ Is ∷
    Generic ∷ Opening ∷ Name ∷ Colon ∷ Name ∷ Closing ∷ Semicolon ∷ End ∷ Semicolon ∷ roles.Architecture ∷ Name ∷
    Of ∷ Name ∷ Is ∷ Other ∷ Name ∷ Other ∷ Other ∷ Name ∷ Opening ∷ Other ∷ Closing ∷ Semicolon ∷ Name ∷ Other ∷
    Other ∷ Name ∷ Opening ∷ Other ∷ Closing ∷ Semicolon ∷ End ∷ Semicolon ∷ []

-- ## Units

-- the bytes `tb`, which name the entity of the generated bench
unfoldable pub bench_entity_name : List ℕ
bench_entity_name = codes "tb"

-- two context items, an entity and its architecture
abbrev pub bench_elements : List Element
bench_elements = item 2 ∷ item 9 ∷ plain Entity 21 ∷ owned Architecture 0 45 ∷ []

-- the entity `tb` as a design unit: its context starts at token 0, its keyword is token 10, and it ends with token 21
abbrev pub bench_entity : DesignUnit
bench_entity = record { kind = Entity; name = bench_entity_name; owner = Nothing; lead = 0; first = 10; last = 21 }

-- the architecture `a` of `tb` as a design unit: tokens 22 to 45, without a context of its own
abbrev pub bench_architecture : DesignUnit
bench_architecture = record { kind = Architecture; name = 97 ∷ []; owner = Given bench_entity_name; lead = 22; first = 22; last = 45 }

-- what a scanner finds in the bench file: tokens, no comment, an entity and its architecture
abbrev pub bench_scan : Scan
bench_scan = record { tokens = record { list = bench_file_tokens; comments = [] }; units = bench_entity ∷ bench_architecture ∷ [] }

-- ## References

-- the entity uses the first package
abbrev pub entity_link : (position : ℕ) → ProjectFile → LinkUnit
entity_link position file = record {
  file = file;
  position = position;
  scope = record { library = file.name.library; unit = bench_entity; names = used_library ∷ []; contexts = []; configured = Nothing };
  refs = used_ref (112 ∷ 49 ∷ []) ∷ [];
  whole = [];
}

-- the architecture belongs to the entity
abbrev pub entity_ref : Ref
entity_ref = record { library = work; name = bench_entity_name; architecture = Nothing; strict = true; at = 22 }

-- the architecture `a` in the file at a position of a project: it refers to its entity alone
abbrev pub architecture_link : (position : ℕ) → ProjectFile → LinkUnit
architecture_link position file = record {
  file = file;
  position = position;
  scope = record { library = file.name.library; unit = bench_architecture; names = []; contexts = []; configured = Nothing };
  refs = entity_ref ∷ [];
  whole = [];
}
