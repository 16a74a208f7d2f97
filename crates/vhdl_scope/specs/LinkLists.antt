-- The links of a list, however they are kept.
use Rattle.std.specs.Prelude.{List}
use Rattle.vhdl_scope.specs.declared.links.Link.{Link}
use Rattle.vhdl_scope.specs.declared.links.Linked.{Linked}
use Rattle.vhdl_scope.specs.declared.links.Linked.TheVariants.{One, Many}

-- the links of a list that has one of them, or many
unfoldable pub links_of : Linked → List Link
links_of (One link) = link
links_of (Many links) = links.items
