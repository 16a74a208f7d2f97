use Rattle.std.proofs.Common.{◌≡◌, ◌+◌, List, ℕ, length, subst, arith, length-append, refl}
use Rattle.std.proofs.lemmas.List.{length-map}
use Rattle.std.proofs.lemmas.List.Elements.{Contains-append_right}
use Rattle.base_collections.specs.Numbers.{IsIndexOf}
use Rattle.store_table.specs.Located.{located_text, located_texts}
use Rattle.store_table.specs.declared.products.ProductRow.{ProductRow}
use Rattle.passes_table.specs.Pending.{all_texts, fresh_in}
use Rattle.passes_table.proofs.PendingFiles.{with_known, with_new}
use Rattle.passes_table.proofs.pending.PendingList.add.Goals as goal

pub add_new-requires-clause-new : goal.add_new-requires-clause-new
add_new-requires-clause-new c =
    let texts : List (List ℕ) = located_texts c.args.held.now.segments c.args.texts.now in
    let never = subst (IsIndexOf (all_texts texts c.args.self.now) c.args.artefact.now) c.in-None.is c.number_of.ensures in
    λ has. never (Contains-append_right texts (fresh_in c.args.self.now.fresh) c.args.artefact.now has)

pub returns-in-Some : goal.returns-in-Some
returns-in-Some c =
    let texts : List (List ℕ) = located_texts c.args.held.now.segments c.args.texts.now in
    let row : ProductRow = record { name = c.args.name; text = c.in-Some.text } in
    let found = subst (IsIndexOf (all_texts texts c.args.self.now) c.args.artefact.now) c.in-Some.is c.number_of.ensures in
    record {
      is = λ names own named fits few pending. with_known c.push.result names texts c.args.self.now (record { row = record { files = c.push.new.self }; fresh = c.args.self.now.fresh }) row (record { name = own; artefact = c.args.artefact.now }) pending refl c.push.ensures.ok c.push.ensures.err named found few (record { name = fits; artefact = c.requires.small });
    }

pub returns-in-None : goal.returns-in-None
returns-in-None c =
    let texts : List (List ℕ) = located_texts c.args.held.now.segments c.args.texts.now in
    let row : ProductRow = record { name = c.args.name; text = c.len.result + c.len-in-None.result } in
    let never = subst (IsIndexOf (all_texts texts c.args.self.now) c.args.artefact.now) c.in-None.is c.number_of.ensures in
    let at : row.text ≡ length (all_texts texts c.args.self.now) = omega (arith, c.len.ensures, c.len-in-None.ensures, length-append texts (fresh_in c.args.self.now.fresh), length-map c.args.texts.now.indices.items (located_text c.args.held.now.segments), length-map c.args.self.now.fresh.texts.indices.items (located_text c.args.self.now.fresh.held.segments)) in
    record {
      is = λ names own named fits few pending. with_new c.add_new.result names texts c.args.self.now c.add_new.new.self row (record { name = own; artefact = c.args.artefact.now }) pending c.add_new.ensures.located c.add_new.ensures.ok_row c.add_new.ensures.err_row c.add_new.ensures.ok_fresh c.add_new.ensures.err_fresh named at never few (record { name = fits; artefact = c.requires.small });
    }
