-- Texts of files that are borrowed.
use Rattle.std.proofs.Common.{◌≡◌, ℕ, ◌<◌, List, [], map, length, get_or, ap, ◌∙◌, arith}
use Rattle.std.proofs.lemmas.List.{get_or-map, length-map}
use Rattle.base.specs.declared.graph.Entry.{Entry}
use Rattle.store.specs.Held.{AreBorrowedBy}

-- where none is borrowed
pub none_borrowed : (files : List Entry) (borrowed : List (List ℕ)) → borrowed ≡ [] → AreBorrowedBy files borrowed
none_borrowed files borrowed none number other low = absurd (omega (arith, low, ap length none))

-- where those of all files are
pub all_borrowed : (files : List Entry) (borrowed : List (List ℕ)) → borrowed ≡ map (λ file. file.text) files → AreBorrowedBy files borrowed
all_borrowed files borrowed all number other low =
    let there : number < length files = omega (arith, low, ap length all, length-map files (λ (f : Entry). f.text)) in
    ap (λ (ts : List (List ℕ)). get_or ts number []) all ∙ get_or-map (λ (f : Entry). f.text) files number other [] there
