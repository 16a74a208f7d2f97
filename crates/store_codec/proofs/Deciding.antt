-- The tests of drafts decide what drafts have.
use Rattle.std.proofs.Common.{◌≡◌, ◌≢◌, ◌<◌, ℕ, zero, suc, Bool, true, false, not, ◌∙◌, List, [], ◌∷◌, length, map, refl, ap, arith}
use Rattle.std.specs.Prelude.{All, AllPairs, nat_lt}
use Rattle.std.specs.Bool.{Decides}
use Rattle.std.specs.List.{list_any}
use Rattle.std.proofs.lemmas.Bool.Decides.{Decides-like, Decides-and, Decides-not, Decides-ltb}
use Rattle.std.proofs.lemmas.List.Kept.{AllPairs-cons}
use Rattle.std.proofs.lemmas.Slice.Eq.{bytes_eq-Decides}
use Rattle.base.specs.declared.file.FileName.{FileName}
use Rattle.base.specs.declared.graph.BuiltFile.{BuiltFile}
use Rattle.base.specs.Names.{is_same_name}
use Rattle.base.specs.declared.limits.TheConstants.{ARTEFACT_LIMIT, FILE_LIMIT, TEXT_LIMIT}
use Rattle.base_bytes.proofs.Sized.{all-Decides, command_sizes-Decides, name_sizes-Decides, nat_le-Decides, same_name-Decides}
use Rattle.store_codec.specs.Forms.{ProductDraft, RequestDraft}
use Rattle.store_codec.specs.RecordTables.{IsNewProduct, IsRequest, RecordTable, are_apart, drafted_artefact, drafted_product, is_new_product, is_request, is_same_built, product_at}
use Rattle.base_bytes.specs.TextRefs.{is_text_ref, told_text, with_text}

pub same_built-Decides : (a b : BuiltFile) → Decides (is_same_built a b) (a ≡ b)
same_built-Decides a b =
    Decides-like (is_same_built a b)
    (λ h. ap (λ (name : FileName). record { name = name; artefact = a.artefact }) h.0 ∙ ap (λ (artefact : List ℕ). record { name = b.name; artefact = artefact }) h.1)
    (λ e. (ap (λ (f : BuiltFile). f.name) e, ap (λ (f : BuiltFile). f.artefact) e))
    (Decides-and _ _ (same_name-Decides a.name b.name) (bytes_eq-Decides a.artefact b.artefact))

-- no two files have one name, and none has a name
abbrev AreApart : FileName → List BuiltFile → Type 0
AreApart name files = All (λ other. other.name ≢ name) files × AllPairs (λ a b. a.name ≢ b.name) files

all_cons : (P : BuiltFile → Type 0) (x : BuiltFile) (xs : List BuiltFile) → P x → All P xs → All P (x ∷ xs)
all_cons P x xs one others zero d l = one
all_cons P x xs one others (suc k) d l = others k d (omega arith)

apart-Decides : (name : FileName) (files : List BuiltFile) → Decides (are_apart name files) (AreApart name files)
unfolding are_apart
apart-Decides name [] = (λ _. (λ k d l. absurd (omega arith), λ i j d a b. absurd (omega arith)), λ _. refl)
apart-Decides name (first ∷ rest) =
    let P : BuiltFile → Type 0 = λ (other : BuiltFile). other.name ≢ name in
    let R : BuiltFile → BuiltFile → Type 0 = λ (a b : BuiltFile). a.name ≢ b.name in
    Decides-like (are_apart name (first ∷ rest))
    (λ h. (all_cons P first rest h.0 h.1.1.0, AllPairs-cons R first rest h.1.0 h.1.1.1))
    (λ both. (both.0 0 first (omega arith), (λ k d l. both.1 0 (suc k) d (omega arith) (omega arith), (λ k d l. both.0 (suc k) d (omega arith), λ i j d a b. both.1 (suc i) (suc j) d (omega arith) (omega arith)))))
    (Decides-and _ _ (Decides-not _ (same_name-Decides first.name name))
    (Decides-and _ _ (all-Decides (λ (other : BuiltFile). not (is_same_name first.name other.name)) (R first) (λ other. Decides-not _ (same_name-Decides first.name other.name)) rest) (apart-Decides name rest)))

-- a test as what it says
itself : (b : Bool) → Decides b (b ≡ true)
itself b = (λ e. e, λ e. e)

not_itself : (b : Bool) → Decides (not b) (b ≡ false)
not_itself true = (λ e. absurd cc, λ e. absurd cc)
not_itself false = (λ e. refl, λ e. refl)

pub new_product-Decides : (table : RecordTable) (draft : ProductDraft) → Decides (is_new_product table draft) (IsNewProduct table draft)
unfolding is_new_product
new_product-Decides table draft =
    Decides-like (is_new_product table draft)
    (λ h. record { name = h.0; artefact = h.1.0; small = h.1.1.0; new = h.1.1.1 })
    (λ is. (is.name, (is.artefact, (is.small, is.new))))
    (Decides-and _ _ (name_sizes-Decides draft.name)
    (Decides-and _ _ (itself (is_text_ref table.texts draft.artefact))
    (Decides-and _ _ (nat_le-Decides (length (told_text table.texts draft.artefact)) ARTEFACT_LIMIT) (not_itself (list_any (is_same_built (drafted_product table.texts draft)) table.products)))))

pub request-Decides : (table : RecordTable) (draft : RequestDraft) → Decides (is_request table draft) (IsRequest table draft)
unfolding is_request
request-Decides table draft =
    Decides-like (is_request table draft)
    (λ h. record {
      name = h.0;
      command = h.1.0;
      source = h.1.1.0;
      text_small = h.1.1.1.0;
      artefact = h.1.1.1.1.0;
      small = h.1.1.1.1.1.0;
      few = h.1.1.1.1.1.1.0;
      there = h.1.1.1.1.1.1.1.0;
      apart = h.1.1.1.1.1.1.1.1.1;
      others = h.1.1.1.1.1.1.1.1.0;
    })
    (λ is. (is.name, (is.command, (is.source, (is.text_small, (is.artefact, (is.small, (is.few, (is.there, (is.others, is.apart))))))))))
    (Decides-and _ _ (name_sizes-Decides draft.name)
    (Decides-and _ _ (command_sizes-Decides draft.command)
    (Decides-and _ _ (itself (is_text_ref table.texts draft.source))
    (Decides-and _ _ (nat_le-Decides (length (told_text table.texts draft.source)) TEXT_LIMIT)
    (Decides-and _ _ (itself (is_text_ref (with_text table.texts draft.source) draft.artefact))
    (Decides-and _ _ (nat_le-Decides (length (drafted_artefact table.texts draft)) ARTEFACT_LIMIT)
    (Decides-and _ _ (Decides-ltb (length draft.deps) FILE_LIMIT)
    (Decides-and _ _ (all-Decides (λ dep. nat_lt dep (length table.products)) (λ dep. dep < length table.products) (λ dep. Decides-ltb dep (length table.products)) draft.deps) (apart-Decides draft.name (map (product_at table.products) draft.deps))))))))))
