-- A record whose payload was put without its text.
use Rattle.std.proofs.Common.{◌≡◌, ℕ, ◌<◌, List, [], ◌∷◌, ◌++◌, length, sym, ap, ◌∙◌}
use Rattle.std.proofs.lemmas.List.{get_or_append_left, get_or_at}
use Rattle.store_codec.specs.declared.reading.RequestRanges.{RequestRanges}
use Rattle.base_bytes.specs.TextRefs.TextRef.{InFull}
use Rattle.store_codec.specs.Ranges.{request_in_ranges}
use Rattle.store_table.specs.declared.cutting.CutRequest.{CutRequest}
use Rattle.store_table.specs.Cuts.{IsCutOf, with_source}
use Rattle.store_table.specs.Located.{nth_payload}
use Rattle.store_table.proofs.CutParts.{drafted_whole}

-- what is placed in the segments of a file and of a cut payload is the record
pub cut_drafted : (borrowed segments now : List (List ℕ)) (payload : List ℕ) (draft : RequestRanges) (number at : ℕ) (cut : CutRequest) → IsCutOf borrowed payload draft number cut → nth_payload segments cut.payload.file ≡ nth_payload borrowed cut.payload.file → cut.payload.file < length segments → now ≡ segments ++ cut.payload.rest ∷ [] → length segments ≡ at → with_source (InFull (nth_payload now cut.payload.file)) (request_in_ranges (nth_payload now at) cut.draft) ≡ request_in_ranges payload draft
cut_drafted borrowed segments now payload draft number at cut is text low grown at_is =
    let rest : nth_payload now at ≡ cut.payload.rest = ap (λ (ps : List (List ℕ)). nth_payload ps at) grown ∙ get_or_at segments cut.payload.rest [] [] at at_is in
    let there : nth_payload now cut.payload.file ≡ nth_payload borrowed cut.payload.file = ap (λ (ps : List (List ℕ)). nth_payload ps cut.payload.file) grown ∙ get_or_append_left segments (cut.payload.rest ∷ []) [] cut.payload.file low ∙ text in
    drafted_whole payload draft number (nth_payload now cut.payload.file) (request_in_ranges (nth_payload now at) cut.draft) (is.text ∙ ap (λ (t : List ℕ). InFull t) (sym there)) (ap (λ (bs : List ℕ). request_in_ranges bs cut.draft) rest ∙ is.parts)
