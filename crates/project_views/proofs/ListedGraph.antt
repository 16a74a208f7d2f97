-- The files of a listed project are a graph.
use Rattle.std.proofs.Common.{◌≡◌, ◌≢◌, ℕ, zero, suc, ◌+◌, ◌<◌, ◌≤◌, List, [], ◌∷◌, ◌++◌, length, get_or, drop, refl, sym, ap, subst, ◌∙◌, arith, add-zero}
use Rattle.std.specs.Prelude.{All, Contains, sum_by}
use Rattle.std.proofs.lemmas.List.{drop_more, append_assoc, length-append}
use Rattle.std.proofs.lemmas.List.Elements.{All-get_or}
use Rattle.std.proofs.lemmas.List.Sums.{sum_by-cons}
use Rattle.base.specs.declared.graph.Entry.{Entry}
use Rattle.base.specs.declared.project.ProjectFile.{ProjectFile}
use Rattle.base.specs.declared.project.Project.{Project}
use Rattle.base.specs.Graphs.{IsEntryAt, IsGraph}
use Rattle.base.specs.Projects.{IsProject}
use Rattle.base.proofs.GraphPrefixes.{IsGraph-prefix}
use Rattle.base.specs.PresentGraph.{below, listed_entry, listed_from, listed}
use Rattle.base.proofs.Below.{length-below, get_or-below}
use Rattle.order.specs.LinkedGraph.{FitTexts}
use Rattle.base.specs.declared.limits.TheConstants.{FILE_LIMIT, TEXT_LIMIT}

pub listed_no_text : (rank : ℕ) (files : List ProjectFile) → listed_from rank files [] ≡ []
unfolding listed_from
listed_no_text rank [] = refl
listed_no_text rank (file ∷ files) = refl

pub listed_from-append : (rank : ℕ) (files : List ProjectFile) (xs ys : List (List ℕ)) → listed_from rank files (xs ++ ys) ≡ listed_from rank files xs ++ listed_from (rank + length xs) (drop (length xs) files) ys
unfolding listed_from
listed_from-append rank files [] ys = rw (listed_no_text, add-zero) refl
listed_from-append rank [] (x ∷ xs) ys = refl
listed_from-append rank (file ∷ files) (x ∷ xs) ys =
    let same : suc rank + length xs ≡ rank + suc (length xs) = omega arith in
    ap (λ (entries : List Entry). listed_entry rank file x ∷ entries) (listed_from-append (suc rank) files xs ys
    ∙ ap (λ (n : ℕ). listed_from (suc rank) files xs ++ listed_from n (drop (length xs) files) ys) same)

pub length-listed_from : (rank : ℕ) (files : List ProjectFile) (texts : List (List ℕ)) → length texts ≤ length files → length (listed_from rank files texts) ≡ length texts
unfolding listed_from
length-listed_from rank files [] le = ap length (listed_no_text rank files)
length-listed_from rank [] (text ∷ texts) le = absurd (omega arith)
length-listed_from rank (file ∷ files) (text ∷ texts) le = ap suc (length-listed_from (suc rank) files texts (omega arith))

pub get_or-listed_from : (rank : ℕ) (files : List ProjectFile) (texts : List (List ℕ)) (i : ℕ) (d : Entry) (f : ProjectFile) (t : List ℕ) → length texts ≤ length files → i < length texts → get_or (listed_from rank files texts) i d ≡ listed_entry (rank + i) (get_or files i f) (get_or texts i t)
unfolding listed_from
get_or-listed_from rank files [] i d f t le lt = absurd (omega arith)
get_or-listed_from rank [] (text ∷ texts) i d f t le lt = absurd (omega arith)
get_or-listed_from rank (file ∷ files) (text ∷ texts) zero d f t le lt = ap (λ (n : ℕ). listed_entry n file text) (omega arith)
get_or-listed_from rank (file ∷ files) (text ∷ texts) (suc i) d f t le lt =
    let same : suc rank + i ≡ rank + suc i = omega arith in
    get_or-listed_from (suc rank) files texts i d f t (omega arith) (omega arith) ∙ ap (λ (n : ℕ). listed_entry n (get_or files i f) (get_or texts i t)) same

-- one more file
pub listed-more : (files : List ProjectFile) (texts : List (List ℕ)) (text : List ℕ) (f : ProjectFile) → length texts < length files → listed files (texts ++ text ∷ []) ≡ listed files texts ++ listed_entry (length texts) (get_or files (length texts) f) text ∷ []
unfolding listed_from
listed-more files texts text f lt =
    let zero_plus : 0 + length texts ≡ length texts = omega arith in
    listed_from-append 0 files texts (text ∷ [])
    ∙ ap (λ (n : ℕ). listed files texts ++ listed_from n (drop (length texts) files) (text ∷ [])) zero_plus
    ∙ ap (λ (rest : List ProjectFile). listed files texts ++ listed_from (length texts) rest (text ∷ [])) (drop_more files (length texts) f lt)
    ∙ ap (λ (rest : List Entry). listed files texts ++ listed_entry (length texts) (get_or files (length texts) f) text ∷ rest) (listed_no_text (suc (length texts)) (drop (length texts + 1) files))

text_sum : (rank : ℕ) (files : List ProjectFile) (texts : List (List ℕ)) → sum_by (λ (e : Entry). length e.text) (listed_from rank files texts) ≤ sum_by (λ (text : List ℕ). length text) texts
unfolding listed_from
text_sum rank files [] = rw listed_no_text (omega arith)
text_sum rank [] (text ∷ texts) = omega arith
text_sum rank (file ∷ files) (text ∷ texts) =
    rw (sum_by-cons (λ (e : Entry). length e.text) (listed_entry rank file text) (listed_from (suc rank) files texts), sum_by-cons (λ (t : List ℕ). length t) text texts)
    (omega (arith, text_sum (suc rank) files texts))

module _ (project : Project) (texts : List (List ℕ)) (is : IsProject project) (few : length project.files ≤ FILE_LIMIT) (are : FitTexts project.files texts) where
  count : length (listed project.files texts) ≡ length project.files
  count = length-listed_from 0 project.files texts (omega (arith, are.each)) ∙ are.each

  get : (i : ℕ) (d : Entry) → i < length project.files → get_or (listed project.files texts) i d ≡ listed_entry i (get_or project.files i (record { name = d.name; command = d.command })) (get_or texts i d.text)
  get i d lt =
      let zero_plus : 0 + i ≡ i = omega arith in
      get_or-listed_from 0 project.files texts i d (record { name = d.name; command = d.command }) d.text (omega (arith, are.each)) (omega (arith, are.each))
      ∙ ap (λ (n : ℕ). listed_entry n (get_or project.files i (record { name = d.name; command = d.command })) (get_or texts i d.text)) zero_plus

  in_below : (n c : ℕ) → c < n → Contains (below n) c
  in_below n c lt = (c, omega (arith, length-below n), get_or-below n c c lt)

  entry_is : (i : ℕ) (d : Entry) → i < length project.files → IsEntryAt (listed project.files texts) i (listed_entry i (get_or project.files i (record { name = d.name; command = d.command })) (get_or texts i d.text))
  entry_is i d lt =
      let file = is.each i (record { name = d.name; command = d.command }) lt in
      record {
        rising = λ k l. let a : k < i = omega (arith, length-below i) in let b : k + 1 < i = omega (arith, length-below i) in rw (get_or-below i k 0 a, get_or-below i (k + 1) 0 b) (omega arith);
        before = λ k e l. let a : k < i = omega (arith, length-below i) in rw (get_or-below i k e a) a;
        closed = λ k e l other.
            let a : k < i = omega (arith, length-below i) in
            let at : get_or (below i) k e ≡ k = get_or-below i k e a in
            let low : k < length project.files = omega arith in
            subst (λ (n : ℕ). All (Contains (below i)) (get_or (listed project.files texts) n other).deps) (sym at)
            (subst (λ (entry : Entry). All (Contains (below i)) entry.deps) (sym (get k other low))
            (λ j c m. let b : j < k = omega (arith, length-below k) in rw (get_or-below k j c b) (in_below i j (omega arith))));
        name = file.name;
        command = file.command;
        text = All-get_or (λ (t : List ℕ). length t ≤ TEXT_LIMIT) texts i d.text (omega (arith, are.each)) are.small.short;
      }

  pub listed_is_graph : IsGraph (listed project.files texts)
  listed_is_graph = record {
    few = omega (arith, count);
    distinct = λ i j d a b.
        let low : i < length project.files = omega (arith, count) in
        let high : j < length project.files = omega (arith, count) in
        subst (λ (e : Entry). e.name ≢ (get_or (listed project.files texts) j d).name) (sym (get i d low))
        (subst (λ (e : Entry). (get_or project.files i (record { name = d.name; command = d.command })).name ≢ e.name) (sym (get j d high))
        (is.distinct i j (record { name = d.name; command = d.command }) a high));
    each = λ i d lt. let low : i < length project.files = omega (arith, count) in subst (IsEntryAt (listed project.files texts) i) (sym (get i d low)) (entry_is i d low);
    small = omega (arith, text_sum 0 project.files texts, are.small.few_bytes);
  }

  -- the graph so far, with one more file
  pub push_is_graph : (done more : List (List ℕ)) (text : List ℕ) → done ++ (text ∷ more) ≡ texts → IsGraph (listed project.files (done ++ text ∷ []))
  push_is_graph done more text e =
      let whole : (done ++ text ∷ []) ++ more ≡ texts = append_assoc done (text ∷ []) more ∙ e in
      IsGraph-prefix (listed project.files (done ++ text ∷ [])) (listed_from (0 + length (done ++ text ∷ [])) (drop (length (done ++ text ∷ [])) project.files) more)
      (subst IsGraph (ap (listed project.files) (sym whole) ∙ listed_from-append 0 project.files (done ++ text ∷ []) more) listed_is_graph)

  -- the next file of the list extends the graph of the files before it
  pub next_file : (files : List ProjectFile) (done more : List (List ℕ)) (text : List ℕ) (graph : List Entry) (rank : ℕ) → files ≡ project.files → graph ≡ listed files done → done ++ (text ∷ more) ≡ texts → rank ≡ length graph
      → (rank < length files) × ((file : ProjectFile) (entry : Entry) → file ≡ get_or files rank file → entry ≡ listed_entry rank file text → IsGraph (graph ++ entry ∷ []) × (graph ++ entry ∷ [] ≡ listed files (done ++ text ∷ [])))
  next_file files done more text graph rank same so_far whole at =
      let all : length files ≡ length project.files = ap length same in
      let sizes : length done + suc (length more) ≡ length texts = sym (length-append done (text ∷ more)) ∙ ap length whole in
      let count_done : length graph ≡ length done = ap length so_far ∙ length-listed_from 0 files done (omega (arith, are.each)) in
      let here : rank ≡ length done = at ∙ count_done in
      let low : length done < length files = omega (arith, are.each) in (
        omega arith,
        λ file entry is_file is_entry.
            let pushed : graph ++ entry ∷ [] ≡ listed files (done ++ text ∷ []) =
            ap (λ (g : List Entry). g ++ entry ∷ []) so_far ∙ ap (λ (e : Entry). listed files done ++ e ∷ []) (is_entry ∙ ap (λ (n : ℕ). listed_entry n file text) here ∙ ap (λ (f : ProjectFile). listed_entry (length done) f text) (is_file ∙ ap (λ (n : ℕ). get_or files n file) here))
            ∙ sym (listed-more files done text file low) in
            (subst IsGraph (ap (λ (fs : List ProjectFile). listed fs (done ++ text ∷ [])) (sym same) ∙ sym pushed) (push_is_graph done more text whole), pushed),
      )
