-- The scans of the files of a project, one after the other.
use Rattle.std.proofs.Common.{◌≡◌, ℕ, ◌+◌, ◌<◌, ◌≤◌, List, [], ◌∷◌, ◌++◌, length, get_or, drop, take, Some, Result, Ok, Err, refl, sym, ap, subst, ◌∙◌, arith}
use Rattle.std.specs.Prelude.{slice_get}
use Rattle.std.proofs.lemmas.List.{append-nil, drop_more, drop_all, take_all}
use Rattle.std.proofs.lemmas.Option.{slice_get-get_or}
use Rattle.base.specs.declared.file.FileName.{FileName}
use Rattle.base.specs.declared.project.ProjectFile.{ProjectFile}
use Rattle.base.specs.declared.lexical.LexFault.{LexFault}
use Rattle.base.specs.declared.lexical.Tokens.{Tokens}
use Rattle.base.specs.declared.design.UnitFault.{UnitFault}
use Rattle.base.specs.declared.design.Scan.{Scan}
use Rattle.base_outcomes.specs.declared.outcome.Refusal.{Refusal}
use Rattle.base_outcomes.specs.declared.outcome.Refusal.TheVariants as refusal
use Rattle.vhdl_spec.specs.Tokens.{HasFault}
use Rattle.vhdl_spec.specs.Units.{HasUnitFault, AreTokensOf}
use Rattle.vhdl_outline.specs.declared.outlines.Outlines.{Outlines}
use Rattle.vhdl_outline.specs.Outlines.{AreOutlinesOf, FilesLieIn, HasAdded}
use Rattle.vhdl_outline.proofs.OutlineLemmas.{lie_more, no_outlines, no_scans, none_lie, outlines_more, scans_more, take_got}
use Rattle.vhdl_spec.specs.Scans.{AreScansOf, Finding, Clean, Lexical, Grammatical, IsFinding, IsScanner, IsScanOf}
use Rattle.vhdl_spec.proofs.OneFinding.{one_finding}
use Rattle.project_reading.specs.Reading.{SourceReading, Stops, scan_of, scans_of, and_others}
use Rattle.project_reading.specs.Scanning.{AreScanned, GivesScan}
use Rattle.project_reading.specs.Sources.{Gives}
use Rattle.project_reading.specs.declared.stops.ReadStop.{ReadStop}
use Rattle.project_reading.specs.declared.stops.ReadStop.TheVariants as stop
use Rattle.project_reading.proofs.Afters.{after, after_more}

-- what is found is what a scanner finds
found : (scan : List ℕ → Finding) (text : List ℕ) (finding : Finding) (file : FileName) → IsScanner scan → IsFinding text finding → scan_of file finding ≡ scan_of file (scan text)
found scan text finding file is h = ap (scan_of file) (one_finding text finding (scan text) h (is text))

abbrev refused : Refusal → Result Scan SourceReading
refused reason = Err (Stops reason)

-- a file with a lexical fault
pub lexical_found : (text : List ℕ) (fault : LexFault) (file : FileName) (reason : Refusal) → HasFault text fault → reason ≡ refusal.Lex file fault → (finding : Finding) × IsFinding text finding × (scan_of file finding ≡ refused reason)
lexical_found text fault file reason h e = (Lexical fault, h, ap refused (sym e))

-- a file with a fault of its units
pub units_found : (text : List ℕ) (tokens : Tokens) (fault : UnitFault) (file : FileName) (reason : Refusal) → AreTokensOf text tokens → HasUnitFault text tokens.list fault → reason ≡ refusal.Units file fault → (finding : Finding) × IsFinding text finding × (scan_of file finding ≡ refused reason)
units_found text tokens fault file reason are h e = (Grammatical fault, (are.0, are.1, rw are.2.list at h), ap refused (sym e))

module _ (scan : List ℕ → Finding) (is : IsScanner scan) (files : List ProjectFile) (texts : List (List ℕ)) (i : ℕ) (file : ProjectFile) (text : List ℕ) (scans : List Scan) (whole : Result (List Scan) SourceReading) (all : length texts ≡ length files) (lt : i < length files)
    (file_is : file ≡ get_or files i file) (text_is : text ≡ get_or texts i text) (h : after scans (scans_of scan (drop i files) (drop i texts)) ≡ whole) where
  abbrev others : Scan → Result (List Scan) SourceReading
  others one = scans_of scan (drop (i + 1) files) (drop (i + 1) texts)

  next_scan : scans_of scan (drop i files) (drop i texts) ≡ and_others others (scan_of file.name (scan text))
  unfolding scans_of
  next_scan =
      ap (λ (fs : List ProjectFile). scans_of scan fs (drop i texts)) (drop_more files i file lt ∙ ap (λ (f : ProjectFile). f ∷ drop (i + 1) files) (sym file_is))
      ∙ ap (scans_of scan (file ∷ drop (i + 1) files)) (drop_more texts i text (omega arith) ∙ ap (λ (t : List ℕ). t ∷ drop (i + 1) texts) (sym text_is))

  with : (one : Result Scan SourceReading) → one ≡ scan_of file.name (scan text) → whole ≡ after scans (and_others others one)
  with one e = sym h ∙ ap (after scans) next_scan ∙ ap (λ (r : Result Scan SourceReading). after scans (and_others others r)) (sym e)

  -- one more file is scanned
  pub scan_then : (one : Scan) → IsScanOf text one → after (scans ++ one ∷ []) (scans_of scan (drop (i + 1) files) (drop (i + 1) texts)) ≡ whole
  scan_then one got = sym (with (Ok one) (found scan text (Clean one) file.name is got) ∙ after_more scans one (others one))

  -- a file has a fault, or memory ran out
  pub no_scan_then : (e : ReadStop) → GivesScan file.name text (Err e) → Gives whole (Err e)
  no_scan_then (stop.Refused reason) none = with (refused reason) (sym none.2 ∙ found scan text none.0 file.name is none.1)
  no_scan_then (stop.Over limit number) none = absurd none
  no_scan_then stop.Failed none = absurd none
  no_scan_then stop.NoMemory none = tt

-- all files are scanned
pub all_scans : (scan : List ℕ → Finding) (files : List ProjectFile) (texts : List (List ℕ)) (i : ℕ) (scans : List Scan) (whole : Result (List Scan) SourceReading) → length files ≤ i → after scans (scans_of scan (drop i files) (drop i texts)) ≡ whole → whole ≡ Ok scans
unfolding scans_of
all_scans scan files texts i scans whole le h =
    sym h ∙ ap (λ (fs : List ProjectFile). after scans (scans_of scan fs (drop i texts))) (drop_all i files le) ∙ ap (λ (ss : List Scan). Ok ss) (append-nil scans)

-- the files up to a position are scanned
pub record AreFirst (files : List ProjectFile) (texts : List (List ℕ)) (count : ℕ) (outlines : Outlines) : Type 0 where
  pub scans : List Scan
  pub scanned : AreScansOf (take count texts) scans
  pub are : AreOutlinesOf (take count texts) scans outlines
  pub lie : FilesLieIn (take count texts) outlines.files
  pub given : (scan : List ℕ → Finding) → IsScanner scan → after scans (scans_of scan (drop count files) (drop count texts)) ≡ scans_of scan files texts

pub none_first : (files : List ProjectFile) (texts : List (List ℕ)) → AreFirst files texts 0 (record { files = [] })
none_first files texts = record {
  scans = [];
  scanned = no_scans;
  are = no_outlines;
  lie = none_lie;
  given = λ scan is. after_none (scans_of scan files texts);
} where
  after_none : (whole : Result (List Scan) SourceReading) → after [] whole ≡ whole
  after_none (Ok more) = refl
  after_none (Err reading) = refl

-- one file more
pub one_more : (files : List ProjectFile) (texts : List (List ℕ)) (i : ℕ) (file : ProjectFile) (text : List ℕ) (one : Scan) (old new : Outlines) → length texts ≡ length files → i < length files → file ≡ get_or files i file → text ≡ get_or texts i text → AreFirst files texts i old → IsScanOf text one → HasAdded text one old new → AreFirst files texts (i + 1) new
one_more files texts i file text one old new all lt file_is text_is first is added =
    let got : slice_get texts i ≡ Some text = slice_get-get_or texts i text (omega (arith, all, lt)) ∙ ap (λ (t : List ℕ). Some t) (sym text_is) in
    let next : take (i + 1) texts ≡ take i texts ++ text ∷ [] = take_got texts i text got in
    record {
      scans = first.scans ++ one ∷ [];
      scanned = subst (λ (some : List (List ℕ)). AreScansOf some (first.scans ++ one ∷ [])) (sym next) (scans_more (take i texts) first.scans text one first.scanned is);
      are = subst (λ (some : List (List ℕ)). AreOutlinesOf some (first.scans ++ one ∷ []) new) (sym next) (outlines_more (take i texts) first.scans text one old new first.are added);
      lie = subst (λ (some : List (List ℕ)). FilesLieIn some new.files) (sym next) (lie_more (take i texts) text one old new first.lie added);
      given = λ scan scanner. scan_then scan scanner files texts i file text first.scans _ all lt file_is text_is (first.given scan scanner) one is;
    }

pub all_first : (files : List ProjectFile) (texts : List (List ℕ)) (i : ℕ) (outlines : Outlines) → length texts ≡ length files → length files ≤ i → AreFirst files texts i outlines → AreScanned files texts outlines
all_first files texts i outlines all le first =
    let whole : take i texts ≡ texts = take_all i texts (omega (arith, all, le)) in
    record {
      scans = first.scans;
      scanned = subst (λ (some : List (List ℕ)). AreScansOf some first.scans) whole first.scanned;
      are = subst (λ (some : List (List ℕ)). AreOutlinesOf some first.scans outlines) whole first.are;
      lie = subst (λ (some : List (List ℕ)). FilesLieIn some outlines.files) whole first.lie;
      given = λ scan scanner. all_scans scan files texts i first.scans _ le (first.given scan scanner);
    }
