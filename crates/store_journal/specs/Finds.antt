-- A journal that was opened for one of two forms, with what took its payloads.
use Rattle.std.specs.Prelude.{◌≡◌, ℕ, List}
use Rattle.store_journal.specs.declared.finding.FoundForm.{FoundForm}
use Rattle.store_journal.specs.declared.finding.FoundForm.TheVariants.{Newer, Older}
use Rattle.store_journal.specs.Journals.{JournalState}

-- the journal that was opened, for either form
abbrev pub found_journal : {N O : Type 0} → FoundForm N O → JournalState
found_journal (Newer opened) = opened.journal
found_journal (Older opened) = opened.journal

-- what was taken of its payloads, by what takes those of the newer form, or those of the older one
abbrev pub found_taken : {N O : Type 0} → (N → List (List ℕ)) → (O → List (List ℕ)) → FoundForm N O → List (List ℕ)
found_taken newer older (Newer opened) = newer opened.payloads
found_taken newer older (Older opened) = older opened.payloads

-- the journal is of the form that was found
abbrev pub IsOfFoundForm : {N O : Type 0} → (newer older : ℕ) → FoundForm N O → Type 0
IsOfFoundForm newer older (Newer opened) = opened.journal.form ≡ newer
IsOfFoundForm newer older (Older opened) = opened.journal.form ≡ older

-- what took the payloads of the journal lends these texts: the first ones where they are of the newer form, and the others
-- where they are of the older one
abbrev pub BorrowsStill : {N O : Type 0} → (N → List (List ℕ)) → (O → List (List ℕ)) → (newer older : List (List ℕ)) → FoundForm N O → Type 0
BorrowsStill of_newer of_older newer older (Newer opened) = of_newer opened.payloads ≡ newer
BorrowsStill of_newer of_older newer older (Older opened) = of_older opened.payloads ≡ older
