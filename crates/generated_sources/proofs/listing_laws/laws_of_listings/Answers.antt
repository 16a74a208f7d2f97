-- The listing of the generated project.
use Rattle.generated_sources.proofs.FoundProject.{all_listed, found_project, listed_count}
use Rattle.generated_sources.proofs.listing_laws.laws_of_listings.Goals as goal

pub returns-clause-numbers : goal.returns-clause-numbers
returns-clause-numbers c = all_listed

pub returns-clause-few : goal.returns-clause-few
returns-clause-few c = listed_count

pub returns-clause-project : goal.returns-clause-project
returns-clause-project c = λ count edited some small. found_project count small edited some
