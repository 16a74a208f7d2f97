-- What is read of the generated project.
use Rattle.generated_laws.proofs.Readings.{graph_is, reading_is, some_order}
use Rattle.generated_laws.proofs.reading_laws.laws_of_readings.Goals as goal

pub returns-clause-graph : goal.returns-clause-graph
returns-clause-graph c scan count edited patterns scans some low =
    let order = some_order count edited some low in
    (order.0, order.1, graph_is count edited some low scan patterns order.0 scans order.1)

pub returns-clause-tests : goal.returns-clause-tests
returns-clause-tests c = λ scan count edited query order tests scans some low. reading_is count edited some low scan query order tests scans
