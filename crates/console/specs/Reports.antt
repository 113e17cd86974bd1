-- What is reported of an input.
use Rattle.std.specs.Prelude.{ℕ, List, [], ◌∷◌, ◌++◌, Some, None, codes, decimal, Option}
use Rattle.controller.specs.declared.counts.Counts.{Counts}
use Rattle.controller.specs.Components.{counts_of}
use Rattle.console.specs.declared.report.Report.{Report}
use Rattle.console.specs.Answering.{State}
use Rattle.console.specs.Drafting.{Draft}

-- how much is declared: nothing where no board form was accepted
abbrev pub declared_in : Option Draft → Counts
declared_in None = counts_of []
declared_in (Some draft) = counts_of draft.components

abbrev pub report_of : State → Report
report_of state = record { tally = state.tally; counts = declared_in state.draft }

-- the report of the input of this name, a whole line
abbrev pub report_text : List ℕ → Report → List ℕ
report_text name report =
    name
    ++ (codes ": lines " ++ (decimal report.tally.lines
    ++ (codes ", accepted " ++ (decimal report.tally.accepted
    ++ (codes ", refused " ++ (decimal report.tally.refused
    ++ (codes ", unreadable " ++ (decimal report.tally.unreadable
    ++ (codes "; components " ++ (decimal report.counts.components
    ++ (codes ", tasks " ++ (decimal report.counts.tasks ++ (codes ", uses " ++ (decimal report.counts.uses ++ 10 ∷ []))))))))))))))
