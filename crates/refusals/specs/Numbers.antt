-- The number by which each cause of a refusal is reported.
use Rattle.std.specs.Prelude.{ℕ}
use Rattle.refusals.specs.declared.Refusal.{Refusal}
use Rattle.refusals.specs.declared.Refusal.TheVariants.{WrongPhase, ComponentLimit, LevelRange, LevelTaken, PeriodRange, BudgetRange, UnknownComponent, TaskLimit, DeadlineRange, ResourceRange, UseTwice, AccessRange, ReachRange, NoComponents, StartRange, ReachTooSmall, BoardNotEmpty, UnknownTask, JobPending, NotRunning, AlreadyHolding, UndeclaredUse, NotHeld, ClockEnd, JobNotPending, LineFull, PastEnd}

abbrev pub number_of : Refusal → ℕ
number_of WrongPhase = 1
number_of ComponentLimit = 2
number_of LevelRange = 3
number_of LevelTaken = 4
number_of PeriodRange = 5
number_of BudgetRange = 6
number_of UnknownComponent = 7
number_of TaskLimit = 8
number_of DeadlineRange = 9
number_of ResourceRange = 10
number_of UseTwice = 11
number_of AccessRange = 12
number_of ReachRange = 13
number_of NoComponents = 14
number_of StartRange = 15
number_of ReachTooSmall = 16
number_of BoardNotEmpty = 17
number_of UnknownTask = 18
number_of JobPending = 19
number_of NotRunning = 20
number_of AlreadyHolding = 21
number_of UndeclaredUse = 22
number_of NotHeld = 23
number_of ClockEnd = 24
number_of JobNotPending = 25
number_of LineFull = 26
number_of PastEnd = 27
