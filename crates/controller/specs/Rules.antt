-- Components, and what every plan keeps true of those that it declares.
use Rattle.std.specs.Prelude.{ℕ, ◌≤◌, List, [], ◌∷◌, ◌++◌, length, replicate, is_some, Some, None, ◌≢◌, slice_set, count_by}
use Rattle.std.specs.List.{All, AllPairs}
use Rattle.std.specs.Option.{ForSome}
use Rattle.controller.specs.declared.component.Component.{Component}

-- a component as it is declared: no task and no use yet
abbrev pub fresh : ℕ → ℕ → ℕ → Component
fresh level budget period =
    record {
      level = level;
      budget = budget;
      period = period;
      deadlines = record { items = [] };
      accesses = replicate 16 None;
    }

-- the component with one task more, which takes the next number
abbrev pub with_task : Component → ℕ → Component
with_task c deadline = record c { deadlines = record { items = c.deadlines.items ++ deadline ∷ [] } }

-- the component with a use of the resource, whose longest access is given
abbrev pub with_use : Component → ℕ → ℕ → Component
with_use c resource access = record c { accesses = slice_set c.accesses resource (Some access) }

-- how many tasks a component has
abbrev pub tasks_of : Component → ℕ
tasks_of c = length c.deadlines.items

-- how many of the 16 resources a component uses
abbrev pub uses_of : Component → ℕ
uses_of c = count_by is_some c.accesses

-- a number from the one to the other
abbrev pub Within : ℕ → ℕ → ℕ → Type 0
Within low high n = (low ≤ n) × (n ≤ high)

-- a level from 1 to 200, a period from 1 to 1,000,000, a budget from 1 to the period, and at most 8 tasks
abbrev pub InRange : Component → Type 0
InRange c = Within 1 200 c.level × Within 1 1000000 c.period × Within 1 c.period c.budget × (tasks_of c ≤ 8)

-- each task of the component has a deadline from 1 to 1,000,000
abbrev pub InTime : Component → Type 0
InTime c = All (Within 1 1000000) c.deadlines.items

-- P holds of the longest access of each use
abbrev pub EachAccess : (ℕ → Type 0) → Component → Type 0
EachAccess P c = All (λ access. ForSome access P) c.accesses

-- each component is in range
abbrev pub Ranges : List Component → Type 0
Ranges cs = All InRange cs

-- no two components have one level
abbrev pub Distinct : List Component → Type 0
Distinct cs = AllPairs (λ a b. a.level ≢ b.level) cs

-- each task of a component has a deadline from 1 to 1,000,000
abbrev pub Deadlines : List Component → Type 0
Deadlines cs = All InTime cs

-- no access is empty
abbrev pub Accesses : List Component → Type 0
Accesses cs = All (EachAccess (λ x. 1 ≤ x)) cs

-- no access is longer than its component's budget
abbrev pub Affordable : List Component → Type 0
Affordable cs = All (λ c. EachAccess (λ x. x ≤ c.budget) c) cs

-- what every plan keeps true of the components that it declares, at most 8
pub record IsSound (cs : List Component) : Type 0 where
  pub few : length cs ≤ 8
  pub ranges : Ranges cs
  pub distinct : Distinct cs
  pub deadlines : Deadlines cs
  pub accesses : Accesses cs
  pub affordable : Affordable cs
