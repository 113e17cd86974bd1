-- What the values of the code declare.
use Rattle.std.specs.Prelude.{List}
use Rattle.controller.specs.declared.component.Component.{Component}
use Rattle.controller.specs.declared.plan.Plan.{Plan}
use Rattle.controller.specs.declared.controller.Controller.{Controller}

-- the components that a plan declares
abbrev pub declared : Plan → List Component
declared plan = plan.components.items

-- the components of the plan that a controller drafts
abbrev pub drafted : {B : Type 0} → Controller B → List Component
drafted controller = declared controller.plan

-- the board that a controller is made around
abbrev pub board_of : {B : Type 0} → Controller B → B
board_of controller = controller.board
