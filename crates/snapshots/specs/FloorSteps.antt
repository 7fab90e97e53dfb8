-- How the floors of a door are kept. This project's own.
use Rattle.std.specs.Prelude.{List, [], ◌∷◌, ◌++◌}
use Rattle.ff_headers.specs.declared.change.Change.{Change}
use Rattle.snapshots.specs.declared.floors.FloorSteps.{FloorSteps}
use Rattle.snapshots.specs.declared.floors.FloorSteps.TheVariants.{First, Only, More}

-- the lists that each later read must begin with: none but the empty one, that of the last read, or one more
abbrev pub floors_of : FloorSteps → List (List Change)
floors_of First = [] ∷ []
floors_of (Only trail) = trail.value.list ∷ []
floors_of (More floors trail) = floors.value ++ trail.value.list ∷ []
