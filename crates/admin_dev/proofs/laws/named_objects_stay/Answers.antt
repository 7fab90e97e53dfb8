use Rattle.cap_table.specs.States.{start_state}
use Rattle.cap_table.specs.Steps.{effect_of}
use Rattle.cap_table.proofs.ObjectRuns.{named_stay}
use Rattle.cap_table.proofs.ValidSteps.{start_is_valid, valid_after}
use Rattle.admin_dev.proofs.laws.named_objects_stay.Goals as goal

pub returns-clause-backed : goal.returns-clause-backed
returns-clause-backed c caps start commands id rule are held =
    let valid = valid_after (start_state caps start) commands (start_is_valid caps start are) in
    valid.objects.backed id rule held

pub returns-clause-group : goal.returns-clause-group
returns-clause-group c state bytes room id rule valid held = let stay = named_stay state (effect_of state bytes room) id rule valid held in stay.0

pub returns-clause-classifier : goal.returns-clause-classifier
returns-clause-classifier c state bytes room id rule valid held = let stay = named_stay state (effect_of state bytes room) id rule valid held in stay.1
