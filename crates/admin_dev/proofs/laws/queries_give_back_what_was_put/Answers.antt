use Rattle.cap_table.proofs.KeptObjects.{given_back}
use Rattle.admin_dev.proofs.laws.queries_give_back_what_was_put.Goals as goal

pub returns : goal.returns
returns c state put room head object valid puts enough done commands off query asked read used =
    given_back state put room head object valid enough done puts commands off query asked read used
