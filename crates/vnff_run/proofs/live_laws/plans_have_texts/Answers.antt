use Rattle.vnff_run.proofs.PlanLemmas.{legal}
use Rattle.vnff_run.proofs.live_laws.plans_have_texts.Goals as goal

pub returns : goal.returns
returns c = legal
