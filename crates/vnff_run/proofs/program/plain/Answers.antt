use Rattle.std.proofs.Common.{map}
use Rattle.vnff_run.specs.Forms.{form_view}
use Rattle.vnff_run.proofs.ProgramLemmas.{Answered, answer_of_form}
use Rattle.vnff_run.proofs.program.plain.Given.{Over}
use Rattle.vnff_run.proofs.program.plain.Goals.{After-exit_status}
use Rattle.vnff_run.proofs.program.plain.Goals as goal

-- what the program's call says of a form that was carried out, or stopped
form_answer : (g : Over) (c : After-exit_status g) → Answered (form_view c.in-Some.form) (g.S.Shelf.state c.args.shelf.now) (g.S.Shelf.state c.run.new.shelf) (g.O.Out.state c.args.out.now) (g.O.Out.state c.exit_status.new.out) (map (λ b. (goal.RxSink-dyn g (b.vtable, b.value)).state b.value) c.args.rack.now.sinks.items) (map (λ b. (goal.RxSink-dyn g (b.vtable, b.value)).state b.value) c.run.new.rack.sinks.items) c.exit_status.result
form_answer g c =
    answer_of_form (form_view c.in-Some.form) (g.S.Shelf.state c.args.shelf.now) (g.S.Shelf.state c.run.new.shelf) (g.O.Out.state c.args.out.now) (g.O.Out.state c.run.new.out) (g.O.Out.state c.exit_status.new.out) (map (λ b. (goal.RxSink-dyn g (b.vtable, b.value)).state b.value) c.args.rack.now.sinks.items) (map (λ b. (goal.RxSink-dyn g (b.vtable, b.value)).state b.value) c.run.new.rack.sinks.items) c.run.result c.exit_status.result c.run.ensures c.exit_status.ensures

pub returns-in-Some-clause-known : goal.returns-in-Some-clause-known
returns-in-Some-clause-known g c = (form_answer g c).known

pub returns-in-Some-clause-words : goal.returns-in-Some-clause-words
returns-in-Some-clause-words g c = rw (← c.in-Some.ensures) ((λ two. absurd ((form_answer g c).words two)), (λ none. absurd (cc)))

pub returns-in-Some-clause-words_nothing : goal.returns-in-Some-clause-words_nothing
returns-in-Some-clause-words_nothing g c = λ two. absurd ((form_answer g c).words two)

pub returns-in-Some-clause-done : goal.returns-in-Some-clause-done
returns-in-Some-clause-done g c = rw (← c.in-Some.ensures) (form_answer g c).done

pub returns-in-Some-clause-complete : goal.returns-in-Some-clause-complete
returns-in-Some-clause-complete g c = rw (← c.in-Some.ensures) (form_answer g c).complete

pub returns-in-Some-clause-read : goal.returns-in-Some-clause-read
returns-in-Some-clause-read g c = rw (← c.in-Some.ensures) (form_answer g c).read

pub returns-in-Some-clause-read_nothing : goal.returns-in-Some-clause-read_nothing
returns-in-Some-clause-read_nothing g c = (form_answer g c).read_nothing

pub returns-in-Some-clause-write : goal.returns-in-Some-clause-write
returns-in-Some-clause-write g c = rw (← c.in-Some.ensures) (form_answer g c).write

pub returns-in-Some-clause-no_read : goal.returns-in-Some-clause-no_read
returns-in-Some-clause-no_read g c = (form_answer g c).no_read

pub returns-in-Some-clause-no_write : goal.returns-in-Some-clause-no_write
returns-in-Some-clause-no_write g c = (form_answer g c).no_write

pub returns-in-Some-clause-front : goal.returns-in-Some-clause-front
returns-in-Some-clause-front g c = rw (← c.in-Some.ensures) (form_answer g c).front

pub returns-in-Some-clause-other_sinks : goal.returns-in-Some-clause-other_sinks
returns-in-Some-clause-other_sinks g c = rw (← c.in-Some.ensures) (form_answer g c).other_sinks

pub returns-in-Some-clause-same_sinks : goal.returns-in-Some-clause-same_sinks
returns-in-Some-clause-same_sinks g c = (form_answer g c).same_sinks

pub returns-in-Some-clause-sinks : goal.returns-in-Some-clause-sinks
returns-in-Some-clause-sinks g c = rw (← c.in-Some.ensures) (form_answer g c).sinks
