use Rattle.std.proofs.Common.{◌≡◌, map, Some, refl, sym}
use Rattle.std.specs.Prelude.{string_bytes}
use Rattle.vnff_run.specs.LiveWords.{live_of, live_view}
use Rattle.vnff_run.proofs.PlanLemmas.{live_words_alone, no_steering, plan_of_live, plan_of_plain}
use Rattle.vnff_run.proofs.top_call.carry_out.Goals as goal

pub returns-in-Some-clause-ends : goal.returns-in-Some-clause-ends
returns-in-Some-clause-ends g c =
    plan_of_live _ _ (g.S.Shelf.state c.args.shelf.now) (g.S.Shelf.state c.run_live.new.shelf) (g.O.Out.state c.args.out.now) (g.O.Out.state c.run_live.new.out) (map string_bytes c.args.words.now) (live_view c.in-Some.form) c.run_live.result (sym c.in-Some.ensures.words) c.run_live.ensures

pub returns-in-Some-clause-words : goal.returns-in-Some-clause-words
returns-in-Some-clause-words g c = λ none form.
    let some : live_of (map string_bytes c.args.words.now) ≡ Some (live_view c.in-Some.form) = sym c.in-Some.ensures.words in
    absurd (cc)

pub returns-in-Some-clause-faulty : goal.returns-in-Some-clause-faulty
returns-in-Some-clause-faulty g c = λ two. live_words_alone (map string_bytes c.args.words.now) (live_view c.in-Some.form) (sym c.in-Some.ensures.words)

pub returns-in-None-clause-ends : goal.returns-in-None-clause-ends
returns-in-None-clause-ends g c =
    let plain = c.plain.ensures in
    plan_of_plain _ _ (g.S.Shelf.state c.args.shelf.now) (g.S.Shelf.state c.plain.new.shelf) (g.O.Out.state c.args.out.now) (g.O.Out.state c.plain.new.out) (map string_bytes c.args.words.now) c.plain.result (sym c.in-None.ensures.words)
    plain.known plain.words_nothing plain.done plain.complete plain.read plain.read_nothing plain.write plain.no_read plain.no_write plain.front

pub returns-in-Some-clause-other_sinks : goal.returns-in-Some-clause-other_sinks
returns-in-Some-clause-other_sinks g c = λ none. refl

pub returns-in-Some-clause-same_sinks : goal.returns-in-Some-clause-same_sinks
returns-in-Some-clause-same_sinks g c = λ some other. refl

pub returns-in-Some-clause-sinks : goal.returns-in-Some-clause-sinks
returns-in-Some-clause-sinks g c =
    no_steering _ _ (g.S.Shelf.state c.args.shelf.now) (map string_bytes c.args.words.now) _ (live_words_alone (map string_bytes c.args.words.now) (live_view c.in-Some.form) (sym c.in-Some.ensures.words)) refl
