use Rattle.std.proofs.Common.{◌≡◌, ◌++◌, ℕ, List, is_some, false, subst, rules}
use Rattle.std.proofs.lemmas.Result.{IfOk-weaker}
use Rattle.capture.specs.Feeds.{FeedState, StandsFor}
use Rattle.capture.proofs.FeedSteps.{none_yet, step-with_header}
use Rattle.capture.proofs.feed.Feed.feed.Goals as goal

pub returns-in-Some-clause-stands : goal.returns-in-Some-clause-stands
returns-in-Some-clause-stands c =
    let piece = c.args.piece.now in
    let none : is_some c.self.inside.fault ≡ false = search rules in
    let all : c.extend_from_slice.new.self.items ≡ c.self.inside.rest.items ++ piece = search rules in
    IfOk-weaker c.go_on.result _ _ (λ feed step.
    subst (λ (f : FeedState). (bytes : List ℕ) → StandsFor f bytes → StandsFor feed (bytes ++ piece)) c.self.view_is
    (step-with_header _ feed c.in-Some.kind piece (none_yet c.self.inside.fault none) c.in-Some.is
    (λ front size header frames. subst (λ xs. StandsFor feed (front ++ xs)) all (step front size header frames))))
    c.go_on.ensures.stands
