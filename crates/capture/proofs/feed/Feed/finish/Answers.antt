use Rattle.std.proofs.Common.{◌≡◌, ◌<◌, ◌⊎◌, None, inl, inr, Err, length, ap, sym, ◌∙◌, subst, arith, rules, vec_len}
use Rattle.std.proofs.lemmas.Bool.{eqb-false}
use Rattle.capture.specs.declared.error.CaptureErr.TheVariants.{Truncated}
use Rattle.capture.specs.Captures.{capture_of}
use Rattle.capture.specs.Feeds.{FeedState}
use Rattle.capture.proofs.FeedSteps.{end-of_fault, end-of_cut, none_yet}
use Rattle.capture.proofs.feed.Feed.finish.Goals as goal
use Rattle.capture.proofs.feed.Feed.finish.Goals.{else-is_some-via-then-is_some+else-is_empty, else-is_some-via-else-is_some}

pub returns-in-Some : goal.returns-in-Some
returns-in-Some c = λ bytes stands.
    end-of_fault c.args.self bytes c.in-Some.fault (ap (λ (f : FeedState). f.fault) (sym c.self.view_is) ∙ c.in-Some.is) stands

pub returns : goal.returns
returns c = λ bytes stands.
    let size : vec_len c.self.inside.rest ≡ length c.self.inside.rest.items = search rules in
    let some : (c.self.inside.header ≡ None) ⊎ (0 < length c.self.inside.rest.items) = elim c.else-is_some.branch [
      | else-is_some-via-then-is_some+else-is_empty w ↦ inr (let other = eqb-false (vec_len c.self.inside.rest) 0 (sym w.is_empty.ensures ∙ w.if-is_empty.false) in grind arith)
      | else-is_some-via-else-is_some w ↦ inl (none_yet c.self.inside.header (sym c.is_some.ensures ∙ w.if-is_some.false))
    ] in
    subst (λ (f : FeedState). Err (Truncated f.before) ≡ capture_of bytes) (sym c.self.view_is) (end-of_cut c.args.self bytes
    (ap (λ (f : FeedState). f.fault) (sym c.self.view_is) ∙ c.in_default.is)
    (subst (λ (f : FeedState). (f.header ≡ None) ⊎ (0 < length f.rest)) c.self.view_is some) stands)
