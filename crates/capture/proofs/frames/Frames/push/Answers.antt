use Rattle.std.proofs.Common.{◌≡◌, ◌∷◌, ◌++◌, [], length, ap, ◌∙◌, rules}
use Rattle.capture.specs.Pieces.{pieces}
use Rattle.capture.proofs.PieceLemmas.{ArePlaces-push, pieces-push}
use Rattle.capture.proofs.frames.Frames.push.Goals as goal

pub invariant_of-self-2 : goal.invariant_of-self-2
invariant_of-self-2 c =
    let bytes : c.extend_from_slice.new.self.items ≡ c.self.inside.bytes.items ++ c.args.frame.now = search rules in
    let ends : c.push_reserved.new.self.items ≡ c.self.inside.ends.items ++ length (c.self.inside.bytes.items ++ c.args.frame.now) ∷ [] = search rules in
    rw (bytes, ends) (ArePlaces-push c.self.inside.bytes.items c.args.frame.now (0 ∷ c.self.inside.ends.items) c.self.invariant)

pub returns-clause-ok : goal.returns-clause-ok
returns-clause-ok c =
    let bytes : c.extend_from_slice.new.self.items ≡ c.self.inside.bytes.items ++ c.args.frame.now = search rules in
    let ends : c.push_reserved.new.self.items ≡ c.self.inside.ends.items ++ length (c.self.inside.bytes.items ++ c.args.frame.now) ∷ [] = search rules in
    ap (λ xs. pieces xs (0 ∷ c.push_reserved.new.self.items)) bytes
    ∙ ap (λ ys. pieces (c.self.inside.bytes.items ++ c.args.frame.now) (0 ∷ ys)) ends
    ∙ pieces-push c.self.inside.bytes.items c.args.frame.now (0 ∷ c.self.inside.ends.items) c.self.invariant
    ∙ ap (λ v. v ++ c.args.frame.now ∷ []) c.self.view_is
