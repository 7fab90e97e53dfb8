use Rattle.std.proofs.Common.{◌≡◌, ◌+◌, ◌<◌, ◌++◌, Some, None, true, false, refl, length, take, drop, sym, ◌∙◌, subst}
use Rattle.capture.specs.Sizes.{longest_record}
use Rattle.capture.specs.Feeds.{IsCutAt, WereCut, is_lasting}
use Rattle.capture.proofs.FeedSteps.{stands-faulty, cut-faulty, cut-stands, rest-short}
use Rattle.capture.proofs.feed.go_on.Goals as goal

pub returns-then-is_lasting-clause-stands : goal.returns-then-is_lasting-clause-stands
returns-then-is_lasting-clause-stands c = λ front size header frames.
    let bytes = c.args.bytes.items in
    let cut = subst (λ xs. WereCut c.args.kind.big c.args.before xs c.args.frames c.cut_records.new.frames c.in_ok-at.at c.in_ok-at.stop) c.deref.ensures.value c.in_ok-at.ensures in
    let lasting : is_lasting c.in_ok-at.stop ≡ true = sym c.is_lasting.ensures ∙ c.if-is_lasting.true in
    stands-faulty c.faulty.result (front ++ bytes) c.in_ok-at.stop c.faulty.ensures
    (cut-faulty c.args.kind front bytes c.args.before c.in_ok-at.at c.args.frames c.cut_records.new.frames c.in_ok-at.stop size header frames cut lasting)

pub invariant_of-result : goal.invariant_of-result
invariant_of-result c =
    let bytes = c.args.bytes.items in
    let cut = subst (λ xs. WereCut c.args.kind.big c.args.before xs c.args.frames c.cut_records.new.frames c.in_ok-at.at c.in_ok-at.stop) c.deref.ensures.value c.in_ok-at.ensures in
    let not : is_lasting c.in_ok-at.stop ≡ false = sym c.is_lasting.ensures ∙ c.if-is_lasting.false in
    let short = rest-short c.args.kind.big (c.args.before + c.in_ok-at.at) (drop c.in_ok-at.at bytes) c.in_ok-at.stop cut.stops not in
    record {
      short = subst (λ xs. length xs < longest_record) (sym c.drop_front.ensures) short;
      dropped = λ fault. absurd (fault refl);
      unread = λ none. absurd (cc);
      at_start = λ none. absurd (cc);
      begun = λ none. absurd (cc);
    }

pub returns-clause-stands : goal.returns-clause-stands
returns-clause-stands c = λ front size header frames.
    let bytes = c.args.bytes.items in
    let not : is_lasting c.in_ok-at.stop ≡ false = sym c.is_lasting.ensures ∙ c.if-is_lasting.false in
    let cut = subst (λ xs. WereCut c.args.kind.big c.args.before xs c.args.frames c.cut_records.new.frames c.in_ok-at.at c.in_ok-at.stop) c.deref.ensures.value c.in_ok-at.ensures in (
      front ++ take c.in_ok-at.at bytes,
      subst (λ xs. IsCutAt (record { header = Some c.args.kind; frames = c.cut_records.new.frames; before = c.args.before + c.in_ok-at.at; rest = xs; fault = None }) c.args.kind (front ++ bytes) (front ++ take c.in_ok-at.at bytes))
          (sym c.drop_front.ensures)
          (cut-stands c.args.kind front bytes c.args.before c.in_ok-at.at c.args.frames c.cut_records.new.frames c.in_ok-at.stop size header frames cut not),
    )
