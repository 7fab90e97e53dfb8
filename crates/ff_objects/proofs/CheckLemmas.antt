-- What the check of a command needs: its answer is that of the rows, and what it puts is sound.
use Rattle.std.proofs.Common.{◌≡◌, ◌≢◌, List, [], ◌∷◌, length, cond, eqb, not, true, false, Option, Some, None, Result, Ok, Err, refl, sym, ap, ◌∙◌, subst}
use Rattle.std.specs.Prelude.{IfOk, IfErr, is_some, nat_le}
use Rattle.std.specs.Result.{result_err, result_ok}
use Rattle.std.specs.Option.{option_map_or}
use Rattle.ff_headers.specs.SelectorParts.{SelectorParts}
use Rattle.ff_headers.specs.Shapes.{shape_fault, shaped}
use Rattle.ff_headers.specs.Objects.{FlowObjects, object_under}
use Rattle.ff_headers.specs.Changes.{is_sound}
use Rattle.ff_headers.specs.declared.limits.Limits.{Limits}
use Rattle.ff_headers.specs.declared.change.Change.{Change}
use Rattle.ff_headers.specs.declared.error.ShapeErr.{ShapeErr}
use Rattle.admin_wire.specs.declared.command.Command.{Command}
use Rattle.admin_wire.specs.declared.command.Command.TheVariants.{Create, Modify}
use Rattle.admin_wire.specs.declared.command.ObjData.TheVariants.{Rule}
use Rattle.admin_wire.specs.declared.command.ObjHead.{ObjHead}
use Rattle.admin_wire.specs.declared.command.RawRule.{RawRule}
use Rattle.cap_table.specs.Caps.{CapsParts, DriverParts, AtMost}
use Rattle.cap_table.specs.Statuses.{already_there, no_space, no_object}
use Rattle.cap_table.specs.Verdicts.{Row, first_verdict, ok_unless, unless_refused, command_rows, rule_rows, rule_faults}
use Rattle.cap_table.specs.Answers.{change_of}
use Rattle.cap_table.specs.declared.verdict.Verdict.{Verdict}
use Rattle.cap_table.proofs.AcceptedChanges.{accepted_change}
use Rattle.cap_table.proofs.EveryAnswer.{command_refused}
use Rattle.cap_table.proofs.RowLemmas.{none_holds}

module _ {X : Type 0} (rows : List Row) (asked : X) (result : Result X Verdict)
    (is : result ≡ unless_refused rows asked) where
  -- the answer is refused as the rows say
  pub refuses : result_err result ≡ first_verdict rows
  refuses = ap result_err is ∙ by_verdict (first_verdict rows) where
    by_verdict : (verdict : Option Verdict) → result_err (ok_unless verdict asked) ≡ verdict
    by_verdict None = refl
    by_verdict (Some verdict) = refl

  -- and is else what was asked for
  pub puts : (put : Option X) → put ≡ Some asked → IfOk result (λ change. put ≡ Some change)
  puts put e =
      subst (λ (r : Result X Verdict). IfOk r (λ change. put ≡ Some change)) (sym is)
      (by_verdict (first_verdict rows)) where
        by_verdict : (verdict : Option Verdict)
            → IfOk (ok_unless verdict asked) (λ change. put ≡ Some change)
        by_verdict None = e
        by_verdict (Some verdict) = tt

-- a list of good shape, or none
pub shaped_or_none : (list : List SelectorParts)
    → result_ok (shaped list) ≡ cond (is_some (shape_fault list)) None (Some list)
unfolding shaped
shaped_or_none list = by_fault (shape_fault list) where
  by_fault : (fault : Option ShapeErr)
      → result_ok (option_map_or (λ f. Err f) fault (Ok list)) ≡ cond (is_some fault) None (Some list)
  by_fault None = refl
  by_fault (Some fault) = refl

module _ (caps : CapsParts) (driver : DriverParts) (objects : FlowObjects) where
  module _ (head : ObjHead) (rule : RawRule) (no_flags : head.flags ≡ 0) where
    flagless : not (eqb head.flags 0) ≡ false
    flagless = ap (λ n. not (eqb n 0)) no_flags

    abbrev pub content : List Row
    content = rule_rows (rule_faults caps driver objects head.id rule)

    -- what is asked of a rule that is to be new
    abbrev pub asked_if_new : List Row
    asked_if_new =
        (is_some (object_under objects.rules head.id), already_there)
        ∷ (nat_le driver.limits.rules (length objects.rules), no_space)
        ∷ []

    -- and of one that is to be held
    abbrev pub asked_if_held : List Row
    asked_if_held = (not (is_some (object_under objects.rules head.id)), no_object) ∷ []

    -- the rows of a create of a rule that may be new are those of its content
    pub new_rule : first_verdict asked_if_new ≡ None
        → first_verdict content ≡ first_verdict (command_rows caps driver objects (Create head (Rule rule)))
    new_rule new = let none = none_holds asked_if_new new in rw (flagless, none.0, none.1.0) refl

    -- so are those of a modify of a rule that is held
    pub held_rule : first_verdict asked_if_held ≡ None
        → first_verdict content ≡ first_verdict (command_rows caps driver objects (Modify head (Rule rule)))
    held_rule held = let none = none_holds asked_if_held held in rw (flagless, none.0) refl

  module _ (command : Command) (result : Result Change Verdict)
      (refused : result_err result ≡ first_verdict (command_rows caps driver objects command)) where
    abbrev Refused : Result Change Verdict → Type 0
    Refused r = result_err r ≡ first_verdict (command_rows caps driver objects command)

    abbrev Puts : Result Change Verdict → Type 0
    Puts r = IfOk r (λ change. change_of command ≡ Some change)

    -- a change that isn't refused is sound
    pub check_sound : (limits : Limits) → limits ≡ caps.limits → AtMost driver.limits caps.limits → Puts result
        → IfOk result (λ change. is_sound limits objects change ≡ true)
    check_sound limits same at_most put = by_result result refused put where
      by_result : (r : Result Change Verdict) → Refused r → Puts r
          → IfOk r (λ change. is_sound limits objects change ≡ true)
      by_result (Err verdict) none is = tt
      by_result (Ok change) none is =
          let sound = accepted_change caps driver objects at_most command (sym none) change is in
          subst (λ (l : Limits). is_sound l objects change ≡ true) (sym same) sound.sound

    -- a refusal has another status than 0
    pub check_refuses : IfErr result (λ verdict. verdict.status ≢ 0)
    check_refuses = by_result result refused where
      by_result : (r : Result Change Verdict) → Refused r → IfErr r (λ verdict. verdict.status ≢ 0)
      by_result (Ok change) none = tt
      by_result (Err verdict) is =
          let refusal = command_refused caps driver objects command verdict (sym is) in refusal.nonzero
